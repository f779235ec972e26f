-- No line grants an attempt of a message whose fate was printed.
use Rattle.std.proofs.Common.{◌≡◌, ◌≢◌, ℕ, ◌≤◌, Bool, true, false, List, [], ◌∷◌, length, Option, Some, None, refl, sym, ◌∙◌, ap, subst, inl, inr}
use Rattle.std.specs.Prelude.{if◌then◌else◌}
use Rattle.std.specs.Fmt.{decimal}
use Rattle.std.proofs.lemmas.Fmt.{decimal_injective}
use Rattle.mc_model.specs.message.Decree.{Final}
use Rattle.mc_model.specs.message.Ids.{IsId, node_of}
use Rattle.mc_model.specs.synod.Lists.{In}
use Rattle.mc_model.specs.synod.Packet.{Slot}
use Rattle.mc_model.specs.node.Grant.{GrantRefusal, refusal_number}
use Rattle.mc_model.specs.node.Input.{Grant as Grants}
use Rattle.mc_model.specs.node.Setup.{Setup}
use Rattle.mc_model.specs.cluster.Steps.{Cluster, setup_of}
use Rattle.node_model.specs.Attempts.{grant_refusal}
use Rattle.node_model.specs.Granted.{known_slot}
use Rattle.node_model.specs.Kept.{Kept}
use Rattle.node_model.specs.Stepped.{stepped_down, stepped_up}
use Rattle.node_laws.specs.Clusters.{MayHappen, NodeInput, cluster_outputs, kept_reached}
use Rattle.node_laws.specs.Runs.{IsOneOf}
use Rattle.node_laws.proofs.cluster.NoGrant.{no_grant}
use Rattle.pdu_bodies.specs.declared.pdu.Pdu.{Pdu}
use Rattle.script_lines.specs.Said.{Grant, said_within}
use Rattle.script_lines.proofs.SaidLemmas.{spells_within}
use Rattle.script_text.specs.Laws.{StatesFate}
use Rattle.script_text.specs.Prints.{Delivers, Print, Ungranted}
use Rattle.script_text.specs.Runner.{Runner, granted_unless, on_grant}
use Rattle.script_text.specs.Settings.{Settings}
use Rattle.script_text.specs.Prints.{At, Refuses, WorldPrint}
use Rattle.script_text.specs.Script.{Joins, Stage, Stepped, nodes_of, step_by, step_of, stepped}
use Rattle.script_text.specs.World.{Moved, World, grants, is_down, is_up, refuses, runner_at, shared, up_or_refuses, no_node}
use Rattle.world_fates.proofs.node.Behind.{behind, happened_before, input_to}
use Rattle.world_fates.proofs.node.Reports.{named_small}
use Rattle.world_fates.proofs.node.Standing.{IsAt, grant_steps}
use Rattle.world_fates.proofs.node.StepsOut.{step_now}
use Rattle.world_fates.specs.Laws.{GrantsNothing}
use Rattle.world_fates.proofs.Worlds.{WorldStands, member_of, one_of_many}
use Rattle.world_fates.proofs.Printing.{JoinsSo, StageSo, first_so, joined_so}
use Rattle.world_fates.proofs.Given.{GivenFrom, KnowsFate, WasGivenOut, given_takes, given_telling, given_then_so, known_later}

-- no attempt of a message is granted once a final state of it was given out
never_granted : (cluster : Cluster) (there : ℕ) (slot : Slot) (past : List NodeInput) → MayHappen cluster (input_to there (Grants slot) ∷ past) →
    (final : Final) → WasGivenOut cluster past slot.id final → ⊥
never_granted cluster there slot past may final given =
    no_grant cluster (next ∷ past) may given.outputs (step_now cluster next past).outputs slot.id final
    (record { newer = []; older = cluster_outputs cluster past; split = refl; before = given.among })
    given.states
    (record { slot = slot; granted = granted; about = refl })
  where
    next : NodeInput
    next = input_to there (Grants slot)

    setup : Setup
    setup = setup_of cluster there

    kept : Kept
    kept = (kept_reached cluster past).kept there

    granted : (step_now cluster next past).outputs.granted ≡ Some slot
    granted =
        ap (λ (up : Bool). (if up then stepped_up setup kept (Grants slot) else stepped_down setup kept (Grants slot)).outputs.granted)
        may.1

-- ---- later lines

-- where an input came, and what was given out before
record IsAmong (cluster : Cluster) (past : List NodeInput) (next : NodeInput) : Type 0 where
  older : List NodeInput
  may : MayHappen cluster (next ∷ older)
  given : (id : ℕ) (final : Final) → WasGivenOut cluster past id final → WasGivenOut cluster older id final

given_before : (cluster : Cluster) (first : NodeInput) (past : List NodeInput) (id : ℕ) (final : Final) → WasGivenOut cluster past id final →
    WasGivenOut cluster (first ∷ past) id final
given_before cluster first past id final given = record { outputs = given.outputs; among = inr given.among; states = given.states }

is_among : (cluster : Cluster) (inputs past : List NodeInput) → MayHappen cluster (behind inputs past) → (next : NodeInput) → In next inputs →
    IsAmong cluster past next
is_among cluster [] past may next among = absurd among
is_among cluster (first ∷ inputs) past may next (inl same) = record {
  older = past;
  may = subst (λ (input : NodeInput). MayHappen cluster (input ∷ past)) (sym same) (happened_before cluster inputs (first ∷ past) may);
  given = λ id final given. given;
}
is_among cluster (first ∷ inputs) past may next (inr later) =
    let it = is_among cluster inputs (first ∷ past) may next later in
    record { older = it.older; may = it.may; given = λ id final given. it.given id final (given_before cluster first past id final given) }

stage_grants_none : (settings : Settings) (later : List (List ℕ)) (came coming : List NodeInput) (prints others : List WorldPrint) (middle last : Stage)
    (here there : ℕ) (first : Print) (message_id : List ℕ) (state : ℕ) (slot : Slot) → StageSo settings GivenFrom given_telling given_takes middle came prints →
    Joins settings middle later coming others last → In (At here first) prints → StatesFate first message_id state →
    In (record { node = there; input = Grants slot }) coming → IsId slot.id → decimal slot.id ≢ message_id
stage_grants_none settings later came coming prints others None last here there first message_id state slot none joins first_in states among is_id same =
    subst (In (At here first)) none first_in
stage_grants_none settings later came coming prints others (Some world) last here there first message_id state slot so joins first_in states among is_id same =
    let knows = given_then_so settings came world prints so here first first_in message_id state states in
    let rest : JoinsSo so.cluster (GivenFrom so.cluster) so.past coming others last =
    joined_so settings so.cluster (GivenFrom so.cluster) (given_telling so.cluster) (given_takes so.cluster) later so.past
    world so.stands coming others last joins in
    let it = is_among so.cluster coming so.past (subst (MayHappen so.cluster) rest.later_is rest.stands.fit.may)
    (input_to there (Grants slot)) among in
    let ids : knows.id ≡ slot.id =
    decimal_injective knows.id slot.id knows.small (named_small slot.id is_id.node.most) (knows.message ∙ sym same) in
    never_granted so.cluster there slot it.older it.may knows.final
    (it.given slot.id knows.final (subst (λ (id : ℕ). WasGivenOut so.cluster so.past id knows.final) ids knows.given))

pub no_attempt_granted : (settings : Settings) (before later : List (List ℕ)) (came coming : List NodeInput) (prints others : List WorldPrint)
    (middle last : Stage) (here there : ℕ) (first : Print) (message_id : List ℕ) (state : ℕ) (slot : Slot) →
    Joins settings None before came prints middle → Joins settings middle later coming others last → In (At here first) prints →
    StatesFate first message_id state → In (record { node = there; input = Grants slot }) coming → IsId slot.id → decimal slot.id ≢ message_id
no_attempt_granted settings before later came coming prints others middle last here there first message_id state slot joins =
    stage_grants_none settings later came coming prints others middle last here there first message_id state slot
    (first_so settings GivenFrom given_telling given_takes before came prints middle joins)

-- ---- a line that asks for an attempt

-- it is so of what a world does
record MovesNothing (moved : Moved) : Type 0 where
  inputs : moved.inputs ≡ []
  prints : (node session : ℕ) (pdu : Pdu) → In (At node (Delivers session pdu)) moved.prints → ⊥

refusal_moves : (world : World) (number : ℕ) → MovesNothing (refuses world number)
refusal_moves world number = record { inputs = refl; prints = λ node session pdu among. no_print node session pdu among }
  where
    no_print : (node session : ℕ) (pdu : Pdu) → In (At node (Delivers session pdu)) (Refuses number ∷ []) → ⊥
    no_print node session pdu (inl same) = cc
    no_print node session pdu (inr none) = none

grants_nothing : (cluster : Cluster) (past : List NodeInput) (world : World) → WorldStands cluster past world → (there id : ℕ) → 1 ≤ there →
    (final : Final) → WasGivenOut cluster past id final → MovesNothing (grants world there id)
grants_nothing cluster past world stands there id least final given = by_runner (runner_at world there) refl
  where
    ungranted : (number node session : ℕ) (pdu : Pdu) → In (At node (Delivers session pdu)) (At there (Ungranted number) ∷ []) → ⊥
    ungranted number node session pdu (inl same) = cc
    ungranted number node session pdu (inr none) = none

    by_refusal : (runner : Runner) (one_of : IsOneOf (setup_of cluster there)) → IsAt (member_of cluster there one_of) past true runner.node →
        (refusal : Option GrantRefusal) → grant_refusal runner.node.setup runner.node.kept id ≡ refusal →
        MovesNothing (shared world there (granted_unless runner id (known_slot runner.node.kept id) refusal))
    by_refusal runner one_of at (Some refusal) is = record { inputs = refl; prints = ungranted (refusal_number refusal) }
    by_refusal runner one_of at None is =
        absurd (never_granted cluster there (known_slot runner.node.kept id) past
        (grant_steps (member_of cluster there one_of) past stands.fit runner.node at id is).happens final given)

    by_test : (runner : Runner) → runner_at world there ≡ Some runner → (up : Bool) → is_up runner ≡ up →
        MovesNothing (if up then shared world there (granted_unless runner id (known_slot runner.node.kept id)
        (grant_refusal runner.node.setup runner.node.kept id)) else refuses world is_down)
    by_test runner is true up_is =
        let one_of = one_of_many cluster past world stands there runner least is in
        let at = (stands.each there one_of runner is).at in
        by_refusal runner one_of (record { is = at.is; sent = at.sent; up_is = up_is }) (grant_refusal runner.node.setup runner.node.kept id) refl
    by_test runner is false up_is = refusal_moves world is_down

    by_runner : (found : Option Runner) → runner_at world there ≡ found →
        MovesNothing (up_or_refuses world (λ runner. shared world there (on_grant runner id)) found)
    by_runner None is = refusal_moves world no_node
    by_runner (Some runner) is = by_test runner is (is_up runner) refl

-- what a line grants from where a world stands
line_grants : (settings : Settings) (cluster : Cluster) (past : List NodeInput) (world : World) → WorldStands cluster past world →
    (line : List ℕ) (done : Stepped) (there id state : ℕ) → said_within (length world.runners) line ≡ Some (Grant there id) →
    step_of settings (Some world) line ≡ Some done →
    KnowsFate cluster past (decimal id) state → GrantsNothing done
unfolding step_of
line_grants settings cluster past world stands line done there id state says is knows =
    subst GrantsNothing (done_is (ap (step_by settings (Some world)) (sym says) ∙ is)) (record { inputs = moves.inputs; prints = moves.prints })
  where
    wording : (1 ≤ there) × (node_of id ≤ 9)
    wording = let it = (spells_within (length world.runners) line (Grant there id) says).wording in (it.0.least, it.1.node.most)

    same : knows.id ≡ id
    same = decimal_injective knows.id id knows.small (named_small id wording.1) knows.message

    moves : MovesNothing (grants world there id)
    moves = grants_nothing cluster past world stands there id wording.0 knows.final
        (subst (λ (i : ℕ). WasGivenOut cluster past i knows.final) same knows.given)

    done_is : stepped (grants world there id) ≡ Some done →
        record { next = Some (grants world there id).next; inputs = (grants world there id).inputs; prints = (grants world there id).prints } ≡ done
    done_is stepped_is = cc

pub stage_grants : (settings : Settings) (later : List (List ℕ)) (came coming : List NodeInput) (prints others : List WorldPrint) (middle last : Stage)
    (line : List ℕ) (done : Stepped) (here there id : ℕ) (first : Print) (state : ℕ) → StageSo settings GivenFrom given_telling given_takes middle came prints →
    Joins settings middle later coming others last → In (At here first) prints → StatesFate first (decimal id) state →
    said_within (nodes_of last) line ≡ Some (Grant there id) → step_of settings last line ≡ Some done → GrantsNothing done
stage_grants settings later came coming prints others None last line done here there id first state none joins first_in states says is =
    absurd (subst (In (At here first)) none first_in)
stage_grants settings later came coming prints others (Some world) last line done here there id first state so joins first_in states says is =
    let knows = given_then_so settings came world prints so here first first_in (decimal id) state states in
    let rest : JoinsSo so.cluster (GivenFrom so.cluster) so.past coming others last =
    joined_so settings so.cluster (GivenFrom so.cluster) (given_telling so.cluster) (given_takes so.cluster) later so.past
    world so.stands coming others last joins in
    let now = subst (λ (past : List NodeInput). KnowsFate so.cluster past (decimal id) state) (sym rest.later_is)
    (known_later so.cluster coming so.past (decimal id) state knows) in
    line_grants settings so.cluster rest.later rest.world rest.stands line done there id state
    (subst (λ (stage : Stage). said_within (nodes_of stage) line ≡ Some (Grant there id)) rest.stage_is says)
    (subst (λ (stage : Stage). step_of settings stage line ≡ Some done) rest.stage_is is)
    now

pub attempts_refused : (settings : Settings) (before later : List (List ℕ)) (came coming : List NodeInput) (prints others : List WorldPrint)
    (middle last : Stage) (line : List ℕ) (done : Stepped) (here there id : ℕ) (first : Print) (state : ℕ) → Joins settings None before came prints middle →
    Joins settings middle later coming others last → In (At here first) prints → StatesFate first (decimal id) state →
    said_within (nodes_of last) line ≡ Some (Grant there id) → step_of settings last line ≡ Some done → GrantsNothing done
attempts_refused settings before later came coming prints others middle last line done here there id first state joins =
    stage_grants settings later came coming prints others middle last line done here there id first state
    (first_so settings GivenFrom given_telling given_takes before came prints middle joins)
