-- Where a node of a cluster stands after inputs, and what a step leads to.
use Rattle.std.proofs.Common.{◌≡◌, ℕ, ◌<◌, ◌≤◌, ◌^◌, Bool, true, false, List, [], ◌∷◌, ◌++◌, Some, None, refl, sym, ap, subst, ◌∙◌, inl, inr, arith}
use Rattle.std.specs.Prelude.{if◌then◌else◌}
use Rattle.mc_model.specs.message.Ids.{IsIncarnation}
use Rattle.mc_model.specs.message.Submission.{Submission}
use Rattle.mc_model.specs.synod.Lists.{In}
use Rattle.mc_model.specs.synod.Packet.{Packet, Prepare, Propose, Slot}
use Rattle.mc_model.specs.node.Input.{Crash, Delivery, Grant, Input, Response, Restart}
use Rattle.mc_model.specs.node.Outcome.{IsOutcome, Outcome}
use Rattle.mc_model.specs.node.Outputs.{Reply}
use Rattle.mc_model.specs.node.Setup.{Setup}
use Rattle.mc_model.specs.cluster.Steps.{Cluster, setup_of}
use Rattle.mc_parts.proofs.Membership.{in_either}
use Rattle.mc_laws.proofs.invariant.Growth.{changed_cases, changed_here}
use Rattle.node_model.specs.Attempts.{grant_refusal}
use Rattle.node_model.specs.Granted.{is_open, known_slot}
use Rattle.node_model.specs.Kept.{Held, Kept}
use Rattle.node_model.specs.Outputs.{Stepped, leaves}
use Rattle.node_model.specs.Packets.{is_member}
use Rattle.node_model.specs.Requests.{id_of}
use Rattle.node_model.specs.Stepped.{restarted, saved_by, sender_of, stepped, stepped_down, stepped_up, stopped}
use Rattle.node_laws.specs.Clusters.{MayHappen, NodeInput, WasSentBefore, kept_reached}
use Rattle.node_laws.specs.Runs.{IsOneOf, IsUpFor, MayCome}
use Rattle.node_laws.proofs.cluster.Clustered.{clustered}
use Rattle.node_laws.proofs.invariant.Orders.{in_append, reverse_in}
use Rattle.desk.specs.declared.request.Request.{Request}
use Rattle.arrival_laws.proofs.Asking.{request_comes}
use Rattle.arrival_laws.proofs.Attempts.{grant_comes, outcome_comes}
use Rattle.arrival_laws.proofs.Comings.{ComesAbout, IsPlain}
use Rattle.script_text.specs.Node.{Node, awaiting, request_at, step_at, tick_at, with_step}
use Rattle.arrival_laws.proofs.Answering.{IsAsked}
use Rattle.arrival_laws.proofs.Stepping.{GoesOn, goes_on, up_for}
use Rattle.world_fates.proofs.node.WellMade.{well_made}
use Rattle.world_fates.proofs.node.Behind.{came_to, input_to}
use Rattle.world_fates.proofs.node.Clear.{ComesClear, IsClear, IsClearRequest, requested_clear}
use Rattle.world_fates.proofs.node.Submitted.{WasSubmitted}
use Rattle.world_fates.proofs.node.ReceiptsOut.{AreReceiptsOut}
use Rattle.world_fates.proofs.node.StepsOut.{step_now, step_receipts_out}

-- ---- clusters that are fit

-- its serials are numbers from 1 on, and of the requests that wait the ids are short numbers
pub record IsSteady (k : Kept) : Type 0 where
  pub begun : 1 ≤ k.serial
  pub small : (h : Held) → In h k.held → id_of h < 2 ^ 64

-- the inputs may come, and the nodes are steady then; and what was submitted has clear texts
pub record IsFit (cluster : Cluster) (past : List NodeInput) : Type 0 where
  pub may : MayHappen cluster past
  pub first : (node : ℕ) → 1 ≤ cluster.serials node
  pub steady : (node : ℕ) → IsSteady ((kept_reached cluster past).kept node)
  pub clear : (message : Submission) → WasSubmitted past message → IsClear message

pub opened_fit : (cluster : Cluster) → ((node : ℕ) → 1 ≤ cluster.serials node) → IsFit cluster []
opened_fit cluster first = record {
  may = tt;
  first = first;
  steady = λ node. record { begun = first node; small = λ h among. absurd among };
  clear = λ message came. absurd came.among;
}

abbrev pub WereSent : Cluster → List NodeInput → List Packet → Type 0
WereSent cluster past packets = (packet : Packet) → In packet packets → In packet (kept_reached cluster past).packets

-- ---- a node of a cluster

pub record Member : Type 0 where
  pub cluster : Cluster
  pub number : ℕ
  pub one_of : IsOneOf (setup_of cluster number)

abbrev pub node_at : Member → List NodeInput → List Packet → Node
node_at member past packets = record {
  setup = setup_of member.cluster member.number;
  kept = (kept_reached member.cluster past).kept member.number;
  packets = packets;
}

-- the ids of the replies are short numbers
abbrev pub AreSmall : Stepped → Type 0
AreSmall step = (reply : Reply) → In reply step.outputs.replies → reply.id < 2 ^ 64

-- a node of a script is where a node of the cluster is after inputs, and up or not; what it holds for others was sent
pub record IsAt (member : Member) (past : List NodeInput) (up : Bool) (node : Node) : Type 0 where
  pub is : node ≡ node_at member past node.packets
  pub sent : WereSent member.cluster past node.packets
  pub up_is : node.kept.up ≡ up

-- inputs lead there
pub record Leads (member : Member) (past : List NodeInput) (inputs : List Input) (up : Bool) (last : Node) : Type 0 where
  pub later : List NodeInput
  pub later_is : later ≡ came_to member.number inputs past
  pub fit : IsFit member.cluster later
  pub at : IsAt member later up last

abbrev pub leads_still : (member : Member) (past : List NodeInput) (up : Bool) (node : Node) → IsFit member.cluster past → IsAt member past up node →
    Leads member past [] up node
leads_still member past up node fit at = record { later = past; later_is = refl; fit = fit; at = at }

-- a step leads there, which may happen, and its receipts are given out
pub record StepsTo (member : Member) (past : List NodeInput) (input : Input) (step : Stepped) (up : Bool) (last : Node) : Type 0 where
  pub happens : MayHappen member.cluster (input_to member.number input ∷ past)
  pub step_is : step ≡ step_now member.cluster (input_to member.number input) past
  pub leads : Leads member past (input ∷ []) up last
  pub small : AreSmall step
  pub receipts : AreReceiptsOut member.cluster member.number leads.later step.outputs.receipts

-- ---- one step

module _ (member : Member) (past : List NodeInput) (fit : IsFit member.cluster past) (input : Input) where
  abbrev own_setup : Setup
  own_setup = setup_of member.cluster member.number

  abbrev k : Kept
  k = (kept_reached member.cluster past).kept member.number

  abbrev step : Stepped
  step = stepped own_setup k input

  abbrev next : NodeInput
  next = input_to member.number input

  -- what was submitted then
  clear_then : ComesClear input → (message : Submission) → WasSubmitted (next ∷ past) message → IsClear message
  clear_then clear message came = elim came.among [
    | inl same ↦ clear came.id message (ap (λ (n : NodeInput). n.input) (sym same))
    | inr old ↦ fit.clear message (record { node = came.node; id = came.id; among = old })
  ]

  module _ (up : IsUpFor k input) (may : MayCome own_setup k input) (came : WasSentBefore (kept_reached member.cluster past).packets input)
      (clear : ComesClear input) where
    abbrev happens : MayHappen member.cluster (next ∷ past)
    happens = (member.one_of, up, may, came, fit.may)

    then_is : (kept_reached member.cluster (next ∷ past)).kept member.number ≡ step.kept
    then_is = changed_here (kept_reached member.cluster past).kept member.number step.kept

    steady_then : IsSteady step.kept → (node : ℕ) → IsSteady ((kept_reached member.cluster (next ∷ past)).kept node)
    steady_then steady node = elim (changed_cases (kept_reached member.cluster past).kept member.number step.kept node) [
      | inl here ↦ subst IsSteady (sym here.1) steady
      | inr elsewhere ↦ subst IsSteady (sym elsewhere) (fit.steady node)
    ]

    step_from : (rest : List Packet) → WereSent member.cluster past rest → IsSteady step.kept → AreSmall step → (up_then : Bool) → step.kept.up ≡ up_then →
        StepsTo member past input step up_then (record { setup = own_setup; kept = step.kept; packets = rest ++ step.outputs.packets })
    step_from rest sent steady small up_then up_is = record {
      happens = happens;
      step_is = refl;
      leads = record {
        later = next ∷ past;
        later_is = refl;
        fit = record { may = happens; first = fit.first; steady = steady_then steady; clear = clear_then clear };
        at = record {
          is = λ i. record { setup = own_setup; kept = sym then_is i; packets = rest ++ step.outputs.packets };
          sent = λ packet among. in_append packet _ _ (elim (in_either packet rest step.outputs.packets among) [
            | inl old ↦ inr (sent packet old)
            | inr new ↦ inl (reverse_in packet step.outputs.packets new)
          ]);
          up_is = up_is;
        };
      };
      small = small;
      receipts = step_receipts_out member.cluster next past happens;
    }

  -- ---- of what is no restart and no crash

  module _ (plain : IsPlain input) (up : k.up ≡ true) (may : MayCome own_setup k input) (came : WasSentBefore (kept_reached member.cluster past).packets input)
      (small : (id : ℕ) → ComesAbout input id → id < 2 ^ 64) (clear : ComesClear input) where
    goes : GoesOn k input step
    goes = goes_on own_setup k input up plain

    asked_small : (id : ℕ) → IsAsked k.held id → id < 2 ^ 64
    asked_small id asked = subst (λ (i : ℕ). i < 2 ^ 64) asked.about ((fit.steady member.number).small asked.request asked.among)

    steady : IsSteady step.kept
    steady = record {
      begun = let least = (fit.steady member.number).begun in let most = goes.serial in omega (arith, least, most);
      small = λ h among. elim (goes.held h among) [ inl old ↦ asked_small (id_of h) old | inr about ↦ small (id_of h) about ];
    }

    plain_from : (rest : List Packet) → WereSent member.cluster past rest →
        StepsTo member past input step true (record { setup = own_setup; kept = step.kept; packets = rest ++ step.outputs.packets })
    plain_from rest sent =
        step_from ((up_for k input plain).1 up) may came clear rest sent steady (λ reply among. asked_small reply.id (goes.replies reply among)) true
        (goes.up ∙ up)

-- a step of a node of a script, from what is said of it
plain_steps : (member : Member) (past : List NodeInput) → IsFit member.cluster past → (node : Node) → IsAt member past true node →
    (input : Input) → IsPlain input → MayCome node.setup node.kept input →
    WasSentBefore (kept_reached member.cluster past).packets input → ((id : ℕ) → ComesAbout input id → id < 2 ^ 64) → ComesClear input →
    StepsTo member past input (step_at node input) true (with_step node (step_at node input))
plain_steps member past fit node at input plain may came small clear =
    subst (λ (n : Node). StepsTo member past input (step_at n input) true (with_step (awaiting n node.packets) (step_at n input))) (sym at.is)
    (plain_from member past fit input plain
    (ap (λ (n : Node). n.kept.up) (sym at.is) ∙ at.up_is)
    (subst (λ (n : Node). MayCome n.setup n.kept input) at.is may) came small clear node.packets at.sent)

-- ---- requests, ticks, attempts and packets

module _ (member : Member) (past : List NodeInput) (fit : IsFit member.cluster past) (node : Node) (at : IsAt member past true node) where
  lives : IsIncarnation node.kept.incarnation
  lives =
      let stands = (clustered member.cluster past fit.may).stands member.number in
      subst (λ (n : Node). IsIncarnation n.kept.incarnation) (sym at.is) (subst IsIncarnation (sym stands.agrees.incarnation) stands.agrees.coherent.life)

  pub request_steps : (account : List ℕ) (request : Request) → IsClearRequest (Some request) →
      StepsTo member past (request_at node account request) (step_at node (request_at node account request)) true
      (with_step node (step_at node (request_at node account request)))
  request_steps account request clear =
      let number : node.setup.node ≡ member.number = ap (λ (n : Node). n.setup.node) at.is in
      let least = member.one_of.least in
      let most = member.one_of.most in
      let few = member.one_of.few in
      let begun = subst (λ (n : Node). 1 ≤ n.kept.serial) (sym at.is) (fit.steady member.number).begun in
      let comes = request_comes node.setup node.kept
      (record { least = omega (arith, number, least); most = omega (arith, number, most, few) }) lives begun account request in
      plain_steps member past fit node at (request_at node account request) comes.plain comes.may
      (comes.unsent (kept_reached member.cluster past).packets) comes.small (requested_clear node.setup node.kept account request clear)

  pub tick_steps : (moment : ℕ) (up : List (List ℕ)) →
      StepsTo member past (tick_at moment up) (step_at node (tick_at moment up)) true (with_step node (step_at node (tick_at moment up)))
  tick_steps moment up =
      plain_steps member past fit node at (tick_at moment up) tt tt tt (λ id about. absurd about) (λ id message is. absurd cc)

  -- a grant that is not refused
  pub grant_steps : (id : ℕ) → grant_refusal node.setup node.kept id ≡ None →
      StepsTo member past (Grant (known_slot node.kept id)) (step_at node (Grant (known_slot node.kept id))) true
      (with_step node (step_at node (Grant (known_slot node.kept id))))
  grant_steps id free =
      plain_steps member past fit node at (Grant (known_slot node.kept id)) tt (grant_comes node.setup node.kept id free) tt
      (λ other about. absurd about) (λ other message is. absurd cc)

  -- the outcome of an attempt that is open
  pub response_steps : (slot : Slot) (outcome : Outcome) → IsOutcome outcome → is_open node.kept slot ≡ true →
      StepsTo member past (Response slot outcome) (step_at node (Response slot outcome)) true (with_step node (step_at node (Response slot outcome)))
  response_steps slot outcome possible there =
      plain_steps member past fit node at (Response slot outcome) tt (outcome_comes node.kept slot outcome possible there) tt
      (λ id about. absurd about) (λ id message is. absurd cc)

  -- a packet that was sent
  pub delivery_steps : (packet : Packet) → In packet (kept_reached member.cluster past).packets →
      StepsTo member past (Delivery packet) (step_at node (Delivery packet)) true (with_step node (step_at node (Delivery packet)))
  delivery_steps packet sent =
      plain_steps member past fit node at (Delivery packet) tt
      (well_made member.cluster past (clustered member.cluster past fit.may) packet sent) sent (λ id about. absurd about) (λ id message is. absurd cc)

-- ---- a stop, and a start

-- a node that stops keeps its serial and what waits
record IsStopped (before after : Kept) : Type 0 where
  up : after.up ≡ false
  serial : after.serial ≡ before.serial
  held : after.held ≡ before.held

crash_stops : (setup : Setup) (k : Kept) (packet : Packet) (after : Bool) → IsStopped k (stopped setup k packet after)
crash_stops setup k packet false = record { up = refl; serial = refl; held = refl }
crash_stops setup k packet true = by_member (is_member setup (sender_of packet))
  where
    saves : (p : Packet) → IsStopped k (record (saved_by setup k p) { up = false })
    saves (Prepare sender slot ballot) = record { up = refl; serial = refl; held = refl }
    saves (Propose sender slot vote) = record { up = refl; serial = refl; held = refl }
    saves other = record { up = refl; serial = refl; held = refl }

    by_member : (member : Bool) → IsStopped k (if member then record (saved_by setup k packet) { up = false } else record k { up = false })
    by_member true = saves packet
    by_member false = record { up = refl; serial = refl; held = refl }

stopped_steady : (before after : Kept) → IsStopped before after → IsSteady before → IsSteady after
stopped_steady before after stops steady = record {
  begun = subst (λ (serial : ℕ). 1 ≤ serial) (sym stops.serial) steady.begun;
  small = λ h among. steady.small h (subst (In h) stops.held among);
}

pub crash_steps : (member : Member) (past : List NodeInput) → IsFit member.cluster past → (node : Node) → IsAt member past true node →
    (packet : Packet) (after : Bool) → In packet (kept_reached member.cluster past).packets →
    Leads member past (Crash packet after ∷ []) false (with_step node (step_at node (Crash packet after)))
crash_steps member past fit node at packet after sent =
    subst (λ (n : Node). Leads member past (Crash packet after ∷ []) false (with_step (awaiting n node.packets) (step_at n (Crash packet after)))) (sym at.is)
    (step_from member past fit input up (well_made member.cluster past (clustered member.cluster past fit.may) packet sent) sent
    (λ id message same. absurd cc) node.packets at.sent
    (subst (λ (step : Stepped). IsSteady step.kept) is (stopped_steady kept (stopped setup kept packet after) stops (fit.steady member.number)))
    (subst AreSmall is (λ reply among. absurd among))
    false (ap (λ (step : Stepped). step.kept.up) (sym is) ∙ stops.up)).leads
  where
    setup : Setup
    setup = setup_of member.cluster member.number

    kept : Kept
    kept = (kept_reached member.cluster past).kept member.number

    input : Input
    input = Crash packet after

    up : kept.up ≡ true
    up = ap (λ (n : Node). n.kept.up) (sym at.is) ∙ at.up_is

    stops : IsStopped kept (stopped setup kept packet after)
    stops = crash_stops setup kept packet after

    is : leaves (stopped setup kept packet after) ≡ stepped setup kept input
    is = ap (λ (test : Bool). if test then stepped_up setup kept input else stepped_down setup kept input) (sym up)

restart_is : (setup : Setup) (k : Kept) → stepped setup k (Restart 0) ≡ leaves (restarted setup k 0)
restart_is setup k = by_test k.up
  where
    by_test : (up : Bool) → (if up then leaves (restarted setup k 0) else leaves (restarted setup k 0)) ≡ leaves (restarted setup k 0)
    by_test true = refl
    by_test false = refl

pub restart_steps : (member : Member) (past : List NodeInput) → IsFit member.cluster past → (node : Node) (up : Bool) → IsAt member past up node →
    node.kept.incarnation < 9999 →
    Leads member past (Restart 0 ∷ []) true (with_step node (step_at node (Restart 0)))
restart_steps member past fit node up at left =
    subst (λ (n : Node). Leads member past (Restart 0 ∷ []) true (with_step (awaiting n node.packets) (step_at n (Restart 0)))) (sym at.is)
    (step_from member past fit (Restart 0) tt (omega (arith, lost)) tt (λ id message same. absurd cc) node.packets at.sent
    (subst (λ (step : Stepped). IsSteady step.kept) is (record { begun = fit.first member.number; small = λ h among. absurd among }))
    (subst AreSmall is (λ reply among. absurd among))
    true (ap (λ (step : Stepped). step.kept.up) (sym is))).leads
  where
    setup : Setup
    setup = setup_of member.cluster member.number

    kept : Kept
    kept = (kept_reached member.cluster past).kept member.number

    lost : kept.incarnation < 9999
    lost = subst (λ (n : Node). n.kept.incarnation < 9999) at.is left

    is : leaves (restarted setup kept 0) ≡ stepped setup kept (Restart 0)
    is = sym (restart_is setup kept)
