-- What is taken of a message came as a submit_sm.
use Rattle.std.proofs.Common.{◌≡◌, ℕ, true, false, List, [], ◌∷◌, ◌++◌, map, Option, Some, refl, sym, ◌∙◌, ap, subst, inl, inr}
use Rattle.mc_model.specs.message.Submission.{Submission}
use Rattle.mc_model.specs.message.Decree.{Attempt, Author, Decree, Failed, Fate, Told, Kind, Taken}
use Rattle.mc_model.specs.message.Chain.{attempts_in, home_in, taken_by, taken_in}
use Rattle.mc_model.specs.message.Neighbours.{MayFollow}
use Rattle.mc_model.specs.synod.Acceptor.{Records}
use Rattle.mc_model.specs.synod.Lists.{In}
use Rattle.mc_model.specs.synod.Packet.{Ask, Packet, Prepare, Promise, Propose, Refused, Tell, Voted, slot_of}
use Rattle.mc_model.specs.node.Act.{Act, Begins, Reports, Stops}
use Rattle.mc_model.specs.node.Actor.{Actor, Request, Submit}
use Rattle.mc_model.specs.node.Core.{AcceptorReplies, IsCore, IsSaved}
use Rattle.mc_model.specs.node.Due.{AreDue, AreDueOnce}
use Rattle.mc_model.specs.node.Effect.{did, saved}
use Rattle.mc_model.specs.node.Input.{Arrival, Crash, Delivery, Grant, Input, Refusal, Response, Restart, Tick}
use Rattle.mc_model.specs.node.Knowledge.{IsKnown, Knows}
use Rattle.mc_model.specs.node.Outputs.{Outputs, Receipt, receipts_in}
use Rattle.mc_model.specs.node.Phases.{DueToAbandon, DueToAsk, DueToEnd}
use Rattle.mc_model.specs.node.Proposal.{IsOwn}
use Rattle.mc_model.specs.node.Setup.{Setup}
use Rattle.mc_model.specs.node.Step.{IsExact}
use Rattle.mc_model.specs.cluster.Fate.{TellsOf}
use Rattle.mc_model.specs.cluster.Steps.{AreSteps, Cluster, Step, acts_in, by_node, setup_of}
use Rattle.mc_model.specs.cluster.World.{Deed, IsChosenIn, IsRun, World, reached, start}
use Rattle.mc_parts.proofs.Membership.{in_either}
use Rattle.mc_laws.proofs.invariant.Agreement.{Chosen, known_chosen}
use Rattle.mc_laws.proofs.step.Behind.{steps_run}
use Rattle.mc_laws.proofs.invariant.Proposals.{AllProposed, chosen_good, good_after}
use Rattle.mc_laws.proofs.invariant.Growth.{nodes_same}
use Rattle.mc_laws.proofs.invariant.Reached.{Holds, holds}
use Rattle.mc_laws.proofs.step.Together.{alone}
use Rattle.node_model.specs.Kept.{message_at}
use Rattle.node_laws.specs.Clusters.{MayHappen, NodeInput, cluster_outputs, kept_reached}
use Rattle.node_laws.proofs.cluster.Clustered.{clustered}
use Rattle.node_laws.proofs.invariant.Orders.{in_mapped, in_reverse}
use Rattle.node_laws.proofs.cluster.Stated.{given_by, receipt_act}
use Rattle.world_fates.proofs.node.Behind.{after_holds, behind, input_to, world_after}

-- ---- a request begins only if it arrives

abbrev BeginsNone : List Act → Type 0
BeginsNone acts = (ticket : ℕ) (request : Request) → In (Begins ticket request) acts → ⊥

none_of_one : (act : Act) (acts : List Act) → ((ticket : ℕ) (request : Request) → Begins ticket request ≡ act → ⊥) → acts ≡ act ∷ [] → BeginsNone acts
none_of_one act acts apart is ticket request among =
    elim (subst (In (Begins ticket request)) is among) [ inl same ↦ apart ticket request same | inr none ↦ none ]

none_of_none : (acts : List Act) → acts ≡ [] → BeginsNone acts
none_of_none acts is ticket request among = subst (In (Begins ticket request)) is among

none_of_both : (front back : List Act) → BeginsNone front → BeginsNone back → BeginsNone (front ++ back)
none_of_both front back none also ticket request among =
    elim (in_either (Begins ticket request) front back among) [ inl early ↦ none ticket request early | inr later ↦ also ticket request later ]

none_behind : (first : Act) (older acts : List Act) → ((ticket : ℕ) (request : Request) → Begins ticket request ≡ first → ⊥) → BeginsNone older →
    acts ≡ first ∷ older → BeginsNone acts
none_behind first older acts apart none is ticket request among =
    elim (subst (In (Begins ticket request)) is among) [ inl same ↦ apart ticket request same | inr later ↦ none ticket request later ]

answer_begins : (records : Records) (packet : Packet) (acts : List Act) → AcceptorReplies records packet acts → BeginsNone acts
answer_begins records (Prepare sender slot ballot) acts (inl a) = none_of_one _ acts (λ ticket request same. cc) a.1
answer_begins records (Prepare sender slot ballot) acts (inr a) = none_of_one _ acts (λ ticket request same. cc) a.1
answer_begins records (Propose sender slot vote) acts (inl a) = none_of_one _ acts (λ ticket request same. cc) a.1
answer_begins records (Propose sender slot vote) acts (inr a) = none_of_one _ acts (λ ticket request same. cc) a.1
answer_begins records (Ask sender id name) acts a = none_of_one _ acts (λ ticket request same. cc) a.2
answer_begins records (Promise sender slot ballot report) acts a = none_of_none acts a
answer_begins records (Voted sender slot vote) acts a = none_of_none acts a
answer_begins records (Refused sender slot ballot promised) acts a = none_of_none acts a
answer_begins records (Tell sender name told) acts a = none_of_none acts a

saved_begins : (records : Records) (packet : Packet) (acts : List Act) → IsSaved records packet acts → BeginsNone acts
saved_begins records (Prepare sender slot ballot) acts (inl a) =
    none_behind _ _ acts (λ ticket request same. cc) (none_of_one _ _ (λ ticket request same. cc) refl) a.1
saved_begins records (Prepare sender slot ballot) acts (inr a) = none_of_none acts a.1
saved_begins records (Propose sender slot vote) acts (inl a) =
    none_behind _ _ acts (λ ticket request same. cc) (none_of_one _ _ (λ ticket request same. cc) refl) a.1
saved_begins records (Propose sender slot vote) acts (inr a) = none_of_none acts a.1
saved_begins records (Ask sender id name) acts a = none_of_none acts a
saved_begins records (Promise sender slot ballot report) acts a = none_of_none acts a
saved_begins records (Voted sender slot vote) acts a = none_of_none acts a
saved_begins records (Refused sender slot ballot promised) acts a = none_of_none acts a
saved_begins records (Tell sender name told) acts a = none_of_none acts a

-- what a core begins is the request of its input
core_begins : (setup : Setup) (a : Actor) (records : Records) (input : Input) (acts : List Act) → IsCore setup a records input acts →
    (ticket : ℕ) (request : Request) → In (Begins ticket request) acts → input ≡ Arrival request
core_begins setup a records (Delivery packet) acts (inl c) ticket request among =
    absurd (none_of_both c.1.answer _ (answer_begins records packet c.1.answer c.1.answered) (none_of_one _ _ (λ ticket request same. cc) refl) ticket request
    (subst (In (Begins ticket request)) c.1.acts_are among))
core_begins setup a records (Delivery packet) acts (inr c) ticket request among = absurd (none_of_none acts c.1 ticket request among)
core_begins setup a records (Crash packet false) acts c ticket request among =
    absurd (none_of_one Stops acts (λ ticket request same. cc) c ticket request among)
core_begins setup a records (Crash packet true) acts c ticket request among =
    absurd (none_behind Stops c.before acts (λ ticket request same. cc)
    (elim c.handled [ inl saves ↦ saved_begins records packet c.before saves.1 | inr ignores ↦ none_of_none c.before ignores.1 ])
    c.acts_are ticket request among)
core_begins setup a records (Arrival other) acts c ticket request among = elim (subst (In (Begins ticket request)) c among) [
  | inl same ↦ (let is : request ≡ other = cc in ap Arrival (sym is))
  | inr none ↦ absurd none
]
core_begins setup a records (Refusal status) acts c ticket request among = absurd (none_of_none acts c.1 ticket request among)
core_begins setup a records (Tick moment reach) acts c ticket request among = absurd (none_of_one _ acts (λ ticket request same. cc) c ticket request among)
core_begins setup a records (Grant slot) acts c ticket request among = absurd (none_of_one _ acts (λ ticket request same. cc) c ticket request among)
core_begins setup a records (Response slot outcome) acts c ticket request among =
    absurd (none_of_one _ acts (λ ticket request same. cc) c ticket request among)
core_begins setup a records (Restart lost) acts c ticket request among = absurd (none_of_one _ acts (λ ticket request same. cc) c ticket request among)

-- and nothing else that is due begins
due_begins : (Due : Act → Type 0) (acts : List Act) → ((ticket : ℕ) (request : Request) → Due (Begins ticket request) → ⊥) → AreDue Due acts → BeginsNone acts
due_begins Due acts none due ticket request among = none ticket request ((due.each (Begins ticket request)).0 among)

once_begins : (Due : Act → Type 0) (acts : List Act) → ((ticket : ℕ) (request : Request) → Due (Begins ticket request) → ⊥) → AreDueOnce Due acts →
    BeginsNone acts
once_begins Due acts none due ticket request among = none ticket request (due.only (Begins ticket request) among)

exact_begins : (setup : Setup) (a : Actor) (records : Records) (input : Input) (acts : List Act) → IsExact setup a records input acts →
    (ticket : ℕ) (request : Request) → In (Begins ticket request) acts → input ≡ Arrival request
exact_begins setup a records input acts e ticket request among =
    elim (in_either (Begins ticket request) _ e.core (subst (In (Begins ticket request)) e.acts_are among)) [
      | inl besides ↦ absurd (
          none_of_both _ e.settles (none_of_both _ e.late (none_of_both _ e.asks (none_of_both _ e.abandons (none_of_both _ e.prepares
          (none_of_both _ e.proposes (none_of_both e.reports e.replies
          (due_begins _ e.reports (λ t r none. none) e.reported)
          (due_begins _ e.replies (λ t r none. none) e.replied))
          (once_begins _ e.proposes (λ t r none. none) e.proposed))
          (once_begins _ e.prepares (λ t r none. none) e.prepared))
          (due_begins _ e.abandons (not_abandoned input setup.nodes setup.node (did setup.node a (e.late ++ e.settles ++ e.core))
          (saved records e.core)) e.abandoned))
          (due_begins _ e.asks (not_asked input setup.nodes setup.node a (did setup.node a (e.late ++ e.settles ++ e.core))) e.asked))
          (due_begins _ e.late (not_ended input (did setup.node a (e.settles ++ e.core))) e.ended))
          (due_begins _ e.settles (λ t r none. none) e.settled) ticket request besides)
      | inr own ↦ core_begins setup a records input e.core e.core_is ticket request own
    ]
  where
    not_ended : (input : Input) (a : Actor) (t : ℕ) (r : Request) → DueToEnd input a (Begins t r) → ⊥
    not_ended (Tick moment reach) a t r none = none
    not_ended input a t r none = none

    not_asked : (input : Input) (nodes node : ℕ) (before a : Actor) (t : ℕ) (r : Request) → DueToAsk nodes node before a input (Begins t r) → ⊥
    not_asked (Tick moment reach) nodes node before a t r none = none
    not_asked input nodes node before a t r none = none

    not_abandoned : (input : Input) (nodes node : ℕ) (a : Actor) (records : Records) (t : ℕ) (r : Request) →
        DueToAbandon nodes node a records input (Begins t r) → ⊥
    not_abandoned (Tick moment reach) nodes node a records t r none = none
    not_abandoned input nodes node a records t r none = none

-- ---- what is taken began

-- a submit_sm of this message began
pub record HasBegun (past : List Deed) (message : Submission) : Type 0 where
  pub deed : Deed
  pub ticket : ℕ
  pub id : ℕ
  pub among : In deed past
  pub begins : deed.act ≡ Begins ticket (Submit id message)

abbrev TakesBegun : World → ℕ → List Decree → Type 0
TakesBegun w id chain = (message : Submission) → taken_in chain ≡ Some message → HasBegun w.past message

some_same : (one other : Submission) → Some one ≡ Some other → one ≡ other
some_same one other is = cc

-- a decree that follows takes nothing
takes_as_before : (message : Submission) (home attempts : ℕ) (old : Author) (before : ℕ) (kind : Kind) (author : Author) (moment : ℕ) (next : Kind)
    (older : Option Submission) → MayFollow message home attempts old before kind author moment next → taken_by next older ≡ older
takes_as_before message home attempts old before (Taken m) author moment (Taken taken) older may = absurd may
takes_as_before message home attempts old before (Attempt n) author moment (Taken taken) older may = absurd may
takes_as_before message home attempts old before (Failed n) author moment (Taken taken) older may = absurd may
takes_as_before message home attempts old before (Fate f n) author moment (Taken taken) older may = absurd may
takes_as_before message home attempts old before Told author moment (Taken taken) older may = absurd may
takes_as_before message home attempts old before kind author moment (Attempt number) older may = refl
takes_as_before message home attempts old before kind author moment (Failed error) older may = refl
takes_as_before message home attempts old before kind author moment (Fate final error) older may = refl
takes_as_before message home attempts old before kind author moment Told older may = refl

own_begun : (w : World) → Holds w → AllProposed TakesBegun w → (node id : ℕ) (chain : List Decree) → IsOwn (IsChosenIn w) node (w.actors node) id chain →
    TakesBegun w id chain
own_begun w h good node id chain (inl first) message is =
    let same : first.message ≡ message = some_same first.message message (ap taken_in (sym first.chain_is) ∙ is) in
    record {
      deed = _;
      ticket = first.waiting.ticket;
      id = id;
      among = h.deletions.came node first.waiting first.waits;
      begins = ap (Begins first.waiting.ticket) (first.submits ∙ ap (Submit id) same);
    }
own_begun w h good node id chain (inr n) message is =
    let before = chosen_good TakesBegun w h.keeps good (slot_of id (n.newest ∷ n.older)) _ n.chosen in
    before message (sym (takes_as_before n.taken (home_in (n.newest ∷ n.older)) (attempts_in (n.newest ∷ n.older)) n.newest.author n.newest.moment n.newest.kind n.next.author n.next.moment
    n.next.kind (taken_in (n.newest ∷ n.older)) n.may.1) ∙ ap taken_in (sym n.chain_is) ∙ is)

begun_later : (past : List Deed) (deed : Deed) (message : Submission) → HasBegun past message → HasBegun (deed ∷ past) message
begun_later past deed message it = record { deed = it.deed; ticket = it.ticket; id = it.id; among = inr it.among; begins = it.begins }

all_begun : (nodes : ℕ) (serials : ℕ → ℕ) (acts : List (ℕ × Act)) → IsRun (start nodes serials) acts →
    AllProposed TakesBegun (reached (start nodes serials) acts)
all_begun nodes serials [] run = λ slot vote proposed. absurd proposed.sent
all_begun nodes serials (newest ∷ older) run =
    let w = reached (start nodes serials) older in
    let h = holds nodes serials older run.1 in
    let good = all_begun nodes serials older run.1 in
    good_after TakesBegun w h.keeps good newest.0 newest.1 run.0
    (λ id chain takes message is. begun_later w.past _ message (takes message is)) (own_begun w h good newest.0)

-- ---- and so it came

acted : (nodes : ℕ) (serials : ℕ → ℕ) (acts : List (ℕ × Act)) (deed : Deed) → In deed (reached (start nodes serials) acts).past →
    In (deed.node, deed.act) acts
acted nodes serials [] deed none = absurd none
acted nodes serials (newest ∷ older) deed (inl same) = inl (ap (λ (d : Deed). (d.node, d.act)) same)
acted nodes serials (newest ∷ older) deed (inr before) = inr (acted nodes serials older deed before)

abbrev input_of : Step → NodeInput
input_of step = input_to step.node step.input

arrived : (cluster : Cluster) (steps : List Step) → AreSteps cluster (start cluster.nodes cluster.serials) steps → (node ticket : ℕ) (request : Request) →
    In (node, Begins ticket request) (acts_in steps) → In (input_to node (Arrival request)) (map input_of steps)
arrived cluster [] are node ticket request none = absurd none
arrived cluster (newest ∷ older) are node ticket request among =
    elim (in_either (node, Begins ticket request) (by_node newest.node newest.acts) (acts_in older) among) [
      | inl here ↦
          let it = in_mapped (λ (act : Act). (newest.node, act)) newest.acts (node, Begins ticket request) here in
          let same : node ≡ newest.node = ap (λ (x : ℕ × Act). x.0) it.is in
          let act : Begins ticket request ≡ it.from = ap (λ (x : ℕ × Act). x.1) it.is in
          let comes = exact_begins (setup_of cluster newest.node) _ _ newest.input newest.acts are.0.exact ticket request
          (subst (λ (a : Act). In a newest.acts) (sym act) it.among) in
          inl (λ i. input_to (same i) (sym comes i))
      | inr earlier ↦ inr (arrived cluster older are.1 node ticket request earlier)
    ]

-- a submit_sm of this message came to a node
pub record WasSubmitted (past : List NodeInput) (message : Submission) : Type 0 where
  pub node : ℕ
  pub id : ℕ
  pub among : In (input_to node (Arrival (Submit id message))) past

module _ (cluster : Cluster) (past : List NodeInput) (may : MayHappen cluster past) where
  pub chosen_submitted : (id : ℕ) (chain : List Decree) → Chosen (world_after cluster past may) id chain → (message : Submission) →
      taken_in chain ≡ Some message → WasSubmitted past message
  chosen_submitted id chain chosen message is =
      let run = clustered cluster past may in
      let acts = acts_in run.steps in
      let ran = steps_run cluster (start cluster.nodes cluster.serials) run.steps run.are in
      let h = holds cluster.nodes cluster.serials acts ran in
      let it = chosen_good TakesBegun (world_after cluster past may) h.keeps (all_begun cluster.nodes cluster.serials acts ran)
      (slot_of id chain) _ chosen.chosen message is in
      record {
        node = it.deed.node;
        id = it.id;
        among = subst (In _) run.inputs_are
            (arrived cluster run.steps run.are it.deed.node it.ticket (Submit it.id message)
            (subst (λ (a : Act). In (it.deed.node, a) acts) it.begins (acted cluster.nodes cluster.serials acts it.deed it.among)));
      }

  abbrev w : World
  w = world_after cluster past may

  -- what is known at a node was chosen
  pub known_submitted : (number id : ℕ) (chain : List Decree) → (message_at ((kept_reached cluster past).kept number) id).known ≡ Some chain →
      (message : Submission) → taken_in chain ≡ Some message → WasSubmitted past message
  known_submitted number id chain known message is =
      let run = clustered cluster past may in
      let acts = acts_in run.steps in
      let ran = steps_run cluster (start cluster.nodes cluster.serials) run.steps run.are in
      let h = holds cluster.nodes cluster.serials acts ran in
      let knows : Knows cluster.nodes _ id chain = subst (IsKnown cluster.nodes _ id) known ((run.stands number).agrees.message id).heard.known in
      let actor = (alone cluster.nodes cluster.serials acts number ran).actor in
      chosen_submitted id chain
      (known_chosen w h.keeps number id chain
      (subst (λ (n : ℕ). Knows n (w.actors number).received id chain) (sym (nodes_same (start cluster.nodes cluster.serials) acts))
      (subst (λ (a : Actor). Knows cluster.nodes a.received id chain) (sym actor) knows))) message is

  -- and so was what a receipt tells of
  pub reported_submitted : (outputs : Outputs) → In outputs (cluster_outputs cluster past) → (receipt : Receipt) → In receipt outputs.receipts →
      (message : Submission) → taken_in receipt.chain ≡ Some message → WasSubmitted past message
  reported_submitted outputs given receipt among message is =
      let run = clustered cluster past may in
      let it = given_by cluster run.steps outputs (subst (In outputs) run.outputs given) in
      let done = it.done (Reports receipt.id receipt.chain)
      (receipt_act it.acts receipt (in_reverse receipt (receipts_in it.acts) (subst (In receipt) it.receipts_are among))) in
      chosen_submitted receipt.id receipt.chain
      ((after_holds cluster past may).told.chosen done.deed receipt.id receipt.chain done.past
      (subst (λ (a : Act). TellsOf a receipt.id receipt.chain) (sym done.act_is) (refl, refl))) message is

pub submitted_later : (inputs past : List NodeInput) (message : Submission) → WasSubmitted past message → WasSubmitted (behind inputs past) message
submitted_later [] past message it = it
submitted_later (next ∷ inputs) past message it =
    submitted_later inputs (next ∷ past) message (record { node = it.node; id = it.id; among = inr it.among })
