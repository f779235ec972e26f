-- What each node does by itself is, put together, a run of the cluster.
use Rattle.std.proofs.Common.{◌≡◌, ℕ, Bool, true, false, List, [], ◌∷◌, Option, Some, None, refl, sym, ◌∙◌, ap, subst, inl, inr}
use Rattle.std.specs.Prelude.{◌==◌, if◌then◌else◌}
use Rattle.std.proofs.lemmas.Bool.{eqb-true, eq-eqb, ne_eqb, true≢false}
use Rattle.mc_model.specs.message.Decree.{Decree}
use Rattle.mc_model.specs.synod.Lists.{In}
use Rattle.mc_model.specs.synod.OneSlot.{Vote, vote_at}
use Rattle.mc_model.specs.synod.Packet.{Slot, slot_of, top_at, Promise, Voted}
use Rattle.mc_model.specs.synod.Acceptor.{Records}
use Rattle.mc_model.specs.node.Actor.{Actor}
use Rattle.mc_model.specs.node.Knowledge.{IsLearned}
use Rattle.mc_model.specs.node.Proposal.{IsOwn, IsFree, MayPropose}
use Rattle.mc_model.specs.node.Act.{Act, Restarts, Receives, Proposes, Needs}
use Rattle.mc_model.specs.node.Effect.{records_by, actor_by}
use Rattle.mc_model.specs.node.Alone.{Node, began_by, opened_new, StandsAt, MayAlone, after_alone, reached_alone, IsRunAlone}
use Rattle.mc_model.specs.cluster.World.{World, cast, votes_by, May, IsChosenIn, StandsIn, after, changed, start, reached, IsRun}
use Rattle.mc_model.specs.cluster.Assembly.{acts_of, WasSent, EachWasSent}
use Rattle.mc_parts.proofs.Membership.{in_right}
use Rattle.mc_laws.proofs.invariant.Growth.{changed_here, nodes_same}
use Rattle.mc_laws.proofs.invariant.Keeping.{Keeps, ToldVotes, PromiseFits, justified_more}
use Rattle.mc_laws.proofs.invariant.Agreement.{learned_chosen}
use Rattle.mc_laws.proofs.invariant.Reached.{holds}

-- ---- what a node sees is so in the cluster

abbrev here : World → ℕ → Records → Node
here w node began = record { actor = w.actors node; records = w.records node; began = began }

-- the votes with which an incarnation began were cast
abbrev BeganSo : World → ℕ → Records → Type 0
BeganSo w node began = (slot : Slot) (vote : Vote) → (began slot).vote ≡ Some vote → In (cast node slot vote) w.votes

stands : (w : World) → Keeps w → ToldVotes w → (node : ℕ) (began : Records) → BeganSo w node began → (slot : Slot) (chain : List Decree) →
    StandsAt (here w node began) slot chain →
    StandsIn w slot chain
stands w keeps votes node began so slot chain (inl proposed) = inl (proposed.0, proposed.1, keeps.received node _ proposed.2)
stands w keeps votes node began so slot chain (inr (inl voted)) =
    inr (voted.0, voted.1, keeps.fits (Voted voted.0 slot (vote_at voted.1 chain)) (keeps.received node _ voted.2))
stands w keeps votes node began so slot chain (inr (inr (inl promised))) =
    let fits : PromiseFits w promised.0 slot promised.1 (Some (vote_at promised.2 chain)) = keeps.fits
    (Promise promised.0 slot promised.1 (Some (vote_at promised.2 chain))) (keeps.received node _ promised.3) in
    let voted = fits.honest (vote_at promised.2 chain) refl in
    inr (promised.0, promised.2, voted.0)
stands w keeps votes node began so slot chain (inr (inr (inr (inl told)))) =
    inr (told.0, told.2, votes told.0 told.1 (top_at slot (vote_at told.2 chain)) (keeps.received node _ told.3))
stands w keeps votes node began so slot chain (inr (inr (inr (inr held)))) = inr (node, held.0, so slot (vote_at held.0 chain) held.1)

own : (w : World) → Keeps w → (node id : ℕ) (chain : List Decree) →
    IsOwn (IsLearned w.nodes (w.actors node).received) node (w.actors node) id chain →
    IsOwn (IsChosenIn w) node (w.actors node) id chain
own w keeps node id chain (inl first) = inl first
own w keeps node id chain (inr n) = inr (record {
  next = n.next;
  newest = n.newest;
  older = n.older;
  taken = n.taken;
  ballot = n.ballot;
  chain_is = n.chain_is;
  chosen = learned_chosen w keeps node _ _ n.chosen;
  author = n.author;
  moment = n.moment;
  message = n.message;
  may = n.may;
  allowed = n.allowed;
  error = n.error;
})

free : (w : World) → Keeps w → ToldVotes w → (node : ℕ) (began : Records) → BeganSo w node began →
    (slot : Slot) (chain : List Decree) (highest : Option Vote) → IsFree highest (StandsAt (here w node began) slot chain)
    ((slot ≡ slot_of slot.id chain) × IsOwn (IsLearned w.nodes (w.actors node).received) node (w.actors node) slot.id chain) →
    IsFree highest (StandsIn w slot chain) ((slot ≡ slot_of slot.id chain) × IsOwn (IsChosenIn w) node (w.actors node) slot.id chain)
free w keeps votes node began so slot chain (Some top) is = tt
free w keeps votes node began so slot chain None (inl standing) = inl (stands w keeps votes node began so slot chain standing)
free w keeps votes node began so slot chain None (inr mine) = inr (mine.0, own w keeps node slot.id chain mine.1)

proposes : (w : World) → Keeps w → ToldVotes w → (node : ℕ) (began : Records) → BeganSo w node began → (slot : Slot) (vote : Vote) →
    MayPropose w.nodes (λ packet. In packet (w.actors node).received) (StandsAt (here w node began))
    (IsLearned w.nodes (w.actors node).received) node (w.actors node) slot vote →
    MayPropose w.nodes (λ packet. In packet w.packets) (StandsIn w) (IsChosenIn w) node (w.actors node) slot vote
proposes w keeps votes node began so slot vote may = record {
  proposer = may.proposer;
  incarnation = may.incarnation;
  once = may.once;
  justified = justified_more w.nodes (λ acceptor report. In (Promise acceptor slot vote.ballot report) (w.actors node).received)
      (λ acceptor report. In (Promise acceptor slot vote.ballot report) w.packets) vote.chain
      (λ acceptor report. keeps.received node (Promise acceptor slot vote.ballot report)) may.justified;
  free = free w keeps votes node began so slot vote.chain may.justified.highest may.free;
}

-- so what a node may do alone it may do in the cluster, once its packet was sent
needs : (w : World) → Keeps w → ToldVotes w → (node : ℕ) (began : Records) → BeganSo w node began → (act : Act) → WasSent w act →
    Needs w.nodes (λ packet. Unit {0}) (λ packet. In packet (w.actors node).received) (StandsAt (here w node began))
    (IsLearned w.nodes (w.actors node).received) node (w.actors node) (w.records node) act →
    Needs w.nodes (λ packet. In packet w.packets) (λ packet. In packet w.packets) (StandsIn w) (IsChosenIn w) node (w.actors node) (w.records node) act
needs w keeps votes node began so (Receives packet) sent needed = sent
needs w keeps votes node began so (Proposes slot vote) sent needed = proposes w keeps votes node began so slot vote needed
needs w keeps votes node began so act was needed = needed

may_here : (w : World) → Keeps w → ToldVotes w → (node : ℕ) (began : Records) → BeganSo w node began → (act : Act) → WasSent w act →
    MayAlone w.nodes node (here w node began) act →
    May w node act
may_here w keeps votes node began so act sent may = record { least = may.least; most = may.most; up = may.up; needs = needs w keeps votes node began so act sent may.needs }

-- ---- a node in the cluster is the node alone

pub acts_here : (node : ℕ) (newest : ℕ × Act) (older : List (ℕ × Act)) → newest.0 ≡ node → acts_of node (newest ∷ older) ≡ newest.1 ∷ acts_of node older
acts_here node newest older is = ap (λ (test : Bool). if test then newest.1 ∷ acts_of node older else acts_of node older) (eq-eqb newest.0 node is)

pub acts_apart : (node : ℕ) (newest : ℕ × Act) (older : List (ℕ × Act)) → (newest.0 == node) ≡ false → acts_of node (newest ∷ older) ≡ acts_of node older
acts_apart node newest older is = ap (λ (test : Bool). if test then newest.1 ∷ acts_of node older else acts_of node older) is

-- by what it has
pub record IsAlone (w : World) (node : ℕ) (s : Node) : Type 0 where
  pub actor : w.actors node ≡ s.actor
  pub records : w.records node ≡ s.records
  pub began : BeganSo w node s.began

may_alone : (w : World) (nodes node : ℕ) (s : Node) (act : Act) → w.nodes ≡ nodes → IsAlone w node s → MayAlone nodes node s act →
    MayAlone w.nodes node (here w node s.began) act
may_alone w nodes node s act same is may =
    subst (λ (n : ℕ). MayAlone n node (here w node s.began) act) (sym same)
    (subst (λ (x : Node). MayAlone nodes node x act) (λ i. record { actor = sym is.actor i; records = sym is.records i; began = s.began }) may)

-- the node that does an act
began_after : (w : World) → Keeps w → (node : ℕ) (act : Act) (s : Node) → IsAlone w node s → BeganSo (after w node act) node (began_by s act)
began_after w keeps node (Restarts lost serial) s is slot vote held =
    (keeps.held node slot vote (ap (λ (r : Records). (r slot).vote) is.records ∙ held)).voted
began_after w keeps node act s is slot vote held = in_right _ (votes_by node act) w.votes (is.began slot vote held)

alone_here : (w : World) → Keeps w → (node : ℕ) (act : Act) (s : Node) → IsAlone w node s → IsAlone (after w node act) node (after_alone node s act)
alone_here w keeps node act s is = record {
  actor = changed_here w.actors node (actor_by node (w.actors node) act) ∙ ap (λ (a : Actor). actor_by node a act) is.actor;
  records = changed_here w.records node (records_by (w.records node) act) ∙ ap (λ (r : Records). records_by r act) is.records;
  began = began_after w keeps node act s is;
}

-- and the others
changed_apart : {A : Type 0} (things : ℕ → A) (node : ℕ) (new : A) (other : ℕ) → (other == node) ≡ false → changed things node new other ≡ things other
changed_apart things node new other apart = ap (λ (test : Bool). if test then new else things other) apart

alone_apart : (w : World) (node : ℕ) (act : Act) (other : ℕ) (s : Node) → (other == node) ≡ false → IsAlone w other s → IsAlone (after w node act) other s
alone_apart w node act other s apart is = record {
  actor = changed_apart w.actors node (actor_by node (w.actors node) act) other apart ∙ is.actor;
  records = changed_apart w.records node (records_by (w.records node) act) other apart ∙ is.records;
  began = λ slot vote held. in_right _ (votes_by node act) w.votes (is.began slot vote held);
}

-- numbers that differ, the other way round
pub flipped : (a b : ℕ) → (a == b) ≡ false → (b == a) ≡ false
flipped a b apart = ne_eqb b a (λ same. let together : (a == b) ≡ true = eq-eqb a b (sym same) in true≢false (sym together ∙ apart))

alone_by : (w : World) → Keeps w → (newest : ℕ × Act) (older : List (ℕ × Act)) (node : ℕ) (first : Node) (test : Bool) →
    (newest.0 == node) ≡ test → IsAlone w node (reached_alone node first (acts_of node older)) →
    IsAlone (after w newest.0 newest.1) node (reached_alone node first (acts_of node (newest ∷ older)))
alone_by w keeps newest older node first true same is =
    let is_node : newest.0 ≡ node = eqb-true newest.0 node same in
    subst (λ (acts : List Act). IsAlone (after w newest.0 newest.1) node (reached_alone node first acts)) (sym (acts_here node newest older is_node)) (
    subst (λ (n : ℕ). IsAlone (after w n newest.1) node (after_alone node (reached_alone node first (acts_of node older)) newest.1))
    (sym is_node) (alone_here w keeps node newest.1 (reached_alone node first (acts_of node older)) is))
alone_by w keeps newest older node first false same is =
    subst (λ (acts : List Act). IsAlone (after w newest.0 newest.1) node (reached_alone node first acts))
    (sym (acts_apart node newest older same)) (alone_apart w newest.0 newest.1 node _ (flipped newest.0 node same) is)

pub alone : (nodes : ℕ) (serials : ℕ → ℕ) (acts : List (ℕ × Act)) (node : ℕ) → IsRun (start nodes serials) acts →
    IsAlone (reached (start nodes serials) acts) node (reached_alone node (opened_new (serials node)) (acts_of node acts))
alone nodes serials [] node run = record { actor = refl; records = refl; began = λ slot vote held. absurd cc }
alone nodes serials (newest ∷ older) node run =
    alone_by (reached (start nodes serials) older) (holds nodes serials older run.1).keeps newest older node (opened_new (serials node))
    (newest.0 == node) refl (alone nodes serials older node run.1)

-- ---- all together

older_alone : (nodes : ℕ) (first : Node) (newest : ℕ × Act) (older : List (ℕ × Act)) (node : ℕ) (test : Bool) → (newest.0 == node) ≡ test →
    IsRunAlone nodes node first (acts_of node (newest ∷ older)) →
    IsRunAlone nodes node first (acts_of node older)
older_alone nodes first newest older node true same run =
    (subst (IsRunAlone nodes node first) (acts_here node newest older (eqb-true newest.0 node same)) run).1
older_alone nodes first newest older node false same run = subst (IsRunAlone nodes node first) (acts_apart node newest older same) run

-- what a node may do alone, where its acts have led it, it may do in the cluster
pub may_together : (nodes : ℕ) (serials : ℕ → ℕ) (acts : List (ℕ × Act)) (node : ℕ) (act : Act) → IsRun (start nodes serials) acts →
    WasSent (reached (start nodes serials) acts) act →
    MayAlone nodes node (reached_alone node (opened_new (serials node)) (acts_of node acts)) act →
    May (reached (start nodes serials) acts) node act
may_together nodes serials acts node act run sent may =
    let w = reached (start nodes serials) acts in
    let s = reached_alone node (opened_new (serials node)) (acts_of node acts) in
    let is = alone nodes serials acts node run in
    may_here w (holds nodes serials acts run).keeps (holds nodes serials acts run).told_votes node s.began is.began act sent (may_alone w nodes node s act (nodes_same (start nodes serials) acts) is may)

pub put_together : (nodes : ℕ) (serials : ℕ → ℕ) (acts : List (ℕ × Act)) →
    ((node : ℕ) → IsRunAlone nodes node (opened_new (serials node)) (acts_of node acts)) → EachWasSent (start nodes serials) acts →
    IsRun (start nodes serials) acts
put_together nodes serials [] runs sent = tt
put_together nodes serials (newest ∷ older) runs sent =
    let before = put_together nodes serials older (λ node. older_alone nodes (opened_new (serials node)) newest older node
    (newest.0 == node) refl (runs node)) sent.1 in
    let mine = subst (IsRunAlone nodes newest.0 (opened_new (serials newest.0))) (acts_here newest.0 newest older refl) (runs newest.0) in
    (may_together nodes serials older newest.0 newest.1 before sent.0 mine.0, before)
