-- What a request is answered that came after others were answered.
use Rattle.std.proofs.Common.{◌≡◌, ℕ, pred, ◌≤◌, List, [], ◌∷◌, ◌++◌, length, Option, Some, None, inl, inr, sym, ◌∙◌, ap, subst, arith}
use Rattle.mc_model.specs.message.Decree.{Decree, Final, Deleted}
use Rattle.mc_model.specs.message.Chain.{final_in}
use Rattle.mc_model.specs.synod.Lists.{In}
use Rattle.mc_model.specs.synod.Majority.{Majority}
use Rattle.mc_model.specs.synod.OneSlot.{Vote, vote_at}
use Rattle.mc_model.specs.synod.Packet.{Slot, slot_at, slot_of, Packet, Name, TopVote, Tell}
use Rattle.mc_model.specs.node.Actor.{Actor, Request, Submit, Query, Cancel, Waiting, id_in, name_of}
use Rattle.mc_model.specs.node.Knowledge.{Knows}
use Rattle.mc_model.specs.node.Settling.{HasTold, IsReached, IsSettled, Covers, MeetsVote}
use Rattle.mc_model.specs.node.Replies.{Answer, Accepted, Shown, Unknown, IsUnknown, FitsRequest, MayReply}
use Rattle.mc_model.specs.node.Act.{Act, Begins, Replies}
use Rattle.mc_model.specs.cluster.World.{World, Deed, cast, May, IsChosenIn, start, reached, IsRun}
use Rattle.mc_model.specs.cluster.Fate.{States}
use Rattle.mc_model.specs.cluster.Decrees.{IsDeletion}
use Rattle.mc_parts.proofs.Majorities.{both}
use Rattle.mc_laws.proofs.invariant.Growth.{grows, nodes_same}
use Rattle.mc_laws.proofs.invariant.Links.{chosen_still, chosen_standing}
use Rattle.mc_laws.proofs.invariant.Agreement.{Chosen, known_chosen, not_empty}
use Rattle.mc_laws.proofs.invariant.Fated.{tells_known}
use Rattle.mc_laws.proofs.invariant.Deletions.{chosen_deletion}
use Rattle.mc_laws.proofs.invariant.Freshness.{HasReached, Fresh, fresh_begun, fresh_after}
use Rattle.mc_laws.proofs.invariant.Reached.{Holds, holds, fate_longest}

-- ---- where in a run a deed was done

pub record Done (nodes : ℕ) (serials : ℕ → ℕ) (acts : List (ℕ × Act)) (deed : Deed) (older : List Deed) : Type 0 where
  pub later : List (ℕ × Act)
  pub earlier : List (ℕ × Act)
  pub split : acts ≡ later ++ (deed.node, deed.act) ∷ earlier
  pub past : (reached (start nodes serials) earlier).past ≡ older
  pub incarnation : deed.incarnation ≡ ((reached (start nodes serials) earlier).actors deed.node).incarnation

pub done : (nodes : ℕ) (serials : ℕ → ℕ) (acts : List (ℕ × Act)) (newer : List Deed) (deed : Deed) (older : List Deed) →
    (reached (start nodes serials) acts).past ≡ newer ++ deed ∷ older →
    Done nodes serials acts deed older
done nodes serials [] [] deed older is = cc
done nodes serials [] (x ∷ newer) deed older is = cc
done nodes serials (act ∷ acts) [] deed older is =
    let heads : record { node = act.0; incarnation = ((reached (start nodes serials) acts).actors act.0).incarnation; act = act.1 } ≡ deed = cc in
    let tails : (reached (start nodes serials) acts).past ≡ older = cc in
    record {
      later = [];
      earlier = acts;
      split = λ i. ((heads i).node, (heads i).act) ∷ acts;
      past = tails;
      incarnation = ap (λ (d : Deed). d.incarnation) (sym heads) ∙ ap (λ (d : Deed). ((reached (start nodes serials) acts).actors d.node).incarnation) heads;
    }
done nodes serials (act ∷ acts) (x ∷ newer) deed older is =
    let tails : (reached (start nodes serials) acts).past ≡ newer ++ deed ∷ older = cc in
    let d = done nodes serials acts newer deed older tails in
    record {
      later = act ∷ d.later;
      earlier = d.earlier;
      split = ap (λ (rest : List (ℕ × Act)). act ∷ rest) d.split;
      past = d.past;
      incarnation = d.incarnation;
    }

-- a run has run up to each of its acts
pub runs_to : (first : World) (later earlier : List (ℕ × Act)) → IsRun first (later ++ earlier) → IsRun first earlier
runs_to first [] earlier run = run
runs_to first (act ∷ later) earlier run = runs_to first later earlier run.1

-- ---- since a request came

since : (nodes : ℕ) (serials : ℕ → ℕ) (later : List (ℕ × Act)) (node ticket : ℕ) (request : Request) (earlier : List (ℕ × Act)) →
    IsRun (start nodes serials) (later ++ (node, Begins ticket request) ∷ earlier) →
    Fresh (reached (start nodes serials) earlier) (record
    { node = node; incarnation = ((reached (start nodes serials) earlier).actors node).incarnation; ticket = ticket }) (id_in request)
    (reached (start nodes serials) (later ++ (node, Begins ticket request) ∷ earlier))
since nodes serials [] node ticket request earlier run =
    fresh_begun (reached (start nodes serials) earlier) (holds nodes serials earlier run.1).names node ticket request run.0
since nodes serials (act ∷ later) node ticket request earlier run =
    fresh_after (reached (start nodes serials) earlier) (reached (start nodes serials) (later ++ (node, Begins ticket request) ∷ earlier))
    (holds nodes serials _ run.1).keeps _ (id_in request) (since nodes serials later node ticket request earlier run.1) act.0 act.1 run.0

grows_since : (first : World) (later earlier : List (ℕ × Act)) → IsRun first (later ++ earlier) → (slot : Slot) (vote : Vote) →
    IsChosenIn (reached first earlier) slot vote →
    IsChosenIn (reached first (later ++ earlier)) slot vote
grows_since first [] earlier run slot vote chosen = chosen
grows_since first (act ∷ later) earlier run slot vote chosen =
    chosen_still (reached first (later ++ earlier)) _ (grows (reached first (later ++ earlier)) act.0 act.1 run.0) slot vote
    (grows_since first later earlier run.1 slot vote chosen)

-- ---- what a majority has told covers what was chosen before

is_covered : (known : Option (List Decree)) (told : Option TopVote) (place : ℕ) → IsReached known told → HasReached told place → Covers known place
is_covered known None place reached has = absurd has
is_covered None (Some told) place reached has = absurd reached
is_covered (Some chain) (Some told) place reached has = omega (arith, reached, has)

-- what the node knows is not shorter than what was chosen before the request came
pub covered : (before w : World) → (name : Name) (id : ℕ) → Fresh before name id w → w.nodes ≡ before.nodes → Holds w →
    (node : ℕ) (chain : List Decree) → Chosen before id chain → (known : Option (List Decree)) →
    IsSettled w.nodes (w.actors node).received name known →
    Covers known (pred (length chain))
covered before w name id fresh same h node chain chosen known settled =
    let b = both w.nodes (λ acceptor. In (cast acceptor (slot_of id chain) (vote_at chosen.ballot chain)) before.votes)
    (HasTold (w.actors node).received name) (subst
    (λ (n : ℕ). Majority n (λ acceptor. In (cast acceptor (slot_of id chain) (vote_at chosen.ballot chain)) before.votes))
    (sym same) chosen.chosen) settled.majority in
    is_covered known b.other.told (pred (length chain)) (settled.reached b.node b.other.told b.other.heard)
    (fresh.tells b.node b.other.told (h.keeps.received node _ b.other.heard) (pred (length chain)) (vote_at chosen.ballot chain) b.one)

-- the request that is answered is about the message for which it came
about_it : (before w : World) (name : Name) (id : ℕ) → Fresh before name id w → (waiting : Waiting) →
    (w.actors name.node).incarnation ≡ name.incarnation → In waiting (w.actors name.node).waiting → waiting.ticket ≡ name.ticket →
    id_in waiting.request ≡ id
about_it before w name id fresh waiting same waits is = fresh.about same waiting waits is

-- ---- the answers

-- what stands behind ESME_ROK to a query_sm
pub record IsSeen (nodes node : ℕ) (a : Actor) (w : Waiting) (chain : List Decree) : Type 0 where
  pub known : Knows nodes a.received (id_in w.request) chain
  pub settled : IsSettled nodes a.received (name_of node a w) (Some chain)

pub shown_settled : (nodes node : ℕ) (a : Actor) (w : Waiting) (request : Request) (chain : List Decree) →
    FitsRequest nodes node a w request (Shown chain) →
    IsSeen nodes node a w chain
shown_settled nodes node a w (Query id account source) chain fits = record { known = fits.known; settled = fits.settled }
shown_settled nodes node a w (Submit id message) chain fits = absurd fits
shown_settled nodes node a w (Cancel id account source destination) chain fits = absurd fits

unknown_settled : (nodes node : ℕ) (a : Actor) (w : Waiting) (request : Request) → FitsRequest nodes node a w request Unknown → IsUnknown nodes node a w
unknown_settled nodes node a w (Query id account source) fits = fits
unknown_settled nodes node a w (Cancel id account source destination) fits = fits
unknown_settled nodes node a w (Submit id message) fits = absurd fits

-- a request came in one world, and is answered in another
pub record Asked (before w : World) (name : Name) (id : ℕ) : Type 0 where
  pub fresh : Fresh before name id w
  pub nodes : w.nodes ≡ before.nodes
  pub chosen : (slot : Slot) (vote : Vote) → IsChosenIn before slot vote → IsChosenIn w slot vote
  pub holds : Holds w
  pub incarnation : (w.actors name.node).incarnation ≡ name.incarnation

named_so : (before w : World) (name : Name) (id : ℕ) → Asked before w name id → (waiting : Waiting) → waiting.ticket ≡ name.ticket →
    name_of name.node (w.actors name.node) waiting ≡ name
named_so before w name id asked waiting is = λ i. record { node = name.node; incarnation = asked.incarnation i; ticket = is i }

shown_fresh : (before w : World) (name : Name) (id : ℕ) → Asked before w name id → (other : ℕ) (chain fated : List Decree) (final : Final) →
    Chosen before id fated → final_in fated ≡ Some final → MayReply w.nodes name.node (w.actors name.node) name.ticket other (Shown chain) →
    final_in chain ≡ Some final
shown_fresh before w name id asked other chain fated final chosen ends may =
    let seen = shown_settled w.nodes name.node (w.actors name.node) may.asked.waiting may.asked.waiting.request chain may.fits in
    let about = about_it before w name id asked.fresh may.asked.waiting asked.incarnation may.asked.waits may.asked.ticket_is in
    let known : Chosen w id chain = subst (λ (i : ℕ). Chosen w i chain) about
    (known_chosen w asked.holds.keeps name.node (id_in may.asked.waiting.request) chain seen.known) in
    let settled : IsSettled w.nodes (w.actors name.node).received name (Some chain) = subst
    (λ (n : Name). IsSettled w.nodes (w.actors name.node).received n (Some chain))
    (named_so before w name id asked may.asked.waiting may.asked.ticket_is) seen.settled in
    let long = covered before w name id asked.fresh asked.nodes asked.holds name.node fated chosen (Some chain) settled in
    let still : Chosen w id fated = record { ballot = chosen.ballot; chosen = asked.chosen _ _ chosen.chosen } in
    let some = not_empty w asked.holds.keeps asked.holds.links id chain known in
    fate_longest w asked.holds id fated chain final still known ends (longer (length fated) (length chain) some long)
  where
    longer : (a b : ℕ) → 1 ≤ b → pred a ≤ pred b → a ≤ b
    longer a b some long = omega (arith, some, long)

unknown_fresh : (before w : World) (name : Name) (id : ℕ) → Asked before w name id → (other : ℕ) (chain : List Decree) →
    Chosen before id chain → MayReply w.nodes name.node (w.actors name.node) name.ticket other Unknown →
    ⊥
unknown_fresh before w name id asked other chain chosen may =
    let unknown = unknown_settled w.nodes name.node (w.actors name.node) may.asked.waiting may.asked.waiting.request may.fits in
    covered before w name id asked.fresh asked.nodes asked.holds name.node chain chosen None
    (subst (λ (n : Name). IsSettled w.nodes (w.actors name.node).received n None)
    (named_so before w name id asked may.asked.waiting may.asked.ticket_is) unknown.settled)

-- ---- in a run

asked_since : (nodes : ℕ) (serials : ℕ → ℕ) (later : List (ℕ × Act)) (node ticket : ℕ) (request : Request) (earlier : List (ℕ × Act)) →
    IsRun (start nodes serials) (later ++ (node, Begins ticket request) ∷ earlier) →
    ((reached (start nodes serials) (later ++ (node, Begins ticket request) ∷ earlier)).actors node).incarnation ≡
    ((reached (start nodes serials) earlier).actors node).incarnation →
    Asked (reached (start nodes serials) earlier) (reached (start nodes serials) (later ++ (node, Begins ticket request) ∷ earlier))
    (record { node = node; incarnation = ((reached (start nodes serials) earlier).actors node).incarnation; ticket = ticket }) (id_in request)
asked_since nodes serials later node ticket request earlier run same =
    let first = start nodes serials in
    let now = later ++ (node, Begins ticket request) ∷ earlier in
    record {
      fresh = since nodes serials later node ticket request earlier run;
      nodes = nodes_same first now ∙ sym (nodes_same first earlier);
      chosen = λ slot vote chosen. grows_since first later ((node, Begins ticket request) ∷ earlier) run slot vote (
          let began = runs_to first later ((node, Begins ticket request) ∷ earlier) run in
          chosen_still (reached first earlier) _ (grows (reached first earlier) node (Begins ticket request) began.0) slot vote chosen);
      holds = holds nodes serials now run;
      incarnation = same;
    }

-- a reply, and the request that it answers, in the past of a run
pub record Answered (nodes : ℕ) (serials : ℕ → ℕ) (beginning : Deed) (ticket : ℕ) (request : Request) (other : ℕ) (answer : Answer)
    (older : List Deed) : Type 0 where
  pub before : World
  pub w : World
  pub name : Name
  pub asked : Asked before w name (id_in request)
  pub past : before.past ≡ older
  pub holds : Holds before
  pub replies : MayReply w.nodes name.node (w.actors name.node) name.ticket other answer

answered_at : (nodes : ℕ) (serials : ℕ → ℕ) (later : List (ℕ × Act)) (beginning : Deed) (ticket : ℕ) (request : Request)
    (earlier now : List (ℕ × Act)) (other : ℕ) (answer : Answer) (older : List Deed) →
    now ≡ later ++ (beginning.node, Begins ticket request) ∷ earlier → IsRun (start nodes serials) now →
    (reached (start nodes serials) earlier).past ≡ older →
    ((reached (start nodes serials) now).actors beginning.node).incarnation ≡ ((reached (start nodes serials) earlier).actors beginning.node).incarnation →
    May (reached (start nodes serials) now) beginning.node (Replies ticket other answer) →
    Answered nodes serials beginning ticket request other answer older
answered_at nodes serials later beginning ticket request earlier now other answer older is run past same may =
    let first = start nodes serials in
    let whole = subst (IsRun first) is run in
    let incarnations = subst (λ (acts : List (ℕ × Act)). ((reached first acts).actors beginning.node).incarnation ≡
    ((reached first earlier).actors beginning.node).incarnation) is same in
    let replies = subst (λ (acts : List (ℕ × Act)). May (reached first acts) beginning.node (Replies ticket other answer)) is may in
    record {
      before = reached first earlier;
      w = reached first (later ++ (beginning.node, Begins ticket request) ∷ earlier);
      name = record { node = beginning.node; incarnation = ((reached first earlier).actors beginning.node).incarnation; ticket = ticket };
      asked = asked_since nodes serials later beginning.node ticket request earlier whole incarnations;
      past = past;
      holds = holds nodes serials earlier (runs_to first later ((beginning.node, Begins ticket request) ∷ earlier) whole).1;
      replies = replies.needs;
    }

pub answered : (nodes : ℕ) (serials : ℕ → ℕ) (acts : List (ℕ × Act)) (newer : List Deed) (replying : Deed) (middle : List Deed)
    (beginning : Deed) (older : List Deed) (ticket : ℕ) (request : Request) (other : ℕ) (answer : Answer) →
    IsRun (start nodes serials) acts → (reached (start nodes serials) acts).past ≡ newer ++ replying ∷ (middle ++ beginning ∷ older) →
    beginning.act ≡ Begins ticket request → replying ≡ record beginning { act = Replies ticket other answer } →
    Answered nodes serials beginning ticket request other answer older
answered nodes serials acts newer replying middle beginning older ticket request other answer run is begins replies =
    let first = start nodes serials in
    let d = done nodes serials acts newer replying (middle ++ beginning ∷ older) is in
    let e = done nodes serials d.earlier middle beginning older d.past in
    let from = runs_to first d.later ((replying.node, replying.act) ∷ d.earlier) (subst (IsRun first) d.split run) in
    let may = subst (λ (x : Deed). May (reached first d.earlier) x.node x.act) replies from.0 in
    let split = e.split ∙ ap (λ (act : Act). e.later ++ (beginning.node, act) ∷ e.earlier) begins in
    let same = ap (λ (x : Deed). ((reached first d.earlier).actors x.node).incarnation) (sym replies) ∙ sym d.incarnation ∙ ap
    (λ (x : Deed). x.incarnation) replies ∙ e.incarnation in
    answered_at nodes serials e.later beginning ticket request e.earlier d.earlier other answer older split from.1 e.past same may

pub fresh_query : (nodes : ℕ) (serials : ℕ → ℕ) (beginning : Deed) (ticket : ℕ) (request : Request) (other : ℕ) (chain : List Decree)
    (older : List Deed) → Answered nodes serials beginning ticket request other (Shown chain) older → (stating : Deed) (final : Final) →
    In stating older → States stating (id_in request) final →
    final_in chain ≡ Some final
fresh_query nodes serials beginning ticket request other chain older a stating final is_in states =
    shown_fresh a.before a.w a.name (id_in request) a.asked other chain states.chain final
    (a.holds.told.chosen stating (id_in request) states.chain
    (subst (λ (ds : List Deed). In stating ds) (sym a.past) is_in) states.tells) states.state a.replies

pub never_unknown : (nodes : ℕ) (serials : ℕ → ℕ) (beginning : Deed) (ticket : ℕ) (request : Request) (other : ℕ) (older : List Deed) →
    Answered nodes serials beginning ticket request other Unknown older → (accepting : Deed) (taken : ℕ) → In accepting older →
    accepting.act ≡ Replies taken (id_in request) Accepted →
    ⊥
never_unknown nodes serials beginning ticket request other older a accepting taken is_in is =
    let c = a.holds.accepted accepting taken (id_in request) (subst (λ (ds : List Deed). In accepting ds) (sym a.past) is_in) is in
    unknown_fresh a.before a.w a.name (id_in request) a.asked other c.chain c.chosen a.replies

-- what a majority tells of a request covers what was chosen before it came
pub settled_covers : (nodes : ℕ) (serials : ℕ → ℕ) (later : List (ℕ × Act)) (node ticket : ℕ) (request : Request) (earlier : List (ℕ × Act))
    (slot : Slot) (vote : Vote) (known : Option (List Decree)) →
    IsRun (start nodes serials) (later ++ (node, Begins ticket request) ∷ earlier) →
    ((reached (start nodes serials) (later ++ (node, Begins ticket request) ∷ earlier)).actors node).incarnation ≡
    ((reached (start nodes serials) earlier).actors node).incarnation →
    IsChosenIn (reached (start nodes serials) earlier) slot vote → slot.id ≡ id_in request →
    IsSettled nodes ((reached (start nodes serials) (later ++ (node, Begins ticket request) ∷ earlier)).actors node).received
    (record { node = node; incarnation = ((reached (start nodes serials) earlier).actors node).incarnation; ticket = ticket }) known →
    Covers known slot.place
settled_covers nodes serials later node ticket request earlier slot vote known run same chosen about settled =
    let first = start nodes serials in
    let now = reached first (later ++ (node, Begins ticket request) ∷ earlier) in
    let asked = asked_since nodes serials later node ticket request earlier run same in
    let before = (holds nodes serials earlier (runs_to first later ((node, Begins ticket request) ∷ earlier) run).1) in
    let s = chosen_standing (reached first earlier) before.keeps before.links slot vote chosen in
    let place : slot.place ≡ pred (length vote.chain) = ap (λ (x : Slot). x.place) s.place in
    let is : Chosen (reached first earlier) (id_in request) vote.chain = record {
      ballot = vote.ballot;
      chosen = subst (λ (i : ℕ). IsChosenIn (reached first earlier) (slot_of i vote.chain) vote) about
          (subst (λ (x : Slot). IsChosenIn (reached first earlier) x vote) s.place chosen);
    } in
    subst (Covers known) (sym place) (covered (reached first earlier) now
    (record { node = node; incarnation = ((reached first earlier).actors node).incarnation; ticket = ticket })
    (id_in request) asked.fresh asked.nodes asked.holds node vote.chain is known
    (subst (λ (n : ℕ). IsSettled n (now.actors node).received
    (record { node = node; incarnation = ((reached first earlier).actors node).incarnation; ticket = ticket }) known)
    (sym (nodes_same first (later ++ (node, Begins ticket request) ∷ earlier))) settled))

-- ---- what a statement of DELETED stands on

pub stands_on_cancel : (nodes : ℕ) (serials : ℕ → ℕ) (acts : List (ℕ × Act)) (newer : List Deed) (stating : Deed) (older : List Deed) (id : ℕ) →
    IsRun (start nodes serials) acts → (reached (start nodes serials) acts).past ≡ newer ++ stating ∷ older →
    (states : States stating id Deleted) →
    IsDeletion id states.chain older
stands_on_cancel nodes serials acts newer stating older id run is states =
    let first = start nodes serials in
    let d = done nodes serials acts newer stating older is in
    let from = runs_to first d.later ((stating.node, stating.act) ∷ d.earlier) (subst (IsRun first) d.split run) in
    let w = reached first d.earlier in
    let h = holds nodes serials d.earlier from.1 in
    let known = tells_known w stating.node stating.act from.0 id states.chain states.tells in
    subst (IsDeletion id states.chain) d.past (chosen_deletion w h.keeps h.links h.deletions id states.chain
    (known_chosen w h.keeps stating.node id states.chain known) states.state)

-- ---- who tells of a request

-- no Tell was made to the questions of a request that is still to come
pub tells_follow : (nodes : ℕ) (serials : ℕ → ℕ) (node ticket : ℕ) (request : Request) (earlier : List (ℕ × Act)) →
    IsRun (start nodes serials) ((node, Begins ticket request) ∷ earlier) → (teller : ℕ) (told : Option TopVote) →
    In (Tell teller (record { node = node; incarnation = ((reached (start nodes serials) earlier).actors node).incarnation; ticket = ticket }) told)
    (reached (start nodes serials) earlier).packets →
    ⊥
tells_follow nodes serials node ticket request earlier run teller told is_in =
    let w = reached (start nodes serials) earlier in
    let names = (holds nodes serials earlier run.1).names in
    let asked = names.told teller _ told is_in in
    let next : ticket ≡ (w.actors node).ticket = run.0.needs.next in
    elim (names.asked asked.sender asked.id _ asked.sent) [ inl before ↦ omega (arith, before) | inr now ↦ let below = now.1 in omega (arith, below, next) ]

-- who told and had voted tells of that place
met_at : (received : List Packet) (Voted : ℕ → Type 0) (name : Name) (place node : ℕ) (told : Option TopVote) → Voted node →
    In (Tell node name told) received → HasReached told place →
    MeetsVote received Voted name place
met_at received Voted name place node None voted heard far = absurd far
met_at received Voted name place node (Some told) voted heard far = record { teller = node; told = told; voted = voted; heard = heard; far = far }

-- a majority that tells meets every choice that was made before
pub tellers_meet : (nodes : ℕ) (serials : ℕ → ℕ) (later : List (ℕ × Act)) (node ticket : ℕ) (request : Request) (earlier : List (ℕ × Act))
    (slot : Slot) (vote : Vote) → IsRun (start nodes serials) (later ++ (node, Begins ticket request) ∷ earlier) →
    IsChosenIn (reached (start nodes serials) earlier) slot vote → slot.id ≡ id_in request →
    Majority nodes (HasTold ((reached (start nodes serials) (later ++ (node, Begins ticket request) ∷ earlier)).actors node).received
    (record { node = node; incarnation = ((reached (start nodes serials) earlier).actors node).incarnation; ticket = ticket })) →
    MeetsVote ((reached (start nodes serials) (later ++ (node, Begins ticket request) ∷ earlier)).actors node).received
    (λ teller. In (cast teller slot vote) (reached (start nodes serials) earlier).votes)
    (record { node = node; incarnation = ((reached (start nodes serials) earlier).actors node).incarnation; ticket = ticket }) slot.place
tellers_meet nodes serials later node ticket request earlier slot vote run chosen about majority =
    let first = start nodes serials in
    let now = later ++ (node, Begins ticket request) ∷ earlier in
    let before = reached first earlier in
    let fresh = since nodes serials later node ticket request earlier run in
    let b = both nodes (λ acceptor. In (cast acceptor slot vote) before.votes) _
    (subst (λ (n : ℕ). Majority n (λ acceptor. In (cast acceptor slot vote) before.votes)) (nodes_same first earlier) chosen) majority in
    let place : slot ≡ slot_at (id_in request) slot.place = λ i. record { id = about i; place = slot.place } in
    met_at _ _ _ slot.place b.node b.other.told b.one b.other.heard
    (fresh.tells b.node b.other.told ((holds nodes serials now run).keeps.received node _ b.other.heard) slot.place vote
    (subst (λ (s : Slot). In (cast b.node s vote) before.votes) place b.one))
