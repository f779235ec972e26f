-- A vote that is told, and what becomes known by it, are taken in as in the model.
use Rattle.std.proofs.Common.{◌≡◌, ℕ, Bool, true, false, List, Option, Some, None, refl, sym, ap, subst, ◌∙◌, arith}
use Rattle.std.specs.Prelude.{◌&&◌, if◌then◌else◌}
use Rattle.std.proofs.lemmas.Bool.{and_parts}
use Rattle.std.proofs.lemmas.Bool.Decides.{nat_tests}
use Rattle.mc_model.specs.message.Decree.{Decree}
use Rattle.node_model.specs.Answers.{is_known_so}
use Rattle.node_model.specs.Kept.{message_at, with_message}
use Rattle.node_model.specs.Learner.{heard, is_shorter, makes_known}
use Rattle.node_model.specs.Sets.{is_majority}
use Rattle.node_model.specs.Message.{Message}
use Rattle.node_model.specs.Outputs.{nothing, Stepped, leaves}
use Rattle.node_model.specs.Packets.{known_then, on_known, on_voted, vote_concerns}
use Rattle.shelf.specs.Shelved.{value_at, with_value}
use Rattle.synod_acceptor.proofs.Slots.{is_same}
use Rattle.synod_acceptor.specs.Votes.{slot_in, vote_of}
use Rattle.synod_acceptor.specs.declared.vote.Vote.{Vote as Cast}
use Rattle.node_parts.specs.Hearing.{known_if}
use Rattle.node_parts.specs.declared.message.Message.{Message as Filed}
use Rattle.node_parts.specs.Counting.{recounted_at, recounted_in}
use Rattle.node_parts.specs.Messages.{IsHeard, message_of}
use Rattle.node_parts.proofs.Counting.{recounted_there}
use Rattle.node_kept.specs.declared.kept.Kept.{Kept as Holding}
use Rattle.node_kept.specs.declared.step.Counted.{Counted}
use Rattle.node_kept.specs.declared.step.Step.{Step}
use Rattle.node_kept.specs.Keeping.{AreOwn, IsAs, IsTaken, kept_of}
use Rattle.node_kept.specs.Steps.{IsLeft, IsQuietStep, IsStep, MayCount, counted_if}
use Rattle.node_kept.specs.Voting.{IsCountedSo, id_concerns, voted_in}
use Rattle.node_kept.proofs.Answering.{taken_there}
use Rattle.node_kept.proofs.Leaving.{as_changed, left_as, put_quietly}

-- ---- whether it concerns the node

concerns : (k : Holding) (vote : Cast) (test : Bool) → id_concerns k.setup (kept_of k) vote.chain.id ≡ test →
    vote_concerns k.setup (kept_of k) (slot_in vote) (vote_of vote) ≡ test
concerns k vote test is = ap (λ (b : Bool). b && id_concerns k.setup (kept_of k) vote.chain.id) (is_same (slot_in vote) (slot_in vote) refl) ∙ is

module _ (k : Holding) (sender : ℕ) (vote : Cast) (taken new : Filed) (grows : Bool) (own : AreOwn k)
    (test : id_concerns k.setup (kept_of k) vote.chain.id ≡ true) (is_taken : IsTaken k vote.chain.id taken)
    (is_heard : IsHeard taken sender vote new grows) where
  abbrev id : ℕ
  id = vote.chain.id

  abbrev m : Message
  m = heard (message_at (kept_of k) id) sender (vote_of vote)

  message_is : message_of id new ≡ known_if grows m vote.chain.decrees
  message_is = is_heard.message ∙ ap (λ (n : Message). known_if grows (heard n sender (vote_of vote)) vote.chain.decrees) is_taken.message

  decides : grows ≡ makes_known k.setup.nodes m (vote_of vote)
  decides = is_heard.decides ∙ (λ i. makes_known ((is_taken.own own).learner i) (heard (is_taken.message i) sender (vote_of vote)) (vote_of vote))

  abbrev heard_if : Bool → Stepped
  heard_if b = if b then on_known k.setup (kept_of k) id m vote.chain.decrees else leaves (with_message (kept_of k) id m)

  voted_is : heard_if grows ≡ voted_in k.setup (kept_of k) sender (slot_in vote) (vote_of vote)
  voted_is =
      ap heard_if decides
      ∙ sym (ap (λ (b : Bool). if b then on_voted k.setup (kept_of k) sender (slot_in vote) (vote_of vote) else leaves (kept_of k)) (concerns k vote true test))

  -- it is heard, and nothing becomes known
  heard_only : grows ≡ false → IsAs k id new m
  heard_only not_known =
      as_changed k id taken new (message_at (kept_of k) id) m is_taken is_heard.same (message_is ∙ ap (λ (b : Bool). known_if b m vote.chain.decrees) not_known)

  pub voted_only : (step : Step) → grows ≡ false → IsLeft k id new nothing step →
      IsStep k (voted_in k.setup (kept_of k) sender (slot_in vote) (vote_of vote)) step
  voted_only step not_known is_left =
      subst (λ (s : Stepped). IsStep k s step) (ap heard_if (sym not_known) ∙ voted_is)
      (left_as k id new m (heard_only not_known) nothing step is_left)

  pub voted_quietly : (counted : Option Counted) → grows ≡ false → counted_if counted k.messages.entries ≡ with_value k.messages.entries id new →
      MayCount k.messages.entries counted →
      IsQuietStep k (voted_in k.setup (kept_of k) sender (slot_in vote) (vote_of vote)) (record { counted = counted })
  voted_quietly counted not_known entries may =
      subst (λ (s : Stepped). IsQuietStep k s (record { counted = counted })) (ap heard_if (sym not_known) ∙ voted_is)
      (put_quietly k id new m (heard_only not_known) counted entries may)

  pub known_as : grows ≡ true → IsAs k id new (known_then m vote.chain.decrees)
  known_as is_known =
      as_changed k id taken new (message_at (kept_of k) id) (known_then m vote.chain.decrees) is_taken is_heard.same
      (message_is ∙ ap (λ (b : Bool). known_if b m vote.chain.decrees) is_known)

  -- it was not known before
  pub known_anew : grows ≡ true → is_known_so m.known vote.chain.decrees ≡ false
  known_anew is_known = by_known m.known
      (and_parts (is_majority k.setup.nodes (m.votes (vote_of vote))) (is_shorter m.known vote.chain.decrees) (sym decides ∙ is_known)).1
    where
      by_known : (known : Option (List Decree)) → is_shorter known vote.chain.decrees ≡ true → is_known_so known vote.chain.decrees ≡ false
      by_known None shorter = refl
      by_known (Some old) shorter = grind (arith, nat_tests)

  pub voted_known : (step : Step) → grows ≡ true → IsStep k (on_known k.setup (kept_of k) id m vote.chain.decrees) step →
      IsStep k (voted_in k.setup (kept_of k) sender (slot_in vote) (vote_of vote)) step
  voted_known step is_known is = subst (λ (s : Stepped). IsStep k s step) (ap heard_if (sym is_known) ∙ voted_is) is

-- a vote that is counted anew
pub voted_anew : (k : Holding) (sender : ℕ) (vote : Cast) (c : Counted) → AreOwn k → id_concerns k.setup (kept_of k) vote.chain.id ≡ true →
    IsCountedSo k sender vote c → IsQuietStep k (voted_in k.setup (kept_of k) sender (slot_in vote) (vote_of vote)) (record { counted = Some c })
voted_anew k sender vote c own test so =
    let entries = k.messages.entries in
    let new = recounted_in so.message c.recount in
    let counted : recounted_at entries c.id c.recount ≡ with_value entries vote.chain.id new =
    ap (λ (id : ℕ). recounted_at entries id c.recount) so.about ∙ recounted_there entries vote.chain.id c.recount so.message so.kept in
    voted_quietly k sender vote so.message new false own test (taken_there k vote.chain.id so.message so.kept) so.heard.heard (Some c) refl counted (record {
      message = so.message;
      kept = ap (value_at entries) so.about ∙ so.kept;
      fits = so.heard.fits;
    })
