-- What a node by itself tells to its own questions.
use Rattle.std.proofs.Common.{◌≡◌, ℕ, zero, suc, ◌<◌, true, false, List, [], ◌∷◌, length, filter, Option, Some, None, refl, sym, ap, ◌∙◌, inl, inr, arith}
use Rattle.std.specs.Prelude.{◌==◌, nat_lt, not}
use Rattle.std.proofs.lemmas.Bool.{cases_lt, eq-eqb, le-leb, le-ltb}
use Rattle.mc_model.specs.message.Decree.{Decree}
use Rattle.mc_model.specs.synod.OneSlot.{Vote}
use Rattle.mc_model.specs.synod.Packet.{Name, Tell, TopVote, slot_at}
use Rattle.mc_model.specs.synod.Acceptor.{SlotRecord}
use Rattle.mc_model.specs.node.Actor.{Request, id_in}
use Rattle.mc_model.specs.node.Input.{Delivery}
use Rattle.mc_model.specs.node.Replies.{Answer}
use Rattle.mc_model.specs.node.Setup.{Setup}
use Rattle.node_model.specs.Message.{most_places}
use Rattle.node_model.specs.Acceptor.{told_below, told_of, told_with}
use Rattle.node_model.specs.Kept.{Held, Kept, message_at, name_at}
use Rattle.node_model.specs.Answers.{answer_to}
use Rattle.node_model.specs.Outputs.{sends}
use Rattle.node_model.specs.Packets.{answer_told, settled_told, start_told, tells_about, told_to}
use Rattle.node_model.specs.Proposer.{Start, started}
use Rattle.node_model.specs.Requests.{held_at, higher_top, id_of, is_reached, ticket_of, told_by, with_held}
use Rattle.node_model.specs.Starts.{follow}
use Rattle.node_model.specs.Stepped.{stepped}
use Rattle.table_laws.specs.Alone.{alone}
use Rattle.table_laws.specs.Tables.{TableNode, known_as}
use Rattle.table_laws.specs.Resting.{IsReady, IsResting}
use Rattle.table_laws.proofs.Frames.{eqb_self}
use Rattle.table_laws.proofs.Calm.{arrived, held_arrived, newcomer}

-- ---- what is told of a message at rest

abbrev IsWithin : ℕ → ℕ → Option TopVote → Type 0
IsWithin id bound None = Unit {0}
IsWithin id bound (Some told) = (told.id ≡ id) × (told.place < bound)

told_within : (k : Kept) (id : ℕ) (chain : List Decree) → IsReady k id chain → (bound : ℕ) → IsWithin id (length chain) (told_below k.records id bound)
told_within k id chain rest zero = tt
told_within k id chain rest (suc bound) = by_vote (k.records (slot_at id bound)).vote refl (told_below k.records id bound) (told_within k id chain rest bound)
  where
    by_vote : (vote : Option Vote) → (k.records (slot_at id bound)).vote ≡ vote → (lower : Option TopVote) → IsWithin id (length chain) lower →
        IsWithin id (length chain) (told_with (slot_at id bound) vote lower)
    by_vote None is lower within = within
    by_vote (Some vote) is lower within = (
      refl,
      elim (cases_lt bound (length chain)) [
        | inl below ↦ below
        | inr from ↦
            let both : Some vote ≡ None = sym is ∙ ap (λ (r : SlotRecord). r.vote) (rest.beyond bound from).record_is in absurd (cc)
      ],
    )

-- it is about the message, and what is known reaches it
pub record IsReachedBy (id : ℕ) (chain : List Decree) (told : Option TopVote) : Type 0 where
  pub about : tells_about told id ≡ true
  pub reached : is_reached (known_as chain) (higher_top None told) ≡ true
  pub unfollowed : follow (known_as chain) (higher_top None told) ≡ None

reached_within : (id : ℕ) (chain : List Decree) (told : Option TopVote) → IsWithin id (length chain) told → IsReachedBy id chain told
reached_within id chain None within = record { about = refl; reached = by_chain chain; unfollowed = refl }
  where
    by_chain : (chain : List Decree) → is_reached (known_as chain) None ≡ true
    by_chain [] = refl
    by_chain (newest ∷ older) = refl
reached_within id [] (Some told) within = let below = within.1 in absurd (omega arith)
reached_within id (newest ∷ older) (Some told) within =
    let below = within.1 in
    let ahead : nat_lt (length older) told.place ≡ false = le-ltb (length older) told.place (omega arith) in
    record { about = eq-eqb told.id id within.0; reached = le-leb told.place (length older) (omega arith); unfollowed = rw ahead refl }

pub told_is_reached : (k : Kept) (id : ℕ) (chain : List Decree) → IsReady k id chain → IsReachedBy id chain (told_of k.records id)
told_is_reached k id chain rest = reached_within id chain (told_of k.records id) (told_within k id chain rest most_places)

-- ---- it comes to the request that waits

module _ (first validity : ℕ) (k : Kept) (t : TableNode) (request : Request) (resting : IsResting k t) where
  abbrev setup : Setup
  setup = alone first validity

  abbrev k0 : Kept
  k0 = arrived k request

  abbrev new : Held
  new = newcomer k request

  abbrev pub name : Name
  name = name_at setup k k.ticket

  pub tell_delivered : (told : Option TopVote) → tells_about told (id_in request) ≡ true →
      stepped setup k0 (Delivery (Tell 1 name told)) ≡ told_to setup k0 (message_at k0 (id_in request)).known (told_by new 1 told)
  tell_delivered told about =
      let up : k0.up ≡ true = resting.up in
      let one : held_at (new ∷ []) k.ticket ≡ Some new = rw (eqb_self k.ticket) refl in
      let found : held_at k0.held k.ticket ≡ Some new = ap (λ (held : List Held). held_at held k.ticket) (held_arrived k t request resting) ∙ one in
      rw (up, eqb_self k.incarnation, found, about) refl

-- an answer to the only one who waits
pub answer_given : (setup : Setup) (k : Kept) (known : Option (List Decree)) (old told new : Held) (answer : Answer) → k.held ≡ old ∷ [] →
    ticket_of old ≡ ticket_of new →
    start_told setup k known told new ≡ None → answer_to setup.nodes known new ≡ Some answer →
    settled_told setup k known told new ≡ sends (record k { held = [] }) [] (record { ticket = ticket_of new; id = id_of new; answer = answer } ∷ []) []
answer_given setup k known old told new answer held_is tickets none is =
    let same : (ticket_of old == ticket_of new) ≡ true = eq-eqb (ticket_of old) (ticket_of new) tickets in
    let one : filter (λ (h : Held). not (ticket_of h == ticket_of new)) (with_held (old ∷ []) new) ≡ [] = rw (same, eqb_self (ticket_of new)) refl in
    let gone : filter (λ (h : Held). not (ticket_of h == ticket_of new)) (with_held k.held new) ≡ [] =
    ap (λ (held : List Held). filter (λ (h : Held). not (ticket_of h == ticket_of new)) (with_held held new)) held_is ∙ one in
    ap (λ (o : Option Start). answer_told (started setup (record k { held = with_held k.held new }) (id_of new) o) new (answer_to setup.nodes known new)) none
    ∙ (ap (λ (o : Option Answer). answer_told (record { kept = record k { held = with_held k.held new }; packets = [] }) new o) is
    ∙ (λ i. sends (record k { held = gone i }) [] (record { ticket = ticket_of new; id = id_of new; answer = answer } ∷ []) []))
