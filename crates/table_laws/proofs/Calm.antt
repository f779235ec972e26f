-- What a request leaves at rest: all but its own message.
use Rattle.std.proofs.Common.{◌≡◌, ℕ, suc, true, List, [], ◌∷◌, ◌++◌, refl, ap, ◌∙◌, inl, inr, arith, nat_cmp, sym}
use Rattle.std.specs.Prelude.{◌==◌, ◌&&◌, nat_lt}
use Rattle.std.proofs.lemmas.Bool.{and_from, and_parts, lt-ltb, ltb-true, or_cases, or_left, or_right}
use Rattle.std.specs.Map.{keys_of}
use Rattle.std.specs.BTreeSet.{insert_key}
use Rattle.std.specs.List.Sorted.{IsStrictlySortedBy}
use Rattle.mc_model.specs.message.Ids.{IsIncarnation, incarnation_of, serial_of}
use Rattle.mc_model.specs.node.Actor.{Cancel, Query, Request, Submit}
use Rattle.mc_model.specs.node.Effect.{next_serial}
use Rattle.node_model.specs.Kept.{Held, Kept}
use Rattle.node_model.specs.Packets.{was_given}
use Rattle.node_model.specs.Requests.{begun}
use Rattle.node_model.specs.Ticks.{waits_too}
use Rattle.shelf.proofs.Entries.{still_ascends}
use Rattle.table_laws.specs.Tables.{Entry, TableNode, entry_at, with_entry}
use Rattle.table_laws.specs.Resting.{IsAtRest, IsResting}
use Rattle.table_laws.proofs.Frames.{IsSameBut, each_at_rest, rest_as, rest_but, keys_with}

-- at rest, whoever waits
pub record IsCalm (k : Kept) (t : TableNode) : Type 0 where
  pub up : k.up ≡ true
  pub life : IsIncarnation k.incarnation
  pub incarnation : k.incarnation ≡ t.incarnation
  pub clock : k.clock ≡ t.clock
  pub serial : k.serial ≡ t.serial
  pub ticket : k.ticket ≡ t.ticket
  pub ids : keys_of k.messages ≡ keys_of t.table
  pub ascends : IsStrictlySortedBy nat_cmp (keys_of t.table)
  pub message : (id : ℕ) → IsAtRest k id (entry_at t.table id)

-- but for one message
pub record IsCalmBut (id : ℕ) (k : Kept) (t : TableNode) : Type 0 where
  pub up : k.up ≡ true
  pub life : IsIncarnation k.incarnation
  pub incarnation : k.incarnation ≡ t.incarnation
  pub clock : k.clock ≡ t.clock
  pub serial : k.serial ≡ t.serial
  pub ticket : k.ticket ≡ t.ticket
  pub ids : keys_of k.messages ≡ keys_of t.table
  pub ascends : IsStrictlySortedBy nat_cmp (keys_of t.table)
  pub message : (other : ℕ) → (other ≡ id → ⊥) → IsAtRest k other (entry_at t.table other)

pub calm_but : (id : ℕ) (k : Kept) (t : TableNode) → IsCalm k t → IsCalmBut id k t
calm_but id k t calm = record {
  up = calm.up;
  life = calm.life;
  incarnation = calm.incarnation;
  clock = calm.clock;
  serial = calm.serial;
  ticket = calm.ticket;
  ids = calm.ids;
  ascends = calm.ascends;
  message = λ other apart. calm.message other;
}

-- that message has another entry, and nobody waits any more
pub rests_with : (k new : Kept) (t : TableNode) (id : ℕ) (entry : Entry) → IsCalmBut id k t → IsSameBut id k new → new.held ≡ [] → IsAtRest new id entry →
    IsResting new (record t { table = with_entry t.table id entry })
rests_with k new t id entry calm same waits rest = record {
  up = same.up ∙ calm.up;
  life = rw same.incarnation calm.life;
  incarnation = same.incarnation ∙ calm.incarnation;
  clock = same.clock ∙ calm.clock;
  serial = same.serial ∙ calm.serial;
  ticket = same.ticket ∙ calm.ticket;
  waits = waits;
  ids = same.ids ∙ (ap (λ (ids : List ℕ). insert_key nat_cmp ids id) calm.ids ∙ sym (keys_with t.table id entry));
  ascends = still_ascends t.table id entry calm.ascends;
  message = each_at_rest new t.table id entry rest (λ other apart. rest_but id k new same other apart (entry_at t.table other) (calm.message other apart));
}

-- or the request that waited is all that has gone
pub rests_still : (k : Kept) (t : TableNode) → IsCalm k t → IsResting (record k { held = [] }) t
rests_still k t calm = record {
  up = calm.up;
  life = calm.life;
  incarnation = calm.incarnation;
  clock = calm.clock;
  serial = calm.serial;
  ticket = calm.ticket;
  waits = refl;
  ids = calm.ids;
  ascends = calm.ascends;
  message = λ id. rest_as k (record k { held = [] }) id (entry_at t.table id) refl (λ place. refl) (λ given. given) (calm.message id);
}

-- who waits is no matter
pub calm_with : (k : Kept) (t : TableNode) (held : List Held) → IsCalm k t → IsCalm (record k { held = held }) t
calm_with k t held calm = record {
  up = calm.up;
  life = calm.life;
  incarnation = calm.incarnation;
  clock = calm.clock;
  serial = calm.serial;
  ticket = calm.ticket;
  ids = calm.ids;
  ascends = calm.ascends;
  message = λ id. rest_as k (record k { held = held }) id (entry_at t.table id) refl (λ place. refl) (λ given. given) (calm.message id);
}

pub calm_at_rest : (k : Kept) (t : TableNode) → IsResting k t → IsCalm k t
calm_at_rest k t resting = record {
  up = resting.up;
  life = resting.life;
  incarnation = resting.incarnation;
  clock = resting.clock;
  serial = resting.serial;
  ticket = resting.ticket;
  ids = resting.ids;
  ascends = resting.ascends;
  message = resting.message;
}

-- an id that was given was given
given_next : (k : Kept) (id : ℕ) → was_given k id ≡ true → was_given (record k { serial = suc k.serial }) id ≡ true
given_next k id given =
    elim (or_cases (nat_lt (incarnation_of id) k.incarnation) ((incarnation_of id == k.incarnation) && nat_lt (serial_of id) k.serial) given) [
      | inl earlier ↦ or_left (nat_lt (incarnation_of id) k.incarnation) ((incarnation_of id == k.incarnation) && nat_lt (serial_of id) (suc k.serial)) earlier
      | inr now ↦
          let parts = and_parts (incarnation_of id == k.incarnation) (nat_lt (serial_of id) k.serial) now in
          let below = ltb-true (serial_of id) k.serial parts.1 in
          or_right (nat_lt (incarnation_of id) k.incarnation) ((incarnation_of id == k.incarnation) && nat_lt (serial_of id) (suc k.serial))
          (and_from (incarnation_of id == k.incarnation) (nat_lt (serial_of id) (suc k.serial)) parts.0 (lt-ltb (serial_of id) (suc k.serial) (omega arith)))
    ]

pub given_later : (k : Kept) (request : Request) (new : Held) (id : ℕ) → was_given k id ≡ true → was_given (waits_too k request new) id ≡ true
given_later k (Submit other message) new id given = given_next k id given
given_later k (Query other account source) new id given = given
given_later k (Cancel other account source destination) new id given = given

-- a request comes
abbrev pub noted : TableNode → Request → TableNode
noted t request = record t { serial = next_serial request t.serial; ticket = suc t.ticket }

abbrev pub newcomer : Kept → Request → Held
newcomer k request = begun k.ticket k.clock request

abbrev pub arrived : Kept → Request → Kept
arrived k request = waits_too k request (newcomer k request)

pub calm_arrived : (k : Kept) (t : TableNode) (request : Request) → IsResting k t → IsCalm (arrived k request) (noted t request)
calm_arrived k t request resting = record {
  up = resting.up;
  life = resting.life;
  incarnation = resting.incarnation;
  clock = resting.clock;
  serial = ap (next_serial request) resting.serial;
  ticket = ap suc resting.ticket;
  ids = resting.ids;
  ascends = resting.ascends;
  message = λ id. rest_as k (arrived k request) id (entry_at t.table id) refl (λ place. refl)
      (given_later k request (newcomer k request) id) (resting.message id);
}

pub held_arrived : (k : Kept) (t : TableNode) (request : Request) → IsResting k t → (arrived k request).held ≡ newcomer k request ∷ []
held_arrived k t request resting = ap (λ (held : List Held). held ++ newcomer k request ∷ []) resting.waits
