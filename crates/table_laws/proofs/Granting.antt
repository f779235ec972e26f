-- An attempt is asked for at a node by itself, or its outcome comes.
use Rattle.std.proofs.Common.{◌≡◌, ℕ, pred, ◌<◌, ◌≤◌, Bool, true, false, List, [], ◌∷◌, get_or, length, max, Option, Some, None, refl, ap, ◌∙◌, inl, inr, arith}
use Rattle.std.specs.Prelude.{◌==◌, if◌then◌else◌}
use Rattle.std.proofs.lemmas.Bool.{ne_eqb}
use Rattle.std.specs.Map.{keys_of}
use Rattle.std.specs.Option.{unwrap_or}
use Rattle.std.specs.Ordering.{nat_cmp}
use Rattle.std.specs.BTreeSet.{insert_key}
use Rattle.mc_model.specs.message.Decree.{Attempt, Decree, Failed, Fate, Told, Kind, Taken}
use Rattle.mc_model.specs.synod.Lists.{In}
use Rattle.mc_model.specs.synod.Packet.{slot_at}
use Rattle.mc_model.specs.node.Input.{Grant, Response}
use Rattle.mc_model.specs.node.Outcome.{Outcome, decree_of}
use Rattle.mc_model.specs.node.Setup.{Setup}
use Rattle.node_model.specs.Attempts.{concluded, concluded_then, grant_refusal, known_refusal, newest_refusal as newest_refused, on_grant}
use Rattle.node_model.specs.Kept.{Kept, message_at, with_message}
use Rattle.node_model.specs.Message.{Message}
use Rattle.node_model.specs.Proposer.{Start, started}
use Rattle.node_model.specs.Stepped.{stepped}
use Rattle.node_model.proofs.Places.{message_here}
use Rattle.table_laws.specs.Alone.{alone}
use Rattle.table_laws.specs.Attempts.{chain_refusal, concluded_at, granted_at, newest_refusal, newest_slot, receipts_on, refusal_at}
use Rattle.table_laws.specs.Tables.{Entry, TableNode, decree_by, entry_at, known_as, nothing}
use Rattle.table_laws.specs.Resting.{IsAtRest, IsResting, IsTaken}
use Rattle.table_laws.specs.Settling.{SettlesOn}
use Rattle.table_laws.proofs.Calm.{IsCalmBut, calm_at_rest, calm_but, rests_with}
use Rattle.table_laws.proofs.Carrying.{round_starts, start}
use Rattle.table_laws.proofs.Ending.{none_answered, settles_after}
use Rattle.table_laws.proofs.Coming.{round_ends}
use Rattle.table_laws.proofs.Frames.{eqb_self, rest_but, same_with, taken_as}
use Rattle.table_laws.proofs.Grounds.{IsGround, closed_ground, closed_then, taken_more}
use Rattle.table_laws.proofs.Mapped.{among_keys, insert_listed}
use Rattle.table_laws.proofs.Ruling.{taken_now}
use Rattle.mc_parts.proofs.Membership.{slot_self}
use Rattle.table_laws.proofs.Leading.{leads_same, few_enough}

-- ---- a grant

module _ (first validity : ℕ) (k : Kept) (t : TableNode) (id : ℕ) (resting : IsResting k t) where
  abbrev setup : Setup
  setup = alone first validity

  abbrev entry : Entry
  entry = entry_at t.table id

  abbrev old : List Decree
  old = entry.chain

  abbrev place : ℕ
  place = pred (length old)

  rest : IsAtRest k id entry
  rest = resting.message id

  chain_refused : (chain : List Decree) (granted : Bool) → IsAtRest k id (record { chain = chain; granted = granted }) →
      known_refusal setup k (message_at k id) (known_as chain) ≡ chain_refusal t granted chain
  chain_refused [] granted is = refl
  chain_refused (newest ∷ older) granted is = by_kind newest.kind
    where
      by_kind : (kind : Kind) → newest_refused setup k (message_at k id) newest (length older) kind ≡ newest_refusal t granted newest kind
      by_kind (Taken message) = refl
      by_kind (Attempt number) = rw (resting.incarnation, is.granted, is.unclosed) refl
      by_kind (Failed error) = refl
      by_kind (Fate final error) = refl
      by_kind Told = refl

  -- it is refused by the table
  pub grant_refused : grant_refusal setup k id ≡ refusal_at t id
  grant_refused = ap (known_refusal setup k (message_at k id)) rest.ready.known ∙ chain_refused old entry.granted rest

  some_if_granted : (granted : Bool) (chain : List Decree) → chain_refusal t granted chain ≡ None → 0 < length chain
  some_if_granted granted [] is = absurd (cc)
  some_if_granted granted (newest ∷ older) is = omega arith

  module _ (some : 0 < length old) where
    abbrev given : Message
    given = record (message_at k id) { granted = λ other. if other == place then true else (message_at k id).granted other }

    abbrev after_grant : Kept
    after_grant = with_message k id given

    beyond_newest : (other : ℕ) → length old ≤ other → given.granted other ≡ (message_at k id).granted other
    beyond_newest other above =
        let differs : (other == place) ≡ false = ne_eqb other place
        (λ same. let is : other ≡ pred (length old) = same in omega (arith, some, above, is)) in rw differs refl

    newest_given : given.granted place ≡ true
    newest_given = rw (eqb_self place) refl

    granted_rests : IsAtRest after_grant id (record entry { granted = true })
    granted_rests = record {
      ready = record {
        known = ap (λ (m : Message). m.known) (message_here k id given) ∙ rest.ready.known;
        idle = ap (λ (m : Message). m.round) (message_here k id given) ∙ rest.ready.idle;
        votes = rest.ready.votes;
        beyond = λ other above. record {
          record_is = (rest.ready.beyond other above).record_is;
          seen = ap (λ (m : Message). get_or m.seen other 0) (message_here k id given) ∙ (rest.ready.beyond other above).seen;
          ungranted = ap (λ (m : Message). m.granted other) (message_here k id given) ∙ (beyond_newest other above ∙ (rest.ready.beyond other above).ungranted);
          unclosed = ap (λ (m : Message). m.closed other) (message_here k id given) ∙ (rest.ready.beyond other above).unclosed;
        };
      };
      taken = taken_as k after_grant id old (λ given. given) rest.taken;
      granted = ap (λ (m : Message). m.granted place) (message_here k id given) ∙ newest_given;
      unclosed = ap (λ (m : Message). m.closed place) (message_here k id given) ∙ rest.unclosed;
    }

    grant_then : SettlesOn setup (stepped setup k (Grant (newest_slot t id))) (granted_at t id) [] []
    grant_then =
        let begun : stepped setup k (Grant (newest_slot t id)) ≡ on_grant k (newest_slot t id) = rw resting.up refl in
        settles_after setup _ _ (granted_at t id) [] [] begun refl refl (inl refl) (record {
          kept = after_grant;
          leads = leads_same setup _ _ refl;
          resting = rests_with k after_grant t id (record entry { granted = true }) (calm_but id k t (calm_at_rest k t resting))
              (same_with k id given k.held) resting.waits granted_rests;
        }) (few_enough (granted_at t id) (omega arith))

    -- ---- an outcome

    module _ (outcome : Outcome) where
      abbrev decree : Decree
      decree = decree_by t old (decree_of outcome)

      abbrev closed : Kept
      closed = with_message k id (closed_then k id old some outcome)

      ground : IsGround id old k closed
      ground = closed_ground k id old some outcome rest.ready

      taken : IsTaken k id old
      taken = taken_now k id old some rest.taken

      concluded_as : (chain : List Decree) → IsTaken k id chain →
          concluded setup k (slot_at id (pred (length chain))) outcome (known_as chain) ≡ Some
          (start first validity id chain (decree_by t chain (decree_of outcome)))
      concluded_as [] was_taken = let both = was_taken.taken in absurd (cc)
      concluded_as (newest ∷ older) was_taken =
          rw (slot_self (slot_at id (length older)), was_taken.taken)
          (λ i. Some (record {
            place = length (newest ∷ older);
            chain = record {
              author = record { node = 1; incarnation = resting.incarnation i };
              moment = max (resting.clock i) newest.moment;
              kind = decree_of outcome;
            } ∷ newest ∷ older;
          }))

      listed : (found : Entry) → entry_at t.table id ≡ found → In id (keys_of t.table)
      listed found is = elim (among_keys id t.table) [
        | inl none ↦
            let empty : entry_at t.table id ≡ nothing = ap (λ (o : Option Entry). unwrap_or o nothing) none in
            let none_there : length old ≡ 0 = ap (λ (e : Entry). length e.chain) empty in absurd (omega (arith, some, none_there))
        | inr among ↦ among
      ]

      calm_then : IsCalmBut id closed t
      calm_then = record {
        up = resting.up;
        life = resting.life;
        incarnation = resting.incarnation;
        clock = resting.clock;
        serial = resting.serial;
        ticket = resting.ticket;
        ids =
            (same_with k id (closed_then k id old some outcome) k.held).ids
            ∙ (ap (λ (ids : List ℕ). insert_key nat_cmp ids id) resting.ids ∙ insert_listed id (keys_of t.table) resting.ascends (listed entry refl));
        ascends = resting.ascends;
        message = λ other apart. rest_but id k closed (same_with k id (closed_then k id old some outcome) k.held) other apart
            (entry_at t.table other) (resting.message other);
      }

      pub response_settles : SettlesOn setup (stepped setup k (Response (newest_slot t id) outcome)) (concluded_at t id outcome) [] (receipts_on t id outcome)
      response_settles =
          let begun : stepped setup k (Response (newest_slot t id) outcome)
          ≡ concluded_then (started setup closed id (concluded setup k (newest_slot t id) outcome (message_at k id).known)) = rw resting.up refl in
          settles_after setup _ _ (concluded_at t id outcome) [] (receipts_on t id outcome)
          (begun
          ∙ (ap (λ (o : Option Start). concluded_then (started setup closed id o))
          (ap (concluded setup k (newest_slot t id) outcome) rest.ready.known ∙ concluded_as old taken)
          ∙ ap concluded_then (round_starts first validity id old decree closed ground.ready)))
          refl
          refl
          (inl refl)
          (round_ends first validity closed t id old decree [] [] calm_then ground.ready resting.waits
          (taken_more closed id decree old (record { message = taken.message; taken = taken.taken; given = taken.given }))
          (none_answered first validity id decree old))
          (few_enough (concluded_at t id outcome) (omega arith))

  pub grant_settles : refusal_at t id ≡ None → SettlesOn setup (stepped setup k (Grant (newest_slot t id))) (granted_at t id) [] []
  grant_settles allowed = grant_then (some_if_granted entry.granted old allowed)

  pub grant_given : (stepped setup k (Grant (newest_slot t id))).outputs.granted ≡ Some (newest_slot t id)
  grant_given = rw resting.up refl
