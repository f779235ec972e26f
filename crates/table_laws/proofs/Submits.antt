-- A submit_sm comes to a node by itself, which settles.
use Rattle.std.proofs.Common.{◌≡◌, ℕ, suc, true, List, [], ◌∷◌, length, Option, Some, refl, sym, ap, ◌∙◌, inl, inr, arith, subst, Bool, false}
use Rattle.std.specs.Prelude.{◌==◌, ◌&&◌, if◌then◌else◌, nat_lt, not}
use Rattle.std.proofs.lemmas.Bool.{and_from, and_parts, eq-eqb, lt-ltb, ltb-true, or_cases, or_right}
use Rattle.mc_model.specs.message.Decree.{Decree, Taken, Told}
use Rattle.mc_model.specs.message.Ids.{IsIncarnation, IsSerial, id_of, incarnation_of, node_of, serial_of}
use Rattle.mc_model.specs.message.Submission.{Submission}
use Rattle.mc_model.specs.synod.Packet.{Prepare, slot_at}
use Rattle.mc_model.specs.node.Actor.{Request, Submit}
use Rattle.mc_model.specs.node.Input.{Arrival}
use Rattle.mc_model.specs.node.Setup.{Setup}
use Rattle.node_model.specs.Kept.{Held, Kept, with_message}
use Rattle.node_model.specs.Packets.{was_given}
use Rattle.node_model.specs.Proposer.{Start, started}
use Rattle.node_model.specs.Starts.{take_for}
use Rattle.node_model.specs.Stepped.{stepped}
use Rattle.node_model.specs.Ticks.{begun_with}
use Rattle.node_model.specs.Answers.{had_fate, receipts_of}
use Rattle.table_laws.specs.Alone.{alone}
use Rattle.table_laws.specs.Tables.{TableNode, chain_at, decree_by, known_as, moment_behind, receipts_by, receipts_with, reply_to, requested, tells}
use Rattle.table_laws.specs.Resting.{IsResting, IsTaken, IsTakenIfAny}
use Rattle.table_laws.specs.Settling.{SettlesOn}
use Rattle.table_laws.proofs.Frames.{eqb_self}
use Rattle.table_laws.proofs.Carrying.{ballot, round_starts, start, tried}
use Rattle.table_laws.proofs.Ending.{AllAnswered, settles_after}
use Rattle.table_laws.proofs.Tellings.{and_false}
use Rattle.table_laws.proofs.Coming.{round_ends}
use Rattle.table_laws.proofs.Calm.{IsCalm, arrived, calm_arrived, held_arrived, newcomer, noted, calm_but}
use Rattle.table_laws.proofs.Leading.{few_enough}

-- ---- the next id

module _ (k : Kept) (id : ℕ) (life : IsIncarnation k.incarnation) (serial : IsSerial k.serial) (id_is : id ≡ id_of 1 k.incarnation k.serial) where
  incarnation_is : incarnation_of id ≡ k.incarnation
  incarnation_is = let most = life.most in let last = serial.most in omega arith

  serial_is : serial_of id ≡ k.serial
  serial_is = let most = life.most in let last = serial.most in omega arith

  not_given : was_given k id ≡ true → ⊥
  not_given given = elim (or_cases (nat_lt (incarnation_of id) k.incarnation) ((incarnation_of id == k.incarnation) && nat_lt (serial_of id) k.serial) given) [
    | inl earlier ↦ omega (arith, incarnation_is, ltb-true (incarnation_of id) k.incarnation earlier)
    | inr now ↦
        let parts = and_parts (incarnation_of id == k.incarnation) (nat_lt (serial_of id) k.serial) now in
        omega (arith, serial_is, ltb-true (serial_of id) k.serial parts.1)
  ]

  pub none_if_not_given : (chain : List Decree) → IsTakenIfAny k id chain → chain ≡ []
  none_if_not_given [] taken = refl
  none_if_not_given (newest ∷ older) taken = absurd (not_given taken.given)

  given_now : was_given (record k { serial = suc k.serial }) id ≡ true
  given_now =
      or_right (nat_lt (incarnation_of id) k.incarnation) ((incarnation_of id == k.incarnation) && nat_lt (serial_of id) (suc k.serial))
      (and_from (incarnation_of id == k.incarnation) (nat_lt (serial_of id) (suc k.serial)) (eq-eqb (incarnation_of id) k.incarnation incarnation_is)
      (lt-ltb (serial_of id) (suc k.serial) (omega (arith, serial_is))))

-- ---- its message

module _ (first validity : ℕ) (k : Kept) (t : TableNode) (id : ℕ) (message : Submission) (resting : IsResting k t) (serial : IsSerial k.serial)
    (id_is : id ≡ id_of 1 k.incarnation k.serial) where
  abbrev setup : Setup
  setup = alone first validity

  abbrev request : Request
  request = Submit id message

  abbrev k0 : Kept
  k0 = arrived k request

  abbrev new : Held
  new = newcomer k request

  abbrev old : List Decree
  old = chain_at t.table id

  abbrev decree : Decree
  decree = decree_by t old (Taken message)

  abbrev chain : List Decree
  chain = decree ∷ old

  abbrev b : ℕ
  b = ballot first validity id old decree k0

  calm : IsCalm k0 (noted t request)
  calm = calm_arrived k t request resting

  empty : old ≡ []
  empty = none_if_not_given k id resting.life serial id_is old (resting.message id).taken

  start_is : take_for setup k new request ≡ Some (start first validity id old decree)
  start_is = λ i. Some (record {
    place = length (sym empty i);
    chain = record {
      author = record { node = 1; incarnation = resting.incarnation i };
      moment = moment_behind (resting.clock i) (sym empty i);
      kind = Taken message;
    } ∷ sym empty i;
  })

  begun_is : stepped setup k (Arrival request) ≡ begun_with setup k new (record {
    kept = with_message k0 id (tried first validity id old decree k0);
    packets = Prepare 1 (slot_at id (length old)) b ∷ [];
  })
  begun_is =
      let up : stepped setup k (Arrival request) ≡ begun_with setup k new (started setup k0 id (take_for setup k new request)) = rw resting.up refl in
      up
      ∙ (ap (λ (o : Option Start). begun_with setup k new (started setup k0 id o)) start_is
      ∙ ap (begun_with setup k new) (round_starts first validity id old decree k0 (calm.message id).ready))

  taken : IsTaken k0 id chain
  taken = record { message = message; taken = refl; given = given_now k id resting.life serial id_is }

  answered : AllAnswered setup id chain (new ∷ []) (reply_to t request ∷ [])
  answered = record {
    settled = rw (eqb_self id) refl;
    undeleted = λ kept. refl;
    gone = rw (eqb_self id) refl;
    told = rw (eqb_self id, resting.ticket) refl;
  }

  held_is : k0.held ≡ new ∷ []
  held_is = held_arrived k t request resting

  -- a message that is taken has no receipt
  untold : tells old decree ≡ false
  untold = and_false (not (had_fate (known_as old)))

  unreported : receipts_with t id old decree ≡ []
  unreported =
      ap (λ (test : Bool). receipts_of 1 t.incarnation id (known_as old) (if test then decree_by t chain Told ∷ chain else chain)) untold
      ∙ ap (λ (test : Bool). if test then record { id = id; chain = chain } ∷ [] else []) (and_false (node_of id == 1))

  pub submit_settles : SettlesOn setup (stepped setup k (Arrival request)) (requested t request) (reply_to t request ∷ []) (receipts_by t request)
  submit_settles =
      subst (SettlesOn setup (stepped setup k (Arrival request)) (requested t request) (reply_to t request ∷ [])) unreported
      (settles_after setup _ _ (requested t request) (reply_to t request ∷ []) (receipts_with t id old decree) begun_is refl refl
      (inr (inl unreported))
      (round_ends first validity k0 (noted t request) id old decree (new ∷ []) (reply_to t request ∷ []) (calm_but id k0 (noted t request) calm)
      (calm.message id).ready held_is taken answered)
      (few_enough (requested t request) (omega arith)))
