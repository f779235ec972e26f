-- Whether a Told is to follow a decree at once.
use Rattle.std.proofs.Common.{◌≡◌, ℕ, max, Bool, true, false, List, [], ◌∷◌, length, Option, Some, None, refl, sym, ap, ◌∙◌, ◌≤◌, arith}
use Rattle.std.specs.Prelude.{◌&&◌, ◌==◌, not, if◌then◌else◌}
use Rattle.std.proofs.lemmas.Bool.{and_parts, ne_eqb, true≢false}
use Rattle.mc_model.specs.message.Ids.{node_of}
use Rattle.mc_model.specs.message.Decree.{Attempt, Decree, Failed, Fate, Kind, Taken, Told}
use Rattle.mc_model.specs.message.Chain.{home_in, taken_in}
use Rattle.mc_model.specs.message.Submission.{Submission}
use Rattle.mc_model.specs.node.Setup.{Setup}
use Rattle.node_model.specs.Answers.{ends_told, had_fate, is_asked, is_known_so, is_told_by, receipts_of}
use Rattle.node_model.specs.Kept.{Kept}
use Rattle.node_model.specs.Proposer.{Start}
use Rattle.node_model.specs.Starts.{announced, start_behind, tell_for, tell_of}
use Rattle.table_laws.specs.Alone.{alone}
use Rattle.table_laws.specs.Tables.{TableNode, asks_told, decree_by, is_to_tell, known_as, tells}
use Rattle.table_laws.proofs.Carrying.{start}

-- no Told follows a Told
untold_kind : (chain : List Decree) (taken : Option Submission) → asks_told chain Told taken ≡ false
untold_kind chain None = refl
untold_kind chain (Some message) = refl

pub and_false : (test : Bool) → test && false ≡ false
and_false true = refl
and_false false = refl

pub none_behind_told : (t : TableNode) (old : List Decree) → tells old (decree_by t old Told) ≡ false
none_behind_told t old =
    ap (λ (asks : Bool). not (had_fate (known_as old)) && asks) (untold_kind (decree_by t old Told ∷ old) (taken_in (decree_by t old Told ∷ old)))
    ∙ and_false (not (had_fate (known_as old)))

module _ (first validity : ℕ) (t : TableNode) (id : ℕ) (old : List Decree) (decree : Decree) where
  abbrev setup : Setup
  setup = alone first validity

  abbrev chain : List Decree
  chain = decree ∷ old

  abbrev pub told : Decree
  told = decree_by t chain Told

  abbrev StartIf : Bool → Option Start
  StartIf test = if test then Some (start first validity id chain told) else None

  -- a node tells by its table
  pub tell_is : (k : Kept) → k.incarnation ≡ t.incarnation → k.clock ≡ t.clock → tell_for setup k (known_as old) chain ≡ StartIf (tells old decree)
  tell_is k incarnation clock = by_had (had_fate (known_as old))
    where
      by_test : (test : Bool) → (if test then Some (start_behind setup k decree old Told) else None) ≡ StartIf test
      by_test true = λ i. Some (record {
        place = length chain;
        chain = record {
          author = record { node = 1; incarnation = incarnation i };
          moment = max (clock i) decree.moment;
          kind = Told;
        } ∷ chain;
      })
      by_test false = refl

      by_kind : (message : Submission) (kind : Kind) → announced setup k message decree old kind ≡ StartIf (is_to_tell message chain kind)
      by_kind message (Taken taken) = refl
      by_kind message (Attempt number) = refl
      by_kind message (Failed error) = refl
      by_kind message (Fate final error) = by_test ((1 == home_in chain) && is_asked final message)
      by_kind message Told = refl

      by_taken : (taken : Option Submission) → tell_of setup k decree old taken ≡ StartIf (asks_told chain decree.kind taken)
      by_taken None = refl
      by_taken (Some message) = by_kind message decree.kind

      by_had : (had : Bool) → (if had then None else tell_of setup k decree old (taken_in chain)) ≡ StartIf (not had && asks_told chain decree.kind (taken_in chain))
      by_had true = refl
      by_had false = by_taken (taken_in chain)

  -- ---- the receipts of the two rounds

  no_receipt_of : (incarnation : ℕ) (kind : Kind) → is_told_by 1 incarnation decree.author kind ≡ false → decree.kind ≡ kind →
      receipts_of 1 incarnation id (known_as old) chain ≡ []
  no_receipt_of incarnation kind untold is =
      let ends : ends_told 1 incarnation chain ≡ false = ap (is_told_by 1 incarnation decree.author) is ∙ untold in
      ap (λ (test : Bool). if (node_of id == 1) && (test && not (is_known_so (known_as old) chain)) then record { id = id; chain = chain } ∷ [] else []) ends
      ∙ ap (λ (test : Bool). if test then record { id = id; chain = chain } ∷ [] else []) (and_false (node_of id == 1))

  asks_end : (incarnation : ℕ) (kind : Kind) (taken : Option Submission) → asks_told chain kind taken ≡ true → is_told_by 1 incarnation decree.author kind ≡ false
  asks_end incarnation kind None asks = absurd (true≢false (sym asks))
  asks_end incarnation (Taken taken) (Some message) asks = refl
  asks_end incarnation (Attempt number) (Some message) asks = refl
  asks_end incarnation (Failed error) (Some message) asks = refl
  asks_end incarnation (Fate final error) (Some message) asks = refl
  asks_end incarnation Told (Some message) asks = absurd (true≢false (sym asks))

  -- a decree that a Told is to follow has none
  pub silent : (incarnation : ℕ) → tells old decree ≡ true → receipts_of 1 incarnation id (known_as old) chain ≡ []
  silent incarnation it =
      let asks = (and_parts (not (had_fate (known_as old))) (asks_told chain decree.kind (taken_in chain)) it).1 in
      no_receipt_of incarnation decree.kind (asks_end incarnation decree.kind (taken_in chain) asks) refl

  shorter_known : (before : List Decree) → length before ≤ length chain → is_known_so (known_as before) (told ∷ chain) ≡ false
  shorter_known [] short = refl
  shorter_known (newest ∷ older) short = ne_eqb (length (newest ∷ older)) (length (told ∷ chain)) (λ same. omega (arith, short, same))

  -- that of the Told is new behind either
  pub receipts_told : receipts_of 1 t.incarnation id (known_as chain) (told ∷ chain) ≡ receipts_of 1 t.incarnation id (known_as old) (told ∷ chain)
  receipts_told =
      ap (λ (so : Bool). if (node_of id == 1) && (ends_told 1 t.incarnation (told ∷ chain) && not so) then record { id = id; chain = told ∷ chain } ∷ [] else [])
      (shorter_known chain (omega arith) ∙ sym (shorter_known old (omega arith)))
