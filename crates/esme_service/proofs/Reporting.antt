-- The report of a chain of which a receipt was asked.
use Rattle.std.proofs.Common.{◌≡◌, ℕ, ◌<◌, Bool, true, false, List, [], ◌∷◌, length, reverse, Option, Some, None, refl, sym, ap, ◌∙◌, arith}
use Rattle.std.proofs.lemmas.List.{length-reverse}
use Rattle.std.specs.Prelude.{slice_get, option_map}
use Rattle.mc_model.specs.message.Chain.{Chain, IsPermitted, final_by, final_in, taken_in, untold, untold_by}
use Rattle.mc_model.specs.message.Decree.{Attempt, Decree, Failed, Fate, Final, Kind, Taken, Told}
use Rattle.mc_model.specs.message.Submission.{Submission}
use Rattle.mc_model.specs.message.Receipts.{AsksReceipt}
use Rattle.node_model.specs.Answers.{is_asked}
use Rattle.node_model.proofs.Receipts.{asked_decides}
use Rattle.mc_parts.proofs.Fates.{state_of_untold}
use Rattle.fate_chain.proofs.Untold.{ends_in_fate}
use Rattle.receipts.specs.Receipts.{IsAsked, IsTold, Reports}
use Rattle.receipts.specs.Texts.{Report}
use Rattle.esme_service.specs.Reports.{began_at, report_if, reported_as, reported_below, reported_by_fate, reported_on}

-- A chain that ends in a Told reports what stands below it.
told_reports : (id : ℕ) (decrees : List Decree) → IsTold decrees
    → reported_on id decrees ≡ reported_by_fate id (began_at decrees) (taken_in decrees) (untold decrees)
told_reports id [] told = absurd told
told_reports id (newest ∷ older) told =
    ap (reported_below id (began_at (newest ∷ older)) (taken_in (newest ∷ older)) older) told
    ∙ ap (λ (kind : Kind). reported_by_fate id (began_at (newest ∷ older)) (taken_in (newest ∷ older)) (untold_by kind (newest ∷ older) older)) (sym told)

-- Any other reports nothing.
pub untold_reports : (id : ℕ) (decrees : List Decree) → (IsTold decrees → ⊥) → reported_on id decrees ≡ None
untold_reports id [] untold = refl
untold_reports id (newest ∷ older) untold = by_kind newest.kind refl
  where
    by_kind : (kind : Kind) → newest.kind ≡ kind → reported_on id (newest ∷ older) ≡ None
    by_kind (Taken message) is = ap (reported_below id (began_at (newest ∷ older)) (taken_in (newest ∷ older)) older) is
    by_kind (Attempt number) is = ap (reported_below id (began_at (newest ∷ older)) (taken_in (newest ∷ older)) older) is
    by_kind (Failed error) is = ap (reported_below id (began_at (newest ∷ older)) (taken_in (newest ∷ older)) older) is
    by_kind (Fate final error) is = ap (reported_below id (began_at (newest ∷ older)) (taken_in (newest ∷ older)) older) is
    by_kind Told is = absurd (untold is)

-- What reports something ends in a Told.
pub reports_told : (id : ℕ) (decrees : List Decree) (report : Report) → reported_on id decrees ≡ Some report → IsTold decrees
reports_told id [] report is = absurd cc
reports_told id (newest ∷ older) report is = by_kind newest.kind refl
  where
    by_kind : (kind : Kind) → newest.kind ≡ kind → IsTold (newest ∷ older)
    by_kind (Taken message) same = (let other = ap (reported_below id (began_at (newest ∷ older)) (taken_in (newest ∷ older)) older) same in absurd cc)
    by_kind (Attempt number) same = (let other = ap (reported_below id (began_at (newest ∷ older)) (taken_in (newest ∷ older)) older) same in absurd cc)
    by_kind (Failed error) same = (let other = ap (reported_below id (began_at (newest ∷ older)) (taken_in (newest ∷ older)) older) same in absurd cc)
    by_kind (Fate final error) same = (let other = ap (reported_below id (began_at (newest ∷ older)) (taken_in (newest ∷ older)) older) same in absurd cc)
    by_kind Told same = same

reported_first : (id : ℕ) (newest : Decree) (older : List Decree) (report : Report) (began : Option ℕ) (taken : Option Submission) (kind : Kind)
    → began ≡ Some report.began → taken ≡ Some report.taken → kind ≡ Fate report.final report.error → report.id ≡ id → report.ended ≡ newest.moment
    → is_asked report.final report.taken ≡ true → reported_as id began taken newest.moment kind ≡ Some report
reported_first id newest older report began taken kind when what fate same ended asks =
    (λ i. reported_as id (when i) (what i) newest.moment (fate i))
    ∙ ap (λ (asked : Bool). report_if asked
    (record { id = id; taken = report.taken; began = report.began; final = report.final; error = report.error; ended = newest.moment })) asks
    ∙ (λ i. Some (record { id = sym same i; taken = report.taken; began = report.began; final = report.final; error = report.error; ended = sym ended i }))

-- What a chain reports of which a receipt was asked and told is its report.
pub reported_so : (chain : Chain) (report : Report) → Reports chain report → AsksReceipt report.final report.taken → IsTold chain.decrees
    → reported_on chain.id chain.decrees ≡ Some report
reported_so chain report reports asks told = told_reports chain.id chain.decrees told ∙ by_chain (untold chain.decrees) reports.last
  where
    first : began_at chain.decrees ≡ Some report.began
    first = ap (option_map (λ (d : Decree). d.moment)) reports.first ∙ ap Some (sym reports.began)

    by_chain : (decrees : List Decree) → slice_get decrees 0 ≡ Some reports.newest →
        reported_by_fate chain.id (began_at chain.decrees) (taken_in chain.decrees) decrees ≡ Some report
    by_chain [] last = absurd cc
    by_chain (newest ∷ older) last =
        let same : newest ≡ reports.newest = cc in
        reported_first chain.id newest older report (began_at chain.decrees) (taken_in chain.decrees) newest.kind first reports.taken
        (ap (λ (d : Decree). d.kind) same ∙ reports.fate) reports.id
        (reports.ended ∙ ap (λ (d : Decree). d.moment) (sym same)) ((asked_decides report.final report.taken).1 asks)

first_there : (all : List Decree) → 0 < length all → (first : Decree) × (slice_get all 0 ≡ Some first)
first_there [] some = absurd (omega arith)
first_there (first ∷ others) some = (first, refl)

-- If a receipt was asked of a chain and told, it reports something.
pub asked_reports : (id : ℕ) (decrees : List Decree) → IsPermitted id decrees → IsAsked decrees → IsTold decrees → reported_on id decrees ≡ None → ⊥
asked_reports id [] permitted asked told none = absurd permitted
asked_reports id (newest ∷ older) permitted asked told none =
    let decrees = newest ∷ older in
    let ended = ends_in_fate id decrees asked.final permitted asked.ends in
    let oldest = first_there (reverse decrees) (omega (arith, length-reverse decrees)) in
    let report : Report = record { id = id; taken = asked.taken; began = oldest.0.moment; final = asked.final; error = ended.error; ended = ended.fate.moment } in
    let reported = reported_first id ended.fate ended.older report (began_at decrees) (taken_in decrees) ended.fate.kind
    (ap (option_map (λ (d : Decree). d.moment)) oldest.1) asked.message ended.kind_is refl refl ((asked_decides asked.final asked.taken).1 asked.asks) in
    let same = told_reports id decrees told ∙ ap (reported_by_fate id (began_at decrees) (taken_in decrees)) ended.chain_is ∙ reported in
    (let none = none in cc)

-- What reports something was asked for a receipt.
pub reports_asked : (id : ℕ) (decrees : List Decree) (report : Report) → reported_on id decrees ≡ Some report → IsAsked decrees
reports_asked id decrees report is =
    by_untold (untold decrees) (state_of_untold decrees) (sym (told_reports id decrees (reports_told id decrees report is)) ∙ is)
  where
    by_asked : (asked : Bool) (made : Report) → is_asked made.final made.taken ≡ asked → final_in decrees ≡ Some made.final →
        taken_in decrees ≡ Some made.taken → report_if asked made ≡ Some report → IsAsked decrees
    by_asked true made asks ends takes is =
        record { final = made.final; taken = made.taken; ends = ends; message = takes; asks = (asked_decides made.final made.taken).0 asks }
    by_asked false made asks ends takes is = absurd cc

    by_kind : (began : Option ℕ) (taken : Option Submission) (ended : ℕ) (kind : Kind) (below : Option Final) → taken_in decrees ≡ taken →
        final_by kind below ≡ final_in decrees → reported_as id began taken ended kind ≡ Some report → IsAsked decrees
    by_kind (Some began) (Some taken) ended (Fate final error) below takes state is =
        by_asked (is_asked final taken)
        (record { id = id; taken = taken; began = began; final = final; error = error; ended = ended }) refl (sym state) takes is
    by_kind None taken ended kind below takes state is = absurd cc
    by_kind (Some began) None ended kind below takes state is = absurd cc
    by_kind (Some began) (Some taken) ended (Taken message) below takes state is = absurd cc
    by_kind (Some began) (Some taken) ended (Attempt number) below takes state is = absurd cc
    by_kind (Some began) (Some taken) ended (Failed error) below takes state is = absurd cc
    by_kind (Some began) (Some taken) ended Told below takes state is = absurd cc

    by_untold : (chain : List Decree) → final_in chain ≡ final_in decrees →
        reported_by_fate id (began_at decrees) (taken_in decrees) chain ≡ Some report → IsAsked decrees
    by_untold [] state is = absurd cc
    by_untold (newest ∷ older) state is = by_kind (began_at decrees) (taken_in decrees) newest.moment newest.kind (final_in older) refl state is

-- So if none was asked, it reports nothing.
pub reports_nothing : (id : ℕ) (decrees : List Decree) → (IsAsked decrees → ⊥) → reported_on id decrees ≡ None
reports_nothing id decrees unasked = by_report (reported_on id decrees) refl
  where
    by_report : (found : Option Report) → reported_on id decrees ≡ found → reported_on id decrees ≡ None
    by_report None is = is
    by_report (Some report) is = absurd (unasked (reports_asked id decrees report is))
