-- What a receipt reports.
use Rattle.std.proofs.Common.{◌≡◌, ℕ, ◌<◌, ◌≤◌, ◌^◌, Bool, true, false, List, [], ◌∷◌, Option, Some, None, refl, sym, ap, subst, arith}
use Rattle.mc_model.specs.message.Chain.{final_by, final_in, taken_in}
use Rattle.mc_model.specs.message.Decree.{Attempt, Decree, Failed, Fate, Kind, Taken, Told}
use Rattle.mc_model.specs.message.Ids.{node_of}
use Rattle.mc_model.specs.message.Submission.{Submission}
use Rattle.node_model.specs.Answers.{is_asked}
use Rattle.receipts.specs.Texts.{Report}
use Rattle.script_text.specs.Receipts.{began_at, report_if, reported_as, reported_below, reported_by_fate, reported_on}

-- the id and the final state of its message, and what was taken of it
pub record IsReportOf (id : ℕ) (chain : List Decree) (report : Report) : Type 0 where
  pub id_is : report.id ≡ id
  pub ends : final_in chain ≡ Some report.final
  pub taken : taken_in chain ≡ Some report.taken

pub report_is : (id : ℕ) (chain : List Decree) (report : Report) → reported_on id chain ≡ Some report → IsReportOf id chain report
report_is id [] report is = absurd cc
report_is id (last ∷ below) report is = by_last last.kind refl is
  where
    chain : List Decree
    chain = last ∷ below

    by_asked : (asked : Bool) (made : Report) → made.id ≡ id → final_in chain ≡ Some made.final → taken_in chain ≡ Some made.taken →
        report_if asked made ≡ Some report →
        IsReportOf id chain report
    by_asked true made about ends takes is =
        let same : made ≡ report = cc in
        subst (IsReportOf id chain) same (record { id_is = about; ends = ends; taken = takes })
    by_asked false made about ends takes is = absurd cc

    by_kind : (began : Option ℕ) (taken : Option Submission) (ended : ℕ) (kind : Kind) (older : List Decree) → taken_in chain ≡ taken →
        final_by kind (final_in older) ≡ final_in chain → reported_as id began taken ended kind ≡ Some report →
        IsReportOf id chain report
    by_kind (Some began) (Some taken) ended (Fate final error) older takes state is =
        by_asked (is_asked final taken)
        (record { id = id; taken = taken; began = began; final = final; error = error; ended = ended }) refl (sym state) takes is
    by_kind None taken ended kind older takes state is = absurd cc
    by_kind (Some began) None ended kind older takes state is = absurd cc
    by_kind (Some began) (Some taken) ended (Taken message) older takes state is = absurd cc
    by_kind (Some began) (Some taken) ended (Attempt number) older takes state is = absurd cc
    by_kind (Some began) (Some taken) ended (Failed error) older takes state is = absurd cc
    by_kind (Some began) (Some taken) ended Told older takes state is = absurd cc

    by_fate : (decrees : List Decree) → final_in decrees ≡ final_in chain →
        reported_by_fate id (began_at chain) (taken_in chain) decrees ≡ Some report → IsReportOf id chain report
    by_fate [] state is = absurd cc
    by_fate (newest ∷ older) state is = by_kind (began_at chain) (taken_in chain) newest.moment newest.kind older refl state is

    by_last : (kind : Kind) → last.kind ≡ kind → reported_below id (began_at chain) (taken_in chain) below kind ≡ Some report → IsReportOf id chain report
    by_last (Taken message) same is = absurd cc
    by_last (Attempt number) same is = absurd cc
    by_last (Failed error) same is = absurd cc
    by_last (Fate final error) same is = absurd cc
    by_last Told same is = by_fate below (sym (ap (λ (k : Kind). final_by k (final_in below)) same)) is

-- an id that names a node of nine is a short number
pub named_small : (id : ℕ) → node_of id ≤ 9 → id < 2 ^ 64
named_small id named = omega (arith, named)
