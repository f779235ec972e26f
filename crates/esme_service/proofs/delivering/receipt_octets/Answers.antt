use Rattle.std.proofs.Common.{Err, Option, Some, refl, ap, sym, ◌∙◌}
use Rattle.std.specs.Prelude.{option_map}
use Rattle.pdu_codec.specs.Pdu.{octets_of}
use Rattle.receipts.specs.Receipts.{HasFate, IsAsked, receipt_message}
use Rattle.receipts.specs.Texts.{Report}
use Rattle.esme_service.specs.Sendings.{report_octets}
use Rattle.esme_service.proofs.Reporting.{asked_reports, reported_so, reports_nothing, untold_reports}
use Rattle.esme_service.proofs.delivering.receipt_octets.Goals as goal

pub returns-in_ok-encoded-in-Ok-clause-octets : goal.returns-in_ok-encoded-in-Ok-clause-octets
returns-in_ok-encoded-in-Ok-clause-octets c =
    let is = c.in-Ok.ensures.pdu in
    ap Some (c.in_ok-encoded-in-Ok.ensures ∙ ap octets_of (c.fitted.ensures (receipt_message is.report) is.pdu_is))
    ∙ ap (λ (found : Option Report). option_map (report_octets c.args.pushed.sequence c.args.pushed.knows_optional) found)
    (sym (reported_so c.args.chain.now is.report is.reports is.asked is.told))

pub returns-in-Err-Memory-clause-none : goal.returns-in-Err-Memory-clause-none
returns-in-Err-Memory-clause-none c = λ none.
    let memory = c.in-Err-Memory.is ∙ ap Err c.in-Err-Memory.field-0-is in
    let unasked : IsAsked c.args.chain.now.decrees → ⊥ = λ asked.
    (let said = c.receipt_pdu.ensures.not_told.1 (asked, λ told. asked_reports c.args.chain.now.id c.args.chain.now.decrees c.bounds.ensures.permitted asked told none) in cc) in
    let fateless : HasFate c.args.chain.now.decrees → ⊥ = λ fate. (let said = c.receipt_pdu.ensures.not_asked.1 (fate, unasked) in cc) in
    absurd (let said = c.receipt_pdu.ensures.no_fate.1 fateless in cc)

pub returns-in-Err-NoFate : goal.returns-in-Err-NoFate
returns-in-Err-NoFate c =
    let fateless = c.receipt_pdu.ensures.no_fate.0 (c.in-Err-NoFate.is ∙ ap Err c.in-Err-NoFate.field-0-is) in
    let nothing = reports_nothing c.args.chain.now.id c.args.chain.now.decrees (λ asked. fateless (asked.final, asked.ends)) in
    record {
      octets = ap (λ (found : Option Report). option_map (report_octets c.args.pushed.sequence c.args.pushed.knows_optional) found) (sym nothing);
      none = λ none. refl;
    }

pub returns-in-Err-NotAsked : goal.returns-in-Err-NotAsked
returns-in-Err-NotAsked c =
    let unasked = c.receipt_pdu.ensures.not_asked.0 (c.in-Err-NotAsked.is ∙ ap Err c.in-Err-NotAsked.field-0-is) in
    let nothing = reports_nothing c.args.chain.now.id c.args.chain.now.decrees unasked.1 in
    record {
      octets = ap (λ (found : Option Report). option_map (report_octets c.args.pushed.sequence c.args.pushed.knows_optional) found) (sym nothing);
      none = λ none. refl;
    }

pub returns-in-Err-NotTold : goal.returns-in-Err-NotTold
returns-in-Err-NotTold c =
    let untold = c.receipt_pdu.ensures.not_told.0 (c.in-Err-NotTold.is ∙ ap Err c.in-Err-NotTold.field-0-is) in
    let nothing = untold_reports c.args.chain.now.id c.args.chain.now.decrees untold.1 in
    record {
      octets = ap (λ (found : Option Report). option_map (report_octets c.args.pushed.sequence c.args.pushed.knows_optional) found) (sym nothing);
      none = λ none. refl;
    }
