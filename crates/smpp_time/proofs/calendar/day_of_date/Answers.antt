use Rattle.std.proofs.Common.{ap, ◌∙◌, ◌<◌, ◌^◌, unsigned_abs, arith, w32}
use Rattle.jiff_core.proofs.SignedLemmas.{signed_arith}
use Rattle.smpp_time.specs.Calendar.{day_number}
use Rattle.smpp_time.specs.Dates.{plain_date}
use Rattle.smpp_time.proofs.Dates.{back, epoch_same}
use Rattle.smpp_time.proofs.calendar.day_of_date.Goals as goal

pub returns-clause-value : goal.returns-clause-value
returns-clause-value c =
    let same = c.to_unix_epoch_day.ensures.value ∙ epoch_same c.args.date c.requires in
    let few : day_number (plain_date c.args.date) < 2 ^ 31 = omega (arith, signed_arith, same, c.to_unix_epoch_day.ensures.bound.1) in
    c.from.ensures ∙ c.unsigned_abs.ensures.value ∙ ap unsigned_abs (back w32 c.to_unix_epoch_day.result (day_number (plain_date c.args.date)) same few)

pub returns-clause-bound : goal.returns-clause-bound
returns-clause-bound c =
    let same = c.to_unix_epoch_day.ensures.value ∙ epoch_same c.args.date c.requires in
    let few : day_number (plain_date c.args.date) < 2 ^ 31 = omega (arith, signed_arith, same, c.to_unix_epoch_day.ensures.bound.1) in
    let told = c.from.ensures ∙ c.unsigned_abs.ensures.value ∙ ap unsigned_abs
    (back w32 c.to_unix_epoch_day.result (day_number (plain_date c.args.date)) same few) in
    omega (arith, signed_arith, told, same, c.to_unix_epoch_day.ensures.bound.1)
