use Rattle.std.proofs.Common.{◌∙◌, w64, arith}
use Rattle.smpp_time.proofs.Dates.{back, is_date_of, from_1970, up_to_2500, from_2000, up_to_2099}
use Rattle.smpp_time.specs.Dates.{plain_date}
use Rattle.smpp_time.proofs.Years.{date_is_of}
use Rattle.smpp_time.proofs.calendar.date_of_day.Goals as goal

pub returns-clause-value : goal.returns-clause-value
returns-clause-value c =
    let told = rw c.unwrap.ensures at c.from_unix_epoch_day.ensures.value in
    (date_is_of c.args.day (plain_date c.unwrap.result)).1
    (is_date_of c.unwrap.result c.args.day (told ∙ back w64 c.from.result c.args.day c.from.ensures (omega (arith, c.requires))))

pub returns-clause-least : goal.returns-clause-least
returns-clause-least c =
    let told = rw c.unwrap.ensures at c.from_unix_epoch_day.ensures.value in
    from_1970 c.unwrap.result c.args.day (told ∙ back w64 c.from.result c.args.day c.from.ensures (omega (arith, c.requires)))

pub returns-clause-most : goal.returns-clause-most
returns-clause-most c =
    let told = rw c.unwrap.ensures at c.from_unix_epoch_day.ensures.value in
    up_to_2500 c.unwrap.result c.args.day (told ∙ back w64 c.from.result c.args.day c.from.ensures (omega (arith, c.requires))) c.requires

pub returns-clause-from_2000 : goal.returns-clause-from_2000
returns-clause-from_2000 c =
    let told = rw c.unwrap.ensures at c.from_unix_epoch_day.ensures.value in
    from_2000 c.unwrap.result c.args.day (told ∙ back w64 c.from.result c.args.day c.from.ensures (omega (arith, c.requires)))

pub returns-clause-to_2099 : goal.returns-clause-to_2099
returns-clause-to_2099 c =
    let told = rw c.unwrap.ensures at c.from_unix_epoch_day.ensures.value in
    up_to_2099 c.unwrap.result c.args.day (told ∙ back w64 c.from.result c.args.day c.from.ensures (omega (arith, c.requires)))
