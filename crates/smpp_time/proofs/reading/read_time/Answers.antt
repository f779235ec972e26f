use Rattle.std.proofs.Common.{◌∙◌, sym, ◌/◌}
use Rattle.smpp_time.specs.Calendar.{date_of}
use Rattle.smpp_time.proofs.Texts.{said_absolute}
use Rattle.smpp_time.proofs.reading.read_time.Goals as goal

pub returns-else-text-eq82 : goal.returns-else-text-eq82
returns-else-text-eq82 c =
    let shaped = sym c.has_shape.ensures ∙ c.if-not-has_shape.false in
    c.absolute.ensures ∙ sym (said_absolute c.args.text.now c.args.now (date_of (c.args.now / 86400)) shaped c.if-text-eq82.false)
