use Rattle.script_lines.proofs.WordLemmas.{IsOk-decode_of}
use Rattle.script_lines.proofs.line.are_octets.Goals as goal

pub returns-then-digits-eq0 : goal.returns-then-digits-eq0
returns-then-digits-eq0 c = rw c.are_hex_digits.ensures (IsOk-decode_of c.args.digits.now c.if-digits-eq0.true)
