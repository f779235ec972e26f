use Rattle.std.proofs.Common.{take, drop, subst, sym, ◌∙◌, arith}
use Rattle.std.proofs.lemmas.List.{length-drop, take_rest}
use Rattle.std.proofs.Math.Seq.{take-add}
use Rattle.std.specs.Io.KnownBytes.{Appends}
use Rattle.octet_io.proofs.KnownOctets.{appended_on}
use Rattle.octet_io.proofs.counted_writer.CountedWriter.write_all.Goals as goal

pub writes-preserved : goal.writes-preserved
writes-preserved g c =
    let octets = c.args.octets.now in
    let before = g.W.Write.contents c.args.self.now.writer in
    let after = g.W.Write.contents c.write.new.self.writer in
    let took = rw take_rest at c.in-Some.ensures.takes in
    let both = appended_on before (g.W.Write.contents c.writes.self.writer) after (take c.writes.sent octets)
    (take c.in-Some.count (drop c.writes.sent octets)) c.writes.invariant.0.appended took.1.appended in (
      record {
        appended = subst (λ sent. Appends before after sent) (sym (take-add c.writes.sent c.in-Some.count octets)) both;
        failures = took.1.failures ∙ c.writes.invariant.0.failures;
      },
      omega (arith, took.0, length-drop c.writes.sent octets),
    )
