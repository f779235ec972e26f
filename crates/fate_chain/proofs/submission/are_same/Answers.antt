use Rattle.std.proofs.Common.{sym, ap, ◌∙◌}
use Rattle.std.proofs.lemmas.Bool.Decides.{Decides-eqb}
use Rattle.std.proofs.lemmas.Slice.Eq.{slice_eq-Decides}
use Rattle.pdu_codec.specs.Text.{optional_octets}
use Rattle.pdu_fields.proofs.Optional.{octets-same}
use Rattle.fate_chain.proofs.submission.are_same.Goals as goal

pub returns : goal.returns
returns c =
    let one = c.octets.ensures in
    let other = c.octets-2.ensures in
    let same = slice_eq-Decides Decides-eqb c.octets.result.now c.octets-2.result.now c.eq.result c.eq.ensures in (
      λ true. octets-same c.args.one.now c.args.other.now one.limits other.limits (sym one.octets ∙ same.0 true ∙ other.octets),
      λ e. same.1 (one.octets ∙ ap optional_octets e ∙ sym other.octets),
    )
