use Rattle.std.proofs.Common.{List, ℕ, ap, subst, sym, ◌∙◌, ◌≡◌}
use Rattle.std.specs.Prelude.{filter}
use Rattle.pdu_codec.specs.Text.{has_tag_among}
use Rattle.fate_chain.specs.Content.{IsContent}
use Rattle.desk.specs.Desk.{passed_tags, text_by, text_of}
use Rattle.desk.proofs.Payloads.{is_content}
use Rattle.desk.proofs.door.submission.Goals as goal

pub of-requires : goal.of-requires
of-requires c =
    let text : c.owned.result.items ≡ text_of c.args.message = c.owned.ensures ∙ ap (text_by c.args.message.short_message) c.in_ok-payload.ensures in
    let passed : c.in_ok-passed.passed ≡ filter (has_tag_among passed_tags) c.args.message.tlvs = c.in_ok-passed.ensures in
    rw (text, passed) (is_content c.args.message c.limits.ensures.short c.limits.ensures.optional c.requires)
