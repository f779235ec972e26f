use Rattle.std.proofs.Common.{ℕ, List, [], ◌∷◌, ◌++◌, get_or, take, refl, sym, ap, ◌∙◌, append_assoc}
use Rattle.std.proofs.lemmas.List.{append-nil, take_more}
use Rattle.hex.specs.Hex.{encode_with, encode_lower}
use Rattle.script_site.proofs.Digits.{when_ok, digits-more}
use Rattle.script_site.proofs.output.write_digits.Goals as goal

pub loop-octet-init : goal.loop-octet-init
unfolding encode_with
loop-octet-init c = sym (append-nil c.args.text.now.items)

pub loop-octet-preserved : goal.loop-octet-preserved
loop-octet-preserved c =
    let octet : ℕ = get_or c.args.octets.now c.loop-octet.octet-index 0 in
    let before : List ℕ = take c.loop-octet.octet-index c.args.octets.now in
    let digits = when_ok c.encode_to_slice.result (c.encode_to_slice.ensures.fits.1 refl) c.encode_to_slice.ensures.written in
    let more = take_more c.args.octets.now c.loop-octet.octet-index 0 c.loop-octet-test.true in
    c.in_ok-extend_from_slice.ensures.items
    ∙ ap (λ (last : List ℕ). c.loop-octet.text.items ++ last) digits
    ∙ ap (λ (front : List ℕ). front ++ encode_lower (octet ∷ [])) c.loop-octet.invariant
    ∙ append_assoc c.args.text.now.items (encode_lower before) (encode_lower (octet ∷ []))
    ∙ ap (λ (rest : List ℕ). c.args.text.now.items ++ rest) (sym (digits-more before octet) ∙ ap encode_lower (sym more))
