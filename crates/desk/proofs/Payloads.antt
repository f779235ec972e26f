-- There is room for a message_payload beside what is passed on.
use Rattle.std.proofs.Common.{◌≡◌, ℕ, ◌+◌, ◌<◌, ◌≤◌, ◌==◌, Bool, true, false, cond, List, [], ◌∷◌, ◌++◌, length, Option, Some, None, refl, sym, ap, arith}
use Rattle.std.proofs.Common.{length-append}
use Rattle.std.specs.Prelude.{◌||◌, not, find, filter, nat_le, nat_lt, option_map}
use Rattle.std.specs.Int.{w16, to_be_bytes}
use Rattle.std.specs.Str.{bytes_eq}
use Rattle.std.proofs.lemmas.Bool.{eqb-true}
use Rattle.std.proofs.lemmas.Bool.Decides.{nat_tests}
use Rattle.pdu_fields.proofs.Optional.{most-filter}
use Rattle.pdu_tables.specs.TagCodes.{tag_code}
use Rattle.pdu_tables.specs.declared.tag.Tag.TheVariants.{MessagePayload}
use Rattle.pdu_codec.specs.Text.{AreOptional, IsShortMessage, has_tag_among, optional_octets, tlv_octets}
use Rattle.pdu_codec.specs.Tlv.{value_of}
use Rattle.pdu_bodies.specs.declared.pdu.Message.{Message}
use Rattle.fate_chain.specs.Content.{IsContent, has_room}
use Rattle.desk.specs.Desk.{is_too_long, passed_tags, payload_in, text_by, text_of}

abbrev passes : ℕ × List ℕ → Bool
passes = has_tag_among passed_tags

abbrev tag : ℕ
tag = tag_code MessagePayload

-- its tag is none of those that are passed on
room_left : (tlvs : List (ℕ × List ℕ)) (payload : List ℕ) → value_of tag tlvs ≡ Some payload →
    length payload + 4 + length (optional_octets (filter passes tlvs)) ≤ length (optional_octets tlvs)
room_left [] payload is = absurd cc
room_left (tlv ∷ tlvs) payload is = by_tag (tlv.0 == tag) refl is (room_left tlvs payload)
  where
    by_pass : (pass : Bool) → length payload + 4 + length (optional_octets (filter passes tlvs)) ≤ length (optional_octets tlvs) →
        length payload + 4 + length (optional_octets (cond pass (tlv ∷ filter passes tlvs) (filter passes tlvs))) ≤ length (optional_octets (tlv ∷ tlvs))
    by_pass true rest =
        omega (arith, rest, length-append (tlv_octets tlv) (optional_octets tlvs), length-append (tlv_octets tlv) (optional_octets (filter passes tlvs)))
    by_pass false rest = omega (arith, rest, length-append (tlv_octets tlv) (optional_octets tlvs))

    by_tag : (same : Bool) → (tlv.0 == tag) ≡ same →
        option_map (λ (one : ℕ × List ℕ). one.1) (cond same (Some tlv) (find (λ (one : ℕ × List ℕ). one.0 == tag) tlvs)) ≡ Some payload →
        (value_of tag tlvs ≡ Some payload → length payload + 4 + length (optional_octets (filter passes tlvs)) ≤ length (optional_octets tlvs)) →
        length payload + 4 + length (optional_octets (filter passes (tlv ∷ tlvs))) ≤ length (optional_octets (tlv ∷ tlvs))
    by_tag true at is rest =
        let same : tlv.1 ≡ payload = cc in
        let none : passes tlv ≡ false = ap (λ (other : ℕ). passes (other, tlv.1)) (eqb-true tlv.0 tag at) in
        rw none (omega (
          arith,
          ap length same,
          most-filter passes tlvs,
          length-append (tlv_octets tlv) (optional_octets tlvs),
          length-append
              (to_be_bytes w16 tlv.0 ++ to_be_bytes w16 (length tlv.1)) tlv.1,
        ))
    by_tag false at is rest = by_pass (passes tlv) (rest is)

pub is_content : (message : Message) → IsShortMessage message.short_message → AreOptional message.tlvs → is_too_long message ≡ false →
    IsContent (text_of message) (filter passes message.tlvs)
is_content message short are fits = by_text (bytes_eq message.short_message []) refl
  where
    content : (text : List ℕ) → nat_lt 4096 (length text) ≡ false → length text ≤ 254 → IsContent text (filter passes message.tlvs)
    content text most few =
        let brief : nat_lt 254 (length text) ≡ false = grind (arith, nat_tests) in
        record { most = grind (arith, nat_tests); beside = rw brief refl }

    carried : (payload : List ℕ) → nat_lt 4096 (length payload) ≡ false → value_of tag message.tlvs ≡ Some payload → IsContent payload (filter passes message.tlvs)
    carried payload most is =
        let room = room_left message.tlvs payload is in
        let limit = are.most in
        let below : length payload + length (optional_octets (filter passes message.tlvs)) ≤ 6996 = omega (arith, room, limit) in
        record { most = grind (arith, nat_tests); beside = by_length (nat_lt 254 (length payload)) below }
      where
        by_length : (long : Bool) → length payload + length (optional_octets (filter passes message.tlvs)) ≤ 6996 →
            (not long || nat_le (length payload + length (optional_octets (filter passes message.tlvs))) 6996) ≡ true
        by_length true below = grind (arith, nat_tests)
        by_length false below = refl

    by_payload : (found : Option (List ℕ)) → value_of tag message.tlvs ≡ found → nat_lt 4096 (length (text_by message.short_message found)) ≡ false →
        IsContent (text_by message.short_message found) (filter passes message.tlvs)
    by_payload None is most = content message.short_message most short
    by_payload (Some payload) is most = carried payload most is

    by_text : (empty : Bool) → bytes_eq message.short_message [] ≡ empty → IsContent (text_of message) (filter passes message.tlvs)
    by_text true is = rw is (by_payload (value_of tag message.tlvs) refl (rw is at fits))
    by_text false is = rw is (content message.short_message (rw is at fits) short)
