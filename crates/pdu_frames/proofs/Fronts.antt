-- What stands at the front of a stream: a part of a frame, a wrong length, or a frame, and one of these alone.
use Rattle.std.proofs.Common.{◌≡◌, ◌<◌, ℕ, true, false, nat_le, ◌+◌, ◌-◌, ◌≤◌, ◌⊎◌, inl, inr, List, ◌++◌, length, take, drop, refl, sym, ap}
use Rattle.std.proofs.Common.{◌∙◌, subst, arith, append_assoc}
use Rattle.std.proofs.lemmas.List.{append_cancel_left, length-append, length-take-le, take_at, take-append-le, take-append-drop, take-take}
use Rattle.std.proofs.lemmas.List.{take_rest, drop-take}
use Rattle.std.proofs.Math.Bool.{and-false}
use Rattle.std.proofs.lemmas.Bool.{cases_lt, cases_Bool, and_parts, and_from, leb-true, leb-false, le-leb, lt-leb}
use Rattle.std.specs.Int.{from_be_bytes, w32}
use Rattle.pdu_frames.specs.Frames.{command_length, is_pdu_length, IsFrame, IsPart, HasWrongLength, begins_with_frame, begins_wrong, wanted_of}

-- a length that a PDU may have, in numbers
pub within_limits : (count : ℕ) → is_pdu_length count ≡ true → (16 ≤ count) × (count ≤ 8192)
within_limits count may = let both = and_parts (nat_le 16 count) (nat_le count 8192) may in (leb-true 16 count both.0, leb-true count 8192 both.1)

-- command_length is that of the front, once it has come there.
pub length_of_front : (front behind : List ℕ) → 4 ≤ length front → command_length (front ++ behind) ≡ command_length front
length_of_front front behind come = ap (λ octets. from_be_bytes w32 octets) (take-append-le 4 front behind come)

-- The command_length of octets that begin with a frame is that of the frame.
pub length_of_frame : (frame behind : List ℕ) → IsFrame frame → command_length (frame ++ behind) ≡ length frame
length_of_frame frame behind is = length_of_front frame behind (omega (arith, within_limits (length frame) is.allowed)) ∙ is.counted

pub frame_is_no_part : (frame behind : List ℕ) → IsFrame frame → IsPart (frame ++ behind) → ⊥
frame_is_no_part frame behind is (inl short) = omega (arith, within_limits (length frame) is.allowed, length-append frame behind, short)
frame_is_no_part frame behind is (inr part) = omega (arith, length_of_frame frame behind is, length-append frame behind, part.1)

pub frame_is_not_wrong : (frame behind : List ℕ) → IsFrame frame → HasWrongLength (frame ++ behind) → ⊥
frame_is_not_wrong frame behind is wrong =
    let field : is_pdu_length (length frame) ≡ false = subst (λ count. is_pdu_length count ≡ false) (length_of_frame frame behind is) wrong.wrong in
    let allowed : is_pdu_length (length frame) ≡ true = is.allowed in
    cc

-- no frame stands at the front of what is a part or has a wrong length
pub no_frame : (frame behind stream : List ℕ) → stream ≡ frame ++ behind → IsFrame frame → IsPart stream ⊎ HasWrongLength stream → ⊥
no_frame frame behind stream e is (inl part) = frame_is_no_part frame behind is (subst (λ s. IsPart s) e part)
no_frame frame behind stream e is (inr wrong) = frame_is_not_wrong frame behind is (subst (λ s. HasWrongLength s) e wrong)

-- One frame alone stands at the front of a stream.
pub one_frame : (frame other behind rest : List ℕ) → IsFrame frame → IsFrame other → frame ++ behind ≡ other ++ rest → (frame ≡ other) × (behind ≡ rest)
one_frame frame other behind rest is too e =
    let lengths : length other ≡ length frame = sym (length_of_frame other rest too) ∙ (ap (λ s. command_length s) (sym e) ∙ length_of_frame frame behind is) in
    let same : frame ≡ other = sym (take_at frame behind (length frame) refl) ∙
    (ap (λ s. take (length frame) s) e ∙ take_at other rest (length frame) lengths) in
    (same, append_cancel_left other behind rest (ap (λ f. f ++ behind) (sym same) ∙ e))

-- As many octets as a command_length says are a frame, if it is no wrong one and they have come.
pub whole_front : (stream : List ℕ) → is_pdu_length (command_length stream) ≡ true → command_length stream ≤ length stream →
    IsFrame (take (command_length stream) stream)
whole_front stream may whole =
    let count : length (take (command_length stream) stream) ≡ command_length stream = length-take-le (command_length stream) stream whole in
    let come : 4 ≤ command_length stream = omega (arith, within_limits (command_length stream) may) in
    let field : command_length (take (command_length stream) stream) ≡ command_length stream = ap (λ octets. from_be_bytes w32 octets)
    (take-take 4 (command_length stream) stream come) in
    record { counted = field ∙ sym count; allowed = subst (λ n. is_pdu_length n ≡ true) (sym count) may }

-- A part, a wrong length or a frame stands at the front of any stream.
pub front_cases : (stream : List ℕ) →
    (IsPart stream ⊎ HasWrongLength stream) ⊎ ((frame : List ℕ) × (behind : List ℕ) × IsFrame frame × (stream ≡ frame ++ behind))
front_cases stream =
    elim (cases_lt (length stream) 4) [
      | inl short ↦ inl (inl (inl short))
      | inr come ↦ elim (cases_Bool (is_pdu_length (command_length stream))) [
        | inr wrong ↦ inl (inr (record { come = come; wrong = wrong }))
        | inl may ↦ elim (cases_lt (length stream) (command_length stream)) [
          | inl short ↦ inl (inl (inr (may, short)))
          | inr whole ↦ inr (
            take (command_length stream) stream,
            drop (command_length stream) stream,
            whole_front stream may whole,
            sym
                (take-append-drop (command_length stream) stream),
          )
        ]
      ]
    ]

-- A stream with a frame in front begins with one.
pub frame_begins : (frame behind : List ℕ) → IsFrame frame → begins_with_frame (frame ++ behind) ≡ true
frame_begins frame behind is =
    let field = length_of_frame frame behind is in
    and_from (is_pdu_length (command_length (frame ++ behind))) (nat_le (command_length (frame ++ behind)) (length (frame ++ behind)))
    (ap (λ n. is_pdu_length n) field ∙ is.allowed)
    (le-leb (command_length (frame ++ behind)) (length (frame ++ behind)) (omega (arith, field, length-append frame behind)))

-- what is tested of octets with no whole frame
pub wrong_begins : (octets : List ℕ) → HasWrongLength octets → begins_wrong octets ≡ true
wrong_begins octets wrong = rw (wrong.wrong, le-leb 4 (length octets) wrong.come) refl

pub part_begins : (octets : List ℕ) → IsPart octets → begins_wrong octets ≡ false
part_begins octets (inl short) = rw (lt-leb 4 (length octets) short) refl
part_begins octets (inr part) = let allowed : is_pdu_length (command_length octets) ≡ true = part.0 in rw allowed (and-false (nat_le 4 (length octets)))

-- What is added to what is held in two goes, off a piece and off the rest of it, is the front of the piece.
pub added_in_two : (held piece : List ℕ) (first second : ℕ) →
    (held ++ take first piece) ++ take second (take (length piece - first) (drop first piece)) ≡ held ++ take (first + second) piece
added_in_two held piece first second =
    let joined : take first piece ++ take second (drop first piece) ≡ take (first + second) piece =
    rw (← take-take first (first + second) piece (omega arith), ← drop-take first second piece) (take-append-drop first (take (first + second) piece)) in
    rw (take_rest, append_assoc) (ap (λ taken. held ++ taken) joined)
