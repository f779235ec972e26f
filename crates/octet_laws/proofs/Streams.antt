-- The frames of a stream that goes on.
use Rattle.std.proofs.Common.{◌≡◌, ℕ, zero, suc, ◌<◌, List, [], ◌∷◌, ◌++◌, arith, sym, ap, subst, ◌∙◌, append_assoc, inl, inr}
use Rattle.mc_model.specs.synod.Lists.{In}
use Rattle.octet_fields.specs.Texts.{IsOctets}
use Rattle.octet_fields.proofs.Octets.{IsOctets-before, IsOctets-behind}
use Rattle.pdu_frames.specs.Frames.{AreFrames, cut}
use Rattle.pdu_frames.proofs.Streams.{frames_one, streams_cut}

frames_more : (front : List (List ℕ)) (stream rest more : List ℕ) (frames : List (List ℕ)) (left : List ℕ) → AreFrames stream front rest →
    AreFrames (rest ++ more) frames left → AreFrames (stream ++ more) (front ++ frames) left
frames_more [] stream rest more frames left are later = subst (λ (s : List ℕ). AreFrames (s ++ more) frames left) (sym are.0) later
frames_more (frame ∷ front) stream rest more frames left are later = (
  are.0,
  (
    are.1.0 ++ more,
    ap (λ (s : List ℕ). s ++ more) are.1.1 ∙ append_assoc frame are.1.0 more,
    frames_more front are.1.0 rest more frames left are.1.2 later,
  ),
)

-- what came before is cut as before, and what comes now is cut with what was left
pub cut_more : (stream more : List ℕ) → ((cut (stream ++ more)).frames ≡ (cut stream).frames ++ (cut ((cut stream).rest ++ more)).frames)
    × ((cut (stream ++ more)).rest ≡ (cut ((cut stream).rest ++ more)).rest)
cut_more stream more =
    let behind = (cut stream).rest ++ more in
    frames_one (stream ++ more) _ _ _ _ (streams_cut (stream ++ more))
    (frames_more (cut stream).frames stream (cut stream).rest more (cut behind).frames (cut behind).rest (streams_cut stream) (streams_cut behind))

pub octets_of_none : IsOctets []
octets_of_none zero = omega arith
octets_of_none (suc place) = omega arith

octets_then : (octet : ℕ) (octets : List ℕ) → octet < 256 → IsOctets octets → IsOctets (octet ∷ octets)
octets_then octet octets below are zero = below
octets_then octet octets below are (suc place) = are place

pub octets_both : (front back : List ℕ) → IsOctets front → IsOctets back → IsOctets (front ++ back)
octets_both [] back are more = more
octets_both (octet ∷ front) back are more = octets_then octet (front ++ back) (are zero) (octets_both front back (λ place. are (suc place)) more)

frames_octets : (frames : List (List ℕ)) (stream rest : List ℕ) → AreFrames stream frames rest → IsOctets stream → (frame : List ℕ) → In frame frames →
    IsOctets frame
frames_octets [] stream rest are octets frame among = absurd among
frames_octets (first ∷ frames) stream rest are octets frame (inl same) =
    subst IsOctets (sym same) (IsOctets-before first are.1.0 (subst IsOctets are.1.1 octets))
frames_octets (first ∷ frames) stream rest are octets frame (inr later) =
    frames_octets frames are.1.0 rest are.1.2 (IsOctets-behind first are.1.0 (subst IsOctets are.1.1 octets)) frame later

-- each frame of octets is of octets
pub cut_octets : (stream : List ℕ) → IsOctets stream → (frame : List ℕ) → In frame (cut stream).frames → IsOctets frame
cut_octets stream octets frame among = frames_octets (cut stream).frames stream (cut stream).rest (streams_cut stream) octets frame among
