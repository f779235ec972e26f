-- What is put for the sessions of a node, frame by frame (own).
use Rattle.std.specs.Prelude.{◌≡◌, ℕ, Bool, true, false, List, [], ◌∷◌, ◌++◌, filter, Option, Some, None}
use Rattle.std.proofs.Common.{ap, sym, ◌∙◌, append_assoc, subst}
use Rattle.std.proofs.lemmas.List.{append-nil}
use Rattle.std.proofs.lemmas.List.Elements.{filter-append}
use Rattle.pdu_codec.specs.Pdu.{octets_of}
use Rattle.connection_parts.specs.declared.frame.Frame.{Frame}
use Rattle.script_text.specs.Prints.{Print, AtOnce, Late, Delivers, Reports, Gone, Declined, Ungranted, report_pdu}

-- A frame goes out on this session, with the octets of this PDU.
pub record Carries (frame : Frame) (number : ℕ) (pdu : _) : Type 0 where
  pub session : frame.number ≡ number
  pub octets : frame.octets.items ≡ octets_of pdu

-- it is that of what is printed
abbrev pub IsFrameOf : Frame → Print → Type 0
IsFrameOf frame (AtOnce number pdu) = Carries frame number pdu
IsFrameOf frame (Late number id pdu) = Carries frame number pdu
IsFrameOf frame (Delivers number pdu) = Carries frame number pdu
IsFrameOf frame (Reports number sequence optional report) = Carries frame number (report_pdu sequence optional report)
IsFrameOf frame (Gone number) = ⊥
IsFrameOf frame (Declined number) = ⊥
IsFrameOf frame (Ungranted reason) = ⊥

-- one of each, in their order
unfoldable pub AreFramesOf : List Frame → List Print → Type 0
AreFramesOf [] [] = Unit {0}
AreFramesOf [] (print ∷ prints) = ⊥
AreFramesOf (frame ∷ frames) [] = ⊥
AreFramesOf (frame ∷ frames) (print ∷ prints) = IsFrameOf frame print × AreFramesOf frames prints

-- that a session is gone has no frame
abbrev pub has_frame : Print → Bool
has_frame (Gone number) = false
has_frame other = true

-- the frame, if there is one
abbrev pub those : Option Frame → List Frame
those None = []
those (Some frame) = frame ∷ []

-- Those that have a frame were put behind the others.
pub record Puts (before : List Frame) (prints : List Print) (after : List Frame) : Type 0 where
  pub more : List Frame
  pub behind : after ≡ before ++ more
  pub are : AreFramesOf more (filter has_frame prints)

pub puts_none : (at : List Frame) → Puts at [] at
unfolding AreFramesOf
puts_none at = record { more = []; behind = sym (append-nil at); are = tt }

pub are_both : (first : List Frame) (prints : List Print) (last : List Frame) (others : List Print)
    → AreFramesOf first prints → AreFramesOf last others → AreFramesOf (first ++ last) (prints ++ others)
unfolding AreFramesOf
are_both [] [] last others one two = two
are_both [] (print ∷ prints) last others one two = absurd one
are_both (frame ∷ first) [] last others one two = absurd one
are_both (frame ∷ first) (print ∷ prints) last others one two = (one.0, are_both first prints last others one.1 two)

pub puts_both : (before between after : List Frame) (prints others : List Print) → Puts before prints between → Puts between others after
    → Puts before (prints ++ others) after
puts_both before between after prints others one two = record {
  more = one.more ++ two.more;
  behind = two.behind ∙ ap (λ (fs : List Frame). fs ++ two.more) one.behind ∙ append_assoc before one.more two.more;
  are = subst (AreFramesOf (one.more ++ two.more)) (sym (filter-append has_frame prints others))
      (are_both one.more (filter has_frame prints) two.more (filter has_frame others) one.are two.are);
}
