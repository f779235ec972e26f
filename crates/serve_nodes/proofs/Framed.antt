-- A frame of what goes out is that of what is printed of it.
use Rattle.std.proofs.Common.{◌≡◌, ℕ, List, [], ◌∷◌, ◌++◌, Option, Some, None, Result, Ok, Err, refl, sym, subst}
use Rattle.std.proofs.lemmas.List.{append-nil}
use Rattle.std.proofs.lemmas.Option.{none-some, same_Some}
use Rattle.std.specs.Prelude.{IfSome, OnErr, OnOk, filter, option_map}
use Rattle.std.specs.declared.alloc.AllocError.{AllocError}
use Rattle.esme_service.specs.Sendings.{AreOctetsOf, number_of, report_octets}
use Rattle.esme_service.specs.declared.pushed_on.PushedOn.{PushedOn}
use Rattle.esme_service.specs.declared.sending.Sending.{Sending}
use Rattle.esme_service.specs.declared.sending.Sending.TheVariants as sendings
use Rattle.connection_parts.specs.declared.frame.Frame.{Frame}
use Rattle.pdu_codec.specs.Pdu.{octets_of}
use Rattle.script_text.specs.Prints.{Print, AtOnce, Gone}
use Rattle.esme_site.specs.Puts.{ArePrintsOf, report_prints}
use Rattle.esme_service.specs.Reports.{reported_on}
use Rattle.serve_nodes.specs.Frames.{AreFramesOf, IsFrameOf, Puts, has_frame, puts_none, those}

-- there is one, with these octets
there_is : (number : ℕ) (octets : List ℕ) (print : Print) (frame : Option Frame) → IfSome frame (λ (f : Frame). f.number ≡ number)
    → option_map (λ (f : Frame). f.octets.items) frame ≡ Some octets
    → ((f : Frame) → f.number ≡ number → f.octets.items ≡ octets → IsFrameOf f print) → AreFramesOf (those frame) (print ∷ [])
unfolding AreFramesOf
there_is number octets print None numbered same is = absurd (none-some octets same)
there_is number octets print (Some frame) numbered same is = (is frame numbered (same_Some _ _ same), tt)

-- or none
there_is_none : (frame : Option Frame) → option_map (λ (f : Frame). f.octets.items) frame ≡ None → AreFramesOf (those frame) []
unfolding AreFramesOf
there_is_none None same = tt
there_is_none (Some frame) same = absurd (none-some _ (sym same))

of_report : (pushed : PushedOn) (report : Option _) (frame : Option Frame) → IfSome frame (λ (f : Frame). f.number ≡ pushed.number)
    → option_map (λ (f : Frame). f.octets.items) frame ≡ option_map (report_octets pushed.sequence pushed.knows_optional) report
    → AreFramesOf (those frame) (filter has_frame (report_prints pushed report))
of_report pushed None frame numbered same = there_is_none frame same
of_report pushed (Some report) frame numbered same =
    there_is pushed.number _ _ frame numbered same (λ f here octets. record { session = here; octets = octets })

pub its_frame : (sending : Sending) (frame : Option Frame) (prints : List Print) → IfSome frame (λ (f : Frame). f.number ≡ number_of sending)
    → AreOctetsOf sending (option_map (λ (f : Frame). f.octets.items) frame) → ArePrintsOf sending prints
    → AreFramesOf (those frame) (filter has_frame prints)
its_frame (sendings.Reply owner reply) frame prints numbered octets is =
    subst (λ (ps : List Print). AreFramesOf (those frame) (filter has_frame ps)) (sym is)
    (there_is owner.number _ _ frame numbered octets (λ f here same. record { session = here; octets = same }))
its_frame (sendings.Attempt pushed chain) frame prints numbered octets is =
    subst (λ (ps : List Print). AreFramesOf (those frame) (filter has_frame ps)) (sym is.prints_are)
    (there_is pushed.number _ _ frame numbered (octets is.ends is.taken is.is) (λ f here same. record { session = here; octets = same }))
its_frame (sendings.Receipt pushed chain) frame prints numbered octets is =
    subst (λ (ps : List Print). AreFramesOf (those frame) (filter has_frame ps)) (sym is)
    (of_report pushed (reported_on chain.id chain.decrees) frame numbered octets)

-- the frames from before are there, and no other
pub nothing_more : (before after : List Frame) → after ≡ before → Puts before [] after
nothing_more before after same = subst (λ (fs : List Frame). Puts before [] fs) (sym same) (puts_none before)

-- that of a response
pub response_put : (r : Result (Unit {0}) AllocError) (before after : List Frame) (frame : Frame) (number : ℕ) (pdu : _) → frame.number ≡ number
    → frame.octets.items ≡ octets_of pdu → OnOk r (after ≡ before ++ those (Some frame)) → OnOk r (Puts before (AtOnce number pdu ∷ []) after)
unfolding AreFramesOf
response_put (Ok done) before after frame number pdu here octets behind =
    record { more = frame ∷ []; behind = behind; are = (record { session = here; octets = octets }, tt) }
response_put (Err fault) before after frame number pdu here octets behind = tt

pub nothing_put : (r : Result (Unit {0}) AllocError) (before after : List Frame) → OnErr r (after ≡ before) → OnErr r (Puts before [] after)
nothing_put (Ok done) before after same = tt
nothing_put (Err fault) before after same = nothing_more before after same

-- and that a session is gone has none
pub end_frame : (at : List Frame) (number : ℕ) → Puts at (Gone number ∷ []) at
unfolding AreFramesOf
end_frame at number = record { more = []; behind = sym (append-nil at); are = tt }

pub if_err : (r : Result (Unit {0}) AllocError) (A : Type 0) → A → OnErr r A
if_err (Ok done) A a = tt
if_err (Err fault) A a = a
