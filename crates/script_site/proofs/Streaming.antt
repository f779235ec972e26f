-- The octets of a session's stream: frame by frame, and what stands behind the last one.
use Rattle.std.proofs.Common.{◌≡◌, ℕ, ◌+◌, ◌-◌, ◌<◌, ◌≤◌, Bool, true, false, ◌⊎◌, inl, inr, List, [], ◌∷◌, ◌++◌, length, take, drop}
use Rattle.std.proofs.Common.{Option, Some, None, Result, Ok, Err, refl, sym, ap, ◌∙◌, subst, arith, append_assoc}
use Rattle.std.proofs.lemmas.Grind.{flat_map-append}
use Rattle.std.proofs.lemmas.List.{append-nil, length-append, length-take-le, length-drop, take_rest, take-append-drop, take_all}
use Rattle.std.specs.declared.alloc.AllocError.{AllocError}
use Rattle.std.specs.Prelude.{OnOk, is_none, is_some}
use Rattle.std.specs.Ordering.{nat_cmp}
use Rattle.std.specs.Map.{remove_entry}
use Rattle.std.specs.BTreeMap.{insert_entry, is_at}
use Rattle.node_model.proofs.Places.{here}
use Rattle.sessions.specs.Session.{Session}
use Rattle.pdu_frames.specs.Frames.{IsFrame, IsPart, HasWrongLength, cut, is_pdu_length}
use Rattle.pdu_frames.proofs.Fronts.{wrong_begins, part_begins, within_limits, length_of_front}
use Rattle.pdu_frames.proofs.Streams.{frames_one, streams_cut}
use Rattle.script_text.specs.Left.{followed_by}
use Rattle.script_text.specs.Settings.{Settings}
use Rattle.script_text.specs.Prints.{line_at, text_at}
use Rattle.script_text.specs.Pushes.{session_at}
use Rattle.script_text.specs.Runner.{Acted, Runner, ends, held_in, holds, on_cut, on_frame, on_frames, on_octets, opened_at, put_at, session_in}
use Rattle.script_text.specs.World.{World}
use Rattle.script_site.specs.Sites.{Acts, IsRunning, Placed}
use Rattle.script_site.specs.Standing.{HasOpened}
use Rattle.script_site.specs.declared.site.Site.{Site}

-- ---- cutting a stream

frame_cut : (frame after : List ℕ) → IsFrame frame → cut (frame ++ after) ≡ record { frames = frame ∷ (cut after).frames; rest = (cut after).rest }
frame_cut frame after is =
    let one =
    frames_one (frame ++ after) (cut (frame ++ after)).frames (frame ∷ (cut after).frames) (cut (frame ++ after)).rest (cut after).rest
    (streams_cut (frame ++ after)) (is, (after, refl, streams_cut after)) in
    λ i. record { frames = one.0 i; rest = one.1 i }

rest_cut : (rest : List ℕ) → IsPart rest ⊎ HasWrongLength rest → cut rest ≡ record { frames = []; rest = rest }
rest_cut rest end =
    let one = frames_one rest (cut rest).frames [] (cut rest).rest rest (streams_cut rest) (refl, end) in
    λ i. record { frames = one.0 i; rest = one.1 i }

-- ---- what is left to do

-- this was done: it left this runner, and added the text of what it printed
pub record IsDone (home : ℕ) (acted : Acted) (left : Runner) (before after : List ℕ) : Type 0 where
  pub next : left ≡ acted.next
  pub text : after ≡ before ++ text_at home acted.prints

-- What the first octets do is what was done so far, and then what these octets do.
pub record Continues (home : ℕ) (settings : Settings) (number : ℕ) (all : Acted) (before : List ℕ) (runner : Runner) (octets text : List ℕ) : Type 0 where
  pub next : (on_cut settings number runner (cut octets)).next ≡ all.next
  pub written : text ++ text_at home (on_cut settings number runner (cut octets)).prints ≡ before ++ text_at home all.prints

-- a frame that leaves the session, and one that ends it
frame_stays : (settings : Settings) (number : ℕ) (runner : Runner) (frame rest : List ℕ) (frames : List (List ℕ))
    → is_none (session_at (on_frame settings number runner frame).next.sessions number) ≡ false
    → on_frames settings number runner (frame ∷ frames) rest ≡ followed_by (on_frame settings number runner frame)
    (on_frames settings number (on_frame settings number runner frame).next frames rest)
unfolding on_frames
frame_stays settings number runner frame rest frames stays = rw stays refl

frame_ends : (settings : Settings) (number : ℕ) (runner : Runner) (frame rest : List ℕ) (frames : List (List ℕ))
    → is_none (session_at (on_frame settings number runner frame).next.sessions number) ≡ true
    → on_frames settings number runner (frame ∷ frames) rest ≡ on_frame settings number runner frame
unfolding on_frames
frame_ends settings number runner frame rest frames ends = rw ends refl

first_frame : (settings : Settings) (number : ℕ) (runner : Runner) (frame after : List ℕ) → IsFrame frame
    → on_cut settings number runner (cut (frame ++ after)) ≡ on_frames settings number runner (frame ∷ (cut after).frames) (cut after).rest
first_frame settings number runner frame after is = ap (on_cut settings number runner) (frame_cut frame after is)

-- ---- what calls of a Framer do with what it holds and a piece

-- what is taken off the piece is held
pub joined : (held piece mid : List ℕ) (count : ℕ) → mid ≡ held ++ take count piece → mid ++ take (length piece - count) (drop count piece) ≡ held ++ piece
joined held piece mid count taken = rw (taken, take_rest, append_assoc) (ap (λ s. held ++ s) (take-append-drop count piece))

-- A frame was taken: fewer octets are left.
pub fewer : (held piece mid : List ℕ) (count : ℕ) → mid ≡ held ++ take count piece → count ≤ length piece → IsFrame mid
    → length (take (length piece - count) (drop count piece)) < length held + length piece
fewer held piece mid count taken within is =
    let length-mid : length mid ≡ length held + count =
    ap (λ s. length s) taken ∙ (length-append held (take count piece) ∙ ap (λ n. length held + n) (length-take-le count piece within)) in
    let rest : length (take (length piece - count) (drop count piece)) ≡ length piece - count = rw (take_rest) (length-drop count piece) in
    omega (arith, length-mid, rest, within, within_limits (length mid) is.allowed)

pub wrong_in_front : (front after : List ℕ) → HasWrongLength front → HasWrongLength (front ++ after)
wrong_in_front front after wrong = record {
  come = omega (arith, wrong.come, length-append front after);
  wrong = ap (λ n. is_pdu_length n) (length_of_front front after wrong.come) ∙ wrong.wrong;
}

-- all of the piece was taken
pub all_taken : (held piece mid : List ℕ) (count : ℕ) → mid ≡ held ++ take count piece → count ≡ length piece → mid ≡ held ++ piece
all_taken held piece mid count taken all = taken ∙ ap (λ s. held ++ s) (ap (λ n. take n piece) all ∙ take_all (length piece) piece (omega arith))

-- ---- whether the session is still connected

pub not_there : {A : Type 0} (found : Option A) (has : Bool) → has ≡ is_some found → has ≡ false → is_none found ≡ true
not_there None has is lacks = refl
not_there (Some x) has is lacks = absurd (let clash = sym is ∙ lacks in cc)

pub is_there : {A : Type 0} (found : Option A) (has : Bool) → has ≡ is_some found → has ≡ true → is_none found ≡ false
is_there None has is holds = absurd (let clash = sym is ∙ holds in cc)
is_there (Some x) has is holds = refl

-- a session that begins is connected
pub is_opened : (old left : Site) (number : ℕ) → HasOpened old number left → is_none (session_at left.service.sessions number) ≡ false
is_opened old left number opens =
    ap (λ (sessions : List (ℕ × Session)). is_none (session_at sessions number)) opens.sessions
    ∙ ap (λ (found : Option Session). is_none found)
    (here number (session_in old.service.sessions number) (remove_entry (is_at (nat_cmp number)) old.service.sessions))

module _ (home : ℕ) where
  pub nothing_done : (settings : Settings) (number : ℕ) (old runner : Runner) (held octets before : List ℕ) → held ≡ held_in old.streams number
      → runner ≡ opened_at old number
      → Continues home settings number (on_octets settings old number octets) before runner (held ++ octets) before
  unfolding on_octets
  nothing_done settings number old runner held octets before is opens = rw (is, opens) (record { next = refl; written = refl })

  -- A frame was served that leaves the session: what stands behind it is left.
  after_frame : (settings : Settings) (number : ℕ) (all : Acted) (before : List ℕ) (runner left : Runner) (frame after text told : List ℕ)
      → Continues home settings number all before runner (frame ++ after) text → IsFrame frame
      → IsDone home (on_frame settings number runner frame) left text told
      → is_none (session_at left.sessions number) ≡ false → Continues home settings number all before left after told
  after_frame settings number all before runner left frame after text told so is done stays =
      let served = first_frame settings number runner frame after is
      ∙ frame_stays settings number runner frame (cut after).rest (cut after).frames
      (ap (λ (r : Runner). is_none (session_at r.sessions number)) (sym done.next) ∙ stays) in
      rw (done.next, done.text)
      (let next : Continues home settings number all before (on_frame settings number runner frame).next after
      (text ++ text_at home (on_frame settings number runner frame).prints) = record {
        next = ap (λ (a : Acted). a.next) (sym served) ∙ so.next;
        written = append_assoc text (text_at home (on_frame settings number runner frame).prints) _
            ∙ ap (λ t. text ++ t) (sym (flat_map-append (line_at home) (on_frame settings number runner frame).prints _))
            ∙ ap (λ (a : Acted). text ++ text_at home a.prints) (sym served) ∙ so.written;
      } in next)

  -- what is done as these octets do it is all that is done
  done_so : (settings : Settings) (number : ℕ) (all last : Acted) (before : List ℕ) (runner left : Runner) (octets text told : List ℕ)
      → Continues home settings number all before runner octets text → on_cut settings number runner (cut octets) ≡ last → IsDone home last left text told
      → IsDone home all left before told
  done_so settings number all last before runner left octets text told so is done = record {
    next = done.next ∙ ap (λ (a : Acted). a.next) (sym is) ∙ so.next;
    text = done.text ∙ ap (λ (a : Acted). text ++ text_at home a.prints) (sym is) ∙ so.written;
  }

  -- A frame was served that ends the session: nothing is left.
  after_end : (settings : Settings) (number : ℕ) (all : Acted) (before : List ℕ) (runner left : Runner) (frame after text told : List ℕ)
      → Continues home settings number all before runner (frame ++ after) text → IsFrame frame
      → IsDone home (on_frame settings number runner frame) left text told
      → is_none (session_at left.sessions number) ≡ true → IsDone home all left before told
  after_end settings number all before runner left frame after text told so is done gone =
      let ends_so = first_frame settings number runner frame after is
      ∙ frame_ends settings number runner frame (cut after).rest (cut after).frames
      (ap (λ (r : Runner). is_none (session_at r.sessions number)) (sym done.next) ∙ gone) in
      done_so settings number all (on_frame settings number runner frame) before runner left (frame ++ after) text told so ends_so done

  -- What is left is no whole frame: it waits for more.
  pub after_kept_if : (settings : Settings) (number : ℕ) (all : Acted) (before : List ℕ) (runner : Runner) (octets text held : List ℕ)
      (streams : List (ℕ × List ℕ)) (r : Result (Unit {0}) AllocError)
      → Continues home settings number all before runner octets text → IsPart octets → held ≡ octets
      → OnOk r (streams ≡ insert_entry nat_cmp runner.streams number held)
      → OnOk r (IsDone home all (record runner { streams = streams }) before text)
  unfolding on_frames
  after_kept_if settings number all before runner octets text held streams (Err fault) so part same keeps = tt
  after_kept_if settings number all before runner octets text held streams (Ok done) so part same keeps =
      let here : on_cut settings number runner (cut octets) ≡ holds runner number octets = rw (rest_cut octets (inl part), part_begins octets part) refl in
      let stays = keeps ∙ ap (λ (h : List ℕ). insert_entry nat_cmp runner.streams number h) same in
      done_so settings number all (holds runner number octets) before runner (record runner { streams = streams }) octets text text so here
      (record { next = λ i. record runner { streams = stays i }; text = sym (append-nil text) })

  -- A wrong length ends the session.
  pub after_wrong_if : (settings : Settings) (number : ℕ) (all : Acted) (before : List ℕ) (runner left : Runner) (octets text told : List ℕ)
      (r : Result (Unit {0}) AllocError)
      → Continues home settings number all before runner octets text → HasWrongLength octets → OnOk r (IsDone home (ends settings number runner) left text told)
      → OnOk r (IsDone home all left before told)
  unfolding on_frames
  after_wrong_if settings number all before runner left octets text told (Err fault) so wrong done = tt
  after_wrong_if settings number all before runner left octets text told (Ok fine) so wrong done =
      let here : on_cut settings number runner (cut octets) ≡ ends settings number runner = rw (rest_cut octets (inr wrong), wrong_begins octets wrong) refl in
      done_so settings number all (ends settings number runner) before runner left octets text told so here done

  -- The frame that was taken is served, and what is left stands behind it.
  pub after_take : (settings : Settings) (number : ℕ) (all : Acted) (before : List ℕ) (runner left : Runner) (held piece mid frame new text told : List ℕ)
      (count : ℕ)
      → Continues home settings number all before runner (held ++ piece) text → mid ≡ held ++ take count piece → IsFrame frame × (mid ≡ frame) × (new ≡ [])
      → IsDone home (on_frame settings number runner frame) left text told → is_none (session_at left.sessions number) ≡ false
      → Continues home settings number all before left (new ++ take (length piece - count) (drop count piece)) told
  after_take settings number all before runner left held piece mid frame new text told count so taken gave done stays =
      let rest = take (length piece - count) (drop count piece) in
      let parts : held ++ piece ≡ frame ++ rest = sym (joined held piece mid count taken) ∙ ap (λ s. s ++ rest) gave.1 in
      rw gave.2 (after_frame settings number all before runner left frame rest text told
      (subst (λ s. Continues home settings number all before runner s text) parts so) gave.0 done stays)

  -- The frame that was taken ends the session.
  pub after_last : (settings : Settings) (number : ℕ) (all : Acted) (before : List ℕ) (runner left : Runner) (held piece mid frame text told : List ℕ)
      (count : ℕ)
      → Continues home settings number all before runner (held ++ piece) text → mid ≡ held ++ take count piece → IsFrame frame × (mid ≡ frame)
      → IsDone home (on_frame settings number runner frame) left text told → is_none (session_at left.sessions number) ≡ true → IsDone home all left before told
  after_last settings number all before runner left held piece mid frame text told count so taken gave done gone =
      let rest = take (length piece - count) (drop count piece) in
      let parts : held ++ piece ≡ frame ++ rest = sym (joined held piece mid count taken) ∙ ap (λ s. s ++ rest) gave.1 in
      after_end settings number all before runner left frame rest text told
      (subst (λ s. Continues home settings number all before runner s text) parts so) gave.0 done gone

-- ---- as the code goes

-- The site and the world are as a runner for which this is left to do.
pub record Proceeds (home : ℕ) (settings : Settings) (number : ℕ) (octets : List ℕ) (start : Placed) (before : List ℕ) (now : Placed)
    (rest text : List ℕ) : Type 0 where
  pub each : (w : World) (runner : Runner) → IsRunning home start w runner
      → (mid : Runner) × IsRunning home now w mid × Continues home settings number (on_octets settings runner number octets) before mid rest text

module _ (home : ℕ) (settings : Settings) (number : ℕ) (octets : List ℕ) (start : Placed) (before : List ℕ) where
  pub opened : (site : Site) (held : List ℕ) → held ≡ held_in start.site.streams number → HasOpened start.site number site
      → Proceeds home settings number octets start before (record { world = start.world; site = site }) (held ++ octets) before
  opened site held is opens = record {
    each = λ w runner running. (
      opened_at runner number,
      record {
        home_is = opens.node_is ∙ running.home_is;
        going = running.going;
        sessions = opens.sessions ∙ ap (λ (sessions : List (ℕ × Session)). put_at sessions number (session_in sessions number)) running.sessions;
        streams = opens.streams ∙ ap (remove_entry (is_at (nat_cmp number))) running.streams;
        waiting = opens.waiting ∙ running.waiting;
      },
      nothing_done home settings number runner (opened_at runner number) held octets before
          (is ∙ ap (λ (streams : List (ℕ × List ℕ)). held_in streams number) running.streams) refl,
    );
  }

  module _ (now : Placed) (text : List ℕ) where
    -- the sessions of the site are those of the runner
    connected_so : (new : Placed) (w : World) (runner : Runner) (b : Bool) → IsRunning home new w runner
        → is_none (session_at new.site.service.sessions number) ≡ b → is_none (session_at runner.sessions number) ≡ b
    connected_so new w runner b running is =
        ap (λ (sessions : List (ℕ × Session)). is_none (session_at sessions number)) (sym running.sessions) ∙ is

    -- the frame that was taken was served, and what is left stands behind it
    pub proceeds : (new : Placed) (held piece mid frame fresh told : List ℕ) (count : ℕ)
        → Proceeds home settings number octets start before now (held ++ piece) text → mid ≡ held ++ take count piece
        → IsFrame frame × (mid ≡ frame) × (fresh ≡ [])
        → Acts now.site.node (λ runner. on_frame settings number runner frame) now new text told
        → is_none (session_at new.site.service.sessions number) ≡ false
        → Proceeds home settings number octets start before new (fresh ++ take (length piece - count) (drop count piece)) told
    proceeds new held piece mid frame fresh told count so taken gave did stays = record {
      each = λ w runner running.
          let here = so.each w runner running in
          let done = subst (λ (node : ℕ). Acts node (λ r. on_frame settings number r frame) now new text told) here.1.home_is did w here.0 here.1 in
          let left = (on_frame settings number here.0 frame).next in (
            left,
            done.running,
            after_take home settings number (on_octets settings runner number octets) before here.0 left held piece mid frame fresh text told count here.2 taken
                gave
                (record { next = refl; text = done.text }) (connected_so new w left false done.running stays),
          );
    }

    -- The frame that was taken ends the session.
    pub last_acts : (new : Placed) (held piece mid frame told : List ℕ) (count : ℕ)
        → Proceeds home settings number octets start before now (held ++ piece) text → mid ≡ held ++ take count piece → IsFrame frame × (mid ≡ frame)
        → Acts now.site.node (λ runner. on_frame settings number runner frame) now new text told
        → is_none (session_at new.site.service.sessions number) ≡ true
        → Acts home (λ runner. on_octets settings runner number octets) start new before told
    last_acts new held piece mid frame told count so taken gave did gone w runner running =
        let here = so.each w runner running in
        let done = subst (λ (node : ℕ). Acts node (λ r. on_frame settings number r frame) now new text told) here.1.home_is did w here.0 here.1 in
        let left = (on_frame settings number here.0 frame).next in
        let all = after_last home settings number (on_octets settings runner number octets) before here.0 left held piece mid frame text told count here.2 taken
        gave
        (record { next = refl; text = done.text }) (connected_so new w left true done.running gone) in
        record { running = subst (IsRunning home new w) all.next done.running; text = all.text }

    -- A wrong length ends the session.
    pub wrong_acts : (r : Result (Unit {0}) AllocError) (new : Placed) (rest told : List ℕ)
        → Proceeds home settings number octets start before now rest text → HasWrongLength rest
        → OnOk r (Acts now.site.node (ends settings number) now new text told)
        → OnOk r (Acts home (λ runner. on_octets settings runner number octets) start new before told)
    wrong_acts (Err fault) new rest told so wrong did = tt
    wrong_acts (Ok fine) new rest told so wrong did = λ w runner running.
        let here = so.each w runner running in
        let done = subst (λ (node : ℕ). Acts node (ends settings number) now new text told) here.1.home_is did w here.0 here.1 in
        let left = (ends settings number here.0).next in
        let all = after_wrong_if home settings number (on_octets settings runner number octets) before here.0 left rest text told (Ok fine) here.2 wrong
        (record { next = refl; text = done.text }) in
        record { running = subst (IsRunning home new w) all.next done.running; text = all.text }

    -- What is left is no whole frame: it waits for more.
    pub kept_acts : (r : Result (Unit {0}) AllocError) (streams : List (ℕ × List ℕ)) (rest held : List ℕ)
        → Proceeds home settings number octets start before now rest text → IsPart rest → held ≡ rest
        → OnOk r (streams ≡ insert_entry nat_cmp now.site.streams number held)
        → OnOk r (Acts home (λ runner. on_octets settings runner number octets) start
        (record { world = now.world; site = record now.site { streams = streams } }) before text)
    kept_acts (Err fault) streams rest held so part same keeps = tt
    kept_acts (Ok fine) streams rest held so part same keeps = λ w runner running.
        let here = so.each w runner running in
        let kept = keeps ∙ ap (λ (all : List (ℕ × List ℕ)). insert_entry nat_cmp all number held) here.1.streams in
        let all = after_kept_if home settings number (on_octets settings runner number octets) before here.0 rest text held streams (Ok fine) here.2 part same
        kept in
        let on : IsRunning home (record { world = now.world; site = record now.site { streams = streams } }) w (record here.0 { streams = streams }) = record {
          home_is = here.1.home_is;
          going = here.1.going;
          sessions = here.1.sessions;
          streams = refl;
          waiting = here.1.waiting;
        } in
        record { running = subst (IsRunning home (record { world = now.world; site = record now.site { streams = streams } }) w) all.next on; text = all.text }
