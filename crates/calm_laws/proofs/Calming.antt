-- The frames of a line of a calm script, the line, and all its lines.
use Rattle.std.proofs.Common.{◌≡◌, ℕ, Bool, true, false, cond, List, [], ◌∷◌, ◌++◌, length, map, inl, inr, refl, sym, ◌∙◌, ap, subst, append_assoc}
use Rattle.std.specs.List.{AllByRecursion}
use Rattle.std.specs.Ordering.{nat_cmp}
use Rattle.std.specs.Map.{remove_entry}
use Rattle.std.specs.BTreeMap.{insert_entry, is_at}
use Rattle.std.proofs.lemmas.Bool.{and_parts, cases_eq}
use Rattle.node_model.proofs.Places.{elsewhere, here}
use Rattle.pdu_codec.specs.Pdu.{read_pdu}
use Rattle.pdu_frames.specs.Frames.{AreFrames, Cut, IsFrame, begins_wrong, cut}
use Rattle.pdu_frames.proofs.Streams.{streams_cut}
use Rattle.script_text.specs.Left.{followed_by}
use Rattle.script_text.specs.Settings.{Settings}
use Rattle.script_text.specs.Prints.{Print}
use Rattle.script_text.specs.Runner.{Acted, Runner, held_in, on_cut, on_frame, on_frames, on_octets, opened_at, or_nothing, session_in}
use Rattle.script_text.specs.Events.{Event, Comes}
use Rattle.script_text.specs.OneNode.{OneNode, account_at, happen, happens}
use Rattle.script_text.specs.Calm.{are_calm, event_stir, may_happen, quiet_after, quiet_by, read_stir}
use Rattle.calm_laws.proofs.Coming.{frame_comes}
use Rattle.calm_laws.proofs.Connected.{one_served}
use Rattle.calm_laws.proofs.Entries.{remove_elsewhere}
use Rattle.calm_laws.proofs.NoLength.{whole_frame}
use Rattle.calm_laws.proofs.Running.{Runs}

-- ---- frames

-- the octets of a line left both alike, and the events behind them are calm
pub record Went (settings : Settings) (first : ℕ) (one : OneNode) (streams : List (ℕ × List ℕ)) (acted : Acted) (later all : List Event) : Type 0 where
  pub next : OneNode
  pub quiet : Bool
  pub runs : Runs settings first (length later) quiet next streams acted.next
  pub ends : (happen settings one all).next ≡ (happen settings next later).next
  pub prints : (happen settings one all).prints ≡ acted.prints ++ (happen settings next later).prints
  pub calm : are_calm settings next quiet later ≡ true

module _ (settings : Settings) (first number : ℕ) (rest : List ℕ) (later : List Event) (right : begins_wrong rest ≡ false)
    (streams held : List (ℕ × List ℕ)) (same : (other : ℕ) → (number ≡ other → ⊥) → held_in held other ≡ held_in streams other) where
  -- what happens by frames, and then
  abbrev events_of : List (List ℕ) → List Event
  events_of frames = map (Comes number) frames ++ later

  abbrev quiet_then : Bool → OneNode → List ℕ → Bool
  quiet_then quiet one frame = quiet_by quiet (read_stir settings.accounts (account_at one number) (read_pdu frame))

  -- what is left of the stream waits for more
  module _ (runner : Runner) (were : (other : ℕ) → held_in runner.streams other ≡ held_in held other) where
    abbrev AreHeld : ℕ → Type 0
    AreHeld other = held_in (insert_entry nat_cmp runner.streams number rest) other ≡ held_in (insert_entry nat_cmp streams number rest) other

    held_here : AreHeld number
    held_here = ap or_nothing (here number rest runner.streams) ∙ sym (ap or_nothing (here number rest streams))

    held_elsewhere : (other : ℕ) → (number ≡ other → ⊥) → AreHeld other
    held_elsewhere other differ =
        let not_it = λ (is : other ≡ number). differ (sym is) in
        ap or_nothing (elsewhere number rest other not_it runner.streams)
        ∙ were other
        ∙ same other differ
        ∙ sym (ap or_nothing (elsewhere number rest other not_it streams))

    are_held : (other : ℕ) → AreHeld other
    are_held other = elim (cases_eq number other) [
      | inl is ↦ subst AreHeld is held_here
      | inr differ ↦ held_elsewhere other differ
    ]

  abbrev Leaves : OneNode → Acted → List (List ℕ) → Type 0
  Leaves one acted frames = Went settings first one (insert_entry nat_cmp streams number rest) acted later (events_of frames)

  pub frames_go : (quiet : Bool) (one : OneNode) (runner : Runner) (frames : List (List ℕ)) → AllByRecursion IsFrame frames →
      Runs settings first (length (events_of frames)) quiet one held runner → are_calm settings one quiet (events_of frames) ≡ true →
      Leaves one (on_frames settings number runner frames rest) frames
  unfolding on_frames are_calm happen
  frames_go quiet one runner [] all runs calm = rw right (record {
    next = one;
    quiet = quiet;
    runs = record {
      holds = runs.holds;
      agree = runs.agree;
      still = runs.still;
      held = are_held runner runs.held;
      sessions = runs.sessions;
      waiting = runs.waiting;
    };
    ends = refl;
    prints = refl;
    calm = calm;
  })
  frames_go quiet one runner (frame ∷ frames) all runs calm =
      let event = Comes number frame in
      let next = (happens settings one event).next in
      let parts = and_parts (may_happen quiet (event_stir settings one event))
      (are_calm settings next (quiet_after settings one quiet event) (events_of frames)) calm in
      let acted = on_frame settings number runner frame in
      let came = frame_comes settings first (length (events_of frames)) number quiet one held runner runs frame (whole_frame frame all.0) parts.0 in
      let went = frames_go (quiet_then quiet one frame) next acted.next frames all.1 came.done.0 parts.1 in
      let printed : List Print = (happen settings next (events_of frames)).prints in
      let behind = on_frames settings number acted.next frames rest in
      subst (λ (gone : Bool). Leaves one (cond {A = Acted} gone acted (followed_by acted behind)) (frame ∷ frames)) (sym came.connected) (record {
        next = went.next;
        quiet = went.quiet;
        runs = went.runs;
        ends = went.ends;
        prints = ap (λ (prints : List Print). prints ++ printed) (sym came.done.1)
            ∙ ap (λ (prints : List Print). acted.prints ++ prints) went.prints
            ∙ sym (append_assoc acted.prints behind.prints _);
        calm = went.calm;
      })

-- ---- a line

are_whole : (stream : List ℕ) (frames : List (List ℕ)) (rest : List ℕ) → AreFrames stream frames rest → AllByRecursion IsFrame frames
are_whole stream [] rest are = tt
are_whole stream (frame ∷ frames) rest are = (are.0, are_whole are.1.0 frames rest are.1.2)

pub cut_whole : (stream : List ℕ) → AllByRecursion IsFrame (cut stream).frames
cut_whole stream = are_whole stream (cut stream).frames (cut stream).rest (streams_cut stream)

-- the session is connected, as it was or anew
opened_runs : (settings : Settings) (first left number : ℕ) (quiet : Bool) (one : OneNode) (streams : List (ℕ × List ℕ)) (runner : Runner) →
    Runs settings first left quiet one streams runner →
    Runs settings first left quiet one (remove_entry (is_at (nat_cmp number)) runner.streams) (opened_at runner number)
opened_runs settings first left number quiet one streams runner runs = record {
  holds = runs.holds;
  agree = runs.agree;
  still = runs.still;
  held = λ other. refl;
  sessions =
      one_served one.sessions one.sessions runs.holds runs.holds runner.sessions number (session_in runner.sessions number) (runs.sessions.each number)
      (λ other differ. refl) runs.sessions;
  waiting = runs.waiting;
}

pub octets_leave : (settings : Settings) (first number : ℕ) (quiet : Bool) (one : OneNode) (streams : List (ℕ × List ℕ)) (runner : Runner)
    (octets : List ℕ) (later : List Event) →
    let stream = cut (held_in streams number ++ octets) in
    let all = map (Comes number) stream.frames ++ later in
    begins_wrong stream.rest ≡ false → Runs settings first (length all) quiet one streams runner → are_calm settings one quiet all ≡ true →
    Went settings first one (insert_entry nat_cmp streams number stream.rest) (on_octets settings runner number octets) later all
unfolding on_octets
octets_leave settings first number quiet one streams runner octets later right runs calm =
    let stream : Cut = cut (held_in streams number ++ octets) in
    let all = map (Comes number) stream.frames ++ later in
    subst
    (λ (held : List ℕ). Went settings first one (insert_entry nat_cmp streams number stream.rest)
    (on_cut settings number (opened_at runner number) (cut (held ++ octets))) later all)
    (sym (runs.held number))
    (frames_go settings first number stream.rest later right streams (remove_entry (is_at (nat_cmp number)) runner.streams)
    (λ other differ. ap or_nothing (remove_elsewhere runner.streams number other differ) ∙ runs.held other) quiet one (opened_at runner number)
    stream.frames (cut_whole (held_in streams number ++ octets)) (opened_runs settings first (length all) number quiet one streams runner runs) calm)
