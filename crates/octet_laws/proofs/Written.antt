-- What a line writes behind others, and what came on a session by the lines before it.
use Rattle.std.proofs.Common.{◌≡◌, ◌⊎◌, ℕ, ◌≤◌, pred, Bool, true, false, List, [], ◌∷◌, ◌++◌, drop, length, Option, Some, None, refl}
use Rattle.std.proofs.Common.{sym, ◌∙◌, ap, subst, inl, inr, append_assoc, append-nil}
use Rattle.std.specs.Prelude.{if◌then◌else◌}
use Rattle.mc_model.specs.synod.Lists.{In}
use Rattle.pdu_frames.specs.Frames.{cut_within}
use Rattle.script_lines.specs.Lines.{lines_of}
use Rattle.script_lines.specs.Said.{Said, Skipped, Nodes, Octets, Deliver, Crash, Tick, Grant, Settle, Restart, Replay, names_within, said_of, said_within}
use Rattle.script_lines.specs.Said.{◌>>=◌}
use Rattle.script_text.specs.Settings.{Settings, script_settings}
use Rattle.script_text.specs.Prints.{WorldPrint, world_line, world_text}
use Rattle.script_text.specs.Script.{Joins, Stage, Stepped, after, prints_from, step_by, step_of}
use Rattle.script_text.specs.World.{NodeInput, opened}
use Rattle.script_text.proofs.Opening.{opened_there}
use Rattle.world_fates.proofs.Answering.{joins_more}
use Rattle.octet_laws.specs.Laws.{LinesWriteOn}
use Rattle.octet_laws.specs.Sessions.{heard_behind, heard_on, heard_then, written_by, written_then}
use Rattle.octet_laws.proofs.Ties.{Hears}
use Rattle.octet_laws.proofs.Walks.{IsShort, WorldHears, line_so}

-- ---- texts

text_both : (one other : List WorldPrint) → world_text (one ++ other) ≡ world_text one ++ world_text other
text_both [] other = refl
text_both (first ∷ one) other =
    ap (λ (text : List ℕ). world_line first ++ text) (text_both one other) ∙ sym (append_assoc (world_line first) (world_text one) (world_text other))

drop_front : (front back : List ℕ) → drop (length front) (front ++ back) ≡ back
drop_front [] back = refl
drop_front (first ∷ front) back = drop_front front back

drop_all : (front : List ℕ) → drop (length front) front ≡ []
drop_all [] = refl
drop_all (first ∷ front) = drop_all front

-- ---- lines that join, and lines of which one is bad

pub joined_prints : (first : Stage) (lines : List (List ℕ)) (came : List NodeInput) (prints : List WorldPrint) (last : Stage) →
    Joins script_settings first lines came prints last → prints_from script_settings first lines ≡ prints
unfolding Joins prints_from
joined_prints first [] came prints last joins = sym joins.1
joined_prints first (line ∷ lines) came prints last joins =
    ap (λ (found : Option Stepped). after [] (λ (done : Stepped). done.prints ++ prints_from script_settings done.next lines) found) joins.3
    ∙ ap (λ (others : List WorldPrint). joins.0.prints ++ others) (joined_prints joins.0.next lines joins.1 joins.2 last joins.6)
    ∙ sym joins.5

pub record IsJoined (first : Stage) (lines : List (List ℕ)) : Type 0 where
  pub came : List NodeInput
  pub prints : List WorldPrint
  pub last : Stage
  pub joins : Joins script_settings first lines came prints last

-- they join, or nothing behind them prints
joined_or : (lines : List (List ℕ)) (first : Stage) →
    IsJoined first lines ⊎ ((more : List (List ℕ)) → prints_from script_settings first (lines ++ more) ≡ prints_from script_settings first lines)
unfolding Joins prints_from
joined_or [] first = inl (record { came = []; prints = []; last = first; joins = (refl, refl, refl) })
joined_or (line ∷ lines) first = by_step (step_of script_settings first line) refl (joined_or lines)
  where
    then_prints : (more : List (List ℕ)) → Option Stepped → List WorldPrint
    then_prints more found = after [] (λ (done : Stepped). done.prints ++ prints_from script_settings done.next more) found

    by_step : (step : Option Stepped) → step_of script_settings first line ≡ step →
        ((next : Stage) → IsJoined next lines
        ⊎ ((more : List (List ℕ)) → prints_from script_settings next (lines ++ more) ≡ prints_from script_settings next lines)) →
        IsJoined first (line ∷ lines)
        ⊎ ((more : List (List ℕ)) → then_prints (lines ++ more) (step_of script_settings first line) ≡ then_prints lines (step_of script_settings first line))
    by_step None is others = inr (λ more. ap (then_prints (lines ++ more)) is ∙ sym (ap (then_prints lines) is))
    by_step (Some done) is others = elim (others done.next) [
      | inl rest ↦ inl (record {
        came = done.inputs ++ rest.came;
        prints = done.prints ++ rest.prints;
        last = rest.last;
        joins = (done, rest.came, rest.prints, is, refl, refl, rest.joins);
      })
      | inr same ↦ inr (λ more.
          ap (then_prints (lines ++ more)) is ∙ ap (λ (others : List WorldPrint). done.prints ++ others) (same more) ∙ sym (ap (then_prints lines) is))
    ]

joined_more : (first : Stage) (lines : List (List ℕ)) (came : List NodeInput) (prints : List WorldPrint) (last : Stage) →
    Joins script_settings first lines came prints last → (more : List (List ℕ)) →
    prints_from script_settings first (lines ++ more) ≡ prints ++ prints_from script_settings last more
unfolding Joins prints_from
joined_more first [] came prints last joins more =
    ap (λ (stage : Stage). prints_from script_settings stage more) (sym joins.2)
    ∙ ap (λ (p : List WorldPrint). p ++ prints_from script_settings last more) (sym joins.1)
joined_more first (line ∷ lines) came prints last joins more =
    ap (λ (found : Option Stepped). after [] (λ (done : Stepped). done.prints ++ prints_from script_settings done.next (lines ++ more)) found) joins.3
    ∙ ap (λ (others : List WorldPrint). joins.0.prints ++ others) (joined_more joins.0.next lines joins.1 joins.2 last joins.6 more)
    ∙ sym (append_assoc joins.0.prints joins.2 (prints_from script_settings last more))
    ∙ ap (λ (p : List WorldPrint). p ++ prints_from script_settings last more) (sym joins.5)

pub write_on : LinesWriteOn
write_on = record {
  whole = λ script. refl;
  begins = λ before later. elim (joined_or before None) [
    | inl joined ↦ (
      world_text (prints_from script_settings joined.last later),
      ap world_text (joined_more None before joined.came joined.prints joined.last joined.joins later)
          ∙ text_both joined.prints (prints_from script_settings joined.last later)
          ∙ ap (λ (p : List WorldPrint). world_text p ++ world_text (prints_from script_settings joined.last later))
          (sym (joined_prints None before joined.came joined.prints joined.last joined.joins)),
    )
    | inr same ↦ ([], ap world_text (same later) ∙ sym (append-nil (written_by before)))
  ];
}

-- a line that stands behind lines that join
pub then_written : (before : List (List ℕ)) (came : List NodeInput) (prints : List WorldPrint) (last : Stage) (line : List ℕ) (done : Stepped) →
    Joins script_settings None before came prints last → step_of script_settings last line ≡ Some done →
    written_then before line ≡ lines_of (world_text done.prints)
then_written before came prints last line done joins does =
    let front = joined_prints None before came prints last joins in
    let whole = joined_prints None (before ++ line ∷ []) _ _ _ (joins_more script_settings None last before came prints line done joins does) in
    ap lines_of (
    ap (λ (p : List WorldPrint). drop (length (written_by before)) (world_text p)) whole
    ∙ ap (λ (p : List WorldPrint). drop (length (world_text p)) (world_text (prints ++ done.prints))) front
    ∙ ap (drop (length (world_text prints))) (text_both prints done.prints)
    ∙ drop_front (world_text prints) (world_text done.prints))

-- a bad line prints nothing
bad : (line : List ℕ) (lines : List (List ℕ)) (first : Stage) (came : List NodeInput) (prints : List WorldPrint) (last : Stage) →
    Joins script_settings first lines came prints last → step_of script_settings last line ≡ None →
    prints_from script_settings first (lines ++ line ∷ []) ≡ prints
unfolding Joins prints_from
bad line [] first came prints last joins is =
    ap (λ (found : Option Stepped). after [] (λ (done : Stepped). done.prints ++ prints_from script_settings done.next []) found)
    (ap (λ (stage : Stage). step_of script_settings stage line) (sym joins.2) ∙ is) ∙ sym joins.1
bad line (other ∷ lines) first came prints last joins is =
    ap (λ (found : Option Stepped). after [] (λ (done : Stepped). done.prints ++ prints_from script_settings done.next (lines ++ line ∷ [])) found) joins.3
    ∙ ap (λ (others : List WorldPrint). joins.0.prints ++ others) (bad line lines joins.0.next joins.1 joins.2 last joins.6 is)
    ∙ sym joins.5

-- what is written was printed by the line
pub record IsWritten (before : List (List ℕ)) (line : List ℕ) : Type 0 where
  pub joined : IsJoined None before
  pub done : Stepped
  pub does : step_of script_settings joined.last line ≡ Some done
  pub written_is : written_then before line ≡ lines_of (world_text done.prints)

pub written_so : (before : List (List ℕ)) (line written : List ℕ) → In written (written_then before line) → IsWritten before line
written_so before line written among = elim (joined_or before None) [
  | inl joined ↦ by_step joined (step_of script_settings joined.last line) refl
  | inr same ↦ absurd (silent (same (line ∷ [])))
]
  where
    silent : prints_from script_settings None (before ++ line ∷ []) ≡ prints_from script_settings None before → ⊥
    silent same =
        subst (In written)
        (ap (λ (p : List WorldPrint). lines_of (drop (length (written_by before)) (world_text p))) same ∙ ap lines_of (drop_all (written_by before))) among

    by_step : (joined : IsJoined None before) (step : Option Stepped) → step_of script_settings joined.last line ≡ step → IsWritten before line
    by_step joined None is =
        absurd (silent (bad line before None joined.came joined.prints joined.last joined.joins is
        ∙ sym (joined_prints None before joined.came joined.prints joined.last joined.joins)))
    by_step joined (Some done) is = record {
      joined = joined;
      done = done;
      does = is;
      written_is = then_written before joined.came joined.prints joined.last line done joined.joins is;
    }

-- ---- what came on a session

module _ (m number : ℕ) (least_m : 1 ≤ m) where
  abbrev pub StageHears : List ℕ → Stage → Type 0
  StageHears stream None = stream ≡ []
  StageHears stream (Some world) = WorldHears m number least_m stream world × IsShort m number least_m stream

  -- nothing came yet on a session of a world that opens
  opened_hears : (settings : Settings) (count serial : ℕ) → WorldHears m number least_m [] (opened settings count serial)
  unfolding cut_within
  opened_hears settings count serial runner is =
      subst (Hears number []) (opened_there settings count serial (pred m) runner is) (record {
        sound = record {
          given = λ h among. absurd among;
          there = inl refl;
          each = λ session among. absurd among;
          apart = tt;
        };
        held = record { rest = refl; apart = tt };
      })

  said_one : (most : ℕ) (line : List ℕ) (said : Said) → said_within most line ≡ Some said → said_of line ≡ Some said
  said_one most line said is = by_said (said_of line) is
    where
      by_test : (one : Said) (test : Bool) → (if test then Some one else None) ≡ Some said → Some one ≡ Some said
      by_test one true is = is
      by_test one false is = absurd cc

      by_said : (found : Option Said) → (found >>= (λ (one : Said). if names_within most one then Some one else None)) ≡ Some said → found ≡ Some said
      by_said None is = absurd cc
      by_said (Some one) is = by_test one (names_within most one) is

  stage_hears : (before : List (List ℕ)) (came : List NodeInput) (prints : List WorldPrint) (middle : Stage) →
      Joins script_settings None before came prints middle → (stream : List ℕ) → StageHears stream middle → (lines : List (List ℕ))
      (coming : List NodeInput) (others : List WorldPrint) (last : Stage) → Joins script_settings middle lines coming others last →
      StageHears (heard_behind m number before stream lines) last
  unfolding Joins step_of heard_behind
  stage_hears before came prints middle joins stream hears [] coming others last later = subst (StageHears stream) (sym later.2) hears
  stage_hears before came prints middle joins stream hears (line ∷ lines) coming others last later =
      let done = later.0 in
      stage_hears (before ++ line ∷ []) (came ++ done.inputs) (prints ++ done.prints) done.next
      (joins_more script_settings None middle before came prints line done joins later.3)
      (heard_then m number (said_of line) (written_then before line) stream)
      (subst (λ (written : List (List ℕ)). StageHears (heard_then m number (said_of line) written stream) done.next)
      (sym (then_written before came prints middle line done joins later.3)) (next middle hears later.3)) lines later.1 later.2 last later.6
    where
      abbrev_none : (done : Stepped) → List (List ℕ)
      abbrev_none done = lines_of (world_text done.prints)

      by_said : (found : Option Said) → said_within 9 line ≡ found → (done : Stepped) → step_by script_settings None found ≡ Some done → stream ≡ [] →
          StageHears (heard_then m number (said_of line) (abbrev_none done) stream) done.next
      by_said None says done is none = absurd cc
      by_said (Some Skipped) says done is none =
          subst (λ (d : Stepped). StageHears (heard_then m number (said_of line) (abbrev_none d) stream) d.next) (same _ done is)
          (subst (λ (said : Option Said). StageHears (heard_then m number said [] stream) None) (sym (said_one 9 line Skipped says)) (append-nil stream ∙ none))
        where
          same : (one other : Stepped) → Some one ≡ Some other → one ≡ other
          same one other is = cc
      by_said (Some (Nodes count serial)) says done is none =
          subst (λ (d : Stepped). StageHears (heard_then m number (said_of line) (abbrev_none d) stream) d.next) (same _ done is)
          (subst (λ (said : Option Said). StageHears (heard_then m number said [] stream) (Some (opened script_settings count serial)))
          (sym (said_one 9 line (Nodes count serial) says))
          (subst (λ (s : List ℕ). StageHears s (Some (opened script_settings count serial))) (sym (append-nil stream ∙ none))
          (opened_hears script_settings count serial, inl refl)))
        where
          same : (one other : Stepped) → Some one ≡ Some other → one ≡ other
          same one other is = cc
      by_said (Some (Octets node session octets)) says done is none = absurd cc
      by_said (Some (Deliver packet node)) says done is none = absurd cc
      by_said (Some (Crash node packet after)) says done is none = absurd cc
      by_said (Some (Tick node moment)) says done is none = absurd cc
      by_said (Some (Grant node id)) says done is none = absurd cc
      by_said (Some (Settle nodes)) says done is none = absurd cc
      by_said (Some (Restart node)) says done is none = absurd cc
      by_said (Some (Replay count)) says done is none = absurd cc

      next : (stage : Stage) → StageHears stream stage → step_of script_settings stage line ≡ Some later.0 →
          StageHears (heard_then m number (said_of line) (abbrev_none later.0) stream) later.0.next
      next None none is = by_said (said_within 9 line) refl later.0 is none
      next (Some world) hears is =
          let it = line_so m number least_m script_settings stream hears.1 world hears.0 line later.0 is in
          subst (λ (stage : Stage). StageHears (heard_then m number (said_of line) (abbrev_none later.0) stream) stage) (sym it.2.stage_is)
          (subst (λ (said : Option Said). StageHears (heard_then m number said (abbrev_none later.0) stream) (Some it.2.next))
          (sym (said_one (length world.runners) line it.0 it.1)) (it.2.hears, it.2.short))

  -- what came on the session by lines that join
  pub lines_hear : (lines : List (List ℕ)) (came : List NodeInput) (prints : List WorldPrint) (last : Stage) →
      Joins script_settings None lines came prints last → StageHears (heard_on m number lines) last
  unfolding Joins
  lines_hear lines came prints last joins = stage_hears [] [] [] None (refl, refl, refl) [] refl lines came prints last joins
