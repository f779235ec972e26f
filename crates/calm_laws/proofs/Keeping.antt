-- Line after line of a calm script, the node 1 of its world goes as the one node does, and prints what it prints.
use Rattle.std.specs.Prelude.{nat_le, nat_lt}
use Rattle.std.proofs.Common.{◌≡◌, ℕ, suc, ◌<◌, ◌≤◌, ◌-◌, ◌^◌, Bool, true, false, cond, List, [], ◌∷◌, ◌++◌, length, map, Option, Some}
use Rattle.std.proofs.Common.{None, refl, sym, ◌∙◌, ap, subst, arith}
use Rattle.std.specs.Option.{option_map}
use Rattle.std.specs.Ordering.{nat_cmp}
use Rattle.std.specs.BTreeMap.{insert_entry}
use Rattle.std.proofs.lemmas.Bool.{and_parts}
use Rattle.std.proofs.lemmas.List.{map-append}
use Rattle.table_laws.specs.Attempts.{refusal_at}
use Rattle.table_laws.proofs.Opening.{new_rests}
use Rattle.pdu_frames.specs.Frames.{Cut, begins_wrong, cut}
use Rattle.script_lines.specs.Lines.{lines_of}
use Rattle.script_lines.specs.Said.{Said, Skipped, Nodes, Octets, Deliver, Crash, Tick, Grant, Settle, Restart, Replay, said_within}
use Rattle.script_text.specs.Settings.{Settings, script_settings}
use Rattle.script_text.specs.Prints.{At, Print, WorldPrint, text_at, world_text}
use Rattle.script_text.specs.Pushes.{accounts_up}
use Rattle.delivery.specs.Targets.{is_up}
use Rattle.script_text.specs.Runner.{Acted, Runner, held_in, on_grant, on_octets, on_tick, runner_opened}
use Rattle.script_text.specs.World.{Moved, World, acts, most_deliveries, node_opened, on_settle, opened}
use Rattle.script_text.specs.Events.{Event, Heard, Comes, Ticks, Grants, Settles, Play, and_then, events_from, heard_by, play_from, play_of_lines}
use Rattle.script_text.specs.OneNode.{OneNode, granted_unless, happen, happens, one_node, one_node_text, played, prints_if, settled, ticks_up}
use Rattle.script_text.specs.Calm.{IsCalm, are_calm, may_happen, pushed_in, tick_stir}
use Rattle.script_text.specs.Script.{Stage, Stepped, after, bad_from, bad_line, moved_by, prints_from, step_by, step_of, stepped, text_of}
use Rattle.script_text.proofs.Texts.{at_node}
use Rattle.calm_laws.proofs.Awaiting.{grant_alike, octets_alike, tick_alike}
use Rattle.calm_laws.proofs.Beside.{GoesBeside, IsBeside, acts_beside}
use Rattle.calm_laws.proofs.Calming.{Went, octets_leave}
use Rattle.calm_laws.proofs.Delivering.{settles_beside}
use Rattle.calm_laws.proofs.Ending.{settle_leaves}
use Rattle.calm_laws.proofs.Granting.{grant_leaves}
use Rattle.calm_laws.proofs.Growing.{events_grow}
use Rattle.calm_laws.proofs.Running.{Runs}
use Rattle.calm_laws.proofs.Saying.{Says, said_within_more, says, takes_part_in, the_node}
use Rattle.calm_laws.proofs.Sending.{none_sent}
use Rattle.calm_laws.proofs.Standing.{IsFit, rested}
use Rattle.calm_laws.proofs.Ticking.{tick_leaves}

-- ---- lines

-- what the node 1 prints, and which line is bad
abbrev Prints : Settings → OneNode → List Event → List WorldPrint → Option ℕ → Type 0
Prints settings one events prints bad = (prints ≡ map (At 1) (happen settings one events).prints) × (bad ≡ None)

-- the same of a line, by what it does, and the lines behind it
abbrev LinePrints : Settings → OneNode → List Event → List (List ℕ) → ℕ → Option Stepped → Type 0
LinePrints settings one events lines number step =
    Prints settings one events (after [] (λ (done : Stepped). done.prints ++ prints_from settings done.next lines) step)
    (after (Some number) (λ (done : Stepped). bad_from settings done.next (suc number) lines) step)

-- few messages are there in the end
abbrev IsSmall : Settings → OneNode → List Event → Type 0
IsSmall settings one events = length (happen settings one events).next.node.table ≤ 10000

LinesCalm : Settings → ℕ → List (List ℕ) → Type 0
LinesCalm settings first lines =
    (streams : List (ℕ × List ℕ)) (quiet : Bool) (one : OneNode) (runner : Runner) (world : World) (events : List Event) (number : ℕ) →
    Runs settings first (length events) quiet one streams runner → IsBeside runner world → events_from streams lines ≡ Some events →
    are_calm settings one quiet events ≡ true → IsSmall settings one events →
    Prints settings one events (prints_from settings (Some world) lines) (bad_from settings (Some world) number lines)

tail_of : (P : List Event → Type 0) (first : List Event) (later : Option (List Event)) (events : List Event) →
    ((tail : List Event) → later ≡ Some tail → P (first ++ tail)) →
    option_map (λ others. first ++ others) later ≡ Some events → P events
tail_of P first None events each is = absurd cc
tail_of P first (Some tail) events each is =
    let same : first ++ tail ≡ events = cc in
    subst P same (each tail refl)

module _ (settings : Settings) (first : ℕ) (lines : List (List ℕ)) (behind : LinesCalm settings first lines) (streams : List (ℕ × List ℕ)) (quiet : Bool)
    (one : OneNode) (runner : Runner) (world : World) (beside : IsBeside runner world) (line : ℕ) where
  -- the runner went as the one node does, and the world beside it
  went_calm : (left : List (ℕ × List ℕ)) (acted : Acted) (moved : Moved) (tail all : List Event) → Went settings first one left acted tail all →
      GoesBeside acted moved → events_from left lines ≡ Some tail → IsSmall settings one all → LinePrints settings one all lines line (stepped moved)
  unfolding LinesCalm
  went_calm left acted moved tail all gone goes tail_is small =
      let few = subst (λ (n : OneNode). length n.node.table ≤ 10000) gone.ends small in
      let later = behind left gone.quiet gone.next acted.next moved.next tail (suc line) gone.runs goes.beside tail_is gone.calm few in (
        (λ i. goes.prints i ++ later.0 i)
            ∙ sym (map-append (At 1) acted.prints (happen settings gone.next tail).prints)
            ∙ ap (map (At 1)) (sym gone.prints),
        later.1,
      )

  -- a line that says this
  abbrev SaidCalm : Said → List Event → Type 0
  SaidCalm said events =
      Runs settings first (length events) quiet one streams runner → are_calm settings one quiet events ≡ true → IsSmall settings one events →
      LinePrints settings one events lines line (moved_by settings world said)

  -- the node that acts is the node 1
  acts_calm : (act : Runner → Acted) (left : List (ℕ × List ℕ)) (tail all : List Event) (node : ℕ) → node ≡ 1 →
      Went settings first one left (act runner) tail all → GoesBeside (act runner) (acts world 1 act) → events_from left lines ≡ Some tail →
      IsSmall settings one all → LinePrints settings one all lines line (stepped (acts world node act))
  acts_calm act left tail all node is gone goes tail_is small =
      subst (λ (n : ℕ). LinePrints settings one all lines line (stepped (acts world n act))) (sym is)
      (went_calm left (act runner) (acts world 1 act) tail all gone goes tail_is small)

  -- ---- octets

  module _ (node number : ℕ) (octets : List ℕ) (is : node ≡ 1) where
    abbrev stream : Cut
    stream = cut (held_in streams number ++ octets)

    octets_calm : (tail : List Event) → begins_wrong stream.rest ≡ false → events_from (insert_entry nat_cmp streams number stream.rest) lines ≡ Some tail →
        SaidCalm (Octets node number octets) (map (Comes number) stream.frames ++ tail)
    octets_calm tail right tail_is runs calm small =
        let act : Runner → Acted = λ r. on_octets settings r number octets in
        acts_calm act (insert_entry nat_cmp streams number stream.rest) tail (map (Comes number) stream.frames ++ tail) node is
        (octets_leave settings first number quiet one streams runner octets tail right runs calm)
        (acts_beside act (λ waiting. octets_alike waiting settings number octets) runner world beside) tail_is small

    abbrev heard : Heard
    heard = record { events = map (Comes number) stream.frames; streams = insert_entry nat_cmp streams number stream.rest }

    octets_said : (events : List Event) (wrong : Bool) → begins_wrong stream.rest ≡ wrong →
        and_then (cond wrong None (Some heard)) (λ so. events_from so.streams lines) ≡ Some events → SaidCalm (Octets node number octets) events
    octets_said events true right found = absurd cc
    octets_said events false right found =
        tail_of (SaidCalm (Octets node number octets)) (map (Comes number) stream.frames) (events_from heard.streams lines) events
        (λ tail tail_is. octets_calm tail right tail_is) found

  -- ---- a tick

  tick_calm : (node moment : ℕ) → node ≡ 1 → (tail : List Event) → events_from streams lines ≡ Some tail → SaidCalm (Tick node moment) (Ticks moment ∷ tail)
  unfolding are_calm happen happens
  tick_calm node moment is tail tail_is runs calm small =
      let act : Runner → Acted = λ r. on_tick r moment in
      let happened = ticks_up one moment (is_up (accounts_up one.sessions)) in
      let parts = and_parts (may_happen quiet (tick_stir (pushed_in one))) (are_calm settings happened.next false tail) calm in
      let (leaves, prints) = tick_leaves settings first (length tail) quiet one streams runner moment parts.0 runs in
      let gone : Went settings first one streams (on_tick runner moment) tail (Ticks moment ∷ tail) = record {
        next = happened.next;
        quiet = false;
        runs = leaves;
        ends = refl;
        prints = ap (λ (printed : List Print). printed ++ (happen settings happened.next tail).prints) (sym prints);
        calm = parts.1;
      } in
      acts_calm act streams tail (Ticks moment ∷ tail) node is gone (acts_beside act (λ waiting. tick_alike waiting moment) runner world beside) tail_is small

  -- ---- a grant

  grant_calm : (node id : ℕ) → node ≡ 1 → (tail : List Event) → events_from streams lines ≡ Some tail → SaidCalm (Grant node id) (Grants id ∷ tail)
  unfolding are_calm happen happens
  grant_calm node id is tail tail_is runs calm small =
      let act : Runner → Acted = λ r. on_grant r id in
      let happened = granted_unless one id (refusal_at one.node id) in
      let parts = and_parts quiet (are_calm settings happened.next false tail) calm in
      let (leaves, prints) = grant_leaves settings first (length tail) one streams runner id
      (subst (λ (q : Bool). Runs settings first (suc (length tail)) q one streams runner) parts.0 runs) in
      let gone : Went settings first one streams (on_grant runner id) tail (Grants id ∷ tail) = record {
        next = happened.next;
        quiet = false;
        runs = leaves;
        ends = refl;
        prints = ap (λ (printed : List Print). printed ++ (happen settings happened.next tail).prints) (sym prints);
        calm = parts.1;
      } in
      acts_calm act streams tail (Grants id ∷ tail) node is gone (acts_beside act (λ waiting. grant_alike waiting id) runner world beside) tail_is small

  -- ---- a settle

  settle_calm : (nodes text : List ℕ) → Says 1 text (Settle nodes) → (tail : List Event) → events_from streams lines ≡ Some tail →
      SaidCalm (Settle nodes) (Settles ∷ tail)
  unfolding are_calm happen happens
  settle_calm nodes text it tail tail_is runs calm small =
      let next = (settled one).next in
      let grown = events_grow settings next tail in
      let (acted, settles_to, done) = settle_leaves settings first (length tail) quiet one streams runner (omega (arith, grown, small)) runs in
      let gone : Went settings first one streams acted tail (Settles ∷ tail) = record {
        next = next;
        quiet = true;
        runs = done.0;
        ends = refl;
        prints = ap (λ (printed : List Print). printed ++ (happen settings next tail).prints) (sym done.1);
        calm = (and_parts true (are_calm settings next true tail) calm).1;
      } in
      went_calm streams acted (on_settle world nodes) tail (Settles ∷ tail) gone
      (settles_beside nodes (takes_part_in nodes text it.spelled.wording it.within) most_deliveries runner world beside acted settles_to) tail_is small

  -- ---- any line

  said_calm : (text : List ℕ) (events : List Event) (said : Said) → Says 1 text said →
      and_then (heard_by streams (Some said)) (λ so. events_from so.streams lines) ≡ Some events → SaidCalm said events
  unfolding LinesCalm
  said_calm text events (Nodes count serial) it is = absurd cc
  said_calm text events (Deliver number node) it is = absurd cc
  said_calm text events (Crash node number after) it is = absurd cc
  said_calm text events (Restart node) it is = absurd cc
  said_calm text events (Replay count) it is = absurd cc
  said_calm text events Skipped it is =
      tail_of (SaidCalm Skipped) [] (events_from streams lines) events
      (λ tail tail_is runs calm small. behind streams quiet one runner world tail (suc line) runs beside tail_is calm small) is
  said_calm text events (Tick node moment) it is =
      tail_of (SaidCalm (Tick node moment)) (Ticks moment ∷ []) (events_from streams lines) events
      (tick_calm node moment (the_node node it.spelled.wording.0 it.within)) is
  said_calm text events (Grant node id) it is =
      tail_of (SaidCalm (Grant node id)) (Grants id ∷ []) (events_from streams lines) events
      (grant_calm node id (the_node node it.spelled.wording.0 it.within)) is
  said_calm text events (Settle nodes) it is =
      tail_of (SaidCalm (Settle nodes)) (Settles ∷ []) (events_from streams lines) events (settle_calm nodes text it) is
  said_calm text events (Octets node number octets) it is =
      let one_of = the_node node it.spelled.wording.0 it.within in
      octets_said node number octets one_of events (begins_wrong (stream node number octets one_of).rest) refl is

  -- a line of a world that stands beside a runner has one node to name
  line_calm : (text : List ℕ) (events : List Event) → and_then (heard_by streams (said_within 1 text)) (λ so. events_from so.streams lines) ≡ Some events →
      Runs settings first (length events) quiet one streams runner → are_calm settings one quiet events ≡ true → IsSmall settings one events →
      LinePrints settings one events lines line (step_of settings (Some world) text)
  unfolding step_of
  line_calm text events is runs calm small =
      subst (λ (n : ℕ). LinePrints settings one events lines line (step_by settings (Some world) (said_within n text)))
      (sym (ap (λ (w : World). length w.runners) beside.is))
      (by_said (said_within 1 text) refl is)
    where
      by_said : (said : Option Said) → said_within 1 text ≡ said → and_then (heard_by streams said) (λ so. events_from so.streams lines) ≡ Some events →
          LinePrints settings one events lines line (step_by settings (Some world) said)
      by_said None read is = absurd cc
      by_said (Some said) read is = said_calm text events said (says 1 text said read) is runs calm small

lines_calm : (settings : Settings) (first : ℕ) (lines : List (List ℕ)) → LinesCalm settings first lines
unfolding LinesCalm prints_from bad_from events_from happen
lines_calm settings first [] streams quiet one runner world events number runs beside is calm small =
    let none : [] ≡ events = cc in
    subst (λ (e : List Event). Prints settings one e [] None) none (refl, refl)
lines_calm settings first (line ∷ lines) streams quiet one runner world events number runs beside is calm small =
    line_calm settings first lines (lines_calm settings first lines) streams quiet one runner world beside number line events is runs calm small

-- ---- a script

-- what a play prints
abbrev PlayPrints : Play → List WorldPrint → Option ℕ → Type 0
PlayPrints play prints bad = (prints ≡ map (At 1) (played play).prints) × (bad ≡ None)

-- from this stage on, if the first of the lines has this number
abbrev StagePrints : Play → Stage → ℕ → List (List ℕ) → Type 0
StagePrints play stage number lines = PlayPrints play (prints_from script_settings stage lines) (bad_from script_settings stage number lines)

-- the runner of the node 1 of one
abbrev first_runner : ℕ → Runner
first_runner serial = runner_opened (node_opened script_settings 1 serial 1)

none_below : (place : ℕ) → false ≡ nat_lt place 0
none_below place = grind arith

opens : (serial : ℕ) → IsBeside (first_runner serial) (opened script_settings 1 serial)
opens serial = record {
  past = [];
  came = λ number node. false;
  is = refl;
  have_come = none_below;
  alone = record { number = refl; up = refl; own = none_sent 1 };
}

opened_fit : (serial : ℕ) → 1 ≤ serial → IsFit (one_node serial)
opened_fit serial least = record {
  least = least;
  plain = λ number. record { state = refl; idle = refl };
  waiting = record { holder = λ id. 0; each = λ number. tt; distinct = λ number. tt };
}

opened_runs : (serial : ℕ) (events : List Event) → 1 ≤ serial → length events < 2 ^ 64 - 1 →
    Runs script_settings serial (length events) true (one_node serial) [] (first_runner serial)
opened_runs serial events least few = record {
  holds = None;
  agree =
      rested script_settings serial (length events) (one_node serial) (first_runner serial).node.kept (opened_fit serial least)
      (omega (arith, few)) (new_rests serial script_settings.validity) refl refl;
  still = (refl, refl);
  held = λ number. refl;
  sessions = record { each = λ number. refl; entries = tt; distinct = tt };
  waiting = refl;
}

-- what is asked of the play of a calm script
record IsCalmPlay (play : Play) : Type 0 where
  calm : are_calm script_settings (one_node play.serial) true play.events ≡ true
  small : length (played play).next.node.table ≤ 10000
  few : length play.events < 2 ^ 64 - 1

module _ (lines : List (List ℕ)) (play : Play) (number : ℕ) (calm : IsCalmPlay play) where
  nodes_calm : (serial : ℕ) (found : Option (List Event)) → 1 ≤ serial → events_from [] lines ≡ found →
      option_map (λ events. record { serial = serial; events = events }) found ≡ Some play →
      StagePrints play (Some (opened script_settings 1 serial)) (suc number) lines
  unfolding LinesCalm
  nodes_calm serial None least found is = absurd cc
  nodes_calm serial (Some events) least found is =
      let same : record { serial = serial; events = events } ≡ play = cc in
      let so : IsCalmPlay (record { serial = serial; events = events }) = subst IsCalmPlay (sym same) calm in
      subst (λ (p : Play). StagePrints p (Some (opened script_settings 1 serial)) (suc number) lines) same
      (lines_calm script_settings serial lines [] true (one_node serial) (first_runner serial) (opened script_settings 1 serial) events (suc number)
      (opened_runs serial events least so.few) (opens serial) found so.calm so.small)

  -- what a first line leaves
  abbrev FirstPrints : Option Said → Type 0
  FirstPrints said =
      PlayPrints play (after [] (λ (done : Stepped). done.prints ++ prints_from script_settings done.next lines) (step_by script_settings None said))
      (after (Some number) (λ (done : Stepped). bad_from script_settings done.next (suc number) lines) (step_by script_settings None said))

  -- the first line says this, or the lines behind it are those of the script
  first_said : (text : List ℕ) (said : Said) → Says 1 text said →
      (play_of_lines lines ≡ Some play → StagePrints play None (suc number) lines) →
      play_from (Some said) lines (play_of_lines lines) ≡ Some play → FirstPrints (said_within 9 text)
  first_said text Skipped it later is = subst FirstPrints (sym (said_within_more 9 text Skipped it.read refl)) (later is)
  first_said text (Nodes count serial) it later is =
      let one : count ≡ 1 = the_node count it.spelled.wording.0 it.within in
      let most : nat_le count 9 ≡ true = subst (λ (n : ℕ). nat_le n 9 ≡ true) (sym one) refl in
      subst FirstPrints (sym (said_within_more 9 text (Nodes count serial) it.read most))
      (subst (λ (n : ℕ). StagePrints play (Some (opened script_settings n serial)) (suc number) lines) (sym one)
      (nodes_calm serial (events_from [] lines) it.spelled.wording.1 refl is))
  first_said text (Octets node session octets) it later is = absurd cc
  first_said text (Deliver number node) it later is = absurd cc
  first_said text (Crash node number after) it later is = absurd cc
  first_said text (Tick node moment) it later is = absurd cc
  first_said text (Grant node id) it later is = absurd cc
  first_said text (Settle nodes) it later is = absurd cc
  first_said text (Restart node) it later is = absurd cc
  first_said text (Replay count) it later is = absurd cc

  first_line : (text : List ℕ) (said : Option Said) → said_within 1 text ≡ said → (play_of_lines lines ≡ Some play → StagePrints play None (suc number) lines) →
      play_from said lines (play_of_lines lines) ≡ Some play → FirstPrints (said_within 9 text)
  first_line text None read later is = absurd cc
  first_line text (Some said) read later is = first_said text said (says 1 text said read) later is

first_calm : (lines : List (List ℕ)) (play : Play) (number : ℕ) → IsCalmPlay play → play_of_lines lines ≡ Some play → StagePrints play None number lines
unfolding play_of_lines prints_from bad_from step_of
first_calm [] play number calm is = absurd cc
first_calm (line ∷ lines) play number calm is =
    first_line lines play number calm line (said_within 1 line) refl (first_calm lines play (suc number) calm) is

pub calm_text : (script : List ℕ) → IsCalm script → (bad_line script ≡ None) × (text_of script ≡ one_node_text script)
calm_text script is =
    let (prints, bad) = first_calm (lines_of script) is.play 1 (record { calm = is.calm; small = is.messages; few = is.tickets }) is.played_by in (
      bad,
      ap world_text prints
          ∙ at_node 1 (played is.play).prints
          ∙ sym (ap (λ (play : Option Play). text_at 1 (prints_if play)) is.played_by),
    )
