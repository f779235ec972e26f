-- The text of a script (own).
use Rattle.std.specs.Prelude.{◌≡◌, ℕ, suc, List, [], ◌∷◌, ◌++◌, length, Option, Some, None}
use Rattle.script_lines.specs.Lines.{lines_of}
use Rattle.script_lines.specs.Said.{Said, Skipped, Nodes, Octets, Deliver, Crash, Tick, Grant, Settle, Restart, Replay, said_within}
use Rattle.script_text.specs.Settings.{Settings, script_settings}
use Rattle.script_text.specs.Left.{Left, rests}
use Rattle.script_text.specs.Prints.{WorldPrint, world_text}
use Rattle.script_text.specs.World.{World, Moved, NodeInput, comes, crashes, grants, hears, on_replay, on_settle, opened, restarts, ticks}

-- what is there before a line, and after it: nothing yet, or a world
abbrev pub Stage : Type 0
Stage = Option World

-- the stage after a line, what came to nodes, and what the line printed
abbrev pub Stepped : Type 0
Stepped = Left Stage NodeInput WorldPrint

abbrev pub stepped : Moved → Option Stepped
stepped moved = Some (record { next = Some moved.next; inputs = moved.inputs; prints = moved.prints })

abbrev pub silent : Stage → Option Stepped
silent stage = Some (rests stage)

-- what a line does to the world that is there
abbrev pub moved_by : Settings → World → Said → Option Stepped
moved_by settings world Skipped = silent (Some world)
moved_by settings world (Nodes count serial) = None
moved_by settings world (Octets node session octets) = stepped (hears settings world node session octets)
moved_by settings world (Deliver number node) = stepped (comes world number node)
moved_by settings world (Crash node number after) = stepped (crashes world node number after)
moved_by settings world (Tick node moment) = stepped (ticks world node moment)
moved_by settings world (Grant node id) = stepped (grants world node id)
moved_by settings world (Settle nodes) = stepped (on_settle world nodes)
moved_by settings world (Restart node) = stepped (restarts world node)
moved_by settings world (Replay count) = stepped (on_replay world count)

-- The first line that says something opens the world, and no other does.
abbrev pub opened_by : Settings → Said → Option Stepped
opened_by settings Skipped = silent None
opened_by settings (Nodes count serial) = silent (Some (opened settings count serial))
opened_by settings other = None

-- what a line does; none if it is bad
abbrev pub step_by : Settings → Stage → Option Said → Option Stepped
step_by settings stage None = None
step_by settings None (Some said) = opened_by settings said
step_by settings (Some world) (Some said) = moved_by settings world said

-- A line may name the nodes that there are; the first that says something, nine.
abbrev pub nodes_of : Stage → ℕ
nodes_of None = 9
nodes_of (Some world) = length world.runners

unfoldable pub step_of : Settings → Stage → List ℕ → Option Stepped
step_of settings stage line = step_by settings stage (said_within (nodes_of stage) line)

-- ---- a script, as lines that join

-- Lines lead from one stage to another, each from where the one before it led: this comes to nodes, and this is printed.
unfoldable pub Joins : Settings → Stage → List (List ℕ) → List NodeInput → List WorldPrint → Stage → Type 0
Joins settings stage [] inputs prints last = (inputs ≡ []) × (prints ≡ []) × (last ≡ stage)
Joins settings stage (line ∷ lines) inputs prints last =
    (done : Stepped) × (later : List NodeInput) × (others : List WorldPrint)
    × (step_of settings stage line ≡ Some done)
    × (inputs ≡ done.inputs ++ later)
    × (prints ≡ done.prints ++ others)
    × Joins settings done.next lines later others last

-- ---- computed

-- what a line that is bad gives, and what one gives that isn't
abbrev pub after : {A : Type 0} → A → (Stepped → A) → Option Stepped → A
after bad good None = bad
after bad good (Some done) = good done

-- what the lines before the first bad one print
unfoldable pub prints_from : Settings → Stage → List (List ℕ) → List WorldPrint
prints_from settings stage [] = []
prints_from settings stage (line ∷ lines) =
    after [] (λ done. done.prints ++ prints_from settings done.next lines) (step_of settings stage line)

-- the number of the first bad line, if the first of these has this number
unfoldable pub bad_from : Settings → Stage → ℕ → List (List ℕ) → Option ℕ
bad_from settings stage number [] = None
bad_from settings stage number (line ∷ lines) =
    after (Some number) (λ done. bad_from settings done.next (suc number) lines) (step_of settings stage line)

-- what a script prints
abbrev pub prints_of : List ℕ → List WorldPrint
prints_of script = prints_from script_settings None (lines_of script)

-- its text
abbrev pub text_of : List ℕ → List ℕ
text_of script = world_text (prints_of script)

-- its first bad line, counted from 1
abbrev pub bad_line : List ℕ → Option ℕ
bad_line script = bad_from script_settings None 1 (lines_of script)
