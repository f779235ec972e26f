-- What came of a script: what was read of it, and what was written.
use Rattle.std.specs.Prelude.{◌≡◌, ◌⊎◌, ℕ, ◌+◌, ◌≤◌, Bool, true, false, List, [], ◌∷◌, ◌++◌, codes, length, take, Option, Some, None}
use Rattle.std.specs.Prelude.{Result, Ok, Err, if◌then◌else◌, ◌&&◌, not}
use Rattle.std.specs.Str.{bytes_eq}
use Rattle.std.specs.Io.KnownBytes.{Consumes, IsAtEnd}
use Rattle.octet_io.specs.Reads.{Reads, Ends, GoesOn, Stops}
use Rattle.octet_io.specs.Writes.{Sends, SendsFront, Writes}
use Rattle.script_lines.specs.Lines.{NeedsMore}
use Rattle.script_lines.specs.Finding.{IsFound, Reaches, held_before}
use Rattle.script_lines.specs.Said.{Said, Skipped, Nodes, Octets, Deliver, Crash, Tick, Grant, Settle, Restart, Replay, names_within}
use Rattle.script_lines.specs.declared.buffer.Found.{Found}
use Rattle.script_lines.specs.declared.buffer.Found.TheVariants as found
use Rattle.script_text.specs.Settings.{script_settings}
use Rattle.script_text.specs.Prints.{world_text}
use Rattle.script_text.specs.Script.{Stage, Stepped, step_by, step_of, text_of, bad_line}
use Rattle.script_text.specs.World.{World}
use Rattle.script_runner.specs.Centres.{IsWorld}
use Rattle.script_runner.specs.Faults.{fault_text}
use Rattle.script_runner.specs.declared.centre.Centre.{Centre}
use Rattle.script_runner.specs.declared.fault.ScriptFault.{ScriptFault}
use Rattle.script_runner.specs.declared.fault.ScriptFault.TheVariants.{BadLine, Read, Write, Memory}
use Rattle.script_runner.specs.declared.program.ProgramRun.{ProgramRun}
use Rattle.script_runner.specs.declared.program.ProgramRun.TheVariants.{Script, Usage}

-- ---- one line

-- a number of nodes and a serial that a line gives are within their limits
abbrev pub NumberFits : Said → Type 0
NumberFits Skipped = Unit {0}
NumberFits (Nodes count serial) = (count ≤ 9) × (1 ≤ serial) × (serial ≤ 99999)
NumberFits (Octets node session octets) = Unit {0}
NumberFits (Deliver number node) = Unit {0}
NumberFits (Crash node number after) = Unit {0}
NumberFits (Tick node moment) = Unit {0}
NumberFits (Grant node id) = Unit {0}
NumberFits (Settle nodes) = Unit {0}
NumberFits (Restart node) = Unit {0}
NumberFits (Replay count) = Unit {0}

-- the centre is as the world of a stage, if there is one
abbrev pub StandsAt : Option Centre → Stage → Type 0
StandsAt None None = Unit {0}
StandsAt None (Some w) = ⊥
StandsAt (Some centre) None = ⊥
StandsAt (Some centre) (Some w) = IsWorld centre w

-- The centre is started by a line that says so, or the line is bad.
abbrev pub IsStarted : Option Stepped → Bool → Option Centre → Type 0
IsStarted None good new = good ≡ false
IsStarted (Some done) good new = (good ≡ true) × StandsAt new done.next × (done.prints ≡ [])

-- A line was good, led to this stage and added its text; or it was bad.
abbrev pub IsStepBy : Option Stepped → Bool → Option Centre → List ℕ → List ℕ → Type 0
IsStepBy None good new before after = good ≡ false
IsStepBy (Some done) good new before after = (good ≡ true) × StandsAt new done.next × (after ≡ before ++ world_text done.prints)

abbrev pub IsStep : Option Centre → List ℕ → Bool → Option Centre → List ℕ → List ℕ → Type 0
IsStep old line good new before after = (stage : Stage) → StandsAt old stage → IsStepBy (step_of script_settings stage line) good new before after

-- what a line says that names no other nodes
abbrev pub said_among : ℕ → Said → Option Said
said_among nodes said = if names_within nodes said then Some said else None

abbrev pub IsAct : Centre → Said → Bool → Centre → List ℕ → List ℕ → Type 0
IsAct old said good new before after =
    (w : World) → IsWorld old w → IsStepBy (step_by script_settings (Some w) (said_among (length w.runners) said)) good (Some new) before after

-- a line is bad, and is told by its number; nothing was written
pub record IsRefused {W : Type 0} (old : Stage) (line : List ℕ) (number told : ℕ) (before after : Writes W) : Type 0 where
  pub bad : step_of script_settings old line ≡ None
  pub counted : told ≡ number
  pub kept : after ≡ before

-- of a writer that may tell what it holds
module _ {W : Type 0} (contents : W → Option (List ℕ)) where
  -- A good line led to this stage, and its text went out.
  pub record IsRun (old : Stage) (line : List ℕ) (new : Option Centre) (before after : Writes W) : Type 0 where
    pub done : Stepped
    pub step : step_of script_settings old line ≡ Some done
    pub stands : StandsAt new done.next
    pub text : Sends contents before after (world_text done.prints)

  -- A line is good, and so many octets of its text went out, not all.
  pub record IsHalfWritten (old : Stage) (line : List ℕ) (before after : Writes W) : Type 0 where
    pub done : Stepped
    pub step : step_of script_settings old line ≡ Some done
    pub sent : ℕ
    pub text : SendsFront contents before after (world_text done.prints) sent

  abbrev pub WritesLineAt : Result (Unit {0}) ScriptFault → Stage → List ℕ → ℕ → Option Centre → Writes W → Writes W → Type 0
  WritesLineAt (Ok done) old line number new before after = IsRun old line new before after
  WritesLineAt (Err (BadLine told)) old line number new before after = IsRefused old line number told before after
  WritesLineAt (Err Read) old line number new before after = ⊥
  WritesLineAt (Err Write) old line number new before after = IsHalfWritten old line before after
  WritesLineAt (Err Memory) old line number new before after = after ≡ before

  -- whatever stage the centre is at
  abbrev pub WritesLine : Result (Unit {0}) ScriptFault → Option Centre → List ℕ → ℕ → Option Centre → Writes W → Writes W → Type 0
  WritesLine result old line number new before after = (stage : Stage) → StandsAt old stage → WritesLineAt result stage line number new before after

-- ---- a script

-- whole lines are nothing, or end with a line feed
abbrev pub AreLines : List ℕ → Type 0
AreLines octets = (octets ≡ []) ⊎ ((front : List ℕ) × (octets ≡ front ++ 10 ∷ []))

-- more octets would change neither the first bad line nor the text before it
abbrev pub IsDecided : List ℕ → ℕ → Type 0
IsDecided read number = (more : List ℕ) → (bad_line (read ++ more) ≡ Some number) × (text_of (read ++ more) ≡ text_of read)

-- the line at the front of these octets that is found there, with its line feed if it has one
abbrev pub line_at : Found → List ℕ → Option (List ℕ)
line_at (found.Line count) octets = Some (take (count + 1) octets)
line_at (found.Last count) octets = Some octets
line_at found.TooLong octets = None
line_at found.End octets = None

-- of a reader that may tell what it has left
module _ {R : Type 0} (remaining : R → Option (List ℕ)) where
  -- Whole lines that are good were read, and a rest. The rest needed more before the last read, or nothing was read.
  pub record HasRead (old new : Reads R) (done rest : List ℕ) : Type 0 where
    pub consumed : Consumes (remaining old.reader) (remaining new.reader) (done ++ rest)
    pub lines : AreLines done
    pub good : bad_line done ≡ None
    pub needed : NeedsMore (held_before rest new) ⊎ ((done ≡ []) × (rest ≡ []) × (new ≡ old))

  -- a line is at the front of the rest: a whole one, or the last one at the reader's end
  pub record IsInWork (old new : Reads R) (rest line : List ℕ) : Type 0 where
    pub found : Found
    pub front : IsFound found rest
    pub reached : Reaches remaining found old new
    pub line_is : line_at found rest ≡ Some line

-- of both
module _ {R W : Type 0} (remaining : R → Option (List ℕ)) (contents : W → Option (List ℕ)) where
  -- All of the script was read, no line of it is bad, and its text went out.
  pub record IsWhole (old new : Reads R) (before after : Writes W) : Type 0 where
    pub read : List ℕ
    pub consumed : Consumes (remaining old.reader) (remaining new.reader) read
    pub ends : Ends old new
    pub at_end : IsAtEnd (remaining new.reader)
    pub good : bad_line read ≡ None
    pub text : Sends contents before after (text_of read)

  -- The first bad line of what was read has this number, whatever follows or since nothing follows; and the text of the
  -- lines before it went out.
  pub record StopsAt (number : ℕ) (old new : Reads R) (before after : Writes W) : Type 0 where
    pub done : List ℕ
    pub rest : List ℕ
    pub read : HasRead remaining old new done rest
    pub bad : bad_line (done ++ rest) ≡ Some number
    pub decided : (Ends old new × IsAtEnd (remaining new.reader)) ⊎ (GoesOn old new × IsDecided (done ++ rest) number)
    pub text : Sends contents before after (text_of (done ++ rest))

  -- A read failed within a line, or all reads were made: the text of the lines before it went out.
  pub record StopsInLine (old new : Reads R) (before after : Writes W) : Type 0 where
    pub done : List ℕ
    pub rest : List ℕ
    pub read : HasRead remaining old new done rest
    pub unfinished : NeedsMore rest
    pub stops : Stops old new
    pub text : Sends contents before after (text_of done)

  -- A write failed, or all were made: the text of the lines before the one in work went out, and so many octets in all, but not all of its text.
  pub record StopsWriting (old new : Reads R) (before after : Writes W) : Type 0 where
    pub done : List ℕ
    pub rest : List ℕ
    pub read : HasRead remaining old new done rest
    pub line : List ℕ
    pub in_work : IsInWork remaining old new rest line
    pub good : bad_line (done ++ line) ≡ None
    pub sent : ℕ
    pub behind : length (text_of done) ≤ sent
    pub text : SendsFront contents before after (text_of (done ++ line)) sent

  -- There was no memory for the line in work, or to begin: the text of the lines before it went out, and nothing else.
  pub record WantsMemory (old new : Reads R) (before after : Writes W) : Type 0 where
    pub done : List ℕ
    pub rest : List ℕ
    pub read : HasRead remaining old new done rest
    pub in_work : ((done ≡ []) × (rest ≡ []) × (new ≡ old)) ⊎ ((line : List ℕ) × IsInWork remaining old new rest line)
    pub text : Sends contents before after (text_of done)

  abbrev pub IsOutcome : Result (Unit {0}) ScriptFault → Reads R → Reads R → Writes W → Writes W → Type 0
  IsOutcome (Ok done) old new before after = IsWhole old new before after
  IsOutcome (Err (BadLine number)) old new before after = StopsAt number old new before after
  IsOutcome (Err Read) old new before after = StopsInLine old new before after
  IsOutcome (Err Write) old new before after = StopsWriting old new before after
  IsOutcome (Err Memory) old new before after = WantsMemory old new before after

  -- ---- the program

  -- The arguments asked for no script, and nothing was read or written; or a script was run.
  abbrev pub IsProgramRun : ProgramRun → Reads R → Reads R → Writes W → Writes W → Type 0
  IsProgramRun Usage old new before after = (new ≡ old) × (after ≡ before)
  IsProgramRun (Script outcome) old new before after = IsOutcome outcome old new before after

-- whether the argument behind the program's name, and that another follows it, ask for a script
abbrev pub asks_for_script : Option (List ℕ) → Bool → Bool
asks_for_script None follows = false
asks_for_script (Some word) follows = bytes_eq word (codes "script") && not follows

-- the exit status of the program
abbrev pub status_of : ProgramRun → ℕ
status_of Usage = 1
status_of (Script (Ok done)) = 0
status_of (Script (Err (BadLine number))) = 2
status_of (Script (Err Read)) = 1
status_of (Script (Err Write)) = 1
status_of (Script (Err Memory)) = 1

-- what is told on standard error: one line, or nothing at the end of a script
abbrev pub told_by : ProgramRun → List ℕ
told_by Usage = codes "usage: centre script, or serve FILE, or check FILE; centre --help says more" ++ 10 ∷ []
told_by (Script (Ok done)) = []
told_by (Script (Err fault)) = fault_text fault ++ 10 ∷ []
