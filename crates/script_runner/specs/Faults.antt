-- What is told of a fault (own).
use Rattle.std.specs.Prelude.{ℕ, List, ◌++◌, codes}
use Rattle.std.specs.Fmt.{decimal}
use Rattle.script_runner.specs.declared.fault.ScriptFault.{ScriptFault}
use Rattle.script_runner.specs.declared.fault.ScriptFault.TheVariants.{BadLine, Read, Write, Memory}

-- why a script ended before its end
abbrev pub fault_text : ScriptFault → List ℕ
fault_text (BadLine number) = codes "bad line " ++ decimal number
fault_text Read = codes "the script could not be read"
fault_text Write = codes "the output could not be written"
fault_text Memory = codes "there was not enough memory"
