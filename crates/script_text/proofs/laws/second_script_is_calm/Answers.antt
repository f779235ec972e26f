use Rattle.script_text.proofs.Example.{second_calm, second_told}
use Rattle.script_text.proofs.laws.second_script_is_calm.Goals as goal

pub returns : goal.returns
returns c = record { calm = second_calm; text = second_told }
