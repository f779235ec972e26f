use Rattle.script_text.proofs.Example.{first_calm, first_told}
use Rattle.script_text.proofs.laws.first_script_is_calm.Goals as goal

pub returns : goal.returns
returns c = record { calm = first_calm; text = first_told }
