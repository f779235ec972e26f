use Rattle.mc_parts.proofs.OneAnswer.{one_answer}
use Rattle.mc_parts.proofs.nodes.an_answer_is_one.Goals as goal

pub returns : goal.returns
returns c = λ nodes node a waiting. one_answer nodes node a waiting waiting.request
