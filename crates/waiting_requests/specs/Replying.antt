-- The answers of the code, as the model's (own).
use Rattle.std.specs.Prelude.{ℕ, List, Option, Some, None, option_map}
use Rattle.mc_model.specs.message.Decree.{Decree}
use Rattle.mc_model.specs.node.Replies.{Accepted, Answer, Kept, NotMatched, NotOwner, Removed, Shown, TooLate, Unknown}
use Rattle.mc_model.specs.node.Outputs.{Reply}
use Rattle.node_model.specs.Kept.{Held}
use Rattle.node_model.specs.Requests.{id_of, ticket_of}
use Rattle.node_model.specs.Answers.{reply_of}
use Rattle.waiting_requests.specs.declared.answer.Answer.{Answer as Given}
use Rattle.waiting_requests.specs.declared.answer.Answer.TheVariants as given
use Rattle.waiting_requests.specs.declared.answer.Reply.{Reply as Sent}
use Rattle.waiting_requests.specs.declared.verdict.Verdict.{Verdict}
use Rattle.waiting_requests.specs.declared.verdict.Verdict.TheVariants as verdict

abbrev pub answer_given : Given → Answer
answer_given given.Accepted = Accepted
answer_given (given.Shown chain) = Shown chain.decrees
answer_given (given.Removed chain) = Removed chain.decrees
answer_given (given.Kept chain) = Kept chain.decrees
answer_given given.NotOwner = NotOwner
answer_given (given.NotMatched chain) = NotMatched chain.decrees
answer_given given.Unknown = Unknown
answer_given given.TooLate = TooLate

abbrev pub reply_given : Sent → Reply
reply_given r = record { ticket = r.ticket; id = r.id; answer = answer_given r.answer }

-- by a chain
abbrev pub answer_with : List Decree → Verdict → Answer
answer_with chain verdict.Accepted = Accepted
answer_with chain verdict.Shown = Shown chain
answer_with chain verdict.Removed = Removed chain
answer_with chain verdict.Kept = Kept chain
answer_with chain verdict.NotOwner = NotOwner
answer_with chain verdict.NotMatched = NotMatched chain

-- an answer is there, and shows a chain
abbrev pub ShowsChain : Option Answer → Type 0
ShowsChain None = ⊥
ShowsChain (Some Accepted) = ⊥
ShowsChain (Some (Shown chain)) = Unit {0}
ShowsChain (Some (Removed chain)) = Unit {0}
ShowsChain (Some (Kept chain)) = Unit {0}
ShowsChain (Some NotOwner) = ⊥
ShowsChain (Some (NotMatched chain)) = Unit {0}
ShowsChain (Some Unknown) = ⊥
ShowsChain (Some TooLate) = ⊥

-- ---- the reply to a request, if it has an answer

abbrev pub reply_with : Held → Option Answer → Option Reply
reply_with h answer = option_map (λ given. record { ticket = ticket_of h; id = id_of h; answer = given }) answer

abbrev pub reply_to : ℕ → Option (List Decree) → ℕ → Held → Option Reply
reply_to nodes known id h = reply_with h (reply_of nodes known id h)
