-- What a request that is told of is answered, by its reply.
use Rattle.std.proofs.Common.{◌≡◌, Option, Some, None, refl, sym, ap, ◌∙◌, ◌∷◌, []}
use Rattle.std.specs.Prelude.{option_map}
use Rattle.mc_model.specs.node.Outputs.{Reply}
use Rattle.mc_model.specs.node.Replies.{Answer}
use Rattle.node_model.specs.Answers.{replied}
use Rattle.node_model.specs.Kept.{Held}
use Rattle.node_model.specs.Requests.{id_of, ticket_of}
use Rattle.waiting_requests.specs.Replying.{answer_given, reply_given, reply_with}
use Rattle.waiting_requests.specs.declared.answer.Reply.{Reply as Sent}

-- the reply with an answer
abbrev pub with_answer : Held → Answer → Reply
with_answer h answer = record { ticket = ticket_of h; id = id_of h; answer = answer }

module _ (h : Held) where
  pub unanswered : (answer : Option Answer) (reply : Option Sent) → option_map reply_given reply ≡ reply_with h answer → reply ≡ None → answer ≡ None
  unanswered None reply by is = refl
  unanswered (Some given) reply by is =
      let none : None ≡ reply_with h (Some given) = sym (ap (option_map reply_given) is) ∙ by in
      absurd (cc)

  pub answered : (answer : Option Answer) (reply : Option Sent) (sent : Sent) → option_map reply_given reply ≡ reply_with h answer → reply ≡ Some sent →
      answer ≡ Some (answer_given sent.answer)
  answered None reply sent by is =
      let some : Some (reply_given sent) ≡ reply_with h None = sym (ap (option_map reply_given) is) ∙ by in
      absurd (cc)
  answered (Some given) reply sent by is =
      let some : Some (reply_given sent) ≡ Some (with_answer h given) = sym (ap (option_map reply_given) is) ∙ by in
      let same : reply_given sent ≡ with_answer h given = cc in
      ap Some (sym (ap (λ (r : Reply). r.answer) same))

  pub replied_by : (answer : Option Answer) (reply : Option Sent) (sent : Sent) → option_map reply_given reply ≡ reply_with h answer → reply ≡ Some sent →
      replied h answer [] ≡ reply_given sent ∷ []
  replied_by None reply sent by is =
      let some : Some (reply_given sent) ≡ reply_with h None = sym (ap (option_map reply_given) is) ∙ by in
      absurd (cc)
  replied_by (Some given) reply sent by is =
      let some : Some (reply_given sent) ≡ Some (with_answer h given) = sym (ap (option_map reply_given) is) ∙ by in
      let same : reply_given sent ≡ with_answer h given = cc in
      ap (λ (r : Reply). r ∷ []) (sym same)
