-- Whom a reply answers.
use Rattle.std.proofs.Common.{◌≡◌, ℕ, List, [], ◌∷◌, Option, Some, None, refl, sym, ap, ◌∙◌, inl, inr}
use Rattle.mc_model.specs.message.Decree.{Decree}
use Rattle.mc_model.specs.synod.Lists.{In}
use Rattle.mc_model.specs.node.Outputs.{Reply}
use Rattle.mc_model.specs.node.Replies.{Answer}
use Rattle.node_model.specs.Kept.{Held}
use Rattle.node_model.specs.Requests.{id_of}
use Rattle.node_model.specs.Answers.{replied, replies_to, reply_of}

-- a request of these is about a message
pub record IsAsked (held : List Held) (id : ℕ) : Type 0 where
  pub request : Held
  pub among : In request held
  pub about : id_of request ≡ id

pub asked_by : (held : List Held) (h : Held) → In h held → IsAsked held (id_of h)
asked_by held h among = record { request = h; among = among; about = refl }

pub asked_later : (held others : List Held) (id : ℕ) → ((h : Held) → In h others → IsAsked held (id_of h)) → IsAsked others id → IsAsked held id
asked_later held others id before asked =
    let it = before asked.request asked.among in
    record { request = it.request; among = it.among; about = it.about ∙ asked.about }

-- a reply to requests of a message is about that of one of them
pub reply_asked : (nodes : ℕ) (known : Option (List Decree)) (id : ℕ) (held : List Held) (reply : Reply) →
    In reply (replies_to nodes known id held) → IsAsked held reply.id
reply_asked nodes known id [] reply among = absurd among
reply_asked nodes known id (h ∷ others) reply among =
    by_answer (λ later. more (reply_asked nodes known id others reply later)) (reply_of nodes known id h) among
  where
    more : IsAsked others reply.id → IsAsked (h ∷ others) reply.id
    more asked = record { request = asked.request; among = inr asked.among; about = asked.about }

    by_answer : (In reply (replies_to nodes known id others) → IsAsked (h ∷ others) reply.id) → (answer : Option Answer) →
        In reply (replied h answer (replies_to nodes known id others)) → IsAsked (h ∷ others) reply.id
    by_answer later None among = later among
    by_answer later (Some answer) (inl same) = record { request = h; among = inl refl; about = ap (λ (r : Reply). r.id) (sym same) }
    by_answer later (Some answer) (inr among) = later among
