-- A body made of what was read by the form of its command.
use Rattle.std.proofs.Common.{◌≡◌, ℕ, List, Option, Some, None, option_map, Result, Ok, Err, IsOkAnd, MatchResult, inl, inr, refl, sym, ap, ◌∙◌}
use Rattle.pdu_tables.specs.declared.command.Command.{Command}
use Rattle.pdu_fields.specs.declared.fault.PduFault.{PduFault}
use Rattle.pdu_fields.specs.Grammar.{◌>>=◌}
use Rattle.pdu_bodies.specs.declared.pdu.Body.{Body}
use Rattle.pdu_bodies.specs.declared.pdu.BindAnswer.{BindAnswer}
use Rattle.pdu_bodies.specs.declared.pdu.QueryAnswer.{QueryAnswer}
use Rattle.pdu_bodies.specs.Contents.{bind_answer_contents, bind_answer_from, message_id_contents, message_id_from, query_answer_contents, query_answer_from}
use Rattle.pdu_bodies.specs.Forms.{form_of, Filling, filling_at}
use Rattle.pdu_bodies.specs.Bodies.{body_from, body_at}
use Rattle.pdu_bodies.specs.Made.{Fails, IsMade}

-- what failed fails also where something is made of it
pub Fails-then : {A B : Type 0} (read : Result A PduFault) (make : A → B) (fault : PduFault) → Fails fault read → Fails fault (read >>= λ x. Ok (make x))
Fails-then (Ok x) make fault (inl e) = absurd cc
Fails-then (Ok x) make fault (inr memory) = inr (memory.0, refl)
Fails-then {A} (Err e) make fault (inl same) = inl (ap (λ (r : Result A PduFault). r >>= λ x. Ok (make x)) same)
Fails-then (Err e) make fault (inr memory) = inr (memory.0, absurd cc)

-- a body is read by the form of its command
pub body_made : {X : Type 0} (command : Command) (view : X → Filling (form_of command)) (make : X → Body) (octets : List ℕ)
    (r : Result X PduFault) (s : Result Body PduFault) → ((x : X) → body_from command (view x) ≡ make x) →
    IsMade view r (filling_at (form_of command) octets) → MatchResult r (λ x. IsOkAnd s (λ b. b ≡ make x)) (λ e. s ≡ Err e) →
    IsMade (λ b. b) s (body_at (Some command) octets)
unfolding body_at
body_made {X} command view make octets (Ok x) (Ok b) same read told =
    ap (λ (r : Result (Filling (form_of command)) PduFault). r >>= λ filling. Ok (body_from command filling)) read ∙ ap Ok (same x ∙ sym told)
body_made {X} command view make octets (Ok x) (Err e) same read told = absurd told
body_made {X} command view make octets (Err e) s same read told =
    rw told (Fails-then (filling_at (form_of command) octets) (body_from command) e read)

-- ---- what may be left out, made anew of its contents

pub bind_answer_again : (a : Option BindAnswer) → option_map bind_answer_from (option_map bind_answer_contents a) ≡ a
bind_answer_again None = refl
bind_answer_again (Some a) = refl

pub message_id_again : (a : Option (List ℕ)) → option_map message_id_from (option_map message_id_contents a) ≡ a
message_id_again None = refl
message_id_again (Some a) = refl

pub query_answer_again : (a : Option QueryAnswer) → option_map query_answer_from (option_map query_answer_contents a) ≡ a
query_answer_again None = refl
query_answer_again (Some a) = refl
