-- Which requests are to be settled and answered, by what is kept.
use Rattle.std.proofs.Common.{◌≡◌, ◌↔◌, ℕ, Bool, true, false, List, Option, Some, None, refl, sym, ap, subst, ◌∙◌}
use Rattle.std.specs.Prelude.{◌&&◌, not}
use Rattle.std.proofs.lemmas.Bool.{and_from, and_parts, not-true, true≢false}
use Rattle.mc_model.specs.message.Decree.{Decree}
use Rattle.mc_model.specs.synod.Lists.{In}
use Rattle.mc_model.specs.node.Actor.{Cancel, Query, Request, Submit, Waiting, id_in, name_of}
use Rattle.mc_model.specs.node.Alone.{Node}
use Rattle.mc_model.specs.node.Knowledge.{IsKnown}
use Rattle.mc_model.specs.node.Phases.{IsCancelRequest, IsDueReply, IsToSettle}
use Rattle.mc_model.specs.node.Replies.{Answer, FitsRequest}
use Rattle.mc_model.specs.node.Setup.{Setup}
use Rattle.mc_model.specs.node.Settling.{IsSettled}
use Rattle.mc_parts.proofs.OneAnswer.{one_answer}
use Rattle.node_model.specs.Kept.{Held, Kept, message_at}
use Rattle.node_model.specs.Answers.{answer_to}
use Rattle.node_model.specs.Requests.{id_of, is_cancel, is_settled, settles, ticket_of}
use Rattle.node_laws.specs.Stands.{Agrees, IsQuiet}
use Rattle.node_laws.proofs.invariant.Answered.{AnswerIs, answer_is, known_is, settled_decides}
use Rattle.node_laws.proofs.invariant.Held.{kept_as, waits_among}

-- what is known of the message of a request
abbrev pub known_for : Kept → Held → Option (List Decree)
known_for k h = (message_at k (id_of h)).known

-- a request of this ticket is to be settled, or answered
pub record SettlesIn (nodes : ℕ) (k : Kept) (ticket : ℕ) : Type 0 where
  pub request : Held
  pub among : In request k.held
  pub ticket_is : ticket_of request ≡ ticket
  pub settled : settles nodes (known_for k request) request ≡ true

pub record AnswersIn (nodes : ℕ) (k : Kept) (ticket id : ℕ) (answer : Answer) : Type 0 where
  pub request : Held
  pub among : In request k.held
  pub ticket_is : ticket_of request ≡ ticket
  pub about : id_of request ≡ id
  pub answers : answer_to nodes (known_for k request) request ≡ Some answer

-- nothing is due
pub record IsCalm (nodes : ℕ) (k : Kept) : Type 0 where
  pub settled : (h : Held) → In h k.held → settles nodes (known_for k h) h ≡ false
  pub answered : (h : Held) → In h k.held → answer_to nodes (known_for k h) h ≡ None

cancel_is : (request : Request) → is_cancel request ≡ true → IsCancelRequest request
cancel_is (Submit id message) cancel = true≢false (sym cancel)
cancel_is (Query id account source) cancel = true≢false (sym cancel)
cancel_is (Cancel id account source destination) cancel = tt

is_one : (request : Request) → IsCancelRequest request → is_cancel request ≡ true
is_one (Submit id message) cancel = absurd cancel
is_one (Query id account source) cancel = absurd cancel
is_one (Cancel id account source destination) cancel = refl

module _ (setup : Setup) (k : Kept) (s : Node) (agrees : Agrees setup k s) where
  known_of : (h : Held) → IsKnown setup.nodes s.actor.received (id_of h) (known_for k h)
  known_of h = (agrees.message (id_of h)).heard.known

  waits : (h : Held) → In h k.held → In h.waiting s.actor.waiting
  waits h among = subst (λ (ws : List Waiting). In h.waiting ws) agrees.waiting (waits_among k.held h among)

  -- ---- settled

  settles_decides : (h : Held) → In h k.held → (known : Option (List Decree)) →
      (settles setup.nodes known h ≡ true) ↔ (IsCancelRequest h.waiting.request ×
      ((h.waiting.settled ≡ false) × IsSettled setup.nodes s.actor.received (name_of setup.node s.actor h.waiting) known))
  settles_decides h among known = (
    λ passes.
        let parts = and_parts (is_cancel h.waiting.request) (not h.waiting.settled && is_settled setup.nodes known h) passes in
        let others = and_parts (not h.waiting.settled) (is_settled setup.nodes known h) parts.1 in (
          cancel_is h.waiting.request parts.0,
          (
            not-true h.waiting.settled others.0,
            (settled_decides setup.nodes s.actor.received (name_of setup.node s.actor h.waiting) h (agrees.told h among) known).0 others.1,
          ),
        ),
    λ due.
        and_from (is_cancel h.waiting.request) (not h.waiting.settled && is_settled setup.nodes known h) (is_one h.waiting.request due.0)
        (and_from (not h.waiting.settled) (is_settled setup.nodes known h) (ap not due.1.0)
        ((settled_decides setup.nodes s.actor.received (name_of setup.node s.actor h.waiting) h (agrees.told h among) known).1 due.1.1)),
  )

  pub to_settle : (ticket : ℕ) → SettlesIn setup.nodes k ticket → IsToSettle setup.nodes setup.node s.actor ticket
  to_settle ticket it =
      let due = (settles_decides it.request it.among (known_for k it.request)).0 it.settled in
      record {
        waiting = it.request.waiting;
        known = known_for k it.request;
        waits = waits it.request it.among;
        ticket_is = it.ticket_is;
        cancel = due.0;
        unsettled = due.1.0;
        knows = known_of it.request;
        settled = due.1.1;
      }

  pub settled_in : (ticket : ℕ) → IsToSettle setup.nodes setup.node s.actor ticket → SettlesIn setup.nodes k ticket
  settled_in ticket due =
      let kept = kept_as k.held due.waiting (subst (λ (ws : List Waiting). In due.waiting ws) (sym agrees.waiting) due.waits) in
      let h : Held = kept.request in
      let same : h.waiting ≡ due.waiting = kept.same in
      record {
        request = h;
        among = kept.among;
        ticket_is = ap (λ (w : Waiting). w.ticket) same ∙ due.ticket_is;
        settled = (settles_decides h kept.among (known_for k h)).1 (
          subst (λ (w : Waiting). IsCancelRequest w.request) (sym same) due.cancel,
          (
            ap (λ (w : Waiting). w.settled) same ∙ due.unsettled,
            subst (λ (known : Option (List Decree)). IsSettled setup.nodes s.actor.received (name_of setup.node s.actor h.waiting) known)
                (one_known h due.known (subst (λ (w : Waiting). IsKnown setup.nodes s.actor.received (id_in w.request) due.known) (sym same) due.knows))
                (subst (λ (w : Waiting). IsSettled setup.nodes s.actor.received (name_of setup.node s.actor w) due.known) (sym same) due.settled),
          ),
        );
      }
    where
      -- of a message one chain is known, or nothing
      one_known : (h : Held) (known : Option (List Decree)) → IsKnown setup.nodes s.actor.received (id_of h) known → known ≡ known_for k h
      one_known h None nothing = by_kept (known_for k h) (known_of h)
        where
          by_kept : (known : Option (List Decree)) → IsKnown setup.nodes s.actor.received (id_of h) known → None ≡ known
          by_kept None none = refl
          by_kept (Some chain) knows = absurd (nothing _ _ knows.learned)
      one_known h (Some chain) knows = sym (known_is setup.nodes (id_of h) s.actor.received (known_for k h) chain (known_of h) knows)

  -- ---- answered

  fits_of : (h : Held) → In h k.held →
      AnswerIs (answer_to setup.nodes (known_for k h) h) (FitsRequest setup.nodes setup.node s.actor h.waiting h.waiting.request)
  fits_of h among = answer_is setup.nodes setup.node s.actor h (agrees.told h among) h.waiting.request refl (known_for k h) (known_of h)

  pub to_answer : (ticket id : ℕ) (answer : Answer) → AnswersIn setup.nodes k ticket id answer → IsDueReply setup.nodes setup.node s.actor ticket id answer
  to_answer ticket id answer it = record {
    asked = record { waiting = it.request.waiting; waits = waits it.request it.among; ticket_is = it.ticket_is; about = it.about };
    fits = subst (λ (x : Option Answer). AnswerIs x (FitsRequest setup.nodes setup.node s.actor it.request.waiting it.request.waiting.request)) it.answers
        (fits_of it.request it.among);
  }

  pub answered_in : (ticket id : ℕ) (answer : Answer) → IsDueReply setup.nodes setup.node s.actor ticket id answer → AnswersIn setup.nodes k ticket id answer
  answered_in ticket id answer due =
      let kept = kept_as k.held due.asked.waiting (subst (λ (ws : List Waiting). In due.asked.waiting ws) (sym agrees.waiting) due.asked.waits) in
      let h : Held = kept.request in
      let same : h.waiting ≡ due.asked.waiting = kept.same in
      record {
        request = h;
        among = kept.among;
        ticket_is = ap (λ (w : Waiting). w.ticket) same ∙ due.asked.ticket_is;
        about = ap (λ (w : Waiting). id_in w.request) same ∙ due.asked.about;
        answers = found h (answer_to setup.nodes (known_for k h) h) (fits_of h kept.among)
            (subst (λ (w : Waiting). FitsRequest setup.nodes setup.node s.actor w w.request answer) (sym same) due.fits);
      }
    where
      found : (h : Held) (x : Option Answer) → AnswerIs x (FitsRequest setup.nodes setup.node s.actor h.waiting h.waiting.request) →
          FitsRequest setup.nodes setup.node s.actor h.waiting h.waiting.request answer → x ≡ Some answer
      found h None none fits = absurd (none answer fits)
      found h (Some other) is fits =
          ap (λ (x : Answer). Some x) (one_answer setup.nodes setup.node s.actor h.waiting h.waiting.request other answer is fits)

  -- ---- nothing is due

  pub calm_of : IsQuiet setup.nodes setup.node s.actor → IsCalm setup.nodes k
  calm_of quiet = record {
    settled = λ h among. by_test h among (settles setup.nodes (known_for k h) h) refl;
    answered = λ h among. by_answer h among (answer_to setup.nodes (known_for k h) h) refl;
  }
    where
      by_test : (h : Held) → In h k.held → (test : Bool) → settles setup.nodes (known_for k h) h ≡ test → test ≡ false
      by_test h among true is = absurd (quiet.settled (ticket_of h) (to_settle (ticket_of h)
          (record { request = h; among = among; ticket_is = refl; settled = is })))
      by_test h among false is = refl

      by_answer : (h : Held) → In h k.held → (x : Option Answer) → answer_to setup.nodes (known_for k h) h ≡ x → x ≡ None
      by_answer h among (Some answer) is =
          absurd (quiet.answered (ticket_of h) (id_of h) answer (to_answer (ticket_of h) (id_of h) answer
          (record { request = h; among = among; ticket_is = refl; about = refl; answers = is })))
      by_answer h among None is = refl

  pub quiet_of : IsCalm setup.nodes k → IsQuiet setup.nodes setup.node s.actor
  quiet_of calm = record {
    settled = λ ticket due. let it = settled_in ticket due in true≢false (sym it.settled ∙ calm.settled it.request it.among);
    answered = λ ticket id answer due.
        let it = answered_in ticket id answer due in
        let both : Some answer ≡ None = sym it.answers ∙ calm.answered it.request it.among in
        absurd (cc);
  }
