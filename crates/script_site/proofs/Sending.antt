-- The deliver_sm of an attempt goes out, or nobody takes it.
use Rattle.std.proofs.Common.{◌≡◌, ℕ, List, ◌++◌, Option, Some, None, Result, Ok, Err, refl, sym, ap, subst, ◌∙◌}
use Rattle.std.proofs.lemmas.List.{append-nil}
use Rattle.std.specs.Prelude.{OnOk}
use Rattle.std.specs.declared.alloc.AllocError.{AllocError}
use Rattle.mc_model.specs.message.Chain.{taken_in}
use Rattle.mc_model.specs.message.Submission.{Submission}
use Rattle.mc_model.specs.node.Outcome.{Outcome}
use Rattle.mc_model.specs.synod.Packet.{Slot, slot_of}
use Rattle.pdu_codec.specs.Pdu.{octets_of}
use Rattle.delivery.specs.Deliveries.{EndsInAttempt, delivered_message}
use Rattle.fate_chain.specs.declared.chain.Chain.{Chain}
use Rattle.sessions.specs.Session.{Session}
use Rattle.sessions.specs.declared.pushed.Delivery.TheVariants.{Attempt}
use Rattle.world.specs.Scenes.{Scene, clock_in}
use Rattle.esme_service.specs.Pushes.{deliver_sm}
use Rattle.esme_service.specs.Pushing.{GoesOut}
use Rattle.esme_service.specs.Service.{Service}
use Rattle.esme_service.specs.declared.pushed_on.PushedOn.{PushedOn}
use Rattle.esme_service.specs.declared.sending.Sending.TheVariants as sendings
use Rattle.script_text.specs.Attempts.{concluded, unanswered}
use Rattle.script_text.specs.Pushes.{is_long, session_at, target_in, with_push}
use Rattle.script_text.specs.Runner.{Acted, fails_by, pushes, sent, sent_to}
use Rattle.script_site.specs.Sites.{Acts, Goes, HasActed, Placed}
use Rattle.script_site.specs.Written.{IsWritten, line_of}
use Rattle.script_site.proofs.Acting.{clock_so, served, with_service}

module _ (at : Placed) (chain : Chain) (taken : Submission) (slot : Slot) (is : taken_in chain.decrees ≡ Some taken)
    (same : slot ≡ slot_of chain.id chain.decrees) where
  abbrev home : ℕ
  home = at.site.node

  -- the attempt goes out
  abbrev Sends : Placed → List ℕ → List ℕ → Type 0
  Sends new before after = Acts home (λ runner. sent runner (slot_of chain.id chain.decrees) (taken_in chain.decrees)) at new before after

  sends : (new : Placed) (before after : List ℕ) → Acts home (λ runner. sent runner slot (Some taken)) at new before after → Sends new before after
  sends new before after did w runner running =
      subst (λ (a : Acted). HasActed home w a new before after) (λ i. sent runner (same i) (sym is i)) (did w runner running)

  pub pushed_acts : (r : Result (Unit {0}) AllocError) (left : Service) (pushed : PushedOn) (now : ℕ) (before after : List ℕ)
      → now ≡ clock_in at.world home → GoesOut at.site.service.sessions (is_long taken.text) taken.target now (Attempt slot) pushed left.sessions
      → left.waiting ≡ at.site.service.waiting → OnOk r (IsWritten home (sendings.Attempt pushed chain) before after)
      → OnOk r (EndsInAttempt chain.decrees → Sends (with_service at left) before after)
  pushed_acts (Err fault) left pushed now before after clock out waiting wrote = tt
  pushed_acts (Ok done) left pushed now before after clock out waiting wrote =
      λ ends. sends (with_service at left) before after (λ w runner running.
      let number = pushed.number in
      let over = ap (λ (sessions : List (ℕ × Session)). target_in sessions (is_long taken.text) taken.target) (sym running.sessions) ∙ out.takes in
      let there = ap (λ (sessions : List (ℕ × Session)). session_at sessions number) (sym running.sessions) ∙ out.stands in
      let connected = out.left ∙ (λ i. with_push (running.sessions i) number ((clock ∙ clock_so home at w runner running) i) (Attempt slot)) in
      let octets = wrote.are ends taken is
      ∙ (λ i. Some (octets_of (deliver_sm (out.sequence i) (out.optional i) (delivered_message taken)))) in
      let did : HasActed home w (pushes runner slot taken number (Some out.session)) (with_service at left) before after = record {
        running = served home at (record at.site { service = left }) w runner (with_push runner.sessions number runner.node.kept.clock (Attempt slot))
            runner.waiting running refl refl connected (waiting ∙ running.waiting);
        text = wrote.text ∙ ap (λ (os : Option (List ℕ)). before ++ line_of home number os) octets
            ∙ ap (λ (t : List ℕ). before ++ t) (sym (append-nil _));
      } in
      subst (λ (a : Acted). HasActed home w a (with_service at left) before after)
      (ap (pushes runner slot taken number) (sym there) ∙ ap (sent_to runner slot taken) (sym over)) did)

  -- nobody takes it
  pub untaken_acts : (r : Result (Unit {0}) AllocError) (new : Scene) (left : Service) (outcome : Outcome) (text : List ℕ) → outcome ≡ unanswered
      → target_in at.site.service.sessions (is_long taken.text) taken.target ≡ None → left.sessions ≡ at.site.service.sessions → left.waiting ≡ at.site.service.waiting
      → OnOk r (Goes home (λ n. concluded n slot outcome) at.world new)
      → OnOk r (EndsInAttempt chain.decrees → Sends (record { world = new; site = record at.site { service = left } }) text text)
  untaken_acts (Err fault) new left outcome text nobody none sessions waiting goes = tt
  untaken_acts (Ok done) new left outcome text nobody none sessions waiting goes = λ ends.
      let then : Placed = record { world = new; site = record at.site { service = left } } in
      sends then text text (λ w runner running.
      let nowhere = ap (λ (all : List (ℕ × Session)). target_in all (is_long taken.text) taken.target) (sym running.sessions) ∙ none in
      let did : HasActed home w (fails_by runner (concluded runner.node slot unanswered)) then text text = record {
        running = record {
          home_is = running.home_is;
          going = subst (λ (o : Outcome). Goes home (λ n. concluded n slot o) at.world new) nobody goes w runner.node running.going;
          sessions = sessions ∙ running.sessions;
          streams = running.streams;
          waiting = waiting ∙ running.waiting;
        };
        text = sym (append-nil text);
      } in
      subst (λ (a : Acted). HasActed home w a then text text) (ap (sent_to runner slot taken) (sym nowhere)) did)
