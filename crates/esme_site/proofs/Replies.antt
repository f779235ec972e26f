-- Replies go out one after another.
use Rattle.std.proofs.Common.{◌≡◌, ℕ, List, [], ◌∷◌, ◌++◌, map, Option, Some, None, Result, Ok, Err, refl, sym, ap, ◌∙◌, subst, inr}
use Rattle.std.proofs.lemmas.List.Elements.{Contains-push}
use Rattle.std.specs.Result.{result_and}
use Rattle.std.specs.Prelude.{Contains, OnErr, OnOk}
use Rattle.std.specs.declared.alloc.AllocError.{AllocError}
use Rattle.mc_model.specs.node.Outputs.{Reply as Given}
use Rattle.waiting_requests.specs.Replying.{reply_given}
use Rattle.waiting_requests.specs.declared.answer.Reply.{Reply as Sent}
use Rattle.sessions.specs.Session.{Session}
use Rattle.script_text.specs.Left.{in_front, rests}
use Rattle.script_text.specs.Prints.{Print}
use Rattle.script_text.specs.Runner.{Owned, Told, owner_of, replied, reply_prints, told}
use Rattle.esme_service.specs.Sendings.{number_of}
use Rattle.esme_service.specs.Told.{reply_to}
use Rattle.esme_service.specs.declared.sending.Sending.{Sending}
use Rattle.esme_service.specs.declared.sending.Sending.TheVariants.{Reply}
use Rattle.esme_site.specs.Puts.{ArePrintsOf, HasSettled, IsSettledBy}
use Rattle.esme_site.proofs.Settling.{IsDone, IsUnderWay, at_end, by_call, goes_on}

pub first_told : (connected : List (ℕ × Session)) (all replies : List Given) (reply : Given) → all ≡ reply ∷ replies
    → told connected all ≡ in_front (reply_prints reply (owner_of connected reply.ticket))
    (told (replied connected reply.ticket (owner_of connected reply.ticket)) replies)
unfolding told
first_told connected all replies reply is = rw is refl

pub told_nothing : (connected : List (ℕ × Session)) (waiting : List Given) → waiting ≡ [] → told connected waiting ≡ rests connected
unfolding told
told_nothing connected waiting none = rw none refl

-- its session is lost
module _ (connected : List (ℕ × Session)) (reply other : Sent) (sending : Sending) where
  pub lost_for : other.ticket ≡ reply.ticket → Some sending ≡ reply_to other (owner_of connected other.ticket)
      → IsSettledBy [] (number_of sending ∷ []) (reply_prints (reply_given reply) (owner_of connected reply.ticket))
  unfolding IsSettledBy
  lost_for ticket is = by_owner (owner_of connected reply.ticket) (is ∙ ap (λ (t : ℕ). reply_to other (owner_of connected t)) ticket)
    where
      by_owner : (owned : Option Owned) → Some sending ≡ reply_to other owned → IsSettledBy [] (number_of sending ∷ []) (reply_prints (reply_given reply) owned)
      by_owner None same = absurd cc
      by_owner (Some owned) same =
          let one : sending ≡ Reply (record { number = owned.number; request = owned.request }) other = cc in
          inr (subst (λ (s : Sending). Contains (number_of s ∷ []) owned.number) (sym one) (Contains-push [] owned.number), refl)

module _ (connected : List (ℕ × Session)) (reply other : Sent) where
  -- none holds it: nothing had to be put
  pub none_for : other.ticket ≡ reply.ticket → None ≡ reply_to other (owner_of connected other.ticket)
      → IsSettledBy [] [] (reply_prints (reply_given reply) (owner_of connected reply.ticket))
  unfolding IsSettledBy
  none_for ticket is = by_owner (owner_of connected reply.ticket) (is ∙ ap (λ (t : ℕ). reply_to other (owner_of connected t)) ticket)
    where
      by_owner : (owned : Option Owned) → None ≡ reply_to other owned → IsSettledBy [] [] (reply_prints (reply_given reply) owned)
      by_owner None same = refl
      by_owner (Some owned) same = absurd cc

-- ---- between two states of an outlet

module _ {O : Type 0} (puts : O → List Print → List ℕ → O → Type 0) where
  module _ (connected : List (ℕ × Session)) (reply : Sent) (sending : Sending) (is : Some sending ≡ reply_to reply (owner_of connected reply.ticket))
      (r : Result (Unit {0}) AllocError) (before after : O) where
    pub reply_lost : OnErr r (puts before [] (number_of sending ∷ []) after)
        → OnErr r (HasSettled puts (reply_prints (reply_given reply) (owner_of connected reply.ticket)) before after)
    reply_lost did = by_result r did
      where
        by_result : (r : Result (Unit {0}) AllocError) → OnErr r (puts before [] (number_of sending ∷ []) after)
            → OnErr r (HasSettled puts (reply_prints (reply_given reply) (owner_of connected reply.ticket)) before after)
        by_result (Ok done) did = tt
        by_result (Err fault) did =
            record { put = []; lost = number_of sending ∷ []; did = did; settled = lost_for connected reply reply sending refl is }

  module _ (rests_at : (at : O) → puts at [] [] at)
      (follows : (before between after : O) (first last : List Print) (lost more : List ℕ) → puts before first lost between → puts between last more after
      → puts before (first ++ last) (lost ++ more) after) where
    -- One more is told.
    pub one_told : (r last both : Result (Unit {0}) AllocError) (all : Told) (connected left : List (ℕ × Session)) (reply : Sent) (waiting others : List Sent)
        (before at after : O) → both ≡ result_and r last → IsUnderWay puts r all (told connected (map reply_given waiting)) before at
        → waiting ≡ reply ∷ others → left ≡ replied connected reply.ticket (owner_of connected reply.ticket)
        → OnOk last (puts at (reply_prints (reply_given reply) (owner_of connected reply.ticket)) [] after)
        → OnErr last (HasSettled puts (reply_prints (reply_given reply) (owner_of connected reply.ticket)) at after)
        → IsUnderWay puts both all (told left (map reply_given others)) before after
    one_told r last both all connected left reply waiting others before at after and so is took put lost =
        let prints = reply_prints (reply_given reply) (owner_of connected reply.ticket) in
        let first = first_told connected (map reply_given waiting) (map reply_given others) (reply_given reply) (ap (map reply_given) is)
        ∙ ap (λ (c : List (ℕ × Session)). in_front prints (told c (map reply_given others))) (sym took) in
        goes_on puts rests_at follows r last both all (told connected (map reply_given waiting)) (told left (map reply_given others)) prints before at after and so
        (ap (λ (t : Told). t.next) (sym first)) (ap (λ (t : Told). t.prints) first) (by_call puts last prints at after put lost)

    pub all_told : (r : Result (Unit {0}) AllocError) (all : Told) (connected : List (ℕ × Session)) (waiting : List Sent) (before at : O)
        → IsUnderWay puts r all (told connected (map reply_given waiting)) before at → waiting ≡ []
        → (connected ≡ all.next) × IsDone puts r all.prints before at
    all_told r all connected waiting before at so none =
        let nothing = told_nothing connected (map reply_given waiting) (ap (map reply_given) none) in (
          ap (λ (t : Told). t.next) (sym nothing) ∙ so.next,
          at_end puts rests_at follows r all (told connected (map reply_given waiting)) before at so (ap (λ (t : Told). t.prints) nothing),
        )
