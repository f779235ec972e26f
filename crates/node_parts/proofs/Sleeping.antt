-- No rule of a tick fits a message that sleeps.
use Rattle.std.proofs.Common.{◌≡◌, ℕ, ◌<◌, Bool, true, false, List, [], ◌∷◌, length, Option, Some, None, refl, sym, ap, subst, ◌∙◌, inr}
use Rattle.std.specs.Prelude.{◌==◌, ◌&&◌, ◌||◌, IfSome, is_some, option_map, pred, if◌then◌else◌}
use Rattle.std.specs.List.{list_any}
use Rattle.mc_model.specs.message.Submission.{Submission}
use Rattle.mc_model.specs.message.Decree.{Decree}
use Rattle.mc_model.specs.message.Chain.{Chain, taken_in}
use Rattle.mc_model.specs.synod.Lists.{In}
use Rattle.mc_model.specs.synod.Packet.{Slot}
use Rattle.mc_model.specs.node.Actor.{Cancel, Query, Request, Submit, id_in}
use Rattle.mc_model.specs.node.Reach.{Reach}
use Rattle.mc_model.specs.node.Setup.{Setup}
use Rattle.node_model.specs.Acceptor.{told_of}
use Rattle.node_model.specs.Kept.{Held, Kept}
use Rattle.node_model.specs.Proposer.{Start}
use Rattle.node_model.specs.Rules.{first_rule, known_rule, own_rule}
use Rattle.node_model.specs.Starts.{cancels, follow, matches}
use Rattle.waiting_requests.specs.Numbers.{ids_in}
use Rattle.fate_chain.specs.declared.decree.Author.{Author}
use Rattle.tick_rules.specs.declared.attempted.Attempted.{Attempted}
use Rattle.tick_rules.specs.declared.reached.Reached.{Reached}
use Rattle.tick_rules.specs.declared.standpoint.Standpoint.{Standpoint}
use Rattle.tick_rules.specs.Reaching.{reached_by}
use Rattle.tick_rules.specs.Standpoints.{start_of}
use Rattle.tick_rules.specs.Waking.{IsUntilBehind, until_behind}
use Rattle.tick_rules.proofs.Asleep.{nothing_until}
use Rattle.synod_acceptor.specs.Records.{record_at}
use Rattle.node_parts.specs.declared.attempts.Attempts.{Attempts}
use Rattle.node_parts.specs.declared.message.Message.{Message as Filed}
use Rattle.node_parts.specs.declared.noted.Noted.{Noted}
use Rattle.node_parts.specs.Attempting.{attempted_in}
use Rattle.node_parts.specs.Living.{IsSettled}
use Rattle.node_parts.specs.Messages.{message_of, rested}
use Rattle.node_parts.specs.Sleeping.{IsAsleep, IsNotedOf, reach_noted, sleep_behind, sleep_of, sleep_taken}
use Rattle.node_parts.specs.Turning.{IsAtRest}
use Rattle.node_parts.proofs.Decided.{apart, no_rule, none_shown, none_taken}
use Rattle.node_parts.proofs.Ticks.{due_is, goes_on}

pub settled_asleep : (s : Standpoint) (reach : Reach) (id : ℕ) (m : Filed) → IsSettled id m → IsAsleep s reach id m
settled_asleep s reach id m is = record {
  unruled = λ setup k held rest unasked. no_rule setup k held reach id m s rest is.decided unasked;
}

-- ---- no request asks of it

unmatched : (request : Request) (id : ℕ) (taken : Submission) → (id_in request == id) ≡ false → matches request id taken ≡ false
unmatched (Submit other message) id taken differs = refl
unmatched (Query other account source) id taken differs = refl
unmatched (Cancel other account source destination) id taken differs = rw differs refl

none_cancels : (id : ℕ) (taken : Submission) (held : List Held) → (In id (ids_in held) → ⊥) → list_any (cancels id taken) held ≡ false
none_cancels id taken [] unasked = refl
none_cancels id taken (h ∷ others) unasked =
    by_settled h.waiting.settled (unmatched h.waiting.request id taken (apart id h others unasked)) (none_cancels id taken others (λ later. unasked (inr later)))
  where
    by_settled : (settled : Bool) → matches h.waiting.request id taken ≡ false → list_any (cancels id taken) others ≡ false →
        ((settled && matches h.waiting.request id taken) || list_any (cancels id taken) others) ≡ false
    by_settled true differs rest = rw differs rest
    by_settled false differs rest = rest

-- ---- while it sleeps

module _ (me : Author) (reach : Reach) (id : ℕ) (m : Filed) (until : ℕ) (s : Standpoint) (by : s.author ≡ me) (below : s.clock < until)
    (setup : Setup) (k : Kept) (held : List Held) (rest : IsAtRest setup k held id m s) (unasked : In id (ids_in held) → ⊥) where
  none_behind : (newest : Decree) (older : List Decree) (taken : Option Submission) → taken_in (newest ∷ older) ≡ taken →
      sleep_taken me reach id (attempted_in m.attempts (length older)) newest older taken ≡ Some until → known_rule setup k reach id (Some (newest ∷ older)) ≡ None
  none_behind newest older None message sleeps = ap (own_rule setup k reach id newest older) message
  none_behind newest older (Some taken) message sleeps =
      let reached = reached_by reach id taken in
      let same : (other : Submission) → taken_in (newest ∷ older) ≡ Some other → taken ≡ other =
      λ other about. let both : Some taken ≡ Some other = sym message ∙ about in cc in
      due_is setup k held reach id m s rest newest older false reached None (λ other about. sym (none_cancels id other held unasked))
      (λ other about. ap (reached_by reach id) (same other about))
      (nothing_until me (attempted_in m.attempts (length older)) reached (newest ∷ older) until
      (λ other about.
      sym (subst (λ (t : Submission). until_behind me (attempted_in m.attempts (length older)) reached newest older t ≡ Some until) (same other about) sleeps))
      s by below) tt

  none_known : (known : Option (List Decree)) → sleep_behind me reach id m.attempts known ≡ Some until → known_rule setup k reach id known ≡ None
  none_known None sleeps = refl
  none_known (Some []) sleeps = refl
  none_known (Some (newest ∷ older)) sleeps = none_behind newest older (taken_in (newest ∷ older)) refl sleeps

  none_fits : sleep_of me reach id m ≡ Some until → first_rule setup k reach id ≡ None
  none_fits sleeps = by_tests (is_some m.proposer.round) (follow (message_of id m).known (told_of (record_at m.acceptor) id)) refl sleeps
    where
      by_tests : (runs : Bool) (ahead : Option Start) → follow (message_of id m).known (told_of (record_at m.acceptor) id) ≡ ahead →
          (if runs || is_some ahead then None else sleep_behind me reach id m.attempts (message_of id m).known) ≡ Some until → first_rule setup k reach id ≡ None
      by_tests true ahead is it = absurd (cc)
      by_tests false (Some start) is it = absurd (cc)
      by_tests false None is it =
          sym (goes_on setup k held reach id m s rest (sym (none_taken setup k id held unasked))
          (sym (ap (follow (message_of id m).known) (none_shown id held (told_of (record_at m.acceptor) id) unasked) ∙ is)))
          ∙ none_known (message_of id m).known it

pub sleeps_until : (me : Author) (reach : Reach) (id : ℕ) (m : Filed) (until : ℕ) → sleep_of me reach id m ≡ Some until →
    (s : Standpoint) → s.author ≡ me → s.clock < until → IsAsleep s reach id m
sleeps_until me reach id m until sleeps s by below = record {
  unruled = λ setup k held rest unasked. none_fits me reach id m until s by below setup k held rest unasked sleeps;
}

pub sleeps_so : (me : Author) (reach : Reach) (id : ℕ) (m : Filed) (found : Option ℕ) → found ≡ sleep_of me reach id m →
    IfSome found (λ until. (s : Standpoint) → s.author ≡ me → s.clock < until → IsAsleep s reach id m)
sleeps_so me reach id m None is = tt
sleeps_so me reach id m (Some until) is = sleeps_until me reach id m until (sym is)

-- ---- no round of it runs

pub sleeps_without : (me : Author) (reach : Reach) (id : ℕ) (m : Filed) (until : ℕ) → sleep_of me reach id m ≡ Some until →
    (m.proposer.round ≡ None) × (sleep_of me reach id (rested m) ≡ Some until)
sleeps_without me reach id m until sleeps = by_round m.proposer.round refl sleeps
  where
    by_round : (round : _) → m.proposer.round ≡ round →
        (if is_some round || is_some (follow (message_of id m).known (told_of (record_at m.acceptor) id)) then None
        else sleep_behind me reach id m.attempts (message_of id m).known) ≡ Some until →
        (m.proposer.round ≡ None) × (sleep_of me reach id (rested m) ≡ Some until)
    by_round None is it = (is, it)
    by_round (Some round) is it = absurd (cc)

-- ---- what is noted of it stays so

pub noted_still : (id : ℕ) (m n : Filed) →
    ((me : Author) (reach : Reach) (until : ℕ) → sleep_of me reach id m ≡ Some until → sleep_of me reach id n ≡ Some until) →
    (noted : Option Noted) (until : Option ℕ) → IsNotedOf noted id m until → IsNotedOf noted id n until
noted_still id m n keeps noted None is = tt
noted_still id m n keeps None (Some until) is = is
noted_still id m n keeps (Some noted) (Some until) is = keeps noted.me (reach_noted noted) until is

-- ---- it is found so

none_mapped : {A B : Type 0} (f : A → B) (found : Option A) → is_some (option_map f found) ≡ false → is_some found ≡ false
none_mapped f None is = refl
none_mapped f (Some x) is = is

pub mapped_none : {A B : Type 0} (f : A → B) (found : Option A) → is_some found ≡ false → is_some (option_map f found) ≡ false
mapped_none f None is = refl
mapped_none f (Some x) is = is

pub sleeps_by : (me : Author) (reach : Reach) (id : ℕ) (m : Filed) (running : Option Slot) (found : Option Chain) (until : Option ℕ) →
    running ≡ option_map (λ round. round.slot) m.proposer.round → is_some running ≡ false →
    option_map start_of found ≡ follow (message_of id m).known (told_of (record_at m.acceptor) id) → is_some found ≡ false →
    until ≡ sleep_behind me reach id m.attempts (message_of id m).known → until ≡ sleep_of me reach id m
sleeps_by me reach id m running found until runs rests ahead none is =
    let quiet : is_some m.proposer.round ≡ false = none_mapped (λ round. round.slot) m.proposer.round (sym (ap is_some runs) ∙ rests) in
    let nothing : is_some (follow (message_of id m).known (told_of (record_at m.acceptor) id)) ≡ false =
    sym (ap is_some ahead) ∙ mapped_none start_of found none in
    is ∙ (λ i. if sym quiet i || sym nothing i then None else sleep_behind me reach id m.attempts (message_of id m).known)

pub sleep_is : (me : Author) (reach : Reach) (id : ℕ) (attempts : Attempts) (decrees : List Decree) (place : ℕ) (a : Attempted) (reached : Reached)
    (until : Option ℕ) (taken : Submission) → place ≡ pred (length decrees) → a ≡ attempted_in attempts place → taken_in decrees ≡ Some taken →
    reached ≡ reached_by reach id taken → IsUntilBehind me a reached decrees until → until ≡ sleep_behind me reach id attempts (Some decrees)
sleep_is me reach id attempts [] place a reached until taken at attempted message reaches is = absurd is
sleep_is me reach id attempts (newest ∷ older) place a reached until taken at attempted message reaches is =
    is taken message
    ∙ (λ i. until_behind me ((attempted ∙ ap (attempted_in attempts) at) i) (reaches i) newest older taken)
    ∙ sym (ap (sleep_taken me reach id (attempted_in attempts (length older)) newest older) message)
