-- What goes out to ESMEs: the runner and the one node find the same accounts and the same session, and push alike.
use Rattle.std.proofs.Common.{◌≡◌, ℕ, Bool, true, ◌&&◌, ◌||◌, not, List, [], ◌∷◌, ◌++◌, Option, Some, None, refl, sym, ◌∙◌, ap, subst}
use Rattle.std.specs.Prelude.{find, is_none}
use Rattle.std.specs.List.{filter_map}
use Rattle.std.specs.Ordering.{nat_cmp}
use Rattle.std.specs.Map.{set_value}
use Rattle.std.specs.BTreeMap.{is_at}
use Rattle.std.proofs.Math.Path.{fun_ext}
use Rattle.std.proofs.lemmas.Bool.{and_parts}
use Rattle.mc_model.specs.synod.Packet.{Slot}
use Rattle.table_laws.specs.Tables.{TableNode, entry_at}
use Rattle.pdu_codec.proofs.PduSpelling.{find-passes}
use Rattle.sessions.specs.Session.{Session}
use Rattle.sessions.specs.Steps.{on_push, push_refusal, pushed_unless}
use Rattle.sessions.specs.declared.pushed.Delivery.{Delivery}
use Rattle.sessions.specs.declared.pushed.Delivery.TheVariants.{Attempt, Receipt}
use Rattle.sessions.specs.declared.pushed.Pushed.{Pushed}
use Rattle.sessions.specs.declared.pushed.PushRefusal.{PushRefusal}
use Rattle.sessions.specs.declared.request.OpenRequest.{OpenRequest}
use Rattle.script_text.specs.Pushes.{accounts_up, is_of, knows_optional, pushed_on, receiver_of, session_at, session_numbers, takes_for, target_in, with_push}
use Rattle.script_text.specs.Runner.{Owned, session_in, session_or_opened}
use Rattle.calm_laws.proofs.Connected.{AreConnected, one_set}
use Rattle.calm_laws.proofs.Plain.{IsBut, IsPlain, each_but, holding, set_but}
use Rattle.calm_laws.proofs.Standing.{AreFit, requests_at}
use Rattle.calm_laws.proofs.Windows.{AreOff, AreWaiting, IsNewest, new_waits, note_waits}

-- ---- one session

-- one that is not connected is as one that is just opened: it may not receive
received_as : (found : Option Session) → receiver_of found ≡ receiver_of (Some (session_or_opened found))
received_as None = refl
received_as (Some session) = refl

taken_as : (long : Bool) (target : List ℕ) (found : Option Session) → takes_for long target found ≡ takes_for long target (Some (session_or_opened found))
taken_as long target None = refl
taken_as long target (Some session) = refl

none_so : {A : Type 0} (found : Option A) → is_none found ≡ true → found ≡ None
none_so None is = refl
none_so (Some x) is = absurd cc

-- what a session takes that takes something
record IsTaking (found : Option Session) : Type 0 where
  session : Session
  found_is : found ≡ Some session
  accepts : push_refusal session ≡ None

taking : (long : Bool) (target : List ℕ) (found : Option Session) → takes_for long target found ≡ true → IsTaking found
taking long target None takes = absurd cc
taking long target (Some session) takes = record {
  session = session;
  found_is = refl;
  accepts = none_so (push_refusal session) (and_parts (is_none (push_refusal session)) (is_of target session.account && (not long || knows_optional session)) takes).0;
}

-- requests that wait are no matter of a push
pushed_so : (session : Session) (waiting : List OpenRequest) (now : ℕ) (delivery : Delivery) →
    on_push (holding session waiting) now delivery ≡ holding (on_push session now delivery) waiting
pushed_so session waiting now delivery = by_refusal (push_refusal session)
  where
    by_refusal : (refusal : Option PushRefusal) →
        pushed_unless refusal (holding session waiting) now delivery ≡ holding (pushed_unless refusal session now delivery) waiting
    by_refusal None = refl
    by_refusal (Some refusal) = refl

-- ---- the sessions

module _ (theirs : List (ℕ × Session)) (holds : Option Owned) (connected : List (ℕ × Session)) (were : AreConnected theirs holds connected) where
  pub up_alike : accounts_up connected ≡ accounts_up theirs
  unfolding accounts_up
  up_alike = ap (λ (f : ℕ → Option (List ℕ)). filter_map f session_numbers) (fun_ext receives)
    where
      receives : (number : ℕ) → receiver_of (session_at connected number) ≡ receiver_of (session_at theirs number)
      receives number =
          received_as (session_at connected number)
          ∙ ap (λ (s : Session). receiver_of (Some s)) (were.each number)
          ∙ sym (received_as (session_at theirs number))

  takes_alike : (long : Bool) (target : List ℕ) (number : ℕ) → takes_for long target (session_at connected number) ≡ takes_for long target (session_at theirs number)
  takes_alike long target number =
      taken_as long target (session_at connected number)
      ∙ ap (λ (s : Session). takes_for long target (Some s)) (were.each number)
      ∙ sym (taken_as long target (session_at theirs number))

  pub target_alike : (long : Bool) (target : List ℕ) → target_in connected long target ≡ target_in theirs long target
  unfolding target_in
  target_alike long target = ap (λ (f : ℕ → Bool). find f session_numbers) (fun_ext (takes_alike long target))

  -- ---- a session that takes something

  -- it is connected here and there
  pub record IsTarget (number : ℕ) : Type 0 where
    pub session : Session
    pub mine : Session
    pub found : session_at theirs number ≡ Some session
    pub mine_found : session_at connected number ≡ Some mine
    pub mine_is : mine ≡ holding session (requests_at holds number)
    pub accepts : push_refusal session ≡ None

  pub target_found : (long : Bool) (target : List ℕ) (number : ℕ) → target_in theirs long target ≡ Some number → IsTarget number
  unfolding target_in
  target_found long target number is =
      let takes : takes_for long target (session_at theirs number) ≡ true =
      find-passes (λ n. takes_for long target (session_at theirs n)) session_numbers number is in
      let there = taking long target (session_at theirs number) takes in
      let here = taking long target (session_at connected number) (takes_alike long target number ∙ takes) in
      record {
        session = there.session;
        mine = here.session;
        found = there.found_is;
        mine_found = here.found_is;
        mine_is =
            sym (ap session_or_opened here.found_is)
            ∙ were.each number
            ∙ ap (λ (o : Option Session). holding (session_or_opened o) (requests_at holds number)) there.found_is;
        accepts = there.accepts;
      }

  module _ (number : ℕ) (it : IsTarget number) (now : ℕ) (delivery : Delivery) where
    abbrev next : Session
    next = on_push it.session now delivery

    abbrev after : List (ℕ × Session)
    after = set_value (is_at (nat_cmp number)) theirs next

    pub push_is : with_push theirs number now delivery ≡ after
    push_is = ap (pushed_on theirs number now delivery) it.found

    pub push_but : IsBut number theirs after next
    push_but = set_but number theirs it.session next it.found

    mine_next : on_push it.mine now delivery ≡ holding (session_in after number) (requests_at holds number)
    mine_next =
        ap (λ (s : Session). on_push s now delivery) it.mine_is
        ∙ pushed_so it.session (requests_at holds number) now delivery
        ∙ ap (λ (s : Session). holding s (requests_at holds number)) (sym push_but.it)

    pub push_connected : AreConnected (with_push theirs number now delivery) holds (with_push connected number now delivery)
    push_connected =
        subst (λ (changed : List (ℕ × Session)). AreConnected changed holds (with_push connected number now delivery)) (sym push_is)
        (subst (λ (found : Option Session). AreConnected after holds (pushed_on connected number now delivery found)) (sym it.mine_found)
        (one_set theirs after holds holds connected number (on_push it.mine now delivery) mine_next
        (λ other differ. ap (λ (s : Session). holding s (requests_at holds other)) (sym (push_but.others other differ))) were it.mine it.mine_found))

    pub pushed_is : next ≡ pushed_unless None it.session now delivery
    pushed_is = ap (λ (refusal : Option PushRefusal). pushed_unless refusal it.session now delivery) it.accepts

-- ---- the one node

module _ (node : TableNode) (theirs : List (ℕ × Session)) (holds : Option Owned) (connected : List (ℕ × Session))
    (were : AreConnected theirs holds connected) (number : ℕ) (it : IsTarget theirs holds connected were number) (now : ℕ)
    (fit : AreFit node theirs) where
  module _ (delivery : Delivery) where
    abbrev then : Session
    then = on_push it.session now delivery

    abbrev pushed : Pushed
    pushed = record { sequence = it.session.next_sequence; since = now; delivery = delivery }

    abbrev changed : List (ℕ × Session)
    changed = set_value (is_at (nat_cmp number)) theirs then

    but : IsBut number theirs changed then
    but = push_but theirs holds connected were number it now delivery

    then_is : then ≡ pushed_unless None it.session now delivery
    then_is = pushed_is theirs holds connected were number it now delivery

    was : session_in theirs number ≡ it.session
    was = ap session_or_opened it.found

    plain_was : IsPlain it.session
    plain_was = subst IsPlain was (fit.plain number)

    grown : then.pushed ≡ ((session_in theirs number).pushed ++ pushed ∷ [])
    grown = ap (λ (s : Session). s.pushed) then_is ∙ ap (λ (s : Session). s.pushed ++ pushed ∷ []) (sym was)

    -- it waits
    pushed_fit : AreWaiting node.table changed → AreFit node (with_push theirs number now delivery)
    pushed_fit waits =
        subst (AreFit node) (sym (push_is theirs holds connected were number it now delivery))
        (record {
          least = fit.least;
          plain =
              each_but (λ n session. IsPlain session) number theirs changed then but
              (subst IsPlain (sym then_is) (record { state = plain_was.state; idle = plain_was.idle })) (λ other differ. fit.plain other);
          waiting = waits;
        })

  -- an attempt is pushed that was granted, and of whose message none waits
  pub push_fit : (slot : Slot) → IsNewest (entry_at node.table slot.id) slot → AreOff slot.id theirs →
      AreFit node (with_push theirs number now (Attempt slot))
  push_fit slot newest off =
      pushed_fit (Attempt slot)
      (new_waits node.table theirs (changed (Attempt slot)) fit.waiting number (then (Attempt slot)) (but (Attempt slot)) slot it.session.next_sequence now
      newest off (grown (Attempt slot)))

  -- a receipt is pushed
  pub note_fit : (id : ℕ) → AreFit node (with_push theirs number now (Receipt id))
  note_fit id =
      pushed_fit (Receipt id)
      (note_waits node.table theirs (changed (Receipt id)) fit.waiting number (then (Receipt id)) (but (Receipt id)) id it.session.next_sequence now
      (grown (Receipt id)))
