-- Receipts go out: the runner and the one node push the same over the same sessions, and the same wait still.
use Rattle.std.proofs.Common.{◌≡◌, ℕ, zero, suc, false, List, [], ◌∷◌, ◌++◌, length, Option, Some, None, inl, inr, refl, sym, ◌∙◌, ap, subst}
use Rattle.std.specs.Prelude.{find, is_none}
use Rattle.std.specs.Ordering.{nat_cmp}
use Rattle.std.specs.Map.{set_value}
use Rattle.std.specs.BTreeMap.{is_at}
use Rattle.std.proofs.lemmas.Bool.{cases_eq}
use Rattle.mc_model.specs.node.Outputs.{Receipt}
use Rattle.table_laws.specs.Tables.{TableNode}
use Rattle.receipts.specs.Texts.{Report}
use Rattle.sessions.specs.Session.{Session}
use Rattle.sessions.specs.Steps.{on_push}
use Rattle.sessions.specs.Windows.{without_first}
use Rattle.sessions.specs.declared.pushed.Delivery.{Delivery}
use Rattle.sessions.specs.declared.pushed.Delivery.TheVariants as deliveries
use Rattle.sessions.specs.declared.request.OpenRequest.{OpenRequest}
use Rattle.script_text.proofs.Left.{followed_assoc}
use Rattle.script_text.specs.Left.{followed_by, rests}
use Rattle.script_text.specs.Prints.{Print}
use Rattle.script_text.specs.Pushes.{pushed_on, session_at, target_in, with_push}
use Rattle.script_text.specs.Receipts.{Mail, Posted, all_posted, goes_out, goes_out_up_to, is_for, posted, posted_for, posted_for_all}
use Rattle.script_text.specs.Receipts.{posted_for_any, posted_to, reported_by, reports_on, submitter_of, waits_for}
use Rattle.script_text.specs.Receipts.{with_both}
use Rattle.script_text.specs.Runner.{Owned}
use Rattle.calm_laws.proofs.Connected.{AreConnected}
use Rattle.calm_laws.proofs.Entries.{set_elsewhere, set_here}
use Rattle.calm_laws.proofs.Plain.{holding}
use Rattle.calm_laws.proofs.Pushing.{IsTarget, note_fit, push_connected, target_alike, target_found}
use Rattle.calm_laws.proofs.Standing.{AreFit, requests_at}

-- ---- a session that is pushed to rests connected, and no other comes

push_stays : (connected : List (ℕ × Session)) (number now : ℕ) (delivery : Delivery) (other : ℕ) →
    is_none (session_at (with_push connected number now delivery) other) ≡ is_none (session_at connected other)
push_stays connected number now delivery other = by_found (session_at connected number) refl
  where
    by_found : (found : Option Session) → session_at connected number ≡ found →
        is_none (session_at (pushed_on connected number now delivery found) other) ≡ is_none (session_at connected other)
    by_found None is = refl
    by_found (Some session) is =
        let next = on_push session now delivery in
        elim (cases_eq number other) [
          | inl same ↦
              subst
              (λ (n : ℕ). is_none (session_at (set_value (is_at (nat_cmp number)) connected next) n) ≡ is_none (session_at connected n))
              same
              (ap (λ (o : Option Session). is_none o) (set_here connected number session next is) ∙ sym (ap (λ (o : Option Session). is_none o) is))
          | inr differ ↦ ap (λ (o : Option Session). is_none o) (set_elsewhere connected number other next differ)
        ]

-- ---- both post

-- requests that wait are no matter of what is printed
reported_so : (number : ℕ) (session : Session) (waiting : List OpenRequest) (report : Option Report) →
    reports_on number (Some (holding session waiting)) report ≡ reports_on number (Some session) report
reported_so number session waiting None = refl
reported_so number session waiting (Some report) = refl

module _ (now : ℕ) (node : TableNode) (holds : Option Owned) where
  -- the sessions of the runner are as the one node has them, and the same receipts wait
  pub record AreMailed (theirs ours : Mail) : Type 0 where
    pub connected : AreConnected theirs.sessions holds ours.sessions
    pub fit : AreFit node theirs.sessions
    pub waiting : ours.waiting ≡ theirs.waiting

  -- and they are so still
  pub record ArePosted (before : Mail) (theirs ours : Posted) : Type 0 where
    pub mailed : AreMailed theirs.next ours.next
    pub prints : ours.prints ≡ theirs.prints
    pub stay : (number : ℕ) → is_none (session_at ours.next.sessions number) ≡ is_none (session_at before.sessions number)

  abbrev pub PostsAlike : (Mail → Posted) → Type 0
  PostsAlike post = (theirs ours : Mail) → AreMailed theirs ours → ArePosted ours (post theirs) (post ours)

  stays_alike : PostsAlike rests
  stays_alike theirs ours mailed = record { mailed = mailed; prints = refl; stay = λ number. refl }

  pub then_alike : (first last : Mail → Posted) → PostsAlike first → PostsAlike last → PostsAlike (λ mail. followed_by (first mail) (last (first mail).next))
  then_alike first last one other theirs ours mailed =
      let before = one theirs ours mailed in
      let behind = other (first theirs).next (first ours).next before.mailed in
      record {
        mailed = behind.mailed;
        prints = ap (λ (prints : List Print). prints ++ (last (first ours).next).prints) before.prints
            ∙ ap (λ (prints : List Print). (first theirs).prints ++ prints) behind.prints;
        stay = λ number. behind.stay number ∙ before.stay number;
      }

  abbrev mail : List (ℕ × Session) → List Receipt → Mail
  mail sessions waiting = record { sessions = sessions; waiting = waiting }

  -- where the very same receipts wait
  with_same : (post : Mail → Posted) →
      ((theirs ours : List (ℕ × Session)) (waiting : List Receipt) → AreConnected theirs holds ours → AreFit node theirs →
      ArePosted (mail ours waiting) (post (mail theirs waiting)) (post (mail ours waiting))) → PostsAlike post
  with_same post alike theirs ours mailed =
      subst (λ (waiting : List Receipt). ArePosted (mail ours.sessions waiting) (post theirs) (post (mail ours.sessions waiting))) (sym mailed.waiting)
      (alike theirs.sessions ours.sessions theirs.waiting mailed.connected mailed.fit)

  module _ (account : List ℕ) where
    -- one goes out
    out_alike : (theirs ours : List (ℕ × Session)) (waiting : List Receipt) (receipt : Receipt) (number : ℕ) (were : AreConnected theirs holds ours) →
        AreFit node theirs → IsTarget theirs holds ours were number →
        ArePosted (mail ours waiting) (goes_out now account (mail theirs waiting) receipt number) (goes_out now account (mail ours waiting) receipt number)
    out_alike theirs ours waiting receipt number were fit it =
        let delivery = deliveries.Receipt receipt.id in
        record {
          mailed = record {
            connected = push_connected theirs holds ours were number it now delivery;
            fit = note_fit node theirs holds ours were number it now fit receipt.id;
            waiting = refl;
          };
          prints =
              ap (λ (found : Option Session). reports_on number found (reported_by receipt)) it.mine_found
              ∙ ap (λ (session : Session). reports_on number (Some session) (reported_by receipt)) it.mine_is
              ∙ reported_so number it.session (requests_at holds number) (reported_by receipt)
              ∙ sym (ap (λ (found : Option Session). reports_on number found (reported_by receipt)) it.found);
          stay = push_stays ours number now delivery;
        }

    abbrev sends_first : ℕ → Mail → Option Receipt → Option ℕ → Posted
    sends_first more before waits target =
        with_both (rests before)
        (λ receipt number.
        followed_by (goes_out now account before receipt number) (goes_out_up_to more now account (goes_out now account before receipt number).next))
        waits target

    -- so many go out at most
    up_to_alike : (more : ℕ) (theirs ours : List (ℕ × Session)) (waiting : List Receipt) → AreConnected theirs holds ours → AreFit node theirs →
        ArePosted (mail ours waiting) (goes_out_up_to more now account (mail theirs waiting)) (goes_out_up_to more now account (mail ours waiting))
    unfolding goes_out_up_to
    up_to_alike zero theirs ours waiting were fit = stays_alike (mail theirs waiting) (mail ours waiting)
        (record { connected = were; fit = fit; waiting = refl })
    up_to_alike (suc more) theirs ours waiting were fit =
        subst
        (λ (target : Option ℕ). ArePosted (mail ours waiting)
        (sends_first more (mail theirs waiting) (find (is_for account) waiting) (target_in theirs false account))
        (sends_first more (mail ours waiting) (find (is_for account) waiting) target))
        (sym (target_alike theirs holds ours were false account))
        (by_both (up_to_alike more) (find (is_for account) waiting) (target_in theirs false account) refl)
      where
        resting : ArePosted (mail ours waiting) (rests (mail theirs waiting)) (rests (mail ours waiting))
        resting = stays_alike (mail theirs waiting) (mail ours waiting) (record { connected = were; fit = fit; waiting = refl })

        by_both :
            ((theirs ours : List (ℕ × Session)) (waiting : List Receipt) → AreConnected theirs holds ours → AreFit node theirs →
            ArePosted (mail ours waiting) (goes_out_up_to more now account (mail theirs waiting)) (goes_out_up_to more now account (mail ours waiting))) →
            (waits : Option Receipt) (target : Option ℕ) → target_in theirs false account ≡ target →
            ArePosted (mail ours waiting) (sends_first more (mail theirs waiting) waits target) (sends_first more (mail ours waiting) waits target)
        by_both others None target is = resting
        by_both others (Some receipt) None is = resting
        by_both others (Some receipt) (Some number) is =
            let it = target_found theirs holds ours were false account number is in
            let first = out_alike theirs ours waiting receipt number were fit it in
            let later = others (goes_out now account (mail theirs waiting) receipt number).next.sessions
            (goes_out now account (mail ours waiting) receipt number).next.sessions (without_first (is_for account) waiting) first.mailed.connected
            first.mailed.fit in
            record {
              mailed = later.mailed;
              prints =
                  ap (λ (prints : List Print). prints
                  ++ (goes_out_up_to more now account (goes_out now account (mail ours waiting) receipt number).next).prints) first.prints
                  ∙ ap (λ (prints : List Print). (goes_out now account (mail theirs waiting) receipt number).prints ++ prints) later.prints;
              stay = λ other. later.stay other ∙ first.stay other;
            }

    pub for_alike : PostsAlike (λ before. posted_for now before account)
    for_alike =
        with_same (λ before. posted_for now before account)
        (λ theirs ours waiting were fit. up_to_alike (length waiting) theirs ours waiting were fit)

    -- one waits, and goes out if it can
    to_alike : (receipt : Receipt) → PostsAlike (λ before. posted_to now before receipt (Some account))
    to_alike receipt =
        with_same (λ before. posted_to now before receipt (Some account))
        (λ theirs ours waiting were fit.
        let more = waits_for account waiting receipt in
        let later = up_to_alike (length more) theirs ours more were fit in
        record { mailed = later.mailed; prints = later.prints; stay = later.stay })

  pub for_any_alike : (account : Option (List ℕ)) → PostsAlike (λ before. posted_for_any now before account)
  for_any_alike None = stays_alike
  for_any_alike (Some account) = for_alike account

  pub for_all_alike : (accounts : List (List ℕ)) → PostsAlike (λ before. posted_for_all now before accounts)
  unfolding posted_for_all
  for_all_alike [] = stays_alike
  for_all_alike (account ∷ others) =
      then_alike (λ before. posted_for now before account) (λ before. posted_for_all now before others) (for_alike account) (for_all_alike others)

  posted_alike : (receipt : Receipt) → PostsAlike (λ before. posted now before receipt)
  posted_alike receipt = by_account (submitter_of receipt)
    where
      by_account : (account : Option (List ℕ)) → PostsAlike (λ before. posted_to now before receipt account)
      by_account None = stays_alike
      by_account (Some account) = to_alike account receipt

  pub all_alike : (receipts : List Receipt) → PostsAlike (λ before. all_posted now before receipts)
  unfolding all_posted
  all_alike [] = stays_alike
  all_alike (receipt ∷ others) =
      then_alike (λ before. posted now before receipt) (λ before. all_posted now before others) (posted_alike receipt) (all_alike others)

-- receipts go out one after the other
pub posted_behind : (now : ℕ) (before : Mail) (receipts others : List Receipt) →
    all_posted now before (receipts ++ others) ≡ followed_by (all_posted now before receipts) (all_posted now (all_posted now before receipts).next others)
unfolding all_posted
posted_behind now before [] others = refl
posted_behind now before (receipt ∷ receipts) others =
    let first = posted now before receipt in
    let middle = all_posted now first.next receipts in
    ap (followed_by first) (posted_behind now first.next receipts others) ∙ sym (followed_assoc first middle (all_posted now middle.next others))
