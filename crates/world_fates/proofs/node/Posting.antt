-- The receipts that wait at a node, and those that go out: each was given out.
use Rattle.std.proofs.Common.{◌≡◌, ℕ, zero, suc, Bool, true, false, cond, List, [], ◌∷◌, ◌++◌, length, Option, Some, None, refl, subst, inl, inr}
use Rattle.std.specs.Prelude.{find, filter, nat_lt}
use Rattle.mc_model.specs.synod.Lists.{In}
use Rattle.mc_model.specs.node.Outputs.{Receipt}
use Rattle.mc_model.specs.cluster.Steps.{Cluster}
use Rattle.mc_parts.proofs.Membership.{in_either, of_only}
use Rattle.node_laws.specs.Clusters.{MayHappen, NodeInput}
use Rattle.receipts.specs.Texts.{Report}
use Rattle.sessions.specs.Session.{Session}
use Rattle.sessions.specs.Windows.{without_first}
use Rattle.script_text.specs.Left.{followed_by, rests}
use Rattle.script_text.specs.Prints.{Print}
use Rattle.script_text.specs.Pushes.{knows_optional, session_at, target_in}
use Rattle.script_text.specs.Receipts.{Mail, Posted, all_posted, goes_out, goes_out_up_to, is_for, most_waiting, posted, posted_for}
use Rattle.script_text.specs.Receipts.{posted_for_all, posted_for_any, posted_to, reported_by, reports_on, submitter_of}
use Rattle.script_text.specs.Receipts.{waits_for, with_both}
use Rattle.world_fates.proofs.node.Reports.{report_is}
use Rattle.world_fates.proofs.node.ReceiptsOut.{AreReceiptsOut, IsReceiptOut}
use Rattle.world_fates.proofs.node.Tellings.{FactOfPrints, IsTelling, NodePrint, both_at, prints_at}

-- ---- lists

pub found_in : {A : Type 0} (test : A → Bool) (items : List A) (item : A) → find test items ≡ Some item → In item items
found_in test [] item is = absurd cc
found_in test (first ∷ items) item is = by_test (test first) (found_in test items item) is
  where
    by_test : (passes : Bool) → (find test items ≡ Some item → In item items) → cond passes (Some first) (find test items) ≡ Some item →
        In item (first ∷ items)
    by_test true behind is = inl cc
    by_test false behind is = inr (behind is)

pub left_in : {A : Type 0} (test : A → Bool) (items : List A) (item : A) → In item (without_first test items) → In item items
left_in test [] item among = among
left_in test (first ∷ items) item among = by_test (test first) (left_in test items item) among
  where
    by_test : (passes : Bool) → (In item (without_first test items) → In item items) →
        In item (cond passes items (first ∷ without_first test items)) → In item (first ∷ items)
    by_test true behind among = inr among
    by_test false behind (inl same) = inl same
    by_test false behind (inr later) = inr (behind later)

-- ---- they go out

module _ (cluster : Cluster) (Tells : FactOfPrints) (telling : IsTelling cluster Tells) (node : ℕ)
    (past : List NodeInput) (may : MayHappen cluster past) where
  abbrev AreOut : List Receipt → Type 0
  AreOut receipts = AreReceiptsOut cluster node past receipts

  -- these prints tell what was given out
  abbrev TellsMore : List Print → Type 0
  TellsMore printed = (last : List NodeInput) (prints : List NodePrint) → Tells last past prints → Tells last past (prints_at node printed ++ prints)

  -- what waits then was given out, and so was what is printed
  pub record PostsSo (posted : Posted) : Type 0 where
    pub waiting : AreOut posted.next.waiting
    pub tell : TellsMore posted.prints

  stays_so : (mail : Mail) → AreOut mail.waiting → PostsSo (rests mail)
  stays_so mail out = record { waiting = out; tell = λ last prints tells. tells }

  then_so : (first last : Posted) → PostsSo first → PostsSo last → PostsSo (followed_by first last)
  then_so first last one other = record {
    waiting = other.waiting;
    tell = λ end prints tells.
        subst (Tells end past) (both_at node first.prints last.prints prints)
        (one.tell end (prints_at node last.prints ++ prints) (other.tell end prints tells));
  }

  reports_so : (number : ℕ) (session : Option Session) (receipt : Receipt) (report : Option Report) → reported_by receipt ≡ report →
      IsReceiptOut cluster node past receipt → TellsMore (reports_on number session report)
  reports_so number None receipt report is out last prints tells = tells
  reports_so number (Some session) receipt None is out last prints tells = tells
  reports_so number (Some session) receipt (Some report) is out last prints tells =
      telling.report last past node receipt number session.next_sequence (knows_optional session) report prints may out
      (report_is receipt.id receipt.chain report is) tells

  goes_out_so : (now : ℕ) (account : List ℕ) (mail : Mail) (receipt : Receipt) (number : ℕ) → AreOut mail.waiting →
      IsReceiptOut cluster node past receipt → PostsSo (goes_out now account mail receipt number)
  goes_out_so now account mail receipt number out this = record {
    waiting = λ other among. out other (left_in (is_for account) mail.waiting other among);
    tell = reports_so number (session_at mail.sessions number) receipt (reported_by receipt) refl this;
  }

  goes_out_up_to_so : (most now : ℕ) (account : List ℕ) (mail : Mail) → AreOut mail.waiting →
      PostsSo (goes_out_up_to most now account mail)
  unfolding goes_out_up_to
  goes_out_up_to_so zero now account mail out = stays_so mail out
  goes_out_up_to_so (suc more) now account mail out =
      at_both (find (is_for account) mail.waiting) (target_in mail.sessions false account) refl (goes_out_up_to_so more now account)
    where
      at_both : (found : Option Receipt) (target : Option ℕ) → find (is_for account) mail.waiting ≡ found →
          ((next : Mail) → AreOut next.waiting → PostsSo (goes_out_up_to more now account next)) →
          PostsSo (with_both (rests mail)
          (λ receipt number. followed_by (goes_out now account mail receipt number)
          (goes_out_up_to more now account (goes_out now account mail receipt number).next)) found target)
      at_both (Some receipt) (Some number) is behind =
          let one = goes_out now account mail receipt number in
          let so = goes_out_so now account mail receipt number out (out receipt (found_in (is_for account) mail.waiting receipt is)) in
          then_so one (goes_out_up_to more now account one.next) so (behind one.next so.waiting)
      at_both None target is behind = stays_so mail out
      at_both (Some receipt) None is behind = stays_so mail out

  posted_for_so : (now : ℕ) (mail : Mail) (account : List ℕ) → AreOut mail.waiting → PostsSo (posted_for now mail account)
  posted_for_so now mail account out = goes_out_up_to_so (length mail.waiting) now account mail out

  pub posted_for_any_so : (now : ℕ) (mail : Mail) (account : Option (List ℕ)) → AreOut mail.waiting →
      PostsSo (posted_for_any now mail account)
  posted_for_any_so now mail None out = stays_so mail out
  posted_for_any_so now mail (Some account) out = posted_for_so now mail account out

  pub posted_for_all_so : (now : ℕ) (mail : Mail) (accounts : List (List ℕ)) → AreOut mail.waiting →
      PostsSo (posted_for_all now mail accounts)
  unfolding posted_for_all
  posted_for_all_so now mail [] out = stays_so mail out
  posted_for_all_so now mail (account ∷ others) out =
      let one = posted_for now mail account in
      let so = posted_for_so now mail account out in
      then_so one (posted_for_all now one.next others) so (posted_for_all_so now one.next others so.waiting)

  -- ---- new ones

  waits_so : (account : List ℕ) (waiting : List Receipt) (receipt : Receipt) → AreOut waiting → IsReceiptOut cluster node past receipt →
      AreOut (waits_for account waiting receipt)
  waits_so account waiting receipt out this = by_test (nat_lt (length (filter (is_for account) waiting)) most_waiting)
    where
      by_test : (room : Bool) → AreOut (cond room (waiting ++ receipt ∷ []) waiting)
      by_test true other among = elim (in_either other waiting (receipt ∷ []) among) [
        | inl old ↦ out other old
        | inr new ↦ of_only (IsReceiptOut cluster node past) receipt other this new
      ]
      by_test false other among = out other among

  posted_to_so : (now : ℕ) (mail : Mail) (receipt : Receipt) (account : Option (List ℕ)) → AreOut mail.waiting →
      IsReceiptOut cluster node past receipt → PostsSo (posted_to now mail receipt account)
  posted_to_so now mail receipt None out this = stays_so mail out
  posted_to_so now mail receipt (Some account) out this =
      posted_for_so now (record mail { waiting = waits_for account mail.waiting receipt }) account (waits_so account mail.waiting receipt out this)

  pub all_posted_so : (now : ℕ) (mail : Mail) (receipts : List Receipt) → AreOut mail.waiting →
      AreOut receipts → PostsSo (all_posted now mail receipts)
  unfolding all_posted
  all_posted_so now mail [] out new = stays_so mail out
  all_posted_so now mail (receipt ∷ others) out new =
      let one = posted now mail receipt in
      let so = posted_to_so now mail receipt (submitter_of receipt) out (new receipt (inl refl)) in
      then_so one (all_posted now one.next others) so (all_posted_so now one.next others so.waiting (λ other among. new other (inr among)))
