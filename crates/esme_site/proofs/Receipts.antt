-- Receipts go out, one after another.
use Rattle.std.proofs.Common.{◌≡◌, ℕ, zero, suc, ◌<◌, Bool, true, false, cond, List, [], ◌∷◌, ◌++◌, find, length, map}
use Rattle.std.proofs.Common.{Option, Some, None, Result, Ok, Err, refl, sym, ap, ◌∙◌, subst, arith, inr}
use Rattle.std.proofs.lemmas.List.Elements.{Contains-push}
use Rattle.std.specs.Result.{result_and}
use Rattle.std.specs.Prelude.{OnErr, OnOk}
use Rattle.std.specs.declared.alloc.AllocError.{AllocError}
use Rattle.mc_model.specs.message.Chain.{Chain}
use Rattle.mc_model.specs.node.Outputs.{Receipt}
use Rattle.node_model.specs.Reported.{receipt_of}
use Rattle.receipts.specs.Texts.{Report}
use Rattle.sessions.specs.Session.{Session}
use Rattle.sessions.specs.Windows.{without_first}
use Rattle.esme_service.specs.Pushes.{knows_optional, target_in}
use Rattle.esme_service.specs.Sendings.{number_of}
use Rattle.esme_service.specs.Service.{SendsNextReceipt, SendsReceipt, Service, is_none_of}
use Rattle.esme_service.specs.declared.pushed_on.PushedOn.{PushedOn}
use Rattle.esme_service.specs.declared.sending.Sending.{Sending}
use Rattle.esme_service.specs.declared.sending.Sending.TheVariants as sendings
use Rattle.script_text.specs.Left.{followed_by, rests}
use Rattle.script_text.specs.Prints.{Print, Reports}
use Rattle.script_text.specs.Receipts.{Mail, Posted, all_posted, goes_out, goes_out_up_to, is_for, posted, posted_for, posted_for_all}
use Rattle.script_text.specs.Receipts.{reported_by, reports_on, with_both}
use Rattle.esme_site.specs.Puts.{ArePrintsOf, HasSettled, IsSettledBy, mail_in, report_prints}
use Rattle.esme_site.proofs.Settling.{IsDone, IsUnderWay, at_end, by_call, goes_on, on_ok}

-- ---- for one account

one_fewer : {A : Type 0} (test : A → Bool) (xs : List A) (x : A) → find test xs ≡ Some x → length xs ≡ suc (length (without_first test xs))
one_fewer test [] x is = absurd cc
one_fewer test (y ∷ ys) x is = by_test (test y) is (one_fewer test ys x)
  where
    by_test : (b : Bool) → cond b (Some y) (find test ys) ≡ Some x → (find test ys ≡ Some x → length ys ≡ suc (length (without_first test ys)))
        → suc (length ys) ≡ suc (length (cond b ys (y ∷ without_first test ys)))
    by_test true is later = refl
    by_test false is later = ap suc (later is)

smaller : {A : Type 0} (test : A → Bool) (xs left : List A) (x : A) → Some x ≡ find test xs → left ≡ without_first test xs → length left < length xs
smaller test xs left x found is = let more = one_fewer test xs x (sym found) in let rest = ap length is in omega (arith, more, rest)

-- fewer wait once one went out
pub fewer_wait : (before : Service) (account : List ℕ) (now : ℕ) (sending : Sending) (after : Service)
    → SendsNextReceipt before account now (Some sending) after → length after.waiting < length before.waiting
fewer_wait before account now (sendings.Receipt pushed chain) after sends = smaller (is_for account) before.waiting after.waiting (receipt_of chain) sends.first sends.rest
fewer_wait before account now (sendings.Attempt pushed chain) after sends = absurd sends
fewer_wait before account now (sendings.Reply owner reply) after sends = absurd sends

-- ---- for one account after the other

all_first : (now : ℕ) (m : Mail) (accounts others : List (List ℕ)) (account : List ℕ) → accounts ≡ account ∷ others
    → posted_for_all now m accounts ≡ followed_by (posted_for now m account) (posted_for_all now (posted_for now m account).next others)
unfolding posted_for_all
all_first now m accounts others account are = rw are refl

none_for_all : (now : ℕ) (m : Mail) (accounts : List (List ℕ)) → accounts ≡ [] → posted_for_all now m accounts ≡ rests m
unfolding posted_for_all
none_for_all now m accounts none = rw none refl

-- ---- new ones

posts_first : (now : ℕ) (m : Mail) (receipts others : List Receipt) (receipt : Receipt) → receipts ≡ receipt ∷ others
    → all_posted now m receipts ≡ followed_by (posted now m receipt) (all_posted now (posted now m receipt).next others)
unfolding all_posted
posts_first now m receipts others receipt are = rw are refl

none_due : (now : ℕ) (m : Mail) (receipts : List Receipt) → receipts ≡ [] → all_posted now m receipts ≡ rests m
unfolding all_posted
none_due now m receipts none = rw none refl

module _ (now : ℕ) (account : List ℕ) where
  posts_one : (m : Mail) (receipt : Receipt) (number : ℕ) → find (is_for account) m.waiting ≡ Some receipt → target_in m.sessions false account ≡ Some number
      → posted_for now m account ≡ followed_by (goes_out now account m receipt number) (posted_for now (goes_out now account m receipt number).next account)
  unfolding goes_out_up_to
  posts_one m receipt number found over =
      ap (λ (n : ℕ). goes_out_up_to n now account m) (one_fewer (is_for account) m.waiting receipt found)
      ∙ (λ i. with_both (rests m)
      (λ r n. followed_by (goes_out now account m r n)
      (goes_out_up_to (length (without_first (is_for account) m.waiting)) now account (goes_out now account m r n).next))
      (found i) (over i))

  both_none : {A B C : Type 0} (none : C) (each : A → B → C) (first : Option A) (last : Option B) → is_none_of first last
      → with_both none each first last ≡ none
  both_none none each None None is = refl
  both_none none each None (Some b) is = refl
  both_none none each (Some a) None is = refl
  both_none none each (Some a) (Some b) is = absurd is

  none_goes : (most : ℕ) (m : Mail) → is_none_of (find (is_for account) m.waiting) (target_in m.sessions false account)
      → goes_out_up_to most now account m ≡ rests m
  unfolding goes_out_up_to
  none_goes zero m none = refl
  none_goes (suc more) m none =
      both_none (rests m) (λ r n. followed_by (goes_out now account m r n) (goes_out_up_to more now account (goes_out now account m r n).next))
      (find (is_for account) m.waiting) (target_in m.sessions false account) none

  -- The settled prints of one that goes out, whose session is lost.
  lost_report : (pushed : PushedOn) (report : Option Report) → IsSettledBy [] (pushed.number ∷ []) (report_prints pushed report)
  unfolding IsSettledBy
  lost_report pushed None = refl
  lost_report pushed (Some report) = inr (Contains-push [] pushed.number, refl)

  reports_so : (pushed : PushedOn) (session : Session) (report : Option Report) → pushed.sequence ≡ session.next_sequence
      → pushed.knows_optional ≡ knows_optional session → report_prints pushed report ≡ reports_on pushed.number (Some session) report
  reports_so pushed session None sequence optional = refl
  reports_so pushed session (Some report) sequence optional = λ i. Reports pushed.number (sequence i) (optional i) report ∷ []

  -- what is left once a receipt went out
  one_out : (before left : Service) (pushed : PushedOn) (chain : Chain) → SendsReceipt before account now pushed chain left
      → posted_for now (mail_in before) account
      ≡ followed_by (record { next = mail_in left; inputs = []; prints = report_prints pushed (reported_by (receipt_of chain)) })
      (posted_for now (mail_in left) account)
  one_out before left pushed chain sends =
      let out = sends.out in
      let there = mail_in before in
      let goes = goes_out now account there (receipt_of chain) pushed.number in
      let mails : goes.next ≡ mail_in left = λ i. record { sessions = sym out.left i; waiting = sym sends.rest i } in
      let prints : goes.prints ≡ report_prints pushed (reported_by (receipt_of chain)) =
      ap (λ (s : Option Session). reports_on pushed.number s (reported_by (receipt_of chain))) out.stands
      ∙ sym (reports_so pushed out.session (reported_by (receipt_of chain)) out.sequence out.optional) in
      posts_one there (receipt_of chain) pushed.number (sym sends.first) out.takes
      ∙ (λ i. followed_by (record { next = mails i; inputs = []; prints = prints i }) (posted_for now (mails i) account))

-- ---- between two states of an outlet

module _ {O : Type 0} (puts : O → List Print → List ℕ → O → Type 0) (rests_at : (at : O) → puts at [] [] at)
    (follows : (before between after : O) (first last : List Print) (lost more : List ℕ) → puts before first lost between → puts between last more after
    → puts before (first ++ last) (lost ++ more) after) where
  receipt_done : (pushed : PushedOn) (chain : Chain) (r : Result (Unit {0}) AllocError) (before after : O)
      → OnOk r ((prints : List Print) → ArePrintsOf (sendings.Receipt pushed chain) prints → puts before prints [] after)
      → OnErr r (puts before [] (pushed.number ∷ []) after) → IsDone puts r (report_prints pushed (reported_by (receipt_of chain))) before after
  receipt_done pushed chain (Ok done) before after put lost =
      by_call puts (Ok done) (report_prints pushed (reported_by (receipt_of chain))) before after (put (report_prints pushed (reported_by (receipt_of chain))) refl) tt
  receipt_done pushed chain (Err fault) before after put lost =
      by_call puts (Err fault) (report_prints pushed (reported_by (receipt_of chain))) before after tt
      (record { put = []; lost = pushed.number ∷ []; did = lost; settled = lost_report 0 [] pushed (reported_by (receipt_of chain)) })

  -- One more goes out.
  pub one_sent : (now : ℕ) (account : List ℕ) (r last both : Result (Unit {0}) AllocError) (all : Posted) (service left : Service) (sending : Sending)
      (before at after : O) → both ≡ result_and r last → IsUnderWay puts r all (posted_for now (mail_in service) account) before at
      → SendsNextReceipt service account now (Some sending) left
      → OnOk last ((prints : List Print) → ArePrintsOf sending prints → puts at prints [] after) → OnErr last (puts at [] (number_of sending ∷ []) after)
      → IsUnderWay puts both all (posted_for now (mail_in left) account) before after
  one_sent now account r last both all service left (sendings.Receipt pushed chain) before at after and so sends put lost =
      let one = one_out now account service left pushed chain sends in
      goes_on puts rests_at follows r last both all (posted_for now (mail_in service) account) (posted_for now (mail_in left) account)
      (report_prints pushed (reported_by (receipt_of chain))) before at after and so (ap (λ (p : Posted). p.next) (sym one)) (ap (λ (p : Posted). p.prints) one)
      (receipt_done pushed chain last at after put lost)
  one_sent now account r last both all service left (sendings.Attempt pushed chain) before at after and so sends put lost = absurd sends
  one_sent now account r last both all service left (sendings.Reply owner reply) before at after and so sends put lost = absurd sends

  -- Nothing is left.
  all_out : (r : Result (Unit {0}) AllocError) (all rest : Posted) (left : Service) (before at : O) → IsUnderWay puts r all rest before at
      → rest ≡ rests (mail_in left) → (mail_in left ≡ all.next) × IsDone puts r all.prints before at
  all_out r all rest left before at so none = (
    ap (λ (p : Posted). p.next) (sym none) ∙ so.next,
    at_end puts rests_at follows r all rest before at so (ap (λ (p : Posted). p.prints) none),
  )

  -- none goes out any more
  pub none_sent : (now : ℕ) (account : List ℕ) (r : Result (Unit {0}) AllocError) (all : Posted) (service left : Service) (before at : O)
      → IsUnderWay puts r all (posted_for now (mail_in service) account) before at → SendsNextReceipt service account now None left
      → (mail_in left ≡ all.next) × IsDone puts r all.prints before at
  none_sent now account r all service left before at so none =
      subst (λ (s : Service). (mail_in s ≡ all.next) × IsDone puts r all.prints before at) (sym none.1)
      (all_out r all (posted_for now (mail_in service) account) service before at so
      (none_goes now account (length service.waiting) (mail_in service) none.0))

  -- One more account has got what waits for it.
  pub one_served : (now : ℕ) (r last both : Result (Unit {0}) AllocError) (all : Posted) (service left : Service) (accounts others : List (List ℕ))
      (account : List ℕ) (before at after : O) → both ≡ result_and r last → IsUnderWay puts r all (posted_for_all now (mail_in service) accounts) before at
      → accounts ≡ account ∷ others → mail_in left ≡ (posted_for now (mail_in service) account).next
      → OnOk last (puts at (posted_for now (mail_in service) account).prints [] after)
      → OnErr last (HasSettled puts (posted_for now (mail_in service) account).prints at after)
      → IsUnderWay puts both all (posted_for_all now (mail_in left) others) before after
  one_served now r last both all service left accounts others account before at after and so are mail put lost =
      let one = posted_for now (mail_in service) account in
      let first = all_first now (mail_in service) accounts others account are
      ∙ ap (λ (m : Mail). followed_by one (posted_for_all now m others)) (sym mail) in
      goes_on puts rests_at follows r last both all (posted_for_all now (mail_in service) accounts) (posted_for_all now (mail_in left) others) one.prints before at
      after and so (ap (λ (p : Posted). p.next) (sym first)) (ap (λ (p : Posted). p.prints) first) (by_call puts last one.prints at after put lost)

  pub all_served : (now : ℕ) (r : Result (Unit {0}) AllocError) (all : Posted) (service : Service) (accounts : List (List ℕ)) (before at : O)
      → IsUnderWay puts r all (posted_for_all now (mail_in service) accounts) before at → accounts ≡ []
      → (mail_in service ≡ all.next) × IsDone puts r all.prints before at
  all_served now r all service accounts before at so none =
      all_out r all (posted_for_all now (mail_in service) accounts) service before at so (none_for_all now (mail_in service) accounts none)

  -- One more was due.
  pub one_due : (now : ℕ) (r last both : Result (Unit {0}) AllocError) (all : Posted) (service left : Service) (chains others : List Chain) (chain : Chain)
      (before at after : O) → both ≡ result_and r last
      → OnOk r (IsUnderWay puts r all (all_posted now (mail_in service) (map receipt_of chains)) before at) → chains ≡ chain ∷ others
      → OnOk last (mail_in left ≡ (posted now (mail_in service) (receipt_of chain)).next)
      → OnOk last (puts at (posted now (mail_in service) (receipt_of chain)).prints [] after)
      → OnOk both (IsUnderWay puts both all (all_posted now (mail_in left) (map receipt_of others)) before after)
  one_due now (Err fault) last both all service left chains others chain before at after and so are mail put =
      subst (λ (b : Result (Unit {0}) AllocError). OnOk b (IsUnderWay puts b all (all_posted now (mail_in left) (map receipt_of others)) before after)) (sym and) tt
  one_due now (Ok done) (Err fault) both all service left chains others chain before at after and so are mail put =
      subst (λ (b : Result (Unit {0}) AllocError). OnOk b (IsUnderWay puts b all (all_posted now (mail_in left) (map receipt_of others)) before after)) (sym and) tt
  one_due now (Ok done) (Ok too) both all service left chains others chain before at after and so are mail put =
      let one = posted now (mail_in service) (receipt_of chain) in
      let first = posts_first now (mail_in service) (map receipt_of chains) (map receipt_of others) (receipt_of chain) (ap (map receipt_of) are)
      ∙ ap (λ (m : Mail). followed_by one (all_posted now m (map receipt_of others))) (sym mail) in
      subst (λ (b : Result (Unit {0}) AllocError). OnOk b (IsUnderWay puts b all (all_posted now (mail_in left) (map receipt_of others)) before after)) (sym and)
      (goes_on puts rests_at follows (Ok done) (Ok too) (Ok too) all (all_posted now (mail_in service) (map receipt_of chains))
      (all_posted now (mail_in left) (map receipt_of others)) one.prints before at after refl so (ap (λ (p : Posted). p.next) (sym first))
      (ap (λ (p : Posted). p.prints) first) (by_call puts (Ok too) one.prints at after put tt))

  pub all_due : (now : ℕ) (r : Result (Unit {0}) AllocError) (all : Posted) (service : Service) (chains : List Chain) (before at : O)
      → OnOk r (IsUnderWay puts r all (all_posted now (mail_in service) (map receipt_of chains)) before at) → chains ≡ []
      → OnOk r ((mail_in service ≡ all.next) × puts before all.prints [] at)
  all_due now (Err fault) all service chains before at so none = tt
  all_due now (Ok done) all service chains before at so none =
      let out = all_out (Ok done) all (all_posted now (mail_in service) (map receipt_of chains)) service before at so
      (none_due now (mail_in service) (map receipt_of chains) (ap (map receipt_of) none)) in
      (out.0, on_ok puts (Ok done) all.prints before at out.1)

pub both_parts : (r : Result (Unit {0}) AllocError) (A B : Type 0) → OnOk r (A × B) → OnOk r A × OnOk r B
both_parts (Ok done) A B so = so
both_parts (Err fault) A B so = (tt, tt)
