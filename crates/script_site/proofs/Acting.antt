-- What a site does, one thing after another.
use Rattle.std.proofs.Common.{◌≡◌, ℕ, List, [], ◌∷◌, length, map, ◌++◌, Result, Ok, Err, refl, sym, ap, subst, ◌∙◌, arith}
use Rattle.std.proofs.lemmas.List.{append-nil}
use Rattle.std.specs.Prelude.{OnOk}
use Rattle.std.specs.declared.alloc.AllocError.{AllocError}
use Rattle.mc_model.specs.node.Outputs.{Receipt, Reply}
use Rattle.sessions.specs.Session.{Session}
use Rattle.esme_service.specs.Service.{Service}
use Rattle.script_text.specs.Left.{followed_by}
use Rattle.script_text.specs.Prints.{Print, text_at}
use Rattle.script_text.specs.Receipts.{Mail, Posted, all_posted}
use Rattle.script_text.specs.Runner.{Acted, Runner, Told, mail_of, posts, told, with_posted}
use Rattle.script_text.specs.World.{World}
use Rattle.world.specs.Scenes.{clock_in}
use Rattle.script_site.specs.Posting.{IsPosted, mail_in}
use Rattle.script_site.specs.Sites.{Acts, HasActed, IsRunning, Placed, replies_to, tells}
use Rattle.script_site.specs.Told.{AreTold}
use Rattle.script_site.specs.declared.site.Site.{Site}
use Rattle.script_site.proofs.Joining.{in_turn}
use Rattle.script_site.proofs.Stepping.{clock_is}

-- ---- one thing after another

module _ (home : ℕ) where
  pub then_acts : (first later : Runner → Acted) (old mid new : Placed) (before text after : List ℕ)
      → Acts home first old mid before text → Acts mid.site.node later mid new text after
      → Acts home (λ runner. followed_by (first runner) (later (first runner).next)) old new before after
  then_acts first later old mid new before text after one other w runner running =
      let did = one w runner running in
      let done = subst (λ (node : ℕ). Acts node later mid new text after) did.running.home_is other w (first runner).next did.running in
      record {
        running = done.running;
        text = done.text ∙ ap (λ (t : List ℕ). t ++ text_at home (later (first runner).next).prints) did.text
            ∙ in_turn home before (first runner).prints (later (first runner).next).prints;
      }

  pub then_acts_if : (r : Result (Unit {0}) AllocError) (first later : Runner → Acted) (old mid new : Placed) (before text after : List ℕ)
      → Acts home first old mid before text → OnOk r (Acts mid.site.node later mid new text after)
      → OnOk r (Acts home (λ runner. followed_by (first runner) (later (first runner).next)) old new before after)
  then_acts_if (Err fault) first later old mid new before text after one other = tt
  then_acts_if (Ok done) first later old mid new before text after one other = then_acts first later old mid new before text after one other

-- what leaves the same and prints the same is the same; what comes to the node by it is not looked at
pub record IsLike (one other : Acted) : Type 0 where
  pub next : one.next ≡ other.next
  pub prints : one.prints ≡ other.prints

pub like : {one other : Acted} → one ≡ other → IsLike one other
like same = record { next = ap (λ (a : Acted). a.next) same; prints = ap (λ (a : Acted). a.prints) same }

module _ (home : ℕ) where
  pub has_acted : (w : World) (one other : Acted) (new : Placed) (before after : List ℕ) → IsLike one other → HasActed home w one new before after
      → HasActed home w other new before after
  has_acted w one other new before after same did = record {
    running = subst (IsRunning home new w) same.next did.running;
    text = did.text ∙ ap (λ (prints : List Print). before ++ text_at home prints) same.prints;
  }

  pub acts_as : (r : Result (Unit {0}) AllocError) (one other : Runner → Acted) (old new : Placed) (before after : List ℕ)
      → ((w : World) (runner : Runner) → IsRunning home old w runner → IsLike (one runner) (other runner))
      → OnOk r (Acts home one old new before after) → OnOk r (Acts home other old new before after)
  acts_as (Err fault) one other old new before after same did = tt
  acts_as (Ok done) one other old new before after same did =
      λ w runner running. has_acted w (one runner) (other runner) new before after (same w runner running) (did w runner running)

  -- ---- the site alone

  -- with a service that has these
  pub served : (at : Placed) (site : Site) (w : World) (runner : Runner) (sessions : List (ℕ × Session)) (waiting : List Receipt)
      → IsRunning home at w runner → site.node ≡ at.site.node → site.streams ≡ at.site.streams → site.service.sessions ≡ sessions
      → site.service.waiting ≡ waiting
      → IsRunning home (record { world = at.world; site = site }) w (record runner { sessions = sessions; waiting = waiting })
  served at site w runner sessions waiting running node streams connected waits = record {
    home_is = node ∙ running.home_is;
    going = running.going;
    sessions = connected;
    streams = streams ∙ running.streams;
    waiting = waits;
  }

  -- the mail and the clock of the code are those of the runner
  pub mail_is : (at : Placed) (w : World) (runner : Runner) → IsRunning home at w runner → mail_in at.site.service ≡ mail_of runner
  mail_is at w runner running = λ i. record { sessions = running.sessions i; waiting = running.waiting i }

  pub clock_so : (at : Placed) (w : World) (runner : Runner) → IsRunning home at w runner → clock_in at.world home ≡ runner.node.kept.clock
  clock_so at w runner running = clock_is home at.world w runner.node running.going

-- the same site with another service
abbrev pub with_service : Placed → Service → Placed
with_service at service = record { world = at.world; site = record at.site { service = service } }

-- receipts went out
pub posted_acts : (r : Result (Unit {0}) AllocError) (at : Placed) (service : Service) (posted : Posted) (goes : Runner → Posted) (before after : List ℕ)
    → ((w : World) (runner : Runner) → IsRunning at.site.node at w runner → posted ≡ goes runner)
    → OnOk r (IsPosted at.site.node posted service before after)
    → OnOk r (Acts at.site.node (λ runner. with_posted runner (goes runner)) at (with_service at service) before after)
posted_acts (Err fault) at service posted goes before after same is = tt
posted_acts (Ok done) at service posted goes before after same is = λ w runner running.
    let posted_is = same w runner running in
    let mail : mail_in service ≡ (goes runner).next = is.mail ∙ ap (λ (p : Posted). p.next) posted_is in
    record {
      running = served at.site.node at (record at.site { service = service }) w runner (goes runner).next.sessions (goes runner).next.waiting running refl refl
          (ap (λ (m : Mail). m.sessions) mail) (ap (λ (m : Mail). m.waiting) mail);
      text = is.text ∙ ap (λ (p : Posted). before ++ text_at at.site.node p.prints) posted_is;
    }

-- ---- what a step gave out

-- replies went out
pub replies_act : (at : Placed) (service : Service) (replies : List Reply) (before after : List ℕ)
    → AreTold at.site.node (told at.site.service.sessions replies) service.sessions before after → service.waiting ≡ at.site.service.waiting
    → Acts at.site.node (λ runner. replies_to runner (told runner.sessions replies)) at (with_service at service) before after
replies_act at service replies before after went waiting w runner running =
    let same = ap (λ (sessions : List (ℕ × Session)). told sessions replies) running.sessions in
    record {
      running = served at.site.node at (record at.site { service = service }) w runner (told runner.sessions replies).next runner.waiting running refl refl
          (went.sessions ∙ ap (λ (t : Told). t.next) same) (waiting ∙ running.waiting);
      text = went.text ∙ ap (λ (t : Told). before ++ text_at at.site.node t.prints) same;
    }

-- and then receipts
pub told_acts : (r : Result (Unit {0}) AllocError) (at : Placed) (middle last : Service) (replies : List Reply) (receipts : List Receipt) (now : ℕ)
    (before text after : List ℕ)
    → AreTold at.site.node (told at.site.service.sessions replies) middle.sessions before text → middle.waiting ≡ at.site.service.waiting
    → now ≡ clock_in at.world at.site.node → OnOk r (IsPosted at.site.node (all_posted now (mail_in middle) receipts) last text after)
    → OnOk r (Acts at.site.node (λ runner. tells runner replies receipts) at (with_service at last) before after)
told_acts r at middle last replies receipts now before text after went waiting clock posted =
    let mid = with_service at middle in
    then_acts_if at.site.node r (λ runner. replies_to runner (told runner.sessions replies)) (λ runner. posts runner receipts) at mid
    (with_service at last) before text after
    (replies_act at middle replies before text went waiting)
    (posted_acts r mid last (all_posted now (mail_in middle) receipts) (λ runner. all_posted runner.node.kept.clock (mail_of runner) receipts) text after
    (λ w runner running. λ i. all_posted ((clock ∙ clock_so at.site.node mid w runner running) i) (mail_is at.site.node mid w runner running i) receipts) posted)

-- nothing was given out

pub none_mapped : {A B : Type 0} (f : A → B) (xs : List A) → length xs ≡ 0 → map f xs ≡ []
none_mapped f [] none = refl
none_mapped f (x ∷ xs) none = absurd (omega (arith, none))

pub told_nothing : (at : Placed) (replies : List Reply) (receipts : List Receipt) (text : List ℕ) → replies ≡ [] → receipts ≡ []
    → Acts at.site.node (λ runner. tells runner replies receipts) at at text text
unfolding told all_posted
told_nothing at replies receipts text no_reply no_receipt =
    subst (λ (rs : List Reply). Acts at.site.node (λ runner. tells runner rs receipts) at at text text) (sym no_reply)
    (subst (λ (rs : List Receipt). Acts at.site.node (λ runner. tells runner [] rs) at at text text) (sym no_receipt)
    (told_acts (Ok tt) at at.site.service at.site.service [] [] (clock_in at.world at.site.node) text text text
    (record { sessions = refl; text = sym (append-nil text) }) refl refl (record { mail = refl; text = sym (append-nil text) })))
