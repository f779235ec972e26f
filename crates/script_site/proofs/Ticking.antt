-- A moment has come: the node is told of it, its replies go out, and what waits too long is given up.
use Rattle.std.proofs.Common.{◌≡◌, ℕ, List, ◌++◌, map, Result, refl, sym, ap, subst, ◌∙◌}
use Rattle.std.proofs.lemmas.List.{append-nil}
use Rattle.std.specs.Prelude.{OnOk}
use Rattle.std.specs.declared.alloc.AllocError.{AllocError}
use Rattle.mc_model.specs.node.Outputs.{Outputs}
use Rattle.mc_model.specs.node.Reach.{of_all}
use Rattle.delivery.specs.Targets.{is_up}
use Rattle.waiting_requests.specs.Replying.{reply_given}
use Rattle.sessions.specs.Session.{Session}
use Rattle.sessions.specs.declared.pushed.Pushed.{Pushed}
use Rattle.world.specs.Reach.{Reach as ReachGiven}
use Rattle.world.specs.Reaching.{reach_of}
use Rattle.world.specs.Scenes.{Scene, clock_in}
use Rattle.world.specs.declared.given.Given.{Given}
use Rattle.world.specs.Step.TheVariants as steps
use Rattle.script_text.specs.Attempts.{all_given_up}
use Rattle.script_text.specs.Node.{step_at, tick_at}
use Rattle.script_text.specs.Pushes.{accounts_up, overdue_in, timely_in}
use Rattle.script_text.specs.Receipts.{posted_for_all}
use Rattle.script_text.specs.Prints.{text_at}
use Rattle.script_text.specs.Runner.{Told, gives_up, mail_of, makes_room, on_tick, posts_for_all, ticked, ticks_by, told}
use Rattle.esme_service.specs.Service.{Service}
use Rattle.script_site.specs.Posting.{IsPosted, mail_in}
use Rattle.script_site.specs.Sites.{Acts, Goes, HasActed, IsGoing, IsRunning, Placed, Takes}
use Rattle.script_site.specs.Standing.{HasGivenUp}
use Rattle.script_site.specs.Told.{AreTold}
use Rattle.script_site.proofs.Acting.{clock_so, mail_is, posted_acts, then_acts_if, with_service}
use Rattle.script_site.proofs.Stepping.{tick_goes}

-- The node was told of a moment, and its replies went out.
pub ticked_acts : (at : Placed) (new : Scene) (middle : Service) (moment : ℕ) (reach : ReachGiven) (accounts : List (List ℕ)) (given : Given)
    (before text : List ℕ) → accounts ≡ accounts_up at.site.service.sessions → reach_of reach ≡ of_all (is_up accounts)
    → Takes at.world (steps.Tick at.site.node moment reach) given new
    → AreTold at.site.node (told at.site.service.sessions (map reply_given given.replies.items)) middle.sessions before text
    → middle.waiting ≡ at.site.service.waiting
    → Acts at.site.node (λ runner. ticked runner moment) at (record { world = new; site = record at.site { service = middle } }) before text
ticked_acts at new middle moment reach accounts given before text are same_reach takes went waiting w runner running =
    let home = at.site.node in
    let went_on = tick_goes home at.world w runner.node running.going moment reach accounts given new same_reach takes in
    let replies = ap (λ (o : Outputs). o.replies) went_on.1.others in
    let same : told at.site.service.sessions (map reply_given given.replies.items)
    ≡ told runner.sessions (step_at runner.node (tick_at moment accounts)).outputs.replies =
    λ i. told (running.sessions i) (replies i) in
    let did : HasActed home w (ticks_by runner (tick_at moment accounts)) (record { world = new; site = record at.site { service = middle } }) before text =
    record {
      running = record {
        home_is = refl;
        going = went_on.0;
        sessions = went.sessions ∙ ap (λ (t : Told). t.next) same;
        streams = running.streams;
        waiting = waiting ∙ running.waiting;
      };
      text = went.text ∙ ap (λ (t : Told). before ++ text_at home t.prints) same;
    } in
    subst (λ (ups : List (List ℕ)). HasActed home w (ticks_by runner (tick_at moment ups))
    (record { world = new; site = record at.site { service = middle } }) before text)
    (are ∙ ap accounts_up running.sessions) did

-- And there was room for more.
pub tick_acts : (r : Result (Unit {0}) AllocError) (at : Placed) (mid : Scene) (middle : Service) (new : Placed) (moment : ℕ)
    (reach : ReachGiven) (accounts : List (List ℕ)) (given : Given) (before text after : List ℕ)
    → accounts ≡ accounts_up at.site.service.sessions → reach_of reach ≡ of_all (is_up accounts)
    → Takes at.world (steps.Tick at.site.node moment reach) given mid
    → AreTold at.site.node (told at.site.service.sessions (map reply_given given.replies.items)) middle.sessions before text
    → middle.waiting ≡ at.site.service.waiting
    → OnOk r (Acts at.site.node makes_room (record { world = mid; site = record at.site { service = middle } }) new text after)
    → OnOk r (Acts at.site.node (λ runner. on_tick runner moment) at new before after)
tick_acts r at mid middle new moment reach accounts given before text after are same_reach takes went waiting room =
    then_acts_if at.site.node r (λ runner. ticked runner moment) makes_room at (record { world = mid; site = record at.site { service = middle } }) new
    before text after (ticked_acts at mid middle moment reach accounts given before text are same_reach takes went waiting) room

-- ---- what waits too long

pub gave_up : (at : Placed) (new : Scene) (left : Service) (now : ℕ) (pushed : List Pushed) → pushed ≡ overdue_in at.site.service.sessions now
    → Goes at.site.node (λ n. all_given_up n pushed) at.world new
    → left ≡ record at.site.service { sessions = timely_in at.site.service.sessions now }
    → HasGivenUp at.site.node now at (record { world = new; site = record at.site { service = left } })
gave_up at new left now pushed are goes timely w runner running =
    let overdue = are ∙ ap (λ (sessions : List (ℕ × Session)). overdue_in sessions now) running.sessions in
    record {
      home_is = refl;
      going = subst (λ (ps : List Pushed). IsGoing at.site.node new w (all_given_up runner.node ps).next) overdue (goes w runner.node running.going);
      sessions = ap (λ (s : Service). s.sessions) timely ∙ ap (λ (sessions : List (ℕ × Session)). timely_in sessions now) running.sessions;
      streams = running.streams;
      waiting = ap (λ (s : Service). s.waiting) timely ∙ running.waiting;
    }

-- and what waits for the room that it leaves went out
pub room_acts : (r : Result (Unit {0}) AllocError) (at mid : Placed) (last : Service) (now then : ℕ) (up : List (List ℕ)) (text after : List ℕ)
    → now ≡ clock_in at.world at.site.node → HasGivenUp at.site.node now at mid → up ≡ accounts_up mid.site.service.sessions
    → then ≡ clock_in mid.world mid.site.node
    → OnOk r (IsPosted mid.site.node (posted_for_all then (mail_in mid.site.service) up) last text after)
    → OnOk r (Acts at.site.node makes_room at (with_service mid last) text after)
room_acts r at mid last now then up text after clock gave are later posted =
    then_acts_if at.site.node r (λ runner. gives_up runner runner.node.kept.clock) posts_for_all at mid (with_service mid last) text text after
    (λ w runner running. record {
      running = subst (λ (moment : ℕ). IsRunning at.site.node mid w (gives_up runner moment).next) (clock ∙ clock_so at.site.node at w runner running)
          (gave w runner running);
      text = sym (append-nil text);
    })
    (posted_acts r mid last (posted_for_all then (mail_in mid.site.service) up)
    (λ runner. posted_for_all runner.node.kept.clock (mail_of runner) (accounts_up runner.sessions)) text after
    (λ w runner running.
    let accounts = are ∙ ap accounts_up running.sessions in
    λ i. posted_for_all ((later ∙ clock_so mid.site.node mid w runner running) i) (mail_is mid.site.node mid w runner running i) (accounts i)) posted)
