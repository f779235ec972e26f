-- A session was served: it is connected again, and what waits for its account goes out, at the runner and the one node alike.
use Rattle.std.proofs.Common.{◌≡◌, ℕ, Bool, false, cond, List, [], ◌++◌, Option, Some, None, refl, sym, ◌∙◌, ap, subst}
use Rattle.std.specs.Prelude.{is_none}
use Rattle.std.specs.Ordering.{nat_cmp}
use Rattle.std.specs.Map.{remove_entry}
use Rattle.std.specs.BTreeMap.{is_at}
use Rattle.node_model.proofs.Places.{here}
use Rattle.sessions.specs.Session.{Session}
use Rattle.sessions.specs.States.{is_gone}
use Rattle.sessions.specs.declared.request.OpenRequest.{OpenRequest}
use Rattle.script_text.specs.Left.{followed_by}
use Rattle.script_text.specs.Settings.{Settings}
use Rattle.script_text.specs.Prints.{Print}
use Rattle.script_text.specs.Pushes.{session_at}
use Rattle.script_text.specs.Receipts.{posted_for_any}
use Rattle.script_text.specs.Runner.{Acted, Owned, Runner, Served, held_in, put_at, serves, served_at, session_in}
use Rattle.script_text.specs.Runner as runners
use Rattle.script_text.specs.OneNode.{Happened, OneNode, and_posted}
use Rattle.calm_laws.proofs.Came.{Came}
use Rattle.calm_laws.proofs.Connected.{AreConnected, one_served, ours_at}
use Rattle.calm_laws.proofs.Plain.{IsPlain, holding, state_of}
use Rattle.calm_laws.proofs.Posting.{for_any_alike}
use Rattle.calm_laws.proofs.Running.{AreDone, HavePosted, Runs, posts_leave}
use Rattle.calm_laws.proofs.Standing.{requests_at}

-- a session of the one node is never gone
pub plain_stays : (session : Session) → IsPlain session → is_gone session.state ≡ false
plain_stays session plain = ap is_gone plain.state ∙ by_account session.account
  where
    by_account : (account : Option (List ℕ)) → is_gone (state_of account) ≡ false
    by_account None = refl
    by_account (Some name) = refl

-- both did alike with what came on a session, which is connected still
pub record AreServed (settings : Settings) (first left number : ℕ) (quiet : Bool) (streams : List (ℕ × List ℕ)) (acted : Acted) (happened : Happened) : Type 0
  where
    pub done : AreDone settings first left quiet streams acted happened
    pub connected : is_none (session_at acted.next.sessions number) ≡ false

module _ (settings : Settings) (first left number : ℕ) (quiet : Bool) (one : OneNode) (streams : List (ℕ × List ℕ)) (runner : Runner) (owned : Option Owned)
    (were : AreConnected one.sessions owned runner.sessions) (held : (other : ℕ) → held_in runner.streams other ≡ held_in streams other)
    (waits : runner.waiting ≡ one.waiting) (served : Served) (happened : Happened) (account : Option (List ℕ))
    (came : Came settings first left number quiet one owned served happened account) where
  abbrev put : Runner
  put = record runner { node = served.next.node; sessions = put_at runner.sessions number served.next.session }

  abbrev put_so : Acted
  put_so = record { next = put; inputs = served.inputs; prints = served.prints }

  stays : is_gone served.next.session.state ≡ false
  stays =
      ap (λ (s : Session). is_gone s.state) came.session
      ∙ plain_stays (session_in happened.next.sessions number) (came.agree.fit.plain number)

  put_is : served_at runner number served ≡ put_so
  put_is =
      ap
      (λ (gone : Bool). record {
        next =
            cond gone (record runner { node = served.next.node; sessions = remove_entry (is_at (nat_cmp number)) runner.sessions })
            (record runner { node = served.next.node; sessions = put_at runner.sessions number served.next.session });
        inputs = served.inputs;
        prints = served.prints;
      })
      stays

  -- another session is as it was
  as_before : (other : ℕ) → (number ≡ other → ⊥) → ours_at one.sessions owned other ≡ ours_at happened.next.sessions came.holds other
  as_before other differ =
      ap (λ (s : Session). holding s (requests_at owned other)) (sym (came.others other differ))
      ∙ ap (λ (waiting : List OpenRequest). holding (session_in happened.next.sessions other) waiting) (sym (came.requests other differ))

  put_runs : Runs settings first left quiet happened.next streams put
  put_runs = record {
    holds = came.holds;
    agree = came.agree;
    still = came.still;
    held = held;
    sessions =
        one_served one.sessions happened.next.sessions owned came.holds runner.sessions number served.next.session came.session as_before were;
    waiting = waits ∙ sym came.waiting;
  }

  abbrev posts : Option (List ℕ) → Acted
  posts of = runners.posts_for put of

  posted : HavePosted settings first left quiet streams put (posts account) (and_posted (record happened { prints = [] }) account)
  posted =
      posts_leave settings first left quiet happened.next streams put (λ now before. posted_for_any now before account) put_runs
      (λ now. for_any_alike now happened.next.node put_runs.holds account)

  put_connected : is_none (session_at put.sessions number) ≡ false
  put_connected =
      ap (λ (found : Option Session). is_none found) (here number served.next.session (remove_entry (is_at (nat_cmp number)) runner.sessions))

  abbrev Serves : Acted → Type 0
  Serves acted = AreServed settings first left number quiet streams acted (and_posted happened account)

  pub serve_leaves : Serves (serves runner number served)
  serve_leaves =
      subst (λ (acted : Acted). Serves (followed_by acted (runners.posts_for acted.next served.next.session.account))) (sym put_is)
      (subst (λ (of : Option (List ℕ)). Serves (followed_by put_so (posts of))) (sym came.bound) (record {
        done = (
          posted.done.0,
          ap (λ (prints : List Print). prints ++ (posts account).prints) came.prints ∙ ap (λ (prints : List Print). happened.prints ++ prints) posted.done.1,
        );
        connected = posted.stay number ∙ put_connected;
      }))
