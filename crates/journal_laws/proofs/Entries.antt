-- The entries of a journal among the events of its run.
use Rattle.std.proofs.Common.{◌≡◌, ℕ, List, [], ◌∷◌, ◌++◌, Option, Some, None, Ok, refl, sym, ap, subst, ◌∙◌, inl, inr, append_assoc}
use Rattle.std.specs.Prelude.{map}
use Rattle.std.proofs.lemmas.List.{map-append}
use Rattle.mc_model.specs.synod.Lists.{In}
use Rattle.mc_parts.proofs.Membership.{in_either, in_right}
use Rattle.node_core.specs.Found.{Found}
use Rattle.world_runs.specs.Given.{Given}
use Rattle.world_runs.specs.Step.{Step}
use Rattle.world_runs.specs.Step.TheVariants as steps
use Rattle.world_runs.specs.Taking.{node_at}
use Rattle.world_runs.specs.Traces.{BeginsAnew, Event, Tried, events_of}
use Rattle.journal_laws.specs.Journals.{Done, Entry, Unfinished, answers_given, done_in, steps_done, steps_for, stop_of}
use Rattle.journal_laws.specs.Telling.{LivesOn}
use Rattle.journal_laws.proofs.Joining.{done_both}

abbrev pub tried : Done → Event
tried done = Tried done.step (Ok done.given)

-- the events of entries
abbrev pub tried_in : List Entry → List Event
tried_in entries = map tried (done_in entries)

tried_all : (taken : List Done) → events_of (map (λ done. done.step) taken) (map (λ done. Ok done.given) taken) ≡ map tried taken
tried_all [] = refl
tried_all (done ∷ later) = ap (λ (events : List Event). tried done ∷ events) (tried_all later)

pub events_tried : (entries : List Entry) → events_of (steps_done entries) (answers_given entries) ≡ tried_in entries
events_tried entries = tried_all (done_in entries)

-- ---- an entry, and the stop before it

abbrev pub front_of : Done → Option Unfinished → List Done
front_of done None = []
front_of done (Some save) = stop_of done save ∷ []

abbrev pub before_it : Entry → List Done
before_it entry = front_of entry.done entry.unfinished

front_first : (done : Done) (save : Option Unfinished) (later : List Done) → steps_for done save ++ later ≡ front_of done save ++ done ∷ later
front_first done None later = refl
front_first done (Some save) later = refl

pub done_at : {B : Type 0} (f : Done → B) (older : List Entry) (entry : Entry) (newer : List Entry) →
    map f (done_in (older ++ entry ∷ newer)) ≡ (map f (done_in older) ++ map f (before_it entry)) ++ f entry.done ∷ map f (done_in newer)
done_at f older entry newer =
    ap (map f) (done_both older (entry ∷ newer) ∙ ap (λ (ds : List Done). done_in older ++ ds) (front_first entry.done entry.unfinished (done_in newer)))
    ∙ map-append f (done_in older) (before_it entry ++ entry.done ∷ done_in newer)
    ∙ ap (λ (xs : List _). map f (done_in older) ++ xs) (map-append f (before_it entry) (entry.done ∷ done_in newer))
    ∙ sym (append_assoc (map f (done_in older)) (map f (before_it entry)) (f entry.done ∷ map f (done_in newer)))

-- ---- which entry an event is of

pub in_made : {A B : Type 0} (f : A → B) (x : A) (xs : List A) → In x xs → In (f x) (map f xs)
in_made f x [] none = absurd none
in_made f x (first ∷ xs) (inl same) = inl (ap f same)
in_made f x (first ∷ xs) (inr later) = inr (in_made f x xs later)

last_in : (done : Done) (save : Option Unfinished) (later : List Done) → In done (steps_for done save ++ later)
last_in done None later = inl refl
last_in done (Some save) later = inr (inl refl)

pub done_among : (entries : List Entry) (entry : Entry) → In entry entries → In entry.done (done_in entries)
done_among [] entry none = absurd none
done_among (first ∷ entries) entry (inl same) =
    subst (λ (d : Done). In d (done_in (first ∷ entries))) (ap (λ (e : Entry). e.done) (sym same)) (last_in first.done first.unfinished (done_in entries))
done_among (first ∷ entries) entry (inr later) =
    in_right entry.done (steps_for first.done first.unfinished) (done_in entries) (done_among entries entry later)

pub tried_among : (entries : List Entry) (entry : Entry) → In entry entries → In (tried entry.done) (tried_in entries)
tried_among entries entry among = in_made tried entry.done (done_in entries) (done_among entries entry among)

-- no stop
abbrev pub IsNoStop : Step → Type 0
IsNoStop step = (node number : ℕ) (found : Found) → step ≡ steps.Crash node number found → ⊥

pub record IsFound (entries : List Entry) (before : List Event) (step : Step) (given : Given) (after : List Event) : Type 0 where
  pub older : List Entry
  pub entry : Entry
  pub newer : List Entry
  pub split : entries ≡ older ++ entry ∷ newer
  pub step_is : entry.done.step ≡ step
  pub given_is : entry.done.given ≡ given
  pub before_is : tried_in older ++ map tried (before_it entry) ≡ before
  pub after_is : tried_in newer ≡ after

found_in : (done : Done) (save : Option Unfinished) (entries : List Entry) (before : List Event) (step : Step) (given : Given) (after : List Event) →
    IsNoStop step → map tried (steps_for done save ++ done_in entries) ≡ before ++ Tried step (Ok given) ∷ after →
    ((others : List Event) → tried_in entries ≡ others ++ Tried step (Ok given) ∷ after → IsFound entries others step given after) →
    IsFound (record { done = done; unfinished = save } ∷ entries) before step given after
found_in done None entries [] step given after never is rest =
    let same : tried done ≡ Tried step (Ok given) = cc in
    let later : tried_in entries ≡ after = cc in
    record {
      older = [];
      entry = record { done = done; unfinished = None };
      newer = entries;
      split = refl;
      step_is = cc;
      given_is = cc;
      before_is = refl;
      after_is = later;
    }
found_in done None entries (first ∷ before) step given after never is rest =
    let same : tried done ≡ first = cc in
    let later : tried_in entries ≡ before ++ Tried step (Ok given) ∷ after = cc in
    let it = rest before later in
    record {
      older = record { done = done; unfinished = None } ∷ it.older;
      entry = it.entry;
      newer = it.newer;
      split = λ i. record { done = done; unfinished = None } ∷ it.split i;
      step_is = it.step_is;
      given_is = it.given_is;
      before_is = λ i. same i ∷ it.before_is i;
      after_is = it.after_is;
    }
found_in done (Some save) entries [] step given after never is rest =
    let same : tried (stop_of done save) ≡ Tried step (Ok given) = cc in
    let stops : step ≡ steps.Crash (node_at done.step) save.number save.found = cc in
    absurd (never (node_at done.step) save.number save.found stops)
found_in done (Some save) entries (stop ∷ []) step given after never is rest =
    let first : tried (stop_of done save) ≡ stop = cc in
    let same : tried done ≡ Tried step (Ok given) = cc in
    let later : tried_in entries ≡ after = cc in
    record {
      older = [];
      entry = record { done = done; unfinished = Some save };
      newer = entries;
      split = refl;
      step_is = cc;
      given_is = cc;
      before_is = λ i. first i ∷ [];
      after_is = later;
    }
found_in done (Some save) entries (stop ∷ start ∷ before) step given after never is rest =
    let first : tried (stop_of done save) ≡ stop = cc in
    let same : tried done ≡ start = cc in
    let later : tried_in entries ≡ before ++ Tried step (Ok given) ∷ after = cc in
    let it = rest before later in
    record {
      older = record { done = done; unfinished = Some save } ∷ it.older;
      entry = it.entry;
      newer = it.newer;
      split = λ i. record { done = done; unfinished = Some save } ∷ it.split i;
      step_is = it.step_is;
      given_is = it.given_is;
      before_is = λ i. first i ∷ same i ∷ it.before_is i;
      after_is = it.after_is;
    }

pub found : (entries : List Entry) (before : List Event) (step : Step) (given : Given) (after : List Event) → IsNoStop step →
    tried_in entries ≡ before ++ Tried step (Ok given) ∷ after → IsFound entries before step given after
found [] [] step given after never is = absurd cc
found [] (first ∷ before) step given after never is = absurd cc
found (entry ∷ entries) before step given after never is =
    found_in entry.done entry.unfinished entries before step given after never is (λ others later. found entries others step given after never later)

-- ---- a node lives on

begins_none : (node : ℕ) (done : Done) (save : Unfinished) (event : Event) → event ≡ tried (stop_of done save) → BeginsAnew node event → ⊥
begins_none node done save event same begins =
    let starts : steps.Crash (node_at done.step) save.number save.found ≡ steps.Restart node = subst (BeginsAnew node) same begins in absurd cc

live_front : (node : ℕ) (done : Done) (save : Option Unfinished) (event : Event) → In event (map tried (front_of done save)) → BeginsAnew node event → ⊥
live_front node done None event none begins = none
live_front node done (Some save) event (inl same) begins = begins_none node done save event same begins
live_front node done (Some save) event (inr none) begins = none

live_first : (node : ℕ) (done : Done) (save : Option Unfinished) (later : List Done) (event : Event) → (done.step ≡ steps.Restart node → ⊥) →
    (In event (map tried later) → BeginsAnew node event → ⊥) → In event (map tried (steps_for done save ++ later)) → BeginsAnew node event → ⊥
live_first node done None later event lives rest (inl same) begins = lives (subst (BeginsAnew node) same begins)
live_first node done None later event lives rest (inr among) begins = rest among begins
live_first node done (Some save) later event lives rest (inl same) begins = begins_none node done save event same begins
live_first node done (Some save) later event lives rest (inr (inl same)) begins = lives (subst (BeginsAnew node) same begins)
live_first node done (Some save) later event lives rest (inr (inr among)) begins = rest among begins

live_tried : (node : ℕ) (entries : List Entry) → LivesOn node entries → (event : Event) → In event (tried_in entries) → BeginsAnew node event → ⊥
live_tried node [] lives event none begins = none
live_tried node (entry ∷ entries) lives event among begins =
    live_first node entry.done entry.unfinished (done_in entries) event (lives entry (inl refl))
    (live_tried node entries (λ other is. lives other (inr is)) event) among begins

-- a node that does not start anew by these entries does not by their events, nor by a stop that follows
pub lives_tried : (node : ℕ) (entries : List Entry) (next : Entry) → LivesOn node entries → (event : Event) →
    In event (tried_in entries ++ map tried (before_it next)) → BeginsAnew node event → ⊥
lives_tried node entries next lives event among begins = elim (in_either event (tried_in entries) (map tried (before_it next)) among) [
  | inl here ↦ live_tried node entries lives event here begins
  | inr stop ↦ live_front node next.done next.unfinished event stop begins
]

-- and the other way round
pub lives_by : (node : ℕ) (entries : List Entry) → ((event : Event) → In event (tried_in entries) → BeginsAnew node event → ⊥) → LivesOn node entries
lives_by node entries lives entry among starts = lives (tried entry.done) (tried_among entries entry among) starts
