-- The moments and the errors of decrees.
use Rattle.std.proofs.Common.{◌≡◌, ◌⊎◌, ℕ, List, [], ◌∷◌, refl, sym, ◌∙◌, subst, inl, inr, arith}
use Rattle.std.specs.Prelude.{max}
use Rattle.std.proofs.lemmas.Bool.{cases_lt}
use Rattle.mc_model.specs.message.Decree.{Author, Decree}
use Rattle.mc_model.specs.synod.Lists.{In}
use Rattle.mc_model.specs.node.Actor.{Actor, Waiting}
use Rattle.mc_model.specs.node.Proposal.{IsOwn}
use Rattle.mc_model.specs.node.Act.{Act, Begins, Settles, Replies, Restarts, Ticks}
use Rattle.mc_model.specs.node.Effect.{actor_by, settle}
use Rattle.mc_model.specs.cluster.World.{World, Deed, May, IsChosenIn, after, start}
use Rattle.mc_model.specs.cluster.Fate.{deed_by}
use Rattle.mc_model.specs.cluster.Decrees.{WasOnClock, IsTimely, HasItsError}
use Rattle.mc_parts.proofs.Membership.{in_either, of_only, in_map, in_filter}
use Rattle.mc_laws.proofs.invariant.Growth.{actors_after}
use Rattle.mc_laws.proofs.invariant.Keeping.{Keeps}
use Rattle.mc_laws.proofs.invariant.Proposals.{AllProposed, good_after}

abbrev lived_by : ℕ → Actor → Author
lived_by node a = record { node = node; incarnation = a.incarnation }

abbrev ErrorsIn : World → ℕ → List Decree → Type 0
ErrorsIn w id chain = HasItsError chain

abbrev MomentsIn : World → ℕ → List Decree → Type 0
MomentsIn w id chain = IsTimely w.past chain

-- the clock of an actor had each of these moments in its incarnation
pub record KeepsTime (past : List Deed) (node : ℕ) (a : Actor) : Type 0 where
  pub clock : WasOnClock past (lived_by node a) a.clock
  pub since : (waiting : Waiting) → In waiting a.waiting → WasOnClock past (lived_by node a) waiting.since

pub record OwnDecrees (w : World) : Type 0 where
  pub times : (node : ℕ) → KeepsTime w.past node (w.actors node)
  pub moments : AllProposed MomentsIn w
  pub errors : AllProposed ErrorsIn w

-- ---- clocks

on_clock_still : (past : List Deed) (deed : Deed) (author : Author) (moment : ℕ) → WasOnClock past author moment → WasOnClock (deed ∷ past) author moment
on_clock_still past deed author moment (inl opening) = inl opening
on_clock_still past deed author moment (inr ticked) = inr (inr ticked)

ticked : (a b : ℕ) → (max a b ≡ a) ⊎ (max a b ≡ b)
ticked a b = elim (cases_lt a b) [ inl below ↦ inr (omega (arith, below)) | inr above ↦ inl (omega (arith, above)) ]

clock_at : (past : List Deed) (node : ℕ) (a : Actor) (moment : ℕ) → WasOnClock past (lived_by node a) a.clock →
    WasOnClock (deed_by (lived_by node a) (Ticks moment) ∷ past) (lived_by node a) (max a.clock moment)
clock_at past node a moment clock = elim (ticked a.clock moment) [
  | inl old ↦ subst (WasOnClock (deed_by (lived_by node a) (Ticks moment) ∷ past) (lived_by node a)) (sym old)
      (on_clock_still past _ (lived_by node a) a.clock clock)
  | inr new ↦ subst (WasOnClock (deed_by (lived_by node a) (Ticks moment) ∷ past) (lived_by node a)) (sym new) (inr (inl refl))
]

time_by : (w : World) (node : ℕ) (act : Act) → KeepsTime w.past node (w.actors node) →
    KeepsTime (after w node act).past node (actor_by node (w.actors node) act)
time_by w node (Ticks moment) t =
    record {
      clock = clock_at w.past node (w.actors node) moment t.clock;
      since = λ waiting is_in. on_clock_still w.past _ _ waiting.since
          (t.since waiting is_in);
    }
time_by w node (Restarts lost serial) t = record { clock = inl refl; since = λ waiting is_in. absurd is_in }
time_by w node (Begins ticket request) t = record {
  clock = on_clock_still w.past _ _ (w.actors node).clock t.clock;
  since = λ waiting is_in. on_clock_still w.past _ _ waiting.since (elim (in_either waiting (w.actors node).waiting _ is_in) [
    | inl old ↦ t.since waiting old
    | inr new ↦ of_only (λ (x : Waiting). WasOnClock w.past (lived_by node (w.actors node)) x.since) _ waiting t.clock new
  ]);
}
time_by w node (Settles ticket) t = record {
  clock = on_clock_still w.past _ _ (w.actors node).clock t.clock;
  since = λ waiting is_in. let m = in_map (settle ticket) (w.actors node).waiting waiting is_in in
      on_clock_still w.past _ _ waiting.since (subst (λ (x : Waiting). WasOnClock w.past (lived_by node (w.actors node)) x.since)
      (sym m.made) (t.since m.from m.member));
}
time_by w node (Replies ticket id answer) t = record {
  clock = on_clock_still w.past _ _ (w.actors node).clock t.clock;
  since = λ waiting is_in. on_clock_still w.past _ _ waiting.since (t.since waiting (in_filter _ (w.actors node).waiting waiting is_in));
}
time_by w node act t = record {
  clock = on_clock_still w.past _ _ (w.actors node).clock t.clock;
  since = λ waiting is_in. on_clock_still w.past _ _ waiting.since (t.since waiting is_in);
}

time_still : (past : List Deed) (deed : Deed) (node : ℕ) (a : Actor) → KeepsTime past node a → KeepsTime (deed ∷ past) node a
time_still past deed node a t = record {
  clock = on_clock_still past deed (lived_by node a) a.clock t.clock;
  since = λ waiting is_in. on_clock_still past deed (lived_by node a) waiting.since (t.since waiting is_in);
}

times_after : (w : World) → OwnDecrees w → (node : ℕ) (act : Act) (other : ℕ) → KeepsTime (after w node act).past other ((after w node act).actors other)
times_after w own node act other = elim (actors_after w node act other) [
  | inl here ↦ subst (KeepsTime (after w node act).past other) (sym here.actor_is)
      (subst (λ (n : ℕ). KeepsTime (after w node act).past n (actor_by node (w.actors node) act)) (sym here.node_is)
      (time_by w node act (own.times node)))
  | inr elsewhere ↦ subst (KeepsTime (after w node act).past other) (sym elsewhere) (time_still w.past _ other (w.actors other) (own.times other))
]

-- ---- decrees

timely_still : (past : List Deed) (deed : Deed) (chain : List Decree) → IsTimely past chain → IsTimely (deed ∷ past) chain
timely_still past deed [] timely = tt
timely_still past deed (first ∷ []) timely = on_clock_still past deed first.author first.moment timely
timely_still past deed (next ∷ newest ∷ older) (inl same) = inl same
timely_still past deed (next ∷ newest ∷ older) (inr clock) = inr (on_clock_still past deed next.author next.moment clock)

next_timely : (past : List Deed) (node : ℕ) (a : Actor) (next newest : Decree) → KeepsTime past node a → next.author ≡ lived_by node a →
    next.moment ≡ max a.clock newest.moment →
    (next.moment ≡ newest.moment) ⊎ WasOnClock past next.author next.moment
next_timely past node a next newest t author moment = elim (ticked a.clock newest.moment) [
  | inl clock ↦ inr (subst (λ (x : Author). WasOnClock past x next.moment) (sym author)
      (subst (WasOnClock past (lived_by node a)) (sym (moment ∙ clock)) t.clock))
  | inr same ↦ inl (moment ∙ same)
]

own_timely : (w : World) → OwnDecrees w → (node id : ℕ) (chain : List Decree) → IsOwn (IsChosenIn w) node (w.actors node) id chain → IsTimely w.past chain
own_timely w own node id chain (inl first) = subst (IsTimely w.past) (sym first.chain_is) ((own.times node).since first.waiting first.waits)
own_timely w own node id chain (inr n) =
    subst (IsTimely w.past) (sym n.chain_is) (next_timely w.past node (w.actors node) n.next n.newest (own.times node) n.author n.moment)

own_error : (w : World) (node id : ℕ) (chain : List Decree) → IsOwn (IsChosenIn w) node (w.actors node) id chain → HasItsError chain
own_error w node id chain (inl first) = subst HasItsError (sym first.chain_is) tt
own_error w node id chain (inr n) = subst HasItsError (sym n.chain_is) n.error

pub own_decrees_after : (w : World) → Keeps w → OwnDecrees w → (node : ℕ) (act : Act) → May w node act → OwnDecrees (after w node act)
own_decrees_after w keeps own node act may = record {
  times = times_after w own node act;
  moments = good_after MomentsIn w keeps own.moments node act may (λ id chain. timely_still w.past _ chain) (own_timely w own node);
  errors = good_after ErrorsIn w keeps own.errors node act may (λ id chain good. good) (own_error w node);
}

pub own_decrees_start : (nodes : ℕ) (serials : ℕ → ℕ) → OwnDecrees (start nodes serials)
own_decrees_start nodes serials = record {
  times = λ node. record { clock = inl refl; since = λ waiting is_in. absurd is_in };
  moments = λ slot vote proposed. absurd proposed.sent;
  errors = λ slot vote proposed. absurd proposed.sent;
}
