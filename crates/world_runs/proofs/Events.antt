-- The inputs of a run of the model's cluster, among the events of a world that they came by.
use Rattle.std.proofs.Common.{◌≡◌, ◌⊎◌, ℕ, zero, suc, ◌≤◌, List, [], ◌∷◌, ◌++◌, length, Ok, Err, refl, sym, ap, subst, ◌∙◌, append_assoc, inl, inr}
use Rattle.std.proofs.Common.{arith}
use Rattle.std.proofs.lemmas.Bool.{cases_lt}
use Rattle.std.proofs.lemmas.List.{append_cancel_right}
use Rattle.mc_model.specs.synod.Lists.{In}
use Rattle.mc_model.specs.synod.Packet.{Packet}
use Rattle.mc_model.specs.cluster.Steps.{Cluster}
use Rattle.mc_model.specs.node.Input.{Restart}
use Rattle.mc_model.specs.node.Outputs.{Outputs}
use Rattle.mc_parts.proofs.Membership.{in_either, in_left, in_right, of_only}
use Rattle.node_laws.specs.Clusters.{NodeInput, cluster_outputs, comes_to, kept_reached, outputs_at, step_at}
use Rattle.node_laws.proofs.cluster.Sources.{cut_at}
use Rattle.world.specs.declared.given.Given.{Given}
use Rattle.world.specs.Step.{Step}
use Rattle.world.specs.Runs.{Comes, IsGiven, begin_anew}
use Rattle.world_runs.specs.Traces.{Answer, Event, HaltedOver, Reaches, StartedOver, Tried, answers_in, events_of, steps_in}

-- ---- nodes that start anew as the world starts over

-- such an input is a start anew of one of these nodes
pub record IsStart (count : ℕ) (next : NodeInput) : Type 0 where
  pub node : ℕ
  pub most : node ≤ count
  pub is : next ≡ comes_to node (Restart 0)

pub starts_only : (count : ℕ) (next : NodeInput) → In next (begin_anew count) → IsStart count next
starts_only zero next none = absurd none
starts_only (suc count) next (inl same) = record { node = suc count; most = omega arith; is = same }
starts_only (suc count) next (inr older) =
    let it = starts_only count next older in record { node = it.node; most = let most = it.most in omega arith; is = it.is }

-- each of them does
pub starts_each : (count node : ℕ) → 1 ≤ node → node ≤ count → In (comes_to node (Restart 0)) (begin_anew count)
starts_each zero node least most = absurd (omega (arith, least, most))
starts_each (suc count) node least most = elim (cases_lt node (suc count)) [
  | inl below ↦ inr (starts_each count node least (omega (arith, below)))
  | inr above ↦ (let same : node ≡ suc count = omega (arith, above, most) in inl (ap (λ (n : ℕ). comes_to n (Restart 0)) same))
]

-- an input stands in one of two lists that follow each other
split_within : (front inputs more : List NodeInput) (x : NodeInput) (older : List NodeInput) → front ++ inputs ≡ more ++ x ∷ older →
    In x front ⊎ ((rest : List NodeInput) × (inputs ≡ rest ++ x ∷ older))
split_within [] inputs more x older same = inr (more, same)
split_within (first ∷ front) inputs [] x older same = let is : x ≡ first = cc in inl (inl is)
split_within (first ∷ front) inputs (next ∷ more) x older same =
    let rest : front ++ inputs ≡ more ++ x ∷ older = cc in elim (split_within front inputs more x older rest) [
      | inl here ↦ inl (inr here)
      | inr before ↦ inr before
    ]

module _ (cluster : Cluster) where
  -- By these events a run goes on from these inputs to others, whatever was behind the world as each came.
  abbrev pub ReachesBy : List NodeInput → List Event → List NodeInput → Type 0
  ReachesBy inputs [] last = last ≡ inputs
  ReachesBy inputs (Tried step (Ok given) ∷ events) last =
      (next : NodeInput)
      × (behind : ℕ)
      × Comes cluster behind (kept_reached cluster inputs) step next
      × IsGiven given (step_at cluster (kept_reached cluster inputs) next).outputs
      × ReachesBy (next ∷ inputs) events last
  ReachesBy inputs (Tried step (Err fault) ∷ events) last = ReachesBy inputs events last
  ReachesBy inputs (StartedOver ∷ events) last = ReachesBy (begin_anew cluster.nodes ++ inputs) events last
  ReachesBy inputs (HaltedOver count fault ∷ events) last = ReachesBy (begin_anew count ++ inputs) events last

  pub reached_by : (behind : List Packet) (inputs : List NodeInput) (steps : List Step) (answers : List Answer) (last : List NodeInput) →
      Reaches cluster behind inputs steps answers last → ReachesBy inputs (events_of steps answers) last
  reached_by behind inputs [] [] last same = same
  reached_by behind inputs [] (answer ∷ answers) last none = absurd none
  reached_by behind inputs (step ∷ steps) [] last none = absurd none
  reached_by behind inputs (step ∷ steps) (Ok given ∷ answers) last r =
      (r.0, length behind, r.2, r.3, reached_by behind (r.0 ∷ inputs) steps answers last r.4)
  reached_by behind inputs (step ∷ steps) (Err fault ∷ answers) last r = reached_by behind inputs steps answers last r.1

  -- where a run of steps was before one of them
  pub record IsUntilStep (behind : List Packet) (inputs : List NodeInput) (before : List Event) (event : Event) (after : List Event)
      (last : List NodeInput) : Type 0 where
    pub mid : List NodeInput
    pub reaches : Reaches cluster behind inputs (steps_in before) (answers_in before) mid
    pub goes_on : ReachesBy mid (event ∷ after) last

  pub until_step : (behind : List Packet) (inputs : List NodeInput) (steps : List Step) (answers : List Answer) (before : List Event) (event : Event)
      (after : List Event) (last : List NodeInput) → Reaches cluster behind inputs steps answers last →
      events_of steps answers ≡ before ++ event ∷ after → IsUntilStep behind inputs before event after last
  until_step behind inputs steps answers [] event after last r split = record {
    mid = inputs;
    reaches = refl;
    goes_on = subst (λ (events : List Event). ReachesBy inputs events last) split (reached_by behind inputs steps answers last r);
  }
  until_step behind inputs [] [] (first ∷ before) event after last r split = absurd cc
  until_step behind inputs [] (answer ∷ answers) (first ∷ before) event after last none split = absurd none
  until_step behind inputs (step ∷ steps) [] (first ∷ before) event after last none split = absurd none
  until_step behind inputs (step ∷ steps) (Ok given ∷ answers) (first ∷ before) event after last r split =
      let same : Tried step (Ok given) ≡ first = cc in
      let rest : events_of steps answers ≡ before ++ event ∷ after = cc in
      let it = until_step behind (r.0 ∷ inputs) steps answers before event after last r.4 rest in
      record {
        mid = it.mid;
        reaches = subst (λ (e : Event). Reaches cluster behind inputs (steps_in (e ∷ before)) (answers_in (e ∷ before)) it.mid) same
            (r.0, r.1, r.2, r.3, it.reaches);
        goes_on = it.goes_on;
      }
  until_step behind inputs (step ∷ steps) (Err fault ∷ answers) (first ∷ before) event after last r split =
      let same : Tried step (Err fault) ≡ first = cc in
      let rest : events_of steps answers ≡ before ++ event ∷ after = cc in
      let it = until_step behind inputs steps answers before event after last r.1 rest in
      record {
        mid = it.mid;
        reaches = subst (λ (e : Event). Reaches cluster behind inputs (steps_in (e ∷ before)) (answers_in (e ∷ before)) it.mid) same (r.0, it.reaches);
        goes_on = it.goes_on;
      }

  -- an input came by an event
  abbrev pub ComesBy : Event → NodeInput → Type 0
  ComesBy (Tried step (Ok given)) next = (older : List NodeInput) × (behind : ℕ) × Comes cluster behind (kept_reached cluster older) step next
  ComesBy (Tried step (Err fault)) next = ⊥
  ComesBy StartedOver next = In next (begin_anew cluster.nodes)
  ComesBy (HaltedOver count fault) next = In next (begin_anew count)

  pub record ComesAmong (events : List Event) (next : NodeInput) : Type 0 where
    pub event : Event
    pub among : In event events
    pub comes : ComesBy event next

  -- the inputs that a run began with are its oldest, and the others came by these events
  pub record GoesOnBy (inputs : List NodeInput) (events : List Event) (last : List NodeInput) : Type 0 where
    pub newer : List NodeInput
    pub split : last ≡ newer ++ inputs
    pub each : (next : NodeInput) → In next newer → ComesAmong events next

  more_by : (event : Event) (events : List Event) (here inputs last : List NodeInput) → ((next : NodeInput) → In next here → ComesBy event next) →
      GoesOnBy (here ++ inputs) events last → GoesOnBy inputs (event ∷ events) last
  more_by event events here inputs last comes it = record {
    newer = it.newer ++ here;
    split = it.split ∙ sym (append_assoc it.newer here inputs);
    each = λ next among. elim (in_either next it.newer here among) [
      | inl later ↦ (let one = it.each next later in record { event = one.event; among = inr one.among; comes = one.comes })
      | inr now ↦ record { event = event; among = inl refl; comes = comes next now }
    ];
  }

  pub goes_on_by : (inputs : List NodeInput) (events : List Event) (last : List NodeInput) → ReachesBy inputs events last → GoesOnBy inputs events last
  goes_on_by inputs [] last same = record { newer = []; split = same; each = λ next none. absurd none }
  goes_on_by inputs (Tried step (Ok given) ∷ events) last r =
      more_by (Tried step (Ok given)) events (r.0 ∷ []) inputs last
      (λ next among. of_only (ComesBy (Tried step (Ok given))) r.0 next (inputs, r.1, r.2) among)
      (goes_on_by (r.0 ∷ inputs) events last r.4)
  goes_on_by inputs (Tried step (Err fault) ∷ events) last r =
      more_by (Tried step (Err fault)) events [] inputs last (λ next none. absurd none) (goes_on_by inputs events last r)
  goes_on_by inputs (StartedOver ∷ events) last r =
      more_by StartedOver events (begin_anew cluster.nodes) inputs last (λ next among. among)
      (goes_on_by (begin_anew cluster.nodes ++ inputs) events last r)
  goes_on_by inputs (HaltedOver count fault ∷ events) last r =
      more_by (HaltedOver count fault) events (begin_anew count) inputs last (λ next among. among) (goes_on_by (begin_anew count ++ inputs) events last r)

  -- where the run was before one of the events
  pub record IsUntil (inputs : List NodeInput) (before : List Event) (event : Event) (after : List Event) (last : List NodeInput) : Type 0 where
    pub mid : List NodeInput
    pub reaches : ReachesBy inputs before mid
    pub goes_on : ReachesBy mid (event ∷ after) last

  pub until : (inputs : List NodeInput) (before : List Event) (event : Event) (after : List Event) (last : List NodeInput) →
      ReachesBy inputs (before ++ event ∷ after) last → IsUntil inputs before event after last
  until inputs [] event after last r = record { mid = inputs; reaches = refl; goes_on = r }
  until inputs (Tried step (Ok given) ∷ before) event after last r =
      let it = until (r.0 ∷ inputs) before event after last r.4 in record { mid = it.mid; reaches = (r.0, r.1, r.2, r.3, it.reaches); goes_on = it.goes_on }
  until inputs (Tried step (Err fault) ∷ before) event after last r =
      let it = until inputs before event after last r in record { mid = it.mid; reaches = it.reaches; goes_on = it.goes_on }
  until inputs (StartedOver ∷ before) event after last r =
      let it = until (begin_anew cluster.nodes ++ inputs) before event after last r in
      record { mid = it.mid; reaches = it.reaches; goes_on = it.goes_on }
  until inputs (HaltedOver count fault ∷ before) event after last r =
      let it = until (begin_anew count ++ inputs) before event after last r in record { mid = it.mid; reaches = it.reaches; goes_on = it.goes_on }

  -- what these gave out before is given out
  pub outputs_since : (newer inputs : List NodeInput) →
      (more : List Outputs) × (cluster_outputs cluster (newer ++ inputs) ≡ more ++ cluster_outputs cluster inputs)
  outputs_since [] inputs = ([], refl)
  outputs_since (next ∷ newer) inputs =
      let it = outputs_since newer inputs in (outputs_at cluster (newer ++ inputs) next ∷ it.0, λ i. outputs_at cluster (newer ++ inputs) next ∷ it.1 i)

  pub record IsGivenOut (last : List NodeInput) (given : Given) : Type 0 where
    pub outputs : Outputs
    pub among : In outputs (cluster_outputs cluster last)
    pub is : IsGiven given outputs

  -- one of the events, and where the run was before it
  pub record IsPassed (inputs : List NodeInput) (events : List Event) (event : Event) (last : List NodeInput) : Type 0 where
    pub before : List Event
    pub after : List Event
    pub until : IsUntil inputs before event after last

  pub passed : (inputs : List NodeInput) (events : List Event) (event : Event) (last : List NodeInput) → ReachesBy inputs events last →
      In event events → IsPassed inputs events event last
  passed inputs events event last r among =
      let cut = cut_at event events among in
      record {
        before = cut.newer;
        after = cut.older;
        until = until inputs cut.newer event cut.older last (subst (λ (es : List Event). ReachesBy inputs es last) cut.split r);
      }

  pub given_in : (inputs : List NodeInput) (events : List Event) (last : List NodeInput) → ReachesBy inputs events last →
      (step : Step) (given : Given) → In (Tried step (Ok given)) events → IsGivenOut last given
  given_in inputs events last r step given among =
      let it = (passed inputs events (Tried step (Ok given)) last r among) in
      let next = it.until.goes_on.0 in
      let way = goes_on_by (next ∷ it.until.mid) it.after last it.until.goes_on.4 in
      let since = outputs_since way.newer (next ∷ it.until.mid) in
      record {
        outputs = outputs_at cluster it.until.mid next;
        among = subst (In (outputs_at cluster it.until.mid next)) (sym (ap (cluster_outputs cluster) way.split ∙ since.1))
            (in_right (outputs_at cluster it.until.mid next) since.0 (cluster_outputs cluster (next ∷ it.until.mid)) (inl refl));
        is = it.until.goes_on.3;
      }

  -- what came by an event came since the events began
  pub brought_since : (inputs : List NodeInput) (before : List Event) (mid here : List NodeInput) (after : List Event) (last newer : List NodeInput) →
      ReachesBy inputs before mid → ReachesBy (here ++ mid) after last → last ≡ newer ++ inputs → (x : NodeInput) → In x here → In x newer
  brought_since inputs before mid here after last newer first second split x among =
      let one = goes_on_by inputs before mid first in
      let two = goes_on_by (here ++ mid) after last second in
      let whole : (two.newer ++ (here ++ one.newer)) ++ inputs ≡ newer ++ inputs =
      append_assoc two.newer (here ++ one.newer) inputs
      ∙ ap (λ (is : List NodeInput). two.newer ++ is) (append_assoc here one.newer inputs ∙ ap (λ (is : List NodeInput). here ++ is) (sym one.split))
      ∙ sym two.split
      ∙ split in
      subst (In x) (append_cancel_right (two.newer ++ (here ++ one.newer)) newer inputs whole)
      (in_right x two.newer (here ++ one.newer) (in_left x here one.newer among))

  -- an input of the run came by one of the steps
  pub record CameBy (inputs : List NodeInput) (events : List Event) (last : List NodeInput) (x : NodeInput) (older : List NodeInput) : Type 0 where
    pub before : List Event
    pub step : Step
    pub given : Given
    pub behind : ℕ
    pub after : List Event
    pub split : events ≡ before ++ Tried step (Ok given) ∷ after
    pub reaches : ReachesBy inputs before older
    pub goes_on : ReachesBy (x ∷ older) after last
    pub comes : Comes cluster behind (kept_reached cluster older) step x
    pub gives : IsGiven given (step_at cluster (kept_reached cluster older) x).outputs

  came_now : (inputs : List NodeInput) (events : List Event) (last : List NodeInput) (step : Step) (given : Given) (behind : ℕ) (next x : NodeInput)
      (older : List NodeInput) → Comes cluster behind (kept_reached cluster inputs) step next →
      IsGiven given (step_at cluster (kept_reached cluster inputs) next).outputs →
      ReachesBy (next ∷ inputs) events last → next ≡ x → inputs ≡ older → CameBy inputs (Tried step (Ok given) ∷ events) last x older
  came_now inputs events last step given behind next x older comes gives on same before = record {
    before = [];
    step = step;
    given = given;
    behind = behind;
    after = events;
    split = refl;
    reaches = sym before;
    goes_on = subst (λ (is : List NodeInput). ReachesBy is events last) (λ i. same i ∷ before i) on;
    comes = subst (λ (y : NodeInput). Comes cluster behind (kept_reached cluster older) step y) same
        (subst (λ (is : List NodeInput). Comes cluster behind (kept_reached cluster is) step next) before comes);
    gives = subst (λ (y : NodeInput). IsGiven given (step_at cluster (kept_reached cluster older) y).outputs) same
        (subst (λ (is : List NodeInput). IsGiven given (step_at cluster (kept_reached cluster is) next).outputs) before gives);
  }

  -- or before them
  abbrev CameOrWas : List NodeInput → List Event → List NodeInput → NodeInput → List NodeInput → Type 0
  CameOrWas inputs events last x older = CameBy inputs events last x older ⊎ ((more : List NodeInput) × (inputs ≡ more ++ x ∷ older))

  -- no node starts anew by it as the world starts over
  abbrev pub StartsNone : NodeInput → Type 0
  StartsNone x = (count : ℕ) → In x (begin_anew count) → ⊥

  came_later : (event : Event) (events : List Event) (inputs here last : List NodeInput) (x : NodeInput) (older : List NodeInput) →
      ((before : List Event) (mid : List NodeInput) → ReachesBy (here ++ inputs) before mid → ReachesBy inputs (event ∷ before) mid) →
      CameBy (here ++ inputs) events last x older → CameBy inputs (event ∷ events) last x older
  came_later event events inputs here last x older on it = record {
    before = event ∷ it.before;
    step = it.step;
    given = it.given;
    behind = it.behind;
    after = it.after;
    split = λ i. event ∷ it.split i;
    reaches = on it.before older it.reaches;
    goes_on = it.goes_on;
    comes = it.comes;
    gives = it.gives;
  }

  came_anew : (event : Event) (events : List Event) (inputs : List NodeInput) (count : ℕ) (last : List NodeInput) (x : NodeInput) (older : List NodeInput) →
      StartsNone x →
      ((before : List Event) (mid : List NodeInput) → ReachesBy (begin_anew count ++ inputs) before mid → ReachesBy inputs (event ∷ before) mid) →
      CameOrWas (begin_anew count ++ inputs) events last x older → CameOrWas inputs (event ∷ events) last x older
  came_anew event events inputs count last x older never on (inl it) = inl (came_later event events inputs (begin_anew count) last x older on it)
  came_anew event events inputs count last x older never on (inr it) = elim (split_within (begin_anew count) inputs it.0 x older it.1) [
    | inl here ↦ absurd (never count here)
    | inr before ↦ inr before
  ]

  pub came_by : (inputs : List NodeInput) (events : List Event) (last : List NodeInput) → ReachesBy inputs events last →
      (newer : List NodeInput) (x : NodeInput) (older : List NodeInput) → StartsNone x → last ≡ newer ++ x ∷ older → CameOrWas inputs events last x older
  came_by inputs [] last same newer x older never split = inr (newer, sym same ∙ split)
  came_by inputs (Tried step (Ok given) ∷ events) last r newer x older never split =
      elim (came_by (r.0 ∷ inputs) events last r.4 newer x older never split) [
        | inl it ↦ inl (came_later (Tried step (Ok given)) events inputs (r.0 ∷ []) last x older (λ before mid on. (r.0, r.1, r.2, r.3, on)) it)
        | inr it ↦ here it.0 it.1
      ]
    where
      here : (more : List NodeInput) → r.0 ∷ inputs ≡ more ++ x ∷ older → CameOrWas inputs (Tried step (Ok given) ∷ events) last x older
      here [] is =
          let same : r.0 ≡ x = cc in
          let before : inputs ≡ older = cc in
          inl (came_now inputs events last step given r.1 r.0 x older r.2 r.3 r.4 same before)
      here (first ∷ more) is = let rest : inputs ≡ more ++ x ∷ older = cc in inr (more, rest)
  came_by inputs (Tried step (Err fault) ∷ events) last r newer x older never split = elim (came_by inputs events last r newer x older never split) [
    | inl it ↦ inl (came_later (Tried step (Err fault)) events inputs [] last x older (λ before mid on. on) it)
    | inr it ↦ inr it
  ]
  came_by inputs (StartedOver ∷ events) last r newer x older never split =
      came_anew StartedOver events inputs cluster.nodes last x older never (λ before mid on. on)
      (came_by (begin_anew cluster.nodes ++ inputs) events last r newer x older never split)
  came_by inputs (HaltedOver count fault ∷ events) last r newer x older never split =
      came_anew (HaltedOver count fault) events inputs count last x older never (λ before mid on. on)
      (came_by (begin_anew count ++ inputs) events last r newer x older never split)

  -- from a run without inputs each came by one of the steps
  pub came_from_none : (events : List Event) (last : List NodeInput) → ReachesBy [] events last →
      (newer : List NodeInput) (x : NodeInput) (older : List NodeInput) → StartsNone x → last ≡ newer ++ x ∷ older → CameBy [] events last x older
  came_from_none events last r newer x older never split =
      elim (came_by [] events last r newer x older never split) [ inl it ↦ it | inr it ↦ absurd (none it.0 it.1) ]
    where
      none : (more : List NodeInput) → [] ≡ more ++ x ∷ older → ⊥
      none [] is = cc
      none (first ∷ more) is = cc

-- ---- the events of answers

-- each answer is of a step
pub tried_of : (events : List Event) (answer : Answer) → In answer (answers_in events) → (step : Step) × In (Tried step answer) events
tried_of [] answer none = absurd none
tried_of (Tried step first ∷ events) answer (inl same) = (step, inl (λ i. Tried step (same i)))
tried_of (Tried step first ∷ events) answer (inr later) = let it = tried_of events answer later in (it.0, inr it.1)
tried_of (StartedOver ∷ events) answer among = let it = tried_of events answer among in (it.0, inr it.1)
tried_of (HaltedOver count fault ∷ events) answer among = let it = tried_of events answer among in (it.0, inr it.1)

-- the step of an answer, and the events before it
pub record IsCutBy (events : List Event) (older : List Answer) (answer : Answer) : Type 0 where
  pub before : List Event
  pub step : Step
  pub after : List Event
  pub split : events ≡ before ++ Tried step answer ∷ after
  pub are : answers_in before ≡ older

cut_more : (event : Event) (events : List Event) (rest older : List Answer) (answer : Answer) →
    ((before : List Event) → answers_in before ≡ rest → answers_in (event ∷ before) ≡ older) →
    IsCutBy events rest answer → IsCutBy (event ∷ events) older answer
cut_more event events rest older answer are it =
    record { before = event ∷ it.before; step = it.step; after = it.after; split = λ i. event ∷ it.split i; are = are it.before it.are }

pub events_cut : (events : List Event) (older : List Answer) (answer : Answer) (newer : List Answer) → answers_in events ≡ older ++ answer ∷ newer →
    IsCutBy events older answer
events_cut [] [] answer newer is = absurd cc
events_cut [] (first ∷ older) answer newer is = absurd cc
events_cut (Tried step given ∷ events) [] answer newer is =
    let same : given ≡ answer = cc in record { before = []; step = step; after = events; split = λ i. Tried step (same i) ∷ events; are = refl }
events_cut (Tried step given ∷ events) (first ∷ older) answer newer is =
    let same : given ≡ first = cc in
    let rest : answers_in events ≡ older ++ answer ∷ newer = cc in
    cut_more (Tried step given) events older (first ∷ older) answer (λ before are i. same i ∷ are i) (events_cut events older answer newer rest)
events_cut (StartedOver ∷ events) older answer newer is =
    cut_more StartedOver events older older answer (λ before are. are) (events_cut events older answer newer is)
events_cut (HaltedOver count fault ∷ events) older answer newer is =
    cut_more (HaltedOver count fault) events older older answer (λ before are. are) (events_cut events older answer newer is)
