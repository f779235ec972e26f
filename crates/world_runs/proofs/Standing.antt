-- Each DELIVERED that a world tells stands on an attempt that was granted and answered.
use Rattle.std.proofs.Common.{◌≡◌, ℕ, Bool, true, false, List, [], ◌∷◌, ◌++◌, Some, Ok, Err, refl, sym, ap, subst, ◌∙◌, append_assoc, inl}
use Rattle.std.specs.Prelude.{if◌then◌else◌}
use Rattle.mc_model.specs.message.Decree.{Decree, Delivered}
use Rattle.mc_model.specs.synod.Lists.{In}
use Rattle.mc_model.specs.synod.Packet.{Packet, Slot, slot_of}
use Rattle.mc_model.specs.node.Input.{Grant, Response, Restart}
use Rattle.mc_model.specs.node.Outcome.{Concluded}
use Rattle.mc_model.specs.node.Outputs.{Outputs}
use Rattle.mc_model.specs.cluster.Steps.{Cluster, setup_of}
use Rattle.mc_parts.proofs.Membership.{in_right}
use Rattle.node_model.specs.Stepped.{stepped_down, stepped_up}
use Rattle.node_laws.specs.Clusters.{IsDeliveredBy, KeptCluster, LivesOn as LivesIn, MayHappen, NodeInput, StatesFinal, comes_to, kept_reached, step_at}
use Rattle.node_laws.specs.Runs.{IsOneOf}
use Rattle.node_laws.proofs.cluster.Delivered.{delivered}
use Rattle.node_laws.proofs.cluster.Sources.{may_until}
use Rattle.world.specs.declared.given.Given.{Given}
use Rattle.world.specs.Step.{Step}
use Rattle.world.specs.Runs.{Comes, IsGiven, begin_anew, given_out}
use Rattle.world_runs.specs.Traces.{Answer, BeginsAnew, CameInOneLife, DeliveriesStand, Event, HaltedOver, IsAnswered, IsGranted, LostNoneSince, Reaches}
use Rattle.world_runs.specs.Traces.{StandsInTheRun, StandsOnAnAttempt, StartedOver, Tried, events_of, told_by}
use Rattle.world_runs.proofs.Coming.{answered_by_step, granted_by_step}
use Rattle.world_runs.proofs.Events.{CameBy, ReachesBy, StartsNone, brought_since, came_from_none, goes_on_by, passed, starts_each, starts_only}
use Rattle.world_runs.proofs.Events.{until, until_step}
use Rattle.world_runs.proofs.Tracing.{states_given, states_nothing}

-- a node that is up gives out what is granted
grant_given : (cluster : Cluster) (w : KeptCluster) (node : ℕ) (slot : Slot) (up : Bool) → up ≡ true →
    (if up then stepped_up (setup_of cluster node) (w.kept node) (Grant slot)
    else stepped_down (setup_of cluster node) (w.kept node) (Grant slot)).outputs.granted ≡ Some slot
grant_given cluster w node slot true is = refl
grant_given cluster w node slot false is = absurd (cc)

module _ (cluster : Cluster) where
  module _ (node : ℕ) (slot : Slot) where
    abbrev grant : NodeInput
    grant = comes_to node (Grant slot)

    abbrev answer : NodeInput
    answer = comes_to node (Response slot (Concluded Delivered 0))

    -- by neither a node starts anew
    no_start_granted : StartsNone cluster grant
    no_start_granted count among =
        let it = starts_only count grant among in let same : Grant slot ≡ Restart 0 = ap (λ (x : NodeInput). x.input) it.is in cc

    no_start_answered : StartsNone cluster answer
    no_start_answered count among =
        let it = starts_only count answer among in
        let same : Response slot (Concluded Delivered 0) ≡ Restart 0 = ap (λ (x : NodeInput). x.input) it.is in cc

    -- what is granted, and what is answered, by these events
    grant_event : (events : List Event) (last older : List NodeInput) → MayHappen cluster (grant ∷ older) →
        (came : CameBy cluster [] events last grant older) → IsGranted (Tried came.step (Ok came.given)) node slot
    grant_event events last older may came = record {
      given = came.given;
      is = ap (λ (step : Step). Tried step (Ok came.given))
          (granted_by_step cluster came.behind (kept_reached cluster older) node slot came.step came.comes);
      granted =
          ap (λ (o : Outputs). o.granted) came.gives.others
          ∙ grant_given cluster (kept_reached cluster older) node slot ((kept_reached cluster older).kept node).up may.1;
    }

    answer_event : (events : List Event) (last older : List NodeInput) (came : CameBy cluster [] events last answer older) →
        IsAnswered (Tried came.step (Ok came.given)) node slot
    answer_event events last older came = record {
      given = came.given;
      is = ap (λ (step : Step). Tried step (Ok came.given))
          (answered_by_step cluster came.behind (kept_reached cluster older) node slot came.step came.comes);
    }

    -- the node did not start anew by the events between
    lives_by : (inputs : List NodeInput) (events : List Event) (middle : List NodeInput) → IsOneOf (setup_of cluster node) →
        ReachesBy cluster inputs events (middle ++ inputs) → LivesIn node middle → (event : Event) → In event events → BeginsAnew node event → ⊥
    lives_by inputs events middle one r lives (Tried step (Ok given)) among starts =
        let it = passed cluster inputs events (Tried step (Ok given)) (middle ++ inputs) r among in
        let next = it.until.goes_on.0 in
        let comes = subst (λ (s : Step). Comes cluster it.until.goes_on.1 (kept_reached cluster it.until.mid) s next) starts it.until.goes_on.2 in
        lives comes.0 (subst (λ (x : NodeInput). In x middle) comes.1
        (brought_since cluster inputs it.before it.until.mid (next ∷ []) it.after (middle ++ inputs) middle it.until.reaches it.until.goes_on.4 refl
        next (inl refl)))
    lives_by inputs events middle one r lives (Tried step (Err fault)) among none = none
    lives_by inputs events middle one r lives StartedOver among starts =
        let it = passed cluster inputs events StartedOver (middle ++ inputs) r among in
        lives 0
        (brought_since cluster inputs it.before it.until.mid (begin_anew cluster.nodes) it.after (middle ++ inputs) middle
        it.until.reaches it.until.goes_on refl
        (comes_to node (Restart 0)) (starts_each cluster.nodes node one.least one.most))
    lives_by inputs events middle one r lives (HaltedOver count fault) among starts =
        let it = passed cluster inputs events (HaltedOver count fault) (middle ++ inputs) r among in
        lives 0
        (brought_since cluster inputs it.before it.until.mid (begin_anew count) it.after (middle ++ inputs) middle it.until.reaches it.until.goes_on refl
        (comes_to node (Restart 0)) (starts_each count node one.least starts))

    in_order : (events : List Event) (last middle older : List NodeInput) → IsOneOf (setup_of cluster node) → LivesIn node middle →
        (second : CameBy cluster [] events last answer (middle ++ grant ∷ older)) →
        (first : CameBy cluster [] second.before (middle ++ grant ∷ older) grant older) →
        CameInOneLife node (Tried first.step (Ok first.given)) (Tried second.step (Ok second.given)) events
    in_order events last middle older one lives second first = record {
      older = first.before;
      middle = first.after;
      newer = second.after;
      split =
          second.split
          ∙ ap (λ (before : List Event). before ++ Tried second.step (Ok second.given) ∷ second.after) first.split
          ∙ append_assoc first.before (Tried first.step (Ok first.given) ∷ first.after) (Tried second.step (Ok second.given) ∷ second.after);
      lives = lives_by (grant ∷ older) first.after middle one first.goes_on lives;
    }

  on_attempt : (events : List Event) (inputs : List NodeInput) → ReachesBy cluster [] events inputs → MayHappen cluster inputs →
      (id : ℕ) (chain : List Decree) → IsDeliveredBy id chain inputs →
      StandsOnAnAttempt id chain events
  on_attempt events inputs r may id chain d =
      let node = d.attempt.author.node in
      let slot = slot_of id (d.attempt ∷ d.older) in
      let g = d.granted in
      let second = came_from_none cluster events inputs r g.newer (answer node slot) (g.middle ++ grant node slot ∷ g.older)
      (no_start_answered node slot) g.split in
      let first = came_from_none cluster second.before (g.middle ++ grant node slot ∷ g.older) second.reaches g.middle (grant node slot) g.older
      (no_start_granted node slot) refl in
      let there = may_until cluster g.newer (answer node slot ∷ (g.middle ++ grant node slot ∷ g.older)) (subst (MayHappen cluster) g.split may) in
      record {
        fate = d.fate;
        attempt = d.attempt;
        older = d.older;
        number = d.number;
        chain_is = d.chain_is;
        attempted = d.attempted;
        delivered = d.delivered;
        author = d.author;
        granting = Tried first.step (Ok first.given);
        granted = grant_event node slot second.before (g.middle ++ grant node slot ∷ g.older) g.older
            (may_until cluster g.middle (grant node slot ∷ g.older) there.4) first;
        answering = Tried second.step (Ok second.given);
        answered = answer_event node slot events inputs (g.middle ++ grant node slot ∷ g.older) second;
        order = in_order node slot events inputs g.middle g.older there.0 g.lives second first;
      }

  told_delivered : (inputs : List NodeInput) (next : NodeInput) → MayHappen cluster (next ∷ inputs) →
      (given : Given) → IsGiven given (step_at cluster (kept_reached cluster inputs) next).outputs →
      (id : ℕ) (says : StatesFinal (given_out given) id Delivered) → IsDeliveredBy id says.chain inputs
  told_delivered inputs next may given gives id says = delivered cluster next inputs may id (states_given given _ gives id Delivered says)

  -- where a DELIVERED is told, the run may come, and it stands there
  told_at : (mid : List NodeInput) (event : Event) (newer : List Event) (last : List NodeInput) → ReachesBy cluster mid (event ∷ newer) last →
      MayHappen cluster last → (id : ℕ) (says : StatesFinal (told_by event) id Delivered) → MayHappen cluster mid × IsDeliveredBy id says.chain mid
  told_at mid (Tried step (Ok given)) newer last r may id says =
      let next = r.0 in
      let more = goes_on_by cluster (next ∷ mid) newer last r.4 in
      let there = may_until cluster more.newer (next ∷ mid) (subst (MayHappen cluster) more.split may) in
      (there.4, told_delivered mid next there given r.3 id says)
  told_at mid (Tried step (Err fault)) newer last r may id says = absurd (states_nothing id Delivered says)
  told_at mid StartedOver newer last r may id says = absurd (states_nothing id Delivered says)
  told_at mid (HaltedOver count fault) newer last r may id says = absurd (states_nothing id Delivered says)

  pub deliveries_stand : (events : List Event) (last : List NodeInput) → ReachesBy cluster [] events last → MayHappen cluster last →
      DeliveriesStand events
  deliveries_stand events last r may older event newer id split says =
      let it = until cluster [] older event newer last (subst (λ (es : List Event). ReachesBy cluster [] es last) split r) in
      let told = told_at it.mid event newer last it.goes_on may id says in
      on_attempt older it.mid it.reaches told.0 id says.chain told.1

  pub deliveries_stand_in_run : (behind : List Packet) (inputs : List NodeInput) (steps : List Step) (answers : List Answer) (last : List NodeInput) →
      Reaches cluster behind inputs steps answers last → LostNoneSince inputs last → MayHappen cluster last →
      (older : List Event) (event : Event) (newer : List Event) (id : ℕ) → events_of steps answers ≡ older ++ event ∷ newer →
      (says : StatesFinal (told_by event) id Delivered) → StandsInTheRun cluster behind inputs older id says.chain
  deliveries_stand_in_run behind inputs steps answers last r loses may older event newer id split says =
      let it = until_step cluster behind inputs steps answers older event newer last r split in
      let told = told_at it.mid event newer last it.goes_on may id says in
      let more = goes_on_by cluster it.mid (event ∷ newer) last it.goes_on in
      record {
        last = it.mid;
        reaches = it.reaches;
        loses = λ node lost among.
            loses node lost (subst (In (comes_to node (Restart lost))) (sym more.split) (in_right (comes_to node (Restart lost)) more.newer it.mid among));
        stands = told.1;
      }
