-- What a request is answered that comes after something was told.
use Rattle.std.proofs.Common.{◌≡◌, ℕ, List, ◌∷◌, ◌++◌, Some, Ok, Err, sym, ap, subst, ◌∙◌, arith}
use Rattle.mc_model.specs.message.Decree.{Decree, Final}
use Rattle.mc_model.specs.message.Chain.{final_in}
use Rattle.mc_model.specs.synod.Lists.{In}
use Rattle.mc_model.specs.node.Actor.{Request}
use Rattle.mc_model.specs.node.Input.{Arrival, Input, Restart}
use Rattle.mc_model.specs.node.Outputs.{Outputs, Reply}
use Rattle.mc_model.specs.node.Replies.{Accepted, Answer as Told, Shown, Unknown}
use Rattle.mc_model.specs.cluster.Steps.{Cluster}
use Rattle.node_laws.specs.Clusters.{LivesOn as LivesIn, MayHappen, NodeInput, cluster_outputs, comes_to, kept_reached, outputs_at}
use Rattle.node_laws.proofs.cluster.Fresh.{fresh, never_unknown}
use Rattle.node_laws.proofs.cluster.Sources.{may_until}
use Rattle.desk.specs.declared.request.Request.{Request as Asked}
use Rattle.world.specs.declared.given.Given.{Given}
use Rattle.world.specs.Step.{Step}
use Rattle.world.specs.Step.TheVariants as steps
use Rattle.world.specs.Runs.{given_out}
use Rattle.world.specs.Taking.{node_at}
use Rattle.world_runs.specs.Traces.{AcceptedAreKnown, Answer, BeginsAnew, Event, HaltedOver, IsAnsweredLater, IsRepliedTo, LaterQueriesAreTold}
use Rattle.world_runs.specs.Traces.{LivesOn, StartedOver, Tried, told_by}
use Rattle.world_runs.proofs.Coming.{arrived, node_of_step, started_by_step}
use Rattle.world_runs.proofs.Events.{ComesBy, GoesOnBy, ReachesBy, given_in, goes_on_by, starts_only, until}
use Rattle.world_runs.proofs.Tracing.{IsStated, stated}

module _ (cluster : Cluster) where
  abbrev reply : ℕ → ℕ → Told → Reply
  reply ticket id answer = record { ticket = ticket; id = id; answer = answer }

  -- in a run a request came after these inputs, and is answered so in the same life of its node
  record IsAnsweredIn (before : List NodeInput) (id : ℕ) (answer : Told) : Type 0 where
    node : ℕ
    ticket : ℕ
    request : Request
    between : List NodeInput
    next : Input
    may : MayHappen cluster (comes_to node next ∷ (between ++ comes_to node (Arrival request) ∷ before))
    under : (outputs_at cluster before (comes_to node (Arrival request))).ticket ≡ Some ticket
    lives : LivesIn node between
    replied : In (reply ticket id answer) (outputs_at cluster (between ++ comes_to node (Arrival request) ∷ before) (comes_to node next)).replies

  answered_in : (before between mid : List NodeInput) (first second : NodeInput) (node ticket id : ℕ) (answer : Told) (request : Request) →
      first ≡ comes_to node (Arrival request) → second.node ≡ node → mid ≡ between ++ first ∷ before → MayHappen cluster (second ∷ mid) →
      (outputs_at cluster before first).ticket ≡ Some ticket → LivesIn node between → In (reply ticket id answer) (outputs_at cluster mid second).replies →
      IsAnsweredIn before id answer
  answered_in before between mid first second node ticket id answer request first_is node_is split may under lives replied =
      let mids : mid ≡ between ++ comes_to node (Arrival request) ∷ before = split ∙ ap (λ (x : NodeInput). between ++ x ∷ before) first_is in
      let whole : second ∷ mid ≡ comes_to node second.input ∷ (between ++ comes_to node (Arrival request) ∷ before) =
      λ i. comes_to (node_is i) second.input ∷ mids i in
      let outs : outputs_at cluster mid second ≡ outputs_at cluster (between ++ comes_to node (Arrival request) ∷ before) (comes_to node second.input) =
      λ i. outputs_at cluster (mids i) (comes_to (node_is i) second.input) in
      record {
        node = node;
        ticket = ticket;
        request = request;
        between = between;
        next = second.input;
        may = subst (MayHappen cluster) whole may;
        under = subst (λ (x : NodeInput). (outputs_at cluster before x).ticket ≡ Some ticket) first_is under;
        lives = lives;
        replied = subst (λ (o : Outputs). In (reply ticket id answer) o.replies) outs replied;
      }

  -- a node that starts anew by an event begins anew
  starts_by : (node lost : ℕ) (event : Event) → ComesBy cluster event (comes_to node (Restart lost)) → BeginsAnew node event
  starts_by node lost (Tried step (Ok given)) c = started_by_step cluster c.1 (kept_reached cluster c.0) node lost step c.2
  starts_by node lost (Tried step (Err fault)) none = none
  starts_by node lost StartedOver c = tt
  starts_by node lost (HaltedOver count fault) c =
      let it = starts_only count (comes_to node (Restart lost)) c in
      let same : node ≡ it.node = ap (λ (x : NodeInput). x.node) it.is in
      let most = it.most in
      omega (arith, same, most)

  lives_in : (node : ℕ) (events : List Event) → LivesOn node events → (first mid : List NodeInput) (way : GoesOnBy cluster first events mid) →
      LivesIn node way.newer
  lives_in node events lives first mid way lost among =
      let it = way.each (comes_to node (Restart lost)) among in lives it.event it.among (starts_by node lost it.event it.comes)

  module _ (inputs : List NodeInput) (older middle newer : List Event) (node : ℕ) (account : List ℕ) (asked : Asked) (here : Given)
      (last : List NodeInput) where
    -- where the run was as the request came
    record IsAnsweredThere (id : ℕ) (answer : Told) : Type 0 where
      before : List NodeInput
      reaches : ReachesBy cluster inputs older before
      is : IsAnsweredIn before id answer

    answered_there : (step : Step) (there : Given) →
        ReachesBy cluster inputs (older ++ Tried (steps.Request node account asked) (Ok here) ∷ (middle ++ Tried step (Ok there) ∷ newer)) last →
        MayHappen cluster last → (ticket id : ℕ) (answer : Told) → here.ticket ≡ Some ticket → LivesOn node middle → node_at step ≡ node →
        In (reply ticket id answer) (given_out there).replies → IsAnsweredThere id answer
    answered_there step there r may ticket id answer under lives node_is replied =
        let one = until cluster inputs older (Tried (steps.Request node account asked) (Ok here)) (middle ++ Tried step (Ok there) ∷ newer) last r in
        let first = one.goes_on.0 in
        let two = until cluster (first ∷ one.mid) middle (Tried step (Ok there)) newer last one.goes_on.4 in
        let second = two.goes_on.0 in
        let way = goes_on_by cluster (first ∷ one.mid) middle two.mid two.reaches in
        let more = goes_on_by cluster (second ∷ two.mid) newer last two.goes_on.4 in
        let ticket_is = sym (ap (λ (o : Outputs). o.ticket) one.goes_on.3.others) ∙ under in
        let came = arrived cluster (kept_reached cluster one.mid) node ticket account asked first one.goes_on.2 ticket_is in
        record {
          before = one.mid;
          reaches = one.reaches;
          is = answered_in one.mid way.newer two.mid first second node ticket id answer came.0 came.1
              (node_of_step cluster two.goes_on.1 (kept_reached cluster two.mid) step second two.goes_on.2 ∙ node_is) way.split
              (may_until cluster more.newer (second ∷ two.mid) (subst (MayHappen cluster) more.split may)) ticket_is
              (lives_in node middle lives (first ∷ one.mid) two.mid way)
              (subst (In (reply ticket id answer)) (ap (λ (o : Outputs). o.replies) two.goes_on.3.others) replied);
        }

    by_reply : (step : Step) (replying : Answer) →
        ReachesBy cluster inputs (older ++ Tried (steps.Request node account asked) (Ok here) ∷ (middle ++ Tried step replying ∷ newer)) last →
        MayHappen cluster last →
        (ticket id : ℕ) (answer : Told) → here.ticket ≡ Some ticket → LivesOn node middle → node_at step ≡ node →
        IsRepliedTo (Tried step replying) ticket id answer →
        IsAnsweredThere id answer
    by_reply step (Ok there) r may ticket id answer under lives node_is replied = answered_there step there r may ticket id answer under lives node_is replied
    by_reply step (Err fault) r may ticket id answer under lives node_is none = absurd none

  -- ESME_ROK to a submit_sm was given out
  pub record IsAccepted (last : List NodeInput) (taken id : ℕ) : Type 0 where
    pub outputs : Outputs
    pub among : In outputs (cluster_outputs cluster last)
    pub accepts : In (reply taken id Accepted) outputs.replies

  pub accepted : (inputs : List NodeInput) (events : List Event) (last : List NodeInput) → ReachesBy cluster inputs events last →
      (accepting : Event) → In accepting events → (taken id : ℕ) → IsRepliedTo accepting taken id Accepted → IsAccepted last taken id
  accepted inputs events last r (Tried step (Ok given)) among taken id accepts =
      let it = given_in cluster inputs events last r step given among in
      record {
        outputs = it.outputs;
        among = it.among;
        accepts = subst (In (reply taken id Accepted)) (ap (λ (o : Outputs). o.replies) it.is.others) accepts;
      }
  accepted inputs events last r (Tried step (Err fault)) among taken id none = absurd none
  accepted inputs events last r StartedOver among taken id none = absurd none
  accepted inputs events last r (HaltedOver count fault) among taken id none = absurd none

  module _ (inputs : List NodeInput) (events : List Event) (last : List NodeInput)
      (r : ReachesBy cluster inputs events last) (may : MayHappen cluster last) where
    record IsAfter (older : List Event) (id : ℕ) (answer : Told) : Type 0 where
      before : List NodeInput
      reaches : ReachesBy cluster inputs older before
      is : IsAnsweredIn before id answer

    after : (older : List Event) (id : ℕ) (answer : Told) → IsAnsweredLater events older id answer → IsAfter older id answer
    after older id answer it =
        let w = it.waits in
        let split = it.split ∙ ap (λ (asking : Event). older ++ asking ∷ (it.middle ++ Tried it.step it.replying ∷ it.newer)) w.is in
        let there = by_reply inputs older it.middle it.newer it.node w.account w.request w.given last it.step it.replying
        (subst (λ (es : List Event). ReachesBy cluster inputs es last) split r) may
        it.ticket id answer w.under it.lives it.node_is it.replied in
        record { before = there.before; reaches = there.reaches; is = there.is }

    -- what states a final state before the request came
    told_fate : (older : List Event) (id : ℕ) (chain : List Decree) (final : Final) →
        ((before : List NodeInput) → ReachesBy cluster inputs older before → IsStated cluster inputs before id final) →
        IsAfter older id (Shown chain) → final_in chain ≡ Some final
    told_fate older id chain final says it =
        let said = says it.before it.reaches in
        fresh cluster it.before it.is.between it.is.node it.is.ticket it.is.request it.is.next id chain said.outputs final it.is.may said.among
        said.states it.is.under it.is.lives it.is.replied

    pub queries_are_told : (older : List Event) (id : ℕ) (chain : List Decree) (final : Final) →
        ((before : List NodeInput) → ReachesBy cluster inputs older before → IsStated cluster inputs before id final) →
        IsAnsweredLater events older id (Shown chain) → final_in chain ≡ Some final
    queries_are_told older id chain final says it = told_fate older id chain final says (after older id (Shown chain) it)

    pub later_queries_are_told : LaterQueriesAreTold events
    later_queries_are_told older telling id chain final among says =
        queries_are_told older id chain final (λ before reaches. stated cluster inputs older before reaches telling among id final says)

    -- and what accepts its message
    known_still : (older : List Event) (taken id : ℕ) →
        ((before : List NodeInput) → ReachesBy cluster inputs older before → IsAccepted before taken id) → IsAfter older id Unknown → ⊥
    known_still older taken id accepts it =
        let said = accepts it.before it.reaches in
        never_unknown cluster it.before it.is.between it.is.node it.is.ticket it.is.request it.is.next id said.outputs taken it.is.may said.among
        said.accepts it.is.under it.is.lives it.is.replied

    pub messages_are_known : (older : List Event) (taken id : ℕ) →
        ((before : List NodeInput) → ReachesBy cluster inputs older before → IsAccepted before taken id) →
        IsAnsweredLater events older id Unknown → ⊥
    messages_are_known older taken id accepts it = known_still older taken id accepts (after older id Unknown it)

    pub accepted_are_known : AcceptedAreKnown events
    accepted_are_known older accepting taken id among accepts =
        messages_are_known older taken id (λ before reaches. accepted inputs older before reaches accepting among taken id accepts)
