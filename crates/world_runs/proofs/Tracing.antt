-- What the steps of a world tell is what the model's cluster gives out, in the same order.
use Rattle.std.proofs.Common.{◌≡◌, ℕ, ◌+◌, ◌≤◌, List, [], ◌∷◌, ◌++◌, map, Ok, Err, sym, ap, subst, ◌∙◌, inl, inr, arith}
use Rattle.mc_model.specs.message.Decree.{Final}
use Rattle.mc_model.specs.synod.Lists.{In}
use Rattle.mc_model.specs.node.Outputs.{Outputs}
use Rattle.mc_model.specs.cluster.Steps.{Cluster}
use Rattle.mc_parts.proofs.Membership.{in_right}
use Rattle.node_model.specs.Outputs.{nothing}
use Rattle.node_laws.specs.Clusters.{GrantsOut, MayHappen, NodeInput, StatesFinal, cluster_outputs, outputs_at, receipts_given}
use Rattle.node_laws.proofs.cluster.NoGrant.{no_grant}
use Rattle.node_laws.proofs.cluster.OneReceipt.{count_both, count_of, one_of_each}
use Rattle.node_laws.proofs.cluster.Stated.{one_final}
use Rattle.world.specs.declared.given.Given.{Given}
use Rattle.world.specs.Step.{Step}
use Rattle.world.specs.Runs.{IsGiven, begin_anew, given_out}
use Rattle.world_runs.specs.Traces.{Answer, Event, GrantsNoneAfterAFate, HaltedOver, HasOneFate, HasOneReceipt, StartedOver, Tried, answers_in}
use Rattle.world_runs.specs.Traces.{told_by, told_in}
use Rattle.world_runs.proofs.Events.{ReachesBy, events_cut, given_in, goes_on_by, outputs_since, tried_of, until}

-- ---- an answer and what the model gives out

abbrev pub states_so : (one other : Outputs) → other.replies ≡ one.replies → other.receipts ≡ one.receipts →
    (id : ℕ) (final : Final) → StatesFinal one id final → StatesFinal other id final
states_so one other replies receipts id final says = record {
  chain = says.chain;
  tells = elim says.tells [
    | inl reply ↦ inl (record { reply = reply.reply; among = subst (In reply.reply) (sym replies) reply.among; about = reply.about; shown = reply.shown })
    | inr receipt ↦ inr (subst (In (record { id = id; chain = says.chain })) (sym receipts) receipt)
  ];
  state = says.state;
}

abbrev pub states_given : (given : Given) (outputs : Outputs) → IsGiven given outputs → (id : ℕ) (final : Final) →
    StatesFinal (given_out given) id final → StatesFinal outputs id final
states_given given outputs is id final says =
    states_so (given_out given) outputs (sym (ap (λ (o : Outputs). o.replies) is.others)) (sym (ap (λ (o : Outputs). o.receipts) is.others)) id final says

grants_given : (given : Given) (outputs : Outputs) → IsGiven given outputs → (id : ℕ) → GrantsOut (given_out given) id → GrantsOut outputs id
grants_given given outputs is id grants = record {
  slot = grants.slot;
  granted = sym (ap (λ (o : Outputs). o.granted) is.others) ∙ grants.granted;
  about = grants.about;
}

pub states_nothing : (id : ℕ) (final : Final) → StatesFinal nothing id final → ⊥
states_nothing id final says = elim says.tells [
  | inl reply ↦ reply.among
  | inr receipt ↦ receipt
]

grants_nothing : (id : ℕ) → GrantsOut nothing id → ⊥
grants_nothing id grants = let none = grants.granted in cc

-- ---- receipts

module _ (cluster : Cluster) (id : ℕ) where
  -- how many of a message these inputs gave out
  abbrev given_by : List NodeInput → ℕ
  given_by inputs = count_of id (receipts_given (cluster_outputs cluster inputs))

  -- and how many these answers told
  abbrev told_of : List Answer → ℕ
  told_of answers = count_of id (receipts_given (map told_in answers))

  more_since : (newer inputs : List NodeInput) → given_by inputs ≤ given_by (newer ++ inputs)
  more_since [] inputs = omega arith
  more_since (next ∷ newer) inputs =
      let both : given_by (next ∷ (newer ++ inputs)) ≡ count_of id (outputs_at cluster (newer ++ inputs) next).receipts + given_by (newer ++ inputs) =
      count_both id (outputs_at cluster (newer ++ inputs) next).receipts (receipts_given (cluster_outputs cluster (newer ++ inputs))) in
      let before = more_since newer inputs in
      omega (arith, both, before)

  -- what was given out before, and what is told since, is given out
  told_within : (events : List Event) (inputs last : List NodeInput) → ReachesBy cluster inputs events last →
      told_of (answers_in events) + given_by inputs ≤ given_by last
  told_within [] inputs last same = let is : given_by last ≡ given_by inputs = ap given_by same in omega (arith, is)
  told_within (Tried step (Ok given) ∷ events) inputs last r =
      let out = outputs_at cluster inputs r.0 in
      let same : count_of id (given_out given).receipts ≡ count_of id out.receipts = ap (λ (o : Outputs). count_of id o.receipts) r.3.others in
      let told : told_of (Ok given ∷ answers_in events) ≡ count_of id (given_out given).receipts + told_of (answers_in events) =
      count_both id (given_out given).receipts (receipts_given (map told_in (answers_in events))) in
      let gave : given_by (r.0 ∷ inputs) ≡ count_of id out.receipts + given_by inputs =
      count_both id out.receipts (receipts_given (cluster_outputs cluster inputs)) in
      let later = told_within events (r.0 ∷ inputs) last r.4 in
      omega (arith, same, told, gave, later)
  told_within (Tried step (Err fault) ∷ events) inputs last r = told_within events inputs last r
  told_within (StartedOver ∷ events) inputs last r =
      let more = more_since (begin_anew cluster.nodes) inputs in
      let later = told_within events (begin_anew cluster.nodes ++ inputs) last r in
      omega (arith, more, later)
  told_within (HaltedOver count fault ∷ events) inputs last r =
      let more = more_since (begin_anew count) inputs in
      let later = told_within events (begin_anew count ++ inputs) last r in
      omega (arith, more, later)

-- of a message there is one at most, with what was given out before
pub one_in_run : (cluster : Cluster) (inputs : List NodeInput) (events : List Event) (last : List NodeInput) → ReachesBy cluster inputs events last →
    MayHappen cluster last → (id : ℕ) →
    count_of id (receipts_given (map told_in (answers_in events))) + count_of id (receipts_given (cluster_outputs cluster inputs)) ≤ 1
one_in_run cluster inputs events last r may id =
    let most : given_by cluster id last ≤ 1 = one_of_each cluster last may id in
    let within = told_within cluster id events inputs last r in
    omega (arith, most, within)

pub one_receipt : (cluster : Cluster) (inputs : List NodeInput) (events : List Event) (last : List NodeInput) → ReachesBy cluster inputs events last →
    MayHappen cluster last →
    HasOneReceipt (answers_in events)
one_receipt cluster inputs events last r may id = let most = one_in_run cluster inputs events last r may id in omega (arith, most)

-- ---- over a run

module _ (cluster : Cluster) (inputs : List NodeInput) where
  -- what is told is given out
  pub record IsStated (last : List NodeInput) (id : ℕ) (final : Final) : Type 0 where
    pub outputs : Outputs
    pub among : In outputs (cluster_outputs cluster last)
    pub states : StatesFinal outputs id final

  -- and so is what was given out before
  pub given_before : (events : List Event) (last : List NodeInput) → ReachesBy cluster inputs events last → (outputs : Outputs) →
      In outputs (cluster_outputs cluster inputs) → In outputs (cluster_outputs cluster last)
  given_before events last r outputs among =
      let way = goes_on_by cluster inputs events last r in
      let since = outputs_since cluster way.newer inputs in
      subst (In outputs) (sym (ap (cluster_outputs cluster) way.split ∙ since.1)) (in_right outputs since.0 (cluster_outputs cluster inputs) among)

  pub stated : (events : List Event) (last : List NodeInput) → ReachesBy cluster inputs events last → (event : Event) → In event events →
      (id : ℕ) (final : Final) → StatesFinal (told_by event) id final → IsStated last id final
  stated events last r (Tried step (Ok given)) among id final says =
      let it = given_in cluster inputs events last r step given among in
      record { outputs = it.outputs; among = it.among; states = states_given given it.outputs it.is id final says }
  stated events last r (Tried step (Err fault)) among id final says = absurd (states_nothing id final says)
  stated events last r StartedOver among id final says = absurd (states_nothing id final says)
  stated events last r (HaltedOver count fault) among id final says = absurd (states_nothing id final says)

  pub one_fate : (events : List Event) (last : List NodeInput) → ReachesBy cluster inputs events last → MayHappen cluster last →
      HasOneFate (answers_in events)
  one_fate events last r may one other id first second among also says tells =
      let event = tried_of events one among in
      let another = tried_of events other also in
      let here = stated events last r (Tried event.0 one) event.1 id first says in
      let there = stated events last r (Tried another.0 other) another.1 id second tells in
      one_final cluster last may here.outputs there.outputs id first second here.among there.among here.states there.states

  -- after one of the events nothing is granted of a message of which a final state was given out before it
  pub grants_none_behind : (before : List Event) (step : Step) (granting : Answer) (after : List Event) (last : List NodeInput) →
      ReachesBy cluster inputs (before ++ Tried step granting ∷ after) last → MayHappen cluster last → (id : ℕ) (final : Final) →
      ((mid : List NodeInput) → ReachesBy cluster inputs before mid → IsStated mid id final) → GrantsOut (told_in granting) id → ⊥
  grants_none_behind before step (Ok given) after last r may id final says grants =
      let it = until cluster inputs before (Tried step (Ok given)) after last r in
      let next = it.goes_on.0 in
      let way = goes_on_by cluster (next ∷ it.mid) after last it.goes_on.4 in
      let said = says it.mid it.reaches in
      let since = outputs_since cluster way.newer (next ∷ it.mid) in
      no_grant cluster last may said.outputs (outputs_at cluster it.mid next) id final
      (record { newer = since.0; older = cluster_outputs cluster it.mid; split = ap (cluster_outputs cluster) way.split ∙ since.1; before = said.among })
      said.states (grants_given given (outputs_at cluster it.mid next) it.goes_on.3 id grants)
  grants_none_behind before step (Err fault) after last r may id final says grants = grants_nothing id grants

  pub grants_none : (events : List Event) (last : List NodeInput) → ReachesBy cluster inputs events last → MayHappen cluster last →
      GrantsNoneAfterAFate (answers_in events)
  grants_none events last r may telling granting id final came says grants =
      let cut = events_cut events came.older granting came.newer came.split in
      let by = subst (λ (es : List Event). ReachesBy cluster inputs es last) cut.split r in
      let told = tried_of cut.before telling (subst (In telling) (sym cut.are) came.before) in
      grants_none_behind cut.before cut.step granting cut.after last by may id final
      (λ mid reaches. stated cut.before mid reaches (Tried told.0 telling) told.1 id final says) grants
