-- What a journal tells, as a run of its cluster.
use Rattle.std.proofs.Common.{◌≡◌, ℕ, ◌+◌, ◌≤◌, Bool, true, false, List, [], ◌∷◌, ◌++◌, Option, Some, None, Ok, refl, sym, ap, subst, ◌∙◌, inl, inr}
use Rattle.std.proofs.Common.{append_assoc, arith}
use Rattle.std.specs.Prelude.{map, if◌then◌else◌}
use Rattle.std.proofs.lemmas.List.{append-nil, map-append}
use Rattle.std.proofs.lemmas.List.Concat.{flat_map-append}
use Rattle.mc_model.specs.message.Decree.{Decree, Deleted, Delivered, Final}
use Rattle.mc_model.specs.synod.Lists.{In}
use Rattle.mc_model.specs.synod.Packet.{Packet, Slot, slot_of}
use Rattle.mc_model.specs.node.Input.{Crash}
use Rattle.mc_model.specs.node.Outputs.{Outputs}
use Rattle.mc_model.specs.node.Replies.{Accepted, Answer as Told, Removed, Shown, Unknown}
use Rattle.mc_model.specs.node.Setup.{Setup}
use Rattle.mc_model.specs.cluster.Steps.{Cluster, setup_of}
use Rattle.mc_parts.proofs.Membership.{in_either, in_left}
use Rattle.node_model.specs.Kept.{Kept}
use Rattle.node_model.specs.Outputs.{nothing}
use Rattle.node_model.specs.Stepped.{stepped, stepped_down, stepped_up}
use Rattle.node_laws.specs.Chosen.{WasVotedFor}
use Rattle.node_laws.specs.Clusters.{MayHappen, NodeInput, StatesFinal, cluster_outputs, kept_reached, outputs_at, receipts_given, step_at}
use Rattle.node_laws.specs.GivenOut.{Cancels}
use Rattle.node_laws.proofs.cluster.Delivered.{delivered}
use Rattle.node_laws.proofs.cluster.GivenOut.{cancels_delete}
use Rattle.node_laws.proofs.cluster.OneReceipt.{count_both, count_of}
use Rattle.node_laws.proofs.cluster.Sources.{may_until}
use Rattle.node_laws.proofs.cluster.Stated.{one_final}
use Rattle.delivery.specs.declared.outcome.Outcome.TheVariants as outcomes
use Rattle.node_core.specs.Stops.{is_after}
use Rattle.world_runs.specs.Given.{Given}
use Rattle.world_runs.specs.Step.{Step}
use Rattle.world_runs.specs.Step.TheVariants as steps
use Rattle.world_runs.specs.Runs.{IsGiven, given_out}
use Rattle.world_runs.specs.Taking.{node_at}
use Rattle.world_runs.specs.Traces.{Answer, Event, Reaches, Tried, answers_in, events_of, told_in}
use Rattle.world_runs.specs.Traces.{IsAnsweredLater as IsEventAnswered, StandsOnAnAttempt as EventsStand}
use Rattle.world_runs.proofs.Asking.{messages_are_known, queries_are_told}
use Rattle.world_runs.proofs.Events.{ReachesBy, given_in, goes_on_by, reached_by}
use Rattle.world_runs.proofs.Refusing.{ids_not_refused}
use Rattle.world_runs.proofs.Standing.{deliveries_stand}
use Rattle.world_runs.proofs.Telling.{all_receipts_stand as receipts_stand_all}
use Rattle.world_runs.proofs.Tracing.{IsStated, given_before, grants_none_behind, one_in_run, states_given, states_nothing, states_so}
use Rattle.world_runs.proofs.Voting.{chosen_before}
use Rattle.journal_laws.specs.Journals.{Done, Entry, IsJournal, RunsOn, Unfinished, answers_given, done_in, steps_done, steps_for, stop_of}
use Rattle.journal_laws.specs.Telling.{AcceptedAreKnown, AllReceiptsStand, AreChosen, CancelsTellDeleted, DeliveriesStand, DeliveriesStandInTheRun}
use Rattle.journal_laws.specs.Telling.{GrantNoneAfterACancel, GrantNoneAfterAFate, IdsAreNotRefusedAtOnce, IsAnsweredLater, KeepsItsPromises}
use Rattle.journal_laws.specs.Telling.{LaterQueriesAreTold, StandsOnAnAttempt, TellOneFate, TellOneReceipt, told_by, told_so_far}
use Rattle.journal_laws.specs.Joining.{IsCut}
use Rattle.journal_laws.proofs.Entries.{IsNoStop, before_it, done_at, events_tried, found, front_of, lives_by, lives_tried}
use Rattle.journal_laws.proofs.Entries.{tried, tried_among, tried_in}
use Rattle.journal_laws.proofs.Joining.{cut}
use Rattle.journal_laws.proofs.Running.{runs_on}

abbrev answer : Done → Answer
answer done = Ok done.given

answers_all : (taken : List Done) → answers_in (map tried taken) ≡ map answer taken
answers_all [] = refl
answers_all (done ∷ later) = ap (λ (answers : List Answer). answer done ∷ answers) (answers_all later)

-- ---- receipts

module _ (id : ℕ) where
  -- how many of a message these steps told
  abbrev told_of : List Done → ℕ
  told_of taken = count_of id (receipts_given (map told_in (map answer taken)))

  -- and how many these entries tell
  abbrev entries_tell : List Entry → ℕ
  entries_tell entries = count_of id (receipts_given (map told_by entries))

  one_more : (done : Done) (taken : List Done) → told_of (done ∷ taken) ≡ count_of id (given_out done.given).receipts + told_of taken
  one_more done taken = count_both id (given_out done.given).receipts (receipts_given (map told_in (map answer taken)))

  -- an entry that names an unfinished save stands for two steps
  entry_told : (done : Done) (save : Option Unfinished) (taken : List Done) →
      count_of id (given_out done.given).receipts + told_of taken ≤ told_of (steps_for done save ++ taken)
  entry_told done None taken = let one = one_more done taken in omega (arith, one)
  entry_told done (Some save) taken =
      let one = one_more done taken in
      let stop = one_more (stop_of done save) (done ∷ taken) in
      omega (arith, one, stop)

  all_told : (entries : List Entry) → entries_tell entries ≤ told_of (done_in entries)
  all_told [] = omega arith
  all_told (entry ∷ entries) =
      let here : entries_tell (entry ∷ entries) ≡ count_of id (given_out entry.done.given).receipts + entries_tell entries =
      count_both id (given_out entry.done.given).receipts (receipts_given (map told_by entries)) in
      let first = entry_told entry.done entry.unfinished (done_in entries) in
      let later = all_told entries in
      omega (arith, here, first, later)

-- a stop gives nothing out
stop_quiet : (setup : Setup) (k : Kept) (packet : Packet) (after : Bool) → (stepped setup k (Crash packet after)).outputs ≡ nothing
stop_quiet setup k packet after = by_up k.up refl
  where
    by_up : (up : Bool) → k.up ≡ up → (stepped setup k (Crash packet after)).outputs ≡ nothing
    by_up true up =
        ap (λ (b : Bool). (if b then stepped_up setup k (Crash packet after) else stepped_down setup k (Crash packet after)).outputs) up
    by_up false up =
        ap (λ (b : Bool). (if b then stepped_up setup k (Crash packet after) else stepped_down setup k (Crash packet after)).outputs) up

-- ---- the first entry of a journal

-- by what it gave its final state was told
pub record IsTelling (cluster : Cluster) (mid : List NodeInput) (done : Done) : Type 0 where
  pub next : NodeInput
  pub may : MayHappen cluster (next ∷ mid)
  pub gives : IsGiven done.given (step_at cluster (kept_reached cluster mid) next).outputs

module _ (cluster : Cluster) (behind : List Packet) (mid : List NodeInput) (done : Done) where
  abbrev ReachesFirst : Option Unfinished → List Done → List NodeInput → Type 0
  ReachesFirst save newer last =
      Reaches cluster behind mid (map (λ one. one.step) (steps_for done save ++ newer)) (map answer (steps_for done save ++ newer)) last

  -- an entry that names an unfinished save tells of none
  quiet_if_unfinished : (save : Unfinished) (newer : List Done) (last : List NodeInput) → ReachesFirst (Some save) newer last → given_out done.given ≡ nothing
  quiet_if_unfinished save newer last r =
      let w = kept_reached cluster mid in
      let node = node_at done.step in
      r.3.others
      ∙ ap (λ (next : NodeInput). record (step_at cluster w next).outputs { packets = [] }) r.2.2
      ∙ ap (λ (o : Outputs). record o { packets = [] }) (stop_quiet (setup_of cluster node) (w.kept node) r.2.0 (is_after save.found))

  telling_plainly : (save : Option Unfinished) (newer : List Done) (last : List NodeInput) → ReachesFirst save newer last → (id : ℕ) (final : Final) →
      StatesFinal (given_out done.given) id final → save ≡ None
  telling_plainly None newer last r id final says = refl
  telling_plainly (Some save) newer last r id final says =
      absurd (states_nothing id final (subst (λ (o : Outputs). StatesFinal o id final) (quiet_if_unfinished save newer last r) says))

  telling_first : (save : Option Unfinished) (newer : List Done) (last : List NodeInput) → ReachesFirst save newer last → MayHappen cluster last →
      save ≡ None → IsTelling cluster mid done
  telling_first None newer last r may plain =
      let taken = map (λ one. one.step) newer in
      let gave = map answer newer in
      let more = goes_on_by cluster (r.0 ∷ mid) (events_of taken gave) last (reached_by cluster behind (r.0 ∷ mid) taken gave last r.4) in
      record { next = r.0; may = may_until cluster more.newer (r.0 ∷ mid) (subst (MayHappen cluster) more.split may); gives = r.3 }
  telling_first (Some save) newer last r may plain = absurd cc

-- ---- an attempt among entries

grant_no_stop : (node id : ℕ) → IsNoStop (steps.Grant node id)
grant_no_stop node id other number at same = cc

answer_no_stop : (node : ℕ) (slot : Slot) → IsNoStop (steps.Answered node slot outcomes.Delivered)
answer_no_stop node slot other number at same = cc

stands_among : (entries : List Entry) (id : ℕ) (chain : List Decree) → EventsStand id chain (tried_in entries) → StandsOnAnAttempt id chain entries
stands_among entries id chain it =
    let node = it.attempt.author.node in
    let slot = slot_of id (it.attempt ∷ it.older) in
    let o = it.order in
    let g = found entries o.older (steps.Grant node id) it.granted.given (o.middle ++ it.answering ∷ o.newer) (grant_no_stop node id)
    (o.split ∙ ap (λ (event : Event). o.older ++ event ∷ (o.middle ++ it.answering ∷ o.newer)) it.granted.is) in
    let a = found g.newer o.middle (steps.Answered node slot outcomes.Delivered) it.answered.given o.newer (answer_no_stop node slot)
    (g.after_is ∙ ap (λ (event : Event). o.middle ++ event ∷ o.newer) it.answered.is) in
    record {
      fate = it.fate;
      attempt = it.attempt;
      older = it.older;
      number = it.number;
      chain_is = it.chain_is;
      attempted = it.attempted;
      delivered = it.delivered;
      author = it.author;
      granting = g.entry;
      grant = g.step_is;
      granted = ap (λ (given : Given). (given_out given).granted) g.given_is ∙ it.granted.granted;
      answering = a.entry;
      answer = a.step_is;
      order = record {
        older = g.older;
        middle = a.older;
        newer = a.newer;
        split = g.split ∙ ap (λ (later : List Entry). g.older ++ g.entry ∷ later) a.split;
        lives = lives_by node a.older
            (λ event among. o.lives event (subst (In event) a.before_is (in_left event (tried_in a.older) (map tried (before_it a.entry)) among)));
      };
    }

-- ---- what was told

-- by one of these entries
record IsToldBy (entries : List Entry) (outputs : Outputs) : Type 0 where
  entry : Entry
  among : In entry entries
  is : told_by entry ≡ outputs

told_from : (entries : List Entry) (outputs : Outputs) → In outputs (map told_by entries) → IsToldBy entries outputs
told_from [] outputs none = absurd none
told_from (first ∷ entries) outputs (inl same) = record { entry = first; among = inl refl; is = sym same }
told_from (first ∷ entries) outputs (inr later) =
    let it = told_from entries outputs later in record { entry = it.entry; among = inr it.among; is = it.is }

-- stays so behind more of them
told_still : (cluster : Cluster) (inputs : List NodeInput) (older newer : List Entry) (outputs : Outputs) →
    In outputs (told_so_far cluster inputs older) → In outputs (told_so_far cluster inputs (older ++ newer))
told_still cluster inputs older newer outputs among =
    subst (In outputs)
    (append_assoc (cluster_outputs cluster inputs) (map told_by older) (map told_by newer)
    ∙ ap (λ (told : List Outputs). cluster_outputs cluster inputs ++ told) (sym (map-append told_by older newer)))
    (in_left outputs (told_so_far cluster inputs older) (map told_by newer) among)

-- ---- a journal

module _ (cluster : Cluster) (behind : List Packet) (inputs : List NodeInput) (entries : List Entry) (ends : ℕ → Kept)
    (is : IsJournal cluster behind inputs entries ends) where
  way : RunsOn cluster behind inputs entries ends
  way = runs_on cluster behind inputs entries ends is

  reaches : ReachesBy cluster inputs (tried_in entries) way.last
  reaches = subst (λ (events : List Event). ReachesBy cluster inputs events way.last) (events_tried entries)
      (reached_by cluster behind inputs (steps_done entries) (answers_given entries) way.last way.reaches)

  -- what was told so far is given out wherever the run goes on by more events
  pub record IsGivenIn (at : List NodeInput) (outputs : Outputs) : Type 0 where
    pub same : Outputs
    pub among : In same (cluster_outputs cluster at)
    pub replies : same.replies ≡ outputs.replies
    pub receipts : same.receipts ≡ outputs.receipts

  given_so_far : (older : List Entry) (more : List Event) (at : List NodeInput) → ReachesBy cluster inputs (tried_in older ++ more) at →
      (outputs : Outputs) → In outputs (told_so_far cluster inputs older) → IsGivenIn at outputs
  given_so_far older more at r outputs among = elim (in_either outputs (cluster_outputs cluster inputs) (map told_by older) among) [
    | inl before ↦ record {
      same = outputs;
      among = given_before cluster inputs (tried_in older ++ more) at r outputs before;
      replies = refl;
      receipts = refl;
    }
    | inr told ↦
        let it = told_from older outputs told in
        let entry = tried it.entry.done in
        let out = given_in cluster inputs (tried_in older ++ more) at r it.entry.done.step it.entry.done.given
        (in_left entry (tried_in older) more (tried_among older it.entry it.among)) in
        record {
          same = out.outputs;
          among = out.among;
          replies = sym (ap (λ (o : Outputs). o.replies) out.is.others) ∙ ap (λ (o : Outputs). o.replies) it.is;
          receipts = sym (ap (λ (o : Outputs). o.receipts) out.is.others) ∙ ap (λ (o : Outputs). o.receipts) it.is;
        }
  ]

  stated_so_far : (older : List Entry) (more : List Event) (at : List NodeInput) → ReachesBy cluster inputs (tried_in older ++ more) at →
      (outputs : Outputs) → In outputs (told_so_far cluster inputs older) → (id : ℕ) (final : Final) → StatesFinal outputs id final →
      IsStated cluster inputs at id final
  stated_so_far older more at r outputs among id final says =
      let it = given_so_far older more at r outputs among in
      record { outputs = it.same; among = it.among; states = states_so outputs it.same it.replies it.receipts id final says }

  reaches_all : ReachesBy cluster inputs (tried_in entries ++ []) way.last
  reaches_all = subst (λ (events : List Event). ReachesBy cluster inputs events way.last) (sym (append-nil (tried_in entries))) reaches

  stated_in_all : (outputs : Outputs) → In outputs (told_so_far cluster inputs entries) → (id : ℕ) (final : Final) → StatesFinal outputs id final →
      IsStated cluster inputs way.last id final
  stated_in_all = stated_so_far entries [] way.last reaches_all

  pub tells_one_fate : TellOneFate cluster inputs entries
  tells_one_fate one other id first second among also says tells =
      let here = stated_in_all one among id first says in
      let there = stated_in_all other also id second tells in
      one_final cluster way.last way.may here.outputs there.outputs id first second here.among there.among here.states there.states

  pub tells_one_receipt : TellOneReceipt cluster inputs entries
  tells_one_receipt id =
      let before = cluster_outputs cluster inputs in
      let both : count_of id (receipts_given (before ++ map told_by entries)) ≡ count_of id (receipts_given before) + entries_tell id entries =
      ap (count_of id) (flat_map-append (λ (outputs : Outputs). outputs.receipts) before (map told_by entries))
      ∙ count_both id (receipts_given before) (receipts_given (map told_by entries)) in
      let told : count_of id (receipts_given (map told_in (answers_in (tried_in entries)))) ≡ told_of id (done_in entries) =
      ap (λ (answers : List Answer). count_of id (receipts_given (map told_in answers))) (answers_all (done_in entries)) in
      let most = one_in_run cluster inputs (tried_in entries) way.last reaches way.may id in
      let within = all_told id entries in
      omega (arith, both, told, most, within)

  pub grants_nothing_after : GrantNoneAfterAFate cluster inputs entries
  grants_nothing_after older granting newer telling id final split among says grants =
      let by = subst (λ (events : List Event). ReachesBy cluster inputs events way.last) (ap tried_in split ∙ done_at tried older granting newer) reaches in
      grants_none_behind cluster inputs (tried_in older ++ map tried (before_it granting)) granting.done.step (Ok granting.done.given) (tried_in newer)
      way.last by way.may id final
      (λ mid r. stated_so_far older (map tried (before_it granting)) mid r telling among id final says) grants

  -- ---- a message that is cancelled

  pub cancels_tell_deleted : CancelsTellDeleted cluster inputs entries
  cancels_tell_deleted outputs id among cancels =
      let it = given_so_far entries [] way.last reaches_all outputs among in
      let there : Cancels it.same id = record {
        ticket = cancels.ticket;
        chain = cancels.chain;
        among = subst (In (record { ticket = cancels.ticket; id = id; answer = Removed cancels.chain })) (sym it.replies) cancels.among;
      } in
      states_so it.same outputs (sym it.replies) (sym it.receipts) id Deleted (cancels_delete cluster way.last way.may it.same id it.among there)

  pub grants_none_after_a_cancel : GrantNoneAfterACancel cluster inputs entries
  grants_none_after_a_cancel older granting newer cancelling id split among cancels =
      let all = told_still cluster inputs older (granting ∷ newer) cancelling among in
      let here = subst (λ (es : List Entry). In cancelling (told_so_far cluster inputs es)) (sym split) all in
      grants_nothing_after older granting newer cancelling id Deleted split among (cancels_tell_deleted cancelling id here cancels)

  pub all_receipts_stand : AllReceiptsStand entries
  all_receipts_stand entry among =
      receipts_stand_all cluster inputs (tried_in entries) way.last reaches way.may entry.done.step entry.done.given (tried_among entries entry among)

  -- an entry that is answered later is so among the events
  answered_later : (older : List Entry) (id : ℕ) (told : Told) (it : IsAnsweredLater entries older id told) →
      IsEventAnswered (tried_in entries) (tried_in older ++ map tried (before_it it.asking)) id told
  answered_later older id told it = record {
    node = it.node;
    ticket = it.ticket;
    asking = tried it.asking.done;
    waits = record {
      account = it.account;
      request = it.request;
      given = it.asking.done.given;
      is = λ i. Tried (it.asked i) (Ok it.asking.done.given);
      under = it.under;
    };
    middle = tried_in it.middle ++ map tried (before_it it.replying);
    lives = lives_tried it.node it.middle it.replying it.lives;
    step = it.replying.done.step;
    replying = answer it.replying.done;
    node_is = it.node_is;
    replied = it.replied;
    newer = tried_in it.newer;
    split =
        ap tried_in it.split
        ∙ done_at tried older it.asking (it.middle ++ it.replying ∷ it.newer)
        ∙ ap (λ (events : List Event). (tried_in older ++ map tried (before_it it.asking)) ++ tried it.asking.done ∷ events)
        (done_at tried it.middle it.replying it.newer);
  }

  pub queries_told : LaterQueriesAreTold cluster inputs entries
  queries_told older telling id chain final among says it =
      queries_are_told cluster inputs (tried_in entries) way.last reaches way.may (tried_in older ++ map tried (before_it it.asking)) id chain final
      (λ mid r. stated_so_far older (map tried (before_it it.asking)) mid r telling among id final says) (answered_later older id (Shown chain) it)

  pub ids_known : IdsAreNotRefusedAtOnce entries
  ids_known entry node account request id among step_is =
      ids_not_refused cluster inputs (tried_in entries) way.last reaches node account request entry.done.given id
      (subst (λ (step : Step). In (Tried step (Ok entry.done.given)) (tried_in entries)) step_is (tried_among entries entry among))

  pub accepted_known : AcceptedAreKnown cluster inputs entries
  accepted_known older accepting taken id among accepts it =
      messages_are_known cluster inputs (tried_in entries) way.last reaches way.may (tried_in older ++ map tried (before_it it.asking)) taken id
      (λ mid r.
      let out = given_so_far older (map tried (before_it it.asking)) mid r accepting among in
      record {
        outputs = out.same;
        among = out.among;
        accepts = subst (In (record { ticket = taken; id = id; answer = Accepted })) (sym out.replies) accepts;
      })
      (answered_later older id Unknown it)

  -- ---- where a final state is told

  module _ (older : List Entry) (telling : Entry) (newer : List Entry) (id : ℕ) (final : Final) (split : entries ≡ older ++ telling ∷ newer)
      (says : StatesFinal (told_by telling) id final) where
    parts : IsCut cluster behind inputs older (telling ∷ newer) ends
    parts = cut cluster behind inputs older (telling ∷ newer) ends (subst (λ (es : List Entry). IsJournal cluster behind inputs es ends) split is)

    rest : RunsOn cluster behind parts.way.last (telling ∷ newer) ends
    rest = runs_on cluster behind parts.way.last (telling ∷ newer) ends parts.rest

    plain : telling.unfinished ≡ None
    plain = telling_plainly cluster behind parts.way.last telling.done telling.unfinished (done_in newer) rest.last rest.reaches id final says

    first : IsTelling cluster parts.way.last telling.done
    first = telling_first cluster behind parts.way.last telling.done telling.unfinished (done_in newer) rest.last rest.reaches rest.may plain

    front_none : map tried (before_it telling) ≡ []
    front_none = ap (λ (save : Option Unfinished). map tried (front_of telling.done save)) plain

  pub all_chosen : AreChosen cluster.nodes (kept_reached cluster inputs).packets entries
  all_chosen older telling newer id final split says =
      let mid = (parts older telling newer id final split says).way in
      let it = first older telling newer id final split says in
      subst (λ (packets : List Packet). WasVotedFor cluster.nodes packets id says.chain) mid.packets
      (chosen_before cluster it.next mid.last it.may id final (states_given telling.done.given (outputs_at cluster mid.last it.next) it.gives id final says))

  pub deliveries_stand_in_the_run : DeliveriesStandInTheRun cluster behind inputs entries
  deliveries_stand_in_the_run older telling newer id split says =
      let front = parts older telling newer id Delivered split says in
      let it = first older telling newer id Delivered split says in
      record {
        ends = front.middles;
        way = front.way;
        stands = delivered cluster it.next front.way.last it.may id
            (states_given telling.done.given (outputs_at cluster front.way.last it.next) it.gives id Delivered says);
      }

-- if all stores were new
module _ (cluster : Cluster) (behind : List Packet) (entries : List Entry) (ends : ℕ → Kept) (is : IsJournal cluster behind [] entries ends) where
  pub all_deliveries_stand : DeliveriesStand entries
  all_deliveries_stand older telling newer id split says =
      let whole = way cluster behind [] entries ends is in
      let front = map tried (before_it telling) in
      let stand = deliveries_stand cluster (tried_in entries) whole.last (reaches cluster behind [] entries ends is) whole.may (tried_in older ++ front)
      (tried telling.done) (tried_in newer) id (ap tried_in split ∙ done_at tried older telling newer) says in
      stands_among older id says.chain
      (subst (EventsStand id says.chain)
      (ap (λ (events : List Event). tried_in older ++ events) (front_none cluster behind [] entries ends is older telling newer id Delivered split says)
      ∙ append-nil (tried_in older))
      stand)

-- ---- all of it

module _ (cluster : Cluster) (behind : List Packet) (inputs : List NodeInput) (entries : List Entry) (ends : ℕ → Kept)
    (is : IsJournal cluster behind inputs entries ends) where
  pub keeps_promises : KeepsItsPromises cluster behind inputs entries
  keeps_promises = record {
    fate = tells_one_fate cluster behind inputs entries ends is;
    receipts = tells_one_receipt cluster behind inputs entries ends is;
    grants = grants_nothing_after cluster behind inputs entries ends is;
    cancels = cancels_tell_deleted cluster behind inputs entries ends is;
    cancelled = grants_none_after_a_cancel cluster behind inputs entries ends is;
    stand = all_receipts_stand cluster behind inputs entries ends is;
    chosen = all_chosen cluster behind inputs entries ends is;
    deliveries = deliveries_stand_in_the_run cluster behind inputs entries ends is;
    deliveries_here = λ none. all_deliveries_stand cluster behind entries ends
        (subst (λ (ins : List NodeInput). IsJournal cluster behind ins entries ends) none is);
    queries = queries_told cluster behind inputs entries ends is;
    accepted = accepted_known cluster behind inputs entries ends is;
    at_once = ids_known cluster behind inputs entries ends is;
  }
