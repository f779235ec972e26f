-- Each query_sm that comes after a final state of its message was printed is told that state.
use Rattle.std.proofs.Common.{◌≡◌, ◌⊎◌, ℕ, ◌<◌, ◌^◌, ◌≤◌, List, [], ◌∷◌, ◌++◌, Option, Some, None, refl, sym, ◌∙◌, ap, subst, inl, inr, append-nil}
use Rattle.std.specs.Fmt.{decimal}
use Rattle.std.specs.List.{AllByRecursion}
use Rattle.std.proofs.lemmas.Fmt.{decimal_injective}
use Rattle.mc_model.specs.message.Chain.{final_in}
use Rattle.mc_model.specs.message.Decree.{Decree, Final}
use Rattle.mc_model.specs.synod.Lists.{In}
use Rattle.mc_model.specs.node.Actor.{Cancel, Query, Request, Submit, id_in}
use Rattle.mc_model.specs.node.Input.{Input}
use Rattle.mc_model.specs.node.Outputs.{Outputs, Reply}
use Rattle.mc_model.specs.node.Replies.{Accepted, Answer, Kept as Keeps, NotMatched, NotOwner, Removed, Shown, TooLate, Unknown}
use Rattle.mc_model.specs.cluster.Steps.{Cluster}
use Rattle.node_model.specs.Kept.{Kept}
use Rattle.node_laws.specs.Clusters.{MayHappen, NodeInput, StatesFinal, cluster_outputs, comes_to, kept_reached, outputs_at}
use Rattle.node_laws.proofs.cluster.Fresh.{fresh}
use Rattle.pdu_bodies.specs.declared.pdu.Pdu.{Pdu}
use Rattle.pdu_tables.specs.StateCodes.{state_code}
use Rattle.fate_chain.specs.States.{state_of}
use Rattle.sessions.specs.declared.request.OpenRequest.{OpenRequest}
use Rattle.sessions.specs.declared.requested.Requested.{Requested}
use Rattle.script_text.specs.Laws.{StatesFate, TellsState}
use Rattle.script_text.specs.Node.{Node}
use Rattle.script_text.specs.Prints.{Late, Print}
use Rattle.script_text.specs.Responses.{reply_pdu}
use Rattle.script_text.specs.Runner.{Runner}
use Rattle.script_text.specs.Settings.{Settings}
use Rattle.script_text.specs.Prints.{At, WorldPrint}
use Rattle.script_text.specs.Script.{Joins, Stage}
use Rattle.script_text.specs.World.{World, runner_at}
use Rattle.world_fates.proofs.node.Behind.{input_to}
use Rattle.world_fates.proofs.node.Once.{of_all}
use Rattle.world_fates.proofs.node.StepsOut.{step_now}
use Rattle.world_fates.proofs.node.Telling.{reply_is_told}
use Rattle.world_fates.proofs.node.Tellings.{by_node}
use Rattle.world_fates.specs.Questions.{AnswersWhatWaited, AsksState}
use Rattle.world_fates.proofs.Worlds.{WorldStands, one_of_many, told_by, told_by_all}
use Rattle.world_fates.proofs.Printing.{JoinsSo, WorldSo, first_so, joined_so}
use Rattle.world_fates.proofs.Given.{GivenFrom, given_takes, given_telling, given_then_so}
use Rattle.world_fates.proofs.Named.{IsNamed, NamedFrom, TellsNamed, named_takes, named_telling}
use Rattle.world_fates.proofs.Asking.{AsksOn}
use Rattle.world_fates.proofs.Holding.{AnswersHeld, MayAnswer}
use Rattle.world_fates.proofs.Later.{CameOn, CameSince, ServesWell}
use Rattle.world_fates.proofs.Older.{reply_or_came}
use Rattle.world_fates.proofs.LaterLines.{lines_fine}

-- ---- what was given out first

pub given_first : (cluster : Cluster) (front first : List NodeInput) (outputs : Outputs) → In outputs (cluster_outputs cluster first) →
    In outputs (cluster_outputs cluster (front ++ first))
given_first cluster [] first outputs among = among
given_first cluster (next ∷ front) first outputs among = inr (given_first cluster front first outputs among)

-- ---- what waited

-- a request waited on a session of the node
abbrev pub Waited : World → ℕ → ℕ → OpenRequest → Type 0
Waited world node number request = (runner : Runner) × (runner_at world node ≡ Some runner) × AsksOn runner.sessions number request

pub reply_sequence : (requested : Requested) (sequence id : ℕ) (answer : Answer) → sequence ≡ (reply_pdu requested sequence id answer).sequence
reply_sequence requested sequence id Accepted = refl
reply_sequence requested sequence id (Shown chain) = refl
reply_sequence requested sequence id (Removed chain) = refl
reply_sequence requested sequence id (Keeps chain) = refl
reply_sequence requested sequence id NotOwner = refl
reply_sequence requested sequence id (NotMatched chain) = refl
reply_sequence requested sequence id Unknown = refl
reply_sequence requested sequence id TooLate = refl

-- where the inputs have led the node
abbrev pub kept_there : Cluster → ℕ → List NodeInput → Kept
kept_there cluster node past = (kept_reached cluster past).kept node

-- it waited under the ticket of a reply to a request that the node held
pub record WasOlder (cluster : Cluster) (past : List NodeInput) (world : World) (node number : ℕ) (waits : OpenRequest) (reply : Reply) : Type 0 where
  pub waited : Waited world node number waits
  pub held : AnswersHeld (kept_there cluster node past).held reply
  pub ticket_is : waits.ticket ≡ reply.ticket

-- a node of a world keeps what that of the cluster keeps
kept_same : (cluster : Cluster) (past : List NodeInput) (world : World) → WorldStands cluster past world → (node : ℕ) → 1 ≤ node → (runner : Runner) →
    runner_at world node ≡ Some runner → runner.node.kept ≡ kept_there cluster node past
kept_same cluster past world stands node least runner is =
    ap (λ (n : Node). n.kept) (stands.each node (one_of_many cluster past world stands node runner least is) runner is).at.is

pub older_answers : (cluster : Cluster) (past : List NodeInput) (world : World) → WorldStands cluster past world → (node : ℕ) → 1 ≤ node →
    (number : ℕ) (waits : OpenRequest) (reply : Reply) (print : Print) (Asks : Request → Type 0) →
    print ≡ Late number reply.id (reply_pdu waits.requested waits.sequence reply.id reply.answer) →
    (older : WasOlder cluster past world node number waits reply) → Asks older.held.request → AnswersWhatWaited Asks world node print
older_answers cluster past world stands node least number waits reply print Asks is older asks =
    let waited = older.waited in
    let under = older.held.under in
    record {
      session = number;
      id = reply.id;
      pdu = reply_pdu waits.requested waits.sequence reply.id reply.answer;
      printed = is;
      asked = record {
        runner = waited.0;
        there = waited.1;
        session = waited.2.session;
        connected = waited.2.there;
        request = waits;
        waits = waited.2.among;
        sequence_is = reply_sequence waits.requested waits.sequence reply.id reply.answer;
      };
      request = older.held.request;
      asks = asks;
      holds = record {
        one = under.one;
        among = subst (λ (k : Kept). In under.one k.held) (sym (kept_same cluster past world stands node least waited.0 waited.1)) under.among;
        ticket_is = under.ticket_is ∙ sym older.ticket_is;
        request_is = under.request_is;
      };
    }

-- what is said of requests that wait, those that waited first and those that came later
abbrev pub Saying : Cluster → ℕ → List NodeInput → (ℕ → OpenRequest → Type 0) → (ℕ → ℕ → Request → Type 0) → (ℕ → OpenRequest → Reply → Type 0) → Type 0
Saying cluster node first Before Asked Says =
    (front past : List NodeInput) → past ≡ front ++ first → (input : Input) (number : ℕ) (waits : OpenRequest) →
    Before number waits ⊎ CameOn cluster node first Asked past number waits → MayHappen cluster (input_to node input ∷ past) → (reply : Reply) →
    waits.ticket ≡ reply.ticket → In reply (step_now cluster (input_to node input) past).outputs.replies → Says number waits reply

-- where a world stands, each request that waits waited
pub waits_well : (cluster : Cluster) (past : List NodeInput) (world : World) → WorldStands cluster past world → (node : ℕ) → 1 ≤ node →
    (Asked : ℕ → ℕ → Request → Type 0) (Says : ℕ → OpenRequest → Reply → Type 0)
    (says : Saying cluster node past (Waited world node) Asked Says) →
    (runner : Runner) → runner_at world node ≡ Some runner → ServesWell cluster node past (Waited world node) Asked Says says past runner
waits_well cluster past world stands node least Asked Says says runner is =
    let stood = stands.each node (one_of_many cluster past world stands node runner least is) runner is in
    record {
      node = record {
        front = [];
        front_is = refl;
        setup = ap (λ (n : Node). n.setup) stood.at.is;
        kept = ap (λ (n : Node). n.kept) stood.at.is;
      };
      came = λ number request asks. inl (runner, is, asks);
    }

-- whatever is asked for
abbrev pub Anything : ℕ → ℕ → Request → Type 0
Anything number sequence request = Unit {0}

-- A reply answers a request that is older, or is what is said to one that came since.
abbrev pub OlderOr : (Reply → Type 0) → Cluster → List NodeInput → World → ℕ → ℕ → OpenRequest → Reply → Type 0
OlderOr Says cluster past world node number waits reply = WasOlder cluster past world node number waits reply ⊎ Says reply

abbrev pub SaysSince : Cluster → ℕ → List NodeInput → (Reply → Type 0) → Type 0
SaysSince cluster node first Says =
    (past : List NodeInput) (input : Input) (ticket : ℕ) → CameSince cluster node first past ticket → MayHappen cluster (input_to node input ∷ past) →
    (reply : Reply) → ticket ≡ reply.ticket → In reply (step_now cluster (input_to node input) past).outputs.replies → Says reply

pub older_or : (cluster : Cluster) (node : ℕ) (first : List NodeInput) (world : World) (Says : Reply → Type 0) → SaysSince cluster node first Says →
    Saying cluster node first (Waited world node) Anything (OlderOr Says cluster first world node)
older_or cluster node first world Says says front past is input number waits (inl waited) may reply same among =
    elim (reply_or_came cluster node first front past is input reply among) [
      | inl held ↦ inl (record { waited = waited; held = held; ticket_is = same })
      | inr since ↦ inr (says past input reply.ticket since may reply refl among)
    ]
older_or cluster node first world Says says front past is input number waits (inr on) may reply same among =
    inr (says past input waits.ticket on.since may reply same among)

-- ---- what is told

abbrev SaysFate : ℕ → Final → Reply → Type 0
SaysFate id final reply = reply.id ≡ id → (chain : List Decree) → reply.answer ≡ Shown chain → final_in chain ≡ Some final

pub says_fate : (cluster : Cluster) (node : ℕ) (first : List NodeInput) (outputs : Outputs) (id : ℕ) (final : Final) →
    In outputs (cluster_outputs cluster first) →
    StatesFinal outputs id final → (past : List NodeInput) (input : Input) (ticket : ℕ) → CameSince cluster node first past ticket →
    MayHappen cluster (input_to node input ∷ past) → (reply : Reply) → ticket ≡ reply.ticket →
    In reply (step_now cluster (input_to node input) past).outputs.replies → SaysFate id final reply
says_fate cluster node first outputs id final given states past input ticket since may reply same among about chain shown =
    fresh cluster (since.front ++ first) since.middle node ticket since.request input id chain outputs final
    (subst (λ (inputs : List NodeInput). MayHappen cluster (comes_to node input ∷ inputs)) since.past_is may)
    (given_first cluster since.front first outputs given) states since.given since.lives
    (subst
    (λ (inputs : List NodeInput). In (record { ticket = ticket; id = id; answer = Shown chain }) (outputs_at cluster inputs (comes_to node input)).replies)
    since.past_is (subst (λ (r : Reply). In r (outputs_at cluster past (comes_to node input)).replies) reply_is among))
  where
    reply_is : reply ≡ record { ticket = ticket; id = id; answer = Shown chain }
    reply_is = λ i. record { ticket = sym same i; id = about i; answer = shown i }

-- a state is shown to a query_sm alone
asks_state : (request : Request) (reply : Reply) (chain : List Decree) → reply.answer ≡ Shown chain → MayAnswer reply.answer request → (message_id : List ℕ) →
    decimal (id_in request) ≡ message_id → AsksState message_id request
asks_state (Query id account source) reply chain is may message_id about = about
asks_state (Submit id message) reply chain is may message_id about = absurd (subst (λ (a : Answer). MayAnswer a (Submit id message)) is may)
asks_state (Cancel id account source destination) reply chain is may message_id about =
    absurd (subst (λ (a : Answer). MayAnswer a (Cancel id account source destination)) is may)

late_id : (one other id also : ℕ) (pdu late : Pdu) → Late one id pdu ≡ Late other also late → also ≡ id
late_id one other id also pdu late is = cc

pub later_queries : (settings : Settings) (before later : List (List ℕ)) (came coming : List NodeInput) (prints others : List WorldPrint) (world : World)
    (last : Stage) (here there : ℕ) (first query : Print) (message_id : List ℕ) (one other : ℕ) →
    Joins settings None before came prints (Some world) → Joins settings (Some world) later coming others last → 1 ≤ there →
    In (At here first) prints → In (At there query) others → StatesFate first message_id one → TellsState query message_id other →
    (other ≡ one) ⊎ AnswersWhatWaited (AsksState message_id) world there query
later_queries settings before later came coming prints others world last here there first query message_id one other joins more least first_in query_in states
    tells =
    let so : WorldSo settings GivenFrom given_telling given_takes came world prints =
    first_so settings GivenFrom given_telling given_takes before came prints (Some world) joins in
    let knows = given_then_so settings came world prints so here first first_in message_id one states in
    let rest : JoinsSo so.cluster NamedFrom so.past coming others last =
    joined_so settings so.cluster NamedFrom (named_telling so.cluster) named_takes later so.past world so.stands coming others last more in
    let says = says_fate so.cluster there so.past knows.given.outputs knows.id knows.final knows.given.among knows.given.states in
    let named : IsNamed query message_id =
    of_all TellsNamed (told_by others) (by_node there query)
    (subst (AllByRecursion TellsNamed) (append-nil (told_by others)) (rest.tell [] [] tt)) (told_by_all there query others query_in) message_id other tells in
    elim (lines_fine so.cluster there least so.past (Waited world there) Anything (OlderOr (SaysFate knows.id knows.final) so.cluster so.past world there)
    (older_or so.cluster there so.past world (SaysFate knows.id knows.final) says) settings later so.past world
    (waits_well so.cluster so.past world so.stands there least Anything (OlderOr (SaysFate knows.id knows.final) so.cluster so.past world there)
    (older_or so.cluster there so.past world (SaysFate knows.id knows.final) says))
    (λ session pdu comes asked is door next account request admitted. tt) coming others last more
    (subst (MayHappen so.cluster) rest.later_is rest.stands.fit.may) query query_in) [
      | inl aside ↦ absurd (aside.state message_id other tells)
      | inr answer ↦
          let request = answer.request in
          let reply = answer.reply in
          let told = (reply_is_told answer.number request.requested request.sequence reply.id reply.answer).state message_id other
          (subst (λ (p : Print). TellsState p message_id other) answer.print_is tells) in
          elim answer.so [
            | inl older ↦ inr (older_answers so.cluster so.past world so.stands there least answer.number request reply query (AsksState message_id)
                answer.print_is older (asks_state older.held.request reply told.1.chain told.1.answer_is older.held.may message_id
                (ap decimal older.held.about ∙ told.0)))
            | inr said ↦
                let small : reply.id < 2 ^ 64 = subst (λ (i : ℕ). i < 2 ^ 64)
                (sym (late_id _ _ named.id reply.id named.pdu _ (sym named.printed ∙ answer.print_is))) named.small in
                let about : reply.id ≡ knows.id = decimal_injective reply.id knows.id small knows.small (told.0 ∙ sym knows.message) in
                inl (sym told.1.code_is
                ∙ ap (λ (f : Option Final). state_code (state_of f)) (said about told.1.chain told.1.answer_is)
                ∙ sym knows.state_is)
          ]
    ]
