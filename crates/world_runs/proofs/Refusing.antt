-- No request that names a message by its id is refused at once as one for a message that there is not.
use Rattle.std.proofs.Common.{◌≡◌, ℕ, Bool, true, false, List, [], Option, Some, None, Result, Ok, Err, refl, sym, ap, subst, ◌∙◌, arith}
use Rattle.std.specs.Prelude.{option_map, if◌then◌else◌}
use Rattle.std.specs.Str.{bytes_eq}
use Rattle.mc_model.specs.node.Actor.{Cancel, Query, Request}
use Rattle.mc_model.specs.node.Outputs.{Outputs}
use Rattle.mc_model.specs.node.Setup.{Setup}
use Rattle.mc_model.specs.cluster.Steps.{Cluster, setup_of}
use Rattle.node_model.specs.Kept.{Kept}
use Rattle.node_model.specs.Stepped.{stepped, stepped_down, stepped_up}
use Rattle.node_laws.specs.Clusters.{NodeInput, kept_reached, step_at}
use Rattle.mc_types.specs.Texts.{id_in}
use Rattle.pdu_tables.specs.StatusCodes.{status_code}
use Rattle.pdu_tables.specs.declared.status.Status.{Status}
use Rattle.pdu_tables.specs.declared.status.Status.TheVariants as statuses
use Rattle.desk.specs.Admissions.{about, admitted, asks_about}
use Rattle.desk.specs.Arrivals.{door_at, judged_as, next_id}
use Rattle.desk.specs.declared.door.Door.{Door}
use Rattle.desk.specs.declared.request.Request.{Request as Asked}
use Rattle.desk.specs.declared.request.Request.TheVariants as asked
use Rattle.world.specs.declared.given.Given.{Given}
use Rattle.world.specs.Step.{Step}
use Rattle.world.specs.Step.TheVariants as steps
use Rattle.world.specs.Runs.{Comes}
use Rattle.world_runs.specs.Tellings.{IdsAreNotRefusedAtOnce, Names}
use Rattle.world_runs.specs.Traces.{Event, Tried}
use Rattle.world_runs.proofs.Events.{ReachesBy, passed}

-- ESME_RINVMSGID
abbrev unknown : ℕ
unknown = status_code statuses.InvalidMessageId

-- one that names an id waits, or is refused for want of room
about_known : (busy : Bool) (id : ℕ) (ask : ℕ → Request) (status : Status) → asks_about ask (about busy (Some id)) ≡ Err status →
    status_code status ≡ unknown → ⊥
about_known true id ask status is code =
    let same : statuses.Throttled ≡ status = cc in
    let number : 0x58 ≡ 0x0c = ap status_code same ∙ code in
    omega (arith, number)
about_known false id ask status is code = absurd cc

named : (door : Door) (next : ℕ) (account : List ℕ) (request : Asked) (id : ℕ) → Names request id → (status : Status) →
    admitted door next account request ≡ Err status → status_code status ≡ unknown → ⊥
named door next account (asked.Submit message target) id none status is code = none
named door next account (asked.Ask query) id names status is code =
    let ask = λ (about : ℕ). Query about account query.source.digits in
    about_known door.busy id ask status (ap (λ (o : Option ℕ). asks_about ask (about door.busy o)) (sym names) ∙ is) code
named door next account (asked.Cancel cancel) id names status is code = by_test (bytes_eq cancel.message_id []) refl
  where
    ask : ℕ → Request
    ask about = Cancel about account cancel.source.digits cancel.destination.digits

    others : Result Request Status
    others = asks_about ask (about door.busy (id_in cancel.message_id))

    by_test : (b : Bool) → bytes_eq cancel.message_id [] ≡ b → ⊥
    by_test true test =
        let failed : Err statuses.CancelFailed ≡ Err status = sym (ap (λ (b : Bool). if b then Err statuses.CancelFailed else others) test) ∙ is in
        let same : statuses.CancelFailed ≡ status = cc in
        let number : 0x11 ≡ 0x0c = ap status_code same ∙ code in
        omega (arith, number)
    by_test false test =
        about_known door.busy id ask status
        (ap (λ (o : Option ℕ). asks_about ask (about door.busy o)) (sym names)
        ∙ sym (ap (λ (b : Bool). if b then Err statuses.CancelFailed else others) test)
        ∙ is)
        code

refused_for : (setup : Setup) (k : Kept) (r : Result Request Status) → (stepped setup k (judged_as r)).outputs.refused ≡ Some unknown →
    (status : Status) × (r ≡ Err status) × (status_code status ≡ unknown)
refused_for setup k r is = by_up k.up refl
  where
    by_result : (r : Result Request Status) → (stepped_up setup k (judged_as r)).outputs.refused ≡ Some unknown →
        (status : Status) × (r ≡ Err status) × (status_code status ≡ unknown)
    by_result (Ok request) is = absurd cc
    by_result (Err status) is = (status, refl, cc)

    down : (r : Result Request Status) → (stepped_down setup k (judged_as r)).outputs.refused ≡ None
    down (Ok request) = refl
    down (Err status) = refl

    by_up : (up : Bool) → k.up ≡ up → (status : Status) × (r ≡ Err status) × (status_code status ≡ unknown)
    by_up true up =
        by_result r (sym (ap (λ (b : Bool). (if b then stepped_up setup k (judged_as r) else stepped_down setup k (judged_as r)).outputs.refused) up) ∙ is)
    by_up false up =
        let none = sym (down r)
        ∙ sym (ap (λ (b : Bool). (if b then stepped_up setup k (judged_as r) else stepped_down setup k (judged_as r)).outputs.refused) up)
        ∙ is in
        absurd cc

pub ids_not_refused : (cluster : Cluster) (inputs : List NodeInput) (events : List Event) (last : List NodeInput) →
    ReachesBy cluster inputs events last → IdsAreNotRefusedAtOnce events
ids_not_refused cluster inputs events last r node account request given id among names refused =
    let it = passed cluster inputs events (Tried (steps.Request node account request) (Ok given)) last r among in
    let goes = it.until.goes_on in
    let w = kept_reached cluster it.until.mid in
    let setup = setup_of cluster node in
    let k = w.kept node in
    let gave : (step_at cluster w goes.0).outputs.refused ≡ Some unknown =
    sym (ap (λ (o : Outputs). o.refused) goes.3.others) ∙ ap (λ (o : Option Status). option_map status_code o) refused in
    let here = refused_for setup k (admitted (door_at setup k) (next_id setup k) account request)
    (sym (ap (λ (next : NodeInput). (step_at cluster w next).outputs.refused) goes.2) ∙ gave) in
    named (door_at setup k) (next_id setup k) account request id names here.0 here.1 here.2
