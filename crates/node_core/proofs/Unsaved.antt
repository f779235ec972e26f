-- Only the step of a packet changes a record.
use Rattle.std.proofs.Common.{◌≡◌, ◌≢◌, ℕ, pred, Bool, List, [], ◌∷◌, Option, Some, None, refl, sym, ap, subst, ◌∙◌}
use Rattle.std.specs.Prelude.{IsSome, Result, Ok, Err, max, if◌then◌else◌}
use Rattle.mc_model.specs.synod.Packet.{Slot}
use Rattle.mc_model.specs.node.Actor.{Request, id_in}
use Rattle.mc_model.specs.node.FirstRule.{Announce, Close, Delete, Expire, Follow, GiveUp, Lose, Rule, Take, Try, Undeliver}
use Rattle.mc_model.specs.node.Reach.{Reach}
use Rattle.mc_model.specs.node.Setup.{Setup}
use Rattle.node_model.specs.Attempts.{closed_by, concluded}
use Rattle.node_model.specs.Kept.{Kept, message_at}
use Rattle.node_model.specs.Outputs.{Stepped}
use Rattle.node_model.specs.Requests.{begun}
use Rattle.node_model.specs.Rules.{Fitting, first_rule}
use Rattle.node_model.specs.Starts.{take_for}
use Rattle.node_model.specs.Stepped.{stepped_up}
use Rattle.node_model.specs.Ticks.{given_up, ids_of, ruled, ruled_each, ticked, waits_too}
use Rattle.node_model.proofs.Stops.{started_leaves}
use Rattle.pdu_tables.specs.declared.status.Status.{Status}
use Rattle.delivery.specs.Kept.{outcome_kept}
use Rattle.node_kept.specs.Admissions.{admitted}
use Rattle.node_kept.specs.Arrivals.{door_at, judged_as, next_id}
use Rattle.node_kept.specs.Reaching.{reach_of}
use Rattle.synod_acceptor.proofs.Slots.{is_same}
use Rattle.synod_acceptor.specs.Votes.{record_of, slot_recorded}
use Rattle.synod_acceptor.specs.declared.packet.Packet.{Packet as Sent}
use Rattle.synod_acceptor.specs.declared.record.Change.{Change}
use Rattle.node_kept.specs.Input.{Input}
use Rattle.node_kept.specs.Input.TheVariants as given
use Rattle.node_kept.specs.Messages.{changed_by}
use Rattle.node_kept.specs.declared.kept.Kept.{Kept as Holding}
use Rattle.node_kept.specs.declared.step.Step.{Step}
use Rattle.node_kept.specs.Keeping.{kept_of, records_of}
use Rattle.node_kept.specs.Preparing.{IsPrepared, packet_in}
use Rattle.node_kept.specs.Steps.{Alters, IsStep}

-- ---- what leaves the records

given_up_leaves : (rule : Rule) (k : Kept) (id place : ℕ) → (given_up rule k id place).records ≡ k.records
given_up_leaves Take k id place = refl
given_up_leaves Follow k id place = refl
given_up_leaves Close k id place = refl
given_up_leaves Lose k id place = refl
given_up_leaves GiveUp k id place = refl
given_up_leaves Delete k id place = refl
given_up_leaves Expire k id place = refl
given_up_leaves Undeliver k id place = refl
given_up_leaves Try k id place = refl
given_up_leaves Announce k id place = refl

ruled_leaves : (setup : Setup) (k : Kept) (id : ℕ) (fitting : Option Fitting) → (ruled setup k id fitting).kept.records ≡ k.records
ruled_leaves setup k id None = refl
ruled_leaves setup k id (Some fit) =
    started_leaves setup (given_up fit.rule k id (pred fit.start.place)) id (Some fit.start)
    ∙ given_up_leaves fit.rule k id (pred fit.start.place)

each_leaves : (setup : Setup) (reach : Reach) (ids : List ℕ) (k : Kept) → (ruled_each setup reach ids k).kept.records ≡ k.records
each_leaves setup reach [] k = refl
each_leaves setup reach (id ∷ others) k =
    let fitting = first_rule setup k reach id in each_leaves setup reach others (ruled setup k id fitting).kept ∙ ruled_leaves setup k id fitting

request_leaves : (setup : Setup) (k : Kept) (judged : Result Request Status) → (stepped_up setup k (judged_as judged)).kept.records ≡ k.records
request_leaves setup k (Ok request) =
    let new = begun k.ticket k.clock request in started_leaves setup (waits_too k request new) (id_in request) (take_for setup k new request)
request_leaves setup k (Err status) = refl

-- ---- a change

-- a step with a change leaves other records
pub altered : (k : Holding) (to : Stepped) (step : Step) (change : Change) → IsStep k to step → step.next.change ≡ Some change →
    ((slot : Slot) → to.kept.records slot ≡ records_of k.messages.entries slot) → ⊥
altered k to step change is some same =
    let records = records_of k.messages.entries in
    let slot = slot_recorded change.after in
    let alters : record_of change.after ≢ records slot = subst (λ (c : Option Change). Alters c records) some is.alters in
    let after : record_of change.after ≡ to.kept.records slot =
    sym (ap (λ (b : Bool). if b then record_of change.after else records slot) (is_same slot slot refl))
    ∙ sym (ap (λ (c : Option Change). changed_by c records slot) some)
    ∙ sym (is.saves slot)
    ∙ ap (λ (kept : Kept). kept.records slot) is.kept in
    alters (after ∙ same slot)

-- so it is the step of a packet
pub record IsOfPacket (input : Input) (unfinished : Option Sent) : Type 0 where
  pub packet : Sent
  pub came : input ≡ given.Packet packet
  pub is : unfinished ≡ Some packet

pub saves_for : (k : Holding) (input : Input) (step : Step) (packet : Option Sent) (change : Change) → IsPrepared k input step packet →
    step.next.change ≡ Some change → IsOfPacket input packet
saves_for k (given.Packet packet) step unfinished change is some = record { packet = packet; came = refl; is = is.came }
saves_for k (given.Request account request) step unfinished change is some =
    let judged = admitted (door_at k.setup (kept_of k)) (next_id k.setup (kept_of k)) account request in
    absurd (altered k _ step change is.is.is some (λ slot. ap (λ records. records slot) (request_leaves k.setup (kept_of k) judged)))
saves_for k (given.Grant id) step unfinished change is some = absurd (altered k _ step change is.is.is some (λ slot. refl))
saves_for k (given.Answered slot outcome) step unfinished change is some =
    let kept = closed_by (kept_of k) slot (outcome_kept outcome) in
    let start = concluded k.setup (kept_of k) slot (outcome_kept outcome) (message_at (kept_of k) slot.id).known in
    absurd (altered k _ step change is.is.is some (λ other. ap (λ records. records other) (started_leaves k.setup kept slot.id start)))
saves_for k (given.Tick moment reach) step unfinished change is some =
    let kept = ticked (kept_of k) (max k.clock moment) in
    absurd (altered k _ step change is.is.is some (λ slot. ap (λ records. records slot) (each_leaves k.setup (reach_of reach) (ids_of kept) kept)))

-- a step that is to be saved is that of a packet
pub saved_for : (k : Holding) (input came : Input) (step : Step) (packet : Option Sent) → came ≡ input → IsPrepared k came step packet →
    step.next.change ≢ None → IsSome (packet_in input)
saved_for k input came step packet same prepared some = subst (λ (i : Input). IsSome (packet_in i)) same (by_change step.next.change refl)
  where
    by_change : (change : Option Change) → step.next.change ≡ change → IsSome (packet_in came)
    by_change None is = absurd (some is)
    by_change (Some change) is =
        let from = saves_for k came step packet change prepared is in
        subst (λ (i : Input). IsSome (packet_in i)) (sym from.came) refl
