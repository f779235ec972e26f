-- What a world becomes by events, as a run of the model's cluster that goes on.
use Rattle.std.proofs.Common.{◌≡◌, ℕ, true, List, [], ◌∷◌, ◌++◌, length, map, Ok, Err, refl, sym, ap, subst, ◌∙◌, append_assoc}
use Rattle.std.specs.Prelude.{reverse}
use Rattle.std.proofs.lemmas.List.{append-nil, reverse-append, reverse-reverse}
use Rattle.mc_model.specs.synod.Packet.{Packet}
use Rattle.mc_model.specs.cluster.Steps.{Cluster}
use Rattle.node_laws.specs.Clusters.{NodeInput, kept_reached}
use Rattle.synod_acceptor.specs.Packets.{packet_of}
use Rattle.world.specs.Runs.{IsAt, begin_anew}
use Rattle.world.specs.Scenes.{Scene}
use Rattle.world_runs.specs.Histories.{BecomesBy, History, numbered_by, packets_of}
use Rattle.world_runs.specs.Tellings.{AllReceiptsStand, CancelsAreDeletions, GrantsNoneAfterACancel, IdsAreNotRefusedAtOnce}
use Rattle.world_runs.specs.Traces.{AcceptedAreKnown, AreChosen, DeliveriesStand, Event, GrantsNoneAfterAFate, HaltedOver, HasOneFate}
use Rattle.world_runs.specs.Traces.{HasOneReceipt, LaterQueriesAreTold, StartedOver, Tried, answers_in}
use Rattle.world_runs.proofs.Asking.{accepted_are_known, later_queries_are_told}
use Rattle.world_runs.proofs.Choosing.{are_chosen}
use Rattle.world_runs.proofs.Events.{ReachesBy}
use Rattle.world_runs.proofs.Refusing.{ids_not_refused}
use Rattle.world_runs.proofs.Standing.{deliveries_stand}
use Rattle.world_runs.proofs.Telling.{all_receipts_stand, cancels_are_deletions, grants_none_after_a_cancel}
use Rattle.world_runs.proofs.Tracing.{grants_none, one_fate, one_receipt}

-- one history after another
pub goes_on_by : (old mid new : Scene) (first second : List Event) → BecomesBy old first mid → BecomesBy mid second new → BecomesBy old (first ++ second) new
goes_on_by old mid new [] second same way = subst (λ (w : Scene). BecomesBy w second new) same way
goes_on_by old mid new (event ∷ first) second one way = (one.0, one.1, goes_on_by one.0 mid new first second one.2 way)

-- where a run stands by events, with all packets that were numbered meanwhile
pub record IsLed (cluster : Cluster) (behind : List Packet) (inputs : List NodeInput) (events : List Event) (new : Scene) (packets : List Packet) : Type 0 where
  pub last : List NodeInput
  pub since : List Packet
  pub reaches : ReachesBy cluster inputs events last
  pub at : IsAt cluster since last new
  pub sent : (kept_reached cluster last).packets ≡ reverse packets ++ behind

module _ (cluster : Cluster) where
  -- packets that were numbered before a start over are behind the world since
  behind_then : (behind before packets then sent : List Packet) → then ≡ reverse before ++ behind → sent ≡ reverse packets ++ then →
      sent ≡ reverse (before ++ packets) ++ behind
  behind_then behind before packets then sent was is =
      is
      ∙ ap (λ (ps : List Packet). reverse packets ++ ps) was
      ∙ sym (append_assoc (reverse packets) (reverse before) behind)
      ∙ ap (λ (ps : List Packet). ps ++ behind) (sym (reverse-append before packets))

  pub led_by : (behind : List Packet) (inputs : List NodeInput) (old : Scene) (events : List Event) (new : Scene) (way : BecomesBy old events new) →
      IsAt cluster behind inputs old → IsLed cluster behind inputs events new (numbered_by old events new way)
  led_by behind inputs old [] new same at =
      let here = subst (IsAt cluster behind inputs) (sym same) at in
      record { last = inputs; since = behind; reaches = refl; at = here; sent = here.packets }
  led_by behind inputs old (Tried step (Ok given) ∷ events) new way at =
      let goes = way.1.each cluster behind inputs at in
      let on = led_by behind (goes.next ∷ inputs) way.0 events new way.2 goes.at in
      record {
        last = on.last;
        since = on.since;
        reaches = (goes.next, length behind, goes.comes, goes.gives, on.reaches);
        at = on.at;
        sent = on.sent;
      }
  led_by behind inputs old (Tried step (Err fault) ∷ events) new way at =
      let on = led_by behind inputs way.0 events new way.2 (way.1.each cluster behind inputs at).at in
      record { last = on.last; since = on.since; reaches = on.reaches; at = on.at; sent = on.sent }
  led_by behind inputs old (StartedOver ∷ events) new way at =
      let then = (kept_reached cluster inputs).packets in
      let on = led_by then (begin_anew cluster.nodes ++ inputs) way.0 events new way.2 (way.1.each cluster behind inputs at) in
      record {
        last = on.last;
        since = on.since;
        reaches = on.reaches;
        at = on.at;
        sent = behind_then behind (map packet_of old.packets) (numbered_by way.0 events new way.2) then
            (kept_reached cluster on.last).packets at.packets on.sent;
      }
  led_by behind inputs old (HaltedOver count fault ∷ events) new way at =
      let there = (way.1.0.each cluster behind inputs at).at in
      let here = subst (λ (n : ℕ). IsAt cluster behind (begin_anew n ++ inputs) way.0) way.1.1 there in
      let on = led_by behind (begin_anew count ++ inputs) way.0 events new way.2 here in
      record { last = on.last; since = on.since; reaches = on.reaches; at = on.at; sent = on.sent }

module _ (h : History) where
  led : IsLed h.stands.cluster h.stands.behind h.stands.inputs h.events h.last (packets_of h)
  led = led_by h.stands.cluster h.stands.behind h.stands.inputs h.first h.events h.last h.becomes h.stands.at

  pub has_one_fate : HasOneFate (answers_in h.events)
  has_one_fate = one_fate h.stands.cluster h.stands.inputs h.events led.last led.reaches led.at.may

  pub has_one_receipt : HasOneReceipt (answers_in h.events)
  has_one_receipt = one_receipt h.stands.cluster h.stands.inputs h.events led.last led.reaches led.at.may

  pub grants_none_after : GrantsNoneAfterAFate (answers_in h.events)
  grants_none_after = grants_none h.stands.cluster h.stands.inputs h.events led.last led.reaches led.at.may

  pub later_queries_told : LaterQueriesAreTold h.events
  later_queries_told = later_queries_are_told h.stands.cluster h.stands.inputs h.events led.last led.reaches led.at.may

  pub accepted_known : AcceptedAreKnown h.events
  accepted_known = accepted_are_known h.stands.cluster h.stands.inputs h.events led.last led.reaches led.at.may

  pub cancels_delete_all : CancelsAreDeletions (answers_in h.events)
  cancels_delete_all = cancels_are_deletions h.stands.cluster h.stands.inputs h.events led.last led.reaches led.at.may

  pub cancelled_stay : GrantsNoneAfterACancel (answers_in h.events)
  cancelled_stay = grants_none_after_a_cancel h.stands.cluster h.stands.inputs h.events led.last led.reaches led.at.may

  pub receipts_stand_all : AllReceiptsStand h.events
  receipts_stand_all = all_receipts_stand h.stands.cluster h.stands.inputs h.events led.last led.reaches led.at.may

  pub ids_known : IdsAreNotRefusedAtOnce h.events
  ids_known = ids_not_refused h.stands.cluster h.stands.inputs h.events led.last led.reaches

  -- if no step was taken before
  reaches_all : h.first.fresh ≡ true → ReachesBy h.stands.cluster [] h.events led.last
  reaches_all fresh = subst (λ (inputs : List NodeInput). ReachesBy h.stands.cluster inputs h.events led.last) (h.stands.at.fresh fresh).0 led.reaches

  all_packets : h.first.fresh ≡ true → packets_of h ≡ reverse (kept_reached h.stands.cluster led.last).packets
  all_packets fresh =
      sym (reverse-reverse (packets_of h))
      ∙ ap reverse (sym (append-nil (reverse (packets_of h)))
      ∙ ap (λ (behind : List Packet). reverse (packets_of h) ++ behind) (sym (h.stands.at.fresh fresh).1)
      ∙ sym led.sent)

  pub deliveries_stand_in : h.first.fresh ≡ true → DeliveriesStand h.events
  deliveries_stand_in fresh = deliveries_stand h.stands.cluster h.events led.last (reaches_all fresh) led.at.may

  pub chosen_all : h.first.fresh ≡ true → AreChosen (length h.last.members) (packets_of h) (answers_in h.events)
  chosen_all fresh =
      are_chosen h.stands.cluster (length h.last.members) (packets_of h) h.events led.last (sym led.at.nodes) (all_packets fresh) (reaches_all fresh) led.at.may
