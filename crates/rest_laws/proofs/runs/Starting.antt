-- A start anew of a node that forgot messages: behind it the votes of those that it dropped come again.
use Rattle.std.proofs.Common.{◌≡◌, ℕ, ◌+◌, ◌<◌, Bool, true, false, List, [], ◌∷◌, ◌++◌, map, refl, sym, subst, ap, ◌∙◌, inl, inr}
use Rattle.std.specs.Prelude.{◌==◌, ◌&&◌, ◌||◌, nat_lt, not, reverse, if◌then◌else◌}
use Rattle.std.specs.Map.{keys_of}
use Rattle.std.proofs.lemmas.Bool.{eq-eqb, eqb-true}
use Rattle.std.proofs.lemmas.List.{append_assoc, map-append}
use Rattle.mc_model.specs.cluster.Steps.{Cluster, setup_of}
use Rattle.mc_model.specs.message.Ids.{incarnation_of, node_of, serial_of}
use Rattle.mc_model.specs.node.Input.{Delivery, Restart}
use Rattle.mc_model.specs.node.Setup.{Setup}
use Rattle.mc_model.specs.synod.Lists.{In}
use Rattle.mc_model.specs.synod.Packet.{Packet, Voted, same_slot, slot_of}
use Rattle.node_laws.specs.Clusters.{MayHappen, NodeInput, comes_to, kept_reached, outputs_at}
use Rattle.node_laws.specs.Runs.{IsOneOf, kept_after}
use Rattle.node_laws.specs.Steps.{IsWellMade}
use Rattle.node_model.specs.Answers.{ends_told}
use Rattle.node_model.specs.Kept.{Kept, message_at}
use Rattle.node_model.specs.Message.{unseen}
use Rattle.node_model.specs.Outputs.{Stepped, nothing}
use Rattle.node_model.specs.Stepped.{restarted, stepped}
use Rattle.rest_laws.specs.AtRest.{AreAtRest, IsAtRest}
use Rattle.rest_laws.specs.Behind.{GiveNothing, StandsBehind, StartsBehind, come_again}
use Rattle.rest_laws.specs.Cooled.{AreCalm, AreShut, cool}
use Rattle.rest_laws.proofs.cooled.Stepping.{restarted_cool}
use Rattle.rest_laws.specs.Notes.{AreNotesOfGone, Note, come, votes_in, votes_of}
use Rattle.rest_laws.specs.Remains.{Remains, Starts, remains_then}
use Rattle.rest_laws.specs.Without.{without}
use Rattle.rest_laws.proofs.noting.Anew.{hear_all, heard_all, restart_gives, restart_keeps, restarted_ascends, restarted_same, restarted_unheard}
use Rattle.rest_laws.proofs.noting.Gone.{all_noted, notes, votes_sent}
use Rattle.rest_laws.proofs.noting.Hearing.{HasNoted, hears, votes_by}
use Rattle.rest_laws.proofs.noting.Starts.{starts_none}
use Rattle.rest_laws.proofs.without.Entries.{Ascend}

-- ---- packets come again, one after the other

again_on : (node : ℕ) (first others : List Packet) (inputs : List NodeInput) →
    come_again node (first ++ others) inputs ≡ come_again node first (come_again node others inputs)
again_on node first others inputs =
    ap (λ (l : List NodeInput). l ++ inputs) (map-append (λ packet. comes_to node (Delivery packet)) first others)
    ∙ append_assoc (map (λ packet. comes_to node (Delivery packet)) first) (map (λ packet. comes_to node (Delivery packet)) others) inputs

quiet_on : (cluster : Cluster) (node : ℕ) (first others : List Packet) (inputs : List NodeInput) →
    GiveNothing cluster node first (come_again node others inputs) → GiveNothing cluster node others inputs →
    GiveNothing cluster node (first ++ others) inputs
quiet_on cluster node [] others inputs quiet rest = rest
quiet_on cluster node (packet ∷ first) others inputs quiet rest = (
  subst (λ (l : List NodeInput). outputs_at cluster l (comes_to node (Delivery packet)) ≡ nothing) (sym (again_on node first others inputs)) quiet.0,
  quiet_on cluster node first others inputs quiet.1 rest,
)

-- ---- one node alone goes on, to this, and nothing is sent

record GoesAlone (cluster : Cluster) (node : ℕ) (inputs later : List NodeInput) (now : Kept) : Type 0 where
  may : MayHappen cluster later
  kept : (kept_reached cluster later).kept node ≡ now
  packets : (kept_reached cluster later).packets ≡ (kept_reached cluster inputs).packets
  others : (other : ℕ) → (other == node) ≡ false → (kept_reached cluster later).kept other ≡ (kept_reached cluster inputs).kept other

-- packets lead it there
record IsLedBy (cluster : Cluster) (node : ℕ) (inputs later : List NodeInput) (packets : List Packet) (now : Kept) : Type 0 where
  goes : GoesAlone cluster node inputs (come_again node packets later) now
  quiet : GiveNothing cluster node packets later

module _ (cluster : Cluster) (node : ℕ) (is : IsOneOf (setup_of cluster node)) (inputs : List NodeInput) where
  abbrev setup : Setup
  setup = setup_of cluster node

  self : (node == node) ≡ true
  self = eq-eqb node node refl

  -- one packet more
  packet_comes : (later : List NodeInput) (now : Kept) (packet : Packet) → GoesAlone cluster node inputs later now → now.up ≡ true → IsWellMade packet →
      In packet (kept_reached cluster inputs).packets → (stepped setup now (Delivery packet)).outputs ≡ nothing →
      GoesAlone cluster node inputs (comes_to node (Delivery packet) ∷ later) (stepped setup now (Delivery packet)).kept
      × (outputs_at cluster later (comes_to node (Delivery packet)) ≡ nothing)
  packet_comes later now packet before up made sent quiet =
      let step : stepped setup ((kept_reached cluster later).kept node) (Delivery packet) ≡ stepped setup now (Delivery packet) =
      ap (λ (x : Kept). stepped setup x (Delivery packet)) before.kept in
      let none = ap (λ (s : Stepped). s.outputs) step ∙ quiet in (
        record {
          may = (is, ap (λ (x : Kept). x.up) before.kept ∙ up, made, subst (In packet) (sym before.packets) sent, before.may);
          kept = λ i. if self i then (step i).kept else (kept_reached cluster later).kept node;
          packets = (λ i. reverse (none i).packets ++ (kept_reached cluster later).packets) ∙ before.packets;
          others = λ other apart.
              (λ i. if apart i then (stepped setup ((kept_reached cluster later).kept node) (Delivery packet)).kept
              else (kept_reached cluster later).kept other)
              ∙ before.others other apart;
        },
        none,
      )

  votes_come : (later : List NodeInput) (n : Note) (k : Kept) → GoesAlone cluster node inputs later k → HasNoted setup k n → (voters : List ℕ) →
      ((voter : ℕ) → In voter voters → In voter n.voters) →
      ((voter : ℕ) → In voter n.voters → IsWellMade (Voted voter n.slot n.vote) × In (Voted voter n.slot n.vote) (kept_reached cluster inputs).packets) →
      IsLedBy cluster node inputs later (votes_by n voters) (kept_after setup k (come (votes_by n voters)))
  votes_come later n k before has [] among sent = record { goes = before; quiet = tt }
  votes_come later n k before has (voter ∷ earlier) among sent =
      let rest = votes_come later n k before has earlier (λ other in_it. among other (inr in_it)) sent in
      let own = sent voter (among voter (inl refl)) in
      let so_far = hears setup k n has earlier (λ other in_it. has.members other (among other (inr in_it))) in
      let now = hears setup k n has (voter ∷ earlier) (λ other in_it. has.members other (among other in_it)) in
      let one = packet_comes (come_again node (votes_by n earlier) later) (kept_after setup k (come (votes_by n earlier))) (Voted voter n.slot n.vote)
      rest.goes so_far.up own.0 own.1 now.quiet.0 in
      record { goes = one.0; quiet = (one.1, rest.quiet) }

  notes_come : (later : List NodeInput) (gone : ℕ → Bool) (k : Kept) → k.up ≡ true → k.held ≡ [] → Ascend (keys_of k.messages) →
      ((id : ℕ) → message_at k id ≡ unseen) → GoesAlone cluster node inputs later k → (notes : List Note) → AreNotesOfGone setup gone k notes →
      ((n : Note) (voter : ℕ) → In n notes → In voter n.voters →
      IsWellMade (Voted voter n.slot n.vote) × In (Voted voter n.slot n.vote) (kept_reached cluster inputs).packets) →
      IsLedBy cluster node inputs later (votes_in notes) (heard_all setup k notes)
  notes_come later gone k up held ascend fresh start [] are sent = record { goes = start; quiet = tt }
  notes_come later gone k up held ascend fresh start (n ∷ notes) are sent =
      let rest = notes_come later gone k up held ascend fresh start notes are.2 (λ m voter among. sent m voter (inr among)) in
      let before = hear_all setup gone k up held ascend fresh notes are.2 in
      let note = are.0.note in
      let has : HasNoted setup (heard_all setup k notes) n = record {
        up = before.up;
        held = before.held;
        unheard = before.untouched n.slot.id are.1 ∙ fresh n.slot.id;
        starts = starts_none setup n.slot.id n.vote.chain are.0.over;
        earlier = ap (λ (x : ℕ). ends_told setup.node x n.vote.chain) before.incarnation ∙ note.earlier;
        concerns =
            (λ i. same_slot n.slot (slot_of n.slot.id n.vote.chain)
            && (not (node_of n.slot.id == setup.node)
            || (nat_lt (incarnation_of n.slot.id) (before.incarnation i)
            || ((incarnation_of n.slot.id == before.incarnation i) && nat_lt (serial_of n.slot.id) (before.serial i)))))
            ∙ note.concerns;
        members = note.members;
        majority = note.majority;
      } in
      let one = votes_come (come_again node (votes_in notes) later) n (heard_all setup k notes) rest.goes has n.voters (λ voter among. among)
      (λ voter among. sent n voter (inl refl) among) in
      record {
        goes = subst (λ (l : List NodeInput). GoesAlone cluster node inputs l (heard_all setup k (n ∷ notes)))
            (sym (again_on node (votes_of n) (votes_in notes) later)) one.goes;
        quiet = quiet_on cluster node (votes_of n) (votes_in notes) later one.quiet rest.quiet;
      }

-- ---- a start anew

module _ (cluster : Cluster) (inputs : List NodeInput) (r : Remains) (node lost : ℕ) (behind : StandsBehind cluster inputs r)
    (is : IsOneOf (setup_of cluster node)) (room : (r.kept node).incarnation + lost < 9999) where
  abbrev own : Setup
  own = setup_of cluster node

  abbrev k : Kept
  k = (kept_reached cluster inputs).kept node

  abbrev gone : ℕ → Bool
  gone = r.gone node

  abbrev restarts : List NodeInput
  restarts = comes_to node (Restart lost) ∷ inputs

  abbrev noted : List Note
  noted = notes cluster inputs behind.may node gone (behind.rest node)

  first : GoesAlone cluster node inputs restarts (restarted own k lost)
  first =
      record {
        may = (is, tt, subst (λ (x : Kept). x.incarnation + lost < 9999) (behind.kept_is node) room, tt, behind.may);
        kept = λ i. if self cluster node is inputs i then restart_keeps own k lost i else k;
        packets = λ i. reverse (restart_gives own k lost i).packets ++ (kept_reached cluster inputs).packets;
        others = λ other apart. λ i. if apart i then (stepped own k (Restart lost)).kept else (kept_reached cluster inputs).kept other;
      }

  led : IsLedBy cluster node inputs restarts (votes_in noted) (heard_all own (restarted own k lost) noted)
  led = notes_come cluster node is inputs restarts gone (restarted own k lost) refl refl (restarted_ascends own k lost (behind.rest node).ascend)
      (restarted_unheard own k lost) first noted (all_noted cluster inputs behind.may node gone (behind.rest node) lost).each
      (votes_sent cluster inputs behind.may node gone (behind.rest node))

  abbrev goes_on : List NodeInput
  goes_on = come_again node (votes_in noted) restarts

  record Leaves : Type 0 where
    kept : without gone ((kept_reached cluster goes_on).kept node) ≡ restarted own (without gone k) lost
    rest : AreAtRest gone ((kept_reached cluster goes_on).kept node)

  leaves_so : Leaves
  leaves_so =
      let noted_all = all_noted cluster inputs behind.may node gone (behind.rest node) lost in
      let all = hear_all own gone (restarted own k lost) refl refl (restarted_ascends own k lost (behind.rest node).ascend) (restarted_unheard own k lost)
      noted noted_all.each in
      record {
        kept = ap (without gone) led.goes.kept ∙ (all.spared_is ∙ sym (restarted_same gone own k lost));
        rest = subst (AreAtRest gone) (sym led.goes.kept) (record {
          ascend = all.ascend;
          rest = λ id was. let found = noted_all.all id was in
              subst (λ (x : ℕ). IsAtRest (heard_all own (restarted own k lost) noted) x) found.2 (all.rest found.0 found.1);
        });
      }

  -- what is forgotten is forgotten by a start anew
  anew : restarted own (r.kept node) lost ≡ without gone ((kept_reached cluster goes_on).kept node)
  anew =
      sym (restarted_cool (r.cold node) own (r.kept node) lost)
      ∙ (ap (λ (x : Kept). restarted own x lost) (behind.kept_is node)
      ∙ (restarted_cool (r.cold node) own (without gone k) lost ∙ sym leaves_so.kept))

  abbrev none_cold : ℕ → Bool
  none_cold id = false

  pub starts : StartsBehind cluster inputs node lost (remains_then cluster r (Starts node lost))
  starts = record {
    again = votes_in noted;
    stands = record {
      may = led.goes.may;
      kept_is = λ other. kept_of other (other == node) refl;
      packets_are = behind.packets_are ∙ sym led.goes.packets;
      rest = λ other. rest_of other (other == node) refl;
      calm = λ other. calm_of other (other == node) refl;
      shut = λ other. shut_of other (other == node) refl;
    };
    quiet = led.quiet;
  }
    where
      kept_of : (other : ℕ) (b : Bool) → (other == node) ≡ b →
          cool (if b then none_cold else r.cold other) (if b then restarted own (r.kept node) lost else r.kept other)
          ≡ cool (if b then none_cold else r.cold other) (without (r.gone other) ((kept_reached cluster goes_on).kept other))
      kept_of other true at =
          subst (λ (n : ℕ). cool none_cold (restarted own (r.kept node) lost) ≡ cool none_cold (without (r.gone n) ((kept_reached cluster goes_on).kept n)))
          (sym (eqb-true other node at)) (ap (cool none_cold) anew)
      kept_of other false at = behind.kept_is other ∙ ap (λ (x : Kept). cool (r.cold other) (without (r.gone other) x)) (sym (led.goes.others other at))

      rest_of : (other : ℕ) (b : Bool) → (other == node) ≡ b → AreAtRest (r.gone other) ((kept_reached cluster goes_on).kept other)
      rest_of other true at =
          subst (λ (n : ℕ). AreAtRest (r.gone n) ((kept_reached cluster goes_on).kept n)) (sym (eqb-true other node at)) leaves_so.rest
      rest_of other false at = subst (AreAtRest (r.gone other)) (sym (led.goes.others other at)) (behind.rest other)

      calm_of : (other : ℕ) (b : Bool) → (other == node) ≡ b →
          AreCalm (if b then none_cold else r.cold other) (if b then restarted own (r.kept node) lost else r.kept other)
      calm_of other true at = λ id none. absurd (cc)
      calm_of other false at = behind.calm other

      shut_of : (other : ℕ) (b : Bool) → (other == node) ≡ b →
          AreShut (if b then none_cold else r.cold other) (if b then restarted own (r.kept node) lost else r.kept other)
          × AreShut (if b then none_cold else r.cold other) ((kept_reached cluster goes_on).kept other)
      shut_of other true at = ((λ id none place. absurd (cc)), (λ id none place. absurd (cc)))
      shut_of other false at = (
        (behind.shut other).0,
        subst (AreShut (r.cold other)) (sym (led.goes.others other at)) (behind.shut other).1,
      )
