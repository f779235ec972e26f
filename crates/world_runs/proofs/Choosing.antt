-- Each final state that a world tells was chosen, by votes that were sent before.
use Rattle.std.proofs.Common.{◌≡◌, ℕ, ◌+◌, List, [], ◌∷◌, ◌++◌, length, take, Ok, Err, refl, sym, ap, subst, ◌∙◌, arith, length-append}
use Rattle.std.proofs.Common.{append_assoc}
use Rattle.std.specs.Prelude.{reverse}
use Rattle.std.proofs.lemmas.List.{length-reverse, reverse-append, take-append-le, take_all}
use Rattle.mc_model.specs.message.Decree.{Decree, Final}
use Rattle.mc_model.specs.synod.Lists.{In}
use Rattle.mc_model.specs.synod.OneSlot.{vote_at}
use Rattle.mc_model.specs.synod.Packet.{Packet, slot_of}
use Rattle.mc_model.specs.cluster.Steps.{Cluster}
use Rattle.mc_laws.proofs.invariant.Agreement.{learned_more}
use Rattle.node_laws.specs.Chosen.{WasVotedFor}
use Rattle.node_laws.specs.Clusters.{MayHappen, NodeInput, StatesFinal, kept_reached, outputs_at}
use Rattle.node_laws.proofs.invariant.Orders.{reverse_in}
use Rattle.node_laws.proofs.cluster.Sources.{may_until}
use Rattle.world.specs.Step.{Step}
use Rattle.world.specs.Runs.{begin_anew}
use Rattle.world.proofs.Restarting.{same_packets}
use Rattle.world_runs.specs.Traces.{Answer, AreChosen, Event, HaltedOver, StartedOver, Tried, answers_in, sent_by, told_in}
use Rattle.world_runs.proofs.Events.{ReachesBy, events_cut, goes_on_by, until}
use Rattle.world_runs.proofs.Tracing.{states_given, states_nothing}
use Rattle.world_runs.proofs.Voting.{chosen_before}

voted_still : (nodes more : ℕ) (fewer packets : List Packet) (id : ℕ) (chain : List Decree) → nodes ≡ more →
    ((packet : Packet) → In packet fewer → In packet packets) →
    WasVotedFor nodes fewer id chain → WasVotedFor more packets id chain
voted_still nodes more fewer packets id chain same still voted =
    subst (λ (n : ℕ). WasVotedFor n packets id chain) same
    (record { ballot = voted.ballot; votes = learned_more nodes fewer packets (slot_of id chain) (vote_at voted.ballot chain) still voted.votes })

-- the oldest of some packets, the newest first
oldest_are : (more fewer : List Packet) → take (length fewer) (reverse (more ++ fewer)) ≡ reverse fewer
oldest_are more fewer =
    let count = length-reverse fewer in
    ap (take (length fewer)) (reverse-append more fewer)
    ∙ take-append-le (length fewer) (reverse fewer) (reverse more) (omega (arith, count))
    ∙ take_all (length fewer) (reverse fewer) (omega (arith, count))

module _ (cluster : Cluster) where
  -- the packets that were sent by some inputs, and those before
  sent_since : (newer inputs : List NodeInput) →
      (more : List Packet) × ((kept_reached cluster (newer ++ inputs)).packets ≡ more ++ (kept_reached cluster inputs).packets)
  sent_since [] inputs = ([], refl)
  sent_since (next ∷ newer) inputs =
      let it = sent_since newer inputs in
      let here = reverse (outputs_at cluster (newer ++ inputs) next).packets in (
        here ++ it.0,
        ap (λ (packets : List Packet). here ++ packets) it.1 ∙ sym (append_assoc here it.0 (kept_reached cluster inputs).packets),
      )

  -- how many were sent by events
  sent_counted : (inputs : List NodeInput) (events : List Event) (last : List NodeInput) → ReachesBy cluster inputs events last →
      length (kept_reached cluster last).packets ≡ sent_by (answers_in events) + length (kept_reached cluster inputs).packets
  sent_counted inputs [] last same = let count = ap (λ (is : List NodeInput). length (kept_reached cluster is).packets) same in omega (arith, count)
  sent_counted inputs (Tried step (Ok given) ∷ events) last r =
      let rest = sent_counted (r.0 ∷ inputs) events last r.4 in
      let sent = (outputs_at cluster inputs r.0).packets in
      let parts = length-append (reverse sent) (kept_reached cluster inputs).packets in
      let count = length-reverse sent in
      let gave = r.3.packets in
      omega (arith, rest, parts, count, gave)
  sent_counted inputs (Tried step (Err fault) ∷ events) last r = sent_counted inputs events last r
  sent_counted inputs (StartedOver ∷ events) last r =
      sent_counted (begin_anew cluster.nodes ++ inputs) events last r
      ∙ ap (λ (packets : List Packet). sent_by (answers_in events) + length packets) (same_packets cluster inputs cluster.nodes)
  sent_counted inputs (HaltedOver count fault ∷ events) last r =
      sent_counted (begin_anew count ++ inputs) events last r
      ∙ ap (λ (packets : List Packet). sent_by (answers_in events) + length packets) (same_packets cluster inputs count)

  -- in a run without inputs before, of which these are all packets, the oldest first
  chosen_at : (packets : List Packet) (before : List Event) (mid : List NodeInput) (after : List Event) (last : List NodeInput) →
      packets ≡ reverse (kept_reached cluster last).packets → ReachesBy cluster [] before mid →
      (next : NodeInput) → ReachesBy cluster (next ∷ mid) after last → MayHappen cluster last →
      (id : ℕ) (final : Final) (says : StatesFinal (outputs_at cluster mid next) id final) →
      WasVotedFor cluster.nodes (take (sent_by (answers_in before)) packets) id says.chain
  chosen_at packets before mid after last all first next second may id final says =
      let way = goes_on_by cluster (next ∷ mid) after last second in
      let there = may_until cluster way.newer (next ∷ mid) (subst (MayHappen cluster) way.split may) in
      let since = sent_since way.newer (next ∷ mid) in
      let one = sent_since (next ∷ []) mid in
      let earlier = (kept_reached cluster mid).packets in
      let split : (kept_reached cluster last).packets ≡ (since.0 ++ one.0) ++ earlier =
      ap (λ (is : List NodeInput). (kept_reached cluster is).packets) way.split
      ∙ since.1
      ∙ ap (λ (ps : List Packet). since.0 ++ ps) one.1
      ∙ sym (append_assoc since.0 one.0 earlier) in
      let count : length earlier ≡ sent_by (answers_in before) = let counted = sent_counted [] before mid first in omega (arith, counted) in
      let are : take (sent_by (answers_in before)) packets ≡ reverse earlier =
      ap (λ (n : ℕ). take n packets) (sym count)
      ∙ ap (take (length earlier)) (all ∙ ap reverse split)
      ∙ oldest_are (since.0 ++ one.0) earlier in
      voted_still cluster.nodes cluster.nodes earlier (take (sent_by (answers_in before)) packets) id says.chain refl
      (λ packet sent. subst (In packet) (sym are) (reverse_in packet earlier sent))
      (chosen_before cluster next mid there id final says)

  by_answer : (packets : List Packet) (before : List Event) (step : Step) (telling : Answer) (after : List Event) (last : List NodeInput) →
      packets ≡ reverse (kept_reached cluster last).packets →
      ReachesBy cluster [] (before ++ Tried step telling ∷ after) last → MayHappen cluster last →
      (id : ℕ) (final : Final) (says : StatesFinal (told_in telling) id final) →
      WasVotedFor cluster.nodes (take (sent_by (answers_in before)) packets) id says.chain
  by_answer packets before step (Ok given) after last all r may id final says =
      let it = until cluster [] before (Tried step (Ok given)) after last r in
      chosen_at packets before it.mid after last all it.reaches it.goes_on.0 it.goes_on.4 may id final
      (states_given given (outputs_at cluster it.mid it.goes_on.0) it.goes_on.3 id final says)
  by_answer packets before step (Err fault) after last all r may id final says = absurd (states_nothing id final says)

  pub are_chosen : (nodes : ℕ) (packets : List Packet) (events : List Event) (last : List NodeInput) → cluster.nodes ≡ nodes →
      packets ≡ reverse (kept_reached cluster last).packets → ReachesBy cluster [] events last → MayHappen cluster last →
      AreChosen nodes packets (answers_in events)
  are_chosen nodes packets events last same all r may older telling newer id final split says =
      let cut = events_cut events older telling newer split in
      let voted = by_answer packets cut.before cut.step telling cut.after last all
      (subst (λ (es : List Event). ReachesBy cluster [] es last) cut.split r) may id final says in
      subst (λ (n : ℕ). WasVotedFor n (take (sent_by older) packets) id says.chain) same
      (subst (λ (answers : List Answer). WasVotedFor cluster.nodes (take (sent_by answers) packets) id says.chain) cut.are voted)
