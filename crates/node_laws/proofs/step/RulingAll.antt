-- What a tick does of all messages, by ascending ids.
use Rattle.std.proofs.Common.{◌≡◌, ◌↔◌, ℕ, ◌<◌, Bool, List, [], ◌∷◌, ◌++◌, map, None, refl, sym, ap, subst, ◌∙◌, inl, inr, arith, append_assoc}
use Rattle.std.specs.Prelude.{reverse}
use Rattle.std.proofs.lemmas.List.{map-append, reverse-append}
use Rattle.mc_model.specs.node.Reach.{Reach}
use Rattle.mc_model.specs.message.Decree.{Decree}
use Rattle.mc_model.specs.message.Ids.{IsNode}
use Rattle.mc_model.specs.synod.Lists.{In}
use Rattle.mc_model.specs.synod.Packet.{Slot}
use Rattle.mc_model.specs.node.Actor.{Offer}
use Rattle.mc_model.specs.node.Alone.{Node}
use Rattle.mc_model.specs.node.Due.{Fall}
use Rattle.mc_model.specs.node.Rounds.{MayPrepare, RunsNone}
use Rattle.mc_model.specs.node.Setup.{Setup}
use Rattle.mc_parts.proofs.Membership.{in_either}
use Rattle.node_model.specs.Kept.{Kept, message_at}
use Rattle.node_model.specs.Message.{Message}
use Rattle.node_model.specs.Proposer.{Prepared}
use Rattle.node_model.specs.Rules.{first_rule}
use Rattle.node_model.specs.Ticks.{ruled, ruled_each}
use Rattle.node_laws.specs.Stands.{Agrees, IsCoherent, IsQuiet}
use Rattle.node_laws.specs.Steps.{IsAtWork}
use Rattle.node_laws.proofs.step.FirstRule.{AgreesOn}
use Rattle.node_laws.proofs.invariant.Orders.{fall_join, in_append, in_mapped}
use Rattle.node_laws.proofs.step.Ruling.{GivesUp, Starts, agrees_beside, id_of_offer, later, packet_of}
use Rattle.node_laws.proofs.step.RulingOne.{RulesOne, rules_one}

abbrev pub id_of_slot : Slot → ℕ
id_of_slot slot = slot.id

-- each id stands before greater ones
abbrev pub Ascending : List ℕ → Type 0
Ascending [] = Unit {0}
Ascending (id ∷ others) = ((other : ℕ) → In other others → id < other) × Ascending others

module _ (setup : Setup) (s : Node) (coherent : IsCoherent setup.node s.actor) (quiet : IsQuiet setup.nodes setup.node s.actor) (works : IsAtWork setup s)
    (mine : IsNode setup.node)
    (none_runs : (id : ℕ) → RunsNone setup.nodes setup.node s.actor id) (reach : Reach) where
  pub record RulesAll (ids : List ℕ) (slots : List Slot) (offers : List Offer) (new : Prepared) : Type 0 where
    pub some_slots : List Slot
    pub some_offers : List Offer
    pub agrees : Agrees setup new.kept (later setup s (some_slots ++ slots) (some_offers ++ offers))
    pub packets : new.packets ≡ reverse (map (packet_of setup s) some_offers)
    pub gives_up : (slot : Slot) → In slot some_slots ↔ (In slot.id ids × GivesUp setup s reach slot)
    pub starts : (offer : Offer) → In offer some_offers → In offer.slot.id ids
        × (Starts setup s reach offer.slot.id offer.slot.place offer.chain × MayPrepare setup.nodes setup.node s.actor s.records offer.slot offer.ballot)
    pub all : (slot : Slot) (ballot : ℕ) (chain : List Decree) → In slot.id ids → Starts setup s reach slot.id slot.place chain →
        MayPrepare setup.nodes setup.node s.actor s.records slot ballot → In slot.id (map id_of_offer some_offers)
    pub slots_fall : Fall (map id_of_slot some_slots)
    pub offers_fall : Fall (map id_of_offer some_offers)

  -- what the messages that are still to come need
  pub record IsToCome (ids : List ℕ) (k : Kept) (slots : List Slot) (offers : List Offer) : Type 0 where
    pub agrees : Agrees setup k (later setup s slots offers)
    pub each : (id : ℕ) → In id ids → AgreesOn setup s.actor s.records k id
    pub free : (id : ℕ) → In id ids → (message_at k id).round ≡ None
    pub apart_slots : (slot : Slot) → In slot slots → In slot.id ids → ⊥
    pub apart : (offer : Offer) → In offer offers → In offer.slot.id ids → ⊥

  not_among : (id : ℕ) (others : List ℕ) → ((other : ℕ) → In other others → id < other) → (at : ℕ) → at ≡ id → In at others → ⊥
  not_among id others above at same among = let more = above at among in absurd (omega arith)

  module _ (id : ℕ) (others : List ℕ) (above : (other : ℕ) → In other others → id < other) (k : Kept) (slots : List Slot) (offers : List Offer)
      (is : IsToCome (id ∷ others) k slots offers)
      (new : Prepared) (one : RulesOne setup s coherent quiet works mine none_runs reach id k slots offers new) where
    to_come : IsToCome others new.kept (one.some_slots ++ slots) (one.some_offers ++ offers)
    to_come = record {
      agrees = one.agrees;
      each =
          λ other among.
          agrees_beside setup s.actor s.records k new.kept id other (λ same. not_among id others above other same among) one.beside
          (is.each other (inr among));
      free =
          λ other among.
          ap (λ (m : Message). m.round) (one.beside.elsewhere other (λ same. not_among id others above other same among)) ∙ is.free other (inr among);
      apart_slots = λ slot among later. elim (in_either slot one.some_slots slots among) [
        | inl now ↦ not_among id others above slot.id ((one.gives_up slot).0 now).0 later
        | inr before ↦ is.apart_slots slot before (inr later)
      ];
      apart = λ offer among later. elim (in_either offer one.some_offers offers among) [
        | inl now ↦ not_among id others above offer.slot.id (one.starts offer now).0 later
        | inr before ↦ is.apart offer before (inr later)
      ];
    }

    module _ (last : Prepared) (rest : RulesAll others (one.some_slots ++ slots) (one.some_offers ++ offers) last) where
      abbrev both : Prepared
      both = record { kept = last.kept; packets = new.packets ++ last.packets }

      gives_up_both : (slot : Slot) → In slot (rest.some_slots ++ one.some_slots) ↔ (In slot.id (id ∷ others) × GivesUp setup s reach slot)
      gives_up_both slot = (
        λ is_in. elim (in_either slot rest.some_slots one.some_slots is_in) [
          | inl further ↦ let it = (rest.gives_up slot).0 further in (inr it.0, it.1)
          | inr first ↦ let it = (one.gives_up slot).0 first in (inl it.0, it.1)
        ],
        λ it. elim it.0 [
          | inl same ↦ in_append slot rest.some_slots one.some_slots (inr ((one.gives_up slot).1 (same, it.1)))
          | inr among ↦ in_append slot rest.some_slots one.some_slots (inl ((rest.gives_up slot).1 (among, it.1)))
        ],
      )

      starts_both : (offer : Offer) → In offer (rest.some_offers ++ one.some_offers) → In offer.slot.id (id ∷ others)
          × (Starts setup s reach offer.slot.id offer.slot.place offer.chain × MayPrepare setup.nodes setup.node s.actor s.records offer.slot offer.ballot)
      starts_both offer is_in = elim (in_either offer rest.some_offers one.some_offers is_in) [
        | inl further ↦ let it = rest.starts offer further in (inr it.0, it.1)
        | inr first ↦ let it = one.starts offer first in (inl it.0, it.1)
      ]

      all_both : (slot : Slot) (ballot : ℕ) (chain : List Decree) → In slot.id (id ∷ others) → Starts setup s reach slot.id slot.place chain →
          MayPrepare setup.nodes setup.node s.actor s.records slot ballot → In slot.id (map id_of_offer (rest.some_offers ++ one.some_offers))
      all_both slot ballot chain among starts may =
          subst (In slot.id) (sym (map-append id_of_offer rest.some_offers one.some_offers))
          (elim among [
            | inl same ↦
                in_append slot.id (map id_of_offer rest.some_offers) (map id_of_offer one.some_offers) (inr (one.all slot ballot chain same starts may))
            | inr later ↦
                in_append slot.id (map id_of_offer rest.some_offers) (map id_of_offer one.some_offers) (inl (rest.all slot ballot chain later starts may))
          ])

      slots_apart : (high low : ℕ) → In high (map id_of_slot rest.some_slots) → In low (map id_of_slot one.some_slots) → low < high
      slots_apart high low front back =
          let upper = in_mapped id_of_slot rest.some_slots high front in
          let lower = in_mapped id_of_slot one.some_slots low back in
          let more = above upper.from.id ((rest.gives_up upper.from).0 upper.among).0 in
          let upper_is = upper.is in
          let lower_is = lower.is ∙ ((one.gives_up lower.from).0 lower.among).0 in
          omega arith

      offers_apart : (high low : ℕ) → In high (map id_of_offer rest.some_offers) → In low (map id_of_offer one.some_offers) → low < high
      offers_apart high low front back =
          let upper = in_mapped id_of_offer rest.some_offers high front in
          let lower = in_mapped id_of_offer one.some_offers low back in
          let more = above upper.from.slot.id (rest.starts upper.from upper.among).0 in
          let upper_is = upper.is in
          let lower_is = lower.is ∙ (one.starts lower.from lower.among).0 in
          omega arith

      joined : RulesAll (id ∷ others) slots offers both
      joined = record {
        some_slots = rest.some_slots ++ one.some_slots;
        some_offers = rest.some_offers ++ one.some_offers;
        agrees = subst (Agrees setup last.kept)
            (λ i. later setup s (sym (append_assoc rest.some_slots one.some_slots slots) i) (sym (append_assoc rest.some_offers one.some_offers offers) i))
            rest.agrees;
        packets =
            (λ i. one.packets i ++ rest.packets i)
            ∙ sym (reverse-append (map (packet_of setup s) rest.some_offers) (map (packet_of setup s) one.some_offers))
            ∙ ap reverse (sym (map-append (packet_of setup s) rest.some_offers one.some_offers));
        gives_up = gives_up_both;
        starts = starts_both;
        all = all_both;
        slots_fall =
            subst Fall (sym (map-append id_of_slot rest.some_slots one.some_slots))
            (fall_join (map id_of_slot rest.some_slots) (map id_of_slot one.some_slots) rest.slots_fall one.slots_fall slots_apart);
        offers_fall =
            subst Fall (sym (map-append id_of_offer rest.some_offers one.some_offers))
            (fall_join (map id_of_offer rest.some_offers) (map id_of_offer one.some_offers) rest.offers_fall one.offers_fall offers_apart);
      }

  pub rules_all : (ids : List ℕ) → Ascending ids → (k : Kept) (slots : List Slot) (offers : List Offer) → IsToCome ids k slots offers →
      RulesAll ids slots offers (ruled_each setup reach ids k)
  rules_all [] ascends k slots offers is = record {
    some_slots = [];
    some_offers = [];
    agrees = is.agrees;
    packets = refl;
    gives_up = λ slot. ((λ none. absurd none), (λ it. absurd it.0));
    starts = λ offer none. absurd none;
    all = λ slot ballot chain none starts may. absurd none;
    slots_fall = tt;
    offers_fall = tt;
  }
  rules_all (id ∷ others) ascends k slots offers is =
      let new : Prepared = ruled setup k id (first_rule setup k reach id) in
      let one : RulesOne setup s coherent quiet works mine none_runs reach id k slots offers new =
      rules_one setup s coherent quiet works mine none_runs reach id k slots offers is.agrees (is.each id (inl refl)) (is.free id (inl refl))
      (λ slot among same. is.apart_slots slot among (inl same))
      (λ offer among same. is.apart offer among (inl same)) in
      joined id others ascends.0 k slots offers is new one (ruled_each setup reach others new.kept)
      (rules_all others ascends.1 new.kept (one.some_slots ++ slots) (one.some_offers ++ offers) (to_come id others ascends.0 k slots offers is new one))
