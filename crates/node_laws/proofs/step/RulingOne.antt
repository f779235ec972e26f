-- What a tick does of one message.
use Rattle.std.proofs.Common.{◌≡◌, ◌↔◌, ℕ, suc, pred, Bool, List, [], ◌∷◌, ◌++◌, map, Option, Some, None, refl, sym, ap, subst, ◌∙◌, inl, inr, arith}
use Rattle.std.specs.Prelude.{reverse}
use Rattle.mc_model.specs.node.Reach.{Reach}
use Rattle.mc_model.specs.message.Decree.{Decree}
use Rattle.mc_model.specs.message.Ids.{IsNode}
use Rattle.mc_model.specs.synod.Lists.{In}
use Rattle.mc_model.specs.synod.Packet.{Slot, slot_at}
use Rattle.mc_model.specs.node.Act.{Act, Prepares}
use Rattle.mc_model.specs.node.Actor.{Offer}
use Rattle.mc_model.specs.node.Alone.{Node, reached_alone}
use Rattle.mc_model.specs.node.Due.{Fall, key_of}
use Rattle.mc_model.specs.node.FirstRule.{Announce, Close, Delete, Expire, Follow, GiveUp, IsFirstRule, Lose, Rule, Take, Try, Undeliver}
use Rattle.mc_model.specs.node.Outputs.{packets_in}
use Rattle.mc_model.specs.node.Rounds.{MayPrepare, RunsNone}
use Rattle.mc_model.specs.node.Setup.{Setup}
use Rattle.node_model.specs.Kept.{Kept, message_at}
use Rattle.node_model.specs.Proposer.{Prepared, started}
use Rattle.node_model.specs.Rules.{Fitting, first_rule}
use Rattle.node_model.specs.Ticks.{given_up, ruled}
use Rattle.node_laws.specs.Stands.{Agrees, IsCoherent, IsQuiet, IsRoundOf}
use Rattle.node_laws.specs.Steps.{IsAtWork}
use Rattle.node_laws.proofs.step.FirstRule.{AgreesOn, is_first, none_fits}
use Rattle.node_laws.proofs.invariant.Orders.{mapped_in}
use Rattle.node_laws.proofs.step.Ruling.{
  GivesUp,
  IsBeside,
  Starts,
  beside_same,
  beside_then,
  first_once,
  given_agrees,
  given_beside,
  given_round,
  given_slots,
  id_of_offer,
  is_start,
  keys_of_starts,
  later,
  may_before,
  may_later,
  packet_of,
  packets_of_starts,
  prepare_of,
  reached_starts,
  same_first,
  started_beside,
  starts_of,
}
use Rattle.node_laws.proofs.step.Started.{IsDueStart, IsToPrepare, StartsAs, started_as}

module _ (setup : Setup) (s : Node) (coherent : IsCoherent setup.node s.actor) (quiet : IsQuiet setup.nodes setup.node s.actor) (works : IsAtWork setup s)
    (mine : IsNode setup.node)
    (none_runs : (id : ℕ) → RunsNone setup.nodes setup.node s.actor id) (reach : Reach) (id : ℕ) where
  abbrev FirstRuleAt : ℕ → ℕ → List Decree → Rule → Type 0
  FirstRuleAt at place chain rule = IsFirstRule setup.nodes setup.node s.actor s.records reach at place chain rule

  abbrev Due : ℕ → List Decree → Type 0
  Due place chain = Starts setup s reach id place chain

  -- from what is kept, with these attempts given up and these rounds started of other messages
  pub record RulesOne (k : Kept) (slots : List Slot) (offers : List Offer) (new : Prepared) : Type 0 where
    pub some_slots : List Slot
    pub some_offers : List Offer
    pub agrees : Agrees setup new.kept (later setup s (some_slots ++ slots) (some_offers ++ offers))
    pub packets : new.packets ≡ reverse (map (packet_of setup s) some_offers)
    pub beside : IsBeside k new.kept id
    pub gives_up : (slot : Slot) → In slot some_slots ↔ ((slot.id ≡ id) × GivesUp setup s reach slot)
    pub starts : (offer : Offer) → In offer some_offers → (offer.slot.id ≡ id)
        × (Starts setup s reach offer.slot.id offer.slot.place offer.chain × MayPrepare setup.nodes setup.node s.actor s.records offer.slot offer.ballot)
    pub all : (slot : Slot) (ballot : ℕ) (chain : List Decree) → slot.id ≡ id → Starts setup s reach slot.id slot.place chain →
        MayPrepare setup.nodes setup.node s.actor s.records slot ballot → In slot.id (map id_of_offer some_offers)
    pub slots_fall : Fall (map (λ slot. slot.id) some_slots)
    pub offers_fall : Fall (map id_of_offer some_offers)

  -- ---- the attempt that is given up

  abbrev IsGiven : Slot → Type 0
  IsGiven slot = (slot.id ≡ id) × GivesUp setup s reach slot

  first_here : (slot : Slot) → slot.id ≡ id → (chain : List Decree) → FirstRuleAt slot.id (suc slot.place) chain GiveUp →
      FirstRuleAt id (suc slot.place) chain GiveUp
  first_here slot about chain first = subst (λ (i : ℕ). FirstRuleAt i (suc slot.place) chain GiveUp) about first

  by_another : (rule : Rule) (place : ℕ) (chain : List Decree) → FirstRuleAt id place chain rule → (GiveUp ≡ rule → ⊥) → (slot : Slot) → IsGiven slot → ⊥
  by_another rule place chain first other slot given =
      other (same_first setup s coherent reach id rule GiveUp place (suc slot.place) chain given.1.0 first (first_here slot given.0 given.1.0 given.1.1))

  given_is : (place : ℕ) (chain : List Decree) → FirstRuleAt id place chain GiveUp → (slot : Slot) → In slot (slot_at id (pred place) ∷ []) ↔ IsGiven slot
  given_is place chain first slot = (
    λ is_in. elim is_in [
      | inl same ↦ subst IsGiven (sym same) (refl, (chain, subst (λ (p : ℕ). FirstRuleAt id p chain GiveUp) place_is first))
      | inr none ↦ absurd none
    ],
    λ given.
        let places : suc slot.place ≡ place =
        first_once setup s coherent reach id GiveUp GiveUp place (suc slot.place) chain given.1.0 first (first_here slot given.0 given.1.0 given.1.1) in
        let place_here : slot.place ≡ pred place = omega arith in
        inl (λ i. record { id = given.0 i; place = place_here i }),
  )
    where
      place_is : place ≡ suc (pred place)
      place_is = let behind = first.fits.further.behind in omega arith

  given_slots_are : (rule : Rule) (place : ℕ) (chain : List Decree) → FirstRuleAt id place chain rule → (slot : Slot) →
      In slot (given_slots setup s rule id place) ↔ IsGiven slot
  given_slots_are GiveUp place chain first slot = given_is place chain first slot
  given_slots_are Take place chain first slot = ((λ none. absurd none), (λ given. by_another Take place chain first (λ same. absurd (cc)) slot given))
  given_slots_are Follow place chain first slot = ((λ none. absurd none), (λ given. by_another Follow place chain first (λ same. absurd (cc)) slot given))
  given_slots_are Close place chain first slot = ((λ none. absurd none), (λ given. by_another Close place chain first (λ same. absurd (cc)) slot given))
  given_slots_are Lose place chain first slot = ((λ none. absurd none), (λ given. by_another Lose place chain first (λ same. absurd (cc)) slot given))
  given_slots_are Delete place chain first slot = ((λ none. absurd none), (λ given. by_another Delete place chain first (λ same. absurd (cc)) slot given))
  given_slots_are Expire place chain first slot = ((λ none. absurd none), (λ given. by_another Expire place chain first (λ same. absurd (cc)) slot given))
  given_slots_are Undeliver place chain first slot = ((λ none. absurd none), (λ given. by_another Undeliver place chain first (λ same. absurd (cc)) slot given))
  given_slots_are Try place chain first slot = ((λ none. absurd none), (λ given. by_another Try place chain first (λ same. absurd (cc)) slot given))
  given_slots_are Announce place chain first slot = ((λ none. absurd none), (λ given. by_another Announce place chain first (λ same. absurd (cc)) slot given))

  given_fall : (rule : Rule) (place : ℕ) → Fall (map (λ slot. slot.id) (given_slots setup s rule id place))
  given_fall Take place = tt
  given_fall Follow place = tt
  given_fall Close place = tt
  given_fall Lose place = tt
  given_fall GiveUp place = tt
  given_fall Delete place = tt
  given_fall Expire place = tt
  given_fall Undeliver place = tt
  given_fall Try place = tt
  given_fall Announce place = tt

  module _ (k : Kept) (slots : List Slot) (offers : List Offer) (agrees : Agrees setup k (later setup s slots offers))
      (on : AgreesOn setup s.actor s.records k id)
      (free : (message_at k id).round ≡ None) (apart_slots : (slot : Slot) → In slot slots → slot.id ≡ id → ⊥)
      (apart : (offer : Offer) → In offer offers → offer.slot.id ≡ id → ⊥) where
    -- ---- no rule fits

    one_none : first_rule setup k reach id ≡ None → RulesOne k slots offers (started setup k id None)
    one_none is = record {
      some_slots = [];
      some_offers = [];
      agrees = agrees;
      packets = refl;
      beside = beside_same k id;
      gives_up = λ slot. (
        (λ none. absurd none),
        λ given. absurd (none_fits setup s.actor s.records k reach id on is GiveUp (suc slot.place) given.1.0 (first_here slot given.0 given.1.0 given.1.1).fits),
      );
      starts = λ offer none. absurd none;
      all = λ slot ballot chain about starts may.
          let first = subst (λ (i : ℕ). FirstRuleAt i slot.place chain starts.0) about starts.1 in
          none_fits setup s.actor s.records k reach id on is starts.0 slot.place chain first.fits;
      slots_fall = tt;
      offers_fall = tt;
    }

    -- ---- a rule fits

    module _ (fit : Fitting) (first : FirstRuleAt id fit.start.place fit.start.chain fit.rule) where
      abbrev given : Node
      given = later setup s (given_slots setup s fit.rule id fit.start.place ++ slots) offers

      abbrev middle : Kept
      middle = given_up fit.rule k id (pred fit.start.place)

      middle_agrees : Agrees setup middle given
      middle_agrees = given_agrees setup s coherent reach id k slots offers agrees fit.rule fit.start.place fit.start.chain first.fits apart_slots

      start : IsDueStart setup given id Due fit.start
      start = is_start setup s coherent reach id k slots offers agrees quiet fit first

      begun : StartsAs setup middle given id Due (started setup middle id (Some fit.start))
      begun = started_as setup middle given middle_agrees mine (record { least = works.least; most = works.most; up = works.up }) id Due (Some fit.start) start

      abbrev ToPrepare : Act → Type 0
      ToPrepare = IsToPrepare setup given id Due

      an_offer : (act : Act) → ToPrepare act → (offer : Offer) × (act ≡ prepare_of offer)
      an_offer (Prepares slot ballot chain) due = (record { slot = slot; ballot = ballot; chain = chain }, refl)
      an_offer act due = absurd due

      runs_none : RunsNone setup.nodes setup.node given.actor id
      runs_none = subst (IsRoundOf setup.nodes setup.node given id) (given_round fit.rule k id (pred fit.start.place) free) (middle_agrees.message id).round

      -- by what the acts are
      by_offers : (new : Prepared) → IsBeside middle new.kept id → (acts : List Act) → ((act : Act) → In act acts → ToPrepare act) →
          ((act : Act) → ToPrepare act → In (key_of act) (map key_of acts)) →
          Fall (map key_of acts) → Agrees setup new.kept (reached_alone setup.node given acts) →
          new.packets ≡ reverse (packets_in setup.node given.actor given.records acts) →
          (some : List Offer) → acts ≡ map prepare_of some → RulesOne k slots offers new
      by_offers new beside acts only all order agrees_then packets some are = record {
        some_slots = given_slots setup s fit.rule id fit.start.place;
        some_offers = some;
        agrees =
            subst (Agrees setup new.kept)
            (ap (reached_alone setup.node given) are
            ∙ reached_starts setup s some (given_slots setup s fit.rule id fit.start.place ++ slots) offers)
            agrees_then;
        packets =
            packets
            ∙ ap (λ (acts : List Act). reverse (packets_in setup.node given.actor given.records acts)) are
            ∙ ap reverse (packets_of_starts setup s given.actor given.records some);
        beside = beside_then k middle new.kept id (given_beside fit.rule k id (pred fit.start.place)) beside;
        gives_up = given_slots_are fit.rule fit.start.place fit.start.chain first;
        starts = λ offer among.
            let due = only (prepare_of offer) (subst (λ (acts : List Act). In (prepare_of offer) acts) (sym are) (mapped_in prepare_of some offer among)) in (
              due.0,
              (
                subst (λ (i : ℕ). Starts setup s reach i offer.slot.place offer.chain) (sym due.0) due.1.0,
                may_before setup s (given_slots setup s fit.rule id fit.start.place ++ slots) offers id apart
                    (none_runs id) offer.slot offer.ballot due.0 due.1.1,
              ),
            );
        all = λ slot ballot chain about starts may.
            let due : ToPrepare (Prepares slot ballot chain) = (
              about,
              (
                subst (λ (i : ℕ). Starts setup s reach i slot.place chain) about starts,
                may_later setup s (given_slots setup s fit.rule id fit.start.place ++ slots) offers id apart runs_none slot ballot about may,
              ),
            ) in
            subst (In slot.id) (ap (map key_of) are ∙ keys_of_starts some) (all (Prepares slot ballot chain) due);
        slots_fall = given_fall fit.rule fit.start.place;
        offers_fall = subst Fall (ap (map key_of) are ∙ keys_of_starts some) order;
      }

      one_some : RulesOne k slots offers (started setup middle id (Some fit.start))
      one_some =
          let starts = starts_of setup s ToPrepare an_offer begun.acts begun.due.only in
          by_offers (started setup middle id (Some fit.start))
          (started_beside setup middle id (Some fit.start))
          begun.acts begun.due.only begun.due.all begun.due.order begun.agrees begun.packets starts.offers starts.are

    pub rules_one : RulesOne k slots offers (ruled setup k id (first_rule setup k reach id))
    rules_one = by_rule (first_rule setup k reach id) refl
      where
        by_rule : (found : Option Fitting) → first_rule setup k reach id ≡ found → RulesOne k slots offers (ruled setup k id found)
        by_rule None is = one_none is
        by_rule (Some fit) is = one_some fit (is_first setup s.actor s.records k reach id on fit is)
