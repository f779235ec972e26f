-- A step of a node that forgot what it heard of what is cold is that of one that did not, but for that.
use Rattle.std.proofs.Common.{◌≡◌, ℕ, max, Bool, true, false, List, [], ◌∷◌, filter, map, Option, Some, None, refl, sym, subst, ap, ◌∙◌, inl, inr}
use Rattle.std.specs.Prelude.{◌==◌, not, if◌then◌else◌}
use Rattle.std.specs.Map.{keys_of, lookup}
use Rattle.std.specs.Ordering.{nat_cmp}
use Rattle.std.specs.BTreeMap.{is_at}
use Rattle.std.specs.Option.{option_or, unwrap_or}
use Rattle.std.proofs.lemmas.Bool.{eqb-true}
use Rattle.mc_model.specs.message.Decree.{Decree}
use Rattle.mc_model.specs.node.Actor.{Cancel, Query, Request, Submit}
use Rattle.mc_model.specs.node.FirstRule.{Follow, Take}
use Rattle.mc_model.specs.node.Input.{Arrival, Crash, Delivery, Grant, Input, Refusal, Response, Restart, Tick}
use Rattle.mc_model.specs.node.Reach.{Reach}
use Rattle.mc_model.specs.node.Setup.{Setup}
use Rattle.mc_model.specs.synod.Acceptor.{Records}
use Rattle.mc_model.specs.synod.Lists.{In}
use Rattle.mc_model.specs.synod.Packet.{TopVote}
use Rattle.mc_parts.proofs.Membership.{in_filter}
use Rattle.node_model.specs.Acceptor.{told_of}
use Rattle.node_model.specs.Kept.{Held, Kept, message_at}
use Rattle.node_model.specs.Message.{Message, unseen}
use Rattle.node_model.specs.Outputs.{leaves}
use Rattle.node_model.specs.Proposer.{Prepared}
use Rattle.node_model.specs.Recorded.{recorded_in}
use Rattle.node_model.specs.Requests.{asks, higher_top, id_of}
use Rattle.node_model.specs.Rules.{first_rule, fitting, followed, known_rule, shown_to, taken_for}
use Rattle.node_model.specs.Starts.{follow, take_for}
use Rattle.node_model.specs.Stepped.{restarted, stepped, stepped_down, stepped_up}
use Rattle.node_model.specs.Ticks.{and_then, ids_of, ids_with, is_late, late_reply, on_tick, ruled, ruled_each, rules_then, tick_then, ticked, without_round}
use Rattle.node_model.proofs.Places.{message_elsewhere}
use Rattle.rest_laws.specs.Cooled.{AreCalm, IsCalm, Suits, cool, cool_step, cooled, cooled_if}
use Rattle.rest_laws.proofs.cooled.Entries.{cool_all, cooling, message_cooled}
use Rattle.rest_laws.proofs.cooled.Packets.{alike, arrival_any, higher_none, packet_any, step_twice, stopped_any}
use Rattle.rest_laws.proofs.forgetting.Kept.{less_prepared}
use Rattle.rest_laws.proofs.forgetting.Others.{grant_same, response_same}
use Rattle.rest_laws.proofs.forgetting.Rules.{first_same, ruled_same}
use Rattle.rest_laws.proofs.forgetting.Staying.{Staying, ruled_stays}
use Rattle.rest_laws.proofs.without.Resting.{no_known}
use Rattle.rest_laws.proofs.without.Staying.{apart_from, message_ticked, told_elsewhere}

-- ---- of what is calm no rule fits

takes_none : (setup : Setup) (k : Kept) (id : ℕ) (held : List Held) → ((h : Held) → In h held → id_of h ≡ id → asks h.waiting.request ≡ true) →
    taken_for setup k id held ≡ None
takes_none setup k id [] asked = refl
takes_none setup k id (h ∷ others) asked =
    by (id_of h == id) refl (takes_none setup k id others (λ other among same. asked other (inr among) same))
  where
    none : (request : Request) → asks request ≡ true → take_for setup k h request ≡ None
    none (Submit number message) is = absurd (cc)
    none (Query number account source) is = refl
    none (Cancel number account source destination) is = refl

    by : (b : Bool) → (id_of h == id) ≡ b → taken_for setup k id others ≡ None →
        option_or (if b then take_for setup k h h.waiting.request else None) (taken_for setup k id others) ≡ None
    by true is rest = let first = none h.waiting.request (asked h (inl refl) (eqb-true (id_of h) id is)) in λ i. option_or (first i) (rest i)
    by false is rest = rest

shows_none : (chain : List Decree) (id : ℕ) (held : List Held) (top : Option TopVote) →
    ((h : Held) → In h held → id_of h ≡ id → follow (Some chain) h.top ≡ None) → follow (Some chain) top ≡ None →
    follow (Some chain) (shown_to id held top) ≡ None
shows_none chain id [] top told none = none
shows_none chain id (h ∷ others) top told none =
    by (id_of h == id) refl (λ now reached. shows_none chain id others now (λ other among same. told other (inr among) same) reached)
  where
    by : (b : Bool) → (id_of h == id) ≡ b →
        ((now : Option TopVote) → follow (Some chain) now ≡ None → follow (Some chain) (shown_to id others now) ≡ None) →
        follow (Some chain) (shown_to id others (if b then higher_top top h.top else top)) ≡ None
    by true is rest = rest (higher_top top h.top) (higher_none chain top h.top none (told h (inl refl) (eqb-true (id_of h) id is)))
    by false is rest = rest top none

pub calm_rule : (setup : Setup) (k : Kept) (reach : Reach) (id : ℕ) → IsCalm k id → first_rule setup k reach id ≡ None
calm_rule setup k reach id calm =
    let t = takes_none setup k id k.held calm.asking in
    let f : followed k id ≡ None =
    ap (λ (o : Option (List Decree)). follow o (shown_to id k.held (told_of k.records id))) calm.known
    ∙ shows_none calm.chain id k.held (told_of k.records id) calm.told calm.reached in
    let r : known_rule setup k reach id (message_at k id).known ≡ None =
    ap (known_rule setup k reach id) calm.known ∙ no_known setup k reach id calm.chain calm.over in
    λ i. option_or (fitting Take (t i)) (option_or (fitting Follow (f i)) (r i))

-- ---- what is calm stays so, if nothing is done about it

-- it is as calm once it is cool
pub calm_cool : (cold : ℕ → Bool) (k : Kept) → AreCalm cold k → AreCalm cold (cool cold k)
calm_cool cold k calm id is =
    let same = message_cooled cold k id is in
    let old = calm id is in
    record {
      chain = old.chain;
      known = ap (λ (m : Message). m.known) same ∙ old.known;
      over = old.over;
      round = ap (λ (m : Message). m.round) same ∙ old.round;
      reached = old.reached;
      asking = old.asking;
      told = old.told;
    }

pub calm_staying : (cold : ℕ → Bool) → Staying cold (AreCalm cold)
calm_staying cold = record {
  other = λ k id m stays calm other is.
      let same = message_elsewhere k id other m (apart_from cold other id is stays) in
      let old = calm other is in
      record {
        chain = old.chain;
        known = ap (λ (x : Message). x.known) same ∙ old.known;
        over = old.over;
        round = ap (λ (x : Message). x.round) same ∙ old.round;
        reached = old.reached;
        asking = old.asking;
        told = old.told;
      };
  record_of = λ k slot new stays calm other is.
      let apart = apart_from cold other slot.id is stays in
      let same = message_elsewhere k slot.id other (message_at k slot.id) apart in
      let old = calm other is in
      record {
        chain = old.chain;
        known = ap (λ (x : Message). x.known) same ∙ old.known;
        over = old.over;
        round = ap (λ (x : Message). x.round) same ∙ old.round;
        reached = ap (follow (Some old.chain)) (told_elsewhere k.records slot new other apart) ∙ old.reached;
        asking = old.asking;
        told = old.told;
      };
  requests = λ k held comes calm id is.
      let old = calm id is in
      record {
        chain = old.chain;
        known = old.known;
        over = old.over;
        round = old.round;
        reached = old.reached;
        asking = λ h among same. elim (comes h among) [
          | inl from ↦ from.2.asking ∙ old.asking from.0 from.1 (sym from.2.id ∙ same)
          | inr apart ↦ absurd (apart_from cold id (id_of h) is apart (sym same))
        ];
        told = λ h among same. elim (comes h among) [
          | inl from ↦ ap (follow (Some old.chain)) from.2.top ∙ old.told from.0 from.1 (sym from.2.id ∙ same)
          | inr apart ↦ absurd (apart_from cold id (id_of h) is apart (sym same))
        ];
      };
  same = λ k now records messages held calm id is.
      let old = calm id is in
      let same = ap (λ (es : List (ℕ × Message)). unwrap_or (lookup (is_at (nat_cmp id)) es) unseen) (sym messages) in
      record {
        chain = old.chain;
        known = ap (λ (x : Message). x.known) same ∙ old.known;
        over = old.over;
        round = ap (λ (x : Message). x.round) same ∙ old.round;
        reached = ap (λ (r : Records). follow (Some old.chain) (told_of r id)) (sym records) ∙ old.reached;
        asking = λ h among. old.asking h (subst (λ (hs : List Held). In h hs) (sym held) among);
        told = λ h among. old.told h (subst (λ (hs : List Held). In h hs) (sym held) among);
      };
}

module _ (cold : ℕ → Bool) where
  -- ---- a tick goes by it

  abbrev prepared_cool : Prepared → Prepared
  prepared_cool p = less_prepared (cooling cold) p

  pub each_cool : (setup : Setup) (reach : Reach) (ids : List ℕ) (k : Kept) → AreCalm cold k →
      (ruled_each setup reach ids (cool cold k) ≡ prepared_cool (ruled_each setup reach ids k)) × AreCalm cold (ruled_each setup reach ids k).kept
  each_cool setup reach [] k calm = (refl, calm)
  each_cool setup reach (id ∷ others) k calm =
      by (cold id) refl (each_cool setup reach others (ruled setup k id (first_rule setup k reach id)).kept) (each_cool setup reach others k calm)
    where
      by : (b : Bool) → cold id ≡ b →
          (AreCalm cold (ruled setup k id (first_rule setup k reach id)).kept →
          (ruled_each setup reach others (cool cold (ruled setup k id (first_rule setup k reach id)).kept)
          ≡ prepared_cool (ruled_each setup reach others (ruled setup k id (first_rule setup k reach id)).kept))
          × AreCalm cold (ruled_each setup reach others (ruled setup k id (first_rule setup k reach id)).kept).kept) →
          ((ruled_each setup reach others (cool cold k) ≡ prepared_cool (ruled_each setup reach others k))
          × AreCalm cold (ruled_each setup reach others k).kept) →
          (ruled_each setup reach (id ∷ others) (cool cold k) ≡ prepared_cool (ruled_each setup reach (id ∷ others) k))
          × AreCalm cold (ruled_each setup reach (id ∷ others) k).kept
      by true is later now =
          let here : first_rule setup k reach id ≡ None = calm_rule setup k reach id (calm id is) in
          let there : first_rule setup (cool cold k) reach id ≡ None = calm_rule setup (cool cold k) reach id (calm_cool cold k calm id is) in
          let passes : ruled_each setup reach others k ≡ ruled_each setup reach (id ∷ others) k =
          λ i. and_then (ruled setup k id (sym here i)) (ruled_each setup reach others (ruled setup k id (sym here i)).kept) in (
            (λ i. and_then (ruled setup (cool cold k) id (there i)) (ruled_each setup reach others (ruled setup (cool cold k) id (there i)).kept))
                ∙ (now.0 ∙ ap prepared_cool passes),
            subst (λ (p : Prepared). AreCalm cold p.kept) passes now.1,
          )
      by false is later now =
          let first : ruled setup (cool cold k) id (first_rule setup (cool cold k) reach id) ≡ prepared_cool (ruled setup k id (first_rule setup k reach id)) =
          ap (ruled setup (cool cold k) id) (first_same (cooling cold) setup k reach id is)
          ∙ ruled_same (cooling cold) setup k id (first_rule setup k reach id) tt is in
          let rest = later (ruled_stays cold (AreCalm cold) (calm_staying cold) setup k id (first_rule setup k reach id) is calm) in (
            (λ i. and_then (first i) (ruled_each setup reach others (first i).kept))
                ∙ (λ i. and_then (prepared_cool (ruled setup k id (first_rule setup k reach id))) (rest.0 i)),
            rest.1,
          )

  ticked_entries : (es : List (ℕ × Message)) → map without_round (cool_all cold es) ≡ cool_all cold (map without_round es)
  ticked_entries [] = refl
  ticked_entries (e ∷ es) = by (cold e.0) (ticked_entries es)
    where
      by : (b : Bool) → map without_round (cool_all cold es) ≡ cool_all cold (map without_round es) →
          without_round (e.0, cooled_if b e.1) ∷ map without_round (cool_all cold es)
          ≡ (e.0, cooled_if b (record e.1 { round = None })) ∷ cool_all cold (map without_round es)
      by true rest = ap (λ (l : List (ℕ × Message)). (e.0, record (cooled e.1) { round = None }) ∷ l) rest
      by false rest = ap (λ (l : List (ℕ × Message)). (e.0, record e.1 { round = None }) ∷ l) rest

  ticked_cool : (k : Kept) (clock : ℕ) → ticked (cool cold k) clock ≡ cool cold (ticked k clock)
  ticked_cool k clock = λ i. record (ticked k clock) { messages = ticked_entries k.messages i }

  keys_cool : (es : List (ℕ × Message)) → keys_of (cool_all cold es) ≡ keys_of es
  keys_cool [] = refl
  keys_cool (e ∷ es) = ap (λ (l : List ℕ). e.0 ∷ l) (keys_cool es)

  ids_cool : (k : Kept) → ids_of (cool cold k) ≡ ids_of k
  ids_cool k = ap (ids_with k.held) (keys_cool k.messages)

  pub ticked_calm : (k : Kept) (clock : ℕ) → AreCalm cold k → AreCalm cold (ticked k clock)
  ticked_calm k clock calm = λ id is.
      let old = calm id is in
      let same = message_ticked k clock id in
      record {
        chain = old.chain;
        known = ap (λ (x : Message). x.known) same ∙ old.known;
        over = old.over;
        round = ap (λ (x : Message). x.round) same;
        reached = old.reached;
        asking = λ h among. old.asking h (in_filter (λ (x : Held). not (is_late clock x)) k.held h among);
        told = λ h among. old.told h (in_filter (λ (x : Held). not (is_late clock x)) k.held h among);
      }

  tick_cool : (setup : Setup) (k : Kept) (moment : ℕ) (reach : Reach) → AreCalm cold k →
      on_tick setup (cool cold k) moment reach ≡ cool_step cold (on_tick setup k moment reach)
  tick_cool setup k moment reach calm =
      let clock : ℕ = max k.clock moment in
      let late = map late_reply (filter (is_late clock) k.held) in
      (λ i. tick_then setup (ticked_cool k clock i) reach late)
      ∙ ((λ i. rules_then setup (cool cold (ticked k clock)) late (ruled_each setup reach (ids_cool (ticked k clock) i) (cool cold (ticked k clock))))
      ∙ (λ i. rules_then setup (cool cold (ticked k clock)) late
      ((each_cool setup reach (ids_of (ticked k clock)) (ticked k clock) (ticked_calm k clock calm)).0 i)))

  -- ---- whatever comes

  pub restarted_cool : (setup : Setup) (k : Kept) (lost : ℕ) → restarted setup (cool cold k) lost ≡ restarted setup k lost
  restarted_cool setup k lost =
      λ i. record (restarted setup k lost) { messages = map (λ id. (id, unseen)) (recorded_in k.records (keys_cool k.messages i)) }

  up_cool : (setup : Setup) (k : Kept) (input : Input) → AreCalm cold k → Suits setup cold k input →
      cool_step cold (stepped_up setup (cool cold k) input) ≡ cool_step cold (stepped_up setup k input)
  up_cool setup k (Delivery packet) calm suits = packet_any cold setup k packet calm suits
  up_cool setup k (Crash packet after) calm suits = alike cold _ _ (λ i. leaves (stopped_any cold setup k packet after i))
  up_cool setup k (Arrival request) calm suits = alike cold _ _ (arrival_any cold setup k request suits)
  up_cool setup k (Refusal status) calm suits = alike cold _ _ refl
  up_cool setup k (Tick moment reach) calm suits = alike cold _ _ (tick_cool setup k moment reach calm)
  up_cool setup k (Grant slot) calm suits = alike cold _ _ (grant_same (cooling cold) k slot tt suits)
  up_cool setup k (Response slot outcome) calm suits = alike cold _ _ (response_same (cooling cold) setup k slot outcome tt suits)
  up_cool setup k (Restart lost) calm suits = λ i. cool_step cold (leaves (restarted_cool setup k lost i))

  down_cool : (setup : Setup) (k : Kept) (input : Input) →
      cool_step cold (stepped_down setup (cool cold k) input) ≡ cool_step cold (stepped_down setup k input)
  down_cool setup k (Delivery packet) = step_twice cold (leaves k)
  down_cool setup k (Crash packet after) = step_twice cold (leaves k)
  down_cool setup k (Arrival request) = step_twice cold (leaves k)
  down_cool setup k (Refusal status) = step_twice cold (leaves k)
  down_cool setup k (Tick moment reach) = step_twice cold (leaves k)
  down_cool setup k (Grant slot) = step_twice cold (leaves k)
  down_cool setup k (Response slot outcome) = step_twice cold (leaves k)
  down_cool setup k (Restart lost) = λ i. cool_step cold (leaves (restarted_cool setup k lost i))

pub step_cool : (setup : Setup) (k : Kept) (cold : ℕ → Bool) (input : Input) → AreCalm cold k → Suits setup cold k input →
    cool_step cold (stepped setup (cool cold k) input) ≡ cool_step cold (stepped setup k input)
step_cool setup k cold input calm suits = by k.up
  where
    by : (b : Bool) →
        cool_step cold (if b then stepped_up setup (cool cold k) input else stepped_down setup (cool cold k) input)
        ≡ cool_step cold (if b then stepped_up setup k input else stepped_down setup k input)
    by true = up_cool cold setup k input calm suits
    by false = down_cool cold setup k input
