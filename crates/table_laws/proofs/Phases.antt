-- Packets of several rounds, delivered one after the other: each leads its own round on.
use Rattle.std.proofs.Common.{◌≡◌, ℕ, true, List, [], ◌∷◌, ◌++◌, flat_map, map, refl, sym, ap, ◌∙◌, append-nil, append_assoc, length, arith}
use Rattle.std.specs.Ordering.{nat_cmp}
use Rattle.std.specs.Map.{keys_of}
use Rattle.std.specs.BTreeSet.{insert_key}
use Rattle.mc_model.specs.synod.Packet.{Packet}
use Rattle.mc_model.specs.node.Input.{Delivery}
use Rattle.mc_model.specs.node.Outputs.{Receipt, Reply}
use Rattle.mc_model.specs.node.Setup.{Setup}
use Rattle.node_model.specs.Kept.{Kept}
use Rattle.node_model.specs.Outputs.{sends}
use Rattle.node_model.specs.Stepped.{stepped}
use Rattle.table_laws.proofs.Apart.{AreApart, AreListed, Each, IsApart, IsSameApart, Next, apart_more, apart_none, each_but, listed_as}
use Rattle.table_laws.proofs.Frames.{IsSameBut}
use Rattle.table_laws.proofs.Leading.{Leads, leads_on, leads_then, settling, leads_most, leads_same}

module _ (setup : Setup) (P Q : Kept → Next → Type 0) (packet : Next → Packet) (sent : Next → List Packet) (due : Next → List Receipt) where
  -- the packet of a round is delivered
  pub record Passes (k : Kept) (round : Next) : Type 0 where
    pub new : Kept
    pub step : stepped setup k (Delivery (packet round)) ≡ sends new (sent round) [] (due round)
    pub after : Q new round
    pub same : IsSameBut round.id k new
    pub held : new.held ≡ k.held

  -- a change of another message is no matter to a round
  pub record AreOwn : Type 0 where
    pub passes : (k : Kept) (round : Next) → k.up ≡ true → k.held ≡ [] → P k round → Passes k round
    pub before : (id : ℕ) (k new : Kept) → IsSameBut id k new → (round : Next) → (round.id ≡ id → ⊥) → P k round → P new round
    pub behind : (rounds : List Next) (k new : Kept) → IsSameApart rounds k new → (round : Next) → IsApart round.id rounds → Q k round → Q new round

  pub record AllPass (rounds : List Next) (k : Kept) (queue : List Packet) (replies : List Reply) (receipts : List Receipt) : Type 0 where
    pub new : Kept
    pub leads : Leads setup (length rounds) (settling k (map packet rounds ++ queue) replies receipts)
        (settling new (queue ++ flat_map sent rounds) replies (receipts ++ flat_map due rounds))
    pub each : Each Q new rounds
    pub same : IsSameApart rounds k new

  joined : AreOwn → (round : Next) (rounds : List Next) (k : Kept) (queue : List Packet) (replies : List Reply) (receipts : List Receipt) →
      IsApart round.id rounds → insert_key nat_cmp (keys_of k.messages) round.id ≡ keys_of k.messages → (one : Passes k round) →
      AllPass rounds one.new (queue ++ sent round) replies (receipts ++ due round) → AllPass (round ∷ rounds) k queue replies receipts
  joined own round rounds k queue replies receipts apart listed one rest = record {
    new = rest.new;
    leads =
        leads_most setup (length (round ∷ rounds)) _ _ (omega arith)
        (leads_then setup _ _ _ (leads_on setup k (packet round) (map packet rounds ++ queue) replies receipts
        (sends one.new (sent round) [] (due round)) one.step)
        (leads_then setup _ _ _
        (leads_same setup _ _ (λ i. settling one.new (append_assoc (map packet rounds) queue (sent round) i) (append-nil replies i) (receipts ++ due round)))
        (leads_then setup _ _ _ rest.leads
        (leads_same setup _ _ (λ i. settling rest.new (append_assoc queue (sent round) (flat_map sent rounds) i) replies
        (append_assoc receipts (due round) (flat_map due rounds) i))))));
    each = (own.behind rounds one.new rest.new rest.same round apart one.after, rest.each);
    same = apart_more round rounds k one.new rest.new one.same one.held listed rest.same;
  }

  pub all_pass : AreOwn → (rounds : List Next) (k : Kept) (queue : List Packet) (replies : List Reply) (receipts : List Receipt) → k.up ≡ true → k.held ≡ [] →
      AreApart rounds → AreListed (keys_of k.messages) rounds → Each P k rounds → AllPass rounds k queue replies receipts
  all_pass own [] k queue replies receipts up held apart listed each = record {
    new = k;
    leads = leads_same setup _ _ (λ i. settling k (sym (append-nil queue) i) replies (sym (append-nil receipts) i));
    each = tt;
    same = apart_none k;
  }
  all_pass own (round ∷ rounds) k queue replies receipts up held apart listed each =
      let one = own.passes k round up held each.0 in
      joined own round rounds k queue replies receipts apart.0 listed.0 one
      (all_pass own rounds one.new (queue ++ sent round) replies (receipts ++ due round) (one.same.up ∙ up) (one.held ∙ held) apart.1
      (listed_as (keys_of k.messages) (keys_of one.new.messages) rounds (one.same.ids ∙ listed.0) listed.1)
      (each_but P round.id k one.new (own.before round.id k one.new one.same) rounds apart.0 each.1))

-- lists of one each, and of none
pub one_each : {A : Type 0} (f : Next → A) (rounds : List Next) → flat_map (λ round. f round ∷ []) rounds ≡ map f rounds
one_each f [] = refl
one_each {A = A} f (round ∷ rounds) = ap (λ (xs : List A). f round ∷ xs) (one_each f rounds)

pub none_each : {A : Type 0} (none : Next → List A) → ((round : Next) → none round ≡ []) → (rounds : List Next) → flat_map none rounds ≡ []
none_each none is [] = refl
none_each none is (round ∷ rounds) = rw (is round) (none_each none is rounds)
