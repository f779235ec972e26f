use Rattle.std.proofs.Common.{◌≡◌, ◌<◌, ◌≤◌, ℕ, List, length, Err, Result, false, refl, sym, ap, subst, ◌∙◌, inl, inr, arith}
use Rattle.std.proofs.Math.ListN.{set}
use Rattle.stable_store.specs.declared.fault.StoreFault.{StoreFault}
use Rattle.stable_store.specs.declared.fault.StoreFault.TheVariants.{Incarnations, Memory}
use Rattle.world.specs.Members.{HasBegun, HasChanged, Keeps, fault_of_store}
use Rattle.world.specs.Runs.{IsSomewhere}
use Rattle.world.specs.Scenes.{Placed, Scene}
use Rattle.world.proofs.Ending.{begun_somewhere}
use Rattle.world.proofs.Placing.{found_member, kept_somewhere, keeps_one}
use Rattle.world.proofs.world.World.restart_at.Goals as goal

pub returns-in-Ok-clause-begun : goal.returns-in-Ok-clause-begun
returns-in-Ok-clause-begun c =
    let old = c.args.self.now in
    let items = c.self.inside.members.items in
    let m = c.index_mut.result.now in
    let members : items ≡ old.members = ap (λ (w : Scene). w.members) c.self.view_is in
    let inside = ap (λ (ms : List Placed). length ms) members in
    let found = found_member old items c.args.place m members (omega (arith, inside, c.requires)) c.index_mut.ensures.value in
    let new : Scene = record { members = set items c.args.place c.restart.new.self; packets = c.self.inside.packets.sent; fresh = false } in
    let changed : HasChanged old c.args.place c.restart.new.self new =
    record { members = ap (λ (ms : List Placed). set ms c.args.place c.restart.new.self) members; fresh = refl } in
    record {
      member = m;
      is = record { place_is = refl; found = found };
      after = c.restart.new.self;
      restarted = c.in-Ok.ensures.restarted;
      changed = changed;
      packets = ap (λ (w : Scene). w.packets) c.self.view_is;
      gives = c.nothing.ensures;
    }

pub invariant_of-self : goal.invariant_of-self
invariant_of-self c =
    let old = c.args.self.now in
    let items = c.self.inside.members.items in
    let m = c.index_mut.result.now in
    let members : items ≡ old.members = ap (λ (w : Scene). w.members) c.self.view_is in
    let inside = ap (λ (ms : List Placed). length ms) members in
    let found = found_member old items c.args.place m members (omega (arith, inside, c.requires)) c.index_mut.ensures.value in
    let new : Scene = record { members = set items c.args.place c.restart.new.self; packets = c.self.inside.packets.sent; fresh = false } in
    let changed : HasChanged old c.args.place c.restart.new.self new =
    record { members = ap (λ (ms : List Placed). set ms c.args.place c.restart.new.self) members; fresh = refl } in
    let has : HasBegun old c.args.place c.nothing.result new = record {
      member = m;
      is = record { place_is = refl; found = found };
      after = c.restart.new.self;
      restarted = c.in-Ok.ensures.restarted;
      changed = changed;
      packets = ap (λ (w : Scene). w.packets) c.self.view_is;
      gives = c.nothing.ensures;
    } in
    begun_somewhere old new c.args.place c.nothing.result has
    (subst (λ (w : Scene). IsSomewhere w) c.self.view_is c.self.invariant)

below : (n : ℕ) → (9999 ≤ n → ⊥) → n < 9999
below n past = omega (arith, past)

memory_clash : Memory ≡ Incarnations → ⊥
memory_clash same = cc

err_is : {a b : StoreFault} → ◌≡◌ {A = Result (Unit {0}) StoreFault} (Err a) (Err b) → a ≡ b
err_is same = cc

pub returns-in-Err-clause-refused : goal.returns-in-Err-clause-refused
returns-in-Err-clause-refused c =
    let old = c.args.self.now in
    let items = c.self.inside.members.items in
    let m = c.index_mut.result.now in
    let members : items ≡ old.members = ap (λ (w : Scene). w.members) c.self.view_is in
    let inside = ap (λ (ms : List Placed). length ms) members in
    let found = found_member old items c.args.place m members (omega (arith, inside, c.requires)) c.index_mut.ensures.value in
    record {
      member = m;
      is = record { place_is = refl; found = found };
      why = elim c.in-Err.ensures.faults [
        | inl spent ↦ inl (c.from.ensures ∙ ap fault_of_store spent, c.in-Err.ensures.spent.0 (λ i. Err (spent i)))
        | inr memory ↦ inr (
          c.from.ensures ∙ ap fault_of_store memory,
          below m.node.kept.incarnation (λ past. memory_clash (sym memory ∙ err_is (c.in-Err.ensures.spent.1 past))),
        )
      ];
    }

pub returns-in-Err-clause-stays : goal.returns-in-Err-clause-stays
returns-in-Err-clause-stays c =
    let old = c.args.self.now in
    let items = c.self.inside.members.items in
    let m = c.index_mut.result.now in
    let members : items ≡ old.members = ap (λ (w : Scene). w.members) c.self.view_is in
    let inside = ap (λ (ms : List Placed). length ms) members in
    let found = found_member old items c.args.place m members (omega (arith, inside, c.requires)) c.index_mut.ensures.value in
    let new : Scene = record { members = set items c.args.place c.restart.new.self; packets = c.self.inside.packets.sent; fresh = c.self.inside.fresh } in
    keeps_one old c.args.place m c.restart.new.self new found c.in-Err.ensures.stays
    (ap (λ (ms : List Placed). set ms c.args.place c.restart.new.self) members)
    (ap (λ (w : Scene). w.packets) c.self.view_is)
    (ap (λ (w : Scene). w.fresh) c.self.view_is)

pub invariant_of-self-in-Err : goal.invariant_of-self-in-Err
invariant_of-self-in-Err c =
    let old = c.args.self.now in
    let items = c.self.inside.members.items in
    let m = c.index_mut.result.now in
    let members : items ≡ old.members = ap (λ (w : Scene). w.members) c.self.view_is in
    let inside = ap (λ (ms : List Placed). length ms) members in
    let found = found_member old items c.args.place m members (omega (arith, inside, c.requires)) c.index_mut.ensures.value in
    let new : Scene = record { members = set items c.args.place c.restart.new.self; packets = c.self.inside.packets.sent; fresh = c.self.inside.fresh } in
    let stays : Keeps old new =
    keeps_one old c.args.place m c.restart.new.self new found c.in-Err.ensures.stays
    (ap (λ (ms : List Placed). set ms c.args.place c.restart.new.self) members)
    (ap (λ (w : Scene). w.packets) c.self.view_is)
    (ap (λ (w : Scene). w.fresh) c.self.view_is) in
    kept_somewhere old new stays
    (subst (λ (w : Scene). IsSomewhere w) c.self.view_is c.self.invariant)
