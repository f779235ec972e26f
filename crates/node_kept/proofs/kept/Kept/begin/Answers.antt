use Rattle.std.proofs.Common.{refl, sym, subst, ℕ}
use Rattle.node_kept.specs.declared.kept.Kept.{Kept as Holding}
use Rattle.node_kept.specs.Keeping.{IsOpen}
use Rattle.node_kept.proofs.Beginning.{begun}
use Rattle.node_kept.proofs.kept.Kept.begin.Goals as goal

pub returns : goal.returns
returns c = λ with starts records is.
    let new : Holding = record {
      alloc = c.args.self.now.alloc;
      setup = c.args.self.now.setup;
      incarnation = c.args.incarnation;
      clock = c.args.self.now.clock;
      serial = c.args.self.now.serial;
      given = c.args.self.now.given;
      queue = c.args.self.now.queue;
      messages = c.renew.new.self;
    } in
    subst (λ (starts : ℕ). IsOpen with starts records new) c.author-me.ensures.incarnation
    (begun c.author-me.result with starts records c.args.self.now new c.author-me.ensures.node refl (sym c.author-me.ensures.incarnation) refl refl refl refl
    c.renew.ensures is)
