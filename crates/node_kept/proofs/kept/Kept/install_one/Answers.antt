use Rattle.std.proofs.Common.{subst}
use Rattle.node_kept.specs.declared.kept.Kept.{Kept as Holding}
use Rattle.node_kept.specs.declared.step.Next.{Next}
use Rattle.node_kept.specs.Steps.{IsInstalled}
use Rattle.node_kept.proofs.Installing.{installed_one}
use Rattle.node_kept.proofs.kept.Kept.install_one.Goals as goal

pub returns-clause-taken : goal.returns-clause-taken
returns-clause-taken c =
    let new : Holding = record {
      alloc = c.install.new.self.alloc;
      setup = c.install.new.self.setup;
      incarnation = c.install.new.self.incarnation;
      clock = c.install.new.self.clock;
      serial = c.install.new.self.serial;
      given = c.install.new.self.given;
      queue = c.install.new.self.queue;
      messages = c.install.new.self.messages;
    } in
    installed_one c.args.self.now c.args.step c.requires.step c.ascends.ensures c.requires.room c.requires.listings new c.requires.own
    (subst (λ (next : Next). IsInstalled c.args.self.now next new) c.whole-next.ensures.next c.install.ensures) c.ascends-2.ensures
