use Rattle.std.proofs.Common.{◌≡◌, None, subst}
use Rattle.journal_parts.specs.Faults.{fault_at}
use Rattle.journal_parts.specs.Members.{Membered}
use Rattle.journal_parts.proofs.Faults.{memory_told}
use Rattle.journal_parts.proofs.member.Member.prepare.Goals as goal

pub returns-in_err-make_room-clause-faults : goal.returns-in_err-make_room-clause-faults
returns-in_err-make_room-clause-faults g c =
    memory_told c.from_residual-in_err-make_room.result (fault_at c.args.self.now.post.node c.args.step) c.from_residual-in_err-make_room.ensures.1
    (subst (λ (v : Membered _). fault_at v.post.node c.args.step ≡ None) c.self.view_is c.in_ok-ready.ensures.allowed)
