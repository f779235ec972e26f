use Rattle.std.proofs.Common.{rules}
use Rattle.std.proofs.lemmas.Map.Made.{map_same_pairs}
use Rattle.sessions.specs.Session.{Session}
use Rattle.sessions.specs.Steps.{on_tick}
use Rattle.esme_service.proofs.overdue.let_go_overdue.Goals as goal

pub returns : goal.returns
returns c =
    map_same_pairs _ (λ (session : Session). on_tick session c.args.now) _
    (λ k v b w f' t. search rules) c.args.sessions.now.entries c.retain.new.self.entries c.retain.ensures.filtered
