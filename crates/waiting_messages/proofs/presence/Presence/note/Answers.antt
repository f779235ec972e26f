use Rattle.std.proofs.Common.{◌≡◌, Some, ap, ◌∙◌, sym, refl}
use Rattle.std.specs.Prelude.{position}
use Rattle.waiting_messages.specs.Presences.{Seen, is_of}
use Rattle.waiting_messages.proofs.Remembering.{found_account}
use Rattle.waiting_messages.proofs.presence.Presence.note.Goals as goal

pub returns-in-Some-clause-seen : goal.returns-in-Some-clause-seen
returns-in-Some-clause-seen c =
    let e : position (is_of c.args.account.now) c.self.inside.seen.items ≡ Some c.in-Some.place = rw c.self.view_is (sym c.place_of.ensures ∙ c.in-Some.is) in
    let same : c.behind-self.inside.account ≡ c.args.account.now =
    ap (λ (s : Seen). s.account) (c.behind-self.view_is ∙ c.index_mut.ensures.value) ∙ found_account _ _ _ _ e in
    rw (← c.self.view_is, e, same) refl
