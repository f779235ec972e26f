use Rattle.std.proofs.Common.{◌≡◌, ◌∙◌, Some, None, sym, ap, option_map}
use Rattle.std.proofs.lemmas.Result.{IfErr-weaker, IfOk-weaker}
use Rattle.node_model.specs.Message.{Message}
use Rattle.node_model.specs.Attempts.{known_refusal}
use Rattle.shelf.specs.Shelved.{value_at}
use Rattle.node_parts.specs.Attempting.{reason_of}
use Rattle.node_kept.specs.Keeping.{kept_of}
use Rattle.node_kept.proofs.Answering.{none_kept, taken_there}
use Rattle.node_kept.proofs.kept.Kept.attempt.Goals as goal

pub returns-in-Some-clause-known : goal.returns-in-Some-clause-known
returns-in-Some-clause-known c =
    let found : Some c.in-Some.message.now ≡ value_at c.args.self.now.messages.entries c.args.id = rw c.in-Some.is at c.find.ensures.value in
    let taken = taken_there c.args.self.now c.args.id c.in-Some.message.now (sym found) in
    IfOk-weaker c.attempt.result _ _ (λ chain known. sym (ap (λ (m : Message). m.known) taken.message) ∙ known) c.attempt.ensures.known

pub returns-in-Some-clause-given : goal.returns-in-Some-clause-given
returns-in-Some-clause-given c =
    let k = c.args.self.now in
    let found : Some c.in-Some.message.now ≡ value_at k.messages.entries c.args.id = rw c.in-Some.is at c.find.ensures.value in
    let taken = taken_there k c.args.id c.in-Some.message.now (sym found) in
    IfOk-weaker c.attempt.result _ _ (λ chain given.
    sym (ap (λ (m : Message). known_refusal k.setup (kept_of k) m m.known) taken.message)
    ∙ given k.setup (kept_of k) (record { node = c.author.ensures.node; incarnation = c.author.ensures.incarnation })) c.attempt.ensures.given

pub returns-in-Some-clause-refused : goal.returns-in-Some-clause-refused
returns-in-Some-clause-refused c =
    let k = c.args.self.now in
    let found : Some c.in-Some.message.now ≡ value_at k.messages.entries c.args.id = rw c.in-Some.is at c.find.ensures.value in
    let taken = taken_there k c.args.id c.in-Some.message.now (sym found) in
    IfErr-weaker c.attempt.result _ _ (λ refusal refused.
    sym (ap (λ (m : Message). option_map reason_of (known_refusal k.setup (kept_of k) m m.known)) taken.message)
    ∙ refused k.setup (kept_of k) (record { node = c.author.ensures.node; incarnation = c.author.ensures.incarnation })) c.attempt.ensures.refused

pub returns-in-None-clause-refused : goal.returns-in-None-clause-refused
returns-in-None-clause-refused c =
    let k = c.args.self.now in
    let none : None ≡ value_at k.messages.entries c.args.id = rw c.in-None.is at c.find.ensures.value in
    ap (λ (m : Message). option_map reason_of (known_refusal k.setup (kept_of k) m m.known)) (none_kept k c.args.id (sym none))
