use Rattle.std.proofs.Common.{◌∙◌, sym, ap, subst}
use Rattle.std.proofs.lemmas.Result.{IfOk-weaker}
use Rattle.std.specs.Option.{option_copied}
use Rattle.node_model.specs.Kept.{Held, message_at}
use Rattle.node_model.specs.Outputs.{Stepped}
use Rattle.node_model.specs.Packets.{told_to}
use Rattle.node_model.specs.Requests.{id_of, told_by}
use Rattle.waiting_requests.specs.Waiting.{held_of}
use Rattle.synod_acceptor.specs.Votes.{told_vote}
use Rattle.node_kept.specs.Keeping.{kept_of}
use Rattle.node_kept.specs.Queueing.{IsSound}
use Rattle.node_kept.specs.Steps.{IsStep}
use Rattle.node_kept.proofs.Queueing.{sound_told}
use Rattle.node_kept.proofs.kept.Kept.hear.Goals as goal

pub told_to-requires-clause-sound : goal.told_to-requires-clause-sound
told_to-requires-clause-sound c =
    let k = c.args.self.now in
    let told = told_vote (option_copied c.args.told) in
    let copy = ap held_of c.in_ok-held.ensures in
    let same = c.in_ok-hear.ensures.ok ∙ ap (λ (h : Held). told_by h c.args.from told) copy in
    subst (IsSound k.setup.node k.incarnation) (sym same)
    (sound_told k.setup.node k.incarnation c.args.from told (held_of c.args.held.now) c.requires.about c.requires.sound)

pub returns : goal.returns
returns c =
    let k = c.args.self.now in
    let told = told_vote (option_copied c.args.told) in
    let copy = ap held_of c.in_ok-held.ensures in
    let same = c.in_ok-hear.ensures.ok ∙ ap (λ (h : Held). told_by h c.args.from told) copy in
    let here = ap (λ (h : Held). told_to k.setup (kept_of k) (message_at (kept_of k) (id_of h)).known h) same in
    IfOk-weaker c.told_to.result _ _ (λ step is. subst (λ (s : Stepped). IsStep k s step) here is) c.told_to.ensures
