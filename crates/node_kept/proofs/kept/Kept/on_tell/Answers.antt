use Rattle.std.proofs.Common.{◌≡◌, ◌∙◌, sym, subst, true}
use Rattle.std.proofs.lemmas.Result.{IfOk-weaker}
use Rattle.std.specs.Option.{option_copied}
use Rattle.node_model.specs.Outputs.{Stepped}
use Rattle.node_model.specs.Packets.{tells_about}
use Rattle.node_model.specs.Requests.{id_of}
use Rattle.waiting_requests.specs.Waiting.{held_of}
use Rattle.synod_acceptor.specs.Votes.{told_vote}
use Rattle.node_kept.specs.Keeping.{kept_of}
use Rattle.node_kept.specs.Steps.{IsStep}
use Rattle.node_kept.proofs.Tells.{sound_asked, tell_to}
use Rattle.node_kept.proofs.kept.Kept.on_tell.Goals as goal

pub hear-requires-clause-sound : goal.hear-requires-clause-sound
hear-requires-clause-sound c = sound_asked c.args.self.now c.args.name (held_of c.in-Some.held.now) c.requires (sym c.in-Some.ensures)

pub hear-requires-clause-about : goal.hear-requires-clause-about
hear-requires-clause-about c = sym c.is_told_by.ensures ∙ c.if-not-is_told_by.false

pub returns : goal.returns
returns c =
    let k = c.args.self.now in
    let told = told_vote (option_copied c.args.told) in
    let h = held_of c.in-Some.held.now in
    let about : tells_about told (id_of h) ≡ true = sym c.is_told_by.ensures ∙ c.if-not-is_told_by.false in
    let here = sym (tell_to k.setup (kept_of k) c.args.from c.args.name told h (sym c.in-Some.ensures) about) in
    IfOk-weaker c.hear.result _ _ (λ step is. subst (λ (s : Stepped). IsStep k s step) here is) c.hear.ensures
