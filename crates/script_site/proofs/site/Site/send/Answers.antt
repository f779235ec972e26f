use Rattle.std.proofs.Common.{◌≡◌, ◌∙◌, Bool, List, ℕ, None, ap, subst}
use Rattle.esme_service.specs.Pushes.{is_long, target_in}
use Rattle.esme_service.specs.Pushing.{GoesOut}
use Rattle.sessions.specs.declared.pushed.Delivery.TheVariants.{Attempt}
use Rattle.mc_model.specs.message.Submission.{Submission}
use Rattle.script_site.proofs.Sending.{pushed_acts, untaken_acts}
use Rattle.script_site.proofs.site.Site.send.Goals as goal

pub returns-in-Some : goal.returns-in-Some
returns-in-Some c =
    let taken : Submission = c.submission-taken.result.now in
    let long : c.is_long.result ≡ is_long taken.text = c.is_long.ensures ∙ ap (λ (t : Submission). is_long t.text) c.taken.view_is in
    let target = ap (λ (t : Submission). t.target) c.taken.view_is in
    pushed_acts (record { world = c.args.world.now; site = c.args.self.now }) c.args.chain taken
    (record { id = c.id.result; place = c.place.result }) c.submission-taken.ensures (λ i. record { id = c.id.ensures i; place = c.place.ensures.place i })
    c.write_sending.result c.push.new.self c.in-Some.pushed c.clock-now.result c.args.text.now.items c.write_sending.new.text.items c.clock-now.ensures
    (subst (λ (l : Bool). GoesOut c.args.self.now.service.sessions l taken.target c.clock-now.result
    (Attempt (record { id = c.id.result; place = c.place.result })) c.in-Some.pushed c.push.new.self.sessions) long
    (subst (λ (account : List ℕ). GoesOut c.args.self.now.service.sessions c.is_long.result account c.clock-now.result
    (Attempt (record { id = c.id.result; place = c.place.result })) c.in-Some.pushed c.push.new.self.sessions) target c.in-Some.ensures.pushed))
    c.in-Some.ensures.waiting c.write_sending.ensures

pub returns-in-None : goal.returns-in-None
returns-in-None c =
    let taken : Submission = c.submission-taken.result.now in
    let long : c.is_long.result ≡ is_long taken.text = c.is_long.ensures ∙ ap (λ (t : Submission). is_long t.text) c.taken.view_is in
    let target = ap (λ (t : Submission). t.target) c.taken.view_is in
    untaken_acts (record { world = c.args.world.now; site = c.args.self.now }) c.args.chain taken
    (record { id = c.id.result; place = c.place.result }) c.submission-taken.ensures (λ i. record { id = c.id.ensures i; place = c.place.ensures.place i })
    c.conclude.result c.conclude.new.world c.push.new.self _ c.args.text.now.items c.unanswered.ensures
    (subst (λ (l : Bool). target_in c.args.self.now.service.sessions l taken.target ≡ None) long
    (subst (λ (account : List ℕ). target_in c.args.self.now.service.sessions c.is_long.result account ≡ None) target c.in-None.ensures.pushed.0))
    c.in-None.ensures.pushed.1 c.in-None.ensures.waiting c.conclude.ensures
