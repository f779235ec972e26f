use Rattle.std.proofs.Common.{◌≡◌, ℕ, ◌<◌, ◌≤◌, List, Some, filter, length, map, ap, ◌∙◌, subst, sym, arith}
use Rattle.std.proofs.lemmas.Bool.{iff_false}
use Rattle.std.specs.Prelude.{option_map}
use Rattle.mc_model.specs.message.Chain.{Chain}
use Rattle.mc_model.specs.message.Submission.{Submission}
use Rattle.mc_model.specs.node.Outputs.{Receipt}
use Rattle.esme_service.specs.Reports.{is_for, submitter_of, waits_for, waits_if}
use Rattle.node_model.specs.Reported.{receipt_of}
use Rattle.esme_service.proofs.Queued.{counted, full, has_room, if_ok, items_if, one_more}
use Rattle.esme_service.proofs.waiting.Waiting.add.Goals as goal

pub returns-then-is_full-clause-waits : goal.returns-then-is_full-clause-waits
returns-then-is_full-clause-waits c =
    let receipt = receipt_of c.args.chain in
    let account = c.behind-chain.inside.submitter in
    let chains = c.self.inside.chains.items in
    let of : submitter_of receipt ≡ Some account =
    ap (option_map (λ (taken : Submission). taken.submitter)) c.submission.ensures ∙ ap (λ (taken : Submission). Some taken.submitter) (sym c.behind-chain.view_is) in
    let count = ap (λ (cs : List Chain). length (filter (λ chain. is_for account (receipt_of chain)) cs)) c.deref.ensures.value ∙ counted account chains in
    let over : 10000 ≤ length (filter (is_for account) (map receipt_of chains)) =
    subst (λ (n : ℕ). 10000 ≤ n) count (c.is_full.ensures.0 c.if-is_full.true) in
    subst (λ (w : List Receipt). w ≡ waits_for account w receipt) c.self.view_is (full account (map receipt_of chains) receipt over)
    ∙ sym (ap (waits_if c.args.self.now receipt) of)

pub returns-clause-waits : goal.returns-clause-waits
returns-clause-waits c =
    let receipt = receipt_of c.args.chain in
    let account = c.behind-chain.inside.submitter in
    let chains = c.self.inside.chains.items in
    let of : submitter_of receipt ≡ Some account =
    ap (option_map (λ (taken : Submission). taken.submitter)) c.submission.ensures ∙ ap (λ (taken : Submission). Some taken.submitter) (sym c.behind-chain.view_is) in
    let count = ap (λ (cs : List Chain). length (filter (λ chain. is_for account (receipt_of chain)) cs)) c.deref.ensures.value ∙ counted account chains in
    let not_over : 10000 ≤ length (filter (is_for account) (map receipt_of chains)) → ⊥ =
    λ over. iff_false c.is_full.ensures c.if-is_full.false (subst (λ (n : ℕ). 10000 ≤ n) (sym count) over) in
    let below : length (filter (is_for account) (map receipt_of chains)) < 10000 = grind (arith, not_over) in
    if_ok c.push.result _ _ (λ items. subst (λ (w : List Receipt). map receipt_of c.push.new.self.items ≡ waits_for account w receipt) c.self.view_is
    (ap (map receipt_of) items ∙ one_more chains c.args.chain ∙ has_room account (map receipt_of chains) receipt below)
    ∙ sym (ap (waits_if c.args.self.now receipt) of)) (items_if c.push.result c.push.new.self.items _ _ c.push.ensures.items)
