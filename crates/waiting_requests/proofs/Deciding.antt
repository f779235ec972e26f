-- What a cancel_sm that was settled is answered by a chain.
use Rattle.std.proofs.Common.{◌≡◌, ℕ, Bool, true, List, [], ◌∷◌, slice_get, Option, Some, sym, ap, ◌∙◌}
use Rattle.std.specs.Prelude.{if◌then◌else◌}
use Rattle.mc_model.specs.message.Submission.{Submission}
use Rattle.mc_model.specs.message.Decree.{Decree, Final, Kind}
use Rattle.mc_model.specs.message.Chain.{final_in, taken_in}
use Rattle.mc_model.specs.node.Replies.{NotMatched}
use Rattle.node_model.specs.Answers.{cancel_answer, cancel_answer_of, cancel_decided, is_match}

-- if it matches, by the state and the newest decree
pub decided_so : (account source destination : List ℕ) (chain : List Decree) (newest : Decree) (taken : Submission) (last : Option Final) (kind : Kind) →
    slice_get chain 0 ≡ Some newest → taken_in chain ≡ Some taken → is_match taken account source destination ≡ true → last ≡ final_in chain →
    kind ≡ newest.kind → cancel_answer last kind chain ≡ cancel_decided account source destination chain (taken_in chain)
decided_so account source destination [] newest taken last kind heads takes matches state is = absurd cc
decided_so account source destination (first ∷ older) newest taken last kind heads takes matches state is =
    let same : newest ≡ first = cc in
    let chain : List Decree = first ∷ older in
    let kinds : kind ≡ first.kind = is ∙ ap (λ (d : Decree). d.kind) same in
    (λ i. cancel_answer (state i) (kinds i) chain)
    ∙ sym (ap (cancel_decided account source destination chain) takes
    ∙ ap (λ (b : Bool). if b then cancel_answer_of chain else Some (NotMatched chain)) matches)
