-- Whether a final state of a message was known before.
use Rattle.std.proofs.Common.{◌≡◌, ℕ, true, false, List, Option, Some, None, refl, sym, ap, ◌∙◌}
use Rattle.std.specs.Prelude.{not}
use Rattle.std.specs.Option.{is_none}
use Rattle.std.proofs.lemmas.Bool.{true≢false}
use Rattle.mc_model.specs.message.Decree.{Decree, Final}
use Rattle.mc_model.specs.message.Chain.{final_in}
use Rattle.mc_model.specs.node.Knowledge.{IsKnown, Knows}
use Rattle.mc_model.specs.synod.Packet.{Packet}
use Rattle.mc_parts.proofs.Known.{knows_one}
use Rattle.node_model.specs.Answers.{had_fate}

module _ (nodes : ℕ) (received : List Packet) (id : ℕ) where
  pub no_fate_before : (known : Option (List Decree)) → IsKnown nodes received id known → had_fate known ≡ false → (older : List Decree) (final : Final) →
      Knows nodes received id older → final_in older ≡ Some final → ⊥
  no_fate_before None none fate older final knew ends = none _ _ knew.learned
  no_fate_before (Some old) is fate older final knew ends =
      let same : older ≡ old = knows_one nodes received id older old knew is in
      let has : final_in old ≡ Some final = ap final_in (sym same) ∙ ends in
      true≢false (sym (ap (λ (f : Option Final). not (is_none f)) has) ∙ fate)

  pub record HadFate : Type 0 where
    pub older : List Decree
    pub final : Final
    pub knew : Knows nodes received id older
    pub ends : final_in older ≡ Some final

  pub fate_before : (known : Option (List Decree)) → IsKnown nodes received id known → had_fate known ≡ true → HadFate
  fate_before None none fate = absurd (true≢false (sym fate))
  fate_before (Some old) is fate = by_final (final_in old) (λ final ends. record { older = old; final = final; knew = is; ends = ends }) fate
    where
      by_final : (state : Option Final) → ((final : Final) → state ≡ Some final → HadFate) → not (is_none state) ≡ true → HadFate
      by_final None made has = absurd (true≢false (sym has))
      by_final (Some final) made has = made final refl
