use Rattle.std.proofs.Common.{[], ◌∷◌, inl, refl, sym, subst}
use Rattle.mc_model.specs.synod.Lists.{In}
use Rattle.mc_parts.proofs.Membership.{in_right}
use Rattle.journal_laws.specs.Journals.{Entry}
use Rattle.std.proofs.Common.{List}
use Rattle.journal_parts.proofs.register.Register.enter.Goals as goal

pub enter_own-requires-clause-among : goal.enter_own-requires-clause-among
enter_own-requires-clause-among g c =
    let newest = c.requires.newest in
    subst (λ (es : List Entry). In c.args.copies es) (sym newest.1) (in_right c.args.copies newest.0 (c.args.copies ∷ []) (inl refl))
