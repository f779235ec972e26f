use Rattle.std.proofs.Common.{rules, ◌≡◌, ◌∷◌, List, sym, subst, arith}
use Rattle.mc_model.specs.synod.Lists.{In}
use Rattle.mc_parts.proofs.Membership.{in_right}
use Rattle.journal_laws.specs.Journals.{Entry}
use Rattle.journal_parts.proofs.Entering.{entering_among, entering_one}
use Rattle.journal_parts.proofs.register.Register.enter_each.Goals as goal

pub enter_own-requires-clause-among : goal.enter_own-requires-clause-among
enter_own-requires-clause-among g c =
    let split : c.loop-one.left.items ≡ c.in-Some.one ∷ c.pop_front.new.self.items = search rules in
    let newest = c.requires.newest in
    subst (λ (es : List Entry). In c.in-Some.one es) (sym newest.1)
    (in_right c.in-Some.one newest.0 c.args.copies.items (entering_among _ _ c.args.copies.items _ _ _ _ c.in-Some.one c.loop-one.invariant.0 split))

pub enter_own-requires-clause-sound : goal.enter_own-requires-clause-sound
enter_own-requires-clause-sound g c =
    let split : c.loop-one.left.items ≡ c.in-Some.one ∷ c.pop_front.new.self.items = search rules in
    c.requires.sound c.in-Some.one (entering_among _ _ c.args.copies.items _ _ _ _ c.in-Some.one c.loop-one.invariant.0 split)

pub loop-one-preserved : goal.loop-one-preserved
loop-one-preserved g c =
    let split : c.loop-one.left.items ≡ c.in-Some.one ∷ c.pop_front.new.self.items = search rules in
    let room = c.loop-one.invariant.1 in
    let less = c.in-Some-enter_own.ensures.left in (
      entering_one _ _ _ _ _ _ _ _ _ c.in-Some.one c.in-Some-enter_own.slip c.loop-one.invariant.0 split c.in-Some-enter_own.ensures.entered
          c.in-Some-enter_own.ensures.slips,
      grind (arith, split, room, less),
    )
