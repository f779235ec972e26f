-- Several entries of one node are added one behind the other.
use Rattle.std.proofs.Common.{◌≡◌, List, [], ◌∷◌, ◌++◌, map, refl, sym, ap, subst, ◌∙◌, append_assoc, inl}
use Rattle.mc_model.specs.synod.Lists.{In}
use Rattle.mc_parts.proofs.Membership.{in_right}
use Rattle.std.proofs.lemmas.List.{map-append}
use Rattle.journal_laws.specs.Journals.{Entry}
use Rattle.journal_parts.specs.Registers.{HasEntered}
use Rattle.journal_parts.specs.Slips.{Slipped}

-- of these entries the first are added, with their slips, and these are left
pub record IsEntering (before : List Entry) (seated : List Slipped) (all left after : List Entry) (slips : List Slipped) : Type 0 where
  pub added : List Slipped
  pub are : all ≡ map (λ (slip : Slipped). slip.entry) added ++ left
  pub behind : after ≡ before ++ map (λ (slip : Slipped). slip.entry) added
  pub slipped : slips ≡ seated ++ added

pub entering_one : (before : List Entry) (seated : List Slipped) (all left later after next : List Entry) (slips more : List Slipped) (one : Entry) (slip : Slipped) →
    IsEntering before seated all left after slips → left ≡ one ∷ later → HasEntered after one next slip → more ≡ slips ++ slip ∷ [] →
    IsEntering before seated all later next more
entering_one before seated all left later after next slips more one slip so split entered add = record {
  added = so.added ++ slip ∷ [];
  are = so.are ∙ ap (λ (es : List Entry). map (λ (s : Slipped). s.entry) so.added ++ es) split
      ∙ ap (λ (e : Entry). map (λ (s : Slipped). s.entry) so.added ++ e ∷ later) (sym entered.is)
      ∙ sym (append_assoc (map (λ (s : Slipped). s.entry) so.added) (slip.entry ∷ []) later)
      ∙ ap (λ (es : List Entry). es ++ later) (sym (map-append (λ (s : Slipped). s.entry) so.added (slip ∷ [])));
  behind = entered.entries ∙ ap (λ (es : List Entry). es ++ one ∷ []) so.behind
      ∙ ap (λ (e : Entry). (before ++ map (λ (s : Slipped). s.entry) so.added) ++ e ∷ []) (sym entered.is)
      ∙ append_assoc before (map (λ (s : Slipped). s.entry) so.added) (slip.entry ∷ [])
      ∙ ap (λ (es : List Entry). before ++ es) (sym (map-append (λ (s : Slipped). s.entry) so.added (slip ∷ [])));
  slipped = add ∙ ap (λ (ss : List Slipped). ss ++ slip ∷ []) so.slipped ∙ append_assoc seated so.added (slip ∷ []);
}

pub entering_among : (before : List Entry) (seated : List Slipped) (all left later after : List Entry) (slips : List Slipped) (one : Entry) →
    IsEntering before seated all left after slips → left ≡ one ∷ later → In one all
entering_among before seated all left later after slips one so split =
    subst (λ (es : List Entry). In one es) (sym so.are)
    (in_right one (map (λ (s : Slipped). s.entry) so.added) left (subst (λ (es : List Entry). In one es) (sym split) (inl refl)))
