-- Decrees are read one after another.
use Rattle.std.proofs.Common.{◌≡◌, ℕ, zero, suc, ◌+◌, ◌-◌, ◌<◌, ◌≤◌, List, [], ◌∷◌, ◌++◌, length, reverse, true, false, eqb, Result, Ok}
use Rattle.std.proofs.Common.{Err, IsOk, is_ok, refl, sym, ap, subst, ◌∙◌, arith}
use Rattle.std.proofs.lemmas.Bool.{eqb-true, false≢true}
use Rattle.std.proofs.lemmas.List.{nil_from_length, reverse-append}
use Rattle.mc_model.specs.message.Decree.{Decree}
use Rattle.mc_model.specs.message.Chain.{IsPermitted}
use Rattle.octet_fields.specs.declared.defect.Defect.{Defect}
use Rattle.octet_fields.specs.declared.defect.Defect.TheVariants.{Extra}
use Rattle.octet_fields.specs.Reading.{◌>>=◌}
use Rattle.fate_chain.specs.Bytes.{decree_at, decrees_at, chain_from, chain_at}
use Rattle.fate_chain.specs.declared.format.Format.{Format}
use Rattle.fate_chain.specs.Marks.{IsProgressOf}
use Rattle.fate_chain.specs.declared.progress.Progress.{Progress}
use Rattle.fate_chain.specs.declared.progress.Progress.TheVariants as progresses
use Rattle.fate_chain.specs.declared.marks.Standing.{Standing}

pub ok-not-err : {A : Type 0} (r : Result A Defect) (defect : Defect) → IsOk r → r ≡ Err defect → ⊥
ok-not-err r defect ok is = false≢true (sym (ap is_ok is) ∙ ok)

chain_from-more : (id : ℕ) (read : List Decree) (rest : List ℕ) → (rest ≡ [] → ⊥) → chain_from id (read, rest) ≡ Err Extra
chain_from-more id read [] more = absurd (more refl)
chain_from-more id read (o ∷ octets) more = refl

module _ (format : Format) where
  -- Of so many decrees these are read, the newest first, and so many are left to be read from the rest.
  pub record IsSoFar (count : ℕ) (octets : List ℕ) (left : ℕ) (read : List Decree) (rest : List ℕ) : Type 0 where
    pub whole : decrees_at format count [] octets ≡ decrees_at format left read rest
    pub counted : length read + left ≡ count

  decrees_at-more : (left : ℕ) (read : List Decree) (rest : List ℕ) (x : Decree × List ℕ) → 0 < left → decree_at format rest ≡ Ok x →
      decrees_at format left read rest ≡ decrees_at format (left - 1) (x.0 ∷ read) x.1
  unfolding decrees_at
  decrees_at-more zero read rest x some is = absurd (omega arith)
  decrees_at-more (suc left) read rest x some is =
      let one_less : left ≡ suc left - 1 = omega arith in
      ap (λ (o : Result (Decree × List ℕ) Defect). o >>= λ y. decrees_at format left (y.0 ∷ read) y.1) is ∙ ap (λ (n : ℕ). decrees_at format n (x.0 ∷ read) x.1) one_less

  decrees_at-err : (left : ℕ) (read : List Decree) (rest : List ℕ) (defect : Defect) → 0 < left → decree_at format rest ≡ Err defect →
      decrees_at format left read rest ≡ Err defect
  unfolding decrees_at
  decrees_at-err zero read rest defect some is = absurd (omega arith)
  decrees_at-err (suc left) read rest defect some is =
      ap (λ (o : Result (Decree × List ℕ) Defect). o >>= λ y. decrees_at format left (y.0 ∷ read) y.1) is

  decrees_at-end : (left : ℕ) (read : List Decree) (rest : List ℕ) → left ≤ 0 → decrees_at format left read rest ≡ Ok (read, rest)
  unfolding decrees_at
  decrees_at-end zero read rest none = refl
  decrees_at-end (suc left) read rest none = absurd (omega arith)

  pub so-far-more : (count : ℕ) (octets : List ℕ) (left : ℕ) (read : List Decree) (rest : List ℕ) (x : Decree × List ℕ) →
      IsSoFar count octets left read rest → 0 < left → decree_at format rest ≡ Ok x →
      IsSoFar count octets (left - 1) (x.0 ∷ read) x.1
  so-far-more count octets left read rest x so_far some is = record {
    whole = so_far.whole ∙ decrees_at-more left read rest x some is;
    counted = omega (arith, so_far.counted);
  }

  pub so-far-err : (count : ℕ) (octets : List ℕ) (left : ℕ) (read : List Decree) (rest : List ℕ) (defect : Defect) →
      IsSoFar count octets left read rest → 0 < left → decree_at format rest ≡ Err defect →
      decrees_at format count [] octets ≡ Err defect
  so-far-err count octets left read rest defect so_far some is = so_far.whole ∙ decrees_at-err left read rest defect some is

  pub so-far-all : (count : ℕ) (octets : List ℕ) (left : ℕ) (read : List Decree) (rest : List ℕ) → IsSoFar count octets left read rest →
      left ≤ 0 →
      decrees_at format count [] octets ≡ Ok (read, rest)
  so-far-all count octets left read rest so_far none = so_far.whole ∙ decrees_at-end left read rest none

  -- ---- with how far they have come towards a permitted chain

  pub record IsChecked (id count : ℕ) (octets : List ℕ) (left : ℕ) (rest : List ℕ) (progress : Progress) : Type 0 where
    pub read : List Decree
    pub so_far : IsSoFar count octets left read rest
    pub comes : IsProgressOf id read progress

  pub chain_at-err : (id count : ℕ) (octets : List ℕ) (defect : Defect) → decrees_at format count [] octets ≡ Err defect → chain_at format id count octets ≡ Err defect
  chain_at-err id count octets defect is = ap (λ (o : Result (List Decree × List ℕ) Defect). o >>= λ d. chain_from id d) is

  pub chain_at-more : (id count : ℕ) (octets : List ℕ) (read : List Decree) (rest : List ℕ) → decrees_at format count [] octets ≡ Ok (read, rest) →
      (rest ≡ [] → ⊥) →
      chain_at format id count octets ≡ Err Extra
  chain_at-more id count octets read rest is more =
      ap (λ (o : Result (List Decree × List ℕ) Defect). o >>= λ d. chain_from id d) is ∙ chain_from-more id read rest more

  pub chain_at-all : (id count : ℕ) (octets : List ℕ) (read : List Decree) (rest : List ℕ) → decrees_at format count [] octets ≡ Ok (read, rest) →
      rest ≡ [] →
      chain_at format id count octets ≡ Ok (record { id = id; decrees = read })
  chain_at-all id count octets read rest is none =
      ap (λ (o : Result (List Decree × List ℕ) Defect). o >>= λ d. chain_from id d) is ∙ ap (λ (r : List ℕ). chain_from id (read, r)) none

-- what is neither nothing nor a failure is permitted, and nothing else
pub progress-stands : (id : ℕ) (read : List Decree) (progress : Progress) (standing : Standing) → IsProgressOf id read progress →
    progress ≡ progresses.Stands standing →
    IsPermitted id read
progress-stands id read progress standing comes is = (subst (λ (p : Progress). IsProgressOf id read p) is comes).0

pub progress-fails : (id : ℕ) (read : List Decree) (progress : Progress) → IsProgressOf id read progress →
    ((standing : Standing) → progress ≡ progresses.Stands standing → ⊥) → IsPermitted id read →
    ⊥
progress-fails id [] progresses.Begins comes not_stands permitted = permitted
progress-fails id (newest ∷ older) progresses.Begins comes not_stands permitted = absurd cc
progress-fails id read (progresses.Stands standing) comes not_stands permitted = not_stands standing refl
progress-fails id read progresses.Fails comes not_stands permitted = comes.1 permitted

pub nothing_left : (rest : List ℕ) → eqb (length rest) 0 ≡ true → rest ≡ []
nothing_left rest is = nil_from_length rest (eqb-true _ _ is)

pub something_left : (rest : List ℕ) → eqb (length rest) 0 ≡ false → rest ≡ [] → ⊥
something_left rest is none = false≢true (sym is ∙ ap (λ (r : List ℕ). eqb (length r) 0) none)

pub pushed : (decrees more : List Decree) (decree same : Decree) → more ≡ decrees ++ decree ∷ [] → decree ≡ same → reverse more ≡ same ∷ reverse decrees
pushed decrees more decree same is equal =
    ap reverse is ∙ reverse-append decrees (decree ∷ []) ∙ ap (λ (d : Decree). d ∷ reverse decrees) equal
