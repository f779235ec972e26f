-- Fields one after another.
use Rattle.std.proofs.Common.{◌≡◌, ℕ, ◌<◌, true, List, [], ◌∷◌, ◌++◌, length, Result, Ok, Err, inl, inr, refl, sym, ap, subst, ◌∙◌, arith, append_assoc}
use Rattle.std.proofs.lemmas.Bool.{and_parts}
use Rattle.std.proofs.lemmas.List.{append-nil}
use Rattle.octet_fields.specs.declared.defect.Defect.{Defect}
use Rattle.octet_fields.specs.Texts.{IsOctets}
use Rattle.octet_fields.specs.Kinds.{Kind, Number, Text, Counted, Parameters, Content, spelling, IsWithin, Part, Contents, spellings}
use Rattle.octet_fields.specs.Kinds.{AreWithin, is_sized, is_delimited, are_delimited, are_closed, join}
use Rattle.octet_fields.specs.Reading.{◌>>=◌, content_at, told, front_at, nothing_at, contents_at}
use Rattle.octet_fields.specs.Laws.{MayPrecede, IsFirstFault}
use Rattle.octet_fields.proofs.Octets.{bind_ok, ok_is}
use Rattle.octet_fields.proofs.Fields.{HoldsOctets, holds_octets, content_takes, content_again, stands_again}

abbrev pub HoldOctets : {E : Type 0} → (parts : List (Part E)) → Contents parts → Type 0
HoldOctets [] c = Unit {0}
HoldOctets (first ∷ others) c = HoldsOctets first.kind c.0 × HoldOctets others c.1

pub record TakesFront {E : Type 0} (fields : List (Part E)) (whole : List ℕ) (x : Contents fields × List ℕ) : Type 0 where
  pub parts : whole ≡ spellings fields x.0 ++ x.1
  pub rest : IsOctets x.1
  pub within : AreWithin fields x.0
  pub octets : HoldOctets fields x.0

told_ok : {A E : Type 0} (fault : Defect → E) (r : Result A Defect) (x : A) → told fault r ≡ Ok x → r ≡ Ok x
told_ok fault (Ok y) x e = ap Ok (ok_is y x e)
told_ok fault (Err d) x e = absurd cc

pub front_takes : {E : Type 0} (parts : List (Part E)) (octets : List ℕ) (x : Contents parts × List ℕ) → IsOctets octets →
    front_at parts octets ≡ Ok x →
    TakesFront parts octets x
front_takes {E} [] octets x are e =
    let made : Contents {E = E} [] × List ℕ = (tt, octets) in
    subst (λ (y : Contents {E = E} [] × List ℕ). TakesFront {E = E} [] octets y) (ok_is made x e)
    (record { parts = refl; rest = are; within = tt; octets = tt })
front_takes (first ∷ others) octets x are e =
    let a = bind_ok (told first.fault (content_at first.kind octets)) (λ y. front_at others y.1 >>= λ z. Ok ((y.0, z.0), z.1)) x e in
    let b = bind_ok (front_at others a.0.1) (λ z. Ok ((a.0.0, z.0), z.1)) x a.2 in
    let front = content_takes first.kind octets a.0 are (told_ok first.fault (content_at first.kind octets) a.0 a.1) in
    let behind = front_takes others a.0.1 b.0 front.rest b.1 in
    let made : Contents (first ∷ others) × List ℕ = ((a.0.0, b.0.0), b.0.1) in
    subst (λ (y : Contents (first ∷ others) × List ℕ). TakesFront (first ∷ others) octets y) (ok_is made x b.2) (record {
      parts = front.stands.parts ∙ ap (λ (rest : List ℕ). spelling first.kind a.0.0 ++ rest) behind.parts ∙ sym
          (append_assoc (spelling first.kind a.0.0) (spellings others b.0.0) b.0.1);
      rest = behind.rest;
      within = (front.stands.within, behind.within);
      octets = (holds_octets first.kind octets a.0.0 a.0.1 are front.stands, behind.octets);
    })

-- a field that says itself where it ends may stand before anything
delimited-sized : (kind : Kind) → is_delimited kind ≡ true → is_sized kind ≡ true
delimited-sized (Number size test) is = refl
delimited-sized (Text limit) is = refl
delimited-sized (Counted size most test) is = is
delimited-sized (Parameters most) is = absurd cc

delimited-before : (kind : Kind) (rest : List ℕ) → is_delimited kind ≡ true → MayPrecede kind rest
delimited-before (Number size test) rest is = tt
delimited-before (Text limit) rest is = tt
delimited-before (Counted size most test) rest is = tt
delimited-before (Parameters most) rest is = absurd cc

last-before : (kind : Kind) → MayPrecede kind []
last-before (Number size test) = tt
last-before (Text limit) = tt
last-before (Counted size most test) = tt
last-before (Parameters most) = refl

-- one field more at the front
more_again : {E : Type 0} (first : Part E) (others : List (Part E)) (c : Contents (first ∷ others)) (rest : List ℕ) →
    is_sized first.kind ≡ true → MayPrecede first.kind (spellings others c.1 ++ rest) → IsWithin first.kind c.0 →
    front_at others (spellings others c.1 ++ rest) ≡ Ok (c.1, rest) →
    front_at (first ∷ others) (spellings (first ∷ others) c ++ rest) ≡ Ok (c, rest)
more_again {E} first others c rest sized before within again =
    ap (front_at (first ∷ others)) (append_assoc (spelling first.kind c.0) (spellings others c.1) rest)
    ∙ ap (λ (r : Result (Content first.kind × List ℕ) Defect). told first.fault r >>= λ y. front_at others y.1 >>= λ z. Ok
    ((y.0, z.0), z.1)) (content_again first.kind c.0 (spellings others c.1 ++ rest) sized before within)
    ∙ ap (λ (r : Result (Contents others × List ℕ) E). r >>= λ z. Ok ((c.0, z.0), z.1)) again

pub front_again : {E : Type 0} (parts : List (Part E)) (c : Contents parts) (rest : List ℕ) → are_delimited parts ≡ true →
    AreWithin parts c →
    front_at parts (spellings parts c ++ rest) ≡ Ok (c, rest)
front_again [] c rest delimited within = refl
front_again (first ∷ others) c rest delimited within =
    let both = and_parts (is_delimited first.kind) (are_delimited others) delimited in
    more_again first others c rest (delimited-sized first.kind both.0) (delimited-before first.kind _ both.0) within.0
    (front_again others c.1 rest both.1 within.1)

closed_again : {E : Type 0} (parts : List (Part E)) (c : Contents parts) → are_closed parts ≡ true → AreWithin parts c →
    front_at parts (spellings parts c ++ []) ≡ Ok (c, [])
closed_again [] c closed within = refl
closed_again (last ∷ []) c closed within =
    more_again last [] c [] closed (last-before last.kind) within.0 refl
closed_again (first ∷ second ∷ others) c closed within =
    let both = and_parts (is_delimited first.kind) (are_closed (second ∷ others)) closed in
    more_again first (second ∷ others) c [] (delimited-sized first.kind both.0) (delimited-before first.kind _ both.0) within.0
    (closed_again (second ∷ others) c.1 both.1 within.1)

pub whole_again : {E : Type 0} (extra : E) (parts : List (Part E)) (c : Contents parts) → are_closed parts ≡ true → AreWithin parts c →
    contents_at extra parts (spellings parts c) ≡ Ok c
whole_again {E} extra parts c closed within =
    ap (λ (r : Result (Contents parts × List ℕ) E). r >>= λ x. nothing_at extra x.1 >>= λ _. Ok x.0)
    (ap (front_at parts) (sym (append-nil (spellings parts c))) ∙ closed_again parts c closed within)

pub record TakesWhole {E : Type 0} (fields : List (Part E)) (octets : List ℕ) (c : Contents fields) : Type 0 where
  pub spelled : octets ≡ spellings fields c
  pub within : AreWithin fields c

pub whole_takes : {E : Type 0} (extra : E) (parts : List (Part E)) (octets : List ℕ) (c : Contents parts) → IsOctets octets →
    contents_at extra parts octets ≡ Ok c →
    TakesWhole parts octets c
whole_takes {E} extra parts octets c are e =
    let a = bind_ok (front_at parts octets) (λ x. nothing_at extra x.1 >>= λ _. Ok x.0) c e in
    let front = front_takes parts octets a.0 are a.1 in
    ended a.0.0 a.0.1 front.parts front.within a.2
  where
    ended : (d : Contents parts) (rest : List ℕ) → octets ≡ spellings parts d ++ rest → AreWithin parts d →
        (nothing_at extra rest >>= λ _. Ok d) ≡ Ok c →
        TakesWhole parts octets c
    ended d [] parts_are within e =
        subst (λ (f : Contents parts). TakesWhole parts octets f) (ok_is d c e)
        (record { spelled = parts_are ∙ append-nil (spellings parts d); within = within })
    ended d (octet ∷ rest) parts_are within e = absurd cc

-- no octet, told in another word
pub nothing_at-told : {E : Type 0} (word : Defect → E) (extra : Defect) (octets : List ℕ) → nothing_at (word extra) octets ≡ told word (nothing_at extra octets)
nothing_at-told word extra [] = refl
nothing_at-told word extra (octet ∷ octets) = refl

-- ---- a front, and the fields behind it

pub bind-assoc : {A B C E : Type 0} (r : Result A E) (f : A → Result B E) (g : B → Result C E) → ((r >>= f) >>= g) ≡ (r >>= λ x. f x >>= g)
bind-assoc (Ok x) f g = refl
bind-assoc (Err e) f g = refl

pub bind-same : {A B E : Type 0} (r : Result A E) (f g : A → Result B E) → ((x : A) → f x ≡ g x) → (r >>= f) ≡ (r >>= g)
bind-same (Ok x) f g same = same x
bind-same (Err e) f g same = refl

abbrev ended : {A E : Type 0} → E → A × List ℕ → Result A E
ended extra x = nothing_at extra x.1 >>= λ _. Ok x.0

abbrev first_of_all : {E : Type 0} (first : Part E) (others : List (Part E)) → Content first.kind → Contents others × List ℕ →
    Result (Contents (first ∷ others) × List ℕ) E
first_of_all first others c z = Ok ((c, z.0), z.1)

module _ {B E : Type 0} (first : Part E) (others back : List (Part E)) (next : Contents (first ∷ (others ++ back)) × List ℕ → Result B E) where
  -- the fields behind the first
  by_first : ((rest : List ℕ) (more : Contents (others ++ back) × List ℕ → Result B E) → (front_at (others ++ back) rest >>= more) ≡
      (front_at others rest >>= λ y. front_at back y.1 >>= λ z. more (join others back y.0 z.0, z.1))) →
      (r : Result (Content first.kind × List ℕ) E) →
      ((r >>= λ x. front_at (others ++ back) x.1 >>= first_of_all first (others ++ back) x.0) >>= next) ≡
      ((r >>= λ x. front_at others x.1 >>= first_of_all first others x.0) >>= λ y. front_at back y.1 >>= λ z. next
      ((y.0.0, join others back y.0.1 z.0), z.1))
  by_first behind (Ok x) =
      bind-assoc (front_at (others ++ back) x.1) (first_of_all first (others ++ back) x.0) next
      ∙ behind x.1 (λ y. next ((x.0, y.0), y.1))
      ∙ sym (bind-assoc (front_at others x.1) (first_of_all first others x.0) (λ y. front_at back y.1 >>= λ z. next ((y.0.0, join others back y.0.1 z.0), z.1)))
  by_first behind (Err e) = refl

-- Fields are read front first, then those behind it.
pub front_at-join : {B E : Type 0} (front back : List (Part E)) (octets : List ℕ) (next : Contents (front ++ back) × List ℕ → Result B E) →
    (front_at (front ++ back) octets >>= next) ≡ (front_at front octets >>= λ x. front_at back x.1 >>= λ y. next (join front back x.0 y.0, y.1))
front_at-join [] back octets next = bind-same (front_at back octets) next (λ y. next (y.0, y.1)) (λ y. refl)
front_at-join (first ∷ others) back octets next =
    by_first first others back next (front_at-join others back) (told first.fault (content_at first.kind octets))

-- And so are all fields, in three pieces.
pub contents_at-join : {E : Type 0} (extra : E) (front middle back : List (Part E)) (octets : List ℕ) →
    contents_at extra (front ++ (middle ++ back)) octets ≡
    (front_at front octets >>= λ x. front_at middle x.1 >>= λ y. front_at back y.1 >>= λ z. ended extra
    (join front (middle ++ back) x.0 (join middle back y.0 z.0), z.1))
contents_at-join extra front middle back octets =
    front_at-join front (middle ++ back) octets (ended extra)
    ∙ bind-same (front_at front octets) (λ x. front_at (middle ++ back) x.1 >>= λ y. ended extra (join front (middle ++ back) x.0 y.0, y.1))
    (λ x. front_at middle x.1 >>= λ y. front_at back y.1 >>= λ z. ended extra
    (join front (middle ++ back) x.0 (join middle back y.0 z.0), z.1))
    (λ x. front_at-join middle back x.1 (λ y. ended extra (join front (middle ++ back) x.0 y.0, y.1)))

-- ---- the first fault

closed-first : {E : Type 0} (first : Part E) (others : List (Part E)) → are_closed (first ∷ others) ≡ true → is_sized first.kind ≡ true
closed-first first [] closed = closed
closed-first first (second ∷ others) closed =
    delimited-sized first.kind (and_parts (is_delimited first.kind) (are_closed (second ∷ others)) closed).0

closed-others : {E : Type 0} (first : Part E) (others : List (Part E)) → are_closed (first ∷ others) ≡ true → are_closed others ≡ true
closed-others first [] closed = refl
closed-others first (second ∷ others) closed =
    (and_parts (is_delimited first.kind) (are_closed (second ∷ others)) closed).1

err_is : {A E : Type 0} (d e : E) → ◌≡◌ {A = Result A E} (Err d) (Err e) → e ≡ d
err_is d e is = cc

ended_err : {A E : Type 0} (extra : E) (x : A) (octets : List ℕ) (fault : E) → ended extra (x, octets) ≡ Err fault → (0 < length octets) × (fault ≡ extra)
ended_err extra x [] fault e = absurd cc
ended_err extra x (octet ∷ octets) fault e = (omega arith, err_is extra fault e)

-- what fails behind the first field fails for the others alone
err_behind : {E : Type 0} (extra : E) (first : Part E) (others : List (Part E)) (c : Content first.kind)
    (r : Result (Contents others × List ℕ) E) (fault : E) → ((r >>= λ z. first_of_all first others c z) >>= ended extra) ≡ Err fault →
    (r >>= ended extra) ≡ Err fault
err_behind extra first others c (Ok (z, [])) fault e = absurd cc
err_behind extra first others c (Ok (z, octet ∷ octets)) fault e = cc
err_behind extra first others c (Err d) fault e = cc

pub first_fault : {E : Type 0} (extra : E) (parts : List (Part E)) (octets : List ℕ) (fault : E) → IsOctets octets →
    are_closed parts ≡ true → contents_at extra parts octets ≡ Err fault →
    IsFirstFault extra parts octets fault
first_fault {E} extra [] octets fault are closed e =
    let made : Contents {E = E} [] = tt in
    ended_err extra made octets fault e
first_fault {E} extra (first ∷ others) octets fault are closed e =
    by (λ rest rest_are failed. first_fault extra others rest fault rest_are (closed-others first others closed) failed) (content_at first.kind octets) refl e
  where
    clashes : {A : Type 0} (d : Defect) (x : A) → ◌≡◌ {A = Result A Defect} (Err d) (Ok x) → ⊥
    clashes d x clash = cc

    by : ((rest : List ℕ) → IsOctets rest → contents_at extra others rest ≡ Err fault → IsFirstFault extra others rest fault) →
        (r : Result (Content first.kind × List ℕ) Defect) → content_at first.kind octets ≡ r →
        ((told first.fault r >>= λ x. front_at others x.1 >>= λ z. first_of_all first others x.0 z) >>= ended extra) ≡ Err fault →
        IsFirstFault extra (first ∷ others) octets fault
    by later (Ok x) is e =
        let taken = content_takes first.kind octets x are is in
        inr (x.0, x.1, taken.stands, later x.1 taken.rest (err_behind extra first others x.0 (front_at others x.1) fault e))
    by later (Err d) is e =
        inl (
          λ content rest stands. absurd (clashes d (content, rest)
              (sym is ∙ stands_again first.kind octets content rest (closed-first first others closed) stands)),
          d,
          err_is (first.fault d) fault e,
        )
