-- Chains: what is read is spelled so and within its limits, and what is spelled so is read.
use Rattle.std.proofs.Common.{◌≡◌, ℕ, zero, suc, ◌+◌, ◌<◌, ◌≤◌, Bool, true, false, cond, eqb, List, [], ◌∷◌, ◌++◌, length, Option, Some, None}
use Rattle.std.proofs.Common.{Result, Ok, Err, refl, sym, ap, subst, ◌∙◌, arith, append_assoc}
use Rattle.std.proofs.lemmas.Bool.{eqb-true, eqb-false}
use Rattle.std.proofs.lemmas.List.{append-nil}
use Rattle.mc_model.specs.message.Submission.{Submission}
use Rattle.mc_model.specs.message.Decree.{Kind, Taken, Attempt, Failed, Fate, Told, Final, Delivered, Expired, Deleted, Undeliverable, Rejected, Decree}
use Rattle.mc_model.specs.message.Chain.{Chain}
use Rattle.mc_types.proofs.Texts.{is_id-tells, is_id-told}
use Rattle.octet_fields.specs.declared.defect.Defect.{Defect}
use Rattle.octet_fields.specs.declared.defect.Defect.TheVariants.{Unfit}
use Rattle.octet_fields.specs.Texts.{IsOctets}
use Rattle.octet_fields.specs.Kinds.{Contents, spellings, AreWithin, are_delimited, is_between}
use Rattle.octet_fields.specs.Reading.{◌>>=◌, front_at, passing}
use Rattle.octet_fields.proofs.Octets.{bind_ok, ok_is}
use Rattle.octet_fields.proofs.Fields.{is_between-tells}
use Rattle.octet_fields.proofs.Records.{front_takes, front_again}
use Rattle.pdu_fields.proofs.Optional.{tlvs-given, tlvs_in-octets}
use Rattle.pdu_codec.proofs.PduSpelling.{find-passes}
use Rattle.fate_chain.specs.States.{final_code, finals, final_in}
use Rattle.fate_chain.specs.Bytes.{octet, error, party_fields, parties_in, handling_fields, handling_in, text_fields, texts_in, kind_code}
use Rattle.fate_chain.specs.Bytes.{head_fields, head_in, submission_octets, kind_octets, decree_octets, decrees_octets, chain_fields}
use Rattle.fate_chain.specs.Bytes.{MessageFits, KindFits, DecreeFits, DecreesFit, Fits, message_of, message_at, found}
use Rattle.fate_chain.specs.declared.format.Format.{Format}
use Rattle.fate_chain.specs.declared.format.Format.TheVariants.{First, Second}
use Rattle.fate_chain.specs.Content.{has_room}
use Rattle.fate_chain.specs.Bytes.{format_number, format_of, is_content, most_kind, octets_in, texts_at}
use Rattle.fate_chain.specs.Bytes.{kind_at, decree_of, decree_at, decrees_at, chain_from, chain_at, read_chain}

abbrev done : {A : Type 0} → A → Result A Defect
done x = Ok x

-- ---- the final state of a decree

final-told : (f : Final) → final_in (final_code f) ≡ Some f
unfolding final_in
final-told Delivered = refl
final-told Expired = refl
final-told Deleted = refl
final-told Undeliverable = refl
final-told Rejected = refl

final-tells : (code : ℕ) (f : Final) → found (final_in code) ≡ Ok f → final_code f ≡ code
unfolding final_in
final-tells code f e = by (final_in code) refl e
  where
    by : (o : Option Final) → final_in code ≡ o → found o ≡ Ok f → final_code f ≡ code
    by None is e = absurd cc
    by (Some g) is e = eqb-true _ _ (find-passes (λ x. eqb (final_code x) code) finals f (is ∙ ap Some (ok_is g f e)))

-- ---- three parts before a rest

apart : (a b c rest : List ℕ) → (a ++ b ++ c) ++ rest ≡ a ++ (b ++ (c ++ rest))
apart a b c rest = append_assoc (a ++ b) c rest ∙ append_assoc a b (c ++ rest)

-- the length of a text has one octet or two
texts_delimited : (format : Format) → are_delimited (text_fields format) ≡ true
texts_delimited First = refl
texts_delimited Second = refl

kinds_few : (format : Format) → most_kind format ≤ 5
kinds_few First = omega arith
kinds_few Second = omega arith

passing_takes : {A : Type 0} (test : A → Bool) (y x : A × List ℕ) → passing test y ≡ Ok x → (test x.0 ≡ true) × (y ≡ x)
passing_takes {A} test y x e = by (test y.0) refl e
  where
    by : (is : Bool) → test y.0 ≡ is → ◌≡◌ {A = Result (A × List ℕ) Defect} (cond is (Ok y) (Err Unfit)) (Ok x) → (test x.0 ≡ true) × (y ≡ x)
    by true is e = let same = ok_is y x e in (subst (λ (z : A × List ℕ). test z.0 ≡ true) same is, same)
    by false is e = absurd cc

module _ (format : Format) where
  -- ---- the text of a message, and what is passed on

  record TakesTexts (octets : List ℕ) (x : Contents (text_fields format) × List ℕ) : Type 0 where
    front : front_at (text_fields format) octets ≡ Ok x
    beside : is_content x.0 ≡ true

  texts_take : (octets : List ℕ) (x : Contents (text_fields format) × List ℕ) → texts_at format octets ≡ Ok x → TakesTexts octets x
  texts_take octets x e =
      let t = bind_ok (front_at (text_fields format) octets) (λ t. passing is_content t) x e in
      let passes = passing_takes is_content t.0 x t.2 in
      record { front = t.1 ∙ ap (λ (y : Contents (text_fields format) × List ℕ). done y) passes.1; beside = passes.0 }

  texts_again : (m : Submission) (rest : List ℕ) → MessageFits format m →
      texts_at format (spellings (text_fields format) (texts_in format m) ++ rest) ≡ Ok (texts_in format m, rest)
  texts_again m rest fits =
      ap (λ (o : Result (Contents (text_fields format) × List ℕ) Defect). o >>= λ t. passing is_content t)
      (front_again (text_fields format) (texts_in format m) rest (texts_delimited format) fits.texts)
      ∙ ap (λ (is : Bool). cond is (done (texts_in format m, rest)) (Err Unfit)) fits.beside

  -- ---- messages

  record TakesMessage (octets : List ℕ) (x : Submission × List ℕ) : Type 0 where
    parts : octets ≡ submission_octets format x.0 ++ x.1
    rest : IsOctets x.1
    fits : MessageFits format x.0

  message_takes : (octets : List ℕ) (x : Submission × List ℕ) → IsOctets octets → message_at format octets ≡ Ok x → TakesMessage octets x
  unfolding message_at
  message_takes octets x are e =
      let a = bind_ok (front_at party_fields octets)
      (λ p. front_at handling_fields p.1 >>= λ h. texts_at format h.1 >>= λ t. Ok (message_of p.0 h.0 t.0, t.1)) x e in
      let b = bind_ok (front_at handling_fields a.0.1) (λ h. texts_at format h.1 >>= λ t. Ok (message_of a.0.0 h.0 t.0, t.1)) x a.2 in
      let c = bind_ok (texts_at format b.0.1) (λ t. Ok (message_of a.0.0 b.0.0 t.0, t.1)) x b.2 in
      let parties = front_takes party_fields octets a.0 are a.1 in
      let handling = front_takes handling_fields a.0.1 b.0 parties.rest b.1 in
      let with_room = texts_take b.0.1 c.0 c.1 in
      let texts = front_takes (text_fields format) b.0.1 c.0 handling.rest with_room.front in
      let made : Submission × List ℕ = (message_of a.0.0 b.0.0 c.0.0, c.0.1) in
      let passed = tlvs-given c.0.0.1.0 texts.octets.1.0 texts.within.1.0.1 in
      let texts_are : texts_in format made.0 ≡ c.0.0 = ap (λ (o : List ℕ). (c.0.0.0, (o, tt))) (sym passed.spelled) in
      let whole : octets ≡ spellings party_fields a.0.0 ++ (spellings handling_fields b.0.0 ++ (spellings (text_fields format) c.0.0 ++ c.0.1)) =
      parties.parts ∙ ap (λ (r : List ℕ). spellings party_fields a.0.0 ++ r)
      (handling.parts ∙ ap (λ (r : List ℕ). spellings handling_fields b.0.0 ++ r) texts.parts) in
      subst (λ (y : Submission × List ℕ). TakesMessage octets y) (ok_is made x c.2) (record {
        parts = whole ∙ sym (apart (spellings party_fields a.0.0) (spellings handling_fields b.0.0) (spellings (text_fields format) c.0.0) c.0.1) ∙ ap
            (λ (t : Contents (text_fields format)). (spellings party_fields a.0.0 ++ spellings handling_fields b.0.0 ++ spellings (text_fields format) t) ++ c.0.1) (sym texts_are);
        rest = texts.rest;
        fits = record {
          parties = parties.within;
          handling = handling.within;
          texts = subst
              (λ (t : Contents (text_fields format)). AreWithin (text_fields format) t) (sym texts_are) texts.within;
          beside = subst (λ (o : List ℕ). has_room c.0.0.0 o ≡ true) passed.spelled with_room.beside;
          passed = passed.limits;
        };
      })

  message_again : (m : Submission) (rest : List ℕ) → MessageFits format m → message_at format (submission_octets format m ++ rest) ≡ Ok (m, rest)
  unfolding message_at
  message_again m rest fits =
      let handling : List ℕ = spellings handling_fields (handling_in m) in
      let texts : List ℕ = spellings (text_fields format) (texts_in format m) in
      ap (message_at format) (apart (spellings party_fields (parties_in m)) handling texts rest)
      ∙ ap (λ (o : Result (Contents party_fields × List ℕ) Defect). o >>= λ p. front_at handling_fields p.1 >>= λ h. texts_at format
      h.1 >>= λ t. Ok (message_of p.0 h.0 t.0, t.1)) (front_again party_fields (parties_in m) (handling ++ (texts ++ rest)) refl fits.parties)
      ∙ ap (λ (o : Result (Contents handling_fields × List ℕ) Defect). o >>= λ h. texts_at format h.1 >>= λ t. Ok
      (message_of (parties_in m) h.0 t.0, t.1)) (front_again handling_fields (handling_in m) (texts ++ rest) refl fits.handling)
      ∙ ap (λ (o : Result (Contents (text_fields format) × List ℕ) Defect). o >>= λ t. Ok (message_of (parties_in m) (handling_in m) t.0, t.1))
      (texts_again m rest fits)
      ∙ ap (λ (tlvs : List (ℕ × List ℕ)). done (record m { passed = tlvs }, rest)) (tlvs_in-octets m.passed fits.passed)

  -- ---- kinds

  record TakesKind (code : ℕ) (octets : List ℕ) (x : Kind × List ℕ) : Type 0 where
    code_is : kind_code x.0 ≡ code
    parts : octets ≡ kind_octets format x.0 ++ x.1
    rest : IsOctets x.1
    fits : KindFits format x.0

  module _ (code : ℕ) (octets : List ℕ) (x : Kind × List ℕ) (are : IsOctets octets) where
    taken : code ≡ 1 → (message_at format octets >>= λ y. done (Taken y.0, y.1)) ≡ Ok x → TakesKind code octets x
    taken is e =
        let b = bind_ok (message_at format octets) (λ y. done (Taken y.0, y.1)) x e in
        let front = message_takes octets b.0 are b.1 in
        let made : Kind × List ℕ = (Taken b.0.0, b.0.1) in
        subst (λ (y : Kind × List ℕ). TakesKind code octets y) (ok_is made x b.2)
        (record { code_is = sym is; parts = front.parts; rest = front.rest; fits = front.fits })

    attempt : code ≡ 2 → (front_at (octet ∷ []) octets >>= λ y. done (Attempt y.0.0, y.1)) ≡ Ok x → TakesKind code octets x
    attempt is e =
        let b = bind_ok (front_at (octet ∷ []) octets) (λ y. done (Attempt y.0.0, y.1)) x e in
        let front = front_takes (octet ∷ []) octets b.0 are b.1 in
        let made : Kind × List ℕ = (Attempt b.0.0.0, b.0.1) in
        subst (λ (y : Kind × List ℕ). TakesKind code octets y) (ok_is made x b.2)
        (record { code_is = sym is; parts = front.parts; rest = front.rest; fits = front.within })

    failed : code ≡ 3 → (front_at (error ∷ []) octets >>= λ y. done (Failed y.0.0, y.1)) ≡ Ok x → TakesKind code octets x
    failed is e =
        let b = bind_ok (front_at (error ∷ []) octets) (λ y. done (Failed y.0.0, y.1)) x e in
        let front = front_takes (error ∷ []) octets b.0 are b.1 in
        let made : Kind × List ℕ = (Failed b.0.0.0, b.0.1) in
        subst (λ (y : Kind × List ℕ). TakesKind code octets y) (ok_is made x b.2)
        (record { code_is = sym is; parts = front.parts; rest = front.rest; fits = front.within })

    fate : code ≡ 4 → (front_at (octet ∷ error ∷ []) octets >>= λ y. found (final_in y.0.0) >>= λ f. done (Fate f y.0.1.0, y.1)) ≡ Ok x → TakesKind code octets x
    fate is e =
        let b = bind_ok (front_at (octet ∷ error ∷ []) octets) (λ y. found (final_in y.0.0) >>= λ f. done (Fate f y.0.1.0, y.1)) x e in
        let f = bind_ok (found (final_in b.0.0.0)) (λ f. done (Fate f b.0.0.1.0, b.0.1)) x b.2 in
        let front = front_takes (octet ∷ error ∷ []) octets b.0 are b.1 in
        let made : Kind × List ℕ = (Fate f.0 b.0.0.1.0, b.0.1) in
        let code_is : b.0.0 ≡ (final_code f.0, b.0.0.1) = ap (λ (n : ℕ). (n, b.0.0.1)) (sym (final-tells b.0.0.0 f.0 f.1)) in
        subst (λ (y : Kind × List ℕ). TakesKind code octets y) (ok_is made x f.2) (record {
          code_is = sym is;
          parts = front.parts ∙ ap (λ (h : Contents (octet ∷ error ∷ [])). spellings (octet ∷ error ∷ []) h ++ b.0.1) code_is;
          rest = front.rest;
          fits = subst (λ (h : Contents (octet ∷ error ∷ [])). AreWithin (octet ∷ error ∷ []) h) code_is front.within;
        })

    told : code ≡ 5 → done (Told, octets) ≡ Ok x → TakesKind code octets x
    told is e =
        let made : Kind × List ℕ = (Told, octets) in
        subst (λ (y : Kind × List ℕ). TakesKind code octets y) (ok_is made x e) (record { code_is = sym is; parts = refl; rest = are; fits = tt })

    choose : {r s : Result (Kind × List ℕ) Defect} (n : ℕ) → (code ≡ n → r ≡ Ok x → TakesKind code octets x) →
        ((code ≡ n → ⊥) → s ≡ Ok x → TakesKind code octets x) → cond (eqb code n) r s ≡ Ok x →
        TakesKind code octets x
    choose {r} {s} n then' else' e = by (eqb code n) refl e
      where
        by : (b : Bool) → eqb code n ≡ b → cond b r s ≡ Ok x → TakesKind code octets x
        by true is e = then' (eqb-true _ _ is) e
        by false is e = else' (eqb-false _ _ is) e

    kind_takes : 1 ≤ code → code ≤ most_kind format → kind_at format code octets ≡ Ok x → TakesKind code octets x
    unfolding kind_at
    kind_takes least most e =
        choose 1 taken (λ not1. choose 2 attempt (λ not2. choose 3 failed (λ not3. choose 4 fate
        (λ not4. told (omega (arith, most, kinds_few format, not1, not2, not3, not4)))))) e

  kind_again : (kind : Kind) (rest : List ℕ) → KindFits format kind → kind_at format (kind_code kind) (kind_octets format kind ++ rest) ≡ Ok (kind, rest)
  unfolding kind_at
  kind_again (Taken message) rest fits = ap (λ (o : Result (Submission × List ℕ) Defect). o >>= λ y. done (Taken y.0, y.1)) (message_again message rest fits)
  kind_again (Attempt number) rest fits =
      ap (λ (o : Result (Contents (octet ∷ []) × List ℕ) Defect). o >>= λ y. done (Attempt y.0.0, y.1)) (front_again (octet ∷ []) (number, tt) rest refl fits)
  kind_again (Failed cause) rest fits =
      ap (λ (o : Result (Contents (error ∷ []) × List ℕ) Defect). o >>= λ y. done (Failed y.0.0, y.1)) (front_again (error ∷ []) (cause, tt) rest refl fits)
  kind_again (Fate final cause) rest fits =
      ap (λ (o : Result (Contents (octet ∷ error ∷ []) × List ℕ) Defect). o >>= λ y. found (final_in y.0.0) >>= λ f. done
      (Fate f y.0.1.0, y.1)) (front_again (octet ∷ error ∷ []) (final_code final, (cause, tt)) rest refl fits)
      ∙ ap (λ (o : Option Final). found o >>= λ f. done (Fate f cause, rest)) (final-told final)
  kind_again Told rest fits = refl

  -- ---- decrees

  record TakesDecree (octets : List ℕ) (x : Decree × List ℕ) : Type 0 where
    parts : octets ≡ decree_octets format x.0 ++ x.1
    rest : IsOctets x.1
    fits : DecreeFits format x.0

  decree_takes : (octets : List ℕ) (x : Decree × List ℕ) → IsOctets octets → decree_at format octets ≡ Ok x → TakesDecree octets x
  unfolding decree_at decree_octets
  decree_takes octets x are e =
      let a = bind_ok (front_at (head_fields format) octets) (λ h. kind_at format h.0.0 h.1 >>= λ k. Ok (decree_of h.0 k.0, k.1)) x e in
      let b = bind_ok (kind_at format a.0.0.0 a.0.1) (λ k. Ok (decree_of a.0.0 k.0, k.1)) x a.2 in
      let head = front_takes (head_fields format) octets a.0 are a.1 in
      let code = is_between-tells 1 (most_kind format) a.0.0.0 head.within.0.1 in
      let kind = kind_takes a.0.0.0 a.0.1 b.0 head.rest code.0 code.1 b.1 in
      let made : Decree × List ℕ = (decree_of a.0.0 b.0.0, b.0.1) in
      let head_is : head_in made.0 ≡ a.0.0 = ap (λ (code : ℕ). (code, a.0.0.1)) kind.code_is in
      subst (λ (y : Decree × List ℕ). TakesDecree octets y) (ok_is made x b.2) (record {
        parts = head.parts ∙ ap (λ (r : List ℕ). spellings (head_fields format) a.0.0 ++ r) kind.parts ∙ sym
            (append_assoc (spellings (head_fields format) a.0.0) (kind_octets format b.0.0) b.0.1) ∙ ap
            (λ (h : Contents (head_fields format)). (spellings (head_fields format) h ++ kind_octets format b.0.0) ++ b.0.1) (sym head_is);
        rest = kind.rest;
        fits = record { head = subst (λ (h : Contents (head_fields format)). AreWithin (head_fields format) h) (sym head_is) head.within; kind = kind.fits };
      })

  decree_again : (d : Decree) (rest : List ℕ) → DecreeFits format d → decree_at format (decree_octets format d ++ rest) ≡ Ok (d, rest)
  unfolding decree_at decree_octets
  decree_again d rest fits =
      ap (decree_at format) (append_assoc (spellings (head_fields format) (head_in d)) (kind_octets format d.kind) rest)
      ∙ ap (λ (o : Result (Contents (head_fields format) × List ℕ) Defect). o >>= λ h. kind_at format h.0.0 h.1 >>= λ k. Ok (decree_of h.0 k.0, k.1))
      (front_again (head_fields format) (head_in d) (kind_octets format d.kind ++ rest) refl fits.head)
      ∙ ap (λ (o : Result (Kind × List ℕ) Defect). o >>= λ k. Ok (decree_of (head_in d) k.0, k.1)) (kind_again d.kind rest fits.kind)

  -- ---- decrees one after another

  record TakesDecrees (count : ℕ) (older : List Decree) (octets : List ℕ) (x : List Decree × List ℕ) : Type 0 where
    parts : decrees_octets format older ++ octets ≡ decrees_octets format x.0 ++ x.1
    fit : DecreesFit format x.0
    counted : length x.0 ≡ length older + count

  decrees_take : (count : ℕ) (older : List Decree) (octets : List ℕ) (x : List Decree × List ℕ) → IsOctets octets → DecreesFit format older →
      decrees_at format count older octets ≡ Ok x →
      TakesDecrees count older octets x
  unfolding decrees_at
  decrees_take zero older octets x are fit e =
      let made : List Decree × List ℕ = (older, octets) in
      subst (λ (y : List Decree × List ℕ). TakesDecrees zero older octets y) (ok_is made x e) (record { parts = refl; fit = fit; counted = omega arith })
  decrees_take (suc count) older octets x are fit e =
      let a = bind_ok (decree_at format octets) (λ y. decrees_at format count (y.0 ∷ older) y.1) x e in
      let first = decree_takes octets a.0 are a.1 in
      let others = decrees_take count (a.0.0 ∷ older) a.0.1 x first.rest (fit, first.fits) a.2 in
      record {
        parts = ap (λ (r : List ℕ). decrees_octets format older ++ r) first.parts ∙ sym (append_assoc (decrees_octets format older) (decree_octets format a.0.0) a.0.1) ∙ others.parts;
        fit = others.fit;
        counted = omega (arith, others.counted);
      }

  decrees_again : (decrees : List Decree) (count : ℕ) (rest : List ℕ) → DecreesFit format decrees →
      decrees_at format (length decrees + count) [] (decrees_octets format decrees ++ rest) ≡ decrees_at format count decrees rest
  unfolding decrees_at
  decrees_again [] count rest fit = ap (λ (n : ℕ). decrees_at format n [] rest) (omega arith)
  decrees_again (newest ∷ older) count rest fit =
      let more : suc (length older) + count ≡ length older + suc count = omega arith in
      ap (λ (n : ℕ). decrees_at format n [] ((decrees_octets format older ++ decree_octets format newest) ++ rest)) more
      ∙ ap (decrees_at format (length older + suc count) []) (append_assoc (decrees_octets format older) (decree_octets format newest) rest)
      ∙ decrees_again older (suc count) (decree_octets format newest ++ rest) fit.0
      ∙ ap (λ (o : Result (Decree × List ℕ) Defect). o >>= λ y. decrees_at format count (y.0 ∷ older) y.1) (decree_again newest rest fit.1)

-- ---- chains

number_is : (number : ℕ) → 1 ≤ number → number ≤ 2 → format_number (format_of number) ≡ number
number_is number least most = by (eqb number 1) refl
  where
    by : (is_one : Bool) → eqb number 1 ≡ is_one → format_number (cond is_one First Second) ≡ number
    by true is = sym (eqb-true _ _ is)
    by false is = let apart = eqb-false _ _ is in omega (arith, apart, least, most)

numbered : (format : Format) → format_of (format_number format) ≡ format
numbered First = refl
numbered Second = refl

pub record TakesChain (octets : List ℕ) (c : Chain) : Type 0 where
  pub format : Format
  pub spelled : octets ≡ octets_in format c
  pub fits : Fits format c

record IsWhole (id : ℕ) (x : List Decree × List ℕ) (c : Chain) : Type 0 where
  nothing : x.1 ≡ []
  chain : ◌≡◌ {A = Chain} (record { id = id; decrees = x.0 }) c

whole_is : (id : ℕ) (x : List Decree × List ℕ) (c : Chain) → chain_from id x ≡ Ok c → IsWhole id x c
whole_is id (decrees, []) c e = record { nothing = refl; chain = ok_is (record { id = id; decrees = decrees }) c e }
whole_is id (decrees, o ∷ octets) c e = absurd cc

pub chain_takes : (octets : List ℕ) (c : Chain) → IsOctets octets → read_chain octets ≡ Ok c → TakesChain octets c
unfolding read_chain
chain_takes octets c are e =
    let a = bind_ok (front_at chain_fields octets) (λ h. chain_at (format_of h.0.0) h.0.1.0 h.0.1.1.0 h.1) c e in
    let format : Format = format_of a.0.0.0 in
    let id : ℕ = a.0.0.1.0 in
    let count : ℕ = a.0.0.1.1.0 in
    let b = bind_ok (decrees_at format count [] a.0.1) (λ d. chain_from id d) c a.2 in
    let head = front_takes chain_fields octets a.0 are a.1 in
    let decrees = decrees_take format count [] a.0.1 b.0 head.rest tt b.1 in
    let whole = whole_is id b.0 c b.2 in
    let made : Chain = record { id = id; decrees = b.0.0 } in
    let between = is_between-tells 1 2 a.0.0.0 head.within.0.1 in
    let format_is : a.0.0.0 ≡ format_number format = sym (number_is a.0.0.0 between.0 between.1) in
    let count_is : count ≡ length b.0.0 = omega (arith, decrees.counted) in
    let head_is : ◌≡◌ {A = Contents chain_fields} a.0.0 (format_number format, (id, (length b.0.0, tt))) =
    ap (λ (n : ℕ). (n, (id, (count, tt)))) format_is ∙ ap (λ (n : ℕ). (format_number format, (id, (n, tt)))) count_is in
    let rest_is : a.0.1 ≡ decrees_octets format b.0.0 = decrees.parts ∙ ap (λ (r : List ℕ). decrees_octets format b.0.0 ++ r) whole.nothing ∙ append-nil
    (decrees_octets format b.0.0) in
    subst (λ (d : Chain). TakesChain octets d) whole.chain (record {
      format = format;
      spelled = head.parts ∙ ap (λ (h : Contents chain_fields). spellings chain_fields h ++ a.0.1) head_is ∙ ap
          (λ (r : List ℕ). spellings chain_fields (format_number format, (id, (length b.0.0, tt))) ++ r) rest_is;
      fits = record { id = is_id-tells id head.within.1.0.1; count = omega (arith, count_is, head.within.1.1.0.0); decrees = decrees.fit };
    })

all_again : (format : Format) (decrees : List Decree) → DecreesFit format decrees →
    decrees_at format (length decrees) [] (decrees_octets format decrees) ≡ Ok (decrees, [])
unfolding decrees_at
all_again format decrees fit =
    let none_more : length decrees ≡ length decrees + 0 = omega arith in
    ap (λ (n : ℕ). decrees_at format n [] (decrees_octets format decrees)) none_more
    ∙ ap (decrees_at format (length decrees + 0) []) (sym (append-nil (decrees_octets format decrees)))
    ∙ decrees_again format decrees 0 [] fit

is_number : (format : Format) → (format_number format < 256) × (is_between 1 2 (format_number format) ≡ true)
is_number First = (omega arith, refl)
is_number Second = (omega arith, refl)

pub chain_again : (format : Format) (c : Chain) → Fits format c → read_chain (octets_in format c) ≡ Ok c
unfolding read_chain
chain_again format c fits =
    let head : Contents chain_fields = (format_number format, (c.id, (length c.decrees, tt))) in
    let within : AreWithin chain_fields head = (
      is_number format,
      ((omega (arith, fits.id.node.most), is_id-told c.id fits.id), ((omega (arith, fits.count), refl), tt)),
    ) in
    ap (λ (o : Result (Contents chain_fields × List ℕ) Defect). o >>= λ h. chain_at (format_of h.0.0) h.0.1.0 h.0.1.1.0 h.1)
    (front_again chain_fields head (decrees_octets format c.decrees) refl within)
    ∙ ap (λ (f : Format). chain_at f c.id (length c.decrees) (decrees_octets format c.decrees)) (numbered format)
    ∙ ap (λ (o : Result (List Decree × List ℕ) Defect). o >>= λ d. chain_from c.id d) (all_again format c.decrees fits.decrees)
