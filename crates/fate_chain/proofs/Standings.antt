-- The standing of a chain, decree after decree.
use Rattle.std.proofs.Common.{◌≡◌, ℕ, ◌+◌, ◌≤◌, List, [], ◌∷◌, length, None, Some, refl, sym, ap, subst, ◌∙◌, arith}
use Rattle.mc_model.specs.message.Submission.{Submission}
use Rattle.mc_model.specs.message.Ids.{node_of}
use Rattle.mc_model.specs.message.Decree.{Author, Kind, Taken, Attempt, Failed, Fate, Told, Decree}
use Rattle.mc_model.specs.message.Neighbours.{IsTaken, MayBegin}
use Rattle.mc_model.specs.message.Chain.{MayExtend, IsPermitted, home_by, taken_by, taken_in, attempts_of, attempts_in}
use Rattle.fate_chain.specs.Kinds.{author_of}
use Rattle.fate_chain.specs.Marks.{bare, bare_kind, bare_message, terms_of, IsMarkOf, IsStandingOf}
use Rattle.fate_chain.specs.declared.marks.Act.TheVariants as acts
use Rattle.fate_chain.specs.declared.terms.Terms.{Terms}
use Rattle.fate_chain.specs.declared.marks.Mark.{Mark}
use Rattle.fate_chain.specs.declared.marks.Standing.{Standing}
use Rattle.mc_parts.proofs.Lengths.{most_decrees}
use Rattle.fate_chain.proofs.Permitted.{extends_later}

attempts-bare : (kind : Kind) → attempts_of (bare kind) ≡ attempts_of kind
attempts-bare (Taken m) = refl
attempts-bare (Attempt number) = refl
attempts-bare (Failed error) = refl
attempts-bare (Fate final error) = refl
attempts-bare Told = refl

attempts_of-few : (kind : Kind) → attempts_of kind ≤ 1
attempts_of-few (Taken m) = omega arith
attempts_of-few (Attempt number) = omega arith
attempts_of-few (Failed error) = omega arith
attempts_of-few (Fate final error) = omega arith
attempts_of-few Told = omega arith

pub attempts-few : (decrees : List Decree) → attempts_in decrees ≤ length decrees
attempts-few [] = omega arith
attempts-few (newest ∷ older) = omega (arith, attempts-few older, attempts_of-few newest.kind)

pub standing-after : (standing : Standing) (mark : Mark) (decrees : List Decree) (decree : Decree) (attempts : ℕ) →
    IsStandingOf decrees standing → IsMarkOf decree mark → MayExtend (taken_in decrees) decrees decree →
    attempts ≡ standing.attempts + attempts_of (bare_kind mark.act) →
    IsStandingOf (decree ∷ decrees) (record { terms = standing.terms; home = standing.home; attempts = attempts; newest = mark })
standing-after standing mark decrees decree attempts stands is may more =
    let one_more : attempts_of (bare_kind mark.act) ≡ attempts_of decree.kind = ap attempts_of is.kind ∙ attempts-bare decree.kind in
    let later = extends_later (taken_in decrees) decrees decree may in
    record {
      message = stands.message;
      taken = later.taken (taken_in decrees) ∙ stands.taken;
      terms = stands.terms;
      home = stands.home ∙ sym (later.home decree.author.node _);
      attempts = omega (arith, more, one_more, stands.attempts);
      newest = decree;
      first = refl;
      mark = is;
    }

-- ---- of the first decree

record Begins (id : ℕ) (author : Author) (moment : ℕ) (kind : Kind) (terms : Terms) : Type 0 where
  may : MayBegin id author moment kind
  message : Submission
  taken : taken_by kind None ≡ Some message
  terms_are : terms ≡ terms_of message
  home : node_of id ≡ home_by kind author.node 0
  attempts : 0 ≡ attempts_of kind + 0

begins : (id : ℕ) (author : Author) (moment : ℕ) (kind : Kind) (terms : Terms) → Taken (bare_message terms) ≡ bare kind →
    MayBegin id author moment (Taken (bare_message terms)) →
    Begins id author moment kind terms
begins id author moment (Taken message) terms is may =
    let same : bare_message terms ≡ bare_message (terms_of message) = cc in
    let terms_are : terms ≡ terms_of message = ap terms_of same in
    let bare_may = subst (λ (t : Terms). IsTaken id author moment (bare_message t)) terms_are may in
    record {
      may = record { node = bare_may.node; incarnation = bare_may.incarnation; expiry = bare_may.expiry; schedule = bare_may.schedule };
      message = message;
      taken = refl;
      terms_are = terms_are;
      home = sym bare_may.node;
      attempts = refl;
    }
begins id author moment (Attempt number) terms is may = absurd cc
begins id author moment (Failed error) terms is may = absurd cc
begins id author moment (Fate final error) terms is may = absurd cc
begins id author moment Told terms is may = absurd cc

pub standing-begun : (id : ℕ) (decree : Decree) (mark : Mark) (terms : Terms) (home : ℕ) → IsMarkOf decree mark → mark.act ≡ acts.Taken terms →
    MayBegin id (author_of mark.author) mark.moment (bare_kind mark.act) → home ≡ node_of id →
    MayBegin id decree.author decree.moment decree.kind × IsStandingOf (decree ∷ []) (record { terms = terms; home = home; attempts = 0; newest = mark })
standing-begun id decree mark terms home is taken may home_is =
    let kind_is : bare_kind mark.act ≡ Taken (bare_message terms) = ap bare_kind taken in
    let begun = begins id decree.author decree.moment decree.kind terms (sym kind_is ∙ is.kind)
    (subst (λ (kind : Kind). MayBegin id decree.author decree.moment kind) kind_is (rw (← is.author, ← is.moment) may)) in (
      begun.may,
      record {
        message = begun.message;
        taken = begun.taken;
        terms = begun.terms_are;
        home = home_is ∙ begun.home;
        attempts = begun.attempts;
        newest = decree;
        first = refl;
        mark = is;
      },
    )

-- ---- of all

pub permitted-more : (id : ℕ) (decrees : List Decree) (decree : Decree) → IsPermitted id decrees →
    MayExtend (taken_in decrees) decrees decree →
    IsPermitted id (decree ∷ decrees)
permitted-more id [] decree permitted may = absurd permitted
permitted-more id (newest ∷ older) decree permitted may = (permitted, may)

-- a permitted chain has at least one decree and at most 19, so the place of each is one of 19
pub record HasPlace (decrees : List Decree) : Type 0 where
  pub least : 1 ≤ length decrees
  pub most : length decrees ≤ 19

pub has_place : (id : ℕ) (decrees : List Decree) → IsPermitted id decrees → HasPlace decrees
has_place id [] permitted = absurd permitted
has_place id (newest ∷ older) permitted = record { least = omega arith; most = most_decrees id (newest ∷ older) permitted }
