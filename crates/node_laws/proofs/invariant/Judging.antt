-- Why a grant is refused.
use Rattle.std.proofs.Common.{◌≡◌, ℕ, Bool, true, false, List, [], ◌∷◌, length, Option, Some, None, refl, sym, ap, subst, ◌∙◌, eqb-true}
use Rattle.std.specs.Prelude.{◌==◌, is_some, not, if◌then◌else◌}
use Rattle.std.proofs.lemmas.Bool.{eqb-false, true≢false}
use Rattle.mc_model.specs.message.Decree.{Attempt, Decree, Failed, Fate, Told, Kind, Taken}
use Rattle.mc_model.specs.synod.Lists.{In}
use Rattle.mc_model.specs.synod.Packet.{slot_at, slot_of}
use Rattle.mc_model.specs.node.Actor.{Actor}
use Rattle.mc_model.specs.node.Grant.{AlreadyGranted, Closed, EndsInAttempt, GrantRefusal, IsOwnAttempt, IsRefusedFor, MayGrant, NotChosen, NotMine}
use Rattle.mc_model.specs.node.Grant.{OlderIncarnation}
use Rattle.mc_model.specs.node.Knowledge.{IsKnown, Knows}
use Rattle.mc_model.specs.node.Outcome.{Outcome}
use Rattle.mc_model.specs.node.Setup.{Setup}
use Rattle.mc_parts.proofs.Known.{knows_one}
use Rattle.node_model.specs.Attempts.{attempt_refusal, known_refusal, newest_refusal, own_refusal}
use Rattle.node_model.specs.Kept.{Kept}
use Rattle.node_model.specs.Message.{Message}
use Rattle.node_laws.specs.Stands.{HasAttempts}

module _ (setup : Setup) (k : Kept) (a : Actor) (incarnation : k.incarnation ≡ a.incarnation) (id : ℕ) (m : Message) (attempts : HasAttempts a id m)
    (known_is : IsKnown setup.nodes a.received id m.known) where
  -- the attempt at the place of this chain may be granted, or it is refused for this
  abbrev pub Judged : Option GrantRefusal → Type 0
  Judged None = (chain : List Decree) × (m.known ≡ Some chain) × MayGrant setup.nodes setup.node a (slot_of id chain)
  Judged (Some refusal) = IsRefusedFor setup.nodes setup.node a id refusal

  module _ (newest : Decree) (older : List Decree) (known : m.known ≡ Some (newest ∷ older)) where
    knows : Knows setup.nodes a.received id (newest ∷ older)
    knows = subst (IsKnown setup.nodes a.received id) known known_is

    -- what is known ends in no attempt
    none_open : ((number : ℕ) → newest.kind ≡ Attempt number → ⊥) → Judged (Some NotChosen)
    none_open other = λ last before ends.
        let same : last ∷ before ≡ newest ∷ older = knows_one setup.nodes a.received id (last ∷ before) (newest ∷ older) ends.known knows in
        let newest_is : last ≡ newest = cc in
        other ends.number (ap (λ (d : Decree). d.kind) (sym newest_is) ∙ ends.attempt)

    module _ (number : ℕ) (attempt : newest.kind ≡ Attempt number) where
      ends : EndsInAttempt setup.nodes a id newest older
      ends = record { number = number; known = knows; attempt = attempt }

      module _ (mine : newest.author.node ≡ setup.node) (now : newest.author.incarnation ≡ a.incarnation) where
        author_is : newest.author ≡ record { node = setup.node; incarnation = a.incarnation }
        author_is = λ i. record { node = mine i; incarnation = now i }

        own : IsOwnAttempt setup.nodes setup.node a id newest older
        own = record { ends = ends; mine = author_is }

        own_judged : Judged (own_refusal m (length older))
        own_judged = by_granted (m.granted (length older)) refl
          where
            by_closed : (In (slot_at id (length older)) a.granted → ⊥) → (closed : Option Outcome) → m.closed (length older) ≡ closed →
                Judged (if is_some closed then Some Closed else None)
            by_closed ungranted (Some outcome) is = record {
              newest = newest;
              older = older;
              outcome = outcome;
              own = own;
              granted = ungranted;
              closed = (attempts.closed (length older) outcome).0 is;
            }
            by_closed ungranted None is = (
              newest ∷ older,
              known,
              record {
                attempting = record {
                  newest = newest;
                  older = older;
                  number = number;
                  known = knows;
                  place = refl;
                  attempt = attempt;
                  author = author_is;
                };
                granted = ungranted;
                closed = λ outcome among. let both : Some outcome ≡ None = sym ((attempts.closed (length older) outcome).1 among) ∙ is in absurd (cc);
              },
            )

            by_granted : (granted : Bool) → m.granted (length older) ≡ granted →
                Judged (if granted then Some AlreadyGranted else if is_some (m.closed (length older)) then Some Closed else None)
            by_granted true is = record { newest = newest; older = older; own = own; granted = (attempts.granted (length older)).0 is }
            by_granted false is =
                by_closed (λ among. true≢false (sym ((attempts.granted (length older)).1 among) ∙ is)) (m.closed (length older)) refl

      attempt_judged : Judged (attempt_refusal setup k m newest (length older))
      attempt_judged = by_node (newest.author.node == setup.node) refl
        where
          by_life : newest.author.node ≡ setup.node → (test : Bool) → (newest.author.incarnation == k.incarnation) ≡ test →
              Judged (if not test then Some OlderIncarnation else own_refusal m (length older))
          by_life mine true now = own_judged mine (eqb-true newest.author.incarnation k.incarnation now ∙ incarnation)
          by_life mine false other = record {
            newest = newest;
            older = older;
            ends = ends;
            mine = mine;
            other = λ now. eqb-false newest.author.incarnation k.incarnation other (now ∙ sym incarnation);
          }

          by_node : (test : Bool) → (newest.author.node == setup.node) ≡ test →
              Judged (if not test then Some NotMine else if not (newest.author.incarnation == k.incarnation) then Some OlderIncarnation
              else own_refusal m (length older))
          by_node true mine = by_life (eqb-true newest.author.node setup.node mine) (newest.author.incarnation == k.incarnation) refl
          by_node false other = record { newest = newest; older = older; ends = ends; other = λ mine. eqb-false newest.author.node setup.node other mine }

    newest_judged : Judged (newest_refusal setup k m newest (length older) newest.kind)
    newest_judged = by_kind newest.kind refl
      where
        by_kind : (kind : Kind) → newest.kind ≡ kind → Judged (newest_refusal setup k m newest (length older) kind)
        by_kind (Taken message) is = none_open (λ number same. let both : Taken message ≡ Attempt number = sym is ∙ same in absurd (cc))
        by_kind (Attempt number) is = attempt_judged number is
        by_kind (Failed error) is = none_open (λ number same. let both : Failed error ≡ Attempt number = sym is ∙ same in absurd (cc))
        by_kind (Fate final error) is = none_open (λ number same. let both : Fate final error ≡ Attempt number = sym is ∙ same in absurd (cc))
        by_kind Told is = none_open (λ number same. let both : Told ≡ Attempt number = sym is ∙ same in absurd (cc))

  known_judged : (known : Option (List Decree)) → m.known ≡ known → Judged (known_refusal setup k m known)
  known_judged None is = λ newest older ends.
      let nothing : IsKnown setup.nodes a.received id None = subst (IsKnown setup.nodes a.received id) is known_is in
      nothing _ _ ends.known.learned
  known_judged (Some []) is = λ newest older ends.
      let empty : IsKnown setup.nodes a.received id (Some []) = subst (IsKnown setup.nodes a.received id) is known_is in
      let same : newest ∷ older ≡ [] = knows_one setup.nodes a.received id (newest ∷ older) [] ends.known empty in
      absurd (cc)
  known_judged (Some (newest ∷ older)) is = newest_judged newest older is

  pub grant_judged : Judged (known_refusal setup k m m.known)
  grant_judged = known_judged m.known refl
