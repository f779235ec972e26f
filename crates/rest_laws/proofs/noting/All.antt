-- A start anew over notes keeps what a start anew keeps, with the chains of the notes put in.
use Rattle.std.proofs.Common.{◌≡◌, ℕ, Bool, true, List, [], ◌∷◌, Some, refl, sym, subst, ap, ◌∙◌, inl, inr}
use Rattle.std.specs.Prelude.{◌==◌, ◌&&◌, ◌||◌, nat_lt, not}
use Rattle.std.proofs.lemmas.Bool.{eq-eqb, eqb-true, or_left, or_right}
use Rattle.mc_model.specs.message.Ids.{incarnation_of, node_of, serial_of}
use Rattle.mc_model.specs.node.Input.{Restart}
use Rattle.mc_model.specs.node.Setup.{Setup}
use Rattle.mc_model.specs.synod.Lists.{In}
use Rattle.mc_model.specs.synod.Packet.{same_slot, slot_of}
use Rattle.node_model.specs.Answers.{ends_told}
use Rattle.node_model.specs.Kept.{Kept, message_at, with_message}
use Rattle.node_model.specs.Message.{Message, unseen}
use Rattle.node_model.specs.Stepped.{restarted}
use Rattle.node_laws.specs.Runs.{kept_after, kept_outputs}
use Rattle.rest_laws.specs.Cooled.{cool, cooled_if}
use Rattle.rest_laws.specs.Notes.{AreNotes, AreNothing, Note, OpensOver, anew, come, noted_in, votes_in, with_known}
use Rattle.rest_laws.proofs.cooled.Entries.{cool_more, with_cool}
use Rattle.rest_laws.proofs.noting.Anew.{QuietAll, heard_all, heard_is, kept_on, quiet_all, quiet_on, restart_gives, restart_keeps, restarted_unheard}
use Rattle.rest_laws.proofs.noting.Hearing.{HasNoted, hears, knows_last}

record HeardNotes (setup : Setup) (k : Kept) (notes : List Note) (now : Kept) : Type 0 where
  up : now.up ≡ true
  held : now.held ≡ []
  incarnation : now.incarnation ≡ k.incarnation
  serial : now.serial ≡ k.serial
  untouched : (id : ℕ) → ((n : Note) → In n notes → n.slot.id ≡ id → ⊥) → message_at now id ≡ message_at k id
  quiet : QuietAll setup k notes
  kept : (cold : ℕ → Bool) → ((n : Note) → In n notes → cold n.slot.id ≡ true) → cool cold now ≡ cool cold (with_known k notes)

-- one message of those that are cold is put in
put_known : (cold : ℕ → Bool) (k now then_is : Kept) (id : ℕ) (m : Message) → cold id ≡ true → cool cold now ≡ cool cold then_is →
    cool (λ other. other == id) k ≡ cool (λ other. other == id) (with_message now id m) → cool cold k ≡ cool cold (with_message then_is id m)
put_known cold k now then_is id m is same one =
    let covers : (other : ℕ) → (other == id) ≡ true → cold other ≡ true =
    λ other at. subst (λ (i : ℕ). cold i ≡ true) (sym (eqb-true other id at)) is in
    sym (cool_more (λ other. other == id) cold covers k)
    ∙ (ap (cool cold) one
    ∙ (cool_more (λ other. other == id) cold covers (with_message now id m)
    ∙ (sym (with_cool cold now id m) ∙ ((λ i. with_message (same i) id (cooled_if (cold id) m)) ∙ with_cool cold then_is id m))))

module _ (setup : Setup) (k : Kept) (up : k.up ≡ true) (held : k.held ≡ []) (fresh : (id : ℕ) → message_at k id ≡ unseen) where
  hear_notes : (notes : List Note) → AreNotes setup k notes → HeardNotes setup k notes (heard_all setup k notes)
  hear_notes [] are = record {
    up = up;
    held = held;
    incarnation = refl;
    serial = refl;
    untouched = λ id apart. refl;
    quiet = tt;
    kept = λ cold all. refl;
  }
  hear_notes (n ∷ notes) are =
      let before = hear_notes notes are.3 in
      let state : Kept = heard_all setup k notes in
      let has : HasNoted setup state n = record {
        up = before.up;
        held = before.held;
        unheard = before.untouched n.slot.id are.2 ∙ fresh n.slot.id;
        starts = are.1;
        earlier = ap (λ (x : ℕ). ends_told setup.node x n.vote.chain) before.incarnation ∙ are.0.earlier;
        concerns =
            (λ i. same_slot n.slot (slot_of n.slot.id n.vote.chain)
            && (not (node_of n.slot.id == setup.node)
            || (nat_lt (incarnation_of n.slot.id) (before.incarnation i)
            || ((incarnation_of n.slot.id == before.incarnation i) && nat_lt (serial_of n.slot.id) (before.serial i)))))
            ∙ are.0.concerns;
        members = are.0.members;
        majority = are.0.majority;
      } in
      let h = hears setup state n has n.voters are.0.members in
      record {
        up = h.up;
        held = h.held;
        incarnation = h.incarnation ∙ before.incarnation;
        serial = h.serial ∙ before.serial;
        untouched = λ id apart.
            h.others id (λ same. apart n (inl refl) (sym same)) ∙ before.untouched id (λ one among. apart one (inr among));
        quiet = (h.quiet, before.quiet);
        kept = λ cold all.
            put_known cold (heard_all setup k (n ∷ notes)) state (with_known k notes) n.slot.id (record unseen { known = Some n.vote.chain })
            (all n (inl refl)) (before.kept cold (λ one among. all one (inr among))) (knows_last setup state n has);
      }

-- ---- the messages of notes

among_noted : (notes : List Note) (n : Note) → In n notes → noted_in notes n.slot.id ≡ true
among_noted [] n among = absurd among
among_noted (first ∷ others) n (inl same) =
    or_left (n.slot.id == first.slot.id) (noted_in others n.slot.id) (eq-eqb n.slot.id first.slot.id (ap (λ (x : Note). x.slot.id) same))
among_noted (first ∷ others) n (inr later) = or_right (n.slot.id == first.slot.id) (noted_in others n.slot.id) (among_noted others n later)

pub opens_over : (setup : Setup) (k : Kept) (lost : ℕ) (notes : List Note) → AreNotes setup (restarted setup k lost) notes → OpensOver setup k lost notes
opens_over setup k lost notes are =
    let all = hear_notes setup (restarted setup k lost) refl refl (restarted_unheard setup k lost) notes are in
    let first : kept_after setup k (Restart lost ∷ []) ≡ restarted setup k lost = restart_keeps setup k lost in
    let leads : kept_after setup k (anew lost notes) ≡ heard_all setup (restarted setup k lost) notes =
    kept_on setup k (come (votes_in notes)) (Restart lost ∷ [])
    ∙ (ap (λ (x : Kept). kept_after setup x (come (votes_in notes))) first ∙ heard_is setup (restarted setup k lost) notes) in
    record {
      kept = ap (cool (noted_in notes)) leads ∙ all.kept (noted_in notes) (among_noted notes);
      quiet = quiet_on setup k (come (votes_in notes)) (Restart lost ∷ []) (restart_gives setup k lost, tt)
          (subst (λ (x : Kept). AreNothing (kept_outputs setup x (come (votes_in notes)))) (sym first)
          (quiet_all setup (restarted setup k lost) notes all.quiet));
    }
