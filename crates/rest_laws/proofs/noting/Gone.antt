-- A node of a cluster has a note of each message that is gone.
use Rattle.std.proofs.Common.{◌≡◌, ℕ, ◌<◌, Bool, true, false, cond, List, [], ◌∷◌, Some, refl, sym, ap, subst, ◌∙◌, inl, inr, arith}
use Rattle.std.specs.List.Sorted.{IsStrictlySortedBy}
use Rattle.std.specs.Map.{keys_of, lookup}
use Rattle.std.specs.Ordering.{nat_cmp}
use Rattle.std.specs.declared.cmp.Ordering.TheVariants.{Less}
use Rattle.std.specs.BTreeMap.{is_at}
use Rattle.std.specs.Option.{unwrap_or}
use Rattle.std.proofs.lemmas.Bool.Decides.{nat_tests}
use Rattle.mc_model.specs.message.Chain.{IsPermitted}
use Rattle.mc_model.specs.message.Decree.{Decree}
use Rattle.mc_model.specs.node.Setup.{Setup}
use Rattle.mc_model.specs.synod.Lists.{In}
use Rattle.mc_model.specs.synod.OneSlot.{Vote}
use Rattle.mc_model.specs.synod.Packet.{Slot, Voted, slot_of}
use Rattle.mc_model.specs.cluster.Steps.{Cluster, setup_of}
use Rattle.node_model.specs.Acceptor.{told_of}
use Rattle.node_model.specs.Kept.{Kept, message_at}
use Rattle.node_model.specs.Message.{Message, unseen}
use Rattle.node_model.specs.Starts.{follow}
use Rattle.node_model.specs.Stepped.{restarted}
use Rattle.node_model.proofs.Keys.{same_key}
use Rattle.node_laws.specs.Clusters.{MayHappen, NodeInput, kept_reached}
use Rattle.node_laws.specs.Steps.{IsWellMade}
use Rattle.rest_laws.specs.AtRest.{AreAtRest, is_over}
use Rattle.rest_laws.specs.Notes.{AreAllNoted, AreNotesOfGone, HasNote, IsNoteOfGone, Note}
use Rattle.rest_laws.proofs.runs.Worlds.{node_stands}
use Rattle.rest_laws.proofs.noting.Known.{has_note, heard_sent}
use Rattle.rest_laws.proofs.without.Entries.{AreAbove, Ascend}

-- a message of which something is known is kept
known_kept : (es : List (ℕ × Message)) (id : ℕ) (chain : List Decree) → (unwrap_or (lookup (is_at (nat_cmp id)) es) unseen).known ≡ Some chain →
    In id (keys_of es)
known_kept [] id chain known = absurd (cc)
known_kept (e ∷ es) id chain known = by (is_at (nat_cmp id) e.0) refl known (known_kept es id chain)
  where
    by : (b : Bool) → is_at (nat_cmp id) e.0 ≡ b → (unwrap_or (cond b (Some e.1) (lookup (is_at (nat_cmp id)) es)) unseen).known ≡ Some chain →
        ((unwrap_or (lookup (is_at (nat_cmp id)) es) unseen).known ≡ Some chain → In id (keys_of es)) → In id (keys_of (e ∷ es))
    by true at is later = inl (same_key id e.0 at)
    by false at is later = inr (later is)

below_all : (low : ℕ) (ids : List ℕ) (id : ℕ) → AreAbove low ids → In id ids → id ≡ low → ⊥
below_all low [] id above among same = absurd among
below_all low (first ∷ ids) id above (inl here) same =
    let less : nat_cmp low first ≡ Less = above.0 in let lt : low < first = grind (arith, nat_tests) in omega (arith, lt, here, same)
below_all low (first ∷ ids) id above (inr later) same = below_all low ids id above.1 later same

module _ (cluster : Cluster) (inputs : List NodeInput) (may : MayHappen cluster inputs) (node : ℕ) (gone : ℕ → Bool)
    (rests : AreAtRest gone ((kept_reached cluster inputs).kept node)) where
  abbrev k : Kept
  k = (kept_reached cluster inputs).kept node

  abbrev setup : Setup
  setup = setup_of cluster node

  abbrev its_note : (id : ℕ) (is : gone id ≡ true) → HasNote setup k id (rests.rest id is).chain
  its_note id is = has_note cluster inputs may node id (rests.rest id is).chain (rests.rest id is).known

  abbrev note_of : (id : ℕ) → gone id ≡ true → Note
  note_of id is = (its_note id is).note

  abbrev note_if : (id : ℕ) (b : Bool) → gone id ≡ b → List Note → List Note
  note_if id true is others = note_of id is ∷ others
  note_if id false is others = others

  -- the notes of those of these messages that are gone
  abbrev notes_of : List ℕ → List Note
  notes_of [] = []
  notes_of (id ∷ ids) = note_if id (gone id) refl (notes_of ids)

  pub record IsNoteAmong (ids : List ℕ) (n : Note) : Type 0 where
    pub id : ℕ
    pub among : In id ids
    pub is : gone id ≡ true
    pub note_is : n ≡ note_of id is

  further : (first : ℕ) (ids : List ℕ) (n : Note) → IsNoteAmong ids n → IsNoteAmong (first ∷ ids) n
  further first ids n it = record { id = it.id; among = inr it.among; is = it.is; note_is = it.note_is }

  noted_among : (ids : List ℕ) (n : Note) → In n (notes_of ids) → IsNoteAmong ids n
  noted_among [] n among = absurd among
  noted_among (id ∷ ids) n among = by (gone id) refl among (noted_among ids n)
    where
      by : (b : Bool) (is : gone id ≡ b) → In n (note_if id b is (notes_of ids)) → (In n (notes_of ids) → IsNoteAmong ids n) → IsNoteAmong (id ∷ ids) n
      by true is (inl same) others = record { id = id; among = inl refl; is = is; note_is = same }
      by true is (inr later) others = further id ids n (others later)
      by false is later others = further id ids n (others later)

  its_id : (ids : List ℕ) (n : Note) (it : IsNoteAmong ids n) → n.slot.id ≡ it.id
  its_id ids n it = ap (λ (x : Note). x.slot.id) it.note_is ∙ ap (λ (s : Slot). s.id) (its_note it.id it.is).slot_is

  of_gone : (lost : ℕ) (id : ℕ) (is : gone id ≡ true) → IsNoteOfGone setup gone (restarted setup k lost) (note_of id is)
  of_gone lost id is =
      let has = its_note id is in
      let at : has.note.slot.id ≡ id = ap (λ (s : Slot). s.id) has.slot_is in
      record {
        dropped = ap gone at ∙ is;
        note = has.again lost;
        over = ap is_over has.chain_is ∙ (rests.rest id is).over;
        reached = (λ i. follow (Some (has.chain_is i)) (told_of k.records (at i))) ∙ (rests.rest id is).reached;
      }

  all_of_gone : (lost : ℕ) (ids : List ℕ) → Ascend ids → AreNotesOfGone setup gone (restarted setup k lost) (notes_of ids)
  unfolding IsStrictlySortedBy
  all_of_gone lost [] ascend = tt
  all_of_gone lost (id ∷ ids) ascend = by (gone id) refl (all_of_gone lost ids ascend.1)
    where
      by : (b : Bool) (is : gone id ≡ b) → AreNotesOfGone setup gone (restarted setup k lost) (notes_of ids) →
          AreNotesOfGone setup gone (restarted setup k lost) (note_if id b is (notes_of ids))
      by true is others = (
        of_gone lost id is,
        (λ other among same.
            let it = noted_among ids other among in
            below_all id ids it.id ascend.0 it.among
            (sym (its_id ids other it) ∙ (same ∙ ap (λ (s : Slot). s.id) (its_note id is).slot_is))),
        others,
      )
      by false is others = others

  noted_of : (ids : List ℕ) (id : ℕ) → In id ids → gone id ≡ true → (n : Note) × In n (notes_of ids) × (n.slot.id ≡ id)
  noted_of [] id among is = absurd among
  noted_of (first ∷ ids) id among is = by (gone first) refl among (λ later. noted_of ids id later is)
    where
      by : (b : Bool) (was : gone first ≡ b) → In id (first ∷ ids) → (In id ids → (n : Note) × In n (notes_of ids) × (n.slot.id ≡ id)) →
          (n : Note) × In n (note_if first b was (notes_of ids)) × (n.slot.id ≡ id)
      by true was (inl same) others = (note_of first was, inl refl, ap (λ (s : Slot). s.id) (its_note first was).slot_is ∙ sym same)
      by true was (inr later) others = let found = others later in (found.0, inr found.1, found.2)
      by false was (inl same) others = let no : gone first ≡ true = subst (λ (i : ℕ). gone i ≡ true) same is in absurd (cc)
      by false was (inr later) others = others later

  -- those of all messages that are gone
  abbrev pub notes : List Note
  notes = notes_of (keys_of k.messages)

  pub all_noted : (lost : ℕ) → AreAllNoted setup gone (restarted setup k lost) notes
  all_noted lost = record {
    each = all_of_gone lost (keys_of k.messages) rests.ascend;
    all = λ id is. noted_of (keys_of k.messages) id (known_kept k.messages id (rests.rest id is).chain (rests.rest id is).known) is;
  }

  -- ---- their votes were sent

  heard_made : (id voter : ℕ) (vote : Vote) → (message_at k id).votes vote voter ≡ true → IsPermitted id vote.chain
  heard_made id voter vote heard =
      let stands = node_stands cluster inputs may node in
      let received = ((stands.agrees.message id).heard.votes voter vote).0 heard in
      (stands.agrees.coherent.fits (Voted voter (slot_of id vote.chain) vote) received).0.permitted

  pub votes_sent : (n : Note) (voter : ℕ) → In n notes → In voter n.voters →
      IsWellMade (Voted voter n.slot n.vote) × In (Voted voter n.slot n.vote) (kept_reached cluster inputs).packets
  votes_sent n voter among in_it =
      let it = noted_among (keys_of k.messages) n among in
      let has = its_note it.id it.is in
      let heard = has.heard voter (subst (λ (x : Note). In voter x.voters) it.note_is in_it) in
      let slot : slot_of it.id has.note.vote.chain ≡ has.note.slot = ap (slot_of it.id) has.chain_is ∙ sym has.slot_is in
      subst (λ (x : Note). IsWellMade (Voted voter x.slot x.vote) × In (Voted voter x.slot x.vote) (kept_reached cluster inputs).packets) (sym it.note_is) (
        subst (λ (s : Slot). IsPermitted s.id has.note.vote.chain) slot (heard_made it.id voter has.note.vote heard),
        subst (λ (s : Slot). In (Voted voter s has.note.vote) (kept_reached cluster inputs).packets) slot
            (heard_sent cluster inputs may node it.id voter has.note.vote heard),
      )
