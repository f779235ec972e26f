-- What a packet asks to be saved is stored exactly if its step left it, if that changes a record.
use Rattle.std.proofs.Common.{◌≡◌, ℕ, Bool, true, false, refl, sym, ap, ◌∙◌, arith}
use Rattle.std.specs.Prelude.{if◌then◌else◌, nat_le, nat_lt}
use Rattle.std.proofs.lemmas.Bool.Decides.{nat_tests}
use Rattle.mc_model.specs.synod.OneSlot.{Vote}
use Rattle.mc_model.specs.synod.Packet.{Ask, Packet, Prepare, Promise, Propose, Refused, Slot, Tell, Voted}
use Rattle.mc_model.specs.synod.Acceptor.{Records, SlotRecord, after_promise, after_vote, with_record}
use Rattle.mc_model.specs.node.Setup.{Setup}
use Rattle.node_model.specs.Acceptor.{Judgement, prepare_judged, propose_judged}
use Rattle.node_model.specs.Kept.{Kept}
use Rattle.node_model.specs.Packets.{is_member}
use Rattle.node_model.specs.Stepped.{saved_by, sender_of, stopped}
use Rattle.node_model.proofs.Records.{same_record}
use Rattle.mc_parts.proofs.Membership.{with_here}
use Rattle.node_kept.specs.Finding.{HasSaved}

-- these records are those that are kept
abbrev Stays : Kept → Records → Type 0
Stays k records = (slot : Slot) → records slot ≡ k.records slot

put_back : (k : Kept) (slot : Slot) (after : SlotRecord) → after ≡ k.records slot → Stays k (with_record k.records slot after)
put_back k slot after same other = ap (λ (r : SlotRecord). with_record k.records slot r other) same ∙ sym (same_record k.records slot other)

module _ (setup : Setup) (k : Kept) where
  -- ---- it was stored before: the step changes nothing

  promise_stays : (slot : Slot) (ballot : ℕ) (test : Bool) → nat_lt (k.records slot).promised ballot ≡ test → (k.records slot).promised ≡ ballot →
      (if test then after_promise (k.records slot) ballot else k.records slot) ≡ k.records slot
  promise_stays slot ballot true above same = absurd (grind (arith, nat_tests))
  promise_stays slot ballot false below same = refl

  judged_promise : (slot : Slot) (ballot : ℕ) (test : Bool) →
      (if◌then◌else◌ {A = Judgement} test (record {
        answer = Promise setup.node slot ballot (k.records slot).vote;
        after = after_promise
            (k.records slot) ballot;
      }) (record { answer = Refused setup.node slot ballot (k.records slot).promised; after = k.records slot })).after
      ≡ (if test then after_promise (k.records slot) ballot else k.records slot)
  judged_promise slot ballot true = refl
  judged_promise slot ballot false = refl

  promised_is : (slot : Slot) (ballot : ℕ) →
      (prepare_judged setup.node slot ballot (k.records slot)).after ≡
      (if nat_lt (k.records slot).promised ballot then after_promise (k.records slot) ballot else k.records slot)
  promised_is slot ballot = judged_promise slot ballot (nat_lt (k.records slot).promised ballot)

  judged_vote : (slot : Slot) (vote : Vote) (test : Bool) →
      (if◌then◌else◌ {A = Judgement} test (record { answer = Voted setup.node slot vote; after = after_vote vote })
      (record { answer = Refused setup.node slot vote.ballot (k.records slot).promised; after = k.records slot })).after
      ≡ (if test then after_vote vote else k.records slot)
  judged_vote slot vote true = refl
  judged_vote slot vote false = refl

  voted_is : (slot : Slot) (vote : Vote) →
      (propose_judged setup.node slot vote (k.records slot)).after ≡ (if nat_le (k.records slot).promised vote.ballot then after_vote vote else k.records slot)
  voted_is slot vote = judged_vote slot vote (nat_le (k.records slot).promised vote.ballot)

  vote_stays : (slot : Slot) (vote : Vote) (test : Bool) → k.records slot ≡ after_vote vote →
      (if test then after_vote vote else k.records slot) ≡ k.records slot
  vote_stays slot vote true same = sym same
  vote_stays slot vote false same = refl

  saved_stays : (packet : Packet) → HasSaved k.records packet → Stays k (saved_by setup k packet).records
  saved_stays (Prepare sender slot ballot) has =
      put_back k slot (prepare_judged setup.node slot ballot (k.records slot)).after
      (promised_is slot ballot ∙ promise_stays slot ballot (nat_lt (k.records slot).promised ballot) refl has)
  saved_stays (Propose sender slot vote) has =
      put_back k slot (propose_judged setup.node slot vote (k.records slot)).after
      (voted_is slot vote ∙ vote_stays slot vote (nat_le (k.records slot).promised vote.ballot) has)
  saved_stays (Promise sender slot ballot report) has = absurd has
  saved_stays (Voted sender slot vote) has = absurd has
  saved_stays (Refused sender slot ballot promised) has = absurd has
  saved_stays (Ask sender id name) has = absurd has
  saved_stays (Tell sender name told) has = absurd has

  stays_if : (member : Bool) (saved : Kept) → Stays k saved.records → Stays k (if member then record saved { up = false } else record k { up = false }).records
  stays_if true saved stays = stays
  stays_if false saved stays = λ slot. refl

  pub saved_before : (packet : Packet) → HasSaved k.records packet → Stays k (stopped setup k packet true).records
  saved_before packet has = stays_if (is_member setup (sender_of packet)) (saved_by setup k packet) (saved_stays packet has)

  -- ---- the step changes a record: then what it leaves has it

  promise_there : (slot : Slot) (ballot : ℕ) (test : Bool) (after : SlotRecord) → after ≡
      (if test then after_promise (k.records slot) ballot else k.records slot) →
      (Stays k (with_record k.records slot after) → ⊥) → (with_record k.records slot after slot).promised ≡ ballot
  promise_there slot ballot true after is differs = ap (λ (r : SlotRecord). r.promised) (with_here k.records slot after ∙ is)
  promise_there slot ballot false after is differs = absurd (differs (put_back k slot after is))

  vote_there : (slot : Slot) (vote : Vote) (test : Bool) (after : SlotRecord) → after ≡ (if test then after_vote vote else k.records slot) →
      (Stays k (with_record k.records slot after) → ⊥) → with_record k.records slot after slot ≡ after_vote vote
  vote_there slot vote true after is differs = with_here k.records slot after ∙ is
  vote_there slot vote false after is differs = absurd (differs (put_back k slot after is))

  saved_there : (packet : Packet) → (Stays k (saved_by setup k packet).records → ⊥) → HasSaved (saved_by setup k packet).records packet
  saved_there (Prepare sender slot ballot) differs =
      promise_there slot ballot (nat_lt (k.records slot).promised ballot) (prepare_judged setup.node slot ballot (k.records slot)).after
      (promised_is slot ballot) differs
  saved_there (Propose sender slot vote) differs =
      vote_there slot vote (nat_le (k.records slot).promised vote.ballot) (propose_judged setup.node slot vote (k.records slot)).after
      (voted_is slot vote) differs
  saved_there (Promise sender slot ballot report) differs = absurd (differs (λ slot. refl))
  saved_there (Voted sender slot vote) differs = absurd (differs (λ slot. refl))
  saved_there (Refused sender slot ballot promised) differs = absurd (differs (λ slot. refl))
  saved_there (Ask sender id name) differs = absurd (differs (λ slot. refl))
  saved_there (Tell sender name told) differs = absurd (differs (λ slot. refl))

  there_if : (member : Bool) (saved : Kept) (packet : Packet) → ((Stays k saved.records → ⊥) → HasSaved saved.records packet) →
      (Stays k (if member then record saved { up = false } else record k { up = false }).records → ⊥) →
      HasSaved (if member then record saved { up = false } else record k { up = false }).records packet
  there_if true saved packet there differs = there differs
  there_if false saved packet there differs = absurd (differs (λ slot. refl))

  pub saved_after : (packet : Packet) → (Stays k (stopped setup k packet true).records → ⊥) → HasSaved (stopped setup k packet true).records packet
  saved_after packet differs = there_if (is_member setup (sender_of packet)) (saved_by setup k packet) packet (saved_there packet) differs
