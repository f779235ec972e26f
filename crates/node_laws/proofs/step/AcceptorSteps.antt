-- The steps of a node to which a Prepare, a Propose or a question comes.
use Rattle.std.proofs.Common.{◌≡◌, ℕ, ◌<◌, ◌≤◌, Bool, true, false, [], ◌∷◌, Option, Some, None, refl, sym, ap, subst, ◌∙◌, inl, inr, arith}
use Rattle.std.specs.Prelude.{nat_le, nat_lt, if◌then◌else◌}
use Rattle.std.proofs.lemmas.Bool.{and_from, and_parts, true≢false}
use Rattle.std.proofs.lemmas.Bool.Decides.{nat_tests}
use Rattle.mc_model.specs.synod.Acceptor.{IsTold, SlotRecord, after_promise, after_vote}
use Rattle.mc_model.specs.synod.OneSlot.{Vote}
use Rattle.mc_model.specs.synod.Packet.{Ask, Name, Packet, Prepare, Promise, Propose, Refused, Slot, Tell, TopVote, Voted, slot_at}
use Rattle.mc_model.specs.node.Act.{Promises, Refuses, Tells, Votes}
use Rattle.mc_model.specs.node.Alone.{Node, StandsAt}
use Rattle.mc_model.specs.node.Concerns.{IsMember}
use Rattle.mc_model.specs.node.Input.{Delivery}
use Rattle.mc_model.specs.node.Setup.{Setup}
use Rattle.node_model.specs.Acceptor.{Judgement, told_of}
use Rattle.node_model.specs.Kept.{Kept}
use Rattle.node_model.specs.Outputs.{leaves}
use Rattle.node_model.specs.Packets.{is_member, judged, on_ask, on_packet, on_prepare, on_propose}
use Rattle.node_model.specs.Stepped.{stepped, stepped_down, stepped_up}
use Rattle.node_laws.specs.Stands.{IsAside, IsPlaced, Stands}
use Rattle.node_laws.specs.Steps.{IsAtWork, StepsAs}
use Rattle.node_model.proofs.Told.{told_is}
use Rattle.node_laws.proofs.step.AsideSteps.{heard, stands_later, answered, answered_with, ignored, same_with, stands_heard, unchanged}

pub prepare_aside : (sender ballot : ℕ) (slot : Slot) → IsAside (Prepare sender slot ballot)
prepare_aside sender ballot slot = record {
  votes = λ voter other vote same. absurd (cc);
  promises = λ acceptor at other report same. absurd (cc);
  refusals = λ from at promised other same. absurd (cc);
  tells = λ teller name told same. absurd (cc);
}

pub propose_aside : (sender : ℕ) (slot : Slot) (vote : Vote) → IsAside (Propose sender slot vote)
propose_aside sender slot vote = record {
  votes = λ voter other cast same. absurd (cc);
  promises = λ acceptor at other report same. absurd (cc);
  refusals = λ from at promised other same. absurd (cc);
  tells = λ teller name told same. absurd (cc);
}

-- a sender that is one of the nodes, and one that is not
pub member_is : (setup : Setup) (sender : ℕ) → is_member setup sender ≡ true → IsMember setup.nodes sender
member_is setup sender is =
    let parts = and_parts (nat_le 1 sender) (nat_le sender setup.nodes) is in
    record { least = grind (arith, nat_tests); most = grind (arith, nat_tests) }

pub member_test : (setup : Setup) (sender : ℕ) → IsMember setup.nodes sender → is_member setup sender ≡ true
member_test setup sender is =
    let least : 1 ≤ sender = is.least in
    let most : sender ≤ setup.nodes = is.most in
    and_from (nat_le 1 sender) (nat_le sender setup.nodes) (grind (arith, nat_tests)) (grind (arith, nat_tests))

-- a node that is up
pub stepped_is : (setup : Setup) (k : Kept) (s : Node) (packet : Packet) → Stands setup k s → IsAtWork setup s →
    stepped setup k (Delivery packet) ≡ on_packet setup k packet
stepped_is setup k s packet stands works =
    ap (λ (up : Bool). if up then stepped_up setup k (Delivery packet) else stepped_down setup k (Delivery packet)) (stands.agrees.up ∙ works.up)

module _ (setup : Setup) (k : Kept) (s : Node) (stands : Stands setup k s) (works : IsAtWork setup s) where
  -- what is told of the records that are kept is told of those of the actor
  told_still : (id : ℕ) (told : Option TopVote) → IsTold k.records id told → IsTold s.records id told
  told_still id None none = λ place. subst (λ (r : SlotRecord). r.vote ≡ None) (stands.agrees.records (slot_at id place)) (none place)
  told_still id (Some told) top = record {
    about = top.about;
    voted = subst (λ (r : SlotRecord). r.vote ≡ Some told.vote) (stands.agrees.records (slot_at id told.place)) top.voted;
    highest =
        λ place vote voted. top.highest place vote (subst (λ (r : SlotRecord). r.vote ≡ Some vote) (sym (stands.agrees.records (slot_at id place))) voted);
  }

  -- ---- a Prepare

  -- what was voted for before the packet came
  pub voted_before : (packet : Packet) (aside : IsAside packet) (slot : Slot) (cast : Vote) → (k.records slot).vote ≡ Some cast →
      IsPlaced slot cast × StandsAt (heard setup s packet aside k stands) slot cast.chain
  voted_before packet aside slot cast voted =
      (stands.agrees.placed slot cast voted, stands_later setup s packet aside k stands slot cast.chain (stands.agrees.voted slot cast voted))

  on_prepare_steps : (sender ballot : ℕ) (slot : Slot) → IsMember setup.nodes sender →
      StepsAs setup s (Delivery (Prepare sender slot ballot)) (on_prepare setup k slot ballot)
  on_prepare_steps sender ballot slot member = by_test (nat_lt (k.records slot).promised ballot) refl
    where
      judgement : Bool → Judgement
      judgement test =
          if test
          then record { answer = Promise setup.node slot ballot (k.records slot).vote; after = after_promise (k.records slot) ballot }
          else record { answer = Refused setup.node slot ballot (k.records slot).promised; after = k.records slot }

      by_test : (test : Bool) → nat_lt (k.records slot).promised ballot ≡ test →
          StepsAs setup s (Delivery (Prepare sender slot ballot)) (judged k slot (judgement test))
      by_test true below =
          let same = stands.agrees.records slot in
          let before : (k.records slot).promised < ballot = grind (arith, nat_tests) in
          let may : (s.records slot).promised < ballot = subst (λ (r : SlotRecord). r.promised < ballot) same before in
          answered setup s (Prepare sender slot ballot) (prepare_aside sender ballot slot) k stands (Promises slot ballot true) (judgement true) slot
          (record {
            works = works;
            concerned = member;
            stays = λ x. refl;
            began = refl;
            no_replies = refl;
            no_receipts = refl;
            may = record { least = works.least; most = works.most; up = works.up; needs = record { sender = sender; prepared = inl refl; may = may } };
            replies = inl (may, refl);
            gives = ap (λ (r : SlotRecord). Promise setup.node slot ballot r.vote ∷ []) (sym same);
          })
          (same_with setup s (Prepare sender slot ballot) (prepare_aside sender ballot slot) k stands slot _ _
          (ap (λ (r : SlotRecord). after_promise r ballot) same))
          (voted_before (Prepare sender slot ballot) (prepare_aside sender ballot slot) slot)
      by_test false above =
          let same = stands.agrees.records slot in
          let before : ballot ≤ (k.records slot).promised = grind (arith, nat_tests) in
          let may : ballot ≤ (s.records slot).promised = subst (λ (r : SlotRecord). ballot ≤ r.promised) same before in
          answered setup s (Prepare sender slot ballot) (prepare_aside sender ballot slot) k stands (Refuses slot ballot) (judgement false) slot
          (record {
            works = works;
            concerned = member;
            stays = λ x. refl;
            began = refl;
            no_replies = refl;
            no_receipts = refl;
            may = record { least = works.least; most = works.most; up = works.up; needs = tt };
            replies = inr (may, refl);
            gives = ap (λ (r : SlotRecord). Refused setup.node slot ballot r.promised ∷ []) (sym same);
          })
          (unchanged setup s (Prepare sender slot ballot) (prepare_aside sender ballot slot) k stands slot)
          (voted_before (Prepare sender slot ballot) (prepare_aside sender ballot slot) slot)

  pub prepare_steps : (sender ballot : ℕ) (slot : Slot) →
      StepsAs setup s (Delivery (Prepare sender slot ballot)) (stepped setup k (Delivery (Prepare sender slot ballot)))
  prepare_steps sender ballot slot =
      subst (StepsAs setup s (Delivery (Prepare sender slot ballot))) (sym (stepped_is setup k s (Prepare sender slot ballot) stands works))
      (by_member (is_member setup sender) refl)
    where
      by_member : (member : Bool) → is_member setup sender ≡ member →
          StepsAs setup s (Delivery (Prepare sender slot ballot)) (if member then on_prepare setup k slot ballot else leaves k)
      by_member true is = on_prepare_steps sender ballot slot (member_is setup sender is)
      by_member false is = ignored setup s k stands (Prepare sender slot ballot) (λ member. true≢false (sym (member_test setup sender member) ∙ is))

  -- ---- a Propose

  on_propose_steps : (sender : ℕ) (slot : Slot) (vote : Vote) → IsPlaced slot vote → IsMember setup.nodes sender →
      StepsAs setup s (Delivery (Propose sender slot vote)) (on_propose setup k slot vote)
  on_propose_steps sender slot vote fits member = by_test (nat_le (k.records slot).promised vote.ballot) refl
    where
      judgement : Bool → Judgement
      judgement test =
          if test
          then record { answer = Voted setup.node slot vote; after = after_vote vote }
          else record { answer = Refused setup.node slot vote.ballot (k.records slot).promised; after = k.records slot }

      by_test : (test : Bool) → nat_le (k.records slot).promised vote.ballot ≡ test →
          StepsAs setup s (Delivery (Propose sender slot vote)) (judged k slot (judgement test))
      by_test true below =
          let same = stands.agrees.records slot in
          let before : (k.records slot).promised ≤ vote.ballot = grind (arith, nat_tests) in
          let may : (s.records slot).promised ≤ vote.ballot = subst (λ (r : SlotRecord). r.promised ≤ vote.ballot) same before in
          answered setup s (Propose sender slot vote) (propose_aside sender slot vote) k stands (Votes slot vote true) (judgement true) slot
          (record {
            works = works;
            concerned = member;
            stays = λ x. refl;
            began = refl;
            no_replies = refl;
            no_receipts = refl;
            may = record { least = works.least; most = works.most; up = works.up; needs = record { sender = sender; proposed = inl refl; may = may } };
            replies = inl (may, refl);
            gives = refl;
          })
          (same_with setup s (Propose sender slot vote) (propose_aside sender slot vote) k stands slot _ _ refl)
          (λ cast voted.
          let casts : vote ≡ cast = cc in
          (subst (IsPlaced slot) casts fits, inl (sender, cast.ballot, inl (λ i. Propose sender slot (sym casts i)))))
      by_test false above =
          let same = stands.agrees.records slot in
          let before : vote.ballot < (k.records slot).promised = grind (arith, nat_tests) in
          let may : vote.ballot < (s.records slot).promised = subst (λ (r : SlotRecord). vote.ballot < r.promised) same before in
          answered setup s (Propose sender slot vote) (propose_aside sender slot vote) k stands (Refuses slot vote.ballot) (judgement false) slot
          (record {
            works = works;
            concerned = member;
            stays = λ x. refl;
            began = refl;
            no_replies = refl;
            no_receipts = refl;
            may = record { least = works.least; most = works.most; up = works.up; needs = tt };
            replies = inr (may, refl);
            gives = ap (λ (r : SlotRecord). Refused setup.node slot vote.ballot r.promised ∷ []) (sym same);
          })
          (unchanged setup s (Propose sender slot vote) (propose_aside sender slot vote) k stands slot)
          (voted_before (Propose sender slot vote) (propose_aside sender slot vote) slot)

  pub propose_steps : (sender : ℕ) (slot : Slot) (vote : Vote) → IsPlaced slot vote →
      StepsAs setup s (Delivery (Propose sender slot vote)) (stepped setup k (Delivery (Propose sender slot vote)))
  propose_steps sender slot vote fits =
      subst (StepsAs setup s (Delivery (Propose sender slot vote))) (sym (stepped_is setup k s (Propose sender slot vote) stands works))
      (by_member (is_member setup sender) refl)
    where
      by_member : (member : Bool) → is_member setup sender ≡ member →
          StepsAs setup s (Delivery (Propose sender slot vote)) (if member then on_propose setup k slot vote else leaves k)
      by_member true is = on_propose_steps sender slot vote fits (member_is setup sender is)
      by_member false is = ignored setup s k stands (Propose sender slot vote) (λ member. true≢false (sym (member_test setup sender member) ∙ is))

  -- ---- a question

  ask_aside : (sender id : ℕ) (name : Name) → IsAside (Ask sender id name)
  ask_aside sender id name = record {
    votes = λ voter other cast same. absurd (cc);
    promises = λ acceptor at other report same. absurd (cc);
    refusals = λ from at promised other same. absurd (cc);
    tells = λ teller other told same. absurd (cc);
  }

  on_ask_steps : (sender id : ℕ) (name : Name) → IsMember setup.nodes sender → StepsAs setup s (Delivery (Ask sender id name)) (on_ask setup k id name)
  on_ask_steps sender id name member =
      let told = told_is k.records id (λ slot vote voted. (stands.agrees.placed slot vote voted).1) in
      let told_now = told_still id (told_of k.records id) told in
      answered_with setup s (Ask sender id name) (ask_aside sender id name) k stands (Tells id name (told_of k.records id))
      (Tell setup.node name (told_of k.records id)) k
      (record {
        works = works;
        concerned = member;
        stays = λ x. refl;
        began = refl;
        no_replies = refl;
        no_receipts = refl;
        may = record { least = works.least; most = works.most; up = works.up; needs = record { asker = sender; asked = inl refl; told_is = told_now } };
        replies = (told_of k.records id, told_now, refl);
        gives = refl;
      })
      (stands_heard setup s (Ask sender id name) (ask_aside sender id name) k stands)

  pub ask_steps : (sender id : ℕ) (name : Name) → StepsAs setup s (Delivery (Ask sender id name)) (stepped setup k (Delivery (Ask sender id name)))
  ask_steps sender id name =
      subst (StepsAs setup s (Delivery (Ask sender id name))) (sym (stepped_is setup k s (Ask sender id name) stands works))
      (by_member (is_member setup sender) refl)
    where
      by_member : (member : Bool) → is_member setup sender ≡ member →
          StepsAs setup s (Delivery (Ask sender id name)) (if member then on_ask setup k id name else leaves k)
      by_member true is = on_ask_steps sender id name (member_is setup sender is)
      by_member false is = ignored setup s k stands (Ask sender id name) (λ member. true≢false (sym (member_test setup sender member) ∙ is))
