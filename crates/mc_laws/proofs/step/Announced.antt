-- A fate of which a receipt is asked starts a round of Told.
use Rattle.std.proofs.Common.{◌≡◌, ℕ, ◌+◌, ◌≤◌, max, List, [], ◌∷◌, ◌++◌, length, map, refl, sym, ◌∙◌, ap, subst, inl, inr, arith}
use Rattle.mc_model.specs.message.Decree.{Decree, Fate, Final, Kind, Told}
use Rattle.mc_model.specs.message.Neighbours.{MayFollow}
use Rattle.mc_model.specs.message.Chain.{attempts_in, home_in}
use Rattle.mc_model.specs.synod.Ballot.{ballot_of}
use Rattle.mc_model.specs.synod.Lists.{In}
use Rattle.mc_model.specs.synod.OneSlot.{Vote}
use Rattle.mc_model.specs.synod.Packet.{Slot, Voted, slot_of}
use Rattle.mc_model.specs.synod.Acceptor.{Records}
use Rattle.mc_model.specs.node.Act.{Act, Prepares}
use Rattle.mc_model.specs.node.Actor.{Actor}
use Rattle.mc_model.specs.node.Causes.{CausesDelete, CausesTold}
use Rattle.mc_model.specs.node.Due.{key_of}
use Rattle.mc_model.specs.node.Effect.{saved}
use Rattle.mc_model.specs.node.Input.{Delivery, Input}
use Rattle.mc_model.specs.node.Phases.{DueToPrepare}
use Rattle.mc_model.specs.node.Rounds.{IsNextBallot}
use Rattle.mc_model.specs.node.Rules.{GoesFurther, IsDue, IsIdle, next_decree}
use Rattle.mc_model.specs.node.Setup.{Setup}
use Rattle.mc_model.specs.node.Step.{IsExact}
use Rattle.mc_parts.proofs.Known.{knows_one}
use Rattle.mc_parts.proofs.Membership.{in_left, in_right}
use Rattle.mc_laws.specs.Receipts.{HasToTell, MayTell, seen, with_told}

-- ---- acts by their keys

record IsOf (key : ℕ) (acts : List Act) : Type 0 where
  act : Act
  among : In act acts
  key_is : key_of act ≡ key

by_key : (key : ℕ) (acts : List Act) → In key (map key_of acts) → IsOf key acts
by_key key [] none = absurd none
by_key key (first ∷ acts) (inl same) = record { act = first; among = inl refl; key_is = sym same }
by_key key (first ∷ acts) (inr later) = let it = by_key key acts later in record { act = it.act; among = inr it.among; key_is = it.key_is }

-- what is due to be prepared is a Prepare
record IsPrepare (nodes node : ℕ) (before a : Actor) (records : Records) (input : Input) (act : Act) : Type 0 where
  slot : Slot
  ballot : ℕ
  chain : List Decree
  act_is : act ≡ Prepares slot ballot chain
  due : DueToPrepare nodes node before a records input (Prepares slot ballot chain)

prepare : (nodes node : ℕ) (before a : Actor) (records : Records) (input : Input) (act : Act) → DueToPrepare nodes node before a records input act →
    IsPrepare nodes node before a records input act
prepare nodes node before a records input (Prepares slot ballot chain) due =
    record { slot = slot; ballot = ballot; chain = chain; act_is = refl; due = due }
prepare nodes node before a records input act due = absurd due

-- ---- the next ballot is one

next_one : (node : ℕ) (a : Actor) (records : Records) (slot : Slot) (one other : ℕ) → IsNextBallot node a records slot one →
    IsNextBallot node a records slot other →
    one ≡ other
next_one node a records slot one other first second =
    let up = second.most first.highest first.seen in
    let down = first.most second.highest second.seen in
    let same : first.highest ≡ second.highest = omega (arith, up, down) in
    first.ballot_is ∙ ap (λ (n : ℕ). ballot_of (n + 1) a.incarnation node) same ∙ sym second.ballot_is

-- ---- a fate is no decree behind which a message is deleted

not_idle : (decree : Decree) (final : Final) (error : ℕ) → decree.kind ≡ Fate final error → IsIdle decree → ⊥
not_idle decree final error ends (inl taken) = let same = sym ends ∙ taken.1 in cc
not_idle decree final error ends (inr failed) = let same = sym ends ∙ failed.1 in cc

module _ (setup : Setup) (a : Actor) (records : Records) (acceptor : ℕ) (at : Slot) (vote : Vote) (acts : List Act)
    (exact : IsExact setup a records (Delivery (Voted acceptor at vote)) acts) (id : ℕ) (fate : Decree) (older : List Decree) (ballot : ℕ) where
  abbrev input : Input
  input = Delivery (Voted acceptor at vote)

  abbrev now : Actor
  now = seen setup a records input acts exact

  abbrev chain : List Decree
  chain = with_told setup now fate older

  module _ (tell : HasToTell setup a now id fate older) (may : MayTell setup now (saved records exact.core) id fate older ballot) where
    further : GoesFurther setup.nodes setup.node now id (length (fate ∷ older)) chain Told
    further = record {
      newest = fate;
      older = older;
      taken = tell.taken;
      known = tell.known;
      behind = refl;
      message = tell.message;
      chain_is = refl;
    }

    abbrev told : Decree
    told = next_decree setup.node now fate Told

    may_follow : MayFollow tell.taken (home_in (fate ∷ older)) (attempts_in (fate ∷ older)) fate.author fate.moment fate.kind told.author told.moment Told
    may_follow =
        subst (λ (kind : Kind). MayFollow tell.taken (home_in (fate ∷ older)) (attempts_in (fate ∷ older)) fate.author fate.moment kind told.author told.moment Told)
        (sym tell.ends)
        (record { node = sym tell.home; asked = tell.asked })

    later : fate.moment ≤ max now.clock fate.moment
    later = omega arith

    due : IsDue setup.nodes setup.node now id (length (fate ∷ older)) chain Told
    unfolding further
    due = record { further = further; may = (later, may_follow) }

    is_due : DueToPrepare setup.nodes setup.node a now (saved records exact.core) input (Prepares (slot_of id chain) ballot chain)
    is_due = (inr (inr (inr (inr (record { due = due; new = tell.new })))), may)

    -- ---- and nothing else is prepared for the message

    same_known : (newest : Decree) (others : List Decree) (place : ℕ) (of : List Decree) (kind : Kind) →
        (f : GoesFurther setup.nodes setup.node now id place of kind) → (f.newest ∷ f.older) ≡ (fate ∷ older)
    same_known newest others place of kind f = knows_one setup.nodes now.received id (f.newest ∷ f.older) (fate ∷ older) f.known tell.known

    deletes_none : (place : ℕ) (of : List Decree) → CausesDelete setup.nodes setup.node a now id place of → ⊥
    deletes_none place of deletes =
        let f = deletes.deletes.further in
        let both = same_known f.newest f.older place of _ f in
        let heads : f.newest ≡ fate = cc in
        not_idle f.newest tell.final tell.error (ap (λ (d : Decree). d.kind) heads ∙ tell.ends) deletes.deletes.idle

    record IsItsTold (place : ℕ) (of : List Decree) : Type 0 where
      place_is : place ≡ length (fate ∷ older)
      chain_is : of ≡ chain

    tells_it : (place : ℕ) (of : List Decree) → CausesTold setup.nodes setup.node a now id place of → IsItsTold place of
    tells_it place of tells =
        let f = tells.due.further in
        let both = same_known f.newest f.older place of _ f in
        let heads : f.newest ≡ fate = cc in
        record {
          place_is = f.behind ∙ ap (λ (c : List Decree). length c) both;
          chain_is = f.chain_is ∙ ap (λ (d : Decree). next_decree setup.node now d Told ∷ f.newest ∷ f.older) heads
              ∙ ap (λ (c : List Decree). next_decree setup.node now fate Told ∷ c) both;
        }

    by_cause : (slot : Slot) (high : ℕ) (of : List Decree) → slot.id ≡ id →
        DueToPrepare setup.nodes setup.node a now (saved records exact.core) input (Prepares slot high of) →
        Prepares slot high of ≡ Prepares (slot_of id chain) ballot chain
    by_cause slot high of about prepared = elim prepared.0 [
      | inl takes ↦ absurd takes
      | inr (inl closes) ↦ absurd closes
      | inr (inr (inl follows)) ↦ absurd follows
      | inr (inr (inr (inl deletes))) ↦
          absurd (deletes_none slot.place of (subst (λ (n : ℕ). CausesDelete setup.nodes setup.node a now n slot.place of) about deletes))
      | inr (inr (inr (inr tells))) ↦
          let it = tells_it slot.place of (subst (λ (n : ℕ). CausesTold setup.nodes setup.node a now n slot.place of) about tells) in
          let same : slot ≡ slot_of id chain = λ i. record { id = about i; place = it.place_is i } in
          let next : IsNextBallot setup.node now (saved records exact.core) (slot_of id chain) high =
          subst (λ (s : Slot). IsNextBallot setup.node now (saved records exact.core) s high) same prepared.1.next in
          let ballots = next_one setup.node now (saved records exact.core) (slot_of id chain) high ballot next may.next in
          λ i. Prepares (same i) (ballots i) (it.chain_is i)
    ]

    among : In (Prepares (slot_of id chain) ballot chain) exact.prepares
    among =
        let one = by_key id exact.prepares (exact.prepared.all (Prepares (slot_of id chain) ballot chain) is_due) in
        let it = prepare setup.nodes setup.node a now (saved records exact.core) input one.act (exact.prepared.only one.act one.among) in
        let about : it.slot.id ≡ id = sym (ap key_of it.act_is) ∙ one.key_is in
        subst (λ (act : Act). In act exact.prepares) (it.act_is ∙ by_cause it.slot it.ballot it.chain about it.due) one.among

    pub announced : In (Prepares (slot_of id chain) ballot chain) acts
    announced =
        let one = Prepares (slot_of id chain) ballot chain in
        subst (In one) (sym exact.acts_are)
        (in_left one _ exact.core
        (in_left one _ exact.settles
        (in_left one _ exact.late
        (in_left one _ exact.asks
        (in_left one _ exact.abandons (in_right one (exact.reports ++ exact.replies ++ exact.proposes) exact.prepares among))))))
