-- What is told of a message follows from the records.
use Rattle.std.proofs.Common.{◌≡◌, ℕ, Option, Some, None, refl, sym, ap, ◌∙◌, arith}
use Rattle.mc_model.specs.synod.Packet.{TopVote, slot_at}
use Rattle.mc_model.specs.synod.Acceptor.{IsTold, Records}

pub told_once : (records : Records) (id : ℕ) (one other : Option TopVote) → IsTold records id one → IsTold records id other → one ≡ other
told_once records id None None is also = refl
told_once records id None (Some other) is also =
    let both : Some other.vote ≡ None = sym also.voted ∙ is other.place in absurd (cc)
told_once records id (Some one) None is also =
    let both : Some one.vote ≡ None = sym is.voted ∙ also one.place in absurd (cc)
told_once records id (Some one) (Some other) is also =
    let places : one.place ≡ other.place = omega (arith, is.highest other.place other.vote also.voted, also.highest one.place one.vote is.voted) in
    let both : Some one.vote ≡ Some other.vote = sym is.voted ∙ (ap (λ (place : ℕ). (records (slot_at id place)).vote) places ∙ also.voted) in
    let votes : one.vote ≡ other.vote = cc in
    λ i. Some (record { id = (is.about ∙ sym also.about) i; place = places i; vote = votes i })
