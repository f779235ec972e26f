-- What an acceptor answers is what the actor of the model answers.
use Rattle.std.proofs.Common.{◌≡◌, ℕ, Bool, true, false, refl, inl, inr, arith}
use Rattle.std.specs.Prelude.{nat_lt, nat_le, if◌then◌else◌}
use Rattle.std.proofs.lemmas.Bool.Decides.{nat_tests}
use Rattle.mc_model.specs.synod.OneSlot.{Vote}
use Rattle.mc_model.specs.synod.Packet.{Prepare, Promise, Propose, Refused, Slot, Voted}
use Rattle.mc_model.specs.synod.Acceptor.{Records, after_promise, after_vote}
use Rattle.mc_model.specs.node.Act.{Promises, Refuses, Votes}
use Rattle.mc_model.specs.node.Actor.{Actor}
use Rattle.node_model.specs.Acceptor.{Judgement, prepare_judged, propose_judged}
use Rattle.node_model.proofs.Records.{same_record}
use Rattle.node_laws.specs.Answering.{IsAnswered}

pub prepare_answered : (node sender : ℕ) (a : Actor) (records : Records) (slot : Slot) (ballot : ℕ) →
    IsAnswered node a records (Prepare sender slot ballot) slot (prepare_judged node slot ballot (records slot))
prepare_answered node sender a records slot ballot = by_test (nat_lt (records slot).promised ballot) refl
  where
    judged : Bool → Judgement
    judged test =
        if test
        then record { answer = Promise node slot ballot (records slot).vote; after = after_promise (records slot) ballot }
        else record { answer = Refused node slot ballot (records slot).promised; after = records slot }

    by_test : (test : Bool) → nat_lt (records slot).promised ballot ≡ test → IsAnswered node a records (Prepare sender slot ballot) slot (judged test)
    by_test true below = record {
      act = Promises slot ballot true;
      answers = inl (grind (arith, nat_tests), refl);
      sends = refl;
      leaves = λ other. refl;
    }
    by_test false above = record {
      act = Refuses slot ballot;
      answers = inr (grind (arith, nat_tests), refl);
      sends = refl;
      leaves = λ other. same_record records slot other;
    }

pub propose_answered : (node sender : ℕ) (a : Actor) (records : Records) (slot : Slot) (vote : Vote) →
    IsAnswered node a records (Propose sender slot vote) slot (propose_judged node slot vote (records slot))
propose_answered node sender a records slot vote = by_test (nat_le (records slot).promised vote.ballot) refl
  where
    judged : Bool → Judgement
    judged test =
        if test
        then record { answer = Voted node slot vote; after = after_vote vote }
        else record { answer = Refused node slot vote.ballot (records slot).promised; after = records slot }

    by_test : (test : Bool) → nat_le (records slot).promised vote.ballot ≡ test → IsAnswered node a records (Propose sender slot vote) slot (judged test)
    by_test true below = record {
      act = Votes slot vote true;
      answers = inl (grind (arith, nat_tests), refl);
      sends = refl;
      leaves = λ other. refl;
    }
    by_test false above = record {
      act = Refuses slot vote.ballot;
      answers = inr (grind (arith, nat_tests), refl);
      sends = refl;
      leaves = λ other. same_record records slot other;
    }
