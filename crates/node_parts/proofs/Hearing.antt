-- A vote that is told is heard of its message as in the model.
use Rattle.std.proofs.Common.{◌≡◌, ℕ, ◌<◌, Bool, true, false, List, [], ◌∷◌, length, Option, Some, None, refl, sym, ap, subst, ◌∙◌, arith}
use Rattle.std.proofs.lemmas.Bool.{and_parts}
use Rattle.std.proofs.lemmas.Bool.Decides.{nat_tests}
use Rattle.mc_model.specs.message.Decree.{Decree}
use Rattle.node_model.specs.Learner.{heard, is_shorter, makes_known}
use Rattle.node_model.specs.Message.{Message}
use Rattle.node_model.specs.Packets.{known_then}
use Rattle.node_model.specs.Proposer.{unless_reached}
use Rattle.synod_acceptor.specs.Votes.{vote_of}
use Rattle.synod_acceptor.specs.declared.vote.Vote.{Vote as Cast}
use Rattle.synod_learner.specs.Counts.{Learned}
use Rattle.synod_learner.specs.Hearing.{known_if, message_in}
use Rattle.synod_proposer.specs.Proposing.{IsOfSame as IsOfSameProposer, Proposing, message_of as message_proposed}
use Rattle.node_parts.specs.declared.message.Message.{Message as Filed}
use Rattle.node_parts.specs.Attempting.{IsBacked}
use Rattle.node_parts.specs.Messages.{IsHeard, IsOfSame, message_of}

abbrev with_parts : Filed → Learned → Proposing → Filed
with_parts old learner proposer = record { acceptor = old.acceptor; learner = learner; proposer = proposer; attempts = old.attempts }

-- what was granted stays so, if as much is known or more
backed_longer : (me starts place : ℕ) (known : Option (List Decree)) (chain : List Decree) → is_shorter known chain ≡ true →
    IsBacked me starts place known → IsBacked me starts place (Some chain)
backed_longer me starts place None chain longer is = absurd is
backed_longer me starts place (Some []) chain longer is = absurd is
backed_longer me starts place (Some (newest ∷ older)) [] longer is = absurd (grind (arith, nat_tests))
backed_longer me starts place (Some (newest ∷ older)) (last ∷ others) longer is =
    let below = is.0 in
    let more : length older < length others = grind (arith, nat_tests) in
    (omega arith, λ same. absurd (omega arith))

module _ (old : Filed) (id : ℕ) (learner : Learned) (proposer : Proposing) (nodes : learner.nodes ≡ old.learner.nodes)
    (same : IsOfSameProposer old.proposer proposer)
    (backed : (me starts place : ℕ) → IsBacked me starts place (message_of id old).known → IsBacked me starts place (message_in learner id).known) where
  still_same : IsOfSame id old (with_parts old learner proposer)
  still_same = record {
    acceptor = refl;
    of = λ me starts count of. record {
      learner = nodes ∙ of.learner;
      node = same.node ∙ of.node;
      incarnation = same.incarnation ∙ of.incarnation;
      proposer = same.nodes ∙ of.proposer;
      named = of.named;
      backed = λ place granted. backed me starts place (of.backed place granted);
    };
  }

module _ (old : Filed) (sender : ℕ) (vote : Cast) (learner : Learned) (grows : Bool) (nodes : learner.nodes ≡ old.learner.nodes)
    (decides : grows ≡ makes_known old.learner.nodes (heard (message_in old.learner vote.chain.id) sender (vote_of vote)) (vote_of vote))
    (message : message_in learner vote.chain.id ≡ known_if grows (heard (message_in old.learner vote.chain.id) sender (vote_of vote)) vote.chain.decrees) where
  pub heard_longer : (proposer : Proposing) → grows ≡ true →
      (message_proposed proposer).round ≡ unless_reached vote.chain.decrees (message_proposed old.proposer).round →
      proposer.seen ≡ old.proposer.seen → IsOfSameProposer old.proposer proposer →
      IsHeard old sender vote (with_parts old learner proposer) grows
  heard_longer proposer test round seen same =
      let known : message_in learner vote.chain.id ≡ known_then (heard (message_in old.learner vote.chain.id) sender (vote_of vote)) vote.chain.decrees =
      message ∙ ap (λ (b : Bool). known_if b (heard (message_in old.learner vote.chain.id) sender (vote_of vote)) vote.chain.decrees) test in
      let later : message_of vote.chain.id (with_parts old learner proposer) ≡ known_then
      (heard (message_of vote.chain.id old) sender (vote_of vote)) vote.chain.decrees =
      λ i. record (message_of vote.chain.id old) { votes = (known i).votes; known = (known i).known; round = round i; seen = seen i } in
      let longer : is_shorter (message_of vote.chain.id old).known vote.chain.decrees ≡ true =
      (and_parts _ (is_shorter (message_of vote.chain.id old).known vote.chain.decrees) (sym decides ∙ test)).1 in
      record {
        same = still_same old vote.chain.id learner proposer nodes same (λ me starts place is.
            subst (IsBacked me starts place) (sym (ap (λ (m : Message). m.known) known))
            (backed_longer me starts place (message_of vote.chain.id old).known vote.chain.decrees longer is));
        decides = decides;
        message = later ∙ sym (ap (λ (b : Bool). known_if b (heard (message_of vote.chain.id old) sender (vote_of vote)) vote.chain.decrees) test);
      }

  pub heard_only : grows ≡ false → IsHeard old sender vote (with_parts old learner old.proposer) grows
  heard_only test =
      let known : message_in learner vote.chain.id ≡ heard (message_in old.learner vote.chain.id) sender (vote_of vote) =
      message ∙ ap (λ (b : Bool). known_if b (heard (message_in old.learner vote.chain.id) sender (vote_of vote)) vote.chain.decrees) test in
      let now : message_of vote.chain.id (with_parts old learner old.proposer) ≡ heard (message_of vote.chain.id old) sender (vote_of vote) =
      λ i. record (message_of vote.chain.id old) { votes = (known i).votes; known = (known i).known } in
      record {
        same = still_same old vote.chain.id learner old.proposer nodes (record { node = refl; incarnation = refl; nodes = refl }) (λ me starts place is.
            subst (IsBacked me starts place) (sym (ap (λ (m : Message). m.known) known)) is);
        decides = decides;
        message = now ∙ sym (ap (λ (b : Bool). known_if b (heard (message_of vote.chain.id old) sender (vote_of vote)) vote.chain.decrees) test);
      }
