-- A vote that is counted anew is heard.
use Rattle.std.proofs.Common.{◌≡◌, ◌↔◌, ◌∙◌, ℕ, Bool, true, false, List, ◌∷◌, Option, Some, refl, sym, ap, subst}
use Rattle.std.specs.Prelude.{◌==◌, ◌||◌, IsTrue}
use Rattle.std.proofs.lemmas.Option.{slice_get_within}
use Rattle.mc_types.specs.Nodes.{has}
use Rattle.mc_model.specs.message.Chain.{Chain}
use Rattle.node_model.specs.Learner.{heard, makes_known}
use Rattle.synod_acceptor.specs.declared.vote.Vote.{Vote as Cast}
use Rattle.synod_acceptor.specs.Votes.{slot_in, vote_of}
use Rattle.synod_learner.specs.declared.recount.Recount.{Recount}
use Rattle.synod_learner.specs.Counts.{AreSingle, Count, IsCountAt, IsCountPlace, IsCounted, IsVotersAt, Learned, with_count, with_voters, with_voters_of}
use Rattle.synod_learner.specs.Hearing.{CountsAnew, HasHeard, IsCoherent, MakesKnown, message_in}
use Rattle.synod_learner.proofs.Counts.{IsAdded, count, counted_more, joined, new_voters_are}
use Rattle.synod_learner.proofs.Hearing.{heard_new, learned_of, told_by}
use Rattle.synod_learner.proofs.Messages.{grows_new, learned_more, message_is}

module _ (nodes : ℕ) (counts : List Count) (known : List Chain) (place : Option ℕ) (had voters voter : ℕ) (vote : Cast) (grows : Bool)
    (coherent : IsCoherent nodes counts known) (at : IsCountPlace counts (slot_in vote) (vote_of vote) place)
    (were : IsVotersAt counts place had) (adds : (other : ℕ) → has voters other ≡ (has had other || other == voter))
    (decides : IsTrue grows ↔ MakesKnown nodes known voters vote) where
  abbrev before : Learned
  before = learned_of nodes counts known

  abbrev New : List Count
  New = with_count counts place (count (slot_in vote) (vote_of vote) voters)

  more : IsAdded counts New voter (slot_in vote) (vote_of vote) × AreSingle New
  more = counted_more counts (slot_in vote) (vote_of vote) place had voters voter coherent.single at were (joined had voters voter adds)

  are : (node : ℕ) → (has voters node ≡ true) ↔ IsCounted New node (slot_in vote) (vote_of vote)
  are =
      new_voters_are counts New (slot_in vote) (vote_of vote) place had voters voter coherent.single at were (joined had voters voter adds) more.0

  pub grows_so : grows ≡ makes_known nodes (heard (message_in before vote.chain.id) voter (vote_of vote)) (vote_of vote)
  grows_so = grows_new nodes counts New known voter vote voters grows more.0 are decides

  -- what is counted of it, and nothing becomes known
  pub added_so : grows ≡ false → (r : Recount) → r.voters ≡ voters → place ≡ Some r.place → CountsAnew before voter vote r
  added_so not_known r same_voters same_place =
      let decides_not : IsTrue false ↔ MakesKnown nodes known voters vote = subst (λ (b : Bool). IsTrue b ↔ MakesKnown nodes known voters vote) not_known decides in
      let stands : IsCountAt counts (slot_in vote) (vote_of vote) r.place = subst (λ (p : Option ℕ). IsCountPlace counts (slot_in vote) (vote_of vote) p) same_place at in
      let put : New ≡ with_voters counts r.place r.voters =
      ap (λ (p : Option ℕ). with_count counts p (count (slot_in vote) (vote_of vote) voters)) same_place
      ∙ ap (λ (vs : ℕ). with_count counts (Some r.place) (count (slot_in vote) (vote_of vote) vs)) (sym same_voters)
      ∙ sym (ap (with_voters_of counts r.place r.voters) stands.stands) in
      record {
        fits = record {
          stands = slice_get_within counts r.place (count (slot_in vote) (vote_of vote) stands.voters) stands.stands;
          coherent = subst (λ (cs : List Count). IsCoherent nodes cs known) put (record {
            single = more.1;
            others = coherent.others;
            learned = learned_more false nodes counts known known vote place voters coherent.learned decides_not refl;
          });
        };
        nothing = sym grows_so ∙ not_known;
        message = subst
            (λ (cs : List Count). message_in (learned_of nodes cs known) vote.chain.id ≡ heard (message_in before vote.chain.id) voter (vote_of vote)) put
            (message_is false nodes counts New known known voter vote more.0 refl);
        heard_so = λ received was. subst (λ (cs : List Count). HasHeard (learned_of nodes cs known) (told_by voter vote ∷ received)) put
            (heard_new false nodes counts New known known received voter vote voters more.0 are decides_not refl was);
      }
