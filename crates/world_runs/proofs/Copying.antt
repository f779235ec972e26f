-- By a copy of a step a world becomes what it becomes by the step.
use Rattle.std.proofs.Common.{◌≡◌, ◌+◌, ◌<◌, ℕ, List, [], ◌∷◌, ◌++◌, length, take, get_or, Ok, Err, refl, sym, ap, subst, ◌∙◌, arith}
use Rattle.std.proofs.lemmas.List.{take_more}
use Rattle.mc_model.specs.node.Input.{Tick}
use Rattle.mc_model.specs.synod.Packet.{Packet}
use Rattle.mc_model.specs.cluster.Steps.{Cluster}
use Rattle.node_laws.specs.Clusters.{NodeInput, comes_to}
use Rattle.delivery.specs.Targets.{is_up}
use Rattle.world.specs.Reaching.{may_of}
use Rattle.world.specs.Copies.{IsCopy}
use Rattle.world.specs.Step.{Step}
use Rattle.world.specs.Step.TheVariants as steps
use Rattle.world.specs.Runs.{Answers, Leads}
use Rattle.world.specs.Scenes.{Scene}
use Rattle.world_runs.specs.Histories.{BecomesBy}
use Rattle.world_runs.specs.Traces.{Answer, AreCopies, events_of}

leads_of : (old : Scene) (step copy : Step) (answer : Answer) (new : Scene) → IsCopy step copy → Leads old copy answer new → Leads old step answer new
leads_of old (steps.Tick node moment reach) (steps.Tick same then others) answer new is leads = record {
  fresh = leads.fresh;
  each = λ cluster behind inputs at. by_answer cluster behind inputs answer (leads.each cluster behind inputs at);
}
  where
    by_answer : (cluster : Cluster) (behind : List Packet) (inputs : List NodeInput) (answer : Answer) →
        Answers cluster behind inputs (steps.Tick same then others) answer new → Answers cluster behind inputs (steps.Tick node moment reach) answer new
    by_answer cluster behind inputs answer answers =
        alike cluster behind inputs answer
        (subst (λ (step : Step). Answers cluster behind inputs step answer new) (λ i. steps.Tick (is.0 i) (is.1 i) others) answers)
      where
        alike : (cluster : Cluster) (behind : List Packet) (inputs : List NodeInput) (answer : Answer) →
            Answers cluster behind inputs (steps.Tick node moment others) answer new → Answers cluster behind inputs (steps.Tick node moment reach) answer new
        alike cluster behind inputs (Ok given) goes = record {
          allowed = goes.allowed;
          next = goes.next;
          comes = goes.comes ∙ (λ i. comes_to node (Tick moment (record { up = is_up (is.2.0 i); may = may_of (is.2.1 i) })));
          loses = tt;
          at = goes.at;
          gives = goes.gives;
          granted = tt;
        }
        alike cluster behind inputs (Err fault) stays = record { refused = stays.refused; at = stays.at }
leads_of old (steps.Tick node moment reach) (steps.Deliver number to) answer new is leads = absurd is
leads_of old (steps.Tick node moment reach) (steps.Request to account request) answer new is leads = absurd is
leads_of old (steps.Tick node moment reach) (steps.Grant to id) answer new is leads = absurd is
leads_of old (steps.Tick node moment reach) (steps.Answered to slot outcome) answer new is leads = absurd is
leads_of old (steps.Tick node moment reach) (steps.Crash to number found) answer new is leads = absurd is
leads_of old (steps.Tick node moment reach) (steps.Restart to) answer new is leads = absurd is
leads_of old (steps.Deliver number node) copy answer new is leads = subst (λ (step : Step). Leads old step answer new) is leads
leads_of old (steps.Request node account request) copy answer new is leads = subst (λ (step : Step). Leads old step answer new) is leads
leads_of old (steps.Grant node id) copy answer new is leads = subst (λ (step : Step). Leads old step answer new) is leads
leads_of old (steps.Answered node slot outcome) copy answer new is leads = subst (λ (step : Step). Leads old step answer new) is leads
leads_of old (steps.Crash node number found) copy answer new is leads = subst (λ (step : Step). Leads old step answer new) is leads
leads_of old (steps.Restart node) copy answer new is leads = subst (λ (step : Step). Leads old step answer new) is leads

pub copies_count : (steps copies : List Step) → AreCopies steps copies → length copies ≡ length steps
copies_count [] copies none = ap length none
copies_count (step ∷ steps) [] none = absurd none
copies_count (step ∷ steps) (copy ∷ copies) are = let rest = copies_count steps copies are.1 in omega (arith, rest)

pub becomes_of : (old : Scene) (steps copies : List Step) (answers : List Answer) (new : Scene) → AreCopies steps copies →
    BecomesBy old (events_of copies answers) new → BecomesBy old (events_of steps answers) new
becomes_of old [] copies answers new none way = subst (λ (ss : List Step). BecomesBy old (events_of ss answers) new) none way
becomes_of old (step ∷ steps) [] answers new none way = absurd none
becomes_of old (step ∷ steps) (copy ∷ copies) [] new are way = way
becomes_of old (step ∷ steps) (copy ∷ copies) (answer ∷ answers) new are way =
    (way.0, leads_of old step copy answer way.0 are.0 way.1, becomes_of way.0 steps copies answers new are.1 way.2)

copied_more : (steps copies : List Step) (step copy : Step) → AreCopies steps copies → IsCopy step copy → AreCopies (steps ++ step ∷ []) (copies ++ copy ∷ [])
copied_more [] copies step copy none is = subst (λ (cs : List Step). AreCopies (step ∷ []) (cs ++ copy ∷ [])) (sym none) (is, refl)
copied_more (first ∷ steps) [] step copy none is = absurd none
copied_more (first ∷ steps) (next ∷ copies) step copy are is = (are.0, copied_more steps copies step copy are.1 is)

-- one more is copied
pub one_copied : (steps copies after : List Step) (place : ℕ) (step copy : Step) → place < length steps → step ≡ get_or steps place step →
    AreCopies (take place steps) copies → IsCopy step copy → after ≡ copies ++ copy ∷ [] → AreCopies (take (place + 1) steps) after
one_copied steps copies after place step copy below is are once pushed =
    let taken : take (place + 1) steps ≡ take place steps ++ step ∷ [] =
    take_more steps place step below ∙ ap (λ (s : Step). take place steps ++ s ∷ []) (sym is) in
    subst (λ (ss : List Step). AreCopies ss after) (sym taken)
    (subst (AreCopies (take place steps ++ step ∷ [])) (sym pushed) (copied_more (take place steps) copies step copy are once))
