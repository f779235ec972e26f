-- Requests that are replied to: they were held when certain inputs had come, or came behind them.
use Rattle.std.proofs.Common.{◌≡◌, ◌⊎◌, ℕ, Bool, true, false, List, [], ◌∷◌, ◌++◌, refl, sym, ◌∙◌, ap, subst, inl, inr}
use Rattle.std.specs.Prelude.{◌==◌, if◌then◌else◌}
use Rattle.std.proofs.lemmas.Bool.{eqb-false, eqb-true}
use Rattle.mc_model.specs.synod.Lists.{In}
use Rattle.mc_model.specs.node.Input.{Arrival, Input, Restart}
use Rattle.mc_model.specs.node.Outputs.{Reply}
use Rattle.mc_model.specs.cluster.Steps.{Cluster, setup_of}
use Rattle.node_model.specs.Kept.{Held, Kept}
use Rattle.node_model.specs.Outputs.{Stepped}
use Rattle.node_model.specs.Requests.{ticket_of}
use Rattle.node_model.specs.Stepped.{stepped}
use Rattle.node_laws.specs.Clusters.{NodeInput, comes_to, kept_reached, outputs_at, step_at}
use Rattle.world_fates.proofs.node.Behind.{input_to}
use Rattle.world_fates.proofs.node.StepsOut.{step_now}
use Rattle.world_fates.specs.Questions.{HoldsUnder}
use Rattle.world_fates.proofs.Holding.{AnswersHeld, ComesUnder, holds_on, request_of, restart_holds}
use Rattle.world_fates.proofs.Later.{CameSince, since_later}

module _ (cluster : Cluster) (m : ℕ) (first : List NodeInput) where
  abbrev kept_then : List NodeInput → Kept
  kept_then past = (kept_reached cluster past).kept m

  -- it was held then, or came since
  abbrev HeldOrCame : List NodeInput → Held → Type 0
  HeldOrCame past h = HoldsUnder (kept_then first).held (ticket_of h) (request_of h) ⊎ CameSince cluster m first past (ticket_of h)

  module _ (next : NodeInput) (front : List NodeInput) where
    abbrev past : List NodeInput
    past = front ++ first

    abbrev step : Stepped
    step = step_at cluster (kept_reached cluster past) next

    -- what comes does not start the node anew
    later_so : (h : Held) → ((lost : ℕ) → comes_to m (Restart lost) ≡ next → ⊥) → HeldOrCame past h → HeldOrCame (next ∷ past) h
    later_so h never (inl old) = inl old
    later_so h never (inr since) = inr (since_later cluster m first past next never (ticket_of h) since)

    comes_now : (h : Held) → m ≡ next.node → ComesUnder next.input step (ticket_of h) (request_of h) → CameSince cluster m first (next ∷ past) (ticket_of h)
    comes_now h here comes = record {
      middle = [];
      front = front;
      request = request_of h;
      past_is = ap (λ (n : NodeInput). n ∷ past) next_is;
      given = ap (λ (n : NodeInput). (outputs_at cluster past n).ticket) (sym next_is) ∙ comes.given;
      lives = λ lost among. among;
    }
      where
        next_is : next ≡ comes_to m (Arrival (request_of h))
        next_is = λ i. record { node = sym here i; input = comes.input_is i }

    held_here : (h : Held) → m ≡ next.node → In h step.kept.held → ((old : Held) → In old (kept_then past).held → HeldOrCame past old) →
        HeldOrCame (next ∷ past) h
    held_here h here among before =
        elim ((holds_on (setup_of cluster next.node) ((kept_reached cluster past).kept next.node) next.input).held h among) [
          | inl under ↦
              let old = subst (λ (n : ℕ). In under.one ((kept_reached cluster past).kept n).held) (sym here) under.among in
              subst (λ (t : ℕ). HoldsUnder (kept_then first).held t (request_of h) ⊎ CameSince cluster m first (next ∷ past) t) under.ticket_is
              (elim (later_so under.one never (before under.one old)) [
                | inl it ↦ inl (record { one = it.one; among = it.among; ticket_is = it.ticket_is; request_is = it.request_is ∙ under.request_is })
                | inr since ↦ inr since
              ])
          | inr comes ↦ inr (comes_now h here comes)
        ]
      where
        never : (lost : ℕ) → comes_to m (Restart lost) ≡ next → ⊥
        never lost same =
            restart_holds (setup_of cluster next.node) ((kept_reached cluster past).kept next.node) lost h
            (subst (λ (i : Input). In h (stepped (setup_of cluster next.node) ((kept_reached cluster past).kept next.node) i).kept.held)
            (ap (λ (n : NodeInput). n.input) (sym same)) among)

  held_or_came : (front : List NodeInput) (h : Held) → In h (kept_then (front ++ first)).held → HeldOrCame (front ++ first) h
  held_or_came [] h among = inl (record { one = h; among = among; ticket_is = refl; request_is = refl })
  held_or_came (next ∷ front) h among = by_node (m == next.node) refl (held_or_came front) among
    where
      by_node : (test : Bool) → (m == next.node) ≡ test →
          ((old : Held) → In old (kept_then (front ++ first)).held → HeldOrCame (front ++ first) old) →
          In h (if test then (step next front).kept else kept_then (front ++ first)).held → HeldOrCame (next ∷ (front ++ first)) h
      by_node true same before among = held_here next front h (eqb-true m next.node same) among before
      by_node false differs before among =
          later_so next front h (λ lost same. eqb-false m next.node differs (ap (λ (n : NodeInput). n.node) same)) (before h among)

  -- so was each request that a reply answers
  pub reply_or_came : (front past : List NodeInput) → past ≡ front ++ first → (input : Input) (reply : Reply) →
      In reply (step_now cluster (input_to m input) past).outputs.replies →
      AnswersHeld (kept_then first).held reply ⊎ CameSince cluster m first past reply.ticket
  reply_or_came front past is input reply among =
      let it = (holds_on (setup_of cluster m) (kept_then past) input).replies reply among in
      elim (subst (λ (p : List NodeInput). (h : Held) → In h (kept_then p).held → HeldOrCame p h) (sym is) (held_or_came front) it.under.one it.under.among) [
        | inl old ↦ inl (record {
          request = it.request;
          under = record {
            one = old.one;
            among = old.among;
            ticket_is = old.ticket_is ∙ it.under.ticket_is;
            request_is = old.request_is ∙ it.under.request_is;
          };
          about = it.about;
          may = it.may;
        })
        | inr since ↦ inr (subst (CameSince cluster m first past) it.under.ticket_is since)
      ]
