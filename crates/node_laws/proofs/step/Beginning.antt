-- The step of a node by one act that tells it nothing: questions may be asked, and a round may start.
use Rattle.std.proofs.Common.{◌≡◌, ℕ, List, [], ◌∷◌, ◌++◌, map, Option, sym, ap, subst, ◌∙◌, append-nil, append_assoc}
use Rattle.std.specs.Prelude.{reverse}
use Rattle.std.proofs.lemmas.List.{reverse-append}
use Rattle.mc_model.specs.message.Decree.{Decree}
use Rattle.mc_model.specs.synod.Lists.{In}
use Rattle.mc_model.specs.synod.Packet.{Packet}
use Rattle.mc_model.specs.node.Act.{Act, Proposes, Replies, Reports, Settles}
use Rattle.mc_model.specs.node.Actor.{Actor}
use Rattle.mc_model.specs.node.Alone.{IsRunAlone, MayAlone, Node, after_alone, reached_alone}
use Rattle.mc_model.specs.node.Core.{IsCore}
use Rattle.mc_model.specs.node.Due.{AreDue, AreDueOnce}
use Rattle.mc_model.specs.node.Effect.{did, packets_by, saved}
use Rattle.mc_model.specs.node.Input.{Input}
use Rattle.mc_model.specs.node.Knowledge.{Knows}
use Rattle.mc_model.specs.node.Outputs.{granted_by, packets_in, receipts_in, refused_by, replies_in, ticket_of}
use Rattle.mc_model.specs.node.Phases.{DueToAbandon, DueToAsk, DueToEnd, DueToPrepare, DueToPropose, DueToReply, DueToReport, DueToSettle}
use Rattle.mc_model.specs.node.Rounds.{IsPromised}
use Rattle.mc_model.specs.node.Setup.{Setup}
use Rattle.mc_model.specs.node.Step.{IsExact}
use Rattle.node_model.specs.Kept.{Held, Kept}
use Rattle.node_model.specs.Proposer.{Prepared}
use Rattle.node_model.specs.Requests.{id_of, settles}
use Rattle.node_model.specs.Answers.{answer_to}
use Rattle.node_model.specs.Ticks.{question}
use Rattle.node_laws.specs.Stands.{Agrees, IsQuiet, Stands}
use Rattle.node_laws.specs.Steps.{StepsAs}
use Rattle.node_laws.proofs.step.AskingAgain.{ask_acts, ask_packets, ask_receipts, ask_records, ask_replies, reached_ask}
use Rattle.node_laws.proofs.invariant.Deciding.{IsCalm, quiet_of}
use Rattle.node_laws.proofs.cluster.Runs.{packets_more, reached_actor, receipts_more, replies_more, run_more, saved_more}
use Rattle.mc_laws.proofs.step.Assembly.{alone_on}
use Rattle.mc_laws.proofs.story.FirstStep.{none_due, none_due_once}
use Rattle.node_laws.proofs.step.Started.{StartsAs}

-- The act leaves the records and what was received, and gives out nothing itself.
pub record TellsNothing (node : ℕ) (s : Node) (act : Act) : Type 0 where
  pub records : (after_alone node s act).records ≡ s.records
  pub received : (after_alone node s act).actor.received ≡ s.actor.received
  pub packets : packets_by node s.actor s.records act ≡ []
  pub replies : replies_in (act ∷ []) ≡ []
  pub receipts : receipts_in (act ∷ []) ≡ []

module _ (setup : Setup) (s : Node) (input : Input) (act : Act) (tells : TellsNothing setup.node s act) (may : MayAlone setup.nodes setup.node s act)
    (core_is : IsCore setup s.actor s.records input (act ∷ [])) where
  abbrev s1 : Node
  s1 = after_alone setup.node s act

  -- what is due of the actor then
  pub record Begins (k1 : Kept) (asked : List Held) (id : ℕ) (Due : ℕ → List Decree → Type 0) (new : Prepared) : Type 0 where
    pub agrees : Agrees setup k1 s1
    pub calm : IsCalm setup.nodes k1
    pub ends : AreDue (DueToEnd input s1.actor) []
    pub abandons : AreDue (DueToAbandon setup.nodes setup.node s1.actor (saved s.records (act ∷ [])) input) []
    pub asks : AreDue (DueToAsk setup.nodes setup.node s.actor s1.actor input) (ask_acts asked)
    pub asks_may : IsRunAlone setup.nodes setup.node s1 (ask_acts asked)
    pub starts : StartsAs setup k1 s1 id Due new
    pub prepares : AreDueOnce (DueToPrepare setup.nodes setup.node s.actor s1.actor (saved s.records (act ∷ [])) input) starts.acts

  module _ (k1 : Kept) (asked : List Held) (id : ℕ) (Due : ℕ → List Decree → Type 0) (new : Prepared) (it : Begins k1 asked id Due new) where
    abbrev acts : List Act
    acts = it.starts.acts ++ (ask_acts asked ++ act ∷ [])

    lead_asks : reached_alone setup.node s (ask_acts asked ++ act ∷ []) ≡ s1
    lead_asks = alone_on setup.node s (ask_acts asked) (act ∷ []) ∙ reached_ask setup.node s1 asked

    lead_all : reached_alone setup.node s acts ≡ reached_alone setup.node s1 it.starts.acts
    lead_all = alone_on setup.node s it.starts.acts (ask_acts asked ++ act ∷ []) ∙ ap (λ (x : Node). reached_alone setup.node x it.starts.acts) lead_asks

    run : IsRunAlone setup.nodes setup.node s acts
    run =
        run_more setup.nodes setup.node s it.starts.acts (ask_acts asked ++ act ∷ [])
        (subst (λ (x : Node). IsRunAlone setup.nodes setup.node x it.starts.acts) (sym lead_asks) it.starts.run)
        (run_more setup.nodes setup.node s (ask_acts asked) (act ∷ []) it.asks_may (may, tt))

    -- ---- nothing else is due

    quiet_1 : IsQuiet setup.nodes setup.node s1.actor
    quiet_1 = quiet_of setup k1 s1 it.agrees it.calm

    settles_none : (other : Act) → DueToSettle setup.nodes setup.node s1.actor other → ⊥
    settles_none (Settles ticket) due = quiet_1.settled ticket due
    settles_none other due = due

    proposes_none : (a : Actor) → a.received ≡ s1.actor.received → (other : Act) → DueToPropose setup.nodes setup.node a s1.actor other → ⊥
    proposes_none a same (Proposes slot vote) due =
        due.0.new (subst (λ (ps : List Packet). IsPromised setup.nodes (record a { received = ps }) slot vote.ballot) (sym same) due.0.promised)
    proposes_none a same other due = due

    replies_none : (other : Act) → DueToReply setup.nodes setup.node s1.actor other → ⊥
    replies_none (Replies ticket of answer) due = quiet_1.answered ticket of answer due
    replies_none other due = due

    reports_none : (a : Actor) → a.received ≡ s1.actor.received → (other : Act) → DueToReport setup.nodes setup.node a s1.actor other → ⊥
    reports_none a same (Reports of chain) due =
        due.new (subst (λ (ps : List Packet). Knows setup.nodes ps of chain) (sym same) due.known)
    reports_none a same other due = due

    joined : (prepares asks : List Act) → prepares ++ (asks ++ act ∷ []) ≡ [] ++ [] ++ [] ++ prepares ++ [] ++ asks ++ [] ++ [] ++ act ∷ []
    joined prepares asks =
        sym (append_assoc prepares asks (act ∷ []))
        ∙ (λ i. sym (append-nil prepares) i ++ asks ++ act ∷ [])
        ∙ (λ i. sym (append-nil (sym (append-nil (prepares ++ [] ++ asks)) i)) i ++ act ∷ [])

    exact : IsExact setup s.actor s.records input acts
    exact = record {
      core = act ∷ [];
      settles = [];
      late = [];
      asks = ask_acts asked;
      abandons = [];
      prepares = it.starts.acts;
      proposes = [];
      replies = [];
      reports = [];
      acts_are = joined it.starts.acts (ask_acts asked);
      core_is = core_is;
      settled = none_due _ settles_none;
      ended = it.ends;
      asked = it.asks;
      abandoned = it.abandons;
      prepared = it.prepares;
      proposed = none_due_once _ (proposes_none s.actor (sym tells.received));
      replied = none_due _ replies_none;
      reported = none_due _ (reports_none s.actor (sym tells.received));
    }

    -- ---- what goes out

    packets_out : map (question setup k1) asked ++ new.packets ≡ reverse (packets_in setup.node s.actor s.records acts)
    packets_out =
        (λ i. sym (ask_packets setup k1 s1.actor it.agrees.incarnation (saved s.records (act ∷ [])) asked) i ++ it.starts.packets i)
        ∙ sym (reverse-append (packets_in setup.node s1.actor s1.records it.starts.acts)
        (packets_in setup.node s1.actor (saved s.records (act ∷ [])) (ask_acts asked)))
        ∙ ap reverse (sym sent)
      where
        asks_sent :
            packets_in setup.node s.actor s.records (ask_acts asked ++ act ∷ []) ≡ packets_in setup.node s1.actor (saved s.records (act ∷ [])) (ask_acts asked)
        asks_sent =
            packets_more setup.node s.actor s.records (ask_acts asked) (act ∷ [])
            ∙ ap (λ (ps : List Packet). packets_in setup.node s1.actor (saved s.records (act ∷ [])) (ask_acts asked) ++ (ps ++ [])) tells.packets
            ∙ append-nil (packets_in setup.node s1.actor (saved s.records (act ∷ [])) (ask_acts asked))

        actor_is : did setup.node s.actor (ask_acts asked ++ act ∷ []) ≡ s1.actor
        actor_is = sym (reached_actor setup.node s (ask_acts asked ++ act ∷ [])) ∙ ap (λ (x : Node). x.actor) lead_asks

        records_is : saved s.records (ask_acts asked ++ act ∷ []) ≡ s1.records
        records_is = saved_more s.records (ask_acts asked) (act ∷ []) ∙ ask_records (saved s.records (act ∷ [])) asked

        sent :
            packets_in setup.node s.actor s.records acts ≡
            packets_in setup.node s1.actor s1.records it.starts.acts ++ packets_in setup.node s1.actor (saved s.records (act ∷ [])) (ask_acts asked)
        sent =
            packets_more setup.node s.actor s.records it.starts.acts (ask_acts asked ++ act ∷ [])
            ∙ (λ i. packets_in setup.node (actor_is i) (records_is i) it.starts.acts ++ asks_sent i)

    replies_out : [] ≡ reverse (replies_in acts)
    replies_out = ap reverse (sym (
        replies_more it.starts.acts (ask_acts asked ++ act ∷ [])
        ∙ (λ i. it.starts.no_replies i ++ replies_more (ask_acts asked) (act ∷ []) i)
        ∙ (λ i. ask_replies asked i ++ tells.replies i)
        ))

    receipts_out : [] ≡ reverse (receipts_in acts)
    receipts_out = ap reverse (sym (
        receipts_more it.starts.acts (ask_acts asked ++ act ∷ [])
        ∙ (λ i. it.starts.no_receipts i ++ receipts_more (ask_acts asked) (act ∷ []) i)
        ∙ (λ i. ask_receipts asked i ++ tells.receipts i)
        ))

    -- ---- the step

    calm_then : IsCalm setup.nodes new.kept
    calm_then = record {
      settled = λ h among.
          ap (λ (known : Option (List Decree)). settles setup.nodes known h) (it.starts.known (id_of h))
          ∙ it.calm.settled h (subst (λ (hs : List Held). In h hs) it.starts.held among);
      answered = λ h among.
          ap (λ (known : Option (List Decree)). answer_to setup.nodes known h) (it.starts.known (id_of h))
          ∙ it.calm.answered h (subst (λ (hs : List Held). In h hs) it.starts.held among);
    }

    pub begun_steps : StepsAs setup s input (record {
      kept = new.kept;
      outputs = record {
        ticket = ticket_of s.actor input;
        refused = refused_by input;
        packets = map (question setup k1) asked ++ new.packets;
        replies = [];
        receipts = [];
        granted = granted_by input;
      };
    })
    begun_steps = record {
      acts = acts;
      taken = record { run = run; exact = exact };
      stands = subst (Stands setup new.kept) (sym lead_all) (record {
        agrees = it.starts.agrees;
        quiet = quiet_of setup new.kept (reached_alone setup.node s1 it.starts.acts) it.starts.agrees calm_then;
      });
      outputs = λ i. record {
        ticket = ticket_of s.actor input;
        refused = refused_by input;
        packets = packets_out i;
        replies = replies_out i;
        receipts = receipts_out i;
        granted = granted_by input;
      };
    }
