-- A tick of what is kept is an exact step of the actor.
use Rattle.std.proofs.Common.{◌≡◌, ℕ, suc, max, Bool, List, [], ◌∷◌, ◌++◌, map, None, refl, sym, ap, subst, ◌∙◌, append-nil, append_assoc}
use Rattle.std.specs.Prelude.{filter, reverse, if◌then◌else◌}
use Rattle.std.proofs.lemmas.List.{reverse-append}
use Rattle.mc_model.specs.node.Reach.{Reach}
use Rattle.mc_model.specs.message.Ids.{IsNode}
use Rattle.mc_model.specs.synod.Lists.{In}
use Rattle.mc_model.specs.synod.Packet.{Packet, Slot}
use Rattle.mc_model.specs.node.Act.{Abandons, Act, Prepares, Proposes, Replies, Reports, Settles, Ticks}
use Rattle.mc_model.specs.node.Actor.{Actor, Offer}
use Rattle.mc_model.specs.node.Alone.{IsRunAlone, Node, reached_alone}
use Rattle.mc_model.specs.node.Due.{AreDue, AreDueOnce, Fall, key_of}
use Rattle.mc_model.specs.node.Effect.{did, saved}
use Rattle.mc_model.specs.node.FirstRule.{GiveUp}
use Rattle.mc_model.specs.node.Input.{Tick}
use Rattle.mc_model.specs.node.Outputs.{packets_in, receipts_in, replies_in}
use Rattle.mc_model.specs.node.Phases.{DueToAbandon, DueToAsk, DueToPrepare, DueToPropose, DueToReply, DueToReport, DueToSettle}
use Rattle.mc_model.specs.node.Setup.{Setup}
use Rattle.mc_model.specs.node.Step.{IsExact}
use Rattle.node_model.specs.Kept.{Held, Kept, message_at}
use Rattle.node_model.specs.Message.{Message}
use Rattle.node_model.specs.Requests.{Ascend, is_untold}
use Rattle.node_model.specs.Stepped.{stepped, stepped_down, stepped_up}
use Rattle.node_model.specs.Ticks.{asked_again, ids_of, is_late, late_reply, on_tick, ruled_each}
use Rattle.node_laws.specs.Stands.{Agrees, IsQuiet, Stands}
use Rattle.node_laws.specs.Steps.{IsAtWork, StepsAs}
use Rattle.node_laws.proofs.step.AskingAgain.{ask_acts, ask_packets, ask_receipts, ask_replies, asks_due, asks_may, reached_ask}
use Rattle.node_laws.proofs.step.FirstRule.{agrees_on}
use Rattle.node_laws.proofs.step.LateReplies.{late_answer, late_due, late_lead, late_may, late_replies}
use Rattle.node_laws.proofs.invariant.Orders.{ascend_from, in_mapped, mapped_in}
use Rattle.node_laws.proofs.invariant.Quiet.{quiet_with, to_settle_back}
use Rattle.node_laws.proofs.invariant.Replied.{replies_packets, replies_receipts, reply_acts}
use Rattle.node_laws.proofs.step.Ruling.{keys_of_starts, later, packet_of, packets_of_starts, prepare_of, reached_starts}
use Rattle.node_laws.proofs.step.RulingAll.{RulesAll, rules_all}
use Rattle.node_laws.proofs.cluster.Runs.{packets_more, reached_actor, receipts_more, replies_more, run_more}
use Rattle.node_laws.proofs.step.TickActs.{abandon_keys, abandon_packets, abandon_receipts, abandon_replies, reached_abandons, run_abandons, run_starts}
use Rattle.node_laws.proofs.step.TickActs.{start_receipts, start_replies}
use Rattle.node_laws.proofs.step.TickIds.{fits_in, ids_ascending}
use Rattle.mc_laws.proofs.step.Assembly.{alone_on}
use Rattle.mc_laws.proofs.story.FirstStep.{none_due, none_due_once}
use Rattle.node_laws.proofs.invariant.Ticked.{after_late, agrees_then, kept_then, message_ticked, none_runs, waits_before}

module _ (setup : Setup) (k : Kept) (s : Node) (stands : Stands setup k s) (works : IsAtWork setup s) (mine : IsNode setup.node) (moment : ℕ)
    (reach : Reach) where
  abbrev core : List Act
  core = Ticks moment ∷ []

  abbrev risen : Actor
  risen = did setup.node s.actor core

  abbrev tick : Node
  tick = after_late setup k s stands.agrees moment

  abbrev ticked : Kept
  ticked = kept_then setup k s stands.agrees moment

  agrees : Agrees setup ticked tick
  agrees = agrees_then setup k s stands.agrees moment

  ascends : Ascend k.held
  ascends = ascend_from k.held stands.agrees.tickets

  quiet : IsQuiet setup.nodes setup.node tick.actor
  quiet =
      quiet_with setup.nodes setup.node s.actor tick.actor refl (λ id known is. is) (λ name known settled. settled)
      (waits_before setup k s stands.agrees moment) stands.quiet

  -- ---- what is done

  abbrev late : List Act
  late = reply_acts (late_answer risen.clock) k.held

  abbrev untold : List Held
  untold = filter (is_untold setup.nodes) ticked.held

  abbrev asks : List Act
  asks = ask_acts untold

  to_come_free : (id : ℕ) → (message_at ticked id).round ≡ None
  to_come_free id = ap (λ (m : Message). m.round) (message_ticked k (max k.clock moment) id)

  abbrev Ruled : Type 0
  Ruled =
      RulesAll setup tick agrees.coherent quiet (record { least = works.least; most = works.most; up = works.up }) mine
      (none_runs setup k s stands.agrees moment) reach
      (ids_of ticked) [] [] (ruled_each setup reach (ids_of ticked) ticked)

  rules : Ruled
  rules =
      rules_all setup tick agrees.coherent quiet (record { least = works.least; most = works.most; up = works.up }) mine
      (none_runs setup k s stands.agrees moment) reach
      (ids_of ticked) (ids_ascending setup ticked tick agrees) ticked [] [] (record {
        agrees = agrees;
        each = λ id among. agrees_on setup ticked tick agrees id;
        free = λ id among. to_come_free id;
        apart_slots = λ slot none. absurd none;
        apart = λ offer none. absurd none;
      })

  abbrev slots : List Slot
  slots = rules.some_slots

  abbrev offers : List Offer
  offers = rules.some_offers

  abbrev abandons : List Act
  abandons = map Abandons slots

  abbrev prepares : List Act
  prepares = map prepare_of offers

  -- ---- where each part stands

  reached_late_is : reached_alone setup.node s (late ++ core) ≡ tick
  reached_late_is =
      alone_on setup.node s late core
      ∙ late_lead risen k.held stands.agrees.waiting ascends setup.node (reached_alone setup.node s core) refl

  did_late_is : did setup.node s.actor (late ++ core) ≡ tick.actor
  did_late_is = sym (reached_actor setup.node s (late ++ core)) ∙ ap (λ (x : Node). x.actor) reached_late_is

  reached_asks_is : reached_alone setup.node s (asks ++ (late ++ core)) ≡ tick
  reached_asks_is = alone_on setup.node s asks (late ++ core) ∙ reached_ask setup.node (reached_alone setup.node s (late ++ core)) untold ∙ reached_late_is

  reached_abandons_is : reached_alone setup.node s (abandons ++ (asks ++ (late ++ core))) ≡ later setup tick slots []
  reached_abandons_is =
      alone_on setup.node s abandons (asks ++ (late ++ core))
      ∙ ap (λ (x : Node). reached_alone setup.node x abandons) reached_asks_is
      ∙ reached_abandons setup tick slots

  reached_all_is : reached_alone setup.node s (prepares ++ (abandons ++ (asks ++ (late ++ core)))) ≡ later setup tick (slots ++ []) (offers ++ [])
  reached_all_is =
      alone_on setup.node s prepares (abandons ++ (asks ++ (late ++ core)))
      ∙ ap (λ (x : Node). reached_alone setup.node x prepares) reached_abandons_is
      ∙ reached_starts setup tick offers slots []
      ∙ (λ i. later setup tick (sym (append-nil slots) i) (offers ++ []))

  did_parts_is : did setup.node s.actor (late ++ [] ++ core) ≡ tick.actor
  did_parts_is = ap (λ (acts : List Act). did setup.node s.actor (acts ++ core)) (append-nil late) ∙ did_late_is

  parts_are : prepares ++ (abandons ++ (asks ++ (late ++ core))) ≡ prepares ++ abandons ++ asks ++ late ++ [] ++ core
  parts_are =
      sym (append_assoc prepares abandons (asks ++ (late ++ core)))
      ∙ sym (append_assoc (prepares ++ abandons) asks (late ++ core))
      ∙ sym (append_assoc (prepares ++ abandons ++ asks) late core)
      ∙ ap (λ (acts : List Act). acts ++ core) (sym (append-nil (prepares ++ abandons ++ asks ++ late)))

  -- ---- it may all be done

  runs : IsRunAlone setup.nodes setup.node s (prepares ++ (abandons ++ (asks ++ (late ++ core))))
  runs =
      run_more setup.nodes setup.node s prepares (abandons ++ (asks ++ (late ++ core)))
      (subst (λ (x : Node). IsRunAlone setup.nodes setup.node x prepares) (sym reached_abandons_is)
      (run_starts setup tick at_work reach agrees.coherent mine slots offers (λ offer among. (rules.starts offer among).1.1)))
      (run_more setup.nodes setup.node s abandons (asks ++ (late ++ core))
      (subst (λ (x : Node). IsRunAlone setup.nodes setup.node x abandons) (sym reached_asks_is)
      (run_abandons setup tick at_work reach slots rules.slots_fall (λ slot among. ((rules.gives_up slot).0 among).1)))
      (run_more setup.nodes setup.node s asks (late ++ core)
      (subst (λ (x : Node). IsRunAlone setup.nodes setup.node x asks) (sym reached_late_is)
      (asks_may setup s.actor tick.actor ticked.held agrees.waiting (ascend_from ticked.held agrees.tickets) agrees.told moment reach tick refl
      works.least works.most works.up))
      (run_more setup.nodes setup.node s late core
      (late_may risen k.held stands.agrees.waiting ascends setup (reached_alone setup.node s core) refl
      (record { least = works.least; most = works.most; up = works.up }))
      (record { least = works.least; most = works.most; up = works.up; needs = tt }, tt))))
    where
      at_work : IsAtWork setup tick
      at_work = record { least = works.least; most = works.most; up = works.up }

  -- ---- it is all that is due

  settles_none : (act : Act) → DueToSettle setup.nodes setup.node risen act → ⊥
  settles_none (Settles ticket) due =
      stands.quiet.settled ticket
      (to_settle_back setup.nodes setup.node s.actor risen refl (λ id known is. is) (λ name known settled. settled) (λ w waits. waits) ticket due)
  settles_none act due = due

  abandons_due : AreDue (DueToAbandon setup.nodes setup.node tick.actor s.records (Tick moment reach)) abandons
  abandons_due = record {
    each = λ act. (only act, all act);
    order = subst Fall (sym (abandon_keys slots)) rules.slots_fall;
  }
    where
      only : (act : Act) → In act abandons → DueToAbandon setup.nodes setup.node tick.actor s.records (Tick moment reach) act
      only act is_in =
          let it = in_mapped Abandons slots act is_in in
          subst (DueToAbandon setup.nodes setup.node tick.actor s.records (Tick moment reach)) (sym it.is) ((rules.gives_up it.from).0 it.among).1

      all : (act : Act) → DueToAbandon setup.nodes setup.node tick.actor s.records (Tick moment reach) act → In act abandons
      all (Abandons slot) due =
          mapped_in Abandons slots slot ((rules.gives_up slot).1 (fits_in setup ticked tick agrees reach slot.id GiveUp (suc slot.place) due.0 due.1.fits, due))
      all act due = absurd due

  prepares_due : AreDueOnce (DueToPrepare setup.nodes setup.node s.actor tick.actor s.records (Tick moment reach)) prepares
  prepares_due = record {
    only = only;
    all = all;
    order = subst Fall (sym (keys_of_starts offers)) rules.offers_fall;
  }
    where
      only : (act : Act) → In act prepares → DueToPrepare setup.nodes setup.node s.actor tick.actor s.records (Tick moment reach) act
      only act is_in =
          let it = in_mapped prepare_of offers act is_in in
          subst (DueToPrepare setup.nodes setup.node s.actor tick.actor s.records (Tick moment reach)) (sym it.is) (rules.starts it.from it.among).1

      all : (act : Act) → DueToPrepare setup.nodes setup.node s.actor tick.actor s.records (Tick moment reach) act → In (key_of act) (map key_of prepares)
      all (Prepares slot ballot chain) due =
          subst (In slot.id) (sym (keys_of_starts offers))
          (rules.all slot ballot chain (fits_in setup ticked tick agrees reach slot.id due.0.0 slot.place chain due.0.1.fits) due.0 due.1)
      all act due = absurd due

  proposes_none : (act : Act) → DueToPropose setup.nodes setup.node s.actor tick.actor act → ⊥
  proposes_none (Proposes slot vote) due = due.0.new due.0.promised
  proposes_none act due = due

  replies_none : (act : Act) → DueToReply setup.nodes setup.node tick.actor act → ⊥
  replies_none (Replies ticket id answer) due = quiet.answered ticket id answer due
  replies_none act due = due

  reports_none : (act : Act) → DueToReport setup.nodes setup.node s.actor risen act → ⊥
  reports_none (Reports id chain) due = due.new due.known
  reports_none act due = due

  exact : IsExact setup s.actor s.records (Tick moment reach) (prepares ++ (abandons ++ (asks ++ (late ++ core))))
  exact = record {
    core = core;
    settles = [];
    late = late;
    asks = asks;
    abandons = abandons;
    prepares = prepares;
    proposes = [];
    replies = [];
    reports = [];
    acts_are = parts_are;
    core_is = refl;
    settled = none_due _ settles_none;
    ended = late_due risen k.held stands.agrees.waiting ascends moment reach;
    asked = subst (λ (x : Actor). AreDue (DueToAsk setup.nodes setup.node s.actor x (Tick moment reach)) asks) (sym did_parts_is)
        (asks_due setup s.actor tick.actor ticked.held agrees.waiting (ascend_from ticked.held agrees.tickets) agrees.told moment reach);
    abandoned = subst (λ (x : Actor). AreDue (DueToAbandon setup.nodes setup.node x s.records (Tick moment reach)) abandons) (sym did_parts_is) abandons_due;
    prepared =
        subst (λ (x : Actor). AreDueOnce (DueToPrepare setup.nodes setup.node s.actor x s.records (Tick moment reach)) prepares) (sym did_parts_is) prepares_due;
    proposed = subst (λ (x : Actor). AreDueOnce (DueToPropose setup.nodes setup.node s.actor x) []) (sym did_parts_is) (none_due_once _ proposes_none);
    replied = subst (λ (x : Actor). AreDue (DueToReply setup.nodes setup.node x) []) (sym did_parts_is) (none_due _ replies_none);
    reported = none_due _ reports_none;
  }

  -- ---- what goes out

  abbrev acts : List Act
  acts = prepares ++ (abandons ++ (asks ++ (late ++ core)))

  abbrev asked_of : Actor → List Packet
  asked_of a = packets_in setup.node a (saved s.records (late ++ core)) asks

  late_sends : packets_in setup.node s.actor s.records (late ++ core) ≡ []
  late_sends =
      packets_more setup.node s.actor s.records late core
      ∙ ap (λ (ps : List Packet). ps ++ []) (replies_packets (late_answer risen.clock) setup.node risen s.records k.held)

  asks_send : packets_in setup.node s.actor s.records (asks ++ (late ++ core)) ≡ asked_of tick.actor
  asks_send =
      packets_more setup.node s.actor s.records asks (late ++ core)
      ∙ (λ i. asked_of (did_late_is i) ++ late_sends i)
      ∙ append-nil (asked_of tick.actor)

  abandons_send : packets_in setup.node s.actor s.records (abandons ++ (asks ++ (late ++ core))) ≡ asked_of tick.actor
  abandons_send =
      packets_more setup.node s.actor s.records abandons (asks ++ (late ++ core))
      ∙ (λ i. abandon_packets setup.node (did setup.node s.actor (asks ++ (late ++ core))) (saved s.records (asks ++ (late ++ core))) slots i ++ asks_send i)

  prepares_send : packets_in setup.node s.actor s.records acts ≡ map (packet_of setup tick) offers ++ asked_of tick.actor
  prepares_send =
      packets_more setup.node s.actor s.records prepares (abandons ++ (asks ++ (late ++ core)))
      ∙ (λ i. packets_of_starts setup tick (did setup.node s.actor (abandons ++ (asks ++ (late ++ core))))
      (saved s.records (abandons ++ (asks ++ (late ++ core)))) offers i ++ abandons_send i)

  packets_are : asked_again setup ticked ++ (ruled_each setup reach (ids_of ticked) ticked).packets ≡ reverse (packets_in setup.node s.actor s.records acts)
  packets_are =
      (λ i. sym (ask_packets setup ticked tick.actor agrees.incarnation (saved s.records (late ++ core)) untold) i ++ rules.packets i)
      ∙ sym (reverse-append (map (packet_of setup tick) offers) (asked_of tick.actor))
      ∙ ap reverse (sym prepares_send)

  replies_are : map late_reply (filter (is_late (max k.clock moment)) k.held) ≡ reverse (replies_in acts)
  replies_are =
      ap (λ (c : ℕ). map late_reply (filter (is_late (max c moment)) k.held)) stands.agrees.clock
      ∙ sym (late_replies risen.clock k.held)
      ∙ ap reverse (sym (
      replies_more prepares (abandons ++ (asks ++ (late ++ core)))
      ∙ (λ i. start_replies offers i ++ replies_more abandons (asks ++ (late ++ core)) i)
      ∙ (λ i. abandon_replies slots i ++ replies_more asks (late ++ core) i)
      ∙ (λ i. ask_replies untold i ++ replies_more late core i)
      ∙ append-nil (replies_in late)
      ))

  receipts_are : [] ≡ reverse (receipts_in acts)
  receipts_are = ap reverse (sym (
      receipts_more prepares (abandons ++ (asks ++ (late ++ core)))
      ∙ (λ i. start_receipts offers i ++ receipts_more abandons (asks ++ (late ++ core)) i)
      ∙ (λ i. abandon_receipts slots i ++ receipts_more asks (late ++ core) i)
      ∙ (λ i. ask_receipts untold i ++ receipts_more late core i)
      ∙ (λ i. replies_receipts (late_answer risen.clock) k.held i ++ [])
      ))

  -- ---- the step

  stands_then : Stands setup (ruled_each setup reach (ids_of ticked) ticked).kept (reached_alone setup.node s acts)
  stands_then = subst (Stands setup (ruled_each setup reach (ids_of ticked) ticked).kept) (sym reached_all_is) (record {
    agrees = rules.agrees;
    quiet =
        quiet_with setup.nodes setup.node tick.actor (later setup tick (slots ++ []) (offers ++ [])).actor refl (λ id known is. is)
        (λ name known settled. settled) (λ w waits. waits) quiet;
  })

  on_tick_steps : StepsAs setup s (Tick moment reach) (on_tick setup k moment reach)
  on_tick_steps = record {
    acts = acts;
    taken = record { run = runs; exact = exact };
    stands = stands_then;
    outputs = λ i. record {
      ticket = None;
      refused = None;
      packets = packets_are i;
      replies = replies_are i;
      receipts = receipts_are i;
      granted = None;
    };
  }

  pub tick_steps : StepsAs setup s (Tick moment reach) (stepped setup k (Tick moment reach))
  tick_steps = subst (StepsAs setup s (Tick moment reach)) (sym is_up) on_tick_steps
    where
      is_up : stepped setup k (Tick moment reach) ≡ on_tick setup k moment reach
      is_up =
          ap (λ (running : Bool). if running then stepped_up setup k (Tick moment reach) else stepped_down setup k (Tick moment reach)) (stands.agrees.up ∙ works.up)
