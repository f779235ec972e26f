-- The step of a node to which a packet comes by which requests are settled and answered, a round starts and a receipt goes out.
use Rattle.std.proofs.Common.{◌≡◌, ℕ, Bool, true, false, List, [], ◌∷◌, ◌++◌, map, Option, Some, None, refl, sym, ap, subst, ◌∙◌, append-nil, inl}
use Rattle.std.specs.Prelude.{◌&&◌, filter, if◌then◌else◌, reverse}
use Rattle.std.specs.Option.{is_none}
use Rattle.mc_model.specs.message.Decree.{Decree}
use Rattle.mc_model.specs.synod.Lists.{In}
use Rattle.mc_model.specs.synod.Packet.{Packet}
use Rattle.mc_model.specs.node.Act.{Act, Asks, Prepares, Receives, Reports}
use Rattle.mc_model.specs.node.Actor.{Actor}
use Rattle.mc_model.specs.node.Alone.{IsRunAlone, Node, reached_alone}
use Rattle.mc_model.specs.node.Causes.{Causes}
use Rattle.mc_model.specs.node.Concerns.{Concerns}
use Rattle.mc_model.specs.node.Core.{AcceptorReplies}
use Rattle.mc_model.specs.node.Due.{AreDue, AreDueOnce}
use Rattle.mc_model.specs.node.Effect.{did, saved}
use Rattle.mc_model.specs.node.Input.{Delivery}
use Rattle.mc_model.specs.node.Knowledge.{Knows}
use Rattle.std.proofs.lemmas.Bool.{true≢false}
use Rattle.mc_model.specs.node.Outputs.{Receipt, Reply, packets_in, receipts_in, replies_in}
use Rattle.mc_model.specs.node.Phases.{DueToAsk, DueToPrepare, DueToPropose, DueToReply, DueToReport, IsDueReport}
use Rattle.mc_model.specs.node.Replies.{Answer, IsToldBy}
use Rattle.mc_model.specs.node.Setup.{Setup}
use Rattle.mc_model.specs.node.Step.{IsExact}
use Rattle.node_model.specs.Answers.{answer_to}
use Rattle.node_model.specs.Kept.{Held, Kept, message_at}
use Rattle.node_model.specs.Outputs.{sends}
use Rattle.node_model.specs.Proposer.{Prepared}
use Rattle.node_model.specs.Requests.{id_of, is_cancel, settled_by, settles}
use Rattle.node_laws.specs.Stands.{Agrees, Stands}
use Rattle.node_laws.specs.Steps.{IsAtWork, StepsAs}
use Rattle.node_laws.proofs.invariant.Deciding.{IsCalm, known_for, quiet_of}
use Rattle.node_laws.proofs.invariant.Hearing.{received}
use Rattle.node_laws.proofs.invariant.Orders.{in_mapped}
use Rattle.node_model.proofs.Filters.{filter_passes}
use Rattle.node_laws.proofs.invariant.Replied.{replied_agrees, replies_due, replies_lead, replies_of, replies_out, replies_packets, replies_receipts, replies_run}
use Rattle.node_laws.proofs.invariant.Replied.{reply_acts, waits_on}
use Rattle.node_laws.proofs.cluster.Runs.{packets_more, reached_actor, receipts_more, replies_more, run_more, saved_more}
use Rattle.node_laws.proofs.invariant.Settled.{all_settled, settled_acts, settled_agrees, settles_due, settles_lead, settles_packets, settles_receipts, settles_records}
use Rattle.node_laws.proofs.invariant.Settled.{settles_replies, settles_run}
use Rattle.node_laws.proofs.step.Started.{IsToPrepare, StartsAs}
use Rattle.node_laws.proofs.invariant.Waiting.{waits}
use Rattle.mc_laws.proofs.step.Assembly.{alone_on}
use Rattle.mc_laws.proofs.story.FirstStep.{none_due, none_due_once}
use Rattle.mc_parts.proofs.Membership.{in_filter, of_only}

-- ---- the acts in their order

joined : (reports replies prepares settled core : List Act) →
    reports ++ (replies ++ (prepares ++ (settled ++ core))) ≡ reports ++ replies ++ [] ++ prepares ++ [] ++ [] ++ [] ++ settled ++ core
joined (act ∷ reports) replies prepares settled core = ap (λ (acts : List Act). act ∷ acts) (joined reports replies prepares settled core)
joined [] (act ∷ replies) prepares settled core = ap (λ (acts : List Act). act ∷ acts) (joined [] replies prepares settled core)
joined [] [] (act ∷ prepares) settled core = ap (λ (acts : List Act). act ∷ acts) (joined [] [] prepares settled core)
joined [] [] [] settled core = refl

-- ---- receipts

abbrev pub report_acts : ℕ → Option (List Decree) → List Act
report_acts id None = []
report_acts id (Some chain) = Reports id chain ∷ []

abbrev pub report_out : ℕ → Option (List Decree) → List Receipt
report_out id None = []
report_out id (Some chain) = record { id = id; chain = chain } ∷ []

-- a receipt is due by this chain, or none is
abbrev pub IsReport : ℕ → ℕ → Actor → Actor → ℕ → Option (List Decree) → Type 0
IsReport nodes node before a id None = (act : Act) → DueToReport nodes node before a act → ⊥
IsReport nodes node before a id (Some chain) =
    IsDueReport nodes node before a id chain × ((other : ℕ) (of : List Decree) → IsDueReport nodes node before a other of → (other ≡ id) × (of ≡ chain))

-- ---- nothing is due any more

still_unsettled : (nodes : ℕ) (known : Option (List Decree)) (h : Held) → settles nodes known (settled_by nodes known h) ≡ false
still_unsettled nodes known h = by_test (settles nodes known h) refl
  where
    never : (cancel : Bool) → cancel && false ≡ false
    never true = refl
    never false = refl

    by_test : (test : Bool) → settles nodes known h ≡ test →
        settles nodes known (if test then record h { waiting = record h.waiting { settled = true } } else h) ≡ false
    by_test true is = never (is_cancel h.waiting.request)
    by_test false is = is

pub same_id : (nodes : ℕ) (known : Option (List Decree)) (h : Held) → id_of (settled_by nodes known h) ≡ id_of h
same_id nodes known h = by_test (settles nodes known h)
  where
    by_test : (test : Bool) → id_of (if test then record h { waiting = record h.waiting { settled = true } } else h) ≡ id_of h
    by_test true = refl
    by_test false = refl

module _ (setup : Setup) (k : Kept) (s : Node) (stands : Stands setup k s) (works : IsAtWork setup s) (packet : Packet)
    (concerned : Concerns setup.nodes setup.node s.actor packet) (replies : AcceptorReplies s.records packet [])
    (k1 : Kept) (agrees : Agrees setup k1 (received s packet)) where
  abbrev s1 : Node
  s1 = received s packet

  abbrev works_1 : IsAtWork setup s1
  works_1 = record { least = works.least; most = works.most; up = works.up }

  -- once all is settled that is to be settled
  abbrev pub k2 : Kept
  k2 = record k1 { held = all_settled setup.nodes k1 }

  abbrev pub s2 : Node
  s2 = waits setup s1 (map (λ h. h.waiting) (all_settled setup.nodes k1))

  pub agrees_2 : Agrees setup k2 s2
  agrees_2 = settled_agrees setup k1 s1 agrees works_1

  abbrev settled : List Act
  settled = settled_acts setup k1 s1 agrees works_1

  abbrev core : List Act
  core = Receives packet ∷ []

  lead_2 : reached_alone setup.node s (settled ++ core) ≡ s2
  lead_2 = alone_on setup.node s settled core ∙ settles_lead setup k1 s1 agrees works_1

  actor_2 : did setup.node s.actor (settled ++ core) ≡ s2.actor
  actor_2 = sym (reached_actor setup.node s (settled ++ core)) ∙ ap (λ (x : Node). x.actor) lead_2

  abbrev pub answer : Held → Option Answer
  answer h = answer_to setup.nodes (known_for k2 h) h

  -- what starts a round now
  abbrev pub Due : ℕ → ℕ → List Decree → Type 0
  Due id place chain = Causes setup.nodes setup.node s.actor s2.actor (Delivery packet) id place chain

  module _ (id : ℕ) (new : Prepared) (starts : StartsAs setup k2 s2 id (Due id) new)
      (elsewhere : (other place : ℕ) (chain : List Decree) → Due other place chain → other ≡ id)
      (unproposed : (act : Act) → DueToPropose setup.nodes setup.node s.actor s2.actor act → ⊥)
      (report : Option (List Decree)) (reported : IsReport setup.nodes setup.node s.actor s1.actor id report) where
    abbrev s3 : Node
    s3 = reached_alone setup.node s2 starts.acts

    abbrev left : List Held
    left = filter (waits_on answer) new.kept.held

    abbrev answers : List Act
    answers = reply_acts answer new.kept.held

    abbrev reports : List Act
    reports = report_acts id report

    same_answer : (h : Held) → In h new.kept.held → answer h ≡ answer_to setup.nodes (known_for new.kept h) h
    same_answer h among = ap (λ (known : Option (List Decree)). answer_to setup.nodes known h) (sym (starts.known (id_of h)))

    works_3 : IsAtWork setup s3
    works_3 = record { least = works.least; most = works.most; up = sym starts.agrees.up ∙ up_2 }
      where
        up_2 : new.kept.up ≡ true
        up_2 = starts.up ∙ (agrees.up ∙ works.up)

    abbrev k4 : Kept
    k4 = record new.kept { held = left }

    abbrev s4 : Node
    s4 = waits setup s3 (map (λ h. h.waiting) left)

    agrees_4 : Agrees setup k4 s4
    agrees_4 = replied_agrees setup new.kept s3 starts.agrees works_3 answer same_answer

    -- ---- what is due

    only_prepares : (act : Act) → DueToPrepare setup.nodes setup.node s.actor s2.actor s.records (Delivery packet) act → IsToPrepare setup s2 id (Due id) act
    only_prepares (Prepares slot ballot chain) due =
        let same : slot.id ≡ id = elsewhere slot.id slot.place chain due.0 in
        (same, (subst (λ (i : ℕ). Due i slot.place chain) same due.0, due.1))
    only_prepares act due = absurd due

    prepares_only : (act : Act) → IsToPrepare setup s2 id (Due id) act → DueToPrepare setup.nodes setup.node s.actor s2.actor s.records (Delivery packet) act
    prepares_only (Prepares slot ballot chain) due = (subst (λ (i : ℕ). Due i slot.place chain) (sym due.0) due.1.0, due.1.1)
    prepares_only act due = absurd due

    prepares_due : AreDueOnce (DueToPrepare setup.nodes setup.node s.actor s2.actor s.records (Delivery packet)) starts.acts
    prepares_due = record {
      only = λ act is_in. prepares_only act (starts.due.only act is_in);
      all = λ act due. starts.due.all act (only_prepares act due);
      order = starts.due.order;
    }

    asks_none : (act : Act) → DueToAsk setup.nodes setup.node s.actor s2.actor (Delivery packet) act → ⊥
    asks_none (Asks other ticket) due = due
    asks_none act due = due

    answers_due : AreDue (DueToReply setup.nodes setup.node s2.actor) answers
    answers_due = subst (λ (held : List Held). AreDue (DueToReply setup.nodes setup.node s2.actor) (reply_acts answer held)) (sym starts.held)
        (replies_due setup k2 s2 agrees_2 works_2 answer (λ h among. refl))
      where
        works_2 : IsAtWork setup s2
        works_2 = record { least = works.least; most = works.most; up = works.up }

    reports_due : (it : Option (List Decree)) → IsReport setup.nodes setup.node s.actor s1.actor id it →
        AreDue (DueToReport setup.nodes setup.node s.actor s1.actor) (report_acts id it)
    reports_due None none = none_due _ none
    reports_due (Some chain) is = record {
      each = λ act. (of_only (DueToReport setup.nodes setup.node s.actor s1.actor) (Reports id chain) act is.0, all act);
      order = tt;
    }
      where
        all : (act : Act) → DueToReport setup.nodes setup.node s.actor s1.actor act → In act (Reports id chain ∷ [])
        all (Reports other of) due = let same = is.1 other of due in inl (λ i. Reports (same.0 i) (same.1 i))
        all act due = absurd due

    abbrev acts : List Act
    acts = reports ++ (answers ++ (starts.acts ++ (settled ++ core)))

    exact : IsExact setup s.actor s.records (Delivery packet) acts
    exact = record {
      core = core;
      settles = settled;
      late = [];
      asks = [];
      abandons = [];
      prepares = starts.acts;
      proposes = [];
      replies = answers;
      reports = reports;
      acts_are = joined reports answers starts.acts settled core;
      core_is = inl (concerned, record { answer = []; answered = replies; acts_are = refl });
      settled = settles_due setup k1 s1 agrees works_1;
      ended = none_due _ (λ act due. due);
      asked = none_due _ (λ act due. asks_none act (subst (λ (x : Actor). DueToAsk setup.nodes setup.node s.actor x (Delivery packet) act) actor_2 due));
      abandoned = none_due _ (λ act due. due);
      prepared = subst (λ (x : Actor). AreDueOnce (DueToPrepare setup.nodes setup.node s.actor x s.records (Delivery packet)) starts.acts)
          (sym actor_2) prepares_due;
      proposed = subst (λ (x : Actor). AreDueOnce (DueToPropose setup.nodes setup.node s.actor x) []) (sym actor_2) (none_due_once _ unproposed);
      replied = subst (λ (x : Actor). AreDue (DueToReply setup.nodes setup.node x) answers) (sym actor_2) answers_due;
      reported = reports_due report reported;
    }

    -- ---- it may be done, and leads where what is kept agrees

    lead_3 : reached_alone setup.node s (starts.acts ++ (settled ++ core)) ≡ s3
    lead_3 = alone_on setup.node s starts.acts (settled ++ core) ∙ ap (λ (x : Node). reached_alone setup.node x starts.acts) lead_2

    lead_answers : reached_alone setup.node s (answers ++ (starts.acts ++ (settled ++ core))) ≡ s4
    lead_answers =
        alone_on setup.node s answers (starts.acts ++ (settled ++ core))
        ∙ ap (λ (x : Node). reached_alone setup.node x answers) lead_3
        ∙ replies_lead setup new.kept s3 starts.agrees works_3 answer same_answer

    lead_reports : (it : Option (List Decree)) → reached_alone setup.node s4 (report_acts id it) ≡ s4
    lead_reports None = refl
    lead_reports (Some chain) = refl

    lead_4 : reached_alone setup.node s acts ≡ s4
    lead_4 =
        alone_on setup.node s reports (answers ++ (starts.acts ++ (settled ++ core)))
        ∙ ap (λ (x : Node). reached_alone setup.node x reports) lead_answers
        ∙ lead_reports report

    received_4 : s4.actor.received ≡ s1.actor.received
    received_4 = starts.received

    told_still : (chain : List Decree) → IsToldBy setup.node s1.actor chain → IsToldBy setup.node s4.actor chain
    told_still chain told = record {
      told = told.told;
      older = told.older;
      chain_is = told.chain_is;
      kind = told.kind;
      author = told.author ∙ (λ i. record { node = setup.node; incarnation = sym starts.incarnation i });
    }

    reports_run : (it : Option (List Decree)) → IsReport setup.nodes setup.node s.actor s1.actor id it →
        IsRunAlone setup.nodes setup.node s4 (report_acts id it)
    reports_run None none = tt
    reports_run (Some chain) is = (
      record {
        least = works.least;
        most = works.most;
        up = works_3.up;
        needs = record {
          named = is.0.named;
          known = subst (λ (ps : List Packet). Knows setup.nodes ps id chain) (sym received_4) is.0.known;
          told = told_still chain is.0.told;
        };
      },
      tt,
    )

    run : IsRunAlone setup.nodes setup.node s acts
    run =
        run_more setup.nodes setup.node s reports (answers ++ (starts.acts ++ (settled ++ core)))
        (subst (λ (x : Node). IsRunAlone setup.nodes setup.node x reports) (sym lead_answers) (reports_run report reported))
        (run_more setup.nodes setup.node s answers (starts.acts ++ (settled ++ core))
        (subst (λ (x : Node). IsRunAlone setup.nodes setup.node x answers) (sym lead_3)
        (replies_run setup new.kept s3 starts.agrees works_3 answer same_answer))
        (run_more setup.nodes setup.node s starts.acts (settled ++ core)
        (subst (λ (x : Node). IsRunAlone setup.nodes setup.node x starts.acts) (sym lead_2) starts.run)
        (run_more setup.nodes setup.node s settled core (settles_run setup k1 s1 agrees works_1)
        (record { least = works.least; most = works.most; up = works.up; needs = tt }, tt))))

    -- ---- nothing is due any more

    calm : IsCalm setup.nodes k4
    calm = record {
      settled = λ h among.
          let kept = in_filter (waits_on answer) new.kept.held h among in
          let it = in_mapped (λ g. settled_by setup.nodes (known_for k1 g) g) k1.held h (subst (λ (hs : List Held). In h hs) starts.held kept) in
          let known : known_for new.kept h ≡ known_for k1 it.from =
          starts.known (id_of h) ∙ ap (λ (i : ℕ). (message_at k1 i).known) (ap id_of it.is ∙ same_id setup.nodes (known_for k1 it.from) it.from) in
          ap (λ (x : Option (List Decree)). settles setup.nodes x h) known
          ∙ ap (λ (g : Held). settles setup.nodes (known_for k1 it.from) g) it.is
          ∙ still_unsettled setup.nodes (known_for k1 it.from) it.from;
      answered = λ h among.
          let kept = in_filter (waits_on answer) new.kept.held h among in
          sym (same_answer h kept) ∙ none_of (answer h) (filter_passes (waits_on answer) new.kept.held h among);
    }
      where
        none_of : (x : Option Answer) → is_none x ≡ true → x ≡ None
        none_of None is = refl
        none_of (Some it) is = absurd (true≢false (sym is))

    -- ---- what goes out

    packets_settled : packets_in setup.node s.actor s.records (settled ++ core) ≡ []
    packets_settled =
        packets_more setup.node s.actor s.records settled core
        ∙ ap (λ (ps : List Packet). ps ++ []) (settles_packets setup.node (did setup.node s.actor core) s.records
        (filter (λ h. settles setup.nodes (known_for k1 h) h) k1.held))

    saved_settled : saved s.records (settled ++ core) ≡ s.records
    saved_settled = saved_more s.records settled core ∙ settles_records s.records (filter (λ h. settles setup.nodes (known_for k1 h) h) k1.held)

    packets_started : packets_in setup.node s.actor s.records (starts.acts ++ (settled ++ core)) ≡ packets_in setup.node s2.actor s.records starts.acts
    packets_started =
        packets_more setup.node s.actor s.records starts.acts (settled ++ core)
        ∙ (λ i. packets_in setup.node (actor_2 i) (saved_settled i) starts.acts ++ packets_settled i)
        ∙ append-nil (packets_in setup.node s2.actor s.records starts.acts)

    packets_answered : packets_in setup.node s.actor s.records (answers ++
        (starts.acts ++ (settled ++ core))) ≡ packets_in setup.node s2.actor s.records starts.acts
    packets_answered =
        packets_more setup.node s.actor s.records answers (starts.acts ++ (settled ++ core))
        ∙ (λ i. replies_packets answer setup.node (did setup.node s.actor (starts.acts ++ (settled ++ core)))
        (saved s.records (starts.acts ++ (settled ++ core))) new.kept.held i ++ packets_started i)

    report_packets : (it : Option (List Decree)) (others : List Act) →
        packets_in setup.node s.actor s.records (report_acts id it ++ others) ≡ packets_in setup.node s.actor s.records others
    report_packets None others = refl
    report_packets (Some chain) others = refl

    packets_out : new.packets ≡ reverse (packets_in setup.node s.actor s.records acts)
    packets_out = starts.packets ∙ ap reverse (sym (report_packets report (answers ++ (starts.acts ++ (settled ++ core))) ∙ packets_answered))

    report_replies : (it : Option (List Decree)) (others : List Act) → replies_in (report_acts id it ++ others) ≡ replies_in others
    report_replies None others = refl
    report_replies (Some chain) others = refl

    none_replied : replies_in (starts.acts ++ (settled ++ core)) ≡ []
    none_replied =
        replies_more starts.acts (settled ++ core)
        ∙ (λ i. starts.no_replies i ++ (replies_more settled core ∙ ap (λ (rs : List Reply). rs ++ [])
        (settles_replies (filter (λ h. settles setup.nodes (known_for k1 h) h) k1.held))) i)

    answers_out : replies_of answer new.kept.held ≡ reverse (replies_in acts)
    answers_out = sym (
        ap reverse (report_replies report (answers ++ (starts.acts ++ (settled ++ core)))
        ∙ replies_more answers (starts.acts ++ (settled ++ core))
        ∙ ap (λ (rs : List Reply). replies_in answers ++ rs) none_replied
        ∙ append-nil (replies_in answers))
        ∙ replies_out answer new.kept.held
        )

    none_reported : receipts_in (answers ++ (starts.acts ++ (settled ++ core))) ≡ []
    none_reported =
        receipts_more answers (starts.acts ++ (settled ++ core))
        ∙ (λ i. replies_receipts answer new.kept.held i
        ++ (receipts_more starts.acts (settled ++ core)
        ∙ (λ j. starts.no_receipts j ++ (receipts_more settled core ∙ ap (λ (rs : List Receipt). rs ++ [])
        (settles_receipts (filter (λ h. settles setup.nodes (known_for k1 h) h) k1.held))) j)) i)

    report_receipts : (it : Option (List Decree)) (others : List Act) → receipts_in others ≡ [] →
        report_out id it ≡ reverse (receipts_in (report_acts id it ++ others))
    report_receipts None others none = ap reverse (sym none)
    report_receipts (Some chain) others none = ap (λ (rs : List Receipt). reverse (record { id = id; chain = chain } ∷ rs)) (sym none)

    -- ---- the step

    pub busy_steps : StepsAs setup s (Delivery packet) (sends k4 new.packets (replies_of answer new.kept.held) (report_out id report))
    busy_steps = record {
      acts = acts;
      taken = record { run = run; exact = exact };
      stands = subst (Stands setup k4) (sym lead_4) (record { agrees = agrees_4; quiet = quiet_of setup k4 s4 agrees_4 calm });
      outputs = λ i. record {
        ticket = None;
        refused = None;
        packets = packets_out i;
        replies = answers_out i;
        receipts = report_receipts report (answers ++ (starts.acts ++ (settled ++ core))) none_reported i;
        granted = None;
      };
    }
