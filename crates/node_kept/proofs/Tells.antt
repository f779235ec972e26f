-- What is told to a request that waits is told as in the model.
use Rattle.std.proofs.Common.{◌≡◌, ℕ, Bool, true, false, List, [], ◌∷◌, Option, Some, None, refl, sym, ap, subst, ◌∙◌}
use Rattle.std.specs.Prelude.{IfSome, suc, pred, max, length, ◌==◌, ◌&&◌, map, option_map, if◌then◌else◌}
use Rattle.std.specs.Global.{Vec}
use Rattle.std.specs.List.{list_any}
use Rattle.mc_model.specs.synod.Ballot.{ballot_of}
use Rattle.mc_model.specs.message.Decree.{Attempt, Decree, Deleted, Failed, Fate, Kind, Taken, Told}
use Rattle.mc_model.specs.message.Submission.{Submission}
use Rattle.mc_model.specs.message.Chain.{Chain, home_in, taken_in}
use Rattle.mc_model.specs.synod.Packet.{Name, Packet, Prepare, Slot, TopVote, slot_at, slot_of}
use Rattle.mc_model.specs.node.Replies.{Answer}
use Rattle.mc_model.specs.node.Outputs.{Outputs}
use Rattle.mc_model.specs.node.FirstRule.{Announce}
use Rattle.mc_model.specs.node.Setup.{Setup}
use Rattle.node_model.specs.Answers.{answer_to, is_asked, replied}
use Rattle.node_model.specs.Kept.{Held, Kept, message_at, with_message}
use Rattle.node_model.specs.Message.{Message}
use Rattle.node_model.specs.Outputs.{Stepped, leaves, nothing}
use Rattle.node_model.specs.Packets.{answer_told, is_own_name, on_tell, tell_held, tells_about, told_to}
use Rattle.node_model.specs.Proposer.{Prepared, Start, highest_round, is_free, prepared_at, started, started_at}
use Rattle.node_model.specs.Requests.{held_at, id_of, settled_by, settles, told_by, with_held}
use Rattle.node_model.specs.Rules.{Fitting, fitting}
use Rattle.node_model.specs.Starts.{announced, cancels, delete_for, delete_of, is_idle, start_behind, tell_for, tell_of}
use Rattle.waiting_requests.specs.Replying.{reply_given}
use Rattle.waiting_requests.specs.Waiting.{held_in}
use Rattle.waiting_requests.specs.declared.answer.Reply.{Reply}
use Rattle.tick_rules.specs.Dues.{IsBehind, IsDeletion, IsTelling, fitting_for, start_for, telling_rule}
use Rattle.tick_rules.specs.Standpoints as standpoints
use Rattle.tick_rules.specs.Standpoints.{setup_of, start_of}
use Rattle.tick_rules.specs.declared.due.Due.{Due}
use Rattle.tick_rules.specs.declared.due.Due.TheVariants as dues
use Rattle.tick_rules.specs.declared.standpoint.Standpoint.{Standpoint}
use Rattle.synod_acceptor.specs.Packets.{packet_of}
use Rattle.synod_acceptor.specs.Records.{record_at}
use Rattle.synod_acceptor.specs.declared.packet.Packet.{Packet as Cast}
use Rattle.node_parts.specs.declared.message.Message.{Message as Filed}
use Rattle.node_parts.specs.declared.outputs.Outputs.{Outputs as Sent}
use Rattle.node_parts.specs.Lists.{listed}
use Rattle.node_parts.specs.Messages.{IsStarted, may_start, message_of, next_round, prepare_for, with_round}
use Rattle.node_parts.specs.Told.{IsToldOf}
use Rattle.node_parts.proofs.Starting.{prepare_same, start_same}
use Rattle.node_kept.specs.declared.kept.Kept.{Kept as Holding}
use Rattle.node_kept.specs.declared.queue_change.QueueChange.{QueueChange}
use Rattle.node_kept.specs.declared.step.Step.{Step}
use Rattle.node_model.specs.Sets.{is_majority}
use Rattle.waiting_requests.specs.Tops.{told_by_most}
use Rattle.node_kept.specs.Deleting.{deletion_if}
use Rattle.node_kept.specs.Keeping.{AreOwn, IsTaken, kept_of}
use Rattle.node_kept.specs.Queueing.{AreAsked, IsSound, requeued}
use Rattle.node_kept.specs.Steps.{IsLeft, IsStep, giving, outputs_of}
use Rattle.node_kept.specs.Telling.{IsVerdict, asked_by, left_by, next_told, started_alone}
use Rattle.node_kept.proofs.Leaving.{as_changed, left_as}
use Rattle.node_kept.proofs.Queueing.{asked_at, asked_left, replaced_gone, requeued_step, sound_settled}

-- ---- a message is deleted for a request

pub deletes : (s : Standpoint) (setup : Setup) (k : Kept) (cancelled : Bool) (chain : List Decree) (due : Due) (next : Chain) →
    s.author.node ≡ setup.node → s.author.incarnation ≡ k.incarnation → s.clock ≡ k.clock → IsDeletion s cancelled chain (Some due) →
    IsBehind s chain due next.decrees → Some (start_of next) ≡ deletion_if setup k cancelled chain
deletes s setup k cancelled [] due next node incarnation clock is behind = absurd is
deletes s setup k cancelled (newest ∷ older) due next node incarnation clock is behind = by_test (is_idle newest.kind && cancelled) is
  where
    so : Start
    so = start_behind setup k newest older (Fate Deleted 0)

    own : (start_for s newest older dues.Delete).chain ≡ so.chain
    own = λ i. record {
      author = record { node = node i; incarnation = incarnation i };
      moment = max (clock i) newest.moment;
      kind =
          Fate Deleted 0;
    } ∷ newest ∷ older

    by_test : (test : Bool) → Some due ≡ (if test then Some dues.Delete else None) → Some (start_of next) ≡ (if test then Some so else None)
    by_test true deleted =
        let same : due ≡ dues.Delete = cc in
        let decrees : next.decrees ≡ so.chain = behind ∙ ap (λ (d : Due). (start_for s newest older d).chain) same ∙ own in
        λ i. Some (record { place = pred (length (decrees i)); chain = decrees i })
    by_test false deleted = absurd (cc)

pub deleted_for : (setup : Setup) (k : Kept) (id : ℕ) (held : List Held) (cancelled : Bool) (chain : List Decree) (taken : Submission) →
    taken_in chain ≡ Some taken → cancelled ≡ list_any (cancels id taken) held → deletion_if setup k cancelled chain ≡ delete_for setup k id held (Some chain)
deleted_for setup k id held cancelled [] taken is asked = refl
deleted_for setup k id held cancelled (newest ∷ older) taken is asked =
    ap (λ (b : Bool). delete_if b) asked
    ∙ sym (ap (λ (t : Option Submission). delete_of setup k id held newest older t) is)
  where
    delete_if : Bool → Option Start
    delete_if b = deletion_if setup k b (newest ∷ older)

-- ---- its receipt is told

module _ (s : Standpoint) (setup : Setup) (k : Kept) (node : s.author.node ≡ setup.node) (incarnation : s.author.incarnation ≡ k.incarnation)
    (clock : s.clock ≡ k.clock) where
  announced_by : (taken : Submission) (newest : Decree) (older : List Decree) (kind : Kind) →
      announced (setup_of s) (standpoints.kept_of s) taken newest older kind ≡ announced setup k taken newest older kind
  announced_by taken newest older (Taken message) = refl
  announced_by taken newest older (Attempt number) = refl
  announced_by taken newest older (Failed error) = refl
  announced_by taken newest older (Fate final error) = λ i.
      if (node i == home_in (newest ∷ older)) && is_asked final taken
      then Some (record {
        place = length (newest ∷ older);
        chain = record {
          author = record { node = node i; incarnation = incarnation i };
          moment = max (clock i) newest.moment;
          kind = Told;
        } ∷ newest ∷ older;
      })
      else None
  announced_by taken newest older Told = refl

  fits : (found : Option Fitting) (start : Option Start) → found ≡ fitting Announce start → option_map (λ (fit : Fitting). fit.start) found ≡ start
  fits found None is = ap (option_map (λ (fit : Fitting). fit.start)) is
  fits found (Some start) is = ap (option_map (λ (fit : Fitting). fit.start)) is

  told_for : (taken : Submission) (newest : Decree) (older : List Decree) (found : Option Fitting) → taken_in (newest ∷ older) ≡ Some taken →
      found ≡ telling_rule s taken newest older → option_map (λ (fit : Fitting). fit.start) found ≡ tell_for setup k None (newest ∷ older)
  told_for taken newest older found message is =
      fits found (announced (setup_of s) (standpoints.kept_of s) taken newest older newest.kind) is
      ∙ announced_by taken newest older newest.kind
      ∙ ap (tell_of setup k newest older) (sym message)

  pub announces : (chain : List Decree) (taken : Submission) (due : Due) (next : Chain) → taken_in chain ≡ Some taken → IsTelling s chain (Some due) →
      IsBehind s chain due next.decrees → Some (start_of next) ≡ tell_for setup k None chain
  announces [] taken due next message is behind = absurd is
  announces (newest ∷ older) taken due next message is behind =
      let decrees : next.decrees ≡ (start_for s newest older due).chain = behind in
      (λ i. Some (record { place = pred (length (decrees i)); chain = decrees i }))
      ∙ told_for taken newest older (Some (fitting_for s newest older due)) message (is taken message)

  pub announces_none : (chain : List Decree) (taken : Submission) (found : Option Due) → taken_in chain ≡ Some taken → IsTelling s chain found →
      ((due : Due) → found ≡ Some due → ⊥) → None ≡ tell_for setup k None chain
  announces_none chain taken (Some due) message is other = absurd (other due refl)
  announces_none [] taken None message is other = absurd is
  announces_none (newest ∷ older) taken None message is other = told_for taken newest older None message (is taken message)

-- ---- a round starts

module _ (k : Holding) (id : ℕ) (chain : Chain) (at : chain.id ≡ id) (taken new : Filed) (packet : Option Cast) (own : AreOwn k)
    (is_taken : IsTaken k id taken) (is_started : IsStarted taken chain new packet) where
  abbrev to : Message
  to = message_at (kept_of k) id

  abbrev slot : Slot
  slot = slot_of id chain.decrees

  so_started : IsStarted taken (record { id = id; decrees = chain.decrees }) new packet
  so_started = subst (λ (c : Chain). IsStarted taken c new packet) (λ i. record { id = at i; decrees = chain.decrees }) is_started

  message_is : message_of id new ≡ with_round k.setup.node k.incarnation (kept_of k).records to slot chain.decrees
  message_is =
      let of = is_taken.own own in
      so_started.message
      ∙ (λ i. with_round (of.node i) (of.incarnation i) (record_at taken.acceptor) (is_taken.message i) slot chain.decrees)
      ∙ start_same k.setup.node k.incarnation (record_at taken.acceptor) (kept_of k).records to id is_taken.records (Some (start_of chain))

  packet_is : option_map packet_of packet ≡ prepare_for k.setup.node k.incarnation (kept_of k).records to slot
  packet_is =
      let of = is_taken.own own in
      so_started.prepares
      ∙ (λ i. prepare_for (of.node i) (of.incarnation i) (record_at taken.acceptor) (is_taken.message i) slot)
      ∙ prepare_same k.setup.node k.incarnation (record_at taken.acceptor) (kept_of k).records to id is_taken.records (Some (start_of chain))

  abbrev began : Prepared
  began = prepared_at k.setup (kept_of k) slot (next_round (kept_of k).records to slot) chain.decrees

  abbrev kept_if : Bool → Message
  kept_if test =
      if test then started_at to slot (next_round (kept_of k).records to slot)
      (ballot_of (next_round (kept_of k).records to slot) k.incarnation k.setup.node) chain.decrees else to

  abbrev sent_if : Bool → Option Packet
  sent_if test = if test then Some (Prepare k.setup.node slot (ballot_of (next_round (kept_of k).records to slot) k.incarnation k.setup.node)) else None

  abbrev made_if : Bool → Stepped
  made_if test = started_alone (if test then began else record { kept = kept_of k; packets = [] })

  for_next : (next : Option Chain) → next ≡ Some chain →
      made_if (may_start (kept_of k).records to slot) ≡ started_alone (started k.setup (kept_of k) id (option_map start_of next))
  for_next next is = ap (λ (n : Option Chain). started_alone (started k.setup (kept_of k) id (option_map start_of n))) (sym is)

  pub starts_now : (next : Option Chain) (one : Cast) (step : Step) → next ≡ Some chain → packet ≡ Some one → IsLeft k id new
      (giving (listed (Some (packet_of one))) []) step →
      IsStep k (started_alone (started k.setup (kept_of k) id (option_map start_of next))) step
  starts_now next one step is some is_left =
      let sent : Some (packet_of one) ≡ sent_if (may_start (kept_of k).records to slot) = ap (λ (p : Option Cast). option_map packet_of p)
      (sym some) ∙ packet_is in
      subst (λ (s : Stepped). IsStep k s step) (by_test (may_start (kept_of k).records to slot) sent ∙ for_next next is)
      (left_as k id new (kept_if (may_start (kept_of k).records to slot))
      (as_changed k id taken new to (kept_if (may_start (kept_of k).records to slot)) is_taken so_started.same message_is)
      (giving (listed (Some (packet_of one))) []) step is_left)
    where
      by_test : (test : Bool) → Some (packet_of one) ≡ sent_if test →
          record { kept = with_message (kept_of k) id (kept_if test); outputs = giving (listed (Some (packet_of one))) [] } ≡ made_if test
      by_test true sent = ap (λ (p : Option Packet). record { kept = with_message (kept_of k) id (kept_if true); outputs = giving (listed p) [] }) sent
      by_test false sent = absurd (cc)

  pub starts_not : (next : Option Chain) (step : Step) → next ≡ Some chain → packet ≡ None → IsStep k (leaves (kept_of k)) step →
      IsStep k (started_alone (started k.setup (kept_of k) id (option_map start_of next))) step
  starts_not next step some none is =
      let sent : None ≡ sent_if (may_start (kept_of k).records to slot) = ap (λ (p : Option Cast). option_map packet_of p) (sym none) ∙ packet_is in
      subst (λ (s : Stepped). IsStep k s step) (by_test (may_start (kept_of k).records to slot) sent ∙ for_next next some) is
    where
      by_test : (test : Bool) → None ≡ sent_if test → leaves (kept_of k) ≡ made_if test
      by_test true sent = absurd (cc)
      by_test false sent = refl

-- the requests that wait don't count for it
module _ (setup : Setup) (k : Kept) (held : List Held) (id : ℕ) where
  abbrev begun_at : Start → Prepared
  begun_at start = prepared_at setup k (slot_at id start.place) (suc (highest_round k.records (message_at k id) (slot_at id start.place))) start.chain

  abbrev not_begun : Prepared
  not_begun = record { kept = k; packets = [] }

  abbrev over : Prepared → Prepared
  over p = record { kept = record p.kept { held = held }; packets = p.packets }

  begun_if : (start : Start) (test : Bool) → (if test then over (begun_at start) else over not_begun) ≡ over (if test then begun_at start else not_begun)
  begun_if start true = refl
  begun_if start false = refl

  pub started_held : (start : Option Start) →
      started setup (record k { held = held }) id start ≡ over (started setup k id start)
  started_held None = refl
  started_held (Some start) = begun_if start (is_free k (slot_at id start.place))

-- ---- a Tell

tell_asked : (setup : Setup) (k : Kept) (teller : ℕ) (name : Name) (told : Option TopVote) (h : Held) → asked_by setup k name ≡ Some h →
    on_tell setup k teller name told
    ≡ (if tells_about told (id_of h) then told_to setup k (message_at k (id_of h)).known (told_by h teller told) else leaves k)
tell_asked setup k teller name told h some = by_test (is_own_name setup k name) some
  where
    by_test : (test : Bool) → (if test then held_at k.held name.ticket else None) ≡ Some h →
        (if test then tell_held setup k teller told (held_at k.held name.ticket) else leaves k)
        ≡ (if tells_about told (id_of h) then told_to setup k (message_at k (id_of h)).known (told_by h teller told) else leaves k)
    by_test true is = ap (λ (o : Option Held). tell_held setup k teller told o) is
    by_test false is = absurd (cc)

pub tell_to : (setup : Setup) (k : Kept) (teller : ℕ) (name : Name) (told : Option TopVote) (h : Held) → asked_by setup k name ≡ Some h →
    tells_about told (id_of h) ≡ true → on_tell setup k teller name told ≡ told_to setup k (message_at k (id_of h)).known (told_by h teller told)
tell_to setup k teller name told h some about =
    tell_asked setup k teller name told h some
    ∙ ap (λ (b : Bool). if b then told_to setup k (message_at k (id_of h)).known (told_by h teller told) else leaves k) about

pub most_told : (nodes : ℕ) (h : Held) → IsToldOf h → IfSome (told_by_most nodes h) (λ top. top.id ≡ id_of h)
most_told nodes h told = by_test (is_majority nodes h.tellers)
  where
    by_test : (test : Bool) → IfSome (if test then h.top else None) (λ top. top.id ≡ id_of h)
    by_test true = told
    by_test false = tt

pub sound_asked : (k : Holding) (name : Name) (h : Held) → AreOwn k → asked_by k.setup (kept_of k) name ≡ Some h → IsSound k.setup.node k.incarnation h
sound_asked k name h own some = by_test (is_own_name k.setup (kept_of k) name) some
  where
    by_test : (test : Bool) → (if test then held_at (held_in k.queue) name.ticket else None) ≡ Some h → IsSound k.setup.node k.incarnation h
    by_test true is = asked_at k.setup.node k.incarnation (suc k.given) (held_in k.queue) name.ticket h own.asked is
    by_test false is = absurd (cc)

module _ (k : Holding) (known : Option (List Decree)) (told : Held) (next : Option Start) (step0 : Step) (verdict : Vec Reply × QueueChange) where
  abbrev new : Held
  new = settled_by k.setup.nodes known told

  abbrev prepared : Prepared
  prepared = started k.setup (kept_of k) (id_of told) next

  id_same : id_of new ≡ id_of told
  id_same = by_test (settles k.setup.nodes known told)
    where
      by_test : (test : Bool) → id_of (if test then record told { waiting = record told.waiting { settled = true } } else told) ≡ id_of told
      by_test true = refl
      by_test false = refl

  abbrev made : Stepped
  made = record {
    kept = record prepared.kept { held = requeued k.setup.nodes (held_in k.queue) verdict.1 };
    outputs = record nothing { packets = prepared.packets; replies = map reply_given verdict.0.items };
  }

  answered : (answer : Option Answer) →
      record {
        kept = record prepared.kept { held = left_by answer new (held_in k.queue) };
        outputs = record nothing { packets = prepared.packets; replies = replied new answer [] };
      }
      ≡ answer_told (record { kept = record prepared.kept { held = with_held (held_in k.queue) new }; packets = prepared.packets }) new answer
  answered None = refl
  answered (Some answer) = λ i. record {
    kept = record prepared.kept { held = sym (replaced_gone new (held_in k.queue)) i };
    outputs = record nothing { packets = prepared.packets; replies = replied new (Some answer) [] };
  }

  -- the code's own words for the round that starts are the model's
  told_is : answer_told
      (started k.setup (record (kept_of k) { held = with_held (held_in k.queue) new }) (id_of told)
      (next_told k.setup (kept_of k) (settles k.setup.nodes known told) known new))
      new
      (answer_to k.setup.nodes known new)
      ≡ told_to k.setup (kept_of k) known told
  told_is = λ i. answer_told
      (started k.setup (record (kept_of k) { held = with_held (held_in k.queue) new }) (sym id_same i)
      (next_told k.setup (kept_of k) (settles k.setup.nodes known told) known new))
      new
      (answer_to k.setup.nodes known new)

  made_is : next ≡ next_told k.setup (kept_of k) (settles k.setup.nodes known told) known new → IsVerdict k.setup.nodes known new verdict →
      made ≡ told_to k.setup (kept_of k) known told
  made_is starts is =
      (λ i. record {
        kept = record prepared.kept { held = is.leaves k.setup.nodes (held_in k.queue) i };
        outputs = record nothing { packets = prepared.packets; replies = is.replies i };
      })
      ∙ answered (answer_to k.setup.nodes known new)
      ∙ sym (ap (λ (p : Prepared). answer_told p new (answer_to k.setup.nodes known new))
      (started_held k.setup (kept_of k) (with_held (held_in k.queue) new) (id_of told) next))
      ∙ ap (λ (start : Option Start). answer_told (started k.setup (record (kept_of k) { held = with_held (held_in k.queue) new })
      (id_of told) start) new (answer_to k.setup.nodes known new)) starts
      ∙ told_is

  pub told_here : (outputs : Sent) → AreOwn k → IsSound k.setup.node k.incarnation told → IsStep k (started_alone prepared) step0 → step0.next.given ≡ k.given →
      IsVerdict k.setup.nodes known new verdict → next ≡ next_told k.setup (kept_of k) (settles k.setup.nodes known told) known new →
      outputs_of outputs ≡ record (outputs_of step0.outputs) { replies = map reply_given verdict.0.items } →
      IsStep k (told_to k.setup (kept_of k) known told) (record { outputs = outputs; next = record step0.next { queue = verdict.1 } })
  told_here outputs own sound base ticket is starts gives =
      let after : Step = record { outputs = outputs; next = record step0.next { queue = verdict.1 } } in
      subst (λ (s : Stepped). IsStep k s after)
      ((λ i. record {
        kept = record prepared.kept { held = requeued k.setup.nodes (held_in k.queue) verdict.1 };
        outputs = (gives ∙ ap (λ (o : Outputs). record o { replies = map reply_given verdict.0.items }) base.outputs) i;
      }) ∙ made_is starts is)
      (requeued_step k (started_alone prepared) step0 verdict.1 outputs base ticket (is.place k.queue)
      (λ mine. subst (λ (held : List Held). AreAsked k.setup.node k.incarnation (suc k.given) held) (sym (is.leaves k.setup.nodes (held_in k.queue)))
      (asked_left k.setup.node k.incarnation (suc k.given) (answer_to k.setup.nodes known new) new
      (sound_settled k.setup.node k.incarnation k.setup.nodes known told sound) (held_in k.queue) mine.asked)))
