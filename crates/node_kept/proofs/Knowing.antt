-- A chain that becomes known settles and answers requests, may start a deletion, and may be due a receipt, as in the model.
use Rattle.std.proofs.Common.{◌≡◌, suc, ℕ, Bool, true, false, List, [], ◌∷◌, map, slice_get, Option, Some, None, refl, sym, ap, subst, ◌∙◌}
use Rattle.std.specs.Prelude.{◌==◌, ◌&&◌, filter, not, option_map, if◌then◌else◌}
use Rattle.std.specs.List.{list_any}
use Rattle.std.specs.Option.{option_or}
use Rattle.std.proofs.lemmas.Bool.{and_parts, true≢false}
use Rattle.std.proofs.lemmas.Bool.Decides.{Decides-eqb}
use Rattle.mc_model.specs.message.Ids.{node_of}
use Rattle.mc_model.specs.message.Submission.{Submission}
use Rattle.mc_model.specs.message.Decree.{Attempt, Decree, Failed, Fate, Kind, Taken, Told}
use Rattle.mc_model.specs.message.Chain.{Chain, IsPermitted, taken_in}
use Rattle.mc_model.specs.node.Setup.{Setup}
use Rattle.mc_model.specs.synod.Packet.{Packet}
use Rattle.mc_parts.proofs.Tellings.{told_stands}
use Rattle.node_model.specs.Answers.{ends_told, had_fate, is_known_so, is_told_by, receipts_of, replies_to, still_waits}
use Rattle.node_model.specs.Kept.{Held, Kept, with_message}
use Rattle.node_model.specs.Message.{Message}
use Rattle.node_model.specs.Outputs.{Stepped, nothing, sends}
use Rattle.node_model.specs.Packets.{answered_then, known_then, on_known, settled_for, start_known}
use Rattle.node_model.specs.Proposer.{Start, started}
use Rattle.node_model.specs.Starts.{announced, cancels, delete_for, tell_for, tell_of}
use Rattle.waiting_requests.specs.Waiting.{held_in}
use Rattle.synod_acceptor.specs.Packets.{packet_of}
use Rattle.synod_acceptor.specs.Records.{record_at}
use Rattle.synod_acceptor.specs.declared.packet.Packet.{Packet as Cast}
use Rattle.node_parts.specs.declared.message.Message.{Message as Filed}
use Rattle.node_parts.specs.declared.outputs.Outputs.{Outputs as Sent}
use Rattle.node_parts.specs.Lists.{listed}
use Rattle.node_parts.specs.Messages.{IsStartedFor, message_of, prepare_from, with_start}
use Rattle.node_parts.proofs.Starting.{prepare_same, start_same, started_with}
use Rattle.node_kept.specs.declared.kept.Kept.{Kept as Holding}
use Rattle.node_kept.specs.declared.queue_change.QueueChange.TheVariants as changes
use Rattle.node_kept.specs.declared.step.Step.{Step}
use Rattle.node_kept.specs.Deleting.{deletion_if, next_known}
use Rattle.node_kept.specs.Keeping.{AreOwn, IsAs, kept_of}
use Rattle.node_kept.specs.Queueing.{AreAsked, requeued}
use Rattle.node_model.specs.Reported.{receipt_of}
use Rattle.node_kept.specs.Steps.{IsLeft, IsStep, giving, outputs_of}
use Rattle.node_kept.proofs.Leaving.{as_changed, left_as}
use Rattle.node_kept.proofs.Queueing.{asked_settled, requeued_step}
use Rattle.node_kept.proofs.Tells.{deleted_for}

-- ---- the receipt

receipts_are : (node incarnation id : ℕ) (before : Option (List Decree)) (chain : List Decree) → is_known_so before chain ≡ false →
    receipts_of node incarnation id None chain ≡ receipts_of node incarnation id before chain
receipts_are node incarnation id before chain anew =
    ap (λ (b : Bool). if (node_of id == node) && (ends_told node incarnation chain && not b) then record { id = id; chain = chain } ∷ [] else []) (sym anew)

receipt_by : (node incarnation id : ℕ) (chain : List Decree) (home told : Bool) → (node_of id == node) ≡ home → ends_told node incarnation chain ≡ told →
    receipts_of node incarnation id None chain ≡ (if home && (told && true) then record { id = id; chain = chain } ∷ [] else [])
receipt_by node incarnation id chain home told is_home is_told = rw (is_home, is_told) refl

-- a Told is of the node that the id names
told_at_home : (node incarnation id : ℕ) (told : Decree) (older : List Decree) (kind : Kind) → told.kind ≡ kind → IsPermitted id (told ∷ older) →
    is_told_by node incarnation told.author kind ≡ true → (node_of id == node) ≡ true
told_at_home node incarnation id told older (Taken message) is permitted by = absurd (true≢false (sym by))
told_at_home node incarnation id told older (Attempt number) is permitted by = absurd (true≢false (sym by))
told_at_home node incarnation id told older (Failed error) is permitted by = absurd (true≢false (sym by))
told_at_home node incarnation id told older (Fate final error) is permitted by = absurd (true≢false (sym by))
told_at_home node incarnation id told older Told is permitted by =
    (Decides-eqb (node_of id) node).1
    (sym (told_stands id told older permitted is).home
    ∙ (Decides-eqb told.author.node node).0 (and_parts (told.author.node == node) (told.author.incarnation == incarnation) by).0)

pub told_here : (node incarnation id : ℕ) (chain : List Decree) (newest : Decree) → IsPermitted id chain → slice_get chain 0 ≡ Some newest →
    is_told_by node incarnation newest.author newest.kind ≡ true →
    receipts_of node incarnation id None chain ≡ record { id = id; chain = chain } ∷ []
told_here node incarnation id [] newest permitted head by = absurd permitted
told_here node incarnation id (first ∷ older) newest permitted head by =
    let one : newest ≡ first = let heads : Some first ≡ Some newest = head in cc in
    let told : is_told_by node incarnation first.author first.kind ≡ true = subst (λ (d : Decree). is_told_by node incarnation d.author d.kind ≡ true) one by in
    receipt_by node incarnation id (first ∷ older) true true (told_at_home node incarnation id first older first.kind refl permitted told) told

-- ---- the round that starts

-- whether a receipt is to be told depends neither on messages nor on requests
announced_same : (setup : Setup) (k : Kept) (held : List Held) (messages : List (ℕ × Message)) (taken : Submission) (newest : Decree) (older : List Decree)
    (kind : Kind) → announced setup k taken newest older kind ≡ announced setup (record k { held = held; messages = messages }) taken newest older kind
announced_same setup k held messages taken newest older (Taken message) = refl
announced_same setup k held messages taken newest older (Attempt number) = refl
announced_same setup k held messages taken newest older (Failed error) = refl
announced_same setup k held messages taken newest older (Fate final error) = refl
announced_same setup k held messages taken newest older Told = refl

told_same : (setup : Setup) (k : Kept) (held : List Held) (messages : List (ℕ × Message)) (newest : Decree) (older : List Decree)
    (taken : Option Submission) → tell_of setup k newest older taken ≡ tell_of setup (record k { held = held; messages = messages }) newest older taken
told_same setup k held messages newest older None = refl
told_same setup k held messages newest older (Some taken) = announced_same setup k held messages taken newest older newest.kind

tells_same : (setup : Setup) (k : Kept) (held : List Held) (messages : List (ℕ × Message)) (before : Option (List Decree)) (had : Bool) (chain : List Decree) →
    had ≡ had_fate before →
    (if had then None else tell_for setup k None chain) ≡ tell_for setup (record k { held = held; messages = messages }) before chain
tells_same setup k held messages before true [] fate = refl
tells_same setup k held messages before false [] fate = refl
tells_same setup k held messages before had (newest ∷ older) fate =
    ap (λ (b : Bool). if b then None else tell_of setup k newest older (taken_in (newest ∷ older))) fate
    ∙ ap (λ (start : Option Start). if had_fate before then None else start) (told_same setup k held messages newest older (taken_in (newest ∷ older)))

-- for a deletion neither messages nor requests count
deletion_same : (setup : Setup) (k : Kept) (held : List Held) (messages : List (ℕ × Message)) (cancelled : Bool) (chain : List Decree) →
    deletion_if setup k cancelled chain ≡ deletion_if setup (record k { held = held; messages = messages }) cancelled chain
deletion_same setup k held messages cancelled [] = refl
deletion_same setup k held messages cancelled (newest ∷ older) = refl

module _ (k : Holding) (message new : Filed) (chain : Chain) (m : Message) (next : Option Start) (packet : Option Cast) (own : AreOwn k)
    (is : IsAs k chain.id message (known_then m chain.decrees)) (is_started : IsStartedFor message chain.id next new packet) where
  abbrev id : ℕ
  id = chain.id

  abbrev decrees : List Decree
  decrees = chain.decrees

  abbrev to : Message
  to = known_then m decrees

  -- the requests that are settled, and what is kept with them
  abbrev settled : List Held
  settled = map (settled_for k.setup.nodes id decrees) (held_in k.queue)

  abbrev kept : Kept
  kept = record (kept_of k) { held = settled }

  abbrev left : Message
  left = with_start k.setup.node k.incarnation (kept_of k).records to id next

  abbrev sent : Option Packet
  sent = prepare_from k.setup.node k.incarnation (kept_of k).records to id next

  message_is : message_of id new ≡ left
  message_is =
      let of = is.own own in
      is_started.message
      ∙ (λ i. with_start (of.node i) (of.incarnation i) (record_at message.acceptor) (is.message i) id next)
      ∙ start_same k.setup.node k.incarnation (record_at message.acceptor) (kept_of k).records to id is.records next

  packet_is : option_map packet_of packet ≡ sent
  packet_is =
      let of = is.own own in
      is_started.prepares
      ∙ (λ i. prepare_from (of.node i) (of.incarnation i) (record_at message.acceptor) (is.message i) id next)
      ∙ prepare_same k.setup.node k.incarnation (record_at message.acceptor) (kept_of k).records to id is.records next

  abbrev then_so : Stepped
  then_so = sends
      (record (with_message (kept_of k) id left) { held = filter (still_waits k.setup.nodes (Some decrees) id) settled })
      (listed sent)
      (replies_to k.setup.nodes (Some decrees) id settled)
      (receipts_of k.setup.node k.incarnation id m.known decrees)

  known_so : (taken : Submission) (cancelled had : Bool) → taken_in decrees ≡ Some taken → cancelled ≡ list_any (cancels id taken) settled →
      next ≡ next_known k.setup (kept_of k) had cancelled decrees → had ≡ had_fate m.known → then_so ≡ on_known k.setup (kept_of k) id m decrees
  known_so taken cancelled had is_taken asked starts fate =
      let now = with_message kept id to in
      let deletes : deletion_if k.setup (kept_of k) cancelled decrees ≡ delete_for k.setup now id settled (Some decrees) =
      deletion_same k.setup (kept_of k) settled now.messages cancelled decrees
      ∙ deleted_for k.setup now id settled cancelled decrees taken is_taken asked in
      let tells : (if had then None else tell_for k.setup (kept_of k) None decrees) ≡ tell_for k.setup now m.known decrees =
      tells_same k.setup (kept_of k) settled now.messages m.known had decrees fate in
      let begins : next ≡ start_known k.setup now id m.known decrees = starts ∙ (λ i. option_or (deletes i) (tells i)) in
      sym (ap (answered_then k.setup now id m.known decrees) (started_with k.setup kept id to next))
      ∙ ap (λ (start : Option Start). answered_then k.setup now id m.known decrees (started k.setup now id start)) begins

  pub learned_so : (taken : Submission) (cancelled had : Bool) (receipt : Option Chain) (outputs : Sent) (step0 : Step) (copy : Chain) →
      taken_in decrees ≡ Some taken → cancelled ≡ list_any (cancels id taken) settled → next ≡ next_known k.setup (kept_of k) had cancelled decrees →
      had ≡ had_fate m.known → is_known_so m.known decrees ≡ false →
      listed (option_map receipt_of receipt) ≡ receipts_of k.setup.node k.incarnation id None decrees →
      IsLeft k id new (giving (listed (option_map packet_of packet)) (listed (option_map receipt_of receipt))) step0 → copy ≡ chain →
      outputs_of outputs ≡ record (outputs_of step0.outputs) { replies = replies_to k.setup.nodes (Some decrees) id settled } →
      IsStep k (on_known k.setup (kept_of k) id m decrees)
      (record { outputs = outputs; next = record step0.next { queue = changes.Settle copy } })
  learned_so taken cancelled had receipt outputs step0 copy is_taken asked starts fate anew due is_left same gives =
      let base = left_as k id new left (as_changed k id message new to left is is_started.same message_is)
      (giving (listed (option_map packet_of packet)) (listed (option_map receipt_of receipt))) step0 is_left in
      let requeues : requeued k.setup.nodes (held_in k.queue) (changes.Settle copy) ≡ filter (still_waits k.setup.nodes (Some decrees) id) settled =
      ap (λ (c : Chain). requeued k.setup.nodes (held_in k.queue) (changes.Settle c)) same in
      let receipts : listed (option_map receipt_of receipt) ≡ receipts_of k.setup.node k.incarnation id m.known decrees =
      due ∙ receipts_are k.setup.node k.incarnation id m.known decrees anew in
      let outputs_are : outputs_of outputs ≡ then_so.outputs =
      gives
      ∙ (λ i. record (is_left.gives i) { replies = replies_to k.setup.nodes (Some decrees) id settled })
      ∙ (λ i. record nothing { packets = listed (packet_is i); replies = replies_to k.setup.nodes (Some decrees) id settled; receipts = receipts i }) in
      subst (λ (s : Stepped). IsStep k s (record { outputs = outputs; next = record step0.next { queue = changes.Settle copy } }))
      ((λ i. record { kept = record (with_message (kept_of k) id left) { held = requeues i }; outputs = outputs_are i })
      ∙ known_so taken cancelled had is_taken asked starts fate)
      (requeued_step k (record {
        kept = with_message (kept_of k) id left;
        outputs = giving (listed (option_map packet_of packet))
            (listed (option_map receipt_of receipt));
      })
      step0 (changes.Settle copy) outputs base is_left.next.given tt
      (λ mine. subst (λ (c : Chain). AreAsked k.setup.node k.incarnation (suc k.given) (requeued k.setup.nodes (held_in k.queue) (changes.Settle c))) (sym same)
      (asked_settled k.setup.node k.incarnation (suc k.given) k.setup.nodes id decrees (held_in k.queue) mine.asked)))
