-- What holds of some messages stays so, if nothing is done about them.
use Rattle.std.proofs.Common.{◌≡◌, ◌⊎◌, ℕ, suc, pred, Bool, true, false, List, [], ◌∷◌, ◌++◌, filter, map, Option, Some, None, refl, sym, subst, ap, ◌∙◌, inl, inr}
use Rattle.std.specs.Prelude.{◌==◌, not, if◌then◌else◌}
use Rattle.mc_model.specs.message.Decree.{Decree}
use Rattle.mc_model.specs.node.Actor.{Request, id_in}
use Rattle.mc_model.specs.node.FirstRule.{Announce, Close, Delete, Expire, Follow, GiveUp, Lose, Rule, Take, Try, Undeliver}
use Rattle.mc_model.specs.node.Outcome.{Outcome, Unanswered, no_session_error}
use Rattle.mc_model.specs.node.Replies.{Answer}
use Rattle.mc_model.specs.node.Setup.{Setup}
use Rattle.mc_model.specs.synod.Acceptor.{SlotRecord}
use Rattle.mc_model.specs.synod.Ballot.{ballot_of}
use Rattle.mc_model.specs.synod.Lists.{In}
use Rattle.mc_model.specs.synod.OneSlot.{Vote}
use Rattle.mc_model.specs.synod.Packet.{Slot, slot_at}
use Rattle.mc_parts.proofs.Membership.{in_either, in_filter, in_map}
use Rattle.node_model.specs.Answers.{answer_to, still_waits}
use Rattle.node_model.specs.Attempts.{closed_by, concluded, on_grant, on_response}
use Rattle.node_model.specs.Kept.{Held, Kept, message_at, saved, with_message}
use Rattle.node_model.specs.Learner.{makes_known}
use Rattle.node_model.specs.Message.{Message, Round}
use Rattle.node_model.specs.Outputs.{Stepped, leaves, sends}
use Rattle.node_model.specs.Packets.{answer_told, heard_in, known_then, on_known, on_refused, promised_in, settled_for, settled_told, start_known, start_told}
use Rattle.node_model.specs.Proposer.{Prepared, Start, highest_round, is_free, is_own_ballot, prepared_at, promised_by, refused, runs_at, started, started_at}
use Rattle.node_model.specs.Requests.{asks, begun, id_of, settled_by, settles, ticket_of, with_held}
use Rattle.node_model.specs.Rules.{Fitting}
use Rattle.node_model.specs.Starts.{take_for}
use Rattle.node_model.specs.Ticks.{given_up, on_arrival, ruled, waits_too}

-- a request that waits is as it was before: it is about the same message, it asks if that asked, and nothing was told to it since
pub record IsAs (h old : Held) : Type 0 where
  pub id : id_of h ≡ id_of old
  pub asking : asks h.waiting.request ≡ asks old.waiting.request
  pub top : h.top ≡ old.top

-- it is as one of these, or about a message of which nothing is said
abbrev pub ComesFrom : (ℕ → Bool) → List Held → Held → Type 0
ComesFrom some_of held h = ((old : Held) × In old held × IsAs h old) ⊎ (some_of (id_of h) ≡ false)

pub record Staying (some_of : ℕ → Bool) (P : Kept → Type 0) : Type 0 where
  pub other : (k : Kept) (id : ℕ) (m : Message) → some_of id ≡ false → P k → P (with_message k id m)
  pub record_of : (k : Kept) (slot : Slot) (new : SlotRecord) → some_of slot.id ≡ false → P k → P (saved k slot new)
  pub requests : (k : Kept) (held : List Held) → ((h : Held) → In h held → ComesFrom some_of k.held h) → P k → P (record k { held = held })
  -- it is about records, messages and requests alone
  pub same : (k now : Kept) → k.records ≡ now.records → k.messages ≡ now.messages → k.held ≡ now.held → P k → P now

pub settled_as : (nodes : ℕ) (known : Option (List Decree)) (h : Held) → IsAs (settled_by nodes known h) h
settled_as nodes known h = by (settles nodes known h)
  where
    by : (b : Bool) → IsAs (if b then record h { waiting = record h.waiting { settled = true } } else h) h
    by true = record { id = refl; asking = refl; top = refl }
    by false = record { id = refl; asking = refl; top = refl }

module _ (some_of : ℕ → Bool) (P : Kept → Type 0) (s : Staying some_of P) where
  -- of two steps, whichever is taken
  pub one_of : (b : Bool) (x y : Stepped) → P x.kept → P y.kept → P (if◌then◌else◌ {A = Stepped} b x y).kept
  one_of true x y one other = one
  one_of false x y one other = other

  one_prepared : (b : Bool) (x y : Prepared) → P x.kept → P y.kept → P (if◌then◌else◌ {A = Prepared} b x y).kept
  one_prepared true x y one other = one
  one_prepared false x y one other = other

  pub started_stays : (setup : Setup) (k : Kept) (id : ℕ) (start : Option Start) → some_of id ≡ false → P k → P (started setup k id start).kept
  started_stays setup k id None apart p = p
  started_stays setup k id (Some start) apart p =
      let slot : Slot = slot_at id start.place in
      let number : ℕ = suc (highest_round k.records (message_at k id) slot) in
      one_prepared (is_free k slot) (prepared_at setup k slot number start.chain) (record { kept = k; packets = [] })
      (s.other k id (started_at (message_at k id) slot number (ballot_of number k.incarnation setup.node) start.chain) apart p) p

  given_stays : (rule : Rule) (k : Kept) (id place : ℕ) → some_of id ≡ false → P k → P (given_up rule k id place)
  given_stays Take k id place apart p = p
  given_stays Follow k id place apart p = p
  given_stays Close k id place apart p = p
  given_stays Lose k id place apart p = p
  given_stays GiveUp k id place apart p = s.other k id (record (message_at k id) {
    closed = λ other. if other == place then Some (Unanswered no_session_error) else (message_at k id).closed other;
  }) apart p
  given_stays Delete k id place apart p = p
  given_stays Expire k id place apart p = p
  given_stays Undeliver k id place apart p = p
  given_stays Try k id place apart p = p
  given_stays Announce k id place apart p = p

  pub ruled_stays : (setup : Setup) (k : Kept) (id : ℕ) (fit : Option Fitting) → some_of id ≡ false → P k → P (ruled setup k id fit).kept
  ruled_stays setup k id None apart p = p
  ruled_stays setup k id (Some fit) apart p =
      started_stays setup (given_up fit.rule k id (pred fit.start.place)) id (Some fit.start) apart
      (given_stays fit.rule k id (pred fit.start.place) apart p)

  -- ---- requests that wait

  as_it_is : (k : Kept) (h : Held) → In h k.held → ComesFrom some_of k.held h
  as_it_is k h among = inl (h, among, record { id = refl; asking = refl; top = refl })

  pub filtered_stays : (k : Kept) (test : Held → Bool) → P k → P (record k { held = filter test k.held })
  filtered_stays k test p = s.requests k (filter test k.held) (λ h among. as_it_is k h (in_filter test k.held h among)) p

  settled_for_as : (nodes id : ℕ) (chain : List Decree) (h : Held) → IsAs (settled_for nodes id chain h) h
  settled_for_as nodes id chain h = by (id_of h == id)
    where
      by : (b : Bool) → IsAs (if b then settled_by nodes (Some chain) h else h) h
      by true = settled_as nodes (Some chain) h
      by false = record { id = refl; asking = refl; top = refl }

  settled_stays : (k : Kept) (nodes id : ℕ) (chain : List Decree) → P k → P (record k { held = map (settled_for nodes id chain) k.held })
  settled_stays k nodes id chain p = s.requests k (map (settled_for nodes id chain) k.held)
      (λ h among.
      let from = in_map (settled_for nodes id chain) k.held h among in
      inl (from.from, from.member, subst (λ (x : Held). IsAs x from.from) (sym from.made) (settled_for_as nodes id chain from.from))) p

  -- one of them is put in the place of that of its ticket
  pub replaced_stays : (k : Kept) (new : Held) → ComesFrom some_of k.held new → P k → P (record k { held = with_held k.held new })
  replaced_stays k new comes p = s.requests k (with_held k.held new)
      (λ h among.
      let from = in_map (λ x. if ticket_of x == ticket_of new then new else x) k.held h among in
      subst (ComesFrom some_of k.held) (sym from.made) (either (ticket_of from.from == ticket_of new) from.from from.member)) p
    where
      either : (b : Bool) (x : Held) → In x k.held → ComesFrom some_of k.held (if b then new else x)
      either true x among = comes
      either false x among = as_it_is k x among

  -- ---- packets

  pub known_stays : (setup : Setup) (k : Kept) (id : ℕ) (m : Message) (chain : List Decree) → some_of id ≡ false → P k → P (on_known setup k id m chain).kept
  known_stays setup k id m chain apart p =
      let now : Kept = record (with_message k id (known_then m chain)) { held = map (settled_for setup.nodes id chain) k.held } in
      let settled : P now = settled_stays (with_message k id (known_then m chain)) setup.nodes id chain (s.other k id (known_then m chain) apart p) in
      let begun = started_stays setup now id (start_known setup now id m.known chain) apart settled in
      s.requests (started setup now id (start_known setup now id m.known chain)).kept (filter (still_waits setup.nodes (Some chain) id) now.held)
      (λ h among. subst (λ (held : List Held). ComesFrom some_of held h) (sym (same_requests setup now id (start_known setup now id m.known chain)))
      (as_it_is now h (in_filter (still_waits setup.nodes (Some chain) id) now.held h among))) begun
    where
      same_requests : (setup : Setup) (k : Kept) (id : ℕ) (start : Option Start) → (started setup k id start).kept.held ≡ k.held
      same_requests setup k id None = refl
      same_requests setup k id (Some start) = by (is_free k (slot_at id start.place))
        where
          by : (b : Bool) → (if◌then◌else◌ {A = Prepared} b
              (prepared_at setup k (slot_at id start.place) (suc (highest_round k.records (message_at k id) (slot_at id start.place))) start.chain)
              (record { kept = k; packets = [] })).kept.held ≡ k.held
          by true = refl
          by false = refl

  pub heard_stays : (setup : Setup) (k : Kept) (id : ℕ) (m : Message) (vote : Vote) → some_of id ≡ false → P k → P (heard_in setup k id m vote).kept
  heard_stays setup k id m vote apart p =
      one_of (makes_known setup.nodes m vote) (on_known setup k id m vote.chain) (leaves (with_message k id m))
      (known_stays setup k id m vote.chain apart p) (s.other k id m apart p)

  pub promise_stays : (setup : Setup) (k : Kept) (m : Message) (round : Option Round) (sender : ℕ) (slot : Slot) (ballot : ℕ) (report : Option Vote) →
      some_of slot.id ≡ false → P k → P (promised_in setup k m round sender slot ballot report).kept
  promise_stays setup k m None sender slot ballot report apart p = p
  promise_stays setup k m (Some r) sender slot ballot report apart p =
      one_of (runs_at (Some r) slot ballot) (sends (with_message k slot.id (record m { round = Some (promised_by r sender report) })) _ [] []) (leaves k)
      (s.other k slot.id (record m { round = Some (promised_by r sender report) }) apart p) p

  pub refused_stays : (setup : Setup) (k : Kept) (slot : Slot) (ballot promised : ℕ) → some_of slot.id ≡ false → P k →
      P (on_refused setup k slot ballot promised).kept
  refused_stays setup k slot ballot promised apart p =
      one_of (is_own_ballot setup k ballot) (leaves (with_message k slot.id (refused (message_at k slot.id) slot ballot promised))) (leaves k)
      (s.other k slot.id (refused (message_at k slot.id) slot ballot promised) apart p) p

  pub answer_stays : (prepared : Prepared) (new : Held) (answer : Option Answer) → P prepared.kept → P (answer_told prepared new answer).kept
  answer_stays prepared new None p = p
  answer_stays prepared new (Some answer) p = filtered_stays prepared.kept (λ h. not (ticket_of h == ticket_of new)) p

  -- about a message of which nothing is said
  pub told_stays : (setup : Setup) (k : Kept) (known : Option (List Decree)) (told new : Held) → some_of (id_of new) ≡ false → P k →
      P (settled_told setup k known told new).kept
  told_stays setup k known told new apart p =
      let now : Kept = record k { held = with_held k.held new } in
      answer_stays (started setup now (id_of new) (start_told setup k known told new)) new (answer_to setup.nodes known new)
      (started_stays setup now (id_of new) (start_told setup k known told new) apart (replaced_stays k new (inr apart) p))

  -- ---- the others

  pub arrival_stays : (setup : Setup) (k : Kept) (request : Request) → some_of (id_in request) ≡ false → P k → P (on_arrival setup k request).kept
  arrival_stays setup k request apart p =
      let new : Held = begun k.ticket k.clock request in
      let waits = s.requests k (k.held ++ new ∷ []) (λ h among. elim (in_either h k.held (new ∷ []) among) [
        | inl old ↦ as_it_is k h old
        | inr (inl same) ↦ inr (ap (λ (x : Held). some_of (id_of x)) same ∙ apart)
        | inr (inr none) ↦ absurd none
      ]) p in
      started_stays setup (waits_too k request new) (id_in request) (take_for setup k new request) apart
      (s.same (record k { held = k.held ++ new ∷ [] }) (waits_too k request new) refl refl refl waits)

  pub lowered_stays : (k : Kept) → P k → P (record k { up = false })
  lowered_stays k p = s.same k (record k { up = false }) refl refl refl p

  pub response_stays : (setup : Setup) (k : Kept) (slot : Slot) (outcome : Outcome) → some_of slot.id ≡ false → P k → P (on_response setup k slot outcome).kept
  response_stays setup k slot outcome apart p =
      started_stays setup (closed_by k slot outcome) slot.id (concluded setup k slot outcome (message_at k slot.id).known) apart
      (s.other k slot.id (record (message_at k slot.id) {
        closed = λ other. if other == slot.place then Some outcome else (message_at k slot.id).closed other;
      }) apart p)

  pub grant_stays : (k : Kept) (slot : Slot) → some_of slot.id ≡ false → P k → P (on_grant k slot).kept
  grant_stays k slot apart p = s.other k slot.id (record (message_at k slot.id) {
    granted = λ other. if other == slot.place then true else (message_at k slot.id).granted other;
  }) apart p
