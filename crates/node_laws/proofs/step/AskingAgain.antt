-- At a tick the questions are asked again of each request that lacks Tells of a majority.
use Rattle.std.proofs.Common.{◌≡◌, ℕ, ◌≤◌, Bool, true, false, List, [], ◌∷◌, ◌++◌, map, refl, sym, ap, subst, ◌∙◌, inl, inr}
use Rattle.std.specs.Prelude.{filter, not, reverse}
use Rattle.std.specs.Bool.{Decides}
use Rattle.std.proofs.lemmas.Bool.{true≢false}
use Rattle.std.proofs.lemmas.Bool.Decides.{Decides-and}
use Rattle.std.proofs.lemmas.Grind.{reverse_onto}
use Rattle.std.proofs.lemmas.List.{reverse-append}
use Rattle.mc_model.specs.node.Reach.{Reach}
use Rattle.mc_model.specs.message.Submission.{Submission}
use Rattle.mc_model.specs.synod.Acceptor.{Records}
use Rattle.mc_model.specs.synod.Lists.{In}
use Rattle.mc_model.specs.synod.Majority.{Majority}
use Rattle.mc_model.specs.synod.Packet.{Ask}
use Rattle.mc_model.specs.node.Act.{Act, Asks}
use Rattle.mc_model.specs.node.Actor.{Actor, Cancel, Query, Request, Submit, Waiting, id_in, name_of}
use Rattle.mc_model.specs.node.Alone.{IsRunAlone, Node, reached_alone}
use Rattle.mc_model.specs.node.Due.{AreDue}
use Rattle.mc_model.specs.node.Effect.{saved}
use Rattle.mc_model.specs.node.Input.{Tick}
use Rattle.mc_model.specs.node.Outputs.{Receipt, Reply, packets_in, receipts_in, replies_in}
use Rattle.mc_model.specs.node.Phases.{DueToAsk}
use Rattle.mc_model.specs.node.Settling.{HasTold}
use Rattle.mc_model.specs.node.Setup.{Setup}
use Rattle.mc_parts.proofs.Membership.{in_filter}
use Rattle.node_model.specs.Kept.{Held, Kept}
use Rattle.node_model.specs.Requests.{Ascend, asks, id_of, is_untold, ticket_of}
use Rattle.node_model.specs.Sets.{is_majority}
use Rattle.node_model.specs.Ticks.{question}
use Rattle.node_laws.specs.Stands.{IsHeld}
use Rattle.node_laws.proofs.invariant.Held.{kept_as, waits_among}
use Rattle.node_laws.proofs.invariant.Learning.{majority_decides}
use Rattle.node_model.proofs.Ascending.{ascend_kept}
use Rattle.node_laws.proofs.invariant.Orders.{acts_fall, in_mapped, in_reverse, mapped_in, reverse_in}
use Rattle.node_model.proofs.Filters.{filter_in, filter_passes}
use Rattle.mc_laws.proofs.step.Assembly.{alone_on}
use Rattle.node_laws.proofs.cluster.Runs.{packets_more, receipts_more, replies_more, run_more, saved_more}

abbrev pub ask_act : Held → Act
ask_act h = Asks (id_of h) (ticket_of h)

abbrev pub ask_acts : List Held → List Act
ask_acts held = reverse (map ask_act held)

ask_first : (h : Held) (held : List Held) → ask_acts (h ∷ held) ≡ ask_acts held ++ ask_act h ∷ []
ask_first h held = reverse_onto (map ask_act held) (ask_act h) []

-- ---- they change nothing

pub ask_records : (records : Records) (held : List Held) → saved records (ask_acts held) ≡ records
ask_records records [] = refl
ask_records records (h ∷ held) = ap (saved records) (ask_first h held) ∙ saved_more records (ask_acts held) (ask_act h ∷ []) ∙ ask_records records held

pub reached_ask : (node : ℕ) (s : Node) (held : List Held) → reached_alone node s (ask_acts held) ≡ s
reached_ask node s [] = refl
reached_ask node s (h ∷ held) = ap (reached_alone node s) (ask_first h held) ∙ alone_on node s (ask_acts held) (ask_act h ∷ []) ∙ reached_ask node s held

pub ask_replies : (held : List Held) → replies_in (ask_acts held) ≡ []
ask_replies [] = refl
ask_replies (h ∷ held) =
    ap replies_in (ask_first h held) ∙ replies_more (ask_acts held) (ask_act h ∷ []) ∙ ap (λ (rs : List Reply). rs ++ []) (ask_replies held)

pub ask_receipts : (held : List Held) → receipts_in (ask_acts held) ≡ []
ask_receipts [] = refl
ask_receipts (h ∷ held) =
    ap receipts_in (ask_first h held) ∙ receipts_more (ask_acts held) (ask_act h ∷ []) ∙ ap (λ (rs : List Receipt). rs ++ []) (ask_receipts held)

-- ---- what goes out

module _ (setup : Setup) (k : Kept) (a : Actor) (incarnation : k.incarnation ≡ a.incarnation) (records : Records) where
  question_is : (h : Held) → Ask setup.node (id_of h) (record { node = setup.node; incarnation = a.incarnation; ticket = ticket_of h }) ≡ question setup k h
  question_is h = λ i. Ask setup.node (id_of h) (record { node = setup.node; incarnation = sym incarnation i; ticket = ticket_of h })

  pub ask_packets : (held : List Held) → reverse (packets_in setup.node a records (ask_acts held)) ≡ map (question setup k) held
  ask_packets [] = refl
  ask_packets (h ∷ held) =
      ap (λ (acts : List Act). reverse (packets_in setup.node a records acts)) (ask_first h held)
      ∙ ap reverse (packets_more setup.node a records (ask_acts held) (ask_act h ∷ []))
      ∙ reverse-append (packets_in setup.node a records (ask_acts held))
      (Ask setup.node (id_of h) (record { node = setup.node; incarnation = a.incarnation; ticket = ticket_of h }) ∷ [])
      ∙ (λ i. question_is h i ∷ ask_packets held i)

-- ---- they are due, in this order, and may be sent

asks_kind : (request : Request) → asks request ≡ true → (id : ℕ) (message : Submission) → request ≡ Submit id message → ⊥
asks_kind (Submit other of) none id message same = true≢false (sym none)
asks_kind (Query other account source) is id message same = cc
asks_kind (Cancel other account source destination) is id message same = cc

asks_other : (request : Request) → ((message : Submission) → request ≡ Submit (id_in request) message → ⊥) → asks request ≡ true
asks_other (Submit id message) other = absurd (other message refl)
asks_other (Query id account source) other = refl
asks_other (Cancel id account source destination) other = refl

not_decides : (test : Bool) (P : Type 0) → Decides test P → Decides (not test) (P → ⊥)
not_decides true P decides = ((λ t. absurd (true≢false (sym t))), (λ none. absurd (none (decides.0 refl))))
not_decides false P decides = ((λ t. λ p. true≢false (sym (decides.1 p))), (λ none. refl))

module _ (setup : Setup) (before a : Actor) (held : List Held) (waiting : map (λ h. h.waiting) held ≡ a.waiting) (ascends : Ascend held)
    (told : (h : Held) → In h held → IsHeld a.received (name_of setup.node a h.waiting) h) (moment : ℕ) (reach : Reach) where
  abbrev Due : Act → Type 0
  Due = DueToAsk setup.nodes setup.node before a (Tick moment reach)

  abbrev untold : List Held
  untold = filter (is_untold setup.nodes) held

  abbrev Lacks : Held → Type 0
  Lacks h =
      ((message : Submission) → h.waiting.request ≡ Submit (id_of h) message → ⊥) ×
      (Majority setup.nodes (HasTold a.received (name_of setup.node a h.waiting)) → ⊥)

  untold_decides : (h : Held) → In h held → Decides (is_untold setup.nodes h) (Lacks h)
  untold_decides h among = Decides-and _ _
      ((λ is message same. asks_kind h.waiting.request is (id_of h) message same), asks_other h.waiting.request)
      (not_decides (is_majority setup.nodes h.tellers) (Majority setup.nodes (HasTold a.received (name_of setup.node a h.waiting)))
      (majority_decides setup.nodes (HasTold a.received (name_of setup.node a h.waiting)) h.tellers (told h among).tellers))

  abbrev is_due : (h : Held) → In h untold → Due (ask_act h)
  is_due h among =
      let is_held = in_filter (is_untold setup.nodes) held h among in
      let lacks = (untold_decides h is_held).0 (filter_passes (is_untold setup.nodes) held h among) in
      record {
        waiting = h.waiting;
        waits = subst (λ (ws : List Waiting). In h.waiting ws) waiting (waits_among held h is_held);
        ticket_is = refl;
        about = refl;
        asks = lacks.0;
        lacking = lacks.1;
      }

  due_only : (act : Act) → In act (ask_acts untold) → Due act
  due_only act is_in =
      let it = in_mapped ask_act untold act (in_reverse act (map ask_act untold) is_in) in
      subst Due (sym it.is) (is_due it.from it.among)

  due_all : (act : Act) → Due act → In act (ask_acts untold)
  due_all (Asks id ticket) due =
      let kept = kept_as held due.waiting (subst (λ (ws : List Waiting). In due.waiting ws) (sym waiting) due.waits) in
      let about : id_of kept.request ≡ id = ap (λ (w : Waiting). id_in w.request) kept.same ∙ due.about in
      let lacks : Lacks kept.request = (
        λ message same. due.asks message (ap (λ (w : Waiting). w.request) (sym kept.same) ∙ same ∙ ap (λ (i : ℕ). Submit i message) about),
        λ majority. due.lacking (subst (λ (w : Waiting). Majority setup.nodes (HasTold a.received (name_of setup.node a w))) kept.same majority),
      ) in
      let same : ask_act kept.request ≡ Asks id ticket = λ i. Asks (about i) ((ap (λ (w : Waiting). w.ticket) kept.same ∙ due.ticket_is) i) in
      subst (λ (act : Act). In act (ask_acts untold)) same
      (reverse_in (ask_act kept.request) (map ask_act untold)
      (mapped_in ask_act untold kept.request
      (filter_in (is_untold setup.nodes) held kept.request kept.among ((untold_decides kept.request kept.among).1 lacks))))
  due_all act due = absurd due

  pub asks_due : AreDue Due (ask_acts untold)
  asks_due = record {
    each = λ act. (due_only act, due_all act);
    order = acts_fall ask_act (λ h. refl) untold (ascend_kept (is_untold setup.nodes) held ascends);
  }

  pub asks_may : (s : Node) → s.actor ≡ a → 1 ≤ setup.node → setup.node ≤ setup.nodes → a.up ≡ true → IsRunAlone setup.nodes setup.node s (ask_acts untold)
  asks_may s same least most at_work = each untold (λ h among. among)
    where
      each : (some : List Held) → ((h : Held) → In h some → In h untold) → IsRunAlone setup.nodes setup.node s (ask_acts some)
      each [] within = tt
      each (h ∷ some) within =
          subst (IsRunAlone setup.nodes setup.node s) (sym (ask_first h some))
          (run_more setup.nodes setup.node s (ask_acts some) (ask_act h ∷ [])
          (each some (λ it among. within it (inr among))) (
            record {
              least = least;
              most = most;
              up = ap (λ (x : Actor). x.up) same ∙ at_work;
              needs = record {
                waiting = h.waiting;
                waits = subst (λ (x : Actor). In h.waiting x.waiting) (sym same) (is_due h (within h (inl refl))).waits;
                ticket_is = refl;
                about = refl;
              };
            },
            tt,
          ))
