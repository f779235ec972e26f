-- The requests that waited too long are answered so, by ascending tickets, and wait no more.
use Rattle.std.proofs.Common.{◌≡◌, ℕ, ◌+◌, ◌≤◌, Bool, true, false, cond, List, [], ◌∷◌, map, Option, Some, None, refl, sym, ap, subst, ◌∙◌}
use Rattle.std.specs.Prelude.{filter, if◌then◌else◌, not, reverse}
use Rattle.std.specs.Option.{is_none}
use Rattle.mc_model.specs.node.Reach.{Reach}
use Rattle.mc_model.specs.synod.Lists.{In}
use Rattle.mc_model.specs.node.Act.{Act, Replies}
use Rattle.mc_model.specs.node.Actor.{Actor, Waiting, id_in}
use Rattle.mc_model.specs.node.Alone.{IsRunAlone, Node, reached_alone}
use Rattle.mc_model.specs.node.Due.{AreDue}
use Rattle.mc_model.specs.node.Input.{Tick}
use Rattle.mc_model.specs.node.Outputs.{Reply, replies_in}
use Rattle.mc_model.specs.node.Phases.{DueToEnd}
use Rattle.mc_model.specs.node.Replies.{Answer, IsAnswer, TooLate, longest_wait}
use Rattle.mc_model.specs.node.Setup.{Setup}
use Rattle.node_model.specs.Kept.{Held}
use Rattle.node_model.specs.Requests.{Ascend, id_of, ticket_of}
use Rattle.node_model.specs.Answers.{replied}
use Rattle.node_model.specs.Ticks.{is_late, late_reply}
use Rattle.node_model.proofs.Decisions.{nat_le_decides}
use Rattle.node_laws.specs.Steps.{IsAtWork}
use Rattle.node_laws.proofs.invariant.Held.{kept_as, waits_among}
use Rattle.node_laws.proofs.invariant.Replied.{in_replied, reached_replies, replied_in, replies_fall, replies_of, replies_out, reply_acts, run_replies, waits_on, without}
use Rattle.node_laws.proofs.invariant.Replied.{without_all}

-- by the clock, a request that is late is answered that it is too late
abbrev too_late : Bool → Option Answer
too_late late = if late then Some TooLate else None

abbrev pub late_answer : ℕ → Held → Option Answer
late_answer clock h = too_late (is_late clock h)

late_of : (late : Bool) (it : Answer) → too_late late ≡ Some it → (late ≡ true) × (it ≡ TooLate)
late_of true it is = (refl, cc)
late_of false it is = absurd (cc)

-- those that are not late wait on
pub late_waits : (clock : ℕ) (held : List Held) → filter (waits_on (late_answer clock)) held ≡ filter (λ h. not (is_late clock h)) held
late_waits clock held = λ i. filter (λ h. by_test (is_late clock h) i) held
  where
    by_test : (late : Bool) → is_none (too_late late) ≡ not late
    by_test true = refl
    by_test false = refl

late_replies_of : (clock : ℕ) (held : List Held) → replies_of (late_answer clock) held ≡ map late_reply (filter (is_late clock) held)
late_replies_of clock [] = refl
late_replies_of clock (h ∷ held) = by_test (is_late clock h) (late_replies_of clock held)
  where
    by_test : (late : Bool) → replies_of (late_answer clock) held ≡ map late_reply (filter (is_late clock) held) →
        replied h (too_late late) (replies_of (late_answer clock) held) ≡
        map late_reply (cond late (h ∷ filter (is_late clock) held) (filter (is_late clock) held))
    by_test true rest = ap (λ (rs : List Reply). late_reply h ∷ rs) rest
    by_test false rest = rest

pub late_replies : (clock : ℕ) (held : List Held) → reverse (replies_in (reply_acts (late_answer clock) held)) ≡ map late_reply (filter (is_late clock) held)
late_replies clock held = replies_out (late_answer clock) held ∙ late_replies_of clock held

-- ---- they are due, in this order, and may be given

module _ (a : Actor) (held : List Held) (waiting : map (λ h. h.waiting) held ≡ a.waiting) (ascends : Ascend held) where
  abbrev late : List Act
  late = reply_acts (late_answer a.clock) held

  waited : (h : Held) → is_late a.clock h ≡ true → h.waiting.since + longest_wait ≤ a.clock
  waited h = (nat_le_decides (h.waiting.since + longest_wait) a.clock).0

  waits_here : (h : Held) → In h held → In h.waiting a.waiting
  waits_here h among = subst (λ (ws : List Waiting). In h.waiting ws) waiting (waits_among held h among)

  module _ (moment : ℕ) (reach : Reach) where
    abbrev Due : Act → Type 0
    Due = DueToEnd (Tick moment reach) a

    due_only : (act : Act) → In act late → Due act
    due_only act is_in =
        let it = replied_in (late_answer a.clock) held act is_in in
        let of = late_of (is_late a.clock it.request) it.with it.answers in
        subst Due (sym (it.is ∙ ap (Replies (ticket_of it.request) (id_of it.request)) of.1)) (record {
          asked = record { waiting = it.request.waiting; waits = waits_here it.request it.among; ticket_is = refl; about = refl };
          late = waited it.request of.0;
        })

    due_all : (act : Act) → Due act → In act late
    due_all (Replies ticket id TooLate) due =
        let kept = kept_as held due.asked.waiting (subst (λ (ws : List Waiting). In due.asked.waiting ws) (sym waiting) due.asked.waits) in
        let is : is_late a.clock kept.request ≡ true =
        (nat_le_decides (kept.request.waiting.since + longest_wait) a.clock).1
        (subst (λ (w : Waiting). w.since + longest_wait ≤ a.clock) (sym kept.same) due.late) in
        let same : Replies (ticket_of kept.request) (id_of kept.request) TooLate ≡ Replies ticket id TooLate =
        λ i. Replies ((ap (λ (w : Waiting). w.ticket) kept.same ∙ due.asked.ticket_is) i)
        ((ap (λ (w : Waiting). id_in w.request) kept.same ∙ due.asked.about) i) TooLate in
        subst (λ (act : Act). In act late) same (in_replied (late_answer a.clock) held kept.request TooLate kept.among (ap too_late is))
    due_all act due = absurd due

    pub late_due : AreDue Due late
    late_due = record { each = λ act. (due_only act, due_all act); order = replies_fall (late_answer a.clock) held ascends }

  pub late_may : (setup : Setup) (s : Node) → s.actor ≡ a → IsAtWork setup s → IsRunAlone setup.nodes setup.node s late
  late_may setup s same works =
      run_replies (late_answer a.clock) setup s held ascends works
      (λ h among. subst (λ (x : Actor). In h.waiting x.waiting) (sym same) (waits_here h among))
      (λ h it among answers ws.
      let of = late_of (is_late a.clock h) it answers in
      let enough : h.waiting.since + longest_wait ≤ s.actor.clock =
      subst (λ (x : Actor). h.waiting.since + longest_wait ≤ x.clock) (sym same) (waited h of.0) in
      subst (IsAnswer setup.nodes setup.node (record s.actor { waiting = ws }) h.waiting) (sym of.1) enough)

  -- those that are not late wait on
  pub late_lead : (node : ℕ) (s : Node) → s.actor ≡ a →
      reached_alone node s late ≡ record {
        actor = record s.actor { waiting = map (λ h. h.waiting) (filter (λ h. not (is_late a.clock h)) held) };
        records = s.records;
        began = s.began;
      }
  late_lead node s same =
      reached_replies (late_answer a.clock) node s held
      ∙ ap (λ (ws : List Waiting). record { actor = record s.actor { waiting = ws }; records = s.records; began = s.began })
      (ap (without (late_answer a.clock) held) (ap (λ (x : Actor). x.waiting) same ∙ sym waiting)
      ∙ without_all (late_answer a.clock) held ascends
      ∙ ap (map (λ h. h.waiting)) (late_waits a.clock held))
