-- The step of a node to which a Tell comes.
use Rattle.std.proofs.Common.{◌≡◌, ◌↔◌, ◌⊎◌, ℕ, ◌<◌, Bool, true, false, cond, List, [], ◌∷◌, length, map, Option, Some, None, refl, sym, ap, subst, ◌∙◌}
use Rattle.std.proofs.Common.{inl, inr, arith}
use Rattle.std.specs.Prelude.{◌==◌, ◌&&◌, filter, if◌then◌else◌, nat_lt, not}
use Rattle.std.specs.Bool.{Decides}
use Rattle.std.specs.Option.{is_none}
use Rattle.std.specs.List.Sorted.{IsStrictlyIncreasing}
use Rattle.std.proofs.lemmas.Bool.{and_parts, eqb-false, eqb-true, not-true, true≢false}
use Rattle.std.proofs.lemmas.Bool.Decides.{Decides-and, Decides-eqb, Decides-ltb}
use Rattle.mc_model.specs.message.Ids.{IsNode}
use Rattle.mc_model.specs.message.Submission.{Submission}
use Rattle.mc_model.specs.message.Decree.{Decree}
use Rattle.mc_model.specs.message.Chain.{taken_in}
use Rattle.mc_model.specs.synod.Lists.{In}
use Rattle.mc_model.specs.synod.Majority.{Majority}
use Rattle.mc_model.specs.synod.Packet.{Name, Packet, Tell, TopVote, slot_at, top_at}
use Rattle.mc_model.specs.node.Act.{Act, Proposes, Reports}
use Rattle.mc_model.specs.node.Actor.{Actor, Waiting, id_in, name_of}
use Rattle.mc_model.specs.node.Alone.{Node, StandsAt}
use Rattle.mc_model.specs.node.Causes.{Causes, CausesDelete, CausesFollow, ShowsMore}
use Rattle.mc_model.specs.node.Concerns.{Concerns, IsMember, TellsAbout}
use Rattle.mc_model.specs.node.Input.{Delivery}
use Rattle.mc_model.specs.node.Knowledge.{IsKnown, Knows}
use Rattle.mc_model.specs.node.Phases.{DueToPropose, DueToReport}
use Rattle.mc_model.specs.node.Replies.{Answer}
use Rattle.mc_model.specs.node.Rules.{FitsDelete, IsAhead, IsHighest, ToldBy}
use Rattle.mc_model.specs.node.Setup.{Setup}
use Rattle.mc_model.specs.node.Settling.{HasTold, IsReached}
use Rattle.mc_parts.proofs.Known.{knows_one}
use Rattle.mc_parts.proofs.Tellings.{unannounced}
use Rattle.node_model.specs.Answers.{answer_to, replied}
use Rattle.node_model.specs.Kept.{Held, Kept, message_at}
use Rattle.node_model.specs.Outputs.{leaves, sends}
use Rattle.node_model.specs.Packets.{answer_told, is_member, is_own_name, on_tell, start_told, tell_held, tells_about, told_to}
use Rattle.node_model.specs.Proposer.{Prepared, Start, started}
use Rattle.node_model.specs.Requests.{Ascend, held_at, id_of, is_cancel, is_settled, settled_by, settles, ticket_of, told_by, with_held}
use Rattle.node_model.specs.Sets.{is_majority}
use Rattle.node_model.specs.Starts.{delete_for, delete_of, follow, follow_told, is_ahead}
use Rattle.node_model.specs.Stepped.{stepped}
use Rattle.node_laws.specs.Stands.{Agrees, IsFit, IsHeld, IsHighestTold, IsWithin, Stands}
use Rattle.node_laws.specs.Steps.{IsAtWork, StepsAs}
use Rattle.node_laws.proofs.step.AcceptorSteps.{member_is, member_test, stepped_is}
use Rattle.node_laws.proofs.invariant.Answered.{known_is, settled_decides}
use Rattle.node_laws.proofs.step.AsideSteps.{ignored}
use Rattle.node_laws.proofs.invariant.Deciding.{IsCalm, calm_of, known_for}
use Rattle.node_laws.proofs.invariant.Hearing.{received}
use Rattle.node_laws.proofs.invariant.Held.{kept_as, waits_among}
use Rattle.node_laws.proofs.invariant.Learning.{majority_decides}
use Rattle.node_laws.proofs.invariant.Orders.{ascend_from, below_in, one_of_ticket}
use Rattle.node_laws.proofs.step.Plain.{plain_steps}
use Rattle.node_laws.proofs.step.Busy.{busy_steps, same_id}
use Rattle.node_laws.proofs.invariant.Decided.{Decided}
use Rattle.node_laws.proofs.step.Deleting.{deletes_start}
use Rattle.node_laws.proofs.step.KnownRules.{delete_decided}
use Rattle.node_laws.proofs.invariant.Replied.{cancels_of, replies_of, waits_on}
use Rattle.node_laws.proofs.invariant.Settled.{all_settled, settled_agrees}
use Rattle.node_laws.proofs.step.FollowRule.{ahead_decides, told_highest}
use Rattle.node_laws.proofs.step.Started.{IsDueStart, IsStartOf, StartsAs, behind_stood, started_as}
use Rattle.node_laws.proofs.invariant.Waiting.{waits}
use Rattle.mc_parts.proofs.Membership.{of_only}
use Rattle.node_laws.proofs.invariant.Told.{IsFound, agrees_told, found_at, in_with, none_at, tickets_with, told_now, told_other, waiting_with, with_in}

module _ (setup : Setup) (k : Kept) (s : Node) (stands : Stands setup k s) (teller : ℕ) (name : Name) (told : Option TopVote) where
  abbrev packet : Packet
  packet = Tell teller name told

  abbrev t : Node
  t = received s packet

  -- the name is of the questions of this node in this incarnation
  abbrev IsOwnName : Type 0
  IsOwnName = (name.node ≡ setup.node) × (name.incarnation ≡ s.actor.incarnation)

  pub own_decides : Decides (is_own_name setup k name) IsOwnName
  own_decides =
      let is = Decides-and _ _ (Decides-eqb name.node setup.node) (Decides-eqb name.incarnation k.incarnation) in
      let same = stands.agrees.incarnation in
      (λ passes. let both = is.0 passes in (both.0, both.1 ∙ same), λ own. is.1 (own.0, own.1 ∙ sym same))

  unproposed : (act : Act) → DueToPropose setup.nodes setup.node s.actor t.actor act → ⊥
  unproposed (Proposes slot vote) due = due.0.new (record {
    test = due.0.promised.test;
    most = due.0.promised.most;
    each = λ acceptor least within passes.
        let promise = due.0.promised.each acceptor least within passes in
        (promise.0, elim promise.1 [ inl same ↦ absurd (cc) | inr before ↦ before ]);
  })
  unproposed act due = due

  -- ---- to no request that waits

  module _ (nobody : (h : Held) → In h k.held → name_of setup.node s.actor h.waiting ≡ name → ⊥) (fits : IsFit setup.node s.actor packet)
      (concerned : Concerns setup.nodes setup.node s.actor packet) where
    follows_nothing : (id place : ℕ) (chain : List Decree) → CausesFollow setup.nodes setup.node s.actor t.actor (Delivery packet) id place chain → ⊥
    follows_nothing id place chain follows =
        let it = follows.1 in
        let kept = kept_as k.held it.waiting (subst (λ (ws : List Waiting). In it.waiting ws) (sym stands.agrees.waiting) it.waits) in
        nobody kept.request kept.among (ap (name_of setup.node s.actor) kept.same ∙ sym it.named)

    aside_steps : IsAtWork setup s → StepsAs setup s (Delivery packet) (leaves k)
    aside_steps works =
        plain_steps setup k s stands packet follows_nothing k
        (agrees_told setup k s teller name told k.held stands.agrees fits stands.agrees.waiting
        (λ h among. told_other s.actor.received name (name_of setup.node s.actor h.waiting) teller told h (nobody h among) (stands.agrees.told h among))
        stands.agrees.tickets stands.agrees.given)
        (record { held = refl; known = λ id. refl }) works concerned refl unproposed

  -- ---- to a request that waits

  module _ (works : IsAtWork setup s) (mine : IsNode setup.node) (member : IsMember setup.nodes teller) (own : IsOwnName) (within : IsWithin told)
      (h : Held) (found : IsFound k.held name.ticket h) (about : TellsAbout told (id_of h)) where
    abbrev id : ℕ
    id = id_of h

    abbrev new0 : Held
    new0 = told_by h teller told

    abbrev k1 : Kept
    k1 = record k { held = with_held k.held new0 }

    ascends : Ascend k.held
    ascends = ascend_from k.held stands.agrees.tickets

    calm : IsCalm setup.nodes k
    calm = calm_of setup k s stands.agrees stands.quiet

    -- a request of this ticket is this one
    only_one : (g : Held) → In g k.held → ticket_of g ≡ ticket_of h → g ≡ h
    only_one g among same = one_of_ticket k.held ascends g h among found.among same

    name_is : name_of setup.node s.actor h.waiting ≡ name
    name_is = λ i. record { node = sym own.0 i; incarnation = sym own.1 i; ticket = found.ticket_is i }

    -- one of another ticket has another name
    other_name : (g : Held) → (ticket_of g ≡ ticket_of h → ⊥) → name_of setup.node s.actor g.waiting ≡ name → ⊥
    other_name g apart same = apart (ap (λ (n : Name). n.ticket) same ∙ sym found.ticket_is)

    below : ticket_of h < s.actor.ticket
    below = let less = stands.agrees.given h found.among in let same = stands.agrees.ticket in omega arith

    fits : IsFit setup.node s.actor packet
    fits = (within, λ node incarnation. let less = below in let same = found.ticket_is in omega arith)

    concerned : Concerns setup.nodes setup.node s.actor packet
    concerned = (
      member,
      λ node incarnation. record {
        given = let less = below in let same = found.ticket_is in omega arith;
        about = λ waiting waits ticket.
            let kept = kept_as k.held waiting (subst (λ (ws : List Waiting). In waiting ws) (sym stands.agrees.waiting) waits) in
            let one : kept.request ≡ h = only_one kept.request kept.among (ap (λ (w : Waiting). w.ticket) kept.same ∙ ticket ∙ sym found.ticket_is) in
            subst (TellsAbout told) (ap id_of (sym one) ∙ ap (λ (w : Waiting). id_in w.request) kept.same) about;
      },
    )

    about_is : (it : Option TopVote) → told ≡ it → (top : TopVote) → it ≡ Some top → top.id ≡ id
    about_is None is top same = absurd (cc)
    about_is (Some other) is top same =
        let one : other ≡ top = cc in
        let of : TellsAbout (Some other) id = subst (λ (x : Option TopVote). TellsAbout x id) is about in
        ap (λ (x : TopVote). x.id) (sym one) ∙ of

    new_held : IsHeld t.actor.received name new0
    new_held =
        told_now s.actor.received name teller told h (subst (λ (n : Name). IsHeld s.actor.received n h) name_is (stands.agrees.told h found.among))
        (λ top same. about_is told refl top same)

    told_all : (g : Held) → In g (with_held k.held new0) → IsHeld t.actor.received (name_of setup.node s.actor g.waiting) g
    told_all g among = elim (in_with k.held new0 g among) [
      | inl same ↦
          subst (λ (x : Held). IsHeld t.actor.received (name_of setup.node s.actor x.waiting) x) (sym same)
          (subst (λ (n : Name). IsHeld t.actor.received n new0) (sym name_is) new_held)
      | inr other ↦ told_other s.actor.received name (name_of setup.node s.actor g.waiting) teller told g (other_name g other.1) (stands.agrees.told g other.0)
    ]

    given_all : (g : Held) → In g (with_held k.held new0) → ticket_of g < k.ticket
    given_all g among = elim (in_with k.held new0 g among) [
      | inl same ↦ let less = stands.agrees.given h found.among in let at : ticket_of g ≡ ticket_of h = ap ticket_of same in omega arith
      | inr other ↦ stands.agrees.given g other.0
    ]

    agrees : Agrees setup k1 t
    agrees = agrees_told setup k s teller name told (with_held k.held new0) stands.agrees fits
        (waiting_with k.held new0 (λ g among same. ap (λ (x : Held). x.waiting) (only_one g among same)) ∙ stands.agrees.waiting)
        told_all
        (subst IsStrictlyIncreasing (sym (tickets_with k.held new0)) stands.agrees.tickets)
        given_all

    -- ---- it is settled, or not

    abbrev known : Option (List Decree)
    known = (message_at k id).known

    abbrev new : Held
    new = settled_by setup.nodes known new0

    abbrev N : ℕ
    N = id_of new

    about_new : N ≡ id
    about_new = same_id setup.nodes known new0

    ticket_new : ticket_of new ≡ ticket_of h
    ticket_new = by_test (settles setup.nodes known new0)
      where
        by_test : (test : Bool) → ticket_of (if test then record new0 { waiting = record new0.waiting { settled = true } } else new0) ≡ ticket_of h
        by_test true = refl
        by_test false = refl

    abbrev held_2 : List Held
    held_2 = all_settled setup.nodes k1

    settled_same : (g : Held) → In g k.held →
        settled_by setup.nodes (known_for k1 (if ticket_of g == ticket_of new0 then new0 else g)) (if ticket_of g == ticket_of new0 then new0 else g) ≡
        (if ticket_of g == ticket_of new then new else g)
    settled_same g among =
        by_ticket (ticket_of g == ticket_of new0)
        ∙ ap (λ (n : ℕ). if ticket_of g == n then new else g) (sym ticket_new)
      where
        by_ticket : (test : Bool) → settled_by setup.nodes (known_for k1 (if test then new0 else g)) (if test then new0 else g) ≡ (if test then new else g)
        by_ticket true = refl
        by_ticket false =
            ap (λ (b : Bool). if b then record g { waiting = record g.waiting { settled = true } } else g) (calm.settled g among)

    held_from : (held : List Held) → ((g : Held) → In g held → In g k.held) →
        map (λ g. settled_by setup.nodes (known_for k1 g) g) (with_held held new0) ≡ with_held held new
    held_from [] among = refl
    held_from (g ∷ others) among = λ i. settled_same g (among g (inl refl)) i ∷ held_from others (λ it is_in. among it (inr is_in)) i

    held_same : held_2 ≡ with_held k.held new
    held_same = held_from k.held (λ g among. among)

    abbrev k_2 : Kept
    k_2 = record k1 { held = held_2 }

    abbrev s_2 : Node
    s_2 = waits setup t (map (λ g. g.waiting) held_2)

    agrees_2 : Agrees setup k_2 s_2
    agrees_2 = settled_agrees setup k1 t agrees (record { least = works.least; most = works.most; up = works.up })

    new_among : In new held_2
    new_among = subst (In new) (sym held_same) (with_in k.held new h found.among (sym ticket_new))

    in_held : (g : Held) → In g held_2 → (g ≡ new) ⊎ (In g k.held × (ticket_of g ≡ ticket_of new → ⊥))
    in_held g among = in_with k.held new g (subst (In g) held_same among)

    new_waits : In new.waiting s_2.actor.waiting
    new_waits = waits_among held_2 new new_among

    -- a request that waits now is this one, or waited before
    waited : (w : Waiting) → In w s_2.actor.waiting → (w ≡ new.waiting) ⊎ (In w s.actor.waiting × (w.ticket ≡ ticket_of new → ⊥))
    waited w waits =
        let kept = kept_as held_2 w waits in
        elim (in_held kept.request kept.among) [
          | inl same ↦ inl (sym kept.same ∙ ap (λ (g : Held). g.waiting) same)
          | inr other ↦ inr (
            subst (λ (x : Waiting). In x s.actor.waiting) kept.same (subst (λ (ws : List Waiting). In kept.request.waiting ws) stands.agrees.waiting
                (waits_among k.held kept.request other.0)),
            λ same. other.1 (ap (λ (x : Waiting). x.ticket) kept.same ∙ same),
          )
        ]

    h_waits : In h.waiting s.actor.waiting
    h_waits = subst (λ (ws : List Waiting). In h.waiting ws) stands.agrees.waiting (waits_among k.held h found.among)

    new_told : IsHeld t.actor.received name new
    new_told =
        subst (λ (n : Name). IsHeld t.actor.received n new)
        (ap (λ (n : ℕ). record { node = setup.node; incarnation = s.actor.incarnation; ticket = n }) ticket_new ∙ name_is)
        (agrees_2.told new new_among)

    knew : (other : ℕ) (chain : List Decree) → Knows setup.nodes t.actor.received other chain → Knows setup.nodes s.actor.received other chain
    knew other chain knows =
        let is : (message_at k other).known ≡ Some chain = known_is setup.nodes other t.actor.received (message_at k other).known chain
        (agrees.message other).heard.known knows in
        subst (IsKnown setup.nodes s.actor.received other) is (stands.agrees.message other).heard.known

    known_now : IsKnown setup.nodes t.actor.received N known
    known_now = subst (λ (i : ℕ). IsKnown setup.nodes t.actor.received i known) (sym about_new) (agrees.message id).heard.known

    known_one : (chain : List Decree) → Knows setup.nodes t.actor.received N chain → known ≡ Some chain
    known_one chain knows = known_is setup.nodes N t.actor.received known chain known_now knows

    -- ---- rounds that are due

    abbrev Starts : ℕ → ℕ → List Decree → Type 0
    Starts other place chain = Causes setup.nodes setup.node s.actor s_2.actor (Delivery packet) other place chain

    abbrev Shows : ℕ → ℕ → List Decree → Type 0
    Shows other place chain = ShowsMore setup.nodes setup.node s_2.actor name other place chain

    abbrev Deletes : ℕ → ℕ → List Decree → Type 0
    Deletes other place chain = CausesDelete setup.nodes setup.node s.actor s_2.actor other place chain

    either_of : (other place : ℕ) (chain : List Decree) → Starts other place chain → Shows other place chain ⊎ Deletes other place chain
    either_of other place chain (inl take) = absurd take
    either_of other place chain (inr (inl close)) = absurd close
    either_of other place chain (inr (inr (inl follows))) = inl follows.1
    either_of other place chain (inr (inr (inr (inl deletes)))) = inr deletes
    either_of other place chain (inr (inr (inr (inr tells)))) = absurd (unannounced setup.nodes setup.node s.actor s_2.actor other place chain
        (knew other) tells)

    -- only by this request
    shows_this : (other place : ℕ) (chain : List Decree) → Shows other place chain → other ≡ N
    shows_this other place chain it = elim (waited it.waiting it.waits) [
      | inl same ↦ sym it.about ∙ ap (λ (w : Waiting). id_in w.request) same
      | inr before ↦ absurd (before.1 (sym (ap (λ (n : Name). n.ticket) it.named) ∙ sym found.ticket_is ∙ sym ticket_new))
    ]

    deletes_by : (other place : ℕ) (chain : List Decree) → (it : Deletes other place chain) → it.deletes.cancelled.waiting ≡ new.waiting
    deletes_by other place chain it =
        let c = it.deletes.cancelled in
        elim (waited c.waiting c.waits) [
          | inl same ↦ same
          | inr before ↦ absurd (it.new (record { waiting = c.waiting; waits = before.0; ticket_is = refl; settled = c.settled })
              (knew other _ it.deletes.further.known))
        ]

    deletes_this : (other place : ℕ) (chain : List Decree) → Deletes other place chain → other ≡ N
    deletes_this other place chain it =
        let c = it.deletes.cancelled in
        sym (cancels_of c.waiting.request other it.deletes.further.taken c.cancels) ∙ ap (λ (w : Waiting). id_in w.request) (deletes_by other place chain it)

    -- it was not settled before
    deletes_fresh : (other place : ℕ) (chain : List Decree) → Deletes other place chain → h.waiting.settled ≡ true → ⊥
    deletes_fresh other place chain it settled =
        it.new (record {
          waiting = h.waiting;
          waits = h_waits;
          ticket_is = sym ticket_new ∙ ap (λ (w : Waiting). w.ticket) (sym (deletes_by other place chain it));
          settled = settled;
        }) (knew other _ it.deletes.further.known)

    elsewhere : (other place : ℕ) (chain : List Decree) → Starts other place chain → other ≡ N
    elsewhere other place chain starts = elim (either_of other place chain starts) [
      | inl shows ↦ shows_this other place chain shows
      | inr deletes ↦ deletes_this other place chain deletes
    ]

    -- ---- it is settled now: its message may be deleted

    module _ (settling : settles setup.nodes known new0 ≡ true) where
      unsettled : h.waiting.settled ≡ false
      unsettled =
          let parts = and_parts (is_cancel h.waiting.request) (not h.waiting.settled && is_settled setup.nodes known new0) settling in
          let others = and_parts (not h.waiting.settled) (is_settled setup.nodes known new0) parts.1 in
          not-true h.waiting.settled others.0

      reached : (from : ℕ) (it : Option TopVote) → In (Tell from name it) t.actor.received → IsReached known it
      reached =
          let parts = and_parts (is_cancel h.waiting.request) (not h.waiting.settled && is_settled setup.nodes known new0) settling in
          let others = and_parts (not h.waiting.settled) (is_settled setup.nodes known new0) parts.1 in
          ((settled_decides setup.nodes t.actor.received name new0 new_held known).0 others.1).reached

      beyond : (it : Option (List Decree)) → known ≡ it → (place : ℕ) (top : TopVote) → top.place ≡ place → IsReached it (Some top) →
          IsAhead setup.nodes s_2.actor N place → ⊥
      beyond None is place top at reached ahead = reached
      beyond (Some chain) is place top at reached ahead =
          let above = ahead chain (subst (IsKnown setup.nodes t.actor.received N) is known_now) in
          omega arith

      shows_none : (place : ℕ) (chain : List Decree) → Shows N place chain → ⊥
      shows_none place chain it =
          let shown = it.highest.shown in
          beyond known refl place (top_at (slot_at N place) it.vote) refl (reached shown.teller (Some (top_at (slot_at N place) it.vote)) shown.heard) it.ahead

      -- the actor for which this request alone waits
      abbrev alone : Actor
      alone = record s_2.actor { waiting = new.waiting ∷ [] }

      fits_alone : (place : ℕ) (chain : List Decree) → Deletes N place chain → FitsDelete setup.nodes setup.node alone N place chain
      fits_alone place chain it =
          let g = it.deletes.further in
          let c = it.deletes.cancelled in
          record {
            further = record {
              newest = g.newest;
              older = g.older;
              taken = g.taken;
              known = g.known;
              behind = g.behind;
              message = g.message;
              chain_is = g.chain_is;
            };
            idle = it.deletes.idle;
            cancelled = record { waiting = c.waiting; waits = inl (deletes_by N place chain it); settled = c.settled; cancels = c.cancels };
          }

      abbrev fits_among : (place : ℕ) (chain : List Decree) → FitsDelete setup.nodes setup.node alone N place chain →
          FitsDelete setup.nodes setup.node s_2.actor N place chain
      fits_among place chain fits =
          let g = fits.further in
          let c = fits.cancelled in
          record {
            further = record {
              newest = g.newest;
              older = g.older;
              taken = g.taken;
              known = g.known;
              behind = g.behind;
              message = g.message;
              chain_is = g.chain_is;
            };
            idle = fits.idle;
            cancelled = record {
              waiting = c.waiting;
              waits = of_only (λ w. In w s_2.actor.waiting) new.waiting c.waiting new_waits c.waits;
              settled = c.settled;
              cancels = c.cancels;
            };
          }

      deletes_now : (place : ℕ) (chain : List Decree) → FitsDelete setup.nodes setup.node alone N place chain → Deletes N place chain
      deletes_now place chain fits = record {
        deletes = fits_among place chain fits;
        new = λ was knows.
            let at : fits.cancelled.waiting.ticket ≡ ticket_of h = of_only
            (λ w. w.ticket ≡ ticket_of h) new.waiting fits.cancelled.waiting ticket_new fits.cancelled.waits in
            let kept = kept_as k.held was.waiting (subst (λ (ws : List Waiting). In was.waiting ws) (sym stands.agrees.waiting) was.waits) in
            let one : kept.request ≡ h = only_one kept.request kept.among (ap (λ (w : Waiting). w.ticket) kept.same ∙ was.ticket_is ∙ at) in
            let settled : h.waiting.settled ≡ true = ap (λ (x : Held). x.waiting.settled) (sym one) ∙ ap (λ (w : Waiting). w.settled) kept.same ∙ was.settled in
            true≢false (sym settled ∙ unsettled);
      }

      one_place : (place at : ℕ) (chain of : List Decree) → FitsDelete setup.nodes setup.node alone N place chain →
          FitsDelete setup.nodes setup.node alone N at of → at ≡ place
      one_place place at chain of fits other =
          let same : other.further.newest ∷ other.further.older ≡ fits.further.newest ∷ fits.further.older =
          knows_one setup.nodes t.actor.received N (other.further.newest ∷ other.further.older)
          (fits.further.newest ∷ fits.further.older) other.further.known fits.further.known in
          other.further.behind ∙ ap length same ∙ sym fits.further.behind

      starts_alone : (place : ℕ) (chain : List Decree) → Starts N place chain → FitsDelete setup.nodes setup.node alone N place chain
      starts_alone place chain starts = elim (either_of N place chain starts) [
        | inl shows ↦ absurd (shows_none place chain shows)
        | inr deletes ↦ fits_alone place chain deletes
      ]

      decided_start : (start : Option Start) → Decided start (FitsDelete setup.nodes setup.node alone N) → IsStartOf setup s_2 N (Starts N) start
      decided_start None none = λ place chain starts. none place chain (starts_alone place chain starts)
      decided_start (Some start) fits =
          deletes_start setup s_2 agrees_2.coherent N (Starts N) start (inr (inr (inr (inl (deletes_now start.place start.chain fits)))))
          (λ place chain starts. one_place start.place place start.chain chain fits (starts_alone place chain starts)) (fits_among start.place start.chain fits)

      none_taken : (chain : List Decree) → known ≡ Some chain → taken_in chain ≡ None → (place : ℕ) (of : List Decree) →
          FitsDelete setup.nodes setup.node alone N place of → ⊥
      none_taken chain is none place of fits =
          let some : Some (fits.further.newest ∷ fits.further.older) ≡ Some chain =
          sym (known_one (fits.further.newest ∷ fits.further.older) fits.further.known) ∙ is in
          let same : fits.further.newest ∷ fits.further.older ≡ chain = cc in
          let both : Some fits.further.taken ≡ None = sym fits.further.message ∙ ap taken_in same ∙ none in
          absurd (cc)

      delete_taken : (newest : Decree) (older : List Decree) → known ≡ Some (newest ∷ older) → (taken : Option Submission) → taken_in (newest ∷ older) ≡ taken →
          Decided (delete_of setup k N (new ∷ []) newest older taken) (FitsDelete setup.nodes setup.node alone N)
      delete_taken newest older is None none = none_taken (newest ∷ older) is none
      delete_taken newest older is (Some taken) message =
          delete_decided setup alone (record k { held = new ∷ [] }) N stands.agrees.incarnation stands.agrees.clock newest older taken
          (subst (IsKnown setup.nodes t.actor.received N) is known_now) message refl

      delete_is : (it : Option (List Decree)) → known ≡ it → Decided (delete_for setup k N (new ∷ []) it) (FitsDelete setup.nodes setup.node alone N)
      delete_is None is = λ place chain fits. let both : None ≡ Some (fits.further.newest ∷ fits.further.older) = sym is
          ∙ known_one (fits.further.newest ∷ fits.further.older) fits.further.known in absurd (cc)
      delete_is (Some []) is = none_taken [] is refl
      delete_is (Some (newest ∷ older)) is = delete_taken newest older is (taken_in (newest ∷ older)) refl

      settling_start : IsStartOf setup s_2 N (Starts N) (delete_for setup k N (new ∷ []) known)
      settling_start = decided_start (delete_for setup k N (new ∷ []) known) (delete_is known refl)

    -- ---- it is not: what more was told may be followed

    module _ (settling : settles setup.nodes known new0 ≡ false) where
      new_still : new ≡ new0
      new_still = ap (λ (b : Bool). if b then record new0 { waiting = record new0.waiting { settled = true } } else new0) settling

      deletes_none : (place : ℕ) (chain : List Decree) → Deletes N place chain → ⊥
      deletes_none place chain it =
          deletes_fresh N place chain it
          (ap (λ (x : Held). x.waiting.settled) (sym new_still) ∙ ap (λ (w : Waiting). w.settled) (sym (deletes_by N place chain it))
          ∙ it.deletes.cancelled.settled)

      highest_of : (top : TopVote) → IsHighestTold t.actor.received name (Some top) → IsHighest (ToldBy s_2.actor name N) top.place top.vote
      highest_of top = told_highest s_2.actor name N new_told.about (Some top)

      abbrev ahead_at : (place : ℕ) → Decides (is_ahead known place) (IsAhead setup.nodes s_2.actor N place)
      ahead_at place = ahead_decides setup.nodes N s_2.actor known place known_now

      most_decides : (is_majority setup.nodes new.tellers ≡ true) ↔ Majority setup.nodes (HasTold t.actor.received name)
      most_decides = majority_decides setup.nodes (HasTold t.actor.received name) new.tellers new_told.tellers

      abbrev followed : TopVote → Start
      followed top = record { place = top.place; chain = top.vote.chain }

      shows_now : is_majority setup.nodes new.tellers ≡ true → (top : TopVote) → IsHighestTold t.actor.received name (Some top) →
          IsAhead setup.nodes s_2.actor N top.place → Shows N top.place top.vote.chain
      shows_now most top highest ahead = record {
        waiting = new.waiting;
        vote = top.vote;
        waits = new_waits;
        named = sym name_is ∙ ap (λ (n : ℕ). record { node = setup.node; incarnation = s.actor.incarnation; ticket = n }) (sym ticket_new);
        about = refl;
        majority = most_decides.0 most;
        highest = highest_of top highest;
        ahead = ahead;
        chain_is = refl;
      }

      follow_start : is_majority setup.nodes new.tellers ≡ true → (top : TopVote) → IsHighestTold t.actor.received name (Some top) →
          IsAhead setup.nodes s_2.actor N top.place →
          IsDueStart setup s_2 N (Starts N) (followed top)
      follow_start most top highest ahead =
          let shown = (highest_of top highest).shown in
          let stood : StandsAt s_2 (slot_at N top.place) top.vote.chain = inr (inr (inr (inl (shown.teller, name, top.vote.ballot, shown.heard)))) in
          record {
            due = inr (inr (inl (concerned, shows_now most top highest ahead)));
            only = λ place chain starts. elim (either_of N place chain starts) [
              | inl it ↦
                  let up = (highest_of top highest).place_most place it.vote (record { teller = it.highest.shown.teller; heard = it.highest.shown.heard }) in
                  let down = it.highest.place_most top.place top.vote (record { teller = shown.teller; heard = shown.heard }) in
                  omega arith
              | inr deletes ↦ absurd (deletes_none place chain deletes)
            ];
            within = (agrees_2.coherent.fits (Tell highest.told.0 name (Some top)) highest.told.1).0;
            ahead = ahead;
            free = inl stood;
            behind = behind_stood setup.nodes N s_2.actor.received (StandsAt s_2 (slot_at N top.place) top.vote.chain) top.vote.chain stood;
          }

      none_shown : ((place : ℕ) (chain : List Decree) → Shows N place chain → ⊥) → (place : ℕ) (chain : List Decree) → Starts N place chain → ⊥
      none_shown none place chain starts = elim (either_of N place chain starts) [
        | inl shows ↦ none place chain shows
        | inr deletes ↦
            deletes_none place chain deletes
      ]

      by_ahead : is_majority setup.nodes new.tellers ≡ true → (top : TopVote) → IsHighestTold t.actor.received name (Some top) → (ahead : Bool) →
          is_ahead known top.place ≡ ahead →
          IsStartOf setup s_2 N (Starts N) (if ahead then Some (followed top) else None)
      by_ahead most top highest true is = follow_start most top highest ((ahead_at top.place).0 is)
      by_ahead most top highest false is = none_shown (λ place chain it.
          let shown = (highest_of top highest).shown in
          let up = (highest_of top highest).place_most place it.vote (record { teller = it.highest.shown.teller; heard = it.highest.shown.heard }) in
          let down = it.highest.place_most top.place top.vote (record { teller = shown.teller; heard = shown.heard }) in
          let same : place ≡ top.place = omega arith in
          true≢false (sym ((ahead_at top.place).1 (subst (IsAhead setup.nodes s_2.actor N) same it.ahead)) ∙ is))

      by_top : is_majority setup.nodes new.tellers ≡ true → (top : Option TopVote) → IsHighestTold t.actor.received name top →
          IsStartOf setup s_2 N (Starts N) (follow known top)
      by_top most None none = none_shown (λ place chain it. none it.highest.shown.teller (top_at (slot_at N place) it.vote) it.highest.shown.heard)
      by_top most (Some top) highest = by_ahead most top highest (is_ahead known top.place) refl

      by_majority : (most : Bool) → is_majority setup.nodes new.tellers ≡ most → IsStartOf setup s_2 N (Starts N) (if most then follow known new.top else None)
      by_majority true most = by_top most new.top new_told.top
      by_majority false few = none_shown (λ place chain it.
          true≢false (sym (most_decides.1 (record {
            test = it.majority.test;
            most = it.majority.most;
            each = it.majority.each;
          })) ∙ few))

      following_start : IsStartOf setup s_2 N (Starts N) (follow_told setup.nodes known new)
      following_start = by_majority (is_majority setup.nodes new.tellers) refl

    -- ---- what starts

    abbrev start : Option Start
    start = start_told setup k known new0 new

    start_is : IsStartOf setup s_2 N (Starts N) start
    start_is = by_test (settles setup.nodes known new0) refl
      where
        by_test : (test : Bool) → settles setup.nodes known new0 ≡ test →
            IsStartOf setup s_2 N (Starts N) (if test then delete_for setup k N (new ∷ []) known else follow_told setup.nodes known new)
        by_test true settling = settling_start settling
        by_test false settling = following_start settling

    starts : StartsAs setup k_2 s_2 N (Starts N) (started setup k_2 N start)
    starts = started_as setup k_2 s_2 agrees_2 mine (record { least = works.least; most = works.most; up = works.up }) N (Starts N) start start_is

    unproposed_2 : (act : Act) → DueToPropose setup.nodes setup.node s.actor s_2.actor act → ⊥
    unproposed_2 (Proposes slot vote) due = due.0.new (record {
      test = due.0.promised.test;
      most = due.0.promised.most;
      each = λ acceptor least within_all passes.
          let promise = due.0.promised.each acceptor least within_all passes in
          (promise.0, elim promise.1 [ inl same ↦ absurd (cc) | inr before ↦ before ]);
    })
    unproposed_2 act due = due

    unreported : (act : Act) → DueToReport setup.nodes setup.node s.actor t.actor act → ⊥
    unreported (Reports other chain) due = due.new (knew other chain due.known)
    unreported act due = due

    -- ---- who is answered

    abbrev answer_2 : Held → Option Answer
    answer_2 g = answer_to setup.nodes (known_for k_2 g) g

    answer_new : answer_2 new ≡ answer_to setup.nodes known new
    answer_new = ap (λ (i : ℕ). answer_to setup.nodes (message_at k i).known new) about_new

    answer_other : (g : Held) → In g k.held → answer_2 g ≡ None
    answer_other g among = calm.answered g among

    abbrev is_this : Held → Bool
    is_this g = not (ticket_of g == ticket_of new)

    -- of these requests this one alone is answered, if it is
    apart_true : (g : Held) → (ticket_of g ≡ ticket_of new → ⊥) → is_this g ≡ true
    apart_true g apart = by_test (ticket_of g == ticket_of new) refl
      where
        by_test : (test : Bool) → (ticket_of g == ticket_of new) ≡ test → not test ≡ true
        by_test true same = absurd (apart (eqb-true (ticket_of g) (ticket_of new) same))
        by_test false differs = refl

    own_false : is_this new ≡ false
    own_false = by_test (ticket_of new == ticket_of new) refl
      where
        by_test : (test : Bool) → (ticket_of new == ticket_of new) ≡ test → not test ≡ false
        by_test true same = refl
        by_test false differs = absurd (eqb-false (ticket_of new) (ticket_of new) differs refl)

    none_left : (held : List Held) → ((g : Held) → In g held → answer_2 g ≡ None) → filter (waits_on answer_2) held ≡ held
    none_left [] none = refl
    none_left (g ∷ others) none =
        ap (λ (x : Option Answer). cond (is_none x) (g ∷ filter (waits_on answer_2) others) (filter (waits_on answer_2) others)) (none g (inl refl))
        ∙ ap (λ (gs : List Held). g ∷ gs) (none_left others (λ it among. none it (inr among)))

    none_replied : (held : List Held) → ((g : Held) → In g held → answer_2 g ≡ None) → replies_of answer_2 held ≡ []
    none_replied [] none = refl
    none_replied (g ∷ others) none =
        ap (λ (x : Option Answer). replied g x (replies_of answer_2 others)) (none g (inl refl)) ∙ none_replied others (λ it among. none it (inr among))

    others_left : (it : Answer) → answer_2 new ≡ Some it → (held : List Held) →
        ((g : Held) → In g held → (g ≡ new) ⊎ (In g k.held × (ticket_of g ≡ ticket_of new → ⊥))) →
        filter (waits_on answer_2) held ≡ filter is_this held
    others_left it is [] each = refl
    others_left it is (g ∷ others) each =
        (λ i. cond (head (each g (inl refl)) i) (g ∷ others_left it is others (λ x among. each x (inr among)) i)
        (others_left it is others (λ x among. each x (inr among)) i))
      where
        head : (g ≡ new) ⊎ (In g k.held × (ticket_of g ≡ ticket_of new → ⊥)) → waits_on answer_2 g ≡ is_this g
        head (inl same) = subst (λ (x : Held). waits_on answer_2 x ≡ is_this x) (sym same) (ap is_none is ∙ sym own_false)
        head (inr other) = ap is_none (answer_other g other.0) ∙ sym (apart_true g other.1)

    one_replied : (it : Answer) → answer_2 new ≡ Some it → (held : List Held) → Ascend held →
        ((g : Held) → In g held → (g ≡ new) ⊎ (In g k.held × (ticket_of g ≡ ticket_of new → ⊥))) → In new held →
        replies_of answer_2 held ≡ replied new (Some it) []
    one_replied it is [] ascends each none = absurd none
    one_replied it is (g ∷ others) ascends each (inl first) =
        (λ i. replied (sym first i) (answer_2 (sym first i)) (none_replied others none_other i)) ∙ ap (λ (x : Option Answer). replied new x []) is
      where
        none_other : (x : Held) → In x others → answer_2 x ≡ None
        none_other x among = elim (each x (inr among)) [
          | inl same ↦ let less = below_in (ticket_of g) others ascends.0 x among in let at : ticket_of x ≡ ticket_of g = ap ticket_of (same ∙ first) in absurd (omega arith)
          | inr other ↦ answer_other x other.0
        ]
    one_replied it is (g ∷ others) ascends each (inr later) = elim (each g (inl refl)) [
      | inl same ↦ let less = below_in (ticket_of g) others ascends.0 new later in let at : ticket_of g ≡ ticket_of new = ap ticket_of same in absurd (omega arith)
      | inr other ↦
          ap (λ (x : Option Answer). replied g x (replies_of answer_2 others)) (answer_other g other.0)
          ∙ one_replied it is others ascends.1 (λ x among. each x (inr among)) later
    ]

    -- ---- the step

    abbrev after : Prepared
    after = started setup k_2 N start

    all_none : answer_to setup.nodes known new ≡ None → (g : Held) → In g held_2 → answer_2 g ≡ None
    all_none none g among = elim (in_held g among) [
      | inl same ↦ ap answer_2 same ∙ answer_new ∙ none
      | inr other ↦ answer_other g other.0
    ]

    same_step : (x : Option Answer) → answer_to setup.nodes known new ≡ x →
        sends (record after.kept { held = filter (waits_on answer_2) after.kept.held }) after.packets
        (replies_of answer_2 after.kept.held) [] ≡ answer_told after new x
    same_step None none =
        let held_is : filter (waits_on answer_2) after.kept.held ≡ after.kept.held =
        ap (filter (waits_on answer_2)) starts.held ∙ none_left held_2 (all_none none) ∙ sym starts.held in
        let replies_are : replies_of answer_2 after.kept.held ≡ [] = ap (replies_of answer_2) starts.held ∙ none_replied held_2 (all_none none) in
        λ i. sends (record after.kept { held = held_is i }) after.packets (replies_are i) []
    same_step (Some it) is =
        let held_is : filter (waits_on answer_2) after.kept.held ≡ filter is_this after.kept.held =
        ap (filter (waits_on answer_2)) starts.held ∙ others_left it (answer_new ∙ is) held_2 in_held ∙ ap (filter is_this) (sym starts.held) in
        let replies_are : replies_of answer_2 after.kept.held ≡ replied new (Some it) [] =
        ap (replies_of answer_2) starts.held ∙ one_replied it (answer_new ∙ is) held_2 (ascend_from held_2 agrees_2.tickets) in_held new_among in
        λ i. sends (record after.kept { held = held_is i }) after.packets (replies_are i) []

    told_steps : StepsAs setup s (Delivery packet) (told_to setup k known new0)
    told_steps =
        subst (λ (held : List Held). StepsAs setup s (Delivery packet) (answer_told (started setup (record k { held = held }) N start) new
        (answer_to setup.nodes known new))) held_same
        (subst (StepsAs setup s (Delivery packet)) (same_step (answer_to setup.nodes known new) refl)
        (busy_steps setup k s stands works packet concerned refl k1 agrees N after starts elsewhere unproposed_2 None unreported))

  -- ---- any Tell

  pub tells_decides : (it : Option TopVote) (of : ℕ) → Decides (tells_about it of) (TellsAbout it of)
  tells_decides None of = ((λ passes. tt), (λ about. refl))
  tells_decides (Some top) of = Decides-eqb top.id of

  by_held : (works : IsAtWork setup s) → IsNode setup.node → IsMember setup.nodes teller → IsOwnName → IsWithin told → (it : Option Held) →
      held_at k.held name.ticket ≡ it →
      StepsAs setup s (Delivery packet) (tell_held setup k teller told it)
  by_held works mine member own within None none = by_ticket (nat_lt name.ticket k.ticket) refl
    where
      nobody : (h : Held) → In h k.held → name_of setup.node s.actor h.waiting ≡ name → ⊥
      nobody h among same = none_at k.held name.ticket none h among (ap (λ (n : Name). n.ticket) same)

      by_ticket : (given : Bool) → nat_lt name.ticket k.ticket ≡ given → StepsAs setup s (Delivery packet) (leaves k)
      by_ticket true given =
          let below : name.ticket < s.actor.ticket = let less = (Decides-ltb name.ticket k.ticket).0 given in let same = stands.agrees.ticket in omega arith in
          aside_steps nobody (within, λ node incarnation. below) (
            member,
            λ node incarnation. record {
              given = below;
              about = λ waiting waits ticket.
                  let kept = kept_as k.held waiting (subst (λ (ws : List Waiting). In waiting ws) (sym stands.agrees.waiting) waits) in
                  absurd (none_at k.held name.ticket none kept.request kept.among (ap (λ (w : Waiting). w.ticket) kept.same ∙ ticket));
            },
          ) works
      by_ticket false not_yet = ignored setup s k stands packet (λ concerned.
          let less = (concerned.1 own.0 own.1).given in
          let same = stands.agrees.ticket in
          true≢false (sym ((Decides-ltb name.ticket k.ticket).1 (omega arith)) ∙ not_yet))
  by_held works mine member own within (Some h) is = by_about (tells_about told (id_of h)) refl
    where
      found : IsFound k.held name.ticket h
      found = found_at k.held name.ticket h is

      by_about : (about : Bool) → tells_about told (id_of h) ≡ about →
          StepsAs setup s (Delivery packet) (if about then told_to setup k (message_at k (id_of h)).known (told_by h teller told) else leaves k)
      by_about true about = told_steps works mine member own within h found ((tells_decides told (id_of h)).0 about)
      by_about false other = ignored setup s k stands packet (λ concerned.
          true≢false (sym ((tells_decides told (id_of h)).1 ((concerned.1 own.0 own.1).about h.waiting
          (subst (λ (ws : List Waiting). In h.waiting ws) stands.agrees.waiting (waits_among k.held h found.among)) found.ticket_is)) ∙ other))

  by_name : (works : IsAtWork setup s) → IsNode setup.node → IsMember setup.nodes teller → IsWithin told → (own : Bool) → is_own_name setup k name ≡ own →
      StepsAs setup s (Delivery packet) (if own then tell_held setup k teller told (held_at k.held name.ticket) else leaves k)
  by_name works mine member within true own = by_held works mine member (own_decides.0 own) within (held_at k.held name.ticket) refl
  by_name works mine member within false strange =
      let none : IsOwnName → ⊥ = λ own. true≢false (sym (own_decides.1 own) ∙ strange) in
      aside_steps
      (λ h among same. none (ap (λ (n : Name). n.node) (sym same), ap (λ (n : Name). n.incarnation) (sym same)))
      (within, λ node incarnation. absurd (none (node, incarnation)))
      (member, λ node incarnation. absurd (none (node, incarnation)))
      works

  pub tell_steps : IsWithin told → IsAtWork setup s → IsNode setup.node → StepsAs setup s (Delivery packet) (stepped setup k (Delivery packet))
  tell_steps within works mine = subst (StepsAs setup s (Delivery packet)) (sym (stepped_is setup k s packet stands works))
      (by_member (is_member setup teller) refl)
    where
      by_member : (member : Bool) → is_member setup teller ≡ member →
          StepsAs setup s (Delivery packet) (if member then on_tell setup k teller name told else leaves k)
      by_member true is = by_name works mine (member_is setup teller is) within (is_own_name setup k name) refl
      by_member false is = ignored setup s k stands packet (λ concerned. true≢false (sym (member_test setup teller concerned.0) ∙ is))
