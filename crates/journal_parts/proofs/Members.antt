-- A node and its own entries, from one step to the next.
use Rattle.std.proofs.Common.{◌≡◌, ℕ, false, List, [], ◌∷◌, ◌++◌, None, refl, sym, ap, subst, ◌∙◌, inl, inr, arith}
use Rattle.mc_model.specs.synod.Lists.{In}
use Rattle.mc_model.specs.node.Input.{Input}
use Rattle.mc_model.specs.node.Setup.{Setup}
use Rattle.mc_model.specs.cluster.Steps.{Cluster, setup_of}
use Rattle.mc_parts.proofs.Membership.{in_either}
use Rattle.node_model.specs.Kept.{Kept}
use Rattle.node_model.specs.Stepped.{stepped}
use Rattle.stable_store.specs.Stored.{Stored}
use Rattle.node_entry.specs.Taking.{node_at}
use Rattle.node_core.specs.Input.{Input as Given}
use Rattle.node_core.specs.Keeping.{kept_of}
use Rattle.node_core.specs.Kept.{Kept as Holding}
use Rattle.node_core.specs.Nodes.{Standing}
use Rattle.node_core.specs.Steps.{input_of}
use Rattle.journal_laws.specs.Journals.{Entry, IsInRange, IsOwnRun, done_in}
use Rattle.journal_laws.proofs.Growing.{one_more}
use Rattle.journal_parts.specs.declared.done.Done.{Done as Taken}
use Rattle.journal_parts.specs.Entries.{done_of}
use Rattle.journal_parts.specs.Members.{IsBeginning, IsMember, IsReady, Posted, Rests, Takes, packet_halted}

module _ {S : Type 0} (stored : S → Stored) (cluster : Cluster) (kept : ℕ → Kept) where
  -- It took a step that was prepared, and its entry stands behind its own.
  pub member_more : (old new : Posted S) (own : List Entry) (input : Given) (done : Taken) (entry : Entry) → IsMember stored cluster kept old own →
      old.astray ≡ false → IsReady old.node.kept.setup (kept_of old.node.kept) input done → entry ≡ record { done = done_of done; unfinished = None } →
      node_at done.step ≡ old.node.kept.setup.node → Takes stored old input new → IsMember stored cluster kept new (own ++ entry ∷ [])
  member_more old new own input done entry member sound ready is at took = record {
    within = subst (λ (s : Setup). IsInRange cluster s.node) (sym took.setup) member.within;
    setup = subst (λ (s : Setup). s ≡ setup_of cluster s.node) (sym took.setup) member.setup;
    entries = λ one among. elim (in_either one own (entry ∷ []) among) [
      | inl here ↦ member.entries one here ∙ ap (λ (s : Setup). s.node) (sym took.setup)
      | inr last ↦ at_last one last
    ];
    halts = took.unfinished ∙ member.halts ∙ ap packet_halted (sym took.halted);
    ends = kept_of new.node.kept;
    runs = λ none.
        let before = member.runs (omega (arith, none, took.doubt)) in
        subst (λ (s : Setup). IsOwnRun s (kept s.node) (done_in (own ++ entry ∷ [])) (kept_of new.node.kept)) (sym took.setup)
        (subst (λ (k : Kept). IsOwnRun setup (kept setup.node) (done_in (own ++ entry ∷ [])) k) (sym took.kept)
        (subst (λ (e : Entry). IsOwnRun setup (kept setup.node) (done_in (own ++ e ∷ [])) (stepped setup here by).kept) (sym is)
        (one_more setup (kept setup.node) here by own (done_of done)
        (subst (λ (k : Kept). IsOwnRun setup (kept setup.node) (done_in own) k) (member.is_end sound) before) ready.taken)));
    is_end = λ still. refl;
  }
    where
      setup : Setup
      setup = old.node.kept.setup

      here : Kept
      here = kept_of old.node.kept

      by : Input
      by = input_of setup here input

      same_node : node_at done.step ≡ new.node.kept.setup.node
      same_node = at ∙ ap (λ (s : Setup). s.node) (sym took.setup)

      at_last : (one : Entry) → In one (entry ∷ []) → node_at one.done.step ≡ new.node.kept.setup.node
      at_last one (inl here) = ap (λ (e : Entry). node_at e.done.step) (here ∙ is) ∙ same_node
      at_last one (inr none) = absurd none

  -- It did not, and its own entries are the same.
  pub member_rests : (old new : Posted S) (own : List Entry) → IsMember stored cluster kept old own → Rests stored old new →
      IsMember stored cluster kept new own
  member_rests old new own member rests = record {
    within = subst (λ (k : Holding). IsInRange cluster k.setup.node) (sym rests.kept) member.within;
    setup = subst (λ (k : Holding). k.setup ≡ setup_of cluster k.setup.node) (sym rests.kept) member.setup;
    entries = λ one among. member.entries one among ∙ ap (λ (k : Holding). k.setup.node) (sym rests.kept);
    halts = rests.halts member.halts;
    ends = member.ends;
    runs = λ none.
        subst (λ (k : Holding). IsOwnRun k.setup (kept k.setup.node) (done_in own) member.ends) (sym rests.kept)
        (member.runs (omega (arith, none, rests.doubt)));
    is_end = λ still. member.is_end (sym rests.astray ∙ still) ∙ ap kept_of (sym rests.kept);
  }

  -- Where the journal begins it has no entry.
  pub member_begins : (node : Standing S) → IsBeginning cluster kept node →
      IsMember stored cluster kept (record { node = node; halted = None; astray = false }) []
  member_begins node begins = record {
    within = begins.within;
    setup = begins.setup;
    entries = λ one none. absurd none;
    halts = begins.finished;
    ends = kept_of node.kept;
    runs = λ undoubted. begins.begins;
    is_end = λ still. refl;
  }

  -- The node of one of its entries is one of the cluster.
  pub among_within : (post : Posted S) (own : List Entry) (entry : Entry) → IsMember stored cluster kept post own → In entry own →
      IsInRange cluster (node_at entry.done.step)
  among_within post own entry member among = subst (λ (n : ℕ). IsInRange cluster n) (sym (member.entries entry among)) member.within
