-- Journals one after the other, and a journal cut in two.
use Rattle.std.proofs.Common.{◌≡◌, ℕ, Bool, true, false, List, [], ◌∷◌, ◌++◌, length, refl, sym, ap, subst, ◌∙◌, inl, inr, arith}
use Rattle.std.specs.Prelude.{reverse, nat_le, ◌&&◌, ◌==◌}
use Rattle.std.specs.List.{flat_map}
use Rattle.std.proofs.lemmas.Bool.Decides.{nat_tests}
use Rattle.std.proofs.lemmas.Grind.{flat_map-append}
use Rattle.std.proofs.lemmas.List.Elements.{filter-append}
use Rattle.mc_model.specs.synod.Packet.{Packet}
use Rattle.mc_model.specs.node.Setup.{Setup}
use Rattle.mc_model.specs.cluster.Steps.{Cluster, setup_of}
use Rattle.mc_parts.proofs.Membership.{in_either, in_left, in_right}
use Rattle.node_model.specs.Kept.{Kept}
use Rattle.node_model.specs.Stepped.{stepped}
use Rattle.node_laws.specs.Clusters.{NodeInput, kept_reached}
use Rattle.world_runs.specs.Taking.{node_at}
use Rattle.journal_laws.specs.Journals.{Done, Entry, IsInRange, IsJournal, IsOwnRun, RunsOn, WereSent, done_in, entries_at, packets_sent, steps_for}
use Rattle.journal_laws.specs.Joining.{IsCut}
use Rattle.journal_laws.proofs.Running.{packets_more, runs_on}

-- ---- the steps of both

pub done_both : (first second : List Entry) → done_in (first ++ second) ≡ done_in first ++ done_in second
done_both first second = flat_map-append (λ entry. steps_for entry.done entry.unfinished) first second

pub at_both : (node : ℕ) (first second : List Entry) →
    done_in (entries_at node (first ++ second)) ≡ done_in (entries_at node first) ++ done_in (entries_at node second)
at_both node first second =
    ap done_in (filter-append (λ entry. node_at entry.done.step == node) first second) ∙ done_both (entries_at node first) (entries_at node second)

-- ---- runs of one node

module _ (setup : Setup) where
  pub own_both : (k middle last : Kept) (first second : List Done) → IsOwnRun setup k first middle → IsOwnRun setup middle second last →
      IsOwnRun setup k (first ++ second) last
  own_both k middle last [] second same own = subst (λ (from : Kept). IsOwnRun setup from second last) same own
  own_both k middle last (done ∷ first) second one own = (one.0, own_both (stepped setup k one.0.input).kept middle last first second one.1 own)

  pub own_cut : (k last : Kept) (first second : List Done) → IsOwnRun setup k (first ++ second) last →
      (middle : Kept) × IsOwnRun setup k first middle × IsOwnRun setup middle second last
  own_cut k last [] second own = (k, refl, own)
  own_cut k last (done ∷ first) second own =
      let it = own_cut (stepped setup k own.0.input).kept last first second own.1 in (it.0, (own.0, it.1), it.2)

-- ---- packets

abbrev pub sent_by : List Done → List Packet
sent_by taken = flat_map (λ done. done.sent) taken

pub sent_both : (behind : ℕ) (sent : List Packet) (first second : List Done) → WereSent behind sent first →
    WereSent behind (reverse (sent_by first) ++ sent) second → WereSent behind sent (first ++ second)
sent_both behind sent [] second one other = other
sent_both behind sent (done ∷ first) second one other = (
  one.0,
  sent_both behind (reverse done.sent ++ sent) first second one.1
      (subst (λ (ps : List Packet). WereSent behind ps second) (sym (packets_more sent done.sent (sent_by first) done.sent refl)) other),
)

pub sent_cut : (behind : ℕ) (sent : List Packet) (first second : List Done) → WereSent behind sent (first ++ second) →
    WereSent behind sent first × WereSent behind (reverse (sent_by first) ++ sent) second
sent_cut behind sent [] second were = (record {}, were)
sent_cut behind sent (done ∷ first) second were =
    let it = sent_cut behind (reverse done.sent ++ sent) first second were.1 in
    ((were.0, it.0), subst (λ (ps : List Packet). WereSent behind ps second) (packets_more sent done.sent (sent_by first) done.sent refl) it.1)

-- ---- journals

module _ (cluster : Cluster) (behind : List Packet) (inputs : List NodeInput) where
  pub both : (first second : List Entry) (middles ends : ℕ → Kept) → IsJournal cluster behind inputs first middles →
      (way : RunsOn cluster behind inputs first middles) → IsJournal cluster behind way.last second ends →
      IsJournal cluster behind inputs (first ++ second) ends
  both first second middles ends one way other = record {
    few = one.few;
    may = one.may;
    nodes = λ entry among. elim (in_either entry first second among) [ inl here ↦ one.nodes entry here | inr later ↦ other.nodes entry later ];
    own = λ node within.
        subst (λ (ds : List Done). IsOwnRun (setup_of cluster node) ((kept_reached cluster inputs).kept node) ds (ends node)) (sym (at_both node first second))
        (own_both (setup_of cluster node) ((kept_reached cluster inputs).kept node) (middles node) (ends node) (done_in (entries_at node first))
        (done_in (entries_at node second)) (one.own node within)
        (subst (λ (k : Kept). IsOwnRun (setup_of cluster node) k (done_in (entries_at node second)) (ends node)) (way.kept node within)
        (other.own node within)));
    sent =
        subst (λ (ds : List Done). WereSent (length behind) (kept_reached cluster inputs).packets ds) (sym (done_both first second))
        (sent_both (length behind) (kept_reached cluster inputs).packets (done_in first) (done_in second) one.sent
        (subst (λ (ps : List Packet). WereSent (length behind) ps (done_in second)) way.packets other.sent));
  }

  module _ (first second : List Entry) (ends : ℕ → Kept) (is : IsJournal cluster behind inputs (first ++ second) ends) where
    abbrev within : ℕ → Bool
    within node = nat_le 1 node && nat_le node cluster.nodes

    own_parts : (node : ℕ) → IsInRange cluster node →
        (middle : Kept) × IsOwnRun (setup_of cluster node) ((kept_reached cluster inputs).kept node) (done_in (entries_at node first)) middle
        × IsOwnRun (setup_of cluster node) middle (done_in (entries_at node second)) (ends node)
    own_parts node one =
        own_cut (setup_of cluster node) ((kept_reached cluster inputs).kept node) (ends node) (done_in (entries_at node first))
        (done_in (entries_at node second))
        (subst (λ (ds : List Done). IsOwnRun (setup_of cluster node) ((kept_reached cluster inputs).kept node) ds (ends node)) (at_both node first second)
        (is.own node one))

    range_of : (node : ℕ) → within node ≡ true → IsInRange cluster node
    range_of node test = (grind (arith, nat_tests), grind (arith, nat_tests))

    -- what a node keeps between the two
    middle_at : (node : ℕ) (b : Bool) → within node ≡ b → Kept
    middle_at node true test = (own_parts node (range_of node test)).0
    middle_at node false test = (kept_reached cluster inputs).kept node

    parts_at : (node : ℕ) (b : Bool) (test : within node ≡ b) → IsInRange cluster node →
        IsOwnRun (setup_of cluster node) ((kept_reached cluster inputs).kept node) (done_in (entries_at node first)) (middle_at node b test)
        × IsOwnRun (setup_of cluster node) (middle_at node b test) (done_in (entries_at node second)) (ends node)
    unfolding middle_at
    parts_at node true test one = let it = own_parts node (range_of node test) in (it.1, it.2)
    parts_at node false test one = let least = one.0 in let most = one.1 in absurd (grind (arith, nat_tests))

    abbrev middles : ℕ → Kept
    middles node = middle_at node (within node) refl

    sent_parts : WereSent (length behind) (kept_reached cluster inputs).packets (done_in first)
        × WereSent (length behind) (reverse (packets_sent first) ++ (kept_reached cluster inputs).packets) (done_in second)
    sent_parts =
        sent_cut (length behind) (kept_reached cluster inputs).packets (done_in first) (done_in second)
        (subst (λ (ds : List Done). WereSent (length behind) (kept_reached cluster inputs).packets ds) (done_both first second) is.sent)

    front : IsJournal cluster behind inputs first middles
    front = record {
      few = is.few;
      may = is.may;
      nodes = λ entry among. is.nodes entry (in_left entry first second among);
      own = λ node one. (parts_at node (within node) refl one).0;
      sent = sent_parts.0;
    }

    way : RunsOn cluster behind inputs first middles
    way = runs_on cluster behind inputs first middles front

    pub cut : IsCut cluster behind inputs first second ends
    cut = record {
      middles = middles;
      front = front;
      way = way;
      rest = record {
        few = is.few;
        may = way.may;
        nodes = λ entry among. is.nodes entry (in_right entry first second among);
        own = λ node one.
            subst (λ (k : Kept). IsOwnRun (setup_of cluster node) k (done_in (entries_at node second)) (ends node)) (sym (way.kept node one))
            (parts_at node (within node) refl one).1;
        sent = subst (λ (ps : List Packet). WereSent (length behind) ps (done_in second)) (sym way.packets) sent_parts.1;
      };
    }
