-- A part of a journal goes on with the run that leads to it, and with another part.
use Rattle.std.proofs.Common.{ℕ, Bool, List, [], ◌∷◌, ◌++◌, length, Option, Some, None, IfSome, sym, ap, subst, ◌∙◌, inl, inr, arith}
use Rattle.std.proofs.Common.{append_assoc, length-append}
use Rattle.std.specs.Prelude.{reverse}
use Rattle.mc_model.specs.synod.Packet.{Packet}
use Rattle.mc_model.specs.cluster.Steps.{Cluster, setup_of}
use Rattle.mc_parts.proofs.Membership.{in_either}
use Rattle.node_model.specs.Kept.{Kept}
use Rattle.node_laws.specs.Clusters.{NodeInput, kept_reached}
use Rattle.world_runs.specs.Step.{Step}
use Rattle.world_runs.specs.Step.TheVariants as steps
use Rattle.journal_laws.specs.Journals.{CameAsSent, Done, Entry, HasItsNumber, IsJournal, IsOwnRun, WereSent, done_in, entries_at, packets_sent}
use Rattle.journal_laws.specs.OldStores.{IsJournalOver, kept_opened, openings}
use Rattle.journal_laws.specs.Parts.{IsPart, LeadTo}
use Rattle.journal_laws.proofs.Joining.{at_both, done_both, own_both, sent_both}
use Rattle.journal_laws.proofs.OldStores.{leads_over}

-- ---- packets are numbered on

numbered_on : (old sent : List Packet) (number : ℕ) (packet : Packet) → HasItsNumber 0 sent number packet →
    HasItsNumber (length old) (sent ++ old) number packet
numbered_on old sent number packet is =
    let place = is.1.number_is in
    let more = length-append is.1.older old in (
      is.0,
      record {
        newer = is.1.newer;
        older = is.1.older ++ old;
        split = ap (λ (ps : List Packet). ps ++ old) is.1.split ∙ append_assoc is.1.newer (packet ∷ is.1.older) old;
        number_is = omega arith;
      },
    )

came_on : (old sent : List Packet) (step : Step) (packet : Option Packet) → IfSome packet (CameAsSent 0 sent step) →
    IfSome packet (CameAsSent (length old) (sent ++ old) step)
came_on old sent step None was = record {}
came_on old sent (steps.Deliver number node) (Some packet) was = numbered_on old sent number packet was
came_on old sent (steps.Crash node number found) (Some packet) was = numbered_on old sent number packet was
came_on old sent (steps.Request node account request) (Some packet) was = record {}
came_on old sent (steps.Tick node moment reach) (Some packet) was = record {}
came_on old sent (steps.Grant node id) (Some packet) was = record {}
came_on old sent (steps.Answered node slot outcome) (Some packet) was = record {}
came_on old sent (steps.Restart node) (Some packet) was = record {}

pub sent_on : (old sent : List Packet) (taken : List Done) → WereSent 0 sent taken → WereSent (length old) (sent ++ old) taken
sent_on old sent [] were = record {}
sent_on old sent (done ∷ later) were = (
  came_on old sent done.step done.packet were.0,
  subst (λ (ps : List Packet). WereSent (length old) ps later) (append_assoc (reverse done.sent) sent old)
      (sent_on old (reverse done.sent ++ sent) later were.1),
)

-- ---- parts

pub journal_of_part : (cluster : Cluster) (behind : List Packet) (inputs : List NodeInput) (kept : ℕ → Kept) (packets : List Packet) (entries : List Entry)
    (ends : ℕ → Kept) → LeadTo cluster behind inputs kept packets → IsPart cluster kept packets entries ends → IsJournal cluster behind inputs entries ends
journal_of_part cluster behind inputs kept packets entries ends lead part = record {
  few = part.few;
  may = lead.may;
  nodes = part.nodes;
  own = λ node within.
      subst (λ (k : Kept). IsOwnRun (setup_of cluster node) k (done_in (entries_at node entries)) (ends node)) (sym (lead.is_kept node within))
      (part.own node within);
  sent = subst (λ (ps : List Packet). WereSent (length behind) ps (done_in entries)) (sym lead.are_sent)
      (sent_on behind packets (done_in entries) part.sent);
}

pub parts_go_on : (cluster : Cluster) (kept middles ends : ℕ → Kept) (packets : List Packet) (first second : List Entry) →
    IsPart cluster kept packets first middles → IsPart cluster middles (reverse (packets_sent first) ++ packets) second ends →
    IsPart cluster kept packets (first ++ second) ends
parts_go_on cluster kept middles ends packets first second one other = record {
  few = one.few;
  nodes = λ entry among. elim (in_either entry first second among) [ inl here ↦ one.nodes entry here | inr later ↦ other.nodes entry later ];
  own = λ node within.
      subst (λ (ds : List Done). IsOwnRun (setup_of cluster node) (kept node) ds (ends node)) (sym (at_both node first second))
      (own_both (setup_of cluster node) (kept node) (middles node) (ends node) (done_in (entries_at node first)) (done_in (entries_at node second))
      (one.own node within) (other.own node within));
  sent = subst (λ (ds : List Done). WereSent 0 packets ds) (sym (done_both first second))
      (sent_both 0 packets (done_in first) (done_in second) one.sent other.sent);
}

-- ---- over old stores

pub goes_over : (cluster : Cluster) (inputs : List NodeInput) (fresh : ℕ → Bool) (lost : ℕ → ℕ) (entries : List Entry) (ends : ℕ → Kept) →
    IsJournalOver cluster inputs fresh lost entries ends →
    IsJournal cluster (kept_reached cluster inputs).packets (openings fresh lost cluster.nodes ++ inputs) entries ends
goes_over cluster inputs fresh lost entries ends is =
    journal_of_part cluster (kept_reached cluster inputs).packets (openings fresh lost cluster.nodes ++ inputs) (kept_opened cluster inputs fresh lost) []
    entries ends (leads_over cluster inputs fresh lost is.left) (record { few = is.left.few; nodes = is.nodes; own = is.own; sent = is.sent })
