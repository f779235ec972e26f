-- Parts of a journal, one behind the other.
use Rattle.std.proofs.Common.{◌≡◌, ℕ, zero, suc, List, ◌++◌, refl, sym, ap, subst, ◌∙◌}
use Rattle.std.specs.Prelude.{reverse}
use Rattle.mc_model.specs.synod.Packet.{Packet}
use Rattle.mc_model.specs.cluster.Steps.{Cluster, setup_of}
use Rattle.node_model.specs.Kept.{Kept}
use Rattle.stable_store.specs.Stored.{Stored}
use Rattle.journal_laws.specs.Journals.{Entry, IsInRange, IsOwnRun, done_in, entries_at, packets_sent}
use Rattle.journal_laws.specs.Parts.{IsPart}
use Rattle.journal_laws.proofs.Joining.{done_both}
use Rattle.journal_laws.proofs.Parts.{journal_of_part, parts_go_on}
use Rattle.std.proofs.lemmas.Grind.{flat_map-append}
use Rattle.journal_laws.proofs.Running.{packets_more}
use Rattle.journal_laws.proofs.Telling.{keeps_promises}
use Rattle.journal_parts.specs.Closing.{AreSure, Closed, IsClosed, entries_in}
use Rattle.journal_parts.specs.GoingOn.{AreSound, kept_in, numbers_behind}
use Rattle.journal_parts.specs.Histories.{AreSureInAll, ClosesParts, KeepPromisesInAll, entries_of_all}
use Rattle.journal_parts.specs.Numbers.{HaveNumbers, Numbers}
use Rattle.journal_parts.proofs.GoingOn.{ends_there, numbers_go_on}

-- ---- the packets of both

sent_in_both : (first second : List Entry) → packets_sent (first ++ second) ≡ packets_sent first ++ packets_sent second
sent_in_both first second =
    ap (λ ds. Rattle.std.specs.List.flat_map (λ done. done.sent) ds) (done_both first second)
    ∙ flat_map-append (λ done. done.sent) (done_in first) (done_in second)

behind_both : (first second : List Entry) (packets : List Packet) →
    reverse (packets_sent second) ++ (reverse (packets_sent first) ++ packets) ≡ reverse (packets_sent (first ++ second)) ++ packets
behind_both first second packets =
    packets_more packets (packets_sent first) (packets_sent second) (packets_sent first) refl
    ∙ ap (λ (ps : List Packet). reverse ps ++ packets) (sym (sent_in_both first second))

module _ {S : Type 0} (stored : S → Stored) (cluster : Cluster) (kept : ℕ → Kept) (numbers : Numbers) where
  -- where a journal leads its nodes
  abbrev pub ends_of : (parts : ℕ) (closed : Closed S) → ClosesParts stored cluster kept numbers parts closed → ℕ → Kept
  ends_of zero closed closes = closes.ends
  ends_of (suc parts) closed (before, other, earlier, sound, closes) = closes.ends

  ends_go_on : (parts : ℕ) (closed : Closed S) (closes : ClosesParts stored cluster kept numbers parts closed) (other : Kept) → AreSound closed.posts →
      (node : ℕ) → IsInRange cluster node → ends_of parts closed closes node ≡ kept_in other closed.posts node
  ends_go_on zero closed closes other sound = ends_there stored cluster kept numbers closed other closes sound
  ends_go_on (suc parts) closed (before, another, earlier, still, closes) other sound =
      ends_there stored cluster (kept_in another before.posts) (numbers_behind before) closed other closes sound

  abbrev IsOne : (packets : List Packet) (parts : ℕ) (closed : Closed S) → ClosesParts stored cluster kept numbers parts closed → Type 0
  IsOne packets parts closed closes =
      let entries = entries_of_all stored cluster kept numbers parts closed closes in
      IsPart cluster kept packets entries (ends_of parts closed closes)
      × HaveNumbers (numbers_behind closed) (reverse (packets_sent entries) ++ packets)

  -- the part behind those that are one
  one_more : (packets : List Packet) (parts : ℕ) (before closed : Closed S) (other : Kept)
      (earlier : ClosesParts stored cluster kept numbers parts before) (sound : AreSound before.posts)
      (closes : IsClosed stored cluster (kept_in other before.posts) (numbers_behind before) closed) → AreSure stored closed.posts →
      IsOne packets parts before earlier → IsOne packets (suc parts) closed (before, other, earlier, sound, closes)
  one_more packets parts before closed other earlier sound closes sure one =
      let entries = entries_of_all stored cluster kept numbers parts before earlier in
      let behind = reverse (packets_sent entries) ++ packets in
      let part = closes.part sure behind one.1 in (
        parts_go_on cluster kept (ends_of parts before earlier) closes.ends packets entries (entries_in closed) one.0 (record {
          few = part.few;
          nodes = part.nodes;
          own = λ node within.
              subst (λ (k : Kept). IsOwnRun (setup_of cluster node) k (done_in (entries_at node (entries_in closed))) (closes.ends node))
              (sym (ends_go_on parts before earlier other sound node within)) (part.own node within);
          sent = part.sent;
        }),
        subst (λ (ps : List Packet). HaveNumbers (numbers_behind closed) ps) (behind_both entries (entries_in closed) packets)
            (numbers_go_on cluster (numbers_behind before) behind closed closes.register one.1),
      )

  pub all_are_one : (packets : List Packet) → HaveNumbers numbers packets → (parts : ℕ) (closed : Closed S)
      (closes : ClosesParts stored cluster kept numbers parts closed) → AreSureInAll stored cluster kept numbers parts closed closes →
      IsOne packets parts closed closes
  all_are_one packets have zero closed closes sure =
      (closes.part sure packets have, numbers_go_on cluster numbers packets closed closes.register have)
  all_are_one packets have (suc parts) closed (before, other, earlier, sound, closes) (certain, sure) =
      one_more packets parts before closed other earlier sound closes sure (all_are_one packets have parts before earlier certain)

  pub all_keep_promises : (parts : ℕ) (closed : Closed S) (closes : ClosesParts stored cluster kept numbers parts closed) →
      KeepPromisesInAll stored cluster kept numbers parts closed closes
  all_keep_promises parts closed closes sure packets have behind inputs lead =
      let entries = entries_of_all stored cluster kept numbers parts closed closes in
      let one = all_are_one packets have parts closed closes sure in
      keeps_promises cluster behind inputs entries (ends_of parts closed closes)
      (journal_of_part cluster behind inputs kept packets entries (ends_of parts closed closes) lead one.0)
