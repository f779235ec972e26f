-- The packets of a journal, by their numbers.
use Rattle.std.proofs.Common.{◌≡◌, ◌⊎◌, ℕ, zero, suc, ◌+◌, ◌≤◌, List, []}
use Rattle.std.proofs.Common.{◌∷◌, ◌++◌, length, get_or, true, Bor, Option, Some, None, IfSome}
use Rattle.std.proofs.Common.{refl, sym, ap, subst, ◌∙◌, inl, inr, arith, append_assoc, length-append, append-nil}
use Rattle.std.specs.Prelude.{nat_lt, option_map, reverse, slice_get}
use Rattle.std.specs.List.{flat_map}
use Rattle.std.proofs.lemmas.Grind.{flat_map-append}
use Rattle.std.proofs.lemmas.List.{length-reverse, map-append, reverse-append}
use Rattle.std.proofs.lemmas.Bool.Decides.{nat_tests}
use Rattle.std.proofs.lemmas.Option.{slice_get-map, slice_get_read}
use Rattle.std.specs.Option.{option_copied}
use Rattle.std.specs.Arc.{arc_value}
use Rattle.mc_model.specs.synod.Lists.{In}
use Rattle.mc_model.specs.synod.Packet.{Packet}
use Rattle.mc_model.specs.cluster.Steps.{Cluster}
use Rattle.mc_parts.proofs.Membership.{at_place, in_either}
use Rattle.sim_net.proofs.Numbers.{split_at}
use Rattle.synod_acceptor.specs.Packets.{packet_of}
use Rattle.synod_acceptor.specs.declared.packet.Packet.{Packet as Sent}
use Rattle.node_entry.specs.Taking.{node_at}
use Rattle.node_entry.specs.declared.step.Step.{Step}
use Rattle.node_entry.specs.declared.step.Step.TheVariants as steps
use Rattle.journal_laws.specs.Journals.{CameAsSent, Done, Entry, HasItsNumber, IsInRange, Unfinished, WereSent, done_in, packets_sent, steps_for, stop_of}
use Rattle.journal_laws.proofs.Joining.{done_both, sent_both}
use Rattle.journal_parts.specs.declared.noted.Noted.{Noted}
use Rattle.journal_parts.specs.declared.carried.Carried.{Carried}
use Rattle.journal_parts.specs.Entries.{IsSound, NamesASave, entry_of, number_by, number_of}
use Rattle.journal_parts.specs.Numbers.{HaveNumbers, IsCarried, Numbers}
use Rattle.journal_parts.specs.Registers.{AreNumbered, CameFrom, HasPacket, IsNumberedIn, IsRegister, count_in, entries_of}

-- ---- the packets of an entry

-- an entry sends what its step sends: that which stops in a save sends nothing
sent_once : (entry : Entry) (save : Option Unfinished) → NamesASave entry.done save →
    flat_map (λ (done : Done). done.sent) (steps_for entry.done save) ≡ entry.done.sent
sent_once entry None names = append-nil entry.done.sent
sent_once entry (Some save) names =
    ap (λ (sent : List Packet). sent ++ (sent ++ [])) names.2 ∙ sym names.2

pub sent_first : (entry : Entry) (entries : List Entry) → IsSound entry → packets_sent (entry ∷ entries) ≡ entry.done.sent ++ packets_sent entries
sent_first entry entries sound =
    flat_map-append (λ (done : Done). done.sent) (steps_for entry.done entry.unfinished) (done_in entries)
    ∙ ap (λ (sent : List Packet). sent ++ packets_sent entries) (sent_once entry entry.unfinished sound)

-- ---- numbers

-- a number stays with its packet as others are sent
pub number_kept : (packets newer : List Packet) (number : ℕ) (packet : Packet) → HasItsNumber 0 packets number packet →
    HasItsNumber 0 (newer ++ packets) number packet
number_kept packets newer number packet is = (
  is.0,
  record {
    newer = newer ++ is.1.newer;
    older = is.1.older;
    split = ap (λ (ps : List Packet). newer ++ ps) is.1.split ∙ sym (append_assoc newer is.1.newer (packet ∷ is.1.older));
    number_is = is.1.number_is;
  },
)

-- the packets that were sent behind these, the newest first
abbrev pub sent_behind : List Packet → List Packet → List Packet
sent_behind packets sent = reverse sent ++ packets

more_behind : (packets first later : List Packet) → sent_behind (sent_behind packets first) later ≡ sent_behind packets (first ++ later)
more_behind packets first later =
    sym (append_assoc (reverse later) (reverse first) packets) ∙ ap (λ (ps : List Packet). ps ++ packets) (sym (reverse-append first later))

number_here : (packets sent : List Packet) (place number : ℕ) (packet : Packet) → slice_get sent place ≡ Some packet →
    number ≡ length packets + (place + 1) → HasItsNumber 0 (sent_behind packets sent) number packet
number_here packets sent place number packet is counted =
    let it = split_at sent place packet is in
    let least : 1 ≤ number = omega (arith, counted) in
    let older = length-append (reverse it.front) packets in
    let turned = length-reverse it.front in
    let count = it.place_is in (
      least,
      record {
        newer = reverse it.back;
        older = reverse it.front ++ packets;
        split =
            ap (λ (ps : List Packet). reverse ps ++ packets) it.split
            ∙ ap (λ (ps : List Packet). ps ++ packets) (reverse-append it.front (packet ∷ it.back))
            ∙ split_turned packet it.front it.back packets;
        number_is = omega (arith, counted, older, turned, count);
      },
    )
  where
    split_turned : (packet : Packet) (front back packets : List Packet) →
        (reverse (packet ∷ back) ++ reverse front) ++ packets ≡ reverse back ++ packet ∷ (reverse front ++ packets)
    split_turned packet front back packets =
        ap (λ (ps : List Packet). (ps ++ reverse front) ++ packets) (reverse-append (packet ∷ []) back)
        ∙ append_assoc (reverse back ++ packet ∷ []) (reverse front) packets
        ∙ append_assoc (reverse back) (packet ∷ []) (reverse front ++ packets)

abbrev sent_of : Noted → List Packet
sent_of noted = (entry_of noted.entry).done.sent

-- What an entry sent under a number has it in the journal.
pub numbered : (noted : List Noted) (packets : List Packet) (sent place number : ℕ) (one : Noted) (packet : Sent) → AreNumbered (length packets) noted sent →
    ((entry : Entry) → In entry (entries_of noted) → IsSound entry) → slice_get noted place ≡ Some one → IsNumberedIn one number packet →
    HasItsNumber 0 (sent_behind packets (packets_sent (entries_of noted))) number (packet_of packet)
numbered [] packets sent place number one packet are sound is here = absurd (cc)
numbered (first ∷ later) packets sent zero number one packet are sound is here =
    let same : first ≡ one = cc in
    let counted = here.number_is in
    let begins : one.before ≡ length packets = subst (λ (n : Noted). n.before ≡ length packets) same are.0 in
    let among : slice_get (sent_of one) here.place ≡ Some (packet_of packet) =
    slice_get-map packet_of (arc_value one.entry.done).outputs.packets.items here.place ∙ ap (option_map packet_of) here.is in
    let at_one : HasItsNumber 0 (sent_behind packets (sent_of one)) number (packet_of packet) =
    number_here packets (sent_of one) here.place number (packet_of packet) among (omega (arith, counted, begins)) in
    let all : HasItsNumber 0 (reverse (packets_sent (entries_of later)) ++ sent_behind packets (sent_of one)) number (packet_of packet) =
    number_kept (sent_behind packets (sent_of one)) (reverse (packets_sent (entries_of later))) number (packet_of packet) at_one in
    subst (λ (ps : List Packet). HasItsNumber 0 ps number (packet_of packet))
    (more_behind packets (sent_of one) (packets_sent (entries_of later))
    ∙ ap (λ (n : Noted). sent_behind packets (sent_of n ++ packets_sent (entries_of later))) (sym same)
    ∙ ap (sent_behind packets) (sym (sent_first (entry_of first.entry) (entries_of later) (sound (entry_of first.entry) (inl refl))))) all
numbered (first ∷ later) packets sent (suc place) number one packet are sound is here =
    let counted : length packets + count_in first ≡ length (sent_behind packets (sent_of first)) =
    omega (arith, length-append (reverse (sent_of first)) packets, length-reverse (sent_of first)) in
    let found = numbered later (sent_behind packets (sent_of first)) sent place number one packet
    (subst (λ (n : ℕ). AreNumbered n later sent) counted are.1) (λ entry among. sound entry (inr among)) is here in
    subst (λ (ps : List Packet). HasItsNumber 0 ps number (packet_of packet))
    (more_behind packets (sent_of first) (packets_sent (entries_of later))
    ∙ ap (sent_behind packets) (sym (sent_first (entry_of first.entry) (entries_of later) (sound (entry_of first.entry) (inl refl))))) found

carried_has : (packets : List Packet) (entries : List Entry) (carried : Carried) (number : ℕ) → IsCarried packets carried → carried.number ≡ number →
    HasItsNumber 0 (sent_behind packets (packets_sent entries)) number (packet_of carried.packet)
carried_has packets entries carried number is same =
    subst (λ (n : ℕ). HasItsNumber 0 (sent_behind packets (packets_sent entries)) n (packet_of carried.packet)) same
    (number_kept packets (reverse (packets_sent entries)) carried.number (packet_of carried.packet) is)

-- what is carried at a place
pub carried_here : (numbers : Numbers) (entries : List Entry) (all : List Carried) (place number : ℕ) (one : Carried) →
    ((other : Carried) → In other all → In other numbers.may_come) → true ≡ nat_lt place (length all) → one ≡ get_or all place one → one.number ≡ number →
    HasPacket numbers entries number (packet_of one.packet)
carried_here numbers entries all place number one each within is same = λ packets have.
    let among = at_place all place one (slice_get_read all (length all) place one refl (grind (arith, nat_tests, within)) is) in
    carried_has packets entries one number (have.come one (each one among)) same

-- what an entry at a place sent
pub sent_here : (noted : List Noted) (numbers : Numbers) (sent place number : ℕ) (one : Noted) (found : Option (Bor Sent)) →
    AreNumbered numbers.count noted sent → ((entry : Entry) → In entry (entries_of noted) → IsSound entry) → true ≡ nat_lt place (length noted) →
    one ≡ get_or noted place one → IfSome (option_copied found) (IsNumberedIn one number) →
    IfSome (option_copied found) (λ packet. HasPacket numbers (entries_of noted) number (packet_of packet))
sent_here noted numbers sent place number one None are sound within is here = record {}
sent_here noted numbers sent place number one (Some packet) are sound within is here = λ packets have.
    numbered noted packets sent place number one packet.now (subst (λ (n : ℕ). AreNumbered n noted sent) (sym have.count) are) sound
    (slice_get_read noted (length noted) place one refl (grind (arith, nat_tests, within)) is) here

-- ---- one entry more

pub numbered_more : (before : ℕ) (noted : List Noted) (sent : ℕ) (one : Noted) → AreNumbered before noted sent → one.before ≡ sent →
    AreNumbered before (noted ++ one ∷ []) (sent + count_in one)
numbered_more before [] sent one are begins = (begins ∙ are, ap (λ (n : ℕ). n + count_in one) are)
numbered_more before (first ∷ later) sent one are begins = (are.0, numbered_more (before + count_in first) later sent one are.1 begins)

came_as : (packets : List Packet) (step : Step) (packet : Option Packet) →
    ((number : ℕ) (came : Packet) → number_by step ≡ Some number → packet ≡ Some came → HasItsNumber 0 packets number came) →
    IfSome packet (CameAsSent 0 packets step)
came_as packets step None from = record {}
came_as packets (steps.Deliver number node) (Some packet) from = from number packet refl refl
came_as packets (steps.Crash node number found) (Some packet) from = from number packet refl refl
came_as packets (steps.Request node account request) (Some packet) from = record {}
came_as packets (steps.Tick node moment reach) (Some packet) from = record {}
came_as packets (steps.Grant node id) (Some packet) from = record {}
came_as packets (steps.Answered node slot outcome) (Some packet) from = record {}
came_as packets (steps.Restart node) (Some packet) from = record {}

came_by_stop : (packets : List Packet) (done : Done) (save : Unfinished) (packet : Option Packet) →
    ((number : ℕ) (came : Packet) → Some save.number ≡ Some number → packet ≡ Some came → HasItsNumber 0 packets number came) →
    IfSome packet (CameAsSent 0 packets (stop_of done save).step)
came_by_stop packets done save None from = record {}
came_by_stop packets done save (Some packet) from = from save.number packet refl refl

restart_comes : (packets : List Packet) (step : Step) (node : ℕ) (packet : Option Packet) → step ≡ steps.Restart node →
    IfSome packet (CameAsSent 0 packets step)
restart_comes packets step node None is = record {}
restart_comes packets step node (Some packet) is = subst (λ (s : Step). CameAsSent 0 packets s packet) (sym is) (record {})

came_by : (packets : List Packet) (done : Done) (unfinished : Option Unfinished) → NamesASave done unfinished →
    ((number : ℕ) (came : Packet) → number_of done.step unfinished ≡ Some number → done.packet ≡ Some came → HasItsNumber 0 packets number came) →
    WereSent 0 packets (steps_for done unfinished)
came_by packets done None names from = (came_as packets done.step done.packet from, record {})
came_by packets done (Some save) names from = (
  came_by_stop packets done save done.packet from,
  (restart_comes (reverse done.sent ++ packets) done.step names.0 done.packet names.1, record {}),
)

-- What an entry has that comes behind others was sent by them, or has its number from before.
came_more : (numbers : Numbers) (packets : List Packet) (entries : List Entry) (entry : Entry) → HaveNumbers numbers packets → IsSound entry →
    CameFrom numbers entries entry → WereSent 0 packets (done_in entries) → WereSent 0 packets (done_in (entries ++ entry ∷ []))
came_more numbers packets entries entry have sound came were =
    subst (λ (ds : List Done). WereSent 0 packets ds) (sym (done_both entries (entry ∷ [])))
    (sent_both 0 packets (done_in entries) (done_in (entry ∷ [])) were
    (subst (λ (ds : List Done). WereSent 0 (reverse (packets_sent entries) ++ packets) ds) (sym (append-nil (steps_for entry.done entry.unfinished)))
    (came_by (reverse (packets_sent entries) ++ packets) entry.done entry.unfinished sound
    (λ number packet at is. came number packet at is packets have))))

entries_more : (noted : List Noted) (one : Noted) → entries_of (noted ++ one ∷ []) ≡ entries_of noted ++ entry_of one.entry ∷ []
entries_more noted one = map-append (λ (n : Noted). entry_of n.entry) noted (one ∷ [])

pub register_more : (cluster : Cluster) (numbers : Numbers) (noted : List Noted) (carried : List Carried) (sent : ℕ) (one : Noted) →
    IsRegister cluster numbers noted carried sent → IsInRange cluster (node_at (entry_of one.entry).done.step) → IsSound (entry_of one.entry) →
    CameFrom numbers (entries_of noted) (entry_of one.entry) → one.before ≡ sent →
    IsRegister cluster numbers (noted ++ one ∷ []) carried (sent + count_in one)
register_more cluster numbers noted carried sent one is within sound came begins = record {
  nodes = λ entry among. elim (in_more entry among) [ inl here ↦ is.nodes entry here | inr last ↦ at_last within entry last ];
  sound = λ entry among. elim (in_more entry among) [ inl here ↦ is.sound entry here | inr last ↦ sound_last sound entry last ];
  came = λ packets have. subst (λ (es : List Entry). WereSent 0 packets (done_in es)) (sym (entries_more noted one))
      (came_more numbers packets (entries_of noted) (entry_of one.entry) have sound came (is.came packets have));
  numbered = numbered_more numbers.count noted sent one is.numbered begins;
  carries = is.carries;
  rise = is.rise;
}
  where
    in_more : (entry : Entry) → In entry (entries_of (noted ++ one ∷ [])) → In entry (entries_of noted) ⊎ In entry (entry_of one.entry ∷ [])
    in_more entry among =
        in_either entry (entries_of noted) (entry_of one.entry ∷ []) (subst (λ (es : List Entry). In entry es) (entries_more noted one) among)

    at_last : IsInRange cluster (node_at (entry_of one.entry).done.step) → (entry : Entry) → In entry (entry_of one.entry ∷ []) →
        IsInRange cluster (node_at entry.done.step)
    at_last within entry (inl same) = subst (λ (e : Entry). IsInRange cluster (node_at e.done.step)) (sym same) within
    at_last within entry (inr none) = absurd none

    sound_last : IsSound (entry_of one.entry) → (entry : Entry) → In entry (entry_of one.entry ∷ []) → IsSound entry
    sound_last sound entry (inl same) = subst (λ (e : Entry). IsSound e) (sym same) sound
    sound_last sound entry (inr none) = absurd none
