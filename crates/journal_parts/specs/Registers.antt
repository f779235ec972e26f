-- The journal of all nodes, under its lock (own).
use Rattle.std.specs.Prelude.{◌≡◌, ◌≢◌, ℕ, ◌+◌, ◌-◌, ◌^◌, ◌<◌, ◌≤◌, ◌==◌, nat_lt, if◌then◌else◌, List, [], ◌∷◌, ◌++◌, length, map, reverse, slice_get}
use Rattle.std.specs.Prelude.{Option, Some, None, option_map}
use Rattle.std.specs.Arc.{arc_value}
use Rattle.std.specs.List.{find}
use Rattle.std.specs.Option.{option_or}
use Rattle.mc_model.specs.synod.Lists.{In}
use Rattle.mc_model.specs.synod.Packet.{Packet}
use Rattle.mc_model.specs.cluster.Steps.{Cluster}
use Rattle.synod_acceptor.specs.declared.packet.Packet.{Packet as Sent}
use Rattle.synod_acceptor.specs.Packets.{packet_of}
use Rattle.node_entry.specs.Taking.{node_at}
use Rattle.node_entry.specs.declared.step.Step.{Step}
use Rattle.journal_laws.specs.Journals.{Entry, HasItsNumber, IsInRange, WereSent, done_in, packets_sent}
use Rattle.journal_parts.specs.declared.noted.Noted.{Noted}
use Rattle.journal_parts.specs.declared.carried.Carried.{Carried}
use Rattle.journal_parts.specs.Entries.{IsSound, entry_of, number_by, number_in}
use Rattle.journal_parts.specs.Numbers.{HaveNumbers, Numbers, RiseWithin}
use Rattle.journal_parts.specs.Slips.{Slipped}

-- the entries of a journal, the oldest first; the packets of earlier parts that may still come; for how many more entries there is room, and how much of it is
-- claimed; and how many seats are left
pub record Registered : Type 0 where
  pub entries : List Entry
  pub carried : List Carried
  pub claims : ℕ
  pub room : ℕ
  pub seats : ℕ

-- the packets that a step sends have the numbers behind those of before
pub record IsNumberedIn (noted : Noted) (number : ℕ) (packet : Sent) : Type 0 where
  pub place : ℕ
  pub is : slice_get (arc_value noted.entry.done).outputs.packets.items place ≡ Some packet
  pub number_is : number ≡ noted.before + (place + 1)

-- how many the entry sends
abbrev pub count_in : Noted → ℕ
count_in noted = length (entry_of noted.entry).done.sent

-- each entry begins with the number at which the one before it ends, and behind the last one so many have numbers
abbrev pub AreNumbered : ℕ → List Noted → ℕ → Type 0
AreNumbered before [] sent = sent ≡ before
AreNumbered before (noted ∷ later) sent = (noted.before ≡ before) × AreNumbered (before + count_in noted) later sent

abbrev pub entries_of : List Noted → List Entry
entries_of noted = map (λ one. entry_of one.entry) noted

-- All packets of a part are in order, up to this number: those of earlier parts, whose numbers rise, and then those of its entries.
pub record AreInOrder (noted : List Noted) (carried : List Carried) (sent : ℕ) : Type 0 where
  pub before : ℕ
  pub rise : RiseWithin 0 before carried
  pub numbered : AreNumbered before noted sent

-- From these numbers on: each entry is of a node of the cluster, and each packet that comes is the one with its number, whichever packets have them.
pub record IsRegister (cluster : Cluster) (numbers : Numbers) (noted : List Noted) (carried : List Carried) (sent : ℕ) : Type 0 where
  pub nodes : (entry : Entry) → In entry (entries_of noted) → IsInRange cluster (node_at entry.done.step)
  pub sound : (entry : Entry) → In entry (entries_of noted) → IsSound entry
  pub came : (packets : List Packet) → HaveNumbers numbers packets → WereSent 0 packets (done_in (entries_of noted))
  pub numbered : AreNumbered numbers.count noted sent
  pub carries : (one : Carried) → In one carried → In one numbers.may_come
  pub rise : RiseWithin 0 numbers.count carried

-- ---- the packets by their numbers

-- the packet of an earlier part that has this number, if one may still come
abbrev pub carried_under : List Carried → ℕ → Option Packet
carried_under carried number = option_map (λ one. packet_of one.packet) (find (λ one. one.number == number) carried)

-- the one that these entries sent, if so many have numbers before them
abbrev pub sent_under : ℕ → List Entry → ℕ → Option Packet
sent_under count entries number = if nat_lt count number then slice_get (packets_sent entries) (number - (count + 1)) else None

-- the packet that has this number, if one does: one of an earlier part that may still come, or one that an entry sent
abbrev pub packet_under : Numbers → Registered → ℕ → Option Packet
packet_under numbers register number = option_or (carried_under register.carried number) (sent_under numbers.count register.entries number)

-- ---- from one entry to the next

-- the packet that has this number behind these entries, whichever packets have those of before
abbrev pub HasPacket : Numbers → List Entry → ℕ → Packet → Type 0
HasPacket numbers entries number packet =
    (packets : List Packet) → HaveNumbers numbers packets → HasItsNumber 0 (reverse (packets_sent entries) ++ packets) number packet

-- so is the one that comes by an entry
abbrev pub CameFrom : Numbers → List Entry → Entry → Type 0
CameFrom numbers entries entry =
    (number : ℕ) (packet : Packet) → number_in entry ≡ Some number → entry.done.packet ≡ Some packet → HasPacket numbers entries number packet

-- no packet that these entries sent has this number: it is one of before, or behind them all
abbrev pub IsUnsent : Numbers → List Entry → ℕ → Type 0
IsUnsent numbers entries number = numbers.count < number → numbers.count + length (packets_sent entries) < number

-- no packet of an earlier part that may still come has it
abbrev pub IsNotCarried : List Carried → ℕ → Type 0
IsNotCarried carried number = (one : Carried) → In one carried → one.number ≢ number

-- no packet at all has it: none of an earlier part that may still come, and none that an entry sent
abbrev pub IsAbsent : Numbers → Registered → ℕ → Type 0
IsAbsent numbers register number = IsNotCarried register.carried number × IsUnsent numbers register.entries number

-- what is given for a step is the packet with the number that it asks for
abbrev pub IsAskedFor : Numbers → List Entry → Step → Option Sent → Type 0
IsAskedFor numbers entries step given =
    (number : ℕ) (packet : Sent) → number_by step ≡ Some number → given ≡ Some packet → HasPacket numbers entries number (packet_of packet)

-- a step asks for a packet, and none has its number
abbrev pub AsksInVain : Numbers → Registered → Step → Type 0
AsksInVain numbers register step = (number : ℕ) × (number_by step ≡ Some number) × IsAbsent numbers register number

-- the packet that comes by an entry, if one does, is the one that has its number
abbrev pub ComesAsNumbered : Numbers → Registered → Entry → Type 0
ComesAsNumbered numbers register entry =
    (number : ℕ) (packet : Packet) → number_in entry ≡ Some number → entry.done.packet ≡ Some packet → packet_under numbers register number ≡ Some packet

-- An entry may be added: it has a claim, the packet that comes by it is the one that has its number, and all packets have numbers below 2^64.
pub record MayEnter (numbers : Numbers) (register : Registered) (entry : Entry) : Type 0 where
  pub claimed : 1 ≤ register.claims
  pub comes : ComesAsNumbered numbers register entry
  pub below : numbers.count + length (packets_sent register.entries) + length entry.done.sent < 2 ^ 64

-- the entry is the last one, and the slip has its number
pub record HasEntered (old : List Entry) (entry : Entry) (new : List Entry) (slip : Slipped) : Type 0 where
  pub entries : new ≡ old ++ entry ∷ []
  pub number : slip.number ≡ length new
  pub is : slip.entry ≡ entry

-- ---- several entries

-- The first of these entries are the last ones.
pub record EntersThose (old entries new : List Entry) : Type 0 where
  pub front : List Entry
  pub left : List Entry
  pub are : entries ≡ front ++ left
  pub behind : new ≡ old ++ front

-- The slips of the first of these entries were added, in their order.
pub record EntersFront (old : List Slipped) (entries : List Entry) (new : List Slipped) : Type 0 where
  pub slips : List Slipped
  pub left : List Entry
  pub are : entries ≡ map (λ (slip : Slipped). slip.entry) slips ++ left
  pub behind : new ≡ old ++ slips

-- The slips of all of these entries were added, in their order.
pub record EntersEach (old : List Slipped) (entries : List Entry) (new : List Slipped) : Type 0 where
  pub slips : List Slipped
  pub are : entries ≡ map (λ (slip : Slipped). slip.entry) slips
  pub behind : new ≡ old ++ slips
