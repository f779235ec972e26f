-- The packets that have numbers where a part of a journal begins (own).
use Rattle.std.specs.Prelude.{◌≡◌, ℕ, ◌+◌, ◌<◌, ◌≤◌, Bool, nat_le, filter, List, [], ◌∷◌, ◌++◌, length}
use Rattle.std.specs.Arc.{arc_value}
use Rattle.mc_model.specs.synod.Lists.{In}
use Rattle.mc_model.specs.synod.Packet.{Packet}
use Rattle.synod_acceptor.specs.declared.packet.Packet.{Packet as Sent}
use Rattle.synod_acceptor.specs.Packets.{packet_of}
use Rattle.journal_laws.specs.Journals.{HasItsNumber}
use Rattle.journal_parts.specs.declared.carried.Carried.{Carried}
use Rattle.journal_parts.specs.declared.noted.Noted.{Noted}

-- how many packets have numbers where a part begins, and those of them that may still come
pub record Numbers : Type 0 where
  pub count : ℕ
  pub may_come : List Carried

-- where nothing was sent yet
abbrev pub none_sent : Numbers
none_sent = record { count = 0; may_come = [] }

-- among these packets, the newest first, one that may still come has its number
abbrev pub IsCarried : List Packet → Carried → Type 0
IsCarried packets carried = HasItsNumber 0 packets carried.number (packet_of carried.packet)

-- These packets, the newest first, are all that have numbers there.
pub record HaveNumbers (numbers : Numbers) (packets : List Packet) : Type 0 where
  pub count : length packets ≡ numbers.count
  pub come : (one : Carried) → In one numbers.may_come → IsCarried packets one

-- ---- what is carried to the next part

-- packets under the numbers behind this one
abbrev pub numbered_from : ℕ → List Sent → List Carried
numbered_from before [] = []
numbered_from before (packet ∷ later) = record { number = before + 1; packet = packet } ∷ numbered_from (before + 1) later

-- what an entry sent
abbrev pub sent_by : Noted → List Carried
sent_by noted = numbered_from noted.before (arc_value noted.entry.done).outputs.packets.items

-- what these entries sent
abbrev pub all_sent_by : List Noted → List Carried
all_sent_by [] = []
all_sent_by (noted ∷ later) = sent_by noted ++ all_sent_by later

-- those with this number or a higher one
abbrev pub is_from : ℕ → Carried → Bool
is_from from one = nat_le from one.number

abbrev pub all_from : ℕ → List Carried → List Carried
all_from from carried = filter (is_from from) carried

-- their numbers rise, from above the first of these two to the second at most
abbrev pub RiseWithin : ℕ → ℕ → List Carried → Type 0
RiseWithin above most [] = above ≤ most
RiseWithin above most (one ∷ later) = (above < one.number) × RiseWithin one.number most later
