-- A miniature: the synod of one slot, with nodes that stop, that note what they know, and that drop all of it (own; Paxos Made Simple, 2.2).
use Rattle.std.specs.Prelude.{◌≡◌, ℕ, ◌<◌, ◌≤◌, Bool, true, false, List, [], ◌∷◌, Option, Some, None}
use Rattle.mc_model.specs.message.Decree.{Decree}
use Rattle.mc_model.specs.cluster.World.{changed}
use Rattle.mc_model.specs.synod.OneSlot.{IsChosen, IsJustified, SlotPast, SlotPromise, Vote, vote_at, was_promised, was_proposed, was_voted}

-- What a node has in its store: its acceptor's record, the chain that it knows by record, and the mark that it dropped the message.
pub record Store : Type 0 where
  pub promised : ℕ
  pub vote : Option Vote
  pub known : Option (List Decree)
  pub dropped : Bool

abbrev pub new_store : Store
new_store = record { promised = 0; vote = None; known = None; dropped = false }

-- all is erased but the mark
abbrev pub erased : Store
erased = record { promised = 0; vote = None; known = None; dropped = true }

-- What was voted, promised and proposed stands in the past for ever: that is the network. What a node knows is lost at a stop.
pub record Miniature : Type 0 where
  pub nodes : ℕ
  pub past : SlotPast
  pub stores : ℕ → Store
  pub knows : ℕ → Option (List Decree)
  -- what nodes told to ESMEs
  pub told : List (List Decree)

pub data Act : Type 0 where
  Promises : ℕ → ℕ → Act
  Votes : ℕ → Vote → Act
  Proposes : Vote → Act
  -- it learns what was chosen, notes in its store what it knows, and tells it
  Learns : ℕ → Vote → Act
  Notes : ℕ → Act
  Tells : ℕ → List Decree → Act
  -- it stops and starts anew over its store; it drops the message
  Restarts : ℕ → Act
  Drops : ℕ → Act

-- A node that dropped the message answers nothing about it; if it is not so guarded, it answers from the record that it has then.
abbrev pub MaySpeak : Bool → Store → Type 0
MaySpeak true s = s.dropped ≡ false
MaySpeak false s = Unit {0}

-- what each act needs
abbrev pub Needs : Bool → Miniature → Act → Type 0
Needs guarded w (Promises node ballot) = MaySpeak guarded (w.stores node) × ((w.stores node).promised < ballot)
Needs guarded w (Votes node vote) =
    MaySpeak guarded (w.stores node) × ((w.stores node).promised ≤ vote.ballot) × was_proposed w.past vote
Needs guarded w (Proposes vote) =
    ((other : List Decree) → was_proposed w.past (vote_at vote.ballot other) → other ≡ vote.chain)
    × IsJustified w.nodes (λ acceptor report. was_promised w.past acceptor vote.ballot report) vote.chain
Needs guarded w (Learns node vote) = IsChosen w.nodes (was_voted w.past) vote
Needs guarded w (Tells node chain) = w.knows node ≡ Some chain
-- at any time: noting may be left out, and nothing is asked of whoever drops
Needs guarded w (Notes node) = Unit {0}
Needs guarded w (Restarts node) = Unit {0}
Needs guarded w (Drops node) = Unit {0}

-- what it leaves
abbrev pub promise_of : Miniature → ℕ → ℕ → SlotPromise
promise_of w node ballot = record { acceptor = node; ballot = ballot; report = (w.stores node).vote }

abbrev pub after : Miniature → Act → Miniature
after w (Promises node ballot) = record w {
  past = record w.past { promises = promise_of w node ballot ∷ w.past.promises };
  stores = changed w.stores node (record (w.stores node) { promised = ballot });
}
after w (Votes node vote) = record w {
  past = record w.past { votes = (node, vote) ∷ w.past.votes };
  stores = changed w.stores node (record (w.stores node) { promised = vote.ballot; vote = Some vote });
}
after w (Proposes vote) = record w { past = record w.past { proposals = vote ∷ w.past.proposals } }
after w (Learns node vote) = record w { knows = changed w.knows node (Some vote.chain) }
after w (Notes node) = record w { stores = changed w.stores node (record (w.stores node) { known = w.knows node }) }
after w (Tells node chain) = record w { told = chain ∷ w.told }
after w (Restarts node) = record w { knows = changed w.knows node (w.stores node).known }
after w (Drops node) = record w { stores = changed w.stores node erased; knows = changed w.knows node None }

-- nothing was done yet
abbrev pub start : ℕ → Miniature
start nodes = record {
  nodes = nodes;
  past = record { votes = []; promises = []; proposals = [] };
  stores = λ node. new_store;
  knows = λ node. None;
  told = [];
}

-- the newest act first
abbrev pub led_by : ℕ → List Act → Miniature
led_by nodes [] = start nodes
led_by nodes (newest ∷ older) = after (led_by nodes older) newest

-- each act may be done where it stands, by nodes that are so guarded or not
abbrev pub AreActs : Bool → ℕ → List Act → Type 0
AreActs guarded nodes [] = Unit {0}
AreActs guarded nodes (newest ∷ older) = Needs guarded (led_by nodes older) newest × AreActs guarded nodes older
