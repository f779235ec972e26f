-- The final states that a list of steps told (own).
use Rattle.std.specs.Prelude.{◌≡◌, ◌↔◌, ℕ, List, [], ◌∷◌, ◌++◌, flat_map, Option, Some, None}
use Rattle.std.specs.List.{enumerate_from, slice_get}
use Rattle.mc_model.specs.message.Decree.{Decree, Final}
use Rattle.mc_model.specs.message.Chain.{final_in}
use Rattle.mc_model.specs.synod.Lists.{In}
use Rattle.mc_model.specs.cluster.Fate.{shown_by}
use Rattle.mc_model.specs.node.Outputs.{Outputs, Receipt, Reply}
use Rattle.node_laws.specs.Clusters.{StatesFinal}
use Rattle.world_runs.specs.Traces.{Answer, told_in}

-- A final state that was told of a message, with the chain of which it was told, at the step at this place of the list, from 0.
pub record Statement : Type 0 where
  pub id : ℕ
  pub state : Final
  pub chain : List Decree
  pub step : ℕ

-- a chain tells the final state in which it ends, if it has one
abbrev pub with_state : ℕ → ℕ → List Decree → Option Final → List Statement
with_state step id chain None = []
with_state step id chain (Some state) = record { id = id; state = state; chain = chain; step = step } ∷ []

abbrev pub stated_of : ℕ → ℕ → List Decree → List Statement
stated_of step id chain = with_state step id chain (final_in chain)

-- a reply tells what the chain tells that it shows
abbrev pub stated_shown : ℕ → ℕ → Option (List Decree) → List Statement
stated_shown step id None = []
stated_shown step id (Some chain) = stated_of step id chain

abbrev pub stated_replied : ℕ → Reply → List Statement
stated_replied step reply = stated_shown step reply.id (shown_by reply.answer)

abbrev pub stated_received : ℕ → Receipt → List Statement
stated_received step receipt = stated_of step receipt.id receipt.chain

-- a step tells what its replies tell, and then what its receipts tell
abbrev pub stated_at : ℕ → Outputs → List Statement
stated_at step outputs = flat_map (stated_replied step) outputs.replies ++ flat_map (stated_received step) outputs.receipts

abbrev pub stated_by : ℕ × Answer → List Statement
stated_by one = stated_at one.0 (told_in one.1)

-- all that these answers tell, the first of them first
abbrev pub statements_of : List Answer → List Statement
statements_of answers = flat_map stated_by (enumerate_from 0 answers)

-- ---- in the subject's words

-- what is given out tells of a final state by this chain
pub record TellsBy (outputs : Outputs) (id : ℕ) (state : Final) (chain : List Decree) : Type 0 where
  pub says : StatesFinal outputs id state
  pub chain_is : says.chain ≡ chain

-- the step at its place told it
pub record IsTold (answers : List Answer) (one : Statement) : Type 0 where
  pub answer : Answer
  pub at : slice_get answers one.step ≡ Some answer
  pub tells : TellsBy (told_in answer) one.id one.state one.chain

-- The statements are what the steps told, and nothing else.
abbrev pub AreTold : List Answer → Type 0
AreTold answers = (one : Statement) → In one (statements_of answers) ↔ IsTold answers one

-- No two statements on one message differ in their state.
abbrev pub Agree : List Statement → Type 0
Agree statements = (one other : Statement) → In one statements → In other statements → one.id ≡ other.id → one.state ≡ other.state
