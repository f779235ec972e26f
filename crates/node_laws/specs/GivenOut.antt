-- What goes out on a cancel_sm, and what a receipt stands on (SMPP 3.4, 4.9.2 and 5.2.17; the decree Told is own).
use Rattle.std.specs.Prelude.{◌≡◌, ℕ, List, ◌∷◌}
use Rattle.mc_model.specs.message.Decree.{Decree, Deleted, Told}
use Rattle.mc_model.specs.message.Ids.{node_of}
use Rattle.mc_model.specs.synod.Lists.{In}
use Rattle.mc_model.specs.node.Outputs.{Outputs}
use Rattle.mc_model.specs.node.Replies.{Removed}
use Rattle.node_laws.specs.Clusters.{StatesFinal}

-- ESME_ROK to a cancel_sm of a message
pub record Cancels (outputs : Outputs) (id : ℕ) : Type 0 where
  pub ticket : ℕ
  pub chain : List Decree
  pub among : In (record { ticket = ticket; id = id; answer = Removed chain }) outputs.replies

-- Each of these states that the message is DELETED.
abbrev pub CancelsDelete : List Outputs → Type 0
CancelsDelete given = (outputs : Outputs) (id : ℕ) → In outputs given → Cancels outputs id → StatesFinal outputs id Deleted

-- a chain ends in a Told of a node
pub record EndsInToldOf (node : ℕ) (chain : List Decree) : Type 0 where
  pub told : Decree
  pub older : List Decree
  pub chain_is : chain ≡ told ∷ older
  pub kind : told.kind ≡ Told
  pub node_is : told.author.node ≡ node

-- Each receipt that a node gives out is of a message whose id names the node, and stands on such a chain.
abbrev pub ReceiptsStand : ℕ → Outputs → Type 0
ReceiptsStand node outputs =
    (id : ℕ) (chain : List Decree) → In (record { id = id; chain = chain }) outputs.receipts → (node_of id ≡ node) × EndsInToldOf node chain
