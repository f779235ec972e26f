-- What is said of the fate of a message, and what it stands on.
use Rattle.std.specs.Prelude.{◌≡◌, ℕ, List, ◌∷◌, ◌++◌, Option, Some, None}
use Rattle.mc_model.specs.message.Decree.{Attempt, Author, Decree, Delivered, Fate, Final}
use Rattle.mc_model.specs.message.Chain.{final_in, untold}
use Rattle.mc_model.specs.synod.Lists.{In}
use Rattle.mc_model.specs.synod.OneSlot.{vote_at}
use Rattle.mc_model.specs.synod.Packet.{Slot, slot_of}
use Rattle.mc_model.specs.node.Outcome.{Concluded}
use Rattle.mc_model.specs.node.Replies.{Answer, Removed, Shown}
use Rattle.mc_model.specs.node.Act.{Act, Concludes, Grants, Replies, Reports}
use Rattle.mc_model.specs.cluster.World.{Deed, IsChosenIn, World}

-- the chain of which an answer tells ESME_ROK
abbrev pub shown_by : Answer → Option (List Decree)
shown_by (Shown chain) = Some chain
shown_by (Removed chain) = Some chain
shown_by answer = None

-- A deed tells an ESME of the chain of a message: in a query_sm_resp, in a cancel_sm_resp with ESME_ROK, or in a receipt.
abbrev pub TellsOf : Act → ℕ → List Decree → Type 0
TellsOf (Replies ticket other answer) id chain = (other ≡ id) × (shown_by answer ≡ Some chain)
TellsOf (Reports other shown) id chain = (other ≡ id) × (shown ≡ chain)
TellsOf act id chain = ⊥

-- it states a final state of the message
pub record States (deed : Deed) (id : ℕ) (final : Final) : Type 0 where
  pub chain : List Decree
  pub tells : TellsOf deed.act id chain
  pub state : final_in chain ≡ Some final

-- an attempt of the message is granted
pub record IsGrant (deed : Deed) (id : ℕ) : Type 0 where
  pub slot : Slot
  pub grants : deed.act ≡ Grants slot
  pub about : slot.id ≡ id

-- of these deeds, the newest first, one came before another
pub record CameBefore (first second : Deed) (deeds : List Deed) : Type 0 where
  pub newer : List Deed
  pub older : List Deed
  pub split : deeds ≡ newer ++ second ∷ older
  pub before : In first older

abbrev pub deed_by : Author → (Act → Deed)
deed_by author act = record { node = author.node; incarnation = author.incarnation; act = act }

-- A chain that ends in the fate DELIVERED, told or not, ends in an attempt before it, which was granted and then answered ESME_ROK.
pub record IsDelivery (id : ℕ) (chain : List Decree) (deeds : List Deed) : Type 0 where
  pub fate : Decree
  pub attempt : Decree
  pub older : List Decree
  pub number : ℕ
  pub error : ℕ
  pub chain_is : untold chain ≡ fate ∷ attempt ∷ older
  pub attempted : attempt.kind ≡ Attempt number
  pub delivered : fate.kind ≡ Fate Delivered error
  pub author : fate.author ≡ attempt.author
  pub granted : CameBefore (deed_by attempt.author (Grants (slot_of id (attempt ∷ older)))) (deed_by attempt.author (Concludes
      (slot_of id (attempt ∷ older)) (Concluded Delivered error))) deeds

-- the chain of which a deed tells is chosen, at some ballot
pub record IsToldChosen (w : World) (id : ℕ) (chain : List Decree) : Type 0 where
  pub ballot : ℕ
  pub chosen : IsChosenIn w (slot_of id chain) (vote_at ballot chain)
