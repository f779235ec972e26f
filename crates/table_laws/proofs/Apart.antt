-- Rounds of several messages, each with its own id.
use Rattle.std.proofs.Common.{◌≡◌, ℕ, List, [], ◌∷◌, refl, sym, subst, ◌∙◌}
use Rattle.std.specs.Ordering.{nat_cmp}
use Rattle.std.specs.Map.{keys_of}
use Rattle.std.specs.BTreeSet.{insert_key}
use Rattle.mc_model.specs.message.Decree.{Decree}
use Rattle.mc_model.specs.synod.Packet.{slot_at}
use Rattle.node_model.specs.Kept.{Kept, message_at}
use Rattle.table_laws.proofs.Frames.{IsSameBut}

-- a round for the next decree on the chain of a message
pub record Next : Type 0 where
  pub id : ℕ
  pub old : List Decree
  pub decree : Decree

-- an id is none of theirs
abbrev pub IsApart : ℕ → List Next → Type 0
IsApart id [] = Unit {0}
IsApart id (round ∷ rounds) = (id ≡ round.id → ⊥) × IsApart id rounds

-- each has another
abbrev pub AreApart : List Next → Type 0
AreApart [] = Unit {0}
AreApart (round ∷ rounds) = IsApart round.id rounds × AreApart rounds

-- each is listed
abbrev pub AreListed : List ℕ → List Next → Type 0
AreListed ids [] = Unit {0}
AreListed ids (round ∷ rounds) = (insert_key nat_cmp ids round.id ≡ ids) × AreListed ids rounds

-- all but their messages is as it was
pub record IsSameApart (rounds : List Next) (k new : Kept) : Type 0 where
  pub up : new.up ≡ k.up
  pub incarnation : new.incarnation ≡ k.incarnation
  pub clock : new.clock ≡ k.clock
  pub serial : new.serial ≡ k.serial
  pub ticket : new.ticket ≡ k.ticket
  pub held : new.held ≡ k.held
  pub ids : keys_of new.messages ≡ keys_of k.messages
  pub message : (other : ℕ) → IsApart other rounds → message_at new other ≡ message_at k other
  pub records : (other : ℕ) → IsApart other rounds → (place : ℕ) → new.records (slot_at other place) ≡ k.records (slot_at other place)

pub apart_none : (k : Kept) → IsSameApart [] k k
apart_none k = record {
  up = refl;
  incarnation = refl;
  clock = refl;
  serial = refl;
  ticket = refl;
  held = refl;
  ids = refl;
  message = λ other apart. refl;
  records = λ other apart place. refl;
}

pub apart_more : (round : Next) (rounds : List Next) (k mid new : Kept) → IsSameBut round.id k mid → mid.held ≡ k.held →
    insert_key nat_cmp (keys_of k.messages) round.id ≡ keys_of k.messages → IsSameApart rounds mid new → IsSameApart (round ∷ rounds) k new
apart_more round rounds k mid new same held listed apart = record {
  up = apart.up ∙ same.up;
  incarnation = apart.incarnation ∙ same.incarnation;
  clock = apart.clock ∙ same.clock;
  serial = apart.serial ∙ same.serial;
  ticket = apart.ticket ∙ same.ticket;
  held = apart.held ∙ held;
  ids = apart.ids ∙ (same.ids ∙ listed);
  message = λ other away. apart.message other away.1 ∙ same.message other away.0;
  records = λ other away place. apart.records other away.1 place ∙ same.records other away.0 place;
}

pub apart_then : (rounds : List Next) (k mid new : Kept) → IsSameApart rounds k mid → IsSameApart rounds mid new → IsSameApart rounds k new
apart_then rounds k mid new one two = record {
  up = two.up ∙ one.up;
  incarnation = two.incarnation ∙ one.incarnation;
  clock = two.clock ∙ one.clock;
  serial = two.serial ∙ one.serial;
  ticket = two.ticket ∙ one.ticket;
  held = two.held ∙ one.held;
  ids = two.ids ∙ one.ids;
  message = λ other apart. two.message other apart ∙ one.message other apart;
  records = λ other apart place. two.records other apart place ∙ one.records other apart place;
}

-- what holds of each
abbrev pub Each : (Kept → Next → Type 0) → Kept → List Next → Type 0
Each P k [] = Unit {0}
Each P k (round ∷ rounds) = P k round × Each P k rounds

-- it still does if another message changes
pub each_but : (P : Kept → Next → Type 0) (id : ℕ) (k new : Kept) → ((round : Next) → (round.id ≡ id → ⊥) → P k round → P new round) → (rounds : List Next) →
    IsApart id rounds → Each P k rounds → Each P new rounds
each_but P id k new kept [] apart each = tt
each_but P id k new kept (round ∷ rounds) apart each =
    (kept round (λ same. apart.0 (sym same)) each.0, each_but P id k new kept rounds apart.1 each.1)

pub listed_as : (ids others : List ℕ) (rounds : List Next) → others ≡ ids → AreListed ids rounds → AreListed others rounds
listed_as ids others rounds same listed = subst (λ (xs : List ℕ). AreListed xs rounds) (sym same) listed
