-- An attempt that is asked for, in the words of the text of a script.
use Rattle.std.specs.Prelude.{◌≡◌, ℕ, Some, None}
use Rattle.mc_model.specs.synod.Packet.{slot_of}
use Rattle.mc_model.specs.node.Grant.{GrantRefusal, refusal_number}
use Rattle.mc_model.specs.node.Input.{Grant}
use Rattle.node_model.specs.Attempts.{grant_refusal}
use Rattle.node_model.specs.Granted.{known_slot}
use Rattle.node_model.specs.Kept.{message_at}
use Rattle.delivery.specs.Deliveries.{EndsInAttempt}
use Rattle.fate_chain.specs.declared.chain.Chain.{Chain}
use Rattle.world.specs.Scenes.{Scene}
use Rattle.script_text.specs.Node.{Node, step_at, with_step}
use Rattle.script_text.specs.World.{World}
use Rattle.script_site.specs.Sites.{IsGoing}
use Rattle.script_site.specs.declared.steps.Granting.{Granting}
use Rattle.script_site.specs.declared.steps.Granting.TheVariants as grantings

-- The attempt of a message is granted: it is that in which the chain ends that is known of it.
pub record GrantsChain (home id : ℕ) (chain : Chain) (w : World) (before : Node) (new : Scene) : Type 0 where
  pub allowed : grant_refusal before.setup before.kept id ≡ None
  pub going : IsGoing home new w (with_step before (step_at before (Grant (known_slot before.kept id))))
  pub slot : slot_of chain.id chain.decrees ≡ known_slot before.kept id
  pub known : (message_at before.kept id).known ≡ Some chain.decrees
  pub ends : EndsInAttempt chain.decrees

-- It is not granted, for the reason with this number, and nothing changed.
pub record RefusesGrant (home id number : ℕ) (w : World) (before : Node) (new : Scene) : Type 0 where
  pub refusal : GrantRefusal
  pub reason : grant_refusal before.setup before.kept id ≡ Some refusal
  pub told : number ≡ refusal_number refusal
  pub going : IsGoing home new w before

abbrev pub Answers : ℕ → ℕ → Granting → World → Node → Scene → Type 0
Answers home id (grantings.Granted chain) w before new = GrantsChain home id chain w before new
Answers home id (grantings.Refused number) w before new = RefusesGrant home id number w before new

-- so wherever its node stood
abbrev pub IsGranting : ℕ → ℕ → Scene → Granting → Scene → Type 0
IsGranting home id old granting new = (w : World) (node : Node) → IsGoing home old w node → Answers home id granting w node new
