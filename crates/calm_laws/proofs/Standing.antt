-- The node of a runner, which is at rest or settles, and the one node.
use Rattle.std.proofs.Common.{◌≡◌, ℕ, suc, ◌+◌, ◌<◌, ◌≤◌, ◌^◌, Bool, true, false, cond, List, [], ◌∷◌, Option, Some, None, inr, refl, sym}
use Rattle.std.proofs.Common.{◌∙◌, ap, subst, arith}
use Rattle.std.specs.Prelude.{◌==◌}
use Rattle.mc_model.specs.synod.Packet.{Packet}
use Rattle.mc_model.specs.node.Outputs.{Receipt, Reply}
use Rattle.mc_model.specs.node.Setup.{Setup}
use Rattle.node_model.specs.Kept.{Kept}
use Rattle.node_model.specs.Outputs.{Stepped}
use Rattle.table_laws.specs.Alone.{alone}
use Rattle.table_laws.specs.Resting.{IsResting}
use Rattle.table_laws.specs.Settling.{IsOrderly, Settling, SettlesOn, begins_with, delivered, most_deliveries}
use Rattle.table_laws.specs.Tables.{TableNode}
use Rattle.table_laws.proofs.Leading.{nothing_more, settling}
use Rattle.table_laws.proofs.Unmoved.{delivered_unmoved}
use Rattle.sessions.specs.Session.{Session}
use Rattle.sessions.specs.declared.request.OpenRequest.{OpenRequest}
use Rattle.script_text.specs.Settings.{Settings}
use Rattle.script_text.specs.Node.{Node, with_step}
use Rattle.script_text.specs.Prints.{Print}
use Rattle.script_text.specs.Runner.{Owned, reply_prints, session_in}
use Rattle.script_text.specs.OneNode.{OneNode}
use Rattle.calm_laws.proofs.Plain.{IsPlain}
use Rattle.calm_laws.proofs.Windows.{AreWaiting}

-- ---- a node that settles

-- By deliveries of these packets it comes to rest on a table, and this is what it replies meanwhile, and the receipts that it gives out.
pub record SettlesTo (setup : Setup) (k : Kept) (packets : List Packet) (t : TableNode) (replies : List Reply) (receipts : List Receipt) : Type 0 where
  pub deliveries : ℕ
  pub few : deliveries ≤ most_deliveries t
  pub left : (delivered setup deliveries (settling k packets [] [])).packets ≡ []
  pub resting : IsResting (delivered setup deliveries (settling k packets [] [])).kept t
  pub replies_are : (delivered setup deliveries (settling k packets [] [])).replies ≡ replies
  pub receipts_are : (delivered setup deliveries (settling k packets [] [])).receipts ≡ receipts
  pub ordered : IsOrderly setup (settling k packets [] []) replies

-- it does so after a step
pub settles_so : (setup : Setup) (step : Stepped) (t : TableNode) (replies : List Reply) (receipts : List Receipt) →
    SettlesOn setup step t replies receipts → SettlesTo setup step.kept step.outputs.packets t replies receipts
settles_so setup step t replies receipts on =
    let same : begins_with step ≡ settling step.kept step.outputs.packets [] [] =
    λ i. settling step.kept step.outputs.packets (on.replies_later i) (on.receipts_later i) in
    record {
      deliveries = on.deliveries;
      few = on.few;
      left = subst (λ (s : Settling). (delivered setup on.deliveries s).packets ≡ []) same on.left;
      resting = subst (λ (s : Settling). IsResting (delivered setup on.deliveries s).kept t) same on.resting;
      replies_are = subst (λ (s : Settling). (delivered setup on.deliveries s).replies ≡ replies) same on.replies_are;
      receipts_are = subst (λ (s : Settling). (delivered setup on.deliveries s).receipts ≡ receipts) same on.receipts_are;
      ordered = subst (λ (s : Settling). IsOrderly setup s replies) same on.ordered;
    }

pub rests : (setup : Setup) (k : Kept) (t : TableNode) → IsResting k t → SettlesTo setup k [] t [] []
rests setup k t resting = record {
  deliveries = 0;
  few = omega arith;
  left = refl;
  resting = resting;
  replies_are = refl;
  receipts_are = refl;
  ordered = λ n. inr (ap (λ (s : Settling). s.replies) (nothing_more setup (settling k [] [] []) refl n));
}

-- a node that awaits no packet is at rest, and gives nothing out
pub rests_now : (setup : Setup) (k : Kept) (t : TableNode) (replies : List Reply) (receipts : List Receipt) →
    SettlesTo setup k [] t replies receipts → IsResting k t × (receipts ≡ [])
rests_now setup k t replies receipts settles =
    let none = nothing_more setup (settling k [] [] []) refl settles.deliveries in (
      subst (λ (s : Settling). IsResting s.kept t) none settles.resting,
      sym settles.receipts_are ∙ ap (λ (s : Settling). s.receipts) none,
    )

-- ---- the one node by itself

-- Serials begin at 1, its sessions are plain, and of what waits in their windows each attempt is the newest decree of its message.
pub record AreFit (node : TableNode) (sessions : List (ℕ × Session)) : Type 0 where
  pub least : 1 ≤ node.serial
  pub plain : (number : ℕ) → IsPlain (session_in sessions number)
  pub waiting : AreWaiting node.table sessions

-- what it owes and what waits for a session is no matter
abbrev pub IsFit : OneNode → Type 0
IsFit one = AreFit one.node one.sessions

-- ---- the runner's node, and the one node

-- what a session holds of the request that waits, if one does
abbrev pub requests_at : Option Owned → ℕ → List OpenRequest
requests_at None number = []
requests_at (Some owned) number = cond (owned.number == number) (owned.request ∷ []) []

-- the one node owes what the reply will print that comes before the node rests
abbrev pub Owes : List Reply → Option Owned → List Print → Type 0
Owes replies None owed = (replies ≡ []) × (owed ≡ [])
Owes replies (Some owned) owed = (reply : Reply) × (replies ≡ reply ∷ []) × (reply.ticket ≡ owned.request.ticket) × (owed ≡ reply_prints reply (Some owned))

-- The node settles on the table of the one node and gives out the receipts that are due, and there are tickets for so many events more.
pub record Agree (settings : Settings) (first left : ℕ) (one : OneNode) (owned : Option Owned) (node : Node) : Type 0 where
  pub replies : List Reply
  pub fit : IsFit one
  pub room : one.node.ticket + left < 2 ^ 64
  pub setup : node.setup ≡ alone first settings.validity
  pub settles : SettlesTo node.setup node.kept node.packets one.node replies one.due
  pub owes : Owes replies owned one.owed

-- if it is quiet nothing waits
abbrev pub IsQuiet : Bool → Option Owned → Node → Type 0
IsQuiet true owned node = (owned ≡ None) × (node.packets ≡ [])
IsQuiet false owned node = Unit {0}

pub fewer : (settings : Settings) (first left : ℕ) (one : OneNode) (owned : Option Owned) (node : Node) →
    Agree settings first (suc left) one owned node → Agree settings first left one owned node
fewer settings first left one owned node agree = record {
  replies = agree.replies;
  fit = agree.fit;
  room = let room = agree.room in omega (arith, room);
  setup = agree.setup;
  settles = agree.settles;
  owes = agree.owes;
}

-- the clock of the node is that of the table
pub clock_is : (settings : Settings) (first left : ℕ) (one : OneNode) (owned : Option Owned) (node : Node) → Agree settings first left one owned node →
    node.kept.clock ≡ one.node.clock
clock_is settings first left one owned node agree =
    let settles = agree.settles in
    sym (delivered_unmoved node.setup settles.deliveries (settling node.kept node.packets [] [])) ∙ settles.resting.clock

-- sessions of the one node change, and receipts that wait, which are no matter of the node
pub refit : (settings : Settings) (first left : ℕ) (one : OneNode) (owned : Option Owned) (node : Node) (sessions : List (ℕ × Session))
    (waiting : List Receipt) → Agree settings first left one owned node → AreFit one.node sessions →
    Agree settings first left (record one { sessions = sessions; waiting = waiting }) owned node
refit settings first left one owned node sessions waiting agree fit = record {
  replies = agree.replies;
  fit = fit;
  room = agree.room;
  setup = agree.setup;
  settles = agree.settles;
  owes = agree.owes;
}

-- a node at rest
abbrev pub node_of : Settings → ℕ → Kept → Node
node_of settings first k = record { setup = alone first settings.validity; kept = k; packets = [] }

pub rested : (settings : Settings) (first left : ℕ) (one : OneNode) (k : Kept) → IsFit one → one.node.ticket + left < 2 ^ 64 →
    IsResting k one.node → one.owed ≡ [] → one.due ≡ [] → Agree settings first left one None (node_of settings first k)
rested settings first left one k fit room resting owed due = record {
  replies = [];
  fit = fit;
  room = room;
  setup = refl;
  settles =
      subst (SettlesTo (alone first settings.validity) k [] one.node []) (sym due) (rests (alone first settings.validity) k one.node resting);
  owes = (refl, owed);
}

-- a node at rest takes a step that answers nobody
pub stepped_on : (settings : Settings) (first left : ℕ) (one : OneNode) (k : Kept) (step : Stepped) (receipts : List Receipt) → IsFit one →
    one.node.ticket + left < 2 ^ 64 → SettlesOn (alone first settings.validity) step one.node [] receipts → one.owed ≡ [] → one.due ≡ receipts →
    Agree settings first left one None (with_step (node_of settings first k) step)
stepped_on settings first left one k step receipts fit room on owed due = record {
  replies = [];
  fit = fit;
  room = room;
  setup = refl;
  settles =
      subst (SettlesTo (alone first settings.validity) step.kept step.outputs.packets one.node []) (sym due)
      (settles_so (alone first settings.validity) step one.node [] receipts on);
  owes = (refl, owed);
}

-- what the nodes have while it is quiet
pub record AreQuiet (settings : Settings) (first left : ℕ) (one : OneNode) (node : Node) : Type 0 where
  pub node_is : node ≡ node_of settings first node.kept
  pub fit : IsFit one
  pub room : one.node.ticket + left < 2 ^ 64
  pub resting : IsResting node.kept one.node
  pub owed : one.owed ≡ []
  pub due : one.due ≡ []

pub quiet_now : (settings : Settings) (first left : ℕ) (one : OneNode) (owned : Option Owned) (node : Node) →
    Agree settings first left one owned node → IsQuiet true owned node → AreQuiet settings first left one node
quiet_now settings first left one owned node agree quiet =
    let now = rests_now node.setup node.kept one.node agree.replies one.due
    (subst (λ (packets : List Packet). SettlesTo node.setup node.kept packets one.node agree.replies one.due) quiet.1 agree.settles) in
    record {
      node_is = λ i. record { setup = agree.setup i; kept = node.kept; packets = quiet.1 i };
      fit = agree.fit;
      room = agree.room;
      resting = now.0;
      owed = (subst (λ (o : Option Owned). Owes agree.replies o one.owed) quiet.0 agree.owes).1;
      due = now.1;
    }
