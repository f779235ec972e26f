-- Calm scripts: between two settles at most one thing happens that a node tells to other nodes, or waits for.
use Rattle.std.specs.Prelude.{◌≡◌, ℕ, ◌<◌, ◌≤◌, ◌-◌, ◌^◌, ◌&&◌, Bool, true, false, is_some, List, [], ◌∷◌, length, Option, Some, None, Result, Ok, Err}
use Rattle.std.specs.List.{flat_map}
use Rattle.mc_types.specs.Texts.{id_in}
use Rattle.accounts.specs.Accounts.{account_of, bind_refusal}
use Rattle.accounts.specs.declared.account.Account.{Account}
use Rattle.accounts.specs.declared.role.Role.TheVariants as roles
use Rattle.pdu_tables.specs.declared.status.Status.{Status}
use Rattle.pdu_codec.specs.Pdu.{read_pdu}
use Rattle.pdu_fields.specs.declared.fault.PduFault.{PduFault}
use Rattle.pdu_bodies.specs.declared.pdu.Body.{Body}
use Rattle.pdu_bodies.specs.declared.pdu.Body.TheVariants as bodies
use Rattle.pdu_bodies.specs.declared.pdu.Pdu.{Pdu}
use Rattle.sessions.specs.declared.pushed.Pushed.{Pushed}
use Rattle.script_text.specs.Events.{Event, Comes, Ticks, Grants, Settles, Play, play_of}
use Rattle.script_text.specs.Settings.{Settings, script_settings}
use Rattle.script_text.specs.OneNode.{OneNode, account_at, happens, one_node, played}

-- how an event fits into a calm script
pub data Stir : Type 0 where
  -- the node itself answers it, or nothing does
  Still : Stir
  -- it may happen once before the next settle
  Stirs : Stir
  -- it may not happen
  Never : Stir

abbrev pub stirs_if : Bool → Stir
stirs_if true = Stirs
stirs_if false = Never

-- a question, which is for an id
abbrev pub id_stirs : List ℕ → Stir
id_stirs message_id = stirs_if (is_some (id_in message_id))

-- a bind in another role may come if it is refused: the session is bound already, or a check of the bind fails
abbrev pub bind_stir : Option (List ℕ) → Option Status → Stir
bind_stir (Some account) refusal = Still
bind_stir None (Some status) = Still
bind_stir None None = Never

-- so may an unbind, on a session that is not bound
abbrev pub unbind_stir : Option (List ℕ) → Stir
unbind_stir (Some account) = Never
unbind_stir None = Still

-- A body on a session of this account, or of none: no session is bound but as a transceiver, none is ended, and no question is for
-- what is no id. Requests for the node and answers of the ESME come once before a settle.
abbrev pub body_stir : List Account → Option (List ℕ) → Body → Stir
body_stir accounts account (bodies.BindReceiver bind) = bind_stir account (bind_refusal (account_of accounts bind.system_id) roles.Receiver bind)
body_stir accounts account (bodies.BindTransmitter bind) = bind_stir account (bind_refusal (account_of accounts bind.system_id) roles.Transmitter bind)
body_stir accounts account bodies.Unbind = unbind_stir account
body_stir accounts account (bodies.SubmitSm message) = Stirs
body_stir accounts account (bodies.QuerySm query) = id_stirs query.message_id
body_stir accounts account (bodies.CancelSm cancel) = id_stirs cancel.message_id
body_stir accounts account (bodies.DeliverSmResp message_id) = Stirs
body_stir accounts account bodies.GenericNack = Stirs
body_stir accounts account other = Still

abbrev pub read_stir : List Account → Option (List ℕ) → Result Pdu PduFault → Stir
read_stir accounts account (Ok pdu) = body_stir accounts account pdu.body
read_stir accounts account (Err fault) = Still

-- what was pushed and waits for its answer
abbrev pub pushed_in : OneNode → List Pushed
pushed_in one = flat_map (λ entry. entry.1.pushed) one.sessions

-- a moment comes when nothing that was pushed waits
abbrev pub tick_stir : List Pushed → Stir
tick_stir [] = Stirs
tick_stir (pushed ∷ others) = Never

abbrev pub event_stir : Settings → OneNode → Event → Stir
event_stir settings one (Comes number octets) = read_stir settings.accounts (account_at one number) (read_pdu octets)
event_stir settings one (Ticks moment) = tick_stir (pushed_in one)
event_stir settings one (Grants id) = Stirs
event_stir settings one Settles = Still

abbrev pub quiet_by : Bool → Stir → Bool
quiet_by quiet Still = quiet
quiet_by quiet Stirs = false
quiet_by quiet Never = quiet

-- whether it is quiet after an event, so that something may happen before the next settle
abbrev pub quiet_after : Settings → OneNode → Bool → Event → Bool
quiet_after settings one quiet (Comes number octets) = quiet_by quiet (read_stir settings.accounts (account_at one number) (read_pdu octets))
quiet_after settings one quiet (Ticks moment) = false
quiet_after settings one quiet (Grants id) = false
quiet_after settings one quiet Settles = true

abbrev pub may_happen : Bool → Stir → Bool
may_happen quiet Still = true
may_happen quiet Stirs = quiet
may_happen quiet Never = false

-- events are calm at a node, from a moment on at which it is quiet or not
unfoldable pub are_calm : Settings → OneNode → Bool → List Event → Bool
are_calm settings one quiet [] = true
are_calm settings one quiet (event ∷ events) =
    may_happen quiet (event_stir settings one event)
    && are_calm settings (happens settings one event).next (quiet_after settings one quiet event) events

-- A calm script begins with `nodes 1`, has no bad line and no PDU of a wrong length, binds transceivers alone and ends no session, and
-- leaves no deliver_sm unanswered at a tick;
-- at most 10,000 messages are taken; and so little happens that tickets do not run out (own).
pub record IsCalm (script : List ℕ) : Type 0 where
  pub play : Play
  pub played_by : play_of script ≡ Some play
  pub calm : are_calm script_settings (one_node play.serial) true play.events ≡ true
  pub messages : length (played play).next.node.table ≤ 10000
  pub tickets : length play.events < 2 ^ 64 - 1
