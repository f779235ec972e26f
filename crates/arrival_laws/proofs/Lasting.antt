-- What is kept of requests that wait and of numbers that are given, if something else of it changes.
use Rattle.std.proofs.Common.{◌≡◌, ℕ, suc, pred, Bool, true, false, List, [], ◌∷◌, Option, Some, None, refl, ◌∙◌}
use Rattle.std.specs.Prelude.{if◌then◌else◌}
use Rattle.mc_model.specs.synod.Packet.{slot_at}
use Rattle.mc_model.specs.node.FirstRule.{Announce, Close, Delete, Expire, Follow, GiveUp, Lose, Rule, Take, Try, Undeliver}
use Rattle.mc_model.specs.node.Reach.{Reach}
use Rattle.mc_model.specs.node.Setup.{Setup}
use Rattle.node_model.specs.Message.{Message}
use Rattle.node_model.specs.Kept.{Kept, message_at, with_message}
use Rattle.node_model.specs.Proposer.{Start, highest_round, is_free, prepared_at, started}
use Rattle.node_model.specs.Rules.{Fitting, first_rule}
use Rattle.node_model.specs.Ticks.{given_up, ruled, ruled_each}

-- the node is up if it was, the next serial is the same, and the same requests wait
pub record Lasts (before after : Kept) : Type 0 where
  pub up : after.up ≡ before.up
  pub serial : after.serial ≡ before.serial
  pub held : after.held ≡ before.held

pub lasts_still : (k : Kept) → Lasts k k
lasts_still k = record { up = refl; serial = refl; held = refl }

pub lasts_then : (first middle last : Kept) → Lasts first middle → Lasts middle last → Lasts first last
lasts_then first middle last one other = record {
  up = other.up ∙ one.up;
  serial = other.serial ∙ one.serial;
  held = other.held ∙ one.held;
}

-- one message changes
pub message_lasts : (k : Kept) (id : ℕ) (m : Message) → Lasts k (with_message k id m)
message_lasts k id m = record { up = refl; serial = refl; held = refl }

-- ---- rounds that start

pub start_lasts : (setup : Setup) (k : Kept) (id : ℕ) (start : Option Start) → Lasts k (started setup k id start).kept
start_lasts setup k id None = lasts_still k
start_lasts setup k id (Some start) = by_free (is_free k (slot_at id start.place))
  where
    by_free : (free : Bool) →
        Lasts k (if free
        then prepared_at setup k (slot_at id start.place) (suc (highest_round k.records (message_at k id) (slot_at id start.place))) start.chain
        else record { kept = k; packets = [] }).kept
    by_free true = message_lasts k id _
    by_free false = lasts_still k

giving_up_lasts : (rule : Rule) (k : Kept) (id place : ℕ) → Lasts k (given_up rule k id place)
giving_up_lasts Take k id place = lasts_still k
giving_up_lasts Follow k id place = lasts_still k
giving_up_lasts Close k id place = lasts_still k
giving_up_lasts Lose k id place = lasts_still k
giving_up_lasts GiveUp k id place = message_lasts k id _
giving_up_lasts Delete k id place = lasts_still k
giving_up_lasts Expire k id place = lasts_still k
giving_up_lasts Undeliver k id place = lasts_still k
giving_up_lasts Try k id place = lasts_still k
giving_up_lasts Announce k id place = lasts_still k

rule_lasts : (setup : Setup) (k : Kept) (id : ℕ) (fit : Option Fitting) → Lasts k (ruled setup k id fit).kept
rule_lasts setup k id None = lasts_still k
rule_lasts setup k id (Some fit) =
    let given = given_up fit.rule k id (pred fit.start.place) in
    lasts_then k given (started setup given id (Some fit.start)).kept (giving_up_lasts fit.rule k id (pred fit.start.place))
    (start_lasts setup given id (Some fit.start))

pub rules_last : (setup : Setup) (reach : Reach) (ids : List ℕ) (k : Kept) → Lasts k (ruled_each setup reach ids k).kept
rules_last setup reach [] k = lasts_still k
rules_last setup reach (id ∷ others) k =
    let first = ruled setup k id (first_rule setup k reach id) in
    lasts_then k first.kept (ruled_each setup reach others first.kept).kept (rule_lasts setup k id (first_rule setup k reach id))
    (rules_last setup reach others first.kept)
