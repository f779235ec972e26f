-- What is due is the first rule of a tick that fits what is known.
use Rattle.std.proofs.Common.{◌≡◌, refl, ap, ◌∙◌, ℕ, Bool, List, ◌∷◌, length, Option, Some}
use Rattle.mc_model.specs.message.Submission.{Submission}
use Rattle.mc_model.specs.message.Decree.{Decree}
use Rattle.mc_model.specs.message.Chain.{taken_in}
use Rattle.mc_model.specs.node.Reach.{Reach, may_begin}
use Rattle.mc_model.specs.node.Setup.{Setup}
use Rattle.std.specs.Prelude.{if◌then◌else◌}
use Rattle.std.specs.Option.{option_or}
use Rattle.mc_model.specs.node.FirstRule.{Announce, Delete, Expire, Try, Undeliver}
use Rattle.node_model.specs.Kept.{Kept, message_at}
use Rattle.node_model.specs.Starts.{announced, delete_of}
use Rattle.node_model.specs.Rules as model
use Rattle.node_model.specs.Rules.{attempt_rule, expiring, fitting, if_so, is_attempt_by, known_rule, tried, undelivered}
use Rattle.tick_rules.specs.declared.attempted.Attempted.{Attempted}
use Rattle.tick_rules.specs.declared.standpoint.Standpoint.{Standpoint}
use Rattle.tick_rules.specs.Dues.{own_rule}
use Rattle.tick_rules.specs.Reaching.{reached_by}
use Rattle.tick_rules.specs.Seen.{IsSeen}

pub rule_seen : (setup : Setup) (k : Kept) (reach : Reach) (id : ℕ) (newest : Decree) (older : List Decree) (taken : Submission)
    (s : Standpoint) (a : Attempted)
    (cancelled : Bool) → taken_in (newest ∷ older) ≡ Some taken → IsSeen setup k id taken (length older) s a cancelled →
    known_rule setup k reach id (Some (newest ∷ older)) ≡ own_rule s a cancelled (reached_by reach id taken) newest older taken
rule_seen setup k reach id newest older taken s a cancelled message seen =
    ap (model.own_rule setup k reach id newest older) message
    ∙ (ap
    (λ (of : Option Submission).
    if is_attempt_by setup.node newest newest.kind
    then attempt_rule setup k (message_at k id) (reach.up taken.target) newest older
    else option_or (fitting Delete (delete_of setup k id k.held newest older of))
    (option_or (fitting Expire (expiring setup k taken newest older))
    (option_or (fitting Undeliver (undelivered setup k newest older newest.kind))
    (option_or (fitting Try (if_so (may_begin reach id taken.target) (tried setup k taken newest older newest.kind)))
    (fitting Announce (announced setup k taken newest older newest.kind))))))
    message
    ∙ rw (seen.node, seen.incarnation, seen.clock, seen.granted, seen.closed, seen.asked) refl)
