-- What was heard on a session goes to the node, and out, in the words of the text of a script.
use Rattle.std.specs.Prelude.{ℕ, List, [], ◌∷◌, Option, Some, None}
use Rattle.mc_model.specs.node.Input.{Input}
use Rattle.node_model.specs.Outputs.{Stepped}
use Rattle.delivery.specs.Outcomes.{told_in}
use Rattle.desk.specs.declared.request.Request.{Request}
use Rattle.sessions.specs.Responses.{pdu_of}
use Rattle.esme_service.specs.Sessions.{account_at, waits_at}
use Rattle.esme_service.specs.declared.heard.Asked.{Asked}
use Rattle.esme_service.specs.declared.heard.Heard.{Heard}
use Rattle.esme_service.specs.declared.heard.Heard.TheVariants as heards
use Rattle.esme_site.specs.declared.heeded.Heeded.{Heeded}
use Rattle.esme_site.specs.declared.heeded.Heeded.TheVariants as heededs
use Rattle.script_text.specs.Left.{followed_by, rests}
use Rattle.script_text.specs.Settings.{Settings}
use Rattle.script_text.specs.Attempts.{Went, all_given_up, delivered_so}
use Rattle.script_text.specs.Node.{Node, request_at, step_at, with_step}
use Rattle.script_text.specs.Prints.{Print, AtOnce, Gone}
use Rattle.script_text.specs.Runner.{Acted, Runner, posts_for, refusal_prints}

-- the node went on by what came of attempts, and this is printed
abbrev pub by_went : Runner → Went → List Print → Acted
by_went runner went prints = record { next = record runner { node = went.next }; inputs = went.inputs; prints = prints }

-- the node takes the step of a request: it waits on its session, or is refused there
abbrev pub asked_by : ℕ → Runner → Asked → Input → Stepped → Acted
asked_by number runner asked input step = record {
  next = record runner {
    node = with_step runner.node step;
    sessions = waits_at runner.sessions number asked.requested asked.sequence step.outputs.ticket;
  };
  inputs = input ∷ [];
  prints = refusal_prints number asked.requested asked.sequence step.outputs.refused;
}

abbrev pub asks_if : ℕ → Runner → Asked → Request → Option (List ℕ) → Acted
asks_if number runner asked request None = rests runner
asks_if number runner asked request (Some account) =
    asked_by number runner asked (request_at runner.node account request) (step_at runner.node (request_at runner.node account request))

-- what comes of what was heard on the session of a number
abbrev pub heeded : Settings → ℕ → Runner → Heard → Acted
heeded settings number runner heards.Nothing = rests runner
heeded settings number runner (heards.Response outgoing) =
    record { next = runner; inputs = []; prints = AtOnce number (pdu_of settings.system_id outgoing) ∷ [] }
heeded settings number runner (heards.Request asked request) = asks_if number runner asked request (account_at runner.sessions number)
heeded settings number runner (heards.Answer pushed pdu) = by_went runner (delivered_so runner.node pushed.delivery (told_in pushed.sequence pdu)) []
heeded settings number runner (heards.Gone outgoing abandoned) =
    by_went runner (all_given_up runner.node abandoned) (AtOnce number (pdu_of settings.system_id outgoing) ∷ Gone number ∷ [])

-- what comes of attempts by what came of what was heard
abbrev pub went_by : Node → Heeded → Went
went_by node heededs.Nothing = rests node
went_by node (heededs.Response outgoing) = rests node
went_by node (heededs.Request asked refusal) = rests node
went_by node (heededs.Answer pushed pdu) = delivered_so node pushed.delivery (told_in pushed.sequence pdu)
went_by node (heededs.Gone outgoing abandoned) = all_given_up node abandoned

-- and then what waits for the account of that session goes out
abbrev pub then_posts : ℕ → Acted → Acted
then_posts number acted = followed_by acted (posts_for acted.next (account_at acted.next.sessions number))
