-- A node of a cluster goes on by what came of attempts and by a frame, of which it prints at once nothing that tells of a fate.
use Rattle.std.proofs.Common.{◌≡◌, ℕ, Bool, true, false, cond, List, [], ◌∷◌, ◌++◌, map, Option, Some, None, Result, Ok, Err, refl, sym, ap, ◌∙◌, inr}
use Rattle.std.proofs.lemmas.List.{map-append}
use Rattle.mc_model.specs.synod.Packet.{Slot}
use Rattle.mc_model.specs.node.Input.{Input, Response}
use Rattle.mc_model.specs.node.Outcome.{IsOutcome, Outcome}
use Rattle.node_model.specs.Granted.{is_open}
use Rattle.node_laws.specs.Clusters.{NodeInput}
use Rattle.pdu_tables.specs.CommandCodes.{command_of}
use Rattle.pdu_codec.specs.Grammar.{word_at}
use Rattle.pdu_codec.specs.Pdu.{read_pdu}
use Rattle.pdu_fields.specs.declared.fault.PduFault.{PduFault}
use Rattle.pdu_bodies.specs.declared.pdu.Pdu.{Pdu}
use Rattle.sessions.specs.Session.{Session}
use Rattle.sessions.specs.Responses.{requested_by}
use Rattle.sessions.specs.Steps.{Done, on_fault, on_pdu, on_wrong_length}
use Rattle.sessions.specs.declared.pushed.Delivery.{Delivery}
use Rattle.sessions.specs.declared.pushed.Delivery.TheVariants as deliveries
use Rattle.sessions.specs.declared.pushed.Pushed.{Pushed}
use Rattle.sessions.specs.declared.reaction.Reaction.{Reaction}
use Rattle.sessions.specs.declared.reaction.Reaction.TheVariants as reactions
use Rattle.sessions.specs.declared.requested.Requested.{Requested}
use Rattle.desk.specs.declared.request.Request.{Request}
use Rattle.script_text.specs.Left.{rests}
use Rattle.script_text.specs.Attempts.{Went, all_given_up, concluded, delivered_so, given_up, unanswered, went}
use Rattle.script_text.specs.Settings.{Settings}
use Rattle.script_text.specs.Node.{Node, request_at, step_at}
use Rattle.script_text.specs.Prints.{Print}
use Rattle.script_text.specs.Runner.{Came, Served, came_by, nothing_came, on_done, on_read, on_reaction, on_request, refusal_prints, unasked}
use Rattle.world_fates.proofs.node.Clear.{IsClearRequest, read_clear, request_clear}
use Rattle.world_fates.proofs.node.Concluding.{IsPossible, told_possible}
use Rattle.world_fates.proofs.node.Telling.{AreMute, gone_is_mute, refusal_is_mute, response_is_mute}
use Rattle.world_fates.proofs.node.Behind.{behind, behind_then, came_to, input_to}
use Rattle.world_fates.proofs.node.Standing.{IsAt, IsFit, Leads, Member, leads_still, request_steps, response_steps}

-- what came to a node last, behind what came to it first
pub came_then : (number : ℕ) (first last : List Input) (past middle later : List NodeInput) → middle ≡ came_to number first past →
    later ≡ came_to number last middle → later ≡ came_to number (first ++ last) past
came_then number first last past middle later first_is last_is =
    behind_then (map (input_to number) first) (map (input_to number) last) past middle later first_is last_is
    ∙ ap (λ (inputs : List NodeInput). behind inputs past) (sym (map-append (input_to number) first last))

-- ---- what came of attempts

abbrev pub WentLeads : Member → List NodeInput → Went → Type 0
WentLeads member past went = Leads member past went.inputs true went.next

module _ (member : Member) (past : List NodeInput) (fit : IsFit member.cluster past) (node : Node) (at : IsAt member past true node) where
  concluded_leads : (slot : Slot) (outcome : Outcome) → IsOutcome outcome → WentLeads member past (concluded node slot outcome)
  concluded_leads slot outcome possible = by_test (is_open node.kept slot) refl
    where
      by_test : (test : Bool) → is_open node.kept slot ≡ test →
          WentLeads member past (cond {A = Went} test (went node (Response slot outcome)) (rests node))
      by_test true is = (response_steps member past fit node at slot outcome possible is).leads
      by_test false is = leads_still member past true node fit at

  delivered_leads : (delivery : Delivery) (outcome : Option Outcome) → IsPossible outcome → WentLeads member past (delivered_so node delivery outcome)
  delivered_leads (deliveries.Attempt slot) (Some outcome) possible = concluded_leads slot outcome possible
  delivered_leads (deliveries.Attempt slot) None possible = leads_still member past true node fit at
  delivered_leads (deliveries.Receipt id) outcome possible = leads_still member past true node fit at

  -- nobody answered it
  pub unanswered_leads : (slot : Slot) → WentLeads member past (concluded node slot unanswered)
  unanswered_leads slot = concluded_leads slot unanswered (inr refl)

  given_up_leads : (pushed : Pushed) → WentLeads member past (given_up node pushed)
  given_up_leads pushed = delivered_leads pushed.delivery (Some unanswered) (inr refl)

pub all_lead : (member : Member) (past : List NodeInput) → IsFit member.cluster past → (node : Node) → IsAt member past true node →
    (pushed : List Pushed) → WentLeads member past (all_given_up node pushed)
unfolding all_given_up
all_lead member past fit node at [] = leads_still member past true node fit at
all_lead member past fit node at (first ∷ others) =
    let one = given_up node first in
    let here = given_up_leads member past fit node at first in
    let last = all_lead member here.later here.fit one.next here.at others in
    record {
      later = last.later;
      later_is = came_then member.number one.inputs (all_given_up one.next others).inputs past here.later last.later here.later_is last.later_is;
      fit = last.fit;
      at = last.at;
    }

-- ---- a frame

refusal_mute : (number : ℕ) (requested : Requested) (sequence : ℕ) (refused : Option ℕ) → AreMute (refusal_prints number requested sequence refused)
refusal_mute number requested sequence None = tt
refusal_mute number requested sequence (Some status) = ((refusal_is_mute number requested sequence status, tt), tt)

-- what comes tells only of outcomes that are possible, and submits clear texts
abbrev IsSound : Came → Type 0
IsSound came = ((sequence : ℕ) → IsPossible (came.outcome sequence)) × IsClearRequest came.request

-- the node goes on, and what is printed tells nothing of a fate
pub record IsServed (member : Member) (past : List NodeInput) (served : Served) : Type 0 where
  pub leads : Leads member past served.inputs true served.next.node
  pub mute : AreMute served.prints

module _ (member : Member) (past : List NodeInput) (fit : IsFit member.cluster past) (node : Node) (at : IsAt member past true node) where
  nothing_asked : (session : Session) (prints : List Print) → AreMute prints → IsServed member past (unasked node session prints)
  nothing_asked session prints mute = record { leads = leads_still member past true node fit at; mute = mute }

  request_served : (number : ℕ) (session : Session) (requested : Requested) (sequence : ℕ) (account : Option (List ℕ)) (request : Option Request) →
      IsClearRequest request → IsServed member past (on_request number node session requested sequence account request)
  request_served number session requested sequence None request clear = nothing_asked session [] tt
  request_served number session requested sequence (Some account) None clear = nothing_asked session [] tt
  request_served number session requested sequence (Some account) (Some request) clear = record {
    leads = (request_steps member past fit node at account request clear).leads;
    mute = refusal_mute number requested sequence (step_at node (request_at node account request)).outputs.refused;
  }

  reaction_served : (settings : Settings) (number : ℕ) (came : Came) (session : Session) (reaction : Reaction) → IsSound came →
      IsServed member past (on_reaction settings number node came session reaction)
  reaction_served settings number came session (reactions.Ask requested) sound =
      request_served number session requested came.sequence session.account came.request sound.1
  reaction_served settings number came session (reactions.Answered pushed) sound = record {
    leads = delivered_leads member past fit node at pushed.delivery (came.outcome pushed.sequence) (sound.0 pushed.sequence);
    mute = tt;
  }
  reaction_served settings number came session (reactions.Respond outgoing) sound =
      nothing_asked session _ ((response_is_mute number settings.system_id outgoing, tt), tt)
  reaction_served settings number came session (reactions.Leave outgoing abandoned) sound = record {
    leads = all_lead member past fit node at abandoned;
    mute = ((response_is_mute number settings.system_id outgoing, tt), ((gone_is_mute number, tt), tt));
  }
  reaction_served settings number came session other sound = nothing_asked session [] tt

  done_served : (settings : Settings) (number : ℕ) (came : Came) (done : Done) → IsSound came →
      IsServed member past (on_done settings number node came done)
  done_served settings number came done sound = reaction_served settings number came done.next done.reaction sound

  pub read_served : (settings : Settings) (number : ℕ) (session : Session) (octets : List ℕ) (read : Result Pdu PduFault) →
      read_pdu octets ≡ read → IsServed member past (on_read settings number node session octets read)
  read_served settings number session octets (Ok pdu) is =
      done_served settings number (came_by settings pdu) (on_pdu settings.accounts session pdu)
      (λ sequence. told_possible sequence pdu, request_clear settings.routes pdu.body (read_clear octets pdu is))
  read_served settings number session octets (Err fault) is =
      done_served settings number nothing_came (on_fault session fault (requested_by (command_of (word_at 4 octets))) (word_at 12 octets))
      (λ sequence. tt, tt)

  -- a length is wrong
  pub wrong_length_served : (settings : Settings) (number : ℕ) (session : Session) →
      IsServed member past (on_done settings number node nothing_came (on_wrong_length session))
  wrong_length_served settings number session = done_served settings number nothing_came (on_wrong_length session) (λ sequence. tt, tt)
