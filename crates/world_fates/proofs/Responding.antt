-- What a session answers at once to a PDU: with which sequence_number, and with which command_status.
use Rattle.std.proofs.Common.{◌≡◌, ◌⊎◌, ℕ, Bool, true, false, List, [], ◌∷◌, Option, Some, None, Ok, Err, refl, sym, subst, inl, inr, arith}
use Rattle.std.specs.Prelude.{◌≢◌, if◌then◌else◌, not}
use Rattle.std.specs.Str.{bytes_eq}
use Rattle.mc_model.specs.synod.Lists.{In}
use Rattle.accounts.specs.Accounts.{account_of, allows, bind_refusal}
use Rattle.accounts.specs.declared.account.Account.{Account}
use Rattle.accounts.specs.declared.role.Role.{Role}
use Rattle.pdu_tables.specs.CommandCodes.{command_of}
use Rattle.pdu_tables.specs.StatusCodes.{status_code}
use Rattle.pdu_tables.specs.declared.command.Command.{Command}
use Rattle.pdu_tables.specs.declared.command.Command.TheVariants as commands
use Rattle.pdu_tables.specs.declared.status.Status.{Status}
use Rattle.pdu_tables.specs.declared.status.Status.TheVariants as statuses
use Rattle.pdu_fields.specs.declared.fault.PduFault.{PduFault}
use Rattle.pdu_fields.specs.declared.fault.PduFault.TheVariants as faults
use Rattle.pdu_bodies.specs.declared.pdu.Bind.{Bind}
use Rattle.pdu_bodies.specs.declared.pdu.Pdu.{Pdu}
use Rattle.pdu_codec.specs.Bodies.{command_in}
use Rattle.pdu_codec.specs.Grammar.{word_at}
use Rattle.sessions.specs.Faults.{told_of}
use Rattle.sessions.specs.Responses.{bind_request, pdu_of, requested_by, response_pdu}
use Rattle.sessions.specs.Session.{Session}
use Rattle.sessions.specs.States.{in_state, is_gone}
use Rattle.sessions.specs.Steps.{answers_to, asks, bind_in, binds_by, binds_unless, on_cell, on_pdu, refused, request_in, responds}
use Rattle.sessions.specs.Table.{Cell, Binds, Refuses, Asks, Unbinds, Links, NotServed, Answers, Drops, cell_of}
use Rattle.sessions.specs.Windows.{has_room}
use Rattle.sessions.specs.declared.pushed.Pushed.{Pushed}
use Rattle.sessions.specs.declared.reaction.Reaction.{Reaction}
use Rattle.sessions.specs.declared.reaction.Reaction.TheVariants as reactions
use Rattle.sessions.specs.declared.requested.Requested.{Requested}
use Rattle.sessions.specs.declared.response.Response.{Response}
use Rattle.sessions.specs.declared.response.Response.TheVariants.{Bound, Linked, Nack, Refused, Unbound}
use Rattle.sessions.specs.declared.state.SessionState.{SessionState}
use Rattle.sessions.specs.declared.state.SessionState.TheVariants as states
use Rattle.desk.specs.declared.request.Request.{Request}
use Rattle.script_text.specs.Node.{Node, request_at, step_at}
use Rattle.script_text.specs.Prints.{AtOnce, Print}
use Rattle.script_text.specs.Runner.{Came, came_by, nothing_came, on_reaction, on_read, on_request, refusal_prints, request_of}
use Rattle.script_text.specs.Settings.{Settings}
use Rattle.world_fates.proofs.Ending.{length_told}

-- so is each PDU that these answer at once
abbrev pub AllOnce : (Pdu → Type 0) → List Print → Type 0
AllOnce So prints = (session : ℕ) (pdu : Pdu) → In (AtOnce session pdu) prints → So pdu

only_once : (So : Pdu → Type 0) (number : ℕ) (one : Pdu) → So one → AllOnce So (AtOnce number one ∷ [])
only_once So number one so session pdu (inl same) = subst So (sym (the_pdu same)) so
  where
    the_pdu : AtOnce session pdu ≡ AtOnce number one → pdu ≡ one
    the_pdu same = cc
only_once So number one so session pdu (inr none) = absurd none

-- ---- what comes of a PDU at its session

-- What a response may be: so are those that the centre gives, with a status that may be.
pub record MayRespond (settings : Settings) (So : Pdu → Type 0) (May : Status → Type 0) (sequence : ℕ) : Type 0 where
  nack : So (response_pdu settings.system_id sequence (Nack statuses.InvalidCommandId))
  refuses : (requested : Requested) (status : Status) → May status → So (response_pdu settings.system_id sequence (Refused requested status))
  bound : (role : Role) (version : ℕ) → So (response_pdu settings.system_id sequence (Bound role version))
  unbound : So (response_pdu settings.system_id sequence Unbound)
  linked : So (response_pdu settings.system_id sequence Linked)
  throttled : May statuses.Throttled
  already : May statuses.AlreadyBound
  unfit : May statuses.InvalidBindStatus
  unknown : May statuses.InvalidSystemId
  password : May statuses.InvalidPassword
  role : May statuses.BindFailed

module _ (settings : Settings) (So : Pdu → Type 0) (May : Status → Type 0) (sequence : ℕ) (respond : MayRespond settings So May sequence) where
  -- what goes out by a reaction is so
  Outgoes : Reaction → Type 0
  Outgoes (reactions.Respond outgoing) = So (pdu_of settings.system_id outgoing)
  Outgoes (reactions.Leave outgoing abandoned) = So (pdu_of settings.system_id outgoing)
  Outgoes (reactions.Ask requested) = Unit {0}
  Outgoes (reactions.Answered pushed) = Unit {0}
  Outgoes reactions.Nothing = Unit {0}

  refuses_so : (requested : Option Requested) (status : Status) → May status → Outgoes (refused sequence requested status)
  unfolding Outgoes
  refuses_so None status may = tt
  refuses_so (Some requested) status may = respond.refuses requested status may

  asks_so : (session : Session) (requested : Option Requested) → Outgoes (asks session sequence requested)
  unfolding Outgoes
  asks_so session None = tt
  asks_so session (Some requested) = by_room (has_room session.requests)
    where
      by_room : (room : Bool) → Outgoes (if room then reactions.Ask requested else refused sequence (Some requested) statuses.Throttled)
      by_room true = tt
      by_room false = respond.refuses requested statuses.Throttled respond.throttled

  answers_so : (found : Option Pushed) → Outgoes (answers_to found)
  unfolding Outgoes
  answers_so None = tt
  answers_so (Some pushed) = tt

  binds_so : (accounts : List Account) (session : Session) (role : Role) (bind : Option Bind) → Outgoes (binds_by accounts session sequence role bind).reaction
  unfolding Outgoes
  binds_so accounts session role None = tt
  binds_so accounts session role (Some bind) = by_account (account_of accounts bind.system_id)
    where
      by_role : (fits : Bool) → Outgoes (binds_unless (if not fits then Some statuses.BindFailed else None) session sequence role bind).reaction
      by_role true = respond.bound role bind.interface_version
      by_role false = respond.refuses (bind_request role) statuses.BindFailed respond.role

      by_password : (account : Account) (same : Bool) →
          Outgoes (binds_unless (if not same then Some statuses.InvalidPassword else if not (allows account role) then Some statuses.BindFailed else None)
          session sequence role bind).reaction
      by_password account true = by_role (allows account role)
      by_password account false = respond.refuses (bind_request role) statuses.InvalidPassword respond.password

      by_account : (account : Option Account) → Outgoes (binds_unless (bind_refusal account role bind) session sequence role bind).reaction
      by_account None = respond.refuses (bind_request role) statuses.InvalidSystemId respond.unknown
      by_account (Some account) = by_password account (bytes_eq account.password bind.password)

  -- a cell refuses with a status that may be
  abbrev CellMay : Cell → Type 0
  CellMay (Refuses status) = May status
  CellMay other = Unit {0}

  in_state_may : (state : SessionState) (fresh transmitter receiver transceiver gone : Cell) → CellMay fresh → CellMay transmitter → CellMay receiver →
      CellMay transceiver → CellMay gone → CellMay (in_state state fresh transmitter receiver transceiver gone)
  in_state_may states.Fresh fresh transmitter receiver transceiver gone a b c d e = a
  in_state_may states.Transmitter fresh transmitter receiver transceiver gone a b c d e = b
  in_state_may states.Receiver fresh transmitter receiver transceiver gone a b c d e = c
  in_state_may states.Transceiver fresh transmitter receiver transceiver gone a b c d e = d
  in_state_may states.Gone fresh transmitter receiver transceiver gone a b c d e = e

  cell_may : (command : Command) (state : SessionState) → CellMay (cell_of command state)
  cell_may commands.BindReceiver state = in_state_may state _ _ _ _ _ tt respond.already respond.already respond.already tt
  cell_may commands.BindTransmitter state = in_state_may state _ _ _ _ _ tt respond.already respond.already respond.already tt
  cell_may commands.BindTransceiver state = in_state_may state _ _ _ _ _ tt respond.already respond.already respond.already tt
  cell_may commands.SubmitSm state = in_state_may state _ _ _ _ _ respond.unfit tt respond.unfit tt tt
  cell_may commands.QuerySm state = in_state_may state _ _ _ _ _ respond.unfit tt respond.unfit tt tt
  cell_may commands.CancelSm state = in_state_may state _ _ _ _ _ respond.unfit tt respond.unfit tt tt
  cell_may commands.Unbind state = in_state_may state _ _ _ _ _ respond.unfit tt tt tt tt
  cell_may commands.EnquireLink state = in_state_may state Links Links Links Links Drops tt tt tt tt tt
  cell_may commands.DeliverSm state = in_state_may state NotServed NotServed NotServed NotServed Drops tt tt tt tt tt
  cell_may commands.DeliverSmResp state = in_state_may state Answers Answers Answers Answers Drops tt tt tt tt tt
  cell_may commands.GenericNack state = in_state_may state Answers Answers Answers Answers Drops tt tt tt tt tt
  cell_may other state = tt

  cell_so : (accounts : List Account) (session : Session) (pdu : Pdu) → pdu.sequence ≡ sequence → (cell : Cell) → CellMay cell →
      Outgoes (on_cell accounts session pdu cell).reaction
  unfolding Outgoes
  cell_so accounts session pdu same (Binds role) may =
      subst (λ (n : ℕ). Outgoes (binds_by accounts session n role (bind_in pdu.body)).reaction) (sym same)
      (binds_so accounts session role (bind_in pdu.body))
  cell_so accounts session pdu same (Refuses status) may =
      subst (λ (n : ℕ). Outgoes (refused n (request_in pdu) status)) (sym same) (refuses_so (request_in pdu) status may)
  cell_so accounts session pdu same Asks may =
      subst (λ (n : ℕ). Outgoes (asks session n (request_in pdu))) (sym same) (asks_so session (request_in pdu))
  cell_so accounts session pdu same Unbinds may = subst (λ (n : ℕ). So (response_pdu settings.system_id n Unbound)) (sym same) respond.unbound
  cell_so accounts session pdu same Links may = subst (λ (n : ℕ). So (response_pdu settings.system_id n Linked)) (sym same) respond.linked
  cell_so accounts session pdu same NotServed may =
      subst (λ (n : ℕ). So (response_pdu settings.system_id n (Nack statuses.InvalidCommandId))) (sym same) respond.nack
  cell_so accounts session pdu same Answers may = answers_so _
  cell_so accounts session pdu same Drops may = tt

  pdu_so : (accounts : List Account) (session : Session) (pdu : Pdu) → pdu.sequence ≡ sequence → Outgoes (on_pdu accounts session pdu).reaction
  pdu_so accounts session pdu same = cell_so accounts session pdu same _ (cell_may (command_in pdu.body) session.state)

  module _ (number : ℕ) (node : Node) where
    -- what is answered at once is so
    reaction_once : (came : Came) (left : Session) (reaction : Reaction) → Outgoes reaction →
        ((requested : Requested) → AllOnce So (on_request number node left requested came.sequence left.account came.request).prints) →
        AllOnce So (on_reaction settings number node came left reaction).prints
    unfolding Outgoes
    reaction_once came left (reactions.Ask requested) so asked session pdu among = asked requested session pdu among
    reaction_once came left (reactions.Answered pushed) so asked session pdu among = absurd among
    reaction_once came left (reactions.Leave outgoing abandoned) so asked session pdu (inl same) = subst So (sym (the_pdu same)) so
      where
        the_pdu : AtOnce session pdu ≡ AtOnce number (pdu_of settings.system_id outgoing) → pdu ≡ pdu_of settings.system_id outgoing
        the_pdu same = cc
    reaction_once came left (reactions.Leave outgoing abandoned) so asked session pdu (inr (inl same)) = absurd cc
    reaction_once came left (reactions.Leave outgoing abandoned) so asked session pdu (inr (inr none)) = absurd none
    reaction_once came left (reactions.Respond outgoing) so asked session pdu among =
        only_once So number (pdu_of settings.system_id outgoing) so session pdu among
    reaction_once came left reactions.Nothing so asked session pdu among = absurd among

    pub read_once : (left : Session) (octets : List ℕ) (asked : Pdu) → asked.sequence ≡ sequence →
        ((session : Session) (requested : Requested) →
        AllOnce So (on_request number node session requested asked.sequence session.account (request_of settings.routes asked.body)).prints) →
        AllOnce So (on_read settings number node left octets (Ok asked)).prints
    read_once left octets asked same requests =
        let done = on_pdu settings.accounts left asked in
        reaction_once (came_by settings asked) done.next done.reaction (pdu_so settings.accounts left asked same) (requests done.next)

-- ---- its sequence_number

module _ (settings : Settings) (number : ℕ) (node : Node) (left : Session) (octets : List ℕ) where
  response_sequence : (sequence : ℕ) (response : Response) → (response_pdu settings.system_id sequence response).sequence ≡ sequence
  response_sequence sequence (Nack status) = refl
  response_sequence sequence (Refused requested status) = refl
  response_sequence sequence (Bound role version) = refl
  response_sequence sequence Unbound = refl
  response_sequence sequence Linked = refl

  abbrev Has : ℕ → Pdu → Type 0
  Has sequence pdu = pdu.sequence ≡ sequence

  any_may : (sequence : ℕ) → MayRespond settings (Has sequence) (λ status. Unit {0}) sequence
  any_may sequence = record {
    nack = refl;
    refuses = λ requested status may. refl;
    bound = λ role version. refl;
    unbound = refl;
    linked = refl;
    throttled = tt;
    already = tt;
    unfit = tt;
    unknown = tt;
    password = tt;
    role = tt;
  }

  request_sequence : (session : Session) (requested : Requested) (sequence : ℕ) (account : Option (List ℕ)) (request : Option Request) →
      AllOnce (Has sequence) (on_request number node session requested sequence account request).prints
  request_sequence session requested sequence None request other pdu among = absurd among
  request_sequence session requested sequence (Some account) None other pdu among = absurd among
  request_sequence session requested sequence (Some account) (Some request) other pdu among =
      by_refused (step_at node (request_at node account request)).outputs.refused other pdu among
    where
      by_refused : (refused : Option ℕ) → AllOnce (Has sequence) (refusal_prints number requested sequence refused)
      by_refused None = λ other pdu among. absurd among
      by_refused (Some status) = only_once (Has sequence) number _ refl

  pub answered_sequence : (asked : Pdu) → AllOnce (Has asked.sequence) (on_read settings number node left octets (Ok asked)).prints
  answered_sequence asked =
      read_once settings (Has asked.sequence) (λ status. Unit {0}) asked.sequence (any_may asked.sequence) number node left octets asked refl
      (λ session requested. request_sequence session requested asked.sequence session.account (request_of settings.routes asked.body))

  -- ---- its status

  abbrev pub IsNotUnknown : Pdu → Type 0
  IsNotUnknown pdu = pdu.status ≢ status_code statuses.InvalidMessageId

  known_may : (sequence : ℕ) → MayRespond settings IsNotUnknown (λ status. status_code status ≢ status_code statuses.InvalidMessageId) sequence
  known_may sequence = record {
    nack = λ is. omega (arith, is);
    refuses = λ requested status may. may;
    bound = λ role version is. omega (arith, is);
    unbound = λ is. omega (arith, is);
    linked = λ is. omega (arith, is);
    throttled = λ is. omega (arith, is);
    already = λ is. omega (arith, is);
    unfit = λ is. omega (arith, is);
    unknown = λ is. omega (arith, is);
    password = λ is. omega (arith, is);
    role = λ is. omega (arith, is);
  }

  -- what is no request for the node is not refused so
  pub unasked_known : (asked : Pdu) → request_of settings.routes asked.body ≡ None →
      AllOnce IsNotUnknown (on_read settings number node left octets (Ok asked)).prints
  unasked_known asked none =
      read_once settings IsNotUnknown (λ status. status_code status ≢ status_code statuses.InvalidMessageId) asked.sequence (known_may asked.sequence)
      number node left octets asked refl
      (λ session requested. subst
      (λ (request : Option Request). AllOnce IsNotUnknown (on_request number node session requested asked.sequence session.account request).prints)
      (sym none) (nothing_asked session requested asked.sequence session.account))
    where
      nothing_asked : (session : Session) (requested : Requested) (sequence : ℕ) (account : Option (List ℕ)) →
          AllOnce IsNotUnknown (on_request number node session requested sequence account None).prints
      nothing_asked session requested sequence None other pdu among = absurd among
      nothing_asked session requested sequence (Some account) other pdu among = absurd among

  -- a fault is told with the sequence_number of the header, or it is a wrong length
  abbrev pub TellsAFault : Pdu → Type 0
  TellsAFault pdu = (pdu.sequence ≡ word_at 12 octets) ⊎ (pdu.status ≡ status_code statuses.InvalidCommandLength)

  header_told : (response : Option Response) → AllOnce TellsAFault (on_reaction settings number node nothing_came left
      (if is_gone left.state then reactions.Nothing else responds (word_at 12 octets) response)).prints
  header_told response = by_gone (is_gone left.state)
    where
      by_response : (r : Option Response) → AllOnce TellsAFault (on_reaction settings number node nothing_came left (responds (word_at 12 octets) r)).prints
      by_response None = λ other pdu among. absurd among
      by_response (Some r) = only_once TellsAFault number _ (inl (response_sequence (word_at 12 octets) r))

      by_gone : (gone : Bool) → AllOnce TellsAFault (on_reaction settings number node nothing_came left
          (if gone then reactions.Nothing else responds (word_at 12 octets) response)).prints
      by_gone true = λ other pdu among. absurd among
      by_gone false = by_response response

  pub fault_told : (fault : PduFault) → AllOnce TellsAFault (on_read settings number node left octets (Err fault)).prints
  fault_told faults.Length = λ other pdu among. inr (length_told settings number node left other pdu among)
  fault_told faults.Command = header_told (told_of faults.Command (requested_by (command_of (word_at 4 octets))))
  fault_told (faults.Cut field) = header_told (told_of (faults.Cut field) (requested_by (command_of (word_at 4 octets))))
  fault_told (faults.LongText field) = header_told (told_of (faults.LongText field) (requested_by (command_of (word_at 4 octets))))
  fault_told faults.TextLength = header_told (told_of faults.TextLength (requested_by (command_of (word_at 4 octets))))
  fault_told faults.Tlvs = header_told (told_of faults.Tlvs (requested_by (command_of (word_at 4 octets))))
  fault_told faults.Extra = header_told (told_of faults.Extra (requested_by (command_of (word_at 4 octets))))
  fault_told faults.Memory = header_told (told_of faults.Memory (requested_by (command_of (word_at 4 octets))))
