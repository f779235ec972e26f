-- What a session of a calm script does when a PDU comes, whatever waits in its window.
use Rattle.std.proofs.Common.{◌≡◌, ◌⊎◌, ℕ, Bool, true, cond, List, [], Option, Some, None, inl, inr, refl, subst}
use Rattle.accounts.specs.Accounts.{account_of, bind_refusal}
use Rattle.accounts.specs.declared.account.Account.{Account}
use Rattle.accounts.specs.declared.role.Role.{Role}
use Rattle.accounts.specs.declared.role.Role.TheVariants as roles
use Rattle.pdu_tables.specs.declared.status.Status.{Status}
use Rattle.pdu_fields.specs.declared.fault.PduFault.{PduFault}
use Rattle.pdu_fields.specs.declared.fault.PduFault.TheVariants as faults
use Rattle.pdu_bodies.specs.declared.pdu.Bind.{Bind}
use Rattle.pdu_bodies.specs.declared.pdu.Body.{Body}
use Rattle.pdu_bodies.specs.declared.pdu.Body.TheVariants as bodies
use Rattle.pdu_bodies.specs.declared.pdu.Pdu.{Pdu}
use Rattle.sessions.specs.Session.{Session}
use Rattle.sessions.specs.Faults.{told_of}
use Rattle.sessions.specs.Steps.{Done, binds_unless, on_fault, on_pdu, responds}
use Rattle.sessions.specs.States.{is_gone}
use Rattle.sessions.specs.declared.pushed.Pushed.{Pushed}
use Rattle.sessions.specs.declared.reaction.Reaction.{Reaction}
use Rattle.sessions.specs.declared.reaction.Reaction.TheVariants as reactions
use Rattle.sessions.specs.declared.request.OpenRequest.{OpenRequest}
use Rattle.sessions.specs.declared.requested.Requested.{Requested}
use Rattle.sessions.specs.declared.response.Outgoing.{Outgoing}
use Rattle.sessions.specs.declared.response.Response.{Response}
use Rattle.script_text.specs.Calm.{bind_stir, body_stir, may_happen}
use Rattle.calm_laws.proofs.Plain.{IsPlain, holding, like, plain_is}

-- what goes out at once, if anything
abbrev pub out_of : Option Outgoing → Reaction
out_of None = reactions.Nothing
out_of (Some outgoing) = reactions.Respond outgoing

-- What a session does if these requests wait in its window, and if none does: it answers alike, and is left so. What was pushed still waits.
pub record AreAlike (before : Session) (waiting : List OpenRequest) (ours theirs : Done) : Type 0 where
  pub next : Session
  pub out : Option Outgoing
  pub ours_is : ours ≡ record { next = holding next waiting; reaction = out_of out }
  pub theirs_is : theirs ≡ record { next = next; reaction = out_of out }
  pub plain : IsPlain next
  pub pushed : next.pushed ≡ before.pushed
  pub silent : out ≡ None → next ≡ before

-- what is a matter of the node: a request, on a session that is bound, and an answer to what was pushed
abbrev pub IsForNode : Option (List ℕ) → Body → Type 0
IsForNode (Some account) (bodies.SubmitSm message) = Unit {0}
IsForNode (Some account) (bodies.QuerySm query) = Unit {0}
IsForNode (Some account) (bodies.CancelSm cancel) = Unit {0}
IsForNode account (bodies.DeliverSmResp message_id) = Unit {0}
IsForNode account bodies.GenericNack = Unit {0}
IsForNode account other = ⊥

module _ (version sequence : ℕ) (pushed : List Pushed) (waiting : List OpenRequest) where
  -- a session of this account, or of none
  abbrev mine : Option (List ℕ) → Session
  mine account = like account version pushed sequence waiting

  abbrev theirs : Option (List ℕ) → Session
  theirs account = like account version pushed sequence []

  stays_alike : (account : Option (List ℕ)) (out : Option Outgoing) →
      AreAlike (theirs account) waiting (record { next = mine account; reaction = out_of out }) (record { next = theirs account; reaction = out_of out })
  stays_alike account out = record {
    next = theirs account;
    out = out;
    ours_is = refl;
    theirs_is = refl;
    plain = record { state = refl; idle = refl };
    pushed = refl;
    silent = λ is. refl;
  }

  binds_alike : (refusal : Option Status) (number : ℕ) (bind : Bind) →
      AreAlike (theirs None) waiting (binds_unless refusal (mine None) number roles.Transceiver bind)
      (binds_unless refusal (theirs None) number roles.Transceiver bind)
  binds_alike None number bind = record {
    next = (binds_unless None (theirs None) number roles.Transceiver bind).next;
    out = Some _;
    ours_is = refl;
    theirs_is = refl;
    plain = record { state = refl; idle = refl };
    pushed = refl;
    silent = λ is. absurd cc;
  }
  binds_alike (Some status) number bind = stays_alike None (Some _)

  -- a bind in another role that may come is refused
  refused_alike : (quiet : Bool) (role : Role) (refusal : Option Status) (number : ℕ) (bind : Bind) → may_happen quiet (bind_stir None refusal) ≡ true →
      AreAlike (theirs None) waiting (binds_unless refusal (mine None) number role bind) (binds_unless refusal (theirs None) number role bind)
  refused_alike quiet role None number bind may = absurd cc
  refused_alike quiet role (Some status) number bind may = stays_alike None (Some _)

  -- what a body does on the session of an account, or is for the node
  abbrev BodyAlike : List Account → Option (List ℕ) → Pdu → Body → Type 0
  BodyAlike accounts account pdu body =
      AreAlike (theirs account) waiting (on_pdu accounts (mine account) (record pdu { body = body }))
      (on_pdu accounts (theirs account) (record pdu { body = body })) ⊎ IsForNode account body

  body_alike : (accounts : List Account) (quiet : Bool) (account : Option (List ℕ)) (pdu : Pdu) (body : Body) →
      may_happen quiet (body_stir accounts account body) ≡ true → BodyAlike accounts account pdu body
  body_alike accounts quiet None pdu (bodies.BindReceiver bind) may =
      inl (refused_alike quiet roles.Receiver (bind_refusal (account_of accounts bind.system_id) roles.Receiver bind) pdu.sequence bind may)
  body_alike accounts quiet (Some name) pdu (bodies.BindReceiver bind) may = inl (stays_alike (Some name) (Some _))
  body_alike accounts quiet None pdu (bodies.BindTransmitter bind) may =
      inl (refused_alike quiet roles.Transmitter (bind_refusal (account_of accounts bind.system_id) roles.Transmitter bind) pdu.sequence bind may)
  body_alike accounts quiet (Some name) pdu (bodies.BindTransmitter bind) may = inl (stays_alike (Some name) (Some _))
  body_alike accounts quiet None pdu bodies.Unbind may = inl (stays_alike None (Some _))
  body_alike accounts quiet (Some name) pdu bodies.Unbind may = absurd cc
  body_alike accounts quiet None pdu (bodies.BindTransceiver bind) may =
      inl (binds_alike (bind_refusal (account_of accounts bind.system_id) roles.Transceiver bind) pdu.sequence bind)
  body_alike accounts quiet (Some name) pdu (bodies.BindTransceiver bind) may = inl (stays_alike (Some name) (Some _))
  body_alike accounts quiet None pdu (bodies.SubmitSm message) may = inl (stays_alike None (Some _))
  body_alike accounts quiet (Some name) pdu (bodies.SubmitSm message) may = inr tt
  body_alike accounts quiet None pdu (bodies.QuerySm query) may = inl (stays_alike None (Some _))
  body_alike accounts quiet (Some name) pdu (bodies.QuerySm query) may = inr tt
  body_alike accounts quiet None pdu (bodies.CancelSm cancel) may = inl (stays_alike None (Some _))
  body_alike accounts quiet (Some name) pdu (bodies.CancelSm cancel) may = inr tt
  body_alike accounts quiet None pdu bodies.EnquireLink may = inl (stays_alike None (Some _))
  body_alike accounts quiet (Some name) pdu bodies.EnquireLink may = inl (stays_alike (Some name) (Some _))
  body_alike accounts quiet None pdu (bodies.DeliverSm message) may = inl (stays_alike None (Some _))
  body_alike accounts quiet (Some name) pdu (bodies.DeliverSm message) may = inl (stays_alike (Some name) (Some _))
  body_alike accounts quiet None pdu (bodies.DeliverSmResp id) may = inr tt
  body_alike accounts quiet (Some name) pdu (bodies.DeliverSmResp id) may = inr tt
  body_alike accounts quiet None pdu bodies.GenericNack may = inr tt
  body_alike accounts quiet (Some name) pdu bodies.GenericNack may = inr tt
  body_alike accounts quiet account pdu (bodies.BindReceiverResp answer) may = inl (stays_alike account None)
  body_alike accounts quiet account pdu (bodies.BindTransmitterResp answer) may = inl (stays_alike account None)
  body_alike accounts quiet account pdu (bodies.BindTransceiverResp answer) may = inl (stays_alike account None)
  body_alike accounts quiet account pdu (bodies.SubmitSmResp id) may = inl (stays_alike account None)
  body_alike accounts quiet account pdu (bodies.QuerySmResp answer) may = inl (stays_alike account None)
  body_alike accounts quiet account pdu bodies.CancelSmResp may = inl (stays_alike account None)
  body_alike accounts quiet account pdu bodies.UnbindResp may = inl (stays_alike account None)
  body_alike accounts quiet account pdu bodies.EnquireLinkResp may = inl (stays_alike account None)

  out_alike : (account : Option (List ℕ)) (number : ℕ) (response : Option Response) →
      AreAlike (theirs account) waiting (record { next = mine account; reaction = responds number response })
      (record { next = theirs account; reaction = responds number response })
  out_alike account number None = stays_alike account None
  out_alike account number (Some response) = stays_alike account (Some _)

  -- octets that are no PDU, but of no wrong length
  abbrev FaultAlike : Option (List ℕ) → PduFault → Option Requested → ℕ → Type 0
  FaultAlike account fault requested number =
      AreAlike (theirs account) waiting (on_fault (mine account) fault requested number) (on_fault (theirs account) fault requested number)

  fault_stays : (account : Option (List ℕ)) (fault : PduFault) (requested : Option Requested) (number : ℕ) →
      AreAlike (theirs account) waiting
      (record { next = mine account; reaction = cond (is_gone (mine account).state) reactions.Nothing (responds number (told_of fault requested)) })
      (record { next = theirs account; reaction = cond (is_gone (theirs account).state) reactions.Nothing (responds number (told_of fault requested)) })
  fault_stays None fault requested number = out_alike None number (told_of fault requested)
  fault_stays (Some name) fault requested number = out_alike (Some name) number (told_of fault requested)

  fault_so : (account : Option (List ℕ)) (fault : PduFault) (requested : Option Requested) (number : ℕ) → (fault ≡ faults.Length → ⊥) →
      FaultAlike account fault requested number
  fault_so account faults.Length requested number other = absurd (other refl)
  fault_so account faults.Command requested number other = fault_stays account faults.Command requested number
  fault_so account (faults.Cut field) requested number other = fault_stays account (faults.Cut field) requested number
  fault_so account faults.Extra requested number other = fault_stays account faults.Extra requested number
  fault_so account (faults.LongText field) requested number other = fault_stays account (faults.LongText field) requested number
  fault_so account faults.TextLength requested number other = fault_stays account faults.TextLength requested number
  fault_so account faults.Tlvs requested number other = fault_stays account faults.Tlvs requested number
  fault_so account faults.Memory requested number other = fault_stays account faults.Memory requested number

module _ (session : Session) (plain : IsPlain session) (waiting : List OpenRequest) where
  -- a PDU that may come: the session answers alike, or the PDU is for the node
  pub pdu_alike : (accounts : List Account) (quiet : Bool) (pdu : Pdu) → may_happen quiet (body_stir accounts session.account pdu.body) ≡ true →
      AreAlike session waiting (on_pdu accounts (holding session waiting) pdu) (on_pdu accounts session pdu) ⊎ IsForNode session.account pdu.body
  pdu_alike accounts quiet pdu =
      subst
      (λ (s : Session). may_happen quiet (body_stir accounts s.account pdu.body) ≡ true →
      AreAlike s waiting (on_pdu accounts (holding s waiting) pdu) (on_pdu accounts s pdu) ⊎ IsForNode s.account pdu.body)
      (plain_is session plain)
      (body_alike session.interface_version session.next_sequence session.pushed waiting accounts quiet session.account pdu pdu.body)

  -- octets that are no PDU, but of no wrong length
  pub fault_alike : (fault : PduFault) (requested : Option Requested) (number : ℕ) → (fault ≡ faults.Length → ⊥) →
      AreAlike session waiting (on_fault (holding session waiting) fault requested number) (on_fault session fault requested number)
  fault_alike fault requested number other =
      subst (λ (s : Session). AreAlike s waiting (on_fault (holding s waiting) fault requested number) (on_fault s fault requested number))
      (plain_is session plain)
      (fault_so session.interface_version session.next_sequence session.pushed waiting session.account fault requested number other)
