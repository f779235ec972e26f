-- What a session makes of octets.
use Rattle.std.proofs.Common.{◌≡◌, ℕ, ◌<◌, ◌≤◌, Bool, true, false, ◌⊎◌, inl, inr, List, length, Option, Some, None, Result, Err, refl, sym, ap, ◌∙◌, subst}
use Rattle.std.proofs.lemmas.Bool.{lt-ltb, cases_lt}
use Rattle.accounts.specs.declared.account.Account.{Account}
use Rattle.pdu_codec.specs.Bodies.{command_in}
use Rattle.pdu_codec.specs.Pdu.{Gives, read_pdu}
use Rattle.pdu_bodies.specs.declared.pdu.Pdu.{Pdu}
use Rattle.pdu_fields.specs.declared.fault.PduFault.{PduFault}
use Rattle.pdu_fields.specs.declared.fault.PduFault.TheVariants as faults
use Rattle.pdu_bodies.specs.declared.pdu.Bind.{Bind}
use Rattle.pdu_tables.specs.declared.status.Status.{Status}
use Rattle.accounts.specs.declared.role.Role.{Role}
use Rattle.sessions.specs.Session.{Session}
use Rattle.pdu_tables.specs.declared.command.Command.{Command}
use Rattle.pdu_tables.specs.declared.command.Command.TheVariants as commands
use Rattle.sessions.specs.States.{in_state, is_gone}
use Rattle.sessions.specs.declared.state.SessionState.{SessionState}
use Rattle.sessions.specs.declared.state.SessionState.TheVariants.{Fresh, Transmitter, Receiver, Transceiver, Gone}
use Rattle.sessions.specs.Steps.{Done, answers_to, bind_in, binds_by, binds_unless, on_cell, on_pdu, on_wrong_length}
use Rattle.esme_service.specs.Settings.{Settings}
use Rattle.esme_service.specs.Pushes.{session_at}
use Rattle.esme_service.specs.Sessions.{kept_at}
use Rattle.esme_service.specs.Hearing.{Goes, GoesIf, done_by, ends_at, ends_if, heeds, heeds_if}
use Rattle.sessions.specs.Table.{Cell, Binds, Refuses, Asks, Unbinds, Links, NotServed, Answers, Drops, cell_of}
use Rattle.sessions.specs.declared.pushed.Pushed.{Pushed}
use Rattle.sessions.specs.declared.reaction.Reaction.TheVariants.{Ask}
use Rattle.sessions.specs.declared.requested.Requested.{Requested}

-- fewer than 16 octets have a wrong length
pub short_is_wrong : (octets : List ℕ) → length octets < 16 → read_pdu octets ≡ Err faults.Length
unfolding read_pdu
short_is_wrong octets short = rw (lt-ltb _ _ short) refl

pub below_16 : (n : ℕ) → (16 ≤ n → false ≡ true) → n < 16
below_16 n h = elim (cases_lt n 16) [ inl lt ↦ lt | inr le ↦ absurd (let e = h le in cc) ]

-- a fault that a function returned is what reading gives, unless memory ran out
pub is_fault : {A : Type 0} (fault : PduFault) (read : Result A PduFault) → Gives (Err fault) read → (fault ≡ faults.Memory) ⊎ (read ≡ Err fault)
is_fault faults.Length read gives = inr gives
is_fault faults.Command read gives = inr gives
is_fault (faults.Cut field) read gives = inr gives
is_fault (faults.LongText field) read gives = inr gives
is_fault faults.TextLength read gives = inr gives
is_fault faults.Tlvs read gives = inr gives
is_fault faults.Extra read gives = inr gives
is_fault faults.Memory read gives = inl refl

-- ---- a request for the node leaves its session as it is

abbrev StaysIfAsked : Session → Requested → Done → Type 0
StaysIfAsked session requested done = done.reaction ≡ Ask requested → done.next ≡ session

binds_stay : (session : Session) (requested : Requested) (refusal : Option Status) (sequence : ℕ) (role : Role) (bind : Bind)
    → StaysIfAsked session requested (binds_unless refusal session sequence role bind)
binds_stay session requested None sequence role bind asks = absurd cc
binds_stay session requested (Some status) sequence role bind asks = refl

bind_stays : (accounts : List Account) (session : Session) (requested : Requested) (sequence : ℕ) (role : Role) (bind : Option Bind)
    → StaysIfAsked session requested (binds_by accounts session sequence role bind)
bind_stays accounts session requested sequence role None asks = refl
bind_stays accounts session requested sequence role (Some bind) asks = binds_stay session requested _ sequence role bind asks

no_answer_asks : (requested : Requested) (pushed : Option Pushed) → answers_to pushed ≡ Ask requested → ⊥
no_answer_asks requested None asks = cc
no_answer_asks requested (Some pushed) asks = cc

cell_stays : (accounts : List Account) (session : Session) (pdu : Pdu) (requested : Requested) (cell : Cell)
    → StaysIfAsked session requested (on_cell accounts session pdu cell)
cell_stays accounts session pdu requested (Binds role) asks = bind_stays accounts session requested pdu.sequence role (bind_in pdu.body) asks
cell_stays accounts session pdu requested (Refuses status) asks = refl
cell_stays accounts session pdu requested Asks asks = refl
cell_stays accounts session pdu requested Unbinds asks = absurd cc
cell_stays accounts session pdu requested Links asks = refl
cell_stays accounts session pdu requested NotServed asks = refl
cell_stays accounts session pdu requested Answers asks = absurd (no_answer_asks requested _ asks)
cell_stays accounts session pdu requested Drops asks = refl

-- ---- and comes on no session that is gone

of_gone : {A : Type 0} (state : SessionState) (fresh transmitter receiver transceiver gone : A) → is_gone state ≡ true
    → in_state state fresh transmitter receiver transceiver gone ≡ gone
of_gone Fresh fresh transmitter receiver transceiver gone is = absurd cc
of_gone Transmitter fresh transmitter receiver transceiver gone is = absurd cc
of_gone Receiver fresh transmitter receiver transceiver gone is = absurd cc
of_gone Transceiver fresh transmitter receiver transceiver gone is = absurd cc
of_gone Gone fresh transmitter receiver transceiver gone is = refl

drops_if_gone : (command : Command) (state : SessionState) → is_gone state ≡ true → cell_of command state ≡ Drops
drops_if_gone commands.BindReceiver state is = of_gone state _ _ _ _ Drops is
drops_if_gone commands.BindTransmitter state is = of_gone state _ _ _ _ Drops is
drops_if_gone commands.BindTransceiver state is = of_gone state _ _ _ _ Drops is
drops_if_gone commands.SubmitSm state is = of_gone state _ _ _ _ Drops is
drops_if_gone commands.QuerySm state is = of_gone state _ _ _ _ Drops is
drops_if_gone commands.CancelSm state is = of_gone state _ _ _ _ Drops is
drops_if_gone commands.Unbind state is = of_gone state _ _ _ _ Drops is
drops_if_gone commands.EnquireLink state is = of_gone state _ _ _ _ Drops is
drops_if_gone commands.DeliverSm state is = of_gone state _ _ _ _ Drops is
drops_if_gone commands.DeliverSmResp state is = of_gone state _ _ _ _ Drops is
drops_if_gone commands.GenericNack state is = of_gone state _ _ _ _ Drops is
drops_if_gone commands.BindReceiverResp state is = refl
drops_if_gone commands.BindTransmitterResp state is = refl
drops_if_gone commands.BindTransceiverResp state is = refl
drops_if_gone commands.SubmitSmResp state is = refl
drops_if_gone commands.QuerySmResp state is = refl
drops_if_gone commands.CancelSmResp state is = refl
drops_if_gone commands.UnbindResp state is = refl
drops_if_gone commands.EnquireLinkResp state is = refl

pub asked_open : (accounts : List Account) (session : Session) (pdu : Pdu) (requested : Requested)
    → (on_pdu accounts session pdu).reaction ≡ Ask requested → is_gone session.state ≡ false
asked_open accounts session pdu requested asks = by_gone (is_gone session.state) refl
  where
    by_gone : (gone : Bool) → is_gone session.state ≡ gone → gone ≡ false
    by_gone false is = refl
    by_gone true is = absurd (let none = sym (ap (λ (cell : Cell). (on_cell accounts session pdu cell).reaction)
        (drops_if_gone (command_in pdu.body) session.state is)) ∙ asks in cc)

pub left_open : (accounts : List Account) (session : Session) (pdu : Pdu) (requested : Requested)
    → (on_pdu accounts session pdu).reaction ≡ Ask requested → is_gone (on_pdu accounts session pdu).next.state ≡ false
left_open accounts session pdu requested asks =
    ap (λ (s : Session). is_gone s.state) (cell_stays accounts session pdu requested (cell_of (command_in pdu.body) session.state) asks)
    ∙ asked_open accounts session pdu requested asks

-- ---- at the service

module _ (connected : List (ℕ × Session)) (number : ℕ) (old left : Session) (stands : session_at connected number ≡ Some old) where
  module _ (settings : Settings) (octets : List ℕ) (next : left ≡ (done_by settings old octets (read_pdu octets)).next) where
    pub heeds_so : kept_at connected number left ≡ (heeds settings connected number octets).sessions
    heeds_so =
        ap (kept_at connected number) next
        ∙ sym (ap (λ (found : Option Session). (heeds_if settings connected number octets found).sessions) stands)

    pub heeds_goes : GoesIf (kept_at connected number left) number (Some left) → Goes number (heeds settings connected number octets)
    heeds_goes goes =
        subst (λ (found : Option Session). Goes number (heeds_if settings connected number octets found)) (sym stands)
        (subst (λ (s : Session). GoesIf (kept_at connected number s) number (Some s)) next goes)

  module _ (next : left ≡ (on_wrong_length old).next) where
    pub ends_so : kept_at connected number left ≡ (ends_at connected number).sessions
    ends_so = ap (kept_at connected number) next ∙ sym (ap (λ (found : Option Session). (ends_if connected number found).sessions) stands)

    pub ends_goes : GoesIf (kept_at connected number left) number (Some left) → Goes number (ends_at connected number)
    ends_goes goes =
        subst (λ (found : Option Session). Goes number (ends_if connected number found)) (sym stands)
        (subst (λ (s : Session). GoesIf (kept_at connected number s) number (Some s)) next goes)
