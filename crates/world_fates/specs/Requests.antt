-- Requests that come on a session by the octets of lines, and what those are told that come later.
use Rattle.std.specs.Prelude.{◌≡◌, ◌≢◌, ℕ, ◌≤◌, List, ◌∷◌, ◌++◌, length, Some, None, Ok}
use Rattle.mc_model.specs.synod.Lists.{In}
use Rattle.pdu_tables.specs.StatusCodes.{status_code}
use Rattle.pdu_tables.specs.declared.status.Status.TheVariants as statuses
use Rattle.pdu_bodies.specs.declared.pdu.Body.{Body}
use Rattle.pdu_bodies.specs.declared.pdu.Body.TheVariants.{CancelSm, QuerySm, SubmitSm}
use Rattle.pdu_bodies.specs.declared.pdu.Pdu.{Pdu}
use Rattle.pdu_codec.specs.Grammar.{word_at}
use Rattle.pdu_codec.specs.Pdu.{read_pdu}
use Rattle.pdu_frames.specs.Frames.{cut}
use Rattle.script_lines.specs.Said.{Octets, said_within}
use Rattle.script_text.specs.Laws.{StatesFate, TellsState}
use Rattle.script_text.specs.Prints.{AtOnce, Delivers, Gone, Late, Print, Reports, Declined, Ungranted}
use Rattle.script_text.specs.Runner.{Runner, held_in, on_frame}
use Rattle.script_text.specs.Settings.{Settings}
use Rattle.script_text.specs.Prints.{At, WorldPrint}
use Rattle.script_text.specs.Script.{Joins, Stage, Stepped}
use Rattle.script_text.specs.World.{NodeInput, World, runner_at}
use Rattle.world_fates.specs.Deliveries.{IsSaid, Stays}
use Rattle.world_fates.specs.Questions.{IsAskedAt, TellsAcceptance}
use Rattle.world_fates.specs.Refusals.{NamesMessage}

-- ---- what comes on a session

-- Octets come on a session of a node, and in them this frame ends; it may have begun in octets that came before (SMPP 3.4, 3.2 and 5.1.1).
pub record FrameEndsIn (world : World) (line : List ℕ) (node session : ℕ) (frame : List ℕ) : Type 0 where
  pub octets : List ℕ
  pub says : said_within (length world.runners) line ≡ Some (Octets node session octets)
  pub runner : Runner
  pub there : runner_at world node ≡ Some runner
  pub ends : In frame (cut (held_in runner.streams session ++ octets)).frames

-- it reads as this PDU
pub record EndsIn (world : World) (line : List ℕ) (node session : ℕ) (pdu : Pdu) : Type 0 where
  pub frame : List ℕ
  pub ends : FrameEndsIn world line node session frame
  pub reads : read_pdu frame ≡ Ok pdu

-- by one of these lines it is so, from a world on (own)
pub record ComesBy (settings : Settings) (first : World) (lines : List (List ℕ)) (Ends : World → List ℕ → Type 0) : Type 0 where
  pub before : List (List ℕ)
  pub line : List ℕ
  pub later : List (List ℕ)
  pub lines_are : lines ≡ before ++ line ∷ later
  pub world : World
  pub came : List NodeInput
  pub prints : List WorldPrint
  pub joins : Joins settings (Some first) before came prints (Some world)
  pub ends : Ends world line

-- a submit_sm, a query_sm or a cancel_sm (SMPP 3.4, 4.4.1, 4.8.1 and 4.9.1)
abbrev pub IsRequest : Body → Type 0
IsRequest (SubmitSm message) = Unit {0}
IsRequest (QuerySm query) = Unit {0}
IsRequest (CancelSm cancel) = Unit {0}
IsRequest other = ⊥

-- By lines that lead to a world such a request came on a session of a node, with this sequence_number (SMPP 3.4, 5.1.4), and the session is the same
-- still.
pub record HasCome (settings : Settings) (lines : List (List ℕ)) (last : World) (node session sequence : ℕ) : Type 0 where
  pub before : List (List ℕ)
  pub line : List ℕ
  pub later : List (List ℕ)
  pub lines_are : lines ≡ before ++ line ∷ later
  pub world : World
  pub done : Stepped
  pub said : IsSaid settings before world line done
  pub pdu : Pdu
  pub ends : EndsIn world line node session pdu
  pub request : IsRequest pdu.body
  pub sequence_is : pdu.sequence ≡ sequence
  pub stays : Stays settings done.next later last node session

-- What waits on a session came there in octets, and the session was not gone meanwhile: so no request with a sequence_number waits if none has come
-- on the session that has it.
abbrev pub RequestsThatWaitCameInOctets : Type 0
RequestsThatWaitCameInOctets =
    (settings : Settings) (lines : List (List ℕ)) (came : List NodeInput) (prints : List WorldPrint) (world : World) (node session sequence : ℕ)
    → Joins settings None lines came prints (Some world)
    → 1 ≤ node
    → IsAskedAt world node session sequence
    → HasCome settings lines world node session sequence

-- From a world on, a sequence_number is used for such requests alone on a session of a node (SMPP 3.4, 2.9 and 5.1.4): no request waits there
-- that has it, and each request with it that comes by these lines is such a one.
pub record IsUsedFor (Asks : Body → Type 0) (settings : Settings) (first : World) (lines : List (List ℕ)) (node session sequence : ℕ) : Type 0 where
  pub free : IsAskedAt first node session sequence → ⊥
  pub only : (pdu : Pdu) → ComesBy settings first lines (λ world line. EndsIn world line node session pdu) → pdu.sequence ≡ sequence →
      IsRequest pdu.body → Asks pdu.body

-- Each frame with this sequence_number that comes there by these lines reads as a PDU (SMPP 3.4, 3.2 and 5.1.4).
abbrev pub AreRead : Settings → World → List (List ℕ) → ℕ → ℕ → ℕ → Type 0
AreRead settings first lines node session sequence =
    (frame : List ℕ) → ComesBy settings first lines (λ world line. FrameEndsIn world line node session frame) → word_at 12 frame ≡ sequence →
    (pdu : Pdu) × (read_pdu frame ≡ Ok pdu)

-- a PDU of this sequence_number goes out on this session, at once or later (SMPP 3.4, 5.1.4)
abbrev pub GoesOutOn : Print → ℕ → ℕ → Type 0
GoesOutOn (AtOnce number pdu) session sequence = (number ≡ session) × (pdu.sequence ≡ sequence)
GoesOutOn (Late number id pdu) session sequence = (number ≡ session) × (pdu.sequence ≡ sequence)
GoesOutOn (Delivers number pdu) session sequence = ⊥
GoesOutOn (Reports number other optional report) session sequence = ⊥
GoesOutOn (Gone number) session sequence = ⊥
GoesOutOn (Declined number) session sequence = ⊥
GoesOutOn (Ungranted reason) session sequence = ⊥

-- ---- query_sms

-- a query_sm with this message_id (SMPP 3.4, 4.8.1)
abbrev pub IsQueryOf : List ℕ → Body → Type 0
IsQueryOf message_id (QuerySm query) = query.message_id ≡ message_id
IsQueryOf message_id other = ⊥

-- Lines have printed a final state of a message, at whatever node. If its query_sms come later on a session of whatever node, with a sequence_number
-- that is used for them alone, then each query_sm_resp with ESME_ROK that goes out there with it (SMPP 3.4, 4.8.2) is of that message, and tells
-- that state.
abbrev pub LaterQueriesAreToldTheFate : Type 0
LaterQueriesAreToldTheFate =
    (settings : Settings) (before later : List (List ℕ)) (came coming : List NodeInput) (prints others : List WorldPrint) (world : World) (last : Stage)
    (here node session sequence : ℕ) (first answer : Print) (message_id also : List ℕ) (one other : ℕ)
    → Joins settings None before came prints (Some world)
    → Joins settings (Some world) later coming others last
    → 1 ≤ node
    → In (At here first) prints
    → StatesFate first message_id one
    → IsUsedFor (IsQueryOf message_id) settings world later node session sequence
    → In (At node answer) others
    → GoesOutOn answer session sequence
    → TellsState answer also other
    → (also ≡ message_id) × (other ≡ one)

-- ---- requests of messages that were taken

-- Lines have printed ESME_ROK to the submit_sm of a message, at whatever node. If query_sms and cancel_sms of it come later on a session of whatever
-- node, with a sequence_number that is used for them alone, then none that waits there is refused later as one for a message that there is not
-- (ESME_RINVMSGID: SMPP 3.4, 5.1.3).
abbrev pub LaterRequestsAreNotRefusedAsUnknown : Type 0
LaterRequestsAreNotRefusedAsUnknown =
    (settings : Settings) (before later : List (List ℕ)) (came coming : List NodeInput) (prints others : List WorldPrint) (world : World) (last : Stage)
    (here node session sequence : ℕ) (first : Print) (id other : ℕ) (pdu : Pdu)
    → Joins settings None before came prints (Some world)
    → Joins settings (Some world) later coming others last
    → 1 ≤ node
    → In (At here first) prints
    → TellsAcceptance first id
    → IsUsedFor (NamesMessage id) settings world later node session sequence
    → In (At node (Late session other pdu)) others
    → pdu.sequence ≡ sequence
    → pdu.status ≢ status_code statuses.InvalidMessageId

-- Nor is any at once, if each frame with that sequence_number reads as a PDU: a message_id that is too long is refused so, too.
abbrev pub LaterRequestsAreNotRefusedAtOnce : Type 0
LaterRequestsAreNotRefusedAtOnce =
    (settings : Settings) (before later : List (List ℕ)) (came coming : List NodeInput) (prints others : List WorldPrint) (world : World) (last : Stage)
    (here node session sequence : ℕ) (first : Print) (id : ℕ) (pdu : Pdu)
    → Joins settings None before came prints (Some world)
    → Joins settings (Some world) later coming others last
    → 1 ≤ node
    → In (At here first) prints
    → TellsAcceptance first id
    → IsUsedFor (NamesMessage id) settings world later node session sequence
    → AreRead settings world later node session sequence
    → In (At node (AtOnce session pdu)) others
    → pdu.sequence ≡ sequence
    → pdu.status ≢ status_code statuses.InvalidMessageId

-- And of a frame that reads as such a request no node says so at once, whatever is at hand, at whatever time.
abbrev pub AcceptedIdsAreNotRefusedAtOnce : Type 0
AcceptedIdsAreNotRefusedAtOnce =
    (settings : Settings) (before : List (List ℕ)) (came : List NodeInput) (prints : List WorldPrint) (world : World)
    (here : ℕ) (first : Print) (id number session : ℕ) (runner : Runner) (frame : List ℕ) (asked pdu : Pdu)
    → Joins settings None before came prints (Some world)
    → In (At here first) prints
    → TellsAcceptance first id
    → read_pdu frame ≡ Ok asked
    → NamesMessage id asked.body
    → In (AtOnce session pdu) (on_frame settings number runner frame).prints
    → pdu.status ≢ status_code statuses.InvalidMessageId
