-- Acts at which no session goes, and lines that are among others.
use Rattle.std.proofs.Common.{◌≡◌, ◌⊎◌, ℕ, Bool, true, false, List, [], ◌∷◌, ◌++◌, map, Option, Some, None, cond, refl, sym, ◌∙◌, ap, subst, inl, inr}
use Rattle.std.specs.Prelude.{◌||◌, is_none}
use Rattle.std.specs.List.{list_any}
use Rattle.std.specs.Str.{bytes_eq}
use Rattle.std.proofs.lemmas.Bool.{or_cases}
use Rattle.std.proofs.lemmas.Slice.Eq.{bytes_eq-Decides}
use Rattle.mc_model.specs.message.Submission.{Submission}
use Rattle.mc_model.specs.synod.Lists.{In}
use Rattle.mc_model.specs.synod.Packet.{Packet, Slot}
use Rattle.mc_model.specs.node.Grant.{GrantRefusal, refusal_number}
use Rattle.mc_model.specs.node.Input.{Delivery as Comes, Grant as Grants}
use Rattle.mc_model.specs.node.Outputs.{Reply}
use Rattle.mc_parts.proofs.Membership.{in_either}
use Rattle.node_model.specs.Attempts.{grant_refusal}
use Rattle.node_model.specs.Granted.{known_slot}
use Rattle.pdu_bodies.specs.declared.pdu.Pdu.{Pdu}
use Rattle.sessions.specs.Session.{Session}
use Rattle.pdu_codec.specs.Pdu.{read_pdu}
use Rattle.pdu_frames.specs.Frames.{begins_wrong, cut}
use Rattle.sessions.specs.Steps.{on_wrong_length}
use Rattle.script_text.specs.Left.{followed_by}
use Rattle.script_text.specs.Settings.{Settings}
use Rattle.script_text.specs.Attempts.{submission_at}
use Rattle.script_text.specs.Node.{Node, step_at, tick_at}
use Rattle.script_text.specs.Prints.{AtOnce, Declined, Delivers, Gone, Late, Print, Reports, Ungranted}
use Rattle.script_text.specs.Pushes.{accounts_up, is_long, session_at, target_in}
use Rattle.script_text.specs.Runner.{Acted, Runner, Served, answered_by, ends, gives_up, granted, granted_unless, held_in, holds}
use Rattle.script_text.specs.Runner.{mail_of, nothing_came, on_delivery, on_done, on_frame, on_frames, on_grant, on_octets, on_read, on_rest, on_tick}
use Rattle.script_text.specs.Runner.{opened_at, pushes, sent, sent_to, served_at, serves, session_in, ticked, told}
use Rattle.script_text.specs.Prints.{At}
use Rattle.world_fates.proofs.Asking.{replies_tell}
use Rattle.octet_laws.proofs.Hearing.{ServedSo, length_so, read_so}
use Rattle.octet_laws.proofs.Lines.{IsRefusal}
use Rattle.octet_laws.proofs.Ties.{IsPlain, IsRight, all_posted_posts, plain_right, posted_for_all_posts, posted_for_any_posts}

-- ---- a line among others

pub any_in : (line : List ℕ) (lines : List (List ℕ)) → list_any (bytes_eq line) lines ≡ true → In line lines
any_in line [] is = absurd cc
any_in line (first ∷ lines) is = elim (or_cases (bytes_eq line first) (list_any (bytes_eq line) lines) is) [
  | inl same ↦ inl ((bytes_eq-Decides line first).0 same)
  | inr later ↦ inr (any_in line lines later)
]

pub in_any : (line : List ℕ) (lines : List (List ℕ)) → In line lines → list_any (bytes_eq line) lines ≡ false → ⊥
in_any line [] among none = among
in_any line (first ∷ lines) among none = by_test (bytes_eq line first) refl (in_any line lines) among none
  where
    by_test : (test : Bool) → bytes_eq line first ≡ test → (In line lines → list_any (bytes_eq line) lines ≡ false → ⊥) → In line (first ∷ lines) →
        (test || list_any (bytes_eq line) lines) ≡ false → ⊥
    by_test true is behind among none = cc
    by_test false is behind (inl same) none = let both : false ≡ true = sym is ∙ (bytes_eq-Decides line first).1 same in cc
    by_test false is behind (inr later) none = behind later none

-- ---- acts

abbrev pub IsUngone : List Print → Type 0
IsUngone prints = (session : ℕ) → In (Gone session) prints → ⊥

told_ungone : (connected : List (ℕ × Session)) (replies : List Reply) → IsUngone (told connected replies).prints
told_ungone connected replies session among = never _ _ _ ((replies_tell connected replies).prints (Gone session) among).print_is
  where
    never : (number id : ℕ) (pdu : Pdu) → Gone session ≡ Late number id pdu → ⊥
    never number id pdu is = cc

plain_ungone : (prints : List Print) → ((print : Print) → In print prints → IsPlain print) → IsUngone prints
plain_ungone prints plain session among = plain (Gone session) among

both_ungone : (one other : List Print) → IsUngone one → IsUngone other → IsUngone (one ++ other)
both_ungone one other first last session among = elim (in_either (Gone session) one other among) [
  | inl here ↦ first session here
  | inr there ↦ last session there
]

pub delivery_ungone : (runner : Runner) (packet : Packet) → IsUngone (on_delivery runner packet).prints
delivery_ungone runner packet =
    let node = runner.node in
    let step = step_at node (Comes packet) in
    let one = answered_by runner node (Comes packet) step in
    both_ungone one.prints _ (told_ungone runner.sessions step.outputs.replies)
    (plain_ungone _ (all_posted_posts 0 one.next.node.kept.clock (mail_of one.next) step.outputs.receipts).plain)

pub tick_ungone : (runner : Runner) (moment : ℕ) → IsUngone (on_tick runner moment).prints
tick_ungone runner moment =
    let one = ticked runner moment in
    let tick = tick_at moment (accounts_up runner.sessions) in
    let left = (gives_up one.next one.next.node.kept.clock).next in
    both_ungone one.prints _ (told_ungone runner.sessions (step_at runner.node tick).outputs.replies)
    (plain_ungone _ (posted_for_all_posts 0 left.node.kept.clock (mail_of left) (accounts_up left.sessions)).plain)

pub grant_ungone : (runner : Runner) (id : ℕ) → IsUngone (on_grant runner id).prints
grant_ungone runner id = by_refusal (grant_refusal runner.node.setup runner.node.kept id)
  where
    slot : Slot
    slot = known_slot runner.node.kept id

    now : Runner
    now = (granted runner (Grants slot)).next

    pushes_ungone : (taken : Submission) (at : ℕ) (session : Option Session) → IsUngone (pushes now slot taken at session).prints
    pushes_ungone taken at None number among = among
    pushes_ungone taken at (Some session) number (inl same) = cc
    pushes_ungone taken at (Some session) number (inr none) = none

    sent_to_ungone : (taken : Submission) (target : Option ℕ) → IsUngone (sent_to now slot taken target).prints
    sent_to_ungone taken None = λ number among. among
    sent_to_ungone taken (Some at) = pushes_ungone taken at (session_at now.sessions at)

    sent_ungone : (taken : Option Submission) → IsUngone (sent now slot taken).prints
    sent_ungone None = λ number among. among
    sent_ungone (Some taken) = sent_to_ungone taken (target_in now.sessions (is_long taken.text) taken.target)

    by_refusal : (refusal : Option GrantRefusal) → IsUngone (granted_unless runner id slot refusal).prints
    by_refusal None = sent_ungone (submission_at runner.node id)
    by_refusal (Some refusal) = λ number among. elim among [ inl same ↦ never number same | inr none ↦ none ]
      where
        never : (number : ℕ) → Gone number ≡ Ungranted (refusal_number refusal) → ⊥
        never number is = cc

-- ---- of octets on a session no other session goes

abbrev pub IsOnly : ℕ → Print → Type 0
IsOnly at print = IsPlain print ⊎ (print ≡ Gone at)

abbrev pub AreOnly : ℕ → List Print → Type 0
AreOnly at prints = (print : Print) → In print prints → IsOnly at print

no_only : (at : ℕ) → AreOnly at []
no_only at print among = absurd among

both_only : (at : ℕ) (one other : List Print) → AreOnly at one → AreOnly at other → AreOnly at (one ++ other)
both_only at one other first last print among = elim (in_either print one other among) [ inl here ↦ first print here | inr there ↦ last print there ]

served_only : (frame : List ℕ) (node : Node) (before : Session) (at : ℕ) (served : Served) → ServedSo frame node before at served → AreOnly at served.prints
served_only frame node before at served so print among = elim (so.prints print among) [ inl plain ↦ inl plain | inr gone ↦ inr gone.0 ]

serves_only : (at : ℕ) (runner : Runner) (served : Served) → AreOnly at served.prints → AreOnly at (serves runner at served).prints
serves_only at runner served only =
    let next = (served_at runner at served).next in
    both_only at served.prints _ only
    (λ print among. inl ((posted_for_any_posts 0 next.node.kept.clock (mail_of next) served.next.session.account).plain print among))

rest_only : (settings : Settings) (at : ℕ) (runner : Runner) (rest : List ℕ) → AreOnly at (on_rest settings at runner rest).prints
rest_only settings at runner rest = by_test (begins_wrong rest)
  where
    by_test : (wrong : Bool) → AreOnly at (cond {A = Acted} wrong (ends settings at runner) (holds runner at rest)).prints
    by_test true =
        let before = session_in runner.sessions at in
        let served = on_done settings at runner.node nothing_came (on_wrong_length before) in
        serves_only at runner served (served_only [] runner.node before at served (length_so [] runner.node at before settings))
    by_test false = no_only at

frames_only : (settings : Settings) (at : ℕ) (frames : List (List ℕ)) (rest : List ℕ) (runner : Runner) →
    AreOnly at (on_frames settings at runner frames rest).prints
unfolding on_frames on_frame
frames_only settings at [] rest runner = rest_only settings at runner rest
frames_only settings at (frame ∷ frames) rest runner = by_test (is_none (session_at one.next.sessions at)) (frames_only settings at frames rest one.next)
  where
    one : Acted
    one = serves runner at (on_read settings at runner.node (session_in runner.sessions at) frame (read_pdu frame))

    here : AreOnly at one.prints
    here =
        let session = session_in runner.sessions at in
        let served = on_read settings at runner.node session frame (read_pdu frame) in
        serves_only at runner served
        (served_only frame runner.node session at served (read_so frame runner.node at session settings (read_pdu frame) refl))

    later : Acted
    later = on_frames settings at one.next frames rest

    by_test : (gone : Bool) → AreOnly at later.prints → AreOnly at (cond {A = Acted} gone one (followed_by one later)).prints
    by_test true behind = here
    by_test false behind = both_only at one.prints later.prints here behind

pub octets_only : (settings : Settings) (runner : Runner) (at : ℕ) (octets : List ℕ) → AreOnly at (on_octets settings runner at octets).prints
unfolding on_octets
octets_only settings runner at octets =
    let now = cut (held_in runner.streams at ++ octets) in frames_only settings at now.frames now.rest (opened_at runner at)

-- ---- what a node prints

pub in_printed : (node : ℕ) (print : Print) (prints : List Print) → In print prints → In (At node print) (map (At node) prints)
in_printed node print [] among = among
in_printed node print (first ∷ prints) (inl same) = inl (ap (At node) same)
in_printed node print (first ∷ prints) (inr later) = inr (in_printed node print prints later)

pub plain_no_refusal : (node : ℕ) (print : Print) → IsPlain print → IsRefusal (At node print) → ⊥
plain_no_refusal node (AtOnce session pdu) plain refusal = refusal
plain_no_refusal node (Late session id pdu) plain refusal = plain
plain_no_refusal node (Delivers session pdu) plain refusal = refusal
plain_no_refusal node (Reports session sequence optional report) plain refusal = refusal
plain_no_refusal node (Gone session) plain refusal = plain
plain_no_refusal node (Declined number) plain refusal = plain
plain_no_refusal node (Ungranted reason) plain refusal = plain

pub only_right : (at number : ℕ) (stream : List ℕ) (print : Print) → IsOnly at print → IsRight number stream print
only_right at number stream print (inl plain) = plain_right number stream print plain
only_right at number stream print (inr gone) = subst (IsRight number stream) (sym gone) tt
