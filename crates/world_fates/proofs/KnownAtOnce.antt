-- No request of a message that was taken is refused at once as one for a message that there is not, by lines.
use Rattle.std.proofs.Common.{◌≡◌, ◌⊎◌, ℕ, ◌≤◌, List, [], ◌∷◌, ◌++◌, Some, None, Result, Ok, Err, refl, sym, ◌∙◌, ap, subst, inl, inr, arith}
use Rattle.std.specs.Prelude.{◌≢◌}
use Rattle.mc_model.specs.message.Ids.{IsId}
use Rattle.mc_model.specs.synod.Lists.{In}
use Rattle.mc_parts.proofs.Membership.{in_either}
use Rattle.pdu_tables.specs.StatusCodes.{status_code}
use Rattle.pdu_tables.specs.declared.status.Status.TheVariants as statuses
use Rattle.pdu_fields.specs.declared.fault.PduFault.{PduFault}
use Rattle.pdu_bodies.specs.declared.pdu.Body.{Body}
use Rattle.pdu_bodies.specs.declared.pdu.Body.TheVariants as bodies
use Rattle.pdu_bodies.specs.declared.pdu.Pdu.{Pdu}
use Rattle.pdu_codec.specs.Grammar.{word_at}
use Rattle.pdu_codec.specs.Pdu.{read_pdu}
use Rattle.pdu_frames.specs.Frames.{cut}
use Rattle.sessions.specs.Session.{Session}
use Rattle.script_text.specs.Prints.{AtOnce, Print}
use Rattle.script_text.specs.Runner.{Runner, held_in, mail_of, on_frame, on_read, request_of, served_at, session_in}
use Rattle.script_text.specs.Settings.{Settings}
use Rattle.script_text.specs.Prints.{At, WorldPrint}
use Rattle.script_text.specs.Script.{Joins, Stage}
use Rattle.script_text.specs.World.{NodeInput, World}
use Rattle.world_fates.specs.Questions.{TellsAcceptance}
use Rattle.world_fates.specs.Refusals.{NamesMessage}
use Rattle.world_fates.specs.Requests.{AreRead, ComesBy, FrameEndsIn, IsRequest, IsUsedFor}
use Rattle.world_fates.proofs.Printing.{WorldSo, first_so}
use Rattle.world_fates.proofs.AtOnce.{ids_known}
use Rattle.world_fates.proofs.Lines.{AreSound, line_leads}
use Rattle.world_fates.proofs.Asking.{posted_for_any_posts}
use Rattle.world_fates.proofs.Accepting.{AcceptedFrom, accepted_so, accepted_takes, accepted_telling}
use Rattle.world_fates.proofs.Responding.{answered_sequence, fault_told, unasked_known}
use Rattle.world_fates.proofs.Ending.{OfFrame}
use Rattle.world_fates.proofs.LineEnds.{OfLine, line_ends}
use Rattle.world_fates.proofs.Coming.{all_came}

-- ---- a frame

module _ (settings : Settings) (number : ℕ) (runner : Runner) (frame : List ℕ) (id : ℕ) (is_id : IsId id) (sequence : ℕ)
    (reads : word_at 12 frame ≡ sequence → (pdu : Pdu) × (read_pdu frame ≡ Ok pdu))
    (only : (asked : Pdu) → read_pdu frame ≡ Ok asked → asked.sequence ≡ sequence → IsRequest asked.body → NamesMessage id asked.body) where
  abbrev served_on : Session
  served_on = session_in runner.sessions number

  module _ (pdu : Pdu) (among : In (AtOnce number pdu) (on_frame settings number runner frame).prints) (own : pdu.sequence ≡ sequence) where
    asked_known : (asked : Pdu) → read_pdu frame ≡ Ok asked → In (AtOnce number pdu) (on_read settings number runner.node served_on frame (Ok asked)).prints →
        pdu.status ≢ status_code statuses.InvalidMessageId
    asked_known asked is here = by_body asked.body refl
      where
        same : asked.sequence ≡ sequence
        same = sym (answered_sequence settings number runner.node served_on frame asked number pdu here) ∙ own

        requested : IsRequest asked.body → pdu.status ≢ status_code statuses.InvalidMessageId
        requested request = ids_known settings number number runner frame asked id pdu is (only asked is same request) is_id among

        by_body : (body : Body) → asked.body ≡ body → pdu.status ≢ status_code statuses.InvalidMessageId
        by_body (bodies.SubmitSm message) body_is = requested (subst IsRequest (sym body_is) tt)
        by_body (bodies.QuerySm query) body_is = requested (subst IsRequest (sym body_is) tt)
        by_body (bodies.CancelSm cancel) body_is = requested (subst IsRequest (sym body_is) tt)
        by_body other body_is =
            unasked_known settings number runner.node served_on frame asked (ap (request_of settings.routes) body_is) number pdu here

    read_known : (read : Result Pdu PduFault) → read_pdu frame ≡ read →
        In (AtOnce number pdu) (on_read settings number runner.node served_on frame read).prints →
        pdu.status ≢ status_code statuses.InvalidMessageId
    read_known (Ok asked) is here = asked_known asked is here
    read_known (Err fault) is here = elim (fault_told settings number runner.node served_on frame fault number pdu here) [
      | inl header ↦ let it = reads (sym header ∙ own) in absurd (never it.0 (sym it.1 ∙ is))
      | inr wrong ↦ λ unknown. omega (arith, wrong, unknown)
    ]
      where
        never : (other : Pdu) → Ok other ≡ Err fault → ⊥
        never other is = cc

    frame_known : pdu.status ≢ status_code statuses.InvalidMessageId
    unfolding on_frame
    frame_known =
        let served = on_read settings number runner.node served_on frame (read_pdu frame) in
        let next = (served_at runner number served).next in
        let posts = posted_for_any_posts next.node.kept.clock (mail_of next) served.next.session.account in
        elim (in_either (AtOnce number pdu) served.prints _ among) [
          | inl here ↦ read_known (read_pdu frame) refl here
          | inr there ↦ absurd ((posts.quiet (AtOnce number pdu) there).once number pdu refl)
        ]

-- ---- lines

-- what is answered at once is answered to the octets of a line
once_by : (settings : Settings) (lines : List (List ℕ)) (first : World) → AreSound first → (inputs : List NodeInput) (prints : List WorldPrint)
    (stage : Stage) → Joins settings (Some first) lines inputs prints stage → (node session : ℕ) (pdu : Pdu) → In (At node (AtOnce session pdu)) prints →
    ComesBy settings first lines (λ world line. OfLine settings world line node session pdu)
unfolding Joins
once_by settings [] first sound inputs prints stage joins node session pdu among = absurd (subst (In (At node (AtOnce session pdu))) joins.1 among)
once_by settings (line ∷ lines) first sound inputs prints stage joins node session pdu among =
    let done = joins.0 in
    let leads = line_leads settings first sound line done joins.3 in
    elim (in_either (At node (AtOnce session pdu)) done.prints joins.2 (subst (In (At node (AtOnce session pdu))) joins.5 among)) [
      | inl here ↦ record {
        before = [];
        line = line;
        later = lines;
        lines_are = refl;
        world = first;
        came = [];
        prints = [];
        joins = (refl, refl, refl);
        ends = (line_ends settings first sound line done joins.3).once node session pdu here;
      }
      | inr there ↦
          let it = once_by settings lines leads.next leads.sound joins.1 joins.2 stage
          (subst (λ (middle : Stage). Joins settings middle lines joins.1 joins.2 stage) leads.stage_is joins.6) node session pdu there in
          record {
            before = line ∷ it.before;
            line = it.line;
            later = it.later;
            lines_are = ap (λ (others : List (List ℕ)). line ∷ others) it.lines_are;
            world = it.world;
            came = done.inputs ++ it.came;
            prints = done.prints ++ it.prints;
            joins = (
              done,
              it.came,
              it.prints,
              joins.3,
              refl,
              refl,
              subst (λ (middle : Stage). Joins settings middle it.before it.came it.prints (Some it.world)) (sym leads.stage_is) it.joins,
            );
            ends = it.ends;
          }
    ]

pub requests_known_at_once : (settings : Settings) (before later : List (List ℕ)) (came coming : List NodeInput) (prints others : List WorldPrint)
    (world : World) (last : Stage) (here node session sequence : ℕ) (first : Print) (id : ℕ) (pdu : Pdu) →
    Joins settings None before came prints (Some world) → Joins settings (Some world) later coming others last → 1 ≤ node → In (At here first) prints →
    TellsAcceptance first id → IsUsedFor (NamesMessage id) settings world later node session sequence → AreRead settings world later node session sequence →
    In (At node (AtOnce session pdu)) others → pdu.sequence ≡ sequence → pdu.status ≢ status_code statuses.InvalidMessageId
requests_known_at_once settings before later came coming prints others world last here node session sequence first id pdu joins more least first_in accepts
    used read answer_in own =
    let so : WorldSo settings AcceptedFrom accepted_telling accepted_takes came world prints =
    first_so settings AcceptedFrom accepted_telling accepted_takes before came prints (Some world) joins in
    let accepted = accepted_so settings came world prints so here first first_in id accepts in
    let it = once_by settings later world (all_came settings before came prints world joins).sound coming others last more node session pdu answer_in in
    by_octets accepted.is_id it it.ends.of.1
  where
    by_octets : IsId id → (it : ComesBy settings world later (λ w line. OfLine settings w line node session pdu)) →
        OfFrame settings session (cut (held_in it.ends.runner.streams session ++ it.ends.octets)).frames pdu
        ⊎ (pdu.status ≡ status_code statuses.InvalidCommandLength) → pdu.status ≢ status_code statuses.InvalidMessageId
    by_octets is_id it (inr wrong) = λ unknown. omega (arith, wrong, unknown)
    by_octets is_id it (inl of) = frame_known settings session of.runner of.frame id is_id sequence (λ header. read of.frame frame_comes header)
        (λ asking is same. used.only asking (record {
          before = it.before;
          line = it.line;
          later = it.later;
          lines_are = it.lines_are;
          world = it.world;
          came = it.came;
          prints = it.prints;
          joins = it.joins;
          ends = record { frame = of.frame; ends = frame_comes.ends; reads = is };
        }) same) pdu of.printed own
      where
        frame_comes : ComesBy settings world later (λ w line. FrameEndsIn w line node session of.frame)
        frame_comes = record {
          before = it.before;
          line = it.line;
          later = it.later;
          lines_are = it.lines_are;
          world = it.world;
          came = it.came;
          prints = it.prints;
          joins = it.joins;
          ends = record { octets = it.ends.octets; says = it.ends.says; runner = it.ends.runner; there = it.ends.there; ends = of.among };
        }
