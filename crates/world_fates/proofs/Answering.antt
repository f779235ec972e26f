-- An attempt is answered by ESME_ROK only in octets, on the session on which its deliver_sm went out.
use Rattle.std.proofs.Common.{◌≡◌, ℕ, ◌≤◌, List, [], ◌∷◌, ◌++◌, Option, Some, None, refl, sym, ◌∙◌, ap, subst, inl, inr, append_assoc, append-nil}
use Rattle.mc_model.specs.message.Decree.{Delivered}
use Rattle.mc_model.specs.synod.Lists.{In}
use Rattle.mc_model.specs.synod.Packet.{Slot}
use Rattle.mc_model.specs.node.Input.{Response}
use Rattle.mc_model.specs.node.Outcome.{Concluded}
use Rattle.mc_parts.proofs.Membership.{in_either}
use Rattle.script_lines.specs.Said.{Said, Skipped, Nodes, Octets, Deliver, Crash, Tick, Grant, Settle, Restart, Replay, said_within}
use Rattle.script_text.specs.Prints.{Gone}
use Rattle.script_text.specs.Settings.{Settings}
use Rattle.sessions.specs.Session.{Session}
use Rattle.script_text.specs.Prints.{At, WorldPrint}
use Rattle.script_text.specs.Script.{Joins, Stage, Stepped, step_by, step_of}
use Rattle.script_text.specs.World.{NodeInput, World, opened}
use Rattle.world_fates.specs.Deliveries.{GoesOut, IsAnswered, IsSaid, Stays, WentOut, comes}
use Rattle.world_fates.proofs.Entries.{AreApart}
use Rattle.world_fates.proofs.Windows.{WaitsOn}
use Rattle.world_fates.proofs.Lines.{AreSound, IsHeard, WaitsAt, line_leads, opened_apart}

-- ---- lines that join, and one more

pub joins_more : (settings : Settings) (first middle : Stage) (lines : List (List ℕ)) (came : List NodeInput) (prints : List WorldPrint) (line : List ℕ)
    (done : Stepped) → Joins settings first lines came prints middle → step_of settings middle line ≡ Some done →
    Joins settings first (lines ++ line ∷ []) (came ++ done.inputs) (prints ++ done.prints) done.next
unfolding Joins
joins_more settings first middle [] came prints line done joins does = (
  done,
  [],
  [],
  ap (λ (stage : Stage). step_of settings stage line) (sym joins.2) ∙ does,
  ap (λ (inputs : List NodeInput). inputs ++ done.inputs) joins.0 ∙ sym (append-nil done.inputs),
  ap (λ (printed : List WorldPrint). printed ++ done.prints) joins.1 ∙ sym (append-nil done.prints),
  (refl, refl, refl),
)
joins_more settings first middle (next ∷ lines) came prints line done joins does = (
  joins.0,
  joins.1 ++ done.inputs,
  joins.2 ++ done.prints,
  joins.3,
  ap (λ (inputs : List NodeInput). inputs ++ done.inputs) joins.4 ∙ append_assoc joins.0.inputs joins.1 done.inputs,
  ap (λ (printed : List WorldPrint). printed ++ done.prints) joins.5 ∙ append_assoc joins.0.prints joins.2 done.prints,
  joins_more settings joins.0.next middle lines joins.1 joins.2 line done joins.6 does,
)

-- a session that stays does so by one more line
pub stays_more : (settings : Settings) (first : Stage) (lines : List (List ℕ)) (world : World) (node session : ℕ) →
    Stays settings first lines world node session → (line : List ℕ) (done : Stepped) → step_of settings (Some world) line ≡ Some done → (next : World) →
    done.next ≡ Some next → (In (At node (Gone session)) done.prints → ⊥) → Stays settings first (lines ++ line ∷ []) next node session
stays_more settings first lines world node session it line done does next stage ungone = record {
  came = it.came ++ done.inputs;
  prints = it.prints ++ done.prints;
  joins = subst (λ (s : Stage). Joins settings first (lines ++ line ∷ []) (it.came ++ done.inputs) (it.prints ++ done.prints) s) stage
      (joins_more settings first (Some world) lines it.came it.prints line done it.joins does);
  stays = λ among. elim (in_either (At node (Gone session)) it.prints done.prints among) [
    | inl here ↦ it.stays here
    | inr there ↦ ungone there
  ];
}

-- ---- what waits went out

-- what waits in a world went out by the lines that lead there
record AllWentOut (settings : Settings) (before : List (List ℕ)) (world : World) : Type 0 where
  sound : AreSound world
  went : (node : ℕ) → 1 ≤ node → (session : ℕ) (slot : Slot) (sequence : ℕ) → WaitsAt world node session slot sequence →
      WentOut settings before world node session sequence slot

-- so it is of lines and of the world to which they lead, if they lead to one
abbrev pub GoesWell : (List (List ℕ) → World → Type 0) → List (List ℕ) → Stage → Type 0
GoesWell All before None = Unit {0}
GoesWell All before (Some world) = All before world

module _ (settings : Settings) (before : List (List ℕ)) (came : List NodeInput) (prints : List WorldPrint) (world : World)
    (joins : Joins settings None before came prints (Some world)) (line : List ℕ) (done : Stepped)
    (does : step_of settings (Some world) line ≡ Some done) where
  abbrev lines : List (List ℕ)
  lines = before ++ line ∷ []

  -- it went out before, and its session stays
  went_still : (next : World) → done.next ≡ Some next → (node session sequence : ℕ) (slot : Slot) →
      WentOut settings before world node session sequence slot → (In (At node (Gone session)) done.prints → ⊥) →
      WentOut settings lines next node session sequence slot
  went_still next stage node session sequence slot went ungone = record {
    before = went.before;
    asking = went.asking;
    later = went.later ++ line ∷ [];
    lines_are = ap (λ (front : List (List ℕ)). front ++ line ∷ []) went.lines_are ∙ append_assoc went.before (went.asking ∷ went.later) (line ∷ []);
    world = went.world;
    done = went.done;
    said = went.said;
    goes = went.goes;
    stays = stays_more settings went.done.next went.later world node session went.stays line done does next stage ungone;
  }

  -- it goes out by this line
  went_now : (next : World) → done.next ≡ Some next → (node session sequence : ℕ) (slot : Slot) →
      GoesOut world line done node session sequence slot → WentOut settings lines next node session sequence slot
  unfolding Joins
  went_now next stage node session sequence slot goes = record {
    before = before;
    asking = line;
    later = [];
    lines_are = refl;
    world = world;
    done = done;
    said = record { came = came; prints = prints; joins = joins; does = does };
    goes = goes;
    stays = record { came = []; prints = []; joins = (refl, refl, sym stage); stays = λ among. among };
  }

  one_more : AllWentOut settings before world → GoesWell (AllWentOut settings) lines done.next
  one_more all =
      let leads = line_leads settings world all.sound line done does in
      subst (GoesWell (AllWentOut settings) lines) (sym leads.stage_is)
      (record {
        sound = leads.sound;
        went = λ node least session slot sequence waits.
            elim (leads.waited node least session slot sequence waits) [
              | inl old ↦
                  went_still leads.next leads.stage_is node session sequence slot (all.went node least session slot sequence old.0) old.1
              | inr new ↦ went_now leads.next leads.stage_is node session sequence slot new
            ];
      })

opened_well : (settings : Settings) (before : List (List ℕ)) (count serial : ℕ) → AllWentOut settings before (opened settings count serial)
opened_well settings before count serial = record {
  sound = λ node least runner is.
      subst (λ (connected : List (ℕ × Session)). AreApart connected) (sym (opened_apart settings count serial node runner is)) tt;
  went = λ node least session slot sequence waits.
      absurd (nowhere session slot sequence
      (subst (λ (connected : List (ℕ × Session)). WaitsOn connected session slot sequence)
      (opened_apart settings count serial node waits.runner waits.there) waits.waits));
}
  where
    nowhere : (session : ℕ) (slot : Slot) (sequence : ℕ) → WaitsOn [] session slot sequence → ⊥
    nowhere session slot sequence waits = waits.there

-- If it is so where a world opens, and each line leads on so, then all lines lead on so.
module _ (settings : Settings) (All : List (List ℕ) → World → Type 0)
    (opens : (before : List (List ℕ)) (count serial : ℕ) → All before (opened settings count serial))
    (leads : (before : List (List ℕ)) (came : List NodeInput) (prints : List WorldPrint) (world : World) → Joins settings None before came prints (Some world) →
    (line : List ℕ) (done : Stepped) → step_of settings (Some world) line ≡ Some done → All before world → GoesWell All (before ++ line ∷ []) done.next) where
  -- the lines behind these
  lines_behind : (before : List (List ℕ)) (came : List NodeInput) (prints : List WorldPrint) (middle : Stage) →
      Joins settings None before came prints middle → GoesWell All before middle → (lines : List (List ℕ)) (coming : List NodeInput)
      (others : List WorldPrint) (last : Stage) → Joins settings middle lines coming others last → GoesWell All (before ++ lines) last
  unfolding Joins step_of
  lines_behind before came prints middle joins well [] coming others last later =
      subst (GoesWell All (before ++ [])) (sym later.2) (subst (λ (front : List (List ℕ)). GoesWell All front middle) (sym (append-nil before)) well)
  lines_behind before came prints middle joins well (line ∷ lines) coming others last later =
      let done = later.0 in
      subst (λ (all : List (List ℕ)). GoesWell All all last) (append_assoc before (line ∷ []) lines)
      (lines_behind (before ++ line ∷ []) (came ++ done.inputs) (prints ++ done.prints) done.next
      (joins_more settings None middle before came prints line done joins later.3) (next middle joins well later.3) lines later.1 later.2 last later.6)
    where
      same : (one other : Stepped) → Some one ≡ Some other → one ≡ other
      same one other is = cc

      by_said : (said : Option Said) → (done : Stepped) → step_by settings None said ≡ Some done → GoesWell All (before ++ line ∷ []) done.next
      by_said None done is = absurd cc
      by_said (Some Skipped) done is =
          subst (λ (d : Stepped). GoesWell All (before ++ line ∷ []) d.next) (same _ done is) tt
      by_said (Some (Nodes count serial)) done is =
          subst (λ (d : Stepped). GoesWell All (before ++ line ∷ []) d.next) (same _ done is) (opens (before ++ line ∷ []) count serial)
      by_said (Some (Octets node session octets)) done is = absurd cc
      by_said (Some (Deliver number node)) done is = absurd cc
      by_said (Some (Crash node number after)) done is = absurd cc
      by_said (Some (Tick node moment)) done is = absurd cc
      by_said (Some (Grant node id)) done is = absurd cc
      by_said (Some (Settle nodes)) done is = absurd cc
      by_said (Some (Restart node)) done is = absurd cc
      by_said (Some (Replay count)) done is = absurd cc

      next : (stage : Stage) → Joins settings None before came prints stage → GoesWell All before stage → step_of settings stage line ≡ Some later.0 →
          GoesWell All (before ++ line ∷ []) later.0.next
      next None joins well does = by_said (said_within 9 line) later.0 does
      next (Some world) joins well does = leads before came prints world joins line later.0 does well

  pub lines_lead : (lines : List (List ℕ)) (came : List NodeInput) (prints : List WorldPrint) (last : Stage) → Joins settings None lines came prints last →
      GoesWell All lines last
  unfolding Joins
  lines_lead lines came prints last joins = lines_behind [] [] [] None (refl, refl, refl) tt lines came prints last joins

-- ---- the law

pub answered_in_octets : (settings : Settings) (before : List (List ℕ)) (world : World) (line : List ℕ) (done : Stepped) (node : ℕ) (slot : Slot)
    (error : ℕ) → IsSaid settings before world line done → In (comes node (Response slot (Concluded Delivered error))) done.inputs →
    IsAnswered settings before world line node slot
answered_in_octets settings before world line done node slot error said among =
    let all : AllWentOut settings before world =
    lines_lead settings (AllWentOut settings) (opened_well settings) (one_more settings) before said.came said.prints (Some world) said.joins in
    let leads = line_leads settings world all.sound line done said.does in
    let heard : IsHeard world line node slot = leads.answers node slot error among in
    let answer = heard.answer in
    record {
      session = heard.session;
      sequence = answer.sequence;
      went = all.went node heard.least heard.session slot answer.sequence
          (record { runner = heard.runner; there = heard.there; waits = answer.waits });
      answer = record {
        octets = heard.octets;
        says = heard.says;
        runner = heard.runner;
        there = heard.there;
        frame = answer.frame;
        ends = answer.ends;
        pdu = answer.pdu;
        text = answer.acknowledges.text;
        reads = answer.reads;
        body = answer.acknowledges.body;
        status = answer.acknowledges.status;
        sequence_is = answer.acknowledges.sequence_is;
      };
    }
