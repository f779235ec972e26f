-- What the lines of a script over several nodes print was given out by a cluster.
use Rattle.std.proofs.Common.{◌≡◌, ℕ, suc, ◌≤◌, pred, List, [], ◌∷◌, ◌++◌, length, Option, Some, None, refl, sym, ◌∙◌, ap, subst, append_assoc, arith}
use Rattle.mc_model.specs.cluster.Steps.{Cluster, setup_of as cluster_setup}
use Rattle.node_laws.specs.Clusters.{NodeInput}
use Rattle.node_laws.specs.Runs.{IsOneOf}
use Rattle.script_lines.specs.Said.{Said, Skipped, Nodes, Octets, Deliver, Crash, Tick, Grant, Settle, Restart, Replay, said_within}
use Rattle.script_lines.proofs.SaidLemmas.{spells_within}
use Rattle.script_text.specs.Runner.{Runner, runner_opened}
use Rattle.script_text.specs.Settings.{Settings}
use Rattle.script_text.specs.Prints.{WorldPrint}
use Rattle.script_text.specs.Script.{Joins, Stage, Stepped, after, moved_by, prints_from, step_by, step_of, stepped}
use Rattle.script_text.specs.World.{Moved, World, comes, crashes, grants, hears, on_replay, on_settle, opened}
use Rattle.script_text.specs.World.{node_opened, restarts, ticks}
use Rattle.world_fates.proofs.node.Behind.{behind, behind_then}
use Rattle.world_fates.proofs.node.Standing.{opened_fit}
use Rattle.world_fates.proofs.node.Tellings.{FactOfPrints, IsTelling, NodePrint, TakesDeliveries}
use Rattle.node_laws.specs.Clusters.{cluster_with}
use Rattle.script_text.proofs.Opening.{opened_count, opened_there}
use Rattle.world_fates.proofs.Worlds.{IsRunner, MovesSo, WorldStands, comes_so, crashes_so, grants_so, hears_so}
use Rattle.world_fates.proofs.Worlds.{member_of, replay_so, restarts_so, settle_so, ticks_so, told_by, told_by_both}

-- ---- lines

-- a line asks a node for an attempt
abbrev pub AsksForAnAttempt : Said → Type 0
AsksForAnAttempt (Grant node id) = Unit {0}
AsksForAnAttempt Skipped = ⊥
AsksForAnAttempt (Nodes count serial) = ⊥
AsksForAnAttempt (Octets node session octets) = ⊥
AsksForAnAttempt (Deliver number node) = ⊥
AsksForAnAttempt (Crash node number after) = ⊥
AsksForAnAttempt (Tick node moment) = ⊥
AsksForAnAttempt (Settle nodes) = ⊥
AsksForAnAttempt (Restart node) = ⊥
AsksForAnAttempt (Replay count) = ⊥

-- lines that join from a world on lead to where what they brought to nodes leads, and what they print was given out
pub record JoinsSo (cluster : Cluster) (Tells : FactOfPrints) (past : List NodeInput) (inputs : List NodeInput)
    (prints : List WorldPrint) (stage : Stage) : Type 0 where
  pub world : World
  pub stage_is : stage ≡ Some world
  pub later : List NodeInput
  pub later_is : later ≡ behind inputs past
  pub stands : WorldStands cluster later world
  pub tell : (last : List NodeInput) (others : List NodePrint) → Tells last later others → Tells last past (told_by prints ++ others)

module _ (settings : Settings) (cluster : Cluster) (Tells : FactOfPrints) (telling : IsTelling cluster Tells) where
  -- what a line does is what its world does, or nothing
  moved_so : (past : List NodeInput) (moved : Moved) (done : Stepped) → MovesSo cluster Tells past moved → stepped moved ≡ Some done →
      JoinsSo cluster Tells past done.inputs done.prints done.next
  moved_so past moved done moves is =
      subst (λ (d : Stepped). JoinsSo cluster Tells past d.inputs d.prints d.next) (same _ done is)
      (record { world = moved.next; stage_is = refl; later = moves.later; later_is = moves.later_is; stands = moves.stands; tell = moves.tell })
    where
      same : (one other : Stepped) → Some one ≡ Some other → one ≡ other
      same one other is = cc

  pub said_so : (past : List NodeInput) (world : World) → WorldStands cluster past world → (line : List ℕ) (said : Said) (done : Stepped) →
      (AsksForAnAttempt said → TakesDeliveries Tells) → said_within (length world.runners) line ≡ Some said → moved_by settings world said ≡ Some done →
      JoinsSo cluster Tells past done.inputs done.prints done.next
  said_so past world stands line Skipped done takes says is =
      moved_so past (record { next = world; inputs = []; prints = [] }) done
      (record { later = past; later_is = refl; stands = stands; tell = λ last prints tells. tells }) is
  said_so past world stands line (Nodes count serial) done takes says is = absurd cc
  said_so past world stands line (Octets node session octets) done takes says is =
      let least = (spells_within (length world.runners) line (Octets node session octets) says).wording.0.least in
      moved_so past (hears settings world node session octets) done (hears_so cluster Tells telling past world stands settings node session octets least) is
  said_so past world stands line (Deliver number node) done takes says is =
      let least = (spells_within (length world.runners) line (Deliver number node) says).wording.1.least in
      moved_so past (comes world number node) done (comes_so cluster Tells telling past world stands number node least) is
  said_so past world stands line (Crash node number after) done takes says is =
      let least = (spells_within (length world.runners) line (Crash node number after) says).wording.0.least in
      moved_so past (crashes world node number after) done (crashes_so cluster Tells telling past world stands node number after least) is
  said_so past world stands line (Tick node moment) done takes says is =
      let least = (spells_within (length world.runners) line (Tick node moment) says).wording.0.least in
      moved_so past (ticks world node moment) done (ticks_so cluster Tells telling past world stands node moment least) is
  said_so past world stands line (Grant node id) done takes says is =
      let least = (spells_within (length world.runners) line (Grant node id) says).wording.0.least in
      moved_so past (grants world node id) done (grants_so cluster Tells telling past world stands (takes tt) node id least) is
  said_so past world stands line (Settle nodes) done takes says is =
      moved_so past (on_settle world nodes) done (settle_so cluster Tells telling past world stands nodes) is
  said_so past world stands line (Restart node) done takes says is =
      let least = (spells_within (length world.runners) line (Restart node) says).wording.0.least in
      moved_so past (restarts world node) done (restarts_so cluster Tells telling past world stands node least) is
  said_so past world stands line (Replay count) done takes says is =
      moved_so past (on_replay world count) done (replay_so cluster Tells telling past world stands count) is

  line_so : TakesDeliveries Tells → (past : List NodeInput) (world : World) → WorldStands cluster past world → (line : List ℕ) (done : Stepped) →
      step_of settings (Some world) line ≡ Some done → JoinsSo cluster Tells past done.inputs done.prints done.next
  unfolding step_of
  line_so takes past world stands line done is = by_said (said_within (length world.runners) line) refl is
    where
      by_said : (said : Option Said) → said_within (length world.runners) line ≡ said → step_by settings (Some world) said ≡ Some done →
          JoinsSo cluster Tells past done.inputs done.prints done.next
      by_said None says is = absurd cc
      by_said (Some said) says is = said_so past world stands line said done (λ asks. takes) says is

  pub joined_so : TakesDeliveries Tells → (lines : List (List ℕ)) (past : List NodeInput) (world : World) → WorldStands cluster past world →
      (inputs : List NodeInput) (prints : List WorldPrint) (stage : Stage) → Joins settings (Some world) lines inputs prints stage →
      JoinsSo cluster Tells past inputs prints stage
  unfolding Joins
  joined_so takes [] past world stands inputs prints stage joins = record {
    world = world;
    stage_is = joins.2;
    later = past;
    later_is = ap (λ (came : List NodeInput). behind came past) (sym joins.0);
    stands = stands;
    tell = λ last others tells. subst (λ (printed : List WorldPrint). Tells last past (told_by printed ++ others)) (sym joins.1) tells;
  }
  joined_so takes (line ∷ lines) past world stands inputs prints stage joins =
      let done = joins.0 in
      let one = line_so takes past world stands line done joins.3 in
      let rest = joined_so takes lines one.later one.world one.stands joins.1 joins.2 stage
      (subst (λ (middle : Stage). Joins settings middle lines joins.1 joins.2 stage) one.stage_is joins.6) in
      record {
        world = rest.world;
        stage_is = rest.stage_is;
        later = rest.later;
        later_is = behind_then done.inputs joins.1 past one.later rest.later one.later_is rest.later_is
            ∙ ap (λ (came : List NodeInput). behind came past) (sym joins.4);
        stands = rest.stands;
        tell = λ last others tells.
            subst (Tells last past)
            (sym (append_assoc (told_by done.prints) (told_by joins.2) others)
            ∙ ap (λ (told : List NodePrint). told ++ others) (sym (told_by_both done.prints joins.2) ∙ ap told_by (sym joins.5)))
            (one.tell last (told_by joins.2 ++ others) (rest.tell last others tells));
      }

-- ---- a world that opens

pub opened_stands : (settings : Settings) (count serial : ℕ) → count ≤ 9 → 1 ≤ serial →
    WorldStands (cluster_with count serial settings.validity) [] (opened settings count serial)
opened_stands settings count serial few least = record {
  fit = opened_fit (cluster_with count serial settings.validity) (λ node. least);
  few = few;
  count = opened_count settings count serial;
  each = λ number one_of runner is.
      let least = one_of.least in
      let same : suc (pred number) ≡ number = omega (arith, least) in
      let new : ℕ → Runner = λ node. runner_opened (node_opened settings count serial node) in
      subst (IsRunner (member_of (cluster_with count serial settings.validity) number one_of) [])
      (ap new (sym same) ∙ opened_there settings count serial (pred number) runner is) (new_stands number one_of);
  sent = λ packet among. absurd among;
}
  where
    new_stands : (number : ℕ) (one_of : IsOneOf (cluster_setup (cluster_with count serial settings.validity) number)) →
        IsRunner (member_of (cluster_with count serial settings.validity) number one_of) [] (runner_opened (node_opened settings count serial number))
    new_stands number one_of = record {
      at = record { is = refl; sent = λ packet among. absurd among; up_is = refl };
      waiting = λ receipt among. absurd among;
    }

module _ (settings : Settings) (Tells : Cluster → FactOfPrints)
    (telling : (cluster : Cluster) → IsTelling cluster (Tells cluster)) (takes : (cluster : Cluster) → TakesDeliveries (Tells cluster)) where
  -- what the lines print that lead to a world was given out by a cluster
  pub record WorldSo (inputs : List NodeInput) (world : World) (prints : List WorldPrint) : Type 0 where
    pub cluster : Cluster
    pub past : List NodeInput
    pub past_is : past ≡ behind inputs []
    pub stands : WorldStands cluster past world
    pub tell : (last : List NodeInput) (others : List NodePrint) → Tells cluster last past others → Tells cluster last [] (told_by prints ++ others)

  abbrev pub StageSo : Stage → List NodeInput → List WorldPrint → Type 0
  StageSo None inputs prints = prints ≡ []
  StageSo (Some world) inputs prints = WorldSo inputs world prints

  pub first_so : (lines : List (List ℕ)) (inputs : List NodeInput) (prints : List WorldPrint) (stage : Stage) →
      Joins settings None lines inputs prints stage → StageSo stage inputs prints
  unfolding Joins step_of
  first_so [] inputs prints stage joins = subst (λ (s : Stage). StageSo s inputs prints) (sym joins.2) joins.1
  first_so (line ∷ lines) inputs prints stage joins =
      by_said (said_within 9 line) refl joins.3 (first_so lines joins.1 joins.2 stage)
    where
      -- a line that prints nothing leads on
      leads_on : (middle : Stage) → Some (record { next = middle; inputs = []; prints = [] }) ≡ Some joins.0 →
          (prints ≡ joins.2) × (inputs ≡ joins.1) × Joins settings middle lines joins.1 joins.2 stage
      leads_on middle is =
          let same = stepped_same (record { next = middle; inputs = []; prints = [] }) joins.0 is in (
            joins.5 ∙ ap (λ (d : Stepped). d.prints ++ joins.2) (sym same),
            joins.4 ∙ ap (λ (d : Stepped). d.inputs ++ joins.1) (sym same),
            subst (λ (d : Stepped). Joins settings d.next lines joins.1 joins.2 stage) (sym same) joins.6,
          )
        where
          stepped_same : (one other : Stepped) → Some one ≡ Some other → one ≡ other
          stepped_same one other is = cc

      by_said : (said : Option Said) → said_within 9 line ≡ said → step_by settings None said ≡ Some joins.0 →
          (Joins settings None lines joins.1 joins.2 stage → StageSo stage joins.1 joins.2) → StageSo stage inputs prints
      by_said None says is later = absurd cc
      by_said (Some Skipped) says is later =
          let on = leads_on None is in
          subst (StageSo stage inputs) (sym on.0) (subst (λ (came : List NodeInput). StageSo stage came joins.2) (sym on.1) (later on.2))
      by_said (Some (Nodes count serial)) says is later =
          let on = leads_on (Some (opened settings count serial)) is in
          let wording = (spells_within 9 line (Nodes count serial) says).wording in
          let cluster = cluster_with count serial settings.validity in
          let rest = joined_so settings cluster (Tells cluster) (telling cluster) (takes cluster) lines [] (opened settings count serial)
          (opened_stands settings count serial wording.0.most wording.1) joins.1 joins.2 stage on.2 in
          subst (λ (s : Stage). StageSo s inputs prints) (sym rest.stage_is)
          (record {
            cluster = cluster;
            past = rest.later;
            past_is = rest.later_is ∙ ap (λ (came : List NodeInput). behind came []) (sym on.1);
            stands = rest.stands;
            tell = λ last others tells.
                subst (λ (printed : List WorldPrint). Tells cluster last [] (told_by printed ++ others)) (sym on.0) (rest.tell last others tells);
          })
      by_said (Some (Octets node session octets)) says is later = absurd cc
      by_said (Some (Deliver number node)) says is later = absurd cc
      by_said (Some (Crash node number after)) says is later = absurd cc
      by_said (Some (Tick node moment)) says is later = absurd cc
      by_said (Some (Grant node id)) says is later = absurd cc
      by_said (Some (Settle nodes)) says is later = absurd cc
      by_said (Some (Restart node)) says is later = absurd cc
      by_said (Some (Replay count)) says is later = absurd cc

-- ---- the lines before the first bad one join

pub record GoodLines (settings : Settings) (first : Stage) (prints : List WorldPrint) : Type 0 where
  pub lines : List (List ℕ)
  pub inputs : List NodeInput
  pub last : Stage
  pub joins : Joins settings first lines inputs prints last

pub good_lines : (settings : Settings) (lines : List (List ℕ)) (first : Stage) → GoodLines settings first (prints_from settings first lines)
unfolding Joins prints_from
good_lines settings [] first = record { lines = []; inputs = []; last = first; joins = (refl, refl, refl) }
good_lines settings (line ∷ lines) first = by_step (step_of settings first line) refl (good_lines settings lines)
  where
    by_step : (step : Option Stepped) → step_of settings first line ≡ step →
        ((next : Stage) → GoodLines settings next (prints_from settings next lines)) →
        GoodLines settings first (after [] (λ (done : Stepped). done.prints ++ prints_from settings done.next lines) step)
    by_step None is others = record { lines = []; inputs = []; last = first; joins = (refl, refl, refl) }
    by_step (Some done) is others =
        let rest = others done.next in
        record {
          lines = line ∷ rest.lines;
          inputs = done.inputs ++ rest.inputs;
          last = rest.last;
          joins = (done, rest.inputs, prints_from settings done.next lines, is, refl, refl, rest.joins);
        }
