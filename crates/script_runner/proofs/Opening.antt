-- The nodes of the centre open, each over a new store, and no session is connected.
use Rattle.std.proofs.Common.{◌≡◌, ℕ, zero, suc, ◌+◌, ◌≤◌, List, [], ◌∷◌, ◌++◌, length, Some, refl, sym, ap, subst, ◌∙◌, inl, inr, arith, length-append}
use Rattle.std.specs.Prelude.{false, slice_get}
use Rattle.sim_net.proofs.Growing.{get_push}
use Rattle.node_laws.specs.Clusters.{cluster_with}
use Rattle.world.specs.Runs.{IsAt}
use Rattle.script_site.specs.Standing.{IsEmpty}
use Rattle.script_site.specs.declared.site.Site.{Site}
use Rattle.script_text.specs.Runner.{Runner}
use Rattle.script_text.specs.Settings.{Settings}
use Rattle.script_text.specs.Runs.{IsNodeOf}
use Rattle.script_text.specs.World.{opened}
use Rattle.script_text.proofs.Opening.{opened_count, opened_there}
use Rattle.script_runner.specs.Arrivals.{came_in}
use Rattle.script_runner.specs.Centres.{AreEmpty, IsBeside, IsWorld}
use Rattle.script_runner.specs.declared.centre.Centre.{Centre}

pub none_empty : (sites : List Site) → sites ≡ [] → AreEmpty 0 sites
none_empty sites none = record {
  count_is = ap length none;
  each = λ place site found. absurd (nothing place (subst (λ (ss : List Site). slice_get ss place ≡ Some site) none found));
}
  where
    nothing : (place : ℕ) {site : Site} → slice_get {X = Site} [] place ≡ Some site → ⊥
    nothing zero found = cc
    nothing (suc place) found = cc

pub one_empty : (count : ℕ) (sites after : List Site) (site : Site) → AreEmpty count sites → IsEmpty (count + 1) site → after ≡ sites ++ site ∷ []
    → AreEmpty (count + 1) after
one_empty count sites after site are is same =
    subst (AreEmpty (count + 1)) (sym same) (record {
      count_is = let longer = length-append sites (site ∷ []) in let was = are.count_is in omega arith;
      each = λ place other found. elim (get_push sites place site other found) [
        | inl both ↦
            let number : count + 1 ≡ suc place = let here = both.0 in let was = are.count_is in omega (arith, here, was) in
            subst (λ (s : Site). IsEmpty (suc place) s) (sym both.1) (subst (λ (n : ℕ). IsEmpty n site) number is)
        | inr before ↦ are.each place other before
      ];
    })

pub starts_as : (settings : Settings) (nodes serial : ℕ) (centre : Centre) → nodes ≤ 9 → AreEmpty nodes centre.sites.items
    → IsAt (cluster_with nodes serial settings.validity) [] [] centre.world
    → ((number node : ℕ) → came_in centre.arrivals number node ≡ false) → IsWorld centre (opened settings nodes serial)
starts_as settings nodes serial centre few are at nobody =
    let count = opened_count settings nodes serial in
    record {
      cluster = cluster_with nodes serial settings.validity;
      inputs = [];
      at = at;
      stands = record {
        count = count;
        each = λ place runner there.
            subst (λ (r : Runner). IsNodeOf (cluster_with nodes serial settings.validity) [] (suc place) r.node)
            (opened_there settings nodes serial place runner there)
            (record { setup = refl; kept = refl });
        packets = refl;
      };
      nodes = are.count_is ∙ sym count;
      few = subst (λ (n : ℕ). n ≤ 9) (sym count) few;
      each = λ place site runner found there.
          let empty = are.each place site found in
          subst (λ (r : Runner). IsBeside site (suc place) r) (opened_there settings nodes serial place runner there) (record {
            node_is = empty.node_is;
            sessions = empty.sessions;
            streams = empty.streams;
            waiting = empty.waiting;
            taken = refl;
          });
      came = nobody;
    }
