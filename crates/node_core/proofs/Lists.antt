-- A node that opens over a list.
use Rattle.std.proofs.Common.{◌≡◌, ℕ, ◌+◌, refl, sym, subst, ◌∙◌}
use Rattle.std.proofs.Math.Path.{fun_ext}
use Rattle.mc_model.specs.synod.Acceptor.{Records}
use Rattle.mc_model.specs.node.Setup.{Setup}
use Rattle.synod_acceptor.specs.Records.{record_at}
use Rattle.stable_store.specs.Stored.{Listed, stored_in}
use Rattle.node_core.specs.declared.life.Life.{Life}
use Rattle.node_core.specs.Nodes.{HasOpened, OpensOver, Standing, records_in}
use Rattle.node_core.specs.Restarts.{OpensOverLists}

over_records : {S : Type 0} (old new : Listed) (before after : ℕ) (with : Setup) (node : Standing S) (life : Life) →
    OpensOver (stored_in old before) with (stored_in new after) node life → HasOpened with (record_at old.entries) (old.started + 1) node life
over_records old new before after with node life over =
    let same : records_in node.kept ≡ record_at old.entries = fun_ext (λ slot. sym ((over.found.found refl).each slot)) in
    subst (λ (rs : Records). HasOpened with rs (old.started + 1) node life) same
    (subst (λ (n : ℕ). HasOpened with (records_in node.kept) n node life) (over.found.next old.started refl refl) over.opened)

pub over_list : {S : Type 0} → OpensOverLists S
over_list old new before after with node life over = record {
  opened = over_records old new before after with node life over;
  started = over.found.started ∙ over.found.next old.started refl refl;
  records = over.found.kept (record_at old.entries) (record { each = λ slot. refl });
}
