-- A node that opens keeps what the model's opens over.
use Rattle.std.proofs.Common.{◌≡◌, suc, ℕ, false, List, [], ◌∷◌, map, Option, refl, sym}
use Rattle.std.proofs.Common.{ap, subst, ◌∙◌, true≢false}
use Rattle.std.proofs.Math.Path.{fun_ext}
use Rattle.std.specs.Map.{keys_of}
use Rattle.mc_model.specs.synod.Acceptor.{Records}
use Rattle.mc_model.specs.node.Setup.{Setup}
use Rattle.node_model.specs.Message.{unseen}
use Rattle.node_model.specs.Stepped.{opened_over}
use Rattle.synod_acceptor.specs.Records.{record_at}
use Rattle.node_kept.specs.Message.{Message as Filed}
use Rattle.node_kept.specs.declared.kept.Kept.{Kept}
use Rattle.node_kept.specs.Keeping.{AreUnseen, IsOpen, acceptor_in, filed_as}
use Rattle.node_kept.proofs.Listing.{listed_in}
use Rattle.node_kept.proofs.Opening.{open_over}
use Rattle.node_core.specs.declared.life.Life.{Life}
use Rattle.stable_store.specs.Stored.{Stays, Stored}
use Rattle.stable_store.specs.declared.fault.StoreFault.{StoreFault}
use Rattle.stable_store.specs.declared.fault.StoreFault.TheVariants as faults
use Rattle.node_core.specs.Nodes.{HasOpened, Standing, StaysAt, breaks, records_in}

messages_are : (entries : List (ℕ × Filed)) → AreUnseen entries → map filed_as entries ≡ map (λ id. (id, unseen)) (keys_of entries)
messages_are [] fresh = refl
messages_are (e ∷ es) fresh = λ i. (e.0, fresh.0 i) ∷ messages_are es fresh.1 i

pub opened : (with : Setup) (records : Records) (starts : ℕ) {S : Type 0} (node : Standing S) (life : Life) → IsOpen with starts records node.kept →
    node.broken ≡ false → life.node ≡ with.node → life.incarnation ≡ starts → HasOpened with records starts node life
opened with records starts node life is works of_node of_start = record {
  ids = keys_of node.kept.messages.entries;
  kept = λ i. record (opened_over records (keys_of node.kept.messages.entries) starts with.first_serial) {
    records = fun_ext is.kept i;
    incarnation = is.incarnation i;
    clock = is.clock i;
    serial = is.serial i;
    ticket = suc (is.given i);
    held = is.held i;
    messages = messages_are node.kept.messages.entries is.fresh i;
  };
  listed = is.listed;
  whole = λ slot differs. listed_in node.kept.messages.entries slot.id
      (λ none. differs (sym (is.kept slot) ∙ ap (λ (found : Option Filed). record_at (acceptor_in found) slot) none));
  setup = is.setup;
  works = works;
  of_node = of_node;
  of_start = of_start;
}

-- it opened with what it keeps
pub opens_with : (with : Setup) (starts : ℕ) (records : Records) (k : Kept) → IsOpen with starts records k → IsOpen with k.incarnation (records_in k) k
opens_with with starts records k is =
    subst (λ (n : ℕ). IsOpen with n (records_in k) k) (sym is.incarnation) (open_over with starts records (records_in k) k is (λ slot. sym (is.kept slot)))

-- a fault that leaves a node that works as it was left its store so, too
pub stays_if : (fault : StoreFault) (old new : Stored) → breaks fault ≡ false → StaysAt fault old new → Stays old new
stays_if faults.Device old new is stays = absurd (true≢false is)
stays_if faults.Damaged old new is stays = absurd (true≢false is)
stays_if faults.Incarnations old new is stays = stays
stays_if faults.Memory old new is stays = stays
