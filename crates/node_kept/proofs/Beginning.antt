-- A node that opens keeps the same in whatever incarnation.
use Rattle.std.proofs.Common.{◌≡◌, ◌≤◌, suc, refl, sym, ap, subst, ◌∙◌, ℕ, List, [], ◌∷◌, map, Option, Some, None}
use Rattle.std.proofs.lemmas.Bool.{true≢false}
use Rattle.std.specs.Option.{option_map}
use Rattle.std.specs.Map.{keys_of}
use Rattle.mc_model.specs.synod.Packet.{Slot}
use Rattle.mc_model.specs.synod.Acceptor.{Records}
use Rattle.mc_model.specs.node.Setup.{Setup}
use Rattle.node_model.specs.Message.{Message}
use Rattle.node_model.specs.Recorded.{AreRecorded}
use Rattle.fate_chain.specs.declared.decree.Author.{Author}
use Rattle.waiting_requests.specs.Waiting.{held_in}
use Rattle.shelf.specs.Shelved.{value_at}
use Rattle.shelf.proofs.Visited.{same_keys, value_visited, visited}
use Rattle.synod_acceptor.specs.Records.{record_at}
use Rattle.node_parts.specs.declared.message.Message.{Message as Filed}
use Rattle.node_parts.specs.Renewal.{renewed}
use Rattle.node_kept.specs.declared.kept.Kept.{Kept as Holding}
use Rattle.node_kept.specs.Keeping.{AreOf, AreUnseen, IsOpen, acceptor_in, records_of}
use Rattle.node_kept.proofs.Queueing.{asked_none}

module _ (me : Author) where
  abbrev all_renewed : List (ℕ × Filed) → List (ℕ × Filed)
  all_renewed entries = map (visited (renewed me)) entries

  unseen_still : (entries : List (ℕ × Filed)) → AreUnseen entries → AreUnseen (all_renewed entries)
  unseen_still [] fresh = tt
  unseen_still (e ∷ es) fresh = (fresh.0, unseen_still es fresh.1)

  own_now : (with : Setup) (starts : ℕ) (entries : List (ℕ × Filed)) → me.node ≡ with.node → AreUnseen entries → AreOf with starts entries →
      AreOf with me.incarnation (all_renewed entries)
  own_now with starts [] node fresh own = tt
  own_now with starts (e ∷ es) node fresh own = (
    record {
      learner = own.0.learner;
      named = own.0.named;
      node = node;
      incarnation = refl;
      proposer = own.0.proposer;
      backed = λ place granted. absurd (true≢false (sym granted ∙ ap (λ (m : Message). m.granted place) fresh.0));
    },
    own_now with starts es node fresh.1 own.1,
  )

  same_acceptor : (slot : Slot) (found : Option Filed) → record_at (acceptor_in (option_map (renewed me) found)) slot ≡ record_at (acceptor_in found) slot
  same_acceptor slot None = refl
  same_acceptor slot (Some m) = refl

  records_still : (entries : List (ℕ × Filed)) (slot : Slot) → records_of (all_renewed entries) slot ≡ records_of entries slot
  records_still entries slot =
      ap (λ (found : Option Filed). record_at (acceptor_in found) slot) (value_visited (renewed me) entries slot.id)
      ∙ same_acceptor slot (value_at entries slot.id)

  pub begun : (with : Setup) (starts : ℕ) (records : Records) (old new : Holding) → me.node ≡ old.setup.node → new.setup ≡ old.setup →
      new.incarnation ≡ me.incarnation → new.clock ≡ old.clock → new.serial ≡ old.serial → new.given ≡ old.given → held_in new.queue ≡ held_in old.queue →
      new.messages.entries ≡ all_renewed old.messages.entries → IsOpen with starts records old → IsOpen with me.incarnation records new
  begun with starts records old new node setup incarnation clock serial given held entries is = record {
    setup = setup ∙ is.setup;
    incarnation = incarnation;
    clock = clock ∙ is.clock;
    serial = serial ∙ is.serial;
    given = given ∙ is.given;
    held = held ∙ is.held;
    kept = λ slot. ap (λ (es : List (ℕ × Filed)). records_of es slot) entries ∙ records_still old.messages.entries slot ∙ is.kept slot;
    fresh = subst AreUnseen (sym entries) (unseen_still old.messages.entries is.fresh);
    listed = subst (λ (ids : List ℕ). AreRecorded records ids) (sym (ap keys_of entries ∙ same_keys (renewed me) old.messages.entries)) is.listed;
    own = record {
      each = subst (λ (es : List (ℕ × Filed)). AreOf new.setup new.incarnation es) (sym entries)
          (subst (λ (starts : ℕ). AreOf new.setup starts (all_renewed old.messages.entries)) (sym incarnation)
          (subst (λ (s : Setup). AreOf s me.incarnation (all_renewed old.messages.entries)) (sym setup)
          (own_now old.setup old.incarnation old.messages.entries node is.fresh is.own.each)));
      asked = asked_none new.setup.node new.incarnation (suc new.given) (held_in new.queue) (held ∙ is.held);
      serial = subst (λ (n : ℕ). 1 ≤ n) (sym serial) is.own.serial;
    };
  }
