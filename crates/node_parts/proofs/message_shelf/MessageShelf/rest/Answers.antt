use Rattle.std.proofs.Common.{◌≡◌, ◌∙◌, ◌-◌, ℕ, List, length, map, sym, ap, subst}
use Rattle.std.specs.Prelude.{filter, min}
use Rattle.std.specs.Map.{keys_of}
use Rattle.std.specs.Vec.{vec_capacity}
use Rattle.node_parts.specs.declared.listing.Listing.{Listing}
use Rattle.node_parts.specs.declared.message.Message.{Message as Filed}
use Rattle.node_parts.specs.Living.{AreListed, Listed, dropped, is_kept_listed, is_live_in}
use Rattle.node_parts.specs.Messages.{rested, rested_entry}
use Rattle.node_parts.specs.Sleeping.{AreNoted, ids_of}
use Rattle.node_parts.specs.Waking.{AreAwake}
use Rattle.node_parts.proofs.Dozing.{left_rested, noted_left, noted_visited, rested_keeps}
use Rattle.node_parts.proofs.Dropping.{all_dropped, runs_among}
use Rattle.node_parts.proofs.Living.{visited_length}
use Rattle.node_parts.proofs.Rising.{rise_of}
use Rattle.node_parts.proofs.Waking.{awake_left}
use Rattle.node_parts.proofs.message_shelf.MessageShelf.rest.Goals as goal

all_rested : (c : goal.After-unlist) → c.drop_rounds.new.shelf.entries ≡ map rested_entry c.self.inside.shelf.entries
all_rested c =
    let s = c.self.inside in
    c.drop_rounds.ensures.entries
    ∙ ap (λ (ids : List ℕ). dropped ids s.shelf.entries) c.deref.ensures.value
    ∙ all_dropped s.awake.ids.items s.shelf.entries (rise_of (keys_of s.shelf.entries) c.ascends.ensures)
    (runs_among s.shelf.entries s.live.items s.awake.ids.items (min s.live.width (vec_capacity s.awake.ids)) s.awake.until s.noted
    c.self.invariant.0 c.self.invariant.1.0 c.self.invariant.1.1)

pub unlist-requires : goal.unlist-requires
unlist-requires c = c.self.invariant.1.1.each

pub returns-clause-entries : goal.returns-clause-entries
returns-clause-entries c = all_rested c ∙ ap (λ (l : Listed). map rested_entry l.entries) c.self.view_is

pub returns-clause-listings : goal.returns-clause-listings
returns-clause-listings c =
    let s = c.self.inside in
    (λ i. min (c.unlist.ensures.capacity i) (c.unlist.ensures.room i) - length (all_rested c i))
    ∙ ap (λ (n : ℕ). min s.live.width (vec_capacity s.awake.ids) - n) (visited_length rested s.shelf.entries)
    ∙ ap (λ (l : Listed). l.listings) c.self.view_is

pub invariant_of-self : goal.invariant_of-self
invariant_of-self c =
    let s = c.self.inside in
    let entries = s.shelf.entries in
    let rest = map rested_entry entries in
    let room = min s.live.width (vec_capacity s.awake.ids) in
    let visited : c.drop_rounds.new.shelf.entries ≡ rest = all_rested c in
    let left : c.unlist.new.live.items ≡ filter (is_kept_listed rest) s.live.items =
    c.unlist.ensures.live ∙ ap (λ (es : List (ℕ × Filed)). filter (is_kept_listed es) s.live.items) visited in
    let awake : c.unlist.new.awake.items ≡ filter (is_live_in rest) s.awake.ids.items =
    c.unlist.ensures.awake ∙ ap (λ (es : List (ℕ × Filed)). filter (is_live_in es) s.awake.ids.items) visited in (
      subst (λ (n : ℕ). AreListed c.drop_rounds.new.shelf.entries (ids_of c.unlist.new.live.items) n)
          (sym (λ i. min (c.unlist.ensures.capacity i) (c.unlist.ensures.room i)))
          (subst (λ (ls : List Listing). AreListed c.drop_rounds.new.shelf.entries (ids_of ls) room) (sym left)
          (subst (λ (es : List (ℕ × Filed)). AreListed es (ids_of (filter (is_kept_listed rest) s.live.items)) room)
          (sym visited) (left_rested entries s.live.items room c.self.invariant.0))),
      (
        subst (λ (ls : List Listing). AreNoted s.noted c.drop_rounds.new.shelf.entries ls) (sym left)
            (subst (λ (es : List (ℕ × Filed)). AreNoted s.noted es (filter (is_kept_listed rest) s.live.items)) (sym visited)
            (noted_left s.noted rest (is_kept_listed rest) s.live.items
            (noted_visited rested s.noted entries s.live.items rested_keeps c.self.invariant.1.0))),
        subst (λ (ls : List Listing). AreAwake s.awake.until ls c.unlist.new.awake.items) (sym left)
            (subst (AreAwake s.awake.until (filter (is_kept_listed rest) s.live.items)) (sym awake)
            (awake_left rest s.awake.until s.live.items s.awake.ids.items c.self.invariant.1.1)),
      ),
    )
