use Rattle.std.proofs.Common.{◌≡◌, ◌-◌, ◌<◌, length, arith, sym, ◌∙◌}
use Rattle.noting_store.specs.Noted.{HasNone, noted_in, noted_of}
use Rattle.noting_store.proofs.Notes.{has_more, stands_at}
use Rattle.noting_store.proofs.list.newest_of.Goals as goal

pub loop-place-preserved-in_ok-push : goal.loop-place-preserved-in_ok-push
loop-place-preserved-in_ok-push c =
    let was = c.loop-place.invariant in
    let low : c.loop-place.place - 1 < length c.args.notes.now = omega (arith, was.within, c.loop-place-test.true) in
    let here = stands_at c.args.notes.now (c.loop-place.place - 1) c.index-notes-place.result low c.index-notes-place.is in
    let of : c.index-notes-place.result.nodes ≡ c.args.nodes = sym c.nodes.ensures ∙ c.if-nodes.false in
    let none : HasNone (noted_of c.index-notes-place.result).slot.id (noted_in c.loop-place.newest.items) =
    rw (← c.id.ensures, ← c.deref.ensures.value) (c.has_note_of.ensures.0 c.if-not-has_note_of.true) in
    let more = has_more c.args.nodes c.args.notes.now c.loop-place.newest.items c.push.new.self.items c.index-notes-place.result c.in_ok-copy.field-0
    (record { found = was.found; nodes = was.nodes; apart = was.apart }) c.in_ok-push.ensures.items c.in_ok-copy.ensures here of none in
    record {
      within = omega (arith, was.within);
      found = more.found;
      nodes = more.nodes;
      apart = more.apart;
    }
