use Rattle.std.specs.Option.{option_copied}
use Rattle.node_model.specs.Acceptor.{told_of}
use Rattle.node_model.proofs.Told.{told_is}
use Rattle.synod_acceptor.specs.Votes.{told_vote}
use Rattle.synod_acceptor.specs.Records.{entries_of, record_at}
use Rattle.synod_acceptor.proofs.Tops.{top_told}
use Rattle.mc_parts.proofs.Told.{told_once}
use Rattle.synod_acceptor.proofs.acceptor.Acceptor.tell.Goals as goal

pub returns : goal.returns
returns c =
    let entries = entries_of c.self.inside.records.items in
    let told = top_told entries c.args.id (told_vote (option_copied c.top_of.result)) c.self.invariant.apart (rw c.deref.ensures.value at c.top_of.ensures) in
    let also = told_is (record_at entries) c.args.id c.self.invariant.placed in
    rw (← c.self.view_is) (told_once (record_at entries) c.args.id (told_vote (option_copied c.top_of.result))
    (told_of (record_at entries) c.args.id) told also)
