use Rattle.std.proofs.Common.{◌≡◌, ◌<◌, List, length, sym, subst, arith}
use Rattle.std.proofs.Math.ListN.{set}
use Rattle.std.proofs.lemmas.List.{length-map}
use Rattle.synod_learner.specs.Counts.{Count, Learned, count_of, counts_of}
use Rattle.synod_learner.specs.Hearing.{IsCoherent, IsRecount, recounted}
use Rattle.synod_learner.proofs.Counts.{tally_anew}
use Rattle.synod_learner.proofs.learner.Learner.count_anew.Goals as goal

pub invariant_of-self : goal.invariant_of-self
invariant_of-self c =
    let is = subst (λ (l : Learned). IsRecount l c.args.recount) (sym c.self.view_is) c.requires in
    let within : c.args.recount.place < length c.self.inside.tallies.items = omega (arith, is.stands, length-map c.self.inside.tallies.items count_of) in
    subst (λ (cs : List Count). IsCoherent c.self.inside.nodes cs c.self.inside.known.items)
    (sym (tally_anew c.self.inside.tallies.items c.args.recount.place c.index_mut.result.now c.args.recount.voters within c.index_mut.ensures.value))
    is.coherent

pub returns : goal.returns
returns c =
    let is = subst (λ (l : Learned). IsRecount l c.args.recount) (sym c.self.view_is) c.requires in
    let within : c.args.recount.place < length c.self.inside.tallies.items = omega (arith, is.stands, length-map c.self.inside.tallies.items count_of) in
    subst (λ (l : Learned). record {
      nodes = c.self.inside.nodes;
      counts = counts_of (set c.self.inside.tallies.items c.args.recount.place (record { vote = c.index_mut.result.now.vote; voters = c.args.recount.voters }));
      known = c.self.inside.known.items;
    } ≡ recounted l c.args.recount) c.self.view_is
    (λ i. record {
      nodes = c.self.inside.nodes;
      counts = tally_anew c.self.inside.tallies.items c.args.recount.place c.index_mut.result.now c.args.recount.voters within c.index_mut.ensures.value i;
      known = c.self.inside.known.items;
    })
