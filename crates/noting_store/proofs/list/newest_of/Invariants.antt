use Rattle.std.proofs.Common.{◌≤◌, length}
use Rattle.mc_model.specs.synod.Lists.{In}
use Rattle.noting_store.specs.Noted.{AreApart, AreOf, Noted, noted_in}
use Rattle.noting_store.proofs.list.newest_of.Given as goal

abbrev pub invariant-loop-place : goal.invariant-loop-place
invariant-loop-place l = record {
  within : l.place ≤ length l.notes;
  found : (n : Noted) → In n (noted_in l.newest.items) → In n (noted_in l.notes);
  nodes : AreOf l.nodes l.newest.items;
  apart : AreApart (noted_in l.newest.items);
}
