-- What is told is taken in.
use Rattle.std.proofs.Common.{◌≡◌, ℕ, Option}
use Rattle.std.specs.Prelude.{◌==◌, ◌||◌}
use Rattle.std.proofs.Math.Path.{fun_ext}
use Rattle.mc_types.specs.Nodes.{has}
use Rattle.mc_model.specs.synod.Packet.{TopVote}
use Rattle.node_model.specs.Requests.{higher_top, told_by}
use Rattle.node_model.specs.Sets.{with_node}
use Rattle.waiting_requests.specs.Waiting.{Waits, held_of}

pub told_is : (old new : Waits) (teller : ℕ) (told : Option TopVote) → new.waiting ≡ old.waiting →
    ((other : ℕ) → has new.tellers other ≡ (has old.tellers other || other == teller)) → new.top ≡ higher_top old.top told →
    held_of new ≡ told_by (held_of old) teller told
told_is old new teller told waiting tellers top = λ i. record {
  waiting = waiting i;
  tellers = fun_ext {g = with_node (has old.tellers) teller} tellers i;
  top = top i;
}
