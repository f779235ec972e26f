-- Entries of the same step.
use Rattle.std.proofs.Common.{◌≡◌, List, length, map, sym, ap}
use Rattle.std.specs.Prelude.{option_map}
use Rattle.std.specs.Arc.{arc_value}
use Rattle.synod_acceptor.specs.Packets.{packet_of}
use Rattle.synod_acceptor.specs.declared.packet.Packet.{Packet}
use Rattle.pdu_tables.specs.StatusCodes.{status_code}
use Rattle.waiting_requests.specs.Replying.{reply_given}
use Rattle.node_model.specs.Outputs.{nothing}
use Rattle.node_model.specs.Reported.{receipt_of}
use Rattle.node_core.specs.Outputs.{Outputs}
use Rattle.node_core.specs.Steps.{granted_of}
use Rattle.node_core.specs.Copies.{AreAlike as AreSame}
use Rattle.world.specs.Runs.{given_out}
use Rattle.journal_laws.specs.Likeness.{AreAlike, AreLike}
use Rattle.journal_laws.specs.Taken.{given_of}
use Rattle.journal_parts.specs.declared.done.Done.{Done}
use Rattle.journal_parts.specs.declared.entry.Entry.{Entry}
use Rattle.journal_parts.specs.Entries.{IsLike, done_of, entry_of, save_of}

told_alike : (one other : Outputs) → AreSame one other → given_out (given_of other) ≡ given_out (given_of one)
told_alike one other same = λ i. record nothing {
  ticket = same.ticket i;
  refused = option_map status_code (same.refused i);
  replies = map reply_given (same.replies i);
  receipts = map receipt_of (same.receipts i);
  granted = option_map granted_of (same.granted i);
}

done_alike : (one other : Done) → IsLike one other → AreLike (done_of one) (done_of other)
done_alike one other like = record {
  step = like.step;
  packet = ap (option_map packet_of) like.packet;
  told = told_alike one.outputs other.outputs like.outputs;
  count = ap (λ (ps : List Packet). length ps) like.outputs.packets;
  sent = ap (map packet_of) like.outputs.packets;
}

pub entries_alike : (one other : Entry) → IsLike (arc_value one.done) (arc_value other.done) → one.unfinished ≡ other.unfinished →
    AreAlike (entry_of one) (entry_of other)
entries_alike one other like same = record {
  done = done_alike (arc_value one.done) (arc_value other.done) like;
  unfinished = ap (option_map save_of) (sym same);
}
