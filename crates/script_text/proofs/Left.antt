-- Acts one after another, however they are taken together.
use Rattle.std.proofs.Common.{◌≡◌, append_assoc}
use Rattle.script_text.specs.Left.{Left, followed_by}

pub followed_assoc : {State Input Print : Type 0} (first middle last : Left State Input Print) →
    followed_by (followed_by first middle) last ≡ followed_by first (followed_by middle last)
followed_assoc first middle last = λ i. record {
  next = last.next;
  inputs = append_assoc first.inputs middle.inputs last.inputs i;
  prints = append_assoc first.prints middle.prints last.prints i;
}
