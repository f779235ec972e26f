-- A node by itself with a new store.
use Rattle.std.proofs.Common.{ℕ, [], refl, arith}
use Rattle.node_model.specs.Stepped.{opened_new}
use Rattle.node_model.proofs.Places.{zeros}
use Rattle.shelf.proofs.Entries.{none_ascends}
use Rattle.table_laws.specs.Alone.{alone}
use Rattle.table_laws.specs.Tables.{new_table, Entry}
use Rattle.table_laws.specs.Resting.{IsResting}

pub new_rests : (first validity : ℕ) → IsResting (opened_new (alone first validity)) (new_table first)
new_rests first validity = record {
  up = refl;
  life = record { least = omega arith; most = omega arith };
  incarnation = refl;
  clock = refl;
  serial = refl;
  ticket = refl;
  waits = refl;
  ids = refl;
  ascends = none_ascends {V = Entry} [] refl;
  message = λ id. record {
    ready = record {
      known = refl;
      idle = refl;
      votes = tt;
      beyond = λ place above. record { record_is = refl; seen = zeros place; ungranted = refl; unclosed = refl };
    };
    taken = tt;
    granted = refl;
    unclosed = refl;
  };
}
