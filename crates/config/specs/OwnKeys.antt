-- The keys of the table `own` (own).
use Rattle.std.specs.Prelude.{ℕ, List, codes}
use Rattle.config.specs.declared.own_key.OwnKey.{OwnKey}
use Rattle.config.specs.declared.own_key.OwnKey.TheVariants.{IdleSeconds, BindSeconds, WriteSeconds, LingerSeconds, Sessions, PartEntries}

abbrev pub own_name : OwnKey → List ℕ
own_name IdleSeconds = codes "idle_seconds"
own_name BindSeconds = codes "bind_seconds"
own_name WriteSeconds = codes "write_seconds"
own_name LingerSeconds = codes "linger_seconds"
own_name Sessions = codes "sessions"
own_name PartEntries = codes "part_entries"

-- the greatest value: a day in seconds, or so many sessions or entries
abbrev pub most_in : OwnKey → ℕ
most_in IdleSeconds = 86400
most_in BindSeconds = 86400
most_in WriteSeconds = 86400
most_in LingerSeconds = 86400
most_in Sessions = 65535
most_in PartEntries = 150000
