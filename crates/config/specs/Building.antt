-- What is known of the rows of a document that has no fault.
use Rattle.std.specs.Prelude.{◌≤◌, ◌-◌, List, codes, IfSome, IsSome, IsTrue, ◌||◌, ◌==◌}
use Rattle.std.specs.List.{AllByRecursion, list_any}
use Rattle.std.specs.declared.net.socket_addr.SocketAddrV4.{SocketAddrV4}
use Rattle.octet_fields.specs.Texts.{IsText}
use Rattle.toml.specs.Data.{Data}
use Rattle.config.specs.Listen.{IsListen}
use Rattle.config.specs.Rows.{number_in, text_in}
use Rattle.config.specs.Faults.{is_numbered}
use Rattle.config.specs.Config.{text_at}

pub record IsAccountRow (row : Data) : Type 0 where
  pub named : IsSome (text_in (codes "system_id") row)
  pub system_id : IsText 16 (text_at (codes "system_id") row)
  pub password : IsText 9 (text_at (codes "password") row)

pub record IsRouteRow (row : Data) : Type 0 where
  pub given : IsSome (text_in (codes "prefix") row)
  pub prefix : IsText 21 (text_at (codes "prefix") row)
  pub account : IsText 16 (text_at (codes "account") row)

abbrev pub IsNodeRow : Data → Type 0
IsNodeRow row = (address : SocketAddrV4) × IsListen (text_at (codes "listen") row) address

-- each number is one of 1 to 9, and 1 or behind that of another row
abbrev pub AreNumbered : List Data → Type 0
AreNumbered rows = AllByRecursion (λ row. IfSome (number_in (codes "number") row) (λ number. (1 ≤ number) × (number ≤ 9)
    × IsTrue ((number == 1) || list_any (is_numbered (number - 1)) rows))) rows
