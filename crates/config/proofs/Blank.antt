-- A text of white space and comments alone is a document without members, which lacks a key.
use Rattle.std.proofs.Common.{◌≡◌, ℕ, suc, true, List, [], length, Some, subst, arith}
use Rattle.toml.specs.Data.{Data, no_members, table}
use Rattle.toml.specs.Errors.{IsBlank}
use Rattle.toml.specs.Parse.{parse_document, skip_bom}
use Rattle.toml.specs.Tables.{no_nodes}
use Rattle.toml.proofs.Turns.{document_some, lines_end}
use Rattle.config.specs.declared.key.Key.TheVariants as keys
use Rattle.config.specs.Config.{IsDocument, IsFaultless}
use Rattle.config.specs.Faults.{is_given}

blank_has_no_members : (octets : List ℕ) → IsBlank octets → parse_document octets ≡ Some no_members
blank_has_no_members octets blank =
    document_some octets (no_nodes, []) (lines_end (suc (length octets)) (no_nodes, []) (skip_bom octets) (omega arith) blank)

pub blank_lacks_a_key : (octets : List ℕ) (document : Data) → IsDocument octets document → IsFaultless document → IsBlank octets → ⊥
blank_lacks_a_key octets document read faultless blank =
    let empty = blank_has_no_members octets blank in
    let parsed = read.parsed in
    let none : read.members ≡ no_members = cc in
    let is = read.is in
    let same : document ≡ table no_members = cc in
    let given : is_given (table no_members) keys.SystemId ≡ true = subst (λ (it : Data). is_given it keys.SystemId ≡ true) same (faultless.given keys.SystemId) in
    cc
