-- The texts of message ids.
use Rattle.std.proofs.Common.{ℕ, ◌+◌, ◌%◌, ◌^◌, ◌<◌, List, [], ◌∷◌, ◌++◌, arith}
use Rattle.std.specs.Fmt.{decimal}
use Rattle.std.specs.List.{AllByRecursion}
use Rattle.std.proofs.lemmas.Fmt.{decimal_by_steps, length-decimal-le}
use Rattle.std.proofs.lemmas.List.Elements.{All-from_recursion}
use Rattle.mc_model.specs.message.Ids.{IsId}
use Rattle.pdu_codec.specs.Text.{IsText}

abbrev IsPositive : List ℕ → Type 0
IsPositive digits = AllByRecursion (λ octet. 0 < octet) digits

IsPositive-push : (digits : List ℕ) (digit : ℕ) → IsPositive digits → 0 < digit → IsPositive (digits ++ digit ∷ [])
IsPositive-push [] digit all last = (last, tt)
IsPositive-push (first ∷ digits) digit all last = (all.0, IsPositive-push digits digit all.1 last)

-- an id has ten digits, and none of them is zero
pub IsText-decimal : (id : ℕ) → IsId id → IsText 65 (decimal id)
IsText-decimal id is =
    let small : id < 10 ^ 10 = omega (arith, is.node.most) in
    record {
      short = omega (arith, length-decimal-le 10 id (omega arith) small (omega arith));
      no_zero = All-from_recursion (λ octet. 0 < octet) (decimal id)
          (decimal_by_steps (λ n digits. IsPositive digits) (λ n below. (omega arith, tt))
          (λ n digits above all. IsPositive-push digits (48 + n % 10) all (omega arith)) id (omega arith));
    }
