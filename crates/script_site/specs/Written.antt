-- The line of what goes out on a session by what a node gave out.
use Rattle.std.specs.Prelude.{◌≡◌, ℕ, List, [], ◌++◌, Option, Some, None, refl}
use Rattle.std.proofs.Common.{sym, ap, ◌∙◌, append_assoc}
use Rattle.std.proofs.lemmas.Grind.{flat_map-append}
use Rattle.std.proofs.lemmas.List.{append-nil}
use Rattle.esme_service.specs.Sendings.{AreOctetsOf, number_of}
use Rattle.esme_service.specs.declared.sending.Sending.{Sending}
use Rattle.script_text.specs.Prints.{Print, line_at, octets_line, text_at}

-- octets make a line, if there are some
abbrev pub line_of : ℕ → ℕ → Option (List ℕ) → List ℕ
line_of node number None = []
line_of node number (Some octets) = octets_line node number octets

-- It was added.
pub record IsWritten (node : ℕ) (sending : Sending) (before after : List ℕ) : Type 0 where
  pub octets : Option (List ℕ)
  pub are : AreOctetsOf sending octets
  pub text : after ≡ before ++ line_of node (number_of sending) octets

-- ---- the lines of a node

-- The text of what is printed was added to them.
pub record Adds (node : ℕ) (before : List ℕ) (prints : List Print) (same : ℕ) (after : List ℕ) : Type 0 where
  pub node_is : same ≡ node
  pub text : after ≡ before ++ text_at node prints

pub adds_none : (node : ℕ) (text : List ℕ) → Adds node text [] node text
adds_none node text = record { node_is = refl; text = sym (append-nil text) }

pub adds_both : (one two three : ℕ) (before between after : List ℕ) (first last : List Print) → Adds one before first two between
    → Adds two between last three after → Adds one before (first ++ last) three after
adds_both one two three before between after first last did then = record {
  node_is = then.node_is ∙ did.node_is;
  text = then.text ∙ ap (λ (n : ℕ). between ++ text_at n last) did.node_is ∙ ap (λ (t : List ℕ). t ++ text_at one last) did.text
      ∙ append_assoc before (text_at one first) (text_at one last) ∙ ap (λ (t : List ℕ). before ++ t) (sym (flat_map-append (line_at one) first last));
}
