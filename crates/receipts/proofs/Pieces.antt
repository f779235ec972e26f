-- Four pieces, each behind the ones before.
use Rattle.std.proofs.Common.{◌≡◌, ◌∙◌, ap, List, ◌++◌, append_assoc}

pub four : {A : Type 0} (before first second third fourth a b c d : List A) → first ≡ before ++ a → second ≡ first ++ b →
    third ≡ second ++ c → fourth ≡ third ++ d →
    fourth ≡ before ++ (a ++ b ++ c ++ d)
four before first second third fourth a b c d one two three last =
    let joined : second ≡ before ++ (a ++ b) = two ∙ (ap (λ x. x ++ b) one ∙ append_assoc before a b) in
    let longer : third ≡ before ++ (a ++ b ++ c) = three ∙ (ap (λ x. x ++ c) joined ∙ append_assoc before (a ++ b) c) in
    last ∙ (ap (λ x. x ++ d) longer ∙ append_assoc before (a ++ b ++ c) d)
