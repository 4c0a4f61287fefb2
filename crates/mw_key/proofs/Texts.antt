-- Texts put together.
use Rattle.std.proofs.Common.{◌≡◌, ℕ, ◌+◌, ◌/◌, ◌%◌, ◌^◌, ◌<◌, ◌≤◌, List, [], ◌∷◌, ◌++◌, sym, ◌∙◌, ap}
use Rattle.std.specs.Fmt.{decimal}
use Rattle.std.proofs.lemmas.List.{append_assoc}
use Rattle.std.proofs.lemmas.Fmt.{decimal_step}

-- the last digit after those before it
pub digit_written : (text middle : List ℕ) (n : ℕ) → 10 ≤ n → n < 2 ^ 64 → middle ≡ text ++ decimal (n / 10)
    → middle ++ (48 + n % 10) ∷ [] ≡ text ++ decimal n
digit_written text middle n p q e = ap (λ bytes. bytes ++ (48 + n % 10) ∷ []) e ∙ append_assoc text (decimal (n / 10))
    ((48 + n % 10) ∷ []) ∙ ap (λ bytes. text ++ bytes) (sym (decimal_step n p q))
