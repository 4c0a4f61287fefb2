-- Steps of the loops that count bytes.
use Rattle.std.proofs.Common.{if◌then◌else◌, ◌≡◌, ℕ, suc, ◌+◌, ◌<◌, ◌≤◌, List, length, drop}
use Rattle.std.proofs.Common.{get_or, drop-cons, add-one, ap, sym, ◌∙◌, arith, Bool, true, false}
use Rattle.std.proofs.lemmas.List.{drop_all}
use Rattle.mw_lex.specs.Pieces.{count}

module _ (test : ℕ → Bool) (bytes : List ℕ) (n : ℕ) where
  -- the bytes from n on
  here : n < length bytes → (t : Bool) → test (get_or bytes n 0) ≡ t → count test (drop n bytes)
      ≡ (if t then suc (count test (drop (suc n) bytes)) else 0)
  here p t e = ap (λ r. count test r) (drop-cons bytes n 0 p)
      ∙ ap (λ t. if t then suc (count test (drop (suc n) bytes)) else 0) e

  pub counts_on : n < length bytes → test (get_or bytes n 0) ≡ true → n + count test (drop n bytes)
      ≡ n + 1 + count test (drop (n + 1) bytes)
  counts_on p e = let f : count test (drop n bytes) ≡ suc (count test (drop (n + 1) bytes)) = here p true e
      ∙ ap (λ k. suc (count test (drop k bytes))) (sym (add-one n)) in omega (arith, f)

  pub counts_off : n < length bytes → test (get_or bytes n 0) ≡ false → n + count test (drop n bytes) ≡ n
  counts_off p e = let f = here p false e in omega (arith, f)

  pub counts_all : length bytes ≤ n → n + count test (drop n bytes) ≡ n
  counts_all p = let f : count test (drop n bytes) ≡ 0 = ap (λ r. count test r) (drop_all n bytes p) in omega (arith, f)
