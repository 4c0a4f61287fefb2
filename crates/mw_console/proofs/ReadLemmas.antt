-- What is left of a file after its first bytes.
use Rattle.std.proofs.Common.{◌≡◌, ℕ, zero, suc, List, [], ◌∷◌, ◌++◌, take, drop, sym}

-- what stands after a front is the rest
pub rest_behind : (n : ℕ) (file rest : List ℕ) → file ≡ take n file ++ rest → rest ≡ drop n file
rest_behind zero file rest e = sym e
rest_behind (suc n) [] rest e = sym e
rest_behind (suc n) (byte ∷ file) rest e = rest_behind n file rest (cc)
