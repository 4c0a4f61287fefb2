-- Canonical texts are short.
use Rattle.std.proofs.Common.{◌≡◌, ℕ, suc, ◌+◌, ◌*◌, ◌<◌, ◌≤◌, ◌^◌, ℤ, pos, negsuc, true, false, ◌++◌, length, List}
use Rattle.std.proofs.Common.{length-append, arith, subst, sym}
use Rattle.std.specs.Prelude.{FitsSigned, codes, nat_le, ◌&&◌}
use Rattle.std.specs.Int.{w64}
use Rattle.std.specs.Fmt.{signed_decimal}
use Rattle.std.proofs.lemmas.Fmt.{length-decimal-le, length_signed_le}
use Rattle.std.proofs.lemmas.Bool.Decides.{nat_tests}
use Rattle.mw_term.specs.declared.term.Base.TheVariants.{Int, Bool as Truth}
use Rattle.mw_term.specs.declared.term.Primitive.{Primitive as Prim}
use Rattle.mw_term.specs.Terms.{Expression, GroundType, KernelType, base, product, of_ground, to, num, truth, var}
use Rattle.mw_term.specs.Terms.{fun, fix, app, bind, cond, pair, fst, snd, prim}
use Rattle.mw_term.specs.Terms.{size, depth_of}
use Rattle.mw_term.specs.Closed.{ClosedBelow}
use Rattle.mw_term.specs.Limits.{ground_nodes, kernel_nodes, LiteralsFit}
use Rattle.mw_key.specs.declared.version.Version.{Version}
use Rattle.mw_key.specs.declared.version.Version.TheVariants.{One, Two}
use Rattle.mw_key.specs.CanonicalText.{version_word, ground_words, kernel_words, primitive_word, code_words}
use Rattle.mw_key.specs.CanonicalText.{canonical_text}
use Rattle.mw_key.specs.TextLaws.{ShortText}
use Rattle.mw_key.proofs.FormWords.{primitive_is}

literal_length : (z : ℤ) → FitsSigned w64 z → length (signed_decimal z) ≤ 20
literal_length (pos n) fits = let small : n < 2 ^ 63 = fits.sfits in length_signed_le 19 (pos n) (omega arith) small
literal_length (negsuc n) fits = let small : n < 2 ^ 63 = fits.sfits in length_signed_le 19 (negsuc n) (omega arith)
    small

ground_length : (t : GroundType) → length (ground_words t) ≤ 5 * ground_nodes t
ground_length (base Int) = omega arith
ground_length (base Truth) = omega arith
ground_length (product s t) =
    omega (arith, length-append (codes " pair" ++ ground_words s) (ground_words t), ground_length s, ground_length t)

kernel_length : (k : KernelType) → length (kernel_words k) ≤ 5 * kernel_nodes k
kernel_length (of_ground t) = ground_length t
kernel_length (to s t) =
    omega (arith, length-append (codes " to" ++ ground_words s) (ground_words t), ground_length s, ground_length t)

-- the words of two codes behind a word
two_length : (w : List ℕ) (a b : Expression) → length w ≤ 5 → length (code_words a) ≤ 24 * size a
    → length (code_words b) ≤ 24 * size b → length (w ++ code_words a ++ code_words b) ≤ 24 * (size a + size b + 1)
two_length w a b p q r = omega (arith, length-append (w ++ code_words a) (code_words b), length-append w (code_words a))

-- a node has at most 24 bytes
code_length : (c : Expression) (k : ℕ) → ClosedBelow k c → LiteralsFit c → k + 2 * depth_of c ≤ 1000
    → length (code_words c) ≤ 24 * size c
code_length (num z) k closed fits low = omega (arith, literal_length z fits)
code_length (truth true) k closed fits low = omega arith
code_length (truth false) k closed fits low = omega arith
code_length (var i) k closed fits low = let digits = length-decimal-le 3 i (omega arith) (omega arith) (omega arith) in
    omega arith
code_length (fun e) k closed fits low = omega (arith, code_length e (suc k) closed fits (omega arith))
code_length (fix e) k closed fits low = omega (arith, code_length e (suc (suc k)) closed fits (omega arith))
code_length (app f a) k closed fits low =
    two_length (codes " app") f a (omega arith) (code_length f k closed.0 fits.0 (omega arith))
    (code_length a k closed.1 fits.1 (omega arith))
code_length (bind d e) k closed fits low =
    two_length (codes " let") d e (omega arith) (code_length d k closed.0 fits.0 (omega arith))
    (code_length e (suc k) closed.1 fits.1 (omega arith))
code_length (cond c a b) k closed fits low = omega (
  arith,
  length-append (codes " if" ++ code_words c ++ code_words a) (code_words b),
  length-append (codes " if" ++ code_words c) (code_words a),
  code_length c k closed.0 fits.0 (omega arith),
  code_length a k closed.1 fits.1 (omega arith),
  code_length b k closed.2 fits.2 (omega arith),
)
code_length (pair a b) k closed fits low =
    two_length (codes " pair") a b (omega arith) (code_length a k closed.0 fits.0 (omega arith))
    (code_length b k closed.1 fits.1 (omega arith))
code_length (fst e) k closed fits low = omega (arith, code_length e k closed fits (omega arith))
code_length (snd e) k closed fits low = omega (arith, code_length e k closed fits (omega arith))
code_length (prim p a b) k closed fits low =
    two_length (primitive_word p) a b (omega (arith, (primitive_is p).short))
    (code_length a k closed.0 fits.0 (omega arith))
    (code_length b k closed.1 fits.1 (omega arith))
code_length _ k closed fits low = omega arith

version_length : (v : Version) → length (version_word v) ≤ 5
version_length One = omega arith
version_length Two = omega arith

both_limits : (m n : ℕ) → nat_le m 20000 && nat_le n 400 ≡ true → (m ≤ 20000) × (n ≤ 400)
both_limits m n h = (grind (arith, nat_tests), grind (arith, nat_tests))

pub short_text : ShortText
short_text bytes v c k is =
    let q = is.kernel in
    let few = both_limits (size c) (depth_of c) q.limits in
    let text = code_length c 0 q.closed q.literals (omega (arith, few.1)) in
    let first = length-append (version_word v ++ kernel_words k) (code_words c) in
    let second = length-append (version_word v) (kernel_words k) in
    let short : length (canonical_text v c k) < 2 ^ 32 =
    omega (arith, first, second, text, few.0, q.nodes, version_length v, kernel_length k) in
    subst (λ bs. length bs < 2 ^ 32) (sym is.text) short
