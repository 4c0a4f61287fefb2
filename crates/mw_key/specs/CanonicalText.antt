-- Canonical texts: one text of each version for each pair of code and kernel type.
use Rattle.std.specs.Prelude.{◌≡◌, ℕ, ◌≤◌, true, List, [], ◌++◌, take, codes, if◌then◌else◌}
use Rattle.std.specs.Fmt.{signed_decimal, decimal}
use Rattle.std.specs.Int.{w32, from_le_bytes}
use Rattle.sha2.specs.Sha256.{sha256}
use Rattle.mw_term.specs.Terms.{Expression, GroundType, KernelType, base, product, of_ground, to, num, truth, var, fun}
use Rattle.mw_term.specs.Terms.{fix, app, bind, cond, pair, fst, snd, prim}
use Rattle.mw_term.specs.Closed.{IsCode, IsClosed}
use Rattle.mw_term.specs.Limits.{within_limits, kernel_nodes, LiteralsFit}
use Rattle.mw_term.specs.declared.term.Base.TheVariants.{Int, Bool as Truth}
use Rattle.mw_term.specs.declared.term.Primitive.{Primitive as Prim}
use Rattle.mw_term.specs.declared.term.Primitive.TheVariants.{Add, Sub, Mul, Div, Mod, Eq, Lt, Le}
use Rattle.mw_key.specs.declared.version.Version.{Version}
use Rattle.mw_key.specs.declared.version.Version.TheVariants.{One, Two}

-- the first word of a text
abbrev pub version_word : Version → List ℕ
version_word One = codes "emit1"
version_word Two = codes "emit2"

-- the words of a type, each after its space
abbrev pub ground_words : GroundType → List ℕ
ground_words (base Int) = codes " int"
ground_words (base Truth) = codes " bool"
ground_words (product s t) = codes " pair" ++ ground_words s ++ ground_words t

abbrev pub kernel_words : KernelType → List ℕ
kernel_words (of_ground t) = ground_words t
kernel_words (to s t) = codes " to" ++ ground_words s ++ ground_words t

abbrev pub primitive_word : Prim → List ℕ
primitive_word Add = codes " add"
primitive_word Sub = codes " sub"
primitive_word Mul = codes " mul"
primitive_word Div = codes " div"
primitive_word Mod = codes " mod"
primitive_word Eq = codes " eq"
primitive_word Lt = codes " lt"
primitive_word Le = codes " le"

-- the words of code, each after its space; what is no code has none
abbrev pub code_words : Expression → List ℕ
code_words (num n) = codes " i " ++ signed_decimal n
code_words (truth b) = if b then codes " true" else codes " false"
code_words (var i) = codes " v " ++ decimal i
code_words (fun e) = codes " fun" ++ code_words e
code_words (fix e) = codes " rec" ++ code_words e
code_words (app f a) = codes " app" ++ code_words f ++ code_words a
code_words (bind d e) = codes " let" ++ code_words d ++ code_words e
code_words (cond c a b) = codes " if" ++ code_words c ++ code_words a ++ code_words b
code_words (pair a b) = codes " pair" ++ code_words a ++ code_words b
code_words (fst e) = codes " fst" ++ code_words e
code_words (snd e) = codes " snd" ++ code_words e
code_words (prim p a b) = primitive_word p ++ code_words a ++ code_words b
code_words _ = []

-- a word, and the words of two codes after it
abbrev pub words_of_two : List ℕ → Expression → Expression → List ℕ
words_of_two word a b = word ++ code_words a ++ code_words b

abbrev pub canonical_text : Version → Expression → KernelType → List ℕ
canonical_text v c k = version_word v ++ kernel_words k ++ code_words c

-- what has canonical texts: closed code within the limits of kernels, whose literals have 64 bits, at a type of at most
-- 10,000 nodes
pub record IsKernel (c : Expression) (k : KernelType) : Type 0 where
  pub code : IsCode c
  pub closed : IsClosed c
  pub literals : LiteralsFit c
  pub limits : within_limits c ≡ true
  pub nodes : kernel_nodes k ≤ 10000

-- the bytes are the text of this version, code and type
pub record IsTextOf (bytes : List ℕ) (v : Version) (c : Expression) (k : KernelType) : Type 0 where
  pub kernel : IsKernel c k
  pub text : bytes ≡ canonical_text v c k

-- where a text's name begins to be looked for: the first four bytes of its digest as a number, the lowest first
abbrev pub home : List ℕ → ℕ
home bytes = from_le_bytes w32 (take 4 (sha256 bytes))
