-- Classifiers renamed in types and environments, and entries put into an environment.
use Rattle.std.proofs.Common.{◌≡◌, ◌≢◌, ℕ, zero, suc, ◌≤◌, max, List, [], ◌∷◌, cond, nat_eq, Some, refl, arith}
use Rattle.std.specs.Prelude.{slice_get}
use Rattle.mw_term.specs.Terms.{GroundType, KernelType, base, product, of_ground, to}
use Rattle.mw_term.specs.declared.term.Base.{Base}
use Rattle.mw_term.specs.declared.term.Base.TheVariants.{Int, Bool as Truth}
use Rattle.mw_term.specs.declared.term.Primitive.{Primitive as Prim}
use Rattle.mw_term.specs.declared.term.Primitive.TheVariants.{Add, Sub, Mul, Div, Mod, Eq, Lt, Le}
use Rattle.mw_term.specs.Substitution.{raised}
use Rattle.mw_term.specs.Types.{TermType, int_type, bool_type, pair_type, function_type, code_type, closed_type, Level}
use Rattle.mw_term.specs.Types.{live, under, Entry, value, quoted, entry, IsPlain, IsFormed, Fits, IsAbsentIn}
use Rattle.mw_term.specs.Types.{IsAbsentAt, IsAbsent, base_type, ground_type, kernel_type, primitive_type}

abbrev pub rename_type : (ℕ → ℕ) → TermType → TermType
rename_type r int_type = int_type
rename_type r bool_type = bool_type
rename_type r (pair_type s t) = pair_type (rename_type r s) (rename_type r t)
rename_type r (function_type s t) = function_type (rename_type r s) (rename_type r t)
rename_type r (code_type a t) = code_type (r a) (rename_type r t)
rename_type r (closed_type t) = closed_type (rename_type r t)

abbrev pub rename_level : (ℕ → ℕ) → Level → Level
rename_level r live = live
rename_level r (under a) = under (r a)

abbrev pub rename_entry : (ℕ → ℕ) → Entry → Entry
rename_entry r (value t) = value (rename_type r t)
rename_entry r (quoted a t) = quoted (r a) (rename_type r t)

abbrev pub rename_all : (ℕ → ℕ) → List Entry → List Entry
rename_all r [] = []
rename_all r (x ∷ g) = rename_entry r x ∷ rename_all r g

pub rename_entry-entry : (r : ℕ → ℕ) (m : Level) (t : TermType) → rename_entry r (entry m t) ≡ entry (rename_level r m)
    (rename_type r t)
rename_entry-entry r live t = refl
rename_entry-entry r (under a) t = refl

pub rename_type-plain : (r : ℕ → ℕ) (t : TermType) → IsPlain t → rename_type r t ≡ t
rename_type-plain r int_type h = refl
rename_type-plain r bool_type h = refl
rename_type-plain r (pair_type s t) h = rw (rename_type-plain r s h.0, rename_type-plain r t h.1) refl
rename_type-plain r (function_type s t) h = rw (rename_type-plain r s h.0, rename_type-plain r t h.1) refl
rename_type-plain r (code_type a t) h = absurd h
rename_type-plain r (closed_type t) h = absurd h

pub IsPlain-rename_type : (r : ℕ → ℕ) (t : TermType) → IsPlain t → IsPlain (rename_type r t)
IsPlain-rename_type r t h = rw (rename_type-plain r t h) h

pub IsFormed-rename_type : (r : ℕ → ℕ) (t : TermType) → IsFormed t → IsFormed (rename_type r t)
IsFormed-rename_type r int_type h = tt
IsFormed-rename_type r bool_type h = tt
IsFormed-rename_type r (pair_type s t) h = (IsFormed-rename_type r s h.0, IsFormed-rename_type r t h.1)
IsFormed-rename_type r (function_type s t) h = (IsFormed-rename_type r s h.0, IsFormed-rename_type r t h.1)
IsFormed-rename_type r (code_type a t) h = IsPlain-rename_type r t h
IsFormed-rename_type r (closed_type t) h = IsPlain-rename_type r t h

pub Fits-rename_type : (r : ℕ → ℕ) (m : Level) (t : TermType) → Fits m t → Fits (rename_level r m) (rename_type r t)
Fits-rename_type r live t h = IsFormed-rename_type r t h
Fits-rename_type r (under a) t h = IsPlain-rename_type r t h

rename_type-base_type : (r : ℕ → ℕ) (b : Base) → rename_type r (base_type b) ≡ base_type b
rename_type-base_type r Int = refl
rename_type-base_type r Truth = refl

rename_type-ground_type : (r : ℕ → ℕ) (s : GroundType) → rename_type r (ground_type s) ≡ ground_type s
rename_type-ground_type r (base b) = rename_type-base_type r b
rename_type-ground_type r (product s t) = rw (rename_type-ground_type r s, rename_type-ground_type r t) refl

pub rename_type-kernel_type : (r : ℕ → ℕ) (k : KernelType) → rename_type r (kernel_type k) ≡ kernel_type k
rename_type-kernel_type r (of_ground t) = rename_type-ground_type r t
rename_type-kernel_type r (to s t) = rw (rename_type-ground_type r s, rename_type-ground_type r t) refl

pub rename_type-primitive_type : (r : ℕ → ℕ) (p : Prim) → rename_type r (primitive_type p) ≡ primitive_type p
rename_type-primitive_type r Add = refl
rename_type-primitive_type r Sub = refl
rename_type-primitive_type r Mul = refl
rename_type-primitive_type r Div = refl
rename_type-primitive_type r Mod = refl
rename_type-primitive_type r Eq = refl
rename_type-primitive_type r Lt = refl
rename_type-primitive_type r Le = refl

-- the renaming that changes nothing
abbrev pub same : ℕ → ℕ
same a = a

pub rename_type-same : (t : TermType) → rename_type same t ≡ t
rename_type-same int_type = refl
rename_type-same bool_type = refl
rename_type-same (pair_type s t) = rw (rename_type-same s, rename_type-same t) refl
rename_type-same (function_type s t) = rw (rename_type-same s, rename_type-same t) refl
rename_type-same (code_type a t) = rw (rename_type-same t) refl
rename_type-same (closed_type t) = rw (rename_type-same t) refl

pub rename_level-same : (m : Level) → rename_level same m ≡ m
rename_level-same live = refl
rename_level-same (under a) = refl

rename_entry-same : (x : Entry) → rename_entry same x ≡ x
rename_entry-same (value t) = rw (rename_type-same t) refl
rename_entry-same (quoted a t) = rw (rename_type-same t) refl

pub rename_all-same : (g : List Entry) → rename_all same g ≡ g
rename_all-same [] = refl
rename_all-same (x ∷ g) = rw (rename_entry-same x, rename_all-same g) refl

-- two renamings that differ at one classifier alone
pub record DifferOnlyAt (a : ℕ) (r q : ℕ → ℕ) : Type 0 where
  pub same : (b : ℕ) → b ≢ a → q b ≡ r b

rename_type-apart : (a : ℕ) (r q : ℕ → ℕ) → DifferOnlyAt a r q → (t : TermType) → IsAbsentIn a t → rename_type q t
    ≡ rename_type r t
rename_type-apart a r q h int_type p = refl
rename_type-apart a r q h bool_type p = refl
rename_type-apart a r q h (pair_type s t) p = rw (rename_type-apart a r q h s p.0, rename_type-apart a r q h t p.1) refl
rename_type-apart a r q h (function_type s t) p = rw (rename_type-apart a r q h s p.0, rename_type-apart a r q h t p.1)
    refl
rename_type-apart a r q h (code_type b t) p = rw (h.same b p.0, rename_type-apart a r q h t p.1) refl
rename_type-apart a r q h (closed_type t) p = rw (rename_type-apart a r q h t p) refl

rename_entry-apart : (a : ℕ) (r q : ℕ → ℕ) → DifferOnlyAt a r q → (x : Entry) → IsAbsentAt a x → rename_entry q x
    ≡ rename_entry r x
rename_entry-apart a r q h (value t) p = rw (rename_type-apart a r q h t p) refl
rename_entry-apart a r q h (quoted b t) p = rw (h.same b p.0, rename_type-apart a r q h t p.1) refl

pub rename_all-apart : (a : ℕ) (r q : ℕ → ℕ) → DifferOnlyAt a r q → (g : List Entry) → IsAbsent a g → rename_all q g
    ≡ rename_all r g
rename_all-apart a r q h [] p = refl
rename_all-apart a r q h (x ∷ g) p = rw (rename_entry-apart a r q h x p.0, rename_all-apart a r q h g p.1) refl

-- a renaming with another value at one classifier
abbrev pub changed : (ℕ → ℕ) → ℕ → ℕ → ℕ → ℕ
changed r a c b = cond (nat_eq b a) c (r b)

pub changed-here : (r : ℕ → ℕ) (a c : ℕ) → changed r a c a ≡ c
changed-here r a c = grind arith

pub changed-apart : (r : ℕ → ℕ) (a c : ℕ) → DifferOnlyAt a r (changed r a c)
changed-apart r a c = record { same = λ b ne. grind (arith, ne) }

-- a classifier above all that stand somewhere
abbrev top_of_type : TermType → ℕ
top_of_type int_type = 0
top_of_type bool_type = 0
top_of_type (pair_type s t) = max (top_of_type s) (top_of_type t)
top_of_type (function_type s t) = max (top_of_type s) (top_of_type t)
top_of_type (code_type a t) = max (suc a) (top_of_type t)
top_of_type (closed_type t) = top_of_type t

abbrev top_of_entry : Entry → ℕ
top_of_entry (value t) = top_of_type t
top_of_entry (quoted a t) = max (suc a) (top_of_type t)

abbrev pub top_of : List Entry → ℕ
top_of [] = 0
top_of (x ∷ g) = max (top_of_entry x) (top_of g)

IsAbsentIn-above : (c : ℕ) (t : TermType) → top_of_type t ≤ c → IsAbsentIn c t
IsAbsentIn-above c int_type h = tt
IsAbsentIn-above c bool_type h = tt
IsAbsentIn-above c (pair_type s t) h = (IsAbsentIn-above c s (omega arith), IsAbsentIn-above c t (omega arith))
IsAbsentIn-above c (function_type s t) h = (IsAbsentIn-above c s (omega arith), IsAbsentIn-above c t (omega arith))
IsAbsentIn-above c (code_type a t) h = ((omega arith), IsAbsentIn-above c t (omega arith))
IsAbsentIn-above c (closed_type t) h = IsAbsentIn-above c t h

IsAbsentAt-above : (c : ℕ) (x : Entry) → top_of_entry x ≤ c → IsAbsentAt c x
IsAbsentAt-above c (value t) h = IsAbsentIn-above c t h
IsAbsentAt-above c (quoted a t) h = ((omega arith), IsAbsentIn-above c t (omega arith))

pub IsAbsent-above : (c : ℕ) (g : List Entry) → top_of g ≤ c → IsAbsent c g
IsAbsent-above c [] h = tt
IsAbsent-above c (x ∷ g) h = (IsAbsentAt-above c x (omega arith), IsAbsent-above c g (omega arith))

-- one more entry at place k
abbrev pub insert : ℕ → Entry → List Entry → List Entry
insert zero x g = x ∷ g
insert (suc k) x [] = []
insert (suc k) x (y ∷ g) = y ∷ insert k x g

pub get-insert : (k : ℕ) (x : Entry) (r : ℕ → ℕ) (g : List Entry) (i : ℕ) (y : Entry) → slice_get g i ≡ Some y
    → slice_get (insert k x (rename_all r g)) (raised k i) ≡ Some (rename_entry r y)
get-insert k x r [] i y e = absurd (cc)
get-insert zero x r (z ∷ g) zero y e = let p : z ≡ y = cc in rw p refl
get-insert zero x r (z ∷ g) (suc i) y e = get-insert zero x r g i y e
get-insert (suc k) x r (z ∷ g) zero y e = let p : z ≡ y = cc in rw p refl
get-insert (suc k) x r (z ∷ g) (suc i) y e = get-insert k x r g i y e
