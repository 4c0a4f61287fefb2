-- What top-level names become, as data.
use Rattle.std.specs.Prelude.{ℕ, ◌≡◌, ◌<◌, ◌++◌, ◌+◌, ◌*◌, ◌^◌, max, map, zero, suc, List, [], ◌∷◌, Option, Some, None}
use Rattle.std.specs.Prelude.{slice_get}
use Rattle.mw_term.specs.Terms.{Expression, bind}
use Rattle.mw_term.specs.Programs.{Definition, value as defines, kernel, definition_of, definition_size}
use Rattle.mw_term.specs.declared.program.Item.{Item}
use Rattle.mw_meaning.specs.PlainTerms.{var, glob}
use Rattle.mw_meaning.specs.Erasure.{plain, term_of}
use Rattle.mw_meaning.specs.ErasedPrograms.{Naming, renamed, kernels_in}
use Rattle.mw_meaning.specs.declared.erasing.NewName.{NewName}
use Rattle.mw_meaning.specs.declared.erasing.NewName.TheVariants.{Let, Kernel}

-- a name that isn't there stays
abbrev pub new_name : Option NewName → Naming
new_name None d i = glob i
new_name (Some (Let l)) d i = glob l
new_name (Some (Kernel n)) d i = var (d + n)

abbrev pub naming_of : List NewName → Naming
naming_of names d i = new_name (slice_get names i) d i

-- the names of items behind l lets
abbrev pub new_names : List Definition → ℕ → List NewName
new_names [] l = []
new_names (defines e ∷ items) l = Let l ∷ new_names items (suc l)
new_names (kernel k e ∷ items) l = Kernel (kernels_in items) ∷ new_names items l

-- how many lets stood so far, and how many kernels are still to come
abbrev pub IsNext : Definition → (before after : List NewName) (lets behind next_lets next_behind : ℕ) → Type 0
IsNext d before after lets behind next_lets next_behind = (rest : List Definition) → kernels_in (d ∷ rest) ≡ behind
    → (kernels_in rest ≡ next_behind) × (before ++ new_names (d ∷ rest) lets ≡ after ++ new_names rest next_lets)

-- a term inside one let for each kernel
abbrev pub inside_terms : Naming → List Definition → Expression → Expression
inside_terms r [] b = b
inside_terms r (defines e ∷ items) b = inside_terms r items b
inside_terms r (kernel k e ∷ items) b = bind (term_of (renamed r zero (plain e))) (inside_terms r items b)

-- the greatest number of kernels behind a kernel
abbrev pub most_behind : List NewName → ℕ
most_behind [] = zero
most_behind (Let l ∷ names) = most_behind names
most_behind (Kernel n ∷ names) = max n (most_behind names)

-- Under so many binders each variable that a name of a term of so many nodes becomes has a number of 32 bits. A node
-- binds two variables at most.
abbrev pub HasRoom : List NewName → (depth nodes : ℕ) → Type 0
HasRoom [] depth nodes = Unit {0}
HasRoom (x ∷ names) depth nodes = depth + 2 * nodes + most_behind (x ∷ names) < 2 ^ 32

-- such is each item
abbrev pub HaveRoom : List NewName → List Definition → Type 0
HaveRoom names [] = Unit {0}
HaveRoom names (d ∷ items) = HasRoom names zero (definition_size d) × HaveRoom names items

-- the definitions that items are
abbrev pub definitions : List Item → List Definition
definitions items = map (λ (i : Item). definition_of i.kind) items
