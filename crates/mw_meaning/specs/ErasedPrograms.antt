-- The erased program: its lets are the program's, numbered among themselves, and its kernels are lets round main.
use Rattle.std.specs.Prelude.{ℕ, zero, suc, ◌+◌, ◌<◌, ◌≡◌, false, length, map, List, [], ◌∷◌}
use Rattle.std.specs.List.{flat_map}
use Rattle.mw_term.specs.Terms.{Expression, Value, PureGroundValue}
use Rattle.mw_term.specs.EachNode.{NodeRule, EachNode}
use Rattle.mw_term.specs.Sources.{IsSource}
use Rattle.mw_term.specs.Programs.{Definition, value as defines, kernel, PureProgram}
use Rattle.mw_term.specs.declared.program.Item.{Item}
use Rattle.mw_term.specs.declared.program.ItemKind.{ItemKind}
use Rattle.mw_term.specs.declared.program.ItemKind.TheVariants.{Value as ValueItem, Kernel as KernelItem}
use Rattle.mw_meaning.specs.declared.mode.Mode.{Mode}
use Rattle.mw_meaning.specs.declared.mode.Mode.TheVariants.{Plain}
use Rattle.mw_meaning.specs.Outcomes.{Outcome, came_to, item_outcome, main_outcome, names_of_items, names_of_main}
use Rattle.mw_meaning.specs.PlainTerms.{PlainTerm, num, truth, var, glob, fun, fix, app, bind, cond, pair, fst, snd}
use Rattle.mw_meaning.specs.PlainTerms.{prim}
use Rattle.mw_meaning.specs.Erasure.{plain, term_of}

-- what a name becomes: the term for item i's name under d binders
abbrev pub Naming : Type 0
Naming = ℕ → ℕ → PlainTerm

-- a term under d binders with its names renamed
abbrev pub renamed : Naming → ℕ → PlainTerm → PlainTerm
renamed r d (num n) = num n
renamed r d (truth b) = truth b
renamed r d (var i) = var i
renamed r d (glob i) = r d i
renamed r d (fun e) = fun (renamed r (suc d) e)
renamed r d (fix e) = fix (renamed r (suc (suc d)) e)
renamed r d (app f a) = app (renamed r d f) (renamed r d a)
renamed r d (bind a e) = bind (renamed r d a) (renamed r (suc d) e)
renamed r d (cond c a b) = cond (renamed r d c) (renamed r d a) (renamed r d b)
renamed r d (pair a b) = pair (renamed r d a) (renamed r d b)
renamed r d (fst e) = fst (renamed r d e)
renamed r d (snd e) = snd (renamed r d e)
renamed r d (prim p a b) = prim p (renamed r d a) (renamed r d b)

-- how many of the items are kernels
abbrev pub kernels_in : List Definition → ℕ
kernels_in [] = zero
kernels_in (defines e ∷ items) = kernels_in items
kernels_in (kernel k e ∷ items) = suc (kernels_in items)

-- After l lets: a let's name is its number among the lets, and a kernel's is the variable of its let, outside the d
-- binders and the lets of the kernels behind it.
abbrev pub name_in : List Definition → ℕ → Naming
name_in [] l d i = glob i
name_in (defines e ∷ items) l d zero = glob l
name_in (defines e ∷ items) l d (suc i) = name_in items (suc l) d i
name_in (kernel k e ∷ items) l d zero = var (d + kernels_in items)
name_in (kernel k e ∷ items) l d (suc i) = name_in items l d i

abbrev pub lets_of : Naming → List Definition → List Definition
lets_of r [] = []
lets_of r (defines e ∷ items) = defines (term_of (renamed r zero (plain e))) ∷ lets_of r items
lets_of r (kernel k e ∷ items) = lets_of r items

-- a term inside one let for each kernel
abbrev pub inside_lets : Naming → List Definition → PlainTerm → PlainTerm
inside_lets r [] b = b
inside_lets r (defines e ∷ items) b = inside_lets r items b
inside_lets r (kernel k e ∷ items) b = bind (renamed r zero (plain e)) (inside_lets r items b)

abbrev pub erased_program : PureProgram → PureProgram
erased_program p = record {
  items = lets_of (name_in p.items zero) p.items;
  result = p.result;
  body = term_of (inside_lets (name_in p.items zero) p.items (renamed (name_in p.items zero) zero (plain p.body)));
}

-- the names of items, and of the lets among them, in order
abbrev pub item_names : List Item → List (List ℕ)
item_names items = map (λ (i : Item). i.name) items

abbrev pub name_of_let : ItemKind → List ℕ → List (List ℕ)
name_of_let (ValueItem t) x = x ∷ []
name_of_let (KernelItem k t) x = []

abbrev pub let_names : List Item → List (List ℕ)
let_names items = flat_map (λ (i : Item). name_of_let i.kind i.name) items

-- no value was put for a variable yet, as in a program that was read
abbrev pub AreSourceItems : List Definition → Type 0
AreSourceItems [] = Unit {0}
AreSourceItems (defines e ∷ items) = IsSource e × AreSourceItems items
AreSourceItems (kernel k e ∷ items) = IsSource e × AreSourceItems items

pub record IsSourceProgram (p : PureProgram) : Type 0 where
  pub items : AreSourceItems p.items
  pub body : IsSource p.body

-- no form of staging, in a term as it is written
abbrev pub plain_rule : NodeRule
plain_rule = record {
  integer = λ n. Unit {0};
  name = λ i. Unit {0};
  kept_function = λ f. ⊥;
  has_staging = false;
  has_values = false;
}

abbrev pub HasNoStaging : Expression → Type 0
HasNoStaging e = EachNode plain_rule e

-- P holds of each name in the term
abbrev pub AllNames : (ℕ → Type 0) → PlainTerm → Type 0
AllNames P (num n) = Unit {0}
AllNames P (truth b) = Unit {0}
AllNames P (var i) = Unit {0}
AllNames P (glob i) = P i
AllNames P (fun e) = AllNames P e
AllNames P (fix e) = AllNames P e
AllNames P (app f a) = AllNames P f × AllNames P a
AllNames P (bind d e) = AllNames P d × AllNames P e
AllNames P (cond c a b) = AllNames P c × AllNames P a × AllNames P b
AllNames P (pair a b) = AllNames P a × AllNames P b
AllNames P (fst e) = AllNames P e
AllNames P (snd e) = AllNames P e
AllNames P (prim p a b) = AllNames P a × AllNames P b

-- each name is an item's
abbrev pub HasBoundItems : ℕ → List Definition → Type 0
HasBoundItems n [] = Unit {0}
HasBoundItems n (defines e ∷ items) = AllNames (λ i. i < n) (plain e) × HasBoundItems n items
HasBoundItems n (kernel k e ∷ items) = AllNames (λ i. i < n) (plain e) × HasBoundItems n items

pub record HasBoundNames (p : PureProgram) : Type 0 where
  pub items : HasBoundItems (length p.items) p.items
  pub body : AllNames (λ i. i < length p.items) (plain p.body)

-- the kernel items among these came, in order, to these codes, where the names have the values
abbrev pub ItemsCameTo : Mode → ℕ → List Value → List Definition → List Expression → Type 0
ItemsCameTo mode fuel names [] [] = Unit {0}
ItemsCameTo mode fuel names [] (c ∷ codes) = ⊥
ItemsCameTo mode fuel names (defines e ∷ items) codes = ItemsCameTo mode fuel names items codes
ItemsCameTo mode fuel names (kernel k e ∷ items) [] = ⊥
ItemsCameTo mode fuel names (kernel k e ∷ items) (c ∷ codes) = (item_outcome mode names fuel e ≡ came_to c)
    × ItemsCameTo mode fuel names items codes

-- the program's answer, where each kernel item, and main, has the fuel
pub record Answers (mode : Mode) (fuel : ℕ) (p : PureProgram) (v : PureGroundValue) : Type 0 where
  pub codes : List Expression
  pub items : ItemsCameTo mode fuel (names_of_items p.items) p.items codes
  pub main : main_outcome mode (names_of_main p.items codes) fuel p.body ≡ came_to v

-- what the erased program's main comes to, with a fuel; it begins no run, so that the mode doesn't matter
abbrev pub erased_outcome : ℕ → PureProgram → Outcome PureGroundValue
erased_outcome fuel p = main_outcome Plain (names_of_items (erased_program p).items) fuel (erased_program p).body
