-- Places in order, the outermost first, as a context, and what a term has in it.
use Rattle.std.specs.Prelude.{ℕ, ◌≡◌, List, ◌++◌, length, map, reverse, get_or}
use Rattle.mw_term.specs.Terms.{Expression}
use Rattle.mw_ir.specs.declared.code.IrFunc.{IrFunc as Function}
use Rattle.mw_ir.specs.declared.place.Place.{Place}
use Rattle.mw_ir.specs.declared.place.Place.TheVariants.{Argument}
use Rattle.mw_ir.specs.Ir.{Ir}
use Rattle.mw_ir.specs.Views.{ir_func_of}
use Rattle.mw_conv.specs.declared.found.FoundFunction.{FoundFunction}
use Rattle.mw_conv.specs.Convert.{code, functions}
use Rattle.mw_conv.specs.Finding.{all_found}

-- where variable i is
abbrev pub place_at : List Place → ℕ → Place
place_at ps i = get_or (reverse ps) i Argument

-- what was found of the functions of a term in a context
abbrev pub found_in : Expression → List Place → List FoundFunction
found_in e ps = all_found e (length ps)

-- the code of a term in a context, where k is the next function's number and s the next slot
abbrev pub code_in : Expression → (k : ℕ) → List Place → (s : ℕ) → Ir
code_in e k ps s = code e k (length ps) s (place_at ps)

-- the functions of a term in a context, numbered from k on, were added, the last one first
abbrev pub AreAdded : (old new : List Function) → Expression → (k : ℕ) → List Place → Type 0
AreAdded old new e k ps = map ir_func_of new ≡ map ir_func_of old ++ reverse (functions e k (length ps))
