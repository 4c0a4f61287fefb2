-- The definitions of a program's items.
use Rattle.std.proofs.Common.{◌≡◌, ℕ, Some, refl, ap, ◌∙◌}
use Rattle.std.specs.Prelude.{slice_get}
use Rattle.std.proofs.lemmas.Option.{slice_get-map}
use Rattle.mw_term.specs.Terms.{expression_of, kernel_type_of}
use Rattle.mw_term.specs.Programs.{kernel, definition_of, program_of}
use Rattle.mw_term.specs.declared.program.Item.{Item}
use Rattle.mw_term.specs.declared.program.ItemKind.TheVariants.{Kernel as KernelItem}
use Rattle.mw_term.specs.declared.program.Program.{Program}
use Rattle.mw_term.specs.declared.term.KType.{KType}
use Rattle.mw_term.specs.declared.term.Term.{Term}
use Rattle.mw_machine.specs.Evaluations.{item, IsPart, item_part}

-- an item's definition stands among those of the program
pub defined_there : (p : Program) (x : Item) (i : ℕ) → slice_get p.items i ≡ Some x
    → slice_get (program_of p).items i ≡ Some (definition_of x.kind)
defined_there p x i there = slice_get-map (λ (x : Item). definition_of x.kind) p.items i ∙ rw there refl

pub kernel_is : (x : Item) (k : KType) (t : Term) → x.kind ≡ KernelItem k t
    → definition_of x.kind ≡ kernel (kernel_type_of k) (expression_of t)
kernel_is x k t is = ap definition_of is

-- and a kernel item is a part of it
pub kernel_part : (p : Program) (x : Item) (k : KType) (t : Term) (i : ℕ) → x.kind ≡ KernelItem k t
    → slice_get p.items i ≡ Some x
    → IsPart (program_of p) (item i) (expression_of t)
kernel_part p x k t i is there = item_part i (kernel_type_of k)
    (defined_there p x i there ∙ ap Some (kernel_is x k t is))
