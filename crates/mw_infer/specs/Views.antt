-- The views from the types of the code to slots, levels and schemes.
use Rattle.std.specs.Prelude.{List, [], ◌∷◌, map}
use Rattle.mw_term.specs.Types.{Level, live, under}
use Rattle.mw_term.specs.Terms.{kernel_type_of}
use Rattle.mw_types.specs.Types.{type_of}
use Rattle.mw_infer.specs.declared.names.TopScheme.{TopScheme as RustTopScheme}
use Rattle.mw_infer.specs.declared.names.TopScheme.TheVariants.{Let, Kernel, OutOfScope}
use Rattle.mw_infer.specs.declared.names.LetType.{LetType}
use Rattle.mw_infer.specs.declared.scope.Level.{Level as RustLevel}
use Rattle.mw_infer.specs.declared.scope.Level.TheVariants.{Live, Under}
use Rattle.mw_infer.specs.declared.scope.Binder.{Binder}
use Rattle.mw_infer.specs.declared.scope.Binder.TheVariants.{Plain, Quoted}
use Rattle.mw_infer.specs.declared.scope.Scope.{Scope}
use Rattle.mw_infer.specs.declared.scope.Scope.TheVariants.{Empty, Bound'}
use Rattle.mw_infer.specs.Schemes.{Scheme, TopScheme, let_scheme, kernel_scheme, scheme_out_of_scope}
use Rattle.mw_infer.specs.ItemEquations.{Slot, plain_slot, quoted_slot}

abbrev pub level_at : RustLevel → Level
level_at Live = live
level_at (Under c) = under c

abbrev pub slot_of : Binder → Slot
slot_of (Plain u) = plain_slot u
slot_of (Quoted c u) = quoted_slot c u

abbrev pub slots_of : Scope → List Slot
slots_of Empty = []
slots_of (Bound' b p s) = slot_of b ∷ slots_of s

abbrev pub scheme_of : LetType → Scheme
scheme_of l = record { unknowns = l.unknowns; classifiers = l.classifiers; type = type_of l.ty }

abbrev pub top_of : RustTopScheme → TopScheme
top_of (Let l) = let_scheme (scheme_of l)
top_of (Kernel k) = kernel_scheme (kernel_type_of k.now)
top_of OutOfScope = scheme_out_of_scope

abbrev pub tops_of : List RustTopScheme → List TopScheme
tops_of names = map top_of names
