-- A program has as many nodes as the surface program that it is.
use Rattle.std.proofs.Common.{◌≡◌, ◌^◌, ◌<◌, ◌≤◌, List, Result, Ok, Err, IfOk, arith}
use Rattle.mw_term.specs.Terms.{Expression, size}
use Rattle.mw_term.specs.Programs.{Definition, PureProgram, program_of, definition_size, definitions_size, program_size}
use Rattle.mw_term.specs.declared.program.Program.{Program}
use Rattle.mw_term.specs.declared.refusal.Stop.{Stop}
use Rattle.mw_grammar.specs.SurfaceTrees.{SurfaceTree, PureItem, PureSurface}
use Rattle.mw_grammar.specs.SurfaceDepth.{bound_tree}
use Rattle.mw_grammar.specs.SurfaceSize.{tree_size, items_size, surface_size}
use Rattle.mw_scope.specs.declared.level.Level.{Level}
use Rattle.mw_scope.specs.Scopes.{Binder, TopNames}
use Rattle.mw_scope.specs.Nameless.{Nameless, n_num, n_truth, n_var, n_glob, n_fun, n_fix, n_app, n_bind, n_cond}
use Rattle.mw_scope.specs.Nameless.{n_pair, n_fst, n_snd, n_prim, n_bracket, n_escape, n_run, n_close, n_open, n_lift}
use Rattle.mw_scope.specs.Nameless.{n_lift_b, NamelessItem, a_let, a_kernel, NamelessItems, no_item, an_item}
use Rattle.mw_scope.specs.Nameless.{IsNameless}

-- without names a term has as many nodes
pub same_size : {tops : TopNames} {g : List Binder} {m : Level} {t : SurfaceTree} {e : Expression}
    → Nameless tops g m t e → size e ≡ tree_size t
same_size n_num = omega arith
same_size n_truth = omega arith
same_size (n_var h) = omega arith
same_size (n_glob h i) = omega arith
same_size (n_fun d) = omega (arith, same_size d)
same_size (n_fix d) = omega (arith, same_size d)
same_size (n_app c d) = omega (arith, same_size c, same_size d)
same_size (n_bind c d) = omega (arith, same_size c, same_size d)
same_size (n_cond b c d) = omega (arith, same_size b, same_size c, same_size d)
same_size (n_pair c d) = omega (arith, same_size c, same_size d)
same_size (n_fst d) = omega (arith, same_size d)
same_size (n_snd d) = omega (arith, same_size d)
same_size (n_prim c d) = omega (arith, same_size c, same_size d)
same_size (n_bracket d) = omega (arith, same_size d)
same_size (n_escape d) = omega (arith, same_size d)
same_size (n_run d) = omega (arith, same_size d)
same_size (n_close d) = omega (arith, same_size d)
same_size (n_open d) = omega (arith, same_size d)
same_size (n_lift d) = omega (arith, same_size d)
same_size (n_lift_b d) = omega (arith, same_size d)

same_item : {before : List PureItem} {i : PureItem} {d : Definition} → NamelessItem before i d → definition_size d
    ≡ tree_size (bound_tree i)
same_item (a_let v d) = same_size d
same_item (a_kernel d) = same_size d

same_items : {before items : List PureItem} {ds : List Definition} → NamelessItems before items ds → definitions_size ds
    ≡ items_size items
same_items no_item = omega arith
same_items (an_item new d ds) = omega (arith, same_item d, same_items ds)

pub same_program : (s : PureSurface) (p : PureProgram) → IsNameless s p → program_size p ≡ surface_size s
same_program s p h = omega (arith, same_items h.items, same_size h.body)

-- so it has fewer than 2^31, where the tree has few
pub is_small : (s : PureSurface) (result : Result Program Stop) → surface_size s ≤ 3145728
    → IfOk result (λ p. IsNameless s (program_of p)) → IfOk result (λ p. program_size (program_of p) < 2 ^ 31)
is_small s (Ok p) few h = omega (arith, same_program s (program_of p) h)
is_small s (Err e) few h = tt
