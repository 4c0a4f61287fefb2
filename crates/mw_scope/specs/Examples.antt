-- Small programs with their faults, or the programs that they are.
use Rattle.std.specs.Prelude.{◌≡◌, pos, List, [], ◌∷◌, codes}
use Rattle.mw_term.specs.declared.term.Base.TheVariants as base_types
use Rattle.mw_term.specs.declared.term.Primitive.TheVariants.{Add}
use Rattle.mw_term.specs.Terms as nameless
use Rattle.mw_term.specs.Terms.{KernelType, base, of_ground}
use Rattle.mw_term.specs.Programs.{PureProgram, value}
use Rattle.mw_grammar.specs.SurfaceTrees.{SurfaceTree, num, used, fun, fix, app, bind, prim, bracket, escape, run}
use Rattle.mw_grammar.specs.SurfaceTrees.{close, lift, PureItem, let_item, kernel_item, PureSurface}
use Rattle.mw_scope.specs.declared.fault.Fault.TheVariants.{Unbound, Twice, NotValue, WrongLevel}
use Rattle.mw_scope.specs.Nameless.{IsNameless}
use Rattle.mw_scope.specs.Faults.{faults_of, IsFirst}

abbrev pub int : KernelType
int = of_ground (base base_types.Int)

abbrev pub program : List PureItem → SurfaceTree → PureSurface
program items body = record { items = items; result = base base_types.Int; body = body }

abbrev pub nameless_program : nameless.Expression → PureProgram
nameless_program body = record { items = []; result = base base_types.Int; body = body }

-- main : int = run[int] (close .<(fun x -> .~((fun c -> .<fun x -> .~c + x>.) .<x>.)) 1 10>.)
abbrev pub capture : PureSurface
capture =
    let inner : SurfaceTree =
    fun (codes "c")
    (bracket 34 (fun (codes "x") (prim Add (escape 45 (used (codes "c") 47)) (used (codes "x") 51)))) in
    program [] (run 13 int
    (close 23 (bracket 29
    (app (app (fun (codes "x") (escape 41 (app inner (bracket 56 (used (codes "x") 58))))) (num (pos 1)))
    (num (pos 10))))))

abbrev pub nameless_capture : PureProgram
nameless_capture =
    let inner : nameless.Expression =
    nameless.fun
    (nameless.bracket (nameless.fun (nameless.prim Add (nameless.escape (nameless.var 1)) (nameless.var 0)))) in
    let outer : nameless.Expression =
    nameless.fun (nameless.escape (nameless.app inner (nameless.bracket (nameless.var 0)))) in
    nameless_program
    (nameless.run int
    (nameless.close 23
    (nameless.bracket (nameless.app (nameless.app outer (nameless.num (pos 1))) (nameless.num (pos 10))))))

-- main : int = let c = .<let rec loop n = loop n in loop 0>. in 3
abbrev pub looping : PureSurface
looping =
    let loop_at = used (codes "loop") in
    program [] (bind (codes "c")
    (bracket 21 (bind (codes "loop") (fix (codes "loop") (codes "n") (app (loop_at 38) (used (codes "n") 43)))
    (app (loop_at 48) (num (pos 0))))) (num (pos 3)))

abbrev pub nameless_looping : PureProgram
nameless_looping =
    let loop : nameless.Expression = nameless.fix (nameless.app (nameless.var 1) (nameless.var 0)) in
    nameless_program
    (nameless.bind (nameless.bracket (nameless.bind loop (nameless.app (nameless.var 0) (nameless.num (pos 0)))))
    (nameless.num (pos 3)))

-- let f x = x ;; main : int = run[int] (close .<(fun x -> f x) 1>.)
abbrev pub used_inside : PureSurface
used_inside =
    program (let_item (codes "f") 4 10 (fun (codes "x") (used (codes "x") 10)) ∷ [])
    (run 28 int (close 38
    (bracket 44 (app (fun (codes "x") (app (used (codes "f") 56) (used (codes "x") 58))) (num (pos 1))))))

-- let n = 5 ;; main : int = run[int] (close .<.~(lift n) + 1>.)
abbrev pub lifted : PureSurface
lifted = program (let_item (codes "n") 4 8 (num (pos 5)) ∷ [])
    (run 26 int (close 36 (bracket 42 (prim Add (escape 44 (lift 47 (used (codes "n") 52))) (num (pos 1))))))

abbrev pub nameless_lifted : PureProgram
nameless_lifted = record {
  items = value (nameless.num (pos 5)) ∷ [];
  result = base base_types.Int;
  body = nameless.run int
      (nameless.close 36
      (nameless.bracket
      (nameless.prim Add (nameless.escape (nameless.lift (nameless.glob 0))) (nameless.num (pos 1)))));
}

-- kernel k : int = close .<1>. ;; kernel j : int = k ;; main : int = 0
abbrev pub kernel_in_kernel : PureSurface
kernel_in_kernel =
    program (kernel_item (codes "k") 7 int (close 17 (bracket 23 (num (pos 1)))) ∷ kernel_item (codes "j") 39 int
    (used (codes "k") 49) ∷ []) (num (pos 0))

-- let a = 1 ;; let a = 2 ;; main : int = a
abbrev pub bound_twice : PureSurface
bound_twice = program (let_item (codes "a") 4 8 (num (pos 1)) ∷ let_item (codes "a") 17 21 (num (pos 2)) ∷ [])
    (used (codes "a") 39)

-- let a = 1 + 1 ;; main : int = a
abbrev pub sum_bound : PureSurface
sum_bound = program (let_item (codes "a") 4 8 (prim Add (num (pos 1)) (num (pos 1))) ∷ []) (used (codes "a") 30)

-- main : int = run[int] (close .~.<1>.)
abbrev pub escape_outside : PureSurface
escape_outside = program [] (run 13 int (close 23 (escape 29 (bracket 31 (num (pos 1))))))

-- let a = b ;; main : int = .<.<1>.>.
abbrev pub three_faults : PureSurface
three_faults = program (let_item (codes "a") 4 8 (used (codes "b") 8) ∷ []) (bracket 26 (bracket 28 (num (pos 1))))

-- the examples' faults, and the programs that the others are
pub record ExamplesHold : Type 0 where
  pub capture_is : IsNameless capture nameless_capture
  pub looping_is : IsNameless looping nameless_looping
  pub lifted_is : IsNameless lifted nameless_lifted
  pub used_inside_has : faults_of used_inside ≡ WrongLevel 56 ∷ []
  pub kernel_in_kernel_has : faults_of kernel_in_kernel ≡ Unbound 49 ∷ []
  pub bound_twice_has : faults_of bound_twice ≡ Twice 17 ∷ []
  pub sum_bound_has : faults_of sum_bound ≡ NotValue 8 ∷ []
  pub escape_outside_has : faults_of escape_outside ≡ WrongLevel 29 ∷ []
  pub three_faults_has : faults_of three_faults ≡ NotValue 8 ∷ Unbound 8 ∷ WrongLevel 28 ∷ []
  pub first_of_three : IsFirst (faults_of three_faults) (Unbound 8)
