-- A term that each typing rule accepts, and one that it refuses.
use Rattle.std.specs.Prelude.{true, false, []}
use Rattle.mw_term.specs.Terms.{Expression, base, to, truth, var, glob, fun, fix, app, bind, cond, pair, fst, prim}
use Rattle.mw_term.specs.Terms.{bracket, escape, run, close, opened, lift, lift_b}
use Rattle.mw_term.specs.declared.term.Base.TheVariants.{Int, Bool}
use Rattle.mw_term.specs.declared.term.Primitive.TheVariants.{Add, Eq, Lt}
use Rattle.mw_term.specs.Types.{TermType, int_type, bool_type, function_type, code_type, closed_type, live}
use Rattle.mw_term.specs.Typing.{Typed}
use Rattle.mw_term.specs.Typable.{seen_by_main}
use Rattle.mw_meaning.specs.Examples.{n, int_kernel, run_int, down}
use Rattle.mw_meaning.specs.TypingExamples.{HasNoType, cube_program}

-- the term has the type in the empty environment
abbrev pub HasType : Expression → TermType → Type 0
HasType e t = Typed [] [] live e t

-- 5, and not if 5 then 1 else 2
abbrev pub NumberIsAccepted : Type 0
NumberIsAccepted = HasType (n 5) int_type

abbrev pub NumberIsRefused : Type 0
NumberIsRefused = HasNoType (cond (n 5) (n 1) (n 2))

-- .<fun x -> x>.
abbrev pub VariableIsAccepted : Type 0
VariableIsAccepted = HasType (bracket (fun (var 0))) (code_type 0 (function_type int_type int_type))

-- run[int -> bool] cube after the item cube, whose type is int -> int
abbrev pub KernelNameIsRefused : Type 0
KernelNameIsRefused = (t : TermType) → Typed (seen_by_main cube_program.items) [] live
    (run (to (base Int) (base Bool)) (glob 1)) t → ⊥

-- fun x -> x + 1, and not fun x -> if x then x + 1 else 2
abbrev pub FunctionIsAccepted : Type 0
FunctionIsAccepted = HasType (fun (prim Add (var 0) (n 1))) (function_type int_type int_type)

abbrev pub FunctionIsRefused : Type 0
FunctionIsRefused = HasNoType (fun (cond (var 0) (prim Add (var 0) (n 1)) (n 2)))

-- let rec down n = if n = 0 then 0 else down (n - 1) in down, and not a function f with f n = if f n then 1 else 2
abbrev pub RecursionIsAccepted : Type 0
RecursionIsAccepted = HasType down (function_type int_type int_type)

abbrev pub RecursionIsRefused : Type 0
RecursionIsRefused = HasNoType (fix (cond (app (var 1) (var 0)) (n 1) (n 2)))

-- (fun x -> x) 5, and not 5 1
abbrev pub ApplicationIsAccepted : Type 0
ApplicationIsAccepted = HasType (app (fun (var 0)) (n 5)) int_type

abbrev pub ApplicationIsRefused : Type 0
ApplicationIsRefused = HasNoType (app (n 5) (n 1))

-- let f = fun x -> x in f 5, and not let f = fun x -> x in if f true then f 1 else 2
abbrev pub InnerLetIsAccepted : Type 0
InnerLetIsAccepted = HasType (bind (fun (var 0)) (app (var 0) (n 5))) int_type

abbrev pub InnerLetIsRefused : Type 0
InnerLetIsRefused = HasNoType (bind (fun (var 0)) (cond (app (var 0) (truth true)) (app (var 0) (n 1)) (n 2)))

-- if 1 < 2 then 3 else 4, and not if 1 < 2 then 3 else false
abbrev pub ConditionIsAccepted : Type 0
ConditionIsAccepted = HasType (cond (prim Lt (n 1) (n 2)) (n 3) (n 4)) int_type

abbrev pub ConditionIsRefused : Type 0
ConditionIsRefused = HasNoType (cond (prim Lt (n 1) (n 2)) (n 3) (truth false))

-- fst (1, true), and not fst 5
abbrev pub PairIsAccepted : Type 0
PairIsAccepted = HasType (fst (pair (n 1) (truth true))) int_type

abbrev pub PairIsRefused : Type 0
PairIsRefused = HasNoType (fst (n 5))

-- 1 + 2 < 4, and neither 1 + true nor true = false
abbrev pub PrimitiveIsAccepted : Type 0
PrimitiveIsAccepted = HasType (prim Lt (prim Add (n 1) (n 2)) (n 4)) bool_type

abbrev pub PrimitiveIsRefused : Type 0
PrimitiveIsRefused = HasNoType (prim Add (n 1) (truth true)) × HasNoType (prim Eq (truth true) (truth false))

-- .<1 + 2>.
abbrev pub BracketIsAccepted : Type 0
BracketIsAccepted = HasType (bracket (prim Add (n 1) (n 2))) (code_type 0 int_type)

-- .<1 + .~(lift 2)>., and not .<.~(close .<1>.)>.
abbrev pub EscapeIsAccepted : Type 0
EscapeIsAccepted = HasType (bracket (prim Add (n 1) (escape (lift (n 2))))) (code_type 0 int_type)

abbrev pub EscapeIsRefused : Type 0
EscapeIsRefused = HasNoType (bracket (escape (close 0 (bracket (n 1)))))

-- run[int] (close .<7>.), and not run[int] .<7>.
abbrev pub RunIsAccepted : Type 0
RunIsAccepted = HasType (run_int (n 7)) int_type

abbrev pub RunIsRefused : Type 0
RunIsRefused = HasNoType (run int_kernel (bracket (n 7)))

-- close .<fun x -> x>.
abbrev pub CloseIsAccepted : Type 0
CloseIsAccepted = HasType (close 0 (bracket (fun (var 0)))) (closed_type (function_type int_type int_type))

-- .<fun x -> x + .~(open (close .<1>.))>., and not open .<1>.
abbrev pub OpenIsAccepted : Type 0
OpenIsAccepted = HasType (bracket (fun (prim Add (var 0) (escape (opened (close 0 (bracket (n 1))))))))
    (code_type 0 (function_type int_type int_type))

abbrev pub OpenIsRefused : Type 0
OpenIsRefused = HasNoType (opened (bracket (n 1)))

-- lift (1 + 2) and liftb true, and neither lift true nor liftb 1
abbrev pub LiftIsAccepted : Type 0
LiftIsAccepted = HasType (lift (prim Add (n 1) (n 2))) (code_type 0 int_type) × HasType (lift_b (truth true))
    (code_type 0 bool_type)

abbrev pub LiftIsRefused : Type 0
LiftIsRefused = HasNoType (lift (truth true)) × HasNoType (lift_b (n 1))
