-- Worked examples of typing: derivations, and terms that have none.
use Rattle.std.specs.Prelude.{ℕ, ◌≡◌, ◌≢◌, pos, negsuc, true, List, [], ◌∷◌}
use Rattle.mw_term.specs.Terms.{Expression, GroundType, base, num, truth, var, glob, fun, fix, app, bind, cond, pair}
use Rattle.mw_term.specs.Terms.{snd, prim, bracket, escape, run, close, opened, int, bool, function, code, kept}
use Rattle.mw_term.specs.declared.term.Base.TheVariants.{Int}
use Rattle.mw_term.specs.declared.term.Primitive.TheVariants.{Add, Sub, Mul, Eq}
use Rattle.mw_term.specs.declared.value.Limit.TheVariants.{Fuel}
use Rattle.mw_term.specs.Programs.{value, kernel, PureProgram, value_of_definition}
use Rattle.mw_term.specs.Types.{TermType, code_type, live, under, Entry, quoted}
use Rattle.mw_term.specs.Typing.{TopLevel, Typed}
use Rattle.mw_term.specs.Typable.{Typable}
use Rattle.mw_meaning.specs.Arithmetic.{bound}
use Rattle.mw_meaning.specs.Examples.{n, int_kernel, int_to_int, run_int, power, cube, cube_code}
use Rattle.mw_meaning.specs.Replies.{replies, Replies, answering, AreTypedReplies}
use Rattle.mw_meaning.specs.StagedMeaning.{gives, stops, live as alive, evaluation}

-- the term has no type, whatever top-level names there are
abbrev pub HasNoType : Expression → Type 0
HasNoType e = (tops : List TopLevel) (t : TermType) → Typed tops [] live e t → ⊥

-- let rec power n x = if n = 0 then .<1>. else .<.~x * .~(power (n - 1) x)>.
abbrev pub power_definition : Expression
power_definition =
    fix (fun (cond (prim Eq (var 1) (n 0)) (bracket (n 1))
    (bracket (prim Mul (escape (var 0)) (escape (app (app (var 2) (prim Sub (var 1) (n 1))) (var 0)))))))

-- let rec power .. ;; kernel cube : int -> int = close .<fun x -> .~(power 3 .<x>.)>. ;;
-- main : int = let f = run[int -> int] cube in f 5 + f (-2)
abbrev pub cube_program : PureProgram
cube_program = record {
  items = value power_definition ∷ kernel int_to_int cube ∷ [];
  result = base Int;
  body = bind (run int_to_int (glob 1)) (prim Add (app (var 0) (n 5)) (app (var 0) (num (negsuc 1))));
}

abbrev pub PowerIsItsDefinition : Type 0
PowerIsItsDefinition = value_of_definition power_definition ≡ power

abbrev pub CubeIsTypable : Type 0
CubeIsTypable = Typable cube_program

-- close .<fun x -> .~(open (close .<x>.))>.
abbrev pub leak : ℕ → ℕ → Expression
leak at inner = close at (bracket (fun (escape (opened (close inner (bracket (var 0)))))))

-- the inner close would let the variable out of its function: its classifier stands in the environment
abbrev pub LeakHasNoType : Type 0
LeakHasNoType = (at inner : ℕ) → HasNoType (leak at inner)

-- kernel k : int -> int = close .<fun x -> .~(open (close .<x>.))>.
abbrev pub LeakIsNotTypable : Type 0
LeakIsNotTypable = (at inner : ℕ) (result : GroundType) (body : Expression)
    → Typable (record { items = kernel int_to_int (leak at inner) ∷ []; result = result; body = body }) → ⊥

-- fun c -> .<(.~c, .~c)>.
abbrev pub twice : Expression
twice = fun (bracket (pair (escape (var 0)) (escape (var 0))))

-- .<(.~(f .<1>.), .~(f .<true>.))>.
abbrev pub at_two_types : Expression → Expression
at_two_types f = bracket (pair (escape (app f (bracket (n 1)))) (escape (app f (bracket (truth true)))))

-- .<fun x -> (.~(f .<x>.), .~(open (close (f .<1>.))))>., where the inner close needs a classifier that x has not
abbrev pub under_two_classifiers : Expression → Expression
under_two_classifiers f =
    bracket (fun (pair (escape (app f (bracket (var 0)))) (escape (opened (close 0 (app f (bracket (n 1))))))))

-- let twice = .. ;; main : int = let _ = (twice at two types) in let _ = (twice under two classifiers) in 0
abbrev pub top_level_program : PureProgram
top_level_program =
    record {
      items = value twice ∷ [];
      result = base Int;
      body =
          bind (at_two_types (glob 0)) (bind (under_two_classifiers (glob 0)) (n 0));
    }

-- a let item has each of its types at each use
abbrev pub TopLevelGeneratorIsTypable : Type 0
TopLevelGeneratorIsTypable = Typable top_level_program

-- let twice = .. in (twice at two types)
abbrev pub InnerGeneratorHasOneType : Type 0
InnerGeneratorHasOneType = HasNoType (bind twice (at_two_types (var 0)))

-- let twice = .. in (twice under two classifiers)
abbrev pub InnerGeneratorHasOneClassifier : Type 0
InnerGeneratorHasOneClassifier = HasNoType (bind twice (under_two_classifiers (var 1)))

-- .<.<1>.>.
abbrev pub BracketInBracketHasNoType : Type 0
BracketInBracketHasNoType = HasNoType (bracket (bracket (n 1)))

-- no term at all is code of code
abbrev pub NoCodeOfCode : Type 0
NoCodeOfCode = (e : Expression) (a b : ℕ) (t : TermType) (tops : List TopLevel)
    → Typed tops [] live e (code_type a (code_type b t)) → ⊥

-- a variable of one classifier has no type under another
abbrev pub VariableKeepsItsClassifier : Type 0
VariableKeepsItsClassifier = (tops : List TopLevel) (g : List Entry) (a b : ℕ) (s t : TermType) → a ≢ b
    → Typed tops (quoted a s ∷ g) (under b) (var 0) t → ⊥

-- .<fun x -> .~(open (close .<fun y -> x + y>.))>., where the inner bracket needs a classifier that x has not
abbrev pub OuterVariableHasNoType : Type 0
OuterVariableHasNoType =
    HasNoType (bracket (fun (escape (opened (close 0 (bracket (fun (prim Add (var 1) (var 0)))))))))

-- let f = fun x -> x ;; let p = (1, fun x -> f x) ;; main : int = snd p 5
abbrev pub EarlierLetIsSeen : Type 0
EarlierLetIsSeen =
    Typable (record {
      items = value (fun (var 0)) ∷ value (pair (n 1) (fun (app (glob 0) (var 0)))) ∷ [];
      result =
          base Int;
      body = app (snd (glob 1)) (n 5);
    })

-- let f = fun x -> g ;; let g = fun x -> x ;;
abbrev pub LaterLetIsNotSeen : Type 0
LaterLetIsNotSeen = (result : GroundType) (body : Expression)
    → Typable (record { items = value (fun (glob 1)) ∷ value (fun (var 0)) ∷ []; result = result; body = body }) → ⊥

-- let rec power .. ;; kernel cube : int -> int = .. ;; kernel again : int -> int = cube ;;
abbrev pub KernelIsNotSeenByItems : Type 0
KernelIsNotSeenByItems = (result : GroundType) (body : Expression)
    → Typable (record {
      items = value power_definition ∷ kernel int_to_int cube ∷ kernel int_to_int (glob 1) ∷ [];
      result = result;
      body = body;
    }) → ⊥

-- let x = 1 + 2 ;;
abbrev pub LetIsASyntacticValue : Type 0
LetIsASyntacticValue = (result : GroundType) (body : Expression)
    → Typable (record { items = value (prim Add (n 1) (n 2)) ∷ []; result = result; body = body }) → ⊥

-- main of the cube program over kernels that answer something else: a kept function, then 3 and 4 with no unit spent
abbrev pub other_replies : Replies
other_replies = record {
  to_come = replies (kept int_to_int (function (num (pos 0))) 1) 9 ∷ replies (int (pos 3)) 9
      ∷ replies (int (pos 4)) 9 ∷ [];
  begun = [];
}

abbrev pub RepliesAreTakenInOrder : Type 0
RepliesAreTakenInOrder = evaluation (answering (power ∷ code cube_code ∷ [])) alive 9 other_replies cube_program.body
    ≡ gives (int (pos 7)) 9 (record { to_come = []; begun = (cube_code, int_to_int) ∷ [] })

-- these replies have the types that the law asks for
abbrev pub OtherRepliesAreTyped : Type 0
OtherRepliesAreTyped = (tops : List TopLevel) → AreTypedReplies tops other_replies

-- a reply of another type isn't taken
abbrev pub ReplyOfAnotherTypeStops : Type 0
ReplyOfAnotherTypeStops =
    evaluation (answering []) alive 9 (record { to_come = replies (bool true) 9 ∷ []; begun = [] }) (run_int (n 7))
    ≡ stops (bound Fuel) (record { to_come = []; begun = (n 7, int_kernel) ∷ [] })
