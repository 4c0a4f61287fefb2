-- Types, terms and values as pure data, without the places in memory, and the views from the Rust types to them.
use Rattle.std.specs.Prelude.{ℕ, ◌+◌, max, ℤ, Bool}
use Rattle.mw_term.specs.declared.term.Base.{Base}
use Rattle.mw_term.specs.declared.term.Ground.{Ground}
use Rattle.mw_term.specs.declared.term.Ground.TheVariants.{Base as base_ground, Pair' as pair_ground}
use Rattle.mw_term.specs.declared.term.KType.{KType}
use Rattle.mw_term.specs.declared.term.KType.TheVariants.{Ground as ground_kind, Fun as fun_kind}
use Rattle.mw_term.specs.declared.term.Primitive.{Primitive as Prim}
use Rattle.mw_term.specs.declared.term.Term.{Term}
use Rattle.mw_term.specs.declared.term.Term.TheVariants.{Int, Bool as Truth, Var, Glob, Fun', Rec', App', Let', If'}
use Rattle.mw_term.specs.declared.term.Term.TheVariants.{Pair', Fst', Snd', Prim' as Prim-Prim', Bracket', Escape'}
use Rattle.mw_term.specs.declared.term.Term.TheVariants.{Run', CloseCode', OpenCode', Lift', LiftB'}
use Rattle.mw_term.specs.declared.value.BaseValue.{BaseValue}
use Rattle.mw_term.specs.declared.value.BaseValue.TheVariants.{Int as AnInt, Bool as ATruth}
use Rattle.mw_term.specs.declared.value.GroundValue.{GroundValue}
use Rattle.mw_term.specs.declared.value.GroundValue.TheVariants.{Base as ABase, Pair' as APair'}

-- ground types, which kernels take and give and main has
pub data GroundType : Type 0 where
  base : (b : Base) → GroundType
  product : (s t : GroundType) → GroundType

-- kernel types g and g -> h
pub data KernelType : Type 0 where
  of_ground : (t : GroundType) → KernelType
  to : (s t : GroundType) → KernelType

-- values of ground types
pub data PureGroundValue : Type 0 where
  int : (n : ℤ) → PureGroundValue
  bool : (b : Bool) → PureGroundValue
  both : (v w : PureGroundValue) → PureGroundValue

-- A kernel's code, where each function is labelled with the number of its free variables, and the values that it has.
-- done stands for a value that was put for a variable.
mutual
  pub data KernelTerm : Type 0 where
    num : (n : ℤ) → KernelTerm
    truth : (b : Bool) → KernelTerm
    var : (i : ℕ) → KernelTerm
    fun : (free : ℕ) (e : KernelTerm) → KernelTerm
    fix : (free : ℕ) (e : KernelTerm) → KernelTerm
    app : (f a : KernelTerm) → KernelTerm
    bind : (d e : KernelTerm) → KernelTerm
    cond : (c a b : KernelTerm) → KernelTerm
    pair : (a b : KernelTerm) → KernelTerm
    fst : (e : KernelTerm) → KernelTerm
    snd : (e : KernelTerm) → KernelTerm
    prim : (p : Prim) (a b : KernelTerm) → KernelTerm
    done : (v : KernelValue) → KernelTerm

  pub data KernelValue : Type 0 where
    int : (n : ℤ) → KernelValue
    bool : (b : Bool) → KernelValue
    both : (v w : KernelValue) → KernelValue
    function : (e : KernelTerm) → KernelValue
    recursive : (e : KernelTerm) → KernelValue

-- Terms, and the values of the staged meaning: fix is a recursive function, bind a let, bracket and escape the staging
-- marks, and done a value that was put for a variable. A code value is the level 1 term; a kept function is what a run
-- at a function type answers, with the words of its heap.
mutual
  pub data Expression : Type 0 where
    num : (n : ℤ) → Expression
    truth : (b : Bool) → Expression
    var : (i : ℕ) → Expression
    glob : (i : ℕ) → Expression
    fun : (e : Expression) → Expression
    fix : (e : Expression) → Expression
    app : (f a : Expression) → Expression
    bind : (d e : Expression) → Expression
    cond : (c a b : Expression) → Expression
    pair : (a b : Expression) → Expression
    fst : (e : Expression) → Expression
    snd : (e : Expression) → Expression
    prim : (p : Prim) (a b : Expression) → Expression
    bracket : (e : Expression) → Expression
    escape : (e : Expression) → Expression
    run : (k : KernelType) (e : Expression) → Expression
    close : (at : ℕ) (e : Expression) → Expression
    opened : (e : Expression) → Expression
    lift : (e : Expression) → Expression
    lift_b : (e : Expression) → Expression
    done : (v : Value) → Expression

  pub data Value : Type 0 where
    int : (n : ℤ) → Value
    bool : (b : Bool) → Value
    both : (v w : Value) → Value
    function : (e : Expression) → Value
    recursive : (e : Expression) → Value
    code : (e : Expression) → Value
    kept : (k : KernelType) (f : KernelValue) (words : ℕ) → Value

-- the views
abbrev pub ground_of : Ground → GroundType
ground_of (base_ground b) = base b
ground_of (pair_ground p s q t) = product (ground_of s) (ground_of t)

abbrev pub kernel_type_of : KType → KernelType
kernel_type_of (ground_kind t) = of_ground (ground_of t)
kernel_type_of (fun_kind s t) = to (ground_of s) (ground_of t)

abbrev pub expression_of : Term → Expression
expression_of (Int n) = num n
expression_of (Truth b) = truth b
expression_of (Var i) = var i
expression_of (Glob i) = glob i
expression_of (Fun' p e) = fun (expression_of e)
expression_of (Rec' p e) = fix (expression_of e)
expression_of (App' p f q a) = app (expression_of f) (expression_of a)
expression_of (Let' p d q e) = bind (expression_of d) (expression_of e)
expression_of (If' p c q a r b) = cond (expression_of c) (expression_of a) (expression_of b)
expression_of (Pair' p a q b) = pair (expression_of a) (expression_of b)
expression_of (Fst' p e) = fst (expression_of e)
expression_of (Snd' p e) = snd (expression_of e)
expression_of (Prim-Prim' o p a q b) = prim o (expression_of a) (expression_of b)
expression_of (Bracket' p e) = bracket (expression_of e)
expression_of (Escape' p e) = escape (expression_of e)
expression_of (Run' k p e) = run (kernel_type_of k) (expression_of e)
expression_of (CloseCode' at p e) = close at (expression_of e)
expression_of (OpenCode' p e) = opened (expression_of e)
expression_of (Lift' p e) = lift (expression_of e)
expression_of (LiftB' p e) = lift_b (expression_of e)

-- the number of nodes; a value put for a variable is one, as the variable was
abbrev pub size : Expression → ℕ
size (num n) = 1
size (truth b) = 1
size (var i) = 1
size (glob i) = 1
size (fun e) = size e + 1
size (fix e) = size e + 1
size (app f a) = size f + size a + 1
size (bind d e) = size d + size e + 1
size (cond c a b) = size c + size a + size b + 1
size (pair a b) = size a + size b + 1
size (fst e) = size e + 1
size (snd e) = size e + 1
size (prim o a b) = size a + size b + 1
size (bracket e) = size e + 1
size (escape e) = size e + 1
size (run k e) = size e + 1
size (close at e) = size e + 1
size (opened e) = size e + 1
size (lift e) = size e + 1
size (lift_b e) = size e + 1
size (done v) = 1

-- the nodes on the longest path
abbrev pub depth_of : Expression → ℕ
depth_of (num n) = 1
depth_of (truth b) = 1
depth_of (var i) = 1
depth_of (glob i) = 1
depth_of (fun e) = depth_of e + 1
depth_of (fix e) = depth_of e + 1
depth_of (app f a) = max (depth_of f) (depth_of a) + 1
depth_of (bind d e) = max (depth_of d) (depth_of e) + 1
depth_of (cond c a b) = max (max (depth_of c) (depth_of a)) (depth_of b) + 1
depth_of (pair a b) = max (depth_of a) (depth_of b) + 1
depth_of (fst e) = depth_of e + 1
depth_of (snd e) = depth_of e + 1
depth_of (prim o a b) = max (depth_of a) (depth_of b) + 1
depth_of (bracket e) = depth_of e + 1
depth_of (escape e) = depth_of e + 1
depth_of (run k e) = depth_of e + 1
depth_of (close at e) = depth_of e + 1
depth_of (opened e) = depth_of e + 1
depth_of (lift e) = depth_of e + 1
depth_of (lift_b e) = depth_of e + 1
depth_of (done v) = 1

abbrev pub base_value_of : BaseValue → PureGroundValue
base_value_of (AnInt n) = int n
base_value_of (ATruth b) = bool b

abbrev pub ground_value_of : GroundValue → PureGroundValue
ground_value_of (ABase v) = base_value_of v
ground_value_of (APair' p v q w) = both (ground_value_of v) (ground_value_of w)

-- a ground value as a value of the meanings
abbrev pub ground_value : PureGroundValue → Value
ground_value (int n) = int n
ground_value (bool b) = bool b
ground_value (both v w) = both (ground_value v) (ground_value w)
