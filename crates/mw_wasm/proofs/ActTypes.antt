-- What an instruction of the right type comes to is typed.
use Rattle.std.proofs.Common.{◌≡◌, ℕ, zero, suc, ◌+◌, ◌<◌, Bool, true, false, List, [], ◌∷◌, ◌++◌, length, take, refl}
use Rattle.std.proofs.Common.{sym, ap, ◌∙◌, subst, Option, Some, None, arith}
use Rattle.std.specs.Prelude.{map, reverse, slice_get, slice_set, nat_le, nat_lt, unwrap_or, option_map}
use Rattle.std.specs.List.{AllByRecursion}
use Rattle.std.proofs.lemmas.List.{reverse-append, map-append, append-nil, append_assoc}
use Rattle.std.proofs.lemmas.Option.{slice_get-map, slice_get_within}
use Rattle.std.proofs.lemmas.Bool.{lt-ltb, le-leb}
use Rattle.mw_wasm.specs.declared.values.ValType.{ValType}
use Rattle.mw_wasm.specs.declared.values.ValType.TheVariants.{I32, I64}
use Rattle.mw_wasm.specs.declared.values.Value.{Value}
use Rattle.mw_wasm.specs.declared.values.Value.TheVariants as value
use Rattle.mw_wasm.specs.declared.numbers.NumOp.{NumOp}
use Rattle.mw_wasm.specs.declared.numbers.NumOp.TheVariants as num
use Rattle.mw_wasm.specs.declared.numbers.LoadOp.{LoadOp}
use Rattle.mw_wasm.specs.declared.numbers.LoadOp.TheVariants as load_op
use Rattle.mw_wasm.specs.declared.modules.FuncType.{FuncType}
use Rattle.mw_wasm.specs.declared.values.Trap.TheVariants.{WrongType}
use Rattle.mw_wasm.specs.NumericTypes.{type_of_value, Kind, test, comparison, unary, binary, kind_of, operands_at}
use Rattle.mw_wasm.specs.NumericTypes.{operands_of, result_type}
use Rattle.mw_wasm.specs.Numerics.{number_result, result_number, number_of}
use Rattle.mw_wasm.specs.Syntax.{Instruction, Code, unreachable, nop, block, loop, cond, br, br_if, br_table, give_back}
use Rattle.mw_wasm.specs.Syntax.{call, call_indirect, drop_value, select, local_get, local_set, local_tee, global_get}
use Rattle.mw_wasm.specs.Syntax.{global_set, load, store, memory_size, memory_grow, const_i32, const_i64, numeric}
use Rattle.mw_wasm.specs.Syntax.{Function, Global, PureModule}
use Rattle.mw_wasm.specs.Store.{Store, zero_of, is_inside, read_bytes, load_size, loaded, store_type, store_size}
use Rattle.mw_wasm.specs.Act as acts
use Rattle.mw_wasm.specs.Act.{Act, constant, act, arity_of, where_zero, same_value_type, same_value_types, same_type}
use Rattle.mw_wasm.specs.Act.{most_pages, grown, entered, called, called_at}
use Rattle.mw_wasm.specs.Validity.{Context, results_of, HasType, CodeHasType, of_next, of_unreachable, of_nop, of_drop}
use Rattle.mw_wasm.specs.Validity.{of_select, of_block, of_loop, of_if, of_br, of_br_if, of_br_table, of_return}
use Rattle.mw_wasm.specs.Validity.{of_call, of_call_indirect, of_local_get, of_local_set, of_local_tee, of_global_get}
use Rattle.mw_wasm.specs.Validity.{of_global_set, of_load, of_store, of_memory_size, of_memory_grow, of_numeric}
use Rattle.mw_wasm.specs.Validity.{IsValidFunction, IsValid, load_type}
use Rattle.mw_wasm.proofs.Acts.{for_true}
use Rattle.mw_list.proofs.Conjunctions.{both_true}
use Rattle.mw_wasm.proofs.Arguments.{same_all}
use Rattle.mw_wasm.specs.StateTypes.{IsElementOf, StoreIsTyped, OperandsAreTyped, context_inside, behind, again}
use Rattle.mw_wasm.specs.ActTypes.{ActIsTyped}
use Rattle.mw_wasm.proofs.OperandTypes.{types_above, operands_below, operand_pushed, types_taken, types_dropped}
use Rattle.mw_wasm.proofs.OperandTypes.{arguments_typed, enough, there, set_typed}
use Rattle.mw_wasm.proofs.TypedActs.{of_some, of_true, of_value, of_i32, of_type, of_one, of_two, of_result}

pub all_at : {X : Type 0} (P : X → Type 0) (xs : List X) (i : ℕ) (x : X) → AllByRecursion P xs → slice_get xs i ≡ Some x
    → P x
all_at P [] i x all e = absurd (cc)
all_at P (y ∷ xs) zero x all e = subst P (same e) all.0
  where
    same : Some y ≡ Some x → y ≡ x
    same e = cc
all_at P (y ∷ xs) (suc i) x all e = all_at P xs i x all.1 e

pub zeros_typed : (ts : List ValType) → map type_of_value (map zero_of ts) ≡ ts
zeros_typed [] = refl
zeros_typed (I32 ∷ ts) = ap (λ us. I32 ∷ us) (zeros_typed ts)
zeros_typed (I64 ∷ ts) = ap (λ us. I64 ∷ us) (zeros_typed ts)

chosen : (P : ℕ → Type 0) (ls : List ℕ) (l n : ℕ) → AllByRecursion P (ls ++ l ∷ []) → P (unwrap_or (slice_get ls n) l)
chosen P [] l n all = all.0
chosen P (x ∷ ls) l zero all = all.0
chosen P (x ∷ ls) l (suc n) all = chosen P ls l n all.1

arity_is : (t : Option ValType) → arity_of t ≡ length (results_of t)
arity_is None = refl
arity_is (Some t) = refl

loaded_type : (o : LoadOp) (n : ℕ) → type_of_value (loaded o n) ≡ load_type o
loaded_type load_op.I32 n = refl
loaded_type load_op.I64 n = refl
loaded_type load_op.I32S8 n = refl
loaded_type load_op.I32U8 n = refl
loaded_type load_op.I32S16 n = refl
loaded_type load_op.I32U16 n = refl
loaded_type load_op.I64S8 n = refl
loaded_type load_op.I64U8 n = refl
loaded_type load_op.I64S16 n = refl
loaded_type load_op.I64U16 n = refl
loaded_type load_op.I64S32 n = refl
loaded_type load_op.I64U32 n = refl

-- the function at an index of the kinds
record FunctionThere (m : PureModule) (f : ℕ) (k : ℕ) : Type 0 where
  function : Function
  is : slice_get m.funcs f ≡ Some function
  kind : function.kind ≡ k

function_there : (m : PureModule) (f k : ℕ) → slice_get (map (λ (g : Function). g.kind) m.funcs) f ≡ Some k
    → FunctionThere m f k
function_there m f k e = look (slice_get m.funcs f) refl (sym (slice_get-map (λ (g : Function). g.kind) m.funcs f) ∙ e)
  where
    look : (o : Option Function) → slice_get m.funcs f ≡ o → option_map (λ (g : Function). g.kind) o ≡ Some k
        → FunctionThere m f k
    look None e h = absurd (cc)
    look (Some g) e h = record { function = g; is = e; kind = same h }
      where
        same : Some g.kind ≡ Some k → g.kind ≡ k
        same e = cc

-- the element of a table at a place
element_at : (m : PureModule) (table : List (Option ℕ)) (n f : ℕ) → AllByRecursion (IsElementOf m) table
    → slice_get table n ≡ Some (Some f) → f < length m.funcs
element_at m table n f all e = all_at (IsElementOf m) table n (Some f) all e

some_function : (fs : List Function) (f : ℕ) → f < length fs → (g : Function) × (slice_get fs f ≡ Some g)
some_function [] f h = absurd (omega arith)
some_function (g ∷ fs) zero h = (g, refl)
some_function (g ∷ fs) (suc f) h = some_function fs f (omega arith)

kept : (m : PureModule) (st : Store) (x : ℕ) (v : Value) (t : ValType) → StoreIsTyped m st
    → slice_get (map (λ (g : Global). g.kind) m.globals) x ≡ Some t → type_of_value v ≡ t
    → StoreIsTyped m (record st { globals = slice_set st.globals x v })
kept m st x v t is_typed e f =
    record {
      globals = set_typed st.globals (map (λ (g : Global). g.kind) m.globals) x v t is_typed.globals e f;
      table =
          is_typed.table;
    }

abbrev first_of : ValType × Bool → ValType
first_of p = p.0

firsts : (gs : List Global) → map first_of (map (λ (g : Global). (g.kind, g.variable)) gs)
    ≡ map (λ (g : Global). g.kind) gs
firsts [] = refl
firsts (g ∷ gs) = ap (λ ts. g.kind ∷ ts) (firsts gs)

global_at : (m : PureModule) (x : ℕ) (t : ValType) (b : Bool)
    → slice_get {X = ValType × Bool} (map (λ (g : Global). (g.kind, g.variable)) m.globals) x ≡ Some (t, b)
    → slice_get (map (λ (g : Global). g.kind) m.globals) x ≡ Some t
global_at m x t b e = sym (ap (λ ts. slice_get ts x) (firsts m.globals))
    ∙ (slice_get-map first_of (map (λ (g : Global). (g.kind, g.variable)) m.globals) x ∙ ap (option_map first_of) e)

-- a valid function's body, at the type that the function has
pub body_typed : (m : PureModule) (f : Function) (t : FuncType) → IsValidFunction m f → slice_get m.types f.kind
    ≡ Some t → CodeHasType (context_inside m (t.results ∷ []) (t.params ++ f.locals) t.results) f.body [] t.results
body_typed m f t ok e = at_type ok.0 ok.1 ok.2
  where
    same : {o : Option FuncType} {a b : FuncType} → o ≡ Some a → o ≡ Some b → a ≡ b
    same g h = cc

    at_type : (u : FuncType) → slice_get m.types f.kind ≡ Some u
        → CodeHasType (context_inside m (u.results ∷ []) (u.params ++ f.locals) u.results) f.body [] u.results
        → CodeHasType (context_inside m (t.results ∷ []) (t.params ++ f.locals) t.results) f.body [] t.results
    at_type u g h =
        subst (λ (w : FuncType). CodeHasType (context_inside m (w.results ∷ []) (w.params ++ f.locals) w.results) f.body
        [] w.results) (same g e) h

module _ (m : PureModule) (valid : IsValid m) (labels : List (List ValType)) (ls rs : List ValType) (rest : Code)
    (outs : List ValType) where
  abbrev Typed : Act → Type 0
  Typed a = ActIsTyped m labels ls rs rest outs a

  abbrev here : Context
  here = context_inside m labels ls rs

  gave : (st : Store) (locals : List Value) (v : Value) (us : List Value) (below : List ValType) (t : ValType)
      → StoreIsTyped m st → map type_of_value locals ≡ ls → type_of_value v ≡ t → map type_of_value us ≡ reverse below
      → CodeHasType here rest (below ++ t ∷ []) outs → Typed (acts.gives st locals (v ∷ us) None)
  gave st locals v us below t s l e f r =
      record {
        ins = below ++ t ∷ [];
        store = s;
        locals_typed = l;
        operands = operand_pushed v us below t e f;
        code =
            r;
      }

  gave_none : (st : Store) (locals : List Value) (us : List Value) (below : List ValType) → StoreIsTyped m st
      → map type_of_value locals ≡ ls → map type_of_value us ≡ reverse below → CodeHasType here rest (below ++ []) outs
      → Typed (acts.gives st locals us None)
  gave_none st locals us below s l f r =
      record { ins = below ++ []; store = s; locals_typed = l; operands = operands_below us below f; code = r }

  entered_typed : (f : Function) (t : FuncType) (vs : List Value) (below : List ValType) → IsValidFunction m f
      → slice_get m.types f.kind ≡ Some t → map type_of_value vs ≡ reverse t.params ++ reverse below
      → CodeHasType here rest (below ++ t.results) outs → Typed (entered m t f vs)
  entered_typed f t vs below ok e o r =
      of_true Typed (nat_le (length t.params) (length vs)) _ _
      (le-leb (length t.params) (length vs) (enough vs t.params (reverse below) o)) record {
        gives = t.results;
        below = below;
        types = t.params ++ f.locals;
        arity = refl;
        operands = record { types = types_dropped (length t.params) vs t.params (reverse below) refl o };
        rest_typed = r;
        locals_typed = map-append type_of_value (reverse (take (length t.params) vs)) (map zero_of f.locals)
            ∙ (ap (λ ts. ts ++ map type_of_value (map zero_of f.locals))
            (arguments_typed (take (length t.params) vs) t.params
            (types_taken (length t.params) vs t.params (reverse below) refl o))
            ∙ ap (λ ts. t.params ++ ts) (zeros_typed f.locals));
        body_typed = body_typed m f t ok e;
      }

  called_typed : (f k : ℕ) (t : FuncType) (vs : List Value) (below : List ValType)
      → slice_get (map (λ (g : Function). g.kind) m.funcs) f ≡ Some k → slice_get m.types k ≡ Some t
      → map type_of_value vs ≡ reverse t.params ++ reverse below → CodeHasType here rest (below ++ t.results) outs
      → Typed (called m f vs)
  called_typed f k t vs below e g o r =
      let h = function_there m f k e in
      let typed = ap (λ k. slice_get m.types k) h.kind ∙ g in
      of_some Typed (slice_get m.funcs f) h.function _ _ h.is
      (of_some Typed (slice_get m.types h.function.kind) t _ _ typed
      (entered_typed h.function t vs below (all_at (IsValidFunction m) m.funcs f h.function valid.funcs h.is) typed o
      r))

  called_at_typed : (t : ℕ) (wants : FuncType) (table : List (Option ℕ)) (o : Option (Option ℕ)) (n : ℕ)
      (vs : List Value) (below : List ValType) → AllByRecursion (IsElementOf m) table → slice_get table n ≡ o
      → slice_get m.types t ≡ Some wants → map type_of_value vs ≡ reverse wants.params ++ reverse below
      → CodeHasType here rest (below ++ wants.results) outs → Typed (called_at m t o vs)
  called_at_typed t wants table None n vs below all e g h r = tt
  called_at_typed t wants table (Some None) n vs below all e g h r = tt
  called_at_typed t wants table (Some (Some f)) n vs below all e g h r =
      let found = some_function m.funcs f (element_at m table n f all e) in
      let ok = all_at (IsValidFunction m) m.funcs f found.0 valid.funcs found.1 in
      of_some Typed (slice_get m.funcs f) found.0 _ _ found.1
      (of_some Typed (slice_get m.types found.0.kind) ok.0 _ _ ok.1
      (of_some Typed (slice_get m.types t) wants _ _ g
      (at_type found.0 ok.0 ok ok.1 (same_type ok.0 wants) refl)))
    where
      at_type : (g : Function) (has : FuncType) → IsValidFunction m g → slice_get m.types g.kind ≡ Some has → (b : Bool)
          → same_type has wants ≡ b → Typed (acts.where_true b (entered m has g vs) (acts.traps WrongType))
      at_type g has ok e false f = tt
      at_type g has ok e true f =
          let both = both_true (same_value_types has.params wants.params) (same_value_types has.results wants.results)
          f in
          let params = same_all has.params wants.params both.0 in
          let results = same_all has.results wants.results both.1 in
          entered_typed g has vs below ok e (h ∙ ap (λ ts. reverse ts ++ reverse below) (sym params))
          (subst (λ ts. CodeHasType here rest (below ++ ts) outs) (sym results) r)

  numeric_typed : (o : NumOp) (st : Store) (locals vs : List Value) (below : List ValType) → StoreIsTyped m st
      → map type_of_value locals ≡ ls → map type_of_value vs ≡ reverse (operands_of o) ++ reverse below
      → CodeHasType here rest (below ++ result_type o ∷ []) outs → Typed (act m (numeric o) st locals vs)
  numeric_typed o st locals vs below s l e r = at_operands o e
    where
      given : (x y : Value) (us : List Value) → map type_of_value us ≡ reverse below
          → Typed (acts.on_result (number_result o x y) λ z. acts.gives st locals (z ∷ us) None)
      given x y us f = of_result Typed (result_type o) (result_number o (number_of x) (number_of y))
          (λ z. acts.gives st locals (z ∷ us) None) (λ t. tt) λ z g. gave st locals z us below (result_type o) s l g f r

      at_kind : (k : Kind) (t : ValType) → map type_of_value vs ≡ reverse (operands_at k t) ++ reverse below
          → Typed (acts.on_operands (operands_at k t) vs λ x y us. acts.on_result (number_result o x y) λ z.
          acts.gives st locals (z ∷ us) None)
      at_kind test t e = of_one Typed t vs (reverse below) _ e λ x y us f. given x y us f
      at_kind comparison t e = of_two Typed t t vs (reverse below) _ e λ x y us f. given x y us f
      at_kind unary t e = of_one Typed t vs (reverse below) _ e λ x y us f. given x y us f
      at_kind binary t e = of_two Typed t t vs (reverse below) _ e λ x y us f. given x y us f

      at_operands : (p : NumOp) → map type_of_value vs ≡ reverse (operands_of p) ++ reverse below
          → Typed (acts.on_operands (operands_of p) vs λ x y us. acts.on_result (number_result o x y) λ z.
          acts.gives st locals (z ∷ us) None)
      at_operands (num.I32 p) e = at_kind (kind_of p) I32 e
      at_operands (num.I64 p) e = at_kind (kind_of p) I64 e
      at_operands num.Wrap e = of_one Typed I64 vs (reverse below) _ e λ x y us f. given x y us f
      at_operands num.ExtendS e = of_one Typed I32 vs (reverse below) _ e λ x y us f. given x y us f
      at_operands num.ExtendU e = of_one Typed I32 vs (reverse below) _ e λ x y us f. given x y us f

  -- an instruction of the right type, after operands of the types that it takes
  pub act_typed : (i : Instruction) (st : Store) (locals vs : List Value) (below taken left : List ValType)
      → StoreIsTyped m st → map type_of_value locals ≡ ls → HasType here i taken left
      → OperandsAreTyped vs (below ++ taken) → CodeHasType here rest (below ++ left) outs → constant i ≡ None
      → Typed (act m i st locals vs)
  act_typed unreachable st locals vs below taken left s l of_unreachable o r k = tt
  act_typed nop st locals vs below taken left s l of_nop o r k =
      gave_none st locals vs below s l (types_above vs below [] o) r
  act_typed drop_value st locals vs below taken left s l (of_drop {t = t}) o r k = of_value Typed vs t (reverse below) _
      (types_above vs below (t ∷ []) o) λ v us e f. gave_none st locals us below s l f r
  act_typed select st locals vs below taken left s l (of_select {t = t}) o r k =
      of_i32 Typed vs (t ∷ t ∷ reverse below) _ (types_above vs below (t ∷ t ∷ I32 ∷ []) o) λ n us f.
      of_value Typed us t (t ∷ reverse below) _ f λ b us e f.
      of_value Typed us t (reverse below) _ f λ a us g f. gave st locals (where_zero n b a) us below t s l
      (one_of n b a e g) f r
    where
      one_of : (n : ℕ) (b a : Value) → type_of_value b ≡ t → type_of_value a ≡ t → type_of_value (where_zero n b a) ≡ t
      one_of zero b a e f = e
      one_of (suc n) b a e f = f
  act_typed (block t body) st locals vs below taken left s l (of_block e b) o r k = record {
    takes = left;
    gives = left;
    below = below;
    arity = arity_is t ∙ ap length (sym e);
    continues = behind;
    operands = record { types = types_above vs below [] o };
    rest_typed = r;
    body_typed = b;
  }
  act_typed (loop t body) st locals vs below taken left s l (of_loop e b) o r k = record {
    takes = [];
    gives = left;
    below = below;
    arity = refl;
    continues = again (of_loop e b);
    operands = record { types = types_above vs below [] o };
    rest_typed = r;
    body_typed = b;
  }
  act_typed (cond t a b) st locals vs below taken left s l (of_if e f g) o r k =
      of_i32 Typed vs (reverse below) _ (types_above vs below (I32 ∷ []) o) λ n us h. record {
        ins = below ++ [];
        store = s;
        locals_typed = l;
        operands = operands_below us below h;
        code = of_next below [] left (of_block e (one_of n)) refl r;
      }
    where
      one_of : (n : ℕ) → CodeHasType (context_inside m (left ∷ labels) ls rs) (where_zero n b a) [] left
      one_of zero = g
      one_of (suc n) = f
  act_typed (br x) st locals vs below taken left s l (of_br below' label e f) o r k =
      record {
        takes = label;
        below = below ++ below';
        label = e;
        operands = subst (λ ts. OperandsAreTyped vs ts)
            (ap (λ ts. below ++ ts) f ∙ sym (append_assoc below below' label)) o;
      }
  act_typed (br_if x) st locals vs below taken left s l (of_br_if e f) o r k =
      of_i32 Typed vs (reverse left ++ reverse below) _
      (types_above vs below taken o
      ∙ (ap (λ ts. reverse ts ++ reverse below) f ∙ ap (λ ts. ts ++ reverse below)
      (reverse-append left (I32 ∷ [])))) λ n us h.
      taken_or n us record { types = h ∙ sym (reverse-append below left) }
    where
      taken_or : (n : ℕ) (us : List Value) → OperandsAreTyped us (below ++ left)
          → Typed (acts.gives st locals us (where_zero n None (Some (br x))))
      taken_or zero us h = record { ins = below ++ left; store = s; locals_typed = l; operands = h; code = r }
      taken_or (suc n) us h = record {
        ins = below ++ left;
        store = s;
        locals_typed = l;
        operands = h;
        code =
            of_next [] (below ++ left) (below ++ left) (of_br below left e refl) refl r;
      }
  act_typed (br_table xs x) st locals vs below taken left s l (of_br_table below' label e f) o r k =
      of_i32 Typed vs (reverse (below' ++ label) ++ reverse below) _
      (types_above vs below taken o
      ∙ (ap (λ ts. reverse ts ++ reverse below) f ∙ ap (λ ts. ts ++ reverse below)
      (reverse-append (below' ++ label) (I32 ∷ [])))) λ n us h. record {
        ins = below ++ (below' ++ label);
        store = s;
        locals_typed = l;
        operands = record { types = h ∙ sym (reverse-append below (below' ++ label)) };
        code = of_next [] (below ++ (below' ++ label)) (below ++ left)
            (of_br (below ++ below') label (chosen (λ x. slice_get labels x ≡ Some label) xs x n e)
            (sym (append_assoc below below' label))) refl r;
      }
  act_typed give_back st locals vs below taken left s l (of_return below' e) o r k =
      record {
        below = below ++ below';
        operands = subst (λ ts. OperandsAreTyped vs ts)
            (ap (λ ts. below ++ ts) e ∙ sym (append_assoc below below' rs)) o;
      }
  act_typed (call f) st locals vs below taken left s l (of_call t has e g) o r k =
      called_typed f has.0 t vs below has.1 has.2
      (types_above vs below taken o ∙ ap (λ ts. reverse ts ++ reverse below) e)
      (subst (λ ts. CodeHasType here rest (below ++ ts) outs) g r)
  act_typed (call_indirect x) st locals vs below taken left s l (of_call_indirect t table e f g) o r k =
      of_i32 Typed vs (reverse t.params ++ reverse below) _
      (types_above vs below taken o
      ∙ (ap (λ ts. reverse ts ++ reverse below) f ∙ ap (λ ts. ts ++ reverse below)
      (reverse-append t.params (I32 ∷ [])))) λ n us h.
      called_at_typed x t st.table (slice_get st.table n) n us below s.table refl e h
      (subst (λ ts. CodeHasType here rest (below ++ ts) outs) g r)
  act_typed (local_get x) st locals vs below taken left s l (of_local_get {t = t} e) o r k =
      let h = there locals ls x t l e in
      of_some Typed (slice_get locals x) h.value _ _ h.is
      (gave st locals h.value vs below t s l h.typed (types_above vs below [] o) r)
  act_typed (local_set x) st locals vs below taken left s l (of_local_set {t = t} e) o r k =
      let h = there locals ls x t l e in
      of_value Typed vs t (reverse below) _ (types_above vs below (t ∷ []) o) λ v us f g.
      of_true Typed (nat_lt x (length locals)) _ _ (lt-ltb x (length locals) (slice_get_within locals x h.value h.is))
      (gave_none st (slice_set locals x v) us below s (set_typed locals ls x v t l e f) g r)
  act_typed (local_tee x) st locals vs below taken left s l (of_local_tee {t = t} e) o r k =
      of_value Typed vs t (reverse below) _ (types_above vs below (t ∷ []) o) λ v us f g. record {
        ins = (below ++ t ∷ []) ++ t ∷ [];
        store = s;
        locals_typed = l;
        operands = operand_pushed v (v ∷ us) (below ++ t ∷ []) t f (rw (reverse-append below (t ∷ []), f, g) refl);
        code = of_next (below ++ t ∷ []) (t ∷ []) [] (of_local_set e) refl
            (subst (λ ts. CodeHasType here rest ts outs) (sym (append-nil (below ++ t ∷ []))) r);
      }
  act_typed (global_get x) st locals vs below taken left s l (of_global_get {t = t} b e) o r k =
      let h = there st.globals (map (λ (g : Global). g.kind) m.globals) x t s.globals (global_at m x t b e) in
      of_some Typed (slice_get st.globals x) h.value _ _ h.is
      (gave st locals h.value vs below t s l h.typed (types_above vs below [] o) r)
  act_typed (global_set x) st locals vs below taken left s l (of_global_set {t = t} e) o r k =
      let h = there st.globals (map (λ (g : Global). g.kind) m.globals) x t s.globals (global_at m x t true e) in
      of_value Typed vs t (reverse below) _ (types_above vs below (t ∷ []) o) λ v us f g.
      of_true Typed (nat_lt x (length st.globals)) _ _
      (lt-ltb x (length st.globals) (slice_get_within st.globals x h.value h.is))
      (gave_none (record st { globals = slice_set st.globals x v }) locals us below
      (kept m st x v t s (global_at m x t true e) f) l g r)
  act_typed (load op align offset) st locals vs below taken left s l (of_load {t = t} has aligned e) o r k =
      of_i32 Typed vs (reverse below) _ (types_above vs below (I32 ∷ []) o) λ n us h.
      for_true Typed (is_inside st.memory (n + offset) (load_size op)) _ _
      (gave st locals (loaded op (read_bytes (load_size op) (n + offset) st.memory)) us below t s l
      (loaded_type op (read_bytes (load_size op) (n + offset) st.memory) ∙ sym e) h r) tt
  act_typed (store op align offset) st locals vs below taken left s l (of_store {t = t} has aligned e) o r k =
      of_type Typed (store_type op) vs (I32 ∷ reverse below) _
      (types_above vs below (I32 ∷ t ∷ []) o ∙ ap (λ t. t ∷ I32 ∷ reverse below) e) λ v us f g.
      of_i32 Typed us (reverse below) _ g λ n us h.
      for_true Typed (is_inside st.memory (n + offset) (store_size op)) _ _
      (gave_none _ locals us below record { globals = s.globals; table = s.table } l h r) tt
  act_typed memory_size st locals vs below taken left s l (of_memory_size has) o r k =
      gave st locals (value.I32 st.memory.pages) vs below I32 s l refl (types_above vs below [] o) r
  act_typed memory_grow st locals vs below taken left s l (of_memory_grow has) o r k =
      of_i32 Typed vs (reverse below) _ (types_above vs below (I32 ∷ []) o) λ n us h.
      for_true Typed (nat_le (st.memory.pages + n) (most_pages m.memory)) _ _
      (gave _ locals _ us below I32 record { globals = s.globals; table = s.table } l refl h r)
      (gave st locals _ us below I32 s l refl h r)
  act_typed (numeric p) st locals vs below taken left s l (of_numeric {t = t} e f) o r k =
      numeric_typed p st locals vs below s l (types_above vs below taken o ∙ ap (λ ts. reverse ts ++ reverse below) e)
      (subst (λ t. CodeHasType here rest (below ++ t ∷ []) outs) f r)
  act_typed (const_i32 n) st locals vs below taken left s l h o r k = absurd (cc)
  act_typed (const_i64 n) st locals vs below taken left s l h o r k = absurd (cc)
