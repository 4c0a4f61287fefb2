-- Progress and preservation: some rule applies to a typed state, and what it makes is typed again.
use Rattle.std.proofs.Common.{◌≡◌, ℕ, zero, suc, List, [], ◌∷◌, ◌++◌, length, take, refl, sym, ap, ◌∙◌, subst, Option}
use Rattle.std.proofs.Common.{Some, None}
use Rattle.std.specs.Prelude.{map, slice_get}
use Rattle.std.proofs.lemmas.List.{append-nil}
use Rattle.mw_wasm.specs.declared.values.ValType.{ValType}
use Rattle.mw_wasm.specs.declared.values.ValType.TheVariants.{I32, I64}
use Rattle.mw_wasm.specs.declared.values.Value.{Value}
use Rattle.mw_wasm.specs.declared.values.Value.TheVariants as value
use Rattle.mw_wasm.specs.NumericTypes.{type_of_value}
use Rattle.mw_wasm.specs.Syntax.{Code, const_i32, const_i64, end, next, PureModule}
use Rattle.mw_wasm.specs.Store.{Store}
use Rattle.mw_wasm.specs.Act as acts
use Rattle.mw_wasm.specs.Act.{Act, constant, act}
use Rattle.mw_wasm.specs.Redex.{Around, in_label, in_frame, Config, at, followed_by, leave, branch, return_from, placed}
use Rattle.mw_wasm.specs.Redex.{reduce_code, reduce}
use Rattle.mw_wasm.specs.Validity.{Context, CodeHasType, of_end, of_next, of_const_i32, of_const_i64, IsValid}
use Rattle.mw_wasm.specs.StateTypes.{StoreIsTyped, OperandsAreTyped, context_inside, Continues, behind, again}
use Rattle.mw_wasm.specs.StateTypes.{SurroundingsAreTyped, ConfigIsTyped, thread, finished}
use Rattle.mw_wasm.specs.ActTypes.{ActIsTyped}
use Rattle.mw_wasm.specs.Soundness.{NextIsTyped, ProgressAndPreservation}
use Rattle.mw_wasm.proofs.OperandTypes.{no_operands, operands_pushed, last_operands, operand_pushed, types_above}
use Rattle.mw_wasm.proofs.ActTypes.{act_typed}

-- where a branch goes on
continued : (c : Context) (takes gives : List ValType) (k rest : Code) (below outs : List ValType)
    → Continues c takes gives k → CodeHasType c rest (below ++ gives) outs → CodeHasType c (followed_by k rest)
    (below ++ takes) outs
continued c takes gives k rest below outs behind r = r
continued c takes gives k rest below outs (again h) r = of_next below [] gives h refl r

branch_is : (l : ℕ) (st : Store) (ls vs : List Value) (n : ℕ) (k : Code) (us : List Value) (rest : Code)
    (around : List Around) (m : PureModule) (final : List ValType)
    → ConfigIsTyped m final (at st ls (take n vs ++ us) (followed_by k rest) around)
    → NextIsTyped m final (branch zero st ls vs (in_label n k us rest ∷ around))
branch_is l st ls vs n end us rest around m final h = h
branch_is l st ls vs n (next i c) us rest around m final h = h

same_some : {x : Option (List ValType)} {a b : List ValType} → x ≡ Some a → x ≡ Some b → a ≡ b
same_some e f = cc

module _ (m : PureModule) (final : List ValType) where
  branch_typed : (l : ℕ) (st : Store) (locals vs : List Value) (around : List Around) (labels : List (List ValType))
      (ls rs gives takes below : List ValType) → StoreIsTyped m st → map type_of_value locals ≡ ls → slice_get labels l
      ≡ Some takes → OperandsAreTyped vs (below ++ takes) → SurroundingsAreTyped m around labels ls rs gives final
      → NextIsTyped m final (branch l st locals vs around)
  branch_typed l st locals vs [] labels ls rs gives takes below s e f o h = absurd h
  branch_typed zero st locals vs (in_label n k us rest ∷ around) labels ls rs gives takes below s e f o
      (takes', others, outs, is, is_typed, outside) =
      branch_is zero st locals vs n k us rest around m final (thread record {
        labels = others;
        ls = ls;
        rs = rs;
        ins = is_typed.below ++ takes';
        outs = outs;
        store = s;
        locals = e;
        operands = operands_pushed (take n vs) us takes' is_typed.below
            (last_operands n vs below takes' is_typed.arity
            (subst (λ ts. OperandsAreTyped vs (below ++ ts)) (same_some f (ap (λ ls. slice_get ls 0) is)) o))
            is_typed.operands;
        code = continued (context_inside m others ls rs) takes' gives k rest is_typed.below outs is_typed.continues
            is_typed.rest_typed;
        around = outside;
      })
  branch_typed (suc l) st locals vs (in_label n k us rest ∷ around) labels ls rs gives takes below s e f o
      (takes', others, outs, is, is_typed, outside) =
      branch_typed l st locals vs around others ls rs outs takes below s e
      (sym (ap (λ ls. slice_get ls (suc l)) is) ∙ f) o outside
  branch_typed l st locals vs (in_frame n ks us rest ∷ []) labels ls rs gives takes below s e f o (none, is, is_typed) =
      absurd (no_label l none f)
    where
      no_label : (l : ℕ) → labels ≡ [] → slice_get labels l ≡ Some takes → ⊥
      no_label l e f = absurd_some (sym (ap (λ ls. slice_get ls l) e) ∙ f)
        where
          absurd_some : None ≡ Some takes → ⊥
          absurd_some e = cc
  branch_typed l st locals vs (in_frame n ks us rest ∷ a ∷ around) labels ls rs gives takes below s e f o
      (others, ks', rs', outs, none, is, is_typed, outside) = absurd (no_label l none f)
    where
      no_label : (l : ℕ) → labels ≡ [] → slice_get labels l ≡ Some takes → ⊥
      no_label l e f = absurd_some (sym (ap (λ ls. slice_get ls l) e) ∙ f)
        where
          absurd_some : None ≡ Some takes → ⊥
          absurd_some e = cc

  -- the end of a frame, with values of its results
  left_frame : (n : ℕ) (st : Store) (ks us vs : List Value) (rest : Code) (around : List Around)
      (labels : List (List ValType)) (ls rs gives : List ValType) → StoreIsTyped m st → OperandsAreTyped vs rs
      → SurroundingsAreTyped m (in_frame n ks us rest ∷ around) labels ls rs gives final
      → ConfigIsTyped m final (at st ks (vs ++ us) rest around)
  left_frame n st ks us vs rest [] labels ls rs gives s o (none, is, is_typed) = finished record {
    store = s;
    no_code = is_typed.no_rest;
    no_around = refl;
    operands = subst (λ ts. OperandsAreTyped (vs ++ us) ts) (sym is ∙ sym is_typed.is_final)
        (subst (λ us. OperandsAreTyped (vs ++ us) rs) (sym is_typed.no_operands)
        (subst (λ vs. OperandsAreTyped vs rs) (sym (append-nil vs)) o));
  }
  left_frame n st ks us vs rest (a ∷ around) labels ls rs gives s o (
    others,
    ks',
    rs',
    outs,
    none,
    is,
    is_typed,
    outside,
  ) = thread record {
    labels = others;
    ls = ks';
    rs = rs';
    ins = is_typed.below ++ gives;
    outs = outs;
    store = s;
    locals = is_typed.locals;
    operands = operands_pushed vs us gives is_typed.below (subst (λ ts. OperandsAreTyped vs ts) (sym is) o)
        is_typed.operands;
    code = is_typed.rest_typed;
    around = outside;
  }

  frame_arity : (n : ℕ) (ks us : List Value) (rest : Code) (around : List Around) (labels : List (List ValType))
      (ls rs gives : List ValType) → SurroundingsAreTyped m (in_frame n ks us rest ∷ around) labels ls rs gives final
      → n ≡ length rs
  frame_arity n ks us rest [] labels ls rs gives (none, is, is_typed) = is_typed.arity ∙ ap length is
  frame_arity n ks us rest (a ∷ around) labels ls rs gives (others, ks', rs', outs, none, is, is_typed, outside) =
      is_typed.arity ∙ ap length is

  frame_gives : (n : ℕ) (ks us : List Value) (rest : Code) (around : List Around) (labels : List (List ValType))
      (ls rs gives : List ValType) → SurroundingsAreTyped m (in_frame n ks us rest ∷ around) labels ls rs gives final
      → gives ≡ rs
  frame_gives n ks us rest [] labels ls rs gives (none, is, is_typed) = is
  frame_gives n ks us rest (a ∷ around) labels ls rs gives (others, ks', rs', outs, none, is, is_typed, outside) = is

  return_typed : (st : Store) (vs : List Value) (around : List Around) (labels : List (List ValType))
      (ls rs gives below : List ValType) → StoreIsTyped m st → OperandsAreTyped vs (below ++ rs)
      → SurroundingsAreTyped m around labels ls rs gives final → NextIsTyped m final (return_from st vs around)
  return_typed st vs [] labels ls rs gives below s o h = absurd h
  return_typed st vs (in_label n k us rest ∷ around) labels ls rs gives below s o
      (takes', others, outs, is, is_typed, outside) = return_typed st vs around others ls rs outs below s o outside
  return_typed st vs (in_frame n ks us rest ∷ around) labels ls rs gives below s o h =
      left_frame n st ks us (take n vs) rest around labels ls rs gives s
      (last_operands n vs below rs (frame_arity n ks us rest around labels ls rs gives h) o) h

  leave_typed : (st : Store) (locals vs : List Value) (around : List Around) (labels : List (List ValType))
      (ls rs gives : List ValType) → StoreIsTyped m st → map type_of_value locals ≡ ls → OperandsAreTyped vs gives
      → SurroundingsAreTyped m around labels ls rs gives final → NextIsTyped m final (leave st locals vs around)
  leave_typed st locals vs [] labels ls rs gives s e o h = absurd h
  leave_typed st locals vs (in_label n k us rest ∷ around) labels ls rs gives s e o
      (takes', others, outs, is, is_typed, outside) = thread record {
        labels = others;
        ls = ls;
        rs = rs;
        ins = is_typed.below ++ gives;
        outs = outs;
        store = s;
        locals = e;
        operands = operands_pushed vs us gives is_typed.below o is_typed.operands;
        code = is_typed.rest_typed;
        around = outside;
      }
  leave_typed st locals vs (in_frame n ks us rest ∷ around) labels ls rs gives s e o h =
      left_frame n st ks us vs rest around labels ls rs gives s
      (subst (λ ts. OperandsAreTyped vs ts) (frame_gives n ks us rest around labels ls rs gives h) o) h

  -- a frame round the body of a function that is called
  called_surroundings : (n : ℕ) (locals vs : List Value) (rest : Code) (around : List Around)
      (labels : List (List ValType)) (ls rs outs types gives below : List ValType) → n ≡ length gives
      → map type_of_value locals ≡ ls → OperandsAreTyped vs below → CodeHasType (context_inside m labels ls rs) rest
      (below ++ gives) outs → SurroundingsAreTyped m around labels ls rs outs final
      → SurroundingsAreTyped m (in_frame n locals vs rest ∷ around) [] types gives gives final
  called_surroundings n locals vs rest [] labels ls rs outs types gives below a e o r h = absurd h
  called_surroundings n locals vs rest (b ∷ around) labels ls rs outs types gives below a e o r h = (
    labels,
    ls,
    rs,
    outs,
    refl,
    refl,
    record { arity = a; locals = e; below = below; operands = o; rest_typed = r },
    h,
  )

  placed_typed : (a : Act) (st : Store) (locals : List Value) (rest : Code) (around : List Around)
      (labels : List (List ValType)) (ls rs outs : List ValType) → StoreIsTyped m st → map type_of_value locals ≡ ls
      → ActIsTyped m labels ls rs rest outs a → SurroundingsAreTyped m around labels ls rs outs final
      → NextIsTyped m final (placed a st locals rest around)
  placed_typed (acts.gives st' locals' vs after) st locals rest around labels ls rs outs s e f h = thread record {
    labels = labels;
    ls = ls;
    rs = rs;
    ins = f.ins;
    outs = outs;
    store = f.store;
    locals = f.locals_typed;
    operands = f.operands;
    code = f.code;
    around = h;
  }
  placed_typed (acts.enters n k body vs) st locals rest around labels ls rs outs s e f h = thread record {
    labels = f.takes ∷ labels;
    ls = ls;
    rs = rs;
    ins = [];
    outs = f.gives;
    store = s;
    locals = e;
    operands = no_operands;
    code = f.body_typed;
    around = (
      f.takes,
      labels,
      outs,
      refl,
      record {
        arity = f.arity;
        continues = f.continues;
        below = f.below;
        operands = f.operands;
        rest_typed =
            f.rest_typed;
      },
      h,
    );
  }
  placed_typed (acts.calls n fs body vs) st locals rest around labels ls rs outs s e f h = thread record {
    labels = f.gives ∷ [];
    ls = f.types;
    rs = f.gives;
    ins = [];
    outs = f.gives;
    store = s;
    locals = f.locals_typed;
    operands = no_operands;
    code = f.body_typed;
    around = (
      f.gives,
      [],
      f.gives,
      refl,
      record { arity = f.arity; continues = behind; below = []; operands = no_operands; rest_typed = of_end },
      called_surroundings n locals vs rest around labels ls rs outs f.types f.gives f.below f.arity e f.operands
          f.rest_typed h,
    );
  }
  placed_typed (acts.breaks l vs) st locals rest around labels ls rs outs s e f h = branch_typed l st locals vs around
      labels ls rs outs f.takes f.below s e f.label f.operands h
  placed_typed (acts.returns vs) st locals rest around labels ls rs outs s e f h = return_typed st vs around labels ls
      rs outs f.below s f.operands h
  placed_typed (acts.traps t) st locals rest around labels ls rs outs s e f h = tt
  placed_typed acts.stuck st locals rest around labels ls rs outs s e f h = absurd f

  module _ (valid : IsValid m) where
    code_typed : (code : Code) (st : Store) (locals vs : List Value) (around : List Around)
        (labels : List (List ValType)) (ls rs ins outs : List ValType) → StoreIsTyped m st → map type_of_value locals
        ≡ ls → OperandsAreTyped vs ins → CodeHasType (context_inside m labels ls rs) code ins outs
        → SurroundingsAreTyped m around labels ls rs outs final
        → NextIsTyped m final (reduce_code m code st locals vs around)
    code_typed end st locals vs around labels ls rs ins outs s e o of_end h = leave_typed st locals vs around labels ls
        rs ins s e o h
    code_typed (next (const_i32 n) rest) st locals vs around labels ls rs ins outs s e o
        (of_next below taken left of_const_i32 f r) h = thread record {
          labels = labels;
          ls = ls;
          rs = rs;
          ins = below ++ I32 ∷ [];
          outs = outs;
          store = s;
          locals = e;
          operands = operand_pushed (value.I32 n) vs below I32 refl
              (types_above vs below [] (subst (λ ts. OperandsAreTyped vs ts) f o));
          code = r;
          around = h;
        }
    code_typed (next (const_i64 n) rest) st locals vs around labels ls rs ins outs s e o
        (of_next below taken left of_const_i64 f r) h = thread record {
          labels = labels;
          ls = ls;
          rs = rs;
          ins = below ++ I64 ∷ [];
          outs = outs;
          store = s;
          locals = e;
          operands = operand_pushed (value.I64 n) vs below I64 refl
              (types_above vs below [] (subst (λ ts. OperandsAreTyped vs ts) f o));
          code = r;
          around = h;
        }
    code_typed (next i rest) st locals vs around labels ls rs ins outs s e o (of_next below taken left t f r) h =
        placed_typed (act m i st locals vs) st locals rest around labels ls rs outs s e
        (act_typed m valid labels ls rs rest outs i st locals vs below taken left s e t
        (subst (λ ts. OperandsAreTyped vs ts) f o) r refl) h

    pub reduce_typed : (c : Config) → ConfigIsTyped m final c → NextIsTyped m final (reduce m c)
    reduce_typed c (thread h) = code_typed c.code c.store c.locals c.vs c.around h.labels h.ls h.rs h.ins h.outs h.store
        h.locals h.operands h.code h.around
    reduce_typed c (finished h) = rw (h.no_code, h.no_around) (h.store, h.operands)

pub progress_and_preservation : ProgressAndPreservation
progress_and_preservation m valid final c h = reduce_typed m final valid c h
