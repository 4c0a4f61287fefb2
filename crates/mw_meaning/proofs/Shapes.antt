-- Whether a module has a shape: its exports, the types of its functions, and its segments.
use Rattle.std.proofs.Common.{◌≡◌, ℕ, ◌+◌, ◌*◌, Bool, true, false, ◌&&◌, List, [], ◌∷◌, Option, Some, None, Ok}
use Rattle.std.proofs.Common.{map, drop, take, length, replicate, refl, sym, ◌∙◌, ap, arith}
use Rattle.std.specs.Prelude.{cond, not, position, slice_get, is_none, is_ok, MatchOption}
use Rattle.std.specs.List.{position_from, list_all}
use Rattle.std.proofs.lemmas.Iterator.Adapters.{position_from-zero}
use Rattle.std.specs.Borrow.{Bor}
use Rattle.std.specs.Slice.{IsItemAt}
use Rattle.std.proofs.lemmas.List.Folds.{list_all-map}
use Rattle.std.proofs.lemmas.Option.{slice_get-map, slice_get_past, slice_get_read}
use Rattle.mw_wasm.specs.declared.instructions.Instr.{Instr}
use Rattle.mw_wasm.specs.declared.instructions.Instr as instr
use Rattle.mw_wasm.specs.declared.modules.Element.{Element}
use Rattle.mw_wasm.specs.declared.modules.Segment.{Segment}
use Rattle.mw_wasm.specs.declared.modules.Export.{Export}
use Rattle.mw_wasm.specs.declared.modules.Func.{Func}
use Rattle.mw_wasm.specs.declared.modules.FuncType.{FuncType}
use Rattle.mw_wasm.specs.declared.modules.Module.{Module}
use Rattle.mw_wasm.specs.declared.values.ValType.{ValType}
use Rattle.mw_wasm.specs.declared.values.ValType.TheVariants.{I64}
use Rattle.mw_wasm.specs.Syntax.{end, next}
use Rattle.mw_wasm.specs.Store.{Store}
use Rattle.mw_wasm.specs.Instances.{exported, exported_among, offset_of, instantiated}
use Rattle.mw_wasm.specs.Instances.{first_table, first_memory, element_fits, segment_fits, element, segment, unless}
use Rattle.mw_wasm.specs.Views.{function_of, export_of, instruction_of, list_code, element_of, segment_of, module_of}
use Rattle.mw_meaning.specs.Shapes.{Exports}
use Rattle.mw_meaning.specs.Fitting.{element_ends_in, segment_ends_in}

-- the exports before a place give no function under the name
pub record Seeking (name : List ℕ) (i : ℕ) (es : List Export) : Type 0 where
  pub from : exported_among name (map export_of es) ≡ exported_among name (map export_of (drop i es))

-- the function of an exported index has a type, or none
module _ (wasm : Module) (name : List ℕ) (i : ℕ) (g : Func)
    (e : exported (module_of wasm) name ≡ Some i) (f : slice_get wasm.funcs i ≡ Some g) where
  there : slice_get (map function_of wasm.funcs) i ≡ Some (function_of g)
  there = slice_get-map function_of wasm.funcs i ∙ rw f refl

  exports-some : (t : FuncType) → slice_get wasm.types g.kind ≡ Some t → Exports (module_of wasm) name t
  exports-some t h = record { index = i; is_exported = e; function = function_of g; is_function = there; has_type = h }

  exports-none : slice_get wasm.types g.kind ≡ None → (t : FuncType) → Exports (module_of wasm) name t → ⊥
  exports-none h t x =
      let j : x.index ≡ i = cc (x.is_exported, e) in
      let k : x.function ≡ function_of g = cc (j, x.is_function, there) in
      cc (h, k, x.has_type)

  pub exports-read : (types : List FuncType) (r : Option (Bor FuncType)) → types ≡ wasm.types → IsItemAt types g.kind r
      → MatchOption r ((t : FuncType) → Exports (module_of wasm) name t → ⊥) (λ t. Exports (module_of wasm) name t.now)
  exports-read types None s h = exports-none (ap (λ ts. slice_get ts g.kind) (sym s) ∙ slice_get_past types g.kind h.3)
  exports-read types (Some t) s h =
      exports-some t.now (ap (λ ts. slice_get ts g.kind) (sym s) ∙ slice_get_read types _ g.kind t.now refl h.3.0 h.1)

-- the types before a place are all i64
pub record WordsBefore (i : ℕ) (types : List ValType) : Type 0 where
  pub words : take i types ≡ replicate i I64

-- the offset that an expression gives: of any number of instructions but one, it is 0
pub offset-others : (code : List Instr) → (length code ≡ 1 → ⊥) → 0 ≡ offset_of (list_code code)
offset-others [] h = refl
offset-others (x ∷ []) h = absurd (h refl)
offset-others (x ∷ y ∷ code) h = refl

-- of one instruction
abbrev single : Instr → ℕ
single x = offset_of (next (instruction_of x) end)

same : {x y : Instr} → Some x ≡ Some y → x ≡ y
same e = cc

offset-one : (code : List Instr) (x : Instr) → length code ≡ 1 → slice_get code 0 ≡ Some x
    → offset_of (list_code code) ≡ single x
offset-one [] x h f = absurd (omega arith)
offset-one (y ∷ []) x h f = ap single (same f)
offset-one (y ∷ z ∷ code) x h f = absurd (omega arith)

pub offset-i32 : (code : List Instr) (x : Instr) (n : ℕ) → length code ≡ 1 → slice_get code 0 ≡ Some x
    → x ≡ instr.ConstI32 n → n ≡ offset_of (list_code code)
offset-i32 code x n h f e = sym (offset-one code x h f ∙ ap single e)

pub offset-i64 : (code : List Instr) (x : Instr) (n : ℕ) → length code ≡ 1 → slice_get code 0 ≡ Some x
    → x ≡ instr.ConstI64 n → n ≡ offset_of (list_code code)
offset-i64 code x n h f e = sym (offset-one code x h f ∙ ap single e)

pub offset-none : (code : List Instr) (x : Instr) → length code ≡ 1 → slice_get code 0 ≡ Some x
    → ((n : ℕ) → x ≡ instr.ConstI32 n → ⊥) → ((n : ℕ) → x ≡ instr.ConstI64 n → ⊥) → 0 ≡ offset_of (list_code code)
offset-none code x h f p q = sym (offset-one code x h f ∙ sym (zero_of x p q))
  where
    zero_of : (x : Instr) → ((n : ℕ) → x ≡ instr.ConstI32 n → ⊥) → ((n : ℕ) → x ≡ instr.ConstI64 n → ⊥) → 0 ≡ single x
    zero_of (instr.ConstI32 n) p q = absurd (p n refl)
    zero_of (instr.ConstI64 n) p q = absurd (q n refl)
    zero_of _ p q = refl

pub ruleset offset_laws = (offset-others, offset-i32, offset-i64, offset-none)

-- no item fails a test where all pass it
abbrev none_from : {X : Type 0} → (X → Bool) → ℕ → List X → Bool
none_from p i xs = is_none (position_from (λ x. not (p x)) i xs)

all_or_some : {X : Type 0} (p : X → Bool) (i : ℕ) (xs : List X) → none_from p i xs ≡ list_all p xs
all_or_some p i [] = refl
all_or_some p i (x ∷ xs) = by (p x) (all_or_some p (i + 1) xs)
  where
    by : (b : Bool) → none_from p (i + 1) xs ≡ list_all p xs
        → is_none (cond (not b) (Some i) (position_from (λ x. not (p x)) (i + 1) xs)) ≡ (b && list_all p xs)
    by true e = e
    by false e = refl

all_or_first : {X Y : Type 0} (p : Y → Bool) (f : X → Y) (xs : List X)
    → is_none (position (λ y. not (p y)) (map f xs)) ≡ list_all (λ x. p (f x)) xs
all_or_first p f xs =
    ap is_none (position_from-zero (λ y. not (p y)) (map f xs)) ∙ (all_or_some p 0 (map f xs) ∙ list_all-map p f xs)

-- a module has an instance where no segment is found that doesn't fit
instance_unless : (o p : Option ℕ) (st : Store)
    → is_ok (unless o element (unless p segment (Ok st))) ≡ (is_none o && is_none p)
instance_unless None None st = refl
instance_unless None (Some k) st = refl
instance_unless (Some k) p st = refl

both : {a b c d : Bool} → a ≡ b → c ≡ d → (a && c) ≡ (b && d)
both e f = cc (e, f)

module _ (wasm : Module) where
  abbrev elements_fit : Bool
  elements_fit = list_all (element_ends_in (length (first_table wasm.table))) wasm.elements

  abbrev segments_fit : Bool
  segments_fit = list_all (segment_ends_in ((first_memory wasm.memory).pages * 65536)) wasm.segments

  fits : is_ok (instantiated (module_of wasm)) ≡ (elements_fit && segments_fit)
  fits =
      let es = all_or_first (element_fits (first_table wasm.table)) element_of wasm.elements in
      let ss = all_or_first (segment_fits (first_memory wasm.memory)) segment_of wasm.segments in
      instance_unless _ _ _ ∙ both es ss

  pub instance_fits : (size bytes : ℕ) (es : List Element) (ss : List Segment) (a b : Bool)
      → size ≡ length (first_table wasm.table) → bytes ≡ (first_memory wasm.memory).pages * 65536
      → es ≡ wasm.elements → ss ≡ wasm.segments → a ≡ list_all (element_ends_in size) es
      → b ≡ list_all (segment_ends_in bytes) ss → (a && b) ≡ is_ok (instantiated (module_of wasm))
  instance_fits size bytes es ss a b e f g h i j = rw (i, j, g, h, e, f) (sym fits)
