-- What an instance begins with.
use Rattle.std.specs.List.{position_or_len}
use Rattle.std.proofs.lemmas.Grind.{common_steps}
use Rattle.std.proofs.lemmas.Bool.Decides.{nat_tests}
use Rattle.std.proofs.lemmas.List.Sums.{fails_before_first}
use Rattle.std.proofs.lemmas.List.Edits.{paste_more}
use Rattle.std.proofs.lemmas.Option.{same_Some}
use Rattle.mw_exec.proofs.Positions.{here}
use Rattle.std.proofs.Common.{◌≡◌, ◌≤◌, ◌<◌, ℕ, zero, suc, ◌+◌, ◌-◌, Bool, true, false, List, [], ◌∷◌, ◌++◌, length}
use Rattle.std.proofs.Common.{take, drop, map, refl, sym, ap, ◌∙◌, Option, Some, None, arith, get_or, set, inl}
use Rattle.std.proofs.Common.{inr}
use Rattle.std.specs.Prelude.{slice_get, not, position, nat_le, if◌then◌else◌}
use Rattle.std.specs.List.{AllByRecursion}
use Rattle.std.proofs.Math.Path.{fun_ext}
use Rattle.std.proofs.Math.Seq.{paste}
use Rattle.std.proofs.lemmas.Bool.{lt-ltb, le-ltb, le-leb, lt-leb, cases_lt}
use Rattle.std.proofs.lemmas.List.{length-map}
use Rattle.mw_wasm.specs.declared.values.Value.{Value}
use Rattle.mw_wasm.specs.declared.values.Value.TheVariants as value
use Rattle.mw_wasm.specs.declared.values.ValType.{ValType}
use Rattle.mw_wasm.specs.declared.values.ValType.TheVariants.{I32, I64}
use Rattle.mw_wasm.specs.declared.instructions.Instr.{Instr}
use Rattle.mw_wasm.specs.declared.instructions.Instr as instr
use Rattle.mw_wasm.specs.declared.modules.Limits.{Limits}
use Rattle.mw_wasm.specs.declared.modules.Module.{Module}
use Rattle.mw_wasm.specs.declared.modules.Element.{Element}
use Rattle.mw_wasm.specs.declared.modules.Segment.{Segment}
use Rattle.mw_wasm.specs.declared.modules.GlobalVar.{GlobalVar}
use Rattle.mw_wasm.specs.Syntax.{Code, const_i32, const_i64, end, next, Global}
use Rattle.mw_wasm.specs.Act.{constant}
use Rattle.mw_wasm.specs.Store.{Memory, Store, is_among}
use Rattle.mw_wasm.specs.Validity.{IsConstantOf}
use Rattle.mw_wasm.specs.Instances.{constant_expression, first_value, first_table, first_memory, offset_of}
use Rattle.mw_wasm.specs.Instances.{with_elements, with_segment, with_segments}
use Rattle.mw_wasm.specs.Views.{instruction_of, list_code, code_of, global_of, element_of, segment_of, module_of}
use Rattle.mw_validate.proofs.MappedElements.{unmapped}
use Rattle.mw_exec.specs.declared.held.Contents.{Contents}
use Rattle.mw_exec.specs.Views.{memory_of, store_of}
use Rattle.mw_exec.specs.Instancing.{first_store}
use Rattle.mw_exec.specs.Fitting.{element_test, segment_test}
use Rattle.mw_exec.specs.FirstStores.{HasFirstValue, value_of_global, IsPlaced, ArePlaced}

-- a constant expression is one constant
is_constant : (t : ValType) (c : Code) → IsConstantOf t c → (v : Value) × (constant_expression c ≡ Some v)
is_constant I32 (next (const_i32 n) end) h = (value.I32 n, refl)
is_constant I64 (next (const_i64 n) end) h = (value.I64 n, refl)
is_constant I32 c h = absurd h
is_constant I64 c h = absurd h

first_constant : (code : List Instr) (x : Instr) (v : Value) → slice_get code 0 ≡ Some x
    → constant_expression (list_code code) ≡ Some v → constant (instruction_of x) ≡ Some v
first_constant (y ∷ []) x v e f = ap (λ z. constant (instruction_of z)) (sym (same_Some y x e)) ∙ f
first_constant code x v e f = absurd (cc)

pub one_there : (t : ValType) (xs : List Instr) → IsConstantOf t (list_code xs) → 0 < length xs
one_there t (x ∷ xs) h = omega arith
one_there I32 [] h = absurd h
one_there I64 [] h = absurd h

module _ (g : GlobalVar) (h : HasFirstValue g) (x : Instr) (e : slice_get g.init.inner.items 0 ≡ Some x) where
  pub is_one : (v : Value) × (constant_expression (code_of g.init) ≡ Some v) × (constant (instruction_of x) ≡ Some v)
  is_one = let c = is_constant g.kind (code_of g.init) h in
      (c.0, c.1, first_constant g.init.inner.items x c.0 e c.1)

  pub value_is : (v : Value) → constant (instruction_of x) ≡ Some v → v ≡ value_of_global g
  value_is v f = same_Some v _ (sym f ∙ is_one.2) ∙ sym (rw is_one.1 refl)

-- no other instruction is a constant
pub no_constant : (x : Instr) (v : Value) → ((n : ℕ) → x ≡ instr.ConstI32 n → ⊥) → ((n : ℕ) → x ≡ instr.ConstI64 n → ⊥)
    → constant (instruction_of x) ≡ Some v → ⊥
no_constant (instr.ConstI32 n) v p q e = p n refl
no_constant (instr.ConstI64 n) v p q e = q n refl
no_constant x v p q e = absurd (cc)

-- where no item passes a test, none at a place does
no_item : {X : Type 0} (test : X → Bool) (xs : List X) (i : ℕ) (x : X) → position test xs ≡ None → i < length xs
    → x ≡ get_or xs i x → test x ≡ false
no_item test xs i x e lt f =
    let past : length xs ≤ position_or_len test xs = grind (arith, common_steps) in
    ap test f ∙ fails_before_first test xs i x (omega arith)

inside : (a size : ℕ) → not (nat_le a size) ≡ false → a ≤ size
inside a size e = grind (arith, nat_tests)

pub element_inside : (es : List Element) (size i : ℕ) (e : Element) → position (element_test size) es ≡ None
    → i < length es → e ≡ get_or es i e → offset_of (code_of e.offset) + length e.funcs ≤ size
element_inside es size i e none lt f = inside _ size (no_item (element_test size) es i e none lt f)

pub segment_inside : (ss : List Segment) (size i : ℕ) (s : Segment) → position (segment_test size) ss ≡ None
    → i < length ss → s ≡ get_or ss i s → offset_of (code_of s.offset) + length s.bytes ≤ size
segment_inside ss size i s none lt f = inside _ size (no_item (segment_test size) ss i s none lt f)

pub pasted_more : {X : Type 0} (old now ys : List X) (at i : ℕ) (xs : List X) (x d : X) → now ≡ paste old at xs i
    → at + length xs ≤ length old → i < length xs → x ≡ get_or xs i d → ys ≡ set now (at + i) x
    → ys ≡ paste old at xs (i + 1)
pasted_more old now ys at i xs x d e le lt f g =
    rw (g, f, e) (paste_more old at xs i d (omega arith) lt)

module _ {X : Type 0} (ys : List X) (at : ℕ) (xs : List X) (le : at + length xs ≤ length ys) where
  abbrev placed : List X
  placed = take at ys ++ xs ++ drop (at + length xs) ys

  length_placed : length placed ≡ length ys
  length_placed = grind (arith, common_steps)

  placed_below : (a : ℕ) (d : X) → a < at → get_or placed a d ≡ get_or ys a d
  placed_below a d lt = grind (arith, common_steps)

  placed_inside : (a : ℕ) (d : X) → at ≤ a → a < at + length xs → get_or placed a d ≡ get_or xs (a - at) d
  placed_inside a d ge lt = grind (arith, common_steps)

  placed_above : (a : ℕ) (d : X) → at + length xs ≤ a → get_or placed a d ≡ get_or ys a d
  placed_above a d ge = grind (arith, common_steps)

within : (at k a : ℕ) → at ≤ a → a < at + k → is_among k at a ≡ true
within at k a ge lt = rw (le-leb at a ge, lt-ltb a (at + k) lt) refl

below : (at k a : ℕ) → a < at → is_among k at a ≡ false
below at k a lt = rw (lt-leb at a lt) refl

past : (at k a : ℕ) → at + k ≤ a → is_among k at a ≡ false
past at k a ge = rw (le-leb at a (omega arith), le-ltb a (at + k) ge) refl

pub placed_bytes : (at : ℕ) (segment old mid new : List ℕ) → ((a : ℕ) → get_or mid a 0 ≡ get_or old a 0)
    → at + length segment ≤ length mid
    → new ≡ take at mid ++ segment ++ drop (at + length segment) mid → IsPlaced at segment old new
placed_bytes at segment old mid new same le e = record { byte = byte }
  where
    byte : (a : ℕ) → get_or new a 0
        ≡ (if is_among (length segment) at a then get_or segment (a - at) 0 else get_or old a 0)
    byte a = ap (λ zs. get_or zs a 0) e ∙ elim (cases_lt a at) [
      | inl lt ↦ placed_below mid at segment le a 0 lt ∙ (same a ∙ sym (rw (below at (length segment) a lt) refl))
      | inr ge ↦ elim (cases_lt a (at + length segment)) [
        | inl lt ↦ placed_inside mid at segment le a 0 ge lt ∙ sym (rw (within at (length segment) a ge lt) refl)
        | inr far ↦ placed_above mid at segment le a 0 far ∙ (same a ∙ sym (rw (past at (length segment) a far) refl))
      ]
    ]

pub placed_nothing : (at : ℕ) (segment old : List ℕ) → length segment ≡ 0 → IsPlaced at segment old old
placed_nothing at segment old e =
    record { byte = λ a. sym (ap (λ b. if b then get_or segment (a - at) 0 else get_or old a 0) (none a)) }
  where
    none : (a : ℕ) → is_among (length segment) at a ≡ false
    none a = elim (cases_lt a at) [
      | inl lt ↦ below at (length segment) a lt
      | inr ge ↦ past at (length segment) a
          (omega arith)
    ]

abbrev memory_at : ℕ → (ℕ → ℕ) → Memory
memory_at n f = record { pages = n; byte_at = f }

abbrev store_with : List Value → List (Option ℕ) → Memory → Store
store_with gs ts m = record { globals = gs; table = ts; memory = m }

-- one segment of a memory, and then the others
pub segment_memory : (s : Segment) (old new : List ℕ) (pages : ℕ) → IsPlaced (offset_of (code_of s.offset)) s.bytes old
    new → with_segment (memory_of pages old) (segment_of s) ≡ memory_of pages new
segment_memory s old new pages p = ap (λ f. memory_at pages f) (sym (fun_ext p.byte))

-- the data segments before a place are written
pub record PlacingSegments (size i : ℕ) (ss : List Segment) (old now : List ℕ) : Type 0 where
  pub placed : (pages : ℕ) → with_segments (memory_of pages old) (map segment_of ss)
      ≡ with_segments (memory_of pages now) (map segment_of (drop i ss))
  pub short : length now ≤ size

pub segments_more : (size i : ℕ) (ss : List Segment) (s : Segment) (old now new : List ℕ)
    → PlacingSegments size i ss old now → i < length ss → s ≡ get_or ss i s → IsPlaced (offset_of (code_of s.offset))
    s.bytes now new → length new ≤ size → PlacingSegments size (i + 1) ss old new
segments_more size i ss s old now new p lt e is le = record {
  placed = λ pages. p.placed pages
      ∙ (ap (λ xs. with_segments (memory_of pages now) (map segment_of xs)) (here ss i s lt e)
      ∙ ap (λ m. with_segments m (map segment_of (drop (i + 1) ss))) (segment_memory s now new pages is));
  short = le;
}

-- the element segments before a place are written
pub record PlacingElements (i : ℕ) (es : List Element) (old now : List (Option ℕ)) : Type 0 where
  pub placed : with_elements old (map element_of es) ≡ with_elements now (map element_of (drop i es))
  pub long : length now ≡ length old

pub elements_more : (i : ℕ) (es : List Element) (e : Element) (old now new : List (Option ℕ))
    → PlacingElements i es old now → i < length es → e ≡ get_or es i e → offset_of (code_of e.offset) + length e.funcs
    ≤ length old
    → new ≡ take (offset_of (code_of e.offset)) now ++ map (λ f. Some f) e.funcs
    ++ drop (offset_of (code_of e.offset) + length e.funcs) now → PlacingElements (i + 1) es old new
elements_more i es e old now new p lt f le is = record {
  placed = p.placed
      ∙ (ap (λ xs. with_elements now (map element_of xs)) (here es i e lt f)
      ∙ ap (λ t. with_elements t (map element_of (drop (i + 1) es))) (sym is));
  long = rw (is, sym (length-map e.funcs (λ f. Some f)))
      (length_placed now (offset_of (code_of e.offset)) (map (λ f. Some f) e.funcs)
      (omega (arith, length-map e.funcs (λ f. Some f), p.long)) ∙ p.long);
}

pub mapped_globals : (gs : List GlobalVar) → map first_value (map global_of gs) ≡ map value_of_global gs
mapped_globals [] = refl
mapped_globals (g ∷ gs) = ap (λ vs. value_of_global g ∷ vs) (mapped_globals gs)

pub globals_have_values : (gs : List GlobalVar) → AllByRecursion (λ (g : Global). IsConstantOf g.kind g.init)
    (map global_of gs) → AllByRecursion HasFirstValue gs
globals_have_values gs all = unmapped (λ (g : Global). IsConstantOf g.kind g.init) global_of gs all

-- the same through the program's numbers and slices
pub at_most : (a b : ℕ) (xs ys : List ℕ) (n k : ℕ) → a ≡ b → xs ≡ ys → n ≡ k → b + length ys ≤ k → a + length xs ≤ n
at_most a b xs ys n k e f g le = rw (e, f, g) le

pub placed_from : (a b : ℕ) (xs ys : List ℕ) (now new : List (Option ℕ)) → a ≡ b → xs ≡ ys → new ≡ take a now
    ++ map (λ f. Some f) xs ++ drop (a + length xs) now → new ≡ take b now ++ map (λ f. Some f) ys
    ++ drop (b + length ys) now
placed_from a b xs ys now new e f g = rw (sym e, sym f) g

pub is_placed_from : (a b : ℕ) (xs ys old new : List ℕ) → a ≡ b → xs ≡ ys → IsPlaced a xs old new
    → IsPlaced b ys old new
is_placed_from a b xs ys old new e f p = rw (sym e, sym f) p

no_bytes : (a : ℕ) → (memory_of 0 []).byte_at a ≡ (first_memory None).byte_at a
no_bytes zero = refl
no_bytes (suc a) = refl

-- no bytes stored are all zeros
empty_memory : (limits : Option Limits) → memory_of (first_memory limits).pages [] ≡ first_memory limits
empty_memory None = ap (λ f. memory_at 0 f) (fun_ext no_bytes)
empty_memory (Some l) = ap (λ f. memory_at l.min f) (fun_ext no_bytes)

same_store : (gs hs : List Value) (ts us : List (Option ℕ)) (m n : Memory) → gs ≡ hs → ts ≡ us → m ≡ n
    → store_with gs ts m ≡ store_with hs us n
same_store gs hs ts us m n e f g = rw (e, f, g) refl

pub begun : (wasm : Module) (h : Contents) (gs : List GlobalVar) (es : List Element) (ss : List Segment)
    (table : List (Option ℕ)) (bytes : List ℕ)
    → gs ≡ wasm.globals → h.globals.items ≡ map value_of_global gs
    → es ≡ wasm.elements → table ≡ first_table wasm.table → h.table.items ≡ with_elements table (map element_of es)
    → ss ≡ wasm.segments → bytes ≡ [] → ArePlaced ss bytes h.bytes.items → h.pages ≡ (first_memory wasm.memory).pages
    → store_of h ≡ first_store (module_of wasm)
begun wasm h gs es ss table bytes ge gi ee te ti se be placed pe = same_store h.globals.items _ h.table.items _
    (memory_of h.pages h.bytes.items) _
    (rw (gi, ge) (sym (mapped_globals wasm.globals))) (rw (ti, te, ee) refl)
    (sym (placed.memory h.pages) ∙ rw (se, be, pe) (ap (λ m. with_segments m (map segment_of wasm.segments))
    (empty_memory wasm.memory)))
