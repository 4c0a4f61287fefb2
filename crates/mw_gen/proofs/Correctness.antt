-- The reduction of the code means what the intermediate language means, in both versions.
use Rattle.std.proofs.Common.{◌≡◌, ℕ, zero, suc, ◌+◌, ◌≤◌, ◌<◌, Bool, true, false, List, [], ◌∷◌, ◌++◌, length, Option}
use Rattle.std.proofs.Common.{Some, refl, ap, ◌∙◌, sym, subst, arith, length-append, map, replicate, option_map}
use Rattle.std.proofs.Common.{if◌then◌else◌}
use Rattle.std.specs.Prelude.{ℤ, pos, negsuc, slice_get, slice_set, ◌==◌, ◌*◌, ◌^◌}
use Rattle.std.proofs.lemmas.List.{length-replicate, length-map}
use Rattle.std.proofs.lemmas.Bool.{eqb-true}
use Rattle.std.proofs.lemmas.Option.{slice_get-map}
use Rattle.std.proofs.lemmas.Int.{fits_signed_from_abs}
use mir.Syntax.{w64}
use Rattle.mw_term.specs.Terms.{KernelType}
use Rattle.mw_wasm.specs.declared.values.Value.{Value as WasmValue}
use Rattle.mw_wasm.specs.declared.values.Value.TheVariants.{I32, I64}
use Rattle.mw_wasm.specs.declared.values.ValType.TheVariants as type
use Rattle.mw_wasm.specs.Syntax.{Code, next, end, loop, br, call_indirect, Function, PureModule}
use Rattle.mw_wasm.specs.Store.{Memory, Store, zero_of}
use Rattle.mw_wasm.specs.Redex.{Around, in_label, in_frame, spends, at, branch, run, follow}
use Rattle.mw_wasm.specs.Execution.{End}
use Rattle.mw_wasm.specs.Act.{called_at}
use Rattle.mw_wasm.specs.Act.{calls as calls_act}
use Rattle.std.specs.Prelude.{nat_le}
use Rattle.std.proofs.lemmas.Bool.{le-leb}
use Rattle.std.proofs.lemmas.Option.{slice_get_within}
use Rattle.std.proofs.Common.{append-nil}
use Rattle.mw_ir.specs.declared.place.Place.{Place}
use Rattle.mw_ir.specs.declared.place.Place.TheVariants.{Own}
use Rattle.mw_ir.specs.Ir as i
use Rattle.mw_ir.specs.Ir.{Ir, IrFunc, Frame, inside, with_slot, read, read_all, load, value, calls, applied}
use Rattle.mw_ir.specs.Ir.{function_at}
use Rattle.mw_conv.specs.Represents.{Grows}
use Rattle.mw_conv.proofs.Heaps.{grows_same, grows_on, grows_append, load_grows}
use Rattle.mw_key.specs.declared.version.Version.{Version}
use Rattle.mw_gen.specs.Generate.{wants_spare, tail_wants_spare, spare_count, address_code, expression_code}
use Rattle.mw_gen.specs.Generate.{tail_code, is_own, application_code, body_wants_spare, body_code, is_loop}
use Rattle.mw_gen.specs.Generate.{function_for, counting, closure_type, module_with}
use Rattle.mw_gen.proofs.Slots.{slots_needed}
use Rattle.mw_gen.proofs.Words.{Small, Keeps}
use Rattle.mw_gen.proofs.Locals.{word, Room, room_set, Fits, fits_past, fits_slot, fits_front, set_length, set_same}
use Rattle.mw_gen.proofs.Locals.{set_above, set_other}
use Rattle.mw_gen.proofs.Loads.{loaded}
use Rattle.mw_gen.proofs.RunAnswers.{Says, then_says, found_says, along}
use Rattle.mw_gen.proofs.Stores.{Run as RunIn, law as rule, get_local as got_local, set_local as put_local}
use Rattle.mw_gen.proofs.Stores.{tee_local as teed_local, place_run, one_store, all_stored, stores_says, raised}
use Rattle.mw_gen.proofs.Stores.{store_at, also_some}
use Rattle.mw_gen.proofs.Primitives.{prim_says, chosen_says, truth_small, truth_bits}
use Rattle.mw_conv.proofs.Heaps.{get_append}
use Rattle.mw_meaning.proofs.Replacement.{or_left, or_right}
pub use Rattle.mw_gen.specs.Keeping.{some, table_of}

-- literals of 64 bits, and function numbers of 32
abbrev pub Fine : Ir → Type 0
Fine (i.num z) = Small z
Fine (i.truth c) = Unit {0}
Fine (i.get p) = Unit {0}
Fine (i.closure k ps) = k < 2 ^ 32
Fine (i.app f a) = Fine f × Fine a
Fine (i.bind s d e) = Fine d × Fine e
Fine (i.cond c x y) = Fine c × Fine x × Fine y
Fine (i.pair x y) = Fine x × Fine y
Fine (i.fst e) = Fine e
Fine (i.snd e) = Fine e
Fine (i.prim p x y) = Fine x × Fine y

-- each function's body is fine and has its slots
abbrev pub Sound : List IrFunc → Type 0
Sound t = (k : ℕ) (f : IrFunc) → slice_get t k ≡ Some f → (k < 2 ^ 32) × Fine f.body × (slots_needed f.body ≤ f.slots)

counted : (k n j : ℕ) → j < n → slice_get (counting k n) j ≡ Some (k + j)
counted k zero j lt = absurd (omega arith)
counted k (suc n) zero lt = let e : k ≡ k + 0 = omega arith in ap Some e
counted k (suc n) (suc j) lt = counted (suc k) n j (omega arith)
    ∙ (let e : suc k + j ≡ k + suc j = omega arith in ap Some e)

table_at : (t : List IrFunc) (j : ℕ) (f : IrFunc) → slice_get t j ≡ Some f → slice_get (table_of t) j ≡ Some (Some j)
table_at t j f e = slice_get-map some (counting 0 (length t)) j ∙ ap (λ o. option_map some o)
    (counted 0 (length t) j (slice_get_within t j f e) ∙ (let q : 0 + j ≡ j = omega arith in ap Some q))

func_at : (v : Version) (t : List IrFunc) (more : List Function) (j : ℕ) (f : IrFunc) → slice_get t j ≡ Some f
    → slice_get (map (function_for v) t ++ more) j ≡ Some (function_for v f)
func_at v t more j f e = get_append (map (function_for v) t) more j (function_for v f)
    (slice_get-map (function_for v) t j ∙ ap (λ o. option_map (function_for v) o) e)

pub pos_small : (a : ℕ) → a < 2 ^ 63 → Small (pos a)
pos_small a lt = fits_signed_from_abs w64 (pos a) lt

read_all_length : (h : List ℤ) (fr : Frame) (ps : List Place) (ws : List ℤ) → read_all h fr ps ≡ Some ws → length ws
    ≡ length ps
read_all_length h fr [] ws e = let q : [] ≡ ws = (cc) in subst (λ z. length z ≡ 0) q refl
read_all_length h fr (p ∷ ps) ws e =
    let r = also_some (read h fr p) (read_all h fr ps) ws e in
    omega (arith, read_all_length h fr ps r.1 r.3, ap length r.4)

-- further locals, of 64 bits
abbrev pub zeros : ℕ → List WasmValue
zeros n = map zero_of (replicate n type.I64)

pub zeros_length : (n : ℕ) → length (zeros n) ≡ n
zeros_length n = length-map (replicate n type.I64) zero_of ∙ length-replicate n type.I64

-- d ifs at tail places
abbrev pub nested : ℕ → List Around → List Around
nested zero around = around
nested (suc d) around = in_label 1 end [] end ∷ nested d around

nested_branch : (d : ℕ) (st : Store) (ls vs us : List WasmValue) (x : _) (c rest : Code) (around : List Around)
    → branch d st ls vs (nested d (in_label 0 (next x c) us rest ∷ around))
    ≡ spends (at st ls us (Rattle.mw_wasm.specs.Redex.followed_by (next x c) rest) around)
nested_branch zero st ls vs us x c rest around = refl
nested_branch (suc d) st ls vs us x c rest around = nested_branch d st ls vs us x c rest around

pub own_is : (f : Ir) → is_own f ≡ true → f ≡ i.get Own
own_is (i.get Own) e = refl
own_is _ e = absurd (cc)

-- the locals of a function hold its closure and its argument
fits_inside : (u w : ℤ) (ls : List WasmValue) → slice_get ls 0 ≡ Some (word u) → slice_get ls 1 ≡ Some (word w)
    → Small u → Small w → Fits 2 (inside u w) ls
fits_inside u w ls e0 e1 su sw = record {
  argument = λ x p. let q : w ≡ x = (cc) in (omega arith, e1 ∙ ap (λ z. Some (word z)) q, subst (λ z. Small z) q sw);
  own = λ x p. let q : u ≡ x = (cc) in (omega arith, e0 ∙ ap (λ z. Some (word z)) q, subst (λ z. Small z) q su);
  slots = λ j x p. absurd (cc);
}

-- The module has the functions of the code, each under its number, and their type first. Nothing else is said of it.
pub record Carries (v : Version) (t : List IrFunc) (m : PureModule) : Type 0 where
  pub funcs : (j : ℕ) (f : IrFunc) → slice_get t j ≡ Some f → slice_get m.funcs j ≡ Some (function_for v f)
  pub type0 : slice_get m.types 0 ≡ Some closure_type

-- a kernel's own module does
pub carries_alone : (v : Version) (t : List IrFunc) (slots : ℕ) (body : Ir) (k : KernelType)
    → Carries v t (module_with v t slots body k)
carries_alone v t slots body k = record { funcs = λ j f e. func_at v t _ j f e; type0 = refl }

module _ (v : Version) (t : List IrFunc) (M : PureModule) (carries : Carries v t M) (sound : Sound t) where
  abbrev pub Run : ℕ → List ℤ → Memory → List WasmValue → List WasmValue → Code → List Around → End
  Run n h mem ls vs c around = RunIn M (table_of t) n h mem ls vs c around

  abbrev pub Value : ℕ → Ir → ℕ → List ℤ → Frame → i.Ended
  Value b e n h fr = value t (λ n h fr e. calls t b n h fr e) e n h fr

  -- the run after a value, wherever the locals hold the frame and the memory the heap
  abbrev pub Then : List ℤ → ℕ → Frame → Bool → ℕ → Option WasmValue → List WasmValue → Code → List Around
      → (ℤ → ℕ → List ℤ → End → Type 0) → Type 0
  Then h0 b fr u r a vs rest around Q = (w : ℤ) (l : ℕ) (h : List ℤ) (mem : Memory) (ls : List WasmValue) → Grows h0 h
      → Small w → Fits b fr ls → Room u r a ls → Keeps h mem → Q w l h (Run l h mem ls (word w ∷ vs) rest around)

  abbrev pub Right : ℕ → Ir → Type 1
  Right c e = (n b s : ℕ) (t2 : Bool) (a : Option WasmValue) (fr : Frame) (h : List ℤ) (mem : Memory)
      (ls vs : List WasmValue) (rest : Code) (around : List Around) (Q : ℤ → ℕ → List ℤ → End → Type 0) → Fine e
      → slots_needed e ≤ s → (wants_spare e ≡ true → t2 ≡ true) → length fr.slots ≤ s → Room t2 (b + s) a ls
      → Fits b fr ls → Keeps h mem → Then h b fr t2 (b + s) a vs rest around Q
      → Says (Value c e n h fr) Q (Run n h mem ls vs (expression_code e b (b + s) rest) around)

  -- the run after a value, whatever the locals
  abbrev pub After : List ℤ → List WasmValue → List WasmValue → Code → List Around → (ℤ → ℕ → List ℤ → End → Type 0)
      → Type 0
  After h0 ks vs rest around Q = (w : ℤ) (l : ℕ) (h : List ℤ) (mem : Memory) → Grows h0 h → Small w → Keeps h mem
      → Q w l h (Run l h mem ks (word w ∷ vs) rest around)

  abbrev pub AnyAfter : List ℤ → List Around → (ℤ → ℕ → List ℤ → End → Type 0) → Type 0
  AnyAfter h0 around Q = (w : ℤ) (l : ℕ) (h : List ℤ) (mem : Memory) (ls : List WasmValue) → Grows h0 h → Small w
      → Keeps h mem → Q w l h (Run l h mem ls (word w ∷ []) end around)

  -- the locals of a function of the code when it is entered
  abbrev pub entry : Bool → IrFunc → ℤ → ℤ → List WasmValue
  entry z fn u w = word u ∷ word w ∷ zeros (fn.slots + spare_count (body_wants_spare z fn.body))

  -- a function's body, entered by a call, as a loop or not
  abbrev pub Entered : ℕ → Type 1
  Entered c = (z : Bool) (l : ℕ) (fn : IrFunc) (j : ℕ) (u w : ℤ) (h : List ℤ) (mem : Memory) (ks vs : List WasmValue)
      (rest : Code) (around : List Around) (Q : ℤ → ℕ → List ℤ → End → Type 0) → slice_get t j ≡ Some fn → load h u 0
      ≡ Some (pos j) → Small u → Small w → Keeps h mem → After h ks vs rest around Q
      → Says (calls t c l h (inside u w) fn.body) Q
      (Run l h mem (entry z fn u w) [] (body_code z fn.body (2 + fn.slots))
      (in_label 1 end [] end ∷ in_frame 1 ks vs rest ∷ around))

  abbrev pub the_loop : IrFunc → Code
  the_loop fn = tail_code fn.body 2 (2 + fn.slots) 0

  abbrev pub loop_label : IrFunc → Around
  loop_label fn = in_label 0 (next (loop (Some type.I64) (the_loop fn)) end) [] end

  -- the body of a loop, entered from its start
  abbrev pub Looped : ℕ → Type 1
  Looped c = (l : ℕ) (fn : IrFunc) (j : ℕ) (u w : ℤ) (t2 : Bool) (a : Option WasmValue) (h : List ℤ) (mem : Memory)
      (ls : List WasmValue) (outer : List Around) (Q : ℤ → ℕ → List ℤ → End → Type 0) → slice_get t j
      ≡ Some fn → load h u 0 ≡ Some (pos j) → (tail_wants_spare fn.body ≡ true → t2 ≡ true)
      → Room t2 (2 + fn.slots) a ls → Fits 2 (inside u w) ls → Keeps h mem → AnyAfter h outer Q
      → Says (calls t c l h (inside u w) fn.body) Q (Run l h mem ls [] (the_loop fn) (loop_label fn ∷ outer))

  law : (n : ℕ) (c : _) → run M n c ≡ follow (Rattle.mw_wasm.specs.Redex.reduce M c) c.store n (run M n) (run M)
  law n c = rule M (table_of t) n c

  entered_is : (j : ℕ) (fn : IrFunc) (u w : ℤ) (vs : List WasmValue) → slice_get t j ≡ Some fn → called_at M 0
      (Some (Some j)) (word w ∷ word u ∷ vs) ≡ calls_act 1 (entry (is_loop v fn.body) fn u w)
      (body_code (is_loop v fn.body) fn.body (2 + fn.slots)) vs
  entered_is j fn u w vs g =
      let e : nat_le 2 (suc (suc (length vs))) ≡ true = le-leb _ _ (omega arith) in
      rw (carries.funcs j fn g) (rw carries.type0 (rw e refl))

  -- a call through the table
  applies : (c q : ℕ) (h : List ℤ) (mem : Memory) (ls : List WasmValue) (u w : ℤ) (vs : List WasmValue) (rest : Code)
      (around : List Around) (Q : ℤ → ℕ → List ℤ → End → Type 0) (r : ℕ) → Entered c → suc r < length ls → Keeps h mem
      → Small u → Small w → After h (slice_set (slice_set ls (suc r) (word w)) r (word u)) vs rest around Q
      → Says (applied t u w (λ n h fr e. calls t c n h fr e) q h) Q
      (Run q h mem ls (word w ∷ word u ∷ vs) (application_code r rest) around)
  applies c q h mem ls u w vs rest around Q r body room me su sw after = found_says λ y e. callee y e
    where
      ls1 : List WasmValue
      ls1 = slice_set ls (suc r) (word w)

      called : (q : ℕ) (fn : IrFunc) (j : ℕ) → slice_get t j ≡ Some fn → load h u 0 ≡ Some (pos j)
          → Says (i.spending q λ n. calls t c n h (inside u w) fn.body) Q
          (Run q h mem (slice_set (slice_set ls (suc r) (word w)) r (word u)) (I32 j ∷ word w ∷ word u ∷ vs)
          (next (call_indirect 0) rest) around)
      called zero fn j g e = record { says = law zero _ ∙ rw (table_at t j fn g, entered_is j fn u w vs g) refl }
      called (suc l) fn j g e =
          along {F = Run l h mem (entry (is_loop v fn.body) fn u w) []
          (body_code (is_loop v fn.body) fn.body (2 + fn.slots))
          (in_label 1 end [] end ∷ in_frame 1 (slice_set (slice_set ls (suc r) (word w)) r (word u)) vs rest
          ∷ around)} (law (suc l) _ ∙ rw (table_at t j fn g, entered_is j fn u w vs g) refl)
          (body (is_loop v fn.body) l fn j u w h mem _ vs rest around Q g e su sw me after)

      callee : (y : ℤ) → load h u 0 ≡ Some y
          → Says (i.found (function_at t y) λ f. i.spending q λ n. calls t c n h (inside u w) f.body) Q
          (Run q h mem ls (word w ∷ word u ∷ vs) (application_code r rest) around)
      callee (negsuc j) e = record { says = tt }
      callee (pos j) e = found_says λ fn g.
          let d = loaded h h mem u 0 (pos j) me (λ k z g. g) e in
          let g0 : slice_get (slice_set (slice_set ls (suc r) (word w)) r (word u)) r ≡ Some (word u) =
          set_same (slice_set ls (suc r) (word w)) r (word u) (omega (arith, set_length ls (suc r) (word w))) in
          let g1 : slice_get (slice_set (slice_set ls (suc r) (word w)) r (word u)) (suc r) ≡ Some (word w) =
          set_above (slice_set ls (suc r) (word w)) r (suc r) (word u) (word w) (omega arith)
          (set_same ls (suc r) (word w) room) in
          along {F = Run q h mem (slice_set (slice_set ls (suc r) (word w)) r (word u)) (I32 j ∷ word w ∷ word u ∷ vs)
          (next (call_indirect 0) rest) around}
          (put_local M (table_of t) q (suc r) (word w) _ ls _ _ _ room
          ∙ (teed_local M (table_of t) q r (word u) _ (slice_set ls (suc r) (word w)) _ _ _
          (omega (arith, set_length ls (suc r) (word w)))
          ∙ (got_local M (table_of t) q _ _ _ _ _ _ _ g1
          ∙ (got_local M (table_of t) q _ _ _ _ _ _ _ g0
          ∙ (law q _ ∙ (law q _ ∙ rw (d.half_inside, d.half ((sound j fn g).0)) refl))))))
          (called q fn j g e)

  -- code that stands at no tail place, where calls of c units are known
  pub correct : (c : ℕ) → Entered c → (e : Ir) → Right c e
  correct c body (i.num z) n b s t2 a fr h mem ls vs rest around Q fine nd us sl room f me k =
      along (law n _) (record { says = k z n h mem ls (grows_same h) fine f room me })
  correct c body (i.truth z) n b s t2 a fr h mem ls vs rest around Q fine nd us sl room f me k =
      along (law n _ ∙ ap (λ v. Run n h mem ls (I64 v ∷ vs) rest around) (truth_bits z))
      (record { says = k _ n h mem ls (grows_same h) (truth_small z) f room me })
  correct c body (i.get p) n b s t2 a fr h mem ls vs rest around Q fine nd us sl room f me k = found_says λ w e.
      let r = place_run M (table_of t) n _ h h mem b fr ls p w me (λ k z g. g) f e vs rest around in
      along r.0 (record { says = k w n h mem ls (grows_same h) r.1 f room me })
  correct c body (i.closure j ps) n b s t2 a fr h mem ls vs rest around Q fine nd us sl room f me k = found_says λ ws e.
      let me0 : Keeps (h ++ []) mem = rw (append-nil h) me in
      let js = pos_small j (omega (arith, fine)) in
      let l : suc (length ps) ≡ length (pos j ∷ ws) = ap suc (sym (read_all_length h fr ps ws e)) in
      along (law n _ ∙ law n _)
      (one_store M (table_of t) n h [] ws (pos j) mem ls vs _ around _ Q me0 js λ mem me.
      stores_says M (table_of t) n h ps (pos j ∷ []) ws mem b fr ls vs _ around _ Q me f e λ mem me.
      along (ap (λ q. Run n h mem ls vs (address_code (8 * q) rest) around) l ∙ raised M (table_of t) n h (pos j ∷ ws)
      mem ls vs rest around me)
      (record {
        says = k (pos (8 * length h)) n (h ++ pos j ∷ ws) mem ls (grows_append h _)
            (pos_small _ (omega (arith, length-append h (pos j ∷ ws), me.few))) f room me;
      }))
  correct c body (i.app x y) n b s t2 a fr h mem ls vs rest around Q fine nd us sl room f me k =
      then_says (correct c body x n b s t2 a fr h mem ls vs _ around _ fine.0 (omega arith) (λ q. us refl) sl room f me
      λ u l h1 mem ls g1 su f room me.
      then_says (correct c body y l b s t2 a fr h1 mem ls (word u ∷ vs) _ around _ fine.1 (omega arith) (λ q. us refl)
      sl room f me λ w q h2 mem ls g2 sw f room me.
      applies c q h2 mem ls u w vs rest around Q (b + s) body (room.long (us refl)) me su sw λ z l2 h3 mem3 g3 sz me3.
      let ls1 = slice_set ls (suc (b + s)) (word w) in
      k z l2 h3 mem3 _ (grows_on h h1 h3 g1 (grows_on h1 h2 h3 g2 g3)) sz
      (fits_past b fr ls1 (b + s) (word u) (omega arith) (fits_past b fr ls (suc (b + s)) (word w) (omega arith) f))
      (room_set t2 (b + s) a ls1 (b + s) (word u) (omega arith)
      (room_set t2 (b + s) a ls (suc (b + s)) (word w) (omega arith) room)) me3))
  correct c body (i.bind j d e) n b s t2 a fr h mem ls vs rest around Q fine nd us sl room f me k =
      (elim (length fr.slots == j) as
      (λ q. (length fr.slots == j) ≡ q
      → Says (i.in_turn q (i.and_then (Value c d n h fr) λ w n h. Value c e n h (with_slot fr w))) Q
      (Run n h mem ls vs (expression_code (i.bind j d e) b (b + s) rest) around)) [
        | true ↦ λ q.
            let same : length fr.slots ≡ j = eqb-true _ _ q in
            then_says (correct c body d n b s t2 a fr h mem ls vs _ around _ fine.0 (omega arith)
            (λ q. us (or_left (wants_spare d) (wants_spare e) q)) sl room f me λ w l h1 mem ls g1 sw f room me.
            along (put_local M (table_of t) l (b + j) (word w) _ ls vs _ around (omega (arith, room.enough))
            ∙ ap (λ j. Run l h1 mem (slice_set ls (b + j) (word w)) vs (expression_code e b (b + s) rest) around)
            (sym same))
            (correct c body e l b s t2 a (with_slot fr w) h1 mem (slice_set ls (b + length fr.slots) (word w)) vs rest
            around Q fine.1 (omega arith) (λ q. us (or_right (wants_spare d) (wants_spare e) q))
            (omega (arith, length-append fr.slots (w ∷ [])))
            (room_set t2 (b + s) a ls (b + length fr.slots) (word w) (omega arith) room)
            (fits_slot b fr ls w (omega (arith, room.enough)) sw f) me λ u q h2 mem ls g2 su g room me.
            k u q h2 mem ls (grows_on h h1 h2 g1 g2) su (fits_front b fr ls w g) room me))
        | false ↦ λ q. record { says = tt }
      ]) refl
  correct c body (i.cond x y z) n b s t2 a fr h mem ls vs rest around Q fine nd us sl room f me k =
      then_says (correct c body x n b s t2 a fr h mem ls vs _ around _ fine.0 (omega arith)
      (λ q. us (or_left (wants_spare x) _ q)) sl room f me λ w l h1 mem ls g1 sw f room me.
      chosen_says M (table_of t) l h1 mem ls w vs _ _ rest around _ _ Q
      (correct c body y l b s t2 a fr h1 mem ls [] end _ Q fine.1 (omega arith)
      (λ q. us (or_right (wants_spare x) _ (or_left (wants_spare y) (wants_spare z) q))) sl room f me
      λ u q h2 mem ls g2 su f room me. subst (Q u q h2) (sym (law q _))
      (k u q h2 mem ls (grows_on h h1 h2 g1 g2) su f room me))
      (correct c body z l b s t2 a fr h1 mem ls [] end _ Q fine.2 (omega arith)
      (λ q. us (or_right (wants_spare x) _ (or_right (wants_spare y) (wants_spare z) q))) sl room f me
      λ u q h2 mem ls g2 su f room me. subst (Q u q h2) (sym (law q _))
      (k u q h2 mem ls (grows_on h h1 h2 g1 g2) su f room me)))
  correct c body (i.pair x y) n b s t2 a fr h mem ls vs rest around Q fine nd us sl room f me k =
      then_says (correct c body x n b s t2 a fr h mem ls vs _ around _ fine.0 (omega arith) (λ q. us refl) sl room f me
      λ u l h1 mem ls g1 su f room me.
      then_says (correct c body y l b s t2 a fr h1 mem ls (word u ∷ vs) _ around _ fine.1 (omega arith) (λ q. us refl)
      sl room f me λ w q h2 mem ls g2 sw f room me.
      let ls1 = slice_set ls (suc (b + s)) (word w) in
      let ls2 = slice_set ls1 (b + s) (word u) in
      let f2 = fits_past b fr ls1 (b + s) (word u) (omega arith)
      (fits_past b fr ls (suc (b + s)) (word w) (omega arith) f) in
      let l1 = set_length ls (suc (b + s)) (word w) in
      let low : b + s < length ls1 = omega (arith, room.long (us refl)) in
      let g0 : slice_get ls2 (b + s) ≡ Some (word u) = set_same ls1 (b + s) (word u) low in
      let gt : slice_get ls2 (suc (b + s)) ≡ Some (word w) = set_above ls1 (b + s) (suc (b + s)) (word u) (word w)
      (omega arith) (set_same ls (suc (b + s)) (word w) (room.long (us refl))) in
      along (put_local M (table_of t) q (suc (b + s)) (word w) _ ls _ _ _ (room.long (us refl))
      ∙ (put_local M (table_of t) q (b + s) (word u) _ ls1 _ _ _ low
      ∙ (law q _ ∙ got_local M (table_of t) q _ _ _ _ _ _ _ g0)))
      (one_store M (table_of t) q h2 [] (w ∷ []) u mem ls2 vs _ around _ Q (rw (append-nil h2) me) su λ mem me.
      along (law q _ ∙ got_local M (table_of t) q _ _ _ _ _ _ _ gt)
      (one_store M (table_of t) q h2 (u ∷ []) [] w mem ls2 vs _ around _ Q me sw λ mem me.
      all_stored M (table_of t) h2 (u ∷ w ∷ []) mem _ Q _ me
      (along (raised M (table_of t) q h2 (u ∷ w ∷ []) mem ls2 vs rest around me)
      (record {
        says = k (pos (8 * length h2)) q (h2 ++ u ∷ w ∷ []) mem ls2
            (grows_on h h1 _ g1 (grows_on h1 h2 _ g2 (grows_append h2 _)))
            (pos_small _ (omega (arith, length-append h2 (u ∷ w ∷ []), me.few))) f2
            (room_set t2 (b + s) a ls1 (b + s) (word u) (omega arith)
            (room_set t2 (b + s) a ls (suc (b + s)) (word w) (omega arith) room)) me;
      }))))))
  correct c body (i.fst e) n b s t2 a fr h mem ls vs rest around Q fine nd us sl room f me k =
      then_says (correct c body e n b s t2 a fr h mem ls vs _ around _ fine nd us sl room f me
      λ w l h mem ls g sw f room me.
      found_says λ u e. let r = loaded h h mem w 0 u me (λ k z g. g) e in
      along (law l _ ∙ (law l _ ∙ rw (r.inside, r.word) refl)) (record { says = k u l h mem ls g r.small f room me }))
  correct c body (i.snd e) n b s t2 a fr h mem ls vs rest around Q fine nd us sl room f me k =
      then_says (correct c body e n b s t2 a fr h mem ls vs _ around _ fine nd us sl room f me
      λ w l h mem ls g sw f room me.
      found_says λ u e. let r = loaded h h mem w 1 u me (λ k z g. g) e in
      along (law l _ ∙ (law l _ ∙ rw (r.inside, r.word) refl)) (record { says = k u l h mem ls g r.small f room me }))
  correct c body (i.prim p x y) n b s t2 a fr h mem ls vs rest around Q fine nd us sl room f me k =
      then_says (correct c body x n b s t2 a fr h mem ls vs _ around _ fine.0 (omega arith)
      (λ q. us (or_left (wants_spare x) (wants_spare y) q)) sl room f me λ u l h1 mem ls g1 su f room me.
      then_says (correct c body y l b s t2 a fr h1 mem ls (word u ∷ vs) _ around _ fine.1 (omega arith)
      (λ q. us (or_right (wants_spare x) (wants_spare y) q)) sl room f me λ w q h2 mem ls g2 sw f room me.
      prim_says M (table_of t) p q h2 mem ls u w vs rest around Q su sw λ z sz. k z q h2 mem ls (grows_on h h1 h2 g1 g2)
      sz f room me))

  -- code at a tail place of a function with a loop
  abbrev pub TailRight : ℕ → IrFunc → ℕ → Ir → Type 1
  TailRight c fn j e = (n d : ℕ) (u : ℤ) (t2 : Bool) (a : Option WasmValue) (fr : Frame) (h : List ℤ) (mem : Memory)
      (ls : List WasmValue) (outer : List Around) (Q : ℤ → ℕ → List ℤ → End → Type 0) → slice_get t j
      ≡ Some fn → load h u 0 ≡ Some (pos j) → fr.own ≡ Some u → Fine e → slots_needed e ≤ fn.slots
      → (tail_wants_spare fn.body ≡ true → t2 ≡ true) → (tail_wants_spare e ≡ true → t2 ≡ true) → length fr.slots
      ≤ fn.slots → Room t2 (2 + fn.slots) a ls → Fits 2 fr ls → Keeps h mem
      → AnyAfter h (nested d (loop_label fn ∷ outer)) Q → AnyAfter h outer Q
      → Says (Value c e n h fr) Q
      (Run n h mem ls [] (tail_code e 2 (2 + fn.slots) d) (nested d (loop_label fn ∷ outer)))

  -- a self tail call: the branch spends the call's unit
  branches : (c q d : ℕ) (fn : IrFunc) (j : ℕ) (u w : ℤ) (t2 : Bool) (a : Option WasmValue) (fr : Frame) (h : List ℤ)
      (mem : Memory) (ls : List WasmValue) (outer : List Around) (Q : ℤ → ℕ → List ℤ → End → Type 0) → Looped c
      → slice_get t j ≡ Some fn → load h u 0 ≡ Some (pos j) → fr.own ≡ Some u → Small w
      → (tail_wants_spare fn.body ≡ true → t2 ≡ true) → Room t2 (2 + fn.slots) a ls → Fits 2 fr ls → Keeps h mem
      → AnyAfter h outer Q → Says (applied t u w (λ n h fr e. calls t c n h fr e) q h) Q
      (Run q h mem ls (word w ∷ []) (next (Rattle.mw_wasm.specs.Syntax.local_set 1) (next (br d) end))
      (nested d (loop_label fn ∷ outer)))
  branches c q d fn j u w t2 a fr h mem ls outer Q again g e o sw us room f me k =
      along (put_local M (table_of t) q 1 (word w) _ ls _ _ _ (omega (arith, room.enough)))
      (rw (e, g) (spent q))
    where
      kept : Fits 2 (inside u w) (slice_set ls 1 (word w))
      kept =
          let r = f.own u o in
          fits_inside u w _ (set_other ls 1 0 (word w) (word u) (omega arith) r.1)
          (set_same ls 1 (word w) (omega (arith, room.enough))) r.2 sw

      spent : (q : ℕ) → Says (i.spending q λ n. calls t c n h (inside u w) fn.body) Q
          (Run q h mem (slice_set ls 1 (word w)) [] (next (br d) end) (nested d (loop_label fn ∷ outer)))
      spent zero = record {
        says = law zero _
            ∙ rw (nested_branch d (store_at (table_of t) (8 * length h) mem) (slice_set ls 1 (word w)) [] []
            (loop (Some type.I64) (the_loop fn)) end end outer) refl;
      }
      spent (suc l) =
          along {F = Run l h mem (slice_set ls 1 (word w)) [] (the_loop fn) (loop_label fn ∷ outer)}
          (law (suc l) _
          ∙ (rw (nested_branch d (store_at (table_of t) (8 * length h) mem) (slice_set ls 1 (word w)) [] []
          (loop (Some type.I64) (the_loop fn)) end end outer) (law l _)))
          (again l fn j u w t2 a h mem (slice_set ls 1 (word w)) outer Q g e us
          (room_set t2 (2 + fn.slots) a ls 1 (word w) (omega arith) room) kept me k)

  own_call : (f x : Ir) (b r d : ℕ) → is_own f ≡ true → tail_code (i.app f x) b r d ≡ expression_code x b r
      (next (Rattle.mw_wasm.specs.Syntax.local_set 1) (next (br d) end))
  own_call f x b r d e = rw e refl

  other_call : (f x : Ir) (b r d : ℕ) → is_own f ≡ false → tail_code (i.app f x) b r d ≡ expression_code (i.app f x) b r
      end
  other_call f x b r d e = rw e refl

  own_uses : (f x : Ir) (c : Bool) → is_own f ≡ c → tail_wants_spare (i.app f x) ≡ (if c then wants_spare x else true)
  own_uses f x c e = rw e refl

  -- code that has no tail places in it
  plain : (c : ℕ) (fn : IrFunc) (e : Ir) → Right c e → (n d : ℕ) (t2 : Bool) (a : Option WasmValue) (fr : Frame)
      (h : List ℤ) (mem : Memory) (ls : List WasmValue) (around : List Around) (Q : ℤ → ℕ → List ℤ → End → Type 0)
      → Fine e → slots_needed e ≤ fn.slots → (wants_spare e ≡ true → t2 ≡ true) → length fr.slots ≤ fn.slots
      → Room t2 (2 + fn.slots) a ls → Fits 2 fr ls → Keeps h mem → AnyAfter h around Q
      → Says (Value c e n h fr) Q (Run n h mem ls [] (expression_code e 2 (2 + fn.slots) end) around)
  plain c fn e right n d t2 a fr h mem ls around Q fine nd us sl room f me k = right n 2 fn.slots t2 a fr h mem ls []
      end around Q fine nd us sl room f me λ w l h mem ls g sw f room me. k w l h mem ls g sw me

  pub tail_right : (c : ℕ) → Entered c → Looped c → (fn : IrFunc) (j : ℕ) (e : Ir) → TailRight c fn j e
  tail_right c body again fn j (i.app x y) n d u t2 a fr h mem ls outer Q g e o fine nd usb us sl room f me k out =
      (elim (is_own x) as
      (λ q. is_own x ≡ q → Says (Value c (i.app x y) n h fr) Q
      (Run n h mem ls [] (tail_code (i.app x y) 2 (2 + fn.slots) d) (nested d (loop_label fn ∷ outer)))) [
        | true ↦ λ q.
            let own = own_is x q in
            let read_own : Value c x n h fr ≡ i.gives u n h = ap (λ x. Value c x n h fr) own ∙ rw o refl in
            along (ap (λ code. Run n h mem ls [] code (nested d (loop_label fn ∷ outer)))
            (own_call x y 2 (2 + fn.slots) d q))
            (rw read_own (then_says (correct c body y n 2 fn.slots t2 a fr h mem ls [] _ _ _ fine.1 (omega arith)
            (λ p. us (own_uses x y true q ∙ p)) sl room f me λ w l h1 mem ls g1 sw f room me.
            branches c l d fn j u w t2 a fr h1 mem ls outer Q again g (load_grows h h1 g1 u 0 (pos j) e) o sw usb room f
            me λ z l2 h2 mem ls g2 sz me. out z l2 h2 mem ls (grows_on h h1 h2 g1 g2) sz me)))
        | false ↦ λ q.
            along (ap (λ code. Run n h mem ls [] code (nested d (loop_label fn ∷ outer)))
            (other_call x y 2 (2 + fn.slots) d q))
            (plain c fn (i.app x y) (correct c body (i.app x y)) n d t2 a fr h mem ls _ Q fine nd
            (λ p. us (own_uses x y false q)) sl room f me k)
      ]) refl
  tail_right c body again fn j (i.bind s x y) n d u t2 a fr h mem ls outer Q g e o fine nd usb us sl room f me k out =
      (elim (length fr.slots == s) as
      (λ q. (length fr.slots == s) ≡ q
      → Says (i.in_turn q (i.and_then (Value c x n h fr) λ w n h. Value c y n h (with_slot fr w))) Q
      (Run n h mem ls [] (tail_code (i.bind s x y) 2 (2 + fn.slots) d) (nested d (loop_label fn ∷ outer)))) [
        | true ↦ λ q.
            let same : length fr.slots ≡ s = eqb-true _ _ q in
            then_says (correct c body x n 2 fn.slots t2 a fr h mem ls [] _ _ _ fine.0 (omega arith)
            (λ q. us (or_left (wants_spare x) (tail_wants_spare y) q)) sl room f me λ w l h1 mem ls g1 sw f room me.
            along (put_local M (table_of t) l (2 + s) (word w) _ ls [] _ _ (omega (arith, room.enough))
            ∙ ap (λ s. Run l h1 mem (slice_set ls (2 + s) (word w)) [] (tail_code y 2 (2 + fn.slots) d)
            (nested d (loop_label fn ∷ outer))) (sym same))
            (tail_right c body again fn j y l d u t2 a (with_slot fr w) h1 mem
            (slice_set ls (2 + length fr.slots) (word w)) outer Q g (load_grows h h1 g1 u 0 (pos j) e) o fine.1
            (omega arith) usb (λ q. us (or_right (wants_spare x) (tail_wants_spare y) q))
            (omega (arith, length-append fr.slots (w ∷ [])))
            (room_set t2 (2 + fn.slots) a ls (2 + length fr.slots) (word w) (omega arith) room)
            (fits_slot 2 fr ls w (omega (arith, room.enough)) sw f) me
            (λ z l2 h2 mem ls g2 sz me. k z l2 h2 mem ls (grows_on h h1 h2 g1 g2) sz me)
            (λ z l2 h2 mem ls g2 sz me. out z l2 h2 mem ls (grows_on h h1 h2 g1 g2) sz me)))
        | false ↦ λ q. record { says = tt }
      ]) refl
  tail_right c body again fn j (i.cond x y z) n d u t2 a fr h mem ls outer Q g e o fine nd usb us sl room f me k out =
      then_says (correct c body x n 2 fn.slots t2 a fr h mem ls [] _ _ _ fine.0 (omega arith)
      (λ q. us (or_left (wants_spare x) _ q)) sl room f me λ w l h1 mem ls g1 sw f room me.
      chosen_says M (table_of t) l h1 mem ls w [] _ _ end (nested d (loop_label fn ∷ outer)) _ _ Q
      (tail_right c body again fn j y l (suc d) u t2 a fr h1 mem ls outer Q g (load_grows h h1 g1 u 0 (pos j) e) o
      fine.1 (omega arith) usb
      (λ q. us (or_right (wants_spare x) _ (or_left (tail_wants_spare y) (tail_wants_spare z) q))) sl room f me
      (λ w l2 h2 mem ls g2 sw me. subst (Q w l2 h2) (sym (law l2 _)) (k w l2 h2 mem ls (grows_on h h1 h2 g1 g2) sw me))
      (λ w l2 h2 mem ls g2 sw me. out w l2 h2 mem ls (grows_on h h1 h2 g1 g2) sw me))
      (tail_right c body again fn j z l (suc d) u t2 a fr h1 mem ls outer Q g (load_grows h h1 g1 u 0 (pos j) e) o
      fine.2 (omega arith) usb
      (λ q. us (or_right (wants_spare x) _ (or_right (tail_wants_spare y) (tail_wants_spare z) q))) sl room f me
      (λ w l2 h2 mem ls g2 sw me. subst (Q w l2 h2) (sym (law l2 _)) (k w l2 h2 mem ls (grows_on h h1 h2 g1 g2) sw me))
      (λ w l2 h2 mem ls g2 sw me. out w l2 h2 mem ls (grows_on h h1 h2 g1 g2) sw me)))
  tail_right c body again fn j x n d u t2 a fr h mem ls outer Q g e o fine nd usb us sl room f me k out =
      plain c fn x (correct c body x) n d t2 a fr h mem ls _ Q fine nd us sl room f me k

  -- the locals of a function that is entered
  entry_room : (z : Bool) (fn : IrFunc) (u w : ℤ) → Room (body_wants_spare z fn.body) (2 + fn.slots)
      (slice_get (entry z fn u w) (suc (suc (2 + fn.slots)))) (entry z fn u w)
  entry_room z fn u w = go (body_wants_spare z fn.body)
    where
      go : (c : Bool)
          → Room c (2 + fn.slots)
          (slice_get (word u ∷ word w ∷ zeros (fn.slots + spare_count c)) (suc (suc (2 + fn.slots))))
          (word u ∷ word w ∷ zeros (fn.slots + spare_count c))
      go true = record {
        enough = omega (arith, zeros_length (fn.slots + 2));
        long = λ q.
            omega (arith, zeros_length (fn.slots + 2));
        past = refl;
      }
      go false = record { enough = omega (arith, zeros_length (fn.slots + 0)); long = λ q. absurd (cc); past = refl }

  loop_step : (c : ℕ) → Entered c → Looped c → Looped (suc c)
  loop_step c body again l fn j u w t2 a h mem ls outer Q g e us room f me k =
      let so = sound j fn g in
      tail_right c body again fn j fn.body l 0 u t2 a (inside u w) h mem ls outer Q g e refl so.1 so.2 us us
      (omega arith) room f me
      (λ z l2 h2 mem ls g2 sz me. subst (Q z l2 h2) (sym (law l2 _)) (k z l2 h2 mem ls g2 sz me)) k

  enter_step : (c : ℕ) → Entered c → Looped (suc c) → Entered (suc c)
  enter_step c body again false l fn j u w h mem ks vs rest around Q g e su sw me k =
      let so = sound j fn g in
      correct c body fn.body l 2 fn.slots (wants_spare fn.body) _ (inside u w) h mem (entry false fn u w) [] end _ Q
      so.1 so.2 (λ q. q) (omega arith) (entry_room false fn u w) (fits_inside u w _ refl refl su sw) me
      λ z l2 h2 mem2 ls g2 sz f room me. subst (Q z l2 h2) (sym (law l2 _ ∙ law l2 _)) (k z l2 h2 mem2 g2 sz me)
  enter_step c body again true l fn j u w h mem ks vs rest around Q g e su sw me k =
      along (law l _)
      (again l fn j u w (tail_wants_spare fn.body) _ h mem (entry true fn u w)
      (in_label 1 end [] end ∷ in_frame 1 ks vs rest ∷ around) Q g e (λ q. q) (entry_room true fn u w)
      (fits_inside u w _ refl refl su sw) me
      λ z l2 h2 mem2 ls g2 sz me. subst (Q z l2 h2) (sym (law l2 _ ∙ law l2 _)) (k z l2 h2 mem2 g2 sz me))

  pub record Bodies (c : ℕ) : Type 1 where
    pub entered : Entered c
    pub looped : Looped c

  -- every body, whatever the bound on calls
  pub bodies : (c : ℕ) → Bodies c
  bodies zero = record {
    entered = λ z l fn j u w h mem ks vs rest around Q g e su sw me k. record { says = tt };
    looped = λ l fn j u w t2 a h mem ls outer Q g e us room f me k. record { says = tt };
  }
  bodies (suc c) =
      let b = bodies c in
      let more = loop_step c b.entered b.looped in
      record { entered = enter_step c b.entered more; looped = more }

  pub right : (c : ℕ) (e : Ir) → Right c e
  right c e = correct c (bodies c).entered e
