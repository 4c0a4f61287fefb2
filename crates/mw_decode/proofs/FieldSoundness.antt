-- The fields of modules that are read are spelled so.
use Rattle.std.proofs.Common.{◌≡◌, ◌≤◌, ℕ, zero, suc, ◌+◌, Bool, true, false, ◌&&◌, cond, leb}
use Rattle.std.proofs.Common.{eqb, List, [], ◌∷◌, ◌++◌, length, Option, Some, None, refl, sym, ap, subst, ◌∙◌}
use Rattle.std.proofs.Common.{append_assoc, arith, length-append}
use Rattle.std.specs.Prelude.{replicate}
use Rattle.std.specs.List.{AllByRecursion}
use Rattle.std.proofs.lemmas.Bool.{eqb-true, leb-true}
use Rattle.std.proofs.lemmas.List.{append-nil, length-replicate}
use Rattle.mw_wasm.specs.declared.values.ValType.{ValType}
use Rattle.mw_wasm.specs.declared.modules.Limits.{Limits}
use Rattle.mw_wasm.specs.declared.modules.Exported.{Exported}
use Rattle.mw_wasm.specs.declared.modules.Exported.TheVariants.{Func, Table, Memory, Global as Variable}
use Rattle.mw_wasm.specs.Pieces as piece
use Rattle.mw_wasm.specs.Pieces.{Joined, Sized, byte, octet, items}
use Rattle.mw_wasm.specs.BinaryInstructions.{value_type as type_piece, expression as code_piece}
use Rattle.mw_wasm.specs.BinaryModules as grammar
use Rattle.mw_wasm.specs.Profile.{depth, IsPrintable}
use Rattle.mw_decode.specs.declared.fault.BadModule.{BadModule}
use Rattle.mw_decode.specs.declared.fault.BadModule.TheVariants as bad
use Rattle.mw_decode.specs.Reading.{faulty, Reader, place, and_then, gives, is, outside, byte_of}
use Rattle.mw_decode.specs.Reading.{u32, at_most, times, optional}
use Rattle.mw_decode.specs.Instructions.{value_type, value_type_of}
use Rattle.mw_decode.specs.Sections.{function_type, has_max, maximum, limits, table, memory, global, printable}
use Rattle.mw_decode.specs.Sections.{export_kind, export, element, data_segment, run_count, runs, Body, body}
use Rattle.mw_decode.specs.Sections.{function_code, bodies, single}
use Rattle.mw_list.proofs.Conjunctions.{both_true}
use Rattle.mw_decode.proofs.Choices.{passes, not_faulty, not_wrong, not_outside}
use Rattle.mw_decode.proofs.ReaderSoundness.{Sound, and_then_got, joined_so, joined, begins_then, sound_then, sound_so}
use Rattle.mw_decode.proofs.ReaderSoundness.{sound_gives, sound_last, sound_byte, by_byte, sound_u32, sound_times}
use Rattle.mw_decode.proofs.ReaderSoundness.{counted, sound_vector}
use Rattle.mw_decode.proofs.OpcodeSoundness.{sound_fixed}
use Rattle.mw_decode.proofs.CodeSoundness.{type_is, expression_sound}
use Rattle.mw_decode.proofs.SizedLaws.{sound_sized}
use Rattle.mw_decode.proofs.FieldCompleteness.{Few, Letter, Within, all_types, TypePiece, BodyPiece}

-- a number that passes a test, and what is read behind it
sound_if : {B : Type 0} {R : B → List ℕ → Type 0} (test : ℕ → Bool) (f : ℕ → List ℕ → BadModule) (go : ℕ → Reader B)
    → ((n : ℕ) → test n ≡ true → Sound (go n) (λ y back. (front : List ℕ) → piece.u32 n front → R y (front ++ back)))
    → Sound (λ end bytes. and_then (u32 end bytes) (λ n mid. cond (test n) (go n end mid) (faulty (f end bytes)))) R
sound_if test f go s = record {
  sound = λ end bytes y rest e.
      let h = and_then_got (u32 end bytes) (λ n mid. cond (test n) (go n end mid) (faulty (f end bytes))) y rest e in
      let q = passes (test h.0) _ _ _ h.3 (not_faulty (f end bytes) y rest) in
      begins_then bytes h.1 rest (sound_u32.sound end bytes h.0 h.1 h.2) ((s h.0 q.0).sound end h.1 y rest q.1);
}

pub sound_at_most : (most : ℕ) → Sound (at_most most) (Few most)
sound_at_most most =
    sound_if (λ n. leb n most) (λ end bytes. bad.OutsideProfile (place end bytes)) gives λ n e. sound_gives n
    (λ front u. subst (Few most n) (sym (append-nil front)) (u, leb-true n most e))

-- types
pub sound_value_type : Sound value_type type_piece
sound_value_type = sound_byte value_type_of λ b t e low. type_is b t e

pub sound_function_type : Sound function_type TypePiece
sound_function_type =
    sound_then (sound_fixed 0x60) λ _.
    sound_then (sound_vector sound_value_type) λ ps.
    sound_then (sound_at_most 1) λ n.
    sound_last (λ rs. record { params = ps; results = rs }) (sound_times sound_value_type n)
    (λ rs f4 c f3 l f2 v f1 s.
    let few : length rs ≤ 1 = let a : length rs ≡ n = c.0 in let b = l.1 in omega arith in
    (joined f1 _ s (joined f2 _ v (counted type_piece n rs f3 f4 l.0 c)), few))

-- flags and limits
pub sound_flag : Sound (byte_of has_max) grammar.mutability
sound_flag = sound_byte has_max λ b more e low. by_byte grammar.mutability b 0x00 false more _ refl
    (by_byte grammar.mutability b 0x01 true more _ refl (λ e. absurd (not_wrong more e))) e

-- limits of which all but the maximum is known
abbrev Max : Bool → Option ℕ → List ℕ → Type 0
Max more max back = (min : ℕ) (f1 f2 : List ℕ) → grammar.mutability more f1 → piece.u32 min f2
    → grammar.limits_of min max (f1 ++ (f2 ++ back))

sound_maximum : (more : Bool) → Sound (maximum more) (Max more)
sound_maximum false =
    sound_gives None (λ min f1 f2 m u. joined f1 (f2 ++ []) m (subst (piece.u32 min) (sym (append-nil f2)) u))
sound_maximum true =
    sound_last (λ x. Some x) sound_u32 (λ x f3 p min f1 f2 m u. joined f1 (f2 ++ f3) m (joined f2 f3 u p))

abbrev pub LimitsPiece : ℕ → Limits → List ℕ → Type 0
LimitsPiece most l front = grammar.limits l front × (l.min ≤ most)

pub sound_limits : (most : ℕ) → Sound (limits most) (LimitsPiece most)
sound_limits most =
    sound_then sound_flag λ more.
    sound_then (sound_at_most most) λ min.
    sound_last (λ max. record { min = min; max = max }) (sound_maximum more)
    (λ max f3 k f2 few f1 m. (k min f1 f2 m few.0, few.1))

pub sound_table : Sound table (λ l front. grammar.table l front × (l.min ≤ 100_000))
sound_table =
    sound_then (sound_fixed 0x70) λ _.
    sound_so (sound_limits 100_000) (λ l back k front p. (joined front back p k.0, k.1))

pub sound_memory : Sound memory (LimitsPiece 1_024)
sound_memory = sound_limits 1_024

-- at most one item
pub sound_single : {A : Type 0} {r : Reader A} (P : A → List ℕ → Type 0) → Sound r P
    → Sound (single r) (λ o front. piece.vector P (grammar.at_most_one o) front)
sound_single {A} {r} P s = sound_then (sound_at_most 1) so_many
  where
    so_many : (n : ℕ) → Sound (optional n r)
        (λ o back. (front : List ℕ) → Few 1 n front → piece.vector P (grammar.at_most_one o) (front ++ back))
    so_many zero = sound_gives None (λ front few. joined front [] few.0 refl)
    so_many (suc n) = sound_last (λ x. Some x) s (λ x back p front few.
        let e : suc n ≡ 1 = let l = few.1 in omega arith in
        let u = subst (λ (m : ℕ). piece.u32 m front) e few.0 in
        joined front back u (subst (Joined (P x) piece.nothing) (append-nil back) (joined back [] p refl)))

-- globals
pub sound_global : Sound global (λ g front. grammar.global g front × (depth g.init ≤ 500))
sound_global =
    sound_then sound_value_type λ kind.
    sound_then sound_flag λ variable.
    sound_last (λ init. record { kind = kind; variable = variable; init = init }) expression_sound
    (λ init f3 c f2 m f1 t. (joined f1 (f2 ++ f3) t (joined f2 f3 m c.0), c.1))

-- exports
sound_letter : Sound (byte_of printable) Letter
sound_letter = sound_byte printable λ b x e low.
    let q = passes (leb 0x20 b && leb b 0x7E) (is b) outside (is x) e (not_outside x) in
    let k : b ≡ x = let s = q.1 in (cc) in
    let t = both_true _ _ q.0 in
    subst (λ x. Letter x (b ∷ [])) k ((low, refl), (leb-true 0x20 b t.0, leb-true b 0x7E t.1))

pub without_all : {A : Type 0} (P : A → List ℕ → Type 0) (W : A → Type 0) (xs : List A) (front : List ℕ)
    → items (λ x f. P x f × W x) xs front → items P xs front × AllByRecursion W xs
without_all P W [] front h = (h, tt)
without_all P W (x ∷ xs) front h =
    let k = without_all P W xs h.back h.second in (joined_so h h.first.0 k.0, (h.first.1, k.1))

-- what is exported: its kind before an index
abbrev Kind : (ℕ → Exported) → List ℕ → Type 0
Kind make front = (x : ℕ) (back : List ℕ) → piece.u32 x back → grammar.exported (make x) (front ++ back)

sound_kind : Sound (byte_of export_kind) Kind
sound_kind = sound_byte export_kind λ b make e low.
    by_byte Kind b 0x00 Func make _ (λ x back u. joined (0x00 ∷ []) back refl u)
    (by_byte Kind b 0x01 Table make _ (λ x back u. joined (0x01 ∷ []) back refl u)
    (by_byte Kind b 0x02 Memory make _ (λ x back u. joined (0x02 ∷ []) back refl u)
    (by_byte Kind b 0x03 Variable make _ (λ x back u. joined (0x03 ∷ []) back refl u)
    (λ e. absurd (not_wrong make e))))) e

pub sound_export : Sound export (λ e front. grammar.export e front × AllByRecursion IsPrintable e.name)
sound_export =
    sound_then (sound_vector sound_letter) λ name.
    sound_then sound_kind λ make.
    sound_last (λ x. record { name = name; what = make x }) sound_u32
    (λ x f3 u f2 k f1 v.
    let w = without_all octet IsPrintable name v.back v.second in
    (joined f1 (f2 ++ f3) (joined_so v v.first w.0) (k x f3 u), w.1))

-- segments
sound_octet : Sound (byte_of is) octet
sound_octet = sound_byte is λ b x e low. let k : b ≡ x = (cc) in subst (λ x. octet x (b ∷ [])) k (low, refl)

pub zero_is : (n : ℕ) (front : List ℕ) → Few 0 n front → piece.u32 0 front
zero_is n front h = let b = h.1 in let e : n ≡ 0 = omega arith in subst (λ (m : ℕ). piece.u32 m front) e h.0

pub sound_element : Sound element (λ s front. grammar.element s front × (depth s.offset ≤ 500))
sound_element =
    sound_then (sound_at_most 0) λ n.
    sound_then expression_sound λ offset.
    sound_last (λ funcs. record { offset = offset; funcs = funcs }) (sound_vector sound_u32)
    (λ funcs f3 v f2 c f1 z. (joined f1 (f2 ++ f3) (zero_is n f1 z) (joined f2 f3 c.0 v), c.1))

pub sound_data : Sound data_segment (λ s front. grammar.data_segment s front × (depth s.offset ≤ 500))
sound_data =
    sound_then (sound_at_most 0) λ n.
    sound_then expression_sound λ offset.
    sound_last (λ bytes. record { offset = offset; bytes = bytes }) (sound_vector sound_octet)
    (λ bytes f3 v f2 c f1 z. (joined f1 (f2 ++ f3) (zero_is n f1 z) (joined f2 f3 c.0 v), c.1))

-- bodies
pub record RunsTaken (before k : ℕ) (ts : List ValType) (front : List ℕ) : Type 0 where
  pub runs : List grammar.Run
  pub count : length runs ≡ k
  pub spelled : items grammar.run runs front
  pub types : ts ≡ all_types runs
  pub few : before ≤ 50_000 → before + length ts ≤ 50_000

sound_run_count : (before : ℕ) → Sound (run_count before) (Within before)
sound_run_count before =
    sound_if (λ n. leb (before + n) 50_000) (λ end bytes. bad.OutsideProfile (place end bytes)) gives λ n e.
    sound_gives n (λ front u. subst (Within before n) (sym (append-nil front)) (u, leb-true (before + n) 50_000 e))

sound_runs : (k before : ℕ) → Sound (runs k before) (RunsTaken before k)
sound_runs zero before =
    sound_gives [] (record { runs = []; count = refl; spelled = refl; types = refl; few = λ l. omega arith })
sound_runs (suc k) before =
    sound_then (sound_run_count before) λ n.
    sound_then sound_value_type λ t.
    sound_last (λ ts. replicate n t ++ ts) (sound_runs k (before + n)) (λ ts f3 s f2 p f1 w. record {
      runs = record { count = n; kind = t } ∷ s.runs;
      count = ap suc s.count;
      spelled =
          subst (items grammar.run (record { count = n; kind = t } ∷ s.runs)) (append_assoc f1 f2 f3)
          (joined (f1 ++ f2) f3 (joined f1 f2 w.0 p) s.spelled);
      types = ap (λ us. replicate n t ++ us) s.types;
      few = λ b.
          let a : before + n ≤ 50_000 = w.1 in
          let c = s.few a in
          omega (arith, length-append (replicate n t) ts, length-replicate {A = ValType} n t);
    })

pub sound_body : Sound body BodyPiece
sound_body =
    sound_then sound_u32 λ n.
    sound_then (sound_runs n 0) λ ts.
    sound_last (λ c. record { locals = ts; code = c }) expression_sound (λ c f3 k f2 s f1 u.
    let few : length ts ≤ 50_000 = let a = s.few (omega arith) in omega arith in
    let v = counted grammar.run n s.runs f1 f2 u (s.count, s.spelled) in
    let l : grammar.Locals ts (f1 ++ f2) = record {
      runs = s.runs;
      spelled = v;
      types_are = s.types;
      few = omega arith;
    } in
    record {
      spelled = subst (Joined (grammar.Locals ts) (code_piece c)) (append_assoc f1 f2 f3) (joined (f1 ++ f2) f3 l k.0);
      few = few;
      shallow = k.1;
    })

abbrev pub CodePiece : Body → List ℕ → Type 0
CodePiece b front = Sized (BodyPiece b) front

pub sound_code : Sound function_code CodePiece
sound_code =
    sound_sized BodyPiece (λ at. faulty (bad.Size at)) (λ at x rest e. not_faulty (bad.Size at) x rest e) sound_body

pub sound_bodies : (functions : ℕ)
    → Sound (bodies functions) (λ bs front. piece.vector CodePiece bs front × (length bs ≡ functions))
sound_bodies functions =
    sound_if (λ n. eqb n functions) (λ end bytes. bad.Section (place end bytes)) (λ n. times n function_code) λ n e.
    sound_so (sound_times sound_code n)
    (λ bs back c front u. (counted CodePiece n bs front back u c, c.0 ∙ eqb-true n functions e))
