-- The fields of modules that are spelled are read again.
use Rattle.std.proofs.Common.{◌≡◌, ◌≤◌, ℕ, suc, ◌+◌, Bool, true, false, cond, leb, eqb, List, [], ◌∷◌}
use Rattle.std.proofs.Common.{◌++◌, length, Option, Some, None, refl, sym, ap, ◌∙◌, arith}
use Rattle.std.proofs.Common.{length-append}
use Rattle.std.specs.Prelude.{replicate}
use Rattle.std.specs.List.{AllByRecursion, flat_map}
use Rattle.std.proofs.lemmas.Bool.{le-leb, eq-eqb, cond-true}
use Rattle.std.proofs.lemmas.List.{append-nil, length-replicate}
use Rattle.std.proofs.lemmas.List.Concat.{flat_map-cons}
use Rattle.mw_wasm.specs.declared.values.ValType.{ValType}
use Rattle.mw_wasm.specs.declared.values.ValType.TheVariants.{I32, I64}
use Rattle.mw_wasm.specs.declared.modules.FuncType.{FuncType}
use Rattle.mw_wasm.specs.declared.modules.Exported.{Exported}
use Rattle.mw_wasm.specs.declared.modules.Exported.TheVariants.{Func, Table, Memory, Global as Variable}
use Rattle.mw_wasm.specs.Pieces as piece
use Rattle.mw_wasm.specs.Pieces.{Joined, Sized, byte, octet, items}
use Rattle.mw_wasm.specs.Syntax.{Exporting}
use Rattle.mw_wasm.specs.BinaryInstructions.{value_type as type_piece, expression as code_piece}
use Rattle.mw_wasm.specs.BinaryModules as grammar
use Rattle.mw_wasm.specs.Profile.{depth, IsPrintable}
use Rattle.mw_decode.specs.declared.fault.BadModule.{BadModule}
use Rattle.mw_decode.specs.declared.fault.BadModule.TheVariants as bad
use Rattle.mw_decode.specs.Reading.{got, faulty, Reader, place, and_then, ◌>>=◌, gives, is, byte_of, u32}
use Rattle.mw_decode.specs.Reading.{only, at_most, times, vector, optional}
use Rattle.mw_decode.specs.Instructions.{value_type_of, value_type, expression}
use Rattle.mw_decode.specs.Sections.{function_type, has_max, limits, table, memory, global, printable}
use Rattle.mw_decode.specs.Sections.{export_kind, export, element, data_segment, run_count, runs, Body, body}
use Rattle.mw_decode.specs.Sections.{function_code, bodies, single}
use Rattle.mw_decode.proofs.ReaderSoundness.{joined_so}
use Rattle.mw_decode.proofs.CodeSoundness.{regroup}
use Rattle.mw_decode.proofs.CodeCompleteness.{Again, again_u32, Gives, gives_at, gives_under, again_by, again_under}
use Rattle.mw_decode.proofs.CodeCompleteness.{gives_byte, gives_then, gives_last, parted, gives_times, again_vector}
use Rattle.mw_decode.proofs.CodeCompleteness.{expression_again}
use Rattle.mw_decode.proofs.SizedLaws.{again_sized}

again_type : Again value_type type_piece
again_type = again_by go
  where
    go : (t : ValType) → Gives value_type t (type_piece t)
    go I32 = gives_byte value_type_of 0x7F I32 refl
    go I64 = gives_byte value_type_of 0x7E I64 refl

abbrev pub Few : ℕ → ℕ → List ℕ → Type 0
Few most n front = piece.u32 n front × (n ≤ most)

-- a number that passes a test
again_if : {W : ℕ → Type 0} (test : ℕ → Bool) (f : ℕ → List ℕ → BadModule) → ((n : ℕ) → W n → test n ≡ true)
    → Again (λ end bytes. and_then (u32 end bytes) (λ n mid. cond (test n) (got n mid) (faulty (f end bytes))))
    (λ n front. piece.u32 n front × W n)
again_if test f t = record {
  again = λ end n front rest h.
      ap (λ m. and_then m λ n mid. cond (test n) (got n mid) (faulty (f end (front ++ rest))))
      (again_u32.again end n front rest h.0) ∙ cond-true (test n) _ _ (t n h.1);
}

pub again_at_most : (most : ℕ) → Again (at_most most) (Few most)
again_at_most most =
    again_if (λ n. leb n most) (λ end bytes. bad.OutsideProfile (place end bytes)) (λ n h. le-leb n most h)

-- function types of at most one result
abbrev pub TypePiece : FuncType → List ℕ → Type 0
TypePiece t front = grammar.function_type t front × (length t.results ≤ 1)

pub again_function_type : Again function_type TypePiece
again_function_type = again_under λ t few.
    gives_then _ (gives_byte (only 0x60 tt) 0x60 tt refl)
    (gives_then _ (gives_at (again_vector again_type) t.params)
    (gives_then _ (gives_under (again_at_most 1) (length t.results) few)
    (gives_last (λ rs. record { params = t.params; results = rs }) (gives_times again_type t.results))))

-- limits
again_mutability : Again (byte_of has_max) grammar.mutability
again_mutability = again_by go
  where
    go : (b : Bool) → Gives (byte_of has_max) b (grammar.mutability b)
    go false = gives_byte has_max 0x00 false refl
    go true = gives_byte has_max 0x01 true refl

pub again_limits : (most : ℕ) → Again (limits most) (λ l front. grammar.limits l front × (l.min ≤ most))
again_limits most = again_under λ l few. go l.min l.max few
  where
    go : (min : ℕ) (max : Option ℕ) → min ≤ most
        → Gives (limits most) (record { min = min; max = max }) (grammar.limits_of min max)
    go min None few =
        gives_then _ (gives_at again_mutability false)
        (gives_last (λ min. record { min = min; max = None }) (gives_under (again_at_most most) min few))
    go min (Some max) few =
        gives_then _ (gives_at again_mutability true)
        (gives_then _ (gives_under (again_at_most most) min few)
        (gives_last (λ max. record { min = min; max = max }) (gives_last (λ x. Some x) (gives_at again_u32 max))))

pub again_table : Again table (λ l front. grammar.table l front × (l.min ≤ 100_000))
again_table = again_under λ l few.
    gives_then _ (gives_byte (only 0x70 tt) 0x70 tt refl) (gives_under (again_limits 100_000) l few)

pub again_memory : Again memory (λ l front. grammar.limits l front × (l.min ≤ 1_024))
again_memory = again_limits 1_024

-- at most one item
pub again_single : {A : Type 0} {r : Reader A} {P : A → List ℕ → Type 0} → Again r P
    → Again (single r) (λ o front. piece.vector P (grammar.at_most_one o) front)
again_single {A} {r} {P} a = again_by go
  where
    go : (o : Option A) → Gives (single r) o (piece.vector P (grammar.at_most_one o))
    go None =
        gives_then (λ n. optional n r) (gives_under (again_at_most 1) 0 (omega arith))
        (record { given = λ end front rest h. ap (λ z. got None (z ++ rest)) h })
    go (Some x) =
        gives_then (λ n. optional n r) (gives_under (again_at_most 1) 1 (omega arith))
        (record {
          given = λ end front rest k. ap (λ z. optional 1 r end (z ++ rest))
              (k.whole ∙ (ap (λ z. k.front ++ z) k.second ∙ append-nil k.front))
              ∙ (gives_last (λ x. Some x) (gives_at a x)).given end k.front rest k.first;
        })

-- globals
pub again_expression : Again expression (λ c front. code_piece c front × (depth c ≤ 500))
again_expression = record { again = λ end c front rest h. expression_again c end front rest h.0 h.1 }

pub again_global : Again global (λ g front. grammar.global g front × (depth g.init ≤ 500))
again_global = again_under λ g shallow.
    gives_then _ (gives_at again_type g.kind)
    (gives_then _ (gives_at again_mutability g.variable)
    (gives_last (λ init. record { kind = g.kind; variable = g.variable; init = init })
    (gives_under again_expression g.init shallow)))

-- exports
again_octet : Again (byte_of is) octet
again_octet = record { again = λ end b front rest h. ap (λ z. byte_of is end (z ++ rest)) h.1 }

abbrev pub Letter : ℕ → List ℕ → Type 0
Letter b front = octet b front × IsPrintable b

again_letter : Again (byte_of printable) Letter
again_letter = record {
  again = λ end b front rest h.
      rw (h.0.1, le-leb 0x20 b h.1.0, le-leb b 0x7E h.1.1) refl;
}

pub with_all : {A : Type 0} (P : A → List ℕ → Type 0) (W : A → Type 0) (xs : List A) (front : List ℕ) → items P xs front
    → AllByRecursion W xs → items (λ x f. P x f × W x) xs front
with_all P W [] front h w = h
with_all P W (x ∷ xs) front h w = joined_so h (h.first, w.0) (with_all P W xs h.back h.second w.1)

gives_name : (name : List ℕ) → AllByRecursion IsPrintable name
    → Gives (vector (byte_of printable)) name (piece.vector octet name)
gives_name name printed = record {
  given = λ end front rest v. (again_vector again_letter).again end name front rest
      (joined_so v v.first (with_all octet IsPrintable name v.back v.second printed));
}

-- what is exported
gives_kind : (name : List ℕ) (m x : ℕ) (make : ℕ → Exported)
    → export_kind m ≡ is make
    → Gives {A = Exporting} (byte_of export_kind >>= λ make. u32 >>= λ x. gives (record { name = name; what = make x }))
    (record { name = name; what = make x }) (Joined (byte m) (piece.u32 x))
gives_kind name m x make e =
    gives_then (λ make. u32 >>= λ x. gives (record { name = name; what = make x })) (gives_byte export_kind m make e)
    (gives_last (λ x. record { name = name; what = make x }) (gives_at again_u32 x))

gives_exported : (name : List ℕ) (what : Exported)
    → Gives {A = Exporting} (byte_of export_kind >>= λ make. u32 >>= λ x. gives (record { name = name; what = make x }))
    (record { name = name; what = what }) (grammar.exported what)
gives_exported name (Func x) = gives_kind name 0x00 x Func refl
gives_exported name (Table x) = gives_kind name 0x01 x Table refl
gives_exported name (Memory x) = gives_kind name 0x02 x Memory refl
gives_exported name (Variable x) = gives_kind name 0x03 x Variable refl

abbrev pub Printed : Exporting → List ℕ → Type 0
Printed e front = grammar.export e front × AllByRecursion IsPrintable e.name

pub again_export : Again export Printed
again_export = again_under λ e printed. gives_then _ (gives_name e.name printed) (gives_exported e.name e.what)

-- segments
gives_none : Gives (at_most 0) 0 (piece.u32 0)
gives_none = gives_under (again_at_most 0) 0 (omega arith)

pub again_element : Again element (λ s front. grammar.element s front × (depth s.offset ≤ 500))
again_element = again_under λ s shallow.
    gives_then _ gives_none
    (gives_then _ (gives_under again_expression s.offset shallow)
    (gives_last (λ funcs. record { offset = s.offset; funcs = funcs }) (gives_at (again_vector again_u32) s.funcs)))

pub again_data : Again data_segment (λ s front. grammar.data_segment s front × (depth s.offset ≤ 500))
again_data = again_under λ s shallow.
    gives_then _ gives_none
    (gives_then _ (gives_under again_expression s.offset shallow)
    (gives_last (λ bytes. record { offset = s.offset; bytes = bytes }) (gives_at (again_vector again_octet) s.bytes)))

-- bodies
abbrev pub all_types : List grammar.Run → List ValType
all_types rs = flat_map (λ r. replicate r.count r.kind) rs

abbrev pub Within : ℕ → ℕ → List ℕ → Type 0
Within before n front = piece.u32 n front × (before + n ≤ 50_000)

again_run_count : (before : ℕ) → Again (run_count before) (Within before)
again_run_count before =
    again_if (λ n. leb (before + n) 50_000) (λ end bytes. bad.OutsideProfile (place end bytes))
    (λ n h. le-leb (before + n) 50_000 h)

gives_runs : (rs : List grammar.Run) (before : ℕ) → before + length (all_types rs) ≤ 50_000
    → Gives (runs (length rs) before) (all_types rs) (items grammar.run rs)
gives_runs [] before few = record { given = λ end front rest h. ap (λ z. got [] (z ++ rest)) h }
gives_runs (r ∷ rs) before few =
    let e = flat_map-cons (λ (r : grammar.Run). replicate r.count r.kind) r rs in
    let n : length (all_types (r ∷ rs)) ≡ r.count + length (all_types rs) = ap length e
    ∙ (length-append (replicate r.count r.kind) (all_types rs)
    ∙ ap (λ k. k + length (all_types rs)) (length-replicate {A = ValType} r.count r.kind)) in
    let later : (before + r.count) + length (all_types rs) ≤ 50_000 = omega arith in
    let now : before + r.count ≤ 50_000 = omega arith in
    let read : Gives (runs (suc (length rs)) before) (replicate r.count r.kind ++ all_types rs) _ =
    gives_then _ (gives_under (again_run_count before) r.count now) (gives_then _ (gives_at again_type r.kind)
    (gives_last (λ ts. replicate r.count r.kind ++ ts) (gives_runs rs (before + r.count) later))) in
    record {
      given = λ end front rest h.
          read.given end front rest (regroup _ _ _ front h) ∙ ap (λ ts. got ts rest) (sym e);
    }

-- further locals and code, within the profile
pub record BodyPiece (b : Body) (front : List ℕ) : Type 0 where
  pub spelled : Joined (grammar.locals b.locals) (code_piece b.code) front
  pub few : length b.locals ≤ 50_000
  pub shallow : depth b.code ≤ 500

pub again_body : Again body BodyPiece
again_body = record {
  again = λ end b front rest h.
      let l = h.spelled.first in
      let few : 0 + length (all_types l.runs) ≤ 50_000 =
      let e = ap length l.types_are in let f = h.few in omega arith in
      let read : Gives body (record { locals = all_types l.runs; code = b.code }) _ =
      gives_then _ (gives_at again_u32 (length l.runs)) (gives_then _ (gives_runs l.runs 0 few)
      (gives_last (λ code. record { locals = all_types l.runs; code = code })
      (gives_under again_expression b.code h.shallow))) in
      read.given end front rest (regroup _ _ _ front (joined_so h.spelled l.spelled h.spelled.second))
      ∙ ap (λ ts. got (record { locals = ts; code = b.code }) rest) (sym l.types_are);
}

pub again_code : Again function_code (λ b. Sized (BodyPiece b))
again_code = again_sized BodyPiece (λ at. faulty (bad.Size at)) again_body

pub again_bodies : (functions : ℕ)
    → Again (bodies functions) (λ bs front. piece.vector (λ b. Sized (BodyPiece b)) bs front × (length bs ≡ functions))
again_bodies functions = record {
  again = λ end bs front rest h.
      let v = h.0 in
      ap (bodies functions end) (parted front rest v)
      ∙ (ap
      (λ m. and_then m λ n mid. cond (eqb n functions) (times n function_code end mid)
      (faulty (bad.Section (place end (v.front ++ (v.back ++ rest))))))
      (again_u32.again end (length bs) v.front (v.back ++ rest) v.first)
      ∙ (cond-true (eqb (length bs) functions) _ _ (eq-eqb (length bs) functions h.1)
      ∙ (gives_times again_code bs).given end v.back rest v.second));
}
