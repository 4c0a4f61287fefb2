-- A module that is spelled within the profile is read.
use Rattle.std.proofs.Common.{◌≡◌, ◌<◌, ◌≤◌, ℕ, suc, ◌⊎◌, inl, inr, Bool, false, cond, ltb, List, [], ◌∷◌, ◌++◌}
use Rattle.std.proofs.Common.{length, map, drop, Option, Some, None, Ok, Err, refl, sym, ap, subst, ◌∙◌, arith}
use Rattle.std.specs.Prelude.{IfSome}
use Rattle.std.specs.List.{AllByRecursion}
use Rattle.std.proofs.lemmas.Bool.{le-ltb, cond-false}
use Rattle.std.proofs.lemmas.List.{length-map}
use Rattle.mw_wasm.specs.declared.modules.Limits.{Limits}
use Rattle.mw_wasm.specs.Pieces as piece
use Rattle.mw_wasm.specs.Pieces.{Joined, Sized, byte, items}
use Rattle.mw_wasm.specs.Syntax.{Function, PureModule}
use Rattle.mw_wasm.specs.BinaryModules as grammar
use Rattle.mw_wasm.specs.BinaryModules.{Spells}
use Rattle.mw_wasm.specs.Profile.{depth, IsWithinFileLimit, IsWithinProfile}
use Rattle.mw_decode.specs.declared.fault.BadModule.TheVariants as bad
use Rattle.mw_decode.specs.Reading.{got, Reader, ◌>>=◌, gives}
use Rattle.mw_decode.specs.Sections as sections
use Rattle.mw_decode.specs.Sections.{Body, bodies, section, after_customs, is_missing, present, Parts, functions, given}
use Rattle.mw_decode.specs.Sections.{module_of, starts, module_in, module_read, end_of_file}
use Rattle.mw_decode.proofs.ReaderSoundness.{joined_so}
use Rattle.mw_decode.proofs.CodeCompleteness.{Again, again_u32, gives_at, gives_last, again_vector}
use Rattle.mw_decode.proofs.SectionCompleteness.{Skips, skips_after, Rereads, step, last, no_start_step}
use Rattle.mw_decode.proofs.FieldCompleteness.{with_all, again_at_most, again_function_type, again_table}
use Rattle.mw_decode.proofs.FieldCompleteness.{again_memory, again_single, again_global, again_export, again_element}
use Rattle.mw_decode.proofs.FieldCompleteness.{again_data, again_bodies, BodyPiece}

-- the first eight bytes
abbrev pub header_bytes : List ℕ
header_bytes = 0x00 ∷ 0x61 ∷ 0x73 ∷ 0x6D ∷ 0x01 ∷ 0x00 ∷ 0x00 ∷ 0x00 ∷ []

-- what a section is to the step
abbrev pub Stands : {A : Type 0} → ℕ → A → (A → List ℕ → Type 0) → A → List ℕ → Type 0
Stands k missing P x front = ((x ≡ missing) × (front ≡ [])) ⊎ Joined (byte k) (Sized (P x)) front

pub sized_so : (P Q : List ℕ → Type 0) (front : List ℕ) → Sized P front → ((f : List ℕ) → P f → Q f) → Sized Q front
sized_so P Q front h f =
    record { size = h.size; content = h.content; whole = h.whole; counted = h.counted; inside = f h.content h.inside }

pub in_section : (k : ℕ) (P Q : List ℕ → Type 0) (front : List ℕ) → Joined (byte k) (Sized P) front
    → ((f : List ℕ) → P f → Q f) → Joined (byte k) (Sized Q) front
in_section k P Q front h f = joined_so h h.first (sized_so P Q h.back h.second f)

listed_section : {A : Type 0} (k : ℕ) (P : A → List ℕ → Type 0) (W : A → Type 0) (xs : List A) (front : List ℕ)
    → AllByRecursion W xs → grammar.section k P xs front
    → Stands k [] (λ ys f. piece.vector (λ x f. P x f × W x) ys f) xs front
listed_section k P W xs front w (inl h) = inl h
listed_section k P W xs front w (inr h) =
    inr (in_section k _ _ front h (λ f v. joined_so v v.first (with_all P W xs v.back v.second w)))

none_of : {A : Type 0} (o : Option A) → grammar.at_most_one o ≡ [] → o ≡ None
none_of None e = refl
none_of (Some x) e = absurd (cc)

single_section : (k most : ℕ) (P : Limits → List ℕ → Type 0) (o : Option Limits) (front : List ℕ)
    → IfSome o (λ l. l.min ≤ most) → grammar.section k P (grammar.at_most_one o) front
    → Stands k None (λ o f. piece.vector (λ l f. P l f × (l.min ≤ most)) (grammar.at_most_one o) f) o front
single_section k most P o front w (inl h) = inl (none_of o h.0, h.1)
single_section k most P None front w (inr h) = inr h
single_section k most P (Some l) front w (inr h) =
    inr (in_section k _ _ front h
    (λ f v. joined_so v v.first (with_all P (λ l. l.min ≤ most) (l ∷ []) v.back v.second (w, tt))))

-- functions by their kinds and their bodies
abbrev pub kind_of : Function → ℕ
kind_of f = f.kind

abbrev pub body_of : Function → Body
body_of f = record { locals = f.locals; code = f.body }

items_map : {A B : Type 0} (P : B → List ℕ → Type 0) (g : A → B) (xs : List A) (front : List ℕ)
    → items (λ x. P (g x)) xs front → items P (map g xs) front
items_map P g [] front h = h
items_map P g (x ∷ xs) front h = joined_so h h.first (items_map P g xs h.back h.second)

vector_map : {A B : Type 0} (P : B → List ℕ → Type 0) (g : A → B) (xs : List A) (front : List ℕ)
    → piece.vector (λ x. P (g x)) xs front → piece.vector P (map g xs) front
vector_map P g xs front v =
    joined_so v (subst (λ (n : ℕ). piece.u32 n v.front) (sym (length-map xs g)) v.first)
    (items_map P g xs v.back v.second)

kinds_section : (fs : List Function) (front : List ℕ) → grammar.section 3 grammar.function_kind fs front
    → Stands 3 [] (λ ks f. piece.vector piece.u32 ks f) (map kind_of fs) front
kinds_section fs front (inl h) = inl (ap (map kind_of) h.0, h.1)
kinds_section fs front (inr h) = inr (in_section 3 _ _ front h (λ f v. vector_map piece.u32 kind_of fs f v))

import_section : (front : List ℕ) → grammar.import_section front → Stands 2 0 (λ n f. piece.u32 n f × (n ≤ 0)) 0 front
import_section front (inl h) = inl (refl, h)
import_section front (inr h) = inr (in_section 2 _ _ front h (λ f v. (v, omega arith)))

abbrev pub BodiesPiece : ℕ → Option (List Body) → List ℕ → Type 0
BodiesPiece n o front =
    (bs : List Body) × (o ≡ Some bs) × piece.vector (λ b. Sized (BodyPiece b)) bs front × (length bs ≡ n)

again_present : (n : ℕ) → Again (present (bodies n)) (BodiesPiece n)
again_present n = record {
  again = λ end o front rest h. (gives_last (λ x. Some x) (gives_at (again_bodies n) h.0)).given end front rest
      (h.2, h.3) ∙ ap (λ z. got z rest) (sym h.1);
}

-- which bodies are read
pub record BodiesStand (fs : List Function) (front : List ℕ) : Type 0 where
  pub read : Option (List Body)
  pub stands : Stands 10 None (BodiesPiece (length (map kind_of fs))) read front
  pub there : is_missing (length (map kind_of fs)) read ≡ false
  pub same : functions (map kind_of fs) (given read) ≡ fs

same_functions : (fs : List Function) → functions (map kind_of fs) (map body_of fs) ≡ fs
same_functions [] = refl
same_functions (f ∷ fs) = ap (λ gs. f ∷ gs) (same_functions fs)

code_items : (fs : List Function) (front : List ℕ) → items grammar.function_code fs front
    → AllByRecursion (λ (f : Function). length f.locals ≤ 50_000) fs
    → AllByRecursion (λ (f : Function). depth f.body ≤ 500) fs
    → items (λ (f : Function). Sized (BodyPiece (body_of f))) fs front
code_items [] front h few shallow = h
code_items (f ∷ fs) front h few shallow = joined_so h
    (sized_so _ _ h.front h.first (λ g s. record { spelled = s; few = few.0; shallow = shallow.0 }))
    (code_items fs h.back h.second few.1 shallow.1)

code_section : (fs : List Function) (front : List ℕ) → grammar.section 10 grammar.function_code fs front
    → AllByRecursion (λ (f : Function). length f.locals ≤ 50_000) fs
    → AllByRecursion (λ (f : Function). depth f.body ≤ 500) fs → BodiesStand fs front
code_section fs front (inl h) few shallow = record {
  read = None;
  stands = inl (refl, h.1);
  there = ap (λ (gs : List Function). ltb 0 (length (map kind_of gs))) h.0;
  same = ap (λ (gs : List Function). functions (map kind_of gs) []) h.0 ∙ sym h.0;
}
code_section fs front (inr h) few shallow = record {
  read = Some (map body_of fs);
  stands =
      inr (in_section 10 _ _ front h
      (λ f v. (
        map body_of fs,
        refl,
        vector_map (λ b. Sized (BodyPiece b)) body_of fs f
            (joined_so v v.first (code_items fs v.back v.second few shallow)),
        length-map fs body_of ∙ sym (length-map fs kind_of),
      )));
  there = refl;
  same = same_functions fs;
}

-- one step, over bytes that are given whole
level : {A B : Type 0} {content : Reader A} {P : A → List ℕ → Type 0} {S T : List ℕ → Type 0} {bytes : List ℕ} {y : B}
    (k : ℕ) (missing : A) (f : A → Reader B) (x : A) (j : Joined grammar.customs (Joined S T) bytes) → k ≤ 11 → 0 < k
    → Again content P → Skips (f x) → Stands k missing P x j.second.front → Rereads (suc k) (f x) y j.second.back
    → Rereads k (after_customs (section k missing content) >>= f) y bytes
level {content = content} {P = P} {y = y} k missing f x j low high again skips stands r =
    subst (Rereads k (after_customs (section k missing content) >>= f) y)
    (sym (j.whole ∙ ap (λ z. j.front ++ z) j.second.whole))
    (step k missing content P f x y j.front j.second.front j.second.back low high again skips stands r j.first)

abbrev pub full : PureModule → Option (List Body) → Parts
full m bs = record {
  types = m.types;
  kinds = map kind_of m.funcs;
  table = m.table;
  memory = m.memory;
  globals = m.globals;
  exports = m.exports;
  elements = m.elements;
  bodies = bs;
  segments = m.segments;
}

-- what stands behind the header
parts_read : (m : PureModule) (bytes : List ℕ) (h : Spells bytes m) (w : IsWithinProfile m)
    → (bs : Option (List Body)) × Rereads 1 sections.sections (full m bs) h.back
    × (functions (map kind_of m.funcs) (given bs) ≡ m.funcs)
parts_read m bytes h w =
    let j1 = h.second in
    let j2 = j1.second.second in
    let j3 = j2.second.second in
    let j4 = j3.second.second in
    let j5 = j4.second.second in
    let j6 = j5.second.second in
    let j7 = j6.second.second in
    let j9 = j7.second.second in
    let j10 = j9.second.second in
    let j11 = j10.second.second in
    let b = code_section m.funcs j10.second.front j10.second.first w.further_locals w.function_depth in
    let p = full m b.read in
    let there = is_missing (length (map kind_of m.funcs)) b.read in
    let e : Rereads 12 (end_of_file there >>= λ _. gives p) p j11.second.back =
    subst (λ (c : Bool). Rereads 12 (end_of_file c >>= λ _. gives p) p j11.second.back) (sym b.there)
    (last (λ _. gives p) p j11.second.back (λ end. refl) j11.second.second) in (
      b.read,
      level 1 [] _ m.types j1 (omega arith) (omega arith) (again_vector again_function_type) (skips_after _ _)
          (listed_section 1 grammar.function_type _ m.types _ w.type_results j1.second.first)
          (level 2 0 _ 0 j2 (omega arith) (omega arith) (again_at_most 0) (skips_after _ _)
          (import_section _ j2.second.first)
          (level 3 [] _ (map kind_of m.funcs) j3 (omega arith) (omega arith) (again_vector again_u32) (skips_after _ _)
          (kinds_section m.funcs _ j3.second.first)
          (level 4 None _ m.table j4 (omega arith) (omega arith) (again_single again_table) (skips_after _ _)
          (single_section 4 100_000 grammar.table m.table _ w.table_elements j4.second.first)
          (level 5 None _ m.memory j5 (omega arith) (omega arith) (again_single again_memory) (skips_after _ _)
          (single_section 5 1_024 grammar.limits m.memory _ w.memory_pages j5.second.first)
          (level 6 [] _ m.globals j6 (omega arith) (omega arith) (again_vector again_global) (skips_after _ _)
          (listed_section 6 grammar.global _ m.globals _ w.global_depth j6.second.first)
          (level 7 [] _ m.exports j7 (omega arith) (omega arith) (again_vector again_export) (skips_after _ _)
          (listed_section 7 grammar.export _ m.exports _ w.export_names j7.second.first)
          (no_start_step _ p j7.second.back (skips_after _ _)
          (level 9 [] _ m.elements j9 (omega arith) (omega arith) (again_vector again_element) (skips_after _ _)
          (listed_section 9 grammar.element _ m.elements _ w.element_depth j9.second.first)
          (level 10 None _ b.read j10 (omega arith) (omega arith) (again_present (length (map kind_of m.funcs)))
          (skips_after _ _) b.stands
          (level 11 [] _ m.segments j11 (omega arith) (omega arith) (again_vector again_data) (skips_after _ _)
          (listed_section 11 grammar.data_segment _ m.segments _ w.segment_depth j11.second.first) e)))))))))),
      b.same,
    )

-- All bytes.
pub spelled_module_is_read : (m : PureModule) (bytes : List ℕ) → Spells bytes m → IsWithinProfile m
    → module_in bytes ≡ Ok m
spelled_module_is_read m bytes h w =
    let r = parts_read m bytes h w in
    let e : bytes ≡ header_bytes ++ h.back = h.whole ∙ ap (λ z. z ++ h.back) h.first in
    subst
    (λ (z : List ℕ). cond (starts z) (sections.answer (length bytes) (sections.sections (length bytes) (drop 8 z)))
    (Err bad.Magic) ≡ sections.answer (length bytes) (sections.sections (length bytes) h.back)) (sym e) refl
    ∙ (ap (sections.answer (length bytes)) (r.1.reads (length bytes))
    ∙ ap (λ (fs : List Function). Ok (record m { funcs = fs })) r.2)

-- A file.
pub spelled_file_is_read : (m : PureModule) (bytes : List ℕ) → IsWithinFileLimit bytes → Spells bytes m
    → IsWithinProfile m → module_read bytes ≡ Ok m
spelled_file_is_read m bytes limit h w =
    cond-false (ltb 67_108_864 (length bytes)) _ _ (le-ltb _ _ limit) ∙ spelled_module_is_read m bytes h w
