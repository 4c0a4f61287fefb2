-- Fields, sections and modules that are read from bytes that begin alike.
use Rattle.std.proofs.Common.{◌≡◌, ◌<◌, ◌≤◌, ℕ, zero, suc, ◌+◌, ◌-◌, ◌⊎◌, inl, inr, Bool, true, false, ◌&&◌, cond, eqb}
use Rattle.std.proofs.Common.{leb, ltb, List, [], ◌∷◌, ◌++◌, length, take, drop, Some, None, refl, sym, ap}
use Rattle.std.proofs.Common.{◌∙◌, append_assoc, arith, length-append, length-drop}
use Rattle.std.specs.Prelude.{replicate}
use Rattle.std.proofs.lemmas.Bool.{leb-true}
use Rattle.std.proofs.lemmas.List.{take-append-drop, drop-append-le}
use Rattle.mw_decode.specs.declared.fault.BadModule.TheVariants as bad
use Rattle.mw_decode.specs.declared.fault.BadModule.TheVariants.{Magic, Opcode}
use Rattle.mw_decode.specs.Reading.{Read, got, ended, faulty, Reader, is, u32}
use Rattle.mw_decode.specs.Reading.{times}
use Rattle.mw_decode.specs.Sections as sections
use Rattle.mw_decode.specs.Sections.{function_type, has_max, maximum, limits, table, memory, global, printable}
use Rattle.mw_decode.specs.Sections.{export_kind, export, element, data_segment, run_count, runs, Body, body}
use Rattle.mw_decode.specs.Sections.{function_code, bodies, single, customs_within, customs, section, after_customs}
use Rattle.mw_decode.specs.Sections.{no_start, no_more, is_missing, present, Parts}
use Rattle.mw_decode.proofs.Choices.{passes}
use Rattle.mw_decode.proofs.ReaderSoundness.{got_parts, sound_u32}
use Rattle.mw_decode.proofs.ReadingFixedPoint.{same_then, shorter}
use Rattle.mw_decode.proofs.SharedFronts.{Same, Shared, shared_head, follows_shared, follows_keeps}
use Rattle.mw_decode.proofs.SharedFronts.{follows_silent, follows_if, shared_silent, shared_if, shared_gives}
use Rattle.mw_decode.proofs.SharedFronts.{shared_bound, shared_then}
use Rattle.mw_decode.proofs.SharedNumbers.{silent_outside, silent_outside_here, silent_section_here, silent_section}
use Rattle.mw_decode.proofs.SharedNumbers.{silent_size, silent_end, shared_byte, shared_fixed, shared_u32}
use Rattle.mw_decode.proofs.SharedNumbers.{shared_at_most, shared_times, shared_vector, shared_optional, shared_sized}
use Rattle.mw_decode.proofs.SharedNumbers.{nat_cases}
use Rattle.mw_decode.proofs.SharedCode.{shared_value_type, shared_expression}

shared_function_type : Shared function_type
shared_function_type =
    shared_then (shared_fixed 0x60) λ _.
    shared_then (shared_vector shared_value_type) λ params.
    shared_then (shared_at_most 1) λ n.
    shared_then (shared_times n shared_value_type) λ results.
    shared_gives (record { params = params; results = results })

shared_maximum : (more : Bool) → Shared (maximum more)
shared_maximum false = shared_gives None
shared_maximum true = shared_then shared_u32 λ max. shared_gives (Some max)

shared_limits : (most : ℕ) → Shared (limits most)
shared_limits most =
    shared_then (shared_byte has_max) λ more.
    shared_then (shared_at_most most) λ min.
    shared_then (shared_maximum more) λ max.
    shared_gives (record { min = min; max = max })

shared_table : Shared table
shared_table = shared_then (shared_fixed 0x70) λ _. shared_limits 100_000

shared_global : Shared global
shared_global =
    shared_then shared_value_type λ kind.
    shared_then (shared_byte has_max) λ variable.
    shared_then shared_expression λ init.
    shared_gives (record { kind = kind; variable = variable; init = init })

shared_export : Shared export
shared_export =
    shared_then (shared_vector (shared_byte printable)) λ name.
    shared_then (shared_byte export_kind) λ what.
    shared_then shared_u32 λ x.
    shared_gives (record { name = name; what = what x })

shared_element : Shared element
shared_element =
    shared_then (shared_at_most 0) λ _.
    shared_then shared_expression λ offset.
    shared_then (shared_vector shared_u32) λ funcs.
    shared_gives (record { offset = offset; funcs = funcs })

shared_data : Shared data_segment
shared_data =
    shared_then (shared_at_most 0) λ _.
    shared_then shared_expression λ offset.
    shared_then (shared_vector (shared_byte is)) λ bytes.
    shared_gives (record { offset = offset; bytes = bytes })

shared_run_count : (before : ℕ) → Shared (run_count before)
shared_run_count before =
    shared_bound u32 (λ at n e rest. cond (leb (before + n) 50_000) (got n rest) (faulty (bad.OutsideProfile at)))
    shared_u32
    (λ at n. shared_if (leb (before + n) 50_000) (shared_gives n) (shared_silent (silent_outside at)))

shared_runs : (k before : ℕ) → Shared (runs k before)
shared_runs zero before = shared_gives []
shared_runs (suc k) before =
    shared_then (shared_run_count before) λ n.
    shared_then shared_value_type λ t.
    shared_then (shared_runs k (before + n)) λ ts.
    shared_gives (replicate n t ++ ts)

shared_body : Shared body
shared_body =
    shared_then shared_u32 λ n.
    shared_then (shared_runs n 0) λ locals.
    shared_then shared_expression λ code.
    shared_gives (record { locals = locals; code = code })

shared_function_code : Shared function_code
shared_function_code = shared_sized (λ at. faulty (bad.Size at)) (λ at. silent_size at) shared_body

shared_bodies : (functions : ℕ) → Shared (bodies functions)
shared_bodies functions =
    shared_bound u32
    (λ at n e rest. cond (eqb n functions) (times n function_code e rest) (faulty (bad.Section at))) shared_u32
    (λ at n. shared_if (eqb n functions) (shared_times n shared_function_code) (shared_silent (silent_section at)))

shared_single : {A : Type 0} {r : Reader A} → Shared r → Shared (single r)
shared_single s = shared_then (shared_at_most 1) λ n. shared_optional n s

-- what is read behind content that is skipped
module _ {A : Type 0} (r : Reader A) (size : ℕ) (s : Shared r) where
  abbrev skip : Reader A
  skip e rest = cond (leb size (length rest)) (r e (drop size rest)) ended

  skip_is : (e : ℕ) (bytes : List ℕ) (m : Read A) → skip e bytes ≡ m → (ended ≡ m → ⊥)
      → (size ≤ length bytes) × (r e (drop size bytes) ≡ m)
  skip_is e bytes m h never =
      let q = passes (leb size (length bytes)) _ _ _ h never in (leb-true size (length bytes) q.0, q.1)

  skip_wrong : (e : ℕ) (bytes : List ℕ) (n : ℕ) → skip e bytes ≡ faulty (Opcode n)
      → (size ≤ length bytes) × (r e (drop size bytes) ≡ faulty (Opcode n))
  skip_wrong e bytes n h = skip_is e bytes (faulty (Opcode n)) h (λ g. cc)

  skip_got : (e : ℕ) (bytes : List ℕ) (x : A) (rest : List ℕ) → skip e bytes ≡ got x rest
      → (size ≤ length bytes) × (r e (drop size bytes) ≡ got x rest)
  skip_got e bytes x rest h = skip_is e bytes (got x rest) h (λ g. cc)

  dropped : (e : ℕ) (f c : List ℕ) (m : Read A) → size ≤ length f → r e (drop size (f ++ c)) ≡ m
      → r e (drop size f ++ c) ≡ m
  dropped e f c m l h = sym (ap (r e) (drop-append-le size f c l)) ∙ h

  end_of : (p e : ℕ) (f c : List ℕ) → size ≤ length f → e ≡ p + length (f ++ c)
      → e ≡ (p + size) + length (drop size f ++ c)
  end_of p e f c l w = omega (arith, length-append f c, length-append (drop size f) c, length-drop size f)

  skip_placed : (p e n : ℕ) (bytes : List ℕ) → e ≡ p + length bytes → skip e bytes ≡ faulty (Opcode n)
      → (p + size ≤ n) × (n < e)
  skip_placed p e n bytes w h =
      let k = skip_wrong e bytes n h in
      let l = k.0 in
      s.placed (p + size) e n (drop size bytes) (omega (arith, length-drop size bytes)) k.1

  skip_shorter : (e : ℕ) (bytes : List ℕ) (x : A) (rest : List ℕ) → skip e bytes ≡ got x rest
      → length rest ≤ length bytes - size
  skip_shorter e bytes x rest h =
      let k = skip_got e bytes x rest h in
      let l = s.shorter e (drop size bytes) x rest k.1 in omega (arith, length-drop size bytes)

  skip_fault : (p e1 e2 n : ℕ) (f c1 c2 : List ℕ) → e1 ≡ p + length (f ++ c1) → e2 ≡ p + length (f ++ c2)
      → skip e1 (f ++ c1) ≡ faulty (Opcode n) → n < p + length f → (y : A) (rest : List ℕ)
      → skip e2 (f ++ c2) ≡ got y rest → ⊥
  skip_fault p e1 e2 n f c1 c2 w1 w2 h l y rest g = elim (nat_cases size (length f)) [
    | inl i ↦ s.fault (p + size) e1 e2 n (drop size f) c1 c2 (end_of p e1 f c1 i w1) (end_of p e2 f c2 i w2)
        (dropped e1 f c1 _ i (skip_wrong e1 (f ++ c1) n h).1) (omega (arith, length-drop size f)) y rest
        (dropped e2 f c2 _ i (skip_got e2 (f ++ c2) y rest g).1)
    | inr i ↦ let k = (skip_placed p e1 n (f ++ c1) w1 h).0 in omega arith
  ]

  skip_both : (p e1 e2 : ℕ) (f c1 c2 : List ℕ) (x y : A) (rest1 rest2 : List ℕ) → e1 ≡ p + length (f ++ c1)
      → e2 ≡ p + length (f ++ c2) → skip e1 (f ++ c1) ≡ got x rest1 → skip e2 (f ++ c2) ≡ got y rest2
      → Same f c1 c2 x y rest1 rest2 ⊎ (length rest1 ≤ length c1)
  skip_both p e1 e2 f c1 c2 x y rest1 rest2 w1 w2 h g = elim (nat_cases size (length f)) [
    | inl i ↦ elim (s.both (p + size) e1 e2 (drop size f) c1 c2 x y rest1 rest2 (end_of p e1 f c1 i w1)
        (end_of p e2 f c2 i w2) (dropped e1 f c1 _ i (skip_got e1 (f ++ c1) x rest1 h).1)
        (dropped e2 f c2 _ i (skip_got e2 (f ++ c2) y rest2 g).1)) [
          | inl m ↦ inl (record {
            used = take size f ++ m.used;
            left = m.left;
            whole =
                sym (take-append-drop size f)
                ∙ (ap (λ z. take size f ++ z) m.whole ∙ sym (append_assoc (take size f) m.used m.left));
            value = m.value;
            one = m.one;
            two = m.two;
          })
          | inr b ↦ inr b
        ]
    | inr i ↦ let k = skip_shorter e1 (f ++ c1) x rest1 h in inr (omega (arith, length-append f c1))
  ]

  shared_skip : Shared skip
  shared_skip = record {
    fault = skip_fault;
    both = skip_both;
    placed = λ p e n bytes w h. let k = skip_placed p e n bytes w h in let l = k.0 in (omega arith, k.1);
    shorter = λ e bytes x rest h. let k = skip_shorter e bytes x rest h in omega arith;
    no_header = λ e bytes h. s.no_header e (drop size bytes) (skip_is e bytes (faulty Magic) h (λ g. cc)).1;
  }

-- custom sections
shared_customs_within : (k : ℕ) → Shared (customs_within k)
shared_customs_within zero = shared_gives tt
shared_customs_within (suc k) =
    shared_head (customs_within (suc k)) (λ e at h. cc) (λ e h. cc) (λ e x rest h. sym (got_parts tt x [] rest h).1)
    (λ b.
    follows_if b (eqb b 0)
    (follows_shared b (shared_then shared_u32 λ size. shared_skip (customs_within k) size (shared_customs_within k)))
    (follows_keeps b tt))

if_same : {A : Type 0} (c : Bool) (x x2 y : A) → (c ≡ true → x ≡ x2) → cond c x y ≡ cond c x2 y
if_same true x x2 y h = h refl
if_same false x x2 y h = refl

customs_room : (k m e : ℕ) (bytes : List ℕ) → length bytes ≤ k → length bytes ≤ m
    → customs_within k e bytes ≡ customs_within m e bytes
customs_room zero zero e bytes h l = refl
customs_room zero (suc m) e [] h l = refl
customs_room zero (suc m) e (b ∷ bytes) h l = absurd (omega arith)
customs_room (suc k) zero e [] h l = refl
customs_room (suc k) zero e (b ∷ bytes) h l = absurd (omega arith)
customs_room (suc k) (suc m) e [] h l = refl
customs_room (suc k) (suc m) e (b ∷ bytes) h l = if_same (eqb b 0) _ _ (got tt (b ∷ bytes)) (λ _.
    same_then (u32 e bytes) _ _ (λ size mid g.
    if_same (leb size (length mid)) _ _ ended (λ _.
    let s = shorter sound_u32 e bytes size mid g in
    customs_room k m e (drop size mid) (omega (arith, length-drop size mid)) (omega (arith, length-drop size mid)))))

shared_customs : Shared customs
shared_customs = record {
  fault = λ p e1 e2 at f c1 c2 w1 w2 h l y rest g.
      let k = length (f ++ c1) + length (f ++ c2) in
      (shared_customs_within k).fault p e1 e2 at f c1 c2 w1 w2
      (customs_room k (length (f ++ c1)) e1 (f ++ c1) (omega arith) (omega arith) ∙ h) l y rest
      (customs_room k (length (f ++ c2)) e2 (f ++ c2) (omega arith) (omega arith) ∙ g);
  both = λ p e1 e2 f c1 c2 x y rest1 rest2 w1 w2 h g.
      let k = length (f ++ c1) + length (f ++ c2) in
      (shared_customs_within k).both p e1 e2 f c1 c2 x y rest1 rest2 w1 w2
      (customs_room k (length (f ++ c1)) e1 (f ++ c1) (omega arith) (omega arith) ∙ h)
      (customs_room k (length (f ++ c2)) e2 (f ++ c2) (omega arith) (omega arith) ∙ g);
  placed = λ p e at bytes w h. (shared_customs_within (length bytes)).placed p e at bytes w h;
  shorter = λ e bytes x rest h. (shared_customs_within (length bytes)).shorter e bytes x rest h;
  no_header = λ e bytes h. (shared_customs_within (length bytes)).no_header e bytes h;
}

-- sections
shared_section : {A : Type 0} {content : Reader A} (id : ℕ) (missing : A) → Shared content
    → Shared (after_customs (section id missing content))
shared_section {content = content} id missing s =
    shared_then shared_customs λ _.
    shared_head (section id missing content) (λ e at h. cc) (λ e h. cc)
    (λ e x rest h. sym (got_parts missing x [] rest h).1)
    (λ b. follows_if b (eqb b id) (follows_shared b (shared_sized (λ _. ended) (λ at. silent_end) s))
    (follows_if b (ltb id b && leb b 11) (follows_keeps b missing) (follows_silent b (silent_section_here b))))

shared_no_start : Shared (after_customs no_start)
shared_no_start =
    shared_then shared_customs λ _.
    shared_head no_start (λ e at h. cc) (λ e h. cc) (λ e x rest h. sym (got_parts tt x [] rest h).1)
    (λ b. follows_if b (eqb b 8) (follows_silent b (silent_outside_here b))
    (follows_if b (ltb 8 b && leb b 11) (follows_keeps b tt) (follows_silent b (silent_section_here b))))

shared_no_more : (missing : Bool) → Shared (after_customs (no_more missing))
shared_no_more true =
    shared_then shared_customs λ _.
    shared_head (no_more true) (λ e at h. cc) (λ e h. cc) (λ e x rest h. absurd (cc))
    (λ b. follows_silent b (silent_section_here b))
shared_no_more false =
    shared_then shared_customs λ _.
    shared_head (no_more false) (λ e at h. cc) (λ e h. cc) (λ e x rest h. sym (got_parts tt x [] rest h).1)
    (λ b. follows_silent b (silent_section_here b))

shared_present : {A : Type 0} {r : Reader A} → Shared r → Shared (present r)
shared_present s = shared_then s λ x. shared_gives (Some x)

pub shared_sections : Shared sections.sections
shared_sections =
    shared_then (shared_section 1 [] (shared_vector shared_function_type)) λ types.
    shared_then (shared_section 2 0 (shared_at_most 0)) λ _.
    shared_then (shared_section 3 [] (shared_vector shared_u32)) λ kinds.
    shared_then (shared_section 4 None (shared_single shared_table)) λ table.
    shared_then (shared_section 5 None (shared_single (shared_limits 1_024))) λ memory.
    shared_then (shared_section 6 [] (shared_vector shared_global)) λ globals.
    shared_then (shared_section 7 [] (shared_vector shared_export)) λ exports.
    shared_then shared_no_start λ _.
    shared_then (shared_section 9 [] (shared_vector shared_element)) λ elements.
    shared_then (shared_section 10 None (shared_present (shared_bodies (length kinds)))) λ bodies.
    shared_then (shared_section 11 [] (shared_vector shared_data)) λ segments.
    shared_then (shared_no_more (is_missing (length kinds) bodies)) λ _.
    shared_gives _
