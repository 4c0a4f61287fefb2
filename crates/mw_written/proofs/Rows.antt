-- The worked examples: which certificates are the written ones.
use Rattle.std.proofs.Common.{◌≡◌, ℕ, List, [], ◌∷◌, length, get_or, refl, sym, ap, subst}
use Rattle.std.proofs.Common.{arith, pos, codes}
use Rattle.std.specs.Prelude.{map}
use Rattle.std.proofs.lemmas.Fmt.{decimal_digit}
use Rattle.std.proofs.lemmas.Option.{same_Some}
use Rattle.mw_term.specs.declared.term.Base.TheVariants.{Int}
use Rattle.mw_term.specs.declared.term.Primitive.TheVariants.{Add}
use Rattle.mw_term.specs.Terms.{Expression, GroundType, base, of_ground, num, var, fun, bind, prim, bracket, run, close}
use Rattle.mw_term.specs.Types.{live, under}
use Rattle.mw_term.specs.Programs.{PureProgram}
use Rattle.mw_types.specs.Types.{TypeExpression, int_ty, function_ty, code_ty, closed_ty, Assignment, value}
use Rattle.mw_types.specs.Expressions.{ground_expression}
use Rattle.mw_types.specs.Numbered.{an_int, seen, next, a_function, code_seen, a_closed}
use Rattle.mw_lines.specs.TypeLines.{int_line, unknown_line, arrow_line, code_line, closed_line}
use Rattle.mw_lines.specs.Naming.{types_named}
use Rattle.mw_lines.proofs.NamedTypes.{one_list}
use Rattle.mw_recheck.specs.Sections.{SectionLines}
use Rattle.mw_recheck.specs.Texts.{certificate_text}
use Rattle.mw_recheck.specs.Notes.{Notes, Noted}
use Rattle.mw_recheck.specs.Certificates.{Certified, CertifiesBy}
use Rattle.mw_recheck.specs.Examples.{sum_program, run_program}
use Rattle.mw_recheck.proofs.JudgedPrograms.{program_found as found}
use Rattle.mw_recheck.proofs.JudgedSections.{judged_certified}
use Rattle.mw_written.specs.Readings.{Reading, a_type, a_classifier, type_counts, readings}
use Rattle.mw_written.specs.Readings.{reading_value}
use Rattle.mw_written.specs.Order.{all_read, type_read, classifier_seen, classifier_next}
use Rattle.mw_written.specs.Written.{IsMostGeneral, IsWrittenSection, IsMainRoot, IsWritten, IsCertificateOf}
use Rattle.mw_written.specs.Examples.{let_program, ExamplesAreWritten, OthersAreNotWritten}
use Rattle.mw_written.proofs.LineReadings.{line_read}
use Rattle.mw_written.proofs.OneProgram.{certificates_one}

-- the one section of a program without items
module _ (body : Expression) (result : GroundType) (x : SectionLines) where
  abbrev alone : PureProgram
  alone = record { items = []; result = result; body = body }

  section_right : Certified [] body x (ground_expression result) → CertifiesBy (x ∷ []) alone
  section_right c = record {
    roots = [];
    root_count = refl;
    section_count = refl;
    item = λ i d y t h g r. absurd (cc);
    main = λ y h. subst (λ z. Certified [] body z (ground_expression result)) (same_Some x y h) c;
  }

  section_written : Certified [] body x (ground_expression result)
      → IsWrittenSection [] body (IsMainRoot alone) x → IsWritten (x ∷ []) alone
  section_written c w = record {
    right = section_right c;
    item = λ i d y h g. absurd (cc);
    main = λ y h. subst (λ z. IsWrittenSection [] body (IsMainRoot alone) z) (same_Some x y h) w;
  }

-- what is read of a section that is right, over the types that its lines name
named_readings : (body : Expression) (y : SectionLines) (t : TypeExpression) (c : Certified [] body y t)
    (rs : List Reading) → readings c.types (type_counts body) y.nodes ≡ rs
    → rs ≡ readings (types_named y.types) (type_counts body) y.nodes
named_readings body y t c rs h =
    sym (subst (λ ts. readings ts (type_counts body) y.nodes ≡ rs) (one_list y.types c.types c.table) h)

-- 1 + 2
abbrev sum_body : Expression
sum_body = prim Add (num (pos 1)) (num (pos 2))

abbrev sum_section : SectionLines
sum_section = record { types = int_line ∷ []; nodes = (0 ∷ []) ∷ (0 ∷ []) ∷ (0 ∷ []) ∷ [] }

sum_read : (ts : List TypeExpression) (nodes : List (List ℕ)) (t : TypeExpression) → length nodes ≡ 3
    → Noted (record { types = ts; nodes = nodes }) [] [] live 0 sum_body t
    → readings ts (type_counts sum_body) nodes ≡ a_type int_ty ∷ a_type int_ty ∷ a_type int_ty ∷ []
sum_read ts (k ∷ l ∷ o ∷ []) t e h =
    let p : Notes = record { types = ts; nodes = k ∷ l ∷ o ∷ [] } in
    let x = line_read p live 0 (t ∷ []) [] k h.1 refl in
    let y = line_read p live 1 (int_ty ∷ []) [] l h.2.1 refl in
    let z = line_read p live 2 (int_ty ∷ []) [] o h.3.1 refl in
    rw (x, y, z, h.0) refl
sum_read ts _ t e h = absurd (omega (arith, e))

sum_general : IsMostGeneral [] sum_body (IsMainRoot sum_program) sum_section
sum_general y t c asked b =
    let read = sum_read c.types y.nodes t c.count c.noted in
    (b, ap (λ rs. map (reading_value b) rs) (named_readings sum_body y t c _ read))

sum_written : IsWritten (sum_section ∷ []) sum_program
sum_written = section_written sum_body (base Int) sum_section
    (judged_certified [] sum_body sum_section int_ty refl refl)
    (record {
      general = sum_general;
      numbered = type_read an_int (type_read an_int (type_read an_int all_read));
      completed = refl;
    })

sum_text : certificate_text (sum_section ∷ []) ≡ codes "cert1\ntypes 1\nint\nnodes 3\n0\n0\n0\n"
sum_text = rw (decimal_digit 0 (omega arith), decimal_digit 1 (omega arith), decimal_digit 3 (omega arith)) refl

sum_certificate : IsCertificateOf sum_program (codes "cert1\ntypes 1\nint\nnodes 3\n0\n0\n0\n")
sum_certificate = (
  sum_section ∷ [],
  record {
    fits = omega arith;
    text = sym sum_text;
  },
  sum_written,
)

-- run[int] (close .<7>.)
abbrev run_body : Expression
run_body = run (of_ground (base Int)) (close 24 (bracket (num (pos 7))))

abbrev run_section : SectionLines
run_section = record {
  types = int_line ∷ closed_line 0 ∷ code_line 0 0 ∷ [];
  nodes = (0 ∷ []) ∷ (1 ∷ 0 ∷ 0 ∷ []) ∷ (2 ∷ 0 ∷ []) ∷ (0 ∷ []) ∷ [];
}

abbrev run_readings : ℕ → List Reading
run_readings c =
    a_type int_ty ∷ a_type (closed_ty int_ty) ∷ a_type int_ty ∷ a_classifier c ∷ a_type (code_ty c int_ty)
    ∷ a_classifier c ∷ a_type int_ty ∷ []

run_read : (ts : List TypeExpression) (nodes : List (List ℕ)) (t : TypeExpression) → length nodes ≡ 4
    → Noted (record { types = ts; nodes = nodes }) [] [] live 0 run_body t
    → (c : ℕ) × (readings ts (type_counts run_body) nodes ≡ run_readings c)
run_read ts (k ∷ l ∷ o ∷ r ∷ []) t e h =
    let p : Notes = record { types = ts; nodes = k ∷ l ∷ o ∷ r ∷ [] } in
    let x = line_read p live 0 (t ∷ []) [] k h.1 refl in
    let c = h.2 in
    let y = line_read p live 1 (closed_ty t ∷ c.1 ∷ []) (c.0 ∷ []) l c.4 refl in
    let b = c.5 in
    let z = line_read p live 2 (code_ty c.0 c.1 ∷ []) (b.0 ∷ []) o b.3 refl in
    let w = line_read p (under b.0) 3 (b.1 ∷ []) [] r b.4.1 refl in
    let content : c.1 ≡ int_ty = let f = c.2 in let g = h.0 in cc in
    let named : b.0 ≡ c.0 = let f = b.2 in cc in
    (c.0, rw (x, y, z, w, h.0, b.4.0, named, content) refl)
run_read ts _ t e h = absurd (omega (arith, e))

run_general : IsMostGeneral [] run_body (IsMainRoot run_program) run_section
run_general y t c asked b =
    let read = run_read c.types y.nodes t c.count c.noted in
    let d : Assignment = record { ty = b.ty; classifier = λ _. b.classifier read.0 } in
    (d, ap (λ rs. map (reading_value b) rs) (named_readings run_body y t c (run_readings read.0) read.1))

run_written : IsWritten (run_section ∷ []) run_program
run_written = section_written run_body (base Int) run_section
    (judged_certified [] run_body run_section int_ty refl refl)
    (record {
      general = run_general;
      numbered =
          type_read an_int (type_read (a_closed an_int) (type_read an_int (classifier_next refl
          (type_read (code_seen (omega arith) an_int) (classifier_seen (omega arith) (type_read an_int all_read))))));
      completed = refl;
    })

run_text : certificate_text (run_section ∷ [])
    ≡ codes "cert1\ntypes 3\nint\nclosed 0\ncode 0 0\nnodes 4\n0\n1 0 0\n2 0\n0\n"
run_text = rw (
  decimal_digit 0 (omega arith),
  decimal_digit 1 (omega arith),
  decimal_digit 2 (omega arith),
  decimal_digit 3 (omega arith),
  decimal_digit 4 (omega arith),
) refl

run_certificate : IsCertificateOf run_program
    (codes "cert1\ntypes 3\nint\nclosed 0\ncode 0 0\nnodes 4\n0\n1 0 0\n2 0\n0\n")
run_certificate = (
  run_section ∷ [],
  record {
    fits = omega arith;
    text = sym run_text;
  },
  run_written,
)

-- let f = fun x -> x in 1
abbrev let_body : Expression
let_body = bind (fun (var 0)) (num (pos 1))

abbrev let_section : SectionLines
let_section = record {
  types = int_line ∷ unknown_line 0 ∷ arrow_line 1 1 ∷ [];
  nodes = (0 ∷ 2 ∷ []) ∷ (2 ∷ 1 ∷ []) ∷ (1 ∷ []) ∷ (0 ∷ []) ∷ [];
}

abbrev let_readings : TypeExpression → List Reading
let_readings s =
    a_type int_ty ∷ a_type (function_ty s s) ∷ a_type (function_ty s s) ∷ a_type s ∷ a_type s ∷ a_type int_ty ∷ []

let_read : (ts : List TypeExpression) (nodes : List (List ℕ)) (t : TypeExpression) → length nodes ≡ 4
    → Noted (record { types = ts; nodes = nodes }) [] [] live 0 let_body t
    → (s : TypeExpression) × (readings ts (type_counts let_body) nodes ≡ let_readings s)
let_read ts (k ∷ l ∷ o ∷ r ∷ []) t e h =
    let p : Notes = record { types = ts; nodes = k ∷ l ∷ o ∷ r ∷ [] } in
    let f = h.2 in
    let x = line_read p live 0 (t ∷ h.0 ∷ []) [] k h.1 refl in
    let y = line_read p live 1 (h.0 ∷ f.0 ∷ []) [] l f.3 refl in
    let z = line_read p live 2 (f.1 ∷ []) [] o f.4.1 refl in
    let w = line_read p live 3 (t ∷ []) [] r h.3.1 refl in
    let same : f.1 ≡ f.0 = let g = f.4.0 in cc in
    (f.0, rw (x, y, z, w, h.3.0, f.2, same) refl)
let_read ts _ t e h = absurd (omega (arith, e))

let_general : IsMostGeneral [] let_body (IsMainRoot let_program) let_section
let_general y t c asked b =
    let read = let_read c.types y.nodes t c.count c.noted in
    let d : Assignment = record { ty = λ _. value b read.0; classifier = b.classifier } in
    (d, ap (λ rs. map (reading_value b) rs) (named_readings let_body y t c (let_readings read.0) read.1))

let_written : IsWritten (let_section ∷ []) let_program
let_written = section_written let_body (base Int) let_section
    (judged_certified [] let_body let_section int_ty refl refl)
    (record {
      general = let_general;
      numbered =
          type_read an_int (type_read (a_function (next refl) (seen (omega arith)))
          (type_read (a_function (seen (omega arith)) (seen (omega arith))) (type_read (seen (omega arith))
          (type_read (seen (omega arith)) (type_read an_int all_read)))));
      completed = refl;
    })

let_text : certificate_text (let_section ∷ [])
    ≡ codes "cert1\ntypes 3\nint\nu 0\narrow 1 1\nnodes 4\n0 2\n2 1\n1\n0\n"
let_text = rw (
  decimal_digit 0 (omega arith),
  decimal_digit 1 (omega arith),
  decimal_digit 2 (omega arith),
  decimal_digit 3 (omega arith),
  decimal_digit 4 (omega arith),
) refl

let_certificate : IsCertificateOf let_program
    (codes "cert1\ntypes 3\nint\nu 0\narrow 1 1\nnodes 4\n0 2\n2 1\n1\n0\n")
let_certificate = (
  let_section ∷ [],
  record {
    fits = omega arith;
    text = sym let_text;
  },
  let_written,
)

pub written_examples : ExamplesAreWritten
written_examples = record { sum = sum_certificate; run = run_certificate; unknown = let_certificate }

-- where other bytes are the written certificate, with another byte at a place, these aren't
another : (p : PureProgram) (bytes written : List ℕ) (i : ℕ) → IsCertificateOf p written
    → (get_or bytes i 0 ≡ get_or written i 0 → ⊥) → IsCertificateOf p bytes → ⊥
another p bytes written i w differs v = differs (ap (λ bs. get_or bs i 0) (certificates_one p bytes written v w))

pub other_examples : OthersAreNotWritten
other_examples = record {
  order = record {
    certifies = found (codes "cert1\ntypes 3\nint\ncode 0 0\nclosed 0\nnodes 4\n0\n2 0 0\n1 0\n0\n") run_program refl;
    unwritten = another run_program _ _ 19 run_certificate (λ e. absurd (omega (arith, e)));
  };
  unknown = record {
    certifies = found (codes "cert1\ntypes 3\nint\nu 1\narrow 1 1\nnodes 4\n0 2\n2 1\n1\n0\n") let_program refl;
    unwritten = another let_program _ _ 20 let_certificate (λ e. absurd (omega (arith, e)));
  };
  classifier = record {
    certifies = found (codes "cert1\ntypes 3\nint\nclosed 0\ncode 1 0\nnodes 4\n0\n1 0 1\n2 1\n0\n") run_program refl;
    unwritten = another run_program _ _ 32 run_certificate (λ e. absurd (omega (arith, e)));
  };
  unneeded = record {
    certifies = found (codes "cert1\ntypes 2\nint\nbool\nnodes 3\n0\n0\n0\n") sum_program refl;
    unwritten = another sum_program _ _ 12 sum_certificate (λ e. absurd (omega (arith, e)));
  };
  special = record {
    certifies = found (codes "cert1\ntypes 2\nint\narrow 0 0\nnodes 4\n0 1\n1 0\n0\n0\n") let_program refl;
    unwritten = another let_program _ _ 12 let_certificate (λ e. absurd (omega (arith, e)));
  };
}
