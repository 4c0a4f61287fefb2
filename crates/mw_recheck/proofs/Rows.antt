-- The worked certificates, by computation.
use Rattle.std.proofs.Common.{◌≡◌, ℕ, List, [], ◌∷◌, refl, sym, ◌∙◌, arith, true≢false, false, codes}
use Rattle.mw_term.specs.Programs.{PureProgram}
use Rattle.mw_types.specs.Types.{TypeExpression}
use Rattle.mw_lines.specs.TypeLines.{arrow_line, NamesType, names_arrow}
use Rattle.mw_recheck.specs.Certificates.{Certifies}
use Rattle.mw_recheck.specs.Deciding.{certified}
use Rattle.mw_recheck.specs.Examples.{sum_program, run_program, ExamplesAreCertified, OthersAreNot, OneClassifierFits}
use Rattle.mw_recheck.specs.Examples.{OwnLineNames}
use Rattle.mw_recheck.proofs.JudgedPrograms.{program_found as found, program_there as there}

pub certified_examples : ExamplesAreCertified
certified_examples = record {
  sum = found (codes "cert1\ntypes 1\nint\nnodes 3\n0\n0\n0\n") sum_program refl;
  run = found (codes "cert1\ntypes 3\nint\nclosed 0\ncode 0 0\nnodes 4\n0\n1 0 0\n2 0\n0\n") run_program refl;
}

none : (bytes : List ℕ) (p : PureProgram) → certified bytes p ≡ false → Certifies bytes p → ⊥
none bytes p h c = absurd (true≢false (sym (there bytes p c) ∙ h))

pub others : OthersAreNot
others = record {
  empty = λ p. none [] p refl;
  wrong_type = none (codes "cert1\ntypes 3\nint\nclosed 0\ncode 0 0\nnodes 4\n0\n1 0 0\n2 0\n1\n") run_program refl;
  last_line_feed = none (codes "cert1\ntypes 1\nint\nnodes 3\n0\n0\n0") sum_program refl;
  leading_zero = none (codes "cert1\ntypes 1\nint\nnodes 3\n00\n0\n0\n") sum_program refl;
  doubled_line = none (codes "cert1\ntypes 2\nint\nint\nnodes 3\n0\n0\n0\n") sum_program refl;
}

pub one_classifier : OneClassifierFits
one_classifier p tops n t h =
    let b = h.5 in
    let f = b.4 in
    let o = f.4.1 in
    let c = o.4 in
    let first : h.0 ≡ b.0 = let e = b.2 in cc in
    let third : c.0 ≡ c.5.0 = let e = c.5.2 in cc in
    let same : b.0 ≡ c.5.0 = cc in
    c.3.0.0 (same ∙ sym third)

pub own_line : OwnLineNames
own_line ls [] h = absurd (let e = h.count in cc)
own_line ls (t ∷ ts) h = at_first t (h.each 0 (arrow_line 0 0) t refl refl)
  where
    at_first : (t : TypeExpression) → NamesType (t ∷ ts) 0 (arrow_line 0 0) t → ⊥
    at_first t (names_arrow a b) = absurd (let e = a.earlier in omega (arith, e))
