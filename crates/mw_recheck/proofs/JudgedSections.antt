-- A section is judged exactly where it is right for its term.
use Rattle.std.proofs.Common.{◌≡◌, ℕ, ◌+◌, List, [], ◌++◌, length, Some}
use Rattle.std.proofs.Common.{ap, ◌∙◌, subst, arith}
use Rattle.std.proofs.lemmas.List.{drop_all}
use Rattle.std.proofs.lemmas.Option.{same_Some}
use Rattle.mw_term.specs.Terms.{Expression, size}
use Rattle.mw_term.specs.Types.{live}
use Rattle.mw_types.specs.Types.{TypeExpression}
use Rattle.mw_lines.specs.TypeLines.{AreTypeLines}
use Rattle.mw_lines.specs.Naming.{types_named}
use Rattle.mw_lines.specs.Deciding.{are_type_lines}
use Rattle.mw_recheck.specs.Sections.{SectionLines, FitsSection}
use Rattle.mw_recheck.specs.Texts.{section_text}
use Rattle.mw_recheck.specs.Notes.{TopNote, Noted}
use Rattle.mw_recheck.specs.Certificates.{Certified}
use Rattle.mw_recheck.specs.Judging.{type_of, judged}
use Rattle.mw_recheck.specs.Reading.{section_at}
use Rattle.mw_recheck.specs.Deciding.{section_judged, root_at}
use Rattle.mw_lines.proofs.NamedTypes.{one_list, lines_decided}
use Rattle.mw_recheck.proofs.NodeLines.{bound, bind_some, passed}
use Rattle.mw_recheck.proofs.NodeTypes.{here}
use Rattle.mw_recheck.proofs.JudgedSound.{sound}
use Rattle.mw_recheck.proofs.JudgedWhole.{whole}
use Rattle.mw_recheck.proofs.ReadSections.{AreShort, section_found, section_there}
use Rattle.mw_recheck.proofs.ShortLines.{short_lines}

pub judged_certified : (tops : List TopNote) (e : Expression) (x : SectionLines) (t : TypeExpression)
    → length x.nodes ≡ size e
    → section_judged tops e x ≡ Some t → Certified tops e x t
judged_certified tops e x t count h =
    let c = passed (are_type_lines x.types) _ t h in
    let known = (lines_decided x.types).0 c.0 in
    let r = bound (judged x.types tops [] live e x.nodes) _ t c.1 in
    let s = sound x.types known x.nodes tops [] live 0 e r.0 r.1 in
    let same : type_of x.types r.0.0 ≡ t = same_Some (type_of x.types r.0.0) t r.2 in
    record { types = types_named x.types; table = known; count = count; noted = rw same at s.noted }

pub certified_judged : (tops : List TopNote) (e : Expression) (x : SectionLines) (t : TypeExpression)
    → Certified tops e x t
    → (section_judged tops e x ≡ Some t) × AreShort x.nodes
certified_judged tops e x t c =
    let q = one_list x.types c.types c.table in
    let known : AreTypeLines x.types (types_named x.types) = rw q at c.table in
    let noted : Noted (here x.types x.nodes) tops [] live 0 e t = rw q at c.noted in
    let w = whole x.types known x.nodes tops [] live 0 e t tt noted in
    let answer : judged x.types tops [] live e x.nodes ≡ Some (w.at, []) = w.answer
    ∙ ap (λ l. Some (w.at, l)) (drop_all (0 + size e) x.nodes (omega (arith, c.count))) in (
      rw ((lines_decided x.types).1 known) (bind_some (judged x.types tops [] live e x.nodes) _ (w.at, []) answer
          ∙ ap (λ u. Some u) w.is),
      short_lines x.types tops e x.nodes w.at answer,
    )

-- the bytes begin with the section's text
pub root_found : (tops : List TopNote) (e : Expression) (bytes : List ℕ) (y : TypeExpression × List ℕ)
    → root_at tops e bytes ≡ Some y
    → (x : SectionLines) × FitsSection x × (bytes ≡ section_text x ++ y.1) × Certified tops e x y.0
root_found tops e bytes y h =
    let x = bound (section_at (size e) bytes) _ y h in
    let t = bound (section_judged tops e x.0.0) _ y x.2 in
    let f = section_found (size e) bytes x.0 x.1 in
    let same : (t.0, x.0.1) ≡ y = same_Some (t.0, x.0.1) y t.2 in (
      x.0.0,
      f.1,
      f.0 ∙ ap (λ z. section_text x.0.0 ++ z.1) same,
      subst (λ z. Certified tops e x.0.0 z.0) same
          (judged_certified tops e x.0.0 t.0 f.2 t.1),
    )

pub root_there : (tops : List TopNote) (e : Expression) (x : SectionLines) (t : TypeExpression) (rest : List ℕ)
    → FitsSection x → Certified tops e x t
    → root_at tops e (section_text x ++ rest) ≡ Some (t, rest)
root_there tops e x t rest f c =
    let j = certified_judged tops e x t c in
    let s : section_at (size e) (section_text x ++ rest) ≡ Some (x, rest) =
    subst (λ n. section_at n (section_text x ++ rest) ≡ Some (x, rest)) c.count (section_there x rest f j.1) in
    bind_some (section_at (size e) (section_text x ++ rest)) _ (x, rest) s
    ∙ bind_some (section_judged tops e x) _ t j.0
