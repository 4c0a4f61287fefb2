-- A term has one written section at most, where it sees one list of names.
use Rattle.std.proofs.Common.{◌≡◌, List, [], Some, refl, sym, ap, ◌∙◌, subst}
use Rattle.std.proofs.lemmas.Option.{same_Some}
use Rattle.mw_term.specs.Terms.{Expression}
use Rattle.mw_types.specs.Types.{TypeExpression}
use Rattle.mw_lines.specs.TypeLines.{AreTypeLines}
use Rattle.mw_lines.specs.Naming.{types_named}
use Rattle.mw_lines.proofs.NamedTypes.{one_list}
use Rattle.mw_recheck.specs.Sections.{SectionLines}
use Rattle.mw_recheck.specs.Notes.{TopNote}
use Rattle.mw_recheck.specs.Certificates.{Certified}
use Rattle.mw_recheck.specs.Deciding.{section_judged}
use Rattle.mw_recheck.proofs.JudgedSections.{certified_judged}
use Rattle.mw_written.specs.Readings.{type_counts, readings, section_readings}
use Rattle.mw_written.specs.Order.{with_readings}
use Rattle.mw_written.specs.Written.{IsWrittenSection}
use Rattle.mw_written.proofs.LeadingTypePlaces.{AllNameFirst, named_nodes}
use Rattle.mw_written.proofs.OneReading.{one_reading}
use Rattle.mw_written.proofs.OneTable.{one_table}
use Rattle.mw_written.proofs.OneNodes.{one_nodes}

module _ (tops : List TopNote) (e : Expression) (x : SectionLines) (root : TypeExpression)
    (c : Certified tops e x root) where
  -- the lines of a right section, over the types that they name
  known : AreTypeLines x.types (types_named x.types)
  known = subst (λ ts. AreTypeLines x.types ts) (one_list x.types c.types c.table) c.table

  first : AllNameFirst (types_named x.types) (type_counts e) x.nodes
  first =
      subst (λ ts. AllNameFirst ts (type_counts e) x.nodes) (one_list x.types c.types c.table)
      (named_nodes c.types x.nodes tops e root c.count c.noted)

  -- its root type is a function of it
  judged_root : section_judged tops e x ≡ Some root
  judged_root = (certified_judged tops e x root c).0

same_section : (x y : SectionLines) → x.types ≡ y.types → x.nodes ≡ y.nodes → x ≡ y
same_section x y p q = rw (p, q) refl

pub record AreOne (x y : SectionLines) (r s : TypeExpression) : Type 0 where
  pub sections : x ≡ y
  pub roots : r ≡ s

pub one_section : (tops : List TopNote) (e : Expression) (asked : TypeExpression → Type 0) (x y : SectionLines)
    (r s : TypeExpression) → Certified tops e x r → Certified tops e y s → asked r → asked s
    → IsWrittenSection tops e asked x → IsWrittenSection tops e asked y → AreOne x y r s
one_section tops e asked x y r s c d p q v w =
    let read = one_reading (section_readings e x) (section_readings e y) (v.general y s d q) (w.general x r c p)
    v.numbered w.numbered in
    let types : types_named x.types ≡ types_named y.types =
    v.completed ∙ ap (λ rs. with_readings [] rs) read ∙ sym w.completed in
    let lines = one_table x.types y.types (types_named x.types) (known tops e x r c)
    (subst (λ ts. AreTypeLines y.types ts) (sym types) (known tops e y s d)) in
    let nodes = one_nodes x.types (types_named x.types) (known tops e x r c) (type_counts e) x.nodes y.nodes
    (first tops e x r c)
    (subst (λ ts. AllNameFirst ts (type_counts e) y.nodes) (sym types) (first tops e y s d))
    (read ∙ ap (λ ts. readings ts (type_counts e) y.nodes) (sym types)) in
    let same = same_section x y lines nodes in
    record {
      sections = same;
      roots = same_Some r s (sym (judged_root tops e x r c) ∙ ap (λ z. section_judged tops e z) same
          ∙ judged_root tops e y s d);
    }
