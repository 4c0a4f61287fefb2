-- A typable program without a type that is too big has a written certificate: each part is without fault, so its
-- equations have a small most general solution on their own numbers, whose section fits.
use Rattle.std.proofs.Common.{◌≡◌, ℕ, zero, suc, ◌+◌, ◌<◌, ◌^◌, List, [], ◌∷◌, map, length, Some, refl, ap, subst}
use Rattle.std.proofs.Common.{arith}
use Rattle.std.specs.List.{AllByRecursion}
use Rattle.std.specs.Prelude.{slice_get}
use Rattle.std.proofs.lemmas.List.{length-map}
use Rattle.std.proofs.lemmas.Option.{same_Some, none-some}
use Rattle.mw_term.specs.Terms.{size}
use Rattle.mw_term.specs.Programs.{PureProgram}
use Rattle.mw_term.specs.Sources.{IsSource}
use Rattle.mw_term.specs.Parts.{Part, IsPart, IsResolved}
use Rattle.mw_types.specs.Types.{Substitution, nodes}
use Rattle.mw_types.specs.Equations.{MostGeneral, IsSmall, StaysWithin}
use Rattle.mw_infer.specs.Inferring.{item_unknowns, item_classifiers, item_equations}
use Rattle.mw_infer.specs.Checking.{IsFaultless, AreFaultless}
use Rattle.mw_infer.specs.Nodes.{NodeNumbers, NodeFacts, node_numbers, facts_at, AreNodesOf, AreNodesOfPart}
use Rattle.mw_infer.specs.Typings.{AreNodesWithin}
use Rattle.mw_infer.proofs.Items.{item-within, typable-fresh}
use Rattle.mw_infer.proofs.Growing.{principal-own}
use Rattle.mw_infer.proofs.Progressing.{resolved-written}
use Rattle.mw_infer.proofs.Refusals.{part-one}
use Rattle.mw_infer.proofs.Deciding.{typable_faultless}
use Rattle.mw_infer.proofs.NodeLists.{numbers-within}
use Rattle.mw_agree.proofs.NodeCounts.{node_count}
use Rattle.mw_recheck.specs.Sections.{FitsSection, FitSections}
use Rattle.mw_recheck.specs.Texts.{certificate_text}
use Rattle.mw_made.specs.Making.{section_of}
use Rattle.mw_cert.specs.AcceptedLaws.{AcceptedHaveOne}
use Rattle.mw_cert.proofs.ShortNodes.{AllFew, numbers_few, part_there}
use Rattle.mw_cert.proofs.OwnNumbers.{most_general_within}
use Rattle.mw_cert.proofs.SectionSizes.{AreSmall, AreSmallNodes, section_fits}
use Rattle.mw_cert.proofs.CertificateBytes.{is_written}

-- on a small solution a term's nodes have small types
module _ (n m : ℕ) (s : Substitution) (small : IsSmall n s) where
  small_types : (us : List ℕ) → AllByRecursion (λ u. u < n) us → AreSmall (map s.ty us)
  small_types [] w = tt
  small_types (u ∷ us) w = (small u w.0, small_types us w.1)

  small_nodes : (ns : List NodeNumbers) → AreNodesWithin n m ns → AllFew ns → AreSmallNodes (map (facts_at s) ns)
  small_nodes [] w f = tt
  small_nodes (x ∷ ns) w f =
      let few = f.0 in (
        (omega (arith, length-map x.types s.ty), small_types x.types w.0.types),
        small_nodes ns w.1 f.1,
      )

-- what is known of the nodes of a part without fault
module _ (x : Part) (faultless : IsFaultless x) (source : IsSource x.term) (few : size x.term < 2 ^ 32) where
  abbrev unknowns : ℕ
  unknowns = item_unknowns faultless.schemes x.term

  abbrev classifiers : ℕ
  classifiers = item_classifiers faultless.schemes x.term

  abbrev numbers : List NodeNumbers
  numbers = node_numbers faultless.schemes 0 1 0 x.term

  inferred : (s : Substitution) × MostGeneral unknowns classifiers
      (item_equations faultless.schemes x.place x.term) s × StaysWithin unknowns classifiers s
      × ((u : ℕ) → nodes (s.ty u) ≡ nodes (faultless.fine.0.ty u))
  inferred =
      most_general_within unknowns classifiers (item_equations faultless.schemes x.place x.term) faultless.fine.0
      (item-within faultless.schemes x.place x.term (principal-own x.names faultless.schemes faultless.principal))
      faultless.fine.1

  is_small : IsSmall unknowns inferred.0
  is_small u lt =
      let e = inferred.3 u in
      let le = faultless.fine.2 u lt in
      omega arith

  facts : List NodeFacts
  facts = map (facts_at inferred.0) numbers

  are_nodes : AreNodesOfPart x facts
  unfolding facts
  are_nodes = record {
    schemes = faultless.schemes;
    principal = faultless.principal;
    solution = inferred.0;
    solves = record { general = inferred.1; small = is_small; within = inferred.2 };
    fresh = typable-fresh x.names faultless.schemes faultless.principal.of x.term source inferred.0 x.place inferred.1
        faultless.typable;
    told = refl;
  }

  fits : FitsSection (section_of facts)
  unfolding facts
  fits =
      let count = node_count faultless.schemes 0 1 0 x.term in
      section_fits (map (facts_at inferred.0) numbers)
      (small_nodes unknowns classifiers inferred.0 is_small numbers
      (numbers-within faultless.schemes unknowns classifiers 0 1 0 x.term (omega arith) (omega arith) (omega arith))
      (numbers_few faultless.schemes 0 1 0 x.term))
      (omega (arith, length-map numbers (facts_at inferred.0)))

-- a list of what there is for each index
listed : {A : Type 0} (n : ℕ) (P : ℕ → A → Type 0) → ((i : ℕ) → i < n → (a : A) × P i a)
    → (xs : List A) × (length xs ≡ n) × ((i : ℕ) (a : A) → slice_get xs i ≡ Some a → P i a)
listed zero P f = ([], refl, λ i a e. absurd (none-some a e))
listed {A = A} (suc n) P f =
    let first = f 0 (omega arith) in
    let later = listed n (λ i a. P (suc i) a) (λ i lt. f (suc i) (omega arith)) in
    (first.0 ∷ later.0, ap suc later.1, at first.0 first.1 later.0 later.2)
  where
    at : (a : A) → P 0 a → (xs : List A) → ((i : ℕ) (b : A) → slice_get xs i ≡ Some b → P (suc i) b) → (i : ℕ) (b : A)
        → slice_get (a ∷ xs) i ≡ Some b → P i b
    at a h xs g zero b e = subst (P 0) (same_Some a b e) h
    at a h xs g (suc i) b e = g i b e

all_fit : (parts : List (List NodeFacts))
    → ((i : ℕ) (facts : List NodeFacts) → slice_get parts i ≡ Some facts → FitsSection (section_of facts))
    → FitSections (map section_of parts)
all_fit [] f = tt
all_fit (facts ∷ parts) f = (f 0 facts refl, all_fit parts (λ i xs e. f (suc i) xs e))

module _ (p : PureProgram) (resolved : IsResolved p) (faultless : AreFaultless p) where
  -- what is known of the nodes of the part at an index
  abbrev IsTold : ℕ → List NodeFacts → Type 0
  IsTold i facts = ((x : Part) → IsPart p i x → AreNodesOfPart x facts) × FitsSection (section_of facts)

  told : (i : ℕ) → i < length p.items + 1 → (facts : List NodeFacts) × IsTold i facts
  told i lt =
      let x = part_there p i lt in
      let f = faultless i x.0 x.1 in
      let source = (resolved-written p resolved).sources i x.0 x.1 in
      let few = resolved.small i x.0 x.1 in (
        facts x.0 f source few,
        (
          λ y a. subst (λ z. AreNodesOfPart z (facts x.0 f source few)) (part-one p x.1 a)
              (are_nodes x.0 f source few),
          fits x.0 f source few,
        ),
      )

  parts : (parts : List (List NodeFacts)) × AreNodesOf p parts × FitSections (map section_of parts)
  parts =
      let all = listed (length p.items + 1) IsTold told in (
        all.0,
        record { count = all.1; each = λ i x facts a e. (all.2 i facts e).0 x a },
        all_fit all.0 (λ i facts e. (all.2 i facts e).1),
      )

pub accepted_have_one : AcceptedHaveOne
accepted_have_one p resolved typable none =
    let faultless = typable_faultless p (resolved-written p resolved) typable none in
    let all = parts p resolved faultless in
    let bytes = certificate_text (map section_of all.0) in
    (bytes, is_written p all.0 bytes resolved all.1 (record { fits = all.2; text = refl }))
