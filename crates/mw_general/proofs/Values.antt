-- What assignments make of what is read of nodes: of their numbers, and of the types and classifiers put for these.
use Rattle.std.proofs.Common.{◌≡◌, ℕ, ◌<◌, List, [], ◌∷◌, ◌++◌, Option, Some, None, map, refl, ap, ◌∙◌}
use Rattle.std.specs.Prelude.{IfSome, option_map, option_to_list}
use Rattle.std.specs.List.{AllByRecursion}
use Rattle.std.proofs.lemmas.List.{map-append}
use Rattle.mw_term.specs.Types.{TermType}
use Rattle.mw_types.specs.Types.{TypeExpression, Assignment, value, Substitution, after}
use Rattle.mw_types.specs.Equations.{Agree}
use Rattle.mw_infer.specs.Nodes.{NodeNumbers, facts_at}
use Rattle.mw_infer.specs.Typings.{AreNodesWithin}
use Rattle.mw_written.specs.Readings.{a_type, a_classifier, ReadingValue, type_value, classifier_value}
use Rattle.mw_written.specs.Readings.{reading_value}
use Rattle.mw_written.proofs.LineReadings.{line_says}
use Rattle.mw_general.specs.Telling.{fact_readings}

-- what is made of types and then of classifiers
abbrev pub values_of : List TermType → List ℕ → List ReadingValue
values_of ts cs = map (λ t. type_value t) ts ++ map (λ c. classifier_value c) cs

types_valued : (b : Assignment) (us : List TypeExpression)
    → map (reading_value b) (map (λ t. a_type t) us) ≡ map (λ t. type_value t) (map (value b) us)
types_valued b [] = refl
types_valued b (t ∷ us) = ap (λ vs. type_value (value b t) ∷ vs) (types_valued b us)

classifiers_valued : (b : Assignment) (cs : List ℕ)
    → map (reading_value b) (map (λ c. a_classifier c) cs) ≡ map (λ c. classifier_value c) (map b.classifier cs)
classifiers_valued b [] = refl
classifiers_valued b (c ∷ cs) = ap (λ vs. classifier_value (b.classifier c) ∷ vs) (classifiers_valued b cs)

-- what an assignment makes of a line
pub line_valued : (b : Assignment) (us : List TypeExpression) (cs : List ℕ)
    → map (reading_value b) (line_says us cs) ≡ values_of (map (value b) us) (map b.classifier cs)
line_valued b us cs =
    map-append (reading_value b) (map (λ t. a_type t) us) (map (λ c. a_classifier c) cs)
    ∙ rw (types_valued b us, classifiers_valued b cs) refl

-- the types and the classifier of a node under an assignment of its numbers
abbrev pub types_under : Assignment → NodeNumbers → List TermType
types_under a x = map a.ty x.types

abbrev pub classifiers_under : Assignment → NodeNumbers → List ℕ
classifiers_under a x = map a.classifier (option_to_list x.classifier)

abbrev pub node_values : Assignment → List NodeNumbers → List ReadingValue
node_values a [] = []
node_values a (x ∷ xs) = values_of (types_under a x) (classifiers_under a x) ++ node_values a xs

-- assignments that are one on the numbers of nodes
types_agree : {n m : ℕ} {a b : Assignment} → Agree n m a b → (us : List ℕ) → AllByRecursion (λ u. u < n) us
    → map a.ty us ≡ map b.ty us
types_agree h [] w = refl
types_agree h (u ∷ us) w = rw (h.types u w.0, types_agree h us w.1) refl

classifiers_agree : {n m : ℕ} {a b : Assignment} → Agree n m a b → (k : Option ℕ) → IfSome k (λ c. c < m)
    → map a.classifier (option_to_list k) ≡ map b.classifier (option_to_list k)
classifiers_agree h None w = refl
classifiers_agree h (Some c) w = rw (h.classifiers c w) refl

pub record SameNode (a b : Assignment) (x : NodeNumbers) : Type 0 where
  pub types : types_under a x ≡ types_under b x
  pub classifiers : classifiers_under a x ≡ classifiers_under b x

abbrev pub AreSameNodes : Assignment → Assignment → List NodeNumbers → Type 0
AreSameNodes a b [] = Unit {0}
AreSameNodes a b (x ∷ xs) = SameNode a b x × AreSameNodes a b xs

pub agree_same : {n m : ℕ} {a b : Assignment} → Agree n m a b → (xs : List NodeNumbers) → AreNodesWithin n m xs
    → AreSameNodes a b xs
agree_same h [] w = tt
agree_same h (x ∷ xs) w = (
  record {
    types = types_agree h x.types w.0.types;
    classifiers = classifiers_agree h x.classifier w.0.classifier;
  },
  agree_same h xs w.1,
)

pub same_values : (a b : Assignment) (xs : List NodeNumbers) → AreSameNodes a b xs
    → node_values a xs ≡ node_values b xs
same_values a b [] h = refl
same_values a b (x ∷ xs) h = rw (h.0.types, h.0.classifiers, same_values a b xs h.1) refl

-- what an assignment makes of what a substitution says of nodes
types_told : (d : Assignment) (s : Substitution) (us : List ℕ)
    → map (value d) (map s.ty us) ≡ map (after d s).ty us
types_told d s [] = refl
types_told d s (u ∷ us) = ap (λ ts. value d (s.ty u) ∷ ts) (types_told d s us)

classifiers_told : (d : Assignment) (s : Substitution) (k : Option ℕ)
    → map d.classifier (option_to_list (option_map s.classifier k)) ≡ map (after d s).classifier (option_to_list k)
classifiers_told d s None = refl
classifiers_told d s (Some c) = refl

pub told_values : (d : Assignment) (s : Substitution) (xs : List NodeNumbers)
    → map (reading_value d) (fact_readings (map (facts_at s) xs)) ≡ node_values (after d s) xs
told_values d s [] = refl
told_values d s (x ∷ xs) =
    map-append (reading_value d) (line_says (map s.ty x.types) (option_to_list (option_map s.classifier x.classifier)))
    (fact_readings (map (facts_at s) xs))
    ∙ rw (
      line_valued d (map s.ty x.types) (option_to_list (option_map s.classifier x.classifier)),
      types_told d s x.types,
      classifiers_told d s x.classifier,
      told_values d s xs,
    ) refl
