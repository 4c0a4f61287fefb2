-- Node lines that are the places of written types tell what the nodes are, with new numbers.
use Rattle.std.proofs.Common.{◌≡◌, ℕ, ◌+◌, nat_eq, List, [], ◌∷◌, ◌++◌, map, length, Option, Some, None, refl, ap}
use Rattle.std.proofs.Common.{◌∙◌, append_assoc, length-append}
use Rattle.std.specs.Prelude.{slice_get, option_map, option_to_list}
use Rattle.mw_types.specs.Types.{TypeExpression, apply}
use Rattle.mw_lines.specs.Naming.{types_named}
use Rattle.mw_recheck.specs.Notes.{AllNamed}
use Rattle.mw_section.specs.Writing.{Writing, place_of}
use Rattle.mw_section.specs.Writers.{IsWritten}
use Rattle.mw_section.specs.WritingLaws.{AreTyped}
use Rattle.mw_section.proofs.Places.{IsAt}
use Rattle.mw_infer.specs.Nodes.{NodeFacts}
use Rattle.mw_agree.specs.Telling.{Tell, renaming, with_numbers}
use Rattle.mw_agree.proofs.Numbers.{numbers_by}
use Rattle.mw_agree.proofs.NumberPlaces.{place-number, named-by_place}

-- the types were written, and have their lines at these places
abbrev pub AllWritten : Writing → List ℕ → List TypeExpression → Type 0
AllWritten w [] [] = Unit {0}
AllWritten w [] (t ∷ ts) = ⊥
AllWritten w (p ∷ ps) [] = ⊥
AllWritten w (p ∷ ps) (t ∷ ts) = IsWritten t p w × AllWritten w ps ts

-- the classifier, if there is one, is the only one of these numbers, by its place
abbrev pub IsPlacedIn : List ℕ → Option ℕ → List ℕ → Type 0
IsPlacedIn cs None ks = ks ≡ []
IsPlacedIn cs (Some c) ks = IsAt nat_eq c cs (place_of c cs) × (ks ≡ place_of c cs ∷ [])

-- the line has the places of a node's types, and the number of its classifier
pub record IsNodeWritten (w : Writing) (x : NodeFacts) (line : List ℕ) : Type 0 where
  pub places : List ℕ
  pub numbers : List ℕ
  pub parts : line ≡ places ++ numbers
  pub types : AllWritten w places x.types
  pub classifier : IsPlacedIn w.classifiers x.classifier numbers

abbrev pub AreNodesWritten : Writing → List NodeFacts → List (List ℕ) → Type 0
AreNodesWritten w [] [] = Unit {0}
AreNodesWritten w [] (l ∷ nodes) = ⊥
AreNodesWritten w (x ∷ facts) [] = ⊥
AreNodesWritten w (x ∷ facts) (l ∷ nodes) = IsNodeWritten w x l × AreNodesWritten w facts nodes

behind : (front rest : List (List ℕ)) (l : List ℕ) → slice_get (front ++ l ∷ rest) (length front) ≡ Some l
behind [] rest l = refl
behind (x ∷ front) rest l = behind front rest l

placed : (cs us : List ℕ) (c : Option ℕ) (ks : List ℕ) → IsPlacedIn cs c ks
    → ks ≡ option_to_list (option_map (numbers_by us cs).classifier c)
placed cs us None ks h = h
placed cs us (Some c) ks h = h.1 ∙ ap (λ k. k ∷ []) (place-number cs c (place_of c cs) h.0)

module _ (w : Writing) (y : AreTyped w) where
  all-named : (ps : List ℕ) (ts : List TypeExpression) → AllWritten w ps ts
      → AllNamed (types_named w.lines) ps (map (apply (renaming (numbers_by w.unknowns w.classifiers))) ts)
  all-named [] [] h = tt
  all-named [] (t ∷ ts) h = absurd h
  all-named (p ∷ ps) [] h = absurd h
  all-named (p ∷ ps) (t ∷ ts) h = (named-by_place t p w y h.0, all-named ps ts h.1)

  told-behind : (front nodes : List (List ℕ)) (facts : List NodeFacts) → AreNodesWritten w facts nodes
      → Tell (record { types = types_named w.lines; nodes = front ++ nodes }) (length front)
      (map (with_numbers (numbers_by w.unknowns w.classifiers)) facts)
  told-behind front [] [] h = tt
  told-behind front (l ∷ nodes) [] h = absurd h
  told-behind front [] (x ∷ facts) h = absurd h
  told-behind front (l ∷ nodes) (x ∷ facts) h =
      let a = h.0 in
      let z = told-behind (front ++ l ∷ []) nodes facts h.1 in
      let e : length (front ++ l ∷ []) ≡ length front + 1 = length-append front (l ∷ []) in (
        record {
          lines = a.places;
          line = behind front nodes l ∙ ap (λ k. Some k) (a.parts ∙ ap (λ k. a.places ++ k)
              (placed w.classifiers w.unknowns x.classifier a.numbers a.classifier));
          named = all-named a.places x.types a.types;
        },
        rw (e, append_assoc front (l ∷ []) nodes) at z,
      )

  -- so a section with these node lines, and the lines that were written, tells the nodes
  pub told-section : (nodes : List (List ℕ)) (facts : List NodeFacts) → AreNodesWritten w facts nodes
      → Tell (record { types = types_named w.lines; nodes = nodes }) 0
      (map (with_numbers (numbers_by w.unknowns w.classifiers)) facts)
  told-section nodes facts h = told-behind [] nodes facts h
