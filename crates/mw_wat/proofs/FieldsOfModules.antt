-- The fields of a module, kind by kind.
use Rattle.std.proofs.Common.{◌≡◌, ℕ, List, [], ◌∷◌, ◌++◌, map, refl, ◌∙◌, append_assoc}
use Rattle.std.specs.Prelude.{codes}
use Rattle.std.specs.List.{AllByRecursion, flat_map}
use Rattle.std.proofs.lemmas.Grind.{flat_map-append}
use Rattle.mw_wasm.specs.declared.modules.Limits.{Limits}
use Rattle.mw_wasm.specs.Syntax.{PureModule}
use Rattle.mw_wasm.specs.BinaryModules.{at_most_one}
use Rattle.mw_wat.specs.Lexemes.{Lexeme, left, right, word}
use Rattle.mw_wat.specs.Lexemes as of
use Rattle.mw_wat.proofs.MeaningsOfWords.{both}
use Rattle.mw_wat.proofs.FieldsAreRead.{type_tail, function_tail, table_tail, memory_tail, global_tail, export_tail}
use Rattle.mw_wat.proofs.FieldsAreRead.{element_tail, data_tail}

-- a field by its word and what stands behind that
abbrev pub field_of : {A : Type 0} → List ℕ → (A → List Lexeme) → A → List Lexeme
field_of w tail x = left ∷ word w ∷ tail x

flat_same : {A : Type 0} (F : A → List Lexeme) (w : List ℕ) (tail : A → List Lexeme)
    → ((x : A) → F x ≡ field_of w tail x) → (xs : List A) → flat_map (λ l. l) (map F xs) ≡ flat_map
    (field_of w tail) xs
flat_same F w tail e [] = refl
flat_same F w tail e (x ∷ xs) = rw (e x, flat_same F w tail e xs) refl

flat_lists : (x1 x2 x3 x4 x5 x6 x7 x8 : List (List Lexeme))
    → flat_map (λ l. l) (x1 ++ x2 ++ x3 ++ x4 ++ x5 ++ x6 ++ x7 ++ x8 ++ (right ∷ []) ∷ [])
    ≡ flat_map (λ l. l) x1 ++ (flat_map (λ l. l) x2 ++ (flat_map (λ l. l) x3 ++ (flat_map (λ l. l) x4
    ++ (flat_map (λ l. l) x5 ++ (flat_map (λ l. l) x6 ++ (flat_map (λ l. l) x7 ++ (flat_map (λ l. l) x8
    ++ right ∷ [])))))))
flat_lists x1 x2 x3 x4 x5 x6 x7 x8 = simp (flat_map-append, append_assoc)

-- the fields of all kinds behind one another, and the parenthesis that closes the module
pub flat_fields : (m : PureModule) (tables memories : List Limits) → at_most_one m.table ≡ tables
    → at_most_one m.memory ≡ memories
    → flat_map (λ l. l) (of.fields m ++ (right ∷ []) ∷ [])
    ≡ flat_map (field_of (codes "type") type_tail) m.types ++ (flat_map (field_of (codes "func") function_tail) m.funcs
    ++ (flat_map (field_of (codes "table") table_tail) tables
    ++ (flat_map (field_of (codes "memory") memory_tail) memories
    ++ (flat_map (field_of (codes "global") global_tail) m.globals
    ++ (flat_map (field_of (codes "export") export_tail) m.exports
    ++ (flat_map (field_of (codes "elem") element_tail) m.elements
    ++ (flat_map (field_of (codes "data") data_tail) m.segments ++ right ∷ [])))))))
flat_fields m tables memories d e =
    flat_lists (map of.function_type m.types) (map of.function m.funcs) (map of.table (at_most_one m.table))
    (map of.memory (at_most_one m.memory)) (map of.global m.globals) (map of.export m.exports)
    (map of.element m.elements) (map of.data_segment m.segments)
    ∙ rw (
      d,
      e,
      flat_same of.function_type (codes "type") type_tail (λ x. refl) m.types,
      flat_same of.function (codes "func") function_tail (λ x. refl) m.funcs,
      flat_same of.table (codes "table") table_tail (λ x. refl) tables,
      flat_same of.memory (codes "memory") memory_tail (λ x. refl) memories,
      flat_same of.global (codes "global") global_tail (λ x. refl) m.globals,
      flat_same of.export (codes "export") export_tail (λ x. refl) m.exports,
      flat_same of.element (codes "elem") element_tail (λ x. refl) m.elements,
      flat_same of.data_segment (codes "data") data_tail (λ x. refl) m.segments,
    ) refl

-- P holds of each field where it holds of the fields of each kind
pub fields_hold : (P : List Lexeme → Type 0) (m : PureModule) → AllByRecursion P (map of.function_type m.types)
    → AllByRecursion P (map of.function m.funcs) → AllByRecursion P (map of.table (at_most_one m.table))
    → AllByRecursion P (map of.memory (at_most_one m.memory)) → AllByRecursion P (map of.global m.globals)
    → AllByRecursion P (map of.export m.exports) → AllByRecursion P (map of.element m.elements)
    → AllByRecursion P (map of.data_segment m.segments) → AllByRecursion P (of.fields m)
fields_hold P m a1 a2 a3 a4 a5 a6 a7 a8 =
    let l1 = map of.function_type m.types in
    let l2 = l1 ++ map of.function m.funcs in
    let l3 = l2 ++ map of.table (at_most_one m.table) in
    let l4 = l3 ++ map of.memory (at_most_one m.memory) in
    let l5 = l4 ++ map of.global m.globals in
    let l6 = l5 ++ map of.export m.exports in
    let l7 = l6 ++ map of.element m.elements in
    both P l7 _ (both P l6 _ (both P l5 _ (both P l4 _ (both P l3 _ (both P l2 _ (both P l1 _ a1 a2) a3) a4) a5) a6) a7)
    a8
