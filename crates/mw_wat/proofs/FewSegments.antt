-- A text within the limit has few segments, since each takes a token.
use Rattle.std.proofs.Common.{◌≡◌, ℕ, ◌+◌, ◌^◌, ◌<◌, ◌≤◌, List, [], ◌∷◌, ◌++◌, map, length, length-append, ap, ◌∙◌}
use Rattle.std.proofs.Common.{arith, codes}
use Rattle.std.specs.List.{flat_map}
use Rattle.std.proofs.lemmas.List.{length-map}
use Rattle.mw_wasm.specs.declared.modules.Module.{Module}
use Rattle.mw_wasm.specs.Syntax.{PureModule, ElementSegment, DataSegment}
use Rattle.mw_wasm.specs.Profile.{IsWithinFileLimit}
use Rattle.mw_wasm.specs.Views.{module_of, element_of, segment_of}
use Rattle.mw_wat.specs.Tokens.{PureToken, ReadsTo, so_far, behind_blank, behind_token}
use Rattle.mw_wat.specs.Lexemes.{Lexeme, left, right, word, token_of, function_type, function, table, memory, global}
use Rattle.mw_wat.specs.Lexemes.{export, element, data_segment, fields, lexemes}
use Rattle.mw_wat.specs.ModuleTexts.{IsTextOf}
use Rattle.mw_wasm.specs.BinaryModules.{at_most_one}
use Rattle.mw_wat.proofs.TokensOfText.{longer}

few_tokens : {bytes rest : List ℕ} {tokens : List PureToken} → ReadsTo bytes tokens rest
    → length tokens + length rest ≤ length bytes
few_tokens so_far = omega arith
few_tokens (behind_blank v r) = omega (arith, few_tokens r)
few_tokens (behind_token g r) = omega (arith, few_tokens r, longer g)

abbrev joined : List (List Lexeme) → List Lexeme
joined ls = flat_map (λ line. line) ls

each_line : {A : Type 0} (f : A → List Lexeme) → ((x : A) → 0 < length (f x)) → (xs : List A)
    → length xs ≤ length (joined (map f xs))
each_line f p [] = omega arith
each_line f p (x ∷ xs) = omega (arith, p x, each_line f p xs, length-append (f x) (joined (map f xs)))

behind : (xs ys : List (List Lexeme)) → length (joined ys) ≤ length (joined (xs ++ ys))
behind [] ys = omega arith
behind (x ∷ xs) ys = omega (arith, behind xs ys, length-append x (joined (xs ++ ys)))

before : (xs ys : List (List Lexeme)) → length (joined xs) ≤ length (joined (xs ++ ys))
before [] ys = omega arith
before (x ∷ xs) ys =
    omega (arith, before xs ys, length-append x (joined (xs ++ ys)), length-append x (joined xs))

element_long : (e : ElementSegment) → 0 < length (element e)
element_long e = omega arith

segment_long : (d : DataSegment) → 0 < length (data_segment d)
segment_long d = omega arith

few_lexemes : (m : PureModule) → length (joined (fields m)) ≤ length (lexemes m)
few_lexemes m =
    omega (
      arith,
      before (fields m) ((right ∷ []) ∷ []),
      behind ((left ∷ word (codes "module") ∷ []) ∷ []) (fields m ++ (right ∷ []) ∷ []),
    )

pub few_segments : (bytes : List ℕ) (m : PureModule) → IsTextOf bytes m → IsWithinFileLimit bytes
    → (length m.elements < 2 ^ 32) × (length m.segments < 2 ^ 32)
few_segments bytes m t w =
    let front =
    map function_type m.types ++ map function m.funcs ++ map table (at_most_one m.table) ++ map memory
    (at_most_one m.memory) ++ map global m.globals ++ map export m.exports in
    let tokens : length t.0 ≤ length bytes = omega (arith, few_tokens t.1) in
    let same : length t.0 ≡ length (lexemes m) = ap length t.2.tokens_are ∙ length-map (lexemes m) token_of in (
      omega (
        arith,
        few_lexemes m,
        each_line element element_long m.elements,
        behind front (map element m.elements),
        before (front ++ map element m.elements) (map data_segment m.segments),
      ),
      omega (
        arith,
        few_lexemes m,
        each_line data_segment segment_long m.segments,
        behind (front ++ map element m.elements) (map data_segment m.segments),
      ),
    )

pub few_of_module : (bytes : List ℕ) (m : Module) → IsTextOf bytes (module_of m) → IsWithinFileLimit bytes
    → (length m.elements < 2 ^ 32) × (length m.segments < 2 ^ 32)
few_of_module bytes m t w =
    let f = few_segments bytes (module_of m) t w in
    (omega (arith, f.0, length-map m.elements element_of), omega (arith, f.1, length-map m.segments segment_of))
