-- The lines of fields, as a program writes them.
use Rattle.std.proofs.Common.{◌≡◌, ℕ, ◌<◌, List, [], ◌∷◌, ◌++◌, map, length, refl, ap, sym, ◌∙◌, arith, Bool, true}
use Rattle.std.proofs.Common.{false, append_assoc, append-nil, Result, Ok, Err}
use Rattle.std.specs.Prelude.{codes, OnOk}
use Rattle.std.specs.List.{flat_map}
use Rattle.std.proofs.lemmas.Grind.{flat_map-append}
use Rattle.mw_wasm.specs.declared.values.ValType.{ValType}
use Rattle.mw_wat.specs.Names.{type_name}
use Rattle.mw_wat.specs.Lexemes.{Lexeme, left, right, word, number, keyed, constant, name, octets, within, types_behind}
use Rattle.mw_wat.specs.Lexemes.{global_type}
use Rattle.mw_wat.specs.CanonicalTexts.{spelled, gap, laid_out, line}
use Rattle.mw_wat.specs.Spacing.{spaced, opened}
use Rattle.mw_wat.proofs.TextParts.{ends_open, spaced_append}

-- a line is laid out as by its parts
gapped : (j : Lexeme) (is : List Lexeme) → gap right j ++ opened (j ∷ is) ≡ spaced (j ∷ is)
gapped left is = refl
gapped _ is = refl

behind : (text : List ℕ) (j : Lexeme) (is : List Lexeme) → text ++ gap right j ++ opened (j ∷ is) ≡ text ++ spaced
    (j ∷ is)
behind text j is = append_assoc text (gap right j) (opened (j ∷ is)) ∙ ap (λ t. text ++ t) (gapped j is)

joined : (i j : Lexeme) (is : List Lexeme) → spelled i ++ gap i j ++ opened (j ∷ is) ≡ opened (i ∷ j ∷ is)
joined left j is = refl
joined right j is = behind (spelled right) j is
joined (word w) j is = behind w j is
joined (number n) j is = behind (spelled (number n)) j is
joined (keyed key n) j is = behind (spelled (keyed key n)) j is
joined (constant w n) j is = behind (spelled (constant w n)) j is
joined (name bytes) j is = behind (spelled (name bytes)) j is
joined (octets bytes) j is = behind (spelled (octets bytes)) j is

alone : (i : Lexeme) → spelled i ≡ opened (i ∷ [])
alone left = refl
alone right = refl
alone (word w) = sym (append-nil w)
alone (number n) = sym (append-nil (spelled (number n)))
alone (keyed key n) = sym (append-nil (spelled (keyed key n)))
alone (constant w n) = sym (append-nil (spelled (constant w n)))
alone (name bytes) = sym (append-nil (spelled (name bytes)))
alone (octets bytes) = sym (append-nil (spelled (octets bytes)))

laid_opened : (is : List Lexeme) → laid_out is ≡ opened is
laid_opened [] = refl
laid_opened (i ∷ []) = alone i
laid_opened (i ∷ j ∷ is) = ap (λ t. spelled i ++ gap i j ++ t) (laid_opened (j ∷ is)) ∙ joined i j is

line_is : (w : List ℕ) (tail : List Lexeme) → ends_open false tail ≡ false → line (within (word w ∷ tail)) ≡
    ((codes "(" ++ w) ++ spaced tail) ++ codes ")\n"
line_is w tail e =
    ap (λ t. t ++ codes "\n")
    (laid_opened (within (word w ∷ tail)) ∙ ap (λ t. 0x28 ∷ (w ++ t)) (spaced_append tail (right ∷ []) e)
    ∙ sym (append_assoc (codes "(" ++ w) (spaced tail) (codes ")"))) ∙ append_assoc
    ((codes "(" ++ w) ++ spaced tail) (codes ")") (codes "\n")

-- a field's line, from its beginning to its end
pub field_line : {T E : Type 0} (r : Result T E) (old start mid new w : List ℕ) (tail : List Lexeme)
    → ends_open false tail ≡ false
    → start ≡ old ++ codes "(" ++ w → mid ≡ start ++ spaced tail → OnOk r (new ≡ mid ++ codes ")\n") → OnOk r
    (new ≡ old ++ line (within (word w ∷ tail)))
field_line (Ok x) old start mid new w tail c s m h =
    h ∙ ap (λ t. t ++ codes ")\n")
    (m ∙ ap (λ t. t ++ spaced tail)
    (s ∙ append_assoc old (codes "(") w) ∙ append_assoc old (codes "(" ++ w) (spaced tail))
    ∙ append_assoc old ((codes "(" ++ w) ++ spaced tail) (codes ")\n") ∙ ap (λ t. old ++ t) (sym (line_is w tail c))
field_line (Err x) old start mid new w tail c s m h = tt

pub types_some : (w : List ℕ) (ts : List ValType) → 0 < length ts → types_behind w ts ≡ within
    (word w ∷ map (λ t. word (type_name t)) ts)
types_some w [] p = absurd (omega arith)
types_some w (t ∷ ts) p = refl

-- lines one after another
pub lines_of : {A B : Type 0} (seen : A → B) (lexemes : B → List Lexeme) (xs : List A) → flat_map
    (λ x. line (lexemes (seen x))) xs ≡ flat_map line (map lexemes (map seen xs))
lines_of seen lexemes [] = refl
lines_of seen lexemes (x ∷ xs) = ap (λ t. line (lexemes (seen x)) ++ t) (lines_of seen lexemes xs)

pub then_lines : (old mid new : List ℕ) (xs ys : List (List Lexeme)) → mid ≡ old ++ flat_map line xs → new ≡ mid
    ++ flat_map line ys → new ≡ old ++ flat_map line (xs ++ ys)
then_lines old mid new xs ys e f = f ∙ ap (λ t. t ++ flat_map line ys) e ∙ append_assoc old (flat_map line xs)
    (flat_map line ys) ∙ ap (λ t. old ++ t) (sym (flat_map-append line xs ys))

pub last_lines : {T E : Type 0} (r : Result T E) (old mid new : List ℕ) (xs ys : List (List Lexeme)) → mid ≡ old
    ++ flat_map line xs → OnOk r (new ≡ mid ++ flat_map line ys) → OnOk r (new ≡ old ++ flat_map line (xs ++ ys))
last_lines (Ok x) old mid new xs ys e h = then_lines old mid new xs ys e h
last_lines (Err x) old mid new xs ys e h = tt

pub global_type_closed : (v : Bool) (t : ValType) → ends_open false (global_type v t) ≡ false
global_type_closed false t = refl
global_type_closed true t = refl

-- fields as the program holds them, in another list that is the same
pub seen_as : {A B : Type 0} (mid new : List ℕ) (lexemes : B → List Lexeme) (seen : A → B) {xs ys : List A} → xs ≡ ys
    → new ≡ mid ++ flat_map line (map lexemes (map seen xs)) → new ≡ mid ++ flat_map line (map lexemes (map seen ys))
seen_as mid new lexemes seen e h = h ∙ ap (λ zs. mid ++ flat_map line (map lexemes (map seen zs))) e

pub seen_last : {T E A B : Type 0} (r : Result T E) (mid new : List ℕ) (lexemes : B → List Lexeme)
    (seen : A → B) {xs ys : List A} → xs ≡ ys
    → OnOk r (new ≡ mid ++ flat_map line (map lexemes (map seen xs))) → OnOk r
    (new ≡ mid ++ flat_map line (map lexemes (map seen ys)))
seen_last (Ok x) mid new lexemes seen e h = seen_as mid new lexemes seen e h
seen_last (Err x) mid new lexemes seen e h = tt
