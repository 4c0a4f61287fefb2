-- The words of the tables: each spells one thing, and each thing has one word.
use Rattle.std.proofs.Common.{◌≡◌, ℕ, List, [], ◌∷◌, refl, subst, Bool, true, false, cond, ◌&&◌, codes, Some, length}
use Rattle.std.proofs.Common.{◌≤◌, arith}
use Rattle.std.specs.Map.{lookup}
use Rattle.std.specs.Str.{bytes_eq}
use Rattle.std.proofs.lemmas.Bool.{and_parts}
use Rattle.std.proofs.lemmas.Option.{none-some, same_Some}
use Rattle.std.proofs.lemmas.Slice.Eq.{bytes_eq-Decides}
use Rattle.mw_term.specs.declared.term.Primitive.{Primitive as Prim'}
use Rattle.mw_term.specs.declared.term.Primitive.TheVariants.{Add, Sub, Mul, Div, Mod, Eq, Lt, Le}
use Rattle.mw_key.specs.CanonicalText.{version_word, primitive_word}
use Rattle.mw_key.specs.declared.version.Version.{Version}
use Rattle.mw_key.specs.declared.version.Version.TheVariants.{One, Two}
use Rattle.mw_key.specs.declared.form.Form.{Form}
use Rattle.mw_key.specs.declared.form.Form.TheVariants.{Int, Bool as Truth, Var, WithOne, WithTwo, If}
use Rattle.mw_key.specs.declared.form.OnePart.TheVariants.{Fun, Rec, Fst, Snd}
use Rattle.mw_key.specs.declared.form.TwoParts.TheVariants.{App, Let, Pair, Prim}
use Rattle.mw_key.specs.declared.form.TypeForm.{TypeForm}
use Rattle.mw_key.specs.declared.form.TypeForm.TheVariants.{Base, Pair as PairType, To}
use Rattle.mw_key.specs.Forms.{version_words, type_words, code_forms, version_of, type_form_of, form_of}
use Rattle.mw_key.proofs.Words.{no_space}
use Rattle.mw_term.specs.declared.term.Base.TheVariants as base

-- the word of a primitive, without its space
abbrev pub primitive_name : Prim' → List ℕ
primitive_name Add = codes "add"
primitive_name Sub = codes "sub"
primitive_name Mul = codes "mul"
primitive_name Div = codes "div"
primitive_name Mod = codes "mod"
primitive_name Eq = codes "eq"
primitive_name Lt = codes "lt"
primitive_name Le = codes "le"

abbrev pub form_word : Form → List ℕ
form_word Int = codes "i"
form_word (Truth true) = codes "true"
form_word (Truth false) = codes "false"
form_word Var = codes "v"
form_word (WithOne Fun) = codes "fun"
form_word (WithOne Rec) = codes "rec"
form_word (WithTwo App) = codes "app"
form_word (WithTwo Let) = codes "let"
form_word If = codes "if"
form_word (WithTwo Pair) = codes "pair"
form_word (WithOne Fst) = codes "fst"
form_word (WithOne Snd) = codes "snd"
form_word (WithTwo (Prim p)) = primitive_name p

abbrev pub type_form_word : TypeForm → List ℕ
type_form_word (Base base.Int) = codes "int"
type_form_word (Base base.Bool) = codes "bool"
type_form_word PairType = codes "pair"
type_form_word To = codes "to"

-- each entry's word is the one of what it spells
abbrev all_spelled : {A : Type 0} → (A → List ℕ) → List (List ℕ × A) → Bool
all_spelled word [] = true
all_spelled word (entry ∷ entries) = bytes_eq entry.0 (word entry.1) && all_spelled word entries

looked_up : {A : Type 0} (word : A → List ℕ) (entries : List (List ℕ × A)) (w : List ℕ) (a : A)
    → all_spelled word entries ≡ true → lookup (bytes_eq w) entries ≡ Some a → w ≡ word a
looked_up word [] w a s e = absurd (none-some a e)
looked_up {A} word (entry ∷ entries) w a s e = by_text (looked_up word entries w a parts.1) (bytes_eq w entry.0) refl e
  where
    parts : (bytes_eq entry.0 (word entry.1) ≡ true) × (all_spelled word entries ≡ true)
    parts = and_parts (bytes_eq entry.0 (word entry.1)) (all_spelled word entries) s

    by_text : (lookup (bytes_eq w) entries ≡ Some a → w ≡ word a) → (t : Bool) → bytes_eq w entry.0 ≡ t
        → cond t (Some entry.1) (lookup (bytes_eq w) entries) ≡ Some a → w ≡ word a
    by_text more true f e =
        let same_text : w ≡ entry.0 = (bytes_eq-Decides w entry.0).0 f in
        let same_thing : entry.1 ≡ a = same_Some entry.1 a e in
        let here : entry.0 ≡ word entry.1 = (bytes_eq-Decides entry.0 (word entry.1)).0 parts.0 in
        subst (λ b. w ≡ word b) same_thing (cc (same_text, here))
    by_text more false f e = more e

pub version_found : (w : List ℕ) (v : Version) → version_of w ≡ Some v → w ≡ version_word v
version_found w v e = looked_up version_word version_words w v refl e

pub type_form_found : (w : List ℕ) (f : TypeForm) → type_form_of w ≡ Some f → w ≡ type_form_word f
type_form_found w f e = looked_up type_form_word type_words w f refl e

pub form_found : (w : List ℕ) (f : Form) → form_of w ≡ Some f → w ≡ form_word f
form_found w f e = looked_up form_word code_forms w f refl e

pub version_from : (v : Version) → version_of (version_word v) ≡ Some v
version_from One = refl
version_from Two = refl

pub type_form_from : (f : TypeForm) → type_form_of (type_form_word f) ≡ Some f
type_form_from (Base base.Int) = refl
type_form_from (Base base.Bool) = refl
type_form_from PairType = refl
type_form_from To = refl

-- what is known of a primitive's word
pub record IsPrimitiveWord (p : Prim') : Type 0 where
  pub spells : form_of (primitive_name p) ≡ Some (WithTwo (Prim p))
  pub spaceless : no_space (primitive_name p) ≡ true
  pub spaced : primitive_word p ≡ 32 ∷ primitive_name p
  pub short : length (primitive_word p) ≤ 4

pub primitive_is : (p : Prim') → IsPrimitiveWord p
primitive_is Add = record { spells = refl; spaceless = refl; spaced = refl; short = omega arith }
primitive_is Sub = record { spells = refl; spaceless = refl; spaced = refl; short = omega arith }
primitive_is Mul = record { spells = refl; spaceless = refl; spaced = refl; short = omega arith }
primitive_is Div = record { spells = refl; spaceless = refl; spaced = refl; short = omega arith }
primitive_is Mod = record { spells = refl; spaceless = refl; spaced = refl; short = omega arith }
primitive_is Eq = record { spells = refl; spaceless = refl; spaced = refl; short = omega arith }
primitive_is Lt = record { spells = refl; spaceless = refl; spaced = refl; short = omega arith }
primitive_is Le = record { spells = refl; spaceless = refl; spaced = refl; short = omega arith }

pub form_from : (f : Form) → form_of (form_word f) ≡ Some f
form_from Int = refl
form_from (Truth true) = refl
form_from (Truth false) = refl
form_from Var = refl
form_from (WithOne Fun) = refl
form_from (WithOne Rec) = refl
form_from (WithTwo App) = refl
form_from (WithTwo Let) = refl
form_from If = refl
form_from (WithTwo Pair) = refl
form_from (WithOne Fst) = refl
form_from (WithOne Snd) = refl
form_from (WithTwo (Prim p)) = (primitive_is p).spells

-- no word has a space
pub version_no_space : (v : Version) → no_space (version_word v) ≡ true
version_no_space One = refl
version_no_space Two = refl

pub type_form_no_space : (f : TypeForm) → no_space (type_form_word f) ≡ true
type_form_no_space (Base base.Int) = refl
type_form_no_space (Base base.Bool) = refl
type_form_no_space PairType = refl
type_form_no_space To = refl
