-- The words that begin a version, a type or code.
use Rattle.std.specs.Prelude.{ℕ, ◌+◌, List, [], ◌∷◌, codes, Option, true, false}
use Rattle.std.specs.Map.{lookup}
use Rattle.std.specs.Str.{bytes_eq}
use Rattle.mw_term.specs.Terms.{Expression, fun, fix, app, bind, pair, fst, snd, prim}
use Rattle.mw_term.specs.declared.term.Base.TheVariants as base
use Rattle.mw_term.specs.declared.term.Primitive.TheVariants.{Add, Sub, Mul, Div, Mod, Eq, Lt, Le}
use Rattle.mw_key.specs.declared.version.Version.{Version}
use Rattle.mw_key.specs.declared.version.Version.TheVariants.{One, Two}
use Rattle.mw_key.specs.declared.form.Form.{Form}
use Rattle.mw_key.specs.declared.form.Form.TheVariants.{Int, Bool, Var, WithOne, WithTwo, If}
use Rattle.mw_key.specs.declared.form.OnePart.{OnePart}
use Rattle.mw_key.specs.declared.form.OnePart.TheVariants.{Fun, Rec, Fst, Snd}
use Rattle.mw_key.specs.declared.form.TwoParts.{TwoParts}
use Rattle.mw_key.specs.declared.form.TwoParts.TheVariants.{App, Let, Pair, Prim}
use Rattle.mw_key.specs.declared.form.TypeForm.{TypeForm}
use Rattle.mw_key.specs.declared.form.TypeForm.TheVariants.{Base, Pair as PairType, To}

abbrev pub version_words : List (List ℕ × Version)
version_words = (codes "emit1", One) ∷ (codes "emit2", Two) ∷ []

abbrev pub type_words : List (List ℕ × TypeForm)
type_words = (codes "int", Base base.Int) ∷ (codes "bool", Base base.Bool) ∷ (codes "pair", PairType) ∷ (codes "to", To)
    ∷ []

abbrev pub primitive_words : List (List ℕ × Form)
primitive_words = (codes "add", WithTwo (Prim Add)) ∷ (codes "sub", WithTwo (Prim Sub))
    ∷ (codes "mul", WithTwo (Prim Mul)) ∷ (codes "div", WithTwo (Prim Div)) ∷ (codes "mod", WithTwo (Prim Mod))
    ∷ (codes "eq", WithTwo (Prim Eq)) ∷ (codes "lt", WithTwo (Prim Lt)) ∷ (codes "le", WithTwo (Prim Le)) ∷ []

abbrev pub code_forms : List (List ℕ × Form)
code_forms = (codes "i", Int) ∷ (codes "true", Bool true) ∷ (codes "false", Bool false) ∷ (codes "v", Var)
    ∷ (codes "fun", WithOne Fun) ∷ (codes "rec", WithOne Rec)
    ∷ (codes "app", WithTwo App) ∷ (codes "let", WithTwo Let) ∷ (codes "if", If) ∷ (codes "pair", WithTwo Pair)
    ∷ (codes "fst", WithOne Fst) ∷ (codes "snd", WithOne Snd) ∷ primitive_words

-- what a word spells
abbrev pub version_of : List ℕ → Option Version
version_of word = lookup (bytes_eq word) version_words

abbrev pub type_form_of : List ℕ → Option TypeForm
type_form_of word = lookup (bytes_eq word) type_words

abbrev pub form_of : List ℕ → Option Form
form_of word = lookup (bytes_eq word) code_forms

-- how many binders the part of a form stands under, and the second part of one of two, where the form stands under so
-- many
abbrev pub under_one : OnePart → ℕ → ℕ
under_one Fun k = k + 1
under_one Rec k = k + 2
under_one Fst k = k
under_one Snd k = k

abbrev pub under_two : TwoParts → ℕ → ℕ
under_two App k = k
under_two Let k = k + 1
under_two Pair k = k
under_two (Prim p) k = k

-- code of a form and its parts
abbrev pub code_of_one : OnePart → Expression → Expression
code_of_one Fun e = fun e
code_of_one Rec e = fix e
code_of_one Fst e = fst e
code_of_one Snd e = snd e

abbrev pub code_of_two : TwoParts → Expression → Expression → Expression
code_of_two App f a = app f a
code_of_two Let d e = bind d e
code_of_two Pair a b = pair a b
code_of_two (Prim p) a b = prim p a b
