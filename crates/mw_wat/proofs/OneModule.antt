-- Texts are read, and no text is of two modules.
use Rattle.std.proofs.Common.{◌≡◌, ℕ, suc, List, [], ◌∷◌, length, map, refl, ap, sym, ◌∙◌, subst, arith}
use Rattle.std.specs.Prelude.{Result, Ok, Err}
use Rattle.std.specs.List.{AllByRecursion}
use Rattle.std.proofs.lemmas.Bool.{le-leb}
use Rattle.mw_wasm.specs.Syntax.{PureModule}
use Rattle.mw_wasm.specs.Profile.{IsWithinFileLimit}
use Rattle.mw_wat.specs.Tokens.{PureToken, AreTokens}
use Rattle.mw_wat.specs.Lexemes.{Lexeme, token_of, IsInRange, lexemes}
use Rattle.mw_wat.specs.ModuleTexts.{IsTextOf}
use Rattle.mw_wat.specs.Lexing.{Tokens, stop, tokens}
use Rattle.mw_wat.specs.Modules.{whole_module, up_to_end, module_read}
use Rattle.mw_wat.proofs.TokensStand.{Stands, here, there}
use Rattle.mw_wat.proofs.TokensOfText.{Placed, p_here, p_there, lexed}
use Rattle.mw_wat.proofs.ModuleIsRead.{module_got}

pub stands : (is : List Lexeme) {ts rest : Tokens} → AllByRecursion IsInRange is → Placed ts (map token_of is) rest
    → Stands ts is rest
stands [] r p_here = here
stands (i ∷ is) r (p_there p) = there r.0 (stands is r.1 p)

pub placed_all : (bytes : List ℕ) (ts : List PureToken) → AreTokens bytes ts → Placed (tokens (length bytes) bytes) ts
    (stop (length bytes))
unfolding tokens
placed_all bytes ts a = lexed a (suc (length bytes)) (length bytes) refl (omega arith)

pub text_is_read : (bytes : List ℕ) (m : PureModule) → IsTextOf bytes m → up_to_end (length bytes)
    (whole_module (tokens (length bytes) bytes)) ≡ Ok m
text_is_read bytes m t =
    let p = subst (λ ts. Placed (tokens (length bytes) bytes) ts (stop (length bytes))) t.2.tokens_are
    (placed_all bytes t.0 t.1) in
    rw (
      module_got m t.2.has (stands (lexemes m) t.2.has.ranges p),
      le-leb (length bytes) (length bytes)
          (omega arith),
    ) refl

or_else : PureModule → Result PureModule ℕ → PureModule
or_else n (Ok m) = m
or_else n (Err at) = n

same_Ok : (m n : PureModule) (a b : Result PureModule ℕ) → a ≡ Ok m → b ≡ Ok n → a ≡ b → m ≡ n
unfolding or_else
same_Ok m n a b p q e = sym (ap (or_else m) p) ∙ ap (or_else m) e ∙ ap (or_else m) q

pub one_module : (bytes : List ℕ) (m n : PureModule) → IsTextOf bytes m → IsTextOf bytes n → m ≡ n
one_module bytes m n a b = same_Ok m n _ _ (text_is_read bytes m a) (text_is_read bytes n b) refl

pub short_text_is_read : (bytes : List ℕ) (m : PureModule) → IsTextOf bytes m → IsWithinFileLimit bytes
    → module_read bytes ≡ Ok m
short_text_is_read bytes m t w = rw (text_is_read bytes m t, le-leb (length bytes) 67_108_864 w) refl
