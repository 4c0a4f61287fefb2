-- What is read is a text of it.
use Rattle.std.proofs.Common.{◌≡◌, ◌⊎◌, inl, inr, ℕ, ◌-◌, ◌^◌, ◌<◌, ◌≤◌, List, [], ◌∷◌, length, map, refl, ap, sym, ◌∙◌}
use Rattle.std.proofs.Common.{subst, arith, Bool, true, false}
use Rattle.std.specs.Prelude.{nat_le, Result, Ok, Err, if◌then◌else◌}
use Rattle.std.specs.List.{AllByRecursion}
use Rattle.std.proofs.lemmas.Bool.{leb-true}
use Rattle.mw_wasm.specs.Syntax.{Function, PureModule}
use Rattle.mw_wasm.specs.Profile.{depth, IsWithinFileLimit}
use Rattle.mw_wat.specs.Tokens.{PureToken, Quotes, nothing, plain, escape, Spells, a_string}
use Rattle.mw_wat.specs.Tokens.{ReadsTo, so_far, behind_blank, behind_token}
use Rattle.mw_wat.specs.Tokens as t
use Rattle.mw_wat.specs.Lexemes.{Lexeme, left, right, word, octets, token_of, IsInRange}
use Rattle.mw_wat.specs.Lexemes.{lexemes, tokens_of}
use Rattle.mw_wat.specs.ModuleTexts.{HasTexts, IsTextOf}
use Rattle.mw_wat.specs.Lexing.{Tokens, stop, token, tokens}
use Rattle.mw_wat.specs.Reading.{Read, got, bad}
use Rattle.mw_wat.specs.Modules.{whole_module, up_to_end, limited, module_read}
use Rattle.mw_wat.proofs.TokensOfText.{Placed, p_here, p_there, longer}
use Rattle.mw_wat.proofs.TextOfTokens.{At, at_end, at_none, Reached}
use Rattle.mw_wat.proofs.BadPlaces.{placed_bytes}
use Rattle.mw_wat.proofs.FieldsAreRead.{FitsFunction}
use Rattle.mw_wat.proofs.LexemeSoundness.{IsKnown, Said, s_here, s_there}
use Rattle.mw_wat.proofs.ModuleSoundness.{ModuleBack, module_said}

abbrev wrong : ℕ → Result PureModule ℕ
wrong at = Err at

-- strings hold bytes
abbrev pub HoldsBytes : PureToken → Type 0
HoldsBytes (t.string bytes) = AllByRecursion (λ b. b < 2 ^ 8) bytes
HoldsBytes _ = Unit {0}

quotes_bytes : {text bytes : List ℕ} → Quotes text bytes → AllByRecursion (λ b. b < 2 ^ 8) bytes
quotes_bytes nothing = tt
quotes_bytes (plain p q) = (let k = p.1 in omega arith, quotes_bytes q)
quotes_bytes (escape h l p q r) = (omega arith, quotes_bytes r)

spelled_bytes : {text : List ℕ} {t : PureToken} → Spells text t → HoldsBytes t
spelled_bytes (a_string q) = quotes_bytes q
spelled_bytes _ = tt

pub read_bytes : {bytes rest : List ℕ} {ts : List PureToken} → ReadsTo bytes ts rest → AllByRecursion HoldsBytes ts
read_bytes so_far = tt
read_bytes (behind_blank v r) = read_bytes r
read_bytes (behind_token g r) = (spelled_bytes g.spelled, read_bytes r)

pub read_shorter : {bytes rest : List ℕ} {ts : List PureToken} → ReadsTo bytes ts rest → length rest ≤ length bytes
read_shorter so_far = omega arith
read_shorter (behind_blank v r) = omega (arith, read_shorter r)
read_shorter (behind_token g r) = omega (arith, read_shorter r, longer g)

-- lexemes and tokens
pub said_placed : {ts rest : Tokens} (is : List Lexeme) → Said ts is rest → Placed ts (map token_of is) rest
said_placed [] s_here = p_here
said_placed (_ ∷ is) (s_there {ts = ts} k s) = p_there (said_placed {ts = ts} is s)

lexeme_range : (i : Lexeme) → IsKnown i → HoldsBytes (token_of i) → IsInRange i
lexeme_range left k h = tt
lexeme_range right k h = tt
lexeme_range (word w) k h = tt
lexeme_range (octets bytes) k h = h
lexeme_range _ k h = k

said_range : {ts rest : Tokens} (is : List Lexeme) → Said ts is rest → AllByRecursion HoldsBytes (map token_of is)
    → AllByRecursion IsInRange is
said_range [] s_here h = tt
said_range (_ ∷ is) (s_there {i = i} {ts = ts} k s) h = (lexeme_range i k h.0, said_range {ts = ts} is s h.1)

locals_of : (fs : List Function) → AllByRecursion FitsFunction fs → AllByRecursion (λ f. length f.locals ≤ 50_000) fs
locals_of [] a = tt
locals_of (f ∷ fs) a = (a.0.locals, locals_of fs a.1)

depths_of : (fs : List Function) → AllByRecursion FitsFunction fs → AllByRecursion (λ f. depth f.body ≤ 500) fs
depths_of [] a = tt
depths_of (f ∷ fs) a = (a.0.body, depths_of fs a.1)

pub has_texts : {ts rest : Tokens} (m : PureModule) → ModuleBack ts rest m → AllByRecursion HoldsBytes (tokens_of m)
    → HasTexts m
has_texts m b h = record {
  profile = record {
    type_results = b.fits.types;
    table_elements = b.fits.table;
    memory_pages = b.fits.memory;
    further_locals = locals_of m.funcs b.fits.funcs;
    export_names = b.fits.exports;
    function_depth = depths_of m.funcs b.fits.funcs;
    global_depth = b.fits.globals;
    element_depth = b.fits.elements;
    segment_depth = b.fits.segments;
  };
  ranges = said_range (lexemes m) b.said h;
}

at_stop : (end a : ℕ) (l : List ℕ) → At end (stop a) l → (l ≡ []) ⊎ ((0 < length l) × (a ≡ end - length l))
at_stop end _ [] at_end = inl refl
at_stop end _ [] (at_none n) = absurd n
at_stop end _ (b ∷ l) (at_none n) = inr (omega arith, refl)

stopped_text : (bytes : List ℕ) (m : PureModule) (a : ℕ) → length bytes ≤ a → ModuleBack (tokens (length bytes) bytes)
    (stop a) m → IsTextOf bytes m
stopped_text bytes m a p b = by_reached (placed_bytes bytes (tokens_of m) (stop a) (said_placed (lexemes m) b.said))
  where
    by_end : (l : List ℕ) → ReadsTo bytes (tokens_of m) l → (l ≡ [])
        ⊎ ((0 < length l) × (a ≡ length bytes - length l)) → IsTextOf bytes m
    by_end l r (inl e) = (
      tokens_of m,
      subst
          (λ l. ReadsTo bytes (tokens_of m) l) e r,
      record
          { tokens_are = refl; has = has_texts m b (read_bytes r) },
    )
    by_end l r (inr h) = absurd (let some = h.0 in let same = h.1 in let k = read_shorter r in omega arith)

    by_reached : Reached (length bytes) bytes (tokens_of m) (stop a) → IsTextOf bytes m
    by_reached r = by_end r.left r.reads (at_stop (length bytes) a r.left r.here)

from_ok : PureModule → Result PureModule ℕ → PureModule
from_ok n (Ok m) = m
from_ok n (Err at) = n

same_ok : (m n : PureModule) (q : Result PureModule ℕ) → q ≡ Ok m → q ≡ Ok n → m ≡ n
unfolding from_ok
same_ok m n q d e = sym (ap (from_ok m) d) ∙ ap (from_ok m) e

whole_text : (bytes : List ℕ) (m : PureModule) → up_to_end (length bytes)
    (whole_module (tokens (length bytes) bytes)) ≡ Ok m → IsTextOf bytes m
whole_text bytes m e = by_read (whole_module (tokens (length bytes) bytes)) refl e
  where
    by_test : (n : PureModule) (a : ℕ) → whole_module (tokens (length bytes) bytes) ≡ got n (stop a) → (t : Bool)
        → nat_le (length bytes) a ≡ t → (if t then Ok n else wrong a) ≡ Ok m → IsTextOf bytes m
    by_test n a d false p e = absurd (cc)
    by_test n a d true p e = subst (IsTextOf bytes) (same_ok n m _ refl e)
        (stopped_text bytes n a (leb-true (length bytes) a p)
        (module_said (tokens (length bytes) bytes) n (stop a) d))

    by_read : (r : Read PureModule) → whole_module (tokens (length bytes) bytes) ≡ r → up_to_end
        (length bytes) r ≡ Ok m → IsTextOf bytes m
    by_read (bad rest) d e = absurd (cc)
    by_read (got n (token at t rest)) d e = absurd (cc)
    by_read (got n (stop a)) d e = by_test n a d (nat_le (length bytes) a) refl e

-- what is answered is what the bytes are a text of, within the limit
pub read_is_text : (bytes : List ℕ) (m : PureModule) → module_read bytes ≡ Ok m → IsTextOf bytes m
    × IsWithinFileLimit bytes
read_is_text bytes m e = by_read (up_to_end (length bytes) (whole_module (tokens (length bytes) bytes))) refl e
  where
    short : (n : PureModule) (t : Bool) → nat_le (length bytes) 67_108_864 ≡ t
        → (if t then Ok n else wrong 67_108_864) ≡ Ok m → (n ≡ m) × IsWithinFileLimit bytes
    short n false p e = absurd (cc)
    short n true p e = (same_ok n m _ refl e, leb-true (length bytes) 67_108_864 p)

    none : (at : ℕ) (t : Bool) → (if t then wrong at else wrong 67_108_864) ≡ Ok m → ⊥
    none at true e = absurd (cc)
    none at false e = absurd (cc)

    by_read : (r : Result PureModule ℕ) → up_to_end (length bytes) (whole_module (tokens (length bytes) bytes)) ≡ r
        → limited (length bytes) r ≡ Ok m → IsTextOf bytes m × IsWithinFileLimit bytes
    by_read (Err at) d e = absurd (none at (nat_le at 67_108_864) e)
    by_read (Ok n) d e = let s = short n (nat_le (length bytes) 67_108_864) refl e in
        (subst (IsTextOf bytes) s.0 (whole_text bytes n d), s.1)
