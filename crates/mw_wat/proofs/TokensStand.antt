-- Lexemes at the front of tokens, and what single readers make of them.
use Rattle.std.proofs.Common.{◌≡◌, ℕ, zero, suc, ◌+◌, ◌<◌, ◌≤◌, ◌^◌, List, [], ◌∷◌, ◌++◌, length, map, refl, ap, ◌∙◌}
use Rattle.std.proofs.Common.{arith, true, Option, Some, None}
use Rattle.std.specs.Prelude.{ℤ, pos, negsuc, FitsSigned, codes}
use Rattle.std.specs.Int.{Width, w32, w64, cast_signed, cast_unsigned}
use Rattle.std.specs.List.{AllByRecursion}
use Rattle.std.proofs.lemmas.Bool.{lt-ltb, le-leb}
use Rattle.std.proofs.lemmas.Int.{of_z-to_z}
use mir.Val.{hbits}
use mir.Facts.{sfits_to_z}
use Rattle.mw_wasm.specs.Profile.{IsPrintable}
use Rattle.mw_wasm.specs.declared.values.ValType.{ValType}
use Rattle.mw_wasm.specs.declared.values.ValType.TheVariants.{I32, I64}
use Rattle.mw_wat.specs.Tokens.{PureToken}
use Rattle.mw_wat.specs.Names.{type_name}
use Rattle.mw_wat.specs.Lexemes.{Lexeme, word, number, keyed, constant, token_of, IsInRange}
use Rattle.mw_wat.specs.Lexing.{Tokens, token}
use Rattle.mw_wat.specs.Reading.{got, count, some_of, all_of, as_number, as_type}
use Rattle.mw_wat.specs.Instructions.{fits, fits_some, as_constant, as_keyed}
use Rattle.mw_wat.specs.Modules.{are_printable}
use Rattle.mw_key.proofs.NumberWords.{below_from, integer_from}

-- tokens begin with these lexemes, each in its range, and go on with rest
pub data Stands : Tokens → List Lexeme → Tokens → Type 0 where
  here : {ts : Tokens} → Stands ts [] ts
  there : {at : ℕ} {i : Lexeme} {is : List Lexeme} {ts rest : Tokens} → IsInRange i → Stands ts is rest → Stands
      (token at (token_of i) ts) (i ∷ is) rest

pub record Parted (ts : Tokens) (xs ys : List Lexeme) (rest : Tokens) : Type 0 where
  pub mid : Tokens
  pub front : Stands ts xs mid
  pub back : Stands mid ys rest

pub parted : {ts rest : Tokens} (xs ys : List Lexeme) → Stands ts (xs ++ ys) rest → Parted ts xs ys rest
parted {ts = ts} [] ys s = record { mid = ts; front = here; back = s }
parted {rest = rest} (_ ∷ xs) ys (there {at = at} {i = x} {ts = ts} r s) = let p = parted {ts = ts} xs ys s in
    record { mid = p.mid; front = there r p.front; back = p.back }

pub counted : {ts rest : Tokens} (xs : List Lexeme) → Stands ts xs rest → count ts ≡ length xs + count rest
counted {ts = ts} [] here = omega arith
counted {rest = rest} (_ ∷ xs) (there {at = at} {i = x} {ts = ts} r s) = omega (arith, counted {ts = ts} xs s)

-- single tokens
pub number_means : (most n : ℕ) → n ≤ most → n < 2 ^ 32 → as_number most (token_of (number n)) ≡ Some n
number_means most n p q = below_from (suc most) n (omega arith) (omega arith)

fits_again : (w : Width) (z : ℤ) → FitsSigned w z → fits w z ≡ Some (cast_unsigned w z)
fits_again w (pos n) f = rw (lt-ltb n (2 ^ hbits w) f.sfits) refl
fits_again w (negsuc n) f = rw (lt-ltb n (2 ^ hbits w) f.sfits) refl

pub constant_32 : (n : ℕ) → n < 2 ^ 32 → as_constant w32 (token_of (constant w32 n)) ≡ Some n
constant_32 n p =
    let fit : FitsSigned w32 (cast_signed w32 n) = sfits_to_z {w = w32} record { fits = p } in
    let wide : FitsSigned w64 (cast_signed w32 n) = record { sfits = (let q = fit.sfits in omega arith) } in
    ap (fits_some w32) (integer_from (cast_signed w32 n) wide) ∙ fits_again w32 (cast_signed w32 n) fit ∙ ap Some
    (of_z-to_z w32 n p)

pub constant_64 : (n : ℕ) → n < 2 ^ 64 → as_constant w64 (token_of (constant w64 n)) ≡ Some n
constant_64 n p =
    let fit : FitsSigned w64 (cast_signed w64 n) = sfits_to_z {w = w64} record { fits = p } in
    ap (fits_some w64) (integer_from (cast_signed w64 n) fit) ∙ fits_again w64 (cast_signed w64 n) fit ∙ ap Some
    (of_z-to_z w64 n p)

pub offset_means : (n : ℕ) → n < 2 ^ 32 → as_keyed (codes "offset=") (token_of (keyed (codes "offset=") n)) ≡ Some n
offset_means n p = below_from (2 ^ 32) n p (omega arith)

pub align_means : (n : ℕ) → n < 2 ^ 32 → as_keyed (codes "exp=") (token_of (keyed (codes "exp=") n)) ≡ Some n
align_means n p = below_from (2 ^ 32) n p (omega arith)

pub printable : (bytes : List ℕ) → AllByRecursion IsPrintable bytes → are_printable bytes ≡ true
printable [] a = refl
printable (b ∷ bytes) a = rw (le-leb 0x20 b a.0.0, le-leb b 0x7E a.0.1) (printable bytes a.1)

pub type_means : (t : ValType) → as_type (token_of (word (type_name t))) ≡ Some t
type_means I32 = refl
type_means I64 = refl

-- a list of tokens of one kind, up to one of another
pub some_got : {A : Type 0} (means : PureToken → Option A) (f : A → Lexeme)
    → ((x : A) → IsInRange (f x) → means (token_of (f x)) ≡ Some x)
    → (n : ℕ) (xs : List A) → length xs ≤ n → {ts : Tokens} {at : ℕ} {t : PureToken} {rest : Tokens} → Stands ts
    (map f xs) (token at t rest) → means t ≡ None → some_of n means ts ≡ got xs (token at t rest)
some_got means f g zero [] p here e = refl
some_got means f g zero (x ∷ xs) p s e = absurd (omega arith)
some_got means f g (suc n) [] p here e = rw e refl
some_got means f g (suc n) (x ∷ xs) p (there {ts = ts} r s) e =
    rw (g x r, some_got means f g n xs (omega arith) {ts = ts} s e) refl

pub all_got : {A : Type 0} (means : PureToken → Option A) (f : A → Lexeme)
    → ((x : A) → IsInRange (f x) → means (token_of (f x)) ≡ Some x)
    → (xs : List A) → {ts : Tokens} {at : ℕ} {t : PureToken} {rest : Tokens} → Stands ts (map f xs) (token at t rest)
    → means t ≡ None → all_of means ts ≡ got xs (token at t rest)
all_got means f g [] here e = rw e refl
all_got means f g (x ∷ xs) (there {ts = ts} r s) e = rw (g x r, all_got means f g xs {ts = ts} s e) refl
