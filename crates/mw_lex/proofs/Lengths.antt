-- Tables by the lengths of their texts.
use Rattle.std.proofs.Common.{◌≡◌, ◌≢◌, ℕ, ◌==◌, List, [], ◌∷◌, length, refl, ap, sym, ◌∙◌, Bool, true, false, cond}
use Rattle.std.proofs.Common.{Option}
use Rattle.std.proofs.Common.{Some, None, if◌then◌else◌, arith}
use Rattle.std.proofs.lemmas.Bool.{false≢true, eq-eqb}
use Rattle.std.proofs.lemmas.Slice.Eq.{bytes_eq-Decides}
use Rattle.std.specs.Map.{lookup}
use Rattle.std.specs.Str.{bytes_eq}
use Rattle.mw_lex.specs.Texts.{reserved_words, reserved}
use Rattle.mw_lex.specs.Tokens.{Symbol}
use Rattle.mw_lex.specs.Pieces.{of_length}
use Rattle.mw_lex.proofs.Tables.{reserved_size}

-- texts of different lengths differ
apart : (text other : List ℕ) (n : ℕ) → length text ≡ n → (length other == n) ≡ false → bytes_eq text other ≡ false
apart text other n e f = by_test (bytes_eq text other) refl
  where
    by_test : (t : Bool) → bytes_eq text other ≡ t → t ≡ false
    by_test false g = refl
    by_test true g =
        let same : length text ≡ length other = ap length ((bytes_eq-Decides text other).0 g) in
        absurd (false≢true (sym f ∙ eq-eqb (length other) n (sym same ∙ e)))

by_length : (n : ℕ) (text : List ℕ) (entries : List (List ℕ × Symbol)) → length text ≡ n
    → lookup (bytes_eq text) entries ≡ lookup (bytes_eq text) (of_length n entries)
by_length n text [] e = refl
by_length n text (entry ∷ entries) e = by_test (by_length n text entries e) (length entry.0 == n) refl
  where
    by_test : lookup (bytes_eq text) entries ≡ lookup (bytes_eq text) (of_length n entries) → (t : Bool)
        → (length entry.0 == n) ≡ t
        → cond (bytes_eq text entry.0) (Some entry.1) (lookup (bytes_eq text) entries)
        ≡ lookup (bytes_eq text) (if t then entry ∷ of_length n entries else of_length n entries)
    by_test more true f = ap (λ o. cond (bytes_eq text entry.0) (Some entry.1) o) more
    by_test more false f =
        ap (λ t. cond t (Some entry.1) (lookup (bytes_eq text) entries)) (apart text entry.0 n e f) ∙ more

-- a word is looked up among the reserved words of its length
pub of_this_length : (n : ℕ) (text : List ℕ) → length text ≡ n
    → reserved text ≡ lookup (bytes_eq text) (of_length n reserved_words)
of_this_length n text e = by_length n text reserved_words e

-- a text of any other length is no reserved word
pub no_such_length : (text : List ℕ) → length text ≢ 2 → length text ≢ 3 → length text ≢ 4 → length text ≢ 5
    → length text ≢ 6 → reserved text ≡ None
no_such_length text two three four five six = by_answer (reserved text) refl
  where
    by_answer : (o : Option Symbol) → reserved text ≡ o → o ≡ None
    by_answer None e = refl
    by_answer (Some s) e = absurd (omega (arith, reserved_size text s e, two, three, four, five, six))
