-- What a run of letters, digits and underscores spells.
use Rattle.std.proofs.Common.{◌≡◌, ◌≢◌, inl, inr, ℕ, ◌+◌, ◌^◌, ◌<◌, ◌≤◌, nat_lt, List, [], ◌∷◌, ◌++◌, length, refl, sym}
use Rattle.std.proofs.Common.{subst, arith, Bool, true, false, ◌||◌, if◌then◌else◌, Option, Some, None, Result, Ok, Err}
use Rattle.std.proofs.lemmas.Bool.{ltb-true, ltb-false}
use Rattle.std.specs.List.{AllByRecursion}
use Rattle.mw_term.specs.declared.refusal.Refusal.{Refusal}
use Rattle.mw_term.specs.declared.refusal.Refusal.TheVariants as refused
use Rattle.mw_lex.specs.Bytes.{IsDigit, IsWordByte}
use Rattle.mw_lex.specs.Texts.{reserved, IsText, IsLongest, decimal, Spells, a_reserved_word, a_name, a_number}
use Rattle.mw_lex.specs.Tokens.{Symbol, PureToken, number, minus}
use Rattle.mw_lex.specs.InOrder.{IsInRange}
use Rattle.mw_lex.specs.Reading.{IsNoNumber, IsFault, no_number, long_name}
use Rattle.mw_lex.specs.Lexing.{IsOfLexing}
use Rattle.mw_term.specs.Decimals.{is_digit, number_in}
use Rattle.mw_lex.specs.Pieces.{is_word_byte, number_answer, or_name, word_answer, run_answer}
use Rattle.mw_lex.specs.Pieces.{next_to_last, last, opens_literal}
use Rattle.mw_lex.proofs.ByteTests.{denied, digit_true, true_digit, true_word}
use Rattle.mw_lex.proofs.Tables.{mark_no_word, reserved_in_range}
use Rattle.mw_lex.proofs.Ranges.{range_last, stands_below, stands_lowest, stands_only, stands_else, NumberIs, number_is}
use Rattle.mw_lex.proofs.Fronts.{Stops}

all_front : (P : ℕ → Type 0) (front : List ℕ) (b : ℕ) (rest : List ℕ) → AllByRecursion P (front ++ b ∷ rest) → P b
all_front P [] b rest a = a.0
all_front P (c ∷ front) b rest a = all_front P front b rest a.1

-- what the answer for a run says, after these tokens and at this offset
abbrev pub RunMeans : List PureToken → ℕ → List ℕ → List ℕ → Result Symbol Refusal → Type 0
RunMeans tokens at text after (Ok s) = IsLongest text after × Spells text s
    × IsInRange (next_to_last minus minus tokens) (last minus tokens) s
RunMeans tokens at text after (Err r) = IsFault tokens at (text ++ after) r × IsOfLexing r

module _ (tokens : List PureToken) (at b : ℕ) (bytes after : List ℕ) (all : AllByRecursion IsWordByte (b ∷ bytes))
    (stops : Stops is_word_byte after) where
  no_longer : (more rest : List ℕ) → after ≡ more ++ rest → more ≢ [] → IsText (b ∷ bytes ++ more) → ⊥
  no_longer [] rest e n t = n refl
  no_longer (c ∷ more) rest e n t = word_here (subst (λ r. Stops is_word_byte r) e stops) t
    where
      word_here : is_word_byte c ≡ false → IsText (b ∷ bytes ++ c ∷ more) → ⊥
      word_here f (inl w) = denied (true_word c) f (all_front IsWordByte (b ∷ bytes) c more w.1)
      word_here f (inr (inl w)) = denied (true_word c) f (all_front IsWordByte (b ∷ bytes) c more w.1)
      word_here f (inr (inr m)) = mark_no_word b (bytes ++ c ∷ more) m.0 m.1 all.0

  longest_word : (IsDigit b → ⊥) → IsLongest (b ∷ bytes) after
  longest_word w = (inl (w, all), no_longer)

  longest_number : IsDigit b → IsLongest (b ∷ bytes) after
  longest_number d = (inr (inl (d, all)), no_longer)

  number_means : IsDigit b → (o : Option ℕ) → NumberIs 0 (b ∷ bytes) o → RunMeans tokens at (b ∷ bytes) after
      (number_answer (opens_literal tokens) at o)
  number_means d None h = (no_number (b ∷ bytes) after refl (d, all) (longest_number d) none, tt)
    where
      none : IsNoNumber tokens at (b ∷ bytes)
      none a r =
          let stands = range_last minus minus tokens at (at + length (b ∷ bytes)) (number (decimal 0 (b ∷ bytes))) []
          r in
          omega (
            arith,
            h a,
            stands_only (next_to_last minus minus tokens) (last minus tokens) (decimal 0 (b ∷ bytes))
                stands,
          )
  number_means d (Some n) h = by_range (nat_lt n (2 ^ 63)) refl (opens_literal tokens) refl
    where
      spells : Spells (b ∷ bytes) (number n)
      spells = subst (λ n. Spells (b ∷ bytes) (number n)) (sym h.1) (a_number (λ e. absurd (cc)) h.0)

      by_range : (s : Bool) → nat_lt n (2 ^ 63) ≡ s → (l : Bool) → opens_literal tokens ≡ l
          → RunMeans tokens at (b ∷ bytes) after (if s || l then Ok (number n) else Err (refused.Number at))
      by_range true e l f = (
        longest_number d,
        spells,
        stands_below (next_to_last minus minus tokens) (last minus tokens) n
            (ltb-true n (2 ^ 63) e),
      )
      by_range false e true f =
          (longest_number d, spells, stands_lowest (next_to_last minus minus tokens) (last minus tokens) n f h.2)
      by_range false e false f = (no_number (b ∷ bytes) after refl (d, all) (longest_number d) none, tt)
        where
          none : IsNoNumber tokens at (b ∷ bytes)
          none a r =
              let stands = range_last minus minus tokens at (at + length (b ∷ bytes)) (number (decimal 0 (b ∷ bytes)))
              [] r in
              omega (
                arith,
                h.1,
                ltb-false n (2 ^ 63) e,
                stands_else (next_to_last minus minus tokens)
                    (last minus tokens) (decimal 0 (b ∷ bytes)) f stands,
              )

  word_means : (IsDigit b → ⊥) → RunMeans tokens at (b ∷ bytes) after (word_answer at (b ∷ bytes))
  word_means w = by_length (nat_lt 64 (length (b ∷ bytes))) refl
    where
      by_text : length (b ∷ bytes) ≤ 64 → (o : Option Symbol) → reserved (b ∷ bytes) ≡ o
          → RunMeans tokens at (b ∷ bytes) after (Ok (or_name (b ∷ bytes) o))
      by_text p None e = (longest_word w, a_name (w, all) e p, tt)
      by_text p (Some s) e = (
        longest_word w,
        a_reserved_word e,
        reserved_in_range (next_to_last minus minus tokens) (last minus tokens)
            (b ∷ bytes) s e,
      )

      by_length : (t : Bool) → nat_lt 64 (length (b ∷ bytes)) ≡ t → RunMeans tokens at (b ∷ bytes) after
          (if t then Err (refused.Name at) else Ok (or_name (b ∷ bytes) (reserved (b ∷ bytes))))
      by_length true e =
          (long_name (b ∷ bytes) after refl (w, all) (longest_word w) (ltb-true 64 (length (b ∷ bytes)) e), tt)
      by_length false e = by_text (ltb-false 64 (length (b ∷ bytes)) e) (reserved (b ∷ bytes)) refl

pub run_means : (tokens : List PureToken) (at : ℕ) (text after : List ℕ) → 0 < length text
    → AllByRecursion IsWordByte text → Stops is_word_byte after
    → RunMeans tokens at text after (run_answer (opens_literal tokens) at text)
run_means tokens at [] after p a s = absurd (omega arith)
run_means tokens at (b ∷ bytes) after p a s = by_digit (is_digit b) refl
  where
    by_digit : (d : Bool) → is_digit b ≡ d → RunMeans tokens at (b ∷ bytes) after
        (if d then number_answer (opens_literal tokens) at (number_in 0 (b ∷ bytes)) else word_answer at (b ∷ bytes))
    by_digit true e = number_means tokens at b bytes after a s (digit_true b e) (number_in 0 (b ∷ bytes))
        (number_is 0 (b ∷ bytes) (omega arith))
    by_digit false e = word_means tokens at b bytes after a s (denied (true_digit b) e)
