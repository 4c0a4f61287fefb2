-- Lines that are read one after the other.
use Rattle.std.proofs.Common.{◌≡◌, ℕ, zero, suc, ◌<◌, true, false, ◌&&◌, List, [], ◌∷◌, ◌++◌, map}
use Rattle.std.proofs.Common.{Option, Some, None, refl, sym, ap, ◌∙◌, arith, append_assoc}
use Rattle.std.specs.Prelude.{if◌then◌else◌}
use Rattle.std.proofs.lemmas.List.{map_push}
use Rattle.mw_lines.specs.TypeLines.{TypeLine}
use Rattle.mw_lines.specs.Deciding.{may_follow, may_follow_all}
use Rattle.mw_recheck.specs.Options.{◌>>=◌}
use Rattle.mw_recheck.specs.Reading.{type_line_at, type_lines_at, numbers_at, node_lines_at}
use Rattle.mw_recheck.specs.Answers.{lines_after}
use Rattle.mw_recheck.proofs.NodeLines.{same_after, one_after}

-- nothing goes on from no answer
nowhere : {A B : Type 0} (o : Option A) → ◌>>=◌ {A = A} {B = B} o (λ x. None) ≡ None
nowhere (Some x) = refl
nowhere None = refl

-- lines that were read after one
abbrev with_front : {A : Type 0} → A → List A × List ℕ → Option (List A × List ℕ)
with_front l y = Some (l ∷ y.0, y.1)

-- no line stands there
pub lines_stop : (before : List TypeLine) (n : ℕ) (bytes : List ℕ) → 0 < n → type_line_at bytes ≡ None
    → lines_after before n bytes ≡ None
lines_stop before zero bytes p e = absurd (omega (arith, p))
lines_stop before (suc n) bytes p e = rw e refl

-- a line stands there, and the others after it
lines_more : (before : List TypeLine) (n : ℕ) (bytes : List ℕ) (l : TypeLine) (rest : List ℕ)
    → type_line_at bytes ≡ Some (l, rest)
    → lines_after before (suc n) bytes ≡ (type_lines_at n rest >>= λ t. if may_follow before l && may_follow_all
    (before ++ l ∷ []) t.0 then Some (before ++ l ∷ t.0, t.1) else None)
lines_more before n bytes l rest e = rw e (sym (one_after (type_lines_at n rest) (with_front l) _))

pub lines_refused : (before : List TypeLine) (n : ℕ) (bytes : List ℕ) (l : TypeLine) (rest : List ℕ) → 0 < n
    → type_line_at bytes ≡ Some (l, rest)
    → may_follow before l ≡ false → lines_after before n bytes ≡ None
lines_refused before zero bytes l rest p e f = absurd (omega (arith, p))
lines_refused before (suc n) bytes l rest p e f = lines_more before n bytes l rest e
    ∙ rw f (nowhere (type_lines_at n rest))

pub lines_step : (before : List TypeLine) (n k : ℕ) (bytes : List ℕ) (l : TypeLine) (rest : List ℕ) → n ≡ suc k
    → type_line_at bytes ≡ Some (l, rest)
    → may_follow before l ≡ true → lines_after before n bytes ≡ lines_after (before ++ l ∷ []) k rest
lines_step before zero k bytes l rest q e f = absurd (omega (arith, q))
lines_step before (suc n) k bytes l rest q e f =
    let same : n ≡ k = omega (arith, q) in
    lines_more before n bytes l rest e ∙ rw (same, f)
    (same_after (type_lines_at k rest) _ _ (λ t. rw (append_assoc before (l ∷ []) t.0) refl))

-- node lines after those that were read
abbrev pub nodes_after : List (List ℕ) → ℕ → List ℕ → Option (List (List ℕ) × List ℕ)
nodes_after before n bytes = node_lines_at n bytes >>= λ t. Some (before ++ t.0, t.1)

pub nodes_stop : (before : List (List ℕ)) (n : ℕ) (bytes : List ℕ) → 0 < n → numbers_at 3 bytes ≡ None
    → nodes_after before n bytes ≡ None
nodes_stop before zero bytes p e = absurd (omega (arith, p))
nodes_stop before (suc n) bytes p e = rw e refl

pub nodes_step : (before : List (List ℕ)) (n k : ℕ) (bytes : List ℕ) (l : List ℕ) (rest : List ℕ) → n ≡ suc k
    → numbers_at 3 bytes ≡ Some (l, rest)
    → nodes_after before n bytes ≡ nodes_after (before ++ l ∷ []) k rest
nodes_step before zero k bytes l rest q e = absurd (omega (arith, q))
nodes_step before (suc n) k bytes l rest q e =
    let same : n ≡ k = omega (arith, q) in
    rw (e, same) (sym (one_after (node_lines_at k rest) (with_front l) _)
    ∙ same_after (node_lines_at k rest) _ _ (λ t. ap (λ ls. Some (ls, t.1)) (sym (append_assoc before (l ∷ []) t.0))))

pub map_pushed : {A B : Type 0} (f : A → B) (xs ys : List A) (y : A) → ys ≡ xs ++ y ∷ []
    → map f ys ≡ map f xs ++ f y ∷ []
map_pushed f xs ys y e = ap (λ l. map f l) e ∙ map_push f xs y
