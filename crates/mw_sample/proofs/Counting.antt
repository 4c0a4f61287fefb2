-- Texts of numbers, put one after the other.
use Rattle.std.proofs.Common.{◌≡◌, ℕ, zero, suc, ◌+◌, ◌-◌, ◌≤◌, List, ◌++◌, codes, refl, sym, ◌∙◌, ap, append_assoc}
use Rattle.std.proofs.Common.{append-nil, arith}
use Rattle.std.specs.Prelude.{Result, Ok, Err, IfOk, is_ok, if◌then◌else◌}
use Rattle.std.specs.List.{range_with_len, flat_map}
use Rattle.mw_sample.specs.Sample.{call_text, main_line}

-- the texts of the numbers from a on, below another
abbrev pub texts_below : (ℕ → List ℕ) → ℕ → ℕ → List ℕ
texts_below f a at = flat_map f (range_with_len a (at - a))

one_more : (f : ℕ → List ℕ) (a n j : ℕ) → a + n ≡ j → flat_map f (range_with_len a (suc n))
    ≡ flat_map f (range_with_len a n) ++ f j
one_more f a zero j e = let same : a ≡ j = omega arith in rw (append-nil (f a), same) refl
one_more f a (suc n) j e =
    let later = range_with_len (a + 1) n in
    ap (λ l. f a ++ l) (one_more f (a + 1) n j (omega arith)) ∙ sym (append_assoc (f a) (flat_map f later) (f j))

next_text : (f : ℕ → List ℕ) (a at : ℕ) → a ≤ at → texts_below f a (at + 1) ≡ texts_below f a at ++ f at
next_text f a at le = let count : at + 1 - a ≡ suc (at - a) = omega arith in
    rw count (one_more f a (at - a) at (omega arith))

-- the text of a number, put after those of the numbers below it
pub next_put : (f : ℕ → List ℕ) (a at : ℕ) (old before after : List ℕ) → a ≤ at
    → before ≡ old ++ texts_below f a at → after ≡ before ++ f at → after ≡ old ++ texts_below f a (at + 1)
next_put f a at old before after le e put =
    put ∙ (ap (λ t. t ++ f at) e
    ∙ (append_assoc old (texts_below f a at) (f at) ∙ ap (λ t. old ++ t) (sym (next_text f a at le))))

-- a call in main, after a plus
abbrev pub next_call : ℕ → List ℕ
next_call i = codes " + " ++ call_text i

-- main's line, put after a text as far as the calls of the kernels below a number
abbrev pub main_begun : List ℕ → ℕ → List ℕ
main_begun old at = old ++ (codes "main : int = " ++ call_text 1) ++ texts_below next_call 2 at

-- with no call but the first
pub first_call_put : (old before after : List ℕ) → before ≡ old ++ codes "main : int = " → after ≡ before ++ call_text 1
    → after ≡ main_begun old 2
first_call_put old before after e put =
    let begun = codes "main : int = " ++ call_text 1 in
    put ∙ (ap (λ t. t ++ call_text 1) e
    ∙ (append_assoc old (codes "main : int = ") (call_text 1) ∙ sym (append-nil (old ++ begun))))

-- with one call more
pub next_call_put : (at : ℕ) (old before middle after : List ℕ) → 2 ≤ at
    → before ≡ main_begun old at → middle ≡ before ++ codes " + " → after ≡ middle ++ call_text at
    → after ≡ main_begun old (at + 1)
next_call_put at old before middle after le e plus put =
    let call : after ≡ before ++ next_call at =
    put ∙ (ap (λ t. t ++ call_text at) plus ∙ append_assoc before (codes " + ") (call_text at)) in
    next_put next_call 2 at (old ++ (codes "main : int = " ++ call_text 1)) before after le e call

regrouped : (t a b c d : List ℕ) → t ++ (a ++ b) ++ c ++ d ≡ t ++ (a ++ (b ++ c) ++ d)
regrouped t a b c d = simp append_assoc refl

-- with all its calls
pub main_put : (n at : ℕ) (old before after : List ℕ) → 1 ≤ n → at ≡ n + 1
    → before ≡ main_begun old at → after ≡ before ++ codes "\n" → after ≡ old ++ main_line n
main_put zero at old before after le e calls put = absurd (omega arith)
main_put (suc n) at old before after le e calls put =
    let count : at - 2 ≡ n = omega arith in
    let next = flat_map next_call (range_with_len 2 n) in
    let all : before ≡ old ++ (codes "main : int = " ++ call_text 1) ++ next = rw (← count) calls in
    put ∙ (ap (λ t. t ++ codes "\n") all ∙ regrouped old (codes "main : int = ") (call_text 1) next (codes "\n"))

-- what follows where a push had room
pub on_room : {T E P : Type 0} (r : Result T E) (after put kept : List ℕ)
    → after ≡ (if is_ok r then put else kept) → (after ≡ put → P) → IfOk r (λ x. P)
on_room (Ok x) after put kept e f = f e
on_room (Err x) after put kept e f = tt
