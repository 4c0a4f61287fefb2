-- Places of elements in a list to which each is put once.
use Rattle.std.proofs.Common.{◌≡◌, ℕ, suc, ◌<◌, ◌≤◌, Bool, true, false, cond, nat_eq, List, [], ◌∷◌, ◌++◌}
use Rattle.std.proofs.Common.{length, Some, None, refl, ap, sym, ◌∙◌, arith, length-append}
use Rattle.std.proofs.Common.{append-nil}
use Rattle.std.specs.Prelude.{slice_get}
use Rattle.std.proofs.lemmas.Bool.{lt-ltb, le-ltb}
use Rattle.mw_lines.specs.TypeLines.{TypeLine}
use Rattle.mw_lines.specs.Deciding.{same_line}
use Rattle.mw_section.specs.Writing.{place_of, with_number, line_place, with_line}
use Rattle.mw_section.specs.Writers.{place_within}

-- the place of an element among others under a test of equality, or their count; and the others with it behind them
abbrev pub place : {A : Type 0} → (A → A → Bool) → A → List A → ℕ
place same x [] = 0
place same x (y ∷ ys) = cond (same y x) 0 (suc (place same x ys))

abbrev pub added : {A : Type 0} → (A → A → Bool) → A → List A → List A
added same x [] = x ∷ []
added same x (y ∷ ys) = cond (same y x) (y ∷ ys) (y ∷ added same x ys)

-- it is among them, at this place
pub record IsAt {A : Type 0} (same : A → A → Bool) (x : A) (xs : List A) (p : ℕ) : Type 0 where
  pub here : place same x xs ≡ p
  pub within : p < length xs

-- numbers and lines are such elements
pub place_of_is : (n : ℕ) (ns : List ℕ) → place_of n ns ≡ place nat_eq n ns
place_of_is n [] = refl
place_of_is n (m ∷ ns) = ap (λ k. cond (nat_eq m n) 0 (suc k)) (place_of_is n ns)

pub with_number_is : (n : ℕ) (ns : List ℕ) → with_number n ns ≡ added nat_eq n ns
with_number_is n [] = refl
with_number_is n (m ∷ ns) = ap (λ l. cond (nat_eq m n) (m ∷ ns) (m ∷ l)) (with_number_is n ns)

pub line_place_is : (l : TypeLine) (ls : List TypeLine) → line_place l ls ≡ place same_line l ls
line_place_is l [] = refl
line_place_is l (k ∷ ls) = ap (λ n. cond (same_line k l) 0 (suc n)) (line_place_is l ls)

pub with_line_is : (l : TypeLine) (ls : List TypeLine) → with_line l ls ≡ added same_line l ls
with_line_is l [] = refl
with_line_is l (k ∷ ls) = ap (λ m. cond (same_line k l) (k ∷ ls) (k ∷ m)) (with_line_is l ls)

-- an element is among the others, or is put behind them
pub data Met {A : Type 0} (x : A) (p : ℕ) (xs ys : List A) : Type 0 where
  is_known : p < length xs → ys ≡ xs → Met x p xs ys
  is_new : p ≡ length xs → ys ≡ xs ++ x ∷ [] → Met x p xs ys

met_behind : {A : Type 0} (x y : A) (p : ℕ) (xs ys : List A) (b : Bool) → Met x p xs ys
    → Met x (cond b 0 (suc p)) (y ∷ xs) (cond b (y ∷ xs) (y ∷ ys))
met_behind x y p xs ys true m = is_known (omega arith) refl
met_behind x y p xs ys false (is_known h e) = is_known (omega arith) (ap (λ l. y ∷ l) e)
met_behind x y p xs ys false (is_new h e) = is_new (ap suc h) (ap (λ l. y ∷ l) e)

pub met : {A : Type 0} (same : A → A → Bool) (x : A) (xs : List A) → Met x (place same x xs) xs (added same x xs)
met same x [] = is_new refl refl
met same x (y ∷ xs) = met_behind x y _ xs _ (same y x) (met same x xs)

-- places stay where more comes behind
place_stays : (b : Bool) (m n k : ℕ) → (m < n → k ≡ m) → cond b 0 (suc m) < suc n → cond b 0 (suc k) ≡ cond b 0 (suc m)
place_stays true m n k f h = refl
place_stays false m n k f h = ap suc (f (omega arith))

place-append : {A : Type 0} (same : A → A → Bool) (x : A) (xs ys : List A) → place same x xs < length xs
    → place same x (xs ++ ys) ≡ place same x xs
place-append same x [] ys h = absurd (omega arith)
place-append same x (z ∷ xs) ys h = place_stays (same z x) _ (length xs) _ (place-append same x xs ys) h

pub at_stays : {A : Type 0} (same : A → A → Bool) (x : A) (xs ys : List A) (p : ℕ) → IsAt same x xs p
    → IsAt same x (xs ++ ys) p
at_stays same x xs ys p h = record {
  here = place-append same x xs ys (let e = h.here in let w = h.within in omega arith) ∙ h.here;
  within = let w = h.within in simp length-append (omega arith);
}

-- an element that is none of the others, and one more behind them
last_step : (b c : Bool) (m n k : ℕ) → cond b 0 (suc m) ≡ suc n → (m ≡ n → k ≡ cond c n (suc n))
    → cond b 0 (suc k) ≡ cond c (suc n) (suc (suc n))
last_step true c m n k h f = absurd (omega arith)
last_step false true m n k h f = ap suc (f (omega arith))
last_step false false m n k h f = ap suc (f (omega arith))

place-last : {A : Type 0} (same : A → A → Bool) (x y : A) (xs : List A) → place same x xs ≡ length xs
    → place same x (xs ++ y ∷ []) ≡ cond (same y x) (length xs) (suc (length xs))
place-last same x y [] h = refl
place-last same x y (z ∷ xs) h = last_step (same z x) (same y x) _ (length xs) _ h (place-last same x y xs)

-- an element that was put is at its place
put_at : {A : Type 0} (same : A → A → Bool) (x : A) (p : ℕ) (xs ys : List A) → same x x ≡ true → place same x xs ≡ p
    → Met x p xs ys → IsAt same x ys p
put_at same x p xs ys r e (is_known h f) = record { here = rw f e; within = rw f h }
put_at same x p xs ys r e (is_new h f) = record {
  here = rw (f, place-last same x x xs (e ∙ h), r) (sym h);
  within = rw f (simp length-append (omega arith));
}

pub at_put : {A : Type 0} (same : A → A → Bool) (x : A) (xs : List A) → same x x ≡ true
    → IsAt same x (added same x xs) (place same x xs)
at_put same x xs r = put_at same x _ xs _ r refl (met same x xs)

-- one that is there is not put again
again : {A : Type 0} (x : A) (p : ℕ) (xs ys : List A) → p < length xs → Met x p xs ys → ys ≡ xs
again x p xs ys n (is_known h e) = e
again x p xs ys n (is_new h e) = absurd (omega arith)

pub put_again : {A : Type 0} (same : A → A → Bool) (x : A) (xs : List A) (p : ℕ) → IsAt same x xs p
    → added same x xs ≡ xs
put_again same x xs p h =
    again x _ xs _ (let e = h.here in let w = h.within in omega arith) (met same x xs)

-- what is put comes behind
behind : {A : Type 0} (x : A) (p : ℕ) (xs ys : List A) → Met x p xs ys → (more : List A) × (ys ≡ xs ++ more)
behind x p xs ys (is_known h e) = ([], e ∙ sym (append-nil xs))
behind x p xs ys (is_new h e) = (x ∷ [], e)

pub put_behind : {A : Type 0} (same : A → A → Bool) (x : A) (xs : List A)
    → (more : List A) × (added same x xs ≡ xs ++ more)
put_behind same x xs = behind x _ xs _ (met same x xs)

-- what is found
pub within_count : (p n : ℕ) → p < n → place_within p n ≡ Some p
within_count p n h = rw (lt-ltb p n h) refl

pub past_count : (p n : ℕ) → n ≤ p → place_within p n ≡ None
past_count p n h = rw (le-ltb p n h) refl

found_by : {A : Type 0} (same : A → A → Bool) (exact : (x y : A) → same x y ≡ true → x ≡ y) (x q : A) (xs ys : List A)
    → place same x xs ≡ length xs → (b : Bool) → same x q ≡ b → Met q (place same q xs) xs ys
    → place_within (place same q (xs ++ x ∷ [])) (length (xs ++ x ∷ []))
    ≡ cond b (Some (length xs)) (place_within (place same q xs) (length xs))
found_by same exact x q xs ys h true e (is_known n f) =
    absurd (let i = ap (λ z. place same z xs) (exact x q e) in omega arith)
found_by same exact x q xs ys h true e (is_new n f) =
    let long : length xs < length (xs ++ x ∷ []) = simp length-append (omega arith) in
    ap (λ p. place_within p (length (xs ++ x ∷ [])))
    (place-last same q x xs n ∙ ap (λ b. cond b (length xs) (suc (length xs))) e)
    ∙ within_count (length xs) (length (xs ++ x ∷ [])) long
found_by same exact x q xs ys h false e (is_known n f) =
    let long : place same q xs < length (xs ++ x ∷ []) = simp length-append (omega arith) in
    ap (λ p. place_within p (length (xs ++ x ∷ []))) (place-append same q xs (x ∷ []) n)
    ∙ within_count (place same q xs) (length (xs ++ x ∷ [])) long
    ∙ sym (within_count (place same q xs) (length xs) n)
found_by same exact x q xs ys h false e (is_new n f) =
    let long : length (xs ++ x ∷ []) ≤ suc (length xs) = simp length-append (omega arith) in
    ap (λ p. place_within p (length (xs ++ x ∷ [])))
    (place-last same q x xs n ∙ ap (λ b. cond b (length xs) (suc (length xs))) e)
    ∙ past_count (suc (length xs)) (length (xs ++ x ∷ [])) long
    ∙ sym (past_count (place same q xs) (length xs) (omega arith))

-- so a table of places has one more
pub found-put : {A : Type 0} (same : A → A → Bool) (exact : (x y : A) → same x y ≡ true → x ≡ y) (x q : A) (xs : List A)
    → place same x xs ≡ length xs
    → place_within (place same q (xs ++ x ∷ [])) (length (xs ++ x ∷ []))
    ≡ cond (same x q) (Some (length xs)) (place_within (place same q xs) (length xs))
found-put same exact x q xs h = found_by same exact x q xs _ h (same x q) refl (met same q xs)

-- what a table says of one element
looked_up : {A : Type 0} (x : A) (p k : ℕ) (xs ys : List A) → place_within p (length xs) ≡ Some k → Met x p xs ys
    → (k ≡ p) × (ys ≡ xs)
looked_up x p k xs ys h (is_known n e) = (let f = within_count p (length xs) n in cc, e)
looked_up x p k xs ys h (is_new n e) = absurd (let f = past_count p (length xs) (omega arith) in cc)

pub found_there : {A : Type 0} (same : A → A → Bool) (x : A) (xs : List A) (k : ℕ)
    → place_within (place same x xs) (length xs) ≡ Some k → (k ≡ place same x xs) × (added same x xs ≡ xs)
found_there same x xs k h = looked_up x _ k xs _ h (met same x xs)

not_there : {A : Type 0} (x : A) (p : ℕ) (xs ys : List A) → place_within p (length xs) ≡ None → Met x p xs ys
    → (p ≡ length xs) × (ys ≡ xs ++ x ∷ [])
not_there x p xs ys h (is_known n e) = absurd (let f = within_count p (length xs) n in cc)
not_there x p xs ys h (is_new n e) = (n, e)

pub found_nowhere : {A : Type 0} (same : A → A → Bool) (x : A) (xs : List A)
    → place_within (place same x xs) (length xs) ≡ None
    → (place same x xs ≡ length xs) × (added same x xs ≡ xs ++ x ∷ [])
found_nowhere same x xs h = not_there x _ xs _ h (met same x xs)

-- the element at its place
element_behind : {A : Type 0} (x y : A) (b : Bool) (p : ℕ) (ys : List A) → (b ≡ true → y ≡ x)
    → (p < length ys → slice_get ys p ≡ Some x) → cond b 0 (suc p) < suc (length ys)
    → slice_get (y ∷ ys) (cond b 0 (suc p)) ≡ Some x
element_behind x y true p ys e f h = ap (λ z. Some z) (e refl)
element_behind x y false p ys e f h = f (omega arith)

element_at : {A : Type 0} (same : A → A → Bool) (exact : (x y : A) → same x y ≡ true → x ≡ y) (x : A) (xs : List A)
    → place same x xs < length xs → slice_get xs (place same x xs) ≡ Some x
element_at same exact x [] h = absurd (omega arith)
element_at same exact x (y ∷ xs) h =
    element_behind x y (same y x) _ xs (exact y x) (element_at same exact x xs) h

pub element : {A : Type 0} (same : A → A → Bool) (exact : (x y : A) → same x y ≡ true → x ≡ y) (x : A) (xs : List A)
    (p : ℕ) → IsAt same x xs p → slice_get xs p ≡ Some x
element same exact x xs p h =
    rw (sym h.here) (element_at same exact x xs (let e = h.here in let w = h.within in omega arith))
