-- Labels by their index, the innermost first.
use Rattle.std.proofs.Common.{◌≡◌, ◌≢◌, ◌<◌, ◌≤◌, ℕ, zero, suc, ◌-◌, List, [], ◌∷◌, ◌++◌, length, reverse, map, get_or}
use Rattle.std.proofs.Common.{Some, None, refl, sym, ap, ◌∙◌, arith}
use Rattle.std.specs.Prelude.{slice_get}
use Rattle.std.specs.Option.{option_map}
use Rattle.std.proofs.lemmas.List.{length-reverse, length-map, get_or-reverse}
use Rattle.std.proofs.Math.ListN.{get_or-map}
use Rattle.std.proofs.lemmas.Option.{slice_get-map, slice_get-get_or, slice_get_past}
use Rattle.mw_wasm.specs.declared.values.ValType.{ValType}
use Rattle.mw_wasm.specs.Validity.{Context}
use Rattle.mw_validate.specs.declared.frames.Frame.{Frame}
use Rattle.mw_validate.specs.Frames.{Waiting, label_of, labels_of}
use Rattle.mw_validate.specs.Turns.{waiting_of, waitings_of}

within : (c : Context) (ws : List Waiting) (l : ℕ) (d : Waiting) → l < length ws → slice_get (labels_of c ws) l
    ≡ Some (label_of (get_or ws l d))
within c [] l d h = absurd (omega arith)
within c (w ∷ ws) zero d h = refl
within c (w ∷ ws) (suc l) d h = within c ws l d (omega arith)

at_last : (c : Context) (ws : List Waiting) → slice_get (labels_of c ws) (length ws) ≡ Some c.results
at_last c [] = refl
at_last c (w ∷ ws) = at_last c ws

past : (c : Context) (ws : List Waiting) (l : ℕ) → length ws < l → slice_get (labels_of c ws) l ≡ None
past c [] zero h = absurd (omega arith)
past c [] (suc l) h = refl
past c (w ∷ ws) zero h = absurd (omega arith)
past c (w ∷ ws) (suc l) h = past c ws l (omega arith)

so_many : (fs : List Frame) → length (waitings_of fs) ≡ length fs
so_many fs = length-map (reverse fs) waiting_of ∙ length-reverse fs

pub inner_label : (c : Context) (fs : List Frame) (l : ℕ) (d f : Frame) (ts : List ValType) → l < length fs
    → f ≡ get_or fs (length fs - 1 - l) d → ts ≡ label_of (waiting_of f) → slice_get (labels_of c (waitings_of fs)) l
    ≡ Some ts
inner_label c fs l d f ts h e t = within c (waitings_of fs) l (waiting_of d) (omega (arith, so_many fs))
    ∙ ap (λ w. Some (label_of w))
    (get_or-map waiting_of (reverse fs) l d ∙ ap waiting_of (get_or-reverse fs l d h ∙ sym e))
    ∙ ap (λ ts. Some ts) (sym t)

pub last_label : (c : Context) (fs : List Frame) (l : ℕ) → l ≡ length fs → slice_get (labels_of c (waitings_of fs)) l
    ≡ Some c.results
last_label c fs l e = ap (λ l. slice_get (labels_of c (waitings_of fs)) l) (e ∙ sym (so_many fs))
    ∙ at_last c (waitings_of fs)

pub no_label : (c : Context) (fs : List Frame) (l : ℕ) → length fs ≤ l → l ≢ length fs
    → slice_get (labels_of c (waitings_of fs)) l ≡ None
no_label c fs l h n = past c (waitings_of fs) l (omega (arith, so_many fs, n))

-- an element of two lists
pub first_list : {X : Type 0} (xs ys : List X) (i : ℕ) (d : X) → i < length xs → Some (get_or xs i d)
    ≡ slice_get (xs ++ ys) i
first_list [] ys i d h = absurd (omega arith)
first_list (x ∷ xs) ys zero d h = refl
first_list (x ∷ xs) ys (suc i) d h = first_list xs ys i d (omega arith)

behind : {X : Type 0} (xs ys : List X) (i : ℕ) → length xs ≤ i → slice_get (xs ++ ys) i ≡ slice_get ys (i - length xs)
behind [] ys i h = let e : i ≡ i - 0 = omega arith in ap (slice_get ys) e
behind (x ∷ xs) ys zero h = absurd (omega arith)
behind (x ∷ xs) ys (suc i) h = let e : i - length xs ≡ suc i - suc (length xs) = omega arith in
    behind xs ys i (omega arith) ∙ ap (slice_get ys) e

pub second_list : {X : Type 0} (xs ys : List X) (i : ℕ) (d : X) → length xs ≤ i → i - length xs < length ys
    → Some (get_or ys (i - length xs) d) ≡ slice_get (xs ++ ys) i
second_list xs ys i d h k = sym (behind xs ys i h ∙ slice_get-get_or ys (i - length xs) d k)

pub past_both : {X : Type 0} (xs ys : List X) (i : ℕ) → length xs ≤ i → length ys ≤ i - length xs
    → None ≡ slice_get (xs ++ ys) i
past_both xs ys i h k = sym (behind xs ys i h ∙ slice_get_past ys (i - length xs) k)

-- an element under two maps
pub two_maps : {X Y Z : Type 0} (f : X → Y) (g : Y → Z) (xs ys : List X) (i : ℕ) (d : X) → ys ≡ xs → i < length ys
    → Some (g (f (get_or ys i d))) ≡ slice_get (map g (map f xs)) i
two_maps f g xs ys i d e h =
    sym (ap (λ xs. slice_get (map g (map f xs)) i) (sym e)
    ∙ (slice_get-map g (map f ys) i
    ∙ (ap (option_map g) (slice_get-map f ys i) ∙ ap (λ o. option_map g (option_map f o)) (slice_get-get_or ys i d h))))

pub none_mapped : {X Y Z : Type 0} (f : X → Y) (g : Y → Z) (xs ys : List X) (i : ℕ) → ys ≡ xs → length ys ≤ i
    → None ≡ slice_get (map g (map f xs)) i
none_mapped f g xs ys i e h =
    sym (ap (λ xs. slice_get (map g (map f xs)) i) (sym e)
    ∙ (slice_get-map g (map f ys) i
    ∙ (ap (option_map g) (slice_get-map f ys i) ∙ ap (λ o. option_map g (option_map f o)) (slice_get_past ys i h))))
