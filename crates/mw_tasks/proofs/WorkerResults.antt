-- What workers took is put in its place, and taken from there in order.
use Rattle.std.proofs.Common.{ℕ, zero, suc, ◌≡◌, ◌+◌, ◌<◌, List, [], ◌∷◌, ◌++◌, length, take, Option, Some, None}
use Rattle.std.proofs.Common.{refl, sym, ap, ◌∙◌, subst, arith}
use Rattle.std.specs.Prelude.{IfSome, slice_get, replicate}
use Rattle.std.specs.List.{All, AllZip}
use Rattle.std.proofs.Math.ListN.{set, get_or}
use Rattle.std.proofs.lemmas.Option.{none-some, same_Some, slice_get_within, slice_get_read, slice_get-get_or}
use Rattle.std.proofs.lemmas.Option.{get_or_from_slice_get}
use Rattle.std.proofs.lemmas.List.{take_more}
use Rattle.std.proofs.lemmas.List.Elements.{All-nil, All-cons, All-head, All-tail, All-push}
use Rattle.std.proofs.lemmas.Slice.Zip.{AllZip-long, all_zipped_more}
use Rattle.mw_tasks.specs.declared.job.Done.{Done}
use Rattle.mw_tasks.specs.declared.job.Taken.{Taken}

module _ {X : Type 0} (P : X → Type 0) where
  -- the first of a list's elements, and the others
  pub first_and_rest : (all rest : List X) (x : X) → all ≡ x ∷ rest → All P all → P x × All P rest
  first_and_rest all rest x is h =
      let whole = subst (All P) is h in (All-head P x rest whole, All-tail P x rest whole)

-- what holds of the second of two lists alone
pub all_right : {A B : Type 0} (P : B → Type 0) (xs : List A) (ys : List B) → AllZip (λ x y. P y) xs ys → All P ys
all_right P [] [] h = All-nil P
all_right P [] (y ∷ ys) h = absurd h
all_right P (x ∷ xs) [] h = absurd h
all_right P (x ∷ xs) (y ∷ ys) h = All-cons P y ys h.0 (all_right P xs ys h.1)

module _ {A B : Type 0} (R : A → B → Type 0) where
  -- an element of the second list gives way to another of which R holds
  zip_set : (xs : List A) (ys : List B) (i : ℕ) (x : A) (y : B) → AllZip R xs ys → slice_get xs i ≡ Some x → R x y
      → AllZip R xs (set ys i y)
  zip_set [] ys i x y h here one = absurd (none-some x here)
  zip_set (a ∷ xs) [] i x y h here one = absurd h
  zip_set (a ∷ xs) (b ∷ ys) zero x y h here one = (subst (λ a. R a y) (sym (same_Some a x here)) one, h.1)
  zip_set (a ∷ xs) (b ∷ ys) (suc i) x y h here one = (h.0, zip_set xs ys i x y h.1 here one)

  zip_get : (xs : List A) (ys : List B) (i : ℕ) (x : A) (y : B) → AllZip R xs ys → slice_get xs i ≡ Some x
      → slice_get ys i ≡ Some y
      → R x y
  zip_get [] ys i x y h here there = absurd (none-some x here)
  zip_get (a ∷ xs) [] i x y h here there = absurd h
  zip_get (a ∷ xs) (b ∷ ys) zero x y h here there =
      subst (λ z. R x z) (same_Some b y there) (subst (λ z. R z b) (same_Some a x here) h.0)
  zip_get (a ∷ xs) (b ∷ ys) (suc i) x y h here there = zip_get xs ys i x y h.1 here there

  -- the step of a loop over the places in the first list
  zip_next : (xs : List A) (ys zs : List B) (i : ℕ) (x : A) (y : B) → slice_get xs i ≡ Some x
      → zs ≡ ys ++ y ∷ [] → AllZip R (take i xs) ys → R x y → AllZip R (take (i + 1) xs) zs
  zip_next xs ys zs i x y here pushed old one =
      let more : take (i + 1) xs ≡ take i xs ++ x ∷ [] =
      take_more xs i x (slice_get_within xs i x here)
      ∙ ap (λ z. take i xs ++ z ∷ []) (get_or_from_slice_get xs i x x here) in
      subst (λ us. AllZip R us zs) (sym more)
      (subst (AllZip R (take i xs ++ x ∷ [])) (sym pushed) (all_zipped_more R (take i xs) ys x y old one))

module _ (R : ℕ → Done → Type 0) where
  -- it has a place among these numbers, and R holds between the number there and what was done
  abbrev pub IsTakenFrom : List ℕ → Taken → Type 0
  IsTakenFrom numbers taken = (number : ℕ) × (slice_get numbers taken.at ≡ Some number) × R number taken.done

  -- R holds of what is in a place, if anything is
  abbrev Suits : ℕ → Option Done → Type 0
  Suits number place = IfSome place (R number)

  -- of each place
  abbrev pub SuitAll : List ℕ → List (Option Done) → Type 0
  SuitAll numbers places = AllZip Suits numbers places

  each_empty : (numbers : List ℕ) → AllZip Suits numbers (replicate (length numbers) None)
  each_empty [] = tt
  each_empty (number ∷ numbers) = (tt, each_empty numbers)

  pub all_empty : (numbers : List ℕ) (places : List (Option Done)) → places ≡ replicate (length numbers) None
      → SuitAll numbers places
  all_empty numbers places are = subst (SuitAll numbers) (sym are) (each_empty numbers)

  module _ (numbers : List ℕ) (places : List (Option Done)) (h : SuitAll numbers places) where
    pub has_place : (at : ℕ) → at < length numbers → at < length places
    has_place at less = let long = AllZip-long Suits numbers places h in omega (arith, long, less)

    -- the next of what was taken has a place, and is put there
    module _ (all rest : List Taken) (taken : Taken) (is : all ≡ taken ∷ rest) (left : All (IsTakenFrom numbers) all)
      where
        next : IsTakenFrom numbers taken × All (IsTakenFrom numbers) rest
        next = first_and_rest (IsTakenFrom numbers) all rest taken is left

        pub next_has_place : taken.at < length places
        next_has_place = has_place taken.at (slice_get_within numbers taken.at next.0.0 next.0.1)

        pub next_put : All (IsTakenFrom numbers) rest × SuitAll numbers (set places taken.at (Some taken.done))
        next_put = (next.1, zip_set Suits numbers places taken.at next.0.0 (Some taken.done) h next.0.1 next.0.2)

    -- what is in a place is what was asked of it, and the place is empty then
    pub one_found : (at : ℕ) (place : Option Done) (done : Done) → at < length numbers → place ≡ get_or places at place
        → place ≡ Some done
        → R (get_or numbers at 0) done
    one_found at place done less there is =
        zip_get Suits numbers places at (get_or numbers at 0) (Some done) h (slice_get-get_or numbers at 0 less)
        (slice_get_read places (length places) at place refl (has_place at less) there ∙ ap (λ o. Some o) is)

    pub one_cleared : (at : ℕ) (place : Option Done) → at < length numbers → place ≡ None
        → SuitAll numbers (set places at place)
    one_cleared at place less none =
        subst (λ o. SuitAll numbers (set places at o)) (sym none)
        (zip_set Suits numbers places at (get_or numbers at 0) None h (slice_get-get_or numbers at 0 less) tt)

  pub one_more : (numbers : List ℕ) (all more : List Done) (at : ℕ) (done : Done) → at < length numbers
      → more ≡ all ++ done ∷ []
      → AllZip R (take at numbers) all → R (get_or numbers at 0) done → AllZip R (take (at + 1) numbers) more
  one_more numbers all more at done less pushed old one =
      zip_next R numbers all more at (get_or numbers at 0) done (slice_get-get_or numbers at 0 less) pushed old one

  -- one more was taken
  pub taken_more : (numbers : List ℕ) (all more : List Taken) (at : ℕ) (done : Done) (number : ℕ)
      → more ≡ all ++ record { at = at; done = done } ∷ []
      → slice_get numbers at ≡ Some number → R number done
      → All (IsTakenFrom numbers) all → All (IsTakenFrom numbers) more
  taken_more numbers all more at done number pushed here one old =
      subst (All (IsTakenFrom numbers)) (sym pushed)
      (All-push (IsTakenFrom numbers) all record { at = at; done = done } old (number, here, one))
