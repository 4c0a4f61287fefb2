-- Lists are gone through item by item.
use Rattle.std.proofs.Common.{◌≡◌, ℕ, zero, suc, ◌+◌, ◌≤◌, List, [], ◌∷◌, ◌++◌, length, map, Some, refl, sym, ap, ◌∙◌}
use Rattle.std.proofs.Common.{arith}
use Rattle.std.specs.Prelude.{slice_get}
use Rattle.std.specs.List.{All, AllZip}
use Rattle.std.proofs.Math.ListN.{drop}
use Rattle.std.proofs.lemmas.List.{append_assoc}
use Rattle.std.proofs.lemmas.List.Elements.{All-cons}
use Rattle.mw_term.specs.Terms.{Expression, KernelType}
use Rattle.mw_term.specs.Programs.{Definition, value as defines, kernel}
use Rattle.mw_tasks.specs.Phases.{EachKernel, kernel_numbers}

-- the rest of a list begins with the element at its place
pub rest_is : {X : Type 0} (xs : List X) (at : ℕ) (x : X) → slice_get xs at ≡ Some x → drop at xs ≡ x ∷ drop
    (at + 1) xs
rest_is [] at x here = absurd (cc)
rest_is (y ∷ xs) zero x here = let same : y ≡ x = cc in rw same refl
rest_is (y ∷ xs) (suc at) x here = let next : suc at + 1 ≡ suc (at + 1) = omega arith in rw next
    (rest_is xs at x here)

pub drop_all : {X : Type 0} (xs : List X) (n : ℕ) → length xs ≤ n → drop n xs ≡ []
drop_all [] zero h = refl
drop_all [] (suc n) h = refl
drop_all (x ∷ xs) zero h = absurd (omega arith)
drop_all (x ∷ xs) (suc n) h = drop_all xs n (omega arith)

-- what is gathered so far and what the rest gives, where the rest begins with an element that gives more
pub gathers : {Y : Type 0} (whole so_far more next rest : List Y) → whole ≡ so_far ++ next → next ≡ more ++ rest
    → whole ≡ (so_far ++ more) ++ rest
gathers whole so_far more next rest p q = p ∙ (ap (λ ys. so_far ++ ys) q ∙ sym (append_assoc so_far more rest))

-- The numbers of the kernel items are noted one after the other.
module _ (items : List Definition) (at : ℕ) (so_far after : List ℕ)
    (noted : kernel_numbers 0 items ≡ so_far ++ kernel_numbers at (drop at items)) where
  pub kernel_noted : (k : KernelType) (e : Expression) → slice_get items at ≡ Some (kernel k e)
      → after ≡ so_far ++ at ∷ []
      → kernel_numbers 0 items ≡ after ++ kernel_numbers (at + 1) (drop (at + 1) items)
  kernel_noted k e here pushed =
      rw pushed (gathers (kernel_numbers 0 items) so_far (at ∷ []) (kernel_numbers at (drop at items))
      (kernel_numbers (at + 1) (drop (at + 1) items)) noted
      (ap (kernel_numbers at) (rest_is items at (kernel k e) here)))

  pub let_noted : (e : Expression) → slice_get items at ≡ Some (defines e) → after ≡ so_far
      → kernel_numbers 0 items ≡ after ++ kernel_numbers (at + 1) (drop (at + 1) items)
  let_noted e here same = rw same
      (noted ∙ ap (λ d. so_far ++ kernel_numbers at d) (rest_is items at (defines e) here))

pub head_there : {X : Type 0} (xs : List X) (n : ℕ) (x : X) (rest : List X) → x ∷ rest ≡ drop n xs
    → slice_get xs n ≡ Some x
head_there [] zero x rest is = absurd (cc)
head_there [] (suc n) x rest is = absurd (cc)
head_there (y ∷ xs) zero x rest is = let same : x ≡ y = cc in ap Some (sym same)
head_there (y ∷ xs) (suc n) x rest is = head_there xs n x rest is

pub rest_after : {X : Type 0} (xs : List X) (n : ℕ) (x : X) (rest : List X) → x ∷ rest ≡ drop n xs
    → rest ≡ drop (n + 1) xs
rest_after xs n x rest is = let both : x ∷ rest ≡ x ∷ drop (n + 1) xs = is
    ∙ rest_is xs n x (head_there xs n x rest is) in cc

-- What holds of the work on each numbered kernel item holds of each kernel item.
each_from : {X : Type 0} (R : KernelType → Expression → X → Type 0) (all rest : List Definition) (n : ℕ) (xs : List X)
    → rest ≡ drop n all
    → AllZip (λ i x. (k : KernelType) (e : Expression) → slice_get all i ≡ Some (kernel k e) → R k e x)
    (kernel_numbers n rest) xs
    → EachKernel R rest xs
each_from R all [] n [] is h = tt
each_from R all [] n (x ∷ xs) is h = absurd h
each_from R all (defines e ∷ rest) n xs is h = each_from R all rest (n + 1) xs
    (rest_after all n (defines e) rest is) h
each_from R all (kernel k e ∷ rest) n [] is h = absurd h
each_from R all (kernel k e ∷ rest) n (x ∷ xs) is h = (
  h.0 k e (head_there all n (kernel k e) rest is),
  each_from R all rest (n + 1) xs
      (rest_after all n (kernel k e) rest is) h.1,
)

pub each_kernel : {X : Type 0} (R : KernelType → Expression → X → Type 0) (items : List Definition) (xs : List X)
    → AllZip (λ i x. (k : KernelType) (e : Expression) → slice_get items i ≡ Some (kernel k e) → R k e x)
    (kernel_numbers 0 items) xs
    → EachKernel R items xs
each_kernel R items xs h = each_from R items items 0 xs refl h

-- what holds of each kernel item's x where R holds
pub each_gives : {X : Type 0} (R : KernelType → Expression → X → Type 0) (P : X → Type 0)
    → ((k : KernelType) (e : Expression) (x : X) → R k e x → P x)
    → (items : List Definition) (xs : List X) → EachKernel R items xs → All P xs
each_gives R P f [] [] h = λ k d less. absurd (omega arith)
each_gives R P f [] (x ∷ xs) h = absurd h
each_gives R P f (defines e ∷ items) xs h = each_gives R P f items xs h
each_gives R P f (kernel k e ∷ items) [] h = absurd h
each_gives R P f (kernel k e ∷ items) (x ∷ xs) h = All-cons P x xs (f k e x h.0) (each_gives R P f items xs h.1)

pub each_mapped : {X Y : Type 0} (R : KernelType → Expression → X → Type 0) (S : KernelType → Expression → Y → Type 0)
    (g : X → Y)
    → ((k : KernelType) (e : Expression) (x : X) → R k e x → S k e (g x)) → (items : List Definition) (xs : List X)
    → EachKernel R items xs
    → EachKernel S items (map g xs)
each_mapped R S g f [] [] h = tt
each_mapped R S g f [] (x ∷ xs) h = absurd h
each_mapped R S g f (defines e ∷ items) xs h = each_mapped R S g f items xs h
each_mapped R S g f (kernel k e ∷ items) [] h = absurd h
each_mapped R S g f (kernel k e ∷ items) (x ∷ xs) h = (f k e x h.0, each_mapped R S g f items xs h.1)
