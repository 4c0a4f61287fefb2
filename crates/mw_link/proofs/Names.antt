-- Names of exports: those of different kernels differ, and each export is found under its name.
use Rattle.std.proofs.Common.{◌≡◌, ℕ, zero, suc, ◌+◌, Bool, true, false, List, [], ◌∷◌, ◌++◌, length, Some, refl, ap}
use Rattle.std.proofs.Common.{◌∙◌, sym, subst, arith, length-append}
use Rattle.std.specs.Prelude.{slice_get, nat_eq, codes}
use Rattle.std.specs.List.{AllByRecursion}
use Rattle.std.specs.Cmp.Lexicographic.{pointwise, bytes_decides}
use Rattle.mw_term.specs.Terms.{KernelType, of_ground, to}
use Rattle.mw_wasm.specs.declared.modules.Exported.TheVariants.{Func}
use Rattle.mw_wasm.specs.Syntax.{Exporting}
use Rattle.mw_wasm.specs.Instances.{exported_among, function_or}
use Rattle.mw_wasm.specs.Validity.{NamesDiffer}
use Rattle.mw_link.specs.Linked.{Kernel, calls, init_name, call_name, call_exports, exports_from}
use Rattle.mw_link.specs.LinkLaw.{KernelsDiffer}
use Rattle.mw_conv.proofs.Ranges.{both_all}

-- the ends of equal lists, where they are as long
pub equal_parts : (xs ys us vs : List ℕ) → length us ≡ length vs → xs ++ us ≡ ys ++ vs → (xs ≡ ys) × (us ≡ vs)
equal_parts [] [] us vs l e = (refl, e)
equal_parts [] (y ∷ ys) us vs l e =
    absurd (let q : length us ≡ suc (length ys + length vs) = ap length e
    ∙ (let a = length-append ys vs in omega arith) in omega arith)
equal_parts (x ∷ xs) [] us vs l e =
    absurd (let q : suc (length xs + length us) ≡ length vs = (let a = length-append xs us in
    omega (arith, ap length e)) in omega arith)
equal_parts (x ∷ xs) (y ∷ ys) us vs l e =
    let h : x ≡ y = (cc) in
    let t : xs ++ us ≡ ys ++ vs = (cc) in
    let r = equal_parts xs ys us vs l t in
    (rw h (ap (λ zs. y ∷ zs) r.0), r.1)

abbrev Other : List ℕ → Exporting → Type 0
Other name e = e.name ≡ name → ⊥

second_letter : (a b c d : ℕ) (xs ys : List ℕ) → a ∷ b ∷ xs ≡ c ∷ d ∷ ys → b ≡ d
second_letter a b c d xs ys e = cc

init_is_not_call : (x y : List ℕ) → init_name x ≡ call_name y → ⊥
init_is_not_call x y e =
    let r = equal_parts x y (codes ".init") (codes ".call") refl e in let q = second_letter _ _ _ _ _ _ r.1 in
    omega arith

call_is_not_init : (x y : List ℕ) → call_name x ≡ init_name y → ⊥
call_is_not_init x y e = init_is_not_call y x (sym e)

init_of_other : (x y : List ℕ) → (x ≡ y → ⊥) → init_name x ≡ init_name y → ⊥
init_of_other x y f e = f (equal_parts x y (codes ".init") (codes ".init") refl e).0

call_of_other : (x y : List ℕ) → (x ≡ y → ⊥) → call_name x ≡ call_name y → ⊥
call_of_other x y f e = f (equal_parts x y (codes ".call") (codes ".call") refl e).0

-- the exports of other kernels have other names
module _ (name mine : List ℕ) (inits : (x : List ℕ) → (x ≡ name → ⊥) → init_name x ≡ mine → ⊥)
    (others : (x : List ℕ) → (x ≡ name → ⊥) → call_name x ≡ mine → ⊥) where
  all_other : (n : ℕ) (ps : List Kernel) → AllByRecursion (λ (other : Kernel). other.name ≡ name → ⊥) ps
      → AllByRecursion (Other mine) (exports_from n ps)
  all_other n [] d = tt
  all_other n (p ∷ ps) d = (
    inits p.name d.0,
    both_all (Other mine) (call_exports (suc n) p p.kind) _ (here p.kind) (all_other (suc (n + calls p.kind)) ps d.1),
  )
    where
      here : (k : KernelType) → AllByRecursion (Other mine) (call_exports (suc n) p k)
      here (of_ground g) = tt
      here (to s t) = (others p.name d.0, tt)

pub names_differ : (n : ℕ) (ps : List Kernel) → KernelsDiffer ps → NamesDiffer (exports_from n ps)
names_differ n [] d = tt
names_differ n (p ∷ ps) d =
    let m = suc (n + calls p.kind) in
    go p.kind (exports_from m ps)
    (all_other p.name (init_name p.name) (λ x. init_of_other x p.name) (λ x d. call_is_not_init x p.name) m ps d.0)
    (all_other p.name (call_name p.name) (λ x d. init_is_not_call x p.name) (λ x. call_of_other x p.name) m ps d.0)
    (names_differ m ps d.1)
  where
    go : (k : KernelType) (es : List Exporting) → AllByRecursion (Other (init_name p.name)) es
        → AllByRecursion (Other (call_name p.name)) es → NamesDiffer es
        → NamesDiffer (record { name = init_name p.name; what = Func n } ∷ (call_exports (suc n) p k ++ es))
    go (of_ground g) es a b c = (a, c)
    go (to s t) es a b c = ((call_is_not_init p.name p.name, a), (b, c))

-- an export is found under its name
not_among : (name : List ℕ) (e : Exporting) (es : List Exporting) (j : ℕ)
    → AllByRecursion (λ (other : Exporting). other.name ≡ e.name → ⊥) es → (x : Exporting) → slice_get es j ≡ Some x
    → x.name ≡ name → e.name ≡ name → ⊥
not_among name e [] j a x g q r = absurd (cc)
not_among name e (y ∷ es) zero a x g q r =
    let same : y ≡ x = (cc) in a.0 (ap (λ (z : Exporting). z.name) same ∙ (q ∙ sym r))
not_among name e (y ∷ es) (suc j) a x g q r = not_among name e es j a.1 x g q r

pub found : (es : List Exporting) (j : ℕ) (name : List ℕ) (f : ℕ) → NamesDiffer es
    → slice_get es j ≡ Some record { name = name; what = Func f } → exported_among name es ≡ Some f
found [] j name f d g = absurd (cc)
found (e ∷ es) zero name f d g =
    let same : e ≡ record { name = name; what = Func f } = (cc) in
    subst (λ (e : Exporting). exported_among name (e ∷ es) ≡ Some f) (sym same)
    (rw ((bytes_decides name name).1 refl) refl)
found (e ∷ es) (suc j) name f d g = go (pointwise nat_eq e.name name) refl (found es j name f d.1 g)
  where
    go : (b : Bool) → pointwise nat_eq e.name name ≡ b → exported_among name es ≡ Some f
        → function_or b e.what (exported_among name es) ≡ Some f
    go true q h = absurd (not_among name e es j d.0 _ g refl ((bytes_decides e.name name).0 q))
    go false q h = h
