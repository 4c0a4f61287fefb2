-- Names collected into a set: there are as many as items exactly where no two are the same.
use Rattle.std.proofs.Common.{◌≡◌, ◌≢◌, ℕ, Bool, true, false, List, [], ◌∷◌, length, map, Bor, refl, sym, ap, subst}
use Rattle.std.proofs.Common.{◌∙◌, ◌⊎◌, inl, inr, Ordering}
use Rattle.std.specs.List.{IsDistinct}
use Rattle.std.specs.Cmp.{IsTotalOrder}
use Rattle.std.specs.Cmp.Lexicographic.{slice_cmp}
use Rattle.std.specs.Ordering.{nat_cmp, eq_by_cmp}
use Rattle.std.specs.Set.{distinct_count}
use Rattle.std.specs.BTreeSet.{BTreeSet, IsFromIterResult}
use Rattle.std.proofs.lemmas.Cmp.{nat_list_cmp_total, eq_by_cmp_equiv}
use Rattle.std.proofs.lemmas.Map.Lookups.{exact_bytes}
use Rattle.std.proofs.lemmas.Map.Views.{btree_set_len-from_list, tells_apart}
use Rattle.std.proofs.lemmas.Map.Made.{IsDistinct-from_count, distinct_count-from_IsDistinct}
use Rattle.std.proofs.lemmas.List.{length-map}
use Rattle.mw_wasm.specs.declared.modules.Export.{Export}
use Rattle.mw_wasm.specs.Syntax.{Exporting}
use Rattle.mw_wasm.specs.Views.{export_of}
use Rattle.mw_wasm.specs.Validity.{NamesDiffer}
use Rattle.mw_validate.specs.Deciding.{Decides}
use Rattle.mw_validate.proofs.MappedElements.{mapped, unmapped, all_so}

-- the order of slices of bytes, and of references to them
abbrev by_bytes : List ℕ → List ℕ → Ordering
by_bytes = slice_cmp nat_cmp

abbrev by_target : Bor (List ℕ) → Bor (List ℕ) → Ordering
by_target x y = by_bytes x.now y.now

target_total : IsTotalOrder by_target
target_total = record {
  antisymm = λ x y. nat_list_cmp_total.antisymm x.now y.now;
  trans = λ x y z. nat_list_cmp_total.trans x.now y.now z.now;
  congr = λ x y z. nat_list_cmp_total.congr x.now y.now z.now;
}

-- being distinct, through a function
through : {X Y : Type 0} (e : Y → Y → Bool) (f : X → Y) (xs : List X) → IsDistinct (λ a b. e (f a) (f b)) xs
    → IsDistinct e (map f xs)
unfolding IsDistinct
through e f [] d = tt
through e f (x ∷ xs) d = (mapped (λ y. e (f x) y ≡ false) f xs d.0, through e f xs d.1)

back : {X Y : Type 0} (e : Y → Y → Bool) (f : X → Y) (xs : List X) → IsDistinct e (map f xs)
    → IsDistinct (λ a b. e (f a) (f b)) xs
unfolding IsDistinct
back e f [] d = tt
back e f (x ∷ xs) d = (unmapped (λ y. e (f x) y ≡ false) f xs d.0, back e f xs d.1)

true_false : true ≡ false → ⊥
true_false e = cc

-- names that differ
abbrev same : List ℕ → List ℕ → Bool
same = eq_by_cmp by_bytes

other : (a b : List ℕ) → same a b ≡ false → b ≡ a → ⊥
other a b f e = true_false (sym ((eq_by_cmp_equiv nat_list_cmp_total).refl a) ∙ (ap (same a) (sym e) ∙ f))

apart : (a b : List ℕ) → (b ≡ a → ⊥) → same a b ≡ false
apart a b h = by (same a b) refl
  where
    by : (r : Bool) → same a b ≡ r → same a b ≡ false
    by true e = absurd (h (sym (tells_apart exact_bytes a b e)))
    by false e = e

names_differ : (es : List Exporting) → IsDistinct (λ a b. same a.name b.name) es → NamesDiffer es
unfolding IsDistinct
names_differ [] d = tt
names_differ (e ∷ es) d = (all_so _ _ es (λ x. other e.name x.name) d.0, names_differ es d.1)

names_distinct : (es : List Exporting) → NamesDiffer es → IsDistinct (λ a b. same a.name b.name) es
unfolding IsDistinct
names_distinct [] d = tt
names_distinct (e ∷ es) d = (all_so _ _ es (λ x. apart e.name x.name) d.0, names_distinct es d.1)

pub counted : (xs : List (Bor (List ℕ))) (n : BTreeSet (Bor (List ℕ))) (exports : List Export)
    → IsFromIterResult by_target xs n
    → map (λ (x : Bor (List ℕ)). x.now) xs ≡ map (λ (e : Export). (export_of e).name) exports
    → (r : Bool) → ((r ≡ true) × (length n.keys ≡ length exports)) ⊎ ((r ≡ false) × (length n.keys ≢ length exports))
    → Decides r (NamesDiffer (map export_of exports))
counted xs n exports made seen = go
  where
    es : List Exporting
    es = map export_of exports

    long : length exports ≡ length xs
    long = sym (length-map exports (λ (e : Export). (export_of e).name))
        ∙ (ap length (sym seen) ∙ length-map xs (λ (x : Bor (List ℕ)). x.now))

    same_names : map (λ (x : Bor (List ℕ)). x.now) xs ≡ map (λ (e : Exporting). e.name) es
    same_names = seen ∙ twice exports
      where
        twice : (exports : List Export) → map (λ (e : Export). (export_of e).name) exports
            ≡ map (λ (e : Exporting). e.name) (map export_of exports)
        twice [] = refl
        twice (e ∷ rest) = ap (λ names. (export_of e).name ∷ names) (twice rest)

    so_many : length n.keys ≡ distinct_count (eq_by_cmp by_target) xs
    so_many = btree_set_len-from_list target_total xs n made

    yes : length n.keys ≡ length exports → NamesDiffer es
    yes e = names_differ es
        (back same (λ (e : Exporting). e.name) es
        (subst (IsDistinct same) same_names (through same (λ (x : Bor (List ℕ)). x.now) xs
        (IsDistinct-from_count (eq_by_cmp_equiv target_total) xs (sym so_many ∙ (e ∙ long))))))

    no : NamesDiffer es → length n.keys ≡ length exports
    no d = so_many ∙ (distinct_count-from_IsDistinct (eq_by_cmp_equiv target_total) xs
        (back same (λ (x : Bor (List ℕ)). x.now) xs
        (subst (IsDistinct same) (sym same_names)
        (through same (λ (e : Exporting). e.name) es (names_distinct es d)))) ∙ sym long)

    go : (r : Bool) → ((r ≡ true) × (length n.keys ≡ length exports)) ⊎ ((r ≡ false) × (length n.keys ≢ length exports))
        → Decides r (NamesDiffer es)
    go true (inl e) = yes e.1
    go true (inr e) = absurd (true_false e.0)
    go false (inl e) = absurd (true_false (sym e.0))
    go false (inr e) = λ d. e.1 (no d)
