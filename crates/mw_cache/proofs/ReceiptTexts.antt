-- Texts are looked for among those of receipts.
use Rattle.std.proofs.Common.{◌≡◌, ◌≢◌, ℕ, zero, suc, ◌+◌, ◌≤◌, List, [], ◌∷◌, ◌++◌, ◌⊎◌, inl, inr, map, Option}
use Rattle.std.proofs.Common.{Some, None, true, false, refl, sym, ap, ◌∙◌, subst, arith}
use Rattle.std.specs.Prelude.{Bool, Decides, slice_get, IsNone, IfSome, if◌then◌else◌}
use Rattle.std.proofs.lemmas.Bool.{cases_Bool}
use denote.Ref.{Bor}
use Rattle.mw_store.specs.Loads.{Loaded, LoadState}
use Rattle.std.specs.Str.{bytes_eq}
use Rattle.std.proofs.Math.ListN.{drop}
use Rattle.std.proofs.lemmas.Slice.Eq.{bytes_eq-Decides}
use Rattle.mw_slots.specs.Receipts.{Known}
use Rattle.mw_compile.specs.Entries.{Emitted}
use Rattle.mw_cache.specs.Gots.{texts_of, loaded_texts, IsLoadedText}
use Rattle.mw_cache.specs.Hints.{price_beside}

-- what is not so is not told
tells : (b : Bool) (P : Type 0) → Decides b P → (P → ⊥) → b ≡ false
tells true P d n = absurd (n (d.0 refl))
tells false P d n = refl

-- a hint of another text is passed over
skips : (hints : List (Known Emitted)) (at : ℕ) (r : Known Emitted) (more : List (List ℕ)) (text : List ℕ)
    → slice_get hints at ≡ Some r
    → r.entry.text ≢ text → price_beside (texts_of (drop at hints) ++ more) text
    ≡ price_beside (texts_of (drop (suc at) hints) ++ more) text
skips [] at r more text here ne = absurd (cc)
skips (x ∷ hints) zero r more text here ne =
    let same : x ≡ r = cc in
    let other : bytes_eq x.entry.text text
    ≡ false = tells _ _ (bytes_eq-Decides x.entry.text text)
    (subst (λ (y : Known Emitted). y.entry.text ≢ text) (sym same) ne) in
    rw other refl
skips (x ∷ hints) (suc at) r more text here ne = skips hints at r more text here ne

pub price_skips : (hints : List (Known Emitted)) (at : ℕ) (r : Known Emitted) (more : List (List ℕ)) (text : List ℕ)
    → slice_get hints at ≡ Some r
    → r.entry.text ≢ text → price_beside (texts_of (drop at hints) ++ more) text
    ≡ price_beside (texts_of (drop (at + 1) hints) ++ more) text
price_skips hints at r more text here ne =
    let next : suc at ≡ at + 1 = omega arith in
    skips hints at r more text here ne ∙ ap (λ n. price_beside (texts_of (drop n hints) ++ more) text) next

-- beside the loaded texts an emission is the price, unless the text was loaded
loaded_price : (ls : List Loaded) (text : List ℕ)
    → (price_beside (map (λ l. l.text) ls) text ≡ 1) ⊎ ((at : ℕ) × (l : Loaded) × (slice_get ls at
    ≡ Some l) × (l.text ≡ text))
loaded_price [] text = inl refl
loaded_price (l ∷ ls) text = elim (cases_Bool (bytes_eq l.text text)) [
  | inl same ↦ inr (0, l, refl, (bytes_eq-Decides l.text text).0 same)
  | inr other ↦ elim (loaded_price ls text) [
    | inl one ↦ inl (ap (λ b. if b then 0 else price_beside (map (λ x. x.text) ls) text) other ∙ one)
    | inr found ↦ inr (suc found.0, found.1, found.2, found.3)
  ]
]

pub price_holds : (load : LoadState) (text : List ℕ) (old new : ℕ) → (IsLoadedText load text → new ≡ old)
    → new ≤ old + 1
    → new ≤ old + price_beside (loaded_texts load) text
price_holds load text old new free most = elim (loaded_price load.records text) [
  | inl one ↦ subst (λ n. new ≤ old + n) (sym one) most
  | inr loaded ↦ let same = free loaded in omega (arith, same)
]

-- the price of a text, with a hint of it or without one
pub price_is : (hint : Option (Bor (Known Emitted))) (load : LoadState) (text : List ℕ) (price old new : ℕ)
    → (IsNone hint → price ≡ price_beside (loaded_texts load) text)
    → IfSome hint (λ h. h.now.entry.text ≡ text) → IfSome hint (λ h. h.now.entry.text ≡ text → new ≡ old)
    → (IsLoadedText load text → new ≡ old) → new ≤ old + 1 → new ≤ old + price
price_is None load text price old new none some hinted free most =
    subst (λ n. new ≤ old + n) (sym (none refl)) (price_holds load text old new free most)
price_is (Some h) load text price old new none some hinted free most =
    let same = hinted some in omega (arith, same)
