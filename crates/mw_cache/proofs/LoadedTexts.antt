-- Texts are looked for among those that were loaded.
use Rattle.std.proofs.Common.{◌≡◌, inl, inr, ℕ, zero, suc, ◌+◌, ◌<◌, List, [], ◌∷◌, length, position, Option, Some}
use Rattle.std.proofs.Common.{None, Bool, true, false, true≢false, refl, sym, ap, ◌∙◌, subst, arith}
use Rattle.std.specs.Prelude.{slice_get, is_some, not, if◌then◌else◌, Result, Ok, Err, IfOk, ◌↔◌}
use Rattle.std.specs.Option.{option_map}
use Rattle.std.specs.List.{position_from}
use Rattle.std.specs.Str.{bytes_eq}
use Rattle.std.proofs.lemmas.Bool.{cases_Bool}
use Rattle.std.proofs.lemmas.Slice.Eq.{bytes_eq-Decides}
use Rattle.std.proofs.lemmas.Iterator.Adapters.{position_from-zero}
use Rattle.std.proofs.lemmas.Option.{none-some, same_Some, slice_get-map, get_or_from_slice_get}
use Rattle.mw_store.specs.Loads.{Loaded, LoadState}
use Rattle.mw_cache.specs.declared.got.Got.{Got}
use Rattle.mw_cache.specs.Gots.{CacheState, IsLoadedText, IsLoadedGot, loaded_texts, text_at}

-- a record of the text is at the place
abbrev pub IsFound : List Loaded → List ℕ → ℕ → Type 0
IsFound ls t at = (l : Loaded) × (slice_get ls at ≡ Some l) × (l.text ≡ t)

found_from : (i at : ℕ) (t : List ℕ) (ls : List Loaded) → position_from (λ l. bytes_eq t l.text) i ls ≡ Some at
    → (k : ℕ) × (at ≡ i + k) × IsFound ls t k
found_from i at t [] h = absurd (none-some at h)
found_from i at t (l ∷ ls) h = elim (cases_Bool (bytes_eq t l.text)) [
  | inl same ↦
      let here : Some i ≡ Some at = sym (ap (λ b. if b then Some i else position_from (λ x. bytes_eq t x.text)
      (i + 1) ls) same) ∙ h in
      let at_is : i ≡ at = same_Some i at here in
      (0, omega (arith, at_is), (l, refl, sym ((bytes_eq-Decides t l.text).0 same)))
  | inr other ↦
      let later : position_from (λ x. bytes_eq t x.text) (i + 1) ls ≡ Some at =
      sym (ap (λ b. if b then Some i else position_from (λ x. bytes_eq t x.text) (i + 1) ls) other) ∙ h in
      let r = found_from (i + 1) at t ls later in
      let at_is = r.1 in
      (suc r.0, omega (arith, at_is), r.2)
]

not_first : (t : List ℕ) (l : Loaded) (ls : List Loaded) (k : ℕ) → bytes_eq t l.text ≡ false → ((k : ℕ)
    → IsFound ls t k → ⊥)
    → IsFound (l ∷ ls) t k → ⊥
not_first t l ls zero other later f =
    let same : l ≡ f.0 = same_Some l f.0 f.1 in
    let is : t ≡ l.text = sym (ap (λ x. x.text) same ∙ f.2) in
    true≢false (sym ((bytes_eq-Decides t l.text).1 is) ∙ other)
not_first t l ls (suc k) other later f = later k f

nowhere_from : (i : ℕ) (t : List ℕ) (ls : List Loaded) → position_from (λ l. bytes_eq t l.text) i ls ≡ None
    → (k : ℕ) → IsFound ls t k → ⊥
nowhere_from i t [] h k f = none-some f.0 f.1
nowhere_from i t (l ∷ ls) h k f = elim (cases_Bool (bytes_eq t l.text)) [
  | inl same ↦ none-some i (sym h
      ∙ ap (λ b. if b then Some i else position_from (λ x. bytes_eq t x.text) (i + 1) ls) same)
  | inr other ↦
      let later : position_from (λ x. bytes_eq t x.text) (i + 1) ls ≡ None =
      sym (ap (λ b. if b then Some i else position_from (λ x. bytes_eq t x.text) (i + 1) ls) other) ∙ h in
      not_first t l ls k other (nowhere_from (i + 1) t ls later) f
]

pub found : (load : LoadState) (t : List ℕ) (at : ℕ) → Some at ≡ position (λ l. bytes_eq t l.text) load.records
    → IsFound load.records t at
found load t at h =
    let r = found_from 0 at t load.records (sym (position_from-zero (λ l. bytes_eq t l.text) load.records) ∙ sym h) in
    let is = r.1 in
    let same : r.0 ≡ at = omega (arith, is) in
    subst (λ k. IsFound load.records t k) same r.2

pub nowhere : (load : LoadState) (t : List ℕ) → None ≡ position (λ l. bytes_eq t l.text) load.records
    → IsLoadedText load t → ⊥
nowhere load t h loaded =
    nowhere_from 0 t load.records (sym (position_from-zero (λ l. bytes_eq t l.text) load.records)
    ∙ sym h) loaded.0 (loaded.1, loaded.2, loaded.3)

-- the text at the place of a record is its text
pub text_is : (load : LoadState) (at : ℕ) (l : Loaded) → slice_get load.records at ≡ Some l → text_at load at ≡ l.text
text_is load at l here = get_or_from_slice_get (loaded_texts load) at l.text []
    (slice_get-map (λ x. x.text) load.records at ∙ ap (λ o. option_map (λ x. x.text) o) here)

pub text_found : (load : LoadState) (t : List ℕ) (at : ℕ)
    → Some at ≡ position (λ l. bytes_eq t l.text) load.records → text_at load at ≡ t
text_found load t at h = let f = found load t at h in text_is load at f.0 f.1 ∙ f.2

pub is_loaded : (load : LoadState) (t : List ℕ) (at : ℕ)
    → Some at ≡ position (λ l. bytes_eq t l.text) load.records → IsLoadedText load t
is_loaded load t at h = let f = found load t at h in (at, f.0, f.1, f.2)

-- what the test of an answer says
pub unloaded : (load : LoadState) (t : List ℕ) (o : Option ℕ) (b : Bool)
    → o ≡ position (λ l. bytes_eq t l.text) load.records → is_some o ≡ not b
    → b ≡ true → IsLoadedText load t → ⊥
unloaded load t None b h test is = nowhere load t h
unloaded load t (Some at) b h test is = absurd (true≢false (test ∙ ap not is))

pub loaded : (load : LoadState) (t : List ℕ) (o : Option ℕ) (b : Bool)
    → o ≡ position (λ l. bytes_eq t l.text) load.records → is_some o ≡ not b
    → b ≡ false → IsLoadedText load t
loaded load t None b h test is = absurd (true≢false (sym (test ∙ ap not is)))
loaded load t (Some at) b h test is = is_loaded load t at h

-- where no record was loaded, none is answered
pub unloaded_got : {E : Type 0} (cache : CacheState) (t : List ℕ) (result : Result (Got × Bool) E)
    → IfOk result (λ r. IsLoadedGot r.0 → ⊥)
    → (IsLoadedText cache.load t → ⊥) → IfOk result (λ r. IsLoadedGot r.0 ↔ IsLoadedText cache.load t)
unloaded_got cache t (Ok r) h none = ((λ l. absurd (h l)), λ l. absurd (none l))
unloaded_got cache t (Err e) h none = tt

some_at : (ls : List Loaded) (at : ℕ) → at < length ls → (l : Loaded) × (slice_get ls at ≡ Some l)
some_at [] at less = absurd (omega (arith, less))
some_at (l ∷ ls) zero less = (l, refl)
some_at (l ∷ ls) (suc at) less = some_at ls at (omega (arith, less))

-- the text at the place of a record was loaded
pub loaded_at : (load : LoadState) (at : ℕ) → at < length load.records → IsLoadedText load (text_at load at)
loaded_at load at less =
    let h = some_at load.records at less in (at, h.0, h.1, sym (text_is load at h.0 h.1))
