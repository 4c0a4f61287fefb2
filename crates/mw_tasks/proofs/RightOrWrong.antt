-- Either all runs are right, or one is wrong; and where an evaluation ended with a bad answer, one is.
use Rattle.std.proofs.Common.{◌≡◌, ◌⊎◌, inl, inr, ℕ, zero, suc, List, [], ◌∷◌, Option, Some, None, refl, sym, ap, ◌∙◌}
use Rattle.std.proofs.Common.{subst, arith}
use Rattle.std.specs.Prelude.{slice_get}
use Rattle.std.specs.Str.{bytes_eq}
use Rattle.std.proofs.lemmas.Bool.{cases_Bool}
use Rattle.std.proofs.lemmas.Bool.Decides.{not_from_Decides}
use Rattle.std.proofs.lemmas.List.Elements.{All-cons}
use Rattle.std.proofs.lemmas.Option.{none-some, same_Some}
use Rattle.std.proofs.lemmas.Slice.Eq.{bytes_eq-Decides}
use Rattle.mw_term.specs.Terms.{Expression, KernelType}
use Rattle.mw_meaning.specs.declared.mode.Mode.{Mode}
use Rattle.mw_meaning.specs.Simplification.{in_mode}
use Rattle.mw_meaning.specs.StagedMeaning.{Runs}
use Rattle.mw_key.specs.declared.version.Version.{Version}
use Rattle.mw_key.specs.declared.version.Version.TheVariants.{Two}
use Rattle.mw_key.specs.CanonicalText.{IsTextOf, canonical_text}
use Rattle.mw_key.specs.Reading.{words, text_of_words}
use Rattle.mw_key.proofs.FoundTexts.{text_found, text_from, one_text}
use Rattle.mw_store.specs.Loads.{Loaded, LoadState}
use Rattle.mw_compile.specs.Emission.{emission, IsEmissionOf}
use Rattle.mw_cache.specs.Gots.{IsRight}
use Rattle.mw_tasks.specs.RightRuns.{IsWrong, IsRightRun, AreRightRuns, HasWrongRun}

-- of code that has the text
emitted_or_not : (bytes text : List ℕ) (v : Version) (c : Expression) (k : KernelType) → IsTextOf text v c k
    → IsEmissionOf bytes text ⊎ (IsEmissionOf bytes text → ⊥)
emitted_or_not bytes text v c k is = elim (cases_Bool (bytes_eq bytes (emission v c k))) [
  | inl same ↦
      inl (record {
        version = v;
        code = c;
        kind = k;
        is_text = is;
        is_emission = (bytes_eq-Decides bytes (emission v c k)).0 same;
      })
  | inr other ↦
      inr (λ e.
      let one = one_text text e.version v e.code c e.kind k e.is_text is in
      let same : emission e.version e.code e.kind ≡ emission v c k =
      ap (λ v. emission v e.code e.kind) one.0
      ∙ (ap (λ c. emission v c e.kind) one.1 ∙ ap (λ k. emission v c k) one.2) in
      not_from_Decides _ (bytes_eq-Decides bytes (emission v c k)) other (e.is_emission ∙ same))
]

-- bytes are the emission of a text or they aren't
emission_or_not : (bytes text : List ℕ) (read : Option (Version × Expression × KernelType))
    → text_of_words (words text) ≡ read → IsEmissionOf bytes text ⊎ (IsEmissionOf bytes text → ⊥)
emission_or_not bytes text None is =
    inr (λ e. none-some _ (sym is ∙ text_from text e.version e.code e.kind e.is_text))
emission_or_not bytes text (Some (v, c, k)) is = emitted_or_not bytes text v c k (text_found text v c k is)

-- records of the text have its emission, or one hasn't
abbrev Have : List Loaded → List ℕ → Type 0
Have ls text = (at : ℕ) (l : Loaded) → slice_get ls at ≡ Some l → l.text ≡ text → IsEmissionOf l.bytes text

abbrev HasOther : List Loaded → List ℕ → Type 0
HasOther ls text =
    (at : ℕ) × (l : Loaded) × (slice_get ls at ≡ Some l) × (l.text ≡ text) × (IsEmissionOf l.bytes text → ⊥)

first_has : (l : Loaded) (ls : List Loaded) (text : List ℕ) → (l.text ≡ text → IsEmissionOf l.bytes text)
    → Have ls text → Have (l ∷ ls) text
first_has l ls text first rest zero m here is =
    let same = same_Some l m here in
    subst (λ (x : Loaded). IsEmissionOf x.bytes text) same (first (ap (λ (x : Loaded). x.text) same ∙ is))
first_has l ls text first rest (suc at) m here is = rest at m here is

records_decided : (ls : List Loaded) (text : List ℕ) → Have ls text ⊎ HasOther ls text
records_decided [] text = inl (λ at l here is. absurd (none-some l here))
records_decided (l ∷ ls) text = elim (records_decided ls text) [
  | inr other ↦ inr (suc other.0, other.1, other.2, other.3, other.4)
  | inl rest ↦
      elim (cases_Bool (bytes_eq l.text text)) [
        | inr another ↦
            inl (first_has l ls text
            (λ is. absurd (not_from_Decides _ (bytes_eq-Decides l.text text) another is)) rest)
        | inl same ↦
            elim (emission_or_not l.bytes text (text_of_words (words text)) refl) [
              | inl e ↦ inl (first_has l ls text (λ is. e) rest)
              | inr other ↦ inr (zero, l, refl, (bytes_eq-Decides l.text text).0 same, other)
            ]
      ]
]

right_or_wrong : (load : LoadState) (text : List ℕ) → IsRight load text ⊎ IsWrong load text
right_or_wrong load text = elim (records_decided load.records text) [
  | inl right ↦ inl right
  | inr other ↦
      inr (record { at = other.0; loaded = other.1; here = other.2; is_text = other.3; wrong = other.4 })
]

pub all_or_one : (mode : Mode) (load : LoadState) (rs : Runs) → AreRightRuns mode load rs ⊎ HasWrongRun mode load rs
all_or_one mode load [] = inl (λ k d less. absurd (omega arith))
all_or_one mode load (r ∷ rs) = elim (right_or_wrong load (canonical_text Two (in_mode mode r.0) r.1)) [
  | inr wrong ↦ inr (zero, r, refl, wrong)
  | inl right ↦
      elim (all_or_one mode load rs) [
        | inr wrong ↦ inr (suc wrong.0, wrong.1, wrong.2, wrong.3)
        | inl rest ↦ inl (All-cons (λ r. IsRightRun mode load r.0 r.1) r rs right rest)
      ]
]

-- where the runs can't all be right, one is wrong
pub one_is_wrong : (mode : Mode) (load : LoadState) (rs : Runs) → (AreRightRuns mode load rs → ⊥)
    → HasWrongRun mode load rs
one_is_wrong mode load rs never = elim (all_or_one mode load rs) [
  | inl right ↦ absurd (never right)
  | inr wrong ↦ wrong
]
