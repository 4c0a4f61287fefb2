-- Code that is passed over.
use Rattle.std.proofs.Common.{◌≡◌, ℕ, List, [], ◌∷◌, Option, Some, None, Result, Ok, Err, IfOk, refl, sym, ap, ◌∙◌}
use Rattle.std.proofs.lemmas.Option.{none-some, same_Some}
use Rattle.mw_term.specs.Terms.{Expression, KernelType, kernel_type_of}
use Rattle.mw_term.specs.declared.term.KType.{KType}
use Rattle.mw_key.specs.CanonicalText.{IsTextOf}
use Rattle.mw_key.specs.declared.fault.TextFault.{TextFault}
use Rattle.mw_key.specs.declared.fault.TextFault.TheVariants.{BadText}
use Rattle.mw_key.specs.declared.version.Version.{Version}
use Rattle.mw_key.specs.Reading.{Finding, then_find, make, past, last, words, find_version, find_kernel_type, find_code}
use Rattle.mw_key.specs.Reading.{text_of_words, AnswersType}
use Rattle.mw_key.proofs.FoundTexts.{text_found, text_from}

-- what is left after what is made of a thing is left after the thing
pub past_make : {A B : Type 0} (f : A → B) (x : Finding A) → past (make f x) ≡ past x
past_make f None = refl
past_make f (Some x) = refl

-- what is left of words
abbrev pub Left : Type 0
Left = Option (List (List ℕ) × ℕ)

abbrev pub then_pass : Left → (List (List ℕ) → ℕ → Left) → Left
then_pass None next = None
then_pass (Some left) next = next left.0 left.1

pub past_two : {A B C : Type 0} (f : A → B → C) (x : Finding A) (next : List (List ℕ) → ℕ → Finding B)
    → past (then_find x λ a ws n. make (f a) (next ws n)) ≡ then_pass (past x) (λ ws n. past (next ws n))
past_two f None next = refl
past_two f (Some x) next = past_make (f x.0) (next x.1 x.2)

pub past_three : {A B C D : Type 0} (f : A → B → C → D) (x : Finding A) (next : List (List ℕ) → ℕ → Finding B)
    (last : List (List ℕ) → ℕ → Finding C)
    → past (then_find x λ a ws n. then_find (next ws n) λ b ws n. make (f a b) (last ws n))
    ≡ then_pass (past x) (λ ws n. then_pass (past (next ws n)) (λ ws n. past (last ws n)))
past_three f None next last = refl
past_three f (Some x) next last = past_two (f x.0) (next x.1 x.2) last

some_past : {A : Type 0} (x : Finding A) (ws : List (List ℕ)) (n : ℕ) → past x ≡ Some (ws, n)
    → (a : A) × (x ≡ Some (a, ws, n))
some_past None ws n h = absurd (cc)
some_past (Some x) ws n h =
    (x.0, λ i. Some (x.0, (same_Some (x.1, x.2) (ws, n) h i).0, (same_Some (x.1, x.2) (ws, n) h i).1))

none_past : {A : Type 0} (x : Finding A) → past x ≡ None → x ≡ None
none_past None h = refl
none_past (Some x) h = absurd (cc)

none_last : {A : Type 0} (a : A) (left : List (List ℕ)) (l : ℕ) → (left ≡ [] → ⊥) → last (Some (a, left, l)) ≡ None
none_last a [] l more = absurd (more refl)
none_last a (w ∷ ws) l more = refl

module _ (ws first second : List (List ℕ)) (v : Version) (k : KernelType) (m n : ℕ)
    (version : find_version ws 10000 ≡ Some (v, first, m))
    (kind : find_kernel_type 10000 first m ≡ Some (k, second, n)) where
  -- a text is its version and type, and then code to the end
  text_is : text_of_words ws ≡ last (make (λ c. (v, c, k)) (find_code 400 0 second 20000))
  unfolding text_of_words
  text_is =
      ap (λ x. last (then_find x λ v ws n. then_find (find_kernel_type 10000 ws n) λ k ws n.
      make (λ c. (v, c, k)) (find_code 400 0 ws 20000))) version
      ∙ ap (λ x. last (then_find x λ k ws n. make (λ c. (v, c, k)) (find_code 400 0 ws 20000))) kind

  pub typed_whole : (left : List (List ℕ)) (l : ℕ) → past (find_code 400 0 second 20000) ≡ Some (left, l) → left ≡ []
      → (u : Version) × (c : Expression) × (text_of_words ws ≡ Some (u, c, k))
  typed_whole left l passed end =
      let code = some_past (find_code 400 0 second 20000) left l passed in (
        v,
        code.0,
        text_is ∙ ap (λ x. last (make (λ c. (v, c, k)) x)) code.1
            ∙ ap (λ left. last (Some ((v, code.0, k), left, l))) end,
      )

  pub typed_more : (left : List (List ℕ)) (l : ℕ) → past (find_code 400 0 second 20000) ≡ Some (left, l)
      → (left ≡ [] → ⊥) → text_of_words ws ≡ None
  typed_more left l passed more =
      let code = some_past (find_code 400 0 second 20000) left l passed in
      text_is ∙ ap (λ x. last (make (λ c. (v, c, k)) x)) code.1 ∙ none_last (v, code.0, k) left l more

  pub typed_none : past (find_code 400 0 second 20000) ≡ None → text_of_words ws ≡ None
  typed_none none = text_is ∙ ap (λ x. last (make (λ c. (v, c, k)) x)) (none_past (find_code 400 0 second 20000) none)

-- what follows of bytes
pub type_read : (bytes : List ℕ) (r : Result KType TextFault) → AnswersType r (text_of_words (words bytes))
    → IfOk r (λ kind. (v : Version) × (c : Expression) × IsTextOf bytes v c (kernel_type_of kind))
type_read bytes (Ok kind) a = (a.0, a.1, text_found bytes a.0 a.1 (kernel_type_of kind) a.2)
type_read bytes (Err fault) a = tt

pub type_refused : (bytes : List ℕ) (r : Result KType TextFault) → AnswersType r (text_of_words (words bytes))
    → r ≡ Err BadText → (v : Version) (c : Expression) (k : KernelType) → IsTextOf bytes v c k → ⊥
type_refused bytes (Ok kind) a e v c k is = absurd (cc)
type_refused bytes (Err fault) a e v c k is = none-some (v, c, k) (sym (a (cc)) ∙ text_from bytes v c k is)
