-- What follows of bytes from what their words spell.
use Rattle.std.proofs.Common.{◌≡◌, ℕ, List, refl, sym, ◌∙◌, ap, Result, Ok, Err, IfOk, MatchResult}
use Rattle.std.specs.Prelude.{alloc_error}
use Rattle.std.proofs.lemmas.Option.{none-some, same_Some}
use Rattle.mw_term.specs.Terms.{Expression, KernelType, expression_of, kernel_type_of}
use Rattle.mw_term.specs.declared.term.KType.{KType}
use Rattle.mw_term.specs.declared.term.Term.{Term}
use Rattle.mw_key.specs.CanonicalText.{IsTextOf}
use Rattle.mw_key.specs.declared.fault.TextFault.{TextFault}
use Rattle.mw_key.specs.declared.fault.TextFault.TheVariants.{BadText, Memory}
use Rattle.mw_key.specs.declared.version.Version.{Version}
use Rattle.mw_key.specs.Reading.{words, text_of_words, Answers}
use Rattle.mw_key.proofs.FoundTexts.{text_found, text_from}

abbrev pub Parts : Type 0
Parts = Version × Term × KType

abbrev pub seen : Parts → Version × Expression × KernelType
seen t = (t.0, expression_of t.1, kernel_type_of t.2)

pub text_read : (bytes : List ℕ) (r : Result Parts TextFault) → Answers seen r (text_of_words (words bytes))
    → IfOk r (λ t. IsTextOf bytes t.0 (expression_of t.1) (kernel_type_of t.2))
text_read bytes (Ok t) a = text_found bytes t.0 (expression_of t.1) (kernel_type_of t.2) a
text_read bytes (Err fault) a = tt

pub text_refused : (bytes : List ℕ) (r : Result Parts TextFault) → Answers seen r (text_of_words (words bytes))
    → r ≡ Err BadText → (v : Version) (c : Expression) (k : KernelType) → IsTextOf bytes v c k → ⊥
text_refused bytes (Ok t) a e v c k t' = cc
text_refused bytes (Err fault) a e v c k t = none-some (v, c, k) (sym (a (cc)) ∙ text_from bytes v c k t)

pub text_answered : (bytes : List ℕ) (r : Result Parts TextFault) → Answers seen r (text_of_words (words bytes))
    → (v : Version) (c : Expression) (k : KernelType) → IsTextOf bytes v c k
    → MatchResult r (λ t. (t.0 ≡ v) × (expression_of t.1 ≡ c) × (kernel_type_of t.2 ≡ k))
    (λ fault. fault ≡ Memory alloc_error)
text_answered bytes (Ok t) a v c k is =
    let same = same_Some (seen t) (v, c, k) (sym a ∙ text_from bytes v c k is) in (
      ap (λ (t : Version × Expression × KernelType). t.0) same,
      ap (λ (t : Version × Expression × KernelType). t.1) same,
      ap (λ (t : Version × Expression × KernelType). t.2) same,
    )
text_answered bytes (Err BadText) a v c k is = absurd (none-some (v, c, k) (sym (a refl) ∙ text_from bytes v c k is))
text_answered bytes (Err (Memory e)) a v c k is = refl
