-- Whether bytes certify a program is decided by following their lines.
use Rattle.std.proofs.Common.{◌≡◌, ◌⊎◌, inl, inr, ℕ, zero, suc, ◌<◌, ◌^◌, Bool, true, false, List, [], ◌∷◌, length}
use Rattle.std.proofs.Common.{refl}
use Rattle.std.proofs.Common.{Some, sym, ◌∙◌, true≢false}
use Rattle.std.specs.Prelude.{slice_get, ◌↔◌, IsTrue}
use Rattle.mw_term.specs.Terms.{size}
use Rattle.mw_term.specs.Programs.{Definition, value as defines, kernel, PureProgram}
use Rattle.mw_term.specs.Parts.{an_item, main, IsResolved}
use Rattle.mw_recheck.specs.Certificates.{defined_term, Certifies}
use Rattle.mw_recheck.specs.CertificateLaws.{CertifiesIsDecided}
use Rattle.mw_recheck.specs.Deciding.{certified}
use Rattle.mw_recheck.specs.Following.{AreSmall}
use Rattle.mw_recheck.proofs.JudgedPrograms.{program_found, program_there}

pub certifies_decided : CertifiesIsDecided
certifies_decided bytes p = of (certified bytes p) refl
  where
    of : (b : Bool) → certified bytes p ≡ b → Certifies bytes p ⊎ (Certifies bytes p → ⊥)
    of true h = inl (program_found bytes p h)
    of false h = inr (λ c. absurd (true≢false (sym (program_there bytes p c) ∙ h)))

-- what `holds` answers
pub yes : (bytes : List ℕ) (p : PureProgram) → certified bytes p ≡ true → IsTrue true ↔ Certifies bytes p
yes bytes p h = (λ _. program_found bytes p h, λ _. refl)

pub no : (bytes : List ℕ) (p : PureProgram) → certified bytes p ≡ false → IsTrue false ↔ Certifies bytes p
no bytes p h = (λ q. absurd (true≢false (sym q)), λ c. absurd (true≢false (sym (program_there bytes p c) ∙ h)))

-- terms of a resolved program have numbers of nodes of 32 bits
pub items_small : (p : PureProgram) → IsResolved p → AreSmall p.items
items_small p r = of p.items (λ i d h. small i d h)
  where
    small : (i : ℕ) (d : Definition) → slice_get p.items i ≡ Some d → size (defined_term d) < 2 ^ 32
    small i (defines e) h = r.small i _ (an_item h)
    small i (kernel k e) h = r.small i _ (an_item h)

    of : (items : List Definition) → ((i : ℕ) (d : Definition) → slice_get items i ≡ Some d
        → size (defined_term d) < 2 ^ 32) → AreSmall items
    of [] f = tt
    of (d ∷ items) f = (f zero d refl, of items (λ i d h. f (suc i) d h))

pub body_small : (p : PureProgram) → IsResolved p → size p.body < 2 ^ 32
body_small p r = r.small (length p.items) _ (main refl)
