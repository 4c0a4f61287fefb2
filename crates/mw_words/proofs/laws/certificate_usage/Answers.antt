use Rattle.std.proofs.Common.{List, [], codes, refl, subst, ℕ, ◌∷◌, ◌≡◌}
use Rattle.mw_words.specs.Words.{IsFileWord}
use Rattle.mw_words.proofs.Usage.{AreNoTwoFiles, no_cert, no_recheck}
use Rattle.mw_words.proofs.PartLemmas.{no_file}
use Rattle.mw_words.proofs.ExampleLemmas.{other_alone}
use Rattle.mw_words.proofs.laws.certificate_usage.Goals as goal

-- of two words one names no file
first_other : (a b : List ℕ) → (IsFileWord a → ⊥) → AreNoTwoFiles (a ∷ b ∷ [])
first_other a b other first second e h k = let same : first ≡ a = cc in other (subst IsFileWord same h)

second_other : (a b : List ℕ) → (IsFileWord b → ⊥) → AreNoTwoFiles (a ∷ b ∷ [])
second_other a b other first second e h k = let same : second ≡ b = cc in other (subst IsFileWord same k)

pub returns : goal.returns
returns c = record {
  cert_no_file = no_cert (λ word e h. cc);
  cert_two_files = no_cert (λ word e h. cc);
  cert_option = no_cert (λ word e h. cc);
  cert_empty = no_cert (other_alone [] (λ h. h));
  cert_dashed = no_cert (other_alone (codes "-a") (no_file _ (codes "a") refl));
  recheck_no_file = no_recheck (λ first second e h k. cc);
  recheck_one_file = no_recheck (λ first second e h k. cc);
  recheck_three_files = no_recheck (λ first second e h k. cc);
  recheck_option = no_recheck (λ first second e h k. cc);
  recheck_empty_cert = no_recheck (first_other [] (codes "b") (λ h. h));
  recheck_dashed_cert = no_recheck (first_other (codes "-a") (codes "b") (no_file _ (codes "a") refl));
  recheck_empty_file = no_recheck (second_other (codes "a") [] (λ h. h));
  recheck_dashed_file = no_recheck (second_other (codes "a") (codes "-b") (no_file _ (codes "b") refl));
}
