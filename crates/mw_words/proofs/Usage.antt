-- Words that mean no command.
use Rattle.std.proofs.Common.{Bool, Some, ◌≡◌, ℕ, List, [], ◌∷◌, codes, refl, sym, subst, Option}
use Rattle.mw_words.specs.Words.{IsSwitchOf, HasNoFile, AreWorkersOf, PurePart, IsFileWord, AreParts, run_of}
use Rattle.mw_words.specs.Words.{erased_of, link_of, migrate_of, parts_command, sample_command, wat_command}
use Rattle.mw_words.specs.Words.{check_command, cert_command, recheck_command, IsNumber, IsUsage, AreUnitsOf}
use Rattle.mw_words.specs.Words.{HaveOnly, IsFileOf, IsWordOf}
use Rattle.mw_words.proofs.ReadParts.{same_parts}

-- what the parts of each command that has parts give
pub record RunParts (parts : List PurePart) : Type 0 where
  pub options : HaveOnly (codes "--workers" ∷ codes "--fuel" ∷ codes "--simplify" ∷ codes "--cache" ∷ []) parts
  pub workers : (n : ℕ) × AreWorkersOf parts n
  pub fuel : (n : ℕ) × AreUnitsOf parts n
  pub simplify : (on : Bool) × IsSwitchOf (codes "--simplify") parts on
  pub cache : (path : Option (List ℕ)) × IsWordOf (codes "--cache") parts path
  pub file : (name : List ℕ) × IsFileOf parts name

pub record ErasedParts (parts : List PurePart) : Type 0 where
  pub options : HaveOnly (codes "--fuel" ∷ []) parts
  pub fuel : (n : ℕ) × AreUnitsOf parts n
  pub file : (name : List ℕ) × IsFileOf parts name

pub record LinkParts (parts : List PurePart) : Type 0 where
  pub options : HaveOnly (codes "--workers" ∷ codes "--fuel" ∷ []) parts
  pub workers : (n : ℕ) × AreWorkersOf parts n
  pub fuel : (n : ℕ) × AreUnitsOf parts n
  pub file : (name : List ℕ) × IsFileOf parts name

pub record MigrateParts (parts : List PurePart) : Type 0 where
  pub options : HaveOnly (codes "--cache" ∷ []) parts
  pub cache : (path : List ℕ) × IsWordOf (codes "--cache") parts (Some path)
  pub no_file : HasNoFile parts

-- words whose parts give no command
abbrev pub NoPartsGive : List (List ℕ) → (List PurePart → Type 0) → Type 0
NoPartsGive words P = (parts : List PurePart) → AreParts words parts → P parts → ⊥

pub no_run : {words : List (List ℕ)} → NoPartsGive words RunParts → IsUsage (codes "run" ∷ words)
no_run none c (parts_command h (run_of o w u b d f)) = none _ h (record {
  options = o;
  workers = (_, w);
  fuel = (_, u);
  simplify = (_, b);
  cache = (_, d);
  file = (_, f);
})

pub no_erased : {words : List (List ℕ)} → NoPartsGive words ErasedParts → IsUsage (codes "erased" ∷ words)
no_erased none c (parts_command h (erased_of o u f)) =
    none _ h (record { options = o; fuel = (_, u); file = (_, f) })

pub no_link : {words : List (List ℕ)} → NoPartsGive words LinkParts → IsUsage (codes "link" ∷ words)
no_link none c (parts_command h (link_of o w u f)) =
    none _ h (record { options = o; workers = (_, w); fuel = (_, u); file = (_, f) })

pub no_migrate : {words : List (List ℕ)} → NoPartsGive words MigrateParts → IsUsage (codes "migrate" ∷ words)
no_migrate none c (parts_command h (migrate_of o d n)) =
    none _ h (record { options = o; cache = (_, d); no_file = n })

-- where one list of the words' parts gives none, none does
pub none_of : {words : List (List ℕ)} {read : List PurePart} (P : List PurePart → Type 0) → AreParts words read
    → (P read → ⊥) → NoPartsGive words P
none_of P h none parts whole has = none (subst P (sym (same_parts h whole)) has)

-- words after a sample that aren't a number alone
pub no_sample : {words : List (List ℕ)} → ((word : List ℕ) (n : ℕ) → words ≡ word ∷ [] → IsNumber 100 word n → ⊥)
    → IsUsage (codes "sample" ∷ words)
no_sample none c (parts_command h m) = elim m [ ]
no_sample none c (sample_command n) = none _ _ refl n

-- words that aren't a file alone
abbrev pub IsNoFile : List (List ℕ) → Type 0
IsNoFile words = (word : List ℕ) → words ≡ word ∷ [] → IsFileWord word → ⊥

pub no_wat : {words : List (List ℕ)} → IsNoFile words → IsUsage (codes "wat" ∷ words)
no_wat none c (parts_command h m) = elim m [ ]
no_wat none c (wat_command f) = none _ refl f

pub no_check : {words : List (List ℕ)} → IsNoFile words → IsUsage (codes "check" ∷ words)
no_check none c (parts_command h m) = elim m [ ]
no_check none c (check_command f) = none _ refl f

pub no_cert : {words : List (List ℕ)} → IsNoFile words → IsUsage (codes "cert" ∷ words)
no_cert none c (parts_command h m) = elim m [ ]
no_cert none c (cert_command f) = none _ refl f

-- words that aren't two files
abbrev pub AreNoTwoFiles : List (List ℕ) → Type 0
AreNoTwoFiles words = (first second : List ℕ) → words ≡ first ∷ second ∷ [] → IsFileWord first → IsFileWord second → ⊥

pub no_recheck : {words : List (List ℕ)} → AreNoTwoFiles words → IsUsage (codes "recheck" ∷ words)
no_recheck none c (parts_command h m) = elim m [ ]
no_recheck none c (recheck_command f g) = none _ _ refl f g

-- a word of no command
pub unknown : {word : List ℕ} {words : List (List ℕ)} → (word ≡ codes "run" → ⊥) → (word ≡ codes "erased" → ⊥)
    → (word ≡ codes "link" → ⊥) → (word ≡ codes "sample" → ⊥) → (word ≡ codes "migrate" → ⊥)
    → (word ≡ codes "wat" → ⊥) → (word ≡ codes "check" → ⊥) → (word ≡ codes "cert" → ⊥)
    → (word ≡ codes "recheck" → ⊥) → IsUsage (word ∷ words)
unknown r e l s m w k d g c (parts_command h (run_of o v u b p f)) = r refl
unknown r e l s m w k d g c (parts_command h (erased_of o u f)) = e refl
unknown r e l s m w k d g c (parts_command h (link_of o v u f)) = l refl
unknown r e l s m w k d g c (parts_command h (migrate_of o p n)) = m refl
unknown r e l s m w k d g c (sample_command n) = s refl
unknown r e l s m w k d g c (wat_command f) = w refl
unknown r e l s m w k d g c (check_command f) = k refl
unknown r e l s m w k d g c (cert_command f) = d refl
unknown r e l s m w k d g c (recheck_command f f') = g refl
