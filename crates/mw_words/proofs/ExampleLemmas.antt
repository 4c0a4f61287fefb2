-- Parts and numbers of the worked examples of words.
use Rattle.std.proofs.Common.{None, ◌≡◌, ◌∙◌, ℕ, List, [], ◌∷◌, ◌++◌, Option, Some, true, codes, refl, sym, subst}
use Rattle.std.proofs.Common.{arith, rules}
use Rattle.mw_words.specs.Words.{alone, IsFileWord, IsNumber, IsNumberOf, IsWordOf, PurePart, option, file, AreParts}
use Rattle.mw_words.specs.Words.{takes_value, apart, joined, valued, filed, no_part, one_more, not_named, named_once}
use Rattle.mw_words.specs.Words.{with_word, without_word, parts_named}
use Rattle.mw_words.proofs.Usage.{IsNoFile}

pub f_named : IsFileWord (codes "f")
f_named = omega arith

pub eight : IsNumber 10000000 (codes "8") 8
eight = record { digits = search rules; few = omega arith; value = refl; low = omega arith; high = omega arith }

pub most_fuel : IsNumber 10000000 (codes "10000000") 10000000
most_fuel = record { digits = search rules; few = omega arith; value = refl; low = omega arith; high = omega arith }

pub most_workers : IsNumber 64 (codes "000000064") 64
most_workers = record { digits = search rules; few = omega arith; value = refl; low = omega arith; high = omega arith }

-- the parts of the words, one by one
module _ {rest : List (List ℕ)} {parts : List PurePart} where
  pub then_file : {name : List ℕ} → IsFileWord name → AreParts rest parts → AreParts (name ∷ rest) (file name ∷ parts)
  then_file h more = one_more (filed h) more

  -- an option with a value, in either form
  pub apart_first : (name value : List ℕ) → takes_value name ≡ Some true → AreParts rest parts
      → AreParts (name ∷ value ∷ rest) (option name (Some value) ∷ parts)
  apart_first name value takes more = one_more (valued takes (apart refl)) more

  pub joined_first : (name value : List ℕ) → takes_value name ≡ Some true → AreParts rest parts
      → AreParts ((name ++ codes "=" ++ value) ∷ rest) (option name (Some value) ∷ parts)
  joined_first name value takes more = one_more (valued takes (joined refl)) more

  pub simplify_first_of : AreParts rest parts
      → AreParts (codes "--simplify" ∷ rest) (option (codes "--simplify") None ∷ parts)
  simplify_first_of more = one_more (alone refl) more

pub f_alone : AreParts (codes "f" ∷ []) (file (codes "f") ∷ [])
f_alone = then_file f_named no_part

pub two_files : AreParts (codes "f" ∷ codes "g" ∷ []) (file (codes "f") ∷ file (codes "g") ∷ [])
two_files = then_file f_named (then_file (omega arith) no_part)

pub fuel_file_fuel : AreParts (codes "--fuel=7" ∷ codes "f" ∷ codes "--fuel" ∷ codes "7" ∷ [])
    (option (codes "--fuel") (Some (codes "7")) ∷ file (codes "f") ∷ option (codes "--fuel") (Some (codes "7")) ∷ [])
fuel_file_fuel = joined_first (codes "--fuel") (codes "7") refl
    (then_file f_named (apart_first (codes "--fuel") (codes "7") refl no_part))

-- the word of an option that is named once is its number, or names a file
pub number_named : {name word : List ℕ} {most default n : ℕ} {parts : List PurePart}
    → IsNumberOf name most default parts n → parts_named (Some name) parts ≡ option name (Some word) ∷ []
    → IsNumber most word n
number_named (not_named f) e = let no = sym f ∙ e in cc
number_named {word = word} {most = most} {n = n} (named_once {word = own} f h) e =
    let both = sym f ∙ e in
    let same : own ≡ word = cc in
    subst (λ w. IsNumber most w n) same h

pub path_named : {name word : List ℕ} {path : Option (List ℕ)} {parts : List PurePart} → IsWordOf name parts path
    → parts_named (Some name) parts ≡ option name (Some word) ∷ [] → IsFileWord word
path_named (without_word f) e = let no = sym f ∙ e in cc
path_named {word = word} (with_word {word = own} f h) e =
    let both = sym f ∙ e in
    let same : own ≡ word = cc in
    subst IsFileWord same h

-- a word that names no file is no file alone
pub other_alone : (own : List ℕ) → (IsFileWord own → ⊥) → IsNoFile (own ∷ [])
other_alone own other word e h = let same : word ≡ own = cc in other (subst IsFileWord same h)
