-- Words mean one command at most, and options and files may stand in any order.
use Rattle.std.proofs.Common.{◌≡◌, ℕ, ◌≤◌, Bool, not, List, [], ◌∷◌, ◌++◌, Option, Some, None, codes, length, refl, sym}
use Rattle.std.proofs.Common.{◌∙◌}
use Rattle.std.proofs.Common.{ap, subst, arith}
use Rattle.mw_words.specs.Words.{apart, joined, PurePart, is_named, is_taken, parts_named, HaveOnly, IsNumberOf}
use Rattle.mw_words.specs.Words.{not_named, named_once, IsSwitchOf, off, on, IsWordOf, without_word, with_word}
use Rattle.mw_words.specs.Words.{IsFileOf}
use Rattle.mw_words.specs.Words.{PureCommand, sample, Makes, run_of, erased_of, link_of, migrate_of}
use Rattle.mw_words.specs.Words.{parts_command, sample_command, wat_command, check_command, cert_command}
use Rattle.mw_words.specs.Words.{recheck_command}
use Rattle.mw_words.specs.WordLaws.{OneCommand, EitherForm, AnyOrder}
use Rattle.mw_words.proofs.OptionLemmas.{one_value}
use Rattle.mw_words.proofs.PartLemmas.{same_number}
use Rattle.mw_words.proofs.ReadParts.{same_parts}
use Rattle.mw_words.proofs.PartSelection.{swapped}

one_number : {name : List ℕ} {most default m n : ℕ} {parts : List PurePart} → IsNumberOf name most default parts m
    → IsNumberOf name most default parts n → m ≡ n
one_number (not_named e) (not_named f) = refl
one_number (not_named e) (named_once f k) = let no = sym e ∙ f in cc
one_number (named_once e h) (not_named f) = let no = sym f ∙ e in cc
one_number (named_once {word = v} e h) (named_once {word = w} f k) = let same = sym e ∙ f in let word : v ≡ w = cc in
    same_number word h k

one_switch : {name : List ℕ} {parts : List PurePart} {a b : Bool} → IsSwitchOf name parts a → IsSwitchOf name parts b
    → a ≡ b
one_switch (off e) (off f) = refl
one_switch (off e) (on f) = let no = sym e ∙ f in cc
one_switch (on e) (off f) = let no = sym f ∙ e in cc
one_switch (on e) (on f) = refl

pub one_word : {name : List ℕ} {parts : List PurePart} {a b : Option (List ℕ)} → IsWordOf name parts a
    → IsWordOf name parts b → a ≡ b
one_word (without_word e) (without_word f) = refl
one_word (without_word e) (with_word f k) = let no = sym e ∙ f in cc
one_word (with_word e h) (without_word f) = let no = sym f ∙ e in cc
one_word (with_word e h) (with_word f k) = let same = sym e ∙ f in cc

one_file : (parts : List PurePart) (a b : List ℕ) → IsFileOf parts a → IsFileOf parts b → a ≡ b
one_file parts a b e f = let same = sym e ∙ f in cc

same_made : {word : List ℕ} {parts : List PurePart} {a b : PureCommand} → Makes word parts a → Makes word parts b
    → a ≡ b
same_made {parts = parts} (run_of {name = a} o w u s d f) (run_of {name = b} o' w' u' s' d' f') =
    let workers_same = one_number w w' in
    let fuels_same = one_number u u' in
    let switches_same = one_switch s s' in
    let caches_same = one_word d d' in
    let files_same = one_file parts a b f f' in
    cc
same_made {parts = parts} (erased_of {name = a} o u f) (erased_of {name = b} o' u' f') = let fuels_same =
    one_number u u' in let files_same = one_file parts a b f f' in cc
same_made {parts = parts} (link_of {name = a} o w u f) (link_of {name = b} o' w' u' f') =
    let workers_same = one_number w w' in
    let fuels_same = one_number u u' in
    let files_same = one_file parts a b f f' in
    cc
same_made (migrate_of o d n) (migrate_of o' d' n') = let caches_same = one_word d d' in cc

pub one_command : OneCommand
one_command words a b (parts_command {word = word} h m) (parts_command h' m') =
    same_made m (subst (λ (ps : List PurePart). Makes word ps b) (sym (same_parts h h')) m')
one_command words a b (parts_command h m) (sample_command n) = elim m [ ]
one_command words a b (parts_command h m) (wat_command f) = elim m [ ]
one_command words a b (parts_command h m) (check_command f) = elim m [ ]
one_command words a b (parts_command h m) (cert_command f) = elim m [ ]
one_command words a b (parts_command h m) (recheck_command f g) = elim m [ ]
one_command words a b (sample_command n) (parts_command h m) = elim m [ ]
one_command words a b (sample_command n) (sample_command n') = ap sample (same_number refl n n')
one_command words a b (wat_command f) (parts_command h m) = elim m [ ]
one_command words a b (wat_command f) (wat_command f') = refl
one_command words a b (check_command f) (parts_command h m) = elim m [ ]
one_command words a b (check_command f) (check_command f') = refl
one_command words a b (cert_command f) (parts_command h m) = elim m [ ]
one_command words a b (cert_command f) (cert_command f') = refl
one_command words a b (recheck_command f g) (parts_command h m) = elim m [ ]
one_command words a b (recheck_command f g) (recheck_command f' g') = refl

pub either_form : EitherForm
either_form name value v rest r = (
  (λ h. let same = one_value h (apart refl) in rw (same.0, same.1) (joined refl)),
  (λ h. let same = one_value h (joined refl) in rw (same.0, same.1) (apart refl)),
)

-- a number, a switch and a word are of one part at most
pub few_number : {name : List ℕ} {most default n : ℕ} {parts : List PurePart} → IsNumberOf name most default parts n
    → length (parts_named (Some name) parts) ≤ 1
few_number (not_named e) = rw e (omega arith)
few_number (named_once e h) = rw e (omega arith)

pub few_switch : {name : List ℕ} {b : Bool} {parts : List PurePart} → IsSwitchOf name parts b
    → length (parts_named (Some name) parts) ≤ 1
few_switch (off e) = rw e (omega arith)
few_switch (on e) = rw e (omega arith)

pub few_word : {name : List ℕ} {word : Option (List ℕ)} {parts : List PurePart} → IsWordOf name parts word
    → length (parts_named (Some name) parts) ≤ 1
few_word (without_word e) = rw e (omega arith)
few_word (with_word e h) = rw e (omega arith)

module _ (before after : List PurePart) (p q : PurePart) where
  -- the parts of a name, where there is one at most
  same_named : (name : Option (List ℕ)) {parts : List PurePart} → parts_named name (before ++ p ∷ q ∷ after) ≡ parts
      → length parts ≤ 1 → parts_named name (before ++ q ∷ p ∷ after) ≡ parts
  same_named name e few = sym (swapped (is_named name) before after p q (rw e few)) ∙ e

  number_swapped : {name : List ℕ} {most default n : ℕ} → IsNumberOf name most default (before ++ p ∷ q ∷ after) n
      → IsNumberOf name most default (before ++ q ∷ p ∷ after) n
  number_swapped {name = name} (not_named e) = not_named (same_named (Some name) e (omega arith))
  number_swapped {name = name} (named_once e h) = named_once (same_named (Some name) e (omega arith)) h

  switch_swapped : {name : List ℕ} {b : Bool} → IsSwitchOf name (before ++ p ∷ q ∷ after) b
      → IsSwitchOf name (before ++ q ∷ p ∷ after) b
  switch_swapped {name = name} (off e) = off (same_named (Some name) e (omega arith))
  switch_swapped {name = name} (on e) = on (same_named (Some name) e (omega arith))

  word_swapped : {name : List ℕ} {word : Option (List ℕ)} → IsWordOf name (before ++ p ∷ q ∷ after) word
      → IsWordOf name (before ++ q ∷ p ∷ after) word
  word_swapped {name = name} (without_word e) = without_word (same_named (Some name) e (omega arith))
  word_swapped {name = name} (with_word e h) = with_word (same_named (Some name) e (omega arith)) h

  only_swapped : (names : List (List ℕ)) → HaveOnly names (before ++ p ∷ q ∷ after)
      → HaveOnly names (before ++ q ∷ p ∷ after)
  only_swapped names h = sym (swapped (λ part. not (is_taken names part)) before after p q (rw h (omega arith))) ∙ h

  in_other_order : {word : List ℕ} {c : PureCommand} → Makes word (before ++ p ∷ q ∷ after) c
      → Makes word (before ++ q ∷ p ∷ after) c
  in_other_order (run_of o w u s d f) = run_of
      (only_swapped (codes "--workers" ∷ codes "--fuel" ∷ codes "--simplify" ∷ codes "--cache" ∷ []) o)
      (number_swapped w) (number_swapped u) (switch_swapped s) (word_swapped d) (same_named None f (omega arith))
  in_other_order (erased_of o u f) = erased_of (only_swapped (codes "--fuel" ∷ []) o) (number_swapped u)
      (same_named None f (omega arith))
  in_other_order (link_of o w u f) = link_of (only_swapped (codes "--workers" ∷ codes "--fuel" ∷ []) o)
      (number_swapped w) (number_swapped u) (same_named None f (omega arith))
  in_other_order (migrate_of o d n) = migrate_of (only_swapped (codes "--cache" ∷ []) o) (word_swapped d)
      (same_named None n (omega arith))

pub any_order : AnyOrder
any_order word before after p q c = (in_other_order before after p q, in_other_order before after q p)
