-- What the words of a text spell: just the version, code and type whose text it is.
use Rattle.std.proofs.Common.{◌≡◌, ℕ, ◌+◌, ◌-◌, ◌≤◌, nat_le, List, [], ◌∷◌, ◌++◌, sym, ◌∙◌, ap, subst, arith, Some}
use Rattle.std.proofs.Common.{None}
use Rattle.std.proofs.lemmas.Bool.{and_parts, and_from, le-leb, leb-true}
use Rattle.std.proofs.lemmas.List.{append-nil}
use Rattle.std.proofs.lemmas.Option.{none-some, same_Some}
use Rattle.mw_term.specs.Terms.{Expression, KernelType, size, depth_of}
use Rattle.mw_term.specs.Limits.{kernel_nodes}
use Rattle.mw_key.specs.CanonicalText.{version_word, IsKernel, IsTextOf}
use Rattle.mw_key.specs.declared.version.Version.{Version}
use Rattle.mw_key.specs.Forms.{version_of}
use Rattle.mw_key.specs.TextLaws.{OneText}
use Rattle.mw_key.specs.Reading.{Finding, then_find, make, last, words, find_version, find_kernel_type, find_code}
use Rattle.mw_key.specs.Reading.{text_of_words}
use Rattle.mw_key.proofs.NodeWords.{after_found, made_found, then_at, make_at, word_spelled, word_from}
use Rattle.mw_key.proofs.FormWords.{version_found, version_from}
use Rattle.mw_key.proofs.WordLists.{kernel_list, code_list, words_of_text, text_from_words}
use Rattle.mw_key.proofs.FoundGrounds.{stands_at, kernel_stands, kernel_from}
use Rattle.mw_key.proofs.FoundCode.{code_at, code_stands, code_from}

-- the parts of a text
record AreParts (ws : List (List ℕ)) (v : Version) (c : Expression) (k : KernelType) (rest : List (List ℕ)) : Type 0
  where
    listed : ws ≡ version_word v ∷ (kernel_list k ++ (code_list c ++ rest))
    kernel : IsKernel c k

abbrev PartsStand : List (List ℕ) → Finding (Version × Expression × KernelType) → Type 0
PartsStand ws None = Unit {0}
PartsStand ws (Some found) = AreParts ws found.0.0 found.0.1 found.0.2 found.1

parts_stand : (ws : List (List ℕ))
    → PartsStand ws (then_find (find_version ws 10000) λ v ws n. then_find (find_kernel_type 10000 ws n) λ k ws n.
    make (λ c. (v, c, k)) (find_code 400 0 ws 20000))
parts_stand ws =
    let P : Finding (Version × Expression × KernelType) → Type 0 = λ x. PartsStand ws x in
    after_found P (find_version ws 10000) _ tt λ v vs n e. after_found P (find_kernel_type 10000 vs n) _ tt λ k us m f.
    made_found P (λ c. (v, c, k)) (find_code 400 0 us 20000) tt λ c rest l g.
    let word = word_spelled version_of ws 10000 v vs n e in
    let kind = stands_at kernel_list kernel_nodes vs n (find_kernel_type 10000 vs n) k us m (kernel_stands 10000 vs n)
    f in
    let code = code_at 400 0 us 20000 (find_code 400 0 us 20000) c rest l (code_stands 400 0 us 20000) g in
    let before = word.1 in
    let types = kind.nodes in
    let nodes = code.nodes in
    record {
      listed = word.0.words ∙ ap (λ w. w ∷ vs) (version_found word.0.word v word.0.spells)
          ∙ ap (λ x. version_word v ∷ x) (kind.words ∙ ap (λ x. kernel_list k ++ x) code.words);
      kernel = record {
        code = code.code;
        closed = code.closed;
        literals = code.literals;
        limits = and_from (nat_le (size c) 20000) (nat_le (depth_of c) 400) (le-leb (size c) 20000 (omega arith))
            (le-leb (depth_of c) 400 code.depth);
        nodes = omega arith;
      };
    }

last_parts : (ws : List (List ℕ)) (x : Finding (Version × Expression × KernelType)) (v : Version) (c : Expression)
    (k : KernelType) → PartsStand ws x → last x ≡ Some (v, c, k) → AreParts ws v c k []
last_parts ws None v c k s e = absurd (none-some (v, c, k) e)
last_parts ws (Some (found, [], n)) v c k s e =
    subst (λ (t : Version × Expression × KernelType). AreParts ws t.0 t.1 t.2 []) (same_Some found (v, c, k) e) s
last_parts ws (Some (found, w ∷ rest, n)) v c k s e = absurd (none-some (v, c, k) e)

-- what words spell
pub text_found : (bytes : List ℕ) (v : Version) (c : Expression) (k : KernelType) → text_of_words (words bytes)
    ≡ Some (v, c, k) → IsTextOf bytes v c k
unfolding text_of_words
text_found bytes v c k e =
    let parts = last_parts (words bytes) _ v c k (parts_stand (words bytes)) e in
    record {
      kernel = parts.kernel;
      text =
          text_from_words bytes v c k
          (parts.listed ∙ ap (λ x. version_word v ∷ (kernel_list k ++ x)) (append-nil (code_list c)));
    }

-- what has a text is spelled by its words
pub text_from : (bytes : List ℕ) (v : Version) (c : Expression) (k : KernelType) → IsTextOf bytes v c k
    → text_of_words (words bytes) ≡ Some (v, c, k)
unfolding text_of_words
text_from bytes v c k t =
    let limits = and_parts (nat_le (size c) 20000) (nat_le (depth_of c) 400) t.kernel.limits in
    let large : size c ≤ 20000 = leb-true (size c) 20000 limits.0 in
    let deep : depth_of c ≤ 400 = leb-true (depth_of c) 400 limits.1 in
    let most = t.kernel.nodes in
    let types : kernel_nodes k + (10000 - kernel_nodes k) ≡ 10000 = omega arith in
    let nodes : size c + (20000 - size c) ≡ 20000 = omega arith in
    let code : find_code 400 0 (code_list c) 20000 ≡ Some (c, [], 20000 - size c) =
    subst (λ n. find_code 400 0 (code_list c) n ≡ Some (c, [], 20000 - size c)) nodes
    (subst (λ ws. find_code 400 0 ws (size c + (20000 - size c)) ≡ Some (c, [], 20000 - size c))
    (append-nil (code_list c))
    (code_from c 400 0 [] (20000 - size c) t.kernel.code t.kernel.closed t.kernel.literals deep (omega arith))) in
    let kind : find_kernel_type 10000 (kernel_list k ++ code_list c) 10000
    ≡ Some (k, code_list c, 10000 - kernel_nodes k) =
    subst (λ n. find_kernel_type 10000 (kernel_list k ++ code_list c) n ≡ Some (k, code_list c, 10000 - kernel_nodes k))
    types
    (kernel_from k 10000 (code_list c) (10000 - kernel_nodes k) most) in
    let version = word_from version_of (version_word v) v (kernel_list k ++ code_list c) 10000 (version_from v) in
    ap text_of_words (ap words t.text ∙ words_of_text v c k)
    ∙ ap last (then_at (λ v ws n. then_find (find_kernel_type 10000 ws n) λ k ws n.
    make (λ c. (v, c, k)) (find_code 400 0 ws 20000)) version
    ∙ then_at (λ k ws n. make (λ c. (v, c, k)) (find_code 400 0 ws 20000)) kind
    ∙ make_at (λ c. (v, c, k)) code)

pub one_text : OneText
one_text bytes v w c d k l p q =
    let same = same_Some (v, c, k) (w, d, l) (sym (text_from bytes v c k p) ∙ text_from bytes w d l q) in (
      ap (λ (t : Version × Expression × KernelType). t.0) same,
      ap (λ (t : Version × Expression × KernelType). t.1) same,
      ap (λ (t : Version × Expression × KernelType). t.2) same,
    )
