-- What holds of every word of instructions with its meaning.
use Rattle.std.proofs.Common.{◌≡◌, ℕ, List, [], ◌∷◌, ◌++◌, map, refl, sym, subst, Bool, true, false, Some}
use Rattle.std.specs.Prelude.{codes, if◌then◌else◌}
use Rattle.std.specs.List.{AllByRecursion}
use Rattle.std.specs.Map.{lookup}
use Rattle.std.specs.Str.{bytes_eq}
use Rattle.std.specs.Int.{w32, w64}
use Rattle.std.proofs.lemmas.Option.{none-some, same_Some}
use Rattle.std.proofs.lemmas.Slice.Eq.{bytes_eq-Decides}
use Rattle.mw_wasm.specs.Syntax.{Instruction, const_i32, const_i64, numeric, load, store}
use Rattle.mw_wasm.specs.Profile.{depth_of}
use Rattle.mw_wat.specs.Names.{number_name, load_name, store_name}
use Rattle.mw_wat.specs.Lexemes.{word, number, addressed, instruction}
use Rattle.mw_wat.specs.Reading.{◌>>=◌, gives, one_of}
use Rattle.mw_wat.specs.Instructions.{as_constant, indexed, at_address, labels, indirect, Opener, a_block, a_loop, an_if}
use Rattle.mw_wat.specs.Instructions.{Meaning, ends, turns, opens, alone, alone_words, numbers, loads, stores}
use Rattle.mw_wat.specs.Instructions.{number_words, load_words, store_words, words, meaning}

-- lists with a fact on each element
pub both : {A : Type 0} (P : A → Type 0) (xs ys : List A) → AllByRecursion P xs → AllByRecursion P ys
    → AllByRecursion P (xs ++ ys)
both P [] ys a b = b
both P (x ∷ xs) ys a b = (a.0, both P xs ys a.1 b)

pub each : {A B : Type 0} (P : B → Type 0) (f : A → B) → ((x : A) → P (f x)) → (xs : List A)
    → AllByRecursion P (map f xs)
each P f g [] = tt
each P f g (x ∷ xs) = (g x, each P f g xs)

-- the first, and the others behind it
infixr 4 ◌andalso◌
abbrev ◌andalso◌ : {A B : Type 0} → A → B → A × B
a andalso b = (a, b)

-- the word that opens a block
abbrev pub opener_word : Opener → List ℕ
opener_word a_block = codes "block"
opener_word a_loop = codes "loop"
opener_word an_if = codes "if"

-- E holds of the words of each kind.
pub record HoldsOfKinds (E : List ℕ → Meaning → Type 0) : Type 0 where
  pub plain : (w : List ℕ) (i : Instruction) → instruction i ≡ word w ∷ [] → depth_of i ≡ 0 → E w (alone (gives i))
  pub with_index : (w : List ℕ) (i : ℕ → Instruction) → ((x : ℕ) → instruction (i x) ≡ word w ∷ number x ∷ [])
      → ((x : ℕ) → depth_of (i x) ≡ 0) → E w (alone (indexed i))
  pub with_address : (w : List ℕ) (i : ℕ → ℕ → Instruction) → ((a o : ℕ) → instruction (i a o) ≡ addressed w a o)
      → ((a o : ℕ) → depth_of (i a o) ≡ 0) → E w (alone (at_address i))
  pub constant_32 : E (codes "i32.const") (alone (one_of (as_constant w32) >>= λ n. gives (const_i32 n)))
  pub constant_64 : E (codes "i64.const") (alone (one_of (as_constant w64) >>= λ n. gives (const_i64 n)))
  pub table : E (codes "br_table") (alone labels)
  pub by_type : E (codes "call_indirect") (alone indirect)
  pub opening : (o : Opener) → E (opener_word o) (opens o)
  pub turning : E (codes "else") turns
  pub ending : E (codes "end") ends

module _ (E : List ℕ → Meaning → Type 0) (k : HoldsOfKinds E) where
  abbrev Entry : List ℕ × Meaning → Type 0
  Entry e = E e.0 e.1

  alone_words_hold : AllByRecursion Entry alone_words
  alone_words_hold =
      k.plain _ _ refl refl andalso k.plain _ _ refl refl andalso k.plain _ _ refl refl andalso
      k.plain _ _ refl refl andalso k.plain _ _ refl refl andalso k.plain _ _ refl refl andalso
      k.plain _ _ refl refl andalso k.with_index _ _ (λ x. refl) (λ x. refl) andalso
      k.with_index _ _ (λ x. refl) (λ x. refl) andalso k.with_index _ _ (λ x. refl) (λ x. refl) andalso
      k.with_index _ _ (λ x. refl) (λ x. refl) andalso k.with_index _ _ (λ x. refl) (λ x. refl) andalso
      k.with_index _ _ (λ x. refl) (λ x. refl) andalso k.with_index _ _ (λ x. refl) (λ x. refl) andalso
      k.with_index _ _ (λ x. refl) (λ x. refl) andalso k.constant_32 andalso k.constant_64 andalso k.table andalso
      k.by_type andalso k.opening a_block andalso k.opening a_loop andalso k.opening an_if andalso k.turning andalso
      k.ending andalso tt

  words_hold : AllByRecursion Entry words
  words_hold =
      let a = each Entry (λ o. (number_name o, alone (gives (numeric o))))
      (λ o. k.plain (number_name o) (numeric o) refl refl) numbers in
      let b = each Entry (λ o. (load_name o, alone (at_address (load o))))
      (λ o. k.with_address (load_name o) (load o) (λ x y. refl) (λ x y. refl)) loads in
      let c = each Entry (λ o. (store_name o, alone (at_address (store o))))
      (λ o. k.with_address (store_name o) (store o) (λ x y. refl) (λ x y. refl)) stores in
      both Entry (alone_words ++ number_words ++ load_words) store_words
      (both Entry (alone_words ++ number_words) load_words
      (both Entry alone_words number_words alone_words_hold a) b) c

  looked_up : (w : List ℕ) (es : List (List ℕ × Meaning)) → AllByRecursion Entry es → (m : Meaning)
      → lookup (bytes_eq w) es ≡ Some m → E w m
  looked_up w [] a m e = absurd (none-some m e)
  looked_up w (x ∷ es) a m e = by_test (looked_up w es a.1 m) (bytes_eq w x.0) refl e
    where
      by_test : (lookup (bytes_eq w) es ≡ Some m → E w m) → (b : Bool) → bytes_eq w x.0 ≡ b
          → (if b then Some x.1 else lookup (bytes_eq w) es) ≡ Some m → E w m
      by_test later true d e = subst (λ n. E w n) (same_Some x.1 m e)
          (subst (λ v. E v x.1) (sym ((bytes_eq-Decides w x.0).0 d)) a.0)
      by_test later false d e = later e

  -- E holds of what a word means
  pub meaning_holds : (w : List ℕ) (m : Meaning) → meaning w ≡ Some m → E w m
  unfolding meaning
  meaning_holds w m e = looked_up w words words_hold m e
