-- Words looked up in the tables of names.
use Rattle.std.proofs.Common.{◌≡◌, ℕ, ◌&&◌, List, [], ◌∷◌, ◌++◌, map, take, drop, length, refl, ap, sym, ◌∙◌, Bool}
use Rattle.std.proofs.Common.{true, false, Option, Some, None, nat_eq}
use Rattle.std.specs.Prelude.{codes, if◌then◌else◌}
use Rattle.std.specs.Map.{lookup}
use Rattle.std.specs.Str.{bytes_eq}
use Rattle.std.proofs.lemmas.List.{append_assoc}
use Rattle.mw_wasm.specs.declared.numbers.IntOp.{IntOp}
use Rattle.mw_wasm.specs.declared.numbers.NumOp.{NumOp}
use Rattle.mw_wasm.specs.declared.numbers.NumOp.TheVariants as num
use Rattle.mw_wasm.specs.declared.numbers.LoadOp.{LoadOp}
use Rattle.mw_wasm.specs.declared.numbers.StoreOp.{StoreOp}
use Rattle.mw_wasm.specs.Syntax.{numeric, load, store}
use Rattle.mw_wat.specs.Names.{operation_name, number_name, load_name, store_name}
use Rattle.mw_wat.specs.Reading.{gives}
use Rattle.mw_wat.specs.Instructions.{Meaning, alone, at_address, operations, numbers, loads, stores, alone_words}
use Rattle.mw_wat.specs.Instructions.{number_words, load_words, store_words, words, meaning}
use Rattle.mw_wat.specs.Words.{operation_names, typed_names, number_names, conversions, load_names, store_names}

-- one table behind another
in_front : {X : Type 0} (test : List ℕ → Bool) (xs ys : List (List ℕ × X)) (v : X) → lookup test xs ≡ Some v
    → lookup test (xs ++ ys) ≡ Some v
in_front test [] ys v e = absurd (cc)
in_front test (x ∷ xs) ys v e = by_test (test x.0) (in_front test xs ys v) e
  where
    by_test : (b : Bool) → (lookup test xs ≡ Some v → lookup test (xs ++ ys) ≡ Some v)
        → (if b then Some x.1 else lookup test xs) ≡ Some v
        → (if b then Some x.1 else lookup test (xs ++ ys)) ≡ Some v
    by_test true more e = e
    by_test false more e = more e

not_in_front : {X : Type 0} (test : List ℕ → Bool) (xs ys : List (List ℕ × X)) → lookup test xs ≡ None
    → lookup test (xs ++ ys) ≡ lookup test ys
not_in_front test [] ys e = refl
not_in_front test (x ∷ xs) ys e = by_test (test x.0) (not_in_front test xs ys) e
  where
    by_test : (b : Bool) → (lookup test xs ≡ None → lookup test (xs ++ ys) ≡ lookup test ys)
        → (if b then Some x.1 else lookup test xs) ≡ None
        → (if b then Some x.1 else lookup test (xs ++ ys)) ≡ lookup test ys
    by_test true more e = absurd (cc)
    by_test false more e = more e

-- the same names with other values
lookup_some : {A X : Type 0} (test : List ℕ → Bool) (name : A → List ℕ) (g : A → X) (xs : List A) (a : A)
    → lookup test (map (λ o. (name o, o)) xs) ≡ Some a → lookup test (map (λ o. (name o, g o)) xs) ≡ Some (g a)
lookup_some test name g [] a e = absurd (cc)
lookup_some test name g (x ∷ xs) a e = by_test (test (name x)) (lookup_some test name g xs a) e
  where
    by_test : (b : Bool)
        → (lookup test (map (λ o. (name o, o)) xs) ≡ Some a → lookup test (map (λ o. (name o, g o)) xs) ≡ Some (g a))
        → (if b then Some x else lookup test (map (λ o. (name o, o)) xs)) ≡ Some a
        → (if b then Some (g x) else lookup test (map (λ o. (name o, g o)) xs)) ≡ Some (g a)
    by_test true more e = let same : x ≡ a = cc in ap (λ x. Some (g x)) same
    by_test false more e = more e

lookup_none : {A X : Type 0} (test : List ℕ → Bool) (name : A → List ℕ) (g : A → X) (xs : List A)
    → lookup test (map (λ o. (name o, o)) xs) ≡ None → lookup test (map (λ o. (name o, g o)) xs) ≡ None
lookup_none test name g [] e = refl
lookup_none test name g (x ∷ xs) e = by_test (test (name x)) (lookup_none test name g xs) e
  where
    by_test : (b : Bool)
        → (lookup test (map (λ o. (name o, o)) xs) ≡ None → lookup test (map (λ o. (name o, g o)) xs) ≡ None)
        → (if b then Some x else lookup test (map (λ o. (name o, o)) xs)) ≡ None
        → (if b then Some (g x) else lookup test (map (λ o. (name o, g o)) xs)) ≡ None
    by_test true more e = absurd (cc)
    by_test false more e = more e

-- names behind a front
split_test : (w front n : List ℕ) → bytes_eq w (front ++ n)
    ≡ (bytes_eq (take (length front) w) front && bytes_eq (drop (length front) w) n)
split_test w [] n = refl
split_test [] (b ∷ front) n = refl
split_test (c ∷ w) (b ∷ front) n = by_test (nat_eq c b) (split_test w front n)
  where
    by_test : (t : Bool)
        → bytes_eq w (front ++ n) ≡ (bytes_eq (take (length front) w) front && bytes_eq (drop (length front) w) n)
        → (t && bytes_eq w (front ++ n))
        ≡ ((t && bytes_eq (take (length front) w) front) && bytes_eq (drop (length front) w) n)
    by_test true e = e
    by_test false e = refl

same_behind : (w front : List ℕ) (xs : List IntOp) → bytes_eq (take (length front) w) front ≡ true
    → lookup (bytes_eq (drop (length front) w)) (map (λ o. (operation_name o, o)) xs)
    ≡ lookup (bytes_eq w) (map (λ o. (front ++ operation_name o, o)) xs)
same_behind w front [] e = refl
same_behind w front (x ∷ xs) e =
    ap (λ r. if bytes_eq (drop (length front) w) (operation_name x) then Some x else r) (same_behind w front xs e)
    ∙ ap
    (λ b. if b then Some x else lookup (bytes_eq w) (map (λ o. (front ++ operation_name o, o)) xs))
    (sym
    (split_test w front (operation_name x)
    ∙ ap (λ t. t && bytes_eq (drop (length front) w) (operation_name x)) e))

none_behind : (w front : List ℕ) (xs : List IntOp) → bytes_eq (take (length front) w) front ≡ false
    → None ≡ lookup (bytes_eq w) (map (λ o. (front ++ operation_name o, o)) xs)
none_behind w front [] e = refl
none_behind w front (x ∷ xs) e =
    none_behind w front xs e
    ∙ ap
    (λ b. if b then Some x else lookup (bytes_eq w) (map (λ o. (front ++ operation_name o, o)) xs))
    (sym
    (split_test w front (operation_name x)
    ∙ ap (λ t. t && bytes_eq (drop (length front) w) (operation_name x)) e))

pub typed_some : (w front name : List ℕ) (r : Option IntOp) → bytes_eq (take (length front) w) front ≡ true
    → name ≡ drop (length front) w → r ≡ lookup (bytes_eq name) operation_names
    → r ≡ lookup (bytes_eq w) (typed_names front)
typed_some w front name r e n h =
    h ∙ (ap (λ v. lookup (bytes_eq v) operation_names) n ∙ same_behind w front operations e)

pub typed_none : (w front : List ℕ) → bytes_eq (take (length front) w) front ≡ false
    → None ≡ lookup (bytes_eq w) (typed_names front)
typed_none w front e = none_behind w front operations e

pub ruleset typed_laws = (typed_some, typed_none)

-- numeric instructions
numbers32 : List (List ℕ × NumOp)
numbers32 = map (λ o. (codes "i32." ++ operation_name o, num.I32 o)) operations

numbers64 : List (List ℕ × NumOp)
numbers64 = map (λ o. (codes "i64." ++ operation_name o, num.I64 o)) operations

number_names_are : number_names ≡ numbers32 ++ (numbers64 ++ conversions)
unfolding numbers32 numbers64
number_names_are = refl

some32 : (w : List ℕ) (o : IntOp) → lookup (bytes_eq w) (typed_names (codes "i32.")) ≡ Some o
    → lookup (bytes_eq w) numbers32 ≡ Some (num.I32 o)
unfolding numbers32
some32 w o e = lookup_some (bytes_eq w) (λ o. codes "i32." ++ operation_name o) num.I32 operations o e

none32 : (w : List ℕ) → lookup (bytes_eq w) (typed_names (codes "i32.")) ≡ None → lookup (bytes_eq w) numbers32 ≡ None
unfolding numbers32
none32 w e = lookup_none (bytes_eq w) (λ o. codes "i32." ++ operation_name o) num.I32 operations e

some64 : (w : List ℕ) (o : IntOp) → lookup (bytes_eq w) (typed_names (codes "i64.")) ≡ Some o
    → lookup (bytes_eq w) numbers64 ≡ Some (num.I64 o)
unfolding numbers64
some64 w o e = lookup_some (bytes_eq w) (λ o. codes "i64." ++ operation_name o) num.I64 operations o e

none64 : (w : List ℕ) → lookup (bytes_eq w) (typed_names (codes "i64.")) ≡ None → lookup (bytes_eq w) numbers64 ≡ None
unfolding numbers64
none64 w e = lookup_none (bytes_eq w) (λ o. codes "i64." ++ operation_name o) num.I64 operations e

pub number_first : (w : List ℕ) (o : IntOp) → Some o ≡ lookup (bytes_eq w) (typed_names (codes "i32."))
    → Some (num.I32 o) ≡ lookup (bytes_eq w) number_names
number_first w o e =
    sym
    (ap (lookup (bytes_eq w)) number_names_are
    ∙ in_front (bytes_eq w) numbers32 (numbers64 ++ conversions) (num.I32 o) (some32 w o (sym e)))

pub number_second : (w : List ℕ) (o : IntOp) → None ≡ lookup (bytes_eq w) (typed_names (codes "i32."))
    → Some o ≡ lookup (bytes_eq w) (typed_names (codes "i64.")) → Some (num.I64 o) ≡ lookup (bytes_eq w) number_names
number_second w o d e =
    sym
    (ap (lookup (bytes_eq w)) number_names_are
    ∙ (not_in_front (bytes_eq w) numbers32 (numbers64 ++ conversions) (none32 w (sym d))
    ∙ in_front (bytes_eq w) numbers64 conversions (num.I64 o) (some64 w o (sym e))))

pub number_third : (w : List ℕ) (r : Option NumOp) → None ≡ lookup (bytes_eq w) (typed_names (codes "i32."))
    → None ≡ lookup (bytes_eq w) (typed_names (codes "i64.")) → r ≡ lookup (bytes_eq w) conversions
    → r ≡ lookup (bytes_eq w) number_names
number_third w r d e h =
    h
    ∙ sym
    (ap (lookup (bytes_eq w)) number_names_are
    ∙ (not_in_front (bytes_eq w) numbers32 (numbers64 ++ conversions) (none32 w (sym d))
    ∙ not_in_front (bytes_eq w) numbers64 conversions (none64 w (sym e))))

pub ruleset number_laws = (number_first, number_second, number_third)

-- loads and stores
pub load_first : (w : List ℕ) (o : LoadOp) → Some o ≡ lookup (bytes_eq w) load_names
    → Some (alone (at_address (load o))) ≡ lookup (bytes_eq w) (load_words ++ store_words)
load_first w o e =
    sym
    (in_front (bytes_eq w) load_words store_words (alone (at_address (load o)))
    (lookup_some (bytes_eq w) load_name (λ o. alone (at_address (load o))) loads o (sym e)))

no_load : (w : List ℕ) → None ≡ lookup (bytes_eq w) load_names
    → lookup (bytes_eq w) (load_words ++ store_words) ≡ lookup (bytes_eq w) store_words
no_load w d =
    not_in_front (bytes_eq w) load_words store_words
    (lookup_none (bytes_eq w) load_name (λ o. alone (at_address (load o))) loads (sym d))

pub store_second : (w : List ℕ) (o : StoreOp) → None ≡ lookup (bytes_eq w) load_names
    → Some o ≡ lookup (bytes_eq w) store_names
    → Some (alone (at_address (store o))) ≡ lookup (bytes_eq w) (load_words ++ store_words)
store_second w o d e =
    sym
    (no_load w d ∙ lookup_some (bytes_eq w) store_name (λ o. alone (at_address (store o))) stores o (sym e))

pub no_memory : (w : List ℕ) → None ≡ lookup (bytes_eq w) load_names → None ≡ lookup (bytes_eq w) store_names
    → None ≡ lookup (bytes_eq w) (load_words ++ store_words)
no_memory w d e =
    sym (no_load w d ∙ lookup_none (bytes_eq w) store_name (λ o. alone (at_address (store o))) stores (sym e))

pub ruleset memory_laws = (load_first, store_second, no_memory)

-- all words
words_are : words ≡ alone_words ++ (number_words ++ (load_words ++ store_words))
words_are = append_assoc (alone_words ++ number_words) load_words store_words
    ∙ append_assoc alone_words number_words (load_words ++ store_words)

pub control_word : (w : List ℕ) (m : Meaning) → Some m ≡ lookup (bytes_eq w) alone_words → Some m ≡ meaning w
unfolding meaning
control_word w m e =
    sym
    (ap (lookup (bytes_eq w)) words_are
    ∙ in_front (bytes_eq w) alone_words (number_words ++ (load_words ++ store_words)) m (sym e))

no_control : (w : List ℕ) → None ≡ lookup (bytes_eq w) alone_words
    → meaning w ≡ lookup (bytes_eq w) (number_words ++ (load_words ++ store_words))
unfolding meaning
no_control w e =
    ap (lookup (bytes_eq w)) words_are
    ∙ not_in_front (bytes_eq w) alone_words (number_words ++ (load_words ++ store_words)) (sym e)

pub number_word : (w : List ℕ) (o : NumOp) → None ≡ lookup (bytes_eq w) alone_words
    → Some o ≡ lookup (bytes_eq w) number_names → Some (alone (gives (numeric o))) ≡ meaning w
number_word w o d e =
    sym
    (no_control w d
    ∙ in_front (bytes_eq w) number_words (load_words ++ store_words) (alone (gives (numeric o)))
    (lookup_some (bytes_eq w) number_name (λ o. alone (gives (numeric o))) numbers o (sym e)))

pub memory_word : (w : List ℕ) (r : Option Meaning) → None ≡ lookup (bytes_eq w) alone_words
    → None ≡ lookup (bytes_eq w) number_names → r ≡ lookup (bytes_eq w) (load_words ++ store_words) → r ≡ meaning w
memory_word w r d e h =
    h
    ∙ sym
    (no_control w d
    ∙ not_in_front (bytes_eq w) number_words (load_words ++ store_words)
    (lookup_none (bytes_eq w) number_name (λ o. alone (gives (numeric o))) numbers (sym e)))

pub ruleset word_laws = (control_word, number_word, memory_word)
