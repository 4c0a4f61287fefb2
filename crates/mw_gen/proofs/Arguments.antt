-- A call's argument, built from its leaves.
use Rattle.std.proofs.Common.{◌≡◌, ℕ, zero, suc, ◌+◌, ◌≤◌, Bool, true, false, List, [], ◌∷◌, ◌++◌, length, Some, refl}
use Rattle.std.proofs.Common.{ap, ◌∙◌, sym, subst, arith, length-append, map}
use Rattle.std.specs.Prelude.{ℤ, pos, slice_get, nat_le}
use Rattle.std.proofs.lemmas.Bool.{leb-true, le-leb, leb-false, lt-leb}
use Rattle.mw_term.specs.declared.term.Base.TheVariants.{Int, Bool as Truth}
use Rattle.mw_term.specs.Terms as x
use Rattle.mw_term.specs.Terms.{KernelTerm, KernelValue, Value, GroundType, base, product}
use Rattle.mw_meaning.specs.KernelMeaning as k
use Rattle.mw_meaning.specs.KernelMeaning.{kernel_evaluation}
use Rattle.mw_meaning.specs.StagedMeaning.{kernel_argument, argument_words}
use Rattle.mw_meaning.specs.StandingFor.{leaves}
use Rattle.mw_meaning.specs.GroundValues.{IsArgument}
use Rattle.mw_meaning.proofs.KernelFixedPoint.{kernel_evaluation-is}
use Rattle.mw_ir.specs.Ir.{IrFunc, Frame, word_of_truth}
use Rattle.mw_conv.specs.Represents.{s_int, s_bool}
use Rattle.mw_conv.proofs.Heaps.{grows_same, stands_grows, get_appended}
use Rattle.mw_conv.specs.Agreement.{Agrees}
use Rattle.mw_conv.proofs.Agrees.{given, then_agrees, paired}
use Rattle.mw_conv.proofs.Correct.{Value as Valued}
use Rattle.mw_meaning.specs.Shapes.{leaf_count}
use Rattle.mw_gen.specs.Generate.{argument_of}
use Rattle.mw_gen.proofs.Words.{Small}
use Rattle.mw_gen.proofs.Locals.{word}
use Rattle.mw_gen.proofs.Primitives.{truth_small}
use Rattle.mw_conv.proofs.Heaps.{get_append}

-- an argument's leaves as words, and its value
abbrev pub leaf_words : Value → List ℤ
leaf_words (x.int z) = z ∷ []
leaf_words (x.bool b) = word_of_truth b ∷ []
leaf_words (x.both v w) = leaf_words v ++ leaf_words w
leaf_words _ = []

abbrev pub made : Value → KernelValue
made (x.int z) = x.int z
made (x.bool b) = x.bool b
made (x.both v w) = x.both (made v) (made w)
made _ = x.int (pos 0)

-- an argument as a kernel's term
abbrev pub term_of : Value → KernelTerm
term_of (x.both u v) = x.pair (term_of u) (term_of v)
term_of w = x.done (made w)

pub argument_made : (s : GroundType) (w : Value) → IsArgument s w → kernel_argument w ≡ Some (made w)
argument_made (base Int) (x.int z) h = refl
argument_made (base Truth) (x.bool b) h = refl
argument_made (product s t) (x.both u v) h = rw (argument_made s u h.0, argument_made t v h.1) refl
argument_made s w h = absurd h

map_append : {A B : Type 0} (f : A → B) (us vs : List A) → map f (us ++ vs) ≡ map f us ++ map f vs
map_append f [] vs = refl
map_append f (u ∷ us) vs = ap (λ z. f u ∷ z) (map_append f us vs)

truth_leaf : (b : Bool) → leaves (x.bool b) ≡ word (word_of_truth b) ∷ []
truth_leaf true = refl
truth_leaf false = refl

pub leaves_are : (s : GroundType) (w : Value) → IsArgument s w → leaves w ≡ map word (leaf_words w)
leaves_are (base Int) (x.int z) h = refl
leaves_are (base Truth) (x.bool b) h = truth_leaf b
leaves_are (product s t) (x.both u v) h = rw (leaves_are s u h.0, leaves_are t v h.1)
    (sym (map_append word (leaf_words u) (leaf_words v)))
leaves_are s w h = absurd h

pub leaves_length : (s : GroundType) (w : Value) → IsArgument s w → length (leaf_words w) ≡ leaf_count s
leaves_length (base Int) (x.int z) h = refl
leaves_length (base Truth) (x.bool z) h = refl
leaves_length (product s t) (x.both u v) h = length-append (leaf_words u) (leaf_words v)
    ∙ rw (leaves_length s u h.0, leaves_length t v h.1) refl
leaves_length s w h = absurd h

append_cases : (P : ℤ → Type 0) (us vs : List ℤ) → ((j : ℕ) (w : ℤ) → slice_get us j ≡ Some w → P w)
    → ((j : ℕ) (w : ℤ) → slice_get vs j ≡ Some w → P w) → (j : ℕ) (w : ℤ) → slice_get (us ++ vs) j ≡ Some w → P w
append_cases P [] vs f g j w e = g j w e
append_cases P (x ∷ us) vs f g zero w e = f zero w e
append_cases P (x ∷ us) vs f g (suc j) w e = append_cases P us vs (λ j w e. f (suc j) w e) g j w e

one_case : (P : ℤ → Type 0) (x : ℤ) → P x → (j : ℕ) (w : ℤ) → slice_get (x ∷ []) j ≡ Some w → P w
one_case P x p zero w e = let q : x ≡ w = (cc) in subst P q p
one_case P x p (suc j) w e = absurd (cc)

pub leaves_small : (s : GroundType) (w : Value) → IsArgument s w → (j : ℕ) (z : ℤ) → slice_get (leaf_words w) j ≡ Some z
    → Small z
leaves_small (base Int) (x.int z) h = one_case (λ z. Small z) z h
leaves_small (base Truth) (x.bool z) h = one_case (λ z. Small z) _ (truth_small z)
leaves_small (product s t) (x.both u v) h = append_cases (λ z. Small z) (leaf_words u) (leaf_words v)
    (leaves_small s u h.0) (leaves_small t v h.1)
leaves_small s w h = absurd h

-- its words are taken at once or pair by pair
split : (n h a b : ℕ) (u v : KernelValue) → k.taking (a + b + 2) h (λ h. k.gives (x.both u v) n h)
    ≡ k.and_then (k.taking a h (λ h. k.gives u n h)) (λ u n h. k.and_then (k.taking b h (λ h. k.gives v n h)) λ v n h.
    k.taking 2 h (λ h. k.gives (x.both u v) n h))
split n h a b u v = first (nat_le (h + a) 524288) refl
  where
    third : (e : Bool) → nat_le (h + a + b) 524288 ≡ true → nat_le (h + a + b + 2) 524288 ≡ e
        → k.taking (a + b + 2) h (λ h. k.gives (x.both u v) n h) ≡ k.with_room e (h + a + b + 2)
        (λ h. k.gives (x.both u v) n h)
    third e p q = let s : h + (a + b + 2) ≡ h + a + b + 2 = omega arith in rw (s, q) refl

    second : (e : Bool) → nat_le (h + a + b) 524288 ≡ e → k.taking (a + b + 2) h (λ h. k.gives (x.both u v) n h)
        ≡ k.and_then (k.with_room e (h + a + b) (λ h. k.gives v n h))
        (λ v n h. k.taking 2 h (λ h. k.gives (x.both u v) n h))
    second true p = third (nat_le (h + a + b + 2) 524288) p refl
    second false p = let lt = leb-false _ _ p in let no : nat_le (h + (a + b + 2)) 524288 ≡ false =
        lt-leb _ _ (omega arith) in rw no refl

    first : (e : Bool) → nat_le (h + a) 524288 ≡ e → k.taking (a + b + 2) h (λ h. k.gives (x.both u v) n h)
        ≡ k.and_then (k.with_room e (h + a) (λ h. k.gives u n h))
        (λ u n h. k.and_then (k.taking b h (λ h. k.gives v n h)) λ v n h. k.taking 2 h (λ h. k.gives (x.both u v) n h))
    first true p = second (nat_le (h + a + b) 524288) refl
    first false p = let lt = leb-false _ _ p in let no : nat_le (h + (a + b + 2)) 524288 ≡ false =
        lt-leb _ _ (omega arith) in rw no refl

none_taken : (n h : ℕ) (w : KernelValue) → h ≤ 524288 → kernel_evaluation n h (x.done w)
    ≡ k.taking 0 h (λ h. k.gives w n h)
none_taken n h w le =
    let z : h + 0 ≡ h = omega arith in
    let yes : nat_le h 524288 ≡ true = le-leb _ _ le in
    kernel_evaluation-is n h (x.done w) ∙ rw (z, yes) refl

pub term_taken : (s : GroundType) (n h : ℕ) (w : Value) → IsArgument s w → h ≤ 524288
    → kernel_evaluation n h (term_of w) ≡ k.taking (argument_words w) h (λ h. k.gives (made w) n h)
term_taken (base Int) n h (x.int z) a le = none_taken n h (x.int z) le
term_taken (base Truth) n h (x.bool z) a le = none_taken n h (x.bool z) le
term_taken (product s t) n h (x.both u v) a le =
    rw (
      split n h (argument_words u) (argument_words v) (made u) (made v),
      kernel_evaluation-is n h (x.pair (term_of u) (term_of v)),
      term_taken s n h u a.0 le,
    )
    (go (nat_le (h + argument_words u) 524288) refl (λ q. term_taken t n (h + argument_words u) v a.1 q))
  where
    go : (e : Bool) → nat_le (h + argument_words u) 524288 ≡ e
        → (h + argument_words u ≤ 524288 → kernel_evaluation n (h + argument_words u) (term_of v)
        ≡ k.taking (argument_words v) (h + argument_words u) (λ h. k.gives (made v) n h))
        → k.and_then (k.with_room e (h + argument_words u) (λ h. k.gives (made u) n h))
        (λ u n h. k.and_then (kernel_evaluation n h (term_of v)) λ v n h. k.taking 2 h (λ h. k.gives (x.both u v) n h))
        ≡ k.and_then (k.with_room e (h + argument_words u) (λ h. k.gives (made u) n h))
        (λ u n h. k.and_then (k.taking (argument_words v) h (λ h. k.gives (made v) n h)) λ v n h.
        k.taking 2 h (λ h. k.gives (x.both u v) n h))
    go false p f = refl
    go true p f = rw (f (leb-true _ _ p)) refl
term_taken s n h w a le = absurd a

module _ (t : List IrFunc) where
  -- the code of an argument makes it
  pub argument_right : (c : ℕ) (s : GroundType) (w : Value) (n j : ℕ) (h : List ℤ) (fr : Frame) → IsArgument s w
      → ((i : ℕ) (z : ℤ) → slice_get (leaf_words w) i ≡ Some z → slice_get fr.slots (j + i) ≡ Some z)
      → Agrees t n h (kernel_evaluation n (length h) (term_of w)) (Valued t c (argument_of s j) n h fr)
  argument_right c (base Int) (x.int z) n j h fr l f =
      let e : slice_get fr.slots j ≡ Some z = (let q : j ≡ j + 0 = omega arith in rw q (f 0 z refl)) in
      rw (kernel_evaluation-is n (length h) (x.done (x.int z)), e)
      (given t n n h h (x.int z) z (omega arith) (grows_same h) (s_int z))
  argument_right c (base Truth) (x.bool z) n j h fr l f =
      let e : slice_get fr.slots j ≡ Some (word_of_truth z) = (let q : j ≡ j + 0 = omega arith in rw q (f 0 _ refl)) in
      rw (kernel_evaluation-is n (length h) (x.done (x.bool z)), e)
      (given t n n h h (x.bool z) _ (omega arith) (grows_same h) (s_bool z _ refl))
  argument_right c (product p q) (x.both u v) n j h fr l f =
      rw (kernel_evaluation-is n (length h) (x.pair (term_of u) (term_of v)))
      (then_agrees t n h _ _ _ _
      (argument_right c p u n j h fr l.0 (λ i z e. f i z (get_append (leaf_words u) (leaf_words v) i z e)))
      λ made m y h1 le1 g1 s1.
      then_agrees t m h1 _ _ _ _ (argument_right c q v m (j + leaf_count p) h1 fr l.1 (λ i z e.
      let b : length (leaf_words u) + i ≡ leaf_count p + i = ap (λ a. a + i) (leaves_length p u l.0) in
      let a : j + leaf_count p + i ≡ j + (length (leaf_words u) + i) = omega arith in
      rw a (f (length (leaf_words u) + i) z (get_appended (leaf_words u) (leaf_words v) i ∙ e))))
      λ other l' z h2 le2 g2 s2.
      paired t l' h2 made other y z (stands_grows t h1 h2 g2 made y s1) s2)
  argument_right c s w n j h fr l f = absurd l
