-- Erasure keeps types: code types are dropped, and each variable is of level 0.
use Rattle.std.proofs.Common.{◌≡◌, ℕ, zero, suc, ◌+◌, List, [], ◌∷◌, ◌++◌, length, Some, refl, ap, ◌∙◌, sym, subst}
use Rattle.std.proofs.Common.{arith}
use Rattle.std.specs.Prelude.{slice_get}
use Rattle.mw_term.specs.Terms.{Expression, KernelType, GroundType, base, product, of_ground, to, var, glob}
use Rattle.mw_term.specs.declared.term.Base.{Base}
use Rattle.mw_term.specs.declared.term.Base.TheVariants.{Int, Bool as Truth}
use Rattle.mw_term.specs.declared.term.Primitive.{Primitive as Prim}
use Rattle.mw_term.specs.declared.term.Primitive.TheVariants.{Add}
use Rattle.mw_term.specs.Types.{TermType, int_type, bool_type, pair_type, function_type, code_type, closed_type, Level}
use Rattle.mw_term.specs.Types.{live, under, Entry, value, quoted, entry, IsPlain, base_type, ground_type, kernel_type}
use Rattle.mw_term.specs.Types.{primitive_type}
use Rattle.mw_term.specs.Sources.{IsSource}
use Rattle.mw_term.specs.Typing.{TopLevel, let_item, kernel_item, Typed, t_num, t_truth, t_var, t_let, t_kernel, t_fun}
use Rattle.mw_term.specs.Typing.{t_fix, t_app, t_bind, t_cond, t_pair, t_fst, t_snd, t_prim, t_bracket, t_escape, t_run}
use Rattle.mw_term.specs.Typing.{t_close, t_open, t_lift, t_lift_b, t_done}
use Rattle.mw_term.proofs.MovedCode.{Fits-plain}
use Rattle.mw_meaning.specs.PlainTerms.{var, glob}
use Rattle.mw_meaning.specs.Erasure.{plain, term_of}
use Rattle.mw_meaning.specs.ErasedPrograms.{Naming, renamed}
pub use Rattle.mw_meaning.specs.ErasedPrograms.{AllNames}

-- the type without its code types
abbrev pub plain_type : TermType → TermType
plain_type int_type = int_type
plain_type bool_type = bool_type
plain_type (pair_type s t) = pair_type (plain_type s) (plain_type t)
plain_type (function_type s t) = function_type (plain_type s) (plain_type t)
plain_type (code_type a t) = plain_type t
plain_type (closed_type t) = plain_type t

abbrev pub plain_entry : Entry → Entry
plain_entry (value t) = value (plain_type t)
plain_entry (quoted a t) = value (plain_type t)

abbrev pub plain_entries : List Entry → List Entry
plain_entries [] = []
plain_entries (x ∷ g) = plain_entry x ∷ plain_entries g

IsPlain-plain_type : (t : TermType) → IsPlain (plain_type t)
IsPlain-plain_type int_type = tt
IsPlain-plain_type bool_type = tt
IsPlain-plain_type (pair_type s t) = (IsPlain-plain_type s, IsPlain-plain_type t)
IsPlain-plain_type (function_type s t) = (IsPlain-plain_type s, IsPlain-plain_type t)
IsPlain-plain_type (code_type a t) = IsPlain-plain_type t
IsPlain-plain_type (closed_type t) = IsPlain-plain_type t

plain_type-base_type : (b : Base) → plain_type (base_type b) ≡ base_type b
plain_type-base_type Int = refl
plain_type-base_type Truth = refl

pub plain_type-ground_type : (s : GroundType) → plain_type (ground_type s) ≡ ground_type s
plain_type-ground_type (base b) = plain_type-base_type b
plain_type-ground_type (product s t) = rw (plain_type-ground_type s, plain_type-ground_type t) refl

pub plain_type-kernel_type : (k : KernelType) → plain_type (kernel_type k) ≡ kernel_type k
plain_type-kernel_type (of_ground s) = plain_type-ground_type s
plain_type-kernel_type (to s t) = rw (plain_type-ground_type s, plain_type-ground_type t) refl

plain_type-primitive_type : (p : Prim) → plain_type (primitive_type p) ≡ primitive_type p
plain_type-primitive_type Add = refl
plain_type-primitive_type _ = refl

plain_entry-entry : (m : Level) (t : TermType) → plain_entry (entry m t) ≡ value (plain_type t)
plain_entry-entry live t = refl
plain_entry-entry (under a) t = refl

get-plain : (g k : List Entry) (i : ℕ) (x : Entry) → slice_get g i ≡ Some x → slice_get (plain_entries g ++ k) i
    ≡ Some (plain_entry x)
get-plain [] k i x e = absurd (cc)
get-plain (y ∷ g) k zero x e = let p : y ≡ x = cc in rw p refl
get-plain (y ∷ g) k (suc i) x e = get-plain g k i x e

get-behind : (g k : List Entry) (j : ℕ) → slice_get (plain_entries g ++ k) (length g + j) ≡ slice_get k j
get-behind [] k j = let p : zero + j ≡ j = omega arith in ap (λ n. slice_get k n) p
get-behind (x ∷ g) k j = let p : suc (length g) + j ≡ suc (length g + j) = omega arith in
    ap (λ n. slice_get (plain_entries (x ∷ g) ++ k) n) p ∙ get-behind g k j

-- the names in a typed term are those of lets and kernels
pub names_typed : {tops : List TopLevel} {g : List Entry} {m : Level} {e : Expression} {t : TermType} (P : ℕ → Type 0)
    → ((i : ℕ) (e : Expression) → slice_get tops i ≡ Some (let_item e) → P i)
    → ((i : ℕ) (k : KernelType) → slice_get tops i ≡ Some (kernel_item k) → P i) → IsSource e → Typed tops g m e t
    → AllNames P (plain e)
names_typed P l k s t_num = tt
names_typed P l k s t_truth = tt
names_typed P l k s (t_var h) = tt
names_typed P l k s (t_let {i = i} {e = e} q h) = l i e q
names_typed P l k s (t_kernel {i = i} {k = t} q) = k i t q
names_typed P l k s (t_fun p h) = names_typed P l k s h
names_typed P l k s (t_fix p h) = names_typed P l k s h
names_typed P l k s (t_app x y) = (names_typed P l k s.0 x, names_typed P l k s.1 y)
names_typed P l k s (t_bind x y) = (names_typed P l k s.0 x, names_typed P l k s.1 y)
names_typed P l k s (t_cond x y z) = (names_typed P l k s.0 x, names_typed P l k s.1 y, names_typed P l k s.2 z)
names_typed P l k s (t_pair x y) = (names_typed P l k s.0 x, names_typed P l k s.1 y)
names_typed P l k s (t_fst x) = names_typed P l k s x
names_typed P l k s (t_snd x) = names_typed P l k s x
names_typed P l k s (t_prim e x y) = (names_typed P l k s.0 x, names_typed P l k s.1 y)
names_typed P l k s (t_bracket p x) = names_typed P l k s x
names_typed P l k s (t_escape p x) = names_typed P l k s x
names_typed P l k s (t_run e x) = names_typed P l k s x
names_typed P l k s (t_close p a x) = names_typed P l k s x
names_typed P l k s (t_open p x) = names_typed P l k s x
names_typed P l k s (t_lift x) = names_typed P l k s x
names_typed P l k s (t_lift_b x) = names_typed P l k s x
names_typed P l k s (t_done x) = absurd s

-- a let's name is a let's, whose definition is the renamed one
pub record LetStays (names : List TopLevel) (r : Naming) (IsLet : ℕ → Type 0) (i : ℕ) (e : Expression) : Type 0 where
  pub number : ℕ
  pub named : (d : ℕ) → r d i ≡ glob number
  pub there : slice_get names number ≡ Some (let_item (term_of (renamed r zero (plain e))))
  pub source : IsSource e
  pub lets : AllNames IsLet (plain e)

-- a kernel's name is a variable of the kernel's type
pub record KernelStays (r : Naming) (k : List Entry) (i : ℕ) (t : KernelType) : Type 0 where
  pub number : ℕ
  pub named : (d : ℕ) → r d i ≡ var (d + number)
  pub there : slice_get k number ≡ Some (value (kernel_type t))

module _ (tops names : List TopLevel) (r : Naming) (IsLet : ℕ → Type 0)
    (let_stays : (i : ℕ) (e : Expression) → slice_get tops i ≡ Some (let_item e) → LetStays names r IsLet i e)
    (let_is_no_kernel : (i : ℕ) (t : KernelType) → IsLet i → slice_get tops i ≡ Some (kernel_item t) → ⊥) where
  at_entry : {g : List Entry} {x y : Entry} {e : Expression} {t : TermType} → x ≡ y → Typed names (x ∷ g) live e t
      → Typed names (y ∷ g) live e t
  at_entry {g} {e = e} {t = t} q h = subst (λ x. Typed names (x ∷ g) live e t) q h

  at_entries : {g : List Entry} {x y z w : Entry} {e : Expression} {t : TermType} → x ≡ y → z ≡ w
      → Typed names (x ∷ z ∷ g) live e t → Typed names (y ∷ w ∷ g) live e t
  at_entries {g} {x} {y} {z} {w} {e = e} {t = t} q p h = subst (λ x. Typed names (x ∷ w ∷ g) live e t) q
      (subst (λ z. Typed names (x ∷ z ∷ g) live e t) p h)

  pub erased_typed : {g : List Entry} {m : Level} {e : Expression} {t : TermType} (k : List Entry) (P : ℕ → Type 0)
      → ((i : ℕ) (t : KernelType) → P i → slice_get tops i ≡ Some (kernel_item t) → KernelStays r k i t) → IsSource e
      → AllNames P (plain e) → Typed tops g m e t → Typed names (plain_entries g ++ k) live
      (term_of (renamed r (length g) (plain e))) (plain_type t)
  erased_typed k P z s c t_num = t_num
  erased_typed k P z s c t_truth = t_truth
  erased_typed k P z s c (t_var {g = g} {m = m} {i = i} {t = t} h) =
      t_var (get-plain g k i (entry m t) h ∙ ap Some (plain_entry-entry m t))
  erased_typed k P z s c (t_let {g = g} {i = i} {e = e} q h) =
      let l = let_stays i e q in
      rw (l.named (length g))
      (t_let l.there (erased_typed [] IsLet (λ i t p q. absurd (let_is_no_kernel i t p q)) l.source l.lets h))
  erased_typed k P z s c (t_kernel {g = g} {i = i} {k = t} q) =
      let l = z i t c q in
      rw (l.named (length g))
      (t_var (get-behind g k l.number ∙ l.there ∙ ap (λ t. Some (value t)) (sym (plain_type-kernel_type t))))
  erased_typed k P z s c (t_fun {m = m} {s = u} p h) = t_fun (Fits-plain live _ (IsPlain-plain_type u))
      (at_entry (plain_entry-entry m u) (erased_typed k P z s c h))
  erased_typed k P z s c (t_fix {m = m} {s = u} {t = t} p h) =
      t_fix (Fits-plain live (plain_type (function_type u t)) (IsPlain-plain_type (function_type u t)))
      (at_entries (plain_entry-entry m u) (plain_entry-entry m (function_type u t)) (erased_typed k P z s c h))
  erased_typed k P z s c (t_app x y) = t_app (erased_typed k P z s.0 c.0 x) (erased_typed k P z s.1 c.1 y)
  erased_typed k P z s c (t_bind {m = m} {s = u} x y) = t_bind (erased_typed k P z s.0 c.0 x)
      (at_entry (plain_entry-entry m u) (erased_typed k P z s.1 c.1 y))
  erased_typed k P z s c (t_cond x y w) = t_cond (erased_typed k P z s.0 c.0 x) (erased_typed k P z s.1 c.1 y)
      (erased_typed k P z s.2 c.2 w)
  erased_typed k P z s c (t_pair x y) = t_pair (erased_typed k P z s.0 c.0 x) (erased_typed k P z s.1 c.1 y)
  erased_typed k P z s c (t_fst x) = t_fst (erased_typed k P z s c x)
  erased_typed k P z s c (t_snd x) = t_snd (erased_typed k P z s c x)
  erased_typed k P z s c (t_prim {p = p} e x y) = t_prim (ap plain_type e ∙ plain_type-primitive_type p)
      (erased_typed k P z s.0 c.0 x) (erased_typed k P z s.1 c.1 y)
  erased_typed k P z s c (t_bracket p x) = erased_typed k P z s c x
  erased_typed k P z s c (t_escape p x) = erased_typed k P z s c x
  erased_typed k P z s c (t_run e x) = erased_typed k P z s c x
  erased_typed k P z s c (t_close p a x) = erased_typed k P z s c x
  erased_typed k P z s c (t_open p x) = erased_typed k P z s c x
  erased_typed k P z s c (t_lift x) = erased_typed k P z s c x
  erased_typed k P z s c (t_lift_b x) = erased_typed k P z s c x
  erased_typed k P z s c (t_done x) = absurd s
