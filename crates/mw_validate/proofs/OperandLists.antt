-- Operands as a function holds them, under pops and pushes.
use Rattle.std.proofs.Common.{◌≡◌, ◌≤◌, ◌<◌, ℕ, ◌+◌, Bool, true, false, List, [], ◌∷◌, ◌++◌, length, reverse, map, take}
use Rattle.std.proofs.Common.{get_or, Option, Some, None, refl, sym, ap, subst, ◌∙◌, arith}
use Rattle.std.proofs.lemmas.List.{reverse-append, take_more, take_all, length-reverse}
use Rattle.mw_wasm.specs.declared.values.ValType.{ValType}
use Rattle.mw_validate.specs.Checks.{Operand, known, unknown, Operands, operands, ◌>>=◌, only_if, pop_any, may_be, pop}
use Rattle.mw_validate.specs.Checks.{pop_each, pops, push, pushes, at_height, closes}
use Rattle.mw_validate.specs.Lists.{operand_of}

on_top : (items : List (Option ValType)) (o : Option ValType) → map operand_of (reverse (items ++ o ∷ []))
    ≡ operand_of o ∷ map operand_of (reverse items)
on_top items o = ap (map operand_of) (reverse-append items (o ∷ []))

pub pushed : (items : List (Option ValType)) (d : Bool) (o : Option ValType)
    → operands (map operand_of (reverse (items ++ o ∷ []))) d
    ≡ push (operand_of o) (operands (map operand_of (reverse items)) d)
pushed items d o = ap (λ os. operands os d) (on_top items o)

pub last_popped : (before items : List (Option ValType)) (d : Bool) (o : Option ValType) → before ≡ items ++ o ∷ []
    → pop_any (operands (map operand_of (reverse before)) d)
    ≡ Some (operand_of o, operands (map operand_of (reverse items)) d)
last_popped before items d o e = ap (λ z. pop_any (operands (map operand_of (reverse z)) d)) e
    ∙ ap (λ os. pop_any (operands os d)) (on_top items o)

pub none_left : (before : List (Option ValType)) (d : Bool) → before ≡ [] → d ≡ false
    → pop_any (operands (map operand_of (reverse before)) d) ≡ None
none_left before d e f = ap (λ z. pop_any (operands (map operand_of (reverse z)) d)) e
    ∙ ap (λ d. pop_any (operands [] d)) f

pub unknown_left : (before after : List (Option ValType)) (d : Bool) → before ≡ [] → after ≡ [] → d ≡ true
    → pop_any (operands (map operand_of (reverse before)) d)
    ≡ Some (unknown, operands (map operand_of (reverse after)) d)
unknown_left before after d e g f = ap (λ z. pop_any (operands (map operand_of (reverse z)) d)) e
    ∙ (subst (λ (d : Bool). pop_any (operands [] d) ≡ Some (unknown, operands [] d)) (sym f) refl
    ∙ ap (λ z. Some (unknown, operands (map operand_of (reverse z)) d)) (sym g))

pub popped : (t : ValType) (s left : Operands) (o : Operand) → pop_any s ≡ Some (o, left) → may_be t o ≡ true
    → pop t s ≡ Some left
popped t s left o e f = ap (λ m. m >>= λ p. only_if (may_be t p.0) (Some p.1)) e ∙ ap (λ b. only_if b (Some left)) f

pub other_type : (t : ValType) (s left : Operands) (o : Operand) → pop_any s ≡ Some (o, left) → may_be t o ≡ false
    → pop t s ≡ None
other_type t s left o e f = ap (λ m. m >>= λ p. only_if (may_be t p.0) (Some p.1)) e ∙ ap (λ b. only_if b (Some left)) f

pub no_operand : (t : ValType) (s : Operands) → pop_any s ≡ None → pop t s ≡ None
no_operand t s e = ap (λ m. m >>= λ p. only_if (may_be t p.0) (Some p.1)) e

-- popping in a loop: so many of the types are left
pops_step : (types : List ValType) (k : ℕ) (d t : ValType) (s : Operands) (r : Option Operands) → k < length types
    → t ≡ get_or types k d → pop t s ≡ r → pop_each (reverse (take (k + 1) types)) s
    ≡ (r >>= pop_each (reverse (take k types)))
pops_step types k d t s r lt e h =
    ap (λ z. pop_each (reverse z) s) (take_more types k d lt)
    ∙ (ap (λ z. pop_each z s) (reverse-append (take k types) (get_or types k d ∷ []))
    ∙ (ap (λ u. pop u s >>= pop_each (reverse (take k types))) (sym e)
    ∙ ap (λ m. m >>= pop_each (reverse (take k types))) h))

pub pops_one : (types : List ValType) (k : ℕ) (d t : ValType) (s left : Operands) → k < length types
    → t ≡ get_or types k d → pop t s ≡ Some left → pop_each (reverse (take (k + 1) types)) s
    ≡ pop_each (reverse (take k types)) left
pops_one types k d t s left lt e h = pops_step types k d t s (Some left) lt e h

pub pops_fail : (types : List ValType) (k : ℕ) (d t : ValType) (s : Operands) → k < length types → t ≡ get_or types k d
    → pop t s ≡ None → pop_each (reverse (take (k + 1) types)) s ≡ None
pops_fail types k d t s lt e h = pops_step types k d t s None lt e h

pub pops_all : (types : List ValType) (s : Operands) → pops types s ≡ pop_each (reverse (take (length types) types)) s
pops_all types s = ap (λ z. pop_each (reverse z) s) (sym (take_all (length types) types (omega arith)))

-- at the height of a dead label
all_unknown : (ts : List ValType) → pop_each ts (operands [] true) ≡ Some (operands [] true)
all_unknown [] = refl
all_unknown (t ∷ ts) = all_unknown ts

pub rest_unknown : (ts : List ValType) (items : List (Option ValType)) (d : Bool) → length items ≡ 0 → d ≡ true
    → pop_each ts (operands (map operand_of (reverse items)) d) ≡ Some (operands (map operand_of (reverse items)) d)
rest_unknown ts [] d e f = subst (λ (d : Bool). pop_each ts (operands [] d) ≡ Some (operands [] d)) (sym f)
    (all_unknown ts)
rest_unknown ts (o ∷ os) d e f = absurd (omega arith)

-- pushing in a loop
pub pushes_one : (types : List ValType) (k : ℕ) (d : ValType) (s : Operands) → k < length types
    → push (known (get_or types k d)) (pushes (take k types) s) ≡ pushes (take (k + 1) types) s
pushes_one types k d (operands os dead) lt =
    ap (λ z. operands (map known z ++ os) dead)
    (sym (ap reverse (take_more types k d lt) ∙ reverse-append (take k types) (get_or types k d ∷ [])))

pub pushes_all : (types : List ValType) (k : ℕ) (s : Operands) → length types ≤ k → pushes (take k types) s
    ≡ pushes types s
pushes_all types k s le = ap (λ z. pushes z s) (take_all k types le)

pub closed : (types : List ValType) (s : Operands) (items : List (Option ValType)) (d : Bool) → pops types s
    ≡ Some (operands (map operand_of (reverse items)) d) → items ≡ [] → closes types (Some s) ≡ true
closed types s items d e f = ap at_height (e ∙ ap (λ z. Some (operands (map operand_of (reverse z)) d)) f)

pub too_many : (types : List ValType) (s : Operands) (items : List (Option ValType)) (d : Bool) → pops types s
    ≡ Some (operands (map operand_of (reverse items)) d) → 0 < length items → closes types (Some s) ≡ false
too_many types s items d e f = ap at_height e ∙ ap (λ os. at_height (Some (operands os d))) refl
    ∙ go (reverse items) (subst (λ (n : ℕ). 0 < n) (sym (length-reverse items)) f)
  where
    go : (z : List (Option ValType)) → 0 < length z → at_height (Some (operands (map operand_of z) d)) ≡ false
    go [] h = absurd (omega arith)
    go (o ∷ os) h = refl

pub not_popped : (types : List ValType) (s : Operands) → pops types s ≡ None → closes types (Some s) ≡ false
not_popped types s e = ap at_height e

-- operands that are taken one after the other
pub ruleset pop_laws = (pops_one, pops_fail, pops_all, rest_unknown)
