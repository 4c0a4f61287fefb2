-- What names have, and which classifiers stand in an environment.
use Rattle.std.proofs.Common.{◌≡◌, ℕ, zero, suc, Bool, true, false, ◌==◌, ◌<◌, List, [], ◌∷◌, length, Option, Some}
use Rattle.std.proofs.Common.{refl, sym, ap, ◌∙◌, if◌then◌else◌, subst}
use Rattle.std.specs.Prelude.{slice_get, ◌↔◌, Result, Ok, Err, IfOk}
use Rattle.std.specs.Option.{option_map}
use Rattle.std.proofs.lemmas.Option.{slice_get-map}
use Rattle.mw_lines.specs.TypeLines.{TypeLine}
use Rattle.mw_lines.specs.Deciding.{is_in}
use Rattle.mw_lines.specs.Tables.{lines_of, is_in_one, AreHeld, AreWithin as AreLines}
use Rattle.mw_lines.specs.declared.table.TypeLines.{TypeLines}
use Rattle.mw_lines.proofs.NamedTypes.{either-false}
use Rattle.mw_recheck.specs.Judging.{PlacedBinder, plain_at, quoted_at, stands_in, type_of}
use Rattle.mw_recheck.specs.Views.{places_of, is_named}
use Rattle.mw_recheck.specs.Roots.{top_of, tops_of, IsHeldRoot, AreRoots, AreWithin}
use Rattle.mw_recheck.specs.declared.names.Root.{Root}
use Rattle.mw_recheck.specs.declared.names.Root.TheVariants.{Let}

root_held : (roots : List Root) (i : ℕ) (r : Root) → AreRoots roots → Some r ≡ slice_get roots i → IsHeldRoot r
root_held [] i r h e = absurd (cc)
root_held (q ∷ roots) zero r h e = let p : q ≡ r = cc in subst IsHeldRoot p h.0
root_held (q ∷ roots) (suc i) r h e = root_held roots i r h.1 e

-- a let among them has lines
pub let_held : (roots : List Root) (i : ℕ) (r : Root) (l : TypeLines) → AreRoots roots → Some r ≡ slice_get roots i
    → r ≡ Let l → AreHeld l × (0 < length (lines_of l))
let_held roots i r l h e q = rw q at (root_held roots i r h e)

pub top_there : (kernels : Bool) (roots : List Root) (i : ℕ) (o : Option Root) → o ≡ slice_get roots i
    → slice_get (tops_of kernels roots) i ≡ option_map (top_of kernels) o
top_there kernels roots i o e = slice_get-map (top_of kernels) roots i ∙ ap (λ r. option_map (top_of kernels) r) (sym e)

pub if_ok : {A E : Type 0} (r : Result A E) (P Q : A → Type 0) → ((x : A) → P x → Q x) → IfOk r P → IfOk r Q
if_ok (Ok x) P Q f h = f x h
if_ok (Err e) P Q f h = h

-- two tests of one fact
pub same_test : {P : Type 0} (a b : Bool) → (a ≡ true) ↔ P → (b ≡ true) ↔ P → a ≡ b
same_test true b h g = sym (g.1 (h.0 refl))
same_test false true h g = h.1 (g.0 refl)
same_test false false h g = refl

pub within_lines : (t : TypeLines) (g : List PlacedBinder) → AreWithin (lines_of t) g → AreLines t (places_of g)
within_lines t [] h = tt
within_lines t (plain_at i ∷ g) h = (h.0, within_lines t g h.1)
within_lines t (quoted_at c i ∷ g) h = (h.0, within_lines t g h.1)

yes_or : (b : Bool) → (if b then true else true) ≡ true
yes_or true = refl
yes_or false = refl

pub stands_named : (ls : List TypeLine) (a : ℕ) (g : List PlacedBinder) → is_named a g ≡ true → stands_in ls a g ≡ true
stands_named ls a [] h = absurd (cc)
stands_named ls a (plain_at i ∷ g) h = rw (stands_named ls a g h) (yes_or (is_in a (type_of ls i)))
stands_named ls a (quoted_at c i ∷ g) h = of (c == a) refl h (λ k. stands_named ls a g k)
  where
    of : (b : Bool) → (c == a) ≡ b → (if b then true else is_named a g) ≡ true → (is_named a g ≡ true
        → stands_in ls a g ≡ true) → stands_in ls a (quoted_at c i ∷ g) ≡ true
    of true e h more = rw e refl
    of false e h more = rw (e, more h) (yes_or (is_in a (type_of ls i)))

pub stands_else : (t : TypeLines) (a : ℕ) (g : List PlacedBinder) → is_named a g ≡ false
    → is_in_one t a (places_of g) ≡ stands_in (lines_of t) a g
stands_else t a [] h = refl
stands_else t a (plain_at i ∷ g) h = rw (stands_else t a g h) refl
stands_else t a (quoted_at c i ∷ g) h =
    let e = either-false (c == a) (is_named a g) h in
    rw (e.0, stands_else t a g e.1) refl
