-- A part has as many nodes of equations as equations, and no more nodes than unknowns.
use Rattle.std.proofs.Common.{◌≡◌, ℕ, zero, suc, ◌+◌, ◌≤◌, List, [], ◌∷◌, ◌++◌, map, length, Option, Some}
use Rattle.std.proofs.Common.{refl, ap, ◌∙◌, append_assoc, arith, length-append}
use Rattle.std.specs.Prelude.{slice_get, replicate}
use Rattle.std.proofs.lemmas.List.{length-map, length-replicate, map-append, replicate-append-replicate}
use Rattle.mw_term.specs.Terms.{Expression, num, truth, var, glob, fun, fix, app, bind, cond, pair, fst, snd, prim}
use Rattle.mw_term.specs.Terms.{bracket, escape, run, close, opened, lift, lift_b, done, size}
use Rattle.mw_term.specs.Types.{Level, live, under}
use Rattle.mw_term.specs.Scoped.{IsScoped}
use Rattle.mw_term.specs.Parts.{Place, let_place, kernel_place, main_place}
use Rattle.mw_infer.specs.Schemes.{TopScheme, let_scheme}
use Rattle.mw_infer.specs.ItemEquations.{Slot, plain_slot, quoted_slot, slot, variable_equations}
use Rattle.mw_infer.specs.ItemEquations.{name_equations, equations}
use Rattle.mw_infer.specs.Inferring.{item_unknowns, item_equations}
use Rattle.mw_infer.specs.Judging.{CanJudge}
use Rattle.mw_infer.specs.Owners.{own_count, equation_nodes, item_owners}
use Rattle.mw_infer.specs.Scoped.{is_quoted, is_quoted_slot, has_scheme}

-- a term has at least one node
pub size-positive : (e : Expression) → 1 ≤ size e
size-positive (num k) = omega arith
size-positive e = omega arith

slot-quoted : (m : Level) (u : ℕ) → is_quoted_slot (slot m u) ≡ is_quoted m
slot-quoted live u = refl
slot-quoted (under a) u = refl

-- a variable has an equation for its type, and at level 1 one for its classifier
variable-length : (n j u : ℕ) (m : Level) (g : List Slot) (i : ℕ) → slice_get (map is_quoted_slot g) i
    ≡ Some (is_quoted m) → own_count (is_quoted m) (var j) ≡ length (variable_equations u m (slice_get g i))
variable-length n j u m [] i h = absurd (cc)
variable-length n j u live (plain_slot x ∷ g) zero h = refl
variable-length n j u live (quoted_slot a x ∷ g) zero h = absurd (cc)
variable-length n j u (under b) (plain_slot x ∷ g) zero h = absurd (cc)
variable-length n j u (under b) (quoted_slot a x ∷ g) zero h = refl
variable-length n j u m (x ∷ g) (suc i) h = variable-length n j u m g i h

name-length : (u o c : ℕ) (m : Level) (s : Option TopScheme) → 1 ≡ length (name_equations u o c m s)
name-length u o c live (Some (let_scheme s)) = refl
name-length u o c m s = refl

pub two : {A B : Type 0} (xs ys : List A) (vs ws : List B) → length xs ≡ length vs → length ys ≡ length ws
    → length (xs ++ ys) ≡ length (vs ++ ws)
two xs ys vs ws p q = omega (arith, length-append xs ys, length-append vs ws)

-- one more of the same node
pub pushed-more : (xs : List (Option ℕ)) (k n : ℕ) → (xs ++ map (λ i. Some i) (replicate k n)) ++ (Some n ∷ [])
    ≡ xs ++ map (λ i. Some i) (replicate (k + 1) n)
pushed-more xs k n =
    rw (← replicate-append-replicate k 1 n, map-append (λ i. Some i) (replicate k n) (replicate 1 n))
    (append_assoc xs (map (λ i. Some i) (replicate k n)) (Some n ∷ []))

module _ (tops : List TopScheme) where
  pub nodes-length : (n u o c : ℕ) (g : List Slot) (m : Level) (e : Expression)
      → IsScoped (map has_scheme tops) (map is_quoted_slot g) (is_quoted m) e
      → length (equation_nodes (is_quoted m) n e) ≡ length (equations tops u o c g m e)
  nodes-length n u o c g m (num k) h = refl
  nodes-length n u o c g m (truth b) h = refl
  nodes-length n u o c g m (var i) h =
      length-replicate (own_count (is_quoted m) (var i)) n ∙ variable-length n i u m g i h
  nodes-length n u o c g m (glob i) h = name-length u o c m (slice_get tops i)
  nodes-length n u o c g m (fun e) h = ap suc (nodes-length (n + 1) (o + 1) (o + 2) c (slot m o ∷ g) m e
      (rw (slot-quoted m o) h))
  nodes-length n u o c g m (fix e) h = ap (λ k. suc (suc k)) (nodes-length (n + 1) (o + 2) (o + 3) c
      (slot m o ∷ slot m (o + 1) ∷ g) m e (rw (slot-quoted m o, slot-quoted m (o + 1)) h))
  nodes-length n u o c g m (app f a) h = ap suc (two _ _ _ _
      (nodes-length (n + 1) o (o + 2) c g m f h.0)
      (nodes-length (n + 1 + size f) (o + 1) _ _ g m a h.1))
  nodes-length n u o c g m (bind d e) h = ap (λ k. suc (suc k)) (two _ _ _ _
      (nodes-length (n + 1) (o + 1) (o + 3) c g m d h.0)
      (nodes-length (n + 1 + size d) (o + 2) _ _ (slot m o ∷ g) m e (rw (slot-quoted m o) h.1)))
  nodes-length n u o c g m (cond k a b) h = ap (λ k. suc (suc (suc k))) (two _ _ _ _
      (two _ _ _ _ (nodes-length (n + 1) o (o + 3) c g m k h.0)
      (nodes-length (n + 1 + size k) (o + 1) _ _ g m a h.1))
      (nodes-length (n + 1 + size k + size a) (o + 2) _ _ g m b h.2))
  nodes-length n u o c g m (pair a b) h = ap suc (two _ _ _ _
      (nodes-length (n + 1) o (o + 2) c g m a h.0)
      (nodes-length (n + 1 + size a) (o + 1) _ _ g m b h.1))
  nodes-length n u o c g m (fst e) h = ap suc (nodes-length (n + 1) (o + 1) (o + 2) c g m e h)
  nodes-length n u o c g m (snd e) h = ap suc (nodes-length (n + 1) (o + 1) (o + 2) c g m e h)
  nodes-length n u o c g m (prim p a b) h = ap (λ k. suc (suc (suc k))) (two _ _ _ _
      (nodes-length (n + 1) o (o + 2) c g m a h.0)
      (nodes-length (n + 1 + size a) (o + 1) _ _ g m b h.1))
  nodes-length n u o c g live (bracket e) h = ap suc (nodes-length (n + 1) o (o + 1) (c + 1) g (under c) e h.1)
  nodes-length n u o c g (under a) (escape e) h = ap suc (nodes-length (n + 1) o (o + 1) c g live e h.1)
  nodes-length n u o c g live (run k e) h = ap (λ k. suc (suc k)) (nodes-length (n + 1) o (o + 1) c g live e h.1)
  nodes-length n u o c g live (close at e) h =
      ap (λ k. suc (suc k)) (nodes-length (n + 1) (o + 1) (o + 2) (c + 1) g live e h.1)
  nodes-length n u o c g live (opened e) h =
      ap (λ k. suc (suc k)) (nodes-length (n + 1) (o + 1) (o + 2) (c + 1) g live e h.1)
  nodes-length n u o c g live (lift e) h = ap (λ k. suc (suc k)) (nodes-length (n + 1) o (o + 1) (c + 1) g live e h.1)
  nodes-length n u o c g live (lift_b e) h = ap (λ k. suc (suc k)) (nodes-length (n + 1) o (o + 1) (c + 1) g live e h.1)
  nodes-length n u o c g m (done v) h = absurd h
  nodes-length n u o c g m e h = absurd (let i = h.0 in cc)

  pub owners-length : (place : Place) (e : Expression) → CanJudge tops e
      → length (item_owners place e) ≡ length (item_equations tops place e)
  owners-length let_place e j = length-map _ _ ∙ nodes-length 0 0 1 0 [] live e j.scoped
  owners-length (kernel_place k) e j = ap suc (length-map _ _ ∙ nodes-length 0 0 1 0 [] live e j.scoped)
  owners-length (main_place g) e j = ap suc (length-map _ _ ∙ nodes-length 0 0 1 0 [] live e j.scoped)

  pub size-unknowns : (e : Expression) → size e ≤ item_unknowns tops e
  size-unknowns (fun e) = let x = size-unknowns e in omega (arith, x)
  size-unknowns (fix e) = let x = size-unknowns e in omega (arith, x)
  size-unknowns (app f a) = let x = size-unknowns f in let y = size-unknowns a in omega (arith, x, y)
  size-unknowns (bind d e) = let x = size-unknowns d in let y = size-unknowns e in omega (arith, x, y)
  size-unknowns (cond c a b) = let x = size-unknowns c in let y = size-unknowns a in let z = size-unknowns b in
      omega (arith, x, y, z)
  size-unknowns (pair a b) = let x = size-unknowns a in let y = size-unknowns b in omega (arith, x, y)
  size-unknowns (fst e) = let x = size-unknowns e in omega (arith, x)
  size-unknowns (snd e) = let x = size-unknowns e in omega (arith, x)
  size-unknowns (prim p a b) = let x = size-unknowns a in let y = size-unknowns b in omega (arith, x, y)
  size-unknowns (bracket e) = let x = size-unknowns e in omega (arith, x)
  size-unknowns (escape e) = let x = size-unknowns e in omega (arith, x)
  size-unknowns (run k e) = let x = size-unknowns e in omega (arith, x)
  size-unknowns (close at e) = let x = size-unknowns e in omega (arith, x)
  size-unknowns (opened e) = let x = size-unknowns e in omega (arith, x)
  size-unknowns (lift e) = let x = size-unknowns e in omega (arith, x)
  size-unknowns (lift_b e) = let x = size-unknowns e in omega (arith, x)
  size-unknowns e = omega arith
