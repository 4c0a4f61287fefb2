-- Induction on terms without staging, with what changes under binders, such as a depth.
use Rattle.std.proofs.Common.{ℕ, ℤ, Bool}
use Rattle.mw_term.specs.declared.term.Primitive.{Primitive as Prim}
use Rattle.mw_meaning.specs.PlainTerms.{PlainTerm, num, truth, var, glob, fun, fix, app, bind, cond, pair, fst, snd}
use Rattle.mw_meaning.specs.PlainTerms.{prim}

-- what holds of literals, and of a term where it holds of its parts; `under` leads under a binder
pub record Ascends {C : Type 0} (under : C → C) (P : C → PlainTerm → Type 0) : Type 0 where
  pub at_num : (c : C) (n : ℤ) → P c (num n)
  pub at_truth : (c : C) (b : Bool) → P c (truth b)
  pub at_fun : (c : C) (e : PlainTerm) → P (under c) e → P c (fun e)
  pub at_fix : (c : C) (e : PlainTerm) → P (under (under c)) e → P c (fix e)
  pub at_app : (c : C) (f a : PlainTerm) → P c f → P c a → P c (app f a)
  pub at_bind : (c : C) (d e : PlainTerm) → P c d → P (under c) e → P c (bind d e)
  pub at_cond : (c : C) (x a b : PlainTerm) → P c x → P c a → P c b → P c (cond x a b)
  pub at_pair : (c : C) (a b : PlainTerm) → P c a → P c b → P c (pair a b)
  pub at_fst : (c : C) (e : PlainTerm) → P c e → P c (fst e)
  pub at_snd : (c : C) (e : PlainTerm) → P c e → P c (snd e)
  pub at_prim : (c : C) (p : Prim) (a b : PlainTerm) → P c a → P c b → P c (prim p a b)

-- what holds of a term's parts where it holds of the term
pub record Descends {C : Type 0} (under : C → C) (Q : C → PlainTerm → Type 0) : Type 0 where
  pub at_fun : (c : C) (e : PlainTerm) → Q c (fun e) → Q (under c) e
  pub at_fix : (c : C) (e : PlainTerm) → Q c (fix e) → Q (under (under c)) e
  pub at_app : (c : C) (f a : PlainTerm) → Q c (app f a) → Q c f × Q c a
  pub at_bind : (c : C) (d e : PlainTerm) → Q c (bind d e) → Q c d × Q (under c) e
  pub at_cond : (c : C) (x a b : PlainTerm) → Q c (cond x a b) → Q c x × Q c a × Q c b
  pub at_pair : (c : C) (a b : PlainTerm) → Q c (pair a b) → Q c a × Q c b
  pub at_fst : (c : C) (e : PlainTerm) → Q c (fst e) → Q c e
  pub at_snd : (c : C) (e : PlainTerm) → Q c (snd e) → Q c e
  pub at_prim : (c : C) (p : Prim) (a b : PlainTerm) → Q c (prim p a b) → Q c a × Q c b

-- of a term of which Q holds, P holds, if it does so of variables and names
pub by_parts_where : (C : Type 0) (under : C → C) (Q P : C → PlainTerm → Type 0) → Descends under Q → Ascends under P
    → ((c : C) (i : ℕ) → Q c (var i) → P c (var i)) → ((c : C) (i : ℕ) → Q c (glob i) → P c (glob i))
    → (c : C) (x : PlainTerm) → Q c x → P c x
by_parts_where C under Q P d a v g = go
  where
    go : (c : C) (x : PlainTerm) → Q c x → P c x
    go c (num n) q = a.at_num c n
    go c (truth b) q = a.at_truth c b
    go c (var i) q = v c i q
    go c (glob i) q = g c i q
    go c (fun e) q = a.at_fun c e (go (under c) e (d.at_fun c e q))
    go c (fix e) q = a.at_fix c e (go (under (under c)) e (d.at_fix c e q))
    go c (app x y) q = let p = d.at_app c x y q in a.at_app c x y (go c x p.0) (go c y p.1)
    go c (bind x y) q = let p = d.at_bind c x y q in a.at_bind c x y (go c x p.0) (go (under c) y p.1)
    go c (cond x y z) q = let p = d.at_cond c x y z q in a.at_cond c x y z (go c x p.0) (go c y p.1) (go c z p.2)
    go c (pair x y) q = let p = d.at_pair c x y q in a.at_pair c x y (go c x p.0) (go c y p.1)
    go c (fst e) q = a.at_fst c e (go c e (d.at_fst c e q))
    go c (snd e) q = a.at_snd c e (go c e (d.at_snd c e q))
    go c (prim o x y) q = let p = d.at_prim c o x y q in a.at_prim c o x y (go c x p.0) (go c y p.1)

pub by_parts : (C : Type 0) (under : C → C) (P : C → PlainTerm → Type 0) → Ascends under P
    → ((c : C) (i : ℕ) → P c (var i)) → ((c : C) (i : ℕ) → P c (glob i)) → (c : C) (x : PlainTerm) → P c x
by_parts C under P a v g c x =
    by_parts_where C under (λ c x. Unit {0}) P (search) a (λ c i q. v c i) (λ c i q. g c i) c x tt
