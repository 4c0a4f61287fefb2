-- Other numbers of functions change nothing else.
use Rattle.std.proofs.Common.{◌≡◌, ℕ, ◌+◌, List, [], ◌∷◌, refl, ap, arith, map}
use Rattle.mw_ir.specs.declared.place.Place.TheVariants.{Own}
use Rattle.mw_ir.specs.Ir as i
use Rattle.mw_ir.specs.Ir.{Ir, IrFunc}
use Rattle.mw_gen.specs.Generate.{is_own, has_self_tail_call, wants_spare, tail_wants_spare}
use Rattle.mw_gen.specs.Parts.{moved, moved_function}

pub own_moved : (o : ℕ) (e : Ir) → is_own (moved o e) ≡ is_own e
own_moved o (i.get Own) = refl
own_moved o _ = refl

pub loops_moved : (o : ℕ) (e : Ir) → has_self_tail_call (moved o e) ≡ has_self_tail_call e
loops_moved o (i.app f a) = own_moved o f
loops_moved o (i.bind s d e) = loops_moved o e
loops_moved o (i.cond c x y) = rw (loops_moved o x, loops_moved o y) refl
loops_moved o _ = refl

pub uses_moved : (o : ℕ) (e : Ir) → wants_spare (moved o e) ≡ wants_spare e
uses_moved o (i.bind s d e) = rw (uses_moved o d, uses_moved o e) refl
uses_moved o (i.cond c x y) = rw (uses_moved o c, uses_moved o x, uses_moved o y) refl
uses_moved o (i.fst f) = uses_moved o f
uses_moved o (i.snd f) = uses_moved o f
uses_moved o (i.prim p x y) = rw (uses_moved o x, uses_moved o y) refl
uses_moved o _ = refl

pub tail_uses_moved : (o : ℕ) (e : Ir) → tail_wants_spare (moved o e) ≡ tail_wants_spare e
tail_uses_moved o (i.app f a) = rw (own_moved o f, uses_moved o a) refl
tail_uses_moved o (i.bind s d e) = rw (uses_moved o d, tail_uses_moved o e) refl
tail_uses_moved o (i.cond c x y) = rw (uses_moved o c, tail_uses_moved o x, tail_uses_moved o y) refl
tail_uses_moved o (i.fst f) = uses_moved o f
tail_uses_moved o (i.snd f) = uses_moved o f
tail_uses_moved o (i.prim p x y) = rw (uses_moved o x, uses_moved o y) refl
tail_uses_moved o _ = refl

-- from 0 on
pub moved_nothing : (e : Ir) → moved 0 e ≡ e
moved_nothing (i.closure k ps) = let q : 0 + k ≡ k = omega arith in ap (λ k. i.closure k ps) q
moved_nothing (i.app f a) = rw (moved_nothing f, moved_nothing a) refl
moved_nothing (i.bind s d e) = rw (moved_nothing d, moved_nothing e) refl
moved_nothing (i.cond c x y) = rw (moved_nothing c, moved_nothing x, moved_nothing y) refl
moved_nothing (i.pair x y) = rw (moved_nothing x, moved_nothing y) refl
moved_nothing (i.fst f) = ap i.fst (moved_nothing f)
moved_nothing (i.snd f) = ap i.snd (moved_nothing f)
moved_nothing (i.prim p x y) = rw (moved_nothing x, moved_nothing y) refl
moved_nothing _ = refl

pub all_moved_nothing : (fs : List IrFunc) → map (moved_function 0) fs ≡ fs
all_moved_nothing [] = refl
all_moved_nothing (f ∷ fs) = rw (moved_nothing f.body, all_moved_nothing fs) refl
