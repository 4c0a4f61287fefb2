-- Choices by tests, readings that differ, and readings that fail.
use Rattle.std.proofs.Common.{◌≡◌, ℕ, ◌⊎◌, inl, inr, Bool, true, false, cond, List, refl, sym, ap, subst}
use Rattle.mw_decode.specs.declared.fault.BadModule.{BadModule}
use Rattle.mw_decode.specs.declared.fault.Fault.{Fault}
use Rattle.mw_decode.specs.declared.fault.Fault.TheVariants.{Ended, Bad, Memory}
use Rattle.mw_decode.specs.Gives.{Fails}
use Rattle.mw_decode.specs.Reading.{Read, got, ended, faulty, and_then, Meaning, is, wrong, outside}

-- the test that made a choice
pub either_is : {A : Type 0} (b : Bool) (x y z : A) → cond b x y ≡ z
    → ((b ≡ true) × (x ≡ z)) ⊎ ((b ≡ false) × (y ≡ z))
either_is true x y z e = inl (refl, e)
either_is false x y z e = inr (refl, e)

-- a choice whose second way is refused
pub passes : {A : Type 0} (b : Bool) (x y z : A) → cond b x y ≡ z → (y ≡ z → ⊥) → (b ≡ true) × (x ≡ z)
passes true x y z e never = (refl, e)
passes false x y z e never = absurd (never e)

-- what is read is no end and no fault
pub not_ended : {A : Type 0} (x : A) (rest : List ℕ) → ◌≡◌ {A = Read A} ended (got x rest) → ⊥
not_ended x rest e = cc

pub not_faulty : {A : Type 0} (f : BadModule) (x : A) (rest : List ℕ) → ◌≡◌ {A = Read A} (faulty f) (got x rest) → ⊥
not_faulty f x rest e = cc

-- a byte that means something is neither wrong nor outside the profile
pub not_wrong : {A : Type 0} (x : A) → ◌≡◌ {A = Meaning A} wrong (is x) → ⊥
not_wrong x e = cc

pub not_outside : {A : Type 0} (x : A) → ◌≡◌ {A = Meaning A} outside (is x) → ⊥
not_outside x e = cc

-- what fails fails in what is read with it
pub fails_then : {A B : Type 0} (e : Fault) (m : Read A) (go : A → List ℕ → Read B) → Fails e m
    → Fails e (and_then m go)
fails_then (Memory x) m go h = tt
fails_then Ended m go h = ap (λ m. and_then m go) h
fails_then (Bad f) m go h = ap (λ m. and_then m go) h

pub fails_at : {A : Type 0} (e : Fault) (r s : Read A) → r ≡ s → Fails e s → Fails e r
fails_at e r s h f = subst (Fails e) (sym h) f
