-- What generation asks for, from the ranges and limits that converted code keeps.
use Rattle.std.proofs.Common.{◌≡◌, ℕ, zero, suc, ◌+◌, ◌*◌, ◌≤◌, ◌<◌, List, [], ◌∷◌, length, Option, Some, None}
use Rattle.std.proofs.Common.{refl, arith}
use Rattle.std.specs.Prelude.{slice_get}
use Rattle.std.specs.List.{AllByRecursion}
use Rattle.std.proofs.lemmas.Option.{slice_get_within}
use Rattle.mw_term.specs.Terms.{KernelType}
use Rattle.mw_term.specs.Limits.{kernel_nodes}
use Rattle.mw_wasm.specs.BinaryModules.{wasm_module}
use Rattle.mw_wasm.specs.Validity.{IsValid}
use Rattle.mw_wasm.specs.Profile.{IsWithinProfile}
use Rattle.mw_ir.specs.declared.place.Place.{Place}
use Rattle.mw_ir.specs.declared.place.Place.TheVariants.{Slot, Free}
use Rattle.mw_ir.specs.Ir as i
use Rattle.mw_ir.specs.Ir.{Ir, IrFunc}
use Rattle.mw_ir.specs.Ranges.{ir_size, ir_depth, total_size, IsPlace, IsOuterPlace, HasFree, IsInRange, IsProper}
use Rattle.mw_ir.specs.Ranges.{IsConverted}
use Rattle.mw_key.specs.declared.version.Version.{Version}
use Rattle.mw_gen.specs.Generate.{module_with}
use Rattle.mw_gen.proofs.Slots.{slots_needed}
use Rattle.mw_gen.specs.Listing.{IsShort, IsShortPlace, AllShort}
use Rattle.mw_gen.proofs.Correctness.{Fine, Sound}
use Rattle.mw_gen.proofs.Valid.{place_local, Sees}
use Rattle.mw_gen.proofs.Modules.{Proper, AllProper, module_valid}
use Rattle.mw_gen.proofs.Profile.{ifs, IsModest, module_within_profile}
use Rattle.mw_gen.proofs.Pieces.{SpelledWithin}
use Rattle.mw_gen.proofs.CodeSpelling.{breadth, IsNear, Near}
use Rattle.mw_gen.proofs.ModuleSpelling.{CanSpell, total, module_spelled}

-- what follows from what holds of each
each : {A : Type 0} (P Q : A → Type 0) → ((x : A) → P x → Q x) → (xs : List A) → AllByRecursion P xs
    → AllByRecursion Q xs
each P Q f [] a = tt
each P Q f (x ∷ xs) a = (f x a.0, each P Q f xs a.1)

-- a function of a number, which is one of t
has_free_below : (t : List IrFunc) (j k : ℕ) (o : Option IrFunc) → slice_get t j ≡ o → HasFree k o → j < length t
has_free_below t j k None e h = absurd h
has_free_below t j k (Some f) e h = slice_get_within t j f e

free_few : (t fs : List IrFunc) (j k : ℕ) → AllByRecursion (IsProper t) fs → HasFree k (slice_get fs j) → k ≤ 800
free_few t [] j k a h = absurd h
free_few t (f ∷ fs) zero k a h = let p = a.0.free in omega (arith, p, h)
free_few t (f ∷ fs) (suc j) k a h = free_few t fs j k a.1 h

module _ (t : List IrFunc) (P : Place → Type 0) (slots : ℕ) where
  pub needs : (e : Ir) → IsInRange t P slots e → slots_needed e ≤ slots
  needs (i.app f a) r = omega (arith, needs f r.0, needs a r.1)
  needs (i.bind s d e) r = omega (arith, r.0, needs d r.1, needs e r.2)
  needs (i.cond c a b) r = omega (arith, needs c r.0, needs a r.1, needs b r.2)
  needs (i.pair a b) r = omega (arith, needs a r.0, needs b r.1)
  needs (i.fst e) r = needs e r
  needs (i.snd e) r = needs e r
  needs (i.prim p a b) r = omega (arith, needs a r.0, needs b r.1)
  needs _ r = omega arith

  pub fine : length t ≤ 100000 → (e : Ir) → IsInRange t P slots e → Fine e
  fine few (i.num n) r = r
  fine few (i.closure j ps) r = let lt = has_free_below t j (length ps) (slice_get t j) refl r.0 in omega arith
  fine few (i.app f a) r = (fine few f r.0, fine few a r.1)
  fine few (i.bind s d e) r = (fine few d r.1, fine few e r.2)
  fine few (i.cond c a b) r = (fine few c r.0, fine few a r.1, fine few b r.2)
  fine few (i.pair a b) r = (fine few a r.0, fine few b r.1)
  fine few (i.fst e) r = fine few e r
  fine few (i.snd e) r = fine few e r
  fine few (i.prim p a b) r = (fine few a r.0, fine few b r.1)
  fine few _ r = tt

  module _ (b n : ℕ) (below : (p : Place) → P p → place_local p b < n) where
    pub seen : (e : Ir) → IsInRange t P slots e → Sees e b n
    seen (i.get p) r = below p r
    seen (i.closure j ps) r = each P (λ p. place_local p b < n) below ps r.1
    seen (i.app f a) r = (seen f r.0, seen a r.1)
    seen (i.bind s d e) r = (seen d r.1, seen e r.2)
    seen (i.cond c x y) r = (seen c r.0, seen x r.1, seen y r.2)
    seen (i.pair x y) r = (seen x r.0, seen y r.1)
    seen (i.fst e) r = seen e r
    seen (i.snd e) r = seen e r
    seen (i.prim p x y) r = (seen x r.0, seen y r.1)
    seen _ r = tt

  module _ (proper : AllByRecursion (IsProper t) t) (close : (p : Place) → P p → IsNear p) where
    pub near : (e : Ir) → IsInRange t P slots e → Near e
    near (i.get p) r = close p r
    near (i.closure j ps) r = (each P IsNear close ps r.1, omega (arith, free_few t t j (length ps) proper r.0))
    near (i.app f a) r = (near f r.0, near a r.1)
    near (i.bind s d e) r = (near d r.1, near e r.2)
    near (i.cond c x y) r = (near c r.0, near x r.1, near y r.2)
    near (i.pair x y) r = (near x r.0, near y r.1)
    near (i.fst e) r = near e r
    near (i.snd e) r = near e r
    near (i.prim p x y) r = (near x r.0, near y r.1)
    near _ r = tt

-- so few slots and free variables that all numbers have 32 bits
module _ (t : List IrFunc) (P : Place → Type 0) (slots : ℕ) (few : slots ≤ 400) (proper : AllByRecursion (IsProper t) t)
    (close : (p : Place) → P p → IsShortPlace p) where
  short : (e : Ir) → IsInRange t P slots e → IsShort e
  short (i.get p) r = close p r
  short (i.closure j ps) r =
      ((let n = free_few t t j (length ps) proper r.0 in omega arith), each P IsShortPlace close ps r.1)
  short (i.app f a) r = (short f r.0, short a r.1)
  short (i.bind s d e) r = (omega (arith, r.0), short d r.1, short e r.2)
  short (i.cond c x y) r = (short c r.0, short x r.1, short y r.2)
  short (i.pair x y) r = (short x r.0, short y r.1)
  short (i.fst e) r = short e r
  short (i.snd e) r = short e r
  short (i.prim p x y) r = (short x r.0, short y r.1)
  short _ r = tt

inner_short : (free slots : ℕ) → free ≤ 800 → slots ≤ 400 → (p : Place) → IsPlace free slots p → IsShortPlace p
inner_short free slots f s (Slot j) r = omega (arith, r)
inner_short free slots f s (Free j) r = omega (arith, r)
inner_short free slots f s _ r = tt

outer_short : (slots : ℕ) → slots ≤ 400 → (p : Place) → IsOuterPlace slots p → IsShortPlace p
outer_short slots s (Slot j) r = omega (arith, r)
outer_short slots s _ r = absurd r

all_short : (t fs : List IrFunc) → AllByRecursion (IsProper t) t → AllByRecursion (IsProper t) fs → AllShort fs
all_short t [] proper a = tt
all_short t (f ∷ fs) proper a = (
  short t (IsPlace f.free f.slots) f.slots a.0.slots proper (inner_short f.free f.slots a.0.free a.0.slots) f.body
      a.0.body,
  a.0.slots,
  a.0.depth,
  all_short t fs proper a.1,
)

-- what the program needs of converted code
pub record IsShortCode (t : List IrFunc) (o : IrFunc) : Type 0 where
  pub functions : AllShort t
  pub body : IsShort o.body
  pub slots : o.slots ≤ 400
  pub few : length t ≤ 20000

pub converted_short : (t : List IrFunc) (o : IrFunc) → IsConverted t o → IsShortCode t o
converted_short t o is =
    record {
      functions = all_short t t is.functions is.functions;
      body = short t (IsOuterPlace o.slots) o.slots is.slots
          is.functions (outer_short o.slots is.slots) o.body is.body;
      slots = is.slots;
      few = is.few;
    }

pub shallow : (e : Ir) → ifs e ≤ ir_depth e
shallow (i.app f a) = omega (arith, shallow f, shallow a)
shallow (i.bind s d e) = omega (arith, shallow d, shallow e)
shallow (i.cond c a b) = omega (arith, shallow c, shallow a, shallow b)
shallow (i.pair a b) = omega (arith, shallow a, shallow b)
shallow (i.fst e) = omega (arith, shallow e)
shallow (i.snd e) = omega (arith, shallow e)
shallow (i.prim p a b) = omega (arith, shallow a, shallow b)
shallow _ = omega arith

-- each node has few bytes
pub narrow : (e : Ir) → Near e → breadth e ≤ 55200 * ir_size e
narrow (i.closure j ps) r = omega (arith, r.1)
narrow (i.app f a) r = omega (arith, narrow f r.0, narrow a r.1)
narrow (i.bind s d e) r = omega (arith, narrow d r.0, narrow e r.1)
narrow (i.cond c a b) r = omega (arith, narrow c r.0, narrow a r.1, narrow b r.2)
narrow (i.pair a b) r = omega (arith, narrow a r.0, narrow b r.1)
narrow (i.fst e) r = omega (arith, narrow e r)
narrow (i.snd e) r = omega (arith, narrow e r)
narrow (i.prim p a b) r = omega (arith, narrow a r.0, narrow b r.1)
narrow _ r = omega arith

-- the places of a function, and those outside all functions
inner_below : (free slots n : ℕ) → 2 + slots ≤ n → (p : Place) → IsPlace free slots p → place_local p 2 < n
inner_below free slots n le (Slot s) r = omega (arith, r)
inner_below free slots n le _ r = omega arith

inner_near : (free slots : ℕ) → free ≤ 800 → (p : Place) → IsPlace free slots p → IsNear p
inner_near free slots le (Free j) r = omega (arith, r)
inner_near free slots le _ r = tt

pub outer_below : (slots n : ℕ) → slots ≤ n → (p : Place) → IsOuterPlace slots p → place_local p 0 < n
outer_below slots n le (Slot s) r = omega (arith, r)
outer_below slots n le _ r = absurd r

pub outer_near : (slots : ℕ) (p : Place) → IsOuterPlace slots p → IsNear p
outer_near slots (Slot s) r = tt
outer_near slots _ r = absurd r

module _ (t : List IrFunc) (few : length t ≤ 100000) (proper : AllByRecursion (IsProper t) t) where
  pub all_proper : (fs : List IrFunc) → AllByRecursion (IsProper t) fs → AllProper fs
  all_proper fs a = each (IsProper t) Proper (λ f p. record {
    sees = λ n le. seen t (IsPlace f.free f.slots) f.slots 2 n (inner_below f.free f.slots n le) f.body p.body;
    needs = needs t (IsPlace f.free f.slots) f.slots f.body p.body;
  }) fs a

  pub all_modest : (fs : List IrFunc) → AllByRecursion (IsProper t) fs → AllByRecursion (IsModest 400 20000) fs
  all_modest fs a =
      each (IsProper t) (IsModest 400 20000)
      (λ f p. record { choices = omega (arith, shallow f.body, p.depth); lets = omega (arith, p.slots) }) fs a

  pub all_spelled : (fs : List IrFunc) → AllByRecursion (IsProper t) fs → AllByRecursion CanSpell fs
  all_spelled fs a = each (IsProper t) CanSpell (λ f p. record {
    fine = fine t (IsPlace f.free f.slots) f.slots few f.body p.body;
    near = near t (IsPlace f.free f.slots) f.slots proper (inner_near f.free f.slots p.free) f.body p.body;
    sees = λ n le. seen t (IsPlace f.free f.slots) f.slots 2 n (inner_below f.free f.slots n le) f.body p.body;
    needs = needs t (IsPlace f.free f.slots) f.slots f.body p.body;
    few = omega (arith, p.slots);
  }) fs a

  pub all_narrow : (fs : List IrFunc) → AllByRecursion (IsProper t) fs
      → total fs ≤ 55200 * total_size fs + 60 * length fs
  all_narrow [] a = omega arith
  all_narrow (f ∷ fs) a =
      omega (
        arith,
        narrow f.body (near t (IsPlace f.free f.slots) f.slots proper (inner_near f.free f.slots a.0.free) f.body
            a.0.body),
        all_narrow fs a.1,
      )

  one_sound : (fs : List IrFunc) → AllByRecursion (IsProper t) fs → (k : ℕ) (f : IrFunc) → slice_get fs k ≡ Some f
      → IsProper t f
  one_sound [] a k f e = absurd (cc)
  one_sound (g ∷ fs) a zero f e = let q : g ≡ f = (cc) in Rattle.std.proofs.Common.subst (IsProper t) q a.0
  one_sound (g ∷ fs) a (suc k) f e = one_sound fs a.1 k f e

  -- functions that are all in range
  pub all_sound : Sound t
  all_sound k f e =
      let body = (one_sound t proper k f e).body in (
        omega (arith, slice_get_within t k f e),
        fine t (IsPlace f.free f.slots) f.slots few f.body body,
        needs t (IsPlace f.free f.slots) f.slots f.body body,
      )

module _ (t : List IrFunc) (o : IrFunc) (is : IsConverted t o) where
  many : length t ≤ 100000
  many = let n = is.few in omega arith

  abbrev Q : Place → Type 0
  Q = IsOuterPlace o.slots

  pub sound : Sound t
  sound = all_sound t many is.functions

  pub body_fine : Fine o.body
  body_fine = fine t Q o.slots many o.body is.body

  pub body_needs : slots_needed o.body ≤ o.slots
  body_needs = needs t Q o.slots o.body is.body

  body_near : Near o.body
  body_near = near t Q o.slots is.functions (outer_near o.slots) o.body is.body

  body_sees : (n : ℕ) → o.slots ≤ n → Sees o.body 0 n
  body_sees n le = seen t Q o.slots 0 n (outer_below o.slots n le) o.body is.body

  pub converted_valid : (v : Version) (k : KernelType) → IsValid (module_with v t o.slots o.body k)
  converted_valid v k =
      module_valid v t o.slots o.body k (all_proper t many is.functions t is.functions) body_sees body_needs
      (let n = is.few in omega arith)

  pub converted_profile : (v : Version) (k : KernelType) → IsWithinProfile (module_with v t o.slots o.body k)
  converted_profile v k =
      module_within_profile v t o.slots o.body k is.few (all_modest t many is.functions t is.functions)
      (let s = is.slots in omega arith) (let d = is.depth in omega (arith, shallow o.body))

  pub converted_spelled : (v : Version) (k : KernelType) → kernel_nodes k ≤ 10000
      → SpelledWithin 2_000_000_000 (wasm_module (module_with v t o.slots o.body k))
  converted_spelled v k nodes =
      let w = narrow o.body body_near in
      let ws = all_narrow t many is.functions t is.functions in
      let n = is.few in
      let z = is.size in
      let s = is.slots in
      module_spelled v t o.slots o.body k n (all_spelled t many is.functions t is.functions) (omega arith) body_fine
      body_near body_sees body_needs (omega arith) nodes
