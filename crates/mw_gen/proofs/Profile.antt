-- An emitted module is within the profile.
use Rattle.std.proofs.Common.{◌≡◌, ℕ, zero, suc, ◌+◌, ◌≤◌, Bool, true, false, List, [], ◌∷◌, length, refl, arith, map}
use Rattle.std.proofs.Common.{if◌then◌else◌}
use Rattle.std.specs.Prelude.{max}
use Rattle.std.specs.List.{AllByRecursion}
use Rattle.std.proofs.lemmas.List.{length-replicate}
use Rattle.mw_term.specs.declared.term.Primitive.{Primitive as Prim}
use Rattle.mw_term.specs.declared.term.Primitive.TheVariants.{Add}
use Rattle.mw_term.specs.Terms.{KernelType, GroundType, base, of_ground, to, product}
use Rattle.mw_wasm.specs.declared.values.ValType.TheVariants.{I64}
use Rattle.mw_wasm.specs.Syntax.{Code, end, next, Function, Exporting}
use Rattle.mw_wasm.specs.Profile.{depth, IsShallow, IsPrintable, IsWithinProfile}
use Rattle.mw_ir.specs.declared.place.Place.TheVariants.{Argument}
use Rattle.mw_ir.specs.Ir as i
use Rattle.mw_ir.specs.declared.place.Place.{Place}
use Rattle.mw_ir.specs.Ir.{Ir, IrFunc}
use Rattle.mw_meaning.specs.Shapes.{leaf_count}
use Rattle.mw_key.specs.declared.version.Version.{Version}
use Rattle.mw_gen.specs.Generate.{expression_code, tail_code, is_own, place_code, stores_code, prim_code}
use Rattle.mw_gen.specs.Generate.{application_code, spare_count, is_loop, body_wants_spare, body_code, function_for}
use Rattle.mw_gen.specs.Generate.{call_function, call_of, argument_of, wants_spare, elements_of}
use Rattle.mw_gen.specs.Generate.{more_functions, module_with}
use Rattle.mw_gen.proofs.Modules.{few_results}
use Rattle.mw_conv.proofs.Ranges.{both_all}

-- the choices that stand one in another
abbrev pub ifs : Ir → ℕ
ifs (i.app f a) = max (ifs f) (ifs a)
ifs (i.bind s d e) = max (ifs d) (ifs e)
ifs (i.cond c y z) = max (ifs c) (suc (max (ifs y) (ifs z)))
ifs (i.pair y z) = max (ifs y) (ifs z)
ifs (i.fst e) = ifs e
ifs (i.snd e) = ifs e
ifs (i.prim p y z) = max (ifs y) (ifs z)
ifs _ = 0

place_depth : (p : Place) (b : ℕ) (rest : Code) → depth (place_code p b rest) ≤ depth rest
place_depth Argument b rest = omega arith
place_depth _ b rest = omega arith

stores_depth : (ps : List Place) (j b : ℕ) (rest : Code) → depth (stores_code ps j b rest) ≤ depth rest
stores_depth [] j b rest = omega arith
stores_depth (p ∷ ps) j b rest = omega (arith, place_depth p b, stores_depth ps (suc j) b rest)

prim_depth : (p : Prim) (rest : Code) → depth (prim_code p rest) ≤ depth rest
prim_depth Add rest = omega arith
prim_depth _ rest = omega arith

pub expression_depth : (e : Ir) (b t : ℕ) (rest : Code) (m : ℕ) → depth rest ≤ m → ifs e ≤ m
    → depth (expression_code e b t rest) ≤ m
expression_depth (i.num z) b t rest m h g = omega arith
expression_depth (i.truth z) b t rest m h g = omega arith
expression_depth (i.get p) b t rest m h g = omega (arith, place_depth p b rest)
expression_depth (i.closure k ps) b t rest m h g = omega (arith, stores_depth ps 1 b)
expression_depth (i.app f a) b t rest m h g =
    expression_depth f b t _ m (expression_depth a b t _ m (omega arith) (omega arith)) (omega arith)
expression_depth (i.bind s d e) b t rest m h g =
    expression_depth d b t _ m (let r = expression_depth e b t rest m h (omega arith) in omega arith) (omega arith)
expression_depth (i.cond c y z) b t rest zero h g = absurd (omega arith)
expression_depth (i.cond c y z) b t rest (suc m) h g =
    expression_depth c b t _ (suc m) (let p = expression_depth y b t end m (omega arith) (omega arith) in let q =
    expression_depth z b t end m (omega arith) (omega arith) in omega arith) (omega arith)
expression_depth (i.pair y z) b t rest m h g =
    expression_depth y b t _ m (expression_depth z b t _ m (omega arith) (omega arith)) (omega arith)
expression_depth (i.fst e) b t rest m h g = expression_depth e b t _ m (omega arith) g
expression_depth (i.snd e) b t rest m h g = expression_depth e b t _ m (omega arith) g
expression_depth (i.prim p y z) b t rest m h g =
    expression_depth y b t _ m (expression_depth z b t _ m (omega (arith, prim_depth p rest)) (omega arith))
    (omega arith)

pub tail_depth : (e : Ir) (b t d m : ℕ) → ifs e ≤ m → depth (tail_code e b t d) ≤ m
tail_depth (i.app f a) b t d m g = go (is_own f)
  where
    go : (c : Bool)
        → depth (if c then expression_code a b t
        (next (Rattle.mw_wasm.specs.Syntax.local_set 1) (next (Rattle.mw_wasm.specs.Syntax.br d) end)) else
        expression_code f b t (expression_code a b t (application_code t end))) ≤ m
    go true = expression_depth a b t _ m (omega arith) (omega arith)
    go false = expression_depth (i.app f a) b t end m (omega arith) g
tail_depth (i.bind s y e) b t d m g =
    expression_depth y b t _ m (let r = tail_depth e b t d m (omega arith) in omega arith) (omega arith)
tail_depth (i.cond c y z) b t d zero g = absurd (omega arith)
tail_depth (i.cond c y z) b t d (suc m) g =
    expression_depth c b t _ (suc m) (let p = tail_depth y b t (suc d) m (omega arith) in let q =
    tail_depth z b t (suc d) m (omega arith) in omega arith) (omega arith)
tail_depth e b t d m g = expression_depth e b t end m (omega arith) g

-- functions of at most m choices one in another and at most n lets
pub record IsModest (m n : ℕ) (f : IrFunc) : Type 0 where
  pub choices : ifs f.body ≤ m
  pub lets : f.slots ≤ n

pub temps_two : (c : Bool) → spare_count c ≤ 2
temps_two true = omega arith
temps_two false = omega arith

body_depth : (z : Bool) (e : Ir) (t m : ℕ) → ifs e ≤ m → depth (body_code z e t) ≤ suc m
body_depth false e t m h = expression_depth e 2 t end (suc m) (omega arith) (omega arith)
body_depth true e t m h = let r = tail_depth e 2 t 0 m h in omega arith

argument_ifs : (s : GroundType) (k : ℕ) → ifs (argument_of s k) ≡ 0
argument_ifs (base b) k = refl
argument_ifs (product s t) k = rw (argument_ifs s k, argument_ifs t (k + leaf_count s)) refl

pub call_depth : (s : GroundType) → depth (call_function s).body ≤ 500
call_depth s = let r = expression_depth (call_of s) 0 (0 + suc (leaf_count s))
    (next (Rattle.mw_wasm.specs.Syntax.local_get (suc (suc (suc (leaf_count s)))))
    (next (Rattle.mw_wasm.specs.Syntax.global_set 0) end)) 0 (omega arith) (omega (arith, argument_ifs s 1)) in
    omega arith

module _ (v : Version) where
  pub locals_few : (fs : List IrFunc) → AllByRecursion (IsModest 400 20000) fs
      → AllByRecursion (λ (f : Function). length f.locals ≤ 50_000) (map (function_for v) fs)
  locals_few [] h = tt
  locals_few (f ∷ fs) h = (
    let a = h.0.lets in
        omega (
          arith,
          a,
          length-replicate (f.slots + spare_count (body_wants_spare (is_loop v f.body) f.body)) I64,
          temps_two (body_wants_spare (is_loop v f.body) f.body),
        ),
    locals_few fs h.1,
  )

  pub all_shallow : (fs : List IrFunc) → AllByRecursion (IsModest 400 20000) fs
      → AllByRecursion (λ (f : Function). IsShallow f.body) (map (function_for v) fs)
  all_shallow [] h = tt
  all_shallow (f ∷ fs) h = (
    let a = h.0.choices in omega (arith, body_depth (is_loop v f.body) f.body (2 + f.slots) 400 a),
    all_shallow fs h.1,
  )

pub module_within_profile : (v : Version) (t : List IrFunc) (slots : ℕ) (body : Ir) (k : KernelType) → length t ≤ 20000
    → AllByRecursion (IsModest 400 20000) t → slots ≤ 20000 → ifs body ≤ 400
    → IsWithinProfile (module_with v t slots body k)
module_within_profile v t slots body k many modest few flat = record {
  type_results = (omega arith, (omega arith, few_results k));
  table_elements = omega arith;
  memory_pages = omega arith;
  further_locals = both_all _ (map (function_for v) t) _ (locals_few v t modest) (
    omega (arith, length-replicate (slots + spare_count (wants_spare body)) I64, temps_two (wants_spare body)),
    call_few k,
  );
  export_names = names k;
  function_depth = both_all _ (map (function_for v) t) _ (all_shallow v t modest)
      (omega (arith, expression_depth body 0 (0 + slots) end 400 (omega arith) (omega arith)), call_shallow k);
  global_depth = (omega arith, tt);
  element_depth = elements (length t);
  segment_depth = tt;
}
  where
    call_few : (k : KernelType) → AllByRecursion (λ (f : Function). length f.locals ≤ 50_000) (more_functions k)
    call_few (of_ground g) = tt
    call_few (to s b) = (omega arith, tt)

    call_shallow : (k : KernelType) → AllByRecursion (λ (f : Function). IsShallow f.body) (more_functions k)
    call_shallow (of_ground g) = tt
    call_shallow (to s b) = (call_depth s, tt)

    names : (k : KernelType) → AllByRecursion (λ (e : Exporting). AllByRecursion IsPrintable e.name)
        (module_with v t slots body k).exports
    names (of_ground g) = omega arith
    names (to s b) = omega arith

    elements : (n : ℕ) → AllByRecursion (λ e. IsShallow e.offset) (elements_of n)
    elements zero = tt
    elements (suc n) = (omega arith, tt)
