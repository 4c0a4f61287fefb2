-- The instance of a valid module is typed, and invocations of it are never lost.
use Rattle.std.proofs.Common.{◌≡◌, ℕ, zero, suc, ◌+◌, ◌<◌, List, [], ◌∷◌, ◌++◌, take, drop, length, refl, subst, Option}
use Rattle.std.proofs.Common.{Some, None, Result, Ok}
use Rattle.std.specs.Prelude.{map, replicate}
use Rattle.std.specs.List.{AllByRecursion}
use Rattle.mw_wasm.specs.declared.values.ValType.{ValType}
use Rattle.mw_wasm.specs.declared.values.ValType.TheVariants.{I32, I64}
use Rattle.mw_wasm.specs.declared.modules.Limits.{Limits}
use Rattle.mw_wasm.specs.NumericTypes.{type_of_value}
use Rattle.mw_wasm.specs.Syntax.{Code, const_i32, const_i64, end, next, Global, ElementSegment, PureModule}
use Rattle.mw_wasm.specs.Store.{Store}
use Rattle.mw_wasm.specs.Execution.{End, ended, trapped, spent, lost}
use Rattle.mw_wasm.specs.Instances.{Unfit, unless, first_value, offset_of, first_table, with_element, with_elements}
use Rattle.mw_wasm.specs.Instances.{element, segment, invoked}
use Rattle.mw_wasm.specs.Validity.{IsValid, IsValidElement, IsConstantOf}
use Rattle.mw_wasm.specs.StateTypes.{IsElementOf, StoreIsTyped}
use Rattle.mw_wasm.specs.Soundness.{EndIsTyped, InstancesAreTyped, Invocation, IsInvocationOf, Onward, NeverLost}
use Rattle.mw_wasm.specs.Soundness.{ValidModulesAreNeverLost}
use Rattle.mw_wasm.proofs.Soundness.{invocations_are_sound}

-- a global begins with a value of its type
first_typed : (g : Global) → IsConstantOf g.kind g.init → type_of_value (first_value g) ≡ g.kind
first_typed g h = at_code g.kind g.init h
  where
    at_code : (t : ValType) (c : Code) → IsConstantOf t c → type_of_value (first_value record g { kind = t; init = c })
        ≡ t
    at_code I32 (next (const_i32 n) end) h = refl
    at_code I64 (next (const_i64 n) end) h = refl
    at_code I32 c h = absurd h
    at_code I64 c h = absurd h

globals_typed : (gs : List Global) → AllByRecursion (λ (g : Global). IsConstantOf g.kind g.init) gs
    → map type_of_value (map first_value gs) ≡ map (λ (g : Global). g.kind) gs
globals_typed [] h = refl
globals_typed (g ∷ gs) h = rw (first_typed g h.0, globals_typed gs h.1) refl

module _ (m : PureModule) where
  abbrev AreElements : List (Option ℕ) → Type 0
  AreElements xs = AllByRecursion (IsElementOf m) xs

  none_typed : (n : ℕ) → AreElements (replicate n None)
  none_typed zero = tt
  none_typed (suc n) = (tt, none_typed n)

  first_table_typed : (o : Option Limits) → AreElements (first_table o)
  first_table_typed None = tt
  first_table_typed (Some limits) = none_typed limits.min

  joined : (xs ys : List (Option ℕ)) → AreElements xs → AreElements ys → AreElements (xs ++ ys)
  joined [] ys h k = k
  joined (x ∷ xs) ys h k = (h.0, joined xs ys h.1 k)

  taken : (n : ℕ) (xs : List (Option ℕ)) → AreElements xs → AreElements (take n xs)
  taken zero xs h = tt
  taken (suc n) [] h = tt
  taken (suc n) (x ∷ xs) h = (h.0, taken n xs h.1)

  dropped : (n : ℕ) (xs : List (Option ℕ)) → AreElements xs → AreElements (drop n xs)
  dropped zero xs h = h
  dropped (suc n) [] h = tt
  dropped (suc n) (x ∷ xs) h = dropped n xs h.1

  functions : (fs : List ℕ) → AllByRecursion (λ f. f < length m.funcs) fs → AreElements (map (λ f. Some f) fs)
  functions [] h = tt
  functions (f ∷ fs) h = (h.0, functions fs h.1)

  element_typed : (table : List (Option ℕ)) (e : ElementSegment) → AreElements table → IsValidElement m e
      → AreElements (with_element table e)
  element_typed table e h k =
      let before = take (offset_of e.offset) table in
      let written = map (λ f. Some f) e.funcs in
      joined (before ++ written) (drop (offset_of e.offset + length e.funcs) table)
      (joined before written (taken (offset_of e.offset) table h) (functions e.funcs k.2))
      (dropped (offset_of e.offset + length e.funcs) table h)

  elements_typed : (table : List (Option ℕ)) (es : List ElementSegment) → AreElements table
      → AllByRecursion (IsValidElement m) es → AreElements (with_elements table es)
  elements_typed table [] h k = h
  elements_typed table (e ∷ es) h k = elements_typed (with_element table e) es (element_typed table e h k.0) k.1

  one : (r : Result Store Unfit) (st is : Store) → r ≡ Ok st → r ≡ Ok is → st ≡ is
  one r st is e f = cc

  -- what is instantiated
  begins : (o p : Option ℕ) (st is : Store) → unless o element (unless p segment (Ok st)) ≡ Ok is → st ≡ is
  begins None None st is e = one (Ok st) st is refl e
  begins None (Some k) st is e = absurd (cc)
  begins (Some k) p st is e = absurd (cc)

pub instances_are_typed : InstancesAreTyped
instances_are_typed m valid st e = subst (λ st. StoreIsTyped m st) (begins m _ _ _ st e) record {
  globals = globals_typed m.globals valid.globals;
  table = elements_typed m (first_table m.table) m.elements (first_table_typed m m.table) valid.elements;
}

module _ (m : PureModule) (valid : IsValid m) where
  onward : (final : List ValType) (e : End) (P : Store → Type 0) → ((st : Store) → StoreIsTyped m st → P st)
      → EndIsTyped m final e → Onward e P
  onward final (ended st vs left) P h s = h st s.0
  onward final (trapped t st) P h s = h st s
  onward final spent P h s = tt
  onward final lost P h s = absurd s

  never_lost : (is : List Invocation) (st : Store) → StoreIsTyped m st → AllByRecursion (IsInvocationOf m) is
      → NeverLost m st is
  never_lost [] st s all = tt
  never_lost (i ∷ is) st s all =
      let h = all.0 in
      onward h.type.results (invoked m st i.function i.args i.units) (λ st. NeverLost m st is)
      (λ st s. never_lost is st s all.1)
      (invocations_are_sound m valid st s i.function i.args i.units h.body h.type h.is_function h.arguments)

pub valid_modules_are_never_lost : ValidModulesAreNeverLost
valid_modules_are_never_lost m valid st e is all = never_lost m valid is st (instances_are_typed m valid st e) all
