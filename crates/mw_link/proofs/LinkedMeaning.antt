-- On each store that the linked module's instance may have, each kernel's `init` and the calls after it answer as its
-- code.
use Rattle.std.proofs.Common.{◌≡◌, ℕ, suc, ◌+◌, List, [], ◌∷◌, length, Option, refl, sym, subst, arith, map}
use Rattle.std.specs.Prelude.{Result, Ok}
use Rattle.std.specs.List.{AllByRecursion}
use Rattle.mw_term.specs.Terms.{KernelType, of_ground, to}
use Rattle.mw_term.specs.Typable.{HasKernelType}
use Rattle.mw_wasm.specs.declared.values.Value.{Value}
use Rattle.mw_wasm.specs.declared.values.Value.TheVariants.{I32, I64}
use Rattle.mw_wasm.specs.declared.values.ValType.TheVariants as type
use Rattle.mw_wasm.specs.NumericTypes.{type_of_value}
use Rattle.mw_wasm.specs.Store.{Memory, Store}
use Rattle.mw_wasm.specs.Instances.{Unfit, instantiated, invoked}
use Rattle.mw_wasm.specs.StateTypes.{StoreIsTyped}
use Rattle.mw_wasm.specs.Soundness.{EndIsTyped}
use Rattle.mw_wasm.proofs.Soundness.{invocations_are_sound}
use Rattle.mw_wasm.proofs.InstanceTypes.{instances_are_typed}
use Rattle.mw_conv.specs.Convert.{funs, lets}
use Rattle.mw_key.specs.declared.version.Version.TheVariants.{Two}
use Rattle.mw_gen.specs.Keeping.{Keeps, store_at, table_of}
use Rattle.mw_gen.proofs.Instance.{no_memory, fits, written}
use Rattle.mw_gen.proofs.Invocations.{restart_says, call_says}
use Rattle.mw_gen.proofs.EmittedMeaning.{InitSays, run_answers, calls_after}
use Rattle.mw_wasm.specs.StoreShape.{HasShape}
use Rattle.mw_link.specs.Linked.{Kernel, calls, count, linked}
use Rattle.mw_link.specs.LinkLaw.{Reached, begun, gone, CallsMean, MeansKernel, LinkedMeansAll, MeansAll}
use Rattle.mw_link.proofs.LinkableKernels.{IsWhole, AreWhole, whole}
use Rattle.mw_wasm.proofs.StoreShape.{ended_fits, stores_keep_shape}
use Rattle.mw_link.proofs.Names.{names_differ, found}
use Rattle.mw_link.proofs.PartPlaces.{T, Placed, all_placed, placed_next, Here, placed_here, CallPlaced, carries, sound}
use Rattle.mw_link.proofs.PartPlaces.{body, body_fine, body_needs}
use Rattle.mw_link.proofs.Valid.{valid_whole}

-- a memory of 64 pages keeps no words, whatever its bytes are
empty_kept : (mem : Memory) → mem.pages ≡ 64 → Keeps [] mem
empty_kept mem e = record { pages = e; few = omega arith; word = λ k z e. absurd (cc); small = λ k z e. absurd (cc) }

one_i32 : (vs : List Value) → map type_of_value vs ≡ type.I32 ∷ [] → (top : ℕ) × (vs ≡ I32 top ∷ [])
one_i32 [] e = absurd (cc)
one_i32 (I32 n ∷ []) e = (n, refl)
one_i32 (I64 n ∷ []) e = absurd (let q : type.I64 ≡ type.I32 = (cc) in (cc))
one_i32 (v ∷ w ∷ vs) e = absurd (cc)

-- a store with one i32 and this table
store_is : (st : Store) (table : List (Option ℕ)) → st.table ≡ table → map type_of_value st.globals ≡ type.I32 ∷ []
    → (top : ℕ) × (st ≡ store_at table top st.memory)
store_is st table q e =
    let g = one_i32 st.globals e in (
      g.0,
      subst (λ t. st ≡ record { globals = I32 g.0 ∷ []; table = t; memory = st.memory }) q
          (subst (λ vs. st ≡ record { globals = vs; table = st.table; memory = st.memory }) g.1 refl),
    )

module _ (all : List Kernel) (are : AreWhole all) where
  pub instance_is : instantiated (linked all) ≡ Ok (store_at (table_of (T all)) 0 no_memory)
  instance_is = rw (fits (length (T all)), written (length (T all))) refl

  one_store : (r : Result Store Unfit) (st is : Store) → r ≡ Ok st → r ≡ Ok is → st ≡ is
  one_store r st is e f = cc

  -- each store that an instance may have
  reached_shape : (st : Store) → Reached (linked all) st → HasShape (linked all) (table_of (T all)) st
      × StoreIsTyped (linked all) st
  reached_shape st (begun e) = (
    subst (λ st. HasShape (linked all) (table_of (T all)) st) (one_store _ _ _ instance_is e)
        (record { table_is = refl; pages_are = refl }),
    instances_are_typed (linked all) (valid_whole all are) st
        e,
  )
  reached_shape after (gone {st} f args vs n left r e) =
      let h = reached_shape st r in
      let q = ended_fits (linked all) st after f args vs n left e in (
        stores_keep_shape (linked all) (table_of (T all)) st after f args vs n left h.0 e,
        (subst (λ E. EndIsTyped (linked all) q.type.results E) e
            (invocations_are_sound (linked all) (valid_whole all are) st h.1 f args n q.function q.type
            (record { is_function = q.is_function; is_type = q.is_type }) q.fits)).0,
      )

  -- a kernel on a store
  module _ (o x n e : ℕ) (p : Kernel) (is : IsWhole p) (here : Here all o x n e p) where
    init_does : (top : ℕ) (mem : Memory) → mem.pages ≡ 64 → (units : ℕ)
        → InitSays (T all) p.code o units (invoked (linked all) (store_at (table_of (T all)) top mem) n [] units)
    init_does top mem pages units =
        restart_says Two (T all) (linked all) (carries all) (sound all are) n (lets p.code)
        (body all are o x n e p is here) here.is_init refl units units top mem (body_fine all are o x n e p is here)
        (body_needs all are o x n e p is here) (empty_kept mem pages)

    means_at : (top : ℕ) (mem : Memory) → mem.pages ≡ 64 → HasKernelType p.code p.kind
        → MeansKernel (linked all) p (store_at (table_of (T all)) top mem)
    means_at top mem pages typed = record {
      init = n;
      is_init = found (linked all).exports e _ n (names_differ (count all) all are.differ) here.init_export;
      run = λ units. run_answers (T all) p.code o here.functions p.kind typed units _ (init_does top mem pages units);
      calls = go p.kind typed here.call;
    }
      where
        go : (k : KernelType) → HasKernelType p.code k → CallPlaced all x n e p k
            → CallsMean (linked all) p (store_at (table_of (T all)) top mem) k n
        go (of_ground g) typed c = tt
        go (to s r) typed c = (
          suc n,
          found (linked all).exports (suc e) _ (suc n) (names_differ (count all) all are.differ) c.2,
          λ units calls are_calls. calls_after (T all) p.code o here.functions (linked all) s r (suc n) typed
              (λ m h mem w ws len small me. call_says Two (T all) (linked all) (carries all) (sound all are) s x (suc n)
              c.0 c.1 m m h mem w ws len small me)
              units _ (init_does top mem pages units) calls are_calls,
        )

  means_from : (top : ℕ) (mem : Memory) → mem.pages ≡ 64 → (o x n e : ℕ) (ps : List Kernel)
      → AllByRecursion IsWhole ps → Placed all o x n e ps → AllByRecursion
      (λ (p : Kernel). HasKernelType p.code p.kind → MeansKernel (linked all) p (store_at (table_of (T all)) top mem))
      ps
  means_from top mem pages o x n e [] a h = tt
  means_from top mem pages o x n e (p ∷ ps) a h = (
    means_at o x n e p a.0 (placed_here all o x n e p ps h) top mem pages,
    means_from top mem pages (o + funs p.code)
        (x + calls p.kind) (suc (n + calls p.kind)) (suc (e + calls p.kind)) ps a.1 (placed_next all o x n e p ps h),
  )

pub means_all : (ps : List Kernel) → AreWhole ps → MeansAll (linked ps) ps
means_all all are = record {
  store = store_at (table_of (T all)) 0 no_memory;
  has_instance = instance_is all are;
  means = λ st r.
      let h = reached_shape all are st r in
      let s = store_is st (table_of (T all)) h.0.table_is h.1.globals in
      subst (λ st'. AllByRecursion (λ (p : Kernel). HasKernelType p.code p.kind → MeansKernel (linked all) p st') all)
      (sym s.1)
      (means_from all are s.0 st.memory h.0.pages_are 0 2 (count all) 0 all are.all (all_placed all));
}

pub linked_means_all : LinkedMeansAll
linked_means_all ps are fit = means_all ps (whole ps are fit)
