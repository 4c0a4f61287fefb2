-- Kept functions are linked to the records that their modules were loaded from.
use Rattle.std.proofs.Common.{◌≡◌, ℕ, zero, suc, List, [], ◌∷◌, Option, Some, None, Result, Ok, Err, map, refl}
use Rattle.std.proofs.Common.{sym, subst, slice_get}
use Rattle.std.specs.Prelude.{IsSome, get_or}
use Rattle.std.specs.List.{All}
use Rattle.std.proofs.lemmas.List.Elements.{All-push}
use Rattle.std.proofs.lemmas.Option.{slice_get_within, get_or_from_slice_get}
use Rattle.mw_term.specs.Terms.{Expression, KernelType}
use Rattle.mw_term.specs.Typable.{HasKernelType}
use Rattle.mw_meaning.specs.declared.mode.Mode.{Mode}
use Rattle.mw_meaning.specs.Simplification.{in_mode}
use Rattle.mw_meaning.specs.StandingFor.{StandsFor}
use Rattle.mw_meaning.proofs.SimplificationTyping.{keeps_kernel_type}
use Rattle.mw_wasm.specs.declared.modules.Module.{Module}
use Rattle.mw_wasm.specs.Views.{module_of}
use Rattle.mw_key.specs.CanonicalText.{IsTextOf, canonical_text}
use Rattle.mw_key.specs.declared.version.Version.TheVariants.{Two}
use Rattle.mw_store.specs.Loads.{Loaded as LoadedRecord, LoadState}
use Rattle.mw_cache.specs.declared.got.Got.{Got}
use Rattle.mw_cache.specs.declared.got.Got.TheVariants.{Loaded, Stored, Own}
use Rattle.mw_cache.specs.Gots.{CacheState, text_in, text_at, IsRight, HasWasm}
use Rattle.mw_machine.specs.declared.kernels.Ran.{Ran}
use Rattle.mw_machine.specs.declared.kernels.Ran.TheVariants as ran
use Rattle.mw_machine.specs.declared.kernels.KernelFault.{KernelFault}
use Rattle.mw_cached.specs.FunctionStates.{Kept, run_of_kept, with_function, MeansItsCode}
use Rattle.mw_cached.proofs.KeptLemmas.{kept_run}
use Rattle.mw_cached.specs.Links.{CachedState, loaded_from, IsLinkedTo, IsLinkedFrom, IsLinked, IsRightIn}

-- the text of a record at its place
pub text_here : (load : LoadState) (at : ℕ) (l : LoadedRecord) → slice_get load.records at ≡ Some l
    → text_at load at ≡ l.text
text_here load at l here = texts load.records at here
  where
    texts : (ls : List LoadedRecord) (at : ℕ) → slice_get ls at ≡ Some l → get_or (map (λ l. l.text) ls) at [] ≡ l.text
    texts [] at here = absurd (cc)
    texts (x ∷ ls) zero here = cc
    texts (x ∷ ls) (suc at) here = texts ls at here

-- the module stands for each code that has the text, where the text is right
abbrev StandsAsGot : CacheState → Got → Module → Type 0
StandsAsGot cache got wasm = (c : Expression) (k : KernelType) → IsTextOf (text_in cache got) Two c k
    → IsRight cache.load (text_in cache got) → StandsFor (module_of wasm) c k

-- so it stands for the code of what is run
right_stands : (cache given : CacheState) (got : Got) (c : Expression) (k : KernelType) (wasm : Module) → given ≡ cache
    → IsTextOf (text_in cache got) Two c k → StandsAsGot given got wasm
    → IsRight cache.load (canonical_text Two c k) → StandsFor (module_of wasm) c k
right_stands cache given got c k wasm same text stands right =
    subst (λ x. StandsAsGot x got wasm) same stands c k text (subst (λ t. IsRight cache.load t) (sym text.text) right)

-- a module that was loaded is linked to its record
pub got_linked : (cache : CacheState) (got : Got) (c : Expression) (k : KernelType) (wasm : Module)
    → IsTextOf (text_in cache got) Two c k → HasKernelType c k → HasWasm cache got wasm
    → (IsRight cache.load (canonical_text Two c k) → StandsFor (module_of wasm) c k)
    → IsLinkedFrom cache.load c k wasm (loaded_from got)
got_linked cache (Loaded n) c k wasm text typed is stands at same =
    let here : n ≡ at = cc in
    subst (IsLinkedTo cache.load c k wasm) here record {
      loaded = is.0;
      here = is.1;
      is_text = subst (λ t. IsTextOf t Two c k) (text_here cache.load n is.0 is.1) text;
      typed = typed;
      spelled = is.2;
      stands = stands;
    }
got_linked cache (Stored r) c k wasm text typed is stands at same = absurd (cc)
got_linked cache (Own n) c k wasm text typed is stands at same = absurd (cc)

-- as functions over the cache see it
pub run_linked : (own old : CachedState) (given : CacheState) (got : Got) (c : Expression) (k : KernelType)
    (wasm : Module) (from : Option ℕ) → own ≡ old → given ≡ own.cache.cache → from ≡ loaded_from got → HasKernelType c k
    → IsTextOf (text_in old.cache.cache got) Two (in_mode old.functions.mode c) k → HasWasm given got wasm
    → StandsAsGot given got wasm
    → IsLinkedFrom own.cache.cache.load (in_mode own.functions.mode c) k wasm from
run_linked own old given got c k wasm from same cache is typed text has stands =
    let cache' = own.cache.cache in
    let mode = own.functions.mode in
    let here = subst (λ (s : CachedState). IsTextOf (text_in s.cache.cache got) Two (in_mode s.functions.mode c) k)
    (sym same) text in
    subst (IsLinkedFrom cache'.load (in_mode mode c) k wasm) (sym is)
    (got_linked cache' got (in_mode mode c) k wasm here (keeps_kernel_type mode c k typed)
    (subst (λ x. HasWasm x got wasm) cache has)
    (right_stands cache' given got (in_mode mode c) k wasm cache here stands))

-- after a run each kept function is linked
pub all_linked : (load : LoadState) (mode : Mode) (answer : Result Ran KernelFault) (f : Kept) (fs after : List Kept)
    → after ≡ with_function answer f fs → IsLinked load mode f → All (IsLinked load mode) fs
    → All (IsLinked load mode) after
all_linked load mode (Ok (ran.Function which left)) f fs after is link all =
    subst (All (IsLinked load mode)) (sym is) (All-push (IsLinked load mode) fs f all link)
all_linked load mode (Ok (ran.Value v left)) f fs after is link all = subst (All (IsLinked load mode)) (sym is) all
all_linked load mode (Ok (ran.Trap t)) f fs after is link all = subst (All (IsLinked load mode)) (sym is) all
all_linked load mode (Ok (ran.Bound l)) f fs after is link all = subst (All (IsLinked load mode)) (sym is) all
all_linked load mode (Err fault) f fs after is link all = subst (All (IsLinked load mode)) (sym is) all

-- the kept function of a run, which is linked
pub record IsLinkedRun (own : CachedState) (which : ℕ) (r : Expression × KernelType) : Type 0 where
  pub function : Kept
  pub here : slice_get own.functions.functions which ≡ Some function
  pub is : run_of_kept function ≡ r
  pub link : IsLinked own.cache.cache.load own.functions.mode function

pub linked_run : (own old : CachedState) (which : ℕ) (r : Expression × KernelType) → own ≡ old
    → All (IsLinked own.cache.cache.load own.functions.mode) own.functions.functions
    → slice_get (map run_of_kept old.functions.functions) which ≡ Some r → IsLinkedRun own which r
linked_run own old which r same all there =
    let run = kept_run own.functions.functions which r
    (subst (λ (s : CachedState). slice_get (map run_of_kept s.functions.functions) which ≡ Some r) (sym same) there) in
    record {
      function = run.function;
      here = run.here;
      is = run.is;
      link = subst (IsLinked own.cache.cache.load own.functions.mode)
          (get_or_from_slice_get own.functions.functions which run.function run.function run.here)
          (all which run.function (slice_get_within own.functions.functions which run.function run.here));
    }

-- a kept function means its code where the record is right
pub linked_stands : (load : LoadState) (c : Expression) (k : KernelType) (wasm : Module) (loaded : Option ℕ)
    → IsLinkedFrom load c k wasm loaded → IsRight load (canonical_text Two c k) → IsSome loaded
    → StandsFor (module_of wasm) c k
linked_stands load c k wasm None link right some = absurd (cc)
linked_stands load c k wasm (Some n) link right some = (link n refl).stands right

pub linked_means : (load : LoadState) (mode : Mode) (f : Kept) (r : Expression × KernelType) → run_of_kept f ≡ r
    → IsLinked load mode f → IsRightIn load mode r.0 r.1 → MeansItsCode mode f
linked_means load mode f r is link right =
    linked_stands load (in_mode mode (run_of_kept f).0) (run_of_kept f).1 f.wasm f.loaded link
    (subst (λ (r : Expression × KernelType). IsRightIn load mode r.0 r.1) (sym is) right)
