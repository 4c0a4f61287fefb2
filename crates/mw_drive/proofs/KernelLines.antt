-- What is shown of kernels, one kernel on.
use Rattle.std.proofs.Common.{◌≡◌, ◌<◌, ◌+◌, ◌^◌, ℕ, List, [], ◌∷◌, ◌++◌, map, take, drop, length, Some, refl, sym, ap, ◌∙◌}
use Rattle.std.proofs.Common.{subst, arith}
use Rattle.std.specs.Prelude.{slice_get}
use Rattle.std.specs.List.{AllByRecursion, flat_map}
use Rattle.std.proofs.lemmas.Grind.{flat_map-append}
use Rattle.std.proofs.lemmas.List.{append-nil, append_assoc, map-append, take-append-drop}
use Rattle.sha2.specs.Sha256.{sha256}
use Rattle.mw_meaning.specs.declared.mode.Mode.{Mode}
use Rattle.mw_meaning.specs.declared.mode.Mode.TheVariants.{Plain}
use Rattle.mw_meaning.specs.Simplification.{in_mode}
use Rattle.mw_outside.specs.Count.{GrowsByFront}
use Rattle.mw_term.specs.Terms.{expression_of, kernel_type_of}
use Rattle.mw_key.specs.declared.version.Version.TheVariants.{Two}
use Rattle.mw_compile.specs.Emission.{emission, IsEmissionOf}
use Rattle.mw_compile.proofs.EmittedEntries.{emission_of, one_emission}
use Rattle.mw_cache.specs.Gots.{CacheState, text_in, HasBytes}
use Rattle.mw_cache.specs.declared.got.Got.{Got}
use Rattle.mw_cache.specs.declared.got.Got.TheVariants.{Loaded, Stored, Own}
use Rattle.mw_store.specs.Loads.{Loaded as LoadedRecord}
use Rattle.std.specs.Option.{option_map}
use Rattle.std.proofs.lemmas.Option.{slice_get-map, get_or_from_slice_get}
use Rattle.mw_drive.specs.PrintedKernels.{bytes_in}
use Rattle.mw_console.specs.Texts.{kernel_text}
use Rattle.mw_drive.specs.declared.items.Built.{Built}
use Rattle.mw_link.specs.Linked.{Kernel}
use Rattle.mw_drive.specs.ProgramRuns.{kernel_of, kernels_of, IsBuilt, HasModuleHere}
use Rattle.mw_drive.specs.Works.{kernel_lines, module_bytes}
use Rattle.mw_drive.proofs.Fronts.{grows_front, grows_after}
use Rattle.mw_drive.proofs.ListFronts.{take_next}

kernels_next : (built : List Built) (at : ℕ) (b : Built) → slice_get built at ≡ Some b
    → kernels_of (take (at + 1) built) ≡ kernels_of (take at built) ++ kernel_of b ∷ []
kernels_next built at b here = ap kernels_of (take_next built at b here) ∙ map-append kernel_of (take at built)
    (b ∷ [])

-- the modules of kernels that gave code are of the cache
pub modules_here : (mode : Mode) (cache : CacheState) (built : List Built) → AllByRecursion (IsBuilt mode cache) built
    → AllByRecursion (HasModuleHere cache) built
modules_here mode cache [] h = tt
modules_here mode cache (b ∷ built) h = (h.0.here, modules_here mode cache built h.1)

module _ (mode : Mode) (cache : CacheState) (b : Built) (h : IsBuilt mode cache b) where
  -- the bytes of its module are the emission of what is run of its code
  emitted_bytes : (bytes : List ℕ) → IsEmissionOf bytes (text_in cache b.got.now)
      → bytes ≡ emission Two (in_mode mode (expression_of b.code.now)) (kernel_type_of b.kind.now)
  emitted_bytes bytes is =
      one_emission (text_in cache b.got.now) bytes _ is record
      { version = Two; code = _; kind = _; is_text = h.text; is_emission = refl }

  pub its_lines : (key bytes : List ℕ) → key ≡ sha256 (text_in cache b.got.now) → IsEmissionOf bytes
      (text_in cache b.got.now)
      → kernel_text b.name.now (kernel_type_of b.kind.now) key bytes ≡ kernel_lines mode (kernel_of b)
  its_lines key bytes digest is = rw (digest, h.text.text, emitted_bytes bytes is) refl

-- how many bytes its module has, as it was built
module _ (cache : CacheState) (b : Built) (h : IsBuilt Plain cache b) (bytes : List ℕ)
    (is : IsEmissionOf bytes (text_in cache b.got.now)) where
  pub its_size : length bytes ≡ module_bytes (kernel_of b ∷ [])
  its_size = let same = ap length (emitted_bytes Plain cache b h bytes is) in omega (arith, same)

  pub size_small : length bytes < 2 ^ 32
  size_small =
      let q = h.text.kernel in
      let e =
      emission_of Two (expression_of b.code.now) (kernel_type_of b.kind.now) q.closed q.literals q.limits q.nodes in
      let same = ap length (emitted_bytes Plain cache b h bytes is) in
      omega (arith, same, e.short)

bytes_with : (ks : List Kernel) (k : Kernel) → module_bytes (ks ++ k ∷ []) ≡ module_bytes ks + module_bytes (k ∷ [])
bytes_with [] k = omega arith
bytes_with (j ∷ ks) k = let more = bytes_with ks k in rw more (omega arith)

-- the bytes of one module more
pub bytes_next : (built : List Built) (at total n : ℕ) (b : Built) → slice_get built at ≡ Some b
    → n ≡ module_bytes (kernel_of b ∷ [])
    → total ≡ module_bytes (kernels_of (take at built)) → total + n ≡ module_bytes (kernels_of (take (at + 1) built))
bytes_next built at total n b here size so_far =
    rw (kernels_next built at b here, bytes_with (kernels_of (take at built)) (kernel_of b), so_far, size) refl

-- the lines of what is shown of each kernel
module _ {X : Type 0} (view : Built → X) (line : X → List ℕ) where
  abbrev lines : List Built → List ℕ
  lines built = flat_map line (map view built)

  -- the lines of one kernel more
  lines_next : (built : List Built) (at : ℕ) (b : Built) → slice_get built at ≡ Some b
      → lines (take (at + 1) built) ≡ lines (take at built) ++ line (view b)
  lines_next built at b here =
      ap lines (take_next built at b here)
      ∙ ap (flat_map line) (map-append view (take at built) (b ∷ []))
      ∙ (flat_map-append line (map view (take at built)) (view b ∷ [])
      ∙ ap (λ t. lines (take at built) ++ t) (append-nil (line (view b))))

  pub lines_written : (built : List Built) (at : ℕ) (b : Built) (old mid new : List ℕ) → slice_get built at ≡ Some b
      → mid ≡ old ++ lines (take at built) → new ≡ mid ++ line (view b)
      → new ≡ old ++ lines (take (at + 1) built)
  lines_written built at b old mid new here before more =
      more
      ∙ (ap (λ t. t ++ line (view b)) before
      ∙ (append_assoc old (lines (take at built)) (line (view b))
      ∙ ap (λ t. old ++ t) (sym (lines_next built at b here))))

  -- a front of one kernel's lines is a front of all
  pub lines_front : (built : List Built) (at : ℕ) (b : Built) (old mid new : List ℕ) → slice_get built at ≡ Some b
      → mid ≡ old ++ lines (take at built) → GrowsByFront mid new (line (view b))
      → GrowsByFront old new (lines built)
  lines_front built at b old mid new here before h =
      let so_far = lines (take at built) in
      let next = take (at + 1) built in
      let rest = drop (at + 1) built in
      let front : GrowsByFront old new (lines next) =
      subst (GrowsByFront old new) (sym (lines_next built at b here))
      (grows_after old mid new so_far (line (view b)) before h) in
      let all : lines next ++ lines rest ≡ lines built =
      sym (flat_map-append line (map view next) (map view rest))
      ∙ (ap (flat_map line) (sym (map-append view next rest))
      ∙ ap lines (take-append-drop (at + 1) built)) in
      subst (GrowsByFront old new) all (grows_front old new (lines next) (lines rest) front)

-- what was asked for as bytes are those of the module
pub bytes_are : (cache : CacheState) (got : Got) (bytes : List ℕ) → HasBytes cache got bytes
    → bytes ≡ bytes_in cache got
bytes_are cache (Loaded at) bytes h =
    h.2 ∙ sym (get_or_from_slice_get (map (λ (l : LoadedRecord). l.bytes) cache.load.records) at h.0.bytes []
    (slice_get-map (λ (l : LoadedRecord). l.bytes) cache.load.records at
    ∙ ap (λ o. option_map (λ (l : LoadedRecord). l.bytes) o) h.1))
bytes_are cache (Stored r) bytes h = h
bytes_are cache (Own n) bytes h = h
