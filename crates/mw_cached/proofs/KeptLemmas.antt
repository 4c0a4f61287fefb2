-- The list of kept functions.
use Rattle.std.proofs.Common.{◌≡◌, ℕ, zero, suc, Bool, true, false, if◌then◌else◌, List, [], ◌∷◌, ◌++◌, Option, Some}
use Rattle.std.proofs.Common.{None, map, refl, sym, subst, ap, ◌∙◌, slice_get, slice_index_or}
use Rattle.std.specs.Prelude.{IsSome}
use Rattle.std.specs.List.{All}
use Rattle.std.proofs.lemmas.List.Elements.{All-push, All-head, All-tail}
use Rattle.mw_term.specs.Terms.{Expression, KernelType, expression_of, kernel_type_of}
use Rattle.mw_term.specs.declared.term.KType.{KType}
use Rattle.mw_term.specs.declared.term.Term.{Term}
use Rattle.mw_meaning.specs.declared.mode.Mode.{Mode}
use Rattle.mw_meaning.specs.Simplification.{in_mode}
use Rattle.mw_meaning.specs.StandingFor.{StandsFor}
use Rattle.mw_wasm.specs.Views.{module_of}
use Rattle.mw_kernel.specs.RunningStates.{RunningState}
use Rattle.mw_cached.specs.declared.function.Function.{Function}
use Rattle.mw_cached.specs.FunctionStates.{Kept, kept_as, run_of_kept, MeansItsCode}
use Rattle.mw_cached.specs.KeptFunctions.{IsKeptFor, IsKept, kept_of}

-- what holds of each item and of one that may be added holds of each after it
pub all_pushed : {X : Type 0} (P : X → Type 0) (b : Bool) (xs ys : List X) (x : X)
    → ys ≡ (if b then xs ++ x ∷ [] else xs) → All P xs → P x → All P ys
all_pushed P true xs ys x e all one = subst (All P) (sym e) (All-push P xs x all one)
all_pushed P false xs ys x e all one = subst (All P) (sym e) all

-- what contracts see of the function at a place
pub kept_of_item : (fs : List Function) (i : ℕ) (f : Function) (g : Kept)
    → slice_get (map (λ f. kept_of f) fs) i ≡ Some g → f ≡ slice_index_or fs i f → kept_of f ≡ g
kept_of_item [] i f g here is = absurd (cc)
kept_of_item (x ∷ fs) zero f g here is = cc
kept_of_item (x ∷ fs) (suc i) f g here is = kept_of_item fs i f g here is

-- what holds of each function holds of the one at a place
pub all_at : (P : Function → Type 0) (fs : List Function) (i : ℕ) (f : Function) (g : Kept)
    → slice_get (map (λ f. kept_of f) fs) i ≡ Some g → f ≡ slice_index_or fs i f → All P fs → P f
all_at P [] i f g here is all = absurd (cc)
all_at P (x ∷ fs) zero f g here is all = subst P (sym is) (All-head P x fs all)
all_at P (x ∷ fs) (suc i) f g here is all = all_at P fs i f g here is (All-tail P x fs all)

-- the kept function of a run
pub record IsKeptRun (fs : List Kept) (i : ℕ) (r : Expression × KernelType) : Type 0 where
  pub function : Kept
  pub here : slice_get fs i ≡ Some function
  pub is : run_of_kept function ≡ r

pub kept_run : (fs : List Kept) (i : ℕ) (r : Expression × KernelType)
    → slice_get (map run_of_kept fs) i ≡ Some r → IsKeptRun fs i r
kept_run [] i r here = absurd (cc)
kept_run (f ∷ fs) zero r here = record { function = f; here = refl; is = cc }
kept_run (f ∷ fs) (suc i) r here =
    let rest = kept_run fs i r here in
    record { function = rest.function; here = rest.here; is = rest.is }

-- the same of the run at a place
pub run_of_item : (fs : List Function) (i : ℕ) (f : Function) (r : Expression × KernelType)
    → slice_get (map run_of_kept (map (λ f. kept_of f) fs)) i ≡ Some r → f ≡ slice_index_or fs i f
    → run_of_kept (kept_of f) ≡ r
run_of_item fs i f r here is =
    let run = kept_run (map (λ f. kept_of f) fs) i r here in
    ap run_of_kept (kept_of_item fs i f run.function run.here is) ∙ run.is

pub all_at_run : (P : Function → Type 0) (fs : List Function) (i : ℕ) (f : Function) (r : Expression × KernelType)
    → slice_get (map run_of_kept (map (λ f. kept_of f) fs)) i ≡ Some r → f ≡ slice_index_or fs i f → All P fs → P f
all_at_run P fs i f r here is all =
    let run = kept_run (map (λ f. kept_of f) fs) i r here in
    all_at P fs i f run.function run.here is all

-- a fact that holds of emissions, and of what was loaded
pub of_either : (P : Type 0) (loaded : Option ℕ) → (loaded ≡ None → P) → (IsSome loaded → P) → P
of_either P None made read = made refl
of_either P (Some n) made read = read refl

pub kept_stands : (mode : Mode) (f : Function) → IsKept mode f → MeansItsCode mode (kept_of f)
    → StandsFor (module_of f.running.wasm) (in_mode mode (expression_of f.code.value)) (kernel_type_of f.kind.value)
kept_stands mode f kept sound = of_either _ f.loaded kept.emitted sound

-- the same of the function that a run gave
pub kept_of_run : (mode : Mode) (f : Function) (code : Term) (kind : KType) (r : RunningState) (loaded : Option ℕ)
    → f.running ≡ r → kept_of f ≡ kept_as code kind r.wasm loaded
    → IsKeptFor (in_mode mode (expression_of code)) (kernel_type_of kind) r loaded → IsKept mode f
kept_of_run mode f code kind r loaded running is h =
    subst (λ (g : Kept). IsKeptFor (in_mode mode (run_of_kept g).0) (run_of_kept g).1 f.running g.loaded) (sym is)
    (subst (λ r. IsKeptFor (in_mode mode (expression_of code)) (kernel_type_of kind) r loaded) (sym running) h)
