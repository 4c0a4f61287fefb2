-- Receipts of the modules that stand in the table, and main's kernels that have them.
use Rattle.std.proofs.Common.{◌≡◌, ℕ, List, [], ◌∷◌, ◌++◌, Result, Ok, Err, IfOk, OnOk, sym, ap, subst}
use Rattle.std.specs.List.{All}
use Rattle.std.proofs.lemmas.List.Elements.{All-push}
use Rattle.mw_term.specs.Terms.{Expression, Value}
use Rattle.mw_term.specs.Programs.{Definition, value as defines, kernel}
use Rattle.mw_meaning.specs.declared.mode.Mode.{Mode}
use Rattle.mw_meaning.specs.OutcomeLaws.{AreCodesOf}
use Rattle.mw_cache.specs.Gots.{CacheState, loaded_texts}
use Rattle.mw_cache.specs.Hints.{HintedState}
use Rattle.mw_tasks.specs.declared.outcome.ItemOutcome.{ItemOutcome}
use Rattle.mw_tasks.specs.declared.outcome.ItemOutcome.TheVariants.{Code, Trap, Bound}
use Rattle.mw_tasks.specs.Phases.{EachKernel, IsOutcomeOf, AreBuiltAll, codes_in, stored_texts}

pub all_pushed : {X E : Type 0} (P : X → Type 0) (result : Result (Unit {0}) E) (xs ys : List X) (x : X)
    → OnOk result (ys ≡ xs ++ x ∷ [])
    → P x → All P xs → IfOk result (λ _. All P ys)
all_pushed P (Ok u) xs ys x pushed one all = subst (All P) (sym pushed) (All-push P xs x all one)
all_pushed P (Err e) xs ys x pushed one all = tt

-- the codes of all items are codes of the program's kernel items
pub codes_are : (mode : Mode) (names : List Value) (fuel : ℕ) (cache : CacheState) (items : List Definition)
    (outcomes : List ItemOutcome)
    → EachKernel (IsOutcomeOf mode names fuel cache) items outcomes → AreBuiltAll outcomes
    → AreCodesOf items (codes_in outcomes)
codes_are mode names fuel cache [] [] each built = tt
codes_are mode names fuel cache [] (o ∷ outcomes) each built = absurd each
codes_are mode names fuel cache
    (defines e ∷ items) outcomes each built = codes_are mode names fuel cache items outcomes each built
codes_are mode names fuel cache (kernel k e ∷ items) [] each built = absurd each
codes_are mode names fuel cache (kernel k e ∷ items) (Code t got ∷ outcomes) each built =
    (each.0.placed.typed, codes_are mode names fuel cache items outcomes each.1 built)
codes_are mode names fuel cache (kernel k e ∷ items) (Trap t ∷ outcomes) each built = absurd built
codes_are mode names fuel cache (kernel k e ∷ items) (Bound l ∷ outcomes) each built = absurd built

-- the cache with hints of these texts
abbrev beside : List (List ℕ) → CacheState → HintedState
beside texts cache = record { cache = cache; hinted = texts ++ loaded_texts cache.load }

-- and with those of the outcomes that are in the table
abbrev pub hinted_by : List ItemOutcome → CacheState → HintedState
hinted_by outcomes cache = beside (stored_texts outcomes) cache

pub hinted_as : (cache : CacheState) (outcomes : List ItemOutcome) (texts : List (List ℕ))
    → texts ≡ stored_texts outcomes
    → beside texts cache ≡ hinted_by outcomes cache
hinted_as cache outcomes texts is = ap (λ ts. beside ts cache) is

-- what is so of main's kernels is so of the mode, the cache with its hints, and the codes
pub of_same : (P : Mode → HintedState → List Expression → Type 0) (own mode : Mode) (seen hinted : HintedState)
    (given codes : List Expression)
    → own ≡ mode → seen ≡ hinted → given ≡ codes → P own seen given → P mode hinted codes
of_same P own mode seen hinted given codes m h c x =
    subst (λ cs. P mode hinted cs) c (subst (λ x. P mode x given) h (subst (λ m. P m seen given) m x))
