-- What calls on kernels over a cache keep.
use Rattle.std.specs.Prelude.{ℕ, ◌≡◌, ◌≤◌, ◌+◌, ◌⊎◌, Bool, true, List, refl, Result, Err}
use Rattle.std.specs.List.{All}
use Rattle.std.proofs.Common.{◌∙◌, inl, inr, subst, sym, ap}
use Rattle.mw_term.specs.Terms.{Expression, KernelType}
use Rattle.mw_meaning.specs.declared.mode.Mode.{Mode}
use Rattle.mw_meaning.specs.Simplification.{in_mode}
use Rattle.mw_slots.specs.Receipts.{Known, IsOf}
use Rattle.mw_key.specs.declared.version.Version.TheVariants.{Two}
use Rattle.mw_key.specs.CanonicalText.{canonical_text}
use Rattle.mw_compile.specs.Entries.{Emitted}
use Rattle.mw_cache.specs.declared.got.Got.{Got}
use Rattle.mw_cache.specs.Hints.{HintedState, price_beside}
use Rattle.mw_cache.specs.Received.{ReceivesSince}
use Rattle.mw_machine.specs.declared.kernels.Ran.{Ran}
use Rattle.mw_machine.specs.declared.kernels.KernelFault.{KernelFault}
use Rattle.mw_machine.specs.declared.kernels.KernelFault.TheVariants as kernel
use Rattle.mw_machine.specs.KernelCalls.{Rose}
use Rattle.mw_cached.specs.declared.kernels.KernelState.{KernelState}
use Rattle.mw_cached.specs.Links.{IsRightIn}
use Rattle.mw_cached.specs.Receiving.{KeepsSlots, nothing_since, since_through}
use Rattle.mw_cached.specs.StrayRecords.{IsStrayRecord}

-- How code is run, the cache with its hints, the receipts that are kept, whether these are whole, how many emissions
-- were counted, how many bad answers there were and the digest of the last, the steps that are spent, and what was
-- asked for.
pub record Standing : Type 0 where
  pub mode : Mode
  pub cache : HintedState
  pub stored : List (Known Emitted)
  pub whole : Bool
  pub emitted : ℕ
  pub bad : ℕ
  pub digest : List ℕ
  pub steps : ℕ
  pub asked : List Got

abbrev pub standing : KernelState → (steps : ℕ) → (asked : List Got) → Standing
standing state steps asked = record {
  mode = state.functions.functions.mode;
  cache = state.functions.cache;
  stored = state.stored;
  whole = state.whole;
  emitted = state.emitted;
  bad = state.bad;
  digest = state.digest;
  steps = steps;
  asked = asked;
}

-- what a run of code costs at most: nothing where what is run has the text of a hint or of a loaded record, and else an
-- emission
abbrev pub price_in : HintedState → Mode → Expression → KernelType → ℕ
price_in cache mode c k = price_beside cache.hinted (canonical_text Two (in_mode mode c) k)

-- A bad answer is counted, up to the greatest number, and its digest is kept. Others leave the count and the digest.
abbrev pub IsNoted : Result Ran KernelFault → (old new : ℕ) → (before after : List ℕ) → Type 0
IsNoted (Err (kernel.Bad d)) old new before after = Rose old new × (old ≤ new) × (after ≡ d)
IsNoted _ old new before after = (new ≡ old) × (after ≡ before)

-- no bad answer came, or the digest of the last is that of a loaded record whose module is stray
abbrev pub IsTold : (a b : Standing) → Type 0
IsTold a b = ((b.bad ≡ a.bad) × (b.digest ≡ a.digest)) ⊎ IsStrayRecord a.cache.cache.load b.digest

-- The mode, the cache and its hints stay. Where all receipts were of the table, they still are. No more emissions were
-- counted than steps were spent, and the steps don't fall. No slot's receipt is lost. Where the receipts are whole,
-- they were so before, and all is received that was asked for since.
pub record Follows (a b : Standing) : Type 0 where
  pub mode_is : b.mode ≡ a.mode
  pub cache_is : b.cache ≡ a.cache
  pub stored : All (IsOf a.cache.cache.cells) a.stored → All (IsOf a.cache.cache.cells) b.stored
  pub counted : (n : ℕ) → a.emitted ≤ n + a.steps → b.emitted ≤ n + b.steps
  pub rises : (n : ℕ) → n ≤ a.steps → n ≤ b.steps
  pub told : IsTold a b
  pub slots : KeepsSlots a.stored b.stored
  pub received : b.whole ≡ true → (a.whole ≡ true) × ReceivesSince b.stored a.asked b.asked

-- it holds of kernels and themselves, and goes on through two calls
pub follows_itself : (a : Standing) → Follows a a
follows_itself a = record {
  mode_is = refl;
  cache_is = refl;
  stored = λ h. h;
  counted = λ n h. h;
  rises = λ n h. h;
  told = inl (refl, refl);
  slots = λ slot h. h;
  received = λ whole. (whole, nothing_since a.stored a.asked a.asked refl);
}

told_through : (a b c : Standing) → b.cache ≡ a.cache → IsTold a b → IsTold b c → IsTold a c
told_through a b c cache (inl p) (inl q) = inl (q.0 ∙ p.0, q.1 ∙ p.1)
told_through a b c cache (inr p) (inl q) = inr (subst (λ d. IsStrayRecord a.cache.cache.load d) (sym q.1) p)
told_through a b c cache p (inr q) =
    inr (subst (λ (x : HintedState). IsStrayRecord x.cache.load c.digest) cache q)

pub follows_through : (a b c : Standing) → Follows a b → Follows b c → Follows a c
follows_through a b c p q = record {
  mode_is = q.mode_is ∙ p.mode_is;
  cache_is = q.cache_is ∙ p.cache_is;
  stored = λ h. subst (λ (x : HintedState). All (IsOf x.cache.cells) c.stored) p.cache_is
      (q.stored (subst (λ (x : HintedState). All (IsOf x.cache.cells) b.stored) (sym p.cache_is) (p.stored h)));
  counted = λ n h. q.counted n (p.counted n h);
  rises = λ n h. q.rises n (p.rises n h);
  told = told_through a b c p.cache_is p.told q.told;
  slots = λ slot h. q.slots slot (p.slots slot h);
  received = λ whole.
      let later = q.received whole in
      let sooner = p.received later.0 in
      (sooner.0, since_through b.stored c.stored q.slots a.asked b.asked c.asked sooner.1 later.1);
}

-- no call changes a price
pub price_stays : (a b : Standing) → Follows a b → (c : Expression) (k : KernelType)
    → price_in b.cache b.mode c k ≡ price_in a.cache a.mode c k
price_stays a b p c k = ap (λ x. price_in x b.mode c k) p.cache_is ∙ ap (λ m. price_in a.cache m c k) p.mode_is

-- nor whether a record is right
pub right_stays : (a b : Standing) → Follows a b → (c : Expression) (k : KernelType)
    → IsRightIn a.cache.cache.load a.mode c k → IsRightIn b.cache.cache.load b.mode c k
right_stays a b p c k h =
    subst (λ m. IsRightIn b.cache.cache.load m c k) (sym p.mode_is)
    (subst (λ (x : HintedState). IsRightIn x.cache.load a.mode c k) (sym p.cache_is) h)

pub right_stayed : (a b : Standing) → Follows a b → (c : Expression) (k : KernelType)
    → IsRightIn b.cache.cache.load b.mode c k → IsRightIn a.cache.cache.load a.mode c k
right_stayed a b p c k h =
    subst (λ m. IsRightIn a.cache.cache.load m c k) p.mode_is
    (subst (λ (x : HintedState). IsRightIn x.cache.load b.mode c k) p.cache_is h)
