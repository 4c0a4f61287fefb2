-- Answers as the machine is told them.
use Rattle.std.proofs.Common.{◌≡◌, ◌≤◌, ◌+◌, ℕ, List, [], inl, inr, Option, Result, Ok, Err, IfErr, sym, ap, ◌∙◌, subst}
use Rattle.std.specs.List.{All}
use Rattle.std.proofs.lemmas.Option.{slice_get_within}
use Rattle.sha2.specs.Sha256.{sha256}
use Rattle.mw_term.specs.Terms.{Expression, KernelType}
use Rattle.mw_meaning.specs.Shapes.{IsStray}
use Rattle.mw_wasm.specs.declared.modules.Module.{Module}
use Rattle.mw_wasm.specs.Views.{module_of}
use Rattle.mw_slots.specs.Receipts.{Known, IsOf}
use Rattle.mw_compile.specs.Entries.{Emitted}
use Rattle.mw_store.specs.Loads.{LoadState}
use Rattle.mw_cache.specs.declared.got.Got.{Got}
use Rattle.mw_cache.specs.Gots.{text_at}
use Rattle.mw_cache.specs.Received.{HasSlot, ReceivesSince}
use Rattle.mw_machine.specs.declared.kernels.Ran.{Ran}
use Rattle.mw_machine.specs.declared.kernels.KernelFault.{KernelFault}
use Rattle.mw_machine.specs.declared.kernels.KernelFault.TheVariants as kernel
use Rattle.mw_machine.specs.KernelCalls.{IsNewlyBad}
use Rattle.mw_cached.specs.declared.fault.FunctionFault.{FunctionFault}
use Rattle.mw_cached.specs.declared.fault.FunctionFault.TheVariants as faults
use Rattle.mw_cached.specs.Answers.{told, BadIsStray}
use Rattle.mw_cached.specs.Following.{Standing, Follows, IsNoted, IsTold}
use Rattle.mw_cached.specs.Links.{IsLinkedTo, IsLinkedFrom}
use Rattle.mw_cached.specs.StrayRecords.{IsStrayRecord, BadIsStrayRecord, TellsRecord, told_over}
use Rattle.mw_cached.proofs.LinkLemmas.{text_here}

-- what holds of an answer but for its digest holds of it as it is told
pub as_told : (P : Result Ran KernelFault → Type 0) (load : LoadState) (own : Result Ran FunctionFault)
    (answer : Result Ran KernelFault) → answer ≡ told_over load own
    → ((d : List ℕ) → P (Err (kernel.Bad [])) → P (Err (kernel.Bad d))) → P (told own) → P answer
as_told P load (Ok r) answer is other h = subst P (sym is) h
as_told P load (Err (faults.Memory e)) answer is other h = subst P (sym is) h
as_told P load (Err (faults.Bad n)) answer is other h = subst P (sym is) (other (sha256 (text_at load n)) h)

-- a module that is linked to a record and is stray makes that a stray record
stray_record : (load : LoadState) (c : Expression) (k : KernelType) (wasm : Module) (at : ℕ)
    → IsLinkedTo load c k wasm at → IsStray (module_of wasm) k → IsStrayRecord load (sha256 (text_at load at))
stray_record load c k wasm at link stray = record {
  at = at;
  loaded = link.loaded;
  here = link.here;
  code = c;
  kind = k;
  is_text = link.is_text;
  typed = link.typed;
  wasm = module_of wasm;
  spelled = link.spelled;
  stray = stray;
  digest_is = ap sha256 (sym (text_here load at link.loaded link.here));
}

-- so a bad answer tells a record
pub tells_record : (load : LoadState) (own : Result Ran FunctionFault) (c : Expression) (k : KernelType) (wasm : Module)
    (loaded : Option ℕ) → IsLinkedFrom load c k wasm loaded → BadIsStray own wasm loaded k → TellsRecord load own
tells_record load (Ok r) c k wasm loaded link stray = tt
tells_record load (Err (faults.Memory e)) c k wasm loaded link stray = tt
tells_record load (Err (faults.Bad n)) c k wasm loaded link stray =
    let is = link n stray.0 in slice_get_within load.records n is.loaded is.here

-- which is stray
pub stray_is_told : (load : LoadState) (own : Result Ran FunctionFault) (answer : Result Ran KernelFault)
    (c : Expression) (k : KernelType) (wasm : Module) (loaded : Option ℕ) → answer ≡ told_over load own
    → IsLinkedFrom load c k wasm loaded → BadIsStray own wasm loaded k → BadIsStrayRecord load answer
stray_is_told load (Ok r) answer c k wasm loaded is link stray = subst (BadIsStrayRecord load) (sym is) tt
stray_is_told load (Err (faults.Memory e)) answer c k wasm loaded is link stray =
    subst (BadIsStrayRecord load) (sym is) tt
stray_is_told load (Err (faults.Bad n)) answer c k wasm loaded is link stray =
    subst (BadIsStrayRecord load) (sym is) (stray_record load c k wasm n (link n stray.0) stray.1)

-- what was noted of an answer
pub noted_bad : (answer : Result Ran KernelFault) (old new : ℕ) (before after : List ℕ)
    → IsNoted answer old new before after → IfErr answer (λ fault. IsNewlyBad fault old new after)
noted_bad (Ok r) old new before after h = tt
noted_bad (Err (kernel.Memory e)) old new before after h = tt
noted_bad (Err (kernel.Bad d)) old new before after h = (h.0, h.2)

-- what calls keep is kept as an answer is noted
pub follows_noted : (a b c : Standing) (answer : Result Ran KernelFault) → Follows a b
    → (b.bad ≡ a.bad) × (b.digest ≡ a.digest) → c.mode ≡ b.mode → c.cache ≡ b.cache
    → c.stored ≡ b.stored → c.whole ≡ b.whole → c.emitted ≡ b.emitted → c.steps ≡ b.steps → c.asked ≡ b.asked
    → BadIsStrayRecord a.cache.cache.load answer → IsNoted answer b.bad c.bad b.digest c.digest → Follows a c
follows_noted a b c answer follows unnoted mode cache stored whole emitted steps asked stray noted = record {
  mode_is = mode ∙ follows.mode_is;
  cache_is = cache ∙ follows.cache_is;
  stored = λ h. subst (All (IsOf a.cache.cache.cells)) (sym stored) (follows.stored h);
  counted = λ n h. subst (λ (m : ℕ). m ≤ n + c.steps) (sym emitted)
      (subst (λ (m : ℕ). b.emitted ≤ n + m) (sym steps) (follows.counted n h));
  rises = λ n h. subst (λ (m : ℕ). n ≤ m) (sym steps) (follows.rises n h);
  told = told_of answer stray noted;
  slots = λ slot h. subst (λ (rs : List (Known Emitted)). HasSlot rs slot) (sym stored) (follows.slots slot h);
  received = λ is.
      let before = follows.received (sym whole ∙ is) in (
        before.0,
        subst (λ (rs : List (Known Emitted)). ReceivesSince rs a.asked c.asked) (sym stored)
            (subst (λ (gots : List Got). ReceivesSince b.stored a.asked gots) (sym asked) before.1),
      );
}
  where
    told_of : (answer : Result Ran KernelFault) → BadIsStrayRecord a.cache.cache.load answer
        → IsNoted answer b.bad c.bad b.digest c.digest → IsTold a c
    told_of (Ok r) stray noted = inl (noted.0 ∙ unnoted.0, noted.1 ∙ unnoted.1)
    told_of (Err (kernel.Memory e)) stray noted = inl (noted.0 ∙ unnoted.0, noted.1 ∙ unnoted.1)
    told_of (Err (kernel.Bad d)) stray noted = inr (subst (IsStrayRecord a.cache.cache.load) (sym noted.2) stray)
