-- What `emit` hands on, of the text that was written and the module that was generated.
use Rattle.std.proofs.Common.{◌≡◌, ◌≤◌, ◌<◌, ◌^◌, ◌&&◌, ℕ, zero, suc, Bool, true, List, length, sym, ◌∙◌, ap, subst}
use Rattle.std.proofs.Common.{arith}
use Rattle.std.specs.Prelude.{nat_le}
use Rattle.std.proofs.lemmas.Bool.Decides.{nat_tests}
use Rattle.std.proofs.lemmas.List.{length-map}
use Rattle.mw_term.specs.Terms.{Expression, KernelType, size, depth_of}
use Rattle.mw_term.specs.Closed.{IsClosed}
use Rattle.mw_term.specs.Limits.{within_limits, kernel_nodes, LiteralsFit}
use Rattle.mw_wasm.specs.declared.modules.Module.{Module}
use Rattle.mw_wasm.specs.Syntax.{PureModule}
use Rattle.mw_wasm.specs.Validity.{IsValid}
use Rattle.mw_wasm.specs.Views.{module_of, element_of, segment_of}
use Rattle.mw_encode.specs.Encoding.{encoding}
use Rattle.mw_encode.proofs.BestModules.{encoding_shortest}
use Rattle.mw_validate.specs.Kept.{IsKept}
use Rattle.mw_key.specs.declared.version.Version.{Version}
use Rattle.mw_gen.specs.Generate.{elements_of}
use Rattle.mw_gen.specs.Emission.{emitted}
use Rattle.mw_key.specs.declared.version.Version.TheVariants.{Two}
use Rattle.mw_key.specs.CanonicalText.{IsTextOf}
use Rattle.mw_key.proofs.FoundTexts.{one_text}
use Rattle.mw_key.proofs.Lengths.{short_text}
use Rattle.mw_gen.proofs.EmissionProof.{emission_holds}
use Rattle.mw_compile.specs.Emission.{emission}
use Rattle.mw_compile.specs.EmissionLaws.{IsEmission, EmissionHolds, OneEmission}
use Rattle.mw_compile.specs.Entries.{Emitted, IsEntry, IsEntryOf}

-- code within the limits of kernels has few nodes, and isn't deep
pub within_size : (c : Expression) → within_limits c ≡ true → size c ≤ 20000
within_size c h = at_most (size c) 20000 (nat_le (depth_of c) 400) h
  where
    at_most : (n k : ℕ) (b : Bool) → nat_le n k && b ≡ true → n ≤ k
    at_most n k b h = grind (arith, nat_tests)

pub within_depth : (c : Expression) → within_limits c ≡ true → depth_of c ≤ 400
within_depth c h = at_most (depth_of c) 400 (nat_le (size c) 20000) h
  where
    at_most : (n k : ℕ) (b : Bool) → b && nat_le n k ≡ true → n ≤ k
    at_most n k b h = grind (arith, nat_tests)

pub emission_of : (v : Version) (c : Expression) (k : KernelType) → IsClosed c → LiteralsFit c
    → within_limits c ≡ true → kernel_nodes k ≤ 10000 → IsEmission (emission v c k) (emitted v c k) c k
emission_of v c k closed literals limits nodes =
    let e = emission_holds v c k closed literals (within_size c limits) (within_depth c limits) nodes in
    let best = encoding_shortest (emitted v c k) e.spelled.bytes e.spelled.spell in
    record {
      short = let least = best.1 in let few = e.spelled.short in omega arith;
      spelled = best.0;
      profile = e.profile;
      valid = e.valid;
      shape = e.shape;
      stands = e.stands;
    }

pub each_emission : EmissionHolds
each_emission text v c k is =
    let q = is.kernel in
    emission_of v c k q.closed q.literals q.limits q.nodes

pub one_emission : OneEmission
one_emission text first second x y =
    let same = one_text text x.version y.version x.code y.code x.kind y.kind x.is_text y.is_text in
    x.is_emission ∙ (ap (λ v. emission v x.code x.kind) same.0
    ∙ (ap (λ c. emission y.version c x.kind) same.1
    ∙ (ap (λ k. emission y.version y.code k) same.2 ∙ sym y.is_emission)))

-- an emitted module has at most one element segment, and no data segment
few_elements : (n : ℕ) → length (elements_of n) < 2 ^ 32
few_elements zero = omega arith
few_elements (suc n) = omega arith

pub generated_kept : (v : Version) (c : Expression) (k : KernelType) (wasm : Module) → IsValid (module_of wasm)
    → module_of wasm ≡ emitted v c k → IsKept wasm
generated_kept v c k wasm valid e = record {
  valid = valid;
  elements = subst (λ n. n < 2 ^ 32)
      (sym (ap (λ (m : PureModule). length m.elements) e) ∙ length-map wasm.elements element_of) (few_elements _);
  segments = let n = sym (length-map wasm.segments segment_of)
      ∙ ap (λ (m : PureModule). length m.segments) e in omega arith;
}

-- the entry of code at a type, of its text, its module and the module's bytes
pub entry_of : (c : Expression) (k : KernelType) (wasm whole : Module) (text bytes : List ℕ) → IsTextOf text Two c k
    → module_of wasm ≡ emitted Two c k → bytes ≡ encoding (module_of wasm) → whole ≡ wasm
    → IsEntryOf record { text = text; bytes = bytes; wasm = whole } c k
entry_of c k wasm whole text bytes is_text e exact is =
    let x = is_text.kernel in
    let whole_is : module_of whole ≡ emitted Two c k = ap module_of is ∙ e in
    let exactly : bytes ≡ emission Two c k = exact ∙ ap encoding e in
    record {
      is_text = is_text;
      short = short_text text Two c k is_text;
      module_is = whole_is;
      emission_is = exactly;
      is = subst (λ bs. IsEmission bs (module_of whole) c k) (sym exactly)
          (subst (λ m. IsEmission (emission Two c k) m c k) (sym whole_is)
          (emission_of Two c k x.closed x.literals x.limits x.nodes));
    }

pub entry_kept : (e : Emitted) (c : Expression) (k : KernelType) → IsEntryOf e c k → IsEntry e
entry_kept e c k is = record {
  code = c;
  kind = k;
  is_entry = is;
  is_emission = record { version = Two; code = c; kind = k; is_text = is.is_text; is_emission = is.emission_is };
}

-- an entry is that of each code and type that have its text
pub entry_is : (e : Emitted) (c : Expression) (k : KernelType) → IsEntry e → IsTextOf e.text Two c k → IsEntryOf e c k
entry_is e c k is text =
    let same = one_text e.text Two Two is.code c is.kind k is.is_entry.is_text text in
    subst (λ c. IsEntryOf e c k) same.1 (subst (λ k. IsEntryOf e is.code k) same.2 is.is_entry)
