-- What reading a module answers, as an answer about the bytes.
use Rattle.std.proofs.Common.{◌≡◌, ℕ, ◌^◌, ◌<◌, ◌≤◌, List, length, ap, sym, ◌∙◌, subst, nat_le, Bool, true, false}
use Rattle.std.specs.Prelude.{if◌then◌else◌, IfErr, IfOk, Result, Ok, Err}
use Rattle.std.proofs.lemmas.Bool.{le-leb, lt-leb}
use Rattle.mw_wasm.specs.declared.modules.Module.{Module}
use Rattle.mw_wasm.specs.Syntax.{PureModule}
use Rattle.mw_wasm.specs.Views.{module_of}
use Rattle.mw_wat.specs.declared.fault.WatFault.{WatFault}
use Rattle.mw_wat.specs.declared.fault.WatFault.TheVariants.{Bad, Memory}
use Rattle.mw_wat.specs.Lexing.{Tokens, tokens}
use Rattle.mw_wat.specs.Reading.{got, bad, place_of}
use Rattle.mw_wat.specs.Modules.{whole_module, up_to_end, limited, module_read}
use Rattle.mw_wat.specs.Chain.{ends_at}
use Rattle.mw_wat.specs.Answers.{Answers, IsFaultOf, fault_at}
use Rattle.mw_wasm.specs.Profile.{IsWithinFileLimit}
use Rattle.mw_wat.specs.ModuleTexts.{IsTextOf}
use Rattle.mw_wat.proofs.Chains.{at_end, not_at_end}
use Rattle.mw_wat.proofs.FewSegments.{few_of_module}
use Rattle.mw_wat.proofs.FirstBadPlaces.{answered_is_first}
use Rattle.mw_wat.proofs.OneModule.{short_text_is_read}
use Rattle.mw_wat.proofs.ReadIsText.{read_is_text}

at_place : (end at : ℕ) (answer : Result PureModule ℕ) → answer ≡ limited end (Err at)
    → Answers (Err (fault_at at)) answer
at_place end at answer e = by_limit (nat_le at 67_108_864) e
  where
    by_limit : (b : Bool) → answer ≡ (if b then Err at else Err 67_108_864)
        → Answers (Err (if b then Bad at else Bad 67_108_864)) answer
    by_limit true e = e
    by_limit false e = e

pub answer_bad : (bytes : List ℕ) (left : Tokens) (f : WatFault)
    → whole_module (tokens (length bytes) bytes) ≡ bad left → f ≡ fault_at (place_of left)
    → Answers (Err f) (module_read bytes)
answer_bad bytes left f e p =
    subst (λ f. Answers (Err f) (module_read bytes)) (sym p)
    (at_place (length bytes) (place_of left) (module_read bytes)
    (ap (λ r. limited (length bytes) (up_to_end (length bytes) r)) e))

pub answer_more : (bytes : List ℕ) (m : PureModule) (rest : Tokens) (f : WatFault)
    → whole_module (tokens (length bytes) bytes) ≡ got m rest → ends_at (length bytes) rest ≡ false
    → f ≡ fault_at (place_of rest) → Answers (Err f) (module_read bytes)
answer_more bytes m rest f e n p =
    subst (λ f. Answers (Err f) (module_read bytes)) (sym p)
    (at_place (length bytes) (place_of rest) (module_read bytes)
    (ap (limited (length bytes)) (not_at_end (length bytes) m rest _ e n)))

pub answer_long : (bytes : List ℕ) (m : PureModule) (rest : Tokens)
    → whole_module (tokens (length bytes) bytes) ≡ got m rest → ends_at (length bytes) rest ≡ true
    → 67_108_864 < length bytes → module_read bytes ≡ Err 67_108_864
answer_long bytes m rest e n p =
    ap (limited (length bytes)) (at_end (length bytes) m rest _ e n)
    ∙ ap (λ b. if b then Ok m else Err 67_108_864) (lt-leb (length bytes) 67_108_864 p)

pub answer_ok : (bytes : List ℕ) (m : PureModule) (rest : Tokens)
    → whole_module (tokens (length bytes) bytes) ≡ got m rest → ends_at (length bytes) rest ≡ true
    → length bytes ≤ 67_108_864 → module_read bytes ≡ Ok m
answer_ok bytes m rest e n p =
    ap (limited (length bytes)) (at_end (length bytes) m rest _ e n)
    ∙ ap (λ b. if b then Ok m else Err 67_108_864) (le-leb (length bytes) 67_108_864 p)

pub ruleset answer_laws = (answer_bad, answer_more, answer_long, answer_ok)

-- what an answer says of the bytes
pub answered_read : (bytes : List ℕ) (answer : Result Module WatFault) → Answers answer (module_read bytes)
    → IfOk answer (λ m. IsTextOf bytes (module_of m) × IsWithinFileLimit bytes)
answered_read bytes (Ok m) e = read_is_text bytes (module_of m) e
answered_read bytes (Err f) e = tt

pub answered_found : (bytes : List ℕ) (answer : Result Module WatFault) → Answers answer (module_read bytes)
    → (m : PureModule) → IsTextOf bytes m → IsWithinFileLimit bytes → Answers answer (Ok m)
answered_found bytes answer g m t w = subst (λ r. Answers answer r) (short_text_is_read bytes m t w) g

pub answered_bad : (bytes : List ℕ) (answer : Result Module WatFault) → Answers answer (module_read bytes)
    → IfErr answer (λ f. IsFaultOf bytes f)
answered_bad bytes (Ok m) e = tt
answered_bad bytes (Err (Bad at)) e = answered_is_first bytes at e
answered_bad bytes (Err (Memory m)) e = tt

pub answered_few : (bytes : List ℕ) (answer : Result Module WatFault) → Answers answer (module_read bytes)
    → IfOk answer (λ m. (length m.elements < 2 ^ 32) × (length m.segments < 2 ^ 32))
answered_few bytes (Ok m) e =
    let r = read_is_text bytes (module_of m) e in
    few_of_module bytes m r.0 r.1
answered_few bytes (Err f) e = tt
