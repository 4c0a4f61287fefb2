-- The chain of a module's fields.
use Rattle.std.proofs.Common.{◌≡◌, ℕ, List, [], ◌∷◌, map, refl, ap, ◌∙◌, Bool, true, false, Option, Some, None}
use Rattle.std.specs.Prelude.{codes, if◌then◌else◌, Ok, Err}
use Rattle.mw_wasm.specs.declared.modules.Limits.{Limits}
use Rattle.mw_wasm.specs.declared.modules.FuncType.{FuncType}
use Rattle.mw_wasm.specs.Syntax.{Function, PureModule}
use Rattle.mw_wat.specs.Lexing.{Tokens, stop, token}
use Rattle.mw_wat.specs.Reading.{Read, got, bad, Reader, place_of, and_then, gives, ◌>>=◌, this, opening}
use Rattle.mw_wat.specs.Modules.{function_type, function, table, memory, next_field, fields_up_to, fields, head}
use Rattle.mw_wat.specs.Modules.{whole_module, up_to_end}
use Rattle.mw_wat.specs.Parts.{one_field, single_of, single}
use Rattle.mw_wat.specs.Chain.{behind_memory, behind_funcs, module_chain, ends_at}
use Rattle.mw_wat.proofs.FieldLoops.{up_to_is, behind_field}

then_cong : {A B : Type 0} (r : Read A) (f g : A → Reader B) → ((x : A) (rest : Tokens) → f x rest ≡ g x rest)
    → and_then r f ≡ and_then r g
then_cong (got x rest) f g h = h x rest
then_cong (bad rest) f g h = refl

single_then : {A B : Type 0} (w : List ℕ) (field : Reader A) (going : Bool) (ts : Tokens)
    (go : Option A → Bool → Reader B) → and_then (fields_up_to 1 w field going ts) (λ fs. go (head fs.list) fs.going)
    ≡ and_then (single w field going ts) (λ s. go s.0 s.1)
single_then w field false ts go = refl
single_then {A = A} w field true ts go =
    ap (λ r. and_then r (λ fs. go (head fs.list) fs.going)) (up_to_is 0 w field ts) ∙ by_field (one_field w field ts)
  where
    by_field : (r : Read (Option (A × Bool)))
        → and_then (and_then r (behind_field 0 w field)) (λ fs. go (head fs.list) fs.going)
        ≡ and_then (and_then r λ o. gives (single_of o)) (λ s. go s.0 s.1)
    by_field (got None rest) = refl
    by_field (got (Some x) rest) = refl
    by_field (bad rest) = refl

behind_table : List FuncType → List Function → Option Limits → Bool → Reader PureModule
behind_table types funcs tab going = fields_up_to 1 (codes "memory") memory going
    >>= λ memories. behind_memory types funcs tab (head memories.list) memories.going

behind_tables : List FuncType → List Function → Bool → Reader PureModule
behind_tables types funcs going = fields_up_to 1 (codes "table") table going
    >>= λ tables. behind_table types funcs (head tables.list) tables.going

whole_chain : Reader PureModule
whole_chain = opening >>= λ _. this (codes "module") >>= λ _. next_field >>= λ going.
    fields (codes "type") function_type
    going >>= λ types. fields (codes "func") function types.going
    >>= λ funcs. behind_tables types.list funcs.list funcs.going

whole_is_chain : (ts : Tokens) → whole_module ts ≡ whole_chain ts
unfolding whole_module whole_chain behind_tables behind_table
whole_is_chain ts = refl

same_behind : (types : List FuncType) (funcs : List Function) (going : Bool) (ts : Tokens)
    → behind_tables types funcs going ts ≡ behind_funcs types funcs going ts
unfolding behind_tables behind_table
same_behind types funcs going ts =
    single_then (codes "table") table going ts
    (λ tab going. fields_up_to 1 (codes "memory") memory going
    >>= λ memories. behind_memory types funcs tab (head memories.list) memories.going)
    ∙ then_cong (single (codes "table") table going ts) _ _
    (λ tab rest. single_then (codes "memory") memory tab.1 rest
    (λ mem going. behind_memory types funcs tab.0 mem going))

pub module_is : (ts : Tokens) → whole_module ts ≡ module_chain ts
unfolding whole_chain
module_is ts =
    whole_is_chain ts
    ∙ then_cong (opening ts) _ _ (λ _ us.
    then_cong (this (codes "module") us) _ _ (λ _ vs.
    then_cong (next_field vs) _ _ (λ going ws.
    then_cong (fields (codes "type") function_type going ws) _ _ (λ types xs.
    then_cong (fields (codes "func") function types.going xs) _ _
    (λ funcs ys. same_behind types.list funcs.list funcs.going ys)))))

pub same_items : {A : Type 0} (xs : List A) → map (λ x. x) xs ≡ xs
same_items [] = refl
same_items (x ∷ xs) = ap (λ ys. x ∷ ys) (same_items xs)

-- the end
pub at_end : (end : ℕ) (m : PureModule) (ts : Tokens) (read : Read PureModule) → read ≡ got m ts → ends_at end ts ≡ true
    → up_to_end end read ≡ Ok m
at_end end m (stop at) read r e = ap (up_to_end end) r ∙ ap (λ b. if b then Ok m else Err at) e
at_end end m (token at t rest) read r e = absurd (cc)

pub not_at_end : (end : ℕ) (m : PureModule) (ts : Tokens) (read : Read PureModule) → read ≡ got m ts
    → ends_at end ts ≡ false → up_to_end end read ≡ Err (place_of ts)
not_at_end end m (stop at) read r e = ap (up_to_end end) r ∙ ap (λ b. if b then Ok m else Err at) e
not_at_end end m (token at t rest) read r e = ap (up_to_end end) r
