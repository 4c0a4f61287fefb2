-- The readers of modules are local.
use Rattle.std.proofs.Common.{◌≡◌, ℕ, zero, suc, ◌<◌, List, [], ◌∷◌, refl, ap, arith, Bool, true, false, Option, Some}
use Rattle.std.proofs.Common.{None}
use Rattle.std.specs.Prelude.{codes, if◌then◌else◌}
use Rattle.std.specs.Str.{bytes_eq}
use Rattle.mw_wasm.specs.declared.values.ValType.{ValType}
use Rattle.mw_wasm.specs.declared.modules.FuncType.{FuncType}
use Rattle.mw_wasm.specs.Syntax.{Code, Function, Global}
use Rattle.mw_wat.specs.Tokens as t
use Rattle.mw_wat.specs.Lexing.{Tokens, token}
use Rattle.mw_wat.specs.Reading.{got, Reader, count, and_then, ◌>>=◌, gives, one_of, skip, this, as_word, as_left}
use Rattle.mw_wat.specs.Reading.{as_right, opening, closing, as_number, at_most, index, some_of, all_of, as_type}
use Rattle.mw_wat.specs.Reading.{value_type, types_and_close, if_opened}
use Rattle.mw_wat.specs.Instructions.{result, expression}
use Rattle.mw_wat.specs.Modules.{results, params_then, with_params, function_type, some_locals, function, as_limit}
use Rattle.mw_wat.specs.Modules.{upper, limits, table, memory, variable, global, as_name, as_string, as_kind, export}
use Rattle.mw_wat.specs.Modules.{offset, element_behind, element, data_behind, data_segment, Fields, as_either}
use Rattle.mw_wat.specs.Modules.{next_field, in_front, fields_up_to, fields, no_more, whole_module}
use Rattle.mw_wat.proofs.Lookahead.{Local, local_gives, local_fails, local_one, local_then, local_skip, local_peek}
use Rattle.mw_wat.proofs.Lookahead.{local_some, local_all, local_bounded}
use Rattle.mw_wat.proofs.LookaheadOfCode.{local_if_left, local_if_word, local_index, local_result, local_expression}
use Rattle.mw_wat.proofs.LookaheadOfCode.{then_same}

-- fixed tokens before and behind
pub local_this : {A : Type 0} (w : List ℕ) (r : Reader A) → Local r → Local (this w >>= λ _. r)
local_this w r a = local_then (this w) (λ _. r) (local_one (as_word w)) (λ _. a)

pub local_opening : {A : Type 0} (r : Reader A) → Local r → Local (opening >>= λ _. r)
local_opening r a = local_then opening (λ _. r) (local_one as_left) (λ _. a)

pub local_closing : {A : Type 0} (x : A) → Local (closing >>= λ _. gives x)
local_closing x = local_then closing (λ _. gives x) (local_one as_right) (λ _. local_gives x)

-- types
pub local_types : (more : Reader (List ValType)) → Local more → Local (types_and_close more)
local_types more a = local_then value_type _ (local_one as_type)
    (λ t. local_then more _ a (λ ts. local_closing (t ∷ ts)))

pub local_results : Local results
local_results = local_then result (λ t. gives (t ∷ [])) local_result (λ t. local_gives (t ∷ []))

abbrev pub typed : List ValType → List ValType → FuncType
typed ps rs = record { params = ps; results = rs }

pub local_params_then : (ps : List ValType) → Local (params_then ps)
local_params_then ps = local_if_left _ _ (local_then results _ local_results (λ rs. local_closing (typed ps rs)))
    (local_closing (typed ps []))

pub local_with_params : Local with_params
local_with_params = local_if_word (codes "param") _ _
    (local_then (types_and_close (all_of as_type)) params_then
    (local_types (all_of as_type) (local_all as_type)) local_params_then)
    (local_then results _ local_results (λ rs. local_closing (typed [] rs)))

pub local_function_type : Local function_type
local_function_type = local_opening _
    (local_this (codes "func") _
    (local_then (if_opened with_params (closing >>= λ _. gives (typed [] []))) _
    (local_if_left _ _ local_with_params (local_closing (typed [] []))) (λ t. local_closing t)))

abbrev pub function_with : ℕ → List ValType → Code → Function
function_with k ls c = record { kind = k; locals = ls; body = c }

pub local_some_locals : Local some_locals
local_some_locals = local_this (codes "local") _ (local_types (some_of 49_999 as_type) (local_some 49_999 as_type))

pub local_function : Local function
local_function =
    local_opening _
    (local_this (codes "type") _
    (local_then index _ local_index
    (λ k. local_then closing _ (local_one as_right)
    (λ _. local_then (if_opened some_locals (gives [])) _
    (local_if_left _ _ local_some_locals (local_gives []))
    (λ ls. local_then expression _ local_expression (λ c. local_gives (function_with k ls c)))))))

pub local_limits : (most : ℕ) → Local (limits most)
local_limits most = local_then (at_most most) _ (local_one (as_number most))
    (λ min. local_peek (λ t. upper min (as_limit t)) (λ t. by_limit min (as_limit t)))
  where
    by_limit : (min : ℕ) (o : Option ℕ) → Local (upper min o)
    by_limit min None = local_gives _
    by_limit min (Some max) = local_skip _ (local_gives _)

pub local_table : Local table
local_table = local_then (limits 100_000) _ (local_limits 100_000)
    (λ l. local_this (codes "funcref") _ (local_closing l))

pub local_memory : Local memory
local_memory = local_then (limits 1_024) _ (local_limits 1_024) (λ l. local_closing l)

abbrev pub global_with : ValType × Bool → Code → Global
global_with t c = record { kind = t.0; variable = t.1; init = c }

pub local_variable : Local variable
local_variable = local_this (codes "mut") _
    (local_then value_type _ (local_one as_type) (λ t. local_closing (t, true)))

pub local_global : Local global
local_global = local_then (if_opened variable (value_type >>= λ t. gives (t, false))) _
    (local_if_left _ _ local_variable (local_then value_type _ (local_one as_type) (λ t. local_gives (t, false))))
    (λ t. local_then expression _ local_expression (λ c. local_gives (global_with t c)))

pub local_export : Local export
local_export = local_then (one_of as_name) _ (local_one as_name)
    (λ n. local_opening _
    (local_then (one_of as_kind) _ (local_one as_kind)
    (λ w. local_then index _ local_index
    (λ x. local_then closing _ (local_one as_right) (λ _. local_closing _)))))

pub local_offset : Local offset
local_offset = local_opening _ (local_this (codes "offset") expression local_expression)

pub local_element : Local element
local_element = local_then offset element_behind local_offset
    (λ c. local_then (all_of as_limit) _ (local_all as_limit) (λ fs. local_closing _))

pub local_data : Local data_segment
local_data = local_then offset data_behind local_offset
    (λ c. local_then (one_of as_string) _ (local_one as_string) (λ b. local_closing _))

-- fields of one kind
pub local_fields_up_to : {A : Type 0} (n : ℕ) (w : List ℕ) (field : Reader A) → Local field → (going : Bool) → Local
    (fields_up_to n w field going)
local_fields_up_to zero w field a going = local_gives _
local_fields_up_to (suc n) w field a false = local_gives _
local_fields_up_to (suc n) w field a true =
    local_if_word w _ _
    (local_then field _ a
    (λ x. local_then next_field _ (local_one as_either)
    (λ going. local_then (fields_up_to n w field going) _ (local_fields_up_to n w field a going)
    (λ fs. local_gives (in_front x fs))))) (local_gives _)

module _ {A : Type 0} (w : List ℕ) (field : Reader A) (a : Local field) where
  behind_lexeme : ℕ → A → Reader (Fields A)
  behind_lexeme n x = next_field >>= λ going. fields_up_to n w field going >>= λ fs. gives (in_front x fs)

  pub same_fields : (n m : ℕ) (going : Bool) (ts : Tokens) → count ts < n → count ts < m
      → fields_up_to n w field going ts ≡ fields_up_to m w field going ts
  unfolding behind_lexeme
  same_fields zero m going ts p q = absurd (omega arith)
  same_fields (suc n) zero going ts p q = absurd (omega arith)
  same_fields (suc n) (suc m) true (token at (t.word v) ts) p q = by_test (bytes_eq v w)
      (then_same field field (behind_lexeme n) (behind_lexeme m) ts refl a λ x rest k.
      then_same next_field next_field (λ going. fields_up_to n w field going >>= λ fs. gives (in_front x fs))
      (λ going. fields_up_to m w field going >>= λ fs. gives (in_front x fs)) rest refl
      (local_one as_either) λ going last l.
      ap (λ r. and_then r (λ fs rest. got (in_front x fs) rest))
      (same_fields n m going last (omega arith) (omega arith)))
    where
      by_test : (b : Bool) → (field >>= behind_lexeme n) ts ≡ (field >>= behind_lexeme m) ts
          → (if b then skip (field >>= behind_lexeme n) else gives (record { list = []; going = true }))
          (token at (t.word v) ts) ≡
          (if b then skip (field >>= behind_lexeme m) else gives (record { list = []; going = true }))
          (token at (t.word v) ts)
      by_test true e = e
      by_test false e = refl
  same_fields (suc n) (suc m) _ _ p q = refl

  pub local_fields : (going : Bool) → Local (fields w field going)
  local_fields going = local_bounded (fields w field going) (λ n. fields_up_to n w field going)
      (λ n ts q. same_fields (suc (count ts)) n going ts (omega arith) q) (λ n. local_fields_up_to n w field a going)

pub local_no_more : (going : Bool) → Local (no_more going)
local_no_more true = local_fails
local_no_more false = local_gives tt

pub local_module : Local whole_module
unfolding whole_module
local_module =
    local_opening _ (local_this (codes "module") _ (local_then next_field _ (local_one as_either) (λ going.
    local_then (fields (codes "type") function_type going) _
    (local_fields (codes "type") function_type local_function_type going) (λ types.
    local_then (fields (codes "func") function types.going) _
    (local_fields (codes "func") function local_function types.going) (λ funcs.
    local_then (fields_up_to 1 (codes "table") table funcs.going) _
    (local_fields_up_to 1 (codes "table") table local_table funcs.going) (λ tables.
    local_then (fields_up_to 1 (codes "memory") memory tables.going) _
    (local_fields_up_to 1 (codes "memory") memory local_memory tables.going) (λ memories.
    local_then (fields (codes "global") global memories.going) _
    (local_fields (codes "global") global local_global memories.going) (λ globals.
    local_then (fields (codes "export") export globals.going) _
    (local_fields (codes "export") export local_export globals.going) (λ exports.
    local_then (fields (codes "elem") element exports.going) _
    (local_fields (codes "elem") element local_element exports.going) (λ elements.
    local_then (fields (codes "data") data_segment elements.going) _
    (local_fields (codes "data") data_segment local_data elements.going) (λ segments.
    local_then (no_more segments.going) _ (local_no_more segments.going) (λ _. local_gives _))))))))))))
