-- Reading modules.
use Rattle.std.specs.Prelude.{ℕ, zero, suc, ◌^◌, ◌-◌, Bool, true, false, if◌then◌else◌, nat_le, ◌&&◌, List, [], ◌∷◌}
use Rattle.std.specs.Prelude.{codes, Option, Some, None, length, Result, Ok, Err}
use Rattle.std.specs.Str.{bytes_eq}
use Rattle.mw_wasm.specs.declared.values.ValType.{ValType}
use Rattle.mw_wasm.specs.declared.modules.Limits.{Limits}
use Rattle.mw_wasm.specs.declared.modules.FuncType.{FuncType}
use Rattle.mw_wasm.specs.declared.modules.Exported.{Exported}
use Rattle.mw_wasm.specs.declared.modules.Exported.TheVariants as what
use Rattle.mw_wasm.specs.Syntax.{Code, Function, Global, Exporting, ElementSegment, DataSegment, PureModule}
use Rattle.mw_wat.specs.Tokens.{PureToken, left, right, word, string}
use Rattle.mw_wat.specs.Lexing.{stop, token, tokens}
use Rattle.mw_wat.specs.Reading.{Read, got, bad, Reader, count, place_of, ◌>>=◌, gives, fails, peek, one_of, skip, this}
use Rattle.mw_wat.specs.Reading.{opening, closing, as_number, at_most, index, some_of, all_of, as_type, value_type}
use Rattle.mw_wat.specs.Reading.{types_and_close, if_opened, if_word}
use Rattle.mw_wat.specs.Instructions.{result, expression}

-- types
abbrev pub results : Reader (List ValType)
results = do
  t ← result
  gives (t ∷ [])

abbrev pub params_then : List ValType → Reader FuncType
params_then ps = if_opened (results >>= λ rs. closing >>= λ _. gives (record { params = ps; results = rs }))
    (closing >>= λ _. gives (record { params = ps; results = [] }))

abbrev pub behind_params : Reader FuncType
behind_params = types_and_close (all_of as_type) >>= params_then

-- behind `( func (`
abbrev pub with_params : Reader FuncType
with_params = if_word (codes "param") behind_params
    (results >>= λ rs. closing >>= λ _. gives (record { params = []; results = rs }))

abbrev pub function_type : Reader FuncType
function_type = do
  _ ← opening
  _ ← this (codes "func")
  t ← if_opened with_params (closing >>= λ _. gives (record { params = []; results = [] }))
  _ ← closing
  gives t

-- functions, of at most 50,000 further locals
abbrev pub some_locals : Reader (List ValType)
some_locals = do
  _ ← this (codes "local")
  types_and_close (some_of 49_999 as_type)

abbrev pub function : Reader Function
function = do
  _ ← opening
  _ ← this (codes "type")
  k ← index
  _ ← closing
  ls ← if_opened some_locals (gives [])
  c ← expression
  gives (record { kind = k; locals = ls; body = c })

-- limits, of which the second may be missing
abbrev pub as_limit : PureToken → Option ℕ
as_limit = as_number (2 ^ 32 - 1)

abbrev pub upper : ℕ → Option ℕ → Reader Limits
upper min None = gives (record { min = min; max = None })
upper min (Some max) = skip (gives (record { min = min; max = Some max }))

abbrev pub limits : ℕ → Reader Limits
limits most = do
  min ← at_most most
  peek (λ t. upper min (as_limit t))

abbrev pub table : Reader Limits
table = do
  l ← limits 100_000
  _ ← this (codes "funcref")
  _ ← closing
  gives l

abbrev pub memory : Reader Limits
memory = do
  l ← limits 1_024
  _ ← closing
  gives l

-- globals
abbrev pub variable : Reader (ValType × Bool)
variable = do
  _ ← this (codes "mut")
  t ← value_type
  _ ← closing
  gives (t, true)

abbrev pub global : Reader Global
global = do
  t ← if_opened variable (value_type >>= λ t. gives (t, false))
  c ← expression
  gives (record { kind = t.0; variable = t.1; init = c })

-- exports
abbrev pub are_printable : List ℕ → Bool
are_printable [] = true
are_printable (b ∷ bytes) = nat_le 0x20 b && nat_le b 0x7E && are_printable bytes

abbrev pub as_name : PureToken → Option (List ℕ)
as_name (string bytes) = if are_printable bytes then Some bytes else None
as_name _ = None

abbrev pub as_string : PureToken → Option (List ℕ)
as_string (string bytes) = Some bytes
as_string _ = None

abbrev pub as_kind_word : List ℕ → Option (ℕ → Exported)
as_kind_word w = if bytes_eq w (codes "func") then Some what.Func else if bytes_eq w
    (codes "table") then Some what.Table else if bytes_eq w (codes "memory") then Some what.Memory else if bytes_eq w
    (codes "global") then Some what.Global else None

abbrev pub as_kind : PureToken → Option (ℕ → Exported)
as_kind (word w) = as_kind_word w
as_kind _ = None

abbrev pub export : Reader Exporting
export = do
  n ← one_of as_name
  _ ← opening
  w ← one_of as_kind
  x ← index
  _ ← closing
  _ ← closing
  gives (record { name = n; what = w x })

-- segments
abbrev pub offset : Reader Code
offset = do
  _ ← opening
  _ ← this (codes "offset")
  expression

abbrev pub element_behind : Code → Reader ElementSegment
element_behind c = do
  fs ← all_of as_limit
  _ ← closing
  gives (record { offset = c; funcs = fs })

abbrev pub element : Reader ElementSegment
element = offset >>= element_behind

abbrev pub data_behind : Code → Reader DataSegment
data_behind c = do
  b ← one_of as_string
  _ ← closing
  gives (record { offset = c; bytes = b })

abbrev pub data_segment : Reader DataSegment
data_segment = offset >>= data_behind

-- Fields of one kind: going says whether a field has just been opened. Behind `(` its word is in hand.
pub record Fields (A : Type 0) : Type 0 where
  pub list : List A
  pub going : Bool

-- a field is opened, or the module is closed
abbrev pub as_either : PureToken → Option Bool
as_either left = Some true
as_either right = Some false
as_either _ = None

abbrev pub next_field : Reader Bool
next_field = one_of as_either

abbrev pub in_front : {A : Type 0} → A → Fields A → Fields A
in_front x fs = record { list = x ∷ fs.list; going = fs.going }

abbrev pub fields_up_to : {A : Type 0} → ℕ → List ℕ → Reader A → Bool → Reader (Fields A)
fields_up_to zero w field going = gives (record { list = []; going = going })
fields_up_to (suc n) w field false = gives (record { list = []; going = false })
fields_up_to (suc n) w field true =
    if_word w (field >>= λ x. next_field >>= λ going. fields_up_to n w field going >>= λ fs. gives (in_front x fs))
    (gives (record { list = []; going = true }))

-- any number of them
abbrev pub fields : {A : Type 0} → List ℕ → Reader A → Bool → Reader (Fields A)
fields w field going ts = fields_up_to (suc (count ts)) w field going ts

abbrev pub head : {A : Type 0} → List A → Option A
head [] = None
head (x ∷ xs) = Some x

-- behind the last field no other is opened
abbrev pub no_more : Bool → Reader (Unit {0})
no_more true = fails
no_more false = gives tt

unfoldable pub whole_module : Reader PureModule
whole_module = do
  _ ← opening
  _ ← this (codes "module")
  going ← next_field
  types ← fields (codes "type") function_type going
  funcs ← fields (codes "func") function types.going
  tables ← fields_up_to 1 (codes "table") table funcs.going
  memories ← fields_up_to 1 (codes "memory") memory tables.going
  globals ← fields (codes "global") global memories.going
  exports ← fields (codes "export") export globals.going
  elements ← fields (codes "elem") element exports.going
  segments ← fields (codes "data") data_segment elements.going
  _ ← no_more segments.going
  gives (record {
    types = types.list;
    funcs = funcs.list;
    table = head tables.list;
    memory = head memories.list;
    globals =
        globals.list;
    exports = exports.list;
    elements = elements.list;
    segments = segments.list;
  })

-- nothing stands behind the module
abbrev pub up_to_end : (end : ℕ) → Read PureModule → Result PureModule ℕ
up_to_end end (bad rest) = Err (place_of rest)
up_to_end end (got m (token at t rest)) = Err at
up_to_end end (got m (stop at)) = if nat_le end at then Ok m else Err at

-- the limit on the length
abbrev pub limited : ℕ → Result PureModule ℕ → Result PureModule ℕ
limited end (Ok m) = if nat_le end 67_108_864 then Ok m else Err 67_108_864
limited end (Err at) = if nat_le at 67_108_864 then Err at else Err 67_108_864

-- the module whose text the bytes are, or the first bad place
abbrev pub module_read : List ℕ → Result PureModule ℕ
module_read bytes = limited (length bytes) (up_to_end (length bytes) (whole_module (tokens (length bytes) bytes)))
