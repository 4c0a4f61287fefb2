-- A module read field by field, with at most one table and one memory.
use Rattle.std.specs.Prelude.{ℕ, Bool, false, nat_le, List, codes, Option}
use Rattle.mw_wasm.specs.declared.modules.Limits.{Limits}
use Rattle.mw_wasm.specs.declared.modules.FuncType.{FuncType}
use Rattle.mw_wasm.specs.Syntax.{Function, PureModule}
use Rattle.mw_wat.specs.Lexing.{Tokens, stop, token}
use Rattle.mw_wat.specs.Reading.{Reader, ◌>>=◌, gives, this, opening}
use Rattle.mw_wat.specs.Modules.{function_type, function, table, memory, global, export, element, data_segment}
use Rattle.mw_wat.specs.Modules.{next_field, fields, no_more}
use Rattle.mw_wat.specs.Parts.{single}

abbrev pub behind_memory : List FuncType → List Function → Option Limits → Option Limits → Bool → Reader PureModule
behind_memory types funcs tab mem going = do
  globals ← fields (codes "global") global going
  exports ← fields (codes "export") export globals.going
  elements ← fields (codes "elem") element exports.going
  segments ← fields (codes "data") data_segment elements.going
  _ ← no_more segments.going
  gives (record {
    types = types;
    funcs = funcs;
    table = tab;
    memory = mem;
    globals = globals.list;
    exports = exports.list;
    elements = elements.list;
    segments = segments.list;
  })

abbrev pub behind_funcs : List FuncType → List Function → Bool → Reader PureModule
behind_funcs types funcs going = do
  tab ← single (codes "table") table going
  mem ← single (codes "memory") memory tab.1
  behind_memory types funcs tab.0 mem.0 mem.1

abbrev pub module_chain : Reader PureModule
module_chain = do
  _ ← opening
  _ ← this (codes "module")
  going ← next_field
  types ← fields (codes "type") function_type going
  funcs ← fields (codes "func") function types.going
  behind_funcs types.list funcs.list funcs.going

-- whether nothing stands behind
abbrev pub ends_at : ℕ → Tokens → Bool
ends_at end (stop at) = nat_le end at
ends_at end (token at t rest) = false
