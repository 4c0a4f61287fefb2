-- Types without code types, or without any under a code type.
use Rattle.mw_term.specs.Types.{TermType, int_type, bool_type, pair_type, function_type, code_type, closed_type}

-- the type without code types: each of them is int
abbrev pub flat_type : TermType → TermType
flat_type int_type = int_type
flat_type bool_type = bool_type
flat_type (pair_type s t) = pair_type (flat_type s) (flat_type t)
flat_type (function_type s t) = function_type (flat_type s) (flat_type t)
flat_type (code_type a t) = int_type
flat_type (closed_type t) = int_type

-- the type without code types under a code type
abbrev pub formed_type : TermType → TermType
formed_type int_type = int_type
formed_type bool_type = bool_type
formed_type (pair_type s t) = pair_type (formed_type s) (formed_type t)
formed_type (function_type s t) = function_type (formed_type s) (formed_type t)
formed_type (code_type a t) = code_type a (flat_type t)
formed_type (closed_type t) = closed_type (flat_type t)
