-- The types without unknowns as types with unknowns.
use Rattle.mw_term.specs.declared.term.Base.{Base}
use Rattle.mw_term.specs.declared.term.Primitive.{Primitive as Prim}
use Rattle.mw_term.specs.Terms.{KernelType, GroundType}
use Rattle.mw_term.specs.Types.{base_in, ground_in, kernel_in, primitive_in}
use Rattle.mw_types.specs.Types.{TypeExpression, int_ty, bool_ty, pair_ty, function_ty}

-- base types, ground types, kernel types and the types of what primitives give, as types with unknowns
abbrev pub base_expression : Base → TypeExpression
base_expression b = base_in int_ty bool_ty b

abbrev pub ground_expression : GroundType → TypeExpression
ground_expression t = ground_in int_ty bool_ty pair_ty t

abbrev pub kernel_expression : KernelType → TypeExpression
kernel_expression k = kernel_in int_ty bool_ty pair_ty function_ty k

abbrev pub primitive_expression : Prim → TypeExpression
primitive_expression p = primitive_in int_ty bool_ty p
