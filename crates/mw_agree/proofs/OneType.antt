-- Two types of which each assignment makes one type are one, so that a most general solution makes both sides of each
-- equation one type.
use Rattle.std.proofs.Common.{◌≡◌, refl, ap}
use Rattle.mw_term.specs.Types.{int_type, code_type}
use Rattle.mw_types.specs.Types.{TypeExpression, int_ty, bool_ty, unknown, pair_ty, function_ty, code_ty, closed_ty}
use Rattle.mw_types.specs.Types.{Assignment, value}
use Rattle.mw_infer.specs.Inferring.{least}

-- code of int for each unknown, under its own number, and each classifier unknown by its own name
abbrev pub labelled : Assignment
labelled = record { ty = λ u. code_type u int_type; classifier = λ c. c }

-- an int for each unknown tells it from all types but int, and this tells it from int and from other unknowns
pub one_type : (s t : TypeExpression) → value least s ≡ value least t → value labelled s ≡ value labelled t → s ≡ t
one_type int_ty int_ty h k = refl
one_type bool_ty bool_ty h k = refl
one_type (unknown u) (unknown v) h k = let e : u ≡ v = cc in ap unknown e
one_type (pair_ty s t) (pair_ty p q) h k = rw (one_type s p (cc) (cc), one_type t q (cc) (cc)) refl
one_type (function_ty s t) (function_ty p q) h k = rw (one_type s p (cc) (cc), one_type t q (cc) (cc)) refl
one_type (code_ty c t) (code_ty b q) h k = let e : c ≡ b = cc in rw (e, one_type t q (cc) (cc)) refl
one_type (closed_ty t) (closed_ty q) h k = rw (one_type t q (cc) (cc)) refl
one_type s t h k = absurd (cc)

pub equal_under_all : (s t : TypeExpression) → ((b : Assignment) → value b s ≡ value b t) → s ≡ t
equal_under_all s t h = one_type s t (h least) (h labelled)
