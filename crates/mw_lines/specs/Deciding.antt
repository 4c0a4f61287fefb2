-- Which lines name types, and which types are made from a root, as functions.
use Rattle.std.specs.Prelude.{ℕ, Bool, true, false, ◌&&◌, not, ◌==◌, nat_lt, List, [], ◌∷◌, ◌++◌, length}
use Rattle.std.specs.Prelude.{Option, Some, None, get_or, if◌then◌else◌}
use Rattle.mw_types.specs.Types.{TypeExpression, int_ty, bool_ty, unknown, pair_ty, function_ty, code_ty, closed_ty}
use Rattle.mw_types.specs.Types.{Substitution, apply}
use Rattle.mw_lines.specs.TypeLines.{TypeLine, int_line, bool_line, unknown_line, pair_line, arrow_line, code_line}
use Rattle.mw_lines.specs.TypeLines.{closed_line}
use Rattle.mw_lines.specs.Naming.{types_named}

abbrev pub holds_code : TypeExpression → Bool
holds_code int_ty = false
holds_code bool_ty = false
holds_code (unknown u) = false
holds_code (pair_ty s t) = if holds_code s then true else holds_code t
holds_code (function_ty s t) = if holds_code s then true else holds_code t
holds_code (code_ty c t) = true
holds_code (closed_ty t) = true

abbrev pub same_line : TypeLine → TypeLine → Bool
same_line int_line int_line = true
same_line bool_line bool_line = true
same_line (unknown_line u) (unknown_line v) = u == v
same_line (pair_line i j) (pair_line k l) = (i == k) && (j == l)
same_line (arrow_line i j) (arrow_line k l) = (i == k) && (j == l)
same_line (code_line c i) (code_line d k) = (c == d) && (i == k)
same_line (closed_line i) (closed_line k) = i == k
same_line _ _ = false

abbrev pub is_among : TypeLine → List TypeLine → Bool
is_among l [] = false
is_among l (k ∷ lines) = if same_line k l then true else is_among l lines

-- after lines that name these types, the line's parts are earlier ones, and content of code and of closed holds no code
abbrev pub has_parts : List TypeExpression → TypeLine → Bool
has_parts ts int_line = true
has_parts ts bool_line = true
has_parts ts (unknown_line u) = true
has_parts ts (pair_line i j) = nat_lt i (length ts) && nat_lt j (length ts)
has_parts ts (arrow_line i j) = nat_lt i (length ts) && nat_lt j (length ts)
has_parts ts (code_line c i) = nat_lt i (length ts) && not (holds_code (get_or ts i int_ty))
has_parts ts (closed_line i) = nat_lt i (length ts) && not (holds_code (get_or ts i int_ty))

-- the line names a type after these, and is none of them
abbrev pub may_follow : List TypeLine → TypeLine → Bool
may_follow lines l = has_parts (types_named lines) l && not (is_among l lines)

abbrev pub may_follow_all : List TypeLine → List TypeLine → Bool
may_follow_all before [] = true
may_follow_all before (l ∷ lines) = may_follow before l && may_follow_all (before ++ l ∷ []) lines

abbrev pub are_type_lines : List TypeLine → Bool
are_type_lines lines = may_follow_all [] lines

abbrev pub same_type : TypeExpression → TypeExpression → Bool
same_type int_ty int_ty = true
same_type bool_ty bool_ty = true
same_type (unknown u) (unknown v) = u == v
same_type (pair_ty s t) (pair_ty u v) = same_type s u && same_type t v
same_type (function_ty s t) (function_ty u v) = same_type s u && same_type t v
same_type (code_ty c t) (code_ty d u) = (c == d) && same_type t u
same_type (closed_ty t) (closed_ty u) = same_type t u
same_type _ _ = false

abbrev pub or_else : {A : Type 0} → Option A → Option A → Option A
or_else (Some x) y = Some x
or_else None y = y

abbrev pub or : {A : Type 0} → Option A → A → A
or (Some x) y = x
or None y = y

-- what stands in a type where a root has unknown u, and where it has classifier c
abbrev pub type_for : ℕ → TypeExpression → TypeExpression → Option TypeExpression
type_for u (unknown v) t = if v == u then Some t else None
type_for u (pair_ty a b) (pair_ty s t) = or_else (type_for u a s) (type_for u b t)
type_for u (function_ty a b) (function_ty s t) = or_else (type_for u a s) (type_for u b t)
type_for u (code_ty c a) (code_ty d s) = type_for u a s
type_for u (closed_ty a) (closed_ty s) = type_for u a s
type_for u _ _ = None

abbrev pub classifier_for : ℕ → TypeExpression → TypeExpression → Option ℕ
classifier_for c (pair_ty a b) (pair_ty s t) = or_else (classifier_for c a s) (classifier_for c b t)
classifier_for c (function_ty a b) (function_ty s t) = or_else (classifier_for c a s) (classifier_for c b t)
classifier_for c (code_ty e a) (code_ty d s) = if e == c then Some d else classifier_for c a s
classifier_for c (closed_ty a) (closed_ty s) = classifier_for c a s
classifier_for c _ _ = None

-- where a type is made from a root, this makes it
abbrev pub candidate : TypeExpression → TypeExpression → Substitution
candidate root t = record { ty = λ u. or (type_for u root t) int_ty; classifier = λ c. or (classifier_for c root t) 0 }

abbrev pub is_made : TypeExpression → TypeExpression → Bool
is_made root t = same_type (apply (candidate root t) root) t

-- the classifier stands in the type
abbrev pub is_in : ℕ → TypeExpression → Bool
is_in a int_ty = false
is_in a bool_ty = false
is_in a (unknown u) = false
is_in a (pair_ty s t) = if is_in a s then true else is_in a t
is_in a (function_ty s t) = if is_in a s then true else is_in a t
is_in a (code_ty c t) = if c == a then true else is_in a t
is_in a (closed_ty t) = is_in a t
