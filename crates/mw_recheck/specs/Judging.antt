-- Whether node lines are right for a term, by the places of type lines.
use Rattle.std.specs.Prelude.{ℕ, Bool, true, false, ◌&&◌, not, ◌==◌, nat_lt, if◌then◌else◌}
use Rattle.std.specs.Prelude.{List, [], ◌∷◌, length, Option, Some, None, slice_get, get_or}
use Rattle.mw_term.specs.declared.term.Primitive.{Primitive as Prim}
use Rattle.mw_term.specs.Terms.{Expression, num, truth, var, glob, fun, fix, app, bind, cond, pair, fst, snd, prim}
use Rattle.mw_term.specs.Terms.{bracket, escape, run, close, opened, lift, lift_b, done}
use Rattle.mw_term.specs.Types.{Level, live, under, primitive_in}
use Rattle.mw_types.specs.Types.{TypeExpression, int_ty, closed_ty}
use Rattle.mw_types.specs.Expressions.{kernel_expression}
use Rattle.mw_lines.specs.TypeLines.{TypeLine, int_line, bool_line, pair_line, arrow_line, code_line, closed_line}
use Rattle.mw_lines.specs.Naming.{types_named}
use Rattle.mw_lines.specs.Deciding.{same_line, same_type, holds_code, is_made, is_in}
use Rattle.mw_recheck.specs.Options.{◌>>=◌}
use Rattle.mw_recheck.specs.Notes.{TopNote, let_root, kernel_root, hidden, BinderNote, plain_note, quoted_note}

-- a binder by the place of its type's line, at level 1 after its classifier
pub data PlacedBinder : Type 0 where
  plain_at : (i : ℕ) → PlacedBinder
  quoted_at : (c i : ℕ) → PlacedBinder

abbrev pub placed : Level → ℕ → PlacedBinder
placed live i = plain_at i
placed (under c) i = quoted_at c i

-- the type that the line at a place names
abbrev pub type_of : List TypeLine → ℕ → TypeExpression
type_of lines i = get_or (types_named lines) i int_ty

abbrev pub note_of : List TypeLine → PlacedBinder → BinderNote
note_of lines (plain_at i) = plain_note (type_of lines i)
note_of lines (quoted_at c i) = quoted_note c (type_of lines i)

abbrev pub notes_of : List TypeLine → List PlacedBinder → List BinderNote
notes_of lines [] = []
notes_of lines (x ∷ g) = note_of lines x ∷ notes_of lines g

abbrev pub same_binder : Option PlacedBinder → PlacedBinder → Bool
same_binder (Some (plain_at i)) (plain_at j) = i == j
same_binder (Some (quoted_at c i)) (quoted_at d j) = (c == d) && (i == j)
same_binder _ _ = false

-- the line at a place is this one
abbrev pub is_same : Option TypeLine → TypeLine → Bool
is_same (Some k) l = same_line k l
is_same None l = false

abbrev pub is_line : List TypeLine → ℕ → TypeLine → Bool
is_line lines i l = is_same (slice_get lines i) l

-- the line at a place is of code under this classifier, and this line is its content's
abbrev pub has_content : List TypeLine → ℕ → TypeLine → Option TypeLine → Bool
has_content lines c l (Some (code_line d i)) = (d == c) && is_line lines i l
has_content lines c l _ = false

-- a place names a type that fits the level
abbrev pub fits : List TypeLine → Level → ℕ → Bool
fits lines live i = nat_lt i (length lines)
fits lines (under c) i = nat_lt i (length lines) && not (holds_code (type_of lines i))

-- the classifier stands in what is known of binders
abbrev pub stands_at : List TypeLine → ℕ → PlacedBinder → Bool
stands_at lines a (plain_at i) = is_in a (type_of lines i)
stands_at lines a (quoted_at c i) = if c == a then true else is_in a (type_of lines i)

abbrev pub stands_in : List TypeLine → ℕ → List PlacedBinder → Bool
stands_in lines a [] = false
stands_in lines a (x ∷ g) = if stands_at lines a x then true else stands_in lines a g

-- what a name has can be used at a type
abbrev pub is_use : Option TopNote → TypeExpression → Bool
is_use (Some (let_root r)) t = is_made r t
is_use (Some (kernel_root k)) t = same_type t (closed_ty (kernel_expression k))
is_use (Some hidden) t = false
is_use None t = false

-- A node's line: the place of its type, and then what it names further, as many numbers as its form has.
pub record NodeLine : Type 0 where
  pub own : ℕ
  pub second : ℕ
  pub third : ℕ

-- how many numbers the line of a node has, and how many of them are types
pub data Form : Type 0 where
  one_type : Form
  two_types : Form
  three_types : Form
  type_and_classifier : Form
  two_types_and_classifier : Form

abbrev pub form_of : Expression → Form
form_of (num z) = one_type
form_of (truth b) = one_type
form_of (var i) = one_type
form_of (glob i) = one_type
form_of (fun e) = two_types
form_of (fix e) = three_types
form_of (app f a) = one_type
form_of (bind d e) = two_types
form_of (cond c a b) = one_type
form_of (pair a b) = one_type
form_of (fst e) = two_types
form_of (snd e) = two_types
form_of (prim p a b) = one_type
form_of (bracket e) = type_and_classifier
form_of (escape e) = one_type
form_of (run k e) = one_type
form_of (close at e) = two_types_and_classifier
form_of (opened e) = two_types_and_classifier
form_of (lift e) = type_and_classifier
form_of (lift_b e) = type_and_classifier
form_of (done v) = one_type

-- the line of a node of a form, where these are its numbers
abbrev pub line_of_form : Form → List ℕ → Option NodeLine
line_of_form one_type (t ∷ []) = Some (record { own = t; second = 0; third = 0 })
line_of_form two_types (t ∷ s ∷ []) = Some (record { own = t; second = s; third = 0 })
line_of_form type_and_classifier (t ∷ c ∷ []) = Some (record { own = t; second = c; third = 0 })
line_of_form three_types (t ∷ s ∷ r ∷ []) = Some (record { own = t; second = s; third = r })
line_of_form two_types_and_classifier (t ∷ s ∷ c ∷ []) = Some (record { own = t; second = s; third = c })
line_of_form _ _ = None

-- the types of a node's line fit the level
abbrev pub all_fit : List TypeLine → Level → Form → NodeLine → Bool
all_fit lines m one_type x = fits lines m x.own
all_fit lines m two_types x = fits lines m x.own && fits lines m x.second
all_fit lines m three_types x = fits lines m x.own && (fits lines m x.second && fits lines m x.third)
all_fit lines m type_and_classifier x = fits lines m x.own
all_fit lines m two_types_and_classifier x = fits lines m x.own && fits lines m x.second

-- a form may stand at a level
abbrev pub may_stand : Level → Expression → Bool
may_stand live (escape e) = false
may_stand live (done v) = false
may_stand live e = true
may_stand (under a) (glob i) = false
may_stand (under a) (bracket e) = false
may_stand (under a) (run k e) = false
may_stand (under a) (close at e) = false
may_stand (under a) (opened e) = false
may_stand (under a) (lift e) = false
may_stand (under a) (lift_b e) = false
may_stand (under a) (done v) = false
may_stand (under a) e = true

-- the classifier of level 1
abbrev pub classifier_of : Level → ℕ
classifier_of live = 0
classifier_of (under a) = a

abbrev pub primitive_line : Prim → TypeLine
primitive_line p = primitive_in int_line bool_line p

-- the line of a close agrees with the place of its part's type
abbrev pub closes : List TypeLine → List PlacedBinder → NodeLine → ℕ → Bool
closes ls g x a =
    is_line ls x.own (closed_line x.second) &&
    (not (stands_in ls x.third g) && is_line ls a (code_line x.third x.second))

-- and that of a lift, at the base type of a line
abbrev pub lifts : List TypeLine → NodeLine → ℕ → TypeLine → Bool
lifts ls x a l = has_content ls x.second l (slice_get ls x.own) && is_line ls a l

-- A node's line agrees with the places of its parts' types, of which there are up to three.
abbrev pub agrees : List TypeLine → List TopNote → List PlacedBinder → Level → Expression → NodeLine → (a b c : ℕ)
    → Bool
agrees ls tops g m (num z) x a b c = is_line ls x.own int_line
agrees ls tops g m (truth z) x a b c = is_line ls x.own bool_line
agrees ls tops g m (var i) x a b c = same_binder (slice_get g i) (placed m x.own)
agrees ls tops g m (glob i) x a b c = is_use (slice_get tops i) (type_of ls x.own)
agrees ls tops g m (fun e) x a b c = is_line ls x.own (arrow_line x.second a)
agrees ls tops g m (fix e) x a b c = (x.second == x.own) && is_line ls x.own (arrow_line x.third a)
agrees ls tops g m (app f e) x a b c = is_line ls a (arrow_line b x.own)
agrees ls tops g m (bind d e) x a b c = (a == x.second) && (b == x.own)
agrees ls tops g m (cond p d e) x a b c = is_line ls a bool_line && ((b == x.own) && (c == x.own))
agrees ls tops g m (pair d e) x a b c = is_line ls x.own (pair_line a b)
agrees ls tops g m (fst e) x a b c = is_line ls a (pair_line x.own x.second)
agrees ls tops g m (snd e) x a b c = is_line ls a (pair_line x.second x.own)
agrees ls tops g m (prim o d e) x a b c =
    is_line ls x.own (primitive_line o) && (is_line ls a int_line && is_line ls b int_line)
agrees ls tops g m (bracket e) x a b c = is_line ls x.own (code_line x.second a)
agrees ls tops g m (escape e) x a b c = is_line ls a (code_line (classifier_of m) x.own)
agrees ls tops g m (run k e) x a b c =
    same_type (type_of ls x.own) (kernel_expression k) && is_line ls a (closed_line x.own)
agrees ls tops g m (close at e) x a b c = closes ls g x a
agrees ls tops g m (opened e) x a b c =
    is_line ls x.own (code_line x.third x.second) && is_line ls a (closed_line x.second)
agrees ls tops g m (lift e) x a b c = lifts ls x a int_line
agrees ls tops g m (lift_b e) x a b c = lifts ls x a bool_line
agrees ls tops g m (done v) x a b c = false

-- the next node's line, and the lines after it
abbrev pub next_node : Form → List (List ℕ) → Option (NodeLine × List (List ℕ))
next_node f [] = None
next_node f (l ∷ nodes) = line_of_form f l >>= λ x. Some (x, nodes)

-- the line of a term's root, whose types fit the level, at which the form may stand
abbrev pub own_at : List TypeLine → Level → Expression → List (List ℕ) → Option (NodeLine × List (List ℕ))
own_at ls m e nodes = next_node (form_of e) nodes >>= λ x.
    if may_stand m e && all_fit ls m (form_of e) x.0 then Some x else None

-- the place of a term's type, once its parts are judged, and the node lines after the term's
abbrev pub ended : List TypeLine → List TopNote → List PlacedBinder → Level → Expression → NodeLine → (a b c : ℕ)
    → List (List ℕ) → Option (ℕ × List (List ℕ))
ended ls tops g m e x a b c rest = if agrees ls tops g m e x a b c then Some (x.own, rest) else None

abbrev pub leaf : List TypeLine → List TopNote → List PlacedBinder → Level → Expression → List (List ℕ)
    → Option (ℕ × List (List ℕ))
leaf ls tops g m e nodes = own_at ls m e nodes >>= λ x. ended ls tops g m e x.0 0 0 0 x.1

-- The place of a term's type, and the node lines after the term's, where these are right for it: in this environment
-- and at this level, with these top-level names.
abbrev pub judged : List TypeLine → List TopNote → List PlacedBinder → Level → Expression → List (List ℕ)
    → Option (ℕ × List (List ℕ))
judged ls tops g m (num z) nodes = leaf ls tops g m (num z) nodes
judged ls tops g m (truth z) nodes = leaf ls tops g m (truth z) nodes
judged ls tops g m (var i) nodes = leaf ls tops g m (var i) nodes
judged ls tops g m (glob i) nodes = leaf ls tops g m (glob i) nodes
judged ls tops g m (done v) nodes = leaf ls tops g m (done v) nodes
judged ls tops g m (fun e) nodes =
    own_at ls m (fun e) nodes >>= λ x.
    (judged ls tops (placed m x.0.second ∷ g) m e x.1 >>= λ a. ended ls tops g m (fun e) x.0 a.0 0 0 a.1)
judged ls tops g m (fix e) nodes =
    own_at ls m (fix e) nodes >>= λ x.
    (judged ls tops (placed m x.0.third ∷ placed m x.0.second ∷ g) m e x.1 >>= λ a.
    ended ls tops g m (fix e) x.0 a.0 0 0 a.1)
judged ls tops g m (app f e) nodes =
    own_at ls m (app f e) nodes >>= λ x.
    (judged ls tops g m f x.1 >>= λ a. (judged ls tops g m e a.1 >>= λ b. ended ls tops g m
    (app f e) x.0 a.0 b.0 0 b.1))
judged ls tops g m (bind d e) nodes =
    own_at ls m (bind d e) nodes >>= λ x.
    (judged ls tops g m d x.1 >>= λ a.
    (judged ls tops (placed m x.0.second ∷ g) m e a.1 >>= λ b. ended ls tops g m (bind d e) x.0 a.0 b.0 0 b.1))
judged ls tops g m (cond p d e) nodes =
    own_at ls m (cond p d e) nodes >>= λ x.
    (judged ls tops g m p x.1 >>= λ a.
    (judged ls tops g m d a.1 >>= λ b.
    (judged ls tops g m e b.1 >>= λ c. ended ls tops g m (cond p d e) x.0 a.0 b.0 c.0 c.1)))
judged ls tops g m (pair d e) nodes =
    own_at ls m (pair d e) nodes >>= λ x.
    (judged ls tops g m d x.1 >>= λ a. (judged ls tops g m e a.1 >>= λ b. ended ls tops g m
    (pair d e) x.0 a.0 b.0 0 b.1))
judged ls tops g m (prim o d e) nodes =
    own_at ls m (prim o d e) nodes >>= λ x.
    (judged ls tops g m d x.1 >>= λ a. (judged ls tops g m e a.1 >>= λ b. ended ls tops g m
    (prim o d e) x.0 a.0 b.0 0 b.1))
judged ls tops g m (fst e) nodes =
    own_at ls m (fst e) nodes >>= λ x. (judged ls tops g m e x.1 >>= λ a. ended ls tops g m (fst e) x.0 a.0 0 0 a.1)
judged ls tops g m (snd e) nodes =
    own_at ls m (snd e) nodes >>= λ x. (judged ls tops g m e x.1 >>= λ a. ended ls tops g m (snd e) x.0 a.0 0 0 a.1)
judged ls tops g m (bracket e) nodes =
    own_at ls m (bracket e) nodes >>= λ x.
    (judged ls tops g (under x.0.second) e x.1 >>= λ a. ended ls tops g m (bracket e) x.0 a.0 0 0 a.1)
judged ls tops g m (escape e) nodes =
    own_at ls m (escape e) nodes >>= λ x.
    (judged ls tops g live e x.1 >>= λ a. ended ls tops g m (escape e) x.0 a.0 0 0 a.1)
judged ls tops g m (run k e) nodes =
    own_at ls m (run k e) nodes >>= λ x. (judged ls tops g m e x.1 >>= λ a. ended ls tops g m (run k e) x.0 a.0 0 0 a.1)
judged ls tops g m (close at e) nodes =
    own_at ls m (close at e) nodes >>= λ x.
    (judged ls tops g m e x.1 >>= λ a. ended ls tops g m (close at e) x.0 a.0 0 0 a.1)
judged ls tops g m (opened e) nodes =
    own_at ls m (opened e) nodes >>= λ x. (judged ls tops g m e x.1 >>= λ a. ended ls tops g m
    (opened e) x.0 a.0 0 0 a.1)
judged ls tops g m (lift e) nodes =
    own_at ls m (lift e) nodes >>= λ x. (judged ls tops g m e x.1 >>= λ a. ended ls tops g m (lift e) x.0 a.0 0 0 a.1)
judged ls tops g m (lift_b e) nodes =
    own_at ls m (lift_b e) nodes >>= λ x. (judged ls tops g m e x.1 >>= λ a. ended ls tops g m
    (lift_b e) x.0 a.0 0 0 a.1)

-- whether a node's line agrees is said by lines alone
abbrev pub IsAlone : Expression → Type 0
IsAlone (glob i) = ⊥
IsAlone (run k e) = ⊥
IsAlone (close at e) = ⊥
IsAlone _ = Unit {0}
