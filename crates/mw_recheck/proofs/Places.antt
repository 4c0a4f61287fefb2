-- Types and lines by their places.
use Rattle.std.proofs.Common.{◌≡◌, ℕ, ◌<◌, true, List, length, Option}
use Rattle.std.proofs.Common.{Some, None, refl, sym, ap, ◌∙◌, arith}
use Rattle.std.specs.Prelude.{slice_get}
use Rattle.std.proofs.lemmas.Option.{slice_get_within, slice_get-get_or, get_or_from_slice_get}
use Rattle.mw_term.specs.declared.term.Primitive.{Primitive as Prim}
use Rattle.mw_term.specs.declared.term.Primitive.TheVariants.{Add, Sub, Mul, Div, Mod, Eq, Lt, Le}
use Rattle.mw_types.specs.Expressions.{primitive_expression}
use Rattle.mw_types.specs.Types.{TypeExpression, int_ty}
use Rattle.mw_lines.specs.TypeLines.{TypeLine, int_line, bool_line, unknown_line, pair_line, arrow_line, code_line}
use Rattle.mw_lines.specs.TypeLines.{closed_line, NamesType, AreTypeLines, names_int, names_bool, names_unknown}
use Rattle.mw_lines.specs.TypeLines.{names_pair, names_arrow, names_code, names_closed}
use Rattle.mw_lines.specs.Naming.{types_named, type_named}
use Rattle.mw_lines.proofs.NamedTypes.{one_type, line_same, same_line-refl}
use Rattle.mw_lines.proofs.OneLine.{line_at, one_line}
use Rattle.mw_recheck.specs.Judging.{type_of, is_same, is_line, primitive_line}

pub is_line-there : (ls : List TypeLine) (i : ℕ) (l : TypeLine) → is_line ls i l ≡ true → slice_get ls i ≡ Some l
is_line-there ls i l h = at_line (slice_get ls i) h
  where
    at_line : (o : Option TypeLine) → is_same o l ≡ true → o ≡ Some l
    at_line (Some k) h = ap (λ x. Some x) (line_same k l h)
    at_line None h = absurd (cc)

-- the parts of a line are lines
abbrev pub HasParts : List TypeLine → TypeLine → Type 0
HasParts ls (pair_line i j) = (i < length ls) × (j < length ls)
HasParts ls (arrow_line i j) = (i < length ls) × (j < length ls)
HasParts ls (code_line c i) = i < length ls
HasParts ls (closed_line i) = i < length ls
HasParts ls _ = Unit {0}

-- the line of a primitive's result
pub primitive_names : (ls : List TypeLine) (o : Prim)
    → HasParts ls (primitive_line o) × (type_named (types_named ls) (primitive_line o) ≡ primitive_expression o)
primitive_names ls Add = (tt, refl)
primitive_names ls Sub = (tt, refl)
primitive_names ls Mul = (tt, refl)
primitive_names ls Div = (tt, refl)
primitive_names ls Mod = (tt, refl)
primitive_names ls Eq = (tt, refl)
primitive_names ls Lt = (tt, refl)
primitive_names ls Le = (tt, refl)

module _ (ls : List TypeLine) (known : AreTypeLines ls (types_named ls)) where
  pub type_there : (i : ℕ) → i < length ls → slice_get (types_named ls) i ≡ Some (type_of ls i)
  type_there i h = slice_get-get_or (types_named ls) i int_ty (omega (arith, h, known.count))

  pub there_within : (i : ℕ) (t : TypeExpression) → slice_get (types_named ls) i ≡ Some t → i < length ls
  there_within i t h = omega (arith, slice_get_within (types_named ls) i t h, known.count)

  pub type_is : (i : ℕ) (t : TypeExpression) → slice_get (types_named ls) i ≡ Some t → type_of ls i ≡ t
  type_is i t h = get_or_from_slice_get (types_named ls) i t int_ty h

  pub line_within : (i : ℕ) (l : TypeLine) → slice_get ls i ≡ Some l → i < length ls
  line_within i l h = slice_get_within ls i l h

  pub one_place : (i j : ℕ) → i < length ls → j < length ls → type_of ls i ≡ type_of ls j → i ≡ j
  one_place i j p q e = one_line ls (types_named ls) known (type_of ls j) i j (type_there i p
      ∙ ap (λ t. Some t) e) (type_there j q)

  -- the type of a line by its parts
  pub named_at : (i : ℕ) (l : TypeLine) → slice_get ls i ≡ Some l → NamesType (types_named ls) i l (type_of ls i)
  named_at i l h = known.each i l (type_of ls i) h (type_there i (line_within i l h))

  -- the parts of a line are lines, and give its type
  pub line-names : (i : ℕ) (l : TypeLine) → slice_get ls i ≡ Some l
      → HasParts ls l × (type_of ls i ≡ type_named (types_named ls) l)
  line-names i l h = (of l (type_of ls i) n, one_type (types_named ls) i l (type_of ls i) n)
    where
      n : NamesType (types_named ls) i l (type_of ls i)
      n = named_at i l h

      of : (l : TypeLine) (t : TypeExpression) → NamesType (types_named ls) i l t → HasParts ls l
      of l t names_int = tt
      of l t names_bool = tt
      of l t names_unknown = tt
      of l t (names_pair x y) = (there_within _ _ x.named, there_within _ _ y.named)
      of l t (names_arrow x y) = (there_within _ _ x.named, there_within _ _ y.named)
      of l t (names_code x n) = there_within _ _ x.named
      of l t (names_closed x n) = there_within _ _ x.named

  -- and the line of a type by its form
  pub line_for : (i : ℕ) (t : TypeExpression) → i < length ls → type_of ls i ≡ t
      → (l : TypeLine) × (slice_get ls i ≡ Some l) × NamesType (types_named ls) i l t
  line_for i t p e = line_at ls (types_named ls) known i t (type_there i p ∙ ap (λ u. Some u) e)

  -- lines whose parts are lines, and that name one type, are one
  one_form : (k l : TypeLine) → HasParts ls k → HasParts ls l → type_named (types_named ls) k
      ≡ type_named (types_named ls) l → k ≡ l
  one_form int_line int_line p q e = refl
  one_form bool_line bool_line p q e = refl
  one_form (unknown_line u) (unknown_line v) p q e = let same : u ≡ v = cc in rw same refl
  one_form (pair_line i j) (pair_line k l) p q e =
      let first : type_of ls i ≡ type_of ls k = cc in
      let second : type_of ls j ≡ type_of ls l = cc in
      rw (one_place i k p.0 q.0 first, one_place j l p.1 q.1 second) refl
  one_form (arrow_line i j) (arrow_line k l) p q e =
      let first : type_of ls i ≡ type_of ls k = cc in
      let second : type_of ls j ≡ type_of ls l = cc in
      rw (one_place i k p.0 q.0 first, one_place j l p.1 q.1 second) refl
  one_form (code_line c i) (code_line d k) p q e =
      let classifier : c ≡ d = cc in
      let content : type_of ls i ≡ type_of ls k = cc in
      rw (classifier, one_place i k p q content) refl
  one_form (closed_line i) (closed_line k) p q e =
      let content : type_of ls i ≡ type_of ls k = cc in ap closed_line (one_place i k p q content)
  one_form _ _ p q e = absurd (cc)

  -- a line of a type whose parts' types stand at these places has just these
  pub names-line : (i : ℕ) (l : TypeLine) → i < length ls → HasParts ls l → type_of ls i ≡ type_named (types_named ls) l
      → is_line ls i l ≡ true
  names-line i l w p e =
      let a = line_for i (type_named (types_named ls) l) w e in
      let n = line-names i a.0 a.1 in
      rw (a.1, one_form a.0 l n.0 p (sym n.1 ∙ e)) (same_line-refl l)
