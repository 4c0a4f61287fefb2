-- Items, followed one after the other.
use Rattle.std.proofs.Common.{◌≡◌, ℕ, suc, ◌+◌, ◌-◌, ◌<◌, Bool, true, false, ◌&&◌, List, [], ◌∷◌, ◌++◌, take, drop}
use Rattle.std.proofs.Common.{length, Option, Some, None, refl, sym, ap, ◌∙◌, subst, arith, if◌then◌else◌, append_assoc}
use Rattle.std.proofs.Common.{get_or}
use Rattle.std.proofs.Common.{length-take}
use Rattle.std.proofs.lemmas.List.{get_or-take, map_push}
use Rattle.std.specs.Prelude.{slice_get, codes, ◌==◌}
use Rattle.std.proofs.lemmas.Option.{same_Some}
use Rattle.mw_term.specs.declared.program.Item.{Item}
use Rattle.mw_term.specs.Programs.{Definition, value as defines, kernel, PureProgram, definition_of}
use Rattle.mw_types.specs.Types.{TypeExpression, int_ty}
use Rattle.mw_lines.specs.TypeLines.{TypeLine}
use Rattle.mw_lines.specs.Naming.{types_named}
use Rattle.mw_lines.specs.Tables.{lines_of, type_at, AreHeld}
use Rattle.mw_lines.specs.declared.table.TypeLines.{TypeLines}
use Rattle.mw_lines.proofs.NamedTypes.{one_list, first_types}
use Rattle.mw_recheck.specs.Options.{◌>>=◌}
use Rattle.mw_recheck.specs.Notes.{TopNote}
use Rattle.mw_recheck.specs.Certificates.{defined_term, notes_for_main}
use Rattle.mw_recheck.specs.Deciding.{note_seen, is_root, root_at, roots_at, is_end, main_at, is_there, certified}
use Rattle.mw_recheck.specs.Reading.{behind}
use Rattle.mw_types.specs.Expressions.{ground_expression}
use Rattle.mw_lines.specs.Deciding.{same_type}
use Rattle.mw_recheck.specs.Roots.{top_of, tops_of, IsHeldRoot, AreRoots}
use Rattle.mw_recheck.specs.Following.{definitions_of, main_note, seen_as, item_at, main_notes_at}
use Rattle.mw_recheck.specs.declared.names.Root.{Root}
use Rattle.mw_recheck.proofs.NodeLines.{bound, bind_some, chosen, drop_get}

-- an item whose root is known
pub item_found : (tops : List TopNote) (d : Definition) (bytes : List ℕ) (t : TypeExpression) (rest : List ℕ) (b : Bool)
    → root_at tops (defined_term d) bytes ≡ Some (t, rest) → is_root d t ≡ b
    → item_at tops d bytes ≡ (if b then Some (
      record {
        by_items = note_seen d t;
        by_main =
            main_note d t;
      },
      rest,
    ) else None)
item_found tops d bytes t rest b h r = bind_some (root_at tops (defined_term d) bytes) _ (t, rest) h ∙ rw r refl

-- the root's line is the last of the lines up to it
pub front_type : (types front : TypeLines) (at : ℕ) → AreHeld types → at < length (lines_of types)
    → lines_of front ≡ take (at + 1) (lines_of types)
    → type_at front (length (lines_of front) - 1) ≡ type_at types at
front_type types front at held within e =
    let ls = lines_of types in
    let named : take (at + 1) (types_named ls) ≡ types_named (take (at + 1) ls) =
    one_list (take (at + 1) ls) (take (at + 1) (types_named ls)) (first_types (at + 1) ls
    (types_named ls) held.lines) in
    let long : length (lines_of front) - 1 ≡ at = omega (arith, ap length e, length-take {A = TypeLine}, within) in
    ap (λ i. get_or (types_named (lines_of front)) i int_ty) long ∙ ap (λ l. get_or (types_named l) at int_ty) e
    ∙ ap (λ us. get_or us at int_ty) (sym named)
    ∙ get_or-take (at + 1) (types_named ls) at int_ty (omega arith)

-- what main sees of items after those that were followed
abbrev pub notes_after : List Root → List Definition → List ℕ → Option (List TopNote × List ℕ)
notes_after roots items bytes =
    roots_at (tops_of false roots) items bytes >>= λ r. Some (tops_of true roots ++ notes_for_main items r.0, r.1)

main_more : (d : Definition) (t : TypeExpression) (items : List Definition) (ts : List TypeExpression)
    → notes_for_main (d ∷ items) (t ∷ ts) ≡ main_note d t ∷ notes_for_main items ts
main_more (defines e) t items ts = refl
main_more (kernel k e) t items ts = refl

-- what main sees, where these names stand before what the roots give
abbrev noted : List TopNote → List Definition → List TypeExpression × List ℕ → Option (List TopNote × List ℕ)
noted before items r = Some (before ++ notes_for_main items r.0, r.1)

module _ (roots more : List Root) (root : Root) (d : Definition) (items : List Definition) (rest : List ℕ)
    (m : more ≡ roots ++ root ∷ []) where
  again : (t : TypeExpression) (ns : List TopNote) → ns ≡ tops_of false more → main_note d t ≡ top_of true root
      → ((roots_at ns items rest >>= λ y. Some (
        t ∷ y.0,
        y.1,
      )) >>= noted (tops_of true roots) (d ∷ items)) ≡ notes_after more items rest
  again t ns e n = rw (sym e) (of (roots_at ns items rest))
    where
      joined : (ts : List TypeExpression)
          → tops_of true roots ++ notes_for_main (d ∷ items) (t ∷ ts) ≡ tops_of true more ++ notes_for_main items ts
      joined ts =
          ap (λ l. tops_of true roots ++ l) (main_more d t items ts ∙ ap (λ k. k ∷ notes_for_main items ts) n)
          ∙ sym (append_assoc (tops_of true roots) (top_of true root ∷ []) (notes_for_main items ts))
          ∙ ap (λ l. l ++ notes_for_main items ts) (sym (map_push (top_of true) roots root)
          ∙ ap (λ r. tops_of true r) (sym m))

      of : (o : Option (List TypeExpression × List ℕ)) → ((◌>>=◌ {A = List TypeExpression × List ℕ} {B =
          List TypeExpression × List ℕ} o (λ y. Some (t ∷ y.0, y.1))) >>= noted (tops_of true roots) (d ∷ items)) ≡
          (o >>= noted (tops_of true more) items)
      of None = refl
      of (Some y) = ap (λ l. Some (l, y.1)) (joined y.0)

  pub notes_step : (bytes : List ℕ) → item_at (tops_of false roots) d bytes ≡ Some (seen_as root, rest)
      → notes_after roots (d ∷ items) bytes ≡ notes_after more items rest
  notes_step bytes h =
      let x = bound (root_at (tops_of false roots) (defined_term d) bytes) _ (seen_as root, rest) h in
      let c = chosen (is_root d x.0.0) _ (seen_as root, rest) x.2 in
      let items_note : note_seen d x.0.0 ≡ top_of false root = ap (λ z. z.0.by_items) c.1 in
      let main : main_note d x.0.0 ≡ top_of true root = ap (λ z. z.0.by_main) c.1 in
      let behind : x.0.1 ≡ rest = ap (λ z. z.1) c.1 in
      let seen : tops_of false roots ++ note_seen d x.0.0 ∷ [] ≡ tops_of false more =
      rw (items_note, m) (sym (map_push (top_of false) roots root)) in
      rw (x.1, c.0, behind) (again x.0.0 (tops_of false roots ++ note_seen d x.0.0 ∷ []) seen main)

-- the definitions from an item on
pub definitions_from : (items : List Item) (i : ℕ) (item : Item) → slice_get items i ≡ Some item
    → definitions_of (drop i items) ≡ definition_of item.kind ∷ definitions_of (drop (i + 1) items)
definitions_from items i item h = ap (λ l. definitions_of l) (drop_get items i item h
    ∙ ap (λ k. item ∷ drop k items) (next i))
  where
    next : (n : ℕ) → suc n ≡ n + 1
    next n = omega arith

pub roots_more : (roots more : List Root) (root : Root) → AreRoots roots → IsHeldRoot root → more ≡ roots ++ root ∷ []
    → AreRoots more
roots_more roots more root h r e = subst AreRoots (sym e) (of roots h)
  where
    of : (roots : List Root) → AreRoots roots → AreRoots (roots ++ root ∷ [])
    of [] h = (r, tt)
    of (q ∷ roots) h = (h.0, of roots h.1)

-- once items and main are followed, main's type and the end decide
pub program_followed : (bytes rest after : List ℕ) (p : PureProgram) (tops : List TopNote) (b : List ℕ)
    (t : TypeExpression) (ground last : Bool)
    → behind (codes "cert1\n") bytes ≡ Some b → main_notes_at [] p.items b ≡ Some (tops, rest)
    → root_at tops p.body rest ≡ Some (t, after)
    → same_type t (ground_expression p.result) ≡ ground → is_end after ≡ last → certified bytes p ≡ (ground && last)
program_followed bytes rest after p tops b t ground last h m r g l =
    let x = bound (roots_at [] p.items b) _ (tops, rest) m in
    let pair = same_Some (notes_for_main p.items x.0.0, x.0.1) (tops, rest) x.2 in
    let notes : notes_for_main p.items x.0.0 ≡ tops = ap (λ z. z.0) pair in
    let left : x.0.1 ≡ rest = ap (λ z. z.1) pair in
    let root : root_at (notes_for_main p.items x.0.0) p.body x.0.1 ≡ Some (t, after) = rw (notes, left) r in
    ap is_there (bind_some (behind (codes "cert1\n") bytes) (λ b. roots_at [] p.items b >>= λ r. main_at
    (notes_for_main p.items r.0) p r.1) b h
    ∙ bind_some (roots_at [] p.items b) (λ r. main_at (notes_for_main p.items r.0) p r.1) x.0 x.1
    ∙ bind_some (root_at (notes_for_main p.items x.0.0) p.body x.0.1) (λ y. if same_type y.0
    (ground_expression p.result) && is_end y.1 then Some y.0 else None) (t, after) root)
    ∙ rw (g, l) (of (ground && last))
  where
    of : (b : Bool) → is_there (if b then Some t else None) ≡ b
    of true = refl
    of false = refl

pub end_is : (bytes : List ℕ) (b : Bool) → (length bytes == 0) ≡ b → is_end bytes ≡ b
end_is [] b h = h
end_is (x ∷ bytes) true h = absurd (grind (arith, h))
end_is (x ∷ bytes) false h = refl
