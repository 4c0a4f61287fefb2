-- Nameless programs are scoped.
use Rattle.std.proofs.Common.{◌≡◌, ℕ, zero, suc, ◌+◌, Bool, true, false, cond, List, [], ◌∷◌, ◌++◌, length, Option}
use Rattle.std.proofs.Common.{Some, None, refl, ap, sym, subst, arith, append_assoc, length-append, bytes_eq}
use Rattle.std.specs.Prelude.{map, slice_get}
use Rattle.std.specs.Option.{option_map}
use Rattle.std.proofs.lemmas.Option.{same_Some, none-some}
use Rattle.mw_list.proofs.Conjunctions.{both_true}
use Rattle.mw_term.specs.Terms.{Expression}
use Rattle.mw_term.specs.Programs.{Definition, value, kernel, IsSyntacticValue}
use Rattle.mw_term.specs.Typing.{TopLevel}
use Rattle.mw_term.specs.Typable.{seen_by_item, seen_by_main}
use Rattle.mw_term.specs.Scoped.{IsScoped, is_seen}
use Rattle.mw_grammar.specs.SurfaceTrees.{SurfaceTree, PureItem, let_item, kernel_item}
use Rattle.mw_scope.specs.declared.level.Level.{Level}
use Rattle.mw_scope.specs.declared.level.Level.TheVariants.{Live, Quoted}
use Rattle.mw_scope.specs.Scopes.{Binder, TopNames, lets_of, items_of}
use Rattle.mw_scope.specs.Nameless.{Nameless, n_num, n_truth, n_var, n_glob, n_fun, n_fix, n_app, n_bind, n_cond}
use Rattle.mw_scope.specs.Nameless.{n_pair, n_fst, n_snd, n_prim, n_bracket, n_escape, n_run, n_close, n_open, n_lift}
use Rattle.mw_scope.specs.Nameless.{n_lift_b, is_value, NamelessItem, a_let, a_kernel, NamelessItems, no_item, an_item}
use Rattle.mw_scope.specs.Scoped.{IsScopedItem, NamelessIsScoped}
use Rattle.mw_scope.proofs.Nearest.{nearest_is_nearest}

abbrev is_quoted : Level → Bool
is_quoted Live = false
is_quoted Quoted = true

abbrev levels_of : List Binder → List Bool
levels_of g = map (λ b. is_quoted b.level) g

level_at : (g : List Binder) (i : ℕ) (b : Binder) → slice_get g i ≡ Some b → slice_get (levels_of g) i
    ≡ Some (is_quoted b.level)
level_at [] i b e = absurd (none-some b e)
level_at (c ∷ g) zero b e = ap (λ d. Some (is_quoted d.level)) (same_Some _ _ e)
level_at (c ∷ g) (suc i) b e = level_at g i b e

-- the name at this place is in scope
abbrev IsInScope : List Bool → ℕ → Type 0
IsInScope names i = slice_get names i ≡ Some true

-- each name that stands for an item is in scope
record AreSeen (tops : TopNames) (names : List Bool) : Type 0 where
  at : (x : List ℕ) (i : ℕ) → tops x ≡ Some i → IsInScope names i

scoped : {tops : TopNames} {g : List Binder} {m : Level} {t : SurfaceTree} {e : Expression} (names : List Bool)
    → AreSeen tops names → Nameless tops g m t e → IsScoped names (levels_of g) (is_quoted m) e
scoped names s n_num = tt
scoped names s n_truth = tt
scoped {g = g} {m = m} names s (n_var {x = x} {i = i} h) = level_at g i _ (nearest_is_nearest.found g x i m h).0
scoped names s (n_glob {x = x} h i) = (refl, s.at x _ i)
scoped names s (n_fun d) = scoped names s d
scoped names s (n_fix d) = scoped names s d
scoped names s (n_app c d) = (scoped names s c, scoped names s d)
scoped names s (n_bind c d) = (scoped names s c, scoped names s d)
scoped names s (n_cond b c d) = (scoped names s b, scoped names s c, scoped names s d)
scoped names s (n_pair c d) = (scoped names s c, scoped names s d)
scoped names s (n_fst d) = scoped names s d
scoped names s (n_snd d) = scoped names s d
scoped names s (n_prim c d) = (scoped names s c, scoped names s d)
scoped names s (n_bracket d) = (refl, scoped names s d)
scoped names s (n_escape d) = (refl, scoped names s d)
scoped names s (n_run d) = (refl, scoped names s d)
scoped names s (n_close d) = (refl, scoped names s d)
scoped names s (n_open d) = (refl, scoped names s d)
scoped names s (n_lift d) = (refl, scoped names s d)
scoped names s (n_lift_b d) = (refl, scoped names s d)

-- a value of the surface is one without names
is_syntactic : {tops : TopNames} {g : List Binder} {m : Level} {t : SurfaceTree} {e : Expression}
    → Nameless tops g m t e → is_value t ≡ true → IsSyntacticValue e
is_syntactic n_num v = tt
is_syntactic n_truth v = tt
is_syntactic (n_var h) v = cc v
is_syntactic (n_glob h i) v = cc v
is_syntactic (n_fun d) v = tt
is_syntactic (n_fix d) v = tt
is_syntactic (n_app c d) v = cc v
is_syntactic (n_bind c d) v = cc v
is_syntactic (n_cond b c d) v = cc v
is_syntactic (n_pair {s = s} {t = t} c d) v = let both = both_true (is_value s) (is_value t) v in
    (is_syntactic c both.0, is_syntactic d both.1)
is_syntactic (n_fst d) v = cc v
is_syntactic (n_snd d) v = cc v
is_syntactic (n_prim c d) v = cc v
is_syntactic (n_bracket d) v = cc v
is_syntactic (n_escape d) v = cc v
is_syntactic (n_run d) v = cc v
is_syntactic (n_close d) v = cc v
is_syntactic (n_open d) v = cc v
is_syntactic (n_lift d) v = cc v
is_syntactic (n_lift_b d) v = cc v

-- lets are values and kernel items kernels, one by one
abbrev AreAlike : List PureItem → List Definition → Type 0
AreAlike [] [] = Unit {0}
AreAlike (let_item x at from t ∷ items) (value e ∷ ds) = AreAlike items ds
AreAlike (kernel_item x at k t ∷ items) (kernel l e ∷ ds) = AreAlike items ds
AreAlike _ _ = ⊥

alike : {before items : List PureItem} {ds : List Definition} → NamelessItems before items ds → AreAlike items ds
alike no_item = tt
alike (an_item new (a_let v d) ds) = alike ds
alike (an_item new (a_kernel d) ds) = alike ds

-- a place after the first item
behind_first : (o : Option ℕ) (i : ℕ) (b : Bool) (names : List Bool) → ((j : ℕ) → o ≡ Some j → IsInScope names j)
    → option_map suc o ≡ Some i → IsInScope (b ∷ names) i
behind_first None i b names h e = absurd (none-some _ e)
behind_first (Some j) i b names h e = let P : ℕ → Type 0 = λ k. IsInScope (b ∷ names) k in
    subst P (same_Some _ _ e) (h j refl)

first_or_behind : (b : Bool) (o : Option ℕ) (i : ℕ) (names : List Bool) → ((j : ℕ) → o ≡ Some j → IsInScope names j)
    → cond b (Some 0) (option_map suc o) ≡ Some i → IsInScope (true ∷ names) i
first_or_behind true o i names h e = let P : ℕ → Type 0 = λ k. IsInScope (true ∷ names) k in
    subst P (same_Some _ _ e) refl
first_or_behind false o i names h e = behind_first o i true names h e

lets_seen : (before rest : List PureItem) (ds : List Definition) → AreAlike (before ++ rest) ds → (x : List ℕ) (i : ℕ)
    → lets_of before x ≡ Some i → IsInScope (map is_seen (seen_by_item ds (length before))) i
lets_seen [] rest ds a x i e = absurd (none-some i e)
lets_seen (let_item y at from t ∷ before) rest [] a x i e = absurd a
lets_seen (let_item y at from t ∷ before) rest (value d ∷ ds) a x i e =
    first_or_behind (bytes_eq x y) (lets_of before x) i _ (lets_seen before rest ds a x) e
lets_seen (let_item y at from t ∷ before) rest (kernel k d ∷ ds) a x i e = absurd a
lets_seen (kernel_item y at k t ∷ before) rest [] a x i e = absurd a
lets_seen (kernel_item y at k t ∷ before) rest (value d ∷ ds) a x i e = absurd a
lets_seen (kernel_item y at k t ∷ before) rest (kernel l d ∷ ds) a x i e = behind_first (lets_of before x) i false _
    (lets_seen before rest ds a x) e

items_seen : (items : List PureItem) (ds : List Definition) → AreAlike items ds → (x : List ℕ) (i : ℕ)
    → items_of items x ≡ Some i → IsInScope (map is_seen (seen_by_main ds)) i
items_seen [] ds a x i e = absurd (none-some i e)
items_seen (let_item y at from t ∷ items) [] a x i e = absurd a
items_seen (let_item y at from t ∷ items) (value d ∷ ds) a x i e = first_or_behind (bytes_eq x y) (items_of items x) i _
    (items_seen items ds a x) e
items_seen (let_item y at from t ∷ items) (kernel k d ∷ ds) a x i e = absurd a
items_seen (kernel_item y at k t ∷ items) [] a x i e = absurd a
items_seen (kernel_item y at k t ∷ items) (value d ∷ ds) a x i e = absurd a
items_seen (kernel_item y at k t ∷ items) (kernel l d ∷ ds) a x i e = first_or_behind (bytes_eq x y) (items_of items x)
    i _ (items_seen items ds a x) e

scoped_item : {before : List PureItem} {item : PureItem} {d : Definition} (seen : List TopLevel)
    → AreSeen (lets_of before) (map is_seen seen) → NamelessItem before item d → IsScopedItem seen d
scoped_item seen s (a_let v d) = (is_syntactic d v, scoped (map is_seen seen) s d)
scoped_item seen s (a_kernel d) = scoped (map is_seen seen) s d

-- the items after those before them are scoped
scoped_items : {before items : List PureItem} {ds : List Definition} (all : List Definition)
    → AreAlike (before ++ items) all → NamelessItems before items ds → (i : ℕ) (d : Definition) → slice_get ds i
    ≡ Some d → IsScopedItem (seen_by_item all (length before + i)) d
scoped_items all a no_item i d e = absurd (none-some d e)
scoped_items {before = before} {items = items} all a (an_item own one more) zero d e =
    let seen : List TopLevel = seen_by_item all (length before) in
    let here = scoped_item seen (record { at = lets_seen before items all a }) one in
    let same : length before + 0 ≡ length before = omega arith in
    rw (same, sym (same_Some _ _ e)) here
scoped_items {before = before} all a (an_item {items = rest} {item = item} own one more) (suc i) d e =
    let same : length (before ++ item ∷ []) + i ≡ length before + suc i = rw (length-append before (item ∷ []))
    (omega arith) in
    let alike_still : AreAlike ((before ++ item ∷ []) ++ rest) all = rw (append_assoc before (item ∷ []) rest) a in
    rw (sym same) (scoped_items all alike_still more i d e)

pub nameless_is_scoped : NamelessIsScoped
nameless_is_scoped s p h =
    let all : AreAlike s.items p.items = alike h.items in
    record {
      items = λ i d e. let same : 0 + i ≡ i = omega arith in rw (sym same) (scoped_items p.items all h.items i d e);
      body = scoped (map is_seen (seen_by_main p.items)) (record { at = items_seen s.items p.items all }) h.body;
    }
