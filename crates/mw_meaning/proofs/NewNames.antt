-- What the functions that erase need.
use Rattle.std.proofs.Common.{◌≡◌, ℕ, zero, suc, ◌+◌, ◌*◌, ◌^◌, ◌<◌, ◌≤◌, length, arith, List, [], ◌∷◌, refl, ap, ◌∙◌}
use Rattle.std.proofs.Common.{sym, Result, Ok, Err, IfOk, Some}
use Rattle.std.specs.Prelude.{slice_get, get_or}
use Rattle.std.specs.Borrow.{Bor}
use Rattle.std.specs.Slice.{IsItemAt}
use Rattle.std.proofs.lemmas.Option.{slice_get_read}
use Rattle.mw_term.specs.Terms.{Expression, GroundType, size}
use Rattle.mw_term.specs.Programs.{Definition, definition_of, value as defines, kernel, PureProgram, definition_size}
use Rattle.mw_term.specs.Programs.{definitions_size, program_size}
use Rattle.mw_meaning.specs.PlainTerms.{PlainTerm}
use Rattle.mw_meaning.specs.Erasure.{plain, term_of}
use Rattle.mw_meaning.specs.ErasedPrograms.{renamed, name_in, lets_of, inside_lets, erased_program, kernels_in}
use Rattle.mw_meaning.specs.ErasedPrograms.{AllNames, HasBoundItems, HasBoundNames}
use Rattle.mw_term.specs.declared.program.Item.{Item}
use Rattle.mw_meaning.specs.declared.erasing.NewName.TheVariants.{Let, Kernel}
use Rattle.mw_meaning.specs.NewNames.{new_name, naming_of, new_names, inside_terms, most_behind, HasRoom, HaveRoom}
use Rattle.mw_meaning.specs.NewNames.{definitions}
use Rattle.mw_meaning.proofs.StagedFixedPoint.{size_positive}
use Rattle.mw_meaning.proofs.NameReplacement.{renamed-alike}
use Rattle.mw_meaning.proofs.PlainInduction.{by_parts}
use Rattle.mw_meaning.specs.declared.erasing.NewName.{NewName}

abbrev pub program_with : List Definition → GroundType → Expression → PureProgram
program_with items b e = record { items = items; result = b; body = e }

pub if_ok : {A E : Type 0} {P Q : A → Type 0} (r : Result A E) → ((a : A) → P a → Q a) → IfOk r P → IfOk r Q
if_ok (Ok a) f h = f a h
if_ok (Err e) f h = tt

-- where no name is renamed
pub renamed-none : (names : List NewName) → names ≡ [] → (x : PlainTerm) (d : ℕ) → renamed (naming_of names) d x ≡ x
renamed-none names q x d =
    by_parts ℕ suc (λ d x. renamed (naming_of names) d x ≡ x) (search) (λ d i. refl)
    (λ d i. ap (λ l. naming_of l d i) q) d x

-- a name that is there has the same place in a longer list
there : (names : List NewName) (d i n : ℕ) → i < length names → new_name (slice_get names i) d n
    ≡ new_name (slice_get names i) d i
there [] d i n lt = absurd (omega arith)
there (Let l ∷ names) d zero n lt = refl
there (Kernel k ∷ names) d zero n lt = refl
there (x ∷ names) d (suc i) n lt = there names d i n (omega arith) ∙ sym (there names d i (suc i) (omega arith))

length-new_names : (items : List Definition) (l : ℕ) → length (new_names items l) ≡ length items
length-new_names [] l = refl
length-new_names (defines e ∷ items) l = ap suc (length-new_names items (suc l))
length-new_names (kernel k e ∷ items) l = ap suc (length-new_names items l)

-- the list of new names is the naming of the erased program
pub naming_of-new_names : (items : List Definition) (l d i : ℕ) → i < length items → naming_of (new_names items l) d i
    ≡ name_in items l d i
naming_of-new_names [] l d i lt = absurd (omega arith)
naming_of-new_names (defines e ∷ items) l d zero lt = refl
naming_of-new_names (defines e ∷ items) l d (suc i) lt = there (new_names items (suc l)) d i (suc i)
    (omega (arith, length-new_names items (suc l))) ∙ naming_of-new_names items (suc l) d i (omega arith)
naming_of-new_names (kernel k e ∷ items) l d zero lt = refl
naming_of-new_names (kernel k e ∷ items) l d (suc i) lt = there (new_names items l) d i (suc i)
    (omega (arith, length-new_names items l)) ∙ naming_of-new_names items l d i (omega arith)

-- so terms that name items alone are renamed alike
pub renamed-new_names : (items : List Definition) (x : PlainTerm) (d : ℕ) → AllNames (λ i. i < length items) x
    → renamed (naming_of (new_names items zero)) d x ≡ renamed (name_in items zero) d x
renamed-new_names items x d h =
    renamed-alike (λ i. i < length items) _ _ (λ d i q. naming_of-new_names items zero d i q) x d h

lets_same : (all items : List Definition) → HasBoundItems (length all) items → lets_of (naming_of (new_names all zero))
    items ≡ lets_of (name_in all zero) items
lets_same all [] h = refl
lets_same all (defines e ∷ items) h = rw (renamed-new_names all (plain e) zero h.0, lets_same all items h.1) refl
lets_same all (kernel k e ∷ items) h = lets_same all items h.1

inside_same : (all items : List Definition) (b : PlainTerm) → HasBoundItems (length all) items
    → inside_terms (naming_of (new_names all zero)) items (term_of b) ≡ term_of (inside_lets (name_in all zero) items b)
inside_same all [] b h = refl
inside_same all (defines e ∷ items) b h = inside_same all items b h.1
inside_same all (kernel k e ∷ items) b h = rw (renamed-new_names all (plain e) zero h.0, inside_same all items b h.1)
    refl

-- the erased program, by what its parts are where the items have their new names
pub erased_is : (p : PureProgram) (items : List Definition) {names main_names inner_names : List NewName}
    {lets : List Definition} {b : GroundType} {main body : Expression} → items ≡ p.items → HasBoundNames p
    → names ≡ new_names items zero → main_names ≡ new_names items zero → inner_names ≡ new_names items zero
    → lets ≡ lets_of (naming_of names) items → b ≡ p.result
    → main ≡ term_of (renamed (naming_of main_names) zero (plain p.body))
    → body ≡ inside_terms (naming_of inner_names) items main
    → program_with lets b body ≡ erased_program p
erased_is p items s h e f g l r m q =
    rw (q, m, l, r, e, f, g, s, renamed-new_names p.items (plain p.body) zero h.body, lets_same p.items p.items h.items)
    (ap (program_with (erased_program p).items p.result)
    (inside_same p.items p.items (renamed (name_in p.items zero) zero (plain p.body)) h.items))

-- what the list has at a place, by what the place is read as
pub at_place : (names : List NewName) (i : ℕ) (x : Bor NewName) → IsItemAt names i (Some x) → slice_get names i
    ≡ Some x.now
at_place names i x h = slice_get_read names (length names) i x.now refl h.3.0 h.1

-- a kernel's name has room for its variable
kernel_most : (names : List NewName) (i n : ℕ) → slice_get names i ≡ Some (Kernel n) → n ≤ most_behind names
kernel_most (Kernel m ∷ names) zero n h = let p : m ≡ n = cc in omega arith
kernel_most (_ ∷ names) (suc i) n h = let p = kernel_most names i n h in omega arith
kernel_most _ i n h = absurd (cc)

pub kernel_room : (names : List NewName) (i d n : ℕ) → slice_get names i ≡ Some (Kernel n) → HasRoom names d 1
    → d + n < 2 ^ 32
kernel_room [] i d n h r = absurd (cc)
kernel_room (x ∷ names) i d n h r = let p = kernel_most (x ∷ names) i n h in omega arith

-- no kernel has more kernels behind it than there are
most_behind-new_names : (items : List Definition) (l : ℕ) → most_behind (new_names items l) ≤ kernels_in items
most_behind-new_names [] l = omega arith
most_behind-new_names (defines e ∷ items) l = most_behind-new_names items (suc l)
most_behind-new_names (kernel k e ∷ items) l = let p = most_behind-new_names items l in omega arith

-- each item has a node
items_sized : (items : List Definition) → length items ≤ definitions_size items
items_sized [] = omega arith
items_sized (defines e ∷ items) = omega (arith, items_sized items, size_positive e)
items_sized (kernel k e ∷ items) = omega (arith, items_sized items, size_positive e)

pub kernels_counted : (items : List Definition) → kernels_in items ≤ length items
kernels_counted [] = omega arith
kernels_counted (defines e ∷ items) = omega (arith, kernels_counted items)
kernels_counted (kernel k e ∷ items) = omega (arith, kernels_counted items)

-- an item's nodes, and a node for each other kernel
item_and_kernels : (items : List Definition) (i : ℕ) (d : Definition) → slice_get items i ≡ Some d
    → definition_size d + kernels_in items ≤ definitions_size items + 1
item_and_kernels [] i d h = absurd (cc)
item_and_kernels (x ∷ items) zero d h = let p : x ≡ d = cc in
    rw (← p) (first x (omega (arith, kernels_counted items, items_sized items)))
  where
    first : (x : Definition) → kernels_in items ≤ definitions_size items → definition_size x + kernels_in (x ∷ items)
        ≤ definitions_size (x ∷ items) + 1
    first (defines e) q = omega arith
    first (kernel k e) q = omega arith
item_and_kernels (defines e ∷ items) (suc i) d h = omega (arith, item_and_kernels items i d h, size_positive e)
item_and_kernels (kernel k e ∷ items) (suc i) d h = omega (arith, item_and_kernels items i d h, size_positive e)

have_room : (names : List NewName) (items : List Definition)
    → ((i : ℕ) (d : Definition) → slice_get items i ≡ Some d → HasRoom names zero (definition_size d))
    → HaveRoom names items
have_room names [] h = tt
have_room names (d ∷ items) h = (h zero d refl, have_room names items (λ i d q. h (suc i) d q))

pub room_at : (names : List NewName) (items : List Definition) (i : ℕ) (d : Definition) → slice_get items i ≡ Some d
    → HaveRoom names items → HasRoom names zero (definition_size d)
room_at names [] i d q h = absurd (cc)
room_at names (x ∷ items) zero d q h = let p : x ≡ d = cc in rw p at h.0
room_at names (x ∷ items) (suc i) d q h = room_at names items i d q h.1

-- the items of a program of fewer than 2^31 nodes, and its main, have room for its names
program_room : (p : PureProgram) → program_size p < 2 ^ 31 → HaveRoom (new_names p.items zero) p.items
    × HasRoom (new_names p.items zero) zero (size p.body)
program_room p h = (have_room names p.items item, main)
  where
    names : List NewName
    names = new_names p.items zero

    room : (names : List NewName) (y : ℕ) → 2 * y + most_behind names < 2 ^ 32 → HasRoom names zero y
    room [] y lt = tt
    room (x ∷ names) y lt = omega arith

    item : (i : ℕ) (d : Definition) → slice_get p.items i ≡ Some d → HasRoom names zero (definition_size d)
    item i d q = room names (definition_size d)
        (omega (arith, most_behind-new_names p.items zero, item_and_kernels p.items i d q, size_positive p.body))

    main : HasRoom names zero (size p.body)
    main = room names (size p.body)
        (omega (arith, most_behind-new_names p.items zero, kernels_counted p.items, items_sized p.items))

-- the definition that an item is
definition_at : (items : List Item) (i : ℕ) (x : Item) → slice_get items i ≡ Some x → slice_get (definitions items) i
    ≡ Some (definition_of x.kind)
definition_at [] i x h = absurd (cc)
definition_at (y ∷ items) zero x h = let p : y ≡ x = cc in ap (λ (y : Item). Some (definition_of y.kind)) p
definition_at (y ∷ items) (suc i) x h = definition_at items i x h

pub item_room : (names : List NewName) (items : List Item) (i : ℕ) (x : Item) → i < length items → x ≡ get_or items i x
    → HaveRoom names (definitions items) → HasRoom names zero (definition_size (definition_of x.kind))
item_room names items i x lt q h = room_at names (definitions items) i (definition_of x.kind)
    (definition_at items i x (slice_get_read items (length items) i x refl lt q)) h

length-definitions : (items : List Item) → length (definitions items) ≡ length items
length-definitions [] = refl
length-definitions (x ∷ items) = ap suc (length-definitions items)

-- of a program of fewer than 2^31 nodes: the items are few, and they and the main have room for the new names
module _ (p : PureProgram) (items : List Item) (same : definitions items ≡ p.items) (few : program_size p < 2 ^ 31)
  where
    pub few_items : length items < 2 ^ 31
    few_items = omega (arith, length-definitions items, ap length same, items_sized p.items)

    pub items_room : (names : List NewName) → names ≡ new_names (definitions items) zero
        → HaveRoom names (definitions items)
    items_room names e = rw (e, same) (program_room p few).0

    pub body_room : (names : List NewName) → names ≡ new_names (definitions items) zero
        → HasRoom names zero (size p.body)
    body_room names e = rw (e, same) (program_room p few).1
