-- How the images of lines are found.
use Rattle.std.proofs.Common.{◌≡◌, ℕ, zero, suc, ◌+◌, ◌<◌, ◌≤◌, false, nat_eq, List, [], ◌∷◌, ◌++◌, length, get_or}
use Rattle.std.proofs.Common.{Option, Some}
use Rattle.std.proofs.Common.{None, refl, ap, sym, ◌∙◌, arith, subst, true≢false, length-append}
use Rattle.std.specs.Prelude.{slice_get}
use Rattle.std.proofs.lemmas.Bool.{eq-eqb}
use Rattle.std.proofs.lemmas.Option.{slice_get_within, slice_get-get_or, slice_get_read, get_or_from_slice_get}
use Rattle.std.proofs.lemmas.List.{get_or_push}
use Rattle.mw_types.specs.Types.{TypeExpression, int_ty, Substitution, apply}
use Rattle.mw_lines.specs.TypeLines.{TypeLine, int_line, bool_line, unknown_line, pair_line, arrow_line, code_line}
use Rattle.mw_lines.specs.TypeLines.{closed_line, NamesType, names_int, names_bool, names_unknown, names_pair}
use Rattle.mw_lines.specs.TypeLines.{names_arrow, names_code, names_closed}
use Rattle.mw_lines.specs.Made.{IsMadeFrom}
use Rattle.mw_lines.specs.Images.{IsImage, HasImage, image_of, name_of, Includes, Adds, Refuses, IsFirst}
use Rattle.mw_lines.specs.Images.{HasPartsBelow}
use Rattle.mw_lines.specs.Tables.{lines_of, types_of, type_at, AreHeld}
use Rattle.mw_lines.specs.declared.made.Images.{Images}
use Rattle.mw_lines.specs.declared.table.TypeLines.{TypeLines}
use Rattle.mw_lines.proofs.RootImages.{forced_place, forced_name, forced_images, is_forced, made}

-- reading an element
pub read : {A : Type 0} (xs : List A) (i : ℕ) (x d : A) → i < length xs → x ≡ get_or xs i x → get_or xs i d ≡ x
read xs i x d n e = get_or_from_slice_get xs i x d (slice_get_read xs (length xs) i x refl n e)

-- so many places, none with an image
pub record AreBlank (places : List (Option ℕ)) (count : ℕ) : Type 0 where
  pub long : length places ≡ count
  pub none : (k : ℕ) → get_or places k None ≡ None

pub no_blanks : AreBlank [] 0
no_blanks = record { long = refl; none = λ k. refl }

pub blank_more : (xs ys : List (Option ℕ)) (n : ℕ) → ys ≡ xs ++ None ∷ [] → AreBlank xs n → AreBlank ys (n + 1)
blank_more xs ys n e h = record {
  long = rw e (simp length-append (let l = h.long in omega arith));
  none = λ k. rw e (more xs k h.none);
}
  where
    more : (xs : List (Option ℕ)) (k : ℕ) → ((k : ℕ) → get_or xs k None ≡ None) → get_or (xs ++ None ∷ []) k None ≡ None
    more [] zero h = refl
    more [] (suc k) h = refl
    more (x ∷ xs) zero h = h zero
    more (x ∷ xs) (suc k) h = more xs k (λ k. h (suc k))

last_alone : (xs : List (Option ℕ)) (i k j : ℕ) → ((k : ℕ) → get_or xs k None ≡ None)
    → get_or (xs ++ Some i ∷ []) k None ≡ Some j
    → (k ≡ length xs) × (j ≡ i)
last_alone [] i zero j h e = (refl, (cc))
last_alone [] i (suc k) j h e = absurd (cc)
last_alone (x ∷ xs) i zero j h e = absurd (let n = h zero in cc)
last_alone (x ∷ xs) i (suc k) j h e = let p = last_alone xs i k j (λ k. h (suc k)) e in (ap suc p.0, p.1)

pub first_image : (m : Images) (xs : List (Option ℕ)) (n image : ℕ) → AreBlank xs n
    → m.places.items ≡ xs ++ Some image ∷ []
    → m.classifiers.entries ≡ [] → IsFirst m n image
first_image m xs n image h e d = record {
  count = rw e (simp length-append (let l = h.long in omega arith));
  here = rw e (get_or_push xs (Some image) None n h.long);
  alone = λ k i q. let p = last_alone xs image k i h.none (rw e at q) in (p.0 ∙ h.long, p.1);
  unnamed = λ c. rw d refl;
}

-- another image is refused
pub refuses_other : (m : Images) (line image other : ℕ) → image_of m line ≡ Some other → nat_eq other image ≡ false
    → Refuses m (λ f g. f line ≡ Some image)
refuses_other m line image other e n f g h k a =
    let p = h line other e in
    let q : other ≡ image = cc in
    true≢false (sym (eq-eqb other image q) ∙ n)

-- what is asked, in other words, and of more places; and two things that are asked
pub adds_as : (m n : Images) (p q : ℕ) (A B : (ℕ → Option ℕ) → (ℕ → Option ℕ) → Type 0) → p ≤ q → Adds m n p A
    → (A (image_of n) (name_of n) → B (image_of n) (name_of n))
    → ((f g : ℕ → Option ℕ) → Includes (image_of m) f → Includes (name_of m) g → B f g → A f g)
    → Adds m n q B
adds_as m n p q A B le h there back = record {
  count = h.count;
  images = h.images;
  names = h.names;
  above = λ k l. h.above k (omega arith);
  holds = there h.holds;
  least = λ f g i j b. h.least f g i j (back f g i j b);
}

pub adds_two : (m n o : Images) (p q r : ℕ) (A B : (ℕ → Option ℕ) → (ℕ → Option ℕ) → Type 0) → p ≤ r → q ≤ r
    → Adds m n p A → Adds n o q B → (A (image_of n) (name_of n) → A (image_of o) (name_of o))
    → Adds m o r (λ f g. A f g × B f g)
adds_two m n o p q r A B pr qr h g more = record {
  count = g.count ∙ h.count;
  images = λ k i e. g.images k i (h.images k i e);
  names = λ c d e. g.names c d (h.names c d e);
  above = λ k l. g.above k (omega arith) ∙ h.above k (omega arith);
  holds = (more h.holds, g.holds);
  least = λ s t i j a. let x = h.least s t i j a.0 in g.least s t x.0 x.1 a.1;
}

-- images stay images where there are more
pub image_more : (f g s t : ℕ → Option ℕ) → Includes f s → Includes g t → (l x : TypeLine) → IsImage f g l x
    → IsImage s t l x
image_more f g s t i j (unknown_line u) x h = tt
image_more f g s t i j int_line int_line h = tt
image_more f g s t i j bool_line bool_line h = tt
image_more f g s t i j (pair_line a b) (pair_line c d) h = (i a c h.0, i b d h.1)
image_more f g s t i j (arrow_line a b) (arrow_line c d) h = (i a c h.0, i b d h.1)
image_more f g s t i j (code_line a b) (code_line c d) h = (j a c h.0, i b d h.1)
image_more f g s t i j (closed_line a) (closed_line c) h = i a c h
image_more f g s t i j _ _ h = absurd h

pub has_image_more : (f g s t : ℕ → Option ℕ) (ls ms : List TypeLine) (k : ℕ) → Includes f s → Includes g t → s k ≡ f k
    → HasImage f g ls ms k → HasImage s t ls ms k
has_image_more f g s t ls ms k i j e h l a p q =
    let x = h l a p (sym e ∙ q) in (x.0, x.1, image_more f g s t i j l x.0 x.2)

data IsFrom (p k : ℕ) : Type 0 where
  same : p ≡ k → IsFrom p k
  more : suc p ≤ k → IsFrom p k

le_cases : (p k : ℕ) → p ≤ k → IsFrom p k
le_cases zero zero h = same refl
le_cases zero (suc k) h = more (omega arith)
le_cases (suc p) zero h = absurd (omega arith)
le_cases (suc p) (suc k) h =
    elim (le_cases p k (omega arith)) [ same e ↦ same (ap suc e) | more l ↦ more (omega arith) ]

-- the images that are found from the root's line down to a place
module _ (root here : TypeLines) (r at : ℕ) where
  pub record IsFollowed (m : Images) (left : ℕ) : Type 0 where
    pub count : length m.places.items ≡ suc r
    pub within : left ≤ suc r
    pub start : image_of m r ≡ Some at
    pub followed : (k : ℕ) → left ≤ k → HasImage (image_of m) (name_of m) (lines_of root) (lines_of here) k
    pub least : (s : Substitution) → apply s (type_at root r) ≡ type_at here at
        → Includes (image_of m) (forced_place (types_of root) (types_of here) s) × Includes (name_of m) (forced_name s)

  module _ (known : AreHeld root) (held : AreHeld here) (r_within : r < length (lines_of root))
      (at_within : at < length (lines_of here)) where
    root_named : slice_get (types_of root) r ≡ Some (type_at root r)
    root_named = slice_get-get_or (types_of root) r int_ty (let c = known.lines.count in omega arith)

    here_named : slice_get (types_of here) at ≡ Some (type_at here at)
    here_named = slice_get-get_or (types_of here) at int_ty (let c = held.lines.count in omega arith)

    pub first_followed : (m : Images) → IsFirst m r at → IsFollowed m (suc r)
    first_followed m h = record {
      count = h.count;
      within = omega arith;
      start = h.here;
      followed = λ k le l i p q. absurd (let e = (h.alone k i q).0 in omega arith);
      least = λ s e. (
        (λ k i q.
            let a = h.alone k i q in
            let f = is_forced (lines_of root) (types_of root) known.lines (lines_of here) (types_of here)
            held.lines s r at
            (type_at root r) root_named (here_named ∙ ap (λ t. Some t) (sym e)) in
            rw (a.0, a.1) f),
        (λ c d q. absurd (let n = h.unnamed c in cc)),
      );
    }

    -- the next place
    pub next_followed : (m n : Images) (p : ℕ) → IsFollowed m (suc p)
        → Adds m n p (λ f g. HasImage f g (lines_of root) (lines_of here) p) → IsFollowed n p
    next_followed m n p h a = record {
      count = a.count ∙ h.count;
      within = let w = h.within in omega arith;
      start = a.images r at h.start;
      followed = λ k le. elim (le_cases p k le) [
        | same e ↦ rw (sym e) a.holds
        | more lt ↦ has_image_more (image_of m) (name_of m) (image_of n) (name_of n) (lines_of root) (lines_of here) k
            a.images a.names (a.above k le) (h.followed k lt)
      ];
      least = λ s e.
          let x = h.least s e in
          a.least (forced_place (types_of root) (types_of here) s) (forced_name s) x.0 x.1
          (forced_images (lines_of root) (types_of root) known.lines (lines_of here) (types_of here) held.lines s p);
    }

    -- all places
    pub all_followed : (m : Images) → IsFollowed m 0 → IsMadeFrom (type_at root r) (type_at here at)
    all_followed m h =
        made (lines_of root) (types_of root) known.lines (lines_of here) (types_of here) held.lines (image_of m)
        (name_of m)
        (λ k. h.followed k (omega arith)) (type_at root r) (type_at here at) r at root_named h.start here_named

    -- a place's line that has no image
    pub not_made : (m : Images) (p left : ℕ) → IsFollowed m left
        → Refuses m (λ f g. HasImage f g (lines_of root) (lines_of here) p)
        → IsMadeFrom (type_at root r) (type_at here at) → ⊥
    not_made m p left h n w =
        let x = h.least w.by w.gives in
        n (forced_place (types_of root) (types_of here) w.by) (forced_name w.by) x.0 x.1
        (forced_images (lines_of root) (types_of root) known.lines (lines_of here) (types_of here) held.lines w.by p)

-- a place's line and its image
named_below : (ts : List TypeExpression) (p n : ℕ) (l : TypeLine) (t : TypeExpression) → p ≤ n → NamesType ts p l t
    → HasPartsBelow n l
named_below ts p n l t le names_int = tt
named_below ts p n l t le names_bool = tt
named_below ts p n l t le names_unknown = tt
named_below ts p n l t le (names_pair a b) = let e = a.earlier in let f = b.earlier in (omega arith, omega arith)
named_below ts p n l t le (names_arrow a b) = let e = a.earlier in let f = b.earlier in (omega arith, omega arith)
named_below ts p n l t le (names_code a h) = let e = a.earlier in omega arith
named_below ts p n l t le (names_closed a h) = let e = a.earlier in omega arith

pub parts_within : (root : TypeLines) (p n : ℕ) (l : TypeLine) → AreHeld root → slice_get (lines_of root) p ≡ Some l
    → p ≤ n
    → HasPartsBelow n l
parts_within root p n l h e le =
    let lt = slice_get_within (lines_of root) p l e in
    let c = h.lines.count in
    let s = slice_get-get_or (types_of root) p int_ty (omega arith) in
    named_below (types_of root) p n l (get_or (types_of root) p int_ty) le
    (h.lines.each p l (get_or (types_of root) p int_ty) e s)

-- what has an image has this one
has_this : (root here : TypeLines) (m : Images) (p i : ℕ) (l x : TypeLine) (f g : ℕ → Option ℕ) → image_of m p ≡ Some i
    → slice_get (lines_of root) p ≡ Some l → slice_get (lines_of here) i ≡ Some x → Includes (image_of m) f
    → HasImage f g (lines_of root) (lines_of here) p → IsImage f g l x
has_this root here m p i l x f g a b d h y =
    let z = y l i b (h p i a) in
    let e : z.0 ≡ x = let q = z.1 in cc in
    subst (λ w. IsImage f g l w) e z.2

pub adds_image : (root here : TypeLines) (m n : Images) (p i : ℕ) (l x : TypeLine) → image_of m p ≡ Some i
    → slice_get (lines_of root) p ≡ Some l → slice_get (lines_of here) i ≡ Some x
    → Adds m n p (λ f g. IsImage f g l x) → Adds m n p (λ f g. HasImage f g (lines_of root) (lines_of here) p)
adds_image root here m n p i l x a b d h =
    adds_as m n p p (λ f g. IsImage f g l x) (λ f g. HasImage f g (lines_of root) (lines_of here) p) (omega arith) h
    (λ y k j q r.
    let e : l ≡ k = cc in
    let s = h.images p i a in
    let t : i ≡ j = cc in
    (x, rw (sym t) d, subst (λ w. IsImage (image_of n) (name_of n) w x) e y))
    (λ f g s t y. has_this root here m p i l x f g a b d s y)

pub refuses_image : (root here : TypeLines) (m : Images) (p i : ℕ) (l x : TypeLine) → image_of m p ≡ Some i
    → slice_get (lines_of root) p ≡ Some l → slice_get (lines_of here) i ≡ Some x
    → Refuses m (λ f g. IsImage f g l x) → Refuses m (λ f g. HasImage f g (lines_of root) (lines_of here) p)
refuses_image root here m p i l x a b d h f g s t y = h f g s t (has_this root here m p i l x f g a b d s y)

pub refuses_past : (root here : TypeLines) (m : Images) (p i : ℕ) (l : TypeLine) → image_of m p ≡ Some i
    → slice_get (lines_of root) p ≡ Some l → slice_get (lines_of here) i ≡ None
    → Refuses m (λ f g. HasImage f g (lines_of root) (lines_of here) p)
refuses_past root here m p i l a b d f g s t y = let z = y l i b (s p i a) in let q = z.1 in cc
