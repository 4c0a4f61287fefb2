-- A type is made from a root where the root's line, and the lines below it, have images among the other lines.
use Rattle.std.proofs.Common.{◌≡◌, ℕ, zero, suc, List, [], ◌∷◌, get_or, Option, Some, None, refl, ap, sym, ◌∙◌}
use Rattle.std.proofs.Common.{Bool, true, false, arith, nat_eq, cond}
use Rattle.std.specs.Prelude.{slice_get}
use Rattle.std.specs.Option.{option_map}
use Rattle.std.proofs.lemmas.Option.{slice_get_within, slice_get-get_or, get_or_from_slice_get}
use Rattle.mw_types.specs.Types.{TypeExpression, int_ty, bool_ty, unknown, pair_ty, function_ty, code_ty, closed_ty}
use Rattle.mw_types.specs.Types.{Substitution, apply}
use Rattle.mw_lines.specs.TypeLines.{TypeLine, int_line, bool_line, unknown_line, pair_line, arrow_line, code_line}
use Rattle.mw_lines.specs.TypeLines.{closed_line}
use Rattle.mw_lines.specs.TypeLines.{AreTypeLines, NamesType, names_int, names_bool, names_unknown, names_pair}
use Rattle.mw_lines.specs.TypeLines.{names_arrow, names_code, names_closed}
use Rattle.mw_lines.specs.Made.{IsMadeFrom}
use Rattle.mw_lines.specs.Images.{IsImage, HasImage}
use Rattle.mw_lines.specs.Deciding.{or, same_type}
use Rattle.mw_lines.specs.Naming.{type_named}
use Rattle.mw_lines.proofs.NamedTypes.{one_type}
use Rattle.mw_lines.proofs.Candidates.{type_same, same_type-refl}
use Rattle.mw_lines.proofs.OneLine.{line_at, one_line, inv-int, inv-bool, inv-unknown, inv-pair, inv-arrow, inv-code}
use Rattle.mw_lines.proofs.OneLine.{inv-closed}

-- the line of an unknown
unknown_place : List TypeLine → ℕ → ℕ
unknown_place [] u = 0
unknown_place (unknown_line v ∷ ls) u = cond (nat_eq v u) 0 (suc (unknown_place ls u))
unknown_place (_ ∷ ls) u = suc (unknown_place ls u)

found-step : (ls : List TypeLine) (v u n : ℕ) → slice_get ls n ≡ Some (unknown_line u)
    → slice_get (unknown_line v ∷ ls) (cond (nat_eq v u) 0 (suc n)) ≡ Some (unknown_line u)
found-step ls v u n h = grind (arith, h)

unknown_place-found : (ls : List TypeLine) (k u : ℕ) → slice_get ls k ≡ Some (unknown_line u)
    → slice_get ls (unknown_place ls u) ≡ Some (unknown_line u)
unfolding unknown_place
unknown_place-found [] k u h = absurd (cc)
unknown_place-found (unknown_line v ∷ ls) zero u h = let p : v ≡ u = cc in rw p (grind arith)
unknown_place-found (unknown_line v ∷ ls) (suc k) u h =
    found-step ls v u (unknown_place ls u) (unknown_place-found ls k u h)
unknown_place-found (_ ∷ ls) zero u h = absurd (cc)
unknown_place-found (_ ∷ ls) (suc k) u h = unknown_place-found ls k u h

-- the forms of images
image-pair : (f g : ℕ → Option ℕ) (i j : ℕ) (x : TypeLine) → IsImage f g (pair_line i j) x
    → (k l : ℕ) × (x ≡ pair_line k l) × (f i ≡ Some k) × (f j ≡ Some l)
image-pair f g i j (pair_line k l) h = (k, l, refl, h.0, h.1)
image-pair f g i j _ h = absurd h

image-arrow : (f g : ℕ → Option ℕ) (i j : ℕ) (x : TypeLine) → IsImage f g (arrow_line i j) x
    → (k l : ℕ) × (x ≡ arrow_line k l) × (f i ≡ Some k) × (f j ≡ Some l)
image-arrow f g i j (arrow_line k l) h = (k, l, refl, h.0, h.1)
image-arrow f g i j _ h = absurd h

image-code : (f g : ℕ → Option ℕ) (c i : ℕ) (x : TypeLine) → IsImage f g (code_line c i) x
    → (d k : ℕ) × (x ≡ code_line d k) × (g c ≡ Some d) × (f i ≡ Some k)
image-code f g c i (code_line d k) h = (d, k, refl, h.0, h.1)
image-code f g c i _ h = absurd h

image-closed : (f g : ℕ → Option ℕ) (i : ℕ) (x : TypeLine) → IsImage f g (closed_line i) x
    → (k : ℕ) × (x ≡ closed_line k) × (f i ≡ Some k)
image-closed f g i (closed_line k) h = (k, refl, h)
image-closed f g i _ h = absurd h

image-int : (f g : ℕ → Option ℕ) (x : TypeLine) → IsImage f g int_line x → x ≡ int_line
image-int f g int_line h = refl
image-int f g _ h = absurd h

image-bool : (f g : ℕ → Option ℕ) (x : TypeLine) → IsImage f g bool_line x → x ≡ bool_line
image-bool f g bool_line h = refl
image-bool f g _ h = absurd h

or_of : {A : Type 0} (o : Option A) (x d : A) → o ≡ Some x → or o d ≡ x
or_of None x d h = absurd (cc)
or_of (Some y) x d h = cc

module _ (ls : List TypeLine) (ts : List TypeExpression) (known : AreTypeLines ls ts) (ms : List TypeLine)
    (us : List TypeExpression) (table : AreTypeLines ms us) (image named : ℕ → Option ℕ) where
  -- each line that has an image has a right one
  abbrev pub HaveImages : Type 0
  HaveImages = (k : ℕ) → HasImage image named ls ms k

  -- the substitution of the images
  pub by : Substitution
  by = record { ty = λ u. get_or us (or (image (unknown_place ls u)) 0) int_ty; classifier = λ c. or (named c) 0 }

  -- a line's image, where the line is known
  image_at : HaveImages → (k i : ℕ) (a l : TypeLine) → slice_get ls k ≡ Some a → a ≡ l → image k ≡ Some i
      → (x : TypeLine) × (slice_get ms i ≡ Some x) × IsImage image named l x
  image_at all k i a l h e f = all k l i (h ∙ ap (λ z. Some z) e) f

  -- the type that an image names
  named_at : (i : ℕ) (x y : TypeLine) → slice_get ms i ≡ Some x → x ≡ y → slice_get us i ≡ Some (type_named us y)
  named_at i x y h e =
      let within = slice_get_within ms i x h in
      let s = slice_get-get_or us i int_ty (omega (arith, within, table.count)) in
      s ∙ ap (λ v. Some v) (one_type us i y (get_or us i int_ty)
      (table.each i y (get_or us i int_ty) (h ∙ ap (λ l. Some l) e) s))

  -- the type at a place
  type_at : (i : ℕ) (t : TypeExpression) → slice_get us i ≡ Some t → get_or us i int_ty ≡ t
  type_at i t h = get_or_from_slice_get us i t int_ty h

  -- then each line's image names what the substitution makes of the line's type
  pub image_named : HaveImages → (t : TypeExpression) (k i : ℕ) → slice_get ts k ≡ Some t → image k ≡ Some i
      → slice_get us i ≡ Some (apply by t)
  unfolding by
  image_named all int_ty k i h e =
      let a = line_at ls ts known k int_ty h in
      let x = image_at all k i a.0 int_line a.1 (inv-int a.2) e in
      named_at i x.0 int_line x.1 (image-int image named x.0 x.2)
  image_named all bool_ty k i h e =
      let a = line_at ls ts known k bool_ty h in
      let x = image_at all k i a.0 bool_line a.1 (inv-bool a.2) e in
      named_at i x.0 bool_line x.1 (image-bool image named x.0 x.2)
  image_named all (unknown u) k i h e =
      let a = line_at ls ts known k (unknown u) h in
      let here : slice_get ls k ≡ Some (unknown_line u) = a.1 ∙ ap (λ l. Some l) (inv-unknown a.2) in
      let same = known.once k (unknown_place ls u) (unknown_line u) here (unknown_place-found ls k u here) in
      let w : or (image (unknown_place ls u)) 0 ≡ i =
      or_of (image (unknown_place ls u)) i 0 (ap image (sym same) ∙ e) in
      let x = all k (unknown_line u) i here e in
      rw w (slice_get-get_or us i int_ty (omega (arith, slice_get_within ms i x.0 x.1, table.count)))
  image_named all (pair_ty s t) k i h e =
      let a = line_at ls ts known k (pair_ty s t) h in
      let p = inv-pair a.2 in
      let x = image_at all k i a.0 (pair_line p.0 p.1) a.1 p.2 e in
      let q = image-pair image named p.0 p.1 x.0 x.2 in
      let one = image_named all s p.0 q.0 p.3 q.3 in
      let two = image_named all t p.1 q.1 p.4 q.4 in
      named_at i x.0 (pair_line q.0 q.1) x.1 q.2 ∙ rw (type_at q.0 _ one, type_at q.1 _ two) refl
  image_named all (function_ty s t) k i h e =
      let a = line_at ls ts known k (function_ty s t) h in
      let p = inv-arrow a.2 in
      let x = image_at all k i a.0 (arrow_line p.0 p.1) a.1 p.2 e in
      let q = image-arrow image named p.0 p.1 x.0 x.2 in
      let one = image_named all s p.0 q.0 p.3 q.3 in
      let two = image_named all t p.1 q.1 p.4 q.4 in
      named_at i x.0 (arrow_line q.0 q.1) x.1 q.2 ∙ rw (type_at q.0 _ one, type_at q.1 _ two) refl
  image_named all (code_ty c t) k i h e =
      let a = line_at ls ts known k (code_ty c t) h in
      let p = inv-code a.2 in
      let x = image_at all k i a.0 (code_line c p.0) a.1 p.1 e in
      let q = image-code image named c p.0 x.0 x.2 in
      let one = image_named all t p.0 q.1 p.2 q.4 in
      let n : or (named c) 0 ≡ q.0 = or_of (named c) q.0 0 q.3 in
      named_at i x.0 (code_line q.0 q.1) x.1 q.2 ∙ rw (type_at q.1 _ one, n) refl
  image_named all (closed_ty t) k i h e =
      let a = line_at ls ts known k (closed_ty t) h in
      let p = inv-closed a.2 in
      let x = image_at all k i a.0 (closed_line p.0) a.1 p.1 e in
      let q = image-closed image named p.0 x.0 x.2 in
      let one = image_named all t p.0 q.0 p.2 q.2 in
      named_at i x.0 (closed_line q.0) x.1 q.1 ∙ rw (type_at q.0 _ one) refl

  -- so where the root's line has an image, that line names a type made from the root
  pub made : HaveImages → (root t : TypeExpression) (r i : ℕ) → slice_get ts r ≡ Some root → image r ≡ Some i
      → slice_get us i ≡ Some t → IsMadeFrom root t
  made all root t r i h e g = record { by = by; gives = let w = image_named all root r i h e in cc }

-- the first place of a type
type_place : List TypeExpression → TypeExpression → Option ℕ
type_place [] t = None
type_place (u ∷ us) t = cond (same_type u t) (Some 0) (option_map suc (type_place us t))

place_found : (us : List TypeExpression) (t : TypeExpression) (i : ℕ) → type_place us t ≡ Some i
    → slice_get us i ≡ Some t
unfolding type_place
place_found [] t i h = absurd (cc)
place_found (u ∷ us) t i h = here (same_type u t) (type_place us t) i refl (λ j e. place_found us t j e) h
  where
    here : (b : Bool) (o : Option ℕ) (i : ℕ) → same_type u t ≡ b → ((j : ℕ) → o ≡ Some j → slice_get us j ≡ Some t)
        → cond b (Some 0) (option_map suc o) ≡ Some i → slice_get (u ∷ us) i ≡ Some t
    here true o i e f h = let z : 0 ≡ i = cc in rw (sym z) (ap (λ x. Some x) (type_same u t e))
    here false None i e f h = absurd (cc)
    here false (Some j) i e f h = let z : suc j ≡ i = cc in rw (sym z) (f j refl)

has_place : (us : List TypeExpression) (t : TypeExpression) (i : ℕ) → slice_get us i ≡ Some t
    → (j : ℕ) × (type_place us t ≡ Some j)
unfolding type_place
has_place [] t i h = absurd (cc)
has_place (u ∷ us) t zero h = (0, let e : u ≡ t = cc in rw (e, same_type-refl t) refl)
has_place (u ∷ us) t (suc i) h = let p = has_place us t i h in later (same_type u t) (type_place us t) p.0 p.1
  where
    later : (b : Bool) (o : Option ℕ) (j : ℕ) → o ≡ Some j → (k : ℕ) × (cond b (Some 0) (option_map suc o) ≡ Some k)
    later true o j e = (0, refl)
    later false o j e = (suc j, rw e refl)

-- And where a type is made from a root, the images are forced, form by form from the root down: on a line of these
-- types a substitution forces the line, of the others, that names what it makes of the line's type.
pub forced_place : (ts us : List TypeExpression) → Substitution → ℕ → Option ℕ
forced_place ts us s k = type_place us (apply s (get_or ts k int_ty))

abbrev pub forced_name : Substitution → ℕ → Option ℕ
forced_name s c = Some (s.classifier c)

module _ (ls : List TypeLine) (ts : List TypeExpression) (known : AreTypeLines ls ts) (ms : List TypeLine)
    (us : List TypeExpression) (table : AreTypeLines ms us) (s : Substitution) where
  pub forced_at : (k i : ℕ) (t : TypeExpression) → slice_get ts k ≡ Some t → forced_place ts us s k ≡ Some i
      → slice_get us i ≡ Some (apply s t)
  unfolding forced_place
  forced_at k i t h e =
      let z = get_or_from_slice_get ts k t int_ty h in
      place_found us (apply s (get_or ts k int_ty)) i e ∙ ap (λ x. Some (apply s x)) z

  pub is_forced : (k i : ℕ) (t : TypeExpression) → slice_get ts k ≡ Some t → slice_get us i ≡ Some (apply s t)
      → forced_place ts us s k ≡ Some i
  unfolding forced_place
  is_forced k i t h e =
      let z = get_or_from_slice_get ts k t int_ty h in
      let p = has_place us (apply s t) i e in
      let q = place_found us (apply s t) p.0 p.1 in
      let same = one_line ms us table (apply s t) p.0 i q e in
      ap (λ x. type_place us (apply s x)) z ∙ p.1 ∙ ap (λ j. Some j) same

  pub forced_images : (k : ℕ) → HasImage (forced_place ts us s) (forced_name s) ls ms k
  forced_images k l i h e =
      let within = slice_get_within ls k l h in
      let t = get_or ts k int_ty in
      let g = slice_get-get_or ts k int_ty (omega (arith, within, known.count)) in
      at_line l t i h g (forced_at k i t g e) (known.each k l t h g)
    where
      at_line : (l : TypeLine) (t : TypeExpression) (i : ℕ) → slice_get ls k ≡ Some l → slice_get ts k ≡ Some t
          → slice_get us i ≡ Some (apply s t) → NamesType ts k l t
          → (x : TypeLine) × (slice_get ms i ≡ Some x) × IsImage (forced_place ts us s) (forced_name s) l x
      at_line l t i h g e names_int =
          let z = line_at ms us table i int_ty e in
          (int_line, rw (inv-int z.2) at z.1, tt)
      at_line l t i h g e names_bool =
          let z = line_at ms us table i bool_ty e in
          (bool_line, rw (inv-bool z.2) at z.1, tt)
      at_line l t i h g e (names_unknown {u = u}) = let z = line_at ms us table i (s.ty u) e in (z.0, z.1, tt)
      at_line l t i h g e (names_pair {j = j} {k = m} {s = v} {t = w} a b) =
          let z = line_at ms us table i (pair_ty (apply s v) (apply s w)) e in
          let p = inv-pair z.2 in
          (pair_line p.0 p.1, rw p.2 at z.1, (is_forced j p.0 v a.named p.3, is_forced m p.1 w b.named p.4))
      at_line l t i h g e (names_arrow {j = j} {k = m} {s = v} {t = w} a b) =
          let z = line_at ms us table i (function_ty (apply s v) (apply s w)) e in
          let p = inv-arrow z.2 in
          (arrow_line p.0 p.1, rw p.2 at z.1, (is_forced j p.0 v a.named p.3, is_forced m p.1 w b.named p.4))
      at_line l t i h g e (names_code {c = c} {j = j} {t = w} a n) =
          let z = line_at ms us table i (code_ty (s.classifier c) (apply s w)) e in
          let p = inv-code z.2 in
          (code_line (s.classifier c) p.0, rw p.1 at z.1, (refl, is_forced j p.0 w a.named p.2))
      at_line l t i h g e (names_closed {j = j} {t = w} a n) =
          let z = line_at ms us table i (closed_ty (apply s w)) e in
          let p = inv-closed z.2 in
          (closed_line p.0, rw p.1 at z.1, is_forced j p.0 w a.named p.2)
