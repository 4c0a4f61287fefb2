-- Images of the lines of one list among the lines of another, and of classifiers, as they are found.
use Rattle.std.specs.Prelude.{ℕ, suc, ◌≡◌, ◌<◌, ◌≤◌, List, length, Option, Some, None, slice_get, slice_index_or}
use Rattle.std.specs.Ordering.{nat_cmp}
use Rattle.std.specs.BTreeMap.{get}
use Rattle.mw_lines.specs.TypeLines.{TypeLine, int_line, bool_line, unknown_line, pair_line, arrow_line, code_line}
use Rattle.mw_lines.specs.TypeLines.{closed_line}
use Rattle.mw_lines.specs.declared.made.Images.{Images}

-- The second line is an image of the first: of the same form, its parts images of the first's; any line for an unknown.
abbrev pub IsImage : (ℕ → Option ℕ) → (ℕ → Option ℕ) → TypeLine → TypeLine → Type 0
IsImage image named (unknown_line u) x = Unit {0}
IsImage image named int_line int_line = Unit {0}
IsImage image named bool_line bool_line = Unit {0}
IsImage image named (pair_line i j) (pair_line k l) = (image i ≡ Some k) × (image j ≡ Some l)
IsImage image named (arrow_line i j) (arrow_line k l) = (image i ≡ Some k) × (image j ≡ Some l)
IsImage image named (code_line c i) (code_line d k) = (named c ≡ Some d) × (image i ≡ Some k)
IsImage image named (closed_line i) (closed_line k) = image i ≡ Some k
IsImage image named _ _ = ⊥

-- where the line at a place has an image, that is an image of it
abbrev pub HasImage : (ℕ → Option ℕ) → (ℕ → Option ℕ) → List TypeLine → List TypeLine → ℕ → Type 0
HasImage image named ls ms p = (l : TypeLine) (i : ℕ) → slice_get ls p ≡ Some l → image p ≡ Some i
    → (x : TypeLine) × (slice_get ms i ≡ Some x) × IsImage image named l x

-- the views: the image of a line, and what a classifier becomes
abbrev pub image_of : Images → ℕ → Option ℕ
image_of m k = slice_index_or m.places.items k None

abbrev pub name_of : Images → ℕ → Option ℕ
name_of m c = get nat_cmp m.classifiers c

-- a function has what another has
abbrev pub Includes : (ℕ → Option ℕ) → (ℕ → Option ℕ) → Type 0
Includes f g = (k i : ℕ) → f k ≡ Some i → g k ≡ Some i

-- what is asked holds of the second, which has no more than that needs, and no new image from place p on
pub record Adds (m n : Images) (p : ℕ) (asked : (ℕ → Option ℕ) → (ℕ → Option ℕ) → Type 0) : Type 0 where
  pub count : length n.places.items ≡ length m.places.items
  pub images : Includes (image_of m) (image_of n)
  pub names : Includes (name_of m) (name_of n)
  pub above : (k : ℕ) → p ≤ k → image_of n k ≡ image_of m k
  pub holds : asked (image_of n) (name_of n)
  pub least : (f g : ℕ → Option ℕ) → Includes (image_of m) f → Includes (name_of m) g → asked f g
      → Includes (image_of n) f × Includes (name_of n) g

-- what is asked holds of nothing that has these images and names
abbrev pub Refuses : Images → ((ℕ → Option ℕ) → (ℕ → Option ℕ) → Type 0) → Type 0
Refuses m asked = (f g : ℕ → Option ℕ) → Includes (image_of m) f → Includes (name_of m) g → asked f g → ⊥

-- the parts of the line stand before place p
abbrev pub HasPartsBelow : ℕ → TypeLine → Type 0
HasPartsBelow p int_line = Unit {0}
HasPartsBelow p bool_line = Unit {0}
HasPartsBelow p (unknown_line u) = Unit {0}
HasPartsBelow p (pair_line i j) = (i < p) × (j < p)
HasPartsBelow p (arrow_line i j) = (i < p) × (j < p)
HasPartsBelow p (code_line c i) = i < p
HasPartsBelow p (closed_line i) = i < p

-- the last of so many and one lines has this image, and there is nothing else
pub record IsFirst (m : Images) (last image : ℕ) : Type 0 where
  pub count : length m.places.items ≡ suc last
  pub here : image_of m last ≡ Some image
  pub alone : (k i : ℕ) → image_of m k ≡ Some i → (k ≡ last) × (i ≡ image)
  pub unnamed : (c : ℕ) → name_of m c ≡ None
