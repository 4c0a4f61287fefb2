-- The code of ground types, by which proofs tell them apart: a tree of the same form.
use Rattle.std.specs.Prelude.{◌≡◌, refl}
use Rattle.std.specs.Coded.{Coded}
use Rattle.std.proofs.Common.{ap}
use package.base.Stored.{Gv, gnil, gnum, gcons}
use Rattle.mw_term.specs.Terms.{GroundType, base, product}
use Rattle.mw_term.specs.declared.term.Base.TheVariants.{Int, Bool as Truth}

abbrev pub tree_of : GroundType → Gv
tree_of (base Int) = gnil
tree_of (base Truth) = gnum 0
tree_of (product s t) = gcons (tree_of s) (tree_of t)

abbrev left : Gv → Gv
left (gcons a b) = a
left other = other

abbrev right : Gv → Gv
right (gcons a b) = b
right other = other

pub tree_of_inj : (s t : GroundType) → tree_of s ≡ tree_of t → s ≡ t
tree_of_inj (base Int) (base Int) p = refl
tree_of_inj (base Int) (base Truth) p = cc
tree_of_inj (base Int) (product u v) p = cc
tree_of_inj (base Truth) (base Int) p = cc
tree_of_inj (base Truth) (base Truth) p = refl
tree_of_inj (base Truth) (product u v) p = cc
tree_of_inj (product s t) (base Int) p = cc
tree_of_inj (product s t) (base Truth) p = cc
tree_of_inj (product s t) (product u v) p = let e = tree_of_inj s u (ap left p) in let f =
    tree_of_inj t v (ap right p) in cc

abbrev pub ground_code : Coded GroundType
ground_code = record { code = tree_of; inj = tree_of_inj }
