-- Which fault a walk keeps that meets some faults in turn.
use Rattle.std.specs.Prelude.{Bool, ◌&&◌, ◌||◌, List, [], ◌∷◌, Option, Some, None, cond, nat_eq, nat_lt}
use Rattle.mw_scope.specs.declared.fault.Fault.{Fault}
use Rattle.mw_scope.specs.Faults.{place_of, number_of}

-- the first stands at an earlier place, or at the same one with a smaller number
abbrev pub is_before : Fault → Fault → Bool
is_before f g = nat_lt (place_of f) (place_of g) ||
    (nat_eq (place_of f) (place_of g) && nat_lt (number_of f) (number_of g))

-- a fault takes the place of the one that was kept, where it comes before it
abbrev pub kept_of : Option Fault → Fault → Fault
kept_of None f = f
kept_of (Some g) f = cond (is_before f g) f g

abbrev pub kept : Option Fault → List Fault → Option Fault
kept o [] = o
kept o (f ∷ fs) = kept (Some (kept_of o f)) fs
