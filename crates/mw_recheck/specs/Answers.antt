-- What functions answer that follow a certificate.
use Rattle.std.specs.Prelude.{ℕ, ◌≡◌, Bool, true, false, if◌then◌else◌, List, [], ◌∷◌, ◌++◌, Option, Some, None, Result}
use Rattle.std.specs.Prelude.{Ok, Err, codes}
use Rattle.mw_lines.specs.TypeLines.{TypeLine}
use Rattle.mw_lines.specs.Deciding.{may_follow_all}
use Rattle.mw_recheck.specs.Options.{◌>>=◌}
use Rattle.mw_recheck.specs.Reading.{behind, number_before, type_lines_at}
use Rattle.mw_recheck.specs.declared.stop.Stop.{Stop}
use Rattle.mw_recheck.specs.declared.stop.Stop.TheVariants.{Wrong, Memory}
use Rattle.mw_recheck.specs.declared.section.NodeLine.{NodeLine}
use Rattle.mw_recheck.specs.declared.section.NodeLine.TheVariants.{One, Two, Three}

-- a function stops where there is no answer, unless memory ran out
abbrev pub StopsAt : {Y : Type 0} → Stop → Option Y → Type 0
StopsAt Wrong answer = answer ≡ None
StopsAt (Memory e) answer = Unit {0}

-- a function answers what is answered, unless memory ran out
abbrev pub Gives : {X Y : Type 0} → (X → Y) → Result X Stop → Option Y → Type 0
Gives view (Ok x) answer = answer ≡ Some (view x)
Gives view (Err stop) answer = StopsAt stop answer

-- the view
abbrev pub numbers_of : NodeLine → List ℕ
numbers_of (One a) = a ∷ []
numbers_of (Two a b) = a ∷ b ∷ []
numbers_of (Three a b c) = a ∷ b ∷ c ∷ []

-- so many lines, of which each may follow those before it
abbrev pub lines_after : List TypeLine → ℕ → List ℕ → Option (List TypeLine × List ℕ)
lines_after before n bytes =
    type_lines_at n bytes >>= λ t. if may_follow_all before t.0 then Some (before ++ t.0, t.1) else None

-- type lines behind their number, which name types
abbrev pub held_at : List ℕ → Option (List TypeLine × List ℕ)
held_at bytes =
    behind (codes "types ") bytes >>= λ a. (number_before (codes "\n") a >>= λ n. lines_after [] n.0 n.1)

-- a function says whether, unless memory ran out
abbrev pub Follows : {X : Type 0} → Result X Stop → Bool → Type 0
Follows (Ok x) answer = answer ≡ true
Follows (Err Wrong) answer = answer ≡ false
Follows (Err (Memory e)) answer = Unit {0}
