-- Node lines that read, under an assignment of a section's numbers, as nodes are under another of theirs.
use Rattle.std.proofs.Common.{◌≡◌, ℕ, suc, ◌+◌, List, [], ◌∷◌, ◌++◌, map, length, drop, Some, refl, ap, sym, subst, ◌∙◌}
use Rattle.std.proofs.Common.{arith}
use Rattle.std.specs.Prelude.{slice_get}
use Rattle.std.proofs.lemmas.List.{map-append, length-map}
use Rattle.mw_term.specs.Types.{TermType, Level, live}
use Rattle.mw_types.specs.Types.{TypeExpression, Assignment, value}
use Rattle.mw_recheck.specs.Notes.{Notes, IsNodeLine}
use Rattle.mw_recheck.proofs.NodeLines.{drop_head}
use Rattle.mw_infer.specs.Nodes.{NodeNumbers}
use Rattle.mw_written.specs.Readings.{line_readings, readings, reading_value}
use Rattle.mw_written.proofs.LineReadings.{line_read}
use Rattle.mw_general.proofs.Values.{values_of, types_under, classifiers_under, node_values, line_valued}
use Rattle.mw_general.proofs.Values.{AreSameNodes}

-- the line at place n names types and classifiers of which the assignment makes these
pub record Says (p : Notes) (b : Assignment) (n : ℕ) (ts : List TermType) (cs : List ℕ) : Type 0 where
  pub types : List TypeExpression
  pub classifiers : List ℕ
  pub line : IsNodeLine p live n types classifiers
  pub types_are : map (value b) types ≡ ts
  pub classifiers_are : map b.classifier classifiers ≡ cs

pub said : (p : Notes) (b : Assignment) (m : Level) (n : ℕ) (us : List TypeExpression) (cs : List ℕ)
    → IsNodeLine p m n us cs → Says p b n (map (value b) us) (map b.classifier cs)
said p b m n us cs h = record {
  types = us;
  classifiers = cs;
  line = record { lines = h.lines; line = h.line; named = h.named; fit = tt };
  types_are = refl;
  classifiers_are = refl;
}

-- the lines from place n on read as these nodes are under the second assignment
abbrev pub AllSay : Notes → Assignment → Assignment → ℕ → List NodeNumbers → Type 0
AllSay p b a n [] = Unit {0}
AllSay p b a n (x ∷ xs) = Says p b n (types_under a x) (classifiers_under a x) × AllSay p b a (n + 1) xs

pub same_say : (p : Notes) (b a d : Assignment) (n : ℕ) (xs : List NodeNumbers) → AreSameNodes a d xs
    → AllSay p b a n xs → AllSay p b d n xs
same_say p b a d n [] s h = tt
same_say p b a d n (x ∷ xs) s h =
    (rw (s.0.types, s.0.classifiers) at h.0, same_say p b a d (n + 1) xs s.1 h.1)

pub both_say : (p : Notes) (b a : Assignment) (n k : ℕ) (xs ys : List NodeNumbers) → k ≡ n + length xs
    → AllSay p b a n xs → AllSay p b a k ys → AllSay p b a n (xs ++ ys)
both_say p b a n k [] ys e h i = subst (λ j. AllSay p b a j ys) (omega (arith, e)) i
both_say p b a n k (x ∷ xs) ys e h i = (h.0, both_say p b a (n + 1) k xs ys (omega (arith, e)) h.1 i)

-- how many types each node has
abbrev pub counts_of : List NodeNumbers → List ℕ
counts_of xs = map (λ (x : NodeNumbers). length x.types) xs

-- what an assignment makes of what is read of one line
line_values : (p : Notes) (b : Assignment) (n : ℕ) (ts : List TermType) (cs l : List ℕ) (count : ℕ)
    → Says p b n ts cs → slice_get p.nodes n ≡ Some l → length ts ≡ count
    → map (reading_value b) (line_readings p.types count l) ≡ values_of ts cs
line_values p b n ts cs l count h e c =
    let same : length h.types ≡ count =
    sym (length-map h.types (value b)) ∙ ap (λ us. length us) h.types_are ∙ c in
    rw (sym same, line_read p live n h.types h.classifiers l h.line e) (line_valued b h.types h.classifiers
    ∙ rw (h.types_are, h.classifiers_are) refl)

-- and of all lines from a node on
pub say_values : (p : Notes) (b a : Assignment) (n : ℕ) (l : List (List ℕ)) (xs : List NodeNumbers)
    → drop n p.nodes ≡ l → length l ≡ length xs → AllSay p b a n xs
    → map (reading_value b) (readings p.types (counts_of xs) l) ≡ node_values a xs
say_values p b a n [] [] d c h = refl
say_values p b a n [] (x ∷ xs) d c h = absurd (omega (arith, c))
say_values p b a n (k ∷ l) [] d c h = absurd (omega (arith, c))
say_values p b a n (k ∷ l) (x ∷ xs) d c h =
    let y = drop_head p.nodes n k l d in
    let step : n + 1 ≡ suc n = omega arith in
    let later : drop (n + 1) p.nodes ≡ l = ap (λ i. drop i p.nodes) step ∙ sym y.1 in
    map-append (reading_value b) (line_readings p.types (length x.types) k) (readings p.types (counts_of xs) l)
    ∙ rw (
      line_values p b n (types_under a x) (classifiers_under a x) k (length x.types) h.0 y.0
          (length-map x.types a.ty),
      say_values p b a (n + 1) l xs later (omega (arith, c)) h.1,
    ) refl
