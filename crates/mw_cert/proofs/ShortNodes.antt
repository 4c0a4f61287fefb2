-- What is known of a node is three numbers at most.
use Rattle.std.proofs.Common.{◌≡◌, ℕ, zero, suc, ◌+◌, ◌<◌, ◌≤◌, List, [], ◌∷◌, ◌++◌, map, length, Option, Some, None}
use Rattle.std.proofs.Common.{refl, sym, subst, arith}
use Rattle.std.specs.List.{AllByRecursion}
use Rattle.std.specs.Prelude.{slice_get, option_map, option_to_list}
use Rattle.std.proofs.lemmas.List.{length-map}
use Rattle.std.proofs.lemmas.Option.{same_Some, none-some, slice_get_within}
use Rattle.mw_term.specs.Terms.{Expression, num, truth, var, glob, fun, fix, app, bind, cond, pair, fst, snd, prim}
use Rattle.mw_term.specs.Terms.{bracket, escape, run, close, opened, lift, lift_b, done}
use Rattle.mw_term.specs.Programs.{Definition, PureProgram}
use Rattle.mw_term.specs.Parts.{Part, IsPart, an_item, main, part_of_item, part_of_main}
use Rattle.mw_term.specs.Typable.{seen_by_item}
use Rattle.mw_types.specs.Types.{Substitution}
use Rattle.mw_infer.specs.Schemes.{TopScheme}
use Rattle.mw_infer.specs.ItemEquations.{unknowns_of, classifiers_of}
use Rattle.mw_infer.specs.Nodes.{NodeNumbers, NodeFacts, AreNodesOf, AreNodesOfPart, facts_at, node_numbers}
use Rattle.mw_cert.specs.Nodes.{IsShort, AreShort, AllAreShort}

-- a node's numbers are three at most
abbrev pub FewNumbers : NodeNumbers → Type 0
FewNumbers n = length n.types + length (option_to_list n.classifier) ≤ 3

abbrev pub AllFew : List NodeNumbers → Type 0
AllFew ns = AllByRecursion FewNumbers ns

few-append : (ns ms : List NodeNumbers) → AllFew ns → AllFew ms → AllFew (ns ++ ms)
few-append [] ms h k = k
few-append (n ∷ ns) ms h k = (h.0, few-append ns ms h.1 k)

module _ (tops : List TopScheme) where
  pub numbers_few : (u o c : ℕ) (e : Expression) → AllFew (node_numbers tops u o c e)
  numbers_few u o c (num n) = (omega arith, tt)
  numbers_few u o c (truth b) = (omega arith, tt)
  numbers_few u o c (var i) = (omega arith, tt)
  numbers_few u o c (glob i) = (omega arith, tt)
  numbers_few u o c (fun e) = (omega arith, numbers_few (o + 1) (o + 2) c e)
  numbers_few u o c (fix e) = (omega arith, numbers_few (o + 2) (o + 3) c e)
  numbers_few u o c (app f a) =
      (omega arith, few-append (node_numbers tops o (o + 2) c f) _ (numbers_few _ _ _ f) (numbers_few _ _ _ a))
  numbers_few u o c (bind d e) =
      (omega arith, few-append (node_numbers tops (o + 1) (o + 3) c d) _ (numbers_few _ _ _ d) (numbers_few _ _ _ e))
  numbers_few u o c (cond p a b) =
      let front = node_numbers tops o (o + 3) c p ++ node_numbers tops (o + 1) (o + 3 + unknowns_of tops p)
      (c + classifiers_of tops p) a in
      let few = few-append (node_numbers tops o (o + 3) c p) _ (numbers_few _ _ _ p)
      (numbers_few (o + 1) (o + 3 + unknowns_of tops p) (c + classifiers_of tops p) a) in
      (omega arith, few-append front _ few (numbers_few _ _ _ b))
  numbers_few u o c (pair a b) =
      (omega arith, few-append (node_numbers tops o (o + 2) c a) _ (numbers_few _ _ _ a) (numbers_few _ _ _ b))
  numbers_few u o c (fst e) = (omega arith, numbers_few (o + 1) (o + 2) c e)
  numbers_few u o c (snd e) = (omega arith, numbers_few (o + 1) (o + 2) c e)
  numbers_few u o c (prim p a b) =
      (omega arith, few-append (node_numbers tops o (o + 2) c a) _ (numbers_few _ _ _ a) (numbers_few _ _ _ b))
  numbers_few u o c (bracket e) = (omega arith, numbers_few o (o + 1) (c + 1) e)
  numbers_few u o c (escape e) = (omega arith, numbers_few o (o + 1) c e)
  numbers_few u o c (run k e) = (omega arith, numbers_few o (o + 1) c e)
  numbers_few u o c (close at e) = (omega arith, numbers_few (o + 1) (o + 2) (c + 1) e)
  numbers_few u o c (opened e) = (omega arith, numbers_few (o + 1) (o + 2) (c + 1) e)
  numbers_few u o c (lift e) = (omega arith, numbers_few o (o + 1) (c + 1) e)
  numbers_few u o c (lift_b e) = (omega arith, numbers_few o (o + 1) (c + 1) e)
  numbers_few u o c (done v) = (omega arith, tt)

-- so what is known of the node is
one_for_one : (f : ℕ → ℕ) (o : Option ℕ) → length (option_to_list (option_map f o)) ≡ length (option_to_list o)
one_for_one f (Some x) = refl
one_for_one f None = refl

facts_short : (s : Substitution) (n : NodeNumbers) → FewNumbers n → IsShort (facts_at s n)
facts_short s n h = omega (arith, length-map n.types s.ty, one_for_one s.classifier n.classifier)

all_short : (s : Substitution) (ns : List NodeNumbers) → AllFew ns → AreShort (map (facts_at s) ns)
all_short s [] h k x e = absurd (none-some x e)
all_short s (n ∷ ns) h zero x e = subst IsShort (same_Some (facts_at s n) x e) (facts_short s n h.0)
all_short s (n ∷ ns) h (suc k) x e = all_short s ns h.1 k x e

part_short : (x : Part) (facts : List NodeFacts) → AreNodesOfPart x facts → AreShort facts
part_short x facts h =
    subst AreShort (sym h.told)
    (all_short h.solution (node_numbers h.schemes 0 1 0 x.term) (numbers_few h.schemes 0 1 0 x.term))

-- each place up to main's is a part's
part_at : (p : PureProgram) (i : ℕ) (o : Option Definition) → slice_get p.items i ≡ o → i < length p.items + 1
    → (o ≡ None → length p.items ≤ i) → (x : Part) × IsPart p i x
part_at p i (Some d) e h past = (part_of_item (seen_by_item p.items i) d, an_item e)
part_at p i None e h past = let l : length p.items ≤ i = past refl in (part_of_main p, main (omega arith))

past_none : {A : Type 0} (xs : List A) (i : ℕ) → slice_get xs i ≡ None → length xs ≤ i
past_none [] i h = omega arith
past_none (x ∷ xs) zero h = absurd (none-some x (sym h))
past_none (x ∷ xs) (suc i) h = let l : length xs ≤ i = past_none xs i h in omega arith

pub part_there : (p : PureProgram) (i : ℕ) → i < length p.items + 1 → (x : Part) × IsPart p i x
part_there p i lt = part_at p i (slice_get p.items i) refl lt (past_none p.items i)

pub nodes_short : (p : PureProgram) (parts : List (List NodeFacts)) → AreNodesOf p parts → AllAreShort parts
nodes_short p parts h i facts e =
    let l : i < length parts = slice_get_within parts i facts e in
    let n = h.count in
    let x = part_there p i (omega arith) in
    part_short x.0 facts (h.each i x.0 facts x.1 e)
