-- What is known of the nodes of parts, one part after another.
use Rattle.std.proofs.Common.{◌≡◌, ℕ, zero, suc, ◌+◌, ◌<◌, List, [], ◌∷◌, ◌++◌, length, map, Option, None, Some, refl, sym, subst}
use Rattle.std.proofs.Common.{◌∙◌, true≢false, arith}
use Rattle.std.specs.Prelude.{IsSome, slice_get}
use Rattle.std.proofs.lemmas.List.{length-append, map-append}
use Rattle.std.proofs.lemmas.Option.{slice_get_within}
use Rattle.mw_term.specs.Programs.{Definition, value, kernel, PureProgram}
use Rattle.mw_term.specs.Parts.{Part, part_of_main, IsPart, an_item, main}
use Rattle.mw_infer.specs.Schemes.{TopScheme}
use Rattle.mw_infer.specs.Checking.{ArePrincipal}
use Rattle.mw_infer.specs.Judging.{Judges}
use Rattle.mw_infer.specs.Nodes.{NodeFacts, AreNodesOfPart, AreNodesOf}
use Rattle.mw_infer.specs.Progress.{Progress, Steps, Ends, AreNodesBefore, listed}
use Rattle.mw_infer.specs.Typings.{PartTypes, facts_of_part}
use Rattle.mw_infer.specs.declared.judge.Judged.{Judged}
use Rattle.mw_infer.specs.declared.judge.Verdict.TheVariants.{Fine}
use Rattle.mw_infer.proofs.Growing.{principal-main, revealed}
use Rattle.mw_types.proofs.InOrder.{low, last, low_or_last}
use Rattle.mw_infer.proofs.Refusals.{part-one}

-- what is judged of a part tells of its nodes
judged-nodes : (x : Part) (schemes : List TopScheme) (w : Judged) (nodes : PartTypes) → ArePrincipal x.names schemes
    → Judges schemes x.place x.term (Fine w) → Some nodes ≡ w.nodes → AreNodesOfPart x (facts_of_part nodes)
judged-nodes x schemes w nodes p j e = record {
  schemes = schemes;
  principal = p;
  solution = j.0;
  solves = j.1;
  fresh = j.2;
  told = rw (sym e) at j.4;
}

get-front : {A : Type 0} (xs : List A) (y x : A) (j : ℕ) → j < length xs → slice_get (xs ++ (y ∷ [])) j ≡ Some x
    → slice_get xs j ≡ Some x
get-front [] y x j lt e = absurd (omega arith)
get-front (z ∷ xs) y x zero lt e = e
get-front (z ∷ xs) y x (suc j) lt e = get-front xs y x j (omega arith) e

get-end : {A : Type 0} (xs : List A) (y x : A) → slice_get (xs ++ (y ∷ [])) (length xs) ≡ Some x → y ≡ x
get-end [] y x e = cc
get-end (z ∷ xs) y x e = get-end xs y x e

pub told-first : (p : PureProgram) → AreNodesBefore p 0 []
told-first p = record { count = refl; each = λ j x facts lt a g. absurd (omega arith) }

told-on : (p : PureProgram) (i : ℕ) (x : Part) (parts : List (List NodeFacts)) (facts : List NodeFacts)
    → AreNodesBefore p i parts → IsPart p i x → AreNodesOfPart x facts
    → AreNodesBefore p (suc i) (parts ++ (facts ∷ []))
told-on p i x parts facts h a f =
    record {
      count = length-append parts (facts ∷ []) ∙ (let e = h.count in omega (arith, e));
      each = λ j y known lt b g. elim (low_or_last i j lt) [
        | low k ↦ h.each j y known k b (get-front parts facts known j (let e = h.count in omega (arith, e, k)) g)
        | last e ↦
            let z : x ≡ y = part-one p a (subst (λ n. IsPart p n y) e b) in
            let q : facts ≡ known = get-end parts facts known
            (subst (λ n. slice_get (parts ++ (facts ∷ [])) n ≡ Some known) (e ∙ sym h.count) g) in
            subst (λ v. AreNodesOfPart y v) q (subst (λ v. AreNodesOfPart v facts) z f)
      ];
    }

told-step : (p : PureProgram) (i : ℕ) (d : Definition) (schemes new : List TopScheme) (nodes : PartTypes)
    (parts : List (List NodeFacts)) → slice_get p.items i ≡ Some d → Progress p i schemes
    → Steps schemes d new (Some nodes) → AreNodesBefore p i parts
    → AreNodesBefore p (suc i) (parts ++ (facts_of_part nodes ∷ []))
told-step p i (value e) schemes new nodes parts g h s t =
    told-on p i _ parts (facts_of_part nodes) t (an_item g) (judged-nodes _ schemes s.0 nodes h.principal s.1 s.3)
told-step p i (kernel k e) schemes new nodes parts g h s t =
    told-on p i _ parts (facts_of_part nodes) t (an_item g) (judged-nodes _ schemes s.0 nodes h.principal s.1 s.3)

all-told : (p : PureProgram) (parts : List (List NodeFacts)) → AreNodesBefore p (suc (length p.items)) parts
    → AreNodesOf p parts
all-told p parts h =
    record {
      count = h.count ∙ (let n = length p.items in omega arith);
      each = λ i x facts a g. part-told a g;
    }
  where
    part-told : {i : ℕ} {x : Part} {facts : List NodeFacts} → IsPart p i x → slice_get parts i ≡ Some facts
        → AreNodesOfPart x facts
    part-told (an_item {i = i} {d = d} a) g = let lt = slice_get_within p.items i d a in
        h.each i _ _ (omega (arith, lt)) (an_item a) g
    part-told (main {i = i} e) g = h.each i _ _ (omega (arith, e)) (main e) g

-- one item more, and main, where their nodes are known
pub kept-next : (p : PureProgram) (i : ℕ) (d : Definition) (schemes new : List TopScheme) (nodes : Option PartTypes)
    (parts all : List PartTypes) → slice_get p.items i ≡ Some d → Progress p i schemes → Steps schemes d new nodes
    → IsSome nodes → all ≡ parts ++ listed nodes → AreNodesBefore p i (map facts_of_part parts)
    → AreNodesBefore p (i + 1) (map facts_of_part all)
kept-next p i d schemes new None parts all g h s k e t = absurd (true≢false (sym k))
kept-next p i d schemes new (Some nodes) parts all g h s k e t =
    let q : i + 1 ≡ suc i = omega arith in
    rw (e, map-append facts_of_part parts (nodes ∷ []), q)
    (told-step p i d schemes new nodes (map facts_of_part parts) g h s t)

pub kept-main : (p : PureProgram) (schemes : List TopScheme) (nodes : Option PartTypes) (parts all : List PartTypes)
    → Progress p (length p.items) schemes → Ends (revealed p.items schemes) p.result p.body nodes → IsSome nodes
    → all ≡ parts ++ listed nodes → AreNodesBefore p (length p.items) (map facts_of_part parts)
    → AreNodesOf p (map facts_of_part all)
kept-main p schemes None parts all h s k e t = absurd (true≢false (sym k))
kept-main p schemes (Some nodes) parts all h s k e t =
    let f = judged-nodes (part_of_main p) (revealed p.items schemes) s.0 nodes
    (principal-main p.items schemes h.principal) s.1 s.2 in
    let told = map facts_of_part parts in
    rw (e, map-append facts_of_part parts (nodes ∷ [])) (all-told p (told ++ (facts_of_part nodes ∷ []))
    (told-on p (length p.items) (part_of_main p) told (facts_of_part nodes) t (main refl) f))
