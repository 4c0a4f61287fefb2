-- Sections that are read are those whose text stands there: their lines one after the other.
use Rattle.std.proofs.Common.{◌≡◌, ℕ, zero, suc, ◌^◌, ◌<◌, ◌≤◌, ◌==◌, List, [], ◌∷◌, ◌++◌}
use Rattle.std.proofs.Common.{length, refl, sym, ◌∙◌, ap, subst, arith, Some, append_assoc}
use Rattle.std.specs.Prelude.{codes}
use Rattle.std.specs.List.{flat_map}
use Rattle.std.specs.Fmt.{decimal}
use Rattle.std.proofs.lemmas.Bool.{eq-eqb, eqb-true}
use Rattle.std.proofs.lemmas.Option.{none-some, same_Some}
use Rattle.mw_lines.specs.TypeLines.{TypeLine}
use Rattle.mw_recheck.specs.Sections.{SectionLines, FitNumbers, FitLines, FitNodes, FitsSection}
use Rattle.mw_recheck.specs.Texts.{numbers_text, type_text, types_text, nodes_text, section_text}
use Rattle.mw_recheck.specs.Reading.{behind, number_at, number_before, type_line_at, type_lines_at}
use Rattle.mw_recheck.specs.Reading.{numbers_at, node_lines_at, types_at, nodes_at, section_at}
use Rattle.mw_recheck.proofs.NodeLines.{bound, bind_some, passed}
use Rattle.mw_recheck.proofs.ReadNumbers.{behind_found, number_found, number_there}
use Rattle.mw_recheck.proofs.ReadTexts.{by_found, before_found, before_there, type_found, type_there}

type_lines_found : (n : ℕ) (bytes : List ℕ) (y : List TypeLine × List ℕ) → type_lines_at n bytes ≡ Some y
    → (bytes ≡ flat_map type_text y.0 ++ y.1) × (length y.0 ≡ n) × FitLines y.0
type_lines_found zero bytes y h =
    subst (λ z. (bytes ≡ flat_map type_text z.0 ++ z.1) × (length z.0 ≡ zero) × FitLines z.0) (same_Some (
      [],
      bytes,
    ) y h) (refl, refl, tt)
type_lines_found (suc n) bytes y h =
    let x = bound (type_line_at bytes) _ y h in
    let z = bound (type_lines_at n x.0.1) _ y x.2 in
    let l = type_found bytes x.0 x.1 in
    let m = type_lines_found n x.0.1 z.0 z.1 in
    subst (λ z. (bytes ≡ flat_map type_text z.0 ++ z.1) × (length z.0 ≡ suc n)
    × FitLines z.0) (same_Some (x.0.0 ∷ z.0.0, z.0.1) y z.2) (
      l.0 ∙ ap (λ r. type_text x.0.0 ++ r) m.0
          ∙ sym (append_assoc (type_text x.0.0) (flat_map type_text z.0.0) z.0.1),
      ap suc m.1,
      (l.1, m.2),
    )

type_lines_there : (ls : List TypeLine) (rest : List ℕ) → FitLines ls
    → type_lines_at (length ls) (flat_map type_text ls ++ rest) ≡ Some (ls, rest)
type_lines_there [] rest f = refl
type_lines_there (l ∷ ls) rest f =
    ap (λ b. type_lines_at (length (l ∷ ls)) b) (append_assoc (type_text l) (flat_map type_text ls) rest)
    ∙ bind_some (type_line_at (type_text l ++ (flat_map type_text ls ++ rest))) _ (
      l,
      flat_map type_text ls ++ rest,
    ) (type_there l (flat_map type_text ls ++ rest) f.0)
    ∙ bind_some (type_lines_at (length ls) (flat_map type_text ls ++ rest)) _ (ls, rest) (type_lines_there ls rest f.1)

-- a line of numbers: one at least, and at most so many
pub record IsNumbersText (most : ℕ) (bytes ns rest : List ℕ) : Type 0 where
  pub text : bytes ≡ numbers_text ns ++ rest
  pub fits : FitNumbers ns
  pub some : 0 < length ns
  pub few : length ns ≤ most

numbers_more : (n : ℕ) (ns : List ℕ) → 0 < length ns
    → numbers_text (n ∷ ns) ≡ decimal n ++ (codes " " ++ numbers_text ns)
numbers_more n [] s = absurd (omega arith)
numbers_more n (m ∷ ns) s = refl

numbers_found : (most : ℕ) (bytes : List ℕ) (y : List ℕ × List ℕ) → numbers_at most bytes ≡ Some y
    → IsNumbersText most bytes y.0 y.1
numbers_found zero bytes y h = absurd (none-some y h)
numbers_found (suc most) bytes y h =
    let x = bound (number_at bytes) _ y h in
    let n = number_found bytes x.0 x.1 in
    by_found (behind (codes "\n") x.0.1) _ _ y x.2 (λ r a k.
    subst (λ z. IsNumbersText (suc most) bytes z.0 z.1) (same_Some (x.0.0 ∷ [], r) y k) (record {
      text = n.0 ∙ ap (λ l. decimal x.0.0 ++ l) (behind_found (codes "\n") x.0.1 r a)
          ∙ sym (append_assoc (decimal x.0.0) (codes "\n") r);
      fits = (n.1, tt);
      some = omega arith;
      few = omega arith;
    })) (λ e.
    let r = bound (behind (codes " ") x.0.1) _ y e in
    let z = bound (numbers_at most r.0) _ y r.2 in
    let m = numbers_found most r.0 z.0 z.1 in
    subst (λ z. IsNumbersText (suc most) bytes z.0 z.1) (same_Some (x.0.0 ∷ z.0.0, z.0.1) y z.2) (record {
      text = n.0 ∙ ap (λ l. decimal x.0.0 ++ l) (behind_found (codes " ") x.0.1 r.0 r.1
          ∙ ap (λ l. codes " " ++ l) m.text)
          ∙ sym (append_assoc (decimal x.0.0) (codes " " ++ numbers_text z.0.0) z.0.1)
          ∙ ap (λ l. l ++ z.0.1) (sym (numbers_more x.0.0 z.0.0 m.some));
      fits = (n.1, m.fits);
      some = omega arith;
      few = omega (arith, m.few);
    }))

numbers_there : (most : ℕ) (ns rest : List ℕ) → 0 < length ns → length ns ≤ most → FitNumbers ns
    → numbers_at most (numbers_text ns ++ rest) ≡ Some (ns, rest)
numbers_there most [] rest s m f = absurd (omega arith)
numbers_there zero (n ∷ ns) rest s m f = absurd (omega arith)
numbers_there (suc most) (n ∷ []) rest s m f =
    ap (λ b. numbers_at (suc most) b) (append_assoc (decimal n) (codes "\n") rest)
    ∙ bind_some (number_at (decimal n ++ (codes "\n" ++ rest))) _ (
      n,
      codes "\n" ++ rest,
    ) (number_there n (codes "\n" ++ rest) f.0 refl)
numbers_there (suc most) (n ∷ k ∷ ns) rest s m f =
    let more = numbers_there most (k ∷ ns) rest (omega arith) (omega arith) f.1 in
    ap (λ b. numbers_at (suc most) b) (append_assoc (decimal n) (codes " " ++ numbers_text (k ∷ ns)) rest)
    ∙ bind_some (number_at (decimal n ++ (codes " " ++ (numbers_text (k ∷ ns) ++ rest)))) _ (
      n,
      codes " " ++ (numbers_text (k ∷ ns) ++ rest),
    ) (number_there n (codes " " ++ (numbers_text
    (k ∷ ns) ++ rest)) f.0 refl)
    ∙ bind_some (numbers_at most (numbers_text (k ∷ ns) ++ rest)) _ (k ∷ ns, rest) more

-- each line has one number at least, and three at most
abbrev pub AreShort : List (List ℕ) → Type 0
AreShort [] = Unit {0}
AreShort (l ∷ nodes) = (0 < length l) × (length l ≤ 3) × AreShort nodes

abbrev AreNodesText : ℕ → List ℕ → List (List ℕ) → List ℕ → Type 0
AreNodesText n bytes nodes rest = (bytes ≡ flat_map numbers_text nodes ++ rest) × (length nodes ≡ n) × FitNodes nodes

node_lines_found : (n : ℕ) (bytes : List ℕ) (y : List (List ℕ) × List ℕ) → node_lines_at n bytes ≡ Some y
    → AreNodesText n bytes y.0 y.1
node_lines_found zero bytes y h = subst (λ z. AreNodesText zero bytes z.0 z.1) (same_Some ([], bytes) y h) (
  refl,
  refl,
  tt,
)
node_lines_found (suc n) bytes y h =
    let x = bound (numbers_at 3 bytes) _ y h in
    let z = bound (node_lines_at n x.0.1) _ y x.2 in
    let l = numbers_found 3 bytes x.0 x.1 in
    let m = node_lines_found n x.0.1 z.0 z.1 in
    subst (λ z. AreNodesText (suc n) bytes z.0 z.1) (same_Some (x.0.0 ∷ z.0.0, z.0.1) y z.2) (
      l.text ∙ ap (λ r. numbers_text x.0.0 ++ r) m.0
          ∙ sym (append_assoc (numbers_text x.0.0) (flat_map numbers_text z.0.0) z.0.1),
      ap suc m.1,
      (l.fits, m.2),
    )

node_lines_there : (nodes : List (List ℕ)) (rest : List ℕ) → AreShort nodes → FitNodes nodes
    → node_lines_at (length nodes) (flat_map numbers_text nodes ++ rest) ≡ Some (nodes, rest)
node_lines_there [] rest s f = refl
node_lines_there (l ∷ nodes) rest s f =
    ap (λ b. node_lines_at (length (l ∷ nodes)) b) (append_assoc (numbers_text l) (flat_map numbers_text nodes) rest)
    ∙ bind_some (numbers_at 3 (numbers_text l ++ (flat_map numbers_text nodes ++ rest))) _ (
      l,
      flat_map numbers_text nodes ++ rest,
    ) (numbers_there 3 l (flat_map numbers_text nodes ++ rest) s.0 s.1 f.0)
    ∙ bind_some (node_lines_at (length nodes) (flat_map numbers_text nodes ++ rest)) _ (
      nodes,
      rest,
    ) (node_lines_there nodes rest s.2 f.1)

types_found : (bytes : List ℕ) (y : List TypeLine × List ℕ) → types_at bytes ≡ Some y
    → (bytes ≡ types_text y.0 ++ y.1) × FitLines y.0 × (length y.0 < 2 ^ 64)
types_found bytes y h =
    let a = bound (behind (codes "types ") bytes) _ y h in
    let n = bound (number_before (codes "\n") a.0) _ y a.2 in
    let m = before_found (codes "\n") a.0 n.0 n.1 in
    let t = type_lines_found n.0.0 n.0.1 y n.2 in
    let counted : a.0 ≡ numbers_text (length y.0 ∷ []) ++ (flat_map type_text y.0 ++ y.1) =
    m.0 ∙ ap (λ k. decimal k ++ (codes "\n" ++ n.0.1)) (sym t.1)
    ∙ ap (λ r. decimal (length y.0) ++ (codes "\n" ++ r)) t.0
    ∙ sym (append_assoc (decimal (length y.0)) (codes "\n") (flat_map type_text y.0 ++ y.1)) in (
      behind_found (codes "types ") bytes a.0 a.1 ∙ ap (λ r. codes "types " ++ r) (counted
          ∙ sym (append_assoc (numbers_text (length y.0 ∷ [])) (flat_map type_text y.0) y.1)),
      t.2,
      rw t.1 m.1,
    )

types_there : (ls : List TypeLine) (rest : List ℕ) → FitLines ls → length ls < 2 ^ 64
    → types_at (types_text ls ++ rest) ≡ Some (ls, rest)
types_there ls rest f c =
    let parts : (numbers_text (length ls ∷ []) ++ flat_map type_text ls) ++ rest ≡ decimal (length ls) ++ (codes "\n" ++
    (flat_map type_text ls ++ rest)) =
    append_assoc (numbers_text (length ls ∷ [])) (flat_map type_text ls) rest
    ∙ append_assoc (decimal (length ls)) (codes "\n") (flat_map type_text ls ++ rest) in
    ap (λ b. types_at (codes "types " ++ b)) parts
    ∙ bind_some (number_before (codes "\n") (decimal (length ls) ++ (codes "\n" ++ (flat_map type_text ls ++ rest)))) _
    (length ls, flat_map type_text ls ++ rest) (before_there (codes "\n") (flat_map type_text ls ++ rest)
    (length ls) c refl)
    ∙ type_lines_there ls rest f

nodes_found : (size : ℕ) (bytes : List ℕ) (y : List (List ℕ) × List ℕ) → nodes_at size bytes ≡ Some y
    → (bytes ≡ nodes_text y.0 ++ y.1) × FitNodes y.0 × (length y.0 < 2 ^ 64) × (length y.0 ≡ size)
nodes_found size bytes y h =
    let a = bound (behind (codes "nodes ") bytes) _ y h in
    let n = bound (number_before (codes "\n") a.0) _ y a.2 in
    let m = before_found (codes "\n") a.0 n.0 n.1 in
    let c = passed (n.0.0 == size) _ y n.2 in
    let t = node_lines_found size n.0.1 y c.1 in
    let q : n.0.0 ≡ length y.0 = eqb-true n.0.0 size c.0 ∙ sym t.1 in
    let counted : a.0 ≡ numbers_text (length y.0 ∷ []) ++ (flat_map numbers_text y.0 ++ y.1) =
    m.0 ∙ ap (λ k. decimal k ++ (codes "\n" ++ n.0.1)) q ∙ ap (λ r. decimal (length y.0) ++ (codes "\n" ++ r)) t.0
    ∙ sym (append_assoc (decimal (length y.0)) (codes "\n") (flat_map numbers_text y.0 ++ y.1)) in (
      behind_found (codes "nodes ") bytes a.0 a.1 ∙ ap (λ r. codes "nodes " ++ r) (counted
          ∙ sym (append_assoc (numbers_text (length y.0 ∷ [])) (flat_map numbers_text y.0) y.1)),
      t.2,
      rw (sym q) m.1,
      t.1,
    )

nodes_there : (nodes : List (List ℕ)) (rest : List ℕ) → AreShort nodes → FitNodes nodes → length nodes < 2 ^ 64
    → nodes_at (length nodes) (nodes_text nodes ++ rest) ≡ Some (nodes, rest)
nodes_there nodes rest s f c =
    let parts : (numbers_text (length nodes ∷ []) ++ flat_map numbers_text nodes) ++ rest ≡ decimal (length nodes) ++
    (codes "\n" ++ (flat_map numbers_text nodes ++ rest)) =
    append_assoc (numbers_text (length nodes ∷ [])) (flat_map numbers_text nodes) rest
    ∙ append_assoc (decimal (length nodes)) (codes "\n") (flat_map numbers_text nodes ++ rest) in
    ap (λ b. nodes_at (length nodes) (codes "nodes " ++ b)) parts
    ∙ bind_some (number_before (codes "\n") (decimal (length nodes) ++ (codes "\n" ++
    (flat_map numbers_text nodes ++ rest)))) _ (length nodes, flat_map numbers_text nodes ++ rest) (before_there
    (codes "\n") (flat_map numbers_text nodes ++ rest) (length nodes) c refl)
    ∙ rw (eq-eqb (length nodes) (length nodes) refl) (node_lines_there nodes rest s f)

pub section_found : (size : ℕ) (bytes : List ℕ) (y : SectionLines × List ℕ) → section_at size bytes ≡ Some y
    → (bytes ≡ section_text y.0 ++ y.1) × FitsSection y.0 × (length y.0.nodes ≡ size)
section_found size bytes y h =
    let t = bound (types_at bytes) _ y h in
    let x = bound (nodes_at size t.0.1) _ y t.2 in
    let a = types_found bytes t.0 t.1 in
    let b = nodes_found size t.0.1 x.0 x.1 in
    subst (λ z. (bytes ≡ section_text z.0 ++ z.1) × FitsSection z.0
    × (length z.0.nodes ≡ size)) (same_Some (record { types = t.0.0; nodes = x.0.0 }, x.0.1) y x.2) (
      a.0 ∙ ap (λ r. types_text t.0.0 ++ r) b.0
          ∙ sym (append_assoc (types_text t.0.0) (nodes_text x.0.0) x.0.1),
      record {
        types = a.1;
        nodes =
            b.1;
        type_count = a.2;
        node_count = b.2;
      },
      b.3,
    )

pub section_there : (x : SectionLines) (rest : List ℕ) → FitsSection x → AreShort x.nodes
    → section_at (length x.nodes) (section_text x ++ rest) ≡ Some (x, rest)
section_there x rest f s =
    ap (λ b. section_at (length x.nodes) b) (append_assoc (types_text x.types) (nodes_text x.nodes) rest)
    ∙ bind_some (types_at (types_text x.types ++ (nodes_text x.nodes ++ rest))) _ (
      x.types,
      nodes_text x.nodes ++ rest,
    ) (types_there x.types (nodes_text x.nodes ++ rest) f.types f.type_count)
    ∙ bind_some (nodes_at (length x.nodes) (nodes_text x.nodes ++ rest)) _ (
      x.nodes,
      rest,
    ) (nodes_there x.nodes rest s f.nodes f.node_count)
