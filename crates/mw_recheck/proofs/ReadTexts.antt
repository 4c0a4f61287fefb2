-- Sections that are read are those whose text stands there.
use Rattle.std.proofs.Common.{◌≡◌, ℕ, ◌^◌, ◌<◌, List, [], ◌∷◌, ◌++◌}
use Rattle.std.proofs.Common.{refl, sym, ◌∙◌, ap, subst, Option, Some, None, append_assoc}
use Rattle.std.specs.Prelude.{codes}
use Rattle.std.specs.Fmt.{decimal}
use Rattle.std.proofs.lemmas.Option.{none-some, same_Some}
use Rattle.mw_lines.specs.TypeLines.{TypeLine, int_line, bool_line, unknown_line, pair_line, arrow_line, code_line}
use Rattle.mw_lines.specs.TypeLines.{closed_line}
use Rattle.mw_recheck.specs.Options.{found_or}
use Rattle.mw_recheck.specs.Sections.{FitsLine}
use Rattle.mw_recheck.specs.Texts.{numbers_text, type_text}
use Rattle.mw_recheck.specs.Reading.{behind, number_at, number_before, one_at, two_at, type_line_at}
use Rattle.mw_recheck.proofs.NodeLines.{bound, bind_some}
use Rattle.mw_recheck.proofs.ReadNumbers.{behind_found, behind_there, number_found, number_there, Ends}

-- an answer found, or the other
pub by_found : {A B C : Type 0} (o : Option A) (f : A → Option B) (other : Option B) (y : B)
    → found_or o f other ≡ Some y → ((x : A) → o ≡ Some x → f x ≡ Some y → C) → (other ≡ Some y → C) → C
by_found (Some x) f other y h first second = first x refl h
by_found None f other y h first second = second h

-- a number and the text behind it
pub before_found : (text bytes : List ℕ) (y : ℕ × List ℕ) → number_before text bytes ≡ Some y
    → (bytes ≡ decimal y.0 ++ (text ++ y.1)) × (y.0 < 2 ^ 64)
before_found text bytes y h =
    let x = bound (number_at bytes) _ y h in
    let r = bound (behind text x.0.1) _ y x.2 in
    let n = number_found bytes x.0 x.1 in
    let same : (x.0.0, r.0) ≡ y = same_Some (x.0.0, r.0) y r.2 in
    subst (λ z. (bytes ≡ decimal z.0 ++ (text ++ z.1)) × (z.0 < 2 ^ 64)) same (
      n.0
          ∙ ap (λ l. decimal x.0.0 ++ l) (behind_found text x.0.1 r.0 r.1),
      n.1,
    )

pub before_there : (text rest : List ℕ) (n : ℕ) → n < 2 ^ 64 → Ends (text ++ rest)
    → number_before text (decimal n ++ (text ++ rest)) ≡ Some (n, rest)
before_there text rest n small e =
    bind_some (number_at (decimal n ++ (text ++ rest))) _ (n, text ++ rest) (number_there n (text ++ rest) small e)
    ∙ bind_some (behind text (text ++ rest)) _ rest (behind_there text rest)

-- lines of one number and of two
one_found : (line : ℕ → TypeLine) (bytes : List ℕ) (y : TypeLine × List ℕ) → one_at line bytes ≡ Some y
    → (u : ℕ) × (y.0 ≡ line u) × (u < 2 ^ 64) × (bytes ≡ numbers_text (u ∷ []) ++ y.1)
one_found line bytes y h =
    let x = bound (number_before (codes "\n") bytes) _ y h in
    let n = before_found (codes "\n") bytes x.0 x.1 in
    let same : (line x.0.0, x.0.1) ≡ y = same_Some (line x.0.0, x.0.1) y x.2 in (
      x.0.0,
      sym (ap (λ z. z.0) same),
      n.1,
      n.0 ∙ sym (append_assoc (decimal x.0.0) (codes "\n") x.0.1)
          ∙ ap (λ z. numbers_text (x.0.0 ∷ []) ++ z.1) same,
    )

one_there : (line : ℕ → TypeLine) (u : ℕ) (rest : List ℕ) → u < 2 ^ 64
    → one_at line (numbers_text (u ∷ []) ++ rest) ≡ Some (line u, rest)
one_there line u rest small =
    ap (λ l. one_at line l) (append_assoc (decimal u) (codes "\n") rest)
    ∙ bind_some (number_before (codes "\n") (decimal u ++ (codes "\n" ++ rest))) _ (
      u,
      rest,
    ) (before_there (codes "\n") rest u small refl)

two_found : (line : ℕ → ℕ → TypeLine) (bytes : List ℕ) (y : TypeLine × List ℕ) → two_at line bytes ≡ Some y
    → (i j : ℕ) × (y.0 ≡ line i j) × (i < 2 ^ 64) × (j < 2 ^ 64) × (bytes ≡ numbers_text (i ∷ j ∷ []) ++ y.1)
two_found line bytes y h =
    let x = bound (number_before (codes " ") bytes) _ y h in
    let z = bound (number_before (codes "\n") x.0.1) _ y x.2 in
    let n = before_found (codes " ") bytes x.0 x.1 in
    let k = before_found (codes "\n") x.0.1 z.0 z.1 in
    let same : (line x.0.0 z.0.0, z.0.1) ≡ y = same_Some (line x.0.0 z.0.0, z.0.1) y z.2 in
    let parts : bytes ≡ decimal x.0.0 ++ (codes " " ++ (decimal z.0.0 ++ (codes "\n" ++ z.0.1))) = n.0
    ∙ ap (λ l. decimal x.0.0 ++ (codes " " ++ l)) k.0 in
    let joined : decimal x.0.0 ++ (codes " " ++ (decimal z.0.0 ++ (codes "\n" ++ z.0.1))) ≡ numbers_text
    (x.0.0 ∷ z.0.0 ∷ []) ++ z.0.1 =
    ap (λ l. decimal x.0.0 ++ (codes " " ++ l)) (sym (append_assoc (decimal z.0.0) (codes "\n") z.0.1))
    ∙ sym (append_assoc (decimal x.0.0) (codes " " ++ (decimal z.0.0 ++ codes "\n")) z.0.1) in (
      x.0.0,
      z.0.0,
      sym (ap (λ w. w.0) same),
      n.1,
      k.1,
      parts ∙ joined
          ∙ ap (λ w. numbers_text (x.0.0 ∷ z.0.0 ∷ []) ++ w.1) same,
    )

two_there : (line : ℕ → ℕ → TypeLine) (i j : ℕ) (rest : List ℕ) → i < 2 ^ 64 → j < 2 ^ 64
    → two_at line (numbers_text (i ∷ j ∷ []) ++ rest) ≡ Some (line i j, rest)
two_there line i j rest small little =
    let parts : numbers_text (i ∷ j ∷ []) ++ rest ≡ decimal i ++ (codes " " ++ (decimal j ++ (codes "\n" ++ rest))) =
    append_assoc (decimal i) (codes " " ++ (decimal j ++ codes "\n")) rest
    ∙ ap (λ l. decimal i ++ (codes " " ++ l)) (append_assoc (decimal j) (codes "\n") rest) in
    ap (λ l. two_at line l) parts
    ∙ bind_some (number_before (codes " ") (decimal i ++ (codes " " ++ (decimal j ++ (codes "\n" ++ rest))))) _ (
      i,
      decimal j ++ (codes "\n" ++ rest),
    ) (before_there (codes " ") (decimal j ++ (codes "\n" ++ rest)) i small refl)
    ∙ bind_some (number_before (codes "\n") (decimal j ++ (codes "\n" ++ rest))) _ (
      j,
      rest,
    ) (before_there (codes "\n") rest j little refl)

-- a type line
abbrev pub IsTypeText : List ℕ → TypeLine → List ℕ → Type 0
IsTypeText bytes l rest = (bytes ≡ type_text l ++ rest) × FitsLine l

word_found : (text bytes : List ℕ) (l : TypeLine) (y : TypeLine × List ℕ) → FitsLine l → text ≡ type_text l
    → (x : List ℕ) → behind text bytes ≡ Some x → Some (l, x) ≡ Some y
    → IsTypeText bytes y.0 y.1
word_found text bytes l y f e x h g =
    subst (λ z. IsTypeText bytes z.0 z.1) (same_Some (l, x) y g) (behind_found text bytes x h ∙ ap (λ t. t ++ x) e, f)

unknown_found : (text bytes : List ℕ) (line : ℕ → TypeLine) (y : TypeLine × List ℕ) → ((u : ℕ)
    → type_text (line u) ≡ text ++ numbers_text (u ∷ [])) → ((u : ℕ) → u < 2 ^ 64 → FitsLine (line u))
    → (x : List ℕ) → behind text bytes ≡ Some x → one_at line x ≡ Some y → IsTypeText bytes y.0 y.1
unknown_found text bytes line y t f x h g =
    let n = one_found line x y g in
    subst (λ l. IsTypeText bytes l y.1) (sym n.1) (
      behind_found text bytes x h ∙ ap (λ l. text ++ l) n.3
          ∙ sym (append_assoc text (numbers_text (n.0 ∷ [])) y.1) ∙ ap (λ l. l ++ y.1) (sym (t n.0)),
      f n.0 n.2,
    )

parts_found : (text bytes : List ℕ) (line : ℕ → ℕ → TypeLine) (y : TypeLine × List ℕ) → ((i j : ℕ)
    → type_text (line i j) ≡ text ++ numbers_text (i ∷ j ∷ [])) → ((i j : ℕ) → i < 2 ^ 64 → j < 2 ^ 64
    → FitsLine (line i j))
    → (x : List ℕ) → behind text bytes ≡ Some x → two_at line x ≡ Some y → IsTypeText bytes y.0 y.1
parts_found text bytes line y t f x h g =
    let n = two_found line x y g in
    subst (λ l. IsTypeText bytes l y.1) (sym n.2) (
      behind_found text bytes x h ∙ ap (λ l. text ++ l) n.5
          ∙ sym (append_assoc text (numbers_text (n.0 ∷ n.1 ∷ [])) y.1)
          ∙ ap (λ l. l ++ y.1) (sym (t n.0 n.1)),
      f n.0 n.1 n.3 n.4,
    )

pub type_found : (bytes : List ℕ) (y : TypeLine × List ℕ) → type_line_at bytes ≡ Some y → IsTypeText bytes y.0 y.1
type_found bytes y h =
    by_found (behind (codes "int\n") bytes) _ _ y h (word_found (codes "int\n") bytes int_line y tt refl) (λ h.
    by_found (behind (codes "bool\n") bytes) _ _ y h (word_found (codes "bool\n") bytes bool_line y tt refl) (λ h.
    by_found (behind (codes "u ") bytes) _ _ y h
    (unknown_found (codes "u ") bytes unknown_line y (λ u. refl) (λ u p. p)) (λ h.
    by_found (behind (codes "pair ") bytes) _ _ y h
    (parts_found (codes "pair ") bytes pair_line y (λ i j. refl) (λ i j p q. (p, q))) (λ h.
    by_found (behind (codes "arrow ") bytes) _ _ y h
    (parts_found (codes "arrow ") bytes arrow_line y (λ i j. refl) (λ i j p q. (p, q))) (λ h.
    by_found (behind (codes "code ") bytes) _ _ y h
    (parts_found (codes "code ") bytes code_line y (λ i j. refl) (λ i j p q. (p, q))) (λ h.
    by_found (behind (codes "closed ") bytes) _ _ y h
    (unknown_found (codes "closed ") bytes closed_line y (λ u. refl) (λ u p. p)) (λ h. absurd (none-some y h))))))))

pub type_there : (l : TypeLine) (rest : List ℕ) → FitsLine l → type_line_at (type_text l ++ rest) ≡ Some (l, rest)
type_there int_line rest f = refl
type_there bool_line rest f = refl
type_there (unknown_line u) rest f = one_there unknown_line u rest f
type_there (pair_line i j) rest f = two_there pair_line i j rest f.0 f.1
type_there (arrow_line i j) rest f = two_there arrow_line i j rest f.0 f.1
type_there (code_line c i) rest f = two_there code_line c i rest f.0 f.1
type_there (closed_line i) rest f = one_there closed_line i rest f
