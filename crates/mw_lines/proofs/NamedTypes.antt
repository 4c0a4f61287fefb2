-- Lines that name types name just these, and whether they do is decided by going over them once.
use Rattle.std.proofs.Common.{◌≡◌, ℕ, zero, suc, ◌+◌, ◌<◌, ◌≤◌, ◌⊎◌, inl, inr, Bool, true, false, ◌&&◌, not, cond}
use Rattle.std.proofs.Common.{nat_eq, nat_lt, List, [], ◌∷◌, ◌++◌, length, get_or, take, drop, Some, refl, ap, sym}
use Rattle.std.proofs.Common.{◌∙◌, arith, subst, true≢false, append_assoc, append-nil, length-append, length-take}
use Rattle.std.proofs.Common.{take-append-drop, ◌↔◌}
use Rattle.std.specs.Prelude.{slice_get}
use Rattle.std.proofs.Math.Seq.{take-append_seam}
use Rattle.std.proofs.lemmas.Bool.{and_parts, eqb-true, eq-eqb, ltb-true, lt-ltb}
use Rattle.std.proofs.lemmas.Option.{slice_get_within, slice_get-get_or, get_or_from_slice_get}
use Rattle.mw_types.specs.Types.{TypeExpression, int_ty, bool_ty, unknown, pair_ty, function_ty}
use Rattle.mw_lines.specs.TypeLines.{TypeLine, int_line, bool_line, unknown_line, pair_line, arrow_line, code_line}
use Rattle.mw_lines.specs.TypeLines.{closed_line, AreTypeLines, NamesType, NamesPart, names_int, names_bool}
use Rattle.mw_lines.specs.TypeLines.{names_unknown, names_pair, names_arrow, names_code, names_closed, HoldsNoCode}
use Rattle.mw_lines.specs.Naming.{type_named, types_after, types_named}
use Rattle.mw_lines.specs.Deciding.{holds_code, same_line, is_among, has_parts, may_follow_all, are_type_lines}

-- elements of joined lists
pub slice_get-append : {A : Type 0} (xs ys : List A) (i : ℕ) → i < length xs → slice_get (xs ++ ys) i ≡ slice_get xs i
slice_get-append [] ys i h = absurd (omega arith)
slice_get-append (x ∷ xs) ys zero h = refl
slice_get-append (x ∷ xs) ys (suc i) h = slice_get-append xs ys i (omega arith)

pub slice_get-more : {A : Type 0} (xs ys : List A) (i : ℕ) (x : A) → slice_get xs i ≡ Some x
    → slice_get (xs ++ ys) i ≡ Some x
slice_get-more xs ys i x h = slice_get-append xs ys i (slice_get_within xs i x h) ∙ h

pub slice_get-seam : {A : Type 0} (xs : List A) (y : A) (ys : List A) → slice_get (xs ++ y ∷ ys) (length xs) ≡ Some y
slice_get-seam [] y ys = refl
slice_get-seam (x ∷ xs) y ys = slice_get-seam xs y ys

-- an element of a list with one more is an earlier one, or the last
pub data IsInPushed {A : Type 0} (xs : List A) (y : A) (i : ℕ) (x : A) : Type 0 where
  is_earlier : slice_get xs i ≡ Some x → IsInPushed xs y i x
  is_last : i ≡ length xs → y ≡ x → IsInPushed xs y i x

pub in_pushed : {A : Type 0} (xs : List A) (y : A) (i : ℕ) (x : A) → slice_get (xs ++ y ∷ []) i ≡ Some x
    → IsInPushed xs y i x
in_pushed [] y zero x h = is_last refl (cc)
in_pushed [] y (suc i) x h = absurd (cc)
in_pushed (z ∷ xs) y zero x h = is_earlier h
in_pushed (z ∷ xs) y (suc i) x h =
    elim (in_pushed xs y i x h) [ is_earlier e ↦ is_earlier e | is_last e f ↦ is_last (ap suc e) f ]

-- tests
pub and-both : (x y : Bool) → (x && y) ≡ true → (x ≡ true) × (y ≡ true)
and-both x y h = and_parts x y h

pub and-true : (x y : Bool) → x ≡ true → y ≡ true → (x && y) ≡ true
and-true x y h g = rw (h, g) refl

pub not-false : (x : Bool) → not x ≡ true → x ≡ false
not-false true h = absurd (cc)
not-false false h = refl

pub either-false : (x y : Bool) → cond x true y ≡ false → (x ≡ false) × (y ≡ false)
either-false true y h = absurd (cc)
either-false false y h = (refl, h)

pub both-false : (x y : Bool) → x ≡ false → y ≡ false → cond x true y ≡ false
both-false x y h g = rw (h, g) refl

-- whether a type holds code
pub code_absent : (t : TypeExpression) → holds_code t ≡ false → HoldsNoCode t
code_absent int_ty h = tt
code_absent bool_ty h = tt
code_absent (unknown u) h = tt
code_absent (pair_ty s t) h = let p = either-false _ _ h in (code_absent s p.0, code_absent t p.1)
code_absent (function_ty s t) h = let p = either-false _ _ h in (code_absent s p.0, code_absent t p.1)
code_absent _ h = absurd (cc)

pub absent_code : (t : TypeExpression) → HoldsNoCode t → holds_code t ≡ false
absent_code int_ty h = refl
absent_code bool_ty h = refl
absent_code (unknown u) h = refl
absent_code (pair_ty s t) h = both-false _ _ (absent_code s h.0) (absent_code t h.1)
absent_code (function_ty s t) h = both-false _ _ (absent_code s h.0) (absent_code t h.1)
absent_code _ h = absurd h

-- whether lines are the same
pub line_same : (k l : TypeLine) → same_line k l ≡ true → k ≡ l
line_same int_line int_line h = refl
line_same bool_line bool_line h = refl
line_same (unknown_line u) (unknown_line v) h = ap unknown_line (eqb-true u v h)
line_same (pair_line i j) (pair_line k l) h =
    let p = and-both (nat_eq i k) (nat_eq j l) h in
    rw (eqb-true i k p.0, eqb-true j l p.1) refl
line_same (arrow_line i j) (arrow_line k l) h =
    let p = and-both (nat_eq i k) (nat_eq j l) h in
    rw (eqb-true i k p.0, eqb-true j l p.1) refl
line_same (code_line c i) (code_line d k) h =
    let p = and-both (nat_eq c d) (nat_eq i k) h in
    rw (eqb-true c d p.0, eqb-true i k p.1) refl
line_same (closed_line i) (closed_line k) h = ap closed_line (eqb-true i k h)
line_same _ _ h = absurd (cc)

pub same_line-refl : (l : TypeLine) → same_line l l ≡ true
same_line-refl int_line = refl
same_line-refl bool_line = refl
same_line-refl (unknown_line u) = eq-eqb u u refl
same_line-refl (pair_line i j) = and-true _ _ (eq-eqb i i refl) (eq-eqb j j refl)
same_line-refl (arrow_line i j) = and-true _ _ (eq-eqb i i refl) (eq-eqb j j refl)
same_line-refl (code_line c i) = and-true _ _ (eq-eqb c c refl) (eq-eqb i i refl)
same_line-refl (closed_line i) = eq-eqb i i refl

-- a line is among lines where it stands at a place
among-step : (x y : Bool) → y ≡ true → cond x true y ≡ true
among-step true y h = refl
among-step false y h = h

pub among : (lines : List TypeLine) (i : ℕ) (l : TypeLine) → slice_get lines i ≡ Some l → is_among l lines ≡ true
among [] i l h = absurd (cc)
among (k ∷ lines) zero l h = let e : k ≡ l = cc in rw (e, same_line-refl l) refl
among (k ∷ lines) (suc i) l h = among-step (same_line k l) _ (among lines i l h)

among-cases : (x y : Bool) → cond x true y ≡ true → (x ≡ true) ⊎ (y ≡ true)
among-cases true y h = inl refl
among-cases false y h = inr h

pub place_among : (lines : List TypeLine) (l : TypeLine) → is_among l lines ≡ true
    → (i : ℕ) × (slice_get lines i ≡ Some l)
place_among [] l h = absurd (cc)
place_among (k ∷ lines) l h = elim (among-cases (same_line k l) _ h) [
  | inl e ↦ (0, ap (λ x. Some x) (line_same k l e))
  | inr e ↦ let p = place_among lines l e in (suc p.0, p.1)
]

-- what a line names among longer lists, and among shorter ones
part-more : (ts us : List TypeExpression) (i j : ℕ) (t : TypeExpression) → NamesPart ts i j t
    → NamesPart (ts ++ us) i j t
part-more ts us i j t h = record { earlier = h.earlier; named = slice_get-more ts us j t h.named }

pub names-more : (ts us : List TypeExpression) (i : ℕ) (l : TypeLine) (t : TypeExpression) → NamesType ts i l t
    → NamesType (ts ++ us) i l t
names-more ts us i l t names_int = names_int
names-more ts us i l t names_bool = names_bool
names-more ts us i l t names_unknown = names_unknown
names-more ts us i l t (names_pair a b) = names_pair (part-more ts us i _ _ a) (part-more ts us i _ _ b)
names-more ts us i l t (names_arrow a b) = names_arrow (part-more ts us i _ _ a) (part-more ts us i _ _ b)
names-more ts us i l t (names_code a n) = names_code (part-more ts us i _ _ a) n
names-more ts us i l t (names_closed a n) = names_closed (part-more ts us i _ _ a) n

part-less : (ts us : List TypeExpression) (i j : ℕ) (t : TypeExpression) → i ≤ length ts → NamesPart (ts ++ us) i j t
    → NamesPart ts i j t
part-less ts us i j t n h =
    let e = h.earlier in
    record { earlier = e; named = sym (slice_get-append ts us j (omega arith)) ∙ h.named }

pub names-less : (ts us : List TypeExpression) (i : ℕ) (l : TypeLine) (t : TypeExpression) → i ≤ length ts
    → NamesType (ts ++ us) i l t → NamesType ts i l t
names-less ts us i l t n names_int = names_int
names-less ts us i l t n names_bool = names_bool
names-less ts us i l t n names_unknown = names_unknown
names-less ts us i l t n (names_pair a b) = names_pair (part-less ts us i _ _ n a) (part-less ts us i _ _ n b)
names-less ts us i l t n (names_arrow a b) = names_arrow (part-less ts us i _ _ n a) (part-less ts us i _ _ n b)
names-less ts us i l t n (names_code a m) = names_code (part-less ts us i _ _ n a) m
names-less ts us i l t n (names_closed a m) = names_closed (part-less ts us i _ _ n a) m

-- a line names one type
pub one_type : (ts : List TypeExpression) (i : ℕ) (l : TypeLine) (t : TypeExpression) → NamesType ts i l t
    → t ≡ type_named ts l
one_type ts i l t names_int = refl
one_type ts i l t names_bool = refl
one_type ts i l t names_unknown = refl
one_type ts i l t (names_pair a b) =
    rw (get_or_from_slice_get ts _ _ int_ty a.named, get_or_from_slice_get ts _ _ int_ty b.named) refl
one_type ts i l t (names_arrow a b) =
    rw (get_or_from_slice_get ts _ _ int_ty a.named, get_or_from_slice_get ts _ _ int_ty b.named) refl
one_type ts i l t (names_code a n) = rw (get_or_from_slice_get ts _ _ int_ty a.named) refl
one_type ts i l t (names_closed a n) = rw (get_or_from_slice_get ts _ _ int_ty a.named) refl

-- and has its parts
content : (ts : List TypeExpression) (i j : ℕ) (t : TypeExpression) → NamesPart ts i j t → HoldsNoCode t → i ≤ length ts
    → (nat_lt j (length ts) && not (holds_code (get_or ts j int_ty))) ≡ true
content ts i j t a n le =
    let e = a.earlier in
    and-true _ _ (lt-ltb j (length ts) (omega arith))
    (rw (get_or_from_slice_get ts j t int_ty a.named, absent_code t n) refl)

pub parts_of : (ts : List TypeExpression) (i : ℕ) (l : TypeLine) (t : TypeExpression) → i ≤ length ts
    → NamesType ts i l t → has_parts ts l ≡ true
parts_of ts i l t n names_int = refl
parts_of ts i l t n names_bool = refl
parts_of ts i l t n names_unknown = refl
parts_of ts i l t n (names_pair a b) =
    let e = a.earlier in let f = b.earlier in
    and-true _ _ (lt-ltb _ (length ts) (omega arith)) (lt-ltb _ (length ts) (omega arith))
parts_of ts i l t n (names_arrow a b) =
    let e = a.earlier in let f = b.earlier in
    and-true _ _ (lt-ltb _ (length ts) (omega arith)) (lt-ltb _ (length ts) (omega arith))
parts_of ts i l t n (names_code a m) = content ts i _ _ a m n
parts_of ts i l t n (names_closed a m) = content ts i _ _ a m n

part_at : (ts : List TypeExpression) (j : ℕ) → nat_lt j (length ts) ≡ true
    → NamesPart ts (length ts) j (get_or ts j int_ty)
part_at ts j h = let n = ltb-true j (length ts) h in record { earlier = n; named = slice_get-get_or ts j int_ty n }

pub named_by_parts : (ts : List TypeExpression) (l : TypeLine) → has_parts ts l ≡ true
    → NamesType ts (length ts) l (type_named ts l)
named_by_parts ts int_line h = names_int
named_by_parts ts bool_line h = names_bool
named_by_parts ts (unknown_line u) h = names_unknown
named_by_parts ts (pair_line i j) h = let p = and-both _ _ h in names_pair (part_at ts i p.0) (part_at ts j p.1)
named_by_parts ts (arrow_line i j) h = let p = and-both _ _ h in names_arrow (part_at ts i p.0) (part_at ts j p.1)
named_by_parts ts (code_line c i) h =
    let p = and-both _ _ h in names_code (part_at ts i p.0) (code_absent _ (not-false _ p.1))
named_by_parts ts (closed_line i) h =
    let p = and-both _ _ h in names_closed (part_at ts i p.0) (code_absent _ (not-false _ p.1))

-- the first of type lines
pub first_lines : (ls ms : List TypeLine) (us vs : List TypeExpression) → length us ≡ length ls
    → AreTypeLines (ls ++ ms) (us ++ vs)
    → AreTypeLines ls us
first_lines ls ms us vs e table = record {
  count = e;
  each = λ i l t h g.
      let n = slice_get_within us i t g in
      names-less us vs i l t (omega arith) (table.each i l t (slice_get-more ls ms i l h) (slice_get-more us vs i t g));
  once = λ i j l h g. table.once i j l (slice_get-more ls ms i l h) (slice_get-more ls ms j l g);
}

-- one line more
module _ (ls : List TypeLine) (us : List TypeExpression) (l : TypeLine) (table : AreTypeLines ls us)
    (parts : has_parts us l ≡ true) (new : is_among l ls ≡ false) where
  pushed_each : (i : ℕ) (k : TypeLine) (t : TypeExpression) → IsInPushed ls l i k → IsInPushed us (type_named us l) i t
      → NamesType (us ++ type_named us l ∷ []) i k t
  pushed_each i k t (is_earlier h) (is_earlier g) = names-more us _ i k t (table.each i k t h g)
  pushed_each i k t (is_earlier h) (is_last e f) =
      absurd (let n = slice_get_within ls i k h in let c = table.count in omega arith)
  pushed_each i k t (is_last e f) (is_earlier g) =
      absurd (let n = slice_get_within us i t g in let c = table.count in omega arith)
  pushed_each i k t (is_last e f) (is_last d g) =
      names-more us _ i k t (rw (d, sym f, sym g) (named_by_parts us l parts))

  pushed_once : (i j : ℕ) (k : TypeLine) → IsInPushed ls l i k → IsInPushed ls l j k → i ≡ j
  pushed_once i j k (is_earlier h) (is_earlier g) = table.once i j k h g
  pushed_once i j k (is_earlier h) (is_last e f) =
      absurd (true≢false (sym (among ls i l (h ∙ ap (λ x. Some x) (sym f))) ∙ new))
  pushed_once i j k (is_last e f) (is_earlier g) =
      absurd (true≢false (sym (among ls j l (g ∙ ap (λ x. Some x) (sym f))) ∙ new))
  pushed_once i j k (is_last e f) (is_last d g) = e ∙ sym d

  pub pushed : AreTypeLines (ls ++ l ∷ []) (us ++ type_named us l ∷ [])
  pushed = record {
    count = let c = table.count in simp length-append (rw c refl);
    each = λ i k t h g. pushed_each i k t (in_pushed ls l i k h) (in_pushed us (type_named us l) i t g);
    once = λ i j k h g. pushed_once i j k (in_pushed ls l i k h) (in_pushed ls l j k g);
  }

-- and what it is
module _ (ls : List TypeLine) (us : List TypeExpression) (l : TypeLine) (t : TypeExpression)
    (e : length us ≡ length ls) (table : AreTypeLines (ls ++ l ∷ []) (us ++ t ∷ [])) where
  last_names : NamesType us (length ls) l t
  last_names = names-less us (t ∷ []) (length ls) l t (omega arith)
      (table.each (length ls) l t (slice_get-seam ls l []) (rw (sym e) (slice_get-seam us t [])))

  pub last_type : t ≡ type_named us l
  last_type = one_type us (length ls) l t last_names

  pub last_parts : has_parts us l ≡ true
  last_parts = parts_of us (length ls) l t (omega arith) last_names

  not_among : (b : Bool) → is_among l ls ≡ b → b ≡ false
  not_among false h = refl
  not_among true h =
      let p = place_among ls l h in
      absurd (let n = slice_get_within ls p.0 l p.1 in
      let m = table.once p.0 (length ls) l (slice_get-more ls (l ∷ []) p.0 l p.1) (slice_get-seam ls l []) in
      omega arith)

  pub last_new : is_among l ls ≡ false
  last_new = not_among (is_among l ls) refl

-- the types of lines, one after the other
pub types_after-append : (ts : List TypeExpression) (ls ms : List TypeLine)
    → types_after ts (ls ++ ms) ≡ types_after (types_after ts ls) ms
types_after-append ts [] ms = refl
types_after-append ts (l ∷ ls) ms = types_after-append (ts ++ type_named ts l ∷ []) ls ms

pub types_named-push : (ls : List TypeLine) (l : TypeLine)
    → types_named (ls ++ l ∷ []) ≡ types_named ls ++ type_named (types_named ls) l ∷ []
types_named-push ls l = types_after-append [] ls (l ∷ [])

pub length-types_after : (ts : List TypeExpression) (ls : List TypeLine)
    → length (types_after ts ls) ≡ length ts + length ls
length-types_after ts [] = omega arith
length-types_after ts (l ∷ ls) = length-types_after (ts ++ type_named ts l ∷ []) ls ∙ simp length-append (omega arith)

all_named : (ls ms : List TypeLine) (us vs : List TypeExpression) → length us ≡ length ls → length vs ≡ length ms
    → AreTypeLines (ls ++ ms) (us ++ vs)
    → us ++ vs ≡ types_after us ms
all_named ls [] us [] e f table = append-nil us
all_named ls (l ∷ ms) us (t ∷ vs) e f table =
    let big : AreTypeLines ((ls ++ l ∷ []) ++ ms) ((us ++ t ∷ []) ++ vs) = rw (append_assoc, append_assoc) table in
    let long : length (us ++ t ∷ []) ≡ length (ls ++ l ∷ []) = simp length-append (rw e refl) in
    let small = first_lines (ls ++ l ∷ []) ms (us ++ t ∷ []) vs long big in
    let same = last_type ls us l t e small in
    let rest = all_named (ls ++ l ∷ []) ms (us ++ t ∷ []) vs long (omega arith) big in
    sym (append_assoc us (t ∷ []) vs) ∙ rest ∙ ap (λ x. types_after (us ++ x ∷ []) ms) same
all_named ls _ us _ e f table = absurd (omega arith)

pub one_list : (lines : List TypeLine) (ts : List TypeExpression) → AreTypeLines lines ts → ts ≡ types_named lines
one_list lines ts table = all_named [] lines [] ts refl table.count table

-- whether lines name types
after_first : (ls ms : List TypeLine) → AreTypeLines ls (types_named ls) → may_follow_all ls ms ≡ true
    → AreTypeLines (ls ++ ms) (types_named (ls ++ ms))
after_first ls [] table h = rw (append-nil ls) table
after_first ls (l ∷ ms) table h =
    let p = and-both _ _ h in
    let q = and-both _ _ p.0 in
    let more : AreTypeLines (ls ++ l ∷ []) (types_named (ls ++ l ∷ [])) =
    rw (types_named-push ls l) (pushed ls (types_named ls) l table q.0 (not-false _ q.1)) in
    subst (λ xs. AreTypeLines xs (types_named xs)) (append_assoc ls (l ∷ []) ms)
    (after_first (ls ++ l ∷ []) ms more p.1)

no_lines : AreTypeLines [] (types_named [])
no_lines = record { count = refl; each = λ i l t h g. absurd (cc); once = λ i j l h g. absurd (cc) }

-- the first of them name the first types
pub first_types : (n : ℕ) (lines : List TypeLine) (ts : List TypeExpression) → AreTypeLines lines ts
    → AreTypeLines (take n lines) (take n ts)
first_types n lines ts table =
    let c = table.count in
    let long : length (take n ts) ≡ length (take n lines) =
    omega (arith, length-take {A = TypeExpression}, length-take {A = TypeLine}, c) in
    first_lines (take n lines) (drop n lines) (take n ts) (drop n ts) long
    (rw (take-append-drop n lines, take-append-drop n ts) table)

pub first_named : (ls ms : List TypeLine) (ts : List TypeExpression) → AreTypeLines (ls ++ ms) ts
    → AreTypeLines ls (types_named ls)
first_named ls ms ts table =
    let small = first_types (length ls) (ls ++ ms) ts table in
    let here : AreTypeLines ls (take (length ls) ts) = rw (take-append_seam ls ms) at small in
    subst (λ us. AreTypeLines ls us) (one_list ls (take (length ls) ts) here) here

all_follow : (ls ms : List TypeLine) (ts : List TypeExpression) → AreTypeLines (ls ++ ms) ts
    → may_follow_all ls ms ≡ true
all_follow ls [] ts table = refl
all_follow ls (l ∷ ms) ts table =
    let big : AreTypeLines ((ls ++ l ∷ []) ++ ms) ts = rw (append_assoc ls (l ∷ []) ms) table in
    let one = first_named (ls ++ l ∷ []) ms ts big in
    let two : AreTypeLines (ls ++ l ∷ []) (types_named ls ++ type_named (types_named ls) l ∷ []) =
    rw (types_named-push ls l) at one in
    let long = length-types_after [] ls in
    let e : length (types_named ls) ≡ length ls = omega arith in
    let p = last_parts ls (types_named ls) l _ e two in
    let q = last_new ls (types_named ls) l _ e two in
    and-true _ _ (and-true _ _ p (rw q refl)) (all_follow (ls ++ l ∷ []) ms ts big)

pub lines_decided : (lines : List TypeLine) → (are_type_lines lines ≡ true) ↔ AreTypeLines lines (types_named lines)
lines_decided lines = (after_first [] lines no_lines, all_follow [] lines (types_named lines))

-- a line is among lines and one more where it is among them, or is that one
pub is_among-push : (k l : TypeLine) (lines : List TypeLine)
    → is_among k (lines ++ l ∷ []) ≡ cond (same_line l k) true (is_among k lines)
is_among-push k l [] = refl
is_among-push k l (m ∷ lines) = swapped (same_line m k) (same_line l k) _ _ (is_among-push k l lines)
  where
    swapped : (x y u v : Bool) → u ≡ cond y true v → cond x true u ≡ cond y true (cond x true v)
    swapped true true u v h = refl
    swapped true false u v h = refl
    swapped false y u v h = h
