-- Writers as they are held.
use Rattle.std.proofs.Common.{◌≡◌, ℕ, ◌+◌, Bool, true, false, cond, nat_eq, List, [], ◌∷◌, ◌++◌, map, length, Option}
use Rattle.std.proofs.Common.{Some, None, refl, ap, sym, ◌∙◌, arith, subst, length-append}
use Rattle.std.specs.Ordering.{nat_cmp, is_eq}
use Rattle.std.specs.Cmp.{unsigned_ties}
use Rattle.std.specs.Prelude.{is_some}
use Rattle.std.specs.BTreeMap.{BTreeMap, get, btree_map_len, Updates}
use Rattle.std.proofs.lemmas.Bool.{eqb-true}
use Rattle.std.proofs.lemmas.List.{map-append, length-map}
use Rattle.mw_types.specs.Types.{TypeExpression}
use Rattle.mw_lines.specs.TypeLines.{TypeLine, line_of}
use Rattle.mw_lines.specs.Deciding.{same_line}
use Rattle.mw_lines.specs.Tables.{compare_lines}
use Rattle.mw_lines.specs.declared.lines.Line.{Line}
use Rattle.mw_lines.proofs.StoredLines.{equal_lines}
use Rattle.mw_lines.proofs.NamedTypes.{line_same}
use Rattle.mw_section.specs.Writing.{Writing, Written, type_written, classifier_written, line_written, place_of}
use Rattle.mw_section.specs.Writing.{with_number, line_place, with_line}
use Rattle.mw_section.specs.Writers.{place_within, AreNumbers, AreLines, IsWritten, unknown_written, Puts}
use Rattle.mw_section.specs.WritingLaws.{IsContinued}
use Rattle.mw_section.specs.declared.numbers.Numbers.{Numbers}
use Rattle.mw_section.specs.declared.table.LineTable.{LineTable}
use Rattle.mw_section.specs.declared.writer.LineWriter.{LineWriter}
use Rattle.mw_section.proofs.Places.{place, place_of_is, with_number_is, line_place_is, with_line_is, found_there}
use Rattle.mw_section.proofs.Places.{found_nowhere, found-put}
use Rattle.mw_section.proofs.LaterWrites.{continued_line, continued_unknown, continued_classifier}
use Rattle.mw_section.proofs.RepeatedWrites.{written_here, written_later}

-- what a table of places has where one more is put
entry_put : {A : Type 0} (same : A → A → Bool) (exact : (x y : A) → same x y ≡ true → x ≡ y) (x q : A) (xs : List A)
    (b : Bool) (f : Option ℕ) → place same x xs ≡ length xs → b ≡ same x q
    → f ≡ place_within (place same q xs) (length xs)
    → cond b (Some (length xs)) f
    ≡ place_within (place same q (xs ++ x ∷ [])) (length (xs ++ x ∷ []))
entry_put same exact x q xs b f h e g = rw (e, g) (sym (found-put same exact x q xs h))

-- numbers
number_within : (n : ℕ) (ns : List ℕ)
    → place_within (place_of n ns) (length ns) ≡ place_within (place nat_eq n ns) (length ns)
number_within n ns = ap (λ p. place_within p (length ns)) (place_of_is n ns)

pub number_found : (m : Numbers) (n k : ℕ) → get nat_cmp m.numbers n ≡ Some k → (ns : List ℕ) → AreNumbers m ns
    → (k ≡ place_of n ns) × AreNumbers m (with_number n ns)
number_found m n k e ns h =
    let f = found_there nat_eq n ns k (sym (number_within n ns) ∙ sym (h.each n) ∙ e) in
    (f.0 ∙ sym (place_of_is n ns), rw (with_number_is n ns, f.1) h)

-- what comes to a map that had nothing at a key is one more
pub number_more : (old : Option ℕ) (r m : BTreeMap ℕ ℕ) → old ≡ None
    → btree_map_len r ≡ btree_map_len m + cond (is_some old) 0 1 → btree_map_len r ≡ btree_map_len m + 1
number_more old r m e h = h ∙ rw e refl

pub number_put : (m r : Numbers) (n k : ℕ) → get nat_cmp m.numbers n ≡ None → k ≡ btree_map_len m.numbers
    → Updates nat_cmp m.numbers r.numbers n (Some k) → btree_map_len r.numbers ≡ btree_map_len m.numbers + 1
    → (ns : List ℕ) → AreNumbers m ns → (k ≡ place_of n ns) × AreNumbers r (with_number n ns)
number_put m r n k e count u long ns h =
    let f = found_nowhere nat_eq n ns (sym (number_within n ns) ∙ sym (h.each n) ∙ e) in
    let last : k ≡ length ns = count ∙ h.count in
    let more : AreNumbers r (ns ++ n ∷ []) = record {
      count = simp length-append (let c = h.count in omega arith);
      each = λ q. u.0 q ∙ rw last (entry_put nat_eq eqb-true n q ns _ _ f.0 (sym (unsigned_ties n q))
          (h.each q ∙ number_within q ns)) ∙ sym (number_within q (ns ++ n ∷ []));
    } in
    (last ∙ sym f.0 ∙ sym (place_of_is n ns), rw (with_number_is n ns, f.1) more)

-- lines
line_within : (l : TypeLine) (ls : List TypeLine)
    → place_within (line_place l ls) (length ls) ≡ place_within (place same_line l ls) (length ls)
line_within l ls = ap (λ p. place_within p (length ls)) (line_place_is l ls)

pub line_found : (m : LineTable) (l : Line) (k : ℕ) → get compare_lines m.places l ≡ Some k → (ls : List TypeLine)
    → AreLines m ls → (k ≡ line_place (line_of l) ls) × AreLines m (with_line (line_of l) ls)
line_found m l k e ls h =
    let f = found_there same_line (line_of l) ls k (sym (line_within (line_of l) ls) ∙ sym (h.each l) ∙ e) in
    (f.0 ∙ sym (line_place_is (line_of l) ls), rw (with_line_is (line_of l) ls, f.1) h)

pub line_put : (m r : LineTable) (l : Line) (k : ℕ) → get compare_lines m.places l ≡ None → k ≡ length m.lines.items
    → Updates compare_lines m.places r.places l (Some k) → r.lines.items ≡ m.lines.items ++ l ∷ []
    → (ls : List TypeLine) → AreLines m ls
    → (k ≡ line_place (line_of l) ls) × AreLines r (with_line (line_of l) ls)
line_put m r l k e count u items ls h =
    let f = found_nowhere same_line (line_of l) ls (sym (line_within (line_of l) ls) ∙ sym (h.each l) ∙ e) in
    let last : k ≡ length ls = count ∙ sym (length-map m.lines.items line_of) ∙ ap length h.lines in
    let more : AreLines r (ls ++ line_of l ∷ []) = record {
      lines = ap (λ xs. map line_of xs) items ∙ map-append line_of m.lines.items (l ∷ [])
          ∙ ap (λ xs. xs ++ line_of l ∷ []) h.lines;
      each = λ q. u.0 q ∙ rw last (entry_put same_line line_same (line_of l) (line_of q) ls _ _ f.0 (equal_lines l q)
          (h.each q ∙ line_within (line_of q) ls)) ∙ sym (line_within (line_of q) (ls ++ line_of l ∷ []));
    } in
    (last ∙ sym f.0 ∙ sym (line_place_is (line_of l) ls), rw (with_line_is (line_of l) ls, f.1) more)

-- trees stay written
still_written : (types : ℕ → TypeExpression) (trees : BTreeMap ℕ ℕ) (w v : Writing) → IsContinued w v
    → ((n p : ℕ) → get nat_cmp trees n ≡ Some p → IsWritten (types n) p w)
    → (n p : ℕ) → get nat_cmp trees n ≡ Some p → IsWritten (types n) p v
still_written types trees w v c h n p e = written_later (types n) p w v (h n p e) c

-- steps of a writer
pub puts_unknown : (types : ℕ → TypeExpression) (m : LineWriter) (r : Numbers) (u k : ℕ)
    → ((ns : List ℕ) → AreNumbers m.unknowns ns → (k ≡ place_of u ns) × AreNumbers r (with_number u ns))
    → Puts types (unknown_written u) m
    (record { unknowns = r; classifiers = m.classifiers; table = m.table; trees = m.trees }) k
puts_unknown types m r u k f w h =
    let a = f w.unknowns h.unknowns in (
      a.0,
      record {
        unknowns = a.1;
        classifiers = h.classifiers;
        lines = h.lines;
        trees = still_written types m.trees w _ (continued_unknown u w) h.trees;
      },
    )

pub puts_classifier : (types : ℕ → TypeExpression) (m : LineWriter) (r : Numbers) (c k : ℕ)
    → ((ns : List ℕ) → AreNumbers m.classifiers ns → (k ≡ place_of c ns) × AreNumbers r (with_number c ns))
    → Puts types (classifier_written c) m
    (record { unknowns = m.unknowns; classifiers = r; table = m.table; trees = m.trees }) k
puts_classifier types m r c k f w h =
    let a = f w.classifiers h.classifiers in (
      a.0,
      record {
        unknowns = h.unknowns;
        classifiers = a.1;
        lines = h.lines;
        trees = still_written types m.trees w _ (continued_classifier c w) h.trees;
      },
    )

pub puts_line : (types : ℕ → TypeExpression) (m : LineWriter) (r : LineTable) (l : TypeLine) (k : ℕ)
    → ((ls : List TypeLine) → AreLines m.table ls → (k ≡ line_place l ls) × AreLines r (with_line l ls))
    → Puts types (line_written l) m
    (record { unknowns = m.unknowns; classifiers = m.classifiers; table = r; trees = m.trees }) k
puts_line types m r l k f w h =
    let a = f w.lines h.lines in (
      a.0,
      record {
        unknowns = h.unknowns;
        classifiers = h.classifiers;
        lines = a.1;
        trees = still_written types m.trees w _ (continued_line l w) h.trees;
      },
    )

-- a line behind one step, and behind two
pub puts_one : (types : ℕ → TypeExpression) (line : ℕ → TypeLine) (step : Writing → Written) (m n o : LineWriter)
    (i p : ℕ) → Puts types step m n i → Puts types (line_written (line i)) n o p
    → Puts types (λ w. line_written (line (step w).place) (step w).writing) m o p
puts_one types line step m n o i p f g w h =
    let a = f w h in
    rw (← a.0) (g (step w).writing a.1)

pub puts_two : (types : ℕ → TypeExpression) (line : ℕ → ℕ → TypeLine) (first second : Writing → Written)
    (m n o r : LineWriter) (i j p : ℕ) → Puts types first m n i → Puts types second n o j
    → Puts types (line_written (line i j)) o r p
    → Puts types (λ w. line_written (line (first w).place (second (first w).writing).place)
    (second (first w).writing).writing) m r p
puts_two types line first second m n o r i j p f g k w h =
    let a = f w h in
    rw (← a.0) (puts_one types (line i) second n o r j p g k (first w).writing a.1)

-- trees
pub tree_found : (types : ℕ → TypeExpression) (m : LineWriter) (n k : ℕ) (t : TypeExpression)
    → get nat_cmp m.trees n ≡ Some k → types n ≡ t → Puts types (type_written t) m m k
tree_found types m n k t e same w h =
    let there : IsWritten t k w = subst (λ s. IsWritten s k w) same (h.trees n k e) in
    rw there (refl, h)

tree_entry : (b : Bool) (f : Option ℕ) (k p : ℕ) (P : ℕ → Type 0) → (b ≡ true → P p) → (f ≡ Some k → P k)
    → cond b (Some p) f ≡ Some k → P k
tree_entry true f k p P h g e = let q : p ≡ k = cc in subst P q (h refl)
tree_entry false f k p P h g e = g e

pub tree_put : (types : ℕ → TypeExpression) (m r : LineWriter) (trees : BTreeMap ℕ ℕ) (n k : ℕ) (t : TypeExpression)
    → Puts types (type_written t) m r k → Updates nat_cmp r.trees trees n (Some k) → types n ≡ t
    → Puts types (type_written t) m
    (record { unknowns = r.unknowns; classifiers = r.classifiers; table = r.table; trees = trees }) k
tree_put types m r trees n k t f u same w h =
    let a = f w h in
    let v = (type_written t w).writing in
    let here : IsWritten (types n) k v = rw (same, a.0) (written_here t w) in (
      a.0,
      record {
        unknowns = a.1.unknowns;
        classifiers = a.1.classifiers;
        lines = a.1.lines;
        trees = λ q p e. tree_entry (is_eq (nat_cmp n q)) (get nat_cmp r.trees q) p k (λ x. IsWritten (types q) x v)
            (λ y. let s : n ≡ q = eqb-true n q (unsigned_ties n q ∙ y) in
            subst (λ x. IsWritten (types x) k v) s here)
            (a.1.trees q p)
            (sym (u.0 q) ∙ e);
      },
    )
