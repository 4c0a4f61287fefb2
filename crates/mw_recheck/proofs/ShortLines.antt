-- The node lines of a term that is judged have three numbers at most.
use Rattle.std.proofs.Common.{◌≡◌, ℕ, ◌<◌, ◌≤◌, ◌&&◌, List, [], ◌∷◌, ◌++◌, length}
use Rattle.std.proofs.Common.{Option, Some, sym, ap, ◌∙◌, subst, arith, append_assoc}
use Rattle.std.proofs.lemmas.List.{append-nil}
use Rattle.mw_term.specs.Terms.{Expression, num, truth, var, glob, fun, fix, app, bind, cond, pair, fst, snd, prim}
use Rattle.mw_term.specs.Terms.{bracket, escape, run, close, opened, lift, lift_b, done}
use Rattle.mw_term.specs.Types.{Level, live, under}
use Rattle.mw_lines.specs.TypeLines.{TypeLine}
use Rattle.mw_recheck.specs.Options.{◌>>=◌}
use Rattle.mw_recheck.specs.Notes.{TopNote}
use Rattle.mw_recheck.specs.Judging.{PlacedBinder, placed, NodeLine, Form, form_of, next_node, line_of_form, own_at}
use Rattle.mw_recheck.specs.Judging.{ended}
use Rattle.mw_recheck.specs.Judging.{one_type, two_types, three_types, type_and_classifier, two_types_and_classifier}
use Rattle.mw_recheck.specs.Judging.{may_stand, all_fit, agrees, leaf, judged}
use Rattle.mw_recheck.proofs.NodeLines.{bound, chosen, numbers_of, numbers_there}
use Rattle.mw_recheck.proofs.ReadSections.{AreShort}

-- the lines that a part takes
record Front (nodes rest : List (List ℕ)) : Type 0 where
  front : List (List ℕ)
  parts : nodes ≡ front ++ rest
  short : AreShort front

both_short : (a b : List (List ℕ)) → AreShort a → AreShort b → AreShort (a ++ b)
both_short [] b s t = t
both_short (l ∷ a) b s t = (s.0, s.1, both_short a b s.2 t)

joined : (nodes between rest : List (List ℕ)) → Front nodes between → Front between rest → Front nodes rest
joined nodes between rest f g = record {
  front = f.front ++ g.front;
  parts = f.parts ∙ ap (λ l. f.front ++ l) g.parts ∙ sym (append_assoc f.front g.front rest);
  short = both_short f.front g.front f.short g.short;
}

short_line : (f : Form) (x : NodeLine) → (0 < length (numbers_of f x)) × (length (numbers_of f x) ≤ 3)
short_line one_type x = (omega arith, omega arith)
short_line two_types x = (omega arith, omega arith)
short_line three_types x = (omega arith, omega arith)
short_line type_and_classifier x = (omega arith, omega arith)
short_line two_types_and_classifier x = (omega arith, omega arith)

own_short : (ls : List TypeLine) (m : Level) (e : Expression) (nodes : List (List ℕ)) (x : NodeLine × List (List ℕ))
    → own_at ls m e nodes ≡ Some x → Front nodes x.1
own_short ls m e [] x h = absurd (cc)
own_short ls m e (l ∷ nodes) x h =
    let y = bound (next_node (form_of e) (l ∷ nodes)) _ x h in
    let z = bound (line_of_form (form_of e) l) _ y.0 y.1 in
    let c = chosen (may_stand m e && all_fit ls m (form_of e) y.0.0) y.0 x y.2 in
    let w : (z.0, nodes) ≡ y.0 = let e = z.2 in cc in
    let after : nodes ≡ x.1 = ap (λ p. p.1) (w ∙ c.1) in
    let n = numbers_there (form_of e) l z.0 z.1 in
    let s = short_line (form_of e) z.0 in
    record { front = l ∷ []; parts = ap (λ r. l ∷ r) after; short = (rw n s.0, rw n s.1, tt) }

module _ (ls : List TypeLine) (tops : List TopNote) where
  left : (g : List PlacedBinder) (m : Level) (e : Expression) (x : NodeLine) (a b c : ℕ) (rest : List (List ℕ)) (y : ℕ
      × List (List ℕ)) → ended ls tops g m e x a b c rest ≡ Some y → rest ≡ y.1
  left g m e x a b c rest y h = ap (λ z. z.1) (chosen (agrees ls tops g m e x a b c) (x.own, rest) y h).1

  abbrev Judge : Type 0
  Judge = NodeLine → List (List ℕ) → Option (ℕ × List (List ℕ))

  abbrev Takes : Judge → Type 0
  Takes part = (x : NodeLine) (nodes : List (List ℕ)) (y : ℕ × List (List ℕ)) → part x nodes ≡ Some y → Front nodes y.1

  short_leaf : (g : List PlacedBinder) (m : Level) (e : Expression) (nodes : List (List ℕ)) (y : ℕ × List (List ℕ))
      → leaf ls tops g m e nodes ≡ Some y → Front nodes y.1
  short_leaf g m e nodes y h =
      let x = bound (own_at ls m e nodes) _ y h in
      subst (λ r. Front nodes r) (left g m e x.0.0 0 0 0 x.0.1 y x.2) (own_short ls m e nodes x.0 x.1)

  short_one : (g : List PlacedBinder) (m : Level) (e : Expression) (nodes : List (List ℕ)) (y : ℕ
      × List (List ℕ)) (part : Judge) → Takes part
      → (own_at ls m e nodes >>= λ x. (part x.0 x.1 >>= λ a. ended ls tops g m e x.0 a.0 0 0 a.1)) ≡ Some y
      → Front nodes y.1
  short_one g m e nodes y part t h =
      let x = bound (own_at ls m e nodes) _ y h in
      let a = bound (part x.0.0 x.0.1) _ y x.2 in
      subst (λ r. Front nodes r) (left g m e x.0.0 a.0.0 0 0 a.0.1 y a.2) (joined nodes x.0.1 a.0.1
      (own_short ls m e nodes x.0 x.1) (t x.0.0 x.0.1 a.0 a.1))

  short_two : (g : List PlacedBinder) (m : Level) (e : Expression) (nodes : List (List ℕ)) (y : ℕ
      × List (List ℕ)) (part next : Judge) → Takes part → Takes next
      → (own_at ls m e nodes >>= λ x. (part x.0 x.1 >>= λ a.
      (next x.0 a.1 >>= λ b. ended ls tops g m e x.0 a.0 b.0 0 b.1))) ≡ Some y → Front nodes y.1
  short_two g m e nodes y part next t u h =
      let x = bound (own_at ls m e nodes) _ y h in
      let a = bound (part x.0.0 x.0.1) _ y x.2 in
      let b = bound (next x.0.0 a.0.1) _ y a.2 in
      subst (λ r. Front nodes r) (left g m e x.0.0 a.0.0 b.0.0 0 b.0.1 y b.2)
      (joined nodes x.0.1 b.0.1 (own_short ls m e nodes x.0 x.1) (joined x.0.1 a.0.1 b.0.1 (t x.0.0 x.0.1 a.0 a.1)
      (u x.0.0 a.0.1 b.0 b.1)))

  short_three : (g : List PlacedBinder) (m : Level) (e : Expression) (nodes : List (List ℕ)) (y : ℕ
      × List (List ℕ)) (part next last : Judge) → Takes part → Takes next → Takes last
      → (own_at ls m e nodes >>= λ x. (part x.0 x.1 >>= λ a. (next x.0 a.1 >>= λ b.
      (last x.0 b.1 >>= λ c. ended ls tops g m e x.0 a.0 b.0 c.0 c.1)))) ≡ Some y → Front nodes y.1
  short_three g m e nodes y part next last t u v h =
      let x = bound (own_at ls m e nodes) _ y h in
      let a = bound (part x.0.0 x.0.1) _ y x.2 in
      let b = bound (next x.0.0 a.0.1) _ y a.2 in
      let c = bound (last x.0.0 b.0.1) _ y b.2 in
      subst (λ r. Front nodes r) (left g m e x.0.0 a.0.0 b.0.0 c.0.0 c.0.1 y c.2)
      (joined nodes x.0.1 c.0.1 (own_short ls m e nodes x.0 x.1) (joined x.0.1 a.0.1 c.0.1 (t x.0.0 x.0.1 a.0 a.1)
      (joined a.0.1 b.0.1 c.0.1 (u x.0.0 a.0.1 b.0 b.1) (v x.0.0 b.0.1 c.0 c.1))))

  short : (g : List PlacedBinder) (m : Level) (e : Expression) (nodes : List (List ℕ)) (y : ℕ × List (List ℕ))
      → judged ls tops g m e nodes ≡ Some y → Front nodes y.1
  short g m (num z) nodes y h = short_leaf g m (num z) nodes y h
  short g m (truth z) nodes y h = short_leaf g m (truth z) nodes y h
  short g m (var i) nodes y h = short_leaf g m (var i) nodes y h
  short g m (glob i) nodes y h = short_leaf g m (glob i) nodes y h
  short g m (done v) nodes y h = short_leaf g m (done v) nodes y h
  short g m (fun e) nodes y h = short_one g m (fun e) nodes y _ (λ x. short (placed m x.second ∷ g) m e) h
  short g m (fix e) nodes y h =
      short_one g m (fix e) nodes y _ (λ x. short (placed m x.third ∷ placed m x.second ∷ g) m e) h
  short g m (app f e) nodes y h = short_two g m (app f e) nodes y _ _ (λ x. short g m f) (λ x. short g m e) h
  short g m (bind d e) nodes y h =
      short_two g m (bind d e) nodes y _ _ (λ x. short g m d) (λ x. short (placed m x.second ∷ g) m e) h
  short g m (cond c d e) nodes y h =
      short_three g m (cond c d e) nodes y _ _ _ (λ x. short g m c) (λ x. short g m d) (λ x. short g m e) h
  short g m (pair d e) nodes y h = short_two g m (pair d e) nodes y _ _ (λ x. short g m d) (λ x. short g m e) h
  short g m (prim o d e) nodes y h = short_two g m (prim o d e) nodes y _ _ (λ x. short g m d) (λ x. short g m e) h
  short g m (fst e) nodes y h = short_one g m (fst e) nodes y _ (λ x. short g m e) h
  short g m (snd e) nodes y h = short_one g m (snd e) nodes y _ (λ x. short g m e) h
  short g m (bracket e) nodes y h = short_one g m (bracket e) nodes y _ (λ x. short g (under x.second) e) h
  short g m (escape e) nodes y h = short_one g m (escape e) nodes y _ (λ x. short g live e) h
  short g m (run q e) nodes y h = short_one g m (run q e) nodes y _ (λ x. short g m e) h
  short g m (close at e) nodes y h = short_one g m (close at e) nodes y _ (λ x. short g m e) h
  short g m (opened e) nodes y h = short_one g m (opened e) nodes y _ (λ x. short g m e) h
  short g m (lift e) nodes y h = short_one g m (lift e) nodes y _ (λ x. short g m e) h
  short g m (lift_b e) nodes y h = short_one g m (lift_b e) nodes y _ (λ x. short g m e) h

  -- the lines of a term that takes them all
  pub short_lines : (e : Expression) (nodes : List (List ℕ)) (i : ℕ) → judged ls tops [] live e nodes ≡ Some (i, [])
      → AreShort nodes
  short_lines e nodes i h =
      let f = short [] live e nodes (i, []) h in
      subst (λ l. AreShort l) (sym (f.parts ∙ append-nil f.front)) f.short
