-- Where a term is judged, its node lines are right for it.
use Rattle.std.proofs.Common.{◌≡◌, ℕ, zero, suc, ◌+◌, ◌<◌, true, false, ◌&&◌, not, List, [], ◌∷◌, drop}
use Rattle.std.proofs.Common.{length, Option, Some, refl, sym, ap, ◌∙◌, subst, arith, true≢false}
use Rattle.std.specs.Prelude.{slice_get, ◌==◌, map}
use Rattle.std.proofs.lemmas.Bool.{eqb-false, eqb-true}
use Rattle.mw_term.specs.Terms.{Expression, num, truth, var, glob, fun, fix, app, bind, cond, pair, fst, snd, prim}
use Rattle.mw_term.specs.Terms.{bracket, escape, run, close, opened, lift, lift_b, size}
use Rattle.mw_term.specs.Types.{Level, live, under}
use Rattle.mw_types.specs.Types.{TypeExpression, code_ty, closed_ty}
use Rattle.mw_types.specs.Expressions.{kernel_expression}
use Rattle.mw_lines.specs.TypeLines.{TypeLine, int_line, bool_line, pair_line, arrow_line, code_line, closed_line}
use Rattle.mw_lines.specs.TypeLines.{AreTypeLines}
use Rattle.mw_lines.specs.Naming.{types_named, type_named}
use Rattle.mw_lines.specs.Deciding.{same_type, is_in}
use Rattle.mw_recheck.specs.Notes.{Notes, binder_note, TopNote, let_root, kernel_root, IsUse, IsUnused}
use Rattle.mw_recheck.specs.Notes.{IsNodeLine, Noted}
use Rattle.mw_recheck.specs.Judging.{PlacedBinder, plain_at, quoted_at, placed, type_of, note_of, notes_of, same_binder}
use Rattle.mw_recheck.specs.Judging.{is_line, has_content, stands_at, stands_in, is_use, NodeLine, own_at}
use Rattle.mw_recheck.specs.Judging.{form_of, may_stand, primitive_line, agrees, ended, judged}
use Rattle.mw_recheck.specs.Options.{◌>>=◌}
use Rattle.mw_lines.proofs.NamedTypes.{and-both, not-false, either-false}
use Rattle.mw_lines.proofs.Candidates.{making_decided, classifier_absent, type_same}
use Rattle.mw_recheck.proofs.Places.{is_line-there, line-names, primitive_names}
use Rattle.mw_recheck.proofs.NodeLines.{bound, chosen, further, classifiers, own_taken}
use Rattle.mw_recheck.proofs.NodeTypes.{here, node_there, own_within}

pub note_of-placed : (ls : List TypeLine) (m : Level) (i : ℕ) → note_of ls (placed m i) ≡ binder_note m (type_of ls i)
note_of-placed ls live i = refl
note_of-placed ls (under c) i = refl

-- the binder that a variable names
same_binder-is : (o : Option PlacedBinder) (x : PlacedBinder) → same_binder o x ≡ true → o ≡ Some x
same_binder-is (Some (plain_at i)) (plain_at j) h = ap (λ k. Some (plain_at k)) (eqb-true i j h)
same_binder-is (Some (quoted_at c i)) (quoted_at d j) h =
    let b = and-both (c == d) (i == j) h in rw (eqb-true c d b.0, eqb-true i j b.1) refl
same_binder-is _ _ h = absurd (cc)

get-notes : (ls : List TypeLine) (g : List PlacedBinder) (i : ℕ) (x : PlacedBinder) → slice_get g i ≡ Some x
    → slice_get (notes_of ls g) i ≡ Some (note_of ls x)
get-notes ls [] i x h = absurd (cc)
get-notes ls (y ∷ g) zero x h = let p : y ≡ x = cc in ap (λ z. Some (note_of ls z)) p
get-notes ls (y ∷ g) (suc i) x h = get-notes ls g i x h

module _ (ls : List TypeLine) (known : AreTypeLines ls (types_named ls)) (nodes : List (List ℕ))
    (tops : List TopNote) where
  abbrev p : Notes
  p = here ls nodes

  unused : (a : ℕ) (g : List PlacedBinder) → stands_in ls a g ≡ false → IsUnused a (notes_of ls g)
  unused a [] h = tt
  unused a (plain_at i ∷ g) h =
      let b = either-false (is_in a (type_of ls i)) (stands_in ls a g) h in
      (classifier_absent a (type_of ls i) b.0, unused a g b.1)
  unused a (quoted_at c i ∷ g) h =
      let b = either-false (stands_at ls a (quoted_at c i)) (stands_in ls a g) h in
      let d = either-false (c == a) (is_in a (type_of ls i)) b.0 in
      ((λ e. eqb-false c a d.0 e, classifier_absent a (type_of ls i) d.1), unused a g b.1)

  used : (o : Option TopNote) (t : TypeExpression) → is_use o t ≡ true → IsUse live o t
  used (Some (let_root r)) t h = (making_decided r t).0 h
  used (Some (kernel_root k)) t h = type_same t (closed_ty (kernel_expression k)) h
  used _ t h = absurd (cc)

  -- the type of a place by its line
  names : (i : ℕ) (l : TypeLine) → is_line ls i l ≡ true → type_of ls i ≡ type_named (types_named ls) l
  names i l h = (line-names ls known i l (is_line-there ls i l h)).1

  content : (c i : ℕ) (l : TypeLine) → has_content ls c l (slice_get ls i) ≡ true
      → type_of ls i ≡ code_ty c (type_named (types_named ls) l)
  content c i l h = of (slice_get ls i) refl h
    where
      of : (o : Option TypeLine) → slice_get ls i ≡ o → has_content ls c l o ≡ true
          → type_of ls i ≡ code_ty c (type_named (types_named ls) l)
      of (Some (code_line d j)) e h =
          let b = and-both (d == c) (is_line ls j l) h in
          (line-names ls known i (code_line d j) e).1 ∙ rw (eqb-true d c b.0, names j l b.1) refl
      of _ e h = absurd (cc)

  -- the term's node lines are right for it, from the answer: the place of its type, and the lines after it
  pub record Right (g : List PlacedBinder) (m : Level) (n : ℕ) (e : Expression) (y : ℕ × List (List ℕ)) : Type 0 where
    pub rest : y.1 ≡ drop (n + size e) nodes
    pub within : y.0 < length ls
    pub noted : Noted p tops (notes_of ls g) m n e (type_of ls y.0)

  -- the line of a root, and what goes on from it
  record Started (m : Level) (n : ℕ) (e : Expression) (go : NodeLine × List (List ℕ) → Option (ℕ × List (List ℕ)))
      (y : ℕ × List (List ℕ)) : Type 0 where
    x : NodeLine
    within : x.own < length ls
    stands : may_stand m e ≡ true
    node : IsNodeLine p m n (type_of ls x.own ∷ map (type_of ls) (further (form_of e) x)) (classifiers (form_of e) x)
    next : go (x, drop (n + 1) nodes) ≡ Some y

  started : (m : Level) (n : ℕ) (e : Expression) (go : NodeLine × List (List ℕ) → Option (ℕ × List (List ℕ)))
      (y : ℕ × List (List ℕ)) → (own_at ls m e (drop n nodes) >>= go) ≡ Some y → Started m n e go y
  started m n e go y h =
      let x = bound (own_at ls m e (drop n nodes)) go y h in
      let o = own_taken ls nodes m n e x.0 x.1 in
      record {
        x = x.0.0;
        within = own_within ls known m (form_of e) x.0.0 o.fit;
        stands = o.stands;
        node = node_there ls known nodes m n (form_of e) x.0.0 o.line o.fit;
        next = subst (λ r. go (x.0.0, r) ≡ Some y) o.after x.2;
      }

  -- a part that is judged, and what goes on from it
  record Part (g : List PlacedBinder) (m : Level) (n : ℕ) (e : Expression)
      (go : ℕ × List (List ℕ) → Option (ℕ × List (List ℕ))) (y : ℕ × List (List ℕ)) : Type 0 where
    at : ℕ
    noted : Noted p tops (notes_of ls g) m n e (type_of ls at)
    next : go (at, drop (n + size e) nodes) ≡ Some y

  part : (g : List PlacedBinder) (m : Level) (n : ℕ) (e : Expression)
      (go : ℕ × List (List ℕ) → Option (ℕ × List (List ℕ))) (y : ℕ × List (List ℕ))
      → ((z : ℕ × List (List ℕ)) → judged ls tops g m e (drop n nodes) ≡ Some z → Right g m n e z)
      → (judged ls tops g m e (drop n nodes) >>= go) ≡ Some y → Part g m n e go y
  part g m n e go y sound h =
      let a = bound (judged ls tops g m e (drop n nodes)) go y h in
      let r = sound a.0 a.1 in
      record { at = a.0.0; noted = r.noted; next = subst (λ l. go (a.0.0, l) ≡ Some y) r.rest a.2 }

  -- the root's line agrees with the parts, which are as many lines as the term has after its root
  finished : {m : Level} {n : ℕ} {e : Expression} {go : NodeLine × List (List ℕ) → Option (ℕ × List (List ℕ))}
      {y : ℕ × List (List ℕ)} (g : List PlacedBinder) (a b c k : ℕ) (s : Started m n e go y)
      → ended ls tops g m e s.x a b c (drop k nodes) ≡ Some y → k ≡ n + size e
      → (agrees ls tops g m e s.x a b c ≡ true → Noted p tops (notes_of ls g) m n e (type_of ls s.x.own))
      → Right g m n e y
  finished {m = m} {n = n} {e = e} {y = y} g a b c k s h q noted =
      let d = chosen (agrees ls tops g m e s.x a b c) (s.x.own, drop k nodes) y h in
      subst (λ z. Right g m n e z) d.1
      (record { rest = ap (λ l. drop l nodes) q; within = s.within; noted = noted d.0 })

  pub sound : (g : List PlacedBinder) (m : Level) (n : ℕ) (e : Expression) (y : ℕ × List (List ℕ))
      → judged ls tops g m e (drop n nodes) ≡ Some y → Right g m n e y
  sound g m n (num z) y h =
      let s = started m n (num z) _ y h in
      finished g 0 0 0 (n + 1) s s.next (omega arith) (λ q. (names s.x.own int_line q, s.node))
  sound g m n (truth z) y h =
      let s = started m n (truth z) _ y h in
      finished g 0 0 0 (n + 1) s s.next (omega arith) (λ q. (names s.x.own bool_line q, s.node))
  sound g m n (var k) y h =
      let s = started m n (var k) _ y h in
      finished g 0 0 0 (n + 1) s s.next (omega arith) (λ q.
      let b = get-notes ls g k (placed m s.x.own) (same_binder-is (slice_get g k) (placed m s.x.own) q) in
      (b ∙ ap (λ y. Some y) (note_of-placed ls m s.x.own), s.node))
  sound g live n (glob k) y h =
      let s = started live n (glob k) _ y h in
      finished g 0 0 0 (n + 1) s s.next (omega arith) (λ q. (used (slice_get tops k) (type_of ls s.x.own) q, s.node))
  sound g m n (fun e) y h =
      let s = started m n (fun e) _ y h in
      let in_scope = placed m s.x.second ∷ g in
      let r = part in_scope m (n + 1) e _ y (sound in_scope m (n + 1) e) s.next in
      finished g r.at 0 0 (n + 1 + size e) s r.next (omega arith) (λ q. (
        type_of ls s.x.second,
        type_of ls r.at,
        names s.x.own (arrow_line s.x.second r.at) q,
        s.node,
        rw (note_of-placed ls m s.x.second) at r.noted,
      ))
  sound g m n (fix e) y h =
      let s = started m n (fix e) _ y h in
      let in_scope = placed m s.x.third ∷ placed m s.x.second ∷ g in
      let r = part in_scope m (n + 1) e _ y (sound in_scope m (n + 1) e) s.next in
      finished g r.at 0 0 (n + 1 + size e) s r.next (omega arith) (λ q.
      let b = and-both (s.x.second == s.x.own) (is_line ls s.x.own (arrow_line s.x.third r.at)) q in
      let same = eqb-true s.x.second s.x.own b.0 in (
        type_of ls s.x.third,
        type_of ls r.at,
        names s.x.own (arrow_line s.x.third r.at) b.1,
        subst (λ k. IsNodeLine p m n (type_of ls s.x.own ∷ type_of ls k ∷ type_of ls s.x.third ∷ []) []) same s.node,
        subst (λ k. Noted p tops (binder_note m (type_of ls s.x.third) ∷ binder_note m (type_of ls k) ∷ notes_of ls g)
            m (n + 1) e (type_of ls r.at)) same
            (rw (note_of-placed ls m s.x.third, note_of-placed ls m s.x.second) at r.noted),
      ))
  sound g m n (app f e) y h =
      let s = started m n (app f e) _ y h in
      let a = part g m (n + 1) f _ y (sound g m (n + 1) f) s.next in
      let b = part g m (n + 1 + size f) e _ y (sound g m (n + 1 + size f) e) a.next in
      finished g a.at b.at 0 (n + 1 + size f + size e) s b.next (omega arith) (λ q.
      (type_of ls b.at, s.node, rw (names a.at (arrow_line b.at s.x.own) q) at a.noted, b.noted))
  sound g m n (bind d e) y h =
      let s = started m n (bind d e) _ y h in
      let in_scope = placed m s.x.second ∷ g in
      let a = part g m (n + 1) d _ y (sound g m (n + 1) d) s.next in
      let b = part in_scope m (n + 1 + size d) e _ y (sound in_scope m (n + 1 + size d) e) a.next in
      finished g a.at b.at 0 (n + 1 + size d + size e) s b.next (omega arith) (λ q.
      let t = and-both (a.at == s.x.second) (b.at == s.x.own) q in (
        type_of ls s.x.second,
        s.node,
        subst (λ k. Noted p tops (notes_of ls g) m (n + 1) d (type_of ls k)) (eqb-true a.at s.x.second t.0) a.noted,
        subst (λ k. Noted p tops (binder_note m (type_of ls s.x.second) ∷ notes_of ls g) m (n + 1 + size d) e
            (type_of ls k)) (eqb-true b.at s.x.own t.1) (rw (note_of-placed ls m s.x.second) at b.noted),
      ))
  sound g m n (cond c d e) y h =
      let s = started m n (cond c d e) _ y h in
      let a = part g m (n + 1) c _ y (sound g m (n + 1) c) s.next in
      let b = part g m (n + 1 + size c) d _ y (sound g m (n + 1 + size c) d) a.next in
      let f = part g m (n + 1 + size c + size d) e _ y (sound g m (n + 1 + size c + size d) e) b.next in
      finished g a.at b.at f.at (n + 1 + size c + size d + size e) s f.next (omega arith) (λ q.
      let t = and-both (is_line ls a.at bool_line) ((b.at == s.x.own) && (f.at == s.x.own)) q in
      let u = and-both (b.at == s.x.own) (f.at == s.x.own) t.1 in (
        s.node,
        rw (names a.at bool_line t.0) at a.noted,
        subst (λ k. Noted p tops (notes_of ls g) m (n + 1 + size c) d (type_of ls k)) (eqb-true b.at s.x.own u.0)
            b.noted,
        subst (λ k. Noted p tops (notes_of ls g) m (n + 1 + size c + size d) e (type_of ls k))
            (eqb-true f.at s.x.own u.1) f.noted,
      ))
  sound g m n (pair d e) y h =
      let s = started m n (pair d e) _ y h in
      let a = part g m (n + 1) d _ y (sound g m (n + 1) d) s.next in
      let b = part g m (n + 1 + size d) e _ y (sound g m (n + 1 + size d) e) a.next in
      finished g a.at b.at 0 (n + 1 + size d + size e) s b.next (omega arith) (λ q.
      (type_of ls a.at, type_of ls b.at, names s.x.own (pair_line a.at b.at) q, s.node, a.noted, b.noted))
  sound g m n (prim o d e) y h =
      let s = started m n (prim o d e) _ y h in
      let a = part g m (n + 1) d _ y (sound g m (n + 1) d) s.next in
      let b = part g m (n + 1 + size d) e _ y (sound g m (n + 1 + size d) e) a.next in
      finished g a.at b.at 0 (n + 1 + size d + size e) s b.next (omega arith) (λ q.
      let t = and-both (is_line ls s.x.own (primitive_line o)) (is_line ls a.at int_line && is_line ls b.at int_line)
      q in
      let u = and-both (is_line ls a.at int_line) (is_line ls b.at int_line) t.1 in (
        names s.x.own (primitive_line o) t.0 ∙ (primitive_names ls o).1,
        s.node,
        rw (names a.at int_line u.0) at a.noted,
        rw (names b.at int_line u.1) at b.noted,
      ))
  sound g m n (fst e) y h =
      let s = started m n (fst e) _ y h in
      let r = part g m (n + 1) e _ y (sound g m (n + 1) e) s.next in
      finished g r.at 0 0 (n + 1 + size e) s r.next (omega arith) (λ q.
      (type_of ls s.x.second, s.node, rw (names r.at (pair_line s.x.own s.x.second) q) at r.noted))
  sound g m n (snd e) y h =
      let s = started m n (snd e) _ y h in
      let r = part g m (n + 1) e _ y (sound g m (n + 1) e) s.next in
      finished g r.at 0 0 (n + 1 + size e) s r.next (omega arith) (λ q.
      (type_of ls s.x.second, s.node, rw (names r.at (pair_line s.x.second s.x.own) q) at r.noted))
  sound g live n (bracket e) y h =
      let s = started live n (bracket e) _ y h in
      let r = part g (under s.x.second) (n + 1) e _ y (sound g (under s.x.second) (n + 1) e) s.next in
      finished g r.at 0 0 (n + 1 + size e) s r.next (omega arith) (λ q.
      (s.x.second, type_of ls r.at, names s.x.own (code_line s.x.second r.at) q, s.node, r.noted))
  sound g (under c) n (escape e) y h =
      let s = started (under c) n (escape e) _ y h in
      let r = part g live (n + 1) e _ y (sound g live (n + 1) e) s.next in
      finished g r.at 0 0 (n + 1 + size e) s r.next (omega arith) (λ q.
      (s.node, rw (names r.at (code_line c s.x.own) q) at r.noted))
  sound g live n (run k e) y h =
      let s = started live n (run k e) _ y h in
      let r = part g live (n + 1) e _ y (sound g live (n + 1) e) s.next in
      finished g r.at 0 0 (n + 1 + size e) s r.next (omega arith) (λ q.
      let t = and-both (same_type (type_of ls s.x.own) (kernel_expression k)) (is_line ls r.at (closed_line s.x.own))
      q in (
        type_same (type_of ls s.x.own) (kernel_expression k) t.0,
        s.node,
        rw (names r.at (closed_line s.x.own) t.1) at r.noted,
      ))
  sound g live n (close at e) y h =
      let s = started live n (close at e) _ y h in
      let r = part g live (n + 1) e _ y (sound g live (n + 1) e) s.next in
      finished g r.at 0 0 (n + 1 + size e) s r.next (omega arith) (λ q.
      let t = and-both (is_line ls s.x.own (closed_line s.x.second)) (not (stands_in ls s.x.third g) && is_line ls r.at
      (code_line s.x.third s.x.second)) q in
      let u = and-both (not (stands_in ls s.x.third g)) (is_line ls r.at (code_line s.x.third s.x.second)) t.1 in (
        s.x.third,
        type_of ls s.x.second,
        names s.x.own (closed_line s.x.second) t.0,
        unused s.x.third g (not-false (stands_in ls s.x.third g) u.0),
        s.node,
        rw (names r.at (code_line s.x.third s.x.second) u.1) at r.noted,
      ))
  sound g live n (opened e) y h =
      let s = started live n (opened e) _ y h in
      let r = part g live (n + 1) e _ y (sound g live (n + 1) e) s.next in
      finished g r.at 0 0 (n + 1 + size e) s r.next (omega arith) (λ q.
      let t = and-both (is_line ls s.x.own (code_line s.x.third s.x.second)) (is_line ls r.at
      (closed_line s.x.second)) q in (
        s.x.third,
        type_of ls s.x.second,
        names s.x.own (code_line s.x.third s.x.second) t.0,
        s.node,
        rw (names r.at (closed_line s.x.second) t.1) at r.noted,
      ))
  sound g live n (lift e) y h =
      let s = started live n (lift e) _ y h in
      let r = part g live (n + 1) e _ y (sound g live (n + 1) e) s.next in
      finished g r.at 0 0 (n + 1 + size e) s r.next (omega arith) (λ q.
      let t = and-both (has_content ls s.x.second int_line (slice_get ls s.x.own)) (is_line ls r.at int_line) q in
      ((s.x.second, content s.x.second s.x.own int_line t.0, s.node), rw (names r.at int_line t.1) at r.noted))
  sound g live n (lift_b e) y h =
      let s = started live n (lift_b e) _ y h in
      let r = part g live (n + 1) e _ y (sound g live (n + 1) e) s.next in
      finished g r.at 0 0 (n + 1 + size e) s r.next (omega arith) (λ q.
      let t = and-both (has_content ls s.x.second bool_line (slice_get ls s.x.own)) (is_line ls r.at bool_line) q in
      ((s.x.second, content s.x.second s.x.own bool_line t.0, s.node), rw (names r.at bool_line t.1) at r.noted))
  sound g live n e y h = absurd (true≢false (sym (started live n e _ y h).stands))
  sound g (under c) n e y h = absurd (true≢false (sym (started (under c) n e _ y h).stands))
