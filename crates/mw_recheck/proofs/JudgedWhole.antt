-- Where node lines are right for a term, it is judged.
use Rattle.std.proofs.Common.{◌≡◌, ℕ, zero, suc, ◌+◌, ◌<◌, true, false, List, [], ◌∷◌, drop}
use Rattle.std.proofs.Common.{length, Option, Some, refl, sym, ap, ◌∙◌, subst, arith}
use Rattle.std.specs.Prelude.{slice_get, ◌==◌}
use Rattle.std.proofs.lemmas.Bool.{eq-eqb, ne_eqb}
use Rattle.mw_term.specs.Terms.{Expression, num, truth, var, glob, fun, fix, app, bind, cond, pair, fst, snd, prim}
use Rattle.mw_term.specs.Terms.{bracket, escape, run, close, opened, lift, lift_b, size}
use Rattle.mw_term.specs.Types.{Level, live, under}
use Rattle.mw_types.specs.Types.{TypeExpression, int_ty, bool_ty, pair_ty, function_ty, code_ty, closed_ty}
use Rattle.mw_types.specs.Expressions.{kernel_expression}
use Rattle.mw_lines.specs.TypeLines.{TypeLine, int_line, bool_line, pair_line, arrow_line, code_line, closed_line}
use Rattle.mw_lines.specs.TypeLines.{AreTypeLines}
use Rattle.mw_lines.specs.Naming.{types_named, type_named}
use Rattle.mw_lines.specs.Deciding.{same_type}
use Rattle.mw_recheck.specs.Notes.{Notes, binder_note, TopNote, let_root, kernel_root}
use Rattle.mw_recheck.specs.Notes.{IsUse, IsUnused, Noted}
use Rattle.mw_recheck.specs.Judging.{PlacedBinder, plain_at, quoted_at, placed, type_of, notes_of, same_binder}
use Rattle.mw_recheck.specs.Judging.{is_line, has_content, stands_in, is_use}
use Rattle.mw_recheck.specs.Judging.{may_stand}
use Rattle.mw_recheck.specs.Judging.{primitive_line, judged}
use Rattle.mw_recheck.specs.Roots.{AreWithin}
use Rattle.mw_lines.proofs.NamedTypes.{and-true, both-false}
use Rattle.mw_lines.proofs.Candidates.{making_decided, absent_classifier, same_type-refl}
use Rattle.mw_recheck.proofs.Places.{HasParts, names-line, primitive_names, one_place, line_for}
use Rattle.mw_recheck.proofs.Places.{there_within, type_is}
use Rattle.mw_lines.proofs.OneLine.{inv-code}
use Rattle.mw_recheck.proofs.NodeLines.{own_there}
use Rattle.mw_recheck.proofs.NodeTypes.{here, PlaceOf, places_of}
use Rattle.mw_recheck.proofs.JudgedSound.{note_of-placed}

module _ (ls : List TypeLine) (known : AreTypeLines ls (types_named ls)) (nodes : List (List ℕ))
    (tops : List TopNote) where
  abbrev p : Notes
  p = here ls nodes

  pub within_placed : (m : Level) (i : ℕ) (g : List PlacedBinder) → i < length ls → AreWithin ls g
      → AreWithin ls (placed m i ∷ g)
  within_placed live i g h w = (h, w)
  within_placed (under c) i g h w = (h, w)

  absent : (a : ℕ) (g : List PlacedBinder) → IsUnused a (notes_of ls g) → stands_in ls a g ≡ false
  absent a [] h = refl
  absent a (plain_at i ∷ g) h = both-false _ _ (absent_classifier a (type_of ls i) h.0) (absent a g h.1)
  absent a (quoted_at c i ∷ g) h =
      both-false _ _ (both-false _ _ (ne_eqb c a h.0.0) (absent_classifier a (type_of ls i) h.0.1)) (absent a g h.1)

  usable : (o : Option TopNote) (t : TypeExpression) → IsUse live o t → is_use o t ≡ true
  usable (Some (let_root r)) t h = (making_decided r t).1 h
  usable (Some (kernel_root k)) t h = rw h (same_type-refl (closed_ty (kernel_expression k)))
  usable _ t h = absurd h

  -- the place of a binder whose type stands at a place too
  same_place : (g : List PlacedBinder) (k : ℕ) (m : Level) (i : ℕ) → AreWithin ls g → i < length ls
      → slice_get (notes_of ls g) k ≡ Some (binder_note m (type_of ls i))
      → same_binder (slice_get g k) (placed m i) ≡ true
  same_place [] k m i w h e = absurd (cc)
  same_place (plain_at j ∷ g) zero live i w h e =
      let q : type_of ls j ≡ type_of ls i = cc in eq-eqb j i (one_place ls known j i w.0 h q)
  same_place (quoted_at c j ∷ g) zero (under d) i w h e =
      let q : type_of ls j ≡ type_of ls i = cc in
      let r : c ≡ d = cc in
      and-true (c == d) (j == i) (eq-eqb c d r) (eq-eqb j i (one_place ls known j i w.0 h q))
  same_place (plain_at j ∷ g) zero (under d) i w h e = absurd (cc)
  same_place (quoted_at c j ∷ g) zero live i w h e = absurd (cc)
  same_place (plain_at j ∷ g) (suc k) m i w h e = same_place g k m i w.1 h e
  same_place (quoted_at c j ∷ g) (suc k) m i w h e = same_place g k m i w.1 h e

  -- places of one type are one
  same : {t : TypeExpression} (i j : ℕ) → i < length ls → j < length ls → type_of ls i ≡ t → type_of ls j ≡ t
      → (i == j) ≡ true
  same i j v w d e = eq-eqb i j (one_place ls known i j v w (d ∙ sym e))

  -- the line of code whose content's type has the line of a base type
  has_lift : (i c : ℕ) (l : TypeLine) → i < length ls → HasParts ls l → type_of ls i
      ≡ code_ty c (type_named (types_named ls) l)
      → has_content ls c l (slice_get ls i) ≡ true
  has_lift i c l w p e =
      let a = line_for ls known i (code_ty c (type_named (types_named ls) l)) w e in
      let v = inv-code a.2 in
      let inside = there_within ls known v.0 (type_named (types_named ls) l) v.2 in
      let b = names-line ls known v.0 l inside p (type_is ls known v.0 (type_named (types_named ls) l) v.2) in
      rw (a.1, v.1) (and-true (c == c) (is_line ls v.0 l) (eq-eqb c c refl) b)

  -- a term is judged: its type stands at a place, and the lines after it are left
  pub record Judged (g : List PlacedBinder) (m : Level) (n : ℕ) (e : Expression) (t : TypeExpression) : Type 0 where
    pub at : ℕ
    pub within : at < length ls
    pub is : type_of ls at ≡ t
    pub answer : judged ls tops g m e (drop n nodes) ≡ Some (at, drop (n + size e) nodes)

  judged_at : {g : List PlacedBinder} {m : Level} {n : ℕ} {e : Expression} {t : TypeExpression}
      (q : PlaceOf ls known m t)
      (k : ℕ) → judged ls tops g m e (drop n nodes) ≡ Some (q.at, drop k nodes) → k ≡ n + size e → Judged g m n e t
  judged_at q k h e =
      record { at = q.at; within = q.within; is = q.is; answer = h ∙ ap (λ j. Some (q.at, drop j nodes)) e }

  by_level : (e : Expression) (m : Level) → may_stand live e ≡ true → ((a : ℕ) → may_stand (under a) e ≡ true)
      → may_stand m e ≡ true
  by_level e live h f = h
  by_level e (under a) h f = f a

  bound_there : (g : List PlacedBinder) (m : Level) (i : ℕ) (s : TypeExpression) (n : ℕ) (e : Expression)
      (t : TypeExpression) → type_of ls i ≡ s
      → Noted p tops (binder_note m s ∷ notes_of ls g) m n e t → Noted p tops (notes_of ls (placed m i ∷ g)) m n e t
  bound_there g m i s n e t h d = subst (λ b. Noted p tops (b ∷ notes_of ls g) m n e t) (sym (note_of-placed ls m i
      ∙ ap (λ r. binder_note m r) h)) d

  pub whole : (g : List PlacedBinder) (m : Level) (n : ℕ) (e : Expression) (t : TypeExpression) → AreWithin ls g
      → Noted p tops (notes_of ls g) m n e t → Judged g m n e t
  whole g m n (num z) t w h =
      let q = places_of ls known nodes h.1 in
      let o = own_there ls nodes m n (num z) _ _ q.1 refl (by_level (num z) m refl (λ a. refl)) q.0.0.fit in
      let a = names-line ls known q.0.0.at int_line q.0.0.within tt (q.0.0.is ∙ h.0) in
      judged_at q.0.0 (n + 1) (rw (o, a) refl) (omega arith)
  whole g m n (truth z) t w h =
      let q = places_of ls known nodes h.1 in
      let o = own_there ls nodes m n (truth z) _ _ q.1 refl (by_level (truth z) m refl (λ a. refl)) q.0.0.fit in
      let a = names-line ls known q.0.0.at bool_line q.0.0.within tt (q.0.0.is ∙ h.0) in
      judged_at q.0.0 (n + 1) (rw (o, a) refl) (omega arith)
  whole g m n (var k) t w h =
      let q = places_of ls known nodes h.1 in
      let o = own_there ls nodes m n (var k) _ _ q.1 refl (by_level (var k) m refl (λ a. refl)) q.0.0.fit in
      let a = same_place g k m q.0.0.at w q.0.0.within (h.0 ∙ ap (λ r. Some (binder_note m r)) (sym q.0.0.is)) in
      judged_at q.0.0 (n + 1) (rw (o, a) refl) (omega arith)
  whole g live n (glob k) t w h =
      let q = places_of ls known nodes h.1 in
      let o = own_there ls nodes live n (glob k) _ _ q.1 refl refl q.0.0.fit in
      let a = usable (slice_get tops k) (type_of ls q.0.0.at) (rw q.0.0.is h.0) in
      judged_at q.0.0 (n + 1) (rw (o, a) refl) (omega arith)
  whole g (under c) n (glob k) t w h = absurd h.0
  whole g m n (fun e) t w h =
      let q = places_of ls known nodes h.3 in
      let s = q.0.1.0 in
      let o = own_there ls nodes m n (fun e) _ _ q.1 refl (by_level (fun e) m refl (λ a. refl))
      (and-true _ _ q.0.0.fit s.fit) in
      let r = whole (placed m s.at ∷ g) m (n + 1) e h.1 (within_placed m s.at g s.within w)
      (bound_there g m s.at h.0 (n + 1) e h.1 s.is h.4) in
      let a = names-line ls known q.0.0.at (arrow_line s.at r.at) q.0.0.within (s.within, r.within)
      (q.0.0.is ∙ h.2 ∙ sym (rw (s.is, r.is) refl)) in
      judged_at q.0.0 (n + 1 + size e) (rw (o, r.answer, a) refl) (omega arith)
  whole g m n (fix e) t w h =
      let q = places_of ls known nodes h.3 in
      let u = q.0.1.0 in
      let s = q.0.1.1.0 in
      let o = own_there ls nodes m n (fix e) _ _ q.1 refl (by_level (fix e) m refl (λ a. refl))
      (and-true _ _ q.0.0.fit (and-true _ _ u.fit s.fit)) in
      let d = subst (λ b. Noted p tops (binder_note m h.0 ∷ b ∷ notes_of ls g) m (n + 1) e h.1)
      (sym (note_of-placed ls m u.at ∙ ap (λ r. binder_note m r) u.is)) h.4 in
      let r = whole (placed m s.at ∷ placed m u.at ∷ g) m (n + 1) e h.1
      (within_placed m s.at (placed m u.at ∷ g) s.within (within_placed m u.at g u.within w))
      (bound_there (placed m u.at ∷ g) m s.at h.0 (n + 1) e h.1 s.is d) in
      let a = names-line ls known q.0.0.at (arrow_line s.at r.at) q.0.0.within (s.within, r.within)
      (q.0.0.is ∙ h.2 ∙ sym (rw (s.is, r.is) refl)) in
      judged_at q.0.0 (n + 1 + size e) (rw (
        o,
        r.answer,
        same u.at q.0.0.at u.within q.0.0.within u.is q.0.0.is,
        a,
      ) refl) (omega arith)
  whole g m n (app f e) t w h =
      let q = places_of ls known nodes h.1 in
      let o = own_there ls nodes m n (app f e) _ _ q.1 refl (by_level (app f e) m refl (λ a. refl)) q.0.0.fit in
      let r = whole g m (n + 1) f (function_ty h.0 t) w h.2 in
      let s = whole g m (n + 1 + size f) e h.0 w h.3 in
      let a = names-line ls known r.at (arrow_line s.at q.0.0.at) r.within (s.within, q.0.0.within)
      (r.is ∙ sym (rw (s.is, q.0.0.is) refl)) in
      judged_at q.0.0 (n + 1 + size f + size e) (rw (o, r.answer, s.answer, a) refl) (omega arith)
  whole g m n (bind d e) t w h =
      let q = places_of ls known nodes h.1 in
      let b = q.0.1.0 in
      let o = own_there ls nodes m n (bind d e) _ _ q.1 refl (by_level (bind d e) m refl (λ a. refl))
      (and-true _ _ q.0.0.fit b.fit) in
      let r = whole g m (n + 1) d h.0 w h.2 in
      let s = whole (placed m b.at ∷ g) m (n + 1 + size d) e t (within_placed m b.at g b.within w)
      (bound_there g m b.at h.0 (n + 1 + size d) e t b.is h.3) in
      judged_at q.0.0 (n + 1 + size d + size e) (rw (
        o,
        r.answer,
        s.answer,
        same r.at b.at r.within b.within r.is b.is,
        same s.at q.0.0.at s.within q.0.0.within s.is q.0.0.is,
      ) refl) (omega arith)
  whole g m n (cond c d e) t w h =
      let q = places_of ls known nodes h.0 in
      let o = own_there ls nodes m n (cond c d e) _ _ q.1 refl (by_level (cond c d e) m refl (λ a. refl)) q.0.0.fit in
      let r = whole g m (n + 1) c bool_ty w h.1 in
      let s = whole g m (n + 1 + size c) d t w h.2 in
      let u = whole g m (n + 1 + size c + size d) e t w h.3 in
      judged_at q.0.0 (n + 1 + size c + size d + size e) (rw (
        o,
        r.answer,
        s.answer,
        u.answer,
        names-line ls known r.at bool_line r.within tt r.is,
        same s.at q.0.0.at s.within q.0.0.within s.is q.0.0.is,
        same u.at q.0.0.at u.within q.0.0.within u.is q.0.0.is,
      ) refl) (omega arith)
  whole g m n (pair d e) t w h =
      let q = places_of ls known nodes h.3 in
      let o = own_there ls nodes m n (pair d e) _ _ q.1 refl (by_level (pair d e) m refl (λ a. refl)) q.0.0.fit in
      let r = whole g m (n + 1) d h.0 w h.4 in
      let s = whole g m (n + 1 + size d) e h.1 w h.5 in
      let a = names-line ls known q.0.0.at (pair_line r.at s.at) q.0.0.within (r.within, s.within)
      (q.0.0.is ∙ h.2 ∙ sym (rw (r.is, s.is) refl)) in
      judged_at q.0.0 (n + 1 + size d + size e) (rw (o, r.answer, s.answer, a) refl) (omega arith)
  whole g m n (prim k d e) t w h =
      let q = places_of ls known nodes h.1 in
      let o = own_there ls nodes m n (prim k d e) _ _ q.1 refl (by_level (prim k d e) m refl (λ a. refl)) q.0.0.fit in
      let r = whole g m (n + 1) d int_ty w h.2 in
      let s = whole g m (n + 1 + size d) e int_ty w h.3 in
      let o_names = primitive_names ls k in
      judged_at q.0.0 (n + 1 + size d + size e) (rw (
        o,
        r.answer,
        s.answer,
        names-line ls known q.0.0.at (primitive_line k) q.0.0.within o_names.0 (q.0.0.is ∙ h.0 ∙ sym o_names.1),
        names-line ls known r.at int_line r.within tt r.is,
        names-line ls known s.at int_line s.within tt s.is,
      ) refl) (omega arith)
  whole g m n (fst e) t w h =
      let q = places_of ls known nodes h.1 in
      let s = q.0.1.0 in
      let o = own_there ls nodes m n (fst e) _ _ q.1 refl (by_level (fst e) m refl (λ a. refl))
      (and-true _ _ q.0.0.fit s.fit) in
      let r = whole g m (n + 1) e (pair_ty t h.0) w h.2 in
      let a = names-line ls known r.at (pair_line q.0.0.at s.at) r.within (q.0.0.within, s.within)
      (r.is ∙ sym (rw (q.0.0.is, s.is) refl)) in
      judged_at q.0.0 (n + 1 + size e) (rw (o, r.answer, a) refl) (omega arith)
  whole g m n (snd e) t w h =
      let q = places_of ls known nodes h.1 in
      let s = q.0.1.0 in
      let o = own_there ls nodes m n (snd e) _ _ q.1 refl (by_level (snd e) m refl (λ a. refl))
      (and-true _ _ q.0.0.fit s.fit) in
      let r = whole g m (n + 1) e (pair_ty h.0 t) w h.2 in
      let a = names-line ls known r.at (pair_line s.at q.0.0.at) r.within (s.within, q.0.0.within)
      (r.is ∙ sym (rw (s.is, q.0.0.is) refl)) in
      judged_at q.0.0 (n + 1 + size e) (rw (o, r.answer, a) refl) (omega arith)
  whole g live n (bracket e) t w h =
      let q = places_of ls known nodes h.3 in
      let o = own_there ls nodes live n (bracket e) _ _ q.1 refl refl q.0.0.fit in
      let r = whole g (under h.0) (n + 1) e h.1 w h.4 in
      let a = names-line ls known q.0.0.at (code_line h.0 r.at) q.0.0.within r.within
      (q.0.0.is ∙ h.2 ∙ sym (rw r.is refl)) in
      judged_at q.0.0 (n + 1 + size e) (rw (o, r.answer, a) refl) (omega arith)
  whole g (under c) n (escape e) t w h =
      let q = places_of ls known nodes h.0 in
      let o = own_there ls nodes (under c) n (escape e) _ _ q.1 refl refl q.0.0.fit in
      let r = whole g live (n + 1) e (code_ty c t) w h.1 in
      let a = names-line ls known r.at (code_line c q.0.0.at) r.within q.0.0.within
      (r.is ∙ sym (rw q.0.0.is refl)) in
      judged_at q.0.0 (n + 1 + size e) (rw (o, r.answer, a) refl) (omega arith)
  whole g live n (run k e) t w h =
      let q = places_of ls known nodes h.1 in
      let o = own_there ls nodes live n (run k e) _ _ q.1 refl refl q.0.0.fit in
      let r = whole g live (n + 1) e (closed_ty t) w h.2 in
      let s : same_type (type_of ls q.0.0.at) (kernel_expression k) ≡ true =
      rw (q.0.0.is ∙ h.0) (same_type-refl (kernel_expression k)) in
      let a = names-line ls known r.at (closed_line q.0.0.at) r.within q.0.0.within
      (r.is ∙ sym (rw q.0.0.is refl)) in
      judged_at q.0.0 (n + 1 + size e) (rw (o, r.answer, s, a) refl) (omega arith)
  whole g live n (close at e) t w h =
      let q = places_of ls known nodes h.4 in
      let s = q.0.1.0 in
      let o = own_there ls nodes live n (close at e) _ _ q.1 refl refl (and-true _ _ q.0.0.fit s.fit) in
      let r = whole g live (n + 1) e (code_ty h.0 h.1) w h.5 in
      let a = names-line ls known q.0.0.at (closed_line s.at) q.0.0.within s.within
      (q.0.0.is ∙ h.2 ∙ sym (rw s.is refl)) in
      let f = names-line ls known r.at (code_line h.0 s.at) r.within s.within (r.is ∙ sym (rw s.is refl)) in
      judged_at q.0.0 (n + 1 + size e) (rw (o, r.answer, a, absent h.0 g h.3, f) refl) (omega arith)
  whole g live n (opened e) t w h =
      let q = places_of ls known nodes h.3 in
      let s = q.0.1.0 in
      let o = own_there ls nodes live n (opened e) _ _ q.1 refl refl (and-true _ _ q.0.0.fit s.fit) in
      let r = whole g live (n + 1) e (closed_ty h.1) w h.4 in
      let a = names-line ls known q.0.0.at (code_line h.0 s.at) q.0.0.within s.within
      (q.0.0.is ∙ h.2 ∙ sym (rw s.is refl)) in
      let f = names-line ls known r.at (closed_line s.at) r.within s.within (r.is ∙ sym (rw s.is refl)) in
      judged_at q.0.0 (n + 1 + size e) (rw (o, r.answer, a, f) refl) (omega arith)
  whole g live n (lift e) t w h =
      let q = places_of ls known nodes h.0.2 in
      let o = own_there ls nodes live n (lift e) _ _ q.1 refl refl q.0.0.fit in
      let r = whole g live (n + 1) e int_ty w h.1 in
      let a = has_lift q.0.0.at h.0.0 int_line q.0.0.within tt (q.0.0.is ∙ h.0.1) in
      let f = names-line ls known r.at int_line r.within tt r.is in
      judged_at q.0.0 (n + 1 + size e) (rw (o, r.answer, a, f) refl) (omega arith)
  whole g live n (lift_b e) t w h =
      let q = places_of ls known nodes h.0.2 in
      let o = own_there ls nodes live n (lift_b e) _ _ q.1 refl refl q.0.0.fit in
      let r = whole g live (n + 1) e bool_ty w h.1 in
      let a = has_lift q.0.0.at h.0.0 bool_line q.0.0.within tt (q.0.0.is ∙ h.0.1) in
      let f = names-line ls known r.at bool_line r.within tt r.is in
      judged_at q.0.0 (n + 1 + size e) (rw (o, r.answer, a, f) refl) (omega arith)
  whole g m n e t w h = absurd h
