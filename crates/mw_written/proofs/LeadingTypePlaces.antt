-- The lines of a term's nodes begin with as many places of types as they are read to.
use Rattle.std.proofs.Common.{◌≡◌, ℕ, zero, suc, ◌+◌, ◌<◌, List, [], ◌∷◌, ◌++◌, length, drop, Some, refl, sym, ap, ◌∙◌}
use Rattle.std.proofs.Common.{subst, arith, length-append}
use Rattle.std.specs.Prelude.{slice_get}
use Rattle.std.proofs.lemmas.Option.{slice_get_within}
use Rattle.mw_term.specs.Terms.{Expression, num, truth, var, glob, fun, fix, app, bind, cond, pair, fst, snd, prim}
use Rattle.mw_term.specs.Terms.{bracket, escape, run, close, opened, lift, lift_b, done, size}
use Rattle.mw_term.specs.Types.{Level, live, under}
use Rattle.mw_types.specs.Types.{TypeExpression}
use Rattle.mw_recheck.specs.Notes.{Notes, TopNote, BinderNote, AllNamed, IsNodeLine, Noted, binder_note}
use Rattle.mw_recheck.proofs.NodeLines.{drop_head}
use Rattle.mw_written.specs.Readings.{type_counts}

-- a line begins with so many places of these types
abbrev pub NamesFirst : List TypeExpression → ℕ → List ℕ → Type 0
NamesFirst ts zero l = Unit {0}
NamesFirst ts (suc count) [] = ⊥
NamesFirst ts (suc count) (i ∷ l) = (i < length ts) × NamesFirst ts count l

-- lines begin with at least one place each, and with as many as this
abbrev pub AllNameFirst : List TypeExpression → List ℕ → List (List ℕ) → Type 0
AllNameFirst ts [] [] = Unit {0}
AllNameFirst ts [] (l ∷ nodes) = ⊥
AllNameFirst ts (count ∷ counts) [] = ⊥
AllNameFirst ts (count ∷ counts) (l ∷ nodes) = (0 < count) × NamesFirst ts count l × AllNameFirst ts counts nodes

-- the same of the line of a node, and of those from a node on
record BeginsAt (p : Notes) (n count : ℕ) : Type 0 where
  pub line : List ℕ
  pub stands : slice_get p.nodes n ≡ Some line
  pub some : 0 < count
  pub first : NamesFirst p.types count line

abbrev BeginFrom : Notes → ℕ → List ℕ → Type 0
BeginFrom p n [] = Unit {0}
BeginFrom p n (count ∷ counts) = BeginsAt p n count × BeginFrom p (n + 1) counts

named_first : (ts us : List TypeExpression) (places cs : List ℕ) → AllNamed ts places us
    → NamesFirst ts (length us) (places ++ cs)
named_first ts [] [] cs h = tt
named_first ts (t ∷ us) (i ∷ places) cs h = (slice_get_within ts i t h.0, named_first ts us places cs h.1)
named_first ts _ _ cs h = absurd h

begins : (p : Notes) (m : Level) (n : ℕ) (t : TypeExpression) (us : List TypeExpression) (cs : List ℕ)
    → IsNodeLine p m n (t ∷ us) cs → BeginsAt p n (suc (length us))
begins p m n t us cs h = record {
  line = h.lines ++ cs;
  stands = h.line;
  some = omega arith;
  first = named_first p.types (t ∷ us) h.lines cs h.named;
}

begin_append : (p : Notes) (n k : ℕ) (xs bs : List ℕ) → length xs ≡ k → BeginFrom p n xs → BeginFrom p (n + k) bs
    → BeginFrom p n (xs ++ bs)
begin_append p n k [] bs e f g = subst (λ i. BeginFrom p i bs) (omega (arith, e)) g
begin_append p n k (x ∷ xs) bs e f g =
    (f.0, begin_append p (n + 1) (length xs) xs bs refl f.1 (subst (λ i. BeginFrom p i bs) (omega (arith, e)) g))

-- there is a count for each node
counted : (e : Expression) → length (type_counts e) ≡ size e
counted (num z) = refl
counted (truth b) = refl
counted (var i) = refl
counted (glob i) = refl
counted (fun e) = omega (arith, counted e)
counted (fix e) = omega (arith, counted e)
counted (app f a) = omega (arith, length-append {A = ℕ}, counted f, counted a)
counted (bind d e) = omega (arith, length-append {A = ℕ}, counted d, counted e)
counted (cond c a b) = omega (arith, length-append {A = ℕ}, counted c, counted a, counted b)
counted (pair a b) = omega (arith, length-append {A = ℕ}, counted a, counted b)
counted (fst e) = omega (arith, counted e)
counted (snd e) = omega (arith, counted e)
counted (prim o a b) = omega (arith, length-append {A = ℕ}, counted a, counted b)
counted (bracket e) = omega (arith, counted e)
counted (escape e) = omega (arith, counted e)
counted (run k e) = omega (arith, counted e)
counted (close at e) = omega (arith, counted e)
counted (opened e) = omega (arith, counted e)
counted (lift e) = omega (arith, counted e)
counted (lift_b e) = omega (arith, counted e)
counted (done v) = refl

module _ (p : Notes) (tops : List TopNote) where
  two : (n : ℕ) (a b : Expression) → BeginFrom p n (type_counts a) → BeginFrom p (n + size a) (type_counts b)
      → BeginFrom p n (type_counts a ++ type_counts b)
  two n a b f g = begin_append p n (size a) (type_counts a) (type_counts b) (counted a) f g

  begin : (g : List BinderNote) (m : Level) (n : ℕ) (e : Expression) (t : TypeExpression) → Noted p tops g m n e t
      → BeginFrom p n (type_counts e)
  begin g m n (num z) t h = (begins p m n t [] [] h.1, tt)
  begin g m n (truth b) t h = (begins p m n t [] [] h.1, tt)
  begin g m n (var i) t h = (begins p m n t [] [] h.1, tt)
  begin g m n (glob i) t h = (begins p m n t [] [] h.1, tt)
  begin g m n (fun e) t h =
      (begins p m n t (h.0 ∷ []) [] h.3, begin (binder_note m h.0 ∷ g) m (n + 1) e h.1 h.4)
  begin g m n (fix e) t h = (
    begins p m n t (t ∷ h.0 ∷ []) [] h.3,
    begin (binder_note m h.0 ∷ binder_note m t ∷ g) m (n + 1) e h.1 h.4,
  )
  begin g m n (app f a) t h =
      (begins p m n t [] [] h.1, two (n + 1) f a (begin g m (n + 1) f _ h.2) (begin g m (n + 1 + size f) a h.0 h.3))
  begin g m n (bind d e) t h = (
    begins p m n t (h.0 ∷ []) [] h.1,
    two (n + 1) d e (begin g m (n + 1) d h.0 h.2) (begin (binder_note m h.0 ∷ g) m (n + 1 + size d) e t h.3),
  )
  begin g m n (cond c a b) t h = (
    begins p m n t [] [] h.0,
    begin_append p (n + 1) (size c) (type_counts c) (type_counts a ++ type_counts b) (counted c)
        (begin g m (n + 1) c _ h.1)
        (two (n + 1 + size c) a b (begin g m (n + 1 + size c) a t h.2)
        (begin g m (n + 1 + size c + size a) b t h.3)),
  )
  begin g m n (pair a b) t h = (
    begins p m n t [] [] h.3,
    two (n + 1) a b (begin g m (n + 1) a h.0 h.4) (begin g m (n + 1 + size a) b h.1 h.5),
  )
  begin g m n (fst e) t h = (begins p m n t (h.0 ∷ []) [] h.1, begin g m (n + 1) e _ h.2)
  begin g m n (snd e) t h = (begins p m n t (h.0 ∷ []) [] h.1, begin g m (n + 1) e _ h.2)
  begin g m n (prim o a b) t h = (
    begins p m n t [] [] h.1,
    two (n + 1) a b (begin g m (n + 1) a _ h.2) (begin g m (n + 1 + size a) b _ h.3),
  )
  begin g live n (bracket e) t h =
      (begins p live n t [] (h.0 ∷ []) h.3, begin g (under h.0) (n + 1) e h.1 h.4)
  begin g (under a) n (escape e) t h = (begins p (under a) n t [] [] h.0, begin g live (n + 1) e _ h.1)
  begin g live n (run k e) t h = (begins p live n t [] [] h.1, begin g live (n + 1) e _ h.2)
  begin g live n (close at e) t h =
      (begins p live n t (h.1 ∷ []) (h.0 ∷ []) h.4, begin g live (n + 1) e _ h.5)
  begin g live n (opened e) t h =
      (begins p live n t (h.1 ∷ []) (h.0 ∷ []) h.3, begin g live (n + 1) e _ h.4)
  begin g live n (lift e) t h = (begins p live n t [] (h.0.0 ∷ []) h.0.2, begin g live (n + 1) e _ h.1)
  begin g live n (lift_b e) t h = (begins p live n t [] (h.0.0 ∷ []) h.0.2, begin g live (n + 1) e _ h.1)
  begin g m n e t h = absurd h

all_first : (ts : List TypeExpression) (all : List (List ℕ)) (n : ℕ) (counts : List ℕ) (nodes : List (List ℕ))
    → drop n all ≡ nodes → length nodes ≡ length counts
    → BeginFrom (record { types = ts; nodes = all }) n counts → AllNameFirst ts counts nodes
all_first ts all n [] [] d c f = tt
all_first ts all n (count ∷ counts) (l ∷ nodes) d c f =
    let x = drop_head all n l nodes d in
    let same : f.0.line ≡ l = let y = f.0.stands in let z = x.0 in cc in
    let step : n + 1 ≡ suc n = omega arith in
    let after : drop (n + 1) all ≡ nodes = ap (λ k. drop k all) step ∙ sym x.1 in (
      f.0.some,
      subst (λ k. NamesFirst ts count k) same f.0.first,
      all_first ts all (n + 1) counts nodes after (omega (arith, c)) f.1,
    )
all_first ts all n _ _ d c f = absurd (omega (arith, c))

-- the node lines of a term
pub named_nodes : (ts : List TypeExpression) (nodes : List (List ℕ)) (tops : List TopNote) (e : Expression)
    (t : TypeExpression) → length nodes ≡ size e
    → Noted (record { types = ts; nodes = nodes }) tops [] live 0 e t → AllNameFirst ts (type_counts e) nodes
named_nodes ts nodes tops e t c h =
    all_first ts nodes 0 (type_counts e) nodes refl (c ∙ sym (counted e))
    (begin (record { types = ts; nodes = nodes }) tops [] live 0 e t h)
