-- What the types of a node's line are, where they stand at places of type lines.
use Rattle.std.proofs.Common.{◌≡◌, ℕ, ◌<◌, true, not, List, [], ◌∷◌, ◌++◌, length}
use Rattle.std.proofs.Common.{Some, refl, sym, ap, subst}
use Rattle.std.specs.Prelude.{slice_get, nat_lt, map}
use Rattle.std.proofs.lemmas.Bool.{lt-ltb, ltb-true}
use Rattle.mw_term.specs.Types.{Level, live, under}
use Rattle.mw_types.specs.Types.{TypeExpression}
use Rattle.mw_lines.specs.TypeLines.{TypeLine, HoldsNoCode, AreTypeLines}
use Rattle.mw_lines.specs.Naming.{types_named}
use Rattle.mw_lines.specs.Deciding.{holds_code}
use Rattle.mw_recheck.specs.Notes.{Notes, AllNamed, AllFit, IsNodeLine}
use Rattle.mw_recheck.specs.Judging.{type_of, fits, NodeLine, Form, one_type, two_types, three_types, all_fit}
use Rattle.mw_recheck.specs.Judging.{type_and_classifier, two_types_and_classifier}
use Rattle.mw_lines.proofs.NamedTypes.{and-both, and-true, not-false, code_absent, absent_code}
use Rattle.mw_recheck.proofs.NodeLines.{further, classifiers, numbers_of}
use Rattle.mw_recheck.proofs.Places.{type_there, there_within, type_is}

-- a type fits a level
abbrev pub FitsLevel : Level → TypeExpression → Type 0
FitsLevel live t = Unit {0}
FitsLevel (under a) t = HoldsNoCode t

abbrev pub here : List TypeLine → List (List ℕ) → Notes
here ls nodes = record { types = types_named ls; nodes = nodes }

module _ (ls : List TypeLine) (known : AreTypeLines ls (types_named ls)) where
  fits_there : (m : Level) (i : ℕ) → fits ls m i ≡ true → (i < length ls) × FitsLevel m (type_of ls i)
  fits_there live i h = (ltb-true i (length ls) h, tt)
  fits_there (under a) i h =
      let b = and-both (nat_lt i (length ls)) (not (holds_code (type_of ls i))) h in
      (ltb-true i (length ls) b.0, code_absent (type_of ls i) (not-false (holds_code (type_of ls i)) b.1))

  there_fits : (m : Level) (i : ℕ) → i < length ls → FitsLevel m (type_of ls i) → fits ls m i ≡ true
  there_fits live i p f = lt-ltb i (length ls) p
  there_fits (under a) i p f =
      and-true (nat_lt i (length ls)) (not (holds_code (type_of ls i))) (lt-ltb i (length ls) p)
      (ap not (absent_code (type_of ls i) f))

  -- each place fits the level
  abbrev AreFit : Level → List ℕ → Type 0
  AreFit m [] = Unit {0}
  AreFit m (i ∷ is) = (fits ls m i ≡ true) × AreFit m is

  are_fit : (m : Level) (f : Form) (x : NodeLine) → all_fit ls m f x ≡ true → AreFit m (x.own ∷ further f x)
  are_fit m one_type x h = (h, tt)
  are_fit m two_types x h = let b = and-both _ _ h in (b.0, (b.1, tt))
  are_fit m three_types x h = let b = and-both _ _ h in let c = and-both _ _ b.1 in (b.0, (c.0, (c.1, tt)))
  are_fit m type_and_classifier x h = (h, tt)
  are_fit m two_types_and_classifier x h = let b = and-both _ _ h in (b.0, (b.1, tt))

  pub own_within : (m : Level) (f : Form) (x : NodeLine) → all_fit ls m f x ≡ true → x.own < length ls
  own_within m f x h = (fits_there m x.own (are_fit m f x h).0).0

  -- places name their types
  named_there : (m : Level) (is : List ℕ) → AreFit m is
      → AllNamed (types_named ls) is (map (type_of ls) is) × AllFit m (map (type_of ls) is)
  named_there live [] f = (tt, tt)
  named_there (under a) [] f = (tt, tt)
  named_there live (i ∷ is) f =
      ((type_there ls known i (fits_there live i f.0).0, (named_there live is f.1).0), tt)
  named_there (under a) (i ∷ is) f =
      let p = fits_there (under a) i f.0 in
      let r = named_there (under a) is f.1 in
      ((type_there ls known i p.0, r.0), (p.1, r.1))

  -- a line of places is a line that names their types
  pub node_there : (nodes : List (List ℕ)) (m : Level) (n : ℕ) (f : Form) (x : NodeLine)
      → slice_get nodes n ≡ Some (numbers_of f x) → all_fit ls m f x ≡ true
      → IsNodeLine (here ls nodes) m n (type_of ls x.own ∷ map (type_of ls) (further f x)) (classifiers f x)
  node_there nodes m n f x h g =
      let r = named_there m (x.own ∷ further f x) (are_fit m f x g) in
      record { lines = x.own ∷ further f x; line = h; named = r.0; fit = r.1 }

  -- a place that names a type of a level
  pub record PlaceOf (m : Level) (t : TypeExpression) : Type 0 where
    pub at : ℕ
    pub within : at < length ls
    pub is : type_of ls at ≡ t
    pub fit : fits ls m at ≡ true

  place_of : (m : Level) (t : TypeExpression) (i : ℕ) → slice_get (types_named ls) i ≡ Some t → FitsLevel m t
      → PlaceOf m t
  place_of m t i h f =
      let p = there_within ls known i t h in
      let e = type_is ls known i t h in
      record { at = i; within = p; is = e; fit = there_fits m i p (subst (λ u. FitsLevel m u) (sym e) f) }

  first_fits : (m : Level) (t : TypeExpression) (us : List TypeExpression) → AllFit m (t ∷ us) → FitsLevel m t
  first_fits live t us f = tt
  first_fits (under a) t us f = f.0

  rest_fit : (m : Level) (t : TypeExpression) (us : List TypeExpression) → AllFit m (t ∷ us) → AllFit m us
  rest_fit live t us f = tt
  rest_fit (under a) t us f = f.1

  -- places that name types of a level
  abbrev pub PlacesOf : Level → List TypeExpression → Type 0
  PlacesOf m [] = Unit {0}
  PlacesOf m (t ∷ us) = PlaceOf m t × PlacesOf m us

  abbrev pub places : (m : Level) (us : List TypeExpression) → PlacesOf m us → List ℕ
  places m [] q = []
  places m (t ∷ us) q = q.0.at ∷ places m us q.1

  named_places : (m : Level) (us : List TypeExpression) (is : List ℕ) → AllNamed (types_named ls) is us → AllFit m us
      → (q : PlacesOf m us) × (is ≡ places m us q)
  unfolding place_of
  named_places m [] [] a f = (tt, refl)
  named_places m (t ∷ us) (i ∷ is) a f =
      let r = named_places m us is a.1 (rest_fit m t us f) in
      ((place_of m t i a.0 (first_fits m t us f), r.0), ap (λ l. i ∷ l) r.1)
  named_places m _ _ a f = absurd a

  -- a line that names types is one of their places
  pub places_of : (nodes : List (List ℕ)) {m : Level} {n : ℕ} {us : List TypeExpression} {cs : List ℕ}
      → IsNodeLine (here ls nodes) m n us cs
      → (q : PlacesOf m us) × (slice_get nodes n ≡ Some (places m us q ++ cs))
  places_of nodes {m = m} {us = us} h =
      let q = named_places m us h.lines h.named h.fit in (q.0, rw q.1 at h.line)
