-- Node lines as they are taken one after the other, and as they stand at a node.
use Rattle.std.proofs.Common.{◌≡◌, ℕ, zero, suc, ◌+◌, Bool, true, false, ◌&&◌, List, [], ◌∷◌, ◌++◌, drop}
use Rattle.std.proofs.Common.{Option, Some, None, refl, sym, ap, ◌∙◌, subst, arith, if◌then◌else◌}
use Rattle.std.specs.Prelude.{slice_get}
use Rattle.std.proofs.lemmas.Option.{same_Some}
use Rattle.mw_term.specs.Terms.{Expression}
use Rattle.mw_term.specs.Types.{Level}
use Rattle.mw_lines.specs.TypeLines.{TypeLine}
use Rattle.mw_recheck.specs.Judging.{NodeLine, Form, one_type, two_types, three_types, type_and_classifier}
use Rattle.mw_recheck.specs.Judging.{two_types_and_classifier, form_of, line_of_form, all_fit, may_stand, next_node}
use Rattle.mw_recheck.specs.Judging.{own_at}
use Rattle.mw_recheck.specs.Options.{◌>>=◌}
use Rattle.mw_lines.proofs.NamedTypes.{and-both}

-- an answer that goes on
pub bound : {A B : Type 0} (o : Option A) (f : A → Option B) (y : B) → (o >>= f) ≡ Some y
    → (x : A) × (o ≡ Some x) × (f x ≡ Some y)
bound (Some x) f y h = (x, refl, h)
bound None f y h = absurd (cc)

pub bind_some : {A B : Type 0} (o : Option A) (f : A → Option B) (x : A) → o ≡ Some x → (o >>= f) ≡ f x
bind_some o f x h = rw h refl

-- What goes on is the same, and what goes on twice goes on once.
pub same_after : {A B : Type 0} (o : Option A) (f g : A → Option B) → ((x : A) → f x ≡ g x) → (o >>= f) ≡ (o >>= g)
same_after (Some x) f g h = h x
same_after None f g h = refl

pub one_after : {A B C : Type 0} (o : Option A) (f : A → Option B) (g : B → Option C)
    → (o >>= λ x. (f x >>= g)) ≡ ((o >>= f) >>= g)
one_after (Some x) f g = refl
one_after None f g = refl

-- a test that is passed, and either way of it
pub passed : {A : Type 0} (b : Bool) (o : Option A) (y : A) → (if b then o else None) ≡ Some y
    → (b ≡ true) × (o ≡ Some y)
passed true o y h = (refl, h)
passed false o y h = absurd (cc)

pub by_test : {A C : Type 0} (b : Bool) (o p : Option A) (y : A) → (if b then o else p) ≡ Some y
    → (b ≡ true → o ≡ Some y → C) → (b ≡ false → p ≡ Some y → C) → C
by_test true o p y h first second = first refl h
by_test false o p y h first second = second refl h

pub chosen : {A : Type 0} (b : Bool) (x y : A) → (if b then Some x else None) ≡ Some y → (b ≡ true) × (x ≡ y)
chosen b x y h = let c = passed b (Some x) y h in (c.0, same_Some x y c.1)

-- the element at a place, and the list from there on
pub drop_head : {A : Type 0} (xs : List A) (n : ℕ) (x : A) (rest : List A) → drop n xs ≡ x ∷ rest
    → (slice_get xs n ≡ Some x) × (rest ≡ drop (suc n) xs)
drop_head [] zero x rest h = absurd (cc)
drop_head [] (suc n) x rest h = absurd (cc)
drop_head (y ∷ xs) zero x rest h = (let e = h in cc, let e = h in cc)
drop_head (y ∷ xs) (suc n) x rest h = drop_head xs n x rest h

pub drop_get : {A : Type 0} (xs : List A) (n : ℕ) (x : A) → slice_get xs n ≡ Some x → drop n xs ≡ x ∷ drop (suc n) xs
drop_get [] n x h = absurd (cc)
drop_get (y ∷ xs) zero x h = let p : y ≡ x = cc in rw p refl
drop_get (y ∷ xs) (suc n) x h = drop_get xs n x h

-- the types that a line names after the node's own, its classifiers, and all its numbers
abbrev pub further : Form → NodeLine → List ℕ
further two_types x = x.second ∷ []
further three_types x = x.second ∷ x.third ∷ []
further two_types_and_classifier x = x.second ∷ []
further _ x = []

abbrev pub classifiers : Form → NodeLine → List ℕ
classifiers type_and_classifier x = x.second ∷ []
classifiers two_types_and_classifier x = x.third ∷ []
classifiers _ x = []

abbrev pub numbers_of : Form → NodeLine → List ℕ
numbers_of f x = x.own ∷ (further f x ++ classifiers f x)

pub numbers_there : (f : Form) (l : List ℕ) (x : NodeLine) → line_of_form f l ≡ Some x → l ≡ numbers_of f x
numbers_there one_type (t ∷ []) x h = let e : record { own = t; second = 0; third = 0 } ≡ x = cc in rw (sym e) refl
numbers_there two_types (t ∷ s ∷ []) x h =
    let e : record { own = t; second = s; third = 0 } ≡ x = cc in rw (sym e) refl
numbers_there three_types (t ∷ s ∷ r ∷ []) x h =
    let e : record { own = t; second = s; third = r } ≡ x = cc in rw (sym e) refl
numbers_there type_and_classifier (t ∷ c ∷ []) x h =
    let e : record { own = t; second = c; third = 0 } ≡ x = cc in rw (sym e) refl
numbers_there two_types_and_classifier (t ∷ s ∷ c ∷ []) x h =
    let e : record { own = t; second = s; third = c } ≡ x = cc in rw (sym e) refl
numbers_there _ _ x h = absurd (cc)

next : (n : ℕ) → suc n ≡ n + 1
next n = omega arith

-- the line at a node of a term, taken
pub record Own (ls : List TypeLine) (nodes : List (List ℕ)) (m : Level) (n : ℕ) (e : Expression) (x : NodeLine)
    (rest : List (List ℕ)) : Type 0 where
  pub line : slice_get nodes n ≡ Some (numbers_of (form_of e) x)
  pub after : rest ≡ drop (n + 1) nodes
  pub stands : may_stand m e ≡ true
  pub fit : all_fit ls m (form_of e) x ≡ true

pub own_taken : (ls : List TypeLine) (nodes : List (List ℕ)) (m : Level) (n : ℕ) (e : Expression) (x : NodeLine
    × List (List ℕ)) → own_at ls m e (drop n nodes) ≡ Some x
    → Own ls nodes m n e x.0 x.1
own_taken ls nodes m n e x h = at_nodes (drop n nodes) refl h
  where
    at_nodes : (ns : List (List ℕ)) → drop n nodes ≡ ns → own_at ls m e ns ≡ Some x → Own ls nodes m n e x.0 x.1
    at_nodes [] d h = absurd (cc)
    at_nodes (l ∷ ns) d h =
        let y = bound (next_node (form_of e) (l ∷ ns)) _ x h in
        let z = bound (line_of_form (form_of e) l) _ y.0 y.1 in
        let c = chosen (may_stand m e && all_fit ls m (form_of e) y.0.0) y.0 x y.2 in
        let w : (z.0, ns) ≡ y.0 = let e = z.2 in cc in
        let at = drop_head nodes n l ns d in
        let same : z.0 ≡ x.0 = ap (λ p. p.0) (w ∙ c.1) in
        let after : ns ≡ x.1 = ap (λ p. p.1) (w ∙ c.1) in
        let b = and-both (may_stand m e) (all_fit ls m (form_of e) y.0.0) c.0 in
        record {
          line = at.0 ∙ ap (λ k. Some k) (numbers_there (form_of e) l z.0 z.1
              ∙ ap (λ k. numbers_of (form_of e) k) same);
          after = sym after ∙ at.1 ∙ ap (λ k. drop k nodes) (next n);
          stands = b.0;
          fit = subst (λ k. all_fit ls m (form_of e) k ≡ true) (ap (λ p. p.0) c.1) b.1;
        }

pub own_there : (ls : List TypeLine) (nodes : List (List ℕ)) (m : Level) (n : ℕ) (e : Expression) (l : List ℕ)
    (x : NodeLine) → slice_get nodes n ≡ Some l → line_of_form (form_of e) l ≡ Some x
    → may_stand m e ≡ true → all_fit ls m (form_of e) x ≡ true
    → own_at ls m e (drop n nodes) ≡ Some (x, drop (n + 1) nodes)
own_there ls nodes m n e l x h k s f =
    rw (drop_get nodes n l h ∙ ap (λ k. l ∷ drop k nodes) (next n), k, s, f) refl
