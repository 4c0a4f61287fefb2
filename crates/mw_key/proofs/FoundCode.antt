-- What is found for code: just the code whose words stand there, closed and within the limits.
use Rattle.std.proofs.Common.{◌≡◌, ℕ, zero, suc, ◌+◌, ◌-◌, ◌*◌, ◌<◌, ◌≤◌, List, ◌∷◌, ◌++◌, refl, sym, ◌∙◌, ap, subst}
use Rattle.std.proofs.Common.{arith, Some, None}
use Rattle.std.specs.Prelude.{max}
use Rattle.std.specs.Fmt.{signed_decimal, decimal}
use Rattle.std.proofs.lemmas.List.{append_assoc}
use Rattle.std.proofs.Math.Numerals.{add-one}
use Rattle.mw_term.specs.Terms.{Expression, num, truth, var, fun, fix, app, bind, cond, pair, fst, snd, prim}
use Rattle.mw_term.specs.Terms.{size, depth_of}
use Rattle.mw_term.specs.Closed.{IsCode, ClosedBelow}
use Rattle.mw_term.specs.Limits.{LiteralsFit}
use Rattle.mw_key.specs.declared.form.Form.{Form}
use Rattle.mw_key.specs.declared.form.Form.TheVariants.{Int, Bool as Truth, Var, WithOne, WithTwo, If}
use Rattle.mw_key.specs.declared.form.OnePart.{OnePart}
use Rattle.mw_key.specs.declared.form.OnePart.TheVariants.{Fun, Rec, Fst, Snd}
use Rattle.mw_key.specs.declared.form.TwoParts.{TwoParts}
use Rattle.mw_key.specs.declared.form.TwoParts.TheVariants.{App, Let, Pair, Prim}
use Rattle.mw_key.specs.Forms.{form_of, under_one, under_two, code_of_one, code_of_two}
use Rattle.mw_key.specs.Numbers.{natural_of, integer_of, below}
use Rattle.mw_key.specs.Reading.{Finding, then_find, make, find_form, find_integer, find_variable, code_parts, find_code}
use Rattle.mw_key.proofs.NodeWords.{after_found, made_found, then_at, make_at, word_spelled, word_from, node_spelled}
use Rattle.mw_key.proofs.NodeWords.{node_from}
use Rattle.mw_key.proofs.FormWords.{form_word, form_found, form_from}
use Rattle.mw_key.proofs.NumberWords.{integer_found, integer_from, below_found, below_from}
use Rattle.mw_key.proofs.WordLists.{code_list}
use Rattle.mw_key.proofs.Steps.{code_step}

-- what is found is code of these words and nodes, with what stands after it
pub record IsCodeBefore (d k : ℕ) (ws : List (List ℕ)) (n : ℕ) (c : Expression) (rest : List (List ℕ)) (m : ℕ) : Type 0
  where
    pub words : ws ≡ code_list c ++ rest
    pub nodes : n ≡ size c + m
    pub depth : depth_of c ≤ d
    pub code : IsCode c
    pub closed : ClosedBelow k c
    pub literals : LiteralsFit c

abbrev pub CodeStands : ℕ → ℕ → List (List ℕ) → ℕ → Finding Expression → Type 0
CodeStands d k ws n None = Unit {0}
CodeStands d k ws n (Some found) = IsCodeBefore d k ws n found.0 found.1 found.2

pub code_at : (d k : ℕ) (ws : List (List ℕ)) (n : ℕ) (x : Finding Expression) (c : Expression) (rest : List (List ℕ))
    (m : ℕ) → CodeStands d k ws n x → x ≡ Some (c, rest, m) → IsCodeBefore d k ws n c rest m
code_at d k ws n x c rest m s e = subst (CodeStands d k ws n) e s

-- code of a form and its part, whose part stands under the form's binders
record IsOfOne (f : OnePart) (k : ℕ) (a : Expression) : Type 0 where
  words : code_list (code_of_one f a) ≡ form_word (WithOne f) ∷ code_list a
  nodes : size (code_of_one f a) ≡ size a + 1
  depth : depth_of (code_of_one f a) ≡ depth_of a + 1
  code : IsCode a → IsCode (code_of_one f a)
  closed : ClosedBelow (under_one f k) a → ClosedBelow k (code_of_one f a)
  literals : LiteralsFit a → LiteralsFit (code_of_one f a)

one_is : (f : OnePart) (k : ℕ) (a : Expression) → IsOfOne f k a
one_is Fun k a = let one = subst (λ j. ClosedBelow j a) (add-one k) in
    record { words = refl; nodes = refl; depth = refl; code = λ x. x; closed = one; literals = λ x. x }
one_is Rec k a =
    let two : k + 2 ≡ suc (suc k) = omega arith in
    let both = subst (λ j. ClosedBelow j a) two in
    record { words = refl; nodes = refl; depth = refl; code = λ x. x; closed = both; literals = λ x. x }
one_is Fst k a = record { words = refl; nodes = refl; depth = refl; code = λ x. x; closed = λ x. x; literals = λ x. x }
one_is Snd k a = record { words = refl; nodes = refl; depth = refl; code = λ x. x; closed = λ x. x; literals = λ x. x }

-- code of a form and its two parts, whose second part stands under the form's binders
record IsOfTwo (f : TwoParts) (k : ℕ) (a b : Expression) : Type 0 where
  words : code_list (code_of_two f a b) ≡ form_word (WithTwo f) ∷ (code_list a ++ code_list b)
  nodes : size (code_of_two f a b) ≡ size a + size b + 1
  depth : depth_of (code_of_two f a b) ≡ max (depth_of a) (depth_of b) + 1
  code : IsCode a × IsCode b → IsCode (code_of_two f a b)
  closed : ClosedBelow k a × ClosedBelow (under_two f k) b → ClosedBelow k (code_of_two f a b)
  literals : LiteralsFit a × LiteralsFit b → LiteralsFit (code_of_two f a b)

two_is : (f : TwoParts) (k : ℕ) (a b : Expression) → IsOfTwo f k a b
two_is App k a b =
    record { words = refl; nodes = refl; depth = refl; code = λ x. x; closed = λ x. x; literals = λ x. x }
two_is Let k a b = let one = subst (λ j. ClosedBelow j b) (add-one k) in
    record { words = refl; nodes = refl; depth = refl; code = λ x. x; closed = λ x. (x.0, one x.1); literals = λ x. x }
two_is Pair k a b =
    record { words = refl; nodes = refl; depth = refl; code = λ x. x; closed = λ x. x; literals = λ x. x }
two_is (Prim o) k a b =
    record { words = refl; nodes = refl; depth = refl; code = λ x. x; closed = λ x. x; literals = λ x. x }

three_joined : (x y z rest : List (List ℕ)) → x ++ (y ++ (z ++ rest)) ≡ x ++ (y ++ z) ++ rest
three_joined x y z rest = ap (λ v. x ++ v) (sym (append_assoc y z rest)) ∙ sym (append_assoc x (y ++ z) rest)

-- code after its first word, where its parts are found as they stand
module _ (d : ℕ) (part : ℕ → List (List ℕ) → ℕ → Finding Expression) (holds : (k : ℕ) (ws : List (List ℕ)) (n : ℕ)
    → CodeStands d k ws n (part k ws n)) where
  part_at : (k : ℕ) (ws : List (List ℕ)) (n : ℕ) (c : Expression) (rest : List (List ℕ)) (m : ℕ) → part k ws n
      ≡ Some (c, rest, m) → IsCodeBefore d k ws n c rest m
  part_at k ws n c rest m e = code_at d k ws n (part k ws n) c rest m (holds k ws n) e

  parts_stand : (f : Form) (k : ℕ) (ws vs : List (List ℕ)) (n l : ℕ) → ws ≡ form_word f ∷ vs → n ≡ suc l
      → CodeStands (suc d) k ws n (code_parts part f k vs l)
  parts_stand Int k ws vs n l e g =
      let P : Finding Expression → Type 0 = λ x. CodeStands (suc d) k ws n x in
      made_found P num (find_integer vs l) tt λ z rest m h.
      let word = word_spelled integer_of vs l z rest m h in
      let spelling = integer_found word.0.word z word.0.spells in
      let same = word.1 in
      record {
        words = e ∙ ap (λ x. form_word Int ∷ x) (word.0.words ∙ ap (λ w. w ∷ rest) spelling.0);
        nodes = omega arith;
        depth = omega arith;
        code = tt;
        closed = tt;
        literals = spelling.1;
      }
  parts_stand (Truth b) k ws vs n l e g =
      record { words = e; nodes = omega arith; depth = omega arith; code = tt; closed = tt; literals = tt }
  parts_stand Var k ws vs n l e g =
      let P : Finding Expression → Type 0 = λ x. CodeStands (suc d) k ws n x in
      made_found P var (find_variable k vs l) tt λ i rest m h.
      let word = word_spelled (λ w. below k (natural_of w)) vs l i rest m h in
      let spelling = below_found k word.0.word i word.0.spells in
      let same = word.1 in
      record {
        words = e ∙ ap (λ x. form_word Var ∷ x) (word.0.words ∙ ap (λ w. w ∷ rest) spelling.0);
        nodes = omega arith;
        depth = omega arith;
        code = tt;
        closed = spelling.1;
        literals = tt;
      }
  parts_stand (WithOne f) k ws vs n l e g =
      let P : Finding Expression → Type 0 = λ x. CodeStands (suc d) k ws n x in
      made_found P (code_of_one f) (part (under_one f k) vs l) tt λ a rest m h.
      let p = part_at (under_one f k) vs l a rest m h in
      let c = one_is f k a in
      let count = p.nodes in
      let counted = c.nodes in
      let deep = p.depth in
      let deeper = c.depth in
      record {
        words = e ∙ (ap (λ x. form_word (WithOne f) ∷ x) p.words ∙ ap (λ x. x ++ rest) (sym c.words));
        nodes = omega arith;
        depth = omega arith;
        code = c.code p.code;
        closed = c.closed p.closed;
        literals = c.literals p.literals;
      }
  parts_stand (WithTwo f) k ws vs n l e g =
      let P : Finding Expression → Type 0 = λ x. CodeStands (suc d) k ws n x in
      after_found P (part k vs l) _ tt λ a us m h.
      made_found P (code_of_two f a) (part (under_two f k) us m) tt λ b rest o i.
      let p = part_at k vs l a us m h in
      let q = part_at (under_two f k) us m b rest o i in
      let c = two_is f k a b in
      let count = p.nodes in
      let further = q.nodes in
      let counted = c.nodes in
      let deep = p.depth in
      let deeper = q.depth in
      let deepest = c.depth in
      record {
        words = e ∙ (ap (λ x. form_word (WithTwo f) ∷ x) (p.words ∙ ap (λ x. code_list a ++ x) q.words
            ∙ sym (append_assoc (code_list a) (code_list b) rest)) ∙ ap (λ x. x ++ rest) (sym c.words));
        nodes = omega arith;
        depth = omega arith;
        code = c.code (p.code, q.code);
        closed = c.closed (p.closed, q.closed);
        literals = c.literals (p.literals, q.literals);
      }
  parts_stand If k ws vs n l e g =
      let P : Finding Expression → Type 0 = λ x. CodeStands (suc d) k ws n x in
      after_found P (part k vs l) _ tt λ c us m h. after_found P (part k us m) _ tt λ a ts j i.
      made_found P (cond c a) (part k ts j) tt λ b rest o u.
      let p = part_at k vs l c us m h in
      let q = part_at k us m a ts j i in
      let r = part_at k ts j b rest o u in
      let count = p.nodes in
      let further = q.nodes in
      let last = r.nodes in
      let deep = p.depth in
      let deeper = q.depth in
      let deepest = r.depth in
      let parts : vs ≡ code_list c ++ (code_list a ++ (code_list b ++ rest)) = p.words ∙ ap (λ x. code_list c ++ x)
      (q.words ∙ ap (λ x. code_list a ++ x) r.words) in
      record {
        words = e ∙ ap (λ x. form_word If ∷ x) (parts ∙ three_joined (code_list c) (code_list a) (code_list b) rest);
        nodes = omega arith;
        depth = omega arith;
        code = (p.code, q.code, r.code);
        closed = (p.closed, q.closed, r.closed);
        literals = (p.literals, q.literals, r.literals);
      }

-- what is found stands there
pub code_stands : (d k : ℕ) (ws : List (List ℕ)) (n : ℕ) → CodeStands d k ws n (find_code d k ws n)
unfolding find_code
code_stands zero k ws n = tt
code_stands (suc d) k ws n =
    let P : Finding Expression → Type 0 = λ x. CodeStands (suc d) k ws n x in
    after_found P (find_form ws n) _ tt λ f vs l h.
    let first = node_spelled form_of ws n f vs l h in
    parts_stand d (find_code d) (λ k ws n. code_stands d k ws n) f k ws vs n l
    (first.0.words ∙ ap (λ w. w ∷ vs) (form_found first.0.word f first.0.spells)) first.1

-- the first word of code, where it stands there
begins : (f : Form) (d k : ℕ) (ws vs : List (List ℕ)) (n l : ℕ) → 0 < d → ws ≡ form_word f ∷ vs → n ≡ suc l
    → find_code d k ws n ≡ code_parts (find_code (d - 1)) f k vs l
begins f d k ws vs n l p e g =
    code_step d k n ws p
    ∙ ap (λ x. then_find (find_form x n) next) e
    ∙ ap (λ x. then_find (find_form (form_word f ∷ vs) x) next) g
    ∙ then_at next (node_from form_of (form_word f) f vs l (form_from f))
  where
    next : Form → List (List ℕ) → ℕ → Finding Expression
    next form ws n = code_parts (find_code (d - 1)) form k ws n

-- code of a form is found where its part, or its two parts, are
one_from : (f : OnePart) (e : Expression) (d k : ℕ) (rest : List (List ℕ)) (m : ℕ) → 0 < d
    → find_code (d - 1) (under_one f k) (code_list e ++ rest) (size e + m) ≡ Some (e, rest, m)
    → find_code d k (form_word (WithOne f) ∷ (code_list e ++ rest)) (size e + 1 + m) ≡ Some (code_of_one f e, rest, m)
one_from f e d k rest m p part =
    begins (WithOne f) d k _ (code_list e ++ rest) _ (size e + m) p refl (omega arith) ∙ make_at (code_of_one f) part

two_from : (f : TwoParts) (a b : Expression) (d k : ℕ) (rest : List (List ℕ)) (m : ℕ) → 0 < d
    → find_code (d - 1) k (code_list a ++ (code_list b ++ rest)) (size a + (size b + m))
    ≡ Some (a, code_list b ++ rest, size b + m)
    → find_code (d - 1) (under_two f k) (code_list b ++ rest) (size b + m) ≡ Some (b, rest, m)
    → find_code d k (form_word (WithTwo f) ∷ ((code_list a ++ code_list b) ++ rest)) (size a + size b + 1 + m)
    ≡ Some (code_of_two f a b, rest, m)
two_from f a b d k rest m p first second =
    begins (WithTwo f) d k _ (code_list a ++ (code_list b ++ rest)) _ (size a + (size b + m)) p
    (ap (λ x. form_word (WithTwo f) ∷ x) (append_assoc (code_list a) (code_list b) rest)) (omega arith)
    ∙ then_at (λ c ws n. make (code_of_two f c) (find_code (d - 1) (under_two f k) ws n)) first
    ∙ make_at (code_of_two f a) second

-- code whose words stand there is found
pub code_from : (c : Expression) (d k : ℕ) (rest : List (List ℕ)) (m : ℕ) → IsCode c → ClosedBelow k c → LiteralsFit c
    → depth_of c ≤ d → k + 2 * d ≤ 1000
    → find_code d k (code_list c ++ rest) (size c + m) ≡ Some (c, rest, m)
code_from (num z) d k rest m code closed literals deep room =
    begins Int d k (code_list (num z) ++ rest) (signed_decimal z ∷ rest) (1 + m) m (omega arith) refl (omega arith)
    ∙ make_at num (word_from integer_of (signed_decimal z) z rest m (integer_from z literals))
code_from (truth b) d k rest m code closed literals deep room =
    begins (Truth b) d k (code_list (truth b) ++ rest) rest (1 + m) m (omega arith) refl (omega arith)
code_from (var i) d k rest m code closed literals deep room =
    let bound : i < k = closed in
    begins Var d k (code_list (var i) ++ rest) (decimal i ∷ rest) (1 + m) m (omega arith) refl (omega arith)
    ∙ make_at var (word_from (λ w. below k (natural_of w)) (decimal i) i rest m (below_from k i bound (omega arith)))
code_from (fun e) d k rest m code closed literals deep room =
    one_from Fun e d k rest m (omega arith) (code_from e (d - 1) (k + 1) rest m code
    (subst (λ j. ClosedBelow j e) (sym (add-one k)) closed) literals (omega arith) (omega arith))
code_from (fix e) d k rest m code closed literals deep room =
    let two : suc (suc k) ≡ k + 2 = omega arith in
    one_from Rec e d k rest m (omega arith) (code_from e (d - 1) (k + 2) rest m code
    (subst (λ j. ClosedBelow j e) two closed) literals (omega arith) (omega arith))
code_from (app a b) d k rest m code closed literals deep room =
    two_from App a b d k rest m (omega arith)
    (code_from a (d - 1) k (code_list b ++ rest) (size b + m) code.0 closed.0 literals.0 (omega arith) (omega arith))
    (code_from b (d - 1) k rest m code.1 closed.1 literals.1 (omega arith) (omega arith))
code_from (bind a b) d k rest m code closed literals deep room =
    two_from Let a b d k rest m (omega arith)
    (code_from a (d - 1) k (code_list b ++ rest) (size b + m) code.0 closed.0 literals.0 (omega arith) (omega arith))
    (code_from b (d - 1) (k + 1) rest m code.1 (subst (λ j. ClosedBelow j b) (sym (add-one k)) closed.1) literals.1
    (omega arith) (omega arith))
code_from (cond c a b) d k rest m code closed literals deep room =
    let first = code_from c (d - 1) k (code_list a ++ (code_list b ++ rest)) (size a + (size b + m)) code.0 closed.0
    literals.0 (omega arith) (omega arith) in
    let second = code_from a (d - 1) k (code_list b ++ rest) (size b + m) code.1 closed.1 literals.1 (omega arith)
    (omega arith) in
    let third = code_from b (d - 1) k rest m code.2 closed.2 literals.2 (omega arith) (omega arith) in
    begins If d k (code_list (cond c a b) ++ rest) (code_list c ++ (code_list a ++ (code_list b ++ rest)))
    (size (cond c a b) + m) (size c + (size a + (size b + m))) (omega arith)
    (ap (λ x. form_word If ∷ x) (sym (three_joined (code_list c) (code_list a) (code_list b) rest))) (omega arith)
    ∙ then_at (λ c ws n. then_find (find_code (d - 1) k ws n) λ a ws n. make (cond c a) (find_code (d - 1) k ws n))
    first
    ∙ then_at (λ a ws n. make (cond c a) (find_code (d - 1) k ws n)) second
    ∙ make_at (cond c a) third
code_from (pair a b) d k rest m code closed literals deep room =
    two_from Pair a b d k rest m (omega arith)
    (code_from a (d - 1) k (code_list b ++ rest) (size b + m) code.0 closed.0 literals.0 (omega arith) (omega arith))
    (code_from b (d - 1) k rest m code.1 closed.1 literals.1 (omega arith) (omega arith))
code_from (fst e) d k rest m code closed literals deep room = one_from Fst e d k rest m (omega arith)
    (code_from e (d - 1) k rest m code closed literals (omega arith) (omega arith))
code_from (snd e) d k rest m code closed literals deep room = one_from Snd e d k rest m (omega arith)
    (code_from e (d - 1) k rest m code closed literals (omega arith) (omega arith))
code_from (prim o a b) d k rest m code closed literals deep room =
    two_from (Prim o) a b d k rest m (omega arith)
    (code_from a (d - 1) k (code_list b ++ rest) (size b + m) code.0 closed.0 literals.0 (omega arith) (omega arith))
    (code_from b (d - 1) k rest m code.1 closed.1 literals.1 (omega arith) (omega arith))
code_from _ d k rest m code closed literals deep room = absurd code
