-- Assignments that go on where others end, and what they make of the parts of a term one after another.
use Rattle.std.proofs.Common.{◌≡◌, ℕ, zero, suc, ◌+◌, ◌≤◌, ◌<◌, List, [], ◌∷◌, ◌++◌, map, refl, ap, sym, ◌∙◌, arith}
use Rattle.mw_term.specs.Types.{TermType, Level, live, under, Entry, entry}
use Rattle.mw_types.specs.Types.{Assignment}
use Rattle.mw_types.specs.Equations.{TypeEquation, AllWithin, Solves, Agree}
use Rattle.mw_infer.specs.ItemEquations.{Slot, slot, Close}
use Rattle.mw_infer.specs.Inferring.{entry_of, AreFresh}
use Rattle.mw_types.proofs.Expressions.{level_of}
use Rattle.mw_infer.specs.Below.{SlotsBelow, LevelBelow, ClosesBelow}
use Rattle.mw_types.proofs.Answering.{solves_agree}
use Rattle.mw_infer.proofs.Within.{entries-agree, AreFresh-agree, level_of-agree, AllWithin-append, ClosesBelow-append}
use Rattle.mw_infer.proofs.Within.{AllWithin-more, SlotsBelow-more, ClosesBelow-more, LevelBelow-more, SlotBelow-slot}

-- f below a number, and h from it on
abbrev pub upto : {A : Type 0} → ℕ → (ℕ → A) → (ℕ → A) → ℕ → A
upto zero f h u = h u
upto (suc o) f h zero = f zero
upto (suc o) f h (suc u) = upto o (λ v. f (suc v)) h u

upto-below : {A : Type 0} (o : ℕ) (f h : ℕ → A) (u : ℕ) → u < o → f u ≡ upto o f h u
upto-below zero f h u lt = absurd (omega arith)
upto-below (suc o) f h zero lt = refl
upto-below (suc o) f h (suc u) lt = upto-below o (λ v. f (suc v)) h u (omega arith)

upto-from : {A : Type 0} (o : ℕ) (f h : ℕ → A) (u : ℕ) → upto o f h (o + u) ≡ h u
upto-from zero f h u = rw (let e : zero + u ≡ u = omega arith in e) refl
upto-from (suc o) f h u = let e : suc o + u ≡ suc (o + u) = omega arith in rw e (upto-from o (λ v. f (suc v)) h u)

-- an assignment that goes on, from these numbers, as another begins
pub extended : Assignment → ℕ → ℕ → Assignment → Assignment
extended a o c d = record { ty = upto o a.ty d.ty; classifier = upto c a.classifier d.classifier }

pub extended-keeps : (a : Assignment) (o c : ℕ) (d : Assignment) → Agree o c a (extended a o c d)
unfolding extended
extended-keeps a o c d =
    record {
      types = λ u lt. upto-below o a.ty d.ty u lt;
      classifiers = λ k lt. upto-below c a.classifier d.classifier k
          lt;
    }

pub extended-ty : (a : Assignment) (o c : ℕ) (d : Assignment) (u : ℕ) → (extended a o c d).ty (o + u) ≡ d.ty u
unfolding extended
extended-ty a o c d u = upto-from o a.ty d.ty u

pub extended-classifier : (a : Assignment) (o c : ℕ) (d : Assignment) (k : ℕ) → (extended a o c d).classifier (c + k)
    ≡ d.classifier k
unfolding extended
extended-classifier a o c d k = upto-from c a.classifier d.classifier k

-- an assignment that begins with three types and a classifier
abbrev three_types : TermType → TermType → TermType → ℕ → TermType
three_types s t r zero = s
three_types s t r (suc zero) = t
three_types s t r (suc (suc u)) = r

-- an assignment that goes on with them
pub started : Assignment → ℕ → ℕ → TermType → TermType → TermType → ℕ → Assignment
started a o c s t r k = extended a o c (record { ty = three_types s t r; classifier = λ i. k })

pub record Starts (a b : Assignment) (o c : ℕ) (s t r : TermType) (k : ℕ) : Type 0 where
  pub keeps : Agree o c a b
  pub first : b.ty o ≡ s
  pub second : b.ty (o + 1) ≡ t
  pub third : b.ty (o + 2) ≡ r
  pub label : b.classifier c ≡ k

pub started-starts : (a : Assignment) (o c : ℕ) (s t r : TermType) (k : ℕ) → Starts a (started a o c s t r k) o c s t r
    k
unfolding started
started-starts a o c s t r k =
    let d : Assignment = record { ty = three_types s t r; classifier = λ i. k } in
    record {
      keeps = extended-keeps a o c d;
      first = rw (let e : o + 0 ≡ o = omega arith in e) at (extended-ty a o c d 0);
      second = extended-ty a o c d 1;
      third = extended-ty a o c d 2;
      label = rw (let e : c + 0 ≡ c = omega arith in e) at (extended-classifier a o c d 0);
    }

pub Agree-join : {n m : ℕ} {a b d : Assignment} → Agree n m a b → Agree n m b d → Agree n m a d
Agree-join p q = record {
  types = λ u lt. p.types u lt ∙ q.types u lt;
  classifiers = λ c lt. p.classifiers c lt
      ∙ q.classifiers c lt;
}

pub Agree-less : {k l : ℕ} {a b : Assignment} (n m : ℕ) → n ≤ k → m ≤ l → Agree k l a b → Agree n m a b
Agree-less n m p q h =
    record { types = λ u lt. h.types u (omega arith); classifiers = λ c lt. h.classifiers c (omega arith) }

-- Before a term: its type's unknown has the type t, and the assignment makes h and l of its environment and level.
pub record Ready (a : Assignment) (u o c : ℕ) (g : List Slot) (m : Level) (h : List Entry) (l : Level)
    (t : TermType) : Type 0 where
  pub own : u < o
  pub gives : a.ty u ≡ t
  pub slots : SlotsBelow o c g
  pub level : LevelBelow c m
  pub env : map (entry_of a) g ≡ h
  pub at : level_of a m ≡ l

-- After it: an assignment that keeps what was there, solves the term's equations and keeps its closes fresh, which name
-- the numbers below p and d.
pub record Grown (a : Assignment) (o c p d : ℕ) (es : List TypeEquation) (xs : List Close) : Type 0 where
  pub by : Assignment
  pub keeps : Agree o c a by
  pub solves : Solves by es
  pub fresh : AreFresh by xs
  pub unknowns : o ≤ p
  pub classifiers : c ≤ d
  pub within : AllWithin p d es
  pub below : ClosesBelow p d xs

pub Solves-append : (a : Assignment) (es fs : List TypeEquation) → Solves a es → Solves a fs → Solves a (es ++ fs)
Solves-append a [] fs p q = q
Solves-append a (e ∷ es) fs p q = (p.0, Solves-append a es fs p.1 q)

pub AreFresh-append : (a : Assignment) (xs ys : List Close) → AreFresh a xs → AreFresh a ys → AreFresh a (xs ++ ys)
AreFresh-append a [] ys p q = q
AreFresh-append a (x ∷ xs) ys p q = (p.0, AreFresh-append a xs ys p.1 q)

-- a term after what stands before it
abbrev pub then : {a : Assignment} {o c p d q f : ℕ} {es fs : List TypeEquation} {xs ys : List Close}
    → (one : Grown a o c p d es xs) → Grown one.by p d q f fs ys → Grown a o c q f (es ++ fs) (xs ++ ys)
then {o = o} {c = c} {es = es} {fs = fs} {xs = xs} {ys = ys} one two = record {
  by = two.by;
  keeps = Agree-join one.keeps (Agree-less o c one.unknowns one.classifiers two.keeps);
  solves = Solves-append two.by es fs (solves_agree two.keeps es one.within one.solves) two.solves;
  fresh = AreFresh-append two.by xs ys (AreFresh-agree two.keeps xs one.below one.fresh) two.fresh;
  unknowns = let i = one.unknowns in let j = two.unknowns in omega arith;
  classifiers = let i = one.classifiers in let j = two.classifiers in omega arith;
  within = AllWithin-append _ _ es fs (AllWithin-more two.unknowns two.classifiers es one.within) two.within;
  below = ClosesBelow-append _ _ xs ys (ClosesBelow-more two.unknowns two.classifiers xs one.below) two.below;
}

-- what stands first in a term: it goes on from a by b
pub record Own (a b : Assignment) (o c p d : ℕ) (es : List TypeEquation) (xs : List Close) : Type 0 where
  pub unknowns : o ≤ p
  pub classifiers : c ≤ d
  pub keeps : Agree o c a b
  pub within : AllWithin p d es
  pub below : ClosesBelow p d xs
  pub solves : Solves b es
  pub fresh : AreFresh b xs

-- a form's own equations, which speak of the types and the classifier that an assignment goes on with; it has no close
-- of its own
pub Own-started : {a b : Assignment} {o c : ℕ} {s t r : TermType} {k : ℕ} (es : List TypeEquation) (p d : ℕ) → o ≤ p
    → c ≤ d → Starts a b o c s t r k → AllWithin p d es → Solves b es → Own a b o c p d es []
Own-started es p d i j z w h = record {
  unknowns = i;
  classifiers = j;
  keeps = z.keeps;
  within = w;
  below = tt;
  solves =
      h;
  fresh = tt;
}

-- what stands first alone, as a term with no part
abbrev pub alone : {a b : Assignment} {o c p d : ℕ} {es : List TypeEquation} {xs : List Close}
    → Own a b o c p d es xs → Grown a o c p d es xs
alone {b = b} h = record {
  by = b;
  keeps = h.keeps;
  solves = h.solves;
  fresh = h.fresh;
  unknowns = h.unknowns;
  classifiers = h.classifiers;
  within = h.within;
  below = h.below;
}

-- a term after what stands first
pub first : {a b : Assignment} {o c p d q f : ℕ} {es fs : List TypeEquation} {xs ys : List Close}
    → Own a b o c p d es xs → Grown b p d q f fs ys → Grown a o c q f (es ++ fs) (xs ++ ys)
first one two = then (alone one) two

-- the same ends, counted otherwise
pub ending : {a : Assignment} {o c p d q f : ℕ} {es : List TypeEquation} {xs : List Close} → p ≡ q → d ≡ f
    → Grown a o c p d es xs → Grown a o c q f es xs
ending i j h = rw (i, j) at h

-- a part at the same level, in the same environment
pub Ready-part : {a b : Assignment} {u o c : ℕ} {g : List Slot} {m : Level} {h : List Entry} {l : Level}
    {t s : TermType} (v p d : ℕ) → o ≤ p → c ≤ d → v < p → Agree o c a b → b.ty v ≡ s → Ready a u o c g m h l t
    → Ready b v p d g m h l s
Ready-part {g = g} {m = m} v p d i j lt k e r = record {
  own = lt;
  gives = e;
  slots = SlotsBelow-more i j g r.slots;
  level = LevelBelow-more j m r.level;
  env = sym (entries-agree k g r.slots) ∙ r.env;
  at = sym (level_of-agree k m r.level) ∙ r.at;
}

pub entry_of-slot : (a : Assignment) (m : Level) (u : ℕ) → entry_of a (slot m u) ≡ entry (level_of a m) (a.ty u)
entry_of-slot a live u = refl
entry_of-slot a (under c) u = refl

-- a part under one more binder
pub Ready-bound : {a : Assignment} {u o c : ℕ} {g : List Slot} {m : Level} {h : List Entry} {l : Level} {t s : TermType}
    (x : ℕ) → x < o → a.ty x ≡ s → Ready a u o c g m h l t → Ready a u o c (slot m x ∷ g) m (entry l s ∷ h) l t
Ready-bound {a = a} {m = m} x lt e r = record {
  own = r.own;
  gives = r.gives;
  slots = (SlotBelow-slot _ _ m x r.level lt, r.slots);
  level = r.level;
  env = rw (entry_of-slot a m x, r.at, e, r.env) refl;
  at = r.at;
}

-- the type's unknown keeps its type
pub Ready-gives : {a b : Assignment} {u o c : ℕ} {g : List Slot} {m : Level} {h : List Entry} {l : Level} {t : TermType}
    → Agree o c a b → Ready a u o c g m h l t → b.ty u ≡ t
Ready-gives {u = u} k r = sym (k.types u r.own) ∙ r.gives

-- a part at the same level, in the same environment, after other parts
pub Ready-later : {a b : Assignment} {u o c p d q f : ℕ} {g : List Slot} {m : Level} {h : List Entry} {l : Level}
    {t s : TermType} {es : List TypeEquation} {xs : List Close} (v : ℕ) → o ≤ p → c ≤ d → v < p → Agree o c a b
    → b.ty v ≡ s → (one : Grown b p d q f es xs) → Ready a u o c g m h l t → Ready one.by v q f g m h l s
Ready-later {o = o} {c = c} {q = q} {f = f} v i j lt k e one r =
    let x = one.unknowns in
    let y = one.classifiers in
    Ready-part v q f (omega arith) (omega arith) (omega arith) (Agree-join k (Agree-less o c i j one.keeps))
    (sym (one.keeps.types v lt) ∙ e) r

-- a part at level 1 under the classifier unknown e, or at level 0
pub Ready-under : {a : Assignment} {u o c : ℕ} {g : List Slot} {m : Level} {h : List Entry} {l : Level} {t : TermType}
    (e k : ℕ) → e < c → a.classifier e ≡ k → Ready a u o c g m h l t → Ready a u o c g (under e) h (under k) t
Ready-under e k lt p r = record {
  own = r.own;
  gives = r.gives;
  slots = r.slots;
  level = lt;
  env = r.env;
  at =
      ap under p;
}

pub Ready-live : {a : Assignment} {u o c : ℕ} {g : List Slot} {m : Level} {h : List Entry} {l : Level} {t : TermType}
    → Ready a u o c g m h l t → Ready a u o c g live h live t
Ready-live r = record { own = r.own; gives = r.gives; slots = r.slots; level = tt; env = r.env; at = refl }
