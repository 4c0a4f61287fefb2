-- A reader that stops where tokens stop can go on.
use Rattle.std.proofs.Common.{◌≡◌, ℕ, zero, suc, ◌<◌, ◌≤◌, List, [], ◌∷◌, ◌++◌, refl, ap, sym, ◌∙◌, subst, arith, Bool}
use Rattle.std.proofs.Common.{true, false, Option, Some, None, append_assoc}
use Rattle.std.specs.Prelude.{if◌then◌else◌}
use Rattle.std.specs.List.{AllByRecursion}
use Rattle.std.specs.Str.{bytes_eq}
use Rattle.mw_wat.specs.Tokens.{PureToken}
use Rattle.mw_wat.specs.Tokens as t
use Rattle.mw_wat.specs.Lexing.{Tokens, stop, token}
use Rattle.mw_wat.specs.Reading.{Read, got, bad, Reader, count, and_then, ◌>>=◌, gives, or_bad, one_of, skip, one_more}
use Rattle.mw_wat.specs.Reading.{some_of, in_front, or_here, all_of, if_opened, if_word}
use Rattle.mw_wat.proofs.MeaningsOfWords.{both}
use Rattle.mw_wat.proofs.TokensOfText.{Placed, p_here, p_there}
use Rattle.mw_wat.proofs.Lookahead.{Local, LocalAt, gets, loses, Goes, any, same, placed_parts, placed_joined}
use Rattle.mw_wat.proofs.Lookahead.{placed_count, bad_parts, local_one, local_some}
use Rattle.mw_wat.proofs.ReadIsText.{HoldsBytes}

-- the tokens of a reader that stops, what may follow them, and what it answers then, before tokens that are as F says
pub record Completed {A : Type 0} (r : Reader A) (F : Tokens → Type 0) (P : A → Type 0) (ts : Tokens)
    (a : ℕ) : Type 0 where
  pub front : List PureToken
  pub placed : Placed ts front (stop a)
  pub more : List PureToken
  pub x : A
  pub fit : P x
  pub bytes : AllByRecursion HoldsBytes more
  pub reads : (us vs : Tokens) → Placed us (front ++ more) vs → F vs → r us ≡ got x vs

-- tokens that a reader takes from the first one on
pub record Started {A : Type 0} (r : Reader A) (F : Tokens → Type 0) (P : A → Type 0) : Type 0 where
  pub more : List PureToken
  pub x : A
  pub fit : P x
  pub bytes : AllByRecursion HoldsBytes more
  pub reads : (us vs : Tokens) → Placed us more vs → F vs → r us ≡ got x vs

abbrev pub Completes : {A : Type 0} → ℕ → Reader A → (Tokens → Type 0) → (A → Type 0) → Type 0
Completes k r F P = (ts : Tokens) (a : ℕ) → count ts < k → r ts ≡ bad (stop a) → Completed r F P ts a

abbrev pub Any : Tokens → Type 0
Any vs = Unit {0}

abbrev pub Each : {A : Type 0} → A → Type 0
Each x = Unit {0}

-- the next token means nothing here
abbrev pub NotNext : {A : Type 0} → (PureToken → Option A) → Tokens → Type 0
NotNext means (stop a) = ⊥
NotNext means (token at t rest) = means t ≡ None

pub got_bad : {A : Type 0} (x : A) (r s : Tokens) → got x r ≡ bad s → ⊥
got_bad x r s e = cc

abbrev bad_in : (A : Type 0) → Tokens → Read A
bad_in A ts = bad ts

is_stop : Tokens → ℕ
is_stop (stop a) = 0
is_stop (token at t rest) = 1

pub token_stop : (at : ℕ) (t : PureToken) (rest : Tokens) (a : ℕ) → token at t rest ≡ stop a → ⊥
unfolding is_stop
token_stop at t rest a e = absurd (let f : 1 ≡ 0 = ap is_stop e in omega arith)

pub bad_token : {A : Type 0} (at : ℕ) (t : PureToken) (rest : Tokens) (a : ℕ) → bad_in A (token at t rest) ≡ bad
    (stop a) → ⊥
bad_token {A = A} at t rest a e = token_stop at t rest a
    (bad_parts (bad_in A (token at t rest)) (token at t rest) (stop a) refl e)

stop_is : {A : Type 0} (b a : ℕ) → bad_in A (stop b) ≡ bad (stop a) → Placed (stop b) [] (stop a)
stop_is {A = A} b a e = subst (λ r. Placed (stop b) [] r)
    (bad_parts (bad_in A (stop b)) (stop b) (stop a) refl e) p_here

pub here_same : {ts us : Tokens} → Placed ts [] us → ts ≡ us
here_same p_here = refl

goes_front : (ys zs : List PureToken) {mid m vs : Tokens} {a : ℕ} → Placed mid ys (stop a) → Placed m (ys ++ zs) vs
    → Goes mid m
goes_front [] zs p_here q = any
goes_front (y ∷ ys) zs (p_there p) (p_there q) = same

-- at a stop
pub stop_completed : {A : Type 0} (r : Reader A) (F : Tokens → Type 0) (P : A → Type 0) → Started r F P → (b a : ℕ)
    → bad_in A (stop b) ≡ bad (stop a) → Completed r F P (stop b) a
stop_completed r F P s b a e =
    record {
      front = [];
      placed = stop_is b a e;
      more = s.more;
      x = s.x;
      fit = s.fit;
      bytes = s.bytes;
      reads =
          s.reads;
    }

-- one reader behind another
pub completes_then : {A B : Type 0} (k : ℕ) (r : Reader A) (f : A → Reader B) (G F : Tokens → Type 0) (Q : A → Type 0)
    (P : B → Type 0) → Local r → Completes k r G Q
    → ((x : A) (ts mid : Tokens) (a : ℕ) → r ts ≡ got x mid → count mid ≤ count ts → count ts < k → f x mid ≡ bad
    (stop a) → Completed (f x) F P mid a)
    → (start : (x : A) → Q x → Started (f x) F P)
    → ((x : A) (q : Q x) (us vs : Tokens) → Placed us (start x q).more vs → F vs → G us)
    → Completes k (r >>= f) F P
completes_then {A = A} k r f G F Q P l c d start follow ts b n e = by_local (l ts)
  where
    first : Completed r G Q ts b → Completed (r >>= f) F P ts b
    first o =
        let s = start o.x o.fit in
        record {
          front = o.front;
          placed = o.placed;
          more = o.more ++ s.more;
          x = s.x;
          fit = s.fit;
          bytes = both HoldsBytes o.more s.more o.bytes s.bytes;
          reads = λ us vs p g.
              let m = placed_parts (o.front ++ o.more) s.more
              (subst (λ z. Placed us z vs) (sym (append_assoc o.front o.more s.more)) p) in
              ap (λ q. and_then q f) (o.reads us m.0 m.1 (follow o.x o.fit m.0 vs m.2 g)) ∙ s.reads m.0 vs m.2 g;
        }

    second : (front : List PureToken) (x : A) (mid : Tokens) → Placed ts front mid
        → ((us vs : Tokens) → Placed us front vs → Goes mid vs → r us ≡ got x vs)
        → Completed (f x) F P mid b → Completed (r >>= f) F P ts b
    second front x mid p h o = record {
      front = front ++ o.front;
      placed = placed_joined front o.front p o.placed;
      more = o.more;
      x = o.x;
      fit = o.fit;
      bytes = o.bytes;
      reads = λ us vs q g.
          let m = placed_parts front (o.front ++ o.more)
          (subst (λ z. Placed us z vs) (append_assoc front o.front o.more) q) in
          ap (λ q. and_then q f) (h us m.0 m.1 (goes_front o.front o.more o.placed m.2)) ∙ o.reads m.0 vs m.2 g;
    }

    by_local : LocalAt r ts → Completed (r >>= f) F P ts b
    by_local (loses front rest p h i) =
        let stops = bad_parts ((r >>= f) ts) rest (stop b) (ap (λ q. and_then q f) h) e in
        first (c ts b n (h ∙ ap (λ z. bad z) stops))
    by_local (gets front x mid p h i) = second front x mid p i
        (d x ts mid b h (placed_count front p) n (sym (ap (λ q. and_then q f) h) ∙ e))

pub completes_after : {A B : Type 0} (k : ℕ) (r : Reader A) (f : A → Reader B) (G F : Tokens → Type 0)
    (Q : A → Type 0) (P : B → Type 0) → Local r → Completes k r G Q
    → ((x : A) → Completes k (f x) F P)
    → (start : (x : A) → Q x → Started (f x) F P)
    → ((x : A) (q : Q x) (us vs : Tokens) → Placed us (start x q).more vs → F vs → G us)
    → Completes k (r >>= f) F P
completes_after k r f G F Q P l c d start follow = completes_then k r f G F Q P l c
    (λ x ts mid a h m n e. d x mid a (omega arith) e) start follow

abbrev pub started_then : {A B : Type 0} (r : Reader A) (f : A → Reader B) (G F : Tokens → Type 0) (Q : A → Type 0)
    (P : B → Type 0) → (s : Started r G Q) → (u : Started (f s.x) F P)
    → ((us vs : Tokens) → Placed us u.more vs → F vs → G us) → Started (r >>= f) F P
started_then r f G F Q P s u follow = record {
  more = s.more ++ u.more;
  x = u.x;
  fit = u.fit;
  bytes = both HoldsBytes s.more u.more s.bytes u.bytes;
  reads = λ us vs p g.
      let m = placed_parts s.more u.more p in
      ap (λ q. and_then q f) (s.reads us m.0 m.1 (follow m.0 vs m.2 g)) ∙ u.reads m.0 vs m.2 g;
}

-- no tokens
pub completes_gives : {A : Type 0} (k : ℕ) (x : A) (F : Tokens → Type 0) (P : A → Type 0) → Completes k (gives x) F P
completes_gives k x F P ts a n e = absurd (got_bad x ts (stop a) e)

pub gives_here : {A : Type 0} (x : A) {us vs : Tokens} → Placed us [] vs → gives x us ≡ got x vs
gives_here x p_here = refl

abbrev pub started_gives : {A : Type 0} (x : A) (F : Tokens → Type 0) (P : A → Type 0) → P x → Started (gives x) F P
started_gives x F P p = record { more = []; x = x; fit = p; bytes = tt; reads = λ us vs q g. gives_here x q }

-- one token
module _ {A : Type 0} (means : PureToken → Option A) (u : PureToken) (x : A) (e : means u ≡ Some x) (h : HoldsBytes u)
    (F : Tokens → Type 0) (P : A → Type 0) (p : P x) where
  pub one_reads : {us vs : Tokens} → Placed us (u ∷ []) vs → one_of means us ≡ got x vs
  one_reads (p_there p_here) = rw e refl

  abbrev pub started_one : Started (one_of means) F P
  started_one = record { more = u ∷ []; x = x; fit = p; bytes = (h, tt); reads = λ us vs q g. one_reads q }

  pub completes_one : (k : ℕ) → Completes k (one_of means) F P
  completes_one k (stop b) a n d = stop_completed (one_of means) F P started_one b a d
  completes_one k (token at t rest) a n d = by_meaning (means t) d
    where
      by_meaning : (o : Option A) → or_bad (token at t rest) rest o ≡ bad (stop a) → Completed (one_of means) F P
          (token at t rest) a
      by_meaning None d = absurd (bad_token at t rest a d)
      by_meaning (Some y) d = absurd (got_bad y rest (stop a) d)

-- behind one token, and at one
module _ {A : Type 0} (s r : Reader A) (F : Tokens → Type 0) (P : A → Type 0) (at : ℕ) (t : PureToken) (rest : Tokens)
    (a : ℕ) where
  pub behind_completed : Completed r F P rest a → ((b : ℕ) (us : Tokens) → s (token b t us) ≡ r us) → Completed s F P
      (token at t rest) a
  behind_completed o alike =
      record {
        front = t ∷ o.front;
        placed = p_there o.placed;
        more = o.more;
        x = o.x;
        fit = o.fit;
        bytes = o.bytes;
        reads = λ us vs p g. behind us vs p g;
      }
    where
      behind : (us vs : Tokens) → Placed us (t ∷ o.front ++ o.more) vs → F vs → s us ≡ got o.x vs
      behind _ vs (p_there {at = b} {ts = us} p) g = alike b us ∙ o.reads us vs p g

  pub same_completed : Completed r F P (token at t rest) a
      → ((b : ℕ) (us : Tokens) → s (token b t us) ≡ r (token b t us)) → Completed s F P (token at t rest) a
  same_completed o alike = by_front o.front o.placed o.reads
    where
      behind : (u : PureToken) (front : List PureToken) → u ≡ t
          → ((us vs : Tokens) → Placed us (u ∷ front ++ o.more) vs → F vs → r us ≡ got o.x vs)
          → (us vs : Tokens) → Placed us (u ∷ front ++ o.more) vs → F vs → s us ≡ got o.x vs
      behind u front e h _ vs (p_there {at = b} {ts = us} p) g = subst (λ u. s (token b u us) ≡ r (token b u us))
          (sym e) (alike b us) ∙ h (token b u us) vs (p_there p) g

      same_first : {u : PureToken} {front : List PureToken} {vs : Tokens} → Placed (token at t rest) (u ∷ front) vs
          → u ≡ t
      same_first (p_there p) = refl

      by_front : (front : List PureToken) → Placed (token at t rest) front (stop a)
          → ((us vs : Tokens) → Placed us (front ++ o.more) vs → F vs → r us ≡ got o.x vs) → Completed s F P
          (token at t rest) a
      by_front [] p h = absurd (token_stop at t rest a (here_same p))
      by_front (u ∷ front) p h =
          record {
            front = u ∷ front;
            placed = p;
            more = o.more;
            x = o.x;
            fit = o.fit;
            bytes = o.bytes;
            reads =
                behind u front (same_first p) h;
          }

-- lists of tokens of one kind
module _ {A : Type 0} (means : PureToken → Option A) where
  pub all_ends : {us vs : Tokens} → Placed us [] vs → NotNext means vs → all_of means us ≡ got [] vs
  all_ends {vs = stop a} p_here g = absurd g
  all_ends {vs = token at t rest} p_here g = rw g refl

  abbrev pub started_all : Started (all_of means) (NotNext means) Each
  started_all = record { more = []; x = []; fit = tt; bytes = tt; reads = λ us vs p g. all_ends p g }

  pub completes_all : (k : ℕ) → Completes k (all_of means) (NotNext means) Each
  completes_all k (stop b) a n d = stop_completed (all_of means) (NotNext means) Each started_all b a d
  completes_all k (token at t rest) a n d = by_meaning (completes_all k rest a (omega arith)) (means t) refl d
    where
      extended : (x : A) → means t ≡ Some x → Completed (all_of means) (NotNext means) Each rest a → Completed
          (all_of means) (NotNext means) Each (token at t rest) a
      extended x e o =
          record {
            front = t ∷ o.front;
            placed = p_there o.placed;
            more = o.more;
            x = x ∷ o.x;
            fit = tt;
            bytes =
                o.bytes;
            reads = λ us vs p g. behind us vs p g;
          }
        where
          behind : (us vs : Tokens) → Placed us (t ∷ o.front ++ o.more) vs → NotNext means vs → all_of means us ≡ got
              (x ∷ o.x) vs
          behind _ vs (p_there {at = b} {ts = us} p) g = rw (e, o.reads us vs p g) refl

      by_read : (x : A) → means t ≡ Some x
          → (all_of means rest ≡ bad (stop a) → Completed (all_of means) (NotNext means) Each rest a)
          → (q : Read (List A)) → all_of means rest ≡ q
          → in_front x q ≡ bad (stop a) → Completed (all_of means) (NotNext means) Each (token at t rest) a
      by_read x e h (got xs mid) f d = absurd (got_bad (x ∷ xs) mid (stop a) d)
      by_read x e h (bad mid) f d = extended x e (h (f ∙ d))

      by_meaning : (all_of means rest ≡ bad (stop a) → Completed (all_of means) (NotNext means) Each rest a)
          → (o : Option A) → means t ≡ o
          → or_here (token at t rest) o (all_of means rest) ≡ bad (stop a) → Completed (all_of means)
          (NotNext means) Each (token at t rest) a
      by_meaning h None e d = absurd (got_bad [] (token at t rest) (stop a) d)
      by_meaning h (Some x) e d = by_read x e h (all_of means rest) refl d

  pub some_ends : (n : ℕ) {us vs : Tokens} → Placed us [] vs → NotNext means vs → some_of n means us ≡ got [] vs
  some_ends zero p_here g = refl
  some_ends (suc n) {vs = stop a} p_here g = absurd g
  some_ends (suc n) {vs = token at t rest} p_here g = rw g refl

  abbrev pub started_some : (n : ℕ) → Started (some_of n means) (NotNext means) Each
  started_some n = record { more = []; x = []; fit = tt; bytes = tt; reads = λ us vs p g. some_ends n p g }

  here_next : {us vs : Tokens} → Placed us [] vs → NotNext means vs → NotNext means us
  here_next p_here g = g

  pub completes_some : (k n : ℕ) → Completes k (some_of n means) (NotNext means) Each
  completes_some k zero ts a m d = absurd (got_bad [] ts (stop a) d)
  completes_some k (suc n) (stop b) a m d = stop_completed (some_of (suc n) means) (NotNext means) Each
      (started_some (suc n)) b a d
  completes_some k (suc n) (token at t rest) a m d = by_meaning (completes_some k n) (means t) refl d
    where
      by_meaning : Completes k (some_of n means) (NotNext means) Each → (o : Option A) → means t ≡ o → one_more
          (some_of n means) o (token at t rest) ≡ bad (stop a)
          → Completed (some_of (suc n) means) (NotNext means) Each (token at t rest) a
      by_meaning c None e d = absurd (got_bad [] (token at t rest) (stop a) d)
      by_meaning c (Some x) e d =
          behind_completed (some_of (suc n) means) (some_of n means >>= λ xs. gives (x ∷ xs))
          (NotNext means) Each at t rest a
          (completes_after k (some_of n means) (λ xs. gives (x ∷ xs)) (NotNext means) (NotNext means) Each Each
          (local_some n means) c
          (λ xs. completes_gives k (x ∷ xs) (NotNext means) Each)
          (λ xs q. started_gives (x ∷ xs) (NotNext means) Each tt) (λ xs q us vs p g. here_next p g)
          rest a (omega arith) d)
          (λ b us. rw e refl)

-- by the token in hand
module _ {A : Type 0} (k : ℕ) (r q : Reader A) (F : Tokens → Type 0) (P : A → Type 0) where
  pub left_reads : (s : Started r F P) (us vs : Tokens) → Placed us (t.left ∷ s.more) vs → F vs
      → if_opened r q us ≡ got s.x vs
  left_reads s _ vs (p_there {ts = us} p) g = s.reads us vs p g

  abbrev pub started_opened : Started r F P → Started (if_opened r q) F P
  started_opened s =
      record { more = t.left ∷ s.more; x = s.x; fit = s.fit; bytes = (tt, s.bytes); reads = left_reads s }

  pub completes_opened : Started (if_opened r q) F P → Completes k r F P → Completes k q F P → Completes k
      (if_opened r q) F P
  completes_opened s c d (stop b) a n e = stop_completed (if_opened r q) F P s b a e
  completes_opened s c d (token at t.left rest) a n e = behind_completed (if_opened r q) r F P at t.left rest a
      (c rest a (omega arith) e) (λ b us. refl)
  completes_opened s c d (token at u rest) a n e = same_completed (if_opened r q) q F P at u rest a
      (d (token at u rest) a n e) (λ b us. refl)

  pub word_reads : (w : List ℕ) → bytes_eq w w ≡ true → (s : Started r F P) (us vs : Tokens) → Placed us
      (t.word w ∷ s.more) vs → F vs → if_word w r q us ≡ got s.x vs
  word_reads w e s _ vs (p_there {ts = us} p) g = rw e (s.reads us vs p g)

  abbrev pub started_word : (w : List ℕ) → bytes_eq w w ≡ true → Started r F P → Started (if_word w r q) F P
  started_word w e s =
      record { more = t.word w ∷ s.more; x = s.x; fit = s.fit; bytes = (tt, s.bytes); reads = word_reads w e s }

  pub completes_word : (w : List ℕ) → Started (if_word w r q) F P → Completes k r F P → Completes k q F P
      → Completes k (if_word w r q) F P
  completes_word w s c d (stop b) a n e = stop_completed (if_word w r q) F P s b a e
  completes_word w s c d (token at (t.word v) rest) a n e = by_test (bytes_eq v w) refl e
    where
      by_test : (x : Bool) → bytes_eq v w ≡ x → (if x then skip r else q) (token at (t.word v) rest) ≡ bad (stop a)
          → Completed (if_word w r q) F P (token at (t.word v) rest) a
      by_test true f e = behind_completed (if_word w r q) r F P at (t.word v) rest a (c rest a (omega arith) e)
          (λ b us. rw f refl)
      by_test false f e = same_completed (if_word w r q) q F P at (t.word v) rest a
          (d (token at (t.word v) rest) a n e) (λ b us. rw f refl)
  completes_word w s c d (token at u rest) a n e = same_completed (if_word w r q) q F P at u rest a
      (d (token at u rest) a n e) (λ b us. refl)

-- Both at once, for readers whose value may be any.
pub record On {A : Type 0} (k : ℕ) (r : Reader A) (F : Tokens → Type 0) : Type 0 where
  pub completes : Completes k r F Each
  pub starts : Started r F Each

abbrev pub on_gives : {A : Type 0} (k : ℕ) (x : A) (F : Tokens → Type 0) → On k (gives x) F
on_gives k x F = record { completes = completes_gives k x F Each; starts = started_gives x F Each tt }

abbrev pub on_one : {A : Type 0} (k : ℕ) (means : PureToken → Option A) (u : PureToken) (x : A) → means u ≡ Some x
    → HoldsBytes u → (F : Tokens → Type 0) → On k (one_of means) F
on_one k means u x e h F =
    record { completes = completes_one means u x e h F Each tt k; starts = started_one means u x e h F Each tt }

abbrev pub on_after : {A B : Type 0} (k : ℕ) (r : Reader A) (f : A → Reader B) (G F : Tokens → Type 0) → Local r
    → On k r G → (o : (x : A) → On k (f x) F)
    → ((x : A) (us vs : Tokens) → Placed us (o x).starts.more vs → F vs → G us) → On k (r >>= f) F
on_after k r f G F l c o follow = record {
  completes = completes_after k r f G F Each Each l c.completes (λ x. (o x).completes) (λ x q. (o x).starts)
      (λ x q us vs p g. follow x us vs p g);
  starts = started_then r f G F Each Each c.starts (o c.starts.x).starts (λ us vs p g. follow c.starts.x us vs p g);
}

abbrev pub on_then : {A B : Type 0} (k : ℕ) (r : Reader A) (f : A → Reader B) (F : Tokens → Type 0) → Local r
    → On k r Any → ((x : A) → On k (f x) F) → On k (r >>= f) F
on_then k r f F l c o = on_after k r f Any F l c o (λ x us vs p g. tt)

abbrev pub on_token : {A B : Type 0} (k : ℕ) (means : PureToken → Option A) (u : PureToken) (x : A) → means u ≡ Some x
    → HoldsBytes u → (f : A → Reader B) (F : Tokens → Type 0) → ((x : A) → On k (f x) F) → On k (one_of means >>= f) F
on_token k means u x e h f F o = on_then k (one_of means) f F (local_one means) (on_one k means u x e h Any) o

abbrev pub on_opened : {A : Type 0} (k : ℕ) (r q : Reader A) (F : Tokens → Type 0) → On k r F → Completes k q F Each
    → On k (if_opened r q) F
on_opened k r q F o d = let s = started_opened k r q F Each o.starts in
    record { completes = completes_opened k r q F Each s o.completes d; starts = s }

abbrev pub on_word : {A : Type 0} (k : ℕ) (r q : Reader A) (F : Tokens → Type 0) (w : List ℕ) → bytes_eq w w ≡ true
    → On k r F → Completes k q F Each → On k (if_word w r q) F
on_word k r q F w e o d = let s = started_word k r q F Each w e o.starts in
    record { completes = completes_word k r q F Each w s o.completes d; starts = s }
