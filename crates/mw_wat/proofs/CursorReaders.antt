-- Readers of single tokens, by the token that comes next.
use Rattle.std.proofs.Common.{◌≡◌, ℕ, List, refl, ap, sym, ◌∙◌, subst, Bool, true, false, Option, Some, None}
use Rattle.std.specs.Prelude.{if◌then◌else◌, Result}
use Rattle.std.specs.Str.{bytes_eq}
use Rattle.mw_wat.specs.declared.reading.cursor.Fault.{Fault}
use Rattle.mw_wat.specs.Tokens.{PureToken, left, right, word, string}
use Rattle.mw_wat.specs.Lexing.{Tokens, stop, token}
use Rattle.mw_wat.specs.Reading.{Read, got, bad, Reader, and_then, gives, one_of, skip, peek, this, if_left, if_opened}
use Rattle.mw_wat.specs.Reading.{if_same, if_word}
use Rattle.mw_wat.specs.Cursors.{Gives, next, is_opened, is_word}
use Rattle.mw_wat.proofs.Lookahead.{got_parts}

-- what comes next, as tokens
pub next_is : (ts : Tokens) (t : PureToken) (rest : Tokens) → next ts ≡ got t rest → (at : ℕ) × (ts ≡ token at t rest)
next_is (stop at) t rest e = absurd (cc)
next_is (token at u us) t rest e =
    let p = got_parts u t us rest e in
    (at, ap (λ v. token at v us) p.0 ∙ ap (token at t) p.1)

pub one_ended : {A : Type 0} (means : PureToken → Option A) (ts us : Tokens) → next ts ≡ bad us → one_of means ts
    ≡ bad us
one_ended means (stop at) us e = let s : stop at ≡ us = cc in ap bad s
one_ended means (token at t rest) us e = absurd (cc)

pub one_found : {A : Type 0} (means : PureToken → Option A) (ts : Tokens) (t : PureToken) (rest : Tokens) (x : A)
    → next ts ≡ got t rest → means t ≡ Some x → one_of means ts ≡ got x rest
one_found means ts t rest x e m =
    let n = next_is ts t rest e in
    rw (n.1, m) refl

pub one_wrong : {A : Type 0} (means : PureToken → Option A) (ts : Tokens) (t : PureToken) (rest : Tokens)
    → next ts ≡ got t rest → means t ≡ None → one_of means ts ≡ bad ts
one_wrong means ts t rest e m =
    let n = next_is ts t rest e in
    rw (n.1, m) refl

pub ruleset single_laws = (one_ended, one_found, one_wrong)

-- words
pub this_found : (w : List ℕ) (ts : Tokens) (v : List ℕ) (rest : Tokens) → next ts ≡ got (word v) rest
    → bytes_eq v w ≡ true → this w ts ≡ got tt rest
this_found w ts v rest e m =
    let n = next_is ts (word v) rest e in
    rw (n.1, m) refl

pub this_other : (w : List ℕ) (ts : Tokens) (v : List ℕ) (rest : Tokens) → next ts ≡ got (word v) rest
    → bytes_eq v w ≡ false → this w ts ≡ bad ts
this_other w ts v rest e m =
    let n = next_is ts (word v) rest e in
    rw (n.1, m) refl

pub ruleset word_laws = (one_ended, one_wrong, this_found, this_other)

-- by the token in hand
pub peek_ended : {A : Type 0} (f : PureToken → Reader A) (ts us : Tokens) → next ts ≡ bad us → peek f ts ≡ bad us
peek_ended f (stop at) us e = let s : stop at ≡ us = cc in ap bad s
peek_ended f (token at t rest) us e = absurd (cc)

pub opened_here : (ts rest : Tokens) → next ts ≡ got left rest → is_opened ts ≡ got true rest
opened_here ts rest e = let n = next_is ts left rest e in rw n.1 refl

pub closed_here : (ts rest : Tokens) → next ts ≡ got right rest → is_opened ts ≡ got false ts
closed_here ts rest e = let n = next_is ts right rest e in rw n.1 refl

pub word_here : (ts rest : Tokens) (w : List ℕ) → next ts ≡ got (word w) rest → is_opened ts ≡ got false ts
word_here ts rest w e = let n = next_is ts (word w) rest e in rw n.1 refl

pub string_here : (ts rest : Tokens) (w : List ℕ) → next ts ≡ got (string w) rest → is_opened ts ≡ got false ts
string_here ts rest w e = let n = next_is ts (string w) rest e in rw n.1 refl

pub same_word : (ts rest : Tokens) (v w : List ℕ) → next ts ≡ got (word v) rest → bytes_eq v w ≡ true
    → is_word w ts ≡ got true rest
unfolding is_word
same_word ts rest v w e m = let n = next_is ts (word v) rest e in rw (n.1, m) refl

pub other_word : (ts rest : Tokens) (v w : List ℕ) → next ts ≡ got (word v) rest → bytes_eq v w ≡ false
    → is_word w ts ≡ got false ts
unfolding is_word
other_word ts rest v w e m = let n = next_is ts (word v) rest e in rw (n.1, m) refl

pub left_no_word : (ts rest : Tokens) (w : List ℕ) → next ts ≡ got left rest → is_word w ts ≡ got false ts
unfolding is_word
left_no_word ts rest w e = let n = next_is ts left rest e in rw n.1 refl

pub right_no_word : (ts rest : Tokens) (w : List ℕ) → next ts ≡ got right rest → is_word w ts ≡ got false ts
unfolding is_word
right_no_word ts rest w e = let n = next_is ts right rest e in rw n.1 refl

pub string_no_word : (ts rest : Tokens) (v w : List ℕ) → next ts ≡ got (string v) rest → is_word w ts ≡ got false ts
unfolding is_word
string_no_word ts rest v w e = let n = next_is ts (string v) rest e in rw n.1 refl

pub opened_ended : (ts us : Tokens) → next ts ≡ bad us → is_opened ts ≡ bad us
opened_ended ts us e = peek_ended (if_left (gives true) (gives false)) ts us e

pub word_ended : (ts us : Tokens) (w : List ℕ) → next ts ≡ bad us → is_word w ts ≡ bad us
unfolding is_word
word_ended ts us w e = peek_ended (if_same w (gives true) (gives false)) ts us e

pub ruleset peek_laws = (
  opened_ended,
  word_ended,
  opened_here,
  closed_here,
  word_here,
  string_here,
  same_word,
  other_word,
  left_no_word,
  right_no_word,
  string_no_word,
)

-- a reader that gives the same
pub gives_same : {X A : Type 0} (view : X → Read A) (answer : Result X Fault) (read other : Read A) → other ≡ read
    → Gives view answer read → Gives view answer other
gives_same view answer read other e g = subst (λ r. Gives view answer r) (sym e) g

-- choices by the token that comes next
pub choice_opened : {A : Type 0} (r q : Reader A) (ts : Tokens) (b : Bool) (rest : Tokens) (v : Read A)
    → is_opened ts ≡ got b rest → b ≡ true → r rest ≡ v → if_opened r q ts ≡ v
choice_opened r q (stop at) b rest v e t h = absurd (cc)
choice_opened r q (token at left us) b rest v e t h =
    let p = got_parts true b us rest e in ap r p.1 ∙ h
choice_opened r q (token at u us) b rest v e t h =
    let p = got_parts false b (token at u us) rest e in absurd (cc)

pub choice_other : {A : Type 0} (r q : Reader A) (ts : Tokens) (b : Bool) (rest : Tokens) (v : Read A)
    → is_opened ts ≡ got b rest → b ≡ false → q rest ≡ v → if_opened r q ts ≡ v
choice_other r q (stop at) b rest v e t h = absurd (cc)
choice_other r q (token at left us) b rest v e t h =
    let p = got_parts true b us rest e in absurd (cc)
choice_other r q (token at u us) b rest v e t h =
    let p = got_parts false b (token at u us) rest e in ap q p.1 ∙ h

pub choice_ended : {A : Type 0} (r q : Reader A) (ts us : Tokens) → is_opened ts ≡ bad us → if_opened r q ts ≡ bad us
choice_ended r q (stop at) us e = let s : stop at ≡ us = cc in ap bad s
choice_ended r q (token at left vs) us e = absurd (cc)
choice_ended r q _ us e = absurd (cc)

abbrev pub by_choice : {A : Type 0} → Reader A → Reader A → Bool → Reader A
by_choice r q true = r
by_choice r q false = q

pub word_choice : {A : Type 0} (w : List ℕ) (r q : Reader A) (ts : Tokens)
    → if_word w r q ts ≡ and_then (is_word w ts) (by_choice r q)
unfolding is_word
word_choice w r q (token at (word x) us) = by_test (bytes_eq x w)
  where
    by_test : (k : Bool) → (if k then skip r else q) (token at (word x) us)
        ≡ and_then ((if k then skip (gives true) else gives false) (token at (word x) us)) (by_choice r q)
    by_test true = refl
    by_test false = refl
word_choice w r q _ = refl

pub ruleset choice_laws = (choice_opened, choice_other, choice_ended)
