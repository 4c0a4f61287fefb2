-- No bad place comes before the one where reading stops.
use Rattle.std.proofs.Common.{◌≡◌, ◌⊎◌, inl, inr, ⊎_elim, ℕ, zero, suc, ◌-◌, ◌<◌, ◌≤◌, List, [], ◌∷◌, ◌++◌, length}
use Rattle.std.proofs.Common.{refl, ap, sym, ◌∙◌, subst, arith, Bool, true, false, append_assoc, append-nil}
use Rattle.std.specs.Prelude.{nat_le, Result, Ok, Err, if◌then◌else◌}
use Rattle.std.specs.List.{AllByRecursion}
use Rattle.std.proofs.lemmas.Bool.{leb-true, leb-false}
use Rattle.mw_wasm.specs.Syntax.{PureModule}
use Rattle.mw_wasm.specs.Profile.{IsWithinFileLimit}
use Rattle.mw_wat.specs.Tokens.{PureToken, BeginsNone, ReadsTo, so_far, behind_blank, behind_token}
use Rattle.mw_wat.specs.Lexemes.{lexemes, tokens_of}
use Rattle.mw_wat.specs.ModuleTexts.{Says, IsDead, IsTextOf, IsBadPlace, no_token, no_module, unfinished, too_long}
use Rattle.mw_wat.specs.ModuleTexts.{IsFirstBadPlace}
use Rattle.mw_wat.specs.Lexing as lexing
use Rattle.mw_wat.specs.Lexing.{Tokens, stop, token, Lexeme, none, found, is_blank, without_blanks, onward}
use Rattle.mw_wat.specs.Lexing.{tokens_up_to}
use Rattle.mw_wat.specs.Lexing.{tokens}
use Rattle.mw_wat.specs.Reading.{got, bad, count, place_of}
use Rattle.mw_wat.specs.Modules.{whole_module, up_to_end, limited, module_read}
use Rattle.mw_wat.proofs.TokensOfText.{Placed, p_here, p_there, longer, next_token, blank_is, blank_from}
use Rattle.mw_wat.proofs.TextOfTokens.{At, at_end, at_none, at_token, Reached, front_back}
use Rattle.mw_wat.proofs.Lookahead.{LocalAt, gets, loses, SameHead, both_go, Goes, any, same, placed_parts}
use Rattle.mw_wat.proofs.Lookahead.{placed_count, same_front, bad_parts}
use Rattle.mw_wat.proofs.LookaheadOfModules.{local_module}
use Rattle.mw_wat.proofs.DeadTokens.{laid, laid_placed, bad_or_got}
use Rattle.mw_wat.proofs.OneModule.{placed_all}
use Rattle.mw_wat.proofs.ModuleSoundness.{module_said}
use Rattle.mw_wat.proofs.ReadIsText.{HoldsBytes, read_bytes, read_shorter, has_texts, said_placed, read_is_text}
use Rattle.mw_wat.proofs.BadPlaces.{placed_bytes, answered_is_bad}
use Rattle.mw_wat.proofs.CursorTokens.{shorter_left}
use Rattle.mw_wat.proofs.MeaningsOfWords.{both}
use Rattle.mw_wat.proofs.Completions.{here_same}
use Rattle.mw_wat.proofs.CompletionsOfModules.{module_completes}

-- places rise from token to token
Rising : Tokens → Type 0
Rising (stop a) = Unit {0}
Rising (token at t rest) = (at ≤ place_of rest) × Rising rest

placed_rising : {ts vs : Tokens} (xs : List PureToken) → Placed ts xs vs → Rising ts → place_of ts ≤ place_of vs
unfolding Rising
placed_rising [] p_here r = omega arith
placed_rising (x ∷ xs) (p_there {ts = ts} p) r = let k = placed_rising {ts = ts} xs p r.1 in let h = r.0 in
    omega arith

placed_behind : {ts vs : Tokens} (xs : List PureToken) → Placed ts xs vs → Rising ts → Rising vs
unfolding Rising
placed_behind [] p_here r = r
placed_behind (x ∷ xs) (p_there {ts = ts} p) r = placed_behind {ts = ts} xs p r.1

tokens_rise : (n end : ℕ) (bytes : List ℕ) → Rising (tokens_up_to n end bytes)
    × (end - length bytes ≤ place_of (tokens_up_to n end bytes))
unfolding Rising
tokens_rise zero end bytes = (tt, omega arith)
tokens_rise (suc n) end bytes = by_front (λ rest. tokens_rise n end rest) (lexing.front (without_blanks bytes)) refl
  where
    by_front : ((rest : List ℕ) → Rising (tokens_up_to n end rest)
        × (end - length rest ≤ place_of (tokens_up_to n end rest))) → (f : Lexeme) → lexing.front
        (without_blanks bytes) ≡ f
        → Rising (onward (λ rest. tokens_up_to n end rest) (end - length (without_blanks bytes)) f)
        × (end - length bytes ≤ place_of
        (onward (λ rest. tokens_up_to n end rest) (end - length (without_blanks bytes)) f))
    by_front again none e = (tt, let k = shorter_left bytes in omega arith)
    by_front again (found t rest) e =
        let r = again rest in
        let k = shorter_left bytes in
        let h = longer (front_back (without_blanks bytes) t rest e) in
        let low = r.1 in
        ((omega arith, r.0), omega arith)

-- the tokens of bytes up to a place, and those from there on
reads_placed : {bytes rest : List ℕ} {ts : List PureToken} → ReadsTo bytes ts rest → (n end : ℕ) → length bytes < n
    → (m : ℕ) × (length rest < m) × Placed (tokens_up_to n end bytes) ts (tokens_up_to m end rest)
reads_placed so_far n end p = (n, p, p_here)
reads_placed (behind_blank v r) zero end p = absurd (omega arith)
reads_placed (behind_blank {b = b} v r) (suc n) end p = rw (blank_is b v) (reads_placed r (suc n) end (omega arith))
reads_placed (behind_token g r) zero end p = absurd (omega arith)
reads_placed (behind_token {bytes = bytes} g r) (suc n) end p = let q = reads_placed r n end
    (omega (arith, longer g)) in rw (next_token n end bytes g) (q.0, q.1, p_there q.2)

none_stops : (m end : ℕ) (rest : List ℕ) → BeginsNone rest → tokens_up_to (suc m) end rest ≡ stop (end - length rest)
none_stops m end [] n = absurd n
none_stops m end (b ∷ rest) n = by_blank (is_blank b) refl
  where
    by_front : (f : Lexeme) → lexing.front (b ∷ rest) ≡ f → onward (λ rest. tokens_up_to m end rest)
        (end - length (b ∷ rest)) f ≡ stop (end - length (b ∷ rest))
    by_front none e = refl
    by_front (found t after) e = absurd (n.1 t after (front_back (b ∷ rest) t after e))

    by_blank : (x : Bool) → is_blank b ≡ x → tokens_up_to (suc m) end (b ∷ rest) ≡ stop (end - length (b ∷ rest))
    by_blank true e = absurd (n.0 (blank_from b e))
    by_blank false e = rw e (by_front (lexing.front (b ∷ rest)) refl)

-- of two fronts of the same tokens one begins the other
abbrev Apart : List PureToken → Tokens → List PureToken → Tokens → Type 0
Apart xs r ys s = (zs : List PureToken) × (ys ≡ xs ++ zs) × Placed r zs s

compare : {ts r s : Tokens} (xs ys : List PureToken) → Placed ts xs r → Placed ts ys s → Apart xs r ys s
    ⊎ Apart ys s xs r
compare [] ys p_here q = inl (ys, refl, q)
compare (x ∷ xs) [] p p_here = inr (x ∷ xs, refl, p)
compare (x ∷ xs) (_ ∷ ys) (p_there {ts = ts} p) (p_there q) = ⊎_elim (λ a. inl (a.0, ap (λ l. x ∷ l) a.1, a.2))
    (λ a. inr (a.0, ap (λ l. x ∷ l) a.1, a.2)) (compare {ts = ts} xs ys p q)

none_behind : (a : ℕ) (xs : List PureToken) {r : Tokens} → Placed (stop a) xs r → (xs ≡ []) × (stop a ≡ r)
none_behind a [] p_here = (refl, refl)
none_behind a (_ ∷ _) q = elim q [ ]

goes_cut : (zs : List PureToken) {rest m vs : Tokens} {a : ℕ} → Placed rest zs (stop a) → Placed m zs vs → Goes rest m
goes_cut [] p_here q = any
goes_cut (z ∷ zs) (p_there p) (p_there q) = same

heads_cut : (z : PureToken) (zs : List PureToken) {rest m r s : Tokens} → Placed rest (z ∷ zs) r → Placed m (z ∷ zs) s
    → SameHead rest m
heads_cut z zs (p_there p) (p_there q) = both_go

strict : (z : PureToken) (zs : List PureToken) {us vs : Tokens} → Placed us (z ∷ zs) vs → count vs < count us
strict z zs (p_there {ts = ts} p) = omega (arith, placed_count {us = ts} zs p)

-- what was read before the place where reading stops, and then the end
module _ (ts : Tokens) (front : List PureToken) (rest : Tokens) (p : Placed ts front rest)
    (e : whole_module ts ≡ bad rest) where
  cut_at : (f : List PureToken) (r : Tokens) → Placed (laid front) f r → whole_module (laid front) ≡ bad r
      → ((us vs : Tokens) → Placed us f vs → SameHead r vs → whole_module us ≡ bad vs) → (zs : List PureToken)
      → front ≡ f ++ zs → Placed r zs (stop 0) → whole_module (laid front) ≡ bad (stop 0)
  cut_at f r q d l [] g z = d ∙ ap (λ s. bad s) (here_same z)
  cut_at f r q d l (y ∷ zs) g z =
      let m = placed_parts f (y ∷ zs) (subst (λ xs. Placed ts xs rest) g p) in
      let here = bad_parts (whole_module ts) m.0 rest (l ts m.0 m.1 (heads_cut y zs z m.2)) e in
      absurd (let k = strict y zs m.2 in let c : count m.0 ≡ count rest = ap count here in omega arith)

  never_got : (f : List PureToken) (x : PureModule) (r : Tokens)
      → ((us vs : Tokens) → Placed us f vs → Goes r vs → whole_module us ≡ got x vs)
      → (zs : List PureToken) → front ≡ f ++ zs → Placed r zs (stop 0) → ⊥
  never_got f x r l zs g z =
      let m = placed_parts f zs (subst (λ xs. Placed ts xs rest) g p) in
      bad_or_got (whole_module ts) x m.0 rest (l ts m.0 m.1 (goes_cut zs z m.2)) e

  whole_front : (f zs : List PureToken) {r : Tokens} → f ≡ front ++ zs → Placed (stop 0) zs r → (front ≡ f ++ [])
      × Placed r [] (stop 0)
  whole_front f zs g z =
      let n = none_behind 0 zs z in (
        sym (append-nil front) ∙ ap (λ l. front ++ l) (sym n.0) ∙ sym g ∙ sym (append-nil f),
        subst
            (λ s. Placed s [] (stop 0)) n.1 p_here,
      )

  cut : whole_module (laid front) ≡ bad (stop 0)
  cut = by_local (local_module (laid front))
    where
      by_local : LocalAt whole_module (laid front) → whole_module (laid front) ≡ bad (stop 0)
      by_local (gets f x r q d l) = absurd
          (⊎_elim (λ a. never_got f x r l a.0 a.1 a.2)
          (λ a. let w = whole_front f a.0 a.1 a.2 in never_got f x r l [] w.0 w.1)
          (compare f front q (laid_placed front)))
      by_local (loses f r q d l) = ⊎_elim (λ a. cut_at f r q d l a.0 a.1 a.2)
          (λ a. let w = whole_front f a.0 a.1 a.2 in cut_at f r q d l [] w.0 w.1)
          (compare f front q (laid_placed front))

  -- goes on to the text of a module
  goes_on : AllByRecursion HoldsBytes front → (more : List PureToken) × (m : PureModule) × Says (front ++ more) m
  goes_on h =
      let c = module_completes (suc (count (laid front))) (laid front) 0 (omega arith) cut in
      let fronts : c.front ≡ front = same_front {us = laid front} c.front front c.placed (laid_placed front) in
      let read : whole_module (laid (c.front ++ c.more)) ≡ got c.x (stop 0) = c.reads (laid (c.front ++ c.more))
      (stop 0) (laid_placed (c.front ++ c.more)) tt in
      let b = module_said (laid (c.front ++ c.more)) c.x (stop 0) read in
      let all : c.front ++ c.more ≡ tokens_of c.x = same_front {us = laid (c.front ++ c.more)} (c.front ++ c.more)
      (tokens_of c.x) (laid_placed (c.front ++ c.more)) (said_placed (lexemes c.x) b.said) in
      let bytes = both HoldsBytes c.front c.more (subst (AllByRecursion HoldsBytes) (sym fronts) h) c.bytes in (
        c.more,
        c.x,
        record {
          tokens_are = ap (λ l. l ++ c.more) (sym fronts) ∙ all;
          has = has_texts c.x b
              (subst (AllByRecursion HoldsBytes) all bytes);
        },
      )

-- a place that is bad by a token or for want of one isn't before a front that begins a module's text
regrouped : (xs : List PureToken) (t : PureToken) (zs more : List PureToken) → (xs ++ t ∷ zs) ++ more ≡ (xs ++ t ∷ [])
    ++ (zs ++ more)
regrouped xs t zs more = append_assoc xs (t ∷ zs) more ∙ sym (append_assoc xs (t ∷ []) (zs ++ more))

head_is : (o : ℕ) (t z : PureToken) (zs : List PureToken) (r s : Tokens) → Placed (token o t r) (z ∷ zs) s → z ≡ t
head_is o t z zs r s (p_there p) = refl

module _ (bytes : List ℕ) (front : List PureToken) (rest : Tokens)
    (p : Placed (tokens (length bytes) bytes) front rest)
    (more : List PureToken) (m : PureModule) (says : Says (front ++ more) m) where
  rising : Rising (tokens (length bytes) bytes)
  unfolding tokens
  rising = (tokens_rise (suc (length bytes)) (length bytes) bytes).0

  behind_dead : (f : List PureToken) (t z : PureToken) (zs : List PureToken) → IsDead (f ++ t ∷ []) → front ≡ f
      ++ z ∷ zs → z ≡ t → ⊥
  behind_dead f t z zs d g h =
      d (zs ++ more) m
      (subst (λ l. Says l m) (ap (λ l. l ++ more) (g ∙ ap (λ y. f ++ y ∷ zs) h) ∙ regrouped f t zs more) says)

  by_dead : (f : List PureToken) (t : PureToken) (o : ℕ) (r : Tokens) → Placed (tokens (length bytes) bytes) f
      (token o t r) → IsDead (f ++ t ∷ []) → place_of rest ≤ o
  by_dead f t o r q d = ⊎_elim (λ a. by_more a.0 a.1 a.2) (λ a. placed_rising a.0 a.2 (placed_behind front p rising))
      (compare f front q p)
    where
      by_more : (zs : List PureToken) → front ≡ f ++ zs → Placed (token o t r) zs rest → place_of rest ≤ o
      by_more [] g z = subst (λ s. place_of s ≤ o) (here_same z) (omega arith)
      by_more (y ∷ zs) g z = absurd (behind_dead f t y zs d g (head_is o t y zs r rest z))

  by_stop : (f : List PureToken) (o : ℕ) → Placed (tokens (length bytes) bytes) f (stop o) → place_of rest ≤ o
  by_stop f o q = ⊎_elim (λ a. subst (λ s. place_of s ≤ o) (none_behind o a.0 a.2).1 (omega arith))
      (λ a. placed_rising a.0 a.2 (placed_behind front p rising)) (compare f front q p)

  within_bytes : place_of rest ≤ length bytes
  within_bytes = by_left (placed_bytes bytes front rest p)
    where
      by_here : (r : Tokens) (l : List ℕ) → At (length bytes) r l → place_of r ≤ length bytes
      by_here (stop _) [] at_end = omega arith
      by_here (stop _) l (at_none n) = omega arith
      by_here (token _ t r) l (at_token g) = omega arith

      by_left : Reached (length bytes) bytes front rest → place_of rest ≤ length bytes
      by_left r = by_here rest r.left r.here

  reads_here : (f : List PureToken) (l : List ℕ) → ReadsTo bytes f l → (k : ℕ) × (length l < k) × Placed
      (tokens (length bytes) bytes) f (tokens_up_to k (length bytes) l)
  unfolding tokens
  reads_here f l r = reads_placed r (suc (length bytes)) (length bytes) (omega arith)

  no_earlier : (at other : ℕ) → at ≤ place_of rest → at ≤ 67_108_864 → IsBadPlace bytes other → at ≤ other
  no_earlier at _ h k (no_token {tokens = f} {rest = l} r n) = let q = reads_here f l r in by_room q.0 q.1 q.2
    where
      by_room : (j : ℕ) → length l < j → Placed (tokens (length bytes) bytes) f (tokens_up_to j (length bytes) l)
          → at ≤ length bytes - length l
      by_room zero s q = absurd (omega arith)
      by_room (suc j) s q = let b = by_stop f (length bytes - length l)
          (subst (λ s. Placed (tokens (length bytes) bytes) f s) (none_stops j (length bytes) l n) q) in omega arith
  no_earlier at _ h k (no_module {front = f} {t = t} {rest = l} {after = after} r g d) = let q = reads_here f l r in
      by_room q.0 q.1 q.2
    where
      by_room : (j : ℕ) → length l < j → Placed (tokens (length bytes) bytes) f (tokens_up_to j (length bytes) l)
          → at ≤ length bytes - length l
      by_room zero s q = absurd (omega arith)
      by_room (suc j) s q = let b = by_dead f t (length bytes - length l) _
          (subst (λ s. Placed (tokens (length bytes) bytes) f s) (next_token j (length bytes) l g) q) d in omega arith
  no_earlier at _ h k (unfinished r n) = let b = within_bytes in omega arith
  no_earlier at _ h k (too_long n) = k

-- what is answered is at most the place where the reader stops, and the limit
abbrev wrong : ℕ → Result PureModule ℕ
wrong at = Err at

place_in : Result PureModule ℕ → ℕ
place_in (Ok m) = 0
place_in (Err at) = at

same_place : (a b : ℕ) → wrong a ≡ wrong b → a ≡ b
unfolding place_in
same_place a b e = ap place_in e

limited_err : (end p at : ℕ) → limited end (Err p) ≡ Err at → (at ≤ p) × (at ≤ 67_108_864)
limited_err end p at e = by_test (nat_le p 67_108_864) refl e
  where
    by_test : (t : Bool) → nat_le p 67_108_864 ≡ t → (if t then wrong p else wrong 67_108_864) ≡ Err at
        → (at ≤ p) × (at ≤ 67_108_864)
    by_test true q e = let k = same_place p at e in let h = leb-true p 67_108_864 q in omega arith
    by_test false q e = let k = same_place 67_108_864 at e in let h = leb-false p 67_108_864 q in omega arith

limited_ok : (end : ℕ) (m : PureModule) (at : ℕ) → limited end (Ok m) ≡ Err at → (at ≤ end) × (at ≤ 67_108_864)
limited_ok end m at e = by_test (nat_le end 67_108_864) refl e
  where
    by_test : (t : Bool) → nat_le end 67_108_864 ≡ t → (if t then Ok m else Err 67_108_864) ≡ Err at
        → (at ≤ end) × (at ≤ 67_108_864)
    by_test true q e = absurd (cc)
    by_test false q e = let k = same_place 67_108_864 at e in let h = leb-false end 67_108_864 q in omega arith

at_most_limit : (end : ℕ) (r : Result PureModule ℕ) (at : ℕ) → limited end r ≡ Err at → at ≤ 67_108_864
at_most_limit end (Ok m) at e = (limited_ok end m at e).1
at_most_limit end (Err p) at e = (limited_err end p at e).1

place_got : (end : ℕ) (m : PureModule) (rest : Tokens) (at : ℕ) → limited end (up_to_end end (got m rest)) ≡ Err at
    → at ≤ place_of rest
place_got end m (token o t r) at e = (limited_err end o at e).0
place_got end m (stop a) at e = by_test (nat_le end a) refl e
  where
    by_test : (t : Bool) → nat_le end a ≡ t → limited end (if t then Ok m else Err a) ≡ Err at → at ≤ a
    by_test true q e = let k = leb-true end a q in let h = limited_ok end m at e in omega arith
    by_test false q e = (limited_err end a at e).0

front_bytes : (bytes : List ℕ) (front : List PureToken) (rest : Tokens) → Placed
    (tokens (length bytes) bytes) front rest → AllByRecursion HoldsBytes front
front_bytes bytes front rest p = read_bytes (placed_bytes bytes front rest p).reads

-- the place that is answered is the first bad place
pub answered_is_first : (bytes : List ℕ) (at : ℕ) → module_read bytes ≡ Err at → IsFirstBadPlace bytes at
answered_is_first bytes at e =
    record {
      bad = answered_is_bad bytes at e;
      first = λ other b. by_local other b
          (local_module (tokens (length bytes) bytes));
    }
  where
    by_local : (other : ℕ) → IsBadPlace bytes other → LocalAt whole_module (tokens (length bytes) bytes) → at ≤ other
    by_local other b (gets front m rest p d l) =
        let k = module_said (tokens (length bytes) bytes) m rest d in
        let all : front ≡ tokens_of m = same_front {us = tokens (length bytes) bytes} front (tokens_of m) p
        (said_placed (lexemes m) k.said) in
        let has = has_texts m k (subst (AllByRecursion HoldsBytes) all (front_bytes bytes front rest p)) in
        no_earlier bytes front rest p [] m (record { tokens_are = append-nil front ∙ all; has = has }) at other
        (place_got (length bytes) m rest at
        (sym (ap (λ r. limited (length bytes) (up_to_end (length bytes) r)) d) ∙ e))
        (at_most_limit (length bytes) (up_to_end (length bytes) (whole_module (tokens (length bytes) bytes))) at e) b
    by_local other b (loses front rest p d l) =
        let g = goes_on (tokens (length bytes) bytes) front rest p d (front_bytes bytes front rest p) in
        no_earlier bytes front rest p g.0 g.1 g.2 at other
        (limited_err (length bytes) (place_of rest) at
        (sym (ap (λ r. limited (length bytes) (up_to_end (length bytes) r)) d) ∙ e)).0
        (at_most_limit (length bytes) (up_to_end (length bytes) (whole_module (tokens (length bytes) bytes))) at e) b

-- no text within the limit has a bad place
pub never_both : (bytes : List ℕ) (m : PureModule) (at : ℕ) → IsTextOf bytes m → IsWithinFileLimit bytes
    → IsBadPlace bytes at → ⊥
never_both bytes m at t w b = by_place at b
  where
    placed : Placed (tokens (length bytes) bytes) t.0 (stop (length bytes))
    placed = placed_all bytes t.0 t.1

    says : Says (t.0 ++ []) m
    says = record { tokens_are = append-nil t.0 ∙ t.2.tokens_are; has = t.2.has }

    at_rest : (l : List ℕ) → 0 < length l → length l ≤ length bytes → length bytes ≤ length bytes - length l → ⊥
    at_rest l some p q = absurd (omega arith)

    none_some : (l : List ℕ) → BeginsNone l → 0 < length l
    none_some [] n = absurd n
    none_some (x ∷ l) n = omega arith

    by_place : (at : ℕ) → IsBadPlace bytes at → ⊥
    by_place _ (no_token {rest = l} r n) = at_rest l (none_some l n) (read_shorter r)
        (no_earlier bytes t.0 (stop (length bytes)) placed [] m says (length bytes) (length bytes - length l)
        (omega arith) w (no_token r n))
    by_place _ (no_module {rest = l} r g d) = at_rest l (let k = longer g in omega arith) (read_shorter r)
        (no_earlier bytes t.0 (stop (length bytes)) placed [] m says (length bytes) (length bytes - length l)
        (omega arith) w (no_module r g d))
    by_place _ (unfinished {tokens = ts} r n) =
        n m (subst (λ us. Says us m)
        (same_front {us = tokens (length bytes) bytes} t.0 ts placed (placed_all bytes ts r)) t.2)
    by_place _ (too_long n) = n w

-- bytes are a text within the limit, or have a first bad place
pub one_of_both : (bytes : List ℕ) → ((m : PureModule) × IsTextOf bytes m × IsWithinFileLimit bytes)
    ⊎ ((at : ℕ) × IsFirstBadPlace bytes at)
one_of_both bytes = by_read (module_read bytes) refl
  where
    by_read : (r : Result PureModule ℕ) → module_read bytes ≡ r
        → ((m : PureModule) × IsTextOf bytes m × IsWithinFileLimit bytes) ⊎ ((at : ℕ) × IsFirstBadPlace bytes at)
    by_read (Ok m) e = let t = read_is_text bytes m e in inl (m, t.0, t.1)
    by_read (Err at) e = inr (at, answered_is_first bytes at e)
