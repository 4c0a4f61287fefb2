-- From one piece to the next.
use Rattle.std.proofs.Common.{◌≡◌, ◌⊎◌, inl, inr, zero, suc, nat_lt, true, false, refl, ap, ◌∙◌, ℕ, ◌+◌, ◌<◌, ◌≤◌, List}
use Rattle.std.proofs.Common.{get_or, drop-cons}
use Rattle.std.proofs.Common.{[], ◌∷◌, ◌++◌, length, take, drop, sym, subst, append-nil, arith, Bool, Result, Ok, Err}
use Rattle.std.proofs.lemmas.Bool.{ltb-true, ltb-false}
use Rattle.std.proofs.lemmas.List.{drop-drop, drop_all, take-append-drop, length-drop, length-take-le}
use Rattle.mw_term.specs.declared.refusal.Refusal.{Refusal}
use Rattle.mw_term.specs.declared.refusal.Refusal.TheVariants.{Char}
use Rattle.mw_lex.specs.Texts.{IsLongest, Spells, a_mark}
use Rattle.mw_lex.specs.Tokens.{Symbol, PureToken, token, minus}
use Rattle.mw_lex.specs.InOrder.{IsInRange}
use Rattle.mw_lex.specs.Reading.{Reads, so_far, behind_blank, behind_comment, behind_token, AreTokens, IsFault}
use Rattle.mw_lex.specs.Reading.{IsFirstFault}
use Rattle.mw_term.specs.declared.refusal.Stop.{Stop}
use Rattle.mw_term.specs.declared.refusal.Stop.TheVariants.{Refused, Memory}
use Rattle.mw_term.specs.Stops.{IfRefused}
use Rattle.mw_lex.specs.Lexing.{IsOfLexing}
use Rattle.mw_lex.specs.Pieces.{Seen, gap, marked, run, strange, front, run_answer, next_to_last, last, opens_literal}
use Rattle.mw_lex.specs.Pieces.{Gives, is_blank}
use Rattle.mw_lex.specs.Steps.{IsRead}
use Rattle.mw_lex.proofs.Tables.{mark_in_range}
use Rattle.mw_lex.proofs.Ranges.{range_push}
use Rattle.mw_lex.proofs.Fronts.{Means, means, blank_front}
use Rattle.mw_lex.proofs.Runs.{RunMeans, run_means}

pub reads_on : {at mid stop : ℕ} {bytes rest end : List ℕ} {front back : List PureToken} → Reads at bytes front mid rest
    → Reads mid rest back stop end → Reads at bytes (front ++ back) stop end
reads_on so_far r = r
reads_on (behind_blank v h) r = behind_blank v (reads_on h r)
reads_on (behind_comment body after e a f h) r = behind_comment body after e a f (reads_on h r)
reads_on (behind_token text after e l s h) r = behind_token text after e l s (reads_on h r)

pub start_read : (bytes : List ℕ) → IsRead bytes 0 []
start_read bytes = record { within = omega arith; reads = so_far; in_range = tt }

pub all_read : (bytes : List ℕ) (at : ℕ) (tokens : List PureToken) → IsRead bytes at tokens → length bytes ≤ at
    → AreTokens bytes tokens
all_read bytes at tokens h p =
    let e : at ≡ length bytes = omega (arith, h.within) in
    record {
      reads = subst (λ n. Reads 0 bytes tokens n []) e
          (subst (λ r. Reads 0 bytes tokens at r) (drop_all at bytes p) h.reads);
      in_range = h.in_range;
    }

module _ (bytes : List ℕ) (at : ℕ) (tokens : List PureToken) (h : IsRead bytes at tokens) (below : at < length bytes)
  where
    rest_some : 0 < length (drop at bytes)
    rest_some = omega (arith, length-drop at bytes)

    seen_means : (x : Seen) → front (drop at bytes) ≡ x → Means at (drop at bytes) x
    seen_means x e = subst (λ x. Means at (drop at bytes) x) e (means at (drop at bytes) rest_some)

    -- a token of n bytes
    with_token : (n : ℕ) (s : Symbol) → 0 < n → n ≤ length (drop at bytes) → IsLongest (take n (drop at bytes))
        (drop n (drop at bytes)) → Spells (take n (drop at bytes)) s → IsInRange (next_to_last minus minus tokens)
        (last minus tokens) s
        → IsRead bytes (at + n) (tokens ++ token at (at + n) s ∷ [])
    with_token n s p q l f i =
        let text = take n (drop at bytes) in
        let size : length text ≡ n = length-take-le n (drop at bytes) q in
        let one : Reads at (drop at bytes) (token at (at + length text) s ∷ []) (at + length text)
        (drop n (drop at bytes)) = behind_token text (drop n (drop at bytes))
        (sym (take-append-drop n (drop at bytes))) l f so_far in
        let read : Reads at (drop at bytes) (token at (at + n) s ∷ []) (at + n) (drop (at + n) bytes) =
        subst (λ r. Reads at (drop at bytes) (token at (at + n) s ∷ []) (at + n) r) (drop-drop n at bytes)
        (subst (λ k. Reads at (drop at bytes) (token at (at + k) s ∷ []) (at + k) (drop n (drop at bytes))) size one) in
        record {
          within = omega (arith, length-drop at bytes, q);
          reads = reads_on h.reads read;
          in_range =
              range_push minus minus tokens at (at + n) s h.in_range i;
        }

    pub step_gap : (n : ℕ) → front (drop at bytes) ≡ gap n → IsRead bytes (at + n) tokens
    step_gap n e =
        let m = seen_means (gap n) e in
        let whole : Reads 0 bytes (tokens ++ []) (at + n) (drop n (drop at bytes)) = reads_on h.reads m.0 in
        record {
          within = omega (arith, length-drop at bytes, m.2);
          reads = subst (λ t. Reads 0 bytes t (at + n) (drop (at + n) bytes)) (append-nil tokens)
              (subst (λ r. Reads 0 bytes (tokens ++ []) (at + n) r) (drop-drop n at bytes) whole);
          in_range = h.in_range;
        }

    pub blank_read : is_blank (get_or bytes at 0) ≡ true → IsRead bytes (at + 1) tokens
    blank_read e = step_gap 1 (ap front (drop-cons bytes at 0 below)
        ∙ blank_front (get_or bytes at 0) (drop (suc at) bytes) e)

    pub step_mark : (s : Symbol) (n : ℕ) → front (drop at bytes) ≡ marked s n
        → IsRead bytes (at + n) (tokens ++ token at (at + n) s ∷ [])
    step_mark s n e =
        let m = seen_means (marked s n) e in
        with_token n s m.2 m.3 m.1 (a_mark m.0)
        (mark_in_range (next_to_last minus minus tokens) (last minus tokens) (take n (drop at bytes)) s m.0)

    run_answers : (n : ℕ) → front (drop at bytes) ≡ run n → (a : Result Symbol Refusal)
        → run_answer (opens_literal tokens) at (take n (drop at bytes)) ≡ a
        → RunMeans tokens at (take n (drop at bytes))
        (drop n (drop at bytes)) a
    run_answers n e a f =
        let m = seen_means (run n) e in
        let size : length (take n (drop at bytes)) ≡ n = length-take-le n (drop at bytes) m.3 in
        subst (λ a. RunMeans tokens at (take n (drop at bytes)) (drop n (drop at bytes)) a) f
        (run_means tokens at (take n (drop at bytes)) (drop n (drop at bytes)) (omega (arith, size, m.2)) m.0 m.1)

    pub step_run : (n : ℕ) (s : Symbol) → front (drop at bytes) ≡ run n → run_answer (opens_literal tokens) at
        (take n (drop at bytes)) ≡ Ok s → IsRead bytes (at + n) (tokens ++ token at (at + n) s ∷ [])
    step_run n s e f =
        let m = seen_means (run n) e in
        let a = run_answers n e (Ok s) f in
        with_token n s m.2 m.3 a.0 a.1 a.2

    fault_here : (r : Refusal) → IsFault tokens at (drop at bytes) r → IsFirstFault bytes r
    fault_here r f = record {
      front = tokens;
      at = at;
      rest = drop at bytes;
      reads = h.reads;
      in_range = h.in_range;
      fault = f;
    }

    pub step_strange : (n : ℕ) → front (drop at bytes) ≡ strange n → IsFirstFault bytes (Char (at + n))
    step_strange n e = fault_here (Char (at + n)) ((seen_means (strange n) e).0 tokens)

    pub step_refused : (n : ℕ) (r : Refusal) → front (drop at bytes) ≡ run n → run_answer (opens_literal tokens) at
        (take n (drop at bytes)) ≡ Err r → IsFirstFault bytes r × IsOfLexing r
    step_refused n r e f =
        let a = run_answers n e (Err r) f in
        (fault_here r (subst (λ b. IsFault tokens at b r) (take-append-drop n (drop at bytes)) a.0), a.1)

    -- the answer for a run, by what the code read of the tokens and of the bytes
    pub same_answer : (n : ℕ) (lowest : Bool) (seen : List PureToken) (rest : List ℕ) → lowest ≡ opens_literal seen
        → seen ≡ tokens → rest ≡ drop at bytes
        → run_answer (opens_literal tokens) at (take n (drop at bytes)) ≡ run_answer lowest at (take n rest)
    same_answer n lowest seen rest e f g =
        ap (λ l. run_answer l at (take n (drop at bytes))) (sym (e ∙ ap opens_literal f))
        ∙ ap (λ r. run_answer lowest at (take n r)) (sym g)

    pub step_stops : (n : ℕ) (e : Stop) (a : Result Symbol Refusal) → front (drop at bytes) ≡ run n
        → run_answer (opens_literal tokens) at (take n (drop at bytes)) ≡ a → Gives (Err e) a
        → IfRefused (IsFirstFault bytes) e × IfRefused IsOfLexing e
    step_stops n (Refused r) a f g h = step_refused n r f (g ∙ h)
    step_stops n (Memory m) a f g h = (tt, tt)

-- all bytes are tokens or have a first fault
abbrev Either : List ℕ → Type 0
Either bytes = ((tokens : List PureToken) × AreTokens bytes tokens) ⊎ ((r : Refusal) × IsFirstFault bytes r)

module _ (bytes : List ℕ) (at : ℕ) (tokens : List PureToken) (h : IsRead bytes at tokens) (below : at < length bytes)
    (on : (n : ℕ) (more : List PureToken) → at < n → IsRead bytes n more → Either bytes) where
  by_run : (n : ℕ) → front (drop at bytes) ≡ run n → 0 < n → (a : Result Symbol Refusal)
      → run_answer (opens_literal tokens) at (take n (drop at bytes)) ≡ a → Either bytes
  by_run n e p (Ok s) f = on (at + n) (tokens ++ token at (at + n) s ∷ []) (omega arith)
      (step_run bytes at tokens h below n s e f)
  by_run n e p (Err r) f = inr (r, (step_refused bytes at tokens h below n r e f).0)

  by_seen : (x : Seen) → front (drop at bytes) ≡ x → Means at (drop at bytes) x → Either bytes
  by_seen (gap n) e m = on (at + n) tokens (omega (arith, m.1)) (step_gap bytes at tokens h below n e)
  by_seen (marked s n) e m = on (at + n) (tokens ++ token at (at + n) s ∷ []) (omega (arith, m.2))
      (step_mark bytes at tokens h below s n e)
  by_seen (run n) e m = by_run n e m.2 (run_answer (opens_literal tokens) at (take n (drop at bytes))) refl
  by_seen (strange n) e m = inr (Char (at + n), step_strange bytes at tokens h below n e)

  either_here : Either bytes
  either_here = by_seen (front (drop at bytes)) refl (means at (drop at bytes) (omega (arith, length-drop at bytes)))

either_from : (left : ℕ) (bytes : List ℕ) (at : ℕ) (tokens : List PureToken) → length bytes ≤ left + at
    → IsRead bytes at tokens → Either bytes
either_from zero bytes at tokens p h = inl (tokens, all_read bytes at tokens h (omega (arith, p)))
either_from (suc left) bytes at tokens p h =
    by_end (λ n more q r. either_from left bytes n more (omega (arith, p, q)) r) (nat_lt at (length bytes)) refl
  where
    by_end : ((n : ℕ) (more : List PureToken) → at < n → IsRead bytes n more → Either bytes) → (t : Bool)
        → nat_lt at (length bytes) ≡ t → Either bytes
    by_end on true e = either_here bytes at tokens h (ltb-true at (length bytes) e) on
    by_end on false e = inl (tokens, all_read bytes at tokens h (ltb-false at (length bytes) e))

pub either : (bytes : List ℕ) → ((tokens : List PureToken) × AreTokens bytes tokens)
    ⊎ ((r : Refusal) × IsFirstFault bytes r)
either bytes = either_from (length bytes) bytes 0 [] (omega arith) (start_read bytes)
