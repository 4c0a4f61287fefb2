-- The place that reading answers is a bad place.
use Rattle.std.proofs.Common.{◌≡◌, ◌⊎◌, inl, inr, ⊎_elim, ℕ, suc, ◌-◌, ◌≤◌, List, [], length, refl, ap, sym, ◌∙◌, subst}
use Rattle.std.proofs.Common.{arith, Bool, true, false}
use Rattle.std.specs.Prelude.{nat_le, Result, Ok, Err, if◌then◌else◌}
use Rattle.std.proofs.lemmas.Bool.{le-leb, false≢true, cases_lt}
use Rattle.mw_wasm.specs.Syntax.{PureModule}
use Rattle.mw_wasm.specs.Profile.{IsWithinFileLimit}
use Rattle.mw_wat.specs.Tokens.{PureToken, ReadsTo}
use Rattle.mw_wat.specs.ModuleTexts.{IsBadPlace, no_token, no_module, unfinished, too_long}
use Rattle.mw_wat.specs.Lexing.{Tokens, stop, token, tokens}
use Rattle.mw_wat.specs.Reading.{got, bad, place_of}
use Rattle.mw_wat.specs.Modules.{whole_module, up_to_end, limited, module_read}
use Rattle.mw_wat.proofs.TokensOfText.{Placed}
use Rattle.mw_wat.proofs.TextOfTokens.{At, at_end, at_none, at_token, Reached, reached}
use Rattle.mw_wat.proofs.Lookahead.{LocalAt, gets, loses}
use Rattle.mw_wat.proofs.LookaheadOfModules.{local_module}
use Rattle.mw_wat.proofs.DeadTokens.{bad_is_dead, behind_is_dead, ended_is_none}

abbrev wrong : ℕ → Result PureModule ℕ
wrong at = Err at

place_in : Result PureModule ℕ → ℕ
place_in (Ok m) = 0
place_in (Err at) = at

same_error : (a b : ℕ) (r q : Result PureModule ℕ) → r ≡ Err a → q ≡ Err b → r ≡ q → a ≡ b
unfolding place_in
same_error a b r q d f e = sym (ap place_in d) ∙ ap place_in e ∙ ap place_in f

within : (n at : ℕ) → at ≤ n → at ≤ 67_108_864 ⊎ (n ≤ 67_108_864 → ⊥)
within n at p = ⊎_elim (λ q. inr (λ r. omega arith)) (λ q. inl q) (cases_lt 67_108_864 at)

module _ (bytes : List ℕ) (ts : Tokens)
    (all : (front : List PureToken) (rest : Tokens) → Placed ts front rest → Reached (length bytes) bytes front rest)
  where
    at_bad : (front : List PureToken) (rest : Tokens) → Placed ts front rest → whole_module ts ≡ bad rest
        → (left : List ℕ) → ReadsTo bytes front left → At (length bytes) rest left → IsBadPlace bytes (place_of rest)
    at_bad front (stop _) p e [] r at_end = subst (IsBadPlace bytes) (omega arith)
        (unfinished r (ended_is_none ts front (length bytes - 0) (length bytes - 0) p e))
    at_bad front (stop _) p e left r (at_none n) = no_token r n
    at_bad front (token _ t more) p e left r (at_token g) = no_module r g
        (bad_is_dead ts front (length bytes - length left) t more p e)

    behind : (front : List PureToken) (m : PureModule) (rest : Tokens) → Placed ts front rest
        → whole_module ts ≡ got m rest → (left : List ℕ) → ReadsTo bytes front left → At (length bytes) rest left
        → (at : ℕ) → up_to_end (length bytes) (got m rest) ≡ Err at → IsBadPlace bytes at
    behind front m (stop _) p e [] r at_end at f = by_test (nat_le (length bytes) (length bytes - 0))
        (le-leb (length bytes) (length bytes - 0) (omega arith)) f
      where
        by_test : (t : Bool) → t ≡ true → (if t then Ok m else Err (length bytes - 0)) ≡ Err at → IsBadPlace bytes at
        by_test true e f = absurd (cc)
        by_test false e f = absurd (false≢true e)
    behind front m (stop _) p e left r (at_none n) at f = by_test
        (nat_le (length bytes) (length bytes - length left)) f
      where
        by_test : (t : Bool) → (if t then Ok m else Err (length bytes - length left)) ≡ Err at → IsBadPlace bytes at
        by_test true f = absurd (cc)
        by_test false f = subst (IsBadPlace bytes) (same_error _ at _ _ refl refl f) (no_token r n)
    behind front m (token _ t more) p e left r (at_token g) at f =
        subst (IsBadPlace bytes) (same_error _ at _ _ refl refl f)
        (no_module r g (behind_is_dead ts front m (length bytes - length left) t more p e))

    by_local : LocalAt whole_module ts → (at : ℕ) → up_to_end (length bytes) (whole_module ts) ≡ Err at
        → IsBadPlace bytes at
    by_local (gets front m rest p e l) at f = let r = all front rest p in
        behind front m rest p e r.left r.reads r.here at (sym (ap (up_to_end (length bytes)) e) ∙ f)
    by_local (loses front rest p e l) at f =
        let r = all front rest p in
        subst (IsBadPlace bytes)
        (same_error (place_of rest) at _ _ refl refl (sym (ap (up_to_end (length bytes)) e) ∙ f))
        (at_bad front rest p e r.left r.reads r.here)

pub placed_bytes : (bytes : List ℕ) (front : List PureToken) (rest : Tokens) → Placed
    (tokens (length bytes) bytes) front rest → Reached (length bytes) bytes front rest
unfolding tokens
placed_bytes bytes front rest p = reached (suc (length bytes)) (length bytes) bytes (omega arith) front rest p

end_is_within : (bytes : List ℕ) (at : ℕ) → IsBadPlace bytes at → at ≤ 67_108_864 ⊎ (IsWithinFileLimit bytes → ⊥)
end_is_within bytes _ (no_token {rest = rest} r n) = within (length bytes) (length bytes - length rest) (omega arith)
end_is_within bytes _ (no_module {rest = rest} r g d) = within (length bytes) (length bytes - length rest)
    (omega arith)
end_is_within bytes _ (unfinished r n) = within (length bytes) (length bytes) (omega arith)
end_is_within bytes _ (too_long n) = inr n

-- what is answered is a bad place
pub answered_is_bad : (bytes : List ℕ) (at : ℕ) → module_read bytes ≡ Err at → IsBadPlace bytes at
answered_is_bad bytes at e = by_read (up_to_end (length bytes) (whole_module (tokens (length bytes) bytes))) refl e
  where
    inner : (other : ℕ) → up_to_end (length bytes) (whole_module (tokens (length bytes) bytes)) ≡ Err other
        → IsBadPlace bytes other
    inner other f = by_local bytes (tokens (length bytes) bytes) (placed_bytes bytes)
        (local_module (tokens (length bytes) bytes)) other f

    long : (m : PureModule) (t : Bool) → nat_le (length bytes) 67_108_864 ≡ t
        → (if t then Ok m else Err 67_108_864) ≡ Err at → IsBadPlace bytes at
    long m true p e = absurd (cc)
    long m false p e = subst (IsBadPlace bytes) (same_error 67_108_864 at _ _ refl refl e)
        (too_long λ w. false≢true (sym p ∙ le-leb (length bytes) 67_108_864 w))

    short : (other : ℕ) (t : Bool) → nat_le other 67_108_864 ≡ t → IsBadPlace bytes other
        → (if t then wrong other else wrong 67_108_864) ≡ Err at → IsBadPlace bytes at
    short other true p b e = subst (IsBadPlace bytes) (same_error other at _ _ refl refl e) b
    short other false p b e = subst (IsBadPlace bytes) (same_error 67_108_864 at _ _ refl refl e)
        (too_long (beyond other p b))
      where
        beyond : (other : ℕ) → nat_le other 67_108_864 ≡ false → IsBadPlace bytes other → IsWithinFileLimit bytes → ⊥
        beyond other p b w = ⊎_elim (λ q. false≢true (sym p ∙ le-leb other 67_108_864 q)) (λ n. n w)
            (end_is_within bytes other b)

    by_read : (r : Result PureModule ℕ) → up_to_end (length bytes) (whole_module (tokens (length bytes) bytes)) ≡ r
        → limited (length bytes) r ≡ Err at → IsBadPlace bytes at
    by_read (Ok m) f e = long m (nat_le (length bytes) 67_108_864) refl e
    by_read (Err other) f e = short other (nat_le other 67_108_864) refl (inner other f) e
