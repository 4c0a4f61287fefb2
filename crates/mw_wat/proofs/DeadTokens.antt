-- Where reading doesn't go on no module's text does.
use Rattle.std.proofs.Common.{◌≡◌, ℕ, List, [], ◌∷◌, ◌++◌, refl, ap, sym, ◌∙◌, subst, arith, append_assoc}
use Rattle.mw_wasm.specs.Syntax.{PureModule}
use Rattle.mw_wat.specs.Tokens.{PureToken}
use Rattle.mw_wat.specs.Lexemes.{lexemes}
use Rattle.mw_wat.specs.ModuleTexts.{Says, IsDead}
use Rattle.mw_wat.specs.Lexing.{Tokens, stop, token}
use Rattle.mw_wat.specs.Reading.{Read, got, bad}
use Rattle.mw_wat.specs.Modules.{whole_module}
use Rattle.mw_wat.proofs.TokensOfText.{Placed, p_here, p_there}
use Rattle.mw_wat.proofs.OneModule.{stands}
use Rattle.mw_wat.proofs.ModuleIsRead.{module_got}
use Rattle.mw_wat.proofs.Lookahead.{LocalAt, gets, loses, SameHead, both_go, goes, same_front, placed_parts, bad_parts}
use Rattle.mw_wat.proofs.Lookahead.{got_parts}
use Rattle.mw_wat.proofs.LookaheadOfModules.{local_module}

-- tokens at place 0
pub laid : List PureToken → Tokens
laid [] = stop 0
laid (t ∷ ts) = token 0 t (laid ts)

pub laid_placed : (ts : List PureToken) → Placed (laid ts) ts (stop 0)
unfolding laid
laid_placed [] = p_here
laid_placed (t ∷ ts) = p_there (laid_placed ts)

said_is_read : (ts : List PureToken) (m : PureModule) → Says ts m → whole_module (laid ts) ≡ got m (stop 0)
said_is_read ts m s = module_got m s.has
    (stands (lexemes m) s.has.ranges (subst (λ us. Placed (laid ts) us (stop 0)) s.tokens_are (laid_placed ts)))

heads : {at : ℕ} {t : PureToken} {more ms vs : Tokens} {ts : List PureToken} → Placed ms (t ∷ ts) vs → SameHead
    (token at t more) ms
heads (p_there p) = both_go

pub bad_or_got : {A : Type 0} (r : Read A) (x : A) (a b : Tokens) → r ≡ got x a → r ≡ bad b → ⊥
bad_or_got r x a b d e = absurd (let f : got x a ≡ bad b = sym d ∙ e in cc)

end_of : {A : Type 0} → Read A → ℕ
end_of (got x (stop at)) = 0
end_of (got x (token at t rest)) = 1
end_of (bad rest) = 2

stop_or_token : {A : Type 0} (r : Read A) (x y : A) (a at : ℕ) (t : PureToken) (rest : Tokens) → r ≡ got x (stop a)
    → r ≡ got y (token at t rest) → ⊥
unfolding end_of
stop_or_token r x y a at t rest d e = absurd (let f : 0 ≡ 1 = sym (ap end_of d) ∙ ap end_of e in omega arith)

some_behind : (m : Tokens) (t : PureToken) (ts : List PureToken) (vs : Tokens) → Placed m (t ∷ ts) vs → (at : ℕ)
    × (rest : Tokens) × (m ≡ token at t rest)
some_behind _ t ts vs (p_there {at = at} {ts = rest} p) = (at, rest, refl)

-- at a token
pub bad_is_dead : (ts : Tokens) (front : List PureToken) (at : ℕ) (t : PureToken) (more : Tokens) → Placed ts front
    (token at t more) → whole_module ts ≡ bad (token at t more) → IsDead (front ++ t ∷ [])
bad_is_dead ts front at t more p e = by_local (local_module ts)
  where
    by_local : LocalAt whole_module ts → IsDead (front ++ t ∷ [])
    by_local (gets f x rest q d l) = absurd (bad_or_got (whole_module ts) x rest (token at t more) d e)
    by_local (loses f rest q d l) = λ others m s.
        let same_rest : rest ≡ token at t more = bad_parts (whole_module ts) rest (token at t more) d e in
        let same : f ≡ front = same_front f front (subst (λ r. Placed ts f r) same_rest q) p in
        let whole = subst (λ us. Placed (laid (front ++ t ∷ [] ++ others)) us (stop 0))
        (append_assoc front (t ∷ []) others) (laid_placed (front ++ t ∷ [] ++ others)) in
        let parts = placed_parts front (t ∷ others) whole in
        bad_or_got (whole_module (laid (front ++ t ∷ [] ++ others))) m (stop 0) parts.0
        (said_is_read (front ++ t ∷ [] ++ others) m s)
        (l (laid (front ++ t ∷ [] ++ others)) parts.0
        (subst (λ g. Placed (laid (front ++ t ∷ [] ++ others)) g parts.0) (sym same) parts.1)
        (subst (λ r. SameHead r parts.0) (sym same_rest) (heads parts.2)))

-- behind a module
pub behind_is_dead : (ts : Tokens) (front : List PureToken) (m : PureModule) (at : ℕ) (t : PureToken) (more : Tokens)
    → Placed ts front (token at t more) → whole_module ts ≡ got m (token at t more) → IsDead (front ++ t ∷ [])
behind_is_dead ts front m at t more p e = by_local (local_module ts)
  where
    by_local : LocalAt whole_module ts → IsDead (front ++ t ∷ [])
    by_local (loses f rest q d l) = absurd (bad_or_got (whole_module ts) m (token at t more) rest e d)
    by_local (gets f x rest q d l) = λ others k s.
        let same_rest : rest ≡ token at t more = (got_parts x m rest (token at t more) (sym d ∙ e)).1 in
        let same : f ≡ front = same_front f front (subst (λ r. Placed ts f r) same_rest q) p in
        let whole = subst (λ us. Placed (laid (front ++ t ∷ [] ++ others)) us (stop 0))
        (append_assoc front (t ∷ []) others) (laid_placed (front ++ t ∷ [] ++ others)) in
        let parts = placed_parts front (t ∷ others) whole in
        let last = some_behind parts.0 t others (stop 0) parts.2 in
        stop_or_token (whole_module (laid (front ++ t ∷ [] ++ others))) k x 0 last.0 t last.1
        (said_is_read (front ++ t ∷ [] ++ others) k s)
        (l (laid (front ++ t ∷ [] ++ others)) parts.0
        (subst (λ g. Placed (laid (front ++ t ∷ [] ++ others)) g parts.0) (sym same) parts.1)
        (goes (subst (λ r. SameHead r parts.0) (sym same_rest) (heads parts.2))) ∙ ap (λ r. got x r) last.2)

-- at the end
pub ended_is_none : (ts : Tokens) (tokens : List PureToken) (at a : ℕ) → Placed ts tokens (stop at)
    → whole_module ts ≡ bad (stop a) → (m : PureModule) → Says tokens m → ⊥
ended_is_none ts tokens at a p e m s = bad_or_got (whole_module ts) m (stop at) (stop a)
    (module_got m s.has (stands (lexemes m) s.has.ranges (subst (λ us. Placed ts us (stop at)) s.tokens_are p))) e
