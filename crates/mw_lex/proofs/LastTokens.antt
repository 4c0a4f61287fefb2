-- The last two tokens.
use Rattle.std.proofs.Common.{◌≡◌, ◌-◌, ◌<◌, ◌≤◌, suc, List, [], ◌∷◌, ◌++◌, length, take, drop, get_or, drop-cons, refl}
use Rattle.std.proofs.Common.{ap, sym, ◌∙◌, arith, false, ◌&&◌}
use Rattle.std.proofs.lemmas.List.{take-append-drop, drop_all, get_or_default}
use Rattle.mw_lex.specs.declared.token.Kind.{Kind}
use Rattle.mw_lex.specs.declared.token.Kind.TheVariants as kind
use Rattle.mw_lex.specs.declared.token.Token.{Token}
use Rattle.mw_lex.specs.Tokens.{Symbol, minus, symbol_of, tokens_of}
use Rattle.mw_lex.specs.Pieces.{next_to_last, last, is_paren_left, is_minus, opens_literal}

pub no_paren : (k : Kind) → (k ≡ kind.ParenLeft → ⊥) → false ≡ is_paren_left (symbol_of k)
no_paren kind.ParenLeft e = absurd (e refl)
no_paren k e = refl

pub no_minus : (k : Kind) → (k ≡ kind.Minus → ⊥) → false ≡ is_minus (symbol_of k)
no_minus kind.Minus e = absurd (e refl)
no_minus k e = refl

last_behind : (b : Symbol) (front : List Token) (x y : Token) → last b (tokens_of (front ++ x ∷ y ∷ []))
    ≡ symbol_of y.kind
last_behind b [] x y = refl
last_behind b (t ∷ front) x y = last_behind (symbol_of t.kind) front x y

next_behind : (a b : Symbol) (front : List Token) (x y : Token) → next_to_last a b (tokens_of (front ++ x ∷ y ∷ []))
    ≡ symbol_of x.kind
next_behind a b [] x y = refl
next_behind a b (t ∷ front) x y = next_behind b (symbol_of t.kind) front x y

last_two : (tokens : List Token) (d : Token) → 2 ≤ length tokens → tokens ≡ take (length tokens - 2) tokens
    ++ get_or tokens (length tokens - 2) d ∷ get_or tokens (length tokens - 1) d ∷ []
last_two tokens d p =
    let n = length tokens - 2 in
    let e : drop n tokens ≡ get_or tokens n d ∷ drop (suc n) tokens = drop-cons tokens n d (omega arith) in
    let f : drop (suc n) tokens ≡ get_or tokens (suc n) d ∷ drop (suc (suc n)) tokens =
    drop-cons tokens (suc n) d (omega arith) in
    let g : drop (suc (suc n)) tokens ≡ [] = drop_all (suc (suc n)) tokens (omega arith) in
    let k : suc n ≡ length tokens - 1 = omega arith in
    sym (take-append-drop n tokens) ∙ ap (λ r. take n tokens ++ r)
    (e ∙ ap (λ r. get_or tokens n d ∷ r)
    (f ∙ ap (λ r. get_or tokens (suc n) d ∷ r) g ∙ ap (λ i. get_or tokens i d ∷ []) k))

pub opens_at : (tokens : List Token) (x y : Token) → 2 ≤ length tokens → x ≡ get_or tokens (length tokens - 2) x
    → y ≡ get_or tokens (length tokens - 1) y
    → opens_literal (tokens_of tokens) ≡ (is_paren_left (symbol_of x.kind) && is_minus (symbol_of y.kind))
opens_at tokens x y p e f =
    let front = take (length tokens - 2) tokens in
    let g : get_or tokens (length tokens - 1) x ≡ y = get_or_default tokens (length tokens - 1) x y (omega arith)
    ∙ sym f in
    let whole : tokens ≡ front ++ x ∷ y ∷ [] = last_two tokens x p
    ∙ ap (λ u. front ++ u ∷ get_or tokens (length tokens - 1) x ∷ []) (sym e) ∙ ap (λ v. front ++ x ∷ v ∷ []) g in
    ap (λ t. opens_literal (tokens_of t)) whole
    ∙ ap (λ s. is_paren_left s && is_minus (last minus (tokens_of (front ++ x ∷ y ∷ []))))
    (next_behind minus minus front x y)
    ∙ ap (λ s. is_paren_left (symbol_of x.kind) && is_minus s) (last_behind minus front x y)

pub opens_none : (tokens : List Token) → length tokens < 2 → opens_literal (tokens_of tokens) ≡ false
opens_none [] p = refl
opens_none (t ∷ []) p = refl
opens_none (t ∷ u ∷ tokens) p = absurd (omega arith)
