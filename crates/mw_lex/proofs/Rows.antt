-- Worked rows: what some bytes are, and some faults.
use Rattle.std.proofs.Common.{◌≡◌, [], ◌∷◌, refl, lit<, codes, Some, None}
use Rattle.mw_term.specs.declared.refusal.Refusal.TheVariants.{Char, Number, Name}
use Rattle.mw_lex.specs.Texts.{mark, reserved, decimal}
use Rattle.mw_lex.specs.Tokens.{token, less, less_equal, equal, minus, arrow, paren_left, let_word, lift_word}
use Rattle.mw_lex.specs.Tokens.{lift_b_word, word, number}
use Rattle.mw_lex.specs.Reading.{AreTokens, IsFirstFault}
use Rattle.mw_lex.specs.Steps.{IsRead}
use Rattle.mw_lex.proofs.StepsOn.{start_read, all_read, step_gap, step_mark, step_run, step_strange, step_refused}

-- the tables and the value of digits
row_less_equal : mark (codes "<=") ≡ Some less_equal
row_less_equal = refl

row_dot : mark (codes ".") ≡ None
row_dot = refl

row_lift : reserved (codes "lift") ≡ Some lift_word
row_lift = refl

row_lift_b : reserved (codes "liftb") ≡ Some lift_b_word
row_lift_b = refl

row_lifts : reserved (codes "lifts") ≡ None
row_lifts = refl

row_zeros : decimal 0 (codes "0042") ≡ 42
row_zeros = refl

-- one token, and not `<` and `=`
row_longest : AreTokens (codes "<=") (token 0 2 less_equal ∷ [])
row_longest = all_read (codes "<=") 2 _ (step_mark (codes "<=") 0 [] (start_read (codes "<=")) (lit< tt) less_equal 2
    refl) (lit< tt)

-- two tokens
row_apart : AreTokens (codes "< =") (token 0 1 less ∷ token 2 3 equal ∷ [])
row_apart =
    let bytes = codes "< =" in
    let one : IsRead bytes 1 (token 0 1 less ∷ []) = step_mark bytes 0 [] (start_read bytes) (lit< tt) less 1 refl in
    let two : IsRead bytes 2 (token 0 1 less ∷ []) = step_gap bytes 1 (token 0 1 less ∷ []) one (lit< tt) 1 refl in
    all_read bytes 3 _ (step_mark bytes 2 (token 0 1 less ∷ []) two (lit< tt) equal 1 refl) (lit< tt)

-- a reserved word, and a name that begins with one
row_words : AreTokens (codes "let lets") (token 0 3 let_word ∷ token 4 8 (word (codes "lets")) ∷ [])
row_words =
    let bytes = codes "let lets" in
    let one : IsRead bytes 3 (token 0 3 let_word ∷ []) = step_run bytes 0 [] (start_read bytes) (lit< tt) 3 let_word
    refl refl in
    let two : IsRead bytes 4 (token 0 3 let_word ∷ []) = step_gap bytes 3 (token 0 3 let_word ∷ []) one (lit< tt) 1
    refl in
    all_read bytes 8 _ (step_run bytes 4 (token 0 3 let_word ∷ []) two (lit< tt) 4 (word (codes "lets")) refl refl)
    (lit< tt)

-- 2^63 after `(` and `-`, and alone
row_lowest : AreTokens (codes "(-9223372036854775808")
    (token 0 1 paren_left ∷ token 1 2 minus ∷ token 2 21 (number 9223372036854775808) ∷ [])
row_lowest =
    let bytes = codes "(-9223372036854775808" in
    let one : IsRead bytes 1 (token 0 1 paren_left ∷ []) = step_mark bytes 0 [] (start_read bytes) (lit< tt) paren_left
    1 refl in
    let two : IsRead bytes 2 (token 0 1 paren_left ∷ token 1 2 minus ∷ []) =
    step_mark bytes 1 (token 0 1 paren_left ∷ []) one (lit< tt) minus 1 refl in
    all_read bytes 21 _ (step_run bytes 2 (token 0 1 paren_left ∷ token 1 2 minus ∷ []) two (lit< tt) 19
    (number 9223372036854775808) refl refl) (lit< tt)

row_alone : IsFirstFault (codes "9223372036854775808") (Number 0)
row_alone = (step_refused (codes "9223372036854775808") 0 [] (start_read (codes "9223372036854775808")) (lit< tt) 19
    (Number 0) refl refl).0

-- the run is no number, and no number and a name
row_misspelt : IsFirstFault (codes "1x") (Number 0)
row_misspelt = (step_refused (codes "1x") 0 [] (start_read (codes "1x")) (lit< tt) 2 (Number 0) refl refl).0

-- a single `;` after two
row_semicolon : IsFirstFault (codes "-> ;") (Char 3)
row_semicolon =
    let bytes = codes "-> ;" in
    let one : IsRead bytes 2 (token 0 2 arrow ∷ []) = step_mark bytes 0 [] (start_read bytes) (lit< tt) arrow 2 refl in
    let two : IsRead bytes 3 (token 0 2 arrow ∷ []) = step_gap bytes 2 (token 0 2 arrow ∷ []) one (lit< tt) 1 refl in
    step_strange bytes 3 (token 0 2 arrow ∷ []) two (lit< tt) 0 refl

-- a comment goes on over a carriage return, and a byte in it that isn't allowed is refused
row_comment : IsFirstFault (35 ∷ 13 ∷ 127 ∷ []) (Char 2)
row_comment = step_strange (35 ∷ 13 ∷ 127 ∷ []) 0 [] (start_read (35 ∷ 13 ∷ 127 ∷ [])) (lit< tt) 2 refl

-- words of 64 and of 65 bytes
row_long : IsFirstFault (codes "aaaaaaaaaaaaaaaaaaaaaaaaaaaaaaaaaaaaaaaaaaaaaaaaaaaaaaaaaaaaaaaaa") (Name 0)
row_long =
    let bytes = codes "aaaaaaaaaaaaaaaaaaaaaaaaaaaaaaaaaaaaaaaaaaaaaaaaaaaaaaaaaaaaaaaaa" in
    (step_refused bytes 0 [] (start_read bytes) (lit< tt) 65 (Name 0) refl refl).0
