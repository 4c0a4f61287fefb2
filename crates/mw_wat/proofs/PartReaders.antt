-- Parts of fields, by the token that comes next.
use Rattle.std.proofs.Common.{◌≡◌, ℕ, suc, ◌+◌, ◌<◌, ◌≤◌, ◌&&◌, List, length, drop, get_or, drop-cons, add-one, nat_le}
use Rattle.std.proofs.Common.{refl, ap, sym, ◌∙◌, Bool, true, false, Option, Some, None}
use Rattle.std.specs.Prelude.{IfOk, Result, Ok, Err}
use Rattle.std.proofs.lemmas.List.{drop_all}
use Rattle.mw_wat.specs.declared.reading.cursor.Fault.{Fault}
use Rattle.mw_wasm.specs.declared.modules.Limits.{Limits}
use Rattle.mw_wat.specs.Tokens.{PureToken, string}
use Rattle.mw_wat.specs.Lexing.{Tokens, stop, token}
use Rattle.mw_wat.specs.Reading.{Read, got, bad, Reader, count, and_then, one_of, at_most, peek}
use Rattle.mw_wat.specs.Modules.{as_limit, upper, limits, are_printable, as_name, as_string}
use Rattle.mw_wat.specs.Cursors.{Gives, next}
use Rattle.mw_wat.specs.Parts.{maximum_by, maximum}
use Rattle.mw_wat.proofs.CursorReaders.{next_is, peek_ended}
use Rattle.mw_wat.proofs.Lookahead.{Local, no_longer}

-- no reader gives back more than it was given
pub gives_shorter : {X A : Type 0} (r : Reader A) → Local r → (ts : Tokens) (view : X → A) (rest : X → Tokens)
    (answer : Result X Fault) → Gives (λ x. got (view x) (rest x)) answer (r ts)
    → IfOk answer (λ x. count (rest x) ≤ count ts)
gives_shorter r a ts view rest (Ok x) g = no_longer r a ts (view x) (rest x) g
gives_shorter r a ts view rest (Err e) g = tt

-- limits
pub maximum_some : (ts : Tokens) (t : PureToken) (rest : Tokens) (n : ℕ) → next ts ≡ got t rest → as_limit t ≡ Some n
    → maximum ts ≡ got (Some n) rest
maximum_some ts t rest n e m = let k = next_is ts t rest e in rw (k.1, m) refl

pub maximum_none : (ts : Tokens) (t : PureToken) (rest : Tokens) → next ts ≡ got t rest → as_limit t ≡ None
    → maximum ts ≡ got None ts
maximum_none ts t rest e m = let k = next_is ts t rest e in rw (k.1, m) refl

pub maximum_ended : (ts us : Tokens) → next ts ≡ bad us → maximum ts ≡ bad us
maximum_ended ts us e = peek_ended (λ t. maximum_by (as_limit t)) ts us e

pub ruleset maximum_laws = (maximum_some, maximum_none, maximum_ended)

abbrev pub with_maximum : ℕ → Reader Limits
with_maximum min ts = and_then (maximum ts) λ max rest. got (record { min = min; max = max }) rest

upper_is : (min : ℕ) (ts : Tokens) → peek (λ t. upper min (as_limit t)) ts ≡ with_maximum min ts
upper_is min (stop at) = refl
upper_is min (token at t us) = by_limit (as_limit t)
  where
    by_limit : (o : Option ℕ) → upper min o (token at t us)
        ≡ and_then (maximum_by o (token at t us)) λ max rest. got (record { min = min; max = max }) rest
    by_limit None = refl
    by_limit (Some n) = refl

pub limits_are : (most : ℕ) (ts : Tokens) → limits most ts ≡ and_then (at_most most ts) with_maximum
limits_are most ts = by_first (at_most most ts)
  where
    by_first : (r : Read ℕ) → and_then r (λ min. peek (λ t. upper min (as_limit t))) ≡ and_then r with_maximum
    by_first (got min rest) = upper_is min rest
    by_first (bad rest) = refl

-- names
pub printable_here : (bytes : List ℕ) (n : ℕ) (all : Bool) → n < length bytes
    → (nat_le 0x20 (get_or bytes n 0) && nat_le (get_or bytes n 0) 0x7E) ≡ true → are_printable (drop n bytes) ≡ all
    → are_printable (drop (n + 1) bytes) ≡ all
printable_here bytes n all p e so_far =
    ap (λ k. are_printable (drop k bytes)) (add-one n)
    ∙ (sym (ap (λ t. t && are_printable (drop (suc n) bytes)) e)
    ∙ (sym (ap are_printable (drop-cons bytes n 0 p)) ∙ so_far))

pub not_printable : (bytes : List ℕ) (n : ℕ) (all : Bool) → n < length bytes
    → (nat_le 0x20 (get_or bytes n 0) && nat_le (get_or bytes n 0) 0x7E) ≡ false → are_printable (drop n bytes) ≡ all
    → false ≡ all
not_printable bytes n all p e so_far =
    sym (ap (λ t. t && are_printable (drop (suc n) bytes)) e)
    ∙ (sym (ap are_printable (drop-cons bytes n 0 p)) ∙ so_far)

pub all_printable : (bytes : List ℕ) (n : ℕ) (all : Bool) → length bytes ≤ n → are_printable (drop n bytes) ≡ all
    → true ≡ all
all_printable bytes n all p so_far = sym (ap are_printable (drop_all n bytes p)) ∙ so_far

pub ruleset printable_laws = (printable_here, not_printable, all_printable)

by_bytes : (bytes : List ℕ) (at : ℕ) (us : Tokens) → Bool → Read (List ℕ)
by_bytes bytes at us true = got bytes us
by_bytes bytes at us false = bad (token at (string bytes) us)

pub name_is : (ts : Tokens) (bytes : List ℕ) (rest : Tokens) → one_of as_string ts ≡ got bytes rest
    → are_printable bytes ≡ true → one_of as_name ts ≡ got bytes rest
name_is (token at (string w) us) bytes rest e p =
    let s : w ≡ bytes = cc in
    let q : are_printable w ≡ true = ap are_printable s ∙ p in
    rw q e
name_is _ bytes rest e p = absurd (cc)

pub no_name : (ts : Tokens) (bytes : List ℕ) (rest : Tokens) → one_of as_string ts ≡ got bytes rest
    → are_printable bytes ≡ false → one_of as_name ts ≡ bad ts
no_name (token at (string w) us) bytes rest e p =
    let s : w ≡ bytes = cc in
    let q : are_printable w ≡ false = ap are_printable s ∙ p in
    rw q refl
no_name _ bytes rest e p = absurd (cc)

pub no_string : (ts us : Tokens) → one_of as_string ts ≡ bad us → one_of as_name ts ≡ bad us
no_string (token at (string w) vs) us e = absurd (cc)
no_string _ us e = e

pub ruleset name_laws = (name_is, no_name, no_string)
