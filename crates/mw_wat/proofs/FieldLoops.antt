-- Fields of one kind, as a loop reads them.
use Rattle.std.proofs.Common.{◌≡◌, ℕ, zero, suc, ◌<◌, ◌≤◌, List, [], ◌∷◌, ◌++◌, map, refl, ap, sym, ◌∙◌, subst, arith}
use Rattle.std.proofs.Common.{append_assoc, Bool, true, false, Option, Some, None}
use Rattle.std.proofs.lemmas.List.{append-nil, map-append}
use Rattle.mw_wat.specs.declared.reading.cursor.Fault.{Fault}
use Rattle.mw_wat.specs.declared.reading.cursor.Fault.TheVariants.{Bad, Memory}
use Rattle.mw_wat.specs.Tokens.{left, right}
use Rattle.mw_wat.specs.Lexing.{Tokens, token}
use Rattle.mw_wat.specs.Reading.{Read, got, bad, Reader, count, and_then, gives, if_word, ◌>>=◌}
use Rattle.mw_wat.specs.Modules.{Fields, next_field, in_front, fields_up_to}
use Rattle.mw_wat.specs.Cursors.{is_word, Fails}
use Rattle.mw_wat.specs.Parts.{behind_word, one_field, fields_of}
use Rattle.mw_wat.proofs.CursorReaders.{by_choice, word_choice}
use Rattle.mw_wat.proofs.Lookahead.{no_longer, local_gives}
use Rattle.mw_wat.proofs.LookaheadOfCode.{local_if_word}

pub word_no_longer : (w : List ℕ) (ts : Tokens) (b : Bool) (rest : Tokens) → is_word w ts ≡ got b rest
    → count rest ≤ count ts
unfolding is_word
word_no_longer w ts b rest e =
    no_longer (if_word w (gives true) (gives false))
    (local_if_word w (gives true) (gives false) (local_gives true) (local_gives false)) ts b rest e

pub either_shorter : (ts : Tokens) (b : Bool) (rest : Tokens) → next_field ts ≡ got b rest → count rest < count ts
either_shorter (token at left us) b rest e = let s : us ≡ rest = cc in subst (λ r. count r < suc (count us)) s
    (omega arith)
either_shorter (token at right us) b rest e = let s : us ≡ rest = cc in subst (λ r. count r < suc (count us)) s
    (omega arith)
either_shorter _ b rest e = absurd (cc)

abbrev pub behind_field : {A : Type 0} → ℕ → List ℕ → Reader A → Option (A × Bool) → Reader (Fields A)
behind_field k w field None = gives (record { list = []; going = true })
behind_field k w field (Some x) = fields_up_to k w field x.1 >>= λ fs. gives (in_front x.0 fs)

pub up_to_is : {A : Type 0} (k : ℕ) (w : List ℕ) (field : Reader A) (ts : Tokens) → fields_up_to (suc k) w field true ts
    ≡ and_then (one_field w field ts) (behind_field k w field)
up_to_is {A = A} k w field ts =
    word_choice w (field >>= behind) (gives (record { list = []; going = true })) ts ∙ by_word (is_word w ts)
  where
    behind : A → Reader (Fields A)
    behind x = next_field >>= λ going. fields_up_to k w field going >>= λ fs. gives (in_front x fs)

    by_next : (x : A) (r : Read Bool)
        → and_then r (λ going. fields_up_to k w field going >>= λ fs. gives (in_front x fs))
        ≡ and_then (and_then r λ going rest. got (Some (x, going)) rest) (behind_field k w field)
    by_next x (got going rest) = refl
    by_next x (bad rest) = refl

    by_field : (r : Read A) → and_then r behind
        ≡ and_then (and_then r λ x. next_field >>= λ going. gives (Some (x, going))) (behind_field k w field)
    by_field (got x rest) = by_next x (next_field rest)
    by_field (bad rest) = refl

    by_word : (r : Read Bool)
        → and_then r (by_choice (field >>= behind) (gives (record { list = []; going = true })))
        ≡ and_then (and_then r (behind_word field)) (behind_field k w field)
    by_word (got true rest) = by_field (field rest)
    by_word (got false rest) = refl
    by_word (bad rest) = refl

abbrev pub with_fields : {A : Type 0} → List A → Read (Fields A) → Read (Fields A)
with_fields front read = and_then read λ fs rest. got (record { list = front ++ fs.list; going = fs.going }) rest

with_none : {A : Type 0} (r : Read (Fields A)) → with_fields [] r ≡ r
with_none (got fs rest) = refl
with_none (bad rest) = refl

with_one : {A : Type 0} (front : List A) (x : A) (r : Read (Fields A))
    → with_fields front (and_then r λ fs rest. got (in_front x fs) rest) ≡ with_fields (front ++ x ∷ []) r
with_one front x (got fs rest) =
    ap (λ ys. got (record { list = ys; going = fs.going }) rest) (sym (append_assoc front (x ∷ []) fs.list))
with_one front x (bad rest) = refl

-- what is still read, with room above the number of tokens
pub record FieldsLeft {X A : Type 0} (view : X → A) (w : List ℕ) (field : Reader A) (list : List X) (going : Bool)
    (ts : Tokens) (total : Read (Fields A)) : Type 0 where
  pub bound : ℕ
  pub enough : count ts < bound
  pub told : with_fields (map view list) (fields_up_to bound w field going ts) ≡ total

module _ {X A : Type 0} (view : X → A) (w : List ℕ) (field : Reader A) (list : List X) (going : Bool) (ts : Tokens)
    (total : Read (Fields A)) (left : FieldsLeft view w field list going ts total) where
  unrolled : (k : ℕ) → left.bound ≡ suc k → going ≡ true
      → with_fields (map view list) (and_then (one_field w field ts) (behind_field k w field)) ≡ total
  unrolled k e g =
      sym
      (ap (λ n. with_fields (map view list) (fields_up_to n w field going ts)) e
      ∙ (ap (λ b. with_fields (map view list) (fields_up_to (suc k) w field b ts)) g
      ∙ ap (with_fields (map view list)) (up_to_is k w field ts)))
      ∙ left.told

  lower : (n : ℕ) → count ts < n → (k : ℕ) × (n ≡ suc k)
  lower zero p = absurd (omega arith)
  lower (suc k) p = (k, refl)

  pub fields_more : (x : X) (list' : List X) (more : Bool) (rest : Tokens)
      → one_field w field ts ≡ got (Some (view x, more)) rest → count rest < count ts → going ≡ true
      → list' ≡ list ++ x ∷ [] → FieldsLeft view w field list' more rest total
  fields_more x list' more rest e s g l =
      let b = lower left.bound left.enough in
      let p : count ts < suc b.0 = subst (λ n. count ts < n) b.1 left.enough in
      record {
        bound = b.0;
        enough = omega arith;
        told =
            ap (λ z. with_fields z (fields_up_to b.0 w field more rest))
            (ap (map view) l ∙ map-append view list (x ∷ []))
            ∙ (sym (with_one (map view list) (view x) (fields_up_to b.0 w field more rest))
            ∙ (sym (ap (λ r. with_fields (map view list) (and_then r (behind_field b.0 w field))) e)
            ∙ unrolled b.0 b.1 g));
      }

  pub fields_none : (rest : Tokens) → one_field w field ts ≡ got None rest → going ≡ true
      → total ≡ got (fields_of view list true) rest
  fields_none rest e g =
      let b = lower left.bound left.enough in
      sym (unrolled b.0 b.1 g)
      ∙ (ap (λ r. with_fields (map view list) (and_then r (behind_field b.0 w field))) e
      ∙ ap (λ ys. got (record { list = ys; going = true }) rest) (append-nil (map view list)))

  pub fields_fail : (f : Fault) → Fails f (one_field w field ts) → going ≡ true → Fails f total
  fields_fail (Memory m) e g = tt
  fields_fail (Bad c) e g =
      let b = lower left.bound left.enough in
      sym (unrolled b.0 b.1 g) ∙ ap (λ r. with_fields (map view list) (and_then r (behind_field b.0 w field))) e
