-- Code that is read is what the tokens say.
use Rattle.std.proofs.Common.{◌≡◌, ℕ, zero, suc, ◌-◌, ◌<◌, ◌≤◌, ◌^◌, List, [], ◌∷◌, ◌++◌, length, map, take, drop, refl}
use Rattle.std.proofs.Common.{ap, sym, ◌∙◌, subst, arith, Option, Some, None, append_assoc}
use Rattle.std.proofs.Common.{append-nil}
use Rattle.std.specs.Prelude.{ℤ, pos, negsuc, FitsSigned, nat_lt, codes}
use Rattle.std.specs.Int.{Width, w32, w64, cast_signed, cast_unsigned}
use Rattle.std.specs.Str.{bytes_eq}
use Rattle.std.specs.Fmt.{signed_decimal}
use Rattle.std.proofs.lemmas.Option.{none-some, same_Some}
use Rattle.std.proofs.lemmas.Bool.{ltb-true}
use Rattle.std.proofs.lemmas.Slice.Eq.{bytes_eq-Decides}
use Rattle.std.proofs.lemmas.List.{take-append-drop}
use Rattle.std.proofs.lemmas.Int.{to_z-of_z}
use mir.Val.{bits, hbits}
use Rattle.mw_wasm.specs.declared.values.ValType.{ValType}
use Rattle.mw_wasm.specs.declared.values.ValType.TheVariants.{I32, I64}
use Rattle.mw_wasm.specs.Syntax.{Instruction, Code}
use Rattle.mw_wasm.specs.Syntax.{end, next}
use Rattle.mw_wasm.specs.Profile.{depth, depth_of}
use Rattle.mw_wasm.specs.BinaryModules.{at_most_one}
use Rattle.mw_wat.specs.Tokens.{PureToken}
use Rattle.mw_wat.specs.Tokens as t
use Rattle.mw_wat.specs.Names.{type_name}
use Rattle.mw_wat.specs.Lexemes.{Lexeme, left, right, word, number, keyed, constant, token_of, types_behind}
use Rattle.mw_wat.specs.Lexemes.{instruction, code, otherwise}
use Rattle.mw_wat.specs.Lexing.{Tokens, stop, token}
use Rattle.mw_key.specs.Numbers.{below, natural_of, integer_of}
use Rattle.mw_wat.specs.Reading.{Reader, ◌>>=◌, one_of, skip, this, as_left, as_right, as_word, opening}
use Rattle.mw_wat.specs.Reading.{closing, as_number, index, count, all_of, as_type, value_type}
use Rattle.mw_wat.specs.Instructions as read
use Rattle.mw_wat.specs.Instructions.{fits, fits_some, as_constant, as_keyed, table_behind}
use Rattle.mw_wat.specs.Instructions.{Opener, a_block, a_loop, an_if, Meaning, ends, turns, opens, alone}
use Rattle.mw_wat.specs.Instructions.{meaning, Place, whole, inner, first, fresh, onward, Mark, closed, ended, turned}
use Rattle.mw_wat.specs.Instructions.{Listed, Lists, nothing, result, block_type, second, inside, opened, more}
use Rattle.mw_wat.specs.Instructions.{meant, by_token, listed, instructions, expression}
use Rattle.mw_key.proofs.NumberWords.{below_found, integer_found}
use Rattle.mw_wat.proofs.LexemeSoundness.{IsKnown, ReadsAt, Reads, Tells, says_bad, says_gives, says_weak, says_then}
use Rattle.mw_wat.proofs.LexemeSoundness.{tells_then, tells_last, says_first, says_opened, MeansBack, tells_one}
use Rattle.mw_wat.proofs.LexemeSoundness.{tells_all, by_word, tested, number_back, says_number}
use Rattle.mw_wat.proofs.MeaningsOfWords.{opener_word, HoldsOfKinds, meaning_holds}

-- what single tokens mean
left_back : MeansBack as_left (λ _. left)
left_back t.left x e = (refl, tt)
left_back _ x e = absurd (none-some x e)

right_back : MeansBack as_right (λ _. right)
right_back t.right x e = (refl, tt)
right_back _ x e = absurd (none-some x e)

word_back : (w : List ℕ) → MeansBack (as_word w) (λ _. word w)
word_back w (t.word v) x e =
    by_word (λ _ u. (t.word w ≡ t.word u) × Unit {0}) v w tt None x (refl, tt) (λ d. absurd (none-some x d)) e
word_back w _ x e = absurd (none-some x e)

pub type_back : MeansBack as_type (λ t. word (type_name t))
type_back (t.word v) x e = by_word Same v (codes "i32") I32 _ x (refl, tt)
    (by_word Same v (codes "i64") I64 None x (refl, tt) (λ d. absurd (none-some x d))) e
  where
    Same : ValType → List ℕ → Type 0
    Same y u = (t.word (type_name y) ≡ t.word u) × Unit {0}
type_back _ x e = absurd (none-some x e)

keyed_back : (key : List ℕ) → MeansBack (as_keyed key) (keyed key)
keyed_back key (t.word v) x e =
    let b = tested (bytes_eq (take (length key) v) key) (below (2 ^ 32) (natural_of (drop (length key) v))) x e in
    let q = below_found (2 ^ 32) (drop (length key) v) x b.1 in (
      ap (λ r. t.word (key ++ r)) (sym q.0)
          ∙ ap (λ r. t.word (r ++ drop (length key) v)) (sym ((bytes_eq-Decides (take (length key) v) key).0 b.0))
          ∙ ap t.word (take-append-drop (length key) v),
      q.1,
    )
keyed_back key _ x e = absurd (none-some x e)

fits_back : (w : Width) (z : ℤ) (x : ℕ) → fits w z ≡ Some x → FitsSigned w z × (cast_unsigned w z ≡ x)
fits_back w (pos n) x e =
    let b = tested (nat_lt n (2 ^ hbits w)) (Some (cast_unsigned w (pos n))) x e in
    (record { sfits = ltb-true n (2 ^ hbits w) b.0 }, same_Some (cast_unsigned w (pos n)) x b.1)
fits_back w (negsuc n) x e =
    let b = tested (nat_lt n (2 ^ hbits w)) (Some (cast_unsigned w (negsuc n))) x e in
    (record { sfits = ltb-true n (2 ^ hbits w) b.0 }, same_Some (cast_unsigned w (negsuc n)) x b.1)

constant_of : (w : Width) (v : List ℕ) (x : ℕ) → as_constant w (t.word v) ≡ Some x
    → (signed_decimal (cast_signed w x) ≡ v) × ((z : ℤ) × FitsSigned w z × (cast_unsigned w z ≡ x))
constant_of w v x e = by_number (integer_of v) refl e
  where
    by_number : (o : Option ℤ) → integer_of v ≡ o → fits_some w o ≡ Some x → (signed_decimal (cast_signed w x) ≡ v)
        × ((z : ℤ) × FitsSigned w z × (cast_unsigned w z ≡ x))
    by_number None d e = absurd (none-some x e)
    by_number (Some z) d e =
        let f = fits_back w z x e in
        let i = integer_found v z d in (
          ap (λ n. signed_decimal (cast_signed w n)) (sym f.1) ∙ ap signed_decimal (to_z-of_z w z f.0) ∙ sym i.0,
          (z, f.0, f.1),
        )

small_32 : (z : ℤ) → FitsSigned w32 z → cast_unsigned w32 z < 2 ^ 32
small_32 (pos n) f = let q = f.sfits in omega arith
small_32 (negsuc n) f = let q = f.sfits in omega arith

small_64 : (z : ℤ) → FitsSigned w64 z → cast_unsigned w64 z < 2 ^ 64
small_64 (pos n) f = let q = f.sfits in omega arith
small_64 (negsuc n) f = let q = f.sfits in omega arith

constant_back : (w : Width) → ((z : ℤ) → FitsSigned w z → cast_unsigned w z < 2 ^ bits w)
    → MeansBack (as_constant w) (constant w)
constant_back w small (t.word v) x e = let c = constant_of w v x e in
    (ap t.word c.0, subst (λ n. n < 2 ^ bits w) c.1.2 (small c.1.0 c.1.1))
constant_back w small _ x e = absurd (none-some x e)

-- single readers
pub says_opening : Tells opening (λ _. left ∷ []) (λ _. Unit {0})
says_opening = tells_one as_left (λ _. left) left_back

pub says_closing : Tells closing (λ _. right ∷ []) (λ _. Unit {0})
says_closing = tells_one as_right (λ _. right) right_back

pub says_this : (w : List ℕ) → Tells (this w) (λ _. word w ∷ []) (λ _. Unit {0})
says_this w = tells_one (as_word w) (λ _. word w) (word_back w)

pub says_index : Tells index (λ x. number x ∷ []) (λ x. x ≤ 2 ^ 32 - 1)
says_index = says_number (2 ^ 32 - 1) (omega arith)

pub says_indices : Tells (all_of (as_number (2 ^ 32 - 1))) (map number) (λ _. Unit {0})
says_indices = tells_all (as_number (2 ^ 32 - 1)) number (number_back (2 ^ 32 - 1) (omega arith))

pub says_type : Tells value_type (λ t. word (type_name t) ∷ []) (λ _. Unit {0})
says_type = tells_one as_type (λ t. word (type_name t)) type_back

says_keyed : (key : List ℕ) → Tells (one_of (as_keyed key)) (λ x. keyed key x ∷ []) (λ x. x < 2 ^ 32)
says_keyed key = tells_one (as_keyed key) (keyed key) (keyed_back key)

-- what a word of one instruction says
abbrev FitsAlone : List ℕ → Instruction → List Lexeme → Type 0
FitsAlone w i is = (instruction i ≡ word w ∷ is) × (depth_of i ≡ 0)

abbrev SaidMeaning : List ℕ → Meaning → Type 0
SaidMeaning w ends = w ≡ codes "end"
SaidMeaning w turns = w ≡ codes "else"
SaidMeaning w (opens o) = w ≡ opener_word o
SaidMeaning w (alone r) = Reads r (FitsAlone w)

split_numbers : (xs : List ℕ) (x : ℕ) → map number (xs ++ x ∷ []) ≡ map number xs ++ number x ∷ []
split_numbers [] x = refl
split_numbers (y ∷ xs) x = ap (λ r. number y ∷ r) (split_numbers xs x)

labels_fit : (front : List ℕ) (l : ℕ) (ls : List ℕ) → FitsAlone (codes "br_table") (table_behind front l ls)
    (map number front ++ number l ∷ map number ls)
labels_fit front l [] = (refl, refl)
labels_fit front l (k ∷ ls) = let m = labels_fit (front ++ l ∷ []) k ls in (
  m.0 ∙ ap (λ is. word (codes "br_table") ∷ is)
      (ap (λ is. is ++ number k ∷ map number ls) (split_numbers front l)
      ∙ append_assoc (map number front) (number l ∷ []) (number k ∷ map number ls)),
  m.1,
)

said_kinds : HoldsOfKinds SaidMeaning
said_kinds = record {
  plain = λ w i e d. says_gives (e, d);
  with_index = λ w i e d. tells_then says_index λ x _. says_gives (e x, d x);
  with_address = λ w i e d. tells_then (says_keyed (codes "offset=")) λ o _. tells_then (says_keyed (codes "exp="))
      λ a _. says_gives (e a o, d a o);
  constant_32 = tells_then (tells_one (as_constant w32) (constant w32) (constant_back w32 small_32)) λ n _.
      says_gives (refl, refl);
  constant_64 = tells_then (tells_one (as_constant w64) (constant w64) (constant_back w64 small_64)) λ n _.
      says_gives (refl, refl);
  table = tells_then says_index λ l _. tells_last _ says_indices λ ls _. labels_fit [] l ls;
  by_type = tells_then says_opening λ _ _. tells_then (says_this (codes "type")) λ _ _. tells_then says_index λ k _.
      tells_then says_closing λ _ _. says_gives (refl, refl);
  opening = λ o. refl;
  turning = refl;
  ending = refl;
}

-- the type of a block
pub says_result : Tells result (λ t. word (codes "result") ∷ word (type_name t) ∷ right ∷ []) (λ _. Unit {0})
says_result = tells_then (says_this (codes "result")) λ _ _. tells_then says_type λ t _. tells_then says_closing λ _ _.
    says_gives (refl, tt)

abbrev types_of : Option ValType → List Lexeme
types_of t = types_behind (codes "result") (at_most_one t)

says_block_type : Tells block_type types_of (λ _. Unit {0})
says_block_type = says_opened (tells_last _ says_result λ t _. (refl, tt)) (says_gives (refl, tt))

-- what ends a list at a place
abbrev marking : Mark → Lexeme
marking closed = right
marking ended = word (codes "end")
marking turned = word (codes "else")

abbrev MayEnd : Place → Mark → Type 0
MayEnd whole closed = Unit {0}
MayEnd inner ended = Unit {0}
MayEnd first ended = Unit {0}
MayEnd first turned = Unit {0}
MayEnd _ _ = ⊥

abbrev HasSome : Place → Code → Type 0
HasSome fresh end = ⊥
HasSome p c = Unit {0}

record FitsList (room : ℕ) (p : Place) (l : Listed) (is : List Lexeme) : Type 0 where
  lexemes_are : is ≡ code l.code ++ marking l.mark ∷ []
  may_end : MayEnd (onward p) l.mark
  some : HasSome p l.code
  low : depth l.code ≤ room

abbrev FitsOne : ℕ → Instruction → List Lexeme → Type 0
FitsOne room i is = (is ≡ instruction i) × (depth_of i ≤ room)

nothing_back : (room : ℕ) (p : Place) (m : Mark) (at : ℕ) (t : PureToken) (ts : Tokens) → token_of (marking m) ≡ t
    → IsKnown (marking m) → MayEnd (onward p) m → HasSome p end → ReadsAt (nothing m) (token at t ts) (FitsList room p)
nothing_back room p m at t ts e k may some = says_first (marking m) e k
    (says_gives (record { lexemes_are = refl; may_end = may; some = some; low = omega arith }) ts)

inner_mark : (m : Mark) → MayEnd inner m → m ≡ ended
inner_mark ended e = refl
inner_mark closed e = absurd e
inner_mark turned e = absurd e

with_else : (c : Code) → HasSome fresh c → otherwise c ≡ word (codes "else") ∷ code c
with_else end e = absurd e
with_else (next i c) e = refl

regrouped : (front a c : List Lexeme) (i : Lexeme) → front ++ ((a ++ i ∷ []) ++ (c ++ word (codes "end") ∷ []))
    ≡ front ++ a ++ (i ∷ c) ++ word (codes "end") ∷ []
regrouped front a c i = simp append_assoc

twice : (p : Place) (m : Mark) → MayEnd (onward (onward p)) m → MayEnd (onward p) m
twice whole m e = e
twice _ m e = e

any_some : (p : Place) (i : Instruction) (c : Code) → HasSome p (next i c)
any_some whole i c = tt
any_some _ i c = tt

-- what stands behind a block's type
abbrev FitsInside : ℕ → Opener → Option ValType → Instruction → List Lexeme → Type 0
FitsInside room o t i is = (word (opener_word o) ∷ types_of t ++ is ≡ instruction i) × (depth_of i ≤ suc room)

module _ (L : Lists) (back : (room : ℕ) (p : Place) → Reads (L room p) (FitsList room p)) where
  ended_list : (room : ℕ) (p : Place) → ((m : Mark) → MayEnd (onward p) m → m ≡ ended)
      → Tells (L room p) (λ l. code l.code ++ word (codes "end") ∷ []) (λ l. HasSome p l.code × (depth l.code ≤ room))
  ended_list room p e ts = says_weak (back room p ts) λ l is b.
      (b.lexemes_are ∙ ap (λ m. code l.code ++ marking m ∷ []) (e l.mark b.may_end), (b.some, b.low))

  second_back : (room : ℕ) (t : Option ValType) (a : Code) (m : Mark) → MayEnd first m → depth a ≤ room
      → Reads (second L room t a m) (λ i is. FitsInside room an_if t i ((code a ++ marking m ∷ []) ++ is))
  second_back room t a closed k d = absurd k
  second_back room t a ended k d = says_gives (simp (append_assoc, append-nil), omega arith)
  second_back room t a turned k d = tells_last _ (ended_list room fresh inner_mark) λ l b. (
    ap (λ is. word (codes "if") ∷ is) (regrouped (types_of t) (code a) (code l.code) (word (codes "else")))
        ∙ ap (λ is. word (codes "if") ∷ types_of t ++ code a ++ is ++ word (codes "end") ∷ [])
        (sym (with_else l.code b.0)),
    let c = b.1 in omega arith,
  )

  inside_back : (room : ℕ) (o : Opener) (t : Option ValType) → Reads (inside L room o t) (FitsInside room o t)
  inside_back room a_block t = tells_last _ (ended_list room inner inner_mark) λ l b.
      (simp append_assoc, let c = b.1 in omega arith)
  inside_back room a_loop t = tells_last _ (ended_list room inner inner_mark) λ l b.
      (simp append_assoc, let c = b.1 in omega arith)
  inside_back room an_if t = λ ts. says_then (back room first ts) λ l is b.
      subst (λ is. Reads (second L room t l.code l.mark) (λ i js. FitsInside room an_if t i (is ++ js)))
      (sym b.lexemes_are) (second_back room t l.code l.mark b.may_end b.low)

  opened_back : (room : ℕ) (o : Opener) (w : List ℕ) (at : ℕ) (ts : Tokens) → w ≡ opener_word o
      → ReadsAt (opened L room o) (token at (t.word w) ts) (FitsOne room)
  opened_back zero o w at ts e = says_bad refl
  opened_back (suc room) o w at ts e = says_first (word (opener_word o)) (ap t.word (sym e)) tt
      (tells_then says_block_type (λ t _. inside_back room o t) ts)

  more_back : (room : ℕ) (p : Place) {r : Reader Instruction} {ts : Tokens} → ReadsAt r ts (FitsOne room)
      → ReadsAt (r >>= more L room p) ts (FitsList room p)
  more_back room p a = says_then a λ i is q us. says_then (back room (onward p) us) λ l js b. says_gives (record {
    lexemes_are = ap (λ is. is ++ (js ++ [])) q.0 ∙ ap (λ js. instruction i ++ js) (append-nil js ∙ b.lexemes_are)
        ∙ sym (append_assoc (instruction i) (code l.code) (marking l.mark ∷ []));
    may_end = twice p l.mark b.may_end;
    some = any_some p i l.code;
    low = let c = b.low in let d = q.1 in omega arith;
  })

  alone_back : (room : ℕ) (p : Place) (r : Reader Instruction) (w : List ℕ) (at : ℕ) (ts : Tokens)
      → SaidMeaning w (alone r) → ReadsAt (skip r >>= more L room p) (token at (t.word w) ts) (FitsList room p)
  alone_back room p r w at ts e = more_back room p
      (says_first (word w) refl tt (says_weak (e ts) λ i is a. (sym a.0, let d = a.1 in omega arith)))

  meant_back : (room : ℕ) (p : Place) (o : Option Meaning) (w : List ℕ) (at : ℕ) (ts : Tokens)
      → ((m : Meaning) → o ≡ Some m → SaidMeaning w m)
      → ReadsAt (meant L room p o) (token at (t.word w) ts) (FitsList room p)
  meant_back room inner (Some ends) w at ts g =
      nothing_back room inner ended at (t.word w) ts (ap t.word (sym (g ends refl))) tt tt tt
  meant_back room first (Some ends) w at ts g =
      nothing_back room first ended at (t.word w) ts (ap t.word (sym (g ends refl))) tt tt tt
  meant_back room first (Some turns) w at ts g =
      nothing_back room first turned at (t.word w) ts (ap t.word (sym (g turns refl))) tt tt tt
  meant_back room p (Some (opens o)) w at ts g = more_back room p (opened_back room o w at ts (g (opens o) refl))
  meant_back room p (Some (alone r)) w at ts g = alone_back room p r w at ts (g (alone r) refl)
  meant_back room p o w at ts g = says_bad refl

  token_back : (room : ℕ) (p : Place) (at : ℕ) (t : PureToken) (ts : Tokens)
      → ReadsAt (by_token L room p t) (token at t ts) (FitsList room p)
  token_back room whole at t.right ts = nothing_back room whole closed at t.right ts refl tt tt tt
  token_back room p at (t.word w) ts = meant_back room p (meaning w) w at ts (meaning_holds SaidMeaning said_kinds w)
  token_back room p at t ts = says_bad refl

  listed_back : (room : ℕ) (p : Place) → Reads (listed L room p) (FitsList room p)
  listed_back room p (stop at) = says_bad refl
  listed_back room p (token at t ts) = record { back = (token_back room p at t ts).back }

within_back : (n room : ℕ) (p : Place) → Reads (read.within n room p) (FitsList room p)
within_back zero room p ts = says_bad refl
within_back (suc n) room p ts = listed_back (read.within n) (within_back n) room p ts

-- code up to a closing parenthesis
whole_mark : (m : Mark) → MayEnd whole m → m ≡ closed
whole_mark closed e = refl
whole_mark ended e = absurd e
whole_mark turned e = absurd e

whole_back : Reads (instructions 500 whole) (FitsList 500 whole)
unfolding instructions
whole_back ts = record { back = (within_back (suc (count ts)) 500 whole ts).back }

pub says_expression : Tells expression (λ c. code c ++ right ∷ []) (λ c. depth c ≤ 500)
says_expression ts = says_then (whole_back ts) λ l is b. says_gives
    (append-nil is ∙ b.lexemes_are ∙ ap (λ m. code l.code ++ marking m ∷ []) (whole_mark l.mark b.may_end), b.low)
