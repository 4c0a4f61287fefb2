-- The readers of code can go on where tokens stop.
use Rattle.std.proofs.Common.{◌≡◌, ℕ, zero, suc, ◌<◌, ◌^◌, ◌-◌, List, [], ◌∷◌, refl, ap, sym, ◌∙◌, subst}
use Rattle.std.proofs.Common.{arith, Option, Some, None}
use Rattle.std.specs.Prelude.{codes}
use Rattle.std.specs.List.{AllByRecursion}
use Rattle.std.specs.Int.{w32, w64}
use Rattle.mw_wasm.specs.declared.values.ValType.{ValType}
use Rattle.mw_wasm.specs.declared.values.ValType.TheVariants.{I32}
use Rattle.mw_wasm.specs.Syntax as pure
use Rattle.mw_wasm.specs.Syntax.{Instruction, Code, block, loop, cond, call_indirect, const_i32, const_i64}
use Rattle.mw_wasm.specs.Syntax.{nop}
use Rattle.mw_wat.specs.Tokens.{PureToken}
use Rattle.mw_wat.specs.Tokens as t
use Rattle.mw_wat.specs.Lexing.{Tokens, stop, token}
use Rattle.mw_wat.specs.Reading.{got, bad, Reader, count, and_then, ◌>>=◌, gives, one_of, as_word, as_left, as_right}
use Rattle.mw_wat.specs.Reading.{as_number, index, all_of, as_type}
use Rattle.mw_wat.specs.Instructions.{as_constant, as_keyed, indexed, at_address, table_behind, labels, indirect}
use Rattle.mw_wat.specs.Instructions.{Opener, a_block, a_loop, an_if, Meaning, ends, turns, opens, alone}
use Rattle.mw_wat.specs.Instructions.{meaning}
use Rattle.mw_wat.specs.Instructions.{Place, whole, inner, first, fresh, onward, Mark, closed, ended, turned, Listed}
use Rattle.mw_wat.specs.Instructions.{ahead, result, block_type, second, inside, opened, more, meant}
use Rattle.mw_wat.specs.Instructions.{by_token, instructions, expression}
use Rattle.mw_wat.proofs.TokensOfText.{Placed, p_here, p_there}
use Rattle.mw_wat.proofs.ReadIsText.{HoldsBytes}
use Rattle.mw_wat.proofs.MeaningsOfWords.{HoldsOfKinds, meaning_holds}
use Rattle.mw_wat.proofs.Lookahead.{Local, local_then, local_all}
use Rattle.mw_wat.proofs.LookaheadOfCode.{instructions_are, local_index, local_result, local_block_type, local_inside, local_instructions}
use Rattle.mw_wat.proofs.LookaheadOfCode.{meaning_local}
use Rattle.mw_wat.proofs.Completions.{Completed, Started, Completes, Any, Each, NotNext, got_bad, bad_token}
use Rattle.mw_wat.proofs.Completions.{stop_completed, completes_after, started_then, completes_gives, started_gives}
use Rattle.mw_wat.proofs.Completions.{behind_completed, started_all, completes_all, On, on_gives, on_one, on_after}
use Rattle.mw_wat.proofs.Completions.{on_then, on_token, on_opened}

abbrev pub is_index : PureToken → Option ℕ
is_index = as_number (2 ^ 32 - 1)

abbrev pub zero_word : PureToken
zero_word = t.word (codes "0")

abbrev pub on_index : (k : ℕ) (F : Tokens → Type 0) → On k index F
on_index k F = on_one k is_index zero_word 0 refl tt F

-- single instructions, before a token that is no number
abbrev NoNumber : Tokens → Type 0
NoNumber = NotNext is_index

on_indexed : (k : ℕ) (i : ℕ → Instruction) → On k (indexed i) NoNumber
on_indexed k i = on_then k index (λ x. gives (i x)) NoNumber local_index (on_index k Any)
    (λ x. on_gives k (i x) NoNumber)

on_address : (k : ℕ) (i : ℕ → ℕ → Instruction) → On k (at_address i) NoNumber
on_address k i =
    on_token k (as_keyed (codes "offset=")) (t.word (codes "offset=0")) 0 refl tt _ NoNumber (λ offset.
    on_token k (as_keyed (codes "exp=")) (t.word (codes "exp=0")) 0 refl tt (λ align. gives (i align offset)) NoNumber
    (λ align.
    on_gives k (i align offset) NoNumber))

gives_next : {A : Type 0} (means : PureToken → Option A) {us vs : Tokens} → Placed us [] vs → NotNext means vs
    → NotNext means us
gives_next means p_here g = g

on_labels : (k : ℕ) → On k labels NoNumber
on_labels k =
    on_then k index _ NoNumber local_index (on_index k Any) (λ l.
    on_after k (all_of is_index) (λ ls. gives (table_behind [] l ls)) NoNumber NoNumber (local_all is_index)
    (record { completes = completes_all is_index k; starts = started_all is_index })
    (λ ls. on_gives k (table_behind [] l ls) NoNumber) (λ ls us vs p g. gives_next is_index p g))

on_indirect : (k : ℕ) → On k indirect NoNumber
on_indirect k =
    on_token k as_left t.left tt refl tt _ NoNumber (λ _.
    on_token k (as_word (codes "type")) (t.word (codes "type")) tt refl tt _ NoNumber (λ _.
    on_then k index _ NoNumber local_index (on_index k Any) (λ i.
    on_token k as_right t.right tt refl tt (λ _. gives (call_indirect i)) NoNumber (λ _.
    on_gives k (call_indirect i) NoNumber))))

constant_on : (k : ℕ) (means : PureToken → Option ℕ) (i : ℕ → Instruction) → means zero_word ≡ Some 0
    → On k (one_of means >>= λ n. gives (i n)) NoNumber
constant_on k means i e = on_token k means zero_word 0 e tt (λ n. gives (i n)) NoNumber (λ n. on_gives k (i n) NoNumber)

abbrev CompletesMeaning : Meaning → Type 0
CompletesMeaning (alone r) = (k : ℕ) → Completes k r NoNumber Each
CompletesMeaning _ = Unit {0}

complete_kinds : HoldsOfKinds (λ _ m. CompletesMeaning m)
complete_kinds = record {
  plain = λ w i e d k. completes_gives k i NoNumber Each;
  with_index = λ w i e d k. (on_indexed k i).completes;
  with_address = λ w i e d k. (on_address k i).completes;
  constant_32 = λ k. (constant_on k (as_constant w32) const_i32 refl).completes;
  constant_64 = λ k. (constant_on k (as_constant w64) const_i64 refl).completes;
  table = λ k. (on_labels k).completes;
  by_type = λ k. (on_indirect k).completes;
  opening = λ o. tt;
  turning = tt;
  ending = tt;
}

meaning_completes : (w : List ℕ) (m : Meaning) → meaning w ≡ Some m → CompletesMeaning m
meaning_completes w m e = meaning_holds (λ _ m. CompletesMeaning m) complete_kinds w m e

-- the results of blocks
pub on_result : (k : ℕ) (F : Tokens → Type 0) → On k result F
on_result k F =
    on_token k (as_word (codes "result")) (t.word (codes "result")) tt refl tt _ F (λ _.
    on_token k as_type (t.word (codes "i32")) I32 refl tt _ F (λ v.
    on_token k as_right t.right tt refl tt (λ _. gives v) F (λ _. on_gives k v F)))

on_block_type : (k : ℕ) → On k block_type Any
on_block_type k = on_opened k (result >>= λ v. gives (Some v)) (gives None) Any
    (on_then k result (λ v. gives (Some v)) Any local_result (on_result k Any) (λ v. on_gives k (Some v) Any))
    (completes_gives k None Any Each)

-- how a list ends
abbrev final : Place → Mark
final whole = closed
final _ = ended

abbrev Ends : Place → Listed → Type 0
Ends p l = l.mark ≡ final p

abbrev last_tokens : Place → List PureToken
last_tokens whole = t.right ∷ []
last_tokens inner = t.word (codes "end") ∷ []
last_tokens first = t.word (codes "end") ∷ []
last_tokens fresh = t.word (codes "nop") ∷ t.word (codes "end") ∷ []

abbrev last_code : Place → Code
last_code fresh = pure.next nop pure.end
last_code _ = pure.end

abbrev last_list : Place → Listed
last_list p = record { code = last_code p; mark = final p }

last_reads : (room : ℕ) (p : Place) (us vs : Tokens) → Placed us (last_tokens p) vs → instructions room p us ≡ got
    (last_list p) vs
unfolding instructions meaning
last_reads room whole _ vs (p_there p_here) = refl
last_reads room inner _ vs (p_there p_here) = refl
last_reads room first _ vs (p_there p_here) = refl
last_reads room fresh _ vs (p_there (p_there p_here)) = refl

last_bytes : (p : Place) → AllByRecursion (λ (u : PureToken). HoldsBytes u) (last_tokens p)
last_bytes fresh = (tt, (tt, tt))
last_bytes _ = (tt, tt)

abbrev list_starts : (room : ℕ) (p : Place) → Started (instructions room p) Any (Ends p)
list_starts room p =
    record {
      more = last_tokens p;
      x = last_list p;
      fit = refl;
      bytes = last_bytes p;
      reads =
          λ us vs q g. last_reads room p us vs q;
    }

final_onward : (p : Place) → final (onward p) ≡ final p
final_onward whole = refl
final_onward _ = refl

no_number_ends : (p : Place) {us vs : Tokens} → Placed us (last_tokens (onward p)) vs → NoNumber us
no_number_ends whole (p_there q) = refl
no_number_ends inner (p_there q) = refl
no_number_ends first (p_there q) = refl
no_number_ends fresh (p_there q) = refl

module _ (k : ℕ) (h : (room : ℕ) (p : Place) → Completes k (instructions room p) Any (Ends p)) where
  second_completes : (room : ℕ) (v : Option ValType) (c : Code) (m : Mark) → Completes k
      (second instructions room v c m) Any Each
  second_completes room v c closed = completes_gives k _ Any Each
  second_completes room v c ended = completes_gives k _ Any Each
  second_completes room v c turned = completes_after k (instructions room fresh)
      (λ l. gives (cond v c l.code)) Any Any (Ends fresh) Each
      (local_instructions room fresh) (h room fresh) (λ l. completes_gives k (cond v c l.code) Any Each)
      (λ l q. started_gives (cond v c l.code) Any Each tt) (λ l q us vs p g. tt)

  second_starts : (room : ℕ) (v : Option ValType) (c : Code) (m : Mark) → m ≡ ended → Started
      (second instructions room v c m) Any Each
  second_starts room v c m e = subst (λ m. Started (second instructions room v c m) Any Each) (sym e)
      (started_gives (cond v c pure.end) Any Each tt)

  list_in : (room : ℕ) (f : Code → Instruction) → On k (instructions room inner >>= λ l. gives (f l.code)) Any
  list_in room f = record {
    completes = completes_after k (instructions room inner) (λ l. gives (f l.code)) Any Any (Ends inner) Each
        (local_instructions room inner) (h room inner)
        (λ l. completes_gives k (f l.code) Any Each) (λ l q. started_gives (f l.code) Any Each tt)
        (λ l q us vs p g. tt);
    starts = started_then (instructions room inner) (λ l. gives (f l.code)) Any Any (Ends inner) Each
        (list_starts room inner) (started_gives (f pure.end) Any Each tt) (λ us vs p g. tt);
  }

  inside_on : (room : ℕ) (o : Opener) (v : Option ValType) → On k (inside instructions room o v) Any
  inside_on room a_block v = list_in room (λ c. block v c)
  inside_on room a_loop v = list_in room (λ c. loop v c)
  inside_on room an_if v = record {
    completes = completes_after k (instructions room first) (λ l. second instructions room v l.code l.mark) Any Any
        (Ends first) Each (local_instructions room first) (h room first)
        (λ l. second_completes room v l.code l.mark) (λ l q. second_starts room v l.code l.mark q)
        (λ l q us vs p g. tt);
    starts = started_then (instructions room first) (λ l. second instructions room v l.code l.mark) Any Any
        (Ends first) Each (list_starts room first) (second_starts room v pure.end ended refl) (λ us vs p g. tt);
  }

  more_reads : (room : ℕ) (p : Place) (i : Instruction) (us vs : Tokens) → Placed us (last_tokens (onward p)) vs
      → more instructions room p i us ≡ got (ahead i (last_list (onward p))) vs
  more_reads room p i us vs q = ap (λ r. and_then r (λ l. gives (ahead i l))) (last_reads room (onward p) us vs q)

  abbrev more_starts : (room : ℕ) (p : Place) (i : Instruction) → Started (more instructions room p i) Any (Ends p)
  more_starts room p i =
      record {
        more = last_tokens (onward p);
        x = ahead i (last_list (onward p));
        fit = final_onward p;
        bytes =
            last_bytes (onward p);
        reads = λ us vs q g. more_reads room p i us vs q;
      }

  more_completes : (room : ℕ) (p : Place) (i : Instruction) → Completes k (more instructions room p i) Any (Ends p)
  more_completes room p i = completes_after k (instructions room (onward p)) (λ l. gives (ahead i l)) Any Any
      (Ends (onward p)) (Ends p) (local_instructions room (onward p)) (h room (onward p))
      (λ l. completes_gives k (ahead i l) Any (Ends p))
      (λ l q. started_gives (ahead i l) Any (Ends p) (q ∙ final_onward p)) (λ l q us vs p g. tt)

  alone_completes : (room : ℕ) (p : Place) (r : Reader Instruction) → Local r → Completes k r NoNumber Each
      → Completes k (r >>= more instructions room p) Any (Ends p)
  alone_completes room p r l c = completes_after k r (more instructions room p) NoNumber Any Each (Ends p) l c
      (λ i. more_completes room p i) (λ i q. more_starts room p i) (λ i q us vs z g. no_number_ends p z)

  opened_completes : (room : ℕ) (p : Place) (o : Opener) → Completes k
      ((block_type >>= inside instructions room o) >>= more instructions (suc room) p) Any (Ends p)
  opened_completes room p o =
      let blocks = on_then k block_type (inside instructions room o) Any local_block_type (on_block_type k)
      (λ v. inside_on room o v) in
      completes_after k (block_type >>= inside instructions room o) (more instructions (suc room) p) Any Any Each
      (Ends p)
      (local_then block_type (inside instructions room o) local_block_type
      (λ v. local_inside instructions (λ room p. local_instructions room p) room o v)) blocks.completes
      (λ i. more_completes (suc room) p i) (λ i q. more_starts (suc room) p i) (λ i q us vs z g. tt)

  abbrev Goal : (room : ℕ) (p : Place) (at : ℕ) (w : List ℕ) (rest : Tokens) (a : ℕ) → Type 0
  Goal room p at w rest a = Completed (instructions room p) Any (Ends p) (token at (t.word w) rest) a

  alone_at : (room : ℕ) (p : Place) (at : ℕ) (w : List ℕ) (rest : Tokens) (a : ℕ) → count rest < k
      → (r : Reader Instruction) → meaning w ≡ Some (alone r)
      → (r >>= more instructions room p) rest ≡ bad (stop a)
      → ((b : ℕ) (us : Tokens) → instructions room p (token b (t.word w) us) ≡
      (r >>= more instructions room p) us) → Goal room p at w rest a
  alone_at room p at w rest a small r m d alike = behind_completed (instructions room p)
      (r >>= more instructions room p) Any (Ends p) at (t.word w) rest a
      (alone_completes room p r (meaning_local w (alone r) m) (meaning_completes w (alone r) m k) rest a small d)
      alike

  opened_at : (room : ℕ) (p : Place) (at : ℕ) (w : List ℕ) (rest : Tokens) (a : ℕ) → count rest < k → (o : Opener)
      → (opened instructions room o >>= more instructions room p) (token at (t.word w) rest) ≡ bad (stop a)
      → ((b : ℕ) (us : Tokens) → instructions room p (token b (t.word w) us) ≡
      (opened instructions room o >>= more instructions room p) (token b (t.word w) us)) → Goal room p at w rest a
  opened_at zero p at w rest a small o d alike = absurd (bad_token at (t.word w) rest a d)
  opened_at (suc room) p at w rest a small o d alike = behind_completed (instructions (suc room) p)
      ((block_type >>= inside instructions room o) >>= more instructions (suc room) p) Any (Ends p) at
      (t.word w) rest a
      (opened_completes room p o rest a small d) alike

  meant_at : (room : ℕ) (p : Place) (at : ℕ) (w : List ℕ) (rest : Tokens) (a : ℕ) → count rest < k
      → (o : Option Meaning) → meaning w ≡ o → meant instructions room p o (token at (t.word w) rest) ≡ bad (stop a)
      → ((b : ℕ) (us : Tokens) → instructions room p (token b (t.word w) us) ≡ meant instructions room p o
      (token b (t.word w) us)) → Goal room p at w rest a
  meant_at room inner at w rest a small (Some ends) m d alike = absurd (got_bad _ rest (stop a) d)
  meant_at room first at w rest a small (Some ends) m d alike = absurd (got_bad _ rest (stop a) d)
  meant_at room first at w rest a small (Some turns) m d alike = absurd (got_bad _ rest (stop a) d)
  meant_at room p at w rest a small (Some (opens o)) m d alike = opened_at room p at w rest a small o d alike
  meant_at room p at w rest a small (Some (alone r)) m d alike = alone_at room p at w rest a small r m d alike
  meant_at room p at w rest a small _ m d alike = absurd (bad_token at (t.word w) rest a d)

  word_at : (room : ℕ) (p : Place) (at : ℕ) (w : List ℕ) (rest : Tokens) (a : ℕ) → count rest < k
      → meant instructions room p (meaning w) (token at (t.word w) rest) ≡ bad (stop a)
      → ((b : ℕ) (us : Tokens) → instructions room p (token b (t.word w) us) ≡ meant instructions room p (meaning w)
      (token b (t.word w) us)) → Goal room p at w rest a
  word_at room p at w rest a small d alike = meant_at room p at w rest a small (meaning w) refl d alike

  at_token : (room : ℕ) (p : Place) (at : ℕ) (u : PureToken) (rest : Tokens) (a : ℕ) → count rest < k
      → by_token instructions room p u (token at u rest) ≡ bad (stop a)
      → Completed (instructions room p) Any (Ends p) (token at u rest) a
  at_token room whole at t.right rest a small d = absurd (got_bad _ rest (stop a) d)
  at_token room p at (t.word w) rest a small d = word_at room p at w rest a small d
      (λ b us. instructions_are room p (token b (t.word w) us))
  at_token room p at u rest a small d = absurd (bad_token at u rest a d)

  one_step : (room : ℕ) (p : Place) → Completes (suc k) (instructions room p) Any (Ends p)
  one_step room p (stop b) a n d = stop_completed (instructions room p) Any (Ends p) (list_starts room p) b a
      (sym (instructions_are room p (stop b)) ∙ d)
  one_step room p (token at u rest) a n d = at_token room p at u rest a (omega arith)
      (sym (instructions_are room p (token at u rest)) ∙ d)

code_completes : (k room : ℕ) (p : Place) → Completes k (instructions room p) Any (Ends p)
code_completes zero room p ts a n d = absurd (omega arith)
code_completes (suc k) room p ts a n d = one_step k (code_completes k) room p ts a n d

pub expression_completes : (k : ℕ) (F : Tokens → Type 0) → Completes k expression F Each
expression_completes k F = completes_after k (instructions 500 whole) (λ l. gives l.code) Any F (Ends whole) Each
    (local_instructions 500 whole) (code_completes k 500 whole)
    (λ l. completes_gives k l.code F Each) (λ l q. started_gives l.code F Each tt) (λ l q us vs p g. tt)

pub expression_reads : (us vs : Tokens) → Placed us (t.right ∷ []) vs → expression us ≡ got pure.end vs
expression_reads us vs p = ap (λ r. and_then r (λ l. gives l.code)) (last_reads 500 whole us vs p)

abbrev pub expression_starts : (F : Tokens → Type 0) → Started expression F Each
expression_starts F =
    record {
      more = t.right ∷ [];
      x = pure.end;
      fit = tt;
      bytes = (tt, tt);
      reads =
          λ us vs p g. expression_reads us vs p;
    }

-- code up to a closing parenthesis
abbrev pub on_expression : (k : ℕ) (F : Tokens → Type 0) → On k expression F
on_expression k F = record { completes = expression_completes k F; starts = expression_starts F }
