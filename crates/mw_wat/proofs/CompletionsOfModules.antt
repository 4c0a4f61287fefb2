-- The reader of modules can go on where tokens stop.
use Rattle.std.proofs.Common.{◌≡◌, ℕ, zero, suc, ◌<◌, ◌≤◌, List, [], ◌∷◌, refl, ap, sym, ◌∙◌, subst, arith, Bool, true}
use Rattle.std.proofs.Common.{false, Option, Some, None}
use Rattle.std.specs.Prelude.{codes, if◌then◌else◌}
use Rattle.std.specs.Str.{bytes_eq}
use Rattle.std.proofs.lemmas.Bool.{false≢true}
use Rattle.mw_wasm.specs.declared.values.ValType.{ValType}
use Rattle.mw_wasm.specs.declared.values.ValType.TheVariants.{I32}
use Rattle.mw_wasm.specs.declared.modules.Exported.TheVariants as what
use Rattle.mw_wasm.specs.Syntax.{PureModule}
use Rattle.mw_wat.specs.Tokens.{PureToken}
use Rattle.mw_wat.specs.Tokens as t
use Rattle.mw_wat.specs.Lexing.{Tokens, stop, token}
use Rattle.mw_wat.specs.Reading.{got, bad, Reader, count, and_then, ◌>>=◌, gives, peek, skip, as_word, as_left}
use Rattle.mw_wat.specs.Reading.{as_right, closing, as_number, index, some_of, all_of, as_type, value_type}
use Rattle.mw_wat.specs.Reading.{types_and_close, if_opened, if_word}
use Rattle.mw_wat.specs.Instructions.{result, expression}
use Rattle.mw_wat.specs.Modules.{results, params_then, with_params, function_type, some_locals, function, as_limit}
use Rattle.mw_wat.specs.Modules.{upper, limits, table, memory, variable, global, as_name, as_string, as_kind, export}
use Rattle.mw_wat.specs.Modules.{offset, element_behind, element, data_behind, data_segment, Fields, as_either}
use Rattle.mw_wat.specs.Modules.{next_field, in_front, fields_up_to, fields, no_more, head, whole_module}
use Rattle.mw_wat.proofs.TokensOfText.{Placed, p_here, p_there}
use Rattle.mw_wat.proofs.Lookahead.{Local, local_one, local_then, local_gives, local_all, local_some, no_longer}
use Rattle.mw_wat.proofs.Lookahead.{got_parts, bad_parts}
use Rattle.mw_wat.proofs.LookaheadOfCode.{local_if_left, local_index, local_result, local_expression, then_same}
use Rattle.mw_wat.proofs.LookaheadOfModules.{typed, function_with, global_with, local_closing, local_types}
use Rattle.mw_wat.proofs.LookaheadOfModules.{local_results, local_with_params, local_some_locals, local_limits}
use Rattle.mw_wat.proofs.LookaheadOfModules.{local_variable, local_offset, local_function_type, local_function}
use Rattle.mw_wat.proofs.LookaheadOfModules.{local_table, local_memory, local_global, local_export, local_element}
use Rattle.mw_wat.proofs.LookaheadOfModules.{local_data, local_fields_up_to, local_fields, same_fields}
use Rattle.mw_wat.proofs.LexemeSoundness.{split_got, no_got}
use Rattle.mw_wat.proofs.Completions.{Completed, Started, Completes, Any, Each, NotNext, got_bad, token_stop}
use Rattle.mw_wat.proofs.Completions.{stop_completed, completes_then, completes_after, started_then, completes_gives}
use Rattle.mw_wat.proofs.Completions.{started_gives, completes_one, started_one, behind_completed, started_all}
use Rattle.mw_wat.proofs.Completions.{completes_all, started_some, completes_some, completes_word, started_word, On}
use Rattle.mw_wat.proofs.Completions.{on_gives, on_after, on_then, on_token, on_opened, on_word}
use Rattle.mw_wat.proofs.CompletionsOfCode.{zero_word, on_index, on_result, on_expression}

abbrev on_closing : {A : Type 0} (k : ℕ) (x : A) → On k (closing >>= λ _. gives x) Any
on_closing k x = on_token k as_right t.right tt refl tt (λ _. gives x) Any (λ _. on_gives k x Any)

-- types
right_next : {us vs : Tokens} {l : List PureToken} → Placed us (t.right ∷ l) vs → NotNext as_type us
right_next (p_there p) = refl

right_index : {us vs : Tokens} {l : List PureToken} → Placed us (t.right ∷ l) vs → NotNext as_limit us
right_index (p_there p) = refl

on_types : (k : ℕ) (more : Reader (List ValType)) → Local more → On k more (NotNext as_type) → On k
    (types_and_close more) Any
on_types k more l o =
    on_token k as_type (t.word (codes "i32")) I32 refl tt _ Any (λ v.
    on_after k more _ (NotNext as_type) Any l o (λ vs. on_closing k (v ∷ vs)) (λ x us vs p g. right_next p))

on_results : (k : ℕ) → On k results Any
on_results k = on_then k result (λ v. gives (v ∷ [])) Any local_result (on_result k Any)
    (λ v. on_gives k (v ∷ []) Any)

on_params_then : (k : ℕ) (ps : List ValType) → On k (params_then ps) Any
on_params_then k ps = on_opened k _ _ Any
    (on_then k results _ Any local_results (on_results k) (λ rs. on_closing k (typed ps rs)))
    (on_closing k (typed ps [])).completes

on_all_types : (k : ℕ) → On k (all_of as_type) (NotNext as_type)
on_all_types k = record { completes = completes_all as_type k; starts = started_all as_type }

on_with_params : (k : ℕ) → On k with_params Any
on_with_params k =
    on_word k _ _ Any (codes "param") refl
    (on_then k (types_and_close (all_of as_type)) params_then Any (local_types (all_of as_type) (local_all as_type))
    (on_types k (all_of as_type) (local_all as_type) (on_all_types k)) (on_params_then k))
    (on_then k results _ Any local_results (on_results k) (λ rs. on_closing k (typed [] rs))).completes

on_function_type : (k : ℕ) → On k function_type Any
on_function_type k =
    on_token k as_left t.left tt refl tt _ Any (λ _.
    on_token k (as_word (codes "func")) (t.word (codes "func")) tt refl tt _ Any (λ _.
    on_then k (if_opened with_params (closing >>= λ _. gives (typed [] []))) _ Any
    (local_if_left _ _ local_with_params (local_closing (typed [] [])))
    (on_opened k _ _ Any (on_with_params k) (on_closing k (typed [] [])).completes) (λ v. on_closing k v)))

-- functions
on_some_locals : (k : ℕ) → On k some_locals Any
on_some_locals k = on_token k (as_word (codes "local")) (t.word (codes "local")) tt refl tt _ Any (λ _.
    on_types k (some_of 49_999 as_type) (local_some 49_999 as_type)
    (record { completes = completes_some as_type k 49_999; starts = started_some as_type 49_999 }))

on_function : (k : ℕ) → On k function Any
on_function k =
    on_token k as_left t.left tt refl tt _ Any (λ _.
    on_token k (as_word (codes "type")) (t.word (codes "type")) tt refl tt _ Any (λ _.
    on_then k index _ Any local_index (on_index k Any) (λ i.
    on_token k as_right t.right tt refl tt _ Any (λ _.
    on_then k (if_opened some_locals (gives [])) _ Any (local_if_left _ _ local_some_locals (local_gives []))
    (on_opened k _ _ Any (on_some_locals k) (completes_gives k [] Any Each)) (λ ls.
    on_then k expression _ Any local_expression (on_expression k Any)
    (λ c. on_gives k (function_with i ls c) Any))))))

-- limits
upper_reads : (min : ℕ) (us vs : Tokens) → Placed us (zero_word ∷ []) vs → peek (λ u. upper min (as_limit u)) us ≡ got
    (record { min = min; max = Some 0 }) vs
upper_reads min _ vs (p_there p_here) = refl

upper_starts : (min : ℕ) → Started (peek (λ u. upper min (as_limit u))) Any Each
upper_starts min =
    record {
      more = zero_word ∷ [];
      x = record { min = min; max = Some 0 };
      fit = tt;
      bytes = (tt, tt);
      reads =
          λ us vs p g. upper_reads min us vs p;
    }

upper_completes : (k min : ℕ) → Completes k (peek (λ u. upper min (as_limit u))) Any Each
upper_completes k min (stop b) a n d = stop_completed (peek (λ u. upper min (as_limit u))) Any Each
    (upper_starts min) b a d
upper_completes k min (token at u rest) a n d = by_limit (as_limit u) d
  where
    by_limit : (o : Option ℕ) → upper min o (token at u rest) ≡ bad (stop a) → Completed
        (peek (λ u. upper min (as_limit u))) Any Each (token at u rest) a
    by_limit None d = absurd (got_bad _ (token at u rest) (stop a) d)
    by_limit (Some max) d = absurd (got_bad _ rest (stop a) d)

on_limits : (k most : ℕ) → as_number most zero_word ≡ Some 0 → On k (limits most) Any
on_limits k most e = on_token k (as_number most) zero_word 0 e tt _ Any
    (λ min. record { completes = upper_completes k min; starts = upper_starts min })

on_table : (k : ℕ) → On k table Any
on_table k = on_then k (limits 100_000) _ Any (local_limits 100_000) (on_limits k 100_000 refl) (λ l.
    on_token k (as_word (codes "funcref")) (t.word (codes "funcref")) tt refl tt _ Any (λ _. on_closing k l))

on_memory : (k : ℕ) → On k memory Any
on_memory k = on_then k (limits 1_024) _ Any (local_limits 1_024) (on_limits k 1_024 refl) (λ l. on_closing k l)

-- globals
on_variable : (k : ℕ) → On k variable Any
on_variable k = on_token k (as_word (codes "mut")) (t.word (codes "mut")) tt refl tt _ Any
    (λ _. on_token k as_type (t.word (codes "i32")) I32 refl tt _ Any (λ v. on_closing k (v, true)))

on_global : (k : ℕ) → On k global Any
on_global k = on_then k (if_opened variable (value_type >>= λ v. gives (v, false))) _ Any
    (local_if_left _ _ local_variable (local_then value_type _ (local_one as_type) (λ v. local_gives (v, false))))
    (on_opened k _ _ Any (on_variable k)
    (on_token k as_type (t.word (codes "i32")) I32 refl tt (λ v. gives (v, false)) Any
    (λ v. on_gives k (v, false) Any)).completes)
    (λ v. on_then k expression _ Any local_expression (on_expression k Any) (λ c. on_gives k (global_with v c) Any))

-- exports and segments
on_export : (k : ℕ) → On k export Any
on_export k =
    on_token k as_name (t.string []) [] refl tt _ Any (λ n.
    on_token k as_left t.left tt refl tt _ Any (λ _.
    on_token k as_kind (t.word (codes "func")) what.Func refl tt _ Any (λ w.
    on_then k index _ Any local_index (on_index k Any) (λ x.
    on_token k as_right t.right tt refl tt _ Any (λ _. on_closing k (record { name = n; what = w x }))))))

on_offset : (k : ℕ) → On k offset Any
on_offset k = on_token k as_left t.left tt refl tt _ Any
    (λ _. on_token k (as_word (codes "offset")) (t.word (codes "offset")) tt refl tt (λ _. expression) Any
    (λ _. on_expression k Any))

on_element : (k : ℕ) → On k element Any
on_element k = on_then k offset element_behind Any local_offset (on_offset k) (λ c.
    on_after k (all_of as_limit) _ (NotNext as_limit) Any (local_all as_limit)
    (record { completes = completes_all as_limit k; starts = started_all as_limit })
    (λ fs. on_closing k (record { offset = c; funcs = fs })) (λ fs us vs p g. right_index p))

on_data : (k : ℕ) → On k data_segment Any
on_data k = on_then k offset data_behind Any local_offset (on_offset k) (λ c.
    on_token k as_string (t.string []) [] refl tt _ Any (λ b. on_closing k (record { offset = c; bytes = b })))

-- fields of one kind, of which the last closes the module
abbrev IsShut : {A : Type 0} → Fields A → Type 0
IsShut fs = fs.going ≡ false

module _ {A : Type 0} (w : List ℕ) (e : bytes_eq w w ≡ true) (field : Reader A) (l : Local field)
    (o : (k : ℕ) → On k field Any) where
  abbrev shut : Fields A
  shut = record { list = []; going = false }

  module _ (R : Bool → Reader (Fields A)) (lr : (g : Bool) → Local (R g)) (sr : Started (R false) Any IsShut) where
    abbrev tail : A → Reader (Fields A)
    tail x = next_field >>= λ going. R going >>= λ fs. gives (in_front x fs)

    last_starts : (x : A) (g : Bool) → g ≡ false → Started (R g >>= λ fs. gives (in_front x fs)) Any IsShut
    last_starts x g q = subst (λ g. Started (R g >>= λ fs. gives (in_front x fs)) Any IsShut) (sym q)
        (started_then (R false) (λ fs. gives (in_front x fs)) Any Any IsShut IsShut sr
        (started_gives (in_front x sr.x) Any IsShut sr.fit) (λ us vs p g. tt))

    tail_starts : (x : A) → Started (tail x) Any IsShut
    tail_starts x = started_then next_field (λ g. R g >>= λ fs. gives (in_front x fs)) Any Any (λ g. g ≡ false) IsShut
        (started_one as_either t.right false refl tt Any (λ g. g ≡ false) refl) (last_starts x false refl)
        (λ us vs p g. tt)

    tail_completes : (k : ℕ) → ((g : Bool) → Completes k (R g) Any IsShut) → (x : A) → Completes k (tail x) Any IsShut
    tail_completes k c x = completes_after k next_field (λ g. R g >>= λ fs. gives (in_front x fs)) Any Any
        (λ g. g ≡ false) IsShut (local_one as_either)
        (completes_one as_either t.right false refl tt Any (λ g. g ≡ false) refl k)
        (λ g. completes_after k (R g) (λ fs. gives (in_front x fs)) Any Any IsShut IsShut (lr g) (c g)
        (λ fs. completes_gives k (in_front x fs) Any IsShut) (λ fs q. started_gives (in_front x fs) Any IsShut q)
        (λ fs q us vs p g. tt))
        (λ g q. last_starts x g q) (λ g q us vs p h. tt)

    field_starts : Started (field >>= tail) Any IsShut
    field_starts = started_then field tail Any Any Each IsShut (o 0).starts (tail_starts (o 0).starts.x)
        (λ us vs p g. tt)

    field_completes : (k : ℕ) → ((g : Bool) → Completes k (R g) Any IsShut) → Completes k (field >>= tail) Any IsShut
    field_completes k c = completes_after k field tail Any Any Each IsShut l (o k).completes (tail_completes k c)
        (λ x q. tail_starts x) (λ x q us vs p g. tt)

  -- at most one
  one_starts : (g : Bool) → Started (fields_up_to 1 w field g) Any IsShut
  one_starts false = started_gives shut Any IsShut refl
  one_starts true = started_word 0
      (field >>= tail (λ g. fields_up_to 0 w field g) (λ g. local_fields_up_to 0 w field l g)
      (started_gives shut Any IsShut refl)) (gives (record { list = []; going = true })) Any IsShut w e
      (field_starts (λ g. fields_up_to 0 w field g) (λ g. local_fields_up_to 0 w field l g)
      (started_gives shut Any IsShut refl))

  one_completes : (k : ℕ) (g : Bool) → Completes k (fields_up_to 1 w field g) Any IsShut
  one_completes k false = completes_gives k shut Any IsShut
  one_completes k true = completes_word k
      (field >>= tail (λ g. fields_up_to 0 w field g) (λ g. local_fields_up_to 0 w field l g)
      (started_gives shut Any IsShut refl)) (gives (record { list = []; going = true })) Any IsShut w
      (one_starts true)
      (field_completes (λ g. fields_up_to 0 w field g) (λ g. local_fields_up_to 0 w field l g)
      (started_gives shut Any IsShut refl) k
      (λ g. completes_gives k (record { list = []; going = g }) Any IsShut))
      (completes_gives k (record { list = []; going = true }) Any IsShut)

  -- any number
  shut_reads : {us vs : Tokens} → Placed us [] vs → fields w field false us ≡ got shut vs
  shut_reads p_here = refl

  none_starts : Started (fields w field false) Any IsShut
  none_starts = record { more = []; x = shut; fit = refl; bytes = tt; reads = λ us vs p g. shut_reads p }

  abbrev rest_of : A → Reader (Fields A)
  rest_of x = next_field >>= λ going. fields w field going >>= λ fs. gives (in_front x fs)

  abbrev up_to : ℕ → A → Reader (Fields A)
  up_to n x = next_field >>= λ going. fields_up_to n w field going >>= λ fs. gives (in_front x fs)

  unroll : (ts : Tokens) → fields w field true ts ≡ if_word w (field >>= rest_of)
      (gives (record { list = []; going = true })) ts
  unroll (token b (t.word v) ts) = by_test (bytes_eq v w)
      (then_same field field (up_to (suc (count ts))) rest_of ts refl l λ x rest k.
      then_same next_field next_field
      (λ going. fields_up_to (suc (count ts)) w field going >>= λ fs. gives (in_front x fs))
      (λ going. fields w field going >>= λ fs. gives (in_front x fs)) rest refl
      (local_one as_either) λ going last m.
      ap (λ r. and_then r (λ fs rest. got (in_front x fs) rest))
      (same_fields w field l (suc (count ts)) (suc (count last)) going last (omega arith) (omega arith)))
    where
      by_test : (x : Bool) → (field >>= up_to (suc (count ts))) ts ≡ (field >>= rest_of) ts
          → (if x then skip (field >>= up_to (suc (count ts))) else gives (record { list = []; going = true }))
          (token b (t.word v) ts)
          ≡ (if x then skip (field >>= rest_of) else gives (record { list = []; going = true }))
          (token b (t.word v) ts)
      by_test true q = q
      by_test false q = refl
  unroll _ = refl

  many_reads : (s : Started (field >>= rest_of) Any IsShut) (us vs : Tokens) → Placed us (t.word w ∷ s.more) vs
      → fields w field true us ≡ got s.x vs
  many_reads s _ vs (p_there {at = b} {ts = us} p) = unroll (token b (t.word w) us) ∙ rw e (s.reads us vs p tt)

  many_starts : (g : Bool) → Started (fields w field g) Any IsShut
  many_starts false = none_starts
  many_starts true = let s = field_starts (fields w field) (local_fields w field l) none_starts in
      record {
        more = t.word w ∷ s.more;
        x = s.x;
        fit = s.fit;
        bytes = (tt, s.bytes);
        reads =
            λ us vs p g. many_reads s us vs p;
      }

  many_completes : (k : ℕ) (g : Bool) → Completes k (fields w field g) Any IsShut
  many_completes zero g ts a n d = absurd (omega arith)
  many_completes (suc k) false ts a n d = absurd (got_bad _ ts (stop a) d)
  many_completes (suc k) true (stop b) a n d = stop_completed (fields w field true) Any IsShut
      (many_starts true) b a d
  many_completes (suc k) true (token b (t.word v) ts) a n d = by_test
      (field_completes (fields w field) (local_fields w field l) none_starts k (many_completes k)) (bytes_eq v w) refl
      (sym (unroll (token b (t.word v) ts)) ∙ d)
    where
      by_test : Completes k (field >>= rest_of) Any IsShut → (x : Bool) → bytes_eq v w ≡ x
          → (if x then skip (field >>= rest_of) else gives (record { list = []; going = true }))
          (token b (t.word v) ts) ≡ bad (stop a)
          → Completed (fields w field true) Any IsShut (token b (t.word v) ts) a
      by_test c true q d = behind_completed (fields w field true) (field >>= rest_of) Any IsShut b (t.word v) ts a
          (c ts a (omega arith) d)
          (λ b us. unroll (token b (t.word v) us) ∙ rw q refl)
      by_test c false q d = absurd (got_bad _ (token b (t.word v) ts) (stop a) d)
  many_completes (suc k) true (token b u ts) a n d = absurd (got_bad _ (token b u ts) (stop a) d)

  -- behind a field that is left in hand tokens don't stop
  in_hand : (n : ℕ) (g : Bool) (ts : Tokens) (fs : Fields A) (a : ℕ) → count ts < n
      → fields_up_to n w field g ts ≡ got fs (stop a) → fs.going ≡ true → ⊥
  in_hand zero g ts fs a n d q = absurd (omega arith)
  in_hand (suc n) false ts fs a m d q = absurd
      (false≢true (ap (λ (fs : Fields A). fs.going) (got_parts shut fs ts (stop a) d).0 ∙ q))
  in_hand (suc n) true (stop b) fs a m d q = absurd (no_got (stop b) (stop a) fs d)
  in_hand (suc n) true (token b (t.word v) ts) fs a m d q = by_test (λ g us gs k d q. in_hand n g us gs a k d q)
      (bytes_eq v w) d
    where
      inner : ((g : Bool) (us : Tokens) (gs : Fields A) → count us < n → fields_up_to n w field g us ≡ got gs (stop a)
          → gs.going ≡ true → ⊥) → (field >>= up_to n) ts ≡ got fs (stop a) → ⊥
      inner again d =
          let x = split_got field (up_to n) ts fs (stop a) d in
          let y = split_got next_field
          (λ going. fields_up_to n w field going >>= λ fs. gives (in_front x.x fs)) x.mid fs (stop a) x.second in
          let z = split_got (fields_up_to n w field y.x) (λ fs. gives (in_front x.x fs)) y.mid fs (stop a) y.second in
          let k1 = no_longer field l ts x.x x.mid x.first in
          let k2 = no_longer next_field (local_one as_either) x.mid y.x y.mid y.first in
          let p = got_parts (in_front x.x z.x) fs z.mid (stop a) z.second in
          again y.x y.mid z.x (omega arith) (z.first ∙ ap (λ r. got z.x r) p.1)
          (ap (λ (fs : Fields A). fs.going) p.0 ∙ q)

      by_test : ((g : Bool) (us : Tokens) (gs : Fields A) → count us < n → fields_up_to n w field g us ≡ got gs
          (stop a) → gs.going ≡ true → ⊥) → (x : Bool)
          → (if x then skip (field >>= up_to n) else gives (record { list = []; going = true }))
          (token b (t.word v) ts) ≡ got fs (stop a) → ⊥
      by_test again true d = inner again d
      by_test again false d = absurd
          (token_stop b (t.word v) ts a (got_parts _ fs (token b (t.word v) ts) (stop a) d).1)
  in_hand (suc n) true (token b u ts) fs a m d q = absurd
      (token_stop b u ts a (got_parts _ fs (token b u ts) (stop a) d).1)

-- what reads from the fields on: it can go on, and begin where the module is closed
record Onward {B : Type 0} (k : ℕ) (r : Reader B) (g : Bool) : Type 0 where
  completes : Completes k r Any Each
  starts : g ≡ false → Started r Any Each

linked : {A B : Type 0} (k : ℕ) (R : Bool → Reader (Fields A)) (f : Fields A → Reader B) (g : Bool)
    → ((g : Bool) → Local (R g)) → ((g : Bool) → Completes k (R g) Any IsShut) → Started (R false) Any IsShut
    → ((fs : Fields A) → Onward k (f fs) fs.going) → Onward k (R g >>= f) g
linked k R f g l c s o = record {
  completes = completes_after k (R g) f Any Any IsShut Each (l g) (c g) (λ fs. (o fs).completes)
      (λ fs q. (o fs).starts q) (λ fs q us vs p h. tt);
  starts = λ q. subst (λ g. Started (R g >>= f) Any Each) (sym q)
      (started_then (R false) f Any Any IsShut Each s ((o s.x).starts s.fit) (λ us vs p h. tt));
}

many : {A B : Type 0} (k : ℕ) (w : List ℕ) → bytes_eq w w ≡ true → (field : Reader A) → Local field
    → ((k : ℕ) → On k field Any) → (f : Fields A → Reader B) (g : Bool)
    → ((fs : Fields A) → Onward k (f fs) fs.going) → Onward k (fields w field g >>= f) g
many k w e field l o f g h = linked k (fields w field) f g (local_fields w field l) (many_completes w e field l o k)
    (many_starts w e field l o false) h

one : {A B : Type 0} (k : ℕ) (w : List ℕ) → bytes_eq w w ≡ true → (field : Reader A) → Local field
    → ((k : ℕ) → On k field Any) → (f : Fields A → Reader B) (g : Bool)
    → ((fs : Fields A) → Onward k (f fs) fs.going) → Onward k (fields_up_to 1 w field g >>= f) g
one k w e field l o f g h = linked k (fields_up_to 1 w field) f g (local_fields_up_to 1 w field l)
    (one_completes w e field l o k) (one_starts w e field l o false) h

abbrev closes : {A B : Type 0} → (Fields A → B) → Fields A → Reader B
closes h fs = no_more fs.going >>= λ _. gives (h fs)

-- the last kind, behind which no field is opened
last : {A B : Type 0} (k : ℕ) (w : List ℕ) → bytes_eq w w ≡ true → (field : Reader A) → Local field
    → ((k : ℕ) → On k field Any) → (h : Fields A → B) (g : Bool)
    → Onward k (fields w field g >>= λ fs. no_more fs.going >>= λ _. gives (h fs)) g
last {A = A} {B = B} k w e field l o h g = record {
  completes = completes_then k (fields w field g) (closes h) Any Any IsShut Each (local_fields w field l g)
      (many_completes w e field l o k g) behind (λ fs q. closes_starts fs fs.going q) (λ fs q us vs p h. tt);
  starts = λ q. subst (λ g. Started (fields w field g >>= (closes h)) Any Each) (sym q)
      (let s = many_starts w e field l o false in started_then (fields w field false) (closes h) Any Any IsShut Each s
      (closes_starts s.x s.x.going s.fit) (λ us vs p h. tt));
}
  where
    closes_starts : (fs : Fields A) (b : Bool) → b ≡ false → Started (no_more b >>= λ _. gives (h fs)) Any Each
    closes_starts fs b q = subst (λ b. Started (no_more b >>= λ _. gives (h fs)) Any Each) (sym q)
        (started_gives (h fs) Any Each tt)

    by_going : (fs : Fields A) (b : Bool) (mid : Tokens) (a : ℕ) → (mid ≡ stop a → b ≡ true → ⊥)
        → (no_more b >>= λ _. gives (h fs)) mid ≡ bad (stop a) → Completed
        (no_more b >>= λ _. gives (h fs)) Any Each mid a
    by_going fs false mid a n d = absurd (got_bad (h fs) mid (stop a) d)
    by_going fs true mid a n d = absurd
        (n (bad_parts ((no_more true >>= λ _. gives (h fs)) mid) mid (stop a) refl d) refl)

    behind : (fs : Fields A) (ts mid : Tokens) (a : ℕ) → fields w field g ts ≡ got fs mid → count mid ≤ count ts
        → count ts < k → closes h fs mid ≡ bad (stop a) → Completed (closes h fs) Any Each mid a
    behind fs ts mid a q c n d = by_going fs fs.going mid a
        (λ s b. in_hand w e field l o (suc (count ts)) g ts fs a (omega arith) (q ∙ ap (λ r. got fs r) s) b) d

-- the reader of a module, from its fields on
abbrev fields_behind : Bool → Reader PureModule
fields_behind going = do
  types ← fields (codes "type") function_type going
  funcs ← fields (codes "func") function types.going
  tables ← fields_up_to 1 (codes "table") table funcs.going
  memories ← fields_up_to 1 (codes "memory") memory tables.going
  globals ← fields (codes "global") global memories.going
  exports ← fields (codes "export") export globals.going
  elements ← fields (codes "elem") element exports.going
  segments ← fields (codes "data") data_segment elements.going
  _ ← no_more segments.going
  gives
      (record {
        types = types.list;
        funcs = funcs.list;
        table = head tables.list;
        memory = head memories.list;
        globals = globals.list;
        exports = exports.list;
        elements = elements.list;
        segments = segments.list;
      })

pub module_completes : (k : ℕ) → Completes k whole_module Any Each
unfolding whole_module
module_completes k =
    (on_token k as_left t.left tt refl tt _ Any (λ _.
    on_token k (as_word (codes "module")) (t.word (codes "module")) tt refl tt _ Any (λ _.
    record {
      completes = completes_after k next_field _ Any Any (λ g. g ≡ false) Each (local_one as_either)
          (completes_one as_either t.right false refl tt Any (λ g. g ≡ false) refl k)
          (λ g. (from_fields g).completes) (λ g q. (from_fields g).starts q) (λ g q us vs p h. tt);
      starts = started_then next_field _ Any Any (λ g. g ≡ false) Each
          (started_one as_either t.right false refl tt Any (λ g. g ≡ false) refl) ((from_fields false).starts refl)
          (λ us vs p h. tt);
    }))).completes
  where
    from_fields : (g : Bool) → Onward k (fields_behind g) g
    from_fields g =
        many k (codes "type") refl function_type local_function_type on_function_type _ g (λ types.
        many k (codes "func") refl function local_function on_function _ types.going (λ funcs.
        one k (codes "table") refl table local_table on_table _ funcs.going (λ tables.
        one k (codes "memory") refl memory local_memory on_memory _ tables.going (λ memories.
        many k (codes "global") refl global local_global on_global _ memories.going (λ globals.
        many k (codes "export") refl export local_export on_export _ globals.going (λ exports.
        many k (codes "elem") refl element local_element on_element _ exports.going (λ elements.
        last k (codes "data") refl data_segment local_data on_data _ elements.going)))))))
