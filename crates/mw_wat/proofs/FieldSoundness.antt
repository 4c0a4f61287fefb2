-- Modules that are read are what the tokens say.
use Rattle.std.proofs.Common.{◌≡◌, ℕ, zero, suc, ◌-◌, ◌<◌, ◌≤◌, ◌^◌, List, [], ◌∷◌, ◌++◌, length, map, refl, ap, sym}
use Rattle.std.proofs.Common.{◌∙◌, subst, arith, Bool, true, false, ◌&&◌, Option, Some, None, append_assoc, append-nil}
use Rattle.std.specs.Prelude.{codes, nat_le}
use Rattle.std.specs.List.{AllByRecursion, flat_map}
use Rattle.std.proofs.lemmas.Option.{none-some, same_Some}
use Rattle.std.proofs.lemmas.Bool.{and_parts}
use Rattle.std.proofs.lemmas.Bool.Decides.{nat_tests}
use Rattle.mw_wasm.specs.declared.values.ValType.{ValType}
use Rattle.mw_wasm.specs.declared.modules.FuncType.{FuncType}
use Rattle.mw_wasm.specs.declared.modules.Exported.{Exported}
use Rattle.mw_wasm.specs.declared.modules.Exported.TheVariants as what
use Rattle.mw_wasm.specs.Profile.{depth, IsPrintable}
use Rattle.mw_wat.specs.Tokens.{PureToken}
use Rattle.mw_wat.specs.Tokens as t
use Rattle.mw_wat.specs.Names.{type_name}
use Rattle.mw_wat.specs.Lexemes.{Lexeme, left, right, word, number, name, octets, token_of, types_behind}
use Rattle.mw_wat.specs.Lexemes as lexemes
use Rattle.mw_wat.specs.Lexing.{stop, token}
use Rattle.mw_wat.specs.Reading.{Reader, ◌>>=◌, gives, peek, one_of, as_type, value_type}
use Rattle.mw_wat.specs.Reading.{types_and_close, closing, if_opened, count}
use Rattle.mw_wat.specs.Modules.{results, params_then, with_params, function_type, some_locals, function}
use Rattle.mw_wat.specs.Modules.{as_limit, upper, limits, table, memory, variable, global, are_printable, as_name}
use Rattle.mw_wat.specs.Modules.{as_string, as_kind, export, offset, element, data_segment, Fields, as_either}
use Rattle.mw_wat.specs.Modules.{next_field, fields_up_to, fields}
use Rattle.mw_wat.proofs.FieldsAreRead.{type_tail, function_tail, FitsFunction, table_tail, memory_tail, global_tail}
use Rattle.mw_wat.proofs.FieldsAreRead.{export_tail, element_tail, data_tail}
use Rattle.mw_wat.proofs.FieldsOfModules.{field_of}
use Rattle.mw_wat.proofs.LexemeSoundness.{IsKnown, ReadsAt, Reads, Tells, says_bad, says_gives, says_weak, says_then}
use Rattle.mw_wat.proofs.LexemeSoundness.{tells_then, tells_last, says_first, says_opened, says_word, says_one}
use Rattle.mw_wat.proofs.LexemeSoundness.{MeansBack, tells_one, tells_all, tells_some, by_word, tested, number_back}
use Rattle.mw_wat.proofs.LexemeSoundness.{says_number}
use Rattle.mw_wat.proofs.CodeSoundness.{says_opening, says_closing, says_this, says_index, says_indices, says_type}
use Rattle.mw_wat.proofs.CodeSoundness.{says_result, type_back, says_expression}

-- types
abbrev type_word : ValType → Lexeme
type_word t = word (type_name t)

-- P of what stands behind the first
abbrev Behind : (List ValType → Type 0) → List ValType → Type 0
Behind P [] = ⊥
Behind P (x ∷ xs) = P xs

says_types : {more : Reader (List ValType)} {P : List ValType → Type 0} → Tells more (map type_word) P
    → Tells (types_and_close more) (λ ts. map type_word ts ++ right ∷ []) (Behind P)
says_types m = tells_then says_type λ t _. tells_then m λ ts p. tells_then says_closing λ _ _. says_gives (refl, p)

abbrev typed : List ValType → List ValType → FuncType
typed ps rs = record { params = ps; results = rs }

abbrev lists_of : FuncType → List Lexeme
lists_of f = types_behind (codes "param") f.params ++ types_behind (codes "result") f.results ++ right ∷ []

-- these lexemes and what is read behind them are the lists of a type
abbrev EndsType : List Lexeme → FuncType → List Lexeme → Type 0
EndsType front f is = (front ++ is ≡ lists_of f) × (length f.results ≤ 1)

says_results : Reads results (λ rs is. (left ∷ is ≡ types_behind (codes "result") rs) × (length rs ≤ 1))
says_results = tells_last _ says_result λ t _. (refl, omega arith)

says_closed_results : (ps : List ValType) → Reads (results >>= λ rs. closing >>= λ _. gives (typed ps rs))
    (λ f is. EndsType (types_behind (codes "param") ps) f (left ∷ is))
says_closed_results ps ts = says_then (says_results ts) λ rs is p. tells_then says_closing λ _ _. says_gives (
  ap (λ js. types_behind (codes "param") ps ++ (js ++ right ∷ [])) p.0
      ∙ sym (append_assoc (types_behind (codes "param") ps) (types_behind (codes "result") rs) (right ∷ [])),
  p.1,
)

says_params : (ps : List ValType) → Reads (params_then ps) (EndsType (types_behind (codes "param") ps))
says_params ps = says_opened (says_closed_results ps) (tells_then says_closing λ _ _. says_gives (
  sym (append_assoc (types_behind (codes "param") ps) [] (right ∷ [])),
  omega arith,
))

says_behind_params : (ps : List ValType) → Behind (λ _. Unit {0}) ps → Reads (params_then ps)
    (λ f is. EndsType (left ∷ word (codes "param") ∷ map type_word ps ++ right ∷ []) f is)
says_behind_params [] k = absurd k
says_behind_params (p ∷ ps) k = says_params (p ∷ ps)

says_lists : Tells (if_opened with_params (closing >>= λ _. gives (typed [] []))) lists_of (λ f. length f.results ≤ 1)
says_lists = says_opened
    (says_word (codes "param") (tells_then (says_types (tells_all as_type type_word type_back)) says_behind_params)
    (says_closed_results []))
    (tells_then says_closing λ _ _. says_gives (refl, omega arith))

pub says_function_type : Tells function_type type_tail (λ f. length f.results ≤ 1)
says_function_type = tells_then says_opening λ _ _. tells_then (says_this (codes "func")) λ _ _.
    tells_then says_lists λ f p. tells_then says_closing λ _ _. says_gives (refl, p)

-- functions
some_locals_fit : (ls : List ValType) (is : List Lexeme)
    → (is ≡ map type_word ls ++ right ∷ []) × Behind (λ ls. length ls ≤ 49_999) ls
    → (left ∷ word (codes "local") ∷ is ≡ types_behind (codes "local") ls) × (length ls ≤ 50_000)
some_locals_fit [] is p = absurd p.1
some_locals_fit (l ∷ ls) is p = (ap (λ is. left ∷ word (codes "local") ∷ is) p.0, let k = p.1 in omega arith)

says_locals : Tells (if_opened some_locals (gives [])) (types_behind (codes "local")) (λ ls. length ls ≤ 50_000)
says_locals = says_opened
    (tells_then (says_this (codes "local")) λ _ _ ts. says_weak
    (says_types (tells_some 49_999 as_type type_word type_back) ts) some_locals_fit)
    (says_gives (refl, omega arith))

pub says_function : Tells function function_tail FitsFunction
says_function = tells_then says_opening λ _ _. tells_then (says_this (codes "type")) λ _ _.
    tells_then says_index λ k _. tells_then says_closing λ _ _. tells_then says_locals λ ls p.
    tells_last _ says_expression λ c d. (simp append_assoc, record { locals = p; body = d })

-- limits
says_upper : (most min : ℕ) → min ≤ most → Reads (peek (λ t. upper min (as_limit t)))
    (λ l is. (number min ∷ is ≡ lexemes.limits l) × (l.min ≤ most))
says_upper most min k (stop at) = says_bad refl
says_upper most min k (token at t ts) = record { back = (by_limit (as_limit t) refl).back }
  where
    by_limit : (o : Option ℕ) → as_limit t ≡ o
        → ReadsAt (upper min o) (token at t ts) (λ l is. (number min ∷ is ≡ lexemes.limits l) × (l.min ≤ most))
    by_limit None d = says_gives (refl, k) (token at t ts)
    by_limit (Some max) d = let m = number_back (2 ^ 32 - 1) (omega arith) t max d in
        says_first (number max) m.0 m.1 (says_gives (refl, k) ts)

says_limits : (most : ℕ) → most < 2 ^ 32 → Tells (limits most) lexemes.limits (λ l. l.min ≤ most)
says_limits most few = tells_then (says_number most few) λ min k. says_upper most min k

pub says_table : Tells table table_tail (λ l. l.min ≤ 100_000)
says_table = tells_then (says_limits 100_000 (omega arith)) λ l k. tells_then (says_this (codes "funcref")) λ _ _.
    tells_then says_closing λ _ _. says_gives (simp append_assoc, k)

pub says_memory : Tells memory memory_tail (λ l. l.min ≤ 1_024)
says_memory = tells_then (says_limits 1_024 (omega arith)) λ l k. tells_then says_closing λ _ _. says_gives (refl, k)

-- globals
says_kind : Tells (if_opened variable (value_type >>= λ t. gives (t, false))) (λ t. lexemes.global_type t.1 t.0)
    (λ _. Unit {0})
says_kind = says_opened
    (tells_then (says_this (codes "mut")) λ _ _. tells_then says_type λ t _. tells_then says_closing λ _ _.
    says_gives (refl, tt)) (tells_then says_type λ t _. says_gives (refl, tt))

pub says_global : Tells global global_tail (λ g. depth g.init ≤ 500)
says_global = tells_then says_kind λ t _. tells_last _ says_expression λ c d. (simp append_assoc, d)

-- exports
printable_from : (bytes : List ℕ) → are_printable bytes ≡ true → AllByRecursion IsPrintable bytes
printable_from [] e = tt
printable_from (b ∷ bytes) e = (
  grind (arith, nat_tests),
  printable_from bytes (and_parts (nat_le 0x20 b && nat_le b 0x7E) (are_printable bytes) e).1,
)

name_back : MeansBack as_name name
name_back (t.string bytes) x e =
    let b = tested (are_printable bytes) (Some bytes) x e in
    let s = same_Some bytes x b.1 in
    (ap t.string (sym s), subst (λ x. AllByRecursion IsPrintable x) s (printable_from bytes b.0))
name_back _ x e = absurd (none-some x e)

string_back : MeansBack as_string octets
string_back (t.string bytes) x e = (ap t.string (sym (same_Some bytes x e)), tt)
string_back _ x e = absurd (none-some x e)

-- the word of a kind of exports
abbrev IsKind : PureToken → (ℕ → Exported) → Type 0
IsKind t k = (i : Lexeme) × (token_of i ≡ t) × IsKnown i × ((x : ℕ) → lexemes.exported (k x) ≡ i ∷ number x ∷ [])

kind_back : (t : PureToken) (k : ℕ → Exported) → as_kind t ≡ Some k → IsKind t k
kind_back (t.word w) k e = by_word Kind w (codes "func") what.Func _ k (word (codes "func"), refl, tt, λ x. refl)
    (by_word Kind w (codes "table") what.Table _ k (word (codes "table"), refl, tt, λ x. refl)
    (by_word Kind w (codes "memory") what.Memory _ k (word (codes "memory"), refl, tt, λ x. refl)
    (by_word Kind w (codes "global") what.Global None k (word (codes "global"), refl, tt, λ x. refl)
    (λ d. absurd (none-some k d))))) e
  where
    Kind : (ℕ → Exported) → List ℕ → Type 0
    Kind k u = IsKind (t.word u) k
kind_back _ k e = absurd (none-some k e)

pub says_export : Tells export export_tail (λ g. AllByRecursion IsPrintable g.name)
says_export = tells_then (tells_one as_name name name_back) λ n p. tells_then says_opening λ _ _ ts.
    says_then (says_kind_word ts) λ w is e. tells_then says_index λ x _. tells_then says_closing λ _ _.
    tells_then says_closing λ _ _. says_gives (simp (e x, append_assoc), p)
  where
    says_kind_word : Reads (one_of as_kind) (λ k is. (x : ℕ) → lexemes.exported (k x) ≡ is ++ number x ∷ [])
    says_kind_word = says_one as_kind kind_back

-- segments
says_offset : Tells offset lexemes.offset (λ c. depth c ≤ 500)
says_offset = tells_then says_opening λ _ _. tells_then (says_this (codes "offset")) λ _ _ ts. says_weak
    (says_expression ts) λ c is p. (ap (λ is. left ∷ word (codes "offset") ∷ is) p.0, p.1)

pub says_element : Tells element element_tail (λ g. depth g.offset ≤ 500)
says_element = tells_then says_offset λ c d. tells_then says_indices λ fs _. tells_then says_closing λ _ _.
    says_gives (sym (append_assoc (lexemes.offset c) (map number fs) (right ∷ [])), d)

pub says_data : Tells data_segment data_tail (λ g. depth g.offset ≤ 500)
says_data = tells_then says_offset λ c d. tells_then (tells_one as_string octets string_back) λ bytes _.
    tells_then says_closing λ _ _. says_gives (
      sym (append_assoc (lexemes.offset c) (octets bytes ∷ []) (right ∷ [])),
      d,
    )

-- Fields of one kind. The lexeme in hand is the parenthesis that was read last.
abbrev pub hand : Bool → Lexeme
hand true = left
hand false = right

either_back : MeansBack as_either hand
either_back t.left x e = subst (λ x. (token_of (hand x) ≡ t.left) × IsKnown (hand x)) (same_Some true x e) (refl, tt)
either_back t.right x e = subst (λ x. (token_of (hand x) ≡ t.right) × IsKnown (hand x)) (same_Some false x e) (refl, tt)
either_back _ x e = absurd (none-some x e)

pub says_next : Tells next_field (λ going. hand going ∷ []) (λ going. IsKnown (hand going))
says_next = tells_one as_either hand either_back

pub record FitsFields {A : Type 0} (w : List ℕ) (tail : A → List Lexeme) (Fits : A → Type 0) (going : Bool)
    (fs : Fields A) (is : List Lexeme) : Type 0 where
  pub same : hand going ∷ is ≡ flat_map (field_of w tail) fs.list ++ hand fs.going ∷ []
  pub fit : AllByRecursion Fits fs.list

module _ {A : Type 0} (w : List ℕ) {field : Reader A} {tail : A → List Lexeme} {Fits : A → Type 0}
    (g : Tells field tail Fits) where
  none_fit : (n : ℕ) (going : Bool) → Reads (gives (record { list = []; going = going }))
      (λ fs is. FitsFields w tail Fits going fs is × (length fs.list ≤ n))
  none_fit n going = says_gives (record { same = refl; fit = tt }, omega arith)

  pub says_fields_up_to : (n : ℕ) (going : Bool) → Reads (fields_up_to n w field going)
      (λ fs is. FitsFields w tail Fits going fs is × (length fs.list ≤ n))
  says_fields_up_to zero going = none_fit zero going
  says_fields_up_to (suc n) false = none_fit (suc n) false
  says_fields_up_to (suc n) true = says_word w
      (tells_then g λ x f. tells_then says_next λ going _ ts. says_then (says_fields_up_to n going ts) λ fs is b.
      says_gives (
        record {
          same = ap (λ js. left ∷ word w ∷ tail x ++ js)
              (ap (λ js. hand going ∷ js) (append-nil is) ∙ b.0.same)
              ∙ sym (append_assoc (field_of w tail x) (flat_map (field_of w tail) fs.list) (hand fs.going ∷ []));
          fit = (f, b.0.fit);
        },
        let k = b.1 in omega arith,
      )) (none_fit (suc n) true)

  pub says_fields : (going : Bool) → Reads (fields w field going) (FitsFields w tail Fits going)
  says_fields going ts =
      record { back = (says_weak (says_fields_up_to (suc (count ts)) going ts) (λ fs is b. b.0)).back }

-- what stands behind the fields, be its first parenthesis in hand or not
pub chained : {A : Type 0} {w : List ℕ} {tail : A → List Lexeme} {Fits : A → Type 0} {going : Bool} {fs : Fields A}
    {is js ks : List Lexeme} → FitsFields w tail Fits going fs is → hand fs.going ∷ js ≡ ks
    → hand going ∷ is ++ js ≡ flat_map (field_of w tail) fs.list ++ ks
chained {w = w} {tail = tail} {fs = fs} {js = js} b e =
    ap (λ is. is ++ js) b.same
    ∙ append_assoc (flat_map (field_of w tail) fs.list) (hand fs.going ∷ []) js
    ∙ ap (λ is. flat_map (field_of w tail) fs.list ++ is) e
