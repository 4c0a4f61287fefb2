-- The names of the items of a program that is read: words of at most 64 bytes, all of which differ.
use Rattle.std.proofs.Common.{◌≡◌, ◌≤◌, inl, inr, ℕ, Bool, true, false, cond, not, ◌&&◌, List, [], ◌∷◌, ◌++◌, map}
use Rattle.std.proofs.Common.{length, Option, Some, None, refl, sym, ◌∙◌, subst, arith}
use Rattle.std.specs.List.{AllByRecursion}
use Rattle.std.specs.Map.{lookup}
use Rattle.std.specs.Option.{option_or}
use Rattle.std.specs.Str.{bytes_eq}
use Rattle.std.proofs.lemmas.Bool.{false≢true, and_parts}
use Rattle.std.proofs.lemmas.Option.{none-some, same_Some}
use Rattle.std.proofs.lemmas.Slice.Eq.{bytes_eq-Decides}
use Rattle.mw_wasm.specs.Profile.{IsPrintable}
use Rattle.mw_term.specs.Programs.{Definition}
use Rattle.mw_lex.specs.Bytes.{IsWordByte}
use Rattle.mw_lex.specs.Texts.{reserved_words, mark_texts, IsWord, Spells, a_mark, a_reserved_word, a_name, a_number}
use Rattle.mw_lex.specs.Tokens.{Symbol, word, PureToken, token}
use Rattle.mw_lex.specs.Reading.{Reads as Lexes, so_far, behind_blank, behind_comment, behind_token, AreTokens}
use Rattle.mw_grammar.specs.SurfaceTrees.{SurfaceTree, PureItem, PureSurface}
use Rattle.mw_grammar.specs.SourceNodes.{Nodes}
use Rattle.mw_grammar.specs.Grammar.{Row, Nonterminal, program, item, Meaning, Reads, More, m_end, m_sign, m_argument}
use Rattle.mw_grammar.specs.Grammar.{r_main, r_program, r_let_item, r_rec_item, r_kernel, r_let, r_let_rec, r_fun, r_if}
use Rattle.mw_grammar.specs.Grammar.{r_expr, r_parameter, r_body, r_mark, r_or, r_disjunction, r_and, r_conjunction}
use Rattle.mw_grammar.specs.Grammar.{r_compare, r_comparison, r_row, r_head, r_run, r_atom, r_name, r_number, r_true}
use Rattle.mw_grammar.specs.Grammar.{r_false, r_minus, r_paren, r_pair, r_bracket, r_escape, r_ground_kernel, r_arrow}
use Rattle.mw_grammar.specs.Grammar.{r_star, r_part, r_base_part, r_ground_paren, r_int, r_bool}
use Rattle.mw_scope.specs.Scopes.{name_of, items_of}
use Rattle.mw_scope.specs.Nameless.{NamelessItems, no_item, an_item}
use Rattle.mw_scope.proofs.Places.{items_of-append}

-- a word of at most 64 bytes
pub record IsName (x : List ℕ) : Type 0 where
  pub is_word : IsWord x
  pub short : length x ≤ 64

-- Names of tokens.

abbrev OfName : Symbol → Type 0
OfName (word x) = IsName x
OfName s = Unit {0}

abbrev IsNamed : PureToken → Type 0
IsNamed (token start stop s) = OfName s

-- no text of the two tables is a name's
abbrev is_word : Symbol → Bool
is_word (word x) = true
is_word s = false

abbrev no_words : List (List ℕ × Symbol) → Bool
no_words [] = true
no_words (entry ∷ entries) = not (is_word entry.1) && no_words entries

no_word : (s : Symbol) → not (is_word s) ≡ true → OfName s
no_word s is = by_symbol s is
  where
    by_symbol : (s : Symbol) → not (is_word s) ≡ true → OfName s
    by_symbol (word x) is = absurd (false≢true is)
    by_symbol _ is = tt

looked_up : (entries : List (List ℕ × Symbol)) (text : List ℕ) (s : Symbol) → no_words entries ≡ true
    → lookup (bytes_eq text) entries ≡ Some s → OfName s
looked_up [] text s none e = absurd (none-some s e)
looked_up (entry ∷ entries) text s none e =
    let both = and_parts (not (is_word entry.1)) (no_words entries) none in
    by_text both.0 (looked_up entries text s both.1) (bytes_eq text entry.0) e
  where
    by_text : not (is_word entry.1) ≡ true → (lookup (bytes_eq text) entries ≡ Some s → OfName s) → (t : Bool)
        → cond t (Some entry.1) (lookup (bytes_eq text) entries) ≡ Some s → OfName s
    by_text here more true e = subst OfName (same_Some entry.1 s e) (no_word entry.1 here)
    by_text here more false e = more e

spelled : {text : List ℕ} {s : Symbol} → Spells text s → OfName s
spelled {text} {s} (a_mark e) = looked_up mark_texts text s refl e
spelled {text} {s} (a_reserved_word e) = looked_up reserved_words text s refl e
spelled (a_name w none short) = record { is_word = w; short = short }
spelled (a_number some digits) = tt

lexed : {at stop : ℕ} {bytes rest : List ℕ} {tokens : List PureToken} → Lexes at bytes tokens stop rest
    → AllByRecursion IsNamed tokens
lexed so_far = tt
lexed (behind_blank blank h) = lexed h
lexed (behind_comment body after is comment ends h) = lexed h
lexed (behind_token text after is longest spells h) = (spelled spells, lexed h)

-- Names of items that are read from tokens.

mutual
  -- what is left of the tokens is some of them
  left : {n : Nonterminal} {ts rest : List PureToken} {v : Meaning n} {s : Nodes} → Reads n ts v s rest
      → AllByRecursion IsNamed ts → AllByRecursion IsNamed rest
  left (r_main h i) a = left i (left h a.1.1).1
  left (r_program h i) a = left i (left h a).1
  left (r_let_item h) a = left h a.1.1
  left (r_rec_item h) a = left h a.1.1.1
  left (r_kernel h i) a = left i (left h a.1.1.1).1
  left (r_let h i) a = left i (left h a.1.1).1
  left (r_let_rec h i) a = left i (left h a.1.1.1).1
  left (r_fun h) a = left h a.1
  left (r_if h i j) a = left j (left i (left h a.1).1).1
  left (r_expr h) a = left h a
  left (r_parameter h) a = left h a.1
  left (r_body h) a = left h a
  left (r_mark h) a = left h a.1
  left (r_or h i) a = left i (left h a).1
  left (r_disjunction h) a = left h a
  left (r_and h i) a = left i (left h a).1
  left (r_conjunction h) a = left h a
  left (r_compare c h i) a = left i (left h a).1
  left (r_comparison h) a = left h a
  left (r_row h m) a = left_more m (left h a)
  left (r_head k h) a = left h a.1
  left (r_run h i) a = left i (left h a.1.1).1
  left (r_atom h) a = left h a
  left r_name a = a.1
  left r_number a = a.1
  left r_true a = a.1
  left r_false a = a.1
  left r_minus a = a.1.1.1.1
  left (r_paren h) a = (left h a.1).1
  left (r_pair h i) a = (left i (left h a.1).1).1
  left (r_bracket h) a = (left h a.1).1
  left (r_escape h) a = left h a.1
  left (r_ground_kernel h) a = left h a
  left (r_arrow h i) a = left i (left h a).1
  left (r_star h i) a = left i (left h a).1
  left (r_part h) a = left h a
  left (r_base_part h) a = left h a
  left (r_ground_paren h) a = (left h a.1).1
  left r_int a = a.1
  left r_bool a = a.1

  left_more : {w : Row} {l e : SurfaceTree} {s t : Nodes} {ts rest : List PureToken} → More w l s ts e t rest
      → AllByRecursion IsNamed ts → AllByRecursion IsNamed rest
  left_more m_end a = a
  left_more (m_sign sign h m) a = left_more m (left h a.1)
  left_more (m_argument h m) a = left_more m (left h a)

abbrev pub HasName : PureItem → Type 0
HasName i = IsName (name_of i)

read_item : {ts rest : List PureToken} {v : PureItem} {s : Nodes} → Reads item ts v s rest
    → AllByRecursion IsNamed ts → HasName v
read_item (r_let_item h) a = a.1.0
read_item (r_rec_item h) a = a.1.1.0
read_item (r_kernel h i) a = a.1.0

read_items : {ts rest : List PureToken} {v : PureSurface} {s : Nodes} → Reads program ts v s rest
    → AllByRecursion IsNamed ts → AllByRecursion HasName v.items
read_items (r_main h i) a = tt
read_items (r_program h i) a = (read_item h a, read_items i (left h a).1)

pub items_named : {bytes : List ℕ} {tokens rest : List PureToken} {v : PureSurface} {s : Nodes}
    → AreTokens bytes tokens → Reads program tokens v s rest → AllByRecursion HasName v.items
items_named are h = read_items h (lexed are.reads)

-- a name is printable
word_byte : (b : ℕ) → IsWordByte b → IsPrintable b
word_byte b (inl digit) = (omega (arith, digit.0), omega (arith, digit.1))
word_byte b (inr (inl upper)) = (omega (arith, upper.0), omega (arith, upper.1))
word_byte b (inr (inr (inl lower))) = (omega (arith, lower.0), omega (arith, lower.1))
word_byte b (inr (inr (inr line))) = (omega (arith, line), omega (arith, line))

word_bytes : (x : List ℕ) → AllByRecursion IsWordByte x → AllByRecursion IsPrintable x
word_bytes [] a = tt
word_bytes (b ∷ x) a = (word_byte b a.0, word_bytes x a.1)

pub name_printable : (x : List ℕ) → IsName x → AllByRecursion IsPrintable x
name_printable [] h = tt
name_printable (b ∷ x) h = word_bytes (b ∷ x) h.is_word.1

-- Names that differ.

abbrev pub IsOther : List ℕ → List ℕ → Type 0
IsOther x y = y ≡ x → ⊥

abbrev pub Differ : List (List ℕ) → Type 0
Differ [] = Unit {0}
Differ (x ∷ xs) = AllByRecursion (IsOther x) xs × Differ xs

-- a name that is fresh behind an item is another than the item's, and fresh before it
none_of_either : {A : Type 0} (o : Option A) (x : A) (t : Bool) → option_or o (cond t (Some x) None) ≡ None
    → (o ≡ None) × (t ≡ false)
none_of_either None x true e = absurd (none-some x (sym e))
none_of_either None x false e = (refl, refl)
none_of_either (Some y) x t e = absurd (none-some y (sym e))

fresh_behind : (before : List PureItem) (i : PureItem) (x : List ℕ) → items_of (before ++ i ∷ []) x ≡ None
    → (items_of before x ≡ None) × (bytes_eq x (name_of i) ≡ false)
fresh_behind before i x e =
    none_of_either (items_of before x) (length before) (bytes_eq x (name_of i))
    (sym (items_of-append before i x) ∙ e)

other_name : (x y : List ℕ) → bytes_eq y x ≡ false → IsOther x y
other_name x y e same = false≢true (sym e ∙ (bytes_eq-Decides y x).1 same)

-- each of the items has another name than one before them
others : (x : List ℕ) {before items : List PureItem} {ds : List Definition}
    → ((y : List ℕ) → items_of before y ≡ None → IsOther x y) → NamelessItems before items ds
    → AllByRecursion (IsOther x) (map name_of items)
others x there no_item = tt
others x {before} there (an_item {item = i} fresh is rest) =
    (there (name_of i) fresh, others x (λ y none. there y (fresh_behind before i y none).0) rest)

pub names_differ : {before items : List PureItem} {ds : List Definition} → NamelessItems before items ds
    → Differ (map name_of items)
names_differ no_item = tt
names_differ {before} (an_item {item = i} fresh is rest) = (
  others (name_of i) (λ y none. other_name (name_of i) y (fresh_behind before i y none).1) rest,
  names_differ rest,
)
