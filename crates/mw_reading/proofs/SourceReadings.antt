-- From the answers of lexing, parsing and resolving to what reading answers.
use Rattle.std.proofs.Common.{◌≡◌, ℕ, ◌^◌, ◌<◌, ◌≤◌, List, [], ◌∷◌, map, length, Result, Ok, Err, refl, sym, ap, ◌∙◌}
use Rattle.std.proofs.Common.{subst, arith}
use Rattle.std.specs.Prelude.{IfOk, IfErr}
use Rattle.std.specs.Result.{IsErrAnd}
use Rattle.std.proofs.lemmas.Result.{IfOk-at_ok, IfErr-at_err, err_from_is_err_and}
use Rattle.mw_term.specs.Terms.{Expression, GroundType, ground_of}
use Rattle.mw_term.specs.Programs.{Definition, PureProgram, program_of, program_size}
use Rattle.mw_term.specs.declared.program.Program.{Program}
use Rattle.mw_term.specs.declared.refusal.Refusal.{Refusal}
use Rattle.mw_term.specs.declared.refusal.Refusal.TheVariants.{TooLarge, Char, Number, Name}
use Rattle.mw_term.specs.declared.refusal.Stop.{Stop}
use Rattle.mw_term.specs.declared.refusal.Stop.TheVariants.{Refused, Memory}
use Rattle.mw_term.specs.Stops.{AnswersOrMemory, IfRefused, IsRefusalOrMemory}
use Rattle.mw_lex.specs.declared.token.Token.{Token}
use Rattle.mw_lex.specs.Tokens.{PureToken, tokens_of}
use Rattle.mw_lex.specs.InOrder.{AreInOrder, HaveNumbersInRange}
use Rattle.mw_lex.specs.Reading.{AreTokens, IsFault, no_token, in_comment, no_number, long_name, IsFirstFault}
use Rattle.mw_lex.specs.Lexing.{IsOfLexing}
use Rattle.mw_grammar.specs.declared.tree.Surface.{Surface}
use Rattle.mw_grammar.specs.SurfaceTrees.{PureSurface, surface_of}
use Rattle.mw_grammar.specs.SurfaceDepth.{IsShallow}
use Rattle.mw_grammar.specs.SurfaceSize.{surface_size, IsSparse}
use Rattle.mw_grammar.specs.Answers.{IsProgram}
use Rattle.mw_parse.specs.Reading.{Refuses}
use Rattle.mw_scope.specs.declared.fault.Fault.{Fault}
use Rattle.mw_scope.specs.Scopes.{name_of}
use Rattle.mw_scope.specs.Nameless.{IsNameless}
use Rattle.mw_scope.specs.Faults.{faults_of, refusal_of, IsFirst}
use Rattle.mw_scope.specs.Resolving.{KeepsNames, IsOfFirstFault}
use Rattle.mw_grammar.proofs.Sparse.{few_nodes}
use Rattle.mw_reading.specs.NamedPrograms.{NamedItem, NamedProgram, item_of, named_program_of, unnamed, names_of}
use Rattle.mw_reading.specs.SourceReading.{IsSmall, IsRead, IsRefused, too_large, at_bytes, at_tokens, at_names}

-- what lexing promises of its answer
abbrev pub Lexes : List ℕ → Result (List Token) Stop → Type 0
Lexes bytes lexed = record {
  found : IfOk lexed (λ v. AreTokens bytes (tokens_of v));
  only : (tokens : List PureToken) → IsSmall bytes → AreTokens bytes tokens → AnswersOrMemory
      (λ v. tokens_of v ≡ tokens) lexed;
  in_order : IfOk lexed (λ v. AreInOrder (tokens_of v) (length bytes));
  in_range : IfOk lexed (λ v. HaveNumbersInRange (tokens_of v));
  too_large : lexed ≡ Err (Refused TooLarge) → 1048576 < length bytes;
  only_too_large : 1048576 < length bytes → lexed ≡ Err (Refused TooLarge);
  char : (at : ℕ) → lexed ≡ Err (Refused (Char at)) → IsFirstFault bytes (Char at);
  only_char : (at : ℕ) → IsSmall bytes → IsFirstFault bytes (Char at) → IsRefusalOrMemory lexed (Char at);
  number : (at : ℕ) → lexed ≡ Err (Refused (Number at)) → IsFirstFault bytes (Number at);
  only_number : (at : ℕ) → IsSmall bytes → IsFirstFault bytes (Number at) → IsRefusalOrMemory lexed (Number at);
  name : (at : ℕ) → lexed ≡ Err (Refused (Name at)) → IsFirstFault bytes (Name at);
  only_name : (at : ℕ) → IsSmall bytes → IsFirstFault bytes (Name at) → IsRefusalOrMemory lexed (Name at);
  no_other : IfErr lexed (IfRefused IsOfLexing);
}

-- what parsing promises
abbrev pub Parses : List PureToken → ℕ → Result Surface Stop → Type 0
Parses tokens length parsed = record {
  found : IfOk parsed (λ s. IsProgram tokens (surface_of s));
  only : (v : PureSurface) → IsProgram tokens v → AnswersOrMemory (λ s. surface_of s ≡ v) parsed;
  refused : IfErr parsed (IfRefused (Refuses tokens length));
  first : (r : Refusal) → Refuses tokens length r → IsRefusalOrMemory parsed r;
  shallow : IfOk parsed (λ s. IsShallow (surface_of s));
  sparse : IfOk parsed (λ s. IsSparse tokens (surface_of s));
}

-- what resolving promises
abbrev pub Resolves : PureSurface → Result Program Stop → Type 0
Resolves surface resolved = record {
  found : IfOk resolved (λ p. IsNameless surface (program_of p));
  names : IfOk resolved (KeepsNames surface);
  nodes : IfOk resolved (λ p. program_size (program_of p) < 2 ^ 31);
  only : (p : PureProgram) → IsNameless surface p → AnswersOrMemory (λ q. program_of q ≡ p) resolved;
  refused : IfErr resolved (IfRefused (IsOfFirstFault surface));
  first : (f : Fault) → IsFirst (faults_of surface) f → IsRefusalOrMemory resolved (refusal_of f);
}

-- Programs are the same where their items' names and the programs without them are.

abbrev made_item : List ℕ → Definition → NamedItem
made_item x d = record { name = x; is = d }

abbrev made_program : List NamedItem → GroundType → Expression → NamedProgram
made_program items b e = record { items = items; result = b; body = e }

same_item : (x y : NamedItem) → x.name ≡ y.name → x.is ≡ y.is → x ≡ y
same_item x y e f = ap (λ n. made_item n x.is) e ∙ ap (made_item y.name) f

same_items : (xs ys : List NamedItem) → map (λ i. i.name) xs ≡ map (λ i. i.name) ys → map (λ i. i.is) xs ≡ map
    (λ i. i.is) ys → xs ≡ ys
same_items [] [] h k = refl
same_items [] (y ∷ ys) h k = absurd (cc)
same_items (x ∷ xs) [] h k = absurd (cc)
same_items (x ∷ xs) (y ∷ ys) h k =
    let first : x ≡ y = same_item x y (cc) (cc) in
    let rest : xs ≡ ys = same_items xs ys (cc) (cc) in
    cc

pub same_program : (p q : NamedProgram) → names_of p ≡ names_of q → unnamed p ≡ unnamed q → p ≡ q
same_program p q h k =
    let items : p.items ≡ q.items = same_items p.items q.items h (ap (λ r. r.items) k) in
    let results : p.result ≡ q.result = ap (λ r. r.result) k in
    let bodies : p.body ≡ q.body = ap (λ r. r.body) k in
    ap (λ xs. made_program xs p.result p.body) items ∙ ap (λ b. made_program q.items b p.body) results ∙ ap
    (made_program q.items q.result) bodies

map_map : {A B C : Type 0} (f : B → C) (g : A → B) (xs : List A) → map f (map g xs) ≡ map (λ x. f (g x)) xs
map_map f g [] = refl
map_map f g (x ∷ xs) = ap (λ ys. f (g x) ∷ ys) (map_map f g xs)

pub unnamed_program : (p : Program) → unnamed (named_program_of p) ≡ program_of p
unnamed_program p = ap (λ ds. record { items = ds; result = ground_of p.result; body = (program_of p).body })
    (map_map (λ i. i.is) item_of p.items)

pub names_of_program : (p : Program) → names_of (named_program_of p) ≡ map (λ i. i.name) p.items
names_of_program p = map_map (λ i. i.name) item_of p.items

-- a fault of bytes is of one of three kinds
by_kind : (P : Refusal → Type 0) → ((at : ℕ) → P (Char at)) → ((at : ℕ) → P (Number at)) → ((at : ℕ) → P (Name at))
    → {tokens : List PureToken} {at : ℕ} {bytes : List ℕ} {r : Refusal} → IsFault tokens at bytes r → P r
by_kind P char number name {at = at} (no_token v h n) = char at
by_kind P char number name (in_comment body rest f a n) = char _
by_kind P char number name {at = at} (no_number text rest f n l m) = number at
by_kind P char number name {at = at} (long_name text rest f w l p) = name at

not_above : (n : ℕ) → (1048576 < n → ⊥) → n ≤ 1048576
not_above n h = grind arith

-- Where a call stops: its refusal is that of the bytes, and the bytes have no other.

module _ (bytes : List ℕ) (lexed : Result (List Token) Stop) (h : Lexes bytes lexed) where
  first_fault : (r : Refusal) → IsSmall bytes → IsFirstFault bytes r → IsRefusalOrMemory lexed r
  first_fault r small f = by_kind (λ q. IsFirstFault bytes q → IsRefusalOrMemory lexed q) (λ at. h.only_char at small)
      (λ at. h.only_number at small) (λ at. h.only_name at small) f.fault f

  -- unless it is refused as too large, a source is small
  small_unless : (lexed ≡ Err (Refused TooLarge) → ⊥) → IsSmall bytes
  small_unless n = not_above (length bytes) (λ large. n (h.only_too_large large))

  refused_bytes : (r : Refusal) → lexed ≡ Err (Refused r) → IsRefused bytes r
  refused_bytes TooLarge e = too_large (h.too_large e)
  refused_bytes (Char at) e = at_bytes (small_unless (λ d. absurd (cc))) (h.char at e)
  refused_bytes (Number at) e = at_bytes (small_unless (λ d. absurd (cc))) (h.number at e)
  refused_bytes (Name at) e = at_bytes (small_unless (λ d. absurd (cc))) (h.name at e)
  refused_bytes r e = absurd (IfErr-at_err (IfRefused IsOfLexing) e h.no_other)

  lexing_says : (stop : Stop) → lexed ≡ Err stop → IfRefused (IsRefused bytes) stop
  lexing_says (Refused r) e = refused_bytes r e
  lexing_says (Memory m) e = tt

  no_tokens : (stop : Stop) (tokens : List PureToken) (r : Refusal) → AnswersOrMemory {A = List Token}
      (λ v. tokens_of v ≡ tokens) (Err stop) → IsRefusalOrMemory {A = List Token} (Err stop) r
  no_tokens (Refused q) tokens r k = absurd k
  no_tokens (Memory m) tokens r k = tt

  lexing_first : (stop : Stop) → lexed ≡ Err stop → (r : Refusal) → IsRefused bytes r
      → IsRefusalOrMemory {A = List Token} (Err stop) r
  lexing_first stop e r (too_large large) = subst (λ x. IsRefusalOrMemory x TooLarge) e
      (subst (λ x. IsRefusalOrMemory x TooLarge) (sym (h.only_too_large large)) refl)
  lexing_first stop e r (at_bytes small f) = subst (λ x. IsRefusalOrMemory x r) e (first_fault r small f)
  lexing_first stop e r (at_tokens tokens small are q) = no_tokens stop tokens r
      (subst (AnswersOrMemory (λ v. tokens_of v ≡ tokens)) e (h.only tokens small are))
  lexing_first stop e r (at_names tokens surface f small are is first q) = no_tokens stop tokens r
      (subst (AnswersOrMemory (λ v. tokens_of v ≡ tokens)) e (h.only tokens small are))

-- the bytes are these tokens, and neither others nor refused
record HasTokens (bytes : List ℕ) (tokens : List PureToken) : Type 0 where
  pub small : IsSmall bytes
  pub are : AreTokens bytes tokens
  pub only : (others : List PureToken) → AreTokens bytes others → tokens ≡ others
  pub none : (r : Refusal) → IsFirstFault bytes r → ⊥

has_tokens : (bytes : List ℕ) (lexed : Result (List Token) Stop) → Lexes bytes lexed → (v : List Token) → lexed ≡ Ok v
    → HasTokens bytes (tokens_of v)
has_tokens bytes lexed h v e =
    let small : IsSmall bytes = small_unless bytes lexed h (λ d. absurd (cc)) in
    record {
      small = small;
      are = IfOk-at_ok (λ w. AreTokens bytes (tokens_of w)) e h.found;
      only = λ others k. subst (AnswersOrMemory (λ w. tokens_of w ≡ others)) e (h.only others small k);
      none = λ r f. subst (λ x. IsRefusalOrMemory x r) e (first_fault bytes lexed h r small f);
    }

module _ (bytes : List ℕ) (tokens : List PureToken) (t : HasTokens bytes tokens) where
  not_large : 1048576 < length bytes → ⊥
  not_large large = let small = t.small in grind arith

  refuses_same : (r : Refusal) (others : List PureToken) → AreTokens bytes others → Refuses others (length bytes) r
      → Refuses tokens (length bytes) r
  refuses_same r others are = subst (λ ts. Refuses ts (length bytes) r) (sym (t.only others are))

  is_same : (surface : PureSurface) (others : List PureToken) → AreTokens bytes others → IsProgram others surface
      → IsProgram tokens surface
  is_same surface others are = subst (λ ts. IsProgram ts surface) (sym (t.only others are))

  stops_says : (stop : Stop) → IfRefused (Refuses tokens (length bytes)) stop → IfRefused (IsRefused bytes) stop
  stops_says (Refused r) k = at_tokens tokens t.small t.are k
  stops_says (Memory m) k = tt

  no_tree : (stop : Stop) (v : PureSurface) (r : Refusal) → AnswersOrMemory {A = Surface} (λ s. surface_of s ≡ v)
      (Err stop) → IsRefusalOrMemory {A = Surface} (Err stop) r
  no_tree (Refused q) v r k = absurd k
  no_tree (Memory m) v r k = tt

  module _ (parsed : Result Surface Stop) (h : Parses tokens (length bytes) parsed) where
    parsing_says : (stop : Stop) → parsed ≡ Err stop → IfRefused (IsRefused bytes) stop
    parsing_says stop e = stops_says stop (IfErr-at_err (IfRefused (Refuses tokens (length bytes))) e h.refused)

    parsing_first : (stop : Stop) → parsed ≡ Err stop → (r : Refusal) → IsRefused bytes r
        → IsRefusalOrMemory {A = Surface} (Err stop) r
    parsing_first stop e r (too_large large) = absurd (not_large large)
    parsing_first stop e r (at_bytes small f) = absurd (t.none r f)
    parsing_first stop e r (at_tokens others small are q) = subst (λ x. IsRefusalOrMemory x r) e
        (h.first r (refuses_same r others are q))
    parsing_first stop e r (at_names others v f small are is k q) = no_tree stop v r
        (subst (AnswersOrMemory (λ s. surface_of s ≡ v)) e (h.only v (is_same v others are is)))

-- the tokens are this tree, and neither another nor refused
record HasSurface (tokens : List PureToken) (length : ℕ) (surface : PureSurface) : Type 0 where
  pub is : IsProgram tokens surface
  pub only : (other : PureSurface) → IsProgram tokens other → surface ≡ other
  pub none : (r : Refusal) → Refuses tokens length r → ⊥

has_surface : (tokens : List PureToken) (length : ℕ) (parsed : Result Surface Stop) → Parses tokens length parsed
    → (s : Surface) → parsed ≡ Ok s → HasSurface tokens length (surface_of s)
has_surface tokens length parsed h s e = record {
  is = IfOk-at_ok (λ v. IsProgram tokens (surface_of v)) e h.found;
  only = λ other k. subst (AnswersOrMemory (λ v. surface_of v ≡ other)) e (h.only other k);
  none = λ r k. subst (λ x. IsRefusalOrMemory x r) e (h.first r k);
}

module _ (bytes : List ℕ) (tokens : List PureToken) (t : HasTokens bytes tokens) (surface : PureSurface)
    (s : HasSurface tokens (length bytes) surface) where
  -- each tree of tokens of the bytes is this one
  one_surface : (others : List PureToken) (other : PureSurface) → AreTokens bytes others → IsProgram others other
      → surface ≡ other
  one_surface others other are is = s.only other (is_same bytes tokens t other others are is)

  read_found : (resolved : Result Program Stop) → Resolves surface resolved → IfOk resolved
      (λ p. IsRead bytes (named_program_of p))
  read_found (Ok p) h = record {
    small = t.small;
    tokens = tokens;
    are_tokens = t.are;
    surface = surface;
    is_surface = s.is;
    is_nameless = subst (IsNameless surface) (sym (unnamed_program p)) h.found;
    names = names_of_program p ∙ h.names;
  }
  read_found (Err stop) h = tt

  read_refused : (resolved : Result Program Stop) → Resolves surface resolved → IfErr resolved
      (IfRefused (IsRefused bytes))
  read_refused (Ok p) h = tt
  read_refused (Err (Refused r)) h = let k = h.refused in at_names tokens surface k.0 t.small t.are s.is k.2 k.1
  read_refused (Err (Memory m)) h = tt

  same_read : (resolved : Result Program Stop) → IfOk resolved (KeepsNames surface) → (p : NamedProgram)
      → names_of p ≡ map name_of surface.items → AnswersOrMemory (λ q. program_of q ≡ unnamed p) resolved
      → AnswersOrMemory (λ q. named_program_of q ≡ p) resolved
  same_read (Ok q) names p e k = same_program (named_program_of q) p (names_of_program q ∙ names ∙ sym e)
      (unnamed_program q ∙ k)
  same_read (Err (Refused r)) names p e k = k
  same_read (Err (Memory m)) names p e k = tt

  read_only : (resolved : Result Program Stop) → Resolves surface resolved → (p : NamedProgram) → IsRead bytes p
      → AnswersOrMemory (λ q. named_program_of q ≡ p) resolved
  read_only resolved h p r =
      let e : r.surface ≡ surface = sym (one_surface r.tokens r.surface r.are_tokens r.is_surface) in
      let names : names_of p ≡ map name_of surface.items = subst (λ v. names_of p ≡ map name_of v.items) e r.names in
      same_read resolved h.names p names (h.only (unnamed p) (subst (λ v. IsNameless v (unnamed p)) e r.is_nameless))

  read_first : (resolved : Result Program Stop) → Resolves surface resolved → (r : Refusal) → IsRefused bytes r
      → IsRefusalOrMemory resolved r
  read_first resolved h r (too_large large) = absurd (not_large bytes tokens t large)
  read_first resolved h r (at_bytes small f) = absurd (t.none r f)
  read_first resolved h r (at_tokens others small are q) = absurd
      (s.none r (refuses_same bytes tokens t r others are q))
  read_first resolved h r (at_names others other f small are is k e) =
      let first : IsFirst (faults_of surface) f = subst (λ v. IsFirst (faults_of v) f)
      (sym (one_surface others other are is)) k in
      subst (IsRefusalOrMemory resolved) (sym e) (h.first f first)

-- The clauses of `read`, by the three calls' answers.

exit_refused : (P : Refusal → Type 0) (result : Result Program Stop) (stop : Stop) → IsErrAnd result (λ s. s ≡ stop)
    → IfRefused P stop → IfErr result (IfRefused P)
exit_refused P result stop k says = let e = err_from_is_err_and result k in rw (e.1, e.2) says

-- a refusal is of no answer's type
other_answer : (A B : Type 0) (r : Refusal) (stop : Stop) → IsRefusalOrMemory {A = A} (Err stop) r
    → IsRefusalOrMemory {A = B} (Err stop) r
other_answer A B r (Refused q) k = k
other_answer A B r (Memory m) k = tt

exit_first : (A : Type 0) (r : Refusal) (result : Result Program Stop) (stop : Stop) → IsErrAnd result (λ s. s ≡ stop)
    → IsRefusalOrMemory {A = A} (Err stop) r → IsRefusalOrMemory result r
exit_first A r result stop k is = let e = err_from_is_err_and result k in rw (e.1, e.2)
    (other_answer A Program r stop is)

module _ (bytes : List ℕ) (lexed : Result (List Token) Stop) (l : Lexes bytes lexed) where
  module _ (result : Result Program Stop) (stop : Stop) (e : lexed ≡ Err stop)
      (k : IsErrAnd result (λ s. s ≡ stop)) where
    pub refused_at_lexing : IfErr result (IfRefused (IsRefused bytes))
    refused_at_lexing = exit_refused (IsRefused bytes) result stop k (lexing_says bytes lexed l stop e)

    pub first_at_lexing : (r : Refusal) → IsRefused bytes r → IsRefusalOrMemory result r
    first_at_lexing r q = exit_first (List Token) r result stop k (lexing_first bytes lexed l stop e r q)

  module _ (v : List Token) (found : lexed ≡ Ok v) (parsed : Result Surface Stop)
      (p : Parses (tokens_of v) (length bytes) parsed) where
    module _ (result : Result Program Stop) (stop : Stop) (e : parsed ≡ Err stop)
        (k : IsErrAnd result (λ s. s ≡ stop)) where
      pub refused_at_parsing : IfErr result (IfRefused (IsRefused bytes))
      refused_at_parsing = exit_refused (IsRefused bytes) result stop k
          (parsing_says bytes (tokens_of v) (has_tokens bytes lexed l v found) parsed p stop e)

      pub first_at_parsing : (r : Refusal) → IsRefused bytes r → IsRefusalOrMemory result r
      first_at_parsing r q = exit_first Surface r result stop k
          (parsing_first bytes (tokens_of v) (has_tokens bytes lexed l v found) parsed p stop e r q)

    module _ (s : Surface) (e : parsed ≡ Ok s) (resolved : Result Program Stop)
        (h : Resolves (surface_of s) resolved) where
      pub read_program : IfOk resolved (λ q. IsRead bytes (named_program_of q))
      read_program = read_found bytes (tokens_of v) (has_tokens bytes lexed l v found) (surface_of s)
          (has_surface (tokens_of v) (length bytes) parsed p s e) resolved h

      pub only_program : (q : NamedProgram) → IsRead bytes q → AnswersOrMemory (λ x. named_program_of x ≡ q) resolved
      only_program = read_only bytes (tokens_of v) (has_tokens bytes lexed l v found) (surface_of s)
          (has_surface (tokens_of v) (length bytes) parsed p s e) resolved h

      pub refused_at_resolving : IfErr resolved (IfRefused (IsRefused bytes))
      refused_at_resolving = read_refused bytes (tokens_of v) (has_tokens bytes lexed l v found) (surface_of s)
          (has_surface (tokens_of v) (length bytes) parsed p s e) resolved h

      pub first_at_resolving : (r : Refusal) → IsRefused bytes r → IsRefusalOrMemory resolved r
      first_at_resolving = read_first bytes (tokens_of v) (has_tokens bytes lexed l v found) (surface_of s)
          (has_surface (tokens_of v) (length bytes) parsed p s e) resolved h

-- the tree of a source's tokens has few nodes
pub few_nodes_read : (bytes : List ℕ) (lexed : Result (List Token) Stop) → Lexes bytes lexed → (v : List Token)
    → lexed ≡ Ok v → (parsed : Result Surface Stop) → Parses (tokens_of v) (length bytes) parsed → (s : Surface)
    → parsed ≡ Ok s
    → surface_size (surface_of s) ≤ 3145728
few_nodes_read bytes lexed l v found parsed p s e =
    few_nodes (tokens_of v) (length bytes) (surface_of s)
    (IfOk-at_ok (λ w. AreInOrder (tokens_of w) (length bytes)) found l.in_order)
    (has_tokens bytes lexed l v found).small
    (IfOk-at_ok (λ w. IsSparse (tokens_of v) (surface_of w)) e p.sparse)
