-- From what the reader gives to what the grammar says.
use Rattle.std.proofs.Common.{◌≡◌, ℕ, ◌<◌, ◌≤◌, List, [], ◌∷◌, Result, Ok, Err, IfOk, IfErr, refl, ap, ◌∙◌, sym, subst}
use Rattle.std.proofs.Common.{length, map, arith}
use Rattle.mw_lex.specs.Tokens.{PureToken, tokens_of, token_of}
use Rattle.mw_lex.specs.declared.token.Token.{Token}
use Rattle.mw_term.specs.declared.refusal.Refusal.{Refusal}
use Rattle.mw_term.specs.declared.refusal.Refusal.TheVariants.{Syntax, TooDeep, TooMany}
use Rattle.mw_term.specs.declared.refusal.Stop.{Stop}
use Rattle.mw_term.specs.declared.refusal.Stop.TheVariants.{Refused, Memory}
use Rattle.mw_grammar.specs.declared.tree.Surface.{Surface}
use Rattle.mw_grammar.specs.SurfaceTrees.{PureSurface, item_of, surface_of}
use Rattle.mw_grammar.specs.declared.tree.SurfaceItem.{SurfaceItem}
use Rattle.mw_grammar.specs.SurfaceDepth.{IsShallow}
use Rattle.mw_grammar.specs.SurfaceSize.{IsSparse}
use Rattle.mw_grammar.specs.SourceNodes.{height}
use Rattle.mw_grammar.specs.Grammar.{program}
use Rattle.mw_grammar.specs.Answers.{IsTree, IsSyntaxAt, IsTooDeepAt, place_of, kernels, AreTooMany, items}
use Rattle.mw_grammar.specs.Answers.{kernel_items, IsProgram, HasTooMany}
use Rattle.mw_grammar.specs.Descent.{Answer, ok, syntax_at, deep_at, full}
use Rattle.mw_term.specs.Stops.{AnswersOrMemory, IfRefused, IsRefusalOrMemory}
use Rattle.mw_parse.specs.Reading.{IsAnswer, Refuses}
use Rattle.mw_grammar.proofs.Says.{Tells}
use Rattle.mw_grammar.proofs.Exactly.{exact_ok, exact_left, exact_syntax, exact_deep, tells_full, one_tree}
use Rattle.mw_grammar.proofs.Unique.{syntax_once, not_both, deep_once, tree_or_syntax, tree_or_deep}
use Rattle.mw_grammar.proofs.Shallow.{low, are_shallow}
use Rattle.mw_grammar.proofs.Sparse.{light}

tells_by : (ts : List PureToken) (x : Answer program) → full 200 program ts ≡ x → Tells program ts x
tells_by ts x e = subst (λ x. Tells program ts x) e (tells_full 200 ts)

tree_by : (ts : List PureToken) (v : PureSurface) (h : ℕ) (rest : List PureToken) → full 200 program ts ≡ ok v h rest
    → rest ≡ [] → IsTree 200 ts v
tree_by ts v h rest e f = let g : full 200 program ts ≡ ok v h [] = e ∙ ap (λ r. ok v h r) f in
    exact_ok 200 ts v h g (tells_by ts (ok v h []) g)

-- each way out
pub few_program : (ts : List PureToken) (v : PureSurface) (h : ℕ) (rest : List PureToken) → full 200 program ts
    ≡ ok v h rest → rest ≡ [] → length v.items ≤ 1000 → kernels v.items ≤ 100 → IsProgram ts v
few_program ts v h rest e f p q = record { is = tree_by ts v h rest e f; few = record { items = p; kernel_items = q } }

pub many_items : (ts : List PureToken) (v : PureSurface) (h : ℕ) (rest : List PureToken) → full 200 program ts
    ≡ ok v h rest → rest ≡ [] → 1000 < length v.items → HasTooMany ts
many_items ts v h rest e f p = record { tree = v; is = tree_by ts v h rest e f; many = items p }

pub many_kernels : (ts : List PureToken) (v : PureSurface) (h : ℕ) (rest : List PureToken) → full 200 program ts
    ≡ ok v h rest → rest ≡ [] → 100 < kernels v.items → HasTooMany ts
many_kernels ts v h rest e f p = record { tree = v; is = tree_by ts v h rest e f; many = kernel_items p }

pub left_over : (ts : List PureToken) (v : PureSurface) (h : ℕ) (us : List Token) (n at : ℕ) → full 200 program ts
    ≡ ok v h (tokens_of us) → 1 ≤ length us → at ≡ place_of (tokens_of us) n → IsSyntaxAt ts n at
left_over ts v h [] n at e p q = absurd (omega arith)
left_over ts v h (u ∷ us) n at e p q =
    record {
      rest = tokens_of (u ∷ us);
      fault = exact_left 200 ts v h (token_of u) (tokens_of us) e
          (tells_by ts (ok v h (tokens_of (u ∷ us))) e);
      place = q;
    }

pub syntax_fault : (ts r : List PureToken) (n at : ℕ) → full 200 program ts ≡ syntax_at r → at ≡ place_of r n
    → IsSyntaxAt ts n at
syntax_fault ts r n at e q = record {
  rest = r;
  fault = exact_syntax 200 ts r e (tells_by ts (syntax_at r) e);
  place =
      q;
}

pub deep_fault : (ts r : List PureToken) (at : ℕ) → full 200 program ts ≡ deep_at r → at ≡ place_of r 0
    → IsTooDeepAt ts at
deep_fault ts r at e q = record { rest = r; fault = exact_deep 200 ts r e (tells_by ts (deep_at r) e); place = q }

-- the clauses
module _ (ts : List PureToken) (n : ℕ) where
  syntax_place : (a b : ℕ) → IsSyntaxAt ts n a → IsSyntaxAt ts n b → a ≡ b
  syntax_place a b x y = x.place ∙ ap (λ r. place_of r n) (syntax_once 200 ts x.rest y.rest x.fault y.fault)
      ∙ sym y.place

  deep_place : (a b : ℕ) → IsTooDeepAt ts a → IsTooDeepAt ts b → a ≡ b
  deep_place a b x y = x.place ∙ ap (λ r. place_of r 0) (deep_once 200 ts x.rest y.rest x.fault y.fault) ∙ sym y.place

  few_many : (v : PureSurface) → IsProgram ts v → HasTooMany ts → ⊥
  few_many v x y =
      by (subst (λ w. AreTooMany w.items) (one_tree ts y.tree v y.is.nodes x.is.nodes y.is.derives x.is.derives) y.many)
    where
      by : AreTooMany v.items → ⊥
      by (items p) = let q = x.few.items in omega arith
      by (kernel_items p) = let q = x.few.kernel_items in omega arith

  program_or : (v : PureSurface) (r : Refusal) → IsProgram ts v → Refuses ts n r → ⊥
  program_or v (Syntax at) x y = tree_or_syntax 200 ts v y.rest x.is y.fault
  program_or v (TooDeep at) x y = tree_or_deep 200 ts v y.rest x.is y.fault
  program_or v TooMany x y = few_many v x y
  program_or v _ x y = absurd y

  one_refusal : (r s : Refusal) → Refuses ts n r → Refuses ts n s → r ≡ s
  one_refusal (Syntax a) (Syntax b) x y = ap (λ at. Syntax at) (syntax_place a b x y)
  one_refusal (Syntax a) (TooDeep b) x y = absurd (not_both 200 ts x.rest y.rest x.fault y.fault)
  one_refusal (Syntax a) TooMany x y = absurd (tree_or_syntax 200 ts y.tree x.rest y.is x.fault)
  one_refusal (TooDeep a) (Syntax b) x y = absurd (not_both 200 ts y.rest x.rest y.fault x.fault)
  one_refusal (TooDeep a) (TooDeep b) x y = ap (λ at. TooDeep at) (deep_place a b x y)
  one_refusal (TooDeep a) TooMany x y = absurd (tree_or_deep 200 ts y.tree x.rest y.is x.fault)
  one_refusal TooMany (Syntax b) x y = absurd (tree_or_syntax 200 ts x.tree y.rest x.is y.fault)
  one_refusal TooMany (TooDeep b) x y = absurd (tree_or_deep 200 ts x.tree y.rest x.is y.fault)
  one_refusal TooMany TooMany x y = refl
  one_refusal (Syntax a) _ x y = absurd y
  one_refusal (TooDeep a) _ x y = absurd y
  one_refusal TooMany _ x y = absurd y
  one_refusal _ _ x y = absurd x

  pub found : (result : Result Surface Stop) → IsAnswer ts n result → IfOk result (λ s. IsProgram ts (surface_of s))
  found (Ok s) x = x
  found (Err e) x = tt

  pub only : (result : Result Surface Stop) → IsAnswer ts n result → (v : PureSurface) → IsProgram ts v
      → AnswersOrMemory (λ s. surface_of s ≡ v) result
  only (Ok s) x v y = one_tree ts (surface_of s) v x.is.nodes y.is.nodes x.is.derives y.is.derives
  only (Err (Refused r)) x v y = program_or v r y x
  only (Err (Memory e)) x v y = tt

  pub refused : (result : Result Surface Stop) → IsAnswer ts n result → IfErr result (IfRefused (Refuses ts n))
  refused (Ok s) x = tt
  refused (Err e) x = x

  pub first : (result : Result Surface Stop) → IsAnswer ts n result → (r : Refusal) → Refuses ts n r
      → IsRefusalOrMemory result r
  first (Ok s) x r y = program_or (surface_of s) r x y
  first (Err (Refused s)) x r y = one_refusal s r x y
  first (Err (Memory e)) x r y = tt

  is_shallow : (v : PureSurface) → IsProgram ts v → IsShallow v
  is_shallow v x = let h = low x.is.derives in let k = h.1 in let m = x.is.low in
      record { count = x.few.items; items = are_shallow v.items (height x.is.nodes) m h.0; body = omega arith }

  pub shallow : (result : Result Surface Stop) → IsAnswer ts n result → IfOk result (λ s. IsShallow (surface_of s))
  shallow (Ok s) x = is_shallow (surface_of s) x
  shallow (Err e) x = tt

  pub sparse : (result : Result Surface Stop) → IsAnswer ts n result → IfOk result (λ s. IsSparse ts (surface_of s))
  sparse (Ok s) x = omega (arith, light x.is.derives)
  sparse (Err e) x = tt

pub nothing_left : (us : List Token) → length us ≡ 0 → tokens_of us ≡ []
nothing_left [] e = refl
nothing_left (u ∷ us) e = absurd (omega arith)

pub as_many : (is : List SurfaceItem) → length (map item_of is) ≡ length is
as_many [] = refl
as_many (i ∷ is) = omega (arith, as_many is)

-- what tokens are parsed to
pub ruleset token_laws = (
  few_program,
  many_items,
  many_kernels,
  left_over,
  syntax_fault,
  deep_fault,
  nothing_left,
  as_many,
)

-- what a source is parsed to
pub ruleset source_laws = (found, only, refused, first, shallow, sparse)
