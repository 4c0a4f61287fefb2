-- What the machine asks of a program that was read and checked.
use Rattle.std.proofs.Common.{◌≡◌, ◌≤◌, ◌<◌, ◌^◌, ℕ, zero, suc, List, [], ◌∷◌, map, length, ap, arith, Some, Result, Ok}
use Rattle.std.proofs.Common.{Err, refl, sym, ◌∙◌}
use Rattle.std.specs.Prelude.{slice_get, IfOk}
use Rattle.std.specs.List.{AllByRecursion}
use Rattle.std.proofs.lemmas.List.{length-map}
use Rattle.mw_term.specs.Terms.{expression_of, kernel_type_of}
use Rattle.mw_term.specs.Programs.{Definition, value, kernel, definition_of, program_of, program_size}
use Rattle.mw_term.specs.declared.program.Item.{Item}
use Rattle.mw_term.specs.declared.program.ItemKind.TheVariants.{Kernel}
use Rattle.mw_term.specs.declared.term.KType.{KType}
use Rattle.mw_term.specs.declared.term.Term.{Term}
use Rattle.mw_term.specs.declared.program.Program.{Program}
use Rattle.mw_term.specs.declared.refusal.Stop.{Stop}
use Rattle.mw_term.specs.declared.refusal.Refusal.TheVariants.{TooLarge}
use Rattle.mw_term.specs.declared.refusal.Stop.TheVariants.{Refused}
use Rattle.mw_lex.specs.declared.token.Token.{Token}
use Rattle.mw_lex.specs.Tokens.{PureToken}
use Rattle.mw_grammar.specs.SurfaceTrees.{PureItem, PureSurface}
use Rattle.mw_grammar.specs.Answers.{IsProgram}
use Rattle.mw_scope.specs.Scopes.{name_of}
use Rattle.mw_scope.specs.Nameless.{IsNameless}
use Rattle.mw_scope.specs.Resolving.{KeepsNames}
use Rattle.mw_scope.proofs.ScopedPrograms.{nameless_is_scoped}
use Rattle.mw_term.specs.Parts.{IsResolved}
use Rattle.mw_infer.proofs.Resolved as resolved
use Rattle.mw_machine.specs.Starting.{definitions_of}
use Rattle.mw_script.specs.Starts.{IsBuilt, AreAllBuilt}

few_items : (p : Program) (items : List PureItem) → map (λ (i : Item). i.name) p.items ≡ map name_of items
    → length items ≤ 1000
    → length (program_of p).items ≤ 1000
few_items p items e few =
    let definitions = length-map p.items (λ (i : Item). definition_of i.kind) in
    let names = length-map p.items (λ (i : Item). i.name) in
    let surface = length-map items name_of in
    let same = ap (λ (xs : List (List ℕ)). length xs) e in
    omega arith

pub are_resolved : (tokens : List PureToken) (s : PureSurface) (r : Result Program Stop) → IsProgram tokens s
    → IfOk r (λ p. IsNameless s (program_of p))
    → IfOk r (KeepsNames s) → IfOk r (λ p. program_size (program_of p) < 2 ^ 31)
    → IfOk r (λ p. IsResolved (program_of p))
are_resolved tokens s (Ok p) program h names nodes =
    let scoped = nameless_is_scoped s (program_of p) h in
    resolved.is_resolved (program_of p) nodes (λ i e at. scoped.items i (value e) at)
    (λ i k e at. scoped.items i (kernel k e) at) scoped.body
    (few_items p s.items names program.few.items)
are_resolved tokens s (Err e) program h names nodes = tt

built_more : (d : Definition) (ds : List Definition) → IsBuilt d → AreAllBuilt ds → AreAllBuilt (d ∷ ds)
built_more (value e) ds h t = t
built_more (kernel k e) ds h t = (h.1 ∷ t.0, (h.0, h.2, h.3, t.1))

pub all_built : (items : List Item) → AllByRecursion (λ i. IsBuilt (definition_of i.kind)) items
    → AreAllBuilt (definitions_of items)
all_built [] h = ([], tt)
all_built (x ∷ items) h = built_more (definition_of x.kind) (definitions_of items) h.0 (all_built items h.1)

pub definition_at : (items : List Item) (i : ℕ) (x : Item) → slice_get items i ≡ Some x
    → slice_get (definitions_of items) i ≡ Some (definition_of x.kind)
definition_at [] i x e = absurd (cc)
definition_at (y ∷ items) zero x e = let same : y ≡ x = cc in rw same refl
definition_at (y ∷ items) (suc i) x e = definition_at items i x e

pub kernel_at : (items : List Item) (i : ℕ) (x : Item) (k : KType) (t : Term) → slice_get items i ≡ Some x
    → x.kind ≡ Kernel k t
    → slice_get (definitions_of items) i ≡ Some (kernel (kernel_type_of k) (expression_of t))
kernel_at items i x k t here is = definition_at items i x here ∙ ap (λ d. Some (definition_of d)) is

not_above : (n : ℕ) → (1048576 < n → ⊥) → n ≤ 1048576
not_above n h = grind arith

-- what was lexed is small
pub lexed_small : (n : ℕ) (r : Result (List Token) Stop) (v : List Token) → r ≡ Ok v
    → (1048576 < n → r ≡ Err (Refused TooLarge)) → n ≤ 1048576
lexed_small n r v is only = not_above n (λ large. let never : Ok v ≡ Err (Refused TooLarge) = sym is ∙ only large in
    absurd (cc))
