-- A program that was read is one whose types can be checked.
use Rattle.std.proofs.Common.{◌≡◌, ◌≤◌, ◌<◌, ◌^◌, ℕ, List, map, length, ap, arith}
use Rattle.std.proofs.lemmas.List.{length-map}
use Rattle.mw_term.specs.Programs.{value, kernel, program_size}
use Rattle.mw_lex.proofs.Lexed.{in_order}
use Rattle.mw_grammar.specs.SurfaceTrees.{PureItem}
use Rattle.mw_grammar.proofs.Sparse.{few_nodes, sparse_program}
use Rattle.mw_scope.specs.Scopes.{name_of}
use Rattle.mw_scope.proofs.ScopedPrograms.{nameless_is_scoped}
use Rattle.mw_scope.proofs.Sizes.{same_program}
use Rattle.mw_term.specs.Parts.{IsResolved}
use Rattle.mw_infer.proofs.Resolved as resolved
use Rattle.mw_reading.specs.NamedPrograms.{NamedItem, NamedProgram, unnamed, names_of}
use Rattle.mw_reading.specs.SourceReading.{IsRead}

pub small_program : (bytes : List ℕ) (p : NamedProgram) → IsRead bytes p → program_size (unnamed p) < 2 ^ 31
small_program bytes p read =
    let same = same_program read.surface (unnamed p) read.is_nameless in
    let few = few_nodes read.tokens (length bytes) read.surface
    (in_order bytes read.tokens read.are_tokens) read.small
    (sparse_program read.tokens read.surface read.is_surface) in omega arith

few_items : (p : NamedProgram) (items : List PureItem) → names_of p ≡ map name_of items → length items ≤ 1000 → length
    (unnamed p).items ≤ 1000
few_items p items e few =
    let definitions = length-map p.items (λ (i : NamedItem). i.is) in
    let names = length-map p.items (λ (i : NamedItem). i.name) in
    let surface = length-map items name_of in
    let same = ap (λ (xs : List (List ℕ)). length xs) e in
    omega arith

pub is_resolved : (bytes : List ℕ) (p : NamedProgram) → IsRead bytes p → IsResolved (unnamed p)
is_resolved bytes p read =
    let scoped = nameless_is_scoped read.surface (unnamed p) read.is_nameless in
    resolved.is_resolved (unnamed p) (small_program bytes p read) (λ i e at. scoped.items i (value e) at)
    (λ i k e at. scoped.items i (kernel k e) at) scoped.body
    (few_items p read.surface.items read.names read.is_surface.few.items)
