-- What the functions that read a name and what a `let` binds say of the forms that begin with them.
use Rattle.std.specs.Prelude.{ℕ, List, Result}
use Rattle.std.specs.Borrow.{Bor}
use Rattle.std.specs.Global.{Box}
use Rattle.mw_term.specs.Terms.{kernel_type_of}
use Rattle.mw_term.specs.declared.term.KType.{KType}
use Rattle.mw_lex.specs.Tokens.{PureToken, tokens_of}
use Rattle.mw_lex.specs.declared.token.Token.{Token}
use Rattle.mw_grammar.specs.declared.tree.Placed.{Placed}
use Rattle.mw_grammar.specs.declared.tree.Tree.{Tree}
use Rattle.mw_grammar.specs.declared.parts.Defined.{Defined}
use Rattle.mw_grammar.specs.declared.fault.Fault.{Fault}
use Rattle.mw_grammar.specs.SurfaceTrees.{bind, PureItem, let_item, kernel_item}
use Rattle.mw_grammar.specs.Grammar.{Nonterminal, item, tree, expr, parameter, kernel_type, by_arrow, by_equal}
use Rattle.mw_grammar.specs.Forms.{Form, gives, reads, expect, pick, colon_next, equal_next, function, bound_rec}
use Rattle.mw_grammar.specs.Forms.{rec_bound, scope_form}
use Rattle.mw_grammar.specs.Descent.{none_yet, so_far, reading}
use Rattle.mw_grammar.specs.Gives.{Gives}
use Rattle.mw_grammar.specs.Boxes.{tree_in}

-- what stands after the name of a `let rec`, in an expression and in an item, and of a kernel item
abbrev pub rec_form : Placed → Form (tree expr)
rec_form f = reads (parameter by_equal) λ d. scope_form (bound_rec f.name d)

abbrev pub rec_item_form : Placed → Form item
rec_item_form f = reads (parameter by_equal) λ d. gives (rec_bound f.name f.at d)

abbrev pub kernel_rest : Placed → Form item
kernel_rest x = reads kernel_type λ k. expect equal_next (reads (tree expr) λ e. gives (kernel_item x.name x.at k e))

abbrev pub kernel_form : Placed → Form item
kernel_form x = expect colon_next (kernel_rest x)

-- a kernel item of this name, of its type and its expression
abbrev pub typed_item : Placed → KType × Box Tree → PureItem
typed_item x r = kernel_item x.name x.at (kernel_type_of r.0) (tree_in r.1)

-- what stands after `fun`
abbrev pub function_form : Form (tree expr)
function_form = reads (parameter by_arrow) λ p. gives (function p)

-- where a name was read, a form that is picked by it goes on so; else it fails
abbrev pub GivesName : {n : Nonterminal} → (Placed → Form n) → Result (Placed × Bor (List Token)) Fault
    → (PureToken → Form n) → List PureToken → Type 0
GivesName go result by ts = (b : ℕ) → Gives (λ x. reading b (go x.0) none_yet (tokens_of x.1.now)) result
    (reading b (pick by) none_yet ts)

-- what a `let` binds, as an item, and before `in` and what it is in scope in
abbrev pub bound_item : Placed × Defined → PureItem
bound_item x = let_item x.0.name x.0.at x.1.from (tree_in x.1.tree)

abbrev pub GivesBound : ℕ → Result ((Placed × Defined) × ℕ × Bor (List Token)) Fault → (PureToken → Form (tree expr))
    → List PureToken → Type 0
GivesBound b result by ts =
    Gives (λ x. reading b (scope_form (bind x.0.0.name (tree_in x.0.1.tree))) (so_far x.1) (tokens_of x.2.now)) result
    (reading b (pick by) none_yet ts)
