-- What the symbol of a token decides: which symbol it is, or which form comes with the others.
use Rattle.std.specs.Prelude.{ℕ, ◌≡◌, true, false, Option, Some, None}
use Rattle.mw_lex.specs.Tokens.{PureToken, minus, let_word, rec_word, fun_word, if_word, kernel_word, main_word}
use Rattle.mw_lex.specs.Tokens.{paren_right, comma, word, token}
use Rattle.mw_grammar.specs.SurfaceTrees.{SurfaceTree, num, truth, used, cond, fst, snd, close, opened, lift, lift_b}
use Rattle.mw_grammar.specs.Grammar as Pure
use Rattle.mw_grammar.specs.Grammar.{tree, expr, head, atom, parameter, positive}
use Rattle.mw_grammar.specs.Forms.{Form, gives, reads, skip, under, pick, refuses, expr_by, disjunction_form, let_in_by}
use Rattle.mw_grammar.specs.Forms.{let_by, atom_by, bracket_form, escape_form, head_by, run_form, passed_form, paren_by}
use Rattle.mw_grammar.specs.Forms.{group_form, behind_first, body_by, behind_mark, defined, program_by, items_of}
use Rattle.mw_grammar.specs.Forms.{item_by}
use Rattle.mw_grammar.specs.declared.words.First.{First}
use Rattle.mw_grammar.specs.declared.words.First.TheVariants as first
use Rattle.mw_grammar.specs.declared.words.Named.{Named}
use Rattle.mw_grammar.specs.declared.words.Named.TheVariants as named
use Rattle.mw_grammar.specs.declared.words.Leaf.{Leaf}
use Rattle.mw_grammar.specs.declared.words.Leaf.TheVariants as leaves
use Rattle.mw_grammar.specs.declared.words.Atom.{Atom}
use Rattle.mw_grammar.specs.declared.words.Atom.TheVariants as atoms
use Rattle.mw_grammar.specs.declared.words.Prefix.{Prefix}
use Rattle.mw_grammar.specs.declared.words.Prefix.TheVariants as prefixes
use Rattle.mw_grammar.specs.declared.words.Head.{Head}
use Rattle.mw_grammar.specs.declared.words.Head.TheVariants as heads
use Rattle.mw_grammar.specs.declared.words.Inside.{Inside}
use Rattle.mw_grammar.specs.declared.words.Inside.TheVariants as insides
use Rattle.mw_grammar.specs.declared.words.Close.{Close}
use Rattle.mw_grammar.specs.declared.words.Close.TheVariants as closes
use Rattle.mw_grammar.specs.declared.words.Mark.{Mark}
use Rattle.mw_grammar.specs.declared.words.Mark.TheVariants as marks
use Rattle.mw_grammar.specs.declared.words.Body.{Body}
use Rattle.mw_grammar.specs.declared.words.Body.TheVariants as bodies
use Rattle.mw_grammar.specs.declared.words.Start.{Start}
use Rattle.mw_grammar.specs.declared.words.Start.TheVariants as starts
use Rattle.mw_grammar.specs.declared.words.ItemWord.{ItemWord}
use Rattle.mw_grammar.specs.declared.words.ItemWord.TheVariants as items

abbrev pub mark_in : Mark → Pure.Mark
mark_in marks.Arrow = Pure.by_arrow
mark_in marks.Equal = Pure.by_equal

abbrev pub IsFirst : PureToken → First → Type 0
IsFirst (token a b k) first.Let = k ≡ let_word
IsFirst (token a b k) first.Fun = k ≡ fun_word
IsFirst (token a b k) first.If = k ≡ if_word
IsFirst (token a b k) first.Other = expr_by (token a b k) ≡ disjunction_form

-- after `let`, in an expression and in an item
pub record IsNoName (t : PureToken) : Type 0 where
  pub inner : let_in_by t ≡ refuses
  pub top : let_by t ≡ refuses

abbrev pub IsNamed : PureToken → Named → Type 0
IsNamed (token a b k) (named.Word x) = k ≡ word x.now
IsNamed (token a b k) named.Rec = k ≡ rec_word
IsNamed (token a b k) named.Other = IsNoName (token a b k)

-- an atom of one token
abbrev pub leaf_of : Leaf → ℕ → SurfaceTree
leaf_of (leaves.Word x) at = used x.now at
leaf_of (leaves.Number n) at = num (positive n)
leaf_of leaves.True at = truth true
leaf_of leaves.False at = truth false

-- what is read inside the node of an atom
abbrev pub atom_form : Atom → ℕ → Form (tree atom)
atom_form (atoms.Leaf l) at = gives (leaf_of l at)
atom_form atoms.Paren at = pick paren_by
atom_form atoms.Bracket at = bracket_form at
atom_form atoms.Escape at = escape_form at

abbrev pub IsAtom : PureToken → Option Atom → Type 0
IsAtom (token a b k) (Some w) = atom_by (token a b k) ≡ under (atom_form w a)
IsAtom (token a b k) None = atom_by (token a b k) ≡ refuses

-- an atom after a word
abbrev pub prefixed : Prefix → ℕ → SurfaceTree → SurfaceTree
prefixed prefixes.Fst at e = fst e
prefixed prefixes.Snd at e = snd e
prefixed prefixes.Not at e = cond e (truth false) (truth true)
prefixed prefixes.Close at e = close at e
prefixed prefixes.Open at e = opened at e
prefixed prefixes.Lift at e = lift at e
prefixed prefixes.LiftB at e = lift_b at e

-- what is read inside the node of a head
abbrev pub head_form : Head → ℕ → Form (tree head)
head_form (heads.Prefix p) at = reads (tree atom) λ e. gives (prefixed p at e)
head_form heads.Run at = run_form at

abbrev pub IsHead : PureToken → Option Head → Type 0
IsHead (token a b k) (Some w) = head_by (token a b k) ≡ under (head_form w a)
IsHead (token a b k) None = head_by (token a b k) ≡ passed_form

abbrev pub IsClose : PureToken → Close → Type 0
IsClose (token a b k) closes.Paren = k ≡ paren_right
IsClose (token a b k) closes.Comma = k ≡ comma
IsClose (token a b k) closes.Other = (d : SurfaceTree) → behind_first d (token a b k) ≡ refuses

abbrev pub IsBody : Mark → PureToken → Body → Type 0
IsBody m (token a b k) bodies.Parameter = body_by (mark_in m) (token a b k)
    ≡ (reads (parameter (mark_in m)) λ p. gives (defined p))
IsBody m (token a b k) bodies.Mark = body_by (mark_in m) (token a b k) ≡ skip (pick (behind_mark (mark_in m)))
IsBody m (token a b k) bodies.Other = body_by (mark_in m) (token a b k) ≡ refuses

abbrev pub IsStart : PureToken → Start → Type 0
IsStart (token a b k) starts.Main = k ≡ main_word
IsStart (token a b k) starts.Item = program_by (token a b k) ≡ items_of
IsStart (token a b k) starts.Other = program_by (token a b k) ≡ refuses

abbrev pub IsItem : PureToken → ItemWord → Type 0
IsItem (token a b k) items.Let = k ≡ let_word
IsItem (token a b k) items.Kernel = k ≡ kernel_word
IsItem (token a b k) items.Other = item_by (token a b k) ≡ refuses

abbrev pub IsInside : PureToken → Inside → Type 0
IsInside (token a b k) insides.Minus = k ≡ minus
IsInside (token a b k) insides.Other = paren_by (token a b k) ≡ group_form
