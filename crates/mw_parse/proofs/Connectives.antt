-- What is read at a connective's precedence, and what is read as it stands.
use Rattle.std.proofs.Common.{◌≡◌, ℕ, List, Result, Ok, Err, ap, sym, subst}
use Rattle.std.specs.Borrow.{Bor}
use Rattle.mw_lex.specs.Tokens.{PureToken}
use Rattle.mw_lex.specs.declared.token.Token.{Token}
use Rattle.mw_grammar.specs.SurfaceTrees.{SurfaceTree}
use Rattle.mw_grammar.specs.Grammar.{Nonterminal, Meaning, Row, Precedence, tree, expr, conjunction, disjunction}
use Rattle.mw_grammar.specs.Forms.{gives, reads, more, option}
use Rattle.mw_grammar.specs.Descent.{Answer, ok, and_then, none_yet, so_far, full, reading, following}
use Rattle.mw_parse.specs.declared.room.Room.{Room}
use Rattle.mw_parse.specs.Reading.{Within}
use Rattle.mw_grammar.specs.declared.fault.Fault.{Fault}
use Rattle.mw_grammar.proofs.Below.{read_full, read_gives, read_reads, part_fails, fails_then, raise_ok, fails_raise}
use Rattle.mw_parse.specs.declared.trees.Connective.{Connective}
use Rattle.mw_parse.specs.declared.trees.Connective.TheVariants.{And, Or}
use Rattle.mw_parse.specs.Connectives.{level_of, operand_of, sign_of, connected}

pub read_connected : (c : Connective) (b : ℕ) (ts : List PureToken)
    → full b (tree (level_of c)) ts
    ≡ reading b
    (reads (tree (operand_of c)) λ d. option (sign_of c) (reads (tree (level_of c)) λ e. gives (connected c d e))
    (gives d)) none_yet ts
read_connected And b ts = read_full b (tree conjunction) ts
read_connected Or b ts = read_full b (tree disjunction) ts

-- what the parts of a connective are
pub ruleset connected_laws = (read_connected, read_gives, read_reads, part_fails, raise_ok, fails_raise)

-- a tree that is read as it stands
pub passed : {X : Type 0} (l m : Precedence) (room : Room) (view : X → SurfaceTree)
    (res : Result (X × ℕ × Bor (List Token)) Fault) (ts : List PureToken)
    → Within {n = tree l} room view res (full room.nodes (tree l) ts)
    → Within {n = tree m} room view res (reading room.nodes (reads (tree l) λ e. gives e) none_yet ts)
unfolding reading
passed l m room view (Ok r) ts h = record {
  gives = ap (λ x. and_then x λ v k mid. ok v k mid) h.gives;
  height = h.height;
}
passed l m room view (Err e) ts h = record {
  gives = fails_then e (full room.nodes (tree l) ts) (λ v k mid. ok v k mid) h.gives;
  height = tt;
}

-- the same of what may follow a left operand
pub passed_more : {X : Type 0} (m : Precedence) (room : Room) (view : X → SurfaceTree)
    (res : Result (X × ℕ × Bor (List Token)) Fault) (w : Row) (l : SurfaceTree) (a : ℕ) (ts : List PureToken)
    → Within {n = tree expr} room view res (following room.nodes w l a ts)
    → Within {n = tree m} room view res (reading room.nodes (more w l λ e. gives e) (so_far a) ts)
unfolding reading following
passed_more m room view (Ok r) w l a ts h = record {
  gives = ap (λ x. and_then x λ v k mid. ok v k mid) h.gives;
  height = h.height;
}
passed_more m room view (Err e) w l a ts h = record {
  gives = fails_then e (following room.nodes w l a ts) (λ v k mid. ok v k mid) h.gives;
  height = tt;
}

-- an answer by another name
pub within_as : {X : Type 0} {n : Nonterminal} (room : Room) (view : X → Meaning n)
    (res : Result (X × ℕ × Bor (List Token)) Fault) (x y : Answer n) → x ≡ y → Within room view res y
    → Within room view res x
within_as room view res x y e g = subst (λ x. Within room view res x) (sym e) g
