-- Certificates of small programs, and bytes and lines that are none.
use Rattle.std.specs.Prelude.{ℕ, List, [], ◌∷◌, codes, pos}
use Rattle.mw_term.specs.declared.term.Base.TheVariants.{Int}
use Rattle.mw_term.specs.declared.term.Primitive.TheVariants.{Add}
use Rattle.mw_term.specs.Terms.{base, of_ground, num, var, fun, prim, bracket, escape, run, close, opened}
use Rattle.mw_term.specs.Types.{live}
use Rattle.mw_term.specs.Programs.{PureProgram}
use Rattle.mw_types.specs.Types.{TypeExpression}
use Rattle.mw_lines.specs.TypeLines.{TypeLine, arrow_line, AreTypeLines}
use Rattle.mw_recheck.specs.Notes.{Notes, TopNote, Noted}
use Rattle.mw_recheck.specs.Certificates.{Certifies}

-- main : int = 1 + 2
abbrev pub sum_program : PureProgram
sum_program = record { items = []; result = base Int; body = prim Add (num (pos 1)) (num (pos 2)) }

-- main : int = run[int] (close .<7>.)
abbrev pub run_program : PureProgram
run_program = record {
  items = [];
  result = base Int;
  body = run (of_ground (base Int)) (close 24 (bracket (num (pos 7))));
}

-- both have certificates
pub record ExamplesAreCertified : Type 0 where
  pub sum : Certifies (codes "cert1\ntypes 1\nint\nnodes 3\n0\n0\n0\n") sum_program
  pub run : Certifies (codes "cert1\ntypes 3\nint\nclosed 0\ncode 0 0\nnodes 4\n0\n1 0 0\n2 0\n0\n") run_program

-- These bytes certify nothing: the second's last line names the literal's type as closed code.
pub record OthersAreNot : Type 0 where
  pub empty : (p : PureProgram) → Certifies [] p → ⊥
  pub wrong_type : Certifies (codes "cert1\ntypes 3\nint\nclosed 0\ncode 0 0\nnodes 4\n0\n1 0 0\n2 0\n1\n") run_program
      → ⊥
  pub last_line_feed : Certifies (codes "cert1\ntypes 1\nint\nnodes 3\n0\n0\n0") sum_program → ⊥
  pub leading_zero : Certifies (codes "cert1\ntypes 1\nint\nnodes 3\n00\n0\n0\n") sum_program → ⊥
  pub doubled_line : Certifies (codes "cert1\ntypes 2\nint\nint\nnodes 3\n0\n0\n0\n") sum_program → ⊥

-- No node lines at all are right for close .<fun x -> .~(open (close .<x>.))>.: the inner close stands under a binder
-- whose classifier is the one of its code.
abbrev pub OneClassifierFits : Type 0
OneClassifierFits = (p : Notes) (tops : List TopNote) (n : ℕ) (t : TypeExpression)
    → Noted p tops [] live n (close 20 (bracket (fun (escape (opened (close 30 (bracket (var 0)))))))) t → ⊥

-- a line that names itself names nothing
abbrev pub OwnLineNames : Type 0
OwnLineNames = (ls : List TypeLine) (ts : List TypeExpression) → AreTypeLines (arrow_line 0 0 ∷ ls) ts → ⊥
