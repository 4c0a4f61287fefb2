-- The written certificates of small programs, and certificates of them that are others.
use Rattle.std.specs.Prelude.{ℕ, List, [], codes, pos}
use Rattle.mw_term.specs.declared.term.Base.TheVariants.{Int}
use Rattle.mw_term.specs.Terms.{base, num, var, fun, bind}
use Rattle.mw_term.specs.Programs.{PureProgram}
use Rattle.mw_recheck.specs.Certificates.{Certifies}
use Rattle.mw_recheck.specs.Examples.{sum_program, run_program}
use Rattle.mw_written.specs.Written.{IsCertificateOf}

-- main : int = let f = fun x -> x in 1
abbrev pub let_program : PureProgram
let_program = record { items = []; result = base Int; body = bind (fun (var 0)) (num (pos 1)) }

-- each has this written certificate
pub record ExamplesAreWritten : Type 0 where
  pub sum : IsCertificateOf sum_program (codes "cert1\ntypes 1\nint\nnodes 3\n0\n0\n0\n")
  pub run : IsCertificateOf run_program
      (codes "cert1\ntypes 3\nint\nclosed 0\ncode 0 0\nnodes 4\n0\n1 0 0\n2 0\n0\n")
  pub unknown : IsCertificateOf let_program
      (codes "cert1\ntypes 3\nint\nu 0\narrow 1 1\nnodes 4\n0 2\n2 1\n1\n0\n")

-- the bytes certify the program, and aren't the written certificate
pub record IsAnother (p : PureProgram) (bytes : List ℕ) : Type 0 where
  pub certifies : Certifies bytes p
  pub unwritten : IsCertificateOf p bytes → ⊥

-- These certificates have: lines in another order; an unknown and a classifier that are numbered from 1; a line whose
-- type no node needs; and int, which isn't most general, where the written one has an unknown.
pub record OthersAreNotWritten : Type 0 where
  pub order : IsAnother run_program (codes "cert1\ntypes 3\nint\ncode 0 0\nclosed 0\nnodes 4\n0\n2 0 0\n1 0\n0\n")
  pub unknown : IsAnother let_program (codes "cert1\ntypes 3\nint\nu 1\narrow 1 1\nnodes 4\n0 2\n2 1\n1\n0\n")
  pub classifier : IsAnother run_program
      (codes "cert1\ntypes 3\nint\nclosed 0\ncode 1 0\nnodes 4\n0\n1 0 1\n2 1\n0\n")
  pub unneeded : IsAnother sum_program (codes "cert1\ntypes 2\nint\nbool\nnodes 3\n0\n0\n0\n")
  pub special : IsAnother let_program (codes "cert1\ntypes 2\nint\narrow 0 0\nnodes 4\n0 1\n1 0\n0\n0\n")
