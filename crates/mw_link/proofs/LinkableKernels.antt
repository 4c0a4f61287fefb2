-- Kernels that may be linked, and whose literals have 64 bits.
use Rattle.std.proofs.Common.{◌≤◌, List, [], ◌∷◌, length}
use Rattle.std.specs.List.{AllByRecursion}
use Rattle.mw_term.specs.Terms.{size, depth_of}
use Rattle.mw_term.specs.Closed.{IsClosed}
use Rattle.mw_term.specs.Limits.{kernel_nodes, LiteralsFit}
use Rattle.mw_wasm.specs.Profile.{IsPrintable}
use Rattle.mw_link.specs.Linked.{Kernel, count}
use Rattle.mw_link.specs.LinkLaw.{IsLinkable, KernelsDiffer, AreLinkable, LiteralsOfAllFit}

pub record IsWhole (p : Kernel) : Type 0 where
  pub closed : IsClosed p.code
  pub literals : LiteralsFit p.code
  pub few : size p.code ≤ 20000
  pub flat : depth_of p.code ≤ 400
  pub nodes : kernel_nodes p.kind ≤ 10000
  pub short : length p.name ≤ 64
  pub printable : AllByRecursion IsPrintable p.name

pub record AreWhole (ps : List Kernel) : Type 0 where
  pub all : AllByRecursion IsWhole ps
  pub differ : KernelsDiffer ps
  pub few : length ps ≤ 100
  pub together : count ps ≤ 100_000

each_whole : (ps : List Kernel) → AllByRecursion IsLinkable ps → LiteralsOfAllFit ps → AllByRecursion IsWhole ps
each_whole [] are fit = tt
each_whole (p ∷ ps) are fit = (
  record {
    closed = are.0.closed;
    literals = fit.0;
    few = are.0.few;
    flat = are.0.flat;
    nodes = are.0.nodes;
    short = are.0.short;
    printable = are.0.printable;
  },
  each_whole ps are.1 fit.1,
)

pub whole : (ps : List Kernel) → AreLinkable ps → LiteralsOfAllFit ps → AreWhole ps
whole ps are fit = record {
  all = each_whole ps are.all fit;
  differ = are.differ;
  few = are.few;
  together = are.together;
}
