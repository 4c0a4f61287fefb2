-- Terms as they are written in a source.
use Rattle.std.specs.Prelude.{true, false}
use Rattle.mw_term.specs.declared.term.Term.{Term}
use Rattle.mw_term.specs.Terms.{Expression, expression_of}
use Rattle.mw_term.specs.EachNode.{NodeRule, EachNode}

-- no value was put for a variable
abbrev pub source_rule : NodeRule
source_rule = record {
  integer = λ n. Unit {0};
  name = λ i. Unit {0};
  kept_function = λ f. ⊥;
  has_staging = true;
  has_values = false;
}

abbrev pub IsSource : Expression → Type 0
IsSource e = EachNode source_rule e

-- a term of a program is one that is written in a source
abbrev pub TermsAreSources : Type 0
TermsAreSources = (t : Term) → IsSource (expression_of t)
