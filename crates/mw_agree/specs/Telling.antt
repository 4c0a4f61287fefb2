-- What node lines tell of the nodes of a term, and when what they tell follows the rules of a certificate.
use Rattle.std.specs.Prelude.{ℕ, ◌≡◌, ◌+◌, List, [], ◌∷◌, ◌++◌, map, option_map, option_to_list, Some, slice_get}
use Rattle.mw_term.specs.Terms.{Expression}
use Rattle.mw_term.specs.Types.{live}
use Rattle.mw_types.specs.Types.{TypeExpression, int_ty, unknown, Substitution, apply}
use Rattle.mw_recheck.specs.Notes.{Notes, AllNamed, TopNote, Noted}
use Rattle.mw_section.specs.WritingLaws.{IsFormed}
use Rattle.mw_infer.specs.Nodes.{NodeFacts}

-- the line at place n names the types of a node and ends with its classifier
pub record IsLineOf (p : Notes) (n : ℕ) (x : NodeFacts) : Type 0 where
  pub lines : List ℕ
  pub line : slice_get p.nodes n ≡ Some (lines ++ option_to_list x.classifier)
  pub named : AllNamed p.types lines x.types

-- the lines from place n on are those of these nodes, in order
abbrev pub Tell : Notes → ℕ → List NodeFacts → Type 0
Tell p n [] = Unit {0}
Tell p n (x ∷ facts) = IsLineOf p n x × Tell p (n + 1) facts

-- With these names, the types and classifiers of a term's nodes follow the rules of a certificate, with t as the term's
-- type: any node lines that tell them are right.
abbrev pub Agreed : List TopNote → List NodeFacts → Expression → TypeExpression → Type 0
Agreed tops facts e t = (p : Notes) → Tell p 0 facts → Noted p tops [] live 0 e t

-- no code type stands under a code type in any of these types, and in the types of any of these nodes
abbrev pub AllFormed : List TypeExpression → Type 0
AllFormed [] = Unit {0}
AllFormed (t ∷ ts) = IsFormed t × AllFormed ts

abbrev pub NodesAreFormed : List NodeFacts → Type 0
NodesAreFormed [] = Unit {0}
NodesAreFormed (x ∷ facts) = AllFormed x.types × NodesAreFormed facts

-- new numbers for unknowns and for classifiers, no two of which have one
pub record NewNumbers : Type 0 where
  pub unknown : ℕ → ℕ
  pub classifier : ℕ → ℕ
  pub one_unknown : (u v : ℕ) → unknown u ≡ unknown v → u ≡ v
  pub one_classifier : (c d : ℕ) → classifier c ≡ classifier d → c ≡ d

-- they as a substitution, and a node's types and classifier with them
abbrev pub renaming : NewNumbers → Substitution
renaming r = record { ty = λ u. unknown (r.unknown u); classifier = r.classifier }

abbrev pub with_numbers : NewNumbers → NodeFacts → NodeFacts
with_numbers r x =
    record { types = map (apply (renaming r)) x.types; classifier = option_map r.classifier x.classifier }

-- the type of a term by its nodes: the first type of the first of them
abbrev pub first_type : List TypeExpression → TypeExpression
first_type [] = int_ty
first_type (t ∷ ts) = t

abbrev pub root_of : List NodeFacts → TypeExpression
root_of [] = int_ty
root_of (x ∷ facts) = first_type x.types
