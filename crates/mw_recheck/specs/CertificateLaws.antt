-- What a certificate shows.
use Rattle.std.specs.Prelude.{ℕ, ◌≡◌, ◌⊎◌, List, [], Some, slice_get}
use Rattle.mw_term.specs.Terms.{Expression}
use Rattle.mw_term.specs.Types.{live, IsFormed}
use Rattle.mw_term.specs.Typing.{Typed}
use Rattle.mw_term.specs.Programs.{value as defines, PureProgram, IsSyntacticValue}
use Rattle.mw_term.specs.Typable.{seen_by_item, Typable}
use Rattle.mw_types.specs.Types.{TypeExpression, Assignment, value}
use Rattle.mw_recheck.specs.Sections.{SectionLines}
use Rattle.mw_recheck.specs.Certificates.{CertifiesBy, Certifies}

-- a program's lets are syntactic values, as in a source
abbrev pub HasValues : PureProgram → Type 0
HasValues p = (i : ℕ) (e : Expression) → slice_get p.items i ≡ Some (defines e) → IsSyntacticValue e

-- a program with a certificate is typable
abbrev pub CertifiedAreTypable : Type 0
CertifiedAreTypable = (bytes : List ℕ) (p : PureProgram) → HasValues p → Certifies bytes p → Typable p

-- and each type of the language that an assignment makes of a let's root type is a type of the let
abbrev pub CertificatesAreTypings : Type 0
CertificatesAreTypings = (xs : List SectionLines) (p : PureProgram) (c : CertifiesBy xs p) (i : ℕ) (e : Expression)
    (t : TypeExpression) (b : Assignment) → slice_get p.items i ≡ Some (defines e) → slice_get c.roots i ≡ Some t
    → IsFormed (value b t) → Typed (seen_by_item p.items i) [] live e (value b t)

-- bytes certify a program, or they don't
abbrev pub CertifiesIsDecided : Type 0
CertifiesIsDecided = (bytes : List ℕ) (p : PureProgram) → Certifies bytes p ⊎ (Certifies bytes p → ⊥)
