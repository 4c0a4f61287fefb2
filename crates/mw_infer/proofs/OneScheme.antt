-- A definition has one scheme at most whose numbers are in order.
use Rattle.std.proofs.Common.{◌≡◌, ℕ, List, refl, sym}
use Rattle.mw_term.specs.Terms.{Expression}
use Rattle.mw_term.specs.Types.{IsPlain, IsFormed}
use Rattle.mw_term.specs.Typing.{TopLevel}
use Rattle.mw_term.proofs.MovedCode.{IsFormed-plain}
use Rattle.mw_types.specs.Types.{TypeExpression, int_ty, bool_ty, unknown, pair_ty, function_ty, code_ty, closed_ty}
use Rattle.mw_types.specs.Types.{Assignment, value}
use Rattle.mw_types.proofs.InOrder.{one_in_order}
use Rattle.mw_infer.specs.Schemes.{Scheme, IsInOrder}
use Rattle.mw_infer.specs.Inferring.{IsSchemeOf}
use Rattle.mw_term.specs.FlatTypes.{flat_type, formed_type}

-- under an assignment of plain types a scheme is a type of the language
plain_under : (b d : Assignment) (t : TypeExpression) → ((u : ℕ) → IsPlain (b.ty u)) → value d t ≡ flat_type (value b t)
    → IsPlain (value b t)
plain_under b d int_ty h e = tt
plain_under b d bool_ty h e = tt
plain_under b d (unknown u) h e = h u
plain_under b d (pair_ty s t) h e = (plain_under b d s h (cc), plain_under b d t h (cc))
plain_under b d (function_ty s t) h e = (plain_under b d s h (cc), plain_under b d t h (cc))
plain_under b d (code_ty c t) h e = absurd (cc)
plain_under b d (closed_ty t) h e = absurd (cc)

formed_under : (b d : Assignment) (t : TypeExpression) → ((u : ℕ) → IsPlain (b.ty u)) → value d t
    ≡ formed_type (value b t) → IsFormed (value b t)
formed_under b d int_ty h e = tt
formed_under b d bool_ty h e = tt
formed_under b d (unknown u) h e = IsFormed-plain (b.ty u) (h u)
formed_under b d (pair_ty s t) h e = (formed_under b d s h (cc), formed_under b d t h (cc))
formed_under b d (function_ty s t) h e = (formed_under b d s h (cc), formed_under b d t h (cc))
formed_under b d (code_ty c t) h e = plain_under b d t h (cc)
formed_under b d (closed_ty t) h e = plain_under b d t h (cc)

-- two schemes of a definition have the same types under such an assignment
shared : (tops : List TopLevel) (e : Expression) (s r : Scheme) → IsSchemeOf tops e s → IsSchemeOf tops e r
    → (b : Assignment) → ((u : ℕ) → IsPlain (b.ty u)) → (d : Assignment) × (value b s.type ≡ value d r.type)
shared tops e s r h k b p =
    let d = h.formed b in
    let i = (k.types (value b s.type)).0
    ((h.types (value b s.type)).1 (record { formed = formed_under b d.0 s.type p d.1; by = b; gives = refl })) in
    (i.by, sym i.gives)

pub one_scheme : (tops : List TopLevel) (e : Expression) (s r : Scheme) → IsSchemeOf tops e s → IsSchemeOf tops e r
    → IsInOrder s → IsInOrder r → s ≡ r
one_scheme tops e s r h k p q =
    let z = one_in_order s.type r.type (shared tops e s r h k) (shared tops e r s k h) p q in
    rw (z.types, z.unknowns, z.classifiers) refl
