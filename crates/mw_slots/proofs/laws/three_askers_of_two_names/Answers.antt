-- The worked example's run.
use Rattle.std.proofs.Common.{[], ◌∷◌, refl, inl, inr}
use Rattle.mw_slots.specs.Core.{asker, going}
use Rattle.mw_slots.proofs.laws.three_askers_of_two_names.Goals as goal

pub returns : goal.returns
returns c =
    let first = asker (1 ∷ []) 0 going in
    let second = asker (2 ∷ []) 0 going in
    let third = asker (2 ∷ []) 1 going in (
      _,
      (
        _,
        (refl, refl),
        (
          _,
          (first, refl, refl, refl, refl),
          (
            _,
            (refl, refl),
            (
              _,
              (second, 1 ∷ [], refl, refl, refl, inr (λ e. absurd (cc e), refl)),
              (
                _,
                (third, refl, refl, refl, refl),
                (
                  _,
                  (refl, refl),
                  (
                    _,
                    (second, 1 ∷ [], refl, refl, refl, inr (λ e. absurd (cc e), refl)),
                    (
                      _,
                      (third, 2 ∷ [], refl, refl, refl, inl (refl, refl)),
                      refl,
                    ),
                  ),
                ),
              ),
            ),
          ),
        ),
      ),
      refl,
      refl,
    )
