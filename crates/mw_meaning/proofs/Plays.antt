-- Plays begin and go on, and one that ends strayly makes the module stray.
use Rattle.std.proofs.Common.{◌≡◌, ℕ, List, [], ◌∷◌, ◌++◌, subst}
use Rattle.std.specs.Prelude.{codes}
use Rattle.mw_term.specs.Terms.{GroundType}
use Rattle.mw_wasm.specs.declared.values.Value.TheVariants.{I64}
use Rattle.mw_wasm.specs.Syntax.{PureModule}
use Rattle.mw_wasm.specs.Store.{Store}
use Rattle.mw_wasm.specs.Execution.{ended}
use Rattle.mw_wasm.specs.Instances.{invoked}
use Rattle.mw_meaning.specs.StandingFor.{Call, AreCalls, leaves}
use Rattle.mw_meaning.specs.GroundValues.{IsArgument}
use Rattle.mw_meaning.specs.Shapes.{IsWordOf, IsStrayEnd, EndStray, here, later, in_call}
use Rattle.mw_meaning.specs.Plays.{CallsEnd, none, one_more}
use Rattle.mw_meaning.specs.ShapeLaws.{PlaysBegin, PlaysGoOn, PlaysEndStray}
use Rattle.mw_meaning.proofs.StrayModules.{one_number}

-- one call more
pub are_calls_on : (s : GroundType) (calls : List Call) (c : Call) → AreCalls s calls → IsArgument s c.argument
    → AreCalls s (calls ++ c ∷ [])
are_calls_on s [] c h a = (a, tt)
are_calls_on s (b ∷ calls) c h a = (h.0, are_calls_on s calls c h.1 a)

module _ (m : PureModule) (g r : ℕ) (c : Call) where
  pub calls_end_on : {calls : List Call} {st last after : Store} {n left : ℕ} → CallsEnd m g r calls st last
      → invoked m last g (I64 r ∷ leaves c.argument) c.units ≡ ended after (I64 n ∷ []) left
      → CallsEnd m g r (calls ++ c ∷ []) st after
  calls_end_on none e = one_more e none
  calls_end_on (one_more d rest) e = one_more d (calls_end_on rest e)

  pub calls_end_stray : {t : GroundType} {calls : List Call} {st last : Store} → CallsEnd m g r calls st last
      → IsStrayEnd (IsWordOf t) (invoked m last g (I64 r ∷ leaves c.argument) c.units)
      → EndStray m g r t (calls ++ c ∷ []) st
  calls_end_stray none x = here x
  calls_end_stray (one_more d rest) x = later d (calls_end_stray rest x)

pub plays_begin : PlaysBegin
plays_begin m s f g r units left first after i e x b = record {
  first = first;
  has_instance = i;
  init = f;
  is_init = e;
  call = g;
  is_call = x;
  units = units;
  after = after;
  left = left;
  began = b;
  calls = [];
  are_calls = tt;
  ended_all = none;
}

pub plays_on : PlaysGoOn
plays_on m s r g units n left last after v play x a e =
    let i : g ≡ play.call = one_number m (codes "call") play.is_call x in
    let c : Call = record { argument = v; units = units } in
    let ends = subst (λ g. invoked m last g (I64 r ∷ leaves v) units ≡ ended after (I64 n ∷ []) left) i e in
    record {
      first = play.first;
      has_instance = play.has_instance;
      init = play.init;
      is_init = play.is_init;
      call = play.call;
      is_call = play.is_call;
      units = play.units;
      after = play.after;
      left = play.left;
      began = play.began;
      calls = play.calls ++ c ∷ [];
      are_calls = are_calls_on s play.calls c play.are_calls a;
      ended_all = calls_end_on m play.call r c play.ended_all ends;
    }

pub stray_play : PlaysEndStray
stray_play m s t r g units last v play x a e =
    let i : g ≡ play.call = one_number m (codes "call") play.is_call x in
    let c : Call = record { argument = v; units = units } in
    let all = are_calls_on s play.calls c play.are_calls a in
    let stray = subst (λ g. IsStrayEnd (IsWordOf t) (invoked m last g (I64 r ∷ leaves v) units)) i e in
    in_call play.units play.has_instance play.is_init play.is_call all play.began
    (calls_end_stray m play.call r c play.ended_all stray)
