-- The examples by computation, and by the rules.
use Rattle.std.proofs.Common.{refl, inl, inr, lit<, lit≤}
use Rattle.std.proofs.lemmas.List.Elements.{All-from_recursion}
use Rattle.std.specs.Prelude.{All, [], ◌∷◌}
use Rattle.mw_scope.specs.declared.fault.Fault.{Fault}
use Rattle.mw_scope.specs.declared.fault.Fault.TheVariants.{Unbound, NotValue, WrongLevel}
use Rattle.mw_scope.specs.Faults.{IsNoLater}
use Rattle.mw_scope.specs.Nameless.{n_num, n_var, n_glob, n_fun, n_fix, n_app, n_bind, n_prim, n_bracket, n_escape}
use Rattle.mw_scope.specs.Nameless.{n_run, n_close, n_lift, a_let, no_item, an_item, IsNameless}
use Rattle.mw_scope.specs.Examples.{ExamplesHold, capture, nameless_capture, looping, nameless_looping, lifted}
use Rattle.mw_scope.specs.Examples.{nameless_lifted}

is_capture : IsNameless capture nameless_capture
is_capture = record {
  items = no_item;
  result = refl;
  body = n_run (n_close
      (n_bracket
      (n_app (n_app
      (n_fun (n_escape (n_app (n_fun (n_bracket (n_fun (n_prim (n_escape (n_var refl)) (n_var refl)))))
      (n_bracket (n_var refl))))) n_num) n_num)));
}

is_looping : IsNameless looping nameless_looping
is_looping = record {
  items = no_item;
  result = refl;
  body = n_bind (n_bracket (n_bind (n_fix (n_app (n_var refl) (n_var refl))) (n_app (n_var refl) n_num))) n_num;
}

is_lifted : IsNameless lifted nameless_lifted
is_lifted = record {
  items = an_item refl (a_let refl n_num) no_item;
  result = refl;
  body = n_run (n_close (n_bracket (n_prim (n_escape (n_lift (n_glob refl refl))) n_num)));
}

no_later : All (IsNoLater (Unbound 8)) (NotValue 8 ∷ Unbound 8 ∷ WrongLevel 28 ∷ [])
no_later =
    let to : Fault → Type 0 = IsNoLater (Unbound 8) in
    let a : to (NotValue 8) = inr (refl, lit≤ tt) in
    let b : to (Unbound 8) = inr (refl, lit≤ tt) in
    let c : to (WrongLevel 28) = inl (lit< tt) in
    All-from_recursion to (NotValue 8 ∷ Unbound 8 ∷ WrongLevel 28 ∷ []) (a, (b, (c, tt)))

pub examples : ExamplesHold
examples = record {
  capture_is = is_capture;
  looping_is = is_looping;
  lifted_is = is_lifted;
  used_inside_has = refl;
  kernel_in_kernel_has = refl;
  bound_twice_has = refl;
  sum_bound_has = refl;
  escape_outside_has = refl;
  three_faults_has = refl;
  first_of_three = record { stands = (1, lit< tt, refl); first = no_later };
}
