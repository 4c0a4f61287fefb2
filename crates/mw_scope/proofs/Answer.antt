-- What the whole walk of a program finds.
use Rattle.std.proofs.Common.{◌≡◌, List, [], Option, Some, None, refl, ap, sym, ◌∙◌, subst, arith}
use mathlib.Core.Path.{fun_ext}
use Rattle.std.specs.Prelude.{Result, Ok, Err, IfOk, IfErr, MatchOption}
use Rattle.mw_term.specs.declared.program.Program.{Program}
use Rattle.mw_term.specs.declared.refusal.Stop.{Stop}
use Rattle.mw_term.specs.declared.refusal.Stop.TheVariants.{Refused}
use Rattle.mw_term.specs.Programs.{PureProgram, program_of}
use Rattle.mw_term.specs.Stops.{AnswersOrMemory, IfRefused, IsRefusalOrMemory}
use Rattle.mw_scope.specs.Resolving.{IsOfFirstFault}
use Rattle.mw_grammar.specs.SurfaceTrees.{PureSurface}
use Rattle.mw_scope.specs.declared.level.Level.TheVariants.{Live}
use Rattle.mw_scope.specs.declared.fault.Fault.{Fault}
use Rattle.mw_scope.specs.declared.names.Names.{Names}
use Rattle.mw_scope.specs.Scopes.{items_of}
use Rattle.mw_scope.specs.Nameless.{IsNameless}
use Rattle.mw_scope.specs.Faults.{faults_in, faults_of_items, faults_of, refusal_of, IsFirst}
use Rattle.mw_scope.specs.Named.{named_program}
use Rattle.mw_scope.specs.Keeping.{kept}
use Rattle.mw_scope.specs.Views.{place_at, Knows}
use Rattle.mw_scope.proofs.Firsts.{kept_two, kept_is_first, none_kept, one_first}
use Rattle.mw_scope.proofs.FaultlessPrograms.{faultless_program, program_has_no_fault, program_is_named}

pub all_known : {names : Names} (s : PureSurface) → Knows names s.items → place_at names.all ≡ items_of s.items
all_known s knows = fun_ext (λ x. knows.all x)

-- the fault that is kept of the items and of main in turn
pub kept_of_all : (s : PureSurface) (names : Names) (middle first : Option Fault) → Knows names s.items
    → middle ≡ kept None (faults_of_items [] s.items)
    → first ≡ kept middle (faults_in (place_at names.all) [] Live s.body) → first ≡ kept None (faults_of s)
kept_of_all s names middle first knows items body =
    let here : first ≡ kept middle (faults_in (items_of s.items) [] Live s.body) =
    body ∙ ap (λ tops. kept middle (faults_in tops [] Live s.body)) (all_known s knows) in
    kept_two None middle first (faults_of_items [] s.items) (faults_in (items_of s.items) [] Live s.body) items here

pub no_fault_found : (s : PureSurface) → None ≡ kept None (faults_of s) → faults_of s ≡ []
no_fault_found s e = none_kept (faults_of s) (sym e)

pub first_found : (s : PureSurface) (f : Fault) → Some f ≡ kept None (faults_of s) → IsFirst (faults_of s) f
first_found s f e = kept_is_first (faults_of s) f (sym e)

pub none_is_first : {A : Type 0} (faults : List Fault) (f : Fault) → faults ≡ [] → IsFirst faults f → A
none_is_first faults f e h =
    let P : List Fault → Type 0 = λ fs. IsFirst fs f in
    let first : IsFirst [] f = subst P e h in absurd (omega (arith, first.stands.1))

pub first_is_none : {A : Type 0} (s : PureSurface) (f : Fault) (p : PureProgram) → IsFirst (faults_of s) f
    → IsNameless s p → A
first_is_none s f p h k = none_is_first (faults_of s) f (program_has_no_fault k) h

pub same_refusal : (s : PureSurface) (f g : Fault) → IsFirst (faults_of s) f → IsFirst (faults_of s) g → refusal_of f
    ≡ refusal_of g
same_refusal s f g a b = ap refusal_of (one_first (faults_of s) f g a b)

-- what the clauses of the answer say
pub record IsAnswer (s : PureSurface) (result : Result Program Stop) : Type 0 where
  pub found : IfOk result (λ p. IsNameless s (program_of p))
  pub only : (p : PureProgram) → IsNameless s p → AnswersOrMemory (λ q. program_of q ≡ p) result
  pub refused : IfErr result (IfRefused (IsOfFirstFault s))
  pub first : (f : Fault) → IsFirst (faults_of s) f → IsRefusalOrMemory result (refusal_of f)

accepted : (s : PureSurface) (program : Program) → program_of program ≡ named_program s → faults_of s ≡ []
    → IsAnswer s (Ok program)
accepted s program is none = record {
  found = let P : PureProgram → Type 0 = λ p. IsNameless s p in subst P (sym is) (faultless_program s none);
  only = λ p h. is ∙ sym (program_is_named s p h);
  refused = tt;
  first = λ f h. none_is_first (faults_of s) f none h;
}

denied : (s : PureSurface) (f : Fault) → IsFirst (faults_of s) f → IsAnswer s (Err (Refused (refusal_of f)))
denied s f is = record {
  found = tt;
  only = λ p h. first_is_none s f p is h;
  refused = (f, refl, is);
  first = λ g h. same_refusal s f g is h;
}

pub is_answer : (s : PureSurface) (first : Option Fault) (program : Program) (result : Result Program Stop)
    → program_of program ≡ named_program s → first ≡ kept None (faults_of s) → MatchOption first (result ≡ Ok program)
    (λ f. result ≡ Err (Refused (refusal_of f))) → IsAnswer s result
is_answer s None program result is kept how = rw how (accepted s program is (no_fault_found s kept))
is_answer s (Some f) program result is kept how = rw how (denied s f (first_found s f kept))
