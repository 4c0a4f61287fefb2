-- Answers to runs and calls are what they mean.
use Rattle.std.proofs.Common.{◌≡◌, ℕ, false, [], ◌∷◌, Option, Some, None, Ok, refl, sym, ap, ◌∙◌, subst}
use Rattle.mw_term.specs.Terms.{Expression, KernelValue, KernelType, GroundType, PureGroundValue, of_ground, to, int}
use Rattle.mw_term.specs.Terms.{bool, both, function, recursive, kept, ground_value, ground_value_of}
use Rattle.mw_term.specs.Closed.{IsCode}
use Rattle.mw_term.specs.Limits.{LiteralsFit}
use Rattle.mw_term.specs.Types.{kernel_type}
use Rattle.mw_term.specs.Typing.{Valued}
use Rattle.mw_term.specs.Typable.{HasKernelType}
use Rattle.mw_term.specs.Unlabelled.{unlabelled_value}
use Rattle.mw_meaning.specs.declared.mode.Mode.{Mode}
use Rattle.mw_meaning.specs.Arithmetic.{trap, bound}
use Rattle.mw_meaning.specs.KernelMeaning.{Ended, gives, stops, kernel_meaning}
use Rattle.mw_meaning.specs.Simplification.{in_mode}
use Rattle.mw_meaning.specs.StandingFor.{StandsFor}
use Rattle.mw_meaning.specs.StagedMeaning.{gives as answers, Runs, run_of, run_ended, call_of, call_ended}
use Rattle.mw_meaning.specs.StagedMeaning.{ground_result, kernel_argument, argument_words}
use Rattle.mw_meaning.proofs.SimplificationTyping.{keeps_kernel_type}
use Rattle.mw_wasm.specs.declared.modules.Module.{Module}
use Rattle.mw_wasm.specs.Views.{module_of}
use Rattle.mw_machine.specs.declared.kernels.Ran.{Ran}
use Rattle.mw_machine.specs.declared.kernels.Ran.TheVariants as ran
use Rattle.mw_machine.specs.KernelCalls.{IsMeantBy, AnswersRun, AnswersCall, IsRunAt, ends_all}
use Rattle.mw_kernel.specs.declared.running.Began.{Began}
use Rattle.mw_kernel.specs.declared.running.Began.TheVariants as began
use Rattle.mw_kernel.specs.KernelAnswers.{FitsWords, HasStartType, HasCallType, IsSameFunction}
use Rattle.mw_meaning.specs.GroundValues.{kernel_value}
use Rattle.mw_kernel.specs.KernelMeanings.{IsSameValue, HasShortIntegers, IsBeganFrom, IsRanFrom, IsCallMeant}
use Rattle.mw_kernel.specs.KernelMeanings.{MeansStart, Keeps, KeepsOn}
use Rattle.mw_kernel.specs.RunningStates.{RunningState}
use Rattle.mw_kernel.specs.Straying.{IsStartOver, StartsPlay, PlaysOn}
use Rattle.mw_kernel.proofs.MeaningLemmas.{short_integers_are_kept}
use Rattle.mw_cached.specs.KeptFunctions.{IsFunctionOf, IsKeptFor}
use Rattle.mw_cached.proofs.OtherUnits.{one_value}
use Rattle.mw_cached.proofs.ShortIntegers.{code_gives_short, call_gives_short, short_integers, argument_of}
use Rattle.mw_cached.proofs.ShortIntegers.{argument_is_short}

-- a kernel's value that is a ground value is given back as that
ground_back : (v : PureGroundValue) → ground_result (kernel_value v) ≡ Some (ground_value v)
ground_back (int n) = refl
ground_back (bool b) = refl
ground_back (both v w) = rw (ground_back v, ground_back w) refl

result_back : (w : KernelValue) (v : PureGroundValue) → HasShortIntegers w → IsSameValue w v
    → ground_result w ≡ Some (ground_value v)
result_back w v short same = subst (λ w. ground_result w ≡ Some (ground_value v))
    (short_integers_are_kept w v short same) (ground_back v)

-- the integers of a value that is given have 64 bits
abbrev GivesShort : Ended → Type 0
GivesShort a = (v : KernelValue) (left words : ℕ) → a ≡ gives v left words → HasShortIntegers v

-- the answer that a beginning is, with the number of its function
abbrev pub ran_of : ℕ → Began → Ran
ran_of which (began.Value v left) = ran.Value v left
ran_of which (began.Function r left) = ran.Function which left
ran_of which (began.Trap t) = ran.Trap t
ran_of which (began.Bound l) = ran.Bound l

-- a kept function is a function
function_given : (f : KernelValue) (s t g h : GroundType) (which left units words : ℕ) (runs : Runs)
    → Valued [] [] (unlabelled_value f) (kernel_type (to g h)) → left ≡ units
    → IsMeantBy (ran.Function which left) (run_ended (to s t) (gives f units words) runs)
function_given (function e) s t g h which left units words runs p e' = e'
function_given (recursive e) s t g h which left units words runs p e' = e'
function_given (int n) s t g h which left units words runs p e' = elim p [ ]
function_given (bool b) s t g h which left units words runs p e' = elim p [ ]
function_given (both v w) s t g h which left units words runs p e' = elim p [ ]

-- a beginning answers as the run means
began_meant : (which : ℕ) (b : Began) (k : KernelType) (a : Ended) (runs : Runs) → GivesShort a → IsBeganFrom k b a
    → IsMeantBy (ran_of which b) (run_ended k a runs)
began_meant which (began.Value v left) (of_ground t) (gives w units words) runs short h = rw
    (result_back w (ground_value_of v) (short w units words refl) h.0) (refl, h.1)
began_meant which (began.Function r left) (to s t) (gives f units words) runs short h =
    function_given f s t r.argument r.result which left units words runs h.0.typed h.1
began_meant which (began.Trap t) (of_ground g) (stops (trap u)) runs short h = h
began_meant which (began.Trap t) (to s g) (stops (trap u)) runs short h = h
began_meant which (began.Bound l) (of_ground g) (stops (bound b)) runs short h = h
began_meant which (began.Bound l) (to s g) (stops (bound b)) runs short h = h
began_meant which _ _ _ runs short h = absurd h

pub run_meant : (mode : Mode) (which : ℕ) (b : Began) (c : Expression) (k : KernelType) (units : ℕ)
    → IsCode (in_mode mode c) → LiteralsFit (in_mode mode c) → IsBeganFrom k b (kernel_meaning units 0 (in_mode mode c))
    → IsMeantBy (ran_of which b) (run_of mode k c units [])
run_meant mode which b c k units code fit h =
    let d = in_mode mode c in
    began_meant which b k (kernel_meaning units 0 d) ((c, k) ∷ [])
    (λ v left words e. short_integers v (code_gives_short d units 0 v left words code fit e)) h

-- so a run answers, where the module stands for the code
pub run_answers : (mode own : Mode) (which : ℕ) (b begun : Began) (wasm given : Module) (c : Expression)
    (k : KernelType) (units : ℕ) → mode ≡ own → begun ≡ b → wasm ≡ given → HasKernelType c k
    → LiteralsFit (in_mode mode c)
    → StandsFor (module_of given) (in_mode mode c) k → MeansStart (Ok begun) wasm k units
    → AnswersRun own (Ok (ran_of which b)) c k units
run_answers mode own which b begun wasm given c k units same is from typed fit stands means =
    let code = keeps_kernel_type mode c k typed in
    subst (λ mode. AnswersRun mode (Ok (ran_of which b)) c k units) same
    (run_meant mode which b c k units code.is_code fit
    (subst (λ b. IsBeganFrom k b (kernel_meaning units 0 (in_mode mode c))) is
    (means (in_mode mode c) code (subst (λ w. StandsFor (module_of w) (in_mode mode c) k) (sym from) stands))))

-- a call answers as it means
ran_meant : (r : Ran) (a : Ended) (runs : Runs) → GivesShort a → IsRanFrom r a → IsMeantBy r (call_ended a runs)
ran_meant (ran.Value v left) (gives w units words) runs short h = rw
    (result_back w (ground_value_of v) (short w units words refl) h.0) (refl, h.1)
ran_meant (ran.Trap t) (stops (trap u)) runs short h = h
ran_meant (ran.Bound l) (stops (bound b)) runs short h = h
ran_meant _ _ runs short h = absurd h

-- the value that a run gave, where it gave a function
function_of_run : (s t : GroundType) (a : Ended) (k : KernelType) (f : KernelValue) (words left : ℕ)
    (runs after : Runs) → run_ended (to s t) a runs ≡ answers (kept k f words) left after → a ≡ gives f left words
function_of_run s t (gives (function e) n h) k f words left runs after p = cc
function_of_run s t (gives (recursive e) n h) k f words left runs after p = cc
function_of_run s t _ k f words left runs after p = absurd (cc)

-- A call of a kept function.
module _ (mode : Mode) (c : Expression) (k : KernelType) (r : RunningState) (code : IsCode (in_mode mode c))
    (literals : LiteralsFit (in_mode mode c)) (type : k ≡ to r.argument r.result) (is : IsFunctionOf (in_mode mode c) r)
    (v : PureGroundValue) (units : ℕ) where
  abbrev d : Expression
  d = in_mode mode c

  abbrev a : Ended
  a = call_of is.function is.words (kernel_argument (ground_value v)) (argument_words (ground_value v)) units

  gives_short : FitsWords v → GivesShort a
  gives_short fits = λ w left words e.
      short_integers w
      (call_gives_short is.function (kernel_value v) w is.words (argument_words (ground_value v)) units left words
      (code_gives_short d is.units 0 is.function is.left is.words code literals is.is)
      (argument_is_short v fits (kernel_value v) (argument_of v))
      (ap (λ o. call_of is.function is.words o (argument_words (ground_value v)) units) (sym (argument_of v)) ∙ e))

  -- it is the function that a run with any units gave
  same_function : (f : KernelValue) (words given left : ℕ) (after : Runs)
      → run_of mode k c given [] ≡ answers (kept k f words) left after → (is.function ≡ f) × (is.words ≡ words)
  same_function f words given left after p =
      one_value d is.units given is.function f is.left left is.words words is.is
      (function_of_run r.argument r.result (kernel_meaning given 0 d) k f words left ((c, k) ∷ []) after
      (subst (λ j. run_ended j (kernel_meaning given 0 d) ((c, k) ∷ [])
      ≡ answers (kept k f words) left after) type p))

  pub call_meant : (answer : Ran) → FitsWords v → IsCallMeant (Ok answer) a → AnswersCall mode (Ok answer) c k v units
  call_meant answer fits h f words given left after p =
      let same = same_function f words given left after p in
      subst (λ f. IsMeantBy answer (call_ended
      (call_of f words (kernel_argument (ground_value v)) (argument_words (ground_value v)) units) [])) same.0
      (subst (λ words. IsMeantBy answer
      (call_ended (call_of is.function words (kernel_argument (ground_value v))
      (argument_words (ground_value v)) units) [])) same.1
      (ran_meant answer a [] (gives_short fits) h))

-- after a value the function is kept
function_stays : (c : Expression) (old new : RunningState)
    → ((f : KernelValue) (words : ℕ) → Keeps old f words → Keeps new f words) → IsFunctionOf c old → IsFunctionOf c new
function_stays c old new keeps is = record {
  function = is.function;
  units = is.units;
  left = is.left;
  words = is.words;
  is = is.is;
  keeps = keeps is.function is.words is.keeps;
}

pub call_keeps : (answer : Ran) (c : Expression) (k : KernelType) (old new : RunningState) (loaded : Option ℕ)
    → IsKeptFor c k old loaded → IsSameFunction old new → HasCallType (Ok answer) old.result
    → KeepsOn (Ok answer) old new → PlaysOn (Ok answer) old new → ends_all (Ok answer) ≡ false
    → IsKeptFor c k new loaded
call_keeps (ran.Value v left) c k old new loaded is same type keeps plays open' = record {
  code = is.code;
  literals = is.literals;
  type = is.type ∙ sym (ap (λ s. to s new.result) same.argument_is ∙ ap (λ t. to old.argument t) same.result_is);
  plays = plays is.plays;
  emitted = λ none. subst (λ w. StandsFor (module_of w) c k) (sym same.wasm_is) (is.emitted none);
  means = λ stands. function_stays c old new keeps
      (is.means (subst (λ w. StandsFor (module_of w) c k) same.wasm_is stands));
}
call_keeps (ran.Function which left) c k old new loaded is same type keeps plays open' = absurd type
call_keeps (ran.Trap t) c k old new loaded is same type keeps plays open' = absurd (cc)
call_keeps (ran.Bound l) c k old new loaded is same type keeps plays open' = absurd (cc)

-- the same of the other clauses of a run
pub run_typed : (which : ℕ) (b : Began) (k : KernelType) → HasStartType (Ok b) k → IsRunAt (Ok (ran_of which b)) k which
run_typed which (began.Value v left) (of_ground t) h = h
run_typed which (began.Value v left) (to s t) h = absurd h
run_typed which (began.Function r left) (of_ground t) h = absurd h
run_typed which (began.Function r left) (to s t) h = refl
run_typed which (began.Trap u) k h = tt
run_typed which (began.Bound l) k h = tt

-- the function that a run gives is the code's
function_of_start : (r : RunningState) (rest : ℕ) (c : Expression) (k : KernelType) (units : ℕ)
    → HasStartType (Ok (began.Function r rest)) k → IsBeganFrom k (began.Function r rest) (kernel_meaning units 0 c)
    → IsFunctionOf c r
function_of_start r rest c k units type h = at k (kernel_meaning units 0 c) refl type h
  where
    at : (k : KernelType) (a : Ended) → kernel_meaning units 0 c ≡ a → HasStartType (Ok (began.Function r rest)) k
        → IsBeganFrom k (began.Function r rest) a → IsFunctionOf c r
    at (to s t) (gives f left words) e type h = record {
      function = f;
      units = units;
      left = left;
      words = words;
      is = e;
      keeps = h.0;
    }
    at (to s t) (stops why) e type h = absurd h
    at (of_ground t) a e type h = absurd type

start_type : (r : RunningState) (rest : ℕ) (k : KernelType) → HasStartType (Ok (began.Function r rest)) k
    → k ≡ to r.argument r.result
start_type r rest (to s t) type = sym (ap (λ s. to s r.result) type.0 ∙ ap (λ t. to s t) type.1)
start_type r rest (of_ground t) type = absurd type

-- and is kept
pub run_keeps : (b : Began) (r : RunningState) (rest : ℕ) (wasm : Module) (c : Expression) (k : KernelType) (units : ℕ)
    (loaded : Option ℕ) → b ≡ began.Function r rest → HasKernelType c k → LiteralsFit c → HasStartType (Ok b) k
    → IsStartOver (Ok b) wasm → StartsPlay (Ok b) → MeansStart (Ok b) wasm k units
    → (loaded ≡ None → StandsFor (module_of wasm) c k) → IsKeptFor c k r loaded
run_keeps b r rest wasm c k units loaded is typed fit type over plays means stands =
    let type' = subst (λ b. HasStartType (Ok b) k) is type in
    let over' = subst (λ b. IsStartOver (Ok b) wasm) is over in
    let means' = subst (λ b. MeansStart (Ok b) wasm k units) is means in
    record {
      code = typed.is_code;
      literals = fit;
      type = start_type r rest k type';
      plays = subst (λ b. StartsPlay (Ok b)) is plays;
      emitted = λ none. subst (λ w. StandsFor (module_of w) c k) (sym over') (stands none);
      means = λ here. function_of_start r rest c k units type'
          (means' c typed (subst (λ w. StandsFor (module_of w) c k) over' here));
    }
