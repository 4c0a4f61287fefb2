-- What the work on a kernel item gave is what was asked of it.
use Rattle.std.proofs.Common.{◌≡◌, ◌≤◌, ◌+◌, inl, inr, ℕ, zero, suc, Bool, true, false, if◌then◌else◌, List, [], ◌∷◌}
use Rattle.std.proofs.Common.{map, Some, refl, sym, ap, ◌∙◌, ◌++◌, subst, arith}
use Rattle.std.specs.Prelude.{slice_get, ◌↔◌}
use Rattle.std.specs.Str.{bytes_eq}
use Rattle.std.specs.List.{All}
use Rattle.std.proofs.lemmas.Bool.{cases_Bool}
use Rattle.std.proofs.lemmas.Option.{none-some, same_Some}
use Rattle.std.proofs.lemmas.Slice.Eq.{bytes_eq-Decides}
use Rattle.mw_term.specs.Terms.{Expression, KernelType, Value, expression_of}
use Rattle.mw_term.specs.Programs.{kernel, PureProgram}
use Rattle.mw_term.specs.declared.term.Term.{Term}
use Rattle.mw_term.specs.declared.value.TrapKind.{TrapKind}
use Rattle.mw_term.specs.declared.value.Limit.{Limit}
use Rattle.mw_meaning.specs.declared.mode.Mode.{Mode}
use Rattle.mw_meaning.specs.Simplification.{in_mode}
use Rattle.mw_meaning.specs.StagedMeaning.{runs}
use Rattle.mw_meaning.specs.Outcomes.{Outcome, came_to, trapped, bounded, stuck, item_outcome, names_of_items}
use Rattle.mw_machine.specs.KernelCalls.{IsRunnable, prices}
use Rattle.mw_machine.specs.Evaluations.{item, term_of, defined}
use Rattle.mw_slots.specs.Receipts.{Known, IsOf}
use Rattle.mw_key.specs.CanonicalText.{IsTextOf, canonical_text}
use Rattle.mw_key.specs.declared.version.Version.TheVariants.{Two}
use Rattle.mw_compile.specs.Entries.{Emitted}
use Rattle.mw_store.specs.Loads.{Loaded as LoadedRecord, LoadState}
use Rattle.mw_cache.specs.declared.got.Got.{Got}
use Rattle.mw_cache.specs.declared.got.Got.TheVariants.{Loaded, Stored, Own}
use Rattle.mw_cache.specs.Gots.{CacheState, text_in, loaded_texts, IsHere, IsAnswered, IsLoadedGot, IsLoadedText}
use Rattle.mw_cache.specs.Hints.{HintedState, price_beside}
use Rattle.mw_cache.specs.Received.{IsReceived, AreAllReceived}
use Rattle.mw_cached.specs.Following.{Standing, Follows, follows_through, price_in}
use Rattle.mw_tasks.specs.declared.job.Done.{Done}
use Rattle.mw_tasks.specs.declared.outcome.Evaluated.{Evaluated}
use Rattle.mw_tasks.specs.declared.outcome.Evaluated.TheVariants as evaluated
use Rattle.mw_tasks.specs.declared.outcome.ItemOutcome.{ItemOutcome}
use Rattle.mw_tasks.specs.declared.outcome.ItemOutcome.TheVariants.{Code, Trap, Bound}
use Rattle.mw_tasks.specs.TaskOutcomes.{IsItemAnswer, IfItsCode, IsCodeOf, HasKind}
use Rattle.mw_tasks.specs.RightRuns.{AreRightRuns, unloaded_price}
use Rattle.mw_tasks.specs.Phases.{Answers, IfBuilt, IsOutcomeOf, IsDone, IsDoneAt, IsTask, is_unloaded}

-- the code of a kernel item may be run at the item's type
pub code_runs : (p : PureProgram) (number : ℕ) (k : KernelType) (o : Evaluated) (c : Term) → IsTask p number
    → HasKind p number k
    → IfItsCode o (IsCodeOf p number) → o ≡ evaluated.Code c → IsRunnable (expression_of c) k
code_runs p number k o c task kind typed is =
    let is_code = subst (λ o. IfItsCode o (IsCodeOf p number)) is typed k kind.0 kind.1 in
    record { typed = is_code.0; limits = is_code.1; nodes = task.kernels number k kind.0 kind.1 }

-- the outcome with its module answers as the outcome without it
code_answers : (c : Term) (got : Got) (a : Outcome Expression) → IsItemAnswer (evaluated.Code c) a
    → Answers (Code c got) a
code_answers c got (came_to d) h = h
code_answers c got (trapped u) h = absurd h
code_answers c got (bounded b) h = absurd h
code_answers c got stuck h = absurd h

trap_answers : (t : TrapKind) (a : Outcome Expression) → IsItemAnswer (evaluated.Trap t) a → Answers (Trap t) a
trap_answers t (came_to d) h = absurd h
trap_answers t (trapped u) h = h
trap_answers t (bounded b) h = absurd h
trap_answers t stuck h = absurd h

bound_answers : (l : Limit) (a : Outcome Expression) → IsItemAnswer (evaluated.Bound l) a → Answers (Bound l) a
bound_answers l (came_to d) h = absurd h
bound_answers l (trapped u) h = absurd h
bound_answers l (bounded b) h = h
bound_answers l stuck h = absurd h

-- a text costs at most one emission
chosen_most : (b : Bool) (n : ℕ) → n ≤ 1 → (if b then 0 else n) ≤ 1
chosen_most true n h = omega arith
chosen_most false n h = h

price_most : (hinted : List (List ℕ)) (text : List ℕ) → price_beside hinted text ≤ 1
price_most [] text = omega arith
price_most (x ∷ hinted) text = chosen_most (bytes_eq x text) (price_beside hinted text) (price_most hinted text)

-- where it was loaded, none
loaded_free : (ls : List LoadedRecord) (text : List ℕ) (at : ℕ) (l : LoadedRecord) → slice_get ls at ≡ Some l
    → l.text ≡ text
    → price_beside (map (λ (l : LoadedRecord). l.text) ls) text ≡ 0
loaded_free [] text at l here is = absurd (none-some l here)
loaded_free (x ∷ ls) text zero l here is =
    let same : bytes_eq x.text text ≡ true =
    (bytes_eq-Decides x.text text).1 (ap (λ (l : LoadedRecord). l.text) (same_Some x l here) ∙ is) in
    rw same refl
loaded_free (x ∷ ls) text (suc at) l here is = elim (cases_Bool (bytes_eq x.text text)) [
  | inl same ↦ rw same refl
  | inr other ↦ rw other (loaded_free ls text at l here is)
]

got_price : (load : LoadState) (text : List ℕ) (c : Term) (got : Got) → (IsLoadedGot got → IsLoadedText load text)
    → price_beside (loaded_texts load) text ≤ is_unloaded (Code c got)
got_price load text c (Loaded at) f =
    let l = f tt in
    let free = loaded_free load.records text l.0 l.1 l.2 l.3 in
    omega (arith, free)
got_price load text c (Stored r) f = price_most (loaded_texts load) text
got_price load text c (Own n) f = price_most (loaded_texts load) text

-- At first nothing is kept, nothing was counted and no answer was bad, and there are no hints but the loaded texts.
pub record IsFirst (first : Standing) : Type 0 where
  pub unhinted : first.cache.hinted ≡ loaded_texts first.cache.cache.load
  pub none : first.stored ≡ []
  pub uncounted : first.emitted ≡ 0
  pub unspent : first.steps ≡ 0
  pub unasked : first.asked ≡ []

-- After the evaluation all receipts are of the table, and no more emissions are counted than steps were spent. Where
-- the receipts are whole, all that was asked for is received.
module _ {first next : Standing} (f : IsFirst first) (follows : Follows first next) where
  all_of_table : All (IsOf first.cache.cache.cells) next.stored
  all_of_table = follows.stored (subst (All (IsOf first.cache.cache.cells)) (sym f.none)
      (λ k d less. absurd (omega arith)))

  all_asked : next.whole ≡ true → AreAllReceived next.stored next.asked
  all_asked whole =
      let since = (follows.received whole).1 in
      subst (AreAllReceived next.stored)
      (sym (since.1 ∙ ap (λ (gots : List Got). gots ++ since.0) f.unasked)) since.2

  counted_by : (n : ℕ) → next.steps ≤ first.steps + n → next.emitted ≤ n
  counted_by n spent =
      let start = f.unspent in
      let none = f.uncounted in
      let count : next.emitted ≤ 0 + next.steps = follows.counted 0 (omega (arith, none)) in
      omega (arith, start, spent, count)

-- where the module is of what is run of code in the mode, and what it cost to ask for it
pub record IsObtained (mode : Mode) (cache : HintedState) (c : Expression) (k : KernelType) (got : Got)
    (before after : ℕ) : Type 0 where
  pub price : after ≤ before + price_in cache mode c k
  pub text : IsTextOf (text_in cache.cache got) Two (in_mode mode c) k
  pub loaded : IsLoadedGot got ↔ IsLoadedText cache.cache.load (canonical_text Two (in_mode mode c) k)
  pub here : IsHere cache.cache got
  pub answered : IsAnswered cache.cache got

module _ (p : PureProgram) (fuel number : ℕ) (first : Standing) where
  abbrev names : List Value
  names = names_of_items p.items

  abbrev term : Expression
  term = term_of p (item number)

  abbrev AreRight : Type 0
  AreRight = AreRightRuns first.mode first.cache.cache.load (runs first.mode names fuel term)

  abbrev most : ℕ
  most = prices (unloaded_price first.mode first.cache.cache.load) (runs first.mode names fuel term)

  abbrev Done_at : Done → Type 0
  Done_at done = IsDoneAt first.mode p fuel first.cache.cache number done

  -- what is so for the item's term
  of_term : (done : Done)
      → ((k : KernelType) (e : Expression) → slice_get p.items number ≡ Some (kernel k e)
      → IsDone first.mode names fuel first.cache.cache k term done)
      → Done_at done
  of_term done h k e here =
      subst (λ e. IsDone first.mode names fuel first.cache.cache k e done) (ap defined here) (h k e here)

  module _ {next : Standing} (f : IsFirst first) (follows : Follows first next) (o : Evaluated)
      (answer : AreRight → IsItemAnswer o (item_outcome first.mode names fuel term))
      (spent : AreRight → next.steps ≤ first.steps + most) where
    pub trap_finished : (t : TrapKind) → o ≡ evaluated.Trap t → next.whole ≡ true
        → Done_at record { outcome = Trap t; stored = next.stored; emitted = next.emitted; asked = next.asked }
    trap_finished t is whole = of_term _ (λ k e here. record {
      outcome = record {
        means = λ right. trap_answers t (item_outcome first.mode names fuel term)
            (subst (λ o. IsItemAnswer o (item_outcome first.mode names fuel term)) is (answer right));
        placed = tt;
      };
      stored = all_of_table f follows;
      received = tt;
      asked = all_asked f follows whole;
      emitted = λ right. let less = counted_by f follows most (spent right) in omega (arith, less);
    })

    pub bound_finished : (l : Limit) → o ≡ evaluated.Bound l → next.whole ≡ true
        → Done_at record { outcome = Bound l; stored = next.stored; emitted = next.emitted; asked = next.asked }
    bound_finished l is whole = of_term _ (λ k e here. record {
      outcome = record {
        means = λ right. bound_answers l (item_outcome first.mode names fuel term)
            (subst (λ o. IsItemAnswer o (item_outcome first.mode names fuel term)) is (answer right));
        placed = tt;
      };
      stored = all_of_table f follows;
      received = tt;
      asked = all_asked f follows whole;
      emitted = λ right. let less = counted_by f follows most (spent right) in omega (arith, less);
    })

    -- with code its module is asked for
    module _ {last : Standing} (after : Follows next last) (c : Term) (got : Got) (kind : KernelType)
        (of_kind : HasKind p number kind) (is : o ≡ evaluated.Code c) (typed : IfItsCode o (IsCodeOf p number))
        (obtained : IsObtained next.mode next.cache (expression_of c) kind got next.steps last.steps)
        (received : IsReceived last.stored got) (whole : last.whole ≡ true) where
      own : (k : KernelType) (e : Expression) → slice_get p.items number ≡ Some (kernel k e)
          → IsObtained first.mode first.cache (expression_of c) k got next.steps last.steps
      own k e here =
          let one : Some (kernel kind of_kind.0) ≡ Some (kernel k e) = sym of_kind.1 ∙ here in
          let same : kind ≡ k = cc in
          subst (λ k. IsObtained first.mode first.cache (expression_of c) k got next.steps last.steps) same
          (subst (λ x. IsObtained first.mode x (expression_of c) kind got next.steps last.steps) follows.cache_is
          (subst (λ m. IsObtained m next.cache (expression_of c) kind got next.steps last.steps) follows.mode_is
          obtained))

      whole_follows : Follows first last
      whole_follows = follows_through first next last follows after

      counted : (k : KernelType) → IsObtained first.mode first.cache (expression_of c) k got next.steps last.steps
          → AreRight → last.emitted ≤ most + is_unloaded (Code c got)
      counted k x right =
          let text = canonical_text Two (in_mode first.mode (expression_of c)) k in
          let before = spent right in
          let one = subst (λ texts. last.steps ≤ next.steps + price_beside texts text) f.unhinted x.price in
          let price = got_price first.cache.cache.load text c got x.loaded.0 in
          counted_by f whole_follows (most + is_unloaded (Code c got)) (omega (arith, before, one, price))

      pub code_finished : Done_at
          record { outcome = Code c got; stored = last.stored; emitted = last.emitted; asked = last.asked }
      code_finished = of_term _ (λ k e here.
          let code = subst (λ o. IfItsCode o (IsCodeOf p number)) is typed k e here in
          let x = own k e here in
          record {
            outcome = record {
              means = λ right. code_answers c got (item_outcome first.mode names fuel term)
                  (subst (λ o. IsItemAnswer o (item_outcome first.mode names fuel term)) is (answer right));
              placed = record {
                typed = code.0;
                limits = code.1;
                text = x.text;
                loaded = subst (λ t. IsLoadedGot got ↔ IsLoadedText first.cache.cache.load t)
                    (sym x.text.text) x.loaded;
                here = x.here;
                answered = x.answered;
              };
            };
            stored = all_of_table f whole_follows;
            received = received;
            asked = all_asked f whole_follows whole;
            emitted = λ right. counted k x right;
          })

-- what is of the same parts
done_same : (mode : Mode) (names : List Value) (fuel : ℕ) (cache : CacheState) (k : KernelType) (e : Expression)
    (done same : Done) → done.outcome ≡ same.outcome
    → done.stored ≡ same.stored → done.emitted ≡ same.emitted → done.asked ≡ same.asked
    → IsDone mode names fuel cache k e same
    → IsDone mode names fuel cache k e done
done_same mode names fuel cache k e done same p q r s h = record {
  outcome = subst (IsOutcomeOf mode names fuel cache k e) (sym p) h.outcome;
  stored = subst (All (IsOf cache.cells)) (sym q) h.stored;
  received = subst (λ (o : ItemOutcome). IfBuilt o (λ c got. IsReceived done.stored got)) (sym p)
      (subst (λ (rs : List (Known Emitted)). IfBuilt same.outcome (λ c got. IsReceived rs got)) (sym q) h.received);
  emitted = rw (r, p) h.emitted;
  asked = subst (AreAllReceived done.stored) (sym s)
      (subst (λ (rs : List (Known Emitted)). AreAllReceived rs same.asked) (sym q) h.asked);
}

-- what was left is the work's output
pub left_done : (p : PureProgram) (fuel number : ℕ) (own mode : Mode) (seen cache : CacheState) (done same : Done)
    → own ≡ mode → seen ≡ cache
    → done.outcome ≡ same.outcome → done.stored ≡ same.stored → done.emitted ≡ same.emitted
    → done.asked ≡ same.asked
    → IsDoneAt own p fuel seen number same
    → IsDoneAt mode p fuel cache number done
left_done p fuel number own mode seen cache done same q r o s n a h k e here =
    done_same mode (names_of_items p.items) fuel cache k e done same o s n a
    (subst (λ m. IsDone m (names_of_items p.items) fuel cache k e same) q
    (subst (λ x. IsDone own (names_of_items p.items) fuel x k e same) r (h k e here)))

-- what holds of what was lent holds of what is given back
pub given_back : {A B : Type 0} (P : A → B → Type 0) (x lent : A) (y shared : B) → x ≡ lent → y ≡ shared
    → P lent shared → P x y
given_back P x lent y shared p q h = subst (λ a. P a y) (sym p) (subst (λ b. P lent b) (sym q) h)
