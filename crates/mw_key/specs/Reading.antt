-- What stands at the front of words, as functions. Each takes the words that are left and how many nodes may come, and
-- finds something and what is left after it, or nothing.
use Rattle.std.specs.Prelude.{◌≡◌, ℕ, zero, suc, ℤ, ◌==◌, List, [], ◌∷◌, Option, Some, None, Result, Ok, Err}
use Rattle.std.specs.Borrow.{Bor}
use Rattle.std.specs.List.{slice_split}
use Rattle.mw_term.specs.Terms.{Expression, GroundType, KernelType, base, product, of_ground, to, num, truth, var, cond}
use Rattle.mw_term.specs.Terms.{kernel_type_of}
use Rattle.mw_term.specs.declared.term.KType.{KType}
use Rattle.mw_key.specs.Forms.{version_of, type_form_of, form_of, under_one, under_two, code_of_one, code_of_two}
use Rattle.mw_key.specs.Numbers.{natural_of, integer_of, below}
use Rattle.mw_key.specs.declared.version.Version.{Version}
use Rattle.mw_key.specs.declared.form.Form.{Form}
use Rattle.mw_key.specs.declared.form.Form.TheVariants.{Int, Bool, Var, WithOne, WithTwo, If}
use Rattle.mw_key.specs.declared.form.TypeForm.{TypeForm}
use Rattle.mw_key.specs.declared.form.TypeForm.TheVariants.{Base, Pair as PairType, To}
use Rattle.mw_key.specs.declared.fault.TextFault.{TextFault}
use Rattle.mw_key.specs.declared.fault.TextFault.TheVariants.{BadText}
use Rattle.mw_key.specs.declared.reader.Reader.{Reader}

-- the words between single spaces
abbrev pub words : List ℕ → List (List ℕ)
words bytes = slice_split (λ b. b == 32) bytes

-- the words that are left of a text, of which there are none after its last word
abbrev pub words_left : Option (Bor (List ℕ)) → List (List ℕ)
words_left None = []
words_left (Some bytes) = words bytes.now

abbrev pub Finding : Type 0 → Type 0
Finding A = Option (A × List (List ℕ) × ℕ)

-- what is found after another thing
abbrev pub then_find : {A B : Type 0} → Finding A → (A → List (List ℕ) → ℕ → Finding B) → Finding B
then_find None next = None
then_find (Some found) next = next found.0 found.1 found.2

-- what is made of the thing that is found
abbrev pub make : {A B : Type 0} → (A → B) → Finding A → Finding B
make f None = None
make f (Some found) = Some (f found.0, found.1, found.2)

-- what a word spells, if it spells something
abbrev pub spelled : {A : Type 0} → Option A → List (List ℕ) → ℕ → Finding A
spelled None ws n = None
spelled (Some a) ws n = Some (a, ws, n)

abbrev pub find_word : List (List ℕ) → ℕ → Finding (List ℕ)
find_word [] n = None
find_word (w ∷ ws) n = Some (w, ws, n)

-- the first word of a node
abbrev pub find_node : List (List ℕ) → ℕ → Finding (List ℕ)
find_node ws zero = None
find_node ws (suc n) = find_word ws n

abbrev pub find_version : List (List ℕ) → ℕ → Finding Version
find_version ws n = then_find (find_word ws n) λ w ws n. spelled (version_of w) ws n

abbrev pub find_type_form : List (List ℕ) → ℕ → Finding TypeForm
find_type_form ws n = then_find (find_node ws n) λ w ws n. spelled (type_form_of w) ws n

abbrev pub find_form : List (List ℕ) → ℕ → Finding Form
find_form ws n = then_find (find_node ws n) λ w ws n. spelled (form_of w) ws n

abbrev pub find_integer : List (List ℕ) → ℕ → Finding ℤ
find_integer ws n = then_find (find_word ws n) λ w ws n. spelled (integer_of w) ws n

abbrev pub find_variable : ℕ → List (List ℕ) → ℕ → Finding ℕ
find_variable binders ws n = then_find (find_word ws n) λ w ws n. spelled (below binders (natural_of w)) ws n

-- a ground type after its first word
abbrev pub ground_parts : (List (List ℕ) → ℕ → Finding GroundType) → TypeForm → List (List ℕ) → ℕ → Finding GroundType
ground_parts part (Base b) ws n = Some (base b, ws, n)
ground_parts part PairType ws n = then_find (part ws n) λ s ws n. make (product s) (part ws n)
ground_parts part To ws n = None

-- a ground type that nests no deeper than this
unfoldable pub find_ground : ℕ → List (List ℕ) → ℕ → Finding GroundType
find_ground zero ws n = None
find_ground (suc depth) ws n = then_find (find_type_form ws n) λ form ws n. ground_parts (find_ground depth) form ws n

-- a kernel type after its first word
abbrev pub kernel_parts : (List (List ℕ) → ℕ → Finding GroundType) → TypeForm → List (List ℕ) → ℕ → Finding KernelType
kernel_parts part To ws n = then_find (part ws n) λ s ws n. make (to s) (part ws n)
kernel_parts part form ws n = make of_ground (ground_parts part form ws n)

abbrev pub find_kernel_type : ℕ → List (List ℕ) → ℕ → Finding KernelType
find_kernel_type depth ws n = then_find (find_type_form ws n) λ form ws n. kernel_parts (find_ground depth) form ws n

-- code of this form after its first word, under this many binders
abbrev pub code_parts : (ℕ → List (List ℕ) → ℕ → Finding Expression) → Form → ℕ → List (List ℕ) → ℕ → Finding Expression
code_parts part Int k ws n = make num (find_integer ws n)
code_parts part (Bool b) k ws n = Some (truth b, ws, n)
code_parts part Var k ws n = make var (find_variable k ws n)
code_parts part (WithOne form) k ws n = make (code_of_one form) (part (under_one form k) ws n)
code_parts part (WithTwo form) k ws n = then_find (part k ws n) λ a ws n. make (code_of_two form a)
    (part (under_two form k) ws n)
code_parts part If k ws n = then_find (part k ws n) λ c ws n. then_find (part k ws n) λ a ws n.
    make (cond c a) (part k ws n)

-- code of at most this depth under this many binders
unfoldable pub find_code : ℕ → ℕ → List (List ℕ) → ℕ → Finding Expression
find_code zero k ws n = None
find_code (suc depth) k ws n = then_find (find_form ws n) λ form ws n. code_parts (find_code depth) form k ws n

-- what is found where nothing is left after it
abbrev pub last : {A : Type 0} → Finding A → Option A
last None = None
last (Some (found, [], n)) = Some found
last (Some (found, w ∷ ws, n)) = None

-- the version, type and code that the words of a text spell
unfoldable pub text_of_words : List (List ℕ) → Option (Version × Expression × KernelType)
text_of_words ws = last (then_find (find_version ws 10000) λ v ws n. then_find (find_kernel_type 10000 ws n) λ k ws n.
    make (λ c. (v, c, k)) (find_code 400 0 ws 20000))

-- what a call that reads a whole text answers: what its words spell, or that they spell nothing
abbrev pub Answers : {T A : Type 0} → (T → A) → Result T TextFault → Option A → Type 0
Answers view (Ok x) spelt = spelt ≡ Some (view x)
Answers view (Err fault) spelt = fault ≡ BadText → spelt ≡ None

-- what a call that reads from words answers: the thing that is found, with what is left after it, or that there is none
abbrev pub Finds : {T A : Type 0} → (T → A) → Result T TextFault → (List (List ℕ) → ℕ → Finding A) → Reader → Reader
    → Type 0
Finds view (Ok x) find old new = find (words_left old.rest) old.nodes ≡ Some (view x, words_left new.rest, new.nodes)
Finds view (Err fault) find old new = fault ≡ BadText → find (words_left old.rest) old.nodes ≡ None

-- what is left after a thing that is found, and how many nodes may still come
abbrev pub past : {A : Type 0} → Finding A → Option (List (List ℕ) × ℕ)
past None = None
past (Some found) = Some (found.1, found.2)

-- what a call that passes over words answers: what is left after a thing that is found, or that there is none
abbrev pub Passes : {A : Type 0} → Result (Unit {0}) TextFault → (List (List ℕ) → ℕ → Finding A) → Reader → Reader
    → Type 0
Passes (Ok x) find old new = past (find (words_left old.rest) old.nodes) ≡ Some (words_left new.rest, new.nodes)
Passes (Err fault) find old new = fault ≡ BadText → past (find (words_left old.rest) old.nodes) ≡ None

-- what a call that reads a whole text for its type answers
abbrev pub AnswersType : Result KType TextFault → Option (Version × Expression × KernelType) → Type 0
AnswersType (Ok kind) spelt = (v : Version) × (c : Expression) × (spelt ≡ Some (v, c, kernel_type_of kind))
AnswersType (Err fault) spelt = fault ≡ BadText → spelt ≡ None
