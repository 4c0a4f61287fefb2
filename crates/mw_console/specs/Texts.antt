-- The lines of the output.
use Rattle.std.specs.Prelude.{ℕ, Bool, true, false, List, [], ◌++◌, get_or, codes, if◌then◌else◌}
use Rattle.std.specs.Fmt.{signed_decimal, decimal}
use Rattle.hex.specs.Hex.{encode_lower}
use Rattle.mw_term.specs.Terms.{GroundType, KernelType, base, product, of_ground, to, PureGroundValue, int, bool, both}
use Rattle.mw_term.specs.declared.term.Base.{Base}
use Rattle.mw_term.specs.declared.term.Base.TheVariants as word
use Rattle.mw_term.specs.declared.refusal.Refusal.{Refusal}
use Rattle.mw_term.specs.declared.refusal.Refusal.TheVariants.{TooLarge, Char, Number, Name, Syntax, TooDeep, TooMany}
use Rattle.mw_term.specs.declared.refusal.Refusal.TheVariants.{Unbound, Twice, NotValue, Level, IllTyped, TypeTooBig}
use Rattle.mw_term.specs.declared.refusal.Refusal.TheVariants.{NotClosed}
use Rattle.mw_term.specs.declared.value.TrapKind.{TrapKind}
use Rattle.mw_term.specs.declared.value.TrapKind.TheVariants.{Divide, Overflow}
use Rattle.mw_term.specs.declared.value.Limit.{Limit}
use Rattle.mw_term.specs.declared.value.Limit.TheVariants.{Fuel, KernelSize, Heap}
use Rattle.mw_console.specs.declared.status.Status.{Status}
use Rattle.mw_console.specs.declared.status.Status.TheVariants as status

-- how a program ends: with main's value, or in an item, or main, by a trap or a bound
pub data Ending : Type 0 where
  answered : (v : PureGroundValue) → Ending
  trapped : (t : TrapKind) (name : List ℕ) → Ending
  bounded : (l : Limit) (name : List ℕ) → Ending

abbrev pub main_name : List ℕ
main_name = codes "main"

-- kernel types in their words: one space round `*` and `->`, and parentheses only round a pair that is the left part of
-- a pair
abbrev pub base_text : Base → List ℕ
base_text word.Int = codes "int"
base_text word.Bool = codes "bool"

abbrev mutual
  pub ground_text : GroundType → List ℕ
  ground_text (base b) = base_text b
  ground_text (product s t) = left_text s ++ codes " * " ++ ground_text t

  pub left_text : GroundType → List ℕ
  left_text (base b) = base_text b
  left_text (product s t) = codes "(" ++ left_text s ++ codes " * " ++ ground_text t ++ codes ")"

abbrev pub kind_text : KernelType → List ℕ
kind_text (of_ground t) = ground_text t
kind_text (to s t) = ground_text s ++ codes " -> " ++ ground_text t

-- a word and bytes in hexadecimal digits, in a line
abbrev pub digits_line : List ℕ → List ℕ → List ℕ
digits_line word bytes = word ++ encode_lower bytes ++ codes "\n"

-- the three lines of a kernel: its name and type, its key, and its module's bytes
abbrev pub kernel_line : List ℕ → KernelType → List ℕ
kernel_line name kind = codes "kernel " ++ name ++ codes " : " ++ kind_text kind ++ codes "\n"

abbrev pub kernel_text : List ℕ → KernelType → List ℕ → List ℕ → List ℕ
kernel_text name kind key bytes = kernel_line name kind ++ digits_line (codes "key ") key
    ++ digits_line (codes "module ") bytes

-- the name of the item at an index; the index of main is the number of items
abbrev pub name_at : List (List ℕ) → ℕ → List ℕ
name_at names i = get_or names i main_name

-- a refusal's line, where the items have these names
abbrev pub at_line : List ℕ → ℕ → List ℕ
at_line words at = codes "refused " ++ words ++ codes " at " ++ decimal at ++ codes "\n"

-- a line that ends with an item's name
abbrev pub named_line : (first words name : List ℕ) → List ℕ
named_line first words name = first ++ words ++ codes " in " ++ name ++ codes "\n"

abbrev pub in_line : List ℕ → List ℕ → List ℕ
in_line words name = named_line (codes "refused ") words name

-- a refusal that isn't of an item's types as a whole
abbrev pub place_line : Refusal → List ℕ
place_line TooLarge = codes "refused 1 too large\n"
place_line (Char at) = at_line (codes "2 character") at
place_line (Number at) = at_line (codes "3 number") at
place_line (Name at) = at_line (codes "4 name") at
place_line (Syntax at) = at_line (codes "5 syntax") at
place_line (TooDeep at) = at_line (codes "6 too deep") at
place_line TooMany = codes "refused 7 too many items\n"
place_line (Unbound at) = at_line (codes "8 unbound") at
place_line (Twice at) = at_line (codes "9 bound twice") at
place_line (NotValue at) = at_line (codes "10 not a value") at
place_line (Level at) = at_line (codes "11 level") at
place_line (IllTyped item) = []
place_line (TypeTooBig item) = []
place_line (NotClosed at) = at_line (codes "14 not closed") at

abbrev pub refusal_line : List (List ℕ) → Refusal → List ℕ
refusal_line names (IllTyped item) = in_line (codes "12 type") (name_at names item)
refusal_line names (TypeTooBig item) = in_line (codes "13 type too big") (name_at names item)
refusal_line names r = place_line r

-- a decimal number, true or false, or the two parts of a pair
abbrev pub value_text : PureGroundValue → List ℕ
value_text (int n) = signed_decimal n
value_text (bool b) = if b then codes "true" else codes "false"
value_text (both v w) = codes "(" ++ value_text v ++ codes ", " ++ value_text w ++ codes ")"

abbrev pub trap_words : TrapKind → List ℕ
trap_words Divide = codes "divide"
trap_words Overflow = codes "overflow"

abbrev pub limit_words : Limit → List ℕ
limit_words Fuel = codes "fuel"
limit_words KernelSize = codes "kernel size"
limit_words Heap = codes "heap"

-- the two lines of a sample: how many kernels gave code, and the bytes of their modules together
abbrev pub total_line : List ℕ → ℕ → List ℕ
total_line word number = word ++ (decimal number ++ codes "\n")

abbrev pub totals_text : (kernels bytes : ℕ) → List ℕ
totals_text kernels bytes = total_line (codes "kernels ") kernels ++ total_line (codes "modules ") bytes

-- the two lines of a migration: how many texts of the old version there are, and how many records are
-- added for them
abbrev pub migrated_text : (old added : ℕ) → List ℕ
migrated_text old added = total_line (codes "old ") old ++ total_line (codes "added ") added

-- the line that says whether a certificate is one of a source
abbrev pub typing_line : Bool → List ℕ
typing_line true = codes "typed\n"
typing_line false = codes "not typed\n"

-- the last line of the output
abbrev pub ending_line : Ending → List ℕ
ending_line (answered v) = codes "answer " ++ value_text v ++ codes "\n"
ending_line (trapped t name) = codes "trap " ++ trap_words t ++ codes " in " ++ name ++ codes "\n"
ending_line (bounded l name) = codes "bound " ++ limit_words l ++ codes " in " ++ name ++ codes "\n"

-- the status that says how the output ends
abbrev pub ending_status : Ending → Status
ending_status (answered v) = status.Answer
ending_status (trapped t name) = status.Trap t
ending_status (bounded l name) = status.Bound l
