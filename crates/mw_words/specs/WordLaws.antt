-- What holds of each reading of the words.
use Rattle.std.specs.Prelude.{◌≡◌, ◌↔◌, ℕ, List, ◌∷◌, ◌++◌, codes}
use Rattle.mw_words.specs.Words.{IsOption, PurePart, PureCommand, Makes, Means}

-- words mean one command at most
abbrev pub OneCommand : Type 0
OneCommand = (words : List (List ℕ)) (a b : PureCommand) → Means words a → Means words b → a ≡ b

-- an option has the same value in either form, and the same words follow it
abbrev pub EitherForm : Type 0
EitherForm = (name value v : List ℕ) (rest r : List (List ℕ))
    → (IsOption name (name ∷ value ∷ rest) v r) ↔ (IsOption name ((name ++ codes "=" ++ value) ∷ rest) v r)

-- options and files make the same command in any order
abbrev pub AnyOrder : Type 0
AnyOrder = (word : List ℕ) (before after : List PurePart) (p q : PurePart) (c : PureCommand)
    → (Makes word (before ++ p ∷ q ∷ after) c) ↔ (Makes word (before ++ q ∷ p ∷ after) c)
