-- The words of types and code as lists, and the canonical text as its words with spaces between them.
use Rattle.std.proofs.Common.{◌≡◌, ℕ, List, [], ◌∷◌, ◌++◌, refl, sym, ◌∙◌, ap, true, false, codes}
use Rattle.std.specs.Fmt.{signed_decimal, decimal}
use Rattle.std.proofs.lemmas.List.{append_assoc, append-nil}
use Rattle.mw_term.specs.Terms.{Expression, GroundType, KernelType, base, product, of_ground, to, num, truth, var}
use Rattle.mw_term.specs.Terms.{fun, fix, app, bind, cond, pair, fst, snd, prim}
use Rattle.mw_key.specs.CanonicalText.{version_word, ground_words, kernel_words, code_words}
use Rattle.mw_key.specs.CanonicalText.{canonical_text}
use Rattle.mw_key.specs.declared.version.Version.{Version}
use Rattle.mw_key.specs.declared.form.Form.TheVariants.{Int, Bool as Truth, Var, WithOne, WithTwo, If}
use Rattle.mw_key.specs.declared.form.OnePart.TheVariants.{Fun, Rec, Fst, Snd}
use Rattle.mw_key.specs.declared.form.TwoParts.TheVariants.{App, Let, Pair, Prim}
use Rattle.mw_key.specs.declared.form.TypeForm.TheVariants.{Base, Pair as PairType, To}
use Rattle.mw_key.specs.Reading.{words}
use Rattle.mw_key.proofs.Words.{spaced, spaced-append, NoSpaces, NoSpaces-append, words_of_bytes, bytes_of_words}
use Rattle.mw_key.proofs.FormWords.{form_word, type_form_word, primitive_name, version_no_space, type_form_no_space}
use Rattle.mw_key.proofs.FormWords.{primitive_is}
use Rattle.mw_key.proofs.NumberWords.{decimal_no_space, signed_no_space}
use Rattle.mw_term.specs.declared.term.Base.TheVariants as b

abbrev pub ground_list : GroundType → List (List ℕ)
ground_list (base t) = type_form_word (Base t) ∷ []
ground_list (product s t) = type_form_word PairType ∷ (ground_list s ++ ground_list t)

abbrev pub kernel_list : KernelType → List (List ℕ)
kernel_list (of_ground t) = ground_list t
kernel_list (to s t) = type_form_word To ∷ (ground_list s ++ ground_list t)

abbrev pub code_list : Expression → List (List ℕ)
code_list (num n) = form_word Int ∷ signed_decimal n ∷ []
code_list (truth t) = form_word (Truth t) ∷ []
code_list (var i) = form_word Var ∷ decimal i ∷ []
code_list (fun e) = form_word (WithOne Fun) ∷ code_list e
code_list (fix e) = form_word (WithOne Rec) ∷ code_list e
code_list (app f a) = form_word (WithTwo App) ∷ (code_list f ++ code_list a)
code_list (bind d e) = form_word (WithTwo Let) ∷ (code_list d ++ code_list e)
code_list (cond c a t) = form_word If ∷ (code_list c ++ (code_list a ++ code_list t))
code_list (pair a t) = form_word (WithTwo Pair) ∷ (code_list a ++ code_list t)
code_list (fst e) = form_word (WithOne Fst) ∷ code_list e
code_list (snd e) = form_word (WithOne Snd) ∷ code_list e
code_list (prim p a t) = form_word (WithTwo (Prim p)) ∷ (code_list a ++ code_list t)
code_list _ = []

-- words after a word
two_spaced : (w x y : List ℕ) (xs ys : List (List ℕ)) → x ≡ spaced xs → y ≡ spaced ys → (32 ∷ w) ++ x ++ y
    ≡ spaced (w ∷ (xs ++ ys))
two_spaced w x y xs ys e f = append_assoc (32 ∷ w) x y ∙ ap (λ bytes. 32 ∷ (w ++ bytes))
    (cc (ap (λ bytes. bytes ++ y) e, ap (λ bytes. spaced xs ++ bytes) f, spaced-append xs ys))

three_spaced : (w x y z : List ℕ) (xs ys zs : List (List ℕ)) → x ≡ spaced xs → y ≡ spaced ys → z ≡ spaced zs
    → (32 ∷ w) ++ x ++ y ++ z ≡ spaced (w ∷ (xs ++ (ys ++ zs)))
three_spaced w x y z xs ys zs e f g =
    ap (λ bytes. bytes ++ z) (two_spaced w x y xs ys e f)
    ∙ ap (λ bytes. (32 ∷ (w ++ spaced (xs ++ ys))) ++ bytes) g
    ∙ sym (spaced-append (w ∷ (xs ++ ys)) zs)
    ∙ ap (λ l. spaced (w ∷ l)) (append_assoc xs ys zs)

ground_spaced : (t : GroundType) → ground_words t ≡ spaced (ground_list t)
ground_spaced (base b.Int) = refl
ground_spaced (base b.Bool) = refl
ground_spaced (product s t) = two_spaced (codes "pair") (ground_words s) (ground_words t) (ground_list s)
    (ground_list t) (ground_spaced s) (ground_spaced t)

kernel_spaced : (k : KernelType) → kernel_words k ≡ spaced (kernel_list k)
kernel_spaced (of_ground t) = ground_spaced t
kernel_spaced (to s t) = two_spaced (codes "to") (ground_words s) (ground_words t) (ground_list s) (ground_list t)
    (ground_spaced s) (ground_spaced t)

number_spaced : (w x : List ℕ) → (32 ∷ w) ++ (32 ∷ x) ≡ spaced (w ∷ x ∷ [])
number_spaced w x = ap (λ bytes. 32 ∷ (w ++ (32 ∷ bytes))) (sym (append-nil x))

code_spaced : (c : Expression) → code_words c ≡ spaced (code_list c)
code_spaced (num n) = number_spaced (codes "i") (signed_decimal n)
code_spaced (truth true) = refl
code_spaced (truth false) = refl
code_spaced (var i) = number_spaced (codes "v") (decimal i)
code_spaced (fun e) = ap (λ bytes. codes " fun" ++ bytes) (code_spaced e)
code_spaced (fix e) = ap (λ bytes. codes " rec" ++ bytes) (code_spaced e)
code_spaced (app f a) = two_spaced (codes "app") (code_words f) (code_words a) (code_list f) (code_list a)
    (code_spaced f) (code_spaced a)
code_spaced (bind d e) = two_spaced (codes "let") (code_words d) (code_words e) (code_list d) (code_list e)
    (code_spaced d) (code_spaced e)
code_spaced (cond c a t) =
    three_spaced (codes "if") (code_words c) (code_words a) (code_words t) (code_list c) (code_list a) (code_list t)
    (code_spaced c) (code_spaced a) (code_spaced t)
code_spaced (pair a t) = two_spaced (codes "pair") (code_words a) (code_words t) (code_list a) (code_list t)
    (code_spaced a) (code_spaced t)
code_spaced (fst e) = ap (λ bytes. codes " fst" ++ bytes) (code_spaced e)
code_spaced (snd e) = ap (λ bytes. codes " snd" ++ bytes) (code_spaced e)
code_spaced (prim p a t) =
    ap (λ w. w ++ code_words a ++ code_words t) (primitive_is p).spaced
    ∙ two_spaced (primitive_name p) (code_words a) (code_words t) (code_list a) (code_list t) (code_spaced a)
    (code_spaced t)
code_spaced _ = refl

-- the text is its words with spaces between them
text_spaced : (v : Version) (c : Expression) (k : KernelType) → canonical_text v c k ≡ version_word v
    ++ spaced (kernel_list k ++ code_list c)
text_spaced v c k =
    append_assoc (version_word v) (kernel_words k) (code_words c)
    ∙ ap (λ bytes. version_word v ++ bytes)
    (cc (
      ap (λ bytes. bytes ++ code_words c) (kernel_spaced k),
      ap (λ bytes. spaced (kernel_list k) ++ bytes)
          (code_spaced c),
      spaced-append (kernel_list k) (code_list c),
    ))

ground_spaceless : (t : GroundType) → NoSpaces (ground_list t)
ground_spaceless (base t) = (type_form_no_space (Base t), tt)
ground_spaceless (product s t) =
    (refl, NoSpaces-append (ground_list s) (ground_list t) (ground_spaceless s) (ground_spaceless t))

kernel_spaceless : (k : KernelType) → NoSpaces (kernel_list k)
kernel_spaceless (of_ground t) = ground_spaceless t
kernel_spaceless (to s t) =
    (refl, NoSpaces-append (ground_list s) (ground_list t) (ground_spaceless s) (ground_spaceless t))

code_spaceless : (c : Expression) → NoSpaces (code_list c)
code_spaceless (num n) = (refl, (signed_no_space n, tt))
code_spaceless (truth true) = (refl, tt)
code_spaceless (truth false) = (refl, tt)
code_spaceless (var i) = (refl, (decimal_no_space i, tt))
code_spaceless (fun e) = (refl, code_spaceless e)
code_spaceless (fix e) = (refl, code_spaceless e)
code_spaceless (app f a) = (refl, NoSpaces-append (code_list f) (code_list a) (code_spaceless f) (code_spaceless a))
code_spaceless (bind d e) = (refl, NoSpaces-append (code_list d) (code_list e) (code_spaceless d) (code_spaceless e))
code_spaceless (cond c a t) = (
  refl,
  NoSpaces-append (code_list c) (code_list a ++ code_list t) (code_spaceless c)
      (NoSpaces-append (code_list a) (code_list t) (code_spaceless a) (code_spaceless t)),
)
code_spaceless (pair a t) = (refl, NoSpaces-append (code_list a) (code_list t) (code_spaceless a) (code_spaceless t))
code_spaceless (fst e) = (refl, code_spaceless e)
code_spaceless (snd e) = (refl, code_spaceless e)
code_spaceless (prim p a t) =
    ((primitive_is p).spaceless, NoSpaces-append (code_list a) (code_list t) (code_spaceless a) (code_spaceless t))
code_spaceless _ = tt

-- the words of a text
pub words_of_text : (v : Version) (c : Expression) (k : KernelType) → words (canonical_text v c k) ≡ version_word v
    ∷ (kernel_list k ++ code_list c)
words_of_text v c k = ap words (text_spaced v c k) ∙ words_of_bytes (version_word v) (kernel_list k ++ code_list c)
    (version_no_space v) (NoSpaces-append (kernel_list k) (code_list c) (kernel_spaceless k) (code_spaceless c))

-- bytes with the words of a text are the text
pub text_from_words : (bytes : List ℕ) (v : Version) (c : Expression) (k : KernelType) → words bytes ≡ version_word v
    ∷ (kernel_list k ++ code_list c) → bytes ≡ canonical_text v c k
text_from_words bytes v c k e = bytes_of_words bytes (version_word v) (kernel_list k ++ code_list c) e
    ∙ sym (text_spaced v c k)
