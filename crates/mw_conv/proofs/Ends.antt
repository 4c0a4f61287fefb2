-- Lists of what was found, from their ends.
use Rattle.std.proofs.Common.{◌≡◌, List, [], ◌∷◌, ◌++◌, ◌∙◌, sym, append_assoc}
use Rattle.std.proofs.lemmas.List.{append_cancel_right, same_from_push}
use Rattle.mw_conv.specs.declared.found.FoundFunction.{FoundFunction}
use Rattle.mw_conv.specs.Finding.{EndsWith}

pub ends_right : (fs gs hs : List FoundFunction) → EndsWith fs (gs ++ hs) → EndsWith fs hs
ends_right fs gs hs e = record { front = e.front ++ gs; is = e.is ∙ sym (append_assoc e.front gs hs) }

pub ends_left : (fs rest gs hs : List FoundFunction) → EndsWith fs (gs ++ hs) → fs ≡ rest ++ hs → EndsWith rest gs
ends_left fs rest gs hs e f =
    record {
      front = e.front;
      is = append_cancel_right rest (e.front ++ gs) hs
          (sym f ∙ (e.is ∙ sym (append_assoc e.front gs hs)));
    }

-- the last one taken
pub taken_is : (fs rest gs : List FoundFunction) (x y : FoundFunction) → EndsWith fs (gs ++ y ∷ []) → fs ≡ rest ++ x
    ∷ [] → x ≡ y
taken_is fs rest gs x y e f =
    (same_from_push rest (e.front ++ gs) x y (sym f ∙ (e.is ∙ sym (append_assoc e.front gs (y ∷ []))))).1
