-- From the tokens or the fault that were found to what the answer says.
use Rattle.std.proofs.Common.{◌≡◌, ℕ, suc, ◌+◌, ◌<◌, ◌≤◌, List, [], ◌∷◌, length, refl, subst, arith, Result, Ok, Err}
use Rattle.std.specs.Prelude.{IfOk, IfErr}
use Rattle.mw_term.specs.declared.refusal.Refusal.{Refusal}
use Rattle.mw_term.specs.declared.refusal.Refusal.TheVariants.{TooLarge}
use Rattle.mw_term.specs.declared.refusal.Stop.{Stop}
use Rattle.mw_term.specs.declared.refusal.Stop.TheVariants.{Refused, Memory}
use Rattle.mw_lex.specs.declared.token.Token.{Token}
use Rattle.mw_lex.specs.Texts.{IsText}
use Rattle.mw_lex.specs.Tokens.{PureToken, token, tokens_of}
use Rattle.mw_lex.specs.InOrder.{AreFrom, AreInOrder}
use Rattle.mw_lex.specs.Reading.{Reads, so_far, behind_blank, behind_comment, behind_token, AreTokens, IsFault}
use Rattle.mw_lex.specs.Reading.{no_token, in_comment, no_number, long_name, IsFirstFault}
use Rattle.mw_term.specs.Stops.{AnswersOrMemory, IfRefused, IsRefusalOrMemory}
use Rattle.mw_lex.proofs.Tables.{text_nil}
use Rattle.mw_lex.proofs.OneAnswer.{one_list, one_first_fault, tokens_or_fault}

-- tokens stand in order
lower : (from at : ℕ) (tokens : List PureToken) (stop : ℕ) → from ≤ at → AreFrom at tokens stop
    → AreFrom from tokens stop
lower from at [] stop p h = omega (arith, p, h)
lower from at (token start end s ∷ tokens) stop p h = (omega (arith, p, h.0), h.1, h.2)

text_length : (text : List ℕ) → IsText text → 0 < length text
text_length [] t = absurd (text_nil t)
text_length (b ∷ text) t = omega arith

in_order_from : {at stop : ℕ} {bytes rest : List ℕ} {tokens : List PureToken} → Reads at bytes tokens stop rest
    → AreFrom at tokens stop
in_order_from so_far = omega arith
in_order_from {at = at} {stop = stop} {tokens = tokens} (behind_blank v h) = lower at (suc at) tokens stop (omega arith)
    (in_order_from h)
in_order_from {at = at} {stop = stop} {tokens = tokens} (behind_comment body after e a f h) =
    lower at (at + suc (length body)) tokens stop (omega arith) (in_order_from h)
in_order_from {at = at} (behind_token text after e l s h) =
    (omega arith, omega (arith, text_length text l.0), in_order_from h)

pub in_order : (bytes : List ℕ) (tokens : List PureToken) → AreTokens bytes tokens → AreInOrder tokens (length bytes)
in_order bytes tokens h = in_order_from h.reads

-- the first fault is none of size
large_fault : {tokens : List PureToken} {at : ℕ} {bytes : List ℕ} {r : Refusal} → IsFault tokens at bytes r
    → r ≡ TooLarge → ⊥
large_fault (no_token v h n) e = absurd (cc)
large_fault (in_comment body rest f a n) e = absurd (cc)
large_fault (no_number text rest f n l m) e = absurd (cc)
large_fault (long_name text rest f w l p) e = absurd (cc)

module _ (bytes : List ℕ) where
  pub only_tokens : (result : Result (List Token) Stop) → IfOk result (λ v. AreTokens bytes (tokens_of v))
      → IfErr result (IfRefused (IsFirstFault bytes)) → (tokens : List PureToken) → AreTokens bytes tokens
      → AnswersOrMemory (λ v. tokens_of v ≡ tokens) result
  only_tokens (Ok v) h k tokens a = one_list bytes (tokens_of v) tokens h a
  only_tokens (Err (Refused r)) h k tokens a = tokens_or_fault bytes tokens r a k
  only_tokens (Err (Memory e)) h k tokens a = tt

  pub only_fault : (result : Result (List Token) Stop) → IfOk result (λ v. AreTokens bytes (tokens_of v))
      → IfErr result (IfRefused (IsFirstFault bytes)) → (r : Refusal) → IsFirstFault bytes r
      → IsRefusalOrMemory result r
  only_fault (Ok v) h k r a = tokens_or_fault bytes (tokens_of v) r h a
  only_fault (Err (Refused q)) h k r a = one_first_fault bytes q r k a
  only_fault (Err (Memory e)) h k r a = tt

  pub says : (result : Result (List Token) Stop) → IfErr result (IfRefused (IsFirstFault bytes)) → (r : Refusal)
      → result ≡ Err (Refused r) → IsFirstFault bytes r
  says result k r e = subst (λ x. IfErr x (IfRefused (IsFirstFault bytes))) e k

  pub not_large : (result : Result (List Token) Stop) → IfErr result (IfRefused (IsFirstFault bytes))
      → result ≡ Err (Refused TooLarge) → ⊥
  not_large result k e = let f = says result k TooLarge e in large_fault f.fault refl
