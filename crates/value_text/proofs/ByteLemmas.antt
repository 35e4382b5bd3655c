-- The first byte of a text that is a given one, as memchr finds it.
use Rattle.std.proofs.Common.{◌≡◌, ℕ, ◌≤◌, Bool, true, false, cond, List, length, get_or, Option, Some, None, sym, ap, arith}
use Rattle.std.specs.Prelude.{◌==◌, nat_lt}
use Rattle.std.specs.List.{position, position_or_len}
use Rattle.std.proofs.lemmas.Bool.{false_from_ne_true, le-ltb}
use Rattle.std.proofs.lemmas.List.Sums.{position_or_len_is}
use Rattle.memchr.specs.Find.{IsFirstByte, is_byte}
use Rattle.value_text.proofs.ListLemmas.{position_is}

-- what memchr tells is the place of the first such byte
pub first_byte : (mark : ℕ) (text : List ℕ) (found : Option ℕ) → IsFirstByte (is_byte mark) text found → found ≡ position (λ b. b == mark) text
first_byte mark text (Some i) is =
    sym (position_is (λ b. b == mark) text i 0 is.0.high (λ k below. false_from_ne_true (get_or text k 0 == mark) (is.0.before k (omega arith) below)) is.1)
first_byte mark text None nowhere =
    let all : position_or_len (λ b. b == mark) text ≡ length text =
    position_or_len_is (λ b. b == mark) text (length text) 0 (omega arith)
    (λ k below. false_from_ne_true (get_or text k 0 == mark) (nowhere k (omega arith) below)) (λ within. absurd (omega arith)) in
    let past : nat_lt (position_or_len (λ b. b == mark) text) (length text) ≡ false =
    le-ltb (position_or_len (λ b. b == mark) text) (length text) (omega arith) in
    ap (λ b. cond b (Some (position_or_len (λ b. b == mark) text)) None) (sym past)
