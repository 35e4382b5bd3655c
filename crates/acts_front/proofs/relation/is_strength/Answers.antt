use Rattle.std.proofs.Common.{◌≡◌, ℕ, ◌<◌, List, Bool, true, false, arith, refl}
use Rattle.std.proofs.lemmas.Bool.{and_parts}
use Rattle.std.proofs.lemmas.Bool.Decides.{nat_tests}
use Rattle.std.proofs.lemmas.List.Elements.{All-weaker}
use Rattle.std.proofs.lemmas.List.Sums.{AllPass-from_list_all}
use Rattle.std.proofs.lemmas.Str.{IsUtf8-from_ascii}
use Rattle.std.proofs.lemmas.Str.Ascii.{IsAscii-from_all}
use Rattle.std.specs.Char.{is_ascii_digit}
use Rattle.std.specs.Prelude.{is_some}
use Rattle.std.specs.Str.{IsUtf8}
use Rattle.value_text.specs.believed.Numbers.{count_of, is_digits}
use Rattle.acts_front.proofs.relation.is_strength.Goals as goal

digit_byte : (b : ℕ) → is_ascii_digit b ≡ true → b < 128
digit_byte b is = grind (arith, nat_tests)

digits_utf8 : (text : List ℕ) → is_digits text ≡ true → IsUtf8 text
digits_utf8 text are =
    IsUtf8-from_ascii text (IsAscii-from_all text (All-weaker (λ b. is_ascii_digit b ≡ true) (λ b. b < 128) digit_byte text (AllPass-from_list_all is_ascii_digit text (and_parts _ _ are).1)))

no_count : (text : List ℕ) (least most : ℕ) → (IsUtf8 text → ⊥) → false ≡ is_some (count_of text least most)
no_count text least most bad = at (is_digits text) refl
  where
    at : (are : Bool) → is_digits text ≡ are → false ≡ is_some (count_of text least most)
    at true e = absurd (bad (digits_utf8 text e))
    at false e = rw e refl

pub returns-in-Err : goal.returns-in-Err
returns-in-Err c = no_count c.args.digits.now 1 c.args.count c.in-Err.ensures.cases.0
