use Rattle.std.proofs.Common.{◌∙◌, sym}
use Rattle.value_text.proofs.NumberLemmas.{decimal_with_point, decimal_without_point}
use Rattle.value_text.proofs.fixed.decimal_parts.Goals as goal
use Rattle.value_text.proofs.fixed.decimal_parts.Goals.{else-is_digits-via-then-is_digits+else-is_digits-2, else-is_digits-via-else-is_digits}

pub returns-else-is_digits-clause-decimal : goal.returns-else-is_digits-clause-decimal
returns-else-is_digits-clause-decimal c =
    let parts = decimal_with_point c.args.text.now c.without_sign-unsigned.result.now c.in-Some.at c.without_sign-unsigned.ensures (sym c.in-Some.is ∙ c.point_of.ensures) in
    elim c.else-is_digits.branch [
      | else-is_digits-via-then-is_digits+else-is_digits-2 w ↦ sym (parts ∙ rw (← c.is_digits.ensures, w.if-is_digits.true, ← w.is_digits-then-is_digits.ensures) w.if-is_digits-2.false)
      | else-is_digits-via-else-is_digits w ↦ sym (parts ∙ rw (← c.is_digits.ensures, w.if-is_digits.false))
    ]

pub returns-then-is_digits-3-clause-decimal : goal.returns-then-is_digits-3-clause-decimal
returns-then-is_digits-3-clause-decimal c =
    let whole = decimal_without_point c.args.text.now c.without_sign-unsigned.result.now c.without_sign-unsigned.ensures (sym c.in-None.is ∙ c.point_of.ensures) in
    cc
