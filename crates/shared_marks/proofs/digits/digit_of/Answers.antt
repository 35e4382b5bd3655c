use Rattle.std.proofs.Common.{◌≡◌, ◌∙◌, ap, arith, length, sym}
use Rattle.cov_model.specs.believed.Meaning.{value_at}
use Rattle.cov_model.specs.believed.Rows.{value_in}
use Rattle.tuple_index.specs.Places.{place_of}
use Rattle.shared_marks.specs.Digits.{is_fixed}
use Rattle.shared_marks.proofs.DigitLemmas.{fixed_digit, own_exists, plain_digit}
use Rattle.shared_marks.proofs.OwnTupleLemmas.{of_valid}
use Rattle.shared_marks.proofs.digits.digit_of.Goals as goal

pub returns-then-is_fixed : goal.returns-then-is_fixed
returns-then-is_fixed c =
    let at = fixed_digit c.args.model.now c.args.cells.now c.args.p (ap (λ s. is_fixed s c.args.p) (sym c.requires.slice) ∙ sym c.is_fixed.ensures ∙ c.if-is_fixed.true) in
    record { place = sym at.0; radix = sym at.1 }

pub positive_digit-requires-clause-value : goal.positive_digit-requires-clause-value
positive_digit-requires-clause-value c =
    let given : c.unwrap_or.result ≡ value_in c.args.cells.now c.args.p = cc in
    let exists = own_exists c.args.model.now c.args.cells.now c.args.p (of_valid c.args.model.now c.args.cells.now c.requires.row) c.requires.param in
    omega (arith, given, exists)

pub positive_digit-requires-clause-sign : goal.positive_digit-requires-clause-sign
positive_digit-requires-clause-sign c =
    let given : c.unwrap_or.result ≡ value_in c.args.cells.now c.args.p = cc in
    let plain = plain_digit c.args.model.now c.args.cells.now c.args.p (of_valid c.args.model.now c.args.cells.now c.requires.row) c.requires.param
    (ap (λ s. is_fixed s c.args.p) (sym c.requires.slice) ∙ sym c.is_fixed.ensures ∙ c.if-is_fixed.false) in
    ap (λ v. (value_at c.args.model.now c.args.p v).negative) given ∙ plain.1

pub returns : goal.returns
returns c =
    let given : c.unwrap_or.result ≡ value_in c.args.cells.now c.args.p = cc in
    let plain = plain_digit c.args.model.now c.args.cells.now c.args.p (of_valid c.args.model.now c.args.cells.now c.requires.row) c.requires.param
    (ap (λ s. is_fixed s c.args.p) (sym c.requires.slice) ∙ sym c.is_fixed.ensures ∙ c.if-is_fixed.false) in
    record {
      place = c.positive_digit.ensures.place ∙ ap (λ vs. place_of vs c.unwrap_or.result) (sym plain.0)
          ∙ ap (place_of _) given;
      radix = c.positive_digit.ensures.radix ∙ ap length (sym plain.0);
    }
