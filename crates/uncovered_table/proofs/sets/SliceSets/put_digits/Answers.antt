use Rattle.std.proofs.Common.{◌≡◌, ◌∙◌, ◌<◌, ◌+◌, ℕ, Option, Some, None, length, refl, ap, sym, subst, arith}
use Rattle.std.specs.Prelude.{option_and_then}
use Rattle.std.proofs.lemmas.List.{get_or_past}
use Rattle.uncovered_table.specs.Digits.{cell_digit, digit_of, own_values}
use Rattle.uncovered_table.proofs.DigitLemmas.{cell_digits}
use Rattle.uncovered_table.proofs.PartLemmas.{own_few}
use Rattle.uncovered_table.proofs.PreparedLemmas.{PutTo, put-all, put-none, put-some}
use Rattle.uncovered_table.proofs.sets.SliceSets.put_digits.Goals as goal
use Rattle.uncovered_table.proofs.sets.SliceSets.put_digits.Goals.{in-Some, in_default}

empty : (o : Option ℕ) → ((d : ℕ) → o ≡ Some d → ⊥) → o ≡ None
empty None other = refl
empty (Some d) other = absurd (other d refl)

pub loop-p-preserved : goal.loop-p-preserved
loop-p-preserved c =
    let v = c.args.self.now in
    let values = own_values v.model v.slice in
    let digits = cell_digit values c.args.cells.now in
    let inside : c.loop-p.p < length v.model.params = omega (arith, c.requires.cells.fits.as_long) in
    elim c.match-cell_digit.branch [
      | in-Some w ↦
          let is : digits c.loop-p.p ≡ Some w.in-Some.digit = sym c.cell_digit.ensures ∙ w.in-Some.is in
          let less = cell_digits values c.args.cells.now c.loop-p.p w.in-Some.digit is in
          let few = own_few v.model v.slice c.loop-p.p c.assert_invariant.ensures.sound c.assert_invariant.ensures.own inside in
          subst (λ into. PutTo digits c.args.into.now into (c.loop-p.p + 1)) (sym w.into-is)
          (put-some digits c.args.into.now c.loop-p.into c.loop-p.p w.in-Some.digit (omega (arith, inside, c.requires.room)) c.loop-p.invariant is (omega (arith, less, few)))
      | in_default w ↦
          subst (λ into. PutTo digits c.args.into.now into (c.loop-p.p + 1)) (sym w.into-is)
          (put-none digits c.args.into.now c.loop-p.into c.loop-p.p c.loop-p.invariant (sym c.cell_digit.ensures ∙ empty c.cell_digit.result w.in_default.not-Some))
    ]

pub returns-clause-value : goal.returns-clause-value
returns-clause-value c =
    let v = c.args.self.now in
    let values = own_values v.model v.slice in
    put-all (cell_digit values c.args.cells.now) c.args.into.now c.loop-p.into c.loop-p.p c.loop-p.invariant
    (λ q least. ap (option_and_then (digit_of (values q))) (get_or_past c.args.cells.now q None (omega (arith, least, c.requires.cells.fits.as_long))))
