use Rattle.std.proofs.Common.{◌≡◌, ◌<◌, ◌∙◌, ap, length, subst, sym}
use Rattle.uncovered_table.specs.Bits.{sets_in_play}
use Rattle.uncovered_table.specs.Open.{gain}
use Rattle.uncovered_table.proofs.ValueLemmas.{digit_gain, gain_is, no_gain}
use Rattle.uncovered_table.proofs.table.Uncovered.gain.Goals as goal

pub returns-in-Some : goal.returns-in-Some
returns-in-Some c =
    let v = c.self.inside.sets in
    let bits = c.self.inside.bits in
    c.count_held.ensures
    ∙ digit_gain v.model v.slice bits c.args.cells.now c.args.column c.args.value c.in-Some.digit (sets_in_play v.model v.slice c.args.column)
    (sym c.value_digit.ensures ∙ c.in-Some.is)
    ∙ gain_is v.model v.slice bits c.args.cells.now c.args.column c.args.value c.assert_invariant.ensures.kept c.assert_invariant.ensures.own
    (subst (λ table. length c.args.cells.now ≡ length table.model.params) (sym c.self.view_is) c.requires.cells.fits.as_long)
    (subst (λ table. c.args.column < length table.model.params) (sym c.self.view_is) c.requires.column)
    ∙ ap (λ table. gain table c.args.cells.now c.args.column c.args.value) c.self.view_is

pub returns-in-None : goal.returns-in-None
returns-in-None c =
    let v = c.self.inside.sets in
    let bits = c.self.inside.bits in
    no_gain v.model v.slice bits c.args.cells.now c.args.column c.args.value (sets_in_play v.model v.slice c.args.column)
    (sym c.value_digit.ensures ∙ c.in-None.is)
    ∙ gain_is v.model v.slice bits c.args.cells.now c.args.column c.args.value c.assert_invariant.ensures.kept c.assert_invariant.ensures.own
    (subst (λ table. length c.args.cells.now ≡ length table.model.params) (sym c.self.view_is) c.requires.cells.fits.as_long)
    (subst (λ table. c.args.column < length table.model.params) (sym c.self.view_is) c.requires.column)
    ∙ ap (λ table. gain table c.args.cells.now c.args.column c.args.value) c.self.view_is
