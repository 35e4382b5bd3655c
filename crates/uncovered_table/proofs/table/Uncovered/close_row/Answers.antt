use Rattle.std.proofs.Common.{◌≡◌, ◌∙◌, ap, length, subst, sym}
use Rattle.std.specs.Prelude.{IfSome}
use Rattle.uncovered_table.specs.Bits.{marked, sets_in_play}
use Rattle.uncovered_table.specs.Digits.{cell_digit, own_values, with_digit}
use Rattle.uncovered_table.specs.Open.{row_closed}
use Rattle.uncovered_table.specs.Pairs.{AreKept}
use Rattle.uncovered_table.specs.Prepared.{AreReady}
use Rattle.uncovered_table.proofs.GainLemmas.{length-all_cleared, row_closed_bits}
use Rattle.uncovered_table.proofs.ReadyLemmas.{ready-all_cleared}
use Rattle.uncovered_table.proofs.ValueLemmas.{cleared_none, cleared_own}
use Rattle.uncovered_table.proofs.table.Uncovered.close_row.Goals as goal

pub invariant_of-self : goal.invariant_of-self
invariant_of-self c =
    let v = c.self.inside.sets in
    record {
      long =
          ap length c.clear_column.ensures.bits
          ∙ length-all_cleared v.model v.slice (with_digit (cell_digit (own_values v.model v.slice) c.args.cells.now) c.args.column c.in-Some.digit)
          c.self.inside.bits (sets_in_play v.model v.slice c.args.column)
          ∙ c.self.invariant.long;
      lines =
          subst (λ bits. IfSome c.self.inside.ready (λ made. AreReady v.model v.slice bits made.column made)) (sym c.clear_column.ensures.bits)
          (ready-all_cleared v.model v.slice (with_digit (cell_digit (own_values v.model v.slice) c.args.cells.now) c.args.column c.in-Some.digit)
          c.self.inside.bits (sets_in_play v.model v.slice c.args.column) c.self.inside.ready c.self.invariant.lines);
      begins_are = c.self.invariant.begins_are;
      kept =
          subst (λ bits. AreKept v.model v.slice bits (length v.model.params) c.clear_column.new.columns.items) (sym c.clear_column.ensures.bits)
          c.clear_column.ensures.kept;
    }

pub returns-in-Some : goal.returns-in-Some
returns-in-Some c =
    let v = c.self.inside.sets in
    let bits = c.self.inside.bits in
    let cells = c.args.cells.now in
    ap (marked v.model v.slice) (c.clear_column.ensures.bits
    ∙ cleared_own v.model v.slice cells bits c.args.column c.in-Some.digit (sets_in_play v.model v.slice c.args.column)
    (sym c.cell_digit.ensures ∙ c.in-Some.is))
    ∙ row_closed_bits v.model v.slice bits cells c.args.column c.assert_invariant.ensures.kept c.assert_invariant.ensures.own
    (subst (λ table. length cells ≡ length table.model.params) (sym c.self.view_is) c.requires.cells.fits.as_long) c.self.invariant.long
    ∙ ap (λ table. row_closed table c.args.column cells) c.self.view_is

pub returns-in-None : goal.returns-in-None
returns-in-None c =
    let v = c.self.inside.sets in
    let bits = c.self.inside.bits in
    let cells = c.args.cells.now in
    sym c.self.view_is ∙ ap (marked v.model v.slice) (cleared_none v.model v.slice (cell_digit (own_values v.model v.slice) cells) bits c.args.column
    (sym c.cell_digit.ensures ∙ c.in-None.is))
    ∙ row_closed_bits v.model v.slice bits cells c.args.column c.assert_invariant.ensures.kept c.assert_invariant.ensures.own
    (subst (λ table. length cells ≡ length table.model.params) (sym c.self.view_is) c.requires.cells.fits.as_long) c.self.invariant.long
    ∙ ap (λ table. row_closed table c.args.column cells) c.self.view_is
