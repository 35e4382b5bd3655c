use Rattle.std.proofs.Common.{◌≡◌, ◌+◌, ◌<◌, ◌∙◌, None, ap, arith, length, subst, sym}
use Rattle.std.specs.Prelude.{IfSome}
use Rattle.std.proofs.lemmas.List.{get_or_default}
use Rattle.uncovered_table.specs.Open.{gain}
use Rattle.uncovered_table.specs.Pairs.{HasPairs}
use Rattle.uncovered_table.proofs.ScoreLemmas.{scores_are}
use Rattle.uncovered_table.proofs.ValueLemmas.{gain_is}
use Rattle.uncovered_table.proofs.table.Uncovered.gains.Goals as goal

pub put_pair_counts-requires-clause-pairs : goal.put_pair_counts-requires-clause-pairs
put_pair_counts-requires-clause-pairs c =
    let v = c.self.inside.sets in
    let columns = c.self.inside.pairs.items in
    let inside = subst (λ table. c.args.column < length table.model.params) (sym c.self.view_is) c.requires.column in
    let read = c.index-kept.ensures
    ∙ get_or_default columns c.args.column c.index-kept.result.now None (omega (arith, inside, c.self.invariant.kept.many)) in
    subst (λ o. IfSome o (HasPairs v.model v.slice c.self.inside.bits c.args.column)) (sym read ∙ c.in-Some.is)
    (c.self.invariant.kept.each c.args.column inside)

pub returns-in-Some : goal.returns-in-Some
returns-in-Some c =
    let v = c.self.inside.sets in
    let bits = c.self.inside.bits in
    let cells = c.args.cells.now in
    scores_are (gain c.args.self.now cells c.args.column) c.args.from (length c.args.scores.now) c.put_pair_counts.new.scores c.put_pair_counts.ensures.long
    (λ i within. c.put_pair_counts.ensures.each i within
    ∙ gain_is v.model v.slice bits cells c.args.column (c.args.from + i) c.assert_invariant.ensures.kept c.assert_invariant.ensures.own
    (subst (λ table. length cells ≡ length table.model.params) (sym c.self.view_is) c.requires.cells.fits.as_long)
    (subst (λ table. c.args.column < length table.model.params) (sym c.self.view_is) c.requires.column)
    ∙ ap (λ table. gain table cells c.args.column (c.args.from + i)) c.self.view_is)

pub returns-in-None : goal.returns-in-None
returns-in-None c =
    let v = c.self.inside.sets in
    let bits = c.self.inside.bits in
    let cells = c.args.cells.now in
    let long : length c.add_held.new.scores ≡ length c.args.scores.now = c.add_held.ensures.long ∙ c.fill.ensures.len in
    scores_are (gain c.args.self.now cells c.args.column) c.args.from (length c.args.scores.now) c.add_held.new.scores long
    (λ i within. c.add_held.ensures.each i (omega (arith, within, c.fill.ensures.len))
    ∙ gain_is v.model v.slice bits cells c.args.column (c.args.from + i) c.assert_invariant.ensures.kept c.assert_invariant.ensures.own
    (subst (λ table. length cells ≡ length table.model.params) (sym c.self.view_is) c.requires.cells.fits.as_long)
    (subst (λ table. c.args.column < length table.model.params) (sym c.self.view_is) c.requires.column)
    ∙ ap (λ table. gain table cells c.args.column (c.args.from + i)) c.self.view_is)
