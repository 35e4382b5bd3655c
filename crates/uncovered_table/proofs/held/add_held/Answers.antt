use Rattle.std.proofs.Common.{ℕ, ◌+◌, ◌∙◌, ap, arith, get_or, sum_by, sym}
use Rattle.std.proofs.lemmas.List.{get_or_default, take_all}
use Rattle.std.proofs.lemmas.List.Sums.{sum_by_more}
use Rattle.uncovered_table.specs.Bits.{value_held}
use Rattle.uncovered_table.proofs.ReadyLemmas.{left-value}
use Rattle.uncovered_table.proofs.ValueLemmas.{value_most}
use Rattle.uncovered_table.proofs.held.add_held.Goals as goal

pub add_set-requires-clause-low : goal.add_set-requires-clause-low
add_set-requires-clause-low c =
    λ k d within.
    let few = c.loop-k.invariant.few k (omega (arith, within, c.loop-k.invariant.long)) in
    let same = get_or_default c.loop-k.scores k d 0 within in
    omega (arith, same, few, c.loop-k-test.true, c.walked-walked.ensures.few)

pub loop-k-preserved : goal.loop-k-preserved
loop-k-preserved c =
    let v = c.args.sets.now in
    let f : ℕ → ℕ → ℕ = λ i. value_held v.model v.slice c.args.bits.now c.args.cells.now c.args.column (c.args.from + i) in
    let sets = c.walked-walked.result.now in
    let set = get_or sets c.loop-k.k 0 in
    record {
      long = c.add_set.ensures.long ∙ c.loop-k.invariant.long;
      each = λ i within. c.add_set.ensures.each i (omega (arith, within, c.loop-k.invariant.long))
          ∙ ap (λ k. k + f i set) (c.loop-k.invariant.each i within)
          ∙ sym (sum_by_more (f i) sets c.loop-k.k 0 c.loop-k-test.true);
      few = λ i within.
          let more = c.add_set.ensures.each i (omega (arith, within, c.loop-k.invariant.long)) in
          omega (
            arith,
            more,
            c.loop-k.invariant.few i within,
            value_most v.model v.slice c.args.bits.now c.args.cells.now c.args.column
                (c.args.from + i) set,
          );
    }

pub returns-clause-each : goal.returns-clause-each
returns-clause-each c =
    let v = c.args.sets.now in
    let walked = c.walked-walked.result.now in
    λ i within.
    c.loop-k.invariant.each i within
    ∙ ap (sum_by (value_held v.model v.slice c.args.bits.now c.args.cells.now c.args.column (c.args.from + i)))
    (take_all c.loop-k.k walked (omega (arith, c.loop-k-test.false)))
    ∙ left-value v.model v.slice c.args.bits.now c.args.cells.now c.args.column (c.args.from + i) walked c.assert_invariant.ensures.kept
    c.walked-walked.ensures.left
