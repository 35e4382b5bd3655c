use Rattle.std.proofs.Common.{cond, ◌∙◌, ap, arith}
use Rattle.definitions.specs.believed.Demand.{is_among}
use Rattle.suite_facts.proofs.CurveLemmas.{at_most_one, from_is, kept_then}
use Rattle.suite_facts.proofs.curve.count_places.Goals as goal
use Rattle.value_text.proofs.ListLemmas.{passing-count}

pub loop-place-preserved : goal.loop-place-preserved
loop-place-preserved c =
    let marked = is_among c.args.seat.now.holds.marked in
    let here = c.from-marked.ensures ∙ from_is c.look.result ∙ ap (λ b. cond b 1 0) (c.look.ensures.marked ∙ ap (λ places. is_among places c.loop-place.place) c.loop-place.invariant.kept.marked) in
    record {
      few = omega (arith, c.loop-place.invariant.few, here, at_most_one (marked c.loop-place.place));
      counted = omega (arith, c.loop-place.invariant.counted, here, passing-count marked c.loop-place.place);
      kept = kept_then c.args.seat.now c.loop-place.seat c.look.new.seat c.loop-place.invariant.kept c.look.ensures.kept;
    }
