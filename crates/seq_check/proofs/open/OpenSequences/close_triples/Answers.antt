use Rattle.std.proofs.Common.{◌≡◌, ◌∙◌, ◌<◌, ap, arith, length, slice_index}
use Rattle.seq_check.specs.EventSets.{set_count}
use Rattle.seq_check.proofs.OpenLemmas.{closed_more}
use Rattle.seq_check.proofs.open.OpenSequences.close_triples.Goals as goal

pub close_at-requires : goal.close_at-requires
close_at-requires c =
    let many : length c.args.self.now.sets ≡ 4096 = c.assert_invariant.ensures.1 ∙ ap set_count c.requires.len in
    let kept = c.loop-last.invariant.1 in
    omega (arith, many, kept)

pub loop-last-preserved : goal.loop-last-preserved
loop-last-preserved c =
    let places = c.args.places.now in
    let last = c.loop-last.last in
    let higher : slice_index places c.args.event < slice_index places last = omega arith in
    let below : last < length places = omega arith in (
      c.close_at.ensures.len ∙ c.loop-last.invariant.0,
      c.close_at.ensures.long ∙ c.loop-last.invariant.1,
      closed_more places c.args.event last (length places) c.args.firsts c.args.self.now.sets c.loop-last.self.sets c.close_at.new.self.sets c.requires.few below higher
          c.loop-last.invariant.2 c.close_at.ensures.closed,
    )
