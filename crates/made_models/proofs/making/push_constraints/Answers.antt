use Rattle.std.specs.String.{string_bytes}
use Rattle.made_models.proofs.Drawing.{no_constraint, constraint_more, several_counts, sixty_counts}
use Rattle.made_models.proofs.making.push_constraints.Goals as goal

pub loop-number-init : goal.loop-number-init
loop-number-init c = no_constraint c.args.n (string_bytes c.args.text.now) c.args.words.now c.requires.words

pub draw-pair-requires : goal.draw-pair-requires
draw-pair-requires c = record {
  sixty = sixty_counts c.args.n c.args.counts.now c.requires.counts;
  several = several_counts c.args.n c.args.counts.now c.requires.counts;
}

pub loop-number-preserved : goal.loop-number-preserved
loop-number-preserved c =
    constraint_more c.args.n c.loop-number.number c.draw-pair.result (string_bytes c.args.text.now) (string_bytes c.loop-number.text)
    (string_bytes c.push_constraint.new.text) c.args.counts.now c.loop-number.words c.draw-pair.new.words
    c.requires.counts c.loop-number.invariant c.draw-pair.ensures.pair c.draw-pair.ensures.words c.in_ok-push_constraint.ensures
