use Rattle.std.proofs.Common.{◌∙◌, sym, rules}
use Rattle.value_text.proofs.LikeLemmas.{ends_whole, ends_short, next_star}
use Rattle.value_text.specs.believed.Like.{folded_chars}
use Rattle.value_text.proofs.pattern.like.Goals as goal

pub returns-in-Whole : goal.returns-in-Whole
returns-in-Whole c =
    sym (c.loop-behind.invariant.left ∙ ends_whole c.loop-behind.after_star (folded_chars c.args.fold c.loop-behind.part.now) (folded_chars c.args.fold c.loop-behind.start.now) c.in-Whole.ensures)

pub returns-in-TextEnds : goal.returns-in-TextEnds
returns-in-TextEnds c =
    sym (c.loop-behind.invariant.left ∙ ends_short c.loop-behind.after_star (folded_chars c.args.fold c.loop-behind.part.now)
    (folded_chars c.args.fold c.loop-behind.start.now) c.in-TextEnds.ensures)

pub loop-behind-preserved-in-Star : goal.loop-behind-preserved-in-Star
loop-behind-preserved-in-Star c = record {
  part_text = search rules;
  start_text = search rules;
  left = c.loop-behind.invariant.left ∙ next_star c.loop-behind.after_star (folded_chars c.args.fold c.loop-behind.part.now)
      (folded_chars c.args.fold c.loop-behind.start.now) (folded_chars c.args.fold c.in-Star.behind.now) (folded_chars c.args.fold c.in-Star.rest.now) c.in-Star.ensures.0;
}
