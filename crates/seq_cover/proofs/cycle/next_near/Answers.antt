use Rattle.std.proofs.Common.{◌∙◌, ◌&&◌, ap}
use Rattle.seq_check.specs.EventSets.{in_set}
use Rattle.seq_check.specs.believed.Orders.{is_arrow}
use Rattle.seq_cover.proofs.WayLemmas.{first_near}
use Rattle.seq_cover.proofs.cycle.next_near.Goals as goal

pub returns-clause-value : goal.returns-clause-value
returns-clause-value c = λ n pairs test few of holds.
    first_near n pairs test c.args.event (in_set c.common.result) few
    (λ b below. c.common.ensures b ∙ ap (λ t. t && in_set c.args.near b) (c.ends.ensures b ∙ of c.args.event b) ∙ ap (λ t. is_arrow pairs (c.args.event, b) && t) (holds b below))
    c.first.result c.first.ensures.none c.first.ensures.some
