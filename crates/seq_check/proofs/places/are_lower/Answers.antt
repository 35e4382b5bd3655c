use Rattle.std.proofs.Common.{sym}
use Rattle.std.proofs.lemmas.Bool.{le-ltb}
use Rattle.std.proofs.lemmas.List.Folds.{list_all_at}
use Rattle.seq_check.specs.EventSets.{is_lower}
use Rattle.seq_check.proofs.places.are_lower.Goals as goal

pub returns-then-places-pair : goal.returns-then-places-pair
returns-then-places-pair c =
    sym (list_all_at (is_lower c.args.places.now) c.args.pairs.now c.loop-pair.pair-index (0, 0) c.loop-pair-test.true (le-ltb _ _ c.if-places-pair.true))
