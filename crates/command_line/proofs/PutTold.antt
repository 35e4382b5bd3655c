-- Three texts on a sink, one behind another.
use Rattle.std.proofs.Common.{ℕ, List, ◌++◌}
use Rattle.outside_io.specs.declared.answers.WriteAnswer.{WriteAnswer}
use Rattle.outside_io.specs.declared.answers.WriteAnswer.TheVariants.{Done, Failed}
use Rattle.outside_io.specs.believed.Seen.{SinkSeen}
use Rattle.outside_io.specs.believed.Puts.{Puts}
use Rattle.outside_io.proofs.PutsLaws.{Puts-then, Puts-stopped}

pub Puts-three : (r : WriteAnswer) (before middle last after : SinkSeen) (x y z : List ℕ)
    → Puts Done before middle x → Puts Done middle last y → Puts r last after z → Puts r before after (x ++ (y ++ z))
Puts-three r before middle last after x y z first second third =
    Puts-then r before middle after x (y ++ z) first (Puts-then r middle last after y z second third)

pub Puts-second : (before middle after : SinkSeen) (x y z : List ℕ) → Puts Done before middle x → Puts Failed middle after y
    → Puts Failed before after (x ++ (y ++ z))
Puts-second before middle after x y z first second = Puts-then Failed before middle after x (y ++ z) first (Puts-stopped middle after y z second)
