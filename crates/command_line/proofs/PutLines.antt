-- The line of a question above the budget, in its three parts.
use Rattle.std.proofs.Common.{◌≡◌, ℕ, List, ◌++◌, sym, subst, append_assoc}
use Rattle.std.specs.Prelude.{codes}
use Rattle.definitions.specs.believed.Diagnostics.{spent_line}
use Rattle.definitions.specs.believed.Pairs.{pairs_text}
use Rattle.outside_io.specs.declared.answers.WriteAnswer.{WriteAnswer}
use Rattle.outside_io.specs.declared.answers.WriteAnswer.TheVariants.{Done, Failed}
use Rattle.outside_io.specs.believed.Seen.{SinkSeen}
use Rattle.outside_io.specs.believed.Puts.{Puts}
use Rattle.outside_io.proofs.PutsLaws.{Puts-then, Puts-stopped}
use Rattle.command_line.specs.Pieces.{spent_opening}

parts : (budget : ℕ) (pairs : List (ℕ × ℕ)) → spent_opening budget ++ (pairs_text pairs ++ codes "\n") ≡ spent_line budget pairs
parts budget pairs = sym (append_assoc (spent_opening budget) (pairs_text pairs) (codes "\n"))

pub Puts-spent : (r : WriteAnswer) (budget : ℕ) (pairs : List (ℕ × ℕ)) (before middle last after : SinkSeen)
    → Puts Done before middle (spent_opening budget) → Puts Done middle last (pairs_text pairs) → Puts r last after (codes "\n")
    → Puts r before after (spent_line budget pairs)
Puts-spent r budget pairs before middle last after first second third =
    subst (Puts r before after) (parts budget pairs)
    (Puts-then r before middle after (spent_opening budget) (pairs_text pairs ++ codes "\n") first
    (Puts-then r middle last after (pairs_text pairs) (codes "\n") second third))

pub Puts-spent_opening : (budget : ℕ) (pairs : List (ℕ × ℕ)) (before after : SinkSeen) → Puts Failed before after (spent_opening budget)
    → Puts Failed before after (spent_line budget pairs)
Puts-spent_opening budget pairs before after first =
    subst (Puts Failed before after) (parts budget pairs) (Puts-stopped before after (spent_opening budget) (pairs_text pairs ++ codes "\n") first)

pub Puts-spent_pairs : (budget : ℕ) (pairs : List (ℕ × ℕ)) (before middle after : SinkSeen)
    → Puts Done before middle (spent_opening budget) → Puts Failed middle after (pairs_text pairs) → Puts Failed before after (spent_line budget pairs)
Puts-spent_pairs budget pairs before middle after first second =
    subst (Puts Failed before after) (parts budget pairs)
    (Puts-then Failed before middle after (spent_opening budget) (pairs_text pairs ++ codes "\n") first
    (Puts-stopped middle after (pairs_text pairs) (codes "\n") second))
