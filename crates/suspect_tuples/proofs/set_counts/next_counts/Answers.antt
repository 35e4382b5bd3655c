use Rattle.std.proofs.Common.{ap, ◌∙◌, ◌++◌, ◌∷◌, []}
use Rattle.suspect_tuples.proofs.SetCountLemmas.{counts_push}
use Rattle.suspect_tuples.proofs.set_counts.next_counts.Goals as goal

pub loop-k-preserved : goal.loop-k-preserved
loop-k-preserved c =
    counts_push c.args.row.now c.loop-k.next.items c.push.new.self.items c.loop-k.k c.loop-k.invariant
    (c.in_ok-push.ensures.items ∙ ap (λ n. c.loop-k.next.items ++ n ∷ []) c.count_at.ensures)
