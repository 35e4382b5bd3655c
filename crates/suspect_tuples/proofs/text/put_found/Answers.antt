use Rattle.std.proofs.Common.{ap, ◌∙◌, ◌++◌}
use Rattle.std.specs.Prelude.{codes}
use Rattle.definitions.specs.believed.Pairs.{pairs_text}
use Rattle.row_text.proofs.Sending.{Adds-then, Adds-same}
use Rattle.suspect_tuples.proofs.text.put_found.Goals as goal

pub returns : goal.returns
returns g c =
    Adds-same
    (ap (λ pairs. ((codes "suspect " ++ pairs_text pairs) ++ codes " : " ++ c.as_bytes.result.now) ++ codes " failing\n") c.as_slice.ensures.value
    ∙ ap (λ digits. ((codes "suspect " ++ pairs_text c.args.found.now.tuple) ++ codes " : " ++ digits) ++ codes " failing\n")
    (c.as_bytes.ensures.value ∙ c.format.ensures.text))
    (Adds-then (Adds-then (Adds-then (Adds-then c.add.ensures c.put_pairs.ensures) c.add-2.ensures) c.add-3.ensures) c.add-4.ensures)
