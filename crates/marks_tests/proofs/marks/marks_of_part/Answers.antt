use Rattle.std.proofs.Common.{◌∙◌, ap}
use Rattle.std.specs.Prelude.{sum}
use Rattle.shared_marks.proofs.PlaceLemmas.{all_places}
use Rattle.marks_tests.proofs.marks.marks_of_part.Goals as goal

pub mark_served-requires-clause-bits : goal.mark_served-requires-clause-bits
mark_served-requires-clause-bits c =
    c.in-Ok-new.ensures.0 ∙ c.count_tuples.ensures ∙ ap (λ p. sum p.sizes) c.in-Ok.ensures.made ∙ all_places c.args.model.now
