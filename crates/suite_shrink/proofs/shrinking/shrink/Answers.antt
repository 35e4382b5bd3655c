use Rattle.std.proofs.Common.{length, ◌∙◌, sym, ap, subst}
use Rattle.std.specs.Prelude.{sum}
use Rattle.std.proofs.lemmas.List.{length-map}
use Rattle.definitions.specs.believed.Demand.{demanded_tuples}
use Rattle.definitions.specs.believed.Figures.{is_served}
use Rattle.shared_marks.proofs.PlaceLemmas.{all_places}
use Rattle.shorter_suites.specs.believed.Shrinking.{IsShrunk}
use Rattle.suite_shrink.proofs.ShrunkLemmas.{distinct_shrunk, valid_fit}
use Rattle.suite_shrink.proofs.shrinking.shrink.Goals as goal

pub first_rows-requires : goal.first_rows-requires
first_rows-requires c = record { fits = valid_fit c.args.of.now.model.now c.args.given.now c.requires.valid }

pub marks_of-requires-clause-fits : goal.marks_of-requires-clause-fits
marks_of-requires-clause-fits c = valid_fit c.args.of.now.model.now c.args.given.now c.requires.valid

pub least_needed-least-requires-clause-long : goal.least_needed-least-requires-clause-long
least_needed-least-requires-clause-long c =
    let m = c.args.of.now.model.now in
    ap length c.in_ok-marks.ensures ∙ length-map (demanded_tuples m) (is_served m c.args.given.now)
    ∙ sym (ap (λ p. sum p.sizes) c.requires.plan ∙ all_places m)

pub returns-clause-shrunk : goal.returns-clause-shrunk
returns-clause-shrunk c =
    let m = c.args.of.now.model.now in
    subst (IsShrunk m c.args.given.now c.args.seeds.now) (sym (c.new-2.ensures.rows ∙ c.in_ok-first.ensures.rows))
    (distinct_shrunk m c.args.given.now c.args.seeds.now c.requires.valid)
