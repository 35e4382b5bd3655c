use Rattle.std.proofs.Common.{◌≡◌, ◌+◌, ◌-◌, ◌∙◌, ℕ, List, Option, map, get_or, length, ap, arith, subst, sym}
use Rattle.std.proofs.lemmas.List.{get_or_default, length-map, take_more}
use Rattle.cov_model.specs.believed.Sound.{ModelView}
use Rattle.tuple_index.specs.Plan.{set_at}
use Rattle.shared_marks.specs.declared.open_sets.Line.{Line}
use Rattle.shared_marks.specs.Adding.{Marks}
use Rattle.shared_marks.specs.Seats.{SeatView}
use Rattle.shared_marks.specs.TestColumns.{place_in}
use Rattle.shared_marks.specs.OpenSets.{front}
use Rattle.shared_marks.specs.Served.{base_of, served_between}
use Rattle.shared_marks.proofs.OpenLemmas.{line_more}
use Rattle.shared_marks.proofs.many_rows.mark_lines.Goals as goal

of_same : (m : ModelView) (rows tests : List (List (Option ℕ))) (set : ℕ) (before after : SeatView) → rows ≡ tests
    → Marks (served_between m rows (base_of m set) (base_of m (set + 1))) before after
    → Marks (served_between m tests (base_of m set) (base_of m (set + 1))) before after
of_same m rows tests set before after same marks =
    subst (λ rows. Marks (served_between m rows (base_of m set) (base_of m (set + 1))) before after) same marks

pub loop-line-preserved : goal.loop-line-preserved
loop-line-preserved c =
    let m = c.args.model.now in
    let plan = c.args.plan.now in
    let tests = c.args.columns.now.tests in
    let lines = c.args.lines.now in
    let i = c.loop-line.line-index in
    let at : i + 1 - 1 ≡ i = omega arith in
    let same = c.in_ok-put_fronts.ensures.tests ∙ c.loop-line.invariant.4 in
    let fronts = c.in_ok-put_fronts.ensures.places ∙ ap (map (place_in m _)) c.loop-line.invariant.4 in (
      line_more m plan tests _ _ _ c.args.seat.now c.loop-line.seat c.mark_line.new.seat c.requires.plan (take_more lines i _ c.loop-line-test.true) c.loop-line.invariant.0
          (of_same m _ tests _ _ _ same c.in_ok-mark_line.ensures.marks),
      ap length fronts ∙ length-map tests _,
      λ some other. fronts ∙ ap (λ (line : Line). map (place_in m (front (set_at plan line.set))) tests)
          (sym (ap (λ n. get_or lines n other) at ∙ get_or_default lines i other _ c.loop-line-test.true)),
      c.in_ok-mark_line.ensures.room ∙ c.loop-line.invariant.3,
      c.in_ok-mark_line.ensures.tests ∙ same,
      c.in_ok-mark_line.ensures.columns,
    )
