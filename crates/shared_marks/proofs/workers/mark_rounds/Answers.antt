use Rattle.std.proofs.Common.{◌≡◌, ◌∙◌, ℕ, List, Option, length, ap, arith, subst, sym}
use Rattle.std.proofs.lemmas.List.{length-map}
use Rattle.row_text.specs.declared.row_file.FileRow.{FileRow}
use Rattle.shared_marks.specs.Adding.{Adds}
use Rattle.shared_marks.specs.Served.{is_served_at}
use Rattle.shared_marks.proofs.RowLemmas.{range_all}
use Rattle.std.specs.Prelude.{sum}
use Rattle.row_text.specs.RowFiles.{suite_seen}
use Rattle.shared_marks.proofs.PlaceLemmas.{all_places}
use Rattle.shared_marks.proofs.WorkerLemmas.{round_adds}
use Rattle.shared_marks.proofs.workers.mark_rounds.Goals as goal

pub find-requires-clause-bits : goal.find-requires-clause-bits
find-requires-clause-bits g c = c.requires.bits ∙ sym (ap (λ p. sum p.sizes) c.requires.plan ∙ all_places c.args.model.now)

pub loop-seat-preserved : goal.loop-seat-preserved
loop-seat-preserved g c = (
  omega (arith, c.min-to.ensures),
  round_adds c.args.model.now (suite_seen c.args.file.now) c.loop-seat.from c.min-to.result c.args.seat c.loop-seat.seat c.find.new.seat
      c.in_ok-seat.seat (omega (arith, c.loop-seat.invariant.0, c.min-to.ensures, c.max.ensures)) c.loop-seat.invariant.1
      c.in_ok-in_play.ensures.seat c.in_ok-seat.ensures,
)

pub returns-then-to-count : goal.returns-then-to-count
returns-then-to-count g c =
    let m = c.args.model.now in
    let rows = suite_seen c.args.file.now in
    let whole : c.min-to.result ≡ length rows =
    c.if-to-count.true ∙ c.len-count.ensures ∙ sym (length-map c.args.file.now.rows (λ (row : FileRow). row.cells)) in
    subst (λ (seen : List (List (Option ℕ))). Adds (is_served_at m seen) c.args.seat c.in_ok-seat.seat) (range_all rows c.min-to.result whole)
    (round_adds m rows c.loop-seat.from c.min-to.result c.args.seat c.loop-seat.seat c.find.new.seat
    c.in_ok-seat.seat (omega (arith, c.loop-seat.invariant.0, c.min-to.ensures, c.max.ensures)) c.loop-seat.invariant.1
    c.in_ok-in_play.ensures.seat c.in_ok-seat.ensures)
