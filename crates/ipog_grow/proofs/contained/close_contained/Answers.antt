use Rattle.std.proofs.Common.{◌≡◌, ◌∙◌, ◌<◌, ◌+◌, [], ℕ, List, Option, length, get_or, false, ap, refl, sym, subst, arith}
use Rattle.cov_model.specs.believed.Rows.{is_assigned}
use Rattle.uncovered_table.specs.Open.{OpenView, row_closed}
use Rattle.ipog_grow.proofs.ContainedLemmas.{Started, started-none, started-closed, started-free}
use Rattle.ipog_grow.proofs.contained.close_contained.Goals as goal
use Rattle.ipog_grow.proofs.contained.close_contained.Goals.{then-is_some, else-is_some}

pub loop-i-init : goal.loop-i-init
loop-i-init c = record { started = started-none c.args.column c.args.table.now c.args.rows.now; long = refl }

pub loop-i-preserved : goal.loop-i-preserved
loop-i-preserved c =
    let within : c.loop-i.i < length c.args.rows.now = omega arith in
    elim c.if-is_some.branch [
      | then-is_some w ↦
          let read = w.copy_from_slice.ensures ∙ w.row-then-is_some.ensures in
          record {
            started =
                started-closed c.args.column c.args.table.now c.loop-i.table c.if-is_some.table c.args.rows.now c.loop-i.i within c.loop-i.invariant.started
                (w.table-is ∙ w.close_row.ensures ∙ ap (row_closed c.loop-i.table c.args.column) read);
            long = ap length (w.room-is ∙ read) ∙ (c.requires.grows c.loop-i.i [] within).of.fits.as_long ∙ sym c.requires.room;
          }
      | else-is_some w ↦
          let free : is_assigned (get_or c.args.rows.now c.loop-i.i []) c.args.column ≡ false =
          ap (λ (row : List (Option ℕ)). is_assigned row c.args.column) (sym c.row.ensures) ∙ sym c.is_some.ensures ∙ w.if-is_some.false in
          record {
            started =
                subst (λ (t : OpenView). Started c.args.column c.args.table.now t c.args.rows.now (c.loop-i.i + 1)) (sym w.table-is)
                (started-free c.args.table.now.model c.args.table.now.slice c.args.column c.args.table.now c.loop-i.table c.args.rows.now c.loop-i.i within
                c.loop-i.invariant.started c.requires.in_play free);
            long = ap length w.room-is ∙ c.loop-i.invariant.long;
          }
    ]
