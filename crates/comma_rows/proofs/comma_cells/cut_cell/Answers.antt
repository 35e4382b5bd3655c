use Rattle.std.proofs.Common.{◌∙◌, [], ℕ, List, sym, ap}
use Rattle.comma_rows.specs.declared.action.Action.TheVariants.{Skips, Passes, Adds, EndsCell, EndsRow, Stops}
use Rattle.comma_rows.specs.believed.Reading.{read}
use Rattle.comma_rows.proofs.ReadSteps.{goes-on, room-behind}
use Rattle.comma_rows.proofs.comma_cells.cut_cell.Goals as goal

pub returns-in-EndsCell : goal.returns-in-EndsCell
returns-in-EndsCell c = (
  room-behind c.loop-byte.at c.next-after.result c.loop-byte.rest.now c.in-Some.byte c.in-Some.behind.now c.in-Some.ensures c.loop-byte.invariant.room c.next-after.ensures,
  sym (goes-on c.loop-byte.place c.loop-byte.begun c.loop-byte.at c.next-after.result c.loop-byte.text.items c.loop-byte.rest.now c.in-Some.byte c.in-Some.behind.now
      c.begins_with_feed.result EndsCell (read c.args.start c.args.from c.args.from [] c.args.bytes.now)
      c.loop-byte.invariant.reads c.in-Some.ensures c.begins_with_feed.ensures (sym c.in-EndsCell.is ∙ c.action_of.ensures) c.next-after.ensures),
)

pub returns-in-EndsRow : goal.returns-in-EndsRow
returns-in-EndsRow c = (
  room-behind c.loop-byte.at c.next-after.result c.loop-byte.rest.now c.in-Some.byte c.in-Some.behind.now c.in-Some.ensures c.loop-byte.invariant.room c.next-after.ensures,
  sym (goes-on c.loop-byte.place c.loop-byte.begun c.loop-byte.at c.next-after.result c.loop-byte.text.items c.loop-byte.rest.now c.in-Some.byte c.in-Some.behind.now
      c.begins_with_feed.result EndsRow (read c.args.start c.args.from c.args.from [] c.args.bytes.now)
      c.loop-byte.invariant.reads c.in-Some.ensures c.begins_with_feed.ensures (sym c.in-EndsRow.is ∙ c.action_of.ensures) c.next-after.ensures),
)

pub returns-in-Stops : goal.returns-in-Stops
returns-in-Stops c = sym (goes-on c.loop-byte.place c.loop-byte.begun c.loop-byte.at c.next-after.result c.loop-byte.text.items c.loop-byte.rest.now c.in-Some.byte c.in-Some.behind.now
    c.begins_with_feed.result (Stops c.in-Stops.cause) (read c.args.start c.args.from c.args.from [] c.args.bytes.now)
    c.loop-byte.invariant.reads c.in-Some.ensures c.begins_with_feed.ensures (sym c.in-Stops.is ∙ c.action_of.ensures) c.next-after.ensures)

pub loop-byte-preserved-in-Skips : goal.loop-byte-preserved-in-Skips
loop-byte-preserved-in-Skips c = record {
  room = room-behind c.loop-byte.at c.next-after.result c.loop-byte.rest.now c.in-Some.byte c.in-Some.behind.now c.in-Some.ensures c.loop-byte.invariant.room c.next-after.ensures;
  reads = goes-on c.loop-byte.place c.loop-byte.begun c.loop-byte.at c.next-after.result c.loop-byte.text.items c.loop-byte.rest.now c.in-Some.byte c.in-Some.behind.now
      c.begins_with_feed.result Skips (read c.args.start c.args.from c.args.from [] c.args.bytes.now)
      c.loop-byte.invariant.reads c.in-Some.ensures c.begins_with_feed.ensures (sym c.in-Skips.is ∙ c.action_of.ensures) c.next-after.ensures;
}

pub loop-byte-preserved-in-Passes : goal.loop-byte-preserved-in-Passes
loop-byte-preserved-in-Passes c = record {
  room = room-behind c.loop-byte.at c.next-after.result c.loop-byte.rest.now c.in-Some.byte c.in-Some.behind.now c.in-Some.ensures c.loop-byte.invariant.room c.next-after.ensures;
  reads = goes-on c.loop-byte.place c.loop-byte.begun c.loop-byte.at c.next-after.result c.loop-byte.text.items c.loop-byte.rest.now c.in-Some.byte c.in-Some.behind.now
      c.begins_with_feed.result (Passes c.in-Passes.next) (read c.args.start c.args.from c.args.from [] c.args.bytes.now)
      c.loop-byte.invariant.reads c.in-Some.ensures c.begins_with_feed.ensures (sym c.in-Passes.is ∙ c.action_of.ensures) c.next-after.ensures;
}

pub loop-byte-preserved : goal.loop-byte-preserved
loop-byte-preserved c = record {
  room = room-behind c.loop-byte.at c.next-after.result c.loop-byte.rest.now c.in-Some.byte c.in-Some.behind.now c.in-Some.ensures c.loop-byte.invariant.room c.next-after.ensures;
  reads =
      ap (λ (text : List ℕ). read c.in-Adds.next c.loop-byte.begun c.next-after.result text c.in-Some.behind.now) c.in_ok-add_byte-in-Adds.ensures
      ∙ goes-on c.loop-byte.place c.loop-byte.begun c.loop-byte.at c.next-after.result c.loop-byte.text.items c.loop-byte.rest.now c.in-Some.byte c.in-Some.behind.now
      c.begins_with_feed.result (Adds c.in-Adds.next) (read c.args.start c.args.from c.args.from [] c.args.bytes.now)
      c.loop-byte.invariant.reads c.in-Some.ensures c.begins_with_feed.ensures (sym c.in-Adds.is ∙ c.action_of.ensures) c.next-after.ensures;
}
