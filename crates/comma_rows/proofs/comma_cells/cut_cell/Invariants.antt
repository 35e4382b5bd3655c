use Rattle.std.proofs.Common.{◌≡◌, [], length}
use Rattle.comma_rows.specs.believed.Reading.{read}
use Rattle.comma_rows.specs.Taking.{HasRoom}
use Rattle.comma_rows.proofs.comma_cells.cut_cell.Given as goal

-- there is room for what is left, and its reading with what was read of the cell is that of all bytes
abbrev pub invariant-loop-byte : goal.invariant-loop-byte
invariant-loop-byte l = record {
  room : HasRoom l.at l.rest;
  reads : read l.place l.begun l.at l.text.items l.rest ≡ read l.fn.start l.fn.from l.fn.from [] l.fn.bytes;
}

abbrev pub decreases-loop-byte : goal.decreases-loop-byte
decreases-loop-byte l = length l.rest
