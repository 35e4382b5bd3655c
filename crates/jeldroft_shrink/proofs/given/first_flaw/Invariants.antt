use Rattle.std.proofs.Common.{◌≡◌, drop, map}
use Rattle.row_text.specs.RowFiles.{row_seen, seeds_seen}
use Rattle.jeldroft_shrink.specs.believed.Reading.{first_flaw}
use Rattle.jeldroft_shrink.proofs.given.first_flaw.Given as goal

-- nothing is wrong with the rows before this one
abbrev pub invariant-loop-row : goal.invariant-loop-row
invariant-loop-row l = first_flaw l.model (map row_seen (drop l.row-index l.file.rows)) ≡ first_flaw l.model (seeds_seen l.file)
