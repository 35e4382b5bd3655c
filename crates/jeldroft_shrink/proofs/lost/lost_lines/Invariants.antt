use Rattle.std.proofs.Common.{◌≡◌, map, take}
use Rattle.row_text.specs.RowFiles.{row_seen}
use Rattle.jeldroft_shrink.specs.Lost.{lost_lines}
use Rattle.jeldroft_shrink.proofs.lost.lost_lines.Given as goal

-- the seed rows before this one
abbrev pub invariant-loop-seed : goal.invariant-loop-seed
invariant-loop-seed l = l.lost.items ≡ lost_lines l.given (map row_seen (take l.seed-index l.seeds.rows))
