use Rattle.std.proofs.Common.{◌≡◌, ◌++◌, replicate}
use Rattle.jeldroft_files.proofs.tabbed.add_feeds.Given as goal

abbrev pub invariant-loop : goal.invariant-loop
invariant-loop l = l.into.items ≡ l.fn.into.items ++ replicate l.counter 10
