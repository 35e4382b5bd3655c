use Rattle.std.proofs.Common.{◌≡◌, All, length, map, take}
use Rattle.std.specs.Prelude.{IfSome}
use Rattle.row_text.specs.RowFiles.{row_seen}
use Rattle.ipog_grow.specs.SeedQuestions.{AreQuestionsFor}
use Rattle.ipog_grow.proofs.Splitting.{Split}
use Rattle.ipog_grow.proofs.seeds.split_each.Given as goal

-- the seed rows before this place are split, and no question of theirs cost more than it may
abbrev pub invariant-loop-seed : goal.invariant-loop-seed
invariant-loop-seed l = record {
  seeds : Split l.model l.prefs l.effort (map row_seen (take l.seed-index l.seeds)) l.split.kept l.split.dropped;
  last : IfSome l.last (AreQuestionsFor l.model l.prefs l.effort);
  long : All (λ row. length row ≡ length l.model.params) l.split.kept;
}
