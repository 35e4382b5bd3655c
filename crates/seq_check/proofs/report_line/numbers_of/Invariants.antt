use Rattle.std.proofs.Common.{◌≡◌, ◌<◌, All, true, map, take, length, unwrap_or, is_some}
use Rattle.std.specs.List.{list_all}
use Rattle.seq_check.specs.believed.EventFile.{number_of}
use Rattle.seq_check.proofs.report_line.numbers_of.Given as goal

abbrev pub invariant-loop-text : goal.invariant-loop-text
invariant-loop-text l =
    (list_all (λ text. is_some (number_of l.names text)) (map (λ text. text.now) (take l.text-index l.texts)) ≡ true)
    × (l.numbers ≡ map (λ text. unwrap_or (number_of l.names text) 0) (map (λ text. text.now) (take l.text-index l.texts)))
    × All (λ event. event < length l.names) l.numbers
