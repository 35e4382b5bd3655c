use Rattle.std.proofs.Common.{map, take}
use Rattle.std.specs.Prelude.{decimal}
use Rattle.json.specs.Token as tokens
use Rattle.jeldroft_lint.specs.Texts.{Adds}
use Rattle.jeldroft_lint.proofs.objects.put_numbers.Given as goal

abbrev pub invariant-loop-number : goal.invariant-loop-number
invariant-loop-number l = Adds l.fn.writer l.writer (map (λ n. tokens.number (decimal n)) (take l.number-index l.numbers))
