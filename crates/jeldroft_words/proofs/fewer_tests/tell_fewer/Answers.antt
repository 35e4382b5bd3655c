use Rattle.jeldroft_words.proofs.fewer_tests.tell_fewer.Goals as goal

pub returns : goal.returns
returns g c = record { before = _; answer = _; puts = c.tell_numbers.ensures }
