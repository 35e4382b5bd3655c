-- What a run of `pictacts` does with the file that it reads and the one that it writes. (This project's rules.)
use Rattle.acts_cli.specs.believed.Words.{Asked}
use Rattle.acts_cli.specs.declared.words.Command.{Command}

-- what is asked for
abbrev pub asked_seen : Command → Asked
asked_seen command = record { input = command.input.now; output = command.output.now; fold = command.fold }
