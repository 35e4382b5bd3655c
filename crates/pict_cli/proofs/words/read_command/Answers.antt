use Rattle.pict_cli.proofs.CommandLemmas.{read_in_range}
use Rattle.pict_cli.proofs.words.read_command.Goals as goal

pub returns : goal.returns
returns c = read_in_range c.args.words.now c.read_words.result c.read_words.ensures
