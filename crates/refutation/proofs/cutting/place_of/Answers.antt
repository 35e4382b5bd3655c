use Rattle.value_text.proofs.ByteLemmas.{first_byte}
use Rattle.refutation.proofs.cutting.place_of.Goals as goal

pub returns-in-None : goal.returns-in-None
returns-in-None c = first_byte c.args.mark c.args.text.now c.memchr.result c.memchr.ensures
