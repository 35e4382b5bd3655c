-- A translation says what its file says.
use Rattle.acts_front.proofs.SayTheSame as lemmas
use Rattle.acts_front.proofs.laws.translations_say_the_same.Goals as goal

pub returns : goal.returns
returns c = lemmas.translations_say_the_same
