-- The model that a file spells is sound.
use Rattle.type_check.proofs.OneAnswer as lemmas
use Rattle.type_check.proofs.laws.models_are_sound.Goals as goal

pub returns : goal.returns
returns c = lemmas.models_are_sound
