use Rattle.model_words.proofs.FileTexts as lemmas
use Rattle.model_words.proofs.laws.texts_are_of_the_file.Goals as goal

pub returns : goal.returns
returns c = lemmas.texts_are_of_the_file
