-- The completions of a partial row are the rows that contain it.
use Rattle.definitions.proofs.Choices as lemmas
use Rattle.definitions.proofs.laws.completions_are_rows.Goals as goal

pub returns : goal.returns
returns c = lemmas.completions_are_rows
