-- A demanded tuple is served by a row of the suite, or refuted in its proof.
use Rattle.definitions.proofs.SuiteLaws as lemmas
use Rattle.definitions.proofs.laws.suites_serve_or_refute.Goals as goal

pub returns : goal.returns
returns c = lemmas.suites_serve_or_refute
