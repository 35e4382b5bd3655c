-- A tree that was read before, with its text. (This project's rule.)
use Rattle.std.specs.Prelude.{map}
use Rattle.refutation.specs.declared.reading.ReadTree.{ReadTree}
use Rattle.refutation.specs.believed.Proofs.{format_of}
use Rattle.refutation.specs.Proofs.{meant}
use Rattle.refutation.specs.Reading.{ReadsTree, SpellingView, pieces}

-- the words of its text are those of its tokens
abbrev pub IsReadTree : SpellingView → ReadTree → Type 0
IsReadTree spelling known = ReadsTree spelling.model (format_of spelling.form) (pieces 32 known.text.now) (map meant known.tree)
