use Rattle.std.proofs.Common.{◌≡◌, drop}
use Rattle.value_text.specs.believed.Texts.{folded}
use Rattle.row_text.specs.Lookups.{word_of}
use Rattle.row_text.proofs.short_words.short_word.Given as goal

-- the word of the bytes from this one on
abbrev pub invariant-loop-i : goal.invariant-loop-i
invariant-loop-i l = l.word ≡ word_of (folded l.fold (drop l.i l.text))
