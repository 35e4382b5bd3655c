-- The words of a generator, numbered from 0. (PCG's XSH RR 64/32.)
use Rattle.std.specs.Prelude.{ℕ, zero, suc}
use Rattle.rand_pcg.specs.Lcg.{Lcg, started, increment_of}
use Rattle.rand_pcg.specs.Pcg.{pcg32, multiplier_64}

-- the generator that a number starts, with stream 1
abbrev pub made_generator : ℕ → Lcg
made_generator n = started 64 multiplier_64 n (increment_of 64 1)

-- the generator after so many words
unfoldable pub after_words : ℕ → Lcg → Lcg
after_words zero generator = generator
after_words (suc k) generator = (pcg32 (after_words k generator)).1

-- the word that it gives behind so many others
abbrev pub word_of : Lcg → ℕ → ℕ
word_of generator k = (pcg32 (after_words k generator)).0
