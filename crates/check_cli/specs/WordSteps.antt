-- What is known while the words of the checker are read. (This project's rules.)
use Rattle.std.specs.Prelude.{◌≡◌, ℕ, ◌+◌, Bool, true, List, [], All, filter_map, take, drop, slice_index_or}
use Rattle.definitions.specs.believed.Settings.{setting_of}
use Rattle.definitions.specs.believed.Words.{is_faulty_for_checker, is_of_checker, set_by}
use Rattle.check_cli.specs.Words.{settings_seen}
use Rattle.check_cli.specs.declared.words.CheckOpts.{CheckOpts}

-- these words were taken: the options are what they set, and each sets what the checker knows
pub record IsReading (opts : CheckOpts) (words : List (List ℕ)) : Type 0 where
  pub settings : settings_seen opts ≡ set_by words
  pub known : All (λ setting. is_of_checker setting ≡ true) (filter_map setting_of words)

-- the word of this place, from 0, has no reading between the others
abbrev pub is_faulty_at : List (List ℕ) → ℕ → Bool
is_faulty_at words place = is_faulty_for_checker (take place words) (slice_index_or words place []) (drop (place + 1) words)
