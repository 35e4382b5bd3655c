-- Blanks are spaces and tabs. (This project's rule.)
use Rattle.std.specs.Prelude.{ℕ, ◌-◌, Bool, List, length, take, drop}
use Rattle.std.specs.List.{list_all, prefix_len, suffix_len}
use Rattle.value_text.specs.believed.Texts.{is_blank}

-- blanks alone, or nothing
abbrev pub is_all_blank : List ℕ → Bool
is_all_blank text = list_all is_blank text

-- a text without the blanks at its start
abbrev pub without_first_blanks : List ℕ → List ℕ
without_first_blanks text = drop (prefix_len is_blank text) text

-- a text without the blanks at its end
abbrev pub without_last_blanks : List ℕ → List ℕ
without_last_blanks text = take (length text - suffix_len is_blank text) text

-- a text without the blanks at both ends
abbrev pub trimmed : List ℕ → List ℕ
trimmed text = without_last_blanks (without_first_blanks text)
