-- Words of a command and their readings, computed.
use Rattle.std.specs.Prelude.{◌≡◌, ℕ, true, false, ◌==◌, List, [], ◌∷◌, Some, Result, Ok, Err, codes, refl}
use Rattle.std.specs.List.{slice_split}
use Rattle.definitions.specs.declared.effort.Effort.TheVariants.{Within, Full}
use Rattle.definitions.specs.believed.Settings.{OrderOf, OrderMax, AnyShuffle, ShuffleBy, Settings, defaults}
use Rattle.definitions.specs.believed.Words.{Command, read_words, read_check_words}

-- the words of a text, parted by spaces
abbrev words : List ℕ → List (List ℕ)
words text = slice_split (λ byte. byte == 32) text

abbrev read : List ℕ → Result Command ℕ
read text = read_words (words text)

abbrev reads : List ℕ → Settings → Type 0
reads text settings = read text ≡ Ok (record { names = codes "m" ∷ []; settings = settings })

nothing : read_words [] ≡ Err 1
nothing = refl

no_name : read_words ([] ∷ []) ≡ Err 1
no_name = refl

alone : reads (codes "m") defaults
alone = refl

-- the first word is the model file, whatever its first character
slashed : read (codes "/s") ≡ Ok (record { names = codes "/s" ∷ []; settings = defaults })
slashed = refl

every : reads (codes "m /O:MAX /d:; /a:! /N:- /c /e:a:b /R:18446744073709551615 /s /workers:64 /budget:1099511627776 /Proof:p /proofFormat:2")
    (record defaults {
      order = OrderMax;
      separator = 59;
      alias = 33;
      prefix = 45;
      fold_case = false;
      seeds = Some (codes "a:b");
      shuffle = ShuffleBy 18446744073709551615;
      stats = true;
      workers = 64;
      effort = Within 1099511627776;
      proof = Some (codes "p");
      form = 2;
    })
every = refl

-- the last of a repeated option counts
repeated : reads (codes "m /o:3 /o:1 /r:0 /r") (record defaults { order = OrderOf 1; shuffle = AnyShuffle })
repeated = refl

-- no bound, in letters of either case; here too the last counts
unbounded : reads (codes "m /budget:5 /Budget:Max") (record defaults { effort = Full })
unbounded = refl

bounded_again : reads (codes "m /budget:max /budget:5") (record defaults { effort = Within 5 })
bounded_again = refl

measured : reads (codes "m /measure:t /o:256 /d:;") (record defaults { order = OrderOf 256; separator = 59; measure = Some (codes "t") })
measured = refl

made : reads (codes "m /make:0 /r:7 /s /proof:p") (record defaults { make = Some 0; shuffle = ShuffleBy 7; stats = true; proof = Some (codes "p") })
made = refl

suspected : reads (codes "m /suspect:t /d:;") (record defaults { suspect = Some (codes "t"); separator = 59 })
suspected = refl

-- words without a reading
abbrev faulty : List ℕ → ℕ → Type 0
faulty text index = read text ≡ Err index

unknown : faulty (codes "m /q") 2
unknown = refl

measured_statistics : faulty (codes "m /measure:t /s") 3
measured_statistics = refl

statistics_measured : faulty (codes "m /s /measure:t") 3
statistics_measured = refl

suspected_measured : faulty (codes "m /suspect:t /c /measure:t") 4
suspected_measured = refl

suspected_format : faulty (codes "m /proofformat:1 /suspect:t") 3
suspected_format = refl

measured_make : faulty (codes "m /make:1 /measure:t") 3
measured_make = refl

made_seeds : faulty (codes "m /e:s /make:1") 3
made_seeds = refl

made_mark : faulty (codes "m /make:1 /d:;") 3
made_mark = refl

equal_default : faulty (codes "m /d:~") 2
equal_default = refl

equal_given : faulty (codes "m /n:! /d:!") 3
equal_given = refl

equal_alias : faulty (codes "m /a:,") 2
equal_alias = refl

unequal_in_the_end : reads (codes "m /d:~ /n:!") (record defaults { separator = 126; prefix = 33 })
unequal_in_the_end = refl

-- a word for a mark counts as the last one even if its value is no mark, or a faulty word comes before it
no_mark_last : faulty (codes "m /d:~ /n:zz") 3
no_mark_last = refl

mark_after_fault : faulty (codes "m /d:~ /q /n:!") 3
mark_after_fault = refl

-- without a colon it isn't in the table, and isn't the last word for a mark
no_colon_last : faulty (codes "m /d:~ /n") 2
no_colon_last = refl

order_zero : faulty (codes "m /o:0") 2
order_zero = refl

order_large : faulty (codes "m /o:257") 2
order_large = refl

workers_large : faulty (codes "m /workers:65") 2
workers_large = refl

budget_large : faulty (codes "m /budget:1099511627777") 2
budget_large = refl

budget_maximal : faulty (codes "m /budget:maximal") 2
budget_maximal = refl

shuffle_large : faulty (codes "m /r:18446744073709551616") 2
shuffle_large = refl

format_large : faulty (codes "m /proofformat:3") 2
format_large = refl

no_file : faulty (codes "m /e:") 2
no_file = refl

letter_mark : faulty (codes "m /d:x") 2
letter_mark = refl

bare_with_colon : faulty (codes "m /s:") 2
bare_with_colon = refl

first_counts : faulty (codes "m /o:0 /q") 2
first_counts = refl

-- the checker takes three names, and fewer options
checked : read_check_words (words (codes "m r p /o:3 /c")) ≡ Ok (record { names = codes "m" ∷ codes "r" ∷ codes "p" ∷ []; settings = record defaults { order = OrderOf 3; fold_case = false } })
checked = refl

checked_short : read_check_words (words (codes "m r")) ≡ Err 3
checked_short = refl

checked_nothing : read_check_words [] ≡ Err 1
checked_nothing = refl

checked_empty : read_check_words (codes "m" ∷ [] ∷ []) ≡ Err 2
checked_empty = refl

checked_other : read_check_words (words (codes "m r p /c /s")) ≡ Err 5
checked_other = refl
