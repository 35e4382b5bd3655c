-- What the words behind the program's name can set. (PICT's guide for /o, /d, /a, /n, /e, /r, /c and /s;
-- the other words, the defaults and the ranges are this project's rules.)
use Rattle.std.specs.Prelude.{ℕ, ◌-◌, ◌^◌, Bool, true, false, ◌&&◌, List, [], ◌∷◌, length, Option, Some, None, option_map, ◌==◌, if◌then◌else◌, codes, fold}
use Rattle.std.specs.List.{before_first, after_first}
use Rattle.value_text.specs.believed.Texts.{is_same_text}
use Rattle.value_text.specs.believed.Numbers.{count_of}
use Rattle.cov_model.specs.believed.Names.{is_mark}
use Rattle.model_lex.specs.believed.Sections.{has_colon}
use Rattle.definitions.specs.declared.effort.Effort.{Effort}
use Rattle.definitions.specs.declared.effort.Effort.TheVariants.{Within, Full}

-- the order as it is given: a number, or the number of parameters
pub data OrderWord : Type 0 where
  OrderOf : ℕ → OrderWord
  OrderMax : OrderWord

-- whether values are shuffled: not at all, by a seed that is made up, or by this seed
pub data Shuffle : Type 0 where
  NoShuffle : Shuffle
  AnyShuffle : Shuffle
  ShuffleBy : ℕ → Shuffle

-- what one word sets
pub data Setting : Type 0 where
  Order : OrderWord → Setting
  Separator : ℕ → Setting
  Alias : ℕ → Setting
  Prefix : ℕ → Setting
  SeedFile : List ℕ → Setting
  ShuffleValues : Shuffle → Setting
  CaseCounts : Setting
  Statistics : Setting
  Workers : ℕ → Setting
  Budget : Effort → Setting
  ProofFile : List ℕ → Setting
  ProofFormat : ℕ → Setting
  MeasureFile : List ℕ → Setting
  Make : ℕ → Setting
  SuspectFile : List ℕ → Setting

-- a word's name stands before its first colon, its value behind it
abbrev pub is_colon : ℕ → Bool
is_colon byte = byte == 58

-- the word has a colon, and this name in letters of either case
abbrev pub is_named : List ℕ → List ℕ → Bool
is_named word name = has_colon word && is_same_text true (before_first is_colon word) name

-- a file name isn't empty
abbrev pub file_of : List ℕ → Option (List ℕ)
file_of value = if length value == 0 then None else Some value

-- a mark is one character
abbrev pub mark_of : List ℕ → Option ℕ
mark_of [] = None
mark_of (c ∷ []) = if is_mark c then Some c else None
mark_of (c ∷ d ∷ rest) = None

abbrev pub order_word_of : List ℕ → Option OrderWord
order_word_of value = if is_same_text true value (codes "max") then Some OrderMax else option_map OrderOf (count_of value 1 256)

-- a number of nodes, or no bound on them
abbrev pub effort_of : List ℕ → Option Effort
effort_of value = if is_same_text true value (codes "max") then Some Full else option_map Within (count_of value 1 (2 ^ 40))

-- what a word without a colon sets
abbrev pub bare_setting : List ℕ → Option Setting
bare_setting word =
    if is_same_text true word (codes "/r") then Some (ShuffleValues AnyShuffle)
    else if is_same_text true word (codes "/c") then Some CaseCounts
    else if is_same_text true word (codes "/s") then Some Statistics
    else None

-- what a word with a colon sets, if its value is in range
abbrev pub valued_setting : List ℕ → List ℕ → Option Setting
valued_setting word value =
    if is_named word (codes "/o") then option_map Order (order_word_of value)
    else if is_named word (codes "/d") then option_map Separator (mark_of value)
    else if is_named word (codes "/a") then option_map Alias (mark_of value)
    else if is_named word (codes "/n") then option_map Prefix (mark_of value)
    else if is_named word (codes "/e") then option_map SeedFile (file_of value)
    else if is_named word (codes "/r") then option_map (λ n. ShuffleValues (ShuffleBy n)) (count_of value 0 (2 ^ 64 - 1))
    else if is_named word (codes "/workers") then option_map Workers (count_of value 1 64)
    else if is_named word (codes "/budget") then option_map Budget (effort_of value)
    else if is_named word (codes "/proof") then option_map ProofFile (file_of value)
    else if is_named word (codes "/proofformat") then option_map ProofFormat (count_of value 1 2)
    else if is_named word (codes "/measure") then option_map MeasureFile (file_of value)
    else if is_named word (codes "/make") then option_map Make (count_of value 0 (2 ^ 64 - 1))
    else if is_named word (codes "/suspect") then option_map SuspectFile (file_of value)
    else None

-- what a word sets by itself; nothing where it isn't in the table or its value isn't in range
abbrev pub setting_of : List ℕ → Option Setting
setting_of word = if has_colon word then valued_setting word (after_first is_colon word) else bare_setting word

-- all that can be set
pub record Settings : Type 0 where
  pub order : OrderWord
  pub separator : ℕ
  pub alias : ℕ
  pub prefix : ℕ
  pub fold_case : Bool
  pub seeds : Option (List ℕ)
  pub shuffle : Shuffle
  pub stats : Bool
  pub workers : ℕ
  pub effort : Effort
  pub proof : Option (List ℕ)
  pub form : ℕ
  pub measure : Option (List ℕ)
  pub make : Option ℕ
  pub suspect : Option (List ℕ)

-- what holds without a word: order 2, the marks `,` `|` `~`, case folded, one worker, a budget of 1,000,000
abbrev pub defaults : Settings
defaults = record {
  order = OrderOf 2;
  separator = 44;
  alias = 124;
  prefix = 126;
  fold_case = true;
  seeds = None;
  shuffle = NoShuffle;
  stats = false;
  workers = 1;
  effort = Within 1000000;
  proof = None;
  form = 1;
  measure = None;
  make = None;
  suspect = None;
}

-- the settings after one more
abbrev pub set : Settings → Setting → Settings
set s (Order order) = record s { order = order }
set s (Separator c) = record s { separator = c }
set s (Alias c) = record s { alias = c }
set s (Prefix c) = record s { prefix = c }
set s (SeedFile name) = record s { seeds = Some name }
set s (ShuffleValues shuffle) = record s { shuffle = shuffle }
set s CaseCounts = record s { fold_case = false }
set s Statistics = record s { stats = true }
set s (Workers n) = record s { workers = n }
set s (Budget effort) = record s { effort = effort }
set s (ProofFile name) = record s { proof = Some name }
set s (ProofFormat n) = record s { form = n }
set s (MeasureFile name) = record s { measure = Some name }
set s (Make n) = record s { make = Some n }
set s (SuspectFile name) = record s { suspect = Some name }

-- what these set, in order: the last of one kind counts
abbrev pub settings_of : List Setting → Settings
settings_of settings = fold set defaults settings
