-- What words set one after another, and what is known of words that have a reading.
use Rattle.std.proofs.Common.{◌≡◌, ℕ, ◌+◌, Bool, true, false, not, ◌&&◌, ◌||◌, if◌then◌else◌, List, [], ◌∷◌, ◌++◌, take, drop}
use Rattle.std.proofs.Common.{Ok, Err, Result, Option, Some, None, refl, sym, ap, subst, ◌∙◌, append_assoc}
use Rattle.std.specs.Prelude.{filter_map}
use Rattle.std.specs.List.{list_any, cons_option}
use Rattle.std.specs.Option.{option_map_or}
use Rattle.std.proofs.lemmas.Bool.{false≢true}
use Rattle.std.proofs.lemmas.List.{append-nil}
use Rattle.std.proofs.lemmas.List.Elements.{filter_map-append}
use Rattle.std.proofs.lemmas.List.Sums.{fold-append}
use Rattle.std.proofs.lemmas.Option.{none-some}
use Rattle.definitions.specs.believed.Settings.{Setting, defaults, set, setting_of, settings_of}
use Rattle.definitions.specs.believed.Words.{Command, exclude_each_other, is_mark_word, has_equal_marks, set_by, is_faulty, first_faulty, read_command}

-- what the words so far set, and one more
pub settings-push : (before : List (List ℕ)) (word : List ℕ) (setting : Setting) → setting_of word ≡ Some setting
    → filter_map setting_of (before ++ word ∷ []) ≡ filter_map setting_of before ++ setting ∷ []
settings-push before word setting e = filter_map-append setting_of before (word ∷ []) ∙ ap (λ o. filter_map setting_of before ++ cons_option o []) e

pub set_by-push : (before : List (List ℕ)) (word : List ℕ) (setting : Setting) → setting_of word ≡ Some setting
    → set_by (before ++ word ∷ []) ≡ set (set_by before) setting
set_by-push before word setting e =
    ap settings_of (settings-push before word setting e) ∙ fold-append set defaults (filter_map setting_of before) (setting ∷ [])

-- a word that isn't faulty sets something
faulty-alone : (before after : List (List ℕ)) (word : List ℕ) → setting_of word ≡ None → is_faulty before word after ≡ true
faulty-alone before after word e =
    ap (λ o. option_map_or (λ setting. list_any (exclude_each_other setting) (filter_map setting_of before)) o true
    || (is_mark_word word && not (list_any is_mark_word after) && has_equal_marks (set_by (before ++ word ∷ [])))) e

setting_read : (before after : List (List ℕ)) (word : List ℕ) → is_faulty before word after ≡ false → (x : Setting) × (setting_of word ≡ Some x)
setting_read before after word h = found (setting_of word) refl
  where
    found : (o : Option Setting) → setting_of word ≡ o → (x : Setting) × (setting_of word ≡ Some x)
    found None e = absurd (false≢true (sym h ∙ faulty-alone before after word e))
    found (Some x) e = (x, e)

-- the first word has no fault, and none behind it has one
pub unfaulty : (n : ℕ) (bad : Bool) (later : Option ℕ) → (if bad then Some n else later) ≡ None → (bad ≡ false) × (later ≡ None)
unfaulty n true later h = absurd (none-some n (sym h))
unfaulty n false later h = (refl, h)

-- what holds before any word, and of one word more that isn't faulty, holds of words without a fault
pub by_words : (P : List (List ℕ) → List (List ℕ) → Type 0)
    → ((before after : List (List ℕ)) (word : List ℕ) (setting : Setting) → setting_of word ≡ Some setting → is_faulty before word after ≡ false
    → P before (word ∷ after) → P (before ++ word ∷ []) after)
    → (n : ℕ) (before after : List (List ℕ)) → first_faulty n before after ≡ None → P before after → P (before ++ after) []
by_words P step n before [] good holds = subst (λ words. P words []) (sym (append-nil before)) holds
by_words P step n before (word ∷ after) good holds =
    let fine = unfaulty n (is_faulty before word after) (first_faulty (n + 1) (before ++ word ∷ []) after) good in
    let found = setting_read before after word fine.0 in
    subst (λ words. P words []) (append_assoc before (word ∷ []) after)
    (by_words P step (n + 1) (before ++ word ∷ []) after fine.1 (step before after word found.0 found.1 fine.0 holds))

-- a command that has a reading has no fault: its names are the first words, and the others set the rest
abbrev command_or : Command → Result Command ℕ → Command
command_or other (Ok command) = command
command_or other (Err index) = other

abbrev is_read : Result Command ℕ → Bool
is_read (Ok command) = true
is_read (Err index) = false

pub command_read : (count : ℕ) (fault : Option ℕ) (words : List (List ℕ)) (command : Command) → read_command count fault words ≡ Ok command
    → (fault ≡ None) × (command.names ≡ take count words) × (command.settings ≡ set_by (drop count words))
command_read count None words command h = (refl, ap (λ r. (command_or command r).names) (sym h), ap (λ r. (command_or command r).settings) (sym h))
command_read count (Some index) words command h = absurd (false≢true (ap is_read h))
