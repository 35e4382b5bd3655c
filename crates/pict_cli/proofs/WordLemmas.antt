-- When a word has no reading between the others, and what the words so far set.
use Rattle.std.proofs.Common.{◌≡◌, ℕ, ◌+◌, ◌<◌, Bool, true, not, ◌&&◌, ◌||◌, if◌then◌else◌, List, [], ◌∷◌, ◌++◌, take, drop, length, Some, sym, ap, ◌∙◌}
use Rattle.std.specs.Prelude.{filter_map}
use Rattle.std.specs.List.{list_any}
use Rattle.std.specs.Option.{option_map_or}
use Rattle.std.proofs.lemmas.List.{take_more, drop_more}
use Rattle.definitions.specs.believed.Settings.{Setting, set, setting_of}
use Rattle.definitions.specs.believed.Words.{exclude_each_other, is_mark_word, has_equal_marks, set_by, is_faulty, first_faulty}
use Rattle.command_line.proofs.WordLemmas.{set_by-push, settings-push}
use Rattle.pict_cli.specs.Options.{kind_of, kinds_of, joined_kinds, is_faulty_at}
use Rattle.pict_cli.proofs.KindLemmas.{clash, excluded-kinds, kinds_of-push}

-- what the words so far are about, and one more
pub about-push : (before : List (List ℕ)) (word : List ℕ) (setting : Setting) → setting_of word ≡ Some setting
    → kinds_of (filter_map setting_of (before ++ word ∷ [])) ≡ joined_kinds (kinds_of (filter_map setting_of before)) (kind_of setting)
about-push before word setting e = ap kinds_of (settings-push before word setting e) ∙ kinds_of-push (filter_map setting_of before) setting

-- what is asked of a word
pub faulty-parts : (before after : List (List ℕ)) (word : List ℕ) (setting : Setting) → setting_of word ≡ Some setting
    → is_faulty before word after ≡
    (clash (kind_of setting) (kinds_of (filter_map setting_of before))
    || ((is_mark_word word && not (list_any is_mark_word after)) && has_equal_marks (set (set_by before) setting)))
faulty-parts before after word setting e =
    ap (λ o. option_map_or (λ setting. list_any (exclude_each_other setting) (filter_map setting_of before)) o true
    || (is_mark_word word && not (list_any is_mark_word after) && has_equal_marks (set_by (before ++ word ∷ [])))) e
    ∙ ap (λ b. b || (is_mark_word word && not (list_any is_mark_word after) && has_equal_marks (set_by (before ++ word ∷ []))))
    (excluded-kinds setting (filter_map setting_of before))
    ∙ ap (λ s. clash (kind_of setting) (kinds_of (filter_map setting_of before)) || (is_mark_word word && not (list_any is_mark_word after) && has_equal_marks s))
    (set_by-push before word setting e)

pub faulty-by : (before after : List (List ℕ)) (word : List ℕ) (setting : Setting) (excluded last equal : Bool) → setting_of word ≡ Some setting
    → clash (kind_of setting) (kinds_of (filter_map setting_of before)) ≡ excluded
    → (is_mark_word word && not (list_any is_mark_word after)) ≡ last → has_equal_marks (set (set_by before) setting) ≡ equal
    → is_faulty before word after ≡ (excluded || (last && equal))
faulty-by before after word setting excluded last equal e clashes lasts equals =
    faulty-parts before after word setting e
    ∙ ap (λ b. b || ((is_mark_word word && not (list_any is_mark_word after)) && has_equal_marks (set (set_by before) setting))) clashes
    ∙ ap (λ b. excluded || (b && has_equal_marks (set (set_by before) setting))) lasts ∙ ap (λ b. excluded || (last && b)) equals

-- the first fault is at this word or behind it
pub first_faulty-step : (n : ℕ) (words : List (List ℕ)) (place : ℕ) → place < length words
    → first_faulty n (take place words) (drop place words) ≡
    (if is_faulty_at words place then Some n else first_faulty (n + 1) (take (place + 1) words) (drop (place + 1) words))
first_faulty-step n words place inside =
    ap (first_faulty n (take place words)) (drop_more words place [] inside)
    ∙ ap (λ before. if is_faulty_at words place then Some n else first_faulty (n + 1) before (drop (place + 1) words)) (sym (take_more words place [] inside))
