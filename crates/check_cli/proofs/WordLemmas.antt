-- When a word of the checker has no reading between the others, and what the words so far set.
use Rattle.std.proofs.Common.{◌≡◌, ℕ, ◌+◌, ◌<◌, Bool, true, false, not, ◌&&◌, ◌||◌, if◌then◌else◌, List, [], ◌∷◌, ◌++◌, take, drop, length}
use Rattle.std.proofs.Common.{get_or, Ok, Some, None, refl, sym, ap, ap₂, subst, ◌∙◌, arith}
use Rattle.std.specs.Prelude.{All, filter_map}
use Rattle.std.specs.List.{list_any}
use Rattle.std.specs.Option.{option_map_or, option_or}
use Rattle.std.proofs.lemmas.Bool.{false≢true, or_parts}
use Rattle.std.proofs.lemmas.List.{take_more, drop_more}
use Rattle.std.proofs.lemmas.List.Elements.{All-cons, All-nil, All-append}
use Rattle.std.proofs.lemmas.List.Folds.{list_any_none}
use Rattle.value_text.proofs.ListLemmas.{option_or_parts}
use Rattle.definitions.specs.believed.Settings.{Setting, Order, Separator, Alias, Prefix, SeedFile, ShuffleValues, CaseCounts, Statistics, Workers, Budget}
use Rattle.definitions.specs.believed.Settings.{ProofFile, ProofFormat, MeasureFile, Make, SuspectFile, set, setting_of}
use Rattle.definitions.specs.believed.Words.{Command, excludes, exclude_each_other, is_mark_word, has_equal_marks, set_by, is_faulty, is_faulty_for_checker}
use Rattle.definitions.specs.believed.Words.{is_of_checker, first_faulty, first_faulty_for_checker, missing_name, read_check_words}
use Rattle.command_line.specs.Ranges.{AreFit}
use Rattle.command_line.proofs.RangeLemmas.{words_fit}
use Rattle.command_line.proofs.WordLemmas.{command_read, set_by-push, settings-push, unfaulty}
use Rattle.check_cli.specs.WordSteps.{is_faulty_at}

-- what each of the words so far sets, and one more
pub known-push : (before : List (List ℕ)) (word : List ℕ) (setting : Setting) → setting_of word ≡ Some setting → is_of_checker setting ≡ true
    → All (λ s. is_of_checker s ≡ true) (filter_map setting_of before) → All (λ s. is_of_checker s ≡ true) (filter_map setting_of (before ++ word ∷ []))
known-push before word setting e known all =
    let P : Setting → Type 0 = λ s. is_of_checker s ≡ true in
    subst (All P) (sym (settings-push before word setting e)) (All-append P (filter_map setting_of before) (setting ∷ []) all (All-cons P setting [] known (All-nil P)))

-- options of the checker don't exclude each other
none_excluded_by : (a b : Setting) → is_of_checker a ≡ true → excludes a b ≡ false
none_excluded_by (Order order) b known = refl
none_excluded_by (Separator c) b known = refl
none_excluded_by (Alias c) b known = refl
none_excluded_by (Prefix c) b known = refl
none_excluded_by CaseCounts b known = refl
none_excluded_by (Workers n) b known = refl
none_excluded_by (SeedFile name) b known = refl
none_excluded_by (ShuffleValues given) b known = refl
none_excluded_by Statistics b known = refl
none_excluded_by (Budget n) b known = refl
none_excluded_by (ProofFile name) b known = refl
none_excluded_by (ProofFormat n) b known = refl
none_excluded_by (MeasureFile name) b known = absurd (false≢true known)
none_excluded_by (Make n) b known = absurd (false≢true known)
none_excluded_by (SuspectFile name) b known = absurd (false≢true known)

none_excluded : (setting : Setting) (taken : List Setting) → is_of_checker setting ≡ true → All (λ s. is_of_checker s ≡ true) taken
    → list_any (exclude_each_other setting) taken ≡ false
none_excluded setting taken known all =
    list_any_none (exclude_each_other setting) taken (λ k d inside.
    ap₂ (λ a b. a || b) (none_excluded_by setting (get_or taken k d) known) (none_excluded_by (get_or taken k d) setting (all k d inside)))

-- what is asked of a word
pub faulty-unknown : (before after : List (List ℕ)) (word : List ℕ) (setting : Setting) → setting_of word ≡ Some setting → is_of_checker setting ≡ false
    → is_faulty_for_checker before word after ≡ true
faulty-unknown before after word setting e unknown =
    ap (λ o. not (option_map_or is_of_checker o true) || is_faulty before word after) e ∙ ap (λ b. not b || is_faulty before word after) unknown

pub faulty-by : (before after : List (List ℕ)) (word : List ℕ) (setting : Setting) (last equal : Bool) → setting_of word ≡ Some setting
    → is_of_checker setting ≡ true → All (λ s. is_of_checker s ≡ true) (filter_map setting_of before)
    → (is_mark_word word && not (list_any is_mark_word after)) ≡ last → has_equal_marks (set (set_by before) setting) ≡ equal
    → is_faulty_for_checker before word after ≡ (last && equal)
faulty-by before after word setting last equal e known all lasts equals =
    ap (λ o. not (option_map_or is_of_checker o true) || (option_map_or (λ setting. list_any (exclude_each_other setting) (filter_map setting_of before)) o true
    || (is_mark_word word && not (list_any is_mark_word after) && has_equal_marks (set_by (before ++ word ∷ []))))) e
    ∙ ap (λ b. not b || (list_any (exclude_each_other setting) (filter_map setting_of before)
    || (is_mark_word word && not (list_any is_mark_word after) && has_equal_marks (set_by (before ++ word ∷ []))))) known
    ∙ ap (λ b. b || (is_mark_word word && not (list_any is_mark_word after) && has_equal_marks (set_by (before ++ word ∷ []))))
    (none_excluded setting (filter_map setting_of before) known all)
    ∙ ap (λ s. is_mark_word word && not (list_any is_mark_word after) && has_equal_marks s) (set_by-push before word setting e)
    ∙ ap₂ (λ a b. a && b) lasts equals

-- the first fault is at this word or behind it
pub first_faulty-step : (n : ℕ) (words : List (List ℕ)) (place : ℕ) → place < length words
    → first_faulty_for_checker n (take place words) (drop place words) ≡
    (if is_faulty_at words place then Some n else first_faulty_for_checker (n + 1) (take (place + 1) words) (drop (place + 1) words))
first_faulty-step n words place inside =
    ap (first_faulty_for_checker n (take place words)) (drop_more words place [] inside)
    ∙ ap (λ before. if is_faulty_at words place then Some n else first_faulty_for_checker (n + 1) before (drop (place + 1) words)) (sym (take_more words place [] inside))

pub one_more : (words : List (List ℕ)) (place : ℕ) → place < length words → false ≡ is_faulty_at words place
    → first_faulty_for_checker (place + 4) (take place words) (drop place words)
    ≡ first_faulty_for_checker (place + 1 + 4) (take (place + 1) words) (drop (place + 1) words)
one_more words place inside good =
    first_faulty-step (place + 4) words place inside
    ∙ ap (λ b. if b then Some (place + 4) else first_faulty_for_checker (place + 4 + 1) (take (place + 1) words) (drop (place + 1) words)) (sym good)
    ∙ ap (λ n. first_faulty_for_checker n (take (place + 1) words) (drop (place + 1) words)) (omega arith)

-- words without a fault for the checker have none for the generator
unfaulty_too : (n : ℕ) (before after : List (List ℕ)) → first_faulty_for_checker n before after ≡ None → first_faulty n before after ≡ None
unfaulty_too n before [] good = refl
unfaulty_too n before (word ∷ after) good =
    let fine = unfaulty n (is_faulty_for_checker before word after) (first_faulty_for_checker (n + 1) (before ++ word ∷ []) after) good in
    let alone = (or_parts (not (option_map_or is_of_checker (setting_of word) true)) (is_faulty before word after) fine.0).1 in
    ap (λ bad. if bad then Some n else first_faulty (n + 1) (before ++ word ∷ []) after) alone ∙ unfaulty_too (n + 1) (before ++ word ∷ []) after fine.1

-- so what they set is fit for a run
pub command_fits : (words : List (List ℕ)) (command : Command) → read_check_words words ≡ Ok command → AreFit command.settings
command_fits words command h =
    let fault = first_faulty_for_checker 4 [] (drop 3 words) in
    let read = command_read 3 (option_or (missing_name 3 words) fault) words command h in
    subst AreFit (sym read.2) (words_fit 4 (drop 3 words) (unfaulty_too 4 [] (drop 3 words) (option_or_parts (missing_name 3 words) fault read.0).1))
