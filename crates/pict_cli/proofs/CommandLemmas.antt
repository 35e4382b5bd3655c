-- What is known of a command that has a reading.
use Rattle.std.proofs.Common.{◌≡◌, ℕ, false, List, [], ◌∷◌, ◌++◌, Result, Ok, Err, Some, None, refl, sym, ap, subst, ◌∙◌}
use Rattle.std.specs.Prelude.{MatchResult, filter_map, drop, take, slice_index_or}
use Rattle.std.specs.Option.{option_or}
use Rattle.std.specs.declared.string.String.{String}
use Rattle.std.specs.declared.alloc.Global.{Global}
use Rattle.std.proofs.lemmas.Bool.{or_parts}
use Rattle.value_text.proofs.ListLemmas.{option_or_parts}
use Rattle.definitions.specs.believed.Settings.{Setting, setting_of}
use Rattle.definitions.specs.believed.Words.{Command, first_faulty, is_faulty, missing_name, read_words, set_by}
use Rattle.command_line.proofs.RangeLemmas.{words_fit}
use Rattle.command_line.proofs.WordLemmas.{by_words, command_read}
use Rattle.command_line.specs.believed.Words.{TellsFault, settings_in, texts}
use Rattle.pict_cli.specs.declared.options.Opts.{Opts}
use Rattle.pict_cli.specs.declared.options.WordFault.{WordFault}
use Rattle.pict_cli.specs.Options.{command_seen, kind_of, kinds_of, settings_seen}
use Rattle.pict_cli.specs.Ranges.{FitRun}
use Rattle.pict_cli.specs.believed.Words.{IsWordFault, asked_by, model_file, model_name}
use Rattle.pict_cli.proofs.Alone.{is_torn, joined_whole, one_whole, whole_unproved}
use Rattle.pict_cli.proofs.WordLemmas.{about-push, faulty-parts}

-- what words set isn't both about a suite that is given and about one that is generated
abbrev IsWhole : List (List ℕ) → Type 0
IsWhole words = is_torn (kinds_of (filter_map setting_of words)) ≡ false

whole_more : (before after : List (List ℕ)) (word : List ℕ) (setting : Setting) → setting_of word ≡ Some setting → is_faulty before word after ≡ false
    → IsWhole before → IsWhole (before ++ word ∷ [])
whole_more before after word setting is good whole =
    ap is_torn (about-push before word setting is)
    ∙ joined_whole (kinds_of (filter_map setting_of before)) (kind_of setting) whole (one_whole setting)
    (or_parts _ _ (sym (faulty-parts before after word setting is) ∙ good)).0

words_fit_run : (words : List (List ℕ)) → first_faulty 2 [] words ≡ None → FitRun (set_by words)
words_fit_run words good = record {
  fit = words_fit 2 words good;
  unproved = whole_unproved (filter_map setting_of words) (by_words (λ before after. IsWhole before) whole_more 2 [] words good refl);
}

pub command_fits : (words : List (List ℕ)) (command : Command) → read_words words ≡ Ok command → FitRun command.settings
command_fits words command h =
    let fault = first_faulty 2 [] (drop 1 words) in
    let read = command_read 1 (option_or (missing_name 1 words) fault) words command h in
    subst FitRun (sym read.2) (words_fit_run (drop 1 words) (option_or_parts (missing_name 1 words) fault read.0).1)

-- the first word is the model file
first_taken : (words : List (List ℕ)) → slice_index_or (take 1 words) 0 [] ≡ model_name words
first_taken [] = refl
first_taken (word ∷ words) = refl

pub model_named : (words : List (List ℕ)) (command : Command) → read_words words ≡ Ok command → slice_index_or command.names 0 [] ≡ model_name words
model_named words command h =
    ap (λ names. slice_index_or names 0 []) (command_read 1 (option_or (missing_name 1 words) (first_faulty 2 [] (drop 1 words))) words command h).1
    ∙ first_taken words

-- what a reading of words gives, in its ranges
pub read_in_range : (words : List (String Global)) (read : Result Opts WordFault)
    → MatchResult read (λ opts. read_words (texts words) ≡ Ok (command_seen opts)) (λ fault. TellsFault (read_words (texts words)) fault.index)
    → MatchResult read (λ opts. (asked_by (texts words) ≡ Ok (settings_seen opts)) × FitRun (settings_seen opts) × (opts.model.now ≡ model_file words))
    (λ fault. IsWordFault (texts words) fault.index)
read_in_range words (Ok opts) is =
    (ap settings_in is, command_fits (texts words) (command_seen opts) is, model_named (texts words) (command_seen opts) is)
read_in_range words (Err fault) is = (is.0, ap settings_in is.1, is.2)
