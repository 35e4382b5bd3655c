-- What options ask for, one after another.
use Rattle.std.proofs.Common.{◌≡◌, ℕ, ◌+◌, ◌<◌, ◌≤◌, Bool, true, false, cond, List, [], ◌∷◌, ◌++◌, length, get_or, take}
use Rattle.std.proofs.Common.{filter_map, Some, None, nat_lt, fold, position, eqb, Err, sym, refl, ap, ◌∙◌, arith}
use Rattle.std.specs.List.{cons_option}
use Rattle.std.specs.String.{string_bytes}
use Rattle.std.specs.declared.string.String.{String}
use Rattle.std.specs.declared.alloc.Global.{Global}
use Rattle.std.proofs.lemmas.Bool.{le-ltb}
use Rattle.std.proofs.lemmas.List.{length-map, take_more}
use Rattle.std.proofs.lemmas.List.Elements.{filter_map-append}
use Rattle.std.proofs.lemmas.List.Sums.{fold_push, position_or_len_is}
use Rattle.value_text.proofs.StringLemmas.{word_at}
use Rattle.seq_cli.specs.believed.Words.{Setting, asked_of, set, set_by, setting_of}
use Rattle.command_line.specs.believed.Words.{texts}

-- one option more
pub set_more : (file : List ℕ) (words : List (List ℕ)) (place : ℕ) (setting : Setting) → place < length words → setting_of (get_or words place []) ≡ Some setting
    → set_by file (take (place + 1) words) ≡ set (set_by file (take place words)) setting
set_more file words place setting within is =
    let before = take place words in
    let word = get_or words place [] in
    ap (set_by file) (take_more words place [] within)
    ∙ ap (fold set (asked_of file)) (filter_map-append setting_of before (word ∷ []) ∙ ap (λ o. filter_map setting_of before ++ cons_option o []) is)
    ∙ fold_push set (asked_of file) (filter_map setting_of before) setting

pub many_words : (words : List (String Global)) (place : ℕ) → place < length words → place < length (texts words)
many_words words place within = omega (arith, within, length-map words string_bytes)
