use Rattle.std.proofs.Common.{◌≡◌, ◌+◌, ◌<◌, [], Bool, true, false, take, drop, length, get_or, Some, refl, sym, ap, subst, ◌∙◌, arith}
use Rattle.std.specs.Prelude.{All, filter_map}
use Rattle.std.specs.String.{string_bytes}
use Rattle.std.proofs.lemmas.List.{take_more, length-map}
use Rattle.value_text.proofs.StringLemmas.{word_at}
use Rattle.definitions.specs.believed.Settings.{set, setting_of}
use Rattle.definitions.specs.believed.Words.{has_equal_marks, is_of_checker, set_by}
use Rattle.command_line.specs.Settings.{setting_seen}
use Rattle.command_line.specs.believed.Words.{texts}
use Rattle.command_line.proofs.WordLemmas.{set_by-push}
use Rattle.check_cli.proofs.WordLemmas.{faulty-by, known-push}
use Rattle.check_cli.proofs.words.CheckOpts.with_option.Goals as goal
use Rattle.check_cli.proofs.words.CheckOpts.with_option.Goals.{else-is_last_mark-via-then-is_last_mark+else-has_equal_marks, else-is_last_mark-via-else-is_last_mark}

pub returns-then-has_equal_marks-clause-faulty : goal.returns-then-has_equal_marks-clause-faulty
returns-then-has_equal_marks-clause-faulty c =
    let words = texts c.args.options.now in
    let before = take c.args.place words in
    let setting = setting_seen c.in-Some.setting in
    let word = word_at c.args.options.now c.args.place c.index-options-place.result c.as_str-word.result.now
    c.requires.place c.index-options-place.is c.as_str-word.ensures.value in
    let known : is_of_checker setting ≡ true = sym c.set.ensures.known ∙ c.if-not-set.false in
    let equal : has_equal_marks (set (set_by before) setting) ≡ true =
    sym (sym c.if-has_equal_marks.true ∙ c.has_equal_marks.ensures
    ∙ ap has_equal_marks (c.set.ensures.settings c.if-not-set.false ∙ ap (λ settings. set settings setting) c.requires.reads.settings)) in
    sym (faulty-by before (drop (c.args.place + 1) words) (get_or words c.args.place []) setting true true
    (ap setting_of (sym word) ∙ sym c.in-Some.ensures) known c.requires.reads.known
    (sym c.is_last_mark.ensures ∙ c.if-is_last_mark.true) equal)

pub returns-clause-faulty : goal.returns-clause-faulty
returns-clause-faulty c =
    let words = texts c.args.options.now in
    let before = take c.args.place words in
    let after = drop (c.args.place + 1) words in
    let setting = setting_seen c.in-Some.setting in
    let own = get_or words c.args.place [] in
    let word = word_at c.args.options.now c.args.place c.index-options-place.result c.as_str-word.result.now
    c.requires.place c.index-options-place.is c.as_str-word.ensures.value in
    let known : is_of_checker setting ≡ true = sym c.set.ensures.known ∙ c.if-not-set.false in
    let settings = ap has_equal_marks (c.set.ensures.settings c.if-not-set.false ∙ ap (λ settings. set settings setting) c.requires.reads.settings) in
    let parts = λ (last equal : Bool). faulty-by before after own setting last equal (ap setting_of (sym word) ∙ sym c.in-Some.ensures) known c.requires.reads.known in
    elim c.else-is_last_mark.branch [
      | else-is_last_mark-via-then-is_last_mark+else-has_equal_marks w ↦
          sym (parts true false (sym c.is_last_mark.ensures ∙ w.if-is_last_mark.true) (sym (sym w.if-has_equal_marks.false ∙ w.has_equal_marks.ensures ∙ settings)))
      | else-is_last_mark-via-else-is_last_mark w ↦ sym (parts false _ (sym c.is_last_mark.ensures ∙ w.if-is_last_mark.false) refl)
    ]

pub returns-clause-reads : goal.returns-clause-reads
returns-clause-reads c =
    let words = texts c.args.options.now in
    let before = take c.args.place words in
    let setting = setting_seen c.in-Some.setting in
    let own = get_or words c.args.place [] in
    let word = word_at c.args.options.now c.args.place c.index-options-place.result c.as_str-word.result.now
    c.requires.place c.index-options-place.is c.as_str-word.ensures.value in
    let sets : setting_of own ≡ Some setting = ap setting_of (sym word) ∙ sym c.in-Some.ensures in
    let inside : c.args.place < length words = omega (arith, length-map c.args.options.now string_bytes, c.requires.place) in
    let more = take_more words c.args.place [] inside in
    let known : is_of_checker setting ≡ true = sym c.set.ensures.known ∙ c.if-not-set.false in
    record {
      settings =
          c.set.ensures.settings c.if-not-set.false ∙ ap (λ settings. set settings setting) c.requires.reads.settings ∙ sym (set_by-push before own setting sets)
          ∙ ap set_by (sym more);
      known = subst (λ taken. All (λ s. is_of_checker s ≡ true) (filter_map setting_of taken)) (sym more)
          (known-push before own setting sets known c.requires.reads.known);
    }
