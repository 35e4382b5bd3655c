use Rattle.std.proofs.Common.{◌≡◌, ◌+◌, [], Bool, true, false, take, drop, length, get_or, Some, refl, sym, ap, ◌∙◌, arith, ◌<◌}
use Rattle.std.specs.Prelude.{filter_map}
use Rattle.std.specs.String.{string_bytes}
use Rattle.std.proofs.lemmas.List.{take_more, length-map}
use Rattle.value_text.proofs.StringLemmas.{word_at}
use Rattle.definitions.specs.believed.Settings.{set, setting_of}
use Rattle.definitions.specs.believed.Words.{has_equal_marks, set_by}
use Rattle.command_line.specs.Settings.{setting_seen}
use Rattle.pict_cli.specs.Options.{kind_of, kinds_of, joined_kinds}
use Rattle.command_line.specs.believed.Words.{texts}
use Rattle.command_line.proofs.WordLemmas.{set_by-push}
use Rattle.pict_cli.proofs.KindLemmas.{clash}
use Rattle.pict_cli.proofs.WordLemmas.{faulty-by, about-push}
use Rattle.pict_cli.proofs.options.Reading.with_option.Goals as goal
use Rattle.pict_cli.proofs.options.Reading.with_option.Goals.{else-is_last_mark-via-then-is_last_mark+else-has_equal_marks, else-is_last_mark-via-else-is_last_mark}

pub returns-then-exclude_each_other-clause-faulty : goal.returns-then-exclude_each_other-clause-faulty
returns-then-exclude_each_other-clause-faulty c =
    let words = texts c.args.options.now in
    let before = take c.args.place words in
    let setting = setting_seen c.in-Some.setting in
    let word = word_at c.args.options.now c.args.place c.index-options-place.result c.as_str-word.result.now
    c.requires.place c.index-options-place.is c.as_str-word.ensures.value in
    let clashes : clash (kind_of setting) (kinds_of (filter_map setting_of before)) ≡ true =
    sym (sym c.if-exclude_each_other.true ∙ c.exclude_each_other.ensures ∙ ap (λ kind. clash kind c.args.self.kinds) c.of-kind.ensures
    ∙ ap (clash (kind_of setting)) c.requires.reads.kinds) in
    sym (faulty-by before (drop (c.args.place + 1) words) (get_or words c.args.place []) setting true _ _
    (ap setting_of (sym word) ∙ sym c.in-Some.ensures) clashes refl refl)

pub returns-then-has_equal_marks-clause-faulty : goal.returns-then-has_equal_marks-clause-faulty
returns-then-has_equal_marks-clause-faulty c =
    let words = texts c.args.options.now in
    let before = take c.args.place words in
    let setting = setting_seen c.in-Some.setting in
    let word = word_at c.args.options.now c.args.place c.index-options-place.result c.as_str-word.result.now
    c.requires.place c.index-options-place.is c.as_str-word.ensures.value in
    let clashes : clash (kind_of setting) (kinds_of (filter_map setting_of before)) ≡ false =
    sym (sym c.if-exclude_each_other.false ∙ c.exclude_each_other.ensures ∙ ap (λ kind. clash kind c.args.self.kinds) c.of-kind.ensures
    ∙ ap (clash (kind_of setting)) c.requires.reads.kinds) in
    let equal : has_equal_marks (set (set_by before) setting) ≡ true =
    sym (sym c.if-has_equal_marks.true ∙ c.has_equal_marks.ensures
    ∙ ap has_equal_marks (c.set.ensures.settings ∙ ap (λ settings. set settings setting) c.requires.reads.settings)) in
    sym (faulty-by before (drop (c.args.place + 1) words) (get_or words c.args.place []) setting false true true
    (ap setting_of (sym word) ∙ sym c.in-Some.ensures) clashes
    (sym c.is_last_mark.ensures ∙ c.if-is_last_mark.true) equal)

pub returns-clause-faulty : goal.returns-clause-faulty
returns-clause-faulty c =
    let words = texts c.args.options.now in
    let before = take c.args.place words in
    let after = drop (c.args.place + 1) words in
    let setting = setting_seen c.in-Some.setting in
    let own = get_or words c.args.place [] in
    let word = word_at c.args.options.now c.args.place c.index-options-place.result c.as_str-word.result.now
    c.requires.place c.index-options-place.is c.as_str-word.ensures.value in
    let clashes : clash (kind_of setting) (kinds_of (filter_map setting_of before)) ≡ false =
    sym (sym c.if-exclude_each_other.false ∙ c.exclude_each_other.ensures ∙ ap (λ kind. clash kind c.args.self.kinds) c.of-kind.ensures
    ∙ ap (clash (kind_of setting)) c.requires.reads.kinds) in
    let settings = ap has_equal_marks (c.set.ensures.settings ∙ ap (λ settings. set settings setting) c.requires.reads.settings) in
    let parts = λ (last equal : Bool). faulty-by before after own setting false last equal (ap setting_of (sym word) ∙ sym c.in-Some.ensures) clashes in
    elim c.else-is_last_mark.branch [
      | else-is_last_mark-via-then-is_last_mark+else-has_equal_marks w ↦
          sym (parts true false (sym c.is_last_mark.ensures ∙ w.if-is_last_mark.true) (sym (sym w.if-has_equal_marks.false ∙ w.has_equal_marks.ensures ∙ settings)))
      | else-is_last_mark-via-else-is_last_mark w ↦ sym (parts false _ (sym c.is_last_mark.ensures ∙ w.if-is_last_mark.false) refl)
    ]

pub returns-clause-reads : goal.returns-clause-reads
returns-clause-reads c =
    let words = texts c.args.options.now in
    let before = take c.args.place words in
    let setting = setting_seen c.in-Some.setting in
    let own = get_or words c.args.place [] in
    let word = word_at c.args.options.now c.args.place c.index-options-place.result c.as_str-word.result.now
    c.requires.place c.index-options-place.is c.as_str-word.ensures.value in
    let sets : setting_of own ≡ Some setting = ap setting_of (sym word) ∙ sym c.in-Some.ensures in
    let inside : c.args.place < length words = omega (arith, length-map c.args.options.now string_bytes) in
    let more = take_more words c.args.place [] inside in
    record {
      settings =
          c.set.ensures.settings ∙ ap (λ settings. set settings setting) c.requires.reads.settings ∙ sym (set_by-push before own setting sets)
          ∙ ap set_by (sym more);
      kinds =
          c.join.ensures ∙ ap (λ kind. joined_kinds c.args.self.kinds kind) c.of-kind.ensures
          ∙ ap (λ kinds. joined_kinds kinds (kind_of setting)) c.requires.reads.kinds
          ∙ sym (about-push before own setting sets) ∙ ap (λ taken. kinds_of (filter_map setting_of taken)) (sym more);
    }
