use Rattle.std.proofs.Common.{◌≡◌, true, false, [], Some, get_or, is_none, below_more, sym, ap, ◌∙◌, arith}
use Rattle.std.proofs.lemmas.List.{length-map, take_all}
use Rattle.std.specs.String.{string_bytes}
use Rattle.seq_cli.specs.Commands.{setting_seen}
use Rattle.seq_cli.specs.believed.Words.{set, set_by, setting_of}
use Rattle.command_line.specs.believed.Words.{texts}
use Rattle.seq_cli.proofs.CommandLemmas.{many_words, set_more}
use Rattle.command_line.proofs.NameLemmas.{placed_nowhere}
use Rattle.seq_cli.proofs.command.read_options.Goals as goal
use Rattle.value_text.proofs.ListLemmas.{position_is}
use Rattle.value_text.proofs.StringLemmas.{word_at}

pub returns-in_default : goal.returns-in_default
returns-in_default c =
    let words = texts c.args.options.now in
    let place = c.loop-place.place in
    let word = word_at c.args.options.now place c.index-options-place.result c.as_str.result.now c.loop-place-test.true c.index-options-place.is c.as_str.ensures.value in
    let unread : is_none (setting_of (get_or words place [])) ≡ true = ap is_none (ap setting_of (sym word) ∙ sym c.in_default.ensures) in (
      place,
      position_is (λ w. is_none (setting_of w)) words place [] (many_words c.args.options.now place c.loop-place-test.true) c.loop-place.invariant.read unread,
      c.fault_at.ensures,
    )

pub loop-place-preserved : goal.loop-place-preserved
loop-place-preserved c =
    let words = texts c.args.options.now in
    let place = c.loop-place.place in
    let setting = setting_seen c.in-Some.setting in
    let word = word_at c.args.options.now place c.index-options-place.result c.as_str.result.now c.loop-place-test.true c.index-options-place.is c.as_str.ensures.value in
    let is : setting_of (get_or words place []) ≡ Some setting = ap setting_of (sym word) ∙ sym c.in-Some.ensures in
    record {
      read = below_more (λ k. is_none (setting_of (get_or words k [])) ≡ false) place c.loop-place.invariant.read (ap is_none is);
      set = c.set.ensures ∙ ap (λ asked. set asked setting) c.loop-place.invariant.set
          ∙ sym (set_more c.args.file.now words place setting (many_words c.args.options.now place c.loop-place-test.true) is);
    }

pub returns : goal.returns
returns c =
    let words = texts c.args.options.now in
    let place = c.loop-place.place in
    let long = length-map c.args.options.now string_bytes in (
      placed_nowhere (λ w. is_none (setting_of w)) words place [] (omega (arith, long)) (omega (arith, long)) c.loop-place.invariant.read,
      c.loop-place.invariant.set ∙ ap (set_by c.args.file.now) (take_all place words (omega (arith, long))),
    )
