use Rattle.std.proofs.Common.{◌^◌, ◌-◌, ◌++◌, refl, arith}
use Rattle.std.specs.Prelude.{min}
use Rattle.std.proofs.lemmas.Option.{same_Some}
use Rattle.definitions.specs.believed.Laws.{IsCertified}
use Rattle.definitions.specs.believed.Verdict.{verdict, verdict_text}
use Rattle.definitions.specs.believed.Words.{read_check_words}
use Rattle.command_line.specs.believed.Words.{opts_of, texts}
use Rattle.check_cli.specs.believed.Runs.{HasReadings}
use Rattle.check_cli.specs.believed.Words.{names_in}
use Rattle.runs_in_memory.specs.CheckFiles.{held_in}
use Rattle.check_cli.proofs.RunEnds.{asked_or_three, readings_then, three_is_none}
use Rattle.runs_in_memory.proofs.check_in_memory.run_check_in_memory.Goals as goal

pub returns-clause-certified : goal.returns-clause-certified
returns-clause-certified g c = λ zero.
    let words = texts c.args.words.now in
    let held = held_in c.args.files.now.slots (names_in words) in
    asked_or_three (read_check_words words) c.run_check.result (λ s. HasReadings (opts_of s) IsCertified held)
    (λ s asked. c.run_check.ensures.certified zero s held asked (record { model = refl; report = refl; proof = refl }))
    (λ index asked. (c.run_check.ensures.words (min index (2 ^ 32 - 1)) (index, asked, refl)).0) (λ three. omega (arith, zero, three))

pub returns-clause-verdict : goal.returns-clause-verdict
returns-clause-verdict g c = λ known.
    let words = texts c.args.words.now in
    let held = held_in c.args.files.now.slots (names_in words) in
    asked_or_three (read_check_words words) c.run_check.result _
    (λ s asked. readings_then
    (λ m lines proof told. (told.0, same_Some c.run_check.new.out.bytes (c.args.out.now.bytes ++ verdict_text (verdict m lines proof)) told.1.puts))
    (c.run_check.ensures.verdict known s held asked (record { model = refl; report = refl; proof = refl })))
    (λ index asked. (c.run_check.ensures.words (min index (2 ^ 32 - 1)) (index, asked, refl)).0) (three_is_none known)
