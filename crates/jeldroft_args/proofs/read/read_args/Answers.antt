use Rattle.std.proofs.Common.{◌≡◌, Some, map}
use Rattle.std.specs.String.{string_bytes}
use Rattle.clap.specs.Words.{app_of, kind_of, subcommand_rows_of}
use Rattle.jeldroft_args.proofs.ReadLemmas.{asked_where_ok, cause_where_err, refused_cause, simple_app, taken, taken_cause}
use Rattle.std.proofs.lemmas.Result.{IfOk-weaker}
use Rattle.jeldroft_args.proofs.RangeLemmas.{settings_fit}
use Rattle.jeldroft_args.specs.Faults.{HasCause}
use Rattle.jeldroft_args.specs.Ranges.{IsInRange}
use Rattle.jeldroft_args.specs.believed.Settings.{asked_in, settings_of}
use Rattle.jeldroft_args.proofs.read.read_args.Goals as goal

pub returns-in-Ok-clause-asked : goal.returns-in-Ok-clause-asked
returns-in-Ok-clause-asked c =
    let app = app_of c.in_ok-program.program in
    let commands = c.args.commands.now in
    let words = map string_bytes c.args.words.now in
    asked_where_ok c.ask_met.result (asked_in commands (subcommand_rows_of c.in-Ok.matches)) (settings_of commands words)
    (taken app commands words c.in-Ok.matches c.in_ok-program.ensures c.in-Ok.ensures.matches
    (c.in-Ok.ensures.kinds (simple_app app commands c.in_ok-program.ensures)))
    c.ask_met.ensures

pub returns-in-Ok-clause-in_range : goal.returns-in-Ok-clause-in_range
returns-in-Ok-clause-in_range c =
    let commands = c.args.commands.now in
    let words = map string_bytes c.args.words.now in
    IfOk-weaker c.ask_met.result (λ asked. settings_of commands words ≡ Some asked) IsInRange (settings_fit commands words) (returns-in-Ok-clause-asked c)

pub returns-in-Ok-clause-cause : goal.returns-in-Ok-clause-cause
returns-in-Ok-clause-cause c =
    let app = app_of c.in_ok-program.program in
    let commands = c.args.commands.now in
    let words = map string_bytes c.args.words.now in
    cause_where_err c.ask_met.result (asked_in commands (subcommand_rows_of c.in-Ok.matches)) (HasCause commands words)
    (λ fault none. taken_cause app commands words c.in-Ok.matches fault c.in_ok-program.ensures c.in-Ok.ensures.matches
    (c.in-Ok.ensures.kinds (simple_app app commands c.in_ok-program.ensures)) none)
    c.ask_met.ensures

pub returns-in-Err-clause-cause : goal.returns-in-Err-clause-cause
returns-in-Err-clause-cause c =
    let app = app_of c.in_ok-program.program in
    let commands = c.args.commands.now in
    refused_cause app commands (map string_bytes c.args.words.now) (kind_of c.in-Err.error) c.fault_from.result c.in_ok-program.ensures
    (c.in-Err.ensures.kinds (simple_app app commands c.in_ok-program.ensures)) c.fault_from.ensures
