use Rattle.std.proofs.Common.{◌^◌, ◌-◌, refl, arith}
use Rattle.std.specs.Prelude.{min}
use Rattle.seq_cli.specs.believed.Words.{asked_by}
use Rattle.command_line.specs.believed.Words.{texts}
use Rattle.runs_in_memory.proofs.SeqRuns.{asked_or_three, each_name, some_then}
use Rattle.runs_in_memory.proofs.seq_in_memory.run_seq_in_memory.Goals as goal

pub returns-clause-headline : goal.returns-clause-headline
returns-clause-headline c = λ zero.
    asked_or_three (asked_by (texts c.args.words.now)) c.run_seq.result 0 _ (λ asked words none. c.run_seq.ensures.headline zero asked _ _ words none refl refl)
    (λ index words. (c.run_seq.ensures.words (min index (2 ^ 32 - 1)) (index, words, refl)).0) zero (λ same. omega arith)

pub returns-clause-accepts : goal.returns-clause-accepts
returns-clause-accepts c = λ zero.
    asked_or_three (asked_by (texts c.args.words.now)) c.run_seq.result 0 _
    (λ asked words. each_name asked.report _ (λ name checked. c.run_seq.ensures.accepts zero asked name _ _ words checked refl refl))
    (λ index words. (c.run_seq.ensures.words (min index (2 ^ 32 - 1)) (index, words, refl)).0) zero (λ same. omega arith)

pub returns-clause-refuses : goal.returns-clause-refuses
returns-clause-refuses c = λ ten.
    asked_or_three (asked_by (texts c.args.words.now)) c.run_seq.result 10 _
    (λ asked words. some_then asked.report _ _ (λ name holds. holds _ refl) (c.run_seq.ensures.refuses ten asked _ words refl))
    (λ index words. (c.run_seq.ensures.words (min index (2 ^ 32 - 1)) (index, words, refl)).0) ten (λ same. omega arith)
