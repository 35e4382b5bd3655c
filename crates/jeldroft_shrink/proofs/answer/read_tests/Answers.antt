use Rattle.std.proofs.Common.{◌≡◌, ◌⊎◌, None, Some, Ok, sym, subst}
use Rattle.std.specs.Prelude.{IfErr, IfSome}
use Rattle.value_text.proofs.ListLemmas.{is_err}
use Rattle.row_text.specs.RowFiles.{seeds_seen}
use Rattle.tuple_index.specs.believed.PlanFault.{limit_passed}
use Rattle.jeldroft_files.specs.believed.Tables.{is_comma}
use Rattle.jeldroft_shrink.specs.believed.Causes.{status_of}
use Rattle.jeldroft_shrink.specs.believed.Reading.{given_in, seeds_in}
use Rattle.jeldroft_shrink.specs.believed.Runs.{HeldFiles, Holds, LackRows}
use Rattle.jeldroft_shrink.specs.Steps.{IsCauseOf}
use Rattle.jeldroft_shrink.proofs.ReadLemmas.{holds_after, lack_seeds, lack_table, told_at}
use Rattle.jeldroft_shrink.proofs.answer.read_tests.Goals as goal

pub returns-clause-tests : goal.returns-clause-tests
returns-clause-tests g c = λ held holds within.
    let m = c.args.model.now in
    let args = c.args.args.now in
    let later = holds_after (g.F.Folder.seen c.args.files.now) (g.F.Folder.seen c.read_given.new.files) args held c.read_given.ensures.files holds in
    record {
      within = within;
      tests =
          told_at (g.F.Folder.seen c.args.files.now).files (λ name h. given_in m (is_comma args.delimiter name) h ≡ Ok (seeds_seen c.in_ok-given.given))
          c.as_str.ensures.value holds.table c.in_ok-given.ensures.reads;
      partial =
          subst
          (λ name. IfSome name (λ named. (g.F.Folder.seen c.read_given.new.files).files named ≡ Some held.seeds)
          → seeds_in m args.delimiter name held.seeds ≡ Ok (seeds_seen c.in_ok-seeds.seeds))
          c.seeds_name.ensures (c.in_ok-seeds.ensures.reads held.seeds) later.seeds;
    }

pub returns-in_err-given-clause-stops : goal.returns-in_err-given-clause-stops
returns-in_err-given-clause-stops g c =
    let m = c.args.model.now in
    let args = c.args.args.now in
    subst
    (λ r. IfErr r (λ failure. (held : HeldFiles) → Holds (g.F.Folder.seen c.args.files.now).files args held → limit_passed m ≡ None
    → (status_of failure.cause ≡ 3) ⊎ LackRows args held m failure.cause))
    (sym (is_err c.from_residual.ensures.1)) (λ held holds within.
    lack_table args held m c.in_err-given.field-0.0.cause within
    (told_at (g.F.Folder.seen c.args.files.now).files (λ name h. IsCauseOf (given_in m (is_comma args.delimiter name) h) c.in_err-given.field-0.0.cause)
    c.as_str.ensures.value holds.table c.in_err-given.ensures.reads))

pub returns-in_err-seeds-clause-stops : goal.returns-in_err-seeds-clause-stops
returns-in_err-seeds-clause-stops g c =
    let m = c.args.model.now in
    let args = c.args.args.now in
    subst
    (λ r. IfErr r (λ failure. (held : HeldFiles) → Holds (g.F.Folder.seen c.args.files.now).files args held → limit_passed m ≡ None
    → (status_of failure.cause ≡ 3) ⊎ LackRows args held m failure.cause))
    (sym (is_err c.from_residual-in_err-seeds.ensures.1)) (λ held holds within.
    let later = holds_after (g.F.Folder.seen c.args.files.now) (g.F.Folder.seen c.read_given.new.files) args held c.read_given.ensures.files holds in
    lack_seeds args held m c.in_err-seeds.field-0.0.cause (seeds_seen c.in_ok-given.given) within
    (told_at (g.F.Folder.seen c.args.files.now).files (λ name h. given_in m (is_comma args.delimiter name) h ≡ Ok (seeds_seen c.in_ok-given.given))
    c.as_str.ensures.value holds.table c.in_ok-given.ensures.reads)
    (subst
    (λ name. IfSome name (λ named. (g.F.Folder.seen c.read_given.new.files).files named ≡ Some held.seeds)
    → IsCauseOf (seeds_in m args.delimiter name held.seeds) c.in_err-seeds.field-0.0.cause)
    c.seeds_name.ensures (c.in_err-seeds.ensures.reads held.seeds) later.seeds))
