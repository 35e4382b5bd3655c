use Rattle.std.proofs.Common.{◌<◌, length, ◌∙◌, arith}
use Rattle.std.specs.String.{string_bytes}
use Rattle.std.proofs.lemmas.List.{length-map}
use Rattle.command_line.specs.believed.Words.{texts}
use Rattle.check_cli.proofs.WordLemmas.{one_more}
use Rattle.check_cli.proofs.words.read_options.Goals as goal

pub loop-place-preserved : goal.loop-place-preserved
loop-place-preserved c =
    let words = texts c.args.options.now in
    let inside : c.loop-place.place < length words = omega (arith, length-map c.args.options.now string_bytes, c.loop-place-test.true) in
    record {
      reads = c.in-Some.ensures.reads;
      names = c.in-Some.ensures.names ∙ c.loop-place.invariant.names;
      so_far = c.loop-place.invariant.so_far ∙ one_more words c.loop-place.place inside c.in-Some.ensures.faulty;
    }
