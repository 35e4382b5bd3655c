use Rattle.std.proofs.Common.{◌≡◌, ◌+◌, ◌∷◌, ◌++◌, [], Some, length, ◌∙◌, sym, ap, arith}
use Rattle.std.specs.Prelude.{option_map}
use Rattle.std.proofs.lemmas.List.{length_push, map-append}
use Rattle.definitions.specs.believed.ProofText.{read_lines, read_omission}
use Rattle.refutation.specs.believed.Proofs.{format_of}
use Rattle.refutation.specs.Proofs.{omission_meant}
use Rattle.refutation.specs.Reading.{omissions_meant, pieces, with_omissions}
use Rattle.refutation.proofs.FileLemmas.{lines_more, lines_stop}
use Rattle.refutation.proofs.spelling.Spelling.read_lines.Goals as goal

pub returns-in_default-2-clause-read : goal.returns-in_default-2-clause-read
returns-in_default-2-clause-read c =
    c.loop-text.invariant.read
    ∙ lines_stop c.args.self.now.model (format_of c.args.self.now.form) c.loop-text.line (omissions_meant c.loop-text.proof.omissions) c.in-Some.text.now
    c.loop-text.rest.now c.in-Some.behind.now c.in-Some.ensures.pieces (sym c.in_ok-omission.ensures.read ∙ ap (option_map omission_meant) c.in_default-2.is)

pub loop-text-preserved : goal.loop-text-preserved
loop-text-preserved c =
    let m = c.args.self.now.model in
    let format = format_of c.args.self.now.form in
    let omission = c.in-Some-2.omission in
    let reads : read_omission m format c.in-Some.text.now ≡ Some (omission_meant omission) =
    sym c.in_ok-omission.ensures.read ∙ ap (option_map omission_meant) c.in-Some-2.is in
    let front : omissions_meant c.loop-text.proof.omissions ++ omission_meant omission ∷ [] ≡ omissions_meant c.push.new.self.omissions =
    sym (ap (λ (proof : _). omissions_meant proof.omissions) c.in_ok-push.ensures.ok ∙ map-append omission_meant c.loop-text.proof.omissions (omission ∷ [])) in
    record {
      read = c.loop-text.invariant.read
          ∙ lines_more m format c.loop-text.line (omissions_meant c.loop-text.proof.omissions) (omission_meant omission) c.in-Some.text.now c.loop-text.rest.now
          c.in-Some.behind.now c.in-Some.ensures.pieces reads
          ∙ ap (λ omissions. with_omissions omissions (read_lines m format (c.loop-text.line + 1) (pieces 10 c.in-Some.behind.now))) front;
      form = ap (λ (proof : _). proof.form) c.in_ok-push.ensures.ok ∙ c.loop-text.invariant.form;
      counted = omega (arith, ap (λ (proof : _). length proof.omissions) c.in_ok-push.ensures.ok, length_push c.loop-text.proof.omissions omission);
      before = c.in_ok-omission.ensures.before;
      within = omega (arith, c.in-Some.ensures.shorter);
    }
