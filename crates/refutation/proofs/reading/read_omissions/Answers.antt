use Rattle.std.proofs.Common.{◌≡◌, Ok, ◌∙◌, sym, ap}
use Rattle.std.specs.Prelude.{option_map}
use Rattle.definitions.specs.believed.ProofText.{omissions_of, read_lines, with_format}
use Rattle.definitions.proofs.ProofFiles.{proofs_have_one_text}
use Rattle.refutation.specs.believed.Proofs.{format_of}
use Rattle.refutation.specs.Reading.{omissions_meant, pieces, proof_meant}
use Rattle.refutation.proofs.FileLemmas.{first_format, tuples_exist}
use Rattle.refutation.proofs.reading.read_omissions.Goals as goal

-- what is read of the bytes
is_read : (c : goal.In_ok-proof) → omissions_of c.args.model.now c.args.bytes.now ≡ Ok (proof_meant c.in_ok-proof.proof)
is_read c =
    let form = c.in-Some-read_format.form in
    let rest = c.in-Some.rest.now in
    let proof = c.in_ok-proof.proof in
    first_format c.args.model.now c.args.bytes.now c.in-Some.line.now rest (format_of form) c.in-Some.ensures.pieces
    (sym c.read_format.ensures ∙ ap (option_map format_of) c.in-Some-read_format.is)
    ∙ ap (with_format (format_of form))
    (ap (λ (v : _). read_lines v.model (format_of v.form) 2 (pieces 10 rest)) (sym c.new.ensures) ∙ c.in_ok-proof.ensures.read)
    ∙ ap (λ f. Ok (format_of f, omissions_meant proof.omissions)) (sym (c.in_ok-proof.ensures.form ∙ ap (λ (v : _). v.form) c.new.ensures))

pub returns-clause-read : goal.returns-clause-read
returns-clause-read c = is_read c

pub returns-clause-spelled : goal.returns-clause-spelled
returns-clause-spelled c =
    let proof = c.in_ok-proof.proof in
    (proofs_have_one_text c.args.model.now c.args.bytes.now (format_of proof.form) (omissions_meant proof.omissions) c.assert_invariant.ensures (is_read c)).1

pub returns-clause-of_model : goal.returns-clause-of_model
returns-clause-of_model c =
    let proof = c.in_ok-proof.proof in
    tuples_exist c.args.model.now (format_of proof.form) proof.omissions
    (proofs_have_one_text c.args.model.now c.args.bytes.now (format_of proof.form) (omissions_meant proof.omissions) c.assert_invariant.ensures (is_read c)).1
