use Rattle.std.proofs.Common.{◌≡◌, ◌+◌, ◌≤◌, length}
use Rattle.std.specs.Prelude.{IfSome}
use Rattle.definitions.specs.believed.ProofText.{read_lines}
use Rattle.refutation.specs.believed.Proofs.{format_of}
use Rattle.refutation.specs.Reading.{omissions_meant, pieces, with_omissions}
use Rattle.refutation.specs.Repeats.{IsReadTree}
use Rattle.refutation.proofs.spelling.Spelling.read_lines.Given as goal

abbrev pub decreases-loop-text : goal.decreases-loop-text
decreases-loop-text l = length l.rest

-- what is read of all lines is what is read of those that are left, behind the omissions so far
abbrev pub invariant-loop-text : goal.invariant-loop-text
invariant-loop-text l = record {
  read : read_lines l.self.model (format_of l.self.form) 2 (pieces 10 l.bytes)
      ≡ with_omissions (omissions_meant l.proof.omissions) (read_lines l.self.model (format_of l.self.form) l.line (pieces 10 l.rest));
  form : l.proof.form ≡ l.self.form;
  counted : length l.proof.omissions + 2 ≡ l.line;
  before : IfSome l.before (IsReadTree l.self);
  within : l.line + length l.rest ≤ length l.bytes + 2;
}
