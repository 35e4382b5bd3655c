-- The omissions that are explained, from what was read of a proof.
use Rattle.std.proofs.Common.{◌≡◌, ℕ, List, [], map, Ok, Err, Result, sym, ap, ◌∙◌}
use Rattle.definitions.specs.believed.ProofText.{Omission}
use Rattle.refutation.specs.Proofs.{ProofView, omission_meant}
use Rattle.refutation.specs.Reading.{proof_meant}
use Rattle.jeldroft_show.specs.believed.Words.{omissions_read}

pub read_is : (read : Result (ℕ × List Omission) ℕ) (proof : ProofView) → read ≡ Ok (proof_meant proof) → map omission_meant proof.omissions ≡ omissions_read read
read_is read proof is = sym (ap omissions_read is)

pub unread_is : (read : Result (ℕ × List Omission) ℕ) (line : ℕ) (omissions : List Omission) → read ≡ Err line → omissions ≡ [] → omissions ≡ omissions_read read
unread_is read line omissions is none = none ∙ sym (ap omissions_read is)
