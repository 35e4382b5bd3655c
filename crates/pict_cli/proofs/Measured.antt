-- What a run that measures a suite leaves, and how it ends.
use Rattle.std.proofs.Common.{◌≡◌, ℕ, List, Option, None, subst, sym}
use Rattle.std.specs.Prelude.{IfSome}
use Rattle.cov_model.specs.believed.Sound.{ModelView}
use Rattle.outside_io.specs.believed.Seen.{FolderSeen}
use Rattle.definitions.specs.believed.Settings.{Settings}
use Rattle.pict_cli.specs.believed.Ends.{End}
use Rattle.pict_cli.specs.believed.Runs.{HoldsProof, WritesProof}

-- without a proof file none is written
pub writes_none : (s : Settings) (seed : ℕ) (m : ModelView) (seeds : List (ℕ × List (Option ℕ))) (before after : FolderSeen) (end : End) → s.proof ≡ None
    → WritesProof s seed m seeds before after end
writes_none s seed m seeds before after end none = subst (λ proof. IfSome proof (λ name. HoldsProof s seed m seeds (before.files name) (after.files name) end)) (sym none) tt
