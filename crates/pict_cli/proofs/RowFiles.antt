-- Row files that are told, and none.
use Rattle.std.proofs.Common.{◌≡◌, ℕ, List, [], map, Option, None, Some, Ok, Err, Result, refl, ap, subst}
use Rattle.std.specs.Prelude.{IfErr, option_map}
use Rattle.std.proofs.lemmas.Option.{none-some, same_Some}
use Rattle.cov_model.specs.believed.Sound.{ModelView}
use Rattle.definitions.specs.believed.RowReading.{RowMode}
use Rattle.row_text.specs.RowFiles.{row_seen}
use Rattle.row_text.specs.declared.row_file.RowFile.{RowFile}
use Rattle.pict_cli.specs.believed.Modes.{RowSource, NoRowFile, RowsHeld}
use Rattle.pict_cli.specs.Steps.{HoldsRows}

pub source_held : (o : Option (Option (List ℕ))) (source : RowSource) (P : RowSource → Type 0) → option_map RowsHeld o ≡ Some source
    → ((held : Option (List ℕ)) → o ≡ Some held → P (RowsHeld held)) → P source
source_held None source P e holds = absurd (none-some source e)
source_held (Some held) source P e holds = subst P (same_Some (RowsHeld held) source e) (holds held refl)

pub if_err_then : {A E : Type 0} {P Q : E → Type 0} (result : Result A E) → ((fault : E) → P fault → Q fault) → IfErr result P → IfErr result Q
if_err_then (Ok value) then holds = tt
if_err_then (Err fault) then holds = then fault holds

pub no_file : (m : ModelView) (mode : RowMode) (file : RowFile) (source : RowSource) → file.rows ≡ [] → file.notes ≡ [] → Some NoRowFile ≡ Some source → HoldsRows m mode source file
no_file m mode file source rows notes e = subst (λ other. HoldsRows m mode other file) (same_Some NoRowFile source e) (record {
  reading = record { rows = []; notes = [] };
  read = refl;
  holds = record { rows = ap (map row_seen) rows; notes = notes };
})
