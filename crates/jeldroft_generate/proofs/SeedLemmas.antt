-- What a file of seeds gives.
use Rattle.std.proofs.Common.{◌≡◌, ℕ, List, [], Option, None, Some, Ok, ap, sym, ◌∙◌}
use Rattle.std.specs.Prelude.{option_map, unwrap_or}
use Rattle.std.proofs.lemmas.Option.{none-some, same_Some}
use Rattle.cov_model.specs.believed.Sound.{ModelView}
use Rattle.definitions.specs.believed.RowReading.{RowReading}
use Rattle.outside_io.specs.believed.Files.{Files}
use Rattle.row_text.specs.Readings.{HoldsReading}
use Rattle.row_text.specs.declared.row_file.RowFile as files
use Rattle.jeldroft_args.specs.declared.delimiter.Delimiter.{Delimiter}
use Rattle.jeldroft_files.specs.believed.Tables.{is_comma}
use Rattle.jeldroft_generate.specs.believed.Due.{told_seeds}
use Rattle.jeldroft_generate.specs.believed.Given.{seeds_of}

-- what is told of it stays
pub told_kept : (seeds : Option (List ℕ)) (before after : Files) (held : Option (Option (List ℕ))) → ((name : List ℕ) → after name ≡ before name)
    → told_seeds seeds before ≡ Some held → told_seeds seeds after ≡ Some held
told_kept None before after held keeps told = told
told_kept (Some name) before after held keeps told = ap (option_map Some) (keeps name) ∙ told

-- no file of seeds
pub none_told : (m : ModelView) (delimiter : Option Delimiter) (folder : Files) (seeds : Option (List ℕ)) (held : Option (Option (List ℕ))) (file : files.RowFile)
    → seeds ≡ None → told_seeds seeds folder ≡ Some held → HoldsReading file (record { rows = []; notes = [] })
    → (reading : RowReading) × (seeds_of m (is_comma delimiter (unwrap_or seeds [])) held ≡ Ok reading) × HoldsReading file reading
none_told m delimiter folder None held file is told holds =
    (record { rows = []; notes = [] }, ap (seeds_of m (is_comma delimiter [])) (sym (same_Some None held told)), holds)
none_told m delimiter folder (Some name) held file is told holds = absurd (none-some name (sym is))
