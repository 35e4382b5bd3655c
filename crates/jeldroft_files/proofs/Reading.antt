-- How the files of a command are read: the options of a model file, and why a reading ends.
use Rattle.std.proofs.Common.{◌≡◌, ℕ, List, Option, Some, None, Err, Bool, true, length, ◌≤◌, ◌∙◌, refl, subst, sym, arith}
use Rattle.std.specs.Prelude.{IfSome}
use Rattle.outside_io.specs.believed.Files.{Files}
use Rattle.command_line.specs.believed.Loading.{StopsReading}
use Rattle.command_line.specs.declared.stop.Stop.{Stop}
use Rattle.jeldroft_args.specs.Ranges as ranges
use Rattle.jeldroft_args.specs.declared.model_file.ModelFile.{ModelFile}
use Rattle.jeldroft_args.specs.declared.strength.Strength.{Strength}
use Rattle.jeldroft_args.specs.declared.strength.Strength.TheVariants.{Number, Max}
use Rattle.model_lex.specs.declared.options.ModelOpts.{ModelOpts}
use Rattle.model_parse.specs.RawModels.{AreOpts, IsOrder}
use Rattle.comma_rows.specs.declared.comma_fault.CommaError.{CommaError}
use Rattle.comma_rows.specs.declared.comma_fault.CommaError.TheVariants.{Fault, NoMemory}
use Rattle.definitions.specs.believed.Limits.{RowFile, most_bytes}
use Rattle.jeldroft_files.specs.Tables.{IsNoTable, StopsTable, cause_of, no_table, out_of_memory}
use Rattle.jeldroft_files.specs.believed.Tables.{as_tabs}
use Rattle.jeldroft_files.specs.Tabbing.{Tabs}
use Rattle.jeldroft_files.specs.believed.Models.{StopsModel, opts_of, order_of}
use Rattle.jeldroft_files.specs.declared.failure.Cause.{Cause}
use Rattle.jeldroft_files.specs.declared.failure.Cause.TheVariants as causes

order_fits : (strength : Strength) → ranges.IsStrength strength → IsOrder (order_of strength)
order_fits (Number n) within = within.0
order_fits Max within = tt

-- marks and a strength in their ranges may be the options of a model file
pub opts_fit : (file : ModelFile) (strength : Strength) → ranges.AreMarks file.marks → ranges.IsStrength strength → AreOpts (opts_of file strength)
opts_fit file strength marks within = record {
  marks = record {
    separator = marks.separator;
    alias = marks.alias;
    prefix = marks.invalid;
    separator_alias = λ same. grind (arith, marks.differ, same);
    separator_prefix = λ same. grind (arith, marks.differ, same);
    alias_prefix = λ same. grind (arith, marks.differ, same);
  };
  order = order_fits strength within;
}

-- a model file that isn't read
told_stops : (opts : ModelOpts) (file : Option (Option (List ℕ))) (stop : Stop) (cause : Cause) → cause ≡ causes.Stop stop
    → IfSome file (λ held. StopsReading opts held stop) → IfSome file (λ held. StopsModel opts held cause)
told_stops opts None stop cause is stops = tt
told_stops opts (Some held) stop cause is stops = (stop, is, stops)

pub stops_model : (files : Files) (name given : List ℕ) (opts asked : ModelOpts) (stop : Stop) (cause : Cause) → given ≡ name → asked ≡ opts → cause ≡ causes.Stop stop
    → IfSome (files given) (λ held. StopsReading asked held stop) → IfSome (files name) (λ held. StopsModel opts held cause)
stops_model files name given opts asked stop cause same read is stops =
    told_stops opts (files name) stop cause is
    (subst (λ n. IfSome (files n) (λ held. StopsReading opts held stop)) same (subst (λ o. IfSome (files given) (λ held. StopsReading o held stop)) read stops))

-- the bytes of a model file that are refused
told_reading : (asked : ModelOpts) (file : Option (Option (List ℕ))) (bytes read : List ℕ) (stop : Stop) → read ≡ bytes
    → IfSome file (λ held. held ≡ Some bytes) → StopsReading asked (Some read) stop → IfSome file (λ held. StopsReading asked held stop)
told_reading asked None bytes read stop same whole stops = tt
told_reading asked (Some held) bytes read stop same whole stops =
    subst (λ found. StopsReading asked found stop) (sym whole) (subst (λ b. StopsReading asked (Some b) stop) same stops)

pub stops_read : (files : Files) (name given : List ℕ) (opts asked : ModelOpts) (bytes read : List ℕ) (stop : Stop) → given ≡ name → asked ≡ opts → read ≡ bytes
    → IfSome (files given) (λ held. held ≡ Some bytes) → StopsReading asked (Some read) stop → IfSome (files name) (λ held. StopsModel opts held (causes.Stop stop))
stops_read files name given opts asked bytes read stop same asks reads whole stops =
    stops_model files name given opts asked stop (causes.Stop stop) same asks refl (told_reading asked (files given) bytes read stop reads whole stops)

-- a text that is no table
told_error : (comma : Bool) (file : Option (Option (List ℕ))) (given : List ℕ) (error : CommaError) (cause : Cause) → comma ≡ true
    → IfSome file (λ held. held ≡ Some given) → length given ≤ most_bytes RowFile → Tabs given (Err error) → cause ≡ cause_of error
    → IfSome file (λ held. StopsTable comma held cause)
told_error comma None given error cause parts whole within tabs is = tt
told_error comma (Some held) given NoMemory cause parts whole within tabs is = out_of_memory is
told_error comma (Some held) given (Fault fault) cause parts whole within tabs is =
    no_table fault is (subst (IsNoTable comma fault) (sym whole) (within, subst (λ b. as_tabs b given ≡ Err fault) (sym parts) tabs))

pub stops_table : (comma result : Bool) (file : Option (Option (List ℕ))) (given bytes : List ℕ) (error : CommaError) (cause : Cause) → result ≡ true → result ≡ comma
    → bytes ≡ given → IfSome file (λ held. held ≡ Some given) → length given ≤ most_bytes RowFile → Tabs bytes (Err error) → cause ≡ cause_of error
    → IfSome file (λ held. StopsTable comma held cause)
stops_table comma result file given bytes error cause parts same read whole within tabs is =
    told_error comma file given error cause (sym same ∙ parts) whole within (subst (λ b. Tabs b (Err error)) read tabs) is
