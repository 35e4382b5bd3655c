use Rattle.std.proofs.Common.{◌≡◌, ◌^◌, ◌-◌, ℕ, List, Option, None, Some, true, ap, refl}
use Rattle.std.specs.Prelude.{min, option_and_then}
use Rattle.memory_io.specs.MemFolder.{Slot, file_of}
use Rattle.definitions.specs.believed.Settings.{Settings}
use Rattle.runs_in_memory.specs.PictFiles.{model_in, model_under, source_of, source_under}
use Rattle.pict_cli.specs.believed.Modes.{model_from, model_source, prints_rows, row_file, row_source, source_in}
use Rattle.command_line.specs.believed.Words.{opts_of, texts}
use Rattle.pict_cli.specs.believed.Words.{asked_by, model_file}
use Rattle.pict_cli.proofs.RunEnds.{asked_or_three, model_then, prints_of_a_file}
use Rattle.runs_in_memory.proofs.SeqRuns.{each_name}
use Rattle.runs_in_memory.proofs.pict_in_memory.run_pict_in_memory.Goals as goal

told : (slots : List Slot) (s : Settings) → row_source s (λ name. Some (file_of slots name)) ≡ Some (source_of slots s)
told slots s = at (row_file s)
  where
    at : (file : Option (List ℕ)) → source_in file (λ name. Some (file_of slots name)) ≡ Some (source_under slots file)
    at None = refl
    at (Some name) = refl

of_a_file : (slots : List Slot) (name : List ℕ) (s : Settings) → prints_rows s ≡ true → model_source s name (λ file. Some (file_of slots file)) ≡ Some (file_of slots name)
of_a_file slots name s is = ap (λ make. model_from make (Some (file_of slots name))) (prints_of_a_file s is)

pub returns-clause-headline : goal.returns-clause-headline
returns-clause-headline g c = λ zero.
    asked_or_three (asked_by (texts c.args.words.now)) c.run_pict.result _
    (λ s asked is. model_then (opts_of s) _ _ _ (λ m notes holds. holds _ refl)
    (c.run_pict.ensures.headline zero s _ _ (record { asked = asked; model = of_a_file c.args.files.now.slots (model_file c.args.words.now) s is; rows = told c.args.files.now.slots s }) is))
    (λ index asked. (c.run_pict.ensures.words (min index (2 ^ 32 - 1)) (index, asked, refl)).0) zero

-- its model, made or not
has_model : (slots : List Slot) (name : List ℕ) (s : Settings) → model_source s name (λ file. Some (file_of slots file)) ≡ Some (model_in slots name s)
has_model slots name s = at s.make
  where
    at : (make : Option ℕ) → model_from make (Some (file_of slots name)) ≡ Some (model_under make (file_of slots name))
    at None = refl
    at (Some n) = refl

pub returns-clause-proof : goal.returns-clause-proof
returns-clause-proof g c = λ zero.
    asked_or_three (asked_by (texts c.args.words.now)) c.run_pict.result _
    (λ s asked. each_name s.proof _ (λ name named.
    c.run_pict.ensures.proof zero s _ _ _
    (record { asked = asked; model = has_model c.args.files.now.slots (model_file c.args.words.now) s; rows = told c.args.files.now.slots s })
    (ap (option_and_then (λ file. Some (file_of c.run_pict.new.files.slots file))) named)))
    (λ index asked. (c.run_pict.ensures.words (min index (2 ^ 32 - 1)) (index, asked, refl)).0) zero
