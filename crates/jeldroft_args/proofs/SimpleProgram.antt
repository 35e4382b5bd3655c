-- The program is one of which clap's definitions give the matches and the faults.
use Rattle.std.proofs.Common.{◌≡◌, ◌&&◌, ◌∷◌, Bool, true, List, [], ap₂, refl, map}
use Rattle.std.specs.List.{list_all}
use Rattle.clap.specs.Faults.{has_free_rules, is_simple_and_free}
use Rattle.clap.specs.Simple.{built_leaf, inherited, is_ready_leaf, is_simple_leaf, marked_built, with_leaf_noted}
use Rattle.clap.specs.Words.{Shape}
use Rattle.jeldroft_args.specs.believed.Programs.{program_of, shape_of_command, top_of}
use Rattle.jeldroft_args.specs.declared.command_name.CommandName.{CommandName}
use Rattle.jeldroft_args.specs.declared.command_name.CommandName.TheVariants.{Generate, Check, Shrink, Show, Lint, Measure, Suspect, Sequence, Import}

-- the program as its commands see it, and a command as it is built
abbrev above : Shape
above = with_leaf_noted (marked_built (top_of (Check ∷ [])))

abbrev built_command : CommandName → Shape
built_command command = built_leaf (inherited above (shape_of_command command))

plain : (command : CommandName) → is_simple_leaf (shape_of_command command) ≡ true
plain Generate = refl
plain Check = refl
plain Shrink = refl
plain Show = refl
plain Lint = refl
plain Measure = refl
plain Suspect = refl
plain Sequence = refl
plain Import = refl

ready : (command : CommandName) → is_ready_leaf (built_command command) ≡ true
ready Generate = refl
ready Check = refl
ready Shrink = refl
ready Show = refl
ready Lint = refl
ready Measure = refl
ready Suspect = refl
ready Sequence = refl
ready Import = refl

free : (command : CommandName) → has_free_rules (built_command command) ≡ true
free Generate = refl
free Check = refl
free Shrink = refl
free Show = refl
free Lint = refl
free Measure = refl
free Suspect = refl
free Sequence = refl
free Import = refl

all_plain : (commands : List CommandName) → list_all is_simple_leaf (map shape_of_command commands) ≡ true
all_plain [] = refl
all_plain (c ∷ cs) = ap₂ ◌&&◌ (plain c) (all_plain cs)

all_built : (p : Shape → Bool) → ((command : CommandName) → p (built_command command) ≡ true) → (commands : List CommandName)
    → list_all p (map built_leaf (map (inherited above) (map shape_of_command commands))) ≡ true
all_built p each [] = refl
all_built p each (c ∷ cs) = ap₂ ◌&&◌ (each c) (all_built p each cs)

pub simple_program : (commands : List CommandName) → is_simple_and_free (program_of commands) ≡ true
simple_program [] = refl
simple_program (c ∷ cs) = ap₂ ◌&&◌ (ap₂ ◌&&◌ (all_plain (c ∷ cs)) (all_built is_ready_leaf ready (c ∷ cs))) (all_built has_free_rules free (c ∷ cs))
