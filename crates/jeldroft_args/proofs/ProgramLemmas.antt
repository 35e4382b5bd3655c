-- A program grows by one argument or command at a time.
use Rattle.std.proofs.Common.{◌≡◌, ◌∙◌, ◌++◌, ◌∷◌, ◌+◌, ◌<◌, ℕ, List, [], ap, ap₂, sym, refl, length, take}
use Rattle.std.specs.List.{slice_index_or}
use Rattle.std.proofs.lemmas.List.{map-append, take_more}
use Rattle.clap.specs.Words.{App, Rule, Shape, Text, with_rule, with_subcommand}
use Rattle.jeldroft_args.specs.believed.Arguments.{rule_of_argument}
use Rattle.jeldroft_args.specs.believed.Programs.{program_of, shape_of_command, shape_with, top_of}
use Rattle.jeldroft_args.specs.declared.argument.Argument.{Argument}
use Rattle.jeldroft_args.specs.declared.command_name.CommandName.{CommandName}

abbrev pub app_with : Text → List Argument → App
app_with name arguments = record { top = shape_with name arguments; subs = [] }

with_one : (name : Text) (xs : List Argument) (x : Argument)
    → with_rule (app_with name xs) (rule_of_argument x) ≡ app_with name (xs ++ x ∷ [])
with_one name xs x = ap (λ (rules : List Rule). record { top = record (shape_with name []) { rules = rules }; subs = [] })
    (sym (map-append rule_of_argument xs (x ∷ [])))

pub with_argument : (made old : App) (rule : Rule) (name : Text) (xs : List Argument) (i : ℕ) (x : Argument) → i < length xs
    → old ≡ app_with name (take i xs) → rule ≡ rule_of_argument (slice_index_or xs i x) → made ≡ with_rule old rule
    → made ≡ app_with name (take (i + 1) xs)
with_argument made old rule name xs i x lt old_is rule_is is = is ∙ ap₂ with_rule old_is rule_is
    ∙ with_one name (take i xs) (slice_index_or xs i x) ∙ ap (app_with name) (sym (take_more xs i x lt))

with_one_command : (xs : List CommandName) (x : CommandName)
    → with_subcommand (program_of xs) (shape_of_command x) ≡ program_of (xs ++ x ∷ [])
with_one_command [] x = refl
with_one_command (y ∷ xs) x = ap (λ (subs : List Shape). record { top = top_of (y ∷ []); subs = shape_of_command y ∷ subs })
    (sym (map-append shape_of_command xs (x ∷ [])))

pub with_command : (made old : App) (shape : Shape) (xs : List CommandName) (i : ℕ) (x : CommandName) → i < length xs
    → old ≡ program_of (take i xs) → shape ≡ shape_of_command (slice_index_or xs i x) → made ≡ with_subcommand old shape
    → made ≡ program_of (take (i + 1) xs)
with_command made old shape xs i x lt old_is shape_is is = is ∙ ap₂ with_subcommand old_is shape_is
    ∙ with_one_command (take i xs) (slice_index_or xs i x) ∙ ap program_of (sym (take_more xs i x lt))
