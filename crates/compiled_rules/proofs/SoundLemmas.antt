-- The parts of a sound predicate are sound, and the other way.
use Rattle.std.proofs.Common.{◌≡◌, List, All, sym, subst}
use Rattle.std.proofs.lemmas.List.Elements.{All-nil, All-cons, All-head, All-tail}
use Rattle.cov_model.specs.declared.parameter.Param.{Param}
use Rattle.compiled_rules.specs.declared.code.Code as codes
use Rattle.compiled_rules.specs.declared.code.Code.{Code, Row_of-Code, end_of-Code, more_of-Code, items-the_row-Code, items_hidden-the_row-Code-0}
use Rattle.compiled_rules.specs.SoundCodes.{IsSoundCode, AreSoundRows}
use Rattle.compiled_rules.proofs.CodeLemmas.{row_of}

sound_items : {n : _} (params : List Param) (parts : Row_of-Code n) → AreSoundRows params parts → All (IsSoundCode params) (items-the_row-Code n parts)
sound_items params end_of-Code sound = All-nil (IsSoundCode params)
sound_items params (more_of-Code part rest) sound =
    All-cons (IsSoundCode params) part (items-the_row-Code _ rest) sound.0 (sound_items params rest sound.1)

sound_row : {n : _} (params : List Param) (parts : Row_of-Code n) → All (IsSoundCode params) (items-the_row-Code n parts) → AreSoundRows params parts
sound_row params end_of-Code sound = tt
sound_row params (more_of-Code part rest) sound = (
  All-head (IsSoundCode params) part (items-the_row-Code _ rest) sound,
  sound_row params rest (All-tail (IsSoundCode params) part (items-the_row-Code _ rest) sound),
)

pub parts_of_all : (params : List Param) (code : Code) (parts : List Code) → code ≡ codes.All parts → IsSoundCode params code
    → All (IsSoundCode params) parts
parts_of_all params code parts is sound =
    subst (All (IsSoundCode params)) (items_hidden-the_row-Code-0 parts) (sound_items params (row_of (codes.All parts)).1 (subst (IsSoundCode params) is sound))

pub parts_of_any : (params : List Param) (code : Code) (parts : List Code) → code ≡ codes.Any parts → IsSoundCode params code
    → All (IsSoundCode params) parts
parts_of_any params code parts is sound =
    subst (All (IsSoundCode params)) (items_hidden-the_row-Code-0 parts) (sound_items params (row_of (codes.Any parts)).1 (subst (IsSoundCode params) is sound))

pub sound_all : (params : List Param) (parts : List Code) → All (IsSoundCode params) parts → IsSoundCode params (codes.All parts)
sound_all params parts sound = sound_row params (row_of (codes.All parts)).1 (subst (All (IsSoundCode params)) (sym (items_hidden-the_row-Code-0 parts)) sound)

pub sound_any : (params : List Param) (parts : List Code) → All (IsSoundCode params) parts → IsSoundCode params (codes.Any parts)
sound_any params parts sound = sound_row params (row_of (codes.Any parts)).1 (subst (All (IsSoundCode params)) (sym (items_hidden-the_row-Code-0 parts)) sound)
