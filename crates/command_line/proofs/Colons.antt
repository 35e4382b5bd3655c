-- A word that splits at no colon has none.
use Rattle.std.proofs.Common.{◌≡◌, ℕ, List, false, length, ◌∙◌, arith}
use Rattle.std.proofs.lemmas.Bool.{le-ltb}
use Rattle.std.specs.List.{position_or_len}
use Rattle.value_text.proofs.ListLemmas.{list_any-position}
use Rattle.model_lex.specs.believed.Sections.{has_colon}
use Rattle.definitions.specs.believed.Settings.{is_colon}

pub no_colon : (word : List ℕ) → position_or_len is_colon word ≡ length word → has_colon word ≡ false
no_colon word past = list_any-position is_colon word ∙ le-ltb (position_or_len is_colon word) (length word) (omega (arith, past))
