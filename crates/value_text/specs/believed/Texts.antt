-- Texts under the case rule: the bytes are compared, after the ASCII letters are folded to lower
-- case unless case counts. (PICT's guide; the order by bytes is this project's rule.)
use Rattle.std.specs.Prelude.{◌==◌, ◌||◌, ℕ, Bool, List, if◌then◌else◌}
use Rattle.std.specs.Ordering.{nat_cmp}
use Rattle.std.specs.declared.cmp.Ordering.{Ordering}
use Rattle.std.specs.Str.{str_to_ascii_lowercase, bytes_eq}
use Rattle.std.specs.Cmp.Lexicographic.{slice_cmp}

-- a space or a tab
abbrev pub is_blank : ℕ → Bool
is_blank byte = (byte == 32) || (byte == 9)

-- what is compared in place of a text: the text in lower case, or as it is where case counts
abbrev pub folded : Bool → List ℕ → List ℕ
folded fold text = if fold then str_to_ascii_lowercase text else text

-- the two texts are one under the case rule
abbrev pub is_same_text : Bool → List ℕ → List ℕ → Bool
is_same_text fold a b = bytes_eq (folded fold a) (folded fold b)

-- the order of two texts under the case rule
abbrev pub text_order : Bool → List ℕ → List ℕ → Ordering
text_order fold a b = slice_cmp nat_cmp (folded fold a) (folded fold b)
