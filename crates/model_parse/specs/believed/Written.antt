-- A parameter line as it is written: `NAME: a | b (3), ~c, d`. (PICT's guide; the blanks are this project's rule.)
use Rattle.std.specs.Prelude.{ℕ, List, [], ◌∷◌, ◌++◌, flat_map}

-- texts with another one between each two
abbrev pub joined : List ℕ → List (List ℕ) → List ℕ
joined between [] = []
joined between (text ∷ texts) = text ++ flat_map (λ next. between ++ next) texts
