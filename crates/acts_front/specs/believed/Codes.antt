-- What the codes are called, what they say, and their statuses. (This project's rules.)
use Rattle.std.specs.Prelude.{ℕ, List, codes}
use Rattle.acts_front.specs.declared.code.ActsCode.{ActsCode}
use Rattle.acts_front.specs.declared.code.ActsCode.TheVariants.{A1, A2, A3, A4, A5, A6, A7, A8, A9, A10, A11}

abbrev pub acts_code : ActsCode → List ℕ
acts_code A1 = codes "A1"
acts_code A2 = codes "A2"
acts_code A3 = codes "A3"
acts_code A4 = codes "A4"
acts_code A5 = codes "A5"
acts_code A6 = codes "A6"
acts_code A7 = codes "A7"
acts_code A8 = codes "A8"
acts_code A9 = codes "A9"
acts_code A10 = codes "A10"
acts_code A11 = codes "A11"

abbrev pub acts_text : ActsCode → List ℕ
acts_text A1 = codes "bad byte"
acts_text A2 = codes "section out of place"
acts_text A3 = codes "not a parameter line"
acts_text A4 = codes "repeated name"
acts_text A5 = codes "not a relation line"
acts_text A6 = codes "bad member"
acts_text A7 = codes "strength out of range"
acts_text A8 = codes "no parameters"
acts_text A9 = codes "not a constraint"
acts_text A10 = codes "unknown parameter"
acts_text A11 = codes "types differ"

-- 5 where a constraint is refused, else 4
abbrev pub refusal_status : ActsCode → ℕ
refusal_status A1 = 4
refusal_status A2 = 4
refusal_status A3 = 4
refusal_status A4 = 4
refusal_status A5 = 4
refusal_status A6 = 4
refusal_status A7 = 4
refusal_status A8 = 4
refusal_status A9 = 5
refusal_status A10 = 5
refusal_status A11 = 5
