-- Slots found by their name, and what a write of one slot does to the others.
use Rattle.std.proofs.Common.{◌≡◌, ℕ, ◌<◌, Bool, true, false, cond, max, Option, Some, None, List, [], ◌∷◌, ◌++◌, length, get_or, set, position, nat_lt, nat_le, unwrap_or}
use Rattle.std.proofs.Common.{refl, ap, sym, ◌∙◌, subst, inl, inr, arith}
use Rattle.std.specs.List.{position_or_len, slice_get}
use Rattle.std.specs.Option.{option_map, option_and_then, option_or}
use Rattle.std.specs.Str.{bytes_eq}
use Rattle.std.proofs.lemmas.Bool.Decides.{nat_tests}
use Rattle.std.proofs.lemmas.List.Folds.{find_at, find-set, find_past, find-append}
use Rattle.std.proofs.lemmas.List.Quantifiers.{position-Some}
use Rattle.std.proofs.lemmas.List.Sums.{position_or_len_is}
use Rattle.std.proofs.lemmas.Option.{slice_get-get_or, slice_get_cases}
use Rattle.std.proofs.lemmas.Slice.Eq.{bytes_eq-Decides}
use Rattle.memory_io.specs.MemFolder.{Slot, is_named, slot_of, file_of, room_of, fits, PutsSlot}

abbrev pub slot_with : List ℕ → Option (List ℕ) → ℕ → Slot
slot_with name file room = record { name = name; file = file; room = room }

-- `held` is the first slot of a name, at the place `at`
pub record Found (slots : List Slot) (name : List ℕ) (at : ℕ) (held : Slot) : Type 0 where
  pub within : at < length slots
  pub named : held.name ≡ name
  pub first : at ≡ position_or_len (is_named name) slots
  pub found : slot_of slots name ≡ Some held

-- a place past the end
none_past : (t : Bool) (i : ℕ) (xs : List Slot)
    → t ≡ nat_lt i (length xs) → None ≡ cond {A = Option ℕ} t (Some i) None → slice_get xs i ≡ None
none_past true i xs test none = absurd (cc)
none_past false i xs test none =
    elim (slice_get_cases xs i).1 [ inl w ↦ absurd (grind (arith, nat_tests)) | inr w ↦ w.1 ]

or-none : (o : Option Slot) → option_or o None ≡ o
or-none None = refl
or-none (Some slot) = refl

module _ (slots : List Slot) (name : List ℕ) where
  -- the look-up by place finds the slot; `items` are the slots, as the code reads them
  pub found_at : (items : List Slot) (at : ℕ) (held : Slot)
      → items ≡ slots → Some at ≡ position (is_named name) slots → held ≡ get_or items at held
      → Found slots name at held
  found_at items at held same placed read =
      let p = is_named name in
      let here = position-Some p slots at held (sym placed) in
      let value = read ∙ ap (λ l. get_or l at held) same in
      let passes : p held ≡ true = ap p value ∙ here.1 in
      let first : position_or_len p slots ≡ at =
      position_or_len_is p slots at held (omega (arith, here.0)) (here.2) (λ _. here.1) in
      record {
        within = here.0;
        named = (bytes_eq-Decides held.name name).0 passes;
        first = sym first;
        found = find_at p slots ∙ ap (λ i. slice_get slots i) first
            ∙ slice_get-get_or slots at held here.0 ∙ ap Some (sym value);
      }

  -- a name that has no place has no slot
  pub not_found : None ≡ position (is_named name) slots → slot_of slots name ≡ None
  not_found placed =
      let first = position_or_len (is_named name) slots in
      find_at (is_named name) slots ∙ none_past _ first slots refl placed

  -- the file and the room of a name that has a slot
  pub found-file : (at : ℕ) (held : Slot) → Found slots name at held → file_of slots name ≡ held.file
  found-file at held f = ap (λ s. option_and_then (λ (k : Slot). k.file) s) f.found

  pub found-room : (at : ℕ) (held : Slot) → Found slots name at held → room_of slots name ≡ Some held.room
  found-room at held f = ap (λ s. option_map (λ (k : Slot). k.room) s) f.found

  -- of a name that has none
  pub absent-file : slot_of slots name ≡ None → file_of slots name ≡ None
  absent-file absent = ap (λ s. option_and_then (λ (k : Slot). k.file) s) absent

  pub absent-room : slot_of slots name ≡ None → room_of slots name ≡ None
  absent-room absent = ap (λ s. option_map (λ (k : Slot). k.room) s) absent

  -- whether bytes fit
  pub found-fits : (at : ℕ) (held : Slot) (size : ℕ)
      → Found slots name at held → fits (room_of slots name) size ≡ nat_le size held.room
  found-fits at held size f = ap (λ o. fits o size) (found-room at held f)

  pub absent-fits : (size : ℕ) → slot_of slots name ≡ None → fits (room_of slots name) size ≡ false
  absent-fits size absent = ap (λ o. fits o size) (absent-room absent)

  -- a slot with its room raised, told by what the folder held under its name
  pub raised : (at : ℕ) (held : Slot) (file : Option (List ℕ)) (most : ℕ) → Found slots name at held
      → slot_with held.name file (max held.room most)
      ≡ slot_with name file (max (unwrap_or (room_of slots name) 0) most)
  raised at held file most f =
      ap (λ n. slot_with n file (max held.room most)) f.named
      ∙ ap (λ o. slot_with name file (max (unwrap_or o 0) most)) (sym (found-room at held f))

  -- a slot with another file, told in the same way
  pub refilled : (at : ℕ) (held : Slot) (file : Option (List ℕ)) → Found slots name at held
      → slot_with held.name file held.room ≡ slot_with name file (unwrap_or (room_of slots name) 0)
  refilled at held file f =
      ap (λ n. slot_with n file held.room) f.named
      ∙ ap (λ o. slot_with name file (unwrap_or o 0)) (sym (found-room at held f))

  -- a new slot, told in the same way
  pub fresh : (file : Option (List ℕ)) (most : ℕ) → slot_of slots name ≡ None
      → slot_with name file most ≡ slot_with name file (max (unwrap_or (room_of slots name) 0) most)
  fresh file most absent =
      let room : most ≡ max 0 most = omega arith in
      ap (λ n. slot_with name file n) room
      ∙ ap (λ o. slot_with name file (max (unwrap_or o 0) most)) (sym (absent-room absent))

module _ (slots : List Slot) (slot : Slot) where
  -- a name's slot is written over: what each name then has
  set_by : (at : ℕ) (held : Slot) (name : List ℕ) (same : Bool)
      → Found slots slot.name at held → held ≡ get_or slots at held → bytes_eq slot.name name ≡ same
      → slot_of (set slots at slot) name ≡ cond same (Some slot) (slot_of slots name)
  set_by at held name true f read test =
      let alike : slot.name ≡ name = (bytes_eq-Decides slot.name name).0 test in
      let first = f.first ∙ ap (λ n. position_or_len (is_named n) slots) alike in
      find-set (is_named name) slots at slot first f.within test
  set_by at held name false f read test =
      let other : is_named name (get_or slots at held) ≡ false =
      ap (λ s. is_named name s) (sym read) ∙ ap (λ n. bytes_eq n name) f.named ∙ test in
      find_past (is_named name) slots at slot held other test

  -- a name's slot is added: what each name then has
  push_by : (name : List ℕ) (same : Bool) → slot_of slots slot.name ≡ None → bytes_eq slot.name name ≡ same
      → option_or (slot_of slots name) (slot_of (slot ∷ []) name) ≡ cond same (Some slot) (slot_of slots name)
  push_by name true absent test =
      let alike : slot.name ≡ name = (bytes_eq-Decides slot.name name).0 test in
      let none : slot_of slots name ≡ None = ap (λ n. slot_of slots n) (sym alike) ∙ absent in
      rw (none, test) refl
  push_by name false absent test = rw test (or-none (slot_of slots name))

  -- `changed`, which is this slot, was written at the place of its name
  pub put_at : (items : List Slot) (name : List ℕ) (at : ℕ) (held changed : Slot)
      → items ≡ slots → Some at ≡ position (is_named name) slots → held ≡ get_or items at held
      → slot.name ≡ name → (Found slots name at held → changed ≡ slot)
      → PutsSlot slot slots (set items at changed)
  put_at items name at held changed same placed read named becomes =
      let f = found_at slots name items at held same placed read in
      let g = subst (λ n. Found slots n at held) (sym named) f in
      let value = read ∙ ap (λ l. get_or l at held) same in
      let list : set slots at slot ≡ set items at changed =
      ap (λ l. set l at slot) (sym same) ∙ ap (λ s. set items at s) (sym (becomes f)) in
      subst (λ l. PutsSlot slot slots l) list
      (λ n. set_by at held n (bytes_eq slot.name n) g value refl)

  -- `made`, which is this slot, was added at the end
  pub put_new : (after : List Slot) (name : List ℕ) (made : Slot)
      → slot_of slots name ≡ None → slot.name ≡ name → made ≡ slot → after ≡ slots ++ made ∷ []
      → PutsSlot slot slots after
  put_new after name made absent named becomes pushed =
      let none : slot_of slots slot.name ≡ None = ap (λ n. slot_of slots n) named ∙ absent in
      let list : slots ++ slot ∷ [] ≡ after = ap (λ s. slots ++ s ∷ []) (sym becomes) ∙ sym pushed in
      subst (λ l. PutsSlot slot slots l) list
      (λ n. find-append (is_named n) slots (slot ∷ []) ∙ push_by n (bytes_eq slot.name n) none refl)
