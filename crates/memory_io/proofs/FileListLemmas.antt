-- Files found by their name after those of one name were taken out.
use Rattle.std.proofs.Common.{◌≡◌, ◌≢◌, ℕ, Bool, true, false, cond, not, Option, None, List, [], ◌∷◌, filter, find, refl, ap, sym, ◌∙◌, arith}
use Rattle.std.specs.Option.{option_map}
use Rattle.std.proofs.lemmas.Slice.Eq.{bytes_eq-Decides}
use Rattle.memory_io.specs.declared.file_list.FileHeld.{FileHeld}
use Rattle.memory_io.specs.FileLists.{has_name, bytes_of, without}

module _ (test keep : FileHeld → Bool) (b : Bool)
    (alike : (file : FileHeld) → test file ≡ true → keep file ≡ b) where
  -- one more file, by whether the look-up finds it and whether it is kept
  more : (file : FileHeld) (files : List FileHeld) (found kept : Bool)
      → test file ≡ found → keep file ≡ kept → find test (filter keep files) ≡ cond b (find test files) None
      → find test (filter keep (file ∷ files)) ≡ cond b (find test (file ∷ files)) None
  more file files true kept is_found is_kept rest =
      let same : b ≡ kept = sym (alike file is_found) ∙ is_kept in
      grind (arith, same, alike)
  more file files false true is_found is_kept rest = rw (is_kept, is_found) rest
  more file files false false is_found is_kept rest = rw (is_kept, is_found) rest

  -- what is found among the kept files, where all that the look-up finds is kept, or none
  pub find-filter : (files : List FileHeld) → find test (filter keep files) ≡ cond b (find test files) None
  find-filter [] = elim b as (λ v. None ≡ cond {A = Option FileHeld} v None None) [ true ↦ refl | false ↦ refl ]
  find-filter (file ∷ files) = more file files (test file) (keep file) refl refl (find-filter files)

-- no file of the name is left
pub bytes_of-without : (files : List FileHeld) (name : List ℕ) → bytes_of (without files name) name ≡ None
bytes_of-without files name =
    ap (λ o. option_map (λ (file : FileHeld). file.bytes) o)
    (find-filter (has_name name) (λ file. not (has_name name file)) false (λ file found. ap not found) files)

-- the other names keep theirs
kept_by : (file : FileHeld) (name other : List ℕ) (same : Bool)
    → other ≢ name → has_name other file ≡ true → has_name name file ≡ same → not same ≡ true
kept_by file name other false apart found is_same = refl
kept_by file name other true apart found is_same =
    absurd (apart (sym ((bytes_eq-Decides file.name other).0 found) ∙ (bytes_eq-Decides file.name name).0 is_same))

pub bytes_of-others : (files : List FileHeld) (name other : List ℕ)
    → other ≢ name → bytes_of (without files name) other ≡ bytes_of files other
bytes_of-others files name other apart =
    let kept = λ (file : FileHeld) (found : has_name other file ≡ true).
    kept_by file name other (has_name name file) apart found refl in
    ap (λ o. option_map (λ (file : FileHeld). file.bytes) o)
    (find-filter (has_name other) (λ file. not (has_name name file)) true kept files)
