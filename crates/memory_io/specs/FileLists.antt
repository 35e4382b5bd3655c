-- Lists of files, each with a name. (This project's rule.)
use Rattle.std.specs.Prelude.{Bool, not, Option, Some, List, ℕ, filter, find}
use Rattle.std.specs.Option.{option_map}
use Rattle.std.specs.Str.{bytes_eq}
use Rattle.outside_io.specs.believed.Files.{Files}
use Rattle.memory_io.specs.declared.file_list.FileHeld.{FileHeld}

-- a file has this name
abbrev pub has_name : List ℕ → FileHeld → Bool
has_name name file = bytes_eq file.name name

-- the bytes of the file of this name, where one is listed
abbrev pub bytes_of : List FileHeld → List ℕ → Option (List ℕ)
bytes_of files name = option_map (λ file. file.bytes) (find (has_name name) files)

-- the list without the files of this name
abbrev pub without : List FileHeld → List ℕ → List FileHeld
without files name = filter (λ file. not (has_name name file)) files

-- what is told of each name where these files are told: the bytes of each of them, and nothing of another name
abbrev pub told_of : List FileHeld → Files
told_of files name = option_map (λ bytes. Some bytes) (bytes_of files name)
