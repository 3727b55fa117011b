-- Lists of named files, as the shelves over memory keep them.
use Rattle.std.specs.Prelude.{ℕ, List, [], Option, Some, option_map, unwrap_or, find, bytes_eq}
use Rattle.shelf.specs.declared.file.File.{File}

-- the bytes of the first file of a name, or none
abbrev pub bytes_of : List File → List ℕ → Option (List ℕ)
bytes_of files asked =
    option_map (λ file. file.bytes) (find (λ file. bytes_eq file.name asked) files)

-- the bytes of the first file of a name, or those of an empty file
abbrev pub bytes_or_empty : List File → List ℕ → Option (List ℕ)
bytes_or_empty files asked = Some (unwrap_or (bytes_of files asked) [])
