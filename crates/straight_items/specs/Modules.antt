-- The names of the modules of a written crate.
use Rattle.std.specs.Prelude.{ℕ, ◌-◌, Bool, true, not, ◌==◌, ◌&&◌, ◌||◌, nat_lt, List, [], ◌∷◌, ◌++◌, map, length, take, if◌then◌else◌, bytes_eq, codes}
use Rattle.std.specs.List.{after_last, suffix_len, list_all}
use Rattle.straight_items.specs.declared.scope.NameScope.TheVariants.{Module}
use Rattle.straight_items.specs.Names.{keeps_name}
use Rattle.straight_rust_tree.specs.Names.{is_digit, is_word_byte}

-- how many bytes stand up to the last dot, the dot too; 0 where there is none
abbrev pub up_to_dot : List ℕ → ℕ
up_to_dot name = length name - suffix_len (λ byte. not (byte == 46)) name

-- a name without its last dot and what follows, where that dot isn't the first byte
abbrev pub without_extension : List ℕ → List ℕ
without_extension name = if nat_lt 1 (up_to_dot name) then take (up_to_dot name - 1) name else name

-- the last component of a file's name, without its last dot and what follows
abbrev pub stem_of : List ℕ → List ℕ
stem_of file = without_extension (after_last (λ byte. byte == 47) file)

-- each byte that can't stand in an identifier becomes `_`
abbrev pub word_bytes_of : List ℕ → List ℕ
word_bytes_of stem = map (λ byte. if is_word_byte byte then byte else 95) stem

-- whether a text of such bytes lacks a first byte by which it is an identifier
abbrev pub lacks_start : List ℕ → Bool
lacks_start [] = true
lacks_start (byte ∷ bytes) = is_digit byte || bytes_eq (byte ∷ bytes) (codes "_")

-- letters, digits and `_`, with a first byte by which they are an identifier
abbrev pub is_name : List ℕ → Bool
is_name name = not (lacks_start name) && list_all is_word_byte name

-- the first name that is tried: an identifier out of the stem
abbrev pub identifier_of : List ℕ → List ℕ
identifier_of stem =
    if lacks_start (word_bytes_of stem) then codes "c_" ++ word_bytes_of stem else word_bytes_of stem

-- the name of the first module, by the stem of its file: a word that is kept for something else takes the suffix `_0`
abbrev pub named_by : List ℕ → List ℕ
named_by stem =
    if keeps_name Module (identifier_of stem) then identifier_of stem else identifier_of stem ++ codes "_0"

-- the name of the first module, by the name of its file
abbrev pub module_name : List ℕ → List ℕ
module_name file = named_by (stem_of file)
