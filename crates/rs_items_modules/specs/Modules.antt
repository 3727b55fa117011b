-- The names of the modules of a written crate, one for each file of the program in their order (the Rust Reference, "Identifiers", "Keywords" and
-- "Modules").
use Rattle.std.specs.Prelude.{ℕ, zero, suc, ◌+◌, ◌-◌, Bool, true, not, ◌==◌, ◌||◌, nat_lt, List, [], ◌∷◌, ◌++◌, map, length, take, drop, Option, Some, if◌then◌else◌, bytes_eq, codes}
use Rattle.std.specs.List.{suffix_len}
use Rattle.rs_items_sets.specs.Names.{first_free, reserved, suffixed, unless}
use Rattle.rs_text.specs.Names.{is_among, is_digit, is_word_byte, keywords, path_words}

-- ---- a word out of the name of a file

-- how many bytes stand up to the last one that is this, that byte too: 0 where none is
abbrev pub up_to_last : (wanted : ℕ) → List ℕ → ℕ
up_to_last wanted bytes = length bytes - suffix_len (λ byte. not (byte == wanted)) bytes

-- the last component of a file's name
abbrev pub last_component : List ℕ → List ℕ
last_component file = drop (up_to_last 47 file) file

-- a name without its last dot and what follows, where that dot isn't the first byte
abbrev pub without_extension : List ℕ → List ℕ
without_extension name = if nat_lt 1 (up_to_last 46 name) then take (up_to_last 46 name - 1) name else name

abbrev pub stem_of : List ℕ → List ℕ
stem_of file = without_extension (last_component file)

-- a byte that can't stand in an identifier becomes `_`
abbrev pub word_byte_of : ℕ → ℕ
word_byte_of byte = if is_word_byte byte then byte else 95

abbrev pub word_bytes_of : List ℕ → List ℕ
word_bytes_of stem = map (λ byte. word_byte_of byte) stem

-- nothing, a digit first, or `_` alone: no identifier
abbrev pub lacks_start : List ℕ → Bool
lacks_start [] = true
lacks_start (byte ∷ bytes) = is_digit byte || bytes_eq (byte ∷ bytes) (codes "_")

abbrev pub started : Bool → List ℕ → List ℕ
started lacks bytes = if lacks then codes "c_" ++ bytes else bytes

-- letters, digits and `_`, with no digit first and more than `_`
abbrev pub word_of : List ℕ → List ℕ
word_of stem = started (lacks_start (word_bytes_of stem)) (word_bytes_of stem)

-- ---- candidates

-- a word that is no candidate for itself: one that is no identifier, a keyword, a reserved one, or `main`, which is the crate's own
abbrev pub is_kept_back : List ℕ → Bool
is_kept_back word = is_among path_words word || is_among keywords word || is_among reserved word || bytes_eq word (codes "main")

-- the candidates for a word, by their numbers: itself, unless it is kept back, and then with `_0`, `_1` and so on
abbrev pub module_candidate : List ℕ → ℕ → Option (List ℕ)
module_candidate word zero = unless (is_kept_back word) word
module_candidate word (suc k) = Some (suffixed word k)

-- The name of the module of a file beside those that are taken. One candidate at most isn't there, and no more than all that are taken aren't free, so
-- one of the first `length taken + 2` is.
abbrev pub module_name : List (List ℕ) → (file : List ℕ) → List ℕ
module_name taken file = first_free taken (module_candidate (word_of (stem_of file))) 0 (length taken + 2)

-- ---- all files

-- the names of the modules of these files behind those that are taken
abbrev pub module_names_from : List (List ℕ) → (files : List (List ℕ)) → List (List ℕ)
module_names_from taken [] = taken
module_names_from taken (file ∷ files) = module_names_from (taken ++ module_name taken file ∷ []) files

-- the names of the modules of a crate, by the names of its files
abbrev pub module_names : (files : List (List ℕ)) → List (List ℕ)
module_names files = module_names_from [] files
