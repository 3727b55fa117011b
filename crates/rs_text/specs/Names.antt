-- The names of the written crates (the Rust Reference, "Identifiers" and "Keywords").
use Rattle.std.specs.Prelude.{ℕ, Bool, false, not, ◌&&◌, ◌||◌, ◌==◌, nat_eq, nat_le, List, [], ◌∷◌, drop, bytes_eq, codes, if◌then◌else◌}
use Rattle.std.specs.List.{list_all, list_any, starts_with}

-- a digit of ASCII
abbrev pub is_digit : ℕ → Bool
is_digit byte = nat_le 48 byte && nat_le byte 57

-- a letter of ASCII, a digit or `_`
abbrev pub is_word_byte : ℕ → Bool
is_word_byte byte = is_digit byte || nat_le 65 byte && nat_le byte 90 || nat_le 97 byte && nat_le byte 122 || byte == 95

-- letters, digits and `_`, at least one, and no digit first
abbrev pub is_word : List ℕ → Bool
is_word [] = false
is_word (first ∷ rest) = not (is_digit first) && list_all is_word_byte (first ∷ rest)

-- one of these words
abbrev pub is_among : List (List ℕ) → List ℕ → Bool
is_among words name = list_any (λ word. bytes_eq word name) words

-- The words that are no identifiers, also behind `r#`: a place-holder, the segments of paths, and the value of the prelude that the
-- written crates use.
unfoldable pub path_words : List (List ℕ)
path_words = codes "_" ∷ codes "None" ∷ codes "crate" ∷ codes "self" ∷ codes "Self" ∷ codes "super" ∷ []

-- the keywords of every edition, those that are reserved too
unfoldable pub keywords : List (List ℕ)
keywords =
    codes "abstract" ∷ codes "as" ∷ codes "async" ∷ codes "await" ∷ codes "become" ∷ codes "box" ∷ codes "break" ∷
    codes "const" ∷ codes "continue" ∷ codes "do" ∷ codes "dyn" ∷ codes "else" ∷ codes "enum" ∷ codes "extern" ∷
    codes "false" ∷ codes "final" ∷ codes "fn" ∷ codes "for" ∷ codes "gen" ∷ codes "if" ∷ codes "impl" ∷ codes "in" ∷
    codes "let" ∷ codes "loop" ∷ codes "macro" ∷ codes "match" ∷ codes "mod" ∷ codes "move" ∷ codes "mut" ∷
    codes "override" ∷ codes "priv" ∷ codes "pub" ∷ codes "ref" ∷ codes "return" ∷ codes "static" ∷ codes "struct" ∷
    codes "trait" ∷ codes "true" ∷ codes "try" ∷ codes "type" ∷ codes "typeof" ∷ codes "unsafe" ∷ codes "unsized" ∷
    codes "use" ∷ codes "virtual" ∷ codes "where" ∷ codes "while" ∷ codes "yield" ∷ []

-- an identifier that isn't raw
abbrev pub is_plain_identifier : List ℕ → Bool
is_plain_identifier name = is_word name && not (is_among path_words name) && not (is_among keywords name)

-- a raw identifier: a keyword behind `r#`
abbrev pub is_raw_identifier : List ℕ → Bool
is_raw_identifier name = starts_with nat_eq name (codes "r#") && is_among keywords (drop 2 name)

abbrev pub is_identifier : List ℕ → Bool
is_identifier name = is_plain_identifier name || is_raw_identifier name

-- the name of a module: `main` is the crate's own
abbrev pub is_module_name : List ℕ → Bool
is_module_name name = is_plain_identifier name && not (bytes_eq name (codes "main"))

-- a label, without its quote ("Lifetimes and loop labels")
abbrev pub is_label : List ℕ → Bool
is_label name = is_plain_identifier name

-- the name without `r#`, which is its symbol under `#[no_mangle]`
abbrev pub bare_name : List ℕ → List ℕ
bare_name name = if starts_with nat_eq name (codes "r#") then drop 2 name else name
