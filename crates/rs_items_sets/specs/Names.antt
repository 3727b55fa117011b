-- The Rust names of the things of a C program: candidates for a name, and the first of them that isn't taken.
use Rattle.std.specs.Prelude.{◌≡◌, ℕ, zero, suc, ◌+◌, ◌<◌, Bool, true, false, not, ◌||◌, IsTrue, List, [], ◌∷◌, ◌++◌, length, Option, Some, None, bytes_eq, codes, if◌then◌else◌}
use Rattle.std.specs.Fmt.{decimal}
use Rattle.rs_text.specs.Names.{is_among, path_words, keywords}
use Rattle.rs_items_sets.specs.declared.scope.NameScope.{NameScope}
use Rattle.rs_items_sets.specs.declared.scope.NameScope.TheVariants.{Module, Function, Fields}

-- the names that have a meaning of their own in a written crate
unfoldable pub reserved : List (List ℕ)
reserved =
    codes "run_static_initializers" ∷ codes "current_block" ∷ codes "main_0" ∷ codes "core" ∷ codes "std" ∷ codes "Option" ∷
    codes "Some" ∷ codes "None" ∷ codes "i8" ∷ codes "i16" ∷ codes "i32" ∷ codes "i64" ∷ codes "u8" ∷ codes "u16" ∷
    codes "u32" ∷ codes "u64" ∷ codes "isize" ∷ codes "usize" ∷ codes "bool" ∷ []

-- `main` is the crate's own in the set of a module
abbrev pub is_main_in : NameScope → List ℕ → Bool
is_main_in Module name = bytes_eq name (codes "main")
is_main_in Function name = false
is_main_in Fields name = false

-- a name that is no candidate for itself: one that is no identifier, also behind `r#`, a reserved one, or `main`
abbrev pub is_excluded : NameScope → List ℕ → Bool
is_excluded scope name = is_among path_words name || is_among reserved name || is_main_in scope name

-- a keyword is written behind `r#`
abbrev pub raw_or_same : List ℕ → List ℕ
raw_or_same name = if is_among keywords name then codes "r#" ++ name else name

-- the function `main` alone is `main_0` in the sets of a module and of a function
abbrev pub is_entry_in : NameScope → List ℕ → Bool
is_entry_in Module name = bytes_eq name (codes "main_0")
is_entry_in Function name = bytes_eq name (codes "main_0")
is_entry_in Fields name = false

-- a name unless a test excludes it
abbrev pub unless : Bool → List ℕ → Option (List ℕ)
unless true name = None
unless false name = Some name

abbrev pub suffixed : List ℕ → ℕ → List ℕ
suffixed name k = name ++ (codes "_" ++ decimal k)

-- the candidates for a name, by their numbers, of which some aren't there: itself, and then with `_0`, `_1` and so on
abbrev pub candidate : NameScope → List ℕ → ℕ → Option (List ℕ)
candidate scope name zero = unless (is_excluded scope name) (raw_or_same name)
candidate scope name (suc k) = unless (is_entry_in scope (suffixed name k)) (suffixed name k)

-- a candidate that is there and isn't taken
abbrev pub free : List (List ℕ) → Option (List ℕ) → Option (List ℕ)
free taken None = None
free taken (Some name) = unless (is_among taken name) name

-- a candidate, or else another name
abbrev pub name_or : Option (List ℕ) → List ℕ → List ℕ
name_or None other = other
name_or (Some name) other = name

-- the first free candidate from one number on, among so many: no name where none of them is free
abbrev pub first_free : List (List ℕ) → (candidates : ℕ → Option (List ℕ)) → (from : ℕ) → (count : ℕ) → List ℕ
first_free taken candidates from zero = []
first_free taken candidates from (suc count) = name_or (free taken (candidates from)) (first_free taken candidates (suc from) count)

-- The Rust name of a C name in a set. Two candidates at most aren't there, and no more than all that are taken aren't free, so one of
-- the first `length taken + 3` is.
abbrev pub rust_name : List (List ℕ) → NameScope → List ℕ → List ℕ
rust_name taken scope name = first_free taken (candidate scope name) 0 (length taken + 3)

-- ---- what that says

-- a candidate that isn't there, or that is taken
abbrev pub IsGone : List (List ℕ) → Option (List ℕ) → Type 0
IsGone taken None = Unit {0}
IsGone taken (Some name) = IsTrue (is_among taken name)

-- the candidates before a number are gone
abbrev pub AreGone : List (List ℕ) → (candidates : ℕ → Option (List ℕ)) → ℕ → Type 0
AreGone taken candidates above = (k : ℕ) → k < above → IsGone taken (candidates k)

-- the first candidate that isn't taken
pub record IsFirstFree (taken : List (List ℕ)) (candidates : ℕ → Option (List ℕ)) (name : List ℕ) : Type 0 where
  pub number : ℕ
  pub is : candidates number ≡ Some name
  pub free : IsTrue (not (is_among taken name))
  pub first : AreGone taken candidates number

-- the first candidate for a name of C that isn't taken
abbrev pub IsRustName : List (List ℕ) → NameScope → (c_name name : List ℕ) → Type 0
IsRustName taken scope c_name name = IsFirstFree taken (candidate scope c_name) name

-- ---- several names

-- these names behind those that are taken, each the first that is free then
abbrev pub names_from : List (List ℕ) → NameScope → List (List ℕ) → List (List ℕ)
names_from taken scope [] = taken
names_from taken scope (name ∷ names) = names_from (taken ++ rust_name taken scope name ∷ []) scope names
