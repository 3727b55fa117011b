-- Laws of names: the Rust name of a name is its first candidate that isn't taken, an identifier, and none of those that are taken. Fewer names are taken than a
-- 64-bit number can tell.
use Rattle.std.specs.Prelude.{◌≡◌, ℕ, ◌+◌, ◌<◌, ◌^◌, true, false, List, length, take}
use Rattle.std.specs.List.{list_all}
use Rattle.rs_items_sets.specs.Names.{IsRustName, names_from, rust_name}
use Rattle.rs_items_sets.specs.declared.scope.NameScope.{NameScope}
use Rattle.rs_text.specs.Names.{is_among, is_word, is_identifier}
use Rattle.rs_text.specs.Valid.{all_differ}

-- so many names as can be numbered
abbrev pub AreFew : List (List ℕ) → Type 0
AreFew taken = length taken + 3 < 2 ^ 64

pub record NamesAreFirst : Type 0 where
  -- one of the candidates that are looked at is free
  pub first : (taken : List (List ℕ)) (scope : NameScope) (name : List ℕ) → AreFew taken → IsRustName taken scope name (rust_name taken scope name)
  -- there is no other first one
  pub only : (taken : List (List ℕ)) (scope : NameScope) (name one : List ℕ) → AreFew taken → IsRustName taken scope name one → one ≡ rust_name taken scope name
  -- it isn't taken
  pub differs : (taken : List (List ℕ)) (scope : NameScope) (name : List ℕ) → AreFew taken → is_among taken (rust_name taken scope name) ≡ false
  -- that of an identifier of C is one of Rust (ISO C99, 6.4.2.1)
  pub identifier : (taken : List (List ℕ)) (scope : NameScope) (name : List ℕ) → AreFew taken → is_word name ≡ true → is_identifier (rust_name taken scope name) ≡ true

-- so many names as can be numbered, with so many more
abbrev pub AreFewWith : (taken names : List (List ℕ)) → Type 0
AreFewWith taken names = length taken + length names + 3 < 2 ^ 64

-- names that are taken one behind the other
pub record NamesDiffer : Type 0 where
  -- those that were taken stay in front
  pub keeps : (taken : List (List ℕ)) (scope : NameScope) (names : List (List ℕ)) → take (length taken) (names_from taken scope names) ≡ taken
  -- each gets one
  pub count : (taken : List (List ℕ)) (scope : NameScope) (names : List (List ℕ)) → length (names_from taken scope names) ≡ length taken + length names
  -- they differ from each other and from those that were taken
  pub differ : (taken : List (List ℕ)) (scope : NameScope) (names : List (List ℕ)) → AreFewWith taken names → all_differ taken ≡ true → all_differ (names_from taken scope names) ≡ true
  -- those of identifiers of C are identifiers of Rust
  pub identifiers : (taken : List (List ℕ)) (scope : NameScope) (names : List (List ℕ)) → AreFewWith taken names → list_all is_identifier taken ≡ true → list_all is_word names ≡ true
      → list_all is_identifier (names_from taken scope names) ≡ true
