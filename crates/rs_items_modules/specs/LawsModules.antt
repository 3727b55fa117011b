-- Laws of the names of modules. There are fewer files than a 64-bit number can tell.
use Rattle.std.specs.Prelude.{◌≡◌, ℕ, ◌+◌, ◌<◌, ◌^◌, true, not, ◌||◌, List, length, bytes_eq, codes}
use Rattle.std.specs.List.{list_all}
use Rattle.rs_items_modules.specs.Modules.{module_candidate, module_name, module_names, stem_of, word_of}
use Rattle.rs_items_sets.specs.Names.{IsFirstFree, reserved}
use Rattle.rs_text.specs.Names.{is_among, is_module_name}
use Rattle.rs_text.specs.Valid.{all_differ}

-- so many files as can be numbered
abbrev pub AreFew : List (List ℕ) → Type 0
AreFew files = length files + 2 < 2 ^ 64

pub record ModuleNames : Type 0 where
  -- the name of a file's module is the first of its candidates that isn't taken
  pub first : (taken : List (List ℕ)) (file : List ℕ) → AreFew taken → IsFirstFree taken (module_candidate (word_of (stem_of file))) (module_name taken file)
  -- there is no other first one
  pub only : (taken : List (List ℕ)) (file one : List ℕ) → AreFew taken → IsFirstFree taken (module_candidate (word_of (stem_of file))) one → one ≡ module_name taken file
  -- each file has one
  pub count : (files : List (List ℕ)) → length (module_names files) ≡ length files
  -- they differ
  pub differ : (files : List (List ℕ)) → AreFew files → all_differ (module_names files) ≡ true
  -- each is the name of a module: an identifier that isn't raw, and not `main`
  pub valid : (files : List (List ℕ)) → AreFew files → list_all is_module_name (module_names files) ≡ true
  -- none is reserved but `main_0`, which is `main` with a suffix
  pub unreserved : (files : List (List ℕ)) → AreFew files → list_all (λ name. not (is_among reserved name) || bytes_eq name (codes "main_0")) (module_names files) ≡ true
