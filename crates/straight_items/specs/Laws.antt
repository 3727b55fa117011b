-- Laws of names, which functions with empty bodies carry.
use Rattle.std.specs.Prelude.{◌≡◌, ℕ, true, List, []}
use Rattle.straight_items.specs.declared.scope.NameScope.{NameScope}
use Rattle.straight_items.specs.Modules.{named_by}
use Rattle.straight_items.specs.Names.{IsRustName, keeps_name}
use Rattle.straight_rust_tree.specs.Names.{is_word, is_identifier, is_module_name}

-- a name that is kept is an identifier of Rust, where it is one of C, and its own Rust name, where nothing is taken
pub record KeptNames : Type 0 where
  pub identifier : (scope : NameScope) (name : List ℕ) → is_word name ≡ true → keeps_name scope name ≡ true → is_identifier name ≡ true
  pub itself : (scope : NameScope) (name : List ℕ) → keeps_name scope name ≡ true → IsRustName [] scope name name

-- a stem that names its module is the name of a module
abbrev pub PlainStemsNameModules : Type 0
PlainStemsNameModules = (stem : List ℕ) → named_by stem ≡ stem → is_module_name stem ≡ true
