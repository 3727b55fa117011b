-- The names of a module and of the temporaries of its function.
use Rattle.std.specs.Prelude.{◌≡◌, ℕ, true, false, List, [], ◌∷◌, ◌++◌, map, length, All, codes, bytes_eq}
use Rattle.std.specs.List.{IsDistinct, list_any}
use Rattle.straight_core.specs.Trees.{CStmt, CProgram}
use Rattle.straight_rust_tree.specs.Names.{is_word, is_identifier}
use Rattle.straight_whole.specs.CrateOf.{temporaries_of}
use Rattle.straight_whole.specs.Items.{name_or_empty}

-- a name of C that stands in a module as it is: an identifier of Rust, and none of the two names that are the crate's own
pub record IsKept (name : List ℕ) : Type 0 where
  pub word : is_word name ≡ true
  pub identifier : is_identifier name ≡ true
  pub not_entry : bytes_eq name (codes "main_0") ≡ false
  pub not_initialiser : bytes_eq name (codes "run_static_initializers") ≡ false

-- the names of objects and external functions stand in the module as they are
pub record AreNamesKept (program : CProgram) : Type 0 where
  pub objects : All (λ one. IsKept (name_or_empty one.name)) program.objects
  pub externals : All (λ one. IsKept one.name) program.externals

-- the names of the module of a program
abbrev pub module_names : CProgram → List (List ℕ)
module_names program =
    map (λ one. name_or_empty one.name) program.objects
    ++ (map (λ one. one.name) program.externals
    ++ codes "main_0" ∷ codes "run_static_initializers" ∷ [])

-- a name is none of a list's
abbrev pub IsApart : List (List ℕ) → List ℕ → Type 0
IsApart names name = list_any (λ other. bytes_eq other name) names ≡ false

-- names of all temporaries that a body takes: identifiers, which differ from one another and from the module's
pub record AreFresh (program : CProgram) (body : CStmt) (temporaries : List (List ℕ)) : Type 0 where
  pub many : length temporaries ≡ temporaries_of body
  pub identifiers : All (λ name. is_identifier name ≡ true) temporaries
  pub differ : IsDistinct bytes_eq temporaries
  pub apart : All (IsApart (module_names program)) temporaries
