-- Definitions of functions, and all of a unit (ISO C99, 6.9).
use Rattle.std.specs.Prelude.{◌≡◌, ℕ, List, [], ◌∷◌}
use Rattle.cx_rules.specs.Readings.{Seen, seen_gives, seen_chain, seen_here, seen_becomes, seen_look}
use Rattle.cx_rules.specs.Scope.{CScope}
use Rattle.cx_rules.specs.UnitWalk as unit
use Rattle.cx_tree.specs.Trees.{StmtTree, Block, DefinitionTree, ExternalTree, Defined, Declaration}
use Rattle.cx_typed.specs.Spelled.{AreSpelledSpecs, IsSpelledDeclarator}
use Rattle.cx_typed.specs.Walked.{Ends}
use Rattle.cx_typed_files.specs.FileScope.{IsAtFileScope}
use Rattle.cx_typed_units.specs.Spelled.{IsSpelledDecl, AreSpelledItems}

-- the body of a function is a block
abbrev pub IsSpelledBody : StmtTree → Type 0
IsSpelledBody (Block items lines) = AreSpelledItems items
IsSpelledBody _ = ⊥

abbrev pub IsSpelledDefinition : DefinitionTree → Type 0
IsSpelledDefinition d = AreSpelledSpecs d.specs × IsSpelledDeclarator d.declarator × IsSpelledBody d.body

-- a definition that breaks no rule leaves what is known between external declarations as it is (6.9.1)
abbrev pub DefinitionsGo : Type 0
DefinitionsGo = (d : DefinitionTree) → IsSpelledDefinition d → (opens : List ℕ) (scope : CScope) → IsAtFileScope opens scope
    → Ends (unit.definition_walk Seen seen_gives seen_chain seen_here seen_becomes seen_look d) scope (λ done after. IsAtFileScope opens after × (after.unit ≡ scope.unit))

-- ---- all external declarations

abbrev pub IsSpelledExternal : ExternalTree → Type 0
IsSpelledExternal (Defined d) = IsSpelledDefinition d
IsSpelledExternal (Declaration decl) = IsSpelledDecl decl

abbrev pub AreSpelledExternals : List ExternalTree → Type 0
AreSpelledExternals [] = Unit {0}
AreSpelledExternals (first ∷ others) = IsSpelledExternal first × AreSpelledExternals others

-- so do all of a unit (6.9)
abbrev pub ExternalsGo : Type 0
ExternalsGo = (parts : List ExternalTree) → AreSpelledExternals parts → (opens : List ℕ) (scope : CScope) → IsAtFileScope opens scope
    → Ends (unit.externals_walk Seen seen_gives seen_chain seen_here seen_becomes seen_look parts) scope (λ done after. IsAtFileScope opens after × (after.unit ≡ scope.unit))
