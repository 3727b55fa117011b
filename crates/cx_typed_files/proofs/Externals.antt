-- All external declarations of a unit (ISO C99, 6.9).
use Rattle.std.proofs.Common.{◌≡◌, ℕ, List, [], ◌∷◌, refl}
use Rattle.cx_rules.proofs.UnitNodesAgree.{s_external_walk}
use Rattle.cx_rules.specs.Scope.{CScope}
use Rattle.cx_tree.specs.Trees.{ExternalTree, Defined, Declaration}
use Rattle.cx_typed.proofs.Goes.{go_gives, go_chain}
use Rattle.cx_typed.specs.Walked.{Ends}
use Rattle.cx_typed_files.proofs.Definitions.{definitions_go}
use Rattle.cx_typed_files.proofs.FileDeclarations.{unit_on, file_declarations}
use Rattle.cx_typed_files.specs.FileScope.{IsAtFileScope}
use Rattle.cx_typed_files.specs.FileUnits.{IsSpelledExternal, ExternalsGo}

external_goes : (part : ExternalTree) → IsSpelledExternal part → (opens : List ℕ) (scope : CScope) → IsAtFileScope opens scope → Ends (s_external_walk part) scope (λ done after. IsAtFileScope opens after × (after.unit ≡ scope.unit))
external_goes (Defined d) spelled opens scope at = definitions_go d spelled opens scope at
external_goes (Declaration decl) spelled opens scope at =
    go_chain _ _ _ _ scope (λ meant after. IsAtFileScope opens after × (after.unit ≡ scope.unit)) _ (file_declarations decl spelled opens scope at) (λ meant after held. go_gives _ after _ held)

pub externals_go : ExternalsGo
externals_go [] spelled opens scope at = go_gives _ scope _ (at, refl)
externals_go (first ∷ others) spelled opens scope at =
    go_chain _ _ _ _ scope (λ done middle. IsAtFileScope opens middle × (middle.unit ≡ scope.unit)) _ (external_goes first spelled.0 opens scope at) (λ done middle held.
    unit_on opens scope middle held.1 (externals_go others spelled.1 opens middle held.0))
