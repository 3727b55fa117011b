-- Declarations outside of functions (ISO C99, 6.7, 6.9).
use Rattle.std.proofs.Common.{◌≡◌, ℕ, nat_lt, false, List, [], ◌∷◌, length, Option, None, Some, refl, sym, ◌∙◌, subst, arith}
use Rattle.std.specs.Prelude.{IfSome}
use Rattle.cx_core.specs.Trees.{CTy}
use Rattle.cx_rules.proofs.UnitNodesAgree.{s_named_walk, s_init_declarator_walk, s_init_declarators_walk, s_list_walk}
use Rattle.cx_rules.specs.declared.kinds.SpecsPlace.TheVariants.{File}
use Rattle.cx_rules.specs.Lines.{specs_line, declarator_line}
use Rattle.cx_rules.specs.Readings.{Seen}
use Rattle.cx_rules.specs.Scope.{CScope}
use Rattle.cx_rules.specs.Shapes.{CSpecs, CShape, base_type}
use Rattle.cx_rules.specs.UnitWalk.{nothing_meant, declares_tag}
use Rattle.cx_tree.specs.Trees.{InitialiserTree, InitDeclaratorTree}
use Rattle.cx_typed.proofs.Begins.{begins_good}
use Rattle.cx_typed.proofs.Derived.{derived_known}
use Rattle.cx_typed.proofs.Goes.{go_gives, go_here_then, go_chain, go_settled}
use Rattle.cx_typed.proofs.Promoted.{neither}
use Rattle.cx_typed.proofs.Scopes.{grows_on}
use Rattle.cx_typed.proofs.Specified.{specified}
use Rattle.cx_typed.proofs.Spelled.{spelled_trees}
use Rattle.cx_typed.proofs.Walked.{known_stays, type_on}
use Rattle.cx_typed.specs.Operands.{IsKnownType}
use Rattle.cx_typed.specs.Spelled.{IsSpelledInit}
use Rattle.cx_typed.specs.Walked.{Ends}
use Rattle.cx_typed_files.proofs.FileFilled.{file_filled}
use Rattle.cx_typed_files.proofs.FileSteps.{IsFileStep, file_on}
use Rattle.cx_typed_files.proofs.FileUnfilled.{file_unfilled}
use Rattle.cx_typed_files.specs.FileScope.{IsAtFileScope, FileDeclarationsGo, UnitsBeginAtFileScope}
use Rattle.cx_typed_units.proofs.Declarations.{IsShaped, shaped, AreSpecified, specified_by}
use Rattle.cx_typed_units.proofs.Once.{once_none}
use Rattle.cx_typed_units.specs.Spelled.{AreSpelledDeclarators}

-- ---- a unit begins

pub units_begin : UnitsBeginAtFileScope
units_begin unit = record {
  good = begins_good unit;
  orderly = record {
    objects = λ name number type is_register linkage is linked. absurd cc;
    functions = λ name number type linkage is. absurd cc;
    things = λ name one is. absurd cc;
    numbers = λ index object is. absurd cc;
  };
  accounted = record {
    objects_differ = λ first second one other at there same. absurd cc;
    literals_differ = λ first second one other at there same. absurd cc;
    apart = λ first second one other at there same. cc;
    objects_below = λ index one at. absurd cc;
    literals_below = λ index one at. absurd cc;
    literals = λ index one at. absurd cc;
    objects = λ index one at. absurd cc;
    listed = λ index one at. absurd cc;
    things_differ = λ first second one other at there same. absurd cc;
    object_things = λ name one there object. absurd cc;
    function_things = λ name one there function. absurd cc;
    functions_differ = λ name other one two there also f g same. absurd cc;
    functions = λ index one at. absurd cc;
    bodies_differ = λ first second one other at there same. absurd cc;
    awaited = λ name is index one at named. cc;
  };
  typed = λ home all. record {
    held = λ name meant is. absurd cc;
    literals = λ index one is. absurd cc;
    objects = λ index one is. absurd cc;
    functions = λ index one is. absurd cc;
  };
  covered = λ index one at. absurd cc;
  outside = refl;
  no_label = refl;
  blocks = once_none 0 0 (omega arith);
  held = λ home backs name meant is. absurd cc;
}

-- ---- declarations

pub unit_on : (opens : List ℕ) {A : Type 0} {seen : Seen A} (scope middle : CScope) → middle.unit ≡ scope.unit → Ends seen middle (λ meant after. IsAtFileScope opens after × (after.unit ≡ middle.unit))
    → Ends seen middle (λ meant after. IsAtFileScope opens after × (after.unit ≡ scope.unit))
unit_on opens scope middle same held = record { ends = λ fine. let done = held.ends fine in (done.0, done.1 ∙ same) }

module _ (opens : List ℕ) (specs : CSpecs) (few : nat_lt 1 (length specs.storage) ≡ false) (missing : ℕ) where
  named_goes : (init : Option InitialiserTree) → IfSome init IsSpelledInit → (line : ℕ) (type : CTy) (shape : CShape) (scope : CScope) → IsAtFileScope opens scope → IsKnownType opens scope.types scope.unit type
      → Ends (s_named_walk File specs line type shape init) scope (λ meant after. IsFileStep opens scope after)
  named_goes None spelled line type shape scope at known = file_unfilled opens specs line type shape scope at known few
  named_goes (Some init) spelled line type shape scope at known =
      file_filled opens specs line type shape scope at known few init (spelled_trees.initialisers init spelled) (spelled_trees.nowhere init spelled)

  declarator_goes : (d : InitDeclaratorTree) (others : List InitDeclaratorTree) (scope : CScope) → AreSpelledDeclarators (d ∷ others) → IsAtFileScope opens scope → IsKnownType opens scope.types scope.unit (base_type specs)
      → Ends (s_init_declarator_walk File specs missing d) scope (λ meant after. IsFileStep opens scope after)
  declarator_goes d others scope spelled at known =
      go_chain _ _ _ _ scope (IsShaped opens scope) _ (shaped opens d.declarator scope (spelled_trees.declarators d.declarator spelled.0) at.good) (λ shape middle held.
      go_chain _ _ _ _ middle (λ type later. (IsKnownType opens middle.types middle.unit type) × (later ≡ middle)) _
      (go_here_then _ _ middle _ (go_settled _ middle _ _ _ middle _ (λ unbroken. (
        derived_known opens middle middle.types middle.unit (base_type specs) shape.steps (type_on opens scope middle (base_type specs) held.shape_is.passes known) held.shape_is.known unbroken,
        refl,
      )))) (λ type later is.
      subst (λ found. Ends (s_named_walk File specs (declarator_line missing d.declarator) type shape d.init) found (λ meant after. IsFileStep opens scope after)) (sym is.1)
      (record {
        ends = λ fine.
            let step = (named_goes d.init spelled.1 (declarator_line missing d.declarator) type shape middle (file_on opens scope middle at held.leads held.shape_is.good held.none held.body_is held.shape_is.passes.numbers.grows) is.0).ends fine in
            record {
              at = step.at;
              unit_is = step.unit_is ∙ held.leads.declares.unit_is;
              grows = grows_on opens scope.types middle.types _ held.leads.declares.grows step.grows;
            };
      })))

  known_later : (scope after : CScope) → IsFileStep opens scope after → IsKnownType opens scope.types scope.unit (base_type specs) → IsKnownType opens after.types after.unit (base_type specs)
  known_later scope after step known =
      subst (λ unit. IsKnownType opens after.types unit (base_type specs)) (sym step.unit_is) (known_stays opens scope.types after.types step.grows scope.unit (base_type specs) known)

  declarators_go : (ds : List InitDeclaratorTree) (scope : CScope) → AreSpelledDeclarators ds → IsAtFileScope opens scope → IsKnownType opens scope.types scope.unit (base_type specs)
      → Ends (s_init_declarators_walk File specs missing ds) scope (λ meant after. IsAtFileScope opens after × (after.unit ≡ scope.unit))
  declarators_go [] scope spelled at known = go_gives nothing_meant scope _ (at, refl)
  declarators_go (d ∷ ds) scope spelled at known =
      go_chain _ _ _ _ scope (λ meant middle. IsFileStep opens scope middle) _ (declarator_goes d ds scope spelled at known) (λ first middle step.
      go_chain _ _ _ _ middle (λ meant after. IsAtFileScope opens after × (after.unit ≡ middle.unit)) _ (declarators_go ds middle spelled.2 step.at (known_later scope middle step known)) (λ others after behind.
      go_gives _ after _ (behind.0, behind.1 ∙ step.unit_is)))

  list_goes : (ds : List InitDeclaratorTree) (scope : CScope) → AreSpelledDeclarators ds → IsAtFileScope opens scope → IsKnownType opens scope.types scope.unit (base_type specs)
      → Ends (s_list_walk File specs missing ds) scope (λ meant after. IsAtFileScope opens after × (after.unit ≡ scope.unit))
  list_goes [] scope spelled at known = go_here_then _ _ scope _ (go_settled _ scope _ _ _ scope _ (λ unbroken. (at, refl)))
  list_goes (d ∷ ds) scope spelled at known = declarators_go (d ∷ ds) scope spelled at known

pub file_declarations : FileDeclarationsGo
file_declarations decl spelled opens scope at =
    go_chain _ _ _ _ scope (AreSpecified opens scope) _ (specified_by opens (declares_tag decl) decl.specs scope (spelled_trees.specifiers decl.specs spelled.0) at.good) (λ all middle held.
    go_chain _ _ _ _ middle (λ done later. (later ≡ middle) × (nat_lt 1 (length all.storage) ≡ false)) _ (go_here_then _ _ middle _ (go_settled _ middle _ _ _ middle _ (λ unbroken. (refl, (neither unbroken.k4).0)))) (λ done later is.
    subst (λ found. Ends (s_list_walk File all (specs_line decl.specs) decl.list) found (λ meant after. IsAtFileScope opens after × (after.unit ≡ scope.unit))) (sym is.0)
    (unit_on opens scope middle held.leads.declares.unit_is (list_goes opens all is.1 (specs_line decl.specs) decl.list middle spelled.1 (file_on opens scope middle at held.leads held.specs_are.good held.none held.body_is held.specs_are.passes.numbers.grows)
    (specified opens middle.types middle.unit all held.specs_are.known)))))
