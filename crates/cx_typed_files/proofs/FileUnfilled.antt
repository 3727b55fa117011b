-- Declarators without initialisers outside of functions (ISO C99, 6.7, 6.9.2).
use Rattle.std.proofs.Common.{◌≡◌, ℕ, nat_lt, true, false, List, [], length, None, refl, sym, ◌∙◌, subst}
use Rattle.cx_core.specs.Trees.{CTy}
use Rattle.cx_rules.proofs.UnitNodesAgree.{s_init_walk, s_declared_ends, s_named_walk}
use Rattle.cx_rules.specs.declared.kinds.SpecsPlace.TheVariants.{File}
use Rattle.cx_rules.specs.Declare.{is_linked, is_typedef, CDeclaring, declaring, begun_as, with_declaration}
use Rattle.cx_rules.specs.Initial.{CStored}
use Rattle.cx_rules.specs.Nodes.{CNode, declares_node}
use Rattle.cx_rules.specs.Readings.{seen_chain}
use Rattle.cx_rules.specs.Rules.{is_unlinked}
use Rattle.cx_rules.specs.Scope.{CScope, ordinary}
use Rattle.cx_rules.specs.Shapes.{CSpecs, CShape}
use Rattle.cx_rules.specs.Types.{is_function, is_incomplete}
use Rattle.cx_rules.specs.UnitWalk.{CMeant as CMeaning, name_or_none, clashes_behind}
use Rattle.cx_typed.proofs.DeclaredForms.{declared_form}
use Rattle.cx_typed.proofs.Goes.{go_gives, go_becomes, go_here_then, go_chain, go_changed}
use Rattle.cx_typed.specs.Operands.{IsKnownType}
use Rattle.cx_typed.specs.Unbroken.{IsUnbroken}
use Rattle.cx_typed.specs.Walked.{Ends}
use Rattle.cx_typed_files.proofs.FileSteps.{IsFileStep, backs_before, backs_between, file_linked, functions_once}
use Rattle.cx_typed_files.specs.FileScope.{IsAtFileScope}
use Rattle.cx_typed_units.proofs.Fine.{begun_is, unclashed, fine_is}
use Rattle.cx_typed_units.proofs.FirstInternal.{first_internal}
use Rattle.cx_typed_units.proofs.Unfilled.{complete_object, size_said, unlinked_is, held_after, made_leads, next_grows}

module _ (opens : List ℕ) (specs : CSpecs) (line : ℕ) (written : CTy) (name : List ℕ) (scope : CScope) (at : IsAtFileScope opens scope) (known : IsKnownType opens scope.types scope.unit written)
    (few : nat_lt 1 (length specs.storage) ≡ false) where
  abbrev one : CDeclaring
  one = declaring scope File specs name line written false

  abbrev behind : CScope
  behind = with_declaration one scope

  abbrev node : CNode
  node = declares_node (record {
    where_stands = File;
    specs = specs;
    type = one.type;
    linkage = one.linkage;
    clashes = clashes_behind false behind (begun_as scope one written) one.type;
    has_init = false;
  })

  ends_so : IsUnbroken behind behind.types node → IsFileStep opens scope behind
  ends_so unbroken =
      let said = size_said (is_typedef specs) (is_unlinked one.linkage) (is_incomplete behind.types one.type) unbroken.k5 in
      let fine = fine_is opens scope at.good at.orderly File specs name line written false known (unclashed scope name (is_typedef specs) written one.linkage false unbroken.k2) (λ typedef no_fun. declared_form behind.types one.linkage one.type no_fun (said typedef)) in
      let begun = begun_is opens scope at.good at.orderly one fine in
      let leads = made_leads opens scope at.good at.orderly one fine refl
      (λ typedef no_fun no_link. complete_object behind.types one.type no_fun (said typedef (unlinked_is one.linkage no_link)) unbroken.m3)
      (λ internal none. first_internal opens scope at.orderly name none File specs written few internal) in
      record {
        at = record {
          good = begun.good;
          orderly = begun.leads.orderly at.orderly;
          accounted = leads.keeps None at.accounted;
          typed = leads.typed None at.accounted at.typed;
          covered = begun.leads.covered at.orderly at.covered;
          outside = begun.leads.in_function_is ∙ at.outside;
          no_label = begun.body_is ∙ at.no_label;
          blocks = functions_once scope.next_object behind.next_object scope.functions behind.functions (next_grows scope one) begun.leads.functions_are at.blocks;
          held = λ home backs.
              held_after opens scope at.good at.orderly one fine (is_typedef specs) (is_function one.type) (is_linked one.linkage) refl refl refl home (backs_between opens home scope behind begun.leads backs)
              (λ t f l. absurd (let h : true ≡ false = sym (file_linked specs written (ordinary name scope.declared) t) ∙ l in cc)) (at.held home (backs_before opens home scope behind begun.leads backs));
        };
        unit_is = begun.leads.declares.unit_is;
        grows = begun.leads.declares.grows;
      }

pub file_unfilled : (opens : List ℕ) (specs : CSpecs) (line : ℕ) (written : CTy) (shape : CShape) (scope : CScope) → IsAtFileScope opens scope → IsKnownType opens scope.types scope.unit written
    → nat_lt 1 (length specs.storage) ≡ false → Ends (s_named_walk File specs line written shape None) scope (λ meant after. IsFileStep opens scope after)
file_unfilled opens specs line written shape scope at known few =
    let one_is = declaring scope File specs (name_or_none shape.name) line written false in
    go_here_then _ _ scope _ (go_chain _ _ _ _ scope (λ begun middle. (begun ≡ begun_as scope one_is written) × (middle ≡ with_declaration one_is scope)) _
    (go_here_then _ _ scope _ (go_chain _ _ _ _ scope (λ done middle. middle ≡ with_declaration one_is scope) _ (go_becomes (with_declaration one_is scope) scope _ refl) (λ done middle is.
    go_gives _ middle _ (refl, is))))
    (λ begun middle is.
    subst (λ found. Ends (seen_chain (List CStored) CMeaning (s_init_walk found.target None) (λ stored. s_declared_ends File specs line scope found false stored)) middle (λ meant after. IsFileStep opens scope after)) (sym is.0)
    (subst (λ later. Ends (seen_chain (List CStored) CMeaning (s_init_walk (begun_as scope one_is written).target None) (λ stored. s_declared_ends File specs line scope (begun_as scope one_is written) false stored)) later
    (λ meant after. IsFileStep opens scope after)) (sym is.1)
    (go_chain _ _ _ _ (with_declaration one_is scope) (λ stored later. (stored ≡ []) × (later ≡ with_declaration one_is scope)) _ (go_gives [] (with_declaration one_is scope) _ (refl, refl)) (λ stored later same.
    subst (λ found. Ends (s_declared_ends File specs line scope (begun_as scope one_is written) false stored) found (λ meant after. IsFileStep opens scope after)) (sym same.1)
    (go_here_then _ _ (with_declaration one_is scope) _ (go_changed _ (with_declaration one_is scope) _ _ _ _ (with_declaration one_is scope) _ (λ unbroken.
    ends_so opens specs line written (name_or_none shape.name) scope at known few unbroken))))))))
