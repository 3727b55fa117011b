-- The walk over declarations in blocks (ISO C99, 6.7).
use Rattle.std.proofs.Common.{◌≡◌, ℕ, nat_lt, length, Bool, true, false, List, [], ◌∷◌, ◌++◌, Option, None, Some, refl, sym, ap, ◌∙◌, subst, ◌≤◌, arith}
use Rattle.std.specs.Prelude.{IfSome}
use Rattle.cx_core.specs.Trees.{CTy, CStmt}
use Rattle.cx_rules.proofs.UnitNodesAgree.{s_specs_walk, s_declarator_walk, s_named_walk, s_init_declarator_walk, s_init_declarators_walk, s_list_walk}
use Rattle.cx_rules.specs.declared.kinds.SpecsPlace.{SpecsPlace}
use Rattle.cx_rules.specs.Lines.{specs_line, declarator_line}
use Rattle.cx_rules.specs.Scope.{CScope}
use Rattle.cx_rules.specs.Shapes.{CSpecs, CShape, no_specs_yet, base_type}
use Rattle.cx_rules.specs.UnitWalk.{CMeant, nothing_meant, meant_behind, declares_tag}
use Rattle.cx_tree.specs.Trees.{DeclaratorTree, InitialiserTree, InitDeclaratorTree, SpecTrees}
use Rattle.cx_typed.proofs.Derived.{derived_known}
use Rattle.cx_typed.proofs.Goes.{go_gives, go_here_then, go_chain, go_settled}
use Rattle.cx_typed.proofs.Promoted.{neither}
use Rattle.cx_typed.proofs.Specified.{specified}
use Rattle.cx_typed.proofs.Walked.{known_stays, type_on, makes_nothing}
use Rattle.cx_typed.specs.Declarators.{IsShape, ShapeGoes}
use Rattle.cx_typed.specs.Operands.{IsKnownType}
use Rattle.cx_typed.specs.Specifiers.{AreSpecs, SpecsGo}
use Rattle.cx_typed.specs.Walked.{IsGood, Ends}
use Rattle.cx_typed_units.proofs.Blocks.{are_both, blocks_joined, all_on}
use Rattle.cx_typed_units.proofs.Items.{typed_joined}
use Rattle.cx_typed_units.proofs.RestTrees.{kept_specs_walk, kept_declarator_walk}
use Rattle.cx_typed_units.proofs.Rests.{rest_leads}
use Rattle.cx_typed_units.proofs.Once.{once_none, once_later, once_both}
use Rattle.cx_typed_units.proofs.Stretches.{passes_declare, leads_itself, leads_on, backs_first, backs_second}
use Rattle.cx_typed_units.proofs.Unfilled.{unfilled_goes}
use Rattle.cx_typed_units.specs.Forms.{InitGoes, DeclaratorsGo, DeclarationsGo}
use Rattle.cx_typed_units.specs.Rest.{CRest}
use Rattle.cx_typed_units.specs.Statements.{AreBegun, IsDeclaration}
use Rattle.cx_typed_units.specs.Stretches.{IsOrderly, Leads, DeclaresNone}

-- ---- declarations one behind another

begun_joined : (some more : List CStmt) → AreBegun some → AreBegun more → AreBegun (some ++ more)
begun_joined [] more first second = second
begun_joined (one ∷ some) more first second = (first.0, begun_joined some more first.1 second)

module _ (opens : List ℕ) where
  none_declared : (scope : CScope) → IsGood opens scope → IsDeclaration opens scope nothing_meant scope
  none_declared scope good = record {
    good = good;
    leads = leads_itself opens scope;
    body_is = refl;
    begun = tt;
    numbers = once_none scope.next_object scope.next_object (omega arith);
    blocks = λ home backs. tt;
    held = λ home backs known inside. known;
    typed = λ body declares backs known inside among. tt;
  }

  both_declared : (before middle after : CScope) (one other : CMeant) → IsDeclaration opens before one middle → IsDeclaration opens middle other after → IsDeclaration opens before (meant_behind one other) after
  both_declared before middle after one other first second = record {
    good = second.good;
    leads = leads_on opens before middle after first.leads second.leads;
    body_is = second.body_is ∙ first.body_is;
    begun = begun_joined one.stmts other.stmts first.begun second.begun;
    numbers = once_both before.next_object middle.next_object after.next_object one.objects other.objects first.numbers second.numbers;
    blocks = λ home backs.
        blocks_joined home one.objects other.objects (first.blocks home (backs_first opens home before middle after backs second.leads))
        (second.blocks home (backs_second opens home before middle after backs first.leads));
    held = λ home backs known inside.
        let both = are_both home.scope one.objects other.objects inside in
        second.held home (backs_second opens home before middle after backs first.leads) (first.held home (backs_first opens home before middle after backs second.leads) known both.0) both.1;
    typed = λ body declares backs known inside among.
        let both = are_both body.home.scope one.objects other.objects inside in
        let each = are_both declares one.objects other.objects among in
        let early = backs_first opens body.home before middle after backs second.leads in
        let late = backs_second opens body.home before middle after backs first.leads in
        typed_joined body declares one.stmts other.stmts (first.typed body declares early known both.0 each.0)
        (second.typed body declares late (first.held body.home early known both.0) both.1 each.1);
  }

  -- behind what declares nothing
  behind_declared : (before middle after : CScope) (all : CMeant) → Leads opens before middle → DeclaresNone before middle → middle.body ≡ before.body → before.next_object ≤ middle.next_object
      → IsDeclaration opens middle all after
      → IsDeclaration opens before all after
  behind_declared before middle after all leads none body_is more held = record {
    good = held.good;
    leads = leads_on opens before middle after leads held.leads;
    body_is = held.body_is ∙ body_is;
    begun = held.begun;
    numbers = once_later before.next_object middle.next_object after.next_object all.objects more held.numbers;
    blocks = λ home backs. held.blocks home (backs_second opens home before middle after backs leads);
    held = λ home backs known inside. held.held home (backs_second opens home before middle after backs leads) (all_on home before middle none known) inside;
    typed = λ body declares backs known inside among.
        held.typed body declares (backs_second opens body.home before middle after backs leads) (all_on body.home before middle none known) inside among;
  }

  pub type_later : (before after : CScope) (type : CTy) → Leads opens before after → IsKnownType opens before.types before.unit type → IsKnownType opens after.types after.unit type
  type_later before after type leads known =
      subst (λ unit. IsKnownType opens after.types unit type) (sym leads.declares.unit_is) (known_stays opens before.types after.types leads.declares.grows before.unit type known)

-- ---- specifiers and declarators

pub record IsShaped (opens : List ℕ) (before : CScope) (shape : CShape) (after : CScope) : Type 0 where
  pub shape_is : IsShape opens before shape after
  pub leads : Leads opens before after
  pub none : DeclaresNone before after
  pub body_is : after.body ≡ before.body

pub shaped : (opens : List ℕ) (tree : DeclaratorTree) (scope : CScope) → ShapeGoes tree → IsGood opens scope → Ends (s_declarator_walk tree) scope (IsShaped opens scope)
shaped opens tree scope goes good = record {
  ends = λ fine.
      let made = (goes opens scope good).ends fine in
      let stays = (kept_declarator_walk tree scope).kept in
      record {
        shape_is = made;
        leads = rest_leads opens scope (s_declarator_walk tree scope).scope (passes_declare opens scope (s_declarator_walk tree scope).scope made.passes) made.passes.declared stays made.passes.numbers
            (makes_nothing opens scope (s_declarator_walk tree scope).scope made.makes_none);
        none = made.passes.declared;
        body_is = ap {A = CRest} (λ one. one.body) stays.rest_is;
      };
}

pub record AreSpecified (opens : List ℕ) (before : CScope) (specs : CSpecs) (after : CScope) : Type 0 where
  pub specs_are : AreSpecs opens before specs after
  pub leads : Leads opens before after
  pub none : DeclaresNone before after
  pub body_is : after.body ≡ before.body

pub specified_by : (opens : List ℕ) (alone : Bool) (trees : SpecTrees) (scope : CScope) → SpecsGo trees → IsGood opens scope → Ends (s_specs_walk alone no_specs_yet trees) scope (AreSpecified opens scope)
specified_by opens alone trees scope goes good = record {
  ends = λ fine.
      let made = (goes opens alone no_specs_yet scope good tt).ends fine in
      let stays = (kept_specs_walk alone no_specs_yet trees scope).kept in
      record {
        specs_are = made;
        leads = rest_leads opens scope (s_specs_walk alone no_specs_yet trees scope).scope (passes_declare opens scope (s_specs_walk alone no_specs_yet trees scope).scope made.passes) made.passes.declared stays made.passes.numbers
            (makes_nothing opens scope (s_specs_walk alone no_specs_yet trees scope).scope made.makes_none);
        none = made.passes.declared;
        body_is = ap {A = CRest} (λ one. one.body) stays.rest_is;
      };
}

-- ---- the walk

module _ (opens : List ℕ) (place : SpecsPlace) (specs : CSpecs) (few : nat_lt 1 (length specs.storage) ≡ false) (missing : ℕ) where
  declarator_goes : (d : InitDeclaratorTree) (scope : CScope) → ShapeGoes d.declarator → IfSome d.init (InitGoes place) → IsGood opens scope → IsOrderly opens scope → scope.in_function ≡ true
      → IsKnownType opens scope.types scope.unit (base_type specs) → Ends (s_init_declarator_walk place specs missing d) scope (IsDeclaration opens scope)
  declarator_goes d scope first init good orderly inside known =
      go_chain _ _ _ _ scope (IsShaped opens scope) _ (shaped opens d.declarator scope first good) (λ shape middle held.
      go_chain _ _ _ _ middle (λ type later. (IsKnownType opens middle.types middle.unit type) × (later ≡ middle)) _
      (go_here_then _ _ middle _ (go_settled _ middle _ _ _ middle _ (λ unbroken. (
        derived_known opens middle middle.types middle.unit (base_type specs) shape.steps (type_on opens scope middle (base_type specs) held.shape_is.passes known) held.shape_is.known unbroken,
        refl,
      )))) (λ type later at.
      subst (λ found. Ends (s_named_walk place specs (declarator_line missing d.declarator) type shape d.init) found (IsDeclaration opens scope)) (sym at.1)
      (record {
        ends = λ fine. behind_declared opens scope middle _ _ held.leads held.none held.body_is held.shape_is.passes.numbers.grows
            ((named_goes d.init init (declarator_line missing d.declarator) type shape middle held.shape_is.good (held.leads.orderly orderly) (held.leads.in_function_is ∙ inside) at.0).ends fine);
      })))
    where
      named_goes : (init : Option InitialiserTree) → IfSome init (InitGoes place) → (line : ℕ) (type : CTy) (shape : CShape) (middle : CScope) → IsGood opens middle → IsOrderly opens middle
          → middle.in_function ≡ true → IsKnownType opens middle.types middle.unit type → Ends (s_named_walk place specs line type shape init) middle (IsDeclaration opens middle)
      named_goes None goes line type shape middle good orderly inside known = unfilled_goes opens place specs line type shape middle good orderly inside known few
      named_goes (Some init) goes line type shape middle good orderly inside known = goes opens specs line type shape middle good orderly inside known

  declarators_go : (ds : List InitDeclaratorTree) (scope : CScope) → DeclaratorsGo place ds → IsGood opens scope → IsOrderly opens scope → scope.in_function ≡ true
      → IsKnownType opens scope.types scope.unit (base_type specs) → Ends (s_init_declarators_walk place specs missing ds) scope (IsDeclaration opens scope)
  declarators_go [] scope goes good orderly inside known = go_gives nothing_meant scope _ (none_declared opens scope good)
  declarators_go (d ∷ ds) scope goes good orderly inside known =
      go_chain _ _ _ _ scope (IsDeclaration opens scope) _ (declarator_goes d scope goes.0 goes.1 good orderly inside known) (λ one middle held.
      go_chain _ _ _ _ middle (IsDeclaration opens middle) _
      (declarators_go ds middle goes.2 held.good (held.leads.orderly orderly) (held.leads.in_function_is ∙ inside) (type_later opens scope middle (base_type specs) held.leads known)) (λ others after behind.
      go_gives _ after _ (both_declared opens scope middle after one others held behind)))

  list_goes : (ds : List InitDeclaratorTree) (scope : CScope) → DeclaratorsGo place ds → IsGood opens scope → IsOrderly opens scope → scope.in_function ≡ true
      → IsKnownType opens scope.types scope.unit (base_type specs) → Ends (s_list_walk place specs missing ds) scope (IsDeclaration opens scope)
  list_goes [] scope goes good orderly inside known =
      go_here_then _ _ scope _ (go_settled _ scope _ _ _ scope _ (λ unbroken. none_declared opens scope good))
  list_goes (d ∷ ds) scope goes good orderly inside known = declarators_go (d ∷ ds) scope goes good orderly inside known

pub declarations_go : DeclarationsGo
declarations_go place decl goes opens scope good orderly inside =
    go_chain _ _ _ _ scope (AreSpecified opens scope) _ (specified_by opens (declares_tag decl) decl.specs scope goes.0 good) (λ all middle held.
    go_chain _ _ _ _ middle (λ done later. (later ≡ middle) × (nat_lt 1 (length all.storage) ≡ false)) _ (go_here_then _ _ middle _ (go_settled _ middle _ _ _ middle _ (λ unbroken. (refl, (neither unbroken.k4).0)))) (λ done later at.
    subst (λ found. Ends (s_list_walk place all (specs_line decl.specs) decl.list) found (IsDeclaration opens scope)) (sym at.0)
    (record {
      ends = λ fine. behind_declared opens scope middle _ _ held.leads held.none held.body_is held.specs_are.passes.numbers.grows
          ((list_goes opens place all at.1 (specs_line decl.specs) decl.list middle goes.1 held.specs_are.good (held.leads.orderly orderly) (held.leads.in_function_is ∙ inside)
          (specified opens middle.types middle.unit all held.specs_are.known)).ends fine);
    })))
