-- The walk over declarators and type names (ISO C99, 6.7.5, 6.7.6).
use Rattle.std.proofs.Common.{◌≡◌, ℕ, ◌<◌, ℤ, pos, negsuc, int_lt, Bool, false, List, [], ◌∷◌, Option, None, Some, refl, sym, ◌∙◌, subst, arith}
use Rattle.std.proofs.lemmas.Bool.Decides.{nat_tests}
use Rattle.std.proofs.lemmas.Int.{ints}
use Rattle.std.specs.Prelude.{IfSome}
use Rattle.cx_core.specs.Trees.{CTypes}
use Rattle.cx_lex.specs.declared.token.Keyword.{Keyword}
use Rattle.cx_rules.proofs.NodesAgree.{s_array_seen}
use Rattle.cx_rules.specs.Nodes.{array_node}
use Rattle.cx_rules.specs.Operands.{COperand, value_of, constant_of}
use Rattle.cx_rules.specs.Pieces.{length_written, width_as}
use Rattle.cx_rules.specs.Rules.{value_is}
use Rattle.cx_rules.specs.Scope.{CScope}
use Rattle.cx_rules.specs.Shapes.{CParam, CStep, to_pointer, to_array, to_function, no_shape, no_specs_yet, param_types, base_type}
use Rattle.cx_tree.specs.Trees.{ExprTree, TypeName, SpecTrees, DeclaratorTree, Missing, Identifier, Pointer, Array, Identifiers, BracketsTree, Unsized, Length, StaticFirst, StaticLast, Star}
use Rattle.cx_typed.proofs.Derived.{derived_known}
use Rattle.cx_typed.proofs.Goes.{go_gives, go_here_then, go_chain, go_settled}
use Rattle.cx_typed.proofs.Growing.{types_stay}
use Rattle.cx_typed.proofs.OfNumbers.{constant_numbers}
use Rattle.cx_typed.proofs.Promoted.{neither}
use Rattle.cx_typed.proofs.Scopes.{passes_on, stays_itself}
use Rattle.cx_typed.proofs.Specified.{specified}
use Rattle.cx_typed.proofs.Walked.{type_on}
use Rattle.cx_typed.specs.Constants.{IsOfNumbers}
use Rattle.cx_typed.specs.Declarators.{IsShape, IsStep, ShapeGoes, BracketsGo, DeclaratorFormsGo}
use Rattle.cx_typed.specs.Derived.{AreKnownParams, IsKnownStep, AreKnownSteps}
use Rattle.cx_typed.specs.Growth.{Grows}
use Rattle.cx_typed.specs.Scopes.{Passes}
use Rattle.cx_typed.specs.Specifiers.{AreSpecs, SpecsGo}
use Rattle.cx_typed.specs.Unbroken.{IsUnbroken}
use Rattle.cx_typed.specs.Walked.{IsGood, Ends, IsExpr, ExprGoes, TypeNameGoes}

-- ---- steps stay known

module _ (opens : List ℕ) (before after : CTypes) (grows : Grows opens before after) (unit : ℕ) where
  params_on : (variadic : Bool) (params : Option (List CParam)) → AreKnownParams opens before unit variadic params → AreKnownParams opens after unit variadic params
  params_on variadic None held = held
  params_on variadic (Some params) held = (held.0, types_stay opens before after grows unit (param_types params) held.1, held.2)

  step_on : (step : CStep) → IsKnownStep opens before unit step → IsKnownStep opens after unit step
  step_on (to_pointer is_const is_restrict) held = tt
  step_on (to_array length) held = held
  step_on (to_function params variadic within) held = params_on variadic params held

  steps_on : (steps : List CStep) → AreKnownSteps opens before unit steps → AreKnownSteps opens after unit steps
  steps_on [] held = tt
  steps_on (step ∷ steps) held = (step_on step held.0, steps_on steps held.1)

pub shape_on : (opens : List ℕ) (before after : CScope) (steps : List CStep) → Passes opens before after → AreKnownSteps opens before.types before.unit steps → AreKnownSteps opens after.types after.unit steps
shape_on opens before after steps passes held =
    subst (λ unit. AreKnownSteps opens after.types unit steps) (sym passes.unit_is) (steps_on opens before.types after.types passes.grows before.unit steps held)

-- ---- lengths (6.7.5.2p1)

above_none : (value : ℕ) → int_lt (pos value) (pos 1) ≡ false → 0 < value
above_none value is = grind (arith, ints, nat_tests, is)

length_by : (found : Option ℤ) → value_is (λ value. int_lt value (pos 1)) found ≡ false → IfSome (width_as found) (λ count. 0 < count)
length_by None is = tt
length_by (Some (pos value)) is = above_none value is
length_by (Some (negsuc value)) is = absurd (let h : int_lt (negsuc value) (pos 1) ≡ false = is in grind (arith, ints, h))

length_known : (scope : CScope) (is_plain : Bool) (written : Option COperand) → IsUnbroken scope scope.types (array_node is_plain written)
    → IfSome (length_written scope.types written) (λ count. 0 < count)
length_known scope is_plain None unbroken = tt
length_known scope is_plain (Some written) unbroken = length_by (constant_of scope.types (value_of written)) unbroken.k6

-- a length is a constant, so that no literal is made in it (6.7.5.2p4; the profile has no arrays of variable length)
length_makes_none : (scope : CScope) (is_plain : Bool) (one : COperand) → IsUnbroken scope scope.types (array_node is_plain (Some one)) → IsOfNumbers (value_of one)
length_makes_none scope is_plain one unbroken = constant_numbers scope.types (value_of one) (neither unbroken.o3).1

array_by : (opens : List ℕ) (before scope : CScope) (line : ℕ) (is_plain : Bool) (written : Option COperand) → IsGood opens scope → Passes opens before scope
    → (IsUnbroken scope scope.types (array_node is_plain written) → scope.literals ≡ before.literals)
    → Ends (s_array_seen line is_plain written) scope (IsStep opens before)
array_by opens before scope line is_plain written good passes makes_none =
    go_here_then _ _ scope _ (go_settled _ scope line _ _ scope _ (λ unbroken. record { good = good; passes = passes; makes_none = makes_none unbroken; known = length_known scope is_plain written unbroken }))

-- ---- declarators

pub missing_goes : ShapeGoes Missing
missing_goes opens scope good = go_gives no_shape scope _ (record { good = good; passes = stays_itself opens scope; makes_none = refl; known = tt })

pub identifier_goes : (name lines : List ℕ) → ShapeGoes (Identifier name lines)
identifier_goes name lines opens scope good = go_gives _ scope _ (record { good = good; passes = stays_itself opens scope; makes_none = refl; known = tt })

pub pointer_goes : (qualifiers : List Keyword) (of : DeclaratorTree) (lines : List ℕ) → ShapeGoes of → ShapeGoes (Pointer qualifiers of lines)
pointer_goes qualifiers of lines first opens scope good =
    go_chain _ _ _ _ scope (IsShape opens scope) _ (first opens scope good) (λ shape after held.
    go_gives _ after _ (record { good = held.good; passes = held.passes; makes_none = held.makes_none; known = (tt, held.known) }))

pub array_goes : (of : DeclaratorTree) (brackets : BracketsTree) (lines : List ℕ) → ShapeGoes of → BracketsGo brackets → ShapeGoes (Array of brackets lines)
array_goes of brackets lines first second opens scope good =
    go_chain _ _ _ _ scope (IsShape opens scope) _ (first opens scope good) (λ shape middle held.
    go_chain _ _ _ _ middle (IsStep opens middle) _ (second opens _ middle held.good) (λ step after behind.
    go_gives _ after _ (record {
      good = behind.good;
      passes = passes_on opens scope middle after held.passes behind.passes;
      makes_none = behind.makes_none ∙ held.makes_none;
      known = (behind.known, shape_on opens middle after shape.steps behind.passes held.known);
    })))

pub identifiers_go : (of : DeclaratorTree) (names : List (List ℕ)) (lines : List ℕ) → ShapeGoes of → ShapeGoes (Identifiers of names lines)
identifiers_go of names lines first opens scope good =
    go_chain _ _ _ _ scope (IsShape opens scope) _ (first opens scope good) (λ shape after held.
    go_here_then _ _ after _ (go_settled _ after _ _ _ after _ (λ unbroken. record { good = held.good; passes = held.passes; makes_none = held.makes_none; known = (refl, held.known) })))

-- ---- brackets

pub unsized_goes : (qualifiers : List Keyword) → BracketsGo (Unsized qualifiers)
unsized_goes qualifiers opens line scope good = array_by opens scope scope line _ None good (stays_itself opens scope) (λ unbroken. refl)

pub star_goes : (qualifiers : List Keyword) → BracketsGo (Star qualifiers)
star_goes qualifiers opens line scope good = array_by opens scope scope line _ None good (stays_itself opens scope) (λ unbroken. refl)

pub length_goes : (qualifiers : List Keyword) (size : ExprTree) → ExprGoes size → BracketsGo (Length qualifiers size)
length_goes qualifiers size first opens line scope good =
    go_chain _ _ _ _ scope (IsExpr opens size scope) _ (first opens scope good) (λ one after held. array_by opens scope after line _ (Some one) held.good held.passes
    (λ unbroken. held.makes_none (length_makes_none after _ one unbroken)))

pub static_first_goes : (qualifiers : List Keyword) (size : ExprTree) → ExprGoes size → BracketsGo (StaticFirst qualifiers size)
static_first_goes qualifiers size first opens line scope good =
    go_chain _ _ _ _ scope (IsExpr opens size scope) _ (first opens scope good) (λ one after held. array_by opens scope after line false (Some one) held.good held.passes
    (λ unbroken. held.makes_none (length_makes_none after _ one unbroken)))

pub static_last_goes : (qualifiers : List Keyword) (size : ExprTree) → ExprGoes size → BracketsGo (StaticLast qualifiers size)
static_last_goes qualifiers size first opens line scope good =
    go_chain _ _ _ _ scope (IsExpr opens size scope) _ (first opens scope good) (λ one after held. array_by opens scope after line false (Some one) held.good held.passes
    (λ unbroken. held.makes_none (length_makes_none after _ one unbroken)))

-- ---- type names

pub type_name_goes : (specs : SpecTrees) (declarator : DeclaratorTree) (lines : List ℕ) → SpecsGo specs → ShapeGoes declarator → TypeNameGoes (TypeName specs declarator lines)
type_name_goes specs declarator lines first second opens scope good =
    go_chain _ _ _ _ scope (AreSpecs opens scope) _ (first opens false no_specs_yet scope good tt) (λ all middle held.
    go_chain _ _ _ _ middle (λ done last. AreSpecs opens scope all last) _ (go_here_then _ _ middle _ (go_settled _ middle _ _ _ middle (λ done last. AreSpecs opens scope all last) (λ unbroken. held))) (λ done last seen.
    go_chain _ _ _ _ last (IsShape opens last) _ (second opens last seen.good) (λ shape after behind.
    go_here_then _ _ after _ (go_settled _ after _ _ _ after _ (λ unbroken. record {
      good = behind.good;
      passes = passes_on opens scope last after seen.passes behind.passes;
      makes_none = behind.makes_none ∙ seen.makes_none;
      known =
          derived_known opens after after.types after.unit (base_type all) shape.steps
          (type_on opens last after (base_type all) behind.passes (specified opens last.types last.unit all seen.known)) behind.known unbroken;
    })))))

pub declarators : DeclaratorFormsGo
declarators = record {
  missing = missing_goes;
  identifier = identifier_goes;
  group = λ inner lines first. first;
  pointer = pointer_goes;
  array = array_goes;
  identifiers = identifiers_go;
  unsized = unsized_goes;
  length = length_goes;
  static_first = static_first_goes;
  static_last = static_last_goes;
  star = star_goes;
  type_name = type_name_goes;
}
