-- What stays of a scope behind an expression, a type or an initialiser: all but its declarations, its types, its literals, its mentions and
-- the number of the next object.
use Rattle.std.specs.Prelude.{◌≡◌, ◌⊎◌, ℕ, Bool, true, false, List, Option, Some, None, slice_get}
use Rattle.cx_core.specs.declared.program.Linkage.TheVariants.{External}
use Rattle.cx_core.specs.Trees.{CTy, CObject, CFun, CDoes, declares, defines, calls, uses, CMention}
use Rattle.cx_rules.specs.Pieces.{CTarget}
use Rattle.cx_rules.specs.Readings.{Seen, seen_gives, seen_chain, seen_here, seen_becomes, seen_look}
use Rattle.cx_rules.specs.Scope.{CMeant, an_object, a_function, CDeclared, ordinary, CThing, CLabels, CScope}
use Rattle.cx_rules.specs.Shapes.{CSpecs}
use Rattle.cx_rules.specs.Units.{seen_expr, seen_type_name, seen_initialiser}
use Rattle.cx_rules.specs.Walk as walk
use Rattle.cx_tree.specs.Trees.{ExprTree, TypeNameTree, SpecTrees, DeclaratorTree, InitialiserTree}

pub record CRest : Type 0 where
  pub unit : ℕ
  pub begins : ℕ
  pub in_function : Bool
  pub next_function : ℕ
  pub objects : List CObject
  pub functions : List CFun
  pub things : List CThing
  pub body : CLabels

abbrev pub rest_of : CScope → CRest
rest_of scope = record {
  unit = scope.unit;
  begins = scope.begins;
  in_function = scope.in_function;
  next_function = scope.next_function;
  objects = scope.objects;
  functions = scope.functions;
  things = scope.things;
  body = scope.body;
}

abbrev pub LeavesRest : {A : Type 0} → Seen A → Type 0
LeavesRest walked = (scope : CScope) → rest_of (walked scope).scope ≡ rest_of scope

pub record ExpressionsLeaveRest : Type 0 where
  pub expr : (tree : ExprTree) → LeavesRest (seen_expr tree)
  pub type_name : (tree : TypeNameTree) → LeavesRest (seen_type_name tree)
  pub specs : (alone : Bool) (specs : CSpecs) (trees : SpecTrees) → LeavesRest (walk.specs_walk Seen seen_gives seen_chain seen_here seen_becomes seen_look alone specs trees)
  pub declarator : (tree : DeclaratorTree) → LeavesRest (walk.declarator_walk Seen seen_gives seen_chain seen_here seen_becomes seen_look tree)
  pub initialiser : (target : CTarget) (tree : InitialiserTree) → LeavesRest (seen_initialiser target tree)

-- ---- mentions

abbrev pub is_defining : CDoes → Bool
is_defining defines = true
is_defining declares = false
is_defining (calls trailing) = false
is_defining uses = false

-- what is told of as defined was so before
abbrev pub DefinesNone : List CMention → List CMention → Type 0
DefinesNone before after = (index : ℕ) (one : CMention) → slice_get after index ≡ Some one → is_defining one.does ≡ true → slice_get before index ≡ Some one

-- the type of a declared name that is mentioned where it is used: of a function, or of an object with external linkage
abbrev pub linked_type : Option CMeant → Option CTy
linked_type (Some (an_object number type is_register External)) = Some type
linked_type (Some (a_function number type linkage)) = Some type
linked_type _ = None

-- a mention says of a name what was said before
pub record WasSaid (mentions : List CMention) (now : CMention) : Type 0 where
  pub index : ℕ
  pub one : CMention
  pub at : slice_get mentions index ≡ Some one
  pub name_is : one.name ≡ now.name
  pub type_is : one.type ≡ now.type

-- or what the visible declaration of the name says
abbrev pub IsSaid : List CMention → List CDeclared → CMention → Type 0
IsSaid mentions declared now = WasSaid mentions now ⊎ (linked_type (ordinary now.name declared) ≡ Some now.type)
