-- What lists of members give where the walk over them finds no broken node (ISO C99, 6.7.2.1).
use Rattle.std.specs.Prelude.{◌≡◌, ℕ, Bool, true, false, List, ◌∷◌, [], ◌++◌, Option, IfSome, All, is_some, bytes_eq}
use Rattle.std.specs.List.{IsDistinct}
use Rattle.cx_core.specs.Trees.{CTy, CMember, CTypes}
use Rattle.cx_core.specs.ValidTypes.{IsMemberIn, names_of_members}
use Rattle.cx_rules.specs.Operands.{COperand, value_of}
use Rattle.cx_rules.specs.Readings.{Seen, seen_gives, seen_chain, seen_here, seen_becomes, seen_look}
use Rattle.cx_rules.specs.Scope.{CScope}
use Rattle.cx_rules.specs.Walk as walk
use Rattle.cx_tree.specs.Trees.{ExprTree, OptionExprTree, no_expr, some_expr, Record, some_members, SpecTrees, MemberDeclTree, MemberDecl, MemberDeclTrees, no_member_decls, more_member_decls, MemberDeclaratorTree, MemberDeclarator, MemberDeclaratorTrees, no_member_declarators, more_member_declarators, DeclaratorTree}
use Rattle.cx_tree.specs.Valid.{has_name}
use Rattle.cx_typed.specs.Constants.{IsOfNumbers}
use Rattle.cx_typed.specs.Declarators.{ShapeGoes}
use Rattle.cx_typed.specs.Growth.{IsSettled}
use Rattle.cx_typed.specs.Operands.{IsKnownType}
use Rattle.cx_typed.specs.Scopes.{Passes}
use Rattle.cx_typed.specs.Specifiers.{SpecGoes, SpecsGo}
use Rattle.cx_typed.specs.Walked.{IsGood, Ends, ExprGoes}

-- ---- an expression that may be missing: a width, or the value of an enumerator

abbrev pub is_written : OptionExprTree → Bool
is_written no_expr = false
is_written (some_expr one) = true

pub record IsWritten (opens : List ℕ) (tree : OptionExprTree) (before : CScope) (written : Option COperand) (after : CScope) : Type 0 where
  pub good : IsGood opens after
  pub passes : Passes opens before after
  pub there : is_some written ≡ is_written tree
  pub missing : is_written tree ≡ false → after ≡ before
  pub makes_none : IfSome written (λ one. IsOfNumbers (value_of one)) → after.literals ≡ before.literals

abbrev pub OptionGoes : OptionExprTree → Type 0
OptionGoes tree = (opens : List ℕ) (scope : CScope) → IsGood opens scope
    → Ends (walk.option_walk Seen seen_gives seen_chain seen_here seen_becomes seen_look tree) scope (IsWritten opens tree scope)

-- ---- members

-- members that a record may have, and no two of one name
pub record AreKnownMembers (opens : List ℕ) (types : CTypes) (unit : ℕ) (members : List CMember) : Type 0 where
  pub each : All (IsMemberIn types unit) members
  pub settled : All (λ member. IsSettled opens member.type) members
  pub differ : IsDistinct bytes_eq (names_of_members members)

pub record AreMembers (opens : List ℕ) (before : CScope) (members : List CMember) (after : CScope) : Type 0 where
  pub good : IsGood opens after
  pub passes : Passes opens before after
  pub makes_none : after.literals ≡ before.literals
  pub known : AreKnownMembers opens after.types after.unit members

abbrev pub MemberGoes : MemberDeclaratorTree → Type 0
MemberGoes tree = (opens : List ℕ) (is_last : Bool) (before : List CMember) (type : CTy) (scope : CScope) → IsGood opens scope → IsKnownType opens scope.types scope.unit type
    → AreKnownMembers opens scope.types scope.unit before
    → Ends (walk.member_declarator_walk Seen seen_gives seen_chain seen_here seen_becomes seen_look is_last before type tree) scope (λ one after. AreMembers opens scope (before ++ one ∷ []) after)

abbrev pub MembersGo : MemberDeclaratorTrees → Type 0
MembersGo trees = (opens : List ℕ) (is_last : Bool) (before : List CMember) (type : CTy) (scope : CScope) → IsGood opens scope → IsKnownType opens scope.types scope.unit type
    → AreKnownMembers opens scope.types scope.unit before
    → Ends (walk.member_declarators_walk Seen seen_gives seen_chain seen_here seen_becomes seen_look is_last before type trees) scope (AreMembers opens scope)

abbrev pub MemberDeclGoes : MemberDeclTree → Type 0
MemberDeclGoes tree = (opens : List ℕ) (is_last : Bool) (before : List CMember) (scope : CScope) → IsGood opens scope → AreKnownMembers opens scope.types scope.unit before
    → Ends (walk.member_decl_walk Seen seen_gives seen_chain seen_here seen_becomes seen_look is_last before tree) scope (AreMembers opens scope)

abbrev pub MemberDeclsGo : MemberDeclTrees → Type 0
MemberDeclsGo trees = (opens : List ℕ) (before : List CMember) (scope : CScope) → IsGood opens scope → AreKnownMembers opens scope.types scope.unit before
    → Ends (walk.member_decls_walk Seen seen_gives seen_chain seen_here seen_becomes seen_look before trees) scope (AreMembers opens scope)

-- a member's declarator has a name, or a width stands behind it (6.7.2.1)
abbrev pub MayBeMember : DeclaratorTree → OptionExprTree → Type 0
MayBeMember declarator width = is_written width ≡ false → has_name declarator ≡ true

pub record MemberFormsGo : Type 0 where
  pub no_width : OptionGoes no_expr
  pub width : (one : ExprTree) → ExprGoes one → OptionGoes (some_expr one)
  pub member : (declarator : DeclaratorTree) (width : OptionExprTree) (lines : List ℕ) → MayBeMember declarator width → ShapeGoes declarator → OptionGoes width
      → MemberGoes (MemberDeclarator declarator width lines)
  pub no_declarators : MembersGo no_member_declarators
  pub more_declarators : (first : MemberDeclaratorTree) (others : MemberDeclaratorTrees) → MemberGoes first → MembersGo others → MembersGo (more_member_declarators first others)
  pub declaration : (specs : SpecTrees) (list : MemberDeclaratorTrees) (lines : List ℕ) → SpecsGo specs → MembersGo list → MemberDeclGoes (MemberDecl specs list lines)
  pub no_decls : MemberDeclsGo no_member_decls
  pub more_decls : (first : MemberDeclTree) (others : MemberDeclTrees) → MemberDeclGoes first → MemberDeclsGo others → MemberDeclsGo (more_member_decls first others)
  -- a structure or union with its members
  pub record_list : (is_union : Bool) (name : Option (List ℕ)) (list : MemberDeclTrees) (lines : List ℕ) → MemberDeclsGo list → SpecGoes (Record is_union name (some_members list) lines)
