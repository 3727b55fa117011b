-- The walk over members of structures and unions (ISO C99, 6.7.2.1).
use Rattle.std.proofs.Common.{◌≡◌, ◌⊎◌, inl, inr, ℕ, ◌<◌, ◌≤◌, nat_lt, ℤ, pos, negsuc, int_lt, Bool, true, false, ◌&&◌, List, [], ◌∷◌, ◌++◌, Option, None, Some, is_some, is_none, All, bytes_eq, refl, sym, ap, ◌∙◌, subst, arith}
use Rattle.std.proofs.lemmas.Bool.Decides.{nat_tests}
use Rattle.std.proofs.lemmas.Int.{ints}
use Rattle.std.proofs.lemmas.List.Elements.{All-nil, All-cons, All-head, All-tail}
use Rattle.std.specs.Prelude.{IsSome, IfSome}
use Rattle.std.specs.List.{IsDistinct, AllByRecursion, list_any}
use Rattle.std.specs.Ordering.{int_eq}
use Rattle.cx_core.specs.Conversions.{basic_of, rank}
use Rattle.cx_core.specs.declared.ty.Basic.{Basic}
use Rattle.cx_core.specs.declared.ty.Basic.TheVariants.{Truth, Char, SignedChar, UnsignedChar, Short, UnsignedShort, Int, Unsigned, Long, UnsignedLong, LongLong, UnsignedLongLong}
use Rattle.cx_core.specs.Layouts.{layouts_of, whole_extent}
use Rattle.cx_core.specs.Trees.{CTy, ty, void, basic, enum_type, pointer, array, record_type, function, form_of_type, CMember, CTypes}
use Rattle.cx_core.specs.ValidTypes.{IsComplete, IsBitFieldOf, IsMemberIn, names_of_members, most_bits}
use Rattle.cx_rules.proofs.NodesAgree.{s_declarator_walk}
use Rattle.cx_rules.specs.Nodes.{member_node}
use Rattle.cx_rules.specs.Operands.{COperand, value_of, constant_of}
use Rattle.cx_rules.specs.Pieces.{member_of, width_as, no_more_decls, no_more_declarators}
use Rattle.cx_rules.specs.Readings.{seen_gives, seen_chain, seen_here, seen_becomes, seen_look}
use Rattle.cx_rules.specs.Rules.{wider_than_int, has_name as member_has, is_given_name, not_width, most_width, value_is}
use Rattle.cx_rules.specs.Scope.{CScope}
use Rattle.cx_rules.specs.Shapes.{CShape, no_specs_yet, base_type}
use Rattle.cx_rules.specs.Types.{is_function, is_integer, has_size, is_too_large}
use Rattle.cx_tree.specs.Trees.{ExprTree, OptionExprTree, no_expr, some_expr, SpecTrees, MemberDeclTree, MemberDecl, MemberDeclTrees, no_member_decls, more_member_decls, MemberDeclaratorTree, MemberDeclarator, MemberDeclaratorTrees, no_member_declarators, more_member_declarators, DeclaratorTree, Missing, Identifier, Group, Pointer, Array, Function, Identifiers, Unsized, Length, StaticFirst, StaticLast, Star}
use Rattle.cx_tree.specs.Valid.{has_name}
use Rattle.cx_typed.proofs.Derived.{derived_known, fits_by, small_whole, sized_by}
use Rattle.cx_typed.proofs.Goes.{go_gives, go_here_then, go_chain, go_settled}
use Rattle.cx_typed.proofs.OfNumbers.{constant_numbers}
use Rattle.cx_typed.proofs.Promoted.{neither, not_not}
use Rattle.cx_typed.proofs.Records.{members_stay}
use Rattle.cx_typed.proofs.Scopes.{passes_on, stays_itself}
use Rattle.cx_typed.proofs.Specified.{specified}
use Rattle.cx_typed.proofs.Walked.{type_on}
use Rattle.cx_typed.specs.Completed.{IsWritten, OptionGoes, AreKnownMembers, AreMembers, MemberGoes, MembersGo, MemberDeclGoes, MemberDeclsGo, MayBeMember}
use Rattle.cx_typed.specs.Constants.{IsOfNumbers}
use Rattle.cx_typed.specs.Declarators.{IsShape, ShapeGoes}
use Rattle.cx_typed.specs.Growth.{IsSettled}
use Rattle.cx_typed.specs.Operands.{IsKnownType}
use Rattle.cx_typed.specs.Scopes.{Passes}
use Rattle.cx_typed.specs.Specifiers.{AreSpecs, SpecsGo}
use Rattle.cx_typed.specs.Unbroken.{IsUnbroken}
use Rattle.cx_typed.specs.Walked.{IsGood, Ends, IsExpr, ExprGoes}

-- ---- an expression that may be missing

pub no_width_goes : OptionGoes no_expr
no_width_goes opens scope good = go_gives None scope _ (record { good = good; passes = stays_itself opens scope; there = refl; missing = λ none. refl; makes_none = λ held. refl })

pub width_goes : (one : ExprTree) → ExprGoes one → OptionGoes (some_expr one)
width_goes one first opens scope good =
    go_chain _ _ _ _ scope (IsExpr opens one scope) _ (first opens scope good) (λ operand after held.
    go_gives (Some operand) after _ (record { good = held.good; passes = held.passes; there = refl; missing = λ none. absurd cc; makes_none = λ is. held.makes_none is }))

-- ---- the name of a declarator

name_there : (tree : DeclaratorTree) (scope : CScope) → has_name tree ≡ true → IsSome (s_declarator_walk tree scope).meaning.name
unfolding seen_gives seen_chain seen_here seen_becomes seen_look
name_there Missing scope is = absurd cc
name_there (Identifier name lines) scope is = refl
name_there (Group inner lines) scope is = name_there inner scope is
name_there (Pointer qualifiers of lines) scope is = name_there of scope is
name_there (Array of (Unsized qualifiers) lines) scope is = name_there of scope is
name_there (Array of (Length qualifiers size) lines) scope is = name_there of scope is
name_there (Array of (StaticFirst qualifiers size) lines) scope is = name_there of scope is
name_there (Array of (StaticLast qualifiers size) lines) scope is = name_there of scope is
name_there (Array of (Star qualifiers) lines) scope is = name_there of scope is
name_there (Function of list variadic lines) scope is = name_there of scope is
name_there (Identifiers of names lines) scope is = name_there of scope is

record IsNamedShape (opens : List ℕ) (tree : DeclaratorTree) (before : CScope) (shape : CShape) (after : CScope) : Type 0 where
  shape_is : IsShape opens before shape after
  named : has_name tree ≡ true → IsSome shape.name

named_shape : (opens : List ℕ) (tree : DeclaratorTree) (scope : CScope) → Ends (s_declarator_walk tree) scope (IsShape opens scope) → Ends (s_declarator_walk tree) scope (IsNamedShape opens tree scope)
named_shape opens tree scope held = record { ends = λ fine. record { shape_is = held.ends fine; named = name_there tree scope } }

-- ---- lists

pub all_behind : {X : Type 0} (P : X → Type 0) (xs : List X) (x : X) → All P xs → P x → All P (xs ++ x ∷ [])
all_behind P [] x held more = All-cons P x [] more (All-nil P)
all_behind P (first ∷ xs) x held more = All-cons P first (xs ++ x ∷ []) (All-head P first xs held) (all_behind P xs x (All-tail P first xs held) more)

distinct_behind : (names : List (List ℕ)) (name : List ℕ) → IsDistinct bytes_eq names → AllByRecursion (λ other. bytes_eq other name ≡ false) names → IsDistinct bytes_eq (names ++ name ∷ [])
unfolding IsDistinct
distinct_behind [] name held apart = (tt, tt)
distinct_behind (first ∷ names) name held apart = (each_behind names held.0 apart.0, distinct_behind names name held.1 apart.1)
  where
    each_behind : (names : List (List ℕ)) → AllByRecursion (λ other. bytes_eq first other ≡ false) names → bytes_eq first name ≡ false → AllByRecursion (λ other. bytes_eq first other ≡ false) (names ++ name ∷ [])
    each_behind [] held more = (more, tt)
    each_behind (other ∷ names) held more = (held.0, each_behind names held.1 more)

-- ---- names of members

names_behind : (before : List CMember) (one : CMember) (name : List ℕ) → one.name ≡ Some name → names_of_members (before ++ one ∷ []) ≡ names_of_members before ++ name ∷ []
names_behind [] one name is = ap (λ found. elim found as (λ _. List (List ℕ)) [ None ↦ [] | Some name ↦ name ∷ [] ]) is
names_behind (first ∷ before) one name is = by_name first.name (names_behind before one name is)
  where
    by_name : (found : Option (List ℕ)) → names_of_members (before ++ one ∷ []) ≡ names_of_members before ++ name ∷ []
        → (elim found as (λ _. List (List ℕ)) [ None ↦ names_of_members (before ++ one ∷ []) | Some name ↦ name ∷ names_of_members (before ++ one ∷ []) ])
        ≡ (elim found as (λ _. List (List ℕ)) [ None ↦ names_of_members before | Some name ↦ name ∷ names_of_members before ]) ++ name ∷ []
    by_name None held = held
    by_name (Some other) held = ap (λ names. other ∷ names) held

no_names_behind : (before : List CMember) (one : CMember) → one.name ≡ None → names_of_members (before ++ one ∷ []) ≡ names_of_members before
no_names_behind [] one is = ap (λ found. elim found as (λ _. List (List ℕ)) [ None ↦ [] | Some name ↦ name ∷ [] ]) is
no_names_behind (first ∷ before) one is = by_name first.name (no_names_behind before one is)
  where
    by_name : (found : Option (List ℕ)) → names_of_members (before ++ one ∷ []) ≡ names_of_members before
        → (elim found as (λ _. List (List ℕ)) [ None ↦ names_of_members (before ++ one ∷ []) | Some name ↦ name ∷ names_of_members (before ++ one ∷ []) ])
        ≡ (elim found as (λ _. List (List ℕ)) [ None ↦ names_of_members before | Some name ↦ name ∷ names_of_members before ])
    by_name None held = held
    by_name (Some other) held = ap (λ names. other ∷ names) held

-- no member before has this name (6.7.2.1p1, 6.2.3)
names_apart : (name : List ℕ) (before : List CMember) → list_any (member_has (Some name)) before ≡ false → AllByRecursion (λ other. bytes_eq other name ≡ false) (names_of_members before)
names_apart name [] is = tt
names_apart name (first ∷ before) is = by_name first.name (neither is).0 (names_apart name before (neither is).1)
  where
    by_name : (found : Option (List ℕ)) → is_given_name name found ≡ false → AllByRecursion (λ other. bytes_eq other name ≡ false) (names_of_members before)
        → AllByRecursion (λ other. bytes_eq other name ≡ false) (elim found as (λ _. List (List ℕ)) [ None ↦ names_of_members before | Some name ↦ name ∷ names_of_members before ])
    by_name None differ held = held
    by_name (Some other) differ held = (differ, held)

names_differ : (before : List CMember) (one : CMember) (name : Option (List ℕ)) → one.name ≡ name → IsDistinct bytes_eq (names_of_members before) → list_any (member_has name) before ≡ false
    → IsDistinct bytes_eq (names_of_members (before ++ one ∷ []))
names_differ before one None is held apart = subst (IsDistinct bytes_eq) (sym (no_names_behind before one is)) held
names_differ before one (Some name) is held apart =
    subst (IsDistinct bytes_eq) (sym (names_behind before one name is)) (distinct_behind (names_of_members before) name held (names_apart name before apart))

-- ---- bit-fields (6.7.2.1p3)

rank_low : (which : Basic) → nat_lt (rank Int) (rank which) ≡ false → rank which ≤ rank Int
rank_low which is = grind (arith, nat_tests)

narrow_by : (found : Option Basic) → wider_than_int found ≡ false → IfSome found (λ which. rank which ≤ rank Int)
narrow_by None is = tt
narrow_by (Some which) is = rank_low which is

pub basic_complete : (types : CTypes) (which : Basic) (is_const : Bool) → IsComplete types (ty (basic which) is_const)
basic_complete types Truth is_const = refl
basic_complete types Char is_const = refl
basic_complete types SignedChar is_const = refl
basic_complete types UnsignedChar is_const = refl
basic_complete types Short is_const = refl
basic_complete types UnsignedShort is_const = refl
basic_complete types Int is_const = refl
basic_complete types Unsigned is_const = refl
basic_complete types Long is_const = refl
basic_complete types UnsignedLong is_const = refl
basic_complete types LongLong is_const = refl
basic_complete types UnsignedLongLong is_const = refl

pub integer_complete : (types : CTypes) (type : CTy) → is_integer types type ≡ true → IsComplete types type
integer_complete types (ty (basic which) is_const) is = basic_complete types which is_const
integer_complete types (ty (enum_type number) is_const) is = refl
integer_complete types (ty void is_const) is = absurd cc
integer_complete types (ty (pointer to) is_const) is = absurd cc
integer_complete types (ty (array element length) is_const) is = absurd cc
integer_complete types (ty (record_type number) is_const) is = absurd cc
integer_complete types (ty (function result params variadic) is_const) is = absurd cc

-- the width of a constant that may be one
record IsWidth (types : CTypes) (type : CTy) (name : Option (List ℕ)) (width : ℕ) : Type 0 where
  fits : IfSome (basic_of types (form_of_type type)) (λ which. width ≤ most_bits which)
  named : IsSome name → 0 < width

not_above : (most width : ℕ) → int_lt (pos most) (pos width) ≡ false → width ≤ most
not_above most width is = grind (arith, ints, nat_tests)

fits_in : (found : Option Basic) (width : ℕ) → int_lt (pos (most_width found)) (pos width) ≡ false → IfSome found (λ which. width ≤ most_bits which)
fits_in None width is = tt
fits_in (Some which) width is = not_above (most_bits which) width is

not_none : (width : ℕ) → int_eq (pos width) (pos 0) ≡ false → 0 < width
not_none width is = grind (arith, ints, nat_tests, is)

some_width : (name : Option (List ℕ)) (width : ℕ) → (is_some name && int_eq (pos width) (pos 0)) ≡ false → IsSome name → 0 < width
some_width None width is named = absurd cc
some_width (Some name) width is named = not_none width is

width_by : (types : CTypes) (type : CTy) (name : Option (List ℕ)) (found : Option ℤ) → is_none found ≡ false → value_is (not_width types type name) found ≡ false → IfSome (width_as found) (IsWidth types type name)
width_by types type name None there is = tt
width_by types type name (Some (pos width)) there is =
    record { fits = fits_in (basic_of types (form_of_type type)) width (neither (neither is).1).0; named = some_width name width (neither (neither is).1).1 }
width_by types type name (Some (negsuc n)) there is = absurd cc

if_width : {P Q : ℕ → Type 0} (found : Option ℕ) → ((width : ℕ) → P width → Q width) → IfSome found P → IfSome found Q
if_width None more held = tt
if_width (Some width) more held = more width held

-- ---- a member

is_there : (found : Option ℤ) → is_none found ≡ false → IsSome (width_as found)
is_there None is = absurd cc
is_there (Some value) is = refl

either_name : (name : Option (List ℕ)) (bits : Option ℕ) → (IsSome bits → ⊥) ⊎ IsSome bits → ((IsSome bits → ⊥) → IsSome name) → IsSome name ⊎ IsSome bits
either_name name bits (inl none) named = inl (named none)
either_name name bits (inr some) named = inr some

module _ (scope : CScope) (is_last : Bool) (name : Option (List ℕ)) (type : CTy) (before : List CMember) where
  bits_are : (width : Option COperand) → IsUnbroken scope scope.types (member_node is_last name type width before) → IfSome (member_of scope.types name type width).bits (IsBitFieldOf scope.types (member_of scope.types name type width))
  bits_are None unbroken = tt
  bits_are (Some width) unbroken =
      if_width (width_as (constant_of scope.types (value_of width)))
      (λ bits held. record {
        integer = not_not (neither unbroken.k22).0;
        narrow = narrow_by (basic_of scope.types (form_of_type type)) unbroken.o6;
        fits = held.fits;
        named = held.named;
      }) (width_by scope.types type name (constant_of scope.types (value_of width)) unbroken.k17 (neither unbroken.k22).1)

  complete_by : (width : Option COperand) → IsUnbroken scope scope.types (member_node is_last name type width before) → (is_some width ≡ false → is_too_large scope.types type ≡ false) → IsComplete scope.types type
  complete_by (Some width) unbroken small = integer_complete scope.types type (not_not (neither unbroken.k22).0)
  complete_by None unbroken small =
      let no_code : is_function type ≡ false = (neither unbroken.k8).0 in
      fits_by (whole_extent (layouts_of scope.types) type) (sized_by (is_function type) (has_size scope.types type) no_code unbroken.k5) (small_whole (layouts_of scope.types) type (small refl))

  name_or_bits : (width : Option COperand) → IsUnbroken scope scope.types (member_node is_last name type width before) → (is_some width ≡ false → IsSome name)
      → IsSome name ⊎ IsSome (member_of scope.types name type width).bits
  name_or_bits None unbroken named = inl (named refl)
  name_or_bits (Some width) unbroken named = inr (is_there (constant_of scope.types (value_of width)) unbroken.k17)

  width_of_numbers : (width : Option COperand) → IsUnbroken scope scope.types (member_node is_last name type width before) → IfSome width (λ one. IsOfNumbers (value_of one))
  width_of_numbers None unbroken = tt
  width_of_numbers (Some width) unbroken = constant_numbers scope.types (value_of width) unbroken.k17

  member_known : (opens : List ℕ) (width : Option COperand) → IsKnownType opens scope.types scope.unit type → AreKnownMembers opens scope.types scope.unit before
      → IsUnbroken scope scope.types (member_node is_last name type width before) → (is_some width ≡ false → is_too_large scope.types type ≡ false) → (is_some width ≡ false → IsSome name)
      → AreKnownMembers opens scope.types scope.unit (before ++ member_of scope.types name type width ∷ [])
  member_known opens width known held unbroken small named = record {
    each = all_behind (IsMemberIn scope.types scope.unit) before (member_of scope.types name type width) held.each (record {
      type_in = known.type_in;
      complete = complete_by width unbroken small;
      bits = bits_are width unbroken;
      named = name_or_bits width unbroken named;
    });
    settled = all_behind (λ member. IsSettled opens member.type) before (member_of scope.types name type width) held.settled known.settled;
    differ = names_differ before (member_of scope.types name type width) name refl held.differ (neither unbroken.k8).1;
  }

-- the members before stay known
pub members_on : (opens : List ℕ) (before after : CScope) (members : List CMember) → Passes opens before after → AreKnownMembers opens before.types before.unit members
    → AreKnownMembers opens after.types after.unit members
members_on opens before after members passes held =
    subst (λ unit. AreKnownMembers opens after.types unit members) (sym passes.unit_is) (record {
      each = members_stay opens before.types after.types before.unit passes.grows members held.settled held.each;
      settled = held.settled;
      differ = held.differ;
    })

record IsOwnType (opens : List ℕ) (tree : DeclaratorTree) (before : CScope) (name : Option (List ℕ)) (own : CTy) (after : CScope) : Type 0 where
  good : IsGood opens after
  passes : Passes opens before after
  makes_none : after.literals ≡ before.literals
  known : IsKnownType opens after.types after.unit own
  small : is_too_large after.types own ≡ false
  named : has_name tree ≡ true → IsSome name

pub member_goes : (declarator : DeclaratorTree) (width : OptionExprTree) (lines : List ℕ) → MayBeMember declarator width → ShapeGoes declarator → OptionGoes width → MemberGoes (MemberDeclarator declarator width lines)
member_goes declarator width lines may first second opens is_last before type scope good known held =
    go_chain _ _ _ _ scope (IsNamedShape opens declarator scope) _ (named_shape opens declarator scope (first opens scope good)) (λ shape middle made.
    go_chain _ _ _ _ middle (λ own last. IsOwnType opens declarator scope shape.name own last) _ (go_here_then _ _ middle _ (go_settled _ middle _ _ _ middle (λ own last. IsOwnType opens declarator scope shape.name own last) (λ unbroken. record {
      good = made.shape_is.good;
      passes = made.shape_is.passes;
      makes_none = made.shape_is.makes_none;
      known = derived_known opens middle middle.types middle.unit type shape.steps (type_on opens scope middle type made.shape_is.passes known) made.shape_is.known unbroken;
      small = unbroken.m3;
      named = made.named;
    }))) (λ own last is.
    go_chain _ _ _ _ last (IsWritten opens width last) _ (second opens last is.good) (λ written after behind.
    go_here_then _ _ after _ (go_settled _ after _ _ _ after _ (λ unbroken.
    let passes = passes_on opens scope last after is.passes behind.passes in
    record {
      good = behind.good;
      passes = passes;
      makes_none = behind.makes_none (width_of_numbers after is_last shape.name own before written unbroken) ∙ is.makes_none;
      known =
          member_known after is_last shape.name own before opens written (type_on opens last after own behind.passes is.known) (members_on opens scope after before passes held) unbroken
          (λ none. subst (λ one. is_too_large one.types own ≡ false) (sym (behind.missing (sym behind.there ∙ none))) is.small)
          (λ none. is.named (may (sym behind.there ∙ none)));
    })))))

pub no_declarators_go : MembersGo no_member_declarators
no_declarators_go opens is_last before type scope good known held = go_gives before scope _ (record { good = good; passes = stays_itself opens scope; makes_none = refl; known = held })

behind_members : (opens : List ℕ) (before middle after : CScope) (members : List CMember) → Passes opens before middle → middle.literals ≡ before.literals → AreMembers opens middle members after → AreMembers opens before members after
behind_members opens before middle after members passes same held = record {
  good = held.good;
  passes = passes_on opens before middle after passes held.passes;
  makes_none = held.makes_none ∙ same;
  known = held.known;
}

pub more_declarators_go : (first : MemberDeclaratorTree) (others : MemberDeclaratorTrees) → MemberGoes first → MembersGo others → MembersGo (more_member_declarators first others)
more_declarators_go first others one more opens is_last before type scope good known held =
    go_chain _ _ _ _ scope (λ member after. AreMembers opens scope (before ++ member ∷ []) after) _ (one opens (is_last && no_more_declarators others) before type scope good known held) (λ member middle is.
    record {
      ends = λ fine. behind_members opens scope middle _ _ is.passes is.makes_none
          ((more opens is_last (before ++ member ∷ []) type middle is.good (type_on opens scope middle type is.passes known) is.known).ends fine);
    })

pub declaration_goes : (specs : SpecTrees) (list : MemberDeclaratorTrees) (lines : List ℕ) → SpecsGo specs → MembersGo list → MemberDeclGoes (MemberDecl specs list lines)
declaration_goes specs list lines first second opens is_last before scope good held =
    go_chain _ _ _ _ scope (AreSpecs opens scope) _ (first opens false no_specs_yet scope good tt) (λ all middle is.
    go_chain _ _ _ _ middle (λ done last. AreSpecs opens scope all last) _ (go_here_then _ _ middle _ (go_settled _ middle _ _ _ middle (λ done last. AreSpecs opens scope all last) (λ unbroken. is))) (λ done last seen.
    record {
      ends = λ fine. behind_members opens scope last _ _ seen.passes seen.makes_none
          ((second opens is_last before (base_type all) last seen.good (specified opens last.types last.unit all seen.known) (members_on opens scope last before seen.passes held)).ends fine);
    }))

pub no_decls_go : MemberDeclsGo no_member_decls
no_decls_go opens before scope good held = go_gives before scope _ (record { good = good; passes = stays_itself opens scope; makes_none = refl; known = held })

pub more_decls_go : (first : MemberDeclTree) (others : MemberDeclTrees) → MemberDeclGoes first → MemberDeclsGo others → MemberDeclsGo (more_member_decls first others)
more_decls_go first others one more opens before scope good held =
    go_chain _ _ _ _ scope (AreMembers opens scope) _ (one opens (no_more_decls others) before scope good held) (λ members middle is.
    record { ends = λ fine. behind_members opens scope middle _ _ is.passes is.makes_none ((more opens members middle is.good is.known).ends fine) })
