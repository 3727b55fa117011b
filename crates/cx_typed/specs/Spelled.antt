-- What the tokens of a file can spell (ISO C99, 6.4.4, 6.7.2.1, 6.7.5, 6.7.8): constants that fit their types, and lists as long as the grammar asks.
use Rattle.std.specs.Prelude.{◌≡◌, ℕ, ◌<◌, true, [], All}
use Rattle.cr_base.specs.Scalar.{IsInRange}
use Rattle.cx_lex.specs.Numbers.{above}
use Rattle.cx_rules.specs.Scope.{new_scope}
use Rattle.cx_tree.specs.Trees.{ExprTree, Name, Number, Letter, Text, Paren, Index, Call, Dot, Arrow, PostUp, PostDown, Literal, PreUp, PreDown, Unary, SizeofExpr, SizeofType, Cast, Binary, Cond, Assign, Comma, ExprTrees, no_exprs, more_exprs, OptionExprTree, no_expr, some_expr, TypeNameTree, TypeName, SpecTree, Key, Typedef, Record, Enum, SpecTrees, no_specs, more_specs, MemberDeclTree, MemberDecl, MemberDeclTrees, no_member_decls, more_member_decls, OptionMemberDeclTrees, no_members, some_members, MemberDeclaratorTree, MemberDeclarator, MemberDeclaratorTrees, no_member_declarators, more_member_declarators, EnumeratorTree, Enumerator, EnumeratorTrees, no_enumerators, more_enumerators, OptionEnumeratorTrees, no_enumerator_list, some_enumerator_list, DeclaratorTree, Missing, Identifier, Group, Pointer, Array, Function, Identifiers, ParamTree, Param, ParamTrees, no_params, more_params, BracketsTree, Unsized, Length, StaticFirst, StaticLast, Star, InitialiserTree, Single, Braced, InitialiserListTree, InitialiserList, EntryTree, Entry, EntryTrees, no_entries, more_entries, DesignatorTree, Element, Member, DesignatorTrees, no_designators, more_designators}
use Rattle.cx_tree.specs.Tokens.{expr_tokens, specs_tokens, declarator_tokens, initialiser_tokens}
use Rattle.cx_tree.specs.Valid.{IsValidExpr, AreValidSpecs, IsValidDeclarator, IsValidInitialiser}
use Rattle.cx_typed.specs.Completed.{MayBeMember, OptionGoes}
use Rattle.cx_typed.specs.Constants.{int_scalar, IsFitKind}
use Rattle.cx_typed.specs.Declarators.{ShapeGoes}
use Rattle.cx_typed.specs.Initialised.{InitialiserGoes, NothingToFill}
use Rattle.cx_typed.specs.Params.{HasParams}
use Rattle.cx_typed.specs.Specifiers.{SpecsGo}
use Rattle.cx_typed.specs.Walked.{IsGood, ExprGoes, TypeNameGoes}

abbrev mutual
  pub IsSpelled : ExprTree → Type 0
  IsSpelled (Name name lines) = Unit {0}
  IsSpelled (Number value type lines) = value < above type
  IsSpelled (Letter value lines) = IsInRange int_scalar value
  IsSpelled (Text parts lines) = Unit {0}
  IsSpelled (Paren inner lines) = IsSpelled inner
  IsSpelled (Index of index lines) = IsSpelled of × IsSpelled index
  IsSpelled (Call of args lines) = IsSpelled of × AreSpelled args
  IsSpelled (Dot of name lines) = IsSpelled of
  IsSpelled (Arrow of name lines) = IsSpelled of
  IsSpelled (PostUp of lines) = IsSpelled of
  IsSpelled (PostDown of lines) = IsSpelled of
  IsSpelled (Literal of list lines) = IsSpelledTypeName of × IsSpelledList list
  IsSpelled (PreUp on lines) = IsSpelled on
  IsSpelled (PreDown on lines) = IsSpelled on
  IsSpelled (Unary op on lines) = IsSpelled on
  IsSpelled (SizeofExpr on lines) = IsSpelled on
  IsSpelled (SizeofType of lines) = IsSpelledTypeName of
  IsSpelled (Cast to on lines) = IsSpelledTypeName to × IsSpelled on
  IsSpelled (Binary left op right lines) = IsSpelled left × IsSpelled right
  IsSpelled (Cond condition if_true if_false lines) = IsSpelled condition × IsSpelled if_true × IsSpelled if_false
  IsSpelled (Assign left op right lines) = IsSpelled left × IsSpelled right
  IsSpelled (Comma left right lines) = IsSpelled left × IsSpelled right

  pub AreSpelled : ExprTrees → Type 0
  AreSpelled no_exprs = Unit {0}
  AreSpelled (more_exprs first others) = IsSpelled first × AreSpelled others

  pub IsSpelledOption : OptionExprTree → Type 0
  IsSpelledOption no_expr = Unit {0}
  IsSpelledOption (some_expr one) = IsSpelled one

  pub IsSpelledTypeName : TypeNameTree → Type 0
  IsSpelledTypeName (TypeName specs declarator lines) = AreSpelledSpecs specs × IsSpelledDeclarator declarator

  pub IsSpelledSpec : SpecTree → Type 0
  IsSpelledSpec (Key word lines) = Unit {0}
  IsSpelledSpec (Typedef name lines) = Unit {0}
  IsSpelledSpec (Record is_union name list lines) = AreSpelledMembers list
  IsSpelledSpec (Enum name list last_comma lines) = AreSpelledEnumerators list

  pub AreSpelledSpecs : SpecTrees → Type 0
  AreSpelledSpecs no_specs = Unit {0}
  AreSpelledSpecs (more_specs first others) = IsSpelledSpec first × AreSpelledSpecs others

  pub AreSpelledMembers : OptionMemberDeclTrees → Type 0
  AreSpelledMembers no_members = Unit {0}
  AreSpelledMembers (some_members list) = AreSpelledDecls list

  pub AreSpelledDecls : MemberDeclTrees → Type 0
  AreSpelledDecls no_member_decls = Unit {0}
  AreSpelledDecls (more_member_decls first others) = IsSpelledDecl first × AreSpelledDecls others

  pub IsSpelledDecl : MemberDeclTree → Type 0
  IsSpelledDecl (MemberDecl specs list lines) = AreSpelledSpecs specs × AreSpelledDeclarators list

  pub AreSpelledDeclarators : MemberDeclaratorTrees → Type 0
  AreSpelledDeclarators no_member_declarators = Unit {0}
  AreSpelledDeclarators (more_member_declarators first others) = IsSpelledMember first × AreSpelledDeclarators others

  pub IsSpelledMember : MemberDeclaratorTree → Type 0
  IsSpelledMember (MemberDeclarator declarator width lines) = IsSpelledDeclarator declarator × IsSpelledOption width × MayBeMember declarator width

  pub AreSpelledEnumerators : OptionEnumeratorTrees → Type 0
  AreSpelledEnumerators no_enumerator_list = Unit {0}
  AreSpelledEnumerators (some_enumerator_list list) = AreSpelledEach list

  pub AreSpelledEach : EnumeratorTrees → Type 0
  AreSpelledEach no_enumerators = Unit {0}
  AreSpelledEach (more_enumerators first others) = IsSpelledEnumerator first × AreSpelledEach others

  pub IsSpelledEnumerator : EnumeratorTree → Type 0
  IsSpelledEnumerator (Enumerator name value lines) = IsSpelledOption value

  pub IsSpelledDeclarator : DeclaratorTree → Type 0
  IsSpelledDeclarator Missing = Unit {0}
  IsSpelledDeclarator (Identifier name lines) = Unit {0}
  IsSpelledDeclarator (Group inner lines) = IsSpelledDeclarator inner
  IsSpelledDeclarator (Pointer qualifiers of lines) = IsSpelledDeclarator of
  IsSpelledDeclarator (Array of brackets lines) = IsSpelledDeclarator of × AreSpelledBrackets brackets
  IsSpelledDeclarator (Function of params variadic lines) = IsSpelledDeclarator of × AreSpelledParams params × (variadic ≡ true → HasParams params)
  IsSpelledDeclarator (Identifiers of names lines) = IsSpelledDeclarator of

  pub AreSpelledParams : ParamTrees → Type 0
  AreSpelledParams no_params = Unit {0}
  AreSpelledParams (more_params first others) = IsSpelledParam first × AreSpelledParams others

  pub IsSpelledParam : ParamTree → Type 0
  IsSpelledParam (Param specs declarator lines) = AreSpelledSpecs specs × IsSpelledDeclarator declarator

  pub AreSpelledBrackets : BracketsTree → Type 0
  AreSpelledBrackets (Unsized qualifiers) = Unit {0}
  AreSpelledBrackets (Length qualifiers size) = IsSpelled size
  AreSpelledBrackets (StaticFirst qualifiers size) = IsSpelled size
  AreSpelledBrackets (StaticLast qualifiers size) = IsSpelled size
  AreSpelledBrackets (Star qualifiers) = Unit {0}

  pub IsSpelledInit : InitialiserTree → Type 0
  IsSpelledInit (Single value) = IsSpelled value
  IsSpelledInit (Braced list) = IsSpelledList list

  pub IsSpelledList : InitialiserListTree → Type 0
  IsSpelledList (InitialiserList no_entries last_comma lines) = ⊥
  IsSpelledList (InitialiserList (more_entries first others) last_comma lines) = IsSpelledEntry first × AreSpelledEntries others

  pub AreSpelledEntries : EntryTrees → Type 0
  AreSpelledEntries no_entries = Unit {0}
  AreSpelledEntries (more_entries first others) = IsSpelledEntry first × AreSpelledEntries others

  pub IsSpelledEntry : EntryTree → Type 0
  IsSpelledEntry (Entry designators init lines) = AreSpelledDesignators designators × IsSpelledInit init

  pub AreSpelledDesignators : DesignatorTrees → Type 0
  AreSpelledDesignators no_designators = Unit {0}
  AreSpelledDesignators (more_designators first others) = IsSpelledDesignator first × AreSpelledDesignators others

  pub IsSpelledDesignator : DesignatorTree → Type 0
  IsSpelledDesignator (Element index lines) = IsSpelled index
  IsSpelledDesignator (Member name lines) = Unit {0}

-- where such a tree breaks no rule, what it means is known and typed
pub record SpelledTreesGo : Type 0 where
  pub expressions : (tree : ExprTree) → IsSpelled tree → ExprGoes tree
  pub options : (tree : OptionExprTree) → IsSpelledOption tree → OptionGoes tree
  pub type_names : (tree : TypeNameTree) → IsSpelledTypeName tree → TypeNameGoes tree
  pub specifiers : (trees : SpecTrees) → AreSpelledSpecs trees → SpecsGo trees
  pub declarators : (tree : DeclaratorTree) → IsSpelledDeclarator tree → ShapeGoes tree
  pub initialisers : (tree : InitialiserTree) → IsSpelledInit tree → InitialiserGoes tree
  pub nowhere : (tree : InitialiserTree) → IsSpelledInit tree → NothingToFill tree

-- so are valid trees whose tokens have constants that fit their types: those of the tokens that the bytes of a file spell do
pub record ValidTreesAreSpelled : Type 0 where
  pub expressions : (tree : ExprTree) → IsValidExpr tree → All (λ one. IsFitKind one.kind) (expr_tokens tree) → IsSpelled tree
  pub specifiers : (trees : SpecTrees) → AreValidSpecs trees → All (λ one. IsFitKind one.kind) (specs_tokens trees) → AreSpelledSpecs trees
  pub declarators : (tree : DeclaratorTree) → IsValidDeclarator tree → All (λ one. IsFitKind one.kind) (declarator_tokens tree) → IsSpelledDeclarator tree
  pub initialisers : (tree : InitialiserTree) → IsValidInitialiser tree → All (λ one. IsFitKind one.kind) (initialiser_tokens tree) → IsSpelledInit tree

-- the walk over a unit begins where nothing is declared
abbrev pub UnitsBeginGood : Type 0
UnitsBeginGood = (unit : ℕ) → IsGood [] (new_scope unit)
