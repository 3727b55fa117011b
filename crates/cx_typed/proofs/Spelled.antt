-- Trees that tokens can spell: where they break no rule, what they mean is known and typed: by induction, with the forms one by one.
use Rattle.cx_tree.specs.Trees.{ExprTree, Name, Number, Letter, Text, Paren, Index, Call, Dot, Arrow, PostUp, PostDown, Literal, PreUp, PreDown, Unary, SizeofExpr, SizeofType, Cast, Binary, Cond, Assign, Comma, ExprTrees, no_exprs, more_exprs, OptionExprTree, no_expr, some_expr, TypeNameTree, TypeName, SpecTree, Key, Typedef, Record, Enum, SpecTrees, no_specs, more_specs, MemberDeclTree, MemberDecl, MemberDeclTrees, no_member_decls, more_member_decls, no_members, some_members, MemberDeclaratorTree, MemberDeclarator, MemberDeclaratorTrees, no_member_declarators, more_member_declarators, EnumeratorTree, Enumerator, EnumeratorTrees, no_enumerators, more_enumerators, no_enumerator_list, some_enumerator_list, DeclaratorTree, Missing, Identifier, Group, Pointer, Array, Function, Identifiers, ParamTree, Param, ParamTrees, no_params, more_params, BracketsTree, Unsized, Length, StaticFirst, StaticLast, Star, InitialiserTree, Single, Braced, InitialiserListTree, InitialiserList, EntryTree, Entry, EntryTrees, no_entries, more_entries, DesignatorTree, Element, Member, DesignatorTrees, no_designators, more_designators}
use Rattle.cx_typed.proofs.Calling.{call_goes}
use Rattle.cx_typed.proofs.Completing.{record_list_goes}
use Rattle.cx_typed.proofs.Compounds.{literal_goes}
use Rattle.cx_typed.proofs.Declarators.{missing_goes, identifier_goes, pointer_goes, array_goes, identifiers_go, unsized_goes, length_goes, static_first_goes, static_last_goes, star_goes, type_name_goes}
use Rattle.cx_typed.proofs.Enumerated.{enumerator_goes, no_enumerators_go, more_enumerators_go, enum_list_goes}
use Rattle.cx_typed.proofs.Forms.{number_goes, letter_goes, paren_goes, index_goes, dot_goes, arrow_goes, post_up_goes, post_down_goes, pre_up_goes, pre_down_goes, unary_goes, binary_goes, cond_goes, assign_goes, comma_goes}
use Rattle.cx_typed.proofs.Initialising.{given_goes, given_list_goes, element_goes, member_goes as member_designated_goes, no_more_goes, more_designators_go, entry_goes, designated_goes, no_entries_go, more_entries_go, list_goes, single_goes, braced_goes, single_nowhere, braced_nowhere}
use Rattle.cx_typed.proofs.Listed.{no_width_goes, width_goes, member_goes, no_declarators_go, more_declarators_go, declaration_goes, no_decls_go, more_decls_go}
use Rattle.cx_typed.proofs.Named.{name_goes, text_goes, sizeof_goes, sizeof_type_goes, cast_goes, no_args_go, more_args_go}
use Rattle.cx_typed.proofs.Params.{param_goes, no_params_go, more_params_go, function_goes}
use Rattle.cx_typed.proofs.Specifiers.{key_goes, typedef_goes, record_use_goes, enum_use_goes, none_go, more_go}
use Rattle.cx_typed.specs.Completed.{OptionGoes, MemberGoes, MembersGo, MemberDeclGoes, MemberDeclsGo}
use Rattle.cx_typed.specs.Declarators.{ShapeGoes, BracketsGo}
use Rattle.cx_typed.specs.Enumerated.{EnumeratorGoes, EnumeratorsGo}
use Rattle.cx_typed.specs.Initialised.{InitialiserGoes, NothingToFill, ListGoes, EntriesGo, EntryGoes, GivenGoes, DesignatorGoes, DesignatorsGo}
use Rattle.cx_typed.specs.Params.{ParamGoes, ParamsGo}
use Rattle.cx_typed.specs.Specifiers.{SpecGoes, SpecsGo}
use Rattle.cx_typed.specs.Spelled.{IsSpelled, AreSpelled, IsSpelledOption, IsSpelledTypeName, IsSpelledSpec, AreSpelledSpecs, AreSpelledDecls, IsSpelledDecl, AreSpelledDeclarators, IsSpelledMember, AreSpelledEach, IsSpelledEnumerator, IsSpelledDeclarator, AreSpelledParams, IsSpelledParam, AreSpelledBrackets, IsSpelledInit, IsSpelledList, AreSpelledEntries, IsSpelledEntry, AreSpelledDesignators, IsSpelledDesignator, SpelledTreesGo}
use Rattle.cx_typed.specs.Walked.{ExprGoes, ArgsGo, TypeNameGoes}

mutual
  expr_is : (tree : ExprTree) → IsSpelled tree → ExprGoes tree
  expr_is (Name name lines) spelled = name_goes name lines
  expr_is (Number value type lines) spelled = number_goes value type lines spelled
  expr_is (Letter value lines) spelled = letter_goes value lines spelled
  expr_is (Text parts lines) spelled = text_goes parts lines
  expr_is (Paren inner lines) spelled = paren_goes inner lines (expr_is inner spelled)
  expr_is (Index of index lines) spelled = index_goes of index lines (expr_is of spelled.0) (expr_is index spelled.1)
  expr_is (Call of args lines) spelled = call_goes of args lines (expr_is of spelled.0) (args_are args spelled.1)
  expr_is (Dot of name lines) spelled = dot_goes of name lines (expr_is of spelled)
  expr_is (Arrow of name lines) spelled = arrow_goes of name lines (expr_is of spelled)
  expr_is (PostUp of lines) spelled = post_up_goes of lines (expr_is of spelled)
  expr_is (PostDown of lines) spelled = post_down_goes of lines (expr_is of spelled)
  expr_is (Literal of list lines) spelled = literal_goes of list lines (type_name_is of spelled.0) (list_is list spelled.1)
  expr_is (PreUp on lines) spelled = pre_up_goes on lines (expr_is on spelled)
  expr_is (PreDown on lines) spelled = pre_down_goes on lines (expr_is on spelled)
  expr_is (Unary op on lines) spelled = unary_goes op on lines (expr_is on spelled)
  expr_is (SizeofExpr on lines) spelled = sizeof_goes on lines (expr_is on spelled)
  expr_is (SizeofType of lines) spelled = sizeof_type_goes of lines (type_name_is of spelled)
  expr_is (Cast to on lines) spelled = cast_goes to on lines (type_name_is to spelled.0) (expr_is on spelled.1)
  expr_is (Binary left op right lines) spelled = binary_goes left op right lines (expr_is left spelled.0) (expr_is right spelled.1)
  expr_is (Cond condition if_true if_false lines) spelled =
      cond_goes condition if_true if_false lines (expr_is condition spelled.0) (expr_is if_true spelled.1) (expr_is if_false spelled.2)
  expr_is (Assign left op right lines) spelled = assign_goes left op right lines (expr_is left spelled.0) (expr_is right spelled.1)
  expr_is (Comma left right lines) spelled = comma_goes left right lines (expr_is left spelled.0) (expr_is right spelled.1)

  args_are : (trees : ExprTrees) → AreSpelled trees → ArgsGo trees
  args_are no_exprs spelled = no_args_go
  args_are (more_exprs first others) spelled = more_args_go first others (expr_is first spelled.0) (args_are others spelled.1)

  option_is : (tree : OptionExprTree) → IsSpelledOption tree → OptionGoes tree
  option_is no_expr spelled = no_width_goes
  option_is (some_expr one) spelled = width_goes one (expr_is one spelled)

  type_name_is : (tree : TypeNameTree) → IsSpelledTypeName tree → TypeNameGoes tree
  type_name_is (TypeName specs declarator lines) spelled = type_name_goes specs declarator lines (specs_are specs spelled.0) (declarator_is declarator spelled.1)

  spec_is : (tree : SpecTree) → IsSpelledSpec tree → SpecGoes tree
  spec_is (Key word lines) spelled = key_goes word lines
  spec_is (Typedef name lines) spelled = typedef_goes name lines
  spec_is (Record is_union name no_members lines) spelled = record_use_goes is_union name lines
  spec_is (Record is_union name (some_members list) lines) spelled = record_list_goes is_union name list lines (decls_are list spelled)
  spec_is (Enum name no_enumerator_list last_comma lines) spelled = enum_use_goes name last_comma lines
  spec_is (Enum name (some_enumerator_list list) last_comma lines) spelled = enum_list_goes name list last_comma lines (enumerators_are list spelled)

  specs_are : (trees : SpecTrees) → AreSpelledSpecs trees → SpecsGo trees
  specs_are no_specs spelled = none_go
  specs_are (more_specs first others) spelled = more_go first others (spec_is first spelled.0) (specs_are others spelled.1)

  decls_are : (trees : MemberDeclTrees) → AreSpelledDecls trees → MemberDeclsGo trees
  decls_are no_member_decls spelled = no_decls_go
  decls_are (more_member_decls first others) spelled = more_decls_go first others (decl_is first spelled.0) (decls_are others spelled.1)

  decl_is : (tree : MemberDeclTree) → IsSpelledDecl tree → MemberDeclGoes tree
  decl_is (MemberDecl specs list lines) spelled = declaration_goes specs list lines (specs_are specs spelled.0) (members_are list spelled.1)

  members_are : (trees : MemberDeclaratorTrees) → AreSpelledDeclarators trees → MembersGo trees
  members_are no_member_declarators spelled = no_declarators_go
  members_are (more_member_declarators first others) spelled = more_declarators_go first others (member_is first spelled.0) (members_are others spelled.1)

  member_is : (tree : MemberDeclaratorTree) → IsSpelledMember tree → MemberGoes tree
  member_is (MemberDeclarator declarator width lines) spelled = member_goes declarator width lines spelled.2 (declarator_is declarator spelled.0) (option_is width spelled.1)

  enumerators_are : (trees : EnumeratorTrees) → AreSpelledEach trees → EnumeratorsGo trees
  enumerators_are no_enumerators spelled = no_enumerators_go
  enumerators_are (more_enumerators first others) spelled = more_enumerators_go first others (enumerator_is first spelled.0) (enumerators_are others spelled.1)

  enumerator_is : (tree : EnumeratorTree) → IsSpelledEnumerator tree → EnumeratorGoes tree
  enumerator_is (Enumerator name value lines) spelled = enumerator_goes name value lines (option_is value spelled)

  declarator_is : (tree : DeclaratorTree) → IsSpelledDeclarator tree → ShapeGoes tree
  declarator_is Missing spelled = missing_goes
  declarator_is (Identifier name lines) spelled = identifier_goes name lines
  declarator_is (Group inner lines) spelled = declarator_is inner spelled
  declarator_is (Pointer qualifiers of lines) spelled = pointer_goes qualifiers of lines (declarator_is of spelled)
  declarator_is (Array of brackets lines) spelled = array_goes of brackets lines (declarator_is of spelled.0) (brackets_are brackets spelled.1)
  declarator_is (Function of list variadic lines) spelled = function_goes of list variadic lines spelled.2 (declarator_is of spelled.0) (params_are list spelled.1)
  declarator_is (Identifiers of names lines) spelled = identifiers_go of names lines (declarator_is of spelled)

  params_are : (trees : ParamTrees) → AreSpelledParams trees → ParamsGo trees
  params_are no_params spelled = no_params_go
  params_are (more_params first others) spelled = more_params_go first others (param_is first spelled.0) (params_are others spelled.1)

  param_is : (tree : ParamTree) → IsSpelledParam tree → ParamGoes tree
  param_is (Param specs declarator lines) spelled = param_goes specs declarator lines (specs_are specs spelled.0) (declarator_is declarator spelled.1)

  brackets_are : (tree : BracketsTree) → AreSpelledBrackets tree → BracketsGo tree
  brackets_are (Unsized qualifiers) spelled = unsized_goes qualifiers
  brackets_are (Length qualifiers size) spelled = length_goes qualifiers size (expr_is size spelled)
  brackets_are (StaticFirst qualifiers size) spelled = static_first_goes qualifiers size (expr_is size spelled)
  brackets_are (StaticLast qualifiers size) spelled = static_last_goes qualifiers size (expr_is size spelled)
  brackets_are (Star qualifiers) spelled = star_goes qualifiers

  list_is : (tree : InitialiserListTree) → IsSpelledList tree → ListGoes tree
  list_is (InitialiserList no_entries last_comma lines) spelled = absurd spelled
  list_is (InitialiserList (more_entries first others) last_comma lines) spelled = list_goes first others last_comma lines (entry_is first spelled.0) (entries_are others spelled.1)

  entries_are : (trees : EntryTrees) → AreSpelledEntries trees → EntriesGo trees
  entries_are no_entries spelled = no_entries_go
  entries_are (more_entries first others) spelled = more_entries_go first others (entry_is first spelled.0) (entries_are others spelled.1)

  entry_is : (tree : EntryTree) → IsSpelledEntry tree → EntryGoes tree
  entry_is (Entry no_designators init lines) spelled = entry_goes init lines (given_is init spelled.1)
  entry_is (Entry (more_designators first others) init lines) spelled =
      designated_goes first others init lines (designator_is first spelled.0.0) (designators_are others spelled.0.1) (given_is init spelled.1)

  given_is : (tree : InitialiserTree) → IsSpelledInit tree → GivenGoes tree
  given_is (Single value) spelled = given_goes value (expr_is value spelled)
  given_is (Braced list) spelled = given_list_goes list (list_is list spelled)

  designator_is : (tree : DesignatorTree) → IsSpelledDesignator tree → DesignatorGoes tree
  designator_is (Element index lines) spelled = element_goes index lines (expr_is index spelled)
  designator_is (Member name lines) spelled = member_designated_goes name lines

  designators_are : (trees : DesignatorTrees) → AreSpelledDesignators trees → DesignatorsGo trees
  designators_are no_designators spelled = no_more_goes
  designators_are (more_designators first others) spelled = more_designators_go first others (designator_is first spelled.0) (designators_are others spelled.1)

initialiser_is : (tree : InitialiserTree) → IsSpelledInit tree → InitialiserGoes tree
initialiser_is (Single value) spelled = single_goes value (expr_is value spelled)
initialiser_is (Braced list) spelled = braced_goes list (list_is list spelled)

nowhere_is : (tree : InitialiserTree) → IsSpelledInit tree → NothingToFill tree
nowhere_is (Single value) spelled = single_nowhere value (expr_is value spelled)
nowhere_is (Braced list) spelled = braced_nowhere list (list_is list spelled)

pub spelled_trees : SpelledTreesGo
spelled_trees = record {
  expressions = expr_is;
  options = option_is;
  type_names = type_name_is;
  specifiers = specs_are;
  declarators = declarator_is;
  initialisers = initialiser_is;
  nowhere = nowhere_is;
}
