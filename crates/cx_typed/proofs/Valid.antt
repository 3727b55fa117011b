-- Valid trees whose tokens have constants that fit their types are such as tokens can spell.
use Rattle.std.proofs.Common.{ℕ, ◌<◌, List, [], ◌∷◌, ◌++◌, drop, All, arith}
use Rattle.std.proofs.lemmas.List.Elements.{All-head, All-tail}
use Rattle.std.specs.Prelude.{IsTrue}
use Rattle.cx_lex.specs.declared.token.Token.{Token}
use Rattle.cx_lex.specs.declared.token.TokenKind.{TokenKind}
use Rattle.cx_lex.specs.declared.token.Punct.TheVariants as punct
use Rattle.cx_tree.specs.Levels.{conditional_level}
use Rattle.cx_tree.specs.Tokens.{owns, keys, mark, ended, brace, parenthesis, behind_tag, behind_commas, listed, tag_tokens, prefixed_tokens, expr_tokens, exprs_tokens, type_name_tokens, spec_tokens, specs_tokens, member_decls_tokens, member_decl_tokens, member_declarators_tokens, member_declarator_tokens, enumerators_tokens, enumerator_tokens, declarator_tokens, length_tokens, brackets_front, params_tokens, param_tokens, initialiser_tokens, initialiser_list_tokens, entries_tokens, entry_tokens, designation_tokens, designators_tokens, designator_tokens}
use Rattle.cx_tree.specs.Trees.{ExprTree, Name, Number, Letter, Text, Paren, Index, Call, Dot, Arrow, PostUp, PostDown, Literal, PreUp, PreDown, Unary, SizeofExpr, SizeofType, Cast, Binary, Cond, Assign, Comma, ExprTrees, no_exprs, more_exprs, OptionExprTree, no_expr, some_expr, TypeNameTree, TypeName, SpecTree, Key, Typedef, Record, Enum, SpecTrees, no_specs, more_specs, MemberDeclTree, MemberDecl, MemberDeclTrees, no_member_decls, more_member_decls, no_members, some_members, MemberDeclaratorTree, MemberDeclarator, MemberDeclaratorTrees, no_member_declarators, more_member_declarators, EnumeratorTree, Enumerator, EnumeratorTrees, no_enumerators, more_enumerators, no_enumerator_list, some_enumerator_list, DeclaratorTree, Missing, Identifier, Group, Pointer, Array, Function, Identifiers, ParamTree, Param, ParamTrees, no_params, more_params, BracketsTree, Unsized, Length, StaticFirst, StaticLast, Star, InitialiserTree, Single, Braced, InitialiserListTree, InitialiserList, EntryTree, Entry, EntryTrees, no_entries, more_entries, DesignatorTree, Element, Member, DesignatorTrees, no_designators, more_designators}
use Rattle.cx_tree.specs.Valid.{IsValidExpr, AreValidArgs, IsValidOption, IsValidTypeName, IsValidSpec, AreValidSpecs, AreValidMemberDecls, IsValidMemberDecl, AreValidMemberDeclarators, IsValidMemberDeclarator, AreValidEnumerators, IsValidEnumerator, IsValidDeclarator, AreValidBrackets, AreValidParams, IsValidParam, IsValidInitialiser, IsValidInitialiserList, AreValidEntries, IsValidEntry, AreValidDesignators, IsValidDesignator, is_member, params_count}
use Rattle.cx_typed.specs.Completed.{MayBeMember}
use Rattle.cx_typed.specs.Constants.{IsFitKind}
use Rattle.cx_typed.specs.Params.{HasParams}
use Rattle.cx_typed.specs.Spelled.{IsSpelled, AreSpelled, IsSpelledOption, IsSpelledTypeName, IsSpelledSpec, AreSpelledSpecs, AreSpelledDecls, IsSpelledDecl, AreSpelledDeclarators, IsSpelledMember, AreSpelledEach, IsSpelledEnumerator, IsSpelledDeclarator, AreSpelledParams, IsSpelledParam, AreSpelledBrackets, IsSpelledInit, IsSpelledList, AreSpelledEntries, IsSpelledEntry, AreSpelledDesignators, IsSpelledDesignator, ValidTreesAreSpelled}

-- ---- tokens

abbrev pub AreFit : List Token → Type 0
AreFit [] = Unit {0}
AreFit (one ∷ others) = IsFitKind one.kind × AreFit others

abbrev pub EachFits : List (List Token) → Type 0
EachFits [] = Unit {0}
EachFits (part ∷ parts) = AreFit part × EachFits parts

pub all_fit : (tokens : List Token) → All (λ one. IsFitKind one.kind) tokens → AreFit tokens
all_fit [] held = tt
all_fit (one ∷ others) held = (All-head (λ token. IsFitKind token.kind) one others held, all_fit others (All-tail (λ token. IsFitKind token.kind) one others held))

pub front : (first second : List Token) → AreFit (first ++ second) → AreFit first
front [] second held = tt
front (one ∷ first) second held = (held.0, front first second held.1)

pub back : (first second : List Token) → AreFit (first ++ second) → AreFit second
back [] second held = held
back (one ∷ first) second held = back first second held.1

behind_fit : (closing : List TokenKind) (parts : List (List Token)) (lines : List ℕ) → AreFit (behind_commas closing parts lines) → EachFits parts
behind_fit closing [] lines held = tt
behind_fit closing (part ∷ parts) lines held = (front part _ held.1, behind_fit closing parts _ (back part _ held.1))

pub listed_fit : (closing : List TokenKind) (parts : List (List Token)) (lines : List ℕ) → AreFit (listed closing parts lines) → EachFits parts
listed_fit closing [] lines held = tt
listed_fit closing (part ∷ parts) lines held = (front part _ held, behind_fit closing parts lines (back part _ held))

-- ---- lists that aren't empty, and names of members

may_be : (declarator : DeclaratorTree) (width : OptionExprTree) → IsTrue (is_member declarator width) → MayBeMember declarator width
may_be declarator no_expr is none = is
may_be declarator (some_expr width) is none = absurd cc

some_params : (trees : ParamTrees) → 0 < params_count trees → HasParams trees
some_params no_params some = absurd (omega arith)
some_params (more_params first others) some = tt

-- ---- trees

mutual
  pub expr_fits : (tree : ExprTree) → IsValidExpr tree → AreFit (expr_tokens tree) → IsSpelled tree
  expr_fits (Name name lines) valid held = tt
  expr_fits (Number value type lines) valid held = held.0
  expr_fits (Letter value lines) valid held = held.0
  expr_fits (Text parts lines) valid held = tt
  expr_fits (Paren inner lines) valid held = expr_fits inner valid.part.valid (front (expr_tokens inner) _ held.1)
  expr_fits (Index of index lines) valid held =
      (expr_fits of valid.first.valid (front (expr_tokens of) _ held), expr_fits index valid.second.valid (front (expr_tokens index) _ (back (expr_tokens of) _ held).1))
  expr_fits (Call of args lines) valid held =
      (expr_fits of valid.first.valid (front (expr_tokens of) _ held), args_fit args valid.second (listed_fit (ended punct.RightParenthesis) (exprs_tokens args) (drop 1 lines) (back (expr_tokens of) _ held).1))
  expr_fits (Dot of name lines) valid held = expr_fits of valid.part.valid (front (expr_tokens of) _ held)
  expr_fits (Arrow of name lines) valid held = expr_fits of valid.part.valid (front (expr_tokens of) _ held)
  expr_fits (PostUp of lines) valid held = expr_fits of valid.part.valid (front (expr_tokens of) _ held)
  expr_fits (PostDown of lines) valid held = expr_fits of valid.part.valid (front (expr_tokens of) _ held)
  expr_fits (Literal of list lines) valid held =
      (type_name_fits of valid.first (front (type_name_tokens of) _ held.1), list_fits list valid.second (back (type_name_tokens of) _ held.1).1)
  expr_fits (PreUp on lines) valid held = expr_fits on valid.part.valid held.1
  expr_fits (PreDown on lines) valid held = expr_fits on valid.part.valid held.1
  expr_fits (Unary op on lines) valid held = expr_fits on valid.operand.valid held.1
  expr_fits (SizeofExpr on lines) valid held = expr_fits on valid.part.valid held.1
  expr_fits (SizeofType of lines) valid held = type_name_fits of valid.part (front (type_name_tokens of) _ held.1.1)
  expr_fits (Cast to on lines) valid held =
      (type_name_fits to valid.first (front (type_name_tokens to) _ held.1), expr_fits on valid.second.valid (back (type_name_tokens to) _ held.1).1)
  expr_fits (Binary left op right lines) valid held =
      (expr_fits left valid.left.valid (front (expr_tokens left) _ held), expr_fits right valid.right.valid (back (expr_tokens left) _ held).1)
  expr_fits (Cond condition if_true if_false lines) valid held =
      let behind = (back (expr_tokens condition) _ held).1 in (
        expr_fits condition valid.first.valid (front (expr_tokens condition) _ held),
        expr_fits if_true valid.second.valid (front (expr_tokens if_true) _ behind),
        expr_fits if_false valid.third.valid (back (expr_tokens if_true) _ behind).1,
      )
  expr_fits (Assign left op right lines) valid held =
      (expr_fits left valid.left.valid (front (expr_tokens left) _ held), expr_fits right valid.right.valid (back (expr_tokens left) _ held).1)
  expr_fits (Comma left right lines) valid held =
      (expr_fits left valid.first.valid (front (expr_tokens left) _ held), expr_fits right valid.second.valid (back (expr_tokens left) _ held).1)

  args_fit : (trees : ExprTrees) → AreValidArgs trees → EachFits (exprs_tokens trees) → AreSpelled trees
  args_fit no_exprs valid held = tt
  args_fit (more_exprs first others) valid held = (expr_fits first valid.0.valid held.0, args_fit others valid.1 held.1)

  option_fits : (least : ℕ) (token : Token) (tree : OptionExprTree) → IsValidOption least tree → AreFit (prefixed_tokens token tree) → IsSpelledOption tree
  option_fits least token no_expr valid held = tt
  option_fits least token (some_expr one) valid held = expr_fits one valid.valid held.1

  type_name_fits : (tree : TypeNameTree) → IsValidTypeName tree → AreFit (type_name_tokens tree) → IsSpelledTypeName tree
  type_name_fits (TypeName specs declarator lines) valid held =
      (specs_fit specs valid.specs.each (front (specs_tokens specs) _ held), declarator_fits declarator valid.declarator (back (specs_tokens specs) _ held))

  spec_fits : (tree : SpecTree) → IsValidSpec tree → AreFit (spec_tokens tree) → IsSpelledSpec tree
  spec_fits (Key word lines) valid held = tt
  spec_fits (Typedef name lines) valid held = tt
  spec_fits (Record is_union name no_members lines) valid held = tt
  spec_fits (Record is_union name (some_members list) lines) valid held =
      decls_fit list valid.listed.each (front (member_decls_tokens list) _ (back (tag_tokens name (drop 1 lines)) _ held.1).1)
  spec_fits (Enum name no_enumerator_list last_comma lines) valid held = tt
  spec_fits (Enum name (some_enumerator_list list) last_comma lines) valid held =
      enumerators_fit list valid.listed.each (listed_fit (brace last_comma) (enumerators_tokens list) (drop 1 (behind_tag name (drop 1 lines))) (back (tag_tokens name (drop 1 lines)) _ held.1).1)

  pub specs_fit : (trees : SpecTrees) → AreValidSpecs trees → AreFit (specs_tokens trees) → AreSpelledSpecs trees
  specs_fit no_specs valid held = tt
  specs_fit (more_specs first others) valid held = (spec_fits first valid.0 (front (spec_tokens first) _ held), specs_fit others valid.1 (back (spec_tokens first) _ held))

  decls_fit : (trees : MemberDeclTrees) → AreValidMemberDecls trees → AreFit (member_decls_tokens trees) → AreSpelledDecls trees
  decls_fit no_member_decls valid held = tt
  decls_fit (more_member_decls first others) valid held = (decl_fits first valid.0 (front (member_decl_tokens first) _ held), decls_fit others valid.1 (back (member_decl_tokens first) _ held))

  decl_fits : (tree : MemberDeclTree) → IsValidMemberDecl tree → AreFit (member_decl_tokens tree) → IsSpelledDecl tree
  decl_fits (MemberDecl specs list lines) valid held =
      (specs_fit specs valid.specs.each (front (specs_tokens specs) _ held), members_fit list valid.list.each (listed_fit (ended punct.Semicolon) (member_declarators_tokens list) lines (back (specs_tokens specs) _ held)))

  members_fit : (trees : MemberDeclaratorTrees) → AreValidMemberDeclarators trees → EachFits (member_declarators_tokens trees) → AreSpelledDeclarators trees
  members_fit no_member_declarators valid held = tt
  members_fit (more_member_declarators first others) valid held = (member_fits first valid.0 held.0, members_fit others valid.1 held.1)

  member_fits : (tree : MemberDeclaratorTree) → IsValidMemberDeclarator tree → AreFit (member_declarator_tokens tree) → IsSpelledMember tree
  member_fits (MemberDeclarator declarator width lines) valid held =
      (declarator_fits declarator valid.declarator (front (declarator_tokens declarator) _ held), option_fits conditional_level (mark lines 0 punct.Colon) width valid.behind (back (declarator_tokens declarator) _ held), may_be declarator width valid.fits)

  enumerators_fit : (trees : EnumeratorTrees) → AreValidEnumerators trees → EachFits (enumerators_tokens trees) → AreSpelledEach trees
  enumerators_fit no_enumerators valid held = tt
  enumerators_fit (more_enumerators first others) valid held = (enumerator_fits first valid.0 held.0, enumerators_fit others valid.1 held.1)

  enumerator_fits : (tree : EnumeratorTree) → IsValidEnumerator tree → AreFit (enumerator_tokens tree) → IsSpelledEnumerator tree
  enumerator_fits (Enumerator name value lines) valid held = option_fits conditional_level (mark lines 1 punct.Equal) value valid.part held.1

  pub declarator_fits : (tree : DeclaratorTree) → IsValidDeclarator tree → AreFit (declarator_tokens tree) → IsSpelledDeclarator tree
  declarator_fits Missing valid held = tt
  declarator_fits (Identifier name lines) valid held = tt
  declarator_fits (Group inner lines) valid held = declarator_fits inner valid.second (front (declarator_tokens inner) _ held.1)
  declarator_fits (Pointer qualifiers of lines) valid held = declarator_fits of valid.second (back (owns (keys qualifiers) (drop 1 lines)) _ held.1)
  declarator_fits (Array of brackets lines) valid held = (
    declarator_fits of valid.of (front (declarator_tokens of) _ held),
    brackets_fit brackets valid.behind (front (length_tokens brackets) _ (back (owns (brackets_front brackets) lines) _ (back (declarator_tokens of) _ held))),
  )
  declarator_fits (Function of list variadic lines) valid held = (
    declarator_fits of valid.of (front (declarator_tokens of) _ held),
    params_fit list valid.behind.each (listed_fit (parenthesis variadic) (params_tokens list) (drop 1 lines) (back (declarator_tokens of) _ held).1),
    (λ more. some_params list valid.behind.present),
  )
  declarator_fits (Identifiers of names lines) valid held = declarator_fits of valid.of (front (declarator_tokens of) _ held)

  brackets_fit : (tree : BracketsTree) → AreValidBrackets tree → AreFit (length_tokens tree) → AreSpelledBrackets tree
  brackets_fit (Unsized qualifiers) valid held = tt
  brackets_fit (Length qualifiers size) valid held = expr_fits size valid.1.valid held
  brackets_fit (StaticFirst qualifiers size) valid held = expr_fits size valid.1.valid held
  brackets_fit (StaticLast qualifiers size) valid held = expr_fits size valid.1.valid held
  brackets_fit (Star qualifiers) valid held = tt

  params_fit : (trees : ParamTrees) → AreValidParams trees → EachFits (params_tokens trees) → AreSpelledParams trees
  params_fit no_params valid held = tt
  params_fit (more_params first others) valid held = (param_fits first valid.0 held.0, params_fit others valid.1 held.1)

  param_fits : (tree : ParamTree) → IsValidParam tree → AreFit (param_tokens tree) → IsSpelledParam tree
  param_fits (Param specs declarator lines) valid held =
      (specs_fit specs valid.specs.each (front (specs_tokens specs) _ held), declarator_fits declarator valid.declarator (back (specs_tokens specs) _ held))

  pub init_fits : (tree : InitialiserTree) → IsValidInitialiser tree → AreFit (initialiser_tokens tree) → IsSpelledInit tree
  init_fits (Single value) valid held = expr_fits value valid.valid held
  init_fits (Braced list) valid held = list_fits list valid held

  list_fits : (tree : InitialiserListTree) → IsValidInitialiserList tree → AreFit (initialiser_list_tokens tree) → IsSpelledList tree
  list_fits (InitialiserList no_entries last_comma lines) valid held = absurd (let h : 0 < 0 = valid.part.present in omega arith)
  list_fits (InitialiserList (more_entries first others) last_comma lines) valid held =
      let each = listed_fit (brace last_comma) (entries_tokens (more_entries first others)) (drop 1 lines) held.1 in
      (entry_fits first valid.part.each.0 each.0, entries_fit others valid.part.each.1 each.1)

  entries_fit : (trees : EntryTrees) → AreValidEntries trees → EachFits (entries_tokens trees) → AreSpelledEntries trees
  entries_fit no_entries valid held = tt
  entries_fit (more_entries first others) valid held = (entry_fits first valid.0 held.0, entries_fit others valid.1 held.1)

  entry_fits : (tree : EntryTree) → IsValidEntry tree → AreFit (entry_tokens tree) → IsSpelledEntry tree
  entry_fits (Entry no_designators init lines) valid held = (tt, init_fits init valid.second held)
  entry_fits (Entry (more_designators first others) init lines) valid held =
      let ahead = front (designation_tokens (more_designators first others) lines) _ held in (
        (designator_fits first valid.first.0 (front (designator_tokens first) _ ahead), designators_fit others valid.first.1 (front (designators_tokens others) _ (back (designator_tokens first) _ ahead))),
        init_fits init valid.second (back (designation_tokens (more_designators first others) lines) _ held),
      )

  designators_fit : (trees : DesignatorTrees) → AreValidDesignators trees → AreFit (designators_tokens trees) → AreSpelledDesignators trees
  designators_fit no_designators valid held = tt
  designators_fit (more_designators first others) valid held =
      (designator_fits first valid.0 (front (designator_tokens first) _ held), designators_fit others valid.1 (back (designator_tokens first) _ held))

  designator_fits : (tree : DesignatorTree) → IsValidDesignator tree → AreFit (designator_tokens tree) → IsSpelledDesignator tree
  designator_fits (Element index lines) valid held = expr_fits index valid.part.valid (front (expr_tokens index) _ held.1)
  designator_fits (Member name lines) valid held = tt

pub valid_trees : ValidTreesAreSpelled
valid_trees = record {
  expressions = λ tree valid held. expr_fits tree valid (all_fit (expr_tokens tree) held);
  specifiers = λ trees valid held. specs_fit trees valid (all_fit (specs_tokens trees) held);
  declarators = λ tree valid held. declarator_fits tree valid (all_fit (declarator_tokens tree) held);
  initialisers = λ tree valid held. init_fits tree valid (all_fit (initialiser_tokens tree) held);
}
