-- What a tree of an expression, a type name, a declarator or an initialiser means stands in the units where its scope does, and so does the
-- scope behind it: one line a form (ISO C99, 6.5, 6.7).
use Rattle.std.specs.Prelude.{ℕ, ℤ, pos, ◌+ℤ◌, Bool, true, false, not, ◌&&◌, List, [], ◌∷◌, ◌++◌, length, Option, None, Some}
use Rattle.cx_core.specs.Trees.{CTy, CMember}
use Rattle.cx_lex.specs.declared.token.Keyword.{Keyword}
use Rattle.cx_lex.specs.declared.token.Punct.{Punct}
use Rattle.cx_lex.specs.declared.token.Ty0.{Ty0}
use Rattle.cx_tree.specs.Trees.{ExprTree, Name, Number, Letter, Text, Paren, Index, Call, Dot, Arrow, PostUp, PostDown, Literal, PreUp, PreDown, Unary, SizeofExpr, SizeofType, Cast, Binary, Cond, Assign, Comma, ExprTrees, no_exprs, more_exprs, OptionExprTree, no_expr, some_expr, TypeNameTree, TypeName, SpecTree, Key, Typedef, Record, Enum, SpecTrees, no_specs, more_specs, MemberDeclTree, MemberDecl, MemberDeclTrees, no_member_decls, more_member_decls, no_members, some_members, MemberDeclaratorTree, MemberDeclarator, MemberDeclaratorTrees, no_member_declarators, more_member_declarators, EnumeratorTree, Enumerator, EnumeratorTrees, no_enumerators, more_enumerators, no_enumerator_list, some_enumerator_list, DeclaratorTree, Missing, Identifier, Group, Pointer, Array, Function, Identifiers, BracketsTree, Unsized, Length, StaticFirst, StaticLast, Star, ParamTree, Param, ParamTrees, no_params, more_params, InitialiserTree, Single, Braced, InitialiserListTree, InitialiserList, EntryTree, Entry, EntryTrees, no_entries, more_entries, DesignatorTree, Element, Member, DesignatorTrees, no_designators, more_designators}
use Rattle.cx_rules.specs.declared.kinds.SpecsPlace.TheVariants.{Parameter, Plain}
use Rattle.cx_rules.specs.Initial.{CAt, CStored}
use Rattle.cx_rules.specs.Lines.{own_line, expr_line, specs_line, declarator_line}
use Rattle.cx_rules.specs.Operands.{COperand}
use Rattle.cx_rules.specs.Shapes.{CSpecs, no_specs_yet, base_type, CParam, CStep, CShape}
use Rattle.cx_rules.specs.Pieces.{CTarget, CFilling, is_text, text_parts, calls_by_name, unary_of, binary_of, assignment_of, or_negative, no_more_decls, no_more_declarators, is_none_of, is_single, target_at, designated_from, object_of_type}
use Rattle.cx_placed.proofs.Initialisers.{AllStoredStand, FillingStands}
use Rattle.cx_placed.proofs.Keeps.{Anything, Keeps, on_gives, on_chain, on_here, on_either}
use Rattle.cx_placed.proofs.Nodes.{on_array_seen, on_arrow_seen, on_assign_seen, on_binary_seen, on_call_seen, on_cast_seen, on_comma_seen, on_cond_seen, on_derives_seen, on_dot_seen, on_element_seen, on_enum_begins, on_enum_ends, on_enum_use_seen, on_enumerator_seen, on_identifiers_seen, on_index_seen, on_letter_seen, on_list_begins, on_list_given, on_literal_begins, on_literal_ends, on_member_designated, on_member_seen, on_name_seen, on_number_seen, on_param_seen, on_params_begin, on_params_end, on_record_begins, on_record_ends, on_record_use_seen, on_sizeof_seen, on_sizeof_type_seen, on_specs_seen, on_step_seen, on_text_given, on_text_seen, on_typedef_seen, on_unary_seen, on_value_given, on_whole_given, on_whole_text}
use Rattle.cx_placed.proofs.Operands.{OperandStands, OperandsStand, IfOperandStands}
use Rattle.cx_rules.proofs.NodesAgree.{s_brackets_walk, s_declarator_walk, s_designator_walk, s_designators_walk, s_entries_walk, s_entry_walk, s_enumerator_walk, s_enumerators_walk, s_expr_walk, s_exprs_walk, s_given_walk, s_initialiser_walk, s_list_walk, s_member_decl_walk, s_member_declarator_walk, s_member_declarators_walk, s_member_decls_walk, s_option_walk, s_param_walk, s_params_walk, s_spec_walk, s_specs_walk, s_type_name_walk}

module _ (Among : ℕ → Type 0) where
  expr_walk_1 : (name : List ℕ) (lines : List ℕ) → Keeps Among COperand (OperandStands Among) (s_expr_walk (Name name lines))
  expr_walk_1 name lines = on_name_seen Among name (own_line lines)

  expr_walk_2 : (value : ℕ) (type : Ty0) (lines : List ℕ) → Keeps Among COperand (OperandStands Among) (s_expr_walk (Number value type lines))
  expr_walk_2 value type lines = on_number_seen Among value type (own_line lines)

  expr_walk_3 : (value : ℤ) (lines : List ℕ) → Keeps Among COperand (OperandStands Among) (s_expr_walk (Letter value lines))
  expr_walk_3 value lines = on_letter_seen Among value (own_line lines)

  expr_walk_4 : (parts : List (List ℕ)) (lines : List ℕ) → Keeps Among COperand (OperandStands Among) (s_expr_walk (Text parts lines))
  expr_walk_4 parts lines = on_text_seen Among parts (own_line lines)

  expr_walk_5 : (inner : ExprTree) (lines : List ℕ) (h1 : Keeps Among COperand (OperandStands Among) (s_expr_walk inner))
      → Keeps Among COperand (OperandStands Among) (s_expr_walk (Paren inner lines))
  expr_walk_5 inner lines h1 = h1

  expr_walk_6 : (of : ExprTree) (index : ExprTree) (lines : List ℕ) (h1 : Keeps Among COperand (OperandStands Among) (s_expr_walk of)) (h2 : Keeps Among COperand (OperandStands Among) (s_expr_walk index))
      → Keeps Among COperand (OperandStands Among) (s_expr_walk (Index of index lines))
  expr_walk_6 of index lines h1 h2 = on_chain _ _ _ _ _ _ h1 (λ one one_stands. (on_chain _ _ _ _ _ _ h2 (λ other other_stands. (on_index_seen Among (expr_line of) one other one_stands other_stands))))

  expr_walk_7 : (of : ExprTree) (args : ExprTrees) (lines : List ℕ) (h1 : Keeps Among COperand (OperandStands Among) (s_expr_walk of)) (h2 : Keeps Among (List COperand) (OperandsStand Among) (s_exprs_walk args))
      → Keeps Among COperand (OperandStands Among) (s_expr_walk (Call of args lines))
  expr_walk_7 of args lines h1 h2 = on_chain _ _ _ _ _ _ on_here (λ before before_stands. (on_chain _ _ _ _ _ _ h1 (λ callee callee_stands. (on_chain _ _ _ _ _ _ h2 (λ given given_stands. (on_call_seen Among (expr_line of) (calls_by_name of callee) (length before.mentions) callee given callee_stands given_stands))))))

  expr_walk_8 : (of : ExprTree) (name : List ℕ) (lines : List ℕ) (h1 : Keeps Among COperand (OperandStands Among) (s_expr_walk of))
      → Keeps Among COperand (OperandStands Among) (s_expr_walk (Dot of name lines))
  expr_walk_8 of name lines h1 = on_chain _ _ _ _ _ _ h1 (λ one one_stands. (on_dot_seen Among (expr_line of) one name one_stands))

  expr_walk_9 : (of : ExprTree) (name : List ℕ) (lines : List ℕ) (h1 : Keeps Among COperand (OperandStands Among) (s_expr_walk of))
      → Keeps Among COperand (OperandStands Among) (s_expr_walk (Arrow of name lines))
  expr_walk_9 of name lines h1 = on_chain _ _ _ _ _ _ h1 (λ one one_stands. (on_arrow_seen Among (expr_line of) one name one_stands))

  expr_walk_10 : (of : ExprTree) (lines : List ℕ) (h1 : Keeps Among COperand (OperandStands Among) (s_expr_walk of))
      → Keeps Among COperand (OperandStands Among) (s_expr_walk (PostUp of lines))
  expr_walk_10 of lines h1 = on_chain _ _ _ _ _ _ h1 (λ one one_stands. (on_step_seen Among (expr_line of) true true one one_stands))

  expr_walk_11 : (of : ExprTree) (lines : List ℕ) (h1 : Keeps Among COperand (OperandStands Among) (s_expr_walk of))
      → Keeps Among COperand (OperandStands Among) (s_expr_walk (PostDown of lines))
  expr_walk_11 of lines h1 = on_chain _ _ _ _ _ _ h1 (λ one one_stands. (on_step_seen Among (expr_line of) false true one one_stands))

  expr_walk_12 : (of : TypeNameTree) (list : InitialiserListTree) (lines : List ℕ) (h1 : Keeps Among CTy (Anything CTy) (s_type_name_walk of)) (h2 : (y1 : CTarget) (y2 : List CStored) (y2_stands : AllStoredStand Among y2) → Keeps Among (List CStored) (AllStoredStand Among) (s_list_walk y1 y2 list))
      → Keeps Among COperand (OperandStands Among) (s_expr_walk (Literal of list lines))
  expr_walk_12 of list lines h1 h2 = on_chain _ _ _ _ _ _ h1 (λ type type_stands. (on_chain _ _ _ _ _ _ (on_literal_begins Among type) (λ before before_stands. (on_chain _ _ _ _ _ _ (h2 (object_of_type (not before.in_function) type) [] tt) (λ stored stored_stands. (on_literal_ends Among before (own_line lines) type stored stored_stands))))))

  expr_walk_13 : (on : ExprTree) (lines : List ℕ) (h1 : Keeps Among COperand (OperandStands Among) (s_expr_walk on))
      → Keeps Among COperand (OperandStands Among) (s_expr_walk (PreUp on lines))
  expr_walk_13 on lines h1 = on_chain _ _ _ _ _ _ h1 (λ one one_stands. (on_step_seen Among (own_line lines) true false one one_stands))

  expr_walk_14 : (on : ExprTree) (lines : List ℕ) (h1 : Keeps Among COperand (OperandStands Among) (s_expr_walk on))
      → Keeps Among COperand (OperandStands Among) (s_expr_walk (PreDown on lines))
  expr_walk_14 on lines h1 = on_chain _ _ _ _ _ _ h1 (λ one one_stands. (on_step_seen Among (own_line lines) false false one one_stands))

  expr_walk_15 : (op : Punct) (on : ExprTree) (lines : List ℕ) (h1 : Keeps Among COperand (OperandStands Among) (s_expr_walk on))
      → Keeps Among COperand (OperandStands Among) (s_expr_walk (Unary op on lines))
  expr_walk_15 op on lines h1 = on_chain _ _ _ _ _ _ h1 (λ one one_stands. (on_unary_seen Among (own_line lines) (unary_of op) one one_stands))

  expr_walk_16 : (on : ExprTree) (lines : List ℕ) (h1 : Keeps Among COperand (OperandStands Among) (s_expr_walk on))
      → Keeps Among COperand (OperandStands Among) (s_expr_walk (SizeofExpr on lines))
  expr_walk_16 on lines h1 = on_chain _ _ _ _ _ _ on_here (λ before before_stands. (on_chain _ _ _ _ _ _ h1 (λ one one_stands. (on_sizeof_seen Among (own_line lines) before one before_stands))))

  expr_walk_17 : (of : TypeNameTree) (lines : List ℕ) (h1 : Keeps Among CTy (Anything CTy) (s_type_name_walk of))
      → Keeps Among COperand (OperandStands Among) (s_expr_walk (SizeofType of lines))
  expr_walk_17 of lines h1 = on_chain _ _ _ _ _ _ h1 (λ type type_stands. (on_sizeof_type_seen Among (own_line lines) type))

  expr_walk_18 : (to : TypeNameTree) (on : ExprTree) (lines : List ℕ) (h1 : Keeps Among CTy (Anything CTy) (s_type_name_walk to)) (h2 : Keeps Among COperand (OperandStands Among) (s_expr_walk on))
      → Keeps Among COperand (OperandStands Among) (s_expr_walk (Cast to on lines))
  expr_walk_18 to on lines h1 h2 = on_chain _ _ _ _ _ _ h1 (λ type type_stands. (on_chain _ _ _ _ _ _ h2 (λ one one_stands. (on_cast_seen Among (own_line lines) type one one_stands))))

  expr_walk_19 : (left : ExprTree) (op : Punct) (right : ExprTree) (lines : List ℕ) (h1 : Keeps Among COperand (OperandStands Among) (s_expr_walk left)) (h2 : Keeps Among COperand (OperandStands Among) (s_expr_walk right))
      → Keeps Among COperand (OperandStands Among) (s_expr_walk (Binary left op right lines))
  expr_walk_19 left op right lines h1 h2 = on_chain _ _ _ _ _ _ h1 (λ one one_stands. (on_chain _ _ _ _ _ _ h2 (λ other other_stands. (on_binary_seen Among (expr_line left) (binary_of op) one other one_stands other_stands))))

  expr_walk_20 : (condition : ExprTree) (if_true : ExprTree) (if_false : ExprTree) (lines : List ℕ) (h1 : Keeps Among COperand (OperandStands Among) (s_expr_walk condition)) (h2 : Keeps Among COperand (OperandStands Among) (s_expr_walk if_true)) (h3 : Keeps Among COperand (OperandStands Among) (s_expr_walk if_false))
      → Keeps Among COperand (OperandStands Among) (s_expr_walk (Cond condition if_true if_false lines))
  expr_walk_20 condition if_true if_false lines h1 h2 h3 = on_chain _ _ _ _ _ _ h1 (λ test test_stands. (on_chain _ _ _ _ _ _ h2 (λ first first_stands. (on_chain _ _ _ _ _ _ h3 (λ second second_stands. (on_cond_seen Among (expr_line condition) test first second test_stands first_stands second_stands))))))

  expr_walk_21 : (left : ExprTree) (op : Punct) (right : ExprTree) (lines : List ℕ) (h1 : Keeps Among COperand (OperandStands Among) (s_expr_walk left)) (h2 : Keeps Among COperand (OperandStands Among) (s_expr_walk right))
      → Keeps Among COperand (OperandStands Among) (s_expr_walk (Assign left op right lines))
  expr_walk_21 left op right lines h1 h2 = on_chain _ _ _ _ _ _ h1 (λ one one_stands. (on_chain _ _ _ _ _ _ h2 (λ other other_stands. (on_assign_seen Among (expr_line left) (assignment_of op) one other one_stands other_stands))))

  expr_walk_22 : (left : ExprTree) (right : ExprTree) (lines : List ℕ) (h1 : Keeps Among COperand (OperandStands Among) (s_expr_walk left)) (h2 : Keeps Among COperand (OperandStands Among) (s_expr_walk right))
      → Keeps Among COperand (OperandStands Among) (s_expr_walk (Comma left right lines))
  expr_walk_22 left right lines h1 h2 = on_chain _ _ _ _ _ _ h1 (λ one one_stands. (on_chain _ _ _ _ _ _ h2 (λ other other_stands. (on_comma_seen Among (expr_line left) one other one_stands other_stands))))

  exprs_walk_1 : Keeps Among (List COperand) (OperandsStand Among) (s_exprs_walk no_exprs)
  exprs_walk_1 = on_gives _ _ _ tt

  exprs_walk_2 : (first : ExprTree) (others : ExprTrees) (h1 : Keeps Among COperand (OperandStands Among) (s_expr_walk first)) (h2 : Keeps Among (List COperand) (OperandsStand Among) (s_exprs_walk others))
      → Keeps Among (List COperand) (OperandsStand Among) (s_exprs_walk (more_exprs first others))
  exprs_walk_2 first others h1 h2 = on_chain _ _ _ _ _ _ h1 (λ one one_stands. (on_chain _ _ _ _ _ _ h2 (λ more more_stands. (on_gives _ _ _ (one_stands, more_stands)))))

  option_walk_1 : Keeps Among (Option COperand) (IfOperandStands Among) (s_option_walk no_expr)
  option_walk_1 = on_gives _ _ _ tt

  option_walk_2 : (one : ExprTree) (h1 : Keeps Among COperand (OperandStands Among) (s_expr_walk one))
      → Keeps Among (Option COperand) (IfOperandStands Among) (s_option_walk (some_expr one))
  option_walk_2 one h1 = on_chain _ _ _ _ _ _ h1 (λ operand operand_stands. (on_gives _ _ _ operand_stands))

  type_name_walk_1 : (specs : SpecTrees) (declarator : DeclaratorTree) (lines : List ℕ) (h1 : (y1 : Bool) (y2 : CSpecs) → Keeps Among CSpecs (Anything CSpecs) (s_specs_walk y1 y2 specs)) (h2 : Keeps Among CShape (Anything CShape) (s_declarator_walk declarator))
      → Keeps Among CTy (Anything CTy) (s_type_name_walk (TypeName specs declarator lines))
  type_name_walk_1 specs declarator lines h1 h2 = on_chain _ _ _ _ _ _ (h1 false no_specs_yet) (λ all all_stands. (on_chain _ _ _ _ _ _ (on_specs_seen Among Plain (specs_line specs) all) (λ _ _. (on_chain _ _ _ _ _ _ h2 (λ shape shape_stands. (on_derives_seen Among (declarator_line (specs_line specs) declarator) (base_type all) shape))))))

  spec_walk_1 : (alone : Bool) (specs : CSpecs) (word : Keyword) (lines : List ℕ) → Keeps Among CSpecs (Anything CSpecs) (s_spec_walk alone specs (Key word lines))
  spec_walk_1 alone specs word lines = on_gives _ _ _ tt

  spec_walk_2 : (alone : Bool) (specs : CSpecs) (name : List ℕ) (lines : List ℕ) → Keeps Among CSpecs (Anything CSpecs) (s_spec_walk alone specs (Typedef name lines))
  spec_walk_2 alone specs name lines = on_typedef_seen Among specs name

  spec_walk_3 : (alone : Bool) (specs : CSpecs) (is_union : Bool) (name : Option (List ℕ)) (lines : List ℕ)
      → Keeps Among CSpecs (Anything CSpecs) (s_spec_walk alone specs (Record is_union name no_members lines))
  spec_walk_3 alone specs is_union name lines = on_record_use_seen Among alone specs is_union name (own_line lines)

  spec_walk_4 : (alone : Bool) (specs : CSpecs) (is_union : Bool) (name : Option (List ℕ)) (list : MemberDeclTrees) (lines : List ℕ) (h1 : (y1 : List CMember) → Keeps Among (List CMember) (Anything (List CMember)) (s_member_decls_walk y1 list))
      → Keeps Among CSpecs (Anything CSpecs) (s_spec_walk alone specs (Record is_union name (some_members list) lines))
  spec_walk_4 alone specs is_union name list lines h1 = on_chain _ _ _ _ _ _ (on_record_begins Among is_union name) (λ before before_stands. (on_chain _ _ _ _ _ _ (h1 []) (λ members members_stands. (on_record_ends Among before specs is_union name (own_line lines) members))))

  spec_walk_5 : (alone : Bool) (specs : CSpecs) (name : Option (List ℕ)) (last_comma : Bool) (lines : List ℕ)
      → Keeps Among CSpecs (Anything CSpecs) (s_spec_walk alone specs (Enum name no_enumerator_list last_comma lines))
  spec_walk_5 alone specs name last_comma lines = on_enum_use_seen Among specs name (own_line lines)

  spec_walk_6 : (alone : Bool) (specs : CSpecs) (name : Option (List ℕ)) (list : EnumeratorTrees) (last_comma : Bool) (lines : List ℕ) (h1 : (y1 : ℤ) (y2 : Bool) → Keeps Among Bool (Anything Bool) (s_enumerators_walk y1 y2 list))
      → Keeps Among CSpecs (Anything CSpecs) (s_spec_walk alone specs (Enum name (some_enumerator_list list) last_comma lines))
  spec_walk_6 alone specs name list last_comma lines h1 = on_chain _ _ _ _ _ _ (on_enum_begins Among name) (λ before before_stands. (on_chain _ _ _ _ _ _ (h1 (pos 0) false) (λ negative negative_stands. (on_enum_ends Among before specs name (own_line lines) negative))))

  specs_walk_1 : (alone : Bool) (specs : CSpecs) → Keeps Among CSpecs (Anything CSpecs) (s_specs_walk alone specs no_specs)
  specs_walk_1 alone specs = on_gives _ _ _ tt

  specs_walk_2 : (alone : Bool) (specs : CSpecs) (first : SpecTree) (others : SpecTrees) (h1 : (y1 : Bool) (y2 : CSpecs) → Keeps Among CSpecs (Anything CSpecs) (s_spec_walk y1 y2 first)) (h2 : (y1 : Bool) (y2 : CSpecs) → Keeps Among CSpecs (Anything CSpecs) (s_specs_walk y1 y2 others))
      → Keeps Among CSpecs (Anything CSpecs) (s_specs_walk alone specs (more_specs first others))
  specs_walk_2 alone specs first others h1 h2 = on_chain _ _ _ _ _ _ (h1 alone specs) (λ more more_stands. (h2 alone more))

  member_decls_walk_1 : (before : List CMember) → Keeps Among (List CMember) (Anything (List CMember)) (s_member_decls_walk before no_member_decls)
  member_decls_walk_1 before = on_gives _ _ _ tt

  member_decls_walk_2 : (before : List CMember) (first : MemberDeclTree) (others : MemberDeclTrees) (h1 : (y1 : Bool) (y2 : List CMember) → Keeps Among (List CMember) (Anything (List CMember)) (s_member_decl_walk y1 y2 first)) (h2 : (y1 : List CMember) → Keeps Among (List CMember) (Anything (List CMember)) (s_member_decls_walk y1 others))
      → Keeps Among (List CMember) (Anything (List CMember)) (s_member_decls_walk before (more_member_decls first others))
  member_decls_walk_2 before first others h1 h2 = on_chain _ _ _ _ _ _ (h1 (no_more_decls others) before) (λ more more_stands. (h2 more))

  member_decl_walk_1 : (is_last : Bool) (before : List CMember) (specs : SpecTrees) (list : MemberDeclaratorTrees) (lines : List ℕ) (h1 : (y1 : Bool) (y2 : CSpecs) → Keeps Among CSpecs (Anything CSpecs) (s_specs_walk y1 y2 specs)) (h2 : (y1 : Bool) (y2 : List CMember) (y3 : CTy) → Keeps Among (List CMember) (Anything (List CMember)) (s_member_declarators_walk y1 y2 y3 list))
      → Keeps Among (List CMember) (Anything (List CMember)) (s_member_decl_walk is_last before (MemberDecl specs list lines))
  member_decl_walk_1 is_last before specs list lines h1 h2 = on_chain _ _ _ _ _ _ (h1 false no_specs_yet) (λ all all_stands. (on_chain _ _ _ _ _ _ (on_specs_seen Among Plain (specs_line specs) all) (λ _ _. (h2 is_last before (base_type all)))))

  member_declarators_walk_1 : (is_last : Bool) (before : List CMember) (type : CTy)
      → Keeps Among (List CMember) (Anything (List CMember)) (s_member_declarators_walk is_last before type no_member_declarators)
  member_declarators_walk_1 is_last before type = on_gives _ _ _ tt

  member_declarators_walk_2 : (is_last : Bool) (before : List CMember) (type : CTy) (first : MemberDeclaratorTree) (others : MemberDeclaratorTrees) (h1 : (y1 : Bool) (y2 : List CMember) (y3 : CTy) → Keeps Among CMember (Anything CMember) (s_member_declarator_walk y1 y2 y3 first)) (h2 : (y1 : Bool) (y2 : List CMember) (y3 : CTy) → Keeps Among (List CMember) (Anything (List CMember)) (s_member_declarators_walk y1 y2 y3 others))
      → Keeps Among (List CMember) (Anything (List CMember)) (s_member_declarators_walk is_last before type (more_member_declarators first others))
  member_declarators_walk_2 is_last before type first others h1 h2 = on_chain _ _ _ _ _ _ (h1 (is_last && no_more_declarators others) before type) (λ one one_stands. (h2 is_last (before ++ one ∷ []) type))

  member_declarator_walk_1 : (is_last : Bool) (before : List CMember) (type : CTy) (declarator : DeclaratorTree) (width : OptionExprTree) (lines : List ℕ) (h1 : Keeps Among CShape (Anything CShape) (s_declarator_walk declarator)) (h2 : Keeps Among (Option COperand) (IfOperandStands Among) (s_option_walk width))
      → Keeps Among CMember (Anything CMember) (s_member_declarator_walk is_last before type (MemberDeclarator declarator width lines))
  member_declarator_walk_1 is_last before type declarator width lines h1 h2 = on_chain _ _ _ _ _ _ h1 (λ shape shape_stands. (on_chain _ _ _ _ _ _ (on_derives_seen Among (declarator_line (own_line lines) declarator) type shape) (λ own own_stands. (on_chain _ _ _ _ _ _ h2 (λ written written_stands. (on_member_seen Among is_last before (declarator_line (own_line lines) declarator) shape.name own written))))))

  enumerators_walk_1 : (next : ℤ) (negative : Bool) → Keeps Among Bool (Anything Bool) (s_enumerators_walk next negative no_enumerators)
  enumerators_walk_1 next negative = on_gives _ _ _ tt

  enumerators_walk_2 : (next : ℤ) (negative : Bool) (first : EnumeratorTree) (others : EnumeratorTrees) (h1 : (y1 : ℤ) → Keeps Among ℤ (Anything ℤ) (s_enumerator_walk y1 first)) (h2 : (y1 : ℤ) (y2 : Bool) → Keeps Among Bool (Anything Bool) (s_enumerators_walk y1 y2 others))
      → Keeps Among Bool (Anything Bool) (s_enumerators_walk next negative (more_enumerators first others))
  enumerators_walk_2 next negative first others h1 h2 = on_chain _ _ _ _ _ _ (h1 next) (λ value value_stands. (h2 (value +ℤ pos 1) (or_negative negative value)))

  enumerator_walk_1 : (next : ℤ) (name : List ℕ) (value : OptionExprTree) (lines : List ℕ) (h1 : Keeps Among (Option COperand) (IfOperandStands Among) (s_option_walk value))
      → Keeps Among ℤ (Anything ℤ) (s_enumerator_walk next (Enumerator name value lines))
  enumerator_walk_1 next name value lines h1 = on_chain _ _ _ _ _ _ h1 (λ written written_stands. (on_enumerator_seen Among name (own_line lines) next written))

  declarator_walk_1 : Keeps Among CShape (Anything CShape) (s_declarator_walk Missing)
  declarator_walk_1 = on_gives _ _ _ tt

  declarator_walk_2 : (name : List ℕ) (lines : List ℕ) → Keeps Among CShape (Anything CShape) (s_declarator_walk (Identifier name lines))
  declarator_walk_2 name lines = on_gives _ _ _ tt

  declarator_walk_3 : (inner : DeclaratorTree) (lines : List ℕ) (h1 : Keeps Among CShape (Anything CShape) (s_declarator_walk inner))
      → Keeps Among CShape (Anything CShape) (s_declarator_walk (Group inner lines))
  declarator_walk_3 inner lines h1 = h1

  declarator_walk_4 : (qualifiers : List Keyword) (of : DeclaratorTree) (lines : List ℕ) (h1 : Keeps Among CShape (Anything CShape) (s_declarator_walk of))
      → Keeps Among CShape (Anything CShape) (s_declarator_walk (Pointer qualifiers of lines))
  declarator_walk_4 qualifiers of lines h1 = on_chain _ _ _ _ _ _ h1 (λ shape shape_stands. (on_gives _ _ _ tt))

  declarator_walk_5 : (of : DeclaratorTree) (brackets : BracketsTree) (lines : List ℕ) (h1 : Keeps Among CShape (Anything CShape) (s_declarator_walk of)) (h2 : (y1 : ℕ) → Keeps Among CStep (Anything CStep) (s_brackets_walk y1 brackets))
      → Keeps Among CShape (Anything CShape) (s_declarator_walk (Array of brackets lines))
  declarator_walk_5 of brackets lines h1 h2 = on_chain _ _ _ _ _ _ h1 (λ shape shape_stands. (on_chain _ _ _ _ _ _ (h2 (declarator_line (own_line lines) of)) (λ step step_stands. (on_gives _ _ _ tt))))

  declarator_walk_6 : (of : DeclaratorTree) (params : ParamTrees) (variadic : Bool) (lines : List ℕ) (h1 : Keeps Among CShape (Anything CShape) (s_declarator_walk of)) (h2 : (y1 : Bool) → Keeps Among (List CParam) (Anything (List CParam)) (s_params_walk y1 params))
      → Keeps Among CShape (Anything CShape) (s_declarator_walk (Function of params variadic lines))
  declarator_walk_6 of params variadic lines h1 h2 = on_chain _ _ _ _ _ _ h1 (λ shape shape_stands. (on_chain _ _ _ _ _ _ (on_params_begin Among) (λ before before_stands. (on_chain _ _ _ _ _ _ (h2 (is_single params variadic)) (λ list list_stands. (on_params_end Among before list variadic shape))))))

  declarator_walk_7 : (of : DeclaratorTree) (names : List (List ℕ)) (lines : List ℕ) (h1 : Keeps Among CShape (Anything CShape) (s_declarator_walk of))
      → Keeps Among CShape (Anything CShape) (s_declarator_walk (Identifiers of names lines))
  declarator_walk_7 of names lines h1 = on_chain _ _ _ _ _ _ h1 (λ shape shape_stands. (on_identifiers_seen Among (declarator_line (own_line lines) of) names shape))

  brackets_walk_1 : (line : ℕ) (qualifiers : List Keyword) → Keeps Among CStep (Anything CStep) (s_brackets_walk line (Unsized qualifiers))
  brackets_walk_1 line qualifiers = on_array_seen Among line (is_none_of qualifiers) None

  brackets_walk_2 : (line : ℕ) (qualifiers : List Keyword) (size : ExprTree) (h1 : Keeps Among COperand (OperandStands Among) (s_expr_walk size))
      → Keeps Among CStep (Anything CStep) (s_brackets_walk line (Length qualifiers size))
  brackets_walk_2 line qualifiers size h1 = on_chain _ _ _ _ _ _ h1 (λ written written_stands. (on_array_seen Among line (is_none_of qualifiers) (Some written)))

  brackets_walk_3 : (line : ℕ) (qualifiers : List Keyword) (size : ExprTree) (h1 : Keeps Among COperand (OperandStands Among) (s_expr_walk size))
      → Keeps Among CStep (Anything CStep) (s_brackets_walk line (StaticFirst qualifiers size))
  brackets_walk_3 line qualifiers size h1 = on_chain _ _ _ _ _ _ h1 (λ written written_stands. (on_array_seen Among line false (Some written)))

  brackets_walk_4 : (line : ℕ) (qualifiers : List Keyword) (size : ExprTree) (h1 : Keeps Among COperand (OperandStands Among) (s_expr_walk size))
      → Keeps Among CStep (Anything CStep) (s_brackets_walk line (StaticLast qualifiers size))
  brackets_walk_4 line qualifiers size h1 = on_chain _ _ _ _ _ _ h1 (λ written written_stands. (on_array_seen Among line false (Some written)))

  brackets_walk_5 : (line : ℕ) (qualifiers : List Keyword) → Keeps Among CStep (Anything CStep) (s_brackets_walk line (Star qualifiers))
  brackets_walk_5 line qualifiers = on_array_seen Among line false None

  params_walk_1 : (is_only : Bool) → Keeps Among (List CParam) (Anything (List CParam)) (s_params_walk is_only no_params)
  params_walk_1 is_only = on_gives _ _ _ tt

  params_walk_2 : (is_only : Bool) (first : ParamTree) (others : ParamTrees) (h1 : (y1 : Bool) → Keeps Among (Option CParam) (Anything (Option CParam)) (s_param_walk y1 first)) (h2 : (y1 : Bool) → Keeps Among (List CParam) (Anything (List CParam)) (s_params_walk y1 others))
      → Keeps Among (List CParam) (Anything (List CParam)) (s_params_walk is_only (more_params first others))
  params_walk_2 is_only first others h1 h2 = on_chain _ _ _ _ _ _ (h1 is_only) (λ one one_stands. (on_chain _ _ _ _ _ _ (h2 false) (λ more more_stands. (on_gives _ _ _ tt))))

  param_walk_1 : (is_only : Bool) (specs : SpecTrees) (declarator : DeclaratorTree) (lines : List ℕ) (h1 : (y1 : Bool) (y2 : CSpecs) → Keeps Among CSpecs (Anything CSpecs) (s_specs_walk y1 y2 specs)) (h2 : Keeps Among CShape (Anything CShape) (s_declarator_walk declarator))
      → Keeps Among (Option CParam) (Anything (Option CParam)) (s_param_walk is_only (Param specs declarator lines))
  param_walk_1 is_only specs declarator lines h1 h2 = on_chain _ _ _ _ _ _ (h1 false no_specs_yet) (λ all all_stands. (on_chain _ _ _ _ _ _ (on_specs_seen Among Parameter (specs_line specs) all) (λ _ _. (on_chain _ _ _ _ _ _ h2 (λ shape shape_stands. (on_chain _ _ _ _ _ _ (on_derives_seen Among (declarator_line (specs_line specs) declarator) (base_type all) shape) (λ type type_stands. (on_param_seen Among is_only (specs_line specs) all shape.name type))))))))

  initialiser_walk_1 : (target : CTarget) (value : ExprTree) (h1 : Keeps Among COperand (OperandStands Among) (s_expr_walk value))
      → Keeps Among (List CStored) (AllStoredStand Among) (s_initialiser_walk target (Single value))
  initialiser_walk_1 target value h1 = on_either _ _ (is_text value) _ _ (on_chain _ _ _ _ _ _ (on_whole_text Among (expr_line value) target (text_parts value)) (λ filling filling_stands. (on_gives _ _ _ filling_stands))) (on_chain _ _ _ _ _ _ h1 (λ one one_stands. (on_chain _ _ _ _ _ _ (on_whole_given Among (expr_line value) target one one_stands) (λ filling filling_stands. (on_gives _ _ _ filling_stands)))))

  initialiser_walk_2 : (target : CTarget) (list : InitialiserListTree) (h1 : (y1 : CTarget) (y2 : List CStored) (y2_stands : AllStoredStand Among y2) → Keeps Among (List CStored) (AllStoredStand Among) (s_list_walk y1 y2 list))
      → Keeps Among (List CStored) (AllStoredStand Among) (s_initialiser_walk target (Braced list))
  initialiser_walk_2 target list h1 = h1 target [] tt

  list_walk_1 : (target : CTarget) (stored : List CStored) (entries : EntryTrees) (last_comma : Bool) (lines : List ℕ) (stored_stands : AllStoredStand Among stored) (h1 : (y1 : CTarget) (y2 : CFilling) (y2_stands : FillingStands Among y2) → Keeps Among (List CStored) (AllStoredStand Among) (s_entries_walk y1 y2 entries))
      → Keeps Among (List CStored) (AllStoredStand Among) (s_list_walk target stored (InitialiserList entries last_comma lines))
  list_walk_1 target stored entries last_comma lines stored_stands h1 = on_chain _ _ _ _ _ _ (on_list_begins Among target entries stored stored_stands) (λ filling filling_stands. (h1 target filling filling_stands))

  entries_walk_1 : (target : CTarget) (filling : CFilling) (filling_stands : FillingStands Among filling)
      → Keeps Among (List CStored) (AllStoredStand Among) (s_entries_walk target filling no_entries)
  entries_walk_1 target filling filling_stands = on_gives _ _ _ filling_stands

  entries_walk_2 : (target : CTarget) (filling : CFilling) (first : EntryTree) (others : EntryTrees) (filling_stands : FillingStands Among filling) (h1 : (y1 : CTarget) (y2 : CFilling) (y2_stands : FillingStands Among y2) → Keeps Among CFilling (FillingStands Among) (s_entry_walk y1 y2 first)) (h2 : (y1 : CTarget) (y2 : CFilling) (y2_stands : FillingStands Among y2) → Keeps Among (List CStored) (AllStoredStand Among) (s_entries_walk y1 y2 others))
      → Keeps Among (List CStored) (AllStoredStand Among) (s_entries_walk target filling (more_entries first others))
  entries_walk_2 target filling first others filling_stands h1 h2 = on_chain _ _ _ _ _ _ (h1 target filling filling_stands) (λ more more_stands. (h2 target more more_stands))

  entry_walk_1 : (target : CTarget) (filling : CFilling) (init : InitialiserTree) (lines : List ℕ) (filling_stands : FillingStands Among filling) (h1 : (y1 : CTarget) (y2 : Option CAt) (y3 : CFilling) (y3_stands : FillingStands Among y3) → Keeps Among CFilling (FillingStands Among) (s_given_walk y1 y2 y3 init))
      → Keeps Among CFilling (FillingStands Among) (s_entry_walk target filling (Entry no_designators init lines))
  entry_walk_1 target filling init lines filling_stands h1 = h1 target filling.next filling filling_stands

  entry_walk_2 : (target : CTarget) (filling : CFilling) (first : DesignatorTree) (others : DesignatorTrees) (init : InitialiserTree) (lines : List ℕ) (filling_stands : FillingStands Among filling) (h1 : (y1 : Option CAt) → Keeps Among (Option CAt) (Anything (Option CAt)) (s_designator_walk y1 first)) (h2 : (y1 : Option CAt) → Keeps Among (Option CAt) (Anything (Option CAt)) (s_designators_walk y1 others)) (h3 : (y1 : CTarget) (y2 : Option CAt) (y3 : CFilling) (y3_stands : FillingStands Among y3) → Keeps Among CFilling (FillingStands Among) (s_given_walk y1 y2 y3 init))
      → Keeps Among CFilling (FillingStands Among) (s_entry_walk target filling (Entry (more_designators first others) init lines))
  entry_walk_2 target filling first others init lines filling_stands h1 h2 h3 = on_chain _ _ _ _ _ _ (h1 (designated_from target)) (λ at at_stands. (on_chain _ _ _ _ _ _ (h2 at) (λ last last_stands. (h3 target last filling filling_stands))))

  designators_walk_1 : (at : Option CAt) → Keeps Among (Option CAt) (Anything (Option CAt)) (s_designators_walk at no_designators)
  designators_walk_1 at = on_gives _ _ _ tt

  designators_walk_2 : (at : Option CAt) (first : DesignatorTree) (others : DesignatorTrees) (h1 : (y1 : Option CAt) → Keeps Among (Option CAt) (Anything (Option CAt)) (s_designator_walk y1 first)) (h2 : (y1 : Option CAt) → Keeps Among (Option CAt) (Anything (Option CAt)) (s_designators_walk y1 others))
      → Keeps Among (Option CAt) (Anything (Option CAt)) (s_designators_walk at (more_designators first others))
  designators_walk_2 at first others h1 h2 = on_chain _ _ _ _ _ _ (h1 at) (λ next next_stands. (h2 next))

  designator_walk_1 : (at : Option CAt) (index : ExprTree) (lines : List ℕ) (h1 : Keeps Among COperand (OperandStands Among) (s_expr_walk index))
      → Keeps Among (Option CAt) (Anything (Option CAt)) (s_designator_walk at (Element index lines))
  designator_walk_1 at index lines h1 = on_chain _ _ _ _ _ _ h1 (λ one one_stands. (on_element_seen Among (own_line lines) at one))

  designator_walk_2 : (at : Option CAt) (name : List ℕ) (lines : List ℕ) → Keeps Among (Option CAt) (Anything (Option CAt)) (s_designator_walk at (Member name lines))
  designator_walk_2 at name lines = on_member_designated Among (own_line lines) at name

  given_walk_1 : (target : CTarget) (at : Option CAt) (filling : CFilling) (value : ExprTree) (filling_stands : FillingStands Among filling) (h1 : Keeps Among COperand (OperandStands Among) (s_expr_walk value))
      → Keeps Among CFilling (FillingStands Among) (s_given_walk target at filling (Single value))
  given_walk_1 target at filling value filling_stands h1 = on_either _ _ (is_text value) _ _ (on_text_given Among (expr_line value) target at filling (text_parts value) filling_stands) (on_chain _ _ _ _ _ _ h1 (λ one one_stands. (on_value_given Among (expr_line value) target at filling one filling_stands one_stands)))

  given_walk_2 : (target : CTarget) (at : Option CAt) (filling : CFilling) (list : InitialiserListTree) (filling_stands : FillingStands Among filling) (h1 : (y1 : CTarget) (y2 : List CStored) (y2_stands : AllStoredStand Among y2) → Keeps Among (List CStored) (AllStoredStand Among) (s_list_walk y1 y2 list))
      → Keeps Among CFilling (FillingStands Among) (s_given_walk target at filling (Braced list))
  given_walk_2 target at filling list filling_stands h1 = on_chain _ _ _ _ _ _ (h1 (target_at target at) filling.stored filling_stands) (λ stored stored_stands. (on_list_given Among target at filling stored stored_stands))

  mutual
    pub on_expr_walk : (x1 : ExprTree) → Keeps Among COperand (OperandStands Among) (s_expr_walk x1)
    on_expr_walk (Name name lines) = expr_walk_1 name lines
    on_expr_walk (Number value type lines) = expr_walk_2 value type lines
    on_expr_walk (Letter value lines) = expr_walk_3 value lines
    on_expr_walk (Text parts lines) = expr_walk_4 parts lines
    on_expr_walk (Paren inner lines) = expr_walk_5 inner lines (on_expr_walk inner)
    on_expr_walk (Index of index lines) = expr_walk_6 of index lines (on_expr_walk of) (on_expr_walk index)
    on_expr_walk (Call of args lines) = expr_walk_7 of args lines (on_expr_walk of) (on_exprs_walk args)
    on_expr_walk (Dot of name lines) = expr_walk_8 of name lines (on_expr_walk of)
    on_expr_walk (Arrow of name lines) = expr_walk_9 of name lines (on_expr_walk of)
    on_expr_walk (PostUp of lines) = expr_walk_10 of lines (on_expr_walk of)
    on_expr_walk (PostDown of lines) = expr_walk_11 of lines (on_expr_walk of)
    on_expr_walk (Literal of list lines) = expr_walk_12 of list lines (on_type_name_walk of) (λ y1 y2 y2_stands. on_list_walk y1 y2 list y2_stands)
    on_expr_walk (PreUp on lines) = expr_walk_13 on lines (on_expr_walk on)
    on_expr_walk (PreDown on lines) = expr_walk_14 on lines (on_expr_walk on)
    on_expr_walk (Unary op on lines) = expr_walk_15 op on lines (on_expr_walk on)
    on_expr_walk (SizeofExpr on lines) = expr_walk_16 on lines (on_expr_walk on)
    on_expr_walk (SizeofType of lines) = expr_walk_17 of lines (on_type_name_walk of)
    on_expr_walk (Cast to on lines) = expr_walk_18 to on lines (on_type_name_walk to) (on_expr_walk on)
    on_expr_walk (Binary left op right lines) = expr_walk_19 left op right lines (on_expr_walk left) (on_expr_walk right)
    on_expr_walk (Cond condition if_true if_false lines) = expr_walk_20 condition if_true if_false lines (on_expr_walk condition) (on_expr_walk if_true) (on_expr_walk if_false)
    on_expr_walk (Assign left op right lines) = expr_walk_21 left op right lines (on_expr_walk left) (on_expr_walk right)
    on_expr_walk (Comma left right lines) = expr_walk_22 left right lines (on_expr_walk left) (on_expr_walk right)

    pub on_exprs_walk : (x1 : ExprTrees) → Keeps Among (List COperand) (OperandsStand Among) (s_exprs_walk x1)
    on_exprs_walk no_exprs = exprs_walk_1
    on_exprs_walk (more_exprs first others) = exprs_walk_2 first others (on_expr_walk first) (on_exprs_walk others)

    pub on_option_walk : (x1 : OptionExprTree) → Keeps Among (Option COperand) (IfOperandStands Among) (s_option_walk x1)
    on_option_walk no_expr = option_walk_1
    on_option_walk (some_expr one) = option_walk_2 one (on_expr_walk one)

    pub on_type_name_walk : (x1 : TypeNameTree) → Keeps Among CTy (Anything CTy) (s_type_name_walk x1)
    on_type_name_walk (TypeName specs declarator lines) = type_name_walk_1 specs declarator lines (λ y1 y2. on_specs_walk y1 y2 specs) (on_declarator_walk declarator)

    pub on_spec_walk : (x1 : Bool) (x2 : CSpecs) (x3 : SpecTree) → Keeps Among CSpecs (Anything CSpecs) (s_spec_walk x1 x2 x3)
    on_spec_walk alone specs (Key word lines) = spec_walk_1 alone specs word lines
    on_spec_walk alone specs (Typedef name lines) = spec_walk_2 alone specs name lines
    on_spec_walk alone specs (Record is_union name no_members lines) = spec_walk_3 alone specs is_union name lines
    on_spec_walk alone specs (Record is_union name (some_members list) lines) = spec_walk_4 alone specs is_union name list lines (λ y1. on_member_decls_walk y1 list)
    on_spec_walk alone specs (Enum name no_enumerator_list last_comma lines) = spec_walk_5 alone specs name last_comma lines
    on_spec_walk alone specs (Enum name (some_enumerator_list list) last_comma lines) = spec_walk_6 alone specs name list last_comma lines (λ y1 y2. on_enumerators_walk y1 y2 list)

    pub on_specs_walk : (x1 : Bool) (x2 : CSpecs) (x3 : SpecTrees) → Keeps Among CSpecs (Anything CSpecs) (s_specs_walk x1 x2 x3)
    on_specs_walk alone specs no_specs = specs_walk_1 alone specs
    on_specs_walk alone specs (more_specs first others) = specs_walk_2 alone specs first others (λ y1 y2. on_spec_walk y1 y2 first) (λ y1 y2. on_specs_walk y1 y2 others)

    pub on_member_decls_walk : (x1 : List CMember) (x2 : MemberDeclTrees) → Keeps Among (List CMember) (Anything (List CMember)) (s_member_decls_walk x1 x2)
    on_member_decls_walk before no_member_decls = member_decls_walk_1 before
    on_member_decls_walk before (more_member_decls first others) = member_decls_walk_2 before first others (λ y1 y2. on_member_decl_walk y1 y2 first) (λ y1. on_member_decls_walk y1 others)

    pub on_member_decl_walk : (x1 : Bool) (x2 : List CMember) (x3 : MemberDeclTree) → Keeps Among (List CMember) (Anything (List CMember)) (s_member_decl_walk x1 x2 x3)
    on_member_decl_walk is_last before (MemberDecl specs list lines) = member_decl_walk_1 is_last before specs list lines (λ y1 y2. on_specs_walk y1 y2 specs) (λ y1 y2 y3. on_member_declarators_walk y1 y2 y3 list)

    pub on_member_declarators_walk : (x1 : Bool) (x2 : List CMember) (x3 : CTy) (x4 : MemberDeclaratorTrees)
        → Keeps Among (List CMember) (Anything (List CMember)) (s_member_declarators_walk x1 x2 x3 x4)
    on_member_declarators_walk is_last before type no_member_declarators = member_declarators_walk_1 is_last before type
    on_member_declarators_walk is_last before type (more_member_declarators first others) = member_declarators_walk_2 is_last before type first others (λ y1 y2 y3. on_member_declarator_walk y1 y2 y3 first) (λ y1 y2 y3. on_member_declarators_walk y1 y2 y3 others)

    pub on_member_declarator_walk : (x1 : Bool) (x2 : List CMember) (x3 : CTy) (x4 : MemberDeclaratorTree)
        → Keeps Among CMember (Anything CMember) (s_member_declarator_walk x1 x2 x3 x4)
    on_member_declarator_walk is_last before type (MemberDeclarator declarator width lines) = member_declarator_walk_1 is_last before type declarator width lines (on_declarator_walk declarator) (on_option_walk width)

    pub on_enumerators_walk : (x1 : ℤ) (x2 : Bool) (x3 : EnumeratorTrees) → Keeps Among Bool (Anything Bool) (s_enumerators_walk x1 x2 x3)
    on_enumerators_walk next negative no_enumerators = enumerators_walk_1 next negative
    on_enumerators_walk next negative (more_enumerators first others) = enumerators_walk_2 next negative first others (λ y1. on_enumerator_walk y1 first) (λ y1 y2. on_enumerators_walk y1 y2 others)

    pub on_enumerator_walk : (x1 : ℤ) (x2 : EnumeratorTree) → Keeps Among ℤ (Anything ℤ) (s_enumerator_walk x1 x2)
    on_enumerator_walk next (Enumerator name value lines) = enumerator_walk_1 next name value lines (on_option_walk value)

    pub on_declarator_walk : (x1 : DeclaratorTree) → Keeps Among CShape (Anything CShape) (s_declarator_walk x1)
    on_declarator_walk Missing = declarator_walk_1
    on_declarator_walk (Identifier name lines) = declarator_walk_2 name lines
    on_declarator_walk (Group inner lines) = declarator_walk_3 inner lines (on_declarator_walk inner)
    on_declarator_walk (Pointer qualifiers of lines) = declarator_walk_4 qualifiers of lines (on_declarator_walk of)
    on_declarator_walk (Array of brackets lines) = declarator_walk_5 of brackets lines (on_declarator_walk of) (λ y1. on_brackets_walk y1 brackets)
    on_declarator_walk (Function of params variadic lines) = declarator_walk_6 of params variadic lines (on_declarator_walk of) (λ y1. on_params_walk y1 params)
    on_declarator_walk (Identifiers of names lines) = declarator_walk_7 of names lines (on_declarator_walk of)

    pub on_brackets_walk : (x1 : ℕ) (x2 : BracketsTree) → Keeps Among CStep (Anything CStep) (s_brackets_walk x1 x2)
    on_brackets_walk line (Unsized qualifiers) = brackets_walk_1 line qualifiers
    on_brackets_walk line (Length qualifiers size) = brackets_walk_2 line qualifiers size (on_expr_walk size)
    on_brackets_walk line (StaticFirst qualifiers size) = brackets_walk_3 line qualifiers size (on_expr_walk size)
    on_brackets_walk line (StaticLast qualifiers size) = brackets_walk_4 line qualifiers size (on_expr_walk size)
    on_brackets_walk line (Star qualifiers) = brackets_walk_5 line qualifiers

    pub on_params_walk : (x1 : Bool) (x2 : ParamTrees) → Keeps Among (List CParam) (Anything (List CParam)) (s_params_walk x1 x2)
    on_params_walk is_only no_params = params_walk_1 is_only
    on_params_walk is_only (more_params first others) = params_walk_2 is_only first others (λ y1. on_param_walk y1 first) (λ y1. on_params_walk y1 others)

    pub on_param_walk : (x1 : Bool) (x2 : ParamTree) → Keeps Among (Option CParam) (Anything (Option CParam)) (s_param_walk x1 x2)
    on_param_walk is_only (Param specs declarator lines) = param_walk_1 is_only specs declarator lines (λ y1 y2. on_specs_walk y1 y2 specs) (on_declarator_walk declarator)

    pub on_initialiser_walk : (x1 : CTarget) (x2 : InitialiserTree) → Keeps Among (List CStored) (AllStoredStand Among) (s_initialiser_walk x1 x2)
    on_initialiser_walk target (Single value) = initialiser_walk_1 target value (on_expr_walk value)
    on_initialiser_walk target (Braced list) = initialiser_walk_2 target list (λ y1 y2 y2_stands. on_list_walk y1 y2 list y2_stands)

    pub on_list_walk : (x1 : CTarget) (x2 : List CStored) (x3 : InitialiserListTree) (x2_stands : AllStoredStand Among x2)
        → Keeps Among (List CStored) (AllStoredStand Among) (s_list_walk x1 x2 x3)
    on_list_walk target stored (InitialiserList entries last_comma lines) stored_stands = list_walk_1 target stored entries last_comma lines stored_stands (λ y1 y2 y2_stands. on_entries_walk y1 y2 entries y2_stands)

    pub on_entries_walk : (x1 : CTarget) (x2 : CFilling) (x3 : EntryTrees) (x2_stands : FillingStands Among x2)
        → Keeps Among (List CStored) (AllStoredStand Among) (s_entries_walk x1 x2 x3)
    on_entries_walk target filling no_entries filling_stands = entries_walk_1 target filling filling_stands
    on_entries_walk target filling (more_entries first others) filling_stands = entries_walk_2 target filling first others filling_stands (λ y1 y2 y2_stands. on_entry_walk y1 y2 first y2_stands) (λ y1 y2 y2_stands. on_entries_walk y1 y2 others y2_stands)

    pub on_entry_walk : (x1 : CTarget) (x2 : CFilling) (x3 : EntryTree) (x2_stands : FillingStands Among x2) → Keeps Among CFilling (FillingStands Among) (s_entry_walk x1 x2 x3)
    on_entry_walk target filling (Entry no_designators init lines) filling_stands = entry_walk_1 target filling init lines filling_stands (λ y1 y2 y3 y3_stands. on_given_walk y1 y2 y3 init y3_stands)
    on_entry_walk target filling (Entry (more_designators first others) init lines) filling_stands = entry_walk_2 target filling first others init lines filling_stands (λ y1. on_designator_walk y1 first) (λ y1. on_designators_walk y1 others) (λ y1 y2 y3 y3_stands. on_given_walk y1 y2 y3 init y3_stands)

    pub on_designators_walk : (x1 : Option CAt) (x2 : DesignatorTrees) → Keeps Among (Option CAt) (Anything (Option CAt)) (s_designators_walk x1 x2)
    on_designators_walk at no_designators = designators_walk_1 at
    on_designators_walk at (more_designators first others) = designators_walk_2 at first others (λ y1. on_designator_walk y1 first) (λ y1. on_designators_walk y1 others)

    pub on_designator_walk : (x1 : Option CAt) (x2 : DesignatorTree) → Keeps Among (Option CAt) (Anything (Option CAt)) (s_designator_walk x1 x2)
    on_designator_walk at (Element index lines) = designator_walk_1 at index lines (on_expr_walk index)
    on_designator_walk at (Member name lines) = designator_walk_2 at name lines

    pub on_given_walk : (x1 : CTarget) (x2 : Option CAt) (x3 : CFilling) (x4 : InitialiserTree) (x3_stands : FillingStands Among x3)
        → Keeps Among CFilling (FillingStands Among) (s_given_walk x1 x2 x3 x4)
    on_given_walk target at filling (Single value) filling_stands = given_walk_1 target at filling value filling_stands (on_expr_walk value)
    on_given_walk target at filling (Braced list) filling_stands = given_walk_2 target at filling list filling_stands (λ y1 y2 y2_stands. on_list_walk y1 y2 list y2_stands)
