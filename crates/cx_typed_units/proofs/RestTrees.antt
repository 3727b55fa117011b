-- What the walk over expressions, types and initialisers leaves of a scope as it is, tree by tree.
use Rattle.cx_core.specs.Trees.{CMember, CTy}
use Rattle.cx_lex.specs.declared.token.Keyword.{Keyword}
use Rattle.cx_lex.specs.declared.token.Punct.{Punct}
use Rattle.cx_lex.specs.declared.token.Ty0.{Ty0}
use Rattle.cx_rules.proofs.NodesAgree.{s_params_begin, s_params_end, s_expr_walk, s_exprs_walk, s_option_walk, s_type_name_walk, s_spec_walk, s_specs_walk, s_member_decls_walk, s_member_decl_walk, s_member_declarators_walk, s_member_declarator_walk, s_enumerators_walk, s_enumerator_walk, s_declarator_walk, s_brackets_walk, s_params_walk, s_param_walk, s_initialiser_walk, s_list_walk, s_entries_walk, s_entry_walk, s_designators_walk, s_designator_walk, s_given_walk}
use Rattle.cx_rules.specs.Initial.{CAt, CStored}
use Rattle.cx_rules.specs.Lines.{declarator_line, expr_line, own_line, specs_line}
use Rattle.cx_rules.specs.Operands.{COperand}
use Rattle.cx_rules.specs.Pieces.{CFilling, CTarget, assignment_of, binary_of, calls_by_name, designated_from, is_none_of, is_single, is_text, no_more_declarators, no_more_decls, object_of_type, or_negative, target_at, text_parts, unary_of}
use Rattle.cx_rules.specs.Readings.{seen_gives, seen_chain, seen_here, seen_becomes}
use Rattle.cx_rules.specs.Scope.{CScope, ordinary, down_to, left, entered}
use Rattle.cx_rules.specs.Shapes.{CParam, CShape, CSpecs, CStep, base_type, no_specs_yet}
use Rattle.cx_rules.specs.declared.kinds.SpecsPlace.TheVariants.{Parameter, Plain}
use Rattle.cx_tree.specs.Trees.{Array, Arrow, Assign, Binary, Braced, BracketsTree, Call, Cast, Comma, Cond, DeclaratorTree, DesignatorTree, DesignatorTrees, Dot, Element, Entry, EntryTree, EntryTrees, Enum, Enumerator, EnumeratorTree, EnumeratorTrees, ExprTree, ExprTrees, Function, Group, Identifier, Identifiers, Index, InitialiserList, InitialiserListTree, InitialiserTree, Key, Length, Letter, Literal, Member, MemberDecl, MemberDeclTree, MemberDeclTrees, MemberDeclarator, MemberDeclaratorTree, MemberDeclaratorTrees, Missing, Name, Number, OptionExprTree, Param, ParamTree, ParamTrees, Paren, Pointer, PostDown, PostUp, PreDown, PreUp, Record, Single, SizeofExpr, SizeofType, SpecTree, SpecTrees, Star, StaticFirst, StaticLast, Text, TypeName, TypeNameTree, Typedef, Unary, Unsized, more_designators, more_entries, more_enumerators, more_exprs, more_member_declarators, more_member_decls, more_params, more_specs, no_designators, no_entries, no_enumerator_list, no_enumerators, no_expr, no_exprs, no_member_declarators, no_member_decls, no_members, no_params, no_specs, some_enumerator_list, some_expr, some_members}
use Rattle.cx_typed_units.proofs.RestNodes.{at_chain, kept_chain, kept_here, kept_given, kept_either, kept_name_seen, kept_number_seen, kept_letter_seen, kept_text_seen, kept_index_seen, kept_dot_seen, kept_arrow_seen, kept_step_seen, kept_unary_seen, kept_sizeof_type_seen, kept_cast_seen, kept_binary_seen, kept_cond_seen, kept_assign_seen, kept_comma_seen, kept_specs_seen, kept_typedef_seen, kept_record_use_seen, kept_record_begins, kept_record_ends, kept_enum_use_seen, kept_enum_begins, kept_enum_ends, kept_enumerator_seen, kept_derives_seen, kept_member_seen, kept_array_seen, kept_identifiers_seen, kept_param_seen, kept_value_given, kept_text_given, kept_whole_given, kept_whole_text, kept_list_begins, kept_list_given, kept_element_seen, kept_member_designated, kept_call_seen, sizeof_at, kept_literal_begins, kept_literal_ends, Keeps}
use Rattle.cx_typed_units.specs.Rest.{CRest, linked_type}
use Rattle.cx_typed_units.proofs.Around.{behind_front}
use Rattle.std.proofs.Common.{ap, subst, ◌≡◌, ◌∙◌}
use Rattle.std.specs.Prelude.{Bool, List, None, Option, Some, [], false, length, not, pos, true, ℕ, ℤ, ◌&&◌, ◌++◌, ◌+ℤ◌, ◌∷◌}

expr_walk_7 : (of : ExprTree) (args : ExprTrees) (lines : List ℕ) (h1 : Keeps COperand (s_expr_walk of)) (h2 : Keeps (List COperand) (s_exprs_walk args)) → Keeps COperand (s_expr_walk (Call of args lines))
expr_walk_7 of args lines h1 h2 = kept_here _ _ (λ before. at_chain _ _ _ _ before (h1 before) (λ callee. kept_chain _ _ _ _ h2 (λ given. kept_call_seen (expr_line of) (calls_by_name of callee) (length before.mentions) callee given)))

expr_walk_12 : (of : TypeNameTree) (list : InitialiserListTree) (lines : List ℕ) (h1 : Keeps CTy (s_type_name_walk of)) (h2 : (y1 : CTarget) (y2 : List CStored) → Keeps (List CStored) (s_list_walk y1 y2 list))
    → Keeps COperand (s_expr_walk (Literal of list lines))
expr_walk_12 of list lines h1 h2 = kept_chain _ _ _ _ h1 (λ type. kept_chain _ _ _ _ (kept_literal_begins type) (λ before.
    kept_chain _ _ _ _ (h2 (object_of_type (not before.in_function) type) []) (λ stored. kept_literal_ends before (own_line lines) type stored)))

expr_walk_16 : (on : ExprTree) (lines : List ℕ) (h1 : Keeps COperand (s_expr_walk on)) → Keeps COperand (s_expr_walk (SizeofExpr on lines))
expr_walk_16 on lines h1 = kept_here _ _ (λ before. sizeof_at (own_line lines) (s_expr_walk on) before (h1 before))

expr_walk_1 : (name : List ℕ) (lines : List ℕ) → Keeps COperand (s_expr_walk (Name name lines))
expr_walk_1 name lines = (kept_name_seen name (own_line lines))

expr_walk_2 : (value : ℕ) (type : Ty0) (lines : List ℕ) → Keeps COperand (s_expr_walk (Number value type lines))
expr_walk_2 value type lines = (kept_number_seen value type (own_line lines))

expr_walk_3 : (value : ℤ) (lines : List ℕ) → Keeps COperand (s_expr_walk (Letter value lines))
expr_walk_3 value lines = (kept_letter_seen value (own_line lines))

expr_walk_4 : (parts : List (List ℕ)) (lines : List ℕ) → Keeps COperand (s_expr_walk (Text parts lines))
expr_walk_4 parts lines = (kept_text_seen parts (own_line lines))

expr_walk_5 : (inner : ExprTree) (lines : List ℕ) (h1 : Keeps COperand (s_expr_walk inner)) → Keeps COperand (s_expr_walk (Paren inner lines))
expr_walk_5 inner lines h1 = h1

expr_walk_6 : (of : ExprTree) (index : ExprTree) (lines : List ℕ) (h1 : Keeps COperand (s_expr_walk of)) (h2 : Keeps COperand (s_expr_walk index)) → Keeps COperand (s_expr_walk (Index of index lines))
expr_walk_6 of index lines h1 h2 = (kept_chain _ _ _ _ h1 (λ one. (kept_chain _ _ _ _ h2 (λ other. (kept_index_seen (expr_line of) one other)))))

expr_walk_8 : (of : ExprTree) (name : List ℕ) (lines : List ℕ) (h1 : Keeps COperand (s_expr_walk of)) → Keeps COperand (s_expr_walk (Dot of name lines))
expr_walk_8 of name lines h1 = (kept_chain _ _ _ _ h1 (λ one. (kept_dot_seen (expr_line of) one name)))

expr_walk_9 : (of : ExprTree) (name : List ℕ) (lines : List ℕ) (h1 : Keeps COperand (s_expr_walk of)) → Keeps COperand (s_expr_walk (Arrow of name lines))
expr_walk_9 of name lines h1 = (kept_chain _ _ _ _ h1 (λ one. (kept_arrow_seen (expr_line of) one name)))

expr_walk_10 : (of : ExprTree) (lines : List ℕ) (h1 : Keeps COperand (s_expr_walk of)) → Keeps COperand (s_expr_walk (PostUp of lines))
expr_walk_10 of lines h1 = (kept_chain _ _ _ _ h1 (λ one. (kept_step_seen (expr_line of) true true one)))

expr_walk_11 : (of : ExprTree) (lines : List ℕ) (h1 : Keeps COperand (s_expr_walk of)) → Keeps COperand (s_expr_walk (PostDown of lines))
expr_walk_11 of lines h1 = (kept_chain _ _ _ _ h1 (λ one. (kept_step_seen (expr_line of) false true one)))

expr_walk_13 : (on : ExprTree) (lines : List ℕ) (h1 : Keeps COperand (s_expr_walk on)) → Keeps COperand (s_expr_walk (PreUp on lines))
expr_walk_13 on lines h1 = (kept_chain _ _ _ _ h1 (λ one. (kept_step_seen (own_line lines) true false one)))

expr_walk_14 : (on : ExprTree) (lines : List ℕ) (h1 : Keeps COperand (s_expr_walk on)) → Keeps COperand (s_expr_walk (PreDown on lines))
expr_walk_14 on lines h1 = (kept_chain _ _ _ _ h1 (λ one. (kept_step_seen (own_line lines) false false one)))

expr_walk_15 : (op : Punct) (on : ExprTree) (lines : List ℕ) (h1 : Keeps COperand (s_expr_walk on)) → Keeps COperand (s_expr_walk (Unary op on lines))
expr_walk_15 op on lines h1 = (kept_chain _ _ _ _ h1 (λ one. (kept_unary_seen (own_line lines) (unary_of op) one)))

expr_walk_17 : (of : TypeNameTree) (lines : List ℕ) (h1 : Keeps CTy (s_type_name_walk of)) → Keeps COperand (s_expr_walk (SizeofType of lines))
expr_walk_17 of lines h1 = (kept_chain _ _ _ _ h1 (λ type. (kept_sizeof_type_seen (own_line lines) type)))

expr_walk_18 : (to : TypeNameTree) (on : ExprTree) (lines : List ℕ) (h1 : Keeps CTy (s_type_name_walk to)) (h2 : Keeps COperand (s_expr_walk on)) → Keeps COperand (s_expr_walk (Cast to on lines))
expr_walk_18 to on lines h1 h2 = (kept_chain _ _ _ _ h1 (λ type. (kept_chain _ _ _ _ h2 (λ one. (kept_cast_seen (own_line lines) type one)))))

expr_walk_19 : (left : ExprTree) (op : Punct) (right : ExprTree) (lines : List ℕ) (h1 : Keeps COperand (s_expr_walk left)) (h2 : Keeps COperand (s_expr_walk right)) → Keeps COperand (s_expr_walk (Binary left op right lines))
expr_walk_19 left op right lines h1 h2 = (kept_chain _ _ _ _ h1 (λ one. (kept_chain _ _ _ _ h2 (λ other. (kept_binary_seen (expr_line left) (binary_of op) one other)))))

expr_walk_20 : (condition : ExprTree) (if_true : ExprTree) (if_false : ExprTree) (lines : List ℕ) (h1 : Keeps COperand (s_expr_walk condition)) (h2 : Keeps COperand (s_expr_walk if_true)) (h3 : Keeps COperand (s_expr_walk if_false)) → Keeps COperand (s_expr_walk (Cond condition if_true if_false lines))
expr_walk_20 condition if_true if_false lines h1 h2 h3 = (kept_chain _ _ _ _ h1 (λ test. (kept_chain _ _ _ _ h2 (λ first. (kept_chain _ _ _ _ h3 (λ second. (kept_cond_seen (expr_line condition) test first second)))))))

expr_walk_21 : (left : ExprTree) (op : Punct) (right : ExprTree) (lines : List ℕ) (h1 : Keeps COperand (s_expr_walk left)) (h2 : Keeps COperand (s_expr_walk right)) → Keeps COperand (s_expr_walk (Assign left op right lines))
expr_walk_21 left op right lines h1 h2 = (kept_chain _ _ _ _ h1 (λ one. (kept_chain _ _ _ _ h2 (λ other. (kept_assign_seen (expr_line left) (assignment_of op) one other)))))

expr_walk_22 : (left : ExprTree) (right : ExprTree) (lines : List ℕ) (h1 : Keeps COperand (s_expr_walk left)) (h2 : Keeps COperand (s_expr_walk right)) → Keeps COperand (s_expr_walk (Comma left right lines))
expr_walk_22 left right lines h1 h2 = (kept_chain _ _ _ _ h1 (λ one. (kept_chain _ _ _ _ h2 (λ other. (kept_comma_seen (expr_line left) one other)))))

exprs_walk_1 : Keeps (List COperand) (s_exprs_walk no_exprs)
exprs_walk_1 = (kept_given _ _)

exprs_walk_2 : (first : ExprTree) (others : ExprTrees) (h1 : Keeps COperand (s_expr_walk first)) (h2 : Keeps (List COperand) (s_exprs_walk others)) → Keeps (List COperand) (s_exprs_walk (more_exprs first others))
exprs_walk_2 first others h1 h2 = (kept_chain _ _ _ _ h1 (λ one. (kept_chain _ _ _ _ h2 (λ more. (kept_given _ _)))))

option_walk_1 : Keeps (Option COperand) (s_option_walk no_expr)
option_walk_1 = (kept_given _ _)

option_walk_2 : (one : ExprTree) (h1 : Keeps COperand (s_expr_walk one)) → Keeps (Option COperand) (s_option_walk (some_expr one))
option_walk_2 one h1 = (kept_chain _ _ _ _ h1 (λ operand. (kept_given _ _)))

type_name_walk_1 : (specs : SpecTrees) (declarator : DeclaratorTree) (lines : List ℕ) (h1 : (y1 : Bool) (y2 : CSpecs) → Keeps CSpecs (s_specs_walk y1 y2 specs)) (h2 : Keeps CShape (s_declarator_walk declarator)) → Keeps CTy (s_type_name_walk (TypeName specs declarator lines))
type_name_walk_1 specs declarator lines h1 h2 = (kept_chain _ _ _ _ (h1 false no_specs_yet) (λ all. (kept_chain _ _ _ _ (kept_specs_seen Plain (specs_line specs) all) (λ _. (kept_chain _ _ _ _ h2 (λ shape. (kept_derives_seen (declarator_line (specs_line specs) declarator) (base_type all) shape)))))))

spec_walk_1 : (alone : Bool) (specs : CSpecs) (word : Keyword) (lines : List ℕ) → Keeps CSpecs (s_spec_walk alone specs (Key word lines))
spec_walk_1 alone specs word lines = (kept_given _ _)

spec_walk_2 : (alone : Bool) (specs : CSpecs) (name : List ℕ) (lines : List ℕ) → Keeps CSpecs (s_spec_walk alone specs (Typedef name lines))
spec_walk_2 alone specs name lines = (kept_typedef_seen specs name)

spec_walk_3 : (alone : Bool) (specs : CSpecs) (is_union : Bool) (name : Option (List ℕ)) (lines : List ℕ) → Keeps CSpecs (s_spec_walk alone specs (Record is_union name no_members lines))
spec_walk_3 alone specs is_union name lines = (kept_record_use_seen alone specs is_union name (own_line lines))

spec_walk_4 : (alone : Bool) (specs : CSpecs) (is_union : Bool) (name : Option (List ℕ)) (list : MemberDeclTrees) (lines : List ℕ) (h1 : (y1 : List CMember) → Keeps (List CMember) (s_member_decls_walk y1 list)) → Keeps CSpecs (s_spec_walk alone specs (Record is_union name (some_members list) lines))
spec_walk_4 alone specs is_union name list lines h1 = (kept_chain _ _ _ _ (kept_record_begins is_union name) (λ before. (kept_chain _ _ _ _ (h1 []) (λ members. (kept_record_ends before specs is_union name (own_line lines) members)))))

spec_walk_5 : (alone : Bool) (specs : CSpecs) (name : Option (List ℕ)) (last_comma : Bool) (lines : List ℕ) → Keeps CSpecs (s_spec_walk alone specs (Enum name no_enumerator_list last_comma lines))
spec_walk_5 alone specs name last_comma lines = (kept_enum_use_seen specs name (own_line lines))

spec_walk_6 : (alone : Bool) (specs : CSpecs) (name : Option (List ℕ)) (list : EnumeratorTrees) (last_comma : Bool) (lines : List ℕ) (h1 : (y1 : ℤ) (y2 : Bool) → Keeps Bool (s_enumerators_walk y1 y2 list)) → Keeps CSpecs (s_spec_walk alone specs (Enum name (some_enumerator_list list) last_comma lines))
spec_walk_6 alone specs name list last_comma lines h1 = (kept_chain _ _ _ _ (kept_enum_begins name) (λ before. (kept_chain _ _ _ _ (h1 (pos 0) false) (λ negative. (kept_enum_ends before specs name (own_line lines) negative)))))

specs_walk_1 : (alone : Bool) (specs : CSpecs) → Keeps CSpecs (s_specs_walk alone specs no_specs)
specs_walk_1 alone specs = (kept_given _ _)

specs_walk_2 : (alone : Bool) (specs : CSpecs) (first : SpecTree) (others : SpecTrees) (h1 : (y1 : Bool) (y2 : CSpecs) → Keeps CSpecs (s_spec_walk y1 y2 first)) (h2 : (y1 : Bool) (y2 : CSpecs) → Keeps CSpecs (s_specs_walk y1 y2 others)) → Keeps CSpecs (s_specs_walk alone specs (more_specs first others))
specs_walk_2 alone specs first others h1 h2 = (kept_chain _ _ _ _ (h1 alone specs) (λ more. (h2 alone more)))

member_decls_walk_1 : (before : List CMember) → Keeps (List CMember) (s_member_decls_walk before no_member_decls)
member_decls_walk_1 before = (kept_given _ _)

member_decls_walk_2 : (before : List CMember) (first : MemberDeclTree) (others : MemberDeclTrees) (h1 : (y1 : Bool) (y2 : List CMember) → Keeps (List CMember) (s_member_decl_walk y1 y2 first)) (h2 : (y1 : List CMember) → Keeps (List CMember) (s_member_decls_walk y1 others)) → Keeps (List CMember) (s_member_decls_walk before (more_member_decls first others))
member_decls_walk_2 before first others h1 h2 = (kept_chain _ _ _ _ (h1 (no_more_decls others) before) (λ more. (h2 more)))

member_decl_walk_1 : (is_last : Bool) (before : List CMember) (specs : SpecTrees) (list : MemberDeclaratorTrees) (lines : List ℕ) (h1 : (y1 : Bool) (y2 : CSpecs) → Keeps CSpecs (s_specs_walk y1 y2 specs)) (h2 : (y1 : Bool) (y2 : List CMember) (y3 : CTy) → Keeps (List CMember) (s_member_declarators_walk y1 y2 y3 list)) → Keeps (List CMember) (s_member_decl_walk is_last before (MemberDecl specs list lines))
member_decl_walk_1 is_last before specs list lines h1 h2 = (kept_chain _ _ _ _ (h1 false no_specs_yet) (λ all. (kept_chain _ _ _ _ (kept_specs_seen Plain (specs_line specs) all) (λ _. (h2 is_last before (base_type all))))))

member_declarators_walk_1 : (is_last : Bool) (before : List CMember) (type : CTy) → Keeps (List CMember) (s_member_declarators_walk is_last before type no_member_declarators)
member_declarators_walk_1 is_last before type = (kept_given _ _)

member_declarators_walk_2 : (is_last : Bool) (before : List CMember) (type : CTy) (first : MemberDeclaratorTree) (others : MemberDeclaratorTrees) (h1 : (y1 : Bool) (y2 : List CMember) (y3 : CTy) → Keeps CMember (s_member_declarator_walk y1 y2 y3 first)) (h2 : (y1 : Bool) (y2 : List CMember) (y3 : CTy) → Keeps (List CMember) (s_member_declarators_walk y1 y2 y3 others)) → Keeps (List CMember) (s_member_declarators_walk is_last before type (more_member_declarators first others))
member_declarators_walk_2 is_last before type first others h1 h2 = (kept_chain _ _ _ _ (h1 (is_last && no_more_declarators others) before type) (λ one. (h2 is_last (before ++ one ∷ []) type)))

member_declarator_walk_1 : (is_last : Bool) (before : List CMember) (type : CTy) (declarator : DeclaratorTree) (width : OptionExprTree) (lines : List ℕ) (h1 : Keeps CShape (s_declarator_walk declarator)) (h2 : Keeps (Option COperand) (s_option_walk width)) → Keeps CMember (s_member_declarator_walk is_last before type (MemberDeclarator declarator width lines))
member_declarator_walk_1 is_last before type declarator width lines h1 h2 = (kept_chain _ _ _ _ h1 (λ shape. (kept_chain _ _ _ _ (kept_derives_seen (declarator_line (own_line lines) declarator) type shape) (λ own. (kept_chain _ _ _ _ h2 (λ written. (kept_member_seen is_last before (declarator_line (own_line lines) declarator) shape.name own written)))))))

enumerators_walk_1 : (next : ℤ) (negative : Bool) → Keeps Bool (s_enumerators_walk next negative no_enumerators)
enumerators_walk_1 next negative = (kept_given _ _)

enumerators_walk_2 : (next : ℤ) (negative : Bool) (first : EnumeratorTree) (others : EnumeratorTrees) (h1 : (y1 : ℤ) → Keeps ℤ (s_enumerator_walk y1 first)) (h2 : (y1 : ℤ) (y2 : Bool) → Keeps Bool (s_enumerators_walk y1 y2 others)) → Keeps Bool (s_enumerators_walk next negative (more_enumerators first others))
enumerators_walk_2 next negative first others h1 h2 = (kept_chain _ _ _ _ (h1 next) (λ value. (h2 (value +ℤ pos 1) (or_negative negative value))))

enumerator_walk_1 : (next : ℤ) (name : List ℕ) (value : OptionExprTree) (lines : List ℕ) (h1 : Keeps (Option COperand) (s_option_walk value)) → Keeps ℤ (s_enumerator_walk next (Enumerator name value lines))
enumerator_walk_1 next name value lines h1 = (kept_chain _ _ _ _ h1 (λ written. (kept_enumerator_seen name (own_line lines) next written)))

declarator_walk_1 : Keeps CShape (s_declarator_walk Missing)
declarator_walk_1 = (kept_given _ _)

declarator_walk_2 : (name : List ℕ) (lines : List ℕ) → Keeps CShape (s_declarator_walk (Identifier name lines))
declarator_walk_2 name lines = (kept_given _ _)

declarator_walk_3 : (inner : DeclaratorTree) (lines : List ℕ) (h1 : Keeps CShape (s_declarator_walk inner)) → Keeps CShape (s_declarator_walk (Group inner lines))
declarator_walk_3 inner lines h1 = h1

declarator_walk_4 : (qualifiers : List Keyword) (of : DeclaratorTree) (lines : List ℕ) (h1 : Keeps CShape (s_declarator_walk of)) → Keeps CShape (s_declarator_walk (Pointer qualifiers of lines))
declarator_walk_4 qualifiers of lines h1 = (kept_chain _ _ _ _ h1 (λ shape. (kept_given _ _)))

declarator_walk_5 : (of : DeclaratorTree) (brackets : BracketsTree) (lines : List ℕ) (h1 : Keeps CShape (s_declarator_walk of)) (h2 : (y1 : ℕ) → Keeps CStep (s_brackets_walk y1 brackets)) → Keeps CShape (s_declarator_walk (Array of brackets lines))
declarator_walk_5 of brackets lines h1 h2 = (kept_chain _ _ _ _ h1 (λ shape. (kept_chain _ _ _ _ (h2 (declarator_line (own_line lines) of)) (λ step. (kept_given _ _)))))

-- what comes into scope there goes out of scope at its end
params_left : (shape : CShape) (list : ParamTrees) (variadic : Bool) (is_only : Bool) → ((y1 : Bool) → Keeps (List CParam) (s_params_walk y1 list)) → (scope : CScope)
    → down_to (length scope.declared) (s_params_walk is_only list (entered scope)).scope.declared ≡ scope.declared
params_left shape list variadic is_only h2 scope =
    let inner = (h2 is_only (entered scope)).kept in
    ap (λ declared. down_to (length scope.declared) declared) inner.declared_is ∙ behind_front inner.front scope.declared

-- a list of parameters begins and ends a scope of its own
params_kept : (shape : CShape) (params : ParamTrees) (variadic : Bool) (is_only : Bool) → ((y1 : Bool) → Keeps (List CParam) (s_params_walk y1 params))
    → Keeps CShape (seen_chain CScope CShape s_params_begin (λ before. seen_chain (List CParam) CShape (s_params_walk is_only params) (λ list. s_params_end before list variadic shape)))
unfolding seen_chain seen_here seen_becomes seen_gives
params_kept shape params variadic is_only h2 scope = record {
  kept = record {
    rest_is = ap {A = CRest} (λ rest. record rest { begins = scope.begins }) (h2 is_only (entered scope)).kept.rest_is;
    more = (h2 is_only (entered scope)).kept.more;
    defined = (h2 is_only (entered scope)).kept.defined;
    front = [];
    declared_is = params_left shape params variadic is_only h2 scope;
    visible = λ name type is. subst (λ declared. linked_type (ordinary name declared) ≡ Some type) (params_left shape params variadic is_only h2 scope) is;
    said = (h2 is_only (entered scope)).kept.said;
  };
}

declarator_walk_6 : (of : DeclaratorTree) (params : ParamTrees) (variadic : Bool) (lines : List ℕ) (h1 : Keeps CShape (s_declarator_walk of)) (h2 : (y1 : Bool) → Keeps (List CParam) (s_params_walk y1 params)) → Keeps CShape (s_declarator_walk (Function of params variadic lines))
declarator_walk_6 of params variadic lines h1 h2 = kept_chain _ _ _ _ h1 (λ shape. params_kept shape params variadic (is_single params variadic) h2)

declarator_walk_7 : (of : DeclaratorTree) (names : List (List ℕ)) (lines : List ℕ) (h1 : Keeps CShape (s_declarator_walk of)) → Keeps CShape (s_declarator_walk (Identifiers of names lines))
declarator_walk_7 of names lines h1 = (kept_chain _ _ _ _ h1 (λ shape. (kept_identifiers_seen (declarator_line (own_line lines) of) names shape)))

brackets_walk_1 : (line : ℕ) (qualifiers : List Keyword) → Keeps CStep (s_brackets_walk line (Unsized qualifiers))
brackets_walk_1 line qualifiers = (kept_array_seen line (is_none_of qualifiers) None)

brackets_walk_2 : (line : ℕ) (qualifiers : List Keyword) (size : ExprTree) (h1 : Keeps COperand (s_expr_walk size)) → Keeps CStep (s_brackets_walk line (Length qualifiers size))
brackets_walk_2 line qualifiers size h1 = (kept_chain _ _ _ _ h1 (λ written. (kept_array_seen line (is_none_of qualifiers) (Some written))))

brackets_walk_3 : (line : ℕ) (qualifiers : List Keyword) (size : ExprTree) (h1 : Keeps COperand (s_expr_walk size)) → Keeps CStep (s_brackets_walk line (StaticFirst qualifiers size))
brackets_walk_3 line qualifiers size h1 = (kept_chain _ _ _ _ h1 (λ written. (kept_array_seen line false (Some written))))

brackets_walk_4 : (line : ℕ) (qualifiers : List Keyword) (size : ExprTree) (h1 : Keeps COperand (s_expr_walk size)) → Keeps CStep (s_brackets_walk line (StaticLast qualifiers size))
brackets_walk_4 line qualifiers size h1 = (kept_chain _ _ _ _ h1 (λ written. (kept_array_seen line false (Some written))))

brackets_walk_5 : (line : ℕ) (qualifiers : List Keyword) → Keeps CStep (s_brackets_walk line (Star qualifiers))
brackets_walk_5 line qualifiers = (kept_array_seen line false None)

params_walk_1 : (is_only : Bool) → Keeps (List CParam) (s_params_walk is_only no_params)
params_walk_1 is_only = (kept_given _ _)

params_walk_2 : (is_only : Bool) (first : ParamTree) (others : ParamTrees) (h1 : (y1 : Bool) → Keeps (Option CParam) (s_param_walk y1 first)) (h2 : (y1 : Bool) → Keeps (List CParam) (s_params_walk y1 others)) → Keeps (List CParam) (s_params_walk is_only (more_params first others))
params_walk_2 is_only first others h1 h2 = (kept_chain _ _ _ _ (h1 is_only) (λ one. (kept_chain _ _ _ _ (h2 false) (λ more. (kept_given _ _)))))

param_walk_1 : (is_only : Bool) (specs : SpecTrees) (declarator : DeclaratorTree) (lines : List ℕ) (h1 : (y1 : Bool) (y2 : CSpecs) → Keeps CSpecs (s_specs_walk y1 y2 specs)) (h2 : Keeps CShape (s_declarator_walk declarator)) → Keeps (Option CParam) (s_param_walk is_only (Param specs declarator lines))
param_walk_1 is_only specs declarator lines h1 h2 = (kept_chain _ _ _ _ (h1 false no_specs_yet) (λ all. (kept_chain _ _ _ _ (kept_specs_seen Parameter (specs_line specs) all) (λ _. (kept_chain _ _ _ _ h2 (λ shape. (kept_chain _ _ _ _ (kept_derives_seen (declarator_line (specs_line specs) declarator) (base_type all) shape) (λ type. (kept_param_seen is_only (specs_line specs) all shape.name type)))))))))

initialiser_walk_1 : (target : CTarget) (value : ExprTree) (h1 : Keeps COperand (s_expr_walk value)) → Keeps (List CStored) (s_initialiser_walk target (Single value))
initialiser_walk_1 target value h1 = (kept_either _ (is_text value) _ _ (kept_chain _ _ _ _ (kept_whole_text (expr_line value) target (text_parts value)) (λ filling. (kept_given _ _))) (kept_chain _ _ _ _ h1 (λ one. (kept_chain _ _ _ _ (kept_whole_given (expr_line value) target one) (λ filling. (kept_given _ _))))))

initialiser_walk_2 : (target : CTarget) (list : InitialiserListTree) (h1 : (y1 : CTarget) (y2 : List CStored) → Keeps (List CStored) (s_list_walk y1 y2 list)) → Keeps (List CStored) (s_initialiser_walk target (Braced list))
initialiser_walk_2 target list h1 = (h1 target [])

list_walk_1 : (target : CTarget) (stored : List CStored) (entries : EntryTrees) (last_comma : Bool) (lines : List ℕ) (h1 : (y1 : CTarget) (y2 : CFilling) → Keeps (List CStored) (s_entries_walk y1 y2 entries)) → Keeps (List CStored) (s_list_walk target stored (InitialiserList entries last_comma lines))
list_walk_1 target stored entries last_comma lines h1 = (kept_chain _ _ _ _ (kept_list_begins target entries stored) (λ filling. (h1 target filling)))

entries_walk_1 : (target : CTarget) (filling : CFilling) → Keeps (List CStored) (s_entries_walk target filling no_entries)
entries_walk_1 target filling = (kept_given _ _)

entries_walk_2 : (target : CTarget) (filling : CFilling) (first : EntryTree) (others : EntryTrees) (h1 : (y1 : CTarget) (y2 : CFilling) → Keeps CFilling (s_entry_walk y1 y2 first)) (h2 : (y1 : CTarget) (y2 : CFilling) → Keeps (List CStored) (s_entries_walk y1 y2 others)) → Keeps (List CStored) (s_entries_walk target filling (more_entries first others))
entries_walk_2 target filling first others h1 h2 = (kept_chain _ _ _ _ (h1 target filling) (λ more. (h2 target more)))

entry_walk_1 : (target : CTarget) (filling : CFilling) (init : InitialiserTree) (lines : List ℕ) (h1 : (y1 : CTarget) (y2 : Option CAt) (y3 : CFilling) → Keeps CFilling (s_given_walk y1 y2 y3 init)) → Keeps CFilling (s_entry_walk target filling (Entry no_designators init lines))
entry_walk_1 target filling init lines h1 = (h1 target filling.next filling)

entry_walk_2 : (target : CTarget) (filling : CFilling) (first : DesignatorTree) (others : DesignatorTrees) (init : InitialiserTree) (lines : List ℕ) (h1 : (y1 : Option CAt) → Keeps (Option CAt) (s_designator_walk y1 first)) (h2 : (y1 : Option CAt) → Keeps (Option CAt) (s_designators_walk y1 others)) (h3 : (y1 : CTarget) (y2 : Option CAt) (y3 : CFilling) → Keeps CFilling (s_given_walk y1 y2 y3 init)) → Keeps CFilling (s_entry_walk target filling (Entry (more_designators first others) init lines))
entry_walk_2 target filling first others init lines h1 h2 h3 = (kept_chain _ _ _ _ (h1 (designated_from target)) (λ at. (kept_chain _ _ _ _ (h2 at) (λ last. (h3 target last filling)))))

designators_walk_1 : (at : Option CAt) → Keeps (Option CAt) (s_designators_walk at no_designators)
designators_walk_1 at = (kept_given _ _)

designators_walk_2 : (at : Option CAt) (first : DesignatorTree) (others : DesignatorTrees) (h1 : (y1 : Option CAt) → Keeps (Option CAt) (s_designator_walk y1 first)) (h2 : (y1 : Option CAt) → Keeps (Option CAt) (s_designators_walk y1 others)) → Keeps (Option CAt) (s_designators_walk at (more_designators first others))
designators_walk_2 at first others h1 h2 = (kept_chain _ _ _ _ (h1 at) (λ next. (h2 next)))

designator_walk_1 : (at : Option CAt) (index : ExprTree) (lines : List ℕ) (h1 : Keeps COperand (s_expr_walk index)) → Keeps (Option CAt) (s_designator_walk at (Element index lines))
designator_walk_1 at index lines h1 = (kept_chain _ _ _ _ h1 (λ one. (kept_element_seen (own_line lines) at one)))

designator_walk_2 : (at : Option CAt) (name : List ℕ) (lines : List ℕ) → Keeps (Option CAt) (s_designator_walk at (Member name lines))
designator_walk_2 at name lines = (kept_member_designated (own_line lines) at name)

given_walk_1 : (target : CTarget) (at : Option CAt) (filling : CFilling) (value : ExprTree) (h1 : Keeps COperand (s_expr_walk value)) → Keeps CFilling (s_given_walk target at filling (Single value))
given_walk_1 target at filling value h1 = (kept_either _ (is_text value) _ _ (kept_text_given (expr_line value) target at filling (text_parts value)) (kept_chain _ _ _ _ h1 (λ one. (kept_value_given (expr_line value) target at filling one))))

given_walk_2 : (target : CTarget) (at : Option CAt) (filling : CFilling) (list : InitialiserListTree) (h1 : (y1 : CTarget) (y2 : List CStored) → Keeps (List CStored) (s_list_walk y1 y2 list)) → Keeps CFilling (s_given_walk target at filling (Braced list))
given_walk_2 target at filling list h1 = (kept_chain _ _ _ _ (h1 (target_at target at) filling.stored) (λ stored. (kept_list_given target at filling stored)))

mutual
  pub kept_expr_walk : (x1 : ExprTree) → Keeps COperand (s_expr_walk x1)
  kept_expr_walk (Name name lines) = expr_walk_1 name lines
  kept_expr_walk (Number value type lines) = expr_walk_2 value type lines
  kept_expr_walk (Letter value lines) = expr_walk_3 value lines
  kept_expr_walk (Text parts lines) = expr_walk_4 parts lines
  kept_expr_walk (Paren inner lines) = expr_walk_5 inner lines (kept_expr_walk inner)
  kept_expr_walk (Index of index lines) = expr_walk_6 of index lines (kept_expr_walk of) (kept_expr_walk index)
  kept_expr_walk (Call of args lines) = expr_walk_7 of args lines (kept_expr_walk of) (kept_exprs_walk args)
  kept_expr_walk (Dot of name lines) = expr_walk_8 of name lines (kept_expr_walk of)
  kept_expr_walk (Arrow of name lines) = expr_walk_9 of name lines (kept_expr_walk of)
  kept_expr_walk (PostUp of lines) = expr_walk_10 of lines (kept_expr_walk of)
  kept_expr_walk (PostDown of lines) = expr_walk_11 of lines (kept_expr_walk of)
  kept_expr_walk (Literal of list lines) = expr_walk_12 of list lines (kept_type_name_walk of) (λ y1 y2. kept_list_walk y1 y2 list)
  kept_expr_walk (PreUp on lines) = expr_walk_13 on lines (kept_expr_walk on)
  kept_expr_walk (PreDown on lines) = expr_walk_14 on lines (kept_expr_walk on)
  kept_expr_walk (Unary op on lines) = expr_walk_15 op on lines (kept_expr_walk on)
  kept_expr_walk (SizeofExpr on lines) = expr_walk_16 on lines (kept_expr_walk on)
  kept_expr_walk (SizeofType of lines) = expr_walk_17 of lines (kept_type_name_walk of)
  kept_expr_walk (Cast to on lines) = expr_walk_18 to on lines (kept_type_name_walk to) (kept_expr_walk on)
  kept_expr_walk (Binary left op right lines) = expr_walk_19 left op right lines (kept_expr_walk left) (kept_expr_walk right)
  kept_expr_walk (Cond condition if_true if_false lines) = expr_walk_20 condition if_true if_false lines (kept_expr_walk condition) (kept_expr_walk if_true) (kept_expr_walk if_false)
  kept_expr_walk (Assign left op right lines) = expr_walk_21 left op right lines (kept_expr_walk left) (kept_expr_walk right)
  kept_expr_walk (Comma left right lines) = expr_walk_22 left right lines (kept_expr_walk left) (kept_expr_walk right)

  pub kept_exprs_walk : (x1 : ExprTrees) → Keeps (List COperand) (s_exprs_walk x1)
  kept_exprs_walk no_exprs = exprs_walk_1
  kept_exprs_walk (more_exprs first others) = exprs_walk_2 first others (kept_expr_walk first) (kept_exprs_walk others)

  pub kept_option_walk : (x1 : OptionExprTree) → Keeps (Option COperand) (s_option_walk x1)
  kept_option_walk no_expr = option_walk_1
  kept_option_walk (some_expr one) = option_walk_2 one (kept_expr_walk one)

  pub kept_type_name_walk : (x1 : TypeNameTree) → Keeps CTy (s_type_name_walk x1)
  kept_type_name_walk (TypeName specs declarator lines) = type_name_walk_1 specs declarator lines (λ y1 y2. kept_specs_walk y1 y2 specs) (kept_declarator_walk declarator)

  pub kept_spec_walk : (x1 : Bool) (x2 : CSpecs) (x3 : SpecTree) → Keeps CSpecs (s_spec_walk x1 x2 x3)
  kept_spec_walk alone specs (Key word lines) = spec_walk_1 alone specs word lines
  kept_spec_walk alone specs (Typedef name lines) = spec_walk_2 alone specs name lines
  kept_spec_walk alone specs (Record is_union name no_members lines) = spec_walk_3 alone specs is_union name lines
  kept_spec_walk alone specs (Record is_union name (some_members list) lines) = spec_walk_4 alone specs is_union name list lines (λ y1. kept_member_decls_walk y1 list)
  kept_spec_walk alone specs (Enum name no_enumerator_list last_comma lines) = spec_walk_5 alone specs name last_comma lines
  kept_spec_walk alone specs (Enum name (some_enumerator_list list) last_comma lines) = spec_walk_6 alone specs name list last_comma lines (λ y1 y2. kept_enumerators_walk y1 y2 list)

  pub kept_specs_walk : (x1 : Bool) (x2 : CSpecs) (x3 : SpecTrees) → Keeps CSpecs (s_specs_walk x1 x2 x3)
  kept_specs_walk alone specs no_specs = specs_walk_1 alone specs
  kept_specs_walk alone specs (more_specs first others) = specs_walk_2 alone specs first others (λ y1 y2. kept_spec_walk y1 y2 first) (λ y1 y2. kept_specs_walk y1 y2 others)

  pub kept_member_decls_walk : (x1 : List CMember) (x2 : MemberDeclTrees) → Keeps (List CMember) (s_member_decls_walk x1 x2)
  kept_member_decls_walk before no_member_decls = member_decls_walk_1 before
  kept_member_decls_walk before (more_member_decls first others) = member_decls_walk_2 before first others (λ y1 y2. kept_member_decl_walk y1 y2 first) (λ y1. kept_member_decls_walk y1 others)

  pub kept_member_decl_walk : (x1 : Bool) (x2 : List CMember) (x3 : MemberDeclTree) → Keeps (List CMember) (s_member_decl_walk x1 x2 x3)
  kept_member_decl_walk is_last before (MemberDecl specs list lines) = member_decl_walk_1 is_last before specs list lines (λ y1 y2. kept_specs_walk y1 y2 specs) (λ y1 y2 y3. kept_member_declarators_walk y1 y2 y3 list)

  pub kept_member_declarators_walk : (x1 : Bool) (x2 : List CMember) (x3 : CTy) (x4 : MemberDeclaratorTrees) → Keeps (List CMember) (s_member_declarators_walk x1 x2 x3 x4)
  kept_member_declarators_walk is_last before type no_member_declarators = member_declarators_walk_1 is_last before type
  kept_member_declarators_walk is_last before type (more_member_declarators first others) = member_declarators_walk_2 is_last before type first others (λ y1 y2 y3. kept_member_declarator_walk y1 y2 y3 first) (λ y1 y2 y3. kept_member_declarators_walk y1 y2 y3 others)

  pub kept_member_declarator_walk : (x1 : Bool) (x2 : List CMember) (x3 : CTy) (x4 : MemberDeclaratorTree) → Keeps CMember (s_member_declarator_walk x1 x2 x3 x4)
  kept_member_declarator_walk is_last before type (MemberDeclarator declarator width lines) = member_declarator_walk_1 is_last before type declarator width lines (kept_declarator_walk declarator) (kept_option_walk width)

  pub kept_enumerators_walk : (x1 : ℤ) (x2 : Bool) (x3 : EnumeratorTrees) → Keeps Bool (s_enumerators_walk x1 x2 x3)
  kept_enumerators_walk next negative no_enumerators = enumerators_walk_1 next negative
  kept_enumerators_walk next negative (more_enumerators first others) = enumerators_walk_2 next negative first others (λ y1. kept_enumerator_walk y1 first) (λ y1 y2. kept_enumerators_walk y1 y2 others)

  pub kept_enumerator_walk : (x1 : ℤ) (x2 : EnumeratorTree) → Keeps ℤ (s_enumerator_walk x1 x2)
  kept_enumerator_walk next (Enumerator name value lines) = enumerator_walk_1 next name value lines (kept_option_walk value)

  pub kept_declarator_walk : (x1 : DeclaratorTree) → Keeps CShape (s_declarator_walk x1)
  kept_declarator_walk Missing = declarator_walk_1
  kept_declarator_walk (Identifier name lines) = declarator_walk_2 name lines
  kept_declarator_walk (Group inner lines) = declarator_walk_3 inner lines (kept_declarator_walk inner)
  kept_declarator_walk (Pointer qualifiers of lines) = declarator_walk_4 qualifiers of lines (kept_declarator_walk of)
  kept_declarator_walk (Array of brackets lines) = declarator_walk_5 of brackets lines (kept_declarator_walk of) (λ y1. kept_brackets_walk y1 brackets)
  kept_declarator_walk (Function of params variadic lines) = declarator_walk_6 of params variadic lines (kept_declarator_walk of) (λ y1. kept_params_walk y1 params)
  kept_declarator_walk (Identifiers of names lines) = declarator_walk_7 of names lines (kept_declarator_walk of)

  pub kept_brackets_walk : (x1 : ℕ) (x2 : BracketsTree) → Keeps CStep (s_brackets_walk x1 x2)
  kept_brackets_walk line (Unsized qualifiers) = brackets_walk_1 line qualifiers
  kept_brackets_walk line (Length qualifiers size) = brackets_walk_2 line qualifiers size (kept_expr_walk size)
  kept_brackets_walk line (StaticFirst qualifiers size) = brackets_walk_3 line qualifiers size (kept_expr_walk size)
  kept_brackets_walk line (StaticLast qualifiers size) = brackets_walk_4 line qualifiers size (kept_expr_walk size)
  kept_brackets_walk line (Star qualifiers) = brackets_walk_5 line qualifiers

  pub kept_params_walk : (x1 : Bool) (x2 : ParamTrees) → Keeps (List CParam) (s_params_walk x1 x2)
  kept_params_walk is_only no_params = params_walk_1 is_only
  kept_params_walk is_only (more_params first others) = params_walk_2 is_only first others (λ y1. kept_param_walk y1 first) (λ y1. kept_params_walk y1 others)

  pub kept_param_walk : (x1 : Bool) (x2 : ParamTree) → Keeps (Option CParam) (s_param_walk x1 x2)
  kept_param_walk is_only (Param specs declarator lines) = param_walk_1 is_only specs declarator lines (λ y1 y2. kept_specs_walk y1 y2 specs) (kept_declarator_walk declarator)

  pub kept_initialiser_walk : (x1 : CTarget) (x2 : InitialiserTree) → Keeps (List CStored) (s_initialiser_walk x1 x2)
  kept_initialiser_walk target (Single value) = initialiser_walk_1 target value (kept_expr_walk value)
  kept_initialiser_walk target (Braced list) = initialiser_walk_2 target list (λ y1 y2. kept_list_walk y1 y2 list)

  pub kept_list_walk : (x1 : CTarget) (x2 : List CStored) (x3 : InitialiserListTree) → Keeps (List CStored) (s_list_walk x1 x2 x3)
  kept_list_walk target stored (InitialiserList entries last_comma lines) = list_walk_1 target stored entries last_comma lines (λ y1 y2. kept_entries_walk y1 y2 entries)

  pub kept_entries_walk : (x1 : CTarget) (x2 : CFilling) (x3 : EntryTrees) → Keeps (List CStored) (s_entries_walk x1 x2 x3)
  kept_entries_walk target filling no_entries = entries_walk_1 target filling
  kept_entries_walk target filling (more_entries first others) = entries_walk_2 target filling first others (λ y1 y2. kept_entry_walk y1 y2 first) (λ y1 y2. kept_entries_walk y1 y2 others)

  pub kept_entry_walk : (x1 : CTarget) (x2 : CFilling) (x3 : EntryTree) → Keeps CFilling (s_entry_walk x1 x2 x3)
  kept_entry_walk target filling (Entry no_designators init lines) = entry_walk_1 target filling init lines (λ y1 y2 y3. kept_given_walk y1 y2 y3 init)
  kept_entry_walk target filling (Entry (more_designators first others) init lines) = entry_walk_2 target filling first others init lines (λ y1. kept_designator_walk y1 first) (λ y1. kept_designators_walk y1 others) (λ y1 y2 y3. kept_given_walk y1 y2 y3 init)

  pub kept_designators_walk : (x1 : Option CAt) (x2 : DesignatorTrees) → Keeps (Option CAt) (s_designators_walk x1 x2)
  kept_designators_walk at no_designators = designators_walk_1 at
  kept_designators_walk at (more_designators first others) = designators_walk_2 at first others (λ y1. kept_designator_walk y1 first) (λ y1. kept_designators_walk y1 others)

  pub kept_designator_walk : (x1 : Option CAt) (x2 : DesignatorTree) → Keeps (Option CAt) (s_designator_walk x1 x2)
  kept_designator_walk at (Element index lines) = designator_walk_1 at index lines (kept_expr_walk index)
  kept_designator_walk at (Member name lines) = designator_walk_2 at name lines

  pub kept_given_walk : (x1 : CTarget) (x2 : Option CAt) (x3 : CFilling) (x4 : InitialiserTree) → Keeps CFilling (s_given_walk x1 x2 x3 x4)
  kept_given_walk target at filling (Single value) = given_walk_1 target at filling value (kept_expr_walk value)
  kept_given_walk target at filling (Braced list) = given_walk_2 target at filling list (λ y1 y2. kept_list_walk y1 y2 list)
