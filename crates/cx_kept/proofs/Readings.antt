-- Each piece of the walk in the reading that stops at the first broken node.
use Rattle.std.specs.Prelude.{Bool, List, Option, ℕ, ℤ}
use Rattle.cx_core.specs.declared.expr.Op2.{Op2}
use Rattle.cx_core.specs.Trees.{CMember, CTy}
use Rattle.cx_lex.specs.declared.token.Ty0.{Ty0}
use Rattle.cx_tree.specs.Trees.{BracketsTree, DeclaratorTree, DesignatorTree, DesignatorTrees, EntryTree, EntryTrees, EnumeratorTree, EnumeratorTrees, ExprTree, ExprTrees, InitialiserListTree, InitialiserTree, MemberDeclTree, MemberDeclTrees, MemberDeclaratorTree, MemberDeclaratorTrees, OptionExprTree, ParamTree, ParamTrees, SpecTree, SpecTrees, TypeNameTree}
use Rattle.cx_rules.specs.declared.kinds.SpecsPlace.{SpecsPlace}
use Rattle.cx_rules.specs.Initial.{CAt, CStored}
use Rattle.cx_rules.specs.Operands.{COperand}
use Rattle.cx_rules.specs.Scope.{CScope, CTag}
use Rattle.cx_rules.specs.Shapes.{CParam, CShape, CSpecs, CStep}
use Rattle.cx_rules.specs.Readings.{Check, check_becomes, check_chain, check_gives, check_here, check_look}
use Rattle.cx_rules.specs.Walk as walk
use Rattle.cx_rules.specs.Pieces.{CBinary, CFilled, CFilling, CTarget, CUnary}

abbrev pub c_name_seen : List ℕ → ℕ → Check COperand
c_name_seen = walk.name_seen Check check_gives check_chain check_here check_becomes check_look

abbrev pub c_number_seen : ℕ → Ty0 → ℕ → Check COperand
c_number_seen = walk.number_seen Check check_gives check_chain check_here check_becomes check_look

abbrev pub c_letter_seen : ℤ → ℕ → Check COperand
c_letter_seen = walk.letter_seen Check check_gives check_chain check_here check_becomes check_look

abbrev pub c_text_seen : List (List ℕ) → ℕ → Check COperand
c_text_seen = walk.text_seen Check check_gives check_chain check_here check_becomes check_look

abbrev pub c_index_seen : ℕ → COperand → COperand → Check COperand
c_index_seen = walk.index_seen Check check_gives check_chain check_here check_becomes check_look

abbrev pub c_call_seen : ℕ → Bool → (mentioned : ℕ) → COperand → List COperand → Check COperand
c_call_seen = walk.call_seen Check check_gives check_chain check_here check_becomes check_look

abbrev pub c_dot_seen : ℕ → COperand → List ℕ → Check COperand
c_dot_seen = walk.dot_seen Check check_gives check_chain check_here check_becomes check_look

abbrev pub c_arrow_seen : ℕ → COperand → List ℕ → Check COperand
c_arrow_seen = walk.arrow_seen Check check_gives check_chain check_here check_becomes check_look

abbrev pub c_step_seen : ℕ → (up post : Bool) → COperand → Check COperand
c_step_seen = walk.step_seen Check check_gives check_chain check_here check_becomes check_look

abbrev pub c_unary_seen : ℕ → CUnary → COperand → Check COperand
c_unary_seen = walk.unary_seen Check check_gives check_chain check_here check_becomes check_look

abbrev pub c_sizeof_seen : ℕ → CScope → COperand → Check COperand
c_sizeof_seen = walk.sizeof_seen Check check_gives check_chain check_here check_becomes check_look

abbrev pub c_sizeof_type_seen : ℕ → CTy → Check COperand
c_sizeof_type_seen = walk.sizeof_type_seen Check check_gives check_chain check_here check_becomes check_look

abbrev pub c_cast_seen : ℕ → CTy → COperand → Check COperand
c_cast_seen = walk.cast_seen Check check_gives check_chain check_here check_becomes check_look

abbrev pub c_binary_seen : ℕ → CBinary → COperand → COperand → Check COperand
c_binary_seen = walk.binary_seen Check check_gives check_chain check_here check_becomes check_look

abbrev pub c_cond_seen : ℕ → COperand → COperand → COperand → Check COperand
c_cond_seen = walk.cond_seen Check check_gives check_chain check_here check_becomes check_look

abbrev pub c_assign_seen : ℕ → Option Op2 → COperand → COperand → Check COperand
c_assign_seen = walk.assign_seen Check check_gives check_chain check_here check_becomes check_look

abbrev pub c_comma_seen : ℕ → COperand → COperand → Check COperand
c_comma_seen = walk.comma_seen Check check_gives check_chain check_here check_becomes check_look

abbrev pub c_literal_begins : CTy → Check CScope
c_literal_begins = walk.literal_begins Check check_gives check_chain check_here check_becomes check_look

abbrev pub c_literal_ends_as : CScope → ℕ → CScope → CFilled → Check COperand
c_literal_ends_as = walk.literal_ends_as Check check_gives check_chain check_here check_becomes check_look

abbrev pub c_literal_ends : CScope → ℕ → CTy → List CStored → Check COperand
c_literal_ends = walk.literal_ends Check check_gives check_chain check_here check_becomes check_look

abbrev pub c_specs_seen : SpecsPlace → ℕ → CSpecs → Check CSpecs
c_specs_seen = walk.specs_seen Check check_gives check_chain check_here check_becomes check_look

abbrev pub c_typedef_seen : CSpecs → List ℕ → Check CSpecs
c_typedef_seen = walk.typedef_seen Check check_gives check_chain check_here check_becomes check_look

abbrev pub c_record_used : CSpecs → Bool → Option (List ℕ) → ℕ → CScope → Option CTag → Check CSpecs
c_record_used = walk.record_used Check check_gives check_chain check_here check_becomes check_look

abbrev pub c_record_use_seen : Bool → CSpecs → Bool → Option (List ℕ) → ℕ → Check CSpecs
c_record_use_seen = walk.record_use_seen Check check_gives check_chain check_here check_becomes check_look

abbrev pub c_record_begins : Bool → Option (List ℕ) → Check CScope
c_record_begins = walk.record_begins Check check_gives check_chain check_here check_becomes check_look

abbrev pub c_record_ended : CSpecs → Bool → Option (List ℕ) → ℕ → List CMember → CScope → Option CTag → ℕ → Check CSpecs
c_record_ended = walk.record_ended Check check_gives check_chain check_here check_becomes check_look

abbrev pub c_record_ends : CScope → CSpecs → Bool → Option (List ℕ) → ℕ → List CMember → Check CSpecs
c_record_ends = walk.record_ends Check check_gives check_chain check_here check_becomes check_look

abbrev pub c_enum_used : CSpecs → ℕ → CScope → Option CTag → Check CSpecs
c_enum_used = walk.enum_used Check check_gives check_chain check_here check_becomes check_look

abbrev pub c_enum_use_seen : CSpecs → Option (List ℕ) → ℕ → Check CSpecs
c_enum_use_seen = walk.enum_use_seen Check check_gives check_chain check_here check_becomes check_look

abbrev pub c_enum_begins : Option (List ℕ) → Check CScope
c_enum_begins = walk.enum_begins Check check_gives check_chain check_here check_becomes check_look

abbrev pub c_enum_ends : CScope → CSpecs → Option (List ℕ) → ℕ → Bool → Check CSpecs
c_enum_ends = walk.enum_ends Check check_gives check_chain check_here check_becomes check_look

abbrev pub c_enumerator_as : CScope → List ℕ → ℕ → Option COperand → ℤ → Check ℤ
c_enumerator_as = walk.enumerator_as Check check_gives check_chain check_here check_becomes check_look

abbrev pub c_enumerator_seen : List ℕ → ℕ → ℤ → Option COperand → Check ℤ
c_enumerator_seen = walk.enumerator_seen Check check_gives check_chain check_here check_becomes check_look

abbrev pub c_derives_seen : ℕ → CTy → CShape → Check CTy
c_derives_seen = walk.derives_seen Check check_gives check_chain check_here check_becomes check_look

abbrev pub c_member_seen : Bool → List CMember → ℕ → Option (List ℕ) → CTy → Option COperand → Check CMember
c_member_seen = walk.member_seen Check check_gives check_chain check_here check_becomes check_look

abbrev pub c_array_seen : ℕ → Bool → Option COperand → Check CStep
c_array_seen = walk.array_seen Check check_gives check_chain check_here check_becomes check_look

abbrev pub c_identifiers_seen : ℕ → List (List ℕ) → CShape → Check CShape
c_identifiers_seen = walk.identifiers_seen Check check_gives check_chain check_here check_becomes check_look

abbrev pub c_params_begin : Check CScope
c_params_begin = walk.params_begin Check check_gives check_chain check_here check_becomes check_look

abbrev pub c_params_end : CScope → List CParam → Bool → CShape → Check CShape
c_params_end = walk.params_end Check check_gives check_chain check_here check_becomes check_look

abbrev pub c_param_seen : Bool → ℕ → CSpecs → Option (List ℕ) → CTy → Check (Option CParam)
c_param_seen = walk.param_seen Check check_gives check_chain check_here check_becomes check_look

abbrev pub c_value_given_at : ℕ → CTarget → CFilling → COperand → CScope → Option CAt → Check CFilling
c_value_given_at = walk.value_given_at Check check_gives check_chain check_here check_becomes check_look

abbrev pub c_value_given : ℕ → CTarget → Option CAt → CFilling → COperand → Check CFilling
c_value_given = walk.value_given Check check_gives check_chain check_here check_becomes check_look

abbrev pub c_text_given_at : ℕ → CTarget → CFilling → List ℕ → CScope → Option CAt → Check CFilling
c_text_given_at = walk.text_given_at Check check_gives check_chain check_here check_becomes check_look

abbrev pub c_text_given : ℕ → CTarget → Option CAt → CFilling → List (List ℕ) → Check CFilling
c_text_given = walk.text_given Check check_gives check_chain check_here check_becomes check_look

abbrev pub c_whole_value : ℕ → CTarget → COperand → CScope → Check CFilling
c_whole_value = walk.whole_value Check check_gives check_chain check_here check_becomes check_look

abbrev pub c_whole_given : ℕ → CTarget → COperand → Check CFilling
c_whole_given = walk.whole_given Check check_gives check_chain check_here check_becomes check_look

abbrev pub c_whole_text_at : ℕ → CTarget → List ℕ → CScope → Option CAt → Check CFilling
c_whole_text_at = walk.whole_text_at Check check_gives check_chain check_here check_becomes check_look

abbrev pub c_whole_text : ℕ → CTarget → List (List ℕ) → Check CFilling
c_whole_text = walk.whole_text Check check_gives check_chain check_here check_becomes check_look

abbrev pub c_list_begins : CTarget → EntryTrees → List CStored → Check CFilling
c_list_begins = walk.list_begins Check check_gives check_chain check_here check_becomes check_look

abbrev pub c_list_given : CTarget → Option CAt → CFilling → List CStored → Check CFilling
c_list_given = walk.list_given Check check_gives check_chain check_here check_becomes check_look

abbrev pub c_element_as : ℕ → COperand → CScope → Option CAt → Check (Option CAt)
c_element_as = walk.element_as Check check_gives check_chain check_here check_becomes check_look

abbrev pub c_element_seen : ℕ → Option CAt → COperand → Check (Option CAt)
c_element_seen = walk.element_seen Check check_gives check_chain check_here check_becomes check_look

abbrev pub c_member_as : ℕ → CScope → Option CAt → Check (Option CAt)
c_member_as = walk.member_as Check check_gives check_chain check_here check_becomes check_look

abbrev pub c_member_designated : ℕ → Option CAt → List ℕ → Check (Option CAt)
c_member_designated = walk.member_designated Check check_gives check_chain check_here check_becomes check_look

abbrev pub c_expr_walk : ExprTree → Check COperand
c_expr_walk = walk.expr_walk Check check_gives check_chain check_here check_becomes check_look

abbrev pub c_exprs_walk : ExprTrees → Check (List COperand)
c_exprs_walk = walk.exprs_walk Check check_gives check_chain check_here check_becomes check_look

abbrev pub c_option_walk : OptionExprTree → Check (Option COperand)
c_option_walk = walk.option_walk Check check_gives check_chain check_here check_becomes check_look

abbrev pub c_type_name_walk : TypeNameTree → Check CTy
c_type_name_walk = walk.type_name_walk Check check_gives check_chain check_here check_becomes check_look

abbrev pub c_spec_walk : Bool → CSpecs → SpecTree → Check CSpecs
c_spec_walk = walk.spec_walk Check check_gives check_chain check_here check_becomes check_look

abbrev pub c_specs_walk : Bool → CSpecs → SpecTrees → Check CSpecs
c_specs_walk = walk.specs_walk Check check_gives check_chain check_here check_becomes check_look

abbrev pub c_member_decls_walk : List CMember → MemberDeclTrees → Check (List CMember)
c_member_decls_walk = walk.member_decls_walk Check check_gives check_chain check_here check_becomes check_look

abbrev pub c_member_decl_walk : Bool → List CMember → MemberDeclTree → Check (List CMember)
c_member_decl_walk = walk.member_decl_walk Check check_gives check_chain check_here check_becomes check_look

abbrev pub c_member_declarators_walk : Bool → List CMember → CTy → MemberDeclaratorTrees → Check (List CMember)
c_member_declarators_walk = walk.member_declarators_walk Check check_gives check_chain check_here check_becomes check_look

abbrev pub c_member_declarator_walk : Bool → List CMember → CTy → MemberDeclaratorTree → Check CMember
c_member_declarator_walk = walk.member_declarator_walk Check check_gives check_chain check_here check_becomes check_look

abbrev pub c_enumerators_walk : ℤ → Bool → EnumeratorTrees → Check Bool
c_enumerators_walk = walk.enumerators_walk Check check_gives check_chain check_here check_becomes check_look

abbrev pub c_enumerator_walk : ℤ → EnumeratorTree → Check ℤ
c_enumerator_walk = walk.enumerator_walk Check check_gives check_chain check_here check_becomes check_look

abbrev pub c_declarator_walk : DeclaratorTree → Check CShape
c_declarator_walk = walk.declarator_walk Check check_gives check_chain check_here check_becomes check_look

abbrev pub c_brackets_walk : ℕ → BracketsTree → Check CStep
c_brackets_walk = walk.brackets_walk Check check_gives check_chain check_here check_becomes check_look

abbrev pub c_params_walk : Bool → ParamTrees → Check (List CParam)
c_params_walk = walk.params_walk Check check_gives check_chain check_here check_becomes check_look

abbrev pub c_param_walk : Bool → ParamTree → Check (Option CParam)
c_param_walk = walk.param_walk Check check_gives check_chain check_here check_becomes check_look

abbrev pub c_initialiser_walk : CTarget → InitialiserTree → Check (List CStored)
c_initialiser_walk = walk.initialiser_walk Check check_gives check_chain check_here check_becomes check_look

abbrev pub c_list_walk : CTarget → List CStored → InitialiserListTree → Check (List CStored)
c_list_walk = walk.list_walk Check check_gives check_chain check_here check_becomes check_look

abbrev pub c_entries_walk : CTarget → CFilling → EntryTrees → Check (List CStored)
c_entries_walk = walk.entries_walk Check check_gives check_chain check_here check_becomes check_look

abbrev pub c_entry_walk : CTarget → CFilling → EntryTree → Check CFilling
c_entry_walk = walk.entry_walk Check check_gives check_chain check_here check_becomes check_look

abbrev pub c_designators_walk : Option CAt → DesignatorTrees → Check (Option CAt)
c_designators_walk = walk.designators_walk Check check_gives check_chain check_here check_becomes check_look

abbrev pub c_designator_walk : Option CAt → DesignatorTree → Check (Option CAt)
c_designator_walk = walk.designator_walk Check check_gives check_chain check_here check_becomes check_look

abbrev pub c_given_walk : CTarget → Option CAt → CFilling → InitialiserTree → Check CFilling
c_given_walk = walk.given_walk Check check_gives check_chain check_here check_becomes check_look
