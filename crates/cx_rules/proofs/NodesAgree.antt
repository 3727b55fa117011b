-- The walk that stops at the first broken node gives what the walk over all nodes says: one line a form.
use Rattle.std.specs.Prelude.{ℕ, ℤ, Bool, true, false, List, length, Option, None, Some}
use Rattle.cx_core.specs.declared.expr.Op2.{Op2}
use Rattle.cx_core.specs.Trees.{CTy, CMember}
use Rattle.cx_lex.specs.declared.token.Ty0.{Ty0}
use Rattle.cx_tree.specs.Trees.{ExprTree, ExprTrees, OptionExprTree, TypeNameTree, SpecTree, SpecTrees, MemberDeclTree, MemberDeclTrees, MemberDeclaratorTree, MemberDeclaratorTrees, EnumeratorTree, EnumeratorTrees, DeclaratorTree, BracketsTree, ParamTree, ParamTrees, InitialiserTree, InitialiserListTree, EntryTree, EntryTrees, DesignatorTree, DesignatorTrees}
use Rattle.cx_rules.specs.declared.kinds.SpecsPlace.{SpecsPlace}
use Rattle.cx_rules.specs.Initial.{CAt, element_at, member_at, CStored, joined_bytes}
use Rattle.cx_rules.specs.Operands.{COperand, value_of, constant_of}
use Rattle.cx_rules.specs.Scope.{CTag, CScope, left}
use Rattle.cx_rules.specs.Shapes.{CSpecs, CParam, CStep, CShape}
use Rattle.cx_rules.specs.Readings.{Seen, seen_gives, seen_chain, seen_here, seen_becomes, seen_look, Check, check_gives, check_chain, check_here, check_becomes, check_look}
use Rattle.cx_rules.specs.Walk as walk
use Rattle.cx_rules.specs.Pieces.{CUnary, takes_address, follows, computes, CBinary, tests_both, tests_either, operates, CTarget, CFilling, CFilled, seen_tag, tag_number, continued, enumerator_value, filled, landed, fills, text_landed, whole_at, fills_whole, filled_object}
use Rattle.cx_rules.proofs.Verdicts.{Agree, on_gives, on_chain, on_here, on_becomes, on_settled, on_changed, on_either}

-- ---- the two readings of each piece

abbrev pub c_name_seen : List ℕ → ℕ → Check COperand
c_name_seen = walk.name_seen Check check_gives check_chain check_here check_becomes check_look

abbrev pub s_name_seen : List ℕ → ℕ → Seen COperand
s_name_seen = walk.name_seen Seen seen_gives seen_chain seen_here seen_becomes seen_look

abbrev pub c_number_seen : ℕ → Ty0 → ℕ → Check COperand
c_number_seen = walk.number_seen Check check_gives check_chain check_here check_becomes check_look

abbrev pub s_number_seen : ℕ → Ty0 → ℕ → Seen COperand
s_number_seen = walk.number_seen Seen seen_gives seen_chain seen_here seen_becomes seen_look

abbrev pub c_letter_seen : ℤ → ℕ → Check COperand
c_letter_seen = walk.letter_seen Check check_gives check_chain check_here check_becomes check_look

abbrev pub s_letter_seen : ℤ → ℕ → Seen COperand
s_letter_seen = walk.letter_seen Seen seen_gives seen_chain seen_here seen_becomes seen_look

abbrev pub c_text_seen : List (List ℕ) → ℕ → Check COperand
c_text_seen = walk.text_seen Check check_gives check_chain check_here check_becomes check_look

abbrev pub s_text_seen : List (List ℕ) → ℕ → Seen COperand
s_text_seen = walk.text_seen Seen seen_gives seen_chain seen_here seen_becomes seen_look

abbrev pub c_index_seen : ℕ → COperand → COperand → Check COperand
c_index_seen = walk.index_seen Check check_gives check_chain check_here check_becomes check_look

abbrev pub s_index_seen : ℕ → COperand → COperand → Seen COperand
s_index_seen = walk.index_seen Seen seen_gives seen_chain seen_here seen_becomes seen_look

abbrev pub c_call_seen : ℕ → Bool → (mentioned : ℕ) → COperand → List COperand → Check COperand
c_call_seen = walk.call_seen Check check_gives check_chain check_here check_becomes check_look

abbrev pub s_call_seen : ℕ → Bool → (mentioned : ℕ) → COperand → List COperand → Seen COperand
s_call_seen = walk.call_seen Seen seen_gives seen_chain seen_here seen_becomes seen_look

abbrev pub c_dot_seen : ℕ → COperand → List ℕ → Check COperand
c_dot_seen = walk.dot_seen Check check_gives check_chain check_here check_becomes check_look

abbrev pub s_dot_seen : ℕ → COperand → List ℕ → Seen COperand
s_dot_seen = walk.dot_seen Seen seen_gives seen_chain seen_here seen_becomes seen_look

abbrev pub c_arrow_seen : ℕ → COperand → List ℕ → Check COperand
c_arrow_seen = walk.arrow_seen Check check_gives check_chain check_here check_becomes check_look

abbrev pub s_arrow_seen : ℕ → COperand → List ℕ → Seen COperand
s_arrow_seen = walk.arrow_seen Seen seen_gives seen_chain seen_here seen_becomes seen_look

abbrev pub c_step_seen : ℕ → (up post : Bool) → COperand → Check COperand
c_step_seen = walk.step_seen Check check_gives check_chain check_here check_becomes check_look

abbrev pub s_step_seen : ℕ → (up post : Bool) → COperand → Seen COperand
s_step_seen = walk.step_seen Seen seen_gives seen_chain seen_here seen_becomes seen_look

abbrev pub c_unary_seen : ℕ → CUnary → COperand → Check COperand
c_unary_seen = walk.unary_seen Check check_gives check_chain check_here check_becomes check_look

abbrev pub s_unary_seen : ℕ → CUnary → COperand → Seen COperand
s_unary_seen = walk.unary_seen Seen seen_gives seen_chain seen_here seen_becomes seen_look

abbrev pub c_sizeof_seen : ℕ → CScope → COperand → Check COperand
c_sizeof_seen = walk.sizeof_seen Check check_gives check_chain check_here check_becomes check_look

abbrev pub s_sizeof_seen : ℕ → CScope → COperand → Seen COperand
s_sizeof_seen = walk.sizeof_seen Seen seen_gives seen_chain seen_here seen_becomes seen_look

abbrev pub c_sizeof_type_seen : ℕ → CTy → Check COperand
c_sizeof_type_seen = walk.sizeof_type_seen Check check_gives check_chain check_here check_becomes check_look

abbrev pub s_sizeof_type_seen : ℕ → CTy → Seen COperand
s_sizeof_type_seen = walk.sizeof_type_seen Seen seen_gives seen_chain seen_here seen_becomes seen_look

abbrev pub c_cast_seen : ℕ → CTy → COperand → Check COperand
c_cast_seen = walk.cast_seen Check check_gives check_chain check_here check_becomes check_look

abbrev pub s_cast_seen : ℕ → CTy → COperand → Seen COperand
s_cast_seen = walk.cast_seen Seen seen_gives seen_chain seen_here seen_becomes seen_look

abbrev pub c_binary_seen : ℕ → CBinary → COperand → COperand → Check COperand
c_binary_seen = walk.binary_seen Check check_gives check_chain check_here check_becomes check_look

abbrev pub s_binary_seen : ℕ → CBinary → COperand → COperand → Seen COperand
s_binary_seen = walk.binary_seen Seen seen_gives seen_chain seen_here seen_becomes seen_look

abbrev pub c_cond_seen : ℕ → COperand → COperand → COperand → Check COperand
c_cond_seen = walk.cond_seen Check check_gives check_chain check_here check_becomes check_look

abbrev pub s_cond_seen : ℕ → COperand → COperand → COperand → Seen COperand
s_cond_seen = walk.cond_seen Seen seen_gives seen_chain seen_here seen_becomes seen_look

abbrev pub c_assign_seen : ℕ → Option Op2 → COperand → COperand → Check COperand
c_assign_seen = walk.assign_seen Check check_gives check_chain check_here check_becomes check_look

abbrev pub s_assign_seen : ℕ → Option Op2 → COperand → COperand → Seen COperand
s_assign_seen = walk.assign_seen Seen seen_gives seen_chain seen_here seen_becomes seen_look

abbrev pub c_comma_seen : ℕ → COperand → COperand → Check COperand
c_comma_seen = walk.comma_seen Check check_gives check_chain check_here check_becomes check_look

abbrev pub s_comma_seen : ℕ → COperand → COperand → Seen COperand
s_comma_seen = walk.comma_seen Seen seen_gives seen_chain seen_here seen_becomes seen_look

abbrev pub c_literal_begins : CTy → Check CScope
c_literal_begins = walk.literal_begins Check check_gives check_chain check_here check_becomes check_look

abbrev pub s_literal_begins : CTy → Seen CScope
s_literal_begins = walk.literal_begins Seen seen_gives seen_chain seen_here seen_becomes seen_look

abbrev pub c_literal_ends_as : CScope → ℕ → CScope → CFilled → Check COperand
c_literal_ends_as = walk.literal_ends_as Check check_gives check_chain check_here check_becomes check_look

abbrev pub s_literal_ends_as : CScope → ℕ → CScope → CFilled → Seen COperand
s_literal_ends_as = walk.literal_ends_as Seen seen_gives seen_chain seen_here seen_becomes seen_look

abbrev pub c_literal_ends : CScope → ℕ → CTy → List CStored → Check COperand
c_literal_ends = walk.literal_ends Check check_gives check_chain check_here check_becomes check_look

abbrev pub s_literal_ends : CScope → ℕ → CTy → List CStored → Seen COperand
s_literal_ends = walk.literal_ends Seen seen_gives seen_chain seen_here seen_becomes seen_look

abbrev pub c_specs_seen : SpecsPlace → ℕ → CSpecs → Check CSpecs
c_specs_seen = walk.specs_seen Check check_gives check_chain check_here check_becomes check_look

abbrev pub s_specs_seen : SpecsPlace → ℕ → CSpecs → Seen CSpecs
s_specs_seen = walk.specs_seen Seen seen_gives seen_chain seen_here seen_becomes seen_look

abbrev pub c_typedef_seen : CSpecs → List ℕ → Check CSpecs
c_typedef_seen = walk.typedef_seen Check check_gives check_chain check_here check_becomes check_look

abbrev pub s_typedef_seen : CSpecs → List ℕ → Seen CSpecs
s_typedef_seen = walk.typedef_seen Seen seen_gives seen_chain seen_here seen_becomes seen_look

abbrev pub c_record_used : CSpecs → Bool → Option (List ℕ) → ℕ → CScope → Option CTag → Check CSpecs
c_record_used = walk.record_used Check check_gives check_chain check_here check_becomes check_look

abbrev pub s_record_used : CSpecs → Bool → Option (List ℕ) → ℕ → CScope → Option CTag → Seen CSpecs
s_record_used = walk.record_used Seen seen_gives seen_chain seen_here seen_becomes seen_look

abbrev pub c_record_use_seen : Bool → CSpecs → Bool → Option (List ℕ) → ℕ → Check CSpecs
c_record_use_seen = walk.record_use_seen Check check_gives check_chain check_here check_becomes check_look

abbrev pub s_record_use_seen : Bool → CSpecs → Bool → Option (List ℕ) → ℕ → Seen CSpecs
s_record_use_seen = walk.record_use_seen Seen seen_gives seen_chain seen_here seen_becomes seen_look

abbrev pub c_record_begins : Bool → Option (List ℕ) → Check CScope
c_record_begins = walk.record_begins Check check_gives check_chain check_here check_becomes check_look

abbrev pub s_record_begins : Bool → Option (List ℕ) → Seen CScope
s_record_begins = walk.record_begins Seen seen_gives seen_chain seen_here seen_becomes seen_look

abbrev pub c_record_ended : CSpecs → Bool → Option (List ℕ) → ℕ → List CMember → CScope → Option CTag → ℕ → Check CSpecs
c_record_ended = walk.record_ended Check check_gives check_chain check_here check_becomes check_look

abbrev pub s_record_ended : CSpecs → Bool → Option (List ℕ) → ℕ → List CMember → CScope → Option CTag → ℕ → Seen CSpecs
s_record_ended = walk.record_ended Seen seen_gives seen_chain seen_here seen_becomes seen_look

abbrev pub c_record_ends : CScope → CSpecs → Bool → Option (List ℕ) → ℕ → List CMember → Check CSpecs
c_record_ends = walk.record_ends Check check_gives check_chain check_here check_becomes check_look

abbrev pub s_record_ends : CScope → CSpecs → Bool → Option (List ℕ) → ℕ → List CMember → Seen CSpecs
s_record_ends = walk.record_ends Seen seen_gives seen_chain seen_here seen_becomes seen_look

abbrev pub c_enum_used : CSpecs → ℕ → CScope → Option CTag → Check CSpecs
c_enum_used = walk.enum_used Check check_gives check_chain check_here check_becomes check_look

abbrev pub s_enum_used : CSpecs → ℕ → CScope → Option CTag → Seen CSpecs
s_enum_used = walk.enum_used Seen seen_gives seen_chain seen_here seen_becomes seen_look

abbrev pub c_enum_use_seen : CSpecs → Option (List ℕ) → ℕ → Check CSpecs
c_enum_use_seen = walk.enum_use_seen Check check_gives check_chain check_here check_becomes check_look

abbrev pub s_enum_use_seen : CSpecs → Option (List ℕ) → ℕ → Seen CSpecs
s_enum_use_seen = walk.enum_use_seen Seen seen_gives seen_chain seen_here seen_becomes seen_look

abbrev pub c_enum_begins : Option (List ℕ) → Check CScope
c_enum_begins = walk.enum_begins Check check_gives check_chain check_here check_becomes check_look

abbrev pub s_enum_begins : Option (List ℕ) → Seen CScope
s_enum_begins = walk.enum_begins Seen seen_gives seen_chain seen_here seen_becomes seen_look

abbrev pub c_enum_ends : CScope → CSpecs → Option (List ℕ) → ℕ → Bool → Check CSpecs
c_enum_ends = walk.enum_ends Check check_gives check_chain check_here check_becomes check_look

abbrev pub s_enum_ends : CScope → CSpecs → Option (List ℕ) → ℕ → Bool → Seen CSpecs
s_enum_ends = walk.enum_ends Seen seen_gives seen_chain seen_here seen_becomes seen_look

abbrev pub c_enumerator_as : CScope → List ℕ → ℕ → Option COperand → ℤ → Check ℤ
c_enumerator_as = walk.enumerator_as Check check_gives check_chain check_here check_becomes check_look

abbrev pub s_enumerator_as : CScope → List ℕ → ℕ → Option COperand → ℤ → Seen ℤ
s_enumerator_as = walk.enumerator_as Seen seen_gives seen_chain seen_here seen_becomes seen_look

abbrev pub c_enumerator_seen : List ℕ → ℕ → ℤ → Option COperand → Check ℤ
c_enumerator_seen = walk.enumerator_seen Check check_gives check_chain check_here check_becomes check_look

abbrev pub s_enumerator_seen : List ℕ → ℕ → ℤ → Option COperand → Seen ℤ
s_enumerator_seen = walk.enumerator_seen Seen seen_gives seen_chain seen_here seen_becomes seen_look

abbrev pub c_derives_seen : ℕ → CTy → CShape → Check CTy
c_derives_seen = walk.derives_seen Check check_gives check_chain check_here check_becomes check_look

abbrev pub s_derives_seen : ℕ → CTy → CShape → Seen CTy
s_derives_seen = walk.derives_seen Seen seen_gives seen_chain seen_here seen_becomes seen_look

abbrev pub c_member_seen : Bool → List CMember → ℕ → Option (List ℕ) → CTy → Option COperand → Check CMember
c_member_seen = walk.member_seen Check check_gives check_chain check_here check_becomes check_look

abbrev pub s_member_seen : Bool → List CMember → ℕ → Option (List ℕ) → CTy → Option COperand → Seen CMember
s_member_seen = walk.member_seen Seen seen_gives seen_chain seen_here seen_becomes seen_look

abbrev pub c_array_seen : ℕ → Bool → Option COperand → Check CStep
c_array_seen = walk.array_seen Check check_gives check_chain check_here check_becomes check_look

abbrev pub s_array_seen : ℕ → Bool → Option COperand → Seen CStep
s_array_seen = walk.array_seen Seen seen_gives seen_chain seen_here seen_becomes seen_look

abbrev pub c_identifiers_seen : ℕ → List (List ℕ) → CShape → Check CShape
c_identifiers_seen = walk.identifiers_seen Check check_gives check_chain check_here check_becomes check_look

abbrev pub s_identifiers_seen : ℕ → List (List ℕ) → CShape → Seen CShape
s_identifiers_seen = walk.identifiers_seen Seen seen_gives seen_chain seen_here seen_becomes seen_look

abbrev pub c_params_begin : Check CScope
c_params_begin = walk.params_begin Check check_gives check_chain check_here check_becomes check_look

abbrev pub s_params_begin : Seen CScope
s_params_begin = walk.params_begin Seen seen_gives seen_chain seen_here seen_becomes seen_look

abbrev pub c_params_end : CScope → List CParam → Bool → CShape → Check CShape
c_params_end = walk.params_end Check check_gives check_chain check_here check_becomes check_look

abbrev pub s_params_end : CScope → List CParam → Bool → CShape → Seen CShape
s_params_end = walk.params_end Seen seen_gives seen_chain seen_here seen_becomes seen_look

abbrev pub c_param_seen : Bool → ℕ → CSpecs → Option (List ℕ) → CTy → Check (Option CParam)
c_param_seen = walk.param_seen Check check_gives check_chain check_here check_becomes check_look

abbrev pub s_param_seen : Bool → ℕ → CSpecs → Option (List ℕ) → CTy → Seen (Option CParam)
s_param_seen = walk.param_seen Seen seen_gives seen_chain seen_here seen_becomes seen_look

abbrev pub c_value_given_at : ℕ → CTarget → CFilling → COperand → CScope → Option CAt → Check CFilling
c_value_given_at = walk.value_given_at Check check_gives check_chain check_here check_becomes check_look

abbrev pub s_value_given_at : ℕ → CTarget → CFilling → COperand → CScope → Option CAt → Seen CFilling
s_value_given_at = walk.value_given_at Seen seen_gives seen_chain seen_here seen_becomes seen_look

abbrev pub c_value_given : ℕ → CTarget → Option CAt → CFilling → COperand → Check CFilling
c_value_given = walk.value_given Check check_gives check_chain check_here check_becomes check_look

abbrev pub s_value_given : ℕ → CTarget → Option CAt → CFilling → COperand → Seen CFilling
s_value_given = walk.value_given Seen seen_gives seen_chain seen_here seen_becomes seen_look

abbrev pub c_text_given_at : ℕ → CTarget → CFilling → List ℕ → CScope → Option CAt → Check CFilling
c_text_given_at = walk.text_given_at Check check_gives check_chain check_here check_becomes check_look

abbrev pub s_text_given_at : ℕ → CTarget → CFilling → List ℕ → CScope → Option CAt → Seen CFilling
s_text_given_at = walk.text_given_at Seen seen_gives seen_chain seen_here seen_becomes seen_look

abbrev pub c_text_given : ℕ → CTarget → Option CAt → CFilling → List (List ℕ) → Check CFilling
c_text_given = walk.text_given Check check_gives check_chain check_here check_becomes check_look

abbrev pub s_text_given : ℕ → CTarget → Option CAt → CFilling → List (List ℕ) → Seen CFilling
s_text_given = walk.text_given Seen seen_gives seen_chain seen_here seen_becomes seen_look

abbrev pub c_whole_value : ℕ → CTarget → COperand → CScope → Check CFilling
c_whole_value = walk.whole_value Check check_gives check_chain check_here check_becomes check_look

abbrev pub s_whole_value : ℕ → CTarget → COperand → CScope → Seen CFilling
s_whole_value = walk.whole_value Seen seen_gives seen_chain seen_here seen_becomes seen_look

abbrev pub c_whole_given : ℕ → CTarget → COperand → Check CFilling
c_whole_given = walk.whole_given Check check_gives check_chain check_here check_becomes check_look

abbrev pub s_whole_given : ℕ → CTarget → COperand → Seen CFilling
s_whole_given = walk.whole_given Seen seen_gives seen_chain seen_here seen_becomes seen_look

abbrev pub c_whole_text_at : ℕ → CTarget → List ℕ → CScope → Option CAt → Check CFilling
c_whole_text_at = walk.whole_text_at Check check_gives check_chain check_here check_becomes check_look

abbrev pub s_whole_text_at : ℕ → CTarget → List ℕ → CScope → Option CAt → Seen CFilling
s_whole_text_at = walk.whole_text_at Seen seen_gives seen_chain seen_here seen_becomes seen_look

abbrev pub c_whole_text : ℕ → CTarget → List (List ℕ) → Check CFilling
c_whole_text = walk.whole_text Check check_gives check_chain check_here check_becomes check_look

abbrev pub s_whole_text : ℕ → CTarget → List (List ℕ) → Seen CFilling
s_whole_text = walk.whole_text Seen seen_gives seen_chain seen_here seen_becomes seen_look

abbrev pub c_list_begins : CTarget → EntryTrees → List CStored → Check CFilling
c_list_begins = walk.list_begins Check check_gives check_chain check_here check_becomes check_look

abbrev pub s_list_begins : CTarget → EntryTrees → List CStored → Seen CFilling
s_list_begins = walk.list_begins Seen seen_gives seen_chain seen_here seen_becomes seen_look

abbrev pub c_list_given : CTarget → Option CAt → CFilling → List CStored → Check CFilling
c_list_given = walk.list_given Check check_gives check_chain check_here check_becomes check_look

abbrev pub s_list_given : CTarget → Option CAt → CFilling → List CStored → Seen CFilling
s_list_given = walk.list_given Seen seen_gives seen_chain seen_here seen_becomes seen_look

abbrev pub c_element_as : ℕ → COperand → CScope → Option CAt → Check (Option CAt)
c_element_as = walk.element_as Check check_gives check_chain check_here check_becomes check_look

abbrev pub s_element_as : ℕ → COperand → CScope → Option CAt → Seen (Option CAt)
s_element_as = walk.element_as Seen seen_gives seen_chain seen_here seen_becomes seen_look

abbrev pub c_element_seen : ℕ → Option CAt → COperand → Check (Option CAt)
c_element_seen = walk.element_seen Check check_gives check_chain check_here check_becomes check_look

abbrev pub s_element_seen : ℕ → Option CAt → COperand → Seen (Option CAt)
s_element_seen = walk.element_seen Seen seen_gives seen_chain seen_here seen_becomes seen_look

abbrev pub c_member_as : ℕ → CScope → Option CAt → Check (Option CAt)
c_member_as = walk.member_as Check check_gives check_chain check_here check_becomes check_look

abbrev pub s_member_as : ℕ → CScope → Option CAt → Seen (Option CAt)
s_member_as = walk.member_as Seen seen_gives seen_chain seen_here seen_becomes seen_look

abbrev pub c_member_designated : ℕ → Option CAt → List ℕ → Check (Option CAt)
c_member_designated = walk.member_designated Check check_gives check_chain check_here check_becomes check_look

abbrev pub s_member_designated : ℕ → Option CAt → List ℕ → Seen (Option CAt)
s_member_designated = walk.member_designated Seen seen_gives seen_chain seen_here seen_becomes seen_look

abbrev pub c_expr_walk : ExprTree → Check COperand
c_expr_walk = walk.expr_walk Check check_gives check_chain check_here check_becomes check_look

abbrev pub s_expr_walk : ExprTree → Seen COperand
s_expr_walk = walk.expr_walk Seen seen_gives seen_chain seen_here seen_becomes seen_look

abbrev pub c_exprs_walk : ExprTrees → Check (List COperand)
c_exprs_walk = walk.exprs_walk Check check_gives check_chain check_here check_becomes check_look

abbrev pub s_exprs_walk : ExprTrees → Seen (List COperand)
s_exprs_walk = walk.exprs_walk Seen seen_gives seen_chain seen_here seen_becomes seen_look

abbrev pub c_option_walk : OptionExprTree → Check (Option COperand)
c_option_walk = walk.option_walk Check check_gives check_chain check_here check_becomes check_look

abbrev pub s_option_walk : OptionExprTree → Seen (Option COperand)
s_option_walk = walk.option_walk Seen seen_gives seen_chain seen_here seen_becomes seen_look

abbrev pub c_type_name_walk : TypeNameTree → Check CTy
c_type_name_walk = walk.type_name_walk Check check_gives check_chain check_here check_becomes check_look

abbrev pub s_type_name_walk : TypeNameTree → Seen CTy
s_type_name_walk = walk.type_name_walk Seen seen_gives seen_chain seen_here seen_becomes seen_look

abbrev pub c_spec_walk : Bool → CSpecs → SpecTree → Check CSpecs
c_spec_walk = walk.spec_walk Check check_gives check_chain check_here check_becomes check_look

abbrev pub s_spec_walk : Bool → CSpecs → SpecTree → Seen CSpecs
s_spec_walk = walk.spec_walk Seen seen_gives seen_chain seen_here seen_becomes seen_look

abbrev pub c_specs_walk : Bool → CSpecs → SpecTrees → Check CSpecs
c_specs_walk = walk.specs_walk Check check_gives check_chain check_here check_becomes check_look

abbrev pub s_specs_walk : Bool → CSpecs → SpecTrees → Seen CSpecs
s_specs_walk = walk.specs_walk Seen seen_gives seen_chain seen_here seen_becomes seen_look

abbrev pub c_member_decls_walk : List CMember → MemberDeclTrees → Check (List CMember)
c_member_decls_walk = walk.member_decls_walk Check check_gives check_chain check_here check_becomes check_look

abbrev pub s_member_decls_walk : List CMember → MemberDeclTrees → Seen (List CMember)
s_member_decls_walk = walk.member_decls_walk Seen seen_gives seen_chain seen_here seen_becomes seen_look

abbrev pub c_member_decl_walk : Bool → List CMember → MemberDeclTree → Check (List CMember)
c_member_decl_walk = walk.member_decl_walk Check check_gives check_chain check_here check_becomes check_look

abbrev pub s_member_decl_walk : Bool → List CMember → MemberDeclTree → Seen (List CMember)
s_member_decl_walk = walk.member_decl_walk Seen seen_gives seen_chain seen_here seen_becomes seen_look

abbrev pub c_member_declarators_walk : Bool → List CMember → CTy → MemberDeclaratorTrees → Check (List CMember)
c_member_declarators_walk = walk.member_declarators_walk Check check_gives check_chain check_here check_becomes check_look

abbrev pub s_member_declarators_walk : Bool → List CMember → CTy → MemberDeclaratorTrees → Seen (List CMember)
s_member_declarators_walk = walk.member_declarators_walk Seen seen_gives seen_chain seen_here seen_becomes seen_look

abbrev pub c_member_declarator_walk : Bool → List CMember → CTy → MemberDeclaratorTree → Check CMember
c_member_declarator_walk = walk.member_declarator_walk Check check_gives check_chain check_here check_becomes check_look

abbrev pub s_member_declarator_walk : Bool → List CMember → CTy → MemberDeclaratorTree → Seen CMember
s_member_declarator_walk = walk.member_declarator_walk Seen seen_gives seen_chain seen_here seen_becomes seen_look

abbrev pub c_enumerators_walk : ℤ → Bool → EnumeratorTrees → Check Bool
c_enumerators_walk = walk.enumerators_walk Check check_gives check_chain check_here check_becomes check_look

abbrev pub s_enumerators_walk : ℤ → Bool → EnumeratorTrees → Seen Bool
s_enumerators_walk = walk.enumerators_walk Seen seen_gives seen_chain seen_here seen_becomes seen_look

abbrev pub c_enumerator_walk : ℤ → EnumeratorTree → Check ℤ
c_enumerator_walk = walk.enumerator_walk Check check_gives check_chain check_here check_becomes check_look

abbrev pub s_enumerator_walk : ℤ → EnumeratorTree → Seen ℤ
s_enumerator_walk = walk.enumerator_walk Seen seen_gives seen_chain seen_here seen_becomes seen_look

abbrev pub c_declarator_walk : DeclaratorTree → Check CShape
c_declarator_walk = walk.declarator_walk Check check_gives check_chain check_here check_becomes check_look

abbrev pub s_declarator_walk : DeclaratorTree → Seen CShape
s_declarator_walk = walk.declarator_walk Seen seen_gives seen_chain seen_here seen_becomes seen_look

abbrev pub c_brackets_walk : ℕ → BracketsTree → Check CStep
c_brackets_walk = walk.brackets_walk Check check_gives check_chain check_here check_becomes check_look

abbrev pub s_brackets_walk : ℕ → BracketsTree → Seen CStep
s_brackets_walk = walk.brackets_walk Seen seen_gives seen_chain seen_here seen_becomes seen_look

abbrev pub c_params_walk : Bool → ParamTrees → Check (List CParam)
c_params_walk = walk.params_walk Check check_gives check_chain check_here check_becomes check_look

abbrev pub s_params_walk : Bool → ParamTrees → Seen (List CParam)
s_params_walk = walk.params_walk Seen seen_gives seen_chain seen_here seen_becomes seen_look

abbrev pub c_param_walk : Bool → ParamTree → Check (Option CParam)
c_param_walk = walk.param_walk Check check_gives check_chain check_here check_becomes check_look

abbrev pub s_param_walk : Bool → ParamTree → Seen (Option CParam)
s_param_walk = walk.param_walk Seen seen_gives seen_chain seen_here seen_becomes seen_look

abbrev pub c_initialiser_walk : CTarget → InitialiserTree → Check (List CStored)
c_initialiser_walk = walk.initialiser_walk Check check_gives check_chain check_here check_becomes check_look

abbrev pub s_initialiser_walk : CTarget → InitialiserTree → Seen (List CStored)
s_initialiser_walk = walk.initialiser_walk Seen seen_gives seen_chain seen_here seen_becomes seen_look

abbrev pub c_list_walk : CTarget → List CStored → InitialiserListTree → Check (List CStored)
c_list_walk = walk.list_walk Check check_gives check_chain check_here check_becomes check_look

abbrev pub s_list_walk : CTarget → List CStored → InitialiserListTree → Seen (List CStored)
s_list_walk = walk.list_walk Seen seen_gives seen_chain seen_here seen_becomes seen_look

abbrev pub c_entries_walk : CTarget → CFilling → EntryTrees → Check (List CStored)
c_entries_walk = walk.entries_walk Check check_gives check_chain check_here check_becomes check_look

abbrev pub s_entries_walk : CTarget → CFilling → EntryTrees → Seen (List CStored)
s_entries_walk = walk.entries_walk Seen seen_gives seen_chain seen_here seen_becomes seen_look

abbrev pub c_entry_walk : CTarget → CFilling → EntryTree → Check CFilling
c_entry_walk = walk.entry_walk Check check_gives check_chain check_here check_becomes check_look

abbrev pub s_entry_walk : CTarget → CFilling → EntryTree → Seen CFilling
s_entry_walk = walk.entry_walk Seen seen_gives seen_chain seen_here seen_becomes seen_look

abbrev pub c_designators_walk : Option CAt → DesignatorTrees → Check (Option CAt)
c_designators_walk = walk.designators_walk Check check_gives check_chain check_here check_becomes check_look

abbrev pub s_designators_walk : Option CAt → DesignatorTrees → Seen (Option CAt)
s_designators_walk = walk.designators_walk Seen seen_gives seen_chain seen_here seen_becomes seen_look

abbrev pub c_designator_walk : Option CAt → DesignatorTree → Check (Option CAt)
c_designator_walk = walk.designator_walk Check check_gives check_chain check_here check_becomes check_look

abbrev pub s_designator_walk : Option CAt → DesignatorTree → Seen (Option CAt)
s_designator_walk = walk.designator_walk Seen seen_gives seen_chain seen_here seen_becomes seen_look

abbrev pub c_given_walk : CTarget → Option CAt → CFilling → InitialiserTree → Check CFilling
c_given_walk = walk.given_walk Check check_gives check_chain check_here check_becomes check_look

abbrev pub s_given_walk : CTarget → Option CAt → CFilling → InitialiserTree → Seen CFilling
s_given_walk = walk.given_walk Seen seen_gives seen_chain seen_here seen_becomes seen_look

-- ---- they agree

pub on_name_seen : (x1 : List ℕ) (x2 : ℕ) → Agree COperand (c_name_seen x1 x2) (s_name_seen x1 x2)
on_name_seen name line = (on_chain _ _ _ _ _ _ on_here (λ scope. (on_changed _ _ _ _ _ _)))

pub on_number_seen : (x1 : ℕ) (x2 : Ty0) (x3 : ℕ) → Agree COperand (c_number_seen x1 x2 x3) (s_number_seen x1 x2 x3)
on_number_seen value type line = (on_chain _ _ _ _ _ _ on_here (λ scope. (on_gives _ _)))

pub on_letter_seen : (x1 : ℤ) (x2 : ℕ) → Agree COperand (c_letter_seen x1 x2) (s_letter_seen x1 x2)
on_letter_seen value line = (on_chain _ _ _ _ _ _ on_here (λ scope. (on_gives _ _)))

pub on_text_seen : (x1 : List (List ℕ)) (x2 : ℕ) → Agree COperand (c_text_seen x1 x2) (s_text_seen x1 x2)
on_text_seen parts line = (on_chain _ _ _ _ _ _ on_here (λ scope. (on_changed _ _ _ _ _ _)))

pub on_index_seen : (x1 : ℕ) (x2 : COperand) (x3 : COperand) → Agree COperand (c_index_seen x1 x2 x3) (s_index_seen x1 x2 x3)
on_index_seen line of index = (on_chain _ _ _ _ _ _ on_here (λ scope. (on_settled _ _ _ _ _)))

pub on_call_seen : (x1 : ℕ) (x2 : Bool) (x3 : ℕ) (x4 : COperand) (x5 : List COperand) → Agree COperand (c_call_seen x1 x2 x3 x4 x5) (s_call_seen x1 x2 x3 x4 x5)
on_call_seen line by_name mentioned callee args = (on_chain _ _ _ _ _ _ on_here (λ scope. (on_changed _ _ _ _ _ _)))

pub on_dot_seen : (x1 : ℕ) (x2 : COperand) (x3 : List ℕ) → Agree COperand (c_dot_seen x1 x2 x3) (s_dot_seen x1 x2 x3)
on_dot_seen line of name = (on_chain _ _ _ _ _ _ on_here (λ scope. (on_settled _ _ _ _ _)))

pub on_arrow_seen : (x1 : ℕ) (x2 : COperand) (x3 : List ℕ) → Agree COperand (c_arrow_seen x1 x2 x3) (s_arrow_seen x1 x2 x3)
on_arrow_seen line of name = (on_chain _ _ _ _ _ _ on_here (λ scope. (on_settled _ _ _ _ _)))

pub on_step_seen : (x1 : ℕ) (x2 : Bool) (x3 : Bool) (x4 : COperand) → Agree COperand (c_step_seen x1 x2 x3 x4) (s_step_seen x1 x2 x3 x4)
on_step_seen line up post on = (on_chain _ _ _ _ _ _ on_here (λ scope. (on_settled _ _ _ _ _)))

pub on_unary_seen : (x1 : ℕ) (x2 : CUnary) (x3 : COperand) → Agree COperand (c_unary_seen x1 x2 x3) (s_unary_seen x1 x2 x3)
on_unary_seen line takes_address on = (on_chain _ _ _ _ _ _ on_here (λ scope. (on_settled _ _ _ _ _)))
on_unary_seen line follows on = (on_chain _ _ _ _ _ _ on_here (λ scope. (on_settled _ _ _ _ _)))
on_unary_seen line (computes op) on = (on_chain _ _ _ _ _ _ on_here (λ scope. (on_settled _ _ _ _ _)))

pub on_sizeof_seen : (x1 : ℕ) (x2 : CScope) (x3 : COperand) → Agree COperand (c_sizeof_seen x1 x2 x3) (s_sizeof_seen x1 x2 x3)
on_sizeof_seen line before of = (on_chain _ _ _ _ _ _ on_here (λ scope. (on_changed _ _ _ _ _ _)))

pub on_sizeof_type_seen : (x1 : ℕ) (x2 : CTy) → Agree COperand (c_sizeof_type_seen x1 x2) (s_sizeof_type_seen x1 x2)
on_sizeof_type_seen line type = (on_chain _ _ _ _ _ _ on_here (λ scope. (on_settled _ _ _ _ _)))

pub on_cast_seen : (x1 : ℕ) (x2 : CTy) (x3 : COperand) → Agree COperand (c_cast_seen x1 x2 x3) (s_cast_seen x1 x2 x3)
on_cast_seen line type on = (on_chain _ _ _ _ _ _ on_here (λ scope. (on_settled _ _ _ _ _)))

pub on_binary_seen : (x1 : ℕ) (x2 : CBinary) (x3 : COperand) (x4 : COperand) → Agree COperand (c_binary_seen x1 x2 x3 x4) (s_binary_seen x1 x2 x3 x4)
on_binary_seen line tests_both left right = (on_chain _ _ _ _ _ _ on_here (λ scope. (on_settled _ _ _ _ _)))
on_binary_seen line tests_either left right = (on_chain _ _ _ _ _ _ on_here (λ scope. (on_settled _ _ _ _ _)))
on_binary_seen line (operates op) left right = (on_chain _ _ _ _ _ _ on_here (λ scope. (on_settled _ _ _ _ _)))

pub on_cond_seen : (x1 : ℕ) (x2 : COperand) (x3 : COperand) (x4 : COperand) → Agree COperand (c_cond_seen x1 x2 x3 x4) (s_cond_seen x1 x2 x3 x4)
on_cond_seen line test first second = (on_chain _ _ _ _ _ _ on_here (λ scope. (on_settled _ _ _ _ _)))

pub on_assign_seen : (x1 : ℕ) (x2 : Option Op2) (x3 : COperand) (x4 : COperand) → Agree COperand (c_assign_seen x1 x2 x3 x4) (s_assign_seen x1 x2 x3 x4)
on_assign_seen line None target value = (on_chain _ _ _ _ _ _ on_here (λ scope. (on_settled _ _ _ _ _)))
on_assign_seen line (Some op) target value = (on_chain _ _ _ _ _ _ on_here (λ scope. (on_settled _ _ _ _ _)))

pub on_comma_seen : (x1 : ℕ) (x2 : COperand) (x3 : COperand) → Agree COperand (c_comma_seen x1 x2 x3) (s_comma_seen x1 x2 x3)
on_comma_seen line first second = (on_chain _ _ _ _ _ _ on_here (λ scope. (on_settled _ _ _ _ _)))

pub on_literal_begins : (x1 : CTy) → Agree CScope (c_literal_begins x1) (s_literal_begins x1)
on_literal_begins type = (on_chain _ _ _ _ _ _ on_here (λ scope. (on_chain _ _ _ _ _ _ (on_becomes _) (λ _. (on_gives _ _)))))

pub on_literal_ends_as : (x1 : CScope) (x2 : ℕ) (x3 : CScope) (x4 : CFilled) → Agree COperand (c_literal_ends_as x1 x2 x3 x4) (s_literal_ends_as x1 x2 x3 x4)
on_literal_ends_as before line scope filled = (on_changed _ _ _ _ _ _)

pub on_literal_ends : (x1 : CScope) (x2 : ℕ) (x3 : CTy) (x4 : List CStored) → Agree COperand (c_literal_ends x1 x2 x3 x4) (s_literal_ends x1 x2 x3 x4)
on_literal_ends before line type stored = (on_chain _ _ _ _ _ _ on_here (λ scope. (on_literal_ends_as before line scope (filled_object scope.types type stored))))

pub on_specs_seen : (x1 : SpecsPlace) (x2 : ℕ) (x3 : CSpecs) → Agree CSpecs (c_specs_seen x1 x2 x3) (s_specs_seen x1 x2 x3)
on_specs_seen place line specs = (on_chain _ _ _ _ _ _ on_here (λ scope. (on_settled _ _ _ _ _)))

pub on_typedef_seen : (x1 : CSpecs) (x2 : List ℕ) → Agree CSpecs (c_typedef_seen x1 x2) (s_typedef_seen x1 x2)
on_typedef_seen specs name = (on_chain _ _ _ _ _ _ on_here (λ scope. (on_gives _ _)))

pub on_record_used : (x1 : CSpecs) (x2 : Bool) (x3 : Option (List ℕ)) (x4 : ℕ) (x5 : CScope) (x6 : Option CTag) → Agree CSpecs (c_record_used x1 x2 x3 x4 x5 x6) (s_record_used x1 x2 x3 x4 x5 x6)
on_record_used specs is_union name line scope found = (on_changed _ _ _ _ _ _)

pub on_record_use_seen : (x1 : Bool) (x2 : CSpecs) (x3 : Bool) (x4 : Option (List ℕ)) (x5 : ℕ) → Agree CSpecs (c_record_use_seen x1 x2 x3 x4 x5) (s_record_use_seen x1 x2 x3 x4 x5)
on_record_use_seen alone specs is_union name line = (on_chain _ _ _ _ _ _ on_here (λ scope. (on_record_used specs is_union name line scope (seen_tag alone name scope))))

pub on_record_begins : (x1 : Bool) (x2 : Option (List ℕ)) → Agree CScope (c_record_begins x1 x2) (s_record_begins x1 x2)
on_record_begins is_union name = (on_chain _ _ _ _ _ _ on_here (λ scope. (on_chain _ _ _ _ _ _ (on_becomes _) (λ _. (on_gives _ _)))))

pub on_record_ended : (x1 : CSpecs) (x2 : Bool) (x3 : Option (List ℕ)) (x4 : ℕ) (x5 : List CMember) (x6 : CScope) (x7 : Option CTag) (x8 : ℕ) → Agree CSpecs (c_record_ended x1 x2 x3 x4 x5 x6 x7 x8) (s_record_ended x1 x2 x3 x4 x5 x6 x7 x8)
on_record_ended specs is_union name line members scope found number = (on_changed _ _ _ _ _ _)

pub on_record_ends : (x1 : CScope) (x2 : CSpecs) (x3 : Bool) (x4 : Option (List ℕ)) (x5 : ℕ) (x6 : List CMember) → Agree CSpecs (c_record_ends x1 x2 x3 x4 x5 x6) (s_record_ends x1 x2 x3 x4 x5 x6)
on_record_ends before specs is_union name line members = (on_chain _ _ _ _ _ _ on_here (λ scope. (on_record_ended specs is_union name line members scope (seen_tag true name before) (tag_number (length before.types.records) (continued before.types is_union (seen_tag true name before))))))

pub on_enum_used : (x1 : CSpecs) (x2 : ℕ) (x3 : CScope) (x4 : Option CTag) → Agree CSpecs (c_enum_used x1 x2 x3 x4) (s_enum_used x1 x2 x3 x4)
on_enum_used specs line scope found = (on_settled _ _ _ _ _)

pub on_enum_use_seen : (x1 : CSpecs) (x2 : Option (List ℕ)) (x3 : ℕ) → Agree CSpecs (c_enum_use_seen x1 x2 x3) (s_enum_use_seen x1 x2 x3)
on_enum_use_seen specs name line = (on_chain _ _ _ _ _ _ on_here (λ scope. (on_enum_used specs line scope (seen_tag false name scope))))

pub on_enum_begins : (x1 : Option (List ℕ)) → Agree CScope (c_enum_begins x1) (s_enum_begins x1)
on_enum_begins name = (on_chain _ _ _ _ _ _ on_here (λ scope. (on_chain _ _ _ _ _ _ (on_becomes _) (λ _. (on_gives _ _)))))

pub on_enum_ends : (x1 : CScope) (x2 : CSpecs) (x3 : Option (List ℕ)) (x4 : ℕ) (x5 : Bool) → Agree CSpecs (c_enum_ends x1 x2 x3 x4 x5) (s_enum_ends x1 x2 x3 x4 x5)
on_enum_ends before specs name line negative = (on_chain _ _ _ _ _ _ on_here (λ scope. (on_changed _ _ _ _ _ _)))

pub on_enumerator_as : (x1 : CScope) (x2 : List ℕ) (x3 : ℕ) (x4 : Option COperand) (x5 : ℤ) → Agree ℤ (c_enumerator_as x1 x2 x3 x4 x5) (s_enumerator_as x1 x2 x3 x4 x5)
on_enumerator_as scope name line written value = (on_changed _ _ _ _ _ _)

pub on_enumerator_seen : (x1 : List ℕ) (x2 : ℕ) (x3 : ℤ) (x4 : Option COperand) → Agree ℤ (c_enumerator_seen x1 x2 x3 x4) (s_enumerator_seen x1 x2 x3 x4)
on_enumerator_seen name line next None = (on_chain _ _ _ _ _ _ on_here (λ scope. (on_enumerator_as scope name line None next)))
on_enumerator_seen name line next (Some written) = (on_chain _ _ _ _ _ _ on_here (λ scope. (on_enumerator_as scope name line (Some written) (enumerator_value next (constant_of scope.types (value_of written))))))

pub on_derives_seen : (x1 : ℕ) (x2 : CTy) (x3 : CShape) → Agree CTy (c_derives_seen x1 x2 x3) (s_derives_seen x1 x2 x3)
on_derives_seen line from shape = (on_chain _ _ _ _ _ _ on_here (λ scope. (on_settled _ _ _ _ _)))

pub on_member_seen : (x1 : Bool) (x2 : List CMember) (x3 : ℕ) (x4 : Option (List ℕ)) (x5 : CTy) (x6 : Option COperand) → Agree CMember (c_member_seen x1 x2 x3 x4 x5 x6) (s_member_seen x1 x2 x3 x4 x5 x6)
on_member_seen is_last before line name type width = (on_chain _ _ _ _ _ _ on_here (λ scope. (on_settled _ _ _ _ _)))

pub on_array_seen : (x1 : ℕ) (x2 : Bool) (x3 : Option COperand) → Agree CStep (c_array_seen x1 x2 x3) (s_array_seen x1 x2 x3)
on_array_seen line is_plain written = (on_chain _ _ _ _ _ _ on_here (λ scope. (on_settled _ _ _ _ _)))

pub on_identifiers_seen : (x1 : ℕ) (x2 : List (List ℕ)) (x3 : CShape) → Agree CShape (c_identifiers_seen x1 x2 x3) (s_identifiers_seen x1 x2 x3)
on_identifiers_seen line names shape = (on_chain _ _ _ _ _ _ on_here (λ scope. (on_settled _ _ _ _ _)))

pub on_params_begin : Agree CScope c_params_begin s_params_begin
on_params_begin = (on_chain _ _ _ _ _ _ on_here (λ scope. (on_chain _ _ _ _ _ _ (on_becomes _) (λ _. (on_gives _ _)))))

pub on_params_end : (x1 : CScope) (x2 : List CParam) (x3 : Bool) (x4 : CShape) → Agree CShape (c_params_end x1 x2 x3 x4) (s_params_end x1 x2 x3 x4)
on_params_end before params variadic shape = (on_chain _ _ _ _ _ _ on_here (λ scope. (on_chain _ _ _ _ _ _ (on_becomes _) (λ _. (on_gives _ _)))))

pub on_param_seen : (x1 : Bool) (x2 : ℕ) (x3 : CSpecs) (x4 : Option (List ℕ)) (x5 : CTy) → Agree (Option CParam) (c_param_seen x1 x2 x3 x4 x5) (s_param_seen x1 x2 x3 x4 x5)
on_param_seen is_only line specs name type = (on_chain _ _ _ _ _ _ on_here (λ scope. (on_changed _ _ _ _ _ _)))

pub on_value_given_at : (x1 : ℕ) (x2 : CTarget) (x3 : CFilling) (x4 : COperand) (x5 : CScope) (x6 : Option CAt) → Agree CFilling (c_value_given_at x1 x2 x3 x4 x5 x6) (s_value_given_at x1 x2 x3 x4 x5 x6)
on_value_given_at line target filling value scope at = (on_settled _ _ _ _ _)

pub on_value_given : (x1 : ℕ) (x2 : CTarget) (x3 : Option CAt) (x4 : CFilling) (x5 : COperand) → Agree CFilling (c_value_given x1 x2 x3 x4 x5) (s_value_given x1 x2 x3 x4 x5)
on_value_given line target at filling value = (on_chain _ _ _ _ _ _ on_here (λ scope. (on_value_given_at line target filling value scope (landed scope.types value at))))

pub on_text_given_at : (x1 : ℕ) (x2 : CTarget) (x3 : CFilling) (x4 : List ℕ) (x5 : CScope) (x6 : Option CAt) → Agree CFilling (c_text_given_at x1 x2 x3 x4 x5 x6) (s_text_given_at x1 x2 x3 x4 x5 x6)
on_text_given_at line target filling bytes scope at = (on_changed _ _ _ _ _ _)

pub on_text_given : (x1 : ℕ) (x2 : CTarget) (x3 : Option CAt) (x4 : CFilling) (x5 : List (List ℕ)) → Agree CFilling (c_text_given x1 x2 x3 x4 x5) (s_text_given x1 x2 x3 x4 x5)
on_text_given line target at filling parts = (on_chain _ _ _ _ _ _ on_here (λ scope. (on_either _ (fills scope.types at) _ _ _ _ (on_text_given_at line target filling (joined_bytes parts) scope (text_landed scope.types at)) (on_chain _ _ _ _ _ _ (on_text_seen parts line) (λ value. (on_value_given line target at filling value))))))

pub on_whole_value : (x1 : ℕ) (x2 : CTarget) (x3 : COperand) (x4 : CScope) → Agree CFilling (c_whole_value x1 x2 x3 x4) (s_whole_value x1 x2 x3 x4)
on_whole_value line target value scope = (on_settled _ _ _ _ _)

pub on_whole_given : (x1 : ℕ) (x2 : CTarget) (x3 : COperand) → Agree CFilling (c_whole_given x1 x2 x3) (s_whole_given x1 x2 x3)
on_whole_given line target value = (on_chain _ _ _ _ _ _ on_here (λ scope. (on_whole_value line target value scope)))

pub on_whole_text_at : (x1 : ℕ) (x2 : CTarget) (x3 : List ℕ) (x4 : CScope) (x5 : Option CAt) → Agree CFilling (c_whole_text_at x1 x2 x3 x4 x5) (s_whole_text_at x1 x2 x3 x4 x5)
on_whole_text_at line target bytes scope at = (on_changed _ _ _ _ _ _)

pub on_whole_text : (x1 : ℕ) (x2 : CTarget) (x3 : List (List ℕ)) → Agree CFilling (c_whole_text x1 x2 x3) (s_whole_text x1 x2 x3)
on_whole_text line target parts = (on_chain _ _ _ _ _ _ on_here (λ scope. (on_either _ (fills_whole target) _ _ _ _ (on_whole_text_at line target (joined_bytes parts) scope (whole_at target)) (on_chain _ _ _ _ _ _ (on_text_seen parts line) (λ value. (on_whole_given line target value))))))

pub on_list_begins : (x1 : CTarget) (x2 : EntryTrees) (x3 : List CStored) → Agree CFilling (c_list_begins x1 x2 x3) (s_list_begins x1 x2 x3)
on_list_begins target _ stored = (on_chain _ _ _ _ _ _ on_here (λ scope. (on_gives _ _)))

pub on_list_given : (x1 : CTarget) (x2 : Option CAt) (x3 : CFilling) (x4 : List CStored) → Agree CFilling (c_list_given x1 x2 x3 x4) (s_list_given x1 x2 x3 x4)
on_list_given target at filling stored = (on_chain _ _ _ _ _ _ on_here (λ scope. (on_gives _ _)))

pub on_element_as : (x1 : ℕ) (x2 : COperand) (x3 : CScope) (x4 : Option CAt) → Agree (Option CAt) (c_element_as x1 x2 x3 x4) (s_element_as x1 x2 x3 x4)
on_element_as line index scope at = (on_settled _ _ _ _ _)

pub on_element_seen : (x1 : ℕ) (x2 : Option CAt) (x3 : COperand) → Agree (Option CAt) (c_element_seen x1 x2 x3) (s_element_seen x1 x2 x3)
on_element_seen line at index = (on_chain _ _ _ _ _ _ on_here (λ scope. (on_element_as line index scope (element_at scope.types at (constant_of scope.types (value_of index))))))

pub on_member_as : (x1 : ℕ) (x2 : CScope) (x3 : Option CAt) → Agree (Option CAt) (c_member_as x1 x2 x3) (s_member_as x1 x2 x3)
on_member_as line scope at = (on_settled _ _ _ _ _)

pub on_member_designated : (x1 : ℕ) (x2 : Option CAt) (x3 : List ℕ) → Agree (Option CAt) (c_member_designated x1 x2 x3) (s_member_designated x1 x2 x3)
on_member_designated line at name = (on_chain _ _ _ _ _ _ on_here (λ scope. (on_member_as line scope (member_at scope.types at name))))
