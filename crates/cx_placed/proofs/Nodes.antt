-- What a node of an expression, a specifier, a declarator or an initialiser means stands where what it is made of does, and so does the
-- scope behind it (ISO C99, 6.5, 6.7).
use Rattle.std.proofs.Common.{ℕ, ℤ, Bool, true, false, List, [], length, Option, None, Some}
use Rattle.cr_base.specs.declared.refusal.Place.{Place as TextPlace}
use Rattle.cx_core.specs.declared.expr.Op2.{Op2}
use Rattle.cx_core.specs.Trees.{CTy, CMember, CPuts}
use Rattle.cx_lex.specs.declared.token.Ty0.{Ty0}
use Rattle.cx_placed.proofs.Initialisers.{AllStoredStand, FillingStands, object_filled, filled_stands, start_stands, value_stored_stands, text_at_stands}
use Rattle.cx_placed.proofs.Keeps.{Anything, ScopeStands, Keeps, on_gives, on_chain, on_here, on_becomes, on_either, on_settled, on_changed}
use Rattle.cx_placed.proofs.Meanings.{name_stands, deref_stands, address_stands, binary_stands, index_stands, unary_stands, cast_stands, cond_stands, assign_stands, assign_by_stands, dot_stands, arrow_stands, call_stands}
use Rattle.cx_placed.proofs.Operands.{OperandStands, OperandsStand, value_stands}
use Rattle.cx_placed.proofs.Scopes.{used_stands, called_stands, text_stands, literal_stands, completed_stands, unevaluated_stands, record_stands, open_enum_stands, closed_enum_stands, param_stands}
use Rattle.cx_placed.specs.Places.{PutsStandIn}
use Rattle.cx_rules.proofs.NodesAgree.{s_array_seen, s_arrow_seen, s_assign_seen, s_binary_seen, s_call_seen, s_cast_seen, s_comma_seen, s_cond_seen, s_derives_seen, s_dot_seen, s_element_seen, s_enum_begins, s_enum_ends, s_enum_use_seen, s_enumerator_seen, s_identifiers_seen, s_index_seen, s_letter_seen, s_list_begins, s_list_given, s_literal_begins, s_literal_ends, s_literal_ends_as, s_member_designated, s_member_seen, s_name_seen, s_number_seen, s_param_seen, s_params_begin, s_params_end, s_record_begins, s_record_ends, s_record_use_seen, s_sizeof_seen, s_sizeof_type_seen, s_specs_seen, s_step_seen, s_text_given, s_text_given_at, s_text_seen, s_typedef_seen, s_unary_seen, s_value_given, s_whole_given, s_whole_text}
use Rattle.cx_rules.specs.declared.kinds.SpecsPlace.{SpecsPlace}
use Rattle.cx_rules.specs.Initial.{CAt, CStored, joined_bytes}
use Rattle.cx_rules.specs.Meanings.{trailing_types}
use Rattle.cx_rules.specs.Operands.{COperand, value_of}
use Rattle.cx_rules.specs.Pieces.{at_line, CUnary, takes_address, follows, computes, CBinary, tests_both, tests_either, operates, literal_meaning, CTarget, CFilling, CFilled, seen_tag, continued, param_of, landed, value_stored, fills, text_landed, text_stored_at, whole_at, fills_whole, filled_object}
use Rattle.cx_rules.specs.Scope.{CScope, ordinary}
use Rattle.cx_rules.specs.Shapes.{CSpecs, CParam, CStep, CShape}
use Rattle.cx_tree.specs.Trees.{EntryTrees}

module _ (Among : ℕ → Type 0) where
  -- ---- expressions (6.5)

  pub on_name_seen : (name : List ℕ) (line : ℕ) → Keeps Among COperand (OperandStands Among) (s_name_seen name line)
  on_name_seen name line = on_chain _ _ _ _ _ _ on_here (λ scope held. on_changed _ _ _ _ _ _ _ (used_stands Among line name (ordinary name scope.declared) scope held) (name_stands Among (at_line scope line) (ordinary name scope.declared) held.own))

  pub on_number_seen : (value : ℕ) (type : Ty0) (line : ℕ) → Keeps Among COperand (OperandStands Among) (s_number_seen value type line)
  on_number_seen value type line = on_chain _ _ _ _ _ _ on_here (λ scope held. on_gives _ _ _ (held.own, tt))

  pub on_letter_seen : (value : ℤ) (line : ℕ) → Keeps Among COperand (OperandStands Among) (s_letter_seen value line)
  on_letter_seen value line = on_chain _ _ _ _ _ _ on_here (λ scope held. on_gives _ _ _ (held.own, tt))

  pub on_text_seen : (parts : List (List ℕ)) (line : ℕ) → Keeps Among COperand (OperandStands Among) (s_text_seen parts line)
  on_text_seen parts line = on_chain _ _ _ _ _ _ on_here (λ scope held. on_changed _ _ _ _ _ _ _ (text_stands Among line (joined_bytes parts) scope held) (held.own, tt))

  pub on_index_seen : (line : ℕ) (of : COperand) (index : COperand) → OperandStands Among of → OperandStands Among index
      → Keeps Among COperand (OperandStands Among) (s_index_seen line of index)
  on_index_seen line of index one other = on_chain _ _ _ _ _ _ on_here (λ scope held. on_settled _ _ _ _ _ _ (index_stands Among (at_line scope line) scope.types of index held.own one other))

  pub on_call_seen : (line : ℕ) (by_name : Bool) (mentioned : ℕ) (callee : COperand) (args : List COperand) → OperandStands Among callee → OperandsStand Among args
      → Keeps Among COperand (OperandStands Among) (s_call_seen line by_name mentioned callee args)
  on_call_seen line by_name mentioned callee args one given = on_chain _ _ _ _ _ _ on_here (λ scope held. on_changed _ _ _ _ _ _ _ (called_stands Among by_name mentioned (trailing_types scope.types callee args) scope held) (call_stands Among (at_line scope line) scope.types by_name callee args held.own one given))

  pub on_dot_seen : (line : ℕ) (of : COperand) (name : List ℕ) → OperandStands Among of → Keeps Among COperand (OperandStands Among) (s_dot_seen line of name)
  on_dot_seen line of name one = on_chain _ _ _ _ _ _ on_here (λ scope held. on_settled _ _ _ _ _ _ (dot_stands Among (at_line scope line) scope.types of name held.own one))

  pub on_arrow_seen : (line : ℕ) (of : COperand) (name : List ℕ) → OperandStands Among of → Keeps Among COperand (OperandStands Among) (s_arrow_seen line of name)
  on_arrow_seen line of name one = on_chain _ _ _ _ _ _ on_here (λ scope held. on_settled _ _ _ _ _ _ (arrow_stands Among (at_line scope line) scope.types of name held.own one))

  pub on_step_seen : (line : ℕ) (up : Bool) (post : Bool) (on : COperand) → OperandStands Among on → Keeps Among COperand (OperandStands Among) (s_step_seen line up post on)
  on_step_seen line up post on one = on_chain _ _ _ _ _ _ on_here (λ scope held. on_settled _ _ _ _ _ _ (held.own, one))

  pub on_unary_seen : (line : ℕ) (op : CUnary) (on : COperand) → OperandStands Among on → Keeps Among COperand (OperandStands Among) (s_unary_seen line op on)
  on_unary_seen line takes_address on one = on_chain _ _ _ _ _ _ on_here (λ scope held. on_settled _ _ _ _ _ _ (address_stands Among (at_line scope line) on held.own one))
  on_unary_seen line follows on one = on_chain _ _ _ _ _ _ on_here (λ scope held. on_settled _ _ _ _ _ _ (deref_stands Among (at_line scope line) (value_of on) held.own (value_stands Among on one)))
  on_unary_seen line (computes op) on one = on_chain _ _ _ _ _ _ on_here (λ scope held. on_settled _ _ _ _ _ _ (unary_stands Among (at_line scope line) scope.types op on held.own one))

  pub on_sizeof_seen : (line : ℕ) (before : CScope) (of : COperand) → ScopeStands Among before → Keeps Among COperand (OperandStands Among) (s_sizeof_seen line before of)
  on_sizeof_seen line before of earlier = on_chain _ _ _ _ _ _ on_here (λ scope held. on_changed _ _ _ _ _ _ _ (unevaluated_stands Among before scope earlier held) (held.own, tt))

  pub on_sizeof_type_seen : (line : ℕ) (type : CTy) → Keeps Among COperand (OperandStands Among) (s_sizeof_type_seen line type)
  on_sizeof_type_seen line type = on_chain _ _ _ _ _ _ on_here (λ scope held. on_settled _ _ _ _ _ _ (held.own, tt))

  pub on_cast_seen : (line : ℕ) (type : CTy) (on : COperand) → OperandStands Among on → Keeps Among COperand (OperandStands Among) (s_cast_seen line type on)
  on_cast_seen line type on one = on_chain _ _ _ _ _ _ on_here (λ scope held. on_settled _ _ _ _ _ _ (cast_stands Among (at_line scope line) scope.types type on held.own one))

  pub on_binary_seen : (line : ℕ) (op : CBinary) (left : COperand) (right : COperand) → OperandStands Among left → OperandStands Among right
      → Keeps Among COperand (OperandStands Among) (s_binary_seen line op left right)
  on_binary_seen line tests_both left right one other = on_chain _ _ _ _ _ _ on_here (λ scope held. on_settled _ _ _ _ _ _ (held.own, (value_stands Among left one, value_stands Among right other)))
  on_binary_seen line tests_either left right one other = on_chain _ _ _ _ _ _ on_here (λ scope held. on_settled _ _ _ _ _ _ (held.own, (value_stands Among left one, value_stands Among right other)))
  on_binary_seen line (operates op) left right one other = on_chain _ _ _ _ _ _ on_here (λ scope held. on_settled _ _ _ _ _ _ (binary_stands Among (at_line scope line) scope.types op left right held.own one other))

  pub on_cond_seen : (line : ℕ) (test : COperand) (first : COperand) (second : COperand) → OperandStands Among test → OperandStands Among first → OperandStands Among second
      → Keeps Among COperand (OperandStands Among) (s_cond_seen line test first second)
  on_cond_seen line test first second tested one other = on_chain _ _ _ _ _ _ on_here (λ scope held. on_settled _ _ _ _ _ _ (cond_stands Among (at_line scope line) scope.types test first second held.own tested one other))

  pub on_assign_seen : (line : ℕ) (op : Option Op2) (target : COperand) (value : COperand) → OperandStands Among target → OperandStands Among value
      → Keeps Among COperand (OperandStands Among) (s_assign_seen line op target value)
  on_assign_seen line None target value one other = on_chain _ _ _ _ _ _ on_here (λ scope held. on_settled _ _ _ _ _ _ (assign_stands Among (at_line scope line) scope.types target value held.own one other))
  on_assign_seen line (Some op) target value one other = on_chain _ _ _ _ _ _ on_here (λ scope held. on_settled _ _ _ _ _ _ (assign_by_stands Among (at_line scope line) scope.types op target value held.own one other))

  pub on_comma_seen : (line : ℕ) (first : COperand) (second : COperand) → OperandStands Among first → OperandStands Among second
      → Keeps Among COperand (OperandStands Among) (s_comma_seen line first second)
  on_comma_seen line first second one other = on_chain _ _ _ _ _ _ on_here (λ scope held. on_settled _ _ _ _ _ _ (held.own, (value_stands Among first one, value_stands Among second other)))

  pub on_literal_begins : (type : CTy) → Keeps Among CScope (Anything CScope) (s_literal_begins type)
  on_literal_begins type = on_chain _ _ _ _ _ _ on_here (λ scope held. on_chain _ _ _ _ _ _ (on_becomes _ (literal_stands Among type scope held)) (λ _ _. on_gives _ _ _ tt))

  means_stands : (in_function : Bool) (at : TextPlace) (number : ℕ) (type : CTy) (puts : CPuts) → Among at.unit → PutsStandIn Among puts
      → OperandStands Among (literal_meaning in_function at number type puts)
  means_stands true at number type puts own held = (own, held)
  means_stands false at number type puts own held = (own, tt)

  on_literal_ends_as : (before : CScope) (line : ℕ) (scope : CScope) (filled : CFilled) → PutsStandIn Among filled.puts → ScopeStands Among scope
      → Keeps Among COperand (OperandStands Among) (s_literal_ends_as before line scope filled)
  on_literal_ends_as before line scope filled new held =
      on_changed _ _ _ _ _ _ _ (completed_stands Among (length before.literals) scope.in_function before.next_object filled.type filled.puts scope new held)
      (means_stands scope.in_function (at_line scope line) before.next_object filled.type filled.puts held.own new)

  pub on_literal_ends : (before : CScope) (line : ℕ) (type : CTy) (stored : List CStored) → AllStoredStand Among stored
      → Keeps Among COperand (OperandStands Among) (s_literal_ends before line type stored)
  on_literal_ends before line type stored new = on_chain _ _ _ _ _ _ on_here (λ scope held. on_literal_ends_as before line scope (filled_object scope.types type stored) (object_filled Among scope.types type stored new) held)

  -- ---- specifiers (6.7.1 to 6.7.4)

  pub on_specs_seen : (place : SpecsPlace) (line : ℕ) (specs : CSpecs) → Keeps Among CSpecs (Anything CSpecs) (s_specs_seen place line specs)
  on_specs_seen place line specs = on_chain _ _ _ _ _ _ on_here (λ scope held. on_settled _ _ _ _ _ _ tt)

  pub on_typedef_seen : (specs : CSpecs) (name : List ℕ) → Keeps Among CSpecs (Anything CSpecs) (s_typedef_seen specs name)
  on_typedef_seen specs name = on_chain _ _ _ _ _ _ on_here (λ scope held. on_gives _ _ _ tt)

  pub on_record_use_seen : (alone : Bool) (specs : CSpecs) (is_union : Bool) (name : Option (List ℕ)) (line : ℕ)
      → Keeps Among CSpecs (Anything CSpecs) (s_record_use_seen alone specs is_union name line)
  on_record_use_seen alone specs is_union name line = on_chain _ _ _ _ _ _ on_here (λ scope held. on_changed _ _ _ _ _ _ _ (record_stands Among (seen_tag alone name scope) name is_union scope held) tt)

  pub on_record_begins : (is_union : Bool) (name : Option (List ℕ)) → Keeps Among CScope (Anything CScope) (s_record_begins is_union name)
  on_record_begins is_union name = on_chain _ _ _ _ _ _ on_here (λ scope held.
      on_chain _ _ _ _ _ _ (on_becomes _ (record_stands Among (continued scope.types is_union (seen_tag true name scope)) name is_union scope held)) (λ _ _. on_gives _ _ _ tt))

  pub on_record_ends : (before : CScope) (specs : CSpecs) (is_union : Bool) (name : Option (List ℕ)) (line : ℕ) (members : List CMember)
      → Keeps Among CSpecs (Anything CSpecs) (s_record_ends before specs is_union name line members)
  on_record_ends before specs is_union name line members = on_chain _ _ _ _ _ _ on_here (λ scope held. on_changed _ _ _ _ _ _ _ held tt)

  pub on_enum_use_seen : (specs : CSpecs) (name : Option (List ℕ)) (line : ℕ) → Keeps Among CSpecs (Anything CSpecs) (s_enum_use_seen specs name line)
  on_enum_use_seen specs name line = on_chain _ _ _ _ _ _ on_here (λ scope held. on_settled _ _ _ _ _ _ tt)

  pub on_enum_begins : (name : Option (List ℕ)) → Keeps Among CScope (Anything CScope) (s_enum_begins name)
  on_enum_begins name = on_chain _ _ _ _ _ _ on_here (λ scope held. on_chain _ _ _ _ _ _ (on_becomes _ (open_enum_stands Among name scope held)) (λ _ _. on_gives _ _ _ tt))

  pub on_enum_ends : (before : CScope) (specs : CSpecs) (name : Option (List ℕ)) (line : ℕ) (negative : Bool)
      → Keeps Among CSpecs (Anything CSpecs) (s_enum_ends before specs name line negative)
  on_enum_ends before specs name line negative = on_chain _ _ _ _ _ _ on_here (λ scope held. on_changed _ _ _ _ _ _ _ (closed_enum_stands Among name (length before.types.enums) negative scope held) tt)

  pub on_enumerator_seen : (name : List ℕ) (line : ℕ) (next : ℤ) (written : Option COperand) → Keeps Among ℤ (Anything ℤ) (s_enumerator_seen name line next written)
  on_enumerator_seen name line next None = on_chain _ _ _ _ _ _ on_here (λ scope held. on_changed _ _ _ _ _ _ _ held tt)
  on_enumerator_seen name line next (Some written) = on_chain _ _ _ _ _ _ on_here (λ scope held. on_changed _ _ _ _ _ _ _ held tt)

  -- ---- members and declarators (6.7.2.1, 6.7.5)

  pub on_derives_seen : (line : ℕ) (from : CTy) (shape : CShape) → Keeps Among CTy (Anything CTy) (s_derives_seen line from shape)
  on_derives_seen line from shape = on_chain _ _ _ _ _ _ on_here (λ scope held. on_settled _ _ _ _ _ _ tt)

  pub on_member_seen : (is_last : Bool) (before : List CMember) (line : ℕ) (name : Option (List ℕ)) (type : CTy) (width : Option COperand)
      → Keeps Among CMember (Anything CMember) (s_member_seen is_last before line name type width)
  on_member_seen is_last before line name type width = on_chain _ _ _ _ _ _ on_here (λ scope held. on_settled _ _ _ _ _ _ tt)

  pub on_array_seen : (line : ℕ) (is_plain : Bool) (written : Option COperand) → Keeps Among CStep (Anything CStep) (s_array_seen line is_plain written)
  on_array_seen line is_plain written = on_chain _ _ _ _ _ _ on_here (λ scope held. on_settled _ _ _ _ _ _ tt)

  pub on_identifiers_seen : (line : ℕ) (names : List (List ℕ)) (shape : CShape) → Keeps Among CShape (Anything CShape) (s_identifiers_seen line names shape)
  on_identifiers_seen line names shape = on_chain _ _ _ _ _ _ on_here (λ scope held. on_settled _ _ _ _ _ _ tt)

  pub on_params_begin : Keeps Among CScope (Anything CScope) s_params_begin
  on_params_begin = on_chain _ _ _ _ _ _ on_here (λ scope held. on_chain _ _ _ _ _ _ (on_becomes _ held) (λ _ _. on_gives _ _ _ tt))

  pub on_params_end : (before : CScope) (params : List CParam) (variadic : Bool) (shape : CShape) → Keeps Among CShape (Anything CShape) (s_params_end before params variadic shape)
  on_params_end before params variadic shape = on_chain _ _ _ _ _ _ on_here (λ scope held. on_chain _ _ _ _ _ _ (on_becomes _ held) (λ _ _. on_gives _ _ _ tt))

  pub on_param_seen : (is_only : Bool) (line : ℕ) (specs : CSpecs) (name : Option (List ℕ)) (type : CTy)
      → Keeps Among (Option CParam) (Anything (Option CParam)) (s_param_seen is_only line specs name type)
  on_param_seen is_only line specs name type = on_chain _ _ _ _ _ _ on_here (λ scope held. on_changed _ _ _ _ _ _ _ (param_stands Among (param_of scope specs name type) scope held) tt)

  -- ---- initialisers (6.7.8)

  pub on_value_given : (line : ℕ) (target : CTarget) (at : Option CAt) (filling : CFilling) (value : COperand) → FillingStands Among filling → OperandStands Among value
      → Keeps Among CFilling (FillingStands Among) (s_value_given line target at filling value)
  on_value_given line target at filling value filled_before one = on_chain _ _ _ _ _ _ on_here (λ scope held. on_settled _ _ _ _ _ _
      (filled_stands Among scope.types target (landed scope.types value at) (value_stored scope.types target value (landed scope.types value at)) filling
      (value_stored_stands Among scope.types target value (landed scope.types value at) one) filled_before))

  on_text_given_at : (line : ℕ) (target : CTarget) (filling : CFilling) (bytes : List ℕ) (scope : CScope) (at : Option CAt) → FillingStands Among filling → ScopeStands Among scope
      → Keeps Among CFilling (FillingStands Among) (s_text_given_at line target filling bytes scope at)
  on_text_given_at line target filling bytes scope at filled_before held = on_changed _ _ _ _ _ _ _ held
      (filled_stands Among scope.types target at (text_stored_at scope.types (at_line scope line) target bytes at) filling (text_at_stands Among scope.types (at_line scope line) target bytes at held.own) filled_before)

  pub on_text_given : (line : ℕ) (target : CTarget) (at : Option CAt) (filling : CFilling) (parts : List (List ℕ)) → FillingStands Among filling
      → Keeps Among CFilling (FillingStands Among) (s_text_given line target at filling parts)
  on_text_given line target at filling parts filled_before = on_chain _ _ _ _ _ _ on_here (λ scope held. on_either _ _ (fills scope.types at) _ _
      (on_text_given_at line target filling (joined_bytes parts) scope (text_landed scope.types at) filled_before held)
      (on_chain _ _ _ _ _ _ (on_text_seen parts line) (λ value one. on_value_given line target at filling value filled_before one)))

  pub on_whole_given : (line : ℕ) (target : CTarget) (value : COperand) → OperandStands Among value → Keeps Among CFilling (FillingStands Among) (s_whole_given line target value)
  on_whole_given line target value one = on_chain _ _ _ _ _ _ on_here (λ scope held. on_settled _ _ _ _ _ _ (value_stored_stands Among scope.types target value (whole_at target) one))

  pub on_whole_text : (line : ℕ) (target : CTarget) (parts : List (List ℕ)) → Keeps Among CFilling (FillingStands Among) (s_whole_text line target parts)
  on_whole_text line target parts = on_chain _ _ _ _ _ _ on_here (λ scope held. on_either _ _ (fills_whole target) _ _
      (on_changed _ _ _ _ _ _ _ held (text_at_stands Among scope.types (at_line scope line) target (joined_bytes parts) (whole_at target) held.own))
      (on_chain _ _ _ _ _ _ (on_text_seen parts line) (λ value one. on_whole_given line target value one)))

  pub on_list_begins : (target : CTarget) (entries : EntryTrees) (stored : List CStored) → AllStoredStand Among stored
      → Keeps Among CFilling (FillingStands Among) (s_list_begins target entries stored)
  on_list_begins target entries stored before = on_chain _ _ _ _ _ _ on_here (λ scope held. on_gives _ _ _ (start_stands Among scope.types target entries stored before))

  pub on_list_given : (target : CTarget) (at : Option CAt) (filling : CFilling) (stored : List CStored) → AllStoredStand Among stored
      → Keeps Among CFilling (FillingStands Among) (s_list_given target at filling stored)
  on_list_given target at filling stored new = on_chain _ _ _ _ _ _ on_here (λ scope held. on_gives _ _ _ (filled_stands Among scope.types target at [] (record filling { stored = stored }) tt new))

  pub on_element_seen : (line : ℕ) (at : Option CAt) (index : COperand) → Keeps Among (Option CAt) (Anything (Option CAt)) (s_element_seen line at index)
  on_element_seen line at index = on_chain _ _ _ _ _ _ on_here (λ scope held. on_settled _ _ _ _ _ _ tt)

  pub on_member_designated : (line : ℕ) (at : Option CAt) (name : List ℕ) → Keeps Among (Option CAt) (Anything (Option CAt)) (s_member_designated line at name)
  on_member_designated line at name = on_chain _ _ _ _ _ _ on_here (λ scope held. on_settled _ _ _ _ _ _ tt)
