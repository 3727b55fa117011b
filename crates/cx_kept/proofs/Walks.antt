-- The walk over an expression leaves the literals and the mentions before it as they were: it only puts more behind them.
use Rattle.std.proofs.Common.{arith, refl, sym, ap, ◌∙◌, subst, ◌≤◌}
use Rattle.std.proofs.lemmas.List.{length-take, take-append-le, take-take, take-set-le}
use Rattle.std.proofs.Math.Seq.{take-length}
use Rattle.cr_base.specs.declared.refusal.Refusal.{Refusal}
use Rattle.cx_core.specs.declared.program.Linkage.TheVariants.{External, Internal, Nothing}
use Rattle.std.specs.Prelude.{Bool, List, None, Option, Some, [], false, length, not, pos, slice_get, take, true, ℕ, ℤ, ◌&&◌, ◌++◌, ◌+ℤ◌, ◌∷◌, ◌≡◌}
use Rattle.cx_core.specs.declared.expr.Op2.{Op2}
use Rattle.cx_core.specs.Trees.{CMember, CMention, CTy}
use Rattle.cx_lex.specs.declared.token.Ty0.{Ty0}
use Rattle.cx_tree.specs.Trees.{Array, Arrow, Assign, Binary, Braced, BracketsTree, Call, Cast, Comma, Cond, DeclaratorTree, DesignatorTree, DesignatorTrees, Dot, Element, Entry, EntryTree, EntryTrees, Enum, Enumerator, EnumeratorTree, EnumeratorTrees, ExprTree, ExprTrees, Function, Group, Identifier, Identifiers, Index, InitialiserList, InitialiserListTree, InitialiserTree, Key, Length, Letter, Literal, Member, MemberDecl, MemberDeclTree, MemberDeclTrees, MemberDeclarator, MemberDeclaratorTree, MemberDeclaratorTrees, Missing, Name, Number, OptionExprTree, Param, ParamTree, ParamTrees, Paren, Pointer, PostDown, PostUp, PreDown, PreUp, Record, Single, SizeofExpr, SizeofType, SpecTree, SpecTrees, Star, StaticFirst, StaticLast, Text, TypeName, TypeNameTree, Typedef, Unary, Unsized, more_designators, more_entries, more_enumerators, more_exprs, more_member_declarators, more_member_decls, more_params, more_specs, no_designators, no_entries, no_enumerator_list, no_enumerators, no_expr, no_exprs, no_member_declarators, no_member_decls, no_members, no_params, no_specs, some_enumerator_list, some_expr, some_members}
use Rattle.cx_rules.specs.declared.kinds.SpecsPlace.{SpecsPlace}
use Rattle.cx_rules.specs.Initial.{CAt, CStored, element_at, joined_bytes, member_at}
use Rattle.cx_rules.specs.Operands.{COperand, constant_of, value_of}
use Rattle.cx_rules.specs.Scope.{CMeant, CScope, CTag, a_function, a_tag, a_type_name, an_enumerator, an_object, left, ordinary, with_call}
use Rattle.cx_rules.specs.Shapes.{CParam, CShape, CSpecs, CStep, base_type, no_specs_yet}
use Rattle.cx_rules.specs.Readings.{CChecked, Check, check_becomes, check_behind, check_by, check_chain, check_gives, check_here, check_look, fine, refusal_at, stops}
use Rattle.cx_kept.specs.Prefix.{Prefix}
use Rattle.cx_rules.specs.Walk as walk
use Rattle.cx_rules.specs.Pieces.{CBinary, CFilling, CTarget, CUnary, Done, assignment_of, binary_of, called, calls_by_name, computes, continued, designated_from, enumerator_value, fills, fills_whole, follows, is_none_of, is_single, is_text, landed, no_more_declarators, no_more_decls, object_of_type, operates, or_negative, param_of, seen_tag, tag_number, takes_address, target_at, tests_both, tests_either, text_landed, text_parts, unary_of, used, whole_at, with_closed_enum, with_literal, with_open_enum, with_param, with_text, with_used}
use Rattle.cx_lex.specs.declared.token.Keyword.{Keyword}
use Rattle.cx_lex.specs.declared.token.Punct.{Punct}
use Rattle.cx_rules.specs.declared.kinds.SpecsPlace.TheVariants.{Parameter, Plain}
use Rattle.cx_rules.specs.Lines.{declarator_line, expr_line, own_line, specs_line}
use Rattle.cx_rules.specs.Nodes.{CNode}
use Rattle.cx_kept.proofs.Readings.{c_name_seen, c_number_seen, c_letter_seen, c_text_seen, c_index_seen, c_call_seen, c_dot_seen, c_arrow_seen, c_step_seen, c_unary_seen, c_sizeof_seen, c_sizeof_type_seen, c_cast_seen, c_binary_seen, c_cond_seen, c_assign_seen, c_comma_seen, c_literal_begins, c_literal_ends, c_specs_seen, c_typedef_seen, c_record_used, c_record_use_seen, c_record_begins, c_record_ended, c_record_ends, c_enum_used, c_enum_use_seen, c_enum_begins, c_enum_ends, c_enumerator_as, c_enumerator_seen, c_derives_seen, c_member_seen, c_array_seen, c_identifiers_seen, c_params_begin, c_params_end, c_param_seen, c_value_given_at, c_value_given, c_text_given_at, c_text_given, c_whole_value, c_whole_given, c_whole_text_at, c_whole_text, c_list_begins, c_list_given, c_element_as, c_element_seen, c_member_as, c_member_designated, c_expr_walk, c_exprs_walk, c_option_walk, c_type_name_walk, c_spec_walk, c_specs_walk, c_member_decls_walk, c_member_decl_walk, c_member_declarators_walk, c_member_declarator_walk, c_enumerators_walk, c_enumerator_walk, c_declarator_walk, c_brackets_walk, c_params_walk, c_param_walk, c_initialiser_walk, c_list_walk, c_entries_walk, c_entry_walk, c_designators_walk, c_designator_walk, c_given_walk}

-- ---- what stays

prefix_same : (scope : CScope) → Prefix scope scope
prefix_same scope = (take-length scope.literals, take-length scope.mentions)

fits_in : {A : Type 0} (xs ys : List A) → take (length xs) ys ≡ xs → length xs ≤ length ys
fits_in xs ys e = let l : length (take (length xs) ys) ≡ length xs = ap length e in omega (arith, l, length-take (length xs) ys)

prefix_more : {A : Type 0} (xs ys zs : List A) → take (length xs) ys ≡ xs → take (length xs) (ys ++ zs) ≡ xs
prefix_more xs ys zs e = take-append-le (length xs) ys zs (fits_in xs ys e) ∙ e

prefix_through : {A : Type 0} (xs ys zs : List A) → take (length xs) ys ≡ xs → take (length ys) zs ≡ ys → take (length xs) zs ≡ xs
prefix_through xs ys zs e more =
    sym (take-take (length xs) (length ys) zs (fits_in xs ys e)) ∙ ap (take (length xs)) more ∙ e

prefix_chain : (one two three : CScope) → Prefix one two → Prefix two three → Prefix one three
prefix_chain one two three first second =
    (prefix_through one.literals two.literals three.literals first.0 second.0, prefix_through one.mentions two.mentions three.mentions first.1 second.1)

abbrev pub KeepsAt : (A : Type 0) → Check A → CScope → Type 0
KeepsAt A walked scope = (s0 : CScope) → Prefix s0 scope → (value : A) (after : CScope) → walked scope ≡ fine value after → Prefix s0 after

abbrev pub Keeps : (A : Type 0) → Check A → Type 0
Keeps A walked = (scope : CScope) → KeepsAt A walked scope

abbrev Grows : CScope → CScope → Type 0
Grows scope after = (s0 : CScope) → Prefix s0 scope → Prefix s0 after

-- ---- rules

fine_scope : {A : Type 0} (scope : CScope) (value other : A) (after : CScope) → fine value scope ≡ fine other after → scope ≡ after
fine_scope scope value other after e = cc

no_stop : {A P : Type 0} (refusal : Refusal) (value : A) (after : CScope) → stops refusal ≡ fine value after → P
no_stop refusal value after e = absurd cc

behind_keeps : {A B : Type 0} (walked : CChecked A) (next : A → Check B) (s0 : CScope)
    → ((value : A) (middle : CScope) → walked ≡ fine value middle → (other : B) (after : CScope) → next value middle ≡ fine other after → Prefix s0 after)
    → (other : B) (after : CScope) → check_behind walked next ≡ fine other after → Prefix s0 after
behind_keeps (stops refusal) next s0 keeps other after e = no_stop refusal other after e
behind_keeps (fine value middle) next s0 keeps other after e = keeps value middle refl other after e

at_chain : (A B : Type 0) (first : Check A) (next : A → Check B) (scope : CScope) → KeepsAt A first scope → ((value : A) → Keeps B (next value)) → KeepsAt B (check_chain A B first next) scope
unfolding check_chain
at_chain A B first next scope one more s0 kept =
    behind_keeps (first scope) next s0 (λ value middle e. more value middle s0 (one s0 kept value middle e))

kept_chain : (A B : Type 0) (first : Check A) (next : A → Check B) → Keeps A first → ((value : A) → Keeps B (next value)) → Keeps B (check_chain A B first next)
kept_chain A B first next one more scope = at_chain A B first next scope (one scope) more

kept_here : (A : Type 0) (next : CScope → Check A) → ((scope : CScope) → KeepsAt A (next scope) scope) → Keeps A (check_chain CScope A check_here next)
unfolding check_chain check_here
kept_here A next keeps scope s0 kept value after e = keeps scope s0 kept value after e

kept_gives : (A : Type 0) (value : A) (scope : CScope) → KeepsAt A (check_gives A value) scope
unfolding check_gives
kept_gives A value scope s0 kept other after e = subst (λ one. Prefix s0 one) (fine_scope scope value other after e) kept

kept_given : (A : Type 0) (value : A) → Keeps A (check_gives A value)
kept_given A value scope = kept_gives A value scope

settled_by : {A : Type 0} (found : Option Refusal) (scope : CScope) (meaning value : A) (after : CScope) →
    check_behind (check_by found scope) (λ _. check_gives A meaning) ≡ fine value after → scope ≡ after
unfolding check_gives
settled_by None scope meaning value after e = fine_scope scope meaning value after e
settled_by (Some refusal) scope meaning value after e = no_stop refusal value after e

kept_settled : (A : Type 0) (scope : CScope) (line : ℕ) (node : CNode) (meaning : A) →
    KeepsAt A (walk.settled Check check_gives check_chain check_here check_becomes check_look scope line node meaning) scope
unfolding check_chain check_look
kept_settled A scope line node meaning s0 kept value after e =
    subst (λ one. Prefix s0 one) (settled_by (refusal_at (record { scope = scope; line = line; node = node })) scope meaning value after e) kept

changed_by : {A : Type 0} (found : Option Refusal) (scope new : CScope) (meaning value : A) (after : CScope) →
    check_behind (check_by found scope) (λ _. check_chain Done A (check_becomes new) (λ _. check_gives A meaning)) ≡ fine value after → new ≡ after
unfolding check_gives check_chain check_becomes
changed_by None scope new meaning value after e = fine_scope new meaning value after e
changed_by (Some refusal) scope new meaning value after e = no_stop refusal value after e

changed_to : (A : Type 0) (scope : CScope) (line : ℕ) (node : CNode) (new : CScope) (meaning : A) (value : A) (after : CScope) →
    walk.changed Check check_gives check_chain check_here check_becomes check_look scope line node new meaning scope ≡ fine value after → new ≡ after
unfolding check_chain check_look
changed_to A scope line node new meaning value after e = changed_by (refusal_at (record { scope = scope; line = line; node = node })) scope new meaning value after e

kept_changed : (A : Type 0) (scope : CScope) (line : ℕ) (node : CNode) (new : CScope) (meaning : A) → Grows scope new →
    KeepsAt A (walk.changed Check check_gives check_chain check_here check_becomes check_look scope line node new meaning) scope
kept_changed A scope line node new meaning grows s0 kept value after e =
    subst (λ one. Prefix s0 one) (changed_to A scope line node new meaning value after e) (grows s0 kept)

kept_becomes : (A : Type 0) (scope new : CScope) (meaning : A) → Grows scope new →
    KeepsAt A (check_chain Done A (check_becomes new) (λ _. check_gives A meaning)) scope
unfolding check_chain check_becomes check_gives
kept_becomes A scope new meaning grows s0 kept value after e = subst (λ one. Prefix s0 one) (fine_scope new meaning value after e) (grows s0 kept)

either_at : (A : Type 0) (scope : CScope) (test : Bool) (one other : Check A) → KeepsAt A one scope → KeepsAt A other scope →
    KeepsAt A (walk.either Check check_gives check_chain check_here check_becomes check_look test one other) scope
either_at A scope true one other first second = first
either_at A scope false one other first second = second

kept_either : (A : Type 0) (test : Bool) (one other : Check A) → Keeps A one → Keeps A other →
    Keeps A (walk.either Check check_gives check_chain check_here check_becomes check_look test one other)
kept_either A true one other first second = first
kept_either A false one other first second = second

-- what stays of the scope itself stays of all before it
from_itself : (A : Type 0) (walked : Check A) (scope : CScope) → ((value : A) (after : CScope) → walked scope ≡ fine value after → Prefix scope after) → KeepsAt A walked scope
from_itself A walked scope keeps s0 kept value after e = prefix_chain s0 scope after kept (keeps value after e)

-- ---- changes

grow_used : (line : ℕ) (name : List ℕ) (meant : Option CMeant) (scope : CScope) → Grows scope (used line name meant scope)
grow_used line name None scope = λ s0 kept. kept
grow_used line name (Some (an_object number type is_register External)) scope = λ s0 kept. (kept.0, prefix_more s0.mentions scope.mentions _ kept.1)
grow_used line name (Some (an_object number type is_register Internal)) scope = λ s0 kept. kept
grow_used line name (Some (an_object number type is_register Nothing)) scope = λ s0 kept. kept
grow_used line name (Some (a_function number type linkage)) scope = λ s0 kept. (kept.0, prefix_more s0.mentions scope.mentions _ kept.1)
grow_used line name (Some (a_type_name type)) scope = λ s0 kept. kept
grow_used line name (Some (an_enumerator value)) scope = λ s0 kept. kept
grow_used line name (Some (a_tag is_record is_open number)) scope = λ s0 kept. kept

grow_text : (line : ℕ) (bytes : List ℕ) (scope : CScope) → Grows scope (with_text line bytes scope)
grow_text line bytes scope = λ s0 kept. (prefix_more s0.literals scope.literals _ kept.0, kept.1)

grow_record : (found : Option CTag) (name : Option (List ℕ)) (is_union : Bool) (scope : CScope) → Grows scope (with_used found name is_union scope)
grow_record None None is_union scope = λ s0 kept. kept
grow_record None (Some name) is_union scope = λ s0 kept. kept
grow_record (Some one) name is_union scope = λ s0 kept. kept

grow_open : (name : Option (List ℕ)) (scope : CScope) → Grows scope (with_open_enum name scope)
grow_open None scope = λ s0 kept. kept
grow_open (Some name) scope = λ s0 kept. kept

grow_closed : (name : Option (List ℕ)) (number : ℕ) (negative : Bool) (scope : CScope) → Grows scope (with_closed_enum name number negative scope)
grow_closed None number negative scope = λ s0 kept. kept
grow_closed (Some name) number negative scope = λ s0 kept. kept

grow_named : (name : Option (List ℕ)) (one : CParam) (scope : CScope) → Grows scope (with_param (Some (record one { name = name })) scope)
grow_named None one scope = λ s0 kept. kept
grow_named (Some name) one scope = λ s0 kept. kept

grow_param : (param : Option CParam) (scope : CScope) → Grows scope (with_param param scope)
grow_param None scope = λ s0 kept. kept
grow_param (Some one) scope = grow_named one.name one scope

-- the mention of a call that came behind those of an earlier scope
mention_set : (one : Option CMention) (types : List CTy) (before middle : CScope) → slice_get middle.mentions (length before.mentions) ≡ one → Prefix before middle →
    Prefix before (with_call (length before.mentions) types middle)
mention_set None types before middle e kept = rw e kept
mention_set (Some one) types before middle e kept =
    rw e (kept.0, take-set-le (length before.mentions) middle.mentions (length before.mentions) _ (omega arith) ∙ kept.1)

grow_called : (by_name : Bool) (types : List CTy) (before middle : CScope) → Prefix before middle → Prefix before (called by_name (length before.mentions) types middle)
grow_called true types before middle kept = mention_set (slice_get middle.mentions (length before.mentions)) types before middle refl kept
grow_called false types before middle kept = kept

kept_name_seen : (x1 : List ℕ) (x2 : ℕ) → Keeps COperand (c_name_seen x1 x2)
kept_name_seen name line = (kept_here _ _ (λ scope. (kept_changed _ scope _ _ _ _ (grow_used line name (ordinary name scope.declared) scope))))

kept_number_seen : (x1 : ℕ) (x2 : Ty0) (x3 : ℕ) → Keeps COperand (c_number_seen x1 x2 x3)
kept_number_seen value type line = (kept_here _ _ (λ scope. (kept_gives _ _ scope)))

kept_letter_seen : (x1 : ℤ) (x2 : ℕ) → Keeps COperand (c_letter_seen x1 x2)
kept_letter_seen value line = (kept_here _ _ (λ scope. (kept_gives _ _ scope)))

kept_text_seen : (x1 : List (List ℕ)) (x2 : ℕ) → Keeps COperand (c_text_seen x1 x2)
kept_text_seen parts line = (kept_here _ _ (λ scope. (kept_changed _ scope _ _ _ _ (grow_text line (joined_bytes parts) scope))))

kept_index_seen : (x1 : ℕ) (x2 : COperand) (x3 : COperand) → Keeps COperand (c_index_seen x1 x2 x3)
kept_index_seen line of index = (kept_here _ _ (λ scope. (kept_settled _ scope _ _ _)))

kept_dot_seen : (x1 : ℕ) (x2 : COperand) (x3 : List ℕ) → Keeps COperand (c_dot_seen x1 x2 x3)
kept_dot_seen line of name = (kept_here _ _ (λ scope. (kept_settled _ scope _ _ _)))

kept_arrow_seen : (x1 : ℕ) (x2 : COperand) (x3 : List ℕ) → Keeps COperand (c_arrow_seen x1 x2 x3)
kept_arrow_seen line of name = (kept_here _ _ (λ scope. (kept_settled _ scope _ _ _)))

kept_step_seen : (x1 : ℕ) (x2 : Bool) (x3 : Bool) (x4 : COperand) → Keeps COperand (c_step_seen x1 x2 x3 x4)
kept_step_seen line up post on = (kept_here _ _ (λ scope. (kept_settled _ scope _ _ _)))

kept_unary_seen : (x1 : ℕ) (x2 : CUnary) (x3 : COperand) → Keeps COperand (c_unary_seen x1 x2 x3)
kept_unary_seen line takes_address on = (kept_here _ _ (λ scope. (kept_settled _ scope _ _ _)))
kept_unary_seen line follows on = (kept_here _ _ (λ scope. (kept_settled _ scope _ _ _)))
kept_unary_seen line (computes op) on = (kept_here _ _ (λ scope. (kept_settled _ scope _ _ _)))

kept_sizeof_type_seen : (x1 : ℕ) (x2 : CTy) → Keeps COperand (c_sizeof_type_seen x1 x2)
kept_sizeof_type_seen line type = (kept_here _ _ (λ scope. (kept_settled _ scope _ _ _)))

kept_cast_seen : (x1 : ℕ) (x2 : CTy) (x3 : COperand) → Keeps COperand (c_cast_seen x1 x2 x3)
kept_cast_seen line type on = (kept_here _ _ (λ scope. (kept_settled _ scope _ _ _)))

kept_binary_seen : (x1 : ℕ) (x2 : CBinary) (x3 : COperand) (x4 : COperand) → Keeps COperand (c_binary_seen x1 x2 x3 x4)
kept_binary_seen line tests_both left right = (kept_here _ _ (λ scope. (kept_settled _ scope _ _ _)))
kept_binary_seen line tests_either left right = (kept_here _ _ (λ scope. (kept_settled _ scope _ _ _)))
kept_binary_seen line (operates op) left right = (kept_here _ _ (λ scope. (kept_settled _ scope _ _ _)))

kept_cond_seen : (x1 : ℕ) (x2 : COperand) (x3 : COperand) (x4 : COperand) → Keeps COperand (c_cond_seen x1 x2 x3 x4)
kept_cond_seen line test first second = (kept_here _ _ (λ scope. (kept_settled _ scope _ _ _)))

kept_assign_seen : (x1 : ℕ) (x2 : Option Op2) (x3 : COperand) (x4 : COperand) → Keeps COperand (c_assign_seen x1 x2 x3 x4)
kept_assign_seen line None target value = (kept_here _ _ (λ scope. (kept_settled _ scope _ _ _)))
kept_assign_seen line (Some op) target value = (kept_here _ _ (λ scope. (kept_settled _ scope _ _ _)))

kept_comma_seen : (x1 : ℕ) (x2 : COperand) (x3 : COperand) → Keeps COperand (c_comma_seen x1 x2 x3)
kept_comma_seen line first second = (kept_here _ _ (λ scope. (kept_settled _ scope _ _ _)))

kept_specs_seen : (x1 : SpecsPlace) (x2 : ℕ) (x3 : CSpecs) → Keeps CSpecs (c_specs_seen x1 x2 x3)
kept_specs_seen place line specs = (kept_here _ _ (λ scope. (kept_settled _ scope _ _ _)))

kept_typedef_seen : (x1 : CSpecs) (x2 : List ℕ) → Keeps CSpecs (c_typedef_seen x1 x2)
kept_typedef_seen specs name = (kept_here _ _ (λ scope. (kept_gives _ _ scope)))

kept_record_used : (x1 : CSpecs) (x2 : Bool) (x3 : Option (List ℕ)) (x4 : ℕ) (x5 : CScope) (x6 : Option CTag) → KeepsAt CSpecs (c_record_used x1 x2 x3 x4 x5 x6) x5
kept_record_used specs is_union name line scope found = (kept_changed _ scope _ _ _ _ (grow_record found name is_union scope))

kept_record_use_seen : (x1 : Bool) (x2 : CSpecs) (x3 : Bool) (x4 : Option (List ℕ)) (x5 : ℕ) → Keeps CSpecs (c_record_use_seen x1 x2 x3 x4 x5)
kept_record_use_seen alone specs is_union name line = (kept_here _ _ (λ scope. (kept_record_used specs is_union name line scope (seen_tag alone name scope))))

kept_record_begins : (x1 : Bool) (x2 : Option (List ℕ)) → Keeps CScope (c_record_begins x1 x2)
kept_record_begins is_union name = (kept_here _ _ (λ scope. (kept_becomes _ scope _ _ (grow_record (continued scope.types is_union (seen_tag true name scope)) name is_union scope))))

kept_record_ended : (x1 : CSpecs) (x2 : Bool) (x3 : Option (List ℕ)) (x4 : ℕ) (x5 : List CMember) (x6 : CScope) (x7 : Option CTag) (x8 : ℕ) → KeepsAt CSpecs (c_record_ended x1 x2 x3 x4 x5 x6 x7 x8) x6
kept_record_ended specs is_union name line members scope found number = (kept_changed _ scope _ _ _ _ (λ s0 kept. kept))

kept_record_ends : (x1 : CScope) (x2 : CSpecs) (x3 : Bool) (x4 : Option (List ℕ)) (x5 : ℕ) (x6 : List CMember) → Keeps CSpecs (c_record_ends x1 x2 x3 x4 x5 x6)
kept_record_ends before specs is_union name line members = (kept_here _ _ (λ scope. (kept_record_ended specs is_union name line members scope (seen_tag true name before) (tag_number (length before.types.records) (continued before.types is_union (seen_tag true name before))))))

kept_enum_used : (x1 : CSpecs) (x2 : ℕ) (x3 : CScope) (x4 : Option CTag) → KeepsAt CSpecs (c_enum_used x1 x2 x3 x4) x3
kept_enum_used specs line scope found = (kept_settled _ scope _ _ _)

kept_enum_use_seen : (x1 : CSpecs) (x2 : Option (List ℕ)) (x3 : ℕ) → Keeps CSpecs (c_enum_use_seen x1 x2 x3)
kept_enum_use_seen specs name line = (kept_here _ _ (λ scope. (kept_enum_used specs line scope (seen_tag false name scope))))

kept_enum_begins : (x1 : Option (List ℕ)) → Keeps CScope (c_enum_begins x1)
kept_enum_begins name = (kept_here _ _ (λ scope. (kept_becomes _ scope _ _ (grow_open name scope))))

kept_enum_ends : (x1 : CScope) (x2 : CSpecs) (x3 : Option (List ℕ)) (x4 : ℕ) (x5 : Bool) → Keeps CSpecs (c_enum_ends x1 x2 x3 x4 x5)
kept_enum_ends before specs name line negative = (kept_here _ _ (λ scope. (kept_changed _ scope _ _ _ _ (grow_closed name (length before.types.enums) negative scope))))

kept_enumerator_as : (x1 : CScope) (x2 : List ℕ) (x3 : ℕ) (x4 : Option COperand) (x5 : ℤ) → KeepsAt ℤ (c_enumerator_as x1 x2 x3 x4 x5) x1
kept_enumerator_as scope name line written value = (kept_changed _ scope _ _ _ _ (λ s0 kept. kept))

kept_enumerator_seen : (x1 : List ℕ) (x2 : ℕ) (x3 : ℤ) (x4 : Option COperand) → Keeps ℤ (c_enumerator_seen x1 x2 x3 x4)
kept_enumerator_seen name line next None = (kept_here _ _ (λ scope. (kept_enumerator_as scope name line None next)))
kept_enumerator_seen name line next (Some written) = (kept_here _ _ (λ scope. (kept_enumerator_as scope name line (Some written) (enumerator_value next (constant_of scope.types (value_of written))))))

kept_derives_seen : (x1 : ℕ) (x2 : CTy) (x3 : CShape) → Keeps CTy (c_derives_seen x1 x2 x3)
kept_derives_seen line from shape = (kept_here _ _ (λ scope. (kept_settled _ scope _ _ _)))

kept_member_seen : (x1 : Bool) (x2 : List CMember) (x3 : ℕ) (x4 : Option (List ℕ)) (x5 : CTy) (x6 : Option COperand) → Keeps CMember (c_member_seen x1 x2 x3 x4 x5 x6)
kept_member_seen is_last before line name type width = (kept_here _ _ (λ scope. (kept_settled _ scope _ _ _)))

kept_array_seen : (x1 : ℕ) (x2 : Bool) (x3 : Option COperand) → Keeps CStep (c_array_seen x1 x2 x3)
kept_array_seen line is_plain written = (kept_here _ _ (λ scope. (kept_settled _ scope _ _ _)))

kept_identifiers_seen : (x1 : ℕ) (x2 : List (List ℕ)) (x3 : CShape) → Keeps CShape (c_identifiers_seen x1 x2 x3)
kept_identifiers_seen line names shape = (kept_here _ _ (λ scope. (kept_settled _ scope _ _ _)))

kept_params_begin : Keeps CScope c_params_begin
kept_params_begin = (kept_here _ _ (λ scope. (kept_becomes _ scope _ _ (λ s0 kept. kept))))

kept_params_end : (x1 : CScope) (x2 : List CParam) (x3 : Bool) (x4 : CShape) → Keeps CShape (c_params_end x1 x2 x3 x4)
kept_params_end before params variadic shape = (kept_here _ _ (λ scope. (kept_becomes _ scope _ _ (λ s0 kept. kept))))

kept_param_seen : (x1 : Bool) (x2 : ℕ) (x3 : CSpecs) (x4 : Option (List ℕ)) (x5 : CTy) → Keeps (Option CParam) (c_param_seen x1 x2 x3 x4 x5)
kept_param_seen is_only line specs name type = (kept_here _ _ (λ scope. (kept_changed _ scope _ _ _ _ (grow_param (param_of scope specs name type) scope))))

kept_value_given_at : (x1 : ℕ) (x2 : CTarget) (x3 : CFilling) (x4 : COperand) (x5 : CScope) (x6 : Option CAt) → KeepsAt CFilling (c_value_given_at x1 x2 x3 x4 x5 x6) x5
kept_value_given_at line target filling value scope at = (kept_settled _ scope _ _ _)

kept_value_given : (x1 : ℕ) (x2 : CTarget) (x3 : Option CAt) (x4 : CFilling) (x5 : COperand) → Keeps CFilling (c_value_given x1 x2 x3 x4 x5)
kept_value_given line target at filling value = (kept_here _ _ (λ scope. (kept_value_given_at line target filling value scope (landed scope.types value at))))

kept_text_given_at : (x1 : ℕ) (x2 : CTarget) (x3 : CFilling) (x4 : List ℕ) (x5 : CScope) (x6 : Option CAt) → KeepsAt CFilling (c_text_given_at x1 x2 x3 x4 x5 x6) x5
kept_text_given_at line target filling bytes scope at = (kept_changed _ scope _ _ _ _ (λ s0 kept. kept))

kept_text_given : (x1 : ℕ) (x2 : CTarget) (x3 : Option CAt) (x4 : CFilling) (x5 : List (List ℕ)) → Keeps CFilling (c_text_given x1 x2 x3 x4 x5)
kept_text_given line target at filling parts = (kept_here _ _ (λ scope. (either_at _ scope (fills scope.types at) _ _ (kept_text_given_at line target filling (joined_bytes parts) scope (text_landed scope.types at)) (at_chain _ _ _ _ scope (kept_text_seen parts line scope) (λ value. (kept_value_given line target at filling value))))))

kept_whole_value : (x1 : ℕ) (x2 : CTarget) (x3 : COperand) (x4 : CScope) → KeepsAt CFilling (c_whole_value x1 x2 x3 x4) x4
kept_whole_value line target value scope = (kept_settled _ scope _ _ _)

kept_whole_given : (x1 : ℕ) (x2 : CTarget) (x3 : COperand) → Keeps CFilling (c_whole_given x1 x2 x3)
kept_whole_given line target value = (kept_here _ _ (λ scope. (kept_whole_value line target value scope)))

kept_whole_text_at : (x1 : ℕ) (x2 : CTarget) (x3 : List ℕ) (x4 : CScope) (x5 : Option CAt) → KeepsAt CFilling (c_whole_text_at x1 x2 x3 x4 x5) x4
kept_whole_text_at line target bytes scope at = (kept_changed _ scope _ _ _ _ (λ s0 kept. kept))

kept_whole_text : (x1 : ℕ) (x2 : CTarget) (x3 : List (List ℕ)) → Keeps CFilling (c_whole_text x1 x2 x3)
kept_whole_text line target parts = (kept_here _ _ (λ scope. (either_at _ scope (fills_whole target) _ _ (kept_whole_text_at line target (joined_bytes parts) scope (whole_at target)) (at_chain _ _ _ _ scope (kept_text_seen parts line scope) (λ value. (kept_whole_given line target value))))))

kept_list_begins : (x1 : CTarget) (x2 : EntryTrees) (x3 : List CStored) → Keeps CFilling (c_list_begins x1 x2 x3)
kept_list_begins target _ stored = (kept_here _ _ (λ scope. (kept_gives _ _ scope)))

kept_list_given : (x1 : CTarget) (x2 : Option CAt) (x3 : CFilling) (x4 : List CStored) → Keeps CFilling (c_list_given x1 x2 x3 x4)
kept_list_given target at filling stored = (kept_here _ _ (λ scope. (kept_gives _ _ scope)))

kept_element_as : (x1 : ℕ) (x2 : COperand) (x3 : CScope) (x4 : Option CAt) → KeepsAt (Option CAt) (c_element_as x1 x2 x3 x4) x3
kept_element_as line index scope at = (kept_settled _ scope _ _ _)

kept_element_seen : (x1 : ℕ) (x2 : Option CAt) (x3 : COperand) → Keeps (Option CAt) (c_element_seen x1 x2 x3)
kept_element_seen line at index = (kept_here _ _ (λ scope. (kept_element_as line index scope (element_at scope.types at (constant_of scope.types (value_of index))))))

kept_member_as : (x1 : ℕ) (x2 : CScope) (x3 : Option CAt) → KeepsAt (Option CAt) (c_member_as x1 x2 x3) x2
kept_member_as line scope at = (kept_settled _ scope _ _ _)

kept_member_designated : (x1 : ℕ) (x2 : Option CAt) (x3 : List ℕ) → Keeps (Option CAt) (c_member_designated x1 x2 x3)
kept_member_designated line at name = (kept_here _ _ (λ scope. (kept_member_as line scope (member_at scope.types at name))))

-- ---- forms that look back at the scope before their parts

call_ends : (line : ℕ) (by_name : Bool) (callee : COperand) (args : List COperand) (before middle : CScope) → Prefix before middle →
    (value : COperand) (after : CScope) → c_call_seen line by_name (length before.mentions) callee args middle ≡ fine value after → Prefix before after
unfolding check_chain check_here
call_ends line by_name callee args before middle kept value after e =
    subst (λ one. Prefix before one) (changed_to _ middle _ _ _ _ value after e) (grow_called by_name _ before middle kept)

expr_walk_7 : (of : ExprTree) (args : ExprTrees) (lines : List ℕ) (h1 : Keeps COperand (c_expr_walk of)) (h2 : Keeps (List COperand) (c_exprs_walk args)) → Keeps COperand (c_expr_walk (Call of args lines))
unfolding check_chain check_here
expr_walk_7 of args lines h1 h2 scope = from_itself _ (c_expr_walk (Call of args lines)) scope
    (behind_keeps (c_expr_walk of scope) _ scope (λ callee one e. behind_keeps (c_exprs_walk args one) _ scope (λ given two f.
    call_ends (expr_line of) (calls_by_name of callee) callee given scope two (h2 one scope (h1 scope scope (prefix_same scope) callee one e) given two f))))

sizeof_ends : (line : ℕ) (of : COperand) (before middle : CScope) (value : COperand) (after : CScope) → c_sizeof_seen line before of middle ≡ fine value after → Prefix before after
unfolding check_chain check_here
sizeof_ends line of before middle value after e =
    subst (λ one. Prefix before one) (changed_to _ middle _ _ _ _ value after e) (prefix_same before)

expr_walk_16 : (on : ExprTree) (lines : List ℕ) (h1 : Keeps COperand (c_expr_walk on)) → Keeps COperand (c_expr_walk (SizeofExpr on lines))
unfolding check_chain check_here
expr_walk_16 on lines h1 scope = from_itself _ (c_expr_walk (SizeofExpr on lines)) scope
    (behind_keeps (c_expr_walk on scope) _ scope (λ one middle e. sizeof_ends (own_line lines) one scope middle))

literal_ends_kept : (line : ℕ) (type : CTy) (stored : List CStored) (before middle : CScope) → Prefix before middle →
    (value : COperand) (after : CScope) → c_literal_ends before line type stored middle ≡ fine value after → Prefix before after
unfolding check_chain check_here
literal_ends_kept line type stored before middle kept value after e =
    subst (λ one. Prefix before one) (changed_to _ middle _ _ _ _ value after e)
    (take-set-le (length before.literals) middle.literals (length before.literals) _ (omega arith) ∙ kept.0, kept.1)

literal_begun : (type : CTy) (scope : CScope) → Prefix scope (with_literal type scope)
literal_begun type scope = (prefix_more scope.literals scope.literals _ (take-length scope.literals), take-length scope.mentions)

literal_kept : (list : InitialiserListTree) (lines : List ℕ) (h2 : (y1 : CTarget) (y2 : List CStored) → Keeps (List CStored) (c_list_walk y1 y2 list)) (type : CTy) →
    Keeps COperand (check_chain CScope COperand (c_literal_begins type) (λ before. check_chain (List CStored) COperand (c_list_walk (object_of_type (not before.in_function) type) [] list) (λ stored. c_literal_ends before (own_line lines) type stored)))
unfolding check_chain check_here check_becomes check_gives
literal_kept list lines h2 type scope = from_itself _ (check_chain CScope COperand (c_literal_begins type) (λ before. check_chain (List CStored) COperand (c_list_walk (object_of_type (not before.in_function) type) [] list) (λ stored. c_literal_ends before (own_line lines) type stored))) scope
    (behind_keeps (c_list_walk (object_of_type (not scope.in_function) type) [] list (with_literal type scope)) _ scope (λ stored middle e.
    literal_ends_kept (own_line lines) type stored scope middle (h2 _ _ (with_literal type scope) scope (literal_begun type scope) stored middle e)))

expr_walk_12 : (of : TypeNameTree) (list : InitialiserListTree) (lines : List ℕ) (h1 : Keeps CTy (c_type_name_walk of)) (h2 : (y1 : CTarget) (y2 : List CStored) → Keeps (List CStored) (c_list_walk y1 y2 list)) → Keeps COperand (c_expr_walk (Literal of list lines))
expr_walk_12 of list lines h1 h2 = kept_chain _ _ _ _ h1 (λ type. literal_kept list lines h2 type)

expr_walk_1 : (name : List ℕ) (lines : List ℕ) → Keeps COperand (c_expr_walk (Name name lines))
expr_walk_1 name lines = (kept_name_seen name (own_line lines))

expr_walk_2 : (value : ℕ) (type : Ty0) (lines : List ℕ) → Keeps COperand (c_expr_walk (Number value type lines))
expr_walk_2 value type lines = (kept_number_seen value type (own_line lines))

expr_walk_3 : (value : ℤ) (lines : List ℕ) → Keeps COperand (c_expr_walk (Letter value lines))
expr_walk_3 value lines = (kept_letter_seen value (own_line lines))

expr_walk_4 : (parts : List (List ℕ)) (lines : List ℕ) → Keeps COperand (c_expr_walk (Text parts lines))
expr_walk_4 parts lines = (kept_text_seen parts (own_line lines))

expr_walk_5 : (inner : ExprTree) (lines : List ℕ) (h1 : Keeps COperand (c_expr_walk inner)) → Keeps COperand (c_expr_walk (Paren inner lines))
expr_walk_5 inner lines h1 = h1

expr_walk_6 : (of : ExprTree) (index : ExprTree) (lines : List ℕ) (h1 : Keeps COperand (c_expr_walk of)) (h2 : Keeps COperand (c_expr_walk index)) → Keeps COperand (c_expr_walk (Index of index lines))
expr_walk_6 of index lines h1 h2 = (kept_chain _ _ _ _ h1 (λ one. (kept_chain _ _ _ _ h2 (λ other. (kept_index_seen (expr_line of) one other)))))

expr_walk_8 : (of : ExprTree) (name : List ℕ) (lines : List ℕ) (h1 : Keeps COperand (c_expr_walk of)) → Keeps COperand (c_expr_walk (Dot of name lines))
expr_walk_8 of name lines h1 = (kept_chain _ _ _ _ h1 (λ one. (kept_dot_seen (expr_line of) one name)))

expr_walk_9 : (of : ExprTree) (name : List ℕ) (lines : List ℕ) (h1 : Keeps COperand (c_expr_walk of)) → Keeps COperand (c_expr_walk (Arrow of name lines))
expr_walk_9 of name lines h1 = (kept_chain _ _ _ _ h1 (λ one. (kept_arrow_seen (expr_line of) one name)))

expr_walk_10 : (of : ExprTree) (lines : List ℕ) (h1 : Keeps COperand (c_expr_walk of)) → Keeps COperand (c_expr_walk (PostUp of lines))
expr_walk_10 of lines h1 = (kept_chain _ _ _ _ h1 (λ one. (kept_step_seen (expr_line of) true true one)))

expr_walk_11 : (of : ExprTree) (lines : List ℕ) (h1 : Keeps COperand (c_expr_walk of)) → Keeps COperand (c_expr_walk (PostDown of lines))
expr_walk_11 of lines h1 = (kept_chain _ _ _ _ h1 (λ one. (kept_step_seen (expr_line of) false true one)))

expr_walk_13 : (on : ExprTree) (lines : List ℕ) (h1 : Keeps COperand (c_expr_walk on)) → Keeps COperand (c_expr_walk (PreUp on lines))
expr_walk_13 on lines h1 = (kept_chain _ _ _ _ h1 (λ one. (kept_step_seen (own_line lines) true false one)))

expr_walk_14 : (on : ExprTree) (lines : List ℕ) (h1 : Keeps COperand (c_expr_walk on)) → Keeps COperand (c_expr_walk (PreDown on lines))
expr_walk_14 on lines h1 = (kept_chain _ _ _ _ h1 (λ one. (kept_step_seen (own_line lines) false false one)))

expr_walk_15 : (op : Punct) (on : ExprTree) (lines : List ℕ) (h1 : Keeps COperand (c_expr_walk on)) → Keeps COperand (c_expr_walk (Unary op on lines))
expr_walk_15 op on lines h1 = (kept_chain _ _ _ _ h1 (λ one. (kept_unary_seen (own_line lines) (unary_of op) one)))

expr_walk_17 : (of : TypeNameTree) (lines : List ℕ) (h1 : Keeps CTy (c_type_name_walk of)) → Keeps COperand (c_expr_walk (SizeofType of lines))
expr_walk_17 of lines h1 = (kept_chain _ _ _ _ h1 (λ type. (kept_sizeof_type_seen (own_line lines) type)))

expr_walk_18 : (to : TypeNameTree) (on : ExprTree) (lines : List ℕ) (h1 : Keeps CTy (c_type_name_walk to)) (h2 : Keeps COperand (c_expr_walk on)) → Keeps COperand (c_expr_walk (Cast to on lines))
expr_walk_18 to on lines h1 h2 = (kept_chain _ _ _ _ h1 (λ type. (kept_chain _ _ _ _ h2 (λ one. (kept_cast_seen (own_line lines) type one)))))

expr_walk_19 : (left : ExprTree) (op : Punct) (right : ExprTree) (lines : List ℕ) (h1 : Keeps COperand (c_expr_walk left)) (h2 : Keeps COperand (c_expr_walk right)) → Keeps COperand (c_expr_walk (Binary left op right lines))
expr_walk_19 left op right lines h1 h2 = (kept_chain _ _ _ _ h1 (λ one. (kept_chain _ _ _ _ h2 (λ other. (kept_binary_seen (expr_line left) (binary_of op) one other)))))

expr_walk_20 : (condition : ExprTree) (if_true : ExprTree) (if_false : ExprTree) (lines : List ℕ) (h1 : Keeps COperand (c_expr_walk condition)) (h2 : Keeps COperand (c_expr_walk if_true)) (h3 : Keeps COperand (c_expr_walk if_false)) → Keeps COperand (c_expr_walk (Cond condition if_true if_false lines))
expr_walk_20 condition if_true if_false lines h1 h2 h3 = (kept_chain _ _ _ _ h1 (λ test. (kept_chain _ _ _ _ h2 (λ first. (kept_chain _ _ _ _ h3 (λ second. (kept_cond_seen (expr_line condition) test first second)))))))

expr_walk_21 : (left : ExprTree) (op : Punct) (right : ExprTree) (lines : List ℕ) (h1 : Keeps COperand (c_expr_walk left)) (h2 : Keeps COperand (c_expr_walk right)) → Keeps COperand (c_expr_walk (Assign left op right lines))
expr_walk_21 left op right lines h1 h2 = (kept_chain _ _ _ _ h1 (λ one. (kept_chain _ _ _ _ h2 (λ other. (kept_assign_seen (expr_line left) (assignment_of op) one other)))))

expr_walk_22 : (left : ExprTree) (right : ExprTree) (lines : List ℕ) (h1 : Keeps COperand (c_expr_walk left)) (h2 : Keeps COperand (c_expr_walk right)) → Keeps COperand (c_expr_walk (Comma left right lines))
expr_walk_22 left right lines h1 h2 = (kept_chain _ _ _ _ h1 (λ one. (kept_chain _ _ _ _ h2 (λ other. (kept_comma_seen (expr_line left) one other)))))

exprs_walk_1 : Keeps (List COperand) (c_exprs_walk no_exprs)
exprs_walk_1 = (kept_given _ _)

exprs_walk_2 : (first : ExprTree) (others : ExprTrees) (h1 : Keeps COperand (c_expr_walk first)) (h2 : Keeps (List COperand) (c_exprs_walk others)) → Keeps (List COperand) (c_exprs_walk (more_exprs first others))
exprs_walk_2 first others h1 h2 = (kept_chain _ _ _ _ h1 (λ one. (kept_chain _ _ _ _ h2 (λ more. (kept_given _ _)))))

option_walk_1 : Keeps (Option COperand) (c_option_walk no_expr)
option_walk_1 = (kept_given _ _)

option_walk_2 : (one : ExprTree) (h1 : Keeps COperand (c_expr_walk one)) → Keeps (Option COperand) (c_option_walk (some_expr one))
option_walk_2 one h1 = (kept_chain _ _ _ _ h1 (λ operand. (kept_given _ _)))

type_name_walk_1 : (specs : SpecTrees) (declarator : DeclaratorTree) (lines : List ℕ) (h1 : (y1 : Bool) (y2 : CSpecs) → Keeps CSpecs (c_specs_walk y1 y2 specs)) (h2 : Keeps CShape (c_declarator_walk declarator)) → Keeps CTy (c_type_name_walk (TypeName specs declarator lines))
type_name_walk_1 specs declarator lines h1 h2 = (kept_chain _ _ _ _ (h1 false no_specs_yet) (λ all. (kept_chain _ _ _ _ (kept_specs_seen Plain (specs_line specs) all) (λ _. (kept_chain _ _ _ _ h2 (λ shape. (kept_derives_seen (declarator_line (specs_line specs) declarator) (base_type all) shape)))))))

spec_walk_1 : (alone : Bool) (specs : CSpecs) (word : Keyword) (lines : List ℕ) → Keeps CSpecs (c_spec_walk alone specs (Key word lines))
spec_walk_1 alone specs word lines = (kept_given _ _)

spec_walk_2 : (alone : Bool) (specs : CSpecs) (name : List ℕ) (lines : List ℕ) → Keeps CSpecs (c_spec_walk alone specs (Typedef name lines))
spec_walk_2 alone specs name lines = (kept_typedef_seen specs name)

spec_walk_3 : (alone : Bool) (specs : CSpecs) (is_union : Bool) (name : Option (List ℕ)) (lines : List ℕ) → Keeps CSpecs (c_spec_walk alone specs (Record is_union name no_members lines))
spec_walk_3 alone specs is_union name lines = (kept_record_use_seen alone specs is_union name (own_line lines))

spec_walk_4 : (alone : Bool) (specs : CSpecs) (is_union : Bool) (name : Option (List ℕ)) (list : MemberDeclTrees) (lines : List ℕ) (h1 : (y1 : List CMember) → Keeps (List CMember) (c_member_decls_walk y1 list)) → Keeps CSpecs (c_spec_walk alone specs (Record is_union name (some_members list) lines))
spec_walk_4 alone specs is_union name list lines h1 = (kept_chain _ _ _ _ (kept_record_begins is_union name) (λ before. (kept_chain _ _ _ _ (h1 []) (λ members. (kept_record_ends before specs is_union name (own_line lines) members)))))

spec_walk_5 : (alone : Bool) (specs : CSpecs) (name : Option (List ℕ)) (last_comma : Bool) (lines : List ℕ) → Keeps CSpecs (c_spec_walk alone specs (Enum name no_enumerator_list last_comma lines))
spec_walk_5 alone specs name last_comma lines = (kept_enum_use_seen specs name (own_line lines))

spec_walk_6 : (alone : Bool) (specs : CSpecs) (name : Option (List ℕ)) (list : EnumeratorTrees) (last_comma : Bool) (lines : List ℕ) (h1 : (y1 : ℤ) (y2 : Bool) → Keeps Bool (c_enumerators_walk y1 y2 list)) → Keeps CSpecs (c_spec_walk alone specs (Enum name (some_enumerator_list list) last_comma lines))
spec_walk_6 alone specs name list last_comma lines h1 = (kept_chain _ _ _ _ (kept_enum_begins name) (λ before. (kept_chain _ _ _ _ (h1 (pos 0) false) (λ negative. (kept_enum_ends before specs name (own_line lines) negative)))))

specs_walk_1 : (alone : Bool) (specs : CSpecs) → Keeps CSpecs (c_specs_walk alone specs no_specs)
specs_walk_1 alone specs = (kept_given _ _)

specs_walk_2 : (alone : Bool) (specs : CSpecs) (first : SpecTree) (others : SpecTrees) (h1 : (y1 : Bool) (y2 : CSpecs) → Keeps CSpecs (c_spec_walk y1 y2 first)) (h2 : (y1 : Bool) (y2 : CSpecs) → Keeps CSpecs (c_specs_walk y1 y2 others)) → Keeps CSpecs (c_specs_walk alone specs (more_specs first others))
specs_walk_2 alone specs first others h1 h2 = (kept_chain _ _ _ _ (h1 alone specs) (λ more. (h2 alone more)))

member_decls_walk_1 : (before : List CMember) → Keeps (List CMember) (c_member_decls_walk before no_member_decls)
member_decls_walk_1 before = (kept_given _ _)

member_decls_walk_2 : (before : List CMember) (first : MemberDeclTree) (others : MemberDeclTrees) (h1 : (y1 : Bool) (y2 : List CMember) → Keeps (List CMember) (c_member_decl_walk y1 y2 first)) (h2 : (y1 : List CMember) → Keeps (List CMember) (c_member_decls_walk y1 others)) → Keeps (List CMember) (c_member_decls_walk before (more_member_decls first others))
member_decls_walk_2 before first others h1 h2 = (kept_chain _ _ _ _ (h1 (no_more_decls others) before) (λ more. (h2 more)))

member_decl_walk_1 : (is_last : Bool) (before : List CMember) (specs : SpecTrees) (list : MemberDeclaratorTrees) (lines : List ℕ) (h1 : (y1 : Bool) (y2 : CSpecs) → Keeps CSpecs (c_specs_walk y1 y2 specs)) (h2 : (y1 : Bool) (y2 : List CMember) (y3 : CTy) → Keeps (List CMember) (c_member_declarators_walk y1 y2 y3 list)) → Keeps (List CMember) (c_member_decl_walk is_last before (MemberDecl specs list lines))
member_decl_walk_1 is_last before specs list lines h1 h2 = (kept_chain _ _ _ _ (h1 false no_specs_yet) (λ all. (kept_chain _ _ _ _ (kept_specs_seen Plain (specs_line specs) all) (λ _. (h2 is_last before (base_type all))))))

member_declarators_walk_1 : (is_last : Bool) (before : List CMember) (type : CTy) → Keeps (List CMember) (c_member_declarators_walk is_last before type no_member_declarators)
member_declarators_walk_1 is_last before type = (kept_given _ _)

member_declarators_walk_2 : (is_last : Bool) (before : List CMember) (type : CTy) (first : MemberDeclaratorTree) (others : MemberDeclaratorTrees) (h1 : (y1 : Bool) (y2 : List CMember) (y3 : CTy) → Keeps CMember (c_member_declarator_walk y1 y2 y3 first)) (h2 : (y1 : Bool) (y2 : List CMember) (y3 : CTy) → Keeps (List CMember) (c_member_declarators_walk y1 y2 y3 others)) → Keeps (List CMember) (c_member_declarators_walk is_last before type (more_member_declarators first others))
member_declarators_walk_2 is_last before type first others h1 h2 = (kept_chain _ _ _ _ (h1 (is_last && no_more_declarators others) before type) (λ one. (h2 is_last (before ++ one ∷ []) type)))

member_declarator_walk_1 : (is_last : Bool) (before : List CMember) (type : CTy) (declarator : DeclaratorTree) (width : OptionExprTree) (lines : List ℕ) (h1 : Keeps CShape (c_declarator_walk declarator)) (h2 : Keeps (Option COperand) (c_option_walk width)) → Keeps CMember (c_member_declarator_walk is_last before type (MemberDeclarator declarator width lines))
member_declarator_walk_1 is_last before type declarator width lines h1 h2 = (kept_chain _ _ _ _ h1 (λ shape. (kept_chain _ _ _ _ (kept_derives_seen (declarator_line (own_line lines) declarator) type shape) (λ own. (kept_chain _ _ _ _ h2 (λ written. (kept_member_seen is_last before (declarator_line (own_line lines) declarator) shape.name own written)))))))

enumerators_walk_1 : (next : ℤ) (negative : Bool) → Keeps Bool (c_enumerators_walk next negative no_enumerators)
enumerators_walk_1 next negative = (kept_given _ _)

enumerators_walk_2 : (next : ℤ) (negative : Bool) (first : EnumeratorTree) (others : EnumeratorTrees) (h1 : (y1 : ℤ) → Keeps ℤ (c_enumerator_walk y1 first)) (h2 : (y1 : ℤ) (y2 : Bool) → Keeps Bool (c_enumerators_walk y1 y2 others)) → Keeps Bool (c_enumerators_walk next negative (more_enumerators first others))
enumerators_walk_2 next negative first others h1 h2 = (kept_chain _ _ _ _ (h1 next) (λ value. (h2 (value +ℤ pos 1) (or_negative negative value))))

enumerator_walk_1 : (next : ℤ) (name : List ℕ) (value : OptionExprTree) (lines : List ℕ) (h1 : Keeps (Option COperand) (c_option_walk value)) → Keeps ℤ (c_enumerator_walk next (Enumerator name value lines))
enumerator_walk_1 next name value lines h1 = (kept_chain _ _ _ _ h1 (λ written. (kept_enumerator_seen name (own_line lines) next written)))

declarator_walk_1 : Keeps CShape (c_declarator_walk Missing)
declarator_walk_1 = (kept_given _ _)

declarator_walk_2 : (name : List ℕ) (lines : List ℕ) → Keeps CShape (c_declarator_walk (Identifier name lines))
declarator_walk_2 name lines = (kept_given _ _)

declarator_walk_3 : (inner : DeclaratorTree) (lines : List ℕ) (h1 : Keeps CShape (c_declarator_walk inner)) → Keeps CShape (c_declarator_walk (Group inner lines))
declarator_walk_3 inner lines h1 = h1

declarator_walk_4 : (qualifiers : List Keyword) (of : DeclaratorTree) (lines : List ℕ) (h1 : Keeps CShape (c_declarator_walk of)) → Keeps CShape (c_declarator_walk (Pointer qualifiers of lines))
declarator_walk_4 qualifiers of lines h1 = (kept_chain _ _ _ _ h1 (λ shape. (kept_given _ _)))

declarator_walk_5 : (of : DeclaratorTree) (brackets : BracketsTree) (lines : List ℕ) (h1 : Keeps CShape (c_declarator_walk of)) (h2 : (y1 : ℕ) → Keeps CStep (c_brackets_walk y1 brackets)) → Keeps CShape (c_declarator_walk (Array of brackets lines))
declarator_walk_5 of brackets lines h1 h2 = (kept_chain _ _ _ _ h1 (λ shape. (kept_chain _ _ _ _ (h2 (declarator_line (own_line lines) of)) (λ step. (kept_given _ _)))))

declarator_walk_6 : (of : DeclaratorTree) (params : ParamTrees) (variadic : Bool) (lines : List ℕ) (h1 : Keeps CShape (c_declarator_walk of)) (h2 : (y1 : Bool) → Keeps (List CParam) (c_params_walk y1 params)) → Keeps CShape (c_declarator_walk (Function of params variadic lines))
declarator_walk_6 of params variadic lines h1 h2 = (kept_chain _ _ _ _ h1 (λ shape. (kept_chain _ _ _ _ kept_params_begin (λ before. (kept_chain _ _ _ _ (h2 (is_single params variadic)) (λ list. (kept_params_end before list variadic shape)))))))

declarator_walk_7 : (of : DeclaratorTree) (names : List (List ℕ)) (lines : List ℕ) (h1 : Keeps CShape (c_declarator_walk of)) → Keeps CShape (c_declarator_walk (Identifiers of names lines))
declarator_walk_7 of names lines h1 = (kept_chain _ _ _ _ h1 (λ shape. (kept_identifiers_seen (declarator_line (own_line lines) of) names shape)))

brackets_walk_1 : (line : ℕ) (qualifiers : List Keyword) → Keeps CStep (c_brackets_walk line (Unsized qualifiers))
brackets_walk_1 line qualifiers = (kept_array_seen line (is_none_of qualifiers) None)

brackets_walk_2 : (line : ℕ) (qualifiers : List Keyword) (size : ExprTree) (h1 : Keeps COperand (c_expr_walk size)) → Keeps CStep (c_brackets_walk line (Length qualifiers size))
brackets_walk_2 line qualifiers size h1 = (kept_chain _ _ _ _ h1 (λ written. (kept_array_seen line (is_none_of qualifiers) (Some written))))

brackets_walk_3 : (line : ℕ) (qualifiers : List Keyword) (size : ExprTree) (h1 : Keeps COperand (c_expr_walk size)) → Keeps CStep (c_brackets_walk line (StaticFirst qualifiers size))
brackets_walk_3 line qualifiers size h1 = (kept_chain _ _ _ _ h1 (λ written. (kept_array_seen line false (Some written))))

brackets_walk_4 : (line : ℕ) (qualifiers : List Keyword) (size : ExprTree) (h1 : Keeps COperand (c_expr_walk size)) → Keeps CStep (c_brackets_walk line (StaticLast qualifiers size))
brackets_walk_4 line qualifiers size h1 = (kept_chain _ _ _ _ h1 (λ written. (kept_array_seen line false (Some written))))

brackets_walk_5 : (line : ℕ) (qualifiers : List Keyword) → Keeps CStep (c_brackets_walk line (Star qualifiers))
brackets_walk_5 line qualifiers = (kept_array_seen line false None)

params_walk_1 : (is_only : Bool) → Keeps (List CParam) (c_params_walk is_only no_params)
params_walk_1 is_only = (kept_given _ _)

params_walk_2 : (is_only : Bool) (first : ParamTree) (others : ParamTrees) (h1 : (y1 : Bool) → Keeps (Option CParam) (c_param_walk y1 first)) (h2 : (y1 : Bool) → Keeps (List CParam) (c_params_walk y1 others)) → Keeps (List CParam) (c_params_walk is_only (more_params first others))
params_walk_2 is_only first others h1 h2 = (kept_chain _ _ _ _ (h1 is_only) (λ one. (kept_chain _ _ _ _ (h2 false) (λ more. (kept_given _ _)))))

param_walk_1 : (is_only : Bool) (specs : SpecTrees) (declarator : DeclaratorTree) (lines : List ℕ) (h1 : (y1 : Bool) (y2 : CSpecs) → Keeps CSpecs (c_specs_walk y1 y2 specs)) (h2 : Keeps CShape (c_declarator_walk declarator)) → Keeps (Option CParam) (c_param_walk is_only (Param specs declarator lines))
param_walk_1 is_only specs declarator lines h1 h2 = (kept_chain _ _ _ _ (h1 false no_specs_yet) (λ all. (kept_chain _ _ _ _ (kept_specs_seen Parameter (specs_line specs) all) (λ _. (kept_chain _ _ _ _ h2 (λ shape. (kept_chain _ _ _ _ (kept_derives_seen (declarator_line (specs_line specs) declarator) (base_type all) shape) (λ type. (kept_param_seen is_only (specs_line specs) all shape.name type)))))))))

initialiser_walk_1 : (target : CTarget) (value : ExprTree) (h1 : Keeps COperand (c_expr_walk value)) → Keeps (List CStored) (c_initialiser_walk target (Single value))
initialiser_walk_1 target value h1 = (kept_either _ (is_text value) _ _ (kept_chain _ _ _ _ (kept_whole_text (expr_line value) target (text_parts value)) (λ filling. (kept_given _ _))) (kept_chain _ _ _ _ h1 (λ one. (kept_chain _ _ _ _ (kept_whole_given (expr_line value) target one) (λ filling. (kept_given _ _))))))

initialiser_walk_2 : (target : CTarget) (list : InitialiserListTree) (h1 : (y1 : CTarget) (y2 : List CStored) → Keeps (List CStored) (c_list_walk y1 y2 list)) → Keeps (List CStored) (c_initialiser_walk target (Braced list))
initialiser_walk_2 target list h1 = (h1 target [])

list_walk_1 : (target : CTarget) (stored : List CStored) (entries : EntryTrees) (last_comma : Bool) (lines : List ℕ) (h1 : (y1 : CTarget) (y2 : CFilling) → Keeps (List CStored) (c_entries_walk y1 y2 entries)) → Keeps (List CStored) (c_list_walk target stored (InitialiserList entries last_comma lines))
list_walk_1 target stored entries last_comma lines h1 = (kept_chain _ _ _ _ (kept_list_begins target entries stored) (λ filling. (h1 target filling)))

entries_walk_1 : (target : CTarget) (filling : CFilling) → Keeps (List CStored) (c_entries_walk target filling no_entries)
entries_walk_1 target filling = (kept_given _ _)

entries_walk_2 : (target : CTarget) (filling : CFilling) (first : EntryTree) (others : EntryTrees) (h1 : (y1 : CTarget) (y2 : CFilling) → Keeps CFilling (c_entry_walk y1 y2 first)) (h2 : (y1 : CTarget) (y2 : CFilling) → Keeps (List CStored) (c_entries_walk y1 y2 others)) → Keeps (List CStored) (c_entries_walk target filling (more_entries first others))
entries_walk_2 target filling first others h1 h2 = (kept_chain _ _ _ _ (h1 target filling) (λ more. (h2 target more)))

entry_walk_1 : (target : CTarget) (filling : CFilling) (init : InitialiserTree) (lines : List ℕ) (h1 : (y1 : CTarget) (y2 : Option CAt) (y3 : CFilling) → Keeps CFilling (c_given_walk y1 y2 y3 init)) → Keeps CFilling (c_entry_walk target filling (Entry no_designators init lines))
entry_walk_1 target filling init lines h1 = (h1 target filling.next filling)

entry_walk_2 : (target : CTarget) (filling : CFilling) (first : DesignatorTree) (others : DesignatorTrees) (init : InitialiserTree) (lines : List ℕ) (h1 : (y1 : Option CAt) → Keeps (Option CAt) (c_designator_walk y1 first)) (h2 : (y1 : Option CAt) → Keeps (Option CAt) (c_designators_walk y1 others)) (h3 : (y1 : CTarget) (y2 : Option CAt) (y3 : CFilling) → Keeps CFilling (c_given_walk y1 y2 y3 init)) → Keeps CFilling (c_entry_walk target filling (Entry (more_designators first others) init lines))
entry_walk_2 target filling first others init lines h1 h2 h3 = (kept_chain _ _ _ _ (h1 (designated_from target)) (λ at. (kept_chain _ _ _ _ (h2 at) (λ last. (h3 target last filling)))))

designators_walk_1 : (at : Option CAt) → Keeps (Option CAt) (c_designators_walk at no_designators)
designators_walk_1 at = (kept_given _ _)

designators_walk_2 : (at : Option CAt) (first : DesignatorTree) (others : DesignatorTrees) (h1 : (y1 : Option CAt) → Keeps (Option CAt) (c_designator_walk y1 first)) (h2 : (y1 : Option CAt) → Keeps (Option CAt) (c_designators_walk y1 others)) → Keeps (Option CAt) (c_designators_walk at (more_designators first others))
designators_walk_2 at first others h1 h2 = (kept_chain _ _ _ _ (h1 at) (λ next. (h2 next)))

designator_walk_1 : (at : Option CAt) (index : ExprTree) (lines : List ℕ) (h1 : Keeps COperand (c_expr_walk index)) → Keeps (Option CAt) (c_designator_walk at (Element index lines))
designator_walk_1 at index lines h1 = (kept_chain _ _ _ _ h1 (λ one. (kept_element_seen (own_line lines) at one)))

designator_walk_2 : (at : Option CAt) (name : List ℕ) (lines : List ℕ) → Keeps (Option CAt) (c_designator_walk at (Member name lines))
designator_walk_2 at name lines = (kept_member_designated (own_line lines) at name)

given_walk_1 : (target : CTarget) (at : Option CAt) (filling : CFilling) (value : ExprTree) (h1 : Keeps COperand (c_expr_walk value)) → Keeps CFilling (c_given_walk target at filling (Single value))
given_walk_1 target at filling value h1 = (kept_either _ (is_text value) _ _ (kept_text_given (expr_line value) target at filling (text_parts value)) (kept_chain _ _ _ _ h1 (λ one. (kept_value_given (expr_line value) target at filling one))))

given_walk_2 : (target : CTarget) (at : Option CAt) (filling : CFilling) (list : InitialiserListTree) (h1 : (y1 : CTarget) (y2 : List CStored) → Keeps (List CStored) (c_list_walk y1 y2 list)) → Keeps CFilling (c_given_walk target at filling (Braced list))
given_walk_2 target at filling list h1 = (kept_chain _ _ _ _ (h1 (target_at target at) filling.stored) (λ stored. (kept_list_given target at filling stored)))

mutual
  pub kept_expr_walk : (x1 : ExprTree) → Keeps COperand (c_expr_walk x1)
  kept_expr_walk (Name name lines) = expr_walk_1 name lines
  kept_expr_walk (Number value type lines) = expr_walk_2 value type lines
  kept_expr_walk (Letter value lines) = expr_walk_3 value lines
  kept_expr_walk (Text parts lines) = expr_walk_4 parts lines
  kept_expr_walk (Paren inner lines) = expr_walk_5 inner lines (kept_expr_walk inner)
  kept_expr_walk (Index of index lines) = expr_walk_6 of index lines (kept_expr_walk of) (kept_expr_walk index)
  kept_expr_walk (Call of args lines) = expr_walk_7 of args lines (kept_expr_walk of) (kept_exprs_walk args)
  kept_expr_walk (Dot of name lines) = expr_walk_8 of name lines (kept_expr_walk of)
  kept_expr_walk (Arrow of name lines) = expr_walk_9 of name lines (kept_expr_walk of)
  kept_expr_walk (PostUp of lines) = expr_walk_10 of lines (kept_expr_walk of)
  kept_expr_walk (PostDown of lines) = expr_walk_11 of lines (kept_expr_walk of)
  kept_expr_walk (Literal of list lines) = expr_walk_12 of list lines (kept_type_name_walk of) (λ y1 y2. kept_list_walk y1 y2 list)
  kept_expr_walk (PreUp on lines) = expr_walk_13 on lines (kept_expr_walk on)
  kept_expr_walk (PreDown on lines) = expr_walk_14 on lines (kept_expr_walk on)
  kept_expr_walk (Unary op on lines) = expr_walk_15 op on lines (kept_expr_walk on)
  kept_expr_walk (SizeofExpr on lines) = expr_walk_16 on lines (kept_expr_walk on)
  kept_expr_walk (SizeofType of lines) = expr_walk_17 of lines (kept_type_name_walk of)
  kept_expr_walk (Cast to on lines) = expr_walk_18 to on lines (kept_type_name_walk to) (kept_expr_walk on)
  kept_expr_walk (Binary left op right lines) = expr_walk_19 left op right lines (kept_expr_walk left) (kept_expr_walk right)
  kept_expr_walk (Cond condition if_true if_false lines) = expr_walk_20 condition if_true if_false lines (kept_expr_walk condition) (kept_expr_walk if_true) (kept_expr_walk if_false)
  kept_expr_walk (Assign left op right lines) = expr_walk_21 left op right lines (kept_expr_walk left) (kept_expr_walk right)
  kept_expr_walk (Comma left right lines) = expr_walk_22 left right lines (kept_expr_walk left) (kept_expr_walk right)

  kept_exprs_walk : (x1 : ExprTrees) → Keeps (List COperand) (c_exprs_walk x1)
  kept_exprs_walk no_exprs = exprs_walk_1
  kept_exprs_walk (more_exprs first others) = exprs_walk_2 first others (kept_expr_walk first) (kept_exprs_walk others)

  kept_option_walk : (x1 : OptionExprTree) → Keeps (Option COperand) (c_option_walk x1)
  kept_option_walk no_expr = option_walk_1
  kept_option_walk (some_expr one) = option_walk_2 one (kept_expr_walk one)

  kept_type_name_walk : (x1 : TypeNameTree) → Keeps CTy (c_type_name_walk x1)
  kept_type_name_walk (TypeName specs declarator lines) = type_name_walk_1 specs declarator lines (λ y1 y2. kept_specs_walk y1 y2 specs) (kept_declarator_walk declarator)

  kept_spec_walk : (x1 : Bool) (x2 : CSpecs) (x3 : SpecTree) → Keeps CSpecs (c_spec_walk x1 x2 x3)
  kept_spec_walk alone specs (Key word lines) = spec_walk_1 alone specs word lines
  kept_spec_walk alone specs (Typedef name lines) = spec_walk_2 alone specs name lines
  kept_spec_walk alone specs (Record is_union name no_members lines) = spec_walk_3 alone specs is_union name lines
  kept_spec_walk alone specs (Record is_union name (some_members list) lines) = spec_walk_4 alone specs is_union name list lines (λ y1. kept_member_decls_walk y1 list)
  kept_spec_walk alone specs (Enum name no_enumerator_list last_comma lines) = spec_walk_5 alone specs name last_comma lines
  kept_spec_walk alone specs (Enum name (some_enumerator_list list) last_comma lines) = spec_walk_6 alone specs name list last_comma lines (λ y1 y2. kept_enumerators_walk y1 y2 list)

  kept_specs_walk : (x1 : Bool) (x2 : CSpecs) (x3 : SpecTrees) → Keeps CSpecs (c_specs_walk x1 x2 x3)
  kept_specs_walk alone specs no_specs = specs_walk_1 alone specs
  kept_specs_walk alone specs (more_specs first others) = specs_walk_2 alone specs first others (λ y1 y2. kept_spec_walk y1 y2 first) (λ y1 y2. kept_specs_walk y1 y2 others)

  kept_member_decls_walk : (x1 : List CMember) (x2 : MemberDeclTrees) → Keeps (List CMember) (c_member_decls_walk x1 x2)
  kept_member_decls_walk before no_member_decls = member_decls_walk_1 before
  kept_member_decls_walk before (more_member_decls first others) = member_decls_walk_2 before first others (λ y1 y2. kept_member_decl_walk y1 y2 first) (λ y1. kept_member_decls_walk y1 others)

  kept_member_decl_walk : (x1 : Bool) (x2 : List CMember) (x3 : MemberDeclTree) → Keeps (List CMember) (c_member_decl_walk x1 x2 x3)
  kept_member_decl_walk is_last before (MemberDecl specs list lines) = member_decl_walk_1 is_last before specs list lines (λ y1 y2. kept_specs_walk y1 y2 specs) (λ y1 y2 y3. kept_member_declarators_walk y1 y2 y3 list)

  kept_member_declarators_walk : (x1 : Bool) (x2 : List CMember) (x3 : CTy) (x4 : MemberDeclaratorTrees) → Keeps (List CMember) (c_member_declarators_walk x1 x2 x3 x4)
  kept_member_declarators_walk is_last before type no_member_declarators = member_declarators_walk_1 is_last before type
  kept_member_declarators_walk is_last before type (more_member_declarators first others) = member_declarators_walk_2 is_last before type first others (λ y1 y2 y3. kept_member_declarator_walk y1 y2 y3 first) (λ y1 y2 y3. kept_member_declarators_walk y1 y2 y3 others)

  kept_member_declarator_walk : (x1 : Bool) (x2 : List CMember) (x3 : CTy) (x4 : MemberDeclaratorTree) → Keeps CMember (c_member_declarator_walk x1 x2 x3 x4)
  kept_member_declarator_walk is_last before type (MemberDeclarator declarator width lines) = member_declarator_walk_1 is_last before type declarator width lines (kept_declarator_walk declarator) (kept_option_walk width)

  kept_enumerators_walk : (x1 : ℤ) (x2 : Bool) (x3 : EnumeratorTrees) → Keeps Bool (c_enumerators_walk x1 x2 x3)
  kept_enumerators_walk next negative no_enumerators = enumerators_walk_1 next negative
  kept_enumerators_walk next negative (more_enumerators first others) = enumerators_walk_2 next negative first others (λ y1. kept_enumerator_walk y1 first) (λ y1 y2. kept_enumerators_walk y1 y2 others)

  kept_enumerator_walk : (x1 : ℤ) (x2 : EnumeratorTree) → Keeps ℤ (c_enumerator_walk x1 x2)
  kept_enumerator_walk next (Enumerator name value lines) = enumerator_walk_1 next name value lines (kept_option_walk value)

  kept_declarator_walk : (x1 : DeclaratorTree) → Keeps CShape (c_declarator_walk x1)
  kept_declarator_walk Missing = declarator_walk_1
  kept_declarator_walk (Identifier name lines) = declarator_walk_2 name lines
  kept_declarator_walk (Group inner lines) = declarator_walk_3 inner lines (kept_declarator_walk inner)
  kept_declarator_walk (Pointer qualifiers of lines) = declarator_walk_4 qualifiers of lines (kept_declarator_walk of)
  kept_declarator_walk (Array of brackets lines) = declarator_walk_5 of brackets lines (kept_declarator_walk of) (λ y1. kept_brackets_walk y1 brackets)
  kept_declarator_walk (Function of params variadic lines) = declarator_walk_6 of params variadic lines (kept_declarator_walk of) (λ y1. kept_params_walk y1 params)
  kept_declarator_walk (Identifiers of names lines) = declarator_walk_7 of names lines (kept_declarator_walk of)

  kept_brackets_walk : (x1 : ℕ) (x2 : BracketsTree) → Keeps CStep (c_brackets_walk x1 x2)
  kept_brackets_walk line (Unsized qualifiers) = brackets_walk_1 line qualifiers
  kept_brackets_walk line (Length qualifiers size) = brackets_walk_2 line qualifiers size (kept_expr_walk size)
  kept_brackets_walk line (StaticFirst qualifiers size) = brackets_walk_3 line qualifiers size (kept_expr_walk size)
  kept_brackets_walk line (StaticLast qualifiers size) = brackets_walk_4 line qualifiers size (kept_expr_walk size)
  kept_brackets_walk line (Star qualifiers) = brackets_walk_5 line qualifiers

  kept_params_walk : (x1 : Bool) (x2 : ParamTrees) → Keeps (List CParam) (c_params_walk x1 x2)
  kept_params_walk is_only no_params = params_walk_1 is_only
  kept_params_walk is_only (more_params first others) = params_walk_2 is_only first others (λ y1. kept_param_walk y1 first) (λ y1. kept_params_walk y1 others)

  kept_param_walk : (x1 : Bool) (x2 : ParamTree) → Keeps (Option CParam) (c_param_walk x1 x2)
  kept_param_walk is_only (Param specs declarator lines) = param_walk_1 is_only specs declarator lines (λ y1 y2. kept_specs_walk y1 y2 specs) (kept_declarator_walk declarator)

  kept_initialiser_walk : (x1 : CTarget) (x2 : InitialiserTree) → Keeps (List CStored) (c_initialiser_walk x1 x2)
  kept_initialiser_walk target (Single value) = initialiser_walk_1 target value (kept_expr_walk value)
  kept_initialiser_walk target (Braced list) = initialiser_walk_2 target list (λ y1 y2. kept_list_walk y1 y2 list)

  kept_list_walk : (x1 : CTarget) (x2 : List CStored) (x3 : InitialiserListTree) → Keeps (List CStored) (c_list_walk x1 x2 x3)
  kept_list_walk target stored (InitialiserList entries last_comma lines) = list_walk_1 target stored entries last_comma lines (λ y1 y2. kept_entries_walk y1 y2 entries)

  kept_entries_walk : (x1 : CTarget) (x2 : CFilling) (x3 : EntryTrees) → Keeps (List CStored) (c_entries_walk x1 x2 x3)
  kept_entries_walk target filling no_entries = entries_walk_1 target filling
  kept_entries_walk target filling (more_entries first others) = entries_walk_2 target filling first others (λ y1 y2. kept_entry_walk y1 y2 first) (λ y1 y2. kept_entries_walk y1 y2 others)

  kept_entry_walk : (x1 : CTarget) (x2 : CFilling) (x3 : EntryTree) → Keeps CFilling (c_entry_walk x1 x2 x3)
  kept_entry_walk target filling (Entry no_designators init lines) = entry_walk_1 target filling init lines (λ y1 y2 y3. kept_given_walk y1 y2 y3 init)
  kept_entry_walk target filling (Entry (more_designators first others) init lines) = entry_walk_2 target filling first others init lines (λ y1. kept_designator_walk y1 first) (λ y1. kept_designators_walk y1 others) (λ y1 y2 y3. kept_given_walk y1 y2 y3 init)

  kept_designators_walk : (x1 : Option CAt) (x2 : DesignatorTrees) → Keeps (Option CAt) (c_designators_walk x1 x2)
  kept_designators_walk at no_designators = designators_walk_1 at
  kept_designators_walk at (more_designators first others) = designators_walk_2 at first others (λ y1. kept_designator_walk y1 first) (λ y1. kept_designators_walk y1 others)

  kept_designator_walk : (x1 : Option CAt) (x2 : DesignatorTree) → Keeps (Option CAt) (c_designator_walk x1 x2)
  kept_designator_walk at (Element index lines) = designator_walk_1 at index lines (kept_expr_walk index)
  kept_designator_walk at (Member name lines) = designator_walk_2 at name lines

  kept_given_walk : (x1 : CTarget) (x2 : Option CAt) (x3 : CFilling) (x4 : InitialiserTree) → Keeps CFilling (c_given_walk x1 x2 x3 x4)
  kept_given_walk target at filling (Single value) = given_walk_1 target at filling value (kept_expr_walk value)
  kept_given_walk target at filling (Braced list) = given_walk_2 target at filling list (λ y1 y2. kept_list_walk y1 y2 list)

pub expressions_keep : (tree : ExprTree) (before : CScope) (value : COperand) (after : CScope) → c_expr_walk tree before ≡ fine value after → Prefix before after
expressions_keep tree before value after e = kept_expr_walk tree before before (prefix_same before) value after e
