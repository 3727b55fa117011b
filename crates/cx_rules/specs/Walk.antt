-- The walk over what stands in a unit, in the order in which its nodes count: children before their parent, and from the left (ISO
-- C99, 6.5 and 6.7). What a step of the walk is, stays open: one reading sees every node, and one stops at the first broken one.
use Rattle.std.specs.Prelude.{ℕ, ℤ, pos, ◌+ℤ◌, Bool, true, false, not, ◌&&◌, List, [], ◌∷◌, ◌++◌, length, Option, None, Some, is_some}
use Rattle.cx_core.specs.declared.expr.Op2.{Op2}
use Rattle.cx_core.specs.Trees.{CTy, ty, enum_type, record_type, CMember, type_of}
use Rattle.cx_lex.specs.declared.token.Keyword.TheVariants as keyword
use Rattle.cx_lex.specs.declared.token.Ty0.{Ty0}
use Rattle.cx_tree.specs.Trees.{ExprTree, Name, Number, Letter, Text, Paren, Index, Call, Dot, Arrow, PostUp, PostDown, Literal, PreUp, PreDown, Unary, SizeofExpr, SizeofType, Cast, Binary, Cond, Assign, Comma, ExprTrees, no_exprs, more_exprs, OptionExprTree, no_expr, some_expr, TypeNameTree, TypeName, SpecTree, Key, Typedef, Record, Enum, SpecTrees, no_specs, more_specs, MemberDeclTree, MemberDecl, MemberDeclTrees, no_member_decls, more_member_decls, no_members, some_members, MemberDeclaratorTree, MemberDeclarator, MemberDeclaratorTrees, no_member_declarators, more_member_declarators, EnumeratorTree, Enumerator, EnumeratorTrees, no_enumerators, more_enumerators, no_enumerator_list, some_enumerator_list, DeclaratorTree, Missing, Identifier, Group, Pointer, Array, Function, Identifiers, BracketsTree, Unsized, Length, StaticFirst, StaticLast, Star, ParamTree, Param, ParamTrees, no_params, more_params, InitialiserTree, Single, Braced, InitialiserListTree, InitialiserList, EntryTree, Entry, EntryTrees, no_entries, more_entries, DesignatorTree, Element, Member, DesignatorTrees, no_designators, more_designators}
use Rattle.cx_rules.specs.declared.kinds.SpecsPlace.{SpecsPlace}
use Rattle.cx_rules.specs.declared.kinds.SpecsPlace.TheVariants.{Parameter, Plain}
use Rattle.cx_rules.specs.Initial.{CAt, element_at, member_at, CStored, joined_bytes, text_type}
use Rattle.cx_rules.specs.Lines.{own_line, expr_line, specs_line, declarator_line}
use Rattle.cx_rules.specs.Meanings.{number_meaning, int_meaning, name_meaning, deref_meaning, address_meaning, binary_meaning, index_meaning, unary_meaning, and_meaning, or_meaning, comma_meaning, size_meaning, cast_meaning, cond_meaning, assign_meaning, assign_by_meaning, step_meaning, dot_meaning, arrow_meaning, call_meaning, trailing_types}
use Rattle.cx_rules.specs.Nodes.{CNode, name_node, literal_node, index_node, call_node, dot_node, arrow_node, step_node, address_node, deref_node, unary_node, sizeof_expr_node, sizeof_type_node, cast_node, binary_node, tests_node, cond_node, assign_node, assign_by_node, comma_node, specs_node, record_use_node, record_node, enum_use_node, enum_node, enumerator_node, member_node, array_node, identifiers_node, derives_node, param_node, given_node, element_node, designated_node, CPlaced}
use Rattle.cx_rules.specs.Operands.{COperand, value_of, constant_of}
use Rattle.cx_rules.specs.Scope.{an_enumerator, CTag, CScope, ordinary, with_declared, entered, left, with_object_number, with_made_at, unevaluated, with_completed}
use Rattle.cx_rules.specs.Shapes.{CSpecs, no_specs_yet, with_key, with_type, base_type, CParam, CStep, to_pointer, to_array, to_function, CShape, no_shape, step_before, derived}
use Rattle.cx_rules.specs.Pieces.{Done, at_line, is_text, text_parts, used, called, calls_by_name, CUnary, takes_address, follows, computes, unary_of, CBinary, tests_both, tests_either, operates, binary_of, assignment_of, with_text, text_meaning, with_literal, literal_made, literal_meaning, typedef_in, seen_tag, tag_number, with_used, continued, with_open_enum, with_closed_enum, or_negative, enumerator_value, no_more_decls, no_more_declarators, member_of, has_word, is_none_of, length_written, is_single, param_list, param_of, with_param, declared_since, CTarget, CFilling, filled, landed, value_facts, value_stored, text_landed, fills, text_facts, text_stored_at, list_start, target_at, designated_from, object_of_type, CFilled, filled_object, fills_whole, whole_at}

-- ---- the walk

module _
    (M : Type 0 → Type 0)
    (gives : (A : Type 0) → A → M A)
    (chain : (A B : Type 0) → M A → (A → M B) → M B)
    (here : M CScope)
    (becomes : CScope → M Done)
    (look : CPlaced → M Done)
  where
    abbrev pub just : {A : Type 0} → A → M A
    just value = gives _ value

    infixl 10 ◌>>=◌
    abbrev pub ◌>>=◌ : {A B : Type 0} → M A → (A → M B) → M B
    first >>= next = chain _ _ first next

    -- one of two walks
    abbrev pub either : {A : Type 0} → Bool → M A → M A → M A
    either true one other = one
    either false one other = other

    -- a node is looked at, and means this
    abbrev pub settled : {A : Type 0} → CScope → ℕ → CNode → A → M A
    settled scope line node meaning = look (record { scope = scope; line = line; node = node }) >>= (λ _. just meaning)

    -- a node is looked at, the scope becomes another, and the node means this
    abbrev pub changed : {A : Type 0} → CScope → ℕ → CNode → CScope → A → M A
    changed scope line node after meaning =
        look (record { scope = scope; line = line; node = node }) >>= (λ _. becomes after >>= (λ _. just meaning))

    -- ---- nodes of expressions (6.5)

    abbrev pub name_seen : List ℕ → ℕ → M COperand
    name_seen name line = here >>= (λ scope.
        changed scope line (name_node (ordinary name scope.declared)) (used line name (ordinary name scope.declared) scope)
        (name_meaning (at_line scope line) (ordinary name scope.declared)))

    abbrev pub number_seen : ℕ → Ty0 → ℕ → M COperand
    number_seen value type line = here >>= (λ scope. just (number_meaning (at_line scope line) value type))

    abbrev pub letter_seen : ℤ → ℕ → M COperand
    letter_seen value line = here >>= (λ scope. just (int_meaning (at_line scope line) value))

    abbrev pub text_seen : List (List ℕ) → ℕ → M COperand
    text_seen parts line = here >>= (λ scope.
        changed scope line (literal_node (text_type (joined_bytes parts))) (with_text line (joined_bytes parts) scope) (text_meaning scope line (joined_bytes parts)))

    abbrev pub index_seen : ℕ → COperand → COperand → M COperand
    index_seen line of index = here >>= (λ scope.
        settled scope line (index_node of index) (index_meaning (at_line scope line) scope.types of index))

    -- `mentioned` is how many mentions there were before the called function
    abbrev pub call_seen : ℕ → Bool → (mentioned : ℕ) → COperand → List COperand → M COperand
    call_seen line by_name mentioned callee args = here >>= (λ scope.
        changed scope line (call_node callee args) (called by_name mentioned (trailing_types scope.types callee args) scope)
        (call_meaning (at_line scope line) scope.types by_name callee args))

    abbrev pub dot_seen : ℕ → COperand → List ℕ → M COperand
    dot_seen line of name = here >>= (λ scope. settled scope line (dot_node of name) (dot_meaning (at_line scope line) scope.types of name))

    abbrev pub arrow_seen : ℕ → COperand → List ℕ → M COperand
    arrow_seen line of name = here >>= (λ scope. settled scope line (arrow_node of name) (arrow_meaning (at_line scope line) scope.types of name))

    abbrev pub step_seen : ℕ → (up post : Bool) → COperand → M COperand
    step_seen line up post on = here >>= (λ scope. settled scope line (step_node on) (step_meaning (at_line scope line) up post on))

    abbrev pub unary_seen : ℕ → CUnary → COperand → M COperand
    unary_seen line takes_address on = here >>= (λ scope. settled scope line (address_node on) (address_meaning (at_line scope line) on))
    unary_seen line follows on = here >>= (λ scope. settled scope line (deref_node on) (deref_meaning (at_line scope line) (value_of on)))
    unary_seen line (computes op) on = here >>= (λ scope. settled scope line (unary_node op on) (unary_meaning (at_line scope line) scope.types op on))

    -- what the operand of `sizeof` names isn't used
    abbrev pub sizeof_seen : ℕ → CScope → COperand → M COperand
    sizeof_seen line before of = here >>= (λ scope.
        changed scope line (sizeof_expr_node of) (unevaluated before scope) (size_meaning (at_line scope line) scope.types (type_of of.core)))

    abbrev pub sizeof_type_seen : ℕ → CTy → M COperand
    sizeof_type_seen line type = here >>= (λ scope. settled scope line (sizeof_type_node type) (size_meaning (at_line scope line) scope.types type))

    abbrev pub cast_seen : ℕ → CTy → COperand → M COperand
    cast_seen line type on = here >>= (λ scope. settled scope line (cast_node type on) (cast_meaning (at_line scope line) scope.types type on))

    abbrev pub binary_seen : ℕ → CBinary → COperand → COperand → M COperand
    binary_seen line tests_both left right = here >>= (λ scope. settled scope line (tests_node left right) (and_meaning (at_line scope line) left right))
    binary_seen line tests_either left right = here >>= (λ scope. settled scope line (tests_node left right) (or_meaning (at_line scope line) left right))
    binary_seen line (operates op) left right = here >>= (λ scope.
        settled scope line (binary_node op left right) (binary_meaning (at_line scope line) scope.types op left right))

    abbrev pub cond_seen : ℕ → COperand → COperand → COperand → M COperand
    cond_seen line test first second = here >>= (λ scope.
        settled scope line (cond_node test first second) (cond_meaning (at_line scope line) scope.types test first second))

    abbrev pub assign_seen : ℕ → Option Op2 → COperand → COperand → M COperand
    assign_seen line None target value = here >>= (λ scope.
        settled scope line (assign_node target value) (assign_meaning (at_line scope line) scope.types target value))
    assign_seen line (Some op) target value = here >>= (λ scope.
        settled scope line (assign_by_node op target value) (assign_by_meaning (at_line scope line) scope.types op target value))

    abbrev pub comma_seen : ℕ → COperand → COperand → M COperand
    comma_seen line first second = here >>= (λ scope. settled scope line (comma_node first second) (comma_meaning (at_line scope line) first second))

    -- a compound literal begins, and what is stored in it is known
    abbrev pub literal_begins : CTy → M CScope
    literal_begins type = here >>= (λ scope. becomes (with_literal type scope) >>= (λ _. just scope))

    abbrev pub literal_ends_as : CScope → ℕ → CScope → CFilled → M COperand
    literal_ends_as before line scope filled =
        changed scope line (literal_node filled.type)
        (with_made_at (length before.literals) (literal_made scope.in_function before.next_object filled.type filled.puts) scope)
        (literal_meaning scope.in_function (at_line scope line) before.next_object filled.type filled.puts)

    abbrev pub literal_ends : CScope → ℕ → CTy → List CStored → M COperand
    literal_ends before line type stored = here >>= (λ scope. literal_ends_as before line scope (filled_object scope.types type stored))

    -- ---- nodes of specifiers (6.7.1 to 6.7.4)

    -- a list of specifiers has ended
    abbrev pub specs_seen : SpecsPlace → ℕ → CSpecs → M CSpecs
    specs_seen place line specs = here >>= (λ scope. settled scope line (specs_node place specs) specs)

    abbrev pub typedef_seen : CSpecs → List ℕ → M CSpecs
    typedef_seen specs name = here >>= (λ scope. just (with_type (typedef_in scope name) specs))

    abbrev pub record_used : CSpecs → Bool → Option (List ℕ) → ℕ → CScope → Option CTag → M CSpecs
    record_used specs is_union name line scope found =
        changed scope line (record_use_node is_union found) (with_used found name is_union scope)
        (with_type (ty (record_type (tag_number (length scope.types.records) found)) false) specs)

    abbrev pub record_use_seen : Bool → CSpecs → Bool → Option (List ℕ) → ℕ → M CSpecs
    record_use_seen alone specs is_union name line = here >>= (λ scope. record_used specs is_union name line scope (seen_tag alone name scope))

    -- a list of members begins: what the tag declared before in this scope, and the number of the record
    abbrev pub record_begins : Bool → Option (List ℕ) → M CScope
    record_begins is_union name = here >>= (λ scope.
        becomes (with_used (continued scope.types is_union (seen_tag true name scope)) name is_union scope) >>= (λ _. just scope))

    abbrev pub record_ended : CSpecs → Bool → Option (List ℕ) → ℕ → List CMember → CScope → Option CTag → ℕ → M CSpecs
    record_ended specs is_union name line members scope found number =
        changed scope line (record_node is_union found number members)
        (with_completed number (record { number = number; tag = name; is_union = is_union; members = members }) scope)
        (with_type (ty (record_type number) false) specs)

    abbrev pub record_ends : CScope → CSpecs → Bool → Option (List ℕ) → ℕ → List CMember → M CSpecs
    record_ends before specs is_union name line members = here >>= (λ scope.
        record_ended specs is_union name line members scope (seen_tag true name before)
        (tag_number (length before.types.records) (continued before.types is_union (seen_tag true name before))))

    abbrev pub enum_used : CSpecs → ℕ → CScope → Option CTag → M CSpecs
    enum_used specs line scope found =
        settled scope line (enum_use_node found) (with_type (ty (enum_type (tag_number 0 found)) false) specs)

    abbrev pub enum_use_seen : CSpecs → Option (List ℕ) → ℕ → M CSpecs
    enum_use_seen specs name line = here >>= (λ scope. enum_used specs line scope (seen_tag false name scope))

    abbrev pub enum_begins : Option (List ℕ) → M CScope
    enum_begins name = here >>= (λ scope. becomes (with_open_enum name scope) >>= (λ _. just scope))

    abbrev pub enum_ends : CScope → CSpecs → Option (List ℕ) → ℕ → Bool → M CSpecs
    enum_ends before specs name line negative = here >>= (λ scope.
        changed scope line (enum_node (seen_tag true name before)) (with_closed_enum name (length before.types.enums) negative scope)
        (with_type (ty (enum_type (length before.types.enums)) false) specs))

    abbrev pub enumerator_as : CScope → List ℕ → ℕ → Option COperand → ℤ → M ℤ
    enumerator_as scope name line written value =
        changed scope line (enumerator_node name written value) (with_declared name (an_enumerator value) scope) value

    -- an enumerator without a value has one more than the one before (6.7.2.2p3)
    abbrev pub enumerator_seen : List ℕ → ℕ → ℤ → Option COperand → M ℤ
    enumerator_seen name line next None = here >>= (λ scope. enumerator_as scope name line None next)
    enumerator_seen name line next (Some written) = here >>= (λ scope.
        enumerator_as scope name line (Some written) (enumerator_value next (constant_of scope.types (value_of written))))

    -- ---- nodes of members and declarators (6.7.2.1, 6.7.5)

    abbrev pub derives_seen : ℕ → CTy → CShape → M CTy
    derives_seen line from shape = here >>= (λ scope. settled scope line (derives_node from shape.steps) (derived from shape.steps))

    abbrev pub member_seen : Bool → List CMember → ℕ → Option (List ℕ) → CTy → Option COperand → M CMember
    member_seen is_last before line name type width = here >>= (λ scope.
        settled scope line (member_node is_last name type width before) (member_of scope.types name type width))

    abbrev pub array_seen : ℕ → Bool → Option COperand → M CStep
    array_seen line is_plain written = here >>= (λ scope.
        settled scope line (array_node is_plain written) (to_array (length_written scope.types written)))

    abbrev pub identifiers_seen : ℕ → List (List ℕ) → CShape → M CShape
    identifiers_seen line names shape = here >>= (λ scope. settled scope line (identifiers_node names) (step_before (to_function None false []) shape))

    -- a list of parameters is a scope (6.2.1p4)
    abbrev pub params_begin : M CScope
    params_begin = here >>= (λ scope. becomes (entered scope) >>= (λ _. just scope))

    abbrev pub params_end : CScope → List CParam → Bool → CShape → M CShape
    params_end before params variadic shape = here >>= (λ scope.
        becomes (left (length before.declared) before.begins scope)
        >>= (λ _. just (step_before (to_function (Some params) variadic (declared_since (length before.declared) scope)) shape)))

    abbrev pub param_seen : Bool → ℕ → CSpecs → Option (List ℕ) → CTy → M (Option CParam)
    param_seen is_only line specs name type = here >>= (λ scope.
        changed scope line (param_node is_only specs name type) (with_param (param_of scope specs name type) scope) (param_of scope specs name type))

    -- ---- nodes of initialisers (6.7.8)

    abbrev pub value_given_at : ℕ → CTarget → CFilling → COperand → CScope → Option CAt → M CFilling
    value_given_at line target filling value scope at =
        settled scope line (given_node (value_facts scope target value at))
        (filled scope.types target at (value_stored scope.types target value at) filling)

    -- a value that is given for a part
    abbrev pub value_given : ℕ → CTarget → Option CAt → CFilling → COperand → M CFilling
    value_given line target at filling value = here >>= (λ scope.
        value_given_at line target filling value scope (landed scope.types value at))

    abbrev pub text_given_at : ℕ → CTarget → CFilling → List ℕ → CScope → Option CAt → M CFilling
    text_given_at line target filling bytes scope at =
        changed scope line (given_node (text_facts bytes at)) (with_object_number scope)
        (filled scope.types target at (text_stored_at scope.types (at_line scope line) target bytes at) filling)

    -- a string literal that fills an array of characters, and one that is a value like another
    abbrev pub text_given : ℕ → CTarget → Option CAt → CFilling → List (List ℕ) → M CFilling
    text_given line target at filling parts = here >>= (λ scope.
        either (fills scope.types at) (text_given_at line target filling (joined_bytes parts) scope (text_landed scope.types at))
        (text_seen parts line >>= (λ value. value_given line target at filling value)))

    abbrev pub whole_value : ℕ → CTarget → COperand → CScope → M CFilling
    whole_value line target value scope =
        settled scope line (given_node (value_facts scope target value (whole_at target)))
        (record { stored = value_stored scope.types target value (whole_at target); next = None })

    -- a value that isn't in braces is for the whole object
    abbrev pub whole_given : ℕ → CTarget → COperand → M CFilling
    whole_given line target value = here >>= (λ scope. whole_value line target value scope)

    abbrev pub whole_text_at : ℕ → CTarget → List ℕ → CScope → Option CAt → M CFilling
    whole_text_at line target bytes scope at =
        changed scope line (given_node (text_facts bytes at)) (with_object_number scope)
        (record { stored = text_stored_at scope.types (at_line scope line) target bytes at; next = None })

    abbrev pub whole_text : ℕ → CTarget → List (List ℕ) → M CFilling
    whole_text line target parts = here >>= (λ scope.
        either (fills_whole target) (whole_text_at line target (joined_bytes parts) scope (whole_at target))
        (text_seen parts line >>= (λ value. whole_given line target value)))

    abbrev pub list_begins : CTarget → EntryTrees → List CStored → M CFilling
    list_begins target entries stored = here >>= (λ scope. just (list_start scope.types target entries stored))

    -- a list in braces is for a part, and the next value stands behind it
    abbrev pub list_given : CTarget → Option CAt → CFilling → List CStored → M CFilling
    list_given target at filling stored = here >>= (λ scope. just (filled scope.types target at [] (record filling { stored = stored })))

    abbrev pub element_as : ℕ → COperand → CScope → Option CAt → M (Option CAt)
    element_as line index scope at = settled scope line (element_node index (is_some at)) at

    abbrev pub element_seen : ℕ → Option CAt → COperand → M (Option CAt)
    element_seen line at index = here >>= (λ scope.
        element_as line index scope (element_at scope.types at (constant_of scope.types (value_of index))))

    abbrev pub member_as : ℕ → CScope → Option CAt → M (Option CAt)
    member_as line scope at = settled scope line (designated_node (is_some at)) at

    abbrev pub member_designated : ℕ → Option CAt → List ℕ → M (Option CAt)
    member_designated line at name = here >>= (λ scope. member_as line scope (member_at scope.types at name))

    -- ---- trees (6.5, 6.7)

    abbrev mutual
      pub expr_walk : ExprTree → M COperand
      expr_walk (Name name lines) = name_seen name (own_line lines)
      expr_walk (Number value type lines) = number_seen value type (own_line lines)
      expr_walk (Letter value lines) = letter_seen value (own_line lines)
      expr_walk (Text parts lines) = text_seen parts (own_line lines)
      expr_walk (Paren inner lines) = expr_walk inner
      expr_walk (Index of index lines) = expr_walk of >>= (λ one. expr_walk index >>= (λ other. index_seen (expr_line of) one other))
      expr_walk (Call of args lines) = here >>= (λ before. expr_walk of >>= (λ callee. exprs_walk args >>= (λ given.
          call_seen (expr_line of) (calls_by_name of callee) (length before.mentions) callee given)))
      expr_walk (Dot of name lines) = expr_walk of >>= (λ one. dot_seen (expr_line of) one name)
      expr_walk (Arrow of name lines) = expr_walk of >>= (λ one. arrow_seen (expr_line of) one name)
      expr_walk (PostUp of lines) = expr_walk of >>= (λ one. step_seen (expr_line of) true true one)
      expr_walk (PostDown of lines) = expr_walk of >>= (λ one. step_seen (expr_line of) false true one)
      expr_walk (Literal of list lines) = type_name_walk of >>= (λ type. literal_begins type >>= (λ before.
          list_walk (object_of_type (not before.in_function) type) [] list >>= (λ stored. literal_ends before (own_line lines) type stored)))
      expr_walk (PreUp on lines) = expr_walk on >>= (λ one. step_seen (own_line lines) true false one)
      expr_walk (PreDown on lines) = expr_walk on >>= (λ one. step_seen (own_line lines) false false one)
      expr_walk (Unary op on lines) = expr_walk on >>= (λ one. unary_seen (own_line lines) (unary_of op) one)
      expr_walk (SizeofExpr on lines) = here >>= (λ before. expr_walk on >>= (λ one. sizeof_seen (own_line lines) before one))
      expr_walk (SizeofType of lines) = type_name_walk of >>= (λ type. sizeof_type_seen (own_line lines) type)
      expr_walk (Cast to on lines) = type_name_walk to >>= (λ type. expr_walk on >>= (λ one. cast_seen (own_line lines) type one))
      expr_walk (Binary left op right lines) = expr_walk left >>= (λ one. expr_walk right >>= (λ other.
          binary_seen (expr_line left) (binary_of op) one other))
      expr_walk (Cond condition if_true if_false lines) = expr_walk condition >>= (λ test. expr_walk if_true >>= (λ first. expr_walk if_false >>= (λ second.
          cond_seen (expr_line condition) test first second)))
      expr_walk (Assign left op right lines) = expr_walk left >>= (λ one. expr_walk right >>= (λ other.
          assign_seen (expr_line left) (assignment_of op) one other))
      expr_walk (Comma left right lines) = expr_walk left >>= (λ one. expr_walk right >>= (λ other. comma_seen (expr_line left) one other))

      pub exprs_walk : ExprTrees → M (List COperand)
      exprs_walk no_exprs = just []
      exprs_walk (more_exprs first others) = expr_walk first >>= (λ one. exprs_walk others >>= (λ more. just (one ∷ more)))

      pub option_walk : OptionExprTree → M (Option COperand)
      option_walk no_expr = just None
      option_walk (some_expr one) = expr_walk one >>= (λ operand. just (Some operand))

      pub type_name_walk : TypeNameTree → M CTy
      type_name_walk (TypeName specs declarator lines) = specs_walk false no_specs_yet specs >>= (λ all. specs_seen Plain (specs_line specs) all >>= (λ _.
          declarator_walk declarator >>= (λ shape. derives_seen (declarator_line (specs_line specs) declarator) (base_type all) shape)))

      -- the truth value says that the specifier stands alone in its declaration, which declares nothing else
      pub spec_walk : Bool → CSpecs → SpecTree → M CSpecs
      spec_walk alone specs (Key word lines) = just (with_key word specs)
      spec_walk alone specs (Typedef name lines) = typedef_seen specs name
      spec_walk alone specs (Record is_union name no_members lines) = record_use_seen alone specs is_union name (own_line lines)
      spec_walk alone specs (Record is_union name (some_members list) lines) = record_begins is_union name >>= (λ before.
          member_decls_walk [] list >>= (λ members. record_ends before specs is_union name (own_line lines) members))
      spec_walk alone specs (Enum name no_enumerator_list last_comma lines) = enum_use_seen specs name (own_line lines)
      spec_walk alone specs (Enum name (some_enumerator_list list) last_comma lines) = enum_begins name >>= (λ before.
          enumerators_walk (pos 0) false list >>= (λ negative. enum_ends before specs name (own_line lines) negative))

      pub specs_walk : Bool → CSpecs → SpecTrees → M CSpecs
      specs_walk alone specs no_specs = just specs
      specs_walk alone specs (more_specs first others) = spec_walk alone specs first >>= (λ more. specs_walk alone more others)

      pub member_decls_walk : List CMember → MemberDeclTrees → M (List CMember)
      member_decls_walk before no_member_decls = just before
      member_decls_walk before (more_member_decls first others) = member_decl_walk (no_more_decls others) before first >>= (λ more. member_decls_walk more others)

      pub member_decl_walk : Bool → List CMember → MemberDeclTree → M (List CMember)
      member_decl_walk is_last before (MemberDecl specs list lines) = specs_walk false no_specs_yet specs >>= (λ all.
          specs_seen Plain (specs_line specs) all >>= (λ _. member_declarators_walk is_last before (base_type all) list))

      pub member_declarators_walk : Bool → List CMember → CTy → MemberDeclaratorTrees → M (List CMember)
      member_declarators_walk is_last before type no_member_declarators = just before
      member_declarators_walk is_last before type (more_member_declarators first others) =
          member_declarator_walk (is_last && no_more_declarators others) before type first
          >>= (λ one. member_declarators_walk is_last (before ++ one ∷ []) type others)

      pub member_declarator_walk : Bool → List CMember → CTy → MemberDeclaratorTree → M CMember
      member_declarator_walk is_last before type (MemberDeclarator declarator width lines) = declarator_walk declarator >>= (λ shape.
          derives_seen (declarator_line (own_line lines) declarator) type shape >>= (λ own. option_walk width >>= (λ written.
          member_seen is_last before (declarator_line (own_line lines) declarator) shape.name own written)))

      -- the value of the next enumerator, and whether one was negative
      pub enumerators_walk : ℤ → Bool → EnumeratorTrees → M Bool
      enumerators_walk next negative no_enumerators = just negative
      enumerators_walk next negative (more_enumerators first others) = enumerator_walk next first >>= (λ value.
          enumerators_walk (value +ℤ pos 1) (or_negative negative value) others)

      pub enumerator_walk : ℤ → EnumeratorTree → M ℤ
      enumerator_walk next (Enumerator name value lines) = option_walk value >>= (λ written. enumerator_seen name (own_line lines) next written)

      pub declarator_walk : DeclaratorTree → M CShape
      declarator_walk Missing = just no_shape
      declarator_walk (Identifier name lines) = just (record { name = Some name; steps = [] })
      declarator_walk (Group inner lines) = declarator_walk inner
      declarator_walk (Pointer qualifiers of lines) = declarator_walk of >>= (λ shape.
          just (step_before (to_pointer (has_word keyword.Const qualifiers) (has_word keyword.Restrict qualifiers)) shape))
      declarator_walk (Array of brackets lines) = declarator_walk of >>= (λ shape.
          brackets_walk (declarator_line (own_line lines) of) brackets >>= (λ step. just (step_before step shape)))
      declarator_walk (Function of params variadic lines) = declarator_walk of >>= (λ shape. params_begin >>= (λ before.
          params_walk (is_single params variadic) params >>= (λ list. params_end before list variadic shape)))
      declarator_walk (Identifiers of names lines) = declarator_walk of >>= (λ shape. identifiers_seen (declarator_line (own_line lines) of) names shape)

      pub brackets_walk : ℕ → BracketsTree → M CStep
      brackets_walk line (Unsized qualifiers) = array_seen line (is_none_of qualifiers) None
      brackets_walk line (Length qualifiers size) = expr_walk size >>= (λ written. array_seen line (is_none_of qualifiers) (Some written))
      brackets_walk line (StaticFirst qualifiers size) = expr_walk size >>= (λ written. array_seen line false (Some written))
      brackets_walk line (StaticLast qualifiers size) = expr_walk size >>= (λ written. array_seen line false (Some written))
      brackets_walk line (Star qualifiers) = array_seen line false None

      pub params_walk : Bool → ParamTrees → M (List CParam)
      params_walk is_only no_params = just []
      params_walk is_only (more_params first others) = param_walk is_only first >>= (λ one. params_walk false others >>= (λ more. just (param_list one more)))

      pub param_walk : Bool → ParamTree → M (Option CParam)
      param_walk is_only (Param specs declarator lines) = specs_walk false no_specs_yet specs >>= (λ all.
          specs_seen Parameter (specs_line specs) all >>= (λ _. declarator_walk declarator >>= (λ shape.
          derives_seen (declarator_line (specs_line specs) declarator) (base_type all) shape >>= (λ type.
          param_seen is_only (specs_line specs) all shape.name type))))

      -- an initialiser for a whole object (6.7.8p11 to p16)
      pub initialiser_walk : CTarget → InitialiserTree → M (List CStored)
      initialiser_walk target (Single value) = either (is_text value)
          (whole_text (expr_line value) target (text_parts value) >>= (λ filling. just filling.stored))
          (expr_walk value >>= (λ one. whole_given (expr_line value) target one >>= (λ filling. just filling.stored)))
      initialiser_walk target (Braced list) = list_walk target [] list

      pub list_walk : CTarget → List CStored → InitialiserListTree → M (List CStored)
      list_walk target stored (InitialiserList entries last_comma lines) = list_begins target entries stored >>= (λ filling.
          entries_walk target filling entries)

      pub entries_walk : CTarget → CFilling → EntryTrees → M (List CStored)
      entries_walk target filling no_entries = just filling.stored
      entries_walk target filling (more_entries first others) = entry_walk target filling first >>= (λ more. entries_walk target more others)

      pub entry_walk : CTarget → CFilling → EntryTree → M CFilling
      entry_walk target filling (Entry no_designators init lines) = given_walk target filling.next filling init
      entry_walk target filling (Entry (more_designators first others) init lines) = designator_walk (designated_from target) first >>= (λ at.
          designators_walk at others >>= (λ last. given_walk target last filling init))

      pub designators_walk : Option CAt → DesignatorTrees → M (Option CAt)
      designators_walk at no_designators = just at
      designators_walk at (more_designators first others) = designator_walk at first >>= (λ next. designators_walk next others)

      pub designator_walk : Option CAt → DesignatorTree → M (Option CAt)
      designator_walk at (Element index lines) = expr_walk index >>= (λ one. element_seen (own_line lines) at one)
      designator_walk at (Member name lines) = member_designated (own_line lines) at name

      -- what is given for a part
      pub given_walk : CTarget → Option CAt → CFilling → InitialiserTree → M CFilling
      given_walk target at filling (Single value) = either (is_text value)
          (text_given (expr_line value) target at filling (text_parts value))
          (expr_walk value >>= (λ one. value_given (expr_line value) target at filling one))
      given_walk target at filling (Braced list) = list_walk (target_at target at) filling.stored list >>= (λ stored. list_given target at filling stored)
