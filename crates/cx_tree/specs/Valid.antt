-- Valid trees (ISO C99, 6.5 to 6.9): each child stands at the level that its production asks for, operators and keywords are those
-- of the production, lists are as long as it says, and a node has as many lines as tokens that it prints itself. Nothing is said
-- of names: those in scope are a matter of their own.
use Rattle.std.specs.Prelude.{◌≡◌, ℕ, suc, ◌+◌, ◌*◌, ◌-◌, ◌≤◌, ◌<◌, ⊤, Bool, true, false, ◌&&◌, ◌||◌, not, IsTrue, List, [], ◌∷◌, length, Option, Some, None, is_some}
use Rattle.cx_lex.specs.declared.token.Keyword.{Keyword}
use Rattle.cx_tree.specs.Levels.{expression_level, assignment_level, conditional_level, logical_or_level, cast_level, unary_level, postfix_level, binary_level, is_unary_operator, is_assignment_operator, level}
use Rattle.cx_tree.specs.Tokens.{brackets_front}
use Rattle.cx_tree.specs.Trees.{ExprTree, Name, Number, Letter, Text, Paren, Index, Call, Dot, Arrow, PostUp, PostDown, Literal, PreUp, PreDown, Unary, SizeofExpr, SizeofType, Cast, Binary, Cond, Assign, Comma, ExprTrees, no_exprs, more_exprs, OptionExprTree, no_expr, some_expr, TypeNameTree, TypeName, SpecTree, Key, Typedef, Record, Enum, SpecTrees, no_specs, more_specs, MemberDeclTree, MemberDecl, MemberDeclTrees, no_member_decls, more_member_decls, OptionMemberDeclTrees, no_members, some_members, MemberDeclaratorTree, MemberDeclarator, MemberDeclaratorTrees, no_member_declarators, more_member_declarators, EnumeratorTree, Enumerator, EnumeratorTrees, no_enumerators, more_enumerators, OptionEnumeratorTrees, no_enumerator_list, some_enumerator_list, DeclaratorTree, Missing, Identifier, Group, Pointer, Array, Function, Identifiers, BracketsTree, Unsized, Length, StaticFirst, StaticLast, Star, ParamTree, Param, ParamTrees, no_params, more_params, InitialiserTree, Single, Braced, InitialiserListTree, InitialiserList, EntryTree, Entry, EntryTrees, no_entries, more_entries, DesignatorTree, Element, Member, DesignatorTrees, no_designators, more_designators, InitDeclaratorTree, DeclTree, ForFirstTree, FirstValue, FirstDeclared, StmtTree, Label, Case, Default, Block, ExprStmt, If, Switch, While, Do, For, Goto, Continue, Break, Return, OptionStmtTree, no_stmt, some_stmt, ItemTree, Statement, Declared, ItemTrees, no_items, more_items, DefinitionTree, ExternalTree, Defined, Declaration, UnitTree}
use Rattle.cx_tree.specs.Words.{is_storage_class, is_qualifier, is_function_specifier, is_specifier_word}

-- ---- parts of a node

-- a node has this many lines
abbrev pub Lines : List ℕ → ℕ → Type 0
Lines lines count = length lines ≡ count

-- how many commas stand between parts
abbrev pub commas : ℕ → ℕ
commas parts = parts - 1

-- an expression in its place: it is valid, and its level is at least that of the production which stands there
pub record At (Valid : Type 0) (found least : ℕ) : Type 0 where
  pub valid : Valid
  pub level : least ≤ found

-- a node of one part, with this many tokens of its own
pub record OfOne (Part : Type 0) (lines : List ℕ) (count : ℕ) : Type 0 where
  pub part : Part
  pub own : Lines lines count

-- a node of two parts, in text order
pub record OfTwo (First Second : Type 0) (lines : List ℕ) (count : ℕ) : Type 0 where
  pub first : First
  pub second : Second
  pub own : Lines lines count

-- a node of three parts, in text order
pub record OfThree (First Second Third : Type 0) (lines : List ℕ) (count : ℕ) : Type 0 where
  pub first : First
  pub second : Second
  pub third : Third
  pub own : Lines lines count

-- a node of four parts, in text order
pub record OfFour (First Second Third Fourth : Type 0) (lines : List ℕ) (count : ℕ) : Type 0 where
  pub first : First
  pub second : Second
  pub third : Third
  pub fourth : Fourth
  pub own : Lines lines count

-- an operator before its operand
pub record Prefixed (Operator Operand : Type 0) (lines : List ℕ) : Type 0 where
  pub operator : Operator
  pub operand : Operand
  pub own : Lines lines 1

-- an operator between its operands
pub record Operated (Operator Left Right : Type 0) (lines : List ℕ) : Type 0 where
  pub operator : Operator
  pub left : Left
  pub right : Right
  pub own : Lines lines 1

-- a list of one part or more
pub record OneOrMore (count : ℕ) (Parts : Type 0) : Type 0 where
  pub present : 0 < count
  pub each : Parts

-- ---- how many parts a list has

abbrev pub exprs_count : ExprTrees → ℕ
exprs_count no_exprs = 0
exprs_count (more_exprs e es) = suc (exprs_count es)

abbrev pub specs_count : SpecTrees → ℕ
specs_count no_specs = 0
specs_count (more_specs s ss) = suc (specs_count ss)

abbrev pub member_decls_count : MemberDeclTrees → ℕ
member_decls_count no_member_decls = 0
member_decls_count (more_member_decls m ms) = suc (member_decls_count ms)

abbrev pub member_declarators_count : MemberDeclaratorTrees → ℕ
member_declarators_count no_member_declarators = 0
member_declarators_count (more_member_declarators m ms) = suc (member_declarators_count ms)

abbrev pub enumerators_count : EnumeratorTrees → ℕ
enumerators_count no_enumerators = 0
enumerators_count (more_enumerators e es) = suc (enumerators_count es)

abbrev pub params_count : ParamTrees → ℕ
params_count no_params = 0
params_count (more_params p ps) = suc (params_count ps)

abbrev pub entries_count : EntryTrees → ℕ
entries_count no_entries = 0
entries_count (more_entries e es) = suc (entries_count es)

-- ---- how many tokens of its own a node has, where that isn't one number

-- 1 where a thing stands
abbrev pub one_if : Bool → ℕ
one_if true = 1
one_if false = 0

-- the braces round members
abbrev pub members_own : OptionMemberDeclTrees → ℕ
members_own no_members = 0
members_own (some_members list) = 2

-- the braces round enumerators, and the commas
abbrev pub enumerators_own : OptionEnumeratorTrees → Bool → ℕ
enumerators_own no_enumerator_list last_comma = 0
enumerators_own (some_enumerator_list list) last_comma = commas (enumerators_count list) + one_if last_comma + 2

-- `:` before a width, or `=` before a value
abbrev pub option_own : OptionExprTree → ℕ
option_own no_expr = 0
option_own (some_expr e) = 1

-- `=` behind designators
abbrev pub designation_own : DesignatorTrees → ℕ
designation_own no_designators = 0
designation_own (more_designators d ds) = 1

-- `=` before an initialiser
abbrev pub init_own : Option InitialiserTree → ℕ
init_own None = 0
init_own (Some init) = 1

-- `else`
abbrev pub else_own : OptionStmtTree → ℕ
else_own no_stmt = 0
else_own (some_stmt stmt) = 1

-- the semicolon behind the first clause of a `for` statement, which a declaration prints itself
abbrev pub first_own : ForFirstTree → ℕ
first_own (FirstValue value) = 1
first_own (FirstDeclared decl) = 0

-- ---- specifiers (6.7)

-- members or enumerators stand in braces
abbrev pub has_members : OptionMemberDeclTrees → Bool
has_members no_members = false
has_members (some_members list) = true

abbrev pub has_enumerators : OptionEnumeratorTrees → Bool
has_enumerators no_enumerator_list = false
has_enumerators (some_enumerator_list list) = true

-- a list of specifiers and qualifiers alone (6.7.2.1): no storage class and no function specifier is among them
abbrev pub is_qualifying : SpecTree → Bool
is_qualifying (Key word lines) = not (is_storage_class word || is_function_specifier word)
is_qualifying (Typedef name lines) = true
is_qualifying (Record is_union tag _ lines) = true
is_qualifying (Enum tag list last_comma lines) = true

abbrev pub are_qualifying : SpecTrees → Bool
are_qualifying no_specs = true
are_qualifying (more_specs s ss) = is_qualifying s && are_qualifying ss

-- ---- declarators (6.7.5)

-- a declarator stands there
abbrev pub is_present : DeclaratorTree → Bool
is_present Missing = false
is_present _ = true

-- a direct declarator: one that doesn't begin with `*`; it may be missing
abbrev pub is_direct : DeclaratorTree → Bool
is_direct (Pointer qualifiers of lines) = false
is_direct _ = true

-- an identifier stands in it; an abstract declarator (6.7.6) has none
abbrev pub has_name : DeclaratorTree → Bool
has_name Missing = false
has_name (Identifier name lines) = true
has_name (Group inner lines) = has_name inner
has_name (Pointer qualifiers of lines) = has_name of
has_name (Array of brackets lines) = has_name of
has_name (Function of _ variadic lines) = has_name of
has_name (Identifiers of names lines) = has_name of

-- a member's declarator has a name, or is missing where a width stands (6.7.2.1)
abbrev pub is_member : DeclaratorTree → OptionExprTree → Bool
is_member declarator no_expr = has_name declarator
is_member declarator (some_expr width) = has_name declarator || not (is_present declarator)

-- a list of identifiers stands on a declarator with a name, unless it is empty (6.7.5.3, 6.7.6)
abbrev pub may_list : List (List ℕ) → DeclaratorTree → Bool
may_list [] of = true
may_list (name ∷ names) of = has_name of

abbrev pub AreQualifiers : List Keyword → Type 0
AreQualifiers [] = ⊤
AreQualifiers (word ∷ words) = IsTrue (is_qualifier word) × AreQualifiers words

-- a structure, union or enumeration specifier (6.7.2.1, 6.7.2.2)
pub record OfTag (Tagged Listed : Type 0) (lines : List ℕ) (count : ℕ) : Type 0 where
  pub tagged : Tagged
  pub listed : Listed
  pub own : Lines lines count

-- specifiers and a declarator, which fits there: of a type name, or of a parameter (6.7.6, 6.7.5)
pub record OfType (Specs Declarator Fits : Type 0) (lines : List ℕ) : Type 0 where
  pub specs : Specs
  pub declarator : Declarator
  pub fits : Fits
  pub own : Lines lines 0

-- specifiers, which fit there, and what they declare: members, or the declarators of a declaration (6.7.2.1, 6.7)
pub record OfDeclaration (Specs Fit Declarators : Type 0) (lines : List ℕ) (count : ℕ) : Type 0 where
  pub specs : Specs
  pub fit : Fit
  pub list : Declarators
  pub own : Lines lines count

-- a declarator, which fits there, and what stands behind it: of a member, or with an initialiser (6.7.2.1, 6.7)
pub record OfDeclarator (Declarator Fits Behind : Type 0) (lines : List ℕ) (count : ℕ) : Type 0 where
  pub declarator : Declarator
  pub fits : Fits
  pub behind : Behind
  pub own : Lines lines count

-- a declarator that an array's brackets, parameters or identifiers follow (6.7.5.2, 6.7.5.3)
pub record OfDirect (Of Direct Behind : Type 0) (lines : List ℕ) (count : ℕ) : Type 0 where
  pub of : Of
  pub direct : Direct
  pub behind : Behind
  pub own : Lines lines count

-- ---- expressions, and what stands in them (6.5, 6.7)

abbrev mutual
  pub IsValidExpr : ExprTree → Type 0
  IsValidExpr (Name name lines) = Lines lines 1
  IsValidExpr (Number value ty lines) = Lines lines 1
  IsValidExpr (Letter value lines) = Lines lines 1
  IsValidExpr (Text parts lines) = OfOne (0 < length parts) lines (length parts)
  IsValidExpr (Paren inner lines) = OfOne (At (IsValidExpr inner) (level inner) expression_level) lines 2
  IsValidExpr (Index of index lines) =
      OfTwo (At (IsValidExpr of) (level of) postfix_level) (At (IsValidExpr index) (level index) expression_level) lines 2
  IsValidExpr (Call of args lines) =
      OfTwo (At (IsValidExpr of) (level of) postfix_level) (AreValidArgs args) lines (commas (exprs_count args) + 2)
  IsValidExpr (Dot of member lines) = OfOne (At (IsValidExpr of) (level of) postfix_level) lines 2
  IsValidExpr (Arrow of member lines) = OfOne (At (IsValidExpr of) (level of) postfix_level) lines 2
  IsValidExpr (PostUp of lines) = OfOne (At (IsValidExpr of) (level of) postfix_level) lines 1
  IsValidExpr (PostDown of lines) = OfOne (At (IsValidExpr of) (level of) postfix_level) lines 1
  IsValidExpr (Literal of list lines) = OfTwo (IsValidTypeName of) (IsValidInitialiserList list) lines 2
  IsValidExpr (PreUp on lines) = OfOne (At (IsValidExpr on) (level on) unary_level) lines 1
  IsValidExpr (PreDown on lines) = OfOne (At (IsValidExpr on) (level on) unary_level) lines 1
  IsValidExpr (Unary op on lines) = Prefixed (IsTrue (is_unary_operator op)) (At (IsValidExpr on) (level on) cast_level) lines
  IsValidExpr (SizeofExpr on lines) = OfOne (At (IsValidExpr on) (level on) unary_level) lines 1
  IsValidExpr (SizeofType of lines) = OfOne (IsValidTypeName of) lines 3
  IsValidExpr (Cast to on lines) = OfTwo (IsValidTypeName to) (At (IsValidExpr on) (level on) cast_level) lines 2
  IsValidExpr (Binary left op right lines) =
      Operated (0 < binary_level op) (At (IsValidExpr left) (level left) (binary_level op)) (At (IsValidExpr right) (level right) (suc (binary_level op))) lines
  IsValidExpr (Cond condition if_true if_false lines) =
      OfThree (At (IsValidExpr condition) (level condition) logical_or_level) (At (IsValidExpr if_true) (level if_true) expression_level)
      (At (IsValidExpr if_false) (level if_false) conditional_level) lines 2
  IsValidExpr (Assign left op right lines) =
      Operated (IsTrue (is_assignment_operator op)) (At (IsValidExpr left) (level left) unary_level) (At (IsValidExpr right) (level right) assignment_level) lines
  IsValidExpr (Comma left right lines) =
      OfTwo (At (IsValidExpr left) (level left) expression_level) (At (IsValidExpr right) (level right) assignment_level) lines 1

  -- arguments (6.5.2)
  pub AreValidArgs : ExprTrees → Type 0
  AreValidArgs no_exprs = ⊤
  AreValidArgs (more_exprs e es) = At (IsValidExpr e) (level e) assignment_level × AreValidArgs es

  -- an expression of this level that may be missing
  pub IsValidOption : ℕ → OptionExprTree → Type 0
  IsValidOption least no_expr = ⊤
  IsValidOption least (some_expr e) = At (IsValidExpr e) (level e) least

  -- specifiers and qualifiers alone, and an abstract declarator (6.7.6)
  pub IsValidTypeName : TypeNameTree → Type 0
  IsValidTypeName (TypeName specs declarator lines) =
      OfType (OneOrMore (specs_count specs) (AreValidSpecs specs)) (IsValidDeclarator declarator)
      (IsTrue (are_qualifying specs && not (has_name declarator))) lines

  pub IsValidSpec : SpecTree → Type 0
  IsValidSpec (Key word lines) = OfOne (IsTrue (is_specifier_word word)) lines 1
  IsValidSpec (Typedef name lines) = Lines lines 1
  IsValidSpec (Record is_union tag members lines) =
      OfTag (IsTrue (is_some tag || has_members members)) (AreValidMembers members) lines (1 + one_if (is_some tag) + members_own members)
  IsValidSpec (Enum tag list last_comma lines) =
      OfTag (IsTrue (is_some tag || has_enumerators list)) (IsValidEnumeratorList list last_comma) lines
      (1 + one_if (is_some tag) + enumerators_own list last_comma)

  pub AreValidSpecs : SpecTrees → Type 0
  AreValidSpecs no_specs = ⊤
  AreValidSpecs (more_specs s ss) = IsValidSpec s × AreValidSpecs ss

  -- the members in braces, where there are braces
  pub AreValidMembers : OptionMemberDeclTrees → Type 0
  AreValidMembers no_members = ⊤
  AreValidMembers (some_members list) = OneOrMore (member_decls_count list) (AreValidMemberDecls list)

  pub IsValidMemberDecl : MemberDeclTree → Type 0
  IsValidMemberDecl (MemberDecl specs list lines) =
      OfDeclaration (OneOrMore (specs_count specs) (AreValidSpecs specs)) (IsTrue (are_qualifying specs))
      (OneOrMore (member_declarators_count list) (AreValidMemberDeclarators list)) lines (commas (member_declarators_count list) + 1)

  pub AreValidMemberDecls : MemberDeclTrees → Type 0
  AreValidMemberDecls no_member_decls = ⊤
  AreValidMemberDecls (more_member_decls m ms) = IsValidMemberDecl m × AreValidMemberDecls ms

  -- the width of a bit-field is a constant expression
  pub IsValidMemberDeclarator : MemberDeclaratorTree → Type 0
  IsValidMemberDeclarator (MemberDeclarator declarator width lines) =
      OfDeclarator (IsValidDeclarator declarator) (IsTrue (is_member declarator width)) (IsValidOption conditional_level width) lines (option_own width)

  pub AreValidMemberDeclarators : MemberDeclaratorTrees → Type 0
  AreValidMemberDeclarators no_member_declarators = ⊤
  AreValidMemberDeclarators (more_member_declarators m ms) = IsValidMemberDeclarator m × AreValidMemberDeclarators ms

  -- the enumerators in braces; a comma stands only behind an enumerator
  pub IsValidEnumeratorList : OptionEnumeratorTrees → Bool → Type 0
  IsValidEnumeratorList no_enumerator_list last_comma = last_comma ≡ false
  IsValidEnumeratorList (some_enumerator_list list) last_comma = OneOrMore (enumerators_count list) (AreValidEnumerators list)

  -- the value is a constant expression
  pub IsValidEnumerator : EnumeratorTree → Type 0
  IsValidEnumerator (Enumerator name value lines) = OfOne (IsValidOption conditional_level value) lines (1 + option_own value)

  pub AreValidEnumerators : EnumeratorTrees → Type 0
  AreValidEnumerators no_enumerators = ⊤
  AreValidEnumerators (more_enumerators e es) = IsValidEnumerator e × AreValidEnumerators es

  -- parentheses hold a declarator that isn't missing
  pub IsValidDeclarator : DeclaratorTree → Type 0
  IsValidDeclarator Missing = ⊤
  IsValidDeclarator (Identifier name lines) = Lines lines 1
  IsValidDeclarator (Group inner lines) = OfTwo (IsTrue (is_present inner)) (IsValidDeclarator inner) lines 2
  IsValidDeclarator (Pointer qualifiers of lines) = OfTwo (AreQualifiers qualifiers) (IsValidDeclarator of) lines (1 + length qualifiers)
  IsValidDeclarator (Array of brackets lines) =
      OfDirect (IsValidDeclarator of) (IsTrue (is_direct of)) (AreValidBrackets brackets) lines (length (brackets_front brackets) + 1)
  IsValidDeclarator (Function of params variadic lines) =
      OfDirect (IsValidDeclarator of) (IsTrue (is_direct of)) (OneOrMore (params_count params) (AreValidParams params)) lines
      (commas (params_count params) + 2 * one_if variadic + 2)
  IsValidDeclarator (Identifiers of names lines) =
      OfDirect (IsValidDeclarator of) (IsTrue (is_direct of)) (IsTrue (may_list names of)) lines (length names + commas (length names) + 2)

  -- the length is an assignment expression
  pub AreValidBrackets : BracketsTree → Type 0
  AreValidBrackets (Unsized qualifiers) = AreQualifiers qualifiers
  AreValidBrackets (Length qualifiers size) = AreQualifiers qualifiers × At (IsValidExpr size) (level size) assignment_level
  AreValidBrackets (StaticFirst qualifiers size) = AreQualifiers qualifiers × At (IsValidExpr size) (level size) assignment_level
  AreValidBrackets (StaticLast qualifiers size) =
      OneOrMore (length qualifiers) (AreQualifiers qualifiers) × At (IsValidExpr size) (level size) assignment_level
  AreValidBrackets (Star qualifiers) = AreQualifiers qualifiers

  pub IsValidParam : ParamTree → Type 0
  IsValidParam (Param specs declarator lines) = OfType (OneOrMore (specs_count specs) (AreValidSpecs specs)) (IsValidDeclarator declarator) ⊤ lines

  pub AreValidParams : ParamTrees → Type 0
  AreValidParams no_params = ⊤
  AreValidParams (more_params p ps) = IsValidParam p × AreValidParams ps

  -- an assignment expression, or a list
  pub IsValidInitialiser : InitialiserTree → Type 0
  IsValidInitialiser (Single e) = At (IsValidExpr e) (level e) assignment_level
  IsValidInitialiser (Braced list) = IsValidInitialiserList list

  pub IsValidInitialiserList : InitialiserListTree → Type 0
  IsValidInitialiserList (InitialiserList entries last_comma lines) =
      OfOne (OneOrMore (entries_count entries) (AreValidEntries entries)) lines (commas (entries_count entries) + one_if last_comma + 2)

  pub IsValidEntry : EntryTree → Type 0
  IsValidEntry (Entry designators init lines) = OfTwo (AreValidDesignators designators) (IsValidInitialiser init) lines (designation_own designators)

  pub AreValidEntries : EntryTrees → Type 0
  AreValidEntries no_entries = ⊤
  AreValidEntries (more_entries e es) = IsValidEntry e × AreValidEntries es

  -- an element's number is a constant expression
  pub IsValidDesignator : DesignatorTree → Type 0
  IsValidDesignator (Element at lines) = OfOne (At (IsValidExpr at) (level at) conditional_level) lines 2
  IsValidDesignator (Member name lines) = Lines lines 2

  pub AreValidDesignators : DesignatorTrees → Type 0
  AreValidDesignators no_designators = ⊤
  AreValidDesignators (more_designators d ds) = IsValidDesignator d × AreValidDesignators ds

-- ---- declarations (6.7)

abbrev pub IsValidInit : Option InitialiserTree → Type 0
IsValidInit None = ⊤
IsValidInit (Some init) = IsValidInitialiser init

-- the declarator has a name
abbrev pub IsValidInitDeclarator : InitDeclaratorTree → Type 0
IsValidInitDeclarator d = OfDeclarator (IsValidDeclarator d.declarator) (IsTrue (has_name d.declarator)) (IsValidInit d.init) d.lines (init_own d.init)

abbrev pub AreValidInitDeclarators : List InitDeclaratorTree → Type 0
AreValidInitDeclarators [] = ⊤
AreValidInitDeclarators (d ∷ ds) = IsValidInitDeclarator d × AreValidInitDeclarators ds

abbrev pub IsValidDecl : DeclTree → Type 0
IsValidDecl d =
    OfTwo (OneOrMore (specs_count d.specs) (AreValidSpecs d.specs)) (AreValidInitDeclarators d.list) d.lines (commas (length d.list) + 1)

-- ---- statements (6.8)

-- the first clause of a `for` statement (6.8.5.3)
abbrev pub IsValidFirst : ForFirstTree → Type 0
IsValidFirst (FirstValue value) = IsValidOption expression_level value
IsValidFirst (FirstDeclared decl) = IsValidDecl decl

abbrev mutual
  -- a statement behind which an `else` would belong to it (6.8.4.1p3): an `if` without one, or a statement that ends in an open one
  pub is_open : StmtTree → Bool
  is_open (Label name stmt lines) = is_open stmt
  is_open (Case value stmt lines) = is_open stmt
  is_open (Default stmt lines) = is_open stmt
  is_open (Block items lines) = false
  is_open (ExprStmt expr lines) = false
  is_open (If condition branch otherwise lines) = is_open_else otherwise
  is_open (Switch on body lines) = is_open body
  is_open (While condition body lines) = is_open body
  is_open (Do body condition lines) = false
  is_open (For first second third body lines) = is_open body
  is_open (Goto name lines) = false
  is_open (Continue lines) = false
  is_open (Break lines) = false
  is_open (Return value lines) = false

  pub is_open_else : OptionStmtTree → Bool
  is_open_else no_stmt = true
  is_open_else (some_stmt stmt) = is_open stmt

-- an `else` stands only behind a statement that isn't open
abbrev pub may_end : StmtTree → OptionStmtTree → Bool
may_end branch no_stmt = true
may_end branch (some_stmt otherwise) = not (is_open branch)

-- an `if` statement (6.8.4.1)
pub record OfIf (Condition Branch Closed Otherwise : Type 0) (lines : List ℕ) (count : ℕ) : Type 0 where
  pub condition : Condition
  pub branch : Branch
  pub closed : Closed
  pub otherwise : Otherwise
  pub own : Lines lines count

abbrev mutual
  pub IsValidStmt : StmtTree → Type 0
  IsValidStmt (Label name stmt lines) = OfOne (IsValidStmt stmt) lines 2
  -- the value is a constant expression
  IsValidStmt (Case value stmt lines) = OfTwo (At (IsValidExpr value) (level value) conditional_level) (IsValidStmt stmt) lines 2
  IsValidStmt (Default stmt lines) = OfOne (IsValidStmt stmt) lines 2
  IsValidStmt (Block items lines) = OfOne (AreValidItems items) lines 2
  IsValidStmt (ExprStmt expr lines) = OfOne (IsValidOption expression_level expr) lines 1
  IsValidStmt (If condition branch otherwise lines) =
      OfIf (At (IsValidExpr condition) (level condition) expression_level) (IsValidStmt branch) (IsTrue (may_end branch otherwise)) (IsValidElse otherwise) lines
      (3 + else_own otherwise)
  IsValidStmt (Switch on body lines) = OfTwo (At (IsValidExpr on) (level on) expression_level) (IsValidStmt body) lines 3
  IsValidStmt (While condition body lines) = OfTwo (At (IsValidExpr condition) (level condition) expression_level) (IsValidStmt body) lines 3
  IsValidStmt (Do body condition lines) = OfTwo (IsValidStmt body) (At (IsValidExpr condition) (level condition) expression_level) lines 5
  IsValidStmt (For first second third body lines) =
      OfFour (IsValidFirst first) (IsValidOption expression_level second) (IsValidOption expression_level third) (IsValidStmt body) lines (4 + first_own first)
  IsValidStmt (Goto name lines) = Lines lines 3
  IsValidStmt (Continue lines) = Lines lines 2
  IsValidStmt (Break lines) = Lines lines 2
  IsValidStmt (Return value lines) = OfOne (IsValidOption expression_level value) lines 2

  pub IsValidElse : OptionStmtTree → Type 0
  IsValidElse no_stmt = ⊤
  IsValidElse (some_stmt stmt) = IsValidStmt stmt

  pub IsValidItem : ItemTree → Type 0
  IsValidItem (Statement stmt) = IsValidStmt stmt
  IsValidItem (Declared decl) = IsValidDecl decl

  pub AreValidItems : ItemTrees → Type 0
  AreValidItems no_items = ⊤
  AreValidItems (more_items i is) = IsValidItem i × AreValidItems is

-- ---- units (6.9)

abbrev pub is_block : StmtTree → Bool
is_block (Block items lines) = true
is_block _ = false

-- a function definition: its declarator has a name, and its body is a block (6.9.1)
pub record IsValidDefinition (definition : DefinitionTree) : Type 0 where
  pub specs : OneOrMore (specs_count definition.specs) (AreValidSpecs definition.specs)
  pub declarator : IsValidDeclarator definition.declarator
  pub named : IsTrue (has_name definition.declarator)
  pub body : IsValidStmt definition.body
  pub block : IsTrue (is_block definition.body)
  pub own : Lines definition.lines 0

abbrev pub IsValidExternal : ExternalTree → Type 0
IsValidExternal (Defined definition) = IsValidDefinition definition
IsValidExternal (Declaration decl) = IsValidDecl decl

abbrev pub AreValidExternals : List ExternalTree → Type 0
AreValidExternals [] = ⊤
AreValidExternals (e ∷ es) = IsValidExternal e × AreValidExternals es

-- one external declaration or more
abbrev pub IsValidUnit : UnitTree → Type 0
IsValidUnit unit = OfOne (OneOrMore (length unit.parts) (AreValidExternals unit.parts)) unit.lines 0
