-- The names in scope in a tree (ISO C99, 6.2.1), so far as they decide whether an identifier is a typedef name (6.7.7).
--
-- Names in scope are a list of bindings, the oldest first. `new_x x` is what the tree `x` leaves in scope behind it, so the names
-- behind it are `names ++ new_x x`, and a scope is left by taking as many as there were. `XStands names x` says that in `x`, which
-- stands where these names are in scope, each identifier is a typedef name exactly where it has to be one. Members, tags, labels
-- and designators are no names of this kind (6.2.3).
use Rattle.std.specs.Prelude.{◌≡◌, ℕ, ⊤, Bool, true, false, ◌||◌, if◌then◌else◌, List, [], ◌∷◌, ◌++◌, Option, Some, None, bytes_eq}
use Rattle.cx_tree.specs.Trees.{ExprTree, Name, Number, Letter, Text, Paren, Index, Call, Dot, Arrow, PostUp, PostDown, Literal, PreUp, PreDown, Unary, SizeofExpr, SizeofType, Cast, Binary, Cond, Assign, Comma, ExprTrees, no_exprs, more_exprs, OptionExprTree, no_expr, some_expr, TypeNameTree, TypeName, SpecTree, Key, Typedef, Record, Enum, SpecTrees, no_specs, more_specs, MemberDeclTree, MemberDecl, MemberDeclTrees, no_member_decls, more_member_decls, OptionMemberDeclTrees, no_members, some_members, MemberDeclaratorTree, MemberDeclarator, MemberDeclaratorTrees, no_member_declarators, more_member_declarators, EnumeratorTree, Enumerator, EnumeratorTrees, no_enumerators, more_enumerators, OptionEnumeratorTrees, no_enumerator_list, some_enumerator_list, DeclaratorTree, Missing, Identifier, Group, Pointer, Array, Function, Identifiers, BracketsTree, Unsized, Length, StaticFirst, StaticLast, Star, ParamTree, Param, ParamTrees, no_params, more_params, InitialiserTree, Single, Braced, InitialiserListTree, InitialiserList, EntryTree, Entry, EntryTrees, no_entries, more_entries, DesignatorTree, Element, Member, DesignatorTrees, no_designators, more_designators, InitDeclaratorTree, DeclTree, ForFirstTree, FirstValue, FirstDeclared, StmtTree, Label, Case, Default, Block, ExprStmt, If, Switch, While, Do, For, Goto, Continue, Break, Return, OptionStmtTree, no_stmt, some_stmt, ItemTree, Statement, Declared, ItemTrees, no_items, more_items, DefinitionTree, ExternalTree, Defined, Declaration, UnitTree}
use Rattle.cx_tree.specs.Words.{is_type_word, is_typedef_word}

-- ---- bindings

-- a declared name of an object, a function or an enumerator, or where `is_type` is true a typedef name
pub record Binding : Type 0 where
  pub name : List ℕ
  pub is_type : Bool

-- what the newest binding of a name says, or `found` where there is none
abbrev pub latest : Bool → List Binding → List ℕ → Bool
latest found [] name = found
latest found (binding ∷ names) name = latest (if bytes_eq binding.name name then binding.is_type else found) names name

-- an identifier is a typedef name where its innermost declaration makes it one
abbrev pub is_type : List Binding → List ℕ → Bool
is_type names name = latest false names name

-- an identifier, where there is one, isn't a typedef name
abbrev pub IsOrdinary : List Binding → Option (List ℕ) → Type 0
IsOrdinary names None = ⊤
IsOrdinary names (Some name) = is_type names name ≡ false

abbrev pub AreOrdinary : List Binding → List (List ℕ) → Type 0
AreOrdinary names [] = ⊤
AreOrdinary names (name ∷ others) = (is_type names name ≡ false) × AreOrdinary names others

-- ---- specifiers

-- a type specifier (6.7.2)
abbrev pub is_type_specifier : SpecTree → Bool
is_type_specifier (Key word lines) = is_type_word word
is_type_specifier (Typedef name lines) = true
is_type_specifier (Record is_union tag _ lines) = true
is_type_specifier (Enum tag list last_comma lines) = true

abbrev pub has_type_specifier : SpecTrees → Bool
has_type_specifier no_specs = false
has_type_specifier (more_specs s ss) = is_type_specifier s || has_type_specifier ss

-- the keyword `typedef` (6.7.1)
abbrev pub is_typedef_specifier : SpecTree → Bool
is_typedef_specifier (Key word lines) = is_typedef_word word
is_typedef_specifier (Typedef name lines) = false
is_typedef_specifier (Record is_union tag _ lines) = false
is_typedef_specifier (Enum tag list last_comma lines) = false

-- what is declared is a typedef name (6.7.7)
abbrev pub says_typedef : SpecTrees → Bool
says_typedef no_specs = false
says_typedef (more_specs s ss) = is_typedef_specifier s || says_typedef ss

-- ---- declarators

-- the binding of a name, where there is one
abbrev pub binding_of : Bool → Option (List ℕ) → List Binding
binding_of is_type None = []
binding_of is_type (Some name) = record { name = name; is_type = is_type } ∷ []

-- the identifier that a declarator declares; an abstract one declares none
abbrev pub declared_name : DeclaratorTree → Option (List ℕ)
declared_name Missing = None
declared_name (Identifier name lines) = Some name
declared_name (Group inner lines) = declared_name inner
declared_name (Pointer qualifiers of lines) = declared_name of
declared_name (Array of brackets lines) = declared_name of
declared_name (Function of _ variadic lines) = declared_name of
declared_name (Identifiers of names lines) = declared_name of

-- the binding that a declarator with a name makes behind these specifiers
abbrev pub bound : SpecTrees → DeclaratorTree → List Binding
bound specs declarator = binding_of (says_typedef specs) (declared_name declarator)

-- the identifier that a declarator begins with
abbrev pub first_name : DeclaratorTree → Option (List ℕ)
first_name Missing = None
first_name (Identifier name lines) = Some name
first_name (Group inner lines) = None
first_name (Pointer qualifiers of lines) = None
first_name (Array of brackets lines) = first_name of
first_name (Function of _ variadic lines) = first_name of
first_name (Identifiers of names lines) = first_name of

-- Behind specifiers, of which this one says whether a type specifier is among them: where there is none, an identifier that can
-- be a typedef name is one, and belongs to the specifiers. So a declarator behind them doesn't begin with such an identifier.
abbrev pub StandsBehind : Bool → List Binding → DeclaratorTree → Type 0
StandsBehind true names declarator = ⊤
StandsBehind false names declarator = IsOrdinary names (first_name declarator)

-- In a parameter (true), an identifier behind `(` that can be a typedef name is one, and begins a list of parameters (6.7.5.3p11).
-- So a declarator in parentheses doesn't begin with such an identifier.
abbrev pub StandsInGroup : Bool → List Binding → DeclaratorTree → Type 0
StandsInGroup true names inner = IsOrdinary names (first_name inner)
StandsInGroup false names inner = ⊤

-- ---- what stays in scope behind a tree: expressions, and what stands in them (6.5, 6.7)

abbrev mutual
  pub new_expr : ExprTree → List Binding
  new_expr (Name name lines) = []
  new_expr (Number value ty lines) = []
  new_expr (Letter value lines) = []
  new_expr (Text parts lines) = []
  new_expr (Paren inner lines) = new_expr inner
  new_expr (Index of index lines) = new_expr of ++ new_expr index
  new_expr (Call of args lines) = new_expr of ++ new_exprs args
  new_expr (Dot of member lines) = new_expr of
  new_expr (Arrow of member lines) = new_expr of
  new_expr (PostUp of lines) = new_expr of
  new_expr (PostDown of lines) = new_expr of
  new_expr (Literal of list lines) = new_type_name of ++ new_initialiser_list list
  new_expr (PreUp on lines) = new_expr on
  new_expr (PreDown on lines) = new_expr on
  new_expr (Unary op on lines) = new_expr on
  new_expr (SizeofExpr on lines) = new_expr on
  new_expr (SizeofType of lines) = new_type_name of
  new_expr (Cast to on lines) = new_type_name to ++ new_expr on
  new_expr (Binary left op right lines) = new_expr left ++ new_expr right
  new_expr (Cond condition if_true if_false lines) = new_expr condition ++ (new_expr if_true ++ new_expr if_false)
  new_expr (Assign left op right lines) = new_expr left ++ new_expr right
  new_expr (Comma left right lines) = new_expr left ++ new_expr right

  pub new_exprs : ExprTrees → List Binding
  new_exprs no_exprs = []
  new_exprs (more_exprs e es) = new_expr e ++ new_exprs es

  pub new_option : OptionExprTree → List Binding
  new_option no_expr = []
  new_option (some_expr e) = new_expr e

  pub new_type_name : TypeNameTree → List Binding
  new_type_name (TypeName specs declarator lines) = new_specs specs ++ new_declarator declarator

  -- the enumerators; those among a record's members are in scope behind the record too
  pub new_spec : SpecTree → List Binding
  new_spec (Key word lines) = []
  new_spec (Typedef name lines) = []
  new_spec (Record is_union tag members lines) = new_members members
  new_spec (Enum tag list last_comma lines) = new_enumerator_list list

  pub new_specs : SpecTrees → List Binding
  new_specs no_specs = []
  new_specs (more_specs s ss) = new_spec s ++ new_specs ss

  pub new_members : OptionMemberDeclTrees → List Binding
  new_members no_members = []
  new_members (some_members list) = new_member_decls list

  pub new_member_decl : MemberDeclTree → List Binding
  new_member_decl (MemberDecl specs list lines) = new_specs specs ++ new_member_declarators list

  pub new_member_decls : MemberDeclTrees → List Binding
  new_member_decls no_member_decls = []
  new_member_decls (more_member_decls m ms) = new_member_decl m ++ new_member_decls ms

  pub new_member_declarator : MemberDeclaratorTree → List Binding
  new_member_declarator (MemberDeclarator declarator width lines) = new_declarator declarator ++ new_option width

  pub new_member_declarators : MemberDeclaratorTrees → List Binding
  new_member_declarators no_member_declarators = []
  new_member_declarators (more_member_declarators m ms) = new_member_declarator m ++ new_member_declarators ms

  pub new_enumerator_list : OptionEnumeratorTrees → List Binding
  new_enumerator_list no_enumerator_list = []
  new_enumerator_list (some_enumerator_list list) = new_enumerators list

  -- an enumerator is in scope behind its value (6.2.1p7)
  pub new_enumerator : EnumeratorTree → List Binding
  new_enumerator (Enumerator name value lines) = new_option value ++ record { name = name; is_type = false } ∷ []

  pub new_enumerators : EnumeratorTrees → List Binding
  new_enumerators no_enumerators = []
  new_enumerators (more_enumerators e es) = new_enumerator e ++ new_enumerators es

  -- what the lengths in a declarator declare; what a list of parameters declares ends with the list (6.2.1p4)
  pub new_declarator : DeclaratorTree → List Binding
  new_declarator Missing = []
  new_declarator (Identifier name lines) = []
  new_declarator (Group inner lines) = new_declarator inner
  new_declarator (Pointer qualifiers of lines) = new_declarator of
  new_declarator (Array of brackets lines) = new_declarator of ++ new_brackets brackets
  new_declarator (Function of _ variadic lines) = new_declarator of
  new_declarator (Identifiers of names lines) = new_declarator of

  pub new_brackets : BracketsTree → List Binding
  new_brackets (Unsized qualifiers) = []
  new_brackets (Length qualifiers size) = new_expr size
  new_brackets (StaticFirst qualifiers size) = new_expr size
  new_brackets (StaticLast qualifiers size) = new_expr size
  new_brackets (Star qualifiers) = []

  -- a parameter is in scope behind its declarator
  pub new_param : ParamTree → List Binding
  new_param (Param specs declarator lines) = new_specs specs ++ (new_declarator declarator ++ bound specs declarator)

  pub new_params : ParamTrees → List Binding
  new_params no_params = []
  new_params (more_params p ps) = new_param p ++ new_params ps

  pub new_initialiser : InitialiserTree → List Binding
  new_initialiser (Single e) = new_expr e
  new_initialiser (Braced list) = new_initialiser_list list

  pub new_initialiser_list : InitialiserListTree → List Binding
  new_initialiser_list (InitialiserList entries last_comma lines) = new_entries entries

  pub new_entry : EntryTree → List Binding
  new_entry (Entry designators init lines) = new_designators designators ++ new_initialiser init

  pub new_entries : EntryTrees → List Binding
  new_entries no_entries = []
  new_entries (more_entries e es) = new_entry e ++ new_entries es

  pub new_designator : DesignatorTree → List Binding
  new_designator (Element at lines) = new_expr at
  new_designator (Member name lines) = []

  pub new_designators : DesignatorTrees → List Binding
  new_designators no_designators = []
  new_designators (more_designators d ds) = new_designator d ++ new_designators ds

-- ---- how a tree stands: expressions, and what stands in them (6.5, 6.7)

-- three parts, in text order
pub record AllThree (First Second Third : Type 0) : Type 0 where
  pub first : First
  pub second : Second
  pub third : Third

-- specifiers, the first declarator behind them, and what they declare
pub record InDeclaration (Specs Behind Declared : Type 0) : Type 0 where
  pub specs : Specs
  pub behind : Behind
  pub declared : Declared

abbrev mutual
  pub ExprStands : List Binding → ExprTree → Type 0
  ExprStands names (Name name lines) = is_type names name ≡ false
  ExprStands names (Number value ty lines) = ⊤
  ExprStands names (Letter value lines) = ⊤
  ExprStands names (Text parts lines) = ⊤
  ExprStands names (Paren inner lines) = ExprStands names inner
  ExprStands names (Index of index lines) = ExprStands names of × ExprStands (names ++ new_expr of) index
  ExprStands names (Call of args lines) = ExprStands names of × ExprsStand (names ++ new_expr of) args
  ExprStands names (Dot of member lines) = ExprStands names of
  ExprStands names (Arrow of member lines) = ExprStands names of
  ExprStands names (PostUp of lines) = ExprStands names of
  ExprStands names (PostDown of lines) = ExprStands names of
  ExprStands names (Literal of list lines) = TypeNameStands names of × InitialiserListStands (names ++ new_type_name of) list
  ExprStands names (PreUp on lines) = ExprStands names on
  ExprStands names (PreDown on lines) = ExprStands names on
  ExprStands names (Unary op on lines) = ExprStands names on
  ExprStands names (SizeofExpr on lines) = ExprStands names on
  ExprStands names (SizeofType of lines) = TypeNameStands names of
  ExprStands names (Cast to on lines) = TypeNameStands names to × ExprStands (names ++ new_type_name to) on
  ExprStands names (Binary left op right lines) = ExprStands names left × ExprStands (names ++ new_expr left) right
  ExprStands names (Cond condition if_true if_false lines) =
      AllThree (ExprStands names condition) (ExprStands (names ++ new_expr condition) if_true) (ExprStands ((names ++ new_expr condition) ++ new_expr if_true) if_false)
  ExprStands names (Assign left op right lines) = ExprStands names left × ExprStands (names ++ new_expr left) right
  ExprStands names (Comma left right lines) = ExprStands names left × ExprStands (names ++ new_expr left) right

  pub ExprsStand : List Binding → ExprTrees → Type 0
  ExprsStand names no_exprs = ⊤
  ExprsStand names (more_exprs e es) = ExprStands names e × ExprsStand (names ++ new_expr e) es

  pub OptionStands : List Binding → OptionExprTree → Type 0
  OptionStands names no_expr = ⊤
  OptionStands names (some_expr e) = ExprStands names e

  -- its declarator is abstract, and begins with no identifier
  pub TypeNameStands : List Binding → TypeNameTree → Type 0
  TypeNameStands names (TypeName specs declarator lines) =
      InDeclaration (SpecsStand names false specs) (StandsBehind (has_type_specifier specs) (names ++ new_specs specs) declarator)
      (DeclaratorStands false (names ++ new_specs specs) declarator)

  -- the truth value says whether a type specifier stands before it
  pub SpecStands : List Binding → Bool → SpecTree → Type 0
  SpecStands names typed (Key word lines) = ⊤
  SpecStands names typed (Typedef name lines) = (is_type names name ≡ true) × (typed ≡ false)
  SpecStands names typed (Record is_union tag members lines) = MembersStand names members
  SpecStands names typed (Enum tag list last_comma lines) = EnumeratorListStands names list

  pub SpecsStand : List Binding → Bool → SpecTrees → Type 0
  SpecsStand names typed no_specs = ⊤
  SpecsStand names typed (more_specs s ss) = SpecStands names typed s × SpecsStand (names ++ new_spec s) (typed || is_type_specifier s) ss

  pub MembersStand : List Binding → OptionMemberDeclTrees → Type 0
  MembersStand names no_members = ⊤
  MembersStand names (some_members list) = MemberDeclsStand names list

  pub MemberDeclStands : List Binding → MemberDeclTree → Type 0
  MemberDeclStands names (MemberDecl specs list lines) =
      InDeclaration (SpecsStand names false specs) (MembersStandBehind (has_type_specifier specs) (names ++ new_specs specs) list)
      (MemberDeclaratorsStand (names ++ new_specs specs) list)

  pub MemberDeclsStand : List Binding → MemberDeclTrees → Type 0
  MemberDeclsStand names no_member_decls = ⊤
  MemberDeclsStand names (more_member_decls m ms) = MemberDeclStands names m × MemberDeclsStand (names ++ new_member_decl m) ms

  pub MemberDeclaratorStands : List Binding → MemberDeclaratorTree → Type 0
  MemberDeclaratorStands names (MemberDeclarator declarator width lines) =
      DeclaratorStands false names declarator × OptionStands (names ++ new_declarator declarator) width

  pub MemberDeclaratorsStand : List Binding → MemberDeclaratorTrees → Type 0
  MemberDeclaratorsStand names no_member_declarators = ⊤
  MemberDeclaratorsStand names (more_member_declarators m ms) =
      MemberDeclaratorStands names m × MemberDeclaratorsStand (names ++ new_member_declarator m) ms

  -- the first declarator alone stands behind the specifiers
  pub MembersStandBehind : Bool → List Binding → MemberDeclaratorTrees → Type 0
  MembersStandBehind typed names no_member_declarators = ⊤
  MembersStandBehind typed names (more_member_declarators (MemberDeclarator declarator width lines) ms) = StandsBehind typed names declarator

  pub EnumeratorListStands : List Binding → OptionEnumeratorTrees → Type 0
  EnumeratorListStands names no_enumerator_list = ⊤
  EnumeratorListStands names (some_enumerator_list list) = EnumeratorsStand names list

  pub EnumeratorStands : List Binding → EnumeratorTree → Type 0
  EnumeratorStands names (Enumerator name value lines) = OptionStands names value

  pub EnumeratorsStand : List Binding → EnumeratorTrees → Type 0
  EnumeratorsStand names no_enumerators = ⊤
  EnumeratorsStand names (more_enumerators e es) = EnumeratorStands names e × EnumeratorsStand (names ++ new_enumerator e) es

  -- the truth value says whether the declarator is a parameter's
  pub DeclaratorStands : Bool → List Binding → DeclaratorTree → Type 0
  DeclaratorStands in_parameter names Missing = ⊤
  DeclaratorStands in_parameter names (Identifier name lines) = ⊤
  DeclaratorStands in_parameter names (Group inner lines) = StandsInGroup in_parameter names inner × DeclaratorStands in_parameter names inner
  DeclaratorStands in_parameter names (Pointer qualifiers of lines) = DeclaratorStands in_parameter names of
  DeclaratorStands in_parameter names (Array of brackets lines) =
      DeclaratorStands in_parameter names of × BracketsStand (names ++ new_declarator of) brackets
  DeclaratorStands in_parameter names (Function of params variadic lines) =
      DeclaratorStands in_parameter names of × ParamsStand (names ++ new_declarator of) params
  DeclaratorStands in_parameter names (Identifiers of listed lines) =
      DeclaratorStands in_parameter names of × AreOrdinary (names ++ new_declarator of) listed

  pub BracketsStand : List Binding → BracketsTree → Type 0
  BracketsStand names (Unsized qualifiers) = ⊤
  BracketsStand names (Length qualifiers size) = ExprStands names size
  BracketsStand names (StaticFirst qualifiers size) = ExprStands names size
  BracketsStand names (StaticLast qualifiers size) = ExprStands names size
  BracketsStand names (Star qualifiers) = ⊤

  pub ParamStands : List Binding → ParamTree → Type 0
  ParamStands names (Param specs declarator lines) =
      InDeclaration (SpecsStand names false specs) (StandsBehind (has_type_specifier specs) (names ++ new_specs specs) declarator)
      (DeclaratorStands true (names ++ new_specs specs) declarator)

  pub ParamsStand : List Binding → ParamTrees → Type 0
  ParamsStand names no_params = ⊤
  ParamsStand names (more_params p ps) = ParamStands names p × ParamsStand (names ++ new_param p) ps

  pub InitialiserStands : List Binding → InitialiserTree → Type 0
  InitialiserStands names (Single e) = ExprStands names e
  InitialiserStands names (Braced list) = InitialiserListStands names list

  pub InitialiserListStands : List Binding → InitialiserListTree → Type 0
  InitialiserListStands names (InitialiserList entries last_comma lines) = EntriesStand names entries

  pub EntryStands : List Binding → EntryTree → Type 0
  EntryStands names (Entry designators init lines) = DesignatorsStand names designators × InitialiserStands (names ++ new_designators designators) init

  pub EntriesStand : List Binding → EntryTrees → Type 0
  EntriesStand names no_entries = ⊤
  EntriesStand names (more_entries e es) = EntryStands names e × EntriesStand (names ++ new_entry e) es

  pub DesignatorStands : List Binding → DesignatorTree → Type 0
  DesignatorStands names (Element at lines) = ExprStands names at
  DesignatorStands names (Member name lines) = ⊤

  pub DesignatorsStand : List Binding → DesignatorTrees → Type 0
  DesignatorsStand names no_designators = ⊤
  DesignatorsStand names (more_designators d ds) = DesignatorStands names d × DesignatorsStand (names ++ new_designator d) ds

-- ---- declarations (6.7)

abbrev pub new_init : Option InitialiserTree → List Binding
new_init None = []
new_init (Some init) = new_initialiser init

-- the declared name is in scope behind its declarator, and in the initialiser (6.2.1p7)
abbrev pub new_declared : SpecTrees → DeclaratorTree → List Binding
new_declared specs declarator = new_declarator declarator ++ bound specs declarator

abbrev pub new_init_declarator : SpecTrees → InitDeclaratorTree → List Binding
new_init_declarator specs d = new_declared specs d.declarator ++ new_init d.init

abbrev pub new_init_declarators : SpecTrees → List InitDeclaratorTree → List Binding
new_init_declarators specs [] = []
new_init_declarators specs (d ∷ ds) = new_init_declarator specs d ++ new_init_declarators specs ds

abbrev pub new_decl : DeclTree → List Binding
new_decl d = new_specs d.specs ++ new_init_declarators d.specs d.list

abbrev pub InitStands : List Binding → Option InitialiserTree → Type 0
InitStands names None = ⊤
InitStands names (Some init) = InitialiserStands names init

abbrev pub InitDeclaratorStands : SpecTrees → List Binding → InitDeclaratorTree → Type 0
InitDeclaratorStands specs names d = DeclaratorStands false names d.declarator × InitStands (names ++ new_declared specs d.declarator) d.init

abbrev pub InitDeclaratorsStand : SpecTrees → List Binding → List InitDeclaratorTree → Type 0
InitDeclaratorsStand specs names [] = ⊤
InitDeclaratorsStand specs names (d ∷ ds) =
    InitDeclaratorStands specs names d × InitDeclaratorsStand specs (names ++ new_init_declarator specs d) ds

-- the first declarator alone stands behind the specifiers
abbrev pub DeclaratorsStandBehind : Bool → List Binding → List InitDeclaratorTree → Type 0
DeclaratorsStandBehind typed names [] = ⊤
DeclaratorsStandBehind typed names (d ∷ ds) = StandsBehind typed names d.declarator

abbrev pub DeclStands : List Binding → DeclTree → Type 0
DeclStands names d =
    InDeclaration (SpecsStand names false d.specs) (DeclaratorsStandBehind (has_type_specifier d.specs) (names ++ new_specs d.specs) d.list)
    (InitDeclaratorsStand d.specs (names ++ new_specs d.specs) d.list)

-- ---- statements (6.8)

abbrev pub new_first : ForFirstTree → List Binding
new_first (FirstValue value) = new_option value
new_first (FirstDeclared decl) = new_decl decl

-- A block, a selection statement and an iteration statement are scopes (6.8.2, 6.8.4p3, 6.8.5p5), and leave nothing behind. What
-- the expressions of any other statement declare stays to the end of the block that it stands in.
abbrev pub new_stmt : StmtTree → List Binding
new_stmt (Label name stmt lines) = new_stmt stmt
new_stmt (Case value stmt lines) = new_expr value ++ new_stmt stmt
new_stmt (Default stmt lines) = new_stmt stmt
new_stmt (Block items lines) = []
new_stmt (ExprStmt expr lines) = new_option expr
new_stmt (If condition branch otherwise lines) = []
new_stmt (Switch on body lines) = []
new_stmt (While condition body lines) = []
new_stmt (Do body condition lines) = []
new_stmt (For first second third body lines) = []
new_stmt (Goto name lines) = []
new_stmt (Continue lines) = []
new_stmt (Break lines) = []
new_stmt (Return value lines) = new_option value

abbrev pub new_item : ItemTree → List Binding
new_item (Statement stmt) = new_stmt stmt
new_item (Declared decl) = new_decl decl

abbrev pub FirstStands : List Binding → ForFirstTree → Type 0
FirstStands names (FirstValue value) = OptionStands names value
FirstStands names (FirstDeclared decl) = DeclStands names decl

-- the clauses of a `for` statement and its body, in text order
pub record InFor (First Second Third Body : Type 0) : Type 0 where
  pub first : First
  pub second : Second
  pub third : Third
  pub body : Body

abbrev mutual
  -- a branch and a body are scopes of their own (6.8.4p3, 6.8.5p5): what they declare isn't seen behind them
  pub StmtStands : List Binding → StmtTree → Type 0
  StmtStands names (Label name stmt lines) = StmtStands names stmt
  StmtStands names (Case value stmt lines) = ExprStands names value × StmtStands (names ++ new_expr value) stmt
  StmtStands names (Default stmt lines) = StmtStands names stmt
  StmtStands names (Block items lines) = ItemsStand names items
  StmtStands names (ExprStmt expr lines) = OptionStands names expr
  StmtStands names (If condition branch otherwise lines) =
      AllThree (ExprStands names condition) (StmtStands (names ++ new_expr condition) branch) (ElseStands (names ++ new_expr condition) otherwise)
  StmtStands names (Switch on body lines) = ExprStands names on × StmtStands (names ++ new_expr on) body
  StmtStands names (While condition body lines) = ExprStands names condition × StmtStands (names ++ new_expr condition) body
  StmtStands names (Do body condition lines) = StmtStands names body × ExprStands names condition
  StmtStands names (For first second third body lines) =
      InFor (FirstStands names first) (OptionStands (names ++ new_first first) second) (OptionStands ((names ++ new_first first) ++ new_option second) third)
      (StmtStands (((names ++ new_first first) ++ new_option second) ++ new_option third) body)
  StmtStands names (Goto name lines) = ⊤
  StmtStands names (Continue lines) = ⊤
  StmtStands names (Break lines) = ⊤
  StmtStands names (Return value lines) = OptionStands names value

  pub ElseStands : List Binding → OptionStmtTree → Type 0
  ElseStands names no_stmt = ⊤
  ElseStands names (some_stmt stmt) = StmtStands names stmt

  pub ItemStands : List Binding → ItemTree → Type 0
  ItemStands names (Statement stmt) = StmtStands names stmt
  ItemStands names (Declared decl) = DeclStands names decl

  pub ItemsStand : List Binding → ItemTrees → Type 0
  ItemsStand names no_items = ⊤
  ItemsStand names (more_items i is) = ItemStands names i × ItemsStand (names ++ new_item i) is

-- ---- units (6.9)

-- a declared identifier, which may stand in parentheses
abbrev pub is_identifier : DeclaratorTree → Bool
is_identifier (Identifier name lines) = true
is_identifier (Group inner lines) = is_identifier inner
is_identifier _ = false

-- the parameters of the function that a declarator declares, which are in scope in its body (6.2.1p4): those of the list that
-- follows the identifier
abbrev pub own_params : DeclaratorTree → ParamTrees
own_params Missing = no_params
own_params (Identifier name lines) = no_params
own_params (Group inner lines) = own_params inner
own_params (Pointer qualifiers of lines) = own_params of
own_params (Array of brackets lines) = own_params of
own_params (Function of params variadic lines) = if is_identifier of then params else own_params of
own_params (Identifiers of names lines) = own_params of

abbrev pub new_definition : DefinitionTree → List Binding
new_definition d = new_specs d.specs ++ new_declared d.specs d.declarator

-- a function definition; the function's name is in scope in its body, and is older there than the parameters
pub record DefinitionStands (names : List Binding) (d : DefinitionTree) : Type 0 where
  pub specs : SpecsStand names false d.specs
  pub behind : StandsBehind (has_type_specifier d.specs) (names ++ new_specs d.specs) d.declarator
  pub declarator : DeclaratorStands false (names ++ new_specs d.specs) d.declarator
  pub body : StmtStands ((names ++ new_definition d) ++ new_params (own_params d.declarator)) d.body

abbrev pub new_external : ExternalTree → List Binding
new_external (Defined definition) = new_definition definition
new_external (Declaration decl) = new_decl decl

abbrev pub ExternalStands : List Binding → ExternalTree → Type 0
ExternalStands names (Defined definition) = DefinitionStands names definition
ExternalStands names (Declaration decl) = DeclStands names decl

abbrev pub ExternalsStand : List Binding → List ExternalTree → Type 0
ExternalsStand names [] = ⊤
ExternalsStand names (e ∷ es) = ExternalStands names e × ExternalsStand (names ++ new_external e) es

abbrev pub UnitStands : List Binding → UnitTree → Type 0
UnitStands names unit = ExternalsStand names unit.parts
