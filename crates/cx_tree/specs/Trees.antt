-- The syntax trees of a C unit (ISO C99, 6.5 to 6.9), without memory. The last list of a node is the lines of the tokens that
-- it prints itself, in text order. Lists, options and a missing declarator are no nodes.
use Rattle.std.specs.Prelude.{ℕ, ℤ, Bool, List, Option}
use Rattle.cx_lex.specs.declared.token.Keyword.{Keyword}
use Rattle.cx_lex.specs.declared.token.Punct.{Punct}
use Rattle.cx_lex.specs.declared.token.Ty0.{Ty0}

mutual
  -- expressions (6.5)
  pub data ExprTree : Type 0 where
    -- an identifier, by its bytes
    Name : List ℕ → List ℕ → ExprTree
    -- an integer constant: its value and its type
    Number : ℕ → Ty0 → List ℕ → ExprTree
    -- a character constant, by its value
    Letter : ℤ → List ℕ → ExprTree
    -- adjacent string literals, each by its bytes
    Text : List (List ℕ) → List ℕ → ExprTree
    Paren : ExprTree → List ℕ → ExprTree
    -- `of [ index ]`
    Index : ExprTree → ExprTree → List ℕ → ExprTree
    Call : ExprTree → ExprTrees → List ℕ → ExprTree
    -- `of . member` and `of -> member`
    Dot : ExprTree → List ℕ → List ℕ → ExprTree
    Arrow : ExprTree → List ℕ → List ℕ → ExprTree
    PostUp : ExprTree → List ℕ → ExprTree
    PostDown : ExprTree → List ℕ → ExprTree
    -- `( of ) { .. }`
    Literal : TypeNameTree → InitialiserListTree → List ℕ → ExprTree
    PreUp : ExprTree → List ℕ → ExprTree
    PreDown : ExprTree → List ℕ → ExprTree
    Unary : Punct → ExprTree → List ℕ → ExprTree
    SizeofExpr : ExprTree → List ℕ → ExprTree
    SizeofType : TypeNameTree → List ℕ → ExprTree
    Cast : TypeNameTree → ExprTree → List ℕ → ExprTree
    Binary : ExprTree → Punct → ExprTree → List ℕ → ExprTree
    -- `condition ? if_true : if_false`
    Cond : ExprTree → ExprTree → ExprTree → List ℕ → ExprTree
    Assign : ExprTree → Punct → ExprTree → List ℕ → ExprTree
    Comma : ExprTree → ExprTree → List ℕ → ExprTree

  pub data ExprTrees : Type 0 where
    no_exprs : ExprTrees
    more_exprs : ExprTree → ExprTrees → ExprTrees

  -- an expression that may be missing
  pub data OptionExprTree : Type 0 where
    no_expr : OptionExprTree
    some_expr : ExprTree → OptionExprTree

  -- type names (6.7.6)
  pub data TypeNameTree : Type 0 where
    TypeName : SpecTrees → DeclaratorTree → List ℕ → TypeNameTree

  -- specifiers and qualifiers (6.7.1 to 6.7.4)
  pub data SpecTree : Type 0 where
    -- a storage class, a type specifier that is one keyword, a qualifier or `inline`
    Key : Keyword → List ℕ → SpecTree
    -- a typedef name
    Typedef : List ℕ → List ℕ → SpecTree
    -- a structure, or where true a union: its tag and its members
    Record : Bool → Option (List ℕ) → OptionMemberDeclTrees → List ℕ → SpecTree
    -- an enumerated type: its tag, its enumerators, and whether a comma stands behind the last one
    Enum : Option (List ℕ) → OptionEnumeratorTrees → Bool → List ℕ → SpecTree

  pub data SpecTrees : Type 0 where
    no_specs : SpecTrees
    more_specs : SpecTree → SpecTrees → SpecTrees

  -- declarations of members (6.7.2.1)
  pub data MemberDeclTree : Type 0 where
    MemberDecl : SpecTrees → MemberDeclaratorTrees → List ℕ → MemberDeclTree

  pub data MemberDeclTrees : Type 0 where
    no_member_decls : MemberDeclTrees
    more_member_decls : MemberDeclTree → MemberDeclTrees → MemberDeclTrees

  -- a list of members in braces that may be missing
  pub data OptionMemberDeclTrees : Type 0 where
    no_members : OptionMemberDeclTrees
    some_members : MemberDeclTrees → OptionMemberDeclTrees

  -- a declarator of a member, and the width of a bit-field (6.7.2.1)
  pub data MemberDeclaratorTree : Type 0 where
    MemberDeclarator : DeclaratorTree → OptionExprTree → List ℕ → MemberDeclaratorTree

  pub data MemberDeclaratorTrees : Type 0 where
    no_member_declarators : MemberDeclaratorTrees
    more_member_declarators : MemberDeclaratorTree → MemberDeclaratorTrees → MemberDeclaratorTrees

  -- enumerators (6.7.2.2)
  pub data EnumeratorTree : Type 0 where
    Enumerator : List ℕ → OptionExprTree → List ℕ → EnumeratorTree

  pub data EnumeratorTrees : Type 0 where
    no_enumerators : EnumeratorTrees
    more_enumerators : EnumeratorTree → EnumeratorTrees → EnumeratorTrees

  -- a list of enumerators in braces that may be missing
  pub data OptionEnumeratorTrees : Type 0 where
    no_enumerator_list : OptionEnumeratorTrees
    some_enumerator_list : EnumeratorTrees → OptionEnumeratorTrees

  -- declarators (6.7.5), abstract ones too (6.7.6)
  pub data DeclaratorTree : Type 0 where
    Missing : DeclaratorTree
    Identifier : List ℕ → List ℕ → DeclaratorTree
    -- `( inner )`
    Group : DeclaratorTree → List ℕ → DeclaratorTree
    -- `* qualifiers of`
    Pointer : List Keyword → DeclaratorTree → List ℕ → DeclaratorTree
    Array : DeclaratorTree → BracketsTree → List ℕ → DeclaratorTree
    -- a function with parameters; true: `, ...` stands behind them
    Function : DeclaratorTree → ParamTrees → Bool → List ℕ → DeclaratorTree
    -- a function with a list of identifiers, which may be empty
    Identifiers : DeclaratorTree → List (List ℕ) → List ℕ → DeclaratorTree

  -- what stands in the brackets of an array (6.7.5.2); the tokens are the array's
  pub data BracketsTree : Type 0 where
    -- `[ qualifiers ]`
    Unsized : List Keyword → BracketsTree
    -- `[ qualifiers length ]`
    Length : List Keyword → ExprTree → BracketsTree
    -- `[ static qualifiers length ]`
    StaticFirst : List Keyword → ExprTree → BracketsTree
    -- `[ qualifiers static length ]`
    StaticLast : List Keyword → ExprTree → BracketsTree
    -- `[ qualifiers * ]`
    Star : List Keyword → BracketsTree

  -- parameter declarations (6.7.5)
  pub data ParamTree : Type 0 where
    Param : SpecTrees → DeclaratorTree → List ℕ → ParamTree

  pub data ParamTrees : Type 0 where
    no_params : ParamTrees
    more_params : ParamTree → ParamTrees → ParamTrees

  -- initialisers (6.7.8)
  pub data InitialiserTree : Type 0 where
    Single : ExprTree → InitialiserTree
    Braced : InitialiserListTree → InitialiserTree

  -- a list in braces; true: a comma stands behind the last entry
  pub data InitialiserListTree : Type 0 where
    InitialiserList : EntryTrees → Bool → List ℕ → InitialiserListTree

  -- an initialiser in a list, with its designators
  pub data EntryTree : Type 0 where
    Entry : DesignatorTrees → InitialiserTree → List ℕ → EntryTree

  pub data EntryTrees : Type 0 where
    no_entries : EntryTrees
    more_entries : EntryTree → EntryTrees → EntryTrees

  pub data DesignatorTree : Type 0 where
    -- `[ at ]`
    Element : ExprTree → List ℕ → DesignatorTree
    -- `. name`
    Member : List ℕ → List ℕ → DesignatorTree

  pub data DesignatorTrees : Type 0 where
    no_designators : DesignatorTrees
    more_designators : DesignatorTree → DesignatorTrees → DesignatorTrees

-- a declarator with the initialiser of what it declares (6.7)
pub record InitDeclaratorTree : Type 0 where
  pub declarator : DeclaratorTree
  pub init : Option InitialiserTree
  pub lines : List ℕ

-- declarations (6.7)
pub record DeclTree : Type 0 where
  pub specs : SpecTrees
  pub list : List InitDeclaratorTree
  pub lines : List ℕ

-- the first clause of a `for` statement (6.8.5.3)
pub data ForFirstTree : Type 0 where
  FirstValue : OptionExprTree → ForFirstTree
  FirstDeclared : DeclTree → ForFirstTree

mutual
  -- statements (6.8)
  pub data StmtTree : Type 0 where
    Label : List ℕ → StmtTree → List ℕ → StmtTree
    Case : ExprTree → StmtTree → List ℕ → StmtTree
    Default : StmtTree → List ℕ → StmtTree
    Block : ItemTrees → List ℕ → StmtTree
    ExprStmt : OptionExprTree → List ℕ → StmtTree
    -- `if ( condition ) branch else otherwise`
    If : ExprTree → StmtTree → OptionStmtTree → List ℕ → StmtTree
    Switch : ExprTree → StmtTree → List ℕ → StmtTree
    While : ExprTree → StmtTree → List ℕ → StmtTree
    -- `do body while ( condition ) ;`
    Do : StmtTree → ExprTree → List ℕ → StmtTree
    -- `for ( first ; second ; third ) body`
    For : ForFirstTree → OptionExprTree → OptionExprTree → StmtTree → List ℕ → StmtTree
    Goto : List ℕ → List ℕ → StmtTree
    Continue : List ℕ → StmtTree
    Break : List ℕ → StmtTree
    Return : OptionExprTree → List ℕ → StmtTree

  -- the branch behind `else`, which may be missing
  pub data OptionStmtTree : Type 0 where
    no_stmt : OptionStmtTree
    some_stmt : StmtTree → OptionStmtTree

  -- what stands in a block (6.8.2)
  pub data ItemTree : Type 0 where
    Statement : StmtTree → ItemTree
    Declared : DeclTree → ItemTree

  pub data ItemTrees : Type 0 where
    no_items : ItemTrees
    more_items : ItemTree → ItemTrees → ItemTrees

-- function definitions (6.9.1)
pub record DefinitionTree : Type 0 where
  pub specs : SpecTrees
  pub declarator : DeclaratorTree
  pub body : StmtTree
  pub lines : List ℕ

-- external declarations (6.9)
pub data ExternalTree : Type 0 where
  Defined : DefinitionTree → ExternalTree
  Declaration : DeclTree → ExternalTree

-- a translation unit (6.9)
pub record UnitTree : Type 0 where
  pub parts : List ExternalTree
  pub lines : List ℕ
