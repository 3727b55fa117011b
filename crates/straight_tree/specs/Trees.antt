-- The syntax trees of a C unit (ISO C99, 6.5 to 6.9), without memory. `lines` are the lines of the tokens that a node prints
-- itself, in text order.
use Rattle.std.specs.Prelude.{ℕ, List, Option}
use Rattle.cx_lex.specs.declared.token.Punct.{Punct}
use Rattle.cx_lex.specs.declared.token.Ty0.{Ty0}

mutual
  -- expressions (6.5)
  pub data ExprTree : Type 0 where
    -- an identifier, by its bytes
    Name : List ℕ → List ℕ → ExprTree
    -- an integer constant: its value and its type
    Number : ℕ → Ty0 → List ℕ → ExprTree
    Paren : ExprTree → List ℕ → ExprTree
    Call : ExprTree → ExprTrees → List ℕ → ExprTree
    Unary : Punct → ExprTree → List ℕ → ExprTree
    Binary : ExprTree → Punct → ExprTree → List ℕ → ExprTree
    Assign : ExprTree → Punct → ExprTree → List ℕ → ExprTree

  pub data ExprTrees : Type 0 where
    no_exprs : ExprTrees
    more_exprs : ExprTree → ExprTrees → ExprTrees

  -- specifiers and qualifiers (6.7.1 to 6.7.4)
  pub data SpecTree : Type 0 where
    Int : SpecTree
    Void : SpecTree

  pub data SpecTrees : Type 0 where
    no_specs : SpecTrees
    more_specs : SpecTree → SpecTrees → SpecTrees

  -- those of a declaration, in text order (6.7)
  pub data SpecsTree : Type 0 where
    Specs : SpecTrees → List ℕ → SpecsTree

  -- declarators, abstract ones too (6.7.5, 6.7.6)
  pub data DeclaratorTree : Type 0 where
    Missing : DeclaratorTree
    Identifier : List ℕ → List ℕ → DeclaratorTree
    Function : DeclaratorTree → ParamTrees → List ℕ → DeclaratorTree

  -- parameter declarations (6.7.5)
  pub data ParamTree : Type 0 where
    Param : SpecsTree → DeclaratorTree → ParamTree

  pub data ParamTrees : Type 0 where
    no_params : ParamTrees
    more_params : ParamTree → ParamTrees → ParamTrees

  -- initialisers (6.7.8)
  pub data InitialiserTree : Type 0 where
    ExprInitialiser : ExprTree → InitialiserTree

-- a declarator with the initialiser of what it declares (6.7)
pub record InitDeclaratorTree : Type 0 where
  pub declarator : DeclaratorTree
  pub init : Option InitialiserTree
  pub lines : List ℕ

-- declarations (6.7)
pub record DeclTree : Type 0 where
  pub specs : SpecsTree
  pub list : List InitDeclaratorTree
  pub lines : List ℕ

mutual
  -- statements (6.8)
  pub data StmtTree : Type 0 where
    Block : ItemTrees → List ℕ → StmtTree
    ExprStmt : Option ExprTree → List ℕ → StmtTree
    Return : Option ExprTree → List ℕ → StmtTree

  -- what stands in a block (6.8.2)
  pub data ItemTree : Type 0 where
    StmtItem : StmtTree → ItemTree

  pub data ItemTrees : Type 0 where
    no_items : ItemTrees
    more_items : ItemTree → ItemTrees → ItemTrees

-- external declarations (6.9)
pub data ExternalTree : Type 0 where
  Definition : SpecsTree → DeclaratorTree → StmtTree → List ℕ → ExternalTree
  Declaration : DeclTree → ExternalTree

-- a translation unit (6.9)
pub record UnitTree : Type 0 where
  pub parts : List ExternalTree
  pub lines : List ℕ
