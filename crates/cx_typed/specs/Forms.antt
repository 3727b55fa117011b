-- The walk over expressions, form by form (ISO C99, 6.5).
use Rattle.std.specs.Prelude.{ℕ, ◌<◌, ℤ, List}
use Rattle.cr_base.specs.Scalar.{IsInRange}
use Rattle.cx_lex.specs.declared.token.Punct.{Punct}
use Rattle.cx_lex.specs.declared.token.Ty0.{Ty0}
use Rattle.cx_lex.specs.Numbers.{above}
use Rattle.cx_tree.specs.Trees.{ExprTree, Name, Number, Letter, Text, Paren, Index, Call, Dot, Arrow, PostUp, PostDown, Literal, PreUp, PreDown, Unary, SizeofExpr, SizeofType, Cast, Binary, Cond, Assign, Comma, ExprTrees, no_exprs, more_exprs, TypeNameTree, InitialiserListTree}
use Rattle.cx_typed.specs.Constants.{int_scalar}
use Rattle.cx_typed.specs.Initialised.{ListGoes}
use Rattle.cx_typed.specs.Walked.{ExprGoes, ArgsGo, TypeNameGoes}

-- where the parts of an expression go so, the expression does
pub record ExprFormsGo : Type 0 where
  pub name : (name lines : List ℕ) → ExprGoes (Name name lines)
  -- numbers of trees come from tokens, and fit their types
  pub number : (value : ℕ) (type : Ty0) (lines : List ℕ) → value < above type → ExprGoes (Number value type lines)
  pub letter : (value : ℤ) (lines : List ℕ) → IsInRange int_scalar value → ExprGoes (Letter value lines)
  pub text : (parts : List (List ℕ)) (lines : List ℕ) → ExprGoes (Text parts lines)
  pub paren : (inner : ExprTree) (lines : List ℕ) → ExprGoes inner → ExprGoes (Paren inner lines)
  pub index : (of index : ExprTree) (lines : List ℕ) → ExprGoes of → ExprGoes index → ExprGoes (Index of index lines)
  pub call : (of : ExprTree) (args : ExprTrees) (lines : List ℕ) → ExprGoes of → ArgsGo args → ExprGoes (Call of args lines)
  pub dot : (of : ExprTree) (name lines : List ℕ) → ExprGoes of → ExprGoes (Dot of name lines)
  pub arrow : (of : ExprTree) (name lines : List ℕ) → ExprGoes of → ExprGoes (Arrow of name lines)
  pub post_up : (of : ExprTree) (lines : List ℕ) → ExprGoes of → ExprGoes (PostUp of lines)
  pub post_down : (of : ExprTree) (lines : List ℕ) → ExprGoes of → ExprGoes (PostDown of lines)
  pub pre_up : (on : ExprTree) (lines : List ℕ) → ExprGoes on → ExprGoes (PreUp on lines)
  pub pre_down : (on : ExprTree) (lines : List ℕ) → ExprGoes on → ExprGoes (PreDown on lines)
  pub unary : (op : Punct) (on : ExprTree) (lines : List ℕ) → ExprGoes on → ExprGoes (Unary op on lines)
  pub sizeof_expr : (on : ExprTree) (lines : List ℕ) → ExprGoes on → ExprGoes (SizeofExpr on lines)
  pub sizeof_type : (of : TypeNameTree) (lines : List ℕ) → TypeNameGoes of → ExprGoes (SizeofType of lines)
  pub cast : (to : TypeNameTree) (on : ExprTree) (lines : List ℕ) → TypeNameGoes to → ExprGoes on → ExprGoes (Cast to on lines)
  pub binary : (left : ExprTree) (op : Punct) (right : ExprTree) (lines : List ℕ) → ExprGoes left → ExprGoes right → ExprGoes (Binary left op right lines)
  pub cond : (test first second : ExprTree) (lines : List ℕ) → ExprGoes test → ExprGoes first → ExprGoes second → ExprGoes (Cond test first second lines)
  pub assign : (left : ExprTree) (op : Punct) (right : ExprTree) (lines : List ℕ) → ExprGoes left → ExprGoes right → ExprGoes (Assign left op right lines)
  pub comma : (left right : ExprTree) (lines : List ℕ) → ExprGoes left → ExprGoes right → ExprGoes (Comma left right lines)
  pub literal : (of : TypeNameTree) (list : InitialiserListTree) (lines : List ℕ) → TypeNameGoes of → ListGoes list → ExprGoes (Literal of list lines)
  pub no_args : ArgsGo no_exprs
  pub more_args : (first : ExprTree) (others : ExprTrees) → ExprGoes first → ArgsGo others → ArgsGo (more_exprs first others)
