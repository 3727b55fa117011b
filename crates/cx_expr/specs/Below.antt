-- The readers of what may hold one another (ISO C99, 6.5 to 6.7), as a record, so that each production stands by itself over
-- the readers of its parts.
use Rattle.std.specs.Prelude.{ℕ, List}
use Rattle.cx_cursor.specs.Reading.{Reader}
use Rattle.cx_words.specs.declared.form.Form.{Form}
use Rattle.cx_tree.specs.Names.{Binding}
use Rattle.cx_tree.specs.Trees.{ExprTree, TypeNameTree, SpecTree, MemberDeclTree, MemberDeclaratorTree, EnumeratorTree, DeclaratorTree, ParamTree, InitialiserListTree, EntryTree, DesignatorTree}

-- A declarator, and the names that the parameters of its own function leave in scope (none where it is no function's).
pub record DeclaratorRead : Type 0 where
  pub tree : DeclaratorTree
  pub own : List Binding

abbrev pub declarator_read : DeclaratorTree → List Binding → DeclaratorRead
declarator_read tree own = record { tree = tree; own = own }

pub record Below : Type 0 where
  -- an expression of a level or above
  pub expr : ℕ → Reader ExprTree
  -- a unary expression that begins with a compound literal, from behind its type name in parentheses on, with the lines of these
  pub literal : TypeNameTree → List ℕ → Reader ExprTree
  pub type_name : Reader TypeNameTree
  pub spec : Reader SpecTree
  pub member : Reader MemberDeclTree
  pub member_declarator : Reader MemberDeclaratorTree
  pub enumerator : Reader EnumeratorTree
  -- a declarator that isn't missing
  pub declarator : Form → Reader DeclaratorRead
  pub param : Reader ParamTree
  pub list : Reader InitialiserListTree
  pub entry : Reader EntryTree
  pub designator : Reader DesignatorTree
