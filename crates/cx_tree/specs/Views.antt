-- The syntax tree that a value of each declared type stands for.
use Rattle.std.specs.Prelude.{List, [], ◌∷◌, map, Option, Some, None, option_map}
use Rattle.cx_tree.specs.declared.declaration.Decl.{Decl}
use Rattle.cx_tree.specs.declared.declaration.InitDeclarator.{InitDeclarator}
use Rattle.cx_tree.specs.declared.declarator.Brackets.{Brackets}
use Rattle.cx_tree.specs.declared.declarator.Brackets.TheFolds.{fold-Brackets, fold-Declarator, fold-Param, fold-Expr, fold-Designator, fold-Entry, fold-Initialiser, fold-InitialiserList, fold-Enumerator, fold-MemberDecl, fold-MemberDeclarator, fold-Spec, fold-TypeName}
use Rattle.cx_tree.specs.declared.declarator.Brackets.TheOpen as o
use Rattle.cx_tree.specs.declared.declarator.Declarator.{Declarator}
use Rattle.cx_tree.specs.declared.declarator.Param.{Param}
use Rattle.cx_tree.specs.declared.expr.Expr.{Expr}
use Rattle.cx_tree.specs.declared.initialiser.Designator.{Designator}
use Rattle.cx_tree.specs.declared.initialiser.Entry.{Entry}
use Rattle.cx_tree.specs.declared.initialiser.Initialiser.{Initialiser}
use Rattle.cx_tree.specs.declared.initialiser.InitialiserList.{InitialiserList}
use Rattle.cx_tree.specs.declared.specifier.Enumerator.{Enumerator}
use Rattle.cx_tree.specs.declared.specifier.MemberDecl.{MemberDecl}
use Rattle.cx_tree.specs.declared.specifier.MemberDeclarator.{MemberDeclarator}
use Rattle.cx_tree.specs.declared.specifier.Spec.{Spec}
use Rattle.cx_tree.specs.declared.specifier.TypeName.{TypeName}
use Rattle.cx_tree.specs.declared.stmt.ForFirst.{ForFirst}
use Rattle.cx_tree.specs.declared.stmt.ForFirst.TheVariants as first
use Rattle.cx_tree.specs.declared.stmt.Stmt.{Stmt}
use Rattle.cx_tree.specs.declared.stmt.Stmt.TheFolds.{fold-Stmt, fold-BlockItem}
use Rattle.cx_tree.specs.declared.stmt.Stmt.TheOpen as s
use Rattle.cx_tree.specs.declared.stmt.items.BlockItem.{BlockItem}
use Rattle.cx_tree.specs.declared.unit.Definition.{Definition}
use Rattle.cx_tree.specs.declared.unit.External.{External}
use Rattle.cx_tree.specs.declared.unit.External.TheVariants as external
use Rattle.cx_tree.specs.declared.unit.Unit.{Unit as UnitValue}
use Rattle.cx_tree.specs.Trees as tree
use Rattle.cx_tree.specs.Trees.{ExprTree, ExprTrees, OptionExprTree, TypeNameTree, SpecTree, SpecTrees, MemberDeclTree, MemberDeclTrees, OptionMemberDeclTrees, MemberDeclaratorTree, MemberDeclaratorTrees, EnumeratorTree, EnumeratorTrees, OptionEnumeratorTrees, DeclaratorTree, BracketsTree, ParamTree, ParamTrees, InitialiserTree, InitialiserListTree, EntryTree, EntryTrees, DesignatorTree, DesignatorTrees, InitDeclaratorTree, DeclTree, ForFirstTree, StmtTree, OptionStmtTree, ItemTree, ItemTrees, DefinitionTree, ExternalTree, UnitTree}

-- ---- lists and options

abbrev pub exprs : List ExprTree → ExprTrees
exprs [] = tree.no_exprs
exprs (e ∷ es) = tree.more_exprs e (exprs es)

abbrev pub option_expr : Option ExprTree → OptionExprTree
option_expr None = tree.no_expr
option_expr (Some e) = tree.some_expr e

abbrev pub specs : List SpecTree → SpecTrees
specs [] = tree.no_specs
specs (s ∷ ss) = tree.more_specs s (specs ss)

abbrev pub member_decls : List MemberDeclTree → MemberDeclTrees
member_decls [] = tree.no_member_decls
member_decls (m ∷ ms) = tree.more_member_decls m (member_decls ms)

abbrev pub option_members : Option (List MemberDeclTree) → OptionMemberDeclTrees
option_members None = tree.no_members
option_members (Some ms) = tree.some_members (member_decls ms)

abbrev pub member_declarators : List MemberDeclaratorTree → MemberDeclaratorTrees
member_declarators [] = tree.no_member_declarators
member_declarators (m ∷ ms) = tree.more_member_declarators m (member_declarators ms)

abbrev pub enumerators : List EnumeratorTree → EnumeratorTrees
enumerators [] = tree.no_enumerators
enumerators (e ∷ es) = tree.more_enumerators e (enumerators es)

abbrev pub option_enumerators : Option (List EnumeratorTree) → OptionEnumeratorTrees
option_enumerators None = tree.no_enumerator_list
option_enumerators (Some es) = tree.some_enumerator_list (enumerators es)

abbrev pub params : List ParamTree → ParamTrees
params [] = tree.no_params
params (p ∷ ps) = tree.more_params p (params ps)

abbrev pub entries : List EntryTree → EntryTrees
entries [] = tree.no_entries
entries (e ∷ es) = tree.more_entries e (entries es)

abbrev pub designators : List DesignatorTree → DesignatorTrees
designators [] = tree.no_designators
designators (d ∷ ds) = tree.more_designators d (designators ds)

abbrev pub option_stmt : Option StmtTree → OptionStmtTree
option_stmt None = tree.no_stmt
option_stmt (Some s) = tree.some_stmt s

abbrev pub items : List ItemTree → ItemTrees
items [] = tree.no_items
items (i ∷ is) = tree.more_items i (items is)

-- ---- one node, with the trees of its children

abbrev brackets_step : o.Brackets-F BracketsTree DeclaratorTree ExprTree DesignatorTree InitialiserTree SpecTree ParamTree EntryTree InitialiserListTree EnumeratorTree MemberDeclTree MemberDeclaratorTree TypeNameTree → BracketsTree
brackets_step (o.Brackets-F.Unsized qualifiers) = tree.Unsized qualifiers
brackets_step (o.Brackets-F.Length qualifiers length) = tree.Length qualifiers length
brackets_step (o.Brackets-F.StaticFirst qualifiers length) = tree.StaticFirst qualifiers length
brackets_step (o.Brackets-F.StaticLast qualifiers length) = tree.StaticLast qualifiers length
brackets_step (o.Brackets-F.Star qualifiers) = tree.Star qualifiers

abbrev declarator_step : o.Declarator-F BracketsTree DeclaratorTree ExprTree DesignatorTree InitialiserTree SpecTree ParamTree EntryTree InitialiserListTree EnumeratorTree MemberDeclTree MemberDeclaratorTree TypeNameTree → DeclaratorTree
declarator_step o.Declarator-F.Missing = tree.Missing
declarator_step (o.Declarator-F.Identifier name lines) = tree.Identifier name lines
declarator_step (o.Declarator-F.Group inner lines) = tree.Group inner lines
declarator_step (o.Declarator-F.Pointer qualifiers of lines) = tree.Pointer qualifiers of lines
declarator_step (o.Declarator-F.Array of brackets lines) = tree.Array of brackets lines
declarator_step (o.Declarator-F.Function of list variadic lines) = tree.Function of (params list) variadic lines
declarator_step (o.Declarator-F.Identifiers of names lines) = tree.Identifiers of names lines

abbrev param_step : o.Param-F BracketsTree DeclaratorTree ExprTree DesignatorTree InitialiserTree SpecTree ParamTree EntryTree InitialiserListTree EnumeratorTree MemberDeclTree MemberDeclaratorTree TypeNameTree → ParamTree
param_step one = tree.Param (specs one.specs) one.declarator one.lines

abbrev expr_step : o.Expr-F BracketsTree DeclaratorTree ExprTree DesignatorTree InitialiserTree SpecTree ParamTree EntryTree InitialiserListTree EnumeratorTree MemberDeclTree MemberDeclaratorTree TypeNameTree → ExprTree
expr_step (o.Expr-F.Name name lines) = tree.Name name lines
expr_step (o.Expr-F.Number value ty lines) = tree.Number value ty lines
expr_step (o.Expr-F.Letter value lines) = tree.Letter value lines
expr_step (o.Expr-F.Text parts lines) = tree.Text parts lines
expr_step (o.Expr-F.Paren inner lines) = tree.Paren inner lines
expr_step (o.Expr-F.Index of index lines) = tree.Index of index lines
expr_step (o.Expr-F.Call of args lines) = tree.Call of (exprs args) lines
expr_step (o.Expr-F.Dot of member lines) = tree.Dot of member lines
expr_step (o.Expr-F.Arrow of member lines) = tree.Arrow of member lines
expr_step (o.Expr-F.PostUp of lines) = tree.PostUp of lines
expr_step (o.Expr-F.PostDown of lines) = tree.PostDown of lines
expr_step (o.Expr-F.Literal of list lines) = tree.Literal of list lines
expr_step (o.Expr-F.PreUp on lines) = tree.PreUp on lines
expr_step (o.Expr-F.PreDown on lines) = tree.PreDown on lines
expr_step (o.Expr-F.Unary op on lines) = tree.Unary op on lines
expr_step (o.Expr-F.SizeofExpr on lines) = tree.SizeofExpr on lines
expr_step (o.Expr-F.SizeofType of lines) = tree.SizeofType of lines
expr_step (o.Expr-F.Cast to on lines) = tree.Cast to on lines
expr_step (o.Expr-F.Binary left op right lines) = tree.Binary left op right lines
expr_step (o.Expr-F.Cond condition if_true if_false lines) = tree.Cond condition if_true if_false lines
expr_step (o.Expr-F.Assign left op right lines) = tree.Assign left op right lines
expr_step (o.Expr-F.Comma left right lines) = tree.Comma left right lines

abbrev designator_step : o.Designator-F BracketsTree DeclaratorTree ExprTree DesignatorTree InitialiserTree SpecTree ParamTree EntryTree InitialiserListTree EnumeratorTree MemberDeclTree MemberDeclaratorTree TypeNameTree → DesignatorTree
designator_step (o.Designator-F.Element at lines) = tree.Element at lines
designator_step (o.Designator-F.Member name lines) = tree.Member name lines

abbrev entry_step : o.Entry-F BracketsTree DeclaratorTree ExprTree DesignatorTree InitialiserTree SpecTree ParamTree EntryTree InitialiserListTree EnumeratorTree MemberDeclTree MemberDeclaratorTree TypeNameTree → EntryTree
entry_step one = tree.Entry (designators one.designators) one.init one.lines

abbrev initialiser_step : o.Initialiser-F BracketsTree DeclaratorTree ExprTree DesignatorTree InitialiserTree SpecTree ParamTree EntryTree InitialiserListTree EnumeratorTree MemberDeclTree MemberDeclaratorTree TypeNameTree → InitialiserTree
initialiser_step (o.Initialiser-F.Single e) = tree.Single e
initialiser_step (o.Initialiser-F.Braced list) = tree.Braced list

abbrev initialiser_list_step : o.InitialiserList-F BracketsTree DeclaratorTree ExprTree DesignatorTree InitialiserTree SpecTree ParamTree EntryTree InitialiserListTree EnumeratorTree MemberDeclTree MemberDeclaratorTree TypeNameTree → InitialiserListTree
initialiser_list_step one = tree.InitialiserList (entries one.entries) one.last_comma one.lines

abbrev enumerator_step : o.Enumerator-F BracketsTree DeclaratorTree ExprTree DesignatorTree InitialiserTree SpecTree ParamTree EntryTree InitialiserListTree EnumeratorTree MemberDeclTree MemberDeclaratorTree TypeNameTree → EnumeratorTree
enumerator_step one = tree.Enumerator one.name (option_expr one.value) one.lines

abbrev member_decl_step : o.MemberDecl-F BracketsTree DeclaratorTree ExprTree DesignatorTree InitialiserTree SpecTree ParamTree EntryTree InitialiserListTree EnumeratorTree MemberDeclTree MemberDeclaratorTree TypeNameTree → MemberDeclTree
member_decl_step one = tree.MemberDecl (specs one.specs) (member_declarators one.list) one.lines

abbrev member_declarator_step : o.MemberDeclarator-F BracketsTree DeclaratorTree ExprTree DesignatorTree InitialiserTree SpecTree ParamTree EntryTree InitialiserListTree EnumeratorTree MemberDeclTree MemberDeclaratorTree TypeNameTree → MemberDeclaratorTree
member_declarator_step one = tree.MemberDeclarator one.declarator (option_expr one.width) one.lines

abbrev spec_step : o.Spec-F BracketsTree DeclaratorTree ExprTree DesignatorTree InitialiserTree SpecTree ParamTree EntryTree InitialiserListTree EnumeratorTree MemberDeclTree MemberDeclaratorTree TypeNameTree → SpecTree
spec_step (o.Spec-F.Key word lines) = tree.Key word lines
spec_step (o.Spec-F.Typedef name lines) = tree.Typedef name lines
spec_step (o.Spec-F.Record is_union tag members lines) = tree.Record is_union tag (option_members members) lines
spec_step (o.Spec-F.Enum tag list last_comma lines) = tree.Enum tag (option_enumerators list) last_comma lines

abbrev type_name_step : o.TypeName-F BracketsTree DeclaratorTree ExprTree DesignatorTree InitialiserTree SpecTree ParamTree EntryTree InitialiserListTree EnumeratorTree MemberDeclTree MemberDeclaratorTree TypeNameTree → TypeNameTree
type_name_step one = tree.TypeName (specs one.specs) one.declarator one.lines

-- ---- the types of one cycle

abbrev pub expr_view : Expr → ExprTree
expr_view = fold-Expr BracketsTree DeclaratorTree ExprTree DesignatorTree InitialiserTree SpecTree ParamTree EntryTree InitialiserListTree EnumeratorTree MemberDeclTree MemberDeclaratorTree TypeNameTree brackets_step declarator_step expr_step designator_step initialiser_step spec_step param_step entry_step initialiser_list_step enumerator_step member_decl_step member_declarator_step type_name_step

abbrev pub type_name_view : TypeName → TypeNameTree
type_name_view = fold-TypeName BracketsTree DeclaratorTree ExprTree DesignatorTree InitialiserTree SpecTree ParamTree EntryTree InitialiserListTree EnumeratorTree MemberDeclTree MemberDeclaratorTree TypeNameTree brackets_step declarator_step expr_step designator_step initialiser_step spec_step param_step entry_step initialiser_list_step enumerator_step member_decl_step member_declarator_step type_name_step

abbrev pub spec_view : Spec → SpecTree
spec_view = fold-Spec BracketsTree DeclaratorTree ExprTree DesignatorTree InitialiserTree SpecTree ParamTree EntryTree InitialiserListTree EnumeratorTree MemberDeclTree MemberDeclaratorTree TypeNameTree brackets_step declarator_step expr_step designator_step initialiser_step spec_step param_step entry_step initialiser_list_step enumerator_step member_decl_step member_declarator_step type_name_step

abbrev pub member_decl_view : MemberDecl → MemberDeclTree
member_decl_view = fold-MemberDecl BracketsTree DeclaratorTree ExprTree DesignatorTree InitialiserTree SpecTree ParamTree EntryTree InitialiserListTree EnumeratorTree MemberDeclTree MemberDeclaratorTree TypeNameTree brackets_step declarator_step expr_step designator_step initialiser_step spec_step param_step entry_step initialiser_list_step enumerator_step member_decl_step member_declarator_step type_name_step

abbrev pub member_declarator_view : MemberDeclarator → MemberDeclaratorTree
member_declarator_view = fold-MemberDeclarator BracketsTree DeclaratorTree ExprTree DesignatorTree InitialiserTree SpecTree ParamTree EntryTree InitialiserListTree EnumeratorTree MemberDeclTree MemberDeclaratorTree TypeNameTree brackets_step declarator_step expr_step designator_step initialiser_step spec_step param_step entry_step initialiser_list_step enumerator_step member_decl_step member_declarator_step type_name_step

abbrev pub enumerator_view : Enumerator → EnumeratorTree
enumerator_view = fold-Enumerator BracketsTree DeclaratorTree ExprTree DesignatorTree InitialiserTree SpecTree ParamTree EntryTree InitialiserListTree EnumeratorTree MemberDeclTree MemberDeclaratorTree TypeNameTree brackets_step declarator_step expr_step designator_step initialiser_step spec_step param_step entry_step initialiser_list_step enumerator_step member_decl_step member_declarator_step type_name_step

abbrev pub declarator_view : Declarator → DeclaratorTree
declarator_view = fold-Declarator BracketsTree DeclaratorTree ExprTree DesignatorTree InitialiserTree SpecTree ParamTree EntryTree InitialiserListTree EnumeratorTree MemberDeclTree MemberDeclaratorTree TypeNameTree brackets_step declarator_step expr_step designator_step initialiser_step spec_step param_step entry_step initialiser_list_step enumerator_step member_decl_step member_declarator_step type_name_step

abbrev pub brackets_view : Brackets → BracketsTree
brackets_view = fold-Brackets BracketsTree DeclaratorTree ExprTree DesignatorTree InitialiserTree SpecTree ParamTree EntryTree InitialiserListTree EnumeratorTree MemberDeclTree MemberDeclaratorTree TypeNameTree brackets_step declarator_step expr_step designator_step initialiser_step spec_step param_step entry_step initialiser_list_step enumerator_step member_decl_step member_declarator_step type_name_step

abbrev pub param_view : Param → ParamTree
param_view = fold-Param BracketsTree DeclaratorTree ExprTree DesignatorTree InitialiserTree SpecTree ParamTree EntryTree InitialiserListTree EnumeratorTree MemberDeclTree MemberDeclaratorTree TypeNameTree brackets_step declarator_step expr_step designator_step initialiser_step spec_step param_step entry_step initialiser_list_step enumerator_step member_decl_step member_declarator_step type_name_step

abbrev pub initialiser_view : Initialiser → InitialiserTree
initialiser_view = fold-Initialiser BracketsTree DeclaratorTree ExprTree DesignatorTree InitialiserTree SpecTree ParamTree EntryTree InitialiserListTree EnumeratorTree MemberDeclTree MemberDeclaratorTree TypeNameTree brackets_step declarator_step expr_step designator_step initialiser_step spec_step param_step entry_step initialiser_list_step enumerator_step member_decl_step member_declarator_step type_name_step

abbrev pub initialiser_list_view : InitialiserList → InitialiserListTree
initialiser_list_view = fold-InitialiserList BracketsTree DeclaratorTree ExprTree DesignatorTree InitialiserTree SpecTree ParamTree EntryTree InitialiserListTree EnumeratorTree MemberDeclTree MemberDeclaratorTree TypeNameTree brackets_step declarator_step expr_step designator_step initialiser_step spec_step param_step entry_step initialiser_list_step enumerator_step member_decl_step member_declarator_step type_name_step

abbrev pub entry_view : Entry → EntryTree
entry_view = fold-Entry BracketsTree DeclaratorTree ExprTree DesignatorTree InitialiserTree SpecTree ParamTree EntryTree InitialiserListTree EnumeratorTree MemberDeclTree MemberDeclaratorTree TypeNameTree brackets_step declarator_step expr_step designator_step initialiser_step spec_step param_step entry_step initialiser_list_step enumerator_step member_decl_step member_declarator_step type_name_step

abbrev pub designator_view : Designator → DesignatorTree
designator_view = fold-Designator BracketsTree DeclaratorTree ExprTree DesignatorTree InitialiserTree SpecTree ParamTree EntryTree InitialiserListTree EnumeratorTree MemberDeclTree MemberDeclaratorTree TypeNameTree brackets_step declarator_step expr_step designator_step initialiser_step spec_step param_step entry_step initialiser_list_step enumerator_step member_decl_step member_declarator_step type_name_step

-- ---- declarations (6.7)

abbrev pub init_declarator_view : InitDeclarator → InitDeclaratorTree
init_declarator_view one = record { declarator = declarator_view one.declarator; init = option_map initialiser_view one.init; lines = one.lines }

abbrev pub decl_view : Decl → DeclTree
decl_view one = record { specs = specs (map spec_view one.specs); list = map init_declarator_view one.list; lines = one.lines }

abbrev pub first_view : ForFirst → ForFirstTree
first_view (first.Value value) = tree.FirstValue (option_expr (option_map expr_view value))
first_view (first.Declared decl) = tree.FirstDeclared (decl_view decl)

-- ---- statements (6.8)

abbrev stmt_step : s.Stmt-F StmtTree ItemTree → StmtTree
stmt_step (s.Stmt-F.Label name stmt lines) = tree.Label name stmt lines
stmt_step (s.Stmt-F.Case value stmt lines) = tree.Case (expr_view value) stmt lines
stmt_step (s.Stmt-F.Default stmt lines) = tree.Default stmt lines
stmt_step (s.Stmt-F.Block list lines) = tree.Block (items list) lines
stmt_step (s.Stmt-F.Expr expr lines) = tree.ExprStmt (option_expr (option_map expr_view expr)) lines
stmt_step (s.Stmt-F.If condition branch otherwise lines) = tree.If (expr_view condition) branch (option_stmt otherwise) lines
stmt_step (s.Stmt-F.Switch on body lines) = tree.Switch (expr_view on) body lines
stmt_step (s.Stmt-F.While condition body lines) = tree.While (expr_view condition) body lines
stmt_step (s.Stmt-F.Do body condition lines) = tree.Do body (expr_view condition) lines
stmt_step (s.Stmt-F.For first second third body lines) =
    tree.For (first_view first) (option_expr (option_map expr_view second)) (option_expr (option_map expr_view third)) body lines
stmt_step (s.Stmt-F.Goto name lines) = tree.Goto name lines
stmt_step (s.Stmt-F.Continue lines) = tree.Continue lines
stmt_step (s.Stmt-F.Break lines) = tree.Break lines
stmt_step (s.Stmt-F.Return value lines) = tree.Return (option_expr (option_map expr_view value)) lines

abbrev item_step : s.BlockItem-F StmtTree ItemTree → ItemTree
item_step (s.BlockItem-F.Statement stmt) = tree.Statement stmt
item_step (s.BlockItem-F.Declaration decl) = tree.Declared (decl_view decl)

abbrev pub stmt_view : Stmt → StmtTree
stmt_view = fold-Stmt StmtTree ItemTree stmt_step item_step

abbrev pub item_view : BlockItem → ItemTree
item_view = fold-BlockItem StmtTree ItemTree stmt_step item_step

-- ---- units (6.9)

abbrev pub definition_view : Definition → DefinitionTree
definition_view one = record {
  specs = specs (map spec_view one.specs);
  declarator = declarator_view one.declarator;
  body = stmt_view one.body;
  lines = one.lines;
}

abbrev pub external_view : External → ExternalTree
external_view (external.Function definition) = tree.Defined (definition_view definition)
external_view (external.Declaration decl) = tree.Declaration (decl_view decl)

abbrev pub unit_view : UnitValue → UnitTree
unit_view unit = record { parts = map external_view unit.parts; lines = unit.lines }
