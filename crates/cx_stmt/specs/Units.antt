-- The readers of units (ISO C99, 6.9).
use Rattle.std.specs.Prelude.{ℕ, zero, suc, Bool, true, if◌then◌else◌, List, [], ◌∷◌, ◌++◌}
use Rattle.cx_cursor.specs.Lists.{many_ahead, taking}
use Rattle.cx_cursor.specs.Reading.{State, Reader, bind, ◌>>=◌, pure, refuse, declaring, scoped}
use Rattle.cx_cursor.specs.Sights.{sight, shows_end, sees_mark}
use Rattle.cx_expr.specs.Below.{DeclaratorRead}
use Rattle.cx_expr.specs.Knot.{readers}
use Rattle.cx_expr.specs.Specifiers.{specs_from}
use Rattle.cx_words.specs.declared.form.Form.TheVariants.{Named}
use Rattle.cx_lex.specs.declared.token.Punct.TheVariants.{LeftBrace, Semicolon}
use Rattle.cx_stmt.specs.Declarations.{behind_first, no_declarators}
use Rattle.cx_stmt.specs.Stmts.{stmt, block_from}
use Rattle.cx_tree.specs.Names.{Binding, bound}
use Rattle.cx_tree.specs.Trees.{SpecTrees, DeclaratorTree, StmtTree, DefinitionTree, ExternalTree, Defined, Declaration, UnitTree}
use Rattle.cx_tree.specs.Views.{specs}

abbrev pub definition_tree : SpecTrees → DeclaratorTree → StmtTree → DefinitionTree
definition_tree specs declarator body = record { specs = specs; declarator = declarator; body = body; lines = [] }

-- a block, at most `depth` deep
unfoldable pub block : ℕ → Reader StmtTree
block zero = refuse
block (suc depth) = block_from (stmt depth) depth

-- the body of a function, in which what its parameters declare is in scope (6.2.1p4)
unfoldable pub body : ℕ → List Binding → Reader StmtTree
body depth own = scoped (declaring own own >>= (λ names. block depth))

-- a function definition, whose declarator was read; its name is in scope behind that
unfoldable pub definition : ℕ → SpecTrees → DeclaratorRead → Reader ExternalTree
definition depth specs declarator =
    declaring (bound specs declarator.tree) declarator >>= (λ d. body depth d.own >>= (λ b. pure (Defined (definition_tree specs declarator.tree b))))

-- what stands behind the specifiers and a declarator
unfoldable pub behind_declarator : ℕ → SpecTrees → DeclaratorRead → Reader ExternalTree
behind_declarator depth specs declarator state =
    if sees_mark LeftBrace state then definition depth specs declarator state
    else bind (behind_first depth specs declarator.tree) (λ d. pure (Declaration d)) state

unfoldable pub behind_specs : ℕ → SpecTrees → Reader ExternalTree
behind_specs depth specs state =
    if sees_mark Semicolon state then bind (no_declarators specs) (λ d. pure (Declaration d)) state
    else bind ((readers depth).declarator Named) (λ d. behind_declarator depth specs d) state

-- an external declaration whose parts are at most `depth` deep
unfoldable pub external : ℕ → Reader ExternalTree
external depth = specs_from (readers depth) true >>= (λ s. behind_specs depth (specs s.list))

abbrev pub at_end : {A : Type 0} → A → State → Bool
at_end all state = shows_end (sight state)

abbrev pub with_external : List ExternalTree → ExternalTree → List ExternalTree
with_external all next = all ++ next ∷ []

abbrev pub unit_tree : List ExternalTree → UnitTree
unit_tree parts = record { parts = parts; lines = [] }

-- one external declaration or more, up to the end, each with parts that are at most `depth` deep
unfoldable pub unit : ℕ → Reader UnitTree
unit depth = taking (external depth) with_external [] >>= (λ first. many_ahead at_end (taking (external depth) with_external) first >>= (λ parts. pure (unit_tree parts)))
