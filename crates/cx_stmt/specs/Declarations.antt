-- The readers of declarations (ISO C99, 6.7). A reader whose number is `depth` reads what has parts that are at most so many nodes
-- deep; `decl` what is itself at most so deep.
use Rattle.std.specs.Prelude.{ℕ, zero, suc, Bool, true, false, not, ◌&&◌, ◌-◌, nat_lt, if◌then◌else◌, List, [], ◌∷◌, ◌++◌, Option, Some, None}
use Rattle.cx_cursor.specs.Lists.{ListRead, list_read, behind_commas}
use Rattle.cx_cursor.specs.Reading.{State, Reader, bind, ◌>>=◌, pure, refuse, declaring}
use Rattle.cx_cursor.specs.Sights.{sight, sight_behind, shows_mark, shows_word, sees_mark, mark}
use Rattle.cx_expr.specs.Initialisers.{initialiser}
use Rattle.cx_expr.specs.Knot.{readers}
use Rattle.cx_expr.specs.Specifiers.{specs_from}
use Rattle.cx_words.specs.declared.form.Form.TheVariants.{Named}
use Rattle.cx_lex.specs.declared.token.Punct.TheVariants.{Semicolon, Equal, Colon}
use Rattle.cx_tree.specs.Depth.{declarator_depth}
use Rattle.cx_tree.specs.Names.{bound}
use Rattle.cx_tree.specs.Trees.{SpecTrees, DeclaratorTree, InitialiserTree, InitDeclaratorTree, DeclTree}
use Rattle.cx_tree.specs.Views.{specs}

abbrev pub init_declarator_tree : DeclaratorTree → Option InitialiserTree → List ℕ → InitDeclaratorTree
init_declarator_tree declarator init lines = record { declarator = declarator; init = init; lines = lines }

abbrev pub decl_tree : SpecTrees → List InitDeclaratorTree → List ℕ → DeclTree
decl_tree specs list lines = record { specs = specs; list = list; lines = lines }

-- the initialiser of a declarator
unfoldable pub init : ℕ → DeclaratorTree → Reader InitDeclaratorTree
init depth declarator = mark Equal >>= (λ line. initialiser (readers depth) >>= (λ i. pure (init_declarator_tree declarator (Some i) (line ∷ []))))

unfoldable pub init_or_none : ℕ → DeclaratorTree → Reader InitDeclaratorTree
init_or_none depth declarator state =
    if sees_mark Equal state then init depth declarator state else Some (init_declarator_tree declarator None [], state)

-- What stands behind a declarator under these specifiers, whose name is in scope from here on (6.2.1p7). With its initialiser it may
-- be `depth` deep.
unfoldable pub behind_declarator : ℕ → SpecTrees → DeclaratorTree → Reader InitDeclaratorTree
behind_declarator depth specs declarator state =
    if nat_lt (declarator_depth declarator) depth
    then bind (declaring (bound specs declarator) declarator) (λ d. init_or_none (depth - 1) d) state
    else None

-- a declarator with its initialiser, at most `depth` deep
unfoldable pub init_declarator : ℕ → SpecTrees → Reader InitDeclaratorTree
init_declarator depth specs = (readers depth).declarator Named >>= (λ d. behind_declarator depth specs d.tree)

-- the rest of a declaration, from behind its first declarator on
unfoldable pub behind_first : ℕ → SpecTrees → DeclaratorTree → Reader DeclTree
behind_first depth specs declarator = behind_declarator depth specs declarator >>= (λ one.
    behind_commas (init_declarator depth specs) (list_read (one ∷ []) []) >>= (λ all. mark Semicolon >>= (λ last.
    pure (decl_tree specs all.list (all.lines ++ last ∷ [])))))

-- a declaration without declarators
unfoldable pub no_declarators : SpecTrees → Reader DeclTree
no_declarators specs = mark Semicolon >>= (λ last. pure (decl_tree specs [] (last ∷ [])))

-- what stands behind the specifiers of a declaration
unfoldable pub behind_specs : ℕ → SpecTrees → Reader DeclTree
behind_specs depth specs state =
    if sees_mark Semicolon state then no_declarators specs state
    else bind ((readers depth).declarator Named) (λ d. behind_first depth specs d.tree) state

unfoldable pub decl_from : ℕ → Reader DeclTree
decl_from depth = specs_from (readers depth) true >>= (λ s. behind_specs depth (specs s.list))

-- a declaration, at most `depth` deep
unfoldable pub decl : ℕ → Reader DeclTree
decl zero = refuse
decl (suc depth) = decl_from depth
