-- The readers of declarations (ISO C99, 6.7).
use Rattle.std.specs.Prelude.{ℕ, ◌-◌, nat_lt, if◌then◌else◌, List, [], ◌∷◌, ◌++◌, Option, Some, None}
use Rattle.cx_lex.specs.declared.token.Punct.TheVariants.{Semicolon, Equal}
use Rattle.straight_parse.specs.Declarators.{MeasuredDeclarator, declarator}
use Rattle.straight_parse.specs.Exprs.{expr}
use Rattle.straight_parse.specs.Lists.{listed_none, with_item, behind_commas}
use Rattle.straight_parse.specs.Reading.{Reader, bind, ◌>>=◌, pure}
use Rattle.straight_parse.specs.Sights.{sees_mark, mark}
use Rattle.straight_tree.specs.Levels.{assignment_level}
use Rattle.straight_tree.specs.Trees.{SpecsTree, InitialiserTree, ExprInitialiser, InitDeclaratorTree, DeclTree, DeclaratorTree}

abbrev pub init_declarator_tree : DeclaratorTree → Option InitialiserTree → List ℕ → InitDeclaratorTree
init_declarator_tree declarator init lines = record { declarator = declarator; init = init; lines = lines }

abbrev pub decl_tree : SpecsTree → List InitDeclaratorTree → List ℕ → DeclTree
decl_tree specs list lines = record { specs = specs; list = list; lines = lines }

-- the depth of what is a declarator with its initialiser isn't asked for
abbrev pub unmeasured : InitDeclaratorTree → InitDeclaratorTree × ℕ
unmeasured tree = (tree, 0)

-- the initialiser of a declarator, whose parts are at most `depth` deep
unfoldable pub init : ℕ → DeclaratorTree → Reader InitDeclaratorTree
init depth declarator =
    mark Equal >>= (λ line. expr depth assignment_level >>= (λ e. pure (init_declarator_tree declarator (Some (ExprInitialiser e.0)) (line ∷ []))))

-- a declarator that was read, with its initialiser, where one is there
unfoldable pub behind_declarator : ℕ → MeasuredDeclarator → Reader (InitDeclaratorTree × ℕ)
behind_declarator depth left state =
    if nat_lt left.1 depth
    then (if sees_mark Equal state
    then bind (init (depth - 1) left.0) (λ d. pure (unmeasured d)) state
    else Some (unmeasured (init_declarator_tree left.0 None []), state))
    else None

-- a declarator with its initialiser, at most `depth` deep
unfoldable pub init_declarator : ℕ → Reader (InitDeclaratorTree × ℕ)
init_declarator depth = declarator depth >>= (λ left. behind_declarator depth left)

-- the rest of a declaration, from behind its first declarator on
unfoldable pub declaration : ℕ → SpecsTree → MeasuredDeclarator → Reader DeclTree
declaration depth specs left =
    behind_declarator depth left >>= (λ first.
    behind_commas (init_declarator depth) (with_item (listed_none []) first) >>= (λ list. mark Semicolon >>= (λ last.
    pure (decl_tree specs list.list (list.lines ++ last ∷ [])))))
