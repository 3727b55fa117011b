-- The readers of units (ISO C99, 6.9).
use Rattle.std.specs.Prelude.{ℕ, Bool, true, false, if◌then◌else◌, List, [], ◌∷◌, ◌++◌}
use Rattle.cx_lex.specs.declared.token.Punct.TheVariants.{LeftBrace, Semicolon}
use Rattle.straight_parse.specs.declared.sight.Sight.{Sight}
use Rattle.straight_parse.specs.declared.sight.Sight.TheVariants as sights
use Rattle.straight_parse.specs.Declarators.{MeasuredDeclarator, declarator, specs}
use Rattle.straight_parse.specs.Declarations.{decl_tree, declaration}
use Rattle.straight_parse.specs.Lists.{many_ahead, taking}
use Rattle.straight_parse.specs.Reading.{Reader, bind, ◌>>=◌, pure}
use Rattle.straight_parse.specs.Sights.{sees_mark, mark}
use Rattle.straight_parse.specs.Stmts.{block}
use Rattle.straight_tree.specs.Trees.{DeclaratorTree, SpecsTree, ExternalTree, Definition, Declaration, UnitTree}

-- the body of a function whose declarator was read
unfoldable pub definition : ℕ → SpecsTree → DeclaratorTree → Reader ExternalTree
definition depth specs declarator = block depth >>= (λ body. pure (Definition specs declarator body []))

-- what stands behind the specifiers and a declarator
unfoldable pub behind_first : ℕ → SpecsTree → MeasuredDeclarator → Reader ExternalTree
behind_first depth specs left state =
    if sees_mark LeftBrace state then definition depth specs left.0 state
    else bind (declaration depth specs left) (λ d. pure (Declaration d)) state

-- a declaration without declarator
unfoldable pub no_declarator : SpecsTree → Reader ExternalTree
no_declarator specs = mark Semicolon >>= (λ last. pure (Declaration (decl_tree specs [] (last ∷ []))))

unfoldable pub behind_specs : ℕ → SpecsTree → Reader ExternalTree
behind_specs depth specs state =
    if sees_mark Semicolon state then no_declarator specs state
    else bind (declarator depth) (λ left. behind_first depth specs left) state

-- an external declaration whose parts are at most `depth` deep
unfoldable pub external : ℕ → Reader ExternalTree
external depth = specs depth >>= (λ s. behind_specs depth s)

abbrev pub at_end : Sight → Bool
at_end sights.End = true
at_end sights.Word = false
at_end sights.Number = false
at_end (sights.Key k) = false
at_end (sights.Mark punct) = false
at_end sights.Literal = false

abbrev pub with_external : List ExternalTree → ExternalTree → List ExternalTree
with_external all next = all ++ next ∷ []

abbrev pub unit_tree : List ExternalTree → UnitTree
unit_tree parts = record { parts = parts; lines = [] }

-- one external declaration or more, up to the end, each with parts that are at most `depth` deep
unfoldable pub unit : ℕ → Reader UnitTree
unit depth = taking (external depth) with_external [] >>= (λ first. many_ahead at_end (taking (external depth) with_external) first >>= (λ parts. pure (unit_tree parts)))
