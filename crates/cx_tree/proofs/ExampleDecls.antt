-- Worked examples that compute: declarations and statements, their tokens, depth and validity.
use Rattle.std.proofs.Common.{◌≡◌, ℕ, List, [], ◌∷◌, true, false, Some, None, codes, refl, lit≤}
use Rattle.cx_lex.specs.declared.token.Keyword.{Keyword}
use Rattle.cx_lex.specs.declared.token.Keyword.TheVariants as keyword
use Rattle.cx_lex.specs.declared.token.Punct.{Punct}
use Rattle.cx_lex.specs.declared.token.Punct.TheVariants as punct
use Rattle.cx_lex.specs.declared.token.Token.{Token}
use Rattle.cx_lex.specs.declared.token.TokenKind.TheVariants as kind
use Rattle.cx_lex.specs.declared.token.Ty0.TheVariants as ty
use Rattle.cx_tree.specs.Depth.{decl_depth, stmt_depth}
use Rattle.cx_tree.specs.Tokens.{decl_tokens, stmt_tokens}
use Rattle.cx_tree.specs.Trees.{ExprTree, Name, Number, some_expr, no_expr, SpecTree, SpecTrees, Key, Record, Enum, no_specs, more_specs, MemberDecl, no_member_decls, more_member_decls, some_members, MemberDeclarator, no_member_declarators, more_member_declarators, Enumerator, no_enumerators, more_enumerators, some_enumerator_list, DeclaratorTree, Missing, Identifier, Group, Pointer, Array, Function, Identifiers, Length, StaticFirst, StaticLast, Star, Param, no_params, more_params, DeclTree, InitDeclaratorTree, Single, FirstDeclared, FirstValue, StmtTree, Label, Case, Default, Block, ExprStmt, If, Switch, Do, For, Goto, Continue, Break, no_stmt, some_stmt, Statement, no_items, more_items}
use Rattle.cx_tree.specs.Valid.{IsValidStmt, IsValidDecl}
use Rattle.cx_tree.specs.Words.{is_storage_class, is_type_word, is_qualifier, is_function_specifier}

abbrev key : ℕ → Keyword → Token
key line word = record { kind = kind.Key word; line = line }

abbrev mark : ℕ → Punct → Token
mark line punct = record { kind = kind.Mark punct; line = line }

abbrev word : ℕ → List ℕ → Token
word line name = record { kind = kind.Word name; line = line }

abbrev number : ℕ → ℕ → Token
number line value = record { kind = kind.Number value ty.Int; line = line }

abbrev number_on : ℕ → ℕ → ExprTree
number_on line value = Number value ty.Int (line ∷ [])

abbrev x_on : ℕ → ExprTree
x_on line = Name (codes "x") (line ∷ [])

abbrev named : ℕ → List ℕ → DeclaratorTree
named line name = Identifier name (line ∷ [])

abbrev int_on : ℕ → SpecTrees
int_on line = more_specs (Key keyword.Int (line ∷ [])) no_specs

abbrev declaring : SpecTree → DeclTree
declaring spec = record { specs = more_specs spec no_specs; list = []; lines = 99 ∷ [] }

-- ---- `struct s { int a : 3 , : 0 ; int * b ; } ;`

abbrev structure : SpecTree
structure = Record false (Some (codes "s"))
    (some_members
    (more_member_decls
    (MemberDecl (int_on 4)
    (more_member_declarators (MemberDeclarator (named 5 (codes "a")) (some_expr (number_on 7 3)) (6 ∷ []))
    (more_member_declarators (MemberDeclarator Missing (some_expr (number_on 10 0)) (9 ∷ [])) no_member_declarators))
    (8 ∷ 11 ∷ []))
    (more_member_decls
    (MemberDecl (int_on 12) (more_member_declarators (MemberDeclarator (Pointer [] (named 14 (codes "b")) (13 ∷ [])) no_expr []) no_member_declarators) (15 ∷ []))
    no_member_decls)))
    (1 ∷ 2 ∷ 3 ∷ 16 ∷ [])

pub structure_tokens : decl_tokens (declaring structure)
    ≡ key 1 keyword.Struct ∷ word 2 (codes "s") ∷ mark 3 punct.LeftBrace ∷ key 4 keyword.Int ∷ word 5 (codes "a") ∷ mark 6 punct.Colon ∷ number 7 3
    ∷ mark 8 punct.Comma ∷ mark 9 punct.Colon ∷ number 10 0 ∷ mark 11 punct.Semicolon ∷ key 12 keyword.Int ∷ mark 13 punct.Star ∷ word 14 (codes "b")
    ∷ mark 15 punct.Semicolon ∷ mark 16 punct.RightBrace ∷ mark 99 punct.Semicolon ∷ []
structure_tokens = refl

-- declaration, specifier, member declaration, member declarator, pointer, identifier
pub structure_depth : decl_depth (declaring structure) ≡ 6
structure_depth = refl

pub structure_valid : IsValidDecl (declaring structure)
unfolding is_storage_class is_type_word is_qualifier is_function_specifier
structure_valid = record {
  first = record {
    present = lit≤ tt;
    each = (
      record {
        tagged = refl;
        listed = record {
          present = lit≤ tt;
          each = (
            record {
              specs = record { present = lit≤ tt; each = (record { part = refl; own = refl }, tt) };
              fit = refl;
              list = record {
                present = lit≤ tt;
                each = (
                  record { declarator = refl; fits = refl; behind = record { valid = refl; level = lit≤ tt }; own = refl },
                  (record { declarator = tt; fits = refl; behind = record { valid = refl; level = lit≤ tt }; own = refl }, tt),
                );
              };
              own = refl;
            },
            (
              record {
                specs = record { present = lit≤ tt; each = (record { part = refl; own = refl }, tt) };
                fit = refl;
                list = record {
                  present = lit≤ tt;
                  each = (record { declarator = record { first = tt; second = refl; own = refl }; fits = refl; behind = tt; own = refl }, tt);
                };
                own = refl;
              },
              tt,
            ),
          );
        };
        own = refl;
      },
      tt,
    );
  };
  second = tt;
  own = refl;
}

-- ---- `union { int x ; } ;`, `enum e { A , B = 2 , } ;`

pub union_tokens : decl_tokens (declaring
    (Record true None
    (some_members
    (more_member_decls (MemberDecl (int_on 3) (more_member_declarators (MemberDeclarator (named 4 (codes "x")) no_expr []) no_member_declarators) (5 ∷ [])) no_member_decls))
    (1 ∷ 2 ∷ 6 ∷ [])))
    ≡ key 1 keyword.Union ∷ mark 2 punct.LeftBrace ∷ key 3 keyword.Int ∷ word 4 (codes "x") ∷ mark 5 punct.Semicolon ∷ mark 6 punct.RightBrace
    ∷ mark 99 punct.Semicolon ∷ []
union_tokens = refl

pub enumeration_tokens : decl_tokens (declaring
    (Enum (Some (codes "e"))
    (some_enumerator_list (more_enumerators (Enumerator (codes "A") no_expr (4 ∷ [])) (more_enumerators (Enumerator (codes "B") (some_expr (number_on 8 2)) (6 ∷ 7 ∷ [])) no_enumerators)))
    true
    (1 ∷ 2 ∷ 3 ∷ 5 ∷ 9 ∷ 10 ∷ [])))
    ≡ key 1 keyword.Enum ∷ word 2 (codes "e") ∷ mark 3 punct.LeftBrace ∷ word 4 (codes "A") ∷ mark 5 punct.Comma ∷ word 6 (codes "B") ∷ mark 7 punct.Equal
    ∷ number 8 2 ∷ mark 9 punct.Comma ∷ mark 10 punct.RightBrace ∷ mark 99 punct.Semicolon ∷ []
enumeration_tokens = refl

-- ---- `int ( * const f ( int a , ... ) ) [ 3 ] , x = 1 , g ( a , b ) , h ( ) ;`

abbrev declarators : DeclTree
declarators = record {
  specs = int_on 1;
  list = record {
    declarator = Array
        (Group
        (Pointer (keyword.Const ∷ [])
        (Function (named 5 (codes "f")) (more_params (Param (int_on 7) (named 8 (codes "a")) []) no_params) true (6 ∷ 9 ∷ 10 ∷ 11 ∷ []))
        (3 ∷ 4 ∷ []))
        (2 ∷ 12 ∷ []))
        (Length [] (number_on 14 3)) (13 ∷ 15 ∷ []);
    init = None;
    lines = [];
  }
      ∷ record { declarator = named 17 (codes "x"); init = Some (Single (number_on 19 1)); lines = 18 ∷ [] }
      ∷ record { declarator = Identifiers (named 21 (codes "g")) (codes "a" ∷ codes "b" ∷ []) (22 ∷ 23 ∷ 24 ∷ 25 ∷ 26 ∷ []); init = None; lines = [] }
      ∷ record { declarator = Identifiers (named 28 (codes "h")) [] (29 ∷ 30 ∷ []); init = None; lines = [] } ∷ [];
  lines = 16 ∷ 20 ∷ 27 ∷ 31 ∷ [];
}

pub declarators_tokens : decl_tokens declarators
    ≡ key 1 keyword.Int ∷ mark 2 punct.LeftParenthesis ∷ mark 3 punct.Star ∷ key 4 keyword.Const ∷ word 5 (codes "f") ∷ mark 6 punct.LeftParenthesis
    ∷ key 7 keyword.Int ∷ word 8 (codes "a") ∷ mark 9 punct.Comma ∷ mark 10 punct.Ellipsis ∷ mark 11 punct.RightParenthesis ∷ mark 12 punct.RightParenthesis
    ∷ mark 13 punct.LeftBracket ∷ number 14 3 ∷ mark 15 punct.RightBracket ∷ mark 16 punct.Comma ∷ word 17 (codes "x") ∷ mark 18 punct.Equal ∷ number 19 1
    ∷ mark 20 punct.Comma ∷ word 21 (codes "g") ∷ mark 22 punct.LeftParenthesis ∷ word 23 (codes "a") ∷ mark 24 punct.Comma ∷ word 25 (codes "b")
    ∷ mark 26 punct.RightParenthesis ∷ mark 27 punct.Comma ∷ word 28 (codes "h") ∷ mark 29 punct.LeftParenthesis ∷ mark 30 punct.RightParenthesis
    ∷ mark 31 punct.Semicolon ∷ []
declarators_tokens = refl

-- declaration, declarator with initialiser, array, group, pointer, function, parameter, identifier or specifier
pub declarators_depth : decl_depth declarators ≡ 8
declarators_depth = refl

pub declarators_valid : IsValidDecl declarators
unfolding is_storage_class is_type_word is_qualifier is_function_specifier
declarators_valid = record {
  first = record { present = lit≤ tt; each = (record { part = refl; own = refl }, tt) };
  second = (
    record {
      declarator = record {
        of = record {
          first = refl;
          second = record {
            first = (refl, tt);
            second = record {
              of = refl;
              direct = refl;
              behind = record {
                present = lit≤ tt;
                each = (record { specs = record { present = lit≤ tt; each = (record { part = refl; own = refl }, tt) }; declarator = refl; fits = tt; own = refl }, tt);
              };
              own = refl;
            };
            own = refl;
          };
          own = refl;
        };
        direct = refl;
        behind = (tt, record { valid = refl; level = lit≤ tt });
        own = refl;
      };
      fits = refl;
      behind = tt;
      own = refl;
    },
    (
      record { declarator = refl; fits = refl; behind = record { valid = refl; level = lit≤ tt }; own = refl },
      (
        record { declarator = record { of = refl; direct = refl; behind = refl; own = refl }; fits = refl; behind = tt; own = refl },
        (record { declarator = record { of = refl; direct = refl; behind = refl; own = refl }; fits = refl; behind = tt; own = refl }, tt),
      ),
    ),
  );
  own = refl;
}

-- ---- the brackets of `int a [ static const 1 ] [ const static 1 ] [ const * ] ;`

abbrev brackets : DeclTree
brackets = record {
  specs = int_on 1;
  list = record {
    declarator = Array
        (Array (Array (named 2 (codes "a")) (StaticFirst (keyword.Const ∷ []) (number_on 6 1)) (3 ∷ 4 ∷ 5 ∷ 7 ∷ []))
        (StaticLast (keyword.Const ∷ []) (number_on 11 1)) (8 ∷ 9 ∷ 10 ∷ 12 ∷ []))
        (Star (keyword.Const ∷ [])) (13 ∷ 14 ∷ 15 ∷ 16 ∷ []);
    init = None;
    lines = [];
  } ∷ [];
  lines = 17 ∷ [];
}

pub brackets_tokens : decl_tokens brackets
    ≡ key 1 keyword.Int ∷ word 2 (codes "a") ∷ mark 3 punct.LeftBracket ∷ key 4 keyword.Static ∷ key 5 keyword.Const ∷ number 6 1 ∷ mark 7 punct.RightBracket
    ∷ mark 8 punct.LeftBracket ∷ key 9 keyword.Const ∷ key 10 keyword.Static ∷ number 11 1 ∷ mark 12 punct.RightBracket ∷ mark 13 punct.LeftBracket
    ∷ key 14 keyword.Const ∷ mark 15 punct.Star ∷ mark 16 punct.RightBracket ∷ mark 17 punct.Semicolon ∷ []
brackets_tokens = refl

-- declaration, declarator with initialiser, three arrays, identifier or number
pub brackets_depth : decl_depth brackets ≡ 6
brackets_depth = refl

-- ---- `if ( x ) if ( x ) ; else ;`: `else` belongs to the nearest `if`

abbrev null : ℕ → StmtTree
null line = ExprStmt no_expr (line ∷ [])

abbrev nearest : StmtTree
nearest = If (x_on 3) (If (x_on 7) (null 9) (some_stmt (null 11)) (5 ∷ 6 ∷ 8 ∷ 10 ∷ [])) no_stmt (1 ∷ 2 ∷ 4 ∷ [])

abbrev farthest : StmtTree
farthest = If (x_on 3) (If (x_on 7) (null 9) no_stmt (5 ∷ 6 ∷ 8 ∷ [])) (some_stmt (null 11)) (1 ∷ 2 ∷ 4 ∷ 10 ∷ [])

pub nearest_tokens : stmt_tokens nearest
    ≡ key 1 keyword.If ∷ mark 2 punct.LeftParenthesis ∷ word 3 (codes "x") ∷ mark 4 punct.RightParenthesis ∷ key 5 keyword.If ∷ mark 6 punct.LeftParenthesis
    ∷ word 7 (codes "x") ∷ mark 8 punct.RightParenthesis ∷ mark 9 punct.Semicolon ∷ key 10 keyword.Else ∷ mark 11 punct.Semicolon ∷ []
nearest_tokens = refl

pub same_tokens : stmt_tokens farthest ≡ stmt_tokens nearest
same_tokens = refl

pub nearest_valid : IsValidStmt nearest
nearest_valid = record {
  condition = record { valid = refl; level = lit≤ tt };
  branch = record {
    condition = record { valid = refl; level = lit≤ tt };
    branch = record { part = tt; own = refl };
    closed = refl;
    otherwise = record { part = tt; own = refl };
    own = refl;
  };
  closed = refl;
  otherwise = tt;
  own = refl;
}

pub farthest_invalid : IsValidStmt farthest → ⊥
farthest_invalid v = let e : false ≡ true = v.closed in cc

-- ---- `switch ( x ) { case 1 : a : continue ; default : do break ; while ( x ) ; }`

abbrev jumps : StmtTree
jumps = Switch (x_on 3)
    (Block
    (more_items (Statement (Case (number_on 7 1) (Label (codes "a") (Continue (11 ∷ 12 ∷ [])) (9 ∷ 10 ∷ [])) (6 ∷ 8 ∷ [])))
    (more_items (Statement (Default (Do (Break (16 ∷ 17 ∷ [])) (x_on 20) (15 ∷ 18 ∷ 19 ∷ 21 ∷ 22 ∷ [])) (13 ∷ 14 ∷ []))) no_items))
    (5 ∷ 23 ∷ []))
    (1 ∷ 2 ∷ 4 ∷ [])

pub jumps_tokens : stmt_tokens jumps
    ≡ key 1 keyword.Switch ∷ mark 2 punct.LeftParenthesis ∷ word 3 (codes "x") ∷ mark 4 punct.RightParenthesis ∷ mark 5 punct.LeftBrace ∷ key 6 keyword.Case
    ∷ number 7 1 ∷ mark 8 punct.Colon ∷ word 9 (codes "a") ∷ mark 10 punct.Colon ∷ key 11 keyword.Continue ∷ mark 12 punct.Semicolon ∷ key 13 keyword.Default
    ∷ mark 14 punct.Colon ∷ key 15 keyword.Do ∷ key 16 keyword.Break ∷ mark 17 punct.Semicolon ∷ key 18 keyword.While ∷ mark 19 punct.LeftParenthesis
    ∷ word 20 (codes "x") ∷ mark 21 punct.RightParenthesis ∷ mark 22 punct.Semicolon ∷ mark 23 punct.RightBrace ∷ []
jumps_tokens = refl

-- `switch`, block, `case` or `default`, label or `do`, `continue`, `break` or name
pub jumps_depth : stmt_depth jumps ≡ 5
jumps_depth = refl

-- ---- `for ( int a ; x ; ) goto b ;`, `for ( ; ; x ) ;`: a declaration prints its semicolon itself

pub for_tokens : stmt_tokens
    (For (FirstDeclared (record { specs = int_on 3; list = record { declarator = named 4 (codes "a"); init = None; lines = [] } ∷ []; lines = 5 ∷ [] })) (some_expr (x_on 6)) no_expr
    (Goto (codes "b") (9 ∷ 10 ∷ 11 ∷ []))
    (1 ∷ 2 ∷ 7 ∷ 8 ∷ []))
    ≡ key 1 keyword.For ∷ mark 2 punct.LeftParenthesis ∷ key 3 keyword.Int ∷ word 4 (codes "a") ∷ mark 5 punct.Semicolon ∷ word 6 (codes "x")
    ∷ mark 7 punct.Semicolon ∷ mark 8 punct.RightParenthesis ∷ key 9 keyword.Goto ∷ word 10 (codes "b") ∷ mark 11 punct.Semicolon ∷ []
for_tokens = refl

pub for_ever_tokens : stmt_tokens (For (FirstValue no_expr) no_expr (some_expr (x_on 5)) (null 7) (1 ∷ 2 ∷ 3 ∷ 4 ∷ 6 ∷ []))
    ≡ key 1 keyword.For ∷ mark 2 punct.LeftParenthesis ∷ mark 3 punct.Semicolon ∷ mark 4 punct.Semicolon ∷ word 5 (codes "x") ∷ mark 6 punct.RightParenthesis
    ∷ mark 7 punct.Semicolon ∷ []
for_ever_tokens = refl
