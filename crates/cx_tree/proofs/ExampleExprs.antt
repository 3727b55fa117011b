-- Worked examples that compute: expressions, their tokens, levels, depth and validity.
use Rattle.std.proofs.Common.{◌≡◌, ℕ, List, [], ◌∷◌, true, codes, refl, lit≤, arith}
use Rattle.cx_lex.specs.declared.token.Keyword.TheVariants as keyword
use Rattle.cx_lex.specs.declared.token.Punct.TheVariants as punct
use Rattle.cx_lex.specs.declared.token.Token.{Token}
use Rattle.cx_lex.specs.declared.token.TokenKind.{TokenKind}
use Rattle.cx_lex.specs.declared.token.TokenKind.TheVariants as kind
use Rattle.cx_lex.specs.declared.token.Ty0.TheVariants as ty
use Rattle.cx_tree.specs.Depth.{expr_depth}
use Rattle.cx_tree.specs.Levels.{binary_level, is_unary_operator, level}
use Rattle.cx_tree.specs.Tokens.{expr_tokens}
use Rattle.cx_tree.specs.Trees.{ExprTree, Name, Number, Text, Index, Call, Arrow, PostUp, Literal, PreUp, Unary, SizeofExpr, SizeofType, Cast, Binary, Cond, Assign, Comma, no_exprs, more_exprs, TypeNameTree, TypeName, Key, no_specs, more_specs, Missing, Array, Unsized, Single, InitialiserList, Entry, no_entries, more_entries, Element, no_designators, more_designators}
use Rattle.cx_tree.specs.Valid.{IsValidExpr}
use Rattle.cx_tree.specs.Words.{is_storage_class, is_type_word, is_qualifier, is_function_specifier}

abbrev on : ℕ → TokenKind → Token
on line k = record { kind = k; line = line }

abbrev name_on : List ℕ → ℕ → ExprTree
name_on name line = Name name (line ∷ [])

abbrev x_on : ℕ → ExprTree
x_on = name_on (codes "x")

abbrev number_on : ℕ → ℕ → ExprTree
number_on value line = Number value ty.Int (line ∷ [])

abbrev int_on : ℕ → TypeNameTree
int_on line = TypeName (more_specs (Key keyword.Int (line ∷ [])) no_specs) Missing []

-- ---- `-x * 1 + x`

abbrev sum : ExprTree
sum = Binary (Binary (Unary punct.Minus (x_on 1) (2 ∷ [])) punct.Star (number_on 1 3) (4 ∷ [])) punct.Plus (x_on 5) (6 ∷ [])

pub sum_tokens : expr_tokens sum
    ≡ on 2 (kind.Mark punct.Minus) ∷ on 1 (kind.Word (codes "x")) ∷ on 4 (kind.Mark punct.Star) ∷ on 3 (kind.Number 1 ty.Int) ∷ on 6 (kind.Mark punct.Plus)
    ∷ on 5 (kind.Word (codes "x")) ∷ []
sum_tokens = refl

pub sum_level : level sum ≡ 12
unfolding binary_level
sum_level = refl

pub sum_depth : expr_depth sum ≡ 4
sum_depth = refl

pub sum_valid : IsValidExpr sum
unfolding binary_level is_unary_operator
sum_valid = record {
  operator = lit≤ tt;
  left = record {
    valid = record {
      operator = lit≤ tt;
      left = record { valid = record { operator = refl; operand = record { valid = refl; level = lit≤ tt }; own = refl }; level = lit≤ tt };
      right = record { valid = refl; level = lit≤ tt };
      own = refl;
    };
    level = lit≤ tt;
  };
  right = record { valid = refl; level = lit≤ tt };
  own = refl;
}

-- `x - (x - 1)` without the parentheses is no tree: `-` groups to the left
pub no_right_group : IsValidExpr (Binary (x_on 1) punct.Minus (Binary (x_on 1) punct.Minus (number_on 1 1) (1 ∷ [])) (1 ∷ [])) → ⊥
unfolding binary_level
no_right_group v = let a = v.right.level in omega (arith, a)

-- `x ? x : x = 1` is no tree: a conditional expression is assigned to in none
pub no_choice_assigned : IsValidExpr (Assign (Cond (x_on 1) (x_on 1) (x_on 1) (1 ∷ 1 ∷ [])) punct.Equal (number_on 1 1) (1 ∷ [])) → ⊥
no_choice_assigned v = let a = v.left.level in omega (arith, a)

-- `++ ( int ) x` is no tree: the operand of `++` is a unary expression, that of `-` a cast
pub no_cast_stepped : IsValidExpr (PreUp (Cast (int_on 1) (x_on 1) (1 ∷ 1 ∷ [])) (1 ∷ [])) → ⊥
no_cast_stepped v = let a = v.part.level in omega (arith, a)

-- ---- `x -> y ++ [ 1 ] ( ) ( x , 1 )`

abbrev postfix : ExprTree
postfix = Call (Call (Index (PostUp (Arrow (x_on 1) (codes "y") (2 ∷ 3 ∷ [])) (4 ∷ [])) (number_on 1 6) (5 ∷ 7 ∷ [])) no_exprs (8 ∷ 9 ∷ []))
    (more_exprs (x_on 11) (more_exprs (number_on 1 13) no_exprs)) (10 ∷ 12 ∷ 14 ∷ [])

pub postfix_tokens : expr_tokens postfix
    ≡ on 1 (kind.Word (codes "x")) ∷ on 2 (kind.Mark punct.Arrow) ∷ on 3 (kind.Word (codes "y")) ∷ on 4 (kind.Mark punct.PlusPlus)
    ∷ on 5 (kind.Mark punct.LeftBracket) ∷ on 6 (kind.Number 1 ty.Int) ∷ on 7 (kind.Mark punct.RightBracket) ∷ on 8 (kind.Mark punct.LeftParenthesis)
    ∷ on 9 (kind.Mark punct.RightParenthesis) ∷ on 10 (kind.Mark punct.LeftParenthesis) ∷ on 11 (kind.Word (codes "x")) ∷ on 12 (kind.Mark punct.Comma)
    ∷ on 13 (kind.Number 1 ty.Int) ∷ on 14 (kind.Mark punct.RightParenthesis) ∷ []
postfix_tokens = refl

pub postfix_depth : expr_depth postfix ≡ 6
postfix_depth = refl

-- ---- `"a" "b" , sizeof x , sizeof ( int )`

abbrev sizes : ExprTree
sizes = Comma (Comma (Text (codes "a" ∷ codes "b" ∷ []) (1 ∷ 2 ∷ [])) (SizeofExpr (x_on 5) (4 ∷ [])) (3 ∷ [])) (SizeofType (int_on 9) (7 ∷ 8 ∷ 10 ∷ [])) (6 ∷ [])

pub sizes_tokens : expr_tokens sizes
    ≡ on 1 (kind.Text (codes "a")) ∷ on 2 (kind.Text (codes "b")) ∷ on 3 (kind.Mark punct.Comma) ∷ on 4 (kind.Key keyword.Sizeof) ∷ on 5 (kind.Word (codes "x"))
    ∷ on 6 (kind.Mark punct.Comma) ∷ on 7 (kind.Key keyword.Sizeof) ∷ on 8 (kind.Mark punct.LeftParenthesis) ∷ on 9 (kind.Key keyword.Int)
    ∷ on 10 (kind.Mark punct.RightParenthesis) ∷ []
sizes_tokens = refl

-- comma, `sizeof`, type name, specifier
pub sizes_depth : expr_depth sizes ≡ 4
sizes_depth = refl

-- ---- `( int [ ] ) { 1 , [ 3 ] = 2 , }`

abbrev literal : ExprTree
literal = Literal (TypeName (more_specs (Key keyword.Int (2 ∷ [])) no_specs) (Array Missing (Unsized []) (3 ∷ 4 ∷ [])) [])
    (InitialiserList
    (more_entries (Entry no_designators (Single (number_on 1 7)) [])
    (more_entries (Entry (more_designators (Element (number_on 3 10) (9 ∷ 11 ∷ [])) no_designators) (Single (number_on 2 13)) (12 ∷ [])) no_entries))
    true
    (6 ∷ 8 ∷ 14 ∷ 15 ∷ []))
    (1 ∷ 5 ∷ [])

pub literal_tokens : expr_tokens literal
    ≡ on 1 (kind.Mark punct.LeftParenthesis) ∷ on 2 (kind.Key keyword.Int) ∷ on 3 (kind.Mark punct.LeftBracket) ∷ on 4 (kind.Mark punct.RightBracket)
    ∷ on 5 (kind.Mark punct.RightParenthesis) ∷ on 6 (kind.Mark punct.LeftBrace) ∷ on 7 (kind.Number 1 ty.Int) ∷ on 8 (kind.Mark punct.Comma)
    ∷ on 9 (kind.Mark punct.LeftBracket) ∷ on 10 (kind.Number 3 ty.Int) ∷ on 11 (kind.Mark punct.RightBracket) ∷ on 12 (kind.Mark punct.Equal)
    ∷ on 13 (kind.Number 2 ty.Int) ∷ on 14 (kind.Mark punct.Comma) ∷ on 15 (kind.Mark punct.RightBrace) ∷ []
literal_tokens = refl

-- literal, list, entry, designator, number
pub literal_depth : expr_depth literal ≡ 5
literal_depth = refl

pub literal_valid : IsValidExpr literal
unfolding is_storage_class is_type_word is_qualifier is_function_specifier
literal_valid = record {
  first = record {
    specs = record { present = lit≤ tt; each = (record { part = refl; own = refl }, tt) };
    declarator = record { of = tt; direct = refl; behind = tt; own = refl };
    fits = refl;
    own = refl;
  };
  second = record {
    part = record {
      present = lit≤ tt;
      each = (
        record { first = tt; second = record { valid = refl; level = lit≤ tt }; own = refl },
        (record { first = (record { part = record { valid = refl; level = lit≤ tt }; own = refl }, tt); second = record { valid = refl; level = lit≤ tt }; own = refl }, tt),
      );
    };
    own = refl;
  };
  own = refl;
}
