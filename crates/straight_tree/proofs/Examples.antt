-- Worked examples that compute: the tokens, the depth and the validity of trees.
use Rattle.std.proofs.Common.{◌≡◌, ℕ, [], ◌∷◌, Some, None, codes, refl, lit≤, arith}
use Rattle.cx_lex.specs.declared.token.Keyword.TheVariants as keyword
use Rattle.cx_lex.specs.declared.token.Punct.TheVariants as punct
use Rattle.cx_lex.specs.declared.token.Token.{Token}
use Rattle.cx_lex.specs.declared.token.TokenKind.{TokenKind}
use Rattle.cx_lex.specs.declared.token.TokenKind.TheVariants as kind
use Rattle.cx_lex.specs.declared.token.Ty0.TheVariants as ty
use Rattle.straight_tree.specs.Depth.{expr_depth, unit_depth}
use Rattle.straight_tree.specs.Derives.{Derives}
use Rattle.straight_tree.specs.Levels.{binary_level, is_unary_operator}
use Rattle.straight_tree.specs.Tokens.{expr_tokens, unit_tokens}
use Rattle.straight_tree.specs.Trees.{ExprTree, Name, Number, Call, Unary, Binary, Assign, no_exprs, more_exprs, Int, Void, no_specs, more_specs, SpecsTree, Specs, Missing, Identifier, Function, Param, no_params, more_params, ExprInitialiser, Block, ExprStmt, Return, StmtItem, no_items, more_items, Definition, Declaration, UnitTree}
use Rattle.straight_tree.specs.Valid.{IsValidExpr}

abbrev on : ℕ → TokenKind → Token
on line k = record { kind = k; line = line }

abbrev int_on : ℕ → SpecsTree
int_on line = Specs (more_specs Int no_specs) (line ∷ [])

abbrev word : TokenKind
word = kind.Word (codes "x")

abbrev x_on : ℕ → ExprTree
x_on line = Name (codes "x") (line ∷ [])

abbrev one_on : ℕ → ExprTree
one_on line = Number 1 ty.Int (line ∷ [])

-- ---- `int x = 1, y;` on one line

abbrev two_objects : UnitTree
two_objects = record {
  parts = Declaration (record {
    specs = int_on 1;
    list = record { declarator = Identifier (codes "x") (1 ∷ []); init = Some (ExprInitialiser (one_on 1)); lines = 1 ∷ [] }
        ∷ record { declarator = Identifier (codes "y") (1 ∷ []); init = None; lines = [] } ∷ [];
    lines = 1 ∷ 1 ∷ [];
  }) ∷ [];
  lines = [];
}

pub two_objects_tokens : unit_tokens two_objects
    ≡ on 1 (kind.Key keyword.Int) ∷ on 1 word ∷ on 1 (kind.Mark punct.Equal) ∷ on 1 (kind.Number 1 ty.Int) ∷ on 1 (kind.Mark punct.Comma) ∷ on 1 (kind.Word (codes "y"))
    ∷ on 1 (kind.Mark punct.Semicolon) ∷ []
two_objects_tokens = refl

-- unit, declaration, declarator with initialiser, number
pub two_objects_depth : unit_depth two_objects ≡ 4
two_objects_depth = refl

pub two_objects_derived : Derives (unit_tokens two_objects) two_objects
two_objects_derived = record {
  valid = (lit≤ tt, ((((lit≤ tt), refl), ((refl, ((refl, lit≤ tt), refl)), ((refl, refl), tt)), refl), tt), refl);
  depth = lit≤ tt;
  spelled = refl;
}

-- ---- `int f(void, int x) { f(x, 1); return; }`, each token of the body on a line of its own

abbrev function : UnitTree
function = record {
  parts = Definition (int_on 1)
      (Function (Identifier (codes "f") (1 ∷ []))
      (more_params (Param (Specs (more_specs Void no_specs) (1 ∷ [])) Missing) (more_params (Param (int_on 1) (Identifier (codes "x") (1 ∷ []))) no_params)) (1 ∷ 1 ∷ 1 ∷ []))
      (Block
      (more_items (StmtItem (ExprStmt (Some (Call (Name (codes "f") (3 ∷ [])) (more_exprs (x_on 5) (more_exprs (one_on 7) no_exprs)) (4 ∷ 6 ∷ 8 ∷ []))) (9 ∷ [])))
      (more_items (StmtItem (Return None (10 ∷ 11 ∷ []))) no_items)) (2 ∷ 12 ∷ []))
      [] ∷ [];
  lines = [];
}

pub function_tokens : unit_tokens function
    ≡ on 1 (kind.Key keyword.Int) ∷ on 1 (kind.Word (codes "f")) ∷ on 1 (kind.Mark punct.LeftParenthesis) ∷ on 1 (kind.Key keyword.Void) ∷ on 1 (kind.Mark punct.Comma)
    ∷ on 1 (kind.Key keyword.Int) ∷ on 1 word ∷ on 1 (kind.Mark punct.RightParenthesis) ∷ on 2 (kind.Mark punct.LeftBrace) ∷ on 3 (kind.Word (codes "f"))
    ∷ on 4 (kind.Mark punct.LeftParenthesis) ∷ on 5 word ∷ on 6 (kind.Mark punct.Comma) ∷ on 7 (kind.Number 1 ty.Int) ∷ on 8 (kind.Mark punct.RightParenthesis)
    ∷ on 9 (kind.Mark punct.Semicolon) ∷ on 10 (kind.Key keyword.Return) ∷ on 11 (kind.Mark punct.Semicolon) ∷ on 12 (kind.Mark punct.RightBrace) ∷ []
function_tokens = refl

-- unit, definition, block, statement, call, name
pub function_depth : unit_depth function ≡ 6
function_depth = refl

-- ---- `-x * 1 + x`

abbrev sum : ExprTree
sum = Binary (Binary (Unary punct.Minus (x_on 1) (1 ∷ [])) punct.Star (one_on 1) (1 ∷ [])) punct.Plus (x_on 1) (1 ∷ [])

pub sum_tokens : expr_tokens sum ≡ on 1 (kind.Mark punct.Minus) ∷ on 1 word ∷ on 1 (kind.Mark punct.Star) ∷ on 1 (kind.Number 1 ty.Int) ∷ on 1 (kind.Mark punct.Plus) ∷ on 1 word ∷ []
sum_tokens = refl

pub sum_depth : expr_depth sum ≡ 4
sum_depth = refl

pub sum_valid : IsValidExpr sum
unfolding binary_level is_unary_operator
sum_valid = (lit≤ tt, (lit≤ tt, (refl, refl, lit≤ tt, refl), lit≤ tt, refl, lit≤ tt, refl), lit≤ tt, refl, lit≤ tt, refl)

-- `x - (x - 1)` without the parentheses is no tree: `-` groups to the left
pub no_right_group : IsValidExpr (Binary (x_on 1) punct.Minus (Binary (x_on 1) punct.Minus (one_on 1) (1 ∷ [])) (1 ∷ [])) → ⊥
unfolding binary_level
no_right_group v = let a = v.4 in omega (arith, a)

-- `x + 1 = 1` is no tree: a sum is no unary expression
pub no_sum_assigned : IsValidExpr (Assign (Binary (x_on 1) punct.Plus (one_on 1) (1 ∷ [])) punct.Equal (one_on 1) (1 ∷ [])) → ⊥
unfolding binary_level
no_sum_assigned v = let a = v.2 in omega (arith, a)
