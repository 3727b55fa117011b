-- What stands behind a left operand (ISO C99, 6.5.2 and 6.5.5 to 6.5.17), without it.
use Rattle.std.specs.Prelude.{ℕ, max, List, map}
use Rattle.cx_expr.specs.declared.tails.Tail.{Tail}
use Rattle.cx_expr.specs.declared.tails.Tail.TheVariants as tail
use Rattle.cx_lex.specs.declared.token.Punct.{Punct}
use Rattle.cx_tree.specs.Depth.{expr_depth, exprs_depth}
use Rattle.cx_tree.specs.Trees.{ExprTree, ExprTrees, Index, Call, Dot, Arrow, PostUp, PostDown, Binary, Cond, Assign, Comma}
use Rattle.cx_tree.specs.Views.{expr_view, exprs}

pub data TailTree : Type 0 where
  indexed : ExprTree → List ℕ → TailTree
  called : ExprTrees → List ℕ → TailTree
  dotted : List ℕ → List ℕ → TailTree
  pointed : List ℕ → List ℕ → TailTree
  up : List ℕ → TailTree
  down : List ℕ → TailTree
  operated : Punct → ExprTree → List ℕ → TailTree
  chosen : ExprTree → ExprTree → List ℕ → TailTree
  assigned : Punct → ExprTree → List ℕ → TailTree
  sequenced : ExprTree → List ℕ → TailTree

-- the left operand with what stands behind it
abbrev pub join : ExprTree → TailTree → ExprTree
join left (indexed index lines) = Index left index lines
join left (called args lines) = Call left args lines
join left (dotted member lines) = Dot left member lines
join left (pointed member lines) = Arrow left member lines
join left (up lines) = PostUp left lines
join left (down lines) = PostDown left lines
join left (operated op right lines) = Binary left op right lines
join left (chosen if_true if_false lines) = Cond left if_true if_false lines
join left (assigned op right lines) = Assign left op right lines
join left (sequenced right lines) = Comma left right lines

-- the depth of the deepest part, 0 where there is none
abbrev pub tail_depth : TailTree → ℕ
tail_depth (indexed index lines) = expr_depth index
tail_depth (called args lines) = exprs_depth args
tail_depth (dotted member lines) = 0
tail_depth (pointed member lines) = 0
tail_depth (up lines) = 0
tail_depth (down lines) = 0
tail_depth (operated op right lines) = expr_depth right
tail_depth (chosen if_true if_false lines) = max (expr_depth if_true) (expr_depth if_false)
tail_depth (assigned op right lines) = expr_depth right
tail_depth (sequenced right lines) = expr_depth right

abbrev pub tail_view : Tail → TailTree
tail_view (tail.Index index lines) = indexed (expr_view index) lines
tail_view (tail.Call args lines) = called (exprs (map expr_view args)) lines
tail_view (tail.Dot member lines) = dotted member lines
tail_view (tail.Arrow member lines) = pointed member lines
tail_view (tail.Up lines) = up lines
tail_view (tail.Down lines) = down lines
tail_view (tail.Binary op right lines) = operated op (expr_view right) lines
tail_view (tail.Cond if_true if_false lines) = chosen (expr_view if_true) (expr_view if_false) lines
tail_view (tail.Assign op right lines) = assigned op (expr_view right) lines
tail_view (tail.Comma right lines) = sequenced (expr_view right) lines
