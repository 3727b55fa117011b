use Rattle.std.proofs.Common.{◌≡◌, ◌++◌, map, drop}
use Rattle.cx_core.specs.Views.{view_expr, view_put}
use Rattle.cx_renumber.specs.Numbers.{expr_there, put_there}
use Rattle.cx_renumber.specs.Views.{view_numbers}
use Rattle.cx_renumber.proofs.expressions.+there.Given as goal

abbrev pub invariant-exprs_there-loop-one : goal.invariant-exprs_there-loop-one
invariant-exprs_there-loop-one l = map view_expr l.made ++ map (expr_there (view_numbers l.numbers)) (map view_expr (drop l.one-index l.all)) ≡ map (expr_there (view_numbers l.numbers)) (map view_expr l.all)

abbrev pub invariant-puts_there-loop-one : goal.invariant-puts_there-loop-one
invariant-puts_there-loop-one l = map view_put l.made ++ map (put_there (view_numbers l.numbers)) (map view_put (drop l.one-index l.puts)) ≡ map (put_there (view_numbers l.numbers)) (map view_put l.puts)
