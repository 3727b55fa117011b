-- What stands for a list of trees is the list of what stands for each.
use Rattle.std.specs.Prelude.{◌≡◌, List, [], ◌∷◌, map}
use mathlib.Core.Path.{refl, ap}
use Rattle.cx_core.specs.Trees.{CTy, more_types, CExpr, more_exprs, CPut, more_puts, CStmt, more_stmts}
use Rattle.cx_core.specs.Views.{types_of, exprs_of, puts_of, stmts_of}
use Rattle.cx_renumber.specs.Numbers.{CCounts, CNumbers, type_there, types_there, expr_there, exprs_there, put_there, puts_there, stmt_there, stmts_there}

pub types_are : (before : CCounts) (all : List CTy) → types_there before (types_of all) ≡ types_of (map (type_there before) all)
types_are before [] = refl
types_are before (first ∷ others) = ap (more_types (type_there before first)) (types_are before others)

pub exprs_are : (numbers : CNumbers) (all : List CExpr) → exprs_there numbers (exprs_of all) ≡ exprs_of (map (expr_there numbers) all)
exprs_are numbers [] = refl
exprs_are numbers (first ∷ others) = ap (more_exprs (expr_there numbers first)) (exprs_are numbers others)

pub puts_are : (numbers : CNumbers) (all : List CPut) → puts_there numbers (puts_of all) ≡ puts_of (map (put_there numbers) all)
puts_are numbers [] = refl
puts_are numbers (first ∷ others) = ap (more_puts (put_there numbers first)) (puts_are numbers others)

pub stmts_are : (numbers : CNumbers) (all : List CStmt) → stmts_there numbers (stmts_of all) ≡ stmts_of (map (stmt_there numbers) all)
stmts_are numbers [] = refl
stmts_are numbers (first ∷ others) = ap (more_stmts (stmt_there numbers first)) (stmts_are numbers others)
