-- What the readers of parts give, by what is asked for.
use Rattle.std.specs.Prelude.{◌≡◌, ◌≢◌, ◌≤◌, ℕ, Option, Some, None, Result, Ok, Err, map}
use denote.Ref.{MutBor}
use Rattle.cx_cursor.specs.Reading.{State}
use Rattle.cx_cursor.specs.Scopes.{bound}
use Rattle.cx_cursor.specs.declared.fault.Fault.{Fault}
use Rattle.cx_cursor.specs.declared.fault.Fault.TheVariants.{Memory}
use Rattle.cx_expr.specs.Below.{Below, DeclaratorRead, declarator_read}
use Rattle.cx_expr.specs.Knot.{readers}
use Rattle.cx_expr.specs.declared.wanted.Found.{Found}
use Rattle.cx_expr.specs.declared.wanted.Found.TheVariants as found
use Rattle.cx_expr.specs.declared.wanted.Wanted.{Wanted}
use Rattle.cx_expr.specs.declared.wanted.Wanted.TheVariants as wanted
use Rattle.cx_tree.specs.Depth.{expr_depth, type_name_depth, spec_depth, declarator_depth, initialiser_list_depth}
use Rattle.cx_tree.specs.Trees.{ExprTree, TypeNameTree, SpecTree, InitialiserListTree}
use Rattle.cx_tree.specs.Views.{expr_view, type_name_view, spec_view, declarator_view, initialiser_list_view}

-- The answer is this tree, whose depth is told, and at most so great.
pub record Finds {A : Type 0} (answer : Option (A × State)) (tree : A) (after : State) (told deep most : ℕ) : Type 0 where
  pub reads : answer ≡ Some (tree, after)
  pub depth : told ≡ deep
  pub within : told ≤ most

module _ (after : State) (most : ℕ) where
  abbrev pub TellsExpr : Option (ExprTree × State) → Result Found Fault → Type 0
  TellsExpr answer (Ok (found.Expr r)) = Finds answer (expr_view r.tree) after r.depth (expr_depth (expr_view r.tree)) most
  TellsExpr answer (Ok _) = ⊥
  TellsExpr answer (Err fault) = fault ≢ Memory → answer ≡ None

  abbrev pub TellsTypeName : Option (TypeNameTree × State) → Result Found Fault → Type 0
  TellsTypeName answer (Ok (found.TypeName r)) = Finds answer (type_name_view r.tree) after r.depth (type_name_depth (type_name_view r.tree)) most
  TellsTypeName answer (Ok _) = ⊥
  TellsTypeName answer (Err fault) = fault ≢ Memory → answer ≡ None

  abbrev pub TellsSpec : Option (SpecTree × State) → Result Found Fault → Type 0
  TellsSpec answer (Ok (found.Spec r)) = Finds answer (spec_view r.tree) after r.depth (spec_depth (spec_view r.tree)) most
  TellsSpec answer (Ok _) = ⊥
  TellsSpec answer (Err fault) = fault ≢ Memory → answer ≡ None

  abbrev pub TellsDeclarator : Option (DeclaratorRead × State) → Result Found Fault → Type 0
  TellsDeclarator answer (Ok (found.Declarator r)) = Finds answer (declarator_read (declarator_view r.tree) (map bound r.own)) after r.depth (declarator_depth (declarator_view r.tree)) most
  TellsDeclarator answer (Ok _) = ⊥
  TellsDeclarator answer (Err fault) = fault ≢ Memory → answer ≡ None

  abbrev pub TellsList : Option (InitialiserListTree × State) → Result Found Fault → Type 0
  TellsList answer (Ok (found.List r)) = Finds answer (initialiser_list_view r.tree) after r.depth (initialiser_list_depth (initialiser_list_view r.tree)) most
  TellsList answer (Ok _) = ⊥
  TellsList answer (Err fault) = fault ≢ Memory → answer ≡ None

-- What is found is what the readers give of what is asked for, at most so deep; where nothing is found they give nothing, unless
-- memory ran out.
abbrev pub Tells : Below → ℕ → Wanted → State → Result Found Fault → State → Type 0
Tells below most (wanted.Expr least) old result new = TellsExpr new most (below.expr least old) result
Tells below most wanted.TypeName old result new = TellsTypeName new most (below.type_name old) result
Tells below most wanted.Spec old result new = TellsSpec new most (below.spec old) result
Tells below most (wanted.Declarator form) old result new = TellsDeclarator new most (below.declarator form old) result
Tells below most wanted.List old result new = TellsList new most (below.list old) result

-- Each call for what is at most so deep may be made, and reads that; of a function value, by when it may be called and what a call
-- of it may leave.
unfoldable pub IsBelow : (MutBor State → ℕ → Wanted → Type 0) → (MutBor State → ℕ → Wanted → Result Found Fault → MutBor State → Type 0) → ℕ → Type 0
IsBelow pre post depth =
    ((old : MutBor State) (most : ℕ) (wanted : Wanted) → most ≤ depth → pre old most wanted)
    × ((old : MutBor State) (most : ℕ) (wanted : Wanted) (result : Result Found Fault) (new : MutBor State)
    → most ≤ depth → post old most wanted result new → Tells (readers most) most wanted old.now result new.now)
