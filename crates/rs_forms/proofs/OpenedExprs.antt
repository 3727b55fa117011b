-- What variants of expressions are as trees, and that an expression runs as its form does.
use Rattle.std.proofs.Common.{◌≡◌, ◌∙◌, refl, sym, ap, rules, map, ℤ, Bool, List, Option, option_map}
use Rattle.cr_runs.specs.Runs.{Ran, came, halted, bad, out, bind}
use Rattle.cr_world.specs.World.{World, Stop}
use Rattle.rs_mean.specs.declared.cause.Cause.{Cause}
use Rattle.rs_mean.specs.Run.{Frame, goes_on, run_dropped, run_expr, run_exprs, run_call_by, call_at, the_value}
use Rattle.rs_mean.specs.World.{Run, seq}
use Rattle.rs_text.specs.declared.integer.IntegerTy.{IntegerTy}
use Rattle.rs_text.specs.declared.operator.Operator.{Operator}
use Rattle.rs_text.specs.declared.operator.Wrapping.{Wrapping}
use Rattle.rs_text.specs.Tree as tree
use Rattle.rs_text.specs.Tree.{Expr, exprs, tys, option_ty}
use Rattle.rs_tree.specs.declared.expr.RExpr.{RExpr}
use Rattle.rs_tree.specs.declared.expr.RPlace.{RPlace}
use Rattle.rs_tree.specs.declared.expr.RExpr.TheFolds.{fold_out-RExpr}
use Rattle.rs_tree.specs.declared.expr.RExpr.TheBlock as plain
use Rattle.rs_tree.specs.declared.expr.RExpr.TheViews as of
use Rattle.rs_tree.specs.declared.expr.RExpr.TheViews.{the_lemmas as expr_lemmas}
use Rattle.rs_tree.specs.declared.ty.RPath.{RPath}
use Rattle.rs_tree.specs.declared.ty.RTy.{RTy}
use Rattle.rs_tree.specs.Views.{expr_view, place_view, ty_view}
use Rattle.rs_tree.proofs.Opened.{choose_view, transmute_view, cast_view, wrapping_neg_view, offset_from_view, some_view}

read_view : (of_place : RPlace) → expr_view (of.Read of_place) ≡ tree.Read (place_view of_place)
read_view of_place = search (rules, expr_lemmas, fold_out-RExpr)

address_view : (of_place : RPlace) → expr_view (of.AddressOf of_place) ≡ tree.AddressOf (place_view of_place)
address_view of_place = search (rules, expr_lemmas, fold_out-RExpr)

call_view : (path : RPath) (args : List RExpr) → expr_view (of.Call path args) ≡ tree.Call path.home path.name (exprs (map expr_view args))
call_view path args = search (rules, expr_lemmas, fold_out-RExpr)

call_by_view : (operand : RExpr) (args : List RExpr) → expr_view (of.CallBy operand args) ≡ tree.CallBy (expr_view operand) (exprs (map expr_view args))
call_by_view operand args = search (rules, expr_lemmas, fold_out-RExpr)

and_view : (left right : RExpr) → expr_view (of.And left right) ≡ tree.And (expr_view left) (expr_view right)
and_view left right = search (rules, expr_lemmas, fold_out-RExpr)

or_view : (left right : RExpr) → expr_view (of.Or left right) ≡ tree.Or (expr_view left) (expr_view right)
or_view left right = search (rules, expr_lemmas, fold_out-RExpr)

binary_view : (left right : RExpr) (operator : Operator) → expr_view (of.Binary left operator right) ≡ tree.Binary (expr_view left) operator (expr_view right)
binary_view left right operator = search (rules, expr_lemmas, fold_out-RExpr)

wrapping_view : (left right : RExpr) (operation : Wrapping) → expr_view (of.Wrapping left operation right) ≡ tree.Wrapped (expr_view left) operation (expr_view right)
wrapping_view left right operation = search (rules, expr_lemmas, fold_out-RExpr)

offset_view : (operand count : RExpr) → expr_view (of.Offset operand count) ≡ tree.Offset (expr_view operand) (expr_view count)
offset_view operand count = search (rules, expr_lemmas, fold_out-RExpr)

is_null_view : (operand : RExpr) → expr_view (of.IsNull operand) ≡ tree.IsNull (expr_view operand)
is_null_view operand = search (rules, expr_lemmas, fold_out-RExpr)

is_none_view : (operand : RExpr) → expr_view (of.IsNone operand) ≡ tree.IsNone (expr_view operand)
is_none_view operand = search (rules, expr_lemmas, fold_out-RExpr)

neg_view : (operand : RExpr) → expr_view (of.Neg operand) ≡ tree.Neg (expr_view operand)
neg_view operand = search (rules, expr_lemmas, fold_out-RExpr)

not_view : (operand : RExpr) → expr_view (of.Not operand) ≡ tree.Not (expr_view operand)
not_view operand = search (rules, expr_lemmas, fold_out-RExpr)

null_view : (ty : RTy) → expr_view (plain.NullPointer ty) ≡ tree.NullPointer (ty_view ty)
null_view ty = search (rules, expr_lemmas, fold_out-RExpr)

literal_view : (value : ℤ) (ty : IntegerTy) → expr_view (plain.Literal value ty) ≡ tree.Literal value ty
literal_view value ty = search (rules, expr_lemmas, fold_out-RExpr)

truth_view : (value : Bool) → expr_view (plain.Truth value) ≡ tree.Truth value
truth_view value = search (rules, expr_lemmas, fold_out-RExpr)

no_function_view : expr_view plain.NoFunction ≡ tree.NoFunction
no_function_view = search (rules, expr_lemmas, fold_out-RExpr)

-- two pieces and a third, by the first and the other two
bind_bind : {A B C : Type 0} (first : Ran (Stop Cause) World A) (next : A → Run B) (last : B → Run C) →
    bind (bind first next) last ≡ bind first (λ value world left. bind (next value world left) last)
bind_bind (came value world left) next last = refl
bind_bind (halted status world) next last = refl
bind_bind (bad why world) next last = refl
bind_bind (out world) next last = refl

parted : {A B C : Type 0} (first : Run A) (next : A → Run B) (last : B → Run C) → seq (seq first next) last ≡ seq first (λ value. seq (next value) last)
unfolding seq
parted first next last = λ i world units. bind_bind (first world units) next last i

all_parted : {A B C D E : Type 0} (first : Run A) (second : A → Run B) (third : Run C) (fourth : B → C → Run D) (last : D → Run E) →
    seq (seq first (λ one. seq (second one) (λ two. seq third (λ three. fourth two three)))) last
    ≡ seq first (λ one. seq (second one) (λ two. seq third (λ three. seq (fourth two three) last)))
all_parted first second third fourth last =
    parted first (λ one. seq (second one) (λ two. seq third (λ three. fourth two three))) last
    ∙ (λ i. seq first (λ one. parted (second one) (λ two. seq third (λ three. fourth two three)) last i))
    ∙ (λ i. seq first (λ one. seq (second one) (λ two. parted third (λ three. fourth two three) last i)))

module _ (frame : Frame) (which : RExpr) where
  by_tree : (one : Expr) → expr_view which ≡ one → run_expr frame one ≡ run_expr frame (expr_view which)
  by_tree one is = ap (λ (found : Expr). run_expr frame found) (sym is)

  -- one operand
  by_one : (form : Expr → Expr) (operand given : RExpr) → expr_view which ≡ form (expr_view operand) → given ≡ operand →
      run_expr frame (form (expr_view given)) ≡ run_expr frame (expr_view which)
  by_one form operand given is given_is = by_tree _ (is ∙ ap (λ (one : RExpr). form (expr_view one)) (sym given_is))

  -- two operands
  by_two : (form : Expr → Expr → Expr) (left right given other : RExpr) → expr_view which ≡ form (expr_view left) (expr_view right) → given ≡ left → other ≡ right →
      run_expr frame (form (expr_view given) (expr_view other)) ≡ run_expr frame (expr_view which)
  by_two form left right given other is given_is other_is =
      by_tree _ (is ∙ ap (λ (one : RExpr). form (expr_view one) (expr_view right)) (sym given_is) ∙ ap (λ (one : RExpr). form (expr_view given) (expr_view one)) (sym other_is))

  pub read_runs : (of_place given : RPlace) → which ≡ of.Read of_place → given ≡ of_place → run_expr frame (tree.Read (place_view given)) ≡ run_expr frame (expr_view which)
  read_runs of_place given is given_is = by_tree _ (ap expr_view is ∙ read_view of_place ∙ ap (λ (one : RPlace). tree.Read (place_view one)) (sym given_is))

  pub address_runs : (of_place given : RPlace) → which ≡ of.AddressOf of_place → given ≡ of_place → run_expr frame (tree.AddressOf (place_view given)) ≡ run_expr frame (expr_view which)
  address_runs of_place given is given_is = by_tree _ (ap expr_view is ∙ address_view of_place ∙ ap (λ (one : RPlace). tree.AddressOf (place_view one)) (sym given_is))

  pub call_runs : (path : RPath) (args : List RExpr) → which ≡ of.Call path args →
      seq (seq (run_exprs frame (exprs (map expr_view args))) (λ values. call_at frame.modules frame.bodies path.home path.name values)) the_value ≡ run_expr frame (expr_view which)
  call_runs path args is = parted _ _ the_value ∙ by_tree (tree.Call path.home path.name (exprs (map expr_view args))) (ap expr_view is ∙ call_view path args)

  pub call_by_runs : (operand given : RExpr) (args : List RExpr) → which ≡ of.CallBy operand args → given ≡ operand →
      seq (run_call_by frame (expr_view given) (exprs (map expr_view args))) the_value ≡ run_expr frame (expr_view which)
  call_by_runs operand given args is given_is =
      all_parted _ _ _ _ the_value ∙ by_one (λ one. tree.CallBy one (exprs (map expr_view args))) operand given (ap expr_view is ∙ call_by_view operand args) given_is

  pub and_runs : (left right given other : RExpr) → which ≡ of.And left right → given ≡ left → other ≡ right → run_expr frame (tree.And (expr_view given) (expr_view other)) ≡ run_expr frame (expr_view which)
  and_runs left right given other is given_is other_is = by_two tree.And left right given other (ap expr_view is ∙ and_view left right) given_is other_is

  pub or_runs : (left right given other : RExpr) → which ≡ of.Or left right → given ≡ left → other ≡ right → run_expr frame (tree.Or (expr_view given) (expr_view other)) ≡ run_expr frame (expr_view which)
  or_runs left right given other is given_is other_is = by_two tree.Or left right given other (ap expr_view is ∙ or_view left right) given_is other_is

  pub offset_runs : (operand count given other : RExpr) → which ≡ of.Offset operand count → given ≡ operand → other ≡ count → run_expr frame (tree.Offset (expr_view given) (expr_view other)) ≡ run_expr frame (expr_view which)
  offset_runs operand count given other is given_is other_is = by_two tree.Offset operand count given other (ap expr_view is ∙ offset_view operand count) given_is other_is

  pub offset_from_runs : (operand count given other : RExpr) → which ≡ of.OffsetFrom operand count → given ≡ operand → other ≡ count → run_expr frame (tree.OffsetFrom (expr_view given) (expr_view other)) ≡ run_expr frame (expr_view which)
  offset_from_runs operand count given other is given_is other_is = by_two tree.OffsetFrom operand count given other (ap expr_view is ∙ offset_from_view operand count) given_is other_is

  pub wrapping_runs : (left right given other : RExpr) (operation : Wrapping) → which ≡ of.Wrapping left operation right → given ≡ left → other ≡ right →
      run_expr frame (tree.Wrapped (expr_view given) operation (expr_view other)) ≡ run_expr frame (expr_view which)
  wrapping_runs left right given other operation is given_is other_is =
      by_two (λ one two. tree.Wrapped one operation two) left right given other (ap expr_view is ∙ wrapping_view left right operation) given_is other_is

  pub binary_runs : (left right given other : RExpr) (operator : Operator) → which ≡ of.Binary left operator right → given ≡ left → other ≡ right →
      run_expr frame (tree.Binary (expr_view given) operator (expr_view other)) ≡ run_expr frame (expr_view which)
  binary_runs left right given other operator is given_is other_is =
      by_two (λ one two. tree.Binary one operator two) left right given other (ap expr_view is ∙ binary_view left right operator) given_is other_is

  pub wrapping_neg_runs : (operand given : RExpr) → which ≡ of.WrappingNeg operand → given ≡ operand → run_expr frame (tree.WrappingNeg (expr_view given)) ≡ run_expr frame (expr_view which)
  wrapping_neg_runs operand given is given_is = by_one tree.WrappingNeg operand given (ap expr_view is ∙ wrapping_neg_view operand) given_is

  pub is_null_runs : (operand given : RExpr) → which ≡ of.IsNull operand → given ≡ operand → run_expr frame (tree.IsNull (expr_view given)) ≡ run_expr frame (expr_view which)
  is_null_runs operand given is given_is = by_one tree.IsNull operand given (ap expr_view is ∙ is_null_view operand) given_is

  pub is_none_runs : (operand given : RExpr) → which ≡ of.IsNone operand → given ≡ operand → run_expr frame (tree.IsNone (expr_view given)) ≡ run_expr frame (expr_view which)
  is_none_runs operand given is given_is = by_one tree.IsNone operand given (ap expr_view is ∙ is_none_view operand) given_is

  pub neg_runs : (operand given : RExpr) → which ≡ of.Neg operand → given ≡ operand → run_expr frame (tree.Neg (expr_view given)) ≡ run_expr frame (expr_view which)
  neg_runs operand given is given_is = by_one tree.Neg operand given (ap expr_view is ∙ neg_view operand) given_is

  pub not_runs : (operand given : RExpr) → which ≡ of.Not operand → given ≡ operand → run_expr frame (tree.Not (expr_view given)) ≡ run_expr frame (expr_view which)
  not_runs operand given is given_is = by_one tree.Not operand given (ap expr_view is ∙ not_view operand) given_is

  pub choose_runs : (condition if_true if_false given yes_given no_given : RExpr) → which ≡ of.Choose condition if_true if_false → given ≡ condition → yes_given ≡ if_true → no_given ≡ if_false →
      run_expr frame (tree.Choose (expr_view given) (expr_view yes_given) (expr_view no_given)) ≡ run_expr frame (expr_view which)
  choose_runs condition if_true if_false given yes_given no_given is given_is yes_is no_is =
      by_tree _ (ap expr_view is ∙ choose_view condition if_true if_false
      ∙ ap (λ (one : RExpr). tree.Choose (expr_view one) (expr_view if_true) (expr_view if_false)) (sym given_is)
      ∙ ap (λ (one : RExpr). tree.Choose (expr_view given) (expr_view one) (expr_view if_false)) (sym yes_is)
      ∙ ap (λ (one : RExpr). tree.Choose (expr_view given) (expr_view yes_given) (expr_view one)) (sym no_is))

  pub cast_runs : (operand given : RExpr) (ty other : RTy) → which ≡ of.Cast operand ty → given ≡ operand → other ≡ ty →
      run_expr frame (tree.Cast (expr_view given) (ty_view other)) ≡ run_expr frame (expr_view which)
  cast_runs operand given ty other is given_is other_is =
      by_tree _ (ap expr_view is ∙ cast_view operand ty
      ∙ ap (λ (one : RExpr). tree.Cast (expr_view one) (ty_view ty)) (sym given_is)
      ∙ ap (λ (one : RTy). tree.Cast (expr_view given) (ty_view one)) (sym other_is))

  pub transmute_runs : (from to other : RTy) (operand given : RExpr) → which ≡ of.Transmute from to operand → other ≡ to → given ≡ operand →
      run_expr frame (tree.Transmute (ty_view from) (ty_view other) (expr_view given)) ≡ run_expr frame (expr_view which)
  transmute_runs from to other operand given is other_is given_is =
      by_tree _ (ap expr_view is ∙ transmute_view from to operand
      ∙ ap (λ (one : RTy). tree.Transmute (ty_view from) (ty_view one) (expr_view operand)) (sym other_is)
      ∙ ap (λ (one : RExpr). tree.Transmute (ty_view from) (ty_view other) (expr_view one)) (sym given_is))

  pub null_runs : (ty other : RTy) → which ≡ plain.NullPointer ty → other ≡ ty → run_expr frame (tree.NullPointer (ty_view other)) ≡ run_expr frame (expr_view which)
  null_runs ty other is other_is = by_tree _ (ap expr_view is ∙ null_view ty ∙ ap (λ (one : RTy). tree.NullPointer (ty_view one)) (sym other_is))

  pub some_runs : (path : RPath) (params : List RTy) (given : Option RTy) → which ≡ plain.SomeFunction path params given →
      run_expr frame (tree.SomeFunction path.home path.name (tys (map ty_view params)) (option_ty (option_map ty_view given))) ≡ run_expr frame (expr_view which)
  some_runs path params given is = by_tree _ (ap expr_view is ∙ some_view path params given)

  pub literal_runs : (value : ℤ) (ty : IntegerTy) → which ≡ plain.Literal value ty → run_expr frame (tree.Literal value ty) ≡ run_expr frame (expr_view which)
  literal_runs value ty is = by_tree _ (ap expr_view is ∙ literal_view value ty)

  pub truth_runs : (value : Bool) → which ≡ plain.Truth value → run_expr frame (tree.Truth value) ≡ run_expr frame (expr_view which)
  truth_runs value is = by_tree _ (ap expr_view is ∙ truth_view value)

  pub no_function_runs : which ≡ plain.NoFunction → run_expr frame tree.NoFunction ≡ run_expr frame (expr_view which)
  no_function_runs is = by_tree _ (ap expr_view is ∙ no_function_view)

  -- a call whose result is dropped
  pub dropped_runs : (path : RPath) (args : List RExpr) → which ≡ of.Call path args →
      seq (seq (run_exprs frame (exprs (map expr_view args))) (λ values. call_at frame.modules frame.bodies path.home path.name values)) goes_on ≡ run_dropped frame (expr_view which)
  dropped_runs path args is = parted _ _ goes_on ∙ ap (λ (one : Expr). run_dropped frame one) (sym (ap expr_view is ∙ call_view path args))

  pub dropped_by_runs : (operand given : RExpr) (args : List RExpr) → which ≡ of.CallBy operand args → given ≡ operand →
      seq (run_call_by frame (expr_view given) (exprs (map expr_view args))) goes_on ≡ run_dropped frame (expr_view which)
  dropped_by_runs operand given args is given_is =
      ap (λ (one : Expr). run_dropped frame one)
      (ap (λ (one : RExpr). tree.CallBy (expr_view one) (exprs (map expr_view args))) given_is ∙ sym (ap expr_view is ∙ call_by_view operand args))
