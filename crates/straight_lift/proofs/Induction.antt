-- The statements that are written for an expression do what the expression does, by induction on the expression.
use Rattle.std.proofs.Common.{◌≡◌, ℕ, suc, ◌≤◌, ◌<◌, ℤ, List, [], ◌∷◌, ◌++◌, Option, Some, None, refl, sym, ap, subst, ◌∙◌, arith, append_assoc, Bool, true, rules}
use Rattle.std.specs.Prelude.{IfSome, IsSome}
use Rattle.std.proofs.lemmas.List.{append-nil}
use Rattle.cr_base.specs.declared.refusal.Place.{Place as Origin}
use Rattle.cr_runs.proofs.Rules.{values, pieces, renamed, bind_came}
use Rattle.cr_runs.specs.Owes.{Owes, Rests}
use Rattle.cr_runs.specs.Runs.{Ran, came, bind}
use Rattle.straight_core.specs.declared.expr.Op1.{Op1}
use Rattle.straight_core.specs.declared.expr.Op1.TheVariants.{Minus}
use Rattle.straight_core.specs.declared.expr.Op2.{Op2}
use Rattle.straight_core.specs.Linked.{IsLinked, IsOpaque, IsOpaqueResult}
use Rattle.straight_core.specs.Trees.{CTy, ty, CTyForm, void, int, function, form_of_type, expr, CForm, whole, object, load, convert, unary, binary, assign as stores, call as calls, CExprs, no_exprs, more_exprs, COuter, CProgram}
use Rattle.straight_core.specs.Typing.{IsTypedForm, AreTyped, IsLvalueForm, IsCallOf, outer_with}
use Rattle.straight_mean.proofs.SoundCalls.{by_type, promoted_int, scalar_int, unqualified_form, operand_int, AreIntArgs, AreOperands, args_ints, outer_typed, call_sound}
use Rattle.straight_mean.proofs.Sound.{Outcome}
use Rattle.straight_mean.proofs.SoundValues.{lvalue_sound, value_sound}
use Rattle.straight_mean.specs.Leftmost.{CRan, c_form, c_values, c_node}
use Rattle.straight_mean.specs.Nodes.{load_step, assign_step, unary_step, binary_step, convert_step, call_step}
use Rattle.straight_mean.specs.Operands.{CValue, scalar, designates, designated, COperand, Frame as CFrame, CWorld, constant, lvalue}
use Rattle.straight_mean.specs.Sound.{GivesInt}
use Rattle.straight_lift.specs.Agrees.{WorldsAgree, HasTemporaries, FramesAgree, NamesObject, NamesFunction, IsOuterOf, Holds, Gives, Keeps, Meets, FormCallsOnly, ArgsCallOnly}
use Rattle.straight_lift.specs.declared.atom.Atom.TheVariants.{Fixed, Temporary}
use Rattle.straight_lift.specs.declared.atom.Atom.{Atom}
use Rattle.straight_lift.specs.Lifted.{Names, Lifted, LiftedArgs, operand_expr, operator_of, held, held_atom, lifted_unary, lifted_call, lift_form, lift_args}
use Rattle.straight_lift.specs.StandsFor.{Images}
use Rattle.straight_lift.proofs.Pieces.{events_of, run_list, run_append, stored_in, to_temporary, temporary_runs, operand_runs, meets_stored, keeps_then, keeps_all, holds_later, Arrives, alone, load_arrives, unary_arrives, binary_arrives, assign_arrives, convert_arrives, drop_arrives, HoldArgs, all_typed, args_accepted, counted, call_of, form_owes}
use Rattle.straight_lift.proofs.Silent.{events_in, silent_stmts, silent_then}
use Rattle.mem_bytes.specs.declared.value.Ptr.{Ptr}
use Rattle.mem_bytes.specs.declared.value.Value.{Value}
use Rattle.mem_bytes.specs.declared.value.Value.TheVariants.{Whole as Number}
use Rattle.straight_rust_mean.specs.Functions.{accepts}
use Rattle.straight_rust_mean.specs.Run.{Frame, then_on, Flow, normal}
use Rattle.straight_rust_mean.specs.World.{World}
use Rattle.straight_rust_mean.specs.declared.cause.Cause.{Cause}
use Rattle.straight_rust_tree.specs.Tree.{i32, static_at, literal, read, neg, binary as operates, Stmt, assign, stmts}

-- ---- numbers of temporaries

held_rises : (names : Names) (one : Lifted) (atom : Option Atom) (from : ℕ) → from ≤ one.next → from ≤ suc (held_atom names one atom).next
held_rises names one (Some (Fixed value)) from less = omega (arith, less)
held_rises names one (Some (Temporary number)) from less = omega (arith, less)
held_rises names one None from less = omega (arith, less)

mutual
  pub next_rises : (names : Names) (type : CTy) (form : CForm) (from : ℕ) → from ≤ (lift_form names type form from).next
  next_rises names type (whole value) from = omega arith
  next_rises names type (object number) from = omega arith
  next_rises names type (load of) from = omega arith
  next_rises names (ty void is_const) (convert (expr t p form)) from = next_rises names t form from
  next_rises names (ty int is_const) (convert (expr t p form)) from = next_rises names t form from
  next_rises names (ty (function result params variadic) is_const) (convert (expr t p form)) from = next_rises names t form from
  next_rises names type (unary Minus (expr t p form)) from =
      held_rises names (lift_form names t form from) (lift_form names t form from).value from (next_rises names t form from)
  next_rises names type (binary op (expr t p left) (expr u q right)) from =
      let one = next_rises names t left from in
      let other = next_rises names u right (lift_form names t left from).next in
      omega (arith, one, other)
  next_rises names type (stores target (expr u q value)) from = next_rises names u value from
  next_rises names (ty void is_const) (calls callee args) from = args_rise names args from
  next_rises names (ty int is_const) (calls callee args) from = omega (arith, args_rise names args from)
  next_rises names (ty (function result params variadic) is_const) (calls callee args) from = args_rise names args from

  pub args_rise : (names : Names) (args : CExprs) (from : ℕ) → from ≤ (lift_args names args from).next
  args_rise names no_exprs from = omega arith
  args_rise names (more_exprs (expr t p form) others) from =
      let one = next_rises names t form from in
      let more = args_rise names others (lift_form names t form from).next in
      omega (arith, one, more)

-- ---- expressions

-- what a lvalue of a program names, as a form
abbrev IsObject : CForm → Type 0
IsObject form = (number : ℕ) × (form ≡ object number)

module _ (program : CProgram) (linked : IsLinked program) (names : Names) (images : Images) (c_frame : CFrame) (frame : Frame) (limit : ℕ) (declared : ℕ → Bool)
    (agree : FramesAgree program names images c_frame frame limit declared) where
  -- what the statements of a list of its own owe an expression
  abbrev pub OweFor : ℕ → ℕ → Option Atom → CTy → World → ℕ → ℕ → (ℕ → CRan COperand) → (ℕ → Ran Cause World Flow) → Type 0
  OweFor from next atom type before n m source target =
      Owes events_of events_in (Meets images frame limit from next atom type before) n m source target

  -- the rest of a list is silent behind each flow
  pub rest_silent : (rest : List Stmt) (flow : Flow) (world : World) → Rests events_in (events_in world) (then_on (run_list frame rest) flow world 0)
  rest_silent rest flow world = silent_then (run_list frame rest) (silent_stmts frame (stmts rest)) flow world

  -- an operand's statements, and then a node's
  then_owes : (from next last : ℕ) (atom final : Option Atom) (inner type : CTy) (before : World) (source : ℕ → CRan COperand) (go : COperand → CWorld → ℕ → CRan COperand)
      (first rest : List Stmt) (world : World) (n m : ℕ) →
      OweFor from next atom inner world n m source (run_list frame first world) →
      ((operand : COperand) (c_world : CWorld) (middle : World) → Meets images frame limit from next atom inner world operand c_world normal middle →
      OweFor from last final type world n m (go operand c_world) (run_list frame rest middle)) →
      OweFor from last final type world n m (λ k. bind (source k) go) (run_list frame (first ++ rest) world)
  then_owes from next last atom final inner type before source go first rest world n m one all =
      renamed events_of events_in (Meets images frame limit from last final type world) n m (λ k. bind (source k) go) (λ k. bind (source k) go)
      (λ k. bind (run_list frame first world k) (then_on (run_list frame rest))) (run_list frame (first ++ rest) world)
      (λ k. refl) (λ k. sym (run_append frame first rest world k))
      (pieces events_of events_in (Meets images frame limit from next atom inner world) (Meets images frame limit from last final type world) source (run_list frame first world) go (then_on (run_list frame rest)) n m one
      (rest_silent rest)
      (λ operand c_world flow middle meets.
      let here : Meets images frame limit from next atom inner world operand c_world normal middle =
      subst (λ (f : Flow). Meets images frame limit from next atom inner world operand c_world f middle) meets.goes_on meets in
      subst (λ (f : Flow). OweFor from last final type world n m (go operand c_world) (then_on (run_list frame rest) f middle)) (sym meets.goes_on) (all operand c_world middle here)))

  -- an operand's statements, and a node for which nothing is written
  quiet_owes : (from next : ℕ) (atom final : Option Atom) (inner type : CTy) (source : ℕ → CRan COperand) (go : COperand → CWorld → ℕ → CRan COperand)
      (first : List Stmt) (world : World) (n m : ℕ) →
      OweFor from next atom inner world n m source (run_list frame first world) →
      ((operand : COperand) (c_world : CWorld) (middle : World) → Meets images frame limit from next atom inner world operand c_world normal middle →
      OweFor from next final type world n m (go operand c_world) (run_list frame [] middle)) →
      OweFor from next final type world n m (λ k. bind (source k) go) (run_list frame first world)
  quiet_owes from next atom final inner type source go first world n m one all =
      subst (λ (list : List Stmt). OweFor from next final type world n m (λ k. bind (source k) go) (run_list frame list world)) (append-nil first)
      (then_owes from next next atom final inner type world source go first [] world n m one all)

  -- the number that an operand of type `int` gives, and that its atom holds it
  pub held_number : (next : ℕ) (world : World) (atom : Option Atom) (operand : COperand) (gives : GivesInt operand.value) → Gives frame next world atom operand.value →
      Holds frame next world atom (Number gives.is_int.number)
  held_number next world atom operand gives held =
      let value : operand.value ≡ scalar (Number gives.is_int.number) = gives.is ∙ ap (λ (v : Value). scalar v) gives.is_int.is in
      subst (λ (v : CValue). Gives frame next world atom v) value held

  pub given_number : (operand : COperand) (gives : GivesInt operand.value) → operand.value ≡ scalar (Number gives.is_int.number)
  given_number operand gives = gives.is ∙ ap (λ (v : Value). scalar v) gives.is_int.is

  -- statements that come to their end, in front of others
  prefixed : (from next : ℕ) (atom : Option Atom) (type : CTy) (before middle after : World) (operand : COperand) (c_world : CWorld) (first rest : List Stmt) →
      ((units : ℕ) → run_list frame first middle units ≡ came normal after units) →
      Arrives program names images c_frame frame limit declared agree from next atom type before operand c_world (run_list frame rest after) →
      Arrives program names images c_frame frame limit declared agree from next atom type before operand c_world (run_list frame (first ++ rest) middle)
  prefixed from next atom type before middle after operand c_world first rest runs arrives = record {
    world = arrives.world;
    flow = arrives.flow;
    comes = λ units. run_append frame first rest middle units ∙ (ap (λ (r : Ran Cause World Flow). bind r (then_on (run_list frame rest))) (runs units) ∙ arrives.comes units);
    meets = arrives.meets;
  }

  -- ---- unary operators: a literal is stored first

  unary_node : (from next : ℕ) (is_const : Bool) (op : Op1) (atom : Option Atom) (before middle : World) (operand : COperand) (inner : CTy) (place : Origin) (c_world : CWorld) (n m : ℕ) →
      form_of_type inner ≡ int → from ≤ next → (lifted_unary names op (held names (record { stmts = []; value = atom; next = next }))).next ≤ limit →
      Meets images frame limit from next atom inner before operand c_world normal middle →
      OweFor from (lifted_unary names op (held names (record { stmts = []; value = atom; next = next }))).next
      (lifted_unary names op (held names (record { stmts = []; value = atom; next = next }))).value (ty int is_const) before n m
      (c_node place c_world (unary_step op (ty int is_const) operand c_world))
      (run_list frame (lifted_unary names op (held names (record { stmts = []; value = atom; next = next }))).stmts middle)
  unary_node from next is_const Minus None before middle operand inner place c_world n m is less within meets =
      let gives = operand_int inner operand is meets.typed in
      absurd (held_number next middle None operand gives meets.gives)
  unary_node from next is_const Minus (Some (Temporary number)) before middle operand inner place c_world n m is less within meets =
      let gives = operand_int inner operand is meets.typed in
      alone program names images c_frame frame limit declared agree from (suc next) (Some (Temporary next)) (ty int is_const) before middle place c_world (unary_step Minus (ty int is_const) operand c_world)
      (to_temporary program names images c_frame frame limit declared agree next (neg (operand_expr names (Some (Temporary number))))) n m meets.worlds.events
      (λ one e. unary_arrives program names images c_frame frame limit declared agree from next is_const Minus operand gives.is_int.number (Some (Temporary number)) before middle c_world one meets.worlds meets.temporaries meets.keeps less (omega (arith, within))
      (given_number operand gives) gives (held_number next middle (Some (Temporary number)) operand gives meets.gives) e)
  unary_node from next is_const Minus (Some (Fixed value)) before middle operand inner place c_world n m is less within meets =
      let gives = operand_int inner operand is meets.typed in
      let number = gives.is_int.number in
      let holds = held_number next middle (Some (Fixed value)) operand gives meets.gives in
      let stored = stored_in program names images c_frame frame limit declared agree next number middle meets.temporaries (omega (arith, within)) gives.is_int.in_range in
      let later = meets_stored program names images c_frame frame limit declared agree from next number inner before middle c_world operand stored meets.worlds meets.keeps less meets.typed (given_number operand gives) in
      let literal_runs = temporary_runs program names images c_frame frame limit declared agree next number middle (operand_expr names (Some (Fixed value))) stored
      (operand_runs program names images c_frame frame limit declared agree next middle (Some (Fixed value)) number (omega (arith, within)) holds) in
      alone program names images c_frame frame limit declared agree from (suc (suc next)) (Some (Temporary (suc next))) (ty int is_const) before middle place c_world (unary_step Minus (ty int is_const) operand c_world)
      (to_temporary program names images c_frame frame limit declared agree next (operand_expr names (Some (Fixed value)))
      ++ to_temporary program names images c_frame frame limit declared agree (suc next) (neg (operand_expr names (Some (Temporary next))))) n m meets.worlds.events
      (λ one e. prefixed from (suc (suc next)) (Some (Temporary (suc next))) (ty int is_const) before middle stored.after one.operand one.world
      (to_temporary program names images c_frame frame limit declared agree next (operand_expr names (Some (Fixed value))))
      (to_temporary program names images c_frame frame limit declared agree (suc next) (neg (operand_expr names (Some (Temporary next))))) literal_runs
      (unary_arrives program names images c_frame frame limit declared agree from (suc next) is_const Minus operand number (Some (Temporary next)) before stored.after c_world one later.worlds later.temporaries later.keeps (omega (arith, less)) (omega (arith, within))
      (given_number operand gives) gives (held_number (suc next) stored.after (Some (Temporary next)) operand gives later.gives) e))

  unary_owes : (from next : ℕ) (is_const : Bool) (op : Op1) (list : List Stmt) (atom : Option Atom) (inner : CTy) (place : Origin) (source : ℕ → CRan COperand) (world : World) (n m : ℕ) →
      form_of_type inner ≡ int → from ≤ next → (lifted_unary names op (held names (record { stmts = list; value = atom; next = next }))).next ≤ limit →
      OweFor from next atom inner world n m source (run_list frame list world) →
      OweFor from (lifted_unary names op (held names (record { stmts = list; value = atom; next = next }))).next
      (lifted_unary names op (held names (record { stmts = list; value = atom; next = next }))).value (ty int is_const) world n m
      (λ k. bind (source k) (λ one c_world. c_node place c_world (unary_step op (ty int is_const) one c_world)))
      (run_list frame (lifted_unary names op (held names (record { stmts = list; value = atom; next = next }))).stmts world)
  unary_owes from next is_const Minus list None inner place source world n m is less within one =
      then_owes from next (suc next) None (Some (Temporary next)) inner (ty int is_const) world source (λ operand c_world. c_node place c_world (unary_step Minus (ty int is_const) operand c_world)) list
      (to_temporary program names images c_frame frame limit declared agree next (neg (operand_expr names None))) world n m one
      (λ operand c_world middle meets. unary_node from next is_const Minus None world middle operand inner place c_world n m is less within meets)
  unary_owes from next is_const Minus list (Some (Temporary number)) inner place source world n m is less within one =
      then_owes from next (suc next) (Some (Temporary number)) (Some (Temporary next)) inner (ty int is_const) world source (λ operand c_world. c_node place c_world (unary_step Minus (ty int is_const) operand c_world)) list
      (to_temporary program names images c_frame frame limit declared agree next (neg (operand_expr names (Some (Temporary number))))) world n m one
      (λ operand c_world middle meets. unary_node from next is_const Minus (Some (Temporary number)) world middle operand inner place c_world n m is less within meets)
  unary_owes from next is_const Minus list (Some (Fixed value)) inner place source world n m is less within one =
      subst (λ (whole_list : List Stmt). OweFor from (suc (suc next)) (Some (Temporary (suc next))) (ty int is_const) world n m
      (λ k. bind (source k) (λ operand c_world. c_node place c_world (unary_step Minus (ty int is_const) operand c_world))) (run_list frame whole_list world))
      (sym (append_assoc list (to_temporary program names images c_frame frame limit declared agree next (literal value i32)) (to_temporary program names images c_frame frame limit declared agree (suc next) (neg (operand_expr names (Some (Temporary next)))))))
      (then_owes from next (suc (suc next)) (Some (Fixed value)) (Some (Temporary (suc next))) inner (ty int is_const) world source (λ operand c_world. c_node place c_world (unary_step Minus (ty int is_const) operand c_world)) list
      (to_temporary program names images c_frame frame limit declared agree next (literal value i32) ++ to_temporary program names images c_frame frame limit declared agree (suc next) (neg (operand_expr names (Some (Temporary next))))) world n m one
      (λ operand c_world middle meets. unary_node from next is_const Minus (Some (Fixed value)) world middle operand inner place c_world n m is less within meets))

  -- ---- conversions

  convert_node : (from next : ℕ) (is_const : Bool) (atom : Option Atom) (before middle : World) (operand : COperand) (inner : CTy) (place : Origin) (c_world : CWorld) (n m : ℕ) →
      form_of_type inner ≡ int → Meets images frame limit from next atom inner before operand c_world normal middle →
      OweFor from next atom (ty int is_const) before n m (c_node place c_world (convert_step (ty int is_const) operand c_world)) (run_list frame [] middle)
  convert_node from next is_const atom before middle operand inner place c_world n m is meets =
      let gives = operand_int inner operand is meets.typed in
      alone program names images c_frame frame limit declared agree from next atom (ty int is_const) before middle place c_world (convert_step (ty int is_const) operand c_world) [] n m meets.worlds.events
      (λ one e. convert_arrives program names images c_frame frame limit declared agree from next is_const operand gives.is_int.number atom before middle c_world one meets.worlds meets.temporaries meets.keeps
      (given_number operand gives) gives gives.is_int.in_range (held_number next middle atom operand gives meets.gives) e)

  drop_node : (from next : ℕ) (is_const : Bool) (atom : Option Atom) (before middle : World) (operand : COperand) (inner : CTy) (place : Origin) (c_world : CWorld) (n m : ℕ) →
      Meets images frame limit from next atom inner before operand c_world normal middle →
      OweFor from next None (ty void is_const) before n m (c_node place c_world (convert_step (ty void is_const) operand c_world)) (run_list frame [] middle)
  drop_node from next is_const atom before middle operand inner place c_world n m meets =
      alone program names images c_frame frame limit declared agree from next None (ty void is_const) before middle place c_world (convert_step (ty void is_const) operand c_world) [] n m meets.worlds.events
      (λ one e. drop_arrives program names images c_frame frame limit declared agree from next is_const operand before middle c_world one meets.worlds meets.temporaries meets.keeps e)

  -- ---- binary operators

  binary_node : (from between next : ℕ) (is_const : Bool) (op : Op2) (first second : Option Atom) (before middle after : World) (one other : COperand) (left right : CTy) (place : Origin) (c_one c_other : CWorld) (n m : ℕ) →
      form_of_type left ≡ int → form_of_type right ≡ int → from ≤ between → between ≤ next → next < limit →
      Meets images frame limit from between first left before one c_one normal middle → Meets images frame limit between next second right middle other c_other normal after →
      OweFor from (suc next) (Some (Temporary next)) (ty int is_const) before n m (c_node place c_other (binary_step op (ty int is_const) one other c_other))
      (run_list frame (to_temporary program names images c_frame frame limit declared agree next (operates (operator_of op) (operand_expr names first) (operand_expr names second))) after)
  binary_node from between next is_const op first second before middle after one other left right place c_one c_other n m is also less more within meets met =
      let gives = operand_int left one is meets.typed in
      let given = operand_int right other also met.typed in
      let holds = holds_later program names images c_frame frame limit declared agree between next middle after first (Number gives.is_int.number) more (omega (arith, more, within)) meets.temporaries met.keeps
      (held_number between middle first one gives meets.gives) in
      alone program names images c_frame frame limit declared agree from (suc next) (Some (Temporary next)) (ty int is_const) before after place c_other (binary_step op (ty int is_const) one other c_other)
      (to_temporary program names images c_frame frame limit declared agree next (operates (operator_of op) (operand_expr names first) (operand_expr names second))) n m met.worlds.events
      (λ step e. binary_arrives program names images c_frame frame limit declared agree from next is_const op one other gives.is_int.number given.is_int.number first second before after c_other step met.worlds met.temporaries
      (keeps_then program names images c_frame frame limit declared agree from between before middle after less meets.keeps met.keeps) (omega (arith, less, more)) within
      (given_number one gives) gives (given_number other given) given holds (held_number next after second other given met.gives) e)

  -- ---- assignments

  assign_node : (from next : ℕ) (is_const : Bool) (number : ℕ) (atom : Option Atom) (before middle : World) (target operand : COperand) (at : Ptr) (inner : CTy) (place : Origin) (c_world : CWorld) (n m : ℕ) →
      target.value ≡ designates at → NamesObject names images frame number at → form_of_type inner ≡ int → from ≤ next → next ≤ limit →
      Meets images frame limit from next atom inner before operand c_world normal middle →
      OweFor from next atom (ty int is_const) before n m (c_node place c_world (assign_step (ty int is_const) target operand c_world))
      (run_list frame (assign (static_at names.home (names.objects number)) (operand_expr names atom) ∷ []) middle)
  assign_node from next is_const number atom before middle target operand at inner place c_world n m designated named is less within meets =
      let gives = operand_int inner operand is meets.typed in
      alone program names images c_frame frame limit declared agree from next atom (ty int is_const) before middle place c_world (assign_step (ty int is_const) target operand c_world)
      (assign (static_at names.home (names.objects number)) (operand_expr names atom) ∷ []) n m meets.worlds.events
      (λ one e. assign_arrives program names images c_frame frame limit declared agree from next is_const target operand number at gives.is_int.number atom before middle c_world one meets.worlds meets.temporaries meets.keeps less within
      designated named (given_number operand gives) gives (held_number next middle atom operand gives meets.gives) e)

  -- ---- arguments

  -- what holds behind the statements of arguments
  pub record ArgsMeet (from next : ℕ) (atoms : List (Option Atom)) (args : CExprs) (before : World) (operands : List COperand) (c_world : CWorld) (flow : Flow) (world : World) : Type 0 where
    pub goes_on : flow ≡ normal
    pub worlds : WorldsAgree images c_world world
    pub temporaries : HasTemporaries frame limit world
    pub are : AreOperands args operands
    pub numbers : List ℤ
    pub hold : HoldArgs program names images c_frame frame limit declared agree next world atoms operands numbers
    pub keeps : Keeps images frame from before world

  abbrev pub OweArgs : ℕ → ℕ → List (Option Atom) → CExprs → World → ℕ → ℕ → (ℕ → CRan (List COperand)) → (ℕ → Ran Cause World Flow) → Type 0
  OweArgs from next atoms args before n m source target = Owes events_of events_in (ArgsMeet from next atoms args before) n m source target

  -- ---- lists of statements, piece by piece

  -- one list of statements and then another, with any tests of what holds between and behind them
  pub join_owes : {A C : Type 0} (Good : A → CWorld → Flow → World → Type 0) (After : C → CWorld → Flow → World → Type 0) (source : ℕ → CRan A) (go : A → CWorld → ℕ → CRan C)
      (first rest : List Stmt) (world : World) (n m : ℕ) →
      ((a : A) (s : CWorld) (b : Flow) (t : World) → Good a s b t → b ≡ normal) →
      Owes events_of events_in Good n m source (run_list frame first world) →
      ((a : A) (s : CWorld) (t : World) → Good a s normal t → Owes events_of events_in After n m (go a s) (run_list frame rest t)) →
      Owes events_of events_in After n m (λ k. bind (source k) go) (run_list frame (first ++ rest) world)
  join_owes Good After source go first rest world n m goes one all =
      renamed events_of events_in After n m (λ k. bind (source k) go) (λ k. bind (source k) go)
      (λ k. bind (run_list frame first world k) (then_on (run_list frame rest))) (run_list frame (first ++ rest) world)
      (λ k. refl) (λ k. sym (run_append frame first rest world k))
      (pieces events_of events_in Good After source (run_list frame first world) go (then_on (run_list frame rest)) n m one
      (rest_silent rest)
      (λ a s b t good.
      let normal_is : b ≡ normal = goes a s b t good in
      subst (λ (f : Flow). Owes events_of events_in After n m (go a s) (then_on (run_list frame rest) f t)) (sym normal_is)
      (all a s t (subst (λ (f : Flow). Good a s f t) normal_is good))))

  -- results are taken over
  pub map_owes : {A C : Type 0} (Good : A → CWorld → Flow → World → Type 0) (After : C → CWorld → Flow → World → Type 0) (source : ℕ → CRan A) (f : A → C) (target : ℕ → Ran Cause World Flow) (n m : ℕ) →
      Owes events_of events_in Good n m source target → ((a : A) (s : CWorld) (b : Flow) (t : World) → Good a s b t → After (f a) s b t) →
      Owes events_of events_in After n m (λ k. bind (source k) (λ a s. came (f a) s)) target
  map_owes Good After source f target n m one all =
      renamed events_of events_in After n m (λ k. bind (source k) (λ a s. came (f a) s)) (λ k. bind (source k) (λ a s. came (f a) s))
      (λ k. bind (target k) (λ b t left. came b t left)) target (λ k. refl) (λ k. bind_came (target k))
      (pieces events_of events_in Good After source target (λ a s. came (f a) s) (λ b t left. came b t left) n m one (λ b t. (refl, refl))
      (λ a s b t good. values events_of events_in After n m (f a) s b t (all a s b t good)))

  second_owes : (outer from next last : ℕ) (atom final : Option Atom) (inner type : CTy) (before world : World) (source : ℕ → CRan COperand) (go : COperand → CWorld → ℕ → CRan COperand)
      (first rest : List Stmt) (n m : ℕ) →
      OweFor from next atom inner world n m source (run_list frame first world) →
      ((operand : COperand) (c_world : CWorld) (middle : World) → Meets images frame limit from next atom inner world operand c_world normal middle →
      OweFor outer last final type before n m (go operand c_world) (run_list frame rest middle)) →
      OweFor outer last final type before n m (λ k. bind (source k) go) (run_list frame (first ++ rest) world)
  second_owes outer from next last atom final inner type before world source go first rest n m one all =
      join_owes (Meets images frame limit from next atom inner world) (Meets images frame limit outer last final type before) source go first rest world n m
      (λ a s b t meets. meets.goes_on) one all

  args_owe : (from next last : ℕ) (atom : Option Atom) (atoms : List (Option Atom)) (t : CTy) (p : Origin) (form : CForm) (others : CExprs) (world : World) (source : ℕ → CRan COperand) (first rest : List Stmt) (n m : ℕ) →
      form_of_type t ≡ int → from ≤ next → next ≤ last → last ≤ limit →
      OweFor from next atom t world n m source (run_list frame first world) →
      ((operand : COperand) (after : CWorld) (middle : World) → Meets images frame limit from next atom t world operand after normal middle →
      OweArgs next last atoms others middle n m (c_values program c_frame others after) (run_list frame rest middle)) →
      OweArgs from last (atom ∷ atoms) (more_exprs (expr t p form) others) world n m
      (λ k. bind (source k) (λ one after steps. bind (c_values program c_frame others after steps) (λ more later. came (one ∷ more) later)))
      (run_list frame (first ++ rest) world)
  args_owe from next last atom atoms t p form others world source first rest n m is less rises within one all =
      join_owes (Meets images frame limit from next atom t world) (ArgsMeet from last (atom ∷ atoms) (more_exprs (expr t p form) others) world) source
      (λ operand after steps. bind (c_values program c_frame others after steps) (λ more later. came (operand ∷ more) later)) first rest world n m
      (λ a s b t meets. meets.goes_on) one
      (λ operand after middle meets.
      map_owes (ArgsMeet next last atoms others middle) (ArgsMeet from last (atom ∷ atoms) (more_exprs (expr t p form) others) world) (c_values program c_frame others after) (λ more. operand ∷ more) (run_list frame rest middle) n m
      (all operand after middle meets)
      (λ more later flow end met.
      let gives = operand_int t operand is meets.typed in
      record {
        goes_on = met.goes_on;
        worlds = met.worlds;
        temporaries = met.temporaries;
        are = (meets.typed, met.are);
        numbers = gives.is_int.number ∷ met.numbers;
        hold = (
          ap (λ (kind : CTy). form_of_type kind) meets.typed.type_is ∙ is,
          given_number operand gives,
          holds_later program names images c_frame frame limit declared agree next last middle end atom (Number gives.is_int.number) rises (omega (arith, rises, within)) meets.temporaries met.keeps
              (held_number next middle atom operand gives meets.gives),
          met.hold,
        );
        keeps = keeps_then program names images c_frame frame limit declared agree from next world middle end less meets.keeps met.keeps;
      }))

  -- ---- the places of lvalues

  lvalue_named : (t : CTy) (number : ℕ) (p : Origin) → IsLvalueForm program t (object number) →
      (at : Ptr) × (designated c_frame number ≡ designates at) × NamesObject names images frame number at
  lvalue_named t number p is =
      let found = lvalue_sound program c_frame agree.in_scope t p (object number) (record { memory = []; events = []; answers = [] }) 0 is in
      (found.0, found.1, agree.objects number found.0 found.1)

  -- ---- calls

  call_node : (from next : ℕ) (type : CTy) (callee : ℕ) (args : CExprs) (atoms : List (Option Atom)) (before middle : World) (operands : List COperand) (place : Origin) (c_world : CWorld) (n m : ℕ) →
      IsTypedForm program type (calls callee args) → declared callee ≡ true → from ≤ next → (call_of program names images c_frame frame limit declared agree (form_of_type type) callee atoms next).next ≤ limit →
      ArgsMeet from next atoms args before operands c_world normal middle →
      OweFor from (call_of program names images c_frame frame limit declared agree (form_of_type type) callee atoms next).next (call_of program names images c_frame frame limit declared agree (form_of_type type) callee atoms next).value type before n m
      (c_node place c_world (call_step program callee type operands c_world)) (run_list frame (call_of program names images c_frame frame limit declared agree (form_of_type type) callee atoms next).stmts middle)
  call_node from next type callee args atoms before middle operands place c_world n m typed here less within meets =
      found_node (outer_with callee program.externals) refl typed.1.0 typed.1.1
    where
      signature_node : (one : COuter) (signature : CTyForm) → outer_with callee program.externals ≡ Some one → form_of_type one.type ≡ signature → IsOpaque signature → IsCallOf type args signature →
          (named : NamesFunction names frame callee one) → IsOuterOf one signature named.other →
          OweFor from (call_of program names images c_frame frame limit declared agree (form_of_type type) callee atoms next).next (call_of program names images c_frame frame limit declared agree (form_of_type type) callee atoms next).value type before n m
          (c_node place c_world (call_step program callee type operands c_world)) (run_list frame (call_of program names images c_frame frame limit declared agree (form_of_type type) callee atoms next).stmts middle)
      signature_node one (function (ty form is_const) params variadic) found is opaque calls_it named outer_is =
          let sound = call_sound program callee type args operands c_world (outer_with callee program.externals) linked.externals refl typed.1.0 typed.1.1 meets.are in
          let accepted : accepts named.other.params named.other.variadic (all_typed program names images c_frame frame limit declared agree meets.numbers) ≡ true =
          rw (outer_is.1, outer_is.2) (args_accepted program names images c_frame frame limit declared agree params variadic args meets.numbers calls_it.1
          (counted program names images c_frame frame limit declared agree args next middle atoms operands meets.numbers meets.are meets.hold)) in
          subst (λ (kind : CTy). (call_of program names images c_frame frame limit declared agree (form_of_type kind) callee atoms next).next ≤ limit → Outcome kind (call_step program callee kind operands c_world) →
          OweFor from (call_of program names images c_frame frame limit declared agree (form_of_type kind) callee atoms next).next (call_of program names images c_frame frame limit declared agree (form_of_type kind) callee atoms next).value kind before n m
          (c_node place c_world (call_step program callee kind operands c_world)) (run_list frame (call_of program names images c_frame frame limit declared agree (form_of_type kind) callee atoms next).stmts middle))
          (sym calls_it.0)
          (λ low fits. form_owes program names images c_frame frame limit declared agree callee one named.other form from next before middle atoms operands meets.numbers place c_world n m opaque.0 found fits
          meets.worlds meets.temporaries meets.keeps less low meets.hold named.found outer_is.0 outer_is.3 accepted)
          within sound
      signature_node one void found is opaque calls_it named outer_is = absurd opaque
      signature_node one int found is opaque calls_it named outer_is = absurd opaque

      found_node : (found : Option COuter) → outer_with callee program.externals ≡ found → IsSome found → IfSome found (λ one. IsCallOf type args (form_of_type one.type)) →
          OweFor from (call_of program names images c_frame frame limit declared agree (form_of_type type) callee atoms next).next (call_of program names images c_frame frame limit declared agree (form_of_type type) callee atoms next).value type before n m
          (c_node place c_world (call_step program callee type operands c_world)) (run_list frame (call_of program names images c_frame frame limit declared agree (form_of_type type) callee atoms next).stmts middle)
      found_node None found some calls_it = absurd (search rules)
      found_node (Some one) found some calls_it =
          let named = agree.functions callee one here found in
          signature_node one (form_of_type one.type) found refl (outer_typed program.externals callee one linked.externals found).opaque calls_it named named.is

  -- ---- all expressions

  args_later : (next more : ℕ) (before after : World) (atoms : List (Option Atom)) (operands : List COperand) (ns : List ℤ) → next ≤ more → next ≤ limit → HasTemporaries frame limit before →
      Keeps images frame next before after → HoldArgs program names images c_frame frame limit declared agree next before atoms operands ns → HoldArgs program names images c_frame frame limit declared agree more after atoms operands ns
  args_later next more before after [] [] [] less within has keeps hold = tt
  args_later next more before after (atom ∷ atoms) (operand ∷ operands) (n ∷ ns) less within has keeps hold = (
    hold.0,
    hold.1,
    holds_later program names images c_frame frame limit declared agree next more before after atom (Number n) less within has keeps hold.2,
    args_later next more before after atoms operands ns less within has keeps hold.3,
  )
  args_later next more before after [] [] (n ∷ ns) less within has keeps hold = absurd hold
  args_later next more before after [] (operand ∷ operands) ns less within has keeps hold = absurd hold
  args_later next more before after (atom ∷ atoms) [] ns less within has keeps hold = absurd hold
  args_later next more before after (atom ∷ atoms) (operand ∷ operands) [] less within has keeps hold = absurd hold

  call_list : (form : CTyForm) (callee : ℕ) (args : LiftedArgs) → IsOpaqueResult form →
      (lifted_call names form callee args).stmts ≡ args.stmts ++ (call_of program names images c_frame frame limit declared agree form callee args.values args.next).stmts
  call_list void callee args opaque = refl
  call_list int callee args opaque = refl
  call_list (function result params variadic) callee args opaque = absurd opaque

  call_rest : (form : CTyForm) (callee : ℕ) (args : LiftedArgs) → IsOpaqueResult form →
      ((lifted_call names form callee args).next ≡ (call_of program names images c_frame frame limit declared agree form callee args.values args.next).next)
      × ((lifted_call names form callee args).value ≡ (call_of program names images c_frame frame limit declared agree form callee args.values args.next).value)
  call_rest void callee args opaque = (refl, refl)
  call_rest int callee args opaque = (refl, refl)
  call_rest (function result params variadic) callee args opaque = absurd opaque

  args_less : (form : CTyForm) (callee : ℕ) (args : LiftedArgs) → (lifted_call names form callee args).next ≤ limit → args.next ≤ limit
  args_less void callee args within = within
  args_less int callee args within = omega (arith, within)
  args_less (function result params variadic) callee args within = within

  -- a typed call's facts
  pub record CallFacts (type : CTy) (args : CExprs) : Type 0 where
    pub opaque : IsOpaqueResult (form_of_type type)
    pub ints : AreIntArgs args

  call_facts : (type : CTy) (callee : ℕ) (args : CExprs) (found : Option COuter) → outer_with callee program.externals ≡ found → IsSome found → IfSome found (λ one. IsCallOf type args (form_of_type one.type)) → CallFacts type args
  call_facts type callee args None same some calls_it = absurd (search rules)
  call_facts type callee args (Some one) same some calls_it = by_signature (form_of_type one.type) (outer_typed program.externals callee one linked.externals same).opaque calls_it
    where
      by_signature : (signature : CTyForm) → IsOpaque signature → IsCallOf type args signature → CallFacts type args
      by_signature (function (ty form is_const) params variadic) opaque calls_it = record {
        opaque = subst (λ (kind : CTy). IsOpaqueResult (form_of_type kind)) (sym calls_it.0) opaque.0;
        ints = args_ints params variadic args opaque.1 calls_it.1;
      }
      by_signature void opaque calls_it = absurd opaque
      by_signature int opaque calls_it = absurd opaque

  unary_less : (op : Op1) (one : Lifted) → (lifted_unary names op (held names one)).next ≤ limit → one.next ≤ limit
  unary_less Minus one within = held_less one one.value within
    where
      held_less : (one : Lifted) (atom : Option Atom) → suc (held_atom names one atom).next ≤ limit → one.next ≤ limit
      held_less one (Some (Fixed value)) within = omega (arith, within)
      held_less one (Some (Temporary number)) within = omega (arith, within)
      held_less one None within = omega (arith, within)

  call_owes : (from : ℕ) (type : CTy) (callee : ℕ) (args : CExprs) (place : Origin) (c_world : CWorld) (world : World) (n m : ℕ) →
      IsTypedForm program type (calls callee args) → CallFacts type args → declared callee ≡ true → (lifted_call names (form_of_type type) callee (lift_args names args from)).next ≤ limit →
      OweArgs from (lift_args names args from).next (lift_args names args from).values args world n m (c_values program c_frame args c_world) (run_list frame (lift_args names args from).stmts world) →
      OweFor from (lifted_call names (form_of_type type) callee (lift_args names args from)).next (lifted_call names (form_of_type type) callee (lift_args names args from)).value type world n m
      (λ k. bind (c_values program c_frame args c_world k) (λ operands after. c_node place after (call_step program callee type operands after)))
      (run_list frame (lifted_call names (form_of_type type) callee (lift_args names args from)).stmts world)
  call_owes from type callee args place c_world world n m is facts here within one =
      let all = lift_args names args from in
      let last = call_of program names images c_frame frame limit declared agree (form_of_type type) callee all.values all.next in
      let rest = call_rest (form_of_type type) callee all facts.opaque in
      let source : ℕ → CRan COperand = λ k. bind (c_values program c_frame args c_world k) (λ operands after. c_node place after (call_step program callee type operands after)) in
      subst (λ (list : List Stmt). OweFor from (lifted_call names (form_of_type type) callee all).next (lifted_call names (form_of_type type) callee all).value type world n m source (run_list frame list world))
      (sym (call_list (form_of_type type) callee all facts.opaque))
      (subst (λ (next : ℕ). OweFor from next (lifted_call names (form_of_type type) callee all).value type world n m source (run_list frame (all.stmts ++ last.stmts) world)) (sym rest.0)
      (subst (λ (atom : Option Atom). OweFor from last.next atom type world n m source (run_list frame (all.stmts ++ last.stmts) world)) (sym rest.1)
      (join_owes (ArgsMeet from all.next all.values args world) (Meets images frame limit from last.next last.value type world) (c_values program c_frame args c_world)
      (λ operands after. c_node place after (call_step program callee type operands after)) all.stmts last.stmts world n m
      (λ a s b t meets. meets.goes_on) one
      (λ operands after middle meets. call_node from all.next type callee args all.values world middle operands place after n m is here (args_rise names args from)
      (subst (λ (next : ℕ). next ≤ limit) rest.0 within) meets))))

  -- what is to be shown of an expression
  abbrev pub Lifts : CTy → Origin → CForm → ℕ → CWorld → World → ℕ → ℕ → Type 0
  Lifts type place form from c_world world n m =
      OweFor from (lift_form names type form from).next (lift_form names type form from).value type world n m
      (c_form program c_frame type place form c_world) (run_list frame (lift_form names type form from).stmts world)

  mutual
    pub lifts : (type : CTy) (place : Origin) (form : CForm) (from : ℕ) (c_world : CWorld) (world : World) →
        WorldsAgree images c_world world → HasTemporaries frame limit world → IsTypedForm program type form → FormCallsOnly declared form → (lift_form names type form from).next ≤ limit → (n m : ℕ) →
        Lifts type place form from c_world world n m
    lifts type place (whole value) from c_world world agrees has is only within n m =
        values events_of events_in (Meets images frame limit from from (Some (Fixed value)) type world) n m (constant type value) c_world normal world (record {
          goes_on = refl;
          worlds = agrees;
          temporaries = has;
          typed = value_sound program c_frame linked agree.in_scope type place (whole value) c_world 0 is;
          gives = refl;
          keeps = keeps_all program names images c_frame frame limit declared agree from world;
        })
    lifts type place (object number) from c_world world agrees has is only within n m = absurd is
    lifts type place (load (expr t p (object number))) from c_world world agrees has is only within n m =
        let named = lvalue_named t number p is.0 in
        by_type (λ (kind : CTy). OweFor from (suc from) (Some (Temporary from)) kind world n m (c_node place c_world (load_step kind (lvalue c_frame t number) c_world))
        (run_list frame (to_temporary program names images c_frame frame limit declared agree from (read (static_at names.home (names.objects number)))) world))
        (λ is_const. alone program names images c_frame frame limit declared agree from (suc from) (Some (Temporary from)) (ty int is_const) world world place c_world (load_step (ty int is_const) (lvalue c_frame t number) c_world)
        (to_temporary program names images c_frame frame limit declared agree from (read (static_at names.home (names.objects number)))) n m agrees.events
        (λ one e. load_arrives program names images c_frame frame limit declared agree from is_const (lvalue c_frame t number) number named.0 world c_world one agrees has (omega (arith, within)) named.1 named.2 e))
        type (ap (λ (kind : CTy). form_of_type kind) is.1.type_is ∙ (unqualified_form t ∙ scalar_int t is.1.scalar))
    lifts type place (load (expr t p (whole value))) from c_world world agrees has is only within n m = absurd is.0
    lifts type place (load (expr t p (load of))) from c_world world agrees has is only within n m = absurd is.0
    lifts type place (load (expr t p (convert of))) from c_world world agrees has is only within n m = absurd is.0
    lifts type place (load (expr t p (unary op of))) from c_world world agrees has is only within n m = absurd is.0
    lifts type place (load (expr t p (binary op left right))) from c_world world agrees has is only within n m = absurd is.0
    lifts type place (load (expr t p (stores target value))) from c_world world agrees has is only within n m = absurd is.0
    lifts type place (load (expr t p (calls callee args))) from c_world world agrees has is only within n m = absurd is.0
    lifts (ty void is_const) place (convert (expr t p form)) from c_world world agrees has is only within n m =
        let one = lift_form names t form from in
        quiet_owes from one.next one.value None t (ty void is_const) (c_form program c_frame t p form c_world) (λ operand after. c_node place after (convert_step (ty void is_const) operand after)) one.stmts world n m
        (lifts t p form from c_world world agrees has is.0 only within n m)
        (λ operand after middle meets. drop_node from one.next is_const one.value world middle operand t place after n m meets)
    lifts (ty int is_const) place (convert (expr t p form)) from c_world world agrees has is only within n m =
        let one = lift_form names t form from in
        quiet_owes from one.next one.value one.value t (ty int is_const) (c_form program c_frame t p form c_world) (λ operand after. c_node place after (convert_step (ty int is_const) operand after)) one.stmts world n m
        (lifts t p form from c_world world agrees has is.0 only within n m)
        (λ operand after middle meets. convert_node from one.next is_const one.value world middle operand t place after n m (scalar_int t is.1.1) meets)
    lifts (ty (function result params variadic) is_const) place (convert (expr t p form)) from c_world world agrees has is only within n m = absurd is.1
    lifts type place (unary op (expr t p form)) from c_world world agrees has is only within n m =
        let one = lift_form names t form from in
        let inner : form_of_type t ≡ int = ap (λ (kind : CTy). form_of_type kind) is.1.value_is ∙ promoted_int type is.1.promoted in
        by_type (λ (kind : CTy). OweFor from (lifted_unary names op (held names one)).next (lifted_unary names op (held names one)).value kind world n m
        (λ k. bind (c_form program c_frame t p form c_world k) (λ operand after. c_node place after (unary_step op kind operand after))) (run_list frame (lifted_unary names op (held names one)).stmts world))
        (λ is_const. unary_owes from one.next is_const op one.stmts one.value t place (c_form program c_frame t p form c_world) world n m inner (next_rises names t form from) within
        (lifts t p form from c_world world agrees has is.0 only (unary_less op one within) n m))
        type (promoted_int type is.1.promoted)
    lifts type place (binary op (expr t p left) (expr u q right)) from c_world world agrees has is only within n m =
        let one = lift_form names t left from in
        let other = lift_form names u right one.next in
        let first_int : form_of_type t ≡ int = ap (λ (kind : CTy). form_of_type kind) is.2.left_is ∙ promoted_int type is.2.promoted in
        let second_int : form_of_type u ≡ int = ap (λ (kind : CTy). form_of_type kind) is.2.right_is ∙ promoted_int type is.2.promoted in
        let node : List Stmt = to_temporary program names images c_frame frame limit declared agree other.next (operates (operator_of op) (operand_expr names one.value) (operand_expr names other.value)) in
        let low : other.next < limit = omega (arith, within) in
        let rises = next_rises names u right one.next in
        by_type (λ (kind : CTy). OweFor from (suc other.next) (Some (Temporary other.next)) kind world n m
        (λ k. bind (c_form program c_frame t p left c_world k) (λ operand after steps. bind (c_form program c_frame u q right after steps) (λ second later. c_node place later (binary_step op kind operand second later))))
        (run_list frame ((one.stmts ++ other.stmts) ++ node) world))
        (λ is_const. subst (λ (list : List Stmt). OweFor from (suc other.next) (Some (Temporary other.next)) (ty int is_const) world n m
        (λ k. bind (c_form program c_frame t p left c_world k) (λ operand after steps. bind (c_form program c_frame u q right after steps) (λ second later. c_node place later (binary_step op (ty int is_const) operand second later))))
        (run_list frame list world)) (sym (append_assoc one.stmts other.stmts node))
        (then_owes from one.next (suc other.next) one.value (Some (Temporary other.next)) t (ty int is_const) world (c_form program c_frame t p left c_world)
        (λ operand after steps. bind (c_form program c_frame u q right after steps) (λ second later. c_node place later (binary_step op (ty int is_const) operand second later))) one.stmts (other.stmts ++ node) world n m
        (lifts t p left from c_world world agrees has is.0 only.0 (omega (arith, low, rises)) n m)
        (λ operand after middle meets. second_owes from one.next other.next (suc other.next) other.value (Some (Temporary other.next)) u (ty int is_const) world middle (c_form program c_frame u q right after) (λ second later. c_node place later (binary_step op (ty int is_const) operand second later)) other.stmts node n m
        (lifts u q right one.next after middle meets.worlds meets.temporaries is.1 only.1 (omega (arith, low)) n m)
        (λ second later end met. binary_node from one.next other.next is_const op one.value other.value world middle end operand second t u place after later n m first_int second_int (next_rises names t left from) rises low meets met))))
        type (promoted_int type is.2.promoted)
    lifts type place (stores (expr t p (object number)) (expr u q value)) from c_world world agrees has is only within n m =
        let one = lift_form names u value from in
        let named = lvalue_named t number p is.0 in
        let inner : form_of_type u ≡ int = ap (λ (kind : CTy). form_of_type kind) is.2.value_is ∙ scalar_int t is.2.scalar in
        by_type (λ (kind : CTy). OweFor from one.next one.value kind world n m
        (λ k. bind (c_form program c_frame u q value c_world k) (λ operand after. c_node place after (assign_step kind (lvalue c_frame t number) operand after)))
        (run_list frame (one.stmts ++ assign (static_at names.home (names.objects number)) (operand_expr names one.value) ∷ []) world))
        (λ is_const. then_owes from one.next one.next one.value one.value u (ty int is_const) world (c_form program c_frame u q value c_world)
        (λ operand after. c_node place after (assign_step (ty int is_const) (lvalue c_frame t number) operand after)) one.stmts (assign (static_at names.home (names.objects number)) (operand_expr names one.value) ∷ []) world n m
        (lifts u q value from c_world world agrees has is.1 only.1 within n m)
        (λ operand after middle meets. assign_node from one.next is_const number one.value world middle (lvalue c_frame t number) operand named.0 u place after n m named.1 named.2 inner (next_rises names u value from) within meets))
        type (ap (λ (kind : CTy). form_of_type kind) is.2.type_is ∙ scalar_int t is.2.scalar)
    lifts type place (stores (expr t p (whole constant_value)) (expr u q value)) from c_world world agrees has is only within n m = absurd is.0
    lifts type place (stores (expr t p (load of)) (expr u q value)) from c_world world agrees has is only within n m = absurd is.0
    lifts type place (stores (expr t p (convert of)) (expr u q value)) from c_world world agrees has is only within n m = absurd is.0
    lifts type place (stores (expr t p (unary op of)) (expr u q value)) from c_world world agrees has is only within n m = absurd is.0
    lifts type place (stores (expr t p (binary op left right)) (expr u q value)) from c_world world agrees has is only within n m = absurd is.0
    lifts type place (stores (expr t p (stores target other)) (expr u q value)) from c_world world agrees has is only within n m = absurd is.0
    lifts type place (stores (expr t p (calls callee args)) (expr u q value)) from c_world world agrees has is only within n m = absurd is.0
    lifts type place (calls callee args) from c_world world agrees has is only within n m =
        let facts = call_facts type callee args (outer_with callee program.externals) refl is.1.0 is.1.1 in
        call_owes from type callee args place c_world world n m is facts only.0 within
        (lift_all args from c_world world agrees has is.0 facts.ints only.1 (args_less (form_of_type type) callee (lift_args names args from) within) n m)

    pub lift_all : (args : CExprs) (from : ℕ) (c_world : CWorld) (world : World) →
        WorldsAgree images c_world world → HasTemporaries frame limit world → AreTyped program args → AreIntArgs args → ArgsCallOnly declared args → (lift_args names args from).next ≤ limit → (n m : ℕ) →
        OweArgs from (lift_args names args from).next (lift_args names args from).values args world n m (c_values program c_frame args c_world) (run_list frame (lift_args names args from).stmts world)
    lift_all no_exprs from c_world world agrees has are ints only within n m =
        values events_of events_in (ArgsMeet from from [] no_exprs world) n m [] c_world normal world (record {
          goes_on = refl;
          worlds = agrees;
          temporaries = has;
          are = tt;
          numbers = [];
          hold = tt;
          keeps = keeps_all program names images c_frame frame limit declared agree from world;
        })
    lift_all (more_exprs (expr t p form) others) from c_world world agrees has are ints only within n m =
        let one = lift_form names t form from in
        let more = lift_args names others one.next in
        let rises = args_rise names others one.next in
        args_owe from one.next more.next one.value more.values t p form others world (c_form program c_frame t p form c_world) one.stmts more.stmts n m ints.0 (next_rises names t form from) rises within
        (lifts t p form from c_world world agrees has are.0 only.0 (omega (arith, rises, within)) n m)
        (λ operand after middle meets. lift_all others one.next after middle meets.worlds meets.temporaries are.1 ints.1 only.1 within n m)
