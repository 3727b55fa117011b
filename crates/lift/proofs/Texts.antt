-- What is written for a node, by what is written for its parts.
use Rattle.std.proofs.Common.{◌≡◌, ℕ, Bool, true, false, not, ◌&&◌, ◌||◌, if◌then◌else◌, List, [], ◌∷◌, ◌++◌, append_assoc, refl, sym, ap, ◌∙◌}
use Rattle.std.proofs.lemmas.List.{append-nil}
use Rattle.cx_core.specs.Trees.{CTy, CExpr, expr, CForm, whole, null, object, code, load, deref, member, address, convert, unary, binary, and, or, cond, assign, assign_by, step, call, call_by, comma, literal, CExprs, no_exprs, more_exprs, CPut, put, CPuts, no_puts, more_puts, type_of}
use Rattle.cx_core.specs.Typing.{width_of}
use Rattle.cx_core.specs.declared.expr.Op2.{Op2}
use Rattle.lift.specs.Texts as text
use Rattle.lift.specs.Texts.{ArgumentsText}
use Rattle.lift_call_forms.specs.Texts as calls
use Rattle.lift_exprs.specs.Calls as spec_calls
use Rattle.lift_exprs.specs.Calls.{Argument, Arguments, Called}
use Rattle.lift_exprs.specs.Lifted as spec
use Rattle.lift_exprs.specs.Lifted.{Deciding, Choice, lifted, lifted_form, lifted_args, lifted_puts, lifted_put}
use Rattle.lift_exprs.specs.Names.{Names, type_in}
use Rattle.lift_exprs.specs.Objects.{object_at}
use Rattle.lift_exprs.specs.Stores as stores
use Rattle.lift_exprs.specs.Stores.{Target, Change}
use Rattle.lift_exprs.specs.Written as written
use Rattle.lift_exprs.specs.Written.{Written, Both, NodeKind}
use Rattle.lift_forms.specs.Given.{Given, nothing}
use Rattle.lift_forms.specs.Operators.{Operand, unary_form}
use Rattle.lift_held.specs.Held.{is_record, is_void, is_held_form, acts, holds_call, some_holds_call, operand, operand_before, part_of, whole_of, value_for}
use Rattle.lift_held.specs.declared.asked.Asked.{Asked}
use Rattle.lift_nodes.specs.Texts as nodes
use Rattle.lift_nodes.specs.Texts.{ChoiceText}
use Rattle.lift_stores.specs.Texts as texts
use Rattle.lift_stores.specs.Views.{Text, text_of}
use Rattle.rs_text.specs.Tree.{Expr, Stmt}

-- ---- held nodes

pub held_where : (is_it : Bool) (names : Names) (kind : NodeKind) (one : Written) →
    text.held_where is_it names kind (text_of one) ≡ text_of (written.held_where is_it names kind one)
held_where true names kind one = refl
held_where false names kind one = refl

-- ---- `&&`, `||` and `?:`

pub decided_written : (names : Names) (used acting : Bool) (type : CTy) (which : Deciding) (test other : Operand) (two : Both) →
    nodes.decided_written names used acting which test other (text_of two.first) (text_of two.second) ≡ text_of (spec.decided_written names used acting type which test other two)
decided_written names true true type which test other two = refl
decided_written names false true type which test other two = refl
decided_written names used false type which test other two = refl

abbrev choice_texts : Choice → ChoiceText
choice_texts three = record { test = text_of three.test; first = text_of three.first; second = text_of three.second }

pub chosen_written : (names : Names) (used acting : Bool) (type : CTy) (test first second : Operand) (three : Choice) →
    nodes.chosen_written names used acting type test first second (choice_texts three) ≡ text_of (spec.chosen_written names used acting type test first second three)
chosen_written names true true type test first second three = refl
chosen_written names false true type test first second three = refl
chosen_written names true false type test first second three = refl
chosen_written names false false type test first second three = refl

-- ---- stores

if_text : (b : Bool) (one other : Written) → (if b then text_of one else text_of other) ≡ text_of (if b then one else other)
if_text true one other = refl
if_text false one other = refl

pub stored : (names : Names) (used : Bool) (target : Target) (e : Expr) (one : Written) →
    texts.stored names used target e (text_of one) ≡ text_of (stores.stored names used target e one)
stored names used target e one = if_text (used || stores.is_field target) (stores.held_store names used target e one) (stores.plain_store target e one)

pub stepped : (names : Names) (used post : Bool) (target : Target) (change : Change) (one : Written) →
    nodes.stepped names used post target change (text_of one) ≡ text_of (stores.stepped names used post target change one)
stepped names true true target change one = refl
stepped names true false target change one = stored names true target (stores.changed change (stores.target_type target) (stores.old_value target)) one
stepped names false true target change one = stored names false target (stores.changed change (stores.target_type target) (stores.old_value target)) one
stepped names false false target change one = stored names false target (stores.changed change (stores.target_type target) (stores.old_value target)) one

-- ---- calls

called_by : (record_given value_given : Bool) (names : Names) (type : CTy) (called : Called) (args : Arguments) →
    (if record_given then calls.called_for_record names type called args.list (record { body = args.written.body; given = nothing; next = args.written.next })
    else (if value_given then calls.called_for_value names type called args.list (record { body = args.written.body; given = nothing; next = args.written.next })
    else calls.called_alone called args.list (record { body = args.written.body; given = nothing; next = args.written.next })))
    ≡ text_of (if record_given then spec_calls.called_for_record names type called args
    else (if value_given then spec_calls.called_for_value names type called args else spec_calls.called_alone called args))
called_by true value_given names type called args = refl
called_by false true names type called args = refl
called_by false false names type called args = refl

pub called_with : (names : Names) (used : Bool) (type : CTy) (called : Called) (args : Arguments) →
    calls.called_with names used type called args.list (record { body = args.written.body; given = nothing; next = args.written.next })
    ≡ text_of (spec_calls.called_with names used type called args)
called_with names used type called args = called_by (is_record type) (used && not (is_void type)) names type called args

-- ---- arguments and puts

-- arguments behind others
abbrev with_arguments : ArgumentsText → Arguments → ArgumentsText
with_arguments before args = record { body = before.body ++ args.written.body; list = before.list ++ args.list; next = args.written.next }

abbrev arguments_of : ℕ → List Stmt → List Argument → ArgumentsText
arguments_of next body list = record { body = body; list = list; next = next }

same_arguments : {body other : List Stmt} {list rest : List Argument} (next : ℕ) → body ≡ other → list ≡ rest →
    arguments_of next body list ≡ arguments_of next other rest
same_arguments {other = other} {list = list} next e f = ap (λ one. arguments_of next one list) e ∙ ap (arguments_of next other) f

abbrev text_with : ℕ → List Stmt → Text
text_with next body = record { body = body; given = nothing; next = next }

-- no argument is left
no_argument : (names : Names) (made : ArgumentsText) → made ≡ with_arguments made (lifted_args names no_exprs made.next)
no_argument names made = same_arguments made.next (sym (append-nil made.body)) (sym (append-nil made.list))

-- one argument more
next_argument : (names : Names) (made : ArgumentsText) (first : CExpr) (others : CExprs) →
    (let one = lifted names (operand_before (some_holds_call others)) first made.next in
    with_arguments (text.with_argument names first (text_of one) made) (lifted_args names others one.next))
    ≡ with_arguments made (lifted_args names (more_exprs first others) made.next)
next_argument names made first others =
    let one = lifted names (operand_before (some_holds_call others)) first made.next in
    let rest = lifted_args names others one.next in
    same_arguments rest.written.next (append_assoc made.body one.body rest.written.body)
    (append_assoc made.list (spec_calls.argument_of names first one.given ∷ []) rest.list)

-- one value more
next_put : (names : Names) (filled : CTy) (number : ℕ) (first : CPut) (others : CPuts) (made : Text) →
    (let one = lifted_put names filled (object_at names filled number) first made.next in
    text.behind (text.behind made (text_of one)) (text_of (lifted_puts names filled (object_at names filled number) others one.next)))
    ≡ text.behind made (text_of (lifted_puts names filled (object_at names filled number) (more_puts first others) made.next))
next_put names filled number first others made =
    let p = object_at names filled number in
    let one = lifted_put names filled p first made.next in
    let rest = lifted_puts names filled p others one.next in
    ap (text_with rest.next) (append_assoc made.body one.body rest.body)

-- ---- the walk

abbrev choosing : Names → Asked → CTy → (test first second : CExpr) → (before one : Text) → Text
choosing names asked type test first second before one =
    nodes.chosen_node names asked.used type test first second
    (record { test = before; first = one; second = text.lifted_text names (part_of asked.used) second one.next })

abbrev changing : Names → Op2 → (computes : CTy) → CExpr → Given → Change
changing names op computes from given =
    record { op = op; computes = type_in names computes; right = record { ty = type_in names (type_of from); given = given } }

abbrev then_comma : Text → Text → Text
then_comma one other = nodes.in_turn one other other.given

mutual
  -- what is written for an expression, by itself
  pub lifted_is : (names : Names) (asked : Asked) (e : CExpr) (next : ℕ) → text.lifted_text names asked e next ≡ text_of (lifted names asked e next)
  lifted_is names asked (expr type at form) next =
      ap (text.held_form names asked type form) (form_is names asked type form next)
      ∙ held_where (is_held_form asked type form && not (spec.holds_itself type form)) names (written.kind_in names type form) (lifted_form names asked type form next)

  form_is : (names : Names) (asked : Asked) (type : CTy) (form : CForm) (next : ℕ) → text.form_text names asked type form next ≡ text_of (lifted_form names asked type form next)
  form_is names asked type (whole number) next = refl
  form_is names asked type null next = refl
  form_is names asked type (object number) next = refl
  form_is names asked type (code number) next = refl
  form_is names asked type (load from) next =
      ap (λ one. nodes.then_gives (spec.load_given names type from one.given) one) (lifted_is names operand from next)
  form_is names asked type (deref from) next = ap (λ one. nodes.then_gives (spec.deref_given names from one.given) one) (lifted_is names operand from next)
  form_is names asked type (member of spot) next =
      ap (λ one. nodes.then_gives (spec.member_given names type of spot one.given) one) (lifted_is names (whole_of spot) of next)
  form_is names asked type (address of) next =
      ap (λ one. nodes.then_gives (spec.address_given names type of one.given) one) (lifted_is names operand of next)
  form_is names asked type (convert from) next = ap (nodes.converted_node names type from) (lifted_is names (part_of (not (is_void type))) from next)
  form_is names asked type (unary op from) next =
      ap (λ one. nodes.then_gives (unary_form op (spec.operand_of names from one.given)) one) (lifted_is names operand from next)
  form_is names asked type (binary op left right) next =
      let one = lifted names (operand_before (holds_call right)) left next in
      ap (λ first. nodes.binary_node names op left right first (text.lifted_text names operand right first.next))
      (lifted_is names (operand_before (holds_call right)) left next)
      ∙ ap (nodes.binary_node names op left right (text_of one)) (lifted_is names operand right one.next)
  form_is names asked type (and left right) next =
      let one = lifted names operand left next in
      let other = lifted names operand right one.next in
      ap (λ first. nodes.decided_node names asked.used spec.where_true left right first (text.lifted_text names operand right first.next)) (lifted_is names operand left next)
      ∙ ap (nodes.decided_node names asked.used spec.where_true left right (text_of one)) (lifted_is names operand right one.next)
      ∙ decided_written names asked.used (acts true right) type spec.where_true (spec.operand_of names left one.given) (spec.operand_of names right other.given)
      (record { first = one; second = other })
  form_is names asked type (or left right) next =
      let one = lifted names operand left next in
      let other = lifted names operand right one.next in
      ap (λ first. nodes.decided_node names asked.used spec.where_false left right first (text.lifted_text names operand right first.next)) (lifted_is names operand left next)
      ∙ ap (nodes.decided_node names asked.used spec.where_false left right (text_of one)) (lifted_is names operand right one.next)
      ∙ decided_written names asked.used (acts true right) type spec.where_false (spec.operand_of names left one.given) (spec.operand_of names right other.given)
      (record { first = one; second = other })
  form_is names asked type (cond test first second) next =
      let before = lifted names operand test next in
      let one = lifted names (part_of asked.used) first before.next in
      let other = lifted names (part_of asked.used) second one.next in
      ap (λ shown. choosing names asked type test first second shown (text.lifted_text names (part_of asked.used) first shown.next)) (lifted_is names operand test next)
      ∙ ap (λ shown. choosing names asked type test first second (text_of before) shown) (lifted_is names (part_of asked.used) first before.next)
      ∙ ap (λ shown. nodes.chosen_node names asked.used type test first second (record { test = text_of before; first = text_of one; second = shown }))
      (lifted_is names (part_of asked.used) second one.next)
      ∙ chosen_written names asked.used ((asked.used && is_record type) || (acts asked.used first || acts asked.used second)) type
      (spec.operand_of names test before.given) (spec.operand_of names first one.given) (spec.operand_of names second other.given)
      (record { test = before; first = one; second = other })
  form_is names asked type (assign target from) next =
      let one = lifted names (operand_before (holds_call from)) target next in
      let other = lifted names operand from one.next in
      let to = stores.target_of names type target one.given in
      ap (λ first. nodes.assigned names asked.used type target first (text.lifted_text names operand from first.next))
      (lifted_is names (operand_before (holds_call from)) target next)
      ∙ ap (nodes.assigned names asked.used type target (text_of one)) (lifted_is names operand from one.next)
      ∙ stored names asked.used to (stores.stored_value to other.given) (written.in_turn (record { first = one; second = other }) nothing)
  form_is names asked type (assign_by op computes target from) next =
      let one = lifted names (operand_before (holds_call from)) target next in
      let other = lifted names operand from one.next in
      let to = stores.target_of names type target one.given in
      let change = changing names op computes from other.given in
      ap (λ first. nodes.assigned_by names asked.used type op computes target from first (text.lifted_text names operand from first.next))
      (lifted_is names (operand_before (holds_call from)) target next)
      ∙ ap (nodes.assigned_by names asked.used type op computes target from (text_of one)) (lifted_is names operand from one.next)
      ∙ stored names asked.used to (stores.changed change (stores.target_type to) (stores.old_value to)) (written.in_turn (record { first = one; second = other }) nothing)
  form_is names asked type (step up post on) next =
      let one = lifted names operand on next in
      let to = stores.target_of names type on one.given in
      ap (nodes.stepped_by_one names type asked.used up post on) (lifted_is names operand on next)
      ∙ stepped names asked.used post to (stores.step_by_one up (stores.promoted_type (stores.target_type to) (width_of on))) one
  form_is names asked type (call callee args) next =
      ap (text.call_text names asked.used type (spec_calls.called_by_name names callee)) (args_are names args (text.arguments_after (text.gives_text nothing next)))
      ∙ called_with names asked.used type (spec_calls.called_by_name names callee) (lifted_args names args next)
  form_is names asked type (call_by callee args) next =
      let pointer = lifted names (operand_before (some_holds_call args)) callee next in
      let called = spec_calls.called_by_pointer (spec.operand_of names callee pointer.given) in
      ap (λ one. text.call_text names asked.used type (spec_calls.called_by_pointer (spec.operand_of names callee one.given)) (text.args_text names args (text.arguments_after one)))
      (lifted_is names (operand_before (some_holds_call args)) callee next)
      ∙ ap (text.call_text names asked.used type called) (args_are names args (text.arguments_after (text_of pointer)))
      ∙ called_with names asked.used type called (spec.behind_pointer pointer (λ from. lifted_args names args from))
  form_is names asked type (comma first second) next =
      let one = lifted names (part_of false) first next in
      ap (λ shown. then_comma shown (text.lifted_text names (part_of asked.used) second shown.next)) (lifted_is names (part_of false) first next)
      ∙ ap (then_comma (text_of one)) (lifted_is names (part_of asked.used) second one.next)
  form_is names asked type (literal number puts) next =
      ap (text.literal_text names type number) (puts_behind names type number puts (text_of (spec.literal_begun names type number puts next)))

  args_are : (names : Names) (args : CExprs) (made : ArgumentsText) → text.args_text names args made ≡ with_arguments made (lifted_args names args made.next)
  args_are names no_exprs made = no_argument names made
  args_are names (more_exprs first others) made =
      let one = lifted names (operand_before (some_holds_call others)) first made.next in
      ap (λ shown. text.args_text names others (text.with_argument names first shown made)) (lifted_is names (operand_before (some_holds_call others)) first made.next)
      ∙ args_are names others (text.with_argument names first (text_of one) made)
      ∙ next_argument names made first others

  puts_behind : (names : Names) (filled : CTy) (number : ℕ) (puts : CPuts) (made : Text) →
      text.told (text.puts_text names filled number puts made) ≡ text.behind made (text_of (lifted_puts names filled (object_at names filled number) puts made.next))
  puts_behind names filled number no_puts made = ap (text_with made.next) (sym (append-nil made.body))
  puts_behind names filled number (more_puts first others) made =
      let one = lifted_put names filled (object_at names filled number) first made.next in
      ap (λ shown. text.told (text.puts_text names filled number others shown)) (put_behind names filled number first made)
      ∙ puts_behind names filled number others (text.behind made (text_of one))
      ∙ next_put names filled number first others made

  put_behind : (names : Names) (filled : CTy) (number : ℕ) (one : CPut) (made : Text) →
      text.put_text names filled number one made ≡ text.behind made (text_of (lifted_put names filled (object_at names filled number) one made.next))
  put_behind names filled number (put spot type from) made =
      ap (λ one. text.behind made (text.stored_text names filled number spot type one)) (lifted_is names (value_for spot) from made.next)

-- values that are stored in an object, from a number of a temporary on
pub puts_are : (names : Names) (filled : CTy) (number : ℕ) (puts : CPuts) (next : ℕ) →
    text.told (text.puts_text names filled number puts (text.gives_text nothing next))
    ≡ text.told (text_of (lifted_puts names filled (object_at names filled number) puts next))
puts_are names filled number puts next = puts_behind names filled number puts (text.gives_text nothing next)
