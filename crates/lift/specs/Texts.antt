-- What is written for expressions, by itself: the types of temporaries are kept with their names.
use Rattle.std.specs.Prelude.{ℕ, suc, Bool, false, not, ◌&&◌, if◌then◌else◌, List, [], ◌∷◌, ◌++◌}
use Rattle.cx_core.specs.Trees.{CTy, CExpr, expr, CForm, whole, null, object, code, load, deref, member, address, convert, unary, binary, and, or, cond, assign, assign_by, step, call, call_by, comma, literal, CExprs, no_exprs, more_exprs, CPut, put, CPuts, no_puts, more_puts}
use Rattle.cx_core.specs.declared.expr.Op2.{Op2}
use Rattle.lift_call_forms.specs.Texts.{called_with}
use Rattle.lift_exprs.specs.Calls.{Argument, Called, argument_of, called_by_name, called_by_pointer}
use Rattle.lift_exprs.specs.Lifted.{Deciding, where_true, where_false, holds_itself, operand_of, function_given, load_given, deref_given, member_given, address_given}
use Rattle.lift_exprs.specs.Names.{Names, function_or, type_in}
use Rattle.lift_exprs.specs.Objects.{object_at, part_target}
use Rattle.lift_exprs.specs.Stores.{stored_value, stores}
use Rattle.cr_base.specs.declared.layout.Spot.{Spot}
use Rattle.lift_stores.specs.Texts.{then_does}
use Rattle.lift_exprs.specs.Written.{kind_in, held_by, held_gives, temporary_place, NodeKind}
use Rattle.lift_forms.specs.Given.{Given, nothing, value, place}
use Rattle.lift_forms.specs.Operators.{constant, null_of, unary_form}
use Rattle.lift_held.specs.Held.{is_void, is_held_form, holds_call, some_holds_call, operand, operand_before, part_of, whole_of, value_for}
use Rattle.lift_held.specs.declared.asked.Asked.{Asked}
use Rattle.lift_nodes.specs.Texts as nodes
use Rattle.lift_nodes.specs.Texts.{ChoiceText}
use Rattle.lift_stores.specs.Names.{lift_names}
use Rattle.lift_stores.specs.Views.{Text}
use Rattle.rs_items.specs.Known.{view_names}
use Rattle.rs_items.specs.declared.map.NameMap.{NameMap}
use Rattle.rs_text.specs.Tree.{Stmt}

-- the names with which expressions are written: one word, so that a walk over an expression doesn't look into it
unfoldable pub names_of : NameMap → Names
names_of names = lift_names (view_names names)

-- ---- nodes

-- a node is held
abbrev pub then_held : Names → NodeKind → Text → Text
then_held names kind one = record {
  body = one.body ++ held_by (temporary_place names one.next) kind one.given ∷ [];
  given = held_gives (temporary_place names one.next) kind;
  next = suc one.next;
}

abbrev pub held_where : Bool → Names → NodeKind → Text → Text
held_where is_it names kind one = if is_it then then_held names kind one else one

abbrev pub holds_itself_node : CExpr → Bool
holds_itself_node (expr type at form) = holds_itself type form

abbrev pub held_form : Names → Asked → CTy → CForm → Text → Text
held_form names asked type form one = held_where (is_held_form asked type form && not (holds_itself type form)) names (kind_in names type form) one

-- where it has to be
abbrev pub held_node : Names → Asked → CExpr → Text → Text
held_node names asked (expr type at form) one = held_form names asked type form one

-- something that takes no temporary
abbrev pub gives_text : Given → ℕ → Text
gives_text given next = record { body = []; given = given; next = next }

-- statements behind a part, whose value is told
abbrev pub behind : Text → Text → Text
behind first second = record { body = first.body ++ second.body; given = nothing; next = second.next }

-- statements, of which the value is told
abbrev pub told : Text → Text
told one = record { body = one.body; given = nothing; next = one.next }

pub record BothTexts : Type 0 where
  pub first : Text
  pub second : Text

-- arguments, and the statements in front of them
pub record ArgumentsText : Type 0 where
  pub body : List Stmt
  pub list : List Argument
  pub next : ℕ

-- behind a part, whose value is told
abbrev pub arguments_after : Text → ArgumentsText
arguments_after before = record { body = before.body; list = []; next = before.next }

-- one argument more
abbrev pub with_argument : Names → CExpr → Text → ArgumentsText → ArgumentsText
with_argument names e one before =
    record { body = before.body ++ one.body; list = before.list ++ argument_of names e one.given ∷ []; next = one.next }

abbrev pub call_text : Names → (used : Bool) → CTy → Called → ArgumentsText → Text
call_text names used type called args =
    called_with names used type called args.list (record { body = args.body; given = nothing; next = args.next })

-- a value behind its statements is stored at a spot of the object of a number
abbrev pub stored_text : Names → (filled : CTy) → ℕ → Spot → CTy → Text → Text
stored_text names filled number spot type one =
    let target = part_target names filled (object_at names filled number) spot type in
    then_does (stores target (stored_value target one.given)) nothing one

abbrev pub literal_text : Names → CTy → ℕ → Text → Text
literal_text names type number one = nodes.then_gives (place (object_at names type number)) one

-- ---- the walk

abbrev mutual
  -- what is written for an expression
  pub lifted_text : Names → Asked → CExpr → ℕ → Text
  lifted_text names asked (expr type at form) next = held_form names asked type form (form_text names asked type form next)

  pub form_text : Names → Asked → CTy → CForm → ℕ → Text
  form_text names asked type (whole number) next = gives_text (value (constant (type_in names type) number)) next
  form_text names asked type null next = gives_text (value (null_of (type_in names type))) next
  form_text names asked type (object number) next = gives_text (place (object_at names type number)) next
  form_text names asked type (code number) next = gives_text (function_given names type (function_or (names.functions number))) next
  form_text names asked type (load from) next =
      let one = lifted_text names operand from next in nodes.then_gives (load_given names type from one.given) one
  form_text names asked type (deref from) next =
      let one = lifted_text names operand from next in nodes.then_gives (deref_given names from one.given) one
  form_text names asked type (member of spot) next =
      let one = lifted_text names (whole_of spot) of next in nodes.then_gives (member_given names type of spot one.given) one
  form_text names asked type (address of) next =
      let one = lifted_text names operand of next in nodes.then_gives (address_given names type of one.given) one
  form_text names asked type (convert from) next = nodes.converted_node names type from (lifted_text names (part_of (not (is_void type))) from next)
  form_text names asked type (unary op from) next =
      let one = lifted_text names operand from next in nodes.then_gives (unary_form op (operand_of names from one.given)) one
  form_text names asked type (binary op left right) next =
      let first = lifted_text names (operand_before (holds_call right)) left next in
      nodes.binary_node names op left right first (lifted_text names operand right first.next)
  form_text names asked type (and left right) next =
      let first = lifted_text names operand left next in
      nodes.decided_node names asked.used where_true left right first (lifted_text names operand right first.next)
  form_text names asked type (or left right) next =
      let first = lifted_text names operand left next in
      nodes.decided_node names asked.used where_false left right first (lifted_text names operand right first.next)
  form_text names asked type (cond test first second) next =
      let before = lifted_text names operand test next in
      let one = lifted_text names (part_of asked.used) first before.next in
      nodes.chosen_node names asked.used type test first second
      (record { test = before; first = one; second = lifted_text names (part_of asked.used) second one.next })
  form_text names asked type (assign target from) next =
      let first = lifted_text names (operand_before (holds_call from)) target next in
      nodes.assigned names asked.used type target first (lifted_text names operand from first.next)
  form_text names asked type (assign_by op computes target from) next =
      let first = lifted_text names (operand_before (holds_call from)) target next in
      nodes.assigned_by names asked.used type op computes target from first (lifted_text names operand from first.next)
  form_text names asked type (step up post on) next = nodes.stepped_by_one names type asked.used up post on (lifted_text names operand on next)
  form_text names asked type (call callee args) next =
      call_text names asked.used type (called_by_name names callee) (args_text names args (arguments_after (gives_text nothing next)))
  form_text names asked type (call_by callee args) next =
      let pointer = lifted_text names (operand_before (some_holds_call args)) callee next in
      call_text names asked.used type (called_by_pointer (operand_of names callee pointer.given)) (args_text names args (arguments_after pointer))
  form_text names asked type (comma first second) next =
      let one = lifted_text names (part_of false) first next in
      let other = lifted_text names (part_of asked.used) second one.next in
      nodes.in_turn one other other.given
  form_text names asked type (literal number puts) next =
      literal_text names type number (puts_text names type number puts (nodes.literal_begun names type number puts next))

  -- arguments behind others, from the left
  pub args_text : Names → CExprs → ArgumentsText → ArgumentsText
  args_text names no_exprs made = made
  args_text names (more_exprs first others) made =
      args_text names others (with_argument names first (lifted_text names (operand_before (some_holds_call others)) first made.next) made)

  -- values that are stored in the object of a number, behind a part, each before the next is reached
  pub puts_text : Names → (filled : CTy) → ℕ → CPuts → Text → Text
  puts_text names filled number no_puts made = made
  puts_text names filled number (more_puts first others) made = puts_text names filled number others (put_text names filled number first made)

  pub put_text : Names → (filled : CTy) → ℕ → CPut → Text → Text
  put_text names filled number (put spot type from) made =
      behind made (stored_text names filled number spot type (lifted_text names (value_for spot) from made.next))

-- a node by its form, before it is held
abbrev pub node_text : Names → Asked → CExpr → ℕ → Text
node_text names asked (expr type at form) next = form_text names asked type form next

-- ---- parts of the walk

-- an expression behind a part
abbrev pub behind_text : Names → Asked → CExpr → Text → BothTexts
behind_text names asked e first = record { first = first; second = lifted_text names asked e first.next }

abbrev pub third_text : Names → Asked → CExpr → BothTexts → ChoiceText
third_text names asked e two = record { test = two.first; first = two.second; second = lifted_text names asked e two.second.next }

abbrev pub operands_text : Names → (first second : Asked) → (left right : CExpr) → ℕ → BothTexts
operands_text names first second left right next = behind_text names second right (lifted_text names first left next)

abbrev pub binary_text : Names → Op2 → (left right : CExpr) → ℕ → Text
binary_text names op left right next =
    let two = operands_text names (operand_before (holds_call right)) operand left right next in
    nodes.binary_node names op left right two.first two.second

abbrev pub decided_text : Names → (used : Bool) → Deciding → (left right : CExpr) → ℕ → Text
decided_text names used which left right next =
    let two = operands_text names operand operand left right next in
    nodes.decided_node names used which left right two.first two.second

abbrev pub assigned_text : Names → (used : Bool) → CTy → (to from : CExpr) → ℕ → Text
assigned_text names used type to from next =
    let two = operands_text names (operand_before (holds_call from)) operand to from next in
    nodes.assigned names used type to two.first two.second

abbrev pub assigned_by_text : Names → (used : Bool) → CTy → Op2 → (computes : CTy) → (to from : CExpr) → ℕ → Text
assigned_by_text names used type op computes to from next =
    let two = operands_text names (operand_before (holds_call from)) operand to from next in
    nodes.assigned_by names used type op computes to from two.first two.second

abbrev pub comma_text : Names → (used : Bool) → (first second : CExpr) → ℕ → Text
comma_text names used first second next =
    let two = operands_text names (part_of false) (part_of used) first second next in
    nodes.in_turn two.first two.second two.second.given

abbrev pub chosen_text : Names → (used : Bool) → CTy → (test first second : CExpr) → ℕ → Text
chosen_text names used type test first second next =
    nodes.chosen_node names used type test first second
    (third_text names (part_of used) second (operands_text names operand (part_of used) test first next))

abbrev pub argument_behind : Names → Asked → CExpr → ArgumentsText → ArgumentsText
argument_behind names asked e before = with_argument names e (lifted_text names asked e before.next) before

-- a compound literal
abbrev pub filled_text : Names → CTy → ℕ → CPuts → ℕ → Text
filled_text names type number puts next = literal_text names type number (puts_text names type number puts (nodes.literal_begun names type number puts next))
