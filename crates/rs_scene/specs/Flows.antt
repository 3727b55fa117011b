-- Which flow of the meaning one of src/ is.
use Rattle.std.specs.Prelude.{ℕ, ℤ, Bool, true, false, List, [], ◌∷◌, Option, Some, None, option_map, bytes_eq, if◌then◌else◌}
use Rattle.std.specs.Ordering.{int_eq}
use Rattle.mem_bytes.specs.declared.value.Value.{Value}
use Rattle.mem_bytes.specs.declared.value.Value.TheVariants.{Whole}
use Rattle.rs_mean.specs.Run as run
use Rattle.rs_mean.specs.World.{Round, again, done}
use Rattle.rs_mean.specs.Values.{Typed}
use Rattle.rs_text.specs.Tree.{Stmts, ArmTree, LiteralArm}
use Rattle.rs_value.specs.Views.{typed_view}
use Rattle.rs_scene.specs.declared.flow.Flow.{Flow}
use Rattle.rs_scene.specs.declared.flow.Flow.TheVariants as flow
use Rattle.rs_scene.specs.declared.flow.Turn.{Turn}
use Rattle.rs_scene.specs.declared.flow.Turn.TheVariants as turn

abbrev pub flow_view : Flow → run.Flow
flow_view flow.Normal = run.normal
flow_view (flow.Breaks label) = run.breaks label.now
flow_view (flow.Continues label) = run.continues label.now
flow_view (flow.Returned value) = run.returned (option_map typed_view value)

abbrev pub turn_view : Turn → Round (Unit {0}) run.Flow
turn_view turn.Again = again tt
turn_view (turn.Done flow) = done (flow_view flow)

abbrev pub is_normal : run.Flow → Bool
is_normal run.normal = true
is_normal _ = false

-- what comes behind a block of a label
abbrev pub behind_block : List ℕ → run.Flow → run.Flow
behind_block name run.normal = run.normal
behind_block name (run.breaks label) = if bytes_eq name label then run.normal else run.breaks label
behind_block name (run.continues label) = run.continues label
behind_block name (run.returned value) = run.returned value

abbrev pub is_label : List ℕ → Option (List ℕ) → Bool
is_label label None = false
is_label label (Some name) = bytes_eq name label

-- what comes behind a turn of a loop of a label
abbrev pub turned : Option (List ℕ) → run.Flow → Round (Unit {0}) run.Flow
turned name run.normal = again tt
turned name (run.breaks label) = if is_label label name then done run.normal else done (run.breaks label)
turned name (run.continues label) = if is_label label name then again tt else done (run.continues label)
turned name (run.returned value) = done (run.returned value)

abbrev pub is_number : ℤ → Value → Bool
is_number number (Whole value) = int_eq value number
is_number number _ = false

-- the literal of an arm is a value
abbrev pub is_arm : ArmTree → Typed → Bool
is_arm (LiteralArm number ty body) operand = is_number number operand.value

-- the statements of an arm
abbrev pub body_of : ArmTree → Stmts
body_of (LiteralArm number ty body) = body

-- the statements of the first arm whose literal is the value, or the others
abbrev pub chosen : List ArmTree → Typed → Stmts → Stmts
chosen [] operand other = other
chosen (one ∷ others) operand other = if is_arm one operand then body_of one else chosen others operand other
