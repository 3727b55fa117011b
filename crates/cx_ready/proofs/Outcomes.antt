-- A node whose step stops.
use Rattle.std.proofs.Common.{◌≡◌, refl, subst, Result, Ok, Err}
use Rattle.cr_base.specs.declared.refusal.Place.{Place}
use Rattle.cx_access.specs.declared.trouble.Trouble.{Trouble}
use Rattle.cx_access.specs.declared.trouble.Trouble.TheVariants.{Undefined, Memory}
use Rattle.cx_access.specs.Finds.{Finds}
use Rattle.cx_core.specs.Trees.{CExpr, expr, place_of, type_of}
use Rattle.cx_ready.specs.declared.halt.Halt.{Halt}
use Rattle.cx_ready.specs.declared.halt.Progress.{Progress}
use Rattle.cx_ready.specs.Halts.{halted}
use Rattle.cx_ready.specs.Steps.{Steps}
use Rattle.cx_mean.specs.Nodes.{CChoice, chosen}
use Rattle.cx_mean.specs.Operands.{CWhy, COperand}
use Rattle.cx_mean.specs.Marks.{Marks, at_sequence_point}
use Rattle.cx_mean.specs.Steps.{CDid, CStepped, at_node, outcome_of, after_choice, chooses_step}
use Rattle.cx_node_steps.specs.Views.{form_of}
use Rattle.cx_mean.specs.Work.{CWork}
use Rattle.mem_bytes.specs.Memory.{Blocks}

pub stops : {A B : Type 0} (view : A → B) (make : B → CDid) (trouble : Trouble) (node : CExpr) (place : Place) (found : Result B CWhy) (before later : Blocks) (left : CWork) →
    place ≡ place_of node → Finds view (Err trouble) found → Steps (Err (halted trouble place)) before later left (at_node (place_of node) (outcome_of make found))
stops view make (Undefined rule) node place found before later left at is = rw (is, at) refl
stops view make Memory node place found before later left at is = tt

pub choice_stops : {A : Type 0} (view : A → CChoice) (trouble : Trouble) (node : CExpr) (place : Place) (first : COperand) (blocks : Blocks) (left : CWork) →
    place ≡ place_of node → Finds view (Err trouble) (chosen (form_of node) blocks first.value) → Steps (Err (halted trouble place)) blocks blocks left (chooses_step blocks node first)
choice_stops view (Undefined rule) (expr type own form) place first blocks left at is = rw (is, at) refl
choice_stops view Memory (expr type own form) place first blocks left at is = tt

pub choice_taken : (result : Result Progress Halt) (node : CExpr) (blocks : Blocks) (left : CWork) (first : COperand) (marks : Marks) (choice : CChoice) →
    chosen (form_of node) blocks first.value ≡ Ok choice → marks ≡ at_sequence_point first.marks →
    Steps result blocks blocks left (Ok (after_choice node (type_of node) blocks marks choice)) → Steps result blocks blocks left (chooses_step blocks node first)
choice_taken result (expr type place form) blocks left first marks choice is marks_is taken =
    subst (λ (found : CStepped). Steps result blocks blocks left found) (rw (is, marks_is) refl) taken
