-- The step of a call through a pointer.
use Rattle.std.proofs.Common.{◌≡◌, refl, sym, subst, List}
use Rattle.cr_base.specs.declared.refusal.Place.{Place}
use Rattle.cx_core.specs.Trees.{CTy, CExpr, expr, call_by, CExprs, place_of, type_of}
use Rattle.cx_ready.specs.Nodes.{calls_as}
use Rattle.cx_mean.specs.Operands.{COperand, Frame}
use Rattle.cx_mean.specs.Settings.{CSetting}
use Rattle.cx_mean.specs.Steps.{needs_step}
use Rattle.cx_node_steps.specs.Callings.{pointer_calling}
use Rattle.mem_bytes.specs.Memory.{Blocks}

pub calls_by_pointer : (setting : CSetting) (frame : Frame) (blocks : Blocks) (node : CExpr) (type : CTy) (place : Place) (callee : CExpr) (args : CExprs) (operands : List COperand) →
    node ≡ expr type place (call_by callee args) →
    needs_step setting frame blocks node operands ≡ calls_as node (pointer_calling setting (type_of node) (place_of node) operands)
calls_by_pointer setting frame blocks node type place callee args operands is =
    subst (λ (one : CExpr). needs_step setting frame blocks one operands ≡ calls_as one (pointer_calling setting (type_of one) (place_of one) operands)) (sym is) refl
