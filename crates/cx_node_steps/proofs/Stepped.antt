-- The load of `++` and `--`.
use Rattle.std.proofs.Common.{◌≡◌, refl, sym, subst, Bool, [], ◌∷◌, Ok}
use Rattle.cx_core.specs.Trees.{CExpr, CForm, step}
use Rattle.cx_mean.specs.Nodes.{CChange, changes, node_updating, update_loaded}
use Rattle.cx_mean.specs.Operands.{COperand, Frame}
use Rattle.cx_mean.specs.Settings.{CSetting}
use Rattle.cx_node_steps.proofs.Single.{united_one}
use Rattle.mem_bytes.specs.Memory.{Blocks}

pub by_change : (setting : CSetting) (form : CForm) (frame : Frame) (blocks : Blocks) (operand : COperand) (up post : Bool) (on : CExpr) (make : COperand → CChange) →
    form ≡ step up post on → ((target : COperand) → changes setting (step up post on) (target ∷ []) ≡ Ok (make target)) →
    node_updating setting form frame blocks (operand ∷ []) ≡ update_loaded setting frame blocks operand.marks (make operand)
by_change setting form frame blocks operand up post on make is change_is =
    let changed : changes setting form (operand ∷ []) ≡ Ok (make operand) =
    subst (λ (one : CForm). changes setting one (operand ∷ []) ≡ Ok (make operand)) (sym is) (change_is operand) in
    rw (united_one operand.marks, changed) refl
