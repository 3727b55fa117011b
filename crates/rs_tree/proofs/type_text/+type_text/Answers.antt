use Rattle.std.proofs.Common.{refl}
use Rattle.rs_tree.proofs.Growing.{then}
use Rattle.rs_tree.proofs.Opened.{void_view, code_view}
use Rattle.rs_tree.proofs.type_text.+type_text.Goals as goal

pub put_ty-returns-in-Void : goal.put_ty-returns-in-Void
put_ty-returns-in-Void t c = rw (c.in-Void.is, void_view) c.text-in-Void.ensures

pub put_ty-returns-in-Code : goal.put_ty-returns-in-Code
put_ty-returns-in-Code t c = rw (c.in-Code.is, code_view c.in-Code.params c.in-Code.result) (then _ _ _ _ _ _ c.text-in-Code.ensures (then _ _ _ _ _ _ c.put_tys.ensures (then _ _ _ _ _ _ c.text-in-Code-2.ensures (then _ _ _ _ _ _ c.put_result.ensures c.text-in-Code-3.ensures refl) refl) refl) refl)
