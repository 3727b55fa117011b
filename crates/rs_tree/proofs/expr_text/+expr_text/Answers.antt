use Rattle.std.proofs.Common.{refl}
use Rattle.rs_tree.proofs.Growing.{then}
use Rattle.rs_tree.proofs.Opened.{choose_view, wrapping_neg_view, offset_from_view, some_view}
use Rattle.rs_tree.proofs.expr_text.+expr_text.Goals as goal

pub put_first-returns-in-SomeFunction : goal.put_first-returns-in-SomeFunction
put_first-returns-in-SomeFunction t c = rw (c.in-SomeFunction.is, some_view _ _ _) c.put_function.ensures

pub put_second-returns-in-WrappingNeg : goal.put_second-returns-in-WrappingNeg
put_second-returns-in-WrappingNeg t c = rw (c.in-WrappingNeg.is, wrapping_neg_view _) c.text.ensures

pub put_second-returns-in-OffsetFrom : goal.put_second-returns-in-OffsetFrom
put_second-returns-in-OffsetFrom t c = rw (c.in-OffsetFrom.is, offset_from_view _ _) c.put_method-in-OffsetFrom.ensures

pub put_second-returns-in-Choose : goal.put_second-returns-in-Choose
put_second-returns-in-Choose t c = rw (c.in-Choose.is, choose_view _ _ _) (then _ _ _ _ _ _ c.put_between-in-Choose.ensures c.put_between-in-Choose-2.ensures refl)
