use Rattle.rs_forms.proofs.OpenedExprs.{address_runs, and_runs, binary_runs, call_by_runs, call_runs, cast_runs, choose_runs, is_none_runs, is_null_runs, literal_runs, neg_runs, no_function_runs, not_runs, null_runs, offset_from_runs, offset_runs, or_runs, read_runs, some_runs, transmute_runs, truth_runs, wrapping_neg_runs, wrapping_runs}
use Rattle.rs_forms.proofs.forms.form_of.Goals as goal

pub returns-in-Literal : goal.returns-in-Literal
returns-in-Literal c = λ frame. literal_runs frame c.args.tree.now c.in-Literal.value c.in-Literal.ty c.in-Literal.is

pub returns-in-Truth : goal.returns-in-Truth
returns-in-Truth c = λ frame. truth_runs frame c.args.tree.now c.in-Truth.value c.in-Truth.is

pub returns-in-NoFunction : goal.returns-in-NoFunction
returns-in-NoFunction c = λ frame. no_function_runs frame c.args.tree.now c.in-NoFunction.is

pub returns-in-NullPointer : goal.returns-in-NullPointer
returns-in-NullPointer c = λ frame. null_runs frame c.args.tree.now c.in-NullPointer.ty c.get.result.now c.in-NullPointer.is c.get.ensures

pub returns-in-SomeFunction : goal.returns-in-SomeFunction
returns-in-SomeFunction c = λ frame. some_runs frame c.args.tree.now c.in-SomeFunction.path c.in-SomeFunction.params c.in-SomeFunction.given c.in-SomeFunction.is

pub returns-in-Read : goal.returns-in-Read
returns-in-Read c = λ frame. read_runs frame c.args.tree.now c.in-Read.of c.get-in-Read.result.now c.in-Read.is c.get-in-Read.ensures

pub returns-in-AddressOf : goal.returns-in-AddressOf
returns-in-AddressOf c = λ frame. address_runs frame c.args.tree.now c.in-AddressOf.of c.get-in-AddressOf.result.now c.in-AddressOf.is c.get-in-AddressOf.ensures

pub returns-in-Call : goal.returns-in-Call
returns-in-Call c = λ frame. call_runs frame c.args.tree.now c.in-Call.path c.in-Call.args c.in-Call.is

pub returns-in-CallBy : goal.returns-in-CallBy
returns-in-CallBy c = λ frame. call_by_runs frame c.args.tree.now c.in-CallBy.operand c.get-in-CallBy.result.now c.in-CallBy.args c.in-CallBy.is c.get-in-CallBy.ensures

pub returns-in-WrappingNeg : goal.returns-in-WrappingNeg
returns-in-WrappingNeg c = λ frame. wrapping_neg_runs frame c.args.tree.now c.in-WrappingNeg.operand c.get-in-WrappingNeg.result.now c.in-WrappingNeg.is c.get-in-WrappingNeg.ensures

pub returns-in-IsNull : goal.returns-in-IsNull
returns-in-IsNull c = λ frame. is_null_runs frame c.args.tree.now c.in-IsNull.operand c.get-in-IsNull.result.now c.in-IsNull.is c.get-in-IsNull.ensures

pub returns-in-IsNone : goal.returns-in-IsNone
returns-in-IsNone c = λ frame. is_none_runs frame c.args.tree.now c.in-IsNone.operand c.get-in-IsNone.result.now c.in-IsNone.is c.get-in-IsNone.ensures

pub returns-in-Neg : goal.returns-in-Neg
returns-in-Neg c = λ frame. neg_runs frame c.args.tree.now c.in-Neg.operand c.get-in-Neg.result.now c.in-Neg.is c.get-in-Neg.ensures

pub returns-in-Not : goal.returns-in-Not
returns-in-Not c = λ frame. not_runs frame c.args.tree.now c.in-Not.operand c.get-in-Not.result.now c.in-Not.is c.get-in-Not.ensures

pub returns-in-Cast : goal.returns-in-Cast
returns-in-Cast c = λ frame. cast_runs frame c.args.tree.now c.in-Cast.operand c.get-in-Cast-2.result.now c.in-Cast.ty c.get-in-Cast.result.now c.in-Cast.is c.get-in-Cast-2.ensures c.get-in-Cast.ensures

pub returns-in-Transmute : goal.returns-in-Transmute
returns-in-Transmute c = λ frame. transmute_runs frame c.args.tree.now _ c.in-Transmute.to c.get-in-Transmute.result.now c.in-Transmute.operand c.get-in-Transmute-2.result.now c.in-Transmute.is c.get-in-Transmute.ensures c.get-in-Transmute-2.ensures

pub returns-in-Wrapping : goal.returns-in-Wrapping
returns-in-Wrapping c = λ frame. wrapping_runs frame c.args.tree.now c.in-Wrapping.left c.in-Wrapping.right c.get-in-Wrapping.result.now c.get-in-Wrapping-2.result.now c.in-Wrapping.operation c.in-Wrapping.is c.get-in-Wrapping.ensures c.get-in-Wrapping-2.ensures

pub returns-in-Offset : goal.returns-in-Offset
returns-in-Offset c = λ frame. offset_runs frame c.args.tree.now c.in-Offset.operand c.in-Offset.count c.get-in-Offset.result.now c.get-in-Offset-2.result.now c.in-Offset.is c.get-in-Offset.ensures c.get-in-Offset-2.ensures

pub returns-in-OffsetFrom : goal.returns-in-OffsetFrom
returns-in-OffsetFrom c = λ frame. offset_from_runs frame c.args.tree.now c.in-OffsetFrom.operand c.in-OffsetFrom.other c.get-in-OffsetFrom.result.now c.get-in-OffsetFrom-2.result.now c.in-OffsetFrom.is c.get-in-OffsetFrom.ensures c.get-in-OffsetFrom-2.ensures

pub returns-in-Binary : goal.returns-in-Binary
returns-in-Binary c = λ frame. binary_runs frame c.args.tree.now c.in-Binary.left c.in-Binary.right c.get-in-Binary.result.now c.get-in-Binary-2.result.now c.in-Binary.operator c.in-Binary.is c.get-in-Binary.ensures c.get-in-Binary-2.ensures

pub returns-in-And : goal.returns-in-And
returns-in-And c = λ frame. and_runs frame c.args.tree.now c.in-And.left c.in-And.right c.get-in-And.result.now c.get-in-And-2.result.now c.in-And.is c.get-in-And.ensures c.get-in-And-2.ensures

pub returns-in-Or : goal.returns-in-Or
returns-in-Or c = λ frame. or_runs frame c.args.tree.now c.in-Or.left c.in-Or.right c.get-in-Or.result.now c.get-in-Or-2.result.now c.in-Or.is c.get-in-Or.ensures c.get-in-Or-2.ensures

pub returns-in-Choose : goal.returns-in-Choose
returns-in-Choose c = λ frame. choose_runs frame c.args.tree.now c.in-Choose.condition c.in-Choose.if_true c.in-Choose.if_false c.get-in-Choose.result.now c.get-in-Choose-2.result.now c.get-in-Choose-3.result.now c.in-Choose.is c.get-in-Choose.ensures c.get-in-Choose-2.ensures c.get-in-Choose-3.ensures
