use Rattle.std.proofs.Common.{◌≡◌, ap, subst, ◌∙◌, map, IfOk}
use Rattle.cx_core.specs.Views.{view_expr, view_put, view_type}
use Rattle.cx_renumber.specs.Numbers.{expr_there, put_there, type_there}
use Rattle.cx_renumber.specs.Views.{retyped, view_numbers}
use Rattle.cx_renumber.proofs.Forms.{null_is, object_is, code_is, load_is, deref_is, member_is, address_is, convert_is, unary_is, binary_is, and_is, or_is, cond_is, assign_is, assign_by_is, step_is, call_is, call_by_is, comma_is, literal_is}
use Rattle.cx_renumber.proofs.Opened.{null_view}
use Rattle.cx_renumber.proofs.expressions.+there.Goals as goal

pub expr_there-returns-in-Null : goal.expr_there-returns-in-Null
expr_there-returns-in-Null n c =
    subst (λ tree. IfOk c.made.result (λ made. view_expr made ≡ tree)) (ap (retyped (type_there (view_numbers c.args.numbers.now).before (view_type c.args.one.now.ty))) (null_view c.args.one.now.ty c.args.one.now.place) ∙ null_is (view_numbers c.args.numbers.now) c.args.one.now c.in-Null.is) c.made.ensures

pub expr_there-returns-in-Object : goal.expr_there-returns-in-Object
expr_there-returns-in-Object n c =
    subst (λ tree. IfOk c.named.result (λ made. view_expr made ≡ tree)) (object_is (view_numbers c.args.numbers.now) c.args.one.now c.in-Object.number c.in-Object.is) c.named.ensures

pub expr_there-returns-in-Code : goal.expr_there-returns-in-Code
expr_there-returns-in-Code n c =
    subst (λ tree. IfOk c.pointed.result (λ made. view_expr made ≡ tree)) (code_is (view_numbers c.args.numbers.now) c.args.one.now c.in-Code.number c.in-Code.is) c.pointed.ensures

pub expr_there-returns-in-Load : goal.expr_there-returns-in-Load
expr_there-returns-in-Load n c =
    subst (λ tree. IfOk c.load_there.result (λ made. view_expr made ≡ tree)) (load_is (view_numbers c.args.numbers.now) c.args.one.now c.in-Load.of c.in-Load.is) c.load_there.ensures

pub expr_there-returns-in-Deref : goal.expr_there-returns-in-Deref
expr_there-returns-in-Deref n c =
    subst (λ tree. IfOk c.deref_there.result (λ made. view_expr made ≡ tree)) (deref_is (view_numbers c.args.numbers.now) c.args.one.now c.in-Deref.of c.in-Deref.is) c.deref_there.ensures

pub expr_there-returns-in-Member : goal.expr_there-returns-in-Member
expr_there-returns-in-Member n c =
    subst (λ tree. IfOk c.member_there.result (λ made. view_expr made ≡ tree)) (member_is (view_numbers c.args.numbers.now) c.args.one.now c.in-Member.of c.in-Member.spot c.in-Member.is) c.member_there.ensures

pub expr_there-returns-in-Address : goal.expr_there-returns-in-Address
expr_there-returns-in-Address n c =
    subst (λ tree. IfOk c.address_there.result (λ made. view_expr made ≡ tree)) (address_is (view_numbers c.args.numbers.now) c.args.one.now c.in-Address.of c.in-Address.is) c.address_there.ensures

pub expr_there-returns-in-Convert : goal.expr_there-returns-in-Convert
expr_there-returns-in-Convert n c =
    subst (λ tree. IfOk c.convert_there.result (λ made. view_expr made ≡ tree)) (convert_is (view_numbers c.args.numbers.now) c.args.one.now c.in-Convert.of c.in-Convert.is) c.convert_there.ensures

pub expr_there-returns-in-Unary : goal.expr_there-returns-in-Unary
expr_there-returns-in-Unary n c =
    subst (λ tree. IfOk c.unary_there.result (λ made. view_expr made ≡ tree)) (unary_is (view_numbers c.args.numbers.now) c.args.one.now c.in-Unary.op c.in-Unary.of c.in-Unary.is) c.unary_there.ensures

pub expr_there-returns-in-Binary : goal.expr_there-returns-in-Binary
expr_there-returns-in-Binary n c =
    subst (λ tree. IfOk c.binary_there.result (λ made. view_expr made ≡ tree)) (binary_is (view_numbers c.args.numbers.now) c.args.one.now c.in-Binary.op c.in-Binary.left c.in-Binary.right c.in-Binary.is) c.binary_there.ensures

pub expr_there-returns-in-And : goal.expr_there-returns-in-And
expr_there-returns-in-And n c =
    subst (λ tree. IfOk c.and_there.result (λ made. view_expr made ≡ tree)) (and_is (view_numbers c.args.numbers.now) c.args.one.now c.in-And.left c.in-And.right c.in-And.is) c.and_there.ensures

pub expr_there-returns-in-Or : goal.expr_there-returns-in-Or
expr_there-returns-in-Or n c =
    subst (λ tree. IfOk c.or_there.result (λ made. view_expr made ≡ tree)) (or_is (view_numbers c.args.numbers.now) c.args.one.now c.in-Or.left c.in-Or.right c.in-Or.is) c.or_there.ensures

pub expr_there-returns-in-Cond : goal.expr_there-returns-in-Cond
expr_there-returns-in-Cond n c =
    subst (λ tree. IfOk c.cond_there.result (λ made. view_expr made ≡ tree)) (cond_is (view_numbers c.args.numbers.now) c.args.one.now c.in-Cond.test c.in-Cond.first c.in-Cond.second c.in-Cond.is) c.cond_there.ensures

pub expr_there-returns-in-Assign : goal.expr_there-returns-in-Assign
expr_there-returns-in-Assign n c =
    subst (λ tree. IfOk c.assign_there.result (λ made. view_expr made ≡ tree)) (assign_is (view_numbers c.args.numbers.now) c.args.one.now c.in-Assign.target c.in-Assign.value c.in-Assign.is) c.assign_there.ensures

pub expr_there-returns-in-AssignBy : goal.expr_there-returns-in-AssignBy
expr_there-returns-in-AssignBy n c =
    subst (λ tree. IfOk c.assign_by_there.result (λ made. view_expr made ≡ tree)) (assign_by_is (view_numbers c.args.numbers.now) c.args.one.now c.in-AssignBy.op c.in-AssignBy.computes c.in-AssignBy.target c.in-AssignBy.value c.in-AssignBy.is) c.assign_by_there.ensures

pub expr_there-returns-in-Step : goal.expr_there-returns-in-Step
expr_there-returns-in-Step n c =
    subst (λ tree. IfOk c.step_there.result (λ made. view_expr made ≡ tree)) (step_is (view_numbers c.args.numbers.now) c.args.one.now c.in-Step.up c.in-Step.post c.in-Step.on c.in-Step.is) c.step_there.ensures

pub expr_there-returns-in-Call : goal.expr_there-returns-in-Call
expr_there-returns-in-Call n c =
    subst (λ tree. IfOk c.call_there.result (λ made. view_expr made ≡ tree)) (call_is (view_numbers c.args.numbers.now) c.args.one.now c.in-Call.callee c.in-Call.args c.in-Call.is) c.call_there.ensures

pub expr_there-returns-in-CallBy : goal.expr_there-returns-in-CallBy
expr_there-returns-in-CallBy n c =
    subst (λ tree. IfOk c.call_by_there.result (λ made. view_expr made ≡ tree)) (call_by_is (view_numbers c.args.numbers.now) c.args.one.now c.in-CallBy.callee c.in-CallBy.args c.in-CallBy.is) c.call_by_there.ensures

pub expr_there-returns-in-Comma : goal.expr_there-returns-in-Comma
expr_there-returns-in-Comma n c =
    subst (λ tree. IfOk c.comma_there.result (λ made. view_expr made ≡ tree)) (comma_is (view_numbers c.args.numbers.now) c.args.one.now c.in-Comma.left c.in-Comma.right c.in-Comma.is) c.comma_there.ensures

pub expr_there-returns-in-Literal : goal.expr_there-returns-in-Literal
expr_there-returns-in-Literal n c =
    subst (λ tree. IfOk c.literal_there.result (λ made. view_expr made ≡ tree)) (literal_is (view_numbers c.args.numbers.now) c.args.one.now c.in-Literal.number c.in-Literal.puts c.in-Literal.is) c.literal_there.ensures

pub expr_there-load_there-requires : goal.expr_there-load_there-requires
expr_there-load_there-requires n c = record {
  of_there = subst (λ part. IfOk c.expr_there.result (λ there. view_expr there ≡ expr_there (view_numbers c.args.numbers.now) (view_expr part))) c.get.ensures c.expr_there.ensures;
}

pub expr_there-deref_there-requires : goal.expr_there-deref_there-requires
expr_there-deref_there-requires n c = record {
  of_there = subst (λ part. IfOk c.expr_there-in-Deref.result (λ there. view_expr there ≡ expr_there (view_numbers c.args.numbers.now) (view_expr part))) c.get-in-Deref.ensures c.expr_there-in-Deref.ensures;
}

pub expr_there-member_there-requires : goal.expr_there-member_there-requires
expr_there-member_there-requires n c = record {
  of_there = subst (λ part. IfOk c.expr_there-in-Member.result (λ there. view_expr there ≡ expr_there (view_numbers c.args.numbers.now) (view_expr part))) c.get-in-Member.ensures c.expr_there-in-Member.ensures;
}

pub expr_there-address_there-requires : goal.expr_there-address_there-requires
expr_there-address_there-requires n c = record {
  of_there = subst (λ part. IfOk c.expr_there-in-Address.result (λ there. view_expr there ≡ expr_there (view_numbers c.args.numbers.now) (view_expr part))) c.get-in-Address.ensures c.expr_there-in-Address.ensures;
}

pub expr_there-convert_there-requires : goal.expr_there-convert_there-requires
expr_there-convert_there-requires n c = record {
  of_there = subst (λ part. IfOk c.expr_there-in-Convert.result (λ there. view_expr there ≡ expr_there (view_numbers c.args.numbers.now) (view_expr part))) c.get-in-Convert.ensures c.expr_there-in-Convert.ensures;
}

pub expr_there-unary_there-requires : goal.expr_there-unary_there-requires
expr_there-unary_there-requires n c = record {
  of_there = subst (λ part. IfOk c.expr_there-in-Unary.result (λ there. view_expr there ≡ expr_there (view_numbers c.args.numbers.now) (view_expr part))) c.get-in-Unary.ensures c.expr_there-in-Unary.ensures;
}

pub expr_there-binary_there-requires : goal.expr_there-binary_there-requires
expr_there-binary_there-requires n c = record {
  left_there = subst (λ part. IfOk c.expr_there-in-Binary.result (λ there. view_expr there ≡ expr_there (view_numbers c.args.numbers.now) (view_expr part))) c.get-in-Binary.ensures c.expr_there-in-Binary.ensures;
  right_there = subst (λ part. IfOk c.expr_there-in-Binary-2.result (λ there. view_expr there ≡ expr_there (view_numbers c.args.numbers.now) (view_expr part))) c.get-in-Binary-2.ensures c.expr_there-in-Binary-2.ensures;
}

pub expr_there-and_there-requires : goal.expr_there-and_there-requires
expr_there-and_there-requires n c = record {
  left_there = subst (λ part. IfOk c.expr_there-in-And.result (λ there. view_expr there ≡ expr_there (view_numbers c.args.numbers.now) (view_expr part))) c.get-in-And.ensures c.expr_there-in-And.ensures;
  right_there = subst (λ part. IfOk c.expr_there-in-And-2.result (λ there. view_expr there ≡ expr_there (view_numbers c.args.numbers.now) (view_expr part))) c.get-in-And-2.ensures c.expr_there-in-And-2.ensures;
}

pub expr_there-or_there-requires : goal.expr_there-or_there-requires
expr_there-or_there-requires n c = record {
  left_there = subst (λ part. IfOk c.expr_there-in-Or.result (λ there. view_expr there ≡ expr_there (view_numbers c.args.numbers.now) (view_expr part))) c.get-in-Or.ensures c.expr_there-in-Or.ensures;
  right_there = subst (λ part. IfOk c.expr_there-in-Or-2.result (λ there. view_expr there ≡ expr_there (view_numbers c.args.numbers.now) (view_expr part))) c.get-in-Or-2.ensures c.expr_there-in-Or-2.ensures;
}

pub expr_there-cond_there-requires : goal.expr_there-cond_there-requires
expr_there-cond_there-requires n c = record {
  test_there = subst (λ part. IfOk c.expr_there-in-Cond.result (λ there. view_expr there ≡ expr_there (view_numbers c.args.numbers.now) (view_expr part))) c.get-in-Cond.ensures c.expr_there-in-Cond.ensures;
  first_there = subst (λ part. IfOk c.expr_there-in-Cond-2.result (λ there. view_expr there ≡ expr_there (view_numbers c.args.numbers.now) (view_expr part))) c.get-in-Cond-2.ensures c.expr_there-in-Cond-2.ensures;
  second_there = subst (λ part. IfOk c.expr_there-in-Cond-3.result (λ there. view_expr there ≡ expr_there (view_numbers c.args.numbers.now) (view_expr part))) c.get-in-Cond-3.ensures c.expr_there-in-Cond-3.ensures;
}

pub expr_there-assign_there-requires : goal.expr_there-assign_there-requires
expr_there-assign_there-requires n c = record {
  target_there = subst (λ part. IfOk c.expr_there-in-Assign.result (λ there. view_expr there ≡ expr_there (view_numbers c.args.numbers.now) (view_expr part))) c.get-in-Assign.ensures c.expr_there-in-Assign.ensures;
  value_there = subst (λ part. IfOk c.expr_there-in-Assign-2.result (λ there. view_expr there ≡ expr_there (view_numbers c.args.numbers.now) (view_expr part))) c.get-in-Assign-2.ensures c.expr_there-in-Assign-2.ensures;
}

pub expr_there-assign_by_there-requires : goal.expr_there-assign_by_there-requires
expr_there-assign_by_there-requires n c = record {
  target_there = subst (λ part. IfOk c.expr_there-in-AssignBy.result (λ there. view_expr there ≡ expr_there (view_numbers c.args.numbers.now) (view_expr part))) c.get-in-AssignBy.ensures c.expr_there-in-AssignBy.ensures;
  value_there = subst (λ part. IfOk c.expr_there-in-AssignBy-2.result (λ there. view_expr there ≡ expr_there (view_numbers c.args.numbers.now) (view_expr part))) c.get-in-AssignBy-2.ensures c.expr_there-in-AssignBy-2.ensures;
}

pub expr_there-step_there-requires : goal.expr_there-step_there-requires
expr_there-step_there-requires n c = record {
  on_there = subst (λ part. IfOk c.expr_there-in-Step.result (λ there. view_expr there ≡ expr_there (view_numbers c.args.numbers.now) (view_expr part))) c.get-in-Step.ensures c.expr_there-in-Step.ensures;
}

pub expr_there-call_there-requires : goal.expr_there-call_there-requires
expr_there-call_there-requires n c = record {
  args_there = subst (λ part. IfOk c.exprs_there.result (λ there. map view_expr there ≡ map (expr_there (view_numbers c.args.numbers.now)) (map view_expr part))) c.as_slice.ensures c.exprs_there.ensures;
}

pub expr_there-call_by_there-requires : goal.expr_there-call_by_there-requires
expr_there-call_by_there-requires n c = record {
  callee_there = subst (λ part. IfOk c.expr_there-in-CallBy.result (λ there. view_expr there ≡ expr_there (view_numbers c.args.numbers.now) (view_expr part))) c.get-in-CallBy.ensures c.expr_there-in-CallBy.ensures;
  args_there = subst (λ part. IfOk c.exprs_there-in-CallBy.result (λ there. map view_expr there ≡ map (expr_there (view_numbers c.args.numbers.now)) (map view_expr part))) c.as_slice-in-CallBy.ensures c.exprs_there-in-CallBy.ensures;
}

pub expr_there-comma_there-requires : goal.expr_there-comma_there-requires
expr_there-comma_there-requires n c = record {
  left_there = subst (λ part. IfOk c.expr_there-in-Comma.result (λ there. view_expr there ≡ expr_there (view_numbers c.args.numbers.now) (view_expr part))) c.get-in-Comma.ensures c.expr_there-in-Comma.ensures;
  right_there = subst (λ part. IfOk c.expr_there-in-Comma-2.result (λ there. view_expr there ≡ expr_there (view_numbers c.args.numbers.now) (view_expr part))) c.get-in-Comma-2.ensures c.expr_there-in-Comma-2.ensures;
}

pub expr_there-literal_there-requires : goal.expr_there-literal_there-requires
expr_there-literal_there-requires n c = record {
  puts_there = subst (λ part. IfOk c.puts_there.result (λ there. map view_put there ≡ map (put_there (view_numbers c.args.numbers.now)) (map view_put part))) c.as_slice-in-Literal.ensures c.puts_there.ensures;
}
