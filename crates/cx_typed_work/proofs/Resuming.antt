-- What a call gives for which a tree waits takes its place, and keeps the tree typed (ISO C99, 6.5.2.2 and 6.9.1p12).
use Rattle.std.proofs.Common.{◌≡◌, inl, inr, ℕ, true, true≢false, Option, Some, None, refl, sym, ap, subst, ◌∙◌}
use Rattle.cx_core.specs.Trees.{CTy, CExpr, expr, whole, null, object, code, load, deref, member, address, convert, unary, binary, and, or, cond, assign, assign_by, step, call, call_by, comma, literal, CExprs, no_exprs, more_exprs, CPut, put, CPuts, no_puts, more_puts, type_of}
use Rattle.cx_core.specs.Typing.{CHome, IsTyped, ArePuts}
use Rattle.cx_mean.specs.Marks.{Marks}
use Rattle.cx_mean.specs.Operands.{CValue}
use Rattle.cx_mean.specs.Work.{CWork, finished, needs, chooses, tests, carries, updates, fills, waits, CWorks, no_works, more_works, carried, resumed, all_resumed}
use Rattle.cx_typed_work.proofs.Choices.{IsPartOf, part_carried, first_part_of, second_part_of}
use Rattle.cx_typed_work.proofs.Induction.{EachTyped, OperandsTyped, operands_typed}
use Rattle.cx_typed_work.proofs.Puts.{put_typed}
use Rattle.cx_typed_work.proofs.Trees.{comma_part}
use Rattle.cx_typed_work.specs.Calls.{IsWaitingFor, AreWaitingFor, IsReturned}
use Rattle.cx_typed_work.specs.Operands.{IsGivenBy}
use Rattle.cx_typed_work.specs.Steps.{CallsResumeTyped}
use Rattle.cx_typed_work.specs.Works.{operands_of, first_part, second_part, chosen_parts, is_call, IfOperands, IfPart, AnyPart, IsFilling, value_of_put, IsWorkOf, AreWorksOf, IsTypedNode}

-- ---- the parts of a typed node are typed

abbrev PartTyped : CHome → Option CExpr → Type 0
PartTyped home None = Unit {0}
PartTyped home (Some part) = IsTypedNode home part

first_typed : (home : CHome) (node : CExpr) → IsTypedNode home node → PartTyped home (first_part node)
first_typed home (expr type place (whole value)) is = tt
first_typed home (expr type place null) is = tt
first_typed home (expr type place (object number)) is = tt
first_typed home (expr type place (code number)) is = tt
first_typed home (expr type place (load from)) is = tt
first_typed home (expr type place (deref from)) is = tt
first_typed home (expr type place (member of spot)) is = tt
first_typed home (expr type place (address of)) is = tt
first_typed home (expr type place (convert value)) is = tt
first_typed home (expr type place (unary op value)) is = tt
first_typed home (expr type place (binary op left right)) is = tt
first_typed home (expr type place (and left right)) (inl is) = inl is.1.0
first_typed home (expr type place (and left right)) (inr is) = absurd is.2
first_typed home (expr type place (or left right)) (inl is) = inl is.1.0
first_typed home (expr type place (or left right)) (inr is) = absurd is.2
first_typed home (expr type place (cond test one other)) (inl is) = inl is.1.0
first_typed home (expr type place (cond test one other)) (inr is) = absurd is.2
first_typed home (expr type place (assign target value)) is = tt
first_typed home (expr type place (assign_by op computes target value)) is = tt
first_typed home (expr type place (step up post on)) is = tt
first_typed home (expr type place (call callee args)) is = tt
first_typed home (expr type place (call_by callee args)) is = tt
first_typed home (expr type place (comma one other)) (inl is) = inl is.1.0
first_typed home (expr type place (comma one other)) (inr is) = absurd is.2
first_typed home (expr type place (literal number puts)) is = tt

second_typed : (home : CHome) (node : CExpr) → IsTypedNode home node → PartTyped home (second_part node)
second_typed home (expr type place (whole value)) is = tt
second_typed home (expr type place null) is = tt
second_typed home (expr type place (object number)) is = tt
second_typed home (expr type place (code number)) is = tt
second_typed home (expr type place (load from)) is = tt
second_typed home (expr type place (deref from)) is = tt
second_typed home (expr type place (member of spot)) is = tt
second_typed home (expr type place (address of)) is = tt
second_typed home (expr type place (convert value)) is = tt
second_typed home (expr type place (unary op value)) is = tt
second_typed home (expr type place (binary op left right)) is = tt
second_typed home (expr type place (and left right)) (inl is) = inl is.1.1
second_typed home (expr type place (and left right)) (inr is) = absurd is.2
second_typed home (expr type place (or left right)) (inl is) = inl is.1.1
second_typed home (expr type place (or left right)) (inr is) = absurd is.2
second_typed home (expr type place (cond test one other)) is = tt
second_typed home (expr type place (assign target value)) is = tt
second_typed home (expr type place (assign_by op computes target value)) is = tt
second_typed home (expr type place (step up post on)) is = tt
second_typed home (expr type place (call callee args)) is = tt
second_typed home (expr type place (call_by callee args)) is = tt
second_typed home (expr type place (comma one other)) is = tt
second_typed home (expr type place (literal number puts)) is = tt

-- ---- the call itself

-- what a call gives is what its node gives
call_given : (home : CHome) (node : CExpr) (value : CValue) → IsTypedNode home node → is_call node ≡ true → IsReturned home.program (type_of node) value → IsGivenBy home node value
call_given home (expr type place (whole held)) value is call_is returned = absurd (true≢false (sym call_is))
call_given home (expr type place null) value is call_is returned = absurd (true≢false (sym call_is))
call_given home (expr type place (object number)) value is call_is returned = absurd (true≢false (sym call_is))
call_given home (expr type place (code number)) value is call_is returned = absurd (true≢false (sym call_is))
call_given home (expr type place (load from)) value is call_is returned = absurd (true≢false (sym call_is))
call_given home (expr type place (deref from)) value is call_is returned = absurd (true≢false (sym call_is))
call_given home (expr type place (member of spot)) value is call_is returned = absurd (true≢false (sym call_is))
call_given home (expr type place (address of)) value is call_is returned = absurd (true≢false (sym call_is))
call_given home (expr type place (convert held)) value is call_is returned = absurd (true≢false (sym call_is))
call_given home (expr type place (unary op held)) value is call_is returned = absurd (true≢false (sym call_is))
call_given home (expr type place (binary op left right)) value is call_is returned = absurd (true≢false (sym call_is))
call_given home (expr type place (and left right)) value is call_is returned = absurd (true≢false (sym call_is))
call_given home (expr type place (or left right)) value is call_is returned = absurd (true≢false (sym call_is))
call_given home (expr type place (cond test one other)) value is call_is returned = absurd (true≢false (sym call_is))
call_given home (expr type place (assign target held)) value is call_is returned = absurd (true≢false (sym call_is))
call_given home (expr type place (assign_by op computes target held)) value is call_is returned = absurd (true≢false (sym call_is))
call_given home (expr type place (step up post on)) value is call_is returned = absurd (true≢false (sym call_is))
call_given home (expr type place (call callee args)) value (inl is) call_is (inl good) = inr (is, inl good)
call_given home (expr type place (call callee args)) value (inl is) call_is (inr lacks) = inr (is, inr (refl, lacks))
call_given home (expr type place (call callee args)) value (inr is) call_is returned = absurd is.2
call_given home (expr type place (call_by callee args)) value (inl is) call_is (inl good) = inr (is, inl good)
call_given home (expr type place (call_by callee args)) value (inl is) call_is (inr lacks) = inr (is, inr (refl, lacks))
call_given home (expr type place (call_by callee args)) value (inr is) call_is returned = absurd is.2
call_given home (expr type place (comma one other)) value is call_is returned = absurd (true≢false (sym call_is))
call_given home (expr type place (literal number puts)) value is call_is returned = absurd (true≢false (sym call_is))

-- ---- parts that go on

-- what one tree is of each part, another is, too
abbrev EachPart : CHome → CWork → CWork → Type 0
EachPart home before after = (part : CExpr) → IsTypedNode home part → IsWorkOf home part before → IsWorkOf home part after

part_goes_on : (home : CHome) (found : Option CExpr) (before after : CWork) → PartTyped home found → IfPart found (λ part. IsWorkOf home part before) → EachPart home before after → IfPart found (λ part. IsWorkOf home part after)
part_goes_on home None before after typed is each = absurd is
part_goes_on home (Some part) before after typed is each = each part typed is

operands_go_on : (home : CHome) (found : Option CExprs) (before after : CWorks) → OperandsTyped home found → IfOperands found (λ parts. AreWorksOf home parts before)
    → ((parts : CExprs) → EachTyped home parts → AreWorksOf home parts before → AreWorksOf home parts after) → IfOperands found (λ parts. AreWorksOf home parts after)
operands_go_on home None before after typed are each = absurd are
operands_go_on home (Some parts) before after typed are each = each parts typed are

carried_by : (home : CHome) (node part : CExpr) (marks : Marks) (before after : CWork) → IsTyped home node → IsPartOf home node part → IsWorkOf home part before → EachPart home before after → IsWorkOf home node (carried node marks after)
carried_by home node part marks before after is one work each = part_carried home node part marks after is one (each part (inl one.part_typed) work)

carried_goes_on : (home : CHome) (node : CExpr) (marks : Marks) (before after : CWork) → IsTypedNode home node → AnyPart (chosen_parts node) (λ part. IsWorkOf home part before) → EachPart home before after
    → IsWorkOf home node (carried node marks after)
carried_goes_on home (expr type place (whole value)) marks before after is work each = absurd work
carried_goes_on home (expr type place null) marks before after is work each = absurd work
carried_goes_on home (expr type place (object number)) marks before after is work each = absurd work
carried_goes_on home (expr type place (code number)) marks before after is work each = absurd work
carried_goes_on home (expr type place (load from)) marks before after is work each = absurd work
carried_goes_on home (expr type place (deref from)) marks before after is work each = absurd work
carried_goes_on home (expr type place (member of spot)) marks before after is work each = absurd work
carried_goes_on home (expr type place (address of)) marks before after is work each = absurd work
carried_goes_on home (expr type place (convert value)) marks before after is work each = absurd work
carried_goes_on home (expr type place (unary op value)) marks before after is work each = absurd work
carried_goes_on home (expr type place (binary op left right)) marks before after is work each = absurd work
carried_goes_on home (expr type place (and left right)) marks before after is work each = absurd work
carried_goes_on home (expr type place (or left right)) marks before after is work each = absurd work
carried_goes_on home (expr type place (cond test one other)) marks before after (inl is) (inl work) each = carried_by home (expr type place (cond test one other)) one marks before after is (first_part_of home type place test one other is) work each
carried_goes_on home (expr type place (cond test one other)) marks before after (inl is) (inr (inl work)) each = carried_by home (expr type place (cond test one other)) other marks before after is (second_part_of home type place test one other is) work each
carried_goes_on home (expr type place (cond test one other)) marks before after (inl is) (inr (inr work)) each = absurd work
carried_goes_on home (expr type place (cond test one other)) marks before after (inr is) work each = absurd is.2
carried_goes_on home (expr type place (assign target value)) marks before after is work each = absurd work
carried_goes_on home (expr type place (assign_by op computes target value)) marks before after is work each = absurd work
carried_goes_on home (expr type place (step up post on)) marks before after is work each = absurd work
carried_goes_on home (expr type place (call callee args)) marks before after is work each = absurd work
carried_goes_on home (expr type place (call_by callee args)) marks before after is work each = absurd work
carried_goes_on home (expr type place (comma one other)) marks before after (inl is) (inl work) each = carried_by home (expr type place (comma one other)) other marks before after is (comma_part home type place one other is) work each
carried_goes_on home (expr type place (comma one other)) marks before after (inl is) (inr work) each = absurd work
carried_goes_on home (expr type place (comma one other)) marks before after (inr is) work each = absurd is.2
carried_goes_on home (expr type place (literal number puts)) marks before after is work each = absurd work

-- ---- a tree

mutual
  resumed_left : (home : CHome) (type : CTy) (value : CValue) → IsReturned home.program type value → (work : CWork) → IsWaitingFor type work → EachPart home work (resumed value work)
  resumed_left home type value returned (finished operand) waiting = λ node typed is. is
  resumed_left home type value returned (needs own operands) waiting = λ node typed is.
      (is.0, operands_go_on home (operands_of node) operands (all_resumed value operands) (operands_typed home node typed) is.1 (all_resumed_left home type value returned operands waiting))
  resumed_left home type value returned (chooses own first) waiting = λ node typed is.
      (is.0, part_goes_on home (first_part node) first (resumed value first) (first_typed home node typed) is.1 (resumed_left home type value returned first waiting))
  resumed_left home type value returned (tests own marks second) waiting = λ node typed is.
      (is.0, part_goes_on home (second_part node) second (resumed value second) (second_typed home node typed) is.1 (resumed_left home type value returned second waiting))
  resumed_left home type value returned (carries own marks chosen) waiting = λ node typed is.
      subst (λ n. IsWorkOf home node (carried n marks (resumed value chosen))) (sym is.0)
      (carried_goes_on home node marks chosen (resumed value chosen) typed is.2 (resumed_left home type value returned chosen waiting))
  resumed_left home type value returned (updates own update stage marks) waiting = λ node typed is. is
  resumed_left home type value returned (fills own marks one others held) waiting = λ node typed is.
      (is.0, is.1, resumed_left home type value returned held waiting (value_of_put one) (put_typed home node one others typed is.1) is.2)
  resumed_left home type value returned (waits own marks) waiting = λ node typed is. record {
    type_is = ap type_of is.0;
    given = call_given home node value typed is.1 (subst (λ t. IsReturned home.program t value) (sym waiting ∙ ap type_of is.0) returned);
  }

  all_resumed_left : (home : CHome) (type : CTy) (value : CValue) → IsReturned home.program type value → (works : CWorks) → AreWaitingFor type works
      → (parts : CExprs) → EachTyped home parts → AreWorksOf home parts works → AreWorksOf home parts (all_resumed value works)
  all_resumed_left home type value returned no_works waiting no_exprs typed are = tt
  all_resumed_left home type value returned no_works waiting (more_exprs part parts) typed are = absurd are
  all_resumed_left home type value returned (more_works first others) waiting no_exprs typed are = absurd are
  all_resumed_left home type value returned (more_works first others) waiting (more_exprs part parts) typed are =
      (resumed_left home type value returned first waiting.0 part typed.0 are.0, all_resumed_left home type value returned others waiting.1 parts typed.1 are.1)

pub calls_resume_typed : CallsResumeTyped
calls_resume_typed home node type work value is waiting returned = record {
  typed = is.typed;
  left = resumed_left home type value returned work waiting node is.typed is.left;
}
