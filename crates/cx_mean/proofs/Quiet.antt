-- An expression of which no step was taken waits for no call.
use Rattle.std.proofs.Common.{◌≡◌, refl, ap, ap₂}
use Rattle.cr_base.specs.declared.refusal.Place.{Place}
use Rattle.cx_core.specs.Trees.{CTy, CExpr, expr, CForm, whole, null, object, code, load, deref, member, address, convert, unary, binary, and, or, cond, assign, assign_by, step, call, call_by, comma, literal, CExprs, no_exprs, more_exprs}
use Rattle.cx_mean.specs.Operands.{CValue}
use Rattle.cx_mean.specs.Work.{CWork, needs, chooses, CWorks, no_works, more_works, begun, begun_form, all_begun, resumed, all_resumed}

one_quiet : (value : CValue) (node : CExpr) (work : CWork) → resumed value work ≡ work →
    resumed value (needs node (more_works work no_works)) ≡ needs node (more_works work no_works)
one_quiet value node work quiet = ap (λ (one : CWork). needs node (more_works one no_works)) quiet

two_quiet : (value : CValue) (node : CExpr) (first second : CWork) → resumed value first ≡ first → resumed value second ≡ second →
    resumed value (needs node (more_works first (more_works second no_works))) ≡ needs node (more_works first (more_works second no_works))
two_quiet value node first second one_is other_is =
    ap₂ (λ (one other : CWork). needs node (more_works one (more_works other no_works))) one_is other_is

mutual
  pub begun_quiet : (value : CValue) (e : CExpr) → resumed value (begun e) ≡ begun e
  begun_quiet value (expr type place form) = form_quiet value type place form

  form_quiet : (value : CValue) (type : CTy) (place : Place) (form : CForm) → resumed value (begun_form type place form) ≡ begun_form type place form
  form_quiet value type place (whole number) = refl
  form_quiet value type place null = refl
  form_quiet value type place (object number) = refl
  form_quiet value type place (code number) = refl
  form_quiet value type place (load from) = one_quiet value (expr type place (load from)) (begun from) (begun_quiet value from)
  form_quiet value type place (deref from) = one_quiet value (expr type place (deref from)) (begun from) (begun_quiet value from)
  form_quiet value type place (member of spot) = one_quiet value (expr type place (member of spot)) (begun of) (begun_quiet value of)
  form_quiet value type place (address of) = one_quiet value (expr type place (address of)) (begun of) (begun_quiet value of)
  form_quiet value type place (convert from) = one_quiet value (expr type place (convert from)) (begun from) (begun_quiet value from)
  form_quiet value type place (unary op from) = one_quiet value (expr type place (unary op from)) (begun from) (begun_quiet value from)
  form_quiet value type place (binary op left right) = two_quiet value (expr type place (binary op left right)) (begun left) (begun right) (begun_quiet value left) (begun_quiet value right)
  form_quiet value type place (and left right) = ap (λ (work : CWork). chooses (expr type place (and left right)) work) (begun_quiet value left)
  form_quiet value type place (or left right) = ap (λ (work : CWork). chooses (expr type place (or left right)) work) (begun_quiet value left)
  form_quiet value type place (cond test first second) =
      ap (λ (work : CWork). chooses (expr type place (cond test first second)) work) (begun_quiet value test)
  form_quiet value type place (assign target from) = two_quiet value (expr type place (assign target from)) (begun target) (begun from) (begun_quiet value target) (begun_quiet value from)
  form_quiet value type place (assign_by op computes target from) =
      two_quiet value (expr type place (assign_by op computes target from)) (begun target) (begun from) (begun_quiet value target) (begun_quiet value from)
  form_quiet value type place (step up post on) = one_quiet value (expr type place (step up post on)) (begun on) (begun_quiet value on)
  form_quiet value type place (call number args) =
      ap (λ (works : CWorks). needs (expr type place (call number args)) works) (all_quiet value args)
  form_quiet value type place (call_by callee args) =
      ap₂ (λ (work : CWork) (works : CWorks). needs (expr type place (call_by callee args)) (more_works work works)) (begun_quiet value callee) (all_quiet value args)
  form_quiet value type place (comma first second) =
      ap (λ (work : CWork). chooses (expr type place (comma first second)) work) (begun_quiet value first)
  form_quiet value type place (literal number puts) = refl

  pub all_quiet : (value : CValue) (args : CExprs) → all_resumed value (all_begun args) ≡ all_begun args
  all_quiet value no_exprs = refl
  all_quiet value (more_exprs first others) = ap₂ (λ (work : CWork) (works : CWorks). more_works work works) (begun_quiet value first) (all_quiet value others)
