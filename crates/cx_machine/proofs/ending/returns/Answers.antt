use Rattle.std.proofs.Common.{◌∙◌, refl, subst}
use Rattle.cx_mean.specs.Operands.{CValue}
use Rattle.cx_work.specs.Views.{view_finished}
use Rattle.cx_machine.specs.declared.machine.Machine.{Machine}
use Rattle.cx_machine.specs.Returns.{Resumes}
use Rattle.cx_machine.proofs.Landing.{returns_back}
use Rattle.cx_machine.proofs.ending.returns.Goals as goal

pub returns-in-Ok-clause-steps : goal.returns-in-Ok-clause-steps
returns-in-Ok-clause-steps g c =
    let mid : Machine = record c.args.machine.now { site = c.end_site.new.site; callers = c.pop.new.self } in
    let before = g.S.Store.memory c.args.store.now in
    let killed = g.S.Store.memory c.end_site.new.store in
    let after = g.S.Store.memory c.goes_back.new.store in
    returns_back c.args.machine.now mid c.goes_back.new.machine c.in-Some.caller (view_finished c.args.value) before killed after
    (g.S.Store.limit c.args.store.now) (g.S.Store.limit c.goes_back.new.store) (c.goes_back.ensures.limit ∙ c.end_site.ensures.limit) c.in-Some.ensures refl refl c.end_site.ensures.blocks
    (subst (λ (value : CValue). Resumes mid c.goes_back.new.machine c.in-Some.caller value killed after) c.given_back-value.ensures c.in-Ok.ensures.back)
