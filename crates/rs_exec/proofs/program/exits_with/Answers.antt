use Rattle.std.proofs.Common.{rules, ◌≡◌, to_z, of_z}
use Rattle.std.specs.Int.{w128}
use Rattle.mem_bytes.specs.declared.value.Value.TheVariants.{Whole, Null, Object, Code}
use Rattle.rs_mean.specs.declared.cause.Cause.TheVariants.{WrongCall}
use Rattle.rs_machine.specs.Does.{stopped_by}
use Rattle.rs_machine.proofs.Rules.{fails_does}
use Rattle.rs_exec.proofs.Started.{exits_as, exits_by}
use Rattle.rs_exec.proofs.program.exits_with.Goals as goal

pub returns-in-Whole : goal.returns-in-Whole
returns-in-Whole c =
    let same : to_z w128 (of_z w128 c.in-Whole.status) ≡ c.in-Whole.status = search rules in
    exits_as c.args.value (Whole c.in-Whole.status) c.in-Whole.is (exits_by c.in-Whole.status (stopped_by c.ended.result) (rw same at c.ended.ensures))

pub returns-in-Null : goal.returns-in-Null
returns-in-Null c = exits_as c.args.value Null c.in-Null.is (λ at. fails_does WrongCall at)

pub returns-in-Object : goal.returns-in-Object
returns-in-Object c = exits_as c.args.value (Object c.in-Object.field-0) c.in-Object.is (λ at. fails_does WrongCall at)

pub returns-in-Code : goal.returns-in-Code
returns-in-Code c = exits_as c.args.value (Code c.in-Code.field-0) c.in-Code.is (λ at. fails_does WrongCall at)
