use Rattle.std.proofs.Common.{rules, refl, ◌≡◌, ◌++◌, ◌∷◌, [], to_z, of_z, w64}
use Rattle.rs_machine.proofs.Answers.{tells_gives, tells_refused, tells_failed, tells_unnoted, tells_wants, was_taken}
use Rattle.rs_machine.proofs.outside.tell.Goals as goal

pub returns-in-Err-Failed : goal.returns-in-Err-Failed
returns-in-Err-Failed g c = λ blocks limit.
    let e = rw c.in-Err-Failed.field-0-is at c.in-Err-Failed.ensures in
    tells_failed _ blocks limit _ _ _ e.kept e.takes e.later (e.failed refl) e.declined

pub returns-in-Err-Refused : goal.returns-in-Err-Refused
returns-in-Err-Refused g c = λ blocks limit.
    let e = rw c.in-Err-Refused.field-0-is at c.in-Err-Refused.ensures in
    tells_refused _ blocks limit _ _ _ _ c.requires e.kept e.takes e.later (e.refused refl)

pub returns-in-Ok-note : goal.returns-in-Ok-note
returns-in-Ok-note g c = λ blocks limit.
    let same : to_z w64 (of_z w64 c.in-Ok.answer) ≡ c.in-Ok.answer = search rules in
    let e = c.in-Ok.ensures in
    let noted : c.note.new.self ≡ record c.args.machine.now { trail = c.args.machine.now.trail ++ c.in-Ok.answer ∷ [] } = search rules in
    rw same (tells_gives c.args.machine.now blocks limit (g.H.Host.state c.args.host.now) (g.H.Host.state c.answer.new.self) c.args.call.now c.in-Ok.answer _ noted e.made e.given e.used e.takes e.later (was_taken _ c.in-Ok.answer (g.H.Host.state c.args.host.now) c.args.call.now refl e.declined))

pub returns-in-Err-Memory : goal.returns-in-Err-Memory
returns-in-Err-Memory g c = λ blocks limit.
    let e = rw c.in-Err-Memory.field-0-is at c.in-Err-Memory.ensures in
    tells_wants c.args.machine.now blocks limit (g.H.Host.state c.args.host.now) (g.H.Host.state c.answer.new.self) c.args.call.now _ e.kept e.takes

pub returns-in-Err : goal.returns-in-Err
returns-in-Err g c = λ blocks limit.
    let e = c.in-Ok.ensures in
    tells_unnoted c.args.machine.now blocks limit (g.H.Host.state c.args.host.now) (g.H.Host.state c.answer.new.self) c.args.call.now c.in-Ok.answer _ e.made e.given e.used e.takes
    (was_taken _ c.in-Ok.answer (g.H.Host.state c.args.host.now) c.args.call.now refl e.declined)
