use Rattle.std.proofs.Common.{rules, refl, ◌≡◌, ◌++◌, ◌∷◌, [], to_z, of_z, w64}
use Rattle.cx_outside.proofs.Given.{answer_comes, answer_refused, answer_fails, was_taken}
use Rattle.cx_outside.proofs.Wanting.{answer_unnoted, answer_wanting}
use Rattle.cx_outside.proofs.outside.tell.Goals as goal

pub returns-in-Err-Failed-clause-steps : goal.returns-in-Err-Failed-clause-steps
returns-in-Err-Failed-clause-steps g c = λ blocks limit.
    let e = rw c.in-Err-Failed.field-0-is at c.in-Err-Failed.ensures in
    answer_fails _ blocks limit _ _ _ e.kept e.takes e.later (e.failed refl) e.declined

pub returns-in-Err-Refused-clause-steps : goal.returns-in-Err-Refused-clause-steps
returns-in-Err-Refused-clause-steps g c = λ blocks limit.
    let e = rw c.in-Err-Refused.field-0-is at c.in-Err-Refused.ensures in
    answer_refused _ blocks limit _ _ _ _ c.requires e.kept e.takes e.later (e.refused refl)

pub returns-in-Ok-note-clause-steps : goal.returns-in-Ok-note-clause-steps
returns-in-Ok-note-clause-steps g c = λ blocks limit.
    let same : to_z w64 (of_z w64 c.in-Ok.answer) ≡ c.in-Ok.answer = search rules in
    let e = c.in-Ok.ensures in
    let noted : c.note.new.self ≡ record c.args.kept.now { trail = c.args.kept.now.trail ++ c.in-Ok.answer ∷ [] } = search rules in
    rw same (answer_comes c.args.kept.now blocks limit (g.H.Host.state c.args.host.now) (g.H.Host.state c.answer.new.self) c.args.call.now c.in-Ok.answer _ noted e.made e.given e.used e.takes e.later (was_taken _ c.in-Ok.answer (g.H.Host.state c.args.host.now) c.args.call.now refl e.declined))

pub returns-in-Err-Memory-clause-wants : goal.returns-in-Err-Memory-clause-wants
returns-in-Err-Memory-clause-wants g c = λ blocks limit.
    let e = rw c.in-Err-Memory.field-0-is at c.in-Err-Memory.ensures in
    answer_wanting c.args.call.now _ _ e.kept e.takes

pub returns-in-Err-clause-wants : goal.returns-in-Err-clause-wants
returns-in-Err-clause-wants g c = λ blocks limit.
    let e = c.in-Ok.ensures in
    answer_unnoted c.args.call.now c.in-Ok.answer _ _ e.made e.given e.used e.takes (was_taken _ c.in-Ok.answer (g.H.Host.state c.args.host.now) c.args.call.now refl e.declined)
