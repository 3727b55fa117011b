-- Both halves of 'behaves as', from what one run owes the other under all bounds.
use Rattle.std.proofs.Common.{◌≡◌, ℕ, suc, ◌⊎◌, inl, inr, ℤ, refl, sym, ap, subst, arith, ◌∙◌}
use Rattle.cr_runs.specs.Runs.{Ran, came, halted, bad, out, bind}
use Rattle.cr_runs.specs.Owes.{IsBad, Fails, Backed, Rests, Reached, Owes}
use Rattle.straight_core.specs.Trees.{CProgram}
use Rattle.straight_mean.specs.Leftmost.{CRan, c_program, c_shown, c_leftmost}
use Rattle.straight_mean.specs.Operands.{CWorld, CFault}
use Rattle.straight_mean.specs.Run.{CSeen, CProgress, going, ended, undefined, c_run, leftmost}
use Rattle.straight_mean.specs.Run as c
use Rattle.ext_calls.specs.Outside.{Outside, Events}
use Rattle.straight_rust_mean.specs.declared.cause.Cause.{Cause}
use Rattle.straight_rust_mean.specs.Run.{seen_of, rs_run}
use Rattle.straight_rust_mean.specs.World.{World}
use Rattle.straight_rust_tree.specs.Tree.{CrateTree}
use Rattle.straight_whole.specs.Same.{IsUndefined, IsWrong, Agrees, Reaches, IsSafe, GetsAsFar}

-- the events of both worlds
abbrev pub c_events : CWorld → Events
c_events world = world.events

abbrev pub r_events : World → Events
r_events world = world.events

-- a run of C ends the whole program with the status that it comes to
abbrev pub ends_with : ℤ → CWorld → ℕ → Ran CFault CWorld (Unit {0})
ends_with status world left = halted status world

abbrev pub c_ended : CRan ℤ → Ran CFault CWorld (Unit {0})
c_ended ran = bind ran ends_with

-- nothing stands behind the ends of both programs
abbrev pub NoEnd : Unit {0} → CWorld → Unit {0} → World → Type 0
NoEnd a s b t = ⊥

-- ---- what is shown of a run of C

-- what is shown of a run that ends the program
abbrev shown : Ran CFault CWorld (Unit {0}) → CSeen
shown (came value world left) = record { events = world.events; progress = going }
shown (halted status world) = record { events = world.events; progress = ended status }
shown (bad fault world) = record { events = world.events; progress = c.undefined_by fault }
shown (out world) = record { events = world.events; progress = going }

shown_is : (ran : CRan ℤ) → c_shown ran ≡ shown (c_ended ran)
shown_is (came status world left) = refl
shown_is (halted status world) = refl
shown_is (bad fault world) = refl
shown_is (out world) = refl

bad_is_undefined : (ran : Ran CFault CWorld (Unit {0})) → IsBad ran → IsUndefined (shown ran).progress
bad_is_undefined (came value world left) broken = elim broken [ ]
bad_is_undefined (halted status world) broken = elim broken [ ]
bad_is_undefined (bad fault world) broken = tt
bad_is_undefined (out world) broken = elim broken [ ]

-- pieces with their types
abbrev halted_in : ℤ → World → Ran Cause World (Unit {0})
halted_in status world = halted status world

abbrev out_in : World → Ran Cause World (Unit {0})
out_in world = out world

abbrev c_halted : ℤ → CWorld → Ran CFault CWorld (Unit {0})
c_halted status world = halted status world

abbrev c_out : CWorld → Ran CFault CWorld (Unit {0})
c_out world = out world

-- ---- both halves

module _ (program : CProgram) (whole : CrateTree) (answers : Outside) (target : ℕ → Ran Cause World (Unit {0}))
    (same_run : (steps : ℕ) → c_run program leftmost answers steps ≡ c_leftmost program answers steps)
    (same_target : (units : ℕ) → rs_run whole answers units ≡ seen_of (target units))
    (owes : (n m : ℕ) → Owes c_events r_events NoEnd n m (λ k. c_ended (c_program program answers k)) target)
  where
    abbrev source : ℕ → Ran CFault CWorld (Unit {0})
    source k = c_ended (c_program program answers k)

    -- what is seen of the run of C
    seen : (steps : ℕ) → c_run program leftmost answers steps ≡ shown (source steps)
    seen steps = same_run steps ∙ shown_is (c_program program answers steps)

    backed_agrees : (units : ℕ) (r : Ran Cause World (Unit {0})) → Backed c_events r_events NoEnd source units r →
        (¬ IsWrong (seen_of r).progress) × ((steps : ℕ) × Agrees (c_run program leftmost answers steps) (seen_of r))
    backed_agrees units (came value world left) e = elim e.good [ ]
    backed_agrees units (halted status world) e =
        ((λ wrong. wrong), (e.taken, subst (λ s. Agrees s (seen_of (halted_in status world))) (sym (seen e.taken ∙ ap shown e.halts)) (record { events = e.same; progress = refl })))
    backed_agrees units (bad why world) e = elim e [ ]
    backed_agrees units (out world) e =
        ((λ wrong. wrong), (e.taken, subst (λ s. Agrees s (seen_of (out_in world))) (sym (seen e.taken ∙ ap shown e.goes)) (record { events = e.same; progress = tt })))

    safe_by : (units : ℕ) → Fails source ⊎ Backed c_events r_events NoEnd source units (target units) →
        ((steps : ℕ) × IsUndefined (c_run program leftmost answers steps).progress)
        ⊎ ((¬ IsWrong (rs_run whole answers units).progress) × ((steps : ℕ) × Agrees (c_run program leftmost answers steps) (rs_run whole answers units)))
    safe_by units (inl fails) = inl (fails.0, subst (λ s. IsUndefined s.progress) (sym (seen fails.0)) (bad_is_undefined (source fails.0) fails.1))
    safe_by units (inr backed) = inr (subst (λ s. (¬ IsWrong s.progress) × ((steps : ℕ) × Agrees (c_run program leftmost answers steps) s)) (sym (same_target units)) (backed_agrees units (target units) backed))

    pub safe : IsSafe program whole answers
    safe units = safe_by units ((owes (suc units) 0).safe units (omega arith))

    -- a piece of the target that shows events
    rests_reach : (events : Events) (r : Ran Cause World (Unit {0})) → Rests r_events events r → events ≡ (seen_of r).events
    rests_reach events (came value world left) e = sym e.1
    rests_reach events (halted status world) e = sym e
    rests_reach events (bad why world) e = sym e
    rests_reach events (out world) e = sym e

    abbrev ReachedBy : CSeen → Type 0
    ReachedBy s = (units : ℕ) × Reaches s (rs_run whole answers units)

    reached : (steps : ℕ) (r : Ran CFault CWorld (Unit {0})) → Reached c_events r_events NoEnd target steps r → ¬ IsUndefined (shown r).progress → ReachedBy (shown r)
    reached steps (came value world left) e defined = elim e.good [ ]
    reached steps (halted status world) e defined =
        (e.taken, subst (Reaches (shown (c_halted status world))) (sym (same_target e.taken ∙ ap seen_of e.halts)) (record { events = sym e.same; progress = refl }))
    reached steps (bad fault world) e defined = absurd (defined tt)
    reached steps (out world) e defined =
        (e.bound, subst (Reaches (shown (c_out world))) (sym (same_target e.bound)) (record { events = rests_reach world.events (target e.bound) e.rests; progress = tt }))

    pub gets_as_far : GetsAsFar program whole answers
    gets_as_far steps defined =
        subst ReachedBy (sym (seen steps)) (reached steps (source steps) ((owes 0 (suc steps)).reaches steps (omega arith)) (λ broken. defined (subst (λ s. IsUndefined s.progress) (sym (seen steps)) broken)))
