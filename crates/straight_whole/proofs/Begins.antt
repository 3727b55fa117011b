-- The beginning of a program: its static objects begin, and nothing is seen of it.
use Rattle.std.proofs.Common.{◌≡◌, ℕ, suc, List, [], ◌∷◌, ◌++◌, length, Some, ℤ, refl, sym, ap, subst, arith, ◌∙◌, append_assoc, length-append}
use Rattle.std.proofs.lemmas.List.{append-nil}
use Rattle.straight_mean.specs.Laws.{in_blocks_from, zeroed_blocks, world_of}
use Rattle.ext_calls.specs.Outside.{Outside}
use Rattle.mem_bytes.specs.Memory.{Blocks}
use Rattle.cr_runs.specs.Runs.{Ran, tick}
use Rattle.cr_runs.specs.Owes.{Owes, Rests}
use Rattle.cr_runs.proofs.Rules.{tick_source, renamed, below, bind_tick}
use Rattle.straight_core.specs.Trees.{CObject, CProgram}
use Rattle.straight_mean.specs.Leftmost.{CRan, c_begins, c_puts}
use Rattle.straight_mean.specs.Operands.{Frame, CWorld, CFault}
use Rattle.straight_mean.specs.State.{puts_in, with_object, with_static, zeroed}
use Rattle.straight_rust_mean.specs.declared.cause.Cause.{Cause}
use Rattle.straight_rust_mean.specs.World.{World}
use Rattle.straight_whole.proofs.Halves.{c_events, r_events, ends_with, c_ended, NoEnd}

-- what the whole program owes, under all bounds
abbrev pub OwesAll : (ℕ → Ran CFault CWorld (Unit {0})) → (ℕ → Ran Cause World (Unit {0})) → Type 0
OwesAll source target = (n m : ℕ) → Owes c_events r_events NoEnd n m source target

-- a step of the program alone
pub step_alone : (world : CWorld) (run : ℕ → CRan ℤ) (target : ℕ → Ran Cause World (Unit {0})) → Rests r_events world.events (target 0) →
    OwesAll (λ k. c_ended (run k)) target → OwesAll (λ k. c_ended (tick world run k)) target
step_alone world run target rests owes n m =
    renamed c_events r_events NoEnd n m (tick world (λ k. c_ended (run k))) (λ k. c_ended (tick world run k)) target target (λ k. sym (bind_tick world run ends_with k)) (λ k. refl)
    (below c_events r_events NoEnd n (suc m) n m (tick world (λ k. c_ended (run k))) target (omega arith) (omega arith)
    (tick_source c_events r_events NoEnd n m world (λ k. c_ended (run k)) target rests (owes n m)))

-- the objects begin one after another, while the crate shows no event
pub begins_owe : (program : CProgram) (objects : List CObject) (frame : Frame) (memory : Blocks) (answers : Outside) (target : ℕ → Ran Cause World (Unit {0})) → Rests r_events [] (target 0) →
    OwesAll (λ k. c_ended (c_puts program (frame ++ in_blocks_from (length memory) objects) (puts_in program.objects) (world_of (memory ++ zeroed_blocks objects) answers) k)) target →
    OwesAll (λ k. c_ended (c_begins program frame objects (world_of memory answers) k)) target
begins_owe program [] frame memory answers target rests owes =
    subst (λ f. OwesAll (λ k. c_ended (c_puts program f (puts_in program.objects) (world_of memory answers) k)) target) (append-nil frame)
    (subst (λ m. OwesAll (λ k. c_ended (c_puts program (frame ++ []) (puts_in program.objects) (world_of m answers) k)) target) (append-nil memory) owes)
begins_owe program (one ∷ more) frame memory answers target rests owes =
    let world = world_of memory answers in
    let next : length (memory ++ Some (zeroed one.type) ∷ []) ≡ suc (length memory) = simp length-append (omega arith) in
    step_alone world (λ left. c_begins program (with_object frame one world) more (with_static one world) left) target rests
    (begins_owe program more (with_object frame one world) (memory ++ Some (zeroed one.type) ∷ []) answers target rests
    (subst (λ f. OwesAll (λ k. c_ended (c_puts program f (puts_in program.objects) (world_of ((memory ++ Some (zeroed one.type) ∷ []) ++ zeroed_blocks more) answers) k)) target)
    (sym (append_assoc frame (record { object = one.object; block = length memory } ∷ []) (in_blocks_from (length (memory ++ Some (zeroed one.type) ∷ [])) more)
    ∙ ap (λ n. frame ++ (record { object = one.object; block = length memory } ∷ in_blocks_from n more)) next))
    (subst (λ m. OwesAll (λ k. c_ended (c_puts program (frame ++ in_blocks_from (length memory) (one ∷ more)) (puts_in program.objects) (world_of m answers) k)) target)
    (sym (append_assoc memory (Some (zeroed one.type) ∷ []) (zeroed_blocks more))) owes)))
