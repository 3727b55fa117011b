-- Worked examples: runs over a store with a limit and over one without (ISO C99, 6.2.4 and 7.20.3).
use Rattle.std.proofs.Common.{◌≡◌, refl, subst, ℕ, ℤ, pos, List, [], ◌∷◌, Option, Some, None}
use Rattle.cr_world.specs.Known.{known_table}
use Rattle.cr_world.specs.World.{Outside, trail_of}
use Rattle.cx_core.specs.Layouts.{layouts_of}
use Rattle.cx_core.specs.Trees.{CProgram}
use Rattle.cx_mean.proofs.Programs.{char_t, size_t, to_void, array_of, n, number_as, calls_as, decl_to, give, static, local, putchar, program, with_locals, printed}
use Rattle.cx_mean.specs.Run.{CProgress, ended, is_full, asks_for, is_astray, c_run_on}
use Rattle.mem_bytes.specs.Counted.{Limit}
use Rattle.cx_stops.proofs.Full.{unlimited_runs_are_never_full}
use Rattle.cx_stops.specs.Full.{NeverFull}

abbrev run_over : Option Limit → List ℤ → CProgram → CProgress
run_over limit trail program = (c_run_on program [] (trail_of limit) (record { answers = trail }) 40).progress

-- 64 bytes in 9 blocks
abbrev small : Option Limit
small = Some (record { bytes = 64; blocks = 9 })

-- char x2[100]; int main(void) { return putchar(1); }
abbrev holds_much : CProgram
holds_much = program (static 2 (array_of 100 char_t) [] ∷ []) (give (putchar (n 1)) ∷ [])

-- over a store with a limit a run may be full
full_there : run_over small (pos 7 ∷ []) holds_much ≡ is_full 100 64
unfolding layouts_of
full_there = refl

-- without one the same run ends
ends_here : run_over None (pos 7 ∷ []) holds_much ≡ ended (pos 7)
unfolding layouts_of known_table
ends_here = refl

-- it may still want an answer
asks_here : run_over None [] holds_much ≡ asks_for (printed 1)
unfolding layouts_of known_table
asks_here = refl

-- int main(void) { void *x3 = malloc(5); return 0; }
abbrev allocates : CProgram
allocates = with_locals (local 3 to_void ∷ []) (3 ∷ []) (decl_to 3 (calls_as to_void 103 (number_as size_t (pos 5) ∷ [])) ∷ give (n 0) ∷ [])

granted_here : run_over None (pos 1 ∷ []) allocates ≡ ended (pos 0)
unfolding layouts_of known_table
granted_here = refl

-- a store without a limit refuses no block, so null isn't its answer
astray_here : run_over None (pos 0 ∷ []) allocates ≡ is_astray
unfolding layouts_of known_table
astray_here = refl

-- the law in other words: whatever would be needed, and whatever were left
never_is_full : (program : CProgram) (order : List ℕ) (outside : Outside) (steps need left : ℕ)
    → (c_run_on program order (trail_of None) outside steps).progress ≡ is_full need left → ⊥
never_is_full program order outside steps need left is = subst NeverFull is (unlimited_runs_are_never_full program order outside steps)
