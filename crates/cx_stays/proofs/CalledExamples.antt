-- A worked example: a function that stores through its parameter, in a program whose `main` has another object (ISO C99, 6.5.2.2).
use Rattle.std.proofs.Common.{◌≡◌, ℕ, zero, suc, ◌≤◌, Bool, true, false, true≢false, pos, All, [], ◌∷◌, length, replicate, Some, None, Ok, refl, sym, subst, arith, codes}
use Rattle.std.proofs.lemmas.List.Elements.{All-replicate}
use Rattle.cr_base.specs.declared.scalar.Scalar.TheVariants.{Whole}
use Rattle.cr_world.specs.World.{blocks_of, first_world, open_ended, with_memory}
use Rattle.cx_core.specs.Layouts.{layouts_of}
use Rattle.cx_core.specs.Trees.{CExpr, CFun, CProgram, expression, no_types_yet, no_stmts}
use Rattle.cx_mean.proofs.Programs.{int_t, to, taking, n, var, val_as, star, addr, set, calls, run, give, in_block, local, fun, main_fun, program_of}
use Rattle.cx_mean.specs.Marks.{no_marks}
use Rattle.cx_mean.specs.Moves.{drops_it}
use Rattle.cx_mean.specs.Operands.{scalar, missing}
use Rattle.cx_mean.specs.Paths.{statements_left, CSite}
use Rattle.cx_mean.specs.Run.{c_after}
use Rattle.cx_mean.specs.Settings.{setting_of}
use Rattle.cx_mean.specs.State.{CCaller, takes, CState}
use Rattle.cx_mean.specs.Work.{waits}
use Rattle.mem_bytes.specs.Access.{value_at}
use Rattle.mem_bytes.specs.declared.value.Ptr.{Ptr}
use Rattle.mem_bytes.specs.declared.value.Value.TheVariants.{Whole as Number, Object as Pointer}
use Rattle.mem_bytes.specs.Memory.{Block, Blocks, live_block, byte_cell, unset_cell}
use Rattle.cx_stays.proofs.CalledRuns.{called_leaves_unreached}
use Rattle.cx_stays.specs.Called.{IsReachedAbove}
use Rattle.cx_stays.specs.Reach.{CellLeadsWithin, IsClosedIn}

-- int f(int *q) { *q = 5; return 0; }
abbrev f : CFun
f = fun 1 (codes "f") (taking int_t (to int_t ∷ [])) (1 ∷ []) (in_block [] (run (set (star int_t (val_as (to int_t) 1)) (n 5)) ∷ give (n 0) ∷ []))

-- f(&y), in int main(void) { int x; int y; f(&y); return 0; }
abbrev call_of_f : CExpr
call_of_f = calls 1 (addr (var 4) ∷ [])

abbrev the_program : CProgram
the_program = program_of no_types_yet (local 3 int_t ∷ local 4 int_t ∷ local 1 (to int_t) ∷ []) (main_fun (3 ∷ 4 ∷ []) (run call_of_f ∷ give (n 0) ∷ []) ∷ f ∷ [])

-- `main` waits for f; x lives in the first block, and y in the second
abbrev site_of_main : CSite
site_of_main = record {
  levels = record { slots = record { object = 3; block = 0 } ∷ record { object = 4; block = 1 } ∷ []; form = expression None; rest = statements_left no_stmts } ∷ [];
  bottom = record { params = []; at_end = missing };
}

abbrev main_waits : CCaller
main_waits = record { work = waits call_of_f no_marks; purpose = drops_it site_of_main }

abbrev block_of_x : Block
block_of_x = record { align = 4; cells = byte_cell 7 ∷ byte_cell 0 ∷ byte_cell 0 ∷ byte_cell 0 ∷ [] }

abbrev block_of_y : Block
block_of_y = record { align = 4; cells = replicate 4 unset_cell }

abbrev memory : Blocks
memory = Some block_of_x ∷ Some block_of_y ∷ []

-- f was called, and its parameter is to begin
abbrev in_f : CState
in_f = record {
  control = takes (record { callee = f; params = 1 ∷ []; args = scalar (Pointer (record { block = 1; offset = 0 })) ∷ []; frame = [] });
  statics = [];
  callers = main_waits ∷ [];
  world = with_memory memory (first_world open_ended (record { answers = [] }));
  order = [];
}

-- all blocks but that of x: its argument leads there
abbrev all_but_x : ℕ → Bool
all_but_x zero = false
all_but_x (suc number) = true

leads : (number : ℕ) (block : Block) → all_but_x number ≡ true → live_block memory number ≡ Some block → All (CellLeadsWithin all_but_x) block.cells
leads zero block within live = absurd (true≢false (sym within))
leads (suc zero) block within live =
    let same : block_of_y ≡ block = cc (live) in
    subst (λ (it : Block). All (CellLeadsWithin all_but_x) it.cells) same (All-replicate (CellLeadsWithin all_but_x) 4 unset_cell tt)
leads (suc (suc number)) block within live = cc

later : (number : ℕ) → 2 ≤ number → all_but_x number ≡ true
later zero past = absurd (omega (arith, past))
later (suc number) past = refl

closed : IsClosedIn all_but_x memory
closed = record { holds = leads; unmade = later }

in_f_within : IsReachedAbove all_but_x (main_waits ∷ []) in_f
in_f_within = record { memory = closed; statics = tt; control = ((refl, tt), tt); inner = []; waiting = tt; callers = refl }

-- six steps later 5 is in y, and f hasn't returned
abbrev place_of_x : Ptr
place_of_x = record { block = 0; offset = 0 }

abbrev place_of_y : Ptr
place_of_y = record { block = 1; offset = 0 }

abbrev then : ℕ → CState
then count = c_after (setting_of the_program) count in_f

y_is_stored : value_at (blocks_of (then 6).world) place_of_y (Whole 32 true) ≡ Ok (Number (pos 5))
unfolding layouts_of
y_is_stored = refl

one_waits : 1 ≤ 1
one_waits = omega arith

main_still_waits : (count : ℕ) → count ≤ 6 → 1 ≤ length (then count).callers
unfolding layouts_of
main_still_waits zero within = one_waits
main_still_waits (suc zero) within = one_waits
main_still_waits (suc (suc zero)) within = one_waits
main_still_waits (suc (suc (suc zero))) within = one_waits
main_still_waits (suc (suc (suc (suc zero)))) within = one_waits
main_still_waits (suc (suc (suc (suc (suc zero))))) within = one_waits
main_still_waits (suc (suc (suc (suc (suc (suc zero)))))) within = one_waits
main_still_waits (suc (suc (suc (suc (suc (suc (suc count))))))) within = absurd (omega (arith, within))

-- so x is what it was, by the law
x_stays : value_at (blocks_of (then 6).world) place_of_x (Whole 32 true) ≡ value_at memory place_of_x (Whole 32 true)
x_stays = (called_leaves_unreached.values all_but_x (setting_of the_program) (main_waits ∷ []) in_f 6 in_f_within main_still_waits).scalars place_of_x (Whole 32 true) refl
