-- Worked examples: a set of blocks that leaves an object out, and a store through a pointer that leads elsewhere (ISO C99, 6.5.3.2).
use Rattle.std.proofs.Common.{◌≡◌, ℕ, zero, suc, ◌≤◌, Bool, true, false, true≢false, pos, All, [], ◌∷◌, replicate, Some, refl, sym, subst, arith}
use Rattle.std.proofs.lemmas.List.Elements.{All-replicate}
use Rattle.cr_world.specs.World.{World, blocks_of, first_world, open_ended, with_memory}
use Rattle.cx_core.specs.Layouts.{layouts_of}
use Rattle.cx_core.specs.Trees.{CExpr, CProgram}
use Rattle.cx_mean.proofs.Programs.{int_t, to, n, var, val_as, star, set, give, with_locals, local}
use Rattle.cx_mean.specs.Marks.{Range}
use Rattle.cx_mean.specs.Operands.{scalar, COperand, Frame}
use Rattle.cx_mean.specs.Settings.{setting_of}
use Rattle.cx_mean.specs.Work.{finished, begun}
use Rattle.mem_bytes.specs.Coding.{pointer_bytes}
use Rattle.mem_bytes.specs.declared.value.Value.{Value}
use Rattle.mem_bytes.specs.declared.value.Value.TheVariants.{Whole as Number, Object as Pointer}
use Rattle.mem_bytes.specs.Memory.{Block, Blocks, live_block, byte_cell, unset_cell}
use Rattle.cx_stays.proofs.ReachMemory.{pointer_leads}
use Rattle.cx_stays.proofs.ReachStates.{unreached_stays}
use Rattle.cx_stays.specs.Reach.{CellLeadsWithin, NamesOnly, LivesWithin, IsClosedIn, StaysOutside}
use Rattle.cx_stays.specs.Stays.{EvaluatesIn}

-- int main(void) { int *p; int x; int y; return 0; }, where p, x and y live in the first three blocks
abbrev the_program : CProgram
the_program = with_locals (local 2 (to int_t) ∷ local 3 int_t ∷ local 4 int_t ∷ []) (2 ∷ 3 ∷ 4 ∷ []) (give (n 0) ∷ [])

abbrev frame : Frame
frame = record { object = 2; block = 0 } ∷ record { object = 3; block = 1 } ∷ record { object = 4; block = 2 } ∷ []

-- *p = 5
abbrev store : CExpr
store = set (star int_t (val_as (to int_t) 2)) (n 5)

-- all blocks but that of x
abbrev all_but_x : ℕ → Bool
all_but_x zero = true
all_but_x (suc zero) = false
all_but_x (suc (suc number)) = true

-- the expression names p, which lives in a block of the set; one that names x doesn't
store_names : NamesOnly (LivesWithin all_but_x frame) store
store_names = (refl, tt)

x_is_out : NamesOnly (LivesWithin all_but_x frame) (set (var 3) (n 5)) → ⊥
x_is_out only = true≢false (sym only.0)

-- p points to y, and x is 7
abbrev to_y : Value
to_y = Pointer (record { block = 2; offset = 0 })

abbrev block_of_p : Block
block_of_p = record { align = 8; cells = pointer_bytes to_y }

abbrev block_of_x : Block
block_of_x = record { align = 4; cells = byte_cell 7 ∷ byte_cell 0 ∷ byte_cell 0 ∷ byte_cell 0 ∷ [] }

abbrev memory : Blocks
memory = Some block_of_p ∷ Some block_of_x ∷ Some (record { align = 4; cells = replicate 4 unset_cell }) ∷ []

abbrev before : World
before = with_memory memory (first_world open_ended (record { answers = [] }))

abbrev after : World
after = with_memory (Some block_of_p ∷ Some block_of_x ∷ Some (record { align = 4; cells = byte_cell 5 ∷ byte_cell 0 ∷ byte_cell 0 ∷ byte_cell 0 ∷ [] }) ∷ []) before

-- the set is closed: the one pointer in its blocks is p
leads : (number : ℕ) (block : Block) → all_but_x number ≡ true → live_block memory number ≡ Some block → All (CellLeadsWithin all_but_x) block.cells
leads zero block within live =
    let same : block_of_p ≡ block = cc (live) in
    subst (λ (it : Block). All (CellLeadsWithin all_but_x) it.cells) same (pointer_leads all_but_x to_y refl (0 ∷ 1 ∷ 2 ∷ 3 ∷ 4 ∷ 5 ∷ 6 ∷ 7 ∷ []))
leads (suc zero) block within live = absurd (true≢false (sym within))
leads (suc (suc zero)) block within live =
    let same : record { align = 4; cells = replicate 4 unset_cell } ≡ block = cc (live) in
    subst (λ (it : Block). All (CellLeadsWithin all_but_x) it.cells) same (All-replicate (CellLeadsWithin all_but_x) 4 unset_cell tt)
leads (suc (suc (suc number))) block within live = cc

later : (number : ℕ) → 3 ≤ number → all_but_x number ≡ true
later zero past = absurd (omega (arith, past))
later (suc zero) past = absurd (omega (arith, past))
later (suc (suc number)) past = refl

closed : IsClosedIn all_but_x (blocks_of before)
closed = record { holds = leads; unmade = later }

-- the evaluation: p is loaded, y is designated, and 5 is stored there
abbrev bits_of_p : Range
bits_of_p = record { block = 0; from = 0; to = 64 }

abbrev bits_of_y : Range
bits_of_y = record { block = 2; from = 0; to = 32 }

abbrev five : COperand
five = record { type = int_t; value = scalar (Number (pos 5)); marks = record { reads = bits_of_p ∷ []; writes = bits_of_y ∷ []; still = bits_of_y ∷ [] } }

evaluated : EvaluatesIn (setting_of the_program) frame (begun store) before (finished five) after
unfolding layouts_of
evaluated = EvaluatesIn.and_then_at 0 (EvaluatesIn.and_then_at 0 (EvaluatesIn.and_then_at 0 EvaluatesIn.not_yet refl) refl) refl

-- so x is what it was, by the law
x_stays : StaysOutside all_but_x (blocks_of before) (blocks_of after)
x_stays = (unreached_stays.evaluation all_but_x (setting_of the_program) frame store before after (finished five) store_names closed evaluated).stays
