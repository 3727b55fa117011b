-- The lives of objects begin: in a program with a bit-field member the local is zero first, while it stands for nothing.
use Rattle.std.proofs.Common.{◌≡◌, ◌∙◌, All, ℕ, ◌+◌, ◌≤◌, ◌==◌, Bool, true, false, List, [], ◌∷◌, ◌++◌, map, length, replicate, drop, Ok, if◌then◌else◌, refl, sym, ap, subst, arith}
use Rattle.std.proofs.lemmas.Bool.Decides.{nat_tests}
use Rattle.std.proofs.lemmas.List.{length-replicate}
use Rattle.std.proofs.lemmas.List.Elements.{All-replicate}
use Rattle.cr_runs.specs.Runs.{came}
use Rattle.cr_world.specs.Held.{with_blocks}
use Rattle.cr_world.specs.World.{Got, World, blocks_of, with_held}
use Rattle.cx_mean.specs.Operands.{Slot, Frame as CFrame}
use Rattle.cx_mean.specs.State.{object_begins, no_place}
use Rattle.build_flow_lives.specs.Standing.{Calling, own_slots, Standing, stage_of}
use Rattle.build_flow_moves.specs.Parts.{objects_in, Begun, BeginDone}
use Rattle.build_flow_nodes.specs.Parts.{cleared, all_cleared}
use Rattle.lift_calls.specs.Frames.{IsLocal}
use Rattle.lift_calls.specs.Programs.{setting_in}
use Rattle.lift_stands.specs.Keeps.{KeepsOthers}
use Rattle.lift_stands.specs.Stands.{IsByte}
use Rattle.lift_stands.specs.Worlds.{WorldsStand}
use Rattle.lift_stands_lives.proofs.Begun.{worlds_held}
use Rattle.lift_stands_lives.proofs.Steps.{stores_aside_keep}
use Rattle.lift_stands_lives.proofs.Stored.{written_aside}
use Rattle.mem_bytes.proofs.Held.{held_later}
use Rattle.mem_bytes.proofs.Slots.{live_within, live-set_same}
use Rattle.mem_bytes.proofs.Written.{fill_writes}
use Rattle.mem_bytes.specs.Access.{after_fill}
use Rattle.mem_bytes.specs.Laws.{HoldsCells, Later}
use Rattle.mem_bytes.specs.Memory.{Block, Blocks, size_of, byte_cell}
use Rattle.mem_bytes.specs.declared.cell.Cell.{Cell}
use Rattle.mem_bytes.specs.declared.value.Ptr.{Ptr}
use Rattle.rs_mean.specs.Lookups.{LocalBlock}
use Rattle.rs_mean.specs.Run.{normal, run_stmts}
use Rattle.rs_mean.specs.World.{pure}
use Rattle.rs_text.specs.Tree.{Local, Stmt, stmts}
use Rattle.build_flow_parts.specs.Means.{home_in, PartsMean, ObjectMeans, ZeroMeans, NotAmong}
use Rattle.build_flow_parts.proofs.After.{IsAside, one_name, stands_beside}
use Rattle.build_flow_parts.proofs.Begins.{LocalBytes, vacant, begun_so, fresh_slots}
use Rattle.build_flow_parts.proofs.Objects.{ItsLocal, its_local}
use Rattle.build_flow_parts.proofs.Zeros.{zeroed, all_zeroed, fill_is, becomes_zero}

-- ---- a block of zero bytes

zero_bytes : (n : ℕ) → All IsByte (replicate n (byte_cell 0))
zero_bytes n = All-replicate IsByte n (byte_cell 0) (0, refl)

drop_all : {A : Type 0} (old : List A) → drop (length old) old ≡ []
drop_all [] = refl
drop_all (one ∷ old) = drop_all old

append_nothing : {A : Type 0} (list : List A) → list ++ [] ≡ list
append_nothing [] = refl
append_nothing (one ∷ list) = ap (λ rest. one ∷ rest) (append_nothing list)

zeroed_cells : (block : Block) (size : ℕ) → size_of block ≡ size → (zeroed block size).cells ≡ replicate size (byte_cell 0)
zeroed_cells block size is =
    ap (λ (rest : List Cell). replicate size (byte_cell 0) ++ rest) (ap (λ (n : ℕ). drop n block.cells) counted ∙ drop_all block.cells)
    ∙ append_nothing (replicate size (byte_cell 0))
  where
    counted : 0 + length (replicate size (byte_cell 0)) ≡ length block.cells
    counted = let many = length-replicate size (byte_cell 0) in omega (arith, many, is)

-- ---- the local of an object that hasn't begun becomes zero

module _ (a : Calling) (units steps : ℕ) (mean : PartsMean a.s a.names a.of units steps) (started : WorldsStand a.images a.c_before a.before) (params_are : map (λ (slot : Slot). slot.object) a.params ≡ a.one.params) (number : ℕ) where
  module _ (means : ZeroMeans a.s a.names a.of number) (inners outers : CFrame) (fresh : NotAmong number (objects_in (inners ++ ((outers ++ a.params) ++ a.s.statics)))) (c_world world : World) (here : Standing a (inners ++ outers) c_world world) where
    abbrev object : ObjectMeans a.s a.names a.of number
    object = means.object

    abbrev its : ItsLocal a number object world
    its = its_local a units steps mean number object (inners ++ outers) c_world world here

    abbrev block : Block
    block = its.lives.block

    abbrev beyond : Blocks
    beyond = all_zeroed (blocks_of world) its.local.block block object.laid.size

    abbrev zero_world : World
    zero_world = with_held (with_blocks beyond world.held) world

    abbrev own : ℕ → Bool
    own k = its.local.block == k

    size_is : size_of block ≡ object.laid.size
    size_is = its.lives.size ∙ ap (λ laid. laid.size) its.laid_same

    abbrev to : Ptr
    to = record { block = its.local.block; offset = 0 }

    filled : after_fill (blocks_of world) to 0 object.laid.size ≡ Ok beyond
    filled = fill_is (blocks_of world) its.local.block block object.laid.size its.lives.live (omega (arith, size_is))

    same_number : (n : ℕ) → (n == n) ≡ true
    same_number n = grind (arith, nat_tests)

    number_equal : (n m : ℕ) → (n == m) ≡ true → n ≡ m
    number_equal n m is = grind (arith, nat_tests, is)

    keeps : KeepsOthers (length (blocks_of world)) own here.later here.later c_world.held c_world.held world.held zero_world.held
    keeps =
        stores_aside_keep (length (blocks_of world)) own here.later c_world.held world.held here.inside.worlds.held.memories.mapped to object.laid.size beyond
        (fill_writes (blocks_of world) beyond to 0 object.laid.size filled) (λ p free. same_number its.local.block)

    holds : HoldsCells beyond
    holds = held_later (blocks_of world) beyond here.inside.worlds.held.memories.others_held (Later.fill to 0 object.laid.size Later.now (omega arith) filled)

    worlds : WorldsStand here.later c_world zero_world
    worlds =
        worlds_held here.later here.later c_world world c_world.held (with_blocks beyond world.held) here.inside.worlds
        (written_aside here.later c_world.held world.held to object.laid.size beyond here.inside.worlds.held (vacant a units steps mean started number object inners outers fresh c_world world here)
        (fill_writes (blocks_of world) beyond to 0 object.laid.size filled) holds)

    other_name : (name : List ℕ) (other : LocalBlock) → IsLocal a.frame name other → own other.block ≡ true → object.kept.place ≡ Local name
    other_name name other there owns =
        object.place_is
        ∙ ap Local (one_name a.s a.names here.later (own_slots a (inners ++ outers)) a.frame c_world world here.inside.frames object.name name its.local other its.is_local there (number_equal its.local.block other.block owns))

    aside : IsAside a own
    aside = record {
      since = λ k is. subst (λ (n : ℕ). length (blocks_of a.before) ≤ n) (number_equal its.local.block k is) (here.inside.locals its.local its.is_local.among);
      no_result = λ name other is there owns. mean.apart.result number object.kept name object.kept_is is (other_name name other there owns);
      no_zeros = λ one it other is there owns. mean.apart.zero number one object.kept it object.kept_is is (other_name it.name other there owns);
    }

    stands_zero : Standing a (inners ++ outers) c_world zero_world
    stands_zero = stands_beside a started (inners ++ outers) c_world world here here.later own aside c_world zero_world keeps worlds here.inside.scope

    bytes_there : LocalBytes a object.name zero_world
    bytes_there = record {
      local = its.local;
      is_local = its.is_local;
      block = zeroed block object.laid.size;
      live = live-set_same (blocks_of world) its.local.block (zeroed block object.laid.size) (live_within (blocks_of world) its.local.block block its.lives.live);
      bytes = subst (All IsByte) (sym (zeroed_cells block object.laid.size size_is)) (zero_bytes object.laid.size);
    }

    behind_nothing : (list : List Stmt) → list ++ [] ≡ list
    behind_nothing list = append_nothing list

    zero_runs : a.of.names.has_bits ≡ true → (k : ℕ) → run_stmts a.frame (stmts (if a.of.names.has_bits then all_cleared a.of (number ∷ []) else [])) world k ≡ came normal zero_world k
    zero_runs bits k =
        subst (λ (list : List Stmt). run_stmts a.frame (stmts list) world k ≡ came normal zero_world k)
        (sym (ap (λ (test : Bool). if test then all_cleared a.of (number ∷ []) else []) bits ∙ behind_nothing (cleared a.of number)))
        ((becomes_zero a units steps mean started params_are number means (inners ++ outers) c_world world here).runs k)

    pub zero_begun : a.of.names.has_bits ≡ true → (got : Got Ptr) → object_begins (setting_in a.s) no_place number c_world ≡ Ok got → Begun (stage_of a units steps) inners outers number got world
    zero_begun bits got is = record {
      after = zero_world;
      runs = record { runs = zero_runs bits };
      here = begun_so a units steps mean started number object inners outers fresh c_world zero_world stands_zero (λ _. bytes_there) got is;
    }

  -- nothing is written
  nothing_runs : (world : World) (has_bits : Bool) → has_bits ≡ false → (k : ℕ) → run_stmts a.frame (stmts (if has_bits then all_cleared a.of (number ∷ []) else [])) world k ≡ came normal world k
  unfolding pure
  nothing_runs world false is k = refl
  nothing_runs world true is k = absurd cc

  pub begin_done : (inner : List ℕ) (outer : List ℕ) → ObjectMeans a.s a.names a.of number → (a.of.names.has_bits ≡ true → ZeroMeans a.s a.names a.of number) → NotAmong number (inner ++ (outer ++ objects_in (a.params ++ a.s.statics))) →
      BeginDone (stage_of a units steps) inner number outer
  begin_done inner outer object zeros fresh inners outers c_world world got inner_is outer_is here is = by a.of.names.has_bits refl
    where
      there : NotAmong number (objects_in (inners ++ ((outers ++ a.params) ++ a.s.statics)))
      there = fresh_slots a inner outer number inners outers inner_is outer_is fresh

      no_bytes : a.of.names.has_bits ≡ false → here.later.in_bytes ≡ true → ⊥
      no_bytes none bytes =
          let bits = (mean.means (home_in a.s a.one []) refl).bits in
          let all = here.inside.program.bytes in
          let same : here.later.in_bytes ≡ a.of.names.has_bits = all ∙ sym bits in
          let clash : true ≡ false = sym bytes ∙ same ∙ none in
          cc

      by : (has_bits : Bool) → a.of.names.has_bits ≡ has_bits → Begun (stage_of a units steps) inners outers number got world
      by true bits = zero_begun (zeros bits) inners outers there c_world world here bits got is
      by false none = record {
        after = world;
        runs = record { runs = nothing_runs world a.of.names.has_bits none };
        here = begun_so a units steps mean started number object inners outers there c_world world here (λ bytes. absurd (no_bytes none bytes)) got is;
      }
