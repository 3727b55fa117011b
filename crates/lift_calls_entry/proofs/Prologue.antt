-- The crate's entry: parameters and locals begin, and structures and unions are copied. Then each argument stands in the local of its parameter.
use Rattle.std.proofs.Common.{◌≡◌, ◌≢◌, ◌∙◌, inl, inr, ℕ, suc, ◌+◌, ◌<◌, ◌≤◌, ◌==◌, Bool, true, false, All, List, [], ◌∷◌, ◌++◌, length, Option, Some, Ok, refl, sym, ap, subst, arith, append_assoc, length-append, length-set, slice_set}
use Rattle.std.specs.List.{Contains}
use Rattle.std.proofs.lemmas.Bool.Decides.{nat_tests}
use Rattle.std.proofs.lemmas.List.Elements.{All-head, All-tail, All-take, All-drop, Contains-append_right}
use Rattle.cr_base.specs.declared.layout.Laid.{Laid}
use Rattle.cr_base.specs.declared.scalar.Scalar.{Scalar}
use Rattle.cr_base.specs.declared.scalar.Scalar.TheVariants.{Object as Address}
use Rattle.cr_runs.specs.Runs.{came}
use Rattle.cr_world.specs.World.{World, blocks_of, with_memory}
use Rattle.cx_core.specs.Trees.{CObject, unqualified}
use Rattle.cx_core.specs.Typing.{object_with}
use Rattle.cx_mean.specs.Operands.{CValue}
use Rattle.cx_typed_runs.specs.States.{AreForParams}
use Rattle.cx_typed_work.specs.Operands.{IsValueOfType}
use Rattle.lift_calls.specs.Calls.{IsHanded, AreHanded}
use Rattle.lift_calls.specs.Entries.{frame_in}
use Rattle.lift_calls.specs.Frames.{FunctionNames, NamesApart, IsLocal}
use Rattle.lift_calls.specs.Programs.{Setting}
use Rattle.lift_calls_entry.specs.Entry.{IsObjectLocal, IsPlainParam, AreParams, AllDiffer, NamesDiffer, CanBegin}
use Rattle.lift_calls_entry.proofs.Begun.{ParamHeld, ParamsHeld}
use Rattle.lift_calls_entry.proofs.Copies.{copy_comes}
use Rattle.lift_calls_entry.proofs.Fresh.{block_with, seq_comes, in_some, locals_from, IsPassed}
use Rattle.lift_calls_entry.proofs.Locals.{is_among, one_block, is_local, local_of, LaidBlock, locals_join}
use Rattle.lift_calls_entry.proofs.Passed.{holds_value, PlainPassed, plain_passed, RecordPassed, record_passed}
use Rattle.lift_exprs.specs.Written.{copied}
use Rattle.lift_stands.proofs.Cells.{cells_of_below, length_below}
use Rattle.lift_stands.proofs.Loads.{read_live}
use Rattle.lift_stands.specs.Stands.{Images, CellsBelow}
use Rattle.lift_stands_lives.proofs.Copied.{part_found}
use Rattle.lift_stands_lives.proofs.Pushed.{live_behind, push_held, slot_held}
use Rattle.mem_bytes.proofs.Held.{held_value}
use Rattle.mem_bytes.proofs.Reached.{part_ok}
use Rattle.mem_bytes.proofs.Slots.{live-set_other, live-set_same, live_within}
use Rattle.mem_bytes.specs.Access.{record_part_of, live_read, part_at, part_of}
use Rattle.mem_bytes.specs.Coding.{IsValueOf, scalar_size, cells_of}
use Rattle.mem_bytes.specs.Laws.{IsHeld, HoldsCells}
use Rattle.mem_bytes.specs.Memory.{Block, Blocks, live_block}
use Rattle.mem_bytes.specs.declared.cell.Cell.{Cell}
use Rattle.mem_bytes.specs.declared.value.Ptr.{Ptr}
use Rattle.rs_mean.specs.Layout.{laid_of}
use Rattle.rs_mean.specs.Lookups.{LocalBlock}
use Rattle.rs_mean.specs.Run.{normal, run_stmt, run_stmts, then_on}
use Rattle.rs_mean.specs.Scalars.{scalar_of}
use Rattle.rs_mean.specs.Values.{Typed}
use Rattle.rs_mean.specs.World.{pure, seq}
use Rattle.rs_text.specs.Tree.{Ty, Local, Read, AddressOf, Stmt, stmts, LocalTree}

-- ---- memories with more blocks

append_nothing : (blocks : Blocks) → blocks ++ [] ≡ blocks
append_nothing [] = refl
append_nothing (one ∷ blocks) = ap (λ rest. one ∷ rest) (append_nothing blocks)

longer : (base : Blocks) (block : Block) → length (base ++ Some block ∷ []) ≡ suc (length base)
longer base block = let long = length-append base (Some block ∷ []) in omega (arith, long)

pub older_live : (base : Blocks) (blocks : List Block) (number : ℕ) → number < length base → live_block (base ++ in_some blocks) number ≡ live_block base number
older_live base [] number less = ap (λ (all : Blocks). live_block all number) (append_nothing base)
older_live base (block ∷ blocks) number less =
    sym (ap (λ (all : Blocks). live_block all number) (append_assoc base (Some block ∷ []) (in_some blocks)))
    ∙ older_live (base ++ Some block ∷ []) blocks number (let more = longer base block in omega (arith, less, more))
    ∙ live_behind base (Some block) number less

pub all_held : (base : Blocks) (blocks : List Block) → HoldsCells base → All (λ (block : Block). All IsHeld block.cells) blocks → HoldsCells (base ++ in_some blocks)
all_held base [] held all = subst HoldsCells (sym (append_nothing base)) held
all_held base (block ∷ blocks) held all =
    subst HoldsCells (append_assoc base (Some block ∷ []) (in_some blocks))
    (all_held (base ++ Some block ∷ []) blocks (push_held base block held (All-head (λ (b : Block). All IsHeld b.cells) block blocks all)) (All-tail (λ (b : Block). All IsHeld b.cells) block blocks all))

-- ---- where parameters stand

module _ (s : Setting) (names : FunctionNames) (images : Images) (place : Option Ptr) (c_world world : World) (tree_params tree_locals : List LocalTree) (first : Blocks) where
  abbrev base : ℕ
  base = length (blocks_of world)

  abbrev all : List LocalTree
  all = tree_params ++ tree_locals

  abbrev locals : List LocalBlock
  locals = locals_from base all

  -- the first numbers are those of parameters
  abbrev bound : ℕ
  bound = base + length tree_params

  pub record IsThere (k : ℕ) (param : LocalTree) (arg : Typed) : Type 0 where
    pub among : Contains locals (record { name = param.name; ty = param.ty; block = k })
    pub below : k < bound
    pub block : Block
    pub passed : IsPassed s.modules param arg block
    pub live : live_block first k ≡ Some block

  abbrev pub AreThere : ℕ → List LocalTree → List Typed → Type 0
  AreThere k [] [] = Unit {0}
  AreThere k (param ∷ params) (arg ∷ args) = IsThere k param arg × AreThere (suc k) params args
  AreThere k [] (arg ∷ args) = ⊥
  AreThere k (param ∷ params) [] = ⊥

  -- ---- copies

  pub record Copying (memory : Blocks) : Type 0 where
    pub passed : (number : ℕ) → number < bound → live_block memory number ≡ live_block first number
    pub lays : (local : LocalBlock) → Contains locals local → LaidBlock s.modules memory local
    pub long : length memory ≡ length first
    pub held : HoldsCells memory

  -- a block that is that of an object's local
  pub record IsBlockOf (numbers : List ℕ) (number : ℕ) : Type 0 where
    pub object : ℕ
    pub among_objects : Contains numbers object
    pub local : LocalBlock
    pub among : Contains locals local
    pub kept_is : names.objects object ≡ Some (record { place = Local local.name; ty = local.ty })
    pub block_is : local.block ≡ number

  pub record Copied (numbers : List ℕ) (values : List CValue) (copies : List Stmt) (memory : Blocks) : Type 0 where
    pub after : Blocks
    pub runs : (units : ℕ) → run_stmts (frame_in s locals) (stmts copies) (with_memory memory world) units ≡ came normal (with_memory after world) units
    pub copying : Copying after
    pub params : ParamsHeld s names images place c_world world locals after numbers values
    pub others : (number : ℕ) → (IsBlockOf numbers number → ⊥) → live_block after number ≡ live_block memory number

  module _ (apart : NamesApart names) (differ : NamesDiffer all) (old : (number : ℕ) → number < base → live_block first number ≡ live_block (blocks_of world) number) where
    -- the block of a local of the function's own
    record OwnLocal (it : LocalTree) : Type 0 where
      local : LocalBlock
      among : Contains locals local
      name_is : local.name ≡ it.name
      ty_is : local.ty ≡ it.ty
      behind : bound ≤ local.block

    own_local : (it : LocalTree) → Contains tree_locals it → OwnLocal it
    own_local it there =
        let found = local_of bound tree_locals it there in
        record {
          local = found.local;
          among = subst (λ (list : List LocalBlock). Contains list found.local) (sym (locals_join base tree_params tree_locals)) (Contains-append_right (locals_from base tree_params) (locals_from bound tree_locals) found.local found.among);
          name_is = found.name_is;
          ty_is = found.ty_is;
          behind = (is_among bound tree_locals found.local found.among).behind;
        }

    local_is : (local : LocalBlock) → Contains locals local → IsLocal (frame_in s locals) local.name local
    local_is local among = is_local s base all local differ among

    -- ---- a scalar

    plain_held : (k number : ℕ) (param : LocalTree) (value : CValue) (given : Typed) (memory : Blocks) → IsThere k param given → PlainPassed s names images (blocks_of world) number param value given → Copying memory →
        ParamHeld s names images place c_world world locals memory number value
    plain_held k number param value given memory there one copying =
        let kind_same : there.passed.kind ≡ one.is.kind = (let mine = there.passed.kind_is in let its = one.is.param_kind_is in cc) in
        let laid_same : there.passed.laid ≡ one.is.object.laid = (let mine = there.passed.laid_is in let its = one.is.object.crate_laid_is in cc) in
        record {
          param = one.stored;
          local = record { name = param.name; ty = param.ty; block = k };
          among = there.among;
          kept_is = one.is.object.kept_is;
          other = cells_of one.is.kind given.value;
          live =
              copying.passed k there.below ∙ there.live ∙ ap Some there.passed.block_is
              ∙ ap (λ (kind : Scalar). Some (block_with there.passed.laid.align (cells_of kind given.value))) kind_same
              ∙ ap (λ (laid : Laid). Some (block_with laid.align (cells_of one.is.kind given.value))) (laid_same ∙ sym one.laid_is);
          below = subst (λ (list : List Cell). CellsBelow images list (cells_of one.is.kind given.value)) (sym one.list_is) (cells_of_below images one.is.kind one.one given.value one.below);
          held = subst (All IsHeld) (sym one.list_is) (held_value one.is.kind one.one);
          aligned =
              let aligned = there.passed.align in let some = there.passed.some in let same = ap (λ (laid : Laid). laid.align) (laid_same ∙ sym one.laid_is) in
              omega (arith, aligned, some, same);
        }

    -- ---- a structure or union

    record Target (memory : Blocks) (number : ℕ) (param : LocalTree) (copy : Stmt) (value : CValue) (given : Typed) (one : RecordPassed s names images (blocks_of world) tree_locals number param copy value given) : Type 0 where
      own : OwnLocal one.is.local
      cells : List Cell
      found : part_at memory one.holds.at (length one.list) ≡ Ok cells
      held : All IsHeld cells
      below : CellsBelow images one.list cells
      lays : LaidBlock s.modules memory own.local
      size : length lays.block.cells ≡ length one.list
      align : lays.block.align ≡ one.is.object.laid.align

    target : (memory : Blocks) (number : ℕ) (param : LocalTree) (copy : Stmt) (value : CValue) (given : Typed) (one : RecordPassed s names images (blocks_of world) tree_locals number param copy value given) → Copying memory → Target memory number param copy value given one
    target memory number param copy value given one copying =
        let own = own_local one.is.local one.is.among in
        let lays = copying.lays own.local own.among in
        let source = one.holds.at in
        let read = read_live (live_block (blocks_of world) source.block) (λ block. record_part_of block source.offset (length one.list) one.align) one.holds.cells one.holds.found in
        let older : source.block < base = live_within (blocks_of world) source.block read.0 read.1 in
        let live : live_block memory source.block ≡ Some read.0 = copying.passed source.block (omega (arith, older)) ∙ old source.block older ∙ read.1 in
        let part : part_of read.0 source.offset (length one.list) ≡ Ok one.holds.cells = part_found read.0 source.offset (length one.list) one.align one.holds.cells read.2 in
        let cells_are = (part_ok read.0 source.offset (length one.list) one.holds.cells part).1 in
        let block_held : All IsHeld read.0.cells = copying.held source.block read.0 live in
        let laid_same : lays.laid ≡ one.is.object.laid = (let mine = ap (laid_of s.modules) (sym own.ty_is) ∙ lays.laid_is in let its = one.is.object.crate_laid_is in cc) in
        let size_is = lays.size in
        let size_same = ap (λ (laid : Laid). laid.size) laid_same in
        let many = one.many in
        record {
          own = own;
          cells = one.holds.cells;
          found = ap (λ (slot : Option Block). live_read slot (λ block. part_of block source.offset (length one.list))) live ∙ part;
          held = subst (All IsHeld) (sym cells_are) (All-take IsHeld (length one.list) _ (All-drop IsHeld source.offset read.0.cells block_held));
          below = one.holds.below;
          lays = lays;
          size = omega (arith, size_is, size_same, many);
          align = lays.align ∙ ap (λ (laid : Laid). laid.align) laid_same;
        }

    -- the memory behind the copy
    module _ (memory : Blocks) (k number : ℕ) (param : LocalTree) (copy : Stmt) (value : CValue) (given : Typed) (one : RecordPassed s names images (blocks_of world) tree_locals number param copy value given) (copying : Copying memory)
        (there : IsThere k param given) where
      abbrev to : Target memory number param copy value given one
      to = target memory number param copy value given one copying

      abbrev new_block : Block
      new_block = block_with to.lays.block.align to.cells

      abbrev next : Blocks
      next = slice_set memory to.own.local.block (Some new_block)

      within : to.own.local.block < length memory
      within = live_within memory to.own.local.block to.lays.block to.lays.live

      cells_many : length to.cells ≡ length one.list
      cells_many = length_below images one.list to.cells to.below

      next_lays : (local : LocalBlock) → Contains locals local → LaidBlock s.modules next local
      next_lays local among = by (to.own.local.block == local.block) refl
        where
          by : (same : Bool) → (to.own.local.block == local.block) ≡ same → LaidBlock s.modules next local
          by true is =
              let equal : to.own.local.block ≡ local.block = grind (arith, nat_tests, is) in
              let same : to.own.local ≡ local = one_block base all to.own.local local to.own.among among equal in
              subst (LaidBlock s.modules next) same
              (record {
                block = new_block;
                live = live-set_same memory to.own.local.block new_block within;
                laid = to.lays.laid;
                laid_is = to.lays.laid_is;
                size = let size = to.lays.size in let old_size = to.size in omega (arith, size, old_size, cells_many);
                align = to.lays.align;
              })
          by false is =
              let was = copying.lays local among in
              let away : to.own.local.block ≢ local.block = λ (same : to.own.local.block ≡ local.block). (let t : (to.own.local.block == local.block) ≡ true = grind (arith, nat_tests, same) in cc) in
              record { block = was.block; live = live-set_other memory to.own.local.block local.block (Some new_block) away ∙ was.live; laid = was.laid; laid_is = was.laid_is; size = was.size; align = was.align }

      copied_on : Copying next
      copied_on = record {
        passed = λ other less. live-set_other memory to.own.local.block other (Some new_block) (λ same. let low = to.own.behind in omega (arith, less, low, same)) ∙ copying.passed other less;
        lays = next_lays;
        long = length-set memory to.own.local.block (Some new_block) ∙ copying.long;
        held = slot_held memory to.own.local.block (Some new_block) copying.held (λ block is. let same : new_block ≡ block = cc (is) in subst (λ (b : Block). All IsHeld b.cells) same to.held);
      }

      copy_runs : (units : ℕ) → run_stmt (frame_in s locals) copy (with_memory memory world) units ≡ came normal (with_memory next world) units
      copy_runs units =
          let passed_local : LocalBlock = record { name = param.name; ty = param.ty; block = k } in
          let kind_same : there.passed.kind ≡ Address = (let mine = there.passed.kind_is in let its = ap scalar_of one.is.param_ty_is in cc) in
          let align_is : there.passed.laid.align ≡ scalar_size Address = there.passed.align ∙ ap scalar_size kind_same in
          let live : live_block memory k ≡ Some (block_with there.passed.laid.align (cells_of Address given.value)) =
          copying.passed k there.below ∙ there.live ∙ ap Some there.passed.block_is ∙ ap (λ (kind : Scalar). Some (block_with there.passed.laid.align (cells_of kind given.value))) kind_same in
          let holds = holds_value memory k there.passed.laid.align Address given.value live align_is (omega arith) tt (subst (IsValueOf Address) (sym one.holds.value_is) tt) in
          let many = one.many in let some = one.is.some in
          ap (λ (stmt : Stmt). run_stmt (frame_in s locals) stmt (with_memory memory world) units) (one.is.copy_is ∙ ap (λ (n : ℕ). copied (Read (Local param.name)) (AddressOf (Local one.is.local.name)) n) (sym many) ∙ ap (λ (x : List ℕ). copied (Read (Local param.name)) (AddressOf (Local x)) (length one.list)) (sym to.own.name_is))
          ∙ copy_comes (frame_in s locals) passed_local to.own.local param.name to.own.local.name one.is.to one.holds.at (length one.list) to.lays.block.align to.lays.block.cells to.cells (with_memory memory world) units
          (local_is passed_local there.among) one.is.param_ty_is (holds ∙ ap Ok one.holds.value_is) (local_is to.own.local to.own.among) to.lays.live to.size (omega (arith, many, some)) to.found

      -- and it stays where the copies behind write other blocks
      record_held : (after : Blocks) → live_block after to.own.local.block ≡ live_block next to.own.local.block → 0 < one.is.object.laid.align → ParamHeld s names images place c_world world locals after number value
      record_held after stays aligned = record {
        param = one.stored;
        local = to.own.local;
        among = to.own.among;
        kept_is = one.is.object.kept_is ∙ ap (λ (x : List ℕ). Some (record { place = Local x; ty = one.is.local.ty })) (sym to.own.name_is) ∙ ap (λ (t : Ty). Some (record { place = Local to.own.local.name; ty = t })) (sym to.own.ty_is);
        other = to.cells;
        live = stays ∙ live-set_same memory to.own.local.block new_block within ∙ ap (λ (n : ℕ). Some (block_with n to.cells)) (to.align ∙ ap (λ (laid : Laid). laid.align) (sym one.laid_is));
        below = subst (λ (list : List Cell). CellsBelow images list to.cells) (sym one.list_is) to.below;
        held = subst (All IsHeld) (sym one.list_is) one.holds.held;
        aligned = let same = ap (λ (laid : Laid). laid.align) one.laid_is in omega (arith, aligned, same);
      }

    -- ---- all of them

    less_of : (first_number : ℕ) (numbers : List ℕ) (number : ℕ) → IsBlockOf numbers number → IsBlockOf (first_number ∷ numbers) number
    less_of first_number numbers number one = record {
      object = one.object;
      among_objects = (suc one.among_objects.0, (let less = one.among_objects.1 in omega (arith, less)), one.among_objects.2);
      local = one.local;
      among = one.among;
      kept_is = one.kept_is;
      block_is = one.block_is;
    }

    abbrev Typed_for : (number : ℕ) → CValue → Type 0
    Typed_for number value = (one : CObject) × (object_with number s.program.objects ≡ Some one) × IsValueOfType s.program (unqualified one.type) value

    typed_as : (number : ℕ) (value : CValue) (local : LocalTree) (object : IsObjectLocal s names number local) → Typed_for number value → IsValueOfType s.program (unqualified object.one.type) value
    typed_as number value local object (one, is, typed) =
        let same : one ≡ object.one = (let its = object.object_is in cc) in
        subst (λ (o : CObject). IsValueOfType s.program (unqualified o.type) value) same typed

    module _ (begins : (local : LocalTree) → Contains all local → CanBegin s local) where
      plain_first : (k number : ℕ) (numbers : List ℕ) (param : LocalTree) (copies : List Stmt) (value : CValue) (values : List CValue) (given : Typed) (memory : Blocks) → IsPlainParam s names number param →
          IsHanded images (blocks_of world) value given.value → Typed_for number value → IsThere k param given → Copied numbers values copies memory → Copied (number ∷ numbers) (value ∷ values) copies memory
      plain_first k number numbers param copies value values given memory is handed typed there rest =
          let one = plain_passed s names images (blocks_of world) number param value given is handed (typed_as number value param is.object typed) in
          record {
            after = rest.after;
            runs = rest.runs;
            copying = rest.copying;
            params = (plain_held k number param value given rest.after there one rest.copying, rest.params);
            others = λ other none. rest.others other (λ held. none (less_of number numbers other held));
          }

      record_first : (k number : ℕ) (numbers : List ℕ) (param : LocalTree) (copy : Stmt) (copies : List Stmt) (value : CValue) (values : List CValue) (given : Typed) (memory : Blocks)
          (one : RecordPassed s names images (blocks_of world) tree_locals number param copy value given) → (there : IsThere k param given) → (copying : Copying memory) →
          ((other : ℕ) → Contains numbers other → number ≢ other) → Copied numbers values copies (next memory k number param copy value given one copying there) → Copied (number ∷ numbers) (value ∷ values) (copy ∷ copies) memory
      unfolding seq
      record_first k number numbers param copy copies value values given memory one there copying apart_from rest =
          let own = (to memory k number param copy value given one copying there).own in
          let can = begins one.is.local (Contains-append_right tree_params tree_locals one.is.local one.is.among) in
          let laid_same : can.laid ≡ one.is.object.laid = (let mine = can.laid_is in let its = one.is.object.crate_laid_is in cc) in
          record {
            after = rest.after;
            runs = λ units.
                seq_comes (run_stmt (frame_in s locals) copy) (then_on (run_stmts (frame_in s locals) (stmts copies))) (with_memory memory world) (with_memory (next memory k number param copy value given one copying there) world) units normal
                (copy_runs memory k number param copy value given one copying there units)
                ∙ rest.runs units;
            copying = rest.copying;
            params = (
              record_held memory k number param copy value given one copying there rest.after (rest.others own.local.block (none_behind own)) (let some = can.aligned in let same = ap (λ (laid : Laid). laid.align) laid_same in omega (arith, some, same)),
              rest.params,
            );
            others = λ other none.
                rest.others other (λ held. none (less_of number numbers other held))
                ∙ live-set_other memory own.local.block other (Some (new_block memory k number param copy value given one copying there)) (λ same. none (record {
                  object = number;
                  among_objects = (0, omega arith, refl);
                  local = own.local;
                  among = own.among;
                  kept_is = kept_as own;
                  block_is = same;
                }));
          }
        where
          kept_as : (own : OwnLocal one.is.local) → names.objects number ≡ Some (record { place = Local own.local.name; ty = own.local.ty })
          kept_as own = one.is.object.kept_is ∙ ap (λ (x : List ℕ). Some (record { place = Local x; ty = one.is.local.ty })) (sym own.name_is) ∙ ap (λ (t : Ty). Some (record { place = Local own.local.name; ty = t })) (sym own.ty_is)

          none_behind : (own : OwnLocal one.is.local) → IsBlockOf numbers own.local.block → ⊥
          none_behind own held =
              let same : held.local ≡ own.local = one_block base all held.local own.local held.among own.among held.block_is in
              let equal : held.object ≡ number = apart.objects held.object number (record { place = Local held.local.name; ty = held.local.ty }) (record { place = Local own.local.name; ty = own.local.ty }) held.kept_is (kept_as own)
              (ap (λ (l : LocalBlock). Local l.name) same) in
              apart_from held.object held.among_objects (sym equal)

      pub all_copied : (k : ℕ) (numbers : List ℕ) (params : List LocalTree) (copies : List Stmt) (values : List CValue) (given : List Typed) (memory : Blocks) → AreParams s names tree_locals numbers params copies →
          AreHanded images (blocks_of world) values given → AreForParams s.program numbers values → AreThere k params given → AllDiffer numbers → Copying memory → Copied numbers values copies memory
      unfolding pure
      all_copied k [] [] [] [] [] memory are handed typed there differs copying = record { after = memory; runs = λ units. refl; copying = copying; params = tt; others = λ other none. refl }
      all_copied k (number ∷ numbers) (param ∷ params) [] (value ∷ values) (one ∷ given) memory are handed typed there differs copying =
          plain_first k number numbers param [] value values one memory are.0 handed.0 (typed.0, typed.1, typed.2) there.0
          (all_copied (suc k) numbers params [] values given memory are.1 handed.1 typed.3 there.1 differs.1 copying)
      all_copied k (number ∷ numbers) (param ∷ params) (copy ∷ copies) (value ∷ values) (one ∷ given) memory (inl are) handed typed there differs copying =
          plain_first k number numbers param (copy ∷ copies) value values one memory are.0 handed.0 (typed.0, typed.1, typed.2) there.0
          (all_copied (suc k) numbers params (copy ∷ copies) values given memory are.1 handed.1 typed.3 there.1 differs.1 copying)
      all_copied k (number ∷ numbers) (param ∷ params) (copy ∷ copies) (value ∷ values) (one ∷ given) memory (inr are) handed typed there differs copying =
          let passed = record_passed s names images (blocks_of world) tree_locals number param copy value one are.0 handed.0 (typed_as number value are.0.local are.0.object (typed.0, typed.1, typed.2)) in
          record_first k number numbers param copy copies value values one memory passed there.0 copying differs.0
          (all_copied (suc k) numbers params copies values given (next memory k number param copy value one passed copying there.0) are.1 handed.1 typed.3 there.1 differs.1
          (copied_on memory k number param copy value one passed copying there.0))
      all_copied k [] [] [] [] (one ∷ given) memory are handed typed there differs copying = absurd handed
      all_copied k [] [] [] (value ∷ values) given memory are handed typed there differs copying = absurd typed
      all_copied k [] [] (copy ∷ copies) values given memory are handed typed there differs copying = absurd are
      all_copied k [] (param ∷ params) copies values given memory are handed typed there differs copying = absurd are
      all_copied k (number ∷ numbers) [] copies values given memory are handed typed there differs copying = absurd are
      all_copied k (number ∷ numbers) (param ∷ params) [] [] given memory are handed typed there differs copying = absurd typed
      all_copied k (number ∷ numbers) (param ∷ params) [] (value ∷ values) [] memory are handed typed there differs copying = absurd handed
      all_copied k (number ∷ numbers) (param ∷ params) (copy ∷ copies) [] given memory are handed typed there differs copying = absurd typed
      all_copied k (number ∷ numbers) (param ∷ params) (copy ∷ copies) (value ∷ values) [] memory are handed typed there differs copying = absurd handed
