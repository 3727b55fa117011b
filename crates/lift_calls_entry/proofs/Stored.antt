-- In C an object begins with its argument in it: then its block holds that and nothing else.
use Rattle.std.proofs.Common.{◌≡◌, ◌∙◌, ◌⊎◌, inl, inr, ℕ, ◌<◌, ◌==◌, false, List, [], length, Option, Some, None, Result, Ok, Err, slice_set, refl, sym, ap}
use Rattle.std.proofs.lemmas.Bool.{eqb-true}
use Rattle.std.proofs.lemmas.List.{length-replicate}
use Rattle.std.proofs.Math.Seq.{set-append_seam}
use Rattle.cr_base.specs.declared.layout.Laid.{Laid}
use Rattle.cr_base.specs.declared.refusal.Place.{Place}
use Rattle.cr_base.specs.declared.scalar.Scalar.{Scalar}
use Rattle.cr_world.specs.Held.{with_block, next_place}
use Rattle.cr_world.specs.World.{Got, World, open_ended, blocks_of, with_memory, object_begun, begun_at, limit_of}
use Rattle.cx_core.specs.Trees.{CObject, unqualified}
use Rattle.cx_core.specs.Typing.{object_with}
use Rattle.cx_mean.specs.Accesses.{CKind, kind_of, of_scalar, of_record, sized, exact_or_apart, CStored, stored, stored_kind, stored_scalar, stored_record}
use Rattle.cx_mean.specs.Marks.{Marks, no_marks, Range, bits_of_bytes, with_write}
use Rattle.cx_mean.specs.Operands.{CStop, stops, CWhy, needed, accessed, sequenced_after, CValue, scalar, cells, designates}
use Rattle.cx_mean.specs.Settings.{CSetting, extent_in}
use Rattle.cx_mean.specs.State.{CShape, shape_of, as_stop, object_begins, argument_stored, param_begins}
use Rattle.cx_mean.specs.Values.{is_of_kind, value_of_kind}
use Rattle.lift_calls_entry.proofs.Fresh.{block_with, part_is_all, put_whole}
use Rattle.lift_stands_accesses.proofs.Results.{accessed_ok, where_true}
use Rattle.lift_stands_lives.proofs.Pushed.{live_last}
use Rattle.mem_bytes.proofs.Reached.{and_then_ok}
use Rattle.mem_bytes.specs.Access.{and_then, record_part_of, block_with_record, live_read, part_at, record_at, after_put, after_put_record}
use Rattle.mem_bytes.specs.Coding.{scalar_size, cells_of}
use Rattle.mem_bytes.specs.Counted.{after_alloc}
use Rattle.mem_bytes.specs.Memory.{Block, Blocks, unset_cell, new_block, with_part}
use Rattle.mem_bytes.specs.declared.cell.Cell.{Cell}
use Rattle.mem_bytes.specs.declared.fault.Fault.{Fault}
use Rattle.mem_bytes.specs.declared.value.Ptr.{Ptr}
use Rattle.mem_bytes.specs.declared.value.Value.{Value}
use Rattle.mem_bytes.specs.declared.value.Value.TheVariants.{Object as Pointer}

-- ---- what a store put

scalar_put : (blocks : Blocks) (at : Ptr) (marks : Marks) (value : Value) (kind : Scalar) (one : CStored) → stored_scalar blocks at marks (scalar value) kind ≡ Ok one → after_put blocks at kind value ≡ Ok one.blocks
scalar_put blocks at marks value kind one e =
    let size = scalar_size kind in
    let last : Value → Range → Blocks → Result CStored CWhy = λ new range after. Ok (record { value = scalar new; marks = with_write range marks; blocks = after }) in
    let first = and_then_ok (value_of_kind kind (scalar value)) (λ new. and_then (accessed (part_at blocks at size)) (λ _. and_then (sequenced_after marks (bits_of_bytes at size)) (λ range. and_then (accessed (after_put blocks at kind new)) (last new range)))) one e in
    let kinds = where_true (is_of_kind kind value) (Ok value) first.0 first.1 in
    let new : value ≡ first.0 = cc (kinds.1) in
    let second = and_then_ok (accessed (part_at blocks at size)) (λ _. and_then (sequenced_after marks (bits_of_bytes at size)) (λ range. and_then (accessed (after_put blocks at kind first.0)) (last first.0 range))) one first.2 in
    let third = and_then_ok (sequenced_after marks (bits_of_bytes at size)) (λ range. and_then (accessed (after_put blocks at kind first.0)) (last first.0 range)) one second.2 in
    let fourth = and_then_ok (accessed (after_put blocks at kind first.0)) (last first.0 third.0) one third.2 in
    let same : record { value = scalar first.0; marks = with_write third.0 marks; blocks = fourth.0 } ≡ one = cc (fourth.2) in
    ap (after_put blocks at kind) new ∙ accessed_ok (after_put blocks at kind first.0) fourth.0 fourth.1 ∙ ap (λ (s : CStored). Ok s.blocks) same

record RecordPut (blocks : Blocks) (at : Ptr) (list : List Cell) (laid : Laid) (one : CStored) : Type 0 where
  many : length list ≡ laid.size
  put : after_put_record blocks at laid.align list ≡ Ok one.blocks

record_put : (blocks : Blocks) (at : Ptr) (marks : Marks) (list : List Cell) (from : Option Ptr) (laid : Laid) (one : CStored) → stored_record blocks at marks (cells list from) laid ≡ Ok one → RecordPut blocks at list laid one
record_put blocks at marks list from laid one e =
    let last : List Cell → Range → Blocks → Result CStored CWhy = λ new range after. Ok (record { value = cells new None; marks = with_write range marks; blocks = after }) in
    let ended : List Cell → Range → Result CStored CWhy = λ new range. and_then (accessed (record_at blocks at laid.size laid.align)) (λ _. and_then (exact_or_apart laid.size at from) (λ _. and_then (accessed (after_put_record blocks at laid.align new)) (last new range))) in
    let first = and_then_ok (sized laid.size list) (λ new. and_then (accessed (part_at blocks at laid.size)) (λ _. and_then (sequenced_after marks (bits_of_bytes at laid.size)) (ended new))) one e in
    let sizes = where_true (length list == laid.size) (Ok list) first.0 first.1 in
    let new : list ≡ first.0 = cc (sizes.1) in
    let second = and_then_ok (accessed (part_at blocks at laid.size)) (λ _. and_then (sequenced_after marks (bits_of_bytes at laid.size)) (ended first.0)) one first.2 in
    let third = and_then_ok (sequenced_after marks (bits_of_bytes at laid.size)) (ended first.0) one second.2 in
    let fourth = and_then_ok (accessed (record_at blocks at laid.size laid.align)) (λ _. and_then (exact_or_apart laid.size at from) (λ _. and_then (accessed (after_put_record blocks at laid.align first.0)) (last first.0 third.0))) one third.2 in
    let fifth = and_then_ok (exact_or_apart laid.size at from) (λ _. and_then (accessed (after_put_record blocks at laid.align first.0)) (last first.0 third.0)) one fourth.2 in
    let sixth = and_then_ok (accessed (after_put_record blocks at laid.align first.0)) (last first.0 third.0) one fifth.2 in
    let same : record { value = cells first.0 None; marks = with_write third.0 marks; blocks = sixth.0 } ≡ one = cc (sixth.2) in
    record {
      many = eqb-true (length list) laid.size sizes.0;
      put = ap (after_put_record blocks at laid.align) new ∙ accessed_ok (after_put_record blocks at laid.align first.0) sixth.0 sixth.1 ∙ ap (λ (s : CStored). Ok s.blocks) same;
    }

-- ---- in a new block

abbrev fresh : Laid → Block
fresh laid = new_block laid.size laid.align

fresh_many : (laid : Laid) → length (fresh laid).cells ≡ laid.size
fresh_many laid = length-replicate laid.size unset_cell

seam : (blocks : Blocks) (old new : Block) → slice_set (with_block old blocks) (length blocks) (Some new) ≡ with_block new blocks
seam blocks old new = set-append_seam blocks (Some old) [] (Some new)

one_result : (result : Result Blocks Fault) (first second : Blocks) → result ≡ Ok first → result ≡ Ok second → first ≡ second
one_result result first second e f = cc

scalar_there : (blocks : Blocks) (laid : Laid) (kind : Scalar) (value : Value) (one : CStored) → laid.size ≡ scalar_size kind → laid.align ≡ scalar_size kind → 0 < scalar_size kind → length (cells_of kind value) ≡ scalar_size kind →
    after_put (with_block (fresh laid) blocks) (next_place blocks) kind value ≡ Ok one.blocks → one.blocks ≡ with_block (block_with laid.align (cells_of kind value)) blocks
scalar_there blocks laid kind value one size align some many put =
    let made = put_whole (with_block (fresh laid) blocks) (length blocks) laid.align (fresh laid).cells kind value (live_last blocks (Some (fresh laid))) align (fresh_many laid ∙ size) some many in
    one_result (after_put (with_block (fresh laid) blocks) (next_place blocks) kind value) one.blocks (slice_set (with_block (fresh laid) blocks) (length blocks) (Some (block_with laid.align (cells_of kind value)))) put made
    ∙ seam blocks (fresh laid) (block_with laid.align (cells_of kind value))

record_there : (blocks : Blocks) (laid : Laid) (list : List Cell) (one : CStored) → RecordPut (with_block (fresh laid) blocks) (next_place blocks) list laid one → one.blocks ≡ with_block (block_with laid.align list) blocks
record_there blocks laid list one put =
    let memory = with_block (fresh laid) blocks in
    let step : Block → Result Block Fault = λ block. block_with_record block 0 laid.align list in
    let read : and_then (step (fresh laid)) (λ b. Ok (slice_set memory (length blocks) (Some b))) ≡ Ok one.blocks =
    sym (ap (λ (slot : Option Block). and_then (live_read slot step) (λ b. Ok (slice_set memory (length blocks) (Some b)))) (live_last blocks (Some (fresh laid)))) ∙ put.put in
    let outer = and_then_ok (step (fresh laid)) (λ b. Ok (slice_set memory (length blocks) (Some b))) one.blocks read in
    let inner = and_then_ok (record_part_of (fresh laid) 0 (length list) laid.align) (λ _. Ok (with_part (fresh laid) 0 list)) outer.0 outer.1 in
    let block : with_part (fresh laid) 0 list ≡ outer.0 = cc (inner.2) in
    let all : with_part (fresh laid) 0 list ≡ block_with laid.align list = part_is_all laid.align (fresh laid).cells list (put.many ∙ sym (fresh_many laid)) in
    let same : slice_set memory (length blocks) (Some outer.0) ≡ one.blocks = cc (outer.2) in
    sym same ∙ ap (λ (b : Block). slice_set memory (length blocks) (Some b)) (sym block ∙ all) ∙ seam blocks (fresh laid) (block_with laid.align list)

-- ---- a parameter begins

-- the kind of access by which an argument is stored, and the cells of that
pub data HasCells : CValue → CKind → Laid → List Cell → Type 0 where
  of_number : (value : Value) (kind : Scalar) (laid : Laid) → laid.size ≡ scalar_size kind → laid.align ≡ scalar_size kind → 0 < scalar_size kind → length (cells_of kind value) ≡ scalar_size kind →
      HasCells (scalar value) (of_scalar kind) laid (cells_of kind value)
  of_cells : (list : List Cell) (from : Option Ptr) (laid : Laid) → length list ≡ laid.size → HasCells (cells list from) (of_record laid) laid list

stored_there : (blocks : Blocks) (value : CValue) (kind : CKind) (laid : Laid) (list : List Cell) (one : CStored) → HasCells value kind laid list → stored_kind (with_block (fresh laid) blocks) (next_place blocks) no_marks value kind ≡ Ok one →
    one.blocks ≡ with_block (block_with laid.align list) blocks
stored_there blocks value kind laid list one (of_number number scalar_kind laid_of size align some many) e =
    scalar_there blocks laid_of scalar_kind number one size align some many (scalar_put (with_block (fresh laid_of) blocks) (next_place blocks) no_marks number scalar_kind one e)
stored_there blocks value kind laid list one (of_cells held from laid_of many) e =
    record_there blocks laid_of held one (record_put (with_block (fresh laid_of) blocks) (next_place blocks) no_marks held from laid_of one e)

-- the object of a parameter, with how its argument is stored
pub record IsStoredParam (setting : CSetting) (number : ℕ) (value : CValue) : Type 0 where
  pub one : CObject
  pub object_is : object_with number setting.program.objects ≡ Some one
  pub laid : Laid
  pub laid_is : extent_in setting one.type ≡ Some laid
  pub kind : CKind
  pub kind_is : kind_of setting (unqualified one.type) ≡ Ok kind
  pub list : List Cell
  pub has : HasCells value kind laid list

-- it has begun with its argument, or a rule is broken
pub record ParamBegun (setting : CSetting) (number : ℕ) (value : CValue) (param : IsStoredParam setting number value) (world : World) (result : Result (Got Ptr) CStop) : Type 0 where
  pub is : result ≡ Ok (record { value = next_place (blocks_of world); world = with_memory (with_block (block_with param.laid.align param.list) (blocks_of world)) world })

abbrev pub IsBroken : {A : Type 0} → Result A CStop → Type 0
IsBroken result = (stop : CStop) × (result ≡ Err stop)

module _ (setting : CSetting) (place : Place) (number : ℕ) (value : CValue) (world : World) (terms : world.terms ≡ open_ended) (param : IsStoredParam setting number value) where
  abbrev shape : CShape
  shape = record { type = param.one.type; laid = param.laid }

  abbrev begun : World
  begun = with_memory (with_block (fresh param.laid) (blocks_of world)) world

  abbrev got : Got Ptr
  got = record { value = next_place (blocks_of world); world = begun }

  shape_is : shape_of setting number ≡ Ok shape
  shape_is =
      ap (λ found. and_then (needed found) (λ (o : CObject). and_then (needed (extent_in setting o.type)) (λ laid. Ok (record { type = o.type; laid = laid })))) param.object_is
      ∙ ap (λ found. and_then (needed found) (λ laid. Ok (record { type = param.one.type; laid = laid }))) param.laid_is

  begins : object_begins setting place number world ≡ Ok got
  begins =
      ap (λ found. and_then (as_stop place found) (λ (s : CShape). object_begun false s.laid.size s.laid.align world)) shape_is
      ∙ ap (λ terms_of. begun_at false param.laid.size param.laid.align world (after_alloc (limit_of terms_of) (blocks_of world) param.laid.size param.laid.align)) terms

  abbrev behind : Result CStored CWhy → Result (Got Ptr) CStop
  behind result = and_then (as_stop place result) (λ (one : CStored). Ok (record { value = next_place (blocks_of world); world = with_memory one.blocks begun }))

  abbrev at_kind : CKind → Result CStored CWhy
  at_kind kind = stored_kind (blocks_of begun) (next_place (blocks_of world)) no_marks value kind

  outcome : param_begins setting place number value world ≡ behind (at_kind param.kind)
  outcome =
      ap (λ found. and_then found (argument_stored setting place number value)) begins
      ∙ ap (λ found. and_then (as_stop place found) (λ (s : CShape). behind (stored setting [] (blocks_of begun) (unqualified s.type) (designates (Pointer (next_place (blocks_of world)))) value no_marks))) shape_is
      ∙ ap (λ found. behind (and_then found at_kind)) param.kind_is

  pub param_begun : ParamBegun setting number value param world (param_begins setting place number value world) ⊎ IsBroken (param_begins setting place number value world)
  param_begun = by (at_kind param.kind) refl
    where
      by : (result : Result CStored CWhy) → at_kind param.kind ≡ result → ParamBegun setting number value param world (param_begins setting place number value world) ⊎ IsBroken (param_begins setting place number value world)
      by (Ok one) is = inl (record {
        is = outcome ∙ ap behind is ∙ ap (λ (blocks : Blocks). Ok (record { value = next_place (blocks_of world); world = with_memory blocks begun })) (stored_there (blocks_of world) value param.kind param.laid param.list one param.has is);
      })
      by (Err why) is = inr (stops why place, outcome ∙ ap behind is)
