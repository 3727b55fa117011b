-- The object of a declaration that is reached is made anew, in a typed memory (ISO C99, 6.2.4p5, 6.7.8).
use Rattle.std.proofs.Common.{◌≡◌, ℕ, zero, suc, ◌+◌, ◌*◌, ◌/◌, ◌%◌, ◌≤◌, ◌==◌, Bool, true, false, true≢false, if◌then◌else◌, All, List, [], ◌∷◌, ◌++◌, length, take, drop, replicate, slice_set, rules, Option, Some, None, IfSome, Result, Ok, Err, refl, sym, ap, subst, ◌∙◌, arith}
use Rattle.std.proofs.lemmas.Bool.Decides.{nat_tests}
use Rattle.std.proofs.lemmas.List.{length-append, length-take, length-take-le, length-drop, length-replicate, same_lists, places}
use Rattle.std.proofs.lemmas.List.Elements.{All-append, All-take, All-drop}
use Rattle.cr_base.specs.declared.layout.Laid.{Laid}
use Rattle.cr_base.specs.declared.layout.Spot.{Spot}
use Rattle.cx_core.specs.Layouts.{extent, layouts_of}
use Rattle.cx_core.specs.Trees.{CTy, CProgram, CObject, CPut, put, CPuts, no_puts, more_puts}
use Rattle.cx_core.specs.Typing.{CHome, ArePuts, IsTypedPut}
use Rattle.cx_core.specs.ValidTypes.{AreTypes}
use Rattle.cx_mean.specs.Accesses.{sized}
use Rattle.cx_mean.specs.Initialisers.{with_cells, field_unset, unset_by, unset_put, unset_puts, first_cells, CCleared, object_cleared}
use Rattle.cx_mean.specs.Operands.{CWhy, stuck, needed, Frame, slot_of}
use Rattle.cx_mean.specs.Settings.{setting_of, extent_in}
use Rattle.mem_bytes.proofs.Bytes.{length-bit_cells}
use Rattle.mem_bytes.specs.Access.{and_then}
use Rattle.mem_bytes.specs.Bits.{bytes_touched, bit_cells}
use Rattle.mem_bytes.specs.declared.cell.Cell.{Cell}
use Rattle.mem_bytes.specs.declared.cell.Cell.TheVariants.{Bits}
use Rattle.mem_bytes.specs.declared.value.Ptr.{Ptr}
use Rattle.mem_bytes.specs.Laws.{Writes}
use Rattle.mem_bytes.specs.Memory.{Block, Blocks, live_block, size_of, unset_cell, byte_cell, with_part}
use Rattle.cx_typed_work.proofs.Inside.{IsInside}
use Rattle.cx_typed_work.proofs.Loads.{AreRecordCells}
use Rattle.cx_typed_work.proofs.MemberValues.{bytes_inside}
use Rattle.cx_typed_work.proofs.Memories.{typed_none, typed_more, typed_replicate, written_typed, written_shapes}
use Rattle.cx_typed_work.proofs.Parts.{placed_inside}
use Rattle.cx_typed_work.proofs.Rows.{extent_whole}
use Rattle.cx_typed_work.specs.Scenes.{IsAlive, IsTypedCell, IsTypedMemory, AreSameShapes}

-- ---- results that come

-- a result of which this holds: no rule is broken
abbrev pub Surely : {A : Type 0} → (A → Type 0) → Result A CWhy → Type 0
Surely Holds (Ok value) = Holds value
Surely Holds (Err why) = ⊥

surely_and : {A B : Type 0} (P : A → Type 0) (Q : B → Type 0) (first : Result A CWhy) (next : A → Result B CWhy) → Surely P first → ((value : A) → P value → Surely Q (next value)) → Surely Q (and_then first next)
surely_and P Q (Ok value) next one all = all value one
surely_and P Q (Err why) next one all = one

surely_needed : {A : Type 0} (P : A → Type 0) (found : Option A) (value : A) → found ≡ Some value → P value → Surely P (needed found)
surely_needed P None value e is = cc
surely_needed P (Some one) value e is =
    let same : value ≡ one = cc (e) in
    subst P same is

-- ---- cells of an object before its puts

-- cells with others that lie among them
with_typed : (program : CProgram) (size offset : ℕ) (new held : List Cell) → offset + length new ≤ size → All (IsTypedCell program) new → AreRecordCells program size held → AreRecordCells program size (with_cells offset new held)
with_typed program size offset new held fits are old =
    record {
      all = many (length held) refl old.all;
      typed = All-append (IsTypedCell program) (take offset held ++ new) (drop (offset + length new) held)
          (All-append (IsTypedCell program) (take offset held) new (All-take (IsTypedCell program) offset held old.typed) are)
          (All-drop (IsTypedCell program) (offset + length new) held old.typed);
    }
  where
    many : (count : ℕ) → length held ≡ count → count ≡ size → length (with_cells offset new held) ≡ size
    many count e is = simp (length-append, length-take, length-drop) (omega (arith, fits, e, is))

bit_cells_typed : (program : CProgram) (count bits set : ℕ) → All (IsTypedCell program) (bit_cells count bits set)
bit_cells_typed program zero bits set = typed_none program
bit_cells_typed program (suc count) bits set = typed_more program (Bits (bits % 256) (set % 256)) (bit_cells count (bits / 256) (set / 256)) tt (bit_cells_typed program count (bits / 256) (set / 256))

-- the bits that a put covers become unset
unset_typed : (program : CProgram) (size : ℕ) (type : CTy) (spot : Spot) (laid : Laid) (width : ℕ) (held : List Cell) → spot.width ≡ width → extent (layouts_of program.types) type ≡ Some laid
    → IsInside program.types size type spot.byte spot.bit spot.width → AreRecordCells program size held → AreRecordCells program size (unset_by spot laid.size width held)
unset_typed program size type spot laid zero held e sized_is inside old =
    let last : spot.byte + laid.size ≤ size = inside.ends e laid (extent_whole (layouts_of program.types) type laid sized_is) in
    with_typed program size spot.byte (replicate laid.size unset_cell) held (subst (λ n. spot.byte + n ≤ size) (sym (length-replicate laid.size unset_cell)) last) (typed_replicate program laid.size unset_cell tt) old
unset_typed program size type spot laid (suc n) held e sized_is inside old =
    let field = inside.of_bits (λ none. absurd (omega (arith, e, none))) in
    let touched = bytes_touched spot.bit (suc n) in
    let part = take touched (drop spot.byte held) in
    let last : spot.byte + touched ≤ size = bytes_inside spot.byte spot.bit (suc n) size (subst (λ w. 8 * spot.byte + spot.bit + w ≤ 8 * size) e field.ends) in
    let many : length part ≡ touched = length-take-le touched (drop spot.byte held) (omega (arith, length-drop spot.byte held, old.all, last)) in
    let count : length (field_unset spot.bit (suc n) part) ≡ touched = length-bit_cells (length part) _ _ ∙ many in
    with_typed program size spot.byte (field_unset spot.bit (suc n) part) held (subst (λ k. spot.byte + k ≤ size) (sym count) last) (bit_cells_typed program (length part) _ _) old

unset_surely : (home : CHome) (holder : CTy) (laid : Laid) (one : CPut) (held : List Cell) → AreTypes home.program.types → extent (layouts_of home.program.types) holder ≡ Some laid → IsTypedPut home holder one
    → AreRecordCells home.program laid.size held → Surely (AreRecordCells home.program laid.size) (unset_put (setting_of home.program) one held)
unset_surely home holder laid (put spot type value) held types laid_is is old =
    let placed = placed_inside home.program.types holder type spot laid types is.1.part laid_is in
    surely_and (λ (own : Laid). own ≡ placed.laid) (AreRecordCells home.program laid.size) (needed (extent_in (setting_of home.program) type)) _
    (surely_needed (λ (own : Laid). own ≡ placed.laid) (extent_in (setting_of home.program) type) placed.laid placed.sized refl) (λ own same.
    unset_typed home.program laid.size type spot own spot.width held refl (placed.sized ∙ ap Some (sym same)) placed.inside old)

unset_all : (home : CHome) (holder : CTy) (laid : Laid) (puts : CPuts) (held : List Cell) → AreTypes home.program.types → extent (layouts_of home.program.types) holder ≡ Some laid → ArePuts home holder puts
    → AreRecordCells home.program laid.size held → Surely (AreRecordCells home.program laid.size) (unset_puts (setting_of home.program) puts held)
unset_all home holder laid no_puts held types laid_is are old = old
unset_all home holder laid (more_puts first others) held types laid_is are old =
    surely_and (AreRecordCells home.program laid.size) (AreRecordCells home.program laid.size) (unset_put (setting_of home.program) first held) _ (unset_surely home holder laid first held types laid_is are.0 old) (λ after new.
    unset_all home holder laid others after types laid_is are.1 new)

first_typed : (home : CHome) (holder : CTy) (laid : Laid) (puts : Option CPuts) → AreTypes home.program.types → extent (layouts_of home.program.types) holder ≡ Some laid → IfSome puts (ArePuts home holder)
    → Surely (AreRecordCells home.program laid.size) (first_cells (setting_of home.program) laid.size puts)
first_typed home holder laid None types laid_is are =
    record { all = length-replicate laid.size unset_cell; typed = typed_replicate home.program laid.size unset_cell tt }
first_typed home holder laid (Some puts) types laid_is are =
    unset_all home holder laid puts (replicate laid.size (byte_cell 0)) types laid_is are
    (record { all = length-replicate laid.size (byte_cell 0); typed = typed_replicate home.program laid.size (byte_cell 0) tt })

-- ---- the first write

-- a typed memory with the same live blocks
pub record IsClearedOf (program : CProgram) (before after : Blocks) : Type 0 where
  pub memory : IsTypedMemory program after
  pub shapes : AreSameShapes before after

sized_typed : (program : CProgram) (size : ℕ) (held : List Cell) (test : Bool) → (length held == size) ≡ test → AreRecordCells program size held → Surely (AreRecordCells program size) (if test then Ok held else Err stuck)
sized_typed program size held true e is = is
sized_typed program size held false e is = absurd (true≢false (sym (ap (λ n. n == size) is.all ∙ same_number size) ∙ e))
  where
    same_number : (n : ℕ) → (n == n) ≡ true
    same_number n = grind (arith, nat_tests)

-- all cells of a block
whole_part : (block : Block) (offset : ℕ) (held : List Cell) → offset ≡ 0 → length held ≡ size_of block → record block { cells = held } ≡ with_part block offset held
whole_part block offset held begins many = ap (λ (all : List Cell). record block { cells = all }) cells_are
  where
    cells_are : held ≡ take offset block.cells ++ held ++ drop (offset + length held) block.cells
    cells_are = same_lists _ _ (search (rules, places)) (λ k d l. grind (arith, places))

block_writes : (blocks : Blocks) (at : Ptr) (block : Block) (held : List Cell) → live_block blocks at.block ≡ Some block → at.offset ≡ 0 → length held ≡ size_of block
    → (writes : Writes blocks at (length held) (slice_set blocks at.block (Some (record block { cells = held })))) × (writes.cells ≡ held)
block_writes blocks at block held live begins many = (
  record {
    block = block;
    cells = held;
    live = live;
    many = refl;
    within = omega (arith, begins, many);
    made = ap (λ (new : Block). slice_set blocks at.block (Some new)) (whole_part block at.offset held begins many);
  },
  refl,
)

-- ---- objects that live

-- an object begins at its first byte
slot_begins : (frame : Frame) (number : ℕ) (at : Ptr) → slot_of frame number ≡ Some at → at.offset ≡ 0
slot_begins [] number at e = cc (e)
slot_begins (slot ∷ others) number at e = by (slot.object == number) e (slot_begins others number at)
  where
    by : (test : Bool) → (if test then Some (record { block = slot.block; offset = 0 }) else slot_of others number) ≡ Some at → (slot_of others number ≡ Some at → at.offset ≡ 0) → at.offset ≡ 0
    by true e rest =
        let same : record { block = slot.block; offset = 0 } ≡ at = cc (e) in
        ap (λ (p : Ptr). p.offset) (sym same)
    by false e rest = rest e

-- an object that lives is made anew
pub object_made : (home : CHome) (frame : Frame) (blocks : Blocks) (one : CObject) (puts : Option CPuts) → AreTypes home.program.types → IsTypedMemory home.program blocks → IsAlive home.program frame blocks one
    → IfSome puts (ArePuts home one.type) → Surely (λ (made : CCleared). IsClearedOf home.program blocks made.blocks) (object_cleared (setting_of home.program) frame one.object puts blocks)
object_made home frame blocks one puts types memory own are =
    let Cleared = λ (made : CCleared). IsClearedOf home.program blocks made.blocks in
    surely_and (λ (at : Ptr). at ≡ own.at) Cleared (needed (slot_of frame one.object)) _ (surely_needed (λ (at : Ptr). at ≡ own.at) (slot_of frame one.object) own.at own.at_is refl) (λ at there.
    let live : live_block blocks at.block ≡ Some own.block = ap (λ (p : Ptr). live_block blocks p.block) there ∙ own.live in
    surely_and (λ (block : Block). block ≡ own.block) Cleared (needed (live_block blocks at.block)) _ (surely_needed (λ (block : Block). block ≡ own.block) (live_block blocks at.block) own.block live refl) (λ block same.
    let size : own.laid.size ≡ size_of block = sym own.size ∙ ap size_of (sym same) in
    surely_and (AreRecordCells home.program (size_of block)) Cleared (first_cells (setting_of home.program) (size_of block) puts) _
    (subst (λ n. Surely (AreRecordCells home.program n) (first_cells (setting_of home.program) n puts)) size (first_typed home one.type own.laid puts types own.laid_is are)) (λ given held_is.
    surely_and (AreRecordCells home.program (size_of block)) Cleared (sized (size_of block) given) _ (sized_typed home.program (size_of block) given (length given == size_of block) refl held_is) (λ held good.
    let writes = block_writes blocks at block held (live ∙ ap Some (sym same)) (slot_begins frame one.object at (own.at_is ∙ ap Some (sym there))) good.all in
    record {
      memory = written_typed home.program blocks _ at (length held) writes.0 memory (subst (All (IsTypedCell home.program)) (sym writes.1) good.typed);
      shapes = written_shapes blocks _ at (length held) writes.0;
    }))))
