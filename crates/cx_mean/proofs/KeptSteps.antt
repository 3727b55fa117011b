-- What isn't among the writes of an expression's marks stays: the steps of its nodes.
use Rattle.std.proofs.Common.{◌≡◌, ℕ, zero, suc, ◌+◌, Bool, true, false, ◌==◌, if◌then◌else◌, All, List, [], ◌∷◌, ◌++◌, length, take, drop, replicate, slice_set, Option, Some, None, Result, Ok, Err, refl, sym, ap, subst, ◌∙◌, arith}
use Rattle.std.proofs.lemmas.List.{append-nil}
use Rattle.std.proofs.lemmas.List.Elements.{All-append, All-take, All-drop, All-replicate}
use Rattle.cr_base.specs.declared.layout.Spot.{Spot}
use Rattle.cr_base.specs.declared.rule.URule.TheVariants.{U1}
use Rattle.cx_core.specs.Trees.{CTy, unqualified, CForm, whole, null, object, code, load, deref, member, address, convert, unary, binary, and, or, cond, assign, assign_by, step, call, call_by, comma, literal, put, CPuts, no_puts, more_puts, type_of}
use Rattle.cx_mean.specs.Accesses.{CLoaded, loaded, CStored, sized, stored}
use Rattle.cx_mean.specs.Initialisers.{part_place, with_cells, field_unset, unset_by, unset_put, unset_puts, first_cells, CCleared, object_cleared, put_stored}
use Rattle.cx_mean.specs.Marks.{Marks, Range, conflict, both, bits_of_bytes}
use Rattle.cx_mean.specs.Nodes.{CDone, node_done, unary_done, binary_done, deref_value, address_value, member_value, typed_value, CChange, changes, updating, CUpdating, node_updating, update_stored, update_value, literal_cleared}
use Rattle.cx_mean.specs.Operands.{CWhy, breaks, needed, CValue, scalar, COperand, united_operands, Frame, slot_of, place_in, scalar_value}
use Rattle.cx_mean.specs.Settings.{CSetting, extent_in}
use Rattle.cx_mean.specs.Unwritten.{KeepsBeside}
use Rattle.cx_mean.specs.Values.{unary_value, binary_value, converted_value}
use Rattle.cx_mean.specs.Work.{CUpdate}
use Rattle.cx_mean.proofs.Kept.{Covers, keeps_write, held_written}
use Rattle.cx_mean.proofs.KeptNodes.{IfGiven, given_and, given_then, given_else, given_sized, IsHeldValue, KeptSince, Kept, load_keeps, store_keeps, member_held, pointed_held, converted_held, held_scalar}
use Rattle.mem_bytes.proofs.Windows.{bytes_all}
use Rattle.mem_bytes.specs.Access.{and_then}
use Rattle.mem_bytes.specs.Bits.{bytes_touched, with_field}
use Rattle.mem_bytes.specs.Coding.{bits_of, set_of}
use Rattle.mem_bytes.specs.declared.cell.Cell.{Cell}
use Rattle.mem_bytes.specs.declared.value.Ptr.{Ptr}
use Rattle.mem_bytes.specs.declared.value.Value.{Value}
use Rattle.mem_bytes.specs.Laws.{Writes, IsHeld, HoldsCells}
use Rattle.mem_bytes.specs.Memory.{Block, Blocks, live_block, size_of, unset_cell, byte_cell, with_part}

-- ---- what operands wrote

abbrev pub writes_in : List COperand → List Range
writes_in [] = []
writes_in (first ∷ others) = first.marks.writes ++ writes_in others

pub united_writes : (operands : List COperand) → IfGiven (λ (all : Marks). all.writes ≡ writes_in operands) (united_operands operands)
united_writes [] = refl
united_writes (first ∷ others) =
    given_and (λ (rest : Marks). rest.writes ≡ writes_in others) (λ (all : Marks). all.writes ≡ first.marks.writes ++ writes_in others) (united_operands others) _ (united_writes others)
    (λ rest same. given_else (λ (all : Marks). all.writes ≡ first.marks.writes ++ writes_in others) (conflict first.marks rest) (breaks U1) (both first.marks rest)
    (ap (λ (ranges : List Range). first.marks.writes ++ ranges) same))

-- the operands of a node after their evaluation
pub record Operands (base : List Range) (before : Blocks) (operands : List COperand) (now : Blocks) : Type 0 where
  pub stays : KeepsBeside (writes_in operands) before now
  pub covers : Covers (writes_in operands) base
  pub held : HoldsCells now

pub kept_united : (base : List Range) (before now : Blocks) (operands : List COperand) (marks : Marks) → Operands base before operands now → marks.writes ≡ writes_in operands → Kept base before marks now
kept_united base before now operands marks are same = record {
  stays = subst (λ (ranges : List Range). KeepsBeside ranges before now) (sym same) are.stays;
  covers = subst (λ (ranges : List Range). Covers ranges base) (sym same) are.covers;
  held = are.held;
}

-- ---- nodes that need all their operands

abbrev pub Done : List Range → Blocks → CDone → Type 0
Done base before one = KeptSince base before one.value one.marks one.blocks

-- a step that leaves memory as it is
given_value : (base : List Range) (before now : Blocks) (marks : Marks) (outcome : Result CValue CWhy) → Kept base before marks now → IfGiven IsHeldValue outcome →
    IfGiven (Done base before) (and_then outcome (λ value. Ok (record { value = value; marks = marks; blocks = now })))
given_value base before now marks (Ok value) kept is = record { stays = kept.stays; covers = kept.covers; held = kept.held; value_held = is }
given_value base before now marks (Err why) kept is = tt

given_load : (base : List Range) (before now : Blocks) (outcome : Result CLoaded CWhy) → IfGiven (λ (one : CLoaded). KeptSince base before one.value one.marks now) outcome →
    IfGiven (Done base before) (and_then outcome (λ one. Ok (record { value = one.value; marks = one.marks; blocks = now })))
given_load base before now (Ok one) is = is
given_load base before now (Err why) is = tt

pub given_store : (base : List Range) (before : Blocks) (outcome : Result CStored CWhy) → IfGiven (λ (one : CStored). KeptSince base before one.value one.marks one.blocks) outcome →
    IfGiven (Done base before) (and_then outcome (λ one. Ok (record { value = one.value; marks = one.marks; blocks = one.blocks })))
given_store base before (Ok one) is = is
given_store base before (Err why) is = tt

unary_keeps : (setting : CSetting) (type : CTy) (form : CForm) (frame : Frame) (base : List Range) (before now : Blocks) (marks : Marks) (one : COperand) → Kept base before marks now → IsHeldValue one.value →
    IfGiven (Done base before) (unary_done setting type form frame marks now one)
unary_keeps setting type (load from) frame base before now marks one kept is = given_load base before now _ (load_keeps setting frame base before now type one.value marks kept)
unary_keeps setting type (deref from) frame base before now marks one kept is =
    given_value base before now marks (deref_value one.value) kept (given_then IsHeldValue (scalar_value one.value) _ pointed_held)
unary_keeps setting type (member of spot) frame base before now marks one kept is =
    given_value base before now marks (member_value setting frame now type (type_of of) spot one.value) kept (member_held setting frame now type (type_of of) spot one.value is)
unary_keeps setting type (address of) frame base before now marks one kept is =
    given_value base before now marks (address_value frame one.value) kept (held_scalar (place_in frame one.value))
unary_keeps setting type (convert value) frame base before now marks one kept is =
    given_value base before now marks (converted_value setting type now one.value) kept (converted_held setting type now one.value)
unary_keeps setting type (unary op value) frame base before now marks one kept is =
    given_value base before now marks _ kept (given_then IsHeldValue (scalar_value one.value) _ (λ given. held_scalar (unary_value setting op type now given)))
unary_keeps setting type (whole number) frame base before now marks one kept is = tt
unary_keeps setting type null frame base before now marks one kept is = tt
unary_keeps setting type (object number) frame base before now marks one kept is = tt
unary_keeps setting type (code number) frame base before now marks one kept is = tt
unary_keeps setting type (binary op left right) frame base before now marks one kept is = tt
unary_keeps setting type (and left right) frame base before now marks one kept is = tt
unary_keeps setting type (or left right) frame base before now marks one kept is = tt
unary_keeps setting type (cond test first second) frame base before now marks one kept is = tt
unary_keeps setting type (assign target value) frame base before now marks one kept is = tt
unary_keeps setting type (assign_by op computes target value) frame base before now marks one kept is = tt
unary_keeps setting type (step up post on) frame base before now marks one kept is = tt
unary_keeps setting type (call callee args) frame base before now marks one kept is = tt
unary_keeps setting type (call_by callee args) frame base before now marks one kept is = tt
unary_keeps setting type (comma first second) frame base before now marks one kept is = tt
unary_keeps setting type (literal number puts) frame base before now marks one kept is = tt

pub one_keeps : (setting : CSetting) (type : CTy) (form : CForm) (frame : Frame) (base : List Range) (before now : Blocks) (one : COperand) → Operands base before (one ∷ []) now → IsHeldValue one.value →
    IfGiven (Done base before) (node_done setting type form frame now (one ∷ []))
one_keeps setting type form frame base before now one are is =
    given_and (λ (marks : Marks). marks.writes ≡ writes_in (one ∷ [])) (Done base before) (united_operands (one ∷ [])) _ (united_writes (one ∷ [])) (λ marks same.
    unary_keeps setting type form frame base before now marks one (kept_united base before now (one ∷ []) marks are same) is)

pub binary_keeps : (setting : CSetting) (type : CTy) (op : _) (left right : _) (frame : Frame) (base : List Range) (before now : Blocks) (marks : Marks) (one other : COperand) → Kept base before marks now →
    IfGiven (Done base before) (binary_done setting type (binary op left right) frame marks now one other)
binary_keeps setting type op left right frame base before now marks one other kept =
    given_value base before now marks _ kept
    (given_then IsHeldValue (typed_value one) _ (λ first.
    given_then IsHeldValue (typed_value other) _ (λ second. held_scalar (binary_value setting op type now first second))))

pub operator_keeps : (setting : CSetting) (type : CTy) (op : _) (left right : _) (frame : Frame) (base : List Range) (before now : Blocks) (one other : COperand) → Operands base before (one ∷ other ∷ []) now →
    IfGiven (Done base before) (node_done setting type (binary op left right) frame now (one ∷ other ∷ []))
operator_keeps setting type op left right frame base before now one other are =
    given_and (λ (marks : Marks). marks.writes ≡ writes_in (one ∷ other ∷ [])) (Done base before) (united_operands (one ∷ other ∷ [])) _ (united_writes (one ∷ other ∷ [])) (λ marks same.
    binary_keeps setting type op left right frame base before now marks one other (kept_united base before now (one ∷ other ∷ []) marks are same))

pub assign_keeps : (setting : CSetting) (type : CTy) (target value : _) (frame : Frame) (base : List Range) (before now : Blocks) (one other : COperand) → Operands base before (one ∷ other ∷ []) now → IsHeldValue other.value →
    IfGiven (Done base before) (node_done setting type (assign target value) frame now (one ∷ other ∷ []))
assign_keeps setting type target value frame base before now one other are is =
    given_and (λ (marks : Marks). marks.writes ≡ writes_in (one ∷ other ∷ [])) (Done base before) (united_operands (one ∷ other ∷ [])) _ (united_writes (one ∷ other ∷ [])) (λ marks same.
    given_store base before _ (store_keeps setting frame base before now type one.value other.value marks is (kept_united base before now (one ∷ other ∷ []) marks are same)))

-- ---- `op=`, `++` and `--`

abbrev pub Updating : List Range → Blocks → Blocks → CUpdating → Type 0
Updating base before now one = Kept base before one.marks now

updating_kept : (base : List Range) (before now : Blocks) (change : CChange) (one : CLoaded) → KeptSince base before one.value one.marks now → IfGiven (Updating base before now) (updating change one)
updating_kept base before now change one is = given_then (Updating base before now) (scalar_value one.value) _ (λ old. record { stays = is.stays; covers = is.covers; held = is.held })

pub updating_keeps : (setting : CSetting) (form : CForm) (frame : Frame) (base : List Range) (before now : Blocks) (operands : List COperand) → Operands base before operands now →
    IfGiven (Updating base before now) (node_updating setting form frame now operands)
updating_keeps setting form frame base before now operands are =
    given_and (λ (marks : Marks). marks.writes ≡ writes_in operands) (Updating base before now) (united_operands operands) _ (united_writes operands) (λ marks same.
    given_then (Updating base before now) (changes setting form operands) _ (λ change.
    given_and (λ (one : CLoaded). KeptSince base before one.value one.marks now) (Updating base before now) (loaded setting frame now (unqualified change.target.type) change.target.value marks) _
    (load_keeps setting frame base before now (unqualified change.target.type) change.target.value marks (kept_united base before now operands marks are same))
    (λ one is. updating_kept base before now change one is)))

update_held : (is_postfix : Bool) (old : Value) (value : CValue) → IsHeldValue value → IsHeldValue (update_value is_postfix old value)
update_held true old value is = tt
update_held false old value is = is

pub update_keeps : (setting : CSetting) (frame : Frame) (base : List Range) (before now : Blocks) (update : CUpdate) (marks : Marks) (new : Value) → Kept base before marks now →
    IfGiven (Done base before) (update_stored setting frame now update marks new)
update_keeps setting frame base before now update marks new kept =
    given_and (λ (one : CStored). KeptSince base before one.value one.marks one.blocks) (Done base before) (stored setting frame now update.target_type update.target (scalar new) marks) _
    (store_keeps setting frame base before now update.target_type update.target (scalar new) marks tt kept) (λ one is.
    record { stays = is.stays; covers = is.covers; held = is.held; value_held = update_held update.is_postfix update.old one.value is.value_held })

-- ---- compound literals

others_held : (offset : ℕ) (new held : List Cell) → All IsHeld new → All IsHeld held → All IsHeld (with_cells offset new held)
others_held offset new held are were =
    All-append IsHeld (take offset held ++ new) (drop (offset + length new) held)
    (All-append IsHeld (take offset held) new (All-take IsHeld offset held were) are)
    (All-drop IsHeld (offset + length new) held were)

unset_held : (spot : Spot) (size width : ℕ) (held : List Cell) → All IsHeld held → All IsHeld (unset_by spot size width held)
unset_held spot size zero held were =
    others_held spot.byte (replicate size unset_cell) held (All-replicate IsHeld size unset_cell (omega arith, omega arith)) were
unset_held spot size (suc n) held were =
    let part = take (bytes_touched spot.bit (suc n)) (drop spot.byte held) in
    others_held spot.byte (field_unset spot.bit (suc n) part) held (bytes_all (length part) (bits_of part) (with_field spot.bit (suc n) 0 (set_of part))) were

puts_held : (setting : CSetting) (puts : CPuts) (held : List Cell) → All IsHeld held → IfGiven (All IsHeld) (unset_puts setting puts held)
puts_held setting no_puts held were = were
puts_held setting (more_puts (put spot type value) others) held were =
    given_and (All IsHeld) (All IsHeld) (unset_put setting (put spot type value) held) (λ after. unset_puts setting others after)
    (given_then (All IsHeld) (needed (extent_in setting type)) _ (λ laid. unset_held spot laid.size spot.width held were))
    (λ after are. puts_held setting others after are)

-- an object in scope is the start of its block
slot_starts : (frame : Frame) (number : ℕ) → IfGiven (λ (at : Ptr). at.offset ≡ 0) (needed (slot_of frame number))
slot_starts [] number = tt
slot_starts (slot ∷ others) number = from_test (slot.object == number) (slot_starts others number)
  where
    from_test : (same : Bool) → IfGiven (λ (at : Ptr). at.offset ≡ 0) (needed (slot_of others number)) →
        IfGiven (λ (at : Ptr). at.offset ≡ 0) (needed (if same then Some (record { block = slot.block; offset = 0 }) else slot_of others number))
    from_test true rest = refl
    from_test false rest = rest

live_given : (slot : Option Block) → IfGiven (λ (block : Block). slot ≡ Some block) (needed slot)
live_given None = tt
live_given (Some block) = refl

-- all cells of a block are others
whole_part : (block : Block) (offset : ℕ) (held : List Cell) → offset ≡ 0 → length held ≡ size_of block → with_part block offset held ≡ record block { cells = held }
whole_part block offset held start many =
    let all : 0 + length held ≡ length block.cells = omega (arith, many) in
    rw start
    (ap (λ (found : List Cell). record block { cells = found })
    (ap (λ (rest : List Cell). held ++ rest) (ap (λ n. drop n block.cells) all ∙ drop_all block.cells) ∙ append-nil held))
  where
    drop_all : (xs : List Cell) → drop (length xs) xs ≡ []
    drop_all [] = refl
    drop_all (x ∷ xs) = drop_all xs

clear_writes : (now : Blocks) (at : Ptr) (block : Block) (held : List Cell) → live_block now at.block ≡ Some block → at.offset ≡ 0 → length held ≡ size_of block →
    (writes : Writes now at (size_of block) (slice_set now at.block (Some (record block { cells = held })))) × (writes.cells ≡ held)
clear_writes now at block held live start many = (
  record {
    block = block;
    cells = held;
    live = live;
    many = many;
    within = omega (arith, start);
    made = ap (λ (one : Block). slice_set now at.block (Some one)) (sym (whole_part block at.offset held start many));
  },
  refl,
)

-- what the clearing of an object keeps
abbrev Cleared : Blocks → CCleared → Type 0
Cleared now one = KeepsBeside (bits_of_bytes one.at one.size ∷ []) now one.blocks × HoldsCells one.blocks

clear_keeps : (setting : CSetting) (frame : Frame) (number : ℕ) (puts : CPuts) (now : Blocks) → HoldsCells now → IfGiven (Cleared now) (object_cleared setting frame number (Some puts) now)
clear_keeps setting frame number puts now were =
    given_and (λ (at : Ptr). at.offset ≡ 0) (Cleared now) (needed (slot_of frame number)) _ (slot_starts frame number) (λ at start.
    given_and (λ (block : Block). live_block now at.block ≡ Some block) (Cleared now) (needed (live_block now at.block)) _ (live_given (live_block now at.block)) (λ block live.
    given_and (All IsHeld) (Cleared now) (first_cells setting (size_of block) (Some puts)) _
    (puts_held setting puts (replicate (size_of block) (byte_cell 0)) (All-replicate IsHeld (size_of block) (byte_cell 0) (omega arith, omega arith))) (λ given are.
    given_and (λ (found : List Cell). All IsHeld found × (length found ≡ size_of block)) (Cleared now) (sized (size_of block) given) _ (given_sized (size_of block) given are) (λ held is.
    let writes = clear_writes now at block held live start is.1 in
    (keeps_write now _ at (size_of block) writes.0, held_written now _ at (size_of block) writes.0 were (subst (All IsHeld) (sym writes.1) is.0))))))

pub literal_keeps : (setting : CSetting) (frame : Frame) (now : Blocks) (number : ℕ) (puts : CPuts) → HoldsCells now →
    IfGiven (λ (one : CDone). Kept [] now one.marks one.blocks) (literal_cleared setting frame now number puts)
literal_keeps setting frame now number puts were =
    given_and (Cleared now) (λ (one : CDone). Kept [] now one.marks one.blocks) (object_cleared setting frame number (Some puts) now) _ (clear_keeps setting frame number puts now were) (λ one is.
    record { stays = is.0; covers = λ range avoids. refl; held = is.1 })

pub put_keeps : (setting : CSetting) (frame : Frame) (base : List Range) (before now : Blocks) (number : ℕ) (spot : Spot) (type : CTy) (operand : COperand) → Kept base before operand.marks now → IsHeldValue operand.value →
    IfGiven (λ (one : CStored). KeptSince base before one.value one.marks one.blocks) (put_stored setting frame now number spot type operand)
put_keeps setting frame base before now number spot type operand kept is =
    given_then (λ (one : CStored). KeptSince base before one.value one.marks one.blocks) (needed (slot_of frame number)) _ (λ at.
    store_keeps setting frame base before now type (part_place at spot) operand.value operand.marks is kept)
