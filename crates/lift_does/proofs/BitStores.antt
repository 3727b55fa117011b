-- What both have while a number is stored in a bit-field, byte by byte in the crate (ISO C99, 6.5.16.1p2 and 6.7.2.1p9).
use Rattle.std.proofs.Common.{◌≡◌, ℕ, zero, suc, ◌^◌, ◌/◌, ◌%◌, ℤ, Bool, true, false, if◌then◌else◌, length, All, Some, slice_set, Result, Ok, Err, sym, ap, subst, ◌∙◌, arith}
use Rattle.cr_base.specs.Scalar.{residue}
use Rattle.cr_base.specs.declared.scalar.Scalar.{Scalar}
use Rattle.cr_world.specs.Held.{with_blocks}
use Rattle.cr_world.specs.World.{World, blocks_of, with_held, with_memory}
use Rattle.cx_core.specs.Trees.{CProgram}
use Rattle.cx_mean.specs.Accesses.{is_field_place, field_value, CStored, stored_bits}
use Rattle.cx_mean.specs.Marks.{Marks, with_write, bits_of_field}
use Rattle.cx_mean.specs.Operands.{CWhy, stuck, sequenced_after, accessed, CValue, scalar, scalar_value}
use Rattle.cx_mean.specs.Values.{is_of_kind, value_of_kind, number_in}
use Rattle.cx_typed_leftmost.proofs.Worlds.{typed_stepped}
use Rattle.cx_typed_work.proofs.Memories.{typed_none, typed_more, written_typed, written_shapes}
use Rattle.cx_typed_work.specs.ExternalCalls.{KeepsObjects}
use Rattle.cx_typed_work.specs.Scenes.{IsTypedCell, AreSameShapes}
use Rattle.lift_does.proofs.Around.{Around, scope, At}
use Rattle.lift_does.proofs.Nodes.{and_then_is}
use Rattle.lift_does.proofs.Operands.{scalar_is}
use Rattle.lift_does.proofs.Reaching.{at_after}
use Rattle.lift_stands.specs.Stands.{Images}
use Rattle.lift_stands_accesses.proofs.Results.{where_true, accessed_ok, kind_value}
use Rattle.lift_stands_accesses.specs.Objects.{LeftStanding}
use Rattle.lift_stands_lives.proofs.Begun.{worlds_held}
use Rattle.lift_stands_lives.proofs.Pushed.{written_many}
use Rattle.mem_bytes.proofs.Reached.{and_then_ok, changed, part_ok, length_part}
use Rattle.mem_bytes.proofs.Bytes.{length-bit_cells}
use Rattle.mem_bytes.proofs.Written.{field_written}
use Rattle.mem_bytes.specs.Access.{and_then, part_of, block_with_field, part_at, after_put_bits}
use Rattle.mem_bytes.specs.Bits.{bytes_touched, bit_cells, with_field_in}
use Rattle.mem_bytes.specs.Coding.{IsValueOf}
use Rattle.mem_bytes.specs.Laws.{Writes}
use Rattle.mem_bytes.specs.Memory.{Block, Blocks, with_part}
use Rattle.mem_bytes.specs.declared.cell.Cell.TheVariants.{Bits}
use Rattle.mem_bytes.specs.declared.value.Ptr.{Ptr}
use Rattle.mem_bytes.specs.declared.value.Value.{Value}
use Rattle.mem_bytes.specs.declared.value.Value.TheVariants.{Whole, Null, Object, Code as Function}

-- ---- what C stored

abbrev stored_ok : CStored → Result CStored CWhy
stored_ok one = Ok one

-- the rest of a store, by the bits that are put
abbrev bits_put_as : Blocks → Ptr → (bit width : ℕ) → Marks → Scalar → (bits : ℕ) → Result CStored CWhy
bits_put_as blocks at bit width marks kind bits =
    and_then (accessed (part_at blocks at (bytes_touched bit width))) (λ _.
    and_then (sequenced_after marks (bits_of_field at bit width)) (λ range.
    and_then (accessed (after_put_bits blocks at bit width bits)) (λ after.
    and_then (field_value kind width bits) (λ value.
    stored_ok (record { value = scalar value; marks = with_write range marks; blocks = after })))))

pub record StoredBits (blocks : Blocks) (at : Ptr) (bit width : ℕ) (marks : Marks) (new : CValue) (kind : Scalar) (found : CStored) : Type 0 where
  pub profile : is_field_place bit width ≡ true
  pub number : ℤ
  pub new_is : new ≡ scalar (Whole number)
  pub of_kind : IsValueOf kind (Whole number)
  pub after_is : after_put_bits blocks at bit width (residue number (2 ^ width)) ≡ Ok found.blocks
  pub of_c : Value
  pub means : field_value kind width (residue number (2 ^ width)) ≡ Ok of_c
  pub value_is : found.value ≡ scalar of_c
  -- so it is with each number that has these low bits
  pub again : (other : ℤ) → is_of_kind kind (Whole other) ≡ true → residue other (2 ^ width) ≡ residue number (2 ^ width) → stored_bits blocks at bit width marks (scalar (Whole other)) kind ≡ Ok found

number_is : (value : Value) (number : ℤ) → number_in value ≡ Ok number → value ≡ Whole number
number_is (Whole other) number e = let same : other ≡ number = cc (e) in ap Whole same
number_is Null number e = cc (e)
number_is (Object at) number e = cc (e)
number_is (Function code) number e = cc (e)

pub bits_stored_is : (blocks : Blocks) (at : Ptr) (bit width : ℕ) (marks : Marks) (new : CValue) (kind : Scalar) (found : CStored) → stored_bits blocks at bit width marks new kind ≡ Ok found → StoredBits blocks at bit width marks new kind found
bits_stored_is blocks at bit width marks new kind found e =
    let outer = where_true (is_field_place bit width) _ found e in
    let one = and_then_is (value_of_kind kind new) _ found outer.1 in
    let value = and_then_is (scalar_value new) _ one.0 one.1 in
    let tests = where_true (is_of_kind kind value.0) (Ok value.0) one.0 value.2 in
    let same : value.0 ≡ one.0 = let is = tests.1 in cc (is) in
    let number = and_then_is (number_in one.0) (λ n. bits_put_as blocks at bit width marks kind (residue n (2 ^ width))) found one.2 in
    let whole = number_is one.0 number.0 number.1 in
    let bits = residue number.0 (2 ^ width) in
    let part = and_then_is (accessed (part_at blocks at (bytes_touched bit width))) _ found number.2 in
    let range = and_then_is (sequenced_after marks (bits_of_field at bit width)) _ found part.2 in
    let after = and_then_is (accessed (after_put_bits blocks at bit width bits)) _ found range.2 in
    let of_c = and_then_is (field_value kind width bits) _ found after.2 in
    let made : record { value = scalar of_c.0; marks = with_write range.0 marks; blocks = after.0 } ≡ found = let is = of_c.2 in cc (is) in
    record {
      profile = outer.0;
      number = number.0;
      new_is = scalar_is new value.0 value.1 ∙ ap scalar (same ∙ whole);
      of_kind = subst (IsValueOf kind) (same ∙ whole) (kind_value kind value.0 tests.0);
      after_is = accessed_ok (after_put_bits blocks at bit width bits) after.0 after.1 ∙ ap (λ (s : CStored). Ok s.blocks) made;
      of_c = of_c.0;
      means = of_c.1;
      value_is = ap (λ (s : CStored). s.value) (sym made);
      again = λ other is low.
          ap (λ (test : Bool). if test then and_then (value_of_kind kind (scalar (Whole other))) (λ v. and_then (number_in v) (λ n. bits_put_as blocks at bit width marks kind (residue n (2 ^ width)))) else Err stuck) outer.0
          ∙ ap (λ (test : Bool). and_then (if test then Ok (Whole other) else Err stuck) (λ v. and_then (number_in v) (λ n. bits_put_as blocks at bit width marks kind (residue n (2 ^ width))))) is
          ∙ ap (λ (n : ℕ). bits_put_as blocks at bit width marks kind n) low
          ∙ number.2;
    }

-- ---- memory behind some of the bits

bits_typed : (program : CProgram) (count bits set : ℕ) → All (IsTypedCell program) (bit_cells count bits set)
bits_typed program zero bits set = typed_none program
bits_typed program (suc count) bits set = typed_more program (Bits (bits % 256) (set % 256)) (bit_cells count (bits / 256) (set / 256)) tt (bits_typed program count (bits / 256) (set / 256))

typed_writes : (program : CProgram) (memory after : Blocks) (at : Ptr) (bit width field : ℕ) → after_put_bits memory at bit width field ≡ Ok after → (writes : Writes memory at (bytes_touched bit width) after) × All (IsTypedCell program) writes.cells
typed_writes program memory after at bit width field e =
    let change = changed memory after at.block (λ block. block_with_field block at.offset bit width field) e in
    let parts = and_then_ok (part_of change.block at.offset (bytes_touched bit width)) (λ cells. and_then (with_field_in bit width field cells) (λ put. Ok (with_part change.block at.offset put))) change.new change.stepped in
    let fields = and_then_ok (with_field_in bit width field parts.0) (λ put. Ok (with_part change.block at.offset put)) change.new parts.2 in
    let written = field_written bit width field parts.0 fields.0 fields.1 in
    let new : change.new ≡ with_part change.block at.offset fields.0 = let is = fields.2 in cc (is) in (
      record {
        block = change.block;
        cells = fields.0;
        live = change.live;
        many = ap length written.made ∙ length-bit_cells (length parts.0) _ _ ∙ length_part change.block at.offset (bytes_touched bit width) parts.0 parts.1;
        within = (part_ok change.block at.offset (bytes_touched bit width) parts.0 parts.1).0;
        made = change.made ∙ ap (λ (block : Block). slice_set memory at.block (Some block)) new;
      },
      subst (All (IsTypedCell program)) (sym written.made) (bits_typed program (length parts.0) _ _),
    )

module _ (x : Around) where
  -- both stand in the midst of a store
  pub record Midst (last : Images) (c_world world : World) (part beyond : Blocks) : Type 0 where
    pub at : At x last (with_memory part c_world) (with_held (with_blocks beyond world.held) world)
    pub keeps : KeepsObjects c_world.held (with_blocks part c_world.held)
    pub shapes : AreSameShapes (blocks_of c_world) part

  pub in_the_midst : (last : Images) (c_world world : World) (at : Ptr) (bit many field : ℕ) (part beyond : Blocks) → At x last c_world world → after_put_bits (blocks_of c_world) at bit many field ≡ Ok part → LeftStanding last c_world.held world.held part beyond →
      Midst last c_world world part beyond
  in_the_midst last c_world world at bit many field part beyond here e left =
      let writes = typed_writes x.home.program (blocks_of c_world) part at bit many field e in
      let shapes = written_shapes (blocks_of c_world) part at (bytes_touched bit many) writes.0 in
      let memory = written_typed x.home.program (blocks_of c_world) part at (bytes_touched bit many) writes.0 here.typed.scene.memory writes.1 in
      let typed = typed_stepped x.home (scope x) c_world part shapes memory here.typed in
      record {
        at = at_after x last last (λ _. false) c_world world (with_memory part c_world) (with_held (with_blocks beyond world.held) world) here (left.keeps (length (blocks_of world)) (λ _. false))
            (worlds_held last last c_world world (with_blocks part c_world.held) (with_blocks beyond world.held) here.worlds left.stands) typed;
        keeps = record {
          grows = omega (arith, written_many (blocks_of c_world) part at (bytes_touched bit many) writes.0);
          lives = λ number within unlisted. shapes.each number;
          not_allocated = λ number within unlisted. unlisted;
        };
        shapes = shapes;
      }
