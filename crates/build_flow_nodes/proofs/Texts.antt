-- Worked examples: bodies of C as Rust prints them, each with a shape that fits its flow (ISO C99, 6.8).
use Rattle.std.specs.Prelude.{◌≡◌, List, [], ◌∷◌, codes, refl}
use Rattle.std.specs.Fmt.{digits}
use Rattle.build_flow_nodes.specs.Example.{giving_int, giving_nothing, giving_record, beside_bits}
use Rattle.build_flow_nodes.specs.Flows.{flow_of}
use Rattle.build_flow_nodes.proofs.Worked.{again, counted, default_between, done_once, duff, early, entered, entered_inside, fall_through, given_record, jumping, left_by_return, left_far, maybe, own_counter, record_declared, record_filled, second_test, sides, straight, turn_end, unused_label}
use Rattle.cx_core.specs.Trees.{CStmt}
use Rattle.emit_rules.specs.Bodies.{emitted}
use Rattle.reloop.specs.Shapes.{ShapeTree, simple, blocks, loop, dispatch, shapes}
use Rattle.rs_text.specs.declared.line.Line.{Line}
use Rattle.rs_text.specs.Lines.{line, stmts_lines, address_of as begins_address}

-- the printed body of a function that gives an `int`
abbrev reads : CStmt → ShapeTree → List Line
reads body shape = stmts_lines 0 (emitted (flow_of giving_int body) shape)

straight_reads : reads straight (simple 0) ≡ line 0 (codes "x = 1i32;") ∷ line 0 (codes "return x;") ∷ []
unfolding digits
straight_reads = refl

sides_reads : reads sides (blocks (shapes (simple 0 ∷ simple 1 ∷ simple 2 ∷ simple 3 ∷ [])))
    ≡ line 0 (codes "if c != 0i32 {")
    ∷ line 1 (codes "x = 1i32;")
    ∷ line 0 (codes "} else {")
    ∷ line 1 (codes "x = 2i32;")
    ∷ line 0 (codes "}")
    ∷ line 0 (codes "return x;") ∷ []
unfolding digits
sides_reads = refl

counted_reads : reads counted (blocks (shapes (simple 0 ∷ loop 1 (blocks (shapes (simple 1 ∷ simple 2 ∷ []))) ∷ simple 3 ∷ [])))
    ≡ line 0 (codes "'l0: loop {")
    ∷ line 1 (codes "if n == 0i32 {")
    ∷ line 2 (codes "break 'l0;")
    ∷ line 1 (codes "}")
    ∷ line 1 (codes "n = n - 1i32;")
    ∷ line 0 (codes "}")
    ∷ line 0 (codes "return n;") ∷ []
unfolding digits
counted_reads = refl

jumping_reads : reads jumping (blocks (shapes (simple 0 ∷ loop 1 (blocks (shapes (simple 1 ∷ simple 2 ∷ simple 3 ∷ simple 4 ∷ simple 6 ∷ simple 7 ∷ []))) ∷ simple 5 ∷ simple 8 ∷ [])))
    ≡ line 0 (codes "i = 0i32;")
    ∷ line 0 (codes "'l0: loop {")
    ∷ line 1 (codes "if i >= n {")
    ∷ line 2 (codes "break 'l0;")
    ∷ line 1 (codes "}")
    ∷ line 1 (codes "if i != 3i32 {")
    ∷ line 2 (codes "if i == 7i32 {")
    ∷ line 3 (codes "break 'l0;")
    ∷ line 2 (codes "}")
    ∷ line 2 (codes "x = x + i;")
    ∷ line 1 (codes "}")
    ∷ line 1 (codes "i = i + 1i32;")
    ∷ line 0 (codes "}")
    ∷ line 0 (codes "return x;") ∷ []
unfolding digits
jumping_reads = refl

done_once_reads : reads done_once (blocks (shapes (simple 0 ∷ loop 1 (blocks (shapes (simple 1 ∷ simple 2 ∷ simple 3 ∷ simple 4 ∷ []))) ∷ simple 5 ∷ [])))
    ≡ line 0 (codes "'l0: loop {")
    ∷ line 1 (codes "n = n - 1i32;")
    ∷ line 1 (codes "if n != 2i32 {")
    ∷ line 2 (codes "x = x + n;")
    ∷ line 1 (codes "}")
    ∷ line 1 (codes "if n <= 0i32 {")
    ∷ line 2 (codes "break 'l0;")
    ∷ line 1 (codes "}")
    ∷ line 0 (codes "}")
    ∷ line 0 (codes "return x;") ∷ []
unfolding digits
done_once_reads = refl

fall_through_reads : reads fall_through (blocks (shapes (simple 0 ∷ simple 1 ∷ simple 2 ∷ simple 3 ∷ simple 4 ∷ [])))
    ≡ line 0 (codes "'l0: {")
    ∷ line 1 (codes "match n {")
    ∷ line 2 (codes "1i32 => {")
    ∷ line 3 (codes "x = 1i32;")
    ∷ line 3 (codes "break 'l0;")
    ∷ line 2 (codes "}")
    ∷ line 2 (codes "2i32 => {")
    ∷ line 3 (codes "x = 2i32;")
    ∷ line 2 (codes "}")
    ∷ line 2 (codes "_ => {")
    ∷ line 2 (codes "}")
    ∷ line 1 (codes "}")
    ∷ line 1 (codes "x = 3i32;")
    ∷ line 0 (codes "}")
    ∷ line 0 (codes "return x;") ∷ []
unfolding digits
fall_through_reads = refl

left_far_reads : reads left_far (blocks (shapes (simple 0 ∷ loop 1 (blocks (shapes (simple 1 ∷ simple 2 ∷ simple 4 ∷ []))) ∷ simple 5 ∷ simple 3 ∷ simple 6 ∷ [])))
    ≡ line 0 (codes "'l0: {")
    ∷ line 1 (codes "'l1: loop {")
    ∷ line 2 (codes "if c == 0i32 {")
    ∷ line 3 (codes "break 'l1;")
    ∷ line 2 (codes "}")
    ∷ line 2 (codes "if d != 0i32 {")
    ∷ line 3 (codes "break 'l0;")
    ∷ line 2 (codes "}")
    ∷ line 2 (codes "x = 1i32;")
    ∷ line 1 (codes "}")
    ∷ line 1 (codes "x = 2i32;")
    ∷ line 0 (codes "}")
    ∷ line 0 (codes "return x;") ∷ []
unfolding digits
left_far_reads = refl

entered_reads : reads entered (blocks (shapes (simple 0 ∷ simple 1 ∷ simple 2 ∷ simple 3 ∷ [])))
    ≡ line 0 (codes "if c == 0i32 {")
    ∷ line 1 (codes "y = 5i32;")
    ∷ line 0 (codes "}")
    ∷ line 0 (codes "x = y;")
    ∷ line 0 (codes "return x;") ∷ []
unfolding digits
entered_reads = refl

duff_reads : reads duff (blocks (shapes (simple 0 ∷ simple 1 ∷ dispatch (2 ∷ 3 ∷ []) (blocks (shapes (simple 2 ∷ simple 3 ∷ []))) ∷ simple 4 ∷ [])))
    ≡ line 0 (codes "'l0: {")
    ∷ line 1 (codes "match n {")
    ∷ line 2 (codes "0i32 => {")
    ∷ line 3 (codes "current_block = 2u32;")
    ∷ line 2 (codes "}")
    ∷ line 2 (codes "3i32 => {")
    ∷ line 3 (codes "current_block = 3u32;")
    ∷ line 2 (codes "}")
    ∷ line 2 (codes "_ => {")
    ∷ line 3 (codes "break 'l0;")
    ∷ line 2 (codes "}")
    ∷ line 1 (codes "}")
    ∷ line 1 (codes "'l1: loop {")
    ∷ line 2 (codes "match current_block {")
    ∷ line 3 (codes "2u32 => {")
    ∷ line 4 (codes "x = 1i32;")
    ∷ line 3 (codes "}")
    ∷ line 3 (codes "3u32 => {")
    ∷ line 3 (codes "}")
    ∷ line 3 (codes "_ => {")
    ∷ line 3 (codes "}")
    ∷ line 2 (codes "}")
    ∷ line 2 (codes "x = 2i32;")
    ∷ line 2 (codes "if i >= n {")
    ∷ line 3 (codes "break 'l1;")
    ∷ line 2 (codes "}")
    ∷ line 2 (codes "current_block = 2u32;")
    ∷ line 1 (codes "}")
    ∷ line 0 (codes "}")
    ∷ line 0 (codes "return x;") ∷ []
unfolding digits
duff_reads = refl

maybe_reads : stmts_lines 0 (emitted (flow_of giving_nothing maybe) (blocks (shapes (simple 0 ∷ simple 1 ∷ simple 2 ∷ []))))
    ≡ line 0 (codes "if c != 0i32 {") ∷ line 1 (codes "x = 1i32;") ∷ line 0 (codes "}") ∷ []
unfolding digits
maybe_reads = refl

given_record_reads : stmts_lines 0 (emitted (flow_of giving_record given_record) (blocks (shapes (simple 0 ∷ simple 1 ∷ simple 2 ∷ []))))
    ≡ line 0 (codes "if c != 0i32 {")
    ∷ line 1 (codes "core::ptr::copy(core::ptr::addr_of_mut!(s) as *mut u8, result as *mut u8, 16usize);")
    ∷ line 1 (codes "return;")
    ∷ line 0 (codes "}")
    ∷ line 0 (codes "crate::m::make(core::ptr::addr_of_mut!(t));")
    ∷ line 0 (codes "core::ptr::copy(core::ptr::addr_of_mut!(t) as *mut u8, result as *mut u8, 16usize);") ∷ []
unfolding digits begins_address
given_record_reads = refl

second_test_reads : reads second_test (blocks (shapes (simple 0 ∷ simple 1 ∷ simple 2 ∷ simple 3 ∷ simple 4 ∷ [])))
    ≡ line 0 (codes "if c != 0i32 {")
    ∷ line 1 (codes "x = 1i32;")
    ∷ line 0 (codes "} else {")
    ∷ line 1 (codes "if d != 0i32 {")
    ∷ line 2 (codes "x = 2i32;")
    ∷ line 1 (codes "}")
    ∷ line 0 (codes "}")
    ∷ line 0 (codes "return x;") ∷ []
unfolding digits
second_test_reads = refl

again_reads : reads again (blocks (shapes (simple 0 ∷ loop 1 (blocks (shapes (simple 1 ∷ simple 2 ∷ []))) ∷ simple 3 ∷ [])))
    ≡ line 0 (codes "'l0: loop {")
    ∷ line 1 (codes "n = n - 1i32;")
    ∷ line 1 (codes "if n == 0i32 {")
    ∷ line 2 (codes "break 'l0;")
    ∷ line 1 (codes "}")
    ∷ line 0 (codes "}")
    ∷ line 0 (codes "return n;") ∷ []
unfolding digits
again_reads = refl

turn_end_reads : reads turn_end (blocks (shapes (simple 0 ∷ loop 1 (blocks (shapes (simple 1 ∷ simple 2 ∷ simple 3 ∷ simple 4 ∷ simple 5 ∷ []))) ∷ simple 6 ∷ [])))
    ≡ line 0 (codes "'l0: loop {")
    ∷ line 1 (codes "if c == 0i32 {")
    ∷ line 2 (codes "break 'l0;")
    ∷ line 1 (codes "}")
    ∷ line 1 (codes "if d == 0i32 {")
    ∷ line 2 (codes "x = 1i32;")
    ∷ line 1 (codes "}")
    ∷ line 0 (codes "}")
    ∷ line 0 (codes "return x;") ∷ []
unfolding digits
turn_end_reads = refl

entered_inside_reads : reads entered_inside (blocks (shapes (simple 0 ∷ loop 3 (blocks (shapes (simple 3 ∷ simple 1 ∷ simple 2 ∷ []))) ∷ simple 4 ∷ [])))
    ≡ line 0 (codes "'l0: loop {")
    ∷ line 1 (codes "x = 2i32;")
    ∷ line 1 (codes "if c == 0i32 {")
    ∷ line 2 (codes "break 'l0;")
    ∷ line 1 (codes "}")
    ∷ line 1 (codes "x = 1i32;")
    ∷ line 0 (codes "}")
    ∷ line 0 (codes "return x;") ∷ []
unfolding digits
entered_inside_reads = refl

unused_label_reads : reads unused_label (blocks (shapes (simple 0 ∷ simple 1 ∷ [])))
    ≡ line 0 (codes "x = 1i32;") ∷ line 0 (codes "x = 2i32;") ∷ line 0 (codes "return x;") ∷ []
unfolding digits
unused_label_reads = refl

default_between_reads : reads default_between (blocks (shapes (simple 0 ∷ simple 1 ∷ simple 2 ∷ simple 3 ∷ simple 4 ∷ [])))
    ≡ line 0 (codes "'l0: {")
    ∷ line 1 (codes "match n {")
    ∷ line 2 (codes "1i32 => {")
    ∷ line 3 (codes "x = 1i32;")
    ∷ line 3 (codes "break 'l0;")
    ∷ line 2 (codes "}")
    ∷ line 2 (codes "2i32 => {")
    ∷ line 2 (codes "}")
    ∷ line 2 (codes "_ => {")
    ∷ line 3 (codes "x = 3i32;")
    ∷ line 2 (codes "}")
    ∷ line 1 (codes "}")
    ∷ line 1 (codes "x = 2i32;")
    ∷ line 0 (codes "}")
    ∷ line 0 (codes "return x;") ∷ []
unfolding digits
default_between_reads = refl

left_by_return_reads : stmts_lines 0 (emitted (flow_of giving_nothing left_by_return) (blocks (shapes (simple 0 ∷ loop 1 (blocks (shapes (simple 1 ∷ simple 2 ∷ simple 4 ∷ []))) ∷ simple 5 ∷ simple 3 ∷ []))))
    ≡ line 0 (codes "'l0: loop {")
    ∷ line 1 (codes "if c == 0i32 {")
    ∷ line 2 (codes "break 'l0;")
    ∷ line 1 (codes "}")
    ∷ line 1 (codes "if d != 0i32 {")
    ∷ line 2 (codes "return;")
    ∷ line 1 (codes "}")
    ∷ line 1 (codes "x = 1i32;")
    ∷ line 0 (codes "}") ∷ []
unfolding digits
left_by_return_reads = refl

own_counter_reads : reads own_counter (blocks (shapes (simple 0 ∷ loop 1 (blocks (shapes (simple 1 ∷ simple 2 ∷ []))) ∷ simple 3 ∷ [])))
    ≡ line 0 (codes "y = 0i32;")
    ∷ line 0 (codes "'l0: loop {")
    ∷ line 1 (codes "if y >= n {")
    ∷ line 2 (codes "break 'l0;")
    ∷ line 1 (codes "}")
    ∷ line 1 (codes "x = x + y;")
    ∷ line 1 (codes "y = y + 1i32;")
    ∷ line 0 (codes "}")
    ∷ line 0 (codes "return x;") ∷ []
unfolding digits
own_counter_reads = refl

-- a structure becomes zero by a copy, where its block is entered and where its declaration is reached, in a program with a bit-field member
record_declared_reads : stmts_lines 0 (emitted (flow_of beside_bits record_declared) (blocks (shapes (simple 0 ∷ simple 1 ∷ simple 2 ∷ simple 3 ∷ []))))
    ≡ line 0 (codes "core::ptr::copy(core::ptr::addr_of_mut!(zeros_8) as *mut u8, core::ptr::addr_of_mut!(s) as *mut u8, 16usize);")
    ∷ line 0 (codes "core::ptr::copy(core::ptr::addr_of_mut!(zeros_8) as *mut u8, core::ptr::addr_of_mut!(s) as *mut u8, 16usize);")
    ∷ line 0 (codes "if c == 0i32 {")
    ∷ line 1 (codes "s.v = 1i32;")
    ∷ line 0 (codes "}")
    ∷ line 0 (codes "return x;") ∷ []
unfolding digits begins_address
record_declared_reads = refl

-- what an initialiser leaves of a structure is zero (6.7.8p21)
record_filled_reads : reads record_filled (simple 0)
    ≡ line 0 (codes "core::ptr::copy(core::ptr::addr_of_mut!(zeros_8) as *mut u8, core::ptr::addr_of_mut!(s) as *mut u8, 16usize);")
    ∷ line 0 (codes "s.v = 1i32;")
    ∷ line 0 (codes "return x;") ∷ []
unfolding digits begins_address
record_filled_reads = refl

early_reads : stmts_lines 0 (emitted (flow_of giving_nothing early) (blocks (shapes (simple 0 ∷ simple 1 ∷ simple 2 ∷ []))))
    ≡ line 0 (codes "if c != 0i32 {")
    ∷ line 1 (codes "return;")
    ∷ line 0 (codes "}")
    ∷ line 0 (codes "x = 1i32;") ∷ []
unfolding digits
early_reads = refl
