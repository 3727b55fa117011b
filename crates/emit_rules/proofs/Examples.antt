-- Worked examples: functions of C as flows with their shapes, and the statements that are written from them, as they print.
use Rattle.std.specs.Prelude.{◌≡◌, ℕ, pos, negsuc, List, [], ◌∷◌, Some, None, codes, refl}
use Rattle.std.specs.Fmt.{digits}
use Rattle.reloop.specs.Shapes.{ShapeTree, simple, blocks, loop, dispatch, shapes}
use Rattle.rs_text.specs.declared.integer.IntegerTy.TheVariants.{I32}
use Rattle.rs_text.specs.declared.operator.Operator.TheVariants.{Add, Sub, Equal, NotEqual, Less, Greater}
use Rattle.rs_text.specs.Lines.{line, stmts_lines}
use Rattle.rs_text.specs.Tree.{Local, Deref, Field, Expr, Literal, Read, IsNull, Binary, Stmt, Assign, Stmts, stmts}
use Rattle.flow.specs.Flows.{CaseTree, BranchTree, go, if_test, switch, gives, NodeTree, FlowTree}
use Rattle.emit_rules.specs.Bodies.{emitted}

abbrev pub node : Stmts → BranchTree → NodeTree
node body last = record { body = body; last = last }

abbrev pub at : ℕ → ℕ → CaseTree
at value to = record { value = pos value; to = to }

abbrev pub number : ℕ → Expr
number value = Literal (pos value) I32

abbrev pub named : List ℕ → Expr
named name = Read (Local name)

-- `x != 0`
abbrev pub holds : List ℕ → Expr
holds name = Binary (named name) NotEqual (number 0)

-- `x = e`
abbrev pub stores : List ℕ → Expr → Stmt
stores name e = Assign (Local name) e

-- `x = x + 1`, or another number or name
abbrev pub adds : List ℕ → Expr → Stmt
adds name e = stores name (Binary (named name) Add e)

abbrev pub c : Expr
c = holds (codes "c")

abbrev pub d : Expr
d = holds (codes "d")

abbrev pub e : Expr
e = holds (codes "e")

abbrev pub x : Expr
x = named (codes "x")

abbrev pub n : Expr
n = named (codes "n")

abbrev pub i : Expr
i = named (codes "i")

abbrev pub j : Expr
j = named (codes "j")

abbrev pub s : Expr
s = named (codes "s")

abbrev pub one : Expr
one = number 1

abbrev pub minus_one : Expr
minus_one = Literal (negsuc 0) I32

abbrev pub is_null : Expr
is_null = IsNull (named (codes "p"))

-- `p->v`
abbrev pub member : Expr
member = Read (Field (Deref (named (codes "p"))) (codes "v"))

abbrev pub x_is : ℕ → Stmt
x_is value = stores (codes "x") (number value)

abbrev pub n_left : Expr
n_left = holds (codes "n")

abbrev pub n_less : Stmt
n_less = stores (codes "n") (Binary n Sub one)

abbrev pub i_is_0 : Stmt
i_is_0 = stores (codes "i") (number 0)

abbrev pub j_is_0 : Stmt
j_is_0 = stores (codes "j") (number 0)

abbrev pub i_more : Stmt
i_more = adds (codes "i") one

abbrev pub j_more : Stmt
j_more = adds (codes "j") one

abbrev pub s_more : Stmt
s_more = adds (codes "s") j

abbrev pub i_below_n : Expr
i_below_n = Binary i Less n

abbrev pub i_below_4 : Expr
i_below_4 = Binary i Less (number 4)

abbrev pub i_at_2 : Expr
i_at_2 = Binary i Equal (number 2)

abbrev pub j_above_i : Expr
j_above_i = Binary j Greater i

-- ---- `if (c) x = 1; else x = 2; return x;`

abbrev pub sides : FlowTree
sides = record {
  nodes =
      node (stmts ([])) (if_test c 1 2)
      ∷ node (stmts (x_is 1 ∷ [])) (go 3)
      ∷ node (stmts (x_is 2 ∷ [])) (go 3)
      ∷ node (stmts ([])) (gives (Some (x))) ∷ [];
  entry = 0;
}

abbrev pub sides_shape : ShapeTree
sides_shape = blocks (shapes (simple 0 ∷ simple 1 ∷ simple 2 ∷ simple 3 ∷ []))

sides_reads : stmts_lines 0 (emitted sides sides_shape)
    ≡ line 0 (codes "if c != 0i32 {")
    ∷ line 1 (codes "x = 1i32;")
    ∷ line 0 (codes "} else {")
    ∷ line 1 (codes "x = 2i32;")
    ∷ line 0 (codes "}")
    ∷ line 0 (codes "return x;") ∷ []
unfolding digits
sides_reads = refl

-- ---- `if (!p) return 1; return p->v;`

abbrev pub early : FlowTree
early = record {
  nodes =
      node (stmts ([])) (if_test is_null 1 2)
      ∷ node (stmts ([])) (gives (Some (one)))
      ∷ node (stmts ([])) (gives (Some (member))) ∷ [];
  entry = 0;
}

abbrev pub early_shape : ShapeTree
early_shape = blocks (shapes (simple 0 ∷ simple 1 ∷ simple 2 ∷ []))

early_reads : stmts_lines 0 (emitted early early_shape)
    ≡ line 0 (codes "if p.is_null() {")
    ∷ line 1 (codes "return 1i32;")
    ∷ line 0 (codes "}")
    ∷ line 0 (codes "return (*p).v;") ∷ []
unfolding digits
early_reads = refl

-- ---- `if (c) x = 1; else if (d) x = 2; else if (e) x = 3; else x = 4; return x;`

abbrev pub chain_of_tests : FlowTree
chain_of_tests = record {
  nodes =
      node (stmts ([])) (if_test c 1 2)
      ∷ node (stmts (x_is 1 ∷ [])) (go 7)
      ∷ node (stmts ([])) (if_test d 3 4)
      ∷ node (stmts (x_is 2 ∷ [])) (go 7)
      ∷ node (stmts ([])) (if_test e 5 6)
      ∷ node (stmts (x_is 3 ∷ [])) (go 7)
      ∷ node (stmts (x_is 4 ∷ [])) (go 7)
      ∷ node (stmts ([])) (gives (Some (x))) ∷ [];
  entry = 0;
}

abbrev pub chain_of_tests_shape : ShapeTree
chain_of_tests_shape = blocks (shapes (simple 0 ∷ simple 1 ∷ simple 2 ∷ simple 3 ∷ simple 4 ∷ simple 5 ∷ simple 6 ∷ simple 7 ∷ []))

chain_of_tests_reads : stmts_lines 0 (emitted chain_of_tests chain_of_tests_shape)
    ≡ line 0 (codes "if c != 0i32 {")
    ∷ line 1 (codes "x = 1i32;")
    ∷ line 0 (codes "} else {")
    ∷ line 1 (codes "if d != 0i32 {")
    ∷ line 2 (codes "x = 2i32;")
    ∷ line 1 (codes "} else {")
    ∷ line 2 (codes "if e != 0i32 {")
    ∷ line 3 (codes "x = 3i32;")
    ∷ line 2 (codes "} else {")
    ∷ line 3 (codes "x = 4i32;")
    ∷ line 2 (codes "}")
    ∷ line 1 (codes "}")
    ∷ line 0 (codes "}")
    ∷ line 0 (codes "return x;") ∷ []
unfolding digits
chain_of_tests_reads = refl

-- ---- `while (n) n--;`, in a function without a result

abbrev pub counted : FlowTree
counted = record {
  nodes =
      node (stmts ([])) (if_test n_left 1 2)
      ∷ node (stmts (n_less ∷ [])) (go 0)
      ∷ node (stmts ([])) (gives None) ∷ [];
  entry = 0;
}

abbrev pub counted_shape : ShapeTree
counted_shape = blocks (shapes (loop 0 (blocks (shapes (simple 0 ∷ simple 1 ∷ []))) ∷ simple 2 ∷ []))

counted_reads : stmts_lines 0 (emitted counted counted_shape)
    ≡ line 0 (codes "'l0: loop {")
    ∷ line 1 (codes "if n == 0i32 {")
    ∷ line 2 (codes "break 'l0;")
    ∷ line 1 (codes "}")
    ∷ line 1 (codes "n = n - 1i32;")
    ∷ line 0 (codes "}") ∷ []
unfolding digits
counted_reads = refl

-- ---- `do n--; while (n);`

abbrev pub done_once : FlowTree
done_once = record {
  nodes =
      node (stmts (n_less ∷ [])) (if_test n_left 0 1)
      ∷ node (stmts ([])) (gives None) ∷ [];
  entry = 0;
}

abbrev pub done_once_shape : ShapeTree
done_once_shape = blocks (shapes (loop 0 (simple 0) ∷ simple 1 ∷ []))

done_once_reads : stmts_lines 0 (emitted done_once done_once_shape)
    ≡ line 0 (codes "'l0: loop {")
    ∷ line 1 (codes "n = n - 1i32;")
    ∷ line 1 (codes "if n == 0i32 {")
    ∷ line 2 (codes "break 'l0;")
    ∷ line 1 (codes "}")
    ∷ line 0 (codes "}") ∷ []
unfolding digits
done_once_reads = refl

-- ---- `for (i = 0; i < n; i++) { if (c) { if (d) continue; x = 1; } if (e) { if (d) break; x = 2; } x = 3; } return x;`

abbrev pub jumping : FlowTree
jumping = record {
  nodes =
      node (stmts (i_is_0 ∷ [])) (go 1)
      ∷ node (stmts ([])) (if_test i_below_n 2 9)
      ∷ node (stmts ([])) (if_test c 3 5)
      ∷ node (stmts ([])) (if_test d 10 4)
      ∷ node (stmts (x_is 1 ∷ [])) (go 5)
      ∷ node (stmts ([])) (if_test e 6 8)
      ∷ node (stmts ([])) (if_test d 11 7)
      ∷ node (stmts (x_is 2 ∷ [])) (go 8)
      ∷ node (stmts (x_is 3 ∷ [])) (go 12)
      ∷ node (stmts ([])) (gives (Some (x)))
      ∷ node (stmts ([])) (go 12)
      ∷ node (stmts ([])) (go 9)
      ∷ node (stmts (i_more ∷ [])) (go 1) ∷ [];
  entry = 0;
}

abbrev pub jumping_shape : ShapeTree
jumping_shape = blocks (shapes (simple 0 ∷ loop 1 (blocks (shapes (simple 1 ∷ simple 2 ∷ simple 3 ∷ simple 4 ∷ simple 5 ∷ simple 10 ∷ simple 6 ∷ simple 7 ∷ simple 8 ∷ simple 12 ∷ []))) ∷ simple 11 ∷ simple 9 ∷ []))

jumping_reads : stmts_lines 0 (emitted jumping jumping_shape)
    ≡ line 0 (codes "i = 0i32;")
    ∷ line 0 (codes "'l0: loop {")
    ∷ line 1 (codes "if i >= n {")
    ∷ line 2 (codes "break 'l0;")
    ∷ line 1 (codes "}")
    ∷ line 1 (codes "'l1: {")
    ∷ line 2 (codes "if c != 0i32 {")
    ∷ line 3 (codes "if d != 0i32 {")
    ∷ line 4 (codes "break 'l1;")
    ∷ line 3 (codes "}")
    ∷ line 3 (codes "x = 1i32;")
    ∷ line 2 (codes "}")
    ∷ line 2 (codes "if e != 0i32 {")
    ∷ line 3 (codes "if d != 0i32 {")
    ∷ line 4 (codes "break 'l0;")
    ∷ line 3 (codes "}")
    ∷ line 3 (codes "x = 2i32;")
    ∷ line 2 (codes "}")
    ∷ line 2 (codes "x = 3i32;")
    ∷ line 1 (codes "}")
    ∷ line 1 (codes "i = i + 1i32;")
    ∷ line 0 (codes "}")
    ∷ line 0 (codes "return x;") ∷ []
unfolding digits
jumping_reads = refl

-- ---- `for (i = 0; i < 4; i++) { if (i == 2) continue; for (j = 0; ; j++) { if (j > i) break; s += j; } } return s;`

abbrev pub in_loops : FlowTree
in_loops = record {
  nodes =
      node (stmts (i_is_0 ∷ [])) (go 1)
      ∷ node (stmts ([])) (if_test i_below_4 2 8)
      ∷ node (stmts ([])) (if_test i_at_2 3 4)
      ∷ node (stmts ([])) (go 7)
      ∷ node (stmts (j_is_0 ∷ [])) (go 5)
      ∷ node (stmts ([])) (if_test j_above_i 6 9)
      ∷ node (stmts ([])) (go 7)
      ∷ node (stmts (i_more ∷ [])) (go 1)
      ∷ node (stmts ([])) (gives (Some (s)))
      ∷ node (stmts (s_more ∷ j_more ∷ [])) (go 5) ∷ [];
  entry = 0;
}

abbrev pub in_loops_shape : ShapeTree
in_loops_shape = blocks (shapes (simple 0 ∷ loop 1 (blocks (shapes (simple 1 ∷ simple 2 ∷ simple 3 ∷ simple 4 ∷ loop 5 (blocks (shapes (simple 5 ∷ simple 9 ∷ []))) ∷ simple 6 ∷ simple 7 ∷ []))) ∷ simple 8 ∷ []))

in_loops_reads : stmts_lines 0 (emitted in_loops in_loops_shape)
    ≡ line 0 (codes "i = 0i32;")
    ∷ line 0 (codes "'l0: loop {")
    ∷ line 1 (codes "if i >= 4i32 {")
    ∷ line 2 (codes "break 'l0;")
    ∷ line 1 (codes "}")
    ∷ line 1 (codes "if i != 2i32 {")
    ∷ line 2 (codes "j = 0i32;")
    ∷ line 2 (codes "'l1: loop {")
    ∷ line 3 (codes "if j > i {")
    ∷ line 4 (codes "break 'l1;")
    ∷ line 3 (codes "}")
    ∷ line 3 (codes "s = s + j;")
    ∷ line 3 (codes "j = j + 1i32;")
    ∷ line 2 (codes "}")
    ∷ line 1 (codes "}")
    ∷ line 1 (codes "i = i + 1i32;")
    ∷ line 0 (codes "}")
    ∷ line 0 (codes "return s;") ∷ []
unfolding digits
in_loops_reads = refl

-- ---- `switch (n) { case 0: x = 1; break; case 1: x = 2; break; default: x = 3; } return x;`

abbrev pub cases : FlowTree
cases = record {
  nodes =
      node (stmts ([])) (switch (record { on = n; by = I32; cases = at 0 1 ∷ at 1 2 ∷ []; other = 3 }))
      ∷ node (stmts (x_is 1 ∷ [])) (go 4)
      ∷ node (stmts (x_is 2 ∷ [])) (go 4)
      ∷ node (stmts (x_is 3 ∷ [])) (go 4)
      ∷ node (stmts ([])) (gives (Some (x))) ∷ [];
  entry = 0;
}

abbrev pub cases_shape : ShapeTree
cases_shape = blocks (shapes (simple 0 ∷ simple 1 ∷ simple 2 ∷ simple 3 ∷ simple 4 ∷ []))

cases_reads : stmts_lines 0 (emitted cases cases_shape)
    ≡ line 0 (codes "match n {")
    ∷ line 1 (codes "0i32 => {")
    ∷ line 2 (codes "x = 1i32;")
    ∷ line 1 (codes "}")
    ∷ line 1 (codes "1i32 => {")
    ∷ line 2 (codes "x = 2i32;")
    ∷ line 1 (codes "}")
    ∷ line 1 (codes "_ => {")
    ∷ line 2 (codes "x = 3i32;")
    ∷ line 1 (codes "}")
    ∷ line 0 (codes "}")
    ∷ line 0 (codes "return x;") ∷ []
unfolding digits
cases_reads = refl

-- ---- `switch (n) { case 0: x = 1; case 1: x = 2; break; default: x = 3; } return x;`

abbrev pub fall_through : FlowTree
fall_through = record {
  nodes =
      node (stmts ([])) (switch (record { on = n; by = I32; cases = at 0 1 ∷ at 1 2 ∷ []; other = 3 }))
      ∷ node (stmts (x_is 1 ∷ [])) (go 2)
      ∷ node (stmts (x_is 2 ∷ [])) (go 4)
      ∷ node (stmts (x_is 3 ∷ [])) (go 4)
      ∷ node (stmts ([])) (gives (Some (x))) ∷ [];
  entry = 0;
}

abbrev pub fall_through_shape : ShapeTree
fall_through_shape = blocks (shapes (simple 0 ∷ simple 1 ∷ simple 2 ∷ simple 3 ∷ simple 4 ∷ []))

fall_through_reads : stmts_lines 0 (emitted fall_through fall_through_shape)
    ≡ line 0 (codes "'l0: {")
    ∷ line 1 (codes "match n {")
    ∷ line 2 (codes "0i32 => {")
    ∷ line 3 (codes "x = 1i32;")
    ∷ line 2 (codes "}")
    ∷ line 2 (codes "1i32 => {")
    ∷ line 2 (codes "}")
    ∷ line 2 (codes "_ => {")
    ∷ line 3 (codes "x = 3i32;")
    ∷ line 3 (codes "break 'l0;")
    ∷ line 2 (codes "}")
    ∷ line 1 (codes "}")
    ∷ line 1 (codes "x = 2i32;")
    ∷ line 0 (codes "}")
    ∷ line 0 (codes "return x;") ∷ []
unfolding digits
fall_through_reads = refl

-- ---- Duff's device: `switch (n) { case 0: do { x = 1; case 3: x = 2; case 2: x = 3; case 1: x = 4; } while (i < n); } return x;`

abbrev pub duff : FlowTree
duff = record {
  nodes =
      node (stmts ([])) (switch (record { on = n; by = I32; cases = at 0 1 ∷ at 3 2 ∷ at 2 3 ∷ at 1 4 ∷ []; other = 5 }))
      ∷ node (stmts (x_is 1 ∷ [])) (go 2)
      ∷ node (stmts (x_is 2 ∷ [])) (go 3)
      ∷ node (stmts (x_is 3 ∷ [])) (go 4)
      ∷ node (stmts (x_is 4 ∷ [])) (if_test i_below_n 1 5)
      ∷ node (stmts ([])) (gives (Some (x))) ∷ [];
  entry = 0;
}

abbrev pub duff_shape : ShapeTree
duff_shape = blocks (shapes (simple 0 ∷ dispatch (1 ∷ 2 ∷ 3 ∷ 4 ∷ []) (blocks (shapes (simple 1 ∷ simple 2 ∷ simple 3 ∷ simple 4 ∷ []))) ∷ simple 5 ∷ []))

duff_reads : stmts_lines 0 (emitted duff duff_shape)
    ≡ line 0 (codes "'l0: {")
    ∷ line 1 (codes "match n {")
    ∷ line 2 (codes "0i32 => {")
    ∷ line 3 (codes "current_block = 1u32;")
    ∷ line 2 (codes "}")
    ∷ line 2 (codes "3i32 => {")
    ∷ line 3 (codes "current_block = 2u32;")
    ∷ line 2 (codes "}")
    ∷ line 2 (codes "2i32 => {")
    ∷ line 3 (codes "current_block = 3u32;")
    ∷ line 2 (codes "}")
    ∷ line 2 (codes "1i32 => {")
    ∷ line 3 (codes "current_block = 4u32;")
    ∷ line 2 (codes "}")
    ∷ line 2 (codes "_ => {")
    ∷ line 3 (codes "break 'l0;")
    ∷ line 2 (codes "}")
    ∷ line 1 (codes "}")
    ∷ line 1 (codes "'l1: loop {")
    ∷ line 2 (codes "'l2: {")
    ∷ line 3 (codes "'l3: {")
    ∷ line 4 (codes "match current_block {")
    ∷ line 5 (codes "1u32 => {")
    ∷ line 6 (codes "x = 1i32;")
    ∷ line 5 (codes "}")
    ∷ line 5 (codes "2u32 => {")
    ∷ line 5 (codes "}")
    ∷ line 5 (codes "3u32 => {")
    ∷ line 6 (codes "break 'l3;")
    ∷ line 5 (codes "}")
    ∷ line 5 (codes "4u32 => {")
    ∷ line 6 (codes "break 'l2;")
    ∷ line 5 (codes "}")
    ∷ line 5 (codes "_ => {")
    ∷ line 5 (codes "}")
    ∷ line 4 (codes "}")
    ∷ line 4 (codes "x = 2i32;")
    ∷ line 3 (codes "}")
    ∷ line 3 (codes "x = 3i32;")
    ∷ line 2 (codes "}")
    ∷ line 2 (codes "x = 4i32;")
    ∷ line 2 (codes "if i >= n {")
    ∷ line 3 (codes "break 'l1;")
    ∷ line 2 (codes "}")
    ∷ line 2 (codes "current_block = 1u32;")
    ∷ line 1 (codes "}")
    ∷ line 0 (codes "}")
    ∷ line 0 (codes "return x;") ∷ []
unfolding digits
duff_reads = refl

-- ---- `if (c) goto b; a: x = 1; b: x = 2; if (d) goto a; return x;`, a cycle with two entries

abbrev pub two_entries : FlowTree
two_entries = record {
  nodes =
      node (stmts ([])) (if_test c 1 2)
      ∷ node (stmts ([])) (go 4)
      ∷ node (stmts (x_is 1 ∷ [])) (go 4)
      ∷ node (stmts ([])) (gives (Some (x)))
      ∷ node (stmts (x_is 2 ∷ [])) (if_test d 5 3)
      ∷ node (stmts ([])) (go 2) ∷ [];
  entry = 0;
}

abbrev pub two_entries_shape : ShapeTree
two_entries_shape = blocks (shapes (simple 0 ∷ simple 1 ∷ dispatch (2 ∷ 4 ∷ []) (blocks (shapes (simple 2 ∷ simple 4 ∷ simple 5 ∷ []))) ∷ simple 3 ∷ []))

two_entries_reads : stmts_lines 0 (emitted two_entries two_entries_shape)
    ≡ line 0 (codes "if c != 0i32 {")
    ∷ line 1 (codes "current_block = 4u32;")
    ∷ line 0 (codes "} else {")
    ∷ line 1 (codes "current_block = 2u32;")
    ∷ line 0 (codes "}")
    ∷ line 0 (codes "'l0: loop {")
    ∷ line 1 (codes "match current_block {")
    ∷ line 2 (codes "2u32 => {")
    ∷ line 3 (codes "x = 1i32;")
    ∷ line 2 (codes "}")
    ∷ line 2 (codes "4u32 => {")
    ∷ line 2 (codes "}")
    ∷ line 2 (codes "_ => {")
    ∷ line 2 (codes "}")
    ∷ line 1 (codes "}")
    ∷ line 1 (codes "x = 2i32;")
    ∷ line 1 (codes "if d == 0i32 {")
    ∷ line 2 (codes "break 'l0;")
    ∷ line 1 (codes "}")
    ∷ line 1 (codes "current_block = 2u32;")
    ∷ line 0 (codes "}")
    ∷ line 0 (codes "return x;") ∷ []
unfolding digits
two_entries_reads = refl

-- ---- `for (i = 0; i < n; i++) if (c) return i; return -1;`, with a `return` in the loop

abbrev pub found : FlowTree
found = record {
  nodes =
      node (stmts (i_is_0 ∷ [])) (go 1)
      ∷ node (stmts ([])) (if_test i_below_n 2 5)
      ∷ node (stmts ([])) (if_test c 3 4)
      ∷ node (stmts ([])) (gives (Some (i)))
      ∷ node (stmts (i_more ∷ [])) (go 1)
      ∷ node (stmts ([])) (gives (Some (minus_one))) ∷ [];
  entry = 0;
}

abbrev pub found_shape : ShapeTree
found_shape = blocks (shapes (simple 0 ∷ loop 1 (blocks (shapes (simple 1 ∷ simple 2 ∷ simple 4 ∷ []))) ∷ simple 5 ∷ simple 3 ∷ []))

found_reads : stmts_lines 0 (emitted found found_shape)
    ≡ line 0 (codes "i = 0i32;")
    ∷ line 0 (codes "'l0: loop {")
    ∷ line 1 (codes "if i >= n {")
    ∷ line 2 (codes "break 'l0;")
    ∷ line 1 (codes "}")
    ∷ line 1 (codes "if c != 0i32 {")
    ∷ line 2 (codes "return i;")
    ∷ line 1 (codes "}")
    ∷ line 1 (codes "i = i + 1i32;")
    ∷ line 0 (codes "}")
    ∷ line 0 (codes "return -1i32;") ∷ []
unfolding digits
found_reads = refl

-- ---- `while (c) { if (d) { if (e) x = 1; else x = 2; return x; } x = 3; } return n;`

abbrev pub left_with_more : FlowTree
left_with_more = record {
  nodes =
      node (stmts ([])) (if_test c 1 7)
      ∷ node (stmts ([])) (if_test d 2 6)
      ∷ node (stmts ([])) (if_test e 3 4)
      ∷ node (stmts (x_is 1 ∷ [])) (go 5)
      ∷ node (stmts (x_is 2 ∷ [])) (go 5)
      ∷ node (stmts ([])) (gives (Some (x)))
      ∷ node (stmts (x_is 3 ∷ [])) (go 0)
      ∷ node (stmts ([])) (gives (Some (n))) ∷ [];
  entry = 0;
}

abbrev pub left_with_more_shape : ShapeTree
left_with_more_shape = blocks (shapes (loop 0 (blocks (shapes (simple 0 ∷ simple 1 ∷ simple 6 ∷ []))) ∷ simple 7 ∷ simple 2 ∷ simple 3 ∷ simple 4 ∷ simple 5 ∷ []))

left_with_more_reads : stmts_lines 0 (emitted left_with_more left_with_more_shape)
    ≡ line 0 (codes "'l0: loop {")
    ∷ line 1 (codes "if c == 0i32 {")
    ∷ line 2 (codes "break 'l0;")
    ∷ line 1 (codes "}")
    ∷ line 1 (codes "if d != 0i32 {")
    ∷ line 2 (codes "if e != 0i32 {")
    ∷ line 3 (codes "x = 1i32;")
    ∷ line 2 (codes "} else {")
    ∷ line 3 (codes "x = 2i32;")
    ∷ line 2 (codes "}")
    ∷ line 2 (codes "return x;")
    ∷ line 1 (codes "}")
    ∷ line 1 (codes "x = 3i32;")
    ∷ line 0 (codes "}")
    ∷ line 0 (codes "return n;") ∷ []
unfolding digits
left_with_more_reads = refl

-- ---- `for (;;) { if (c) x = 1; x = 2; if (d) break; if (e) return -1; x = 3; } x = 4; return x;`

abbrev pub for_ever : FlowTree
for_ever = record {
  nodes =
      node (stmts ([])) (if_test c 1 2)
      ∷ node (stmts (x_is 1 ∷ [])) (go 2)
      ∷ node (stmts (x_is 2 ∷ [])) (if_test d 3 4)
      ∷ node (stmts ([])) (go 7)
      ∷ node (stmts ([])) (if_test e 5 6)
      ∷ node (stmts ([])) (gives (Some (minus_one)))
      ∷ node (stmts (x_is 3 ∷ [])) (go 0)
      ∷ node (stmts (x_is 4 ∷ [])) (gives (Some (x))) ∷ [];
  entry = 0;
}

abbrev pub for_ever_shape : ShapeTree
for_ever_shape = blocks (shapes (loop 0 (blocks (shapes (simple 0 ∷ simple 1 ∷ simple 2 ∷ simple 4 ∷ simple 6 ∷ []))) ∷ simple 3 ∷ simple 7 ∷ simple 5 ∷ []))

for_ever_reads : stmts_lines 0 (emitted for_ever for_ever_shape)
    ≡ line 0 (codes "'l0: loop {")
    ∷ line 1 (codes "if c != 0i32 {")
    ∷ line 2 (codes "x = 1i32;")
    ∷ line 1 (codes "}")
    ∷ line 1 (codes "x = 2i32;")
    ∷ line 1 (codes "if d != 0i32 {")
    ∷ line 2 (codes "break 'l0;")
    ∷ line 1 (codes "}")
    ∷ line 1 (codes "if e != 0i32 {")
    ∷ line 2 (codes "return -1i32;")
    ∷ line 1 (codes "}")
    ∷ line 1 (codes "x = 3i32;")
    ∷ line 0 (codes "}")
    ∷ line 0 (codes "x = 4i32;")
    ∷ line 0 (codes "return x;") ∷ []
unfolding digits
for_ever_reads = refl
