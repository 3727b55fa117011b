-- Worked examples: statements of C as Rust writes them. Each is well typed where these names and its temporaries are declared, and prints so.
use Rattle.std.specs.Prelude.{◌≡◌, ℕ, pos, Bool, true, false, ◌&&◌, if◌then◌else◌, List, [], ◌∷◌, ◌++◌, map, None, codes, refl}
use Rattle.std.specs.Fmt.{digits}
use Rattle.cx_core.specs.declared.expr.Op1.TheVariants as op1
use Rattle.cx_core.specs.declared.expr.Op2.TheVariants as op2
use Rattle.cx_core.specs.Trees.{CTy, ty, array, function, listed, CExpr, expr, whole, code, address, literal, CPuts, no_puts, more_puts, put}
use Rattle.lift_exprs.specs.ExampleNames.{names, bit_names, scope_with, truth_type, size_type, p, s, q, r, h, k, o, e, l, u, z, j, is_on, far, element, p_v, next_of, f, g}
use Rattle.lift_exprs.specs.Lifted.{lifted_full, lifted_test, Condition}
use Rattle.lift_exprs.specs.Written.{Written}
use Rattle.lift_held.specs.Example.{at, void_type, int, unsigned, long, char, to, struct, array_of, types, named, target, member_at, bits_at, value_of, number, converted, address_at, one, two, both, either, chosen, set, set_by, step_behind, step_before, in_turn, call_of, call_through, statement, a, b, c, d, i, n, x, y}
use Rattle.rs_mean.specs.Typing.{kind_of, is_of_type, stmts_typed}
use Rattle.rs_text.specs.Lines.{address_of as begins_address, null_of as begins_null, transmute_of, expr_text, stmts_lines}
use Rattle.rs_text.specs.Names.{keywords, path_words}
use Rattle.rs_text.specs.Tree.{Boolean, stmts}

-- ---- texts

abbrev lines_of : Written → List (List ℕ)
lines_of one =
    if stmts_typed (record { names = scope_with one.temporaries; result = None; labels = [] }) (stmts one.body) then map (λ line. line.text) (stmts_lines 0 (stmts one.body))
    else codes "ill typed" ∷ []

-- the lines of an expression statement
abbrev lines : CExpr → List (List ℕ)
lines e = lines_of (lifted_full names (statement e) 0)

-- in a program with a bit-field member
abbrev bit_lines : CExpr → List (List ℕ)
bit_lines e = lines_of (lifted_full bit_names (statement e) 0)

abbrev with_test : Condition → List (List ℕ)
with_test one = lines_of one.written ++ ((if is_of_type Boolean (kind_of (scope_with one.written.temporaries) one.test) then expr_text one.test else codes "ill typed") ∷ [])

-- those of a condition, and the condition
abbrev test_lines : CExpr → List (List ℕ)
test_lines e = with_test (lifted_test names e 0)

-- ---- assignments

sum : lines (set x (two op2.Add int (value_of a) (two op2.Multiply int (value_of b) (value_of c)))) ≡ codes "x = a + (b * c);" ∷ []
unfolding digits begins_address begins_null transmute_of keywords path_words
sum = refl

copied_letters : lines (set (target char (step_behind true q)) (value_of (target char (step_behind true r))))
    ≡ codes "t = q;" ∷ codes "q = t.offset(1isize);" ∷ codes "t_0 = r;" ∷ codes "r = t_0.offset(1isize);" ∷ codes "*t = *t_0;" ∷ []
unfolding digits begins_address begins_null transmute_of keywords path_words
copied_letters = refl

element_of_element : lines (set (element (value_of i)) (two op2.Add int (value_of (element (value_of n))) (number (pos 1))))
    ≡ codes "*(core::ptr::addr_of_mut!(w) as *mut i32).offset(i as isize) = (*(core::ptr::addr_of_mut!(w) as *mut i32).offset(n as isize)) + 1i32;" ∷ []
unfolding digits begins_address begins_null transmute_of keywords path_words
element_of_element = refl

member_of_next : lines (set_by op2.Add int (member_at int (target (struct 0) (value_of (next_of p))) 0) (call_of int 4 (value_of s ∷ [])))
    ≡ codes "t = core::ptr::addr_of_mut!((*(*p).next).v);" ∷ codes "t_0 = crate::m::take(core::ptr::addr_of_mut!(s));" ∷ codes "*t = (*t) + t_0;" ∷ []
unfolding digits begins_address begins_null transmute_of keywords path_words
member_of_next = refl

chain : lines (set x (set y (number (pos 0)))) ≡ codes "t = 0i32;" ∷ codes "y = t;" ∷ codes "x = t;" ∷ []
unfolding digits begins_address begins_null transmute_of keywords path_words
chain = refl

truth_to_int : lines (set x (two op2.Less int (value_of a) (value_of b))) ≡ codes "x = (a < b) as i32;" ∷ []
unfolding digits begins_address begins_null transmute_of keywords path_words
truth_to_int = refl

step_alone : lines (step_behind true i) ≡ codes "i = i + 1i32;" ∷ []
unfolding digits begins_address begins_null transmute_of keywords path_words
step_alone = refl

step_back_first : lines (set x (step_before false i)) ≡ codes "t = i - 1i32;" ∷ codes "i = t;" ∷ codes "x = t;" ∷ []
unfolding digits begins_address begins_null transmute_of keywords path_words
step_back_first = refl

nothing_done : lines (value_of x) ≡ []
unfolding digits begins_address begins_null transmute_of keywords path_words
nothing_done = refl

-- ---- calls

called_alone : lines (g (value_of a)) ≡ codes "crate::m::g(a);" ∷ []
unfolding digits begins_address begins_null transmute_of keywords path_words
called_alone = refl

operand_before_call : lines (set y (two op2.Add int (value_of x) f)) ≡ codes "t = x;" ∷ codes "t_0 = crate::m::f();" ∷ codes "y = t + t_0;" ∷ []
unfolding digits begins_address begins_null transmute_of keywords path_words
operand_before_call = refl

argument_before_call : lines (call_of int 2 (value_of a ∷ f ∷ [])) ≡ codes "t = a;" ∷ codes "t_0 = crate::m::f();" ∷ codes "crate::m::sum(t, t_0);" ∷ []
unfolding digits begins_address begins_null transmute_of keywords path_words
argument_before_call = refl

call_in_each_arm : lines (set n (chosen int (value_of c) (g (number (pos 1))) (g (number (pos 2)))))
    ≡ codes "if c != 0i32 {" ∷ codes "t = crate::m::g(1i32);" ∷ codes "t_1 = t;" ∷ codes "} else {" ∷ codes "t_0 = crate::m::g(2i32);" ∷ codes "t_1 = t_0;" ∷ codes "}"
    ∷ codes "n = t_1;" ∷ []
unfolding digits begins_address begins_null transmute_of keywords path_words
call_in_each_arm = refl

by_pointer : lines (set x (call_through int (value_of o) (value_of a ∷ []))) ≡ codes "t = o.unwrap()(a);" ∷ codes "x = t;" ∷ []
unfolding digits begins_address begins_null transmute_of keywords path_words
by_pointer = refl

-- ---- structures

record_copied : lines (set s (value_of (target (struct 0) (value_of p))))
    ≡ codes "core::ptr::copy(p as *mut u8, core::ptr::addr_of_mut!(s) as *mut u8, 16usize);" ∷ []
unfolding digits begins_address begins_null transmute_of keywords path_words
record_copied = refl

record_given : lines (set s (call_of (struct 0) 3 []))
    ≡ codes "crate::m::make(core::ptr::addr_of_mut!(t));" ∷ codes "core::ptr::copy(core::ptr::addr_of_mut!(t) as *mut u8, core::ptr::addr_of_mut!(s) as *mut u8, 16usize);" ∷ []
unfolding digits begins_address begins_null transmute_of keywords path_words
record_given = refl

member_of_result : lines (set x (member_at int (call_of (struct 0) 3 []) 0)) ≡ codes "crate::m::make(core::ptr::addr_of_mut!(t));" ∷ codes "x = t.v;" ∷ []
unfolding digits begins_address begins_null transmute_of keywords path_words
member_of_result = refl

-- ---- conditions

null_or_greater : test_lines (either (one op1.Not int (value_of p)) (two op2.Greater int (value_of p_v) (number (pos 3)))) ≡ codes "p.is_null() || ((*p).v > 3i32)" ∷ []
unfolding digits begins_address begins_null transmute_of keywords path_words
null_or_greater = refl

guarded_call : test_lines (both (value_of p) (g (value_of p_v)))
    ≡ codes "if !p.is_null() {" ∷ codes "t = crate::m::g((*p).v);" ∷ codes "t_0 = (t != 0i32) as i32;" ∷ codes "} else {" ∷ codes "t_0 = 0i32;" ∷ codes "}" ∷ codes "t_0 != 0i32" ∷ []
unfolding digits begins_address begins_null transmute_of keywords path_words
guarded_call = refl

-- ---- values that are used

-- `x = i++;`
step_used : lines (set x (step_behind true i))
    ≡ codes "t = i;" ∷ codes "i = t + 1i32;" ∷ codes "x = t;" ∷ []
unfolding digits begins_address begins_null transmute_of keywords path_words
step_used = refl

-- `y = (x = 3) + 1;`
assignment_used : lines (set y (two op2.Add int (set x (number (pos 3))) (number (pos 1))))
    ≡ codes "t = 3i32;" ∷ codes "x = t;" ∷ codes "y = t + 1i32;" ∷ []
unfolding digits begins_address begins_null transmute_of keywords path_words
assignment_used = refl

-- `a = b ? c : d;`
plain_choice : lines (set a (chosen int (value_of b) (value_of c) (value_of d)))
    ≡ codes "a = if b != 0i32 { c } else { d };" ∷ []
unfolding digits begins_address begins_null transmute_of keywords path_words
plain_choice = refl

-- `a = b && c++;`
acting_conjunction : lines (set a (both (value_of b) (step_behind true c)))
    ≡ codes "if b != 0i32 {" ∷ codes "t = c;" ∷ codes "c = t + 1i32;" ∷ codes "t_0 = (t != 0i32) as i32;" ∷ codes "} else {" ∷ codes "t_0 = 0i32;" ∷ codes "}" ∷ codes "a = t_0;" ∷ []
unfolding digits begins_address begins_null transmute_of keywords path_words
acting_conjunction = refl

-- `x = (x++, 5);`
step_before_comma : lines (set x (in_turn (step_behind true x) (number (pos 5))))
    ≡ codes "x = x + 1i32;" ∷ codes "x = 5i32;" ∷ []
unfolding digits begins_address begins_null transmute_of keywords path_words
step_before_comma = refl

-- `a || f();`
unused_disjunction : lines (either (value_of a) f)
    ≡ codes "if a == 0i32 {" ∷ codes "t = crate::m::f();" ∷ codes "}" ∷ []
unfolding digits begins_address begins_null transmute_of keywords path_words
unused_disjunction = refl

-- `c ? f() : g(1);`
unused_choice : lines (chosen int (value_of c) f (g (number (pos 1))))
    ≡ codes "if c != 0i32 {" ∷ codes "crate::m::f();" ∷ codes "} else {" ∷ codes "crate::m::g(1i32);" ∷ codes "}" ∷ []
unfolding digits begins_address begins_null transmute_of keywords path_words
unused_choice = refl

-- ---- types

-- `j++;`
small_step : lines (step_behind true j)
    ≡ codes "j = ((j as i32) + 1i32) as u8;" ∷ []
unfolding digits begins_address begins_null transmute_of keywords path_words
small_step = refl

-- `is_on++;`
truth_step : lines (step_behind true is_on)
    ≡ codes "is_on = ((is_on as i32) + 1i32) != 0i32;" ∷ []
unfolding digits begins_address begins_null transmute_of keywords path_words
truth_step = refl

-- `j += a;`
small_sum : lines (set_by op2.Add int j (value_of a))
    ≡ codes "j = ((j as i32) + a) as u8;" ∷ []
unfolding digits begins_address begins_null transmute_of keywords path_words
small_sum = refl

-- `a <<= b;`
shifted : lines (set_by op2.ShiftLeft int a (value_of b))
    ≡ codes "a = a << (b as u32);" ∷ []
unfolding digits begins_address begins_null transmute_of keywords path_words
shifted = refl

-- `q -= a;`
moved_by : lines (set_by op2.Subtract (to char) q (value_of a))
    ≡ codes "q = q.offset(-(a as isize));" ∷ []
unfolding digits begins_address begins_null transmute_of keywords path_words
moved_by = refl

-- `--q;`
moved_back : lines (step_before false q)
    ≡ codes "q = q.offset(-1isize);" ∷ []
unfolding digits begins_address begins_null transmute_of keywords path_words
moved_back = refl

-- `x = (int)(q - r);`
pointers_apart : lines (set x (converted int (two op2.Subtract long (value_of q) (value_of r))))
    ≡ codes "x = (q.offset_from(r) as i64) as i32;" ∷ []
unfolding digits begins_address begins_null transmute_of keywords path_words
pointers_apart = refl

-- `is_on = a < b;`
truth_kept : lines (set is_on (converted truth_type (two op2.Less int (value_of a) (value_of b))))
    ≡ codes "is_on = a < b;" ∷ []
unfolding digits begins_address begins_null transmute_of keywords path_words
truth_kept = refl

-- `(unsigned)-1 + 1u == 0`
wrapped_sum : test_lines (two op2.Equal int (two op2.Add unsigned (converted unsigned (one op1.Minus int (number (pos 1)))) (expr unsigned at (whole (pos 1)))) (converted unsigned (number (pos 0))))
    ≡ codes "((-1i32) as u32).wrapping_add(1u32) == (0i32 as u32)" ∷ []
unfolding digits begins_address begins_null transmute_of keywords path_words
wrapped_sum = refl

-- `o = g;`
function_kept : lines (set o (expr (to (ty (function int (listed (types (int ∷ []))) false) false)) at (code 1)))
    ≡ codes "o = Some(crate::m::g as unsafe extern \"C\" fn(i32) -> i32);" ∷ []
unfolding digits begins_address begins_null transmute_of keywords path_words
function_kept = refl

-- ---- bit-fields

abbrev field : CExpr → CExpr
field of = bits_at unsigned of 4 0 3

-- `x = k.b;`
field_read : lines (set x (converted int (value_of (field k))))
    ≡ codes "x = (((((*(core::ptr::addr_of_mut!(k) as *mut u8).offset(4isize)) as u64) >> 0u32) % 8u64) as u32) as i32;" ∷ []
unfolding digits begins_address begins_null transmute_of keywords path_words
field_read = refl

-- `k.b++;`
field_stepped : lines (step_behind true (field k))
    ≡ codes "t = (((((((*(core::ptr::addr_of_mut!(k) as *mut u8).offset(4isize)) as u64) >> 0u32) % 8u64) as u32) as i32) + 1i32) as u32;" ∷ codes "*(core::ptr::addr_of_mut!(k) as *mut u8).offset(4isize) = ((((((*(core::ptr::addr_of_mut!(k) as *mut u8).offset(4isize)) as u64) >> 3u32) << 3u32) + ((((t as u64) >> 0u32) % 8u64) << 0u32)) + (((*(core::ptr::addr_of_mut!(k) as *mut u8).offset(4isize)) as u64) % 1u64)) as u8;" ∷ []
unfolding digits begins_address begins_null transmute_of keywords path_words
field_stepped = refl

-- `e.s.b = f();`
field_of_member : lines (set (field (member_at (struct 1) e 4)) (converted unsigned f))
    ≡ codes "t = core::ptr::addr_of_mut!(e.s);" ∷ codes "t_0 = crate::m::f();" ∷ codes "t_1 = t_0 as u32;" ∷ codes "*(t as *mut u8).offset(4isize) = ((((((*(t as *mut u8).offset(4isize)) as u64) >> 3u32) << 3u32) + ((((t_1 as u64) >> 0u32) % 8u64) << 0u32)) + (((*(t as *mut u8).offset(4isize)) as u64) % 1u64)) as u8;" ∷ []
unfolding digits begins_address begins_null transmute_of keywords path_words
field_of_member = refl

-- `h->b = f();`
field_behind_pointer : lines (set (field (target (struct 1) (value_of h))) (converted unsigned f))
    ≡ codes "t = h;" ∷ codes "t_0 = t;" ∷ codes "t_1 = crate::m::f();" ∷ codes "t_2 = t_1 as u32;" ∷ codes "*(t_0 as *mut u8).offset(4isize) = ((((((*(t_0 as *mut u8).offset(4isize)) as u64) >> 3u32) << 3u32) + ((((t_2 as u64) >> 0u32) % 8u64) << 0u32)) + (((*(t_0 as *mut u8).offset(4isize)) as u64) % 1u64)) as u8;" ∷ []
unfolding digits begins_address begins_null transmute_of keywords path_words
field_behind_pointer = refl

-- `x = k.b = a;`
field_used : lines (set x (converted int (set (field k) (converted unsigned (value_of a)))))
    ≡ codes "t = (((a as u32) as u64) % 8u64) as u32;" ∷ codes "*(core::ptr::addr_of_mut!(k) as *mut u8).offset(4isize) = ((((((*(core::ptr::addr_of_mut!(k) as *mut u8).offset(4isize)) as u64) >> 3u32) << 3u32) + ((((t as u64) >> 0u32) % 8u64) << 0u32)) + (((*(core::ptr::addr_of_mut!(k) as *mut u8).offset(4isize)) as u64) % 1u64)) as u8;" ∷ codes "x = t as i32;" ∷ []
unfolding digits begins_address begins_null transmute_of keywords path_words
field_used = refl

-- `if (i < 4 && l[i].b)`
guarded_field : test_lines (both (two op2.Less int (value_of i) (number (pos 4))) (value_of (field (target (struct 1) (two op2.Add (to (struct 1)) (address_at (struct 1) l) (value_of i))))))
    ≡ codes "if i < 4i32 {" ∷ codes "t = (core::ptr::addr_of_mut!(l) as *mut crate::m::flags).offset(i as isize);" ∷ codes "t_0 = ((((((*(t as *mut u8).offset(4isize)) as u64) >> 0u32) % 8u64) as u32) != 0u32) as i32;" ∷ codes "} else {" ∷ codes "t_0 = 0i32;" ∷ codes "}" ∷ codes "t_0 != 0i32" ∷ []
unfolding digits begins_address begins_null transmute_of keywords path_words
guarded_field = refl

-- ---- more structures and unions

-- `*p = s;`
record_stored : lines (set (target (struct 0) (value_of p)) (value_of s))
    ≡ codes "core::ptr::copy(core::ptr::addr_of_mut!(s) as *mut u8, p as *mut u8, 16usize);" ∷ []
unfolding digits begins_address begins_null transmute_of keywords path_words
record_stored = refl

-- `x = take(make());`
record_passed_on : lines (set x (call_of int 4 (call_of (struct 0) 3 [] ∷ [])))
    ≡ codes "crate::m::make(core::ptr::addr_of_mut!(t));" ∷ codes "t_0 = crate::m::take(core::ptr::addr_of_mut!(t));" ∷ codes "x = t_0;" ∷ []
unfolding digits begins_address begins_null transmute_of keywords path_words
record_passed_on = refl

-- `make();`
record_made_alone : lines (call_of (struct 0) 3 [])
    ≡ codes "crate::m::make(core::ptr::addr_of_mut!(t));" ∷ []
unfolding digits begins_address begins_null transmute_of keywords path_words
record_made_alone = refl

-- `s = c ? *p : make();`
record_chosen : lines (set s (chosen (struct 0) (value_of c) (value_of (target (struct 0) (value_of p))) (call_of (struct 0) 3 [])))
    ≡ codes "if c != 0i32 {" ∷ codes "core::ptr::copy(p as *mut u8, core::ptr::addr_of_mut!(t_0) as *mut u8, 16usize);" ∷ codes "} else {" ∷ codes "crate::m::make(core::ptr::addr_of_mut!(t));" ∷ codes "core::ptr::copy(core::ptr::addr_of_mut!(t) as *mut u8, core::ptr::addr_of_mut!(t_0) as *mut u8, 16usize);" ∷ codes "}" ∷ codes "core::ptr::copy(core::ptr::addr_of_mut!(t_0) as *mut u8, core::ptr::addr_of_mut!(s) as *mut u8, 16usize);" ∷ []
unfolding digits begins_address begins_null transmute_of keywords path_words
record_chosen = refl

-- `sum(take(s), f());`
record_passed_before_call : lines (call_of int 2 (call_of int 4 (value_of s ∷ []) ∷ f ∷ []))
    ≡ codes "t = crate::m::take(core::ptr::addr_of_mut!(s));" ∷ codes "t_0 = crate::m::f();" ∷ codes "crate::m::sum(t, t_0);" ∷ []
unfolding digits begins_address begins_null transmute_of keywords path_words
record_passed_before_call = refl

abbrev letter : ℕ → CExpr
letter index = converted int (value_of (target char (two op2.Add (to char) (address_at char (member_at (array_of char 4) z 0)) (number (pos index)))))

-- `n = (z = u, z.c[1] * 10 + z.c[0]);`
union_copied : lines (set n (in_turn (set z (value_of u)) (two op2.Add int (two op2.Multiply int (letter 1) (number (pos 10))) (letter 0))))
    ≡ codes "core::ptr::copy(core::ptr::addr_of_mut!(u) as *mut u8, core::ptr::addr_of_mut!(z) as *mut u8, 4usize);" ∷ codes "n = (((*(core::ptr::addr_of_mut!(z.c) as *mut i8).offset(1i32 as isize)) as i32) * 10i32) + ((*(core::ptr::addr_of_mut!(z.c) as *mut i8).offset(0i32 as isize)) as i32);" ∷ []
unfolding digits begins_address begins_null transmute_of keywords path_words
union_copied = refl

-- ---- compound literals

abbrev put_at : ℕ → CTy → CExpr → CPuts → CPuts
put_at byte type value others = more_puts (put (record { byte = byte; bit = 0; width = 0 }) type value) others

-- `x = (int){a};`
scalar_literal : lines (set x (value_of (expr int at (literal 17 (put_at 0 int (value_of a) no_puts)))))
    ≡ codes "val_0 = a;" ∷ codes "x = val_0;" ∷ []
unfolding digits begins_address begins_null transmute_of keywords path_words
scalar_literal = refl

-- `p = &(struct node){a, p};`
literal_with_padding : lines (set p (address_at (struct 0) (expr (struct 0) at (literal 16 (put_at 0 int (value_of a) (put_at 8 (to (struct 0)) (value_of p) no_puts))))))
    ≡ codes "*(core::ptr::addr_of_mut!(val) as *mut u8) = 0u8;" ∷ codes "core::ptr::copy(core::ptr::addr_of_mut!(val) as *mut u8, (core::ptr::addr_of_mut!(val) as *mut u8).offset(1isize), 1usize);" ∷ codes "core::ptr::copy(core::ptr::addr_of_mut!(val) as *mut u8, (core::ptr::addr_of_mut!(val) as *mut u8).offset(2isize), 2usize);" ∷ codes "core::ptr::copy(core::ptr::addr_of_mut!(val) as *mut u8, (core::ptr::addr_of_mut!(val) as *mut u8).offset(4isize), 4usize);" ∷ codes "core::ptr::copy(core::ptr::addr_of_mut!(val) as *mut u8, (core::ptr::addr_of_mut!(val) as *mut u8).offset(8isize), 8usize);" ∷ codes "val.v = a;" ∷ codes "val.next = p;" ∷ codes "p = core::ptr::addr_of_mut!(val);" ∷ []
unfolding digits begins_address begins_null transmute_of keywords path_words
literal_with_padding = refl

-- `x = (int){a};`
scalar_literal_beside_fields : bit_lines (set x (value_of (expr int at (literal 17 (put_at 0 int (value_of a) no_puts)))))
    ≡ codes "val_0 = 0i32;" ∷ codes "val_0 = a;" ∷ codes "x = val_0;" ∷ []
unfolding digits begins_address begins_null transmute_of keywords path_words
scalar_literal_beside_fields = refl

-- ---- calls of other functions

abbrev format : CExpr
format = address_at char (named (array_of char 3) 25)

-- `printf("%d", a);`
printed : lines (call_of int 6 (format ∷ value_of a ∷ []))
    ≡ codes "crate::m::printf(core::ptr::addr_of_mut!(crate::m::lit) as *mut i8, a);" ∷ []
unfolding digits begins_address begins_null transmute_of keywords path_words
printed = refl

-- `putchar(); without its parameter`
bare_call : lines (call_of int 5 [])
    ≡ codes "crate::m::putchar_0();" ∷ []
unfolding digits begins_address begins_null transmute_of keywords path_words
bare_call = refl

-- `p = malloc(16); in a program with a bit-field`
allocated : bit_lines (set p (converted (to (struct 0)) (call_of (to void_type) 7 (expr size_type at (whole (pos 16)) ∷ []))))
    ≡ codes "t = crate::m::calloc(1u64, 16u64);" ∷ codes "p = t as *mut crate::m::node;" ∷ []
unfolding digits begins_address begins_null transmute_of keywords path_words
allocated = refl

-- `x = g(); through `int g()``
called_with_other_count : lines (set x (call_of int 1 []))
    ≡ codes "t = core::mem::transmute::<Option<unsafe extern \"C\" fn(i32) -> i32>, Option<unsafe extern \"C\" fn() -> i32>>(Some(crate::m::g as unsafe extern \"C\" fn(i32) -> i32)).unwrap()();" ∷ codes "x = t;" ∷ []
unfolding digits begins_address begins_null transmute_of keywords path_words
called_with_other_count = refl

-- `v("%d", a); by a pointer`
trailing_by_pointer : lines (call_through int (value_of (named (to (ty (function int (listed (types (to char ∷ []))) true) false)) 24)) (format ∷ value_of a ∷ []))
    ≡ codes "core::mem::transmute::<Option<unsafe extern \"C\" fn(*mut i8) -> i32>, Option<unsafe extern \"C\" fn(*mut i8, i32) -> i32>>(v).unwrap()(core::ptr::addr_of_mut!(crate::m::lit) as *mut i8, a);" ∷ []
unfolding digits begins_address begins_null transmute_of keywords path_words
trailing_by_pointer = refl

-- `p = next(p);`
pointer_from_other_module : lines (set p (call_of (to (struct 0)) 9 (value_of p ∷ [])))
    ≡ codes "t = crate::other::next(p as *mut crate::other::node) as *mut crate::m::node;" ∷ codes "p = t;" ∷ []
unfolding digits begins_address begins_null transmute_of keywords path_words
pointer_from_other_module = refl

-- `s = give(s);`
record_from_other_module : lines (set s (call_of (struct 0) 8 (value_of s ∷ [])))
    ≡ codes "crate::other::give(core::ptr::addr_of_mut!(t) as *mut crate::other::node, core::ptr::addr_of_mut!(s) as *mut crate::other::node);" ∷ codes "core::ptr::copy(core::ptr::addr_of_mut!(t) as *mut u8, core::ptr::addr_of_mut!(s) as *mut u8, 16usize);" ∷ []
unfolding digits begins_address begins_null transmute_of keywords path_words
record_from_other_module = refl

-- `x = far.v;`
object_of_other_module : lines (set x (value_of (member_at int far 0)))
    ≡ codes "x = (*(core::ptr::addr_of_mut!(crate::other::far) as *mut crate::m::node)).v;" ∷ []
unfolding digits begins_address begins_null transmute_of keywords path_words
object_of_other_module = refl

-- ---- more statements, which are well typed

-- the first bit-field of a structure that isn't an lvalue
abbrev field_of_value : CExpr → CExpr
field_of_value of = bits_at unsigned of 4 0 3

-- an element, where the length of the array isn't known
abbrev distant_element : CExpr → CExpr
distant_element index = target int (two op2.Add (to int) (expr (to int) at (address (named (ty (array int None) false) 10))) index)

abbrev is_typed : Written → Bool
is_typed one = stmts_typed (record { names = scope_with one.temporaries; result = None; labels = [] }) (stmts one.body)

-- in a program without bit-fields, and in one with them
abbrev are_typed : List CExpr → Bool
are_typed [] = true
are_typed (e ∷ others) = (is_typed (lifted_full names (statement e) 0) && is_typed (lifted_full bit_names (statement e) 0)) && are_typed others

abbrev more_statements : List CExpr
more_statements =
    -- `x = (c ? k : l[i]).b;`
    (set x (converted int (field_of_value (chosen (struct 1) (value_of c) (value_of k) (value_of (target (struct 1) (two op2.Add (to (struct 1)) (address_at (struct 1) l) (value_of i))))))))
    -- `is_on = k.b;`
    ∷ set is_on (converted truth_type (value_of (field k)))
    -- `x = k.c = a; over a signed c`
    ∷ set x (set (bits_at int k 4 3 6) (value_of a))
    -- `is_on = k.d = a; over a `_Bool` of one bit`
    ∷ set is_on (set (bits_at truth_type k 4 2 1) (converted truth_type (value_of a)))
    -- `is_on = k.d++;`
    ∷ set is_on (step_behind true (bits_at truth_type k 4 2 1))
    -- `x = k.b++;`
    ∷ set x (converted int (step_behind true (field k)))
    -- `h->d += f(); over 32 bits`
    ∷ set_by op2.Add unsigned (bits_at unsigned (target (struct 1) (value_of h)) 4 0 32) (converted unsigned f)
    -- `x = o == g;`
    ∷ set x (two op2.Equal int (value_of o) (expr (to (ty (function int (listed (types (int ∷ []))) false) false)) at (code 1)))
    -- `x = !o;`
    ∷ set x (one op1.Not int (value_of o))
    -- `x = p == &far; over an object of another module`
    ∷ set x (two op2.Equal int (value_of p) (address_at (struct 0) far))
    -- `(c ? p : &s)->v = f();`
    ∷ set (member_at int (target (struct 0) (chosen (to (struct 0)) (value_of c) (value_of p) (address_at (struct 0) s))) 0) f
    -- `*&x = 1;`
    ∷ set (target int (address_at int x)) (number (pos 1))
    -- `s = (c, *p);`
    ∷ set s (in_turn (value_of c) (value_of (target (struct 0) (value_of p))))
    -- `x = (a, make()).v;`
    ∷ set x (member_at int (in_turn (value_of a) (call_of (struct 0) 3 [])) 0)
    -- `x = w[i]; of an array without length`
    ∷ set x (value_of (distant_element (value_of i)))
    -- `x = *++q;`
    ∷ set x (converted int (value_of (target char (step_before true q))))
    -- `x = a ? (b = 1) : 2;`
    ∷ set x (chosen int (value_of a) (set b (number (pos 1))) (number (pos 2)))
    -- `sum(a < b, f());`
    ∷ call_of int 2 (two op2.Less int (value_of a) (value_of b) ∷ f ∷ [])
    -- `sum(take(c ? s : *p), f());`
    ∷ call_of int 2 (call_of int 4 (chosen (struct 0) (value_of c) (value_of s) (value_of (target (struct 0) (value_of p))) ∷ []) ∷ f ∷ [])
    -- `j <<= 1;`
    ∷ set_by op2.ShiftLeft int j (number (pos 1))
    -- `is_on |= a;`
    ∷ set_by op2.BitOr int is_on (value_of a)
    -- `x = (struct flags){ a, f(), a < b }.b;`
    ∷ set x (converted int (value_of (field (expr (struct 1) at (literal 14 (put_at 0 int (value_of a) (more_puts (put (record { byte = 4; bit = 0; width = 3 }) unsigned (converted unsigned f)) (more_puts (put (record { byte = 4; bit = 3; width = 6 }) int (two op2.Less int (value_of a) (value_of b))) no_puts))))))))
    -- `far = s;`
    ∷ set far (value_of s)
    -- `x = (s = far).v;`
    ∷ set x (member_at int (set s (value_of far)) 0)
    -- `p = (p += is_on, p - is_on);`
    ∷ set p (in_turn (set_by op2.Add (to (struct 0)) p (value_of is_on)) (two op2.Subtract (to (struct 0)) (value_of p) (value_of is_on)))
    -- `u = (union bytes){ f() };`
    ∷ set u (value_of (expr (struct 3) at (literal 20 (put_at 0 int f no_puts)))) ∷ []

more_are_typed : are_typed more_statements ≡ true
unfolding digits begins_address begins_null transmute_of keywords path_words
more_are_typed = refl
