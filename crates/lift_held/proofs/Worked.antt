-- Worked examples: the operands that are held in some expressions, by their numbers in post-order. Names are `int` objects, `f`, `g` and `h` functions.
use Rattle.std.specs.Prelude.{◌≡◌, pos, true, [], ◌∷◌, refl}
use Rattle.cx_core.specs.declared.expr.Op2.TheVariants as op2
use Rattle.lift_held.specs.Example.{int, struct, to, array_of, a, b, c, d, i, x, y, named, target, member_at, bits_at, value_of, number, converted, address_at, two, both, chosen, set, set_by, step_behind, in_turn, call_of, statement}
use Rattle.lift_held.specs.Held.{held}
use Rattle.cx_core.specs.Trees.{CExpr}

abbrev f : CExpr
f = call_of int 0 []

abbrev g : CExpr
g = call_of int 1 []

-- `x = a + b * c`
nothing_is_held : held (statement (set x (two op2.Add int (value_of a) (two op2.Multiply int (value_of b) (value_of c))))) ≡ []
nothing_is_held = refl

-- `y = x + f()`: the read of x and the call
operand_before_a_call : held (statement (set y (two op2.Add int (value_of x) f))) ≡ 2 ∷ 3 ∷ []
operand_before_a_call = refl

-- `f(a, g())`
argument_before_a_call : held (statement (call_of int 2 (value_of a ∷ g ∷ []))) ≡ 1 ∷ 2 ∷ []
argument_before_a_call = refl

-- `x = i++`
step_is_held : held (statement (set x (step_behind true i))) ≡ 2 ∷ []
step_is_held = refl

-- `i++`
step_alone : held (statement (step_behind true i)) ≡ []
step_alone = refl

-- `y = (x = 3) + 1`
assignment_is_held : held (statement (set y (two op2.Add int (set x (number (pos 3))) (number (pos 1))))) ≡ 3 ∷ []
assignment_is_held = refl

-- `a = b ? c : d`
plain_choice : held (statement (set a (chosen int (value_of b) (value_of c) (value_of d)))) ≡ []
plain_choice = refl

-- `a = b && c++`
acting_conjunction : held (statement (set a (both (value_of b) (step_behind true c)))) ≡ 4 ∷ 5 ∷ []
acting_conjunction = refl

-- `b && c++`: the step's value is used, that of `&&` isn't
unused_conjunction : held (statement (both (value_of b) (step_behind true c))) ≡ 3 ∷ []
unused_conjunction = refl

-- `h()`, which gives a structure
record_call : held (statement (call_of (struct 0) 3 [])) ≡ 0 ∷ []
record_call = refl

-- `x = (int)i++ + f()`: the step, its conversion, and the call
converted_step : held (statement (set x (two op2.Add int (converted int (step_behind true i)) f))) ≡ 2 ∷ 3 ∷ 4 ∷ []
converted_step = refl

-- `h(a + 1, g())`, whose first argument loads, and `h(&a, g())`, whose first is the same whatever is stored
loading_argument : held (statement (call_of int 2 (two op2.Add int (value_of a) (number (pos 1)) ∷ g ∷ []))) ≡ 3 ∷ 4 ∷ []
loading_argument = refl

steady_argument : held (statement (call_of int 2 (address_at int a ∷ g ∷ []))) ≡ 2 ∷ []
steady_argument = refl

-- a pointer to a structure with a bit-field, as object 8
abbrev p : CExpr
p = named (to (struct 0)) 8

abbrev s : CExpr
s = named (struct 0) 9

-- `x = s.b` of a named structure, and `x = p->b`
field_of_a_name : held (statement (set x (value_of (bits_at int s 4 3 5)))) ≡ []
field_of_a_name = refl

field_behind_a_pointer : held (statement (set x (value_of (bits_at int (target (struct 0) (value_of p)) 4 3 5)))) ≡ 3 ∷ []
field_behind_a_pointer = refl

-- `p->b = f()`: what p points to, the place of the field, the call, and what is stored
stored_field : held (statement (set (bits_at int (target (struct 0) (value_of p)) 4 3 5) f)) ≡ 2 ∷ 3 ∷ 4 ∷ 5 ∷ []
stored_field = refl

-- `s.b++`
stepped_field : held (statement (step_behind true (bits_at int s 4 3 5))) ≡ 2 ∷ []
stepped_field = refl

-- `i < 4 && a[i].b` over a bit-field, where a is an array of structures: what is behind the first operand is held, and so is the whole
abbrev element : CExpr
element = target (struct 0) (two op2.Add (to (struct 0)) (address_at (struct 0) (named (array_of (struct 0) 4) 10)) (value_of i))

guarded_field : held (both (two op2.Less int (value_of i) (number (pos 4))) (value_of (bits_at int element 4 3 5))) ≡ 9 ∷ 12 ∷ []
guarded_field = refl

-- a structure `e` whose member `s` has the bit-field, and a pointer to `int`
abbrev e : CExpr
e = named (struct 1) 11

abbrev q : CExpr
q = named (to int) 12

abbrev field_of : CExpr → CExpr
field_of of = bits_at int of 4 3 5

-- `e.s.b = f();`, where `e.s` is the same whatever is stored, but no name of an object
field_of_a_member : held (statement (set (field_of (member_at (struct 0) e 4)) f)) ≡ 1 ∷ 3 ∷ 4 ∷ []
field_of_a_member = refl

-- `p->b;`
unused_field : held (statement (value_of (field_of (target (struct 0) (value_of p))))) ≡ 2 ∷ []
unused_field = refl

-- `x = p->b++;`
used_step_of_field : held (statement (set x (step_behind true (field_of (target (struct 0) (value_of p)))))) ≡ 3 ∷ 5 ∷ []
used_step_of_field = refl

-- `y = (a, b) + f();`
comma_before_call : held (statement (set y (two op2.Add int (in_turn (value_of a) (value_of b)) f))) ≡ 5 ∷ 6 ∷ []
comma_before_call = refl

-- `y = f() + (a, b);`
comma_behind_call : held (statement (set y (two op2.Add int f (in_turn (value_of a) (value_of b))))) ≡ 1 ∷ []
comma_behind_call = refl

-- `c ? a++ : b++;`
unused_choice : held (statement (chosen int (value_of c) (step_behind true a) (step_behind true b))) ≡ []
unused_choice = refl

-- `x = c ? a++ : b;`
acting_choice : held (statement (set x (chosen int (value_of c) (step_behind true a) (value_of b)))) ≡ 4 ∷ 7 ∷ []
acting_choice = refl

-- `s = c ? s : *p;`
record_choice : held (statement (set s (chosen (struct 0) (value_of c) (value_of s) (value_of (target (struct 0) (value_of p)))))) ≡ 9 ∷ []
record_choice = refl

-- `c ? s : *p;`
unused_record_choice : held (statement (chosen (struct 0) (value_of c) (value_of s) (value_of (target (struct 0) (value_of p))))) ≡ []
unused_record_choice = refl

-- `x += f();`
sum_of_call : held (statement (set_by op2.Add int x f)) ≡ 1 ∷ []
sum_of_call = refl

-- `*q += f();`
sum_behind_pointer : held (statement (set_by op2.Add int (target int (value_of q)) f)) ≡ 2 ∷ 3 ∷ []
sum_behind_pointer = refl

-- `h(a && b, g());`
conjunction_before_call : held (statement (call_of int 2 (both (value_of a) (value_of b) ∷ g ∷ []))) ≡ 4 ∷ 5 ∷ []
conjunction_before_call = refl
