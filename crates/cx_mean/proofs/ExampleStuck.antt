-- Worked runs of programs that aren't typed: their steps are stuck, which is no undefined step.
use Rattle.std.proofs.Common.{◌≡◌, ℕ, pos, false, [], ◌∷◌, codes, refl}
use Rattle.cx_core.specs.declared.expr.Op2.TheVariants.{Multiply}
use Rattle.cx_core.specs.Layouts.{layouts_of}
use Rattle.cx_core.specs.Trees.{CTy, CTypes, CExpr, no_types_yet, literal, goto, break, continue, switch, case}
use Rattle.cx_mean.proofs.Programs.{Both, int_t, unsigned_t, record_t, n, number_as, node, var_as, val, get, set, addr, two, dot, byte, bits, calls, choose, put_at, puts, does, run, give, decl_as, static, local, main_fun, program_of, program, named_member, one_record, runs, seen}
use Rattle.cx_mean.specs.Run.{is_stuck}

abbrev stuck_at : ℕ → Both
stuck_at line = seen [] (is_stuck 0 line)

-- `struct { int x; int y; }`
pair : CTypes
pair = one_record false (named_member (codes "x") int_t ∷ named_member (codes "y") int_t ∷ [])

s : CTy
s = record_t 0

v : CExpr
v = var_as s 1

static_pair : CExpr → Both
static_pair e = runs (program_of pair (static 1 s [] ∷ []) (main_fun [] (run e ∷ []) ∷ [])) 60

-- a bit-field wider than 32 bits, or that begins behind the first of its bytes, or of no bit
wide_field_stored : static_pair (set (dot unsigned_t v (bits 0 0 33)) (number_as unsigned_t (pos 1))) ≡ stuck_at 1
unfolding layouts_of pair s v static_pair
wide_field_stored = refl

wide_field_loaded : static_pair (get (dot unsigned_t v (bits 0 0 33))) ≡ stuck_at 1
unfolding layouts_of pair s v static_pair
wide_field_loaded = refl

later_field_loaded : static_pair (get (dot unsigned_t v (bits 0 8 1))) ≡ stuck_at 1
unfolding layouts_of pair s v static_pair
later_field_loaded = refl

later_field_of_value : static_pair (dot unsigned_t (choose (n 1) (get v) (get v)) (bits 0 8 1)) ≡ stuck_at 1
unfolding layouts_of pair s v static_pair
later_field_of_value = refl

-- an initialiser with a put outside of its object
put_outside : runs (program_of pair (local 1 s ∷ []) (main_fun (1 ∷ []) (decl_as 1 (put_at 8 (n 1) ∷ []) ∷ give (n 0) ∷ []) ∷ [])) 60 ≡ stuck_at 1
unfolding layouts_of pair s
put_outside = refl

literal_put_outside : runs (program_of pair (local 1 s ∷ []) (main_fun (1 ∷ []) (run (get (dot int_t (node s (literal 1 (puts (put_at 8 (n 1) ∷ [])))) (byte 0))) ∷ []) ∷ [])) 60 ≡ stuck_at 1
unfolding layouts_of pair s
literal_put_outside = refl

-- an object that isn't in scope, a function that there isn't, a product of pointers
no_object : runs (program [] (run (val 7) ∷ [])) 60 ≡ stuck_at 1
unfolding layouts_of
no_object = refl

no_function : runs (program [] (run (calls 7 []) ∷ [])) 60 ≡ stuck_at 1
unfolding layouts_of
no_function = refl

pointers_multiplied : runs (program (static 1 int_t [] ∷ []) (run (two Multiply (addr (var_as int_t 1)) (addr (var_as int_t 1))) ∷ [])) 60 ≡ stuck_at 1
unfolding layouts_of
pointers_multiplied = refl

-- jumps that lead nowhere
no_label : runs (program [] (does (goto (codes "a")) ∷ [])) 60 ≡ stuck_at 1
unfolding layouts_of
no_label = refl

break_outside : runs (program [] (does break ∷ [])) 60 ≡ stuck_at 1
unfolding layouts_of
break_outside = refl

continue_in_switch : runs (program [] (does (switch (n 1) (does (case (pos 1) (does continue)))) ∷ [])) 60 ≡ stuck_at 1
unfolding layouts_of
continue_in_switch = refl

-- no `main`
no_main : runs (program_of no_types_yet [] []) 60 ≡ stuck_at 0
unfolding layouts_of
no_main = refl
