-- Worked examples of the definitions, and what a wrong definition would break.
use Rattle.std.proofs.Common.{◌≡◌, ℕ, pos, negsuc, true, false, List, [], ◌∷◌, ◌++◌, Option, Some, None, codes, refl, lit<, lit≤}
use Rattle.cr_base.specs.declared.scalar.Scalar.TheVariants.{Whole as Integer}
use Rattle.ext_calls.specs.declared.call.Arg.TheVariants.{Whole as Number}
use Rattle.ext_calls.specs.declared.call.Call.{Call}
use Rattle.ext_calls.specs.Outside.{Outside, Events}
use Rattle.straight_rust_mean.specs.declared.cause.Cause.TheVariants.{Overflow, WrongCall}
use Rattle.straight_rust_mean.specs.Run.{RSeen, RProgress, going, ended, wrong, rs_run}
use Rattle.straight_rust_mean.specs.Typing.{known_functions, ItemPlace, first_ill}
use Rattle.straight_rust_tree.specs.declared.tree.Attribute.TheVariants.{Mangled, NoMangle}
use Rattle.straight_rust_tree.specs.declared.tree.Operator.TheVariants.{Add, Sub, Mul}
use Rattle.straight_rust_tree.specs.Tree.{Ty, i8, i32, u8, bool, Place, named, static_at, Expr, literal, read, call, neg, binary, exprs, Stmt, assign, eval, gives, stmts, LocalTree, ItemTree, static, extern, defined, CrateTree}
use Rattle.straight_rust_tree.specs.Names.{keywords, path_words}
use Rattle.straight_rust_tree.specs.Valid.{IsValid}

-- ---- crates of one module `a`

abbrev fun : List ℕ → List LocalTree → Option Ty → List LocalTree → List Stmt → ItemTree
fun name params result locals body = defined (record {
  attribute = Mangled;
  name = name;
  params = params;
  result = result;
  locals = locals;
  body = stmts body;
})

abbrev int : List ℕ → LocalTree
int name = record { name = name; ty = i32 }

abbrev crate_of : List ItemTree → List LocalTree → List Stmt → CrateTree
crate_of items locals body = record {
  modules = record {
    name = codes "a";
    items = items ++ fun (codes "main_0") [] (Some i32) locals body ∷ fun (codes "run_static_initializers") [] None [] [] ∷ [];
  } ∷ [];
  entry = 0;
}

abbrev number : ℕ → Expr
number n = literal (pos n) i32

abbrev give : Expr → Stmt
give value = gives (Some value)

abbrev external : List ℕ → Ty → ItemTree
external name result = extern (record { link_name = None; name = name; params = i32 ∷ []; variadic = false; result = Some result } ∷ [])

abbrev putchar : ItemTree
putchar = external (codes "putchar") i32

abbrev put : Expr → Expr
put value = call (codes "a") (codes "putchar") (exprs (value ∷ []))

abbrev put_event : ℕ → Call
put_event n = record { name = codes "putchar"; args = Number (Integer 32 true) (pos n) ∷ [] }

abbrev seen : Events → RProgress → RSeen
seen events progress = record { events = events; progress = progress }

-- ---- units

abbrev forty_two : CrateTree
forty_two = crate_of [] [] (give (number 42) ∷ [])

-- a call takes a unit: that of the initialiser, and that of `main_0`
no_unit : (answers : Outside) → rs_run forty_two answers 0 ≡ seen [] going
no_unit answers = refl

one_unit : (answers : Outside) → rs_run forty_two answers 1 ≡ seen [] going
one_unit answers = refl

two_units : (answers : Outside) → rs_run forty_two answers 2 ≡ seen [] (ended (pos 42))
two_units answers = refl

-- ---- external functions

abbrev puts_one : CrateTree
puts_one = crate_of (putchar ∷ []) [] (eval (put (number 65)) ∷ give (number 0) ∷ [])

-- a call of an external function takes a unit, and is an event
external_takes_unit : (answers : Outside) → rs_run puts_one answers 2 ≡ seen [] going
external_takes_unit answers = refl

external_is_event : (answers : Outside) → rs_run puts_one answers 3 ≡ seen (put_event 65 ∷ []) (ended (pos 0))
external_is_event answers = refl

-- it takes one answer, converted to the result type, and 0 past the end
abbrev asks_twice : CrateTree
asks_twice = crate_of (external (codes "putchar") i32 ∷ []) []
    (eval (put (number 1)) ∷ give (put (number 2)) ∷ [])

second_answer : rs_run asks_twice (pos 7 ∷ pos 4294967301 ∷ []) 4 ≡ seen (put_event 1 ∷ put_event 2 ∷ []) (ended (pos 5))
second_answer = refl

no_answer : rs_run asks_twice (pos 7 ∷ []) 4 ≡ seen (put_event 1 ∷ put_event 2 ∷ []) (ended (pos 0))
no_answer = refl

-- ---- order

-- operands go from the left
left_first : rs_run (crate_of (putchar ∷ []) [] (give (binary Sub (put (number 1)) (put (number 2))) ∷ [])) (pos 10 ∷ pos 3 ∷ []) 4 ≡ seen (put_event 1 ∷ put_event 2 ∷ []) (ended (pos 7))
left_first = refl

-- and so do arguments: the inner call of the first comes before that of the second
abbrev two_arguments : ItemTree
two_arguments = fun (codes "second") (int (codes "p") ∷ int (codes "q") ∷ []) (Some i32) [] (give (read (named (codes "q"))) ∷ [])

arguments_from_left : rs_run (crate_of (putchar ∷ two_arguments ∷ []) []
    (give (call (codes "a") (codes "second") (exprs (put (number 1) ∷ put (number 2) ∷ []))) ∷ [])) (pos 10 ∷ pos 20 ∷ []) 5
    ≡ seen (put_event 1 ∷ put_event 2 ∷ []) (ended (pos 20))
arguments_from_left = refl

-- a statement behind `return` doesn't run
nothing_after_return : (answers : Outside) → rs_run (crate_of (putchar ∷ []) [] (give (number 1) ∷ eval (put (number 65)) ∷ give (number 2) ∷ [])) answers 9 ≡ seen [] (ended (pos 1))
nothing_after_return answers = refl

-- in `p = e` the value goes first: its overflow comes before the place's fault
value_before_place : (answers : Outside) → rs_run (crate_of [] [] (assign (named (codes "missing")) (binary Add (number 2147483647) (number 1)) ∷ give (number 0) ∷ [])) answers 2 ≡ seen [] (wrong Overflow)
value_before_place answers = refl

missing_place : (answers : Outside) → rs_run (crate_of [] [] (assign (named (codes "missing")) (number 1) ∷ give (number 0) ∷ [])) answers 2 ≡ seen [] (wrong WrongCall)
missing_place answers = refl

-- ---- arithmetic

adds_past_the_end : (answers : Outside) → rs_run (crate_of [] [] (give (binary Add (number 2147483647) (number 1)) ∷ [])) answers 2 ≡ seen [] (wrong Overflow)
adds_past_the_end answers = refl

negates_the_least : (answers : Outside) → rs_run (crate_of [] [] (give (neg (binary Sub (literal (negsuc 2147483646) i32) (number 1))) ∷ [])) answers 2 ≡ seen [] (wrong Overflow)
negates_the_least answers = refl

multiplies : (answers : Outside) → rs_run (crate_of [] [] (give (binary Mul (literal (negsuc 4) i32) (binary Add (number 2) (number 3))) ∷ [])) answers 2 ≡ seen [] (ended (negsuc 24))
multiplies answers = refl

-- ---- objects

-- static objects and locals begin as zero; a store is seen by the next load
abbrev object : ItemTree
object = static (record { attribute = NoMangle; name = codes "x"; ty = i32 })

abbrev x : Place
x = static_at (codes "a") (codes "x")

abbrev t : Place
t = named (codes "t")

objects_begin_as_zero : (answers : Outside) → rs_run (crate_of (object ∷ []) (int (codes "t") ∷ []) (give (binary Add (read x) (read t)) ∷ [])) answers 2 ≡ seen [] (ended (pos 0))
objects_begin_as_zero answers = refl

loads_what_was_stored : (answers : Outside) → rs_run (crate_of (object ∷ []) (int (codes "s") ∷ int (codes "t") ∷ [])
    (assign x (literal (negsuc 6) i32) ∷ assign t (binary Mul (read x) (number 6)) ∷ assign x (number 1) ∷ give (read t) ∷ [])) answers 2
    ≡ seen [] (ended (negsuc 41))
loads_what_was_stored answers = refl

-- ---- calls of the crate's own functions

-- `f(p)` puts p and is called again with less, for each of which its own parameter counts
abbrev twice : ItemTree
twice = fun (codes "twice") (int (codes "p") ∷ []) (Some i32) (int (codes "q") ∷ [])
    (assign (named (codes "q")) (binary Add (read (named (codes "p"))) (read (named (codes "p")))) ∷ give (read (named (codes "q"))) ∷ [])

abbrev do_twice : Expr → Expr
do_twice value = call (codes "a") (codes "twice") (exprs (value ∷ []))

calls_nest : (answers : Outside) → rs_run (crate_of (twice ∷ []) [] (give (binary Add (do_twice (do_twice (number 5))) (do_twice (number 1))) ∷ [])) answers 5 ≡ seen [] (ended (pos 22))
calls_nest answers = refl

four_are_too_few : (answers : Outside) → rs_run (crate_of (twice ∷ []) [] (give (binary Add (do_twice (do_twice (number 5))) (do_twice (number 1))) ∷ [])) answers 4 ≡ seen [] going
four_are_too_few answers = refl

-- a function that calls itself for ever goes on
abbrev for_ever : CrateTree
for_ever = crate_of (putchar ∷ []) [] (eval (put (number 65)) ∷ give (call (codes "a") (codes "main_0") (exprs [])) ∷ [])

goes_on : (answers : Outside) → rs_run for_ever answers 6 ≡ seen (put_event 65 ∷ put_event 65 ∷ []) going
goes_on answers = refl

-- other arguments than the function has
wrong_arguments : (answers : Outside) → rs_run (crate_of (twice ∷ []) [] (give (call (codes "a") (codes "twice") (exprs [])) ∷ [])) answers 9 ≡ seen [] (wrong WrongCall)
wrong_arguments answers = refl

-- ---- well typed

abbrev place : ℕ → Option ItemPlace
place k = Some (record { mod_number = 0; item_number = k })

abbrev straight : CrateTree
straight = crate_of (object ∷ putchar ∷ []) (int (codes "t") ∷ [])
    (assign t (read x) ∷ eval (put (read t)) ∷ assign x (neg (binary Add (read t) (number 5))) ∷ give (read t) ∷ [])

straight_typed : first_ill straight ≡ None
unfolding known_functions
straight_typed = refl

straight_valid : IsValid straight
unfolding keywords path_words
straight_valid = record { modules = (lit< tt, lit≤ tt); names = refl; forms = refl; entry = refl }

-- two items of one name
same_names : first_ill (crate_of (object ∷ object ∷ []) [] (give (number 1) ∷ [])) ≡ place 1
same_names = refl

-- a local with the name of an item of its module
local_as_item : first_ill (crate_of (object ∷ []) (int (codes "x") ∷ []) (give (number 1) ∷ [])) ≡ place 1
local_as_item = refl

-- a path to no item, a call of a static object, and a static object that is a function
no_item : first_ill (crate_of [] [] (give (read x) ∷ [])) ≡ place 0
no_item = refl

called_object : first_ill (crate_of (object ∷ []) [] (give (call (codes "a") (codes "x") (exprs [])) ∷ [])) ≡ place 1
called_object = refl

read_function : first_ill (crate_of [] [] (give (read (static_at (codes "a") (codes "main_0"))) ∷ [])) ≡ place 0
read_function = refl

-- a literal that isn't a value of its type, operands of two types, and unary minus of an unsigned type
literal_too_great : first_ill (crate_of [] [] (give (literal (pos 2147483648) i32) ∷ [])) ≡ place 0
literal_too_great = refl

least_literal : first_ill (crate_of [] [] (give (literal (negsuc 2147483647) i32) ∷ [])) ≡ None
least_literal = refl

two_types : first_ill (crate_of [] [] (give (binary Add (number 1) (literal (pos 1) u8)) ∷ [])) ≡ place 0
two_types = refl

minus_unsigned : first_ill (crate_of [] (record { name = codes "t"; ty = u8 } ∷ []) (assign t (neg (read t)) ∷ give (number 1) ∷ [])) ≡ place 0
minus_unsigned = refl

adds_truths : first_ill (crate_of [] (record { name = codes "t"; ty = bool } ∷ []) (assign t (binary Add (read t) (read t)) ∷ give (number 1) ∷ [])) ≡ place 0
adds_truths = refl

-- another type than the place's, another count of arguments, and a result of another type
stores_other_type : first_ill (crate_of [] (int (codes "t") ∷ []) (assign t (literal (pos 1) i8) ∷ give (number 1) ∷ [])) ≡ place 0
stores_other_type = refl

no_arguments : first_ill (crate_of (putchar ∷ []) [] (eval (call (codes "a") (codes "putchar") (exprs [])) ∷ give (number 1) ∷ [])) ≡ place 1
unfolding known_functions
no_arguments = refl

gives_other_type : first_ill (crate_of [] [] (give (literal (pos 1) i8) ∷ [])) ≡ place 0
gives_other_type = refl

-- a body with a result that doesn't end with a `return`
ends_without_return : first_ill (crate_of (putchar ∷ []) [] (give (number 1) ∷ eval (put (number 1)) ∷ [])) ≡ place 1
unfolding known_functions
ends_without_return = refl

-- an external function with a meaning that isn't built
known_external : first_ill (crate_of (external (codes "exit") i32 ∷ []) [] (give (number 1) ∷ [])) ≡ place 0
unfolding known_functions
known_external = refl

-- ---- the crate of docs/MEANINGS.md

abbrev worked : CrateTree
worked = record {
  modules = record {
    name = codes "a";
    items = object ∷ putchar ∷ fun (codes "main_0") [] (Some i32) (int (codes "t") ∷ [])
        (assign t (binary Add (read x) (number 5)) ∷ give (binary Sub (put (read t)) (put (neg (read t)))) ∷ [])
        ∷ fun (codes "run_static_initializers") [] None [] (assign x (number 60) ∷ []) ∷ [];
  } ∷ [];
  entry = 0;
}

abbrev minus_event : ℕ → Call
minus_event n = record { name = codes "putchar"; args = Number (Integer 32 true) (negsuc n) ∷ [] }

within_two : (answers : Outside) → rs_run worked answers 2 ≡ seen [] going
within_two answers = refl

within_three : rs_run worked (pos 65 ∷ negsuc 0 ∷ []) 3 ≡ seen (put_event 65 ∷ []) going
within_three = refl

within_four : rs_run worked (pos 65 ∷ negsuc 0 ∷ []) 4 ≡ seen (put_event 65 ∷ minus_event 64 ∷ []) (ended (pos 66))
within_four = refl

overflows : rs_run worked (pos 2147483647 ∷ negsuc 0 ∷ []) 4 ≡ seen (put_event 65 ∷ minus_event 64 ∷ []) (wrong Overflow)
overflows = refl
