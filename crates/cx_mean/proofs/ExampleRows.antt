-- Worked runs: larger programs.
use Rattle.std.proofs.Common.{◌≡◌, ℕ, suc, pos, true, false, List, [], ◌∷◌, ◌++◌, length, Some, None, codes, refl}
use Rattle.cr_base.specs.declared.scalar.Scalar.TheVariants.{Whole}
use Rattle.cx_core.specs.declared.expr.Op2.TheVariants.{Add, Remainder, Less, Greater, Equal}
use Rattle.cx_core.specs.declared.program.Linkage.TheVariants.{Nothing}
use Rattle.cx_core.specs.Layouts.{layouts_of}
use Rattle.cx_core.specs.Trees.{CExpr, CObject, CProgram, CPut, CStmt, CTy, CTypes, switch, case, do_while, while, for_loop}
use Rattle.cr_world.specs.Known.{known_table}
use Rattle.cx_mean.proofs.Programs.{runs_with, trailed, int_t, char_t, size_t, void_t, to, to_void, to_const_char, array_of, record_t, one_record, named_member, n, number_as, var, var_as, val, val_as, get, set, set_by, post_up, pre_down, two, conv, star, null_as, first_of, dot, byte, calls, calls_as, put_at, puts, does, stmts, run, run_void, give, when, decl, decl_to, in_block, local, static, main_fun, program_of, with_locals, putchar, printed, answers, runs, seen}
use Rattle.cx_mean.specs.Run.{ended}
use Rattle.ext_calls.specs.declared.call.Arg.TheVariants.{Whole as WholeArg, Text as TextArg}
use Rattle.ext_calls.specs.declared.call.Call.{Call}

-- ---- Duff's device
--
--     char a[] = "0123456789";
--     int main(void) {
--         char *p = a;
--         int n = 3, c = 10;
--         switch (c % 4) {
--         case 0: do { putchar(*p++);
--         case 3:      putchar(*p++);
--         case 2:      putchar(*p++);
--         case 1:      putchar(*p++);
--                 } while (--n > 0);
--         }
--         return 0;
--     }

chars_from : ℕ → List ℕ → List CPut
chars_from k [] = []
chars_from k (first ∷ others) = put_at k (number_as char_t (pos first)) ∷ chars_from (suc k) others

digits : List ℕ
digits = 48 ∷ 49 ∷ 50 ∷ 51 ∷ 52 ∷ 53 ∷ 54 ∷ 55 ∷ 56 ∷ 57 ∷ []

put_next : CStmt
put_next = run (putchar (conv int_t (get (star char_t (post_up (var_as (to char_t) 2))))))

duff : CProgram
duff = with_locals (static 1 (array_of 11 char_t) (chars_from 0 (digits ++ 0 ∷ [])) ∷ local 2 (to char_t) ∷ local 3 int_t ∷ local 4 int_t ∷ [])
    (2 ∷ 3 ∷ 4 ∷ []) (
    decl_to 2 (first_of char_t (var_as (array_of 11 char_t) 1)) ∷ decl_to 3 (n 3) ∷ decl_to 4 (n 10)
    ∷ does (switch (two Remainder (val 4) (n 4)) (in_block [] (
    does (case (pos 0) (does (do_while (in_block [] (
    put_next ∷ does (case (pos 3) put_next) ∷ does (case (pos 2) put_next) ∷ does (case (pos 1) put_next) ∷ []))
    (two Greater (pre_down (var 3)) (n 0))))) ∷ [])))
    ∷ give (n 0) ∷ [])

all_printed : List ℕ → List Call
all_printed [] = []
all_printed (first ∷ others) = printed first ∷ all_printed others

duff_prints : runs duff 400 ≡ seen (all_printed digits) (ended (pos 0))
unfolding layouts_of known_table duff digits chars_from put_next all_printed
duff_prints = refl

-- ---- a list of nodes, which is turned round and freed, here of five
--
--     struct node { int v; struct node *next; };
--     int main(void) {
--         struct node *head = 0, *p, *q;
--         int i, sum = 0;
--         for (i = 0; i < 5; i++) {
--             p = malloc(sizeof *p);
--             if (!p) { printf("full at %d\n", i); return 1; }
--             p->v = i; p->next = head; head = p;
--         }
--         p = 0;
--         while (head) { q = head->next; head->next = p; p = head; head = q; }
--         while (p) { sum += p->v; q = p->next; free(p); p = q; }
--         printf("%d\n", sum);
--         return 0;
--     }

node_types : CTypes
node_types = one_record false (named_member (codes "v") int_t ∷ named_member (codes "next") (to (record_t 0)) ∷ [])

to_node : CTy
to_node = to (record_t 0)

q : ℕ → CExpr
q k = val_as to_node k

field_v : CExpr → CExpr
field_v pointed = dot int_t (star (record_t 0) pointed) (byte 0)

field_next : CExpr → CExpr
field_next pointed = dot to_node (star (record_t 0) pointed) (byte 8)

-- with the zero byte behind it
suc_length : List ℕ → ℕ
suc_length letters = suc (length letters)

text : ℕ → List ℕ → CObject
text k letters = record {
  object = k;
  unit = 0;
  name = None;
  is_text = true;
  type = array_of (suc_length letters) char_t;
  linkage = Nothing;
  puts = Some (puts (chars_from 0 (letters ++ 0 ∷ [])));
}

full_text : List ℕ
full_text = codes "full at %d" ++ 10 ∷ []

number_text : List ℕ
number_text = codes "%d" ++ 10 ∷ []

-- `printf(text, value)`
prints : ℕ → List ℕ → CExpr → CStmt
prints k letters value = run (calls 101 (conv to_const_char (first_of char_t (var_as (array_of (suc_length letters) char_t) k)) ∷ value ∷ []))

set_node : ℕ → CExpr → CStmt
set_node k value = run (set (var_as to_node k) value)

-- `head`, `p` and `q` are 3, 4 and 5, `i` and `sum` 6 and 7
list : CProgram
list = program_of node_types
    (text 1 full_text ∷ text 2 number_text ∷ local 3 to_node ∷ local 4 to_node ∷ local 5 to_node ∷ local 6 int_t ∷ local 7 int_t ∷ [])
    (main_fun (3 ∷ 4 ∷ 5 ∷ 6 ∷ 7 ∷ []) (
    decl_to 3 (null_as to_node) ∷ decl 4 ∷ decl 5 ∷ decl 6 ∷ decl_to 7 (n 0)
    ∷ does (for_loop (stmts (run (set (var 6) (n 0)) ∷ [])) (Some (two Less (val 6) (n 5))) (Some (conv void_t (post_up (var 6)))) (in_block [] (
    set_node 4 (conv to_node (calls_as to_void 103 (number_as size_t (pos 16) ∷ [])))
    ∷ when (two Equal (q 4) (null_as to_node)) (in_block [] (prints 1 full_text (val 6) ∷ give (n 1) ∷ []))
    ∷ run (set (field_v (q 4)) (val 6)) ∷ run (set (field_next (q 4)) (q 3)) ∷ set_node 3 (q 4) ∷ [])))
    ∷ set_node 4 (null_as to_node)
    ∷ does (while (q 3) (in_block [] (
    set_node 5 (get (field_next (q 3))) ∷ run (set (field_next (q 3)) (q 4)) ∷ set_node 4 (q 3) ∷ set_node 3 (q 5) ∷ [])))
    ∷ does (while (q 4) (in_block [] (
    run (set_by Add int_t (var 7) (get (field_v (q 4)))) ∷ set_node 5 (get (field_next (q 4)))
    ∷ run_void (calls_as void_t 105 (conv to_void (q 4) ∷ [])) ∷ set_node 4 (q 5) ∷ [])))
    ∷ prints 2 number_text (val 7) ∷ give (n 0) ∷ []) ∷ [])

prints_number : List ℕ → ℕ → Call
prints_number letters k = record { name = codes "printf"; args = TextArg letters ∷ WholeArg (Whole 32 true) (pos k) ∷ [] }

list_sum : runs list 800 ≡ seen (prints_number number_text 10 ∷ []) (ended (pos 0))
unfolding layouts_of known_table list node_types to_node q field_v field_next text full_text number_text prints set_node chars_from suc_length prints_number
list_sum = refl

-- the outside refuses the third node
list_refused : runs_with list (answers (pos 1 ∷ pos 1 ∷ pos 0 ∷ [])) 800 ≡ seen (prints_number full_text 2 ∷ []) (ended (pos 1))
unfolding layouts_of known_table list node_types to_node q field_v field_next text full_text number_text prints set_node chars_from suc_length prints_number
list_refused = refl

-- a store of 80 bytes: 12 and 4 of the texts, three pointers and two `int`s are 48 bytes, and two nodes fill the rest
list_full : trailed list (Some (record { bytes = 80; blocks = 99 })) (pos 1 ∷ pos 1 ∷ pos 0 ∷ pos 0 ∷ []) 800
    ≡ seen (prints_number full_text 2 ∷ []) (ended (pos 1))
unfolding layouts_of known_table list node_types to_node q field_v field_next text full_text number_text prints set_node chars_from suc_length prints_number
list_full = refl
