-- Statements are read back from what they spell.
use Rattle.std.proofs.Common.{◌≡◌, ℕ, zero, suc, ◌≤◌, ℤ, pos, negsuc, Bool, true, false, ◌&&◌, List, [], ◌∷◌, ◌++◌, drop, length, codes, bytes_eq, Option, Some, None, refl, sym, ap, subst, ◌∙◌, arith, append_assoc, append-nil, length-append}
use Rattle.std.specs.List.{flat_map, list_all}
use Rattle.std.proofs.lemmas.Bool.{and_parts, cond-false}
use Rattle.rs_expr.specs.Reading.{Toks, Reader, read_of}
use Rattle.rs_expr.specs.Signs.{sign_at, sign, text_at, marks, words, word_sign}
use Rattle.rs_expr.specs.declared.sign.Sign.{Sign}
use Rattle.rs_expr.specs.declared.sign.Sign.TheVariants as of
use Rattle.rs_item.specs.Stmts.{read_expr, block, else_by, else_part, if_from, if_stmt, loop_from, block_from, labelled, break_stmt, continue_stmt, arm, ends_arms, read_arms, match_end, match_from, match_stmt, returned_by, return_stmt, copied, copy_stmt, assigned, assign_from, expr_stmt, is_path_mark, is_copy, name_stmt, stmt_by, stmt_from, ends_block, stmts_from, read_stmts}
use Rattle.rs_text.specs.Forms.{is_call}
use Rattle.std.specs.Fmt.{decimal}
use Rattle.rs_text.specs.Names.{is_label}
use Rattle.rs_text.specs.Words.{integer_word}
use Rattle.rs_text.specs.declared.integer.IntegerTy.{IntegerTy}
use Rattle.rs_parse.proofs.Digits.{literal_word}
use Rattle.rs_text.specs.Spelling.{place_tokens, expr_tokens, exprs_parts, literal_tokens, stmt_tokens, stmts_tokens, arm_tokens, arms_tokens, else_tokens, ty_tokens}
use Rattle.rs_text.specs.Spelling as spelling
use Rattle.rs_text.specs.Tokens.{RToken, Word, Mark, Label}
use Rattle.rs_text.specs.Tree.{Place, Local, Static, Deref, Field, Expr, Literal, Truth, NoFunction, Read, Call, CallBy, Wrapped, WrappingNeg, Offset, OffsetFrom, IsNull, IsNone, AddressOf, NullPointer, SomeFunction, Transmute, Neg, Not, Cast, Binary, And, Or, Choose, Stmt, Assign, Eval, CopyBytes, If, Loop, Block, Break, Continue, Match, Return, Stmts, no_stmts, more_stmts, stmts, ArmTree, LiteralArm, Arms, no_arms, more_arms, arms}
use Rattle.rs_text.specs.Valid.{valid_place, valid_expr, valid_stmt, valid_stmts, valid_arm, valid_arms, valid_label, valid_returned, is_value}
use Rattle.rs_parse.proofs.ExprStarts.{ends, opens, op, front, op_opens, expr_begins, begins, literal_reads, number_sign, behind_some}
use Rattle.rs_parse.proofs.ReadExprs.{exprs_read}
use Rattle.rs_parse.proofs.ReadLists.{ahead_reads}

-- ---- lists of statements and of arms

abbrev pub stmt_list : Stmts → List Stmt
stmt_list no_stmts = []
stmt_list (more_stmts s ss) = s ∷ stmt_list ss

pub list_is_stmts : (ss : Stmts) → stmts (stmt_list ss) ≡ ss
list_is_stmts no_stmts = refl
list_is_stmts (more_stmts s ss) = ap (more_stmts s) (list_is_stmts ss)

pub stmts_spell : (ss : Stmts) → stmts_tokens ss ≡ flat_map stmt_tokens (stmt_list ss)
stmts_spell no_stmts = refl
stmts_spell (more_stmts s ss) = ap (λ l. stmt_tokens s ++ l) (stmts_spell ss)

pub stmts_valid : (ss : Stmts) → valid_stmts ss ≡ true → list_all valid_stmt (stmt_list ss) ≡ true
stmts_valid no_stmts h = refl
stmts_valid (more_stmts s ss) h =
    let parts = and_parts (valid_stmt s) (valid_stmts ss) h in
    ap (λ b. b && list_all valid_stmt (stmt_list ss)) parts.0 ∙ stmts_valid ss parts.1

abbrev arm_list : Arms → List ArmTree
arm_list no_arms = []
arm_list (more_arms one others) = one ∷ arm_list others

list_is_arms : (cases : Arms) → arms (arm_list cases) ≡ cases
list_is_arms no_arms = refl
list_is_arms (more_arms one others) = ap (more_arms one) (list_is_arms others)

arms_spell : (cases : Arms) → arms_tokens cases ≡ flat_map arm_tokens (arm_list cases)
arms_spell no_arms = refl
arms_spell (more_arms one others) = ap (λ l. arm_tokens one ++ l) (arms_spell others)

arms_valid : (cases : Arms) → valid_arms cases ≡ true → list_all valid_arm (arm_list cases) ≡ true
arms_valid no_arms h = refl
arms_valid (more_arms one others) h =
    let parts = and_parts (valid_arm one) (valid_arms others) h in
    ap (λ b. b && list_all valid_arm (arm_list others)) parts.0 ∙ arms_valid others parts.1

-- ---- what statements begin with

abbrev is_name : Sign → Bool
is_name of.Name = true
is_name _ = false

abbrev calls_copy : Toks → Bool
calls_copy tokens = is_name (sign_at tokens) && is_copy tokens

abbrev NoCopy : Toks → Type 0
NoCopy tokens = calls_copy tokens ≡ false

no_path : (a b c : Bool) → b ≡ false → (a && (b && c)) ≡ false
no_path true true c h = cc
no_path true false c h = refl
no_path false b c h = refl

local_no_copy : (x : List ℕ) (rest : Toks) → is_path_mark (sign_at rest) ≡ false → NoCopy (Word x ∷ rest)
local_no_copy x rest h = no_path (is_name (word_sign x)) (is_path_mark (sign_at rest)) (bytes_eq (text_at (drop 3 rest)) (codes "copy")) h

number_no_copy : (word : List ℕ) (rest : Toks) → word_sign word ≡ of.Number → NoCopy (Word word ∷ rest)
number_no_copy word rest h = ap (λ s. is_name s && is_copy (Word word ∷ rest)) h

place_no_copy : (p : Place) (rest : Toks) → is_path_mark (sign_at rest) ≡ false → NoCopy (op (Read p) ++ rest)
unfolding words marks
place_no_copy (Local x) rest h = local_no_copy x rest h
place_no_copy (Static m x) rest h = refl
place_no_copy (Deref e) rest h = refl
place_no_copy (Field p f) rest h = front (op (Read p)) (Mark (codes ".") ∷ Word f ∷ []) rest NoCopy (place_no_copy p (Mark (codes ".") ∷ Word f ∷ rest) refl)

op_no_copy : (e : Expr) (rest : Toks) → is_path_mark (sign_at rest) ≡ false → NoCopy (op e ++ rest)
unfolding words marks
op_no_copy (Literal (pos n) k) rest h = local_no_copy (decimal n ++ integer_word k) rest h
op_no_copy (Literal (negsuc n) k) rest h = refl
op_no_copy (Truth true) rest h = refl
op_no_copy (Truth false) rest h = refl
op_no_copy NoFunction rest h = refl
op_no_copy (Read p) rest h = place_no_copy p rest h
op_no_copy (Call m x args) rest h = refl
op_no_copy (CallBy e args) rest h =
    front (spelling.method (op e) (codes "unwrap") []) (spelling.in_parentheses (spelling.listed (exprs_parts args))) rest NoCopy
    (front (op e) _ _ NoCopy (op_no_copy e _ refl))
op_no_copy (Wrapped e o arg) rest h = front (op e) _ rest NoCopy (op_no_copy e _ refl)
op_no_copy (WrappingNeg e) rest h = front (op e) _ rest NoCopy (op_no_copy e _ refl)
op_no_copy (Offset e arg) rest h = front (op e) _ rest NoCopy (op_no_copy e _ refl)
op_no_copy (OffsetFrom e arg) rest h = front (op e) _ rest NoCopy (op_no_copy e _ refl)
op_no_copy (IsNull e) rest h = front (op e) _ rest NoCopy (op_no_copy e _ refl)
op_no_copy (IsNone e) rest h = front (op e) _ rest NoCopy (op_no_copy e _ refl)
op_no_copy (AddressOf p) rest h = refl
op_no_copy (NullPointer t) rest h = refl
op_no_copy (SomeFunction m x params r) rest h = refl
op_no_copy (Transmute from to e) rest h = refl
op_no_copy (Neg e) rest h = refl
op_no_copy (Not e) rest h = refl
op_no_copy (Cast e t) rest h = refl
op_no_copy (Binary left o right) rest h = refl
op_no_copy (And left right) rest h = refl
op_no_copy (Or left right) rest h = refl
op_no_copy (Choose c a b) rest h = refl

-- what is read as an expression statement
plain_by : (s : Sign) (below : Reader (List Stmt)) (tokens : Toks) → sign_at tokens ≡ s → opens s ≡ true → calls_copy tokens ≡ false → stmt_by s below tokens ≡ expr_stmt tokens
unfolding name_stmt
plain_by of.Name below tokens is h copy = cond-false (is_copy tokens) _ _ (ap (λ s. is_name s && is_copy tokens) (sym is) ∙ copy)
plain_by of.If below tokens is h copy = cc
plain_by of.Loop below tokens is h copy = cc
plain_by of.Label below tokens is h copy = cc
plain_by of.Match below tokens is h copy = cc
plain_by of.Break below tokens is h copy = cc
plain_by of.Continue below tokens is h copy = cc
plain_by of.Return below tokens is h copy = cc
plain_by _ below tokens is h copy = refl

plain_stmt : (below : Reader (List Stmt)) (tokens : Toks) → opens (sign_at tokens) ≡ true → calls_copy tokens ≡ false → stmt_from below tokens ≡ expr_stmt tokens
unfolding stmt_from
plain_stmt below tokens h copy = plain_by (sign_at tokens) below tokens refl h copy

-- ---- expressions in statements

pub value_reads : (e : Expr) (rest : Toks) → valid_expr e ≡ true → ends (sign_at rest) ≡ true → read_expr (expr_tokens e ++ rest) ≡ read_of e rest
value_reads e rest v h = exprs_read (length (expr_tokens e ++ rest)) e rest v h (omega arith)

copied_reads : (e : Expr) (t : RToken) (rest : Toks) → valid_expr e ≡ true → ends (sign t) ≡ true → copied (expr_tokens e ++ t ∷ rest) ≡ read_of e rest
unfolding copied
copied_reads e t rest v h = ap (λ (q : Expr × Toks). read_of q.0 (drop 1 q.1)) (value_reads e (t ∷ rest) v h)

mark_ends : (ends (sign (Mark (codes ";"))) ≡ true) × (ends (sign (Mark (codes ","))) ≡ true) × (ends (sign (Mark (codes ")"))) ≡ true) × (ends (sign (Mark (codes "{"))) ≡ true) × (ends (sign (Mark (codes "="))) ≡ true)
unfolding marks
mark_ends = (refl, refl, refl, refl, refl)

-- ---- statements without others in them

assign_tokens_same : (p v rest : Toks) → (p ++ Mark (codes "=") ∷ (v ++ Mark (codes ";") ∷ [])) ++ rest ≡ p ++ Mark (codes "=") ∷ (v ++ Mark (codes ";") ∷ rest)
assign_tokens_same p v rest =
    append_assoc p (Mark (codes "=") ∷ (v ++ Mark (codes ";") ∷ [])) rest
    ∙ ap (λ (t : Toks). p ++ Mark (codes "=") ∷ t) (append_assoc v (Mark (codes ";") ∷ []) rest)

assign_value : (p : Place) (v : Expr) (rest : Toks) → valid_place p ≡ true → valid_expr v ≡ true →
    expr_stmt (place_tokens p ++ Mark (codes "=") ∷ (expr_tokens v ++ Mark (codes ";") ∷ rest)) ≡ read_of (Assign p v) rest
unfolding expr_stmt assign_from assigned marks
assign_value p v rest vp vv =
    let behind : Toks = Mark (codes "=") ∷ (expr_tokens v ++ Mark (codes ";") ∷ rest) in
    ap (λ (q : Expr × Toks). assign_from q.0 q.1) (value_reads (Read p) behind vp refl)
    ∙ ap (λ (q : Expr × Toks). read_of (Assign p q.0) q.1) (copied_reads v (Mark (codes ";")) rest vv refl)

star_stmt : (below : Reader (List Stmt)) (tokens : Toks) → stmt_from below (Mark (codes "*") ∷ tokens) ≡ expr_stmt (Mark (codes "*") ∷ tokens)
unfolding stmt_from marks
star_stmt below tokens = refl

-- a statement that begins with a place
place_stmt : (below : Reader (List Stmt)) (p : Place) (rest : Toks) → valid_place p ≡ true → is_path_mark (sign_at rest) ≡ false →
    stmt_from below (place_tokens p ++ rest) ≡ expr_stmt (place_tokens p ++ rest)
place_stmt below (Deref e) rest v h = star_stmt below _
place_stmt below (Local x) rest v h = plain_stmt below (Word x ∷ rest) (op_opens (Read (Local x)) rest v) (place_no_copy (Local x) rest h)
place_stmt below (Static m x) rest v h = plain_stmt below _ (op_opens (Read (Static m x)) rest v) (place_no_copy (Static m x) rest h)
place_stmt below (Field p f) rest v h = plain_stmt below _ (op_opens (Read (Field p f)) rest v) (place_no_copy (Field p f) rest h)

equal_no_path : is_path_mark (sign (Mark (codes "="))) ≡ false
unfolding marks
equal_no_path = refl

assign_reads : (below : Reader (List Stmt)) (p : Place) (v : Expr) (rest : Toks) → valid_place p ≡ true → valid_expr v ≡ true →
    stmt_from below (stmt_tokens (Assign p v) ++ rest) ≡ read_of (Assign p v) rest
assign_reads below p v rest vp vv =
    let same = assign_tokens_same (place_tokens p) (expr_tokens v) rest in
    ap (stmt_from below) same
    ∙ place_stmt below p (Mark (codes "=") ∷ (expr_tokens v ++ Mark (codes ";") ∷ rest)) vp equal_no_path
    ∙ assign_value p v rest vp vv

eval_value : (e : Expr) (rest : Toks) → valid_expr e ≡ true → expr_stmt (expr_tokens e ++ Mark (codes ";") ∷ rest) ≡ read_of (Eval e) rest
unfolding expr_stmt assign_from marks
eval_value e rest v = ap (λ (q : Expr × Toks). assign_from q.0 q.1) (value_reads e (Mark (codes ";") ∷ rest) v refl)

semicolon_no_path : is_path_mark (sign (Mark (codes ";"))) ≡ false
unfolding marks
semicolon_no_path = refl

call_op : (e : Expr) → is_call e ≡ true → op e ≡ expr_tokens e
call_op (Call m x args) h = refl
call_op (CallBy e args) h = refl
call_op (Literal n k) h = cc
call_op (Truth b) h = cc
call_op NoFunction h = cc
call_op (Read p) h = cc
call_op (Wrapped e o arg) h = cc
call_op (WrappingNeg e) h = cc
call_op (Offset e arg) h = cc
call_op (OffsetFrom e arg) h = cc
call_op (IsNull e) h = cc
call_op (IsNone e) h = cc
call_op (AddressOf p) h = cc
call_op (NullPointer t) h = cc
call_op (SomeFunction m x params r) h = cc
call_op (Transmute from to e) h = cc
call_op (Neg e) h = cc
call_op (Not e) h = cc
call_op (Cast e t) h = cc
call_op (Binary left o right) h = cc
call_op (And left right) h = cc
call_op (Or left right) h = cc
call_op (Choose c a b) h = cc

eval_reads : (below : Reader (List Stmt)) (e : Expr) (rest : Toks) → is_call e ≡ true → valid_expr e ≡ true → stmt_from below (stmt_tokens (Eval e) ++ rest) ≡ read_of (Eval e) rest
eval_reads below e rest call v =
    let behind : Toks = Mark (codes ";") ∷ rest in
    let same : op e ++ behind ≡ expr_tokens e ++ behind = ap (λ (t : Toks). t ++ behind) (call_op e call) in
    ap (stmt_from below) (append_assoc (expr_tokens e) (Mark (codes ";") ∷ []) rest)
    ∙ plain_stmt below (expr_tokens e ++ behind) (subst (λ (t : Toks). opens (sign_at t) ≡ true) same (op_opens e behind v))
    (subst NoCopy same (op_no_copy e behind semicolon_no_path))
    ∙ eval_value e rest v

copy_same : (a b c rest : Toks) →
    (Mark (codes "(") ∷ ((a ++ Mark (codes ",") ∷ (b ++ Mark (codes ",") ∷ (c ++ []))) ++ Mark (codes ")") ∷ []) ++ Mark (codes ";") ∷ []) ++ rest
    ≡ Mark (codes "(") ∷ (a ++ Mark (codes ",") ∷ (b ++ Mark (codes ",") ∷ (c ++ Mark (codes ")") ∷ Mark (codes ";") ∷ rest)))
copy_same a b c rest =
    let bc : Toks = Mark (codes ",") ∷ (b ++ Mark (codes ",") ∷ (c ++ [])) in
    let tail : Toks = Mark (codes ")") ∷ Mark (codes ";") ∷ rest in
    ap (λ (t : Toks). Mark (codes "(") ∷ t)
    (append_assoc ((a ++ bc) ++ Mark (codes ")") ∷ []) (Mark (codes ";") ∷ []) rest
    ∙ append_assoc (a ++ bc) (Mark (codes ")") ∷ []) (Mark (codes ";") ∷ rest)
    ∙ append_assoc a bc tail
    ∙ ap (λ (t : Toks). a ++ Mark (codes ",") ∷ t)
    (append_assoc b (Mark (codes ",") ∷ (c ++ [])) tail ∙ ap (λ (t : Toks). b ++ Mark (codes ",") ∷ (t ++ tail)) (append-nil c)))

copy_reads : (below : Reader (List Stmt)) (a b c : Expr) (rest : Toks) → valid_expr a ≡ true → valid_expr b ≡ true → valid_expr c ≡ true →
    stmt_from below (stmt_tokens (CopyBytes a b c) ++ rest) ≡ read_of (CopyBytes a b c) rest
unfolding stmt_from name_stmt copy_stmt words marks
copy_reads below a b c rest va vb vc =
    let same = copy_same (expr_tokens a) (expr_tokens b) (expr_tokens c) rest in
    let head : Toks → Toks = λ t. spelling.path_tokens (codes "core" ∷ codes "ptr" ∷ codes "copy" ∷ []) ++ t in
    let tail : Toks = Mark (codes ";") ∷ rest in
    let behind_b : Toks = expr_tokens c ++ Mark (codes ")") ∷ tail in
    let behind_a : Toks = expr_tokens b ++ Mark (codes ",") ∷ behind_b in
    ap (λ (t : Toks). stmt_from below (head t)) same
    ∙ ap (λ (q : Expr × Toks). read_of (CopyBytes q.0 (copied q.1).0 (copied (copied q.1).1).0) (drop 1 (copied (copied q.1).1).1)) (copied_reads a (Mark (codes ",")) behind_a va refl)
    ∙ ap (λ (q : Expr × Toks). read_of (CopyBytes a q.0 (copied q.1).0) (drop 1 (copied q.1).1)) (copied_reads b (Mark (codes ",")) behind_b vb refl)
    ∙ ap (λ (q : Expr × Toks). read_of (CopyBytes a b q.0) (drop 1 q.1)) (copied_reads c (Mark (codes ")")) tail vc refl)

jump_reads : (below : Reader (List Stmt)) (l : List ℕ) (rest : Toks) →
    (stmt_from below (stmt_tokens (Break l) ++ rest) ≡ read_of (Break l) rest) × (stmt_from below (stmt_tokens (Continue l) ++ rest) ≡ read_of (Continue l) rest)
unfolding stmt_from break_stmt continue_stmt words
jump_reads below l rest = (refl, refl)

no_semicolon : (s : Sign) (tokens : Toks) → begins s ≡ true → returned_by s tokens ≡ read_of (Some (read_expr tokens).0) (read_expr tokens).1
no_semicolon of.Semicolon tokens h = cc
no_semicolon _ tokens h = refl

return_reads : (below : Reader (List Stmt)) (value : Option Expr) (rest : Toks) → valid_returned value ≡ true → stmt_from below (stmt_tokens (Return value) ++ rest) ≡ read_of (Return value) rest
unfolding stmt_from return_stmt words marks
return_reads below None rest v = refl
return_reads below (Some e) rest v =
    let behind : Toks = Mark (codes ";") ∷ rest in
    ap (λ (t : Toks). stmt_from below (Word (codes "return") ∷ t)) (append_assoc (expr_tokens e) (Mark (codes ";") ∷ []) rest)
    ∙ ap (λ (q : Option Expr × Toks). read_of (Return q.0) (drop 1 q.1))
    (no_semicolon (sign_at (expr_tokens e ++ behind)) (expr_tokens e ++ behind) (expr_begins e behind v)
    ∙ ap (λ (q : Expr × Toks). read_of (Some q.0) q.1) (value_reads e behind v refl))

-- ---- statements that hold others

abbrev close : Toks → Toks
close rest = Mark (codes "}") ∷ rest

braces_same : (l rest : Toks) → spelling.in_braces l ++ rest ≡ Mark (codes "{") ∷ (l ++ close rest)
braces_same l rest = ap (λ (t : Toks). Mark (codes "{") ∷ t) (append_assoc l (Mark (codes "}") ∷ []) rest)

abbrev in_block : Stmts → Toks → Toks
in_block ss rest = Mark (codes "{") ∷ (stmts_tokens ss ++ close rest)

-- what a reader of lists of statements reads, of at most so many tokens
abbrev pub StmtsRead : Reader (List Stmt) → ℕ → Type 0
StmtsRead below most = (list : List Stmt) (rest : Toks) → list_all valid_stmt list ≡ true → ends_block (sign_at rest) ≡ true →
    length (flat_map stmt_tokens list ++ rest) ≤ most → below (flat_map stmt_tokens list ++ rest) ≡ read_of list rest

abbrev pub no_else : Sign → Bool
no_else of.Else = false
no_else _ = true

module _ (below : Reader (List Stmt)) (most : ℕ) (reads : StmtsRead below most) where
  block_reads : (ss : Stmts) (rest : Toks) → valid_stmts ss ≡ true → length (stmts_tokens ss ++ close rest) ≤ most → block below (in_block ss rest) ≡ read_of (stmt_list ss) rest
  unfolding block marks
  block_reads ss rest v short =
      let same : stmts_tokens ss ++ close rest ≡ flat_map stmt_tokens (stmt_list ss) ++ close rest = ap (λ (t : Toks). t ++ close rest) (stmts_spell ss) in
      let n1 = ap length same in
      ap (λ (t : Toks). read_of (below t).0 (drop 1 (below t).1)) same
      ∙ ap (λ (q : List Stmt × Toks). read_of q.0 (drop 1 q.1)) (reads (stmt_list ss) (close rest) (stmts_valid ss v) refl (omega (arith, short, n1)))

  loop_from_reads : (label : Option (List ℕ)) (ss : Stmts) (rest : Toks) → valid_stmts ss ≡ true → length (in_block ss rest) ≤ suc most →
      loop_from label below (Word (codes "loop") ∷ in_block ss rest) ≡ read_of (Loop label ss) rest
  unfolding loop_from
  loop_from_reads label ss rest v short =
      ap (λ (q : List Stmt × Toks). read_of (Loop label (stmts q.0)) q.1) (block_reads ss rest v (omega (arith, short)))
      ∙ ap (λ l. read_of (Loop label l) rest) (list_is_stmts ss)

  loop_reads : (label : Option (List ℕ)) (ss : Stmts) (rest : Toks) → valid_stmts ss ≡ true → length (stmt_tokens (Loop label ss) ++ rest) ≤ suc most →
      stmt_from below (stmt_tokens (Loop label ss) ++ rest) ≡ read_of (Loop label ss) rest
  unfolding stmt_from labelled words marks
  loop_reads None ss rest v short =
      let same = braces_same (stmts_tokens ss) rest in
      let n1 = ap length same in
      ap (λ (t : Toks). stmt_from below (Word (codes "loop") ∷ t)) same ∙ loop_from_reads None ss rest v (omega (arith, short, n1))
  loop_reads (Some l) ss rest v short =
      let same = braces_same (stmts_tokens ss) rest in
      let n1 = ap length same in
      ap (λ (t : Toks). stmt_from below (Label l ∷ Mark (codes ":") ∷ Word (codes "loop") ∷ t)) same ∙ loop_from_reads (Some l) ss rest v (omega (arith, short, n1))

  block_from_reads : (l : List ℕ) (ss : Stmts) (rest : Toks) → valid_stmts ss ≡ true → length (in_block ss rest) ≤ suc most →
      block_from l below (in_block ss rest) ≡ read_of (Block l ss) rest
  unfolding block_from
  block_from_reads l ss rest v short =
      ap (λ (q : List Stmt × Toks). read_of (Block l (stmts q.0)) q.1) (block_reads ss rest v (omega (arith, short)))
      ∙ ap (λ b. read_of (Block l b) rest) (list_is_stmts ss)

  labelled_reads : (l : List ℕ) (ss : Stmts) (rest : Toks) → valid_stmts ss ≡ true → length (stmt_tokens (Block l ss) ++ rest) ≤ suc most →
      stmt_from below (stmt_tokens (Block l ss) ++ rest) ≡ read_of (Block l ss) rest
  unfolding stmt_from labelled words marks
  labelled_reads l ss rest v short =
      let same = braces_same (stmts_tokens ss) rest in
      let n1 = ap length same in
      ap (λ (t : Toks). stmt_from below (Label l ∷ Mark (codes ":") ∷ t)) same ∙ block_from_reads l ss rest v (omega (arith, short, n1))

  -- ---- `if`

  no_else_part : (s : Sign) (tokens : Toks) → no_else s ≡ true → else_by s below tokens ≡ read_of [] tokens
  no_else_part of.Else tokens h = cc
  no_else_part _ tokens h = refl

  else_reads : (ss : Stmts) (rest : Toks) → valid_stmts ss ≡ true → no_else (sign_at rest) ≡ true → length (else_tokens ss (stmts_tokens ss) ++ rest) ≤ suc most →
      else_part below (else_tokens ss (stmts_tokens ss) ++ rest) ≡ read_of (stmt_list ss) rest
  unfolding else_part words
  else_reads no_stmts rest v next short = no_else_part (sign_at rest) rest next
  else_reads (more_stmts s ss) rest v next short =
      let same = braces_same (stmts_tokens (more_stmts s ss)) rest in
      let n1 = ap length same in
      ap (λ (t : Toks). else_part below (Word (codes "else") ∷ t)) same ∙ block_reads (more_stmts s ss) rest v (omega (arith, short, n1))

  if_same : (c a e rest : Toks) → (c ++ (spelling.in_braces a ++ e)) ++ rest ≡ c ++ Mark (codes "{") ∷ (a ++ close (e ++ rest))
  if_same c a e rest =
      append_assoc c (spelling.in_braces a ++ e) rest
      ∙ ap (λ (t : Toks). c ++ t) (append_assoc (spelling.in_braces a) e rest ∙ braces_same a (e ++ rest))

  if_from_reads : (c : Expr) (a b : Stmts) (rest : Toks) → valid_stmts a ≡ true → valid_stmts b ≡ true → no_else (sign_at rest) ≡ true →
      length (in_block a (else_tokens b (stmts_tokens b) ++ rest)) ≤ suc most → if_from c below (in_block a (else_tokens b (stmts_tokens b) ++ rest)) ≡ read_of (If c a b) rest
  unfolding if_from
  if_from_reads c a b rest va vb next short =
      let behind : Toks = else_tokens b (stmts_tokens b) ++ rest in
      let n1 = length-append (stmts_tokens a) (close behind) in
      ap (λ (q : List Stmt × Toks). read_of (If c (stmts q.0) (stmts (else_part below q.1).0)) (else_part below q.1).1) (block_reads a behind va (omega (arith, short)))
      ∙ ap (λ (q : List Stmt × Toks). read_of (If c (stmts (stmt_list a)) (stmts q.0)) q.1) (else_reads b rest vb next (omega (arith, short, n1)))
      ∙ ap (λ l. read_of (If c l (stmts (stmt_list b))) rest) (list_is_stmts a)
      ∙ ap (λ l. read_of (If c a l) rest) (list_is_stmts b)

  if_reads : (c : Expr) (a b : Stmts) (rest : Toks) → valid_expr c ≡ true → valid_stmts a ≡ true → valid_stmts b ≡ true → no_else (sign_at rest) ≡ true →
      length (stmt_tokens (If c a b) ++ rest) ≤ suc most → stmt_from below (stmt_tokens (If c a b) ++ rest) ≡ read_of (If c a b) rest
  unfolding stmt_from if_stmt words marks
  if_reads c a b rest vc va vb next short =
      let e : Toks = else_tokens b (stmts_tokens b) in
      let same = if_same (expr_tokens c) (stmts_tokens a) e rest in
      let behind : Toks = in_block a (e ++ rest) in
      let n1 = ap length same in
      let n2 = length-append (expr_tokens c) behind in
      ap (λ (t : Toks). stmt_from below (Word (codes "if") ∷ t)) same
      ∙ ap (λ (q : Expr × Toks). if_from q.0 below q.1) (value_reads c behind vc refl)
      ∙ if_from_reads c a b rest va vb next (omega (arith, short, n1, n2))

  -- ---- `match`

  arm_same : (l b rest : Toks) → (l ++ Mark (codes "=>") ∷ spelling.in_braces b) ++ rest ≡ l ++ Mark (codes "=>") ∷ Mark (codes "{") ∷ (b ++ close rest)
  arm_same l b rest =
      append_assoc l (Mark (codes "=>") ∷ spelling.in_braces b) rest ∙ ap (λ (t : Toks). l ++ Mark (codes "=>") ∷ t) (braces_same b rest)

  abbrev any : Sign → Bool
  any s = true

  arm_reads : (one : ArmTree) (rest : Toks) → valid_arm one ≡ true → any (sign_at rest) ≡ true → length (arm_tokens one ++ rest) ≤ suc most → arm below (arm_tokens one ++ rest) ≡ read_of one rest
  unfolding arm
  arm_reads (LiteralArm n k ss) rest v next short =
      let parts = and_parts (is_value n) (valid_stmts ss) v in
      let same = arm_same (literal_tokens n k) (stmts_tokens ss) rest in
      let behind : Toks = Mark (codes "=>") ∷ in_block ss rest in
      let n1 = ap length same in
      let n2 = length-append (literal_tokens n k) behind in
      ap (arm below) same
      ∙ ap (λ (q : (ℤ × IntegerTy) × Toks). read_of (LiteralArm q.0.0 q.0.1 (stmts (block below (drop 1 q.1)).0)) (block below (drop 1 q.1)).1) (literal_reads n k behind parts.0)
      ∙ ap (λ (q : List Stmt × Toks). read_of (LiteralArm n k (stmts q.0)) q.1) (block_reads ss rest parts.1 (omega (arith, short, n1, n2)))
      ∙ ap (λ l. read_of (LiteralArm n k l) rest) (list_is_stmts ss)

  arm_starts : (one : ArmTree) (rest : Toks) → valid_arm one ≡ true → ends_arms (sign_at (arm_tokens one ++ rest)) ≡ false
  unfolding marks
  arm_starts (LiteralArm (pos n) k ss) rest v =
      ap ends_arms (number_sign (decimal n ++ integer_word k) (literal_word n k (and_parts (is_value (pos n)) (valid_stmts ss) v).0).first)
  arm_starts (LiteralArm (negsuc n) k ss) rest v = refl

  arm_some : (one : ArmTree) → 1 ≤ length (arm_tokens one)
  arm_some (LiteralArm (pos n) k ss) = omega arith
  arm_some (LiteralArm (negsuc n) k ss) = omega arith

  arms_read : (cases : Arms) (rest : Toks) → valid_arms cases ≡ true → ends_arms (sign_at rest) ≡ true → length (arms_tokens cases ++ rest) ≤ suc most →
      read_arms below (arms_tokens cases ++ rest) ≡ read_of (arm_list cases) rest
  arms_read cases rest v stop short =
      subst (λ (l : Toks). read_arms below (l ++ rest) ≡ read_of (arm_list cases) rest) (sym (arms_spell cases))
      (ahead_reads ends_arms (arm below) arm_tokens valid_arm any (suc most) arm_reads arm_starts (λ _ _ _. refl) arm_some (arm_list cases) rest (arms_valid cases v) stop refl
      (subst (λ (l : Toks). length (l ++ rest) ≤ suc most) (arms_spell cases) short))

  match_same : (v cs o rest : Toks) →
      (v ++ spelling.in_braces (cs ++ Word (codes "_") ∷ Mark (codes "=>") ∷ spelling.in_braces o)) ++ rest
      ≡ v ++ Mark (codes "{") ∷ (cs ++ Word (codes "_") ∷ Mark (codes "=>") ∷ Mark (codes "{") ∷ (o ++ close (close rest)))
  match_same v cs o rest =
      let last : Toks = Word (codes "_") ∷ Mark (codes "=>") ∷ spelling.in_braces o in
      append_assoc v (spelling.in_braces (cs ++ last)) rest
      ∙ ap (λ (t : Toks). v ++ t) (braces_same (cs ++ last) rest)
      ∙ ap (λ (t : Toks). v ++ Mark (codes "{") ∷ t)
      (append_assoc cs last (close rest) ∙ ap (λ (t : Toks). cs ++ Word (codes "_") ∷ Mark (codes "=>") ∷ t) (braces_same o (close rest)))

  match_end_reads : (v : Expr) (cases : List ArmTree) (ss : Stmts) (rest : Toks) → valid_stmts ss ≡ true → length (in_block ss (close rest)) ≤ suc most →
      match_end v cases below (Word (codes "_") ∷ Mark (codes "=>") ∷ in_block ss (close rest)) ≡ read_of (Match v (arms cases) ss) rest
  unfolding match_end
  match_end_reads v cases ss rest vs short =
      ap (λ (q : List Stmt × Toks). read_of (Match v (arms cases) (stmts q.0)) (drop 1 q.1)) (block_reads ss (close rest) vs (omega (arith, short)))
      ∙ ap (λ l. read_of (Match v (arms cases) l) rest) (list_is_stmts ss)

  match_reads : (v : Expr) (cases : Arms) (ss : Stmts) (rest : Toks) → valid_expr v ≡ true → valid_arms cases ≡ true → valid_stmts ss ≡ true →
      length (stmt_tokens (Match v cases ss) ++ rest) ≤ suc most → stmt_from below (stmt_tokens (Match v cases ss) ++ rest) ≡ read_of (Match v cases ss) rest
  unfolding stmt_from match_stmt match_from words marks
  match_reads v cases ss rest vv vc vs short =
      let same = match_same (expr_tokens v) (arms_tokens cases) (stmts_tokens ss) rest in
      let last : Toks = Word (codes "_") ∷ Mark (codes "=>") ∷ in_block ss (close rest) in
      let behind : Toks = arms_tokens cases ++ last in
      let n1 = ap length same in
      let n2 = length-append (expr_tokens v) (Mark (codes "{") ∷ behind) in
      let n3 = length-append (arms_tokens cases) last in
      ap (λ (t : Toks). stmt_from below (Word (codes "match") ∷ t)) same
      ∙ ap (λ (q : Expr × Toks). match_from q.0 below q.1) (value_reads v (Mark (codes "{") ∷ behind) vv refl)
      ∙ ap (λ (q : List ArmTree × Toks). match_end v q.0 below q.1) (arms_read cases last vc refl (omega (arith, short, n1, n2)))
      ∙ match_end_reads v (arm_list cases) ss rest vs (omega (arith, short, n1, n2, n3))
      ∙ ap (λ c. read_of (Match v c ss) rest) (list_is_arms cases)

  pub stmt_reads : (s : Stmt) (rest : Toks) → valid_stmt s ≡ true → no_else (sign_at rest) ≡ true → length (stmt_tokens s ++ rest) ≤ suc most → stmt_from below (stmt_tokens s ++ rest) ≡ read_of s rest
  stmt_reads (Assign p e) rest v next short = let parts = and_parts (valid_place p) (valid_expr e) v in assign_reads below p e rest parts.0 parts.1
  stmt_reads (Eval e) rest v next short = let parts = and_parts (is_call e) (valid_expr e) v in eval_reads below e rest parts.0 parts.1
  stmt_reads (CopyBytes a b c) rest v next short =
      let parts = and_parts (valid_expr a && valid_expr b) (valid_expr c) v in
      let first = and_parts (valid_expr a) (valid_expr b) parts.0 in copy_reads below a b c rest first.0 first.1 parts.1
  stmt_reads (If c a b) rest v next short =
      let parts = and_parts (valid_expr c && valid_stmts a) (valid_stmts b) v in
      let first = and_parts (valid_expr c) (valid_stmts a) parts.0 in if_reads c a b rest first.0 first.1 parts.1 next short
  stmt_reads (Loop label ss) rest v next short = loop_reads label ss rest (and_parts (valid_label label) (valid_stmts ss) v).1 short
  stmt_reads (Block l ss) rest v next short = labelled_reads l ss rest (and_parts (is_label l) (valid_stmts ss) v).1 short
  stmt_reads (Break l) rest v next short = (jump_reads below l rest).0
  stmt_reads (Continue l) rest v next short = (jump_reads below l rest).1
  stmt_reads (Match e cases ss) rest v next short =
      let parts = and_parts (valid_expr e && valid_arms cases) (valid_stmts ss) v in
      let first = and_parts (valid_expr e) (valid_arms cases) parts.0 in match_reads e cases ss rest first.0 first.1 parts.1 short
  stmt_reads (Return value) rest v next short = return_reads below value rest v

-- ---- where a statement begins

abbrev pub starts : Sign → Bool
starts of.End = false
starts of.RightBrace = false
starts of.Else = false
starts of.Let = false
starts _ = true

begins_start : (s : Sign) → begins s ≡ true → starts s ≡ true
begins_start of.End h = cc
begins_start of.RightBrace h = cc
begins_start of.Else h = cc
begins_start of.Let h = cc
begins_start _ h = refl

starts_no_end : (s : Sign) → starts s ≡ true → ends_block s ≡ false
starts_no_end of.End h = cc
starts_no_end of.RightBrace h = cc
starts_no_end _ h = refl

starts_no_else : (s : Sign) → starts s ≡ true → no_else s ≡ true
starts_no_else of.Else h = cc
starts_no_else _ h = refl

abbrev Starts : Toks → Type 0
Starts tokens = starts (sign_at tokens) ≡ true

place_starts : (p : Place) (rest : Toks) → valid_place p ≡ true → Starts (place_tokens p ++ rest)
place_starts p rest v = begins_start (sign_at (place_tokens p ++ rest)) (expr_begins (Read p) rest v)

pub stmt_starts : (s : Stmt) (rest : Toks) → valid_stmt s ≡ true → Starts (stmt_tokens s ++ rest)
unfolding words marks
stmt_starts (Assign p e) rest v = front (place_tokens p) _ rest Starts (place_starts p _ (and_parts (valid_place p) (valid_expr e) v).0)
stmt_starts (Eval e) rest v =
    front (expr_tokens e) _ rest Starts (begins_start (sign_at (expr_tokens e ++ Mark (codes ";") ∷ rest)) (expr_begins e _ (and_parts (is_call e) (valid_expr e) v).1))
stmt_starts (CopyBytes a b c) rest v = refl
stmt_starts (If c a b) rest v = refl
stmt_starts (Loop None ss) rest v = refl
stmt_starts (Loop (Some l) ss) rest v = refl
stmt_starts (Block l ss) rest v = refl
stmt_starts (Break l) rest v = refl
stmt_starts (Continue l) rest v = refl
stmt_starts (Match e cases ss) rest v = refl
stmt_starts (Return None) rest v = refl
stmt_starts (Return (Some e)) rest v = refl

stmt_some : (s : Stmt) → 1 ≤ length (stmt_tokens s)
stmt_some (Assign p e) = behind_some (place_tokens p) _ _
stmt_some (Eval e) = behind_some (expr_tokens e) _ _
stmt_some (CopyBytes a b c) = omega arith
stmt_some (If c a b) = omega arith
stmt_some (Loop None ss) = omega arith
stmt_some (Loop (Some l) ss) = omega arith
stmt_some (Block l ss) = omega arith
stmt_some (Break l) = omega arith
stmt_some (Continue l) = omega arith
stmt_some (Match e cases ss) = omega arith
stmt_some (Return None) = omega arith
stmt_some (Return (Some e)) = omega arith

ends_no_else : (s : Sign) → ends_block s ≡ true → no_else s ≡ true
ends_no_else of.Else h = cc
ends_no_else _ h = refl

-- lists of statements are read by one level more
level_reads : (below : Reader (List Stmt)) (most : ℕ) → StmtsRead below most → StmtsRead (stmts_from below) (suc most)
level_reads below most reads list rest v stop short =
    ahead_reads ends_block (stmt_from below) stmt_tokens valid_stmt no_else (suc most) (stmt_reads below most reads)
    (λ s more v. starts_no_end (sign_at (stmt_tokens s ++ more)) (stmt_starts s more v)) (λ s more v. starts_no_else (sign_at (stmt_tokens s ++ more)) (stmt_starts s more v)) stmt_some
    list rest v stop (ends_no_else (sign_at rest) stop) short

no_tokens : (rest : Toks) → length rest ≤ 0 → ends_block (sign_at rest) ≡ true → rest ≡ []
no_tokens [] short stop = refl
no_tokens (t ∷ rest) short stop = absurd (omega (arith, short))

pub stmts_read : (levels : ℕ) → StmtsRead (read_stmts levels) levels
unfolding read_stmts
stmts_read zero [] rest v stop short = refl
stmts_read zero (s ∷ list) rest v stop short =
    let a = length-append (stmt_tokens s ++ flat_map stmt_tokens list) rest in
    let b = length-append (stmt_tokens s) (flat_map stmt_tokens list) in
    let c = stmt_some s in absurd (omega (arith, short, a, b, c))
stmts_read (suc levels) list rest v stop short = level_reads (read_stmts levels) levels (stmts_read levels) list rest v stop short
