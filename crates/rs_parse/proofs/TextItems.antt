-- Printed lines spell the tokens of statements, items and modules.
use Rattle.std.proofs.Common.{◌≡◌, ℕ, zero, suc, ◌+◌, ◌*◌, ◌/◌, ◌%◌, ◌^◌, ◌<◌, ◌==◌, nat_lt, ℤ, Bool, true, false, ◌&&◌, List, [], ◌∷◌, ◌++◌, map, codes, slice_index, Option, Some, None, replicate, refl, sym, ap, subst, ◌∙◌, arith, append_assoc, append-nil, if◌then◌else◌}
use Rattle.std.specs.Fmt.{decimal, digits, digits_onto, digit_glyph}
use Rattle.std.specs.List.{flat_map, list_all}
use Rattle.std.proofs.lemmas.Bool.{and_parts, cond-true}
use Rattle.std.proofs.lemmas.Bool.Decides.{nat_tests}
use Rattle.rs_text.specs.Forms.{is_call}
use Rattle.rs_text.specs.Lines.{line, closing, literal_text, ty_text, result_text, return_line, else_lines, stmt_lines, stmts_lines, arms_lines, function_of, zeroed, static_zeroed, typed_text, attribute_lines, repr_line, field_line, record_lines, values_text, static_lines, outer_param, outer_params, variadic_text, link_name_lines, outer_lines, local_line, param_text, function_lines, item_lines, line_bytes, text_of_lines, listed, behind_commas}
use Rattle.rs_text.specs.Names.{is_word_byte, is_identifier, is_word, is_label}
use Rattle.rs_text.specs.Spelling.{place_tokens, expr_tokens, literal_tokens, ty_tokens, result_tokens, stmt_tokens, stmts_tokens, arm_tokens, arms_tokens, else_tokens, return_tokens, typed_tokens, attribute_tokens, repr_tokens, field_tokens, record_item_tokens, values_tokens, zeroed_tokens, static_tokens, variadic_tokens, link_name_tokens, outer_tokens, param_tokens, local_tokens, function_tokens, item_tokens}
use Rattle.rs_text.specs.Spelling as spelling
use Rattle.rs_text.specs.Tokens.{Word, Mark, Label, Quoted}
use Rattle.rs_text.specs.Tree.{Ty, option_ty, Expr, Stmt, Assign, Eval, CopyBytes, If, Loop, Block, Break, Continue, Match, Return, Stmts, no_stmts, more_stmts, LiteralArm, Arms, no_arms, more_arms, FieldTree, RecordTree, StaticTree, OuterTree, LocalTree, FunctionTree, ItemTree, RecordItem, StaticItem, ExternItem, FunctionItem}
use Rattle.rs_text.specs.Valid.{valid_place, valid_expr, valid_ty, valid_stmt, valid_stmts, valid_arms, valid_label, valid_returned, is_value, valid_align, valid_field, valid_record, valid_attribute, valid_values, valid_static, valid_symbol, valid_variadic, valid_outer, valid_local, valid_function, valid_item, valid_result}
use Rattle.rs_text.specs.Words.{record_word}
use Rattle.rs_text.specs.declared.attribute.Attribute.{Attribute}
use Rattle.rs_text.specs.declared.attribute.Attribute.TheVariants.{Mangled, NoMangle, ExportName}
use Rattle.rs_text.specs.declared.integer.IntegerTy.TheVariants.{I8}
use Rattle.rs_text.specs.declared.line.Line.{Line}
use Rattle.rs_parse.proofs.Lexing.{Toks, Text, Reads, reads_nil, soft, mild, is_wordy, blank, word_reads, label_reads, quoted_reads, hash, open_bracket, close_bracket, comma, equal, word_wordy}
use Rattle.rs_parse.proofs.ReadItems.{values_valid, among_small}
use Rattle.rs_parse.proofs.ReadTypes.{is_target}
use Rattle.rs_parse.proofs.Texts.{Good, nothing, loosen, free_then, soft_then, good_moved, name_good, literal_good, place_good, expr_good, ty_good, ty_to_good, result_good, digits_good, l_align, l_align_end, l_arm, l_brace, l_close, l_close_bracket, l_colon, l_comma, l_copy, l_derive, l_dots, l_else_line, l_end, l_equal, l_extern, l_function, l_head, l_if, l_label_block, l_label_loop, l_let, l_loop, l_match, l_mut, l_newline, l_no_mangle, l_open, l_open_bracket, l_other, l_pub, l_pub_fn, l_pub_static, l_repr, l_return, l_return_end, l_struct, l_union, l_zeroed, l_zeroed_static}

-- ---- pieces of fixed text

l_comma1 : {n : Bool} {b : Text} {bs : Toks} → Good n b bs → Good n (44 ∷ b) (Mark (codes ",") ∷ bs)
l_comma1 {n} {b} {bs} good = record { on = λ t us h r. (comma (good.on t us h r)) }

l_break : {n : Bool} {b : Text} {bs : Toks} → Good n b bs → Good n (98 ∷ 114 ∷ 101 ∷ 97 ∷ 107 ∷ 32 ∷ b) (Word (codes "break") ∷ bs)
l_break {n} {b} {bs} good = record { on = λ t us h r. (word_reads (codes "break") (32 ∷ (b ++ t)) ((bs ++ us)) refl refl (blank (good.on t us h r))) }

l_continue : {n : Bool} {b : Text} {bs : Toks} → Good n b bs → Good n (99 ∷ 111 ∷ 110 ∷ 116 ∷ 105 ∷ 110 ∷ 117 ∷ 101 ∷ 32 ∷ b) (Word (codes "continue") ∷ bs)
l_continue {n} {b} {bs} good = record { on = λ t us h r. (word_reads (codes "continue") (32 ∷ (b ++ t)) ((bs ++ us)) refl refl (blank (good.on t us h r))) }

l_export : {n : Bool} {b : Text} {bs : Toks} → Good n b bs → Good n (35 ∷ 91 ∷ 101 ∷ 120 ∷ 112 ∷ 111 ∷ 114 ∷ 116 ∷ 95 ∷ 110 ∷ 97 ∷ 109 ∷ 101 ∷ 32 ∷ 61 ∷ 32 ∷ b) (Mark (codes "#") ∷ Mark (codes "[") ∷ Word (codes "export_name") ∷ Mark (codes "=") ∷ bs)
l_export {n} {b} {bs} good = record { on = λ t us h r. (hash (open_bracket (word_reads (codes "export_name") (32 ∷ 61 ∷ 32 ∷ (b ++ t)) (Mark (codes "=") ∷ (bs ++ us)) refl refl (blank (equal (good.on t us h r)))))) }

l_link : {n : Bool} {b : Text} {bs : Toks} → Good n b bs → Good n (35 ∷ 91 ∷ 108 ∷ 105 ∷ 110 ∷ 107 ∷ 95 ∷ 110 ∷ 97 ∷ 109 ∷ 101 ∷ 32 ∷ 61 ∷ 32 ∷ b) (Mark (codes "#") ∷ Mark (codes "[") ∷ Word (codes "link_name") ∷ Mark (codes "=") ∷ bs)
l_link {n} {b} {bs} good = record { on = λ t us h r. (hash (open_bracket (word_reads (codes "link_name") (32 ∷ 61 ∷ 32 ∷ (b ++ t)) (Mark (codes "=") ∷ (bs ++ us)) refl refl (blank (equal (good.on t us h r)))))) }

l_bracket_end : {n : Bool} {b : Text} {bs : Toks} → Good n b bs → Good n (93 ∷ b) (Mark (codes "]") ∷ bs)
l_bracket_end {n} {b} {bs} good = record { on = λ t us h r. (close_bracket (good.on t us h r)) }

-- ---- lines

pub record LinesGood (lines : List Line) (xs : Toks) : Type 0 where
  pub good : Good false (text_of_lines lines) xs

pub no_lines : LinesGood [] []
no_lines = record { good = nothing }

lines_moved : {ls : List Line} {xs ys : Toks} → xs ≡ ys → LinesGood ls xs → LinesGood ls ys
lines_moved {ls} e lines = subst (λ (l : Toks). LinesGood ls l) e lines

blanks_good : (k : ℕ) → Good false (replicate k 32) []
blanks_good zero = nothing
blanks_good (suc k) = record { on = λ t us h r. let inner : Good false (replicate k 32) [] = blanks_good k in blank (inner.on t us h r) }

line_good : (d : ℕ) {a : Text} {xs : Toks} → Good true a xs → Good false (line_bytes (line d a)) xs
line_good d {a} {xs} good =
    let ended : Good false (a ++ codes "\n") (xs ++ []) = soft_then good (l_newline nothing) (λ t s. refl) in
    free_then (blanks_good (4 * d)) (good_moved refl (append-nil xs) ended)

pub cons_line : (d : ℕ) {a : Text} {xs : Toks} {ls : List Line} {bs : Toks} → Good true a xs → LinesGood ls bs → LinesGood (line d a ∷ ls) (xs ++ bs)
cons_line d first more = record { good = free_then (line_good d first) more.good }

pub one_line : (d : ℕ) {a : Text} {xs : Toks} → Good true a xs → LinesGood (line d a ∷ []) xs
one_line d {a} {xs} first = lines_moved (append-nil xs) (cons_line d first no_lines)

flat_append : (xs ys : List Line) → text_of_lines (xs ++ ys) ≡ text_of_lines xs ++ text_of_lines ys
flat_append [] ys = refl
flat_append (x ∷ xs) ys = ap (λ l. line_bytes x ++ l) (flat_append xs ys) ∙ sym (append_assoc (line_bytes x) (text_of_lines xs) (text_of_lines ys))

pub lines_then : {ls ms : List Line} {xs ys : Toks} → LinesGood ls xs → LinesGood ms ys → LinesGood (ls ++ ms) (xs ++ ys)
lines_then {ls} {ms} first next = record { good = good_moved (sym (flat_append ls ms)) refl (free_then first.good next.good) }

close_line : (d : ℕ) → LinesGood (closing d ∷ []) (Mark (codes "}") ∷ [])
close_line d = one_line d (l_brace nothing)

-- ---- labels

label_then : {n : Bool} {b : Text} {bs : Toks} (l : Text) → is_label l ≡ true → ((t : Text) → mild (b ++ t) ≡ true) → Good n b bs → Good n (39 ∷ (l ++ b)) (Label l ∷ bs)
label_then {n} {b} {bs} l v front good = record {
  on = λ t us h r.
      subst (λ (x : Text). Reads (39 ∷ x) (Label l ∷ (bs ++ us))) (sym (append_assoc l b t)) (label_reads l (b ++ t) (bs ++ us) v (front t) (good.on t us h r));
}

-- ---- statements

-- `{` of a head, what stands in the braces, and what stands behind them
braces_same : (c a e : Toks) → (c ++ Mark (codes "{") ∷ []) ++ (a ++ Mark (codes "}") ∷ e) ≡ c ++ (spelling.in_braces a ++ e)
braces_same c a e = append_assoc c (Mark (codes "{") ∷ []) (a ++ Mark (codes "}") ∷ e) ∙ ap (λ (l : Toks). c ++ Mark (codes "{") ∷ l) (sym (append_assoc a (Mark (codes "}") ∷ []) e))

copy_same : (a b c : Toks) →
    a ++ Mark (codes ",") ∷ (b ++ Mark (codes ",") ∷ (c ++ Mark (codes ")") ∷ Mark (codes ";") ∷ []))
    ≡ ((a ++ Mark (codes ",") ∷ (b ++ Mark (codes ",") ∷ (c ++ []))) ++ Mark (codes ")") ∷ []) ++ Mark (codes ";") ∷ []
copy_same a b c =
    let bc : Toks = Mark (codes ",") ∷ (b ++ Mark (codes ",") ∷ (c ++ [])) in
    let tail : Toks = Mark (codes ")") ∷ Mark (codes ";") ∷ [] in
    sym (append_assoc (a ++ bc) (Mark (codes ")") ∷ []) (Mark (codes ";") ∷ [])
    ∙ append_assoc a bc tail
    ∙ ap (λ (t : Toks). a ++ Mark (codes ",") ∷ t)
    (append_assoc b (Mark (codes ",") ∷ (c ++ [])) tail ∙ ap (λ (t : Toks). b ++ Mark (codes ",") ∷ (t ++ tail)) (append-nil c)))

return_good : (d : ℕ) (o : Option Expr) → valid_returned o ≡ true → LinesGood (return_line d o ∷ []) (return_tokens o)
return_good d None v = one_line d (loosen (l_return_end nothing))
return_good d (Some e) v = one_line d (loosen (l_return (soft_then (expr_good e v) (l_end nothing) (λ t s. refl))))

match_same : (v cs o : Toks) →
    (v ++ Mark (codes "{") ∷ []) ++ (cs ++ (Word (codes "_") ∷ Mark (codes "=>") ∷ Mark (codes "{") ∷ (o ++ Mark (codes "}") ∷ Mark (codes "}") ∷ [])))
    ≡ v ++ spelling.in_braces (cs ++ Word (codes "_") ∷ Mark (codes "=>") ∷ spelling.in_braces o)
match_same v cs o =
    append_assoc v (Mark (codes "{") ∷ []) _
    ∙ ap (λ (l : Toks). v ++ Mark (codes "{") ∷ l)
    (sym (append_assoc cs (Word (codes "_") ∷ Mark (codes "=>") ∷ spelling.in_braces o) (Mark (codes "}") ∷ [])
    ∙ ap (λ (l : Toks). cs ++ Word (codes "_") ∷ Mark (codes "=>") ∷ Mark (codes "{") ∷ l) (append_assoc o (Mark (codes "}") ∷ []) (Mark (codes "}") ∷ []))))

mutual
  pub stmt_good : (d : ℕ) (s : Stmt) → valid_stmt s ≡ true → LinesGood (stmt_lines d s) (stmt_tokens s)
  stmt_good d (Assign p e) v =
      let parts = and_parts (valid_place p) (valid_expr e) v in
      one_line d (loosen (soft_then (place_good p parts.0) (l_equal (soft_then (expr_good e parts.1) (l_end nothing) (λ t s. refl))) (λ t s. refl)))
  stmt_good d (Eval e) v = one_line d (loosen (soft_then (expr_good e (and_parts (is_call e) (valid_expr e) v).1) (l_end nothing) (λ t s. refl)))
  stmt_good d (CopyBytes a b c) v =
      let parts = and_parts (valid_expr a && valid_expr b) (valid_expr c) v in
      let first = and_parts (valid_expr a) (valid_expr b) parts.0 in
      one_line d (good_moved refl (ap (λ (l : Toks). spelling.path_tokens (codes "core" ∷ codes "ptr" ∷ codes "copy" ∷ []) ++ Mark (codes "(") ∷ l) (copy_same (expr_tokens a) (expr_tokens b) (expr_tokens c)))
      (loosen (l_copy (soft_then (expr_good a first.0) (l_comma (soft_then (expr_good b first.1) (l_comma (soft_then (expr_good c parts.1) (l_close (l_end nothing)) (λ t s. refl))) (λ t s. refl))) (λ t s. refl)))))
  stmt_good d (If c a b) v =
      let parts = and_parts (valid_expr c && valid_stmts a) (valid_stmts b) v in
      let first = and_parts (valid_expr c) (valid_stmts a) parts.0 in
      lines_moved (ap (λ (l : Toks). Word (codes "if") ∷ l) (braces_same (expr_tokens c) (stmts_tokens a) (else_tokens b (stmts_tokens b))))
      (cons_line d (loosen (l_if (soft_then (expr_good c first.0) (l_head nothing) (λ t s. refl)))) (lines_then (stmts_good (d + 1) a first.1) (else_good d b parts.1)))
  stmt_good d (Loop None ss) v =
      cons_line d (loosen (l_loop nothing)) (lines_then (stmts_good (d + 1) ss (and_parts (valid_label None) (valid_stmts ss) v).1) (close_line d))
  stmt_good d (Loop (Some l) ss) v =
      let parts = and_parts (valid_label (Some l)) (valid_stmts ss) v in
      cons_line d (loosen (label_then l parts.0 (λ t. refl) (l_label_loop nothing))) (lines_then (stmts_good (d + 1) ss parts.1) (close_line d))
  stmt_good d (Block l ss) v =
      let parts = and_parts (is_label l) (valid_stmts ss) v in
      cons_line d (loosen (label_then l parts.0 (λ t. refl) (l_label_block nothing))) (lines_then (stmts_good (d + 1) ss parts.1) (close_line d))
  stmt_good d (Break l) v = one_line d (loosen (l_break (label_then l v (λ t. refl) (l_end nothing))))
  stmt_good d (Continue l) v = one_line d (loosen (l_continue (label_then l v (λ t. refl) (l_end nothing))))
  stmt_good d (Match e cases ss) v =
      let parts = and_parts (valid_expr e && valid_arms cases) (valid_stmts ss) v in
      let first = and_parts (valid_expr e) (valid_arms cases) parts.0 in
      lines_moved (ap (λ (l : Toks). Word (codes "match") ∷ l) (match_same (expr_tokens e) (arms_tokens cases) (stmts_tokens ss)))
      (cons_line d (loosen (l_match (soft_then (expr_good e first.0) (l_head nothing) (λ t s. refl))))
      (lines_then (arms_good (d + 1) cases first.1) (cons_line (d + 1) (loosen (l_other nothing)) (lines_then (stmts_good (d + 1 + 1) ss parts.1) (cons_line (d + 1) (loosen (l_brace nothing)) (close_line d))))))
  stmt_good d (Return o) v = return_good d o v

  -- what stands behind the first list, with the brace that closes it
  else_good : (d : ℕ) (ss : Stmts) → valid_stmts ss ≡ true → LinesGood (else_lines d ss (stmts_lines (d + 1) ss) ++ (closing d ∷ [])) (Mark (codes "}") ∷ else_tokens ss (stmts_tokens ss))
  else_good d no_stmts v = close_line d
  else_good d (more_stmts s ss) v =
      let parts = and_parts (valid_stmt s) (valid_stmts ss) v in
      cons_line d (loosen (l_else_line nothing)) (lines_then (lines_then (stmt_good (d + 1) s parts.0) (stmts_good (d + 1) ss parts.1)) (close_line d))

  pub stmts_good : (d : ℕ) (ss : Stmts) → valid_stmts ss ≡ true → LinesGood (stmts_lines d ss) (stmts_tokens ss)
  stmts_good d no_stmts v = no_lines
  stmts_good d (more_stmts s ss) v = let parts = and_parts (valid_stmt s) (valid_stmts ss) v in lines_then (stmt_good d s parts.0) (stmts_good d ss parts.1)

  arms_good : (d : ℕ) (cases : Arms) → valid_arms cases ≡ true → LinesGood (arms_lines d cases) (arms_tokens cases)
  arms_good d no_arms v = no_lines
  arms_good d (more_arms (LiteralArm n k ss) others) v =
      let parts = and_parts (is_value n && valid_stmts ss) (valid_arms others) v in
      let first = and_parts (is_value n) (valid_stmts ss) parts.0 in
      lines_then (lines_moved (append_assoc (literal_tokens n k) (Mark (codes "=>") ∷ Mark (codes "{") ∷ []) (stmts_tokens ss ++ Mark (codes "}") ∷ []))
      (cons_line d (loosen (soft_then (literal_good n k first.0) (l_arm nothing) (λ t s. refl))) (lines_then (stmts_good (d + 1) ss first.1) (close_line d))))
      (arms_good d others parts.1)

-- ---- words of digits

glyph_wordy : (d : ℕ) → d < 10 → is_word_byte (digit_glyph false d) ≡ true
glyph_wordy d h =
    let small : nat_lt d 10 ≡ true = grind (arith, nat_tests, h) in
    let byte : is_word_byte (48 + d) ≡ true = grind (arith, nat_tests, h) in
    ap is_word_byte (cond-true (nat_lt d 10) (48 + d) (87 + d) small) ∙ byte

either_wordy : (b : Bool) (xs ys : Text) → list_all is_word_byte xs ≡ true → list_all is_word_byte ys ≡ true → list_all is_word_byte (if b then xs else ys) ≡ true
either_wordy true xs ys h g = h
either_wordy false xs ys h g = g

onto_wordy : (k n : ℕ) (acc : Text) → list_all is_word_byte acc ≡ true → list_all is_word_byte (digits_onto k 10 false n acc) ≡ true
onto_wordy zero n acc h = h
onto_wordy (suc k) n acc h =
    let below : n % 10 < 10 = omega arith in
    let more : list_all is_word_byte (digit_glyph false (n % 10) ∷ acc) ≡ true = ap (λ b. b && list_all is_word_byte acc) (glyph_wordy (n % 10) below) ∙ h in
    either_wordy (n / 10 == 0) (digit_glyph false (n % 10) ∷ acc) (digits_onto k 10 false (n / 10) (digit_glyph false (n % 10) ∷ acc)) more
    (onto_wordy k (n / 10) (digit_glyph false (n % 10) ∷ acc) more)

decimal_bytes : (n : ℕ) → list_all is_word_byte (decimal n) ≡ true
unfolding digits
decimal_bytes n = onto_wordy 64 n [] refl

-- ---- parts of items

typed_good : (name : Text) (t : Ty) → is_identifier name ≡ true → valid_ty t ≡ true → Good true (typed_text name t) (typed_tokens name t)
typed_good name t v w = soft_then (name_good name v) (l_colon (ty_to_good (ty_good t (is_target t w)))) (λ t s. refl)

word_bytes : (s : Text) → is_wordy s ≡ true → list_all is_word_byte s ≡ true
word_bytes [] h = cc
word_bytes (c ∷ cs) h = h

-- a symbol in quotes
quoted_then : {n : Bool} {b : Text} {bs : Toks} (s : Text) → is_word s ≡ true → ((t : Text) → is_word_byte (slice_index (b ++ t) 0) ≡ false) → Good n b bs → Good n (34 ∷ (s ++ 34 ∷ b)) (Quoted s ∷ bs)
quoted_then {n} {b} {bs} s v front good = record {
  on = λ t us h r.
      subst (λ (x : Text). Reads (34 ∷ x) (Quoted s ∷ (bs ++ us))) (sym (append_assoc s (34 ∷ b) t)) (quoted_reads s (b ++ t) (bs ++ us) (word_bytes s (word_wordy s v)) (front t) (good.on t us h r));
}

attribute_good : (a : Attribute) → valid_attribute a ≡ true → LinesGood (attribute_lines a) (attribute_tokens a)
attribute_good Mangled v = no_lines
attribute_good NoMangle v = one_line 0 (loosen (l_no_mangle nothing))
attribute_good (ExportName symbol) v = one_line 0 (loosen (l_export (quoted_then symbol v (λ t. refl) (l_bracket_end nothing))))

link_name_good : (o : Option Text) → valid_symbol o ≡ true → LinesGood (link_name_lines o) (link_name_tokens o)
link_name_good None v = no_lines
link_name_good (Some symbol) v = one_line 1 (loosen (l_link (quoted_then symbol v (λ t. refl) (l_bracket_end nothing))))

-- ---- records

align_wide : (n : ℕ) → valid_align (Some n) ≡ true → n < 10 ^ 64
align_wide n v =
    let small = among_small n (1 ∷ 2 ∷ 4 ∷ 8 ∷ 16 ∷ []) refl v in
    let le : n < 17 = grind (arith, nat_tests, small) in omega (arith, le)

repr_good : (o : Option ℕ) → valid_align o ≡ true → LinesGood (repr_line o ∷ []) (spelling.attribute (Word (codes "repr") ∷ spelling.in_parentheses (repr_tokens o)))
repr_good None v = one_line 0 (loosen (l_repr nothing))
repr_good (Some n) v = one_line 0 (loosen (l_align (soft_then (digits_good n (align_wide n v)) (l_align_end nothing) (λ t s. refl))))

field_good : (f : FieldTree) → valid_field f ≡ true → LinesGood (field_line f ∷ []) (field_tokens f)
field_good f v =
    let parts = and_parts (is_identifier f.name) (valid_ty f.ty) v in
    one_line 1 (loosen (l_pub (soft_then (typed_good f.name f.ty parts.0 parts.1) (l_comma1 nothing) (λ t s. refl))))

fields_good : (list : List FieldTree) → list_all valid_field list ≡ true → LinesGood (map field_line list) (flat_map field_tokens list)
fields_good [] v = no_lines
fields_good (f ∷ list) v = let parts = and_parts (valid_field f) (list_all valid_field list) v in lines_then (field_good f parts.0) (fields_good list parts.1)

head_by : (u : Bool) (name : Text) → is_identifier name ≡ true → Good true (codes "pub " ++ (record_word u ++ (codes " " ++ (name ++ codes " {")))) (Word (codes "pub") ∷ Word (record_word u) ∷ Word name ∷ Mark (codes "{") ∷ [])
head_by true name v = loosen (l_pub (l_union (soft_then (name_good name v) (l_head nothing) (λ t s. refl))))
head_by false name v = loosen (l_pub (l_struct (soft_then (name_good name v) (l_head nothing) (λ t s. refl))))

head_good : (r : RecordTree) → is_identifier r.name ≡ true → Good true (codes "pub " ++ (record_word r.is_union ++ (codes " " ++ (r.name ++ codes " {")))) (Word (codes "pub") ∷ Word (record_word r.is_union) ∷ Word r.name ∷ Mark (codes "{") ∷ [])
head_good r v = head_by r.is_union r.name v

record_good : (r : RecordTree) → valid_record r ≡ true → LinesGood (record_lines r) (record_item_tokens r)
record_good r v =
    let parts = and_parts (valid_align r.align && is_identifier r.name) (list_all valid_field r.fields) v in
    let first = and_parts (valid_align r.align) (is_identifier r.name) parts.0 in
    cons_line 0 (loosen (l_derive nothing)) (lines_then (repr_good r.align first.0) (cons_line 0 (head_good r first.1) (lines_then (fields_good r.fields parts.1) (close_line 0))))

-- ---- static objects

values_soft : (list : List ℤ) (t : Text) → (true ≡ true → soft t ≡ true) → soft (behind_commas (map (λ n. literal_text n I8) list) ++ t) ≡ true
values_soft [] t h = h refl
values_soft (n ∷ list) t h = refl

values_behind : (list : List ℤ) → list_all is_value list ≡ true → Good true (behind_commas (map (λ n. literal_text n I8) list)) (spelling.behind_commas (map (λ n. literal_tokens n I8) list))
values_behind [] v = nothing
values_behind (n ∷ list) v =
    let parts = and_parts (is_value n) (list_all is_value list) v in l_comma (soft_then (literal_good n I8 parts.0) (values_behind list parts.1) (values_soft list))

values_listed : (list : List ℤ) → list_all is_value list ≡ true → Good true (listed (map (λ n. literal_text n I8) list)) (spelling.listed (map (λ n. literal_tokens n I8) list))
values_listed [] v = nothing
values_listed (n ∷ list) v =
    let parts = and_parts (is_value n) (list_all is_value list) v in soft_then (literal_good n I8 parts.0) (values_behind list parts.1) (values_soft list)

values_good : (o : Option (List ℤ)) (t : Ty) → valid_values o t ≡ true → Good false (values_text o) (values_tokens o)
unfolding static_zeroed
values_good None t v = l_zeroed_static nothing
values_good (Some list) t v = l_open_bracket (soft_then (values_listed list (values_valid list t v)) (l_close_bracket nothing) (λ t s. refl))

static_good : (s : StaticTree) → valid_static s ≡ true → LinesGood (static_lines s) (static_tokens s)
static_good s v =
    let parts = and_parts (valid_attribute s.attribute && is_identifier s.name && valid_ty s.ty) (valid_values s.values s.ty) v in
    let first = and_parts (valid_attribute s.attribute && is_identifier s.name) (valid_ty s.ty) parts.0 in
    let second = and_parts (valid_attribute s.attribute) (is_identifier s.name) first.0 in
    lines_then (attribute_good s.attribute second.0)
    (one_line 0 (loosen (l_pub_static (soft_then (typed_good s.name s.ty second.1 first.1) (l_equal (free_then (values_good s.values s.ty parts.1) (l_end nothing))) (λ t s. refl)))))

-- ---- external functions

param_good : (k : ℕ) (t : Ty) → valid_ty t ≡ true → Good true (outer_param k t) (typed_tokens (codes "a" ++ decimal k) t)
param_good k t v = record {
  on = λ u us h r.
      let after : Good true (codes ": " ++ ty_text t) (Mark (codes ":") ∷ ty_tokens t) = l_colon (ty_to_good (ty_good t (is_target t v))) in
      subst (λ (x : Text). Reads (97 ∷ x) (typed_tokens (codes "a" ++ decimal k) t ++ us)) (sym (append_assoc (decimal k) (codes ": " ++ ty_text t) u))
      (word_reads (97 ∷ decimal k) ((codes ": " ++ ty_text t) ++ u) (Mark (codes ":") ∷ (ty_tokens t ++ us)) (decimal_bytes k) refl (after.on u us h r));
}

outer_soft : (k : ℕ) (ts : List Ty) (t : Text) → (true ≡ true → soft t ≡ true) → soft (behind_commas (outer_params k ts) ++ t) ≡ true
outer_soft k [] t h = h refl
outer_soft k (x ∷ ts) t h = refl

outer_behind : (k : ℕ) (ts : List Ty) → list_all valid_ty ts ≡ true → Good true (behind_commas (outer_params k ts)) (spelling.behind_commas (spelling.outer_params k ts))
outer_behind k [] v = nothing
outer_behind k (t ∷ ts) v =
    let parts = and_parts (valid_ty t) (list_all valid_ty ts) v in l_comma (soft_then (param_good k t parts.0) (outer_behind (k + 1) ts parts.1) (outer_soft (k + 1) ts))

outer_listed : (k : ℕ) (ts : List Ty) → list_all valid_ty ts ≡ true → Good true (listed (outer_params k ts)) (spelling.listed (spelling.outer_params k ts))
outer_listed k [] v = nothing
outer_listed k (t ∷ ts) v =
    let parts = and_parts (valid_ty t) (list_all valid_ty ts) v in soft_then (param_good k t parts.0) (outer_behind (k + 1) ts parts.1) (outer_soft (k + 1) ts)

-- `...`, and what stands behind the parameters
ends_good : (v : Bool) {b : Text} {bs : Toks} → Good false b bs → Good false (variadic_text v ++ (codes ")" ++ b)) (variadic_tokens v ++ Mark (codes ")") ∷ bs)
ends_good false more = l_close more
ends_good true more = l_dots more

ends_soft : (v : Bool) (b : Text) (t : Text) → (false ≡ true → soft t ≡ true) → soft ((variadic_text v ++ (codes ")" ++ b)) ++ t) ≡ true
ends_soft false b t h = refl
ends_soft true b t h = refl

outer_same : (l v r : Toks) → l ++ (v ++ Mark (codes ")") ∷ r) ≡ ((l ++ v) ++ Mark (codes ")") ∷ []) ++ r
outer_same l v r = sym (append_assoc (l ++ v) (Mark (codes ")") ∷ []) r ∙ append_assoc l v (Mark (codes ")") ∷ r))

outer_good : (f : OuterTree) → valid_outer f ≡ true → LinesGood (outer_lines f) (outer_tokens f)
outer_good f h =
    let parts = and_parts (valid_symbol f.link_name && is_identifier f.name && list_all valid_ty f.params && valid_variadic f.variadic f.params) (valid_result (option_ty f.result)) h in
    let second = and_parts (valid_symbol f.link_name && is_identifier f.name && list_all valid_ty f.params) (valid_variadic f.variadic f.params) parts.0 in
    let third = and_parts (valid_symbol f.link_name && is_identifier f.name) (list_all valid_ty f.params) second.0 in
    let fourth = and_parts (valid_symbol f.link_name) (is_identifier f.name) third.0 in
    let r : Toks = result_tokens (option_ty f.result) ++ Mark (codes ";") ∷ [] in
    lines_then (link_name_good f.link_name fourth.0)
    (one_line 1 (good_moved refl (ap (λ (l : Toks). Word (codes "pub") ∷ Word (codes "fn") ∷ Word f.name ∷ Mark (codes "(") ∷ l) (outer_same (spelling.listed (spelling.outer_params 0 f.params)) (variadic_tokens f.variadic) r))
    (loosen (l_pub_fn (soft_then (name_good f.name fourth.1) (l_open (soft_then (outer_listed 0 f.params third.1) (ends_good f.variadic (soft_then (ty_to_good (result_good (option_ty f.result) parts.1)) (l_end nothing) (λ t s. refl))) (ends_soft f.variadic (result_text (option_ty f.result) ++ codes ";")))) (λ t s. refl))))))

outers_good : (list : List OuterTree) → list_all valid_outer list ≡ true → LinesGood (flat_map outer_lines list) (flat_map outer_tokens list)
outers_good [] v = no_lines
outers_good (f ∷ list) v = let parts = and_parts (valid_outer f) (list_all valid_outer list) v in lines_then (outer_good f parts.0) (outers_good list parts.1)

-- ---- functions

local_good : (p : LocalTree) → valid_local p ≡ true → LinesGood (local_line p ∷ []) (local_tokens p)
unfolding zeroed
local_good p v =
    let parts = and_parts (is_identifier p.name) (valid_ty p.ty) v in
    one_line 1 (loosen (l_let (soft_then (typed_good p.name p.ty parts.0 parts.1) (l_zeroed nothing) (λ t s. refl))))

locals_good : (list : List LocalTree) → list_all valid_local list ≡ true → LinesGood (map local_line list) (flat_map local_tokens list)
locals_good [] v = no_lines
locals_good (p ∷ list) v = let parts = and_parts (valid_local p) (list_all valid_local list) v in lines_then (local_good p parts.0) (locals_good list parts.1)

mut_good : (p : LocalTree) → valid_local p ≡ true → Good true (param_text p) (param_tokens p)
mut_good p v = let parts = and_parts (is_identifier p.name) (valid_ty p.ty) v in l_mut (typed_good p.name p.ty parts.0 parts.1)

params_soft : (list : List LocalTree) (t : Text) → (true ≡ true → soft t ≡ true) → soft (behind_commas (map param_text list) ++ t) ≡ true
params_soft [] t h = h refl
params_soft (p ∷ list) t h = refl

params_behind : (list : List LocalTree) → list_all valid_local list ≡ true → Good true (behind_commas (map param_text list)) (spelling.behind_commas (map param_tokens list))
params_behind [] v = nothing
params_behind (p ∷ list) v =
    let parts = and_parts (valid_local p) (list_all valid_local list) v in l_comma (soft_then (mut_good p parts.0) (params_behind list parts.1) (params_soft list))

params_listed : (list : List LocalTree) → list_all valid_local list ≡ true → Good true (listed (map param_text list)) (spelling.listed (map param_tokens list))
params_listed [] v = nothing
params_listed (p ∷ list) v =
    let parts = and_parts (valid_local p) (list_all valid_local list) v in soft_then (mut_good p parts.0) (params_behind list parts.1) (params_soft list)

function_same : (p res b : Toks) (name : Text) →
    (Word (codes "pub") ∷ (spelling.unsafe_extern_fn ++ Word name ∷ Mark (codes "(") ∷ (p ++ Mark (codes ")") ∷ (res ++ Mark (codes "{") ∷ [])))) ++ (b ++ Mark (codes "}") ∷ [])
    ≡ Word (codes "pub") ∷ (spelling.unsafe_extern_fn ++ Word name ∷ (spelling.in_parentheses p ++ (res ++ spelling.in_braces b)))
function_same p res b name =
    ap (λ (l : Toks). Word (codes "pub") ∷ (spelling.unsafe_extern_fn ++ Word name ∷ Mark (codes "(") ∷ l))
    (append_assoc p (Mark (codes ")") ∷ (res ++ Mark (codes "{") ∷ [])) (b ++ Mark (codes "}") ∷ [])
    ∙ ap (λ (l : Toks). p ++ Mark (codes ")") ∷ l) (append_assoc res (Mark (codes "{") ∷ []) (b ++ Mark (codes "}") ∷ []))
    ∙ sym (append_assoc p (Mark (codes ")") ∷ []) (res ++ spelling.in_braces b)))

function_good : (f : FunctionTree) → valid_function f ≡ true → LinesGood (function_lines f) (function_tokens f)
unfolding function_of
function_good f v =
    let parts = and_parts (valid_attribute f.attribute && is_identifier f.name && list_all valid_local f.params && valid_result (option_ty f.result) && list_all valid_local f.locals) (valid_stmts f.body) v in
    let two = and_parts (valid_attribute f.attribute && is_identifier f.name && list_all valid_local f.params && valid_result (option_ty f.result)) (list_all valid_local f.locals) parts.0 in
    let three = and_parts (valid_attribute f.attribute && is_identifier f.name && list_all valid_local f.params) (valid_result (option_ty f.result)) two.0 in
    let four = and_parts (valid_attribute f.attribute && is_identifier f.name) (list_all valid_local f.params) three.0 in
    let five = and_parts (valid_attribute f.attribute) (is_identifier f.name) four.0 in
    let body : Toks = flat_map local_tokens f.locals ++ stmts_tokens f.body in
    lines_then (attribute_good f.attribute five.0)
    (lines_moved (ap (λ (l : Toks). (Word (codes "pub") ∷ (spelling.unsafe_extern_fn ++ Word f.name ∷ Mark (codes "(") ∷ (spelling.listed (map param_tokens f.params) ++ Mark (codes ")") ∷ (result_tokens (option_ty f.result) ++ Mark (codes "{") ∷ [])))) ++ l)
    (sym (append_assoc (flat_map local_tokens f.locals) (stmts_tokens f.body) (Mark (codes "}") ∷ [])))
    ∙ function_same (spelling.listed (map param_tokens f.params)) (result_tokens (option_ty f.result)) body f.name)
    (cons_line 0 (loosen (l_function (soft_then (name_good f.name five.1) (l_open (soft_then (params_listed f.params four.1) (l_close (soft_then (ty_to_good (result_good (option_ty f.result) three.1)) (l_head nothing) (λ t s. refl))) (λ t s. refl))) (λ t s. refl))))
    (lines_then (locals_good f.locals two.1) (lines_then (stmts_good 1 f.body parts.1) (close_line 0)))))

-- ---- items

outers_of : (list : List OuterTree) → valid_item (ExternItem list) ≡ true → list_all valid_outer list ≡ true
outers_of [] h = cc
outers_of (f ∷ list) h = h

item_good : (i : ItemTree) → valid_item i ≡ true → LinesGood (item_lines i) (item_tokens i)
item_good (RecordItem r) v = record_good r v
item_good (StaticItem s) v = static_good s v
item_good (ExternItem list) v = cons_line 0 (loosen (l_extern nothing)) (lines_then (outers_good list (outers_of list v)) (close_line 0))
item_good (FunctionItem f) v = function_good f v

pub items_good : (list : List ItemTree) → list_all valid_item list ≡ true → LinesGood (flat_map item_lines list) (flat_map item_tokens list)
items_good [] v = no_lines
items_good (i ∷ list) v = let parts = and_parts (valid_item i) (list_all valid_item list) v in lines_then (item_good i parts.0) (items_good list parts.1)

-- the text of valid items spells their tokens
pub items_spelled : (list : List ItemTree) → list_all valid_item list ≡ true → Reads (text_of_lines (flat_map item_lines list)) (flat_map item_tokens list)
items_spelled list v =
    let lines : LinesGood (flat_map item_lines list) (flat_map item_tokens list) = items_good list v in
    let r : Reads (text_of_lines (flat_map item_lines list) ++ []) (flat_map item_tokens list ++ []) = lines.good.on [] [] (λ e. let k : false ≡ true = e in cc) reads_nil in
    subst (λ (l : Text). Reads l (flat_map item_tokens list)) (append-nil (text_of_lines (flat_map item_lines list)))
    (subst (λ (l : Toks). Reads (text_of_lines (flat_map item_lines list) ++ []) l) (append-nil (flat_map item_tokens list)) r)
