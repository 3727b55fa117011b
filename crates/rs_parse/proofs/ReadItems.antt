-- Items and modules are read back from what they spell.
use Rattle.std.proofs.Common.{◌≡◌, ℕ, ◌+◌, ◌≤◌, ◌^◌, ℤ, pos, negsuc, Bool, true, false, not, ◌&&◌, nat_eq, nat_le, nat_lt, ◌||◌, List, [], ◌∷◌, ◌++◌, map, drop, length, codes, bytes_eq, Option, Some, None, refl, sym, ap, ◌∙◌, arith, append_assoc, append-nil, length-append, if◌then◌else◌}
use Rattle.std.specs.Fmt.{decimal}
use Rattle.std.specs.List.{flat_map, list_all, list_any}
use Rattle.std.proofs.lemmas.Bool.{and_parts}
use Rattle.std.proofs.lemmas.Bool.Decides.{nat_tests}
use Rattle.rs_expr.specs.Numbers.{size_of}
use Rattle.rs_expr.specs.Reading.{Toks, read_of, comma_behind, ends_list}
use Rattle.rs_expr.specs.Signs.{sign_at, sign, marks, words, entry_of}
use Rattle.rs_expr.specs.Types.{ty}
use Rattle.rs_expr.specs.declared.sign.Sign.{Sign}
use Rattle.rs_expr.specs.declared.sign.Sign.TheVariants as of
use Rattle.rs_item.specs.Items.{read_ty, read_result, field_tree, local_tree, typed, text_attribute, attribute_by, attribute, link_name_by, link_name, narrow, repr, field, ends_braces, fields, is_struct, record_tree, record_from, record_item, value, ends_brackets, values, static_tree, static_end, static_from, outer_param, ends_params, outer_params, variadic, outer_tree, outer_end, outer_from, outer, outers, extern_item, param, params, local, ends_locals, locals, HeadTree, head_tree, head, function_from, function_item, record_of, extern_of, static_of, function_of, symbol_item, attributed, hashed, item, ends_module, items}
use Rattle.rs_item.specs.Stmts.{read_stmts}
use Rattle.rs_text.specs.Names.{is_identifier}
use Rattle.rs_text.specs.Spelling.{ty_tokens, literal_tokens, stmts_tokens, stmt_tokens, result_tokens, typed_tokens, symbol_tokens, attribute_tokens, repr_tokens, field_tokens, record_item_tokens, zeroed_tokens, values_tokens, static_tokens, variadic_tokens, link_name_tokens, outer_tokens, param_tokens, local_tokens, function_tokens, item_tokens, module_tokens}
use Rattle.rs_text.specs.Spelling as spelling
use Rattle.rs_text.specs.Tokens.{Word, Mark, Quoted}
use Rattle.rs_text.specs.Tree.{Ty, Array, Integer, option_ty, stmts, Stmt, FieldTree, RecordTree, StaticTree, OuterTree, LocalTree, FunctionTree, ItemTree, RecordItem, StaticItem, ExternItem, FunctionItem}
use Rattle.rs_text.specs.Valid.{valid_stmt, valid_ty, valid_result, is_value, valid_align, valid_field, valid_record, valid_attribute, valid_values, valid_static, valid_symbol, valid_variadic, valid_outer, valid_local, valid_function, valid_item, valid_stmts}
use Rattle.rs_text.specs.Words.{record_word, integer_word}
use Rattle.rs_text.specs.declared.attribute.Attribute.{Attribute}
use Rattle.rs_text.specs.declared.attribute.Attribute.TheVariants.{Mangled, NoMangle, ExportName}
use Rattle.rs_text.specs.declared.integer.IntegerTy.{IntegerTy}
use Rattle.rs_text.specs.declared.integer.IntegerTy.TheVariants.{I8}
use Rattle.rs_parse.proofs.Digits.{size_is, literal_word, within_limit}
use Rattle.rs_parse.proofs.NameSigns.{not_true}
use Rattle.rs_parse.proofs.ExprStarts.{literal_reads, number_sign, behind_some, front}
use Rattle.rs_parse.proofs.ReadLists.{ahead_reads, parts_ahead, tokens_of, parts_ahead_to}
use Rattle.rs_parse.proofs.ReadStmts.{stmt_list, list_is_stmts, stmts_spell, stmts_valid, stmts_read, starts, stmt_starts}
use Rattle.rs_parse.proofs.ReadTypes.{types_read, result_reads, is_target, ty_option, is_arrow}

abbrev any : Sign → Bool
any s = true

-- ---- names and types

ty_reads : (t : Ty) (rest : Toks) → valid_ty t ≡ true → read_ty (ty_tokens t ++ rest) ≡ read_of t rest
ty_reads t rest v = types_read (length (ty_tokens t ++ rest)) t rest (is_target t v) (omega arith)

result_back : (o : Option Ty) → ty_option (option_ty o) ≡ o
result_back None = refl
result_back (Some t) = refl

result_reads_back : (o : Option Ty) (rest : Toks) → valid_result (option_ty o) ≡ true → is_arrow (sign_at rest) ≡ false →
    read_result (result_tokens (option_ty o) ++ rest) ≡ read_of o rest
result_reads_back o rest v next =
    let size : ℕ = length (result_tokens (option_ty o) ++ rest) in
    result_reads (ty size) size (types_read size) (option_ty o) rest v next (omega arith) ∙ ap (λ r. read_of r rest) (result_back o)

typed_reads : (name : List ℕ) (t : Ty) (rest : Toks) → valid_ty t ≡ true → typed (typed_tokens name t ++ rest) ≡ read_of (local_tree name t) rest
unfolding typed
typed_reads name t rest v = ap (λ (q : Ty × Toks). read_of (local_tree name q.0) q.1) (ty_reads t rest v)

-- ---- attributes

abbrev is_hash : Sign → Bool
is_hash of.Hash = true
is_hash _ = false

no_attribute : (s : Sign) (tokens : Toks) → is_hash s ≡ false → attribute_by s tokens ≡ read_of Mangled tokens
no_attribute of.Hash tokens h = cc
no_attribute _ tokens h = refl

attribute_reads : (a : Attribute) (rest : Toks) → is_hash (sign_at rest) ≡ false → attribute (attribute_tokens a ++ rest) ≡ read_of a rest
unfolding attribute text_attribute marks
attribute_reads Mangled rest h = no_attribute (sign_at rest) rest h
attribute_reads NoMangle rest h = refl
attribute_reads (ExportName symbol) rest h = refl

no_link_name : (s : Sign) (tokens : Toks) → is_hash s ≡ false → link_name_by s tokens ≡ read_of None tokens
no_link_name of.Hash tokens h = cc
no_link_name _ tokens h = refl

link_name_reads : (o : Option (List ℕ)) (rest : Toks) → is_hash (sign_at rest) ≡ false → link_name (link_name_tokens o ++ rest) ≡ read_of o rest
unfolding link_name text_attribute marks
link_name_reads None rest h = no_link_name (sign_at rest) rest h
link_name_reads (Some symbol) rest h = refl

-- ---- records

one_of : (n m : ℕ) (b : Bool) → nat_eq m n ≡ b → (others : Bool) → (b || others) ≡ true → nat_le m 16 ≡ true → (others ≡ true → nat_le n 16 ≡ true) → nat_le n 16 ≡ true
one_of n m true is others h small next = grind (arith, nat_tests, is, small)
one_of n m false is others h small next = next h

pub among_small : (n : ℕ) (ms : List ℕ) → list_all (λ m. nat_le m 16) ms ≡ true → list_any (λ m. nat_eq m n) ms ≡ true → nat_le n 16 ≡ true
among_small n [] all h = cc
among_small n (m ∷ ms) all h =
    let parts = and_parts (nat_le m 16) (list_all (λ m. nat_le m 16) ms) all in
    one_of n m (nat_eq m n) refl (list_any (λ m. nat_eq m n) ms) h parts.0 (among_small n ms parts.1)

below_bound : (n bound : ℕ) → 17 ≤ bound → nat_le n 16 ≡ true → nat_lt n bound ≡ true
below_bound n bound le h = let l : n ≤ 16 = grind (arith, nat_tests, h) in grind (arith, nat_tests, l, le)

align_small : (n : ℕ) → valid_align (Some n) ≡ true → narrow (size_of (decimal n)) ≡ n
align_small n v =
    let small = among_small n (1 ∷ 2 ∷ 4 ∷ 8 ∷ 16 ∷ []) refl v in
    ap narrow (size_is n (below_bound n (2 ^ 64) (omega arith) small)) ∙ within_limit (2 ^ 32) n (below_bound n (2 ^ 32) (omega arith) small)

repr_reads : (align : Option ℕ) (rest : Toks) → valid_align align ≡ true →
    repr (spelling.attribute (Word (codes "repr") ∷ spelling.in_parentheses (repr_tokens align)) ++ rest) ≡ read_of align rest
unfolding repr marks
repr_reads None rest v = refl
repr_reads (Some n) rest v = ap (λ m. read_of (Some m) rest) (align_small n v)

field_reads : (f : FieldTree) (rest : Toks) → valid_field f ≡ true → field (field_tokens f ++ rest) ≡ read_of f rest
unfolding field
field_reads f rest v =
    ap (λ (t : Toks). field (Word (codes "pub") ∷ t)) (append_assoc (typed_tokens f.name f.ty) (Mark (codes ",") ∷ []) rest)
    ∙ ap (λ (q : LocalTree × Toks). read_of (field_tree q.0.name q.0.ty) (drop 1 q.1))
    (typed_reads f.name f.ty (Mark (codes ",") ∷ rest) (and_parts (is_identifier f.name) (valid_ty f.ty) v).1)

field_starts : (f : FieldTree) (rest : Toks) → ends_braces (sign_at (field_tokens f ++ rest)) ≡ false
unfolding words
field_starts f rest = refl

abbrev close : Toks → Toks
close rest = Mark (codes "}") ∷ rest

braces_same : (l rest : Toks) → spelling.in_braces l ++ rest ≡ Mark (codes "{") ∷ (l ++ close rest)
braces_same l rest = ap (λ (t : Toks). Mark (codes "{") ∷ t) (append_assoc l (Mark (codes "}") ∷ []) rest)

fields_read : (list : List FieldTree) (rest : Toks) → list_all valid_field list ≡ true → fields (flat_map field_tokens list ++ close rest) ≡ read_of list (close rest)
unfolding marks
fields_read list rest v =
    ahead_reads ends_braces field field_tokens valid_field any (length (flat_map field_tokens list ++ close rest)) (λ f more v _ _. field_reads f more v)
    (λ f more _. field_starts f more) (λ _ _ _. refl) (λ f. omega arith) list (close rest) v refl refl (omega arith)

union_is : (b : Bool) → not (is_struct (sign (Word (record_word b)))) ≡ b
unfolding words
union_is true = refl
union_is false = refl

record_reads : (of : RecordTree) (rest : Toks) → valid_record of ≡ true → record_item (record_item_tokens of ++ rest) ≡ read_of of rest
unfolding record_item record_from marks
record_reads of_record rest v =
    let parts = and_parts (valid_align of_record.align && is_identifier of_record.name) (list_all valid_field of_record.fields) v in
    let first = and_parts (valid_align of_record.align) (is_identifier of_record.name) parts.0 in
    let attr : Toks = spelling.attribute (Word (codes "repr") ∷ spelling.in_parentheses (repr_tokens of_record.align)) in
    let l : Toks = flat_map field_tokens of_record.fields in
    let head : Toks → Toks = λ t. Word (codes "pub") ∷ Word (record_word of_record.is_union) ∷ Word of_record.name ∷ t in
    let derive : Toks → Toks = λ t. spelling.attribute (Word (codes "derive") ∷ spelling.in_parentheses (Word (codes "Copy") ∷ Mark (codes ",") ∷ Word (codes "Clone") ∷ [])) ++ t in
    ap (λ (t : Toks). record_item (derive t)) (append_assoc attr (head (spelling.in_braces l)) rest)
    ∙ ap (λ (t : Toks). record_item (derive (attr ++ head t))) (braces_same l rest)
    ∙ ap (λ (q : Option ℕ × Toks). record_from q.0 q.1) (repr_reads of_record.align (head (Mark (codes "{") ∷ (l ++ close rest))) first.0)
    ∙ ap (λ (q : List FieldTree × Toks). read_of (record_tree of_record.align (not (is_struct (sign (Word (record_word of_record.is_union))))) of_record.name q.0) (drop 1 q.1))
    (fields_read of_record.fields rest parts.1)
    ∙ ap (λ u. read_of (record_tree of_record.align u of_record.name of_record.fields) rest) (union_is of_record.is_union)

-- ---- static objects

value_reads : (n : ℤ) (rest : Toks) → is_value n ≡ true → value (literal_tokens n I8 ++ rest) ≡ read_of n rest
unfolding value
value_reads n rest v = ap (λ (q : (ℤ × IntegerTy) × Toks). read_of q.0.0 q.1) (literal_reads n I8 rest v)

value_starts : (n : ℤ) (rest : Toks) → is_value n ≡ true → ends_brackets (sign_at (literal_tokens n I8 ++ rest)) ≡ false
unfolding marks
value_starts (pos n) rest v = ap ends_brackets (number_sign (decimal n ++ integer_word I8) (literal_word n I8 v).first)
value_starts (negsuc n) rest v = refl

value_some : (n : ℤ) → 1 ≤ length (literal_tokens n I8)
value_some (pos n) = omega arith
value_some (negsuc n) = omega arith

pub values_valid : (list : List ℤ) (t : Ty) → valid_values (Some list) t ≡ true → list_all is_value list ≡ true
values_valid list (Array (Integer I8) size) h = (and_parts (list_all is_value list) (nat_eq (length list) size) h).0
values_valid list _ h = cc

values_read : (o : Option (List ℤ)) (t : Ty) (rest : Toks) → valid_values o t ≡ true → values (values_tokens o ++ rest) ≡ read_of o rest
unfolding values words marks
values_read None t rest v = refl
values_read (Some list) t rest v =
    let parts : List Toks = map (λ n. literal_tokens n I8) list in
    let behind : Toks = Mark (codes "]") ∷ rest in
    ap (λ (l : Toks). values (Mark (codes "[") ∷ l)) (append_assoc (spelling.listed parts) (Mark (codes "]") ∷ []) rest)
    ∙ ap (λ (q : List ℤ × Toks). read_of (Some q.0) (drop 1 q.1))
    (parts_ahead ends_brackets value (λ n. literal_tokens n I8) is_value any (length (spelling.listed parts ++ behind)) (λ n more v _ _. value_reads n more v)
    value_starts refl value_some list behind (values_valid list t v) refl refl refl (omega arith))

static_reads : (s : StaticTree) (rest : Toks) → valid_static s ≡ true →
    static_from s.attribute (Word (codes "pub") ∷ Word (codes "static") ∷ Word (codes "mut") ∷ (typed_tokens s.name s.ty ++ Mark (codes "=") ∷ (values_tokens s.values ++ Mark (codes ";") ∷ rest)))
    ≡ read_of s rest
unfolding static_from static_end marks
static_reads s rest v =
    let parts = and_parts (valid_attribute s.attribute && is_identifier s.name && valid_ty s.ty) (valid_values s.values s.ty) v in
    let first = and_parts (valid_attribute s.attribute && is_identifier s.name) (valid_ty s.ty) parts.0 in
    let last : Toks = Mark (codes ";") ∷ rest in
    let behind : Toks = Mark (codes "=") ∷ (values_tokens s.values ++ last) in
    ap (λ (q : LocalTree × Toks). static_end s.attribute q.0 q.1) (typed_reads s.name s.ty behind first.1)
    ∙ ap (λ (q : Option (List ℤ) × Toks). read_of (static_tree s.attribute s.name s.ty q.0) (drop 1 q.1)) (values_read s.values s.ty last parts.1)

static_same : (a t vs rest : Toks) →
    (a ++ Word (codes "pub") ∷ Word (codes "static") ∷ Word (codes "mut") ∷ (t ++ Mark (codes "=") ∷ (vs ++ Mark (codes ";") ∷ []))) ++ rest
    ≡ a ++ Word (codes "pub") ∷ Word (codes "static") ∷ Word (codes "mut") ∷ (t ++ Mark (codes "=") ∷ (vs ++ Mark (codes ";") ∷ rest))
static_same a t vs rest =
    append_assoc a (Word (codes "pub") ∷ Word (codes "static") ∷ Word (codes "mut") ∷ (t ++ Mark (codes "=") ∷ (vs ++ Mark (codes ";") ∷ []))) rest
    ∙ ap (λ (l : Toks). a ++ Word (codes "pub") ∷ Word (codes "static") ∷ Word (codes "mut") ∷ l)
    (append_assoc t (Mark (codes "=") ∷ (vs ++ Mark (codes ";") ∷ [])) rest ∙ ap (λ (l : Toks). t ++ Mark (codes "=") ∷ l) (append_assoc vs (Mark (codes ";") ∷ []) rest))

-- ---- external functions

abbrev numbered : ℕ → List Ty → List (ℕ × Ty)
numbered k [] = []
numbered k (t ∷ ts) = (k, t) ∷ numbered (k + 1) ts

abbrev spell_numbered : ℕ × Ty → Toks
spell_numbered one = typed_tokens (codes "a" ++ decimal one.0) one.1

numbered_parts : (k : ℕ) (ts : List Ty) → spelling.outer_params k ts ≡ map spell_numbered (numbered k ts)
numbered_parts k [] = refl
numbered_parts k (t ∷ ts) = ap (λ l. typed_tokens (codes "a" ++ decimal k) t ∷ l) (numbered_parts (k + 1) ts)

numbered_types : (k : ℕ) (ts : List Ty) → map (λ (one : ℕ × Ty). one.1) (numbered k ts) ≡ ts
numbered_types k [] = refl
numbered_types k (t ∷ ts) = ap (λ l. t ∷ l) (numbered_types (k + 1) ts)

numbered_valid : (k : ℕ) (ts : List Ty) → list_all valid_ty ts ≡ true → list_all (λ (one : ℕ × Ty). valid_ty one.1) (numbered k ts) ≡ true
numbered_valid k [] h = refl
numbered_valid k (t ∷ ts) h =
    let parts = and_parts (valid_ty t) (list_all valid_ty ts) h in
    ap (λ b. b && list_all (λ (one : ℕ × Ty). valid_ty one.1) (numbered (k + 1) ts)) parts.0 ∙ numbered_valid (k + 1) ts parts.1

outer_param_reads : (one : ℕ × Ty) (rest : Toks) → valid_ty one.1 ≡ true → outer_param (spell_numbered one ++ rest) ≡ read_of one.1 rest
unfolding outer_param
outer_param_reads one rest v = ap (λ (q : Ty × Toks). read_of q.0 q.1) (ty_reads one.1 rest v)

-- no word ends parameters
safe_by : (b : Bool) (one other : Sign) → ends_params one ≡ false → ends_params other ≡ false → ends_params (if b then one else other) ≡ false
safe_by true one other h g = h
safe_by false one other h g = g

safe_entry : (table : List (List ℕ × Sign)) (word : List ℕ) (other : Sign) → list_all (λ entry. not (ends_params entry.1)) table ≡ true → ends_params other ≡ false →
    ends_params (entry_of table word other) ≡ false
safe_entry [] word other all h = h
safe_entry (entry ∷ table) word other all h =
    let parts = and_parts (not (ends_params entry.1)) (list_all (λ entry. not (ends_params entry.1)) table) all in
    safe_by (bytes_eq entry.0 word) entry.1 (entry_of table word other) (not_true (ends_params entry.1) parts.0) (safe_entry table word other parts.1 h)

words_are_safe : list_all (λ (entry : List ℕ × Sign). not (ends_params entry.1)) words ≡ true
unfolding words
words_are_safe = refl

outer_param_starts : (one : ℕ × Ty) (rest : Toks) → ends_params (sign_at (spell_numbered one ++ rest)) ≡ false
outer_param_starts one rest = safe_entry words (codes "a" ++ decimal one.0) of.Name words_are_safe refl

abbrev variadic_mark : Bool → Toks → Toks
variadic_mark false rest = rest
variadic_mark true rest = Mark (codes "...") ∷ rest

-- what stands behind the parameters, with the comma before `...`, and without it
abbrev after_params : Bool → Toks → Toks
after_params v rest = variadic_mark v (Mark (codes ")") ∷ rest)

abbrev before_after : Bool → Toks → Toks
before_after v rest = variadic_tokens v ++ Mark (codes ")") ∷ rest

comma_cut : (v : Bool) (rest : Toks) → comma_behind (sign_at (before_after v rest)) (before_after v rest) ≡ after_params v rest
unfolding marks
comma_cut false rest = refl
comma_cut true rest = refl

after_stops : (v : Bool) (rest : Toks) → ends_params (sign_at (after_params v rest)) ≡ true
unfolding marks
after_stops false rest = refl
after_stops true rest = refl

after_shorter : (v : Bool) (rest : Toks) → length (after_params v rest) ≤ length (before_after v rest)
after_shorter false rest = omega arith
after_shorter true rest = omega arith

params_tokens_are : (v : Bool) (ts : List Ty) (rest : Toks) → valid_variadic v ts ≡ true →
    spelling.listed (spelling.outer_params 0 ts) ++ before_after v rest
    ≡ tokens_of ends_params outer_param spell_numbered (λ (one : ℕ × Ty). one.1) (λ (one : ℕ × Ty). valid_ty one.1) (before_after v rest) (after_params v rest)
    outer_param_reads outer_param_starts (λ one. omega arith) (comma_cut v rest) (after_stops v rest) (after_shorter v rest) (numbered 0 ts)
params_tokens_are false [] rest h = refl
params_tokens_are true [] rest h = cc
params_tokens_are v (t ∷ ts) rest h = ap (λ (l : List Toks). spelling.listed l ++ before_after v rest) (numbered_parts 0 (t ∷ ts))

outer_params_read : (v : Bool) (ts : List Ty) (rest : Toks) → valid_variadic v ts ≡ true → list_all valid_ty ts ≡ true →
    outer_params (spelling.listed (spelling.outer_params 0 ts) ++ before_after v rest) ≡ read_of ts (after_params v rest)
outer_params_read v ts rest h all =
    ap outer_params (params_tokens_are v ts rest h)
    ∙ parts_ahead_to ends_params outer_param spell_numbered (λ (one : ℕ × Ty). one.1) (λ (one : ℕ × Ty). valid_ty one.1) (before_after v rest) (after_params v rest)
    outer_param_reads outer_param_starts (λ one. omega arith) (comma_cut v rest) (after_stops v rest) (after_shorter v rest) (numbered 0 ts) (numbered_valid 0 ts all)
    ∙ ap (λ l. read_of l (after_params v rest)) (numbered_types 0 ts)

variadic_reads : (v : Bool) (rest : Toks) → variadic (after_params v rest) ≡ read_of v (Mark (codes ")") ∷ rest)
unfolding variadic marks
variadic_reads false rest = refl
variadic_reads true rest = refl

outer_same : (link l : Toks) (v : Bool) (name : List ℕ) (res rest : Toks) →
    (link ++ Word (codes "pub") ∷ Word (codes "fn") ∷ Word name ∷ (spelling.in_parentheses (l ++ variadic_tokens v) ++ (res ++ Mark (codes ";") ∷ []))) ++ rest
    ≡ link ++ Word (codes "pub") ∷ Word (codes "fn") ∷ Word name ∷ Mark (codes "(") ∷ (l ++ before_after v (res ++ Mark (codes ";") ∷ rest))
outer_same link l v name res rest =
    let tail : Toks = res ++ Mark (codes ";") ∷ [] in
    append_assoc link (Word (codes "pub") ∷ Word (codes "fn") ∷ Word name ∷ (spelling.in_parentheses (l ++ variadic_tokens v) ++ tail)) rest
    ∙ ap (λ (t : Toks). link ++ Word (codes "pub") ∷ Word (codes "fn") ∷ Word name ∷ Mark (codes "(") ∷ t)
    (append_assoc ((l ++ variadic_tokens v) ++ Mark (codes ")") ∷ []) tail rest
    ∙ append_assoc (l ++ variadic_tokens v) (Mark (codes ")") ∷ []) (tail ++ rest)
    ∙ append_assoc l (variadic_tokens v) (Mark (codes ")") ∷ (tail ++ rest))
    ∙ ap (λ (t : Toks). l ++ (variadic_tokens v ++ Mark (codes ")") ∷ t)) (append_assoc res (Mark (codes ";") ∷ []) rest))

outer_end_reads : (link : Option (List ℕ)) (name : List ℕ) (ts : List Ty) (v : Bool) (o : Option Ty) (rest : Toks) → valid_result (option_ty o) ≡ true →
    outer_end link name ts (after_params v (result_tokens (option_ty o) ++ Mark (codes ";") ∷ rest)) ≡ read_of (outer_tree link name ts v o) rest
unfolding outer_end marks
outer_end_reads link name ts v o rest h =
    let behind : Toks = result_tokens (option_ty o) ++ Mark (codes ";") ∷ rest in
    ap (λ (q : Bool × Toks). read_of (outer_tree link name ts q.0 (read_result (drop 1 q.1)).0) (drop 1 (read_result (drop 1 q.1)).1)) (variadic_reads v behind)
    ∙ ap (λ (q : Option Ty × Toks). read_of (outer_tree link name ts v q.0) (drop 1 q.1)) (result_reads_back o (Mark (codes ";") ∷ rest) h refl)

outer_reads : (f : OuterTree) (rest : Toks) → valid_outer f ≡ true → outer (outer_tokens f ++ rest) ≡ read_of f rest
unfolding outer outer_from words marks
outer_reads f rest h =
    let parts = and_parts (valid_symbol f.link_name && is_identifier f.name && list_all valid_ty f.params && valid_variadic f.variadic f.params) (valid_result (option_ty f.result)) h in
    let second = and_parts (valid_symbol f.link_name && is_identifier f.name && list_all valid_ty f.params) (valid_variadic f.variadic f.params) parts.0 in
    let third = and_parts (valid_symbol f.link_name && is_identifier f.name) (list_all valid_ty f.params) second.0 in
    let behind : Toks = result_tokens (option_ty f.result) ++ Mark (codes ";") ∷ rest in
    let l : Toks = spelling.listed (spelling.outer_params 0 f.params) in
    let head : Toks → Toks = λ t. Word (codes "pub") ∷ Word (codes "fn") ∷ Word f.name ∷ Mark (codes "(") ∷ t in
    ap outer (outer_same (link_name_tokens f.link_name) l f.variadic f.name (result_tokens (option_ty f.result)) rest)
    ∙ ap (λ (q : Option (List ℕ) × Toks). outer_from q.0 q.1) (link_name_reads f.link_name (head (l ++ before_after f.variadic behind)) refl)
    ∙ ap (λ (q : List Ty × Toks). outer_end f.link_name f.name q.0 q.1) (outer_params_read f.variadic f.params behind second.1 third.1)
    ∙ outer_end_reads f.link_name f.name f.params f.variadic f.result rest parts.1

link_starts : (o : Option (List ℕ)) (tokens rest : Toks) → ends_braces (sign_at ((link_name_tokens o ++ Word (codes "pub") ∷ tokens) ++ rest)) ≡ false
unfolding words marks
link_starts None tokens rest = refl
link_starts (Some symbol) tokens rest = refl

outer_starts : (f : OuterTree) (rest : Toks) → ends_braces (sign_at (outer_tokens f ++ rest)) ≡ false
outer_starts f rest = link_starts f.link_name (Word (codes "fn") ∷ Word f.name ∷ (spelling.in_parentheses (spelling.listed (spelling.outer_params 0 f.params) ++ variadic_tokens f.variadic)
    ++ (result_tokens (option_ty f.result) ++ Mark (codes ";") ∷ []))) rest

outer_some : (f : OuterTree) → 1 ≤ length (outer_tokens f)
outer_some f = behind_some (link_name_tokens f.link_name) _ _

outers_read : (list : List OuterTree) (rest : Toks) → list_all valid_outer list ≡ true → outers (flat_map outer_tokens list ++ close rest) ≡ read_of list (close rest)
unfolding marks
outers_read list rest v =
    ahead_reads ends_braces outer outer_tokens valid_outer any (length (flat_map outer_tokens list ++ close rest)) (λ f more v _ _. outer_reads f more v)
    (λ f more _. outer_starts f more) (λ _ _ _. refl) outer_some list (close rest) v refl refl (omega arith)

extern_reads : (list : List OuterTree) (rest : Toks) → list_all valid_outer list ≡ true → extern_item (item_tokens (ExternItem list) ++ rest) ≡ read_of list rest
unfolding extern_item
extern_reads list rest v =
    ap (λ (t : Toks). extern_item (Word (codes "extern") ∷ Quoted (codes "C") ∷ t)) (braces_same (flat_map outer_tokens list) rest)
    ∙ ap (λ (q : List OuterTree × Toks). read_of q.0 (drop 1 q.1)) (outers_read list rest v)

-- ---- functions

param_reads : (p : LocalTree) (rest : Toks) → valid_local p ≡ true → param (param_tokens p ++ rest) ≡ read_of p rest
unfolding param
param_reads p rest v = typed_reads p.name p.ty rest (and_parts (is_identifier p.name) (valid_ty p.ty) v).1

param_starts : (p : LocalTree) (rest : Toks) → valid_local p ≡ true → ends_list (sign_at (param_tokens p ++ rest)) ≡ false
unfolding words
param_starts p rest v = refl

params_read : (list : List LocalTree) (rest : Toks) → list_all valid_local list ≡ true →
    params (spelling.listed (map param_tokens list) ++ Mark (codes ")") ∷ rest) ≡ read_of list (Mark (codes ")") ∷ rest)
unfolding marks
params_read list rest v =
    parts_ahead ends_list param param_tokens valid_local any (length (spelling.listed (map param_tokens list) ++ Mark (codes ")") ∷ rest)) (λ p more v _ _. param_reads p more v)
    param_starts refl (λ p. omega arith) list (Mark (codes ")") ∷ rest) v refl refl refl (omega arith)

local_same : (t : Toks) (rest : Toks) →
    (t ++ Mark (codes "=") ∷ (zeroed_tokens ++ Mark (codes ";") ∷ [])) ++ rest ≡ t ++ Mark (codes "=") ∷ (zeroed_tokens ++ Mark (codes ";") ∷ rest)
local_same t rest = append_assoc t (Mark (codes "=") ∷ (zeroed_tokens ++ Mark (codes ";") ∷ [])) rest

local_reads : (p : LocalTree) (rest : Toks) → valid_local p ≡ true → local (local_tokens p ++ rest) ≡ read_of p rest
unfolding local
local_reads p rest v =
    ap (λ (t : Toks). local (Word (codes "let") ∷ Word (codes "mut") ∷ t)) (local_same (typed_tokens p.name p.ty) rest)
    ∙ ap (λ (q : LocalTree × Toks). read_of q.0 (drop 9 q.1))
    (typed_reads p.name p.ty (Mark (codes "=") ∷ (zeroed_tokens ++ Mark (codes ";") ∷ rest)) (and_parts (is_identifier p.name) (valid_ty p.ty) v).1)

local_starts : (p : LocalTree) (rest : Toks) → valid_local p ≡ true → ends_locals (sign_at (local_tokens p ++ rest)) ≡ false
unfolding words
local_starts p rest v = refl

locals_read : (list : List LocalTree) (rest : Toks) → list_all valid_local list ≡ true → ends_locals (sign_at rest) ≡ true → locals (flat_map local_tokens list ++ rest) ≡ read_of list rest
locals_read list rest v stop =
    ahead_reads ends_locals local local_tokens valid_local any (length (flat_map local_tokens list ++ rest)) (λ p more v _ _. local_reads p more v)
    local_starts (λ _ _ _. refl) (λ p. omega arith) list rest v stop refl (omega arith)

starts_no_let : (s : Sign) → starts s ≡ true → ends_locals s ≡ true
starts_no_let of.Let h = cc
starts_no_let _ h = refl

body_starts : (list : List Stmt) (rest : Toks) → list_all valid_stmt list ≡ true → ends_locals (sign_at (flat_map stmt_tokens list ++ close rest)) ≡ true
unfolding marks
body_starts [] rest v = refl
body_starts (s ∷ list) rest v =
    let parts = and_parts (valid_stmt s) (list_all valid_stmt list) v in
    front (stmt_tokens s) (flat_map stmt_tokens list) (close rest) (λ t. ends_locals (sign_at t) ≡ true)
    (starts_no_let (sign_at (stmt_tokens s ++ (flat_map stmt_tokens list ++ close rest))) (stmt_starts s (flat_map stmt_tokens list ++ close rest) parts.0))

head_reads : (a : Attribute) (name : List ℕ) (ps : List LocalTree) (o : Option Ty) (rest : Toks) → list_all valid_local ps ≡ true → valid_result (option_ty o) ≡ true → is_arrow (sign_at rest) ≡ false →
    head a (Word (codes "pub") ∷ (spelling.unsafe_extern_fn ++ Word name ∷ Mark (codes "(") ∷ (spelling.listed (map param_tokens ps) ++ Mark (codes ")") ∷ (result_tokens (option_ty o) ++ rest))))
    ≡ read_of (head_tree a name ps o) rest
unfolding head
head_reads a name ps o rest vp vr next =
    let behind : Toks = result_tokens (option_ty o) ++ rest in
    ap (λ (q : List LocalTree × Toks). read_of (head_tree a name q.0 (read_result (drop 1 q.1)).0) (read_result (drop 1 q.1)).1) (params_read ps behind vp)
    ∙ ap (λ (q : Option Ty × Toks). read_of (head_tree a name ps q.0) q.1) (result_reads_back o rest vr next)

abbrev function_of_head : HeadTree → List LocalTree → List Stmt → FunctionTree
function_of_head h ls body =
    record { attribute = h.attribute; name = h.name; params = h.params; result = h.result; locals = ls; body = stmts body }

function_from_reads : (h : HeadTree) (ls : List LocalTree) (list : List Stmt) (rest : Toks) → list_all valid_local ls ≡ true → list_all valid_stmt list ≡ true →
    function_from h (Mark (codes "{") ∷ (flat_map local_tokens ls ++ (flat_map stmt_tokens list ++ close rest))) ≡ read_of (function_of_head h ls list) rest
unfolding function_from marks
function_from_reads h ls list rest vl vs =
    let body : Toks = flat_map stmt_tokens list ++ close rest in
    let size : ℕ = length (Mark (codes "{") ∷ (flat_map local_tokens ls ++ body)) in
    let n1 = length-append (flat_map local_tokens ls) body in
    ap (λ (q : List LocalTree × Toks). read_of (function_of_head h q.0 (read_stmts size q.1).0) (drop 1 (read_stmts size q.1).1)) (locals_read ls body vl (body_starts list rest vs))
    ∙ ap (λ (q : List Stmt × Toks). read_of (function_of_head h ls q.0) (drop 1 q.1)) (stmts_read size list (close rest) vs refl (omega (arith, n1)))

function_same : (a p res l s rest : Toks) (name : List ℕ) →
    (a ++ Word (codes "pub") ∷ (spelling.unsafe_extern_fn ++ Word name ∷ (spelling.in_parentheses p ++ (res ++ spelling.in_braces (l ++ s))))) ++ rest
    ≡ a ++ Word (codes "pub") ∷ (spelling.unsafe_extern_fn ++ Word name ∷ Mark (codes "(") ∷ (p ++ Mark (codes ")") ∷ (res ++ Mark (codes "{") ∷ (l ++ (s ++ close rest)))))
function_same a p res l s rest name =
    let braces : Toks = spelling.in_braces (l ++ s) in
    append_assoc a (Word (codes "pub") ∷ (spelling.unsafe_extern_fn ++ Word name ∷ (spelling.in_parentheses p ++ (res ++ braces)))) rest
    ∙ ap (λ (t : Toks). a ++ Word (codes "pub") ∷ (spelling.unsafe_extern_fn ++ Word name ∷ Mark (codes "(") ∷ t))
    (append_assoc (p ++ Mark (codes ")") ∷ []) (res ++ braces) rest
    ∙ append_assoc p (Mark (codes ")") ∷ []) ((res ++ braces) ++ rest)
    ∙ ap (λ (t : Toks). p ++ Mark (codes ")") ∷ t)
    (append_assoc res braces rest
    ∙ ap (λ (t : Toks). res ++ t) (braces_same (l ++ s) rest ∙ ap (λ (t : Toks). Mark (codes "{") ∷ t) (append_assoc l s (close rest)))))

-- a function behind its attribute
abbrev function_rest : FunctionTree → Toks → Toks
function_rest f rest =
    Word (codes "pub") ∷ (spelling.unsafe_extern_fn ++ Word f.name ∷ Mark (codes "(") ∷ (spelling.listed (map param_tokens f.params) ++ Mark (codes ")") ∷ (result_tokens (option_ty f.result)
    ++ Mark (codes "{") ∷ (flat_map local_tokens f.locals ++ (stmts_tokens f.body ++ close rest)))))

function_reads : (f : FunctionTree) (rest : Toks) → valid_function f ≡ true → function_item f.attribute (function_rest f rest) ≡ read_of f rest
unfolding function_item marks
function_reads f rest v =
    let parts = and_parts (valid_attribute f.attribute && is_identifier f.name && list_all valid_local f.params && valid_result (option_ty f.result) && list_all valid_local f.locals) (valid_stmts f.body) v in
    let two = and_parts (valid_attribute f.attribute && is_identifier f.name && list_all valid_local f.params && valid_result (option_ty f.result)) (list_all valid_local f.locals) parts.0 in
    let three = and_parts (valid_attribute f.attribute && is_identifier f.name && list_all valid_local f.params) (valid_result (option_ty f.result)) two.0 in
    let four = and_parts (valid_attribute f.attribute && is_identifier f.name) (list_all valid_local f.params) three.0 in
    let h : HeadTree = head_tree f.attribute f.name f.params f.result in
    let behind : Toks = Mark (codes "{") ∷ (flat_map local_tokens f.locals ++ (stmts_tokens f.body ++ close rest)) in
    ap (λ (q : HeadTree × Toks). function_from q.0 q.1) (head_reads f.attribute f.name f.params f.result behind four.1 three.1 refl)
    ∙ ap (λ (l : Toks). function_from h (Mark (codes "{") ∷ (flat_map local_tokens f.locals ++ (l ++ close rest)))) (stmts_spell f.body)
    ∙ function_from_reads h f.locals (stmt_list f.body) rest two.1 (stmts_valid f.body parts.1)
    ∙ ap (λ b. read_of (record { attribute = f.attribute; name = f.name; params = f.params; result = f.result; locals = f.locals; body = b }) rest) (list_is_stmts f.body)

-- ---- items

dispatched : (a : Attribute) (tokens : Toks) → item (attribute_tokens a ++ Word (codes "pub") ∷ tokens) ≡ attributed (attribute_tokens a ++ Word (codes "pub") ∷ tokens)
unfolding item hashed words marks
dispatched Mangled tokens = refl
dispatched NoMangle tokens = refl
dispatched (ExportName symbol) tokens = refl

symbol_reads : (a : Attribute) (tokens : Toks) → attributed (attribute_tokens a ++ Word (codes "pub") ∷ tokens) ≡ symbol_item a (Word (codes "pub") ∷ tokens)
unfolding attributed words
symbol_reads a tokens = ap (λ (q : Attribute × Toks). symbol_item q.0 q.1) (attribute_reads a (Word (codes "pub") ∷ tokens) refl)

-- a static object or a function is told by its attribute and by the word behind `pub`
attributed_item : (a : Attribute) (tokens : Toks) → item (attribute_tokens a ++ Word (codes "pub") ∷ tokens) ≡ symbol_item a (Word (codes "pub") ∷ tokens)
attributed_item a tokens = dispatched a tokens ∙ symbol_reads a tokens

static_symbol : (a : Attribute) (tokens : Toks) →
    symbol_item a (Word (codes "pub") ∷ Word (codes "static") ∷ tokens) ≡ read_of (StaticItem (static_from a (Word (codes "pub") ∷ Word (codes "static") ∷ tokens)).0) (static_from a (Word (codes "pub") ∷ Word (codes "static") ∷ tokens)).1
unfolding symbol_item static_of words
static_symbol a tokens = refl

function_symbol : (a : Attribute) (tokens : Toks) →
    symbol_item a (Word (codes "pub") ∷ Word (codes "unsafe") ∷ tokens)
    ≡ read_of (FunctionItem (function_item a (Word (codes "pub") ∷ Word (codes "unsafe") ∷ tokens)).0) (function_item a (Word (codes "pub") ∷ Word (codes "unsafe") ∷ tokens)).1
unfolding symbol_item function_of words
function_symbol a tokens = refl

record_dispatch : (of_record : RecordTree) (rest : Toks) →
    item (record_item_tokens of_record ++ rest) ≡ read_of (RecordItem (record_item (record_item_tokens of_record ++ rest)).0) (record_item (record_item_tokens of_record ++ rest)).1
unfolding item hashed record_of marks
record_dispatch of_record rest = refl

extern_dispatch : (list : List OuterTree) (rest : Toks) →
    item (item_tokens (ExternItem list) ++ rest) ≡ read_of (ExternItem (extern_item (item_tokens (ExternItem list) ++ rest)).0) (extern_item (item_tokens (ExternItem list) ++ rest)).1
unfolding item extern_of words
extern_dispatch list rest = refl

outers_valid : (list : List OuterTree) → valid_item (ExternItem list) ≡ true → list_all valid_outer list ≡ true
outers_valid [] h = cc
outers_valid (f ∷ list) h = h

item_reads : (i : ItemTree) (rest : Toks) → valid_item i ≡ true → item (item_tokens i ++ rest) ≡ read_of i rest
item_reads (RecordItem of_record) rest v =
    record_dispatch of_record rest ∙ ap (λ (q : RecordTree × Toks). read_of (RecordItem q.0) q.1) (record_reads of_record rest v)
item_reads (ExternItem list) rest v =
    extern_dispatch list rest ∙ ap (λ (q : List OuterTree × Toks). read_of (ExternItem q.0) q.1) (extern_reads list rest (outers_valid list v))
item_reads (StaticItem s) rest v =
    let tail : Toks = Word (codes "mut") ∷ (typed_tokens s.name s.ty ++ Mark (codes "=") ∷ (values_tokens s.values ++ Mark (codes ";") ∷ rest)) in
    ap item (static_same (attribute_tokens s.attribute) (typed_tokens s.name s.ty) (values_tokens s.values) rest)
    ∙ attributed_item s.attribute (Word (codes "static") ∷ tail)
    ∙ static_symbol s.attribute tail
    ∙ ap (λ (q : StaticTree × Toks). read_of (StaticItem q.0) q.1) (static_reads s rest v)
item_reads (FunctionItem f) rest v =
    let tail : Toks = drop 2 (function_rest f rest) in
    ap item (function_same (attribute_tokens f.attribute) (spelling.listed (map param_tokens f.params)) (result_tokens (option_ty f.result)) (flat_map local_tokens f.locals) (stmts_tokens f.body) rest f.name)
    ∙ attributed_item f.attribute (Word (codes "unsafe") ∷ tail)
    ∙ function_symbol f.attribute tail
    ∙ ap (λ (q : FunctionTree × Toks). read_of (FunctionItem q.0) q.1) (function_reads f rest v)

attribute_starts : (a : Attribute) (tokens rest : Toks) → ends_module (sign_at ((attribute_tokens a ++ Word (codes "pub") ∷ tokens) ++ rest)) ≡ false
unfolding words marks
attribute_starts Mangled tokens rest = refl
attribute_starts NoMangle tokens rest = refl
attribute_starts (ExportName symbol) tokens rest = refl

item_starts : (i : ItemTree) (rest : Toks) → valid_item i ≡ true → ends_module (sign_at (item_tokens i ++ rest)) ≡ false
unfolding words marks
item_starts (RecordItem of_record) rest v = refl
item_starts (ExternItem list) rest v = refl
item_starts (StaticItem s) rest v = attribute_starts s.attribute _ rest
item_starts (FunctionItem f) rest v = attribute_starts f.attribute _ rest

item_some : (i : ItemTree) → 1 ≤ length (item_tokens i)
item_some (RecordItem of_record) = omega arith
item_some (ExternItem list) = omega arith
item_some (StaticItem s) = behind_some (attribute_tokens s.attribute) _ _
item_some (FunctionItem f) = behind_some (attribute_tokens f.attribute) _ _

-- ---- modules

pub items_read : (list : List ItemTree) → list_all valid_item list ≡ true → items (flat_map item_tokens list) ≡ list
items_read list v =
    let same : flat_map item_tokens list ++ [] ≡ flat_map item_tokens list = append-nil (flat_map item_tokens list) in
    ap items (sym same)
    ∙ ap (λ (q : List ItemTree × Toks). q.0)
    (ahead_reads ends_module item item_tokens valid_item any (length (flat_map item_tokens list ++ [])) (λ i more v _ _. item_reads i more v)
    item_starts (λ _ _ _. refl) item_some list [] v refl refl (omega arith))
