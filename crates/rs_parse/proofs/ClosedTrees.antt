-- Trees end just the lists of types that they open.
use Rattle.std.proofs.Common.{◌≡◌, ℕ, suc, ◌+◌, ℤ, pos, negsuc, Bool, true, false, not, ◌&&◌, ◌||◌, nat_eq, List, [], ◌∷◌, ◌++◌, map, codes, bytes_eq, Option, Some, None, refl, sym, ap, ◌∙◌, arith, append_assoc, append-nil, if◌then◌else◌, is_some, nat_le}
use Rattle.std.specs.Cmp.Lexicographic.{same_text}
use Rattle.std.specs.Fmt.{decimal}
use Rattle.std.specs.List.{flat_map, list_all, starts_with}
use Rattle.std.proofs.lemmas.Bool.{and_parts}
use Rattle.rs_expr.specs.Signs.{begins_with_digit}
use Rattle.rs_lex.specs.Closed.{is_mark, is_word, last_of, opens, ends, closed}
use Rattle.rs_text.specs.Forms.{is_compound, is_deref, is_literal, is_call}
use Rattle.rs_text.specs.Names.{is_identifier, is_among, keywords, is_plain_identifier, is_raw_identifier, is_label}
use Rattle.rs_text.specs.Spelling.{place_tokens, expr_tokens, exprs_parts, ty_tokens, tys_parts, result_tokens, literal_tokens, label_tokens, else_tokens, return_tokens, stmt_tokens, stmts_tokens, arm_tokens, arms_tokens, typed_tokens, attribute_tokens, repr_tokens, field_tokens, record_item_tokens, values_tokens, static_tokens, variadic_tokens, link_name_tokens, outer_tokens, param_tokens, local_tokens, function_tokens, item_tokens, item_path}
use Rattle.rs_text.specs.Reads.{fits}
use Rattle.rs_text.specs.Spelling as spelling
use Rattle.rs_text.specs.Tokens.{RToken, Word, Mark, Label, Quoted, Close}
use Rattle.rs_text.specs.Tree.{Ty, Integer, Boolean, Void, Pointer, Array, Code, Record, Tys, no_tys, more_tys, OptionTy, no_ty, some_ty, option_ty, Place, Local, Static, Deref, Field, Expr, Literal, Truth, NoFunction, Read, Call, CallBy, Wrapped, WrappingNeg, Offset, OffsetFrom, IsNull, IsNone, AddressOf, NullPointer, SomeFunction, Transmute, Neg, Not, Cast, Binary, And, Or, Choose, Exprs, no_exprs, more_exprs, Stmt, Assign, Eval, CopyBytes, If, Loop, Block, Break, Continue, Match, Return, Stmts, no_stmts, more_stmts, LiteralArm, Arms, no_arms, more_arms, FieldTree, RecordTree, StaticTree, OuterTree, LocalTree, FunctionTree, ItemTree, RecordItem, StaticItem, ExternItem, FunctionItem}
use Rattle.rs_text.specs.Valid.{valid_place, valid_expr, valid_exprs, valid_ty, valid_stmt, valid_stmts, valid_arms, valid_path, valid_returned, valid_label, is_value, valid_static, valid_local, valid_function, valid_item, valid_attribute, valid_values, valid_result}
use Rattle.rs_text.specs.Words.{integer_word, operator_mark, wrapping_word, record_word}
use Rattle.rs_text.specs.declared.attribute.Attribute.{Attribute}
use Rattle.rs_text.specs.declared.attribute.Attribute.TheVariants.{Mangled, NoMangle, ExportName}
use Rattle.rs_text.specs.declared.integer.IntegerTy.{IntegerTy}
use Rattle.rs_text.specs.declared.integer.IntegerTy.TheVariants.{I8, I16, I32, I64, U8, U16, U32, U64, Isize, Usize}
use Rattle.rs_text.specs.declared.operator.Operator.{Operator}
use Rattle.rs_text.specs.declared.operator.Operator.TheVariants.{Add, Sub, Mul, Div, Rem, BitAnd, BitOr, BitXor, Shl, Shr, Equal, NotEqual, Less, LessEqual, Greater, GreaterEqual}
use Rattle.rs_parse.proofs.Closing.{Toks, at, onward, walk, ok, calm_same, closed_is}
use Rattle.rs_parse.proofs.Digits.{literal_word}
use Rattle.rs_parse.proofs.NameSigns.{plain_parts}
use Rattle.rs_parse.proofs.ReadItems.{values_valid}

-- behind any token, or behind one at which no list of types begins
pub record Any (n : ℕ) (a : Toks) : Type 0 where
  pub on : (p : RToken) (rest : Toks) → ok n p (a ++ rest) ≡ ok n Close rest

pub record Calm (n : ℕ) (a : Toks) : Type 0 where
  pub on : (p : RToken) (rest : Toks) → last_of p ≡ last_of Close → ok n p (a ++ rest) ≡ ok n Close rest

calm : {n : ℕ} {a : Toks} → Any n a → Calm n a
calm any = record { on = λ p rest h. any.on p rest }

through : (n : ℕ) (p : RToken) (a b rest : Toks) → ok n p ((a ++ b) ++ rest) ≡ ok n p (a ++ (b ++ rest))
through n p a b rest = ap (ok n p) (append_assoc a b rest)

pub any_then : {n : ℕ} {a b : Toks} → Any n a → Calm n b → Any n (a ++ b)
any_then {n} {a} {b} first next = record { on = λ p rest. through n p a b rest ∙ first.on p (b ++ rest) ∙ next.on Close rest refl }

pub calm_then : {n : ℕ} {a b : Toks} → Calm n a → Calm n b → Calm n (a ++ b)
calm_then {n} {a} {b} first next = record { on = λ p rest h. through n p a b rest ∙ first.on p (b ++ rest) h ∙ next.on Close rest refl }

pub calm_nil : {n : ℕ} → Calm n []
calm_nil {n} = record { on = λ p rest h. calm_same n p Close rest h }

-- ---- single tokens

by_bools : (b c : Bool) (t : RToken) → is_mark (codes "<") t ≡ false → is_word (codes "unsafe") t ≡ false →
    opens (if b then last_of (Mark (codes "::")) else if c then last_of (Mark (codes "<")) else last_of Close) t ≡ false
by_bools true c t h g = h
by_bools false true t h g = g
by_bools false false t h g = refl

no_open : (p t : RToken) → is_mark (codes "<") t ≡ false → is_word (codes "unsafe") t ≡ false → opens (last_of p) t ≡ false
no_open p t h g = by_bools (is_mark (codes "::") p) (is_mark (codes "<") p) t h g

-- a word behind any token
any_word : (n : ℕ) (p : RToken) (x : List ℕ) (rest : Toks) → bytes_eq x (codes "unsafe") ≡ false → ok n p (Word x ∷ rest) ≡ ok n (Word x) rest
any_word n p x rest h =
    ap (λ b. ok (if b then n + 1 else n) (Word x) rest) (no_open p (Word x) refl h)

any_mark : (n : ℕ) (p : RToken) (m : List ℕ) (rest : Toks) → ends (Mark m) ≡ 0 → is_mark (codes "<") (Mark m) ≡ false → ok n p (Mark m ∷ rest) ≡ ok n (Mark m) rest
any_mark n p m rest h k =
    ap (λ e. is_some (onward (if nat_le 1 e && nat_le 1 n then None else Some (at (if opens (last_of p) (Mark m) then n + 1 else n) (Mark m))) (λ i q. walk i q rest))) h
    ∙ ap (λ b. ok (if b then n + 1 else n) (Mark m) rest) (no_open p (Mark m) k refl)

-- a mark and what stands behind it
mark_any : {n : ℕ} {a : Toks} (m : List ℕ) → ends (Mark m) ≡ 0 → is_mark (codes "<") (Mark m) ≡ false → last_of (Mark m) ≡ last_of Close → Calm n a → Any n (Mark m ∷ a)
mark_any {n} {a} m h k l next = record { on = λ p rest. any_mark n p m (a ++ rest) h k ∙ next.on (Mark m) rest l }

word_any : {n : ℕ} {a : Toks} (x : List ℕ) → bytes_eq x (codes "unsafe") ≡ false → Calm n a → Any n (Word x ∷ a)
word_any {n} {a} x h next = record { on = λ p rest. any_word n p x (a ++ rest) h ∙ next.on (Word x) rest refl }

-- a word, a text or a label behind a calm token
word : {n : ℕ} {a : Toks} (x : List ℕ) → Calm n a → Calm n (Word x ∷ a)
word {n} {a} x next = record { on = λ p rest h. calm_same n p Close (Word x ∷ (a ++ rest)) h ∙ next.on (Word x) rest refl }

label : {n : ℕ} {a : Toks} (x : List ℕ) → Calm n a → Calm n (Label x ∷ a)
label {n} {a} x next = record { on = λ p rest h. calm_same n p Close (Label x ∷ (a ++ rest)) h ∙ next.on (Label x) rest refl }

quoted : {n : ℕ} {a : Toks} (x : List ℕ) → Calm n a → Calm n (Quoted x ∷ a)
quoted {n} {a} x next = record { on = λ p rest h. calm_same n p Close (Quoted x ∷ (a ++ rest)) h ∙ next.on (Quoted x) rest refl }

mark : {n : ℕ} {a : Toks} (m : List ℕ) → ends (Mark m) ≡ 0 → is_mark (codes "<") (Mark m) ≡ false → last_of (Mark m) ≡ last_of Close → Calm n a → Calm n (Mark m ∷ a)
mark m h k l next = calm (mark_any m h k l next)

comma : {n : ℕ} {a : Toks} → Calm n a → Calm n (Mark (codes ",") ∷ a)
comma = mark (codes ",") refl refl refl

semicolon : {n : ℕ} {a : Toks} → Calm n a → Calm n (Mark (codes ";") ∷ a)
semicolon = mark (codes ";") refl refl refl

equal : {n : ℕ} {a : Toks} → Calm n a → Calm n (Mark (codes "=") ∷ a)
equal = mark (codes "=") refl refl refl

colon : {n : ℕ} {a : Toks} → Calm n a → Calm n (Mark (codes ":") ∷ a)
colon = mark (codes ":") refl refl refl

arrow : {n : ℕ} {a : Toks} → Calm n a → Calm n (Mark (codes "=>") ∷ a)
arrow = mark (codes "=>") refl refl refl

paren : {n : ℕ} {a : Toks} → Calm n a → Any n (spelling.in_parentheses a)
paren inner = mark_any (codes "(") refl refl refl (calm_then inner (mark (codes ")") refl refl refl calm_nil))

bracket : {n : ℕ} {a : Toks} → Calm n a → Any n (spelling.in_brackets a)
bracket inner = mark_any (codes "[") refl refl refl (calm_then inner (mark (codes "]") refl refl refl calm_nil))

brace : {n : ℕ} {a : Toks} → Calm n a → Any n (spelling.in_braces a)
brace inner = mark_any (codes "{") refl refl refl (calm_then inner (mark (codes "}") refl refl refl calm_nil))

-- `crate::m::x`
path_any : (n : ℕ) (m x : List ℕ) → Any n (item_path m x)
path_any n m x =
    record { on = λ p rest. any_word n p (codes "crate") (Mark (codes "::") ∷ Word m ∷ Mark (codes "::") ∷ Word x ∷ rest) refl ∙ calm_same n (Word x) Close rest refl }

-- ---- types

-- what stands behind `unsafe` in the type of a function
abbrev signature_tail : Toks → Toks → Toks
signature_tail l res = Word (codes "extern") ∷ Quoted (codes "C") ∷ Word (codes "fn") ∷ (spelling.in_parentheses l ++ res)

tail_calm : {n : ℕ} {l res : Toks} → Calm n l → Calm n res → Calm n (signature_tail l res)
tail_calm a b = word (codes "extern") (quoted (codes "C") (word (codes "fn") (calm_then (calm (paren a)) b)))

code_any : (n : ℕ) (l res : Toks) → Calm (n + 1) l → Calm (n + 1) res → Any n (Word (codes "Option") ∷ spelling.in_angles (Word (codes "unsafe") ∷ signature_tail l res))
code_any n l res a b = record {
  on = λ p rest.
      let e : n + 1 ≡ suc n = omega arith in
      let tail : Calm (n + 1) (signature_tail l res) = tail_calm a b in
      ap (λ (t : Toks). ok n p (Word (codes "Option") ∷ Mark (codes "<") ∷ Word (codes "unsafe") ∷ t)) (append_assoc (signature_tail l res) (Close ∷ []) rest)
      ∙ any_word n p (codes "Option") (Mark (codes "<") ∷ Word (codes "unsafe") ∷ (signature_tail l res ++ Close ∷ rest)) refl
      ∙ tail.on (Word (codes "unsafe")) (Close ∷ rest) refl
      ∙ ap (λ k. ok k Close (Close ∷ rest)) e;
}

integer_safe : (k : IntegerTy) → bytes_eq (integer_word k) (codes "unsafe") ≡ false
integer_safe I8 = refl
integer_safe I16 = refl
integer_safe I32 = refl
integer_safe I64 = refl
integer_safe U8 = refl
integer_safe U16 = refl
integer_safe U32 = refl
integer_safe U64 = refl
integer_safe Isize = refl
integer_safe Usize = refl

void_any : (n : ℕ) → Any n (ty_tokens Void)
void_any n = record {
  on = λ p rest.
      any_word n p (codes "core") (Mark (codes "::") ∷ Word (codes "ffi") ∷ Mark (codes "::") ∷ Word (codes "c_void") ∷ rest) refl ∙ calm_same n (Word (codes "c_void")) Close rest refl;
}

mutual
  pub ty_any : (t : Ty) (n : ℕ) → Any n (ty_tokens t)
  ty_any (Integer k) n = word_any (integer_word k) (integer_safe k) calm_nil
  ty_any Boolean n = word_any (codes "bool") refl calm_nil
  ty_any Void n = void_any n
  ty_any (Pointer t) n = mark_any (codes "*") refl refl refl (word (codes "mut") (calm (ty_any t n)))
  ty_any (Array t size) n = bracket (calm_then (calm (ty_any t n)) (semicolon (word (decimal size) calm_nil)))
  ty_any (Code params r) n = code_any n (spelling.listed (tys_parts params)) (result_tokens r) (tys_listed params (n + 1)) (result_calm r (n + 1))
  ty_any (Record m x) n = path_any n m x

  tys_listed : (ts : Tys) (n : ℕ) → Calm n (spelling.listed (tys_parts ts))
  tys_listed no_tys n = calm_nil
  tys_listed (more_tys t ts) n = calm_then (calm (ty_any t n)) (tys_behind ts n)

  tys_behind : (ts : Tys) (n : ℕ) → Calm n (spelling.behind_commas (tys_parts ts))
  tys_behind no_tys n = calm_nil
  tys_behind (more_tys t ts) n = comma (calm_then (calm (ty_any t n)) (tys_behind ts n))

  pub result_calm : (r : OptionTy) (n : ℕ) → Calm n (result_tokens r)
  result_calm no_ty n = calm_nil
  result_calm (some_ty t) n = mark (codes "->") refl refl refl (calm (ty_any t n))

ty_calm : (t : Ty) → Calm 0 (ty_tokens t)
ty_calm t = calm (ty_any t 0)

signature_calm : (params : Tys) (r : OptionTy) → Calm 0 (spelling.signature (tys_parts params) (result_tokens r))
signature_calm params r = word (codes "unsafe") (tail_calm (tys_listed params 0) (result_calm r 0))

-- ---- names and literals

same_false : (x : List ℕ) (test : List ℕ → Bool) → test (codes "unsafe") ≡ true → test x ≡ false → bytes_eq x (codes "unsafe") ≡ false
same_false x test a b = by_equal (bytes_eq x (codes "unsafe")) refl
  where
    by_equal : (c : Bool) → bytes_eq x (codes "unsafe") ≡ c → c ≡ false
    by_equal true is = let e : x ≡ codes "unsafe" = same_text x (codes "unsafe") (sym is) in let h : true ≡ false = sym a ∙ ap test (sym e) ∙ b in cc
    by_equal false is = refl

unsafe_is_key : is_among keywords (codes "unsafe") ≡ true
unfolding keywords
unsafe_is_key = refl

raw_not : (b c : Bool) → (b && c) ≡ true → not b ≡ false
raw_not true c h = refl
raw_not false c h = cc

name_by : (a b : Bool) (x : List ℕ) → (a || b) ≡ true → (a ≡ true → bytes_eq x (codes "unsafe") ≡ false) → (b ≡ true → bytes_eq x (codes "unsafe") ≡ false) → bytes_eq x (codes "unsafe") ≡ false
name_by true b x h one other = one refl
name_by false b x h one other = other h

name_safe : (x : List ℕ) → is_identifier x ≡ true → bytes_eq x (codes "unsafe") ≡ false
name_safe x h =
    name_by (is_plain_identifier x) (is_raw_identifier x) x h
    (λ plain. same_false x (is_among keywords) unsafe_is_key (plain_parts x plain).key)
    (λ raw. same_false x (λ w. not (starts_with nat_eq w (codes "r#"))) refl (raw_not (starts_with nat_eq x (codes "r#")) _ raw))

digit_safe : (x : List ℕ) → begins_with_digit x ≡ true → bytes_eq x (codes "unsafe") ≡ false
digit_safe x h = same_false x (λ w. not (begins_with_digit w)) refl (ap not h)

literal_any : (n : ℤ) (k : IntegerTy) → is_value n ≡ true → Any 0 (literal_tokens n k)
literal_any (pos n) k v = word_any (decimal n ++ integer_word k) (digit_safe (decimal n ++ integer_word k) (literal_word n k v).first) calm_nil
literal_any (negsuc n) k v = mark_any (codes "-") refl refl refl (word (decimal (suc n) ++ integer_word k) calm_nil)

-- ---- expressions

operand_any : (b : Bool) {a : Toks} → Any 0 a → Any 0 (spelling.operand b a)
operand_any false inner = inner
operand_any true inner = paren (calm inner)

-- a dot and a method
method_any : {a args : Toks} (name : List ℕ) → Any 0 a → Calm 0 args → Any 0 (spelling.method a name args)
method_any name first args = any_then first (mark (codes ".") refl refl refl (word name (calm (paren args))))

-- a call of a function of `core` with types in angles
null_any : (t : Ty) → Any 0 (expr_tokens (NullPointer t))
null_any t = record {
  on = λ p rest.
      let inner : Any 1 (ty_tokens t) = ty_any t 1 in
      ap (λ (l : Toks). ok 0 p (spelling.path_tokens (codes "core" ∷ codes "ptr" ∷ codes "null_mut" ∷ []) ++ Mark (codes "::") ∷ Mark (codes "<") ∷ l))
      (append_assoc ((ty_tokens t ++ []) ++ Close ∷ []) (Mark (codes "(") ∷ Mark (codes ")") ∷ []) rest
      ∙ append_assoc (ty_tokens t ++ []) (Close ∷ []) (Mark (codes "(") ∷ Mark (codes ")") ∷ rest)
      ∙ append_assoc (ty_tokens t) [] (Close ∷ Mark (codes "(") ∷ Mark (codes ")") ∷ rest))
      ∙ any_word 0 p (codes "core") (Mark (codes "::") ∷ Word (codes "ptr") ∷ Mark (codes "::") ∷ Word (codes "null_mut") ∷ Mark (codes "::") ∷ Mark (codes "<") ∷ (ty_tokens t ++ Close ∷ Mark (codes "(") ∷ Mark (codes ")") ∷ rest)) refl
      ∙ inner.on (Mark (codes "<")) (Close ∷ Mark (codes "(") ∷ Mark (codes ")") ∷ rest)
      ∙ calm_same 0 (Mark (codes ")")) Close rest refl;
}

transmute_any : (a b : Ty) (e : Toks) → Calm 0 e → Any 0 (spelling.generic_call (codes "core" ∷ codes "mem" ∷ codes "transmute" ∷ []) (ty_tokens a ∷ ty_tokens b ∷ []) e)
transmute_any a b e inner = record {
  on = λ p rest.
      let first : Any 1 (ty_tokens a) = ty_any a 1 in
      let second : Calm 1 (Mark (codes ",") ∷ (ty_tokens b ++ [])) = comma (calm_then (calm (ty_any b 1)) calm_nil) in
      let args : Any 0 (spelling.in_parentheses e) = paren inner in
      let behind : Toks = spelling.in_parentheses e ++ rest in
      ap (λ (l : Toks). ok 0 p (spelling.path_tokens (codes "core" ∷ codes "mem" ∷ codes "transmute" ∷ []) ++ Mark (codes "::") ∷ Mark (codes "<") ∷ l))
      (append_assoc ((ty_tokens a ++ Mark (codes ",") ∷ (ty_tokens b ++ [])) ++ Close ∷ []) (spelling.in_parentheses e) rest
      ∙ append_assoc (ty_tokens a ++ Mark (codes ",") ∷ (ty_tokens b ++ [])) (Close ∷ []) behind
      ∙ append_assoc (ty_tokens a) (Mark (codes ",") ∷ (ty_tokens b ++ [])) (Close ∷ behind))
      ∙ any_word 0 p (codes "core") (Mark (codes "::") ∷ Word (codes "mem") ∷ Mark (codes "::") ∷ Word (codes "transmute") ∷ Mark (codes "::") ∷ Mark (codes "<") ∷ (ty_tokens a ++ ((Mark (codes ",") ∷ (ty_tokens b ++ [])) ++ Close ∷ behind))) refl
      ∙ first.on (Mark (codes "<")) ((Mark (codes ",") ∷ (ty_tokens b ++ [])) ++ Close ∷ behind)
      ∙ second.on Close (Close ∷ behind) refl
      ∙ args.on Close rest;
}

address_any : (l : Toks) → Calm 0 l → Any 0 (spelling.path_tokens (codes "core" ∷ codes "ptr" ∷ codes "addr_of_mut" ∷ []) ++ (Mark (codes "!") ∷ spelling.in_parentheses l))
address_any l inner = record {
  on = λ p rest.
      let args : Any 0 (spelling.in_parentheses l) = paren inner in
      any_word 0 p (codes "core") (Mark (codes "::") ∷ Word (codes "ptr") ∷ Mark (codes "::") ∷ Word (codes "addr_of_mut") ∷ Mark (codes "!") ∷ (spelling.in_parentheses l ++ rest)) refl
      ∙ args.on (Mark (codes "!")) rest;
}

operator_step : (o : Operator) (rest : Toks) → ok 0 Close (Mark (operator_mark o) ∷ rest) ≡ ok 0 (Mark (operator_mark o)) rest
operator_step Add rest = refl
operator_step Sub rest = refl
operator_step Mul rest = refl
operator_step Div rest = refl
operator_step Rem rest = refl
operator_step BitAnd rest = refl
operator_step BitOr rest = refl
operator_step BitXor rest = refl
operator_step Shl rest = refl
operator_step Shr rest = refl
operator_step Equal rest = refl
operator_step NotEqual rest = refl
operator_step Less rest = refl
operator_step LessEqual rest = refl
operator_step Greater rest = refl
operator_step GreaterEqual rest = refl

operator_then : (o : Operator) {a : Toks} → Any 0 a → Calm 0 (Mark (operator_mark o) ∷ a)
operator_then o {a} next = record { on = λ p rest h. calm_same 0 p Close (Mark (operator_mark o) ∷ (a ++ rest)) h ∙ operator_step o (a ++ rest) ∙ next.on (Mark (operator_mark o)) rest }

mutual
  pub place_any : (p : Place) → valid_place p ≡ true → Any 0 (place_tokens p)
  place_any (Local x) v = word_any x (name_safe x v) calm_nil
  place_any (Static m x) v = path_any 0 m x
  place_any (Deref e) v = mark_any (codes "*") refl refl refl (calm (operand_any (is_compound e) (expr_any e v)))
  place_any (Field p f) v =
      any_then (operand_any (is_deref p) (place_any p (and_parts (valid_place p) (is_identifier f) v).0)) (mark (codes ".") refl refl refl (word f calm_nil))

  pub expr_any : (e : Expr) → valid_expr e ≡ true → Any 0 (expr_tokens e)
  expr_any (Literal n k) v = literal_any n k v
  expr_any (Truth true) v = word_any (codes "true") refl calm_nil
  expr_any (Truth false) v = word_any (codes "false") refl calm_nil
  expr_any NoFunction v = word_any (codes "None") refl calm_nil
  expr_any (Read p) v = place_any p v
  expr_any (Call m x args) v = any_then (path_any 0 m x) (calm (paren (exprs_listed args (and_parts (valid_path m x) (valid_exprs args) v).1)))
  expr_any (CallBy e args) v =
      let parts = and_parts (valid_expr e) (valid_exprs args) v in
      any_then (method_any (codes "unwrap") (operand_any (is_compound e) (expr_any e parts.0)) calm_nil) (calm (paren (exprs_listed args parts.1)))
  expr_any (Wrapped e o arg) v =
      let parts = and_parts (valid_expr e) (valid_expr arg) v in method_any (wrapping_word o) (operand_any (is_compound e) (expr_any e parts.0)) (calm (expr_any arg parts.1))
  expr_any (WrappingNeg e) v = method_any (codes "wrapping_neg") (operand_any (is_compound e) (expr_any e v)) calm_nil
  expr_any (Offset e arg) v =
      let parts = and_parts (valid_expr e) (valid_expr arg) v in method_any (codes "offset") (operand_any (is_compound e) (expr_any e parts.0)) (calm (expr_any arg parts.1))
  expr_any (OffsetFrom e arg) v =
      let parts = and_parts (valid_expr e) (valid_expr arg) v in method_any (codes "offset_from") (operand_any (is_compound e) (expr_any e parts.0)) (calm (expr_any arg parts.1))
  expr_any (IsNull e) v = method_any (codes "is_null") (operand_any (is_compound e) (expr_any e v)) calm_nil
  expr_any (IsNone e) v = method_any (codes "is_none") (operand_any (is_compound e) (expr_any e v)) calm_nil
  expr_any (AddressOf p) v = address_any (place_tokens p) (calm (place_any p v))
  expr_any (NullPointer t) v = null_any t
  expr_any (SomeFunction m x params r) v =
      word_any (codes "Some") refl (calm (paren (calm_then (calm (path_any 0 m x)) (word (codes "as") (signature_calm params r)))))
  expr_any (Transmute from to e) v = transmute_any from to (expr_tokens e) (calm (expr_any e (and_parts (valid_ty from && valid_ty to) (valid_expr e) v).1))
  expr_any (Neg e) v = mark_any (codes "-") refl refl refl (calm (operand_any (is_compound e) (expr_any e (and_parts (not (is_literal e)) (valid_expr e) v).1)))
  expr_any (Not e) v = mark_any (codes "!") refl refl refl (calm (operand_any (is_compound e) (expr_any e v)))
  expr_any (Cast e t) v =
      any_then (operand_any (is_compound e) (expr_any e (and_parts (valid_expr e) (valid_ty t) v).0)) (word (codes "as") (ty_calm t))
  expr_any (Binary left o right) v =
      let parts = and_parts (valid_expr left) (valid_expr right) v in
      any_then (operand_any (is_compound left) (expr_any left parts.0)) (operator_then o (operand_any (is_compound right) (expr_any right parts.1)))
  expr_any (And left right) v =
      let parts = and_parts (valid_expr left) (valid_expr right) v in
      any_then (operand_any (is_compound left) (expr_any left parts.0)) (mark (codes "&&") refl refl refl (calm (operand_any (is_compound right) (expr_any right parts.1))))
  expr_any (Or left right) v =
      let parts = and_parts (valid_expr left) (valid_expr right) v in
      any_then (operand_any (is_compound left) (expr_any left parts.0)) (mark (codes "||") refl refl refl (calm (operand_any (is_compound right) (expr_any right parts.1))))
  expr_any (Choose c a b) v =
      let parts = and_parts (valid_expr c && valid_expr a) (valid_expr b) v in
      let first = and_parts (valid_expr c) (valid_expr a) parts.0 in
      word_any (codes "if") refl (calm_then (calm (expr_any c first.0)) (calm_then (calm (brace (calm (expr_any a first.1)))) (word (codes "else") (calm (brace (calm (expr_any b parts.1)))))))

  exprs_listed : (es : Exprs) → valid_exprs es ≡ true → Calm 0 (spelling.listed (exprs_parts es))
  exprs_listed no_exprs v = calm_nil
  exprs_listed (more_exprs e es) v =
      let parts = and_parts (valid_expr e) (valid_exprs es) v in calm_then (calm (expr_any e parts.0)) (exprs_behind es parts.1)

  exprs_behind : (es : Exprs) → valid_exprs es ≡ true → Calm 0 (spelling.behind_commas (exprs_parts es))
  exprs_behind no_exprs v = calm_nil
  exprs_behind (more_exprs e es) v =
      let parts = and_parts (valid_expr e) (valid_exprs es) v in comma (calm_then (calm (expr_any e parts.0)) (exprs_behind es parts.1))

expr_calm : (e : Expr) → valid_expr e ≡ true → Calm 0 (expr_tokens e)
expr_calm e v = calm (expr_any e v)

-- ---- statements

label_calm : (l : Option (List ℕ)) → Calm 0 (label_tokens l)
label_calm None = calm_nil
label_calm (Some l) = label l (colon calm_nil)

return_calm : (o : Option Expr) → valid_returned o ≡ true → Calm 0 (return_tokens o)
return_calm None v = word (codes "return") (semicolon calm_nil)
return_calm (Some e) v = word (codes "return") (calm_then (expr_calm e v) (semicolon calm_nil))

literal_calm : (n : ℤ) (k : IntegerTy) → is_value n ≡ true → Calm 0 (literal_tokens n k)
literal_calm n k v = calm (literal_any n k v)

copy_path : {a : Toks} → Any 0 a → Calm 0 (spelling.path_tokens (codes "core" ∷ codes "ptr" ∷ codes "copy" ∷ []) ++ a)
copy_path {a} next = record {
  on = λ p rest h.
      any_word 0 p (codes "core") (Mark (codes "::") ∷ Word (codes "ptr") ∷ Mark (codes "::") ∷ Word (codes "copy") ∷ (a ++ rest)) refl ∙ next.on (Word (codes "copy")) rest;
}

mutual
  pub stmt_calm : (s : Stmt) → valid_stmt s ≡ true → Calm 0 (stmt_tokens s)
  stmt_calm (Assign p e) v =
      let parts = and_parts (valid_place p) (valid_expr e) v in calm_then (calm (place_any p parts.0)) (equal (calm_then (expr_calm e parts.1) (semicolon calm_nil)))
  stmt_calm (Eval e) v = calm_then (expr_calm e (and_parts (is_call e) (valid_expr e) v).1) (semicolon calm_nil)
  stmt_calm (CopyBytes a b c) v =
      let parts = and_parts (valid_expr a && valid_expr b) (valid_expr c) v in
      let first = and_parts (valid_expr a) (valid_expr b) parts.0 in
      copy_path (any_then (paren (calm_then (expr_calm a first.0) (comma (calm_then (expr_calm b first.1) (comma (calm_then (expr_calm c parts.1) calm_nil)))))) (semicolon calm_nil))
  stmt_calm (If c a b) v =
      let parts = and_parts (valid_expr c && valid_stmts a) (valid_stmts b) v in
      let first = and_parts (valid_expr c) (valid_stmts a) parts.0 in
      word (codes "if") (calm_then (expr_calm c first.0) (calm_then (calm (brace (stmts_calm a first.1))) (else_calm b parts.1)))
  stmt_calm (Loop l ss) v = calm_then (label_calm l) (word (codes "loop") (calm (brace (stmts_calm ss (and_parts (valid_label l) (valid_stmts ss) v).1))))
  stmt_calm (Block l ss) v = label l (colon (calm (brace (stmts_calm ss (and_parts (is_label l) (valid_stmts ss) v).1))))
  stmt_calm (Break l) v = word (codes "break") (label l (semicolon calm_nil))
  stmt_calm (Continue l) v = word (codes "continue") (label l (semicolon calm_nil))
  stmt_calm (Match e cases ss) v =
      let parts = and_parts (valid_expr e && valid_arms cases) (valid_stmts ss) v in
      let first = and_parts (valid_expr e) (valid_arms cases) parts.0 in
      word (codes "match") (calm_then (expr_calm e first.0) (calm (brace (calm_then (arms_calm cases first.1) (word (codes "_") (arrow (calm (brace (stmts_calm ss parts.1)))))))))
  stmt_calm (Return o) v = return_calm o v

  else_calm : (ss : Stmts) → valid_stmts ss ≡ true → Calm 0 (else_tokens ss (stmts_tokens ss))
  else_calm no_stmts v = calm_nil
  else_calm (more_stmts s ss) v =
      let parts = and_parts (valid_stmt s) (valid_stmts ss) v in word (codes "else") (calm (brace (calm_then (stmt_calm s parts.0) (stmts_calm ss parts.1))))

  pub stmts_calm : (ss : Stmts) → valid_stmts ss ≡ true → Calm 0 (stmts_tokens ss)
  stmts_calm no_stmts v = calm_nil
  stmts_calm (more_stmts s ss) v = let parts = and_parts (valid_stmt s) (valid_stmts ss) v in calm_then (stmt_calm s parts.0) (stmts_calm ss parts.1)

  arms_calm : (cases : Arms) → valid_arms cases ≡ true → Calm 0 (arms_tokens cases)
  arms_calm no_arms v = calm_nil
  arms_calm (more_arms (LiteralArm n k ss) others) v =
      let parts = and_parts (is_value n && valid_stmts ss) (valid_arms others) v in
      let first = and_parts (is_value n) (valid_stmts ss) parts.0 in
      calm_then (calm_then (literal_calm n k first.0) (arrow (calm (brace (stmts_calm ss first.1))))) (arms_calm others parts.1)

-- ---- items

attribute_of : {a : Toks} → Calm 0 a → Calm 0 (spelling.attribute a)
attribute_of inner = mark (codes "#") refl refl refl (calm (bracket inner))

symbol_calm : (name symbol : List ℕ) → Calm 0 (spelling.symbol_tokens name symbol)
symbol_calm name symbol = attribute_of (word name (equal (quoted symbol calm_nil)))

attribute_calm : (a : Attribute) → Calm 0 (attribute_tokens a)
attribute_calm Mangled = calm_nil
attribute_calm NoMangle = attribute_of (word (codes "no_mangle") calm_nil)
attribute_calm (ExportName symbol) = symbol_calm (codes "export_name") symbol

typed_calm : (name : List ℕ) (t : Ty) → Calm 0 (typed_tokens name t)
typed_calm name t = word name (colon (ty_calm t))

repr_calm : (align : Option ℕ) → Calm 0 (repr_tokens align)
repr_calm None = word (codes "C") calm_nil
repr_calm (Some n) = word (codes "C") (comma (word (codes "align") (calm (paren (word (decimal n) calm_nil)))))

fields_calm : (list : List FieldTree) → Calm 0 (flat_map field_tokens list)
fields_calm [] = calm_nil
fields_calm (f ∷ list) = calm_then (word (codes "pub") (calm_then (typed_calm f.name f.ty) (comma calm_nil))) (fields_calm list)

record_calm : (r : RecordTree) → Calm 0 (record_item_tokens r)
record_calm r =
    calm_then (attribute_of (word (codes "derive") (calm (paren (word (codes "Copy") (comma (word (codes "Clone") calm_nil)))))))
    (calm_then (attribute_of (word (codes "repr") (calm (paren (repr_calm r.align))))) (word (codes "pub") (word (record_word r.is_union) (word r.name (calm (brace (fields_calm r.fields)))))))

zeroed_calm : Calm 0 spelling.zeroed_tokens
zeroed_calm = record { on = λ p rest h. calm_same 0 p Close (spelling.zeroed_tokens ++ rest) h ∙ calm_same 0 (Mark (codes ")")) Close rest refl }

values_behind : (list : List ℤ) → list_all is_value list ≡ true → Calm 0 (spelling.behind_commas (map (λ n. literal_tokens n I8) list))
values_behind [] v = calm_nil
values_behind (n ∷ list) v = let parts = and_parts (is_value n) (list_all is_value list) v in comma (calm_then (literal_calm n I8 parts.0) (values_behind list parts.1))

values_listed : (list : List ℤ) → list_all is_value list ≡ true → Calm 0 (spelling.listed (map (λ n. literal_tokens n I8) list))
values_listed [] v = calm_nil
values_listed (n ∷ list) v = let parts = and_parts (is_value n) (list_all is_value list) v in calm_then (literal_calm n I8 parts.0) (values_behind list parts.1)

values_calm : (o : Option (List ℤ)) (t : Ty) → valid_values o t ≡ true → Calm 0 (values_tokens o)
values_calm None t v = word (codes "unsafe") (calm (brace zeroed_calm))
values_calm (Some list) t v = calm (bracket (values_listed list (values_valid list t v)))

static_calm : (s : StaticTree) → valid_static s ≡ true → Calm 0 (static_tokens s)
static_calm s v =
    let parts = and_parts (valid_attribute s.attribute && is_identifier s.name && valid_ty s.ty) (valid_values s.values s.ty) v in
    calm_then (attribute_calm s.attribute) (word (codes "pub") (word (codes "static") (word (codes "mut")
    (calm_then (typed_calm s.name s.ty) (equal (calm_then (values_calm s.values s.ty parts.1) (semicolon calm_nil)))))))

outer_behind : (k : ℕ) (ts : List Ty) → Calm 0 (spelling.behind_commas (spelling.outer_params k ts))
outer_behind k [] = calm_nil
outer_behind k (t ∷ ts) = comma (calm_then (typed_calm (codes "a" ++ decimal k) t) (outer_behind (k + 1) ts))

outer_listed : (k : ℕ) (ts : List Ty) → Calm 0 (spelling.listed (spelling.outer_params k ts))
outer_listed k [] = calm_nil
outer_listed k (t ∷ ts) = calm_then (typed_calm (codes "a" ++ decimal k) t) (outer_behind (k + 1) ts)

variadic_calm : (v : Bool) → Calm 0 (variadic_tokens v)
variadic_calm false = calm_nil
variadic_calm true = comma (mark (codes "...") refl refl refl calm_nil)

link_name_calm : (o : Option (List ℕ)) → Calm 0 (link_name_tokens o)
link_name_calm None = calm_nil
link_name_calm (Some symbol) = symbol_calm (codes "link_name") symbol

outer_calm : (f : OuterTree) → Calm 0 (outer_tokens f)
outer_calm f =
    calm_then (link_name_calm f.link_name) (word (codes "pub") (word (codes "fn") (word f.name
    (calm_then (calm (paren (calm_then (outer_listed 0 f.params) (variadic_calm f.variadic)))) (calm_then (result_calm (option_ty f.result) 0) (semicolon calm_nil))))))

outers_calm : (list : List OuterTree) → Calm 0 (flat_map outer_tokens list)
outers_calm [] = calm_nil
outers_calm (f ∷ list) = calm_then (outer_calm f) (outers_calm list)

params_behind : (list : List LocalTree) → Calm 0 (spelling.behind_commas (map param_tokens list))
params_behind [] = calm_nil
params_behind (p ∷ list) = comma (calm_then (word (codes "mut") (typed_calm p.name p.ty)) (params_behind list))

params_listed : (list : List LocalTree) → Calm 0 (spelling.listed (map param_tokens list))
params_listed [] = calm_nil
params_listed (p ∷ list) = calm_then (word (codes "mut") (typed_calm p.name p.ty)) (params_behind list)

locals_calm : (list : List LocalTree) → Calm 0 (flat_map local_tokens list)
locals_calm [] = calm_nil
locals_calm (p ∷ list) =
    calm_then (word (codes "let") (word (codes "mut") (calm_then (typed_calm p.name p.ty) (equal (calm_then zeroed_calm (semicolon calm_nil)))))) (locals_calm list)

function_calm : (f : FunctionTree) → valid_function f ≡ true → Calm 0 (function_tokens f)
function_calm f v =
    let parts = and_parts (valid_attribute f.attribute && is_identifier f.name && list_all valid_local f.params && valid_result (option_ty f.result) && list_all valid_local f.locals) (valid_stmts f.body) v in
    calm_then (attribute_calm f.attribute) (word (codes "pub") (word (codes "unsafe") (word (codes "extern") (quoted (codes "C") (word (codes "fn") (word f.name
    (calm_then (calm (paren (params_listed f.params))) (calm_then (result_calm (option_ty f.result) 0) (calm (brace (calm_then (locals_calm f.locals) (stmts_calm f.body parts.1))))))))))))

item_calm : (i : ItemTree) → valid_item i ≡ true → Calm 0 (item_tokens i)
item_calm (RecordItem r) v = record_calm r
item_calm (StaticItem s) v = static_calm s v
item_calm (ExternItem list) v = word (codes "extern") (quoted (codes "C") (calm (brace (outers_calm list))))
item_calm (FunctionItem f) v = function_calm f v

pub items_calm : (list : List ItemTree) → list_all valid_item list ≡ true → Calm 0 (flat_map item_tokens list)
items_calm [] v = calm_nil
items_calm (i ∷ list) v = let parts = and_parts (valid_item i) (list_all valid_item list) v in calm_then (item_calm i parts.0) (items_calm list parts.1)

-- the tokens of a text that are those of valid items are those items' with the ends of lists of types told apart
pub items_closed : (ts : Toks) (list : List ItemTree) → list_all valid_item list ≡ true → fits ts (flat_map item_tokens list) ≡ true → closed ts ≡ flat_map item_tokens list
items_closed ts list v fit =
    let all : Calm 0 (flat_map item_tokens list) = items_calm list v in
    closed_is ts (flat_map item_tokens list) fit (ap (ok 0 Close) (sym (append-nil (flat_map item_tokens list))) ∙ all.on Close [] refl)
