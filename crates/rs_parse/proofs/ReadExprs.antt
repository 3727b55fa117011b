-- Expressions are read back from what they spell.
use Rattle.std.proofs.Common.{◌≡◌, ℕ, zero, suc, ◌≤◌, ℤ, pos, negsuc, Bool, true, false, not, ◌&&◌, List, [], ◌∷◌, ◌++◌, drop, length, codes, refl, sym, ap, subst, ◌∙◌, arith, append_assoc, append-nil, length-append}
use Rattle.std.specs.Fmt.{decimal}
use Rattle.std.proofs.lemmas.Bool.{and_parts, cond-true, cond-false}
use Rattle.rs_expr.specs.Exprs.{place_of, core_words, methods, operators, operator_of, address, null, transmute, transmute_to, core_call, some_function, call, static_object, path, path_by, local, named, name_by, number, in_parentheses, word_value, base, base_by, unwrapped, argument, wrapped, moved, measured, method, field, tail, tail_by, tails, is_dot, operand, cast, and_right, or_right, operated, continuation, between, opposite, inverted, pointed, minus, is_lone, is_number, choose_from, choose, expr_from, expr}
use Rattle.rs_expr.specs.Reading.{Toks, Reader, read_of, ends_list, listed}
use Rattle.rs_expr.specs.Signs.{sign_at, sign, marks, words}
use Rattle.rs_expr.specs.Types.{ty, SignatureTree}
use Rattle.rs_expr.specs.declared.sign.Sign.{Sign}
use Rattle.rs_expr.specs.declared.sign.Sign.TheVariants as of
use Rattle.rs_text.specs.Forms.{is_literal}
use Rattle.rs_text.specs.Names.{is_identifier}
use Rattle.rs_text.specs.Spelling.{place_tokens, expr_tokens, exprs_parts, ty_tokens, tys_parts, result_tokens}
use Rattle.rs_text.specs.Spelling as spelling
use Rattle.rs_text.specs.Tokens.{RToken, Word, Mark, Close}
use Rattle.rs_text.specs.Tree.{Ty, Tys, OptionTy, no_ty, some_ty, tys, option_ty, Place, Local, Static, Deref, Field, Expr, Literal, Truth, NoFunction, Read, Call, CallBy, Wrapped, WrappingNeg, Offset, OffsetFrom, IsNull, IsNone, AddressOf, NullPointer, SomeFunction, Transmute, Neg, Not, Cast, Binary, And, Or, Choose, Exprs, exprs}
use Rattle.rs_text.specs.Valid.{valid_place, valid_expr, valid_exprs, valid_path, valid_ty, valid_target, valid_tys, valid_result, is_value}
use Rattle.rs_text.specs.Words.{operator_mark, wrapping_word, integer_word}
use Rattle.rs_text.specs.declared.integer.IntegerTy.{IntegerTy}
use Rattle.rs_text.specs.declared.operator.Operator.{Operator}
use Rattle.rs_text.specs.declared.operator.Operator.TheVariants.{Add, Sub, Mul, Div, Rem, BitAnd, BitOr, BitXor, Shl, Shr, Equal, NotEqual, Less, LessEqual, Greater, GreaterEqual}
use Rattle.rs_text.specs.declared.operator.Wrapping.{Wrapping}
use Rattle.rs_text.specs.declared.operator.Wrapping.TheVariants.{WrappingAdd, WrappingSub, WrappingMul}
use Rattle.rs_parse.proofs.Digits.{literal_word}
use Rattle.rs_parse.proofs.NameSigns.{name_sign, not_true}
use Rattle.rs_parse.proofs.ReadLists.{parts_ahead}
use Rattle.rs_parse.proofs.ReadTypes.{types_read, signature_reads, list_is_tys, ty_option, is_target}
use Rattle.rs_parse.proofs.ExprStarts.{ends, is_calm, ends_calm, ends_no_dot, stops, between_by, expr_list, list_is_exprs, expr_parts, exprs_valid, op, number_sign, op_opens, dotted, op_alone, literal_reads, starts_by, expr_some}

-- ---- operands

-- what a reader of expressions reads, of at most so many tokens
abbrev pub ExprRead : Reader Expr → ℕ → Type 0
ExprRead below most = (e : Expr) (rest : Toks) → valid_expr e ≡ true → ends (sign_at rest) ≡ true → length (expr_tokens e ++ rest) ≤ most →
    below (expr_tokens e ++ rest) ≡ read_of e rest

abbrev close : Toks → Toks
close rest = Mark (codes ")") ∷ rest

paren_same : (l rest : Toks) → spelling.in_parentheses l ++ rest ≡ Mark (codes "(") ∷ (l ++ close rest)
paren_same l rest = ap (λ (t : Toks). Mark (codes "(") ∷ t) (append_assoc l (Mark (codes ")") ∷ []) rest)

method_same : (of_tokens : Toks) (name : List ℕ) (args rest : Toks) →
    spelling.method of_tokens name args ++ rest ≡ of_tokens ++ dotted name (Mark (codes "(") ∷ (args ++ close rest))
method_same of_tokens name args rest =
    append_assoc of_tokens (dotted name (spelling.in_parentheses args)) rest ∙ ap (λ (t : Toks). of_tokens ++ dotted name t) (paren_same args rest)

behind_length : (xs ys : Toks) (most : ℕ) → length (xs ++ ys) ≤ most → length ys ≤ most
behind_length xs ys most h = let e = length-append xs ys in omega (arith, h, e)

option_back : (r : OptionTy) → option_ty (ty_option r) ≡ r
option_back no_ty = refl
option_back (some_ty t) = refl

as_calm : (is_calm (sign (Word (codes "as"))) ≡ true) × (is_dot (sign (Word (codes "as"))) ≡ false)
unfolding words
as_calm = (refl, refl)

lazy_calm : (is_calm (sign (Mark (codes "&&"))) ≡ true) × (is_dot (sign (Mark (codes "&&"))) ≡ false) × (is_calm (sign (Mark (codes "||"))) ≡ true) × (is_dot (sign (Mark (codes "||"))) ≡ false)
unfolding marks
lazy_calm = (refl, refl, refl, refl)

operator_calm : (o : Operator) → (is_calm (sign (Mark (operator_mark o))) ≡ true) × (is_dot (sign (Mark (operator_mark o))) ≡ false)
unfolding marks
operator_calm Add = (refl, refl)
operator_calm Sub = (refl, refl)
operator_calm Mul = (refl, refl)
operator_calm Div = (refl, refl)
operator_calm Rem = (refl, refl)
operator_calm BitAnd = (refl, refl)
operator_calm BitOr = (refl, refl)
operator_calm BitXor = (refl, refl)
operator_calm Shl = (refl, refl)
operator_calm Shr = (refl, refl)
operator_calm Equal = (refl, refl)
operator_calm NotEqual = (refl, refl)
operator_calm Less = (refl, refl)
operator_calm LessEqual = (refl, refl)
operator_calm Greater = (refl, refl)
operator_calm GreaterEqual = (refl, refl)

operator_back : (o : Operator) → operator_of (operator_mark o) ≡ o
unfolding operators
operator_back Add = refl
operator_back Sub = refl
operator_back Mul = refl
operator_back Div = refl
operator_back Rem = refl
operator_back BitAnd = refl
operator_back BitOr = refl
operator_back BitXor = refl
operator_back Shl = refl
operator_back Shr = refl
operator_back Equal = refl
operator_back NotEqual = refl
operator_back Less = refl
operator_back LessEqual = refl
operator_back Greater = refl
operator_back GreaterEqual = refl

dot_calm : is_calm (sign (Mark (codes "."))) ≡ true
unfolding marks
dot_calm = refl

module _ (below : Reader Expr) (most : ℕ) (reads : ExprRead below most) where
  -- what comes of all that stands behind an operand
  abbrev Tails : Expr → Toks → (Expr × Toks) → Type 0
  Tails e rest r = (n : ℕ) → length rest ≤ n → tails n e below rest ≡ r

  abbrev OperandRead : Expr → Type 0
  OperandRead e = (rest : Toks) (r : Expr × Toks) → is_calm (sign_at rest) ≡ true → length (op e ++ rest) ≤ suc most → Tails e rest r →
      operand below (op e ++ rest) ≡ r

  base_then : (e : Expr) (tokens rest : Toks) (r : Expr × Toks) → base below tokens ≡ read_of e rest → Tails e rest r → operand below tokens ≡ r
  unfolding operand
  base_then e tokens rest r is then_r =
      ap (λ (p : Expr × Toks). tails (length p.1) p.0 below p.1) is ∙ then_r (length rest) (omega arith)

  compound_base : (e : Expr) (rest : Toks) → valid_expr e ≡ true → length (expr_tokens e ++ close rest) ≤ most →
      base below (Mark (codes "(") ∷ (expr_tokens e ++ close rest)) ≡ read_of e rest
  unfolding base in_parentheses marks
  compound_base e rest v short = ap (λ (p : Expr × Toks). read_of p.0 (drop 1 p.1)) (reads e (close rest) v refl short)

  compound_reads : (e : Expr) (rest : Toks) (r : Expr × Toks) → valid_expr e ≡ true → length (spelling.in_parentheses (expr_tokens e) ++ rest) ≤ suc most → Tails e rest r →
      operand below (spelling.in_parentheses (expr_tokens e) ++ rest) ≡ r
  compound_reads e rest r v short then_r =
      let same = paren_same (expr_tokens e) rest in
      let n1 = ap length same in
      ap (operand below) same ∙ base_then e _ rest r (compound_base e rest v (omega (arith, short, n1))) then_r

  -- ---- lists of arguments

  pub args_read : (es : Exprs) (rest : Toks) → valid_exprs es ≡ true → length (spelling.listed (exprs_parts es) ++ close rest) ≤ most →
      listed below (spelling.listed (exprs_parts es) ++ close rest) ≡ read_of (expr_list es) (close rest)
  unfolding marks
  args_read es rest v short =
      let parts = expr_parts es in
      subst (λ (l : List Toks). listed below (spelling.listed l ++ close rest) ≡ read_of (expr_list es) (close rest)) (sym parts)
      (parts_ahead ends_list below expr_tokens valid_expr ends most reads starts_by refl expr_some
      (expr_list es) (close rest) (exprs_valid es v) refl refl refl
      (subst (λ (l : List Toks). length (spelling.listed l ++ close rest) ≤ most) parts short))

  -- ---- what stands before dots

  literal_base : (n : ℕ) (k : IntegerTy) (rest : Toks) → is_value (pos n) ≡ true → base below (Word (decimal n ++ integer_word k) ∷ rest) ≡ read_of (Literal (pos n) k) rest
  unfolding base number
  literal_base n k rest v =
      let word : List ℕ = decimal n ++ integer_word k in
      ap (λ s. base_by s below (Word word ∷ rest)) (number_sign word (literal_word n k v).first)
      ∙ ap (λ (p : (ℤ × IntegerTy) × Toks). read_of (Literal p.0.0 p.0.1) p.1) (literal_reads (pos n) k rest v)

  truth_base : (b : Bool) (rest : Toks) → base below (expr_tokens (Truth b) ++ rest) ≡ read_of (Truth b) rest
  unfolding base word_value words
  truth_base true rest = refl
  truth_base false rest = refl

  none_base : (rest : Toks) → base below (expr_tokens NoFunction ++ rest) ≡ read_of NoFunction rest
  unfolding base word_value words
  none_base rest = refl

  calm_name : (s : Sign) (tokens : Toks) → is_calm s ≡ true → name_by s below tokens ≡ local tokens
  calm_name of.PathMark tokens h = cc
  calm_name of.LeftParenthesis tokens h = cc
  calm_name _ tokens h = refl

  local_base : (x : List ℕ) (rest : Toks) → is_identifier x ≡ true → is_calm (sign_at rest) ≡ true → base below (Word x ∷ rest) ≡ read_of (Read (Local x)) rest
  unfolding base named local
  local_base x rest v calm =
      ap (λ s. base_by s below (Word x ∷ rest)) (name_sign x v) ∙ calm_name (sign_at rest) (Word x ∷ rest) calm

  calm_path : (s : Sign) (tokens : Toks) → is_calm s ≡ true → path_by s below tokens ≡ static_object tokens
  calm_path of.PathMark tokens h = refl
  calm_path of.LeftParenthesis tokens h = cc
  calm_path _ tokens h = refl

  static_base : (m x : List ℕ) (rest : Toks) → is_calm (sign_at rest) ≡ true → base below (spelling.item_path m x ++ rest) ≡ read_of (Read (Static m x)) rest
  unfolding base path static_object words
  static_base m x rest calm = calm_path (sign_at rest) (spelling.item_path m x ++ rest) calm

  call_base : (m x : List ℕ) (args : Exprs) (rest : Toks) → valid_exprs args ≡ true → length (expr_tokens (Call m x args) ++ rest) ≤ suc most →
      base below (expr_tokens (Call m x args) ++ rest) ≡ read_of (Call m x args) rest
  unfolding base path call words marks
  call_base m x args rest v short =
      let l : Toks = spelling.listed (exprs_parts args) in
      let same = paren_same l rest in
      let n1 = ap length same in
      ap (λ (t : Toks). base below (spelling.item_path m x ++ t)) same
      ∙ ap (λ (p : List Expr × Toks). read_of (Call m x (exprs p.0)) (drop 1 p.1)) (args_read args rest v (omega (arith, short, n1)))
      ∙ ap (λ es. read_of (Call m x es) rest) (list_is_exprs args)

  address_base : (p : Place) (rest : Toks) → valid_place p ≡ true → length (expr_tokens (AddressOf p) ++ rest) ≤ suc most →
      base below (expr_tokens (AddressOf p) ++ rest) ≡ read_of (AddressOf p) rest
  unfolding base named core_call core_words address words marks
  address_base p rest v short =
      let same = paren_same (place_tokens p) rest in
      let n1 = ap length same in
      let head : Toks → Toks = λ t. spelling.path_tokens (codes "core" ∷ codes "ptr" ∷ codes "addr_of_mut" ∷ []) ++ Mark (codes "!") ∷ t in
      ap (λ (t : Toks). base below (head t)) same
      ∙ ap (λ (q : Expr × Toks). read_of (AddressOf (place_of q.0)) (drop 1 q.1)) (reads (Read p) (close rest) v refl (omega (arith, short, n1)))

  -- `<T>()` behind its `<`
  null_same : (t rest : Toks) → ((((t ++ []) ++ Close ∷ []) ++ Mark (codes "(") ∷ Mark (codes ")") ∷ []) ++ rest) ≡ t ++ Close ∷ Mark (codes "(") ∷ Mark (codes ")") ∷ rest
  null_same t rest =
      append_assoc ((t ++ []) ++ Close ∷ []) (Mark (codes "(") ∷ Mark (codes ")") ∷ []) rest
      ∙ append_assoc (t ++ []) (Close ∷ []) (Mark (codes "(") ∷ Mark (codes ")") ∷ rest)
      ∙ ap (λ (l : Toks). l ++ Close ∷ Mark (codes "(") ∷ Mark (codes ")") ∷ rest) (append-nil t)

  null_base : (t : Ty) (rest : Toks) → valid_target t ≡ true → base below (expr_tokens (NullPointer t) ++ rest) ≡ read_of (NullPointer t) rest
  unfolding base named core_call core_words null words marks
  null_base t rest v =
      let same = null_same (ty_tokens t) rest in
      let behind : Toks = Close ∷ Mark (codes "(") ∷ Mark (codes ")") ∷ rest in
      let head : Toks → Toks = λ l. spelling.path_tokens (codes "core" ∷ codes "ptr" ∷ codes "null_mut" ∷ []) ++ Mark (codes "::") ∷ Mark (codes "<") ∷ l in
      ap (λ (l : Toks). base below (head l)) same
      ∙ ap (λ (q : Ty × Toks). read_of (NullPointer q.0) (drop 3 q.1)) (types_read (length (ty_tokens t ++ behind)) t behind v (omega arith))

  transmute_same : (a b e rest : Toks) →
      (((a ++ Mark (codes ",") ∷ (b ++ [])) ++ Close ∷ []) ++ Mark (codes "(") ∷ (e ++ Mark (codes ")") ∷ [])) ++ rest
      ≡ a ++ Mark (codes ",") ∷ (b ++ Close ∷ Mark (codes "(") ∷ (e ++ close rest))
  transmute_same a b e rest =
      append_assoc ((a ++ Mark (codes ",") ∷ (b ++ [])) ++ Close ∷ []) (Mark (codes "(") ∷ (e ++ Mark (codes ")") ∷ [])) rest
      ∙ ap (λ (l : Toks). ((a ++ Mark (codes ",") ∷ (b ++ [])) ++ Close ∷ []) ++ Mark (codes "(") ∷ l) (append_assoc e (Mark (codes ")") ∷ []) rest)
      ∙ append_assoc (a ++ Mark (codes ",") ∷ (b ++ [])) (Close ∷ []) (Mark (codes "(") ∷ (e ++ close rest))
      ∙ append_assoc a (Mark (codes ",") ∷ (b ++ [])) (Close ∷ Mark (codes "(") ∷ (e ++ close rest))
      ∙ ap (λ (l : Toks). a ++ Mark (codes ",") ∷ l) (ap (λ (l : Toks). l ++ Close ∷ Mark (codes "(") ∷ (e ++ close rest)) (append-nil b))

  to_reads : (from to : Ty) (e : Expr) (rest : Toks) → valid_target to ≡ true → valid_expr e ≡ true → length (expr_tokens e ++ close rest) ≤ most →
      transmute_to from below (ty_tokens to ++ Close ∷ Mark (codes "(") ∷ (expr_tokens e ++ close rest)) ≡ read_of (Transmute from to e) rest
  unfolding transmute_to marks
  to_reads from to e rest vt ve short =
      let behind : Toks = Close ∷ Mark (codes "(") ∷ (expr_tokens e ++ close rest) in
      ap (λ (q : Ty × Toks). read_of (Transmute from q.0 (below (drop 2 q.1)).0) (drop 1 (below (drop 2 q.1)).1)) (types_read (length (ty_tokens to ++ behind)) to behind vt (omega arith))
      ∙ ap (λ (q : Expr × Toks). read_of (Transmute from to q.0) (drop 1 q.1)) (reads e (close rest) ve refl short)

  transmute_base : (from to : Ty) (e : Expr) (rest : Toks) → valid_target from ≡ true → valid_target to ≡ true → valid_expr e ≡ true →
      length (expr_tokens (Transmute from to e) ++ rest) ≤ suc most → base below (expr_tokens (Transmute from to e) ++ rest) ≡ read_of (Transmute from to e) rest
  unfolding base named core_call core_words transmute words marks
  transmute_base from to e rest vf vt ve short =
      let same = transmute_same (ty_tokens from) (ty_tokens to) (expr_tokens e) rest in
      let inner : Toks = Close ∷ Mark (codes "(") ∷ (expr_tokens e ++ close rest) in
      let behind : Toks = Mark (codes ",") ∷ (ty_tokens to ++ inner) in
      let head : Toks → Toks = λ l. spelling.path_tokens (codes "core" ∷ codes "mem" ∷ codes "transmute" ∷ []) ++ Mark (codes "::") ∷ Mark (codes "<") ∷ l in
      let n1 = ap length same in
      let n2 = length-append (ty_tokens from) behind in
      let n3 = length-append (ty_tokens to) inner in
      ap (λ (l : Toks). base below (head l)) same
      ∙ ap (λ (q : Ty × Toks). transmute_to q.0 below (drop 1 q.1)) (types_read (length (ty_tokens from ++ behind)) from behind vf (omega arith))
      ∙ to_reads from to e rest vt ve (omega (arith, short, n1, n2, n3))

  function_same : (sig rest : Toks) → (sig ++ Mark (codes ")") ∷ []) ++ rest ≡ sig ++ close rest
  function_same sig rest = append_assoc sig (Mark (codes ")") ∷ []) rest

  function_base : (m x : List ℕ) (params : Tys) (r : OptionTy) (rest : Toks) → valid_tys params ≡ true → valid_result r ≡ true →
      base below (expr_tokens (SomeFunction m x params r) ++ rest) ≡ read_of (SomeFunction m x params r) rest
  unfolding base named some_function words marks
  function_base m x params r rest v w =
      let sig : Toks = spelling.signature (tys_parts params) (result_tokens r) in
      let same = function_same sig rest in
      let head : Toks → Toks = λ l. Word (codes "Some") ∷ Mark (codes "(") ∷ (spelling.item_path m x ++ Word (codes "as") ∷ l) in
      let size : ℕ = length (head (sig ++ close rest)) in
      ap (λ (l : Toks). base below (head l)) same
      ∙ ap (λ (q : SignatureTree × Toks). read_of (SomeFunction m x (tys q.0.params) (option_ty q.0.result)) (drop 1 q.1))
      (signature_reads (ty size) size (types_read size) params r (close rest) v w refl (omega arith))
      ∙ ap (λ ps. read_of (SomeFunction m x ps (option_ty (ty_option r))) rest) (list_is_tys params)
      ∙ ap (λ o. read_of (SomeFunction m x params o) rest) (option_back r)

  -- ---- dots

  tails_stop : (e : Expr) (rest : Toks) → is_dot (sign_at rest) ≡ false → Tails e rest (read_of e rest)
  unfolding tails
  tails_stop e rest h zero short = refl
  tails_stop e rest h (suc n) short = cond-false (is_dot (sign_at rest)) _ _ h

  -- one dot, and then the others
  tail_then : (o e : Expr) (name : List ℕ) (tokens rest : Toks) (r : Expr × Toks) → tail o below (dotted name tokens) ≡ read_of e rest → length rest ≤ length tokens →
      Tails e rest r → Tails o (dotted name tokens) r
  unfolding tails marks
  tail_then o e name tokens rest r is shorter then_r zero short = absurd (omega (arith, short))
  tail_then o e name tokens rest r is shorter then_r (suc n) short =
      ap (λ (p : Expr × Toks). tails n p.0 below p.1) is ∙ then_r n (omega (arith, short, shorter))

  argument_reads : (e : Expr) (rest : Toks) → valid_expr e ≡ true → length (expr_tokens e ++ close rest) ≤ most → argument below (expr_tokens e ++ close rest) ≡ read_of e rest
  unfolding argument marks
  argument_reads e rest v short = ap (λ (q : Expr × Toks). read_of q.0 (drop 1 q.1)) (reads e (close rest) v refl short)

  abbrev with_paren : Toks → Toks
  with_paren l = Mark (codes "(") ∷ l

  wrapped_tail : (o arg : Expr) (w : Wrapping) (rest : Toks) → valid_expr arg ≡ true → length (expr_tokens arg ++ close rest) ≤ most →
      tail o below (dotted (wrapping_word w) (with_paren (expr_tokens arg ++ close rest))) ≡ read_of (Wrapped o w arg) rest
  unfolding tail method methods wrapped marks
  wrapped_tail o arg WrappingAdd rest v short = ap (λ (q : Expr × Toks). read_of (Wrapped o WrappingAdd q.0) q.1) (argument_reads arg rest v short)
  wrapped_tail o arg WrappingSub rest v short = ap (λ (q : Expr × Toks). read_of (Wrapped o WrappingSub q.0) q.1) (argument_reads arg rest v short)
  wrapped_tail o arg WrappingMul rest v short = ap (λ (q : Expr × Toks). read_of (Wrapped o WrappingMul q.0) q.1) (argument_reads arg rest v short)

  offset_tail : (o arg : Expr) (rest : Toks) → valid_expr arg ≡ true → length (expr_tokens arg ++ close rest) ≤ most →
      tail o below (dotted (codes "offset") (with_paren (expr_tokens arg ++ close rest))) ≡ read_of (Offset o arg) rest
  unfolding tail method methods moved marks
  offset_tail o arg rest v short = ap (λ (q : Expr × Toks). read_of (Offset o q.0) q.1) (argument_reads arg rest v short)

  offset_from_tail : (o arg : Expr) (rest : Toks) → valid_expr arg ≡ true → length (expr_tokens arg ++ close rest) ≤ most →
      tail o below (dotted (codes "offset_from") (with_paren (expr_tokens arg ++ close rest))) ≡ read_of (OffsetFrom o arg) rest
  unfolding tail method methods measured marks
  offset_from_tail o arg rest v short = ap (λ (q : Expr × Toks). read_of (OffsetFrom o q.0) q.1) (argument_reads arg rest v short)

  plain_tail : (o : Expr) (rest : Toks) →
      (tail o below (dotted (codes "wrapping_neg") (with_paren (close rest))) ≡ read_of (WrappingNeg o) rest)
      × (tail o below (dotted (codes "is_null") (with_paren (close rest))) ≡ read_of (IsNull o) rest)
      × (tail o below (dotted (codes "is_none") (with_paren (close rest))) ≡ read_of (IsNone o) rest)
  unfolding tail method methods marks
  plain_tail o rest = (refl, refl, refl)

  unwrap_tail : (o : Expr) (args : Exprs) (rest : Toks) → valid_exprs args ≡ true → length (spelling.listed (exprs_parts args) ++ close rest) ≤ most →
      tail o below (dotted (codes "unwrap") (with_paren (close (with_paren (spelling.listed (exprs_parts args) ++ close rest))))) ≡ read_of (CallBy o args) rest
  unfolding tail method methods unwrapped marks
  unwrap_tail o args rest v short =
      ap (λ (q : List Expr × Toks). read_of (CallBy o (exprs q.0)) (drop 1 q.1)) (args_read args rest v short)
      ∙ ap (λ es. read_of (CallBy o es) rest) (list_is_exprs args)

  calm_field : (s : Sign) (o : Expr) (tokens : Toks) → is_calm s ≡ true → tail_by s o below tokens ≡ field o tokens
  calm_field of.PathMark o tokens h = refl
  calm_field of.LeftParenthesis o tokens h = cc
  calm_field _ o tokens h = refl

  field_tail : (p : Place) (f : List ℕ) (rest : Toks) → is_calm (sign_at rest) ≡ true → tail (Read p) below (dotted f rest) ≡ read_of (Read (Field p f)) rest
  unfolding tail field
  field_tail p f rest calm = calm_field (sign_at rest) (Read p) (dotted f rest) calm

  -- ---- operands

  place_reads : (p : Place) → valid_place p ≡ true → OperandRead (Read p)
  place_reads (Local x) v rest r calm short then_r = base_then (Read (Local x)) _ rest r (local_base x rest v calm) then_r
  place_reads (Static m x) v rest r calm short then_r = base_then (Read (Static m x)) _ rest r (static_base m x rest calm) then_r
  place_reads (Deref e) v rest r calm short then_r = compound_reads (Read (Deref e)) rest r v short then_r
  place_reads (Field p f) v rest r calm short then_r =
      let parts = and_parts (valid_place p) (is_identifier f) v in
      let same : (op (Read p) ++ dotted f []) ++ rest ≡ op (Read p) ++ dotted f rest = append_assoc (op (Read p)) (dotted f []) rest in
      let n1 = ap length same in
      ap (operand below) same
      ∙ place_reads p parts.0 (dotted f rest) r dot_calm (omega (arith, short, n1))
      (tail_then (Read p) (Read (Field p f)) f rest rest r (field_tail p f rest calm) (omega arith) then_r)

  -- a method with an argument
  method_reads : (o e : Expr) (name : List ℕ) (args rest : Toks) (r : Expr × Toks) → OperandRead o → (length args ≤ most → tail o below (dotted name (with_paren (args ++ close rest))) ≡ read_of e rest) →
      length (spelling.method (op o) name args ++ rest) ≤ suc most → Tails e rest r → operand below (spelling.method (op o) name args ++ rest) ≡ r
  method_reads o e name args rest r reads_o is short then_r =
      let same = method_same (op o) name args rest in
      let n1 = ap length same in
      let behind : Toks = with_paren (args ++ close rest) in
      let n2 = length-append (op o) (dotted name behind) in
      let n3 = length-append args (close rest) in
      ap (operand below) same
      ∙ reads_o (dotted name behind) r dot_calm (omega (arith, short, n1))
      (tail_then o e name behind rest r (is (omega (arith, short, n1, n2, n3))) (omega (arith, n3)) then_r)

  -- the tokens of an argument fit where those of the method do
  arg_short : (o : Expr) (name : List ℕ) (args rest : Toks) → length (spelling.method (op o) name args ++ rest) ≤ suc most → length (args ++ close rest) ≤ most
  arg_short o name args rest short =
      let n1 = ap length (method_same (op o) name args rest) in
      let n2 = length-append (op o) (dotted name (with_paren (args ++ close rest))) in
      omega (arith, short, n1, n2)

  call_by_same : (o : Toks) (l rest : Toks) → (spelling.method o (codes "unwrap") [] ++ spelling.in_parentheses l) ++ rest
      ≡ o ++ dotted (codes "unwrap") (with_paren (close (with_paren (l ++ close rest))))
  call_by_same o l rest =
      append_assoc (spelling.method o (codes "unwrap") []) (spelling.in_parentheses l) rest
      ∙ method_same o (codes "unwrap") [] (spelling.in_parentheses l ++ rest)
      ∙ ap (λ (t : Toks). o ++ dotted (codes "unwrap") (with_paren (close t))) (paren_same l rest)

  call_by_reads : (o : Expr) (args : Exprs) → valid_exprs args ≡ true → OperandRead o → OperandRead (CallBy o args)
  call_by_reads o args v reads_o rest r calm short then_r =
      let l : Toks = spelling.listed (exprs_parts args) in
      let same = call_by_same (op o) l rest in
      let behind : Toks = with_paren (close (with_paren (l ++ close rest))) in
      let n1 = ap length same in
      let n2 = length-append (op o) (dotted (codes "unwrap") behind) in
      let n3 = length-append l (close rest) in
      ap (operand below) same
      ∙ reads_o (dotted (codes "unwrap") behind) r dot_calm (omega (arith, short, n1))
      (tail_then o (CallBy o args) (codes "unwrap") behind rest r (unwrap_tail o args rest v (omega (arith, short, n1, n2))) (omega (arith, n3)) then_r)

  pub operand_reads : (e : Expr) → valid_expr e ≡ true → OperandRead e
  operand_reads (Literal (pos n) k) v rest r calm short then_r = base_then (Literal (pos n) k) _ rest r (literal_base n k rest v) then_r
  operand_reads (Literal (negsuc n) k) v rest r calm short then_r = compound_reads (Literal (negsuc n) k) rest r v short then_r
  operand_reads (Truth b) v rest r calm short then_r = base_then (Truth b) _ rest r (truth_base b rest) then_r
  operand_reads NoFunction v rest r calm short then_r = base_then NoFunction _ rest r (none_base rest) then_r
  operand_reads (Read p) v rest r calm short then_r = place_reads p v rest r calm short then_r
  operand_reads (Call m x args) v rest r calm short then_r =
      base_then (Call m x args) _ rest r (call_base m x args rest (and_parts (valid_path m x) (valid_exprs args) v).1 short) then_r
  operand_reads (CallBy e args) v rest r calm short then_r =
      let parts = and_parts (valid_expr e) (valid_exprs args) v in call_by_reads e args parts.1 (operand_reads e parts.0) rest r calm short then_r
  operand_reads (Wrapped e w arg) v rest r calm short then_r =
      let parts = and_parts (valid_expr e) (valid_expr arg) v in
      method_reads e (Wrapped e w arg) (wrapping_word w) (expr_tokens arg) rest r (operand_reads e parts.0)
      (λ _. wrapped_tail e arg w rest parts.1 (arg_short e (wrapping_word w) (expr_tokens arg) rest short)) short then_r
  operand_reads (WrappingNeg e) v rest r calm short then_r =
      method_reads e (WrappingNeg e) (codes "wrapping_neg") [] rest r (operand_reads e v) (λ _. (plain_tail e rest).0) short then_r
  operand_reads (Offset e arg) v rest r calm short then_r =
      let parts = and_parts (valid_expr e) (valid_expr arg) v in
      method_reads e (Offset e arg) (codes "offset") (expr_tokens arg) rest r (operand_reads e parts.0)
      (λ _. offset_tail e arg rest parts.1 (arg_short e (codes "offset") (expr_tokens arg) rest short)) short then_r
  operand_reads (OffsetFrom e arg) v rest r calm short then_r =
      let parts = and_parts (valid_expr e) (valid_expr arg) v in
      method_reads e (OffsetFrom e arg) (codes "offset_from") (expr_tokens arg) rest r (operand_reads e parts.0)
      (λ _. offset_from_tail e arg rest parts.1 (arg_short e (codes "offset_from") (expr_tokens arg) rest short)) short then_r
  operand_reads (IsNull e) v rest r calm short then_r =
      method_reads e (IsNull e) (codes "is_null") [] rest r (operand_reads e v) (λ _. (plain_tail e rest).1) short then_r
  operand_reads (IsNone e) v rest r calm short then_r =
      method_reads e (IsNone e) (codes "is_none") [] rest r (operand_reads e v) (λ _. (plain_tail e rest).2) short then_r
  operand_reads (AddressOf p) v rest r calm short then_r = base_then (AddressOf p) _ rest r (address_base p rest v short) then_r
  operand_reads (NullPointer t) v rest r calm short then_r = base_then (NullPointer t) _ rest r (null_base t rest v) then_r
  operand_reads (SomeFunction m x params o) v rest r calm short then_r =
      let parts = and_parts (valid_path m x && valid_tys params) (valid_result o) v in
      let first = and_parts (valid_path m x) (valid_tys params) parts.0 in
      base_then (SomeFunction m x params o) _ rest r (function_base m x params o rest first.1 parts.1) then_r
  operand_reads (Transmute from to e) v rest r calm short then_r =
      let parts = and_parts (valid_ty from && valid_ty to) (valid_expr e) v in
      let tys = and_parts (valid_ty from) (valid_ty to) parts.0 in
      base_then (Transmute from to e) _ rest r (transmute_base from to e rest (is_target from tys.0) (is_target to tys.1) parts.1 short) then_r
  operand_reads (Neg e) v rest r calm short then_r = compound_reads (Neg e) rest r v short then_r
  operand_reads (Not e) v rest r calm short then_r = compound_reads (Not e) rest r v short then_r
  operand_reads (Cast e t) v rest r calm short then_r = compound_reads (Cast e t) rest r v short then_r
  operand_reads (Binary left o right) v rest r calm short then_r = compound_reads (Binary left o right) rest r v short then_r
  operand_reads (And left right) v rest r calm short then_r = compound_reads (And left right) rest r v short then_r
  operand_reads (Or left right) v rest r calm short then_r = compound_reads (Or left right) rest r v short then_r
  operand_reads (Choose c a b) v rest r calm short then_r = compound_reads (Choose c a b) rest r v short then_r

  -- ---- expressions

  -- an operand that nothing with a dot stands behind
  whole_operand : (e : Expr) (rest : Toks) → valid_expr e ≡ true → is_calm (sign_at rest) ≡ true → is_dot (sign_at rest) ≡ false → length (op e ++ rest) ≤ suc most →
      operand below (op e ++ rest) ≡ read_of e rest
  whole_operand e rest v calm dot short = operand_reads e v rest (read_of e rest) calm short (tails_stop e rest dot)

  ended_operand : (e : Expr) (rest : Toks) → valid_expr e ≡ true → ends (sign_at rest) ≡ true → length (op e ++ rest) ≤ suc most → operand below (op e ++ rest) ≡ read_of e rest
  ended_operand e rest v h short = whole_operand e rest v (ends_calm (sign_at rest) h) (ends_no_dot (sign_at rest) h) short

  between_reads : (e : Expr) (rest : Toks) → valid_expr e ≡ true → ends (sign_at rest) ≡ true → length (op e ++ rest) ≤ suc most → expr_from below (op e ++ rest) ≡ read_of e rest
  unfolding expr_from between
  between_reads e rest v h short =
      between_by (sign_at (op e ++ rest)) below (op e ++ rest) (op_opens e rest v)
      ∙ ap (λ (q : Expr × Toks). continuation q.0 below q.1) (ended_operand e rest v h short)
      ∙ stops e below rest h

  -- what stands behind the first operand
  continued : (left e : Expr) (tokens rest : Toks) → valid_expr left ≡ true → is_calm (sign_at tokens) ≡ true → is_dot (sign_at tokens) ≡ false →
      length (op left ++ tokens) ≤ suc most → continuation left below tokens ≡ read_of e rest → expr_from below (op left ++ tokens) ≡ read_of e rest
  unfolding expr_from between
  continued left e tokens rest v calm dot short is =
      between_by (sign_at (op left ++ tokens)) below (op left ++ tokens) (op_opens left tokens v)
      ∙ ap (λ (q : Expr × Toks). continuation q.0 below q.1) (whole_operand left tokens v calm dot short)
      ∙ is

  cast_continues : (left : Expr) (t : Ty) (rest : Toks) → valid_target t ≡ true → continuation left below (Word (codes "as") ∷ (ty_tokens t ++ rest)) ≡ read_of (Cast left t) rest
  unfolding continuation cast words
  cast_continues left t rest v = ap (λ (q : Ty × Toks). read_of (Cast left q.0) q.1) (types_read (length (ty_tokens t ++ rest)) t rest v (omega arith))

  and_continues : (left right : Expr) (rest : Toks) → valid_expr right ≡ true → ends (sign_at rest) ≡ true → length (op right ++ rest) ≤ suc most →
      continuation left below (Mark (codes "&&") ∷ (op right ++ rest)) ≡ read_of (And left right) rest
  unfolding continuation and_right marks
  and_continues left right rest v h short = ap (λ (q : Expr × Toks). read_of (And left q.0) q.1) (ended_operand right rest v h short)

  or_continues : (left right : Expr) (rest : Toks) → valid_expr right ≡ true → ends (sign_at rest) ≡ true → length (op right ++ rest) ≤ suc most →
      continuation left below (Mark (codes "||") ∷ (op right ++ rest)) ≡ read_of (Or left right) rest
  unfolding continuation or_right marks
  or_continues left right rest v h short = ap (λ (q : Expr × Toks). read_of (Or left q.0) q.1) (ended_operand right rest v h short)

  operated_reads : (left right : Expr) (o : Operator) (rest : Toks) → valid_expr right ≡ true → ends (sign_at rest) ≡ true → length (op right ++ rest) ≤ suc most →
      operated left below (Mark (operator_mark o) ∷ (op right ++ rest)) ≡ read_of (Binary left o right) rest
  unfolding operated
  operated_reads left right o rest v h short =
      ap (λ (q : Expr × Toks). read_of (Binary left (operator_of (operator_mark o)) q.0) q.1) (ended_operand right rest v h short)
      ∙ ap (λ k. read_of (Binary left k right) rest) (operator_back o)

  binary_continues : (left : Expr) (o : Operator) (tokens : Toks) → continuation left below (Mark (operator_mark o) ∷ tokens) ≡ operated left below (Mark (operator_mark o) ∷ tokens)
  unfolding continuation marks
  binary_continues left Add tokens = refl
  binary_continues left Sub tokens = refl
  binary_continues left Mul tokens = refl
  binary_continues left Div tokens = refl
  binary_continues left Rem tokens = refl
  binary_continues left BitAnd tokens = refl
  binary_continues left BitOr tokens = refl
  binary_continues left BitXor tokens = refl
  binary_continues left Shl tokens = refl
  binary_continues left Shr tokens = refl
  binary_continues left Equal tokens = refl
  binary_continues left NotEqual tokens = refl
  binary_continues left Less tokens = refl
  binary_continues left LessEqual tokens = refl
  binary_continues left Greater tokens = refl
  binary_continues left GreaterEqual tokens = refl

  -- a token between two operands
  infix_reads : (left e : Expr) (t : RToken) (right rest : Toks) → valid_expr left ≡ true → is_calm (sign t) ≡ true → is_dot (sign t) ≡ false →
      length ((op left ++ t ∷ right) ++ rest) ≤ suc most → (length (right ++ rest) ≤ most → continuation left below (t ∷ (right ++ rest)) ≡ read_of e rest) →
      expr_from below ((op left ++ t ∷ right) ++ rest) ≡ read_of e rest
  infix_reads left e t right rest v calm dot short is =
      let same = append_assoc (op left) (t ∷ right) rest in
      let n1 = ap length same in
      let n2 = length-append (op left) (t ∷ (right ++ rest)) in
      ap (expr_from below) same ∙ continued left e (t ∷ (right ++ rest)) rest v calm dot (omega (arith, short, n1)) (is (omega (arith, short, n1, n2)))

  not_reads : (e : Expr) (rest : Toks) → valid_expr e ≡ true → ends (sign_at rest) ≡ true → length (op e ++ rest) ≤ most → expr_from below (expr_tokens (Not e) ++ rest) ≡ read_of (Not e) rest
  unfolding expr_from inverted marks
  not_reads e rest v h short = ap (λ (q : Expr × Toks). read_of (Not q.0) q.1) (ended_operand e rest v h (omega (arith, short)))

  deref_reads : (e : Expr) (rest : Toks) → valid_expr e ≡ true → ends (sign_at rest) ≡ true → length (op e ++ rest) ≤ most →
      expr_from below (expr_tokens (Read (Deref e)) ++ rest) ≡ read_of (Read (Deref e)) rest
  unfolding expr_from pointed marks
  deref_reads e rest v h short = ap (λ (q : Expr × Toks). read_of (Read (Deref q.0)) q.1) (ended_operand e rest v h (omega (arith, short)))

  neg_reads : (e : Expr) (rest : Toks) → valid_expr e ≡ true → is_literal e ≡ false → ends (sign_at rest) ≡ true → length (op e ++ rest) ≤ most →
      expr_from below (expr_tokens (Neg e) ++ rest) ≡ read_of (Neg e) rest
  unfolding expr_from minus opposite marks
  neg_reads e rest v l h short =
      cond-false (is_lone (Mark (codes "-") ∷ (op e ++ rest))) _ _ (op_alone e rest v l)
      ∙ ap (λ (q : Expr × Toks). read_of (Neg q.0) q.1) (ended_operand e rest v h (omega (arith, short)))

  negative_lone : (n : ℕ) (k : IntegerTy) (rest : Toks) → is_value (negsuc n) ≡ true → ends (sign_at rest) ≡ true →
      is_lone (Mark (codes "-") ∷ Word (decimal (suc n) ++ integer_word k) ∷ rest) ≡ true
  negative_lone n k rest v h =
      ap (λ s. is_number s && not (is_dot (sign_at rest))) (number_sign (decimal (suc n) ++ integer_word k) (literal_word (suc n) k v).first)
      ∙ ap not (ends_no_dot (sign_at rest) h)

  negative_reads : (n : ℕ) (k : IntegerTy) (rest : Toks) → is_value (negsuc n) ≡ true → ends (sign_at rest) ≡ true →
      expr_from below (expr_tokens (Literal (negsuc n) k) ++ rest) ≡ read_of (Literal (negsuc n) k) rest
  unfolding expr_from minus number marks
  negative_reads n k rest v h =
      cond-true (is_lone (Mark (codes "-") ∷ Word (decimal (suc n) ++ integer_word k) ∷ rest)) _ _ (negative_lone n k rest v h)
      ∙ ap (λ (p : (ℤ × IntegerTy) × Toks). read_of (Literal p.0.0 p.0.1) p.1) (literal_reads (negsuc n) k rest v)

  choose_same : (c a b rest : Toks) →
      (c ++ ((spelling.in_braces a) ++ Word (codes "else") ∷ spelling.in_braces b)) ++ rest
      ≡ c ++ Mark (codes "{") ∷ (a ++ Mark (codes "}") ∷ Word (codes "else") ∷ Mark (codes "{") ∷ (b ++ Mark (codes "}") ∷ rest))
  choose_same c a b rest =
      append_assoc c (spelling.in_braces a ++ Word (codes "else") ∷ spelling.in_braces b) rest
      ∙ ap (λ (t : Toks). c ++ Mark (codes "{") ∷ t)
      (append_assoc (a ++ Mark (codes "}") ∷ []) (Word (codes "else") ∷ spelling.in_braces b) rest
      ∙ append_assoc a (Mark (codes "}") ∷ []) (Word (codes "else") ∷ spelling.in_braces b ++ rest)
      ∙ ap (λ (t : Toks). a ++ Mark (codes "}") ∷ Word (codes "else") ∷ Mark (codes "{") ∷ t) (append_assoc b (Mark (codes "}") ∷ []) rest))

  choose_from_reads : (c a b : Expr) (rest : Toks) → valid_expr a ≡ true → valid_expr b ≡ true →
      length (expr_tokens a ++ Mark (codes "}") ∷ Word (codes "else") ∷ Mark (codes "{") ∷ (expr_tokens b ++ Mark (codes "}") ∷ rest)) ≤ most →
      choose_from c below (expr_tokens a ++ Mark (codes "}") ∷ Word (codes "else") ∷ Mark (codes "{") ∷ (expr_tokens b ++ Mark (codes "}") ∷ rest)) ≡ read_of (Choose c a b) rest
  unfolding choose_from marks
  choose_from_reads c a b rest va vb short =
      let inner : Toks = Mark (codes "}") ∷ Word (codes "else") ∷ Mark (codes "{") ∷ (expr_tokens b ++ Mark (codes "}") ∷ rest) in
      let n1 = length-append (expr_tokens a) inner in
      ap (λ (q : Expr × Toks). read_of (Choose c q.0 (below (drop 3 q.1)).0) (drop 1 (below (drop 3 q.1)).1)) (reads a inner va refl short)
      ∙ ap (λ (q : Expr × Toks). read_of (Choose c a q.0) (drop 1 q.1)) (reads b (Mark (codes "}") ∷ rest) vb refl (omega (arith, short, n1)))

  choose_reads : (c a b : Expr) (rest : Toks) → valid_expr c ≡ true → valid_expr a ≡ true → valid_expr b ≡ true → length (expr_tokens (Choose c a b) ++ rest) ≤ suc most →
      expr_from below (expr_tokens (Choose c a b) ++ rest) ≡ read_of (Choose c a b) rest
  unfolding expr_from choose words marks
  choose_reads c a b rest vc va vb short =
      let same = choose_same (expr_tokens c) (expr_tokens a) (expr_tokens b) rest in
      let inner : Toks = expr_tokens a ++ Mark (codes "}") ∷ Word (codes "else") ∷ Mark (codes "{") ∷ (expr_tokens b ++ Mark (codes "}") ∷ rest) in
      let n1 = ap length same in
      let n2 = length-append (expr_tokens c) (Mark (codes "{") ∷ inner) in
      ap (λ (t : Toks). expr_from below (Word (codes "if") ∷ t)) same
      ∙ ap (λ (q : Expr × Toks). choose_from q.0 below (drop 1 q.1)) (reads c (Mark (codes "{") ∷ inner) vc refl (omega (arith, short, n1)))
      ∙ choose_from_reads c a b rest va vb (omega (arith, short, n1, n2))

  pub from_reads : ExprRead (expr_from below) (suc most)
  from_reads (Literal (pos n) k) rest v h short = between_reads (Literal (pos n) k) rest v h short
  from_reads (Literal (negsuc n) k) rest v h short = negative_reads n k rest v h
  from_reads (Truth b) rest v h short = between_reads (Truth b) rest v h short
  from_reads NoFunction rest v h short = between_reads NoFunction rest v h short
  from_reads (Read (Local x)) rest v h short = between_reads (Read (Local x)) rest v h short
  from_reads (Read (Static m x)) rest v h short = between_reads (Read (Static m x)) rest v h short
  from_reads (Read (Deref e)) rest v h short = deref_reads e rest v h (omega (arith, short))
  from_reads (Read (Field p f)) rest v h short = between_reads (Read (Field p f)) rest v h short
  from_reads (Call m x args) rest v h short = between_reads (Call m x args) rest v h short
  from_reads (CallBy e args) rest v h short = between_reads (CallBy e args) rest v h short
  from_reads (Wrapped e w arg) rest v h short = between_reads (Wrapped e w arg) rest v h short
  from_reads (WrappingNeg e) rest v h short = between_reads (WrappingNeg e) rest v h short
  from_reads (Offset e arg) rest v h short = between_reads (Offset e arg) rest v h short
  from_reads (OffsetFrom e arg) rest v h short = between_reads (OffsetFrom e arg) rest v h short
  from_reads (IsNull e) rest v h short = between_reads (IsNull e) rest v h short
  from_reads (IsNone e) rest v h short = between_reads (IsNone e) rest v h short
  from_reads (AddressOf p) rest v h short = between_reads (AddressOf p) rest v h short
  from_reads (NullPointer t) rest v h short = between_reads (NullPointer t) rest v h short
  from_reads (SomeFunction m x params o) rest v h short = between_reads (SomeFunction m x params o) rest v h short
  from_reads (Transmute from to e) rest v h short = between_reads (Transmute from to e) rest v h short
  from_reads (Neg e) rest v h short =
      let parts = and_parts (not (is_literal e)) (valid_expr e) v in neg_reads e rest parts.1 (not_true (is_literal e) parts.0) h (omega (arith, short))
  from_reads (Not e) rest v h short = not_reads e rest v h (omega (arith, short))
  from_reads (Cast e t) rest v h short =
      let parts = and_parts (valid_expr e) (valid_ty t) v in
      infix_reads e (Cast e t) (Word (codes "as")) (ty_tokens t) rest parts.0 as_calm.0 as_calm.1 short (λ _. cast_continues e t rest (is_target t parts.1))
  from_reads (Binary left o right) rest v h short =
      let parts = and_parts (valid_expr left) (valid_expr right) v in
      infix_reads left (Binary left o right) (Mark (operator_mark o)) (op right) rest parts.0 (operator_calm o).0 (operator_calm o).1 short
      (λ s. binary_continues left o (op right ++ rest) ∙ operated_reads left right o rest parts.1 h (omega (arith, s)))
  from_reads (And left right) rest v h short =
      let parts = and_parts (valid_expr left) (valid_expr right) v in
      infix_reads left (And left right) (Mark (codes "&&")) (op right) rest parts.0 lazy_calm.0 lazy_calm.1 short (λ s. and_continues left right rest parts.1 h (omega (arith, s)))
  from_reads (Or left right) rest v h short =
      let parts = and_parts (valid_expr left) (valid_expr right) v in
      infix_reads left (Or left right) (Mark (codes "||")) (op right) rest parts.0 lazy_calm.2 lazy_calm.3 short (λ s. or_continues left right rest parts.1 h (omega (arith, s)))
  from_reads (Choose c a b) rest v h short =
      let parts = and_parts (valid_expr c && valid_expr a) (valid_expr b) v in
      let first = and_parts (valid_expr c) (valid_expr a) parts.0 in
      choose_reads c a b rest first.0 first.1 parts.1 short

pub exprs_read : (levels : ℕ) → ExprRead (expr levels) levels
unfolding expr
exprs_read zero e rest v h short = let a = length-append (expr_tokens e) rest in let b = expr_some e in absurd (omega (arith, short, a, b))
exprs_read (suc levels) e rest v h short = from_reads (expr levels) levels (exprs_read levels) e rest v h short
