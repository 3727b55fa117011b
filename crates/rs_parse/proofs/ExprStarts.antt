-- Where expressions of a written crate begin and end in its tokens: what may stand behind one, and with which signs it begins.
use Rattle.std.proofs.Common.{◌≡◌, ℕ, suc, ◌≤◌, ℤ, pos, negsuc, Bool, true, false, not, ◌&&◌, List, [], ◌∷◌, ◌++◌, map, length, codes, refl, sym, ap, subst, ◌∙◌, arith, append_assoc, length-append}
use Rattle.std.specs.Fmt.{decimal}
use Rattle.std.specs.List.{list_all}
use Rattle.std.proofs.lemmas.Bool.{and_parts, cond-true}
use Rattle.rs_expr.specs.Exprs.{is_dot, continuation, continuation_by, between, is_lone, is_number, expr_by}
use Rattle.rs_expr.specs.Numbers.{literal, literal_by, suffix_of, integer_of, negated}
use Rattle.rs_expr.specs.Reading.{Toks, Reader, read_of, ends_list}
use Rattle.rs_expr.specs.Signs.{sign_at, marks, words, word_sign, entry_of, begins_with_digit}
use Rattle.rs_expr.specs.declared.sign.Sign.{Sign}
use Rattle.rs_expr.specs.declared.sign.Sign.TheVariants as of
use Rattle.rs_text.specs.Forms.{is_compound, is_literal}
use Rattle.rs_text.specs.Names.{is_identifier}
use Rattle.rs_text.specs.Spelling.{place_tokens, expr_tokens, exprs_parts, ty_tokens, tys_parts, result_tokens}
use Rattle.rs_text.specs.Spelling as spelling
use Rattle.rs_text.specs.Tokens.{RToken, Word, Mark}
use Rattle.rs_text.specs.Tree.{Place, Local, Static, Deref, Field, Expr, Literal, Truth, NoFunction, Read, Call, CallBy, Wrapped, WrappingNeg, Offset, OffsetFrom, IsNull, IsNone, AddressOf, NullPointer, SomeFunction, Transmute, Neg, Not, Cast, Binary, And, Or, Choose, Exprs, no_exprs, more_exprs, exprs}
use Rattle.rs_text.specs.Valid.{valid_place, valid_expr, valid_exprs, valid_ty, is_value}
use Rattle.rs_text.specs.Words.{integer_word}
use Rattle.rs_text.specs.declared.integer.IntegerTy.{IntegerTy}
use Rattle.rs_parse.proofs.Digits.{literal_word}
use Rattle.rs_parse.proofs.NameSigns.{name_sign}

-- ---- what may stand behind

-- what ends an expression
abbrev pub ends : Sign → Bool
ends of.RightParenthesis = true
ends of.Comma = true
ends of.Semicolon = true
ends of.LeftBrace = true
ends of.RightBrace = true
ends of.Equal = true
ends _ = false

-- what a name may stand before
abbrev pub is_calm : Sign → Bool
is_calm of.PathMark = false
is_calm of.LeftParenthesis = false
is_calm _ = true

pub ends_calm : (s : Sign) → ends s ≡ true → is_calm s ≡ true
ends_calm of.PathMark h = cc
ends_calm of.LeftParenthesis h = cc
ends_calm _ h = refl

pub ends_no_dot : (s : Sign) → ends s ≡ true → is_dot s ≡ false
ends_no_dot of.Dot h = cc
ends_no_dot _ h = refl

stops_by : (s : Sign) (left : Expr) (below : Reader Expr) (tokens : Toks) → ends s ≡ true → continuation_by s left below tokens ≡ read_of left tokens
stops_by of.As left below tokens h = cc
stops_by of.AndAnd left below tokens h = cc
stops_by of.OrOr left below tokens h = cc
stops_by of.Star left below tokens h = cc
stops_by of.Minus left below tokens h = cc
stops_by of.OtherMark left below tokens h = cc
stops_by _ left below tokens h = refl

pub stops : (left : Expr) (below : Reader Expr) (tokens : Toks) → ends (sign_at tokens) ≡ true → continuation left below tokens ≡ read_of left tokens
unfolding continuation
stops left below tokens h = stops_by (sign_at tokens) left below tokens h

-- what an operand begins with
abbrev pub opens : Sign → Bool
opens of.Number = true
opens of.Name = true
opens of.LeftParenthesis = true
opens of.Crate = true
opens of.True = true
opens of.False = true
opens of.NoneWord = true
opens _ = false

pub between_by : (s : Sign) (below : Reader Expr) (tokens : Toks) → opens s ≡ true → expr_by s below tokens ≡ between below tokens
between_by of.If below tokens h = cc
between_by of.Minus below tokens h = cc
between_by of.Bang below tokens h = cc
between_by of.Star below tokens h = cc
between_by _ below tokens h = refl

-- ---- lists of expressions

abbrev pub expr_list : Exprs → List Expr
expr_list no_exprs = []
expr_list (more_exprs e es) = e ∷ expr_list es

pub list_is_exprs : (es : Exprs) → exprs (expr_list es) ≡ es
list_is_exprs no_exprs = refl
list_is_exprs (more_exprs e es) = ap (more_exprs e) (list_is_exprs es)

pub expr_parts : (es : Exprs) → exprs_parts es ≡ map expr_tokens (expr_list es)
expr_parts no_exprs = refl
expr_parts (more_exprs e es) = ap (λ l. expr_tokens e ∷ l) (expr_parts es)

pub exprs_valid : (es : Exprs) → valid_exprs es ≡ true → list_all valid_expr (expr_list es) ≡ true
exprs_valid no_exprs h = refl
exprs_valid (more_exprs e es) h =
    let parts = and_parts (valid_expr e) (valid_exprs es) h in
    ap (λ b. b && list_all valid_expr (expr_list es)) parts.0 ∙ exprs_valid es parts.1

-- ---- what an expression begins with

abbrev pub op : Expr → Toks
op e = spelling.operand (is_compound e) (expr_tokens e)

pub number_sign : (word : List ℕ) → begins_with_digit word ≡ true → word_sign word ≡ of.Number
number_sign word h = cond-true (begins_with_digit word) of.Number (entry_of words word of.Name) h

number_opens : (n : ℕ) (k : IntegerTy) → is_value (pos n) ≡ true → opens (word_sign (decimal n ++ integer_word k)) ≡ true
number_opens n k v = ap opens (number_sign (decimal n ++ integer_word k) (literal_word n k v).first)

-- in front of what stands behind an operand
pub front : (a b rest : Toks) (P : Toks → Type 0) → P (a ++ (b ++ rest)) → P ((a ++ b) ++ rest)
front a b rest P h = subst P (sym (append_assoc a b rest)) h

abbrev Opens : Toks → Type 0
Opens tokens = opens (sign_at tokens) ≡ true

-- each operand begins so
place_opens : (p : Place) (rest : Toks) → valid_place p ≡ true → Opens (op (Read p) ++ rest)
unfolding words marks
place_opens (Local x) rest v = ap opens (name_sign x v)
place_opens (Static m x) rest v = refl
place_opens (Deref e) rest v = refl
place_opens (Field p f) rest v =
    front (op (Read p)) (Mark (codes ".") ∷ Word f ∷ []) rest Opens (place_opens p (Mark (codes ".") ∷ Word f ∷ rest) (and_parts (valid_place p) (is_identifier f) v).0)

pub op_opens : (e : Expr) (rest : Toks) → valid_expr e ≡ true → Opens (op e ++ rest)
unfolding words marks
op_opens (Literal (pos n) k) rest v = number_opens n k v
op_opens (Literal (negsuc n) k) rest v = refl
op_opens (Truth true) rest v = refl
op_opens (Truth false) rest v = refl
op_opens NoFunction rest v = refl
op_opens (Read p) rest v = place_opens p rest v
op_opens (Call m x args) rest v = refl
op_opens (CallBy e args) rest v =
    front (spelling.method (op e) (codes "unwrap") []) (spelling.in_parentheses (spelling.listed (exprs_parts args))) rest Opens
    (front (op e) _ _ Opens (op_opens e _ (and_parts (valid_expr e) (valid_exprs args) v).0))
op_opens (Wrapped e o arg) rest v = front (op e) _ rest Opens (op_opens e _ (and_parts (valid_expr e) (valid_expr arg) v).0)
op_opens (WrappingNeg e) rest v = front (op e) _ rest Opens (op_opens e _ v)
op_opens (Offset e arg) rest v = front (op e) _ rest Opens (op_opens e _ (and_parts (valid_expr e) (valid_expr arg) v).0)
op_opens (OffsetFrom e arg) rest v = front (op e) _ rest Opens (op_opens e _ (and_parts (valid_expr e) (valid_expr arg) v).0)
op_opens (IsNull e) rest v = front (op e) _ rest Opens (op_opens e _ v)
op_opens (IsNone e) rest v = front (op e) _ rest Opens (op_opens e _ v)
op_opens (AddressOf p) rest v = refl
op_opens (NullPointer t) rest v = refl
op_opens (SomeFunction m x params r) rest v = refl
op_opens (Transmute from to e) rest v = refl
op_opens (Neg e) rest v = refl
op_opens (Not e) rest v = refl
op_opens (Cast e t) rest v = refl
op_opens (Binary left o right) rest v = refl
op_opens (And left right) rest v = refl
op_opens (Or left right) rest v = refl
op_opens (Choose c a b) rest v = refl

-- a literal stands alone nowhere in an operand that isn't one
abbrev Alone : Toks → Type 0
Alone tokens = is_lone (Mark (codes "-") ∷ tokens) ≡ false

name_lone : (x : List ℕ) (rest : Toks) → word_sign x ≡ of.Name → Alone (Word x ∷ rest)
name_lone x rest h = ap (λ s. is_number s && not (is_dot (sign_at rest))) h

before_dot : (word : List ℕ) (tokens : Toks) → is_dot (sign_at tokens) ≡ true → Alone (Word word ∷ tokens)
before_dot word tokens h = no_and (is_number (word_sign word)) (is_dot (sign_at tokens)) h
  where
    no_and : (a b : Bool) → b ≡ true → (a && not b) ≡ false
    no_and true true h = refl
    no_and true false h = cc
    no_and false b h = refl

place_alone : (p : Place) (rest : Toks) → valid_place p ≡ true → Alone (op (Read p) ++ rest)
unfolding words marks
place_alone (Local x) rest v = name_lone x rest (name_sign x v)
place_alone (Static m x) rest v = refl
place_alone (Deref e) rest v = refl
place_alone (Field p f) rest v =
    front (op (Read p)) (Mark (codes ".") ∷ Word f ∷ []) rest Alone (place_alone p (Mark (codes ".") ∷ Word f ∷ rest) (and_parts (valid_place p) (is_identifier f) v).0)

abbrev pub dotted : List ℕ → Toks → Toks
dotted name tokens = Mark (codes ".") ∷ Word name ∷ tokens

literal_dots : (e : Expr) (name : List ℕ) (rest : Toks) → is_literal e ≡ true → valid_expr e ≡ true → Alone (op e ++ dotted name rest)
unfolding marks
literal_dots (Literal (pos n) k) name rest h v = before_dot (decimal n ++ integer_word k) (dotted name rest) refl
literal_dots (Literal (negsuc n) k) name rest h v = refl
literal_dots (Truth b) name rest h v = cc
literal_dots NoFunction name rest h v = cc
literal_dots (Read p) name rest h v = cc
literal_dots (Call m x args) name rest h v = cc
literal_dots (CallBy e args) name rest h v = cc
literal_dots (Wrapped e o arg) name rest h v = cc
literal_dots (WrappingNeg e) name rest h v = cc
literal_dots (Offset e arg) name rest h v = cc
literal_dots (OffsetFrom e arg) name rest h v = cc
literal_dots (IsNull e) name rest h v = cc
literal_dots (IsNone e) name rest h v = cc
literal_dots (AddressOf p) name rest h v = cc
literal_dots (NullPointer t) name rest h v = cc
literal_dots (SomeFunction m x params r) name rest h v = cc
literal_dots (Transmute from to e) name rest h v = cc
literal_dots (Neg e) name rest h v = cc
literal_dots (Not e) name rest h v = cc
literal_dots (Cast e t) name rest h v = cc
literal_dots (Binary left o right) name rest h v = cc
literal_dots (And left right) name rest h v = cc
literal_dots (Or left right) name rest h v = cc
literal_dots (Choose c a b) name rest h v = cc

by_literal : (e : Expr) (b : Bool) (name : List ℕ) (rest : Toks) → is_literal e ≡ b → valid_expr e ≡ true →
    ((tokens : Toks) → is_literal e ≡ false → Alone (op e ++ tokens)) → Alone (op e ++ dotted name rest)
by_literal e true name rest h v others = literal_dots e name rest h v
by_literal e false name rest h v others = others (dotted name rest) h

pub op_alone : (e : Expr) (rest : Toks) → valid_expr e ≡ true → is_literal e ≡ false → Alone (op e ++ rest)
unfolding words marks
op_alone (Literal n k) rest v h = cc
op_alone (Truth true) rest v h = refl
op_alone (Truth false) rest v h = refl
op_alone NoFunction rest v h = refl
op_alone (Read p) rest v h = place_alone p rest v
op_alone (Call m x args) rest v h = refl
op_alone (CallBy e args) rest v h =
    let ve = (and_parts (valid_expr e) (valid_exprs args) v).0 in
    front (spelling.method (op e) (codes "unwrap") []) (spelling.in_parentheses (spelling.listed (exprs_parts args))) rest Alone
    (front (op e) _ _ Alone (by_literal e (is_literal e) _ _ refl ve (λ tokens l. op_alone e tokens ve l)))
op_alone (Wrapped e o arg) rest v h =
    let ve = (and_parts (valid_expr e) (valid_expr arg) v).0 in front (op e) _ rest Alone (by_literal e (is_literal e) _ _ refl ve (λ tokens l. op_alone e tokens ve l))
op_alone (WrappingNeg e) rest v h = front (op e) _ rest Alone (by_literal e (is_literal e) _ _ refl v (λ tokens l. op_alone e tokens v l))
op_alone (Offset e arg) rest v h =
    let ve = (and_parts (valid_expr e) (valid_expr arg) v).0 in front (op e) _ rest Alone (by_literal e (is_literal e) _ _ refl ve (λ tokens l. op_alone e tokens ve l))
op_alone (OffsetFrom e arg) rest v h =
    let ve = (and_parts (valid_expr e) (valid_expr arg) v).0 in front (op e) _ rest Alone (by_literal e (is_literal e) _ _ refl ve (λ tokens l. op_alone e tokens ve l))
op_alone (IsNull e) rest v h = front (op e) _ rest Alone (by_literal e (is_literal e) _ _ refl v (λ tokens l. op_alone e tokens v l))
op_alone (IsNone e) rest v h = front (op e) _ rest Alone (by_literal e (is_literal e) _ _ refl v (λ tokens l. op_alone e tokens v l))
op_alone (AddressOf p) rest v h = refl
op_alone (NullPointer t) rest v h = refl
op_alone (SomeFunction m x params r) rest v h = refl
op_alone (Transmute from to e) rest v h = refl
op_alone (Neg e) rest v h = refl
op_alone (Not e) rest v h = refl
op_alone (Cast e t) rest v h = refl
op_alone (Binary left o right) rest v h = refl
op_alone (And left right) rest v h = refl
op_alone (Or left right) rest v h = refl
op_alone (Choose c a b) rest v h = refl

-- ---- literals

pub literal_reads : (n : ℤ) (k : IntegerTy) (rest : Toks) → is_value n ≡ true → literal (spelling.literal_tokens n k ++ rest) ≡ read_of (n, k) rest
unfolding literal marks
literal_reads (pos n) k rest v =
    let w = literal_word n k v in
    let word : List ℕ = decimal n ++ integer_word k in
    ap (λ s. literal_by s (Word word ∷ rest)) (number_sign word w.first)
    ∙ ap (λ m. read_of (pos m, integer_of (suffix_of word)) rest) w.value ∙ ap (λ t. read_of (pos n, t) rest) w.suffix
literal_reads (negsuc n) k rest v =
    let w = literal_word (suc n) k v in
    let word : List ℕ = decimal (suc n) ++ integer_word k in
    ap (λ m. read_of (negated m, integer_of (suffix_of word)) rest) w.value ∙ ap (λ t. read_of (negsuc n, t) rest) w.suffix

-- ---- where an expression begins

-- what an expression begins with ends no list and no block
abbrev pub begins : Sign → Bool
begins of.End = false
begins of.RightParenthesis = false
begins of.Else = false
begins of.RightBrace = false
begins of.Semicolon = false
begins of.Let = false
begins _ = true

opens_begin : (s : Sign) → opens s ≡ true → begins s ≡ true
opens_begin of.End h = cc
opens_begin of.RightParenthesis h = cc
opens_begin of.Else h = cc
opens_begin of.RightBrace h = cc
opens_begin of.Semicolon h = cc
opens_begin of.Let h = cc
opens_begin _ h = refl

begins_no_end : (s : Sign) → begins s ≡ true → ends_list s ≡ false
begins_no_end of.End h = cc
begins_no_end of.RightParenthesis h = cc
begins_no_end _ h = refl

abbrev Begins : Toks → Type 0
Begins tokens = begins (sign_at tokens) ≡ true

op_begins : (e : Expr) (rest : Toks) → valid_expr e ≡ true → Begins (op e ++ rest)
op_begins e rest v = opens_begin (sign_at (op e ++ rest)) (op_opens e rest v)

pub expr_begins : (e : Expr) (rest : Toks) → valid_expr e ≡ true → Begins (expr_tokens e ++ rest)
unfolding words marks
expr_begins (Literal (pos n) k) rest v = op_begins (Literal (pos n) k) rest v
expr_begins (Literal (negsuc n) k) rest v = refl
expr_begins (Truth b) rest v = op_begins (Truth b) rest v
expr_begins NoFunction rest v = refl
expr_begins (Read (Local x)) rest v = op_begins (Read (Local x)) rest v
expr_begins (Read (Static m x)) rest v = refl
expr_begins (Read (Deref e)) rest v = refl
expr_begins (Read (Field p f)) rest v = op_begins (Read (Field p f)) rest v
expr_begins (Call m x args) rest v = refl
expr_begins (CallBy e args) rest v = op_begins (CallBy e args) rest v
expr_begins (Wrapped e o arg) rest v = op_begins (Wrapped e o arg) rest v
expr_begins (WrappingNeg e) rest v = op_begins (WrappingNeg e) rest v
expr_begins (Offset e arg) rest v = op_begins (Offset e arg) rest v
expr_begins (OffsetFrom e arg) rest v = op_begins (OffsetFrom e arg) rest v
expr_begins (IsNull e) rest v = op_begins (IsNull e) rest v
expr_begins (IsNone e) rest v = op_begins (IsNone e) rest v
expr_begins (AddressOf p) rest v = refl
expr_begins (NullPointer t) rest v = refl
expr_begins (SomeFunction m x params r) rest v = refl
expr_begins (Transmute from to e) rest v = refl
expr_begins (Neg e) rest v = refl
expr_begins (Not e) rest v = refl
expr_begins (Cast e t) rest v = front (op e) _ rest Begins (op_begins e _ (and_parts (valid_expr e) (valid_ty t) v).0)
expr_begins (Binary left o right) rest v = front (op left) _ rest Begins (op_begins left _ (and_parts (valid_expr left) (valid_expr right) v).0)
expr_begins (And left right) rest v = front (op left) _ rest Begins (op_begins left _ (and_parts (valid_expr left) (valid_expr right) v).0)
expr_begins (Or left right) rest v = front (op left) _ rest Begins (op_begins left _ (and_parts (valid_expr left) (valid_expr right) v).0)
expr_begins (Choose c a b) rest v = refl

pub starts_by : (e : Expr) (rest : Toks) → valid_expr e ≡ true → ends_list (sign_at (expr_tokens e ++ rest)) ≡ false
starts_by e rest v = begins_no_end (sign_at (expr_tokens e ++ rest)) (expr_begins e rest v)

-- an expression has tokens
pub behind_some : (xs : Toks) (t : RToken) (ts : Toks) → 1 ≤ length (xs ++ t ∷ ts)
behind_some xs t ts = let e = length-append xs (t ∷ ts) in omega (arith, e)

pub expr_some : (e : Expr) → 1 ≤ length (expr_tokens e)
expr_some (Literal (pos n) k) = omega arith
expr_some (Literal (negsuc n) k) = omega arith
expr_some (Truth b) = omega arith
expr_some NoFunction = omega arith
expr_some (Read (Local x)) = omega arith
expr_some (Read (Static m x)) = omega arith
expr_some (Read (Deref e)) = omega arith
expr_some (Read (Field p f)) = behind_some (op (Read p)) _ _
expr_some (Call m x args) = omega arith
expr_some (CallBy e args) = behind_some (spelling.method (op e) (codes "unwrap") []) _ _
expr_some (Wrapped e o arg) = behind_some (op e) _ _
expr_some (WrappingNeg e) = behind_some (op e) _ _
expr_some (Offset e arg) = behind_some (op e) _ _
expr_some (OffsetFrom e arg) = behind_some (op e) _ _
expr_some (IsNull e) = behind_some (op e) _ _
expr_some (IsNone e) = behind_some (op e) _ _
expr_some (AddressOf p) = omega arith
expr_some (NullPointer t) = omega arith
expr_some (SomeFunction m x params r) = omega arith
expr_some (Transmute from to e) = omega arith
expr_some (Neg e) = omega arith
expr_some (Not e) = omega arith
expr_some (Cast e t) = behind_some (op e) _ _
expr_some (Binary left o right) = behind_some (op left) _ _
expr_some (And left right) = behind_some (op left) _ _
expr_some (Or left right) = behind_some (op left) _ _
expr_some (Choose c a b) = omega arith
