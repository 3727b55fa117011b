-- Types are read back from what they spell.
use Rattle.std.proofs.Common.{◌≡◌, ℕ, zero, suc, ◌≤◌, Bool, true, false, ◌&&◌, List, [], ◌∷◌, ◌++◌, map, drop, length, codes, Option, Some, None, refl, sym, ap, subst, ◌∙◌, arith, append_assoc, length-append}
use Rattle.std.specs.Fmt.{decimal}
use Rattle.std.specs.List.{list_all}
use Rattle.std.proofs.lemmas.Bool.{and_parts}
use Rattle.rs_expr.specs.Numbers.{size_of, integer_words}
use Rattle.rs_expr.specs.Reading.{Toks, Reader, read_of, ends_list, listed}
use Rattle.rs_expr.specs.Signs.{sign_at, text_at, marks, words}
use Rattle.rs_expr.specs.Types.{pointer, array, record_ty, result, signature, signature_tree, SignatureTree, code, word_ty, plain_ty, ty_from, ty}
use Rattle.rs_expr.specs.declared.sign.Sign.{Sign}
use Rattle.rs_expr.specs.declared.sign.Sign.TheVariants.{Arrow}
use Rattle.rs_text.specs.Spelling.{ty_tokens, tys_parts, result_tokens}
use Rattle.rs_text.specs.Spelling as spelling
use Rattle.rs_text.specs.Tokens.{Word, Mark, Quoted, Close}
use Rattle.rs_text.specs.Tree.{Ty, Integer, Boolean, Void, Pointer, Array, Code, Record, Tys, no_tys, more_tys, OptionTy, no_ty, some_ty, tys, option_ty}
use Rattle.rs_text.specs.Valid.{valid_ty, valid_tys, valid_result, valid_target, is_length}
use Rattle.rs_text.specs.declared.integer.IntegerTy.{IntegerTy}
use Rattle.rs_text.specs.declared.integer.IntegerTy.TheVariants.{I8, I16, I32, I64, U8, U16, U32, U64, Isize, Usize}
use Rattle.rs_parse.proofs.Digits.{size_is}
use Rattle.rs_parse.proofs.ReadLists.{parts_ahead}

-- what a reader of types reads, of at most so many tokens
abbrev pub TyRead : Reader Ty → ℕ → Type 0
TyRead below most = (t : Ty) (rest : Toks) → valid_target t ≡ true → length (ty_tokens t ++ rest) ≤ most → below (ty_tokens t ++ rest) ≡ read_of t rest

pub is_target : (t : Ty) → valid_ty t ≡ true → valid_target t ≡ true
is_target Void h = refl
is_target _ h = h

-- ---- lists of types

abbrev pub ty_list : Tys → List Ty
ty_list no_tys = []
ty_list (more_tys t ts) = t ∷ ty_list ts

pub list_is_tys : (ts : Tys) → tys (ty_list ts) ≡ ts
list_is_tys no_tys = refl
list_is_tys (more_tys t ts) = ap (more_tys t) (list_is_tys ts)

pub list_parts : (ts : Tys) → tys_parts ts ≡ map ty_tokens (ty_list ts)
list_parts no_tys = refl
list_parts (more_tys t ts) = ap (λ l. ty_tokens t ∷ l) (list_parts ts)

pub list_valid : (ts : Tys) → valid_tys ts ≡ true → list_all valid_target (ty_list ts) ≡ true
list_valid no_tys h = refl
list_valid (more_tys t ts) h =
    let parts = and_parts (valid_ty t) (valid_tys ts) h in
    ap (λ b. b && list_all valid_target (ty_list ts)) (is_target t parts.0) ∙ list_valid ts parts.1

abbrev pub ty_option : OptionTy → Option Ty
ty_option no_ty = None
ty_option (some_ty t) = Some t

option_is : (r : OptionTy) → option_ty (ty_option r) ≡ r
option_is no_ty = refl
option_is (some_ty t) = refl

pub ty_some : (t : Ty) → 1 ≤ length (ty_tokens t)
ty_some (Integer k) = omega arith
ty_some Boolean = omega arith
ty_some Void = omega arith
ty_some (Pointer t) = omega arith
ty_some (Array t size) = omega arith
ty_some (Code params result) = omega arith
ty_some (Record m x) = omega arith

-- no type begins with what ends a list
pub ty_starts : (t : Ty) (rest : Toks) → valid_target t ≡ true → ends_list (sign_at (ty_tokens t ++ rest)) ≡ false
unfolding marks words
ty_starts (Integer I8) rest v = refl
ty_starts (Integer I16) rest v = refl
ty_starts (Integer I32) rest v = refl
ty_starts (Integer I64) rest v = refl
ty_starts (Integer U8) rest v = refl
ty_starts (Integer U16) rest v = refl
ty_starts (Integer U32) rest v = refl
ty_starts (Integer U64) rest v = refl
ty_starts (Integer Isize) rest v = refl
ty_starts (Integer Usize) rest v = refl
ty_starts Boolean rest v = refl
ty_starts Void rest v = refl
ty_starts (Pointer t) rest v = refl
ty_starts (Array t size) rest v = refl
ty_starts (Code params result) rest v = refl
ty_starts (Record m x) rest v = refl

abbrev pub is_arrow : Sign → Bool
is_arrow Arrow = true
is_arrow _ = false

abbrev anything : Sign → Bool
anything s = true

module _ (below : Reader Ty) (most : ℕ) (reads : TyRead below most) where
  -- ---- results

  no_result : (s : Sign) (rest : Toks) → is_arrow s ≡ false → sign_at rest ≡ s → result below rest ≡ read_of None rest
  unfolding result
  no_result Arrow rest h is = cc
  no_result _ rest h is = rw is refl

  pub result_reads : (r : OptionTy) (rest : Toks) → valid_result r ≡ true → is_arrow (sign_at rest) ≡ false → length (result_tokens r ++ rest) ≤ suc most →
      result below (result_tokens r ++ rest) ≡ read_of (ty_option r) rest
  unfolding result marks
  result_reads no_ty rest v next short = no_result (sign_at rest) rest next refl
  result_reads (some_ty t) rest v next short =
      ap (λ (r : Ty × Toks). read_of (Some r.0) r.1) (reads t rest (is_target t v) (omega (arith, short)))

  -- ---- signatures

  pub listed_reads : (ts : Tys) (rest : Toks) → valid_tys ts ≡ true → length (spelling.listed (tys_parts ts) ++ Mark (codes ")") ∷ rest) ≤ most →
      listed below (spelling.listed (tys_parts ts) ++ Mark (codes ")") ∷ rest) ≡ read_of (ty_list ts) (Mark (codes ")") ∷ rest)
  unfolding marks
  listed_reads ts rest v short =
      let parts = list_parts ts in
      subst (λ (l : List Toks). listed below (spelling.listed l ++ Mark (codes ")") ∷ rest) ≡ read_of (ty_list ts) (Mark (codes ")") ∷ rest)) (sym parts)
      (parts_ahead ends_list below ty_tokens valid_target anything most (λ t more v next short. reads t more v short) ty_starts refl ty_some
      (ty_list ts) (Mark (codes ")") ∷ rest) (list_valid ts v) refl refl refl
      (subst (λ (l : List Toks). length (spelling.listed l ++ Mark (codes ")") ∷ rest) ≤ most) parts short))

  -- what stands between the parentheses of a signature and behind them
  abbrev pub signature_rest : Tys → OptionTy → Toks → Toks
  signature_rest params r rest = spelling.listed (tys_parts params) ++ Mark (codes ")") ∷ (result_tokens r ++ rest)

  signature_same : (l res rest : Toks) → ((l ++ Mark (codes ")") ∷ []) ++ res) ++ rest ≡ l ++ Mark (codes ")") ∷ (res ++ rest)
  signature_same l res rest = append_assoc (l ++ Mark (codes ")") ∷ []) res rest ∙ append_assoc l (Mark (codes ")") ∷ []) (res ++ rest)

  pub signature_reads : (params : Tys) (r : OptionTy) (rest : Toks) → valid_tys params ≡ true → valid_result r ≡ true → is_arrow (sign_at rest) ≡ false →
      length (spelling.signature (tys_parts params) (result_tokens r) ++ rest) ≤ suc most →
      signature below (spelling.signature (tys_parts params) (result_tokens r) ++ rest) ≡ read_of (signature_tree (ty_list params) (ty_option r)) rest
  unfolding signature
  signature_reads params r rest v w next short =
      let l : Toks = spelling.listed (tys_parts params) in
      let res : Toks = result_tokens r in
      let same = signature_same l res rest in
      let n1 = ap length same in
      let n2 = length-append l (Mark (codes ")") ∷ (res ++ rest)) in
      let head : Toks → Toks = λ t. Word (codes "unsafe") ∷ Word (codes "extern") ∷ Quoted (codes "C") ∷ Word (codes "fn") ∷ Mark (codes "(") ∷ t in
      let ended : (List Ty × Toks) → SignatureTree × Toks = λ p. read_of (signature_tree p.0 (result below (drop 1 p.1)).0) (result below (drop 1 p.1)).1 in
      ap (λ (t : Toks). signature below (head t)) same
      ∙ ap ended (listed_reads params (res ++ rest) v (omega (arith, short, n1)))
      ∙ ap (λ (q : Option Ty × Toks). read_of (signature_tree (ty_list params) q.0) q.1) (result_reads r rest w next (omega (arith, short, n1, n2)))

  -- ---- one level

  pointer_reads : (t : Ty) (rest : Toks) → valid_target t ≡ true → length (ty_tokens t ++ rest) ≤ most →
      ty_from below (ty_tokens (Pointer t) ++ rest) ≡ read_of (Pointer t) rest
  unfolding ty_from pointer marks
  pointer_reads t rest v short = ap (λ (r : Ty × Toks). read_of (Pointer r.0) r.1) (reads t rest v short)

  array_same : (t : Ty) (size : ℕ) (rest : Toks) →
      ((ty_tokens t ++ Mark (codes ";") ∷ Word (decimal size) ∷ []) ++ Mark (codes "]") ∷ []) ++ rest
      ≡ ty_tokens t ++ Mark (codes ";") ∷ Word (decimal size) ∷ Mark (codes "]") ∷ rest
  array_same t size rest =
      append_assoc (ty_tokens t ++ Mark (codes ";") ∷ Word (decimal size) ∷ []) (Mark (codes "]") ∷ []) rest
      ∙ append_assoc (ty_tokens t) (Mark (codes ";") ∷ Word (decimal size) ∷ []) (Mark (codes "]") ∷ rest)

  array_reads : (t : Ty) (size : ℕ) (rest : Toks) → valid_target t ≡ true → is_length size ≡ true → length (ty_tokens (Array t size) ++ rest) ≤ suc most →
      ty_from below (ty_tokens (Array t size) ++ rest) ≡ read_of (Array t size) rest
  unfolding ty_from array marks
  array_reads t size rest v w short =
      let same = array_same t size rest in
      let n1 = ap length same in
      ap (λ (l : Toks). ty_from below (Mark (codes "[") ∷ l)) same
      ∙ ap (λ (r : Ty × Toks). read_of (Array r.0 (size_of (text_at (drop 1 r.1)))) (drop 3 r.1))
      (reads t (Mark (codes ";") ∷ Word (decimal size) ∷ Mark (codes "]") ∷ rest) v (omega (arith, short, n1)))
      ∙ ap (λ n. read_of (Array t n) rest) (size_is size w)

  code_reads : (params : Tys) (r : OptionTy) (rest : Toks) → valid_tys params ≡ true → valid_result r ≡ true → length (ty_tokens (Code params r) ++ rest) ≤ suc most →
      ty_from below (ty_tokens (Code params r) ++ rest) ≡ read_of (Code params r) rest
  unfolding ty_from word_ty code words
  code_reads params r rest v w short =
      let sig : Toks = spelling.signature (tys_parts params) (result_tokens r) in
      let same : (sig ++ Close ∷ []) ++ rest ≡ sig ++ Close ∷ rest = append_assoc sig (Close ∷ []) rest in
      let n1 = ap length same in
      ap (λ (l : Toks). ty_from below (Word (codes "Option") ∷ Mark (codes "<") ∷ l)) same
      ∙ ap (λ (q : SignatureTree × Toks). read_of (Code (tys q.0.params) (option_ty q.0.result)) (drop 1 q.1))
      (signature_reads params r (Close ∷ rest) v w refl (omega (arith, short, n1)))
      ∙ ap (λ ps. read_of (Code ps (option_ty (ty_option r))) rest) (list_is_tys params)
      ∙ ap (λ o. read_of (Code params o) rest) (option_is r)

  integer_reads : (k : IntegerTy) (rest : Toks) → ty_from below (ty_tokens (Integer k) ++ rest) ≡ read_of (Integer k) rest
  unfolding ty_from word_ty plain_ty words integer_words
  integer_reads I8 rest = refl
  integer_reads I16 rest = refl
  integer_reads I32 rest = refl
  integer_reads I64 rest = refl
  integer_reads U8 rest = refl
  integer_reads U16 rest = refl
  integer_reads U32 rest = refl
  integer_reads U64 rest = refl
  integer_reads Isize rest = refl
  integer_reads Usize rest = refl

  plain_reads : (rest : Toks) → (ty_from below (ty_tokens Boolean ++ rest) ≡ read_of Boolean rest) × (ty_from below (ty_tokens Void ++ rest) ≡ read_of Void rest)
  unfolding ty_from word_ty plain_ty words
  plain_reads rest = (refl, refl)

  record_reads : (m x : List ℕ) (rest : Toks) → ty_from below (ty_tokens (Record m x) ++ rest) ≡ read_of (Record m x) rest
  unfolding ty_from record_ty words
  record_reads m x rest = refl

  pub from_reads : TyRead (ty_from below) (suc most)
  from_reads (Integer k) rest v short = integer_reads k rest
  from_reads Boolean rest v short = (plain_reads rest).0
  from_reads Void rest v short = (plain_reads rest).1
  from_reads (Pointer t) rest v short = pointer_reads t rest v (omega (arith, short))
  from_reads (Array t size) rest v short =
      let parts = and_parts (valid_ty t) (is_length size) v in array_reads t size rest (is_target t parts.0) parts.1 short
  from_reads (Code params r) rest v short =
      let parts = and_parts (valid_tys params) (valid_result r) v in code_reads params r rest parts.0 parts.1 short
  from_reads (Record m x) rest v short = record_reads m x rest

pub types_read : (levels : ℕ) → TyRead (ty levels) levels
unfolding ty
types_read zero t rest v short = let e = length-append (ty_tokens t) rest in let f = ty_some t in absurd (omega (arith, short, e, f))
types_read (suc levels) t rest v short = from_reads (ty levels) levels (types_read levels) t rest v short
