-- Printed text spells the tokens of its tree.
use Rattle.std.proofs.Common.{◌≡◌, ℕ, suc, ◌^◌, ◌<◌, ◌==◌, nat_le, nat_lt, nat_eq, drop, ℤ, pos, negsuc, Bool, true, false, not, ◌&&◌, ◌||◌, [], ◌∷◌, ◌++◌, codes, refl, sym, ap, subst, ◌∙◌, arith, append_assoc, append-nil}
use Rattle.std.specs.Fmt.{decimal}
use Rattle.std.specs.List.{list_all, starts_with}
use Rattle.std.proofs.lemmas.Bool.{and_parts}
use Rattle.std.proofs.lemmas.Bool.Decides.{nat_tests}
use Rattle.rs_expr.specs.Signs.{begins_with_digit}
use Rattle.rs_text.specs.Forms.{is_compound, is_deref, is_literal}
use Rattle.rs_text.specs.Lines.{ty_text, tys_texts, result_text, signature, item_path, behind_commas, listed, address_of, null_of, transmute_of, literal_text, place_text, expr_text, exprs_texts}
use Rattle.rs_text.specs.Lines as text
use Rattle.rs_text.specs.Names.{is_digit, is_word_byte, is_identifier, is_plain_identifier, is_raw_identifier, is_among, keywords}
use Rattle.rs_text.specs.Spelling.{place_tokens, expr_tokens, exprs_parts, ty_tokens, tys_parts, result_tokens, literal_tokens}
use Rattle.rs_text.specs.Spelling as spelling
use Rattle.rs_text.specs.Tokens.{Word, Mark, Quoted, Close}
use Rattle.rs_text.specs.Tree.{Ty, Integer, Boolean, Void, Pointer, Array, Code, Record, Tys, no_tys, more_tys, OptionTy, no_ty, some_ty, Place, Local, Static, Deref, Field, Expr, Literal, Truth, NoFunction, Read, Call, CallBy, Wrapped, WrappingNeg, Offset, OffsetFrom, IsNull, IsNone, AddressOf, NullPointer, SomeFunction, Transmute, Neg, Not, Cast, Binary, And, Or, Choose, Exprs, no_exprs, more_exprs}
use Rattle.rs_text.specs.Valid.{valid_place, valid_expr, valid_exprs, valid_ty, valid_tys, valid_target, valid_result, valid_path, is_length, is_value}
use Rattle.rs_text.specs.Words.{integer_word, operator_mark}
use Rattle.rs_text.specs.declared.integer.IntegerTy.{IntegerTy}
use Rattle.rs_text.specs.declared.integer.IntegerTy.TheVariants.{I8, I16, I32, I64, U8, U16, U32, U64, Isize, Usize}
use Rattle.rs_text.specs.declared.operator.Operator.{Operator}
use Rattle.rs_text.specs.declared.operator.Wrapping.TheVariants.{WrappingAdd, WrappingSub, WrappingMul}
use Rattle.rs_parse.proofs.Digits.{written}
use Rattle.rs_parse.proofs.Lexing.{Toks, Text, Reads, soft, mild, mild_of, hard, is_wordy, blank, newline, word_reads, name_reads, plain_reads, quoted_reads, open_paren, close_paren, open_bracket, close_bracket, open_brace, close_brace, comma, semicolon, hash, path_mark, arrow, fat_arrow, and_mark, or_mark, colon, equal, ellipsis, bang_paren, operator_reads, minus, bang, star, dot, less, angles, closes, angles_mild, closes_read, word_wordy, raw_form}
use Rattle.rs_parse.proofs.NameSigns.{plain_parts}
use Rattle.rs_parse.proofs.ReadTypes.{is_target}

-- A text spells tokens, whatever stands behind it; where `n`, what can stand behind a word or a type.
pub record Good (n : Bool) (a : Text) (xs : Toks) : Type 0 where
  pub on : (t : Text) (us : Toks) → (n ≡ true → soft t ≡ true) → Reads t us → Reads (a ++ t) (xs ++ us)

pub moved : (a b : Text) (xs bs : Toks) (t : Text) (us : Toks) → Reads (a ++ (b ++ t)) (xs ++ (bs ++ us)) → Reads ((a ++ b) ++ t) ((xs ++ bs) ++ us)
moved a b xs bs t us r =
    subst (λ (l : Text). Reads l ((xs ++ bs) ++ us)) (sym (append_assoc a b t)) (subst (λ (l : Toks). Reads (a ++ (b ++ t)) l) (sym (append_assoc xs bs us)) r)

pub nothing : {n : Bool} → Good n [] []
nothing = record { on = λ t us h r. r }

pub loosen : {a : Text} {xs : Toks} → Good false a xs → Good true a xs
loosen good = record { on = λ t us h r. good.on t us (λ e. let k : false ≡ true = e in cc) r }

pub free_then : {m : Bool} {a b : Text} {xs bs : Toks} → Good false a xs → Good m b bs → Good m (a ++ b) (xs ++ bs)
free_then {m} {a} {b} {xs} {bs} first next = record {
  on = λ t us h r.
      let behind : Reads (a ++ (b ++ t)) (xs ++ (bs ++ us)) = first.on (b ++ t) (bs ++ us) (λ e. let k : false ≡ true = e in cc) (next.on t us h r) in
      moved a b xs bs t us behind;
}

pub soft_then : {m : Bool} {a b : Text} {xs bs : Toks} → Good true a xs → Good m b bs → ((t : Text) → (m ≡ true → soft t ≡ true) → soft (b ++ t) ≡ true) → Good m (a ++ b) (xs ++ bs)
soft_then {m} {a} {b} {xs} {bs} first next front = record {
  on = λ t us h r.
      let behind : Reads (a ++ (b ++ t)) (xs ++ (bs ++ us)) = first.on (b ++ t) (bs ++ us) (λ _. front t h) (next.on t us h r) in
      moved a b xs bs t us behind;
}

-- ---- pieces of fixed text

pub l_open : {n : Bool} {b : Text} {bs : Toks} → Good n b bs → Good n (40 ∷ b) (Mark (codes "(") ∷ bs)
l_open {n} {b} {bs} good = record { on = λ t us h r. (open_paren (good.on t us h r)) }

pub l_close : {n : Bool} {b : Text} {bs : Toks} → Good n b bs → Good n (41 ∷ b) (Mark (codes ")") ∷ bs)
l_close {n} {b} {bs} good = record { on = λ t us h r. (close_paren (good.on t us h r)) }

pub l_open_bracket : {n : Bool} {b : Text} {bs : Toks} → Good n b bs → Good n (91 ∷ b) (Mark (codes "[") ∷ bs)
l_open_bracket {n} {b} {bs} good = record { on = λ t us h r. (open_bracket (good.on t us h r)) }

pub l_close_bracket : {n : Bool} {b : Text} {bs : Toks} → Good n b bs → Good n (93 ∷ b) (Mark (codes "]") ∷ bs)
l_close_bracket {n} {b} {bs} good = record { on = λ t us h r. (close_bracket (good.on t us h r)) }

pub l_comma : {n : Bool} {b : Text} {bs : Toks} → Good n b bs → Good n (44 ∷ 32 ∷ b) (Mark (codes ",") ∷ bs)
l_comma {n} {b} {bs} good = record { on = λ t us h r. (comma (blank (good.on t us h r))) }

pub l_semicolon : {n : Bool} {b : Text} {bs : Toks} → Good n b bs → Good n (59 ∷ 32 ∷ b) (Mark (codes ";") ∷ bs)
l_semicolon {n} {b} {bs} good = record { on = λ t us h r. (semicolon (blank (good.on t us h r))) }

pub l_end : {n : Bool} {b : Text} {bs : Toks} → Good n b bs → Good n (59 ∷ b) (Mark (codes ";") ∷ bs)
l_end {n} {b} {bs} good = record { on = λ t us h r. (semicolon (good.on t us h r)) }

pub l_star_mut : {n : Bool} {b : Text} {bs : Toks} → Good n b bs → Good n (42 ∷ 109 ∷ 117 ∷ 116 ∷ 32 ∷ b) (Mark (codes "*") ∷ Word (codes "mut") ∷ bs)
l_star_mut {n} {b} {bs} good = record { on = λ t us h r. (star refl (word_reads (codes "mut") (32 ∷ (b ++ t)) ((bs ++ us)) refl refl (blank (good.on t us h r)))) }

pub l_option : {n : Bool} {b : Text} {bs : Toks} → Good n b bs → Good n (79 ∷ 112 ∷ 116 ∷ 105 ∷ 111 ∷ 110 ∷ 60 ∷ 117 ∷ 110 ∷ 115 ∷ 97 ∷ 102 ∷ 101 ∷ 32 ∷ 101 ∷ 120 ∷ 116 ∷ 101 ∷ 114 ∷ 110 ∷ 32 ∷ 34 ∷ 67 ∷ 34 ∷ 32 ∷ 102 ∷ 110 ∷ 40 ∷ b) (Word (codes "Option") ∷ Mark (codes "<") ∷ Word (codes "unsafe") ∷ Word (codes "extern") ∷ Quoted (codes "C") ∷ Word (codes "fn") ∷ Mark (codes "(") ∷ bs)
l_option {n} {b} {bs} good = record { on = λ t us h r. (word_reads (codes "Option") (60 ∷ 117 ∷ 110 ∷ 115 ∷ 97 ∷ 102 ∷ 101 ∷ 32 ∷ 101 ∷ 120 ∷ 116 ∷ 101 ∷ 114 ∷ 110 ∷ 32 ∷ 34 ∷ 67 ∷ 34 ∷ 32 ∷ 102 ∷ 110 ∷ 40 ∷ (b ++ t)) (Mark (codes "<") ∷ Word (codes "unsafe") ∷ Word (codes "extern") ∷ Quoted (codes "C") ∷ Word (codes "fn") ∷ Mark (codes "(") ∷ (bs ++ us)) refl refl (less refl (word_reads (codes "unsafe") (32 ∷ 101 ∷ 120 ∷ 116 ∷ 101 ∷ 114 ∷ 110 ∷ 32 ∷ 34 ∷ 67 ∷ 34 ∷ 32 ∷ 102 ∷ 110 ∷ 40 ∷ (b ++ t)) (Word (codes "extern") ∷ Quoted (codes "C") ∷ Word (codes "fn") ∷ Mark (codes "(") ∷ (bs ++ us)) refl refl (blank (word_reads (codes "extern") (32 ∷ 34 ∷ 67 ∷ 34 ∷ 32 ∷ 102 ∷ 110 ∷ 40 ∷ (b ++ t)) (Quoted (codes "C") ∷ Word (codes "fn") ∷ Mark (codes "(") ∷ (bs ++ us)) refl refl (blank (quoted_reads (codes "C") (32 ∷ 102 ∷ 110 ∷ 40 ∷ (b ++ t)) (Word (codes "fn") ∷ Mark (codes "(") ∷ (bs ++ us)) refl refl (blank (word_reads (codes "fn") (40 ∷ (b ++ t)) (Mark (codes "(") ∷ (bs ++ us)) refl refl (open_paren (good.on t us h r))))))))))) }

pub l_unsafe_fn : {n : Bool} {b : Text} {bs : Toks} → Good n b bs → Good n (117 ∷ 110 ∷ 115 ∷ 97 ∷ 102 ∷ 101 ∷ 32 ∷ 101 ∷ 120 ∷ 116 ∷ 101 ∷ 114 ∷ 110 ∷ 32 ∷ 34 ∷ 67 ∷ 34 ∷ 32 ∷ 102 ∷ 110 ∷ 40 ∷ b) (Word (codes "unsafe") ∷ Word (codes "extern") ∷ Quoted (codes "C") ∷ Word (codes "fn") ∷ Mark (codes "(") ∷ bs)
l_unsafe_fn {n} {b} {bs} good = record { on = λ t us h r. (word_reads (codes "unsafe") (32 ∷ 101 ∷ 120 ∷ 116 ∷ 101 ∷ 114 ∷ 110 ∷ 32 ∷ 34 ∷ 67 ∷ 34 ∷ 32 ∷ 102 ∷ 110 ∷ 40 ∷ (b ++ t)) (Word (codes "extern") ∷ Quoted (codes "C") ∷ Word (codes "fn") ∷ Mark (codes "(") ∷ (bs ++ us)) refl refl (blank (word_reads (codes "extern") (32 ∷ 34 ∷ 67 ∷ 34 ∷ 32 ∷ 102 ∷ 110 ∷ 40 ∷ (b ++ t)) (Quoted (codes "C") ∷ Word (codes "fn") ∷ Mark (codes "(") ∷ (bs ++ us)) refl refl (blank (quoted_reads (codes "C") (32 ∷ 102 ∷ 110 ∷ 40 ∷ (b ++ t)) (Word (codes "fn") ∷ Mark (codes "(") ∷ (bs ++ us)) refl refl (blank (word_reads (codes "fn") (40 ∷ (b ++ t)) (Mark (codes "(") ∷ (bs ++ us)) refl refl (open_paren (good.on t us h r))))))))) }

pub l_arrow : {n : Bool} {b : Text} {bs : Toks} → Good n b bs → Good n (32 ∷ 45 ∷ 62 ∷ 32 ∷ b) (Mark (codes "->") ∷ bs)
l_arrow {n} {b} {bs} good = record { on = λ t us h r. (blank (arrow (blank (good.on t us h r)))) }

pub l_blank : {n : Bool} {b : Text} {bs : Toks} → Good n b bs → Good n (32 ∷ b) (bs)
l_blank {n} {b} {bs} good = record { on = λ t us h r. (blank (good.on t us h r)) }

pub l_as : {n : Bool} {b : Text} {bs : Toks} → Good n b bs → Good n (32 ∷ 97 ∷ 115 ∷ 32 ∷ b) (Word (codes "as") ∷ bs)
l_as {n} {b} {bs} good = record { on = λ t us h r. (blank (word_reads (codes "as") (32 ∷ (b ++ t)) ((bs ++ us)) refl refl (blank (good.on t us h r)))) }

pub l_and : {n : Bool} {b : Text} {bs : Toks} → Good n b bs → Good n (32 ∷ 38 ∷ 38 ∷ 32 ∷ b) (Mark (codes "&&") ∷ bs)
l_and {n} {b} {bs} good = record { on = λ t us h r. (blank (and_mark (blank (good.on t us h r)))) }

pub l_or : {n : Bool} {b : Text} {bs : Toks} → Good n b bs → Good n (32 ∷ 124 ∷ 124 ∷ 32 ∷ b) (Mark (codes "||") ∷ bs)
l_or {n} {b} {bs} good = record { on = λ t us h r. (blank (or_mark (blank (good.on t us h r)))) }

pub l_unwrap : {n : Bool} {b : Text} {bs : Toks} → Good n b bs → Good n (46 ∷ 117 ∷ 110 ∷ 119 ∷ 114 ∷ 97 ∷ 112 ∷ 40 ∷ 41 ∷ 40 ∷ b) (Mark (codes ".") ∷ Word (codes "unwrap") ∷ Mark (codes "(") ∷ Mark (codes ")") ∷ Mark (codes "(") ∷ bs)
l_unwrap {n} {b} {bs} good = record { on = λ t us h r. (dot refl (word_reads (codes "unwrap") (40 ∷ 41 ∷ 40 ∷ (b ++ t)) (Mark (codes "(") ∷ Mark (codes ")") ∷ Mark (codes "(") ∷ (bs ++ us)) refl refl (open_paren (close_paren (open_paren (good.on t us h r)))))) }

pub l_neg : {n : Bool} {b : Text} {bs : Toks} → Good n b bs → Good n (46 ∷ 119 ∷ 114 ∷ 97 ∷ 112 ∷ 112 ∷ 105 ∷ 110 ∷ 103 ∷ 95 ∷ 110 ∷ 101 ∷ 103 ∷ 40 ∷ 41 ∷ b) (Mark (codes ".") ∷ Word (codes "wrapping_neg") ∷ Mark (codes "(") ∷ Mark (codes ")") ∷ bs)
l_neg {n} {b} {bs} good = record { on = λ t us h r. (dot refl (word_reads (codes "wrapping_neg") (40 ∷ 41 ∷ (b ++ t)) (Mark (codes "(") ∷ Mark (codes ")") ∷ (bs ++ us)) refl refl (open_paren (close_paren (good.on t us h r))))) }

pub l_is_null : {n : Bool} {b : Text} {bs : Toks} → Good n b bs → Good n (46 ∷ 105 ∷ 115 ∷ 95 ∷ 110 ∷ 117 ∷ 108 ∷ 108 ∷ 40 ∷ 41 ∷ b) (Mark (codes ".") ∷ Word (codes "is_null") ∷ Mark (codes "(") ∷ Mark (codes ")") ∷ bs)
l_is_null {n} {b} {bs} good = record { on = λ t us h r. (dot refl (word_reads (codes "is_null") (40 ∷ 41 ∷ (b ++ t)) (Mark (codes "(") ∷ Mark (codes ")") ∷ (bs ++ us)) refl refl (open_paren (close_paren (good.on t us h r))))) }

pub l_is_none : {n : Bool} {b : Text} {bs : Toks} → Good n b bs → Good n (46 ∷ 105 ∷ 115 ∷ 95 ∷ 110 ∷ 111 ∷ 110 ∷ 101 ∷ 40 ∷ 41 ∷ b) (Mark (codes ".") ∷ Word (codes "is_none") ∷ Mark (codes "(") ∷ Mark (codes ")") ∷ bs)
l_is_none {n} {b} {bs} good = record { on = λ t us h r. (dot refl (word_reads (codes "is_none") (40 ∷ 41 ∷ (b ++ t)) (Mark (codes "(") ∷ Mark (codes ")") ∷ (bs ++ us)) refl refl (open_paren (close_paren (good.on t us h r))))) }

pub l_add : {n : Bool} {b : Text} {bs : Toks} → Good n b bs → Good n (46 ∷ 119 ∷ 114 ∷ 97 ∷ 112 ∷ 112 ∷ 105 ∷ 110 ∷ 103 ∷ 95 ∷ 97 ∷ 100 ∷ 100 ∷ 40 ∷ b) (Mark (codes ".") ∷ Word (codes "wrapping_add") ∷ Mark (codes "(") ∷ bs)
l_add {n} {b} {bs} good = record { on = λ t us h r. (dot refl (word_reads (codes "wrapping_add") (40 ∷ (b ++ t)) (Mark (codes "(") ∷ (bs ++ us)) refl refl (open_paren (good.on t us h r)))) }

pub l_sub : {n : Bool} {b : Text} {bs : Toks} → Good n b bs → Good n (46 ∷ 119 ∷ 114 ∷ 97 ∷ 112 ∷ 112 ∷ 105 ∷ 110 ∷ 103 ∷ 95 ∷ 115 ∷ 117 ∷ 98 ∷ 40 ∷ b) (Mark (codes ".") ∷ Word (codes "wrapping_sub") ∷ Mark (codes "(") ∷ bs)
l_sub {n} {b} {bs} good = record { on = λ t us h r. (dot refl (word_reads (codes "wrapping_sub") (40 ∷ (b ++ t)) (Mark (codes "(") ∷ (bs ++ us)) refl refl (open_paren (good.on t us h r)))) }

pub l_mul : {n : Bool} {b : Text} {bs : Toks} → Good n b bs → Good n (46 ∷ 119 ∷ 114 ∷ 97 ∷ 112 ∷ 112 ∷ 105 ∷ 110 ∷ 103 ∷ 95 ∷ 109 ∷ 117 ∷ 108 ∷ 40 ∷ b) (Mark (codes ".") ∷ Word (codes "wrapping_mul") ∷ Mark (codes "(") ∷ bs)
l_mul {n} {b} {bs} good = record { on = λ t us h r. (dot refl (word_reads (codes "wrapping_mul") (40 ∷ (b ++ t)) (Mark (codes "(") ∷ (bs ++ us)) refl refl (open_paren (good.on t us h r)))) }

pub l_offset : {n : Bool} {b : Text} {bs : Toks} → Good n b bs → Good n (46 ∷ 111 ∷ 102 ∷ 102 ∷ 115 ∷ 101 ∷ 116 ∷ 40 ∷ b) (Mark (codes ".") ∷ Word (codes "offset") ∷ Mark (codes "(") ∷ bs)
l_offset {n} {b} {bs} good = record { on = λ t us h r. (dot refl (word_reads (codes "offset") (40 ∷ (b ++ t)) (Mark (codes "(") ∷ (bs ++ us)) refl refl (open_paren (good.on t us h r)))) }

pub l_offset_from : {n : Bool} {b : Text} {bs : Toks} → Good n b bs → Good n (46 ∷ 111 ∷ 102 ∷ 102 ∷ 115 ∷ 101 ∷ 116 ∷ 95 ∷ 102 ∷ 114 ∷ 111 ∷ 109 ∷ 40 ∷ b) (Mark (codes ".") ∷ Word (codes "offset_from") ∷ Mark (codes "(") ∷ bs)
l_offset_from {n} {b} {bs} good = record { on = λ t us h r. (dot refl (word_reads (codes "offset_from") (40 ∷ (b ++ t)) (Mark (codes "(") ∷ (bs ++ us)) refl refl (open_paren (good.on t us h r)))) }

pub l_some : {n : Bool} {b : Text} {bs : Toks} → Good n b bs → Good n (83 ∷ 111 ∷ 109 ∷ 101 ∷ 40 ∷ 99 ∷ 114 ∷ 97 ∷ 116 ∷ 101 ∷ 58 ∷ 58 ∷ b) (Word (codes "Some") ∷ Mark (codes "(") ∷ Word (codes "crate") ∷ Mark (codes "::") ∷ bs)
l_some {n} {b} {bs} good = record { on = λ t us h r. (word_reads (codes "Some") (40 ∷ 99 ∷ 114 ∷ 97 ∷ 116 ∷ 101 ∷ 58 ∷ 58 ∷ (b ++ t)) (Mark (codes "(") ∷ Word (codes "crate") ∷ Mark (codes "::") ∷ (bs ++ us)) refl refl (open_paren (word_reads (codes "crate") (58 ∷ 58 ∷ (b ++ t)) (Mark (codes "::") ∷ (bs ++ us)) refl refl (path_mark (good.on t us h r))))) }

pub l_some_open : {n : Bool} {b : Text} {bs : Toks} → Good n b bs → Good n (83 ∷ 111 ∷ 109 ∷ 101 ∷ 40 ∷ b) (Word (codes "Some") ∷ Mark (codes "(") ∷ bs)
l_some_open {n} {b} {bs} good = record { on = λ t us h r. (word_reads (codes "Some") (40 ∷ (b ++ t)) (Mark (codes "(") ∷ (bs ++ us)) refl refl (open_paren (good.on t us h r))) }

pub l_crate : {n : Bool} {b : Text} {bs : Toks} → Good n b bs → Good n (99 ∷ 114 ∷ 97 ∷ 116 ∷ 101 ∷ 58 ∷ 58 ∷ b) (Word (codes "crate") ∷ Mark (codes "::") ∷ bs)
l_crate {n} {b} {bs} good = record { on = λ t us h r. (word_reads (codes "crate") (58 ∷ 58 ∷ (b ++ t)) (Mark (codes "::") ∷ (bs ++ us)) refl refl (path_mark (good.on t us h r))) }

pub l_path : {n : Bool} {b : Text} {bs : Toks} → Good n b bs → Good n (58 ∷ 58 ∷ b) (Mark (codes "::") ∷ bs)
l_path {n} {b} {bs} good = record { on = λ t us h r. (path_mark (good.on t us h r)) }

pub l_transmute : {n : Bool} {b : Text} {bs : Toks} → ((t : Text) → hard (b ++ t) ≡ true) → Good n b bs → Good n (99 ∷ 111 ∷ 114 ∷ 101 ∷ 58 ∷ 58 ∷ 109 ∷ 101 ∷ 109 ∷ 58 ∷ 58 ∷ 116 ∷ 114 ∷ 97 ∷ 110 ∷ 115 ∷ 109 ∷ 117 ∷ 116 ∷ 101 ∷ 58 ∷ 58 ∷ 60 ∷ b) (Word (codes "core") ∷ Mark (codes "::") ∷ Word (codes "mem") ∷ Mark (codes "::") ∷ Word (codes "transmute") ∷ Mark (codes "::") ∷ Mark (codes "<") ∷ bs)
l_transmute {n} {b} {bs} front good = record { on = λ t us h r. (word_reads (codes "core") (58 ∷ 58 ∷ 109 ∷ 101 ∷ 109 ∷ 58 ∷ 58 ∷ 116 ∷ 114 ∷ 97 ∷ 110 ∷ 115 ∷ 109 ∷ 117 ∷ 116 ∷ 101 ∷ 58 ∷ 58 ∷ 60 ∷ (b ++ t)) (Mark (codes "::") ∷ Word (codes "mem") ∷ Mark (codes "::") ∷ Word (codes "transmute") ∷ Mark (codes "::") ∷ Mark (codes "<") ∷ (bs ++ us)) refl refl (path_mark (word_reads (codes "mem") (58 ∷ 58 ∷ 116 ∷ 114 ∷ 97 ∷ 110 ∷ 115 ∷ 109 ∷ 117 ∷ 116 ∷ 101 ∷ 58 ∷ 58 ∷ 60 ∷ (b ++ t)) (Mark (codes "::") ∷ Word (codes "transmute") ∷ Mark (codes "::") ∷ Mark (codes "<") ∷ (bs ++ us)) refl refl (path_mark (word_reads (codes "transmute") (58 ∷ 58 ∷ 60 ∷ (b ++ t)) (Mark (codes "::") ∷ Mark (codes "<") ∷ (bs ++ us)) refl refl (path_mark (less (front t) (good.on t us h r)))))))) }

pub l_null : {n : Bool} {b : Text} {bs : Toks} → ((t : Text) → hard (b ++ t) ≡ true) → Good n b bs → Good n (99 ∷ 111 ∷ 114 ∷ 101 ∷ 58 ∷ 58 ∷ 112 ∷ 116 ∷ 114 ∷ 58 ∷ 58 ∷ 110 ∷ 117 ∷ 108 ∷ 108 ∷ 95 ∷ 109 ∷ 117 ∷ 116 ∷ 58 ∷ 58 ∷ 60 ∷ b) (Word (codes "core") ∷ Mark (codes "::") ∷ Word (codes "ptr") ∷ Mark (codes "::") ∷ Word (codes "null_mut") ∷ Mark (codes "::") ∷ Mark (codes "<") ∷ bs)
l_null {n} {b} {bs} front good = record { on = λ t us h r. (word_reads (codes "core") (58 ∷ 58 ∷ 112 ∷ 116 ∷ 114 ∷ 58 ∷ 58 ∷ 110 ∷ 117 ∷ 108 ∷ 108 ∷ 95 ∷ 109 ∷ 117 ∷ 116 ∷ 58 ∷ 58 ∷ 60 ∷ (b ++ t)) (Mark (codes "::") ∷ Word (codes "ptr") ∷ Mark (codes "::") ∷ Word (codes "null_mut") ∷ Mark (codes "::") ∷ Mark (codes "<") ∷ (bs ++ us)) refl refl (path_mark (word_reads (codes "ptr") (58 ∷ 58 ∷ 110 ∷ 117 ∷ 108 ∷ 108 ∷ 95 ∷ 109 ∷ 117 ∷ 116 ∷ 58 ∷ 58 ∷ 60 ∷ (b ++ t)) (Mark (codes "::") ∷ Word (codes "null_mut") ∷ Mark (codes "::") ∷ Mark (codes "<") ∷ (bs ++ us)) refl refl (path_mark (word_reads (codes "null_mut") (58 ∷ 58 ∷ 60 ∷ (b ++ t)) (Mark (codes "::") ∷ Mark (codes "<") ∷ (bs ++ us)) refl refl (path_mark (less (front t) (good.on t us h r)))))))) }

pub l_address : {n : Bool} {b : Text} {bs : Toks} → Good n b bs → Good n (99 ∷ 111 ∷ 114 ∷ 101 ∷ 58 ∷ 58 ∷ 112 ∷ 116 ∷ 114 ∷ 58 ∷ 58 ∷ 97 ∷ 100 ∷ 100 ∷ 114 ∷ 95 ∷ 111 ∷ 102 ∷ 95 ∷ 109 ∷ 117 ∷ 116 ∷ 33 ∷ 40 ∷ b) (Word (codes "core") ∷ Mark (codes "::") ∷ Word (codes "ptr") ∷ Mark (codes "::") ∷ Word (codes "addr_of_mut") ∷ Mark (codes "!") ∷ Mark (codes "(") ∷ bs)
l_address {n} {b} {bs} good = record { on = λ t us h r. (word_reads (codes "core") (58 ∷ 58 ∷ 112 ∷ 116 ∷ 114 ∷ 58 ∷ 58 ∷ 97 ∷ 100 ∷ 100 ∷ 114 ∷ 95 ∷ 111 ∷ 102 ∷ 95 ∷ 109 ∷ 117 ∷ 116 ∷ 33 ∷ 40 ∷ (b ++ t)) (Mark (codes "::") ∷ Word (codes "ptr") ∷ Mark (codes "::") ∷ Word (codes "addr_of_mut") ∷ Mark (codes "!") ∷ Mark (codes "(") ∷ (bs ++ us)) refl refl (path_mark (word_reads (codes "ptr") (58 ∷ 58 ∷ 97 ∷ 100 ∷ 100 ∷ 114 ∷ 95 ∷ 111 ∷ 102 ∷ 95 ∷ 109 ∷ 117 ∷ 116 ∷ 33 ∷ 40 ∷ (b ++ t)) (Mark (codes "::") ∷ Word (codes "addr_of_mut") ∷ Mark (codes "!") ∷ Mark (codes "(") ∷ (bs ++ us)) refl refl (path_mark (word_reads (codes "addr_of_mut") (33 ∷ 40 ∷ (b ++ t)) (Mark (codes "!") ∷ Mark (codes "(") ∷ (bs ++ us)) refl refl (bang_paren (open_paren (good.on t us h r)))))))) }

pub l_call_end : {n : Bool} {b : Text} {bs : Toks} → Good n b bs → Good n (40 ∷ 41 ∷ b) (Mark (codes "(") ∷ Mark (codes ")") ∷ bs)
l_call_end {n} {b} {bs} good = record { on = λ t us h r. (open_paren (close_paren (good.on t us h r))) }

pub l_if : {n : Bool} {b : Text} {bs : Toks} → Good n b bs → Good n (105 ∷ 102 ∷ 32 ∷ b) (Word (codes "if") ∷ bs)
l_if {n} {b} {bs} good = record { on = λ t us h r. (word_reads (codes "if") (32 ∷ (b ++ t)) ((bs ++ us)) refl refl (blank (good.on t us h r))) }

pub l_open_brace : {n : Bool} {b : Text} {bs : Toks} → Good n b bs → Good n (32 ∷ 123 ∷ 32 ∷ b) (Mark (codes "{") ∷ bs)
l_open_brace {n} {b} {bs} good = record { on = λ t us h r. (blank (open_brace (blank (good.on t us h r)))) }

pub l_else : {n : Bool} {b : Text} {bs : Toks} → Good n b bs → Good n (32 ∷ 125 ∷ 32 ∷ 101 ∷ 108 ∷ 115 ∷ 101 ∷ 32 ∷ 123 ∷ 32 ∷ b) (Mark (codes "}") ∷ Word (codes "else") ∷ Mark (codes "{") ∷ bs)
l_else {n} {b} {bs} good = record { on = λ t us h r. (blank (close_brace (blank (word_reads (codes "else") (32 ∷ 123 ∷ 32 ∷ (b ++ t)) (Mark (codes "{") ∷ (bs ++ us)) refl refl (blank (open_brace (blank (good.on t us h r)))))))) }

pub l_close_brace : {n : Bool} {b : Text} {bs : Toks} → Good n b bs → Good n (32 ∷ 125 ∷ b) (Mark (codes "}") ∷ bs)
l_close_brace {n} {b} {bs} good = record { on = λ t us h r. (blank (close_brace (good.on t us h r))) }

pub l_minus : {n : Bool} {b : Text} {bs : Toks} → ((t : Text) → hard (b ++ t) ≡ true) → Good n b bs → Good n (45 ∷ b) (Mark (codes "-") ∷ bs)
l_minus {n} {b} {bs} front good = record { on = λ t us h r. (minus (front t) (good.on t us h r)) }

pub l_bang : {n : Bool} {b : Text} {bs : Toks} → ((t : Text) → hard (b ++ t) ≡ true) → Good n b bs → Good n (33 ∷ b) (Mark (codes "!") ∷ bs)
l_bang {n} {b} {bs} front good = record { on = λ t us h r. (bang (front t) (good.on t us h r)) }

pub l_star : {n : Bool} {b : Text} {bs : Toks} → ((t : Text) → hard (b ++ t) ≡ true) → Good n b bs → Good n (42 ∷ b) (Mark (codes "*") ∷ bs)
l_star {n} {b} {bs} front good = record { on = λ t us h r. (star (front t) (good.on t us h r)) }

pub l_dot : {n : Bool} {b : Text} {bs : Toks} → ((t : Text) → hard (b ++ t) ≡ true) → Good n b bs → Good n (46 ∷ b) (Mark (codes ".") ∷ bs)
l_dot {n} {b} {bs} front good = record { on = λ t us h r. (dot (front t) (good.on t us h r)) }

pub l_equal : {n : Bool} {b : Text} {bs : Toks} → Good n b bs → Good n (32 ∷ 61 ∷ 32 ∷ b) (Mark (codes "=") ∷ bs)
l_equal {n} {b} {bs} good = record { on = λ t us h r. (blank (equal (good.on t us h r))) }

pub l_copy : {n : Bool} {b : Text} {bs : Toks} → Good n b bs → Good n (99 ∷ 111 ∷ 114 ∷ 101 ∷ 58 ∷ 58 ∷ 112 ∷ 116 ∷ 114 ∷ 58 ∷ 58 ∷ 99 ∷ 111 ∷ 112 ∷ 121 ∷ 40 ∷ b) (Word (codes "core") ∷ Mark (codes "::") ∷ Word (codes "ptr") ∷ Mark (codes "::") ∷ Word (codes "copy") ∷ Mark (codes "(") ∷ bs)
l_copy {n} {b} {bs} good = record { on = λ t us h r. (word_reads (codes "core") (58 ∷ 58 ∷ 112 ∷ 116 ∷ 114 ∷ 58 ∷ 58 ∷ 99 ∷ 111 ∷ 112 ∷ 121 ∷ 40 ∷ (b ++ t)) (Mark (codes "::") ∷ Word (codes "ptr") ∷ Mark (codes "::") ∷ Word (codes "copy") ∷ Mark (codes "(") ∷ (bs ++ us)) refl refl (path_mark (word_reads (codes "ptr") (58 ∷ 58 ∷ 99 ∷ 111 ∷ 112 ∷ 121 ∷ 40 ∷ (b ++ t)) (Mark (codes "::") ∷ Word (codes "copy") ∷ Mark (codes "(") ∷ (bs ++ us)) refl refl (path_mark (word_reads (codes "copy") (40 ∷ (b ++ t)) (Mark (codes "(") ∷ (bs ++ us)) refl refl (open_paren (good.on t us h r))))))) }

pub l_head : {n : Bool} {b : Text} {bs : Toks} → Good n b bs → Good n (32 ∷ 123 ∷ b) (Mark (codes "{") ∷ bs)
l_head {n} {b} {bs} good = record { on = λ t us h r. (blank (open_brace (good.on t us h r))) }

pub l_loop : {n : Bool} {b : Text} {bs : Toks} → Good n b bs → Good n (108 ∷ 111 ∷ 111 ∷ 112 ∷ 32 ∷ 123 ∷ b) (Word (codes "loop") ∷ Mark (codes "{") ∷ bs)
l_loop {n} {b} {bs} good = record { on = λ t us h r. (word_reads (codes "loop") (32 ∷ 123 ∷ (b ++ t)) (Mark (codes "{") ∷ (bs ++ us)) refl refl (blank (open_brace (good.on t us h r)))) }

pub l_label_loop : {n : Bool} {b : Text} {bs : Toks} → Good n b bs → Good n (58 ∷ 32 ∷ 108 ∷ 111 ∷ 111 ∷ 112 ∷ 32 ∷ 123 ∷ b) (Mark (codes ":") ∷ Word (codes "loop") ∷ Mark (codes "{") ∷ bs)
l_label_loop {n} {b} {bs} good = record { on = λ t us h r. (colon (word_reads (codes "loop") (32 ∷ 123 ∷ (b ++ t)) (Mark (codes "{") ∷ (bs ++ us)) refl refl (blank (open_brace (good.on t us h r))))) }

pub l_label_block : {n : Bool} {b : Text} {bs : Toks} → Good n b bs → Good n (58 ∷ 32 ∷ 123 ∷ b) (Mark (codes ":") ∷ Mark (codes "{") ∷ bs)
l_label_block {n} {b} {bs} good = record { on = λ t us h r. (colon (open_brace (good.on t us h r))) }

pub l_match : {n : Bool} {b : Text} {bs : Toks} → Good n b bs → Good n (109 ∷ 97 ∷ 116 ∷ 99 ∷ 104 ∷ 32 ∷ b) (Word (codes "match") ∷ bs)
l_match {n} {b} {bs} good = record { on = λ t us h r. (word_reads (codes "match") (32 ∷ (b ++ t)) ((bs ++ us)) refl refl (blank (good.on t us h r))) }

pub l_other : {n : Bool} {b : Text} {bs : Toks} → Good n b bs → Good n (95 ∷ 32 ∷ 61 ∷ 62 ∷ 32 ∷ 123 ∷ b) (Word (codes "_") ∷ Mark (codes "=>") ∷ Mark (codes "{") ∷ bs)
l_other {n} {b} {bs} good = record { on = λ t us h r. (word_reads (codes "_") (32 ∷ 61 ∷ 62 ∷ 32 ∷ 123 ∷ (b ++ t)) (Mark (codes "=>") ∷ Mark (codes "{") ∷ (bs ++ us)) refl refl (blank (fat_arrow (blank (open_brace (good.on t us h r)))))) }

pub l_arm : {n : Bool} {b : Text} {bs : Toks} → Good n b bs → Good n (32 ∷ 61 ∷ 62 ∷ 32 ∷ 123 ∷ b) (Mark (codes "=>") ∷ Mark (codes "{") ∷ bs)
l_arm {n} {b} {bs} good = record { on = λ t us h r. (blank (fat_arrow (blank (open_brace (good.on t us h r))))) }

pub l_brace : {n : Bool} {b : Text} {bs : Toks} → Good n b bs → Good n (125 ∷ b) (Mark (codes "}") ∷ bs)
l_brace {n} {b} {bs} good = record { on = λ t us h r. (close_brace (good.on t us h r)) }

pub l_else_line : {n : Bool} {b : Text} {bs : Toks} → Good n b bs → Good n (125 ∷ 32 ∷ 101 ∷ 108 ∷ 115 ∷ 101 ∷ 32 ∷ 123 ∷ b) (Mark (codes "}") ∷ Word (codes "else") ∷ Mark (codes "{") ∷ bs)
l_else_line {n} {b} {bs} good = record { on = λ t us h r. (close_brace (blank (word_reads (codes "else") (32 ∷ 123 ∷ (b ++ t)) (Mark (codes "{") ∷ (bs ++ us)) refl refl (blank (open_brace (good.on t us h r)))))) }

pub l_return : {n : Bool} {b : Text} {bs : Toks} → Good n b bs → Good n (114 ∷ 101 ∷ 116 ∷ 117 ∷ 114 ∷ 110 ∷ 32 ∷ b) (Word (codes "return") ∷ bs)
l_return {n} {b} {bs} good = record { on = λ t us h r. (word_reads (codes "return") (32 ∷ (b ++ t)) ((bs ++ us)) refl refl (blank (good.on t us h r))) }

pub l_return_end : {n : Bool} {b : Text} {bs : Toks} → Good n b bs → Good n (114 ∷ 101 ∷ 116 ∷ 117 ∷ 114 ∷ 110 ∷ 59 ∷ b) (Word (codes "return") ∷ Mark (codes ";") ∷ bs)
l_return_end {n} {b} {bs} good = record { on = λ t us h r. (word_reads (codes "return") (59 ∷ (b ++ t)) (Mark (codes ";") ∷ (bs ++ us)) refl refl (semicolon (good.on t us h r))) }

pub l_newline : {n : Bool} {b : Text} {bs : Toks} → Good n b bs → Good n (10 ∷ b) (bs)
l_newline {n} {b} {bs} good = record { on = λ t us h r. (newline (good.on t us h r)) }

pub l_colon : {n : Bool} {b : Text} {bs : Toks} → Good n b bs → Good n (58 ∷ 32 ∷ b) (Mark (codes ":") ∷ bs)
l_colon {n} {b} {bs} good = record { on = λ t us h r. (colon (good.on t us h r)) }

pub l_pub : {n : Bool} {b : Text} {bs : Toks} → Good n b bs → Good n (112 ∷ 117 ∷ 98 ∷ 32 ∷ b) (Word (codes "pub") ∷ bs)
l_pub {n} {b} {bs} good = record { on = λ t us h r. (word_reads (codes "pub") (32 ∷ (b ++ t)) ((bs ++ us)) refl refl (blank (good.on t us h r))) }

pub l_no_mangle : {n : Bool} {b : Text} {bs : Toks} → Good n b bs → Good n (35 ∷ 91 ∷ 110 ∷ 111 ∷ 95 ∷ 109 ∷ 97 ∷ 110 ∷ 103 ∷ 108 ∷ 101 ∷ 93 ∷ b) (Mark (codes "#") ∷ Mark (codes "[") ∷ Word (codes "no_mangle") ∷ Mark (codes "]") ∷ bs)
l_no_mangle {n} {b} {bs} good = record { on = λ t us h r. (hash (open_bracket (word_reads (codes "no_mangle") (93 ∷ (b ++ t)) (Mark (codes "]") ∷ (bs ++ us)) refl refl (close_bracket (good.on t us h r))))) }

pub l_repr : {n : Bool} {b : Text} {bs : Toks} → Good n b bs → Good n (35 ∷ 91 ∷ 114 ∷ 101 ∷ 112 ∷ 114 ∷ 40 ∷ 67 ∷ 41 ∷ 93 ∷ b) (Mark (codes "#") ∷ Mark (codes "[") ∷ Word (codes "repr") ∷ Mark (codes "(") ∷ Word (codes "C") ∷ Mark (codes ")") ∷ Mark (codes "]") ∷ bs)
l_repr {n} {b} {bs} good = record { on = λ t us h r. (hash (open_bracket (word_reads (codes "repr") (40 ∷ 67 ∷ 41 ∷ 93 ∷ (b ++ t)) (Mark (codes "(") ∷ Word (codes "C") ∷ Mark (codes ")") ∷ Mark (codes "]") ∷ (bs ++ us)) refl refl (open_paren (word_reads (codes "C") (41 ∷ 93 ∷ (b ++ t)) (Mark (codes ")") ∷ Mark (codes "]") ∷ (bs ++ us)) refl refl (close_paren (close_bracket (good.on t us h r)))))))) }

pub l_align : {n : Bool} {b : Text} {bs : Toks} → Good n b bs → Good n (35 ∷ 91 ∷ 114 ∷ 101 ∷ 112 ∷ 114 ∷ 40 ∷ 67 ∷ 44 ∷ 32 ∷ 97 ∷ 108 ∷ 105 ∷ 103 ∷ 110 ∷ 40 ∷ b) (Mark (codes "#") ∷ Mark (codes "[") ∷ Word (codes "repr") ∷ Mark (codes "(") ∷ Word (codes "C") ∷ Mark (codes ",") ∷ Word (codes "align") ∷ Mark (codes "(") ∷ bs)
l_align {n} {b} {bs} good = record { on = λ t us h r. (hash (open_bracket (word_reads (codes "repr") (40 ∷ 67 ∷ 44 ∷ 32 ∷ 97 ∷ 108 ∷ 105 ∷ 103 ∷ 110 ∷ 40 ∷ (b ++ t)) (Mark (codes "(") ∷ Word (codes "C") ∷ Mark (codes ",") ∷ Word (codes "align") ∷ Mark (codes "(") ∷ (bs ++ us)) refl refl (open_paren (word_reads (codes "C") (44 ∷ 32 ∷ 97 ∷ 108 ∷ 105 ∷ 103 ∷ 110 ∷ 40 ∷ (b ++ t)) (Mark (codes ",") ∷ Word (codes "align") ∷ Mark (codes "(") ∷ (bs ++ us)) refl refl (comma (blank (word_reads (codes "align") (40 ∷ (b ++ t)) (Mark (codes "(") ∷ (bs ++ us)) refl refl (open_paren (good.on t us h r)))))))))) }

pub l_align_end : {n : Bool} {b : Text} {bs : Toks} → Good n b bs → Good n (41 ∷ 41 ∷ 93 ∷ b) (Mark (codes ")") ∷ Mark (codes ")") ∷ Mark (codes "]") ∷ bs)
l_align_end {n} {b} {bs} good = record { on = λ t us h r. (close_paren (close_paren (close_bracket (good.on t us h r)))) }

pub l_derive : {n : Bool} {b : Text} {bs : Toks} → Good n b bs → Good n (35 ∷ 91 ∷ 100 ∷ 101 ∷ 114 ∷ 105 ∷ 118 ∷ 101 ∷ 40 ∷ 67 ∷ 111 ∷ 112 ∷ 121 ∷ 44 ∷ 32 ∷ 67 ∷ 108 ∷ 111 ∷ 110 ∷ 101 ∷ 41 ∷ 93 ∷ b) (Mark (codes "#") ∷ Mark (codes "[") ∷ Word (codes "derive") ∷ Mark (codes "(") ∷ Word (codes "Copy") ∷ Mark (codes ",") ∷ Word (codes "Clone") ∷ Mark (codes ")") ∷ Mark (codes "]") ∷ bs)
l_derive {n} {b} {bs} good = record { on = λ t us h r. (hash (open_bracket (word_reads (codes "derive") (40 ∷ 67 ∷ 111 ∷ 112 ∷ 121 ∷ 44 ∷ 32 ∷ 67 ∷ 108 ∷ 111 ∷ 110 ∷ 101 ∷ 41 ∷ 93 ∷ (b ++ t)) (Mark (codes "(") ∷ Word (codes "Copy") ∷ Mark (codes ",") ∷ Word (codes "Clone") ∷ Mark (codes ")") ∷ Mark (codes "]") ∷ (bs ++ us)) refl refl (open_paren (word_reads (codes "Copy") (44 ∷ 32 ∷ 67 ∷ 108 ∷ 111 ∷ 110 ∷ 101 ∷ 41 ∷ 93 ∷ (b ++ t)) (Mark (codes ",") ∷ Word (codes "Clone") ∷ Mark (codes ")") ∷ Mark (codes "]") ∷ (bs ++ us)) refl refl (comma (blank (word_reads (codes "Clone") (41 ∷ 93 ∷ (b ++ t)) (Mark (codes ")") ∷ Mark (codes "]") ∷ (bs ++ us)) refl refl (close_paren (close_bracket (good.on t us h r))))))))))) }

pub l_struct : {n : Bool} {b : Text} {bs : Toks} → Good n b bs → Good n (115 ∷ 116 ∷ 114 ∷ 117 ∷ 99 ∷ 116 ∷ 32 ∷ b) (Word (codes "struct") ∷ bs)
l_struct {n} {b} {bs} good = record { on = λ t us h r. (word_reads (codes "struct") (32 ∷ (b ++ t)) ((bs ++ us)) refl refl (blank (good.on t us h r))) }

pub l_union : {n : Bool} {b : Text} {bs : Toks} → Good n b bs → Good n (117 ∷ 110 ∷ 105 ∷ 111 ∷ 110 ∷ 32 ∷ b) (Word (codes "union") ∷ bs)
l_union {n} {b} {bs} good = record { on = λ t us h r. (word_reads (codes "union") (32 ∷ (b ++ t)) ((bs ++ us)) refl refl (blank (good.on t us h r))) }

pub l_pub_static : {n : Bool} {b : Text} {bs : Toks} → Good n b bs → Good n (112 ∷ 117 ∷ 98 ∷ 32 ∷ 115 ∷ 116 ∷ 97 ∷ 116 ∷ 105 ∷ 99 ∷ 32 ∷ 109 ∷ 117 ∷ 116 ∷ 32 ∷ b) (Word (codes "pub") ∷ Word (codes "static") ∷ Word (codes "mut") ∷ bs)
l_pub_static {n} {b} {bs} good = record { on = λ t us h r. (word_reads (codes "pub") (32 ∷ 115 ∷ 116 ∷ 97 ∷ 116 ∷ 105 ∷ 99 ∷ 32 ∷ 109 ∷ 117 ∷ 116 ∷ 32 ∷ (b ++ t)) (Word (codes "static") ∷ Word (codes "mut") ∷ (bs ++ us)) refl refl (blank (word_reads (codes "static") (32 ∷ 109 ∷ 117 ∷ 116 ∷ 32 ∷ (b ++ t)) (Word (codes "mut") ∷ (bs ++ us)) refl refl (blank (word_reads (codes "mut") (32 ∷ (b ++ t)) ((bs ++ us)) refl refl (blank (good.on t us h r))))))) }

pub l_zeroed_static : {n : Bool} {b : Text} {bs : Toks} → Good n b bs → Good n (117 ∷ 110 ∷ 115 ∷ 97 ∷ 102 ∷ 101 ∷ 32 ∷ 123 ∷ 32 ∷ 99 ∷ 111 ∷ 114 ∷ 101 ∷ 58 ∷ 58 ∷ 109 ∷ 101 ∷ 109 ∷ 58 ∷ 58 ∷ 122 ∷ 101 ∷ 114 ∷ 111 ∷ 101 ∷ 100 ∷ 40 ∷ 41 ∷ 32 ∷ 125 ∷ b) (Word (codes "unsafe") ∷ Mark (codes "{") ∷ Word (codes "core") ∷ Mark (codes "::") ∷ Word (codes "mem") ∷ Mark (codes "::") ∷ Word (codes "zeroed") ∷ Mark (codes "(") ∷ Mark (codes ")") ∷ Mark (codes "}") ∷ bs)
l_zeroed_static {n} {b} {bs} good = record { on = λ t us h r. (word_reads (codes "unsafe") (32 ∷ 123 ∷ 32 ∷ 99 ∷ 111 ∷ 114 ∷ 101 ∷ 58 ∷ 58 ∷ 109 ∷ 101 ∷ 109 ∷ 58 ∷ 58 ∷ 122 ∷ 101 ∷ 114 ∷ 111 ∷ 101 ∷ 100 ∷ 40 ∷ 41 ∷ 32 ∷ 125 ∷ (b ++ t)) (Mark (codes "{") ∷ Word (codes "core") ∷ Mark (codes "::") ∷ Word (codes "mem") ∷ Mark (codes "::") ∷ Word (codes "zeroed") ∷ Mark (codes "(") ∷ Mark (codes ")") ∷ Mark (codes "}") ∷ (bs ++ us)) refl refl (blank (open_brace (blank (word_reads (codes "core") (58 ∷ 58 ∷ 109 ∷ 101 ∷ 109 ∷ 58 ∷ 58 ∷ 122 ∷ 101 ∷ 114 ∷ 111 ∷ 101 ∷ 100 ∷ 40 ∷ 41 ∷ 32 ∷ 125 ∷ (b ++ t)) (Mark (codes "::") ∷ Word (codes "mem") ∷ Mark (codes "::") ∷ Word (codes "zeroed") ∷ Mark (codes "(") ∷ Mark (codes ")") ∷ Mark (codes "}") ∷ (bs ++ us)) refl refl (path_mark (word_reads (codes "mem") (58 ∷ 58 ∷ 122 ∷ 101 ∷ 114 ∷ 111 ∷ 101 ∷ 100 ∷ 40 ∷ 41 ∷ 32 ∷ 125 ∷ (b ++ t)) (Mark (codes "::") ∷ Word (codes "zeroed") ∷ Mark (codes "(") ∷ Mark (codes ")") ∷ Mark (codes "}") ∷ (bs ++ us)) refl refl (path_mark (word_reads (codes "zeroed") (40 ∷ 41 ∷ 32 ∷ 125 ∷ (b ++ t)) (Mark (codes "(") ∷ Mark (codes ")") ∷ Mark (codes "}") ∷ (bs ++ us)) refl refl (open_paren (close_paren (blank (close_brace (good.on t us h r)))))))))))))) }

pub l_pub_fn : {n : Bool} {b : Text} {bs : Toks} → Good n b bs → Good n (112 ∷ 117 ∷ 98 ∷ 32 ∷ 102 ∷ 110 ∷ 32 ∷ b) (Word (codes "pub") ∷ Word (codes "fn") ∷ bs)
l_pub_fn {n} {b} {bs} good = record { on = λ t us h r. (word_reads (codes "pub") (32 ∷ 102 ∷ 110 ∷ 32 ∷ (b ++ t)) (Word (codes "fn") ∷ (bs ++ us)) refl refl (blank (word_reads (codes "fn") (32 ∷ (b ++ t)) ((bs ++ us)) refl refl (blank (good.on t us h r))))) }

pub l_dots : {n : Bool} {b : Text} {bs : Toks} → Good n b bs → Good n (44 ∷ 32 ∷ 46 ∷ 46 ∷ 46 ∷ 41 ∷ b) (Mark (codes ",") ∷ Mark (codes "...") ∷ Mark (codes ")") ∷ bs)
l_dots {n} {b} {bs} good = record { on = λ t us h r. (comma (blank (ellipsis (close_paren (good.on t us h r))))) }

pub l_mut : {n : Bool} {b : Text} {bs : Toks} → Good n b bs → Good n (109 ∷ 117 ∷ 116 ∷ 32 ∷ b) (Word (codes "mut") ∷ bs)
l_mut {n} {b} {bs} good = record { on = λ t us h r. (word_reads (codes "mut") (32 ∷ (b ++ t)) ((bs ++ us)) refl refl (blank (good.on t us h r))) }

pub l_function : {n : Bool} {b : Text} {bs : Toks} → Good n b bs → Good n (112 ∷ 117 ∷ 98 ∷ 32 ∷ 117 ∷ 110 ∷ 115 ∷ 97 ∷ 102 ∷ 101 ∷ 32 ∷ 101 ∷ 120 ∷ 116 ∷ 101 ∷ 114 ∷ 110 ∷ 32 ∷ 34 ∷ 67 ∷ 34 ∷ 32 ∷ 102 ∷ 110 ∷ 32 ∷ b) (Word (codes "pub") ∷ Word (codes "unsafe") ∷ Word (codes "extern") ∷ Quoted (codes "C") ∷ Word (codes "fn") ∷ bs)
l_function {n} {b} {bs} good = record { on = λ t us h r. (word_reads (codes "pub") (32 ∷ 117 ∷ 110 ∷ 115 ∷ 97 ∷ 102 ∷ 101 ∷ 32 ∷ 101 ∷ 120 ∷ 116 ∷ 101 ∷ 114 ∷ 110 ∷ 32 ∷ 34 ∷ 67 ∷ 34 ∷ 32 ∷ 102 ∷ 110 ∷ 32 ∷ (b ++ t)) (Word (codes "unsafe") ∷ Word (codes "extern") ∷ Quoted (codes "C") ∷ Word (codes "fn") ∷ (bs ++ us)) refl refl (blank (word_reads (codes "unsafe") (32 ∷ 101 ∷ 120 ∷ 116 ∷ 101 ∷ 114 ∷ 110 ∷ 32 ∷ 34 ∷ 67 ∷ 34 ∷ 32 ∷ 102 ∷ 110 ∷ 32 ∷ (b ++ t)) (Word (codes "extern") ∷ Quoted (codes "C") ∷ Word (codes "fn") ∷ (bs ++ us)) refl refl (blank (word_reads (codes "extern") (32 ∷ 34 ∷ 67 ∷ 34 ∷ 32 ∷ 102 ∷ 110 ∷ 32 ∷ (b ++ t)) (Quoted (codes "C") ∷ Word (codes "fn") ∷ (bs ++ us)) refl refl (blank (quoted_reads (codes "C") (32 ∷ 102 ∷ 110 ∷ 32 ∷ (b ++ t)) (Word (codes "fn") ∷ (bs ++ us)) refl refl (blank (word_reads (codes "fn") (32 ∷ (b ++ t)) ((bs ++ us)) refl refl (blank (good.on t us h r))))))))))) }

pub l_let : {n : Bool} {b : Text} {bs : Toks} → Good n b bs → Good n (108 ∷ 101 ∷ 116 ∷ 32 ∷ 109 ∷ 117 ∷ 116 ∷ 32 ∷ b) (Word (codes "let") ∷ Word (codes "mut") ∷ bs)
l_let {n} {b} {bs} good = record { on = λ t us h r. (word_reads (codes "let") (32 ∷ 109 ∷ 117 ∷ 116 ∷ 32 ∷ (b ++ t)) (Word (codes "mut") ∷ (bs ++ us)) refl refl (blank (word_reads (codes "mut") (32 ∷ (b ++ t)) ((bs ++ us)) refl refl (blank (good.on t us h r))))) }

pub l_zeroed : {n : Bool} {b : Text} {bs : Toks} → Good n b bs → Good n (32 ∷ 61 ∷ 32 ∷ 99 ∷ 111 ∷ 114 ∷ 101 ∷ 58 ∷ 58 ∷ 109 ∷ 101 ∷ 109 ∷ 58 ∷ 58 ∷ 122 ∷ 101 ∷ 114 ∷ 111 ∷ 101 ∷ 100 ∷ 40 ∷ 41 ∷ 59 ∷ b) (Mark (codes "=") ∷ Word (codes "core") ∷ Mark (codes "::") ∷ Word (codes "mem") ∷ Mark (codes "::") ∷ Word (codes "zeroed") ∷ Mark (codes "(") ∷ Mark (codes ")") ∷ Mark (codes ";") ∷ bs)
l_zeroed {n} {b} {bs} good = record { on = λ t us h r. (blank (equal (word_reads (codes "core") (58 ∷ 58 ∷ 109 ∷ 101 ∷ 109 ∷ 58 ∷ 58 ∷ 122 ∷ 101 ∷ 114 ∷ 111 ∷ 101 ∷ 100 ∷ 40 ∷ 41 ∷ 59 ∷ (b ++ t)) (Mark (codes "::") ∷ Word (codes "mem") ∷ Mark (codes "::") ∷ Word (codes "zeroed") ∷ Mark (codes "(") ∷ Mark (codes ")") ∷ Mark (codes ";") ∷ (bs ++ us)) refl refl (path_mark (word_reads (codes "mem") (58 ∷ 58 ∷ 122 ∷ 101 ∷ 114 ∷ 111 ∷ 101 ∷ 100 ∷ 40 ∷ 41 ∷ 59 ∷ (b ++ t)) (Mark (codes "::") ∷ Word (codes "zeroed") ∷ Mark (codes "(") ∷ Mark (codes ")") ∷ Mark (codes ";") ∷ (bs ++ us)) refl refl (path_mark (word_reads (codes "zeroed") (40 ∷ 41 ∷ 59 ∷ (b ++ t)) (Mark (codes "(") ∷ Mark (codes ")") ∷ Mark (codes ";") ∷ (bs ++ us)) refl refl (open_paren (close_paren (semicolon (good.on t us h r))))))))))) }

pub l_extern : {n : Bool} {b : Text} {bs : Toks} → Good n b bs → Good n (101 ∷ 120 ∷ 116 ∷ 101 ∷ 114 ∷ 110 ∷ 32 ∷ 34 ∷ 67 ∷ 34 ∷ 32 ∷ 123 ∷ b) (Word (codes "extern") ∷ Quoted (codes "C") ∷ Mark (codes "{") ∷ bs)
l_extern {n} {b} {bs} good = record { on = λ t us h r. (word_reads (codes "extern") (32 ∷ 34 ∷ 67 ∷ 34 ∷ 32 ∷ 123 ∷ (b ++ t)) (Quoted (codes "C") ∷ Mark (codes "{") ∷ (bs ++ us)) refl refl (blank (quoted_reads (codes "C") (32 ∷ 123 ∷ (b ++ t)) (Mark (codes "{") ∷ (bs ++ us)) refl refl (blank (open_brace (good.on t us h r)))))) }

-- ---- words

pub word_good : (w : Text) → is_wordy w ≡ true → Good true w (Word w ∷ [])
word_good w h = record { on = λ t us s r. word_reads w t us h (mild_of t (s refl)) r }

pub name_good : (x : Text) → is_identifier x ≡ true → Good true x (Word x ∷ [])
name_good x v = record { on = λ t us s r. name_reads x t us v (mild_of t (s refl)) r }

-- ---- types

-- a type, behind which ends of lists of types may stand
pub record TyGood (a : Text) (xs : Toks) : Type 0 where
  pub on : (k : ℕ) (t : Text) (us : Toks) → soft t ≡ true → Reads t us → Reads (a ++ angles k t) (xs ++ closes k us)

pub ty_to_good : {a : Text} {xs : Toks} → TyGood a xs → Good true a xs
ty_to_good good = record { on = λ t us s r. good.on 0 t us (s refl) r }

-- what has no word at its end
good_to_ty : {a : Text} {xs : Toks} → Good false a xs → TyGood a xs
good_to_ty good = record { on = λ k t us s r. good.on (angles k t) (closes k us) (λ e. let f : false ≡ true = e in cc) (closes_read k t us s r) }

word_ty_good : (w : Text) → is_wordy w ≡ true → TyGood w (Word w ∷ [])
word_ty_good w h = record { on = λ k t us s r. word_reads w (angles k t) (closes k us) h (angles_mild k t s) (closes_read k t us s r) }

integer_wordy : (k : IntegerTy) → is_wordy (integer_word k) ≡ true
integer_wordy I8 = refl
integer_wordy I16 = refl
integer_wordy I32 = refl
integer_wordy I64 = refl
integer_wordy U8 = refl
integer_wordy U16 = refl
integer_wordy U32 = refl
integer_wordy U64 = refl
integer_wordy Isize = refl
integer_wordy Usize = refl

void_good : TyGood (ty_text Void) (ty_tokens Void)
void_good = record {
  on = λ k t us s r.
      word_reads (codes "core") (codes "::ffi::c_void" ++ angles k t) (Mark (codes "::") ∷ Word (codes "ffi") ∷ Mark (codes "::") ∷ Word (codes "c_void") ∷ closes k us) refl refl
      (path_mark (word_reads (codes "ffi") (codes "::c_void" ++ angles k t) (Mark (codes "::") ∷ Word (codes "c_void") ∷ closes k us) refl refl
      (path_mark (word_reads (codes "c_void") (angles k t) (closes k us) refl (angles_mild k t s) (closes_read k t us s r)))));
}

-- `crate::m::x`
path_reads : (m x t : Text) (us : Toks) → valid_path m x ≡ true → mild t ≡ true → Reads t us → Reads (item_path m x ++ t) (spelling.item_path m x ++ us)
path_reads m x t us v h r =
    let parts = and_parts (is_plain_identifier m) (is_identifier x) v in
    let last : Reads (x ++ t) (Word x ∷ us) = name_reads x t us parts.1 h r in
    let middle : Reads (m ++ (58 ∷ 58 ∷ (x ++ t))) (Word m ∷ Mark (codes "::") ∷ Word x ∷ us) = plain_reads m (58 ∷ 58 ∷ (x ++ t)) (Mark (codes "::") ∷ Word x ∷ us) parts.0 refl (path_mark last) in
    let same : (m ++ (58 ∷ 58 ∷ x)) ++ t ≡ m ++ (58 ∷ 58 ∷ (x ++ t)) = append_assoc m (58 ∷ 58 ∷ x) t in
    word_reads (codes "crate") (58 ∷ 58 ∷ ((m ++ (58 ∷ 58 ∷ x)) ++ t)) (Mark (codes "::") ∷ Word m ∷ Mark (codes "::") ∷ Word x ∷ us) refl refl
    (path_mark (subst (λ (l : Text). Reads l (Word m ∷ Mark (codes "::") ∷ Word x ∷ us)) (sym same) middle))

path_ty_good : (m x : Text) → valid_path m x ≡ true → TyGood (item_path m x) (spelling.item_path m x)
path_ty_good m x v = record { on = λ k t us s r. path_reads m x (angles k t) (closes k us) v (angles_mild k t s) (closes_read k t us s r) }

path_good : (m x : Text) → valid_path m x ≡ true → Good true (item_path m x) (spelling.item_path m x)
path_good m x v = record { on = λ t us s r. path_reads m x t us v (mild_of t (s refl)) r }

-- a prefix before a type
ty_after : {a b : Text} {xs bs : Toks} → Good false a xs → TyGood b bs → TyGood (a ++ b) (xs ++ bs)
ty_after {a} {b} {xs} {bs} first next = record {
  on = λ k t us s r.
      let behind : Reads (a ++ (b ++ angles k t)) (xs ++ (bs ++ closes k us)) = first.on (b ++ angles k t) (bs ++ closes k us) (λ e. let f : false ≡ true = e in cc) (next.on k t us s r) in
      moved a b xs bs (angles k t) (closes k us) behind;
}

ty_moved : {a b : Text} {xs ys : Toks} → a ≡ b → xs ≡ ys → TyGood a xs → TyGood b ys
ty_moved {a} {b} {xs} {ys} e f good = subst (λ (l : Text). TyGood l ys) e (subst (λ (l : Toks). TyGood a l) f good)

pub good_moved : {n : Bool} {a b : Text} {xs ys : Toks} → a ≡ b → xs ≡ ys → Good n a xs → Good n b ys
good_moved {n} {a} {b} {xs} {ys} e f good = subst (λ (l : Text). Good n l ys) e (subst (λ (l : Toks). Good n a l) f good)

-- one more end of a list of types
ended : {a : Text} {xs : Toks} → TyGood a xs → TyGood (a ++ codes ">") (xs ++ Close ∷ [])
ended {a} {xs} good = record { on = λ k t us s r. moved a (codes ">") xs (Close ∷ []) (angles k t) (closes k us) (good.on (suc k) t us s r) }

all_both : (xs ys : Text) → list_all is_word_byte xs ≡ true → list_all is_word_byte ys ≡ true → list_all is_word_byte (xs ++ ys) ≡ true
all_both [] ys a b = b
all_both (x ∷ xs) ys a b =
    let parts = and_parts (is_word_byte x) (list_all is_word_byte xs) a in ap (λ c. c && list_all is_word_byte (xs ++ ys)) parts.0 ∙ all_both xs ys parts.1 b

-- decimal digits are a word
digit_wordy : (xs : Text) → list_all is_digit xs ≡ true → list_all is_word_byte xs ≡ true
digit_wordy [] h = refl
digit_wordy (x ∷ xs) h =
    let parts = and_parts (is_digit x) (list_all is_digit xs) h in
    ap (λ b. (b || (nat_le 65 x && nat_le x 90) || (nat_le 97 x && nat_le x 122) || x == 95) && list_all is_word_byte xs) parts.0 ∙ digit_wordy xs parts.1

wordy_by : (xs ys : Text) → begins_with_digit xs ≡ true → list_all is_word_byte xs ≡ true → list_all is_word_byte ys ≡ true → is_wordy (xs ++ ys) ≡ true
wordy_by [] ys first a b = cc
wordy_by (x ∷ xs) ys first a b = all_both (x ∷ xs) ys a b

written_wordy : (n : ℕ) (ys : Text) → n < 10 ^ 64 → list_all is_word_byte ys ≡ true → is_wordy (decimal n ++ ys) ≡ true
written_wordy n ys h all = let w = written n h in wordy_by (decimal n) ys w.first (digit_wordy (decimal n) w.all) all

pub digits_good : (n : ℕ) → n < 10 ^ 64 → Good true (decimal n) (Word (decimal n) ∷ [])
digits_good n h = word_good (decimal n) (subst (λ (l : Text). is_wordy l ≡ true) (append-nil (decimal n)) (written_wordy n [] h refl))

wide : (n : ℕ) → is_length n ≡ true → n < 10 ^ 64
wide n v = let l : n < 2 ^ 64 = grind (arith, nat_tests, v) in omega (arith, l)

-- the type of a function in a list of types
code_good : {l res : Text} {ls rs : Toks} → Good true l ls → TyGood res rs →
    TyGood (codes "Option<" ++ (codes "unsafe extern \"C\" fn(" ++ (l ++ (codes ")" ++ (res ++ codes ">")))))
    (Word (codes "Option") ∷ spelling.in_angles (spelling.unsafe_extern_fn ++ (Mark (codes "(") ∷ (ls ++ Mark (codes ")") ∷ []) ++ rs)))
code_good {l} {res} {ls} {rs} params last =
    let tail : TyGood (res ++ codes ">") (rs ++ Close ∷ []) = ended last in
    let list : Good false (l ++ codes ")") (ls ++ Mark (codes ")") ∷ []) = soft_then params (l_close nothing) (λ t s. refl) in
    let whole : TyGood ((l ++ codes ")") ++ (res ++ codes ">")) ((ls ++ Mark (codes ")") ∷ []) ++ (rs ++ Close ∷ [])) = ty_after list tail in
    let head : Good false (codes "Option<unsafe extern \"C\" fn(") (Word (codes "Option") ∷ Mark (codes "<") ∷ Word (codes "unsafe") ∷ Word (codes "extern") ∷ Quoted (codes "C") ∷ Word (codes "fn") ∷ Mark (codes "(") ∷ []) = l_option nothing in
    let texts : (l ++ codes ")") ++ (res ++ codes ">") ≡ l ++ (codes ")" ++ (res ++ codes ">")) = append_assoc l (codes ")") (res ++ codes ">") in
    let toks : (ls ++ Mark (codes ")") ∷ []) ++ (rs ++ Close ∷ []) ≡ ((ls ++ Mark (codes ")") ∷ []) ++ rs) ++ Close ∷ [] = sym (append_assoc (ls ++ Mark (codes ")") ∷ []) rs (Close ∷ [])) in
    ty_after head (ty_moved texts toks whole)

tys_soft : (ts : Tys) (t : Text) → (true ≡ true → soft t ≡ true) → soft (behind_commas (tys_texts ts) ++ t) ≡ true
tys_soft no_tys t h = h refl
tys_soft (more_tys x ts) t h = refl

mutual
  pub ty_good : (t : Ty) → valid_target t ≡ true → TyGood (ty_text t) (ty_tokens t)
  ty_good (Integer k) v = word_ty_good (integer_word k) (integer_wordy k)
  ty_good Boolean v = word_ty_good (codes "bool") refl
  ty_good Void v = void_good
  ty_good (Pointer t) v = ty_after (l_star_mut nothing) (ty_good t v)
  ty_good (Array t size) v =
      let parts = and_parts (valid_ty t) (is_length size) v in
      good_to_ty (good_moved refl (ap (λ (l : Toks). Mark (codes "[") ∷ l) (sym (append_assoc (ty_tokens t) (Mark (codes ";") ∷ Word (decimal size) ∷ []) (Mark (codes "]") ∷ []))))
      (l_open_bracket (soft_then (ty_to_good (ty_good t (is_target t parts.0))) (l_semicolon (soft_then (digits_good size (wide size parts.1)) (l_close_bracket nothing) (λ t s. refl))) (λ t s. refl))))
  ty_good (Code params r) v =
      let parts = and_parts (valid_tys params) (valid_result r) v in
      code_good (tys_good params parts.0) (result_good r parts.1)
  ty_good (Record m x) v = path_ty_good m x v

  tys_good : (ts : Tys) → valid_tys ts ≡ true → Good true (listed (tys_texts ts)) (spelling.listed (tys_parts ts))
  tys_good no_tys v = nothing
  tys_good (more_tys t ts) v =
      let parts = and_parts (valid_ty t) (valid_tys ts) v in
      soft_then (ty_to_good (ty_good t (is_target t parts.0))) (tys_behind ts parts.1) (tys_soft ts)

  tys_behind : (ts : Tys) → valid_tys ts ≡ true → Good true (behind_commas (tys_texts ts)) (spelling.behind_commas (tys_parts ts))
  tys_behind no_tys v = nothing
  tys_behind (more_tys t ts) v =
      let parts = and_parts (valid_ty t) (valid_tys ts) v in
      l_comma (soft_then (ty_to_good (ty_good t (is_target t parts.0))) (tys_behind ts parts.1) (tys_soft ts))

  pub result_good : (r : OptionTy) → valid_result r ≡ true → TyGood (result_text r) (result_tokens r)
  result_good no_ty v = record { on = λ k t us s r. closes_read k t us s r }
  result_good (some_ty t) v = ty_after (l_arrow nothing) (ty_good t (is_target t v))

-- ---- where an operand or a type begins

abbrev Hard : Text → Type 0
Hard a = (t : Text) → hard (a ++ t) ≡ true

hard_front : (a b : Text) → Hard a → Hard (a ++ b)
hard_front a b h t = subst (λ (l : Text). hard l ≡ true) (sym (append_assoc a b t)) (h (b ++ t))

wordy_hard : (w : Text) → is_wordy w ≡ true → Hard w
wordy_hard [] h t = cc
wordy_hard (c ∷ cs) h t = let first = (and_parts (is_word_byte c) (list_all is_word_byte cs) h).0 in ap (λ b. b || c == 40 || c == 42 || c == 91) first

name_hard : (x : Text) → is_identifier x ≡ true → Hard x
name_hard x v = by_kind (is_plain_identifier x) (is_raw_identifier x) v (λ plain. wordy_hard x (word_wordy x (plain_parts x plain).word))
    (λ raw t. ap (λ (l : Text). hard (l ++ t)) (raw_form x (and_parts (starts_with nat_eq x (codes "r#")) (is_among keywords (drop 2 x)) raw).0))
  where
    by_kind : (a b : Bool) → (a || b) ≡ true → (a ≡ true → Hard x) → (b ≡ true → Hard x) → Hard x
    by_kind true b h one other = one refl
    by_kind false b h one other = other h

ty_hard : (t : Ty) → valid_target t ≡ true → Hard (ty_text t)
ty_hard (Integer k) v = wordy_hard (integer_word k) (integer_wordy k)
ty_hard Boolean v = λ t. refl
ty_hard Void v = λ t. refl
ty_hard (Pointer x) v = λ t. refl
ty_hard (Array x size) v = λ t. refl
ty_hard (Code params r) v = λ t. refl
ty_hard (Record m x) v = λ t. refl

-- ---- literals

integer_bytes : (k : IntegerTy) → list_all is_word_byte (integer_word k) ≡ true
integer_bytes I8 = refl
integer_bytes I16 = refl
integer_bytes I32 = refl
integer_bytes I64 = refl
integer_bytes U8 = refl
integer_bytes U16 = refl
integer_bytes U32 = refl
integer_bytes U64 = refl
integer_bytes Isize = refl
integer_bytes Usize = refl

value_wide : (n : ℕ) → nat_lt n (2 ^ 127) ≡ true → n < 10 ^ 64
value_wide n v = let l : n < 2 ^ 127 = grind (arith, nat_tests, v) in omega (arith, l)

literal_wordy : (n : ℕ) (k : IntegerTy) → nat_lt n (2 ^ 127) ≡ true → is_wordy (decimal n ++ integer_word k) ≡ true
literal_wordy n k v = written_wordy n (integer_word k) (value_wide n v) (integer_bytes k)

pub literal_good : (n : ℤ) (k : IntegerTy) → is_value n ≡ true → Good true (literal_text n k) (literal_tokens n k)
literal_good (pos n) k v = word_good (decimal n ++ integer_word k) (literal_wordy n k v)
literal_good (negsuc n) k v = l_minus (wordy_hard (decimal (suc n) ++ integer_word k) (literal_wordy (suc n) k v)) (word_good (decimal (suc n) ++ integer_word k) (literal_wordy (suc n) k v))

-- ---- expressions

abbrev op_text : Expr → Text
op_text e = text.operand (is_compound e) (expr_text e)

abbrev op : Expr → Toks
op e = spelling.operand (is_compound e) (expr_tokens e)

operand_good : (b : Bool) {a : Text} {xs : Toks} → Good true a xs → Good true (text.operand b a) (spelling.operand b xs)
operand_good false inner = inner
operand_good true inner = l_open (soft_then inner (l_close nothing) (λ t s. refl))

address_hard : (a : Text) → Hard (address_of ++ (a ++ codes ")"))
unfolding address_of
address_hard a t = refl

null_hard : (a : Text) → Hard (null_of ++ (a ++ codes ">()"))
unfolding null_of
null_hard a t = refl

transmute_hard : (a : Text) → Hard (transmute_of ++ a)
unfolding transmute_of
transmute_hard a t = refl

place_hard : (p : Place) → valid_place p ≡ true → Hard (op_text (Read p))
place_hard (Local x) v = name_hard x v
place_hard (Static m x) v = λ t. refl
place_hard (Deref e) v = λ t. refl
place_hard (Field p f) v = hard_front (op_text (Read p)) (codes "." ++ f) (place_hard p (and_parts (valid_place p) (is_identifier f) v).0)

op_hard : (e : Expr) → valid_expr e ≡ true → Hard (op_text e)
op_hard (Literal (pos n) k) v = wordy_hard (decimal n ++ integer_word k) (literal_wordy n k v)
op_hard (Literal (negsuc n) k) v = λ t. refl
op_hard (Truth true) v = λ t. refl
op_hard (Truth false) v = λ t. refl
op_hard NoFunction v = λ t. refl
op_hard (Read p) v = place_hard p v
op_hard (Call m x args) v = λ t. refl
op_hard (CallBy e args) v = hard_front (op_text e) _ (op_hard e (and_parts (valid_expr e) (valid_exprs args) v).0)
op_hard (Wrapped e o arg) v = hard_front (op_text e) _ (op_hard e (and_parts (valid_expr e) (valid_expr arg) v).0)
op_hard (WrappingNeg e) v = hard_front (op_text e) _ (op_hard e v)
op_hard (Offset e arg) v = hard_front (op_text e) _ (op_hard e (and_parts (valid_expr e) (valid_expr arg) v).0)
op_hard (OffsetFrom e arg) v = hard_front (op_text e) _ (op_hard e (and_parts (valid_expr e) (valid_expr arg) v).0)
op_hard (IsNull e) v = hard_front (op_text e) _ (op_hard e v)
op_hard (IsNone e) v = hard_front (op_text e) _ (op_hard e v)
op_hard (AddressOf p) v = address_hard (place_text p)
op_hard (NullPointer x) v = null_hard (ty_text x)
op_hard (SomeFunction m x params r) v = λ t. refl
op_hard (Transmute from to e) v = transmute_hard _
op_hard (Neg e) v = λ t. refl
op_hard (Not e) v = λ t. refl
op_hard (Cast e x) v = λ t. refl
op_hard (Binary left o right) v = λ t. refl
op_hard (And left right) v = λ t. refl
op_hard (Or left right) v = λ t. refl
op_hard (Choose c a b) v = λ t. refl

-- an argument and the parenthesis behind it
arg_good : {arg : Text} {args : Toks} → Good true arg args → Good false (arg ++ codes ")") (args ++ Mark (codes ")") ∷ [])
arg_good inner = soft_then inner (l_close nothing) (λ t s. refl)

path_then : (m x : Text) {b : Text} {bs : Toks} → valid_path m x ≡ true → Good true b bs → Good true (item_path m x ++ (codes "(" ++ (b ++ codes ")"))) (spelling.item_path m x ++ spelling.in_parentheses bs)
path_then m x v inner = loosen (soft_then (path_good m x v) (l_open (soft_then inner (l_close nothing) (λ t s. refl))) (λ t s. refl))

address_good : {a : Text} {xs : Toks} → Good true a xs → Good true (address_of ++ (a ++ codes ")")) (spelling.path_tokens (codes "core" ∷ codes "ptr" ∷ codes "addr_of_mut" ∷ []) ++ (Mark (codes "!") ∷ spelling.in_parentheses xs))
unfolding address_of
address_good inner = loosen (l_address (soft_then inner (l_close nothing) (λ t s. refl)))

null_good : (x : Ty) → valid_target x ≡ true → Good true (expr_text (NullPointer x)) (expr_tokens (NullPointer x))
unfolding null_of
null_good x v =
    let inner : TyGood (ty_text x ++ codes ">") (ty_tokens x ++ Close ∷ []) = ended (ty_good x v) in
    let behind : Good true ((ty_text x ++ codes ">") ++ codes "()") ((ty_tokens x ++ Close ∷ []) ++ Mark (codes "(") ∷ Mark (codes ")") ∷ []) =
    soft_then (ty_to_good inner) (l_call_end nothing) (λ t s. refl) in
    good_moved (ap (λ (l : Text). codes "core::ptr::null_mut::<" ++ l) (append_assoc (ty_text x) (codes ">") (codes "()")))
    (ap (λ (l : Toks). spelling.path_tokens (codes "core" ∷ codes "ptr" ∷ codes "null_mut" ∷ []) ++ Mark (codes "::") ∷ Mark (codes "<") ∷ ((l ++ Close ∷ []) ++ Mark (codes "(") ∷ Mark (codes ")") ∷ [])) (sym (append-nil (ty_tokens x))))
    (l_null (λ t. hard_front (ty_text x ++ codes ">") (codes "()") (hard_front (ty_text x) (codes ">") (ty_hard x v)) t) behind)

transmute_good : (a b : Ty) {e : Text} {es : Toks} → valid_target a ≡ true → valid_target b ≡ true → Good true e es →
    Good true (transmute_of ++ (ty_text a ++ (codes ", " ++ (ty_text b ++ (codes ">(" ++ (e ++ codes ")"))))))
    (spelling.generic_call (codes "core" ∷ codes "mem" ∷ codes "transmute" ∷ []) (ty_tokens a ∷ ty_tokens b ∷ []) es)
unfolding transmute_of
transmute_good a b {e} {es} va vb inner =
    let second : TyGood (ty_text b ++ codes ">") (ty_tokens b ++ Close ∷ []) = ended (ty_good b vb) in
    let args : Good false (codes "(" ++ (e ++ codes ")")) (spelling.in_parentheses es) = l_open (soft_then inner (l_close nothing) (λ t s. refl)) in
    let tail : Good false ((ty_text b ++ codes ">") ++ (codes "(" ++ (e ++ codes ")"))) ((ty_tokens b ++ Close ∷ []) ++ spelling.in_parentheses es) = soft_then (ty_to_good second) args (λ t s. refl) in
    let whole : Good false (ty_text a ++ (codes ", " ++ ((ty_text b ++ codes ">") ++ (codes "(" ++ (e ++ codes ")"))))) (ty_tokens a ++ (Mark (codes ",") ∷ ((ty_tokens b ++ Close ∷ []) ++ spelling.in_parentheses es))) =
    soft_then (ty_to_good (ty_good a va)) (l_comma tail) (λ t s. refl) in
    let toks : ty_tokens a ++ (Mark (codes ",") ∷ ((ty_tokens b ++ Close ∷ []) ++ spelling.in_parentheses es)) ≡ ((ty_tokens a ++ Mark (codes ",") ∷ (ty_tokens b ++ [])) ++ Close ∷ []) ++ spelling.in_parentheses es =
    ap (λ (l : Toks). ty_tokens a ++ (Mark (codes ",") ∷ ((l ++ Close ∷ []) ++ spelling.in_parentheses es))) (sym (append-nil (ty_tokens b)))
    ∙ sym (append_assoc (ty_tokens a) (Mark (codes ",") ∷ ((ty_tokens b ++ []) ++ Close ∷ [])) (spelling.in_parentheses es))
    ∙ ap (λ (l : Toks). l ++ spelling.in_parentheses es) (sym (append_assoc (ty_tokens a) (Mark (codes ",") ∷ (ty_tokens b ++ [])) (Close ∷ []))) in
    loosen (good_moved (ap (λ (l : Text). codes "core::mem::transmute::<" ++ (ty_text a ++ (codes ", " ++ l))) (append_assoc (ty_text b) (codes ">") (codes "(" ++ (e ++ codes ")"))))
    (ap (λ (l : Toks). spelling.path_tokens (codes "core" ∷ codes "mem" ∷ codes "transmute" ∷ []) ++ Mark (codes "::") ∷ Mark (codes "<") ∷ l) toks)
    (l_transmute (λ t. hard_front (ty_text a) _ (ty_hard a va) t) whole))

-- the type of a function behind `as`
signature_good : (params : Tys) (r : OptionTy) → valid_tys params ≡ true → valid_result r ≡ true →
    Good false (signature (tys_texts params) (result_text r) (codes ")")) (spelling.signature (tys_parts params) (result_tokens r) ++ Mark (codes ")") ∷ [])
signature_good params r v w =
    let l : Toks = spelling.listed (tys_parts params) in
    let last : Good false (result_text r ++ codes ")") (result_tokens r ++ Mark (codes ")") ∷ []) = soft_then (ty_to_good (result_good r w)) (l_close nothing) (λ t s. refl) in
    good_moved refl
    (ap (λ (x : Toks). spelling.unsafe_extern_fn ++ Mark (codes "(") ∷ x)
    (sym (append_assoc l (Mark (codes ")") ∷ []) (result_tokens r ++ Mark (codes ")") ∷ [])) ∙ sym (append_assoc (l ++ Mark (codes ")") ∷ []) (result_tokens r) (Mark (codes ")") ∷ []))))
    (l_unsafe_fn (soft_then (tys_good params v) (l_close last) (λ t s. refl)))

some_good : (m x : Text) (params : Tys) (r : OptionTy) → valid_path m x ≡ true → valid_tys params ≡ true → valid_result r ≡ true →
    Good true (expr_text (SomeFunction m x params r)) (expr_tokens (SomeFunction m x params r))
some_good m x params r p v w =
    let sig : Toks = spelling.signature (tys_parts params) (result_tokens r) in
    let tail : Good false (codes " as " ++ signature (tys_texts params) (result_text r) (codes ")")) (Word (codes "as") ∷ (sig ++ Mark (codes ")") ∷ [])) = l_as (signature_good params r v w) in
    let head : Good false (codes "Some(") (Word (codes "Some") ∷ Mark (codes "(") ∷ []) = l_some_open nothing in
    loosen (good_moved refl (ap (λ (l : Toks). Word (codes "Some") ∷ Mark (codes "(") ∷ l) (sym (append_assoc (spelling.item_path m x) (Word (codes "as") ∷ sig) (Mark (codes ")") ∷ []))))
    (free_then head (soft_then (path_good m x p) tail (λ t s. refl))))

exprs_soft : (es : Exprs) (t : Text) → (true ≡ true → soft t ≡ true) → soft (behind_commas (exprs_texts es) ++ t) ≡ true
exprs_soft no_exprs t h = h refl
exprs_soft (more_exprs x es) t h = refl

operator_good : (o : Operator) {b : Text} {bs : Toks} → Good true b bs → Good true (codes " " ++ (operator_mark o ++ (codes " " ++ b))) (Mark (operator_mark o) ∷ bs)
operator_good o {b} {bs} good = record {
  on = λ t us h r.
      let same : (operator_mark o ++ (32 ∷ b)) ++ t ≡ operator_mark o ++ (32 ∷ (b ++ t)) = append_assoc (operator_mark o) (32 ∷ b) t in
      subst (λ (l : Text). Reads (32 ∷ l) (Mark (operator_mark o) ∷ (bs ++ us))) (sym same) (blank (operator_reads o (good.on t us h r)));
}

mutual
  pub place_good : (p : Place) → valid_place p ≡ true → Good true (place_text p) (place_tokens p)
  place_good (Local x) v = name_good x v
  place_good (Static m x) v = path_good m x v
  place_good (Deref e) v = l_star (op_hard e v) (operand_good (is_compound e) (expr_good e v))
  place_good (Field p f) v =
      let parts = and_parts (valid_place p) (is_identifier f) v in
      soft_then (operand_good (is_deref p) (place_good p parts.0)) (l_dot (name_hard f parts.1) (name_good f parts.1)) (λ t s. refl)

  pub expr_good : (e : Expr) → valid_expr e ≡ true → Good true (expr_text e) (expr_tokens e)
  expr_good (Literal n k) v = literal_good n k v
  expr_good (Truth true) v = word_good (codes "true") refl
  expr_good (Truth false) v = word_good (codes "false") refl
  expr_good NoFunction v = word_good (codes "None") refl
  expr_good (Read p) v = place_good p v
  expr_good (Call m x args) v =
      let parts = and_parts (valid_path m x) (valid_exprs args) v in path_then m x parts.0 (exprs_good args parts.1)
  expr_good (CallBy e args) v =
      let parts = and_parts (valid_expr e) (valid_exprs args) v in
      let o : Toks = op e in
      good_moved refl (sym (append_assoc o (Mark (codes ".") ∷ Word (codes "unwrap") ∷ Mark (codes "(") ∷ Mark (codes ")") ∷ []) (spelling.in_parentheses (spelling.listed (exprs_parts args)))))
      (loosen (soft_then (operand_good (is_compound e) (expr_good e parts.0)) (l_unwrap (soft_then (exprs_good args parts.1) (l_close nothing) (λ t s. refl))) (λ t s. refl)))
  expr_good (Wrapped e WrappingAdd arg) v =
      let parts = and_parts (valid_expr e) (valid_expr arg) v in loosen (soft_then (operand_good (is_compound e) (expr_good e parts.0)) (l_add (arg_good (expr_good arg parts.1))) (λ t s. refl))
  expr_good (Wrapped e WrappingSub arg) v =
      let parts = and_parts (valid_expr e) (valid_expr arg) v in loosen (soft_then (operand_good (is_compound e) (expr_good e parts.0)) (l_sub (arg_good (expr_good arg parts.1))) (λ t s. refl))
  expr_good (Wrapped e WrappingMul arg) v =
      let parts = and_parts (valid_expr e) (valid_expr arg) v in loosen (soft_then (operand_good (is_compound e) (expr_good e parts.0)) (l_mul (arg_good (expr_good arg parts.1))) (λ t s. refl))
  expr_good (WrappingNeg e) v = loosen (soft_then (operand_good (is_compound e) (expr_good e v)) (l_neg nothing) (λ t s. refl))
  expr_good (Offset e arg) v =
      let parts = and_parts (valid_expr e) (valid_expr arg) v in loosen (soft_then (operand_good (is_compound e) (expr_good e parts.0)) (l_offset (arg_good (expr_good arg parts.1))) (λ t s. refl))
  expr_good (OffsetFrom e arg) v =
      let parts = and_parts (valid_expr e) (valid_expr arg) v in loosen (soft_then (operand_good (is_compound e) (expr_good e parts.0)) (l_offset_from (arg_good (expr_good arg parts.1))) (λ t s. refl))
  expr_good (IsNull e) v = loosen (soft_then (operand_good (is_compound e) (expr_good e v)) (l_is_null nothing) (λ t s. refl))
  expr_good (IsNone e) v = loosen (soft_then (operand_good (is_compound e) (expr_good e v)) (l_is_none nothing) (λ t s. refl))
  expr_good (AddressOf p) v = address_good (place_good p v)
  expr_good (NullPointer x) v = null_good x v
  expr_good (SomeFunction m x params r) v =
      let parts = and_parts (valid_path m x && valid_tys params) (valid_result r) v in
      let first = and_parts (valid_path m x) (valid_tys params) parts.0 in some_good m x params r first.0 first.1 parts.1
  expr_good (Transmute from to e) v =
      let parts = and_parts (valid_ty from && valid_ty to) (valid_expr e) v in
      let first = and_parts (valid_ty from) (valid_ty to) parts.0 in transmute_good from to (is_target from first.0) (is_target to first.1) (expr_good e parts.1)
  expr_good (Neg e) v = let w = (and_parts (not (is_literal e)) (valid_expr e) v).1 in l_minus (op_hard e w) (operand_good (is_compound e) (expr_good e w))
  expr_good (Not e) v = l_bang (op_hard e v) (operand_good (is_compound e) (expr_good e v))
  expr_good (Cast e x) v =
      let parts = and_parts (valid_expr e) (valid_ty x) v in
      soft_then (operand_good (is_compound e) (expr_good e parts.0)) (l_as (ty_to_good (ty_good x (is_target x parts.1)))) (λ t s. refl)
  expr_good (Binary left o right) v =
      let parts = and_parts (valid_expr left) (valid_expr right) v in
      soft_then (operand_good (is_compound left) (expr_good left parts.0)) (operator_good o (operand_good (is_compound right) (expr_good right parts.1))) (λ t s. refl)
  expr_good (And left right) v =
      let parts = and_parts (valid_expr left) (valid_expr right) v in
      soft_then (operand_good (is_compound left) (expr_good left parts.0)) (l_and (operand_good (is_compound right) (expr_good right parts.1))) (λ t s. refl)
  expr_good (Or left right) v =
      let parts = and_parts (valid_expr left) (valid_expr right) v in
      soft_then (operand_good (is_compound left) (expr_good left parts.0)) (l_or (operand_good (is_compound right) (expr_good right parts.1))) (λ t s. refl)
  expr_good (Choose c a b) v =
      let parts = and_parts (valid_expr c && valid_expr a) (valid_expr b) v in
      let first = and_parts (valid_expr c) (valid_expr a) parts.0 in
      let tail : Toks = Mark (codes "}") ∷ Word (codes "else") ∷ Mark (codes "{") ∷ (expr_tokens b ++ Mark (codes "}") ∷ []) in
      good_moved refl (ap (λ (l : Toks). Word (codes "if") ∷ (expr_tokens c ++ Mark (codes "{") ∷ l)) (sym (append_assoc (expr_tokens a) (Mark (codes "}") ∷ []) (Word (codes "else") ∷ Mark (codes "{") ∷ (expr_tokens b ++ Mark (codes "}") ∷ [])))))
      (loosen (l_if (soft_then (expr_good c first.0) (l_open_brace (soft_then (expr_good a first.1) (l_else (soft_then (expr_good b parts.1) (l_close_brace nothing) (λ t s. refl))) (λ t s. refl))) (λ t s. refl))))

  exprs_good : (es : Exprs) → valid_exprs es ≡ true → Good true (listed (exprs_texts es)) (spelling.listed (exprs_parts es))
  exprs_good no_exprs v = nothing
  exprs_good (more_exprs e es) v =
      let parts = and_parts (valid_expr e) (valid_exprs es) v in soft_then (expr_good e parts.0) (exprs_behind es parts.1) (exprs_soft es)

  exprs_behind : (es : Exprs) → valid_exprs es ≡ true → Good true (behind_commas (exprs_texts es)) (spelling.behind_commas (exprs_parts es))
  exprs_behind no_exprs v = nothing
  exprs_behind (more_exprs e es) v =
      let parts = and_parts (valid_expr e) (valid_exprs es) v in l_comma (soft_then (expr_good e parts.0) (exprs_behind es parts.1) (exprs_soft es))
