-- A string literal behind its quote, read item by item.
use Rattle.std.proofs.Common.{◌≡◌, ℕ, zero, suc, ◌+◌, ◌-◌, ◌≤◌, Ok, Err, List, [], ◌∷◌, ◌++◌, length, take, drop, refl, sym, ap, ◌∙◌, append_assoc, append-nil, arith}
use Rattle.std.proofs.lemmas.List.{take_rest, drop-drop}
use Rattle.cr_base.specs.declared.rule.Rule.{Rule}
use Rattle.cr_base.specs.declared.rule.Rule.TheVariants.{X2}
use Rattle.cx_lex.specs.Bytes.{double_quote}
use Rattle.cx_lex.specs.Literals.{Item, closes, breaks, member, item_at, Read, with_value, with_item, size_of, text_from}

-- the bytes that are left of an item are passed over
pub text_from-left : (left : ℕ) (bytes : List ℕ) → text_from left bytes ≡ text_from 0 (drop left bytes)
text_from-left zero bytes = refl
text_from-left (suc left) [] = refl
text_from-left (suc left) (b ∷ rest) = text_from-left left rest

-- a read behind values that were read before
abbrev pub with_values : List ℕ → Read → Read
with_values front (Ok read) = Ok (front ++ read.0, read.1)
with_values front (Err rule) = Err rule

pub with_values-none : (read : Read) → with_values [] read ≡ read
with_values-none (Ok read) = refl
with_values-none (Err rule) = refl

with_values-more : (front : List ℕ) (value : ℕ) (read : Read) → with_values front (with_value value read) ≡ with_values (front ++ value ∷ []) read
with_values-more front value (Ok read) = ap (λ (values : List ℕ). Ok (values, read.1)) (sym (append_assoc front (value ∷ []) read.0))
with_values-more front value (Err rule) = refl

-- each item, as it stands first
text_from-closes : (bytes : List ℕ) → item_at double_quote bytes ≡ closes → text_from 0 bytes ≡ Ok ([], drop 1 bytes)
text_from-closes [] is = cc
text_from-closes (b ∷ rest) is = ap (λ (item : Item). with_item item rest (text_from (size_of item - 1) rest)) is

text_from-breaks : (bytes : List ℕ) (rule : Rule) → item_at double_quote bytes ≡ breaks rule → text_from 0 bytes ≡ Err rule
text_from-breaks [] rule is = let e : X2 ≡ rule = cc in ap (λ (r : Rule). Err r) e
text_from-breaks (b ∷ rest) rule is = ap (λ (item : Item). with_item item rest (text_from (size_of item - 1) rest)) is

text_from-member : (bytes : List ℕ) (size value : ℕ) → item_at double_quote bytes ≡ member size value → 1 ≤ size
    → text_from 0 bytes ≡ with_value value (text_from 0 (drop size bytes))
text_from-member [] size value is some = cc
text_from-member (b ∷ rest) zero value is some = absurd (omega arith)
text_from-member (b ∷ rest) (suc size) value is some =
    ap (λ (item : Item). with_item item rest (text_from (size_of item - 1) rest)) is
    ∙ ap (λ (n : ℕ). with_value value (text_from n rest)) (let e : suc size - 1 ≡ size = omega arith in e)
    ∙ ap (with_value value) (text_from-left size rest)

-- ---- the loop of the code: values are read before the place `at`

module _ (bytes values : List ℕ) (at : ℕ) (before : with_values values (text_from 0 (drop at bytes)) ≡ text_from 0 bytes) where
  pub closes_at : item_at double_quote (take (length bytes - at) (drop at bytes)) ≡ closes → text_from 0 bytes ≡ Ok (values, drop (at + 1) bytes)
  closes_at is =
      let here = text_from-closes (drop at bytes) (ap (item_at double_quote) (sym (take_rest bytes at)) ∙ is) in
      sym before ∙ ap (with_values values) here ∙ (λ i. Ok (append-nil values i, drop-drop 1 at bytes i))

  pub breaks_at : (rule : Rule) → item_at double_quote (take (length bytes - at) (drop at bytes)) ≡ breaks rule → text_from 0 bytes ≡ Err rule
  breaks_at rule is =
      let here = text_from-breaks (drop at bytes) rule (ap (item_at double_quote) (sym (take_rest bytes at)) ∙ is) in
      sym before ∙ ap (with_values values) here

  pub member_at : (size value : ℕ) → item_at double_quote (take (length bytes - at) (drop at bytes)) ≡ member size value → 1 ≤ size
      → with_values (values ++ value ∷ []) (text_from 0 (drop (at + size) bytes)) ≡ text_from 0 bytes
  member_at size value is some =
      let here = text_from-member (drop at bytes) size value (ap (item_at double_quote) (sym (take_rest bytes at)) ∙ is) some in
      ap (λ (rest : List ℕ). with_values (values ++ value ∷ []) (text_from 0 rest)) (sym (drop-drop size at bytes))
      ∙ sym (with_values-more values value (text_from 0 (drop size (drop at bytes))))
      ∙ sym (ap (with_values values) here) ∙ before
