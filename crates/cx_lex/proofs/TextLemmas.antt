-- A string literal behind its quote is the same in the front that ends with its closing quote, and in no other front.
use Rattle.std.proofs.Common.{◌≡◌, ℕ, zero, suc, ◌+◌, ◌-◌, ◌≤◌, ◌<◌, Ok, Err, List, [], ◌∷◌, length, take, drop, refl, sym, ap, ◌∙◌, arith, length-take}
use Rattle.cx_lex.specs.Bytes.{double_quote}
use Rattle.cx_lex.specs.Literals.{Item, closes, breaks, member, item_at, Read, with_value, with_item, size_of, text_from}
use Rattle.cx_lex.proofs.ItemLemmas.{closes-any, member-cut, member-whole}

-- a text read from a place on, whose first item is that
text_by : (b : ℕ) (rest : List ℕ) (item : Item) → item_at double_quote (b ∷ rest) ≡ item → text_from 0 (b ∷ rest) ≡ with_item item rest (text_from (size_of item - 1) rest)
text_by b rest item is = ap (λ (i : Item). with_item i rest (text_from (size_of i - 1) rest)) is

-- what is read behind a member
record Behind (value : ℕ) (more : Read) (values behind : List ℕ) : Type 0 where
  others : List ℕ
  is : more ≡ Ok (others, behind)
  whole : values ≡ value ∷ others

with_value-ok : (value : ℕ) (more : Read) (values behind : List ℕ) → with_value value more ≡ Ok (values, behind) → Behind value more values behind
with_value-ok value (Ok read) values behind is =
    let e : ◌≡◌ {A = List ℕ × List ℕ} (value ∷ read.0, read.1) (values, behind) = cc in
    record { others = read.0; is = ap (λ (p : List ℕ × List ℕ). Ok (read.0, p.1)) e; whole = sym (ap (λ (p : List ℕ × List ℕ). p.0) e) }
with_value-ok value (Err rule) values behind is = cc

-- a text ends in the bytes
pub left-bound : (left : ℕ) (bytes : List ℕ) (read : List ℕ × List ℕ) → text_from left bytes ≡ Ok read → left < length bytes
left-bound left [] read is = cc
left-bound zero (b ∷ rest) read is = omega arith
left-bound (suc left) (b ∷ rest) read is = let h = left-bound left rest read is in omega arith

behind_by : (b : ℕ) (rest : List ℕ) (values behind : List ℕ) (item : Item) → item_at double_quote (b ∷ rest) ≡ item
    → ((left : ℕ) (values : List ℕ) → text_from left rest ≡ Ok (values, behind) → length behind < length rest)
    → text_from 0 (b ∷ rest) ≡ Ok (values, behind) → length behind < length (b ∷ rest)
behind_by b rest values behind closes item ih is =
    let e : ◌≡◌ {A = List ℕ × List ℕ} ([], rest) (values, behind) = let h = sym (text_by b rest closes item) ∙ is in cc in
    omega (arith, ap (λ (p : List ℕ × List ℕ). length p.1) e)
behind_by b rest values behind (breaks rule) item ih is = let h = sym (text_by b rest (breaks rule) item) ∙ is in cc
behind_by b rest values behind (member size value) item ih is =
    let h = with_value-ok value (text_from (size - 1) rest) values behind (sym (text_by b rest (member size value) item) ∙ is) in
    omega (arith, ih (size - 1) h.others h.is)

pub behind-bound : (left : ℕ) (bytes values behind : List ℕ) → text_from left bytes ≡ Ok (values, behind) → length behind < length bytes
behind-bound left [] values behind is = cc
behind-bound (suc left) (b ∷ rest) values behind is = let h = behind-bound left rest values behind is in omega arith
behind-bound zero (b ∷ rest) values behind is =
    behind_by b rest values behind (item_at double_quote (b ∷ rest)) refl (λ left others. behind-bound left rest others behind) is

-- ---- the front that ends with the closing quote

empty_front : (n : ℕ) (bytes : List ℕ) → n ≡ 0 → take n bytes ≡ []
empty_front zero bytes is = refl
empty_front (suc n) bytes is = absurd (omega arith)

cut_by : (b n : ℕ) (rest values behind : List ℕ) (item : Item) → item_at double_quote (b ∷ rest) ≡ item
    → ((left : ℕ) (values : List ℕ) → text_from left rest ≡ Ok (values, behind) → text_from left (take n rest) ≡ Ok (values, []))
    → text_from 0 (b ∷ rest) ≡ Ok (values, behind) → n + length behind ≡ length rest → text_from 0 (b ∷ take n rest) ≡ Ok (values, [])
cut_by b n rest values behind closes item ih is size =
    let e : ◌≡◌ {A = List ℕ × List ℕ} ([], rest) (values, behind) = let h = sym (text_by b rest closes item) ∙ is in cc in
    let none = empty_front n rest (omega (arith, size, ap (λ (p : List ℕ × List ℕ). length p.1) e)) in
    text_by b (take n rest) closes (closes-any double_quote b rest (take n rest) item) ∙ (λ i. Ok (ap (λ (p : List ℕ × List ℕ). p.0) e i, none i))
cut_by b n rest values behind (breaks rule) item ih is size = let h = sym (text_by b rest (breaks rule) item) ∙ is in cc
cut_by b n rest values behind (member width value) item ih is size =
    let h = with_value-ok value (text_from (width - 1) rest) values behind (sym (text_by b rest (member width value) item) ∙ is) in
    let more = ih (width - 1) h.others h.is in
    let bound = left-bound (width - 1) (take n rest) (h.others, []) more in
    text_by b (take n rest) (member width value) (member-cut double_quote b n rest width value item (omega (arith, bound, length-take n rest)))
    ∙ ap (with_value value) more ∙ ap (λ (values : List ℕ). Ok (values, [])) (sym h.whole)

pub text-cut : (left n : ℕ) (bytes values behind : List ℕ) → text_from left bytes ≡ Ok (values, behind) → n + length behind ≡ length bytes
    → text_from left (take n bytes) ≡ Ok (values, [])
text-cut left n [] values behind is size = cc
text-cut left zero (b ∷ rest) values behind is size = absurd (omega (arith, size, behind-bound left (b ∷ rest) values behind is))
text-cut (suc left) (suc n) (b ∷ rest) values behind is size = text-cut left n rest values behind is (omega arith)
text-cut zero (suc n) (b ∷ rest) values behind is size =
    cut_by b n rest values behind (item_at double_quote (b ∷ rest)) refl (λ left others more. text-cut left n rest others behind more (omega arith)) is (omega arith)

-- ---- any front that a string literal is the whole of

whole_rest : (n : ℕ) (bytes : List ℕ) → n ≡ 0 → bytes ≡ drop n bytes
whole_rest zero bytes is = refl
whole_rest (suc n) bytes is = absurd (omega arith)

whole_by : (b n : ℕ) (rest values : List ℕ) (item : Item) → item_at double_quote (b ∷ take n rest) ≡ item
    → ((left : ℕ) (values : List ℕ) → text_from left (take n rest) ≡ Ok (values, []) → text_from left rest ≡ Ok (values, drop n rest))
    → text_from 0 (b ∷ take n rest) ≡ Ok (values, []) → n ≤ length rest → text_from 0 (b ∷ rest) ≡ Ok (values, drop n rest)
whole_by b n rest values closes item ih is le =
    let e : ◌≡◌ {A = List ℕ × List ℕ} ([], take n rest) (values, []) = let h = sym (text_by b (take n rest) closes item) ∙ is in cc in
    let none : n ≡ 0 = omega (arith, le, length-take n rest, ap (λ (p : List ℕ × List ℕ). length p.1) e) in
    text_by b rest closes (closes-any double_quote b (take n rest) rest item) ∙ (λ i. Ok (ap (λ (p : List ℕ × List ℕ). p.0) e i, whole_rest n rest none i))
whole_by b n rest values (breaks rule) item ih is le = let h = sym (text_by b (take n rest) (breaks rule) item) ∙ is in cc
whole_by b n rest values (member width value) item ih is le =
    let h = with_value-ok value (text_from (width - 1) (take n rest)) values [] (sym (text_by b (take n rest) (member width value) item) ∙ is) in
    let bound = left-bound (width - 1) (take n rest) (h.others, []) h.is in
    text_by b rest (member width value) (member-whole double_quote b n rest width value item (omega (arith, bound, length-take n rest)))
    ∙ ap (with_value value) (ih (width - 1) h.others h.is) ∙ ap (λ (values : List ℕ). Ok (values, drop n rest)) (sym h.whole)

pub text-whole : (left n : ℕ) (bytes values : List ℕ) → text_from left (take n bytes) ≡ Ok (values, []) → n ≤ length bytes
    → text_from left bytes ≡ Ok (values, drop n bytes)
text-whole left zero bytes values is le = cc
text-whole left (suc n) [] values is le = cc
text-whole (suc left) (suc n) (b ∷ rest) values is le = text-whole left n rest values is (omega arith)
text-whole zero (suc n) (b ∷ rest) values is le =
    whole_by b n rest values (item_at double_quote (b ∷ take n rest)) refl (λ left others more. text-whole left n rest others more (omega arith)) is (omega arith)
