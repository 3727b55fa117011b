-- An escape sequence is the same in a front that holds it, and in what a front is cut from where it ends before the cut.
use Rattle.std.proofs.Common.{◌≡◌, ℕ, zero, suc, ◌+◌, ◌≤◌, ◌<◌, ◌==◌, min, Bool, true, false, ◌&&◌, cond, nat_lt, Option, Some, None, List, [], ◌∷◌, take, drop, get_or, refl, sym, ap, ◌∙◌, ⊎_elim, arith}
use Rattle.std.specs.List.{prefix_len}
use Rattle.std.specs.Char.{is_ascii_hexdigit}
use Rattle.std.proofs.lemmas.Bool.{cond-true, cond-false, lt-ltb, le-ltb, cases_lt}
use Rattle.cx_lex.specs.Bytes.{is_octal, number_of}
use Rattle.cx_lex.specs.Escapes.{Valued, simple_escape, simple_valued, octal_size, hex_size, escape_at}

-- ---- counts in a front

cond_min : (c : Bool) (cut all n : ℕ) → cut ≡ min n all → cond c (1 + cut) 0 ≡ min (suc n) (cond c (1 + all) 0)
cond_min true cut all n is = omega (arith, is)
cond_min false cut all n is = omega arith

prefix_len-take : (p : ℕ → Bool) (n : ℕ) (bytes : List ℕ) → prefix_len p (take n bytes) ≡ min n (prefix_len p bytes)
prefix_len-take p zero bytes = omega arith
prefix_len-take p (suc n) [] = omega arith
prefix_len-take p (suc n) (b ∷ rest) = cond_min (p b) (prefix_len p (take n rest)) (prefix_len p rest) n (prefix_len-take p n rest)

take-take-le : (k n : ℕ) (bytes : List ℕ) → k ≤ n → take k (take n bytes) ≡ take k bytes
take-take-le zero n bytes le = refl
take-take-le (suc k) zero bytes le = absurd (omega arith)
take-take-le (suc k) (suc n) [] le = refl
take-take-le (suc k) (suc n) (b ∷ rest) le = ap (λ (l : List ℕ). b ∷ l) (take-take-le k n rest (omega arith))

tail-take : (n : ℕ) (bytes : List ℕ) → drop 1 (take (suc n) bytes) ≡ take n (drop 1 bytes)
tail-take zero [] = refl
tail-take (suc n) [] = refl
tail-take zero (b ∷ rest) = refl
tail-take (suc n) (b ∷ rest) = refl

pub first-take : (n : ℕ) (bytes : List ℕ) → get_or (take (suc n) bytes) 0 0 ≡ get_or bytes 0 0
first-take n [] = refl
first-take n (b ∷ rest) = refl

octal-take : (n : ℕ) (bytes : List ℕ) → octal_size (take n bytes) ≡ min 3 (min n (prefix_len is_octal bytes))
octal-take n bytes = ap (min 3) (prefix_len-take is_octal n bytes)

hex-take : (n : ℕ) (bytes : List ℕ) → hex_size (drop 1 (take (suc n) bytes)) ≡ min n (hex_size (drop 1 bytes))
hex-take n bytes = ap (prefix_len is_ascii_hexdigit) (tail-take n bytes) ∙ prefix_len-take is_ascii_hexdigit n (drop 1 bytes)

-- ---- the escape sequence, by its kind

abbrev valued : ℕ → ℕ → Option Valued
valued size value = Some (record { size = size; value = value })

abbrev octal_value : List ℕ → ℕ
octal_value bytes = number_of 8 (take (octal_size bytes) bytes)

abbrev hex_value : List ℕ → ℕ
hex_value bytes = number_of 16 (take (hex_size (drop 1 bytes)) (drop 1 bytes))

abbrev begins_hex : List ℕ → Bool
begins_hex bytes = get_or bytes 0 0 == 120 && nat_lt 0 (hex_size (drop 1 bytes))

abbrev hex_or_none : List ℕ → Option Valued
hex_or_none bytes = cond (begins_hex bytes) (valued (1 + hex_size (drop 1 bytes)) (hex_value bytes)) None

abbrev digits_valued : List ℕ → Option Valued
digits_valued bytes = cond (nat_lt 0 (octal_size bytes)) (valued (octal_size bytes) (octal_value bytes)) (hex_or_none bytes)

module _ (bytes : List ℕ) where
  simple-is : (value : ℕ) → simple_escape (get_or bytes 0 0) ≡ Some value → escape_at bytes ≡ valued 1 value
  simple-is value is = ap (λ (s : Option ℕ). simple_valued s (digits_valued bytes)) is

  digits-is : simple_escape (get_or bytes 0 0) ≡ None → escape_at bytes ≡ digits_valued bytes
  digits-is other = ap (λ (s : Option ℕ). simple_valued s (digits_valued bytes)) other

  octal-is : simple_escape (get_or bytes 0 0) ≡ None → 0 < octal_size bytes → escape_at bytes ≡ valued (octal_size bytes) (octal_value bytes)
  octal-is other some = digits-is other ∙ cond-true (nat_lt 0 (octal_size bytes)) (valued (octal_size bytes) (octal_value bytes)) (hex_or_none bytes) (lt-ltb 0 (octal_size bytes) some)

  hex_or_none-is : simple_escape (get_or bytes 0 0) ≡ None → octal_size bytes ≡ 0 → escape_at bytes ≡ hex_or_none bytes
  hex_or_none-is other none =
      digits-is other ∙ cond-false (nat_lt 0 (octal_size bytes)) (valued (octal_size bytes) (octal_value bytes)) (hex_or_none bytes) (le-ltb 0 (octal_size bytes) (omega (arith, none)))

  hex-is : simple_escape (get_or bytes 0 0) ≡ None → octal_size bytes ≡ 0 → begins_hex bytes ≡ true → escape_at bytes ≡ valued (1 + hex_size (drop 1 bytes)) (hex_value bytes)
  hex-is other none is = hex_or_none-is other none ∙ cond-true (begins_hex bytes) (valued (1 + hex_size (drop 1 bytes)) (hex_value bytes)) None is

  none-is : simple_escape (get_or bytes 0 0) ≡ None → octal_size bytes ≡ 0 → begins_hex bytes ≡ false → escape_at bytes ≡ None
  none-is other none is = hex_or_none-is other none ∙ cond-false (begins_hex bytes) (valued (1 + hex_size (drop 1 bytes)) (hex_value bytes)) None is

-- the size of what is valued
size-is : (size value : ℕ) (e : Valued) → valued size value ≡ Some e → size ≡ e.size
size-is size value e is = cc

-- ---- in a front

module _ (n : ℕ) (bytes : List ℕ) where
  abbrev cut : List ℕ
  cut = take (suc n) bytes

  simple-cut : simple_escape (get_or cut 0 0) ≡ simple_escape (get_or bytes 0 0)
  simple-cut = ap simple_escape (first-take n bytes)

  -- octal digits that end before the cut, or with it
  octal_value-cut : octal_size cut ≡ octal_size bytes → octal_size bytes ≤ suc n → octal_value cut ≡ octal_value bytes
  octal_value-cut same le = ap (λ (k : ℕ). number_of 8 (take k cut)) same ∙ ap (number_of 8) (take-take-le (octal_size bytes) (suc n) bytes le)

  hex_value-cut : hex_size (drop 1 cut) ≡ hex_size (drop 1 bytes) → hex_size (drop 1 bytes) ≤ n → hex_value cut ≡ hex_value bytes
  hex_value-cut same le =
      (λ i. number_of 16 (take (same i) (tail-take n bytes i))) ∙ ap (number_of 16) (take-take-le (hex_size (drop 1 bytes)) n (drop 1 bytes) le)

  begins_hex-cut : hex_size (drop 1 cut) ≡ hex_size (drop 1 bytes) → begins_hex cut ≡ begins_hex bytes
  begins_hex-cut same = λ i. first-take n bytes i == 120 && nat_lt 0 (same i)

  -- a cut that holds an escape sequence begins with it
  octal_case : (e : Valued) → escape_at bytes ≡ Some e → e.size ≤ suc n → simple_escape (get_or bytes 0 0) ≡ None → 0 < octal_size bytes → escape_at cut ≡ Some e
  octal_case e is le other some =
      let here = sym (octal-is bytes other some) ∙ is in
      let size = size-is (octal_size bytes) (octal_value bytes) e here in
      let same : octal_size cut ≡ octal_size bytes = omega (arith, octal-take (suc n) bytes, size, le) in
      octal-is cut (simple-cut ∙ other) (omega (arith, same, some)) ∙ (λ i. valued (same i) (octal_value-cut same (omega (arith, size, le)) i)) ∙ here

  hex_case : (e : Valued) → escape_at bytes ≡ Some e → e.size ≤ suc n → simple_escape (get_or bytes 0 0) ≡ None → octal_size bytes ≡ 0 → (hex : Bool) → begins_hex bytes ≡ hex
      → escape_at cut ≡ Some e
  hex_case e is le other none true hex =
      let here = sym (hex-is bytes other none hex) ∙ is in
      let size = size-is (1 + hex_size (drop 1 bytes)) (hex_value bytes) e here in
      let same : hex_size (drop 1 cut) ≡ hex_size (drop 1 bytes) = omega (arith, hex-take n bytes, size, le) in
      let no_octal : octal_size cut ≡ 0 = omega (arith, octal-take (suc n) bytes, none) in
      hex-is cut (simple-cut ∙ other) no_octal (begins_hex-cut same ∙ hex)
      ∙ (λ i. valued (1 + same i) (hex_value-cut same (omega (arith, size, le)) i)) ∙ here
  hex_case e is le other none false hex = let e : None ≡ Some e = sym (none-is bytes other none hex) ∙ is in cc

  no_simple_case : (e : Valued) → escape_at bytes ≡ Some e → e.size ≤ suc n → simple_escape (get_or bytes 0 0) ≡ None → escape_at cut ≡ Some e
  no_simple_case e is le other =
      ⊎_elim (λ some. octal_case e is le other some) (λ none. hex_case e is le other (omega arith) (begins_hex bytes) refl) (cases_lt 0 (octal_size bytes))

  escape_case : (e : Valued) → escape_at bytes ≡ Some e → e.size ≤ suc n → (s : Option ℕ) → simple_escape (get_or bytes 0 0) ≡ s → escape_at cut ≡ Some e
  escape_case e is le None simple = no_simple_case e is le simple
  escape_case e is le (Some value) simple = simple-is cut value (simple-cut ∙ simple) ∙ sym (simple-is bytes value simple) ∙ is

  pub escape-cut : (e : Valued) → escape_at bytes ≡ Some e → e.size ≤ suc n → escape_at (take (suc n) bytes) ≡ Some e
  escape-cut e is le = escape_case e is le (simple_escape (get_or bytes 0 0)) refl

  -- an escape sequence that ends before the cut is that of the bytes
  octal_whole : (e : Valued) → escape_at cut ≡ Some e → e.size ≤ n → simple_escape (get_or cut 0 0) ≡ None → 0 < octal_size cut → escape_at bytes ≡ Some e
  octal_whole e is le other some =
      let here = sym (octal-is cut other some) ∙ is in
      let size = size-is (octal_size cut) (octal_value cut) e here in
      let same : octal_size cut ≡ octal_size bytes = omega (arith, octal-take (suc n) bytes, size, le) in
      octal-is bytes (sym simple-cut ∙ other) (omega (arith, same, some)) ∙ (λ i. valued (sym same i) (sym (octal_value-cut same (omega (arith, same, size, le))) i)) ∙ here

  hex_whole : (e : Valued) → escape_at cut ≡ Some e → e.size ≤ n → simple_escape (get_or cut 0 0) ≡ None → octal_size cut ≡ 0 → (hex : Bool) → begins_hex cut ≡ hex
      → escape_at bytes ≡ Some e
  hex_whole e is le other none true hex =
      let here = sym (hex-is cut other none hex) ∙ is in
      let size = size-is (1 + hex_size (drop 1 cut)) (hex_value cut) e here in
      let same : hex_size (drop 1 cut) ≡ hex_size (drop 1 bytes) = omega (arith, hex-take n bytes, size, le) in
      let no_octal : octal_size bytes ≡ 0 = omega (arith, octal-take (suc n) bytes, none) in
      hex-is bytes (sym simple-cut ∙ other) no_octal (sym (begins_hex-cut same) ∙ hex)
      ∙ (λ i. valued (1 + sym same i) (sym (hex_value-cut same (omega (arith, same, size, le))) i)) ∙ here
  hex_whole e is le other none false hex = let e : None ≡ Some e = sym (none-is cut other none hex) ∙ is in cc

  no_simple_whole : (e : Valued) → escape_at cut ≡ Some e → e.size ≤ n → simple_escape (get_or cut 0 0) ≡ None → escape_at bytes ≡ Some e
  no_simple_whole e is le other =
      ⊎_elim (λ some. octal_whole e is le other some) (λ none. hex_whole e is le other (omega arith) (begins_hex cut) refl) (cases_lt 0 (octal_size cut))

  escape_whole_case : (e : Valued) → escape_at cut ≡ Some e → e.size ≤ n → (s : Option ℕ) → simple_escape (get_or cut 0 0) ≡ s → escape_at bytes ≡ Some e
  escape_whole_case e is le None simple = no_simple_whole e is le simple
  escape_whole_case e is le (Some value) simple = simple-is bytes value (sym simple-cut ∙ simple) ∙ sym (simple-is cut value simple) ∙ is

  pub escape-whole : (e : Valued) → escape_at (take (suc n) bytes) ≡ Some e → e.size ≤ n → escape_at bytes ≡ Some e
  escape-whole e is le = escape_whole_case e is le (simple_escape (get_or cut 0 0)) refl

-- an escape sequence has at least one byte
module _ (bytes : List ℕ) (e : Valued) (is : escape_at bytes ≡ Some e) where
  hex_some : simple_escape (get_or bytes 0 0) ≡ None → octal_size bytes ≡ 0 → (hex : Bool) → begins_hex bytes ≡ hex → 1 ≤ e.size
  hex_some other none true hex = omega (arith, size-is (1 + hex_size (drop 1 bytes)) (hex_value bytes) e (sym (hex-is bytes other none hex) ∙ is))
  hex_some other none false hex = let e : None ≡ Some e = sym (none-is bytes other none hex) ∙ is in cc

  digits_some : simple_escape (get_or bytes 0 0) ≡ None → 1 ≤ e.size
  digits_some other =
      ⊎_elim (λ some. omega (arith, some, size-is (octal_size bytes) (octal_value bytes) e (sym (octal-is bytes other some) ∙ is)))
      (λ none. hex_some other (omega arith) (begins_hex bytes) refl) (cases_lt 0 (octal_size bytes))

  some_by : (s : Option ℕ) → simple_escape (get_or bytes 0 0) ≡ s → 1 ≤ e.size
  some_by None simple = digits_some simple
  some_by (Some value) simple = omega (arith, size-is 1 value e (sym (simple-is bytes value simple) ∙ is))

  pub some_size : 1 ≤ e.size
  some_size = some_by (simple_escape (get_or bytes 0 0)) refl
