-- Lists are read back from what they spell.
use Rattle.std.proofs.Common.{◌≡◌, ℕ, zero, suc, ◌≤◌, Bool, true, false, List, [], ◌∷◌, ◌++◌, map, length, codes, refl, sym, ap, subst, ◌∙◌, arith, append_assoc, append-nil, length-append}
use Rattle.std.specs.List.{flat_map, list_all}
use Rattle.std.proofs.lemmas.Bool.{and_parts, cond-true, cond-false}
use Rattle.rs_expr.specs.Reading.{Toks, Reader, read_of, added, many, many_ahead, part, comma_behind}
use Rattle.rs_expr.specs.Signs.{sign_at, sign, marks}
use Rattle.rs_expr.specs.declared.sign.Sign.{Sign}
use Rattle.rs_expr.specs.declared.sign.Sign.TheVariants.{Comma}
use Rattle.rs_text.specs.Tokens.{Mark}
use Rattle.rs_text.specs.Spelling.{behind_commas}
use Rattle.rs_text.specs.Spelling as spelling

-- ---- one turn

pub stopped : {A : Type 0} (stops : Sign → Bool) (read : Reader A) (turns : ℕ) (all : List A) (tokens : Toks) →
    stops (sign_at tokens) ≡ true → many stops read turns all tokens ≡ read_of all tokens
unfolding many
stopped stops read zero all tokens stop = refl
stopped stops read (suc turns) all tokens stop = cond-true (stops (sign_at tokens)) _ _ stop

pub goes_on : {A : Type 0} (stops : Sign → Bool) (read : Reader A) (turns : ℕ) (all : List A) (tokens after : Toks) (a : A) →
    stops (sign_at tokens) ≡ false → read tokens ≡ read_of a after →
    many stops read (suc turns) all tokens ≡ many stops read turns (all ++ a ∷ []) after
unfolding many added
goes_on {A} stops read turns all tokens after a go is =
    cond-false (stops (sign_at tokens)) _ _ go ∙ ap (λ (r : A × Toks). many stops read turns (all ++ r.0 ∷ []) r.1) is

-- ---- one behind the other

module _ {A : Type 0} (stops : Sign → Bool) (read : Reader A) (spell : A → Toks) (valid : A → Bool) (follows : Sign → Bool) (most : ℕ)
    (reads : (a : A) (rest : Toks) → valid a ≡ true → follows (sign_at rest) ≡ true → length (spell a ++ rest) ≤ most → read (spell a ++ rest) ≡ read_of a rest)
    (starts : (a : A) (rest : Toks) → valid a ≡ true → stops (sign_at (spell a ++ rest)) ≡ false)
    (begins : (a : A) (rest : Toks) → valid a ≡ true → follows (sign_at (spell a ++ rest)) ≡ true)
    (some : (a : A) → 1 ≤ length (spell a)) where
  follows_list : (list : List A) (rest : Toks) → list_all valid list ≡ true → follows (sign_at rest) ≡ true → follows (sign_at (flat_map spell list ++ rest)) ≡ true
  follows_list [] rest all next = next
  follows_list (a ∷ list) rest all next =
      let parts = and_parts (valid a) (list_all valid list) all in
      subst (λ (t : Toks). follows (sign_at t) ≡ true) (sym (append_assoc (spell a) (flat_map spell list) rest)) (begins a (flat_map spell list ++ rest) parts.0)

  pub many_reads : (list done : List A) (turns : ℕ) (rest : Toks) → list_all valid list ≡ true → stops (sign_at rest) ≡ true → follows (sign_at rest) ≡ true →
      length (flat_map spell list ++ rest) ≤ turns → length (flat_map spell list ++ rest) ≤ most →
      many stops read turns done (flat_map spell list ++ rest) ≡ read_of (done ++ list) rest
  many_reads [] done turns rest all stop next within short =
      stopped stops read turns done rest stop ∙ ap (λ (l : List A). read_of l rest) (sym (append-nil done))
  many_reads (a ∷ list) done zero rest all stop next within short =
      let e = length-append (spell a ++ flat_map spell list) rest in
      let f = length-append (spell a) (flat_map spell list) in
      let g = some a in absurd (omega (arith, within, e, f, g))
  many_reads (a ∷ list) done (suc turns) rest all stop next within short =
      let parts = and_parts (valid a) (list_all valid list) all in
      let behind : Toks = flat_map spell list ++ rest in
      let same : (spell a ++ flat_map spell list) ++ rest ≡ spell a ++ behind = append_assoc (spell a) (flat_map spell list) rest in
      let l1 = ap length same in
      let l2 = length-append (spell a) behind in
      let l3 = some a in
      ap (many stops read (suc turns) done) same
      ∙ goes_on stops read turns done (spell a ++ behind) behind a (starts a behind parts.0)
      (reads a behind parts.0 (follows_list list rest parts.1 next) (omega (arith, short, l1)))
      ∙ many_reads list (done ++ a ∷ []) turns rest parts.1 stop next (omega (arith, within, l1, l2, l3)) (omega (arith, short, l1, l2))
      ∙ ap (λ (l : List A). read_of l rest) (append_assoc done (a ∷ []) list)

  pub ahead_reads : (list : List A) (rest : Toks) → list_all valid list ≡ true → stops (sign_at rest) ≡ true → follows (sign_at rest) ≡ true →
      length (flat_map spell list ++ rest) ≤ most → many_ahead stops read (flat_map spell list ++ rest) ≡ read_of list rest
  ahead_reads list rest all stop next short = many_reads list [] (length (flat_map spell list ++ rest)) rest all stop next (omega arith) short

-- ---- with commas between two

-- a comma, or what no list goes on with
abbrev pub is_comma : Sign → Bool
is_comma Comma = true
is_comma _ = false

no_comma : (s : Sign) (rest : Toks) → is_comma s ≡ false → comma_behind s rest ≡ rest
no_comma Comma rest h = cc
no_comma _ rest h = refl

part_is : {A : Type 0} (read : Reader A) (tokens behind after : Toks) (a : A) → read tokens ≡ read_of a behind → comma_behind (sign_at behind) behind ≡ after →
    part read tokens ≡ read_of a after
unfolding part
part_is {A} read tokens behind after a is cut =
    ap (λ (r : A × Toks). read_of r.0 (comma_behind (sign_at r.1) r.1)) is ∙ ap (λ (t : Toks). read_of a t) cut

comma_sign : sign (Mark (codes ",")) ≡ Comma
unfolding marks
comma_sign = refl

module _ {A : Type 0} (stops : Sign → Bool) (read : Reader A) (spell : A → Toks) (valid : A → Bool) (follows : Sign → Bool) (most : ℕ)
    (reads : (a : A) (rest : Toks) → valid a ≡ true → follows (sign_at rest) ≡ true → length (spell a ++ rest) ≤ most → read (spell a ++ rest) ≡ read_of a rest)
    (starts : (a : A) (rest : Toks) → valid a ≡ true → stops (sign_at (spell a ++ rest)) ≡ false)
    (commas : follows Comma ≡ true)
    (some : (a : A) → 1 ≤ length (spell a)) where
  abbrev others : List A → Toks → Toks
  others list rest = behind_commas (map spell list) ++ rest

  cut : (list : List A) (rest : Toks) → is_comma (sign_at rest) ≡ false → comma_behind (sign_at (others list rest)) (others list rest) ≡ spelling.listed (map spell list) ++ rest
  cut [] rest none = no_comma (sign_at rest) rest none
  cut (b ∷ list) rest none = ap (λ (s : Sign). comma_behind s (others (b ∷ list) rest)) comma_sign

  follows_others : (list : List A) (rest : Toks) → follows (sign_at rest) ≡ true → follows (sign_at (others list rest)) ≡ true
  follows_others [] rest next = next
  follows_others (b ∷ list) rest next = ap follows comma_sign ∙ commas

  listed_length : (list : List A) (rest : Toks) → length (spelling.listed (map spell list) ++ rest) ≤ length (others list rest)
  listed_length [] rest = omega arith
  listed_length (b ∷ list) rest = omega arith

  pub parts_read : (list done : List A) (turns : ℕ) (rest : Toks) → list_all valid list ≡ true → stops (sign_at rest) ≡ true → follows (sign_at rest) ≡ true →
      is_comma (sign_at rest) ≡ false →
      length (spelling.listed (map spell list) ++ rest) ≤ turns → length (spelling.listed (map spell list) ++ rest) ≤ most →
      many stops (part read) turns done (spelling.listed (map spell list) ++ rest) ≡ read_of (done ++ list) rest
  parts_read [] done turns rest all stop next none within short =
      stopped stops (part read) turns done rest stop ∙ ap (λ (l : List A). read_of l rest) (sym (append-nil done))
  parts_read (a ∷ list) done zero rest all stop next none within short =
      let e = ap length (append_assoc (spell a) (behind_commas (map spell list)) rest) in
      let f = length-append (spell a) (others list rest) in
      let g = some a in absurd (omega (arith, within, e, f, g))
  parts_read (a ∷ list) done (suc turns) rest all stop next none within short =
      let parts = and_parts (valid a) (list_all valid list) all in
      let behind : Toks = others list rest in
      let after : Toks = spelling.listed (map spell list) ++ rest in
      let same : (spell a ++ behind_commas (map spell list)) ++ rest ≡ spell a ++ behind = append_assoc (spell a) (behind_commas (map spell list)) rest in
      let l1 = ap length same in
      let l2 = length-append (spell a) behind in
      let l3 = some a in
      let l4 = listed_length list rest in
      ap (many stops (part read) (suc turns) done) same
      ∙ goes_on stops (part read) turns done (spell a ++ behind) after a (starts a behind parts.0)
      (part_is read (spell a ++ behind) behind after a (reads a behind parts.0 (follows_others list rest next) (omega (arith, short, l1))) (cut list rest none))
      ∙ parts_read list (done ++ a ∷ []) turns rest parts.1 stop next none (omega (arith, within, l1, l2, l3, l4)) (omega (arith, short, l1, l2, l4))
      ∙ ap (λ (l : List A). read_of l rest) (append_assoc done (a ∷ []) list)

  pub parts_ahead : (list : List A) (rest : Toks) → list_all valid list ≡ true → stops (sign_at rest) ≡ true → follows (sign_at rest) ≡ true → is_comma (sign_at rest) ≡ false →
      length (spelling.listed (map spell list) ++ rest) ≤ most → many_ahead stops (part read) (spelling.listed (map spell list) ++ rest) ≡ read_of list rest
  parts_ahead list rest all stop next none short = parts_read list [] (length (spelling.listed (map spell list) ++ rest)) rest all stop next none (omega arith) short

-- the same where each part stands for a value, and a comma may stand behind the last part
module _ {A B : Type 0} (stops : Sign → Bool) (read : Reader B) (spell : A → Toks) (value : A → B) (valid : A → Bool) (rest after : Toks)
    (reads : (a : A) (more : Toks) → valid a ≡ true → read (spell a ++ more) ≡ read_of (value a) more)
    (starts : (a : A) (more : Toks) → stops (sign_at (spell a ++ more)) ≡ false)
    (some : (a : A) → 1 ≤ length (spell a))
    (ended : comma_behind (sign_at rest) rest ≡ after)
    (stop : stops (sign_at after) ≡ true)
    (shorter : length after ≤ length rest) where
  abbrev pub tokens_of : List A → Toks
  tokens_of [] = after
  tokens_of (a ∷ list) = spelling.listed (map spell (a ∷ list)) ++ rest

  abbrev behind_of : List A → Toks
  behind_of list = behind_commas (map spell list) ++ rest

  cut_to : (list : List A) → comma_behind (sign_at (behind_of list)) (behind_of list) ≡ tokens_of list
  cut_to [] = ended
  cut_to (b ∷ list) = ap (λ (s : Sign). comma_behind s (behind_of (b ∷ list))) comma_sign

  tokens_shorter : (list : List A) → length (tokens_of list) ≤ length (behind_of list)
  tokens_shorter [] = shorter
  tokens_shorter (b ∷ list) = omega arith

  pub parts_read_to : (list : List A) (done : List B) (turns : ℕ) → list_all valid list ≡ true → length (tokens_of list) ≤ turns →
      many stops (part read) turns done (tokens_of list) ≡ read_of (done ++ map value list) after
  parts_read_to [] done turns all within = stopped stops (part read) turns done after stop ∙ ap (λ (l : List B). read_of l after) (sym (append-nil done))
  parts_read_to (a ∷ list) done zero all within =
      let e = ap length (append_assoc (spell a) (behind_commas (map spell list)) rest) in
      let f = length-append (spell a) (behind_of list) in
      let g = some a in absurd (omega (arith, within, e, f, g))
  parts_read_to (a ∷ list) done (suc turns) all within =
      let parts = and_parts (valid a) (list_all valid list) all in
      let behind : Toks = behind_of list in
      let same : (spell a ++ behind_commas (map spell list)) ++ rest ≡ spell a ++ behind = append_assoc (spell a) (behind_commas (map spell list)) rest in
      let l1 = ap length same in
      let l2 = length-append (spell a) behind in
      let l3 = some a in
      let l4 = tokens_shorter list in
      ap (many stops (part read) (suc turns) done) same
      ∙ goes_on stops (part read) turns done (spell a ++ behind) (tokens_of list) (value a) (starts a behind)
      (part_is read (spell a ++ behind) behind (tokens_of list) (value a) (reads a behind parts.0) (cut_to list))
      ∙ parts_read_to list (done ++ value a ∷ []) turns parts.1 (omega (arith, within, l1, l2, l3, l4))
      ∙ ap (λ (l : List B). read_of l after) (append_assoc done (value a ∷ []) (map value list))

  pub parts_ahead_to : (list : List A) → list_all valid list ≡ true → many_ahead stops (part read) (tokens_of list) ≡ read_of (map value list) after
  parts_ahead_to list all = parts_read_to list [] (length (tokens_of list)) all (omega arith)
