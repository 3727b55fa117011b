-- The longest front that is white space, by the first two bytes.
use Rattle.std.proofs.Common.{◌≡◌, ℕ, zero, suc, ◌+◌, ◌≤◌, ◌<◌, ◌==◌, Bool, true, false, not, ◌&&◌, ◌||◌, cond, Option, Some, None, List, [], ◌∷◌, length, take, drop, get_or, refl, sym, ap, ◌∙◌, ⊎_elim, arith, one-add}
use Rattle.std.specs.List.{list_all, prefix_len}
use Rattle.std.proofs.lemmas.Bool.{or_from, or_parts, or_left, and_left, and_right, and_from, and_parts, and_cases, cases_eq, ne_eqb, eq-eqb, cond-true, cond-false, cases_Bool, true≢false}
use Rattle.std.proofs.lemmas.Bool.Decides.{nat_tests}
use Rattle.std.proofs.lemmas.List.Sums.{prefix_len-le-length}
use Rattle.cr_base.specs.declared.rule.Rule.TheVariants.{X2, X8}
use Rattle.cx_lex.specs.Bytes.{newline, slash, star, hash, is_white}
use Rattle.cx_lex.specs.Fronts.{longest, or_first}
use Rattle.cx_lex.specs.Place.{is_in_line, ends_line}
use Rattle.cx_lex.specs.Space.{ends_comment, is_block_comment, is_line_comment, is_marker, is_linemarker, is_space}
use Rattle.cx_lex.specs.Mirror.{comment_end, space_or_open, comment_piece, marker_piece}
use Rattle.cx_lex.specs.Tokens.{space, broken, space_or}
use Rattle.cx_lex.proofs.FrontLemmas.{at_front, longest-none, longest-one, longest-same}

and_assoc : (a b c : Bool) → ((a && b) && c) ≡ (a && (b && c))
and_assoc true b c = refl
and_assoc false b c = refl

-- ---- what a front is not

-- the four kinds of white space
space_from : (first : Bool) (front behind : List ℕ) → (length front == 1 && is_white (get_or front 0 0)) ≡ false → is_block_comment front ≡ false
    → (is_line_comment front && ends_line behind) ≡ false → (first && is_linemarker front && ends_line behind) ≡ false → is_space first front behind ≡ false
space_from first front behind one block line marker = or_from _ _ (or_from _ _ (or_from _ _ one block) line) marker

not_block : (b : ℕ) (front : List ℕ) → (b == slash) ≡ false → is_block_comment (b ∷ front) ≡ false
not_block b front h = and_left _ _ (and_left _ _ h)

not_line : (b : ℕ) (front behind : List ℕ) → (b == slash) ≡ false → (is_line_comment (b ∷ front) && ends_line behind) ≡ false
not_line b front behind h = and_left _ _ (and_left _ _ (and_left _ _ h))

not_marker : (first : Bool) (b : ℕ) (front behind : List ℕ) → (b == hash) ≡ false → (first && is_linemarker (b ∷ front) && ends_line behind) ≡ false
not_marker first b front behind h =
    and_left _ _ (and_right first (is_linemarker (b ∷ front)) (and_right (list_all is_in_line (b ∷ front)) (is_marker (b ∷ front)) (and_left _ _ (and_left _ _ h))))

not_one : (b c : ℕ) (front : List ℕ) → (length (b ∷ c ∷ front) == 1 && is_white b) ≡ false
not_one b c front = and_left _ _ (ne_eqb (length (b ∷ c ∷ front)) 1 (λ e. omega (arith, e)))

-- the second byte of a front is that of the bytes, or 0
second-not : (x n : ℕ) (rest : List ℕ) → (0 == x) ≡ false → (get_or rest 0 0 == x) ≡ false → (get_or (take n rest) 0 0 == x) ≡ false
second-not x zero rest zero_not other = zero_not
second-not x (suc n) [] zero_not other = other
second-not x (suc n) (c ∷ rest) zero_not other = other

-- ---- one byte

white_slash : (b : ℕ) → is_white b ≡ true → (b == slash) ≡ false
white_slash b white = grind (arith, nat_tests)

white_hash : (b : ℕ) → is_white b ≡ true → (b == hash) ≡ false
white_hash b white = grind (arith, nat_tests)

white_more : (first : Bool) (b n : ℕ) (rest : List ℕ) → is_white b ≡ true → 0 < n → n < length (b ∷ rest) → at_front (is_space first) (b ∷ rest) n ≡ false
white_more first b zero rest white some lt = absurd (omega arith)
white_more first b (suc n) [] white some lt = absurd (omega arith)
white_more first b (suc n) (c ∷ rest) white some lt =
    space_from first (b ∷ c ∷ take n rest) (drop n rest) (not_one b c (take n rest)) (not_block b (c ∷ take n rest) (white_slash b white))
    (not_line b (c ∷ take n rest) (drop n rest) (white_slash b white)) (not_marker first b (c ∷ take n rest) (drop n rest) (white_hash b white))

pub space-white : (first : Bool) (b : ℕ) (rest : List ℕ) → is_white b ≡ true → longest (is_space first) (b ∷ rest) ≡ 1
space-white first b rest white =
    longest-one (is_space first) (b ∷ rest) 0 (omega arith) (or_left _ _ (or_left _ _ (or_left _ _ white))) (λ m some lt. white_more first b m rest white some lt)

-- ---- no white space

second_slash : (b n : ℕ) (rest : List ℕ) → (b == slash && (get_or rest 0 0 == star || get_or rest 0 0 == slash)) ≡ false
    → ((b == slash && get_or (take n rest) 0 0 == star) ≡ false) × ((b == slash && get_or (take n rest) 0 0 == slash) ≡ false)
second_slash b n rest h =
    ⊎_elim (λ other. (and_left _ _ other, and_left _ _ other))
    (λ other. let parts = or_parts (get_or rest 0 0 == star) (get_or rest 0 0 == slash) other in
    (and_right (b == slash) _ (second-not star n rest refl parts.0), and_right (b == slash) _ (second-not slash n rest refl parts.1)))
    (and_cases (b == slash) (get_or rest 0 0 == star || get_or rest 0 0 == slash) h)

not_white : (b : ℕ) (front : List ℕ) → is_white b ≡ false → (length (b ∷ front) == 1 && is_white b) ≡ false
not_white b front white = and_right (length (b ∷ front) == 1) (is_white b) white

pub space-other : (first : Bool) (b : ℕ) (rest : List ℕ) → is_white b ≡ false → (b == slash && (get_or rest 0 0 == star || get_or rest 0 0 == slash)) ≡ false → (b == hash) ≡ false
    → longest (is_space first) (b ∷ rest) ≡ 0
space-other first b rest white slashes marker =
    longest-none (is_space first) (b ∷ rest) (λ n lt.
    let second = second_slash b n rest slashes in
    space_from first (b ∷ take n rest) (drop n rest) (not_white b (take n rest) white) (and_left _ _ second.0) (and_left _ _ (and_left _ _ second.1))
    (not_marker first b (take n rest) (drop n rest) marker))

-- ---- block comments

-- where `*/` comes first, it ends there
ends_above : (b c n : ℕ) (rest : List ℕ) → (b == star && c == slash) ≡ true → 1 < n → n < length (b ∷ c ∷ rest) → ends_comment (take (suc n) (b ∷ c ∷ rest)) ≡ false
ends_above b c zero rest here some lt = absurd (omega arith)
ends_above b c (suc zero) rest here some lt = absurd (omega arith)
ends_above b c (suc (suc n)) [] here some lt = absurd (omega arith)
ends_above b c (suc (suc n)) (d ∷ rest) here some lt =
    cond-true (b == star && c == slash) (length (c ∷ d ∷ take n rest) == 1) (ends_comment (c ∷ d ∷ take n rest)) here
    ∙ ne_eqb (length (c ∷ d ∷ take n rest)) 1 (λ e. omega (arith, e))

ends_at : (b : ℕ) (rest : List ℕ) → (b == star && get_or rest 0 0 == slash) ≡ true → longest (λ front behind. ends_comment front) (b ∷ rest) ≡ 2
ends_at b [] here = absurd (true≢false (sym here ∙ and_right (b == star) false refl))
ends_at b (c ∷ rest) here =
    longest-one (λ front behind. ends_comment front) (b ∷ c ∷ rest) 1 (omega arith)
    (cond-true (b == star && c == slash) true (ends_comment (c ∷ [])) here)
    (λ m some lt. ends_above b c m rest here some lt)

-- where it doesn't come first, a front that ends with it is one that ends so behind the first byte
later_front : (b n : ℕ) (rest : List ℕ) → (b == star && get_or rest 0 0 == slash) ≡ false → n < length rest → ends_comment (b ∷ take (suc n) rest) ≡ ends_comment (take (suc n) rest)
later_front b n [] later lt = absurd (omega arith)
later_front b n (c ∷ rest) later lt = cond-false (b == star && c == slash) (length (c ∷ take n rest) == 1) (ends_comment (c ∷ take n rest)) later

cond_same : (c : Bool) → cond c false false ≡ false
cond_same true = refl
cond_same false = refl

ends_later : (b : ℕ) (rest : List ℕ) → (b == star && get_or rest 0 0 == slash) ≡ false
    → longest (λ front behind. ends_comment front) (b ∷ rest) ≡ or_first false (longest (λ front behind. ends_comment front) rest)
ends_later b rest later =
    λ i. or_first (cond_same (b == star && false) i)
    (longest-same (λ front behind. ends_comment (b ∷ front)) (λ front behind. ends_comment front) rest (λ n lt. later_front b n rest later lt) i)

-- a place that was found, at some distance
abbrev found_at : ℕ → ℕ → Option ℕ
found_at at zero = None
found_at at (suc n) = Some (at + suc n)

found_later : (at found : ℕ) → found_at (at + 1) found ≡ found_at at (or_first false found)
found_later at zero = refl
found_later at (suc n) = ap Some (omega arith)

-- the code finds the longest front that ends with the first `*/`
longest-ends : (at : ℕ) (bytes : List ℕ) → comment_end at bytes ≡ found_at at (longest (λ front behind. ends_comment front) bytes)
longest-ends at [] = refl
longest-ends at (b ∷ rest) =
    let here = b == star && get_or rest 0 0 == slash in
    ⊎_elim
    (λ yes_here. cond-true here (Some (at + 2)) (comment_end (at + 1) rest) yes_here ∙ ap (found_at at) (sym (ends_at b rest yes_here)))
    (λ later. cond-false here (Some (at + 2)) (comment_end (at + 1) rest) later ∙ longest-ends (at + 1) rest
    ∙ found_later at (longest (λ front behind. ends_comment front) rest) ∙ ap (found_at at) (sym (ends_later b rest later)))
    (cases_Bool here)

second_of_four : (test : Bool) → (((false || test) || false) || false) ≡ test
second_of_four true = refl
second_of_four false = refl

-- a front behind `/*` is white space where it ends with the first `*/`
comment_front : (first : Bool) (front behind : List ℕ) → is_space first (47 ∷ 42 ∷ front) behind ≡ ends_comment front
comment_front first front behind =
    (λ i. ((not_one 47 42 front i || ends_comment front) || false) || not_marker first 47 (42 ∷ front) behind refl i) ∙ second_of_four (ends_comment front)

slash_alone : (first : Bool) (behind : List ℕ) → is_space first (47 ∷ []) behind ≡ false
slash_alone first behind = space_from first (47 ∷ []) behind refl refl refl (not_marker first 47 [] behind refl)

space_found : (found : ℕ) → space_or (or_first false (or_first false found)) (broken X2) ≡ space_or_open (found_at 2 found)
space_found zero = refl
space_found (suc n) = ap space (omega arith)

pub space-comment : (first : Bool) (rest : List ℕ) → space_or (longest (is_space first) (47 ∷ 42 ∷ rest)) (broken X2) ≡ comment_piece (47 ∷ 42 ∷ rest)
space-comment first rest =
    (λ i. space_or (or_first (slash_alone first (42 ∷ rest) i) (or_first (comment_front first [] rest i) (longest (λ front behind. comment_front first front behind i) rest))) (broken X2))
    ∙ space_found (longest (λ front behind. ends_comment front) rest) ∙ ap space_or_open (sym (longest-ends 2 rest))

-- ---- lines

equal_more : (n k : ℕ) → (n == k) ≡ (suc n == 1 + k)
equal_more n k = grind (arith, nat_tests)

begins_whole : (ends : Bool) (k : ℕ) → ends ≡ (0 == cond (not ends) (1 + k) 0)
begins_whole true k = refl
begins_whole false k = sym (ne_eqb 0 (1 + k) (λ e. omega (arith, e)))

more_whole : (ends all : Bool) (n k : ℕ) → all ≡ (n == k) → (not ends && all) ≡ (suc n == cond (not ends) (1 + k) 0)
more_whole true all n k is = sym (ne_eqb (suc n) 0 (λ e. omega (arith, e)))
more_whole false all n k is = is ∙ equal_more n k

-- a front without newline that reaches the end of a line is what comes before the first newline
whole_line : (n : ℕ) (bytes : List ℕ) → n ≤ length bytes → (list_all is_in_line (take n bytes) && ends_line (drop n bytes)) ≡ (n == prefix_len is_in_line bytes)
whole_line zero [] le = refl
whole_line zero (b ∷ rest) le = begins_whole (b == newline) (prefix_len is_in_line rest)
whole_line (suc n) [] le = absurd (omega arith)
whole_line (suc n) (b ∷ rest) le =
    and_assoc (is_in_line b) (list_all is_in_line (take n rest)) (ends_line (drop n rest))
    ∙ more_whole (b == newline) (list_all is_in_line (take n rest) && ends_line (drop n rest)) n (prefix_len is_in_line rest) (whole_line n rest (omega arith))

third_of_four : (test : Bool) → (((false || false) || test) || false) ≡ test
third_of_four true = refl
third_of_four false = refl

line_front : (first : Bool) (front behind : List ℕ) → is_space first (47 ∷ 47 ∷ front) behind ≡ (list_all is_in_line front && ends_line behind)
line_front first front behind =
    (λ i. ((not_one 47 47 front i || false) || (list_all is_in_line front && ends_line behind)) || not_marker first 47 (47 ∷ front) behind refl i)
    ∙ third_of_four (list_all is_in_line front && ends_line behind)

line_above : (first : Bool) (rest : List ℕ) (m : ℕ) → suc (prefix_len is_in_line rest) < m → m < length (47 ∷ 47 ∷ rest) → at_front (is_space first) (47 ∷ 47 ∷ rest) m ≡ false
line_above first rest zero more lt = absurd (omega arith)
line_above first rest (suc m) more lt =
    line_front first (take m rest) (drop m rest) ∙ whole_line m rest (omega arith) ∙ ne_eqb m (prefix_len is_in_line rest) (λ e. omega (arith, e))

pub space-line : (first : Bool) (rest : List ℕ) → longest (is_space first) (47 ∷ 47 ∷ rest) ≡ suc (suc (prefix_len is_in_line rest))
space-line first rest =
    let size = prefix_len is_in_line rest in
    let le = prefix_len-le-length is_in_line rest in
    longest-one (is_space first) (47 ∷ 47 ∷ rest) (suc size) (omega arith)
    (line_front first (take size rest) (drop size rest) ∙ whole_line size rest le ∙ eq-eqb size size refl)
    (λ m more lt. line_above first rest m more lt)

-- ---- linemarkers

fourth_of_four : (test : Bool) → (((false || false) || false) || test) ≡ test
fourth_of_four true = refl
fourth_of_four false = refl

abbrev is_marked : Bool → List ℕ → List ℕ → Bool
is_marked first line behind = first && (list_all is_in_line line && is_marker line) && ends_line behind

marker_front : (first : Bool) (front behind : List ℕ) → is_space first (35 ∷ front) behind ≡ is_marked first (35 ∷ front) behind
marker_front first front behind =
    (λ i. ((and_right (length (35 ∷ front) == 1) false refl i || false) || false) || is_marked first (35 ∷ front) behind)
    ∙ fourth_of_four (is_marked first (35 ∷ front) behind)

-- a front that isn't a whole line, or that is no linemarker where one may be, isn't white space
not_whole : (first : Bool) (line behind : List ℕ) → (list_all is_in_line line && ends_line behind) ≡ false → is_marked first line behind ≡ false
not_whole first line behind h =
    ⊎_elim (λ all. and_left _ _ (and_right first _ (and_left _ _ all))) (λ ends. and_right (first && (list_all is_in_line line && is_marker line)) _ ends)
    (and_cases (list_all is_in_line line) (ends_line behind) h)

not_marked : (first : Bool) (line behind : List ℕ) → (first && is_marker line) ≡ false → is_marked first line behind ≡ false
not_marked first line behind h =
    ⊎_elim (λ late. and_left _ _ (and_left _ _ late)) (λ other. and_left _ _ (and_right first _ (and_right (list_all is_in_line line) _ other)))
    (and_cases first (is_marker line) h)

marked : (first : Bool) (line behind : List ℕ) → (list_all is_in_line line && ends_line behind) ≡ true → (first && is_marker line) ≡ true → is_marked first line behind ≡ true
marked first line behind whole marker =
    let w = and_parts (list_all is_in_line line) (ends_line behind) whole in
    let m = and_parts first (is_marker line) marker in
    and_from _ _ (and_from _ _ m.0 (and_from _ _ w.0 m.1)) w.1

module _ (first : Bool) (rest : List ℕ) where
  abbrev size : ℕ
  size = prefix_len is_in_line rest

  other_size : (n : ℕ) → n < length (35 ∷ rest) → (n ≡ size → ⊥) → at_front (is_space first) (35 ∷ rest) n ≡ false
  other_size n lt other =
      marker_front first (take n rest) (drop n rest)
      ∙ not_whole first (35 ∷ take n rest) (drop n rest) (whole_line n rest (omega arith) ∙ ne_eqb n size other)

  longest-marker : (is : Bool) → (first && is_marker (35 ∷ take size rest)) ≡ is → longest (is_space first) (35 ∷ rest) ≡ cond is (suc size) 0
  longest-marker true is =
      let le = prefix_len-le-length is_in_line rest in
      longest-one (is_space first) (35 ∷ rest) size (omega arith)
      (marker_front first (take size rest) (drop size rest)
      ∙ marked first (35 ∷ take size rest) (drop size rest) (whole_line size rest le ∙ eq-eqb size size refl) is)
      (λ m more lt. other_size m lt (λ e. omega (arith, e)))
  longest-marker false is =
      longest-none (is_space first) (35 ∷ rest) (λ n lt. ⊎_elim
      (λ same. marker_front first (take n rest) (drop n rest)
      ∙ not_marked first (35 ∷ take n rest) (drop n rest) (ap (λ (k : ℕ). first && is_marker (35 ∷ take k rest)) same ∙ is))
      (λ other. other_size n lt other) (cases_eq n size))

  marker_found : (is : Bool) → space_or (cond is (suc size) 0) (broken X8) ≡ cond is (space (suc size)) (broken X8)
  marker_found true = refl
  marker_found false = refl

  pub space-marker : space_or (longest (is_space first) (35 ∷ rest)) (broken X8) ≡ marker_piece first (35 ∷ rest)
  space-marker =
      let is = first && is_marker (35 ∷ take size rest) in
      ap (λ (found : ℕ). space_or found (broken X8)) (longest-marker is refl) ∙ marker_found is
      ∙ ap (λ (n : ℕ). cond (first && is_marker (take n (35 ∷ rest))) (space n) (broken X8)) (sym (one-add size))
