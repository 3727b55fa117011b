-- What stands behind the last byte of a kind, and when a stem names its module.
use Rattle.std.proofs.Common.{◌≡◌, ◌≢◌, ℕ, suc, ◌+◌, ◌-◌, ◌<◌, ◌≤◌, Bool, true, false, not, cond, ◌&&◌, ◌==◌, nat_lt, List, [], ◌∷◌, ◌++◌, length, get_or, take, drop, Option, Some, None, refl, sym, ap, subst, ◌∙◌, arith, length-append}
use Rattle.std.specs.Option.{MatchOption}
use Rattle.std.specs.List.{suffix_len, after_last, list_all}
use Rattle.std.proofs.lemmas.List.Sums.{suffix_len_is}
use Rattle.std.proofs.lemmas.Bool.Decides.{nat_tests}
use Rattle.std.proofs.lemmas.Grind.{common_steps}
use Rattle.straight_items.specs.declared.scope.NameScope.TheVariants.{Module}
use Rattle.straight_items.specs.Modules.{is_name, lacks_start, word_bytes_of, identifier_of, named_by, up_to_dot, without_extension}
use Rattle.straight_items.specs.Names.{keeps_name}
use Rattle.straight_rust_tree.specs.Names.{is_word_byte}

-- where the last byte equal to c stands at k, as many bytes follow it as differ from c at the end
pub suffix_at : (c : ℕ) (bs : List ℕ) (k : ℕ) → (k < length bs) × (get_or bs k 0 ≡ c) × ((i : ℕ) → k < i → i < length bs → get_or bs i 0 ≢ c) → suffix_len (λ b. not (b == c)) bs ≡ length bs - (k + 1)
suffix_at c bs k h =
    suffix_len_is (λ b. not (b == c)) bs (k + 1) 0 (omega (arith, h.0))
    (λ i low high. grind (arith, nat_tests, h.2 i (omega arith) high))
    (λ p. grind (arith, nat_tests, common_steps, h.1))

pub suffix_none : (c : ℕ) (bs : List ℕ) → ((i : ℕ) → i < length bs → get_or bs i 0 ≢ c) → suffix_len (λ b. not (b == c)) bs ≡ length bs - 0
suffix_none c bs h =
    suffix_len_is (λ b. not (b == c)) bs 0 0 (omega arith)
    (λ i low high. grind (arith, nat_tests, h i high))
    (λ p. absurd (omega arith))

-- where the last byte equal to c stands, as `rfind` tells it
abbrev pub TellsLast : ℕ → List ℕ → Option ℕ → Type 0
TellsLast c bs r = MatchOption r ((i : ℕ) → i < length bs → get_or bs i 0 ≢ c)
    (λ k. (k < length bs) × (get_or bs k 0 ≡ c) × ((i : ℕ) → k < i → i < length bs → get_or bs i 0 ≢ c))

-- how many bytes stand up to the last byte equal to c, that byte too
pub up_to_last : (c : ℕ) (bs : List ℕ) (r : Option ℕ) (k : ℕ) → r ≡ Some k → TellsLast c bs r → (k < length bs) × (length bs - suffix_len (λ b. not (b == c)) bs ≡ k + 1)
up_to_last c bs r k e h =
    let found : TellsLast c bs (Some k) = subst (TellsLast c bs) e h in
    (found.0, omega (arith, suffix_at c bs k found, found.0))

pub up_to_none : (c : ℕ) (bs : List ℕ) (r : Option ℕ) → r ≡ None → TellsLast c bs r → length bs - suffix_len (λ b. not (b == c)) bs ≡ 0
up_to_none c bs r e h =
    let none : TellsLast c bs None = subst (TellsLast c bs) e h in
    omega (arith, suffix_none c bs none)

pub after_last_at : (c : ℕ) (bs : List ℕ) (r : Option ℕ) (k : ℕ) → r ≡ Some k → TellsLast c bs r → after_last (λ b. b == c) bs ≡ drop (k + 1) bs
after_last_at c bs r k e h = ap (λ n. drop n bs) (up_to_last c bs r k e h).1

pub after_last_none : (c : ℕ) (bs : List ℕ) (r : Option ℕ) → r ≡ None → TellsLast c bs r → after_last (λ b. b == c) bs ≡ bs
after_last_none c bs r e h = ap (λ n. drop n bs) (up_to_none c bs r e h)

-- a name is cut at its last dot, where that isn't first
pub cut_at : (name : List ℕ) (r : Option ℕ) (k : ℕ) → r ≡ Some k → TellsLast 46 name r → 0 < k → without_extension name ≡ take k name
cut_at name r k e h p =
    let n : up_to_dot name ≡ k + 1 = (up_to_last 46 name r k e h).1 in
    let Cut : ℕ → Type 0 = λ m. cond (nat_lt 1 m) (take (m - 1) name) name ≡ take k name in
    let test : nat_lt 1 (k + 1) ≡ true = grind (arith, nat_tests) in
    let cut : Cut (k + 1) = rw test (ap (λ m. take m name) (omega arith)) in
    subst Cut (sym n) cut

pub whole_at : (name : List ℕ) (r : Option ℕ) (k : ℕ) → r ≡ Some k → TellsLast 46 name r → k ≤ 0 → without_extension name ≡ name
whole_at name r k e h p =
    let n : up_to_dot name ≡ k + 1 = (up_to_last 46 name r k e h).1 in
    let test : nat_lt 1 (up_to_dot name) ≡ false = grind (arith, nat_tests) in
    ap (λ b. cond b (take (up_to_dot name - 1) name) name) test

pub whole_none : (name : List ℕ) (r : Option ℕ) → r ≡ None → TellsLast 46 name r → without_extension name ≡ name
whole_none name r e h =
    let n : up_to_dot name ≡ 0 = up_to_none 46 name r e h in
    let test : nat_lt 1 (up_to_dot name) ≡ false = grind (arith, nat_tests) in
    ap (λ b. cond b (take (up_to_dot name - 1) name) name) test

both_true : (a b : Bool) → (a && b) ≡ true → (a ≡ true) × (b ≡ true)
both_true true b h = (refl, h)
both_true false b h = cc

not_true : (a : Bool) → not a ≡ true → a ≡ false
not_true true h = cc
not_true false h = refl

-- a byte that becomes itself is one of an identifier
kept_by : (t : Bool) (b : ℕ) → is_word_byte b ≡ t → cond t b 95 ≡ b → is_word_byte b ≡ true
kept_by true b t e = t
kept_by false b t e = ap is_word_byte (sym e)

-- the bytes of an identifier become themselves, and no others do
pub word_bytes_same : (bs : List ℕ) → list_all is_word_byte bs ≡ true → word_bytes_of bs ≡ bs
word_bytes_same [] h = refl
word_bytes_same (b ∷ bs) h =
    let parts = both_true (is_word_byte b) (list_all is_word_byte bs) h in
    let first : cond (is_word_byte b) b 95 ≡ b = ap (λ t. cond t b 95) parts.0 in
    let others : word_bytes_of bs ≡ bs = word_bytes_same bs parts.1 in
    cc

pub word_bytes_only : (bs : List ℕ) → word_bytes_of bs ≡ bs → list_all is_word_byte bs ≡ true
word_bytes_only [] h = refl
word_bytes_only (b ∷ bs) h =
    let head : cond (is_word_byte b) b 95 ≡ b = cc in
    let tail : word_bytes_of bs ≡ bs = cc in
    let first : is_word_byte b ≡ true = kept_by (is_word_byte b) b refl head in
    ap (λ t. t && list_all is_word_byte bs) first ∙ word_bytes_only bs tail

-- a stem names its module exactly where it is an identifier that is kept
pub named_same : (stem : List ℕ) → (is_name stem && keeps_name Module stem) ≡ true → named_by stem ≡ stem
named_same stem h =
    let parts = both_true (is_name stem) (keeps_name Module stem) h in
    let start = both_true (not (lacks_start stem)) (list_all is_word_byte stem) parts.0 in
    let same : word_bytes_of stem ≡ stem = word_bytes_same stem start.1 in
    let started : identifier_of stem ≡ stem =
    ap (λ word. cond (lacks_start word) (99 ∷ 95 ∷ word) word) same ∙ ap (λ t. cond t (99 ∷ 95 ∷ stem) stem) (not_true (lacks_start stem) start.0) in
    ap (λ word. cond (keeps_name Module word) word (word ++ 95 ∷ 48 ∷ [])) started
    ∙ ap (λ t. cond t stem (stem ++ 95 ∷ 48 ∷ [])) parts.1

length_words : (bs : List ℕ) → length (word_bytes_of bs) ≡ length bs
length_words [] = refl
length_words (b ∷ bs) = ap suc (length_words bs)

started_by : (t : Bool) (stem : List ℕ) → lacks_start (word_bytes_of stem) ≡ t → cond t (99 ∷ 95 ∷ word_bytes_of stem) (word_bytes_of stem) ≡ stem → is_name stem ≡ true
started_by true stem t e =
    let l : length (word_bytes_of stem) + 2 ≡ length stem = omega (arith, ap length e) in
    absurd (omega (arith, l, length_words stem))
started_by false stem t e =
    let all : list_all is_word_byte stem ≡ true = word_bytes_only stem e in
    let start : lacks_start stem ≡ false = ap lacks_start (sym e) ∙ t in
    ap (λ b. not b && list_all is_word_byte stem) start ∙ all

length_identifier : (t : Bool) (stem : List ℕ) → length stem ≤ length (cond t (99 ∷ 95 ∷ word_bytes_of stem) (word_bytes_of stem))
length_identifier true stem = omega (arith, length_words stem)
length_identifier false stem = omega (arith, length_words stem)

named_free : (t : Bool) (stem : List ℕ) → keeps_name Module (identifier_of stem) ≡ t → cond t (identifier_of stem) (identifier_of stem ++ 95 ∷ 48 ∷ []) ≡ stem → (is_name stem && keeps_name Module stem) ≡ true
named_free false stem t e =
    let l : length (identifier_of stem) + 2 ≡ length stem = omega (arith, ap length e, length-append (identifier_of stem) (95 ∷ 48 ∷ [])) in
    absurd (omega (arith, l, length_identifier (lacks_start (word_bytes_of stem)) stem))
named_free true stem t e =
    let start : is_name stem ≡ true = started_by (lacks_start (word_bytes_of stem)) stem refl e in
    let kept : keeps_name Module stem ≡ true = ap (keeps_name Module) (sym e) ∙ t in
    ap (λ b. b && keeps_name Module stem) start ∙ kept

pub named_only : (stem : List ℕ) → named_by stem ≡ stem → (is_name stem && keeps_name Module stem) ≡ true
named_only stem h = named_free (keeps_name Module (identifier_of stem)) stem refl h
