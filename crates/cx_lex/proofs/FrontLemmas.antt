-- Longest fronts.
use Rattle.std.proofs.Common.{◌≡◌, ℕ, zero, suc, ◌+◌, ◌≤◌, ◌<◌, Bool, true, false, ◌&&◌, cond, List, [], ◌∷◌, length, take, drop, refl, sym, ap, ◌∙◌, arith, one-add}
use Rattle.std.specs.List.{list_all, prefix_len}
use Rattle.cx_lex.specs.Fronts.{longest, or_first}

-- a test of a front and of what is behind it
abbrev pub Test : Type 0
Test = List ℕ → List ℕ → Bool

-- a test, where one byte comes first
abbrev pub behind_byte : ℕ → Test → Test
behind_byte b passes front behind = passes (b ∷ front) behind

-- what the test says of the first suc n bytes
abbrev pub at_front : Test → List ℕ → ℕ → Bool
at_front passes bytes n = passes (take (suc n) bytes) (drop (suc n) bytes)

or_first-le : (alone : Bool) (found most : ℕ) → found ≤ most → or_first alone found ≤ suc most
or_first-le true zero most h = omega arith
or_first-le false zero most h = omega arith
or_first-le alone (suc n) most h = omega arith

pub longest-le : (passes : Test) (bytes : List ℕ) → longest passes bytes ≤ length bytes
longest-le passes [] = omega arith
longest-le passes (b ∷ rest) =
    or_first-le (passes (b ∷ []) rest) (longest (behind_byte b passes) rest) (length rest) (longest-le (behind_byte b passes) rest)

-- two tests that agree on each front have the same longest one
pub longest-same : (p q : Test) (bytes : List ℕ) → ((n : ℕ) → n < length bytes → at_front p bytes n ≡ at_front q bytes n) → longest p bytes ≡ longest q bytes
longest-same p q [] h = refl
longest-same p q (b ∷ rest) h =
    λ i. or_first (h 0 (omega arith) i) (longest-same (behind_byte b p) (behind_byte b q) rest (λ n lt. h (suc n) (omega arith)) i)

-- where no front passes there is none
pub longest-none : (passes : Test) (bytes : List ℕ) → ((n : ℕ) → n < length bytes → at_front passes bytes n ≡ false) → longest passes bytes ≡ 0
longest-none passes [] h = refl
longest-none passes (b ∷ rest) h =
    λ i. or_first (h 0 (omega arith) i) (longest-none (behind_byte b passes) rest (λ n lt. h (suc n) (omega arith)) i)

-- where a front passes and no longer one does, it is that one
pub longest-one : (passes : Test) (bytes : List ℕ) (n : ℕ) → n < length bytes → at_front passes bytes n ≡ true
    → ((m : ℕ) → n < m → m < length bytes → at_front passes bytes m ≡ false) → longest passes bytes ≡ suc n
longest-one passes [] n lt here above = absurd (omega arith)
longest-one passes (b ∷ rest) zero lt here above =
    λ i. or_first (here i) (longest-none (behind_byte b passes) rest (λ n lt. above (suc n) (omega arith) (omega arith)) i)
longest-one passes (b ∷ rest) (suc n) lt here above =
    ap (or_first (passes (b ∷ []) rest)) (longest-one (behind_byte b passes) rest n (omega arith) here (λ m more lt. above (suc m) (omega arith) (omega arith)))

-- ---- runs of bytes of a class

pub or_first-run : (n : ℕ) → or_first true n ≡ suc n
or_first-run zero = refl
or_first-run (suc n) = refl

pub or_first-if : (c : Bool) (n : ℕ) → or_first (c && true) (cond c n 0) ≡ cond c (1 + n) 0
or_first-if true n = or_first-run n ∙ sym (one-add n)
or_first-if false n = refl

-- the longest front whose bytes are all of a class, behind a test of what stands before
pub longest-run : (p : ℕ → Bool) (before : Bool) (bytes : List ℕ) → longest (λ front behind. before && list_all p front) bytes ≡ cond before (prefix_len p bytes) 0
longest-run p true [] = refl
longest-run p false [] = refl
longest-run p true (b ∷ rest) = ap (or_first (p b && true)) (longest-run p (p b) rest) ∙ or_first-if (p b) (prefix_len p rest)
longest-run p false (b ∷ rest) = ap (or_first false) (longest-run p false rest)

-- the longest front passes
passes_by : (passes : Test) (b : ℕ) (rest : List ℕ) (n : ℕ) (alone : Bool) (found : ℕ) → passes (b ∷ []) rest ≡ alone
    → ((m : ℕ) → found ≡ suc m → at_front (behind_byte b passes) rest m ≡ true)
    → or_first alone found ≡ suc n → at_front passes (b ∷ rest) n ≡ true
passes_by passes b rest zero true zero alone below is = alone
passes_by passes b rest (suc n) true zero alone below is = cc
passes_by passes b rest n false zero alone below is = cc
passes_by passes b rest zero alone (suc m) one below is = cc
passes_by passes b rest (suc n) alone (suc m) one below is = let e : suc m ≡ suc n = cc in below n e

pub longest-passes : (passes : Test) (bytes : List ℕ) (n : ℕ) → longest passes bytes ≡ suc n → at_front passes bytes n ≡ true
longest-passes passes [] n is = cc
longest-passes passes (b ∷ rest) n is =
    passes_by passes b rest n (passes (b ∷ []) rest) (longest (behind_byte b passes) rest) refl (λ m. longest-passes (behind_byte b passes) rest m) is

-- no longer front passes
above_by : (alone : Bool) (found : ℕ) → or_first alone found ≤ 0 → alone ≡ false
above_by true zero le = absurd (omega arith)
above_by false zero le = refl
above_by alone (suc n) le = absurd (omega arith)

found_by : (alone : Bool) (found m : ℕ) → or_first alone found ≤ suc m → found ≤ m
found_by alone zero m le = omega arith
found_by alone (suc n) m le = omega arith

pub longest-above : (passes : Test) (bytes : List ℕ) (m : ℕ) → longest passes bytes ≤ m → m < length bytes → at_front passes bytes m ≡ false
longest-above passes [] m le lt = absurd (omega arith)
longest-above passes (b ∷ rest) zero le lt = above_by (passes (b ∷ []) rest) (longest (behind_byte b passes) rest) le
longest-above passes (b ∷ rest) (suc m) le lt =
    longest-above (behind_byte b passes) rest m (found_by (passes (b ∷ []) rest) (longest (behind_byte b passes) rest) m le) (omega arith)
