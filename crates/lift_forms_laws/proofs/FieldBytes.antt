-- A bit-field that is stored byte by byte, the lowest first: what its bytes are when only its lowest bits are stored.
use Rattle.std.proofs.Common.{◌≡◌, ℕ, zero, suc, ◌+◌, ◌*◌, ◌/◌, ◌%◌, ◌^◌, ◌<◌, ◌≤◌, List, [], ◌∷◌, ◌++◌, length, take, drop, slice_set, All, refl, sym, ap, ◌∙◌, subst, arith}
use Rattle.std.proofs.lemmas.List.{length-take-le, length-drop}
use Rattle.std.proofs.lemmas.List.Elements.{All-head, All-tail, All-take, All-drop}
use Rattle.std.proofs.lemmas.Nat.{pow_pos, pow-add, shr-shr, shr_high, shr_split, mod_low, mod_below, mod-pow-add, mul-add-lt}
use Rattle.mem_bytes.specs.Bits.{field_of, with_field}
use Rattle.mem_bytes.specs.Coding.{bytes_of, number_of}
use Rattle.mem_bytes.proofs.Fields.{with_field-high, with_field-low, with_field_below}

-- ---- numbers

-- the lowest bits of a field, and then those behind them, are all of these
pub fields_joined : (bit width more low high n : ℕ) → low < 2 ^ width → with_field (bit + width) more high (with_field bit width low n) ≡ with_field bit (width + more) (high * 2 ^ width + low) n
fields_joined bit width more low high n small =
    let k = bit + width in
    let part = low * 2 ^ bit + n % 2 ^ bit in
    let power : 2 ^ k ≡ 2 ^ bit * 2 ^ width = pow-add 2 bit width in
    let below : part < 2 ^ k = rw power (mul-add-lt low (2 ^ bit) (n % 2 ^ bit) (2 ^ width) small (mod_below n (2 ^ bit) (pow_pos bit))) in
    let parts : with_field bit width low n ≡ n / 2 ^ k * 2 ^ k + part = omega arith in
    let quotient : with_field bit width low n / 2 ^ (k + more) ≡ n / 2 ^ (k + more) =
    sym (shr-shr (with_field bit width low n) k more) ∙ ap (λ m. m / 2 ^ k / 2 ^ more) parts ∙ ap (λ q. q / 2 ^ more) (shr_high (n / 2 ^ k) k part below) ∙ shr-shr n k more in
    let rest : with_field bit width low n % 2 ^ k ≡ part = ap (λ m. m % 2 ^ k) parts ∙ mod_low (n / 2 ^ k) k part below in
    let places : bit + (width + more) ≡ k + more = omega arith in
    let product : high * 2 ^ k ≡ (high * 2 ^ width) * 2 ^ bit = ap (λ p. high * p) power ∙ omega arith in
    rw (quotient, rest, places) (omega (arith, product))

-- a field that is put where it stands
pub own_field : (bit width n : ℕ) → with_field bit width (field_of bit width n) n ≡ n
own_field bit width n =
    let k = bit + width in
    let turned : width + bit ≡ k = omega arith in
    let low : n % 2 ^ k ≡ n / 2 ^ bit % 2 ^ width * 2 ^ bit + n % 2 ^ bit = ap (λ e. n % 2 ^ e) (sym turned) ∙ mod-pow-add n width bit in
    let whole : n / 2 ^ k * 2 ^ k + n % 2 ^ k ≡ n = shr_split n k in
    omega (arith, low, whole)

-- the lowest bits of a number, and those behind them
pub low_and_next : (n width more : ℕ) → n % 2 ^ (width + more) ≡ n / 2 ^ width % 2 ^ more * 2 ^ width + n % 2 ^ width
low_and_next n width more = ap (λ k. n % 2 ^ k) (let e : width + more ≡ more + width = omega arith in e) ∙ mod-pow-add n more width

-- ---- bytes of numbers

next_power : (k : ℕ) → 2 ^ (8 * suc k) ≡ 256 * 2 ^ (8 * k)
next_power k = ap (λ e. 2 ^ e) (let more : 8 * suc k ≡ 8 + 8 * k = omega arith in more) ∙ pow-add 2 8 (8 * k)

-- the bytes of a number in two parts
pub bytes-high : (count more low high : ℕ) → low < 2 ^ (8 * count) → bytes_of (count + more) (high * 2 ^ (8 * count) + low) ≡ bytes_of count low ++ bytes_of more high
bytes-high zero more low high small =
    let whole : high * 2 ^ (8 * 0) + low ≡ high = omega (arith, small) in
    let none : 0 + more ≡ more = omega arith in
    ap (λ n. bytes_of (0 + more) n) whole ∙ ap (λ c. bytes_of c high) none
bytes-high (suc count) more low high small =
    let power = next_power count in
    let product : high * 2 ^ (8 * suc count) ≡ (high * 2 ^ (8 * count)) * 256 = ap (λ p. high * p) power ∙ omega arith in
    let whole : high * 2 ^ (8 * suc count) + low ≡ (high * 2 ^ (8 * count)) * 256 + low = omega (arith, product) in
    let first : ((high * 2 ^ (8 * count)) * 256 + low) % 256 ≡ low % 256 = omega arith in
    let rest : ((high * 2 ^ (8 * count)) * 256 + low) / 256 ≡ high * 2 ^ (8 * count) + low / 256 = omega arith in
    let counts : suc count + more ≡ suc (count + more) = omega arith in
    ap (λ n. bytes_of (suc count + more) n) whole ∙ ap (λ c. bytes_of c ((high * 2 ^ (8 * count)) * 256 + low)) counts
    ∙ ap (λ b. b ∷ bytes_of (count + more) (((high * 2 ^ (8 * count)) * 256 + low) / 256)) first
    ∙ ap (λ n. low % 256 ∷ bytes_of (count + more) n) rest
    ∙ ap (λ l. low % 256 ∷ l) (bytes-high count more (low / 256) high (omega (arith, small, power)))

-- a field that is put into one byte of a number
pub bytes_with_field : (count k bit width field n : ℕ) → k < count → bit + width ≤ 8 → field < 2 ^ width →
    bytes_of count (with_field (8 * k + bit) width field n) ≡ slice_set (bytes_of count n) k (with_field bit width field (n / 2 ^ (8 * k) % 256))
bytes_with_field zero k bit width field n less fits small = absurd (omega (arith, less))
bytes_with_field (suc count) zero bit width field n less fits small =
    let parts : n ≡ n / 256 * 2 ^ 8 + n % 256 = omega arith in
    let place : 8 * 0 + bit ≡ bit = omega arith in
    let one : n / 2 ^ (8 * 0) ≡ n = omega arith in
    let put : with_field (8 * 0 + bit) width field n ≡ n / 256 * 2 ^ 8 + with_field bit width field (n % 256) =
    ap (λ b. with_field b width field n) place ∙ ap (with_field bit width field) parts ∙ with_field-low 8 bit width field (n / 256) (n % 256) fits in
    let below : with_field bit width field (n % 256) < 2 ^ 8 = with_field_below 8 bit width field (n % 256) fits small (omega arith) in
    let first : with_field (8 * 0 + bit) width field n % 256 ≡ with_field bit width field (n % 256) = omega (arith, put, below) in
    let rest : with_field (8 * 0 + bit) width field n / 256 ≡ n / 256 = omega (arith, put, below) in
    ap (λ b. b ∷ bytes_of count (with_field (8 * 0 + bit) width field n / 256)) (first ∙ ap (λ m. with_field bit width field (m % 256)) (sym one))
    ∙ ap (λ m. with_field bit width field (n / 2 ^ (8 * 0) % 256) ∷ bytes_of count m) rest
bytes_with_field (suc count) (suc k) bit width field n less fits small =
    let parts : n ≡ n / 256 * 2 ^ 8 + n % 256 = omega arith in
    let place : 8 * suc k + bit ≡ 8 + (8 * k + bit) = omega arith in
    let put : with_field (8 * suc k + bit) width field n ≡ with_field (8 * k + bit) width field (n / 256) * 2 ^ 8 + n % 256 =
    ap (λ b. with_field b width field n) place ∙ ap (with_field (8 + (8 * k + bit)) width field) parts ∙ with_field-high 8 (8 * k + bit) width field (n / 256) (n % 256) (omega arith) in
    let first : with_field (8 * suc k + bit) width field n % 256 ≡ n % 256 = omega (arith, put) in
    let rest : with_field (8 * suc k + bit) width field n / 256 ≡ with_field (8 * k + bit) width field (n / 256) = omega (arith, put) in
    let power : n / 256 / 2 ^ (8 * k) ≡ n / 2 ^ (8 * suc k) = shr-shr n 8 (8 * k) ∙ ap (λ e. n / 2 ^ e) (let more : 8 + 8 * k ≡ 8 * suc k = omega arith in more) in
    ap (λ b. b ∷ bytes_of count (with_field (8 * suc k + bit) width field n / 256)) first
    ∙ ap (λ m. n % 256 ∷ bytes_of count m) rest
    ∙ ap (λ l. n % 256 ∷ l) (bytes_with_field count k bit width field (n / 256) (omega (arith, less)) fits small)
    ∙ ap (λ m. n % 256 ∷ slice_set (bytes_of count (n / 256)) k (with_field bit width field (m % 256))) power

-- bytes are those of their number
pub bytes_back : (bytes : List ℕ) → All (λ byte. byte < 256) bytes → bytes_of (length bytes) (number_of bytes) ≡ bytes
bytes_back [] are = refl
bytes_back (byte ∷ others) are =
    let small : byte < 256 = All-head (λ b. b < 256) byte others are in
    let first : (byte + 256 * number_of others) % 256 ≡ byte = omega (arith, small) in
    let rest : (byte + 256 * number_of others) / 256 ≡ number_of others = omega (arith, small) in
    ap (λ b. b ∷ bytes_of (length others) ((byte + 256 * number_of others) / 256)) first
    ∙ ap (λ n. byte ∷ bytes_of (length others) n) rest
    ∙ ap (λ l. byte ∷ l) (bytes_back others (All-tail (λ b. b < 256) byte others are))

pub number_below : (bytes : List ℕ) → All (λ byte. byte < 256) bytes → number_of bytes < 2 ^ (8 * length bytes)
number_below [] are = omega arith
number_below (byte ∷ others) are =
    let small : byte < 256 = All-head (λ b. b < 256) byte others are in
    let rest = number_below others (All-tail (λ b. b < 256) byte others are) in
    let power = next_power (length others) in
    omega (arith, small, rest, power)

-- the number of bytes in two parts
pub number_in_parts : (count : ℕ) (bytes : List ℕ) → count ≤ length bytes → number_of bytes ≡ number_of (drop count bytes) * 2 ^ (8 * count) + number_of (take count bytes)
number_in_parts zero bytes less = omega arith
number_in_parts (suc count) [] less = absurd (omega (arith, less))
number_in_parts (suc count) (byte ∷ others) less =
    let rest = number_in_parts count others (omega (arith, less)) in
    let high = number_of (drop count others) in
    let product : high * 2 ^ (8 * suc count) ≡ (high * 2 ^ (8 * count)) * 256 = ap (λ p. high * p) (next_power count) ∙ omega arith in
    omega (arith, rest, product)

-- a field in the first bytes leaves the others
pub field_in_first : (count bit width field : ℕ) (bytes : List ℕ) → All (λ byte. byte < 256) bytes → count ≤ length bytes → bit + width ≤ 8 * count → field < 2 ^ width →
    bytes_of (length bytes) (with_field bit width field (number_of bytes)) ≡ bytes_of count (with_field bit width field (number_of (take count bytes))) ++ drop count bytes
field_in_first count bit width field bytes are less fits small =
    let first = take count bytes in
    let others = drop count bytes in
    let first_are = All-take (λ b. b < 256) count bytes are in
    let others_are = All-drop (λ b. b < 256) count bytes are in
    let first_many : length first ≡ count = length-take-le count bytes less in
    let many : length bytes ≡ count + length others = let d = length-drop count bytes in omega (arith, d, less) in
    let below : number_of first < 2 ^ (8 * count) = subst (λ c. number_of first < 2 ^ (8 * c)) first_many (number_below first first_are) in
    ap (λ n. bytes_of (length bytes) (with_field bit width field n)) (number_in_parts count bytes less)
    ∙ ap (bytes_of (length bytes)) (with_field-low (8 * count) bit width field (number_of others) (number_of first) fits)
    ∙ ap (λ c. bytes_of c (number_of others * 2 ^ (8 * count) + with_field bit width field (number_of first))) many
    ∙ bytes-high count (length others) (with_field bit width field (number_of first)) (number_of others) (with_field_below (8 * count) bit width field (number_of first) fits small below)
    ∙ ap (λ l. bytes_of count (with_field bit width field (number_of first)) ++ l) (bytes_back others others_are)
