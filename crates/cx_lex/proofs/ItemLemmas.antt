-- The items of a literal are the same in a front that holds them.
use Rattle.std.proofs.Common.{◌≡◌, ℕ, zero, suc, ◌+◌, ◌≤◌, ◌==◌, Bool, true, false, cond, nat_lt, Option, Some, None, List, [], ◌∷◌, take, get_or, refl, sym, ap, ◌∙◌, arith}
use Rattle.cr_base.specs.declared.rule.Rule.TheVariants.{X2, X3, X7}
use Rattle.cx_lex.specs.Bytes.{newline, backslash}
use Rattle.cx_lex.specs.Escapes.{Valued, escape_at}
use Rattle.cx_lex.specs.Literals.{Item, closes, breaks, member, escape_item, is_universal, item_at}
use Rattle.cx_lex.proofs.EscapeLemmas.{first-take, escape-cut, escape-whole, some_size}

-- an item by the tests that tell it
abbrev item_by : Bool → Bool → Bool → Bool → Option Valued → ℕ → Item
item_by quote line escape universal valued b =
    cond quote closes (cond line (breaks X2) (cond escape (cond universal (breaks X7) (escape_item valued)) (member 1 b)))

valued_size : (large : Bool) (size value : ℕ) (e : Valued) → cond large (breaks X3) (member (1 + e.size) e.value) ≡ member size value → 1 + e.size ≡ size
valued_size true size value e is = cc
valued_size false size value e is = cc

valued_closes : (large : Bool) (e : Valued) → cond large (breaks X3) (member (1 + e.size) e.value) ≡ closes → ⊥
valued_closes true e is = cc
valued_closes false e is = cc

-- a member is the same where its escape sequence is
member_by : (quote line escape universal universal' : Bool) (valued valued' : Option Valued) (b size value : ℕ)
    → item_by quote line escape universal valued b ≡ member size value → (universal ≡ false → universal' ≡ false)
    → ((e : Valued) → valued ≡ Some e → 1 + e.size ≡ size → valued' ≡ Some e)
    → item_by quote line escape universal' valued' b ≡ member size value
member_by true line escape universal universal' valued valued' b size value is same escapes = cc
member_by false true escape universal universal' valued valued' b size value is same escapes = cc
member_by false false false universal universal' valued valued' b size value is same escapes = is
member_by false false true true universal' valued valued' b size value is same escapes = cc
member_by false false true false universal' None valued' b size value is same escapes = cc
member_by false false true false universal' (Some e) valued' b size value is same escapes =
    (λ i. cond (same refl i) (breaks X7) (escape_item (escapes e refl (valued_size (nat_lt 255 e.value) size value e is) i))) ∙ is

closes_by : (quote line escape universal : Bool) (valued : Option Valued) (b : ℕ) → item_by quote line escape universal valued b ≡ closes → quote ≡ true
closes_by true line escape universal valued b is = refl
closes_by false true escape universal valued b is = cc
closes_by false false false universal valued b is = cc
closes_by false false true true valued b is = cc
closes_by false false true false None b is = cc
closes_by false false true false (Some e) b is = absurd (valued_closes (nat_lt 255 e.value) e is)

some_by : (quote line escape universal : Bool) (valued : Option Valued) (b size value : ℕ) → item_by quote line escape universal valued b ≡ member size value → 1 ≤ size
some_by true line escape universal valued b size value is = cc
some_by false true escape universal valued b size value is = cc
some_by false false false universal valued b size value is = let e : 1 ≡ size = cc in omega (arith, e)
some_by false false true true valued b size value is = cc
some_by false false true false None b size value is = cc
some_by false false true false (Some e) b size value is = omega (arith, valued_size (nat_lt 255 e.value) size value e is)

-- a member has at least one byte
pub member_some : (quote b : ℕ) (rest : List ℕ) (size value : ℕ) → item_at quote (b ∷ rest) ≡ member size value → 1 ≤ size
member_some quote b rest size value is =
    some_by (b == quote) (b == newline) (b == backslash) (is_universal (get_or rest 0 0)) (escape_at rest) b size value is

universal-cut : (n : ℕ) (rest : List ℕ) → is_universal (get_or (take (suc n) rest) 0 0) ≡ is_universal (get_or rest 0 0)
universal-cut n rest = ap is_universal (first-take n rest)

-- the closing quote is one whatever is behind it
pub closes-any : (quote b : ℕ) (rest other : List ℕ) → item_at quote (b ∷ rest) ≡ closes → item_at quote (b ∷ other) ≡ closes
closes-any quote b rest other is =
    let same = closes_by (b == quote) (b == newline) (b == backslash) (is_universal (get_or rest 0 0)) (escape_at rest) b is in
    ap (λ (c : Bool). item_by c (b == newline) (b == backslash) (is_universal (get_or other 0 0)) (escape_at other) b) same

-- a member that a cut holds
pub member-cut : (quote b n : ℕ) (rest : List ℕ) (size value : ℕ) → item_at quote (b ∷ rest) ≡ member size value → size ≤ suc n → item_at quote (b ∷ take n rest) ≡ member size value
member-cut quote b zero rest size value is le =
    member_by (b == quote) (b == newline) (b == backslash) (is_universal (get_or rest 0 0)) false (escape_at rest) None b size value
    is (λ other. refl) (λ e here same. absurd (omega (arith, some_size rest e here)))
member-cut quote b (suc n) rest size value is le =
    member_by (b == quote) (b == newline) (b == backslash) (is_universal (get_or rest 0 0)) (is_universal (get_or (take (suc n) rest) 0 0)) (escape_at rest) (escape_at (take (suc n) rest)) b size value
    is (λ other. universal-cut n rest ∙ other) (λ e here same. escape-cut n rest e here (omega arith))

-- a member of a cut that ends before the cut does
pub member-whole : (quote b n : ℕ) (rest : List ℕ) (size value : ℕ) → item_at quote (b ∷ take n rest) ≡ member size value → size ≤ n → item_at quote (b ∷ rest) ≡ member size value
member-whole quote b zero rest size value is le = absurd (omega (arith, member_some quote b [] size value is))
member-whole quote b (suc n) rest size value is le =
    member_by (b == quote) (b == newline) (b == backslash) (is_universal (get_or (take (suc n) rest) 0 0)) (is_universal (get_or rest 0 0)) (escape_at (take (suc n) rest)) (escape_at rest) b size value
    is (λ other. sym (universal-cut n rest) ∙ other) (λ e here same. escape-whole n rest e here (omega arith))
