-- What is read piece by piece, from the left, is what the bytes spell, or their first fault.
use Rattle.std.proofs.Common.{◌≡◌, ℕ, zero, suc, ◌-◌, ◌≤◌, ◌<◌, Bool, false, Option, Some, None, is_some, List, [], ◌∷◌, ◌++◌, length, take, drop, refl, sym, ap, ◌∙◌, arith, append_assoc, append-nil}
use Rattle.cr_base.specs.declared.rule.Rule.{Rule}
use Rattle.cx_lex.specs.declared.token.TokenKind.{TokenKind}
use Rattle.cx_lex.specs.Fronts.{longest}
use Rattle.cx_lex.specs.Place.{line_of, begins_line}
use Rattle.cx_lex.specs.Space.{is_space}
use Rattle.cx_lex.specs.Tokens.{token_of, token_size, Piece, space, broken, spelled, token_or_stray, rule_or, space_or, rule_at, piece_at, fault_or, size_left, fault_from}
use Rattle.cx_lex.specs.Lexed.{IsLongestToken}
use Rattle.cx_lex.specs.Mirror.{piece_seen, way_at}
use Rattle.cx_lex.proofs.FrontLemmas.{longest-le, longest-above}
use Rattle.cx_lex.proofs.PieceLemmas.{way}
use Rattle.cx_lex.proofs.SpelledLemmas.{token_piece, no_token}

-- ---- the sizes of pieces

-- some bytes at a place, all of them there
abbrev IsSize : ℕ → List ℕ → Type 0
IsSize size bytes = (1 ≤ size) × (size ≤ length bytes)

not_space : (rule : Option Rule) (found : ℕ) (token : Option TokenKind) (size : ℕ) → rule_or rule (token_or_stray found token) ≡ space size → ⊥
not_space (Some rule) found token size is = cc
not_space None found None size is = cc
not_space None found (Some kind) size is = cc

space_by : (bytes : List ℕ) (found size : ℕ) (rule : Option Rule) → found ≤ length bytes → space_or found (rule_or rule (token_piece bytes)) ≡ space size → IsSize size bytes
space_by bytes zero size rule le is = absurd (not_space rule (token_size bytes) (token_of (take (token_size bytes) bytes)) size is)
space_by bytes (suc n) size rule le is = let e : suc n ≡ size = cc in (omega (arith, e), omega (arith, e, le))

pub space-size : (first : Bool) (bytes : List ℕ) (size : ℕ) → piece_at first bytes ≡ space size → IsSize size bytes
unfolding piece_at
space-size first bytes size is = space_by bytes (longest (is_space first) bytes) size (rule_at bytes) (longest-le (is_space first) bytes) is

record IsSpelled (found : ℕ) (token : Option TokenKind) (size : ℕ) (kind : TokenKind) : Type 0 where
  same : found ≡ size
  is : token ≡ Some kind

spelled_by : (white : ℕ) (rule : Option Rule) (found : ℕ) (token : Option TokenKind) (size : ℕ) (kind : TokenKind)
    → space_or white (rule_or rule (token_or_stray found token)) ≡ spelled size kind → IsSpelled found token size kind
spelled_by (suc n) rule found token size kind is = cc
spelled_by zero (Some rule) found token size kind is = cc
spelled_by zero None found None size kind is = cc
spelled_by zero None found (Some other) size kind is = record { same = cc; is = let e : other ≡ kind = cc in ap Some e }

spelled-parts : (first : Bool) (bytes : List ℕ) (size : ℕ) (kind : TokenKind) → piece_at first bytes ≡ spelled size kind
    → IsSpelled (token_size bytes) (token_of (take (token_size bytes) bytes)) size kind
unfolding piece_at
spelled-parts first bytes size kind is = spelled_by (longest (is_space first) bytes) (rule_at bytes) (token_size bytes) (token_of (take (token_size bytes) bytes)) size kind is

none_from : (o : Option TokenKind) → is_some o ≡ false → o ≡ None
none_from None h = refl
none_from (Some kind) h = cc

some_by : (bytes : List ℕ) (size : ℕ) (kind : TokenKind) → token_of (take size bytes) ≡ Some kind → 1 ≤ size
some_by bytes zero kind is = let h = ap (token_or_stray 0) (sym is) ∙ no_token in cc
some_by bytes (suc n) kind is = omega arith

longer_by : (bytes : List ℕ) (size n : ℕ) → token_size bytes ≡ size → size < n → n ≤ length bytes → token_of (take n bytes) ≡ None
longer_by bytes size zero same more le = absurd (omega arith)
longer_by bytes size (suc n) same more le =
    none_from (token_of (take (suc n) bytes)) (longest-above (λ front behind. is_some (token_of front)) bytes n (omega (arith, same, more)) (omega arith))

pub spelled-longest : (first : Bool) (bytes : List ℕ) (size : ℕ) (kind : TokenKind) → piece_at first bytes ≡ spelled size kind → IsLongestToken bytes size kind
spelled-longest first bytes size kind is =
    let parts = spelled-parts first bytes size kind is in
    let here : token_of (take size bytes) ≡ Some kind = ap (λ (n : ℕ). token_of (take n bytes)) (sym parts.same) ∙ parts.is in
    record {
      some = some_by bytes size kind here;
      within = omega (arith, parts.same, longest-le (λ front behind. is_some (token_of front)) bytes);
      here = here;
      longer = λ n more le. longer_by bytes size n parts.same more le;
    }

-- a piece of the code has some bytes, all of them there
pub piece-size : (first : Bool) (bytes : List ℕ) (size : ℕ) (kind : Option TokenKind) → piece_at first bytes ≡ piece_seen size kind → IsSize size bytes
piece-size first bytes size None is = space-size first bytes size is
piece-size first bytes size (Some kind) is = let token = spelled-longest first bytes size kind is in (token.some, token.within)

-- the code's way at any place with a byte
pub way-some : (first : Bool) (bytes : List ℕ) → 0 < length bytes → piece_at first bytes ≡ way_at first bytes
way-some first [] some = absurd (omega arith)
way-some first (b ∷ rest) some = way first b rest

-- ---- faults

-- the bytes that are left of a piece are passed over
fault_from-left : (before : List ℕ) (left : ℕ) (bytes : List ℕ) → fault_from before left bytes ≡ fault_from (before ++ take left bytes) 0 (drop left bytes)
fault_from-left before zero bytes = ap (λ (b : List ℕ). fault_from b 0 bytes) (sym (append-nil before))
fault_from-left before (suc left) [] = refl
fault_from-left before (suc left) (b ∷ rest) =
    fault_from-left (before ++ b ∷ []) left rest ∙ ap (λ (front : List ℕ). fault_from front 0 (drop left rest)) (append_assoc before (b ∷ []) (take left rest))

-- a place where a rule is broken
pub fault_from-broken : (before bytes : List ℕ) (rule : Rule) → 0 < length bytes → piece_at (begins_line before) bytes ≡ broken rule
    → fault_from before 0 bytes ≡ Some (rule, line_of before)
fault_from-broken before [] rule some is = absurd (omega arith)
fault_from-broken before (b ∷ rest) rule some is = ap (λ (p : Piece). fault_or p (line_of before) (fault_from (before ++ b ∷ []) (size_left p) rest)) is

-- a place where a piece stands
fault_from-behind : (before : List ℕ) (b size : ℕ) (rest : List ℕ) → 1 ≤ size
    → fault_from (before ++ b ∷ []) (size - 1) rest ≡ fault_from (before ++ take size (b ∷ rest)) 0 (drop size (b ∷ rest))
fault_from-behind before b zero rest some = absurd (omega arith)
fault_from-behind before b (suc n) rest some =
    ap (λ (k : ℕ). fault_from (before ++ b ∷ []) k rest) (let e : suc n - 1 ≡ n = omega arith in e)
    ∙ fault_from-left (before ++ b ∷ []) n rest ∙ ap (λ (front : List ℕ). fault_from front 0 (drop n rest)) (append_assoc before (b ∷ []) (take n rest))

pub fault_from-piece : (before bytes : List ℕ) (size : ℕ) (kind : Option TokenKind) → piece_at (begins_line before) bytes ≡ piece_seen size kind → IsSize size bytes
    → fault_from before 0 bytes ≡ fault_from (before ++ take size bytes) 0 (drop size bytes)
fault_from-piece before [] size kind is sizes = absurd (omega (arith, sizes.0, sizes.1))
fault_from-piece before (b ∷ rest) size None is sizes =
    ap (λ (p : Piece). fault_or p (line_of before) (fault_from (before ++ b ∷ []) (size_left p) rest)) is ∙ fault_from-behind before b size rest sizes.0
fault_from-piece before (b ∷ rest) size (Some kind) is sizes =
    ap (λ (p : Piece). fault_or p (line_of before) (fault_from (before ++ b ∷ []) (size_left p) rest)) is ∙ fault_from-behind before b size rest sizes.0
