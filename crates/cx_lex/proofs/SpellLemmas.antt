-- The laws of what bytes spell, and the loop that reads them.
use Rattle.std.proofs.Common.{◌≡◌, ℕ, zero, suc, ◌+◌, ◌-◌, ◌≤◌, ◌<◌, ◌==◌, Bool, true, Option, Some, None, Ok, Err, List, [], ◌∷◌, ◌++◌, length, take, drop, fold, count_by, refl, sym, ap, ◌∙◌, subst, inl, inr, arith, append_assoc, append-nil, length-drop, length-take}
use Rattle.std.proofs.Math.Seq.{take-add}
use Rattle.std.proofs.Math.ListN.{drop_of_length-le}
use Rattle.std.proofs.lemmas.List.{drop-drop, take_rest}
use Rattle.std.proofs.lemmas.List.Sums.{count_by-le-length}
use Rattle.cr_base.specs.declared.refusal.Stop.{Stop}
use Rattle.cr_base.specs.declared.rule.Rule.{Rule}
use Rattle.cx_lex.specs.declared.fault.Fault.{Fault}
use Rattle.cx_lex.specs.declared.fault.Fault.TheVariants.{Broken, Memory}
use Rattle.cx_lex.specs.declared.token.Token.{Token}
use Rattle.cx_lex.specs.declared.token.TokenKind.{TokenKind}
use Rattle.cx_lex.specs.Bytes.{newline}
use Rattle.cx_lex.specs.Place.{line_of, begins_line}
use Rattle.cx_lex.specs.Tokens.{Piece, space, broken, spelled, piece_at, SpellsFrom, at_end, behind_space, behind_token, Spells, RuleOnLine, fault_from, token_fault}
use Rattle.cx_lex.specs.Lexed.{IsFirstFault, IsUnlessMemory, refusal_of, SpellOnce, SpellOrBreak, SpellLongest}
use Rattle.cx_lex.specs.Mirror.{Agrees, piece_seen, way_at, stays_first, token_list, stop_of}
use Rattle.cx_lex.proofs.PlaceLemmas.{line_of-append, begins_line-append}
use Rattle.cx_lex.proofs.LexLemmas.{way-some, space-size, spelled-longest, piece-size, fault_from-broken, fault_from-piece}

-- ---- laws

abbrev on : List ℕ → TokenKind → Token
on before kind = record { kind = kind; line = line_of before }

-- what spells tokens breaks no rule
pub no_fault : {before bytes : List ℕ} {tokens : List Token} → SpellsFrom before bytes tokens → fault_from before 0 bytes ≡ None
no_fault at_end = refl
no_fault {before} {bytes} (behind_space size is more) = fault_from-piece before bytes size None is (piece-size (begins_line before) bytes size None is) ∙ no_fault more
no_fault {before} {bytes} (behind_token size kind is more) = fault_from-piece before bytes size (Some kind) is (piece-size (begins_line before) bytes size (Some kind) is) ∙ no_fault more

-- no piece stands at the end
no_piece : (first : Bool) (size : ℕ) (kind : Option TokenKind) → piece_at first [] ≡ piece_seen size kind → ⊥
no_piece first size kind is = let sizes = piece-size first [] size kind is in omega (arith, sizes.0, sizes.1)

-- bytes spell one list
pub one_list : {before bytes : List ℕ} {tokens others : List Token} → SpellsFrom before bytes tokens → SpellsFrom before bytes others → tokens ≡ others
one_list at_end at_end = refl
one_list {before} at_end (behind_space size is more) = absurd (no_piece (begins_line before) size None is)
one_list {before} at_end (behind_token size kind is more) = absurd (no_piece (begins_line before) size (Some kind) is)
one_list {before} (behind_space size is more) at_end = absurd (no_piece (begins_line before) size None is)
one_list {before} (behind_token size kind is more) at_end = absurd (no_piece (begins_line before) size (Some kind) is)
one_list {before} {bytes} (behind_space size is more) (behind_space {tokens = others} size' is' more') =
    let e : size' ≡ size = let h : space size' ≡ space size = sym is' ∙ is in cc in
    one_list more (subst (λ (n : ℕ). SpellsFrom (before ++ take n bytes) (drop n bytes) others) e more')
one_list {before} {bytes} (behind_token size kind is more) (behind_token {tokens = others} size' kind' is' more') =
    let h : spelled size' kind' ≡ spelled size kind = sym is' ∙ is in
    let e : size' ≡ size = cc in
    let k : kind ≡ kind' = cc in
    λ i. on before (k i) ∷ one_list more (subst (λ (n : ℕ). SpellsFrom (before ++ take n bytes) (drop n bytes) others) e more') i
one_list (behind_space size is more) (behind_token size' kind' is' more') = let h : space size ≡ spelled size' kind' = sym is ∙ is' in cc
one_list (behind_token size kind is more) (behind_space size' is' more') = let h : spelled size kind ≡ space size' = sym is ∙ is' in cc

-- some list that a place spells
abbrev SomeList : List ℕ → List ℕ → Type 0
SomeList before bytes = (tokens : List Token) × SpellsFrom before bytes tokens

list_by : (before : List ℕ) (b : ℕ) (rest : List ℕ) (piece : Piece) → piece_at (begins_line before) (b ∷ rest) ≡ piece → fault_from before 0 (b ∷ rest) ≡ None
    → ((size : ℕ) → 1 ≤ size → fault_from (before ++ take size (b ∷ rest)) 0 (drop size (b ∷ rest)) ≡ None → SomeList (before ++ take size (b ∷ rest)) (drop size (b ∷ rest)))
    → SomeList before (b ∷ rest)
list_by before b rest (space size) is fault more =
    let sizes = space-size (begins_line before) (b ∷ rest) size is in
    let found = more size sizes.0 (sym (fault_from-piece before (b ∷ rest) size None is sizes) ∙ fault) in
    (found.0, behind_space size is found.1)
list_by before b rest (broken rule) is fault more = let h = sym (fault_from-broken before (b ∷ rest) rule (omega arith) is) ∙ fault in cc
list_by before b rest (spelled size kind) is fault more =
    let sizes = piece-size (begins_line before) (b ∷ rest) size (Some kind) is in
    let found = more size sizes.0 (sym (fault_from-piece before (b ∷ rest) size (Some kind) is sizes) ∙ fault) in
    (on before kind ∷ found.0, behind_token size kind is found.1)

-- where no rule is broken, some list is spelled
pub some_list : (most : ℕ) (before bytes : List ℕ) → length bytes ≤ most → fault_from before 0 bytes ≡ None → SomeList before bytes
some_list most before [] le fault = ([], at_end)
some_list zero before (b ∷ rest) le fault = absurd (omega arith)
some_list (suc most) before (b ∷ rest) le fault =
    list_by before b rest (piece_at (begins_line before) (b ∷ rest)) refl fault (λ size some none.
    some_list most (before ++ take size (b ∷ rest)) (drop size (b ∷ rest)) (omega (arith, some, le, length-drop size (b ∷ rest))) none)

-- ---- the loop

-- the tokens before a place are read; what is spelled from it on follows them, and the first fault is the first from it on
pub record ReadTo (bytes : List ℕ) (tokens : List Token) (at line : ℕ) (first : Bool) : Type 0 where
  pub within : at ≤ length bytes
  pub line_is : line ≡ line_of (take at bytes)
  pub first_is : first ≡ begins_line (take at bytes)
  pub spells : (more : List Token) → SpellsFrom (take at bytes) (drop at bytes) more → Spells bytes (tokens ++ more)
  pub fault : token_fault bytes ≡ fault_from (take at bytes) 0 (drop at bytes)

pub read_same : {bytes : List ℕ} {tokens tokens' : List Token} {at line line' : ℕ} {first first' : Bool} → tokens ≡ tokens' → line ≡ line' → first ≡ first'
    → ReadTo bytes tokens at line first → ReadTo bytes tokens' at line' first'
read_same {bytes} {tokens} {tokens'} {at} {line} {line'} {first} {first'} same_tokens same_line same_first read =
    subst (λ (t : List Token). ReadTo bytes t at line' first') same_tokens
    (subst (λ (n : ℕ). ReadTo bytes tokens at n first') same_line (subst (λ (f : Bool). ReadTo bytes tokens at line f) same_first read))

pub read_start : (bytes : List ℕ) → ReadTo bytes [] 0 1 true
unfolding token_fault
read_start bytes = record { within = omega arith; line_is = refl; first_is = refl; spells = λ more is. is; fault = refl }

-- the place behind a piece
module _ (bytes : List ℕ) (at size : ℕ) where
  before_next : take at bytes ++ take size (drop at bytes) ≡ take (at + size) bytes
  before_next = sym (take-add at size bytes)

  behind_next : drop size (drop at bytes) ≡ drop (at + size) bytes
  behind_next = drop-drop size at bytes

-- a piece behind which some tokens are spelled
piece_spells : (before bytes : List ℕ) (size : ℕ) (kind : Option TokenKind) (more : List Token) → piece_at (begins_line before) bytes ≡ piece_seen size kind
    → SpellsFrom (before ++ take size bytes) (drop size bytes) more → SpellsFrom before bytes (token_list kind (line_of before) ++ more)
piece_spells before bytes size None more is from = behind_space size is from
piece_spells before bytes size (Some kind) more is from = behind_token size kind is from

pub read_piece : (bytes : List ℕ) (tokens : List Token) (at line : ℕ) (first : Bool) (size : ℕ) (kind : Option TokenKind) → ReadTo bytes tokens at line first
    → piece_at first (drop at bytes) ≡ piece_seen size kind
    → ReadTo bytes (tokens ++ token_list kind line) (at + size) (line + count_by (λ b. b == newline) (take size (drop at bytes))) (fold stays_first first (take size (drop at bytes)))
read_piece bytes tokens at line first size kind read is =
    let before = take at bytes in
    let behind = drop at bytes in
    let here : piece_at (begins_line before) behind ≡ piece_seen size kind = ap (λ (f : Bool). piece_at f behind) (sym read.first_is) ∙ is in
    let sizes = piece-size (begins_line before) behind size kind here in
    record {
      within = omega (arith, sizes.1, read.within, length-drop at bytes);
      line_is =
          ap (λ (n : ℕ). n + count_by (λ b. b == newline) (take size behind)) read.line_is ∙ sym (line_of-append before (take size behind))
          ∙ ap line_of (before_next bytes at size);
      first_is =
          ap (λ (f : Bool). fold stays_first f (take size behind)) read.first_is ∙ sym (begins_line-append before (take size behind))
          ∙ ap begins_line (before_next bytes at size);
      spells = λ more from.
          let behind_piece = subst (λ (b : List ℕ). SpellsFrom b (drop size behind) more) (sym (before_next bytes at size))
          (subst (λ (r : List ℕ). SpellsFrom (take (at + size) bytes) r more) (sym (behind_next bytes at size)) from) in
          let whole = read.spells (token_list kind (line_of before) ++ more) (piece_spells before behind size kind more here behind_piece) in
          subst (λ (tokens : List Token). Spells bytes tokens)
          (sym (append_assoc tokens (token_list kind (line_of before)) more) ∙ ap (λ (n : ℕ). (tokens ++ token_list kind n) ++ more) (sym read.line_is)) whole;
      fault = read.fault ∙ fault_from-piece before behind size kind here sizes ∙ (λ i. fault_from (before_next bytes at size i) 0 (behind_next bytes at size i));
    }

-- at the end the tokens are what the bytes spell
pub read_end : (bytes : List ℕ) (tokens : List Token) (at line : ℕ) (first : Bool) → ReadTo bytes tokens at line first → length bytes ≤ at → Spells bytes tokens
read_end bytes tokens at line first read end =
    let none = drop_of_length-le bytes end in
    subst (λ (tokens : List Token). Spells bytes tokens) (append-nil tokens)
    (read.spells [] (subst (λ (r : List ℕ). SpellsFrom (take at bytes) r []) (sym none) at_end))

-- where a rule is broken, it is the first fault
pub read_broken : (bytes : List ℕ) (tokens : List Token) (at line : ℕ) (first : Bool) (rule : Rule) → ReadTo bytes tokens at line first → at < length bytes
    → piece_at first (drop at bytes) ≡ broken rule → token_fault bytes ≡ Some (rule, line)
read_broken bytes tokens at line first rule read lt is =
    read.fault
    ∙ fault_from-broken (take at bytes) (drop at bytes) rule (omega (arith, length-drop at bytes)) (ap (λ (f : Bool). piece_at f (drop at bytes)) (sym read.first_is) ∙ is)
    ∙ ap (λ (n : ℕ). Some (rule, n)) (sym read.line_is)

-- ---- the answers

-- bytes don't both spell a list and break a rule
pub not_both : (bytes : List ℕ) (tokens : List Token) (breach : RuleOnLine) → Spells bytes tokens → token_fault bytes ≡ Some breach → ⊥
unfolding token_fault
not_both bytes tokens breach spells fault = let h = sym fault ∙ no_fault spells in cc

module _ (bytes : List ℕ) (unit : ℕ) where
  pub only_from_list : (tokens others : List Token) → Spells bytes tokens → Spells bytes others → IsUnlessMemory (Ok tokens) (Ok others)
  only_from_list tokens others spells other = inl (ap Ok (one_list spells other))

  pub only_from_fault : (rule : Rule) (line : ℕ) (others : List Token) → token_fault bytes ≡ Some (rule, line) → Spells bytes others
      → IsUnlessMemory (Err (refusal_of unit (rule, line))) (Ok others)
  only_from_fault rule line others fault other = absurd (not_both bytes others (rule, line) other fault)

  pub first_from_list : (tokens : List Token) (breach : RuleOnLine) → Spells bytes tokens → token_fault bytes ≡ Some breach → IsUnlessMemory {A = List Token} (Ok tokens) (Err (refusal_of unit breach))
  first_from_list tokens breach spells fault = absurd (not_both bytes tokens breach spells fault)

  pub first_from_fault : (rule : Rule) (line : ℕ) (breach : RuleOnLine) → token_fault bytes ≡ Some (rule, line) → token_fault bytes ≡ Some breach
      → IsUnlessMemory {A = List Token} (Err (refusal_of unit (rule, line))) (Err (refusal_of unit breach))
  first_from_fault rule line breach fault other =
      let e : ◌≡◌ {A = RuleOnLine} (rule, line) breach = let h = sym fault ∙ other in cc in
      inl (ap (λ (b : RuleOnLine). Err (refusal_of unit b)) e)

pub spell_once : SpellOnce
spell_once bytes tokens others spells other = one_list spells other

pub spell_or_break : SpellOrBreak
unfolding token_fault
spell_or_break bytes = (λ found. no_fault found.1, λ none. some_list (length bytes) [] bytes (omega arith) none)

pub spell_longest : SpellLongest
spell_longest first bytes size kind is = spelled-longest first bytes size kind is

-- ---- a step of the code's loop, whose rest of the bytes is `take (length bytes - at) (drop at bytes)`

pub record Stopped (bytes : List ℕ) (unit : ℕ) (stop : Stop) : Type 0 where
  pub refused : IsFirstFault bytes unit stop
  pub only : (others : List Token) → Spells bytes others → IsUnlessMemory (Err stop) (Ok others)
  pub first : (breach : RuleOnLine) → token_fault bytes ≡ Some breach → IsUnlessMemory {A = List Token} (Err stop) (Err (refusal_of unit breach))

module _ (bytes : List ℕ) (tokens : List Token) (at line : ℕ) (first : Bool) (read : ReadTo bytes tokens at line first) (lt : at < length bytes) where
  rest_way : piece_at first (drop at bytes) ≡ way_at first (take (length bytes - at) (drop at bytes))
  rest_way = way-some first (drop at bytes) (omega (arith, length-drop at bytes)) ∙ ap (way_at first) (sym (take_rest bytes at))

  pub stopped : (unit : ℕ) (fault : Fault) → Agrees (Err fault) (way_at first (take (length bytes - at) (drop at bytes))) → Stopped bytes unit (stop_of unit line fault)
  stopped unit (Broken rule) agrees =
      let is = read_broken bytes tokens at line first rule read lt (rest_way ∙ sym agrees) in
      record {
        refused = (is, refl);
        only = λ others other. only_from_fault bytes unit rule line others is other;
        first = λ breach other. first_from_fault bytes unit rule line breach is other;
      }
  stopped unit Memory agrees = record { refused = tt; only = λ others other. inr refl; first = λ breach other. inr refl }

  -- the sizes of a piece, and the line
  pub piece_within : (size : ℕ) (kind : Option TokenKind) → piece_seen size kind ≡ way_at first (take (length bytes - at) (drop at bytes)) → (1 ≤ size) × (at + size ≤ length bytes)
  piece_within size kind agrees =
      let sizes = piece-size first (drop at bytes) size kind (rest_way ∙ sym agrees) in
      (sizes.0, omega (arith, sizes.1, lt, length-drop at bytes))

  pub line_within : line ≤ at + 1
  line_within = omega (arith, read.line_is, count_by-le-length (λ b. b == newline) (take at bytes), length-take at bytes)

  pub next_place : (size : ℕ) (kind : Option TokenKind) → piece_seen size kind ≡ way_at first (take (length bytes - at) (drop at bytes))
      → ReadTo bytes (tokens ++ token_list kind line) (at + size) (line + count_by (λ b. b == newline) (take size (take (length bytes - at) (drop at bytes))))
      (fold stays_first first (take size (take (length bytes - at) (drop at bytes))))
  next_place size kind agrees =
      subst (λ (rest : List ℕ). ReadTo bytes (tokens ++ token_list kind line) (at + size) (line + count_by (λ b. b == newline) (take size rest)) (fold stays_first first (take size rest)))
      (sym (take_rest bytes at)) (read_piece bytes tokens at line first size kind read (rest_way ∙ sym agrees))
