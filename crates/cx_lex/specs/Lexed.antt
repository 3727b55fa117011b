-- What `lex` answers, and the laws of what bytes spell.
use Rattle.std.specs.Prelude.{◌≡◌, ℕ, ◌<◌, ◌≤◌, ◌⊎◌, ◌↔◌, ⊤, Bool, List, length, take, Some, None, Result, Err}
use Rattle.cr_base.specs.declared.refusal.Stop.{Stop}
use Rattle.cr_base.specs.declared.refusal.Stop.TheVariants.{Refused, Memory}
use Rattle.cx_lex.specs.declared.token.Token.{Token}
use Rattle.cx_lex.specs.declared.token.TokenKind.{TokenKind}
use Rattle.cx_lex.specs.Tokens.{RuleOnLine, Spells, token_fault, token_of, piece_at, spelled}

-- a refusal is the first fault of the bytes, in that unit; want of memory says nothing
abbrev pub IsFirstFault : List ℕ → ℕ → Stop → Type 0
IsFirstFault bytes unit (Refused refusal) = (token_fault bytes ≡ Some (refusal.rule, refusal.line)) × (refusal.unit ≡ unit)
IsFirstFault bytes unit Memory = ⊤

-- the refusal, in a unit, by a rule that is broken on a line
abbrev pub refusal_of : ℕ → RuleOnLine → Stop
refusal_of unit fault = Refused (record { rule = fault.0; unit = unit; line = fault.1 })

-- the result is this answer, unless memory ran out
abbrev pub IsUnlessMemory : {A : Type 0} → Result A Stop → Result A Stop → Type 0
IsUnlessMemory result answer = (result ≡ answer) ⊎ (result ≡ Err Memory)

-- ---- laws

-- bytes spell at most one list of tokens
abbrev pub SpellOnce : Type 0
SpellOnce = (bytes : List ℕ) (tokens others : List Token) → Spells bytes tokens → Spells bytes others → tokens ≡ others

-- bytes spell a list of tokens exactly where they break no rule
abbrev pub SpellOrBreak : Type 0
SpellOrBreak = (bytes : List ℕ) → ((tokens : List Token) × Spells bytes tokens) ↔ (token_fault bytes ≡ None)

-- the token at a place is the longest: the front of its size is that token, and no longer front is a token
pub record IsLongestToken (bytes : List ℕ) (size : ℕ) (kind : TokenKind) : Type 0 where
  pub some : 1 ≤ size
  pub within : size ≤ length bytes
  pub here : token_of (take size bytes) ≡ Some kind
  pub longer : (n : ℕ) → size < n → n ≤ length bytes → token_of (take n bytes) ≡ None

abbrev pub SpellLongest : Type 0
SpellLongest = (first : Bool) (bytes : List ℕ) (size : ℕ) (kind : TokenKind) → piece_at first bytes ≡ spelled size kind → IsLongestToken bytes size kind
