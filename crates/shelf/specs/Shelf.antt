-- What a shelf of named files holds, and what a call on it may do.
use Rattle.std.specs.Prelude.{◌≡◌, ℕ, ◌<◌, ◌≤◌, List, length, Option, Some, None, option_map, Result, Ok, Err, if◌then◌else◌, bytes_eq, ⊤}
use Rattle.cr_base.specs.Count.{Rose}
use Rattle.shelf.specs.declared.called.Called.{Called}
use Rattle.shelf.specs.declared.called.Kind.{Kind}
use Rattle.shelf.specs.declared.file.Got.{Got}
use Rattle.shelf.specs.declared.file.Got.TheVariants.{Bytes, TooLarge}
use Rattle.shelf.specs.declared.fault.ShelfFault.{ShelfFault}
use Rattle.shelf.specs.declared.fault.ShelfFault.TheVariants.{Failed, Memory}

-- what a shelf holds, where it tells that: for each name the bytes that are held under it, or none
abbrev pub Held : Type 0
Held = Option (List ℕ → Option (List ℕ))

-- what is known of a shelf
pub record ShelfState : Type 0 where
  -- what it holds, where told
  pub held : Held
  -- how many calls have failed; it never falls, and stands still at the last value of a `u64`
  pub faults : ℕ
  -- the name and kind of the last call that failed; none at the start
  pub last : Option Called

-- what `get` gives of a name under which these bytes, or none, are held: TooLarge exactly where
-- more than `limit` bytes are held, and otherwise all of them. A name that isn't held gives
-- nothing, since that is a failed call.
abbrev pub IsGotOf : Option (List ℕ) → ℕ → Got → Type 0
IsGotOf None limit got = ⊥
IsGotOf (Some bytes) limit (Bytes given) = (given ≡ bytes) × (length bytes ≤ limit)
IsGotOf (Some bytes) limit TooLarge = limit < length bytes

-- what `get` gives of a name, where the shelf tells what it holds; otherwise nothing is said
abbrev pub IsGot : Held → List ℕ → ℕ → Got → Type 0
IsGot None name limit got = ⊤
IsGot (Some held) name limit got = IsGotOf (held name) limit got

-- what `get` gives is no more than it was asked for at most, whether the shelf tells what it holds or not
abbrev pub IsWithin : ℕ → Got → Type 0
IsWithin limit (Bytes given) = length given ≤ limit
IsWithin limit TooLarge = ⊤

-- what is held once these bytes stand under a name, and under every other name what stood there
abbrev pub with_file : List ℕ → List ℕ → Held → Held
with_file name bytes held =
    option_map (λ files asked. if bytes_eq name asked then Some bytes else files asked) held

-- what is held under every other name than this one
abbrev pub without_file : List ℕ → Held → Held
without_file name held =
    option_map (λ files asked. if bytes_eq name asked then None else files asked) held

-- P, if the call failed
abbrev pub OnFailed : {T : Type 0} → Result T ShelfFault → Type 0 → Type 0
OnFailed (Ok value) P = ⊤
OnFailed (Err Failed) P = P
OnFailed (Err Memory) P = ⊤

-- P, unless the call failed
abbrev pub UnlessFailed : {T : Type 0} → Result T ShelfFault → Type 0 → Type 0
UnlessFailed (Ok value) P = P
UnlessFailed (Err Failed) P = ⊤
UnlessFailed (Err Memory) P = P

-- a call of this name and kind
abbrev pub call_of : List ℕ → Kind → Called
call_of name kind = record { name = name; kind = kind }

-- what a call of this name and kind does to the count of faults and to the last failed call: a call
-- that failed raised the count and is the last one; every other call leaves both as they were
pub record HasCause {T : Type 0} (name : List ℕ) (kind : Kind) (before after : ShelfState)
    (result : Result T ShelfFault) : Type 0 where
  pub later : before.faults ≤ after.faults
  pub still : UnlessFailed result (after.faults ≡ before.faults)
  pub rose : OnFailed result (Rose before.faults after.faults)
  pub named : OnFailed result (after.last ≡ Some (call_of name kind))
  pub kept : UnlessFailed result (after.last ≡ before.last)
