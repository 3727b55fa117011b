-- The world of a run, which both languages share: what the program holds, the calls that it made, and what the outside
-- gives to it.
use Rattle.std.specs.Prelude.{ℕ, zero, suc, Bool, true, false, not, if◌then◌else◌, ℤ, pos, List, [], ◌∷◌, ◌++◌, map, Option, Some, None, Result, Ok, Err}
use Rattle.ext_calls.specs.declared.call.Call.{Call}
use Rattle.ext_calls.specs.declared.call.Made.{Made}
use Rattle.mem_bytes.specs.declared.fault.StoreFault.{StoreFault}
use Rattle.mem_bytes.specs.declared.fault.StoreFault.TheVariants.{Full, Memory}
use Rattle.mem_bytes.specs.declared.value.Ptr.{Ptr}
use Rattle.mem_bytes.specs.declared.value.Value.{Value}
use Rattle.mem_bytes.specs.Counted.{Limit, is_refused, after_alloc}
use Rattle.mem_bytes.specs.Memory.{Blocks}
use Rattle.cr_world.specs.Held.{Held, nothing_held, with_blocks, fresh_block, next_place, with_block}
use Rattle.cr_world.specs.Known.{allocated}

-- what the outside gives to a run: one answer for each call of a function whose effect isn't known, and one for each
-- allocation of no more bytes than an object has
pub record Outside : Type 0 where
  pub answers : List ℤ

-- on which terms a run takes its answers
pub data Terms : Type 0 where
  -- past the end of the answers a call is answered by 0, and an allocation isn't null; memory has no limit
  open_ended : Terms
  -- the answers are all that there are: those of a run that was seen over a store with this limit
  trail_of : Option Limit → Terms

-- why a run goes no further
pub data Stop (F : Type 0) : Type 0 where
  -- its next step has no meaning
  wrong : F → Stop F
  -- an object goes past the store's limit: the bytes that it needs, and those that are left
  full : (need left : ℕ) → Stop F
  -- a call has no answer in the trail
  asks : Call → Stop F
  -- the answer to an allocation in the trail isn't the one that the store's limit gives
  astray : Stop F

pub record World : Type 0 where
  pub held : Held
  -- the calls of functions whose effect isn't known, each with its answer, in order
  pub made : List Made
  -- the answers that are left
  pub answers : List ℤ
  pub terms : Terms

-- before the program begins
abbrev pub first_world : Terms → Outside → World
first_world terms outside = record { held = nothing_held; made = []; answers = outside.answers; terms = terms }

-- what the outside sees of a run: those calls
abbrev pub events_of : World → List Call
events_of world = map (λ one. one.call) world.made

abbrev pub blocks_of : World → Blocks
blocks_of world = world.held.blocks

abbrev pub with_memory : Blocks → World → World
with_memory blocks world = record world { held = with_blocks blocks world.held }

abbrev pub with_held : Held → World → World
with_held held world = record world { held = held }

-- what a step of a world gives, and the world after it
pub record Got (A : Type 0) : Type 0 where
  pub value : A
  pub world : World

-- ---- a call of a function whose effect isn't known

abbrev pub after_answer : Call → ℤ → List ℤ → World → World
after_answer call answer left world = record world {
  made = world.made ++ record { call = call; answer = answer } ∷ [];
  answers = left;
}

abbrev pub answer_at_end : {F : Type 0} → Terms → Call → World → Result (Got ℤ) (Stop F)
answer_at_end open_ended call world = Ok (record { value = pos 0; world = after_answer call (pos 0) [] world })
answer_at_end (trail_of limit) call world = Err (asks call)

abbrev pub answer_from : {F : Type 0} → List ℤ → Call → World → Result (Got ℤ) (Stop F)
answer_from [] call world = answer_at_end world.terms call world
answer_from (answer ∷ left) call world = Ok (record { value = answer; world = after_answer call answer left world })

-- the answer to a call
abbrev pub answered : {F : Type 0} → Call → World → Result (Got ℤ) (Stop F)
answered call world = answer_from world.answers call world

-- ---- an allocation

abbrev pub after_allocation : {F : Type 0} → Bool → Bool → ℕ → List ℤ → World → Result (Got Value) (Stop F)
after_allocation is_given is_zero size left world =
    let one = allocated is_given is_zero size world.held in
    Ok (record { value = one.value; world = record world { held = one.held; answers = left } })

abbrev pub is_refused_by : Option Limit → Blocks → ℕ → Bool
is_refused_by None blocks size = false
is_refused_by (Some limit) blocks size = is_refused limit blocks size

-- an answer in a trail is 0 exactly where the store refuses the block, and 1 otherwise
abbrev pub is_of_store : (refused : Bool) → ℤ → Bool
is_of_store true (pos zero) = true
is_of_store false (pos (suc zero)) = true
is_of_store refused answer = false

-- an answer of 0 is null
abbrev pub is_given : ℤ → Bool
is_given (pos zero) = false
is_given answer = true

abbrev pub granted_by_store : {F : Type 0} → Bool → ℤ → Bool → ℕ → List ℤ → World → Result (Got Value) (Stop F)
granted_by_store refused answer is_zero size left world =
    if is_of_store refused answer then after_allocation (not refused) is_zero size left world else Err astray

abbrev pub granted_on : {F : Type 0} → Terms → List ℤ → Bool → ℕ → World → Result (Got Value) (Stop F)
granted_on open_ended [] is_zero size world = after_allocation true is_zero size [] world
granted_on open_ended (answer ∷ left) is_zero size world =
    after_allocation (is_given answer) is_zero size left world
granted_on (trail_of limit) [] is_zero size world = Err astray
granted_on (trail_of limit) (answer ∷ left) is_zero size world =
    granted_by_store (is_refused_by limit world.held.blocks size) answer is_zero size left world

-- what an allocation of so many bytes gives: null, or a pointer to a new block
abbrev pub granted : {F : Type 0} → (is_zero : Bool) → (size : ℕ) → World → Result (Got Value) (Stop F)
granted is_zero size world = granted_on world.terms world.answers is_zero size world

-- ---- an object begins

abbrev pub begun_at : {F : Type 0} → Bool → ℕ → ℕ → World → Result Blocks StoreFault → Result (Got Ptr) (Stop F)
begun_at is_zero size align world (Ok _) =
    Ok (record {
      value = next_place world.held.blocks;
      world = with_memory (with_block (fresh_block is_zero size align) world.held.blocks) world;
    })
begun_at is_zero size align world (Err (Full need left)) = Err (full need left)
begun_at is_zero size align world (Err Memory) = Err astray

abbrev pub limit_of : Terms → Option Limit
limit_of open_ended = None
limit_of (trail_of limit) = limit

-- the life of an object of this size and alignment begins, in the next block: its bytes are 0, or all its bits are unset
abbrev pub object_begun : {F : Type 0} → (is_zero : Bool) → (size align : ℕ) → World → Result (Got Ptr) (Stop F)
object_begun is_zero size align world =
    begun_at is_zero size align world (after_alloc (limit_of world.terms) world.held.blocks size align)
