-- Loads, stores and new blocks.
use Rattle.std.proofs.Common.{◌≡◌, ◌∙◌, refl, sym, ap, subst, arith, ℤ, ℕ, ◌+◌, nat_le, Bool, true, false, List, [], ◌∷◌, ◌++◌, length, drop, replicate, slice_get, slice_set, unwrap_or, Option, Some, None, option_map, Result, Ok, Err, append-nil, if◌then◌else◌}
use Rattle.std.proofs.lemmas.Bool.Decides.{nat_tests}
use Rattle.std.proofs.lemmas.List.{length-replicate, drop_all}
use Rattle.cr_runs.specs.Runs.{Ran, came, bad}
use Rattle.cr_world.specs.Held.{fresh_block, zero_block, with_block}
use Rattle.cr_world.specs.World.{World, Stop, full, trail_of, begun_at}
use Rattle.ext_calls.specs.declared.call.Made.{Made}
use Rattle.mem_bytes.specs.Access.{after_fill, after_put, and_then, is_aligned, live_read, block_with_fill, block_with_value}
use Rattle.mem_bytes.specs.Coding.{scalar_size}
use Rattle.mem_bytes.specs.declared.cell.Cell.{Cell}
use Rattle.mem_bytes.specs.Counted.{Limit, after_alloc, is_refused, with_new_block}
use Rattle.mem_bytes.specs.Memory.{live_block, Block, Blocks, new_block, byte_cell, unset_cell, size_of, state_of}
use Rattle.mem_bytes.specs.declared.fault.Fault.{Fault}
use Rattle.mem_bytes.specs.declared.fault.Fault.TheVariants.{Dead, Outside, Misaligned, Unset, BadBool, MixedPointer}
use Rattle.mem_bytes.specs.declared.fault.StoreFault.{StoreFault}
use Rattle.mem_bytes.specs.declared.fault.StoreFault.TheVariants.{Full, Memory}
use Rattle.mem_bytes.specs.declared.value.Ptr.{Ptr}
use Rattle.mem_bytes.specs.declared.value.Value.{Value}
use Rattle.rs_mean.specs.declared.cause.Cause.{Cause}
use Rattle.rs_mean.specs.declared.cause.Cause.TheVariants.{WrongCall}
use Rattle.cr_base.specs.declared.layout.Laid.{Laid}
use Rattle.cr_base.specs.declared.scalar.Scalar.{Scalar}
use Rattle.rs_mean.specs.Calls.{Spot, on_base, load, store, begins_laid}
use Rattle.rs_mean.specs.Values.{Typed}
use Rattle.rs_mean.specs.World.{begins, after_got}
use Rattle.rs_value.specs.declared.trouble.Trouble.{Trouble}
use Rattle.rs_value.specs.declared.trouble.Trouble.TheVariants as trouble
use Rattle.rs_machine.specs.Accesses.{loaded, stored, unbased, unbased_in, Changes}
use Rattle.rs_machine.specs.Blocks.{place_of, Begins}
use Rattle.rs_machine.specs.Does.{stopped_of, stopped_by_store, Stopped, went_wrong, store_full, End, gives, stops, found_end, Does, breaks_off}
use Rattle.rs_machine.specs.States.{Kept, State, state, world_at}
use Rattle.rs_machine.specs.Steps.{LookDoes, StoreDoes}
use Rattle.rs_machine.proofs.Pieces.{quiet_state, comes_quiet, breaks_quiet}
use Rattle.rs_machine.proofs.Rules.{memory_does, fails_does, looks_does, local_does, local_fails}

-- ---- loads and stores

load_finds : (blocks : Blocks) (place : Spot) (found : Result Typed Cause) → found ≡ loaded blocks place → LookDoes (load place) (found_end found) blocks
load_finds blocks place found is = λ kept limit host.
    let at : State = state kept blocks limit host in
    subst (λ (one : Result Typed Cause). Does (load place) (found_end one) at at) (sym is) (looks_does _ at)

pub load_gives : (blocks : Blocks) (place : Spot) (value : Typed) → Ok value ≡ loaded blocks place → LookDoes (load place) (gives value) blocks
load_gives blocks place value is = load_finds blocks place (Ok value) is

pub load_fails : (blocks : Blocks) (place : Spot) (why : Cause) → Err why ≡ loaded blocks place → LookDoes (load place) (stops (went_wrong why)) blocks
load_fails blocks place why is = load_finds blocks place (Err why) is

pub store_gives : (before after : Blocks) (limit later : Option Limit) (place : Spot) (value : Value) → later ≡ limit → stored before place value ≡ Ok after →
    StoreDoes (store place value) (gives tt) before after limit later
store_gives before after limit later place value same is = λ kept host.
    local_does _ tt (quiet_state kept kept.heap before after limit later host same) (rw is refl)

pub store_fails : (before after : Blocks) (limit later : Option Limit) (place : Spot) (value : Value) (why : Cause) → later ≡ limit →
    stored before place value ≡ Err why → after ≡ before → StoreDoes (store place value) (stops (went_wrong why)) before after limit later
store_fails before after limit later place value why same is still = λ kept host.
    local_fails _ why (quiet_state kept kept.heap before after limit later host same)
    (ap (λ (blocks : Blocks). record { blocks = blocks; heap = kept.heap }) still) (rw is refl)

pub store_stops : (before after : Blocks) (limit later : Option Limit) (place : Spot) (value : Value) (why : Trouble) (stop : Stopped) → later ≡ limit →
    Changes (Err why) before after (stored before place value) → stop ≡ stopped_of why → StoreDoes (store place value) (stops stop) before after limit later
store_stops before after limit later place value (trouble.Wrong why) stop same changes is =
    subst (λ (one : Stopped). StoreDoes (store place value) (stops one) before after limit later) (sym is)
    (store_fails before after limit later place value why same changes.0 changes.1)
store_stops before after limit later place value trouble.Memory stop same changes is =
    subst (λ (one : Stopped). StoreDoes (store place value) (stops one) before after limit later) (sym is) (λ kept host. memory_does _ _ _ refl)

-- what is told of a block says what a store finds in it, whose base isn't aligned
put_in : (offset : ℕ) (scalar : Scalar) (value : Value) (block : Block) (fits aligned : Bool) → nat_le (offset + scalar_size scalar) (size_of block) ≡ fits →
    is_aligned scalar block offset ≡ aligned → on_base {A = Block} false (block_with_value block offset scalar value)
    ≡ Err (if nat_le (offset + scalar_size scalar) (size_of block) then Misaligned else Outside)
put_in offset scalar value block true true fits is = rw (fits, is) refl
put_in offset scalar value block true false fits is = rw (fits, is) refl
put_in offset scalar value block false aligned fits is = rw fits refl

-- a change of a live block that is at fault
on_change : {A : Type 0} (found : Result Block Fault) (next : Block → A) (why : Fault) → on_base false found ≡ Err why →
    on_base false (and_then found (λ block. Ok (next block))) ≡ Err why
on_change (Ok block) next Misaligned is = refl
on_change (Ok block) next Dead is = absurd cc
on_change (Ok block) next Outside is = absurd cc
on_change (Ok block) next Unset is = absurd cc
on_change (Ok block) next BadBool is = absurd cc
on_change (Ok block) next MixedPointer is = absurd cc
on_change (Err Dead) next why is = cc
on_change (Err Outside) next why is = cc
on_change (Err Misaligned) next why is = cc
on_change (Err Unset) next why is = cc
on_change (Err BadBool) next why is = cc
on_change (Err MixedPointer) next why is = cc

put_of : (blocks : Blocks) (at : Ptr) (scalar : Scalar) (value : Value) (got : Option (Option Block)) →
    on_base false (and_then (live_read (unwrap_or got None) (λ block. block_with_value block at.offset scalar value)) (λ block. Ok (slice_set blocks at.block (Some block))))
    ≡ Err (unbased_in at.offset (scalar_size scalar) (option_map state_of got))
put_of blocks at scalar value None = refl
put_of blocks at scalar value (Some None) = refl
put_of blocks at scalar value (Some (Some block)) =
    on_change (block_with_value block at.offset scalar value) (λ one. slice_set blocks at.block (Some one)) _ (put_in at.offset scalar value block _ _ refl refl)

-- a store at a place whose base isn't aligned
pub unbased_put : (blocks : Blocks) (at : Ptr) (scalar : Scalar) (value : Value) → on_base false (after_put blocks at scalar value) ≡ Err (unbased blocks at scalar)
unbased_put blocks at scalar value = put_of blocks at scalar value (slice_get blocks at.block)

-- ---- new blocks

-- the block at the end of a list
end_get : (A : Type 0) (front : List A) (one : A) → slice_get (front ++ one ∷ []) (length front) ≡ Some one
end_get A [] one = refl
end_get A (first ∷ front) one = end_get A front one

end_set : (A : Type 0) (front : List A) (one other : A) → slice_set (front ++ one ∷ []) (length front) other ≡ front ++ other ∷ []
end_set A [] one other = refl
end_set A (first ∷ front) one other = ap (λ (list : List A). first ∷ list) (end_set A front one other)

ok_is : {A E : Type 0} (one other : A) → ◌≡◌ {A = Result A E} (Ok one) (Ok other) → other ≡ one
ok_is one other is = cc

abbrev as_ok : Blocks → Result Blocks Fault
as_ok blocks = Ok blocks

-- all cells of a block are set
all_set : (size align : ℕ) (cells : List Cell) → length cells ≡ size → block_with_fill (record { align = align; cells = cells }) 0 0 size
    ≡ Ok (zero_block size align)
all_set size align cells is =
    let fits : nat_le (0 + size) (length cells) ≡ true = grind (arith, nat_tests, is) in
    let none : drop (0 + length (replicate size (byte_cell 0))) cells ≡ [] = drop_all _ cells (simp length-replicate (omega (arith, is))) in
    rw (fits, none, append-nil) refl

-- a new block of which all bytes are set to 0
filled : (size align : ℕ) (before after : Blocks) (block : Option Block) → block ≡ Some (new_block size align) →
    and_then (live_read block (λ one. block_with_fill one 0 0 size)) (λ one. Ok (slice_set (with_new_block before size align) (length before) (Some one))) ≡ Ok after →
    after ≡ with_block (zero_block size align) before
filled size align before after block is fill =
    ok_is {E = Fault} _ after (
    ap (λ (list : Blocks). as_ok list) (sym (end_set (Option Block) before (Some (new_block size align)) (Some (zero_block size align))))
    ∙ sym (ap (λ (found : Result Block Fault). and_then found (λ one. Ok (slice_set (with_new_block before size align) (length before) (Some one))))
    (all_set size align (replicate size unset_cell) (length-replicate size unset_cell)))
    ∙ sym (ap (λ (found : Option Block). and_then (live_read found (λ one. block_with_fill one 0 0 size)) (λ one. Ok (slice_set (with_new_block before size align) (length before) (Some one)))) is)
    ∙ fill)

made_where : (test : Bool) (why : StoreFault) (blocks made : Blocks) → (if test then Err why else Ok blocks) ≡ Ok made → made ≡ blocks
made_where true why blocks made is = absurd cc
made_where false why blocks made is = ok_is _ made is

made_by : (size align : ℕ) (limit : Option Limit) (before made : Blocks) → after_alloc limit before size align ≡ Ok made → made ≡ with_new_block before size align
made_by size align None before made is = ok_is _ made is
made_by size align (Some limit) before made is = made_where (is_refused limit before size) _ _ made is

pub fill_new : (size align block : ℕ) (limit : Option Limit) (before made after : Blocks) → after_alloc limit before size align ≡ Ok made → block ≡ length before →
    after_fill made (record { block = block; offset = 0 }) 0 size ≡ Ok after → after ≡ with_block (zero_block size align) before
fill_new size align block limit before made after alloc number fill =
    filled size align before after (live_block (with_new_block before size align) (length before))
    (ap (λ (found : Option (Option Block)). unwrap_or found None) (end_get (Option Block) before (Some (new_block size align))))
    (sym (ap (λ (blocks : Blocks). after_fill blocks (record { block = length before; offset = 0 }) 0 size) (made_by size align limit before made alloc))
    ∙ sym (ap (λ (n : ℕ). after_fill made (record { block = n; offset = 0 }) 0 size) number) ∙ fill)

-- a block has begun, and a store is full
abbrev came_at : ℕ → Blocks → Option Limit → Kept → List Made → List ℤ → ℕ → Ran (Stop Cause) World Ptr
came_at block blocks limit kept calls ahead left =
    came (place_of block) (record { held = record { blocks = blocks; heap = kept.heap }; made = calls; answers = ahead; terms = trail_of limit }) left

abbrev full_at : (need rest : ℕ) → Blocks → Option Limit → Kept → List Made → List ℤ → Ran (Stop Cause) World Ptr
full_at need rest blocks limit kept calls ahead =
    bad (full need rest) (record { held = record { blocks = blocks; heap = kept.heap }; made = calls; answers = ahead; terms = trail_of limit })

pub begins_gives : (size align : ℕ) (before after made : Blocks) (limit later : Option Limit) (block : ℕ) → later ≡ limit → block ≡ length before →
    after ≡ with_block (fresh_block true size align) before → after_alloc limit before size align ≡ Ok made →
    StoreDoes (begins size align) (gives (place_of block)) before after limit later
unfolding begins
begins_gives size align before after made limit later block same number is alloc = λ kept host.
    let one : State = state kept before limit host in
    let two : State = state kept after later host in
    record {
      by = comes_quiet (begins size align) one two (quiet_state kept kept.heap before after limit later host same) (place_of block) (λ calls ahead left.
          ap (λ (found : Result Blocks StoreFault). after_got left (world_at one calls ahead) (begun_at true size align (world_at one calls ahead) found)) alloc
          ∙ ap (λ (blocks : Blocks). came_at (length before) blocks limit kept calls ahead left) (sym is)
          ∙ ap (λ (terms : Option Limit). came_at (length before) after terms kept calls ahead left) (sym same)
          ∙ ap (λ (n : ℕ). came_at n after later kept calls ahead left) (sym number));
    }

pub begins_full : (size align : ℕ) (before after : Blocks) (limit later : Option Limit) (need rest : ℕ) → later ≡ limit →
    after_alloc limit before size align ≡ Err (Full need rest) → after ≡ before → StoreDoes (begins size align) (stops (store_full need rest)) before after limit later
unfolding begins
begins_full size align before after limit later need rest same alloc is = λ kept host.
    let one : State = state kept before limit host in
    let two : State = state kept after later host in
    record {
      by = breaks_quiet (begins size align) one two (quiet_state kept kept.heap before after limit later host same) (breaks_off (full need rest)) (λ calls ahead left at.
          ap (λ (found : Result Blocks StoreFault). after_got left (world_at one calls ahead) (begun_at true size align (world_at one calls ahead) found)) alloc
          ∙ ap (λ (blocks : Blocks). full_at need rest blocks limit kept calls ahead) (sym is)
          ∙ ap (λ (terms : Option Limit). full_at need rest after terms kept calls ahead) (sym same));
    }

pub begun : (size align : ℕ) (before after : Blocks) (limit later : Option Limit) (block : ℕ) → later ≡ limit → Begins (Ok block) true size align limit before after →
    StoreDoes (begins size align) (gives (place_of block)) before after limit later
begun size align before after limit later block same begins = begins_gives size align before after begins.2.0 limit later block same begins.0 begins.1 begins.2.1

pub not_begun : (size align : ℕ) (before after : Blocks) (limit later : Option Limit) (why : StoreFault) (stop : Stopped) → later ≡ limit →
    Begins (Err why) true size align limit before after → stop ≡ stopped_by_store why → StoreDoes (begins size align) (stops stop) before after limit later
not_begun size align before after limit later (Full need rest) stop same begun is =
    subst (λ (one : Stopped). StoreDoes (begins size align) (stops one) before after limit later) (sym is) (begins_full size align before after limit later need rest same begun.0 begun.1)
not_begun size align before after limit later Memory stop same begun is =
    subst (λ (one : Stopped). StoreDoes (begins size align) (stops one) before after limit later) (sym is) (λ kept host. memory_does _ _ _ refl)

pub zero_fresh : (is_zero : Bool) (size align : ℕ) (before after : Blocks) → is_zero ≡ true → after ≡ with_block (zero_block size align) before →
    after ≡ with_block (fresh_block is_zero size align) before
zero_fresh true size align before after is same = same
zero_fresh false size align before after is same = absurd cc

-- ---- objects of a layout

pub begin_none : (laid : Option Laid) (blocks : Blocks) (limit : Option Limit) → laid ≡ None → StoreDoes (begins_laid laid) (stops (went_wrong WrongCall)) blocks blocks limit limit
begin_none None blocks limit is = λ kept host. fails_does WrongCall (state kept blocks limit host)
begin_none (Some one) blocks limit is = absurd cc

pub begin_some : (laid : Option Laid) (one : Laid) → laid ≡ Some one → {end : End Ptr} {before after : Blocks} {limit later : Option Limit} →
    StoreDoes (begins one.size one.align) end before after limit later → StoreDoes (begins_laid laid) end before after limit later
begin_some laid one is {end = end} {before = before} {after = after} {limit = limit} {later = later} does =
    subst (λ (found : Option Laid). StoreDoes (begins_laid found) end before after limit later) (sym is) does
