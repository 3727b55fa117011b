-- Blocks that begin.
use Rattle.std.proofs.Common.{◌≡◌, ◌∙◌, refl, sym, ap, subst, arith, ℤ, pos, ℕ, ◌+◌, nat_le, Bool, true, false, List, [], ◌∷◌, ◌++◌, length, drop, replicate, slice_get, slice_set, unwrap_or, Option, Some, None, option_map, Result, Ok, Err, append-nil, if◌then◌else◌}
use Rattle.std.proofs.lemmas.Bool.Decides.{nat_tests}
use Rattle.std.proofs.lemmas.List.{length-replicate, drop_all}
use Rattle.cr_world.specs.Held.{fresh_block, zero_block, with_block}
use Rattle.cr_world.specs.World.{Got, trail_of, begun_at, object_begun, granted, granted_by_store, is_refused_by}
use Rattle.cx_mean.specs.Operands.{CFault, CStop}
use Rattle.ext_calls.specs.declared.call.Made.{Made}
use Rattle.ext_calls.specs.Host.{HostState}
use Rattle.mem_bytes.specs.Access.{after_fill, and_then, live_read, block_with_fill}
use Rattle.mem_bytes.specs.declared.cell.Cell.{Cell}
use Rattle.mem_bytes.specs.Counted.{Limit, after_alloc, is_refused, with_new_block}
use Rattle.mem_bytes.specs.Memory.{live_block, Block, Blocks, new_block, byte_cell, unset_cell}
use Rattle.mem_bytes.specs.declared.fault.Fault.{Fault}
use Rattle.mem_bytes.specs.declared.fault.StoreFault.{StoreFault}
use Rattle.mem_bytes.specs.declared.fault.StoreFault.TheVariants.{Full}
use Rattle.mem_bytes.specs.declared.value.Value.TheVariants.{Null, Object}
use Rattle.cx_outside.specs.Blocks.{place_of, Begins}
use Rattle.cx_outside.specs.Comes.{Comes, got, StoreSteps}
use Rattle.cx_outside.specs.States.{KeptState, around, world_at, Between, Quiet}
use Rattle.cx_outside.specs.declared.outside.Lack.TheVariants as lack

-- ---- new blocks

-- the block at the end of a list
end_get : (A : Type 0) (front : List A) (one : A) → slice_get (front ++ one ∷ []) (length front) ≡ Some one
end_get A [] one = refl
end_get A (first ∷ front) one = end_get A front one

end_set : (A : Type 0) (front : List A) (one other : A) → slice_set (front ++ one ∷ []) (length front) other ≡ front ++ other ∷ []
end_set A [] one other = refl
end_set A (first ∷ front) one other = ap (λ (list : List A). first ∷ list) (end_set A front one other)

ok_is : {A E : Type 0} (one other : A) → ◌≡◌ {A = Result A E} (Ok one) (Ok other) → other ≡ one
ok_is one other is = cc

abbrev as_ok : Blocks → Result Blocks Fault
as_ok blocks = Ok blocks

-- all cells of a block are set
all_set : (size align : ℕ) (cells : List Cell) → length cells ≡ size → block_with_fill (record { align = align; cells = cells }) 0 0 size
    ≡ Ok (zero_block size align)
all_set size align cells is =
    let fits : nat_le (0 + size) (length cells) ≡ true = grind (arith, nat_tests, is) in
    let none : drop (0 + length (replicate size (byte_cell 0))) cells ≡ [] = drop_all _ cells (simp length-replicate (omega (arith, is))) in
    rw (fits, none, append-nil) refl

-- a new block of which all bytes are set to 0
filled : (size align : ℕ) (before after : Blocks) (block : Option Block) → block ≡ Some (new_block size align) →
    and_then (live_read block (λ one. block_with_fill one 0 0 size)) (λ one. Ok (slice_set (with_new_block before size align) (length before) (Some one))) ≡ Ok after →
    after ≡ with_block (zero_block size align) before
filled size align before after block is fill =
    ok_is {E = Fault} _ after (
    ap (λ (list : Blocks). as_ok list) (sym (end_set (Option Block) before (Some (new_block size align)) (Some (zero_block size align))))
    ∙ sym (ap (λ (found : Result Block Fault). and_then found (λ one. Ok (slice_set (with_new_block before size align) (length before) (Some one))))
    (all_set size align (replicate size unset_cell) (length-replicate size unset_cell)))
    ∙ sym (ap (λ (found : Option Block). and_then (live_read found (λ one. block_with_fill one 0 0 size)) (λ one. Ok (slice_set (with_new_block before size align) (length before) (Some one)))) is)
    ∙ fill)

made_where : (test : Bool) (why : StoreFault) (blocks made : Blocks) → (if test then Err why else Ok blocks) ≡ Ok made → made ≡ blocks
made_where true why blocks made is = absurd cc
made_where false why blocks made is = ok_is _ made is

made_by : (size align : ℕ) (limit : Option Limit) (before made : Blocks) → after_alloc limit before size align ≡ Ok made → made ≡ with_new_block before size align
made_by size align None before made is = ok_is _ made is
made_by size align (Some limit) before made is = made_where (is_refused limit before size) _ _ made is

pub fill_new : (size align block : ℕ) (limit : Option Limit) (before made after : Blocks) → after_alloc limit before size align ≡ Ok made → block ≡ length before →
    after_fill made (record { block = block; offset = 0 }) 0 size ≡ Ok after → after ≡ with_block (zero_block size align) before
fill_new size align block limit before made after alloc number fill =
    filled size align before after (live_block (with_new_block before size align) (length before))
    (ap (λ (found : Option (Option Block)). unwrap_or found None) (end_get (Option Block) before (Some (new_block size align))))
    (sym (ap (λ (blocks : Blocks). after_fill blocks (record { block = length before; offset = 0 }) 0 size) (made_by size align limit before made alloc))
    ∙ sym (ap (λ (n : ℕ). after_fill made (record { block = n; offset = 0 }) 0 size) number) ∙ fill)

pub zero_fresh : (is_zero : Bool) (size align : ℕ) (before after : Blocks) → is_zero ≡ true → after ≡ with_block (zero_block size align) before →
    after ≡ with_block (fresh_block is_zero size align) before
zero_fresh true size align before after is same = same
zero_fresh false size align before after is same = absurd cc

-- ---- what comes of them

pub none_told : (told : Option (List Made)) → told ≡ option_map (λ made. made ++ []) told
none_told None = refl
none_told (Some made) = ap Some (sym (append-nil made))

module _ (old : KeptState) (before after : Blocks) (limit later : Option Limit) (same : later ≡ limit) (host : HostState) where
  abbrev pub quiet_around : Quiet (around old before limit host) (around old after later host)
  quiet_around = record { trail = refl; made = refl; left = refl; limit = same; takes = refl; later = omega arith }

  -- so many answers were taken, and no call was made
  abbrev pub taken_around : (answers : List ℤ) (heap : List ℕ) →
      Between (around old before limit host) (around (record { trail = old.trail ++ answers; heap = heap }) after later host)
  taken_around answers heap = record {
    answers = answers;
    calls = [];
    trail = refl;
    told = none_told host.made;
    given = refl;
    taken_by = tt;
    limit = same;
    takes = refl;
    later = omega arith;
  }

  abbrev pub none_around : Between (around old before limit host) (around old after later host)
  none_around = record {
    answers = [];
    calls = [];
    trail = sym (append-nil old.trail);
    told = none_told host.made;
    given = refl;
    taken_by = tt;
    limit = same;
    takes = refl;
    later = omega arith;
  }

-- a world in which this was begun, or given
abbrev stands_at : {A : Type 0} → A → Blocks → List ℕ → Option Limit → List Made → List ℤ → Result (Got A) CStop
stands_at value blocks heap limit made ahead =
    Ok (record { value = value; world = record { held = record { blocks = blocks; heap = heap }; made = made; answers = ahead; terms = trail_of limit } })

pub object_gives : (is_zero : Bool) (size align : ℕ) (before after : Blocks) (limit later : Option Limit) (block : ℕ) → later ≡ limit →
    Begins (Ok block) is_zero size align limit before after → (kept : KeptState) →
    StoreSteps (object_begun is_zero size align) (Ok (place_of block)) kept kept before after limit later
object_gives is_zero size align before after limit later block same begins kept host = record {
  between = none_around kept before after limit later same host;
  goes = λ made ahead.
      let one = world_at (around kept before limit host) made ahead in
      ap (λ (found : Result Blocks StoreFault). begun_at {F = CFault} is_zero size align one found) begins.2.1
      ∙ ap (λ (blocks : Blocks). stands_at (place_of (length before)) blocks kept.heap limit made ahead) (sym begins.1)
      ∙ ap (λ (terms : Option Limit). stands_at (place_of (length before)) after kept.heap terms made ahead) (sym same)
      ∙ ap (λ (n : ℕ). stands_at (place_of n) after kept.heap later made ahead) (sym begins.0)
      ∙ ap (λ (calls : List Made). stands_at (place_of block) after kept.heap later calls ahead) (sym (append-nil made));
}

pub object_full : (is_zero : Bool) (size align : ℕ) (before after : Blocks) (limit later : Option Limit) (need left : ℕ) → later ≡ limit →
    Begins (Err (Full need left)) is_zero size align limit before after → (kept : KeptState) →
    StoreSteps (object_begun is_zero size align) (Err (lack.Full need left)) kept kept before after limit later
object_full is_zero size align before after limit later need left same is kept host = record {
  quiet = quiet_around kept before after limit later same host;
  stops = λ made ahead.
      ap (λ (found : Result Blocks StoreFault). begun_at {F = CFault} is_zero size align (world_at (around kept before limit host) made ahead) found) is.0;
}

-- ---- allocations

not_refused : (limit : Option Limit) (blocks made : Blocks) (size align : ℕ) → after_alloc limit blocks size align ≡ Ok made → is_refused_by limit blocks size ≡ false
not_refused None blocks made size align is = refl
not_refused (Some limit) blocks made size align is = by_test (is_refused limit blocks size) _ _ made is
  where
    by_test : (test : Bool) (why : StoreFault) (one made : Blocks) → (if test then Err why else Ok one) ≡ Ok made → test ≡ false
    by_test true why one made is = absurd cc
    by_test false why one made is = refl

was_refused : (limit : Option Limit) (blocks : Blocks) (why : StoreFault) (size align : ℕ) → after_alloc limit blocks size align ≡ Err why → is_refused_by limit blocks size ≡ true
was_refused None blocks why size align is = absurd cc
was_refused (Some limit) blocks why size align is = by_test (is_refused limit blocks size) _ _ why is
  where
    by_test : (test : Bool) (other : StoreFault) (one : Blocks) (why : StoreFault) → (if test then Err other else Ok one) ≡ Err why → test ≡ true
    by_test true other one why is = refl
    by_test false other one why is = absurd cc

module _ (is_zero : Bool) (size : ℕ) (old new : KeptState) (before after : Blocks) (limit later : Option Limit) (same : later ≡ limit) where
  pub block_given : (block : ℕ) → Begins (Ok block) is_zero size 16 limit before after →
      new ≡ record { trail = old.trail ++ pos 1 ∷ []; heap = block ∷ old.heap } →
      StoreSteps (granted is_zero size) (Ok (Object (place_of block))) old new before after limit later
  block_given block begins is host =
      subst (λ (one : KeptState). Comes (granted is_zero size) (got (Object (place_of block))) (around old before limit host) (around one after later host)) (sym is)
      (record {
        between = taken_around old before after limit later same host (pos 1 ∷ []) (block ∷ old.heap);
        goes = λ made ahead.
            let one = world_at (around old before limit host) made (pos 1 ∷ ahead) in
            ap (λ (test : Bool). granted_by_store {F = CFault} test (pos 1) is_zero size ahead one) (not_refused limit before begins.2.0 size 16 begins.2.1)
            ∙ ap (λ (blocks : Blocks). stands_at (Object (place_of (length before))) blocks (length before ∷ old.heap) limit made ahead) (sym begins.1)
            ∙ ap (λ (n : ℕ). stands_at (Object (place_of n)) after (n ∷ old.heap) limit made ahead) (sym begins.0)
            ∙ ap (λ (terms : Option Limit). stands_at (Object (place_of block)) after (block ∷ old.heap) terms made ahead) (sym same)
            ∙ ap (λ (calls : List Made). stands_at (Object (place_of block)) after (block ∷ old.heap) later calls ahead) (sym (append-nil made));
      })

  pub null_given : (need left : ℕ) → Begins (Err (Full need left)) is_zero size 16 limit before after →
      new ≡ record { trail = old.trail ++ pos 0 ∷ []; heap = old.heap } →
      StoreSteps (granted is_zero size) (Ok Null) old new before after limit later
  null_given need left refused is host =
      subst (λ (one : KeptState). Comes (granted is_zero size) (got Null) (around old before limit host) (around one after later host)) (sym is)
      (record {
        between = taken_around old before after limit later same host (pos 0 ∷ []) old.heap;
        goes = λ made ahead.
            let one = world_at (around old before limit host) made (pos 0 ∷ ahead) in
            ap (λ (test : Bool). granted_by_store {F = CFault} test (pos 0) is_zero size ahead one) (was_refused limit before (Full need left) size 16 refused.0)
            ∙ ap (λ (blocks : Blocks). stands_at Null blocks old.heap limit made ahead) (sym refused.1)
            ∙ ap (λ (terms : Option Limit). stands_at Null after old.heap terms made ahead) (sym same)
            ∙ ap (λ (calls : List Made). stands_at Null after old.heap later calls ahead) (sym (append-nil made));
      })
