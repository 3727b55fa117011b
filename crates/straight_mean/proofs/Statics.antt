-- Static objects begin in their order, each in the block with its number.
use Rattle.std.proofs.Common.{◌≡◌, ℕ, zero, suc, ◌+◌, ◌<◌, Bool, true, false, eqb, if◌then◌else◌, List, [], ◌∷◌, ◌++◌, length, map, Option, Some, None, refl, sym, ap, ◌∙◌, arith, append_assoc, length-append, rules}
use Rattle.std.proofs.lemmas.Bool.{eq-eqb}
use Rattle.std.proofs.lemmas.List.{append-nil}
use Rattle.std.proofs.lemmas.List.Elements.{All-head, All-tail}
use Rattle.std.specs.Prelude.{All, IsSome, ◌==◌}
use Rattle.std.specs.List.{IsDistinct, AllByRecursion, slice_get}
use Rattle.cr_runs.specs.Runs.{out}
use Rattle.straight_core.specs.Trees.{CPut, CObject, CProgram}
use Rattle.straight_core.specs.Typing.{object_with}
use Rattle.straight_mean.specs.Laws.{in_blocks_from, zeroed_blocks, world_of, StaticsBegin}
use Rattle.straight_mean.specs.Leftmost.{c_begins, c_puts}
use Rattle.straight_mean.specs.Operands.{designates, designated, Frame}
use Rattle.straight_mean.specs.State.{puts_in, statics_in, statics_first, zeroed, with_object}
use Rattle.ext_calls.specs.Outside.{Outside}
use Rattle.mem_bytes.specs.Memory.{Blocks, live_block}
use Rattle.mem_bytes.specs.declared.value.Ptr.{Ptr}

-- ---- the steps

begins_more : (program : CProgram) (objects : List CObject) (frame : Frame) (memory : Blocks) (answers : Outside) (left : ℕ) →
    c_begins program frame objects (world_of memory answers) (length objects + left)
    ≡ c_puts program (frame ++ in_blocks_from (length memory) objects) (puts_in program.objects) (world_of (memory ++ zeroed_blocks objects) answers) left
begins_more program [] frame memory answers left =
    let steps : length {A = CObject} [] + left ≡ left = omega arith in
    rw (steps, append-nil frame, append-nil memory)
begins_more program (one ∷ more) frame memory answers left =
    let steps : length (one ∷ more) + left ≡ suc (length more + left) = omega arith in
    let next : length (memory ++ Some (zeroed one.type) ∷ []) ≡ suc (length memory) = simp length-append (omega arith) in
    ap (λ (n : ℕ). c_begins program frame (one ∷ more) (world_of memory answers) n) steps
    ∙ (begins_more program more (with_object frame one (world_of memory answers)) (memory ++ Some (zeroed one.type) ∷ []) answers left
    ∙ rw (next, append_assoc, append_assoc) refl)

begins_before : (program : CProgram) (objects : List CObject) (frame : Frame) (memory : Blocks) (answers : Outside) (steps : ℕ) →
    steps < length objects → (after : Blocks) × (c_begins program frame objects (world_of memory answers) steps ≡ out (world_of after answers))
begins_before program [] frame memory answers steps below = absurd (omega arith)
begins_before program (one ∷ more) frame memory answers zero below = (memory, refl)
begins_before program (one ∷ more) frame memory answers (suc steps) below =
    begins_before program more (with_object frame one (world_of memory answers)) (memory ++ Some (zeroed one.type) ∷ []) answers steps (omega arith)

-- ---- what names designate

-- the first name of a list isn't another's
differs : (number : ℕ) (objects : List CObject) (place : ℕ) (one : CObject) →
    AllByRecursion (λ other. eqb number other ≡ false) (map (λ object. object.object) objects) → slice_get objects place ≡ Some one →
    eqb number one.object ≡ false
differs number [] place one all found = absurd (cc)
differs number (first ∷ more) zero one all found =
    let same : first ≡ one = cc in
    rw same at all.0
differs number (first ∷ more) (suc place) one all found = differs number more place one all.1 found

designated_at : (objects : List CObject) (start number : ℕ) (one : CObject) →
    IsDistinct eqb (map (λ object. object.object) objects) → slice_get objects number ≡ Some one →
    designated (in_blocks_from start objects) one.object ≡ designates (record { block = start + number; offset = 0 })
unfolding IsDistinct
designated_at [] start number one distinct found = absurd (cc)
designated_at (first ∷ more) start zero one distinct found =
    let same : first ≡ one = cc in
    let tests : eqb first.object one.object ≡ true = eq-eqb first.object one.object (ap (λ (object : CObject). object.object) same) in
    let sum : start + zero ≡ start = omega arith in
    rw (tests, sum)
designated_at (first ∷ more) start (suc number) one distinct found =
    let tests : eqb first.object one.object ≡ false = differs first.object more number one distinct.0 found in
    let sum : start + suc number ≡ suc start + number = omega arith in
    rw (tests, sum) (designated_at more (suc start) number one distinct.1 found)

-- ---- their blocks

block_at : (objects : List CObject) (number : ℕ) (one : CObject) → slice_get objects number ≡ Some one →
    live_block (zeroed_blocks objects) number ≡ Some (zeroed one.type)
block_at [] number one found = absurd (cc)
block_at (first ∷ more) zero one found =
    let same : first ≡ one = cc in
    rw same
block_at (first ∷ more) (suc number) one found = block_at more number one found

-- ---- objects in scope

no_puts : {A : Type 0} (puts : Option (List CPut)) → puts ≡ None → IsSome puts → A
no_puts None same some = absurd (search rules)
no_puts (Some list) same some = absurd (cc)

scope_if : (test : Bool) (first one : CObject) (puts : Option (List CPut)) (more : List CObject) (start number : ℕ) (rest : Option CObject) →
    first.puts ≡ puts → (first.object == number) ≡ test → (if test then Some first else rest) ≡ Some one → IsSome one.puts →
    ((from : ℕ) → rest ≡ Some one → (at : Ptr) × (designated (in_blocks_from from (statics_in more)) number ≡ designates at)) →
    (at : Ptr) × (designated (in_blocks_from start (statics_first first puts (statics_in more))) number ≡ designates at)
scope_if true first one None more start number rest puts tests found defined others =
    let same : first ≡ one = cc in
    let none : one.puts ≡ None = ap (λ (object : CObject). object.puts) (sym same) ∙ puts in
    no_puts one.puts none defined
scope_if true first one (Some list) more start number rest puts tests found defined others =
    (record { block = start; offset = 0 }, rw tests)
scope_if false first one None more start number rest puts tests found defined others = others start found
scope_if false first one (Some list) more start number rest puts tests found defined others =
    let there = others (suc start) found in
    (there.0, rw tests there.1)

scope_at : (objects : List CObject) (start number : ℕ) (one : CObject) → object_with number objects ≡ Some one → IsSome one.puts →
    (at : Ptr) × (designated (in_blocks_from start (statics_in objects)) number ≡ designates at)
scope_at [] start number one found defined = absurd (cc)
scope_at (first ∷ more) start number one found defined =
    scope_if (first.object == number) first one first.puts more start number (object_with number more) refl refl found defined
    (λ from rest. scope_at more from number one rest defined)

first_static : (first : CObject) (puts : Option (List CPut)) (more : List CObject) → IsSome puts → statics_first first puts more ≡ first ∷ more
first_static first None more defined = absurd (search rules)
first_static first (Some list) more defined = refl

all_statics : (objects : List CObject) → All (λ one. IsSome one.puts) objects → statics_in objects ≡ objects
all_statics [] all = refl
all_statics (first ∷ more) all =
    first_static first first.puts (statics_in more) (All-head (λ (one : CObject). IsSome one.puts) first more all)
    ∙ ap (λ (list : List CObject). first ∷ list) (all_statics more (All-tail (λ (one : CObject). IsSome one.puts) first more all))

pub statics_begin : StaticsBegin
statics_begin = record {
  after = λ program objects answers left. begins_more program objects [] [] answers left;
  before = λ program objects answers steps below. begins_before program objects [] [] answers steps below;
  designated_is = λ objects number one distinct found.
      let zero_more : 0 + number ≡ number = omega arith in
      rw zero_more at (designated_at objects 0 number one distinct found);
  block_is = block_at;
  in_scope = λ program number one found defined. scope_at program.objects 0 number one found defined;
  all_static = all_statics;
}
