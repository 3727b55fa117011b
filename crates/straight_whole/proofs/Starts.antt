-- The memories in which the static objects of a program and of its crate begin.
use Rattle.std.proofs.Common.{◌≡◌, ℕ, zero, suc, ◌+◌, ◌<◌, Bool, true, false, cond, eqb, List, [], ◌∷◌, length, map, Some, refl, sym, ap, subst, ◌∙◌, arith}
use Rattle.std.specs.Prelude.{All, IsSome, replicate}
use Rattle.std.specs.List.{slice_get, list_all}
use Rattle.std.proofs.lemmas.List.Elements.{All-head, All-tail}
use Rattle.straight_core.specs.Linked.{size_of_type}
use Rattle.straight_core.specs.Trees.{CTyForm, void, int, function, form_of_type, CObject}
use Rattle.straight_core.specs.Typing.{scalar_of}
use Rattle.straight_mean.specs.Laws.{in_blocks_from, zeroed_blocks}
use Rattle.straight_mean.specs.Operands.{designates, designated}
use Rattle.straight_mean.specs.State.{zeroed as c_zeroed}
use Rattle.straight_lift.specs.StandsFor.{Images, CellsBelow, StandsFor}
use Rattle.straight_lift.proofs.StandsLemmas.{below_itself}
use Rattle.mem_bytes.specs.Coding.{is_bits}
use Rattle.mem_bytes.specs.Memory.{Block, live_block, byte_cell}
use Rattle.mem_bytes.specs.declared.value.Ptr.{Ptr}
use Rattle.straight_rust_mean.specs.Functions.{zeroed}
use Rattle.straight_rust_mean.specs.Items.{StaticObject}
use Rattle.straight_rust_tree.specs.Tree.{i32}
use Rattle.straight_whole.proofs.Lookups.{written}

-- ---- images: each block is its own

abbrev pub numbers_from : ℕ → ℕ → List ℕ
numbers_from start zero = []
numbers_from start (suc count) = start ∷ numbers_from (suc start) count

abbrev pub own_images : List CObject → Images
own_images objects = record { blocks = numbers_from 0 (length objects); functions = [] }

many_numbers : (start count : ℕ) → length (numbers_from start count) ≡ count
many_numbers start zero = refl
many_numbers start (suc count) = ap suc (many_numbers (suc start) count)

number_at : (start count k : ℕ) → k < count → slice_get (numbers_from start count) k ≡ Some (start + k)
number_at start zero k is = absurd (omega arith)
number_at start (suc count) zero is = ap Some (omega arith)
number_at start (suc count) (suc k) is = number_at (suc start) count k (omega (arith, is)) ∙ ap Some (omega arith)

some_same : {A : Type 0} (a b : A) → Some a ≡ Some b → a ≡ b
some_same a b e = cc

-- what is at a place of them
number_is : (start count k image : ℕ) → slice_get (numbers_from start count) k ≡ Some image → (k < count) × (image ≡ start + k)
number_is start zero k image e = cc
number_is start (suc count) zero image e = (omega arith, sym (some_same start image e) ∙ omega arith)
number_is start (suc count) (suc k) image e =
    let rest = number_is (suc start) count k image e in
    (omega (arith, rest.0), rest.1 ∙ omega arith)

pub own_image : (objects : List CObject) (block : ℕ) → block < length objects → slice_get (own_images objects).blocks block ≡ Some block
own_image objects block is = number_at 0 (length objects) block is ∙ ap Some (omega arith)

pub image_is : (objects : List CObject) (block image : ℕ) → slice_get (own_images objects).blocks block ≡ Some image → (block < length objects) × (image ≡ block)
image_is objects block image e =
    let found = number_is 0 (length objects) block image e in
    (found.0, found.1 ∙ omega arith)

-- ---- a name that designates an object designates one of its blocks

pub block_within : (start : ℕ) (objects : List CObject) (object : ℕ) (at : Ptr) → designated (in_blocks_from start objects) object ≡ designates at → at.block < start + length objects
block_within start [] object at e = cc
block_within start (first ∷ others) object at e = by_test (eqb first.object object) e (block_within (suc start) others object at)
  where
    here : (p : Ptr) → designates (record { block = start; offset = 0 }) ≡ designates p → start ≡ p.block
    here p f = ap (λ (q : Ptr). q.block) (same p f)
      where
        same : (p : Ptr) → designates (record { block = start; offset = 0 }) ≡ designates p → record { block = start; offset = 0 } ≡ p
        same p f = cc

    by_test : (test : Bool) → cond test (designates (record { block = start; offset = 0 })) (designated (in_blocks_from (suc start) others) object) ≡ designates at →
        (designated (in_blocks_from (suc start) others) object ≡ designates at → at.block < suc start + length others) → at.block < start + length (first ∷ others)
    by_test true f rest = omega (arith, here at f)
    by_test false f rest = omega (arith, rest f)

-- ---- the memories

-- both memories begin with the same blocks
zeroed_alike : (home : List ℕ) (one : CObject) (form : CTyForm) → form_of_type one.type ≡ form → IsSome (scalar_of form) → zeroed i32 ≡ Some (c_zeroed one.type)
zeroed_alike home one int e some = rw e refl
zeroed_alike home one void e some = cc
zeroed_alike home one (function result params variadic) e some = cc

pub begin_alike : (home : List ℕ) (objects : List CObject) → All (λ one. IsSome (scalar_of (form_of_type one.type))) objects → map (λ object. zeroed object.ty) (map (written home) objects) ≡ zeroed_blocks objects
begin_alike home [] all = refl
begin_alike home (one ∷ others) all =
    ap (λ block. block ∷ map (λ (object : StaticObject). zeroed object.ty) (map (written home) others)) (zeroed_alike home one (form_of_type one.type) refl (All-head (λ (one : CObject). IsSome (scalar_of (form_of_type one.type))) one others all))
    ∙ ap (λ blocks. Some (c_zeroed one.type) ∷ blocks) (begin_alike home others (All-tail (λ (one : CObject). IsSome (scalar_of (form_of_type one.type))) one others all))

zero_bytes : (count : ℕ) → list_all is_bits (replicate count (byte_cell 0)) ≡ true
zero_bytes zero = refl
zero_bytes (suc count) = zero_bytes count

-- a live block is one of the first blocks, and stands for itself
begun : (images : Images) (objects : List CObject) (number : ℕ) (block : Block) → live_block (zeroed_blocks objects) number ≡ Some block → (number < length objects) × CellsBelow images block.cells block.cells
begun images [] number block e = cc
begun images (one ∷ others) zero block e =
    (omega arith, subst (λ (b : Block). CellsBelow images b.cells b.cells) (some_same (c_zeroed one.type) block e) (below_itself images (replicate (size_of_type one.type) (byte_cell 0)) (zero_bytes (size_of_type one.type))))
begun images (one ∷ others) (suc number) block e =
    let rest = begun images others number block e in
    (omega (arith, rest.0), rest.1)

pub many_blocks : (objects : List CObject) → length objects ≡ length (zeroed_blocks objects)
many_blocks [] = refl
many_blocks (one ∷ others) = ap suc (many_blocks others)

pub stands_itself : (objects : List CObject) → StandsFor (own_images objects) (zeroed_blocks objects) (zeroed_blocks objects)
stands_itself objects = record {
  mapped = many_numbers 0 (length objects) ∙ many_blocks objects;
  blocks = λ number block live.
      let is = begun (own_images objects) objects number block live in
      record { image = number; other = block; mapped = own_image objects number is.0; live = live; below = record { align = omega arith; cells = is.1 } };
  apart = λ one two image first second live other mapped beside. sym (image_is objects one image mapped).1 ∙ (image_is objects two image beside).1;
}
