-- The parameters and locals of a function of the crate, whose blocks follow one another: each is found by its name, lives with its layout, and has a block of its own.
use Rattle.std.proofs.Common.{◌≡◌, ◌∙◌, ℕ, zero, suc, ◌+◌, ◌<◌, ◌≤◌, Bool, true, List, [], ◌∷◌, ◌++◌, length, replicate, Some, refl, sym, ap, subst, arith, append_assoc, length-append, option_map, bytes_eq, if◌then◌else◌}
use Rattle.std.specs.List.{Contains, find}
use Rattle.std.proofs.lemmas.List.{length-replicate}
use Rattle.std.proofs.lemmas.Slice.Eq.{bytes_eq-Decides}
use Rattle.cr_base.specs.declared.layout.Laid.{Laid}
use Rattle.lift_calls.specs.Entries.{frame_in}
use Rattle.lift_calls.specs.Frames.{IsLocal}
use Rattle.lift_calls.specs.Programs.{Setting}
use Rattle.lift_calls_entry.specs.Entry.{NamesDiffer}
use Rattle.lift_calls_entry.proofs.Fresh.{locals_from, in_some, AreZero}
use Rattle.mem_bytes.specs.Memory.{Block, Blocks, live_block, size_of, byte_cell}
use Rattle.rs_mean.specs.Layout.{laid_of}
use Rattle.rs_mean.specs.Lookups.{LocalBlock, home_of}
use Rattle.rs_text.specs.Tree.{LocalTree, ModuleTree}

-- ---- lists

pub locals_join : (number : ℕ) (first others : List LocalTree) → locals_from number (first ++ others) ≡ locals_from number first ++ locals_from (number + length first) others
locals_join number [] others = ap (λ n. locals_from n others) (nothing number)
  where
    nothing : (n : ℕ) → n ≡ n + 0
    nothing n = omega arith
locals_join number (one ∷ first) others =
    ap (λ rest. record { name = one.name; ty = one.ty; block = number } ∷ rest) (locals_join (suc number) first others ∙ ap (λ n. locals_from (suc number) first ++ locals_from n others) (moved number (length first)))
  where
    moved : (n m : ℕ) → suc n + m ≡ n + suc m
    moved n m = omega arith

-- ---- each of them

-- a local is that of a tree, at its place
pub record IsAmong (number : ℕ) (list : List LocalTree) (local : LocalBlock) : Type 0 where
  pub it : LocalTree
  pub among : Contains list it
  pub name_is : local.name ≡ it.name
  pub ty_is : local.ty ≡ it.ty
  pub behind : number ≤ local.block
  pub below : local.block < number + length list

pub is_among : (number : ℕ) (list : List LocalTree) (local : LocalBlock) → Contains (locals_from number list) local → IsAmong number list local
is_among number [] local there = absurd (let less : there.0 < 0 = there.1 in omega (arith, less))
is_among number (one ∷ list) local (zero, less, same) =
    subst (IsAmong number (one ∷ list)) same (record { it = one; among = (0, omega arith, refl); name_is = refl; ty_is = refl; behind = omega arith; below = omega arith })
is_among number (one ∷ list) local (suc k, less, same) =
    let rest = is_among (suc number) list local (k, omega (arith, less), same) in
    let low = rest.behind in let high = rest.below in
    record {
      it = rest.it;
      among = (suc rest.among.0, let l = rest.among.1 in omega (arith, l), rest.among.2);
      name_is = rest.name_is;
      ty_is = rest.ty_is;
      behind = omega (arith, low);
      below = omega (arith, high);
    }

-- no two have one block
pub one_block : (number : ℕ) (list : List LocalTree) (one other : LocalBlock) → Contains (locals_from number list) one → Contains (locals_from number list) other → one.block ≡ other.block → one ≡ other
one_block number [] one other there here same = absurd (let less : there.0 < 0 = there.1 in omega (arith, less))
one_block number (first ∷ list) one other (zero, less, is) (zero, more, is_other) same = sym is ∙ is_other
one_block number (first ∷ list) one other (zero, less, is) (suc k, more, is_other) same =
    let rest = is_among (suc number) list other (k, omega (arith, more), is_other) in
    let low = rest.behind in let block : number ≡ one.block = ap (λ (l : LocalBlock). l.block) is in absurd (omega (arith, low, block, same))
one_block number (first ∷ list) one other (suc k, less, is) (zero, more, is_other) same =
    let rest = is_among (suc number) list one (k, omega (arith, less), is) in
    let low = rest.behind in let block : number ≡ other.block = ap (λ (l : LocalBlock). l.block) is_other in absurd (omega (arith, low, block, same))
one_block number (first ∷ list) one other (suc k, less, is) (suc l, more, is_other) same =
    one_block (suc number) list one other (k, omega (arith, less), is) (l, omega (arith, more), is_other) same

-- each is found by its name
eq_itself : (name : List ℕ) → bytes_eq name name ≡ true
eq_itself name = (bytes_eq-Decides name name).1 refl

found_here : (number : ℕ) (list : List LocalTree) (local : LocalBlock) → NamesDiffer list → Contains (locals_from number list) local → find (λ (other : LocalBlock). bytes_eq other.name local.name) (locals_from number list) ≡ Some local
found_here number [] local differ there = absurd (let less : there.0 < 0 = there.1 in omega (arith, less))
found_here number (one ∷ list) local differ (zero, less, same) =
    let name : one.name ≡ local.name = ap (λ (l : LocalBlock). l.name) same in
    ap (λ (b : Bool). if b then Some (record { name = one.name; ty = one.ty; block = number }) else find (λ (other : LocalBlock). bytes_eq other.name local.name) (locals_from (suc number) list))
    (ap (bytes_eq one.name) (sym name) ∙ eq_itself one.name)
    ∙ ap Some same
found_here number (one ∷ list) local differ (suc k, less, same) =
    let there : Contains (locals_from (suc number) list) local = (k, omega (arith, less), same) in
    let rest = is_among (suc number) list local there in
    ap (λ (b : Bool). if b then Some (record { name = one.name; ty = one.ty; block = number }) else find (λ (other : LocalBlock). bytes_eq other.name local.name) (locals_from (suc number) list))
    (ap (bytes_eq one.name) rest.name_is ∙ differ.0 rest.it rest.among)
    ∙ found_here (suc number) list local differ.1 there

pub is_local : (s : Setting) (number : ℕ) (list : List LocalTree) (local : LocalBlock) → NamesDiffer list → Contains (locals_from number list) local → IsLocal (frame_in s (locals_from number list)) local.name local
is_local s number list local differ there = record { found = ap (option_map home_of) (found_here number list local differ there); among = there }

-- and each tree has its local
pub record LocalOf (number : ℕ) (list : List LocalTree) (it : LocalTree) : Type 0 where
  pub local : LocalBlock
  pub among : Contains (locals_from number list) local
  pub name_is : local.name ≡ it.name
  pub ty_is : local.ty ≡ it.ty

pub local_of : (number : ℕ) (list : List LocalTree) (it : LocalTree) → Contains list it → LocalOf number list it
local_of number [] it there = absurd (let less : there.0 < 0 = there.1 in omega (arith, less))
local_of number (one ∷ list) it (zero, less, same) = record {
  local = record { name = one.name; ty = one.ty; block = number };
  among = (0, omega arith, refl);
  name_is = ap (λ (l : LocalTree). l.name) same;
  ty_is = ap (λ (l : LocalTree). l.ty) same;
}
local_of number (one ∷ list) it (suc k, less, same) =
    let rest = local_of (suc number) list it (k, omega (arith, less), same) in
    record { local = rest.local; among = (suc rest.among.0, let l = rest.among.1 in omega (arith, l), rest.among.2); name_is = rest.name_is; ty_is = rest.ty_is }

-- ---- lives

-- a local lives with its layout
pub record LaidBlock (modules : List ModuleTree) (memory : Blocks) (local : LocalBlock) : Type 0 where
  pub block : Block
  pub live : live_block memory local.block ≡ Some block
  pub laid : Laid
  pub laid_is : laid_of modules local.ty ≡ Some laid
  pub size : size_of block ≡ laid.size
  pub align : block.align ≡ laid.align

abbrev pub AreLaid : List ModuleTree → List LocalTree → List Block → Type 0
AreLaid modules [] [] = Unit {0}
AreLaid modules (one ∷ others) (block ∷ blocks) = (laid : Laid) × (laid_of modules one.ty ≡ Some laid) × (size_of block ≡ laid.size) × (block.align ≡ laid.align) × AreLaid modules others blocks
AreLaid modules [] (block ∷ blocks) = ⊥
AreLaid modules (one ∷ others) [] = ⊥

pub live_seam : (base : Blocks) (block : Block) (blocks : List Block) → live_block (base ++ in_some (block ∷ blocks)) (length base) ≡ Some block
live_seam [] block blocks = refl
live_seam (one ∷ base) block blocks = live_seam base block blocks

pub laid_block : (modules : List ModuleTree) (base : Blocks) (list : List LocalTree) (blocks : List Block) (local : LocalBlock) → AreLaid modules list blocks → Contains (locals_from (length base) list) local → LaidBlock modules (base ++ in_some blocks) local
laid_block modules base [] blocks local are there = absurd (let less : there.0 < 0 = there.1 in omega (arith, less))
laid_block modules base (one ∷ list) [] local are there = absurd are
laid_block modules base (one ∷ list) (block ∷ blocks) local are (zero, less, same) =
    subst (LaidBlock modules (base ++ in_some (block ∷ blocks))) same
    (record { block = block; live = live_seam base block blocks; laid = are.0; laid_is = are.1; size = are.2; align = are.3 })
laid_block modules base (one ∷ list) (block ∷ blocks) local are (suc k, less, same) =
    subst (λ (memory : Blocks). LaidBlock modules memory local) (append_assoc base (Some block ∷ []) (in_some blocks))
    (laid_block modules (base ++ Some block ∷ []) list blocks local are.4 (subst (λ (n : ℕ). Contains (locals_from n list) local) (one_longer base block) (k, omega (arith, less), same)))
  where
    one_longer : (all : Blocks) (new : Block) → suc (length all) ≡ length (all ++ Some new ∷ [])
    one_longer all new = let long = length-append all (Some new ∷ []) in omega (arith, long)

-- ---- locals that hold zeros

-- a local of the function's own, in a memory where it has begun
pub record ZeroLocal (memory : Blocks) (locals : List LocalBlock) (it : LocalTree) : Type 0 where
  pub local : LocalBlock
  pub among : Contains locals local
  pub name_is : local.name ≡ it.name
  pub ty_is : local.ty ≡ it.ty
  pub block : Block
  pub live : live_block memory local.block ≡ Some block
  pub cells : block.cells ≡ replicate (size_of block) (byte_cell 0)

pub zero_local : (modules : List ModuleTree) (base : Blocks) (list : List LocalTree) (blocks : List Block) (it : LocalTree) → AreZero modules list blocks → Contains list it → ZeroLocal (base ++ in_some blocks) (locals_from (length base) list) it
zero_local modules base [] blocks it are there = absurd (let less : there.0 < 0 = there.1 in omega (arith, less))
zero_local modules base (one ∷ list) [] it are there = absurd are
zero_local modules base (one ∷ list) (block ∷ blocks) it are (zero, less, same) = record {
  local = record { name = one.name; ty = one.ty; block = length base };
  among = (0, omega arith, refl);
  name_is = ap (λ (l : LocalTree). l.name) same;
  ty_is = ap (λ (l : LocalTree). l.ty) same;
  block = block;
  live = live_seam base block blocks;
  cells = subst (λ (b : Block). b.cells ≡ replicate (size_of b) (byte_cell 0)) (sym are.2) (ap (λ (n : ℕ). replicate n (byte_cell 0)) (sym (length-replicate are.0.size (byte_cell 0))));
}
zero_local modules base (one ∷ list) (block ∷ blocks) it are (suc k, less, same) =
    let rest = zero_local modules (base ++ Some block ∷ []) list blocks it are.3 (k, omega (arith, less), same) in
    let longer : length (base ++ Some block ∷ []) ≡ suc (length base) = (let long = length-append base (Some block ∷ []) in omega (arith, long)) in
    record {
      local = rest.local;
      among = (let inner = subst (λ (n : ℕ). Contains (locals_from n list) rest.local) longer rest.among in (suc inner.0, (let l = inner.1 in omega (arith, l)), inner.2));
      name_is = rest.name_is;
      ty_is = rest.ty_is;
      block = rest.block;
      live = ap (λ (memory : Blocks). live_block memory rest.local.block) (sym (append_assoc base (Some block ∷ []) (in_some blocks))) ∙ rest.live;
      cells = rest.cells;
    }
