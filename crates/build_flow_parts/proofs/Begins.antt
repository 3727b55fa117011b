-- The life of an object of a block begins: in C on a block of its own, in the crate on its local, which stands for nothing then; in a program with a bit-field member this holds bytes.
use Rattle.std.proofs.Common.{◌≡◌, ◌∙◌, All, ◌⊎◌, inl, inr, ⊎_elim, ℕ, zero, suc, ◌<◌, ◌≤◌, ◌==◌, Bool, true, false, List, [], ◌∷◌, ◌++◌, length, Option, Some, None, Ok, slice_index_or, if◌then◌else◌, refl, sym, ap, subst, arith, append_assoc}
use Rattle.std.proofs.lemmas.Bool.Decides.{nat_tests}
use Rattle.std.proofs.lemmas.List.Elements.{Contains-append_left, Contains-append_right, Contains-append_cases}
use Rattle.std.specs.List.{Contains}
use Rattle.cr_base.specs.declared.layout.Laid.{Laid}
use Rattle.cr_world.specs.Held.{fresh_block, with_block, next_place}
use Rattle.cr_world.specs.World.{Got, World, blocks_of, with_memory, object_begun, begun_at, limit_of}
use Rattle.cx_core.specs.Trees.{CObject}
use Rattle.cx_mean.specs.Operands.{needed, CFault, Slot, Frame as CFrame, slot_of}
use Rattle.cx_mean.specs.Settings.{extent_in}
use Rattle.cx_mean.specs.State.{shape_of, as_stop, slot, object_begins, no_place}
use Rattle.cx_typed_runs.proofs.Begins.{IsMade, IsGrown, grown}
use Rattle.cx_typed_runs.specs.Sites.{AreOwned}
use Rattle.build_flow_lives.specs.Standing.{ObjectsDiffer, Calling, own_slots, Standing}
use Rattle.build_flow_moves.specs.Parts.{objects_in}
use Rattle.lift_calls.specs.Bodies.{ResultAgrees, HoldsZeros}
use Rattle.lift_calls.specs.Calls.{result_laid, ResultPlace, is_place}
use Rattle.lift_calls.specs.Frames.{KeptTemporary, ObjectAgrees, IsOwned, LocalLives, IsLocal, TemporaryAgrees, FramesAgree}
use Rattle.lift_calls.specs.Programs.{setting_in}
use Rattle.lift_calls.proofs.Kept.{program_stays}
use Rattle.lift_stands.proofs.Kept.{both_keep}
use Rattle.lift_stands.specs.Keeps.{KeepsOthers}
use Rattle.lift_stands.specs.Stands.{Images, image_of, with_image, IsByte, Lives, IsNoImage, IsVacant}
use Rattle.lift_stands.specs.Worlds.{WorldsStand}
use Rattle.lift_stands_lives.proofs.Begun.{place_of_next, world_onto}
use Rattle.lift_stands_lives.proofs.Pushed.{live_behind, entry_cases}
use Rattle.lift_stands_lives.proofs.Steps.{onto_keeps}
use Rattle.lift_stands_lives.specs.Rooms.{HasRoom}
use Rattle.mem_bytes.specs.Access.{and_then}
use Rattle.mem_bytes.specs.Counted.{after_alloc}
use Rattle.mem_bytes.specs.declared.value.Ptr.{Ptr}
use Rattle.mem_bytes.specs.Memory.{Block, live_block}
use Rattle.rs_mean.specs.Lookups.{LocalBlock, Home, home_of}
use Rattle.rs_text.specs.Tree.{Local}
use Rattle.build_flow_parts.specs.Means.{PartsMean, ObjectMeans, NotAmong}
use Rattle.build_flow_parts.proofs.After.{one_name}
use Rattle.build_flow_parts.proofs.Objects.{ItsLocal, its_local}

-- ---- frames with one more slot

among_both : (number : ℕ) (first others : List ℕ) → NotAmong number (first ++ others) → NotAmong number first × NotAmong number others
among_both number [] others none = (tt, none)
among_both number (one ∷ first) others none = let rest = among_both number first others none.1 in ((none.0, rest.0), rest.1)

none_of : (number : ℕ) (frame : CFrame) → NotAmong number (objects_in frame) → slot_of frame number ≡ None
none_of number [] none = refl
none_of number (one ∷ frame) none =
    ap (λ (same : Bool). if same then Some (record { block = one.block; offset = 0 }) else slot_of frame number) none.0 ∙ none_of number frame none.1

-- a slot in a frame is found
found_slot : (frame : CFrame) (slot : Slot) (k : ℕ) → k < length frame → slice_index_or frame k slot ≡ slot → (number : ℕ) → slot.object ≡ number → NotAmong number (objects_in frame) → ⊥
found_slot [] slot k less same number is none = absurd (omega (arith, less))
found_slot (one ∷ frame) slot zero less same number is none =
    let equal : one.object ≡ number = ap (λ (x : Slot). x.object) same ∙ is in
    let test : (one.object == number) ≡ true = grind (arith, nat_tests, equal) in
    let no = none.0 in absurd cc
found_slot (one ∷ frame) slot (suc k) less same number is none = found_slot frame slot k (omega (arith, less)) same number is none.1

slot_elsewhere : (front back : CFrame) (new : Slot) (number : ℕ) → (new.object == number) ≡ false → slot_of (front ++ new ∷ back) number ≡ slot_of (front ++ back) number
slot_elsewhere [] back new number apart = ap (λ (same : Bool). if same then Some (record { block = new.block; offset = 0 }) else slot_of back number) apart
slot_elsewhere (one ∷ front) back new number apart =
    ap (λ (rest : Option Ptr). if one.object == number then Some (record { block = one.block; offset = 0 }) else rest) (slot_elsewhere front back new number apart)

slot_there : (front back : CFrame) (new : Slot) (number : ℕ) → NotAmong number (objects_in front) → (new.object == number) ≡ true → slot_of (front ++ new ∷ back) number ≡ Some (record { block = new.block; offset = 0 })
slot_there [] back new number none same = ap (λ (is : Bool). if is then Some (record { block = new.block; offset = 0 }) else slot_of back number) same
slot_there (one ∷ front) back new number none same =
    ap (λ (is : Bool). if is then Some (record { block = one.block; offset = 0 }) else slot_of (front ++ new ∷ back) number) none.0 ∙ slot_there front back new number none.1 same

turned : (x y : ℕ) → (x == y) ≡ false → (y == x) ≡ false
turned x y is = grind (arith, nat_tests, is)

differ_with : (front back : CFrame) (new : Slot) → ObjectsDiffer (front ++ back) → NotAmong new.object (objects_in front) → slot_of back new.object ≡ None → ObjectsDiffer (front ++ new ∷ back)
differ_with [] back new differ none apart = (apart, differ)
differ_with (one ∷ front) back new differ none apart =
    (slot_elsewhere front back new one.object (turned one.object new.object none.0) ∙ differ.0, differ_with front back new differ.1 none.1 apart)

inserted_cases : (front back : CFrame) (new slot : Slot) → Contains (front ++ new ∷ back) slot → (Contains (front ++ back) slot) ⊎ (new ≡ slot)
inserted_cases front back new slot among = by (Contains-append_cases front (new ∷ back) slot among)
  where
    behind : Contains (new ∷ back) slot → (Contains (front ++ back) slot) ⊎ (new ≡ slot)
    behind (zero, less, same) = inr same
    behind (suc k, less, same) = inl (Contains-append_right front back slot (k, omega (arith, less), same))

    by : (Contains front slot) ⊎ (Contains (new ∷ back) slot) → (Contains (front ++ back) slot) ⊎ (new ≡ slot)
    by (inl there) = inl (Contains-append_left front back slot there)
    by (inr there) = behind there

in_inserted : (front back : CFrame) (new slot : Slot) → Contains (front ++ back) slot → Contains (front ++ new ∷ back) slot
in_inserted front back new slot among = by (Contains-append_cases front back slot among)
  where
    by : (Contains front slot) ⊎ (Contains back slot) → Contains (front ++ new ∷ back) slot
    by (inl there) = Contains-append_left front (new ∷ back) slot there
    by (inr there) = Contains-append_right front (new ∷ back) slot (suc there.0, omega (arith, there.1), there.2)

is_new : (front back : CFrame) (new : Slot) → Contains (front ++ new ∷ back) new
is_new front back new = Contains-append_right front (new ∷ back) new (0, omega arith, refl)

-- ---- the life of an object

-- a local holds bytes alone, whose bits are all set
pub record LocalBytes (a : Calling) (name : List ℕ) (world : World) : Type 0 where
  pub local : LocalBlock
  pub is_local : IsLocal a.frame name local
  pub block : Block
  pub live : live_block (blocks_of world) local.block ≡ Some block
  pub bytes : All IsByte block.cells

module _ (a : Calling) (units steps : ℕ) (mean : PartsMean a.s a.names a.of units steps) (started : WorldsStand a.images a.c_before a.before) (number : ℕ)
    (object : ObjectMeans a.s a.names a.of number) (inners outers : CFrame) (fresh : NotAmong number (objects_in (inners ++ ((outers ++ a.params) ++ a.s.statics)))) (c_world world : World) (here : Standing a (inners ++ outers) c_world world) where
  abbrev back : CFrame
  back = (outers ++ a.params) ++ a.s.statics

  abbrev new : Slot
  new = slot number (next_place (blocks_of c_world))

  abbrev begun_world : World
  begun_world = with_memory (with_block (fresh_block false object.laid.size object.laid.align) (blocks_of c_world)) c_world

  abbrev new_got : Got Ptr
  new_got = record { value = next_place (blocks_of c_world); world = begun_world }

  old_own : own_slots a (inners ++ outers) ≡ inners ++ (outers ++ a.params)
  old_own = append_assoc inners outers a.params

  old_all : own_slots a (inners ++ outers) ++ a.s.statics ≡ inners ++ back
  old_all = ap (λ (slots : CFrame). slots ++ a.s.statics) old_own ∙ append_assoc inners (outers ++ a.params) a.s.statics

  new_own : own_slots a ((inners ++ new ∷ []) ++ outers) ≡ inners ++ new ∷ (outers ++ a.params)
  new_own = append_assoc (inners ++ new ∷ []) outers a.params ∙ append_assoc inners (new ∷ []) (outers ++ a.params)

  new_all : own_slots a ((inners ++ new ∷ []) ++ outers) ++ a.s.statics ≡ inners ++ new ∷ back
  new_all = ap (λ (slots : CFrame). slots ++ a.s.statics) new_own ∙ append_assoc inners (new ∷ (outers ++ a.params)) a.s.statics

  objects_join : (first others : CFrame) → objects_in (first ++ others) ≡ objects_in first ++ objects_in others
  objects_join [] others = refl
  objects_join (one ∷ first) others = ap (λ (list : List ℕ). one.object ∷ list) (objects_join first others)

  none_in_front : NotAmong number (objects_in inners)
  none_in_front = (among_both number (objects_in inners) (objects_in back) (subst (NotAmong number) (objects_join inners back) fresh)).0

  none_in_back : NotAmong number (objects_in back)
  none_in_back = (among_both number (objects_in inners) (objects_in back) (subst (NotAmong number) (objects_join inners back) fresh)).1

  -- ---- its local

  abbrev its : ItsLocal a number object world
  its = its_local a units steps mean number object (inners ++ outers) c_world world here

  abbrev local : LocalBlock
  local = its.local

  -- no temporary and not what points to the result
  other_local : (name : List ℕ) (other : LocalBlock) → IsLocal a.frame name other → local.block ≡ other.block → object.name ≡ name
  other_local name other there same = one_name a.s a.names here.later (own_slots a (inners ++ outers)) a.frame c_world world here.inside.frames object.name name local other its.is_local there same

  place_as : (name : List ℕ) → object.name ≡ name → object.kept.place ≡ Local name
  place_as name same = object.place_is ∙ ap Local same

  slot_among : (slot : Slot) → Contains (own_slots a (inners ++ outers)) slot → slot.object ≡ number → ⊥
  slot_among slot among is =
      let there = subst (λ (slots : CFrame). Contains slots slot) old_all (Contains-append_left (own_slots a (inners ++ outers)) a.s.statics slot among) in
      found_slot (inners ++ back) slot there.0 there.1 there.2 number is fresh

  pub vacant : IsVacant here.later (blocks_of c_world) local.block
  vacant one living image =
      let was = here.inside.frames.owned one local its.is_local.among living image in
      slot_among was.slot was.in_scope
      (mean.apart.objects was.slot.object number was.kept object.kept was.kept_is object.kept_is (was.place_is ∙ ap Local its.name_is ∙ sym object.place_is))

  abbrev lives : LocalLives a.s.modules world local
  lives = its.lives

  -- ---- where its local holds bytes, in a program with a bit-field member

  module _ (bytes_there : here.later.in_bytes ≡ true → LocalBytes a object.name world) where
    its_bytes : here.later.in_bytes ≡ true → All IsByte lives.block.cells
    its_bytes is =
        let there = bytes_there is in
        let homes : Some (home_of local) ≡ Some (home_of there.local) = sym its.is_local.found ∙ there.is_local.found in
        let same : local.block ≡ there.local.block = block_in (home_of local) (home_of there.local) homes in
        let blocks : Some lives.block ≡ Some there.block = sym lives.live ∙ ap (λ (n : ℕ). live_block (blocks_of world) n) same ∙ there.live in
        let block_is : lives.block ≡ there.block = cc (blocks) in
        subst (λ (one : Block). All IsByte one.cells) (sym block_is) there.bytes
      where
        block_in : (one other : Home) → Some one ≡ Some other → one.block ≡ other.block
        block_in one other is = let both : one ≡ other = cc (is) in ap (λ (home : Home). home.block) both

    room : HasRoom here.later.in_bytes object.laid.size object.laid.align lives.block
    room = record {
      same_size = lives.size ∙ ap (λ (laid : Laid). laid.size) its.laid_same;
      enough_align = let same = lives.align ∙ ap (λ (laid : Laid). laid.align) its.laid_same in omega (arith, same);
      aligned = let same = lives.align ∙ ap (λ (laid : Laid). laid.align) its.laid_same in let some = object.aligned in omega (arith, same, some);
      bytes = its_bytes;
    }

    -- ---- the worlds

    abbrev made : IsMade a.s.program number
    made = record { one = object.one; object_is = object.object_is; laid = object.laid; laid_is = object.laid_is }

    begun_there : object_begun {F = CFault} false object.laid.size object.laid.align c_world ≡ Ok new_got
    begun_there =
        ap (λ terms. begun_at false object.laid.size object.laid.align c_world (after_alloc (limit_of terms) (blocks_of c_world) object.laid.size object.laid.align)) here.inside.worlds.terms

    abbrev after : Images
    after = with_image local.block here.later

    both_begun : WorldsStand after begun_world world
    both_begun = (world_onto _ here.later c_world world local.block object.laid.size object.laid.align lives.block new_got here.inside.worlds (record { vacant = vacant; live = lives.live }) room begun_there).0

    keeps : KeepsOthers (length (blocks_of a.before)) (is_place a.place) here.later after c_world.held begun_world.held world.held world.held
    keeps =
        onto_keeps (length (blocks_of a.before)) (is_place a.place) here.later c_world.held world.held local.block (fresh_block false object.laid.size object.laid.align) here.inside.worlds.held.memories.mapped
        (here.inside.locals local its.is_local.among)

    mapped : length here.later.blocks ≡ length (blocks_of c_world)
    mapped = here.inside.worlds.held.memories.mapped

    -- the new image is that of the new block alone
    image_cases : (one image : ℕ) → image_of after one ≡ Some image → ((one < length (blocks_of c_world)) × (image_of here.later one ≡ Some image)) ⊎ ((one ≡ length (blocks_of c_world)) × (local.block ≡ image))
    image_cases one image is =
        ⊎_elim (λ (old : (one < length here.later.blocks) × (image_of here.later one ≡ Some image)). inl (let less = old.0 in omega (arith, less, mapped), old.1))
        (λ (last : (one ≡ length here.later.blocks) × (local.block ≡ image)). inr (last.0 ∙ mapped, last.1)) (entry_cases here.later.blocks local.block one image is)

    no_image_still : (block : ℕ) → IsNoImage here.later block → (local.block ≡ block → ⊥) → IsNoImage after block
    no_image_still block none apart one is =
        ⊎_elim (λ (old : (one < length (blocks_of c_world)) × (image_of here.later one ≡ Some block)). none one old.1)
        (λ (last : (one ≡ length (blocks_of c_world)) × (local.block ≡ block)). apart last.1) (image_cases one block is)

    -- ---- the frames

    object_there : (one : ℕ) (at : Ptr) → slot_of (inners ++ new ∷ back) one ≡ Some at → ObjectAgrees a.names after a.frame one at
    object_there one at found = by (number == one) refl
      where
        by : (same : Bool) → (number == one) ≡ same → ObjectAgrees a.names after a.frame one at
        by false apart =
            let was = here.inside.frames.objects one at (ap (λ (slots : CFrame). slot_of slots one) old_all ∙ sym (slot_elsewhere inners back new one apart) ∙ found) in
            record { kept = was.kept; kept_is = was.kept_is; home = was.home; is_home = was.is_home; image = keeps.extends.blocks at.block was.home.block was.image }
        by true is =
            let same : number ≡ one = grind (arith, nat_tests, is) in
            let there : slot_of (inners ++ new ∷ back) one ≡ Some (record { block = new.block; offset = 0 }) = slot_there inners back new one (subst (λ (x : ℕ). NotAmong x (objects_in inners)) same none_in_front) is in
            let block_is : at.block ≡ new.block = at_block at new.block (sym found ∙ there) in
            record {
              kept = object.kept;
              kept_is = ap (λ (x : ℕ). a.names.objects x) (sym same) ∙ object.kept_is;
              home = its.home;
              is_home = its.is_home;
              image = ap (λ (x : ℕ). image_of after x) block_is ∙ (place_of_next here.later c_world local.block mapped).block ∙ ap Some (ap (λ (home : Home). home.block) its.home_is);
            }
          where
            at_block : (one_at : Ptr) (block : ℕ) → Some one_at ≡ Some (record { block = block; offset = 0 }) → one_at.block ≡ block
            at_block one_at block both = let places : one_at ≡ record { block = block; offset = 0 } = cc in ap (λ (place : Ptr). place.block) places

    owned_there : (one : ℕ) (other : LocalBlock) → Contains a.frame.locals other → Lives (blocks_of begun_world) one → image_of after one ≡ Some other.block → IsOwned a.names (inners ++ new ∷ (outers ++ a.params)) one other
    owned_there one other among living is =
        ⊎_elim
        (λ (old : (one < length (blocks_of c_world)) × (image_of here.later one ≡ Some other.block)).
        let was = here.inside.frames.owned one other among (living.0, sym (live_behind (blocks_of c_world) (Some (fresh_block false object.laid.size object.laid.align)) one old.0) ∙ living.1) old.1 in
        record {
          slot = was.slot;
          in_scope = in_inserted inners (outers ++ a.params) new was.slot (subst (λ (slots : CFrame). Contains slots was.slot) old_own was.in_scope);
          block_is = was.block_is;
          kept = was.kept;
          kept_is = was.kept_is;
          place_is = was.place_is;
        })
        (λ (last : (one ≡ length (blocks_of c_world)) × (local.block ≡ other.block)).
        let same : local ≡ other = here.inside.frames.apart local other its.is_local.among among last.1 in
        record {
          slot = new;
          in_scope = is_new inners (outers ++ a.params) new;
          block_is = sym last.0;
          kept = object.kept;
          kept_is = object.kept_is;
          place_is = object.place_is ∙ ap Local (sym its.name_is ∙ ap (λ (one_local : LocalBlock). one_local.name) same);
        })
        (image_cases one other.block is)

    temporary_there : (one : ℕ) (temporary : KeptTemporary) → a.names.temporaries one ≡ Some temporary → TemporaryAgrees after a.frame temporary
    temporary_there one temporary is =
        let was = here.inside.frames.temporaries one temporary is in
        record {
          local = was.local;
          is_local = was.is_local;
          ty_is = was.ty_is;
          no_image =
              no_image_still was.local.block was.no_image
              (λ same. mean.apart.both number one object.kept temporary object.kept_is is (place_as temporary.name (other_local temporary.name was.local was.is_local same)));
        }

    frames_there : FramesAgree a.s a.names after (own_slots a ((inners ++ new ∷ []) ++ outers)) a.frame begun_world world
    frames_there = record {
      modules = here.inside.frames.modules;
      bodies = here.inside.frames.bodies;
      homes = here.inside.frames.homes;
      objects = λ one at found. object_there one at (ap (λ (slots : CFrame). slot_of slots one) (sym new_all) ∙ found);
      owned = λ one other among living is. subst (λ (slots : CFrame). IsOwned a.names slots one other) (sym new_own) (owned_there one other among living is);
      lives = here.inside.frames.lives;
      apart = here.inside.frames.apart;
      temporaries = temporary_there;
    }

    -- ---- the result

    place_there : (laid : Laid) (at : Ptr) → at.block < length (blocks_of a.before) → ResultPlace here.later (blocks_of world) laid at → ResultPlace after (blocks_of world) laid at
    place_there laid at older was = record {
      begins = was.begins;
      block = was.block;
      live = was.live;
      size = was.size;
      align = was.align;
      aligned = was.aligned;
      no_image = no_image_still at.block was.no_image (λ same. let since = here.inside.locals local its.is_local.among in absurd (omega (arith, older, since, same)));
    }

    result_there : (laid : Option Laid) (name : Option (List ℕ)) (at : Option Ptr) → a.names.result ≡ name → ResultAgrees (length (blocks_of a.before)) here.later world a.frame laid name at →
        ResultAgrees (length (blocks_of a.before)) after world a.frame laid name at
    result_there None None None is agrees = tt
    result_there (Some laid) (Some name) (Some at) is agrees = record {
      local = agrees.local;
      is_local = agrees.is_local;
      to = agrees.to;
      ty_is = agrees.ty_is;
      holds = agrees.holds;
      no_image =
          no_image_still agrees.local.block agrees.no_image
          (λ same. mean.apart.result number object.kept name object.kept_is is (place_as name (other_local name agrees.local agrees.is_local same)));
      place = place_there laid at agrees.older agrees.place;
      older = agrees.older;
    }
    result_there None None (Some at) is agrees = absurd agrees
    result_there None (Some name) at is agrees = absurd agrees
    result_there (Some laid) None at is agrees = absurd agrees
    result_there (Some laid) (Some name) None is agrees = absurd agrees

    -- ---- locals of zero bytes

    zeros_there : (one : ℕ) (it : KeptTemporary) → a.names.zeros one ≡ Some it → HoldsZeros after world a.frame it
    zeros_there one it is =
        let was = here.inside.zeros one it is in
        record {
          local = was.local;
          is_local = was.is_local;
          ty_is = was.ty_is;
          block = was.block;
          live = was.live;
          cells = was.cells;
          no_image =
              no_image_still was.local.block was.no_image
              (λ same. mean.apart.zero number one object.kept it object.kept_is is (place_as it.name (other_local it.name was.local was.is_local same)));
        }

    -- ---- all of it

    grows : IsGrown a.s.program c_world inners back (with_block (fresh_block false object.laid.size object.laid.align) (blocks_of c_world)) new
    grows =
        grown a.s.program c_world inners back number false made here.inside.scope.memory here.inside.worlds.held.heaps.lives
        (subst (λ (slots : CFrame). AreOwned a.s.program c_world.held slots) old_all here.inside.scope.owned)

    slot_since : (one : Slot) → Contains (inners ++ new ∷ (outers ++ a.params)) one → length (blocks_of a.c_before) ≤ one.block
    slot_since one among =
        ⊎_elim (λ (old : Contains (inners ++ (outers ++ a.params)) one). here.inside.slots one (subst (λ (slots : CFrame). Contains slots one) (sym old_own) old))
        (λ (is : new ≡ one). subst (λ (it : Slot). length (blocks_of a.c_before) ≤ it.block) is here.inside.stays.grows) (inserted_cases inners (outers ++ a.params) new one among)

    stands_begun : Standing a ((inners ++ new ∷ []) ++ outers) begun_world world
    stands_begun = record {
      later = after;
      inside = record {
        program = program_stays a.s here.later after keeps.extends here.inside.program;
        stays =
            both_keep (length (blocks_of a.before)) (is_place a.place) a.images here.later after a.c_before.held c_world.held begun_world.held a.before.held world.held world.held started.held.memories.mapped mapped
            here.inside.stays keeps;
        worlds = both_begun;
        frames = frames_there;
        slots = λ one among. slot_since one (subst (λ (slots : CFrame). Contains slots one) new_own among);
        locals = here.inside.locals;
        result = result_there (result_laid a.s a.one) a.names.result a.place refl here.inside.result;
        zeros = zeros_there;
        scope = record { memory = grows.memory; owned = subst (λ (slots : CFrame). AreOwned a.s.program begun_world.held slots) (sym new_all) grows.owned };
      };
      apart =
          subst ObjectsDiffer (sym new_all)
          (differ_with inners back new (subst ObjectsDiffer old_all here.apart) none_in_front (none_of number back none_in_back));
    }

    shape_is : shape_of (setting_in a.s) number ≡ Ok (record { type = object.one.type; laid = object.laid })
    shape_is =
        ap (λ found. and_then (needed found) (λ (o : CObject). and_then (needed (extent_in (setting_in a.s) o.type)) (λ laid. Ok (record { type = o.type; laid = laid })))) object.object_is
        ∙ ap (λ found. and_then (needed found) (λ laid. Ok (record { type = object.one.type; laid = laid }))) object.laid_is

    begins_as : object_begins (setting_in a.s) no_place number c_world ≡ Ok new_got
    begins_as = ap (λ found. and_then (as_stop no_place found) (λ shape. object_begun false shape.laid.size shape.laid.align c_world)) shape_is ∙ begun_there

    pub begun_so : (got : Got Ptr) → object_begins (setting_in a.s) no_place number c_world ≡ Ok got → Standing a ((inners ++ slot number got.value ∷ []) ++ outers) got.world world
    begun_so got is =
        let same : new_got ≡ got = let first = begins_as in cc in
        subst (λ (it : Got Ptr). Standing a ((inners ++ slot number it.value ∷ []) ++ outers) it.world world) same stands_begun

-- an object begins where no other of its number is in scope
pub fresh_slots : (a : Calling) (inner outer : List ℕ) (number : ℕ) (inners outers : CFrame) → objects_in inners ≡ inner → objects_in outers ≡ outer → NotAmong number (inner ++ (outer ++ objects_in (a.params ++ a.s.statics))) →
    NotAmong number (objects_in (inners ++ ((outers ++ a.params) ++ a.s.statics)))
fresh_slots a inner outer number inners outers inner_is outer_is fresh =
    subst (NotAmong number) (sym (objects_are inners outers) ∙ ap (λ (slots : CFrame). objects_in (inners ++ slots)) (sym (append_assoc outers a.params a.s.statics)))
    (subst (λ (list : List ℕ). NotAmong number (list ++ (objects_in outers ++ objects_in (a.params ++ a.s.statics)))) (sym inner_is)
    (subst (λ (list : List ℕ). NotAmong number (inner ++ (list ++ objects_in (a.params ++ a.s.statics)))) (sym outer_is) fresh))
  where
    join : (first others : CFrame) → objects_in (first ++ others) ≡ objects_in first ++ objects_in others
    join [] others = refl
    join (one ∷ first) others = ap (λ (list : List ℕ). one.object ∷ list) (join first others)

    objects_are : (first second : CFrame) → objects_in (first ++ (second ++ (a.params ++ a.s.statics))) ≡ objects_in first ++ (objects_in second ++ objects_in (a.params ++ a.s.statics))
    objects_are first second = join first (second ++ (a.params ++ a.s.statics)) ∙ ap (λ (list : List ℕ). objects_in first ++ list) (join second (a.params ++ a.s.statics))
