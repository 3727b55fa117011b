-- Objects of open statements die in C, and nothing is done for them in the crate; where all have died, both have returned.
use Rattle.std.proofs.Common.{◌≡◌, ◌≢◌, ◌∙◌, ◌⊎◌, inl, inr, ⊎_elim, ℕ, zero, suc, slice_index_or, ◌<◌, ◌==◌, Bool, true, false, List, [], ◌∷◌, ◌++◌, length, map, slice_set, if◌then◌else◌, Option, Some, None, refl, sym, ap, subst, arith, append_assoc}
use Rattle.std.proofs.lemmas.Bool.Decides.{nat_tests}
use Rattle.std.proofs.lemmas.List.{length-set}
use Rattle.std.proofs.lemmas.List.Elements.{Contains-append_right, Contains-append_cases}
use Rattle.std.specs.List.{Contains}
use Rattle.cr_world.specs.Held.{is_listed, with_blocks, without_block}
use Rattle.cr_world.specs.World.{World, blocks_of, with_memory, events_of}
use Rattle.cx_mean.specs.Moves.{without_objects}
use Rattle.cx_mean.specs.Operands.{CValue, Slot, Frame as CFrame, slot_of}
use Rattle.cx_typed_runs.proofs.Owned.{killed_owned, killed_held, memory_without}
use Rattle.cx_typed_runs.specs.Sites.{AreOwned}
use Rattle.ext_calls.specs.declared.call.Made.{Made}
use Rattle.lift_calls.specs.Calls.{result_laid, is_place, type_in, IsOfItsType, GivesBack}
use Rattle.lift_calls.specs.Frames.{ObjectAgrees, IsOwned}
use Rattle.lift_stands.proofs.Kept.{both_keep}
use Rattle.lift_stands.specs.Keeps.{KeepsOthers}
use Rattle.lift_stands.specs.Stands.{Images, image_of, Lives, IsVacant}
use Rattle.lift_stands.specs.Worlds.{WorldsStand}
use Rattle.lift_stands_lives.proofs.Begun.{worlds_held}
use Rattle.lift_stands_lives.proofs.HeldLives.{held_fewer, listed_lives}
use Rattle.lift_stands_lives.proofs.Pushed.{killed}
use Rattle.lift_stands_lives.proofs.Steps.{fewer_keeps}
use Rattle.lift_stands_lives.specs.Rooms.{LivesFewer}
use Rattle.lift_stands_values.specs.Given.{align_or}
use Rattle.mem_bytes.proofs.Slots.{live-set_other}
use Rattle.mem_bytes.specs.Memory.{Block, Blocks, live_block}
use Rattle.mem_bytes.specs.declared.value.Ptr.{Ptr}
use Rattle.rs_mean.specs.Lookups.{LocalBlock}
use Rattle.rs_mean.specs.Run.{returned, given_by}
use Rattle.rs_mean.specs.Values.{Typed}
use Rattle.build_flow_lives.specs.Standing.{ObjectsDiffer, Calling, own_slots, Standing, HasReturned}

-- ---- memories without objects

set_live : (blocks : Blocks) (number other : ℕ) (block : Block) → live_block (slice_set blocks number None) other ≡ Some block → live_block blocks other ≡ Some block
set_live blocks number other block live =
    ⊎_elim
    (λ (same : number ≡ other). let gone : live_block (slice_set blocks number None) number ≡ None = killed blocks number in
    let there : live_block (slice_set blocks number None) number ≡ Some block = ap (λ (x : ℕ). live_block (slice_set blocks number None) x) same ∙ live in absurd cc)
    (λ (apart : number ≢ other). sym (live-set_other blocks number other None apart) ∙ live) (cases_number number other)
  where
    cases_number : (x y : ℕ) → (x ≡ y) ⊎ (x ≢ y)
    cases_number x y = by (x == y) refl
      where
        by : (same : Bool) → (x == y) ≡ same → (x ≡ y) ⊎ (x ≢ y)
        by true is = inl (grind (arith, nat_tests, is))
        by false is = inr (λ same. grind (arith, nat_tests, is))

pub fewer_live : (gone : CFrame) (blocks : Blocks) → LivesFewer blocks (without_objects gone blocks)
fewer_live [] blocks = record { many = refl; same = λ number block live. live }
fewer_live (slot ∷ gone) blocks =
    let rest = fewer_live gone (without_block slot.block blocks) in
    record { many = rest.many ∙ length-set blocks slot.block None; same = λ number block live. set_live blocks slot.block number block (rest.same number block live) }

-- the block of each has died
gone_at : (gone : CFrame) (blocks : Blocks) (slot : Slot) (k : ℕ) → k < length gone → slice_index_or gone k slot ≡ slot → (block : Block) → live_block (without_objects gone blocks) slot.block ≡ Some block → ⊥
gone_at [] blocks slot k less same block live = absurd (omega (arith, less))
gone_at (first ∷ gone) blocks slot zero less same block live =
    let dead : live_block (without_block first.block blocks) first.block ≡ None = killed blocks first.block in
    let lived : live_block (without_block first.block blocks) slot.block ≡ Some block = (fewer_live gone (without_block first.block blocks)).same slot.block block live in
    let there : live_block (without_block first.block blocks) first.block ≡ Some block = ap (λ (x : Slot). live_block (without_block first.block blocks) x.block) same ∙ lived in
    absurd cc
gone_at (first ∷ gone) blocks slot (suc k) less same block live = gone_at gone (without_block first.block blocks) slot k (omega (arith, less)) same block live

pub gone_dead : (gone : CFrame) (blocks : Blocks) (slot : Slot) → Contains gone slot → Lives (without_objects gone blocks) slot.block → ⊥
gone_dead gone blocks slot among living = gone_at gone blocks slot among.0 among.1 among.2 living.0 living.1

pub differ_behind : (gone rest : CFrame) → ObjectsDiffer (gone ++ rest) → ObjectsDiffer rest
differ_behind [] rest apart = apart
differ_behind (slot ∷ gone) rest apart = differ_behind gone rest apart.1

none_behind : (gone rest : CFrame) (number : ℕ) → slot_of (gone ++ rest) number ≡ None → slot_of rest number ≡ None
none_behind [] rest number none = none
none_behind (slot ∷ gone) rest number none = by (slot.object == number) none (λ there. none_behind gone rest number there)
  where
    by : (same : Bool) → (if same then Some (record { block = slot.block; offset = 0 }) else slot_of (gone ++ rest) number) ≡ None → (slot_of (gone ++ rest) number ≡ None → slot_of rest number ≡ None) →
        slot_of rest number ≡ None
    by true is more = absurd cc
    by false is more = more is

-- an object that is found behind others is found with them in front
pub found_behind : (gone rest : CFrame) (number : ℕ) (at : Ptr) → ObjectsDiffer (gone ++ rest) → slot_of rest number ≡ Some at → slot_of (gone ++ rest) number ≡ Some at
found_behind [] rest number at apart found = found
found_behind (slot ∷ gone) rest number at apart found = by (slot.object == number) refl (found_behind gone rest number at apart.1 found)
  where
    by : (same : Bool) → (slot.object == number) ≡ same → slot_of (gone ++ rest) number ≡ Some at →
        (if same then Some (record { block = slot.block; offset = 0 }) else slot_of (gone ++ rest) number) ≡ Some at
    by true is there =
        let same : slot.object ≡ number = grind (arith, nat_tests, is) in
        let none : slot_of (gone ++ rest) number ≡ None = ap (λ (x : ℕ). slot_of (gone ++ rest) x) (sym same) ∙ apart.0 in
        absurd cc
    by false is there = there

module _ (a : Calling) (started : WorldsStand a.images a.c_before a.before) where
  abbrev without : CFrame → World → World
  without gone world = with_memory (without_objects gone (blocks_of world)) world

  -- ---- worlds

  module _ (gone rest : CFrame) (later : Images) (c_world world : World) (worlds : WorldsStand later c_world world) (owned : AreOwned a.s.program c_world.held (gone ++ rest)) where
    listed_live : (number : ℕ) → is_listed number c_world.held.heap ≡ true → Lives (without_objects gone (blocks_of c_world)) number
    listed_live number is =
        listed_lives (without_objects gone (blocks_of c_world)) number c_world.held.heap (killed_held a.s.program c_world.held gone rest owned worlds.held.heaps.lives) is

    pub worlds_without : WorldsStand later (without gone c_world) world
    worlds_without =
        worlds_held later later c_world world (with_blocks (without_objects gone (blocks_of c_world)) c_world.held) world.held worlds
        (held_fewer later c_world.held world.held (without_objects gone (blocks_of c_world)) worlds.held (fewer_live gone (blocks_of c_world)) listed_live)

    pub keeps_without : KeepsOthers (length (blocks_of a.before)) (is_place a.place) a.images later a.c_before.held c_world.held a.before.held world.held →
        KeepsOthers (length (blocks_of a.before)) (is_place a.place) a.images later a.c_before.held (without gone c_world).held a.before.held world.held
    keeps_without stays =
        both_keep (length (blocks_of a.before)) (is_place a.place) a.images later later a.c_before.held c_world.held (without gone c_world).held a.before.held world.held world.held
        started.held.memories.mapped worlds.held.memories.mapped stays
        (fewer_keeps (length (blocks_of a.before)) (is_place a.place) later c_world.held world.held (without_objects gone (blocks_of c_world)) worlds.held.memories.mapped (fewer_live gone (blocks_of c_world)))

  -- ---- what stands on

  module _ (gone kept : CFrame) (c_world world : World) (here : Standing a (gone ++ kept) c_world world) where
    abbrev rest : CFrame
    rest = own_slots a kept

    abbrev same_slots : own_slots a (gone ++ kept) ≡ gone ++ rest
    same_slots = append_assoc gone kept a.params

    abbrev all_slots : own_slots a (gone ++ kept) ++ a.s.statics ≡ gone ++ (rest ++ a.s.statics)
    all_slots = ap (λ (slots : CFrame). slots ++ a.s.statics) (append_assoc gone kept a.params) ∙ append_assoc gone rest a.s.statics

    differ_all : ObjectsDiffer (gone ++ (rest ++ a.s.statics))
    differ_all = subst ObjectsDiffer all_slots here.apart

    owned_all : AreOwned a.s.program c_world.held (gone ++ (rest ++ a.s.statics))
    owned_all = subst (λ (slots : CFrame). AreOwned a.s.program c_world.held slots) all_slots here.inside.scope.owned

    object_still : (number : ℕ) (at : Ptr) → slot_of (rest ++ a.s.statics) number ≡ Some at → ObjectAgrees a.names here.later a.frame number at
    object_still number at found =
        here.inside.frames.objects number at (ap (λ (slots : CFrame). slot_of slots number) all_slots ∙ found_behind gone (rest ++ a.s.statics) number at differ_all found)

    owned_still : (number : ℕ) (local : LocalBlock) → Contains a.frame.locals local → Lives (without_objects gone (blocks_of c_world)) number → image_of here.later number ≡ Some local.block →
        IsOwned a.names rest number local
    owned_still number local among living image = by (Contains-append_cases gone rest was.slot (subst (λ (slots : CFrame). Contains slots was.slot) same_slots was.in_scope))
      where
        was : IsOwned a.names (own_slots a (gone ++ kept)) number local
        was = here.inside.frames.owned number local among (living.0, (fewer_live gone (blocks_of c_world)).same number living.0 living.1) image

        by : (Contains gone was.slot) ⊎ (Contains rest was.slot) → IsOwned a.names rest number local
        by (inl there) = absurd (gone_dead gone (blocks_of c_world) was.slot there (subst (λ (x : ℕ). Lives (without_objects gone (blocks_of c_world)) x) (sym was.block_is) living))
        by (inr there) = record { slot = was.slot; in_scope = there; block_is = was.block_is; kept = was.kept; kept_is = was.kept_is; place_is = was.place_is }

    pub stands_on : Standing a kept (without gone c_world) world
    stands_on = record {
      later = here.later;
      inside = record {
        program = here.inside.program;
        stays = keeps_without gone (rest ++ a.s.statics) here.later c_world world here.inside.worlds owned_all here.inside.stays;
        worlds = worlds_without gone (rest ++ a.s.statics) here.later c_world world here.inside.worlds owned_all;
        frames = record {
          modules = here.inside.frames.modules;
          bodies = here.inside.frames.bodies;
          homes = here.inside.frames.homes;
          objects = object_still;
          owned = owned_still;
          lives = here.inside.frames.lives;
          apart = here.inside.frames.apart;
          temporaries = here.inside.frames.temporaries;
        };
        slots = λ slot among. here.inside.slots slot (subst (λ (slots : CFrame). Contains slots slot) (sym same_slots) (Contains-append_right gone rest slot among));
        locals = here.inside.locals;
        result = here.inside.result;
        zeros = here.inside.zeros;
        scope = record {
          memory = memory_without a.s.program gone (blocks_of c_world) here.inside.scope.memory;
          owned = killed_owned a.s.program c_world.held gone (rest ++ a.s.statics) owned_all;
        };
      };
      apart = differ_behind gone (rest ++ a.s.statics) differ_all;
    }

  -- ---- what has returned

  module _ (slots : CFrame) (c_world world : World) (here : Standing a slots c_world world) where
    pub all_vacant : (local : LocalBlock) → Contains a.frame.locals local → IsVacant here.later (without_objects (own_slots a slots) (blocks_of c_world)) local.block
    all_vacant local among number living image =
        let was = here.inside.frames.owned number local among (living.0, (fewer_live (own_slots a slots) (blocks_of c_world)).same number living.0 living.1) image in
        gone_dead (own_slots a slots) (blocks_of c_world) was.slot was.in_scope (subst (λ (x : ℕ). Lives (without_objects (own_slots a slots) (blocks_of c_world)) x) (sym was.block_is) living)

    pub has_returned : (value : CValue) (given : Option Typed) → type_in (given_by a.tree.result (returned given)) ≡ a.tree.result →
        IsOfItsType (given_by a.tree.result (returned given)) → GivesBack here.later (blocks_of world) (align_or (result_laid a.s a.one)) a.place value (given_by a.tree.result (returned given)) →
        HasReturned a value (without (own_slots a slots) c_world) given world
    has_returned value given typed of_type gives = record {
      later = here.later;
      stays = keeps_without (own_slots a slots) a.s.statics here.later c_world world here.inside.worlds here.inside.scope.owned here.inside.stays;
      worlds = worlds_without (own_slots a slots) a.s.statics here.later c_world world here.inside.worlds here.inside.scope.owned;
      vacant = all_vacant;
      typed = typed;
      of_type = of_type;
      gives = gives;
    }

  pub same_events : (slots : CFrame) (c_world world : World) → Standing a slots c_world world → events_of c_world ≡ events_of world
  same_events slots c_world world here = ap (λ (made : List Made). map (λ (one : Made). one.call) made) (sym here.inside.worlds.made)
