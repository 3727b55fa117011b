-- Both stand in their bodies behind a piece that writes blocks of the function's own.
use Rattle.std.proofs.Common.{◌≡◌, ◌∙◌, ℕ, suc, ◌<◌, ◌≤◌, Bool, true, false, List, [], ◌∷◌, ◌++◌, length, Option, Some, None, option_map, bytes_eq, if◌then◌else◌, refl, sym, ap, arith}
use Rattle.std.proofs.lemmas.Slice.Eq.{bytes_eq-Decides}
use Rattle.std.specs.List.{Contains, find}
use Rattle.cr_base.specs.declared.layout.Laid.{Laid}
use Rattle.cr_base.specs.declared.scalar.Scalar.TheVariants.{Object as Address}
use Rattle.cr_world.specs.World.{World, blocks_of}
use Rattle.cx_mean.specs.Operands.{Frame as CFrame}
use Rattle.build_flow_lives.specs.Standing.{Calling, own_slots, Standing}
use Rattle.lift_calls.proofs.Kept.{program_stays, others_keep, no_image_still, same_block, frames_stay, within}
use Rattle.lift_calls.specs.Bodies.{HoldsResult, ResultAgrees, HoldsZeros}
use Rattle.lift_calls.specs.Calls.{result_laid, ResultPlace, is_place}
use Rattle.lift_calls.specs.Frames.{KeptTemporary, FunctionNames, NamesApart, IsLocal, FramesAgree}
use Rattle.lift_calls.specs.Programs.{IsTypedScope}
use Rattle.lift_does.specs.Does.{AreOwn}
use Rattle.lift_stands.proofs.Kept.{both_keep}
use Rattle.lift_stands.specs.Keeps.{KeepsOthers}
use Rattle.lift_stands.specs.Stands.{Images}
use Rattle.lift_stands.specs.Worlds.{WorldsStand}
use Rattle.mem_bytes.proofs.Slots.{live_within}
use Rattle.mem_bytes.specs.Access.{block_value, live_read}
use Rattle.mem_bytes.specs.declared.value.Ptr.{Ptr}
use Rattle.rs_mean.specs.Lookups.{LocalBlock, Home, home_of, local_home}
use Rattle.rs_mean.specs.Run.{Frame}

-- ---- locals by their names

pub record IsNamed (name : List ℕ) (locals : List LocalBlock) (home : Home) : Type 0 where
  pub local : LocalBlock
  pub among : Contains locals local
  pub named : bytes_eq local.name name ≡ true
  pub home_is : home_of local ≡ home

pub named : (name : List ℕ) (locals : List LocalBlock) (home : Home) → local_home name locals ≡ Some home → IsNamed name locals home
named name [] home found = absurd cc
named name (one ∷ others) home found = by (bytes_eq one.name name) refl found (λ there. named name others home there)
  where
    by : (same : Bool) → bytes_eq one.name name ≡ same → option_map home_of (if same then Some one else find (λ (local : LocalBlock). bytes_eq local.name name) others) ≡ Some home →
        (local_home name others ≡ Some home → IsNamed name others home) → IsNamed name (one ∷ others) home
    by true is there more = record { local = one; among = (0, omega arith, refl); named = is; home_is = cc }
    by false is there more =
        let it = more there in
        record { local = it.local; among = (suc it.among.0, omega (arith, it.among.1), it.among.2); named = it.named; home_is = it.home_is }

-- names of locals in one block are the same
pub one_name : (s : _) (names : FunctionNames) (images : Images) (c_frame : CFrame) (frame : Frame) (c_world world : World) → FramesAgree s names images c_frame frame c_world world → (one other : List ℕ) (first second : LocalBlock) →
    IsLocal frame one first → IsLocal frame other second → first.block ≡ second.block → one ≡ other
one_name s names images c_frame frame c_world world frames one other first second here there same =
    let a = named one frame.locals (home_of first) here.found in
    let b = named other frame.locals (home_of second) there.found in
    let blocks : a.local.block ≡ b.local.block = ap (λ (home : Home). home.block) a.home_is ∙ same ∙ sym (ap (λ (home : Home). home.block) b.home_is) in
    let locals : a.local ≡ b.local = frames.apart a.local b.local a.among b.among blocks in
    let first_is : a.local.name ≡ one = (bytes_eq-Decides a.local.name one).0 a.named in
    let other_is : b.local.name ≡ other = (bytes_eq-Decides b.local.name other).0 b.named in
    sym first_is ∙ ap (λ (local : LocalBlock). local.name) locals ∙ other_is

-- ---- behind a piece

-- the blocks that a piece writes were made since the call, and are neither that of what points to the result nor one of zero bytes
pub record IsAside (a : Calling) (own : ℕ → Bool) : Type 0 where
  pub since : (number : ℕ) → own number ≡ true → length (blocks_of a.before) ≤ number
  pub no_result : (name : List ℕ) (local : LocalBlock) → a.names.result ≡ Some name → IsLocal a.frame name local → own local.block ≡ true → ⊥
  pub no_zeros : (number : ℕ) (zero : KeptTemporary) (local : LocalBlock) → a.names.zeros number ≡ Some zero → IsLocal a.frame zero.name local → own local.block ≡ true → ⊥

-- so are those of temporaries
pub own_aside : (a : Calling) (apart : NamesApart a.names) (slots : CFrame) (c_world world : World) → Standing a slots c_world world → (own : ℕ → Bool) (from to : ℕ) → AreOwn a.names a.frame from to own → IsAside a own
own_aside a apart slots c_world world here own from to are_own = record {
  since = λ number is.
      let temporary = are_own number is in
      let since = here.inside.locals temporary.local temporary.is_local.among in
      omega (arith, since, temporary.block_is);
  no_result = λ name local is there owns.
      let temporary = are_own local.block owns in
      apart.result_temporary temporary.number temporary.one name temporary.kept_is is
      (one_name a.s a.names here.later (own_slots a slots) a.frame c_world world here.inside.frames temporary.one.name name temporary.local local temporary.is_local there temporary.block_is);
  no_zeros = λ number zero local is there owns.
      let temporary = are_own local.block owns in
      apart.zero_temporary temporary.number number temporary.one zero temporary.kept_is is
      (one_name a.s a.names here.later (own_slots a slots) a.frame c_world world here.inside.frames temporary.one.name zero.name temporary.local local temporary.is_local there temporary.block_is);
}

module _ (a : Calling) (started : WorldsStand a.images a.c_before a.before)
    (slots : CFrame) (c_world world : World) (here : Standing a slots c_world world) (later : Images) (own : ℕ → Bool) (aside : IsAside a own)
    (c_end end : World) (keeps : KeepsOthers (length (blocks_of world)) own here.later later c_world.held c_end.held world.held end.held) (worlds : WorldsStand later c_end end)
    (scope : IsTypedScope a.s.program (own_slots a slots ++ a.s.statics) c_end) where
  -- what the piece writes was made since the call
  own_new : (number : ℕ) → number < length (blocks_of a.before) → own number ≡ true → is_place a.place number ≡ true
  own_new number less is = let since = aside.since number is in absurd (omega (arith, less, since))

  pub since_call : KeepsOthers (length (blocks_of a.before)) (is_place a.place) here.later later c_world.held c_end.held world.held end.held
  since_call =
      others_keep (length (blocks_of world)) (length (blocks_of a.before)) own (is_place a.place) here.later later c_world.held c_end.held world.held end.held here.inside.stays.others_grow own_new keeps

  not_own : (number : ℕ) (is : Bool) → own number ≡ is → (own number ≡ true → ⊥) → own number ≡ false
  not_own number true is none = absurd (none is)
  not_own number false is none = is

  older_not_own : (number : ℕ) → number < length (blocks_of a.before) → own number ≡ true → ⊥
  older_not_own number less is = let since = aside.since number is in omega (arith, less, since)

  place_still : (laid : Laid) (at : Ptr) → at.block < length (blocks_of a.before) → ResultPlace here.later (blocks_of world) laid at → ResultPlace later (blocks_of end) laid at
  place_still laid at older there =
      let p = live_within (blocks_of world) at.block there.block there.live in
      let same = same_block here.later later own c_world c_end world end here.inside.worlds keeps at.block p there.no_image (not_own at.block (own at.block) refl (older_not_own at.block older)) in
      record {
        begins = there.begins;
        block = there.block;
        live = same ∙ there.live;
        size = there.size;
        align = there.align;
        aligned = there.aligned;
        no_image = no_image_still here.later later own c_world c_end world end here.inside.worlds keeps at.block p there.no_image;
      }

  holds_still : (laid : Laid) (name : List ℕ) (at : Ptr) → a.names.result ≡ Some name → HoldsResult (length (blocks_of a.before)) here.later world a.frame laid name at →
      HoldsResult (length (blocks_of a.before)) later end a.frame laid name at
  holds_still laid name at is holds =
      let local = holds.local in
      let p = within here.later later own c_world c_end world end here.inside.worlds keeps a.s a.names (own_slots a slots) a.frame here.inside.frames local holds.is_local.among in
      let same =
      same_block here.later later own c_world c_end world end here.inside.worlds keeps local.block p holds.no_image
      (not_own local.block (own local.block) refl (aside.no_result name local is holds.is_local)) in
      record {
        local = local;
        is_local = holds.is_local;
        to = holds.to;
        ty_is = holds.ty_is;
        holds = ap (λ slot. live_read slot (λ block. block_value block 0 Address)) same ∙ holds.holds;
        no_image = no_image_still here.later later own c_world c_end world end here.inside.worlds keeps local.block p holds.no_image;
        place = place_still laid at holds.older holds.place;
        older = holds.older;
      }

  pub result_still : (laid : Option Laid) (name : Option (List ℕ)) (at : Option Ptr) → a.names.result ≡ name → ResultAgrees (length (blocks_of a.before)) here.later world a.frame laid name at →
      ResultAgrees (length (blocks_of a.before)) later end a.frame laid name at
  result_still None None None is agrees = tt
  result_still (Some laid) (Some name) (Some at) is agrees = holds_still laid name at is agrees
  result_still None None (Some at) is agrees = absurd agrees
  result_still None (Some name) at is agrees = absurd agrees
  result_still (Some laid) None at is agrees = absurd agrees
  result_still (Some laid) (Some name) None is agrees = absurd agrees

  pub zeros_still : (number : ℕ) (zero : KeptTemporary) → a.names.zeros number ≡ Some zero → HoldsZeros here.later world a.frame zero → HoldsZeros later end a.frame zero
  zeros_still number zero is holds =
      let local = holds.local in
      let p = within here.later later own c_world c_end world end here.inside.worlds keeps a.s a.names (own_slots a slots) a.frame here.inside.frames local holds.is_local.among in
      record {
        local = local;
        is_local = holds.is_local;
        ty_is = holds.ty_is;
        block = holds.block;
        live =
            same_block here.later later own c_world c_end world end here.inside.worlds keeps local.block p holds.no_image
            (not_own local.block (own local.block) refl (aside.no_zeros number zero local is holds.is_local))
            ∙ holds.live;
        cells = holds.cells;
        no_image = no_image_still here.later later own c_world c_end world end here.inside.worlds keeps local.block p holds.no_image;
      }

  abbrev pub stands_beside : Standing a slots c_end end
  stands_beside = record {
    later = later;
    inside = record {
      program = program_stays a.s here.later later keeps.extends here.inside.program;
      stays =
          both_keep (length (blocks_of a.before)) (is_place a.place) a.images here.later later a.c_before.held c_world.held c_end.held a.before.held world.held end.held started.held.memories.mapped
          here.inside.worlds.held.memories.mapped here.inside.stays since_call;
      worlds = worlds;
      frames = frames_stay a.s a.names here.later later own (own_slots a slots) a.frame c_world c_end world end here.inside.worlds here.inside.frames keeps;
      slots = here.inside.slots;
      locals = here.inside.locals;
      result = result_still (result_laid a.s a.one) a.names.result a.place refl here.inside.result;
      zeros = λ number zero is. zeros_still number zero is (here.inside.zeros number zero is);
      scope = scope;
    };
    apart = here.apart;
  }

-- behind a piece that writes temporaries alone
abbrev pub stands_behind : (a : Calling) (started : WorldsStand a.images a.c_before a.before) (apart : NamesApart a.names) (slots : CFrame) (c_world world : World) (here : Standing a slots c_world world) (later : Images) (own : ℕ → Bool) (from to : ℕ) →
    AreOwn a.names a.frame from to own → (c_end end : World) → KeepsOthers (length (blocks_of world)) own here.later later c_world.held c_end.held world.held end.held → WorldsStand later c_end end →
    IsTypedScope a.s.program (own_slots a slots ++ a.s.statics) c_end → Standing a slots c_end end
stands_behind a started apart slots c_world world here later own from to are_own =
    stands_beside a started slots c_world world here later own (own_aside a apart slots c_world world here own from to are_own)
