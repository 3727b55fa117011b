-- What a function's frame keeps over a call.
use Rattle.std.proofs.Common.{◌≡◌, ◌≢◌, ℕ, ◌<◌, ◌≤◌, Bool, true, false, List, ◌++◌, length, Option, Some, None, refl, sym, ap, ◌∙◌, ⊎_elim, arith}
use Rattle.std.proofs.lemmas.Bool.{cases_lt, ne_eqb}
use Rattle.std.proofs.lemmas.Option.{slice_get-get_or}
use Rattle.std.specs.List.{Contains}
use Rattle.cr_base.specs.declared.layout.Laid.{Laid}
use Rattle.cr_base.specs.declared.scalar.Scalar.TheVariants.{Object as Address}
use Rattle.cr_world.specs.Held.{Held, is_listed}
use Rattle.cr_world.specs.World.{World, blocks_of}
use Rattle.cx_core.specs.Trees.{CFun}
use Rattle.cx_mean.specs.Operands.{Frame as CFrame}
use Rattle.lift_stands.specs.Keeps.{KeepsOthers}
use Rattle.lift_stands.specs.Stands.{Images, image_of, Extends, Lives, IsNoImage}
use Rattle.lift_stands.specs.Worlds.{WorldsStand}
use Rattle.lift_stands.proofs.Kept.{both_keep}
use Rattle.lift_calls.specs.Bodies.{HoldsResult, ResultAgrees, HoldsZeros, Inside}
use Rattle.lift_calls.specs.Calls.{result_laid, ResultPlace, is_place}
use Rattle.lift_calls.specs.Frames.{FunctionNames, KeptTemporary, TemporaryAgrees, IsOwned, LocalLives, FramesAgree}
use Rattle.lift_calls.specs.Laws.{PlaceInside}
use Rattle.lift_calls.specs.Programs.{Setting, ProgramAgrees, IsTypedScope}
use Rattle.mem_bytes.specs.Access.{block_value, live_read}
use Rattle.mem_bytes.specs.Memory.{Block, live_block}
use Rattle.mem_bytes.specs.declared.value.Ptr.{Ptr}
use Rattle.mem_bytes.proofs.Slots.{live_within}
use Rattle.rs_mean.specs.Lookups.{LocalBlock}
use Rattle.rs_mean.specs.Run.{Frame}

-- ---- more images

pub program_stays : (s : Setting) (images later : Images) → Extends images later → ProgramAgrees s images → ProgramAgrees s later
program_stays s images later more agrees = record {
  functions = λ number one e.
      let found = agrees.functions number one e in
      record {
        path = found.path;
        path_is = found.path_is;
        tree = found.tree;
        tree_is = found.tree_is;
        place = found.place;
        place_is = found.place_is;
        at_place = found.at_place;
        image = ap (λ f. f number) more.functions ∙ found.image;
      };
  others = λ number e. ap (λ f. f number) more.functions ∙ agrees.others number e;
  statics = λ number at e.
      let found = agrees.statics number at e in
      record {
        path = found.path;
        path_is = found.path_is;
        home = found.home;
        home_is = found.home_is;
        image = more.blocks at.block found.home.block found.image;
      };
  bytes = more.in_bytes ∙ agrees.bytes;
}

-- ---- what isn't the piece's own

not_own : (own more : Bool) → (own ≡ true → more ≡ true) → more ≡ false → own ≡ false
not_own false more wider e = refl
not_own true more wider e =
    let f : more ≡ true = wider refl in
    cc

pub others_keep : (base lower : ℕ) (own more : ℕ → Bool) (images later : Images) (held after other beyond : Held) → lower ≤ base → ((number : ℕ) → number < lower → own number ≡ true → more number ≡ true) → KeepsOthers base own images later held after other beyond → KeepsOthers lower more images later held after other beyond
others_keep base lower own more images later held after other beyond p wider kept = record {
  extends = kept.extends;
  grows = kept.grows;
  others_grow = kept.others_grow;
  past = λ number image q e. omega (arith, p, kept.past number image q e);
  dead = kept.dead;
  heap = kept.heap;
  other_heap = kept.other_heap;
  vacant = λ number q free apart. kept.vacant number (omega (arith, p, q)) free (not_own (own number) (more number) (wider number q) apart);
  rooms = λ number block q live unlisted. kept.rooms number block (omega (arith, p, q)) live unlisted;
}

-- ---- frames

module _ (images later : Images) (own : ℕ → Bool) (c_world c_end world end : World) (worlds : WorldsStand images c_world world) (next : KeepsOthers (length (blocks_of world)) own images later c_world.held c_end.held world.held end.held) where
  -- a block of C that was made before had its image before
  imaged : (number image : ℕ) → number < length (blocks_of c_world) → image_of later number ≡ Some image → image_of images number ≡ Some image
  imaged number image p e =
      let was : (one : ℕ) × (image_of images number ≡ Some one) = (_, slice_get-get_or images.blocks number 0 (omega (arith, p, worlds.held.memories.mapped))) in
      let kept = next.extends.blocks number was.0 was.1 in
      let same : was.0 ≡ image = cc in
      was.1 ∙ ap Some same

  -- so what was there and wasn't an image is none
  pub no_image_still : (block : ℕ) → block < length (blocks_of world) → IsNoImage images block → IsNoImage later block
  no_image_still block p none number e =
      ⊎_elim
      (λ (old : number < length (blocks_of c_world)). none number (imaged number block old e))
      (λ (new : length (blocks_of c_world) ≤ number). absurd (omega (arith, p, next.past number block new e)))
      (cases_lt number (length (blocks_of c_world)))

  -- what lives and was made before lived
  lived : (number : ℕ) (slot : Option Block) → number < length (blocks_of c_world) → live_block (blocks_of c_world) number ≡ slot → Lives (blocks_of c_end) number → Lives (blocks_of c_world) number
  lived number (Some block) p e living = (block, e)
  lived number None p e living =
      let gone : live_block (blocks_of c_end) number ≡ None = next.dead number p e in
      let live : live_block (blocks_of c_end) number ≡ Some living.0 = living.1 in
      absurd cc

  unlisted : (number : ℕ) (listed : Bool) → number < length (blocks_of world) → is_listed number world.held.heap ≡ false → is_listed number end.held.heap ≡ listed → is_listed number end.held.heap ≡ false
  unlisted number false p e is = is
  unlisted number true p e is =
      let was : is_listed number world.held.heap ≡ true = next.other_heap number p is in
      absurd cc

  -- what C knows nothing of, and the call doesn't write, is as it was
  pub same_block : (number : ℕ) → number < length (blocks_of world) → IsNoImage images number → own number ≡ false → live_block (blocks_of end) number ≡ live_block (blocks_of world) number
  same_block number p none apart = next.vacant number p (λ block living e. none block e) apart

  module _ (s : Setting) (names : FunctionNames) (c_frame : CFrame) (frame : Frame) (frames : FramesAgree s names images c_frame frame c_world world) where
    pub within : (local : LocalBlock) → Contains frame.locals local → local.block < length (blocks_of world)
    within local among =
        let one = frames.lives local among in
        live_within (blocks_of world) local.block one.block one.live

    owned_still : (number : ℕ) (local : LocalBlock) → Contains frame.locals local → Lives (blocks_of c_end) number → image_of later number ≡ Some local.block → IsOwned names c_frame number local
    owned_still number local among living e =
        ⊎_elim
        (λ (old : number < length (blocks_of c_world)).
        frames.owned number local among (lived number (live_block (blocks_of c_world) number) old refl living) (imaged number local.block old e))
        (λ (new : length (blocks_of c_world) ≤ number). absurd (omega (arith, within local among, next.past number local.block new e)))
        (cases_lt number (length (blocks_of c_world)))

    lives_still : (local : LocalBlock) → Contains frame.locals local → LocalLives s.modules end local
    lives_still local among =
        let one = frames.lives local among in
        let p = within local among in
        let on = next.rooms local.block one.block p one.live one.unlisted in
        record {
          block = on.block;
          live = on.live;
          laid = one.laid;
          laid_is = one.laid_is;
          size = on.size ∙ one.size;
          align = on.align ∙ one.align;
          unlisted = unlisted local.block (is_listed local.block end.held.heap) p one.unlisted refl;
        }

    temporary_still : (number : ℕ) (one : KeptTemporary) → names.temporaries number ≡ Some one → TemporaryAgrees later frame one
    temporary_still number one e =
        let kept = frames.temporaries number one e in
        record {
          local = kept.local;
          is_local = kept.is_local;
          ty_is = kept.ty_is;
          no_image = no_image_still kept.local.block (within kept.local kept.is_local.among) kept.no_image;
        }

    pub frames_still : FramesAgree s names later c_frame frame c_end end
    frames_still = record {
      modules = frames.modules;
      bodies = frames.bodies;
      homes = frames.homes;
      objects = λ number at e.
          let found = frames.objects number at e in
          record {
            kept = found.kept;
            kept_is = found.kept_is;
            home = found.home;
            is_home = found.is_home;
            image = next.extends.blocks at.block found.home.block found.image;
          };
      owned = owned_still;
      lives = lives_still;
      apart = frames.apart;
      temporaries = temporary_still;
    }

pub frames_stay : (s : Setting) (names : FunctionNames) (images later : Images) (own : ℕ → Bool) (c_frame : CFrame) (frame : Frame) (c_world c_end world end : World) → WorldsStand images c_world world → FramesAgree s names images c_frame frame c_world world → KeepsOthers (length (blocks_of world)) own images later c_world.held c_end.held world.held end.held → FramesAgree s names later c_frame frame c_end end
frames_stay s names images later own c_frame frame c_world c_end world end worlds frames next = frames_still images later own c_world c_end world end worlds next s names c_frame frame frames

-- ---- inside of a function

place_apart : (inner : Option Ptr) (number : ℕ) → ((at : Ptr) → inner ≡ Some at → number ≢ at.block) → is_place inner number ≡ false
place_apart None number away = refl
place_apart (Some at) number away = ne_eqb at.block number (λ same. away at refl (sym same))

not_in : (inner : Option Ptr) (base : ℕ) → ((at : Ptr) → inner ≡ Some at → base ≤ at.block) → (number : ℕ) → number < base → is_place inner number ≡ false
not_in inner base since number p = place_apart inner number (λ at e same. omega (arith, since at e, p, same))

module _ (s : Setting) (one : CFun) (names : FunctionNames) (images later last : Images) (place inner : Option Ptr) (c_before before : World) (c_frame : CFrame) (frame : Frame) (c_world c_end world end : World) (started : WorldsStand images c_before before) (here : Inside s one names images later place c_before before c_frame frame c_world world) (inside : PlaceInside names frame before inner) (next : KeepsOthers (length (blocks_of world)) (is_place inner) later last c_world.held c_end.held world.held end.held) (worlds : WorldsStand last c_end end) (scope : IsTypedScope s.program (c_frame ++ s.statics) c_end) where
  since_call : KeepsOthers (length (blocks_of before)) (is_place place) later last c_world.held c_end.held world.held end.held
  since_call =
      others_keep (length (blocks_of world)) (length (blocks_of before)) (is_place inner) (is_place place) later last c_world.held c_end.held world.held end.held here.stays.others_grow
      (λ number p e.
      let no : is_place inner number ≡ false = not_in inner (length (blocks_of before)) inside.since number p in
      cc) next

  place_still : (laid : Laid) (at : Ptr) → at.block < length (blocks_of before) → ResultPlace later (blocks_of world) laid at → ResultPlace last (blocks_of end) laid at
  place_still laid at older there =
      let p = live_within (blocks_of world) at.block there.block there.live in
      let same = same_block later last (is_place inner) c_world c_end world end here.worlds next at.block p there.no_image (not_in inner (length (blocks_of before)) inside.since at.block older) in
      record {
        begins = there.begins;
        block = there.block;
        live = same ∙ there.live;
        size = there.size;
        align = there.align;
        aligned = there.aligned;
        no_image = no_image_still later last (is_place inner) c_world c_end world end here.worlds next at.block p there.no_image;
      }

  holds_still : (laid : Laid) (name : List ℕ) (at : Ptr) → names.result ≡ Some name → HoldsResult (length (blocks_of before)) later world frame laid name at → HoldsResult (length (blocks_of before)) last end frame laid name at
  holds_still laid name at e holds =
      let local = holds.local in
      let p = within later last (is_place inner) c_world c_end world end here.worlds next s names c_frame frame here.frames local holds.is_local.among in
      let apart = place_apart inner local.block (λ to f. inside.no_result to name local f e holds.is_local) in
      let same = same_block later last (is_place inner) c_world c_end world end here.worlds next local.block p holds.no_image apart in
      record {
        local = local;
        is_local = holds.is_local;
        to = holds.to;
        ty_is = holds.ty_is;
        holds = ap (λ slot. live_read slot (λ block. block_value block 0 Address)) same ∙ holds.holds;
        no_image = no_image_still later last (is_place inner) c_world c_end world end here.worlds next local.block p holds.no_image;
        place = place_still laid at holds.older holds.place;
        older = holds.older;
      }

  result_still : (laid : Option Laid) (name : Option (List ℕ)) (at : Option Ptr) → names.result ≡ name → ResultAgrees (length (blocks_of before)) later world frame laid name at → ResultAgrees (length (blocks_of before)) last end frame laid name at
  result_still None None None e agrees = tt
  result_still (Some laid) (Some name) (Some at) e agrees = holds_still laid name at e agrees
  result_still None None (Some at) e agrees = absurd agrees
  result_still None (Some name) at e agrees = absurd agrees
  result_still (Some laid) None at e agrees = absurd agrees
  result_still (Some laid) (Some name) None e agrees = absurd agrees

  zeros_still : (number : ℕ) (zero : KeptTemporary) → names.zeros number ≡ Some zero → HoldsZeros later world frame zero → HoldsZeros last end frame zero
  zeros_still number zero e holds =
      let local = holds.local in
      let p = within later last (is_place inner) c_world c_end world end here.worlds next s names c_frame frame here.frames local holds.is_local.among in
      let apart = place_apart inner local.block (λ to f. inside.no_zeros to number zero local f e holds.is_local) in
      record {
        local = local;
        is_local = holds.is_local;
        ty_is = holds.ty_is;
        block = holds.block;
        live = same_block later last (is_place inner) c_world c_end world end here.worlds next local.block p holds.no_image apart ∙ holds.live;
        cells = holds.cells;
        no_image = no_image_still later last (is_place inner) c_world c_end world end here.worlds next local.block p holds.no_image;
      }

  pub inside_stays : Inside s one names images last place c_before before c_frame frame c_end end
  inside_stays = record {
    program = program_stays s later last next.extends here.program;
    stays = both_keep (length (blocks_of before)) (is_place place) images later last c_before.held c_world.held c_end.held before.held world.held end.held started.held.memories.mapped here.worlds.held.memories.mapped here.stays since_call;
    worlds = worlds;
    frames = frames_stay s names later last (is_place inner) c_frame frame c_world c_end world end here.worlds here.frames next;
    slots = here.slots;
    locals = here.locals;
    result = result_still (result_laid s one) names.result place refl here.result;
    zeros = λ number zero e. zeros_still number zero e (here.zeros number zero e);
    scope = scope;
  }
