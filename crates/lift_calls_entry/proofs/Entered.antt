-- Where all parameters have begun, both stand before their bodies.
use Rattle.std.proofs.Common.{◌≡◌, ◌∙◌, ◌⊎◌, inl, inr, ⊎_elim, ℕ, suc, ◌==◌, Bool, true, false, List, [], ◌∷◌, ◌++◌, map, length, Option, Some, refl, sym, ap, subst, arith, if◌then◌else◌}
use Rattle.std.specs.List.{Contains}
use Rattle.std.proofs.lemmas.Bool.Decides.{nat_tests}
use Rattle.std.proofs.lemmas.List.Elements.{Contains-append_right}
use Rattle.cr_world.specs.Held.{is_listed}
use Rattle.cr_world.specs.World.{World, blocks_of}
use Rattle.cx_core.specs.Trees.{CFun}
use Rattle.cx_mean.specs.Operands.{Slot, Frame as CFrame, slot_of}
use Rattle.lift_calls.proofs.Kept.{program_stays}
use Rattle.lift_calls.specs.Bodies.{ResultAgrees, HoldsZeros}
use Rattle.lift_calls.specs.Calls.{result_laid}
use Rattle.lift_calls.specs.Entries.{frame_in, EntryMeets}
use Rattle.lift_calls.specs.Frames.{KeptTemporary, FunctionNames, home_in, IsHome, ObjectAgrees, IsOwned, LocalLives, IsLocal, TemporaryAgrees, FramesAgree}
use Rattle.lift_calls.specs.Programs.{Setting, ProgramAgrees}
use Rattle.lift_calls_entry.specs.Entry.{IsStaticKept, IsLocalKept, all_locals, EntryMeans}
use Rattle.lift_calls_entry.proofs.Fresh.{locals_from}
use Rattle.lift_calls_entry.proofs.Begun.{HasBegun, Progress, entered_world, no_old_image}
use Rattle.lift_calls_entry.proofs.Locals.{is_local, local_of}
use Rattle.lift_forms.specs.Places.{Kept}
use Rattle.lift_stands.specs.Stands.{Images, image_of}
use Rattle.mem_bytes.specs.Memory.{Blocks}
use Rattle.mem_bytes.specs.declared.value.Ptr.{Ptr}
use Rattle.rs_mean.specs.Lookups.{LocalBlock, Home, home_of}
use Rattle.rs_mean.specs.Run.{Frame, normal}
use Rattle.rs_text.specs.Tree.{Local, Stmt, FunctionTree, LocalTree}

-- ---- slots

slot_cases : (frame others : CFrame) (number : ℕ) (at : Ptr) → slot_of (frame ++ others) number ≡ Some at →
    ((one : Slot) × Contains frame one × (one.object ≡ number) × (record { block = one.block; offset = 0 } ≡ at)) ⊎ (slot_of others number ≡ Some at)
slot_cases [] others number at is = inr is
slot_cases (first ∷ frame) others number at is = by (first.object == number) refl is (slot_cases frame others number at)
  where
    by : (same : Bool) → (first.object == number) ≡ same → (if same then Some (record { block = first.block; offset = 0 }) else slot_of (frame ++ others) number) ≡ Some at →
        (slot_of (frame ++ others) number ≡ Some at → ((one : Slot) × Contains frame one × (one.object ≡ number) × (record { block = one.block; offset = 0 } ≡ at)) ⊎ (slot_of others number ≡ Some at)) →
        ((one : Slot) × Contains (first ∷ frame) one × (one.object ≡ number) × (record { block = one.block; offset = 0 } ≡ at)) ⊎ (slot_of others number ≡ Some at)
    by true same found rest = inl (first, (0, omega arith, refl), (let e = same in grind (arith, nat_tests, e)), (let p : record { block = first.block; offset = 0 } ≡ at = cc (found) in p))
    by false same found rest =
        ⊎_elim (λ (there : (one : Slot) × Contains frame one × (one.object ≡ number) × (record { block = one.block; offset = 0 } ≡ at)).
        inl (there.0, (suc there.1.0, (let less = there.1.1 in omega (arith, less)), there.1.2), there.2, there.3)) (λ other. inr other) (rest found)

-- ---- both stand there

module _ (s : Setting) (one : CFun) (tree : FunctionTree) (names : FunctionNames) (copies : List Stmt) (mean : EntryMeans s one tree names copies) (images : Images) (place : Option Ptr) (c_world world : World) (memory : Blocks) where
  abbrev locals : List LocalBlock
  locals = locals_from (length (blocks_of world)) (all_locals tree)

  abbrev frame : Frame
  frame = frame_in s locals

  abbrev entered : World
  entered = entered_world s names images place c_world world locals memory

  module _ (has : HasBegun s names images place c_world world locals memory) (program : ProgramAgrees s images) (later : Images) (c_frame : CFrame) (c : World) (progress : Progress s names images place c_world world locals memory later c_frame c) where
    local_is : (local : LocalBlock) → Contains locals local → IsLocal frame local.name local
    local_is local among = is_local s (length (blocks_of world)) (all_locals tree) local mean.names_differ among

    local_home_is : (local : LocalBlock) → Contains locals local → IsHome frame (record { place = Local local.name; ty = local.ty }) (home_of local)
    local_home_is local among = record { home_is = (local_is local among).found; ty_is = refl }

    home_there : (number : ℕ) (kept : Kept) → names.objects number ≡ Some kept → (home : Home) × IsHome frame kept home
    home_there number kept is = ⊎_elim static_case local_case (mean.kept number kept is)
      where
        static_case : IsStaticKept s kept → (home : Home) × IsHome frame kept home
        static_case static = (static.home, record { home_is = ap (home_in frame) static.place_is ∙ static.home_is; ty_is = static.ty_is })

        local_case : IsLocalKept tree kept → (home : Home) × IsHome frame kept home
        local_case it =
            let there = local_of (length (blocks_of world)) (all_locals tree) it.local it.among in
            let same : record { place = Local there.local.name; ty = there.local.ty } ≡ kept =
            ap (λ (x : List ℕ). record { place = Local x; ty = there.local.ty }) there.name_is ∙ ap (λ ty. record { place = Local it.local.name; ty = ty }) there.ty_is ∙ sym it.kept_is in
            (home_of there.local, subst (λ (k : Kept). IsHome frame k (home_of there.local)) same (local_home_is there.local there.among))

    -- the objects in scope
    object_there : (number : ℕ) (at : Ptr) → slot_of (c_frame ++ s.statics) number ≡ Some at → ObjectAgrees names later frame number at
    object_there number at is = ⊎_elim param_case static_case (slot_cases c_frame s.statics number at is)
      where
        param_case : (held : Slot) × Contains c_frame held × (held.object ≡ number) × (record { block = held.block; offset = 0 } ≡ at) → ObjectAgrees names later frame number at
        param_case (held, among, object_is, at_is) =
            let there = progress.slots held among in
            record {
              kept = record { place = Local there.local.name; ty = there.local.ty };
              kept_is = subst (λ (n : ℕ). names.objects n ≡ Some (record { place = Local there.local.name; ty = there.local.ty })) object_is there.kept_is;
              home = home_of there.local;
              is_home = local_home_is there.local there.among;
              image = subst (λ (p : Ptr). image_of later p.block ≡ Some there.local.block) at_is there.image;
            }

        static_case : slot_of s.statics number ≡ Some at → ObjectAgrees names later frame number at
        static_case found =
            let agrees = program.statics number at found in
            let kept = mean.statics number agrees.path agrees.path_is in
            let home = home_there number kept.0 kept.1 in
            let home_is : home_in frame kept.0.place ≡ Some agrees.home = ap (home_in frame) kept.2 ∙ agrees.home_is in
            let same : agrees.home ≡ home.0 = (let other = home.1.home_is in cc) in
            record {
              kept = kept.0;
              kept_is = kept.1;
              home = home.0;
              is_home = home.1;
              image = progress.keeps.extends.blocks at.block home.0.block (agrees.image ∙ ap (λ (h : Home). Some h.block) same);
            }

    -- what has a local as its image is a parameter's object
    pub owned_there : (number : ℕ) (local : LocalBlock) → Contains locals local → image_of later number ≡ Some local.block → IsOwned names c_frame number local
    owned_there number local among is = ⊎_elim (λ (old : image_of images number ≡ Some local.block). absurd (no_old_image s names images place c_world world locals memory has local among number old)) param_case (progress.images_are number local.block is)
      where
        param_case : (held : Slot) × Contains c_frame held × (held.block ≡ number) → IsOwned names c_frame number local
        param_case (held, in_scope, block_is) =
            let there = progress.slots held in_scope in
            let found : image_of later number ≡ Some there.local.block = subst (λ (n : ℕ). image_of later n ≡ Some there.local.block) block_is there.image in
            let same_block : there.local.block ≡ local.block = cc in
            let same : there.local ≡ local = has.single there.local local there.among among same_block in
            record {
              slot = held;
              in_scope = in_scope;
              block_is = block_is;
              kept = record { place = Local there.local.name; ty = there.local.ty };
              kept_is = there.kept_is;
              place_is = ap (λ (l : LocalBlock). Local l.name) same;
            }

    lives_there : (local : LocalBlock) → Contains locals local → LocalLives s.modules entered local
    lives_there local among =
        let lays = has.lays local among in
        record { block = lays.block; live = lays.live; laid = lays.laid; laid_is = lays.laid_is; size = lays.size; align = lays.align; unlisted = by (is_listed local.block world.held.heap) refl }
      where
        by : (listed : Bool) → is_listed local.block world.held.heap ≡ listed → listed ≡ false
        by false is = refl
        by true is = let made = has.start.held.heaps.made local.block is in let since = has.since local among in absurd (omega (arith, made, since))

    temporary_there : (number : ℕ) (it : KeptTemporary) → names.temporaries number ≡ Some it → TemporaryAgrees later frame it
    temporary_there number it is =
        let tree_local : LocalTree = record { name = it.name; ty = it.ty } in
        let there = local_of (length (blocks_of world)) (all_locals tree) tree_local (Contains-append_right tree.params tree.locals tree_local (mean.temporaries number it is)) in
        record {
          local = there.local;
          is_local = subst (λ (x : List ℕ). IsLocal frame x there.local) there.name_is (local_is there.local there.among);
          ty_is = there.ty_is;
          no_image = λ block image.
              let owned = owned_there block there.local there.among image in
              has.apart.both owned.slot.object number owned.kept it owned.kept_is is (owned.place_is ∙ ap Local there.name_is);
        }

    zeros_there : (number : ℕ) (it : KeptTemporary) → names.zeros number ≡ Some it → HoldsZeros later entered frame it
    zeros_there number it is =
        let there = has.zeros number it is in
        record {
          local = there.local;
          is_local = subst (λ (x : List ℕ). IsLocal frame x there.local) there.name_is (local_is there.local there.among);
          ty_is = there.ty_is;
          block = there.block;
          live = there.live;
          cells = there.cells;
          no_image = λ block image.
              let owned = owned_there block there.local there.among image in
              has.apart.zero owned.slot.object number owned.kept it owned.kept_is is (owned.place_is ∙ ap Local there.name_is);
        }

    frames_there : FramesAgree s names later c_frame frame c entered
    frames_there = record {
      modules = refl;
      bodies = refl;
      homes = home_there;
      objects = object_there;
      owned = λ number local among living image. owned_there number local among image;
      lives = lives_there;
      apart = has.single;
      temporaries = temporary_there;
    }

    pub entry_meets : map (λ (one_slot : Slot). one_slot.object) c_frame ≡ one.params → ResultAgrees (length (blocks_of world)) later entered frame (result_laid s one) names.result place →
        EntryMeets s one names images place c_world world c_frame c (record { locals = locals; flow = normal }) entered
    entry_meets params_are result = record {
      later = later;
      flow_is = refl;
      params_are = params_are;
      inside = record {
        program = program_stays s images later progress.keeps.extends program;
        stays = progress.keeps;
        worlds = progress.stands;
        frames = frames_there;
        slots = λ held among. (progress.slots held among).since;
        locals = has.since;
        result = result;
        zeros = zeros_there;
        scope = record { memory = progress.typed; owned = progress.owned };
      };
    }
