-- The frame of the written function agrees with that of its program.
use Rattle.std.proofs.Common.{◌≡◌, ◌≢◌, ℕ, zero, suc, ◌+◌, ◌<◌, ◌≤◌, Bool, true, false, cond, ◌&&◌, eqb, ◌⊎◌, inl, inr, List, [], ◌∷◌, ◌++◌, length, map, get_or, Some, bytes_eq, refl, sym, ap, subst, ◌∙◌, arith}
use Rattle.std.specs.Prelude.{All, IsSome, nat_eq, not}
use Rattle.std.proofs.lemmas.Bool.Decides.{eqb_tells}
use Rattle.std.specs.List.{list_all, list_any, IsDistinct, AllByRecursion}
use Rattle.std.proofs.lemmas.Cmp.{nat_list_eq_equiv}
use Rattle.std.proofs.lemmas.List.Elements.{All-weaker}
use Rattle.straight_core.specs.Linked.{IsTypedOuter, IsOpaque}
use Rattle.straight_core.specs.Trees.{CTyForm, void, int, function, form_of_type, CObject, COuter, CFun, CProgram}
use Rattle.straight_core.specs.Typing.{object_with, outer_with}
use Rattle.straight_mean.proofs.Statics.{statics_begin}
use Rattle.straight_mean.specs.Laws.{in_blocks_from}
use Rattle.straight_mean.specs.Operands.{Frame as CFrame, designates, designated}
use Rattle.straight_mean.specs.Sound.{AreInScope}
use Rattle.straight_mean.specs.State.{statics_in}
use Rattle.straight_lift.specs.Agrees.{FramesAgree, HasTemporaries, NamesObject, NamesFunction, IsOuterOf}
use Rattle.straight_lift.specs.Lifted.{Names}
use Rattle.straight_lift.specs.StandsFor.{Images}
use Rattle.mem_bytes.specs.Memory.{Blocks, live_block}
use Rattle.mem_bytes.specs.declared.value.Ptr.{Ptr}
use Rattle.straight_rust_mean.specs.Functions.{zeroed}
use Rattle.straight_rust_mean.specs.Items.{own, callee_at, local_spot, static_spot, statics_of}
use Rattle.straight_rust_mean.specs.Run.{Bodies, Frame}
use Rattle.straight_rust_mean.specs.World.{World}
use Rattle.straight_rust_tree.specs.Names.{is_digit, is_word_byte, is_word, bare_name}
use Rattle.straight_rust_tree.specs.Tree.{i32, LocalTree, CrateTree}
use Rattle.straight_whole.specs.Calls.{calls_in_stmt, functions_of}
use Rattle.straight_whole.specs.CrateOf.{names_of, name_of_object, name_of_outer, outer_of, declared_outer, local_of, main_of_body, initialiser_of, crate_of}
use Rattle.straight_whole.specs.Items.{name_or_empty}
use Rattle.straight_whole.specs.Named.{IsKept, AreNamesKept, AreFresh}
use Rattle.straight_whole.specs.Straight.{IsPlainObject, IsStraight}
use Rattle.straight_whole.proofs.Lookups.{statics_are, callee_is, found_in, found_outer, number_found}
use Rattle.straight_whole.proofs.Starts.{own_images, own_image, image_is, block_within}
use Rattle.straight_whole.proofs.TypedLift.{outer_found}
use Rattle.straight_whole.proofs.TypedNames.{names_apart}
use Rattle.straight_whole.proofs.TypedScope.{called}

-- ---- temporaries

-- a name of a list isn't the first one's
other_name : (first : List ℕ) (others : List (List ℕ)) (number : ℕ) → AllByRecursion (λ name. bytes_eq first name ≡ false) others → number < length others → bytes_eq first (get_or others number []) ≡ false
other_name first [] number all is = absurd (omega arith)
other_name first (next ∷ more) zero all is = all.0
other_name first (next ∷ more) (suc number) all is = other_name first more number all.1 (omega (arith, is))

-- a local of a list has the block with its number
local_at : (start : ℕ) (names : List (List ℕ)) (number : ℕ) → IsDistinct bytes_eq names → number < length names →
    local_spot start (get_or names number []) (map local_of names) ≡ Some (record { block = start + number; ty = i32 })
unfolding IsDistinct
local_at start [] number distinct is = absurd (omega arith)
local_at start (first ∷ others) zero distinct is = rw (nat_list_eq_equiv.refl first) (ap (λ block. Some (record { block = block; ty = i32 })) (omega arith))
local_at start (first ∷ others) (suc number) distinct is =
    rw (other_name first others number distinct.0 (omega (arith, is)))
    (local_at (start + 1) others number distinct.1 (omega (arith, is)) ∙ ap (λ block. Some (record { block = block; ty = i32 })) (omega arith))

-- blocks behind others
behind_others : (memory blocks : Blocks) (number : ℕ) → live_block (memory ++ blocks) (length memory + number) ≡ live_block blocks number
behind_others [] blocks number = ap (live_block blocks) (omega arith)
behind_others (one ∷ more) blocks number =
    let next : suc (length more) + number ≡ suc (length more + number) = omega arith in
    ap (live_block (one ∷ (more ++ blocks))) next ∙ behind_others more blocks number

zeroed_at : (names : List (List ℕ)) (number : ℕ) → number < length names → live_block (map (λ local. zeroed local.ty) (map local_of names)) number ≡ zeroed i32
zeroed_at [] number is = absurd (omega arith)
zeroed_at (first ∷ others) zero is = refl
zeroed_at (first ∷ others) (suc number) is = zeroed_at others number (omega (arith, is))

pub temporaries_begin : (frame : Frame) (temporaries : List (List ℕ)) (world : World) → frame.first ≡ length world.memory →
    HasTemporaries frame (length temporaries) (record world { memory = world.memory ++ map (λ local. zeroed local.ty) (map local_of temporaries) })
temporaries_begin frame temporaries world first number is =
    let live : live_block (world.memory ++ map (λ (local : LocalTree). zeroed local.ty) (map local_of temporaries)) (frame.first + number) ≡ zeroed i32 =
    ap (λ start. live_block (world.memory ++ map (λ (local : LocalTree). zeroed local.ty) (map local_of temporaries)) (start + number)) first
    ∙ behind_others world.memory (map (λ local. zeroed local.ty) (map local_of temporaries)) number ∙ zeroed_at temporaries number is in
    record { block = _; live = live; align = refl; size = refl }

-- ---- functions

-- a name of C isn't a raw identifier
no_hash : (byte : ℕ) → is_word_byte byte ≡ true → nat_eq 35 byte ≡ false
no_hash byte is = by_test (eqb_tells 35 byte)
  where
    hash_is_none : is_word_byte 35 ≡ true → nat_eq 35 byte ≡ false
    hash_is_none e = cc

    by_test : ((eqb 35 byte ≡ true) × (35 ≡ byte)) ⊎ ((eqb 35 byte ≡ false) × (35 ≢ byte)) → nat_eq 35 byte ≡ false
    by_test (inl (_, same)) = hash_is_none (ap is_word_byte same ∙ is)
    by_test (inr (different, _)) = different

bare_is : (name : List ℕ) → is_word name ≡ true → bare_name name ≡ name
bare_is [] is = refl
bare_is (first ∷ []) is = ap (λ test. cond test [] (first ∷ [])) (and_none (nat_eq 114 first))
  where
    and_none : (test : Bool) → (test && false) ≡ false
    and_none true = refl
    and_none false = refl
bare_is (first ∷ second ∷ rest) is =
    ap (λ test. cond test rest (first ∷ second ∷ rest)) (none (nat_eq 114 first) (nat_eq 35 second) (no_hash second (second_byte (not (is_digit first)) (is_word_byte first) (is_word_byte second) (list_all is_word_byte rest) is)))
  where
    second_byte : (digit one two more : Bool) → (digit && (one && (two && more))) ≡ true → two ≡ true
    second_byte true true true more e = refl
    second_byte true true false more e = cc
    second_byte true false two more e = cc
    second_byte false one two more e = cc

    none : (a b : Bool) → b ≡ false → (a && (b && true)) ≡ false
    none true b e = rw e refl
    none false b e = refl

outer_is : (one : COuter) (form : CTyForm) → IsOpaque form → is_word one.name ≡ true → IsOuterOf one form (declared_outer one.name form)
outer_is one (function result params variadic) opaque word = (bare_is one.name word, refl, refl, refl)
outer_is one void opaque word = absurd opaque
outer_is one int opaque word = absurd opaque

-- ---- the frame

module _ (program : CProgram) (straight : IsStraight program) (home : List ℕ) (temporaries : List (List ℕ)) (kept : AreNamesKept program) (fresh : AreFresh program straight.main.body temporaries) where
  abbrev pub whole : CrateTree
  whole = crate_of program straight.main.body home temporaries

  abbrev pub names : Names
  names = names_of program home temporaries

  abbrev pub images : Images
  images = own_images program.objects

  abbrev pub c_frame : CFrame
  c_frame = in_blocks_from 0 program.objects

  -- the functions that are called
  abbrev pub declared : ℕ → Bool
  declared number = calls_in_stmt number straight.main.body

  abbrev pub frame_at : ℕ → Bodies → Frame
  frame_at first bodies = record { whole = whole; locals = map local_of temporaries; first = first; bodies = bodies }

  all_static : All (λ one. IsSome one.puts) program.objects
  all_static = All-weaker IsPlainObject (λ (one : CObject). IsSome one.puts) (λ one is. is.defined) program.objects straight.objects

  pub statics_all : statics_in program.objects ≡ program.objects
  statics_all = statics_begin.all_static program.objects all_static

  pub in_scope : AreInScope program c_frame
  in_scope = subst (λ objects. AreInScope program (in_blocks_from 0 objects)) statics_all (statics_begin.in_scope program)

  -- an object in scope, with the name that it has in some list of names
  pub object_is : (other : List (List ℕ)) (frame : Frame) → frame.whole ≡ whole → (object : ℕ) (at : Ptr) → designated c_frame object ≡ designates at → NamesObject (names_of program home other) images frame object at
  object_is other frame same object at e =
      let found = found_in home 0 program.objects (names_apart program straight).first object at e in
      record {
        image = at.block;
        mapped = own_image program.objects at.block (let within = block_within 0 program.objects object at e in omega (arith, within));
        at_start = found.at_start;
        spot = ap (λ (tree : CrateTree). static_spot 0 home (name_of_object (object_with object program.objects)) (statics_of tree)) same
            ∙ ap (λ o. static_spot 0 home (name_of_object o) (statics_of whole)) found.is
            ∙ ap (static_spot 0 home (name_or_empty found.one.name)) (statics_are program straight.main.body home temporaries) ∙ found.spot;
      }

  function_is : (frame : Frame) → frame.whole ≡ whole → (callee : ℕ) (one : COuter) → declared callee ≡ true → outer_with callee program.externals ≡ Some one → NamesFunction names frame callee one
  function_is frame same callee one calls found =
      let passes : list_any (λ (f : CFun). calls_in_stmt one.function f.body) (functions_of program 0) ≡ true =
      ap (λ n. list_any (λ (f : CFun). calls_in_stmt n f.body) (functions_of program 0)) (number_found program.externals callee one found) ∙ called program straight callee calls in
      record {
        other = outer_of one;
        found = ap (λ (tree : CrateTree). callee_at tree home (name_of_outer (outer_with callee program.externals))) same
            ∙ ap (λ o. callee_at whole home (name_of_outer o)) found
            ∙ callee_is program straight.main.body home temporaries one.name
            ∙ found_outer (λ outer. list_any (λ (f : CFun). calls_in_stmt outer.function f.body) (functions_of program 0)) program.externals
            (own (main_of_body program straight.main.body home temporaries) ∷ own (initialiser_of program home) ∷ []) (names_apart program straight).second callee one found passes;
        is = outer_is one (form_of_type one.type) (outer_found IsTypedOuter program.externals callee one straight.linked.externals found).opaque (outer_found (λ one. IsKept one.name) program.externals callee one kept.externals found).word;
      }

  pub frames_agree : (frame : Frame) (limit : ℕ) → frame.whole ≡ whole → frame.locals ≡ map local_of temporaries → limit ≤ length temporaries → ((block number : ℕ) → number < limit → block < length program.objects → block ≢ frame.first + number) →
      FramesAgree program names images c_frame frame limit declared
  frames_agree frame limit same locals few apart = record {
    in_scope = in_scope;
    objects = object_is temporaries frame same;
    functions = function_is frame same;
    temporaries = λ number is. ap (local_spot frame.first (get_or temporaries number [])) locals ∙ local_at frame.first temporaries number fresh.differ (omega (arith, is, few));
    apart = λ block number is mapped. let found = image_is program.objects block _ mapped in apart block number is found.0 (sym found.1);
  }
