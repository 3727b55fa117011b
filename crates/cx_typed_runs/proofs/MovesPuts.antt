-- A declaration that is reached: its object is made anew, and its puts are next (ISO C99, 6.2.4p5, 6.7.8).
use Rattle.std.proofs.Common.{◌≡◌, refl, sym, ◌∙◌, subst, ℕ, List, ◌∷◌, ◌++◌, Option, Some, None, IfSome, IsSome, Result, Ok, Err, append_assoc}
use Rattle.std.specs.List.{Contains}
use Rattle.cr_base.specs.declared.refusal.Place.{Place}
use Rattle.cr_world.specs.Held.{Held, with_blocks}
use Rattle.cx_core.specs.Statements.{IsDeclared, IsBegin}
use Rattle.cx_core.specs.Trees.{CTy, type_of, place_of, put, CPuts, no_puts, more_puts, CObject, CFun, CProgram}
use Rattle.cx_core.specs.Typing.{CHome, ArePuts, object_with}
use Rattle.cx_mean.specs.Initialisers.{CCleared, object_cleared}
use Rattle.cx_mean.specs.Moves.{in_body, puts_it, values, goes_nowhere, CStand, stand, slots_in, slots_of_site, putting}
use Rattle.cx_mean.specs.Operands.{CWhy, Frame}
use Rattle.cx_mean.specs.Paths.{CLevel, CBottom, CSite, site_at}
use Rattle.cx_mean.specs.Settings.{setting_of}
use Rattle.mem_bytes.specs.Memory.{Blocks}
use Rattle.cx_typed_work.specs.Scenes.{IsAlive}
use Rattle.cx_typed_runs.proofs.MovesCleared.{Surely, IsClearedOf, object_made}
use Rattle.cx_typed_runs.proofs.MovesHere.{stands, stands_after}
use Rattle.cx_typed_runs.proofs.MovesNext.{home_program, block_of, next_stands}
use Rattle.cx_typed_runs.proofs.Owned.{owned_front, shapes_owned, shapes_held, object_number, alive_object}
use Rattle.cx_typed_runs.proofs.Scenes.{contains_front, contains_back, objects_append, inside_by_home, home_with, home_at_is}
use Rattle.cx_typed_runs.proofs.Standing.{IsHere, IsStandOf}
use Rattle.cx_typed_runs.specs.Sites.{objects_of, home_at, AreOwned}
use Rattle.cx_typed_runs.specs.States.{IsPuttingOf}

-- ---- the words in which a declaration is said

abbrev puts_of : Option CPuts → CPuts
puts_of None = no_puts
puts_of (Some puts) = puts

-- what follows once the object is made anew, as `doing` says it
abbrev pub declared : Place → ℕ → Option CPuts → CSite → Result CCleared CWhy → Blocks → CStand
declared place number puts site (Ok one) blocks = putting number (puts_of puts) (in_body site) one.blocks
declared place number puts site (Err why) blocks = stand (goes_nowhere place) blocks

module _ (program : CProgram) (one : CFun) (result : CTy) where
  -- ---- puts

  -- the next put of an object, or what follows behind its declaration
  pub puts_stand : (held : Held) (rest : Frame) (site : CSite) (object : CObject) (number : ℕ) (puts : CPuts) → IsHere program one result held rest site → object_with number program.objects ≡ Some object
      → Contains (home_at program one result site.levels).scope number → ArePuts (home_at program one result site.levels) object.type puts → IsStandOf program one result held rest (putting number puts (in_body site) held.blocks)
  puts_stand held rest site object number no_puts here found there are = next_stands program one result held rest site.levels site.bottom here
  puts_stand held rest site object number (more_puts (put spot type value) others) here found there are =
      let same = subst (λ (p : CProgram). object_with number p.objects ≡ Some object) (sym (home_program program one result site.levels)) found in
      let is = are.0.1 in
      let storing : IsPuttingOf (home_at program one result site.levels) (type_of value) (record { object = number; spot = spot; type = type; others = others; behind = in_body site }) =
      record { object = object; object_is = same; part = is.part; no_array = is.no_array; value_is = is.value_is; others = are.1 } in
      stands program one result held rest site (values value (puts_it (place_of value) (record { object = number; spot = spot; type = type; others = others; behind = in_body site }))) here
      (record { constant = tt; typed = are.0.0; fits = (here.at, storing, there) }) refl

  -- ---- declarations

  -- what may be named where an open statement has its parts
  home_there : (level : CLevel) (outer : List CLevel) (params : Frame) → objects_of params ≡ one.params → (block_of program one result level outer).home ≡ home_with program one (objects_of (slots_in (level ∷ outer) ++ params))
  home_there level outer params e = sym (inside_by_home level.rest level.form (block_of program one result level outer)) ∙ home_at_is program one result (level ∷ outer) params e

  all_puts : (home : CHome) (object : CObject) (puts : Option CPuts) → IsDeclared home puts object → ArePuts home object.type (puts_of puts)
  all_puts home object None is = tt
  all_puts home object (Some puts) is = is.stored.0

  some_puts : (home : CHome) (object : CObject) (puts : Option CPuts) → IsDeclared home puts object → IfSome puts (ArePuts home object.type)
  some_puts home object None is = tt
  some_puts home object (Some puts) is = is.stored.0

  -- the object was made anew, and its puts are next
  made_stands : (held : Held) (rest : Frame) (place : Place) (site : CSite) (object : CObject) (number : ℕ) (puts : Option CPuts) (found : Result CCleared CWhy) → IsHere program one result held rest site
      → Surely (λ (made : CCleared). IsClearedOf program held.blocks made.blocks) found → object_with number program.objects ≡ Some object → Contains (home_at program one result site.levels).scope number
      → ArePuts (home_at program one result site.levels) object.type (puts_of puts) → IsStandOf program one result held rest (declared place number puts site found held.blocks)
  made_stands held rest place site object number puts (Err why) here good found there are = absurd good
  made_stands held rest place site object number puts (Ok made) here good found there are =
      let after = with_blocks made.blocks held in
      stands_after program one result held rest made.blocks (putting number (puts_of puts) (in_body site) made.blocks)
      (puts_stand after rest site object number (puts_of puts) (record {
        linked = here.linked;
        at = here.at;
        memory = good.memory;
        allocated = shapes_held held.blocks made.blocks held.heap good.shapes here.allocated;
        owned = shapes_owned program held after (slots_of_site site ++ rest) refl good.shapes here.owned;
      }) found there are)

  -- a declaration of an object of the block around it
  pub begin_stands : (held : Held) (rest : Frame) (place : Place) (level : CLevel) (outer : List CLevel) (bottom : CBottom) (declares : List ℕ) (number : ℕ) (puts : Option CPuts)
      → IsHere program one result held rest (site_at (level ∷ outer) bottom) → ((other : ℕ) → Contains declares other → Contains (objects_of (slots_in outer)) other)
      → IsBegin (block_of program one result level outer).home declares number puts
      → IsStandOf program one result held rest (declared place number puts (site_at (level ∷ outer) bottom) (object_cleared (setting_of program) (slots_in (level ∷ outer)) number puts held.blocks) held.blocks)
  begin_stands held rest place level outer bottom declares number puts here in_scope is =
      by (object_with number program.objects) refl typed.1 typed.2 (alive_object program held (slots_in (level ∷ outer)) number (owned_front program held (slots_in (level ∷ outer)) (bottom.params ++ rest) owned) there)
    where
      home : CHome
      home = home_with program one (objects_of (slots_in (level ∷ outer) ++ bottom.params))

      typed : IsBegin home declares number puts
      typed = subst (λ h. IsBegin h declares number puts) (home_there level outer bottom.params here.at.params_are) is

      there : Contains (objects_of (slots_in (level ∷ outer))) number
      there = subst (λ list. Contains list number) (sym (objects_append level.slots (slots_in outer))) (contains_back (objects_of level.slots) (objects_of (slots_in outer)) number (in_scope number typed.0))

      owned : AreOwned program held (slots_in (level ∷ outer) ++ (bottom.params ++ rest))
      owned = subst (AreOwned program held) (append_assoc (slots_in (level ∷ outer)) bottom.params rest) here.owned

      same_home : home_at program one result (level ∷ outer) ≡ home
      same_home = home_at_is program one result (level ∷ outer) bottom.params here.at.params_are

      scope_has : Contains (home_at program one result (level ∷ outer)).scope number
      scope_has = subst (λ (h : CHome). Contains h.scope number) (sym same_home)
          (subst (λ list. Contains list number) (sym (objects_append (slots_in (level ∷ outer)) bottom.params)) (contains_front (objects_of (slots_in (level ∷ outer))) (objects_of bottom.params) number there))

      by : (found : Option CObject) → object_with number program.objects ≡ found → IsSome found → IfSome found (IsDeclared home puts) → IfSome found (IsAlive program (slots_in (level ∷ outer)) held.blocks)
          → IsStandOf program one result held rest (declared place number puts (site_at (level ∷ outer) bottom) (object_cleared (setting_of program) (slots_in (level ∷ outer)) number puts held.blocks) held.blocks)
      by None e some declared_is alive = cc (some)
      by (Some object) e some declared_is alive =
          let made = object_made home (slots_in (level ∷ outer)) held.blocks object puts here.linked.types here.memory alive (some_puts home object puts declared_is) in
          made_stands held rest place (site_at (level ∷ outer) bottom) object number puts (object_cleared (setting_of program) (slots_in (level ∷ outer)) number puts held.blocks) here
          (subst (λ n. Surely (λ (one : CCleared). IsClearedOf program held.blocks one.blocks) (object_cleared (setting_of program) (slots_in (level ∷ outer)) n puts held.blocks)) (object_number number program.objects object e) made)
          e scope_has (subst (λ (h : CHome). ArePuts h object.type (puts_of puts)) (sym same_home) (all_puts home object puts declared_is))
