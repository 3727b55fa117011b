-- The local of an object of a block: it is found by its name, lives, and is laid out as the object is.
use Rattle.std.proofs.Common.{◌≡◌, ◌∙◌, ℕ, [], Some, refl, sym, ap}
use Rattle.std.proofs.lemmas.Slice.Eq.{bytes_eq-Decides}
use Rattle.cr_world.specs.World.{World}
use Rattle.cx_mean.specs.Operands.{Frame as CFrame}
use Rattle.build_flow_lives.specs.Standing.{Calling, Standing}
use Rattle.lift_calls.specs.Frames.{IsHome, home_in, LocalLives, IsLocal}
use Rattle.lift_exprs.specs.Names.{type_in}
use Rattle.rs_mean.specs.Layout.{laid_of}
use Rattle.rs_mean.specs.Lookups.{LocalBlock, Home, home_of, local_home}
use Rattle.rs_text.specs.Tree.{Place}
use Rattle.build_flow_parts.specs.Means.{home_in as expression_home, PartsMean, ObjectMeans}
use Rattle.build_flow_parts.proofs.After.{named}

pub record ItsLocal (a : Calling) (number : ℕ) (object : ObjectMeans a.s a.names a.of number) (world : World) : Type 0 where
  pub home : Home
  pub is_home : IsHome a.frame object.kept home
  pub local : LocalBlock
  pub is_local : IsLocal a.frame object.name local
  pub name_is : local.name ≡ object.name
  pub home_is : home_of local ≡ home
  pub type_is : local.ty ≡ type_in a.of.names object.one.type
  pub lives : LocalLives a.s.modules world local
  pub laid_same : lives.laid ≡ object.laid

pub its_local : (a : Calling) (units steps : ℕ) → PartsMean a.s a.names a.of units steps → (number : ℕ) (object : ObjectMeans a.s a.names a.of number) (slots : CFrame) (c_world world : World) → Standing a slots c_world world → ItsLocal a number object world
its_local a units steps mean number object slots c_world world here =
    let its_home = here.inside.frames.homes number object.kept object.kept_is in
    let found : local_home object.name a.frame.locals ≡ Some its_home.0 = ap (λ (place : Place). home_in a.frame place) (sym object.place_is) ∙ its_home.1.home_is in
    let its_name = named object.name a.frame.locals its_home.0 found in
    let type_is : its_name.local.ty ≡ type_in a.of.names object.one.type = ap (λ (home : Home). home.ty) its_name.home_is ∙ its_home.1.ty_is ∙ object.ty_is in
    let lives = here.inside.frames.lives its_name.local its_name.among in
    let laid = ap (λ ty. laid_of a.s.modules ty) (sym type_is) ∙ lives.laid_is in
    let its = (mean.means (expression_home a.s a.one []) refl).laid object.one.type object.laid object.laid_is in
    record {
      home = its_home.0;
      is_home = its_home.1;
      local = its_name.local;
      is_local = record { found = found ∙ ap Some (sym its_name.home_is); among = its_name.among };
      name_is = (bytes_eq-Decides its_name.local.name object.name).0 its_name.named;
      home_is = its_name.home_is;
      type_is = type_is;
      lives = lives;
      laid_same = cc (laid, its);
    }
