-- What is known of declarations between their parts.
use Rattle.std.specs.Prelude.{ℕ, List, map}
use Rattle.cx_contents.specs.Contents.{CContent}
use Rattle.cx_core.specs.Views.{view_type, view_stmt}
use Rattle.cx_decl_steps.specs.Kept.{CHeadKept}
use Rattle.cx_decl_steps.specs.declared.begun.Begun.{Begun}
use Rattle.cx_decl_steps.specs.declared.heads.Head.{Head}
use Rattle.cx_decl_steps.specs.declared.meant.Meant.{Meant}
use Rattle.cx_init.specs.Views.{view_target}
use Rattle.cx_rules.specs.Declare.{CBegun}
use Rattle.cx_rules.specs.UnitWalk.{CMeant}

abbrev pub view_begun : List ℕ → Begun → CBegun
view_begun name one = record {
  name = name;
  type = view_type one.ty;
  linkage = one.linkage;
  clashes = one.clashes;
  object = one.object;
  is_static = one.is_static;
  target = view_target one.target;
  mention = one.mention;
}

-- what the end of its initialiser asks of it
abbrev pub content_of : CBegun → CContent
content_of begun = record {
  name = begun.name;
  linkage = begun.linkage;
  object = begun.object;
  is_static = begun.is_static;
  mention = begun.mention;
}

abbrev pub view_meant : Meant → CMeant
view_meant one = record { stmts = map view_stmt one.stmts; objects = one.objects }

abbrev pub view_head : Head → CHeadKept
view_head one = record {
  count = one.count;
  begins = one.begins;
  name = one.name;
  linkage = one.linkage;
  number = one.number;
  type = view_type one.ty;
  params = one.params;
}
